use Rattle.std.proofs.Common.{◌≡◌, ◌∙◌, length, get_or, ap, arith, subst, sym}
use Rattle.sk_hub.specs.Updaters.{UpdaterState}
use Rattle.sk_count.specs.Meets.{split_off, Hears, FirstHear}
use Rattle.sk_count.proofs.MeetingLaws.{split_none, split_more, none_heard, next_heard}
use Rattle.sk_count.proofs.meeting.give_notes.Goals as goal

pub updater-init : goal.updater-init
updater-init g c = (split_none _, none_heard _ _)

pub give_note-requires : goal.give_note-requires
give_note-requires g c = let d = c.index-updaters-place.result in record {
  table = ap (λ (u : UpdaterState). u.table) (c.updater.invariant.1.others c.updater.place d (omega arith)) ∙ c.requires.tables c.updater.place d c.updater-test.true ∙ sym (ap (λ t. t.table) c.updater.invariant.0);
}

pub updater-preserved : goal.updater-preserved
updater-preserved g c = let t = c.args.token.now in (
  c.give_note.ensures.token ∙ ap (split_off 1) c.updater.invariant.0 ∙ split_more c.updater.place t,
  next_heard t.view.seen c.args.updaters.now c.updater.updaters c.updater.place c.give_note.new.u c.index-updaters-place.result c.updater-test.true c.updater.invariant.1
      (subst (λ list. Hears list (get_or c.updater.updaters c.updater.place c.index-updaters-place.result) c.give_note.new.u) (ap (λ s. s.view.seen) c.updater.invariant.0) c.give_note.ensures.heard),
)

pub returns : goal.returns
returns g c = let last : c.updater.place ≡ length c.args.updaters.now = omega arith in record {
  token = subst (λ n. c.updater.token ≡ split_off n c.args.token.now) last c.updater.invariant.0;
  heard = subst (λ n. FirstHear c.args.token.now.view.seen c.args.updaters.now n c.updater.updaters) last c.updater.invariant.1;
}

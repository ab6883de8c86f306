use Rattle.std.proofs.Common.{ap, sym, subst, ◌∙◌}
use Rattle.sk_model.specs.Missing.{Begins}
use Rattle.sk_model.proofs.Missing.{begins_trans}
use Rattle.sk_machine.proofs.Coarse.{entries_by_begins}
use Rattle.sk_hub.specs.Updaters.{kept_of}
use Rattle.sk_hub_calls.proofs.tests.hub.callers.give_note.Goals as goal

pub meet-requires : goal.meet-requires
meet-requires g c = record { table = ap (λ r. r.table) c.note.ensures.note ∙ sym c.requires.table }

pub returns-clause-own : goal.returns-clause-own
returns-clause-own g c =
    let seen = c.args.token.now.view.seen in let u = c.args.u.now in
    begins_trans _ _ _ (entries_by_begins u.number seen c.meet.new.self.view.seen (subst (λ l. Begins l c.meet.new.self.view.seen) c.note.ensures.seen c.meet.ensures.heard)) c.meet.ensures.reply.1.own

pub returns-clause-seen : goal.returns-clause-seen
returns-clause-seen g c = subst (λ l. Begins l c.meet.new.self.view.seen) (c.note.ensures.seen ∙ ap (λ t. t.view.seen) (sym c.note.ensures.stays)) c.meet.ensures.heard

pub returns-clause-kept : goal.returns-clause-kept
returns-clause-kept g c = ap kept_of c.meet.ensures.reply.1.stays

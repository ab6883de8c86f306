use Rattle.std.proofs.Common.{◌∙◌, ap, sym, subst}
use Rattle.sk_model.specs.Missing.{Begins}
use Rattle.sk_count.proofs.MeetingLaws.{hears_note}
use Rattle.sk_count.proofs.meeting.give_note.Goals as goal

pub meet-requires : goal.meet-requires
meet-requires g c = record { table = ap (λ r. r.table) c.note.ensures.note ∙ sym c.requires.table }

pub returns-clause-heard : goal.returns-clause-heard
returns-clause-heard g c =
    hears_note g.C.Composable.packed_of c.args.token.now.view.seen c.note.result.view c.args.u.now c.meet.new.self c.meet.ensures.reply.0 c.meet.ensures.reply.1 c.meet.ensures.seen
    (subst (λ l. Begins l c.meet.new.self.view.seen) c.note.ensures.seen c.meet.ensures.heard) c.meet.ensures.sized

use Rattle.std.proofs.Common.{[], ◌∷◌, ap, subst, ◌∙◌, append_assoc}
use Rattle.sk_model.specs.Missing.{Begins}
use Rattle.sk_model.proofs.Missing.{begins_trans}
use Rattle.sk_machine.specs.declared.views.Move.TheVariants.{Join, Ask}
use Rattle.sk_gate.specs.Views.{known_of, size_of}
use Rattle.sk_gate.proofs.Merged.{whole_second}
use Rattle.sk_hub.specs.Updaters.{handed_of, base_of}
use Rattle.sk_hub.proofs.Kept.{known_size_is}
use Rattle.sk_count.proofs.MeetingLaws.{known_size_first, longer_nothing}
use Rattle.sk_count.proofs.meeting.meet.Goals as goal

pub returns-clause-met : goal.returns-clause-met
returns-clause-met g c =
    let u = c.args.u.now in let t = c.args.token.now.view in let n = c.note.result.view in let w = c.meet.new.self.view in let reply = c.meet.ensures.reply in record {
      goes = record {
        table = c.meet.ensures.table;
        numbers = ap (λ v. v.numbers) reply.1.stays;
        name = ap (λ v. v.name) reply.1.stays;
        sized = c.meet.ensures.sized;
        seen = c.meet.ensures.seen;
        steps = (Join ∷ Ask reply.0 ∷ [], ap (λ v. v.steps) reply.1.stays ∙ append_assoc t.steps (Join ∷ []) (Ask reply.0 ∷ []));
      };
      based = begins_trans (base_of u) u.view.seen w.seen c.number-number.ensures.whole.view.based (subst (λ l. Begins l w.seen) c.note.ensures.seen c.meet.ensures.heard);
      fill = c.number-number.ensures.whole.fill;
      known = c.meet.ensures.known u.number ∙ whole_second (known_of t u.number) (known_of n u.number) (handed_of u) c.note.ensures.known c.requires.may.known;
      others = λ i other. c.meet.ensures.known i ∙ longer_nothing (known_of t i) (known_of n i) (c.note.ensures.others i other);
      size = c.meet.ensures.sizes u.number ∙ known_size_is (size_of t u.number) (size_of n u.number) u.size c.requires.may.size c.note.ensures.size;
      sizes = λ i other. c.meet.ensures.sizes i ∙ known_size_first (size_of t i) (size_of n i) (c.note.ensures.sizes i other);
      steps = (reply.0, ap (λ v. v.steps) reply.1.stays ∙ append_assoc t.steps (Join ∷ []) (Ask reply.0 ∷ []));
    }

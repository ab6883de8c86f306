use Rattle.std.proofs.Common.{◌≡◌, All, ap, sym, subst, ◌∙◌}
use Rattle.sk_model.specs.Entries.{entries_by}
use Rattle.sk_model.specs.Missing.{LacksAtMost}
use Rattle.sk_machine.specs.Coarse.{IsEntry}
use Rattle.sk_gate.specs.Views.{known_of, size_of}
use Rattle.sk_gate.proofs.Merged.{whole_second}
use Rattle.sk_hub.specs.Updaters.{handed_of}
use Rattle.sk_hub.proofs.Kept.{met_lacks, known_size_is}
use Rattle.sk_hub_calls.proofs.tests.hub.callers.meet_and_ask.Goals as goal

pub returns-clause-lacks : goal.returns-clause-lacks
returns-clause-lacks g c =
    let u = c.args.u.now in let t = c.args.token.now.view in let n = c.note.result.view in let met = c.meet.new.self.view in let asked = c.ask.new.self.view in let i = u.number in
    let known : known_of met i ≡ handed_of u = c.meet.ensures.known i ∙ whole_second (known_of t i) (known_of n i) (handed_of u) c.note.ensures.known c.requires.known in
    let size : size_of met i ≡ u.size = c.meet.ensures.sizes i ∙ known_size_is (size_of t i) (size_of n i) u.size c.requires.size c.note.ensures.size in
    met_lacks (known_of met i) (handed_of u) u.fill (entries_by i asked.seen) u.size known c.number-number.ensures.whole.fill
    (λ some. subst (λ b. LacksAtMost (known_of met i) (entries_by i asked.seen) b) size (c.ask.ensures.reply.lacks i some))

pub returns-clause-word : goal.returns-clause-word
returns-clause-word g c = c.ask.ensures.reply.value ∙ ap (λ z. g.C.Composable.packed_of z c.ask.new.self.view.seen) (sym (ap (λ v. v.numbers) c.ask.ensures.reply.stays))

pub returns-clause-entries : goal.returns-clause-entries
returns-clause-entries g c = subst (λ n. All (IsEntry n) c.ask.new.self.view.seen) c.meet.ensures.sized c.ask.ensures.reply.entries

pub returns-clause-known : goal.returns-clause-known
returns-clause-known g c =
    let u = c.args.u.now in let t = c.args.token.now.view in let n = c.note.result.view in let i = u.number in
    ap (λ v. known_of v i) c.ask.ensures.reply.stays ∙ c.meet.ensures.known i ∙ whole_second (known_of t i) (known_of n i) (handed_of u) c.note.ensures.known c.requires.known

pub returns-clause-size : goal.returns-clause-size
returns-clause-size g c =
    let u = c.args.u.now in let t = c.args.token.now.view in let n = c.note.result.view in let i = u.number in
    ap (λ v. size_of v i) c.ask.ensures.reply.stays ∙ c.meet.ensures.sizes i ∙ known_size_is (size_of t i) (size_of n i) u.size c.requires.size c.note.ensures.size

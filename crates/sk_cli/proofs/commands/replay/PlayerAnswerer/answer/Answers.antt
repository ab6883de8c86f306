use Rattle.std.proofs.Common.{◌≡◌, ◌++◌, ℕ, List, ap, ◌∙◌}
use Rattle.sk_cli.specs.commands.Replay.{answer_line}
use Rattle.sk_cli.proofs.Replaying.{play_answers}
use Rattle.sk_cli.proofs.commands.replay.PlayerAnswerer.answer.Goals as goal

pub returns-clause-answers : goal.returns-clause-answers
returns-clause-answers c = λ said.
    let line : c.deref.result.now ≡ answer_line c.in-Some.answer = c.deref.ensures.value ∙ c.in_ok-set_line.ensures in
    let text : c.extend_from_slice.new.self.items ≡ c.args.text.now.items ++ answer_line c.in-Some.answer = c.in_ok-extend_from_slice.ensures.items ∙ ap (λ (t : List ℕ). c.args.text.now.items ++ t) line in
    play_answers c.args.self.now.state c.play.new.state c.args.line.now c.in-Some.answer c.args.text.now.items c.extend_from_slice.new.self.items c.in-Some.ensures.answer c.play.ensures.sketch text

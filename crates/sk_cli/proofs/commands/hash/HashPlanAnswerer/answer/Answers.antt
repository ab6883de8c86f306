use Rattle.std.proofs.Common.{◌≡◌, ◌<◌, ◌∷◌, [], ℕ, length, sym, ap, ◌∙◌, append-nil, rules}
use Rattle.sk_lines.specs.Hashes.{hash_line}
use Rattle.sk_cli.specs.commands.Hash.{hash_text}
use Rattle.sk_cli.proofs.Hashing.{hash_text_one, hash_text_empty, hash_answers}
use Rattle.sk_cli.proofs.commands.hash.HashPlanAnswerer.answer.Goals as goal

pub returns-then-is_empty-clause-answers : goal.returns-then-is_empty-clause-answers
returns-then-is_empty-clause-answers c = λ said.
    let none : length c.args.line.now ≡ 0 = search rules in
    hash_answers c.args.self.now.seed c.args.line.now [] c.args.text.now.items c.args.text.now.items (sym (hash_text_empty c.args.self.now.seed c.args.line.now none)) (sym (append-nil c.args.text.now.items))

pub returns-clause-answers : goal.returns-clause-answers
returns-clause-answers c = λ said.
    let some : 0 < length c.args.line.now = search rules in
    let text : c.hash_line.result ≡ hash_text c.args.self.now.seed (c.args.line.now ∷ []) =
    c.hash_line.ensures ∙ ap (λ (h : ℕ). hash_line h) c.hash63.ensures.value ∙ sym (hash_text_one c.args.self.now.seed c.args.line.now some) in
    hash_answers c.args.self.now.seed c.args.line.now c.hash_line.result c.args.text.now.items c.extend_from_slice.new.self.items text c.in_ok-extend_from_slice.ensures.items

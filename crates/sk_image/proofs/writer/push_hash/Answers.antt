use Rattle.std.proofs.Common.{◌≡◌, ◌≤◌, ◌-◌, ◌+◌, ℕ, List, ◌++◌, take, drop, codes, sym, ap, ◌∙◌, arith, length-append}
use Rattle.std.proofs.lemmas.List.{drop-append-le, take_all}
use Rattle.sk_lines.specs.Hashes.{hex}
use Rattle.sk_lines.proofs.Hexadecimal.{hex_last, length_hex}
use Rattle.sk_image.proofs.writer.push_hash.Goals as goal

-- the last of a longer line are a shorter one
last_of_line : (width hash : ℕ) (line : List ℕ) → width ≤ 16 → line ≡ hex 16 hash ++ codes "\n" → take (17 - (16 - width)) (drop (16 - width) line) ≡ hex width hash ++ codes "\n"
last_of_line width hash line few is =
    let all : (16 - width) + width ≡ 16 = omega (arith, few) in
    let rest : drop (16 - width) line ≡ hex width hash ++ codes "\n" =
    ap (λ (l : List ℕ). drop (16 - width) l) is
    ∙ drop-append-le (16 - width) (hex 16 hash) (codes "\n") (omega (arith, length_hex 16 hash))
    ∙ ap (λ (l : List ℕ). l ++ codes "\n") (ap (λ (w : ℕ). drop (16 - width) (hex w hash)) (sym all) ∙ hex_last width (16 - width) hash) in
    ap (λ (l : List ℕ). take (17 - (16 - width)) l) rest
    ∙ take_all (17 - (16 - width)) (hex width hash ++ codes "\n") (omega (arith, few, length-append (hex width hash) (codes "\n"), length_hex width hash))

pub returns : goal.returns
returns c =
    c.in_ok-extend_from_slice.ensures.items
    ∙ ap (λ (l : List ℕ). c.args.text.now.items ++ l) (last_of_line c.digits_of.result c.args.hash c.hash_line-line.result c.digits_of.ensures.most c.hash_line-line.ensures)
    ∙ ap (λ (w : ℕ). c.args.text.now.items ++ (hex w c.args.hash ++ codes "\n")) c.digits_of.ensures.value

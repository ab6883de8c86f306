use Rattle.std.proofs.Common.{◌≡◌, ℕ, ◌+◌, ◌-◌, ◌<◌, List, [], ◌∷◌, ◌++◌, length, ap, sym, ◌∙◌, arith, eqb-true}
use Rattle.sk_make.specs.Made.{made_number, numbers_from, text_of, line_of, Turn}
use Rattle.sk_make.proofs.Texts.{text_begins}
use Rattle.sk_make.proofs.source.refill.Goals as goal

-- a line more was made of what was due
line_made : (line line' : List ℕ) (turn turn' : Turn) (due number : ℕ) → length line ≡ 0 → 0 < due → number ≡ made_number turn.key turn.next → line' ≡ line_of number → turn' ≡ record turn { next = turn.next + 1 } →
    line' ++ text_of (numbers_from turn'.key turn'.next (due - 1)) ≡ line ++ text_of (numbers_from turn.key turn.next due)
line_made (x ∷ line) line' turn turn' due number none some is made next = absurd (omega (arith, none))
line_made [] line' turn turn' due number none some is made next =
    ap (λ (l : List ℕ). l ++ text_of (numbers_from turn'.key turn'.next (due - 1))) (made ∙ ap line_of is)
    ∙ ap (λ (t : Turn). line_of (made_number turn.key turn.next) ++ text_of (numbers_from t.key t.next (due - 1))) next
    ∙ sym (text_begins turn.key turn.next due (due - 1) (omega (arith, some)))

pub returns-then-due-gt0-clause-text : goal.returns-then-due-gt0-clause-text
returns-then-due-gt0-clause-text c = let some = c.if-due-gt0.true in
    line_made c.args.line.now c.set.new.self c.args.numbers.now c.make.new.self c.args.due.now c.make.result (eqb-true (length c.args.line.now) 0 (sym c.is_empty.ensures ∙ c.if-is_empty.true)) some c.make.ensures.number c.set.ensures.line c.make.ensures.next

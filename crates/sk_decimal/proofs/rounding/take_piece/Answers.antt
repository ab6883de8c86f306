use Rattle.std.proofs.Common.{◌≡◌, ℕ, ◌+◌, ◌-◌, ◌<◌, ◌≤◌, Bool, true, false, List, [], ◌∷◌, ◌++◌, length, take, fold, inl, inr, subst, sym, ap, ◌∙◌, arith, length-append, length-take}
use Rattle.std.specs.Prelude.{not}
use Rattle.std.proofs.KnownBytes.{Appends-nil}
use Rattle.std.proofs.lemmas.Bool.{cases_Bool, ltb-true, ltb-false}
use Rattle.sk_decimal.specs.Rounded.{grown, longest_line, rounded_line, settled_of, whole_of}
use Rattle.sk_decimal.specs.Inside.{IsHeld}
use Rattle.sk_decimal.proofs.Parts.{on_ok, by_bytes, by_part}
use Rattle.sk_decimal.proofs.Passages as passages
use Rattle.sk_decimal.proofs.rounding.take_piece.Goals as goal

pub returns-then-must_pass-clause-held : goal.returns-then-must_pass-clause-held
returns-then-must_pass-clause-held g c = λ p held.
    let digits = c.args.digits in
    let piece = c.args.piece.now in
    let after = (fold (grown digits) p piece).piece in
    let long : longest_line < length p.piece + length piece = ltb-true _ _ (sym (c.must_pass.ensures.long p.piece held) ∙ c.if-must_pass.true) in
    let passes : IsHeld after [] (not c.ends_line.result) = elim (cases_Bool c.ends_line.result) [
      | inl ended ↦ subst (λ (b : Bool). IsHeld after [] (not b)) (sym ended) (passages.pass_ended_held p c.args.line.now c.args.passing.now held digits piece long (take (length piece - 1) piece) c.requires.piece.plain (c.ends_line.ensures.ended ended))
      | inr open_ ↦ subst (λ (b : Bool). IsHeld after [] (not b)) (sym open_) (passages.pass_open_held p c.args.line.now c.args.passing.now held digits piece long (c.ends_line.ensures.open open_))
    ] in
    on_ok c.pass_on.result (λ none. subst (λ (l : List ℕ). IsHeld after l (not c.ends_line.result)) (sym none) passes) c.pass_on.ensures.line

pub returns-then-must_pass-clause-ok : goal.returns-then-must_pass-clause-ok
returns-then-must_pass-clause-ok g c = λ p held.
    let digits = c.args.digits in
    let line = c.args.line.now in
    let piece = c.args.piece.now in
    let long : longest_line < length p.piece + length piece = ltb-true _ _ (sym (c.must_pass.ensures.long p.piece held) ∙ c.if-must_pass.true) in
    let is : settled_of (fold (grown digits) p piece) ≡ settled_of p ++ (line ++ piece) = elim (cases_Bool c.ends_line.result) [
      | inl ended ↦ passages.pass_ended p line c.args.passing.now held digits piece long (take (length piece - 1) piece) c.requires.piece.plain (c.ends_line.ensures.ended ended)
      | inr open_ ↦ passages.pass_open p line c.args.passing.now held digits piece long (c.ends_line.ensures.open open_)
    ] in
    by_bytes c.pass_on.result (g.O.Sink.written c.args.out.now) (g.O.Sink.written c.pass_on.new.out) (line ++ piece) _ _ is c.pass_on.ensures.ok

pub returns-then-must_pass-clause-err : goal.returns-then-must_pass-clause-err
returns-then-must_pass-clause-err g c = λ p held.
    let digits = c.args.digits in
    let line = c.args.line.now in
    let piece = c.args.piece.now in
    let long : longest_line < length p.piece + length piece = ltb-true _ _ (sym (c.must_pass.ensures.long p.piece held) ∙ c.if-must_pass.true) in
    let is : whole_of (fold (grown digits) p piece) ≡ settled_of p ++ (line ++ piece) = elim (cases_Bool c.ends_line.result) [
      | inl ended ↦ passages.pass_ended_all p line c.args.passing.now held digits piece long (take (length piece - 1) piece) c.requires.piece.plain (c.ends_line.ensures.ended ended)
      | inr open_ ↦ passages.pass_open_all p line c.args.passing.now held digits piece long (c.ends_line.ensures.open open_)
    ] in
    by_part c.pass_on.result (g.O.Sink.written c.args.out.now) (g.O.Sink.written c.pass_on.new.out) (line ++ piece) _ _ is c.pass_on.ensures.err

pub push-requires : goal.push-requires
push-requires g c = omega (arith, c.must_pass.ensures.fits c.if-must_pass.false)

pub returns-then-not-ends_line-clause-held : goal.returns-then-not-ends_line-clause-held
returns-then-not-ends_line-clause-held g c = λ p held.
    let piece = c.args.piece.now in
    let short : length p.piece + length piece ≤ longest_line = ltb-false _ _ (sym (c.must_pass.ensures.long p.piece held) ∙ c.if-must_pass.false) in
    subst (λ (l : List ℕ). IsHeld (fold (grown c.args.digits) p piece).piece l c.args.passing.now) (sym c.push.ensures)
    (passages.keep_open_held p c.args.line.now c.args.passing.now held c.args.digits piece short (c.ends_line-2.ensures.open c.if-not-ends_line.true))

pub returns-then-not-ends_line-clause-ok : goal.returns-then-not-ends_line-clause-ok
returns-then-not-ends_line-clause-ok g c = λ p held.
    let piece = c.args.piece.now in
    let short : length p.piece + length piece ≤ longest_line = ltb-false _ _ (sym (c.must_pass.ensures.long p.piece held) ∙ c.if-must_pass.false) in
    ([], Appends-nil (g.O.Sink.written c.args.out.now), passages.keep_open p c.args.line.now c.args.passing.now held c.args.digits piece short (c.ends_line-2.ensures.open c.if-not-ends_line.true))

pub push-requires-2 : goal.push-requires-2
push-requires-2 g c = omega (arith, c.must_pass.ensures.fits c.if-must_pass.false, length-take (length c.args.piece.now - 1) c.args.piece.now)

pub end_line-requires-clause-short : goal.end_line-requires-clause-short
end_line-requires-clause-short g c =
    omega (
      arith,
      c.must_pass.ensures.fits c.if-must_pass.false,
      c.requires.piece.some,
      ap length c.push-2.ensures,
      length-append c.args.line.now (take (length c.args.piece.now - 1) c.args.piece.now),
      length-take (length c.args.piece.now - 1) c.args.piece.now,
    )

pub returns-clause-ok : goal.returns-clause-ok
returns-clause-ok g c = λ p held.
    let digits = c.args.digits in
    let line = c.args.line.now in
    let piece = c.args.piece.now in
    let body = take (length piece - 1) piece in
    let short : length p.piece + length piece ≤ longest_line = ltb-false _ _ (sym (c.must_pass.ensures.long p.piece held) ∙ c.if-must_pass.false) in
    let is = passages.keep_ended p line c.args.passing.now held digits piece short body c.requires.piece.plain (c.ends_line-2.ensures.ended c.if-not-ends_line.false)
    ∙ ap (λ (l : List ℕ). settled_of p ++ (rounded_line digits l ++ 10 ∷ [])) (sym c.push-2.ensures) in
    by_bytes c.end_line.result (g.O.Sink.written c.args.out.now) (g.O.Sink.written c.end_line.new.out) (rounded_line digits c.push-2.new.self ++ 10 ∷ []) _ _ is c.end_line.ensures.ok

pub returns-clause-err : goal.returns-clause-err
returns-clause-err g c = λ p held.
    let digits = c.args.digits in
    let line = c.args.line.now in
    let piece = c.args.piece.now in
    let body = take (length piece - 1) piece in
    let short : length p.piece + length piece ≤ longest_line = ltb-false _ _ (sym (c.must_pass.ensures.long p.piece held) ∙ c.if-must_pass.false) in
    let is = passages.keep_ended_all p line c.args.passing.now held digits piece short body c.requires.piece.plain (c.ends_line-2.ensures.ended c.if-not-ends_line.false)
    ∙ ap (λ (l : List ℕ). settled_of p ++ (rounded_line digits l ++ 10 ∷ [])) (sym c.push-2.ensures) in
    by_part c.end_line.result (g.O.Sink.written c.args.out.now) (g.O.Sink.written c.end_line.new.out) (rounded_line digits c.push-2.new.self ++ 10 ∷ []) _ _ is c.end_line.ensures.err

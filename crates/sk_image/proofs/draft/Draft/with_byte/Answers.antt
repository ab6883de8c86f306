use Rattle.std.proofs.Common.{◌≡◌, ◌≢◌, ◌+◌, ℕ, List, [], ◌∷◌, ◌++◌, length, Err, sym, ap, ◌∙◌, subst, arith}
use Rattle.std.proofs.lemmas.List.Elements.{All-nil, All-same}
use Rattle.std.proofs.lemmas.Result.{err_from_is_err_and}
use Rattle.sk_image.specs.Images.{joined}
use Rattle.sk_image.specs.Reading.{BeginAnImage}
use Rattle.sk_image.specs.Inside.{Holds, IsBadFrom}
use Rattle.sk_image.specs.declared.stop.ReadStop.{ReadStop}
use Rattle.sk_image.specs.declared.stop.ReadStop.TheVariants.{BadImage}
use Rattle.sk_image.proofs.Drafts.{after_lf, bad_at_lf, bad_when_long}
use Rattle.sk_image.proofs.draft.Draft.with_byte.Goals as goal

pub returns-in_err-part-clause-bad : goal.returns-in_err-part-clause-bad
returns-in_err-part-clause-bad c = let p = err_from_is_err_and c.from_residual.result c.from_residual.ensures.1 in rw (p.1, p.2) (λ n e text has.
    let same : c.in_err-part.field-0.0 ≡ BadImage n = cc in
    let bad = c.in_err-part.ensures.bad n (ap (λ (s : ReadStop). Err s) same) has.lines has.holds in
    subst (λ (b : ℕ). IsBadFrom n (text ++ b ∷ [])) (sym c.if-byte-eq10.true)
    (bad_at_lf c.args.self text has n bad.0 (subst (λ (l : List ℕ). ¬ BeginAnImage (has.lines ++ l ∷ [])) c.deref.ensures.value bad.1)))

pub returns-then-byte-eq10-clause-ok : goal.returns-then-byte-eq10-clause-ok
returns-then-byte-eq10-clause-ok c = λ text has.
    let line : c.deref.result.now ≡ c.args.self.line.items = c.deref.ensures.value in
    let holds = c.in_ok-part.ensures.ok has.lines has.holds in
    record {
      lines = has.lines ++ c.args.self.line.items ∷ [];
      holds = subst (λ (l : List ℕ). Holds c.in_ok-part.part (has.lines ++ l ∷ [])) line holds;
      split =
          ap (λ (b : ℕ). text ++ b ∷ []) c.if-byte-eq10.true ∙ after_lf has.lines c.args.self.line.items text has.split
          ∙ ap (λ (l : List ℕ). joined (has.lines ++ c.args.self.line.items ∷ []) ++ l) (sym c.clear.ensures.items);
      no_lf = All-same (λ byte. byte ≢ 10) c.clear.new.self.items [] c.clear.ensures.items (All-nil (λ byte. byte ≢ 10));
      within = omega (arith, ap (λ (l : List ℕ). length l) c.clear.ensures.items);
    }

pub returns-then-len-eq-MOST_LINE-clause-bad : goal.returns-then-len-eq-MOST_LINE-clause-bad
returns-then-len-eq-MOST_LINE-clause-bad c = λ n e text has.
    let number : c.next_line.result ≡ n = cc in
    let is : n ≡ length has.lines + 1 = sym number ∙ c.next_line.ensures has.lines has.holds in
    let full : length c.args.self.line.items ≡ 64 = omega (arith, c.if-len-eq-MOST_LINE.true, c.len.ensures, c.args.self.line.ok.0) in
    bad_when_long c.args.self text has n is c.args.byte c.if-byte-eq10.false full

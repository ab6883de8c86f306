-- How a reading of labelled lines ended, as an operator would say it.
use Rattle.std.proofs.Common.{◌≡◌, ◌<◌, ◌≤◌, ◌+◌, ℕ, suc, List, [], ◌∷◌, ◌++◌, length, drop, slice_index_or, Option, None, Some, IfSome, IfOk, Result, Ok, Err, inl, inr, sym, ap, ◌∙◌, arith, length-append, append_assoc}
use Rattle.std.specs.Bool.{⊤}
use Rattle.std.proofs.Math.Seq.{split_at}
use Rattle.sk_model.specs.Limits.{line_limit}
use Rattle.sk_model.specs.Lines.{lines_of}
use Rattle.sk_model.specs.Missing.{Begins}
use Rattle.sk_read.specs.Reads.{StopsAt}
use Rattle.sk_read.specs.Units.{IsSoundUpTo, IsLongBehind}
use Rattle.sk_read.specs.declared.units.Units.TheVariants.{Lines}
use Rattle.sk_read.proofs.ItemLaws.{front_is}
use Rattle.sk_read.proofs.LineEnds.{settled_so, settled_told}
use Rattle.sk_label.specs.Goes.{Setting, CountsLines, WroteSoFar, EndsBefore, ReadsTaken}
use Rattle.sk_label.specs.Rules.{Rules, IsBad, IsRefused, AreFine}
use Rattle.sk_label.specs.declared.fault.LabelFault.{LabelFault}
use Rattle.sk_label.specs.declared.fault.LabelFault.TheVariants.{OutOfMemory, ReadFault, WriteFault, LongLine, TooMuch, BadLine, Refused}
use Rattle.uses.specs.Said.{IsFirst, Blames, Says}

-- nothing is said
silent : (known : Option (List ℕ)) → IfSome known (λ text. ⊤)
silent None = tt
silent (Some text) = tt

both : (P Q : List ℕ → Type 0) (known : Option (List ℕ)) → IfSome known P → IfSome known Q → IfSome known (λ text. P text × Q text)
both P Q None p q = tt
both P Q (Some text) p q = (p, q)

-- a line that is too long stands after those before it
long_stands : (given lines : List (List ℕ)) → Begins given lines → length given < length lines → Begins (given ++ slice_index_or lines (length given) [] ∷ []) lines
long_stands given lines begins few =
    let line = slice_index_or lines (length given) [] in
    let rest = drop (suc (length given)) lines in
    (rest, split_at lines (length given) [] few ∙ ap (λ (l : List (List ℕ)). l ++ line ∷ rest) (front_is given lines begins) ∙ sym (append_assoc given (line ∷ []) rest))

module _ (rules : Rules) (most : ℕ) (old new : Setting) where
  -- it stopped at a line
  at_line : {last : ℕ} (n : ℕ) (Is : List (List ℕ) → List ℕ → Type 0)
      → StopsAt last Lines most (λ lines line. (n ≡ length lines + 1) × WroteSoFar rules old.written new.written lines × Is lines line) old.left new.left
      → IfSome old.left (λ text. IsFirst rules text n Is)
  at_line n Is stops =
      let off = stops.1 in
      let Found : List ℕ → Type 0 = λ text. Begins off.given (lines_of text) × (Begins (off.given ++ stops.0 ∷ []) (lines_of text) × IsSoundUpTo Lines (length off.given + 1) text) in
      let Wanted : List ℕ → Type 0 = λ text. IsFirst rules text n Is in
      settled_told Wanted old.left new.left off.taken off.consumed (settled_so Found Wanted new.left off.taken (λ text found. record {
        before = off.given;
        line = stops.0;
        begins = found.1.0;
        number = off.known.0;
        fine = off.known.1.fine;
        is = off.known.2;
      }) off.comes)

  blames : (last : ℕ) (f : LabelFault) → EndsBefore rules last most old new f → IfSome old.left (λ text. Blames rules most text f)
  blames last OutOfMemory off = silent old.left
  blames last ReadFault some = silent old.left
  blames last WriteFault stops = silent old.left
  blames last TooMuch some = settled_told (λ text. most ≤ length text) old.left new.left some.taken some.consumed
      (inl (λ later. omega (arith, some.size, length-append some.taken later)))
  blames last (BadLine n) stops = at_line n (λ before line. IsBad rules line) stops
  blames last (Refused n) stops = at_line n (IsRefused rules) stops
  blames last (LongLine n) off =
      let Found : List ℕ → Type 0 = λ text. Begins off.given (lines_of text) × ((n ≡ length off.given + 1) × IsLongBehind Lines (length off.given) text) in
      let Wanted : List ℕ → Type 0 = λ text. IsFirst rules text n (λ before line. line_limit < length line) in
      settled_told Wanted old.left new.left off.taken off.consumed (settled_so Found Wanted new.left off.taken (λ text found. record {
        before = off.given;
        line = slice_index_or (lines_of text) (length off.given) [];
        begins = long_stands off.given (lines_of text) found.0 found.1.1.0;
        number = found.1.0;
        fine = off.known.fine;
        is = found.1.1.2;
      }) off.comes)

  -- whatever it returns
  pub says : (last : ℕ) (Went : List (List ℕ) → Type 0) (result : Result ℕ LabelFault) → ReadsTaken rules last most Went old new result → IfOk result (CountsLines most old.left new.left) → IfSome old.left (λ text. Says rules most text result)
  says last Went (Ok n) reads counts =
      let all = reads.1 in
      both (λ text. n ≡ length (lines_of text)) (λ text. AreFine rules (lines_of text)) old.left
      (settled_told (λ text. n ≡ length (lines_of text)) old.left new.left counts.taken counts.consumed (inr (counts.end, counts.number)))
      (settled_told (λ text. AreFine rules (lines_of text)) old.left new.left all.taken all.consumed (inr (all.end, all.gave.0.fine)))
  says last Went (Err f) ends counts = blames _ f ends

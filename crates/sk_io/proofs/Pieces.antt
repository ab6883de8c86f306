-- What a read or a write of a piece does to the bytes as a whole. In goals `&xs[at..at + n]` is a
-- `take` of a `drop`.
use Rattle.std.proofs.Common.{◌≡◌, ℕ, ◌+◌, ◌-◌, List, [], ◌++◌, length, take, drop, Option, sym, ap, ◌∙◌, subst, arith, length-drop}
use Rattle.std.proofs.lemmas.List.{take_all, drop_all, drop-drop}
use Rattle.std.proofs.Math.Seq.{take-add}
use Rattle.std.specs.Io.KnownBytes.{Appends}
use Rattle.std.proofs.KnownBytes.{Appends-trans}

-- the n bytes given of those after a place, and then those that are left
pub given : (left bytes buf : List ℕ) (at n : ℕ) → left ≡ drop at bytes → left ≡ take n buf ++ drop n left → drop at bytes ≡ take n buf ++ drop (at + n) bytes
given left bytes buf at n is split =
    sym is ∙ split ∙ ap (λ (l : List ℕ). take n buf ++ l) (ap (drop n) is ∙ drop-drop n at bytes)

-- none is left after a place where there was none before it
pub none_left : (bytes : List ℕ) (at n : ℕ) → drop at bytes ≡ [] → drop (at + n) bytes ≡ []
none_left bytes at n end =
    let over : length (drop at bytes) ≡ 0 = ap length end in
    drop_all (at + n) bytes (omega (arith, over, length-drop at bytes))

-- a piece written after the earlier prefix
pub written_more : (a b c : Option (List ℕ)) (bytes : List ℕ) (at n : ℕ) → Appends a b (take at bytes) → Appends b c (take n (take (length bytes - at) (drop at bytes))) → Appends a c (take (at + n) bytes)
written_more a b c bytes at n before here =
    let rest : take (length bytes - at) (drop at bytes) ≡ drop at bytes = take_all _ _ (omega (arith, length-drop at bytes)) in
    let piece : Appends b c (take n (drop at bytes)) = subst (λ (l : List ℕ). Appends b c (take n l)) rest here in
    subst (Appends a c) (sym (take-add at n bytes)) (Appends-trans a b c (take at bytes) (take n (drop at bytes)) before piece)

-- Bytes that wait, and those of them that were sent.
use Rattle.std.proofs.Common.{◌≡◌, ℕ, ◌+◌, ◌-◌, List, ◌++◌, length, take, drop, Option, sym, ap, ◌∙◌, subst, arith, length-drop, take-append-drop}
use Rattle.std.proofs.lemmas.List.{take_all, drop-drop}
use Rattle.std.specs.Io.KnownBytes.{Appends, Keeps, append_known}
use Rattle.std.proofs.KnownBytes.{Keeps-trans, append_known-moved}

-- n bytes more of those after a place were sent
pub sent_more : (a b c : Option (List ℕ)) (waiting bytes : List ℕ) (at n : ℕ) → Keeps (append_known a waiting) (append_known b (drop at bytes)) → Appends b c (take n (take (length bytes - at) (drop at bytes))) → Keeps (append_known a waiting) (append_known c (drop (at + n) bytes))
sent_more a b c waiting bytes at n before here =
    let rest : take (length bytes - at) (drop at bytes) ≡ drop at bytes = take_all _ _ (omega (arith, length-drop at bytes)) in
    let piece : Appends b c (take n (drop at bytes)) = subst (λ (l : List ℕ). Appends b c (take n l)) rest here in
    let split : drop at bytes ≡ take n (drop at bytes) ++ drop (at + n) bytes =
    sym (take-append-drop n (drop at bytes)) ∙ ap (λ (l : List ℕ). take n (drop at bytes) ++ l) (drop-drop n at bytes) in
    Keeps-trans _ _ _ before (append_known-moved b c (take n (drop at bytes)) (drop (at + n) bytes) (drop at bytes) piece split)

-- What goes over a link, call by call.
use Rattle.std.proofs.Common.{◌≡◌, ℕ, ◌+◌, ◌-◌, List, [], ◌++◌, length, take, drop, Option, Some, None, IfSome, Result, Ok, Err, OnOk, OnErr, refl, sym, ap, ◌∙◌, subst, arith, append_assoc, append-nil, length-drop}
use Rattle.std.proofs.lemmas.List.{take_all, append_cancel_right}
use Rattle.std.proofs.Math.Seq.{take-add}
use Rattle.std.specs.Io.KnownBytes.{Consumes, Keeps, ReadConsumes}
use Rattle.sk_io.specs.Traffic.{Traffic, IsUntouched, Exchanges, Receives, SendsPart, left_of, text_of, sides_of}

-- nothing went over a link
pub exchanges_none : (a : Option Traffic) → Exchanges a a [] []
exchanges_none None = tt
exchanges_none (Some t) = record { left = refl; taken = sym (append-nil t.taken); written = sym (append-nil t.written) }

-- what went over it first, and what went over it then
pub exchanges_trans : (a b c : Option Traffic) (read sent more_read more_sent : List ℕ) → Exchanges a b read sent → Exchanges b c more_read more_sent → Exchanges a c (read ++ more_read) (sent ++ more_sent)
exchanges_trans None None None read sent more_read more_sent p q = tt
exchanges_trans None None (Some z) read sent more_read more_sent p q = absurd q
exchanges_trans None (Some y) c read sent more_read more_sent p q = absurd p
exchanges_trans (Some x) None c read sent more_read more_sent p q = absurd p
exchanges_trans (Some x) (Some y) None read sent more_read more_sent p q = absurd q
exchanges_trans (Some x) (Some y) (Some z) read sent more_read more_sent p q = record {
  left = p.left ∙ ap (λ (l : List ℕ). read ++ l) q.left ∙ sym (append_assoc read more_read z.left);
  taken = q.taken ∙ ap (λ (l : List ℕ). l ++ more_read) p.taken ∙ append_assoc x.taken read more_read;
  written = q.written ∙ ap (λ (l : List ℕ). l ++ more_sent) p.written ∙ append_assoc x.written sent more_sent;
}

-- what was read of it, and what was written on it then
pub exchanges_then : (a b c : Option Traffic) (read sent : List ℕ) → Exchanges a b read [] → Exchanges b c [] sent → Exchanges a c read sent
exchanges_then a b c read sent first then = subst (λ (l : List ℕ). Exchanges a c l sent) (append-nil read) (exchanges_trans a b c read [] [] sent first then)

-- all that a link shows that was untouched before
pub untouched_then : (a b : Option Traffic) (read sent : List ℕ) → IfSome a IsUntouched → Exchanges a b read sent → IfSome b (λ (t : Traffic). (t.taken ≡ read) × (t.written ≡ sent))
untouched_then None None read sent new p = tt
untouched_then None (Some y) read sent new p = absurd p
untouched_then (Some x) None read sent new p = tt
untouched_then (Some x) (Some y) read sent new p = (
  p.taken ∙ ap (λ (l : List ℕ). l ++ read) new.taken,
  p.written ∙ ap (λ (l : List ℕ). l ++ sent) new.written,
)

-- all that comes over a link stays, whatever is read and written
pub text_kept : (a b : Option Traffic) (read sent : List ℕ) → Exchanges a b read sent → text_of b ≡ text_of a
text_kept None None read sent p = refl
text_kept None (Some y) read sent p = absurd p
text_kept (Some x) None read sent p = absurd p
text_kept (Some x) (Some y) read sent p =
    ap (λ (l : List ℕ). Some (l ++ y.left)) p.taken ∙ ap (λ (l : List ℕ). Some l) (append_assoc x.taken read y.left ∙ ap (λ (l : List ℕ). x.taken ++ l) (sym p.left))

-- a piece sent after the prefix that was
pub sent_more : (a b c : Option Traffic) (bytes : List ℕ) (at n : ℕ) → Exchanges a b [] (take at bytes) → Exchanges b c [] (take n (take (length bytes - at) (drop at bytes))) → Exchanges a c [] (take (at + n) bytes)
sent_more a b c bytes at n before here =
    let rest : take (length bytes - at) (drop at bytes) ≡ drop at bytes = take_all _ _ (omega (arith, length-drop at bytes)) in
    let piece : Exchanges b c [] (take n (drop at bytes)) = subst (λ (l : List ℕ). Exchanges b c [] (take n l)) rest here in
    subst (λ (l : List ℕ). Exchanges a c [] l) (sym (take-add at n bytes)) (exchanges_trans a b c [] (take at bytes) [] (take n (drop at bytes)) before piece)

-- a read of a link is one of what comes over it, and changes neither of its sides
pub consumed : (a b : Option Traffic) (bytes : List ℕ) → Exchanges a b bytes [] → Consumes (left_of a) (left_of b) bytes
consumed None None bytes p = tt
consumed None (Some y) bytes p = absurd p
consumed (Some x) None bytes p = absurd p
consumed (Some x) (Some y) bytes p = p.left

pub sides_kept : (a b : Option Traffic) (bytes : List ℕ) → Exchanges a b bytes [] → sides_of b ≡ sides_of a
sides_kept None None bytes p = refl
sides_kept None (Some y) bytes p = absurd p
sides_kept (Some x) None bytes p = absurd p
sides_kept (Some x) (Some y) bytes p =
    let all : y.taken ++ y.left ≡ x.taken ++ x.left = ap (λ (l : List ℕ). l ++ y.left) p.taken ∙ append_assoc x.taken bytes y.left ∙ ap (λ (l : List ℕ). x.taken ++ l) (sym p.left) in
    let written : y.written ≡ x.written = p.written ∙ append-nil x.written in
    cc

-- and back: bytes that a source over a link gave were read of the link
pub received : (a b : Option Traffic) (bytes : List ℕ) → Consumes (left_of a) (left_of b) bytes → sides_of b ≡ sides_of a → Exchanges a b bytes []
received None None bytes p same = tt
received None (Some y) bytes p same = cc
received (Some x) None bytes p same = absurd p
received (Some x) (Some y) bytes p same =
    let both : (y.taken ++ y.left, y.written) ≡ (x.taken ++ x.left, x.written) = cc in
    let all : y.taken ++ y.left ≡ (x.taken ++ bytes) ++ y.left = ap (λ (sides : List ℕ × List ℕ). sides.0) both ∙ ap (λ (l : List ℕ). x.taken ++ l) p ∙ sym (append_assoc x.taken bytes y.left) in
    record {
      left = p;
      taken = append_cancel_right y.taken (x.taken ++ bytes) y.left all;
      written = ap (λ (sides : List ℕ × List ℕ). sides.1) both ∙ sym (append-nil x.written);
    }

-- whatever a sending returns, a prefix was written
pub sent_front : {T E : Type 0} (a b : Option Traffic) (bytes : List ℕ) (result : Result T E) → OnOk result (Exchanges a b [] bytes) → OnErr result (SendsPart a b bytes) → (n : ℕ) × Exchanges a b [] (take n bytes)
sent_front a b bytes (Ok t) whole part = (length bytes, subst (λ (l : List ℕ). Exchanges a b [] l) (sym (take_all _ bytes (omega arith))) whole)
sent_front a b bytes (Err e) whole part = (part.0, part.2)

same_traffic : (x y : Traffic) → y.taken ≡ x.taken → y.left ≡ x.left → y.written ≡ x.written → y ≡ x
same_traffic x y taken left written =
    let of : List ℕ → List ℕ → List ℕ → Traffic = λ a b c. record { taken = a; left = b; written = c } in
    ap (λ (l : List ℕ). of l y.left y.written) taken ∙ ap (λ (l : List ℕ). of x.taken l y.written) left ∙ ap (λ (l : List ℕ). of x.taken x.left l) written

-- a link of which a source gave nothing is as it was
pub kept : (a b : Option Traffic) → Keeps (left_of a) (left_of b) → sides_of b ≡ sides_of a → b ≡ a
kept None None p same = refl
kept None (Some y) p same = cc
kept (Some x) None p same = absurd p
kept (Some x) (Some y) p same =
    let both : (y.taken ++ y.left, y.written) ≡ (x.taken ++ x.left, x.written) = cc in
    let all : y.taken ++ y.left ≡ x.taken ++ y.left = ap (λ (sides : List ℕ × List ℕ). sides.0) both ∙ ap (λ (l : List ℕ). x.taken ++ l) (sym p) in
    ap (λ (t : Traffic). Some t) (same_traffic x y (append_cancel_right y.taken x.taken y.left all) p (ap (λ (sides : List ℕ × List ℕ). sides.1) both))

-- a read of a source over a link is one of the link
pub receives : {E : Type 0} (a b : Option Traffic) (result : Result ℕ E) (buf : List ℕ) → ReadConsumes (left_of a) (left_of b) result buf → sides_of b ≡ sides_of a → Receives a b result buf
receives a b (Ok n) buf read same = received a b (take n buf) read.0 same
receives a b (Err e) buf read same = kept a b read same

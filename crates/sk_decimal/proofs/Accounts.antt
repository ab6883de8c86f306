-- Accounts as lists, and what a write makes of them.
use Rattle.std.proofs.Common.{◌≡◌, ℕ, suc, ◌<◌, Bool, false, List, [], ◌∷◌, ◌++◌, length, take, drop, fold, Option, None, Some, Result, Ok, Err, OnOk, OnErr, IsErr, true≢false, refl, sym, ap, ◌∙◌, subst, arith, append_assoc, append-nil, take_at, drop_at}
use Rattle.std.specs.Io.KnownBytes.{Appends}
use Rattle.std.proofs.KnownBytes.{Appends-trans, Appends-nil}
use Rattle.std.proofs.lemmas.List.Sums.{fold-append}
use Rattle.sk_model.specs.Causes.{Rose, HasCause, AppendsPart}
use Rattle.sk_decimal.specs.Rounded.{Passage, grown, passage, settled, rounded, settled_of, whole_of}
use Rattle.sk_decimal.specs.Account.{Shown, Account, counted_bytes, report, Reports, with_text, HasSettled, HasStopped, IsFinished}
use Rattle.sk_decimal.specs.Inside.{IsHeld, IsSound}
use Rattle.sk_decimal.proofs.Passages.{held_short, settled_and_held}
use Rattle.sk_decimal.proofs.Parts.{part_behind}

abbrev shown : Option (List ℕ) → ℕ → Shown
shown written faults = record { written = written; faults = faults }

abbrev account : ℕ → Shown → List ℕ → Account
account digits start text = record { digits = digits; start = start; text = text }

front_same : (a b xs ys : List ℕ) → length a ≡ length b → a ++ xs ≡ b ++ ys → a ≡ b
front_same a b xs ys same e = sym (take_at a xs (length a) refl) ∙ ap (take (length a)) e ∙ take_at b ys (length a) (sym same)

rest_same : (a b xs ys : List ℕ) → length a ≡ length b → a ++ xs ≡ b ++ ys → xs ≡ ys
rest_same a b xs ys same e = sym (drop_at a xs (length a) refl) ∙ ap (drop (length a)) e ∙ drop_at b ys (length a) (sym same)

counted_same : (s t : Option (List ℕ)) (xs ys : List ℕ) → counted_bytes s ++ xs ≡ counted_bytes t ++ ys → s ≡ t
counted_same None None xs ys e = refl
counted_same None (Some b) xs ys e = let zero : 0 ≡ suc (length b) = cc in absurd (omega arith)
counted_same (Some a) None xs ys e = let zero : suc (length a) ≡ 0 = cc in absurd (omega arith)
counted_same (Some a) (Some b) xs ys e =
    let long : suc (length a) ≡ suc (length b) = cc in
    let rest : a ++ xs ≡ b ++ ys = cc in
    ap (λ (l : List ℕ). Some l) (front_same a b xs ys (omega arith) rest)

counted_rest : (s t : Option (List ℕ)) (xs ys : List ℕ) → counted_bytes s ++ xs ≡ counted_bytes t ++ ys → xs ≡ ys
counted_rest None None xs ys e = cc
counted_rest None (Some b) xs ys e = let zero : 0 ≡ suc (length b) = cc in absurd (omega arith)
counted_rest (Some a) None xs ys e = let zero : suc (length a) ≡ 0 = cc in absurd (omega arith)
counted_rest (Some a) (Some b) xs ys e =
    let long : suc (length a) ≡ suc (length b) = cc in
    let rest : a ++ xs ≡ b ++ ys = cc in
    rest_same a b xs ys (omega arith) rest

-- an account that is known by its growth
pub same_account : (before now : Account) (text : List ℕ) → Reports before now text → now ≡ with_text before text
unfolding report
same_account before now text e =
    let digits : now.digits ≡ before.digits = cc in
    let faults : now.start.faults ≡ before.start.faults = cc in
    let rest : counted_bytes now.start.written ++ now.text ≡ (counted_bytes before.start.written ++ before.text) ++ text = cc in
    let parts : counted_bytes now.start.written ++ now.text ≡ counted_bytes before.start.written ++ (before.text ++ text) = rest ∙ append_assoc (counted_bytes before.start.written) before.text text in
    let written = counted_same now.start.written before.start.written now.text (before.text ++ text) parts in
    ap (λ (d : ℕ). account d now.start now.text) digits
    ∙ ap (λ (w : Option (List ℕ)). account before.digits (shown w now.start.faults) now.text) written
    ∙ ap (λ (n : ℕ). account before.digits (shown before.start.written n) now.text) faults
    ∙ ap (λ (t : List ℕ). account before.digits before.start t) (counted_rest now.start.written before.start.written now.text (before.text ++ text) parts)

pub report_grows : (a : Account) (text : List ℕ) → report (with_text a text) ≡ report a ++ text
unfolding report
report_grows a text = sym (append_assoc (a.digits ∷ a.start.faults ∷ counted_bytes a.start.written) a.text text)

-- ---- what a write makes of them

pub passage_more : (digits : ℕ) (text piece : List ℕ) → passage digits (text ++ piece) ≡ fold (grown digits) (passage digits text) piece
unfolding passage
passage_more digits text piece = fold-append (grown digits) (record { lines = []; piece = [] }) text piece

no_passage : (digits : ℕ) → passage digits [] ≡ record { lines = []; piece = [] }
unfolding passage
no_passage digits = refl

pub sound_at_first : (digits : ℕ) (start : Shown) → IsSound (account digits start []) [] false 0 start
sound_at_first digits start = record {
  held = λ fine. subst (λ (p : Passage). IsHeld p.piece [] false) (sym (no_passage digits)) (held_short [] (omega arith));
  settled = λ fine. record {
    bytes = subst (Appends start.written start.written) (sym (ap settled_of (no_passage digits))) (Appends-nil start.written);
    faults = refl;
  };
  stopped = λ failed. absurd (omega arith);
}

module _ (a : Account) (old new : Shown) (piece bytes : List ℕ) (before : HasSettled a old) where
  settle_more : Appends old.written new.written bytes → settled_of (fold (grown a.digits) (passage a.digits a.text) piece) ≡ settled a.digits a.text ++ bytes → new.faults ≡ old.faults → HasSettled (with_text a piece) new
  settle_more more is same = record {
    bytes = subst (Appends a.start.written new.written) (sym (ap settled_of (passage_more a.digits a.text piece) ∙ is)) (Appends-trans a.start.written old.written new.written (settled a.digits a.text) bytes before.bytes more);
    faults = same ∙ before.faults;
  }

  stop_now : AppendsPart old.written new.written bytes → whole_of (fold (grown a.digits) (passage a.digits a.text) piece) ≡ settled a.digits a.text ++ bytes → Rose old.faults new.faults → HasStopped a new
  stop_now part is rose = record {
    bytes = (piece, subst (AppendsPart a.start.written new.written) (sym (ap whole_of (passage_more a.digits a.text piece) ∙ is)) (part_behind a.start.written old.written new.written (settled a.digits a.text) bytes before.bytes part));
    faults = subst (λ (n : ℕ). Rose n new.faults) before.faults rose;
  }

-- a piece was taken
pub sound_after : (a : Account) (old new : Shown) (piece bytes line : List ℕ) (passes : Bool) (faults : ℕ) → faults ≡ 0 → HasSettled a old
    → IsHeld (fold (grown a.digits) (passage a.digits a.text) piece).piece line passes → Appends old.written new.written bytes
    → settled_of (fold (grown a.digits) (passage a.digits a.text) piece) ≡ settled a.digits a.text ++ bytes → new.faults ≡ old.faults → IsSound (with_text a piece) line passes faults new
sound_after a old new piece bytes line passes faults fine before held more is same = record {
  held = λ _. subst (λ (p : Passage). IsHeld p.piece line passes) (sym (passage_more a.digits a.text piece)) held;
  settled = λ _. settle_more a old new piece bytes before more is same;
  stopped = λ failed. absurd (omega arith);
}

-- the sink below failed
pub sound_stopped : (a : Account) (old new : Shown) (piece bytes line : List ℕ) (passes : Bool) (faults : ℕ) → HasSettled a old
    → AppendsPart old.written new.written bytes → whole_of (fold (grown a.digits) (passage a.digits a.text) piece) ≡ settled a.digits a.text ++ bytes → Rose old.faults new.faults → 0 < faults
    → IsSound a line passes faults new
sound_stopped a old new piece bytes line passes faults before part is rose some = record {
  held = λ none. absurd (omega arith);
  settled = λ none. absurd (omega arith);
  stopped = λ failed. stop_now a old new piece bytes before part is rose;
}

-- ---- the end

pub finished_stopped : {T E : Type 0} (a : Account) (below : Shown) (why : E) → HasStopped a below → IsFinished a below (let r : Result T E = Err why in r)
finished_stopped a below why stopped = record { ok = tt; err = stopped.bytes; cause = record { steady = tt; failed = stopped.faults } }

pub finished_by : {T E : Type 0} (a : Account) (old new : Shown) (line : List ℕ) (passes : Bool) (result : Result T E) → HasSettled a old → IsHeld (passage a.digits a.text).piece line passes
    → OnOk result (Appends old.written new.written line) → OnErr result (AppendsPart old.written new.written line) → HasCause old.faults new.faults result → IsFinished a new result
finished_by a old new line passes (Ok x) before held ok err cause = record {
  ok = subst (Appends a.start.written new.written) (settled_and_held (passage a.digits a.text) line passes held)
      (Appends-trans a.start.written old.written new.written (settled a.digits a.text) line before.bytes ok);
  err = tt;
  cause = record { steady = cause.steady ∙ before.faults; failed = tt };
}
finished_by a old new line passes (Err e) before held ok err cause = record {
  ok = tt;
  err = (
    [],
    subst (AppendsPart a.start.written new.written) (settled_and_held (passage a.digits a.text) line passes held ∙ ap (rounded a.digits) (sym (append-nil a.text)))
        (part_behind a.start.written old.written new.written (settled a.digits a.text) line before.bytes err),
  );
  cause = record { steady = tt; failed = subst (λ (n : ℕ). Rose n new.faults) before.faults cause.failed };
}

-- ---- for a caller that knows a rounding sink by its reports alone

no_ok : {T E : Type 0} (A : Type 0) (r : Result T E) → IsErr r → OnOk r A
no_ok A (Ok x) failed = absurd (true≢false (sym failed))
no_ok A (Err e) failed = tt

-- if all went well at the end, the sink below got the rounded text that was reported
pub all_is_rounded : {T U E F : Type 0} (wrote : Result T E) (end : Result U F) (digits faults : ℕ) (start below : Shown) (before now : Account) (text : List ℕ) → before ≡ account digits start []
    → OnOk wrote (Reports before now text) → OnErr wrote (Rose 0 faults) → (0 < faults → IsErr end) → ((t : List ℕ) → Reports before now t → IsFinished (with_text before t) below end)
    → OnOk end (Appends start.written below.written (rounded digits text))
all_is_rounded (Ok x) end digits faults start below before now text fresh reported rose stopped done =
    subst (λ (a : Account). OnOk end (Appends a.start.written below.written (rounded a.digits (a.text ++ text)))) fresh (done text reported).ok
all_is_rounded (Err e) end digits faults start below before now text fresh reported rose stopped done = no_ok _ end (stopped (omega (arith, rose)))

pub made_fresh : (a : Account) (digits : ℕ) (start : Shown) → a.digits ≡ digits → a.start ≡ start → a.text ≡ [] → a ≡ account digits start []
made_fresh a digits start same_digits same_start none =
    ap (λ (d : ℕ). account d a.start a.text) same_digits ∙ ap (λ (s : Shown). account digits s a.text) same_start ∙ ap (λ (t : List ℕ). account digits start t) none

pub rose_from : {T E : Type 0} (r : Result T E) (old new : ℕ) → old ≡ 0 → OnErr r (Rose old new) → OnErr r (Rose 0 new)
rose_from (Ok x) old new none rose = tt
rose_from (Err e) old new none rose = subst (λ (n : ℕ). Rose n new) none rose

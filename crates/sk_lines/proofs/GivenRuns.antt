-- Whole lines that are given by their bytes.
use Rattle.std.proofs.Common.{◌≡◌, ℕ, zero, suc, ◌+◌, ◌-◌, ◌<◌, ◌≤◌, ◌^◌, ◌==◌, List, [], ◌∷◌, ◌++◌, length, take, drop, map, get_or, slice_range, inl, inr, refl, sym, ap, ◌∙◌, subst, arith, append-nil, append_assoc, length-append, take-add, take-append-drop}
use Rattle.std.specs.List.{concat, slice_split}
use Rattle.std.specs.Str.Lines.{strip_carriage_return}
use Rattle.std.proofs.lemmas.List.{drop_at, length-map}
use Rattle.std.proofs.lemmas.List.Splits.{length-slice_split}
use Rattle.sk_model.specs.Lines.{lines_of, AreWithin}
use Rattle.sk_model.proofs.Lines.{lines_of_nothing, lines_at_end, after_whole_lines, within_append}
use Rattle.sk_lines.specs.Cutter.{Cutter, Follows, counted}
use Rattle.sk_lines.specs.Runs.{GivesRun, IsRun, run_between}
use Rattle.sk_lines.proofs.WholeLines.{no_lines, run_more, bytes_are_few}
use Rattle.sk_lines.proofs.Steps.{front_of_rest, rest_behind}

-- this many lines after what was given
gives_run : (old new : Cutter) (n : ℕ) (run : List ℕ) → IsRun n run → new.front ≡ old.front ++ run → old.rest ≡ run ++ new.rest
    → ((given : List (List ℕ)) (text : List ℕ) → Follows old given text → Follows new (given ++ lines_of run) text)
    → new.number ≡ counted (old.number + n) → new ≡ record old { front = new.front; rest = new.rest; number = new.number } → GivesRun old new n
gives_run old new n run is front rest follows number stays =
    let here : run_between old new ≡ run = ap (λ (l : List ℕ). drop (length old.front) l) front ∙ drop_at old.front run (length old.front) refl in
    record {
      is = subst (IsRun n) (sym here) is;
      front = front ∙ ap (λ (l : List ℕ). old.front ++ l) (sym here);
      rest = rest ∙ ap (λ (l : List ℕ). l ++ new.rest) (sym here);
      follows = λ given text f. subst (λ (l : List ℕ). Follows new (given ++ lines_of l) text) (sym here) (follows given text f);
      number = number;
      stays = stays;
    }

pub none_given : (c : Cutter) → c.number < 2 ^ 64 → GivesRun c c 0
none_given c few = gives_run c c 0 [] no_lines (sym (append-nil c.front)) refl
    (λ given text f. subst (λ (ls : List (List ℕ)). Follows c ls text) (sym (ap (λ (ls : List (List ℕ)). given ++ ls) lines_of_nothing ∙ append-nil given)) f)
    (omega (arith, few)) refl

-- no line has more bytes than all
in_all : (lines : List (List ℕ)) (k : ℕ) (d : List ℕ) → k < length lines → length (get_or lines k d) ≤ length (concat lines)
in_all [] k d less = absurd (omega arith)
in_all (l ∷ lines) zero d less = omega (arith, length-append l (concat lines))
in_all (l ∷ lines) (suc k) d less = omega (arith, length-append l (concat lines), in_all lines k d (omega arith))

short_lines : (limit : ℕ) (text : List ℕ) → length text ≤ limit → AreWithin limit (lines_of text)
short_lines limit text fits = λ k d less. omega (arith, in_all (lines_of text) k d less, bytes_are_few text)

-- no line is in no byte
pub nothing_in_none : (run : List ℕ) → IsRun 0 run → run ≡ []
nothing_in_none run is = elim is.whole [
  | inl none ↦ none
  | inr (front, ends) ↦
      let parts = slice_split (λ (b : ℕ). b == 10) front in
      absurd (omega (arith, is.count, ap (λ (l : List ℕ). length (lines_of l)) ends, ap length (lines_at_end front []), length-append (map strip_carriage_return parts) (lines_of []), length-map parts strip_carriage_return, length-slice_split (λ (b : ℕ). b == 10) front))
]

-- a run of a text whose lines are all short enough
run_follows : (old new : Cutter) (n : ℕ) (run : List ℕ) → IsRun n run → old.rest ≡ run ++ new.rest → length old.rest ≤ old.limit → new.limit ≡ old.limit → new.number ≡ counted (old.number + n)
    → (given : List (List ℕ)) (text : List ℕ) → Follows old given text → Follows new (given ++ lines_of run) text
run_follows old new n run is rest fits limit number given text f =
    let fore : IsRun (length (lines_of f.front)) f.front = record { whole = f.whole; count = refl } in
    record {
      front = f.front ++ run;
      joined = f.joined ∙ ap (λ (l : List ℕ). f.front ++ l) rest ∙ sym (append_assoc f.front run new.rest);
      whole = (run_more (length (lines_of f.front)) n f.front run fore is).whole;
      lines = after_whole_lines f.front run f.whole ∙ ap (λ (ls : List (List ℕ)). ls ++ lines_of run) f.lines;
      count = omega (arith, f.count, number, length-append given (lines_of run), is.count);
      within = subst (λ (m : ℕ). AreWithin m (given ++ lines_of run)) (sym limit)
          (within_append old.limit given (lines_of run) f.within (short_lines old.limit run (omega (arith, ap length rest, length-append run new.rest, fits))));
    }

-- a reader that moves on over a run of a text, which ends at a place of its buffer
pub run_given : (old new : Cutter) (bytes : List ℕ) (n at end have : ℕ) → IsRun n (slice_range bytes at end) → at ≤ end → end ≤ have → have ≤ length bytes
    → old.front ≡ take at bytes → old.rest ≡ take (have - at) (drop at bytes) → new.front ≡ take end bytes → new.rest ≡ take (have - end) (drop end bytes) → length old.rest ≤ old.limit
    → new.number ≡ counted (old.number + n) → new ≡ record old { front = new.front; rest = new.rest; number = new.number } → GivesRun old new n
run_given old new bytes n at end have is ordered within inside front rest front' rest' fits number stays =
    let run = slice_range bytes at end in
    let place : at + (end - at) ≡ end = omega arith in
    let first : at ≤ have = omega arith in
    let grown : new.front ≡ old.front ++ run =
    front' ∙ ap (λ (k : ℕ). take k bytes) (sym place) ∙ take-add at (end - at) bytes ∙ ap (λ (l : List ℕ). l ++ run) (sym front) in
    let behind : take (have - end) (drop end bytes) ≡ drop (end - at) (take (have - at) (drop at bytes)) =
    subst (λ (k : ℕ). take (have - k) (drop k bytes) ≡ drop (end - at) (take (have - at) (drop at bytes))) place (rest_behind bytes at have first inside (end - at) (omega arith)) in
    let parted : old.rest ≡ run ++ new.rest =
    rest ∙ sym (take-append-drop (end - at) (take (have - at) (drop at bytes)))
    ∙ ap (λ (l : List ℕ). l ++ drop (end - at) (take (have - at) (drop at bytes))) (front_of_rest bytes at have first inside (end - at) (omega arith))
    ∙ ap (λ (l : List ℕ). run ++ l) (sym (rest' ∙ behind)) in
    gives_run old new n run is grown parted (run_follows old new n run is parted fits (ap (λ (c : Cutter). c.limit) stays) number) number stays

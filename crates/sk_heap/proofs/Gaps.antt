-- An empty place that is closed: what stands after it moves back.
use Rattle.std.proofs.Common.{◌≡◌, ◌≢◌, ℕ, ◌+◌, ◌-◌, ◌%◌, ◌<◌, ◌≤◌, List, length, set, get_or, ⊎_elim, refl, sym, ap, subst, ◌∙◌, arith, length-set, Bool, true, false, cond, true≢false}
use Rattle.std.proofs.lemmas.Bool.{cases_eq, cases_lt, cases_order}
use Rattle.std.proofs.lemmas.List.{set-get_or}
use Rattle.std.proofs.Math.Nat.{mod-eq_of_lt}
use Rattle.sk_heap.specs.Heap.{times, HasSame}
use Rattle.sk_heap.specs.Runs.{IsHole, IsRun}
use Rattle.sk_heap.specs.Table.{home, going_round, IsProbedOver, IsProbedButGap, IsGap}
use Rattle.sk_heap.proofs.Round.{steps_on, steps_back, one_round, steps_reach}
use Rattle.sk_heap.proofs.Counts.{same_moved}
use Rattle.sk_heap.proofs.Probes.{round_at, round_off}

-- an entry is taken out
pub gap_opens : (len : ℕ) (t : List ℕ) (at : ℕ) → len ≡ length t → at < len → IsProbedOver len t → IsProbedButGap len (set t at 0) at 0 1
gap_opens len t at long inside probed h n e under found less empty =
    let none : at + 0 ≡ at = omega arith in
    let off : (home len h + n) % len ≢ at = λ same. absurd (omega (arith, sym (round_at len t at 0 (home len h + n) (omega arith) same) ∙ found)) in
    let found' : going_round len t (home len h + n) ≡ h + 1 = sym (round_off len t at 0 (home len h + n) off) ∙ found in (
      ⊎_elim (λ same. same ∙ sym (ap (λ (p : ℕ). p % len) none ∙ mod-eq_of_lt inside)) (λ apart. absurd (probed h n e under found' less (sym (round_off len t at 0 (home len h + e) apart) ∙ empty))) (cases_eq ((home len h + e) % len) at),
      λ c above below. absurd (omega arith),
    )

module _ (len : ℕ) (t : List ℕ) (start gap step : ℕ) (long : len ≡ length t) (behind : gap < step) (within : step < len) (but : IsProbedButGap len t start gap step) where
  -- the next place is empty
  pub gap_closes : going_round len t (start + step) ≡ 0 → IsProbedOver len t
  gap_closes ends h n e under found less empty =
      let p = but h n e under found less empty in
      let c : ℕ = gap + (n - e) in
      let meets : (home len h + n) % len ≡ (start + c) % len = steps_on len (home len h) e start gap (n - e) n c p.0 (omega arith) refl in
      ⊎_elim
      (λ same. absurd (omega (arith, sym found ∙ ap (λ (q : ℕ). get_or t q 0) (meets ∙ ap (λ (c : ℕ). (start + c) % len) same) ∙ ends)))
      (λ apart.
      ⊎_elim (λ below. p.1 c (omega arith) below meets)
      (λ past.
      let f : ℕ = e + (step - gap) in
      let meets' : (home len h + f) % len ≡ (start + step) % len = steps_on len (home len h) e start gap (step - gap) f step p.0 refl (omega arith) in
      let empty' : going_round len t (home len h + f) ≡ 0 = ap (λ (q : ℕ). get_or t q 0) meets' ∙ ends in
      let same : step ≡ gap = one_round len start step gap within (omega arith) (sym meets' ∙ (but h n f under found (omega arith) empty').0) in
      absurd (omega arith))
      apart)
      (cases_order c step)

  module _ (y d : ℕ) (under_d : d < len) (reaches : (home len y + d) % len ≡ (start + step) % len) (entry : going_round len t (start + step) ≡ y + 1) where
    at_step : (h n : ℕ) → (home len h + n) % len ≡ (start + step) % len → going_round len t (home len h + n) ≡ h + 1 → h ≡ y
    at_step h n same found = omega (arith, sym found ∙ ap (λ (q : ℕ). get_or t q 0) same ∙ entry)

    -- the next place has an entry whose way does not pass the gap
    pub gap_stays : d < step - gap → IsProbedButGap len t start gap (step + 1)
    gap_stays short h n e under found less empty =
        let p = but h n e under found less empty in (
          p.0,
          λ c above below same.
              ⊎_elim
              (λ last.
              let at : (home len h + n) % len ≡ (start + step) % len = same ∙ ap (λ (c : ℕ). (start + c) % len) last in
              let hashes : h ≡ y = at_step h n at found in
              let way : n ≡ d = one_round len (home len y) n d under under_d (ap (λ (g : ℕ). (home len g + n) % len) (sym hashes) ∙ at ∙ sym reaches) in
              let meets : (home len h + n) % len ≡ (start + (gap + (n - e))) % len = steps_on len (home len h) e start gap (n - e) n (gap + (n - e)) p.0 (omega arith) refl in
              let steps : gap + (n - e) ≡ step = one_round len start (gap + (n - e)) step (omega arith) within (sym meets ∙ at) in
              absurd (omega arith))
              (λ other. p.1 c above (omega arith) same)
              (cases_eq c step),
        )

-- no way of an entry has an empty place but the gap
abbrev pub IsOnlyGap : ℕ → List ℕ → ℕ → ℕ → Type 0
IsOnlyGap len t start gap = (h n e : ℕ) → n < len → going_round len t (home len h + n) ≡ h + 1 → e < n → going_round len t (home len h + e) ≡ 0 → (home len h + e) % len ≡ (start + gap) % len

module _ (len : ℕ) (t : List ℕ) (start gap step : ℕ) (long : len ≡ length t) (behind : gap < step) (within : step < len) (only : IsOnlyGap len t start gap) where
  module _ (y d : ℕ) (under_d : d < len) (reaches : (home len y + d) % len ≡ (start + step) % len) (entry : going_round len t (start + step) ≡ y + 1) (hole : going_round len t (start + gap) ≡ 0) (far : step - gap ≤ d) where
    -- the gap is at the place that y's way meets this many steps before the entry
    on_the_way : (home len y + (d - (step - gap))) % len ≡ (start + gap) % len
    on_the_way = steps_back len (home len y) (d - (step - gap)) start gap (step - gap) d step (omega arith) reaches (omega arith) (omega arith)

    -- the entry moves into the gap
    pub gap_moves : IsProbedButGap len (set (set t ((start + gap) % len) (y + 1)) ((start + step) % len) 0) start step (step + 1)
    gap_moves h n e under found less empty =
        let gap_at : ℕ = (start + gap) % len in
        let at : ℕ = (start + step) % len in
        let filled : List ℕ = set t gap_at (y + 1) in
        let inside : gap_at < length t = omega arith in
        let inside' : at < length filled = omega (arith, length-set t gap_at (y + 1)) in
        let off_at : (home len h + n) % len ≢ at = λ same. absurd (omega (arith, sym (round_at len filled at 0 (home len h + n) inside' same) ∙ found)) in
        let found' : going_round len filled (home len h + n) ≡ h + 1 = sym (round_off len filled at 0 (home len h + n) off_at) ∙ found in (
          ⊎_elim (λ same. same)
              (λ off.
              let empty' : going_round len filled (home len h + e) ≡ 0 = sym (round_off len filled at 0 (home len h + e) off) ∙ empty in
              let off_gap : (home len h + e) % len ≢ gap_at = λ same. absurd (omega (arith, sym (round_at len t gap_at (y + 1) (home len h + e) inside same) ∙ empty')) in
              let empty'' : going_round len t (home len h + e) ≡ 0 = sym (round_off len t gap_at (y + 1) (home len h + e) off_gap) ∙ empty' in
              ⊎_elim
              (λ same.
              let hashes : h ≡ y = omega (arith, sym (round_at len t gap_at (y + 1) (home len h + n) inside same) ∙ found') in
              let way : n ≡ d - (step - gap) = one_round len (home len y) n (d - (step - gap)) under (omega arith) (ap (λ (g : ℕ). (home len g + n) % len) (sym hashes) ∙ same ∙ sym on_the_way) in
              let there : going_round len t (home len y + d) ≡ y + 1 = ap (λ (q : ℕ). get_or t q 0) reaches ∙ entry in
              let empty_y : going_round len t (home len y + e) ≡ 0 = ap (λ (g : ℕ). going_round len t (home len g + e)) (sym hashes) ∙ empty'' in
              absurd (off_gap (ap (λ (g : ℕ). (home len g + e) % len) hashes ∙ only y d e under_d there (omega arith) empty_y)))
              (λ apart. absurd (off_gap (only h n e under (sym (round_off len t gap_at (y + 1) (home len h + n) apart) ∙ found') less empty'')))
              (cases_eq ((home len h + n) % len) gap_at))
              (cases_eq ((home len h + e) % len) at),
          λ c above below. absurd (omega arith),
        )

-- ---- the same of what the code keeps

pub gap_begins : (t : List ℕ) (at p v : ℕ) → at < length t → p < length t → get_or t at 0 ≡ v + 1 → get_or t p 0 ≡ 0 → IsProbedOver (length t) t → IsGap (length t) (set t at 0) at 0 1
gap_begins t at p v inside inside' full empty probed =
    let len : ℕ = length t in
    let none : at + 0 ≡ at = omega arith in
    let steps : ℕ = (p + len - at % len) % len in
    let reach : (at + steps) % len ≡ p = steps_reach len at p inside' in
    let same : (at + 0) % len ≡ at = ap (λ (p : ℕ). p % len) none ∙ mod-eq_of_lt inside in
    let away : p ≢ at = λ e. absurd (omega (arith, sym full ∙ ap (λ (q : ℕ). get_or t q 0) (sym e) ∙ empty)) in
    let some : steps ≢ 0 = λ e. away (sym reach ∙ ap (λ (n : ℕ). (at + n) % len) e ∙ same) in
    let off : (at + steps) % len ≢ at = λ e. away (sym reach ∙ e) in
    record {
      behind = omega arith;
      empty = round_at len t at 0 (at + 0) inside same;
      but = gap_opens len t at refl inside probed;
      ahead = (steps, omega arith, omega arith, round_off len t at 0 (at + steps) off ∙ ap (λ (q : ℕ). get_or t q 0) reach ∙ empty);
    }

module _ (t : List ℕ) (start gap step : ℕ) (within : step < length t) (g : IsGap (length t) t start gap step) where
  pub gap_ends : going_round (length t) t (start + step) ≡ 0 → IsProbedOver (length t) t
  gap_ends = gap_closes (length t) t start gap step refl (g.behind) within (g.but)

  module _ (y d : ℕ) (under : d < length t) (reaches : (home (length t) y + d) % length t ≡ (start + step) % length t) (entry : going_round (length t) t (start + step) ≡ y + 1) where
    past : (c : ℕ) → step ≤ c → going_round (length t) t (start + c) ≡ 0 → step + 1 ≤ c
    past c from empty = ⊎_elim (λ same. absurd (omega (arith, sym entry ∙ ap (λ (c : ℕ). going_round (length t) t (start + c)) (sym same) ∙ empty))) (λ apart. omega arith) (cases_eq c step)

    pub gap_rests : d < step - gap → IsGap (length t) t start gap (step + 1)
    gap_rests short =
        let a = g.ahead in
        let behind : gap < step = g.behind in
        record {
          behind = omega arith;
          empty = g.empty;
          but = gap_stays (length t) t start gap step refl (g.behind) within (g.but) y d under reaches entry short;
          ahead = (a.0, past a.0 a.1 a.3, a.2, a.3);
        }

    pub gap_goes_on : step - gap ≤ d → IsGap (length t) (set (set t ((start + gap) % length t) (y + 1)) ((start + step) % length t) 0) start step (step + 1)
    gap_goes_on far =
        let len : ℕ = length t in
        let hole : ℕ = (start + gap) % len in
        let at : ℕ = (start + step) % len in
        let filled : List ℕ = set t hole (y + 1) in
        let a = g.ahead in
        let behind : gap < step = g.behind in
        let later : step + 1 ≤ a.0 = past a.0 a.1 a.3 in
        let off : (start + a.0) % len ≢ at = λ same. let e : a.0 ≡ step = one_round len start a.0 step a.2 within same in absurd (omega arith) in
        let off' : (start + a.0) % len ≢ hole = λ same. let e : a.0 ≡ gap = one_round len start a.0 gap a.2 (omega arith) same in absurd (omega arith) in
        let inside : at < length filled = omega (arith, length-set t hole (y + 1)) in
        record {
          behind = omega arith;
          empty = round_at len filled at 0 (start + step) inside refl;
          but = gap_moves len t start gap step refl (g.behind) within (λ h n e under found less empty. (g.but h n e under found less empty).0) y d under reaches entry (g.empty) far;
          ahead = (a.0, later, a.2, round_off len filled at 0 (start + a.0) off ∙ round_off len t hole (y + 1) (start + a.0) off' ∙ a.3);
        }

    nothing_shifts : set (set t ((start + gap) % length t) 0) ((start + step) % length t) (y + 1) ≡ t
    nothing_shifts =
        let hole : ℕ = (start + gap) % length t in
        let at : ℕ = (start + step) % length t in
        ap (λ (l : List ℕ). set l at (y + 1)) (subst (λ (w : ℕ). set t hole w ≡ t) (g.empty) (set-get_or t hole 0)) ∙ subst (λ (w : ℕ). set t at w ≡ t) entry (set-get_or t at 0)

    -- the entry moves or stays
    pub gap_shifts : (moves : Bool) → (moves ≡ true → step - gap ≤ d) → (moves ≡ false → d < step - gap)
        → IsGap (length t) (set (set t ((start + gap) % length t) (cond moves (y + 1) 0)) ((start + step) % length t) (cond moves 0 (y + 1))) start (cond moves step gap) (step + 1)
    gap_shifts true far short = gap_goes_on (far refl)
    gap_shifts false far short = subst (λ (l : List ℕ). IsGap (length t) l start gap (step + 1)) (sym nothing_shifts) (gap_rests (short refl))

    pub apart_from_gap : (start + gap) % length t ≢ (start + step) % length t
    apart_from_gap same = let behind : gap < step = g.behind in let e : gap ≡ step = one_round (length t) start gap step (omega arith) within same in absurd (omega arith)

-- no entry stands after the gap
pub run_ends : (t : List ℕ) (start last : ℕ) → IsGap (length t) t start 0 1 → IsRun (length t) t start last → last ≡ 0 → IsProbedOver (length t) t
run_ends t start last g run none =
    let next : last + 1 ≡ 1 = omega arith in
    let ends : going_round (length t) t (start + 1) ≡ 0 = ap (λ (n : ℕ). going_round (length t) t (start + n)) (sym next) ∙ run.end in
    gap_ends t start 0 1 (omega (arith, run.within)) g ends

-- ---- two places that are written, whether an entry moves or not

module _ (t : List ℕ) (start gap step : ℕ) (within : step < length t) (h : IsHole (length t) t start gap step) where
  abbrev pub hole_at : ℕ
  hole_at = (start + gap) % length t

  abbrev pub entry_at : ℕ
  entry_at = (start + step) % length t

  abbrev pub written : Bool → List ℕ
  written moves = set (set t hole_at (cond moves (get_or t entry_at 0) 0)) entry_at (cond moves 0 (get_or t entry_at 0))

  written_stays : (moves : Bool) → moves ≡ false → (written moves ≡ t) × (cond moves step gap ≡ gap)
  written_stays true is = absurd (true≢false is)
  written_stays false is = (ap (λ (l : List ℕ). set l entry_at (get_or t entry_at 0)) (subst (λ (w : ℕ). set t hole_at w ≡ t) (h.empty) (set-get_or t hole_at 0)) ∙ set-get_or t entry_at 0, refl)

  pub written_after : (last : ℕ) (moves : Bool) → (moves ≡ true → step ≤ last) → last < step → (written moves ≡ t) × (cond moves step gap ≡ gap)
  written_after last true near past = let no : step ≤ last = near refl in absurd (omega arith)
  written_after last false near past = written_stays false refl

  pub written_later : (moves : Bool) (c : ℕ) → step < c → c < length t → going_round (length t) (written moves) (start + c) ≡ going_round (length t) t (start + c)
  written_later moves c above below =
      let len : ℕ = length t in
      let before : gap < step = h.behind in
      let v : ℕ = cond moves (get_or t entry_at 0) 0 in
      let off : (start + c) % len ≢ entry_at = λ same. let e : c ≡ step = one_round len start c step below within same in absurd (omega arith) in
      let off' : (start + c) % len ≢ hole_at = λ same. let e : c ≡ gap = one_round len start c gap below (omega arith) same in absurd (omega arith) in
      round_off len (set t hole_at v) entry_at (cond moves 0 (get_or t entry_at 0)) (start + c) off ∙ round_off len t hole_at v (start + c) off'

  pub written_same : (moves : Bool) → HasSame (written moves) t
  written_same true =
      let before : gap < step = h.behind in
      let apart : hole_at ≢ entry_at = λ same. let e : gap ≡ step = one_round (length t) start gap step (omega arith) within same in absurd (omega arith) in
      same_moved t hole_at entry_at (get_or t entry_at 0) 0 (omega arith) (omega arith) apart (h.empty) refl
  written_same false = λ x. ap (λ (l : List ℕ). times x l) ((written_stays false refl).0)

-- ---- a run that is passed over in a fixed number of steps: those after its last entry change nothing

pub record IsShifted (len : ℕ) (old table : List ℕ) (start last gap step : ℕ) : Type 0 where
  pub hole : IsHole len table start gap step
  pub near : step ≤ last + 1 → IsGap len table start gap step
  pub done : last + 1 ≤ step → IsGap len table start gap (last + 1)
  pub end : going_round len table (start + (last + 1)) ≡ 0
  pub later : (c : ℕ) → step ≤ c → c < len → going_round len table (start + c) ≡ going_round len old (start + c)

pub shift_begins : (len : ℕ) (t : List ℕ) (start last : ℕ) → IsGap len t start 0 1 → IsRun len t start last → IsShifted len t t start last 0 1
shift_begins len t start last g run =
    record {
      hole = record { behind = g.behind; empty = g.empty };
      near = λ _. g;
      done = λ over. let one : 1 ≡ last + 1 = omega arith in subst (λ (n : ℕ). IsGap len t start 0 n) one g;
      end = run.end;
      later = λ c from less. refl;
    }

module _ (len : ℕ) (old t new : List ℕ) (start last gap gap' step : ℕ) (one : 1 ≤ step) (within : step < len) (run : IsRun len old start last) (s : IsShifted len old t start last gap step)
    (shifts : step ≤ last → going_round len t (start + step) ≢ 0 → IsGap len t start gap step → IsGap len new start gap' (step + 1))
    (stays : last < step → (new ≡ t) × (gap' ≡ gap))
    (keeps : (c : ℕ) → step < c → c < len → going_round len new (start + c) ≡ going_round len t (start + c)) where
  later' : (c : ℕ) → step + 1 ≤ c → c < len → going_round len new (start + c) ≡ going_round len old (start + c)
  later' c from less = keeps c (omega arith) less ∙ s.later c (omega arith) less

  step_near : step ≤ last → IsShifted len old new start last gap' (step + 1)
  step_near near =
      let full : going_round len t (start + step) ≢ 0 = λ is. run.full step one near (sym (s.later step (omega arith) within) ∙ is) in
      let g : IsGap len new start gap' (step + 1) = shifts near full (s.near (omega arith)) in
      let inside : last + 1 < len = run.within in
      record {
        hole = record { behind = g.behind; empty = g.empty };
        near = λ _. g;
        done = λ over. let one_more : step + 1 ≡ last + 1 = omega arith in subst (λ (n : ℕ). IsGap len new start gap' n) one_more g;
        end = keeps (last + 1) (omega arith) inside ∙ s.end;
        later = later';
      }

  step_past : last < step → IsShifted len old new start last gap' (step + 1)
  step_past past =
      let same = stays past in
      let g : IsGap len new start gap' (last + 1) =
      subst (λ (l : List ℕ). IsGap len l start gap' (last + 1)) (sym same.0) (subst (λ (n : ℕ). IsGap len t start n (last + 1)) (sym same.1) (s.done (omega arith))) in
      let before : gap' < last + 1 = g.behind in
      record {
        hole = record { behind = omega arith; empty = g.empty };
        near = λ under. absurd (omega arith);
        done = λ _. g;
        end = subst (λ (l : List ℕ). going_round len l (start + (last + 1)) ≡ 0) (sym same.0) (s.end);
        later = later';
      }

  pub shift_steps : IsShifted len old new start last gap' (step + 1)
  shift_steps = ⊎_elim step_past step_near (cases_lt last step)

pub shift_ends : (old t : List ℕ) (start last gap step : ℕ) → last < step → last + 1 < length t → IsShifted (length t) old t start last gap step → IsProbedOver (length t) t
shift_ends old t start last gap step past within s = gap_ends t start gap (last + 1) within (s.done (omega arith)) (s.end)

-- the last entry before an empty place moves into the gap
module _ (t : List ℕ) (start last : ℕ) (inside : start < length t) (within : last + 1 < length t) (g : IsGap (length t) t start 0 1) (ends : going_round (length t) t (start + (last + 1)) ≡ 0) (y d : ℕ) (under : d < length t) (reaches : (home (length t) y + d) % length t ≡ (start + last) % length t) (entry : going_round (length t) t (start + last) ≡ y + 1) where
  start_is : (start + 0) % length t ≡ start
  start_is = let none : start + 0 ≡ start = omega arith in ap (λ (p : ℕ). p % length t) none ∙ mod-eq_of_lt inside

  pub start_empty : get_or t start 0 ≡ 0
  start_empty = ap (λ (p : ℕ). get_or t p 0) (sym start_is) ∙ g.empty

  some_behind : 0 < last
  some_behind = ⊎_elim (λ none. absurd (omega (arith, sym entry ∙ ap (λ (c : ℕ). going_round (length t) t (start + c)) none ∙ g.empty))) (λ some. omega arith) (cases_eq last 0)

  pub apart_from_last : start ≢ (start + last) % length t
  apart_from_last same = let e : 0 ≡ last = one_round (length t) start 0 last (omega arith) (omega arith) (start_is ∙ same) in absurd (omega (arith, some_behind))

  pub last_moves : last ≤ d → IsProbedOver (length t) (set (set t start (y + 1)) ((start + last) % length t) 0)
  last_moves far =
      let len : ℕ = length t in
      let at : ℕ = (start + last) % len in
      let filled : List ℕ = set t start (y + 1) in
      let off : (start + (last + 1)) % len ≢ at = λ same. let e : last + 1 ≡ last = one_round len start (last + 1) last within (omega arith) same in absurd (omega arith) in
      let off' : (start + (last + 1)) % len ≢ start = λ same. let e : last + 1 ≡ 0 = one_round len start (last + 1) 0 within (omega arith) (same ∙ sym start_is) in absurd (omega arith) in
      let long : len ≡ length (set filled at 0) = omega (arith, length-set t start (y + 1), length-set filled at 0) in
      let but : IsProbedButGap len (set filled at 0) start last (last + 1) =
      subst (λ (hole : ℕ). IsProbedButGap len (set (set t hole (y + 1)) at 0) start last (last + 1)) start_is
      (gap_moves len t start 0 last refl some_behind (omega arith) (λ h n e under found less empty. (g.but h n e under found less empty).0) y d under reaches entry (g.empty) (omega arith)) in
      gap_closes len (set filled at 0) start last (last + 1) long (omega arith) within but
      (round_off len filled at 0 (start + (last + 1)) off ∙ round_off len t start (y + 1) (start + (last + 1)) off' ∙ ends)

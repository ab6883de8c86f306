-- A schedule is answered in one way, and ends at one line.
use Rattle.std.proofs.Common.{◌≡◌, ℕ, List, [], ◌∷◌, ◌++◌, map, flat_map, Option, Some, None, refl, sym, ap, ◌∙◌, subst}
use Rattle.std.proofs.lemmas.Grind.{flat_map-append}
use Rattle.std.specs.Option.{IfSome}
use Rattle.sk_model.specs.Missing.{Begins}
use Rattle.sk_machine.specs.Fine.{Fine}
use Rattle.sk_core.specs.Events.{IsEnabled, after}
use Rattle.sk_core.specs.Runs.{MeetsAll, IsRun}
use Rattle.sk_core.specs.Texts.{event_of}
use Rattle.sk_core.specs.declared.event.Event.{Event}
use Rattle.sk_core.specs.declared.event.Answer.{Answer}
use Rattle.sk_cli.specs.commands.Replay.{answer_line, answers_text, IsAnswered, IsSchedule, IsNoMore}

-- the machine after these events
reached_by : ℕ → List Event → Fine → Fine
reached_by k [] from = from
reached_by k (e ∷ es) from = reached_by k es (after k e from)

run_reaches : (k : ℕ) (es : List Event) (answers : List Answer) (from to : Fine) → IsRun k es answers from to → to ≡ reached_by k es from
unfolding IsRun reached_by
run_reaches k [] [] from to run = run
run_reaches k [] (a ∷ more) from to run = absurd run
run_reaches k (e ∷ es) [] from to run = absurd run
run_reaches k (e ∷ es) (a ∷ more) from to run = run_reaches k es more (after k e from) to run.1

-- the event behind some that were played is enabled where they lead
next_is_enabled : (k : ℕ) (es : List Event) (e : Event) (later : List Event) (answers : List Answer) (from to : Fine) → IsRun k (es ++ e ∷ later) answers from to → IsEnabled e (reached_by k es from)
unfolding IsRun reached_by
next_is_enabled k [] e later [] from to run = absurd run
next_is_enabled k [] e later (a ∷ more) from to run = run.0.enabled
next_is_enabled k (x ∷ es) e later [] from to run = absurd run
next_is_enabled k (x ∷ es) e later (a ∷ more) from to run = next_is_enabled k es e later more (after k x from) to run.1

-- the events of a schedule's lines, and of a longer one's
record Continues (es events : List Event) (line : List ℕ) : Type 0 where
  event : Event
  later : List Event
  joined : events ≡ es ++ event ∷ later
  named : event_of line ≡ Some event

abbrev some_event : Event → Option Event
some_event e = Some e

same_event : (x y : Event) → some_event x ≡ some_event y → x ≡ y
same_event x y is = cc

not_none : (o : Option Event) (os : List (Option Event)) → o ∷ os ≡ [] → ⊥
not_none o os is = cc

head_is : (a b : Option Event) (xs ys : List (Option Event)) → a ∷ xs ≡ b ∷ ys → a ≡ b
head_is a b xs ys is = cc

tail_is : (a b : Option Event) (xs ys : List (Option Event)) → a ∷ xs ≡ b ∷ ys → xs ≡ ys
tail_is a b xs ys is = cc

continued : (lines : List (List ℕ)) (es events : List Event) (line : List ℕ) (rest : List (List ℕ)) → map event_of lines ≡ map (λ (e : Event). Some e) es →
    map event_of (lines ++ line ∷ rest) ≡ map (λ (e : Event). Some e) events → Continues es events line
continued [] [] [] line rest short long = absurd (not_none (event_of line) (map event_of rest) long)
continued [] [] (e ∷ events) line rest short long = record { event = e; later = events; joined = refl; named = head_is (event_of line) (Some e) (map event_of rest) (map (λ (x : Event). Some x) events) long }
continued [] (x ∷ es) events line rest short long = absurd (not_none (Some x) (map (λ (e : Event). Some e) es) (sym short))
continued (l ∷ lines) [] events line rest short long = absurd (not_none (event_of l) (map event_of lines) short)
continued (l ∷ lines) (x ∷ es) [] line rest short long = absurd (not_none (event_of l) (map event_of (lines ++ line ∷ rest)) long)
continued (l ∷ lines) (x ∷ es) (y ∷ events) line rest short long =
    let first = head_is (event_of l) (Some x) (map event_of lines) (map (λ (e : Event). Some e) es) short in
    let other = head_is (event_of l) (Some y) (map event_of (lines ++ line ∷ rest)) (map (λ (e : Event). Some e) events) long in
    let more = continued lines es events line rest (tail_is (event_of l) (Some x) (map event_of lines) (map (λ (e : Event). Some e) es) short)
    (tail_is (event_of l) (Some y) (map event_of (lines ++ line ∷ rest)) (map (λ (e : Event). Some e) events) long) in
    let same : y ≡ x = same_event y x (sym other ∙ first) in
    record {
      event = more.event;
      later = more.later;
      joined = ap (λ (e : Event). e ∷ events) same ∙ ap (λ (l : List Event). x ∷ l) more.joined;
      named = more.named;
    }

abbrev some_start : ℕ → Fine → Option (ℕ × Fine)
some_start k start = Some (k, start)

no_start : (k : ℕ) (start : Fine) → None ≡ some_start k start → ⊥
no_start k start is = cc

one_pair : (p q : ℕ × Fine) → some_start p.0 p.1 ≡ some_start q.0 q.1 → p ≡ q
one_pair p q is = cc

one_k : (k l : ℕ) (f h : Fine) → some_start k f ≡ some_start l h → k ≡ l
one_k k l f h is = ap (λ (p : ℕ × Fine). p.0) (one_pair (k, f) (l, h) is)

one_start : (k l : ℕ) (f h : Fine) → some_start k f ≡ some_start l h → f ≡ h
one_start k l f h is = ap (λ (p : ℕ × Fine). p.1) (one_pair (k, f) (l, h) is)

-- a line that does not go on with a schedule stands in none that was answered
pub no_more_is_last : (lines : List (List ℕ)) (line : List ℕ) (rest : List (List ℕ)) (due : List ℕ) → IsNoMore lines line → IsAnswered (lines ++ line ∷ rest) due → ⊥
no_more_is_last [] line rest due bad answered = no_start answered.0 answered.3.start (sym bad ∙ answered.3.named_start)
no_more_is_last (first ∷ lines) line rest due bad answered =
    let short = bad.3 in
    let long = answered.3 in
    let same = sym short.named_start ∙ long.named_start in
    let same_k : bad.0 ≡ answered.0 = one_k bad.0 answered.0 short.start long.start same in
    let same_start : short.start ≡ long.start = one_start bad.0 answered.0 short.start long.start same in
    let on = continued lines short.events long.events line rest short.named long.named in
    let enabled : IsEnabled on.event (reached_by answered.0 short.events long.start) =
    next_is_enabled answered.0 short.events on.event on.later answered.1 long.start answered.2 (subst (λ (es : List Event). IsRun answered.0 es answered.1 long.start answered.2) on.joined long.run) in
    let here : reached_by answered.0 short.events long.start ≡ bad.2 =
    ap (λ (f : Fine). reached_by answered.0 short.events f) (sym same_start) ∙ ap (λ (k : ℕ). reached_by k short.events short.start) (sym same_k) ∙ sym (run_reaches bad.0 short.events bad.1 short.start bad.2 short.run) in
    let disabled : IfSome (event_of line) (λ (e : Event). ¬ IsEnabled e bad.2) = bad.4 in
    let no : ¬ IsEnabled on.event bad.2 = subst (λ (o : Option Event). IfSome o (λ (e : Event). ¬ IsEnabled e bad.2)) on.named disabled in
    no (subst (λ (f : Fine). IsEnabled on.event f) here enabled)

-- what a line does not go on with is a schedule
pub schedule_before : (lines : List (List ℕ)) (line : List ℕ) → IsNoMore lines line → IsSchedule lines
schedule_before [] line bad = ([], refl)
schedule_before (first ∷ lines) line bad = (answers_text bad.1, (bad.0, bad.1, bad.2, bad.3, refl))

-- ---- the answers are these

answers_are : (k : ℕ) (es : List Event) (answers others : List Answer) (from to end : Fine) → IsRun k es answers from to → IsRun k es others from end → answers ≡ others
unfolding IsRun
answers_are k [] [] [] from to end run other = refl
answers_are k [] [] (b ∷ others) from to end run other = absurd other
answers_are k [] (a ∷ answers) others from to end run other = absurd run
answers_are k (e ∷ es) [] others from to end run other = absurd run
answers_are k (e ∷ es) (a ∷ answers) [] from to end run other = absurd other
answers_are k (e ∷ es) (a ∷ answers) (b ∷ others) from to end run other =
    let first : a ≡ b = run.0.answer_is ∙ sym other.0.answer_is in
    ap (λ (x : Answer). x ∷ answers) first ∙ ap (λ (l : List Answer). b ∷ l) (answers_are k es answers others (after k e from) to end run.1 other.1)

events_are : (lines : List (List ℕ)) (es events : List Event) → map event_of lines ≡ map (λ (e : Event). Some e) es → map event_of lines ≡ map (λ (e : Event). Some e) events → es ≡ events
events_are lines es events one other = one_list es events (sym one ∙ other)
  where
    one_list : (xs ys : List Event) → map (λ (e : Event). Some e) xs ≡ map (λ (e : Event). Some e) ys → xs ≡ ys
    one_list [] [] is = refl
    one_list [] (y ∷ ys) is = absurd (not_none (Some y) (map (λ (e : Event). Some e) ys) (sym is))
    one_list (x ∷ xs) [] is = absurd (not_none (Some x) (map (λ (e : Event). Some e) xs) is)
    one_list (x ∷ xs) (y ∷ ys) is =
        ap (λ (e : Event). e ∷ xs) (same_event x y (head_is (Some x) (Some y) (map (λ (e : Event). Some e) xs) (map (λ (e : Event). Some e) ys) is))
        ∙ ap (λ (l : List Event). y ∷ l) (one_list xs ys (tail_is (Some x) (Some y) (map (λ (e : Event). Some e) xs) (map (λ (e : Event). Some e) ys) is))

-- a schedule is answered in one way
pub answered_once : (lines : List (List ℕ)) (due other : List ℕ) → IsAnswered lines due → IsAnswered lines other → due ≡ other
answered_once [] due other one two = one ∙ sym two
answered_once (first ∷ lines) due other one two =
    let same = sym one.3.named_start ∙ two.3.named_start in
    let same_k : one.0 ≡ two.0 = one_k one.0 two.0 one.3.start two.3.start same in
    let same_start : one.3.start ≡ two.3.start = one_start one.0 two.0 one.3.start two.3.start same in
    let same_events : one.3.events ≡ two.3.events = events_are lines one.3.events two.3.events one.3.named two.3.named in
    let run : IsRun two.0 two.3.events one.1 two.3.start one.2 =
    subst (λ (k : ℕ). IsRun k two.3.events one.1 two.3.start one.2) same_k (subst (λ (f : Fine). IsRun one.0 two.3.events one.1 f one.2) same_start (subst (λ (es : List Event). IsRun one.0 es one.1 one.3.start one.2) same_events one.3.run)) in
    one.4 ∙ ap answers_text (answers_are two.0 two.3.events one.1 two.1 two.3.start one.2 two.2 run two.3.run) ∙ sym two.4

-- ---- a schedule that was answered was answered up to each of its lines

record Splits (lines : List (List ℕ)) (events : List Event) : Type 0 where
  front : List Event
  back : List Event
  joined : events ≡ front ++ back
  named : map event_of lines ≡ map (λ (e : Event). Some e) front

splits : (lines rest : List (List ℕ)) (events : List Event) → map event_of (lines ++ rest) ≡ map (λ (e : Event). Some e) events → Splits lines events
splits [] rest events named = record { front = []; back = events; joined = refl; named = refl }
splits (l ∷ lines) rest [] named = absurd (not_none (event_of l) (map event_of (lines ++ rest)) named)
splits (l ∷ lines) rest (e ∷ events) named =
    let head = head_is (event_of l) (Some e) (map event_of (lines ++ rest)) (map (λ (x : Event). Some x) events) named in
    let more = splits lines rest events (tail_is (event_of l) (Some e) (map event_of (lines ++ rest)) (map (λ (x : Event). Some x) events) named) in
    record {
      front = e ∷ more.front;
      back = more.back;
      joined = ap (λ (l : List Event). e ∷ l) more.joined;
      named = ap (λ (o : Option Event). o ∷ map event_of lines) head ∙ ap (λ (l : List (Option Event)). Some e ∷ l) more.named;
    }

record Runs (k : ℕ) (es : List Event) (from : Fine) (all : List Answer) : Type 0 where
  answers : List Answer
  to : Fine
  run : IsRun k es answers from to
  invariant : MeetsAll k to
  begins : Begins answers all

front_runs : (k : ℕ) (es fs : List Event) (answers : List Answer) (from to : Fine) → IsRun k (es ++ fs) answers from to → MeetsAll k to → Runs k es from answers
unfolding IsRun
front_runs k [] [] [] from to run invariant = record { answers = []; to = from; run = refl; invariant = subst (MeetsAll k) run invariant; begins = ([], refl) }
front_runs k [] [] (a ∷ answers) from to run invariant = absurd run
front_runs k [] (f ∷ fs) [] from to run invariant = absurd run
front_runs k [] (f ∷ fs) (a ∷ answers) from to run invariant = record { answers = []; to = from; run = refl; invariant = run.0.invariant; begins = (a ∷ answers, refl) }
front_runs k (e ∷ es) fs [] from to run invariant = absurd run
front_runs k (e ∷ es) fs (a ∷ answers) from to run invariant =
    let more = front_runs k es fs answers (after k e from) to run.1 invariant in
    record {
      answers = a ∷ more.answers;
      to = more.to;
      run = (run.0, more.run);
      invariant = more.invariant;
      begins = (more.begins.0, ap (λ (l : List Answer). a ∷ l) more.begins.1);
    }

answers_begin : (front answers : List Answer) → Begins front answers → Begins (answers_text front) (answers_text answers)
unfolding answers_text
answers_begin front answers begins = (flat_map answer_line begins.0, ap (flat_map answer_line) begins.1 ∙ flat_map-append answer_line front begins.0)

pub answered_front : (lines rest : List (List ℕ)) (due : List ℕ) → IsAnswered (lines ++ rest) due → (front : List ℕ) × IsAnswered lines front × Begins front due
answered_front [] rest due answered = ([], refl, (due, refl))
answered_front (first ∷ lines) rest due answered =
    let played = answered.3 in
    let split = splits lines rest played.events played.named in
    let run = front_runs answered.0 split.front split.back answered.1 played.start answered.2 (subst (λ (es : List Event). IsRun answered.0 es answered.1 played.start answered.2) split.joined played.run) played.invariant in (
      answers_text run.answers,
      (answered.0, run.answers, run.to, record { start = played.start; events = split.front; named_start = played.named_start; named = split.named; run = run.run; invariant = run.invariant }, refl),
      subst (λ (l : List ℕ). Begins (answers_text run.answers) l) (sym answered.4) (answers_begin run.answers answered.1 run.begins),
    )

-- How `replay` goes.
use Rattle.std.proofs.Common.{◌≡◌, ◌≤◌, inr, ℕ, ◌+◌, ◌-◌, ◌<◌, List, [], ◌∷◌, ◌++◌, length, take, map, flat_map, get_or, Option, Some, None, Ok, false, refl, sym, ap, ◌∙◌, subst, arith, append-nil, append_assoc, length-append}
use Rattle.std.proofs.lemmas.Grind.{flat_map-append}
use Rattle.std.proofs.lemmas.List.{map-append}
use Rattle.std.specs.Io.KnownBytes.{Appends}
use Rattle.std.proofs.KnownBytes.{Appends-nil}
use Rattle.sk_model.specs.Limits.{line_limit}
use Rattle.sk_model.specs.Lines.{lines_of, AreWithin}
use Rattle.sk_model.specs.Missing.{Begins}
use Rattle.sk_machine.specs.Fine.{Fine}
use Rattle.sk_core.specs.Stored.{Stored, machine_of}
use Rattle.sk_core.specs.Runs.{MeetsAll, IsRun}
use Rattle.sk_core.specs.Texts.{event_of, fields_of}
use Rattle.sk_core.specs.declared.event.Event.{Event}
use Rattle.sk_core.specs.declared.event.Answer.{Answer}
use Rattle.sk_core.proofs.Runs.{run_more, run_empty}
use Rattle.sk_read.specs.Reading.{Reading}
use Rattle.sk_read.specs.Reads.{IsInTime as IsReadInTime}
use Rattle.sk_read.specs.declared.units.Units.TheVariants.{Lines}
use Rattle.sk_read.proofs.LineEnds.{settled_so}
use Rattle.sk_read.proofs.Readings.{given_settled, in_time_within}
use Rattle.sk_cli.specs.Answering.{ByLines, GoesByAnswers, Answers}
use Rattle.sk_cli.specs.Beside.{Beside}
use Rattle.sk_cli.specs.commands.Replay.{start_of, started, MeetsThere, IsPlay, Played, answer_line, answers_text, IsAnswered, LedTo, IsNoMore, IsBadLine, replaying}
use Rattle.sk_cli.specs.Outside.{Streams}
use Rattle.sk_cli.specs.Run.{Refuses}
use Rattle.sk_cli.specs.declared.fault.Fault.TheVariants as fault
use Rattle.sk_cli.proofs.Endings.{none_within}
use Rattle.sk_cli.proofs.Reading.{Reads, Went, within_given, first_are, in_time}
use Rattle.sk_cli.proofs.Schedules.{answered_front}

pub answers_more : (answers : List Answer) (a : Answer) → answers_text (answers ++ a ∷ []) ≡ answers_text answers ++ answer_line a
unfolding answers_text
answers_more answers a =
    flat_map-append answer_line answers (a ∷ []) ∙ ap (λ (l : List ℕ). flat_map answer_line answers ++ l) (append-nil (answer_line a))

pub no_answers : answers_text [] ≡ []
unfolding answers_text
no_answers = refl

-- ---- schedules

pub played_none : (k : ℕ) (first : List ℕ) (start : Fine) → start_of first ≡ Some (k, start) → MeetsAll k start → Played k first [] [] start
played_none k first start named invariant = record {
  start = start;
  events = [];
  named_start = named;
  named = refl;
  run = run_empty k start;
  invariant = invariant;
}

pub played_more : (k : ℕ) (first : List ℕ) (lines : List (List ℕ)) (answers : List Answer) (from : Fine) (line : List ℕ) (a : Answer) (to : Fine) → Played k first lines answers from → IsPlay line k from a to →
    Played k first (lines ++ line ∷ []) (answers ++ a ∷ []) to
played_more k first lines answers from line a to played play = record {
  start = played.start;
  events = played.events ++ play.event ∷ [];
  named_start = played.named_start;
  named =
      map-append event_of lines (line ∷ []) ∙ ap (λ (l : List (Option Event)). l ++ event_of line ∷ []) played.named
      ∙ ap (λ (o : Option Event). map (λ (e : Event). Some e) played.events ++ o ∷ []) play.named ∙ sym (map-append (λ (e : Event). Some e) played.events (play.event ∷ []));
  run = subst (λ (f : Fine). IsRun k (played.events ++ play.event ∷ []) (answers ++ a ∷ []) played.start f) (sym play.machine) (run_more k played.events answers played.start from play.event a played.run play.step);
  invariant = play.invariant;
}

-- `replay` examines line by line
pub replay_by_lines : (from to : Beside) → ByLines replaying from to IsAnswered
replay_by_lines from to = record {
  reads_it = refl;
  fine = λ taken due within is. (within, (due, is));
  so_far = λ taken due is. is;
  before = λ n text due within is. (n, within, is);
  long = λ n text due long is. ((long, (due, is)), is);
  front = answered_front;
}

pub no_answer_yet : (from to : Beside) (text : List ℕ) → replaying.IsDueBefore from to text []
no_answer_yet from to text = (0, none_within, refl)

-- a schedule that was played to its end
pub whole_schedule : (from to : Beside) (lines : List (List ℕ)) (due text : List ℕ) → lines_of text ≡ lines → AreWithin line_limit lines → IsAnswered lines due → 0 < length lines → replaying.IsFine text × replaying.IsDue from to text due × replaying.Leaves from text due to
whole_schedule from to lines due text is within so_far some =
    let here : IsAnswered (lines_of text) due = subst (λ (l : List (List ℕ)). IsAnswered l due) (sym is) so_far in
    ((subst (AreWithin line_limit) (sym is) within, (due, here), omega (arith, ap length is, some)), here, tt)

-- ---- refusals

at_length : (xs : List (List ℕ)) (y : List ℕ) (zs : List (List ℕ)) → get_or (xs ++ y ∷ zs) (length xs) [] ≡ y
at_length [] y zs = refl
at_length (x ∷ xs) y zs = at_length xs y zs

bad_line : (n : ℕ) (given : List (List ℕ)) (line : List ℕ) (lines : List (List ℕ)) → n ≡ length given + 1 → AreWithin line_limit (given ++ line ∷ []) → IsNoMore given line →
    Begins (given ++ line ∷ []) lines → IsBadLine n lines × (take (n - 1) lines ≡ given)
bad_line n given line lines is within bad begins =
    let place : n - 1 ≡ length given = omega arith in
    let behind : lines ≡ given ++ line ∷ begins.0 = begins.1 ∙ append_assoc given (line ∷ []) begins.0 in
    let front : take (n - 1) lines ≡ given = first_are given lines (n - 1) place (line ∷ begins.0, behind) in
    let up_to : take n lines ≡ given ++ line ∷ [] = first_are (given ++ line ∷ []) lines n (omega (arith, length-append given (line ∷ []))) begins in
    let here : get_or lines (n - 1) [] ≡ line = ap (λ (m : ℕ). get_or lines m []) place ∙ ap (λ (l : List (List ℕ)). get_or l (length given) []) behind ∙ at_length given line begins.0 in (
      record {
        from = omega arith;
        to = omega (arith, ap length behind, length-append given (line ∷ begins.0));
        within = subst (AreWithin line_limit) (sym up_to) within;
        bad = subst (λ (l : List (List ℕ)). IsNoMore l (get_or lines (n - 1) [])) (sym front) (subst (λ (l : List ℕ). IsNoMore given l) (sym here) bad);
      },
      front,
    )

-- a line that is refused, behind those that were played
pub refuses : (from to : Beside) (a b : Streams) (most n : ℕ) (r : Reading) (given : List (List ℕ)) (line due taken : List ℕ) → Reads r a.left b.left most (given ++ line ∷ []) taken → IsReadInTime b.last Lines given taken → n ≡ length given + 1 →
    IsAnswered given due → Appends a.written b.written due → IsNoMore given line → Refuses replaying most (fault.BadEvent n) from to a b
refuses from to a b most n r given line due taken reads time is so_far written bad = record {
  taken = taken;
  due = due;
  consumed = reads.consumed;
  size = omega (arith, reads.read.has.count, reads.read.bound, reads.most_is);
  in_time = in_time replaying from to IsAnswered (replay_by_lines from to) most a b given due taken time so_far;
  refused = settled_so (λ (text : List ℕ). Begins (given ++ line ∷ []) (lines_of text)) (λ (text : List ℕ). replaying.Refuses (fault.BadEvent n) text × replaying.IsDueAt from to (fault.BadEvent n) text due) b.left taken
      (λ text begins.
      let found = bad_line n given line (lines_of text) is (within_given r a.left b.left most (given ++ line ∷ []) taken reads) bad begins in
      (found.0, subst (λ (l : List (List ℕ)). IsAnswered l due) (sym found.1) so_far))
      (given_settled r b.left (given ++ line ∷ []) taken reads.read);
  written = written;
}

no_first_line : start_of [] ≡ None
unfolding fields_of
no_first_line = refl

-- a text of no line
pub refuses_nothing : (from to : Beside) (a b : Streams) (most : ℕ) (r : Reading) → r.last ≤ b.last → (on : Went r a.left b.left most [] (Ok false)) → b.written ≡ a.written → Refuses replaying most (fault.BadEvent 1) from to a b
refuses_nothing from to a b most r within on same =
    let read = on.goes.0 in
    let bad : IsBadLine 1 [] = record { from = omega arith; to = omega arith; within = none_within; bad = no_first_line } in
    record {
      taken = on.taken;
      due = [];
      consumed = on.consumed;
      size = omega (arith, read.has.count, read.bound, on.most_is);
      in_time = in_time replaying from to IsAnswered (replay_by_lines from to) most a b [] [] on.taken (in_time_within Lines [] on.taken within read.in_time) refl;
      refused = inr (read.end on.goes.1, subst (λ (lines : List (List ℕ)). IsBadLine 1 lines × IsAnswered (take 0 lines) []) (sym (read.has.whole on.goes.1)) (bad, refl));
      written = subst (λ (w : Option (List ℕ)). Appends a.written w []) (sym same) (Appends-nil a.written);
    }

-- ---- answers

-- it goes on from its first line by the answers to events
pub replay_goes : (from to : Beside) (first : List ℕ) → GoesByAnswers replaying from to IsAnswered IsNoMore (first ∷ [])
replay_goes from to first = record {
  by_lines = replay_by_lines from to;
  whole = λ more due is text same within. whole_schedule from to (first ∷ more) due text same within is (omega arith);
  refused = λ lines line due is bad text begins within.
      let found = bad_line (length lines + 1) lines line (lines_of text) refl within bad begins in
      (found.0, subst (λ (l : List (List ℕ)). IsAnswered l due) (sym found.1) is);
}

-- the start led to its first line
pub led_to_start : (state : Stored) (first : List ℕ) → start_of first ≡ Some (started state) → MeetsThere (Some state) → LedTo state (first ∷ []) []
led_to_start state first named meets = ([], played_none state.k first (machine_of state) named meets, sym no_answers)

-- a line was played, and the answer to its event put behind a text
pub play_answers : (old new : Stored) (line : List ℕ) (said : Answer) (before after : List ℕ) → IsPlay line old.k (machine_of old) said (machine_of new) → new.k ≡ old.k → after ≡ before ++ answer_line said → Answers (LedTo old) (LedTo new) line before after
play_answers old new line said before after play same text = record { said = answer_line said; text = text; on = on }
  where
    on : (lines : List (List ℕ)) (due : List ℕ) → LedTo old lines due → LedTo new (lines ++ line ∷ []) (due ++ answer_line said)
    on [] due led = absurd led
    on (first ∷ lines) due led = (
      led.0 ++ said ∷ [],
      subst (λ (k : ℕ). Played k first (lines ++ line ∷ []) (led.0 ++ said ∷ []) (machine_of new)) (sym same) (played_more old.k first lines led.0 (machine_of old) line said (machine_of new) led.1 play),
      ap (λ (t : List ℕ). t ++ answer_line said) led.2 ∙ sym (answers_more led.0 said),
    )

-- How a command over labelled lines goes, and what it decides of a text.
use Rattle.std.proofs.Common.{◌≡◌, ◌⊎◌, inl, inr, ℕ, ◌+◌, ◌-◌, ◌<◌, ◌≤◌, Bool, true, false, List, [], ◌∷◌, ◌++◌, length, take, get_or, Option, Result, Ok, Err, refl, sym, ap, ◌∙◌, subst, arith, append_assoc, append-nil, length-append, length-take}
use Rattle.std.specs.Io.KnownBytes.{Appends, Consumes}
use Rattle.std.proofs.Math.Seq.{get_or-append_seam}
use Rattle.std.proofs.lemmas.Bool.{cases_lt, both_ways}
use Rattle.std.proofs.lemmas.List.{get_or_append_left, get_or-take, take-take, take-append-le, take_all}
use Rattle.sk_label.specs.Goes.{setting, WroteSoFar, WroteAll, WrotePartAt, WrotePartLast, EndsBefore, EndsAfter, EndsAt, Goes, ReadsLines}
use Rattle.sk_label.specs.Rules.{Rules, IsBad, IsRefused, IsFine, AreFine, due_so_far, whole_text}
use Rattle.sk_label.specs.declared.fault.LabelFault.{LabelFault}
use Rattle.sk_label.specs.declared.fault.LabelFault.TheVariants as label
use Rattle.sk_label.proofs.RuleLaws.{fine_front, due_so_far_begins, nothing_is_fine}
use Rattle.sk_model.specs.Limits.{line_limit}
use Rattle.sk_model.specs.Lines.{lines_of, AreWithin}
use Rattle.sk_model.specs.Missing.{Begins}
use Rattle.sk_read.specs.Items.{complete_lines_of}
use Rattle.sk_read.specs.Reads.{IsSettled, ReadsAll, ReadsSome, IsInTime as IsReadInTime, BreaksOff as ReadingBreaksOff}
use Rattle.sk_read.specs.Units.{units_by, IsSoundUpTo, IsLongBehind}
use Rattle.sk_read.specs.declared.units.Units.TheVariants.{Lines}
use Rattle.sk_read.proofs.ItemLaws.{front_is}
use Rattle.sk_read.proofs.LineEnds.{settled_so}
use Rattle.sk_report.specs.Parts.{AppendsPartAfter}
use Rattle.sk_report.proofs.Fronts.{part_at_all, part_after_less}
use Rattle.sk_cli.specs.Behaviour.{Behaviour, IsDecided, WritesOneText}
use Rattle.sk_cli.specs.Beside.{Beside}
use Rattle.sk_cli.specs.Fault.{fault_by_label, refused_at}
use Rattle.sk_cli.specs.Labelled.{IsFirstRefused, IsRefusedLine, reading_labels}
use Rattle.sk_cli.specs.Lines.{IsLongLine, line_at, lines_before}
use Rattle.sk_cli.specs.Outside.{Streams}
use Rattle.sk_cli.specs.Run.{Finishes, Stops, Refuses, IsInTime, IsDueOnTheWay, WritesOn, BreaksOff, GivesUp, Ends, Executes}
use Rattle.sk_cli.specs.declared.fault.Fault.{Fault}
use Rattle.sk_cli.specs.declared.fault.Fault.TheVariants as fault
use Rattle.sk_cli.specs.declared.fault.Refusal.{Refusal}
use Rattle.sk_cli.specs.declared.fault.Refusal.TheVariants.{Earlier, Unknown}
use Rattle.sk_cli.proofs.Deciding.{no_long, long_behind, one_long}
use Rattle.sk_cli.proofs.Endings.{none_within, nothing_yet}
use Rattle.sk_cli.proofs.Fronts.{front_of_all}
use Rattle.sk_cli.proofs.Reading.{on_true}
use Rattle.sk_cli.proofs.Units.{front_at, sound_less}
use Rattle.sk_cli.proofs.WholeTexts.{sound_so_far, units_begin}

-- ---- lines that are fine

module _ (rules : Rules) where
  -- the first of some lines, each fine
  first_fine : (front given : List (List ℕ)) → Begins front given → AreFine rules given → AreFine rules front
  first_fine front given begins fine = fine_front rules front begins.0 (subst (AreFine rules) begins.1 fine)

  -- line n of some of which the first are fine
  fine_at : (n j : ℕ) (lines : List (List ℕ)) → 1 ≤ n → n ≤ j → n ≤ length lines → AreFine rules (take j lines) → IsFine rules (take (n - 1) lines) (line_at n lines)
  fine_at n j lines from near to all =
      let fine = all (n - 1) (omega (arith, length-take j lines, from, near, to)) in
      let before : take (n - 1) (take j lines) ≡ take (n - 1) lines = take-take (n - 1) j lines (omega (arith, near)) in
      let here : get_or (take j lines) (n - 1) [] ≡ get_or lines (n - 1) [] = get_or-take j lines (n - 1) [] (omega (arith, near, from)) in
      subst (λ (l : List (List ℕ)). IsFine rules l (get_or lines (n - 1) [])) before (subst (λ (l : List ℕ). IsFine rules (take (n - 1) (take j lines)) l) here fine)

  not_bad : (before : List (List ℕ)) (line : List ℕ) → IsFine rules before line → IsBad rules line → ⊥
  not_bad before line fine bad = both_ways (rules.is_formed line) bad.1 (fine bad.0).0

  not_refused : (before : List (List ℕ)) (line : List ℕ) → IsFine rules before line → IsRefused rules before line → ⊥
  not_refused before line fine refused = both_ways (rules.is_refused before line) (fine refused.0).1 refused.2

  bad_or_refused : (before : List (List ℕ)) (line : List ℕ) → IsBad rules line → IsRefused rules before line → ⊥
  bad_or_refused before line bad refused = both_ways (rules.is_formed line) bad.1 refused.1

  -- ---- the first line that is refused

  -- no line of those that are fine is refused so
  module _ (Is : List (List ℕ) → List ℕ → Type 0) (never : (before : List (List ℕ)) (line : List ℕ) → IsFine rules before line → Is before line → ⊥) where
    after_fine : (n j : ℕ) (lines : List (List ℕ)) → AreFine rules (take j lines) → IsFirstRefused rules Is n lines → j < n
    after_fine n j lines fine first = by_order (cases_lt j n)
      where
        by_order : (j < n) ⊎ (n ≤ j) → j < n
        by_order (inl less) = less
        by_order (inr most) = absurd (never (take (n - 1) lines) (line_at n lines) (fine_at n j lines first.from most first.to fine) first.is)

    none_in_fine : (n : ℕ) (lines : List (List ℕ)) → AreFine rules lines → IsFirstRefused rules Is n lines → ⊥
    none_in_fine n lines fine first =
        let all : AreFine rules (take (length lines) lines) = subst (AreFine rules) (sym (take_all (length lines) lines (omega arith))) fine in
        let less = after_fine n (length lines) lines all first in
        absurd (omega (arith, less, first.to))

    not_long : (n m : ℕ) (lines : List (List ℕ)) → IsFirstRefused rules Is n lines → IsLongLine m lines → AreFine rules (take (m - 1) lines) → ⊥
    not_long n m lines first long fine =
        let later = long_behind m n lines first.within long in
        let least = after_fine n (m - 1) lines fine first in
        absurd (omega (arith, later, least))

  same_place : (Is Is' : List (List ℕ) → List ℕ → Type 0) → ((before : List (List ℕ)) (line : List ℕ) → IsFine rules before line → Is before line → ⊥) → ((before : List (List ℕ)) (line : List ℕ) → IsFine rules before line → Is' before line → ⊥) →
      (n m : ℕ) (lines : List (List ℕ)) → IsFirstRefused rules Is n lines → IsFirstRefused rules Is' m lines → n ≡ m
  same_place Is Is' never never' n m lines one two =
      let after = after_fine Is never n (m - 1) lines two.before one in
      let before = after_fine Is' never' m (n - 1) lines one.before two in
      omega (arith, after, before, one.from, two.from)

  bad_and_refused : (n m : ℕ) (lines : List (List ℕ)) → IsFirstRefused rules (λ before line. IsBad rules line) n lines → IsFirstRefused rules (IsRefused rules) m lines → ⊥
  bad_and_refused n m lines one two =
      let same : n ≡ m = same_place (λ before line. IsBad rules line) (IsRefused rules) not_bad not_refused n m lines one two in
      bad_or_refused (take (n - 1) lines) (line_at n lines) one.is (subst (λ (k : ℕ). IsRefused rules (take (k - 1) lines) (line_at k lines)) (sym same) two.is)

  -- ---- which line is refused, and why

  -- a refusal by its place: a line is too long, has not the form, or is refused for its label
  abbrev Seen : Refusal → Fault → List (List ℕ) → Type 0
  Seen why f lines =
      ((n : ℕ) × (f ≡ fault.LongLine n) × IsLongLine n lines × AreFine rules (take (n - 1) lines))
      ⊎ (((n : ℕ) × (f ≡ fault.BadLine n) × IsFirstRefused rules (λ before line. IsBad rules line) n lines)
      ⊎ ((n : ℕ) × (f ≡ refused_at why n) × IsFirstRefused rules (IsRefused rules) n lines))

  seen : (why : Refusal) (f : Fault) (lines : List (List ℕ)) → IsRefusedLine rules why f lines → Seen why f lines
  seen why (fault.LongLine n) lines is = inl (n, refl, is.0, is.1)
  seen why (fault.BadLine n) lines is = inr (inl (n, refl, is))
  seen Earlier (fault.Backward n) lines is = inr (inr (n, refl, is))
  seen Unknown (fault.UnknownTenant n) lines is = inr (inr (n, refl, is))
  seen Earlier f lines is = absurd is
  seen Unknown f lines is = absurd is

  refused_once : (why : Refusal) (f g : Fault) (lines : List (List ℕ)) → Seen why f lines → Seen why g lines → f ≡ g
  refused_once why f g lines (inl one) (inl two) = one.1 ∙ ap (λ (l : ℕ). fault.LongLine l) (one_long one.0 two.0 lines one.2 two.2) ∙ sym two.1
  refused_once why f g lines (inl one) (inr (inl two)) = absurd (not_long (λ before line. IsBad rules line) not_bad two.0 one.0 lines two.2 one.2 one.3)
  refused_once why f g lines (inl one) (inr (inr two)) = absurd (not_long (IsRefused rules) not_refused two.0 one.0 lines two.2 one.2 one.3)
  refused_once why f g lines (inr (inl one)) (inl two) = absurd (not_long (λ before line. IsBad rules line) not_bad one.0 two.0 lines one.2 two.2 two.3)
  refused_once why f g lines (inr (inl one)) (inr (inl two)) =
      one.1 ∙ ap (λ (l : ℕ). fault.BadLine l) (same_place (λ before line. IsBad rules line) (λ before line. IsBad rules line) not_bad not_bad one.0 two.0 lines one.2 two.2) ∙ sym two.1
  refused_once why f g lines (inr (inl one)) (inr (inr two)) = absurd (bad_and_refused one.0 two.0 lines one.2 two.2)
  refused_once why f g lines (inr (inr one)) (inl two) = absurd (not_long (IsRefused rules) not_refused one.0 two.0 lines one.2 two.2 two.3)
  refused_once why f g lines (inr (inr one)) (inr (inl two)) = absurd (bad_and_refused two.0 one.0 lines two.2 one.2)
  refused_once why f g lines (inr (inr one)) (inr (inr two)) = one.1 ∙ ap (refused_at why) (same_place (IsRefused rules) (IsRefused rules) not_refused not_refused one.0 two.0 lines one.2 two.2) ∙ sym two.1

  fine_or_refused : (why : Refusal) (f : Fault) (lines : List (List ℕ)) → AreWithin line_limit lines → AreFine rules lines → Seen why f lines → ⊥
  fine_or_refused why f lines within fine (inl one) = no_long one.0 lines within one.2
  fine_or_refused why f lines within fine (inr (inl one)) = none_in_fine (λ before line. IsBad rules line) not_bad one.0 lines fine one.2
  fine_or_refused why f lines within fine (inr (inr one)) = none_in_fine (IsRefused rules) not_refused one.0 lines fine one.2

  pub labels_decide : (why : Refusal) → IsDecided (reading_labels rules why)
  labels_decide why = record {
    refused = λ f g text one two. refused_once why f g (lines_of text) (seen why f (lines_of text) one) (seen why g (lines_of text) two);
    apart = λ f text one two. fine_or_refused why f (lines_of text) one.0 one.1 (seen why f (lines_of text) two);
  }

  pub one_labelled : (why : Refusal) → WritesOneText (reading_labels rules why)
  one_labelled why = record {
    due = λ from to to' text due other one two. one ∙ sym two;
    refused = λ from to to' f text due other one two. one ∙ sym two;
  }

-- ---- how it goes

module _ (rules : Rules) (why : Refusal) (most : ℕ) (from to : Beside) (a b : Streams) where
  abbrev how : Behaviour
  how = reading_labels rules why

  abbrev SoFar : List (List ℕ) → Type 0
  SoFar lines = WroteSoFar rules a.written b.written lines

  in_time : (given : List (List ℕ)) (taken : List ℕ) → IsReadInTime b.last Lines given taken → AreFine rules given → IsInTime b.last how.IsFineSoFar taken
  in_time given taken is fine = record {
    front = is.front;
    piece = is.piece;
    joined = is.joined;
    size = is.size;
    few = is.few;
    so_far = (is.sound, first_fine rules (complete_lines_of is.front) given is.earlier fine);
  }

  -- a text that is refused after the lines given
  refused : (f : Fault) (Known : List (List ℕ) → Type 0) (Comes : List (List ℕ) → List ℕ → Type 0) → (off : ReadingBreaksOff b.last Lines most Known Comes a.left b.left) → SoFar off.given
      → ((text : List ℕ) → Begins off.given (lines_of text) → Comes off.given text → IsRefusedLine rules why f (lines_of text) × (lines_before f (lines_of text) ≡ off.given)) → Refuses how most f from to a b
  refused f Known Comes off wrote is = record {
    taken = off.taken;
    due = due_so_far rules off.given;
    consumed = off.consumed;
    size = off.size;
    in_time = in_time off.given off.taken off.in_time wrote.fine;
    refused = settled_so (λ (text : List ℕ). Begins off.given (lines_of text) × Comes off.given text)
        (λ (text : List ℕ). how.Refuses f text × how.IsDueAt from to f text (due_so_far rules off.given)) b.left off.taken
        (λ text found.
        let both = is text found.0 found.1 in
        (both.0, ap (λ (l : List (List ℕ)). due_so_far rules l) (sym both.1))) off.comes;
    written = wrote.written;
  }

  stops : (IsSize : ℕ → Type 0) → ReadsSome Lines IsSize SoFar a.left b.left → Stops how IsSize from to a b
  stops IsSize some = record {
    taken = some.taken;
    due = due_so_far rules (complete_lines_of some.taken);
    reads = refl;
    consumed = some.consumed;
    size = some.size;
    fine = (some.sound, some.gave.fine);
    is_due = refl;
    written = some.gave.written;
  }

  -- what is due for the lines given is due for the first lines of each text that goes on so
  due_before : (given : List (List ℕ)) (taken : List ℕ) → AreFine rules given → IsSettled (λ (text : List ℕ). Begins given (lines_of text) × IsSoundUpTo Lines (length given) text) b.left taken
      → IsDueOnTheWay how from to b.left taken (due_so_far rules given)
  due_before given taken fine settled =
      settled_so (λ (text : List ℕ). Begins given (lines_of text) × IsSoundUpTo Lines (length given) text) (λ (text : List ℕ). how.IsDueBefore from to text (due_so_far rules given)) b.left taken
      (λ text found.
      let first : take (length given) (lines_of text) ≡ given = front_is given (lines_of text) found.0 in
      (length given, found.1, subst (AreFine rules) (sym first) fine, ap (λ (l : List (List ℕ)). due_so_far rules l) (sym first))) settled

  gives_up : (given : List (List ℕ)) (taken : List ℕ) → SoFar given → Consumes a.left b.left taken → length taken ≤ most
      → IsSettled (λ (text : List ℕ). Begins given (lines_of text) × IsSoundUpTo Lines (length given) text) b.left taken → GivesUp how most from to a b
  gives_up given taken wrote consumed size settled = record {
    taken = taken;
    due = due_so_far rules given;
    consumed = consumed;
    size = size;
    is_due = inr (due_before given taken wrote.fine settled);
    written = front_of_all a.written b.written (due_so_far rules given) wrote.written;
  }

  due_begins : (front given : List (List ℕ)) → Begins front given → Begins (due_so_far rules front) (due_so_far rules given)
  due_begins front given begins = subst (λ (l : List (List ℕ)). Begins (due_so_far rules front) (due_so_far rules l)) (sym begins.1) (due_so_far_begins rules front begins.0)

  -- what was due before the last read was written whole
  writes_on : (given : List (List ℕ)) (taken due : List ℕ) → AppendsPartAfter (due_so_far rules given) a.written b.written due → IsReadInTime b.last Lines given taken → AreFine rules given → WritesOn how from b.last taken due a.written b.written
  writes_on given taken due part is fine =
      let front : List (List ℕ) = complete_lines_of is.front in
      record {
        earlier = due_so_far rules front;
        beside = from;
        was_due = record {
          front = is.front;
          piece = is.piece;
          joined = is.joined;
          size = is.size;
          few = is.few;
          so_far = ((is.sound, first_fine rules front given is.earlier fine), refl);
        };
        written = part_after_less (due_so_far rules front) (due_so_far rules given) a.written b.written due (due_begins front given is.earlier) part;
      }

  -- a write failed at a line
  breaks_off : (line : List ℕ) → (off : ReadingBreaksOff b.last Lines most (λ given. WrotePartAt rules a.written b.written given line)
      (λ given text. Begins (given ++ line ∷ []) (lines_of text) × IsSoundUpTo Lines (length given + 1) text) a.left b.left) → BreaksOff how most from to a b
  breaks_off line off =
      let more : List (List ℕ) = off.given ++ line ∷ [] in
      let part = off.known in
      let count : length more ≡ length off.given + 1 = length-append off.given (line ∷ []) in
      let fine : AreFine rules off.given = first_fine rules off.given more (line ∷ [], refl) part.fine in
      record {
        taken = off.taken;
        due = due_so_far rules more;
        consumed = off.consumed;
        size = off.size;
        is_due = inr (
          in_time off.given off.taken off.in_time fine,
          due_before more off.taken part.fine
              (settled_so (λ (text : List ℕ). Begins off.given (lines_of text) × (Begins more (lines_of text) × IsSoundUpTo Lines (length off.given + 1) text))
              (λ (text : List ℕ). Begins more (lines_of text) × IsSoundUpTo Lines (length more) text) b.left off.taken
              (λ text found. (found.1.0, subst (λ (m : ℕ). IsSoundUpTo Lines m text) (sym count) found.1.1)) off.comes),
        );
        written = part_at_all (due_so_far rules off.given) a.written b.written (due_so_far rules more) part.written;
        by_lines = on_true how.writes_by_lines (WritesOn how from b.last off.taken (due_so_far rules more) a.written b.written) (writes_on off.given off.taken (due_so_far rules more) part.written off.in_time fine);
      }

  -- a line that is the first refused, as it is of the lines given
  first_refused : (Is : List (List ℕ) → List ℕ → Type 0) (n : ℕ) (given : List (List ℕ)) (line text : List ℕ) → n ≡ length given + 1 → AreFine rules given → Is given line → Begins (given ++ line ∷ []) (lines_of text)
      → IsSoundUpTo Lines (length given + 1) text → IsFirstRefused rules Is n (lines_of text)
  first_refused Is n given line text is fine refused begins sound =
      let lines : List (List ℕ) = lines_of text in
      let after : lines ≡ given ++ line ∷ begins.0 = begins.1 ∙ append_assoc given (line ∷ []) begins.0 in
      let place : n - 1 ≡ length given = omega (arith, is) in
      let here : line_at n lines ≡ line = ap (λ (m : ℕ). get_or lines m []) place ∙ ap (λ (l : List (List ℕ)). get_or l (length given) []) after ∙ get_or-append_seam given line begins.0 [] in
      let before : take (n - 1) lines ≡ given = front_at n given lines is (line ∷ begins.0, after) in
      record {
        from = omega (arith, is);
        to = omega (arith, ap length after, length-append given (line ∷ begins.0), is);
        within = subst (λ (m : ℕ). AreWithin line_limit (take m lines)) (sym is) sound;
        before = subst (AreFine rules) (sym before) fine;
        is = subst (λ (l : List (List ℕ)). Is l (line_at n lines)) (sym before) (subst (λ (l : List ℕ). Is given l) (sym here) refused);
      }

  refused_label : (n : ℕ) → EndsBefore rules b.last most (setting a.left a.written) (setting b.left b.written) (label.Refused n) → Ends how most from to a b (refused_at why n)
  refused_label n stop = by why refl
    where
      line : List ℕ
      line = stop.0

      off : ReadingBreaksOff b.last Lines most (λ lines. (n ≡ length lines + 1) × SoFar lines × IsRefused rules lines line) (λ lines text. Begins (lines ++ line ∷ []) (lines_of text) × IsSoundUpTo Lines (length lines + 1) text) a.left b.left
      off = stop.1

      first : (text : List ℕ) → Begins (off.given ++ line ∷ []) (lines_of text) × IsSoundUpTo Lines (length off.given + 1) text → IsFirstRefused rules (IsRefused rules) n (lines_of text)
      first text comes = first_refused (IsRefused rules) n off.given line text off.known.0 off.known.1.fine off.known.2 comes.0 comes.1

      by : (w : Refusal) → why ≡ w → Ends how most from to a b (refused_at w n)
      by Earlier is =
          refused (fault.Backward n) _ _ off off.known.1
          (λ text begins comes. (subst (λ (w : Refusal). IsRefusedLine rules w (fault.Backward n) (lines_of text)) (sym is) (first text comes), front_at n off.given (lines_of text) off.known.0 begins))
      by Unknown is =
          refused (fault.UnknownTenant n) _ _ off off.known.1
          (λ text begins comes. (subst (λ (w : Refusal). IsRefusedLine rules w (fault.UnknownTenant n) (lines_of text)) (sym is) (first text comes), front_at n off.given (lines_of text) off.known.0 begins))

  ended_before : (f : LabelFault) → EndsBefore rules b.last most (setting a.left a.written) (setting b.left b.written) f → Ends how most from to a b (fault_by_label why f)
  ended_before label.OutOfMemory off = gives_up off.given off.taken off.known off.consumed off.size off.comes
  ended_before label.ReadFault some = stops (λ size. size < most) some
  ended_before label.TooMuch some = stops (λ size. size ≡ most) some
  ended_before label.WriteFault stop = breaks_off stop.0 stop.1
  ended_before (label.LongLine n) off =
      refused (fault.LongLine n) _ _ off off.known
      (λ text begins comes.
      let before : take (n - 1) (lines_of text) ≡ off.given = front_at n off.given (lines_of text) comes.0 begins in (
        ((omega (arith, comes.0), subst (λ (m : ℕ). IsLongBehind Lines m text) (omega (arith, comes.0)) comes.1), subst (AreFine rules) (sym before) off.known.fine),
        before,
      ))
  ended_before (label.BadLine n) stop =
      refused (fault.BadLine n) _ _ stop.1 stop.1.known.1
      (λ text begins comes. (
        first_refused (λ before line. IsBad rules line) n stop.1.given stop.0 text stop.1.known.0 stop.1.known.1.fine stop.1.known.2 comes.0 comes.1,
        front_at n stop.1.given (lines_of text) stop.1.known.0 begins,
      ))
  ended_before (label.Refused n) stop = refused_label n stop

  -- it had read all, and found no memory
  gave_up_last : (n : ℕ) → ReadsAll Lines most n SoFar a.left b.left → GivesUp how most from to a b
  gave_up_last n all =
      let given : List (List ℕ) = lines_of all.taken in
      gives_up given all.taken all.gave all.consumed (omega (arith, all.size))
      (inr (all.end, (([], sym (append-nil given)), subst (AreWithin line_limit) (sym (take_all (length given) given (omega arith))) all.sound)))

  -- it had read all, and a write failed
  broke_off_last : (n : ℕ) → ReadsAll Lines most n (WrotePartLast rules a.written b.written) a.left b.left → BreaksOff how most from to a b
  broke_off_last n all =
      let given : List (List ℕ) = lines_of all.taken in
      let part = all.gave in
      let due : List ℕ = whole_text rules given in
      let all_in_time : IsReadInTime b.last Lines given all.taken = record {
        front = all.taken;
        piece = [];
        joined = sym (append-nil all.taken);
        size = omega arith;
        few = omega arith;
        sound = sound_so_far Lines all.taken all.sound;
        earlier = units_begin Lines all.taken;
      } in
      record {
        taken = all.taken;
        due = due;
        consumed = all.consumed;
        size = omega (arith, all.size);
        is_due = inl (record { end = all.end; fine = (all.sound, part.fine); is_due = refl });
        written = part_at_all (due_so_far rules given) a.written b.written due part.written;
        by_lines = on_true how.writes_by_lines (WritesOn how from b.last all.taken due a.written b.written) (writes_on given all.taken due part.written all_in_time part.fine);
      }

  ended_after : (f : LabelFault) → EndsAfter rules most (setting a.left a.written) (setting b.left b.written) f → Ends how most from to a b (fault_by_label why f)
  ended_after label.OutOfMemory (n, all) = gave_up_last n all
  ended_after label.WriteFault (n, all) = broke_off_last n all
  ended_after f ends = absurd ends

  -- it ended by a fault
  pub labelled_ended : (f : LabelFault) → EndsAt rules b.last most (setting a.left a.written) (setting b.left b.written) f → Ends how most from to a b (fault_by_label why f)
  labelled_ended f (inl ends) = ended_before f ends
  labelled_ended f (inr ends) = ended_after f ends

  -- it ended well
  pub labelled_finished : ReadsLines most (WroteAll rules a.written b.written) a.left b.left → Finishes how most from to a b
  labelled_finished (n, all) = record {
    text = all.taken;
    due = whole_text rules (lines_of all.taken);
    consumed = all.consumed;
    end = all.end;
    size = all.size;
    fine = (all.sound, all.gave.fine);
    is_due = refl;
    leaves = tt;
    written = all.gave.written;
  }

-- it has read nothing and written nothing
pub labelled_not_begun : (rules : Rules) (why : Refusal) (most : ℕ) (from to : Beside) (a : Streams) → GivesUp (reading_labels rules why) most from to a a
labelled_not_begun rules why most from to a = nothing_yet (reading_labels rules why) most from to a [] (λ text. (0, none_within, nothing_is_fine rules, refl))

-- What was due for the first units of a command that writes by a manner.
use Rattle.std.proofs.Common.{◌≡◌, ℕ, ◌+◌, ◌≤◌, List, [], ◌∷◌, ◌++◌, length, take, All, Option, is_some, refl, sym, ap, subst, ◌∙◌, append_assoc}
use Rattle.sk_model.specs.Missing.{Begins}
use Rattle.sk_model.proofs.Missing.{begins_front}
use Rattle.sk_read.specs.Items.{IsGood}
use Rattle.sk_report.specs.Parts.{AppendsPartAfter}
use Rattle.sk_report.proofs.Fronts.{part_after_less}
use Rattle.sk_tell.specs.Manners.{Manner, lines_of_window}
use Rattle.sk_tell.specs.Feeding.{Course}
use Rattle.sk_tell.specs.Endings.{Setting, TellsPart, TellsPartOfAll}
use Rattle.sk_tell.specs.Moments.{Moment, moments_due, IsMoment, Follows, AreMoments}
use Rattle.sk_tell.specs.Texts.{moment_text, interim_text}
use Rattle.sk_cli.specs.Beside.{Beside}
use Rattle.sk_cli.specs.ByManner.{IsInterimText}
use Rattle.sk_cli.proofs.FirstMoments.{first_count, first_grows, first_each, first_earlier}
use Rattle.sk_cli.proofs.WindowFronts.{FrontWindows, front_windows, windows_before_last}

-- the text of the first moments
text_begins : (manner : Manner) (xs ys : List Moment) → (rest : List ℕ) × (interim_text manner (xs ++ ys) ≡ interim_text manner xs ++ rest)
unfolding interim_text
text_begins manner [] ys = (interim_text manner ys, refl)
text_begins manner (m ∷ xs) ys =
    let more = text_begins manner xs ys in
    (more.0, ap (λ (l : List ℕ). moment_text manner m ++ l) more.1 ∙ sym (append_assoc (moment_text manner m) (interim_text manner xs) more.0))

texts_begin : (manner : Manner) (xs ys : List Moment) → Begins xs ys → Begins (interim_text manner xs) (interim_text manner ys)
texts_begin manner xs ys begins = subst (λ (l : List Moment). Begins (interim_text manner xs) (interim_text manner l)) (sym begins.1) (text_begins manner xs begins.0)

module _ (manner : Manner) (units : List (List ℕ)) (course : Course manner units) where
  -- how many moments there are after the first windows
  abbrev first : ℕ → ℕ
  first many = moments_due manner (take many course.windows)

  first_moments : (many : ℕ) → many ≤ length course.windows → AreMoments manner (take many course.windows) (take (first many) course.moments)
  first_moments many within = record {
    count = first_count (is_some manner.window) course.windows course.moments course.asks.count many within;
    grows = first_grows (is_some manner.window) course.windows course.moments course.asks.count Follows course.asks.grows many within;
    each = first_each (is_some manner.window) course.windows course.moments course.asks.count (IsMoment manner) course.asks.each many within;
  }

  module _ (front : List (List ℕ)) (good : All (IsGood manner.kind) front) (is : FrontWindows (lines_of_window manner) front course.windows) (from : Beside) (w w' : Option (List ℕ)) (due : List ℕ) where
    abbrev front_course : Course manner front
    front_course = record { windows = take is.many course.windows; rest = is.rest; moments = take (first is.many) course.moments; good = good; cut = is.cut; asks = first_moments is.many is.within }

    -- their text was written whole, with any beside it, if that of moments which begin with theirs was
    was_due : (moments : List Moment) → Begins (take (first is.many) course.moments) moments → AppendsPartAfter (interim_text manner moments) w w' due → (text : List ℕ) × (beside : Beside) × IsInterimText manner from beside front text × AppendsPartAfter text w w' due
    was_due moments begins part = (
      interim_text manner (take (first is.many) course.moments),
      from,
      record { course = front_course; is = refl },
      part_after_less (interim_text manner (take (first is.many) course.moments)) (interim_text manner moments) w w' due (texts_begin manner (take (first is.many) course.moments) moments begins) part,
    )

-- what was due for the first units was written whole where the text of all of them was, and that of the estimate not
pub due_in_all : (manner : Manner) (old new : Setting) (from : Beside) (units front : List (List ℕ)) → (part : TellsPartOfAll manner old new units) → Begins front units → All (IsGood manner.kind) front → (due : List ℕ)
    → AppendsPartAfter (interim_text manner part.course.moments) old.written new.written due → (text : List ℕ) × (beside : Beside) × IsInterimText manner from beside front text × AppendsPartAfter text old.written new.written due
due_in_all manner old new from units front part begins good due written =
    let c = part.course in
    let is = front_windows (lines_of_window manner) c.windows c.rest front begins.0 (sym c.cut.joined ∙ begins.1) c.cut.full c.cut.unfilled in
    was_due manner units c front good is from old.written new.written due c.moments (begins_front (moments_due manner (take is.many c.windows)) c.moments) written

-- and where a unit fills a window, and of the text of its moment a part was written
pub due_before_last : (manner : Manner) (old new : Setting) (from : Beside) (given front : List (List ℕ)) (unit : List ℕ) → (part : TellsPart manner old new (given ++ unit ∷ [])) → Begins front given → All (IsGood manner.kind) front → (due : List ℕ)
    → AppendsPartAfter (interim_text manner part.earlier) old.written new.written due → (text : List ℕ) × (beside : Beside) × IsInterimText manner from beside front text × AppendsPartAfter text old.written new.written due
due_before_last manner old new from given front unit part begins good due written =
    let c = part.course in
    let fewer = windows_before_last (lines_of_window manner) c.windows c.rest given front unit c.cut part.full begins in
    let first = first_earlier (is_some manner.window) c.windows c.moments c.asks.count part.earlier part.last part.moments fewer.0.many fewer.1 in
    was_due manner (given ++ unit ∷ []) c front good fewer.0 from old.written new.written due part.earlier (subst (λ (l : List Moment). Begins l part.earlier) (sym first) (begins_front (moments_due manner (take fewer.0.many c.windows)) part.earlier)) written

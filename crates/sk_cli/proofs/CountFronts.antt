-- What was due of a count for its first units.
use Rattle.std.proofs.Common.{◌≡◌, ℕ, ◌+◌, ◌≤◌, if◌then◌else◌, List, [], ◌∷◌, ◌++◌, length, take, All, Option, is_some, refl, sym, ap, subst, ◌∙◌, append_assoc}
use Rattle.sk_model.specs.Missing.{Begins}
use Rattle.sk_model.proofs.Missing.{begins_front}
use Rattle.sk_read.specs.Items.{IsGood}
use Rattle.sk_watch.specs.Places.{Place}
use Rattle.sk_report.specs.Parts.{AppendsPartAfter}
use Rattle.sk_report.proofs.Fronts.{part_after_less}
use Rattle.sk_count.specs.declared.plan.Plan.{Plan}
use Rattle.sk_count.specs.Plans.{lines_of_window}
use Rattle.sk_count.specs.Counts.{Setting, Course, TellsPart, TellsPartOfAll}
use Rattle.sk_count.specs.Moments.{Moment, moments_due, IsMoment, Follows, AreMoments}
use Rattle.sk_count.specs.Texts.{moment_text, places_behind, interim_text, interim_by, places_by, armed_by}
use Rattle.sk_cli.specs.Beside.{Beside}
use Rattle.sk_cli.specs.commands.Count.{IsInterim}
use Rattle.sk_cli.proofs.FirstMoments.{first_count, first_grows, first_each, first_earlier}
use Rattle.sk_cli.proofs.WindowFronts.{FrontWindows, front_windows, windows_before_last}

-- the text of the first moments
text_begins : (k : ℕ) (places : List Place) (xs ys : List Moment) → (rest : List ℕ) × (interim_text k places (xs ++ ys) ≡ interim_text k places xs ++ rest)
unfolding interim_text
text_begins k places [] ys = (interim_text k places ys, refl)
text_begins k places (m ∷ xs) ys =
    let more = text_begins k (places_behind k places m) xs ys in
    (more.0, ap (λ (l : List ℕ). moment_text k places m ++ l) more.1 ∙ sym (append_assoc (moment_text k places m) (interim_text k (places_behind k places m) xs) more.0))

texts_begin : (k : ℕ) (places : List Place) (xs ys : List Moment) → Begins xs ys → Begins (interim_text k places xs) (interim_text k places ys)
texts_begin k places xs ys begins = subst (λ (l : List Moment). Begins (interim_text k places xs) (interim_text k places l)) (sym begins.1) (text_begins k places xs begins.0)

module _ (plan : Plan) (units : List (List ℕ)) (course : Course plan units) where
  -- how many moments there are after the first windows
  abbrev first : ℕ → ℕ
  first many = moments_due plan (take many course.windows)

  first_moments : (many : ℕ) → many ≤ length course.windows → AreMoments plan (take many course.windows) (take (first many) course.moments)
  first_moments many within = record {
    count = first_count (is_some plan.window) course.windows course.moments course.asks.count many within;
    grows = first_grows (is_some plan.window) course.windows course.moments course.asks.count (Follows plan.updaters) course.asks.grows many within;
    each = first_each (is_some plan.window) course.windows course.moments course.asks.count (IsMoment plan) course.asks.each many within;
  }

  module _ (front : List (List ℕ)) (good : All (IsGood plan.kind) front) (is : FrontWindows (lines_of_window plan) front course.windows) (from : Beside) (w w' : Option (List ℕ)) (due : List ℕ) where
    abbrev front_course : Course plan front
    front_course = record { windows = take is.many course.windows; rest = is.rest; moments = take (first is.many) course.moments; good = good; cut = is.cut; asks = first_moments is.many is.within }

    -- their text was written whole, with this beside it then, if that of moments which begin with theirs was
    was_due : (moments : List Moment) → Begins (take (first is.many) course.moments) moments → AppendsPartAfter (interim_by plan from.board moments) w w' due → (text : List ℕ) × (beside : Beside) × IsInterim plan from beside front text × AppendsPartAfter text w w' due
    was_due moments begins part = (
      interim_by plan from.board (take (first is.many) course.moments),
      record { board = places_by plan from.board (take (first is.many) course.moments); remains = from.remains },
      record { course = front_course; is = refl; board = refl },
      part_after_less (interim_by plan from.board (take (first is.many) course.moments)) (interim_by plan from.board moments) w w' due (texts_begin plan.k (armed_by plan from.board) (take (first is.many) course.moments) moments begins) part,
    )

-- what was due for the first units was written whole where the text of all of them was, and that of the estimate not
pub due_in_all : (plan : Plan) (old new : Setting) (from : Beside) (units front : List (List ℕ)) → old.places ≡ from.board → (part : TellsPartOfAll plan old new units) → Begins front units → All (IsGood plan.kind) front → (due : List ℕ)
    → AppendsPartAfter (interim_by plan old.places part.course.moments) old.written new.written due → (text : List ℕ) × (beside : Beside) × IsInterim plan from beside front text × AppendsPartAfter text old.written new.written due
due_in_all plan old new from units front same part begins good due written =
    let c = part.course in
    let is = front_windows (lines_of_window plan) c.windows c.rest front begins.0 (sym c.cut.joined ∙ begins.1) c.cut.full c.cut.unfilled in
    was_due plan units c front good is from old.written new.written due c.moments (begins_front (moments_due plan (take is.many c.windows)) c.moments)
    (subst (λ (places : List Place). AppendsPartAfter (interim_by plan places c.moments) old.written new.written due) same written)

-- and where a unit fills a window, and of the text of its moment a part was written
pub due_before_last : (plan : Plan) (old new : Setting) (from : Beside) (given front : List (List ℕ)) (unit : List ℕ) → old.places ≡ from.board → (part : TellsPart plan old new (given ++ unit ∷ [])) → Begins front given → All (IsGood plan.kind) front → (due : List ℕ)
    → AppendsPartAfter (interim_by plan old.places part.earlier) old.written new.written due → (text : List ℕ) × (beside : Beside) × IsInterim plan from beside front text × AppendsPartAfter text old.written new.written due
due_before_last plan old new from given front unit same part begins good due written =
    let c = part.course in
    let fewer = windows_before_last (lines_of_window plan) c.windows c.rest given front unit c.cut part.full begins in
    let first = first_earlier (is_some plan.window) c.windows c.moments c.asks.count part.earlier part.last part.moments fewer.0.many fewer.1 in
    was_due plan (given ++ unit ∷ []) c front good fewer.0 from old.written new.written due part.earlier (subst (λ (l : List Moment). Begins l part.earlier) (sym first) (begins_front (moments_due plan (take fewer.0.many c.windows)) part.earlier))
    (subst (λ (places : List Place). AppendsPartAfter (interim_by plan places part.earlier) old.written new.written due) same written)

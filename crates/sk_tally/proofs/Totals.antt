-- The tally in all items, by whichever order.
use Rattle.std.proofs.Common.{◌≡◌, ℕ, ◌<◌, if◌then◌else◌, List, [], ◌∷◌, ◌++◌, length, Option, None, IsPermutation, is_some, refl, sym, ap, ◌∙◌, arith}
use Rattle.std.proofs.lemmas.List.Sorted.{length_permutation}
use Rattle.sk_model.specs.Entries.{Entry, items_of_entries}
use Rattle.sk_cms.proofs.Estimates.{least_of-IsPermutation}
use Rattle.sk_hub.specs.Hearts.{HeartState}
use Rattle.sk_read.specs.Items.{items_by}
use Rattle.sk_read.specs.declared.kind.Kind.TheVariants.{Hash}
use Rattle.sk_snap.specs.History.{entries_in}
use Rattle.sk_snap.specs.Versions.{Learnt}
use Rattle.sk_tell.specs.Moments.{Moment}
use Rattle.sk_tell.specs.Texts.{interim_text}
use Rattle.sk_tell.specs.Feeding.{Course}
use Rattle.sk_tell.specs.Headline.{IsListOf, TellsLines}
use Rattle.sk_tell.specs.Endings.{Setting, TellsAll}
use Rattle.sk_tell.proofs.HeadlineLaws.{course_of}
use Rattle.sk_tell.proofs.Orders.{all_items}
use Rattle.sk_tally.specs.declared.plan.Plan.{Plan}
use Rattle.sk_tally.specs.Plans.{tally_manner, tally_line}
use Rattle.sk_tally.specs.Headline.{TalliesAll, WritesTally}
use Rattle.sk_tally.specs.Texts.{count_line}

-- the line of the same items in another order is the same
pub any_order : (plan : Plan) (items others : List ℕ) → IsPermutation items others → tally_line plan items ≡ tally_line plan others
any_order plan items others same = λ e. count_line (sym (length_permutation items others same) e) (least_of-IsPermutation plan.rows plan.width plan.item items others same e)

pub of_all : (plan : Plan) (units : List (List ℕ)) (course : Course (tally_manner plan) units) (list : List Entry) → 0 < plan.updaters → IsListOf (tally_manner plan) (course.windows ++ course.rest ∷ []) list
    → tally_line plan (items_of_entries list) ≡ tally_line plan (items_by (Hash plan.seed) units)
of_all plan units course list some is = sym (any_order plan (items_by (Hash plan.seed) units) (items_of_entries list) (all_items (tally_manner plan) units course list is some))

pub tallies_all : (plan : Plan) (units : List (List ℕ)) (h : HeartState) (reader : Learnt) (text : List ℕ) → 0 < plan.updaters → TellsLines (tally_manner plan) units h reader text → TalliesAll plan units text
tallies_all plan units h reader text some told =
    let course = course_of (tally_manner plan) units h reader text told in
    record {
      course = course;
      list = entries_in reader.known;
      has_all = told.list;
      goes = told.goes;
      written = told.written ∙ ap (λ l. interim_text (tally_manner plan) course.moments ++ l) (of_all plan units course (entries_in reader.known) some told.list);
    }

pub writes_tally : (plan : Plan) (old new : Setting) (h : HeartState) (reader : Learnt) (units : List (List ℕ)) → 0 < plan.updaters → TellsAll (tally_manner plan) old new h reader units → WritesTally plan old new units
writes_tally plan old new h reader units some all = record { text = all.text; written = all.written; tallies = tallies_all plan units h reader all.text some all.exactly }

pub no_text : (plan : Plan) (moments : List Moment) → length moments ≡ 0 → interim_text (tally_manner plan) moments ≡ []
unfolding interim_text
no_text plan [] none = refl
no_text plan (m ∷ moments) none = absurd (omega (arith, none))

pub one_line : (plan : Plan) (lines : List (List ℕ)) (text : List ℕ) → plan.window ≡ None → TalliesAll plan lines text → text ≡ tally_line plan (items_by (Hash plan.seed) lines)
one_line plan lines text none all =
    let few : length all.course.moments ≡ 0 = all.course.asks.count ∙ ap (λ (w : Option ℕ). if is_some w then length all.course.windows else 0) none in
    all.written ∙ ap (λ l. l ++ tally_line plan (items_by (Hash plan.seed) lines)) (no_text plan all.course.moments few)

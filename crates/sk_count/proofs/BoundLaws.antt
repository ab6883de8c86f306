-- What an interim list has, from the headline of a count.
use Rattle.std.proofs.Common.{◌≡◌, ℕ, ◌+◌, ◌<◌, List, [], ◌++◌, length, take, drop, get_or, flat_map, All, Contains, refl, sym, ap, subst, ◌∙◌, arith, append_assoc}
use Rattle.std.specs.List.{range_with_len}
use Rattle.std.proofs.lemmas.Grind.{flat_map-append}
use Rattle.std.proofs.lemmas.List.{take-append-drop, take_at}
use Rattle.std.proofs.lemmas.List.Elements.{All-take, All-weaker, Contains-append_left}
use Rattle.sk_model.specs.Entries.{items_of_entries, entries_by}
use Rattle.sk_model.specs.Sketch.{theta_of}
use Rattle.sk_model.proofs.Missing.{begins_trans}
use Rattle.sk_model.proofs.Rising.{Has, Has-from_Contains, Contains-from_Has}
use Rattle.sk_compose.proofs.Smallest.{of_some_updater, kept_within, in_all_parts}
use Rattle.sk_machine.specs.Coarse.{IsEntry}
use Rattle.sk_read.specs.Items.{items_by, IsGood}
use Rattle.sk_fill.specs.Windows.{items_in, all_lines, AreWindows}
use Rattle.sk_fill.proofs.Items.{good_items}
use Rattle.sk_feed.specs.Shares.{share}
use Rattle.sk_feed.proofs.Shares.{all_items}
use Rattle.sk_watch.specs.Places.{Place}
use Rattle.sk_report.specs.declared.remains.Remains.{Remains}
use Rattle.sk_count.specs.declared.plan.Plan.{Plan}
use Rattle.sk_count.specs.Plans.{lines_of_window}
use Rattle.sk_count.specs.Moments.{Moment, kept_by, IsMoment}
use Rattle.sk_count.specs.Steps.{keeps}
use Rattle.sk_count.specs.Headline.{CountsExactly, IsBounded}

-- the units of the first windows
first_units : (most n : ℕ) (units : List (List ℕ)) (windows : List (List (List ℕ))) (rest : List (List ℕ)) → AreWindows most units windows rest → take (length (all_lines (take n windows))) units ≡ all_lines (take n windows)
first_units most n units windows rest cut =
    let first = all_lines (take n windows) in let others = all_lines (drop n windows) in
    let joined : units ≡ first ++ (others ++ rest) =
    cut.joined ∙ ap (λ l. all_lines l ++ rest) (sym (take-append-drop n windows)) ∙ ap (λ l. l ++ rest) (flat_map-append (λ lines. lines) (take n windows) (drop n windows)) ∙ append_assoc first others rest in
    ap (take (length first)) joined ∙ take_at first (others ++ rest) (length first) refl

-- each item of a moment's list is of the lines of its windows
of_lines : (plan : Plan) (windows : List (List (List ℕ))) (m : Moment) (item : ℕ) → IsMoment plan windows m → Contains (items_of_entries m.seen) item → Contains (items_in plan.kind (all_lines windows)) item
of_lines plan windows m item is has =
    let below : All (λ entry. entry.0 < plan.updaters) m.seen = All-weaker (IsEntry plan.updaters) (λ entry. entry.0 < plan.updaters) (λ entry is. is.0) m.seen is.entries in
    let some = of_some_updater plan.updaters m.seen item below (Has-from_Contains (items_of_entries m.seen) item has) in
    let i = some.0 in
    let own = is.own i some.1 in
    let kept : Contains (kept_by m i) item = subst (λ l. Contains l item) (sym own.1) (Contains-append_left (entries_by i m.seen) own.0 item (Contains-from_Has (entries_by i m.seen) item some.2)) in
    let taken : Has (share plan.kind windows plan.updaters i) item =
    kept_within keeps (λ front. theta_of plan.k (items_of_entries front)) m.seen (share plan.kind windows plan.updaters i) (kept_by m i) item (is.kept i some.1) (Has-from_Contains (kept_by m i) item kept) in
    (all_items plan.kind windows plan.updaters item (omega (arith, some.1))).0
    (Contains-from_Has (flat_map (λ j. share plan.kind windows plan.updaters j) (range_with_len 0 plan.updaters)) item
    (in_all_parts (λ j. share plan.kind windows plan.updaters j) 0 plan.updaters i item (omega arith) (omega (arith, some.1)) taken))

pub bounded : (plan : Plan) (units : List (List ℕ)) (board board' : List Place) (remains : Remains) (text : List ℕ) → (exactly : CountsExactly plan units board board' remains text)
    → (j : ℕ) (d : Moment) → j < length exactly.moments → IsBounded plan units exactly.shown.heart.view.seen (get_or exactly.moments j d)
bounded plan units board board' remains text exactly j d within =
    let m = get_or exactly.moments j d in
    let windows = take (j + 1) exactly.windows in
    let is : IsMoment plan windows m = exactly.lacks j d within in
    let first : take m.lines units ≡ all_lines windows = ap (λ n. take n units) is.lines ∙ first_units (lines_of_window plan) (j + 1) units exactly.windows exactly.rest exactly.cut in
    let good : All (IsGood plan.kind) (all_lines windows) = subst (All (IsGood plan.kind)) first (All-take (IsGood plan.kind) m.lines units exactly.good) in
    let items : items_in plan.kind (all_lines windows) ≡ items_by plan.kind (take m.lines units) = good_items plan.kind (all_lines windows) good ∙ ap (items_by plan.kind) (sym first) in record {
      items = λ item has. subst (λ l. Contains l item) items (of_lines plan windows m item is has);
      begins = begins_trans _ _ _ (exactly.shown.asked.seen j d within) exactly.shown.one;
    }

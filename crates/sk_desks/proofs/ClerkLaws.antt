-- Lines that a clerk gave to the one desk that there is.
use Rattle.std.proofs.Common.{◌≡◌, ℕ, ◌+◌, ◌-◌, ◌<◌, ◌≤◌, false, not, Option, None, Some, is_some, Result, Ok, Err, OnOk, OnErr, IfErr, List, [], ◌∷◌, ◌++◌, length, length-drop, length-take, get_or, take, drop, slice_range, set, refl, sym, ap, subst, ◌∙◌, arith, append-nil, length-set, get_or-set_same}
use Rattle.std.proofs.KnownBytes.{Appends-nil}
use Rattle.std.proofs.lemmas.List.{get_or_default, take_all, drop-drop, drop-take}
use Rattle.sk_model.specs.Limits.{most_kept}
use Rattle.sk_label.specs.Labels.{is_labelled, label_of}
use Rattle.sk_label.specs.Stops.{Takes, StopsBy}
use Rattle.sk_label.specs.declared.fault.LineStop.{LineStop}
use Rattle.sk_label.specs.declared.fault.LineStop.TheVariants as stop
use Rattle.sk_fill.specs.Blocks.{block_of}
use Rattle.sk_fill.proofs.Joined.{blocks_joined}
use Rattle.sk_tenant.specs.Desks.{DeskState}
use Rattle.sk_tenant.specs.Names.{place_of}
use Rattle.sk_tenant.proofs.Places.{no_name}
use Rattle.sk_desks.specs.declared.plan.Plan.{Plan}
use Rattle.sk_desks.specs.Desks.{desk_rules}
use Rattle.sk_desks.specs.Feeds.{HasRoom, HasTenants, TakesLines}
use Rattle.sk_desks.specs.Gathers.{IsOfTenant}
use Rattle.sk_desks.specs.Windows.{HaveTaken}
use Rattle.sk_desks.specs.Clerks.{StopsAtLine, GaveAlone}
use Rattle.sk_desks.proofs.Taking.{takes_more, takes_unlabelled, takes_unknown, has_still, room_after}
use Rattle.sk_desks.proofs.BlockLaws.{take_each}

pub empty_unlabelled : (line : List ℕ) → length line ≡ 0 → is_labelled line ≡ false
empty_unlabelled [] empty = refl
empty_unlabelled (x ∷ xs) empty = absurd (omega (arith, empty))

module _ (plan plan' : Plan) (d e : DeskState) (lines : List (List ℕ)) (gave : GaveAlone plan plan' d e lines) where
  pub gave_tenants : HasTenants e
  gave_tenants = has_still plan.seed d e lines gave.took gave.unused.has

  -- there is room for a line more
  pub gave_room : length lines < most_kept → HasRoom 1 e
  gave_room few =
      let room : HasRoom (length lines + 1) d = λ t u within. omega (arith, ap length (gave.unused.none t u within), gave.unused.quota_is, few) in
      room_after plan.seed d e lines 1 gave.unused.has gave.took room

  -- a line more was given
  pub gave_more : (e' : DeskState) (line : List ℕ) → TakesLines plan'.seed e (line ∷ []) e' → IsOfTenant e.names line → Takes (desk_rules plan' e.names) (GaveAlone plan plan' d e') None None lines line
  gave_more e' line took fine = record {
    fine = λ filled. let is = fine filled in (is.0, ap not is.1);
    went = record {
      unused = gave.unused;
      took = takes_more plan.seed d e e' lines (line ∷ []) gave.took (subst (λ (p : Plan). TakesLines p.seed e (line ∷ []) e') gave.plan_stays took);
      plan_stays = gave.plan_stays;
    };
    written = Appends-nil None;
  }

-- the line is refused
pub gave_not : (plan : Plan) (names before : List (List ℕ)) (line : List ℕ) (why : LineStop) → StopsAtLine names line why → StopsBy (desk_rules plan names) None None before line why
gave_not plan names before line stop.BadLine stops = ((stops.0, stops.1), refl)
gave_not plan names before line stop.Refused stops = ((stops.0, stops.1, ap not stops.2), refl)
gave_not plan names before line stop.OutOfMemory stops = absurd stops
gave_not plan names before line stop.WriteFault stops = absurd stops

-- the one desk took all lines
whole_block : (lines : List (List ℕ)) (n : ℕ) → n ≡ 1 → block_of lines 0 n ≡ lines
whole_block lines n one =
    let all : block_of lines 0 1 ++ [] ≡ lines = blocks_joined lines 1 (omega arith) in
    ap (λ (m : ℕ). block_of lines 0 m) one ∙ sym (append-nil (block_of lines 0 1)) ∙ all

pub taken_alone : (seed : ℕ) (first desks : List DeskState) (d' : DeskState) (lines : List (List ℕ)) → length first ≡ 1 → desks ≡ set first 0 d' → TakesLines seed (get_or first 0 d') lines d' → HaveTaken seed first desks lines
taken_alone seed first desks d' lines one is took = record {
  windows = lines ∷ [];
  joined = sym (append-nil lines);
  took = take_each seed first desks lines (ap length is ∙ length-set first 0 d') each;
}
  where
    here : (d : DeskState) → TakesLines seed (get_or first 0 d) (block_of lines 0 (length first)) (get_or desks 0 d)
    here d =
        let same : get_or first 0 d' ≡ get_or first 0 d = get_or_default first 0 d' d (omega (arith, one)) in
        let now : get_or desks 0 d ≡ d' = ap (λ (l : List DeskState). get_or l 0 d) is ∙ get_or-set_same first 0 d' d (omega (arith, one)) in
        subst (λ (e : DeskState). TakesLines seed (get_or first 0 d) (block_of lines 0 (length first)) e) (sym now)
        (subst (λ (e : DeskState). TakesLines seed e (block_of lines 0 (length first)) d') same
        (subst (λ (l : List (List ℕ)). TakesLines seed (get_or first 0 d') l d') (sym (whole_block lines (length first) one)) took))

    each : (i : ℕ) (d : DeskState) → i < length first → TakesLines seed (get_or first i d) (block_of lines i (length first)) (get_or desks i d)
    each i d within =
        let zero : 0 ≡ i = omega (arith, within, one) in
        subst (λ (n : ℕ). TakesLines seed (get_or first n d) (block_of lines n (length first)) (get_or desks n d)) zero (here d)

-- ---- a line that lies in a text

pub whole_line : (line : List ℕ) → slice_range line 0 (length line) ≡ line
whole_line line = take_all (length line - 0) line (omega arith)

pub range_size : (text : List ℕ) (from to : ℕ) → from ≤ to → to ≤ length text → length (slice_range text from to) ≡ to - from
range_size text from to order within = length-take (to - from) (drop from text) ∙ omega (arith, length-drop from text, order, within)

pub range_rest : (text : List ℕ) (from to n : ℕ) → n ≤ to - from → slice_range text (from + n) to ≡ drop n (slice_range text from to)
range_rest text from to n few =
    let m : ℕ = to - (from + n) in
    let size : to - from ≡ n + m = omega (arith, few) in
    sym (ap (λ (k : ℕ). drop n (take k (drop from text))) size ∙ drop-take n m (drop from text) ∙ ap (take m) (drop-drop n from text))

-- ---- a line that is passed over

none_of : (place : Option ℕ) → is_some place ≡ false → place ≡ None
none_of (Some t) is = cc
none_of None is = refl

refused_line : (seed : ℕ) (d : DeskState) (line : List ℕ) (why : LineStop) → StopsAtLine d.names line why → TakesLines seed d (line ∷ []) d
refused_line seed d line stop.BadLine stops = takes_unlabelled seed d line stops.1
refused_line seed d line stop.Refused stops = takes_unknown seed d line (label_of line) refl (no_name d.names (label_of line) (none_of (place_of d.names (label_of line)) stops.2))
refused_line seed d line stop.OutOfMemory stops = absurd stops
refused_line seed d line stop.WriteFault stops = absurd stops

-- a desk took a line, or passed it over
pub taken_or_not : (seed : ℕ) (d d' : DeskState) (line : List ℕ) (result : Result ℕ LineStop) → OnOk result (TakesLines seed d (line ∷ []) d') → IfErr result (StopsAtLine d.names line) → OnErr result (d' ≡ d) → TakesLines seed d (line ∷ []) d'
taken_or_not seed d d' line (Ok n) took stops same = took
taken_or_not seed d d' line (Err why) took stops same = subst (TakesLines seed d (line ∷ [])) (sym same) (refused_line seed d line why stops)

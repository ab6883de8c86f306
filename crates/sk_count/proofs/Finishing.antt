-- Where a count ends, put together.
use Rattle.std.proofs.Common.{◌≡◌, ◌⊎◌, ℕ, ◌<◌, Bool, true, false, if◌then◌else◌, List, [], ◌∷◌, ◌++◌, length, Option, Some, is_some, Result, Ok, Err, IsErrAnd, refl, sym, ap, subst, ◌∙◌, arith}
use Rattle.std.specs.Io.KnownBytes.{Appends}
use Rattle.std.proofs.KnownBytes.{Appends-nil, Appends-trans}
use Rattle.std.proofs.lemmas.List.Elements.{All-nil}
use Rattle.sk_model.specs.Causes.{AppendsPart, Rose, HasCauseIn}
use Rattle.sk_model.specs.Sketch.{fraction_of, unpacked}
use Rattle.sk_hub.specs.Hearts.{HeartState}
use Rattle.sk_read.specs.Items.{IsGood}
use Rattle.sk_read.specs.declared.fault.Fault.{Fault}
use Rattle.sk_read.specs.declared.fault.Fault.TheVariants as fault
use Rattle.sk_read.specs.Units.{units_by}
use Rattle.sk_watch.specs.Places.{Place}
use Rattle.sk_feed.specs.Hubs.{Hub}
use Rattle.sk_fill.proofs.Cutting.{no_units}
use Rattle.sk_fill.proofs.Readings.{nothing_came}
use Rattle.sk_count.specs.declared.plan.Plan.{Plan}
use Rattle.sk_report.specs.declared.remains.Remains.{Remains}
use Rattle.sk_count.specs.Plans.{IsWithin, lines_of_window}
use Rattle.sk_count.specs.Moments.{Moment, AreMoments}
use Rattle.sk_report.specs.Parts.{AppendsPartAfter}
use Rattle.sk_report.specs.Texts.{armed_with}
use Rattle.sk_count.specs.Texts.{interim_text, places_after, last_text, last_lines}
use Rattle.sk_count.specs.Reports.{showing}
use Rattle.sk_count.specs.Opened.{IsOpened, FeedsAll, DrainsAndAsks}
use Rattle.sk_count.specs.Counts.{Setting, setting, TellsSoFar, TellsAll, TellsPartOfAll, StopsFor, EndsBefore, EndsBehind, Counts}
use Rattle.sk_report.proofs.Fronts.{part_of_next}
use Rattle.sk_count.proofs.Endings.{the_estimate, shows_all, shows_moments, one_list, same_hub}

-- ---- before the end

pub ended_by : (last : ℕ) (plan : Plan) (most : ℕ) (old new : Setting) (r : Result Remains Fault) (f : Fault) → IsErrAnd r (λ e. e ≡ f) → EndsBefore plan last most old new f ⊎ EndsBehind plan most old new f → Counts plan last most old new r
ended_by last plan most old new (Ok x) f is ends = absurd is
ended_by last plan most old new (Err e) f is ends = subst (λ z. EndsBefore plan last most old new z ⊎ EndsBehind plan most old new z) (sym is) ends

none : List Moment
none = []

-- nor is a moment due before the first window
no_moments : (plan : Plan) → AreMoments plan [] none
unfolding none
no_moments plan = record {
  count = as_few (is_some plan.window);
  grows = λ i j d less within. absurd (omega arith);
  each = λ j d within. absurd (omega arith);
}
  where
    as_few : (b : Bool) → ◌≡◌ {A = ℕ} 0 (if b then 0 else 0)
    as_few true = refl
    as_few false = refl

nothing_told : (plan : Plan) (left w : Option (List ℕ)) (places armed : List Place) → IsWithin plan → armed ≡ armed_with plan.k plan.alarms places → TellsSoFar plan (setting left w places) (setting left w armed) []
unfolding interim_text places_after none
nothing_told plan left w places armed within is_armed = record {
  course = record { windows = []; rest = []; moments = []; good = All-nil (IsGood plan.kind); cut = no_units (lines_of_window plan) within.window.0; asks = no_moments plan };
  written = Appends-nil w;
  places = is_armed;
}

pub nothing_read : (last : ℕ) (plan : Plan) (most : ℕ) (left w : Option (List ℕ)) (places armed : List Place) → IsWithin plan → armed ≡ armed_with plan.k plan.alarms places → EndsBefore plan last most (setting left w places) (setting left w armed) fault.OutOfMemory
nothing_read last plan most left w places armed within is_armed =
    nothing_came _ (TellsSoFar plan (setting left w places) (setting left w armed)) (StopsFor plan (setting left w places) (setting left w armed)) (units_by plan.column) most left (nothing_told plan left w places armed within is_armed)

-- ---- behind it

module _ (plan : Plan) (a : Hub) (opened : IsOpened plan a) (within : IsWithin plan) (left left' w w' w'' : Option (List ℕ)) (places armed places' : List Place) (is_armed : armed ≡ armed_with plan.k plan.alarms places)
    (b : Hub) (word : ℕ) (h : HeartState) (d : DrainsAndAsks b.heart b.updaters word h) (estimate : ℕ × ℕ) (estimated : estimate ≡ fraction_of plan.k (unpacked plan.k word).0 (unpacked plan.k word).1)
    (units : List (List ℕ)) (fed : FeedsAll plan units a (showing plan.k w armed) b (showing plan.k w' places')) where
  line_is : last_text plan.made estimate ≡ last_lines plan units
  line_is = ap (last_text plan.made) (estimated ∙ the_estimate plan a opened within.updaters.0 units (showing plan.k w armed) (showing plan.k w' places') b fed word h d)

  so_far : Appends w w' (interim_text plan.k (armed_with plan.k plan.alarms places) fed.passes.passes.moments)
  so_far = subst (λ z. Appends w w' (interim_text plan.k z fed.passes.passes.moments)) is_armed fed.passes.passes.written

  pub all_told : Appends w' w'' (last_text plan.made estimate) → TellsAll plan (setting left w places) (setting left' w'' places') (record { heart = Some h; token = Some b.token }) units
  all_told last = record {
    text = interim_text plan.k (armed_with plan.k plan.alarms places) fed.passes.passes.moments ++ last_lines plan units;
    written = Appends-trans w w' w'' (interim_text plan.k (armed_with plan.k plan.alarms places) fed.passes.passes.moments) (last_lines plan units) so_far (subst (Appends w' w'') line_is last);
    exactly = record {
      good = fed.passes.good;
      windows = fed.passes.windows;
      rest = fed.rest;
      cut = fed.passes.cut;
      moments = fed.passes.passes.moments;
      asked = fed.passes.asks.count;
      written = refl;
      alarms = fed.passes.passes.places ∙ ap (λ z. places_after plan.k z fed.passes.passes.moments) is_armed;
      grows = fed.passes.asks.grows;
      lacks = fed.passes.asks.each;
      shown = record {
        heart = h;
        token = b.token;
        left = refl;
        hub = same_hub plan a opened within.updaters.0 units (showing plan.k w armed) (showing plan.k w' places') b fed word h d;
        shows = shows_all plan a opened within.updaters.0 units (showing plan.k w armed) (showing plan.k w' places') b fed word h d;
        asked = shows_moments plan a opened within.updaters.0 units (showing plan.k w armed) (showing plan.k w' places') b fed word h d;
        one = one_list plan a opened within.updaters.0 units (showing plan.k w armed) (showing plan.k w' places') b fed word h d;
      };
    };
  }

  pub part_told : AppendsPart w' w'' (last_text plan.made estimate) → TellsPartOfAll plan (setting left w places) (setting left' w'' places') units
  part_told last = record {
    course = record { windows = fed.passes.windows; rest = fed.rest; moments = fed.passes.passes.moments; good = fed.passes.good; cut = fed.passes.cut; asks = fed.passes.asks };
    written = part_of_next w w' w'' (interim_text plan.k (armed_with plan.k plan.alarms places) fed.passes.passes.moments) (last_lines plan units) so_far (subst (AppendsPart w' w'') line_is last);
    places = fed.passes.passes.places ∙ ap (λ z. places_after plan.k z fed.passes.passes.moments) is_armed;
  }

-- a failed write at the end is the cause of the fault
pub wrote_in_vain : (before mid now : ℕ) (r : Result Remains Fault) (f : Fault) → IsErrAnd r (λ e. e ≡ f) → f ≡ fault.WriteFault → mid ≡ before → Rose mid now → HasCauseIn fault.WriteFault before now r
wrote_in_vain before mid now (Ok x) f is write same rose = absurd is
wrote_in_vain before mid now (Err e) f is write same rose = record { steady = λ no. absurd (no (ap (λ (z : Fault). Err z) (is ∙ write))); failed = λ _. subst (λ b. Rose b now) same rose }

-- A run that is not reported.
use Rattle.std.proofs.Common.{◌≡◌, ℕ, ◌+◌, false, List, [], ◌∷◌, ◌++◌, length, All, MatchBool, sym, ap, refl, ◌∙◌, subst}
use Rattle.std.proofs.lemmas.Bool.{MatchBool-at_false}
use Rattle.sk_read.specs.Items.{IsGood}
use Rattle.sk_fill.specs.Windows.{AreWindows, all_lines}
use Rattle.sk_feed.specs.Hubs.{Hub, IsHub, FeedsWindows, LeavesHub}
use Rattle.sk_ingest.specs.Ingests.{Terms, Feeds, IsReady, IsReported, Reported, GoesSoFar, Ingests}
use Rattle.sk_fill.specs.Stretches.{EndUnfilled}
use Rattle.sk_fill.proofs.Cutting.{all_lines_more}
use Rattle.sk_feed.proofs.HubLaws.{hub_took}
use Rattle.sk_feed.proofs.Between.{first_fed, some_fed}

-- a hub that is not reported stays as it was
pub unreported_hub : {R : Type 0} (t : Terms R) (line : ℕ) (x : Hub) (r : R) (y : Hub) (s : R) → t.plan.interim ≡ false → IsReported t line x r y s → (y ≡ x) × (s ≡ r)
unreported_hub t line x r y s silent told = MatchBool-at_false _ _ silent told

pub quiet_so : {R : Type 0} (t : Terms R) (line : ℕ) (x : Hub) (r : R) → t.plan.interim ≡ false → IsReported t line x r x r
quiet_so t line x r off = subst (λ i. MatchBool i (IsReady t.plan x × LeavesHub x x × IsHub x × t.reports r line x x r) ((x ≡ x) × (r ≡ r))) (sym off) (refl, refl)

-- between windows that were fed together there are hubs
hubs_between : {R : Type 0} (t : Terms R) (before : ℕ) (windows : List (List (List ℕ))) (last : List (List ℕ)) (a b : Hub) (r : R) → t.plan.interim ≡ false → FeedsWindows t.plan.propagator t.keeps t.hint_of t.plan.kind (windows ++ last ∷ []) a b
    → (between : Hub) × Reported t before windows a r between r × Feeds t last between b
unfolding Reported
hubs_between t before [] last a b r off fed = (a, (refl, refl), record { heart = fed.heart; updaters = fed.updaters; token = fed.token })
hubs_between t before (lines ∷ more) last a b r off fed =
    let x = first_fed t.plan.propagator t.keeps t.hint_of t.plan.kind lines (more ++ last ∷ []) a b fed in
    let rest = hubs_between t (before + length lines) more last x.0 b r off x.2 in
    (rest.0, (x.0, x.0, r, x.1, quiet_so t (before + length lines) x.0 r off, rest.1), rest.2)

-- some hub goes through any windows
some_hub : {R : Type 0} (t : Terms R) (before : ℕ) (windows : List (List (List ℕ))) (a : Hub) (r : R) → t.plan.interim ≡ false → (b : Hub) × Reported t before windows a r b r
unfolding Reported
some_hub t before [] a r off = (a, (refl, refl))
some_hub t before (lines ∷ more) a r off =
    let x = some_fed t.plan.propagator t.keeps t.hint_of t.plan.kind lines a in
    let rest = some_hub t (before + length lines) more x.0 r off in
    (rest.0, (x.0, x.0, r, x.1, quiet_so t (before + length lines) x.0 r off, rest.1))

pub cut_so_far : {R : Type 0} (t : Terms R) (units : List (List ℕ)) (windows : List (List (List ℕ))) (rest : List (List ℕ)) (a : Hub) (r : R) → t.plan.interim ≡ false → AreWindows t.plan.window units windows rest → All (IsGood t.plan.kind) units → GoesSoFar t a r r units
cut_so_far t units windows rest a r off cut good =
    let b = some_hub t 0 windows a r off in (rest, b.0, record { windows = windows; cut = cut; good = good; reported = b.1 })

-- all windows were fed, and the last of them is not full
pub ingests_all : {R : Type 0} (t : Terms R) (windows : List (List (List ℕ))) (ends : EndUnfilled t.plan.window windows) (a b : Hub) (r : R) → t.plan.interim ≡ false → All (IsGood t.plan.kind) (all_lines windows) → IsHub a → FeedsWindows t.plan.propagator t.keeps t.hint_of t.plan.kind windows a b
    → Ingests t (all_lines windows) a r b r
ingests_all t windows ends a b r off good hub fed =
    let hubs = hubs_between t 0 ends.before ends.last a b r off (subst (λ l. FeedsWindows t.plan.propagator t.keeps t.hint_of t.plan.kind l a b) ends.joined fed) in record {
      rest = ends.last;
      between = hubs.0;
      goes = record {
        windows = ends.before;
        cut = record { joined = ap (λ l. all_lines l) ends.joined ∙ all_lines_more ends.before ends.last; full = ends.full; unfilled = ends.unfilled };
        good = good;
        reported = hubs.1;
      };
      last = hubs.2;
      hub = hub_took t.plan.propagator t.keeps t.hint_of t.plan.kind windows a b hub fed;
    }

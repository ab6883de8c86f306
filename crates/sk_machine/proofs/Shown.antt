-- The whole machine of one that a shared table shows.
use Rattle.std.proofs.Common.{◌≡◌, ◌≢◌, ℕ, zero, suc, ◌<◌, ◌≤◌, get_or, map, List, [], ◌∷◌, ◌++◌, length, Bool, true, false, cond, arith, append-nil, refl, sym, ap, ◌∙◌, subst, eq-eqb, ne_eqb, eqb}
use mathlib.Core.Option.{some-injective, some-ne-none}
use Rattle.sk_model.specs.Entries.{Entry}
use Rattle.sk_machine.specs.Numbered.{sum_below}
use Rattle.sk_machine.specs.Coarse.{CoarseUpdater, Coarse, At, IsBehindBy, MeetsUpdater, Meets}
use Rattle.sk_machine.specs.Coarse as coarse
use Rattle.sk_machine.specs.Fine.{FineUpdater, Token, Fine}
use Rattle.sk_machine.specs.Fine as fine
use Rattle.sk_machine.specs.Invariant.{IsBehind, IsOut, FitsUpdater, IsSound, is_ready, coarse_updater, stage_of, coarse_of}
use Rattle.sk_machine.specs.Shown.{IsView, AllKnowBeginnings, token_of, ShowsUpdater, Whole}
use Rattle.sk_machine.specs.declared.states.Mark.{Mark}
use Rattle.sk_machine.specs.declared.states.Mark.TheVariants.{Neither, Ready, Swapped}
use Rattle.sk_machine.specs.declared.states.Progress.{Progress}
use Rattle.sk_machine.specs.declared.states.Progress.TheVariants as progresses
use Rattle.sk_machine.specs.declared.views.Stage.{Stage}
use Rattle.sk_machine.specs.declared.views.Stage.TheVariants.{Idle, Busy, Published}
use Rattle.sk_machine.specs.declared.views.View.{View}
use Rattle.sk_machine.proofs.Numbered.{sum_below_one}
use Rattle.sk_machine.proofs.Sound.{unswapped}
use Rattle.sk_machine.proofs.Parts.{eight_parts}

-- ---- the state that is taken of those that a table does not distinguish

abbrev mark_of : Bool → Mark
mark_of true = Ready
mark_of false = Neither

-- held, since at turn 0 a batch may not be one that was only found
abbrev progress_of : Stage → Progress
progress_of Idle = progresses.Idle
progress_of (Busy k batch) = progresses.Holding k
progress_of (Published k) = progresses.Published k

abbrev hand_of : Stage → List ℕ
hand_of Idle = []
hand_of (Busy k batch) = batch
hand_of (Published k) = []

-- whether the slot of updater i is at home
abbrev home_of : Stage → ℕ → Bool
home_of Idle i = true
home_of (Busy k batch) i = cond (eqb k i) false true
home_of (Published k) i = cond (eqb k i) false true

abbrev slot_of : Stage → ℕ → CoarseUpdater → List ℕ
slot_of stage i u = cond (eqb u.word 0) (cond (home_of stage i) u.waiting []) []

abbrev whole_updater : (List Entry → ℕ) → ℕ → Stage → ℕ → CoarseUpdater → FineUpdater
whole_updater hint size stage i u = record {
  size = size;
  hint = hint u.mine.base;
  fill = [];
  word = u.word;
  slot = slot_of stage i u;
  home = home_of stage i;
  mark = mark_of u.mine.ready;
  kept = u.mine.handed;
  handed = u.mine.handed;
  given = u.given;
  base = u.mine.base;
}

-- where no seat is
abbrev nobody : Token
nobody = record { live = false; seen = []; known = λ i. [] }

abbrev whole : (List Entry → ℕ) → (List Entry → ℕ) → ℕ → Coarse → List View → Fine
whole hint packed n m views = record {
  n = n;
  published = m.published;
  word = packed m.published;
  updaters = λ i. whole_updater hint (m.sizes i) m.stage i (m.updaters i);
  progress = progress_of m.stage;
  in_hand = hand_of m.stage;
  turn = m.turn;
  offers = sum_below n (λ i. length (m.updaters i).mine.handed);
  made = length views;
  tokens = λ j. get_or (map token_of views) j nobody;
}

-- ---- it shows what it should

ready_is : (ready : Bool) → is_ready (mark_of ready) ≡ ready
ready_is true = refl
ready_is false = refl

never_swapped : (ready : Bool) → mark_of ready ≢ Swapped
never_swapped true e = cc
never_swapped false e = cc

never_put : (s : Stage) (i : ℕ) → progress_of s ≢ progresses.Put i
never_put Idle i e = cc
never_put (Busy k batch) i e = cc
never_put (Published k) i e = cc

stage_is : (updaters : ℕ → FineUpdater) (s : Stage) → stage_of updaters (hand_of s) (progress_of s) ≡ s
stage_is updaters Idle = refl
stage_is updaters (Busy k batch) = refl
stage_is updaters (Published k) = refl

rests : (s : Stage) → coarse.MayRest s → fine.MayRest (progress_of s)
rests Idle r = tt
rests (Busy k batch) r = tt
rests (Published k) r = absurd r

-- a slot is out where the propagator is at its updater
out_at : (s : Stage) (i : ℕ) → At s i → IsOut (progress_of s) i
out_at Idle i at = at
out_at (Busy k batch) i at = at
out_at (Published k) i at = at

away : (s : Stage) (i : ℕ) → IsOut (progress_of s) i → home_of s i ≡ false
away Idle i out = absurd out
away (Busy k batch) i out = ap (λ c. cond c false true) (eq-eqb k i out)
away (Published k) i out = ap (λ c. cond c false true) (eq-eqb k i out)

at_home : (s : Stage) (i : ℕ) → ¬ At s i → home_of s i ≡ true
at_home Idle i apart = refl
at_home (Busy k batch) i apart = ap (λ c. cond c false true) (ne_eqb k i apart)
at_home (Published k) i apart = ap (λ c. cond c false true) (ne_eqb k i apart)

slot_waits : (s : Stage) (i : ℕ) (u : CoarseUpdater) → ¬ At s i → u.word ≡ 0 → slot_of s i u ≡ u.waiting
slot_waits s i u apart z = ap (λ c. cond c (cond (home_of s i) u.waiting []) []) (eq-eqb u.word 0 z) ∙ ap (λ c. cond c u.waiting []) (at_home s i apart)

slot_empty : (s : Stage) (i : ℕ) (u : CoarseUpdater) → u.word ≢ 0 → slot_of s i u ≡ []
slot_empty s i u w = ap (λ c. cond c (cond (home_of s i) u.waiting []) []) (ne_eqb u.word 0 w)

-- ---- an updater

module _ (hint : List Entry → ℕ) (b : ℕ) (h : List Entry) (i : ℕ) (u : CoarseUpdater) where
  still_closed : (s : Stage) → u.word ≡ 0 → coarse.IsClosed b h i u s → coarse.IsClosed b h i (coarse_updater (whole_updater hint b s i u)) s
  still_closed Idle z t = subst (IsBehindBy b h i u) (sym (slot_waits Idle i u (λ at. at) z)) t
  still_closed (Busy k batch) z t = (t.0, λ ne. subst (IsBehindBy b h i u) (sym (slot_waits (Busy k batch) i u ne z)) (t.1 ne))
  still_closed (Published k) z t = (t.0, λ ne. subst (IsBehindBy b h i u) (sym (slot_waits (Published k) i u ne z)) (t.1 ne))

  still_meets : (s : Stage) → MeetsUpdater hint b h s i u → MeetsUpdater hint b h s i (coarse_updater (whole_updater hint b s i u))
  still_meets s o = record {
    given_is = o.given_is;
    base_is = o.base_is;
    open_hint = o.open_hint;
    open_given = o.open_given;
    open_all = o.open_all;
    open_apart = o.open_apart;
    closed_ready = λ z. ready_is u.mine.ready ∙ o.closed_ready z;
    closed_rested = λ _. refl;
    ready_base = λ on. o.ready_base (sym (ready_is u.mine.ready) ∙ on);
    closed_more = o.closed_more;
    closed = λ z. still_closed s z (o.closed z);
    items = o.items;
    few = o.few;
    vacant = λ z. let v = o.vacant z in (v.0, ready_is u.mine.ready ∙ v.1);
  }

  fits : (s : Stage) (offers : ℕ) → length u.mine.handed ≤ offers → MeetsUpdater hint b h s i u → FitsUpdater hint (progress_of s) offers i (whole_updater hint b s i u)
  fits s offers counted o = record {
    items = record { items = o.items; few = o.few };
    holds = record {
      kept = sym (ap (λ l. u.mine.handed ++ l ++ []) (unswapped (mark_of u.mine.ready) (slot_of s i u) (never_swapped u.mine.ready)) ∙ append-nil (u.mine.handed ++ []) ∙ append-nil u.mine.handed);
      fill = omega arith;
      swapped = λ e. absurd (never_swapped u.mine.ready e);
      vacant = λ z. let v = o.vacant z in (v.0, ap mark_of v.1);
    };
    hint_is = refl;
    counted = counted;
    home = λ apart. at_home s i (λ at. apart (out_at s i at));
    out = away s i;
    empty = λ w _. slot_empty s i u w;
    laid = λ e. absurd (never_put s i e);
  }

  shows_updater : (s : Stage) → ShowsUpdater s b i u (whole_updater hint b s i u)
  shows_updater s = record {
    size = refl;
    word = refl;
    given = refl;
    handed = refl;
    base = refl;
    ready = ready_is u.mine.ready;
    home = at_home s i;
    waiting = slot_waits s i u;
    empty = slot_empty s i u;
    fill = refl;
    kept = refl;
  }

-- ---- tokens

token_at : (views : List View) (j : ℕ) (v : View) → IsView views j v → get_or (map token_of views) j nobody ≡ token_of v
token_at [] j v is = absurd (some-ne-none v (sym is))
token_at (w ∷ views) zero v is = ap token_of (some-injective w v is)
token_at (w ∷ views) (suc j) v is = token_at views j v is

each_token : (P : Token → Type 0) (views : List View) → ((j : ℕ) (v : View) → IsView views j v → v.live ≡ true → P (token_of v))
    → (j : ℕ) → j < length views → (get_or (map token_of views) j nobody).live ≡ true → P (get_or (map token_of views) j nobody)
each_token P [] all j near live = absurd (omega arith)
each_token P (v ∷ views) all zero near live = all zero v refl live
each_token P (v ∷ views) all (suc j) near live = each_token P views (λ k w is. all (suc k) w is) j (omega arith) live

-- ---- the machine

module _ (hint packed : List Entry → ℕ) (n : ℕ) (m : Coarse) (views : List View) where
  abbrev f : Fine
  f = whole hint packed n m views

  meets : Meets hint n m → Meets hint n (coarse_of f)
  meets ok = subst (λ (s : Stage). Meets hint n (record { published = m.published; stage = s; turn = m.turn; sizes = m.sizes; updaters = λ i. coarse_updater (f.updaters i) })) (sym (stage_is f.updaters m.stage))
      (record {
        entries = ok.entries;
        stage_at = ok.stage_at;
        turn_within = ok.turn_within;
        turn_free = ok.turn_free;
        each = λ i near. still_meets hint (m.sizes i) m.published i (m.updaters i) m.stage (ok.each i near);
      })

  sound : Meets hint n m → AllKnowBeginnings n m views → IsSound hint packed f
  sound ok behind = record {
    coarse = meets ok;
    fits = record {
      word = refl;
      free = λ z. rests m.stage (ok.turn_free z);
      each = λ i near. fits hint (m.sizes i) m.published i (m.updaters i) m.stage f.offers (sum_below_one n i (λ j. length (m.updaters j).mine.handed) near) (ok.each i near);
      tokens = each_token (IsBehind f) views (λ j v is live. let o = behind j v is live in record { seen = o.seen; known = o.known });
    };
  }

  pub shown_by : Meets hint n m → AllKnowBeginnings n m views → Whole hint packed n m views
  shown_by ok behind = let is = sound ok behind in record {
    machine = f;
    invariant = eight_parts hint packed f is;
    sound = is;
    shown = record {
      count = refl;
      published = refl;
      stage = stage_is f.updaters m.stage;
      turn = refl;
      updaters = λ i _. shows_updater hint (m.sizes i) m.published i (m.updaters i) m.stage;
      made = refl;
      tokens = token_at views;
    };
  }

-- The eight parts of the invariant, from what the coarse machine says and what it does not.
use Rattle.std.proofs.Common.{◌≡◌, ◌≢◌, ℕ, ◌+◌, ◌*◌, ◌<◌, ◌≤◌, List, [], ◌++◌, length, true, arith, length-append, append_assoc, refl, sym, ap, ◌∙◌, subst}
use Rattle.std.proofs.lemmas.List.Elements.{All-nil}
use mathlib.Core.Logic.{dite}
use native.Mathlib.Decide.{ℕ_discrete}
use Rattle.sk_model.specs.Entries.{Entry, entries_by}
use Rattle.sk_model.specs.Missing.{LacksAtMost}
use Rattle.sk_model.proofs.Missing.{begins_refl, lacks_some, missing_adds_up}
use Rattle.sk_machine.specs.Coarse.{Coarse, At, MeetsUpdater, Meets}
use Rattle.sk_machine.specs.Coarse as coarse
use Rattle.sk_machine.specs.Fine.{FineUpdater, Fine, fine_start}
use Rattle.sk_machine.specs.Invariant.{IsAt, IsOut, IsServed, HoldsKept, FitsUpdater, IsSound, Invariant, swapped_items, coarse_updater, stage_of, coarse_of}
use Rattle.sk_machine.specs.declared.states.Mark.{Mark}
use Rattle.sk_machine.specs.declared.states.Mark.TheVariants.{Neither, Ready, Swapped}
use Rattle.sk_machine.specs.declared.states.Progress.{Progress}
use Rattle.sk_machine.specs.declared.states.Progress.TheVariants.{Idle, Found, Holding, Published, Put}
use Rattle.sk_machine.proofs.Coarse.{starts, open_ready, lacks, lacks_known}
use Rattle.sk_machine.proofs.Sound.{neither_of, ready_of, at_of}
use Rattle.sk_model.specs.Width.{IsItem}

-- the five cases of the propagator's progress, for an updater whose word is 0
served : (published : List Entry) (updaters : ℕ → FineUpdater) (in_hand : List ℕ) (offers i : ℕ) (hint : List Entry → ℕ) (p : Progress)
    → coarse.IsClosed (updaters i).size published i (coarse_updater (updaters i)) (stage_of updaters in_hand p) → FitsUpdater hint p offers i (updaters i) → IsServed published in_hand i (updaters i) p
served published updaters in_hand offers i hint Idle c o = (o.home (λ out. out), c.0, c.1)
served published updaters in_hand offers i hint (Found k) c o = dite (ℕ_discrete k i)
    (λ e. let t = subst (λ j. coarse.IsBehindBy (updaters i).size published i (coarse_updater (updaters i)) (updaters j).slot) e (c.0 e) in (o.home (λ out. out), t.0, t.1))
    (λ ne. let t = c.1 ne in (o.home (λ out. out), t.0, t.1))
served published updaters in_hand offers i hint (Holding k) c o = ((λ e. let t = c.0 e in (o.out e, t.0, t.1)), λ ne. let t = c.1 ne in (o.home ne, t.0, t.1))
served published updaters in_hand offers i hint (Published k) c o = ((λ e. (o.out e, sym (c.0 e))), λ ne. let t = c.1 ne in (o.home ne, t.0, t.1))
served published updaters in_hand offers i hint (Put k) c o = ((λ e. (o.home (λ out. out), o.laid (ap Put e), sym (c.0 e))), λ ne. let t = c.1 ne in (o.home (λ out. out), t.0, t.1))

-- the slot of an updater whose word is not 0 is at home
open_home : (p : Progress) (i : ℕ) → ¬ IsAt p i → ¬ IsOut p i
open_home Idle i apart out = out
open_home (Found k) i apart out = out
open_home (Holding k) i apart out = apart out
open_home (Published k) i apart out = apart out
open_home (Put k) i apart out = out

module _ (hint packed : List Entry → ℕ) (f : Fine) where
  pub eight_parts : IsSound hint packed f → Invariant hint packed f
  eight_parts ok = record {
    word = ok.fits.word;
    entries = ok.coarse.entries;
    items = λ i near. (ok.fits.each i near).items;
    kept = λ i near. (ok.fits.each i near).holds;
    hints = λ i near. let o = ok.fits.each i near in let c = ok.coarse.each i near in record { hint_is = o.hint_is; base = c.base_is; given = c.given_is };
    opened = λ i near w. let o = ok.fits.each i near in let c = ok.coarse.each i near in
        let apart : ¬ IsAt f.progress i = λ at. c.open_apart w (at_of f.updaters f.in_hand f.progress i at) in record {
          word = c.open_hint w;
          given_all = c.open_given w;
          published_all = c.open_all w;
          home = o.home (open_home f.progress i apart);
          slot = o.empty w;
          apart = apart;
        };
    closed = λ i near z. let o = ok.fits.each i near in let c = ok.coarse.each i near in record {
      mark = neither_of (f.updaters i).mark (c.closed_ready z);
      handed = λ none. let more = c.closed_more z in let e = ap length none in absurd (omega arith);
      served = served f.published f.updaters f.in_hand f.offers i hint f.progress (c.closed z) o;
    };
    ready = λ i near mark. open_ready hint (f.updaters i).size f.published (stage_of f.updaters f.in_hand f.progress) i (coarse_updater (f.updaters i)) (ok.coarse.each i near) (ready_of (f.updaters i).mark mark);
    tokens = ok.fits.tokens;
    free = ok.fits.free;
    turn = ok.coarse.turn_within;
  }

  -- ---- what is missing

  -- of what an updater handed over, and of what a token knows of it, at most a buffer
  pub lacks_handed : (i : ℕ) → IsSound hint packed f → i < f.n → LacksAtMost (f.updaters i).handed (entries_by i f.published) (f.updaters i).size
  lacks_handed i ok near = lacks hint f.n (coarse_of f) i ok.coarse near

  pub lacks_of_token : (t i : ℕ) → IsSound hint packed f → t < f.made → (f.tokens t).live ≡ true → i < f.n → LacksAtMost ((f.tokens t).known i) (entries_by i f.published) (f.updaters i).size
  lacks_of_token t i ok made live near = lacks_known hint f.n (coarse_of f) i ((f.tokens t).known i) ok.coarse near ((ok.fits.tokens t made live).known i near)

  -- of what it kept, at most two
  kept_short : (u : FineUpdater) → HoldsKept u → length (swapped_items u.mark u.slot ++ u.fill) ≤ u.size
  kept_short u o = by_mark u.mark refl
    where
      by_mark : (m : Mark) → u.mark ≡ m → length (swapped_items m u.slot ++ u.fill) ≤ u.size
      by_mark Neither e = o.fill
      by_mark Ready e = o.fill
      by_mark Swapped e = let s = o.swapped e in let batch = s.1.1 in let none = ap length s.0 in omega (arith, length-append u.slot u.fill)

  pub lacks_kept : (i : ℕ) → IsSound hint packed f → i < f.n → LacksAtMost (f.updaters i).kept (entries_by i f.published) (2 * (f.updaters i).size)
  lacks_kept i ok near =
      let u = f.updaters i in let o = (ok.fits.each i near).holds in
      subst (LacksAtMost u.kept (entries_by i f.published)) (omega arith)
      (missing_adds_up u.kept u.handed (entries_by i f.published) u.size u.size
      (lacks_some u.kept u.handed (swapped_items u.mark u.slot ++ u.fill) u.size (o.kept ∙ append_assoc u.handed (swapped_items u.mark u.slot) u.fill) (kept_short u o))
      (lacks_handed i ok near))

-- ---- the start

pub starts_sound : (hint packed : List Entry → ℕ) (n : ℕ) (sizes : ℕ → ℕ) → hint [] ≢ 0 → IsSound hint packed (fine_start hint packed n sizes)
starts_sound hint packed n sizes some = record {
  coarse = starts hint n sizes (n + 1) some (omega arith);
  fits = record {
    word = refl;
    free = λ z. absurd (omega arith);
    each = λ i near. record {
      items = record { items = All-nil IsItem; few = omega arith };
      holds = record { kept = refl; fill = omega arith; swapped = λ s. absurd (not_swapped s); vacant = λ _. (refl, refl) };
      hint_is = refl;
      counted = omega arith;
      home = λ _. refl;
      out = λ out. absurd out;
      empty = λ _ _. refl;
      laid = λ _. refl;
    };
    tokens = λ t near live. record { seen = begins_refl []; known = λ i _. begins_refl [] };
  };
}
  where
    not_swapped : Neither ≡ Swapped → ⊥
    not_swapped e = cc

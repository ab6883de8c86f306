-- What a pump does to the updater that it is lent, and what it leaves alone.
use Rattle.std.specs.Prelude.{◌≡◌, ◌⊎◌, ℕ, ◌+◌, ◌-◌, ◌^◌, ◌≤◌, min, List, [], ◌∷◌, ◌++◌, All, Bool, true, false, Option, None, Some}
use Rattle.sk_machine.specs.declared.views.Move.{Move}
use Rattle.sk_machine.specs.declared.views.Move.TheVariants.{Look}
use Rattle.sk_hub.specs.Hearts.{HeartState}
use Rattle.sk_machine.specs.declared.views.View.{View}
use Rattle.sk_hub.specs.Rounds.{KnowsAsMuch, Sweeps, IsElsewhere, Refuses}
use Rattle.sk_hub.specs.Updaters.{UpdaterState}

-- ---- its count

-- a count after one call more; it stops at the end of `u64`
abbrev pub after_one : ℕ → ℕ
after_one count = min (count + 1) (2 ^ 64 - 1)

-- a count rose at least so far, or stands at its end
abbrev pub HasRisen : ℕ → ℕ → ℕ → Type 0
HasRisen n before now = min (before + n) (2 ^ 64 - 1) ≤ now

-- ---- what it stands on

-- plain data that no pumping changes: the ghost names of the borrows that a pump holds, and what stays of the heart
-- that it borrows, if it borrows one
pub record Footing : Type 0 where
  pub borrows : List ℕ
  pub heart : Option HeartState

-- a heart but for what propagating changes: its hub, what it knows of updaters, whom it drained and admitted
abbrev pub lasting : HeartState → HeartState
lasting h = record h { view = record h.view { seen = []; steps = []; given = []; sizes = [] } }

abbrev pub no_footing : Footing
no_footing = record { borrows = []; heart = None }

abbrev pub footing_on : ℕ → HeartState → Footing
footing_on name h = record { borrows = name ∷ []; heart = Some (lasting h) }

-- ---- what it does

-- whoever has this view took the turn and served each of n updaters once, or found another seat at it; or memory was
-- wanting for a batch
abbrev pub TriesToSweep : ℕ → View → View → Type 0
TriesToSweep n v w = ((count : ℕ) × Sweeps v n count w) ⊎ (((other : ℕ) × IsElsewhere v other w) ⊎ Refuses v 0 n w)

-- ---- the updater

abbrev pub is_look : Move → Bool
is_look (Look i word) = true
is_look _ = false

-- the same updater of the same hub, with what it kept, handed over and filters by; it may have propagated, and took no look
pub record IsPumped (u u' : UpdaterState) : Type 0 where
  pub stays : u' ≡ record u { view = u'.view }
  pub knows : KnowsAsMuch u.view u'.view
  pub steps : List Move
  pub taken : u'.view.steps ≡ u.view.steps ++ steps
  pub no_look : All (λ step. is_look step ≡ false) steps

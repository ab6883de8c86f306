-- How a hub that was fed is closed, and the last line written.
use Rattle.std.specs.Prelude.{◌≡◌, ℕ, ◌≤◌, List, Option}
use Rattle.sk_model.specs.Causes.{AppendsPart}
use Rattle.sk_hub.specs.Hearts.{HeartState}
use Rattle.sk_read.specs.declared.fault.Fault.{Fault}
use Rattle.sk_read.specs.declared.fault.Fault.TheVariants.{OutOfMemory, WriteFault}
use Rattle.sk_feed.specs.Hubs.{Hub}
use Rattle.sk_snap.specs.Versions.{Learnt, items_in}
use Rattle.sk_learn.specs.Closing.{Closes}

-- the heart took in all updaters and the reader learnt all that they kept; of the items it then knows holds what an
-- answer says, and their line was written so
pub record Finishes {Q : Type 0} (line : Q → List ℕ → List ℕ → List ℕ) (lower upper : Q → List ℕ → List ℕ → ℕ) (query : Q) (hub : Hub) (r : Learnt) (Written : List ℕ → Type 0) (h : HeartState) (s : Learnt) : Type 0 where
  pub closes : Closes hub.heart hub.updaters r h s
  pub holds : lower query r.numbers (items_in s.known) ≤ upper query r.numbers (items_in s.known)
  pub written : Written (line query r.numbers (items_in s.known))

-- if a write failed a part of the line was written; out of memory nothing was; and it stops for nothing else
abbrev pub StopsShort : {Q : Type 0} → (Q → List ℕ → List ℕ → List ℕ) → (Q → List ℕ → List ℕ → ℕ) → (Q → List ℕ → List ℕ → ℕ) → Q → Hub → Learnt → Option (List ℕ) → Option (List ℕ) → Fault → Type 0
StopsShort line lower upper query hub r w w' WriteFault = (h : HeartState) × (s : Learnt) × Finishes line lower upper query hub r (AppendsPart w w') h s
StopsShort line lower upper query hub r w w' OutOfMemory = w' ≡ w
StopsShort line lower upper query hub r w w' other = ⊥

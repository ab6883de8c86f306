-- Functions of an updater's number.
use Rattle.std.specs.Prelude.{ℕ, ◌+◌, zero, suc}
use native.Mathlib.Decide.{ℕ_discrete}

abbrev pub chosen : {A P : Type 0} → Dec P → A → A → A
chosen (yes _) a b = a
chosen (no _) a b = b

-- the function f, with c at i
unfoldable pub put : {A : Type 0} → (ℕ → A) → ℕ → A → ℕ → A
put f i c j = chosen (ℕ_discrete j i) c (f j)

-- the sum of f over the numbers below n
unfoldable pub sum_below : ℕ → (ℕ → ℕ) → ℕ
sum_below zero f = 0
sum_below (suc n) f = sum_below n f + f n

-- Items in order.
use Rattle.std.specs.Prelude.{ℕ, nat_lt, if◌then◌else◌, List, [], ◌∷◌}

-- rising items with x in its place
unfoldable pub rising_with : ℕ → List ℕ → List ℕ
rising_with x [] = x ∷ []
rising_with x (y ∷ items) = if nat_lt x y then x ∷ y ∷ items else y ∷ rising_with x items

-- the same items, rising
unfoldable pub in_order : List ℕ → List ℕ
in_order [] = []
in_order (x ∷ items) = rising_with x (in_order items)

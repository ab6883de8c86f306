-- One word more.
use Rattle.std.proofs.Common.{◌≡◌, ℕ, List, [], ◌∷◌, ◌++◌, All, refl, subst}
use Rattle.sk_model.specs.Entries.{Entry}
use Rattle.sk_model.specs.Missing.{Begins}
use Rattle.sk_machine.specs.Coarse.{IsEntry}
use Rattle.uses.specs.Words.{AreWords}

pub no_words : (packed : List Entry → ℕ) (n : ℕ) (list : List Entry) → AreWords packed n list [] list
unfolding AreWords
no_words packed n list = refl

pub words_more : (packed : List Entry → ℕ) (n : ℕ) (from : List Entry) (words : List ℕ) (to next : List Entry) (word : ℕ)
    → AreWords packed n from words to → Begins to next → All (IsEntry n) next → word ≡ packed next → AreWords packed n from (words ++ word ∷ []) next
unfolding AreWords
words_more packed n from [] to next word so_far grows entries is = (next, subst (λ l. Begins l next) so_far grows, entries, is, refl)
words_more packed n from (w ∷ words) to next word so_far grows entries is =
    (so_far.0, so_far.1, so_far.2, so_far.3, words_more packed n so_far.0 words to next word so_far.4 grows entries is)

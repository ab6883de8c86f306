-- What a word joins that joins names.
use Rattle.std.proofs.Common.{◌≡◌, ◌≢◌, ℕ, ◌<◌, ◌≤◌, ◌==◌, nat_le, Bool, true, false, ◌&&◌, ◌||◌, not, List, [], ◌∷◌, length, All, AllPairs, refl, sym, ap, arith}
use Rattle.std.specs.List.{list_any}
use Rattle.std.specs.Prelude.{bytes_eq}
use Rattle.std.proofs.lemmas.Bool.{not-true, both_ways, leb-true}
use Rattle.std.proofs.lemmas.List.Elements.{All-nil, All-cons}
use Rattle.std.proofs.lemmas.List.Kept.{AllPairs-cons}
use Rattle.std.proofs.lemmas.Slice.Eq.{bytes_eq-Decides}
use Rattle.sk_cli.specs.Names.{most_names, is_name, is_among, are_names, AreTenantNames}
use Rattle.sk_cli.specs.Values.{Word, parts_of}
use Rattle.sk_cli.proofs.ValueLaws.{some_part}

both : (a b : Bool) → (a && b) ≡ true → (a ≡ true) × (b ≡ true)
both true b is = (refl, is)
both false b is = absurd (both_ways false refl is)

-- a word that is none of these differs from each
none_among : (word : Word) (words : List Word) → is_among word words ≡ false → All (λ other. word ≢ other) words
none_among word [] none = All-nil (λ other. word ≢ other)
none_among word (other ∷ words) none = by (bytes_eq other word) refl none (none_among word words)
  where
    by : (b : Bool) → bytes_eq other word ≡ b → (b || is_among word words) ≡ false → (is_among word words ≡ false → All (λ other. word ≢ other) words) → All (λ other. word ≢ other) (other ∷ words)
    by true is none others = absurd (both_ways true none refl)
    by false is none others = All-cons (λ other. word ≢ other) other words (λ same. both_ways (bytes_eq other word) is ((bytes_eq-Decides other word).1 (sym same))) (others none)

some_byte : (word : Word) → not (length word == 0) ≡ true → 0 < length word
some_byte [] is = absurd (both_ways false refl is)
some_byte (byte ∷ word) is = omega arith

abbrev spaceless : Word → Type 0
spaceless word = list_any (λ byte. byte == 32) word ≡ false

each_named : (words : List Word) → are_names words ≡ true → All (λ word. 0 < length word) words × All spaceless words × AllPairs (λ a b. a ≢ b) words
each_named [] is = (All-nil (λ word. 0 < length word), All-nil spaceless, λ i j d less below. absurd (omega arith))
each_named (word ∷ words) is =
    let first = both (is_name word && not (is_among word words)) (are_names words) is in
    let new = both (is_name word) (not (is_among word words)) first.0 in
    let name = both (not (length word == 0)) (not (list_any (λ byte. byte == 32) word)) new.0 in
    let others = each_named words first.1 in (
      All-cons (λ word. 0 < length word) word words (some_byte word name.0) others.0,
      All-cons spaceless word words (not-true (list_any (λ byte. byte == 32) word) name.1) others.1,
      AllPairs-cons (λ a b. a ≢ b) word words (none_among word words (not-true (is_among word words) new.1)) others.2,
    )

-- a word that joins names, and few
pub joined_names : (word : Word) → (nat_le (length (parts_of word)) most_names && are_names (parts_of word)) ≡ true → AreTenantNames (parts_of word)
joined_names word is =
    let two = both (nat_le (length (parts_of word)) most_names) (are_names (parts_of word)) is in
    let named = each_named (parts_of word) two.1 in
    record { some = some_part word; few = leb-true (length (parts_of word)) most_names two.0; each = named.0; spaceless = named.1; differ = named.2 }

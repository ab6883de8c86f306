-- What a state stores at the start.
use Rattle.std.proofs.Common.{◌≡◌, ℕ, zero, suc, ◌+◌, ◌-◌, ◌<◌, ◌≤◌, List, [], ◌∷◌, ◌++◌, length, take, get_or, replicate, slice_index, true, arith, refl, sym, ap, ◌∙◌, subst, cond, lt-ltb, le-ltb, nat_lt}
use Rattle.std.proofs.lemmas.List.{length-replicate, take_all}
use Rattle.std.proofs.lemmas.List.Elements.{All-nil}
use mathlib.Core.Logic.{dite}
use native.Mathlib.Decide.{dec_le}
use Rattle.sk_model.specs.Entries.{Entry, items_of_entries}
use Rattle.sk_model.specs.Sketch.{theta_of}
use Rattle.sk_model.proofs.Entries.{entries_by_nil}
use Rattle.sk_model.proofs.Sketch.{k_smallest-nil}
use Rattle.sk_machine.specs.Fine.{fine_start}
use Rattle.sk_machine.specs.Invariant.{IsSound}
use Rattle.sk_machine.specs.declared.states.Mark.TheVariants.{Neither}
use Rattle.sk_machine.specs.declared.states.Progress.TheVariants.{Idle}
use Rattle.sk_machine.proofs.Parts.{starts_sound, eight_parts}
use Rattle.sk_core.specs.Stored.{StoredUpdater, Stored, blank_updater, blank_token, sizes_of, updater_of, token_of, machine_of, hint_by, word_by, IsWithin, KnowsWithin, IsStored}
use Rattle.sk_core.specs.Runs.{MeetsAll}
use Rattle.sk_core.specs.declared.token.Token.{Token}
use Rattle.sk_core.proofs.Machine.{hint_positive}
use Rattle.sk_model.specs.Width.{item_end}
use Rattle.sk_model.specs.Limits.{most_k, most_updaters}

replicate_more : {A : Type 0} (n : ℕ) (x : A) → replicate n x ++ x ∷ [] ≡ replicate (n + 1) x
replicate_more n x = let e : suc n ≡ n + 1 = omega arith in go n x ∙ ap (λ k. replicate k x) e
  where
    go : {A : Type 0} (n : ℕ) (x : A) → replicate n x ++ x ∷ [] ≡ replicate (suc n) x
    go zero x = refl
    go (suc n) x = ap (λ l. x ∷ l) (go n x)

-- one more is pushed
pub replicate_pushed : {A : Type 0} (n : ℕ) (x y : A) (xs ys : List A) → ys ≡ xs ++ y ∷ [] → y ≡ x → xs ≡ replicate n x → ys ≡ replicate (n + 1) x
replicate_pushed n x y xs ys pushed same all = pushed ∙ ap (λ z. xs ++ z ∷ []) same ∙ ap (λ l. l ++ x ∷ []) all ∙ replicate_more n x

pub no_items : items_of_entries [] ≡ []
unfolding items_of_entries
no_items = refl

none_taken : {A : Type 0} (n : ℕ) → let none : List A = [] in take n none ≡ none
none_taken n = take_all n [] (omega arith)

-- the hint of the empty list
hint_at_start : (k : ℕ) → 2 ≤ k → item_end ≡ hint_by k []
hint_at_start k two = sym (ap (theta_of k) no_items ∙ ap (λ (l : List ℕ). cond (nat_lt (length l) k) item_end (slice_index l (k - 1))) (k_smallest-nil k) ∙ ap (λ c. cond c item_end (slice_index [] (k - 1))) (lt-ltb 0 k (omega arith)))

updater_at_start : (n b i : ℕ) → get_or (replicate n (blank_updater b)) i (blank_updater 0) ≡ blank_updater (sizes_of n b i)
updater_at_start n b i = dite (dec_le n i)
    (λ le. past n i le ∙ sym (ap (λ c. blank_updater (cond c b 0)) (le-ltb i n le)))
    (λ gt. let lt : i < n = omega arith in here n i lt ∙ sym (ap (λ c. blank_updater (cond c b 0)) (lt-ltb i n lt)))
  where
    past : (n i : ℕ) → n ≤ i → get_or (replicate n (blank_updater b)) i (blank_updater 0) ≡ blank_updater 0
    past zero i le = refl
    past (suc n) zero le = absurd (omega arith)
    past (suc n) (suc i) le = past n i (omega arith)

    here : (n i : ℕ) → i < n → get_or (replicate n (blank_updater b)) i (blank_updater 0) ≡ blank_updater b
    here zero i lt = absurd (omega arith)
    here (suc n) zero lt = refl
    here (suc n) (suc i) lt = here n i (omega arith)

token_at_start : (t : ℕ) → get_or (blank_token ∷ []) t blank_token ≡ blank_token
token_at_start zero = refl
token_at_start (suc t) = refl

abbrev stored_start : ℕ → ℕ → ℕ → ℕ → Stored
stored_start k n b word = record { k = k; offers = []; published = []; word = word; updaters = replicate n (blank_updater b); progress = Idle; in_hand = []; turn = n + 1; tokens = blank_token ∷ [] }

machine_at_start : (k n b word : ℕ) → 2 ≤ k → word ≡ word_by k [] → machine_of (stored_start k n b word) ≡ fine_start (hint_by k) (word_by k) n (sizes_of n b)
machine_at_start k n b word two is = λ a. record {
  n = length-replicate n (blank_updater b) a;
  published = [];
  word = is a;
  updaters = λ i. (ap (updater_of [] [] i) (updater_at_start n b i) ∙ blank i) a;
  progress = Idle;
  in_hand = [];
  turn = n + 1;
  offers = 0;
  made = 1;
  tokens = λ t. (ap (token_of [] []) (token_at_start t) ∙ none) a;
}
  where
    blank : (i : ℕ) → updater_of [] [] i (blank_updater (sizes_of n b i)) ≡ (fine_start (hint_by k) (word_by k) n (sizes_of n b)).updaters i
    blank i = λ a. let h = hint_at_start k two a in record { size = sizes_of n b i; hint = h; fill = []; word = h; slot = []; home = true; mark = Neither; kept = entries_by_nil i a; handed = []; given = []; base = [] }

    none : token_of [] [] blank_token ≡ record { live = true; seen = []; known = λ i. [] }
    none = λ a. record { live = true; seen = []; known = λ i. (ap (take (slice_index (replicate 64 0) i)) (entries_by_nil i) ∙ none_taken (slice_index (replicate 64 0) i)) a }

stored_at_start : (k n b word : ℕ) → 2 ≤ k → k ≤ most_k → n ≤ most_updaters → word ≡ word_by k [] → IsStored (stored_start k n b word)
stored_at_start k n b word two most few is = record {
  least = two;
  most = most;
  few_updaters = let size = length-replicate n (blank_updater b) in omega arith;
  few_offers = omega arith;
  few_tokens = omega arith;
  of_updaters = All-nil (λ (e : Entry). e.0 < length (replicate n (blank_updater b)));
  updaters = λ i. subst (IsWithin [] [] i) (sym (updater_at_start n b i)) (record { handed = omega arith; given = omega arith; base = omega arith });
  tokens = λ t. subst (KnowsWithin [] []) (sym (token_at_start t)) (record { seen = omega arith; known = λ i. let z = zeros 64 i in omega arith });
  sound = subst (IsSound (hint_by k) (word_by k)) (sym (machine_at_start k n b word two is)) (starts_sound (hint_by k) (word_by k) n (sizes_of n b) (hint_positive k [] two));
}
  where
    zeros : (n i : ℕ) → let l : List ℕ = replicate n 0 in slice_index l i ≡ 0
    zeros zero i = refl
    zeros (suc n) zero = refl
    zeros (suc n) (suc i) = zeros n i

-- the same of lists that are known to be those
module _ (k n b word : ℕ) (offers published : List Entry) (updaters : List StoredUpdater) (in_hand : List ℕ) (tokens : List Token) (two : 2 ≤ k) (is : word ≡ word_by k []) (offers_are : offers ≡ []) (published_are : published ≡ [])
    (updaters_are : updaters ≡ replicate n (blank_updater b)) (in_hand_is : in_hand ≡ []) (tokens_are : tokens ≡ blank_token ∷ []) where
  abbrev made : Stored
  made = record { k = k; offers = offers; published = published; word = word; updaters = updaters; progress = Idle; in_hand = in_hand; turn = n + 1; tokens = tokens }

  is_start : stored_start k n b word ≡ made
  is_start = λ a. record { k = k; offers = sym offers_are a; published = sym published_are a; word = word; updaters = sym updaters_are a; progress = Idle; in_hand = sym in_hand_is a; turn = n + 1; tokens = sym tokens_are a }

  pub starts_stored : k ≤ most_k → n ≤ most_updaters → IsStored made
  starts_stored most few = subst IsStored is_start (stored_at_start k n b word two most few is)

  pub starts_as : machine_of made ≡ fine_start (hint_by k) (word_by k) n (sizes_of n b)
  starts_as = ap machine_of (sym is_start) ∙ machine_at_start k n b word two is

  pub starts_meeting : MeetsAll k (machine_of made)
  starts_meeting = subst (λ (s : Stored). MeetsAll k (machine_of s)) is_start (subst (MeetsAll k) (sym (machine_at_start k n b word two is)) (eight_parts (hint_by k) (word_by k) (fine_start (hint_by k) (word_by k) n (sizes_of n b)) (starts_sound (hint_by k) (word_by k) n (sizes_of n b) (hint_positive k [] two))))

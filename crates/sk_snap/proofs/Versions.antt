-- What a batch makes of a version, and what names show.
use Rattle.std.proofs.Common.{◌≡◌, ℕ, ◌+◌, ◌≤◌, false, Option, Some, None, IfSome, List, [], ◌∷◌, ◌++◌, length, drop, slice_index, refl, sym, ap, subst, ◌∙◌, ◌^◌, append_assoc, length-append}
use Rattle.std.proofs.lemmas.List.{append-nil, length-map}
use Rattle.logbook.specs.Pages.{Book}
use Rattle.sk_model.specs.Entries.{Entry, items_of_entries, tagged}
use Rattle.sk_model.specs.Missing.{Begins}
use Rattle.sk_compose.proofs.Batches.{items_more}
use Rattle.sk_model.specs.Width.{AreItems}
use Rattle.sk_snap.specs.History.{Beginning, Taken, joined, entries_in, name_of}
use Rattle.sk_snap.specs.Versions.{IsOf, Refuses, with_batch, IsVersion, Continues, about, items_in}
use Rattle.sk_snap.specs.declared.version.Version.{Version}

pub joined_append : (xs ys : List (List Entry)) → joined (xs ++ ys) ≡ joined xs ++ joined ys
unfolding joined
joined_append [] ys = refl
joined_append (batch ∷ xs) ys = ap (λ l. batch ++ l) (joined_append xs ys) ∙ sym (append_assoc batch (joined xs) (joined ys))

joined_one : (batch : List Entry) → joined (batch ∷ []) ≡ batch
unfolding joined
joined_one batch = append-nil batch

pub joined_none : joined [] ≡ []
unfolding joined
joined_none = refl

pub joined_more : (xs : List (List Entry)) (batch : List Entry) → joined (xs ++ batch ∷ []) ≡ joined xs ++ batch
joined_more xs batch = joined_append xs (batch ∷ []) ∙ ap (λ l. joined xs ++ l) (joined_one batch)

items_none : items_of_entries (joined []) ≡ []
unfolding items_of_entries joined
items_none = refl

-- a longer history has a longer list
pub begins_joined : (xs ys : List (List Entry)) → Begins xs ys → Begins (joined xs) (joined ys)
begins_joined xs ys begins = (joined begins.0, ap joined begins.1 ∙ joined_append xs begins.0)

-- the entries with a batch more
pub entries_more : (known : Beginning) (batch : Taken) → Continues known batch → entries_in batch.known ≡ entries_in known ++ tagged batch.from batch.items
entries_more known batch continues = ap joined continues.batches ∙ joined_more known.batches (tagged batch.from batch.items)

module _ {S : Type 0} (is_of : S → List ℕ → Type 0) (after : S → List ℕ → S)
    (goes_on : (s : S) (list items : List ℕ) → AreItems items → length list + length items ≤ 2 ^ 46 → is_of s list → is_of (after s items) (list ++ items)) where
  pub next_is_version : (version : Version S) (batch : Taken) → Continues version.known batch → AreItems batch.items
      → length (items_in version.known) + length batch.items ≤ 2 ^ 46 → IsVersion is_of version → IsVersion is_of (with_batch after version batch)
  next_is_version version batch continues fit few whole =
      let items : items_in batch.known ≡ items_in version.known ++ batch.items =
      ap items_of_entries (entries_more version.known batch continues) ∙ items_more batch.from (entries_in version.known) batch.items in
      subst (λ (l : List ℕ). is_of (after version.sketch batch.items) l) (sym items)
      (goes_on version.sketch (items_in version.known) batch.items fit few whole)

module _ {S : Type 0} (numbers : S → List ℕ) (after : S → List ℕ → S)
    (same_numbers : (s : S) (items : List ℕ) → numbers (after s items) ≡ numbers s) where
  pub about_same : (version : Version S) (batch : Taken) → Continues version.known batch → about numbers (with_batch after version batch) ≡ about numbers version
  about_same version batch continues =
      ap (λ (l : List ℕ). name_of batch.known.book ++ l) (same_numbers version.sketch batch.items)
      ∙ ap (λ (book : Book). name_of book ++ numbers version.sketch) continues.book

-- histories with one name are one
pub same_book : (a b : Book) → name_of a ≡ name_of b → a ≡ b
same_book a b same = λ i. record {
  number = slice_index (same i) 0;
  log_name = slice_index (same i) 1;
  cells_name = slice_index (same i) 2;
}

module _ (a b : Book) (ns ms : List ℕ) (same : name_of a ++ ns ≡ name_of b ++ ms) where
  pub same_history : a ≡ b
  same_history = λ i. record {
    number = slice_index (same i) 0;
    log_name = slice_index (same i) 1;
    cells_name = slice_index (same i) 2;
  }

  pub same_rest : ns ≡ ms
  same_rest = ap (λ (l : List ℕ). drop 3 l) same

-- nobody knows nothing of what has a name
pub some_name : {P : Type 0} (a : Book) (ns : List ℕ) → name_of a ++ ns ≡ [] → P
some_name a ns wrong = cc wrong

-- what is refused, if nothing was merged and nothing changed
pub refuses_same : (o : Option Taken) (from : ℕ) (items : List ℕ) → Refuses o o from items false
refuses_same None from items = tt
refuses_same (Some batch) from items = refl

-- what is refused, if this batch was not merged, before which another one could not be
pub refuses_this : (o : Option Taken) (batch : Taken) (from : ℕ) (items : List ℕ) → IfSome o (λ other. other ≡ batch) → IsOf from items batch → Refuses o (Some batch) from items false
refuses_this None batch from items first is = is
refuses_this (Some other) batch from items first is = ap (λ (b : Taken). Some b) (sym first)

-- only the batch that was refused is merged
pub refused_is : (o : Option Taken) (batch : Taken) (from : ℕ) (items : List ℕ) → IfSome o (λ other. other ≡ batch) → IsOf from items batch → IfSome o (IsOf from items)
refused_is None batch from items first is = tt
refused_is (Some other) batch from items first is = subst (IsOf from items) (sym first) is

-- as many items as entries
pub as_many : (entries : List Entry) → length (items_of_entries entries) ≡ length entries
unfolding items_of_entries
as_many entries = length-map entries (λ (entry : Entry). entry.1)

-- the version of no batch
pub empty_is_version : {S : Type 0} (is_of : S → List ℕ → Type 0) (version : Version S) → is_of version.sketch [] → version.known.batches ≡ [] → IsVersion is_of version
empty_is_version is_of version empty none =
    subst (λ (l : List ℕ). is_of version.sketch l) (sym (ap (λ (bs : List (List Entry)). items_of_entries (joined bs)) none ∙ items_none)) empty

-- as many entries, with a batch more
pub count_more : (xs : List (List Entry)) (i : ℕ) (items : List ℕ) → length (joined (xs ++ tagged i items ∷ [])) ≡ length (joined xs) + length items
count_more xs i items =
    ap (λ (l : List Entry). length l) (joined_more xs (tagged i items))
    ∙ length-append (joined xs) (tagged i items)
    ∙ ap (λ (n : ℕ). length (joined xs) + n) (length-map items (λ (item : ℕ). (i, item)))

pub count_none : length (joined []) ≡ 0
count_none = ap (λ (l : List Entry). length l) joined_none

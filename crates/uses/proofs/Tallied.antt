-- Streams that were fed to the updaters of a hub over a Count-Min sketch, and what a reader says of an item.
use Rattle.std.proofs.Common.{◌≡◌, ℕ, ◌+◌, ◌-◌, ◌*◌, ◌<◌, ◌≤◌, inl, inr, Bool, true, false, not, List, [], ◌∷◌, ◌++◌, length, take, drop, replicate, get_or, All, Contains, refl, sym, ap, subst, ◌∙◌, arith, append-nil, length-append}
use Rattle.std.proofs.lemmas.List.{take_all, take_at, take-append-le, get_or-replicate}
use Rattle.std.proofs.lemmas.List.Elements.{All-weaker}
use Rattle.sk_model.specs.Entries.{Entry, items_of_entries, entries_by}
use Rattle.sk_model.specs.Missing.{Begins, LacksAtMost}
use Rattle.sk_model.proofs.Entries.{items_append}
use Rattle.sk_model.proofs.Missing.{begins_trans, begins_nil, begins_take}
use Rattle.sk_machine.proofs.Coarse.{entries_by_begins}
use Rattle.sk_compose.specs.Kept.{AreKept}
use Rattle.sk_gate.specs.Hands.{is_empty}
use Rattle.sk_hub.specs.Hearts.{HeartState}
use Rattle.sk_hub.specs.Starts.{AreNew}
use Rattle.sk_hub.specs.Updaters.{UpdaterState, handed_of, kept_of, earlier_of, HoldsTold}
use Rattle.sk_snap.specs.History.{entries_in}
use Rattle.sk_snap.specs.Versions.{Learnt, items_in}
use Rattle.sk_learn.specs.Learning.{Knows, LearnsFirst, AreAsked, untold}
use Rattle.sk_learn.specs.Closing.{AreApart, HasExactly, numbers_of}
use Rattle.sk_learn.proofs.Numbered.{numbered_apart, numbered_below}
use Rattle.sk_cms.specs.Estimate.{least_of}
use Rattle.sk_cms.specs.Tallies.{IsTally, cms_numbers, rows_of, width_of}
use Rattle.uses.specs.Fed.{AreFed}
use Rattle.uses.specs.Tallied.{HasKept, HaveKept, IsTallyMeanwhile}
use Rattle.uses.proofs.Parts.{at_some, new_at}

-- every item is kept
abbrev pub keeps_all : ℕ → ℕ → Bool
keeps_all hint item = true

all_kept : (hint : List Entry → ℕ) (base : List Entry) (items kept : List ℕ) → AreKept keeps_all hint base items kept → kept ≡ items
unfolding AreKept
all_kept hint base [] kept is = is
all_kept hint base (item ∷ items) kept (inl filtered) = let no : true ≡ false = filtered.0.2 in absurd (cc)
all_kept hint base (item ∷ items) kept (inr (more, is, rest)) = is ∙ ap (λ l. item ∷ l) (all_kept hint base items more rest)

-- ---- what an updater handed over before its last hand

empty_front : (xs ys : List ℕ) → xs ++ ys ≡ [] → xs ≡ []
empty_front [] ys is = refl
empty_front (x ∷ xs) ys is = absurd (cc)

was_empty : (l : List ℕ) → not (is_empty l) ≡ false → l ≡ []
was_empty [] is = refl
was_empty (x ∷ l) is = absurd (cc)

-- an updater that had kept nothing, and holds no told value now
nothing_earlier : (u u' : UpdaterState) → kept_of u ≡ [] → HoldsTold u u' → u'.news ≡ false → earlier_of u' ≡ []
nothing_earlier u u' none (inl (news, handed, last)) empty =
    let none_handed : handed_of u' ≡ [] = handed ∙ empty_front (handed_of u) u.fill none in
    ap (λ l. take (length l - u'.last) l) none_handed ∙ take_all (length {A = ℕ} [] - u'.last) [] (omega arith)
nothing_earlier u u' none (inr is) empty = was_empty (earlier_of u') (sym is ∙ empty)

-- ---- updaters that were fed

pub have_kept : (hint_of : List ℕ → List Entry → ℕ) (n size : ℕ) (h : HeartState) (us us' : List UpdaterState) (streams : List (List ℕ)) → AreNew hint_of (replicate n size) h us → length us ≡ n → length streams ≡ n → AreFed keeps_all hint_of us streams us' → HaveKept h size streams us'
have_kept hint_of n size h us us' streams new count as_many fed = record {
  count = omega (arith, fed.count, count, as_many);
  each = λ i d within.
      let inside : i < length us = omega (arith, within, fed.count) in
      let u = new_at hint_of (replicate n size) h us new i d inside in
      let t = fed.each i d inside in record {
        number = t.goes.number ∙ u.number_is;
        table = t.goes.table ∙ u.table;
        name = t.goes.name ∙ u.name;
        size_is = t.goes.size ∙ u.size_is ∙ get_or-replicate n i size 0 (omega (arith, inside, count));
        kept = t.kept ∙ ap (λ l. l ++ t.more) u.kept ∙ all_kept (hint_of (get_or us i d).view.numbers) _ (get_or streams i []) t.more t.of_items;
        told = λ empty. nothing_earlier (get_or us i d) (get_or us' i d) u.kept t.goes.told empty;
      };
}

-- ---- a reader that learnt of them

-- a list that has all but the last hand lacks at most two buffers
lacks_two : (handed fill ys : List ℕ) (last size : ℕ) → Begins (take (length handed - last) handed) ys → last ≤ size → length fill ≤ size → LacksAtMost (handed ++ fill) ys (2 * size)
lacks_two handed fill ys last size begins few filled =
    let most = length (handed ++ fill) - 2 * size in
    let inside : most ≤ length handed = omega (arith, length-append handed fill) in
    let shorter : most ≤ length handed - last = omega (arith, length-append handed fill) in
    let prefix : Begins (take most handed) (take (length handed - last) handed) = subst (λ l. Begins (take most handed) (take (length handed - last) l)) (append-nil handed) (begins_take most (length handed - last) handed [] shorter) in
    subst (λ l. Begins l ys) (sym (take-append-le most handed fill inside)) (begins_trans _ _ _ prefix begins)

-- the reader knows all that this updater handed over but its last hand
knows_earlier : (h : HeartState) (size i : ℕ) (items : List ℕ) (u : UpdaterState) (s : Learnt) → HasKept h size i items u → Knows s u → Begins (earlier_of u) (entries_by i (entries_in s.known))
knows_earlier h size i items u s has knows = by_news u.news refl
  where
    by_news : (news : Bool) → u.news ≡ news → Begins (earlier_of u) (entries_by i (entries_in s.known))
    by_news true is = subst (λ j. Begins (earlier_of u) (entries_by j (entries_in s.known))) has.number (knows.told is)
    by_news false is = subst (λ l. Begins l (entries_by i (entries_in s.known))) (sym (has.told is)) (begins_nil (entries_by i (entries_in s.known)))

lacks_of : (h : HeartState) (size i : ℕ) (items : List ℕ) (u : UpdaterState) (s t : Learnt) → HasKept h size i items u → Knows s u → Begins (entries_in s.known) (entries_in t.known) → LacksAtMost items (entries_by i (entries_in t.known)) (2 * size)
lacks_of h size i items u s t has knows grows =
    let ys = entries_by i (entries_in t.known) in
    let begins : Begins (earlier_of u) ys = begins_trans _ _ _ (knows_earlier h size i items u s has knows) (entries_by_begins i (entries_in s.known) (entries_in t.known) grows) in
    let both : LacksAtMost (kept_of u) ys (2 * u.size) = lacks_two (handed_of u) u.fill ys u.last u.size begins knows.last knows.fill in
    subst (λ l. LacksAtMost l ys (2 * size)) has.kept (subst (λ k. LacksAtMost (kept_of u) ys (2 * k)) has.size_is both)

-- what it says of an item next to them
pub tally_meanwhile : (x rows width size n least : ℕ) (h : HeartState) (streams : List (List ℕ)) (us : List UpdaterState) (r s t : Learnt) → HaveKept h size streams us → LearnsFirst r us (length us) s → Begins (entries_in s.known) (entries_in t.known)
    → IsTally x rows width (items_in t.known) n least → IsTallyMeanwhile x rows width size streams n least
tally_meanwhile x rows width size n least h streams us r s t have learns grows tally = record {
  list = entries_in t.known;
  tally = tally;
  lacks = λ i within.
      let inside : i < length us = omega (arith, within, have.count) in
      at_some us i inside (λ d. lacks_of h size i (get_or streams i []) (get_or us i d) s t (have.each i d inside) (learns.knows i d inside) grows);
}

-- numbers that are fixed when a sketch is opened
pub with_numbers : (x rows width n least : ℕ) (numbers : List ℕ) (items : List ℕ) → numbers ≡ cms_numbers rows width → IsTally x (rows_of numbers) (width_of numbers) items n least → IsTally x rows width items n least
with_numbers x rows width n least numbers items are tally = subst (λ (l : List ℕ). IsTally x (rows_of l) (width_of l) items n least) are tally

-- ---- updaters that were asked what they were told

module _ (h : HeartState) (size : ℕ) (streams : List (List ℕ)) (us us' : List UpdaterState) (have : HaveKept h size streams us) (asked : AreAsked us (length us) us') where
  asked_at : (i : ℕ) (d : UpdaterState) → i < length us' → (get_or us' i d ≡ untold (get_or us i d)) × (i < length us)
  asked_at i d within = let inside : i < length us = omega (arith, within, asked.count) in (asked.first i d inside, inside)

  pub at_table : All (λ u. u.table ≡ h.table) us'
  at_table i d within = let at = asked_at i d within in ap (λ (u : UpdaterState). u.table) at.0 ∙ (have.each i d at.1).table

  numbered : (i : ℕ) (d : UpdaterState) → i < length us' → (get_or us' i d).number ≡ i
  numbered i d within = let at = asked_at i d within in ap (λ (u : UpdaterState). u.number) at.0 ∙ (have.each i d at.1).number

  pub are_apart : AreApart us'
  are_apart = numbered_apart us' numbered

  pub as_many : length us' ≡ length streams
  as_many = asked.count ∙ have.count

  pub only_theirs : (list : List Entry) → HasExactly list us' → All (λ entry. entry.0 < length streams) list
  only_theirs list exactly =
      subst (λ (n : ℕ). All (λ (e : Entry). e.0 < n) list) as_many
      (All-weaker (λ (e : Entry). Contains (numbers_of us') e.0) (λ (e : Entry). e.0 < length us') (λ e has. numbered_below us' numbered e.0 has) list exactly.only)

  pub of_each : (list : List Entry) → HasExactly list us' → (i : ℕ) → i < length streams → entries_by i list ≡ get_or streams i []
  of_each list exactly i within =
      let inside : i < length us' = omega (arith, within, as_many) in
      at_some us' i inside (λ d.
      let at = asked_at i d inside in
      ap (λ (n : ℕ). entries_by n list) (sym (numbered i d inside)) ∙ exactly.each i d inside ∙ ap kept_of at.0 ∙ (have.each i d at.1).kept)

-- ---- two tallies, of a list and of one that it begins

pub tally_grows : (x rows width : ℕ) (s t : Learnt) (n least n' least' : ℕ) → Begins (entries_in s.known) (entries_in t.known) → ((items more : List ℕ) → least_of rows width x items ≤ least_of rows width x (items ++ more))
    → IsTally x rows width (items_in s.known) n least → IsTally x rows width (items_in t.known) n' least' → (n ≤ n') × (least ≤ least')
tally_grows x rows width s t n least n' least' (rest, is) falls tally tally' =
    let more : items_in t.known ≡ items_in s.known ++ items_of_entries rest = ap items_of_entries is ∙ items_append (entries_in s.known) rest in
    let longer : length (items_in t.known) ≡ length (items_in s.known) + length (items_of_entries rest) = ap length more ∙ length-append (items_in s.known) (items_of_entries rest) in
    let above : least_of rows width x (items_in t.known) ≡ least_of rows width x (items_in s.known ++ items_of_entries rest) = ap (λ (l : List ℕ). least_of rows width x l) more in
    (omega (arith, tally.count, tally'.count, longer), omega (arith, tally.value, tally'.value, above, falls (items_in s.known) (items_of_entries rest)))

-- what holds of updaters holds of the vector that they were lent by
pub as_lent : (P : List UpdaterState → Type 0) (us items : List UpdaterState) (len : ℕ) → length us ≡ len → P us → P (take len (us ++ drop (length us) items))
as_lent P us items len long holds = subst P (sym (take_at us (drop (length us) items) len long)) holds

pub as_back : (P : List UpdaterState → Type 0) (us items : List UpdaterState) (len : ℕ) → length us ≡ len → P (take len (us ++ drop (length us) items)) → P us
as_back P us items len long holds = subst P (take_at us (drop (length us) items) len long) holds

-- An updater whose seat was vacant.
use Rattle.std.proofs.Common.{◌≡◌, ℕ, ◌+◌, ◌<◌, ◌≤◌, List, [], ◌∷◌, ◌++◌, length, All, Bool, not, Option, Some, None, subst, sym, ap, refl, ◌∙◌, length-set, length-append, arith}
use Rattle.std.proofs.lemmas.List.Elements.{All-nil, All-push}
use Rattle.std.specs.Prelude.{slice_set}
use Rattle.atomic_table.specs.Seated.{TableId}
use Rattle.sk_model.specs.Entries.{Entry, entries_by}
use Rattle.sk_model.specs.Missing.{Begins}
use Rattle.sk_model.specs.Width.{IsItem, AreItems}
use Rattle.sk_model.proofs.Missing.{begins_nil}
use Rattle.sk_machine.specs.Coarse.{IsEntry}
use Rattle.sk_compose.specs.Buffers.{Contents, IsBuffer}
use Rattle.sk_machine.specs.declared.views.Move.TheVariants.{Look}
use Rattle.sk_machine.specs.declared.views.Post.TheVariants.{Updater}
use Rattle.sk_gate.specs.Slots.{contents, Telling}
use Rattle.sk_gate.specs.Views.{size_of, mine_of}
use Rattle.sk_gate.specs.Moves.{AdmitsAt, looked_mine}
use Rattle.sk_gate.specs.Hands.{own_empty, is_empty, SeatState}
use Rattle.sk_hub.specs.Updaters.{IsFree, IsViewOf, IsUpdater, state_of}
use Rattle.sk_hub.specs.Hearts.{IsVacant, AreVacant, heart_of}
use Rattle.sk_hub.specs.Drains.{IsNew}
use Rattle.sk_hub.proofs.Views.{none_by}
use Rattle.sk_model.specs.Limits.{most_updaters, most_size, IsFrom}

-- ---- fill buffers

pub empty_buffer : (size : ℕ) (items : List ℕ) → items ≡ [] → IsFrom 1 most_size size → IsBuffer (contents items size)
empty_buffer size items none from = subst (λ l. IsBuffer (contents l size)) (sym none) (record { least = from.0; most = from.1; within = omega arith; items_fit = All-nil IsItem })

pub one_more : (size item : ℕ) (items : List ℕ) → IsBuffer (contents items size) → length items < size → IsItem item → IsBuffer (contents (items ++ item ∷ []) size)
one_more size item items b room is = record { least = b.least; most = b.most; within = omega (arith, length-append items (item ∷ [])); items_fit = All-push IsItem items item b.items_fit is }

-- ---- an updater that is admitted

-- the first of such seats
pub first_vacant : (n : ℕ) (table : TableId) (numbers name : List ℕ) (number : ℕ) (seats more : List SeatState) (s : SeatState) → seats ≡ s ∷ more → AreVacant n table numbers name number seats → IsVacant n table numbers name number s
first_vacant n table numbers name number seats more s is vacant = let all : AreVacant n table numbers name number (s ∷ more) = subst (λ l. AreVacant n table numbers name number l) is vacant in all.0

-- the seat as it was admitted, with an empty parcel in its slot
abbrev seat_admitted : SeatState → ℕ → ℕ → SeatState
seat_admitted s word b = record s { view = record s.view { steps = s.view.steps ++ Look s.number word ∷ []; post = Updater s.number (looked_mine (mine_of s.view) []); sizes = slice_set s.view.sizes s.number b }; own = own_empty b }

module _ {T : Type 0} (hint_of : List ℕ → List Entry → ℕ) (k : Telling T) (hs s a p : SeatState) (n number b word : ℕ) (fill : Contents) (vacant : IsVacant n hs.table hs.view.numbers hs.view.name number s) (admits : AdmitsAt hint_of s.view word a.view s.number b)
    (takes : a ≡ record s { view = a.view; own = own_empty 1 }) (picks : p ≡ record a { own = own_empty (size_of a.view a.number) }) (within : number < n) (empty : fill ≡ contents [] b) where
  is_admitted : seat_admitted s word b ≡ p
  is_admitted =
      let room : size_of a.view a.number ≡ b = ap (λ z. size_of a.view z.number) takes ∙ admits.size in
      sym (picks ∙ λ e. record (takes e) { view = admits.view e; own = own_empty (room e) })

  items : fill.items ≡ []
  items = ap (λ f. f.items) empty

  pub admitted_is : n ≤ most_updaters → hs.table.slots ≡ n + 1 → IsFrom 1 most_size b → IsUpdater hint_of k p number n b (Some fill) None word 0 0
  admitted_is few slots size_from =
      let x : SeatState = seat_admitted s word b in let none = admits.none in
      let size : size_of x.view s.number ≡ b = ap (λ w. size_of w s.number) (sym admits.view) ∙ admits.size in
      let free : IsFree x = record { duty = vacant.free.duty; filled = vacant.free.filled; lifted = vacant.free.lifted } in
      let own : x.own ≡ record { items = []; capacity = b; told = not (is_empty (mine_of s.view).handed) } = λ e. record { items = []; capacity = b; told = not (is_empty (sym none e)) } in
      let filled : Some fill ≡ Some (contents fill.items b) = λ e. Some ((empty ∙ λ d. contents (sym items d) b) e) in
      let view : IsViewOf number x.view = record {
        post = λ e. Updater (vacant.number_is e) (looked_mine (mine_of s.view) []);
        entries = subst (All (IsEntry (length x.view.sizes))) (sym vacant.seen) (All-nil (IsEntry (length x.view.sizes)));
        own = subst (λ l. Begins l (mine_of s.view).handed) (sym (ap (entries_by number) vacant.seen ∙ none_by number)) (begins_nil (mine_of s.view).handed);
        based = begins_nil s.view.seen;
        settled = λ _. none_by number ∙ sym none;
        items = subst AreItems (sym none) (All-nil IsItem);
      } in
      let few_kept : 0 ≡ length ((mine_of s.view).handed ++ fill.items) = λ e. length (sym none e ++ sym items e) in
      let is : IsUpdater hint_of k x number n b (Some fill) None word 0 0 = record {
        number_is = vacant.number_is;
        view = view;
        free = free;
        own = own;
        within = within;
        few = few;
        slots = ap (λ t. t.slots) vacant.table_is ∙ slots;
        sized = length-set s.view.sizes s.number b ∙ vacant.sized;
        size_is = ap (λ z. size_of x.view z) (sym vacant.number_is) ∙ size;
        fill_is = filled;
        buffer = empty_buffer b fill.items items size_from;
        hint_is = admits.hint_is;
        taken_is = few_kept;
        most = omega arith;
        last_is = omega arith;
        told_is = λ t e. absurd (cc);
      } in
      subst (λ z. IsUpdater hint_of k z number n b (Some fill) None word 0 0) is_admitted is

  pub admitted_new : (admitted : ℕ) (told : List (Option T)) (eager : Bool) → IsNew hint_of number b (heart_of hs n admitted told eager) (state_of {T = T} p number b (Some fill) None word 0 eager)
  admitted_new admitted told eager =
      let x : SeatState = seat_admitted s word b in let h = heart_of hs n admitted told eager in
      let new : IsNew hint_of number b h (state_of {T = T} x number b (Some fill) None word 0 eager) = record {
        number_is = refl;
        size_is = refl;
        table = vacant.table_is;
        name = vacant.name_is;
        within = within;
        sized = length-set s.view.sizes s.number b ∙ vacant.sized;
        kept = λ e. admits.none e ++ items e;
        base = refl;
        seen = vacant.seen;
        known = vacant.known;
        steps = λ e. vacant.steps e ++ Look (vacant.number_is e) word ∷ [];
        ready = refl;
        hint_is = admits.hint_is ∙ ap (λ z. hint_of z []) vacant.numbers_are;
        numbers = vacant.numbers_are;
        news = refl;
        eager = refl;
      } in
      subst (λ z. IsNew hint_of number b h (state_of {T = T} z number b (Some fill) None word 0 eager)) is_admitted new

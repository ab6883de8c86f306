-- An updater that took in a note, and asked.
use Rattle.std.proofs.Common.{◌≡◌, ℕ, ◌+◌, ◌≤◌, Bool, List, [], ◌∷◌, ◌++◌, length, Option, sym, subst, ap, ◌∙◌, arith}
use Rattle.sk_model.specs.Entries.{Entry}
use Rattle.sk_model.specs.Missing.{Begins}
use Rattle.sk_model.proofs.Missing.{begins_trans}
use Rattle.sk_compose.specs.Buffers.{Contents}
use Rattle.sk_machine.specs.declared.views.Move.TheVariants.{Ask}
use Rattle.sk_machine.specs.declared.views.Post.TheVariants.{Updater}
use Rattle.sk_machine.specs.declared.views.View.{View}
use Rattle.sk_gate.specs.Slots.{Telling}
use Rattle.sk_gate.specs.Views.{size_of, mine_of, after_join}
use Rattle.sk_gate.specs.Moves.{AsksAt, SeesOwn}
use Rattle.sk_gate.specs.Hands.{SeatState, TokenState}
use Rattle.sk_gate.proofs.Merged.{sizes_length, sizes_either}
use Rattle.sk_hub.specs.Updaters.{UpdaterState, IsViewOf, IsFree, IsUpdater, state_of}
use Rattle.sk_hub.specs.Replies.{IsReading, IsOwnReply}
use Rattle.sk_hub.proofs.Kept.{own_reply}
use Rattle.sk_hub.proofs.Knowledge.{hears_own, hears_other}

-- a note's view and a seat's, of one table, know of as many updaters
pub same_count : (many few updaters there here : ℕ) → there ≡ many + 1 → here ≡ updaters + 1 → few ≡ updaters → there ≡ here → many ≡ few
same_count many few updaters there here note seat sized same = omega arith

module _ {T : Type 0} (hint_of packed : List ℕ → List Entry → ℕ) (k : Telling T) (s j a : SeatState) (note : TokenState) (word number updaters size : ℕ) (fill : Option Contents) (told : Option T) (hint taken last : ℕ)
    (i : IsUpdater hint_of k s number updaters size fill told hint taken last) (reads : IsReading note) (table : note.table ≡ s.table)
    (joins : j ≡ record s { view = after_join s.view note.view }) (asks : AsksAt packed j.view word a.view) (stays : a ≡ record j { view = a.view }) where
  as_many : length note.view.sizes ≡ updaters
  as_many = same_count (length note.view.sizes) (length s.view.sizes) updaters note.table.slots s.table.slots reads.slots i.slots i.sized (ap (λ x. x.slots) table) ∙ i.sized

  asked : AsksAt packed (after_join s.view note.view) word a.view
  asked = subst (λ (z : SeatState). AsksAt packed z.view word a.view) joins asks

  size_stays : size_of (after_join s.view note.view) number ≡ size
  size_stays =
      let least : 1 ≤ size = i.buffer.least in
      sizes_either (λ x. x ≡ size) s.view.sizes note.view.sizes number (λ _. i.size_is) (λ none. absurd (omega (arith, least, none, i.size_is)))

  pub sees_own : Begins s.view.seen a.view.seen
  sees_own = asked.heard s.view.seen (hears_own s.view.heard note.view.heard s.view.seen note.view.seen)

  pub sees_noted : Begins note.view.seen a.view.seen
  sees_noted = asked.heard note.view.seen (hears_other s.view.heard note.view.heard s.view.seen note.view.seen)

  sized : length (after_join s.view note.view).sizes ≡ updaters
  sized = sizes_length updaters s.view.sizes note.view.sizes i.sized as_many

  pub met_sized : length a.view.sizes ≡ length s.view.sizes
  met_sized = ap (λ v. length v.sizes) asked.view ∙ sized ∙ sym i.sized

  -- the view after both
  abbrev met_view : View
  met_view = record (after_join s.view note.view) { seen = a.view.seen; steps = (after_join s.view note.view).steps ++ Ask word ∷ [] }

  view_met : IsViewOf number met_view
  view_met = record {
    post = i.view.post;
    entries = asked.is_seen.entries;
    own = subst (SeesOwn a.view.seen) i.view.post asked.is_seen.own;
    based = begins_trans _ _ _ i.view.based sees_own;
    settled = i.view.settled;
    items = i.view.items;
  }

  pub updater_met : IsUpdater hint_of k a number updaters size fill told hint taken last
  updater_met =
      let x : SeatState = record s { view = met_view } in
      let same : x ≡ a = (λ d. record s { view = sym asked.view d }) ∙ (λ d. record (sym joins d) { view = a.view }) ∙ sym stays in
      let free : IsFree x = record { duty = i.free.duty; filled = i.free.filled; lifted = i.free.lifted } in
      let is : IsUpdater hint_of k x number updaters size fill told hint taken last = record {
        number_is = i.number_is;
        view = view_met;
        free = free;
        own = i.own;
        within = i.within;
        few = i.few;
        slots = i.slots;
        sized = sized;
        size_is = size_stays;
        fill_is = i.fill_is;
        buffer = i.buffer;
        hint_is = i.hint_is;
        taken_is = i.taken_is;
        most = i.most;
        last_is = i.last_is;
        told_is = i.told_is;
      } in
      subst (λ z. IsUpdater hint_of k z number updaters size fill told hint taken last) same is

  -- what contracts see of it, where they see these of the updater and of the note
  pub met_reply : (eager : Bool) (now : UpdaterState) (seen : TokenState) → state_of s number size fill told hint last eager ≡ now → note ≡ seen → IsOwnReply packed (record now { view = after_join now.view seen.view }) word (state_of a number size fill told hint last eager)
  met_reply eager now seen shown noted =
      let few : length now.fill ≤ now.size = subst (λ (u : UpdaterState). length u.fill ≤ u.size) shown i.buffer.within in
      let between : state_of j number size fill told hint last eager ≡ record now { view = after_join now.view seen.view } =
      (λ d. state_of (joins d) number size fill told hint last eager) ∙ (λ d. record (shown d) { view = after_join (shown d).view (noted d).view }) in
      own_reply packed j a number size fill told hint last eager (record now { view = after_join now.view seen.view }) word
      (subst (λ (z : SeatState). z.view.post ≡ Updater number (mine_of z.view)) (sym joins) i.view.post)
      (subst (λ (z : SeatState). size_of z.view number ≡ size) (sym joins) size_stays) between few asks stays

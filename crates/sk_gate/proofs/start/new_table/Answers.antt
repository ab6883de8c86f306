use Rattle.std.proofs.Common.{rules, arith, ◌≡◌, ◌∙◌, ◌+◌, ◌≤◌, ℕ, List, []}
use Rattle.std.proofs.Common.{get_or, sym, ap, subst, refl, None, length, ◌∷◌, ◌++◌, map}
use Rattle.atomic_table.specs.Table.{opening}
use Rattle.sk_compose.specs.declared.buffer.Parcel.{Parcel}
use Rattle.sk_gate.specs.declared.load.Trunk.{Trunk}
use Rattle.sk_gate.specs.Slots.{Slot, full, trunk, sketching, telling}
use Rattle.sk_gate.specs.Rule.{KeepsRule}
use Rattle.sk_gate.specs.Views.{first_view, admitted_sizes}
use Rattle.sk_gate.specs.Starts.{AreFirstWords}
use Rattle.sk_gate.proofs.Seats.{starts}
use Rattle.sk_model.proofs.Lists.{all_at, dropped_at}
use Rattle.sk_gate.proofs.start.new_table.Goals as goal

pub new-requires-2 : goal.new-requires-2
new-requires-2 g c = let k = g.C.Composable in let gs = sketching k.is_of k.numbers k.name in let ts = telling k.tells k.told_name k.told_of in
    let ps = c.args.parcels.items in let n = c.args.n in let sketch = c.args.global in let t : Trunk g.row.C.Denot g.row.C-Told.Denot = record { global = c.in_ok-global.global; held = None } in let is : t.global.value ≡ sketch = search rules in
    let ws = c.in_ok-words.words.items in let first : AreFirstWords (k.packed_of (k.numbers t.global.value) []) (k.hint_of (k.numbers t.global.value) []) n ws =
    subst (λ (x : g.row.C.Denot). AreFirstWords (k.packed_of (k.numbers x) []) (k.hint_of (k.numbers x) []) n ws) (sym is) c.in_ok-words.ensures in
    let words : c.as_slice.result.now ≡ ws = search rules in let told : c.of-2.result.value.items ≡ ps = search rules in let about : c.of.result.value ≡ sketch = search rules in
    let slots : c.in_ok-slots.slots.items ≡ map (λ p. full p) ps ++ trunk t ∷ [] = search rules in let many : length ps ≡ n = c.requires.count in
    let base = starts k.hint_of k.packed_of gs ts ws ps c.args.admitted t (first.count ∙ ap (λ z. z + 2) (sym many)) first.published (ap (λ z. get_or ws (z + 1) 0) many ∙ first.turn) (λ z. let least = first.lower in omega arith)
    (λ i l. first.updaters i (omega arith))
    (λ i p is. let e = all_at (λ (q : Parcel g.row.C-Told.Denot). (q.buffer.items ≡ []) × (q.told ≡ None)) ps i p c.requires.empty is in (e.0, e.1, all_at (λ (q : Parcel g.row.C-Told.Denot). 1 ≤ q.buffer.capacity) ps i p c.requires.rooms is, λ le. dropped_at (λ (q : Parcel g.row.C-Told.Denot). q.buffer.capacity ≡ 1) c.args.admitted ps i p c.requires.placeholders le is))
    (subst (λ (x : g.row.C.Denot). k.is_of x []) (sym is) c.requires.fresh) refl in
    subst (λ (x : List ℕ × List (Slot g.row.C.Denot g.row.C-Told.Denot) × List (Parcel g.row.C-Told.Denot) × g.row.C.Denot). KeepsRule k.hint_of k.packed_of gs ts (opening x.0 x.1 (first_view (admitted_sizes c.args.admitted x.2) (k.numbers x.3) (k.name x.3))))
    (λ a. (sym words a, sym slots a, sym told a, (is ∙ sym about) a)) base

use Rattle.std.proofs.Common.{◌≡◌, ℕ, ◌<◌, ◌++◌, ◌∷◌, List, [], length, get_or, set, subst, sym, ap, ◌∙◌, arith}
use Rattle.std.proofs.lemmas.List.{map-set, get_or-map, get_or_default, length-map}
use Rattle.sk_hub.specs.Updaters.{UpdaterState}
use Rattle.sk_tenant.specs.Rooms.{lists_in, sizes_of}
use Rattle.sk_tenant.proofs.FromEnd.{ChangedFrom, one_changed, one_fewer, last_is, rest_begins, is_inside}
use Rattle.sk_tenant.proofs.Rooms.{has_place, sizes_stay}
use Rattle.sk_tenant.proofs.room.deal.Goals as goal

pub put-requires : goal.put-requires
put-requires c =
    let i = c.last.invariant in let us = c.args.updaters.items in let left = c.last.updaters.items in let rest = c.pop.new.self.items in let u = c.in-Some.updater in
    let rooms = c.last.rooms.items in let old = c.args.rooms.now.items in let now = c.index_mut.result.now in let r = length rest in
    let is : left ≡ rest ++ u ∷ [] = c.in-Some.ensures.items in
    let within : r < length (lists_in old) = omega (arith, is_inside us left rest u i.left is, c.requires.count, length-map old (λ room. room.items)) in record {
      room = has_place old rooms r now c.requires.room
          (c.index_mut.ensures.value ∙ ap (λ j. get_or rooms j now) (c.len.ensures ∙ c.pop.new.self.ok.0))
          (i.dealt.before r [] (omega (arith, one_fewer left rest u is))) i.most (omega (arith, within, i.dealt.count, length-map rooms (λ room. room.items)));
    }

pub last-preserved : goal.last-preserved
last-preserved c =
    let i = c.last.invariant in let us = c.args.updaters.items in let left = c.last.updaters.items in let rest = c.pop.new.self.items in let u = c.in-Some.updater in
    let rooms = c.last.rooms.items in let now = c.index_mut.result.now in let r = length rest in
    let is : left ≡ rest ++ u ∷ [] = c.in-Some.ensures.items in
    let n : c.len.result ≡ r = c.len.ensures ∙ c.pop.new.self.ok.0 in
    let old : List (List UpdaterState) = lists_in c.args.rooms.now.items in
    let mid : List (List UpdaterState) = lists_in rooms in
    let within : r < length old = omega (arith, is_inside us left rest u i.left is, c.requires.count, length-map c.args.rooms.now.items (λ room. room.items)) in
    let inside : r < length rooms = omega (arith, within, i.dealt.count, length-map rooms (λ room. room.items)) in
    let at : now ≡ get_or rooms r now = c.index_mut.ensures.value ∙ ap (λ j. get_or rooms j now) n in
    let here : now.items ≡ get_or old r [] =
    ap (λ l. l.items) at
    ∙ sym (get_or-map (λ room. room.items) rooms r now [] inside)
    ∙ i.dealt.before r [] (omega (arith, one_fewer left rest u is)) in
    let put : c.put.new.self.items ≡ get_or old r [] ++ u ∷ [] = ap (λ x. x.items) c.put.ensures ∙ ap (λ l. l ++ u ∷ []) here in
    let R : ℕ → List UpdaterState → List UpdaterState → Type 0 = λ j before after. (v : UpdaterState) → after ≡ before ++ get_or us j v ∷ [] in
    let this : (d : List UpdaterState) → R r (get_or old r d) c.put.new.self.items =
    λ d v. put ∙ ap (λ l. l ++ u ∷ []) (get_or_default old r [] d within) ∙ ap (λ w. get_or old r d ++ w ∷ []) (sym (last_is us left rest u v i.left is)) in
    let all = one_changed R r (length left) old mid c.put.new.self.items (one_fewer left rest u is) within i.dealt this in record {
      left = rest_begins us left rest u i.left is;
      dealt = subst (ChangedFrom R r old) (ap (λ j. set mid j c.put.new.self.items) (sym n) ∙ sym (map-set (λ room. room.items) rooms c.len.result c.put.new.self)) all;
      most = ap (λ j. sizes_of (set rooms j c.put.new.self)) n ∙ sizes_stay rooms r now c.put.new.self at (ap (λ x. x.most) c.put.ensures) inside ∙ i.most;
    }

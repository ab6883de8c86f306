use Rattle.std.proofs.Common.{rules, ◌≡◌, ap, sym, subst, [], length, Some}
use Rattle.sk_gate.specs.Slots.{telling}
use Rattle.sk_gate.specs.Moves.{RenewsAt, HandsAt}
use Rattle.sk_hub.specs.Updaters.{UpdaterState, items_in, state_of, IsViewOf, IsRenewed, HandsOver}
use Rattle.sk_model.specs.Width.{AreItems}
use Rattle.sk_hub.proofs.Admits.{empty_buffer}
use Rattle.sk_hub.proofs.Views.{view_renewed, view_handed}
use Rattle.sk_hub.proofs.Handing.{handed_sees, handed_view, handed_tells}
use Rattle.sk_hub.proofs.updater.Updater.hand_over.Goals as goal

pub returns-clause-handed : goal.returns-clause-handed
returns-clause-handed g c = let k = g.C.Composable in let f = c.self.inside in let p = c.swap-buffer.result in
    let v = f.seat.view in let w = c.look-hint.new.self.view in let x = c.swap-buffer.new.self.view in let y = c.hand.new.self.view in
    let word = c.look-hint.result in let batch = items_in f.fill in
    let u : UpdaterState = state_of f.seat f.number f.size f.fill f.told f.hint f.last f.eager in
    let u' : UpdaterState = state_of c.hand.new.self f.number f.size (Some p.buffer) p.told word c.len-count.result f.eager in
    let renews : RenewsAt k.hint_of v word w f.number = subst (RenewsAt k.hint_of v word w) c.self.invariant.number_is ((c.look-hint.ensures.told).0 c.if-hint-eq0.false) in
    let same : x ≡ w = ap (λ s. s.view) c.swap-buffer.ensures.seat in
    let hands : HandsAt x y f.number batch = search rules in
    let renewed : IsRenewed k.hint_of u u' = record { lower = search rules; hint_is = search rules; grows = search rules; sees = handed_sees k.hint_of v w x y word f.number batch renews same hands; based = search rules; all = search rules; sees_all = search rules } in
    let hands_over : HandsOver k.hint_of u [] u' = record {
      renewed = renewed;
      view = handed_view k.hint_of v w x y word f.number batch renews same hands;
      state = search rules;
    } in
    subst (λ z. HandsOver k.hint_of z [] u') c.self.view_is hands_over

pub invariant_of-self-2 : goal.invariant_of-self-2
invariant_of-self-2 g c = let k = g.C.Composable in let f = c.self.inside in
    let v = f.seat.view in let w = c.look-hint.new.self.view in let x = c.swap-buffer.new.self.view in let y = c.hand.new.self.view in
    let word = c.look-hint.result in let batch = items_in f.fill in
    let renews : RenewsAt k.hint_of v word w f.number = subst (RenewsAt k.hint_of v word w) c.self.invariant.number_is ((c.look-hint.ensures.told).0 c.if-hint-eq0.false) in
    let same : x ≡ w = ap (λ s. s.view) c.swap-buffer.ensures.seat in
    let hands : HandsAt x y f.number batch = search rules in
    let items : AreItems batch = search rules in
    let view : IsViewOf f.number y = view_handed f.number x y batch hands items (subst (IsViewOf f.number) (sym same) (view_renewed k.hint_of f.number v w word renews c.self.invariant.view)) in
    let count : c.len-count.result ≡ length batch = search rules in
    let p = c.swap-buffer.result.buffer in
    let none : p.items ≡ [] = ap (λ b. b.items) c.swap-buffer.ensures.empty in
    record { number_is = search rules; view = view; free = search rules; own = search rules; within = search rules; few = search rules; slots = search rules; sized = search rules; size_is = search rules; fill_is = search rules; buffer = empty_buffer f.size p.items none (c.self.invariant.buffer.least, c.self.invariant.buffer.most); hint_is = search rules; taken_is = search rules; most = search rules; last_is = search rules; told_is = λ t is. handed_tells k.hint_of v w x y word f.number batch renews same hands (telling k.tells k.told_name k.told_of) c.len-count.result t count (c.swap-buffer.ensures.tells t is).1 }

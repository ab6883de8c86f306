use Rattle.std.proofs.Common.{◌≡◌, ◌<◌, List, ◌∷◌, [], ◌++◌, length, drop, get_or, All, sym, ap, subst, ◌∙◌, arith}
use Rattle.std.proofs.lemmas.List.{length-drop}
use Rattle.std.proofs.lemmas.List.Elements.{All-push}
use Rattle.circular_buffer.specs.Buffer.{Buffer}
use Rattle.sk_theta.specs.Kept.{Sketch}
use Rattle.sk_window.specs.Intervals.{StandForEach}
use Rattle.sk_window.proofs.Standing.{stand_rest, stand_push, stand_k, all_rest, item_at, pushed_room}
use Rattle.sk_window.proofs.sketches.skip_one.Goals as goal

pub returns-clause-stand : goal.returns-clause-stand
returns-clause-stand c =
    let ss = c.args.sketches.now.items in
    let x = c.clear.new.self in
    let popped : c.pop_front.new.self.items ≡ drop 1 ss = ap (λ (b : Buffer Sketch). b.items) c.pop_front.ensures.items in
    let room : c.pop_front.new.self.capacity ≡ c.args.sketches.now.capacity = ap (λ (b : Buffer Sketch). b.capacity) c.pop_front.ensures.items in
    let few : length c.pop_front.new.self.items < c.pop_front.new.self.capacity = omega (arith, ap length popped, length-drop 1 ss, c.requires.full, c.requires.some, room) in
    let put : c.push_back-none.new.self.items ≡ drop 1 ss ++ x ∷ [] = ap (λ (b : Buffer Sketch). b.items) c.push_back-none.ensures.items
    ∙ pushed_room c.pop_front.new.self.capacity c.pop_front.new.self.items x few
    ∙ ap (λ (ts : List Sketch). ts ++ x ∷ []) popped in
    let oldest : c.in-Some.oldest ≡ get_or ss 0 c.in-Some.oldest = item_at ss 0 c.in-Some.oldest c.requires.some c.in-Some.ensures.value in
    λ k lists each.
    let same : c.in-Some.oldest.k ≡ k = ap (λ (s : Sketch). s.k) oldest ∙ stand_k k ss lists 0 c.in-Some.oldest c.requires.some each in
    subst (λ (ts : List Sketch). StandForEach k ts (drop 1 lists ++ [] ∷ [])) (sym put)
    (stand_push k (drop 1 ss) (drop 1 lists) x [] (stand_rest k ss lists each) (c.clear.ensures.numbers ∙ same) c.clear.ensures.stands)

pub returns-clause-same_k : goal.returns-clause-same_k
returns-clause-same_k c =
    let ss = c.args.sketches.now.items in
    let x = c.clear.new.self in
    let popped : c.pop_front.new.self.items ≡ drop 1 ss = ap (λ (b : Buffer Sketch). b.items) c.pop_front.ensures.items in
    let room : c.pop_front.new.self.capacity ≡ c.args.sketches.now.capacity = ap (λ (b : Buffer Sketch). b.capacity) c.pop_front.ensures.items in
    let few : length c.pop_front.new.self.items < c.pop_front.new.self.capacity = omega (arith, ap length popped, length-drop 1 ss, c.requires.full, c.requires.some, room) in
    let put : c.push_back-none.new.self.items ≡ drop 1 ss ++ x ∷ [] = ap (λ (b : Buffer Sketch). b.items) c.push_back-none.ensures.items
    ∙ pushed_room c.pop_front.new.self.capacity c.pop_front.new.self.items x few
    ∙ ap (λ (ts : List Sketch). ts ++ x ∷ []) popped in
    let oldest : c.in-Some.oldest ≡ get_or ss 0 c.in-Some.oldest = item_at ss 0 c.in-Some.oldest c.requires.some c.in-Some.ensures.value in
    λ k all.
    let same : c.in-Some.oldest.k ≡ k = ap (λ (s : Sketch). s.k) oldest ∙ all 0 c.in-Some.oldest c.requires.some in
    subst (All (λ (s : Sketch). s.k ≡ k)) (sym put)
    (All-push (λ (s : Sketch). s.k ≡ k) (drop 1 ss) x (all_rest k ss all) (c.clear.ensures.numbers ∙ same))

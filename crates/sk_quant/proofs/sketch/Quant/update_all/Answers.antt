use Rattle.std.proofs.Common.{◌≡◌, ◌+◌, ◌-◌, ℕ, List, length, take, drop, arith, ap, ◌∙◌, take_all}
use Rattle.std.proofs.lemmas.List.{length-drop, length-take-le}
use Rattle.sk_quant.specs.Quantiles.{Quantiles, updated_all}
use Rattle.sk_quant.proofs.Sketches.{count_updated_all, updated_more}
use Rattle.sk_quant.proofs.sketch.Quant.update_all.Goals as goal

pub fill-at-requires-clause-room : goal.fill-at-requires-clause-room
fill-at-requires-clause-room c =
    let items = c.args.items.now in
    let at = c.fill.at in
    let count : c.fill.self.count ≡ c.args.self.now.count + length (take at items) =
    ap (λ (s : Quantiles). s.count) c.fill.invariant.left ∙ count_updated_all c.args.self.now (take at items) in
    let rest = length-take-le (length items - at) (drop at items) (omega (arith, length-drop at items)) in
    omega (arith, count, length-take-le at items c.fill.invariant.within, rest, c.fill.invariant.within, c.requires)

pub fill-preserved : goal.fill-preserved
fill-preserved c =
    let items = c.args.items.now in
    let at = c.fill.at in
    let n = c.fill-at.result in
    let rest : take (length items - at) (drop at items) ≡ drop at items = take_all (length items - at) (drop at items) (omega (arith, length-drop at items)) in
    record {
      left =
          c.fill-at.ensures.left
          ∙ ap (λ (s : Quantiles). updated_all s (take n (take (length items - at) (drop at items)))) c.fill.invariant.left
          ∙ ap (λ (l : List ℕ). updated_all (updated_all c.args.self.now (take at items)) (take n l)) rest
          ∙ updated_more c.args.self.now items at n;
      within = omega (arith, c.fill-at.ensures.most, ap (λ (l : List ℕ). length l) rest, length-drop at items, c.fill.invariant.within);
      few = omega (arith, c.fill-at.ensures.some, c.fill.invariant.few);
    }

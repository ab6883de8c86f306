use Rattle.std.proofs.Common.{rules, ◌≡◌, ℕ, List, ◌+◌, ◌≤◌, ◌++◌, length, ap, sym, subst, ◌∙◌, arith, length-append}
use Rattle.std.specs.List.{filter}
use Rattle.sk_model.specs.Limits.{most_kept}
use Rattle.sk_compose.specs.Buffers.{IsBuffer}
use Rattle.sk_gate.specs.Slots.{contents}
use Rattle.sk_gate.specs.Views.{mine_of}
use Rattle.sk_hub.specs.Updaters.{UpdaterState, items_in, kept_of}
use Rattle.sk_hub.proofs.Each.{few_filtered, more_items}
use Rattle.sk_hub.proofs.updater.Updater.put_each.Goals as goal

pub overflow_add-self : goal.overflow_add-self
overflow_add-self g c =
    let f = c.self.inside in let p = g.C.Composable.keeps_of f.hint in let items = c.args.items.now in
    let few : length (kept_of c.args.self.now) + length items ≤ most_kept = c.requires.few in
    omega (arith, c.self.invariant.taken_is, ap (λ (z : UpdaterState). length (kept_of z)) c.self.view_is, few, c.put_kept.ensures.value, few_filtered p items)

pub invariant_of-self : goal.invariant_of-self
invariant_of-self g c =
    let f = c.self.inside in let p = g.C.Composable.keeps_of f.hint in let items = c.args.items.now in
    let old : List ℕ = c.in-Some.fill.items in let new : List ℕ = c.put_kept.new.fill.items in
    let handed : List ℕ = (mine_of f.seat.view).handed in
    let items_are : items_in f.fill ≡ old = ap items_in c.in-Some.is in
    let few : length (kept_of c.args.self.now) + length items ≤ most_kept = c.requires.few in
    let shown : length (handed ++ items_in f.fill) ≡ length (kept_of c.args.self.now) = ap (λ (z : UpdaterState). length (kept_of z)) c.self.view_is in
    let room : length old + length items ≤ f.size = omega (arith, c.requires.room, ap (λ (z : UpdaterState). length z.fill) c.self.view_is, ap (λ (z : UpdaterState). z.size) c.self.view_is, ap (λ (l : List ℕ). length l) items_are) in
    let was : IsBuffer (contents old f.size) = subst (λ (l : List ℕ). IsBuffer (contents l f.size)) items_are c.self.invariant.buffer in
    let more : length new ≡ length old + length (filter p items) = ap length c.put_kept.ensures.items ∙ length-append old (filter p items) in
    record {
      number_is = search rules;
      view = search rules;
      free = search rules;
      own = search rules;
      within = search rules;
      few = search rules;
      slots = search rules;
      sized = search rules;
      size_is = search rules;
      fill_is = search rules;
      buffer = subst (λ (l : List ℕ). IsBuffer (contents l f.size)) (sym c.put_kept.ensures.items) (more_items p f.size old items was room c.requires.items);
      hint_is = search rules;
      taken_is = omega (arith, c.self.invariant.taken_is, c.put_kept.ensures.value, more, length-append handed new, length-append handed (items_in f.fill), ap (λ (l : List ℕ). length l) items_are);
      most = omega (arith, c.self.invariant.taken_is, shown, few, c.put_kept.ensures.value, few_filtered p items);
      last_is = search rules;
      told_is = search rules;
    }

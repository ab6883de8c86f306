use Rattle.std.proofs.Common.{◌≡◌, ◌<◌, length, Some, None, false, slice_index_or, slice_set, ap, sym, subst, ◌∙◌}
use Rattle.std.proofs.lemmas.List.{get_or_default}
use Rattle.sk_gate.specs.Slots.{telling}
use Rattle.sk_gate.specs.Views.{known_of}
use Rattle.sk_hub.specs.Updaters.{TellsItems}
use Rattle.sk_hub.proofs.Handles.{told_given, news_given}
use Rattle.sk_hub.proofs.heart.Heart.told.Goals as goal

pub invariant_of-self : goal.invariant_of-self
invariant_of-self g c = let k = g.C.Composable in let f = c.self.inside in
    let within : c.args.i < length f.told.items = subst (λ z. c.args.i < z) (ap (λ h. h.updaters) (sym c.self.view_is) ∙ sym c.self.invariant.told_sized) c.requires.within in
    told_given (telling k.tells k.told_name k.told_of) f.seat f.vacant.items f.told.items f.updaters f.admitted c.args.i c.take.new.self within c.take.ensures.after c.self.invariant

pub returns-clause-tells : goal.returns-clause-tells
returns-clause-tells g c t is = let k = g.C.Composable in let f = c.self.inside in
    let within : c.args.i < length f.told.items = subst (λ z. c.args.i < z) (ap (λ h. h.updaters) (sym c.self.view_is) ∙ sym c.self.invariant.told_sized) c.requires.within in
    let there : slice_index_or f.told.items c.args.i None ≡ Some t = get_or_default f.told.items c.args.i None c.index_mut.result.now within ∙ sym c.index_mut.ensures.value ∙ sym c.take.ensures.value ∙ is in
    subst (λ h. TellsItems (telling k.tells k.told_name k.told_of) h.view.name c.args.i (known_of h.view c.args.i) t) c.self.view_is (c.self.invariant.told_is c.args.i t there).1

pub returns-clause-stays : goal.returns-clause-stays
returns-clause-stays g c = let f = c.self.inside in
    news_given f.seat f.updaters f.admitted f.told.items f.eager c.args.i c.take.new.self c.take.ensures.after
    ∙ λ a. let h = c.self.view_is a in record h { news = slice_set h.news c.args.i false }

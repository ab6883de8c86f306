use Rattle.std.proofs.Common.{◌≡◌, ◌-◌, ◌<◌, List, length, get_or, arith, sym, ap, ◌∙◌, subst}
use Rattle.sk_fill.specs.declared.page.Place.{Place}
use Rattle.sk_fill.specs.declared.page.Page.TheInside.{Inside}
use Rattle.sk_fill.specs.Pages.{IsPage, IsEven, text_in}
use Rattle.sk_fill.proofs.PageText as pages
use Rattle.sk_fill.proofs.page.Page.note.Goals as goal
use Rattle.sk_fill.proofs.page.Page.note.Goals.{in-Some, in-None}

pub overflow_sub-self-inside : goal.overflow_sub-self-inside
overflow_sub-self-inside c = elim c.match-last.branch [
  | in-Some w ↦
      let a = c.self.inside in
      let item = w.in-Some.ensures.item in
      let last : Place = w.in-Some.place.now in
      let i = length a.places.items - 1 in
      let same = ap (λ (ps : List Place). length ps) c.deref.ensures.value in
      let some : i < length a.places.items = omega (arith, item.3.0) in
      let is = item.1 ∙ ap (λ (ps : List Place). get_or ps (length ps - 1) last) c.deref.ensures.value in
      omega (arith, w.last-is, ap (λ (p : Place). p.line) is, pages.noted_before a.buffer.items a.places.items a.count i last c.self.invariant.0 some, ap (λ (s : Inside). s.count) w.self-inside-is)
  | in-None w ↦ omega arith
]

pub invariant_of-self : goal.invariant_of-self
invariant_of-self c =
    let a = c.match-last.self-inside in
    let same : a ≡ c.self.inside = elim c.match-last.branch [ in-Some w ↦ w.self-inside-is | in-None w ↦ w.self-inside-is ] in
    let page = subst (λ (s : Inside). IsPage s.buffer.items s.places.items s.count) (sym same) c.self.invariant.0 in (
      subst (λ (ps : List Place). IsPage a.buffer.items ps a.count) (sym {A = List Place} c.in_ok-push.ensures.items)
          (pages.note_end a.buffer.items a.places.items a.count _ c.len.ensures page),
      subst (λ (s : Inside). IsEven s.even s.count (text_in s.buffer.items)) (sym same) c.self.invariant.1,
    )

use Rattle.std.proofs.Common.{ℕ, List, [], ◌∷◌, ◌++◌, ap, ◌∙◌, append_assoc}
use Rattle.sk_desks.proofs.ending.put_name.Goals as goal

pub returns : goal.returns
returns c = (
  c.name.result.now,
  c.name.ensures,
  c.in_ok-extend_from_slice-2.ensures.items
      ∙ ap (λ (l : List ℕ). l ++ 32 ∷ []) c.in_ok-extend_from_slice.ensures.items
      ∙ append_assoc c.args.text.now.items c.name.result.now (32 ∷ []),
)

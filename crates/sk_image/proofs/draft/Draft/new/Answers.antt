use Rattle.std.proofs.Common.{◌≢◌, List, ℕ, [], length, ap, sym, refl, arith, ◌∙◌, ◌++◌}
use Rattle.std.proofs.lemmas.List.Elements.{All-nil, All-same}
use Rattle.sk_image.proofs.Splits.{joined_none}
use Rattle.sk_image.proofs.draft.Draft.new.Goals as goal

pub returns : goal.returns
returns c = record {
  lines = [];
  holds = refl;
  split = sym (ap (λ (l : List ℕ). l ++ c.new.result.items) joined_none ∙ c.new.ensures.items);
  no_lf = All-same (λ byte. byte ≢ 10) c.new.result.items [] c.new.ensures.items (All-nil (λ byte. byte ≢ 10));
  within = omega (arith, ap (λ (l : List ℕ). length l) c.new.ensures.items);
}

use Rattle.std.proofs.Common.{◌≡◌, [], ◌∷◌, ◌++◌, ℕ, List, length, sym, ap, subst, ◌∙◌, arith}
use Rattle.sk_model.specs.Entries.{Entry, items_of_entries}
use Rattle.sk_compose.proofs.Batches.{items_more}
use Rattle.sk_snap.proofs.Versions.{as_many}
use Rattle.sk_cms.specs.Counts.{Counts, IsCountOf}
use Rattle.sk_cms.specs.ItemCounts.{ItemCounts, item_numbers}
use Rattle.sk_cms.specs.Tallies.{cms_numbers, same_numbers}
use Rattle.sk_cms.proofs.item_count.ItemCountComposable.merge.Goals as goal

pub update_all-requires : goal.update_all-requires
update_all-requires g c =
    omega (
      arith,
      c.requires.few.1.count,
      as_many c.requires.few.0,
      c.requires.few.2,
      ap length c.items.ensures.value,
      ap (λ (s : ItemCounts). s.counts.count) c.self.view_is,
    )

pub returns-clause-lists : goal.returns-clause-lists
returns-clause-lists g c = λ list is.
    let there : IsCountOf c.self.inside.sketch (items_of_entries list) = subst (λ (s : ItemCounts). IsCountOf s.counts (items_of_entries list)) (sym c.self.view_is) is in
    subst (IsCountOf c.update_all.new.self) (ap (λ (l : List ℕ). items_of_entries list ++ l) c.items.ensures.value ∙ sym (items_more c.args._from list c.args.batch.now.items))
    (c.update_all.ensures.list (items_of_entries list) there)

pub returns-clause-numbers : goal.returns-clause-numbers
returns-clause-numbers g c =
    let inside = c.self.inside.sketch in let item = c.self.inside.item in
    let same : cms_numbers c.update_all.new.self.rows c.update_all.new.self.width ≡ cms_numbers inside.rows inside.width =
    ap (λ (s : Counts). cms_numbers s.rows s.width) c.update_all.ensures.left ∙ same_numbers inside c.items.result.now in
    ap (λ (l : List ℕ). l ++ item ∷ []) same ∙ ap (λ (s : ItemCounts). item_numbers s.counts.rows s.counts.width s.item) c.self.view_is

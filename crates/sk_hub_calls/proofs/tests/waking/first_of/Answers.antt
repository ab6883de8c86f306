use Rattle.std.proofs.Common.{◌≡◌, ℕ, ◌+◌, ◌≤◌, [], length, ap, subst, sym, arith}
use Rattle.sk_model.specs.Limits.{most_kept}
use Rattle.sk_fill.specs.Windows.{all_lines}
use Rattle.sk_fill.proofs.Filled.{read_few, read_number}
use Rattle.sk_fill.proofs.StretchLaws.{on_ok_at}
use Rattle.sk_feed.specs.Deliveries.{IsNext, EndAt}
use Rattle.sk_hub_calls.proofs.tests.waking.first_of.Goals as goal

pub fill_stretch-requires : goal.fill_stretch-requires
fill_stretch-requires c = record { started = ([], [], c.in_ok-reader.ensures.read _) }

nothing_ends : (n : ℕ) (A : Type 0) → EndAt [] n → A
nothing_ends n A end = let no : ⊥ = omega (arith, ap length end.2) in absurd no

pub returns : goal.returns
returns c =
    let s = c.fill_stretch.new.stretch in let r = c.in_ok-reader.reader in
    let has = c.in_ok-reader.ensures.read _ in
    let number = read_number r _ [] [] has in
    let read = on_ok_at c.fill_stretch.result c.in_ok-fill_stretch.field-0 _ c.in_ok-fill_stretch.was c.fill_stretch.ensures.reads.read [] [] has in
    let few = read_few c.fill_stretch.new.reader _ (all_lines s.windows) read.0 read.2 in
    subst (IsNext []) (sym c.in_ok-of.ensures) (record { begins = λ n end. nothing_ends n (s.first ≡ n) end; few = omega (arith, few, number, c.fill_stretch.ensures.first) })

use Rattle.std.proofs.Common.{◌≡◌, ℕ, List, Option, Some, Result, ap, subst, rules}
use Rattle.sk_read.specs.declared.fault.Fault.{Fault}
use Rattle.sk_read.specs.declared.kind.Kind.{Kind}
use Rattle.sk_read.specs.declared.units.Units.{Units}
use Rattle.sk_read.specs.Items.{Gave, Missed}
use Rattle.sk_read.specs.Reads.{Reads}
use Rattle.sk_read.specs.Standing.{Standing}
use Rattle.sk_read.proofs.ItemLaws.{gave_none, no_write}
use Rattle.sk_read.proofs.items.read_items.Goals as goal

pub read_units-requires-clause-start : goal.read_units-requires-clause-start
read_units-requires-clause-start g c = gave_none c.args.intake.now.kind (g.T.Taker.stands_for c.args.taker.now) c.requires.empty

same_kind : (k l : Kind) → Some k ≡ Some l → k ≡ l
same_kind k l same = cc

-- the same reading, where the units, the kind and the taker are these
under : {A : Type 0} (last : ℕ) (u units : Units) (k kind : Kind) (x y : A) (P : A → List ℕ → Type 0) (most : ℕ) (old new : Option (List ℕ)) (r : Result ℕ Fault) → u ≡ units → k ≡ kind → x ≡ y →
    Reads last u most (Gave k (P x)) (Missed k (P x)) old new r → Reads last units most (Gave kind (P y)) (Missed kind (P y)) old new r
under {A} last u units k kind x y P most old new r unit_is kind_is taker_is read =
    subst (λ (z : A). Reads last units most (Gave kind (P z)) (Missed kind (P z)) old new r) taker_is
    (subst (λ (l : Kind). Reads last units most (Gave l (P x)) (Missed l (P x)) old new r) kind_is (subst (λ (v : Units). Reads last v most (Gave k (P x)) (Missed k (P x)) old new r) unit_is read))

pub returns-clause-read : goal.returns-clause-read
returns-clause-read g c =
    let kind : c.read_units.new.taker.kind ≡ c.args.intake.now.kind = same_kind _ _ (ap (λ (s : Standing). s.kind) c.read_units.ensures.taker) in
    under _ _ _ _ _ _ _ g.T.Taker.stands_for _ _ _ _ c.of-units.ensures kind (search rules) c.read_units.ensures.read

pub returns-clause-writes_nothing : goal.returns-clause-writes_nothing
returns-clause-writes_nothing g c =
    let taker = c.read_units.new.taker in
    no_write (g.S.Source.last c.read_units.new.source) taker.kind (g.T.Taker.stands_for taker.taker.now) c.of-units.result c.args.intake.now.most (g.S.Source.left c.args.source.now) (g.S.Source.left c.read_units.new.source) c.read_units.result
    c.read_units.ensures.read

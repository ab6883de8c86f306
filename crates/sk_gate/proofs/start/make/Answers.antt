use Rattle.std.proofs.Common.{rules, ◌≡◌, ◌∙◌, ◌+◌, ℕ, length, true, false, refl, ap, sym, subst}
use Rattle.atomic_table.specs.Seated.{TableId}
use Rattle.sk_machine.specs.Coarse.{blank_mine}
use Rattle.sk_machine.specs.declared.views.Post.{Post}
use Rattle.sk_machine.specs.declared.views.Post.TheVariants.{Guest, Root, Updater}
use Rattle.sk_machine.specs.declared.views.View.{View}
use Rattle.sk_gate.specs.Slots.{sketching, telling}
use Rattle.sk_gate.specs.Views.{admitted_sizes}
use Rattle.sk_gate.specs.Hands.{seat_state, Holds}
use Rattle.sk_gate.specs.Starts.{empty_handed, blank_view, blank_of}
use Rattle.sk_gate.proofs.Seats.{sizes_of_length}
use Rattle.sk_gate.proofs.Starts.{blank_holds}
use Rattle.sk_gate.proofs.start.make.Goals as goal

pub all_updaters-requires-clause-sizes : goal.all_updaters-requires-clause-sizes
all_updaters-requires-clause-sizes g c = ap (λ m. length m.0.sizes) c.in_ok-hub.ensures.me ∙ sizes_of_length c.args.admitted c.args.parcels.items ∙ c.requires.count

pub invariant_of-heart : goal.invariant_of-heart
invariant_of-heart g c = let k = g.C.Composable in let gs = sketching k.is_of k.numbers k.name in let ts = telling k.tells k.told_name k.told_of in let n = c.args.n in
    let size = ap (λ m. length m.0.sizes) c.in_ok-hub.ensures.me ∙ sizes_of_length c.args.admitted c.args.parcels.items ∙ c.requires.count in
    let later : length c.all_updaters.new.seat.me.0.sizes ≡ n = ap (λ m. length m.0.sizes) c.in_ok-updaters.ensures.first ∙ size in (
      search rules,
      search rules,
      search rules,
      search rules,
      subst (Holds gs ts true n n 0 false) (sym c.in_ok-token.ensures.first) (blank_holds gs ts true n n (n + 1) c.all_updaters.new.seat.me.0 (Root n) later (refl, refl) refl),
    )

pub returns : goal.returns
returns g c = let k = g.C.Composable in let n = c.args.n in let sizes = admitted_sizes c.args.admitted c.args.parcels.items in let numbers = k.numbers c.args.global in let name = k.name c.args.global in
    let v : View = c.in_ok-hub.seat.me.0 in let w : View = c.all_updaters.new.seat.me.0 in let u : View = c.first_token.new.seat.me.0 in
    let of_first : (p : Post) (i : ℕ) → blank_of v p i ≡ blank_view sizes numbers name p i = λ p i. ap (λ m. blank_of m.0 p i) c.in_ok-hub.ensures.me in
    let of_mid : (p : Post) (i : ℕ) → blank_of w p i ≡ blank_view sizes numbers name p i = λ p i. ap (λ m. blank_of m.0 p i) c.in_ok-updaters.ensures.first ∙ of_first p i in
    let of_last : (p : Post) (i : ℕ) → blank_of u p i ≡ blank_view sizes numbers name p i = λ p i. ap (λ m. blank_of m.0 p i) c.in_ok-token.ensures.first ∙ of_mid p i in
    let table = c.first_token.new.seat.table_id in let same : c.in_ok-hub.seat.table_id ≡ table = sym (c.in_ok-token.ensures.table ∙ c.in_ok-updaters.ensures.table) in record {
      heart_is = (λ a. seat_state (c.in_ok-token.ensures.first a).0 table n 0 (c.in_ok-token.ensures.first a).1) ∙ λ a. empty_handed (of_mid (Root n) (n + 1) a) table n;
      slots = ap (λ (t : TableId). t.slots) (sym same) ∙ c.in_ok-hub.ensures.slots;
      count = c.in_ok-updaters.ensures.count;
      updaters_are = λ i d l. c.in_ok-updaters.ensures.updaters i d l ∙ λ a. empty_handed ((of_first (Updater i blank_mine) (i + 1) ∙ sym (of_last (Updater i blank_mine) (i + 1))) a) (same a) i;
      token_is = c.in_ok-token.ensures.token ∙ λ a. record { view = of_mid Guest (n + 1) a; table = sym c.in_ok-token.ensures.table a };
    }

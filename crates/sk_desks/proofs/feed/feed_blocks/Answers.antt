use Rattle.std.proofs.Common.{◌≡◌, List, ℕ, map, take, subst, arith}
use Rattle.std.proofs.lemmas.List.{take_all, length-map}
use Rattle.sk_fill.specs.Blocks.{blocks_of}
use Rattle.sk_fill.specs.Windows.{WindowState}
use Rattle.sk_desks.specs.Feeds.{TakesLines}
use Rattle.sk_desks.proofs.StretchLaws.{sets_out, has_room, goes_on_its_way}
use Rattle.sk_desks.proofs.feed.feed_blocks.Goals as goal

pub window-init : goal.window-init
window-init g c = sets_out c.args.seed (map (λ (w : WindowState). w.lines) c.args.windows.now) c.args.i c.args.n c.args.desk.now c.requires.tenants c.requires.room

pub feed_block-requires : goal.feed_block-requires
feed_block-requires g c =
    let ws = c.args.windows.now in let w = c.index-windows-at.result in let at = c.window.at in
    record {
      few = c.requires.few;
      within = c.requires.within;
      tenants = c.window.invariant.tenants;
      room = has_room c.args.seed ws w c.args.i c.args.n at c.args.desk.now c.window.desk c.window-test.true c.index-windows-at.is c.window.invariant;
    }

pub window-preserved : goal.window-preserved
window-preserved g c =
    let ws = c.args.windows.now in let w = c.index-windows-at.result in let at = c.window.at in
    goes_on_its_way c.args.seed ws w c.args.i c.args.n at c.args.desk.now c.window.desk c.window-test.true c.index-windows-at.is c.window.invariant c.requires.within c.feed_block.new.desk c.feed_block.ensures

pub returns : goal.returns
returns g c =
    let windows = map (λ (w : WindowState). w.lines) c.args.windows.now in
    let whole : take c.window.at windows ≡ windows = take_all c.window.at windows (omega (arith, c.window-test.false, length-map c.args.windows.now (λ (w : WindowState). w.lines))) in
    subst (λ (l : List (List (List ℕ))). TakesLines c.args.seed c.args.desk.now (blocks_of l c.args.i c.args.n) c.window.desk) whole c.window.invariant.took

use Rattle.std.proofs.Common.{length-take, arith, length, ◌-◌}
use Rattle.sk_fill.specs.Pages.{text_in}
use Rattle.sk_fill.proofs.PageText as pages
use Rattle.sk_fill.proofs.EvenPages.{even_begins}
use Rattle.sk_fill.proofs.page.find_line.Goals as goal

pub skip_lfs-at-requires-clause-within : goal.skip_lfs-at-requires-clause-within
skip_lfs-at-requires-clause-within c =
    let bytes = c.args.bytes.now in
    let b = c.last_place-before.ensures.place (text_in bytes) c.requires.places in
    omega (arith, b.within, c.requires.padded.long, length-take (length bytes - 64) bytes)

pub returns : goal.returns
returns c =
    let bytes = c.args.bytes.now in
    let before = c.last_place-before in
    let skip = c.skip_lfs-at.ensures in
    pages.place_found bytes c.args.line before.result.line before.result.at c.skip_lfs-at.result.0 c.skip_lfs-at.result.1 c.requires.whole c.requires.within
    (before.ensures.place (text_in bytes) c.requires.places) before.ensures.before skip.few skip.place.0 skip.place.1 skip.run skip.all

pub returns-then-even-gt0 : goal.returns-then-even-gt0
returns-then-even-gt0 c = even_begins c.args.even c.args.line (text_in c.args.bytes.now) c.if-even-gt0.true c.requires.even c.requires.within

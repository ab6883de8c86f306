use Rattle.std.proofs.Common.{ap}
use Rattle.sk_cli.specs.commands.Join.{image_or_line}
use Rattle.sk_cli.proofs.Joining.{fit_of, joined_is, wrote_both}
use Rattle.sk_cli.proofs.commands.join.write_both.Goals as goal

pub returns-in-Ok-clause-done : goal.returns-in-Ok-clause-done
returns-in-Ok-clause-done g c =
    let left = c.args.left.now in
    let right = c.args.right.now in
    let e = c.in-Ok.ensures in
    let w = c.write_joined.ensures in
    wrote_both c.args.as_image (g.O.Sink.written c.args.out.now) (g.O.Sink.written c.write_joined.new.out) left right (image_or_line c.args.as_image c.in-Ok.joined) c.write_joined.result
    (joined_is c.args.as_image c.in-Ok.joined left right e.version e.k e.seed e.hashes) (fit_of left right _ e.mixed (λ no. absurd (cc))) w.ok w.part
    (λ none. ap (λ o. g.O.Sink.written o) (w.memory none)) w.err

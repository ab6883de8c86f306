use Rattle.std.proofs.Common.{◌≡◌, arith, ap}
use Rattle.sk_lines.specs.Cutter.{Cutter}
use Rattle.sk_lines.proofs.Steps as steps
use Rattle.sk_lines.proofs.cutter.Lines.stop.Goals as goal

pub returns-clause-long : goal.returns-clause-long
returns-clause-long c =
    λ n is. let same : c.saturating_add.result ≡ n = cc in
    steps.is_long_open c.args.self.now n (omega (arith, same, c.saturating_add.ensures, ap (λ (x : Cutter). x.number) c.self.view_is)) c.requires.long

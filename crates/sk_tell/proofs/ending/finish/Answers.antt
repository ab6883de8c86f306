use Rattle.std.proofs.Common.{sym, subst}
use Rattle.sk_feed.specs.Hubs.{hub_of}
use Rattle.sk_report.proofs.Results.{if_err_is}
use Rattle.sk_snap.specs.Versions.{items_in}
use Rattle.sk_tell.specs.Finishing.{StopsShort}
use Rattle.sk_tell.proofs.ending.finish.Goals as goal

pub returns-in_err-write_last-clause-short : goal.returns-in_err-write_last-clause-short
returns-in_err-write_last-clause-short g c =
    let line = g.Q.Line in let r = c.args.reader in let s = c.close.new.reader in let gives = c.in_ok-answer.ensures.gives in
    let w = g.O.Sink.written c.args.out.now in let w' = g.O.Sink.written c.write_last.new.out in
    if_err_is c.from_residual-in_err-write_last.result c.in_err-write_last.field-0.0 _ c.from_residual-in_err-write_last.ensures.1
    (subst (StopsShort line.line line.lower line.upper c.args.query (hub_of c.args.opened) r w w') (sym c.in_err-write_last.ensures.fault) (
      c.close.new.heart,
      s,
      record {
        closes = c.in_ok-answer.ensures.closed;
        holds = g.met.Q.Line.means c.args.query r.numbers (items_in s.known) c.in_ok-answer.answer gives;
        written = c.in_err-write_last.ensures.part r.numbers (items_in s.known) gives;
      },
    ))

pub returns-clause-finishes : goal.returns-clause-finishes
returns-clause-finishes g c =
    let r = c.args.reader in let s = c.close.new.reader in let gives = c.in_ok-answer.ensures.gives in
    record {
      closes = c.in_ok-answer.ensures.closed;
      holds = g.met.Q.Line.means c.args.query r.numbers (items_in s.known) c.in_ok-answer.answer gives;
      written = c.in_ok-write_last.ensures.ok r.numbers (items_in s.known) gives;
    }

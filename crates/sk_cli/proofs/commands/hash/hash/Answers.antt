use Rattle.std.proofs.Common.{[], ℕ, refl, sym, subst, arith}
use Rattle.std.proofs.KnownBytes.{Consumes-nil}
use Rattle.sk_cli.specs.commands.Hash.{hash_text, hashing}
use Rattle.sk_cli.specs.Outside.{Streams, streams_of}
use Rattle.sk_cli.specs.Run.{Executes}
use Rattle.sk_cli.specs.declared.fault.Fault.TheVariants as fault
use Rattle.sk_cli.proofs.Endings.{ends_by, nothing_yet}
use Rattle.sk_cli.proofs.Hashing.{no_hash_text, hashes_go, no_hash_yet}
use Rattle.sk_cli.proofs.commands.hash.hash.Goals as goal

pub answer_lines-requires : goal.answer_lines-requires
answer_lines-requires g c = omega (arith, c.in_ok-reader.ensures.piece)

pub returns-in_err-reader-clause-done : goal.returns-in_err-reader-clause-done
returns-in_err-reader-clause-done g c = λ from to.
    let plan = c.args.plan.now in
    let a : Streams = streams_of g.S.Source g.O.Sink c.args.source.now c.args.out.now in
    ends_by (hashing plan) c.args.most from to a a _ fault.OutOfMemory c.from_residual.ensures.1 (nothing_yet (hashing plan) c.args.most from to a (hash_text plan.seed []) (no_hash_yet plan from to))

pub returns-clause-done : goal.returns-clause-done
returns-clause-done g c = λ from to.
    let plan = c.args.plan.now in
    let a : Streams = streams_of g.S.Source g.O.Sink c.args.source.now c.args.out.now in
    let b : Streams = streams_of g.S.Source g.O.Sink c.answer_lines.new.source c.answer_lines.new.out in
    subst (λ (m : ℕ). Executes (hashing plan) m from to a b c.answer_lines.result) c.in_ok-reader.ensures.most
    (c.answer_lines.ensures.done from to a [] [] (c.in_ok-reader.ensures.read a.left) (Consumes-nil a.left) refl (sym (no_hash_text plan.seed)) (hashes_go plan from to []))

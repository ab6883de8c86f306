use Rattle.std.proofs.Common.{◌++◌, codes, decimal}
use Rattle.sk_model.specs.Causes.{AppendsPart}
use Rattle.sk_serve.specs.Texts.{end_text, session_line}
use Rattle.sk_report.proofs.Fronts.{part_longer, part_behind, on_err, on_err_then}
use Rattle.sk_serve.proofs.text.write_session.Goals as goal

pub returns-in_err-write_all-clause-part : goal.returns-in_err-write_all-clause-part
returns-in_err-write_all-clause-part g c = let e = c.args.end in
    on_err _ _ (part_longer _ _ (codes "session ") (decimal c.args.i ++ (codes " " ++ (end_text e ++ codes "\n"))) c.in_err-write_all.ensures.err)

pub returns-in_err-write_number-clause-part : goal.returns-in_err-write_number-clause-part
returns-in_err-write_number-clause-part g c = let e = c.args.end in
    on_err _ _ (part_behind _ _ _ (codes "session ") (decimal c.args.i ++ (codes " " ++ (end_text e ++ codes "\n"))) c.in_ok-write_all.ensures.ok
    (part_longer _ _ (decimal c.args.i) (codes " " ++ (end_text e ++ codes "\n")) c.in_err-write_number.ensures.part))

pub returns-in_err-write_all-2-clause-part : goal.returns-in_err-write_all-2-clause-part
returns-in_err-write_all-2-clause-part g c = let e = c.args.end in
    on_err _ _ (part_behind _ _ _ (codes "session ") (decimal c.args.i ++ (codes " " ++ (end_text e ++ codes "\n"))) c.in_ok-write_all.ensures.ok
    (part_behind _ _ _ (decimal c.args.i) (codes " " ++ (end_text e ++ codes "\n")) c.in_ok-write_number.ensures.ok
    (part_longer _ _ (codes " ") (end_text e ++ codes "\n") c.in_err-write_all-2.ensures.err)))

pub returns-in_err-write_end_text-clause-part : goal.returns-in_err-write_end_text-clause-part
returns-in_err-write_end_text-clause-part g c = let e = c.args.end in
    on_err _ _ (part_behind _ _ _ (codes "session ") (decimal c.args.i ++ (codes " " ++ (end_text e ++ codes "\n"))) c.in_ok-write_all.ensures.ok
    (part_behind _ _ _ (decimal c.args.i) (codes " " ++ (end_text e ++ codes "\n")) c.in_ok-write_number.ensures.ok
    (part_behind _ _ _ (codes " ") (end_text e ++ codes "\n") c.in_ok-write_all-2.ensures.ok
    (part_longer _ _ (end_text e) (codes "\n") c.in_err-write_end_text.ensures.part))))

pub returns-clause-part : goal.returns-clause-part
returns-clause-part g c = let e = c.args.end in
    on_err_then c.write_all-3.result
    (AppendsPart (g.O.Sink.written c.write_end_text.new.out) (g.O.Sink.written c.write_all-3.new.out) (codes "\n"))
    (AppendsPart (g.O.Sink.written c.args.out.now) (g.O.Sink.written c.write_all-3.new.out) (session_line c.args.i e))
    (λ part. part_behind _ _ _ (codes "session ") (decimal c.args.i ++ (codes " " ++ (end_text e ++ codes "\n"))) c.in_ok-write_all.ensures.ok
    (part_behind _ _ _ (decimal c.args.i) (codes " " ++ (end_text e ++ codes "\n")) c.in_ok-write_number.ensures.ok
    (part_behind _ _ _ (codes " ") (end_text e ++ codes "\n") c.in_ok-write_all-2.ensures.ok
    (part_behind _ _ _ (end_text e) (codes "\n") c.in_ok-write_end_text.ensures.ok part))))
    c.write_all-3.ensures.err

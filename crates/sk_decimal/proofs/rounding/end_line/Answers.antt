use Rattle.std.proofs.Common.{◌≡◌, ℕ, List, [], ◌∷◌, ◌++◌, OnOk, OnErr, subst, sym, ap, ◌∙◌, arith}
use Rattle.std.specs.Io.KnownBytes.{Appends}
use Rattle.sk_model.specs.Causes.{AppendsPart}
use Rattle.sk_decimal.specs.Rounded.{rounded_line}
use Rattle.sk_decimal.proofs.Passages.{short_line}
use Rattle.sk_decimal.proofs.rounding.end_line.Goals as goal

pub push-requires : goal.push-requires
push-requires g c = omega (arith, c.round_last.ensures.most)

pub returns-clause-ok : goal.returns-clause-ok
returns-clause-ok g c =
    let text : c.bytes.result.now ≡ rounded_line c.args.digits c.args.line.now ++ 10 ∷ [] =
    c.bytes.ensures ∙ c.push.ensures ∙ ap (λ (l : List ℕ). l ++ 10 ∷ []) (c.round_last.ensures.line ∙ sym (short_line c.args.digits c.args.line.now c.requires.short)) in
    subst (λ (l : List ℕ). OnOk c.write_all-result.result (Appends (g.O.Sink.written c.args.out.now) (g.O.Sink.written c.write_all-result.new.out) l)) text c.write_all-result.ensures.ok

pub returns-clause-err : goal.returns-clause-err
returns-clause-err g c =
    let text : c.bytes.result.now ≡ rounded_line c.args.digits c.args.line.now ++ 10 ∷ [] =
    c.bytes.ensures ∙ c.push.ensures ∙ ap (λ (l : List ℕ). l ++ 10 ∷ []) (c.round_last.ensures.line ∙ sym (short_line c.args.digits c.args.line.now c.requires.short)) in
    subst (λ (l : List ℕ). OnErr c.write_all-result.result (AppendsPart (g.O.Sink.written c.args.out.now) (g.O.Sink.written c.write_all-result.new.out) l)) text c.write_all-result.ensures.err

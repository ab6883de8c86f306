use Rattle.std.proofs.Common.{◌≡◌, suc, ◌+◌, ◌<◌, ◌++◌, ◌∷◌, [], length, take, get_or, sym, ap, subst, ◌∙◌, arith, length-append, length-set, length-take-le}
use Rattle.std.proofs.Math.Seq.{take-suc}
use Rattle.sk_tenant.specs.Calls.{Adds}
use Rattle.sk_tenant.specs.Desks.{AreDone}
use Rattle.uses.specs.Adds.{adds_of}
use Rattle.uses.proofs.AddsLaws.{adds_more}
use Rattle.uses.proofs.tenants.add_each.Goals as goal

pub line-preserved : goal.line-preserved
line-preserved c =
    let i = c.line.invariant in let n = c.line.line-index in let lines = c.args.lines.now in let answers = c.line.answers.items in let r = c.add.result in
    let line = get_or lines n (0, 0) in let done = c.add.ensures.done in
    let within : n < length lines = omega (arith, c.line-test.true) in
    let next : n + 1 ≡ suc n = omega arith in
    let taken : take (n + 1) lines ≡ take n lines ++ line ∷ [] = ap (λ m. take m lines) next ∙ take-suc lines n (0, 0) within in
    let as_many : length answers ≡ length (take n lines) = i.count ∙ sym (length-take-le n lines (omega (arith, within))) in
    let calls : adds_of (take (n + 1) lines) c.push.new.self.items ≡ adds_of (take n lines) answers ++ (line.0, Adds line.1 r) ∷ [] =
    ap (λ l. adds_of l c.push.new.self.items) taken ∙ ap (adds_of (take n lines ++ line ∷ [])) c.in_ok-push.ensures.items ∙ adds_more (take n lines) answers line r as_many in record {
      done = subst (λ l. AreDone c.args.desk.now l c.add.new.self) (sym calls)
          (c.calls_add_up.ensures.one_more c.args.desk.now c.line.desk c.add.new.self (adds_of (take n lines) answers) line.0 (Adds line.1 r) i.done done);
      count = omega (arith, ap length c.in_ok-push.ensures.items, length-append answers (r ∷ []), i.count);
      tenants = ap (λ s. length s.updaters) done.stays ∙ length-set c.line.desk.updaters line.0 done.after ∙ i.tenants;
    }

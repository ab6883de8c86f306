use Rattle.std.proofs.Common.{◌≡◌, ℕ, List, ◌++◌, codes, slice_get, Some, subst, ap, ◌∙◌, append_assoc}
use Rattle.sk_feed.proofs.Rounds.{ok_then}
use Rattle.sk_model.specs.Sketch.{fraction_of, unpacked}
use Rattle.sk_lines.specs.Fractions.{estimate_line}
use Rattle.sk_desks.specs.Endings.{estimate_in}
use Rattle.sk_desks.proofs.Counting.{same_asked, counted_still}
use Rattle.sk_desks.proofs.ending.put_line.Goals as goal

pub returns-clause-line : goal.returns-clause-line
returns-clause-line c =
    let name = c.in_ok-put_name.ensures in
    let text = c.args.text.now.items in
    let line = estimate_line c.fraction-n.result in
    let shown : (c.unpack.result.count, c.unpack.result.theta) ≡ unpacked c.args.k c.ask.result = c.unpack.ensures.value in
    let estimate : c.fraction-n.result ≡ estimate_in c.args.k c.ask.result = c.fraction-n.ensures.value ∙ ap (λ (p : ℕ × ℕ). fraction_of c.args.k p.0 p.1) shown in
    ok_then c.put_estimate.result c.put_estimate.ensures (λ put. record {
      name = name.0;
      is_at = subst (λ (l : List (List ℕ)). slice_get l c.args.t ≡ Some name.0) c.names.ensures.value name.1;
      word = c.ask.result;
      asked = c.ask.ensures.asked;
      written = put
          ∙ ap (λ (l : List ℕ). l ++ line) name.2
          ∙ append_assoc text (name.0 ++ codes " ") line
          ∙ ap (λ (l : List ℕ). text ++ l) (append_assoc name.0 (codes " ") line)
          ∙ ap (λ (e : ℕ × ℕ). text ++ (name.0 ++ (codes " " ++ estimate_line e))) estimate;
    })

pub returns-clause-kept : goal.returns-clause-kept
returns-clause-kept c = λ plan lines counted. counted_still plan lines c.args.hosts.now c.ask.new.self (same_asked c.args.hosts.now c.ask.new.self c.args.t c.ask.result c.ask.ensures.asked) c.ask.ensures.taken_in counted

pub returns-clause-same : goal.returns-clause-same
returns-clause-same c = same_asked c.args.hosts.now c.ask.new.self c.args.t c.ask.result c.ask.ensures.asked

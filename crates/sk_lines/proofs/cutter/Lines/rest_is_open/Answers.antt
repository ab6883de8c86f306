use Rattle.std.proofs.Common.{◌≡◌, ◌-◌, ◌<◌, ◌≤◌, List, ℕ, length, take, drop, ap, ◌∙◌, arith}
use Rattle.std.specs.Str.Lines.{strip_carriage_return}
use Rattle.sk_lines.specs.Cutter.{Cutter}
use Rattle.sk_lines.proofs.Steps as steps
use Rattle.sk_lines.proofs.cutter.Lines.rest_is_open.Goals as goal

pub stop-requires-clause-long : goal.stop-requires-clause-long
stop-requires-clause-long c =
    let a = c.self.inside in
    let old = c.args.self.now in
    let is = c.self.view_is in
    let rest : take (c.len-text_end.result - 64 - a.at) (drop a.at c.bytes.result.now) ≡ old.rest =
    steps.same_rest _ _ a.at _ _ c.len-text_end.ensures c.bytes.ensures ∙ ap (λ (x : Cutter). x.rest) is in
    let over : old.limit < length (strip_carriage_return old.rest) =
    omega (arith, c.line_len.ensures, ap (λ (l : List ℕ). length (strip_carriage_return l)) rest, c.if-line_len-self.true, ap (λ (x : Cutter). x.limit) is) in
    steps.long_so_far old.limit old.rest c.requires.piece over

pub returns-clause-more : goal.returns-clause-more
returns-clause-more c =
    let a = c.self.inside in
    let old = c.args.self.now in
    let is = c.self.view_is in
    let rest : take (c.len-text_end.result - 64 - a.at) (drop a.at c.bytes.result.now) ≡ old.rest =
    steps.same_rest _ _ a.at _ _ c.len-text_end.ensures c.bytes.ensures ∙ ap (λ (x : Cutter). x.rest) is in
    let fits : length (strip_carriage_return old.rest) ≤ old.limit =
    omega (arith, c.line_len.ensures, ap (λ (l : List ℕ). length (strip_carriage_return l)) rest, c.if-line_len-self.false, ap (λ (x : Cutter). x.limit) is) in
    λ _. steps.waits_for_more c.args.self.now _ c.requires.piece fits
    (ap (λ (x : Cutter). x.limit) is) (ap (λ (x : Cutter). x.rest) is) (ap (λ (x : Cutter). x.number) is)

use Rattle.std.proofs.Common.{◌≡◌, ◌+◌, ◌++◌, ℕ, List, All, length, take, drop, slice_range, sym, ap, ◌∙◌, subst, arith, length-take, length-drop, take-append-drop, take-add}
use Rattle.std.proofs.lemmas.List.{length-map, take_all}
use Rattle.std.proofs.lemmas.List.Elements.{All-append}
use Rattle.sk_lines.specs.Spans.{lines_at}
use Rattle.sk_lines.specs.declared.spans.Span.{Span}
use Rattle.sk_label.specs.declared.fault.LabelFault.{LabelFault}
use Rattle.sk_desks.specs.Gathers.{IsOfTenant, StopsWithin}
use Rattle.sk_desks.proofs.BlockLaws.{group_is, group_rest}
use Rattle.sk_desks.proofs.WentLaws.{stop_is}
use Rattle.sk_desks.proofs.WindowLaws.{stops_after}
use Rattle.sk_desks.proofs.window.examine_from.Goals.{After-next_lines-found}
use Rattle.sk_desks.proofs.window.examine_from.Goals as goal

abbrev all : After-next_lines-found → List (List ℕ)
all c = drop c.args.place c.args.window.now.lines

abbrev spans : After-next_lines-found → List Span
spans c = take c.next_lines-found.result.1 c.next_lines-found.new.spans

abbrev group : After-next_lines-found → List (List ℕ)
group c = lines_at (spans c) c.next_lines-found.result.0.now

size : (c : After-next_lines-found) → length (group c) ≡ c.next_lines-found.result.1
size c =
    length-map (spans c) (λ (span : Span). slice_range c.next_lines-found.result.0.now span.from span.to)
    ∙ omega (arith, length-take c.next_lines-found.result.1 c.next_lines-found.new.spans, c.next_lines-found.ensures.few)

before_size : (c : After-next_lines-found) → length (take c.group.done (all c)) ≡ c.group.done
before_size c = omega (arith, length-take c.group.done (all c), length-drop c.args.place c.args.window.now.lines, c.group.invariant.within, c.len.ensures.value)

parted : (c : After-next_lines-found) → all c ≡ take c.group.done (all c) ++ (group c ++ c.next_lines-found.new.self.rest)
parted c = sym (take-append-drop c.group.done (all c)) ∙ ap (λ (ls : List (List ℕ)). take c.group.done (all c) ++ ls) (sym c.group.invariant.rest ∙ c.next_lines-found.ensures.lines)

pub returns-in_err-examine_lines-clause-stopped : goal.returns-in_err-examine_lines-clause-stopped
returns-in_err-examine_lines-clause-stopped c =
    let at = (goal.at.returns-in_err-examine_lines-clause-stopped c).After-next_lines-found in
    let names = c.args.names.now in let f = c.in_err-examine_lines.field-0.0 in let done = c.group.done in
    stop_is (λ (x : LabelFault). StopsWithin names (all at) c.args.first x) f c.from_residual.result c.from_residual.ensures.1
    (stops_after names (all at) (take done (all at)) (group at) c.next_lines-found.new.self.rest c.args.first done f (parted at) (before_size at) c.group.invariant.fine c.in_err-examine_lines.ensures.stopped)

pub group-preserved : goal.group-preserved
group-preserved c =
    let at = (goal.at.group-preserved c).After-next_lines-found in
    let names = c.args.names.now in let done = c.group.done in let found = c.next_lines-found.result.1 in let rest = c.next_lines-found.new.self.rest in
    let more : take (done + found) (all at) ≡ take done (all at) ++ group at =
    take-add done found (all at) ∙ ap (λ (ls : List (List ℕ)). take done (all at) ++ ls) (sym (group_is (all at) c.group.lines.rest rest (group at) done found c.group.invariant.rest c.next_lines-found.ensures.lines (size at))) in
    record {
      within = omega (arith, c.next_lines-found.ensures.most, c.group-test.true);
      rest = group_rest (all at) c.group.lines.rest rest (group at) done found c.group.invariant.rest c.next_lines-found.ensures.lines (size at);
      fine = subst (All (IsOfTenant names)) (sym more) (All-append (IsOfTenant names) (take done (all at)) (group at) c.group.invariant.fine c.in_ok-examine_lines.ensures.fine);
    }

pub returns-clause-fine : goal.returns-clause-fine
returns-clause-fine c =
    let lines : List (List ℕ) = drop c.args.place c.args.window.now.lines in
    subst (All (IsOfTenant c.args.names.now)) (take_all c.group.done lines (omega (arith, c.group-test.false, c.len.ensures.value, length-drop c.args.place c.args.window.now.lines))) c.group.invariant.fine

use Rattle.std.proofs.Common.{◌≡◌, ◌-◌, ◌+◌, ◌≤◌, ◌++◌, ℕ, List, length, take, drop, slice_range, refl, sym, ap, ◌∙◌, subst, arith, take-add}
use Rattle.std.proofs.lemmas.List.{drop_at}
use Rattle.sk_lines.specs.Cutter.{Cutter}
use Rattle.sk_lines.specs.Inside.{cutter_of}
use Rattle.sk_lines.specs.Runs.{GivesRun, IsRun, run_between}
use Rattle.sk_lines.proofs.Steps.{length_rest, front_of_rest}
use Rattle.sk_lines.proofs.GivenRuns.{none_given, run_given}
use Rattle.sk_lines.proofs.cutter.Lines.pass_run.Goals.{After-saturating_add-self-inside}
use Rattle.sk_lines.proofs.cutter.Lines.pass_run.Goals as goal

pub returns-then-self-clause-run : goal.returns-then-self-clause-run
returns-then-self-clause-run c = none_given c.args.self.now (omega (arith, c.self.ranges.1, ap (λ (x : Cutter). x.number) c.self.view_is))

pub returns-then-len-self-clause-run : goal.returns-then-len-self-clause-run
returns-then-len-self-clause-run c = none_given c.args.self.now (omega (arith, c.self.ranges.1, ap (λ (x : Cutter). x.number) c.self.view_is))

module _ (c : After-saturating_add-self-inside) where
  abbrev items : List ℕ
  items = c.self.inside.buffer.items

  abbrev at : ℕ
  at = c.self.inside.at

  abbrev have : ℕ
  have = length items - 64

  abbrev old : Cutter
  old = cutter_of c.self.inside

  abbrev new : Cutter
  new = cutter_of (record c.self.inside { at = at + c.args.bytes; scanned = at + c.args.bytes; marks = 0; number = c.saturating_add-self-inside.result })

  held : at ≤ have
  held = omega (arith, c.self.invariant.at)

  size : length old.rest ≡ have - at
  size = length_rest items at have held (omega arith)

  fits : c.args.bytes ≤ have - at
  fits = omega (arith, size, c.requires.within, ap (λ (x : Cutter). length x.rest) c.self.view_is)

  front : take c.args.bytes old.rest ≡ take c.args.bytes (drop at items)
  front = front_of_rest items at have held (omega arith) c.args.bytes fits

  is : IsRun c.args.count (slice_range items at (at + c.args.bytes))
  is =
      let all : c.args.bytes ≡ (at + c.args.bytes) - at = omega arith in
      subst (IsRun c.args.count) (front ∙ ap (λ (n : ℕ). take n (drop at items)) all) (subst (λ (x : Cutter). IsRun c.args.count (take c.args.bytes x.rest)) (sym c.self.view_is) c.requires.run)

pub returns-clause-run : goal.returns-clause-run
returns-clause-run c =
    let at = (goal.at.returns-clause-run c).After-saturating_add-self-inside in
    let a = c.self.inside in
    subst (λ (x : Cutter). GivesRun x (new at) c.args.count) c.self.view_is
    (run_given (old at) (new at) a.buffer.items c.args.count a.at (a.at + c.args.bytes) (have at) (is at) (omega arith) (omega (arith, fits at, held at)) (omega arith)
    refl refl refl refl (omega (arith, size at, c.if-len-self.false, c.len.ensures)) (omega (arith, c.saturating_add-self-inside.ensures)) refl)

pub returns-clause-all : goal.returns-clause-all
returns-clause-all c = λ some.
    let at = (goal.at.returns-clause-all c).After-saturating_add-self-inside in
    let a = c.self.inside in
    let run : List ℕ = take c.args.bytes (drop a.at a.buffer.items) in
    let grown : (new at).front ≡ (old at).front ++ run = take-add a.at c.args.bytes a.buffer.items in
    let here : run_between (old at) (new at) ≡ run = ap (drop (length (old at).front)) grown ∙ drop_at (old at).front run (length (old at).front) refl in
    (refl, subst (λ (x : Cutter). run_between x (new at) ≡ take c.args.bytes x.rest) c.self.view_is (here ∙ sym (front at)))

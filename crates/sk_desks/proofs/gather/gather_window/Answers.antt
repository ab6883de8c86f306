use Rattle.std.proofs.Common.{◌≡◌, ◌≤◌, ◌∷◌, [], ◌++◌, List, ℕ, length, Bool, true, false, Ok, Err, OnOk, IfErr, refl, sym, ap, ◌∙◌, subst, arith}
use Rattle.std.specs.List.{concat}
use Rattle.sk_model.specs.Limits.{line_limit}
use Rattle.sk_lines.specs.Cutter.{HasNoLf}
use Rattle.sk_label.specs.Faults.{fault_of_lines}
use Rattle.sk_label.specs.declared.fault.LabelFault.{LabelFault}
use Rattle.sk_fill.proofs.Filled.{line_short}
use Rattle.sk_fill.proofs.Readings.{steady_on_ok}
use Rattle.sk_desks.specs.Gathers.{IsOfTenant, GoOnFine, StopsWithin, StopsHeld, TakesHeld}
use Rattle.sk_desks.proofs.GatherLaws as laws
use Rattle.sk_desks.proofs.gather.gather_window.Goals as goal

pub piece-init : goal.piece-init
piece-init g c = record {
  gives = laws.no_line_given c.args.reader.now (g.S.Source.left c.args.source.now) c.args.window.now.lines c.requires.empty;
  fine = laws.no_line_fine c.args.window.now.names c.args.window.now.lines c.requires.empty;
  room = omega (arith, ap length c.requires.empty);
  small = omega (arith, ap (λ (ls : List (List ℕ)). length (concat ls)) c.requires.empty);
  names = refl;
  bound = refl;
  piece = λ within. within;
  fewer = omega arith;
  steady = refl;
  stays = refl;
}

pub returns-in_err-next-clause-gathers : goal.returns-in_err-next-clause-gathers
returns-in_err-next-clause-gathers g c =
    let inv = c.piece.invariant in let s = c.in_err-next.field-0.0 in let lines = c.piece.window.lines in
    let names = c.args.window.now.names in
    let old = g.S.Source.left c.args.source.now in let new = g.S.Source.left c.next.new.source in
    let bound = c.next.ensures.most ∙ inv.bound in
    laws.gathers_not names c.args.reader.now c.next.new.self old new lines bound c.from_residual.result (fault_of_lines s) c.from_residual.ensures.1 (laws.lines_quiet s)
    (laws.stops_at_fault names lines c.args.reader.now c.piece.reader c.next.new.self old (g.S.Source.left c.piece.source) new c.next.result inv.gives c.next.ensures.goes inv.fine bound s c.in_err-next.was)

pub returns-in_err-push-clause-gathers : goal.returns-in_err-push-clause-gathers
returns-in_err-push-clause-gathers g c =
    let inv = c.piece.invariant in let f = c.in_err-push.field-0.0 in let lines = c.piece.window.lines in let names = c.args.window.now.names in
    let old = g.S.Source.left c.args.source.now in let new = g.S.Source.left c.next.new.source in
    let line = c.line.result.now in let n = c.number.result in
    let bound = c.next.ensures.most ∙ inv.bound in
    let yes : c.next.result ≡ Ok true = c.in_ok-next.was ∙ ap (λ (b : Bool). Ok b) c.if-branch.true in
    let stops : StopsWithin names (line ∷ []) n f = subst (λ (ns : List (List ℕ)). StopsWithin ns (line ∷ []) n f) inv.names c.in_err-push.ensures.stopped in
    laws.gathers_not names c.args.reader.now c.next.new.self old new c.push.new.self.lines bound c.from_residual-in_err-push.result f c.from_residual-in_err-push.ensures.1 (laws.stops_quiet names (line ∷ []) n f stops)
    (laws.stops_at_line names lines c.args.reader.now c.piece.reader c.next.new.self old (g.S.Source.left c.piece.source) new c.next.result inv.gives c.next.ensures.goes inv.fine bound yes line n c.line.ensures c.number.ensures f stops)

pub push-requires-clause-short : goal.push-requires-clause-short
push-requires-clause-short g c =
    let inv = c.piece.invariant in let start = c.requires.started in
    let old = g.S.Source.left c.args.source.now in let new = g.S.Source.left c.next.new.source in
    let yes : c.next.result ≡ Ok true = c.in_ok-next.was ∙ ap (λ (b : Bool). Ok b) c.if-branch.true in
    let one = laws.one_line c.args.window.now.names c.piece.window.lines c.args.reader.now c.piece.reader c.next.new.self old (g.S.Source.left c.piece.source) new c.next.result inv.gives c.next.ensures.goes yes start.0 start.1 start.2 in
    subst (λ (l : List ℕ). length l ≤ line_limit) (sym c.line.ensures) (line_short c.next.new.self old new (start.0 ++ c.piece.window.lines) c.next.new.self.cutter.line start.1 one)

pub push-requires-clause-plain : goal.push-requires-clause-plain
push-requires-clause-plain g c =
    let yes : c.next.result ≡ Ok true = c.in_ok-next.was ∙ ap (λ (b : Bool). Ok b) c.if-branch.true in
    subst HasNoLf (sym c.line.ensures) (c.next.ensures.plain yes)

pub take_held-requires : goal.take_held-requires
take_held-requires g c =
    let inv = c.piece.invariant in let start = c.requires.started in
    let old = g.S.Source.left c.args.source.now in let new = g.S.Source.left c.next.new.source in
    let yes : c.next.result ≡ Ok true = c.in_ok-next.was ∙ ap (λ (b : Bool). Ok b) c.if-branch.true in
    let gives = laws.line_given c.args.window.now.names c.piece.window.lines c.args.reader.now c.piece.reader c.next.new.self old (g.S.Source.left c.piece.source) new c.next.result inv.gives c.next.ensures.goes yes c.push.new.self.lines c.line.result.now c.line.ensures c.in_ok-push.ensures.lines in
    let on = gives start.0 start.1 start.2 in
    record { started = (new, start.0, start.1 ++ on.0, on.2) }

pub returns-in_err-take_held-clause-cause : goal.returns-in_err-take_held-clause-cause
returns-in_err-take_held-clause-cause g c =
    let inv = c.piece.invariant in let f = c.in_err-take_held.field-0.0 in
    laws.no_cause c.from_residual-in_err-take_held.result f (g.S.Source.faults c.args.source.now) (g.S.Source.faults c.next.new.source) c.from_residual-in_err-take_held.ensures.1
    (λ same. c.take_held.ensures.takes.no_read (c.in_err-take_held.was ∙ ap (λ (x : LabelFault). Err x) same))
    (subst (λ r. OnOk r (g.S.Source.faults c.next.new.source ≡ g.S.Source.faults c.piece.source)) c.in_ok-next.was
    (steady_on_ok _ (g.S.Source.faults c.piece.source) (g.S.Source.faults c.next.new.source) c.next.result c.next.ensures.cause) ∙ inv.steady)

-- the lines before those that the reader held were given, and are fine
pub returns-in_err-take_held-clause-gathers : goal.returns-in_err-take_held-clause-gathers
returns-in_err-take_held-clause-gathers g c =
    let inv = c.piece.invariant in let names = c.args.window.now.names in let lines = c.push.new.self.lines in let f = c.in_err-take_held.field-0.0 in
    let old = g.S.Source.left c.args.source.now in let new = g.S.Source.left c.next.new.source in
    let bound = c.next.ensures.most ∙ inv.bound in
    let yes : c.next.result ≡ Ok true = c.in_ok-next.was ∙ ap (λ (b : Bool). Ok b) c.if-branch.true in
    let gives = laws.line_given names c.piece.window.lines c.args.reader.now c.piece.reader c.next.new.self old (g.S.Source.left c.piece.source) new c.next.result inv.gives c.next.ensures.goes yes lines c.line.result.now c.line.ensures c.in_ok-push.ensures.lines in
    let line_is : IsOfTenant names c.line.result.now = subst (λ (ns : List (List ℕ)). IsOfTenant ns c.line.result.now) inv.names c.in_ok-push.ensures.fine in
    let fine = laws.line_fine names c.piece.window.lines lines c.line.result.now inv.fine line_is c.in_ok-push.ensures.lines in
    let takes = subst (λ (ns : List (List ℕ)). TakesHeld ns lines c.take_held.new.window.lines c.next.new.self c.take_held.new.reader c.take_held.result) (c.push.ensures.names ∙ inv.names) c.take_held.ensures.takes in
    let stopped = subst (λ x. IfErr x (λ why. GoOnFine names lines → StopsHeld names lines c.take_held.new.reader.last c.next.new.self why)) c.in_err-take_held.was takes.stopped in
    laws.gathers_not names c.args.reader.now c.take_held.new.reader old new c.take_held.new.window.lines (takes.bound ∙ bound) c.from_residual-in_err-take_held.result f c.from_residual-in_err-take_held.ensures.1
    (λ same. takes.quiet (c.in_err-take_held.was ∙ ap (λ (x : LabelFault). Err x) same))
    (laws.held_stops c.take_held.new.reader.last names lines c.args.reader.now c.next.new.self old new gives fine bound f stopped)

pub returns-then-branch-2-clause-gathers : goal.returns-then-branch-2-clause-gathers
returns-then-branch-2-clause-gathers g c =
    let inv = c.piece.invariant in let names = c.args.window.now.names in let lines = c.push.new.self.lines in
    let old = g.S.Source.left c.args.source.now in let new = g.S.Source.left c.next.new.source in
    let bound = c.next.ensures.most ∙ inv.bound in
    let yes : c.next.result ≡ Ok true = c.in_ok-next.was ∙ ap (λ (b : Bool). Ok b) c.if-branch.true in
    let full : c.take_held.result ≡ Ok true = c.in_ok-take_held.was ∙ ap (λ (b : Bool). Ok b) c.if-branch-2.true in
    let gives = laws.line_given names c.piece.window.lines c.args.reader.now c.piece.reader c.next.new.self old (g.S.Source.left c.piece.source) new c.next.result inv.gives c.next.ensures.goes yes lines c.line.result.now c.line.ensures c.in_ok-push.ensures.lines in
    let line_is : IsOfTenant names c.line.result.now = subst (λ (ns : List (List ℕ)). IsOfTenant ns c.line.result.now) inv.names c.in_ok-push.ensures.fine in
    let fine = laws.line_fine names c.piece.window.lines lines c.line.result.now inv.fine line_is c.in_ok-push.ensures.lines in
    let takes = subst (λ (ns : List (List ℕ)). TakesHeld ns lines c.take_held.new.window.lines c.next.new.self c.take_held.new.reader c.take_held.result) (c.push.ensures.names ∙ inv.names) c.take_held.ensures.takes in
    let all = subst (TakesHeld names lines c.take_held.new.window.lines c.next.new.self c.take_held.new.reader) full takes in
    laws.gathers_full names c.args.reader.now c.take_held.new.reader old new c.take_held.new.window.lines (takes.bound ∙ bound)
    (laws.held_given lines c.take_held.new.window.lines c.args.reader.now c.next.new.self c.take_held.new.reader old new gives all.gives) (all.fine fine)
    (omega (arith, takes.fewer, c.next.ensures.progress yes, inv.fewer))

pub piece-preserved : goal.piece-preserved
piece-preserved g c =
    let inv = c.piece.invariant in let names = c.args.window.now.names in let lines = c.push.new.self.lines in
    let old = g.S.Source.left c.args.source.now in let new = g.S.Source.left c.next.new.source in
    let bound = c.next.ensures.most ∙ inv.bound in
    let yes : c.next.result ≡ Ok true = c.in_ok-next.was ∙ ap (λ (b : Bool). Ok b) c.if-branch.true in
    let more : c.take_held.result ≡ Ok false = c.in_ok-take_held.was ∙ ap (λ (b : Bool). Ok b) c.if-branch-2.false in
    let gives = laws.line_given names c.piece.window.lines c.args.reader.now c.piece.reader c.next.new.self old (g.S.Source.left c.piece.source) new c.next.result inv.gives c.next.ensures.goes yes lines c.line.result.now c.line.ensures c.in_ok-push.ensures.lines in
    let line_is : IsOfTenant names c.line.result.now = subst (λ (ns : List (List ℕ)). IsOfTenant ns c.line.result.now) inv.names c.in_ok-push.ensures.fine in
    let fine = laws.line_fine names c.piece.window.lines lines c.line.result.now inv.fine line_is c.in_ok-push.ensures.lines in
    let takes = subst (λ (ns : List (List ℕ)). TakesHeld ns lines c.take_held.new.window.lines c.next.new.self c.take_held.new.reader c.take_held.result) (c.push.ensures.names ∙ inv.names) c.take_held.ensures.takes in
    let all = subst (TakesHeld names lines c.take_held.new.window.lines c.next.new.self c.take_held.new.reader) more takes in
    record {
      gives = laws.held_given lines c.take_held.new.window.lines c.args.reader.now c.next.new.self c.take_held.new.reader old new gives all.gives;
      fine = all.fine fine;
      room = c.take_held.ensures.room more;
      small = c.take_held.ensures.few more;
      names = c.take_held.ensures.names ∙ c.push.ensures.names ∙ inv.names;
      bound = takes.bound ∙ bound;
      piece = λ within. let now = c.next.ensures.piece (inv.piece within) in omega (arith, takes.piece, now);
      fewer = omega (arith, takes.fewer, c.next.ensures.progress yes, inv.fewer);
      steady = subst (λ r. OnOk r (g.S.Source.faults c.next.new.source ≡ g.S.Source.faults c.piece.source)) c.in_ok-next.was
          (steady_on_ok _ (g.S.Source.faults c.piece.source) (g.S.Source.faults c.next.new.source) c.next.result c.next.ensures.cause) ∙ inv.steady;
      stays = c.next.ensures.stays ∙ inv.stays;
    }

pub returns-clause-gathers : goal.returns-clause-gathers
returns-clause-gathers g c =
    let inv = c.piece.invariant in let lines = c.piece.window.lines in let names = c.args.window.now.names in
    let start = c.requires.started in
    let old = g.S.Source.left c.args.source.now in let new = g.S.Source.left c.next.new.source in let mid = g.S.Source.left c.piece.source in
    let no : c.next.result ≡ Ok false = c.in_ok-next.was ∙ ap (λ (b : Bool). Ok b) c.if-branch.false in
    laws.gathers_last names c.args.reader.now c.next.new.self old new lines (c.next.ensures.most ∙ inv.bound)
    (laws.end_given names lines c.args.reader.now c.piece.reader c.next.new.self old mid new c.next.result inv.gives c.next.ensures.goes no)
    inv.fine
    (laws.has_ended names lines c.args.reader.now c.piece.reader c.next.new.self old mid new c.next.result inv.gives c.next.ensures.goes no start.0 start.1 start.2)

use Rattle.std.proofs.Common.{◌≡◌, ◌+◌, ◌≤◌, ◌++◌, ℕ, List, length, take, drop, sym, subst, arith, take-add}
use Rattle.std.proofs.lemmas.List.{take_all, length-take-le}
use Rattle.sk_read.specs.Scan.{state_of, IsCut}
use Rattle.sk_read.proofs.Cuts.{cut_none, cut_later, cut_stays}
use Rattle.sk_read.proofs.records.scan.scan.Goals.{then-found-gt0, else-found-gt0}
use Rattle.sk_read.proofs.records.scan.scan.Goals as goal

pub run-init : goal.run-init
run-init c = record { cut = cut_none c.args.start; within = omega arith; at = omega arith }

pub run-preserved : goal.run-preserved
run-preserved c =
    let inv = c.run.invariant in
    let piece = c.args.piece.now in
    let at = c.run.at in
    let found = c.scan_next-next.result.1 in
    let len = c.scan_next-next.result.2 in
    let fits : at + len ≤ length piece = c.scan_next-next.ensures.len in
    let longer : take (at + len) piece ≡ take at piece ++ take len (drop at piece) = take-add at len piece in
    let start = state_of c.args.start in
    let next = state_of c.scan_next-next.result.0 in
    let run : IsCut (state_of c.run.place) (take len (drop at piece)) next found = c.scan_next-next.ensures.cut in
    elim c.if-found-gt0.branch [
      | then-found-gt0 w ↦
          let cut : IsCut start (take at piece ++ take len (drop at piece)) next (length (take at piece) + found) =
          cut_later start (take at piece) (take len (drop at piece)) (state_of c.run.place) next c.run.cut found inv.cut run w.if-found-gt0.true in
          let place : length (take at piece) + found ≡ c.if-found-gt0.cut = omega (arith, w.cut-is, length-take-le at piece inv.at) in
          record {
            cut = subst (λ (n : ℕ). IsCut start (take (at + len) piece) next n) place (subst (λ (l : List ℕ). IsCut start l next (length (take at piece) + found)) (sym longer) cut);
            within = omega (arith, w.cut-is, c.scan_next-next.ensures.within);
            at = fits;
          }
      | else-found-gt0 w ↦
          let none : found ≡ 0 = omega (arith, w.if-found-gt0.false) in
          let cut : IsCut start (take at piece ++ take len (drop at piece)) next c.run.cut =
          cut_stays start (take at piece) (take len (drop at piece)) (state_of c.run.place) next c.run.cut inv.cut (subst (λ (n : ℕ). IsCut (state_of c.run.place) (take len (drop at piece)) next n) none run) in
          record {
            cut = subst (λ (n : ℕ). IsCut start (take (at + len) piece) next n) (sym w.cut-is) (subst (λ (l : List ℕ). IsCut start l next c.run.cut) (sym longer) cut);
            within = omega (arith, w.cut-is, inv.within);
            at = fits;
          }
    ]

pub returns : goal.returns
returns c =
    let whole = take_all c.run.at c.args.piece.now c.run-test.false in
    record {
      cut = subst (λ (l : List ℕ). IsCut (state_of c.args.start) l (state_of c.run.place) c.run.cut) whole c.run.invariant.cut;
      within = omega (arith, c.run.invariant.within, c.run.invariant.at);
    }

use Rattle.std.proofs.Common.{◌≡◌, ◌++◌, ℕ, List, [], Option, take, sym, ap, ◌∙◌, subst, arith, append-nil, append_assoc}
use Rattle.sk_lines.specs.declared.spans.Span.{Span}
use Rattle.sk_lines.specs.Spans.{GivesLines, lines_at}
use Rattle.sk_read.specs.declared.fault.Fault.{Fault}
use Rattle.sk_read.specs.Reading.{Reading, HasRead, GivesMore}
use Rattle.sk_read.specs.Reads.{StopsAmong}
use Rattle.sk_read.proofs.GroupLaws.{with_fault, stops_behind, as_many, room_for, short_group, none_moved}
use Rattle.sk_read.proofs.lines.give_held.Goals as goal

-- the reader after a group, by the bytes in which this lies
read_at : (r : Reading) (left : Option (List ℕ)) (given : List (List ℕ)) (taken text : List ℕ) (spans : List Span) → text ≡ r.cutter.front → HasRead r left (given ++ lines_at spans r.cutter.front) taken →
    HasRead r left (given ++ lines_at spans text) taken
read_at r left given taken text spans is read = subst (λ (l : List ℕ). HasRead r left (given ++ lines_at spans l) taken) (sym is) read

most_stays : (old new : Reading) → new ≡ record old { cutter = new.cutter } → new.most ≡ old.most
most_stays old new stays = ap (λ (r : Reading). r.most) stays

last_stays : (old new : Reading) → new ≡ record old { cutter = new.cutter } → new.last ≡ old.last
last_stays old new stays = ap (λ (r : Reading). r.last) stays

pub returns-then-count-eq0-clause-gave : goal.returns-then-count-eq0-clause-gave
returns-then-count-eq0-clause-gave g c = λ start left given taken read went.
    let gave = c.group.invariant.gave start left given taken read went in
    let next = c.next_lines-count in
    let whole = given ++ gave.0 in
    let none : whole ++ lines_at (take next.result next.new.spans) next.new.self.cutter.front ≡ whole =
    ap (λ (n : ℕ). whole ++ lines_at (take n next.new.spans) next.new.self.cutter.front) c.if-count-eq0.true ∙ append-nil whole in
    (gave.0, subst (λ (l : List (List ℕ)). HasRead next.new.self left l taken) none (next.ensures.goes left whole taken gave.1), gave.2)

pub take_all-requires-clause-short : goal.take_all-requires-clause-short
take_all-requires-clause-short g c =
    let known = c.requires.behind in
    let gave = c.group.invariant.gave known.0 known.1 known.2 known.3 known.4 known.5 in
    let next = c.next_lines-count in
    let given = known.2 ++ gave.0 in
    let text = c.front.result.now in
    let spans = take next.result next.new.spans in
    short_group next.new.self known.1 given (lines_at spans text) known.3 (read_at next.new.self known.1 given known.3 text spans c.front.ensures (next.ensures.goes known.1 given known.3 gave.1))

pub take_all-requires-clause-room : goal.take_all-requires-clause-room
take_all-requires-clause-room g c =
    let known = c.requires.behind in
    let gave = c.group.invariant.gave known.0 known.1 known.2 known.3 known.4 known.5 in
    let next = c.next_lines-count in
    let given = known.2 ++ gave.0 in
    room_for next.new.self known.1 given next.new.self.cutter.front known.3 (take next.result next.new.spans) c.number-before.result (next.ensures.goes known.1 given known.3 gave.1)
    (as_many c.group.reader known.1 given known.3 c.number-before.result gave.1 c.number-before.ensures)

pub take_all-requires-clause-behind : goal.take_all-requires-clause-behind
take_all-requires-clause-behind g c =
    let known = c.requires.behind in
    let gave = c.group.invariant.gave known.0 known.1 known.2 known.3 known.4 known.5 in
    let given = known.2 ++ gave.0 in
    (known.0, given, as_many c.group.reader known.1 given known.3 c.number-before.result gave.1 c.number-before.ensures, gave.2)

pub group-preserved : goal.group-preserved
group-preserved g c =
    let inv = c.group.invariant in
    let next = c.next_lines-count in
    let text = c.front.result.now in
    let spans = take next.result next.new.spans in
    record {
      gave = λ start left given taken read went.
          let gave = inv.gave start left given taken read went in
          let whole = given ++ gave.0 in
          let now = read_at next.new.self left whole taken text spans c.front.ensures (next.ensures.goes left whole taken gave.1) in
          let number = as_many c.group.reader left whole taken c.number-before.result gave.1 c.number-before.ensures in
          let same = append_assoc given gave.0 (lines_at spans text) in (
            gave.0 ++ lines_at spans text,
            subst (λ (l : List (List ℕ)). HasRead next.new.self left l taken) same now,
            subst (g.T.UnitTaker.went start c.take_all.new.self) same (c.in_ok-take_all.ensures.went start whole number gave.2),
          );
      most = most_stays c.group.reader next.new.self next.ensures.stays ∙ inv.most;
      piece = last_stays c.group.reader next.new.self next.ensures.stays ∙ inv.piece;
      remaining = omega (arith, next.ensures.progress, inv.remaining);
      standing = c.in_ok-take_all.ensures.stays ∙ inv.standing;
    }

pub returns-in_err-take_all-clause-stopped : goal.returns-in_err-take_all-clause-stopped
returns-in_err-take_all-clause-stopped g c =
    let next = c.next_lines-count in
    let text = c.front.result.now in
    let spans = take next.result next.new.spans in
    let f = c.in_err-take_all.field-0.0 in
    let Stops : Fault → Type 0 = λ why. (start : g.row.T.Denot) (left : Option (List ℕ)) (given : List (List ℕ)) (taken : List ℕ) → HasRead c.args.reader.now left given taken → g.T.UnitTaker.went start c.args.taker.now given →
    GivesMore next.new.self left given taken (λ more. StopsAmong (g.T.UnitTaker.stopped start c.take_all.new.self) why given more) in
    with_fault Stops f c.from_residual.result c.from_residual.ensures.1 (λ start left given taken read went.
    let gave = c.group.invariant.gave start left given taken read went in
    let whole = given ++ gave.0 in
    let now = read_at next.new.self left whole taken text spans c.front.ensures (next.ensures.goes left whole taken gave.1) in
    let number = as_many c.group.reader left whole taken c.number-before.result gave.1 c.number-before.ensures in (
      gave.0 ++ lines_at spans text,
      subst (λ (l : List (List ℕ)). HasRead next.new.self left l taken) (append_assoc given gave.0 (lines_at spans text)) now,
      stops_behind (g.T.UnitTaker.stopped start c.take_all.new.self) f given gave.0 (lines_at spans text) (c.in_err-take_all.ensures.stopped start whole number gave.2),
    ))

pub returns-then-count-eq0-clause-all : goal.returns-then-count-eq0-clause-all
returns-then-count-eq0-clause-all g c =
    let known = c.requires.behind in
    let gave = c.group.invariant.gave known.0 known.1 known.2 known.3 known.4 known.5 in
    let next = c.next_lines-count in
    let none : take next.result next.new.spans ≡ [] = ap (λ (n : ℕ). take n next.new.spans) c.if-count-eq0.true in
    none_moved c.group.reader.cutter next.new.self.cutter (subst (GivesLines c.group.reader.cutter next.new.self.cutter) none next.ensures.lines)
    (next.ensures.none c.if-count-eq0.true gave.1.has.going)

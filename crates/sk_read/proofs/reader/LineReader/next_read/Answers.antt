use Rattle.std.proofs.Common.{◌≡◌, ◌≤◌, ◌<◌, ◌++◌, [], ℕ, List, Err, true, false, sym, ap, ◌∙◌, subst, arith, rules, append-nil, append_assoc}
use Rattle.std.proofs.lemmas.Bool.{false≢true}
use Rattle.std.specs.Io.KnownBytes.{Consumes, IsAtEnd}
use Rattle.std.proofs.KnownBytes.{Consumes-nil, Consumes-trans, Consumes-kept}
use Rattle.sk_read.specs.Reading.{HasRead}
use Rattle.sk_read.specs.declared.reader.LineFault.{LineFault}
use Rattle.sk_read.proofs.CauseLaws.{steady_ok}
use Rattle.sk_read.proofs.Readings.{read_on, in_time_within, in_time_more, have_ended, fed_in_time, goes_long, goes_err, goes_end}
use Rattle.sk_read.proofs.reader.LineReader.next_read.Given.{Over}
use Rattle.sk_read.proofs.reader.LineReader.next_read.Goals.{In_ok-refill}
use Rattle.sk_read.proofs.reader.LineReader.next_read.Goals as goal

pub piece-init : goal.piece-init
piece-init g c = record {
  goes = λ given taken read. ([], Consumes-nil (g.S.Source.left c.args.source.now), subst (HasRead c.args.self.now (g.S.Source.left c.args.source.now) given) (sym (append-nil taken)) read);
  remaining = omega arith;
  most = search rules;
  piece = λ within. within;
  steady = search rules;
  stays = search rules;
}

pub returns-in-Line-clause-goes : goal.returns-in-Line-clause-goes
returns-in-Line-clause-goes g c = λ given taken read.
    let before = c.piece.invariant.goes given taken read in (
      before.0,
      before.1,
      (
        read_on c.piece.self c.cut.new.self _ _ given _ (taken ++ before.0) _ before.2 ((c.cut.ensures.line c.in-Line.is).0 given (taken ++ before.0) before.2.has)
            (λ ended. before.2.end (sym c.cut.ensures.ended ∙ ended)) c.cut.ensures.limit c.cut.ensures.most.0 c.cut.ensures.bound (in_time_more _ given _ (taken ++ before.0) (omega (arith, c.cut.ensures.piece)) before.2.in_time),
        in_time_within _ given (taken ++ before.0) (omega (arith, c.cut.ensures.piece)) before.2.in_time,
      ),
    )

pub returns-in-Long-clause-goes : goal.returns-in-Long-clause-goes
returns-in-Long-clause-goes g c = λ given taken read.
    let before = c.piece.invariant.goes given taken read in
    (before.0, before.1, goes_long c.piece.self c.cut.new.self _ given (taken ++ before.0) c.in-Long.line before.2 c.cut.ensures.most.0 c.cut.ensures.piece (c.cut.ensures.long c.in-Long.line c.in-Long.is))

pub returns-then-self-clause-goes : goal.returns-then-self-clause-goes
returns-then-self-clause-goes g c = λ given taken read.
    let before = c.piece.invariant.goes given taken read in
    let over : c.piece.self.ended ≡ true = search rules in (
      before.0,
      before.1,
      (
        read_on c.piece.self c.cut.new.self _ _ given given (taken ++ before.0) _ before.2 (c.cut.ensures.after_end c.in-More.is over given (taken ++ before.0) before.2.has)
            (λ _. before.2.end over) c.cut.ensures.limit c.cut.ensures.most.0 c.cut.ensures.bound (in_time_within _ given (taken ++ before.0) (omega (arith, c.cut.ensures.piece)) before.2.in_time),
        c.cut.ensures.ended ∙ over,
      ),
    )

pub returns-in_err-refill-clause-goes : goal.returns-in_err-refill-clause-goes
returns-in_err-refill-clause-goes g c = λ given taken read.
    let before = c.piece.invariant.goes given taken read in
    let now = taken ++ before.0 in
    let open_still : c.piece.self.ended ≡ false = search rules in
    let stands = c.cut.ensures.more c.in-More.is open_still given now before.2.has in
    let ended = have_ended c.cut.new.self given now (c.cut.ensures.limit ∙ before.2.limit) stands in
    let s = c.in_err-refill.field-0.0 in
    let most = c.in_err-refill.ensures.err.0 in (
      before.0,
      Consumes-kept _ _ _ before.0 before.1 c.in_err-refill.ensures.err.1,
      goes_err c.refill.new.self _ given now s c.from_residual.result c.from_residual.ensures.1 ended
          (λ is. let less = c.refill.ensures.read_fault (c.in_err-refill.was ∙ ap (λ (e : LineFault). Err e) is) in omega (arith, stands.follows.count, less, most))
          (λ is. let full = c.refill.ensures.too_much (c.in_err-refill.was ∙ ap (λ (e : LineFault). Err e) is) in omega (arith, stands.follows.count, full, most))
          (λ n is. c.refill.ensures.no_long n (c.in_err-refill.was ∙ ap (λ (e : LineFault). Err e) is)),
    )

-- the reader after a read
fed : (g : Over) (c : In_ok-refill g) (given : List (List ℕ)) (taken : List ℕ) → HasRead c.args.self.now (g.S.Source.left c.args.source.now) given taken →
    (more : List ℕ) × Consumes (g.S.Source.left c.args.source.now) (g.S.Source.left c.refill.new.source) more × HasRead c.refill.new.self (g.S.Source.left c.refill.new.source) given (taken ++ more)
fed g c given taken read =
    let before = c.piece.invariant.goes given taken read in
    let now = taken ++ before.0 in
    let open_still : c.piece.self.ended ≡ false = search rules in
    let stands = c.cut.ensures.more c.in-More.is open_still given now before.2.has in
    let ended = have_ended c.cut.new.self given now (c.cut.ensures.limit ∙ before.2.limit) stands in
    let more = c.in_ok-refill.ensures.fed in
    let not_ended : c.refill.new.self.ended ≡ false = more.2.ended ∙ c.cut.ensures.ended ∙ open_still in
    let left = g.S.Source.left c.refill.new.source in
    let has = more.2.follows given now stands.follows in (
      before.0 ++ more.0,
      Consumes-trans _ _ _ _ _ before.1 more.1,
      subst (HasRead c.refill.new.self left given) (append_assoc taken before.0 more.0)
          (read_on c.piece.self c.refill.new.self _ left given given now (now ++ more.0) before.2 has (λ over. absurd (false≢true (sym not_ended ∙ over))) (more.2.limit ∙ c.cut.ensures.limit)
          (more.2.most ∙ c.cut.ensures.most.0) more.2.bound (fed_in_time c.refill.new.self.last given now more.0 ended more.2.last more.2.size)),
    )

pub returns-then-not-branch-clause-goes : goal.returns-then-not-branch-clause-goes
returns-then-not-branch-clause-goes g c = λ given taken read.
    let now = fed g (goal.at.returns-then-not-branch-clause-goes g c).In_ok-refill given taken read in
    let at_end : IsAtEnd (g.S.Source.left c.refill.new.source) = search rules in (
      now.0,
      now.1,
      goes_end c.refill.new.self c.end.new.self _ given (taken ++ now.0) c.end.result now.2 at_end c.end.ensures.limit c.end.ensures.most.0 c.end.ensures.most.1 c.end.ensures.piece c.end.ensures.ended
          (λ is. (c.end.ensures.line is).0) c.end.ensures.none c.end.ensures.long c.end.ensures.only_long.0 c.end.ensures.only_long.1,
    )

pub piece-preserved : goal.piece-preserved
piece-preserved g c =
    let inv = c.piece.invariant in
    let more = c.in_ok-refill.ensures.fed in
    record {
      goes = fed g (goal.at.piece-preserved g c).In_ok-refill;
      remaining = omega (arith, more.2.remaining, c.cut.ensures.remaining, inv.remaining);
      most = more.2.most ∙ c.cut.ensures.most.0 ∙ inv.most;
      piece = λ within. c.refill.ensures.piece (omega (arith, c.cut.ensures.piece, inv.piece within));
      steady = steady_ok _ _ _ _ _ c.refill.ensures.cause c.in_ok-refill.was ∙ inv.steady;
      stays = c.in_ok-refill.ensures.stays ∙ inv.stays;
    }

pub piece-smaller : goal.piece-smaller
piece-smaller g c =
    let fed = c.in_ok-refill.ensures.fed in
    let more : c.cut.new.self.taken < c.refill.new.self.taken = search rules in
    let within : c.refill.new.self.taken ≤ c.refill.new.self.most = search rules in
    omega (arith, more, within, fed.2.most, c.cut.ensures.most.0, c.cut.ensures.most.1)

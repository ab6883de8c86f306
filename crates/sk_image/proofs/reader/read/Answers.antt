use Rattle.std.proofs.Common.{◌≡◌, ◌≤◌, ◌<◌, ◌-◌, ℕ, List, [], ◌++◌, Err, length, take, ap, ◌∙◌, subst, arith, rules, length-append, append-nil}
use Rattle.std.proofs.lemmas.Result.{err_from_is_err_and, IfOk-weaker}
use Rattle.std.specs.Io.KnownBytes.{Consumes, IsAtEnd}
use Rattle.std.proofs.KnownBytes.{Consumes-trans, Consumes-kept}
use Rattle.sk_image.specs.Images.{text_of}
use Rattle.sk_image.specs.declared.image.Image.{Image}
use Rattle.sk_image.specs.declared.stop.ReadStop.{ReadStop}
use Rattle.sk_image.specs.declared.stop.ReadStop.TheVariants.{BadImage}
use Rattle.sk_image.proofs.Drafts.{good_so_far, all_told, bad_told, bad_in_time, took, took_front}
use Rattle.sk_image.proofs.reader.read.Goals as goal

pub returns-in_err-n-clause-read_fault : goal.returns-in_err-n-clause-read_fault
returns-in_err-n-clause-read_fault g c = λ failed.
    let seen = c.read.invariant.seen in
    let room : c.read.taken < c.args.most = search rules in (
      seen.0,
      Consumes-kept _ _ _ _ seen.1 c.in_err-n.ensures.bytes,
      omega (arith, seen.3, room),
      good_so_far c.read.draft seen.0 seen.2,
    )

pub returns-in_err-n-clause-too_much : goal.returns-in_err-n-clause-too_much
returns-in_err-n-clause-too_much g c = λ full.
    let seen = c.read.invariant.seen in
    let none : c.args.most - c.read.taken ≡ 0 = search rules in (
      seen.0,
      Consumes-kept _ _ _ _ seen.1 c.in_err-n.ensures.bytes,
      omega (arith, seen.3, none, c.read.invariant.within),
      good_so_far c.read.draft seen.0 seen.2,
    )

pub returns-in_err-n-clause-taken : goal.returns-in_err-n-clause-taken
returns-in_err-n-clause-taken g c =
    let seen = c.read.invariant.seen in
    took_front _ _ c.read.draft seen.0 c.args.most seen.2 (Consumes-kept _ _ _ _ seen.1 c.in_err-n.ensures.bytes) (omega (arith, seen.3, c.read.invariant.within))

pub returns-then-n-eq0-clause-text : goal.returns-then-n-eq0-clause-text
returns-then-n-eq0-clause-text g c =
    let seen = c.read.invariant.seen in
    let read = c.in_ok-n.ensures.bytes in
    let none : take c.in_ok-n.n c.read_within.new.piece ≡ [] = ap (λ (n : ℕ). take n c.read_within.new.piece) c.if-n-eq0.true in
    let more : Consumes (g.S.Source.left c.read.source) (g.S.Source.left c.read_within.new.source) [] = subst (Consumes (g.S.Source.left c.read.source) (g.S.Source.left c.read_within.new.source)) none read.0 in
    let taken : Consumes (g.S.Source.left c.args.source.now) (g.S.Source.left c.read_within.new.source) (seen.0 ++ []) = Consumes-trans _ _ _ _ _ seen.1 more in
    let over : IsAtEnd (g.S.Source.left c.read_within.new.source) = read.1 c.if-n-eq0.true (search rules) in
    IfOk-weaker c.end.result _ _ (λ (image : Image) is.
    all_told _ _ _ taken over (λ text. text ≡ text_of image.version image.k image.seed image.hashes.items) (append-nil seen.0 ∙ is seen.0 seen.2)) c.end.ensures.ok

pub returns-then-n-eq0-clause-taken : goal.returns-then-n-eq0-clause-taken
returns-then-n-eq0-clause-taken g c =
    let seen = c.read.invariant.seen in
    let read = c.in_ok-n.ensures.bytes in
    let none : take c.in_ok-n.n c.read_within.new.piece ≡ [] = ap (λ (n : ℕ). take n c.read_within.new.piece) c.if-n-eq0.true in
    let more : Consumes (g.S.Source.left c.read.source) (g.S.Source.left c.read_within.new.source) [] = subst (Consumes (g.S.Source.left c.read.source) (g.S.Source.left c.read_within.new.source)) none read.0 in
    took _ _ c.read.draft seen.0 [] c.args.most seen.2 (Consumes-trans _ _ _ _ _ seen.1 more) (omega arith) (omega (arith, seen.3, c.read.invariant.within, length-append seen.0 []))

pub returns-in_err-draft-clause-bad_image : goal.returns-in_err-draft-clause-bad_image
returns-in_err-draft-clause-bad_image g c = let p = err_from_is_err_and c.from_residual-in_err-draft.result c.from_residual-in_err-draft.ensures.1 in rw (p.1, p.2) (λ n e.
    let seen = c.read.invariant.seen in
    let read = c.in_ok-n.ensures.bytes in
    let same : c.in_err-draft.field-0.0 ≡ BadImage n = cc in
    let bad = c.in_err-draft.ensures.bad n (ap (λ (s : ReadStop). Err s) same) seen.0 seen.2 in
    bad_told n _ _ (seen.0 ++ take c.in_ok-n.n c.read_within.new.piece) (Consumes-trans _ _ _ _ _ seen.1 read.0) bad)

pub returns-in_err-draft-clause-bad_in_time : goal.returns-in_err-draft-clause-bad_in_time
returns-in_err-draft-clause-bad_in_time g c = let p = err_from_is_err_and c.from_residual-in_err-draft.result c.from_residual-in_err-draft.ensures.1 in rw (p.1, p.2) (λ n e.
    let seen = c.read.invariant.seen in
    let read = c.in_ok-n.ensures.bytes in
    let piece : List ℕ = take c.in_ok-n.n c.read_within.new.piece in
    let same : c.in_err-draft.field-0.0 ≡ BadImage n = cc in
    let bad = c.in_err-draft.ensures.bad n (ap (λ (s : ReadStop). Err s) same) seen.0 seen.2 in
    let few : length (seen.0 ++ piece) ≤ c.args.most = omega (arith, c.in_ok-n.ensures.room, c.read.invariant.within, seen.3, length-append seen.0 piece, c.in_ok-n.ensures.bound.1) in
    bad_in_time n c.args.most _ _ (seen.0 ++ piece) (Consumes-trans _ _ _ _ _ seen.1 read.0) few bad)

pub read-preserved : goal.read-preserved
read-preserved g c =
    let seen = c.read.invariant.seen in
    let read = c.in_ok-n.ensures.bytes in
    let piece : List ℕ = take c.in_ok-n.n c.read_within.new.piece in
    record {
      seen = (
        seen.0 ++ piece,
        Consumes-trans _ _ _ _ _ seen.1 read.0,
        c.in_ok-draft.ensures.ok seen.0 seen.2,
        omega (arith, seen.3, length-append seen.0 piece, c.in_ok-n.ensures.bound.1),
      );
      within = search rules;
      steady = search rules;
      stays = c.in_ok-n.ensures.stays ∙ c.read.invariant.stays;
    }

pub returns-in_err-draft-clause-taken : goal.returns-in_err-draft-clause-taken
returns-in_err-draft-clause-taken g c =
    let seen = c.read.invariant.seen in
    let read = c.in_ok-n.ensures.bytes in
    let piece : List ℕ = take c.in_ok-n.n c.read_within.new.piece in
    let short : c.in_ok-n.n ≤ 8192 = search rules in
    took _ _ c.read.draft seen.0 piece c.args.most seen.2 (Consumes-trans _ _ _ _ _ seen.1 read.0)
    (omega (arith, short, c.in_ok-n.ensures.bound.1)) (omega (arith, c.in_ok-n.ensures.room, c.read.invariant.within, seen.3, length-append seen.0 piece, c.in_ok-n.ensures.bound.1))

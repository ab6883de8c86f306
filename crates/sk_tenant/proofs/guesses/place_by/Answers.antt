use Rattle.std.proofs.Common.{◌≡◌, ◌<◌, ℕ, List, [], length, get_or, map, arith}
use Rattle.std.proofs.lemmas.List.{get_or_default}
use Rattle.sk_tenant.specs.declared.guesses.Guess.{Guess}
use Rattle.sk_tenant.proofs.Guessing.{guessed, is_plain}
use Rattle.sk_tenant.proofs.guesses.place_by.Goals as goal

at_mark : List Guess → ℕ → Guess
at_mark by_mark mark = get_or by_mark mark (record { ends = record { first = []; last = []; len = 0 }; place = 0 })

is_there : (by_mark : List Guess) (mark : ℕ) → mark < length by_mark → at_mark by_mark mark ≡ get_or by_mark mark (at_mark by_mark mark)
unfolding at_mark
is_there by_mark mark within = get_or_default by_mark mark _ _ within

pub returns-clause-place : goal.returns-clause-place
unfolding at_mark
returns-clause-place c =
    let same = c.if-not-are.false in
    let within : c.mark.result < length c.args.by_mark.now = omega (arith, c.mark.ensures, c.requires.guesses.count) in
    guessed (map (λ own. own.items) c.args.names.now.keys) c.args.by_mark.now c.mark.result (at_mark c.args.by_mark.now c.mark.result) c.args.name.now c.args.ends c.requires.guesses c.mark.ensures (is_there c.args.by_mark.now c.mark.result within) c.requires.ends
    (c.are.ensures.first same) (c.are.ensures.last same) (c.are.ensures.len same) c.is_confirmed.ensures.size (c.is_confirmed.ensures.is c.if-not-is_confirmed.false)

pub returns-clause-plain : goal.returns-clause-plain
unfolding at_mark
returns-clause-plain c =
    let same = c.if-not-are.false in
    let within : c.mark.result < length c.args.by_mark.now = omega (arith, c.mark.ensures, c.requires.guesses.count) in
    is_plain (map (λ own. own.items) c.args.names.now.keys) c.args.by_mark.now c.mark.result (at_mark c.args.by_mark.now c.mark.result) c.args.name.now c.args.ends c.requires.guesses c.mark.ensures (is_there c.args.by_mark.now c.mark.result within) c.requires.ends
    (c.are.ensures.first same) (c.are.ensures.last same) (c.are.ensures.len same) c.is_confirmed.ensures.size (c.is_confirmed.ensures.is c.if-not-is_confirmed.false)

use Rattle.std.proofs.Common.{ℕ, ◌<◌, ◌≤◌, ◌+◌, length, get_or, OnOk, OnErr, IsTrue, arith}
use Rattle.sk_hub.specs.Updaters.{kept_of}
use Rattle.sk_feed.specs.declared.feeder.Feeder.{Feeder}
use Rattle.sk_fill.specs.Windows.{items_in}
use Rattle.sk_hub.specs.Calls.{Takes}
use Rattle.sk_fill.specs.Blocks.{block_of}
use Rattle.sk_feed.specs.Rounds.{TakesFront}
use Rattle.sk_feed.proofs.Rounds.{ok_then, err_then, one_refused, room_at, all_take, all_front}
use Rattle.sk_feed.proofs.feeder.feed_each.Goals as goal
use Rattle.sk_model.specs.Limits.{most_kept}

pub for_each_mut-requires-clause-accepts : goal.for_each_mut-requires-clause-accepts
for_each_mut-requires-clause-accepts g c κs within = λ i p inside is.
    let most = c.requires.most in
    let room : length (kept_of p.now.updater) + length (block_of c.args.window.now.lines i (length c.args.feeders.now)) ≤ most_kept = room_at (λ f. f.updater) c.args.window.now.lines c.args.feeders.now i p.now inside is c.requires.room in
    search

pub returns-clause-taken : goal.returns-clause-taken
returns-clause-taken g c =
    let k = g.C.Composable in let lines = c.args.window.now.lines in let fs = c.args.feeders.now in let fs' = c.for_each_mut.new.s in
    let each : (i : ℕ) (d : Feeder g.row.C.Denot g.row.C-Told.Denot) → i < length fs → OnOk (get_or fs' i d).place (Takes k.keeps_of k.hint_of (get_or fs i d).updater (items_in c.args.kind (block_of lines i (length fs))) (get_or fs' i d).updater)
    = λ i d inside. let call = (c.for_each_mut.ensures i d inside).1 in grind arith in
    ok_then c.outcome.result c.outcome.ensures.all (λ all. all_take (λ f. f.updater) (λ f. f.place) k.keeps_of k.hint_of c.args.kind lines fs fs' (omega (arith, c.for_each_mut.auto.s)) all each)

pub returns-clause-fronts : goal.returns-clause-fronts
returns-clause-fronts g c =
    let k = g.C.Composable in let lines = c.args.window.now.lines in let fs = c.args.feeders.now in let fs' = c.for_each_mut.new.s in
    let each : (i : ℕ) (d : Feeder g.row.C.Denot g.row.C-Told.Denot) → i < length fs → TakesFront k.keeps_of k.hint_of c.args.kind (block_of lines i (length fs)) (get_or fs i d).updater (get_or fs' i d).updater
    = λ i d inside. let call = (c.for_each_mut.ensures i d inside).1 in grind arith in
    all_front (λ f. f.updater) k.keeps_of k.hint_of c.args.kind lines fs fs' (omega (arith, c.for_each_mut.auto.s)) each

pub returns-clause-cause : goal.returns-clause-cause
returns-clause-cause g c =
    let k = g.C.Composable in let fs = c.args.feeders.now in let fs' = c.for_each_mut.new.s in
    let each : (i : ℕ) (d : Feeder g.row.C.Denot g.row.C-Told.Denot) → i < length fs' → OnErr (get_or fs' i d).place (IsTrue k.TAKES_MEMORY)
    = λ i d inside. let inside' : i < length fs = omega (arith, c.for_each_mut.auto.s) in let call = (c.for_each_mut.ensures i d inside').1 in grind arith in
    err_then c.outcome.result c.outcome.ensures.some (λ some. one_refused (λ f. f.place) fs' some each)

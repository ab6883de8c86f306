-- What a headline says in other words.
use Rattle.std.proofs.Common.{ℕ, List}
use Rattle.sk_watch.specs.Places.{Place}
use Rattle.sk_report.specs.declared.remains.Remains.{Remains}
use Rattle.sk_count.specs.declared.plan.Plan.{Plan}
use Rattle.sk_count.specs.Counts.{Course}
use Rattle.sk_count.specs.Headline.{CountsExactly}

-- the course of it
abbrev pub course_of : (plan : Plan) (units : List (List ℕ)) (board board' : List Place) (remains : Remains) (text : List ℕ) → CountsExactly plan units board board' remains text → Course plan units
course_of plan units board board' remains text exactly = record {
  windows = exactly.windows;
  rest = exactly.rest;
  moments = exactly.moments;
  good = exactly.good;
  cut = exactly.cut;
  asks = record { count = exactly.asked; grows = exactly.grows; each = exactly.lacks };
}

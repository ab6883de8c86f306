-- What a headline says in other words.
use Rattle.std.proofs.Common.{ℕ, List}
use Rattle.sk_hub.specs.Hearts.{HeartState}
use Rattle.sk_snap.specs.Versions.{Learnt}
use Rattle.sk_tell.specs.Manners.{Manner}
use Rattle.sk_tell.specs.Feeding.{Course}
use Rattle.sk_tell.specs.Headline.{TellsLines}

-- the course of it
abbrev pub course_of : (manner : Manner) (lines : List (List ℕ)) (h : HeartState) (reader : Learnt) (text : List ℕ) → TellsLines manner lines h reader text → Course manner lines
course_of manner lines h reader text told = record {
  windows = told.windows;
  rest = told.rest;
  moments = told.moments;
  good = told.good;
  cut = told.cut;
  asks = record { count = told.asked; grows = told.grows; each = told.lacks };
}

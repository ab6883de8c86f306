-- How a reader of a source's lines keeps what contracts see of it.
use Rattle.std.specs.Prelude.{◌≡◌, ◌≤◌}
use Rattle.sk_read.specs.declared.reader.LineReader.TheInside.{Inside}
use Rattle.sk_read.specs.Reading.{Reading}
use Rattle.sk_model.specs.Limits.{line_limit, source_limit}

abbrev pub reading_of : Inside → Reading
reading_of a = record { cutter = a.lines; taken = a.taken; last = a.last; most = a.most; ended = a.ended }

pub record IsKept (a : Inside) : Type 0 where
  pub bound : a.taken ≤ a.most
  pub few : a.most ≤ source_limit
  pub limit : a.lines.limit ≡ line_limit
  pub ended : a.lines.ended ≡ a.ended

-- How a reader of lines keeps what contracts see of it.
use Rattle.std.specs.Prelude.{◌≡◌, ◌≢◌, ℕ, ◌+◌, ◌-◌, ◌≤◌, slice_index, length, take, drop}
use Rattle.sk_lines.specs.declared.cutter.Lines.TheInside.{Inside}
use Rattle.sk_lines.specs.Cutter.{Cutter, IsSound}
use Rattle.sk_lines.specs.Marks.{KnowsLfs}

-- the most bytes of a limit, and of a piece
abbrev pub most_limit : ℕ
most_limit = 1048576

abbrev pub most_piece : ℕ
most_piece = 65536

abbrev pub cutter_of : Inside → Cutter
cutter_of a = record {
  limit = a.limit;
  front = take a.at a.buffer.items;
  rest = take (length a.buffer.items - 64 - a.at) (drop a.at a.buffer.items);
  number = a.number;
  line = take (a.line_end - a.line_start) (drop a.line_start a.buffer.items);
  ending = a.ending;
  last = a.last;
  hungry = a.hungry;
  ended = a.ended;
}

-- what the fields keep
pub record IsKept (a : Inside) : Type 0 where
  pub low : 1 ≤ a.limit
  pub high : a.limit ≤ most_limit
  -- there is room for a piece and a block after the longest rest
  pub room : a.limit + 1 + most_piece + 64 ≤ a.buffer.room
  -- a block of zeros lies after the text
  pub at : a.at + 64 ≤ length a.buffer.items
  pub zeros : (i : ℕ) → length a.buffer.items ≤ i + 64 → slice_index a.buffer.items i ≡ 0
  pub line_start : a.line_start ≤ a.line_end
  pub line_end : a.line_end ≤ length a.buffer.items
  pub scanned : a.scanned ≤ length a.buffer.items
  pub block : a.marks ≢ 0 → 64 ≤ a.scanned
  pub marks : KnowsLfs a.buffer.items a.at a.scanned a.marks
  pub sound : IsSound (cutter_of a)

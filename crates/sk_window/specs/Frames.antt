-- How time is cut into intervals.
use Rattle.std.specs.Prelude.{ℕ, ◌≤◌}
use Rattle.sk_window.specs.declared.frame.Frame.{Frame}

-- the most intervals that a reply is of
abbrev pub most_last : ℕ
most_last = 64

-- its numbers are within their limits
pub record IsFrame (frame : Frame) : Type 0 where
  pub some : 1 ≤ frame.span
  pub least : 2 ≤ frame.last
  pub most : frame.last ≤ most_last

-- What contracts see of a text with room after it.
use Rattle.std.specs.Prelude.{ℕ, ◌-◌, List, ◌++◌, length, take, replicate}

pub record PaddedState : Type 0 where
  -- the text, and a block of zeros after it
  pub items : List ℕ
  -- how many bytes there is room for, with the zeros
  pub room : ℕ

-- a text with its block of zeros
abbrev pub padded : List ℕ → List ℕ
padded text = text ++ replicate 64 0

-- the same with these bytes more
abbrev pub with_more : List ℕ → List ℕ → List ℕ
with_more items more = (take (length items - 64) items ++ more) ++ replicate 64 0

-- How a client's lines are read.
use Rattle.std.specs.Prelude.{ℕ, Bool, ◌&&◌, nat_lt, if◌then◌else◌, List, length, take, drop, codes}
use Rattle.std.specs.Str.{bytes_eq}
use Rattle.sk_model.specs.Murmur.{hash_of}
use Rattle.sk_line.specs.declared.requests.Request.{Request}
use Rattle.sk_line.specs.declared.requests.Request.TheVariants.{Add, Ask, Sync, Quit, Bad}

-- the word, one space, and at least one byte
abbrev pub is_add : List ℕ → Bool
is_add line = nat_lt 4 (length line) && bytes_eq (take 4 line) (codes "add ")

-- what a line asks for
unfoldable pub client_request : List ℕ → Request
client_request line =
    if bytes_eq line (codes "ask") then Ask
    else (if bytes_eq line (codes "sync") then Sync
    else (if bytes_eq line (codes "quit") then Quit
    else (if is_add line then Add
    else Bad)))

-- the item of a line that adds one: the hash of all that stands behind the space
abbrev pub added_item : ℕ → List ℕ → ℕ
added_item seed line = hash_of seed (drop 4 line)

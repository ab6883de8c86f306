-- What a clause reads of a link.
use Rattle.std.specs.Prelude.{◌≡◌, ℕ, List, [], Option, Result}
use Rattle.std.specs.Io.KnownBytes.{Keeps, ReadConsumes, append_known}
use Rattle.sk_net.specs.declared.tcp_link.TcpLink.{TcpLink}

-- the stream below a link
abbrev pub stream_of : {S : Type 0} → TcpLink S → S
stream_of l = l.stream

-- the bytes that were written on it and wait to be sent
abbrev pub waiting_of : {S : Type 0} → TcpLink S → List ℕ
waiting_of l = l.replies.bytes

-- a read gave the next bytes of the stream, after what waited was sent on it
pub record ReadsNext {S E : Type 0} (contents remaining : S → Option (List ℕ)) (l l' : TcpLink S) (result : Result ℕ E) (buf : List ℕ) : Type 0 where
  -- the stream after that; if nothing waited it is as it was
  pub sent : S
  pub waited : Keeps (append_known (contents (stream_of l)) (waiting_of l)) (append_known (contents sent) (waiting_of l'))
  pub none : waiting_of l ≡ [] → sent ≡ stream_of l
  pub next : ReadConsumes (remaining sent) (remaining (stream_of l')) result buf

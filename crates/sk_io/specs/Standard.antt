-- What a clause reads of a sink over std.
use Rattle.sk_io.specs.declared.standard.StdSink.{StdSink}

-- the writer below a sink
abbrev pub writer_of : {W : Type 0} → StdSink W → W
writer_of s = s.inner

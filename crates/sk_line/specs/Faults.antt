-- Which fault of reading ends a session how.
use Rattle.sk_read.specs.declared.reader.LineFault.{LineFault}
use Rattle.sk_read.specs.declared.reader.LineFault.TheVariants as line
use Rattle.sk_line.specs.declared.sessions.End.{End}
use Rattle.sk_line.specs.declared.sessions.End.TheVariants.{LinkFault, Long, TooMuch}

abbrev pub end_by : LineFault → End
end_by line.ReadFault = LinkFault
end_by (line.LongLine n) = Long n
end_by line.TooMuch = TooMuch

-- The faults that faults of lines make, and those that takers stop for.
use Rattle.std.specs.Prelude.{ℕ}
use Rattle.sk_read.specs.declared.reader.LineFault.{LineFault}
use Rattle.sk_read.specs.declared.reader.LineFault.TheVariants as line
use Rattle.sk_label.specs.declared.fault.LabelFault.{LabelFault}
use Rattle.sk_label.specs.declared.fault.LabelFault.TheVariants as label
use Rattle.sk_label.specs.declared.fault.LineStop.{LineStop}
use Rattle.sk_label.specs.declared.fault.LineStop.TheVariants as stop

-- the fault of a taker that stopped at the line of this number
abbrev pub fault_at : LineStop → ℕ → LabelFault
fault_at stop.OutOfMemory n = label.OutOfMemory
fault_at stop.WriteFault n = label.WriteFault
fault_at stop.BadLine n = label.BadLine n
fault_at stop.Refused n = label.Refused n

-- the fault that a fault of lines makes
abbrev pub fault_of_lines : LineFault → LabelFault
fault_of_lines line.ReadFault = label.ReadFault
fault_of_lines (line.LongLine n) = label.LongLine n
fault_of_lines line.TooMuch = label.TooMuch

-- The faults that faults of the layers below make, and those that a taker stops for.
use Rattle.std.specs.Prelude.{◌≡◌, ℕ, ⊤}
use Rattle.sk_io.specs.declared.bounded.BoundFault.{BoundFault}
use Rattle.sk_io.specs.declared.bounded.BoundFault.TheVariants as bound
use Rattle.sk_read.specs.declared.reader.LineFault.{LineFault}
use Rattle.sk_read.specs.declared.reader.LineFault.TheVariants as stop
use Rattle.sk_read.specs.declared.fault.Fault.{Fault}
use Rattle.sk_read.specs.declared.fault.Fault.TheVariants.{OutOfMemory, ReadFault, LongLine, BadItem, TooMuch, WriteFault}

-- the fault of lines that a fault of a read under a bound makes
abbrev pub line_fault_by : BoundFault → LineFault
line_fault_by bound.ReadFault = stop.ReadFault
line_fault_by bound.TooMuch = stop.TooMuch

-- the fault of reading that a fault of lines makes
abbrev pub fault_by : LineFault → Fault
fault_by stop.ReadFault = ReadFault
fault_by (stop.LongLine line) = LongLine line
fault_by stop.TooMuch = TooMuch

-- what a taker may stop for at the unit of this number: it is no item, or memory or a write was wanting
abbrev pub IsOfTaker : ℕ → Fault → Type 0
IsOfTaker number (BadItem n) = n ≡ number
IsOfTaker number OutOfMemory = ⊤
IsOfTaker number WriteFault = ⊤
IsOfTaker number _ = ⊥

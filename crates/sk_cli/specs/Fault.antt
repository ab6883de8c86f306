-- Statuses, and what standard error gets.
use Rattle.std.specs.Prelude.{ℕ, zero, suc, List, ◌++◌, codes, decimal}
use Rattle.sk_label.specs.declared.fault.LabelFault.{LabelFault}
use Rattle.sk_label.specs.declared.fault.LabelFault.TheVariants as label
use Rattle.sk_read.specs.declared.fault.Fault.{Fault as ReadingFault}
use Rattle.sk_read.specs.declared.fault.Fault.TheVariants as reading
use Rattle.sk_read.specs.declared.reader.LineFault.{LineFault}
use Rattle.sk_read.specs.declared.reader.LineFault.TheVariants as stop
use Rattle.sk_image.specs.Images.{first_line}
use Rattle.sk_image.specs.declared.stop.ReadStop.{ReadStop}
use Rattle.sk_image.specs.declared.stop.ReadStop.TheVariants as image
use Rattle.sk_serve.specs.declared.fault.ServeFault.{ServeFault}
use Rattle.sk_serve.specs.declared.fault.ServeFault.TheVariants as serve
use Rattle.sk_cli.specs.declared.fault.Stamp.{Stamp}
use Rattle.sk_cli.specs.declared.fault.Refusal.{Refusal}
use Rattle.sk_cli.specs.declared.fault.Refusal.TheVariants.{Earlier, Unknown}
use Rattle.sk_cli.specs.declared.fault.Fault.{Fault}
use Rattle.sk_cli.specs.declared.fault.Fault.TheVariants.{OutOfMemory, Usage, ReadFault, WriteFault, LongLine, BadItem, BadField, BadEvent, OpenFault, BadImage, NetFault, Mixed, BadCsv, TooMuch, BadLine, Backward, UnknownTenant}

abbrev pub status_of : Fault → ℕ
status_of OutOfMemory = 1
status_of Usage = 2
status_of ReadFault = 3
status_of WriteFault = 4
status_of (LongLine line) = 5
status_of (BadItem line) = 6
status_of (BadField number) = 6
status_of (BadEvent line) = 7
status_of OpenFault = 8
status_of (BadImage file line) = 9
status_of NetFault = 10
status_of (Mixed left right) = 11
status_of (BadCsv number) = 12
status_of TooMuch = 13
status_of (BadLine line) = 14
status_of (Backward line) = 15
status_of (UnknownTenant line) = 16

-- what is wrong with a line or a record
abbrev pub unit_message : List ℕ → ℕ → List ℕ → List ℕ
unit_message unit number what = unit ++ (decimal number ++ what)

-- which line of which file is not as its place in an image requires
abbrev pub bad_image_message : ℕ → ℕ → List ℕ
bad_image_message file line = unit_message (codes "file ") file (codes " ") ++ unit_message (codes "line ") line (codes ": bad image\n")

-- the first line of an image, and what follows it
abbrev pub stamp_message : Stamp → List ℕ → List ℕ
stamp_message stamp what = first_line stamp.version stamp.k stamp.seed ++ what

-- the first lines of two images that do not fit together
abbrev pub mixed_message : Stamp → Stamp → List ℕ
mixed_message left right = codes "mixed: " ++ (stamp_message left (codes " and ") ++ stamp_message right (codes "\n"))

-- the line that standard error gets
abbrev pub message_of : Fault → List ℕ
message_of OutOfMemory = codes "out of memory\n"
message_of Usage = codes "usage: sketchd count, hash, replay, image, join, quantile, serve, make, window, tally or tenants\n"
message_of ReadFault = codes "read fault\n"
message_of WriteFault = codes "write fault\n"
message_of (LongLine line) = unit_message (codes "line ") line (codes ": too long\n")
message_of (BadItem line) = unit_message (codes "line ") line (codes ": not a number\n")
message_of (BadField number) = unit_message (codes "record ") number (codes ": not a number\n")
message_of (BadEvent line) = unit_message (codes "line ") line (codes ": bad event\n")
message_of OpenFault = codes "open fault\n"
message_of (BadImage file line) = bad_image_message file line
message_of NetFault = codes "net fault\n"
message_of (Mixed left right) = mixed_message left right
message_of (BadCsv number) = unit_message (codes "record ") number (codes ": bad csv\n")
message_of TooMuch = codes "too much\n"
message_of (BadLine line) = unit_message (codes "line ") line (codes ": bad line\n")
message_of (Backward line) = unit_message (codes "line ") line (codes ": earlier moment\n")
message_of (UnknownTenant line) = unit_message (codes "line ") line (codes ": unknown tenant\n")

-- a line or the field of a record that is no item
abbrev pub bad_unit : ℕ → ℕ → Fault
bad_unit zero number = BadItem number
bad_unit (suc column) number = BadField number

-- the fault that a fault of reading makes, at column 0 of lines, else of records
abbrev pub fault_by : ℕ → ReadingFault → Fault
fault_by column reading.OutOfMemory = OutOfMemory
fault_by column reading.ReadFault = ReadFault
fault_by column (reading.LongLine number) = LongLine number
fault_by column (reading.BadItem number) = bad_unit column number
fault_by column (reading.BadCsv number) = BadCsv number
fault_by column reading.TooMuch = TooMuch
fault_by column reading.WriteFault = WriteFault

-- the fault that a fault of lines makes
abbrev pub fault_by_line : LineFault → Fault
fault_by_line stop.ReadFault = ReadFault
fault_by_line (stop.LongLine line) = LongLine line
fault_by_line stop.TooMuch = TooMuch

-- the fault that a file of this number makes which is not read as an image
abbrev pub fault_by_image : ℕ → ReadStop → Fault
fault_by_image number image.OutOfMemory = OutOfMemory
fault_by_image number image.ReadFault = ReadFault
fault_by_image number (image.BadImage line) = BadImage number line
fault_by_image number image.TooMuch = TooMuch

-- the fault that a fault of a server makes
abbrev pub fault_by_serve : ServeFault → Fault
fault_by_serve serve.OutOfMemory = OutOfMemory
fault_by_serve serve.NetFault = NetFault
fault_by_serve serve.WriteFault = WriteFault

-- the fault of a line that is refused for its label
abbrev pub refused_at : Refusal → ℕ → Fault
refused_at Earlier line = Backward line
refused_at Unknown line = UnknownTenant line

-- the fault that a fault of labelled lines makes
abbrev pub fault_by_label : Refusal → LabelFault → Fault
fault_by_label why label.OutOfMemory = OutOfMemory
fault_by_label why label.ReadFault = ReadFault
fault_by_label why label.WriteFault = WriteFault
fault_by_label why (label.LongLine line) = LongLine line
fault_by_label why label.TooMuch = TooMuch
fault_by_label why (label.BadLine line) = BadLine line
fault_by_label why (label.Refused line) = refused_at why line

-- The stop that a fault of the layer below makes.
use Rattle.sk_io.specs.declared.bounded.BoundFault.{BoundFault}
use Rattle.sk_io.specs.declared.bounded.BoundFault.TheVariants as bound
use Rattle.sk_image.specs.declared.stop.ReadStop.{ReadStop}
use Rattle.sk_image.specs.declared.stop.ReadStop.TheVariants.{ReadFault, TooMuch}

abbrev pub read_stop_by : BoundFault → ReadStop
read_stop_by bound.ReadFault = ReadFault
read_stop_by bound.TooMuch = TooMuch

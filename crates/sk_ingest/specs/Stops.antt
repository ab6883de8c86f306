-- The fault of an ingestion that a report which stopped makes.
use Rattle.sk_read.specs.declared.fault.Fault.{Fault}
use Rattle.sk_read.specs.declared.fault.Fault.TheVariants.{OutOfMemory, WriteFault}
use Rattle.sk_ingest.specs.declared.report.Stop.{Stop}
use Rattle.sk_ingest.specs.declared.report.Stop.TheVariants as stop

abbrev pub fault_by : Stop → Fault
fault_by stop.Failed = WriteFault
fault_by stop.OutOfMemory = OutOfMemory

use Rattle.std.proofs.Common.{◌≡◌, ◌-◌, ◌≤◌, ◌++◌, [], length, drop}
use Rattle.csv.specs.Reading.{default_config, records}
use Rattle.csv.specs.declared.parser.State.TheVariants as st
use Rattle.sk_read.specs.Records.{Row, field_of}
use Rattle.sk_read.specs.Runs.{run}
use Rattle.sk_read.proofs.records.quoted.read_record.Given as goal

abbrev pub invariant-field : goal.invariant-field
invariant-field l = record {
  row : Row;
  read : records default_config (drop l.start l.text) ≡ run st.StartField row [] (drop l.at l.text);
  width : l.width ≡ length row;
  held : l.held.items ≡ l.initial.held.items ++ field_of l.column row;
  from : l.start ≤ l.at;
  within : l.at ≤ length l.text;
  few : l.width ≤ l.at;
}

abbrev pub decreases-field : goal.decreases-field
decreases-field l = length l.text - l.at

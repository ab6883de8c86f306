use Rattle.std.proofs.Common.{◌≡◌, ◌-◌, ◌++◌, ℕ, List, length}
use Rattle.sk_read.specs.QuotedRecords.{kept}
use Rattle.sk_read.proofs.QuotedRecords.{StaysQuoted}
use Rattle.sk_read.proofs.records.quoted.read_quoted.Given as goal

abbrev pub invariant-quote : goal.invariant-quote
invariant-quote l = record {
  more : List ℕ;
  stays : StaysQuoted l.text l.start l.at more;
  held : l.held.items ≡ l.initial.held.items ++ kept l.keeps more;
}

abbrev pub decreases-quote : goal.decreases-quote
decreases-quote l = length l.text - l.at

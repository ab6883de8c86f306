use Rattle.std.proofs.Common.{◌≡◌, ◌≤◌, length, All}
use Rattle.sk_model.specs.Limits.{most_kept}
use Rattle.sk_model.specs.Width.{AreItems}
use Rattle.sk_calls.proofs.tests.programs.four_streams.Given as goal

abbrev pub invariant-stream : goal.invariant-stream
invariant-stream l = record {
  count : length l.streams.items ≡ l.i;
  items : All (λ stream. AreItems stream.items) l.streams.items;
  room : All (λ stream. length stream.items ≤ most_kept) l.streams.items;
}

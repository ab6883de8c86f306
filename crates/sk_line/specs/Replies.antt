-- How answers are written.
use Rattle.std.specs.Prelude.{ℕ, List, codes}
use Rattle.sk_lines.specs.Fractions.{estimate_line}
use Rattle.sk_line.specs.declared.answers.Answer.{Answer}
use Rattle.sk_line.specs.declared.answers.Answer.TheVariants.{Kept, Filtered, Busy, Estimate, Synced, Bad}

-- the line of an answer
unfoldable pub reply_line : Answer → List ℕ
reply_line Kept = codes "kept\n"
reply_line Filtered = codes "filtered\n"
reply_line Busy = codes "busy\n"
reply_line (Estimate n d) = estimate_line (n, d)
reply_line Synced = codes "synced\n"
reply_line Bad = codes "bad\n"

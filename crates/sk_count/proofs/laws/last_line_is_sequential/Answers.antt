use Rattle.std.proofs.Common.{ℕ, List}
use Rattle.sk_model.specs.Sketch.{estimate_of}
use Rattle.sk_read.specs.Items.{items_by}
use Rattle.sk_count.specs.declared.plan.Plan.{Plan}
use Rattle.sk_count.specs.Texts.{last_text}
use Rattle.sk_count.proofs.laws.last_line_is_sequential.Goals as goal

pub returns : goal.returns
unfolding items_by
returns c = λ plan seed lines hashed unmade. λ e. last_text (unmade e) (estimate_of plan.k (items_by (hashed e) lines))

-- What the lines of `quantile` are worth.
use Rattle.std.proofs.Common.{◌≡◌, ℕ, ◌<◌, ◌≤◌, List, ◌++◌, length, None, ap, ◌∙◌, subst}
use Rattle.std.specs.Int.{abs_diff}
use Rattle.sk_model.specs.Entries.{items_of_entries}
use Rattle.sk_model.specs.Lines.{lines_of}
use Rattle.sk_quant.specs.Held.{ranked}
use Rattle.sk_quant.specs.Ranks.{rank_of, rank_error}
use Rattle.sk_quant.proofs.Orders.{rank-permutation}
use Rattle.sk_read.specs.Items.{items_by}
use Rattle.sk_read.specs.declared.kind.Kind.TheVariants.{Raw}
use Rattle.sk_rank.specs.declared.plan.Plan.{Plan}
use Rattle.sk_rank.specs.Plans.{rank_manner}
use Rattle.sk_rank.specs.Texts.{told_line, rank_line}
use Rattle.sk_tell.specs.Texts.{interim_text}
use Rattle.sk_tell.proofs.Orders.{all_items, as_many}
use Rattle.sk_cli.specs.Behaviour.{WritesOneText}
use Rattle.sk_cli.specs.Beside.{Beside, RankingHub}
use Rattle.sk_cli.specs.commands.Quantile.{ranking, LeavesRanks, TellsNear}
use Rattle.sk_cli.proofs.MannerDeciding.{in_order, one_text_by}

pub one_line : (plan : Plan) → plan.updaters ≡ 1 → plan.window ≡ None → (from to : Beside) (text due : List ℕ) → (ranking plan).IsDue from to text due → due ≡ rank_line plan (items_by Raw (lines_of text))
one_line plan one none from to text due whole = in_order (rank_manner plan) none from to one (lines_of text) due whole

pub one_rank : (plan : Plan) → plan.updaters ≡ 1 → plan.window ≡ None → WritesOneText (ranking plan)
one_rank plan one none = one_text_by (rank_manner plan) RankingHub (LeavesRanks plan) none (λ from to units due whole. in_order (rank_manner plan) none from to one units due whole)

-- the last line is of as many items as there are, and as near to their rank as it says
pub near_in_all : (plan : Plan) → 0 < plan.updaters → (from to : Beside) (text due : List ℕ) → (ranking plan).IsDue from to text due → TellsNear plan (items_by Raw (lines_of text)) due
near_in_all plan some from to text due whole =
    let units = lines_of text in
    let items = items_of_entries whole.list in
    let interim = interim_text (rank_manner plan) whole.course.moments in
    let count : length items ≡ length (items_by Raw units) = as_many (rank_manner plan) units whole.course whole.list whole.has_all some in
    let rank : rank_of plan.at items ≡ rank_of plan.at (items_by Raw units) = rank-permutation plan.at (items_by Raw units) items (all_items (rank_manner plan) units whole.course whole.list whole.has_all some) in
    record {
      front = interim;
      below = ranked plan.at plan.k plan.key items;
      is = whole.is ∙ ap (λ (n : ℕ). interim ++ told_line n (ranked plan.at plan.k plan.key items) (rank_error n plan.k)) count;
      near = subst (λ (n : ℕ). abs_diff (ranked plan.at plan.k plan.key items) (rank_of plan.at (items_by Raw units)) ≤ rank_error n plan.k) count
          (subst (λ (r : ℕ). abs_diff (ranked plan.at plan.k plan.key items) r ≤ rank_error (length items) plan.k) rank whole.holds);
    }

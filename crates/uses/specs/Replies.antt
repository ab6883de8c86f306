-- What a reply while an interval runs is of.
use Rattle.std.specs.Prelude.{◌≡◌, ℕ, ◌*◌, Bool, nat_lt, List, ◌++◌, All, true}
use Rattle.sk_model.specs.Entries.{Entry, items_of_entries, entries_by}
use Rattle.sk_model.specs.Missing.{LacksAtMost}
use Rattle.sk_model.specs.Sketch.{theta_of}
use Rattle.sk_compose.specs.Numbers.{k_of}
use Rattle.sk_hub.specs.Updaters.{UpdaterState, kept_of}
use Rattle.sk_learn.specs.Closing.{HasExactly}
use Rattle.sk_theta.specs.declared.reply.Reply.{Reply}
use Rattle.sk_window.specs.Intervals.{IsReplyOf, all_items}
use Rattle.uses.specs.Fed.{AreFed}

-- it is of the closed intervals' items and of a list of the running one. Of an updater that held a told value the list
-- lacks at most the last two buffers of what it kept
pub record RepliesNow (k : ℕ) (us : List UpdaterState) (lists : List (List ℕ)) (reply : Reply) : Type 0 where
  pub list : List Entry
  pub reply_is : IsReplyOf k (all_items lists ++ items_of_entries list) reply
  pub lacks : All (λ u. u.news ≡ true → LacksAtMost (kept_of u) (entries_by u.number list) (2 * u.size)) us

-- how a hint filters, and the hint of a list
abbrev pub keeps : ℕ → ℕ → Bool
keeps hint item = nat_lt item hint

abbrev pub hint_of : List ℕ → List Entry → ℕ
hint_of numbers list = theta_of (k_of numbers) (items_of_entries list)

-- such a reply, of updaters that were fed these streams
pub record RepliesOf (k : ℕ) (us : List UpdaterState) (streams lists : List (List ℕ)) (reply : Reply) : Type 0 where
  pub fed : List UpdaterState
  pub took : AreFed keeps hint_of us streams fed
  pub now : RepliesNow k fed lists reply

-- it is of the closed intervals' items and of exactly what these updaters kept
pub record EndsWith (k : ℕ) (us : List UpdaterState) (lists : List (List ℕ)) (reply : Reply) : Type 0 where
  pub list : List Entry
  pub exactly : HasExactly list us
  pub reply_is : IsReplyOf k (all_items lists ++ items_of_entries list) reply

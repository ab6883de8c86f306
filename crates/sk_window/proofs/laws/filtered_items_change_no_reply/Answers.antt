use Rattle.sk_window.proofs.Filtered.{no_reply}
use Rattle.sk_window.proofs.laws.filtered_items_change_no_reply.Goals as goal

pub returns : goal.returns
returns c = no_reply

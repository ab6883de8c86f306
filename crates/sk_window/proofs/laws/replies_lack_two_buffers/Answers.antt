use Rattle.sk_window.proofs.Lacking.{all_lack_two}
use Rattle.sk_window.proofs.laws.replies_lack_two_buffers.Goals as goal

pub returns : goal.returns
returns c = all_lack_two

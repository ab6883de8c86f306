use Rattle.sk_panes.proofs.Labels.{label_len}
use Rattle.sk_panes.proofs.running.Running.come_to.Goals as goal

pub keep-requires : goal.keep-requires
keep-requires g c = label_len c.args.label.now c.in-Some.moment c.in-Some.ensures

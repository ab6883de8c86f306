use Rattle.sk_model.specs.Limits.{source_limit}
use Rattle.sk_label.specs.Goes.{setting}
use Rattle.uses.proofs.SaidLaws.{says}
use Rattle.uses.proofs.labels.read_to_blame.Goals as goal

pub returns-clause-says : goal.returns-clause-says
returns-clause-says g c =
    let start = c.args.taker.now in
    let end = c.read_labelled.new.taker in
    says (g.T.LineTaker.rules start) source_limit (setting (g.S.Source.left c.args.source.now) (g.T.LineTaker.written start))
    (setting (g.S.Source.left c.read_labelled.new.source) (g.T.LineTaker.written end)) _ (g.T.LineTaker.went start end) c.read_labelled.result
    c.read_labelled.ensures.read c.read_labelled.ensures.count

use Rattle.sk_panes.proofs.Wholes.{text_of_lines}
use Rattle.sk_panes.proofs.laws.the_text_is_of_the_lines.Goals as goal

pub returns : goal.returns
returns c = text_of_lines

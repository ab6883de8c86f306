use Rattle.sk_make.proofs.Texts as texts
use Rattle.sk_make.proofs.laws.lines_are_numbers.Goals as goal

pub returns-clause-lines : goal.returns-clause-lines
returns-clause-lines c = texts.lines_are

pub returns-clause-count : goal.returns-clause-count
returns-clause-count c = texts.count_is

pub returns-clause-spelled : goal.returns-clause-spelled
returns-clause-spelled c = texts.read_are

pub returns-clause-size : goal.returns-clause-size
returns-clause-size c = texts.size_is

use Rattle.std.proofs.Common.{◌≡◌, ap, sym, codes, arith, rules}
use Rattle.std.proofs.lemmas.Slice.Eq.{text_from_reads}
use Rattle.sk_core.specs.Texts.{event_of_one}
use Rattle.sk_core.proofs.text.event_of_one.Goals as goal

pub returns-in-publish : goal.returns-in-publish
unfolding event_of_one
returns-in-publish c = let is : c.args.word.now ≡ codes "publish" = text_from_reads c.args.word.now (codes "publish") (omega arith) (search rules) in sym (ap (λ word. event_of_one word c.args.n) is)

pub returns-in-return : goal.returns-in-return
unfolding event_of_one
returns-in-return c = let is : c.args.word.now ≡ codes "return" = text_from_reads c.args.word.now (codes "return") (omega arith) (search rules) in sym (ap (λ word. event_of_one word c.args.n) is)

use Rattle.std.proofs.Common.{◌≡◌, refl, sym, ◌∙◌, subst}
use Rattle.sk_snap.specs.History.{Beginning, entries_in}
use Rattle.sk_snap.specs.Versions.{items_in}
use Rattle.sk_snap.proofs.Versions.{as_many}
use Rattle.sk_snap.proofs.reader.asked.Goals as goal

pub ask-answer-requires-clause-sketch : goal.ask-answer-requires-clause-sketch
ask-answer-requires-clause-sketch g c =
    (items_in c.args.version.now.known, c.requires.whole, c.count.ensures ∙ sym (as_many (entries_in c.args.version.now.known)))

pub returns-clause-seen : goal.returns-clause-seen
returns-clause-seen g c =
    let at : c.advance.new.self ≡ c.args.version.now.known = c.if-not-advance.ensures.taken refl in
    subst (λ (b : Beginning). g.Q.Query.gives c.args.query (g.S.Sequential.numbers c.args.version.now.sketch) (items_in b) c.ask-answer.result) (sym at)
    (c.ask-answer.ensures.gives (items_in c.args.version.now.known) c.requires.whole (c.count.ensures ∙ sym (as_many (entries_in c.args.version.now.known))))

use Rattle.std.proofs.Common.{ℕ, List, [], ◌∷◌, subst}
use Rattle.sk_desks.specs.Feeds.{TakesLines}
use Rattle.sk_desks.specs.Gathers.{IsOfTenant}
use Rattle.sk_desks.proofs.ClerkLaws.{gave_tenants, gave_room, gave_more, whole_line}
use Rattle.sk_desks.proofs.clerk.ClerkLineTaker.take.Goals as goal

pub give-requires-clause-tenants : goal.give-requires-clause-tenants
give-requires-clause-tenants g c =
    let known = c.requires.behind in let clerk = c.args.self.now in
    gave_tenants known.0.plan clerk.plan known.0.desk.now clerk.desk.now known.1 known.3

pub give-requires-clause-room : goal.give-requires-clause-room
give-requires-clause-room g c =
    let known = c.requires.behind in let clerk = c.args.self.now in
    gave_room known.0.plan clerk.plan known.0.desk.now clerk.desk.now known.1 known.3 known.2

pub returns-clause-takes : goal.returns-clause-takes
returns-clause-takes g c =
    let clerk = c.args.self.now in let line = c.args.line.now in
    λ start lines gave. gave_more start.plan clerk.plan start.desk.now clerk.desk.now lines gave c.give.new.desk line
    (subst (λ (l : List ℕ). TakesLines clerk.plan.seed clerk.desk.now (l ∷ []) c.give.new.desk) (whole_line line) c.in_ok-give.ensures.took)
    (subst (IsOfTenant clerk.desk.now.names) (whole_line line) c.in_ok-give.ensures.fine)

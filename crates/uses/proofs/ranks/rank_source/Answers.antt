use Rattle.std.proofs.Common.{true, None, refl}
use Rattle.sk_read.specs.Units.{units_by, units_of}
use Rattle.sk_rank.specs.declared.plan.Plan.{Plan}
use Rattle.sk_tell.proofs.HeadlineLaws.{course_of}
use Rattle.sk_rank.specs.Plans.{rank_manner}
use Rattle.uses.proofs.Told.{tells_rank}
use Rattle.uses.proofs.ranks.rank_source.Goals as goal

pub returns : goal.returns
returns g c =
    let plan : Plan = record { k = 128; key = 0; at = c.args.at; size = 64; updaters = c.args.updaters; window = None; propagator = true } in
    let reads = c.in_ok-rank.ensures.ranks in let all = reads.1 in
    let units = units_of (units_by 0) all.taken in let told = all.gave in
    tells_rank c.args.at plan _ _ _ _ (g.S.Source.left c.args.source.now) (g.S.Source.left c.rank.new.source) all.taken all.consumed all.end refl refl told
    (c.ranks_of_lists_are_near.ensures.count plan units (course_of (rank_manner plan) units _ _ _ told.exactly) _ c.requires.updaters.0 told.exactly.list)
    (c.ranks_of_lists_are_near.ensures.rank plan units (course_of (rank_manner plan) units _ _ _ told.exactly) _ c.requires.updaters.0 told.exactly.list)

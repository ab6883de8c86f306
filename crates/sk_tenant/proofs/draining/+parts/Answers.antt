use Rattle.std.proofs.Common.{◌/◌, length, ap, ◌∙◌, arith}
use Rattle.sk_tenant.proofs.Halves.{first_lists, last_lists, both_drained}
use Rattle.sk_tenant.specs.Rooms.{emptied}
use Rattle.sk_tenant.proofs.Rooms.{emptied_halves}
use Rattle.sk_tenant.proofs.draining.+parts.Goals as goal

pub drain_parts-drain_both-requires-clause-first : goal.drain_parts-drain_both-requires-clause-first
drain_parts-drain_both-requires-clause-first g t c κs inside =
    let hearts = c.split_at_mut-first in let rooms = c.split_at_mut-earlier in
    first_lists (λ room. room.items) c.args.hearts.now c.args.rooms.now (length c.args.hearts.now / 2) (omega arith) hearts.result.0.now hearts.result.1.now rooms.result.0.now rooms.result.1.now
    hearts.ensures.front hearts.ensures.back rooms.ensures.front rooms.ensures.back c.requires

pub drain_parts-drain_both-requires-clause-last : goal.drain_parts-drain_both-requires-clause-last
drain_parts-drain_both-requires-clause-last g t c κs inside =
    let hearts = c.split_at_mut-first in let rooms = c.split_at_mut-earlier in
    last_lists (λ room. room.items) c.args.hearts.now c.args.rooms.now (length c.args.hearts.now / 2) (omega arith) hearts.result.0.now hearts.result.1.now rooms.result.0.now rooms.result.1.now
    hearts.ensures.front hearts.ensures.back rooms.ensures.front rooms.ensures.back c.requires

pub drain_parts-returns-clause-drains : goal.drain_parts-returns-clause-drains
drain_parts-returns-clause-drains g t c =
    let hearts = c.split_at_mut-first in let rooms = c.split_at_mut-earlier in
    both_drained (λ room. room.items) c.args.hearts.now c.args.rooms.now (length c.args.hearts.now / 2) (omega arith) hearts.result.0.now hearts.result.1.now rooms.result.0.now rooms.result.1.now
    hearts.ensures.front hearts.ensures.back rooms.ensures.front rooms.ensures.back c.drain_both.new.first c.drain_both.new.last c.drain_both.ensures.first c.drain_both.ensures.last

pub drain_parts-returns-clause-empty : goal.drain_parts-returns-clause-empty
drain_parts-returns-clause-empty g t c =
    let rooms = c.split_at_mut-earlier in
    emptied_halves c.args.rooms.now c.drain_both.new.earlier c.drain_both.new.later (length c.args.hearts.now / 2)
    (c.drain_both.ensures.earlier ∙ ap emptied rooms.ensures.front) (c.drain_both.ensures.later ∙ ap emptied rooms.ensures.back)

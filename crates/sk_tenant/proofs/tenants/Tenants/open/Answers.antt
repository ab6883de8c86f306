use Rattle.std.proofs.Common.{length, arith}
use Rattle.std.proofs.lemmas.List.{length-map}
use Rattle.sk_tenant.specs.Rooms.{lists_in}
use Rattle.sk_tenant.proofs.Dealt.{unused_lists, new_desks, new_is_of}
use Rattle.sk_tenant.proofs.tenants.Tenants.open.Goals as goal

pub desks_of-requires-clause-few : goal.desks_of-requires-clause-few
desks_of-requires-clause-few c =
    omega (arith, c.n-n.ensures.value, c.n-n.ensures.limits.1, c.in_ok-hearts.ensures.desks, length-map c.in_ok-hearts.dealt.items (λ room. room.items))

pub desks_of-requires-clause-unused : goal.desks_of-requires-clause-unused
desks_of-requires-clause-unused c =
    unused_lists c.args.shape.now c.len.result c.in_ok-hearts.hearts.items (lists_in c.in_ok-hearts.dealt.items) c.in_ok-hearts.ensures (length c.in_ok-names.names) c.len.ensures.value

pub returns-clause-desks : goal.returns-clause-desks
returns-clause-desks c =
    new_desks c.args.shape.now c.len.result c.in_ok-hearts.hearts.items (lists_in c.in_ok-hearts.dealt.items) c.in_ok-hearts.ensures
    c.in_ok-names.names c.k-k.result c.n-n.result c.args.quota c.in_ok-desks.desks.items c.in_ok-desks.ensures

pub returns-clause-of_hosts : goal.returns-clause-of_hosts
returns-clause-of_hosts c = λ i d within. new_is_of _ c.args.shape.now c.args.quota i _ (returns-clause-desks c i d within)

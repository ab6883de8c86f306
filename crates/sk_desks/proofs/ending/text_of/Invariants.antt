use Rattle.std.proofs.Common.{◌≡◌, ℕ, List, take, flat_map}
use Rattle.sk_desks.specs.Desks.{tenant_line}
use Rattle.sk_desks.specs.Endings.{AreTheSame, HaveCounted}
use Rattle.sk_desks.proofs.ending.text_of.Given as goal

abbrev pub invariant-tenant : goal.invariant-tenant
invariant-tenant l = record {
  text : (lines : List (List ℕ)) → HaveCounted l.plan lines l.initial.hosts → l.text.items ≡ flat_map (tenant_line l.plan lines) (take l.t l.initial.hosts.names);
  same : AreTheSame l.initial.hosts l.hosts;
  counted : (lines : List (List ℕ)) → HaveCounted l.plan lines l.initial.hosts → HaveCounted l.plan lines l.hosts;
}

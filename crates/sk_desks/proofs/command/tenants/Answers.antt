use Rattle.std.proofs.Common.{◌≡◌, ◌∙◌, ℕ, List, flat_map, inl, inr, Err, sym, ap, subst}
use Rattle.sk_model.specs.Causes.{AppendsPart}
use Rattle.std.specs.Io.KnownBytes.{Appends}
use Rattle.sk_model.specs.Lines.{lines_of}
use Rattle.sk_label.specs.Rules.{AreFine}
use Rattle.sk_label.specs.Goes.{setting, WroteSoFar, WroteAll, WrotePartLast, EndsAt}
use Rattle.sk_label.specs.declared.fault.LabelFault.{LabelFault}
use Rattle.sk_label.specs.declared.fault.LabelFault.TheVariants as fault
use Rattle.sk_label.proofs.QuietLaws.{goes_by, reads_so, ends_at_start, wrote_none, wrote_whole, wrote_part_whole}
use Rattle.sk_tenant.specs.Names.{bytes_of}
use Rattle.sk_desks.specs.Desks.{desk_rules, tenant_line}
use Rattle.sk_desks.specs.Windows.{AreUnused, HaveTaken}
use Rattle.sk_desks.proofs.GatherLaws.{never}
use Rattle.sk_desks.proofs.WentLaws.{ends_early, fine_same}
use Rattle.sk_desks.proofs.Counting.{unused_new, desks_still, numbers_still, as_many_still, same_drained, counted_then, text_due}
use Rattle.sk_desks.proofs.command.tenants.Goals as goal

pub returns-in_err-hosts-clause-goes : goal.returns-in_err-hosts-clause-goes
returns-in_err-hosts-clause-goes g c =
    let left = g.S.Source.left c.args.source.now in
    let w = g.O.Sink.written c.args.out.now in
    let rules = desk_rules c.args.plan.now (bytes_of c.args.names.items) in
    goes_by _ rules c.args.most (setting left w) (setting left w) c.from_residual.result fault.OutOfMemory c.from_residual.ensures.1 (inl (ends_at_start _ rules c.args.most left w))

pub read_all-requires-clause-unused : goal.read_all-requires-clause-unused
read_all-requires-clause-unused g c κs within =
    let names = bytes_of c.args.names.items in
    let opening = c.in_ok-hosts.field-0 in
    let opened = c.in_ok-hosts.ensures in
    subst (λ (l : List (List ℕ)). AreUnused l opening.desks.items) (sym (c.names.ensures.value ∙ opened.hosts.names_are))
    (unused_new c.args.plan.now names opening.hosts opening.desks.items c.requires.within c.requires.names opened.hosts opened.count opened.desks)

pub returns-in_err-read_all-clause-goes : goal.returns-in_err-read_all-clause-goes
returns-in_err-read_all-clause-goes g c =
    let plan = c.args.plan.now in
    let names = bytes_of c.args.names.items in
    let left = g.S.Source.left c.args.source.now in let left' = g.S.Source.left c.read_all.new.source in
    let w = g.O.Sink.written c.args.out.now in
    let f = c.in_err-read_all.field-0.0 in
    goes_by _ (desk_rules plan names) c.args.most (setting left w) (setting left' w) c.from_residual-in_err-read_all.result f c.from_residual-in_err-read_all.ensures.1
    (inl (ends_early _ plan names c.names.result.now c.args.most left left' w f (c.names.ensures.value ∙ c.in_ok-hosts.ensures.hosts.names_are)
    (λ same. c.in_err-read_all.ensures.quiet (ap (λ (x : LabelFault). Err x) same)) c.in_err-read_all.ensures.early))

pub drain_all-requires-clause-desks : goal.drain_all-requires-clause-desks
drain_all-requires-clause-desks g c κs within =
    let names = bytes_of c.args.names.items in
    let opening = c.in_ok-hosts.field-0 in
    let opened = c.in_ok-hosts.ensures in
    let all = c.in_ok-read_all.ensures.read.1 in
    desks_still c.args.plan.now names opening.hosts opening.desks.items c.requires.within c.requires.names opened.hosts opened.count opened.desks c.read_all.new.desks.items (lines_of all.taken) all.gave.1 opened.of_hosts

pub drain_all-requires-clause-numbers : goal.drain_all-requires-clause-numbers
drain_all-requires-clause-numbers g c κs within =
    let names = bytes_of c.args.names.items in
    let opening = c.in_ok-hosts.field-0 in
    let opened = c.in_ok-hosts.ensures in
    let all = c.in_ok-read_all.ensures.read.1 in
    numbers_still c.args.plan.now names opening.hosts opening.desks.items c.requires.within c.requires.names opened.hosts opened.count opened.desks c.read_all.new.desks.items (lines_of all.taken) all.gave.1

pub drain_all-requires-clause-all : goal.drain_all-requires-clause-all
drain_all-requires-clause-all g c κs within =
    let names = bytes_of c.args.names.items in
    let opening = c.in_ok-hosts.field-0 in
    let opened = c.in_ok-hosts.ensures in
    let all = c.in_ok-read_all.ensures.read.1 in
    as_many_still c.args.plan.now names opening.hosts opening.desks.items c.requires.within c.requires.names opened.hosts opened.count opened.desks c.read_all.new.desks.items (lines_of all.taken) all.gave.1

pub text_of-requires-clause-counted : goal.text_of-requires-clause-counted
text_of-requires-clause-counted g c =
    let names = bytes_of c.args.names.items in
    let opening = c.in_ok-hosts.field-0 in
    let opened = c.in_ok-hosts.ensures in
    let all = c.in_ok-read_all.ensures.read.1 in (
      lines_of all.taken,
      counted_then c.args.plan.now names opening.hosts opening.desks.items c.requires.within c.requires.names opened.hosts opened.count opened.desks c.read_all.new.desks.items (lines_of all.taken) all.gave.1
          c.drain_all.new.self (same_drained opening.hosts c.drain_all.new.self c.read_all.new.desks.items c.drain_all.ensures.drains) c.drain_all.ensures.taken_in,
    )

pub returns-in_err-text-clause-goes : goal.returns-in_err-text-clause-goes
returns-in_err-text-clause-goes g c =
    let plan = c.args.plan.now in
    let names = bytes_of c.args.names.items in
    let own = c.names.result.now in
    let left = g.S.Source.left c.args.source.now in let left' = g.S.Source.left c.read_all.new.source in
    let w = g.O.Sink.written c.args.out.now in
    let same = c.names.ensures.value ∙ c.in_ok-hosts.ensures.hosts.names_are in
    let Gave : List (List ℕ) → Type 0 = λ lines. AreFine (desk_rules plan own) lines × HaveTaken plan.seed c.in_ok-hosts.field-0.desks.items c.read_all.new.desks.items lines in
    goes_by _ (desk_rules plan names) c.args.most (setting left w) (setting left' w) c.from_residual-in_err-text.result fault.OutOfMemory c.from_residual-in_err-text.ensures.1
    (inr (reads_so Gave (WroteSoFar (desk_rules plan names) w w) c.args.most left left' (λ lines gave. wrote_none (desk_rules plan names) (never plan names) w lines (fine_same plan names own lines same gave.0)) c.in_ok-read_all.ensures.read))

pub returns-in_err-write_text-clause-goes : goal.returns-in_err-write_text-clause-goes
returns-in_err-write_text-clause-goes g c =
    let plan = c.args.plan.now in
    let names = bytes_of c.args.names.items in
    let own = c.names.result.now in
    let opening = c.in_ok-hosts.field-0 in
    let opened = c.in_ok-hosts.ensures in
    let last = c.read_all.new.desks.items in
    let left = g.S.Source.left c.args.source.now in let left' = g.S.Source.left c.read_all.new.source in
    let w = g.O.Sink.written c.args.out.now in let w' = g.O.Sink.written c.write_text.new.out in
    let same = c.names.ensures.value ∙ opened.hosts.names_are in
    let Gave : List (List ℕ) → Type 0 = λ lines. AreFine (desk_rules plan own) lines × HaveTaken plan.seed opening.desks.items last lines in
    let due : (lines : List (List ℕ)) → HaveTaken plan.seed opening.desks.items last lines → c.as_slice.result.now ≡ flat_map (tenant_line plan lines) names = λ lines taken.
    c.as_slice.ensures.value ∙ text_due plan names opening.hosts opening.desks.items c.requires.within c.requires.names opened.hosts opened.count opened.desks last lines taken c.drain_all.new.self c.in_ok-text.text.items (same_drained opening.hosts c.drain_all.new.self last c.drain_all.ensures.drains) c.drain_all.ensures.taken_in c.in_ok-text.ensures.text in
    goes_by _ (desk_rules plan names) c.args.most (setting left w) (setting left' w') c.from_residual-in_err-write_text.result c.in_err-write_text.field-0.0 c.from_residual-in_err-write_text.ensures.1
    (subst (EndsAt (desk_rules plan names) (g.S.Source.last c.read_all.new.source) c.args.most (setting left w) (setting left' w')) (sym c.in_err-write_text.ensures.fault)
    (inr (reads_so Gave (WrotePartLast (desk_rules plan names) w w') c.args.most left left'
    (λ lines gave. wrote_part_whole (desk_rules plan names) (never plan names) w w' lines (fine_same plan names own lines same gave.0) (subst (AppendsPart w w') (due lines gave.1) c.in_err-write_text.ensures.part)) c.in_ok-read_all.ensures.read)))

pub returns-clause-goes : goal.returns-clause-goes
returns-clause-goes g c =
    let plan = c.args.plan.now in
    let names = bytes_of c.args.names.items in
    let own = c.names.result.now in
    let opening = c.in_ok-hosts.field-0 in
    let opened = c.in_ok-hosts.ensures in
    let last = c.read_all.new.desks.items in
    let left = g.S.Source.left c.args.source.now in let left' = g.S.Source.left c.read_all.new.source in
    let w = g.O.Sink.written c.args.out.now in let w' = g.O.Sink.written c.write_text.new.out in
    let same = c.names.ensures.value ∙ opened.hosts.names_are in
    let Gave : List (List ℕ) → Type 0 = λ lines. AreFine (desk_rules plan own) lines × HaveTaken plan.seed opening.desks.items last lines in
    let due : (lines : List (List ℕ)) → HaveTaken plan.seed opening.desks.items last lines → c.as_slice.result.now ≡ flat_map (tenant_line plan lines) names = λ lines taken.
    c.as_slice.ensures.value ∙ text_due plan names opening.hosts opening.desks.items c.requires.within c.requires.names opened.hosts opened.count opened.desks last lines taken c.drain_all.new.self c.in_ok-text.text.items (same_drained opening.hosts c.drain_all.new.self last c.drain_all.ensures.drains) c.drain_all.ensures.taken_in c.in_ok-text.ensures.text in
    reads_so Gave (WroteAll (desk_rules plan names) w w') c.args.most left left'
    (λ lines gave. wrote_whole (desk_rules plan names) (never plan names) w w' lines (fine_same plan names own lines same gave.0) (subst (Appends w w') (due lines gave.1) c.in_ok-write_text.ensures.ok)) c.in_ok-read_all.ensures.read

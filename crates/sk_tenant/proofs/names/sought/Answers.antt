use Rattle.std.proofs.Common.{sym, ◌∙◌}
use Rattle.std.specs.Str.{bytes_eq}
use Rattle.sk_tenant.proofs.Places.{same_place}
use Rattle.sk_tenant.proofs.names.sought.Goals as goal

pub returns-in_err-place : goal.returns-in_err-place
returns-in_err-place c =
    c.from_residual.ensures ∙ sym c.in_err-place.was ∙ c.get_index_of.ensures.index
    ∙ same_place (λ own. own.items) (bytes_eq c.args.name.now) c.args.names.now.keys

pub returns : goal.returns
returns c =
    sym c.in_ok-place.was ∙ c.get_index_of.ensures.index
    ∙ same_place (λ own. own.items) (bytes_eq c.args.name.now) c.args.names.now.keys

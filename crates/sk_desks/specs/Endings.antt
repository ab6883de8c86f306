-- Tenants whose desks are all drained, and the text that is made of them.
use Rattle.std.specs.Prelude.{◌≡◌, ℕ, List, ◌++◌, length, codes, All, Some, slice_get}
use Rattle.sk_model.specs.Limits.{most_kept}
use Rattle.sk_model.specs.Sketch.{fraction_of, unpacked}
use Rattle.sk_lines.specs.Fractions.{estimate_line}
use Rattle.sk_tenant.specs.Desks.{DeskState}
use Rattle.sk_tenant.specs.Hosts.{TenantsState, AreNewDesks, HasTakenInDesk, AreAskedFor}
use Rattle.sk_desks.specs.declared.plan.Plan.{Plan}
use Rattle.sk_desks.specs.Plans.{shape_of}
use Rattle.sk_desks.specs.Windows.{AreUnused, HaveTaken}

-- the same tenants, whatever their hubs did since
pub record AreTheSame (hosts hosts' : TenantsState) : Type 0 where
  pub names_are : hosts'.names ≡ hosts.names
  pub k_is : hosts'.k ≡ hosts.k
  pub n_is : hosts'.n ≡ hosts.n
  pub tenants : length hosts'.hearts ≡ length hosts.hearts

-- desks that were new took these lines, and were all taken in
pub record HaveCounted (plan : Plan) (lines : List (List ℕ)) (hosts : TenantsState) : Type 0 where
  pub opened : TenantsState
  pub first : List DeskState
  pub last : List DeskState
  pub new : AreNewDesks opened (shape_of plan) most_kept first
  pub unused : AreUnused hosts.names first
  pub taken : HaveTaken plan.seed first last lines
  pub taken_in : All (HasTakenInDesk hosts) last
  pub k_is : hosts.k ≡ plan.k
  pub n_is : hosts.n ≡ length first
  pub tenants : length hosts.hearts ≡ length hosts.names

-- the estimate that a word of a sketch of k holds
abbrev pub estimate_in : ℕ → ℕ → ℕ × ℕ
estimate_in k word = let shown = unpacked k word in fraction_of k shown.0 shown.1

-- after a text stands the line of the tenant at this place, by the word that it was asked for
pub record PutsLine (k t : ℕ) (hosts hosts' : TenantsState) (text text' : List ℕ) : Type 0 where
  pub name : List ℕ
  pub is_at : slice_get hosts.names t ≡ Some name
  pub word : ℕ
  pub asked : AreAskedFor hosts t word hosts'
  pub written : text' ≡ text ++ (name ++ (codes " " ++ estimate_line (estimate_in k word)))

-- The items of each tenant, and what is written of them.
use Rattle.std.specs.Prelude.{ℕ, Bool, ◌&&◌, if◌then◌else◌, not, is_some, true, List, [], ◌++◌, codes, filter_map, flat_map, Option, None, Some}
use Rattle.std.specs.Str.{bytes_eq}
use Rattle.sk_model.specs.Murmur.{hash_of}
use Rattle.sk_model.specs.Sketch.{estimate_of}
use Rattle.sk_lines.specs.Fractions.{estimate_line}
use Rattle.sk_label.specs.Labels.{label_of, item_text_of, is_labelled}
use Rattle.sk_label.specs.Rules.{Rules}
use Rattle.sk_tenant.specs.Names.{place_of}
use Rattle.sk_desks.specs.declared.plan.Plan.{Plan}

-- the item of a line, if it is one of the tenant with this name
abbrev pub item_for : ℕ → List ℕ → List ℕ → Option ℕ
item_for seed name line = if is_labelled line && bytes_eq (label_of line) name then Some (hash_of seed (item_text_of line)) else None

-- the items of the lines of the tenant with this name, in order
unfoldable pub items_for : ℕ → List ℕ → List (List ℕ) → List ℕ
items_for seed name lines = filter_map (item_for seed name) lines

-- the line that is written of a tenant
abbrev pub tenant_line : Plan → List (List ℕ) → List ℕ → List ℕ
tenant_line plan lines name = name ++ (codes " " ++ estimate_line (estimate_of plan.k (items_for plan.seed name lines)))

-- whether a tenant has the name that a line begins with
abbrev pub is_known : List (List ℕ) → List ℕ → Bool
is_known names line = is_some (place_of names (label_of line))

-- a line is refused if no tenant has its name; at the end each tenant's line is due, in the order of the names
abbrev pub desk_rules : Plan → List (List ℕ) → Rules
desk_rules plan names = record {
  is_formed = is_labelled;
  is_refused = λ before line. not (is_known names line);
  due_at = λ before line. [];
  due_last = λ lines. flat_map (tenant_line plan lines) names;
  writes_last = true;
}

-- What one byte does to csv's machine.
use Rattle.std.proofs.Common.{◌≡◌, ◌==◌, ◌⊎◌, ℕ, true, false, refl, sym, ap, ◌∙◌, subst, inl, inr}
use Rattle.std.proofs.lemmas.Bool.{cases_Bool, eqb-true, false≢true}
use Rattle.csv.specs.Machine.{step, is_end, ends_at_end}
use Rattle.csv.specs.Reading.{default_config}
use Rattle.csv.specs.declared.parser.State.{State}
use Rattle.csv.specs.declared.parser.State.TheVariants as st
use Rattle.csv.specs.declared.parser.Action.{Action}
use Rattle.csv.specs.declared.parser.Action.TheVariants as act
use Rattle.sk_read.specs.Scan.{settled, is_inside, IsEnd}

-- the state after a CR that ended a record continues as that between two records
pub after_cr : (c : ℕ) → step default_config st.AfterCr c ≡ step default_config st.StartRecord c
after_cr c = elim (cases_Bool (c == 10)) [
  | inl lf ↦ elim (cases_Bool (c == 13)) [
    | inl cr ↦ rw (lf, cr) refl
    | inr no_cr ↦ rw (lf, no_cr) refl
  ]
  | inr no_lf ↦ rw no_lf refl
]

pub settled_goes_on : (s : State) (c : ℕ) → step default_config (settled s) c ≡ step default_config s c
settled_goes_on st.AfterCr c = sym (after_cr c)
settled_goes_on s c = refl

pub settled_twice : (s : State) → settled (settled s) ≡ settled s
settled_twice st.AfterCr = refl
settled_twice s = refl

pub inside_settled : (s : State) → is_inside (settled s) ≡ is_inside s
inside_settled st.AfterCr = refl
inside_settled s = refl

-- no state is both
pub not_both : (s : State) → is_inside s ≡ true → settled s ≡ st.StartRecord → ⊥
not_both s inside between = false≢true (sym (ap is_inside between) ∙ inside_settled s ∙ inside)

-- a byte ends the record that the state is in
abbrev pub Ends : State → ℕ → Type 0
Ends s c = (is_end (step default_config s c).1 ≡ true) × (settled (step default_config s c).0 ≡ st.StartRecord)

-- after a byte the state is inside a record that has not ended
abbrev pub Stays : State → ℕ → Type 0
Stays s c = (is_end (step default_config s c).1 ≡ false) × (is_inside (step default_config s c).0 ≡ true)

-- in a field without quotes, a byte ends the record or stays there
pub in_field : (c : ℕ) → (IsEnd c × Ends st.InField c) ⊎ Stays st.InField c
in_field c = elim (cases_Bool (c == 44)) [
  | inl comma ↦ inr (rw comma (refl, refl))
  | inr no_comma ↦ elim (cases_Bool (c == 13)) [
    | inl cr ↦ inl (inr (eqb-true c 13 cr), rw (no_comma, cr) (refl, refl))
    | inr no_cr ↦ elim (cases_Bool (c == 10)) [
      | inl lf ↦ inl (inl (eqb-true c 10 lf), rw (no_comma, no_cr, lf) (refl, refl))
      | inr no_lf ↦ inr (rw (no_comma, no_cr, no_lf) (refl, refl))
    ]
  ]
]

-- inside a record, a byte ends it or stays there
inside_goes_on : (s : State) (c : ℕ) → is_inside s ≡ true → (IsEnd c × Ends s c) ⊎ Stays s c
inside_goes_on st.InField c inside = in_field c
inside_goes_on st.StartField c inside = elim (cases_Bool (c == 34)) [
  | inl quote ↦ inr (rw quote (refl, refl))
  | inr no_quote ↦ rw no_quote (in_field c)
]
inside_goes_on st.AfterQuote c inside = elim (cases_Bool (c == 34)) [
  | inl quote ↦ inr (rw quote (refl, refl))
  | inr no_quote ↦ rw no_quote (in_field c)
]
inside_goes_on st.InQuoted c inside = elim (cases_Bool (c == 34)) [
  | inl quote ↦ inr (rw quote (refl, refl))
  | inr no_quote ↦ inr (rw no_quote (refl, refl))
]
inside_goes_on s c inside = absurd (false≢true inside)

-- at the start of a record a byte begins one, or is skipped
at_start : (c : ℕ) → Stays st.StartRecord c ⊎ (IsEnd c × (step default_config st.StartRecord c ≡ (st.StartRecord, act.Skip)))
at_start c = elim (cases_Bool (c == 13)) [
  | inl cr ↦ inr (inr (eqb-true c 13 cr), rw cr refl)
  | inr no_cr ↦ elim (cases_Bool (c == 10)) [
    | inl lf ↦ inr (inl (eqb-true c 10 lf), rw (no_cr, lf) refl)
    | inr no_lf ↦ elim (cases_Bool (c == 34)) [
      | inl quote ↦ inl (rw (no_cr, no_lf, quote) (refl, refl))
      | inr no_quote ↦ elim (cases_Bool (c == 44)) [
        | inl comma ↦ inl (rw (no_cr, no_lf, no_quote, comma) (refl, refl))
        | inr no_comma ↦ inl (rw (no_cr, no_lf, no_quote, no_comma) (refl, refl))
      ]
    ]
  ]
]

-- between two records, a byte begins one, or is skipped
pub between_goes_on : (s : State) (c : ℕ) → settled s ≡ st.StartRecord → Stays s c ⊎ (IsEnd c × (step default_config s c ≡ (st.StartRecord, act.Skip)))
between_goes_on st.StartRecord c between = at_start c
between_goes_on st.AfterCr c between = rw (after_cr c) (at_start c)
between_goes_on s c between = cc

-- inside a record, a byte that does not end it leaves it there
pub stays_inside : (s : State) (c : ℕ) → is_inside s ≡ true → is_end (step default_config s c).1 ≡ false → is_inside (step default_config s c).0 ≡ true
stays_inside s c inside going = elim (inside_goes_on s c inside) [
  | inl ends ↦ absurd (false≢true (sym going ∙ ends.1.0))
  | inr stays ↦ stays.1
]

skipped_between : (s : State) (c : ℕ) → settled s ≡ st.StartRecord → is_end (step default_config s c).1 ≡ true → settled (step default_config s c).0 ≡ st.StartRecord
skipped_between s c between end = elim (between_goes_on s c between) [
  | inl begins ↦ absurd (false≢true (sym begins.0 ∙ end))
  | inr skips ↦ ap (λ (p : State × Action). settled p.0) skips.1
]

-- after the byte that ends a record it stands between two
pub ends_between : (s : State) (c : ℕ) → is_end (step default_config s c).1 ≡ true → settled (step default_config s c).0 ≡ st.StartRecord
ends_between st.StartRecord c end = skipped_between st.StartRecord c refl end
ends_between st.AfterCr c end = skipped_between st.AfterCr c refl end
ends_between st.InEscape c end = absurd (false≢true end)
ends_between st.InComment c end = elim (cases_Bool (c == 10)) [
  | inl lf ↦ absurd (false≢true (rw lf at end))
  | inr no_lf ↦ absurd (false≢true (rw no_lf at end))
]
ends_between s c end = elim (inside_goes_on s c refl) [
  | inl ends ↦ ends.1.1
  | inr stays ↦ absurd (false≢true (sym stays.0 ∙ end))
]

pub end_is_skipped : (c : ℕ) → IsEnd c → step default_config st.StartRecord c ≡ (st.StartRecord, act.Skip)
end_is_skipped c (inl lf) = subst (λ (b : ℕ). step default_config st.StartRecord b ≡ (st.StartRecord, act.Skip)) (sym lf) refl
end_is_skipped c (inr cr) = subst (λ (b : ℕ). step default_config st.StartRecord b ≡ (st.StartRecord, act.Skip)) (sym cr) refl

skipped_is_end : (s : State) (c : ℕ) → settled s ≡ st.StartRecord → settled (step default_config s c).0 ≡ st.StartRecord → IsEnd c
skipped_is_end s c starts between = elim (between_goes_on s c starts) [
  | inl begins ↦ absurd (not_both (step default_config s c).0 begins.1 between)
  | inr skips ↦ skips.0
]

-- a byte after which it stands between two records ends one or is skipped
pub between_is_end : (s : State) (c : ℕ) → settled (step default_config s c).0 ≡ st.StartRecord → IsEnd c
between_is_end st.StartRecord c between = skipped_is_end st.StartRecord c refl between
between_is_end st.AfterCr c between = skipped_is_end st.AfterCr c refl between
between_is_end st.InEscape c between = absurd (not_both st.InQuoted refl between)
between_is_end st.InComment c between = elim (cases_Bool (c == 10)) [
  | inl lf ↦ inl (eqb-true c 10 lf)
  | inr no_lf ↦ cc (rw no_lf at between)
]
between_is_end s c between = elim (inside_goes_on s c refl) [
  | inl ends ↦ ends.0
  | inr stays ↦ absurd (not_both (step default_config s c).0 stays.1 between)
]

-- the end of a text ends no record between two
pub between_ends_none : (s : State) → settled s ≡ st.StartRecord → ends_at_end s ≡ false
between_ends_none st.AfterCr between = refl
between_ends_none st.StartRecord between = refl
between_ends_none s between = cc

-- Labelled lines, one more at the end: what is due for them, and whether they are fine.
use Rattle.std.proofs.Common.{◌≡◌, ℕ, ◌+◌, ◌<◌, List, [], ◌∷◌, ◌++◌, length, take, get_or, Option, sym, ap, ◌∙◌, subst, arith, append-nil, append_assoc, length-append, below_more}
use Rattle.std.specs.Io.KnownBytes.{Appends}
use Rattle.std.proofs.KnownBytes.{Appends-nil, Appends-trans}
use Rattle.std.proofs.Math.Seq.{take-append_seam, take-append-add, get_or-append_seam}
use Rattle.std.proofs.Math.ListN.{get_or-append}
use Rattle.std.proofs.lemmas.List.{take-append-le}
use Rattle.sk_model.specs.Causes.{AppendsPart}
use Rattle.sk_model.specs.Missing.{Begins}
use Rattle.sk_model.proofs.Missing.{begins_append}
use Rattle.sk_report.specs.Parts.{AppendsPartAfter}
use Rattle.sk_label.specs.Rules.{Rules, IsFine, AreFine, due_from, due_so_far}
use Rattle.sk_label.specs.Goes.{WroteSoFar, WroteAll, WrotePartAt, WrotePartLast}
use Rattle.sk_label.specs.Stops.{Takes}

-- ---- the text that is due

pub due_from-append : (rules : Rules) (before xs ys : List (List ℕ)) → due_from rules before (xs ++ ys) ≡ due_from rules before xs ++ due_from rules (before ++ xs) ys
due_from-append rules before [] ys = ap (λ (l : List (List ℕ)). due_from rules l ys) (sym (append-nil before))
due_from-append rules before (x ∷ xs) ys =
    ap (λ (l : List ℕ). rules.due_at before x ++ l) (due_from-append rules (before ++ x ∷ []) xs ys)
    ∙ sym (append_assoc (rules.due_at before x) (due_from rules (before ++ x ∷ []) xs) (due_from rules ((before ++ x ∷ []) ++ xs) ys))
    ∙ ap (λ (l : List (List ℕ)). (rules.due_at before x ++ due_from rules (before ++ x ∷ []) xs) ++ due_from rules l ys) (append_assoc before (x ∷ []) xs)

-- one line more
pub due_so_far-more : (rules : Rules) (lines : List (List ℕ)) (line : List ℕ) → due_so_far rules (lines ++ line ∷ []) ≡ due_so_far rules lines ++ rules.due_at lines line
due_so_far-more rules lines line =
    due_from-append rules [] lines (line ∷ []) ∙ ap (λ (l : List ℕ). due_so_far rules lines ++ l) (append-nil (rules.due_at lines line))

-- what is due never falls back
pub due_so_far_begins : (rules : Rules) (xs ys : List (List ℕ)) → Begins (due_so_far rules xs) (due_so_far rules (xs ++ ys))
due_so_far_begins rules xs ys = (due_from rules xs ys, due_from-append rules [] xs ys)

-- ---- lines that are fine

pub nothing_is_fine : (rules : Rules) → AreFine rules []
nothing_is_fine rules n less = absurd (omega arith)

-- one line more
pub fine_more : (rules : Rules) (lines : List (List ℕ)) (line : List ℕ) → AreFine rules lines → IsFine rules lines line → AreFine rules (lines ++ line ∷ [])
fine_more rules lines line fine next n less = below_more Fine (length lines) below here n (omega (arith, length-append lines (line ∷ [])))
  where
    Fine : ℕ → Type 0
    Fine n = IsFine rules (take n (lines ++ line ∷ [])) (get_or (lines ++ line ∷ []) n [])

    below : (n : ℕ) → n < length lines → IsFine rules (take n (lines ++ line ∷ [])) (get_or (lines ++ line ∷ []) n [])
    below n less =
        subst (λ (l : List (List ℕ)). IsFine rules l (get_or (lines ++ line ∷ []) n [])) (sym (take-append-le n lines (line ∷ []) (omega arith)))
        (subst (λ (l : List ℕ). IsFine rules (take n lines) l) (sym (get_or-append lines (line ∷ []) [] n less)) (fine n less))

    here : IsFine rules (take (length lines) (lines ++ line ∷ [])) (get_or (lines ++ line ∷ []) (length lines) [])
    here =
        subst (λ (l : List (List ℕ)). IsFine rules l (get_or (lines ++ line ∷ []) (length lines) [])) (sym (take-append_seam lines (line ∷ [])))
        (subst (λ (l : List ℕ). IsFine rules lines l) (sym (get_or-append_seam lines line [] [])) next)

-- the first of them are so
pub fine_front : (rules : Rules) (lines more : List (List ℕ)) → AreFine rules (lines ++ more) → AreFine rules lines
fine_front rules lines more fine n below =
    subst (λ (l : List (List ℕ)). IsFine rules l (get_or lines n [])) (take-append-le n lines more (omega arith))
    (subst (λ (l : List ℕ). IsFine rules (take n (lines ++ more)) l) (get_or-append lines more [] n below) (fine n (omega (arith, length-append lines more))))

-- ---- what was written

pub wrote_nothing : (rules : Rules) (w : Option (List ℕ)) → WroteSoFar rules w w []
wrote_nothing rules w = record { fine = nothing_is_fine rules; written = Appends-nil w }

-- one line more
pub wrote_more : (rules : Rules) (Went : List (List ℕ) → Type 0) (a b c : Option (List ℕ)) (lines : List (List ℕ)) (line : List ℕ) → WroteSoFar rules a b lines → Takes rules Went b c lines line →
    WroteSoFar rules a c (lines ++ line ∷ [])
wrote_more rules Went a b c lines line wrote takes = record {
  fine = fine_more rules lines line wrote.fine takes.fine;
  written = subst (Appends a c) (sym (due_so_far-more rules lines line)) (Appends-trans a b c (due_so_far rules lines) (rules.due_at lines line) wrote.written takes.written);
}

-- of a text more a part
pub part_after : (before more : List ℕ) (a b c : Option (List ℕ)) → Appends a b before → AppendsPart b c more → AppendsPartAfter before a c (before ++ more)
part_after before more a b c written part = record {
  size = length before + part.0;
  begins = begins_append before more;
  least = omega arith;
  most = omega (arith, length-append before more);
  written = subst (Appends a c) (sym (take-append-add before more part.0)) (Appends-trans a b c before (take part.0 more) written part.2);
}

-- of what is due at one line more a part
pub wrote_part : (rules : Rules) (a b c : Option (List ℕ)) (lines : List (List ℕ)) (line : List ℕ) → WroteSoFar rules a b lines → IsFine rules lines line → AppendsPart b c (rules.due_at lines line) →
    WrotePartAt rules a c lines line
wrote_part rules a b c lines line wrote next part = record {
  fine = fine_more rules lines line wrote.fine next;
  written = subst (AppendsPartAfter (due_so_far rules lines) a c) (sym (due_so_far-more rules lines line)) (part_after (due_so_far rules lines) (rules.due_at lines line) a b c wrote.written part);
}

-- all that is due once they have ended
pub wrote_last : (rules : Rules) (a b c : Option (List ℕ)) (lines : List (List ℕ)) → WroteSoFar rules a b lines → Appends b c (rules.due_last lines) → WroteAll rules a c lines
wrote_last rules a b c lines wrote last = record {
  fine = wrote.fine;
  written = Appends-trans a b c (due_so_far rules lines) (rules.due_last lines) wrote.written last;
}

-- of that a part
pub wrote_part_last : (rules : Rules) (a b c : Option (List ℕ)) (lines : List (List ℕ)) → WroteSoFar rules a b lines → AppendsPart b c (rules.due_last lines) → WrotePartLast rules a c lines
wrote_part_last rules a b c lines wrote part = record {
  fine = wrote.fine;
  written = part_after (due_so_far rules lines) (rules.due_last lines) a b c wrote.written part;
}

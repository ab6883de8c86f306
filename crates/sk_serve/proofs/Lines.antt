-- Lines of sessions, one after another.
use Rattle.std.proofs.Common.{◌≡◌, ℕ, suc, ◌+◌, ◌<◌, List, [], ◌∷◌, ◌++◌, length, take, drop, get_or, refl, sym, ap, ◌∙◌, arith, append-nil, append_assoc}
use Rattle.std.proofs.lemmas.List.{take_more, take-append-drop, length-take-le, take_all}
use Rattle.sk_line.specs.declared.sessions.End.{End}
use Rattle.sk_serve.specs.Texts.{session_line, session_lines}

pub lines_append : (from : ℕ) (xs ys : List End) → session_lines from (xs ++ ys) ≡ session_lines from xs ++ session_lines (from + length xs) ys
unfolding session_lines
lines_append from [] ys = let here : from ≡ from + 0 = omega arith in ap (λ n. session_lines n ys) here
lines_append from (x ∷ xs) ys =
    let next : from + 1 + length xs ≡ from + suc (length xs) = omega arith in
    ap (λ l. session_line from x ++ l) (lines_append (from + 1) xs ys ∙ ap (λ n. session_lines (from + 1) xs ++ session_lines n ys) next)
    ∙ sym (append_assoc (session_line from x) (session_lines (from + 1) xs) (session_lines (from + suc (length xs)) ys))

-- the lines of the first sessions
abbrev pub lines_before : List End → ℕ → List ℕ
lines_before ends i = session_lines 0 (take i ends)

-- the lines after those of one more
abbrev pub lines_behind : List End → ℕ → List ℕ
lines_behind ends i = session_lines (i + 1) (drop (i + 1) ends)

pub before_none : (ends : List End) → lines_before ends 0 ≡ []
unfolding session_lines
before_none ends = refl

pub before_more : (ends : List End) (i : ℕ) (e : End) → i < length ends → e ≡ get_or ends i e → lines_before ends (i + 1) ≡ lines_before ends i ++ session_line i e
unfolding session_lines
before_more ends i e within read =
    let place : 0 + length (take i ends) ≡ i = omega (arith, length-take-le i ends (omega (arith, within))) in
    ap (λ l. session_lines 0 l) (take_more ends i e within ∙ ap (λ x. take i ends ++ x ∷ []) (sym read))
    ∙ lines_append 0 (take i ends) (e ∷ [])
    ∙ ap (λ l. lines_before ends i ++ l) (ap (λ n. session_line n e ++ []) place ∙ append-nil (session_line i e))

pub all_split : (ends : List End) (i : ℕ) (e : End) → i < length ends → e ≡ get_or ends i e → session_lines 0 ends ≡ lines_before ends i ++ (session_line i e ++ lines_behind ends i)
all_split ends i e within read =
    let place : 0 + length (take (i + 1) ends) ≡ i + 1 = omega (arith, length-take-le (i + 1) ends (omega (arith, within))) in
    ap (λ l. session_lines 0 l) (sym (take-append-drop (i + 1) ends))
    ∙ lines_append 0 (take (i + 1) ends) (drop (i + 1) ends)
    ∙ ap (λ n. lines_before ends (i + 1) ++ session_lines n (drop (i + 1) ends)) place
    ∙ ap (λ l. l ++ lines_behind ends i) (before_more ends i e within read)
    ∙ append_assoc (lines_before ends i) (session_line i e) (lines_behind ends i)

pub all_before : (ends : List End) (i : ℕ) → i ≡ length ends → lines_before ends i ≡ session_lines 0 ends
all_before ends i is = ap (λ l. session_lines 0 l) (take_all i ends (omega (arith, is)))

-- How the ends of lines are found, and lines made of them.
use Rattle.std.proofs.Common.{◌≡◌, ◌≢◌, ℕ, zero, suc, ◌+◌, ◌-◌, ◌<◌, ◌≤◌, List, [], ◌∷◌, ◌++◌, length, take, drop, map, length-take, take-take, set, get_or, refl, sym, ap, ◌∙◌, subst, arith, Bool, true, false, eqb, eqb-true, eq-eqb, true≢false, w64, ◌^◌, ⊎_elim}
use Rattle.std.specs.Int.{bit_at}
use Rattle.std.specs.Int.Count.{count_trailing_zeros}
use Rattle.std.proofs.lemmas.List.{take_more_set, take-set, take-map, get_or_past, drop_more, get_or-take, drop-set-lt}
use Rattle.std.proofs.Math.Seq.{take-set-lt}
use Rattle.std.proofs.lemmas.Bool.{cases_lt}
use Rattle.std.proofs.lemmas.Nat.Bits.{bit_at-trailing_zeros}
use Rattle.sk_lines.proofs.Places.{takes_lf}
use Rattle.sk_lines.specs.Marks.{IsFirstLf, TakesLf}
use Rattle.sk_lines.specs.Spans.{ends_of, FollowLfs, AreEnds, HoldsEnds, IsLine, AreLines}
use Rattle.sk_lines.specs.declared.spans.Span.{Span}

-- one LF more
pub follow_more : (bytes : List ℕ) (from at end : ℕ) (ends : List ℕ) → FollowLfs bytes from ends at → IsFirstLf bytes at end → FollowLfs bytes from (ends ++ end ∷ []) (end + 1)
unfolding FollowLfs
follow_more bytes from at end [] follow first = (subst (λ n. IsFirstLf bytes n end) (sym follow) first, refl)
follow_more bytes from at end (e ∷ ends) follow first = (follow.0, follow_more bytes (e + 1) at end ends follow.1 first)

pub holds_more : (bytes : List ℕ) (from scanned marks end rest : ℕ) (ends : List ℕ) (h : HoldsEnds bytes from ends scanned marks) → TakesLf bytes h.0 scanned end rest → HoldsEnds bytes from (ends ++ end ∷ []) scanned rest
holds_more bytes from scanned marks end rest ends h takes = (end + 1, follow_more bytes from h.0 end ends h.1 takes.first, takes.known)

pub no_ends : (bytes : List ℕ) (from : ℕ) → FollowLfs bytes from [] from
unfolding FollowLfs
no_ends bytes from = refl

pub no_lines : (bytes : List ℕ) (limit from : ℕ) → AreLines bytes limit from [] from
unfolding AreLines
no_lines bytes limit from = refl

-- one line more
pub lines_more : (bytes : List ℕ) (limit from at end : ℕ) (spans : List Span) (span : Span) → AreLines bytes limit from spans at → IsLine bytes limit at end span → AreLines bytes limit from (spans ++ span ∷ []) (end + 1)
unfolding AreLines
lines_more bytes limit from at end [] span lines line = (end, subst (λ n. IsLine bytes limit n end span) (sym lines) line, refl)
lines_more bytes limit from at end (s ∷ spans) span lines line = (lines.0, lines.1, lines_more bytes limit (lines.0 + 1) at end spans span lines.2 line)

ends_append : (xs : List Span) (x : Span) → map (λ (s : Span). s.to) (xs ++ x ∷ []) ≡ map (λ (s : Span). s.to) xs ++ x.to ∷ []
ends_append [] x = refl
ends_append (s ∷ xs) x = ap (λ (l : List ℕ). s.to ∷ l) (ends_append xs x)

ends_put : (count : ℕ) (spans : List Span) (span : Span) → count < length spans → ends_of (count + 1) (set spans count span) ≡ ends_of count spans ++ span.to ∷ []
ends_put count spans span within = ap (map (λ (s : Span). s.to)) (take_more_set spans count span within) ∙ ends_append (take count spans) span

ends_kept : (count : ℕ) (spans : List Span) (span : Span) → ends_of count (set spans count span) ≡ ends_of count spans
ends_kept count spans span = ap (map (λ (s : Span). s.to)) (take-set spans count span)

-- a mark is noted where there is one
pub put_holds : (bytes : List ℕ) (from count scanned marks mark rest more : ℕ) (spans : List Span) (span : Span) → count < length spans → 64 ≤ scanned → span.to ≡ scanned - 64 + mark
    → (marks ≡ 0 → more ≡ 0) → (marks ≢ 0 → more ≡ 1) → (marks ≢ 0 → bit_at marks mark ≡ 1) → ((j : ℕ) → j < mark → bit_at marks j ≡ 0)
    → ((j : ℕ) → j < 64 → j ≢ mark → bit_at rest j ≡ bit_at marks j) → bit_at rest mark ≡ 0 → ((j : ℕ) → bit_at rest j ≡ 1 → bit_at marks j ≡ 1) → (marks ≡ 0 → rest ≡ 0)
    → HoldsEnds bytes from (ends_of count spans) scanned marks → HoldsEnds bytes from (ends_of (count + more) (set spans count span)) scanned rest
put_holds bytes from count scanned marks mark rest more spans span within high place zero_more one_more set_ below kept cleared no_more none h = go (eqb marks 0) refl
  where
    go : (b : Bool) → eqb marks 0 ≡ b → HoldsEnds bytes from (ends_of (count + more) (set spans count span)) scanned rest
    go true is =
        let zero_marks : marks ≡ 0 = eqb-true marks 0 is in
        let no : more ≡ 0 = zero_more zero_marks in
        let at : count + more ≡ count = omega arith in
        subst (λ n. HoldsEnds bytes from (ends_of n (set spans count span)) scanned rest) (sym at)
        (subst (λ es. HoldsEnds bytes from es scanned rest) (sym (ends_kept count spans span))
        (subst (λ m. HoldsEnds bytes from (ends_of count spans) scanned m) (zero_marks ∙ sym (none zero_marks)) h))
    go false is =
        let some : marks ≢ 0 = λ z. true≢false (sym (eq-eqb marks 0 z) ∙ is) in
        let one : more ≡ 1 = one_more some in
        let at : count + more ≡ count + 1 = omega arith in
        let takes = takes_lf bytes h.0 scanned marks rest mark span.to (place ∙ omega arith) h.2 (set_ some) below kept cleared no_more in
        subst (λ n. HoldsEnds bytes from (ends_of n (set spans count span)) scanned rest) (sym at)
        (subst (λ es. HoldsEnds bytes from es scanned rest) (sym (ends_put count spans span within))
        (holds_more bytes from scanned marks span.to rest (ends_of count spans) h takes))

-- the lowest mark, with one at the last place
pub lowest_beside : (marks : ℕ) → marks < 2 ^ 64 → (all p : ℕ) → ((i : ℕ) → i ≢ 63 → bit_at all i ≡ bit_at marks i) → p < 64 → bit_at all p ≡ 1 → ((k : ℕ) → k < p → bit_at all k ≡ 0)
    → (marks ≢ 0 → bit_at marks p ≡ 1) × ((k : ℕ) → k < p → bit_at marks k ≡ 0)
lowest_beside marks fits all p same small is none = (set_there, below)
  where
    below : (k : ℕ) → k < p → bit_at marks k ≡ 0
    below k less = sym (same k (λ e. omega arith)) ∙ none k less

    set_there : marks ≢ 0 → bit_at marks p ≡ 1
    set_there some =
        let h = bit_at-trailing_zeros w64 marks (omega (arith, some)) fits in
        let q = count_trailing_zeros 64 marks in
        ⊎_elim
        (λ (less : q < p). absurd (omega (arith, h.1, below q less)))
        (λ (most : p ≤ q). ⊎_elim
        (λ (more : p < q). let low : p ≢ 63 = λ e. omega (arith, h.0) in sym (same p low) ∙ is)
        (λ (least : q ≤ p). let e : q ≡ p = omega arith in subst (λ n. bit_at marks n ≡ 1) e h.1)
        (cases_lt p q))
        (cases_lt q p)

-- what four notes and those that follow come to
pub none_known : (bytes : List ℕ) (from scanned marks : ℕ) (ends : List ℕ) → marks ≡ 0 → HoldsEnds bytes from ends scanned marks → HoldsEnds bytes from ends scanned 0
none_known bytes from scanned marks ends none h = subst (HoldsEnds bytes from ends scanned) none h

ends_in_front : (bytes : List ℕ) (from at m : ℕ) (ends : List ℕ) → FollowLfs bytes from ends at → AreEnds bytes from (take m ends)
unfolding FollowLfs
ends_in_front bytes from at zero ends follow = (from, refl)
ends_in_front bytes from at (suc m) [] follow = (from, refl)
ends_in_front bytes from at (suc m) (end ∷ ends) follow = let later = ends_in_front bytes (end + 1) at m ends follow.1 in (later.0, (follow.0, later.1))

-- the first of some ends
pub fewer_ends : (bytes : List ℕ) (from m n : ℕ) (spans : List Span) → m ≤ n → AreEnds bytes from (ends_of n spans) → AreEnds bytes from (ends_of m spans)
fewer_ends bytes from m n spans few ends =
    let same : take m (ends_of n spans) ≡ ends_of m spans = take-map (λ (s : Span). s.to) m (take n spans) ∙ ap (map (λ (s : Span). s.to)) (take-take m n spans few) in
    subst (AreEnds bytes from) same (ends_in_front bytes from ends.0 m (ends_of n spans) ends.1)

-- ---- lines

-- a place in a text holds a byte other than 0
pub lf_within : (bytes : List ℕ) (at end : ℕ) → IsFirstLf bytes at end → end < length bytes
lf_within bytes at end first = ⊎_elim (λ (inside : end < length bytes). inside) (λ (past : length bytes ≤ end). absurd (omega (arith, first.lf, get_or_past bytes end 0 past))) (cases_lt end (length bytes))

-- the next of some ends
pub next_end : (spans : List Span) (i count : ℕ) (d : Span) → i < count → count ≤ length spans → map (λ (s : Span). s.to) (drop i (take count spans)) ≡ (get_or spans i d).to ∷ map (λ (s : Span). s.to) (drop (i + 1) (take count spans))
next_end spans i count d less few =
    let size : i < length (take count spans) = omega (arith, length-take count spans) in
    ap (map (λ (s : Span). s.to)) (drop_more (take count spans) i d size ∙ ap (λ (s : Span). s ∷ drop (i + 1) (take count spans)) (get_or-take count spans i d less))

pub later_ends : (spans : List Span) (i count : ℕ) (s : Span) → i < count → map (λ (s : Span). s.to) (drop (i + 1) (take count (set spans i s))) ≡ map (λ (s : Span). s.to) (drop (i + 1) (take count spans))
later_ends spans i count s less = ap (map (λ (s : Span). s.to)) (ap (drop (i + 1)) (take-set-lt count spans i s less) ∙ drop-set-lt (i + 1) (take count spans) i s (omega arith))

pub first_end : (bytes : List ℕ) (at end : ℕ) (ends more : List ℕ) → ends ≡ end ∷ more → AreEnds bytes at ends → IsFirstLf bytes at end × AreEnds bytes (end + 1) more
unfolding FollowLfs
first_end bytes at end ends more is (last, follow) = let f = subst (λ es. FollowLfs bytes at es last) is follow in (f.0, (last, f.1))

-- where no end was found, nothing was passed
pub none_passed : (bytes : List ℕ) (from at : ℕ) (ends : List ℕ) → ends ≡ [] → FollowLfs bytes from ends at → from ≡ at
unfolding FollowLfs
none_passed bytes from at [] is follow = follow
none_passed bytes from at (end ∷ ends) is follow = absurd (cc)

-- nor where no line was made
pub none_made : (bytes : List ℕ) (limit from at : ℕ) (spans : List Span) → spans ≡ [] → AreLines bytes limit from spans at → from ≡ at
unfolding AreLines
none_made bytes limit from at [] is lines = lines
none_made bytes limit from at (span ∷ spans) is lines = absurd (cc)

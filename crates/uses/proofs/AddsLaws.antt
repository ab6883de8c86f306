-- Adds of lines, one after another, and the calls on two desks.
use Rattle.std.proofs.Common.{◌≡◌, ℕ, zero, suc, ◌<◌, List, [], ◌∷◌, ◌++◌, length, flat_map, refl, sym, ap, subst, ◌∙◌, arith, append-nil, length-append}
use Rattle.std.specs.List.{range_with_len}
use Rattle.sk_model.specs.Sketch.{packed_of}
use Rattle.sk_theta.specs.Sizes.{Sizes}
use Rattle.sk_tenant.specs.declared.answers.Add.{Add}
use Rattle.sk_tenant.specs.Calls.{Call, Adds, items_taken}
use Rattle.sk_tenant.specs.Desks.{DeskState, calls_for}
use Rattle.sk_tenant.specs.Hosts.{TenantsState, IsNewDesk, AreNewDesks, AreAskedFor, WasUsed}
use Rattle.uses.specs.Adds.{adds_of}

-- one line more, with its answer
pub adds_more : (lines : List (ℕ × ℕ)) (answers : List Add) (line : ℕ × ℕ) (answer : Add) → length answers ≡ length lines
    → adds_of (lines ++ line ∷ []) (answers ++ answer ∷ []) ≡ adds_of lines answers ++ (line.0, Adds line.1 answer) ∷ []
adds_more [] [] line answer same = refl
adds_more [] (a ∷ answers) line answer same = absurd (omega (arith, same))
adds_more (l ∷ lines) [] line answer same = absurd (omega (arith, same))
adds_more (l ∷ lines) (a ∷ answers) line answer same = ap (λ calls. (l.0, Adds l.1 a) ∷ calls) (adds_more lines answers line answer (omega (arith, same)))

-- ---- two desks

abbrev pub of_two : List (ℕ × Call) → List (ℕ × Call) → ℕ → List (ℕ × Call)
of_two first second zero = first
of_two first second (suc i) = second

pub both_used : (opened hosts : TenantsState) (shape : Sizes) (quota : ℕ) (first second : List (ℕ × Call)) → hosts.n ≡ 2 → WasUsed opened shape quota hosts 0 first → WasUsed opened shape quota hosts 1 second
    → (i : ℕ) → i < hosts.n → WasUsed opened shape quota hosts i (of_two first second i)
both_used opened hosts shape quota first second two a b zero within = a
both_used opened hosts shape quota first second two a b (suc zero) within = b
both_used opened hosts shape quota first second two a b (suc (suc i)) within = absurd (omega (arith, two, within))

pub items_of_two : (n t : ℕ) (first second : List (ℕ × Call)) → n ≡ 2
    → flat_map (λ i. items_taken (calls_for t (of_two first second i))) (range_with_len 0 n) ≡ items_taken (calls_for t first) ++ items_taken (calls_for t second)
items_of_two n t first second two =
    ap (λ m. flat_map (λ i. items_taken (calls_for t (of_two first second i))) (range_with_len 0 m)) two
    ∙ ap (λ l. items_taken (calls_for t first) ++ l) (append-nil (items_taken (calls_for t second)))

-- the desks that were taken from the end
pub two_desks : (desks one none : List DeskState) (first last : DeskState) → desks ≡ one ++ last ∷ [] → one ≡ none ++ first ∷ [] → length desks ≡ 2 → desks ≡ first ∷ last ∷ []
two_desks desks one [] first last is was two = is ∙ ap (λ l. l ++ last ∷ []) was
two_desks desks one (x ∷ none) first last is was two =
    absurd (omega (arith, two, ap length is, ap length was, length-append one (last ∷ []), length-append (x ∷ none) (first ∷ [])))

pub new_desks : (hosts : TenantsState) (shape : Sizes) (quota : ℕ) (desks : List DeskState) (first last : DeskState) → desks ≡ first ∷ last ∷ [] → AreNewDesks hosts shape quota desks → IsNewDesk hosts shape quota 0 first × IsNewDesk hosts shape quota 1 last
new_desks hosts shape quota desks first last are new =
    let both : AreNewDesks hosts shape quota (first ∷ last ∷ []) = subst (AreNewDesks hosts shape quota) are new in
    (both 0 first (omega arith), both 1 last (omega arith))

-- the desks drained, and tenant t asked: its word, by the law
pub word_of_two : (opened hosts hosts' : TenantsState) (shape : Sizes) (quota t word : ℕ) (first second : List (ℕ × Call))
    → ((calls : ℕ → List (ℕ × Call)) → shape.k ≡ hosts.k → ((i : ℕ) → i < hosts.n → WasUsed opened shape quota hosts i (calls i)) → AreAskedFor hosts t word hosts'
    → word ≡ packed_of hosts.k (flat_map (λ i. items_taken (calls_for t (calls i))) (range_with_len 0 hosts.n)))
    → hosts.k ≡ shape.k → hosts.n ≡ 2 → WasUsed opened shape quota hosts 0 first → WasUsed opened shape quota hosts 1 second → AreAskedFor hosts t word hosts'
    → word ≡ packed_of shape.k (items_taken (calls_for t first) ++ items_taken (calls_for t second))
word_of_two opened hosts hosts' shape quota t word first second law k two a b asked =
    law (of_two first second) (sym k) (both_used opened hosts shape quota first second two a b) asked
    ∙ ap (λ l. packed_of hosts.k l) (items_of_two hosts.n t first second two)
    ∙ ap (λ m. packed_of m (items_taken (calls_for t first) ++ items_taken (calls_for t second))) k

-- Each command decides of a text: one text is due for it, or it is refused in one way.
use Rattle.std.proofs.Common.{◌≡◌, ◌⊎◌, inl, inr, ℕ, suc, ◌-◌, ◌<◌, ◌≤◌, List, [], ◌∷◌, ◌++◌, length, take, drop, get_or, sym, ap, ◌∙◌, subst, arith, length-take}
use Rattle.std.proofs.lemmas.List.{get_or-take, take-take, take-append-drop, take_all}
use Rattle.std.proofs.Math.Seq.{drop-cons}
use Rattle.std.proofs.lemmas.Bool.{cases_lt}
use Rattle.sk_model.specs.Limits.{line_limit}
use Rattle.sk_model.specs.Lines.{lines_of, AreWithin}
use Rattle.sk_cli.specs.Behaviour.{IsDecided, WritesOneText}
use Rattle.sk_cli.specs.Lines.{IsLongLine, line_at, lines_before}
use Rattle.sk_cli.specs.commands.About.{about}
use Rattle.sk_cli.specs.commands.Hash.{hashing}
use Rattle.sk_cli.specs.commands.Hash as hash
use Rattle.sk_cli.specs.commands.Make.{making}
use Rattle.sk_cli.specs.commands.Replay.{IsAnswered, IsSchedule, IsBadLine, replaying}
use Rattle.sk_cli.specs.commands.Replay as replay
use Rattle.sk_cli.specs.declared.commands.hash.HashPlan.{HashPlan}
use Rattle.sk_cli.specs.declared.commands.make.MakePlan.{MakePlan}
use Rattle.sk_cli.specs.declared.fault.Fault.{Fault}
use Rattle.sk_cli.specs.declared.fault.Fault.TheVariants as fault
use Rattle.sk_cli.proofs.Schedules.{no_more_is_last, schedule_before, answered_once}

-- ---- lines that are too long

pub no_long : (n : ℕ) (lines : List (List ℕ)) → AreWithin line_limit lines → IsLongLine n lines → ⊥
no_long n lines within long =
    let short : length (get_or lines (n - 1) []) ≤ line_limit = within (n - 1) [] long.1.0 in
    absurd (omega (arith, short, long.1.2))

-- the line is not longer than those that are within the limit
pub long_behind : (n j : ℕ) (lines : List (List ℕ)) → AreWithin line_limit (take j lines) → IsLongLine n lines → j < n
long_behind n j lines within long = by_order (cases_lt j n)
  where
    by_order : (j < n) ⊎ (n ≤ j) → j < n
    by_order (inl less) = less
    by_order (inr most) =
        let below : n - 1 < length (take j lines) = omega (arith, length-take j lines, long.1.0, long.0) in
        let here : get_or (take j lines) (n - 1) [] ≡ get_or lines (n - 1) [] = get_or-take j lines (n - 1) [] (omega (arith, most, long.0)) in
        let short : length (get_or lines (n - 1) []) ≤ line_limit = subst (λ (l : List ℕ). length l ≤ line_limit) here (within (n - 1) [] below) in
        absurd (omega (arith, short, long.1.2))

pub one_long : (n m : ℕ) (lines : List (List ℕ)) → IsLongLine n lines → IsLongLine m lines → n ≡ m
one_long n m lines one two =
    let before = long_behind n (m - 1) lines two.1.1 one in
    let behind = long_behind m (n - 1) lines one.1.1 two in
    omega (arith, before, behind, one.0, two.0)

-- ---- hash

hash_once : (f g : Fault) (lines : List (List ℕ)) → hash.IsRefusedBy f lines → hash.IsRefusedBy g lines → f ≡ g
hash_once (fault.LongLine n) (fault.LongLine m) lines one two = ap (λ (l : ℕ). fault.LongLine l) (one_long n m lines one two)
hash_once (fault.LongLine n) g lines one two = absurd two
hash_once f g lines one two = absurd one

hash_apart : (f : Fault) (lines : List (List ℕ)) → AreWithin line_limit lines → hash.IsRefusedBy f lines → ⊥
hash_apart (fault.LongLine n) lines within refused = no_long n lines within refused
hash_apart f lines within refused = refused

pub hash_decides : (plan : HashPlan) → IsDecided (hashing plan)
hash_decides plan = record { refused = λ f g text one two. hash_once f g (lines_of text) one two; apart = λ f text one two. hash_apart f (lines_of text) one two }

pub one_hashes : (plan : HashPlan) → WritesOneText (hashing plan)
one_hashes plan = record {
  due = λ from to to' text due other one two. one ∙ sym two;
  refused = λ from to to' f text due other one two. one ∙ sym two;
}

-- ---- replay

-- a text in two parts, at line n
at_line : (n : ℕ) (lines : List (List ℕ)) → 1 ≤ n → n ≤ length lines → take (n - 1) lines ++ line_at n lines ∷ drop n lines ≡ lines
at_line n lines from to =
    let here : drop (n - 1) lines ≡ get_or lines (n - 1) [] ∷ drop (suc (n - 1)) lines = drop-cons lines (n - 1) [] (omega (arith, from, to)) in
    let next : suc (n - 1) ≡ n = omega (arith, from) in
    ap (λ (l : List (List ℕ)). take (n - 1) lines ++ l) (sym (here ∙ ap (λ (m : ℕ). get_or lines (n - 1) [] ∷ drop m lines) next)) ∙ take-append-drop (n - 1) lines

-- no schedule is answered beyond a line that is refused
not_beyond : (n j : ℕ) (lines : List (List ℕ)) (due : List ℕ) → IsBadLine n lines → n ≤ j → j ≤ length lines → IsAnswered (take j lines) due → ⊥
not_beyond n j lines due bad near all answered =
    let some : n ≤ length (take j lines) = omega (arith, length-take j lines, near, all) in
    let split = at_line n (take j lines) bad.from some in
    let front : take (n - 1) (take j lines) ≡ take (n - 1) lines = take-take (n - 1) j lines (omega (arith, near)) in
    let here : get_or (take j lines) (n - 1) [] ≡ get_or lines (n - 1) [] = get_or-take j lines (n - 1) [] (omega (arith, near, bad.from)) in
    no_more_is_last (take (n - 1) (take j lines)) (get_or (take j lines) (n - 1) []) (drop n (take j lines)) due
    (subst (λ (l : List (List ℕ)). replay.IsNoMore l (get_or (take j lines) (n - 1) [])) (sym front) (subst (λ (l : List ℕ). replay.IsNoMore (take (n - 1) lines) l) (sym here) bad.bad))
    (subst (λ (l : List (List ℕ)). IsAnswered l due) (sym split) answered)

-- a schedule that goes up to line m has no line before it that is refused
not_before : (n m : ℕ) (lines : List (List ℕ)) → IsBadLine n lines → m - 1 ≤ length lines → IsSchedule (take (m - 1) lines) → m ≤ n
not_before n m lines bad to schedule = by_order (cases_lt n m)
  where
    by_order : (n < m) ⊎ (m ≤ n) → m ≤ n
    by_order (inl less) = absurd (not_beyond n (m - 1) lines schedule.0 bad (omega (arith, less)) to schedule.1)
    by_order (inr most) = most

one_bad : (n m : ℕ) (lines : List (List ℕ)) → IsBadLine n lines → IsBadLine m lines → n ≡ m
one_bad n m lines one two =
    let most = not_before n m lines one (omega (arith, two.to)) (schedule_before (take (m - 1) lines) (line_at m lines) two.bad) in
    let least = not_before m n lines two (omega (arith, one.to)) (schedule_before (take (n - 1) lines) (line_at n lines) one.bad) in
    omega (arith, most, least)

bad_or_long : (n m : ℕ) (lines : List (List ℕ)) → IsBadLine n lines → IsLongLine m lines → IsSchedule (take (m - 1) lines) → ⊥
bad_or_long n m lines bad long schedule =
    let behind = long_behind m n lines bad.within long in
    let most = not_before n m lines bad (omega (arith, long.1.0)) schedule in
    absurd (omega (arith, behind, most))

replay_once : (f g : Fault) (lines : List (List ℕ)) → replay.IsRefusedBy f lines → replay.IsRefusedBy g lines → f ≡ g
replay_once (fault.LongLine n) (fault.LongLine m) lines one two = ap (λ (l : ℕ). fault.LongLine l) (one_long n m lines one.0 two.0)
replay_once (fault.LongLine n) (fault.BadEvent m) lines one two = absurd (bad_or_long m n lines two one.0 one.1)
replay_once (fault.LongLine n) g lines one two = absurd two
replay_once (fault.BadEvent n) (fault.LongLine m) lines one two = absurd (bad_or_long n m lines one two.0 two.1)
replay_once (fault.BadEvent n) (fault.BadEvent m) lines one two = ap (λ (l : ℕ). fault.BadEvent l) (one_bad n m lines one two)
replay_once (fault.BadEvent n) g lines one two = absurd two
replay_once f g lines one two = absurd one

replay_apart : (f : Fault) (lines : List (List ℕ)) → AreWithin line_limit lines → IsSchedule lines → 0 < length lines → replay.IsRefusedBy f lines → ⊥
replay_apart (fault.LongLine n) lines within schedule some refused = no_long n lines within refused.0
replay_apart (fault.BadEvent n) lines within schedule some refused =
    not_beyond n (length lines) lines schedule.0 refused (omega (arith, refused.to, some)) (omega arith)
    (subst (λ (l : List (List ℕ)). IsAnswered l schedule.0) (sym (take_all (length lines) lines (omega arith))) schedule.1)
replay_apart f lines within schedule some refused = refused

pub replay_decides : IsDecided replaying
replay_decides = record {
  refused = λ f g text one two. replay_once f g (lines_of text) one two;
  apart = λ f text one two. replay_apart f (lines_of text) one.0 one.1 one.2 two;
}

pub one_answers : WritesOneText replaying
one_answers = record {
  due = λ from to to' text due other one two. answered_once (lines_of text) due other one two;
  refused = λ from to to' f text due other one two. answered_once (lines_before f (lines_of text)) due other one two;
}

-- ---- a text about the program

pub about_decides : (page : List ℕ) → IsDecided (about page)
about_decides page = record { refused = λ f g text one two. absurd one; apart = λ f text one two. absurd two }

-- ---- a count of made lines

pub make_decides : (plan : MakePlan) → IsDecided (making plan)
make_decides plan = record { refused = λ f g text one two. absurd one; apart = λ f text one two. absurd two }

pub one_report : (plan : MakePlan) → WritesOneText (making plan)
one_report plan = record { due = λ from to to' text due other one two. one ∙ sym two; refused = λ from to to' f text due other one two. absurd one }

-- An item that is left out of an interval.
use Rattle.std.proofs.Common.{◌≡◌, ℕ, ◌-◌, ◌≤◌, List, ◌∷◌, ◌++◌, length, nat_lt, if◌then◌else◌, slice_index, sym, ap, ◌∙◌, append_assoc}
use Rattle.sk_model.specs.Sketch.{k_smallest, theta_of}
use Rattle.sk_model.specs.Width.{item_end, IsItem}
use Rattle.sk_model.proofs.Sketch.{either_first, idle_changes_nothing}
use Rattle.sk_theta.specs.declared.reply.Reply.{Reply}
use Rattle.sk_window.specs.Intervals.{IsReplyOf}

same_kept : (k item : ℕ) (earlier list more rest later : List ℕ) → IsItem item → theta_of k list ≤ item
    → k_smallest k (earlier ++ (((list ++ more) ++ item ∷ rest) ++ later)) ≡ k_smallest k (earlier ++ (((list ++ more) ++ rest) ++ later))
same_kept k item earlier list more rest later small past =
    let before = list ++ more in
    let with_it : ((before ++ item ∷ rest) ++ later) ++ earlier ≡ before ++ item ∷ (rest ++ (later ++ earlier)) =
    append_assoc (before ++ item ∷ rest) later earlier ∙ append_assoc before (item ∷ rest) (later ++ earlier) in
    let without : ((before ++ rest) ++ later) ++ earlier ≡ before ++ (rest ++ (later ++ earlier)) =
    append_assoc (before ++ rest) later earlier ∙ append_assoc before rest (later ++ earlier) in
    either_first k earlier ((before ++ item ∷ rest) ++ later)
    ∙ ap (λ (l : List ℕ). k_smallest k l) with_it
    ∙ idle_changes_nothing k item list more (rest ++ (later ++ earlier)) small past
    ∙ ap (λ (l : List ℕ). k_smallest k l) (sym without)
    ∙ sym (either_first k earlier ((before ++ rest) ++ later))

pub no_reply : (k item : ℕ) (earlier list more rest later : List ℕ) (reply : Reply) → IsItem item → theta_of k list ≤ item
    → IsReplyOf k (earlier ++ (((list ++ more) ++ item ∷ rest) ++ later)) reply → IsReplyOf k (earlier ++ (((list ++ more) ++ rest) ++ later)) reply
no_reply k item earlier list more rest later reply small past is =
    let same = same_kept k item earlier list more rest later small past in
    let theta : List ℕ → ℕ = λ kept. if nat_lt (length kept) k then item_end else slice_index kept (k - 1) in
    record { count_is = is.count_is ∙ ap (λ (kept : List ℕ). length kept) same; theta_is = is.theta_is ∙ ap theta same }

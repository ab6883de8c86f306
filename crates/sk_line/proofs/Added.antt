-- What answered lines add up to.
use Rattle.std.proofs.Common.{◌≡◌, inl, inr, ℕ, ◌+◌, ◌≤◌, nat_lt, false, All, List, [], ◌∷◌, ◌++◌, length, sym, ap, ◌∙◌, subst, arith, append-nil, append_assoc, length-append}
use Rattle.std.proofs.lemmas.Bool.Decides.{nat_tests}
use Rattle.std.proofs.lemmas.List.Elements.{All-nil, All-cons}
use Rattle.sk_compose.specs.Numbers.{k_of}
use Rattle.sk_compose.proofs.Kept.{one_kept, one_dropped}
use Rattle.sk_model.specs.Entries.{entries_by, items_of_entries}
use Rattle.sk_model.specs.Sketch.{theta_of}
use Rattle.sk_model.proofs.Entries.{entries_by_append}
use Rattle.sk_hub.specs.Updaters.{UpdaterState, handed_of, base_of, kept_of}
use Rattle.sk_hub.specs.Calls.{GoesOn}
use Rattle.sk_hub.proofs.Calls.{goes_trans, goes_same, takes_none, takes_trans, none_then_takes}
use Rattle.sk_theta.specs.Sizes.{Sizes}
use Rattle.sk_line.specs.Pumps.{IsPumped}
use Rattle.sk_line.specs.Requests.{client_request, added_item}
use Rattle.sk_line.specs.Serving.{Answered, AnswersLine, AnswersEach, AnswersRequest, IsHelped, item_kept, items_kept, counted_on, kept_since, answered_busy, KeepsItem, DropsItem, item_offered, items_offered, theta_keeps, theta_hint, TakesOffered}
use Rattle.sk_line.specs.declared.answers.Answer.{Answer}
use Rattle.sk_line.specs.declared.answers.Answer.TheVariants as answer
use Rattle.sk_line.specs.declared.requests.Request.{Request}
use Rattle.sk_line.specs.declared.requests.Request.TheVariants as request
use Rattle.sk_line.proofs.Updaters.{none_pumped, does_go}

-- ---- what was kept

line_goes : (shape : Sizes) (u : UpdaterState) (t : Answered) (u' : UpdaterState) → AnswersLine shape u t u' → GoesOn u u' × (kept_of u' ≡ kept_of u ++ item_kept shape.seed t.line t.answer)
line_goes shape u t u' takes =
    let none = none_pumped u takes.pumped takes.pump in
    let does = does_go shape (client_request t.line) t.line t.answer takes.pumped u' takes.does in
    (goes_trans u takes.pumped u' none.goes does.0, does.1 ∙ ap (λ (l : List ℕ). l ++ item_kept shape.seed t.line t.answer) none.kept)

pub answers_keep : (shape : Sizes) (u : UpdaterState) (answered : List Answered) (u' : UpdaterState) → AnswersEach shape u answered u' → GoesOn u u' × (kept_of u' ≡ kept_of u ++ items_kept shape.seed answered)
unfolding AnswersEach
answers_keep shape u [] u' same = (goes_same u u' same, ap kept_of same ∙ sym (append-nil (kept_of u)))
answers_keep shape u (t ∷ answered) u' each =
    let first = line_goes shape u t each.0 each.1 in
    let then = answers_keep shape each.0 answered u' each.2 in (
      goes_trans u each.0 u' first.0 then.0,
      then.1 ∙ ap (λ (l : List ℕ). l ++ items_kept shape.seed answered) first.1 ∙ append_assoc (kept_of u) (item_kept shape.seed t.line t.answer) (items_kept shape.seed answered),
    )

-- ---- what may be busy

-- how many of its own items are in the list that it filters by
abbrev based : UpdaterState → ℕ
based u = length (entries_by u.number (base_of u))

-- no more than n items that were kept are behind that list
abbrev AreBehind : ℕ → UpdaterState → Type 0
AreBehind n u = length (kept_of u) ≤ n + based u

based_more : (u u' : UpdaterState) → GoesOn u u' → based u ≤ based u'
based_more u u' goes =
    let rest = goes.base.0 in
    let all : length (entries_by u'.number (base_of u')) ≡ length (entries_by u.number (base_of u ++ rest)) = cc in
    omega (arith, all, ap length (entries_by_append u.number (base_of u) rest), length-append (entries_by u.number (base_of u)) (entries_by u.number rest))

kept_behind : (n : ℕ) (u u' : UpdaterState) → GoesOn u u' → kept_of u' ≡ kept_of u ++ [] → AreBehind n u → AreBehind n u'
kept_behind n u u' goes kept old = omega (arith, ap length kept, length-append (kept_of u) [], based_more u u' goes, old)

does_behind : (shape : Sizes) (r : Request) (line : List ℕ) (a : Answer) (n : ℕ) (u u' : UpdaterState) → AnswersRequest shape r line a u u' → AreBehind n u → AreBehind (counted_on n a) u'
does_behind shape r line answer.Kept n u u' d old =
    let go = does_go shape r line answer.Kept u u' d in omega (arith, ap length go.1, length-append (kept_of u) (added_item shape.seed line ∷ []), based_more u u' go.0, old)
does_behind shape request.Sync line answer.Synced n u u' d old =
    let all : length (kept_of u') ≡ length (entries_by u'.number (base_of u')) = ap length (d.goes.kept ∙ sym d.based) ∙ ap (λ (i : ℕ). length (entries_by i (base_of u'))) (sym d.goes.goes.number) in omega (arith, all)
does_behind shape request.Add line answer.Synced n u u' d old = absurd d
does_behind shape request.Ask line answer.Synced n u u' d old = absurd d
does_behind shape request.Quit line answer.Synced n u u' d old = absurd d
does_behind shape request.Bad line answer.Synced n u u' d old = absurd d
does_behind shape r line answer.Filtered n u u' d old = let go = does_go shape r line answer.Filtered u u' d in kept_behind n u u' go.0 go.1 old
does_behind shape r line answer.Busy n u u' d old = let go = does_go shape r line answer.Busy u u' d in kept_behind n u u' go.0 go.1 old
does_behind shape r line (answer.Estimate x y) n u u' d old = let go = does_go shape r line (answer.Estimate x y) u u' d in kept_behind n u u' go.0 go.1 old
does_behind shape r line answer.Bad n u u' d old = let go = does_go shape r line answer.Bad u u' d in kept_behind n u u' go.0 go.1 old

pumped_behind : (n : ℕ) (u u' : UpdaterState) → IsPumped u u' → AreBehind n u → AreBehind n u'
pumped_behind n u u' pump old = let none = none_pumped u u' pump in kept_behind n u u' none.goes (none.kept ∙ sym (append-nil (kept_of u))) old

answers_behind : (shape : Sizes) (n : ℕ) (u : UpdaterState) (answered : List Answered) (u' : UpdaterState) → AnswersEach shape u answered u' → AreBehind n u → AreBehind (kept_since n answered) u'
unfolding AnswersEach
answers_behind shape n u [] u' same old = subst (AreBehind n) (sym same) old
answers_behind shape n u (t ∷ answered) u' each old =
    let takes = each.1 in
    answers_behind shape (counted_on n t.answer) each.0 answered u' each.2
    (does_behind shape (client_request t.line) t.line t.answer n takes.pumped each.0 takes.does (pumped_behind n u takes.pumped takes.pump old))

busy_add : (shape : Sizes) (r : Request) (line : List ℕ) (n : ℕ) (u u' : UpdaterState) → r ≡ request.Add → AnswersRequest shape r line answer.Busy u u' → AreBehind n u → u.size + 1 ≤ n
busy_add shape request.Add line n u u' is d old = omega (arith, d.full, d.look.more, length-append (handed_of u) u.fill, old)
busy_add shape _ line n u u' is d old = cc

busy_sync : (shape : Sizes) (r : Request) (line : List ℕ) (n : ℕ) (u u' : UpdaterState) → r ≡ request.Sync → AnswersRequest shape r line answer.Busy u u' → AreBehind n u → 1 ≤ n
busy_sync shape request.Sync line n u u' is d old =
    let now = kept_behind n u d.before d.goes.goes (d.goes.kept ∙ sym (append-nil (kept_of u))) old in
    omega (arith, now, d.look.more, length-append (handed_of d.before) d.before.fill)
busy_sync shape _ line n u u' is d old = cc

pub busy_is_bounded : (shape : Sizes) (u v w : UpdaterState) (answered : List Answered) (line : List ℕ) (pumps : ℕ) → AnswersEach shape u answered v → AnswersLine shape v (answered_busy line pumps) w →
    (client_request line ≡ request.Add → u.size + 1 ≤ kept_since (length (kept_of u)) answered) × (client_request line ≡ request.Sync → 1 ≤ kept_since (length (kept_of u)) answered)
busy_is_bounded shape u v w answered line pumps each takes =
    let n = kept_since (length (kept_of u)) answered in
    let behind : AreBehind n v = answers_behind shape (length (kept_of u)) u answered v each (omega arith) in
    let pumped : AreBehind n takes.pumped = pumped_behind n v takes.pumped takes.pump behind in
    let size : takes.pumped.size ≡ u.size = (none_pumped v takes.pumped takes.pump).goes.size ∙ (answers_keep shape u answered v each).0.size in (
      λ is. subst (λ (b : ℕ). b + 1 ≤ n) size (busy_add shape (client_request line) line n takes.pumped w is takes.does pumped),
      λ is. busy_sync shape (client_request line) line n takes.pumped w is takes.does pumped,
    )

-- ---- what was taken of the items that were offered

drops_it : (k item : ℕ) (u u' : UpdaterState) → k_of u.view.numbers ≡ k → DropsItem k item u u' → TakesOffered u (item ∷ []) u'
drops_it k item u u' k_is d =
    let past : theta_of (k_of u.view.numbers) (items_of_entries (base_of u)) ≤ item = subst (λ (m : ℕ). theta_of m (items_of_entries (base_of u)) ≤ item) (sym k_is) d.idle in
    let dropped : nat_lt item (theta_of (k_of u.view.numbers) (items_of_entries (base_of u))) ≡ false = grind (arith, nat_tests) in
    let same : base_of u' ≡ base_of u = ap base_of d.stays in
    record {
      goes = goes_same u u' d.stays;
      more = [];
      kept = ap kept_of d.stays ∙ sym (append-nil (kept_of u));
      of_items = one_dropped theta_keeps (theta_hint u.view.numbers) (base_of u') item (base_of u, ([], same ∙ sym (append-nil (base_of u))), dropped);
    }

keeps_it : (item : ℕ) (u u' : UpdaterState) → KeepsItem item u u' → TakesOffered u (item ∷ []) u'
keeps_it item u u' d = record { goes = d.goes; more = item ∷ []; kept = d.kept; of_items = one_kept theta_keeps (theta_hint u.view.numbers) (base_of u') item }

nothing : (u u' : UpdaterState) → GoesOn u u' → kept_of u' ≡ kept_of u ++ [] → TakesOffered u [] u'
nothing u u' goes kept = takes_none theta_keeps theta_hint u u' (record { goes = goes; kept = kept ∙ append-nil (kept_of u) })

does_take : (shape : Sizes) (r : Request) (line : List ℕ) (a : Answer) (u u' : UpdaterState) → k_of u.view.numbers ≡ shape.k → AnswersRequest shape r line a u u' → TakesOffered u (item_offered shape.seed line a) u'
does_take shape request.Add line answer.Kept u u' k d = keeps_it (added_item shape.seed line) u u' d
does_take shape request.Add line answer.Filtered u u' k d = drops_it shape.k (added_item shape.seed line) u u' k d
does_take shape request.Ask line answer.Kept u u' k d = absurd d
does_take shape request.Ask line answer.Filtered u u' k d = absurd d
does_take shape request.Sync line answer.Kept u u' k d = absurd d
does_take shape request.Sync line answer.Filtered u u' k d = absurd d
does_take shape request.Quit line answer.Kept u u' k d = absurd d
does_take shape request.Quit line answer.Filtered u u' k d = absurd d
does_take shape request.Bad line answer.Kept u u' k d = absurd d
does_take shape request.Bad line answer.Filtered u u' k d = absurd d
does_take shape r line answer.Busy u u' k d = let go = does_go shape r line answer.Busy u u' d in nothing u u' go.0 go.1
does_take shape r line (answer.Estimate x y) u u' k d = let go = does_go shape r line (answer.Estimate x y) u u' d in nothing u u' go.0 go.1
does_take shape r line answer.Synced u u' k d = let go = does_go shape r line answer.Synced u u' d in nothing u u' go.0 go.1
does_take shape r line answer.Bad u u' k d = let go = does_go shape r line answer.Bad u u' d in nothing u u' go.0 go.1

line_takes : (shape : Sizes) (u : UpdaterState) (t : Answered) (u' : UpdaterState) → k_of u.view.numbers ≡ shape.k → AnswersLine shape u t u' → TakesOffered u (item_offered shape.seed t.line t.answer) u'
line_takes shape u t u' k takes =
    let none = none_pumped u takes.pumped takes.pump in
    none_then_takes theta_keeps theta_hint u takes.pumped u' (item_offered shape.seed t.line t.answer) none
    (does_take shape (client_request t.line) t.line t.answer takes.pumped u' (ap k_of none.goes.numbers ∙ k) takes.does)

pub answers_take : (shape : Sizes) (u : UpdaterState) (answered : List Answered) (u' : UpdaterState) → k_of u.view.numbers ≡ shape.k → AnswersEach shape u answered u' → TakesOffered u (items_offered shape.seed answered) u'
unfolding AnswersEach
answers_take shape u [] u' k same = nothing u u' (goes_same u u' same) (ap kept_of same ∙ sym (append-nil (kept_of u)))
answers_take shape u (t ∷ answered) u' k each =
    let first = line_takes shape u t each.0 k each.1 in
    takes_trans theta_keeps theta_hint u each.0 u' (item_offered shape.seed t.line t.answer) (items_offered shape.seed answered) first (answers_take shape each.0 answered u' (ap k_of first.goes.numbers ∙ k) each.2)

-- ---- none asks to quit

abbrev IsNoQuit : Answered → Type 0
IsNoQuit t = client_request t.line ≡ request.Quit → ⊥

takes_no_quit : (shape : Sizes) (u : UpdaterState) (t : Answered) (u' : UpdaterState) → AnswersLine shape u t u' → IsNoQuit t
takes_no_quit shape u t u' takes = λ is. subst (λ (r : Request). AnswersRequest shape r t.line t.answer takes.pumped u') is takes.does

pub no_answer_quits : (shape : Sizes) (u : UpdaterState) (answered : List Answered) (u' : UpdaterState) → AnswersEach shape u answered u' → All (λ (t : Answered). client_request t.line ≡ request.Quit → ⊥) answered
unfolding AnswersEach
no_answer_quits shape u [] u' each = All-nil IsNoQuit
no_answer_quits shape u (t ∷ answered) u' each = All-cons IsNoQuit t answered (takes_no_quit shape u t each.0 each.1) (no_answer_quits shape each.0 answered u' each.2)

-- ---- how often the pump was called

abbrev AreTwo : Answered → Type 0
AreTwo t = t.answer ≡ answer.Synced → 2 ≤ t.pumps

helped_twice : (shape : Sizes) (r : Request) (line : List ℕ) (a : Answer) (u u' : UpdaterState) (n : ℕ) → AnswersRequest shape r line a u u' → IsHelped r u u' n → a ≡ answer.Synced → 2 ≤ n
helped_twice shape request.Sync line answer.Synced u u' n d (inr twice) is = twice
helped_twice shape request.Sync line answer.Synced u u' n d (inl hands) is = let same : u'.fill ≡ u.fill = ap (λ z. z.fill) hands.look.state in absurd (hands.some (sym same ∙ d.fill))
helped_twice shape request.Add line answer.Synced u u' n d helped is = absurd d
helped_twice shape request.Ask line answer.Synced u u' n d helped is = absurd d
helped_twice shape request.Quit line answer.Synced u u' n d helped is = absurd d
helped_twice shape request.Bad line answer.Synced u u' n d helped is = absurd d
helped_twice shape r line a u u' n d helped is = cc

pub syncs_are_helped : (shape : Sizes) (u : UpdaterState) (answered : List Answered) (u' : UpdaterState) → AnswersEach shape u answered u' → All (λ (t : Answered). t.answer ≡ answer.Synced → 2 ≤ t.pumps) answered
unfolding AnswersEach
syncs_are_helped shape u [] u' each = All-nil AreTwo
syncs_are_helped shape u (t ∷ answered) u' each =
    All-cons AreTwo t answered (helped_twice shape (client_request t.line) t.line t.answer each.1.pumped each.0 t.pumps each.1.does each.1.helped) (syncs_are_helped shape each.0 answered u' each.2)

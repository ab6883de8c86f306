-- What a list lacks of what an updater kept.
use Rattle.std.proofs.Common.{◌≡◌, ◌≢◌, ◌⊎◌, ⊎_elim, ℕ, ◌+◌, ◌*◌, ◌≤◌, if◌then◌else◌, List, [], ◌∷◌, ◌++◌, length, Bool, Option, subst, sym, ap, refl, ◌∙◌, arith}
use Rattle.std.proofs.lemmas.Bool.{cases_eq, eq-eqb, ne_eqb}
use Rattle.sk_model.specs.Entries.{Entry, entries_by}
use Rattle.sk_model.specs.Missing.{LacksAtMost}
use Rattle.sk_compose.specs.Buffers.{Contents}
use Rattle.sk_machine.specs.declared.views.Post.TheVariants.{Updater}
use Rattle.sk_gate.specs.Views.{size_of, mine_of}
use Rattle.sk_gate.specs.Moves.{AsksAt, LacksOwn, SeesOwn}
use Rattle.sk_gate.specs.Hands.{SeatState}
use Rattle.sk_hub.specs.Updaters.{UpdaterState, items_in, state_of}
use Rattle.sk_hub.specs.Replies.{IsOwnReply, known_size}
use Rattle.sk_model.proofs.Missing.{lacks_some, lacks_none, missing_adds_up, begins_nil}

-- of what is kept a list lacks at most one buffer more than of what was handed over
pub lacks_with_fill : (handed fill seen : List ℕ) (b : ℕ) → length fill ≤ b → LacksAtMost handed seen b → LacksAtMost (handed ++ fill) seen (2 * b)
lacks_with_fill handed fill seen b few lacks =
    let twice : b + b ≡ 2 * b = omega arith in
    subst (LacksAtMost (handed ++ fill) seen) twice (missing_adds_up (handed ++ fill) handed seen b b (lacks_some (handed ++ fill) handed fill b refl few) lacks)

-- an ask of its seat is an updater's reply; s' is the seat after it
pub own_reply : {T : Type 0} (packed : List ℕ → List Entry → ℕ) (s s' : SeatState) (number size : ℕ) (fill : Option Contents) (told : Option T) (hint last : ℕ) (eager : Bool) (now : UpdaterState) (word : ℕ) → s.view.post ≡ Updater number (mine_of s.view)
    → size_of s.view number ≡ size → state_of s number size fill told hint last eager ≡ now → length now.fill ≤ now.size → AsksAt packed s.view word s'.view → s' ≡ record s { view = s'.view }
    → IsOwnReply packed now word (state_of s' number size fill told hint last eager)
own_reply packed s s' number size fill told hint last eager now word post size_is shown few asked stays =
    let mine = mine_of s.view in let seen = s'.view.seen in let u : UpdaterState = state_of s number size fill told hint last eager in let u' : UpdaterState = state_of s' number size fill told hint last eager in
    let lacks : LacksAtMost mine.handed (entries_by number seen) size = subst (LacksAtMost mine.handed (entries_by number seen)) size_is (subst (LacksOwn seen (size_of s.view)) post asked.lacks_own) in
    let few_in : length u.fill ≤ u.size = subst (λ (u : UpdaterState). length u.fill ≤ u.size) (sym shown) few in
    let reply : IsOwnReply packed u word u' = record {
      grows = asked.grows;
      entries = asked.is_seen.entries;
      own = subst (SeesOwn seen) post asked.is_seen.own;
      value = asked.value;
      lacks_handed = lacks;
      lacks_kept = lacks_with_fill mine.handed (items_in fill) (entries_by number seen) size few_in lacks;
      stays = λ a. record u { view = asked.view a; table = (stays a).table };
    } in
    subst (λ (u : UpdaterState). IsOwnReply packed u word u') shown reply

-- what a token lacks of what an updater kept, where it knows what that handed over
pub met_lacks : (known handed fill seen : List ℕ) (b : ℕ) → known ≡ handed → length fill ≤ b → (known ≢ [] → LacksAtMost known seen b) → LacksAtMost (handed ++ fill) seen (2 * b)
met_lacks known handed fill seen b same few lacks = lacks_with_fill handed fill seen b few (known_lacks handed (λ some. subst (λ l. LacksAtMost l seen b) same (lacks (subst (λ l. l ≢ []) (sym same) some))))
  where
    known_lacks : (xs : List ℕ) → (xs ≢ [] → LacksAtMost xs seen b) → LacksAtMost xs seen b
    known_lacks [] l = lacks_none [] seen b (begins_nil seen)
    known_lacks (x ∷ xs) l = l (λ no. absurd (cc))

-- of two sizes that are not known, or are this one
pub known_size_is : (a b size : ℕ) → (a ≡ 0) ⊎ (a ≡ size) → b ≡ size → known_size a b ≡ size
known_size_is a b size known same = ⊎_elim
    (λ (none : a ≡ 0). ap (λ c. if c then b else a) (eq-eqb a 0 none) ∙ same)
    (λ (some : a ≢ 0). ap (λ c. if c then b else a) (ne_eqb a 0 some) ∙ ⊎_elim (λ (none : a ≡ 0). absurd (some none)) (λ (is : a ≡ size). is) known)
    (cases_eq a 0)

-- What the answers of a session say of one list of updates, which grows from answer to answer.
use Rattle.std.specs.Prelude.{◌≡◌, ℕ, ◌+◌, ◌*◌, ◌≤◌, List, [], ◌∷◌, ◌++◌, IfSome}
use Rattle.sk_model.specs.Entries.{Entry, items_of_entries, entries_by}
use Rattle.sk_model.specs.Missing.{Begins, LacksAtMost}
use Rattle.sk_model.specs.Sketch.{estimate_of, IsIdle}
use Rattle.sk_io.specs.Traffic.{Ended}
use Rattle.sk_line.specs.Requests.{added_item, client_request}
use Rattle.sk_line.specs.Serving.{Answered, answered_busy, item_kept, kept_since, replies_to}
use Rattle.sk_line.specs.declared.answers.Answer.{Answer}
use Rattle.sk_line.specs.declared.answers.Answer.TheVariants.{Filtered, Estimate, Synced}
use Rattle.sk_line.specs.declared.requests.Request.TheVariants.{Add, Sync}

-- an estimate is the list's, which has of number i only what this kept so far, and lacks of that at most the last two buffers
pub record IsEstimated (k i size n d : ℕ) (kept : List ℕ) (list : List Entry) : Type 0 where
  pub estimate : (n, d) ≡ estimate_of k (items_of_entries list)
  pub own : Begins (entries_by i list) kept
  pub lacks : LacksAtMost kept (entries_by i list) (2 * size)

-- what an answer says of the list, when number i had kept these items: after `synced` all of them are in it, and an
-- item that was `filtered` changes no estimate of it or of what continues it
abbrev pub SaysOf : ℕ → ℕ → ℕ → ℕ → List ℕ → List ℕ → Answer → List Entry → Type 0
SaysOf k seed i size kept line (Estimate n d) list = IsEstimated k i size n d kept list
SaysOf k seed i size kept line Synced list = entries_by i list ≡ kept
SaysOf k seed i size kept line Filtered list = IsIdle k (added_item seed line) (items_of_entries list)
SaysOf k seed i size kept line _ list = Unit {0}

-- so say all of these, each of a list that continues the one before, and the last one is a prefix of this
unfoldable pub SayOfOneList : ℕ → ℕ → ℕ → ℕ → List Entry → List ℕ → List Answered → List Entry → Type 0
SayOfOneList k seed i size from kept [] list = Begins from list
SayOfOneList k seed i size from kept (t ∷ answered) list = (front : List Entry) × Begins from front × SaysOf k seed i size kept t.line t.answer front
    × SayOfOneList k seed i size front (kept ++ item_kept seed t.line t.answer) answered list

-- since the last `synced` before it, an add that was answered `busy` has more items kept than a buffer holds, and a sync
-- that was has one at least
abbrev pub AreBusyBehind : ℕ → List Answered → Type 0
AreBusyBehind size answered = (front rest : List Answered) (line : List ℕ) (pumps : ℕ) → answered ≡ front ++ answered_busy line pumps ∷ rest
    → (client_request line ≡ Add → size + 1 ≤ kept_since 0 front) × (client_request line ≡ Sync → 1 ≤ kept_since 0 front)

-- the bytes written on a link that was closed are a prefix of the replies to these lines; if no call of it failed they
-- are all of them, and all were sent
abbrev pub HoldsReplies : Ended → List Answered → Type 0
HoldsReplies ended answered = IfSome ended.traffic (λ t. Begins t.written (replies_to answered) × (ended.faults ≡ 0 → t.written ≡ replies_to answered))
    × (ended.faults ≡ 0 → ended.waiting ≡ 0)

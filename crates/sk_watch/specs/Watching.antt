-- Watchers, as contracts see them.
use Rattle.std.specs.Prelude.{ℕ, List, Bool}
use Rattle.sk_theta.specs.declared.reply.Reply.{Reply}

-- the numbers that a watcher shows now, and as functions of such a list: the one after an arm by a k and a
-- mark, the answer to a reply, and the list after that reply
pub record Watching : Type 0 where
  pub shown : List ℕ
  pub when_armed : List ℕ → ℕ → ℕ → List ℕ
  pub answer : List ℕ → Reply → Bool
  pub when_seen : List ℕ → Reply → List ℕ

-- the watcher after an arm
abbrev pub armed : ℕ → ℕ → Watching → Watching
armed k mark w = record w { shown = w.when_armed w.shown k mark }

-- what it returns for a reply
abbrev pub answers : Reply → Watching → Bool
answers reply w = w.answer w.shown reply

-- the watcher after it saw a reply
abbrev pub having_seen : Reply → Watching → Watching
having_seen reply w = record w { shown = w.when_seen w.shown reply }

-- Alarms, which watch for an estimate that comes up to a mark.
use Rattle.std.specs.Prelude.{ℕ, ◌*◌, ◌&&◌, nat_le, Bool, false, List, [], ◌∷◌, Option, Some, None}
use Rattle.sk_model.specs.Sketch.{fraction_of}
use Rattle.sk_theta.specs.declared.reply.Reply.{Reply}
use Rattle.sk_watch.specs.Watching.{Watching}
use Rattle.sk_model.specs.Limits.{least_k, most_k}

-- what an alarm shows: nothing, or the k and the mark that it is armed with
abbrev pub numbers_of : Option (ℕ × ℕ) → List ℕ
numbers_of None = []
numbers_of (Some (k, mark)) = k ∷ mark ∷ []

-- whether the reply may be of a sketch that keeps k hashes
abbrev pub has_fraction : ℕ → Reply → Bool
has_fraction k reply = nat_le least_k k && nat_le k most_k && nat_le reply.count k && nat_le 1 reply.theta

-- whether a fraction is the mark or more
abbrev pub comes_up_to : ℕ → ℕ × ℕ → Bool
comes_up_to mark fraction = nat_le (mark * fraction.1) fraction.0

-- what an alarm that shows this list returns for a reply
abbrev pub alarm_answer : List ℕ → Reply → Bool
alarm_answer (k ∷ mark ∷ []) reply = has_fraction k reply && comes_up_to mark (fraction_of k reply.count reply.theta)
alarm_answer shown reply = false

-- an alarm that shows this list
abbrev pub alarm : List ℕ → Watching
alarm shown = record {
  shown = shown;
  when_armed = λ _ k mark. k ∷ mark ∷ [];
  answer = alarm_answer;
  when_seen = λ before _. before;
}

-- Answering, one after another.
use Rattle.std.proofs.Common.{◌≡◌, ℕ, ◌+◌, suc, List, [], ◌∷◌, ◌++◌, length, refl, sym, ap, ◌∙◌, subst, append_assoc, append-nil}
use Rattle.std.proofs.lemmas.List.Sums.{sum_by_push}
use Rattle.sk_hub.specs.Updaters.{UpdaterState}
use Rattle.sk_theta.specs.Sizes.{Sizes}
use Rattle.sk_line.specs.Replies.{reply_line}
use Rattle.sk_line.specs.Serving.{Answered, AnswersLine, AnswersEach, lines_in, replies_to, pumps_for}

pub answers_more : (shape : Sizes) (u v w : UpdaterState) (answered : List Answered) (t : Answered) → AnswersEach shape u answered v → AnswersLine shape v t w → AnswersEach shape u (answered ++ t ∷ []) w
unfolding AnswersEach
answers_more shape u v w [] t same takes = (w, subst (λ (x : UpdaterState). AnswersLine shape x t w) same takes, refl)
answers_more shape u v w (s ∷ answered) t each takes = (each.0, each.1, answers_more shape each.0 v w answered t each.2 takes)

pub takes_none : (shape : Sizes) (u : UpdaterState) → AnswersEach shape u [] u
unfolding AnswersEach
takes_none shape u = refl

pub lines_more : (answered : List Answered) (t : Answered) → lines_in (answered ++ t ∷ []) ≡ lines_in answered ++ t.line ∷ []
lines_more [] t = refl
lines_more (s ∷ answered) t = ap (λ (l : List (List ℕ)). s.line ∷ l) (lines_more answered t)

pub replies_more : (answered : List Answered) (t : Answered) → replies_to (answered ++ t ∷ []) ≡ replies_to answered ++ reply_line t.answer
replies_more [] t = append-nil (reply_line t.answer)
replies_more (s ∷ answered) t = ap (λ (l : List ℕ). reply_line s.answer ++ l) (replies_more answered t) ∙ sym (append_assoc (reply_line s.answer) (replies_to answered) (reply_line t.answer))

pub lines_count : (answered : List Answered) → length (lines_in answered) ≡ length answered
lines_count [] = refl
lines_count (s ∷ answered) = ap (λ (n : ℕ). suc n) (lines_count answered)

pub pumps_more : (answered : List Answered) (t : Answered) → pumps_for (answered ++ t ∷ []) ≡ pumps_for answered + t.pumps
pumps_more answered t = sum_by_push (λ (s : Answered). s.pumps) answered t

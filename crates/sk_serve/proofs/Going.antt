-- What a session does to its updater, however it ended.
use Rattle.std.proofs.Common.{◌≡◌, inl, inr, ℕ, List, refl, sym, ap, subst}
use Rattle.sk_theta.specs.Sizes.{Sizes}
use Rattle.sk_hub.specs.Updaters.{UpdaterState}
use Rattle.sk_hub.specs.Calls.{KeepsNone}
use Rattle.sk_hub.proofs.Calls.{none_refl}
use Rattle.sk_line.specs.Serving.{Answered, AnswersEach}
use Rattle.sk_line.specs.Sessions.{SessionState, ComesTo, Went}
use Rattle.sk_line.specs.declared.sessions.End.{End}
use Rattle.sk_line.specs.declared.sessions.End.TheVariants as end
use Rattle.sk_line.proofs.Updaters.{none_pumped}
use Rattle.sk_serve.specs.Served.{answered_in}

-- these lines were answered; after them a pumping may have come
pub record Answers (shape : Sizes) (u : UpdaterState) (answered : List Answered) (v : UpdaterState) : Type 0 where
  pub last : UpdaterState
  pub takes : AnswersEach shape u answered last
  pub then : KeepsNone last v

by_went : (shape : Sizes) (a : SessionState) (answered : List Answered) (taken : List ℕ) (b : SessionState) → Went shape a answered taken b → Answers shape a.updater answered b.updater
by_went shape a answered taken b went = record { last = went.last; takes = went.takes; then = none_pumped went.last b.updater went.pump }

none_same : (u v : UpdaterState) → v ≡ u → KeepsNone u v
none_same u v same = subst (KeepsNone u) (sym same) (none_refl u)

pub answers_of : (shape : Sizes) (most : ℕ) (a b : SessionState) (e : End) (comes : ComesTo shape most a b e) → Answers shape a.updater (answered_in shape most a b e comes) b.updater
unfolding AnswersEach
answers_of shape most a b end.Quit went = by_went shape a went.answered went.taken b went.went
answers_of shape most a b end.Closed went = by_went shape a went.answered went.taken b went.went
answers_of shape most a b end.LinkFault (inl went) = by_went shape a went.answered went.taken b went.went
answers_of shape most a b end.LinkFault (inr went) = record { last = b.updater; takes = went.takes; then = none_refl b.updater }
answers_of shape most a b (end.Long n) went = by_went shape a went.answered went.taken b went.went
answers_of shape most a b end.TooMuch went = by_went shape a went.answered went.taken b went.went
answers_of shape most a b end.OutOfMemory same = record { last = a.updater; takes = refl; then = none_same a.updater b.updater (ap (λ s. s.updater) same) }

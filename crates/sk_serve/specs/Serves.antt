-- How a server ends.
use Rattle.std.specs.Prelude.{◌≡◌, ℕ, List, map, Result, MatchResult}
use Rattle.sk_hub.specs.Hearts.{HeartState}
use Rattle.sk_model.specs.Causes.{AppendsPart}
use Rattle.sk_report.specs.Texts.{reply_of}
use Rattle.sk_report.specs.declared.remains.Remains.{Remains}
use Rattle.sk_watch.specs.Places.{told}
use Rattle.sk_serve.specs.Around.{Surroundings, armed_for}
use Rattle.sk_serve.specs.Headline.{ServesExactly}
use Rattle.sk_serve.specs.Served.{Served, ServesSessions, StopsServing, ends_of}
use Rattle.sk_serve.specs.Texts.{served_text}
use Rattle.sk_serve.specs.declared.fault.ServeFault.{ServeFault}
use Rattle.sk_serve.specs.declared.fault.ServeFault.TheVariants.{OutOfMemory, NetFault, WriteFault}
use Rattle.sk_serve.specs.declared.plan.ServePlan.{ServePlan}

-- all sessions were served, the board was shown the reply, and of what is due a part was written, and not all
pub record WritesPart (plan : ServePlan) (most : ℕ) (old new : Surroundings) : Type 0 where
  pub sessions : List Served
  pub heart : HeartState
  pub serves : ServesSessions plan most old.door new.door sessions heart
  pub places : new.places ≡ map (told (reply_of plan.k heart.view.seen)) (armed_for plan old.places)
  pub written : AppendsPart old.written new.written (served_text plan.k (armed_for plan old.places) (ends_of sessions) heart.view.seen)

-- how a server ends by each fault; if it is not by a failed write the board was armed and shown nothing
abbrev pub ServeEnds : ServePlan → ℕ → Surroundings → Surroundings → ServeFault → Type 0
ServeEnds plan most old new WriteFault = WritesPart plan most old new
ServeEnds plan most old new NetFault = StopsServing plan most old.door new.door NetFault × (new.places ≡ armed_for plan old.places)
ServeEnds plan most old new OutOfMemory = StopsServing plan most old.door new.door OutOfMemory × (new.places ≡ armed_for plan old.places)

-- how a server went
abbrev pub ServesPlan : ServePlan → ℕ → Surroundings → Surroundings → Result Remains ServeFault → Type 0
ServesPlan plan most old new result = MatchResult result
    (λ left. ServesExactly plan most old new left)
    (λ fault. ServeEnds plan most old new fault)

-- What a server that ends well did, in every interleaving of its sessions.
use Rattle.std.specs.Prelude.{◌≡◌, ◌≢◌, ℕ, ◌<◌, List, length, map, Some, slice_index_or}
use Rattle.std.specs.Io.KnownBytes.{Appends}
use Rattle.sk_model.specs.Entries.{Entry, items_of_entries}
use Rattle.sk_model.specs.Sketch.{estimate_of}
use Rattle.sk_io.specs.Traffic.{Pass}
use Rattle.sk_gate.specs.Hands.{TokenState}
use Rattle.sk_hub.specs.Hearts.{HeartState}
use Rattle.sk_line.specs.declared.sessions.End.TheVariants.{OutOfMemory}
use Rattle.sk_report.specs.Texts.{reply_of}
use Rattle.sk_report.specs.declared.remains.Remains.{Remains}
use Rattle.sk_watch.specs.Places.{told}
use Rattle.sk_serve.specs.Around.{Surroundings, armed_for}
use Rattle.sk_serve.specs.Served.{Served, IsServed, IsOfList, ShowsSessions, all_offered, ends_of, links_of}
use Rattle.sk_serve.specs.Texts.{served_text}
use Rattle.sk_serve.specs.declared.plan.ServePlan.{ServePlan}

-- session i over its link, and the list of updates that all sessions share
pub record SharesList (plan : ServePlan) (most i : ℕ) (s : Served) (list : List Entry) : Type 0 where
  pub served : IsServed plan most i s
  pub memory : s.end ≢ OutOfMemory
  -- what it was answered is of the list, and its link's record holds that
  pub of_list : IsOfList plan i s list

-- a heart that drained the updater of each session and shows this list, and the token of the same hub
pub record HubShows (plan : ServePlan) (sessions : List Served) (list : List Entry) (left : Remains) : Type 0 where
  pub heart : HeartState
  pub token : TokenState
  pub left_is : left ≡ record { heart = Some heart; token = Some token }
  pub hub : token.table ≡ heart.table
  pub list_is : list ≡ heart.view.seen
  pub shows : ShowsSessions plan sessions heart

-- the headline: a server that ended well
pub record ServesExactly (plan : ServePlan) (most : ℕ) (old new : Surroundings) (left : Remains) : Type 0 where
  pub sessions : List Served
  pub list : List Entry
  -- 1. written is how each session ended, then each alarm that the list sets off, then its estimate ..
  pub written : Appends old.written new.written (served_text plan.k (armed_for plan old.places) (ends_of sessions) list)
  -- .. which is one thread's over the items of all adds that were answered `kept` or `filtered`
  pub estimate : estimate_of plan.k (items_of_entries list) ≡ estimate_of plan.k (all_offered plan.seed sessions)
  pub board : new.places ≡ map (told (reply_of plan.k list)) (armed_for plan old.places)
  -- 2. as many sessions as were asked for, in the order in which their links came, share the list
  pub count : length sessions ≡ plan.sessions
  pub shares : (i : ℕ) (d : Served) → i < length sessions → SharesList plan most i (slice_index_or sessions i d) list
  -- 3. their links came at the port of the plan, and each was closed, in that order
  pub port : new.door.port ≡ Some plan.port
  pub links : Pass old.door new.door (links_of sessions)
  -- 4. the hub that is left shows it
  pub hub : HubShows plan sessions list left

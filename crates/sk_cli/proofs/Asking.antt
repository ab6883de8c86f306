-- How what was asked was performed: what is told decides of a run, whatever is asked.
use Rattle.std.proofs.Common.{◌≡◌, ◌⊎◌, inl, inr, ℕ, [], ◌∷◌, Option, Some, None, Result, Ok, Err, IfErr, IsErrAnd, refl, sym, ap, subst, arith}
use Rattle.std.specs.Result.{MatchResult}
use Rattle.sk_model.specs.Causes.{HasCauseIn, Rose}
use Rattle.sk_io.specs.Files.{IsMissing, told_file, Opens}
use Rattle.sk_cli.specs.Beside.{Left, LeavesOnly, MadeHub, NoHub, CountingHub, RankingHub, cleared}
use Rattle.sk_cli.specs.Command.{OneText, Asked, OfText, OfImages, OfLinks, behaviour_of, armed_at_start, frame_of}
use Rattle.sk_cli.specs.Fault.{status_of}
use Rattle.sk_cli.specs.Outside.{Outside, Net, Streams, over_input, over_file, beside_in, doorways_of}
use Rattle.sk_cli.specs.Run.{ExecutesSo, HasCausesFor, Succeeds, Fails, FailsText, Performs, OpensFor, IsFineFor, IsRefusedFor, MissesFirst, MissesSecond, IsOfCalls, IsOfReads}
use Rattle.sk_cli.specs.Values.{Word}
use Rattle.sk_cli.specs.commands.Join.{TwoImages, EndsFile, EndsAtOne, EndsJoin, OpensBoth, IsToldImage, JoinsSo}
use Rattle.sk_cli.specs.commands.Serve.{EndsServing, ServesSo}
use Rattle.sk_serve.specs.declared.plan.ServePlan.{ServePlan}
use Rattle.sk_serve.specs.Served.{AreClosed}
use Rattle.sk_serve.proofs.Closed.{closed_none}
use Rattle.sk_cli.specs.Statuses.{IsCallStatus}
use Rattle.sk_cli.specs.declared.command.Command.{Command}
use Rattle.sk_cli.specs.declared.fault.Fault.{Fault}
use Rattle.sk_cli.specs.declared.fault.Fault.TheVariants as fault
use Rattle.sk_cli.proofs.Completing.{fine_fails, refusal_fails, refusal_succeeds, long_fails, long_succeeds}
use Rattle.sk_cli.proofs.Endings.{never_opens}
use Rattle.sk_cli.proofs.JoinDeciding.{fine_file, fine_join, refused_join, refused_or_joined}
use Rattle.sk_cli.proofs.Opening.{opens_none}
use Rattle.sk_cli.proofs.Performing.{TextDone, streams_are, performs_over_input, performs_over_file, text_not_usage}
use Rattle.sk_cli.proofs.WatcherLaws.{unarmed}

-- ---- what is told decides

module _ (most : ℕ) (old new : Outside) where
  no_usage : (two : TwoImages) → EndsAtOne two most old.files new.file_left fault.Usage → ⊥
  no_usage two (inl ends) = ends
  no_usage two (inr (image, is, ends)) = ends

  joins_not_usage : (two : TwoImages) (f : Fault) → EndsJoin two most old.files new.file_left old.written new.written f → status_of f ≡ 2 → ⊥
  joins_not_usage two fault.Usage ends is = no_usage two ends.0
  joins_not_usage two f ends is = absurd (omega (arith, is))

  serving_not_usage : (plan : ServePlan) (f : Fault) → EndsServing plan most (beside_in old) (beside_in new) old.written new.written (doorways_of old new) f → status_of f ≡ 2 → ⊥
  serving_not_usage plan fault.Usage ends is = ends
  serving_not_usage plan f ends is = absurd (omega (arith, is))

  -- a run ends by the status of words that are no command at no fault
  pub not_usage : (asked : Asked) (f : Fault) → Fails asked most old new f → status_of f ≡ 2 → ⊥
  not_usage (OfText one) f fails is = text_not_usage one.command most old new one.file f fails is
  not_usage (OfImages two) f fails is = joins_not_usage two f fails is
  not_usage (OfLinks plan) f fails is = serving_not_usage plan f fails is

  serving_calls : (plan : ServePlan) (f : Fault) → EndsServing plan most (beside_in old) (beside_in new) old.written new.written (doorways_of old new) f → IsCallStatus (status_of f)
  serving_calls plan fault.OutOfMemory ends = inl refl
  serving_calls plan fault.WriteFault ends = inr (inr (inl refl))
  serving_calls plan fault.NetFault ends = inr (inr (inr (inr refl)))
  serving_calls plan f ends = absurd ends

  fine_run : (asked : Asked) (f : Fault) → IsFineFor asked most old → Fails asked most old new f → IsCallStatus (status_of f)
  fine_run (OfText one) f fine fails = fine_fails one most old new fine.text f fine.told fine.fine fine.size fails
  fine_run (OfImages two) f fine fails = fine_join two most old.files new.file_left old.written new.written fine f fails
  fine_run (OfLinks plan) f fine fails = serving_calls plan f fails

  refused_run : (asked : Asked) (f g : Fault) → IsRefusedFor asked most f old → Fails asked most old new g → (status_of g ≡ status_of f) ⊎ IsCallStatus (status_of g)
  refused_run (OfText one) fault.TooMuch g is fails = long_fails one most old new is.text g is.other is.told is.fine is.same is.whole is.size fails
  refused_run (OfText one) f g is fails = refusal_fails one most old new is.text f g is.told is.refused is.within fails
  refused_run (OfImages two) f g is fails = refused_join two most old.files new.file_left old.written new.written f g is fails
  refused_run (OfLinks plan) f g is fails = absurd is

  refused_or_done : (asked : Asked) (f : Fault) → IsRefusedFor asked most f old → Succeeds asked most old new → ⊥
  refused_or_done (OfText one) fault.TooMuch is done = long_succeeds one most old new is.text is.reads is.told is.size done
  refused_or_done (OfText one) f is done = refusal_succeeds one most old new is.text f is.reads is.told is.refused done
  refused_or_done (OfImages two) f is done = refused_or_joined two most old.files new.file_left old.written new.written f _ is done
  refused_or_done (OfLinks plan) f is done = is

  -- a fault of a call moved its count
  calls : (asked : Asked) (f : Fault) → HasCausesFor asked old new (Err f) → IsCallStatus (status_of f) → IsOfCalls asked old new f
  calls asked fault.OutOfMemory causes is = tt
  calls asked fault.ReadFault causes is = causes.reads.failed refl
  calls asked fault.WriteFault causes is = causes.writes.failed refl
  calls asked fault.OpenFault causes is = causes.opens.failed refl
  calls asked fault.NetFault causes is = causes.net.failed refl
  calls asked f causes is = absurd (omega (arith, is))

  abbrev Done : Asked → Result (Unit {0}) Fault → Type 0
  Done asked r = MatchResult r (λ _. Succeeds asked most old new) (λ f. Fails asked most old new f)

  complete_of : (asked : Asked) (r : Result (Unit {0}) Fault) → Done asked r → HasCausesFor asked old new r → IsFineFor asked most old → IfErr r (IsOfCalls asked old new)
  complete_of asked (Ok x) done causes fine = tt
  complete_of asked (Err f) done causes fine = calls asked f causes (fine_run asked f fine done)

  refused_of : (asked : Asked) (r : Result (Unit {0}) Fault) → Done asked r → HasCausesFor asked old new r → (f : Fault) → IsRefusedFor asked most f old → IsErrAnd r (λ end. (status_of end ≡ status_of f) ⊎ IsOfCalls asked old new end)
  refused_of asked (Ok x) done causes f is = absurd (refused_or_done asked f is done)
  refused_of asked (Err g) done causes f is = either (refused_run asked f g is done)
    where
      either : (status_of g ≡ status_of f) ⊎ IsCallStatus (status_of g) → (status_of g ≡ status_of f) ⊎ IsOfCalls asked old new g
      either (inl same) = inl same
      either (inr call) = inr (calls asked g causes call)

  -- the rest follows from how a run ended, and from what moved
  pub performed : (asked : Asked) (r : Result (Unit {0}) Fault) → Done asked r → HasCausesFor asked old new r → (MissesFirst asked old → r ≡ Err fault.OpenFault) → (MissesSecond asked most old → IsErrAnd r IsOfReads) → new.files ≡ old.files → OpensFor asked most old new →
      AreClosed old.net.accepted new.net.accepted old.net.doorway new.net.doorway → ((frame_of asked).arms ≡ [] → new.board ≡ cleared old.board) → IfErr r (λ _. new.remains ≡ old.remains) → LeavesOnly (frame_of asked).makes old.remains new.remains → new.input_on ≡ old.input_on → Performs asked most old new r
  performed asked r done causes missing second files opened links board remains leaves stays = record {
    done = done;
    causes = causes;
    complete = complete_of asked r done causes;
    refused = refused_of asked r done causes;
    missing = missing;
    second_missing = second;
    files = record { files = files; opened = opened };
    links = links;
    stays = stays;
    board = board;
    remains = remains;
    leaves = leaves;
  }

-- ---- counts and doors that stay

-- a fault that does not come moves no count
never : (f : Fault) (n m : ℕ) (r : Result (Unit {0}) Fault) → m ≡ n → (r ≡ Err f → ⊥) → HasCauseIn f n m r
never f n m r same other = record { steady = λ _. same; failed = λ is. absurd (other is) }

-- no link is accepted by what has no door
no_links : (a b : Net) → b ≡ a → AreClosed a.accepted b.accepted a.doorway b.doorway
no_links a b same = closed_none a.accepted b.accepted a.doorway b.doorway (ap (λ (n : Net). n.accepted) same) (ap (λ (n : Net). n.doorway.closed) same)

-- what is left of hubs is as it was
pub leaves_nothing : (made : MadeHub) (old new : Left) → new ≡ old → LeavesOnly made old new
leaves_nothing NoHub old new same = same
leaves_nothing CountingHub old new same = (ap (λ (l : Left). l.ranks) same, ap (λ (l : Left). l.reader) same)
leaves_nothing RankingHub old new same = (ap (λ (l : Left). l.heart) same, ap (λ (l : Left). l.token) same)

pub if_err : (r : Result (Unit {0}) Fault) (P : Type 0) → P → IfErr r (λ _. P)
if_err (Ok x) P holds = tt
if_err (Err f) P holds = holds

-- ---- a command over at most one text

module _ (most : ℕ) (old new : Outside) where
  text_no_net : (one : OneText) (r : Result (Unit {0}) Fault) → TextDone one most old new r → r ≡ Err fault.NetFault → ⊥
  text_no_net one r done is = none one.file (subst (λ (x : Result (Unit {0}) Fault). TextDone one most old new x) is done)
    where
      none : (file : Option Word) → FailsText (record { command = one.command; file = file }) most old new fault.NetFault → ⊥
      none None fails = fails
      none (Some name) fails = fails

  -- over the standard input
  pub input_performs : (command : Command) (r : Result (Unit {0}) Fault) → ExecutesSo (behaviour_of command) most (beside_in old) (beside_in new) (over_input old) (over_input new) r →
      new.files ≡ old.files → new.opened ≡ old.opened → new.open_faults ≡ old.open_faults → new.net ≡ old.net → new.input_on ≡ old.input_on → Performs (OfText (record { command = command; file = None })) most old new r
  input_performs command r went files opened opens net stays =
      let one : OneText = record { command = command; file = None } in
      let done = performs_over_input command most old new r went.done in
      performed most old new (OfText one) r done
      (record {
        reads = went.causes.read;
        writes = went.causes.write;
        opens = never fault.OpenFault _ _ r opens (never_opens _ _ _ _ _ _ r went.done);
        net = never fault.NetFault _ _ r (ap (λ (n : Net). n.faults) net) (text_no_net one r done);
      })
      (λ misses. absurd misses) (λ misses. absurd misses) files (opens_none _ _ opened) (no_links _ _ net) went.beside.board went.beside.remains went.beside.leaves stays

  -- over a file that was opened
  file_performs : (command : Command) (name : Word) (a b : Streams) (r : Result (Unit {0}) Fault) → a ≡ over_file (told_file old.files name) old → b ≡ over_file new.file_left new →
      ExecutesSo (behaviour_of command) most (beside_in old) (beside_in new) a b r → (IsMissing old.files name → ⊥) →
      new.files ≡ old.files → Opens old.opened new.opened (name ∷ []) → new.open_faults ≡ old.open_faults → new.net ≡ old.net → new.input_on ≡ old.input_on → Performs (OfText (record { command = command; file = Some name })) most old new r
  file_performs command name a b r before after went there files opened opens net stays =
      let one : OneText = record { command = command; file = Some name } in
      let x : Streams = over_file (told_file old.files name) old in
      let y : Streams = over_file new.file_left new in
      let went' : ExecutesSo (behaviour_of command) most (beside_in old) (beside_in new) x y r =
      subst (λ (s : Streams). ExecutesSo (behaviour_of command) most (beside_in old) (beside_in new) x s r) after
      (subst (λ (s : Streams). ExecutesSo (behaviour_of command) most (beside_in old) (beside_in new) s b r) before went) in
      let done = performs_over_file command most old new name r went'.done in
      performed most old new (OfText one) r done
      (record {
        reads = went'.causes.read;
        writes = went'.causes.write;
        opens = never fault.OpenFault _ _ r opens (never_opens _ _ _ _ _ _ r went'.done);
        net = never fault.NetFault _ _ r (ap (λ (n : Net). n.faults) net) (text_no_net one r done);
      })
      (λ misses. absurd (there misses)) (λ misses. absurd misses) files opened (no_links _ _ net) went.beside.board went.beside.remains went.beside.leaves stays

  -- a file that could not be opened
  unopened_performs : (command : Command) (name : Word) → new.written ≡ old.written → new.file_faults ≡ old.file_faults → new.write_faults ≡ old.write_faults → Rose old.open_faults new.open_faults →
      new.files ≡ old.files → Opens old.opened new.opened (name ∷ []) → new.board ≡ armed_at_start command old.board → new.remains ≡ old.remains → new.net ≡ old.net → new.input_on ≡ old.input_on → Performs (OfText (record { command = command; file = Some name })) most old new (Err fault.OpenFault)
  unopened_performs command name written reads writes opens files opened board remains net stays =
      performed most old new (OfText (record { command = command; file = Some name })) (Err fault.OpenFault) (written, board)
      (record {
        reads = never fault.ReadFault _ _ (Err fault.OpenFault) reads (λ is. cc);
        writes = never fault.WriteFault _ _ (Err fault.OpenFault) writes (λ is. cc);
        opens = record { steady = λ other. absurd (other refl); failed = λ _. opens };
        net = never fault.NetFault _ _ (Err fault.OpenFault) (ap (λ (n : Net). n.faults) net) (λ is. cc);
      })
      (λ misses. refl) (λ misses. absurd misses) files opened (no_links _ _ net) (unarmed command old.board new.board board) remains (leaves_nothing _ _ _ remains) stays

  -- a file that was opened and read, by what the source of it shows
  pub opened_performs : (command : Command) (file : Option Word) (name : Word) (a b : Streams) (r : Result (Unit {0}) Fault) → file ≡ Some name → a.left ≡ told_file old.files name → a.last ≡ old.file_last → a.read_faults ≡ old.file_faults → a.written ≡ old.written →
      a.write_faults ≡ old.write_faults → b.left ≡ new.file_left → b.last ≡ new.file_last → b.read_faults ≡ new.file_faults → b.written ≡ new.written → b.write_faults ≡ new.write_faults → ExecutesSo (behaviour_of command) most (beside_in old) (beside_in new) a b r →
      (IsMissing old.files name → ⊥) → new.files ≡ old.files → Opens old.opened new.opened (name ∷ []) → new.open_faults ≡ old.open_faults → new.net ≡ old.net → new.input_on ≡ old.input_on → Performs (OfText (record { command = command; file = file })) most old new r
  opened_performs command file name a b r is left last reads written writes left' last' reads' written' writes' went there files opened opens net stays =
      let before : a ≡ over_file (told_file old.files name) old = streams_are a (over_file (told_file old.files name) old) left last reads written writes in
      let after : b ≡ over_file new.file_left new = streams_are b (over_file new.file_left new) left' last' reads' written' writes' in
      subst (λ (f : Option Word). Performs (OfText (record { command = command; file = f })) most old new r) (sym is) (file_performs command name a b r before after went there files opened opens net stays)

  pub not_opened_performs : (command : Command) (file : Option Word) (name : Word) → file ≡ Some name → new.written ≡ old.written → new.file_faults ≡ old.file_faults → new.write_faults ≡ old.write_faults → Rose old.open_faults new.open_faults →
      new.files ≡ old.files → Opens old.opened new.opened (name ∷ []) → new.board ≡ armed_at_start command old.board → new.remains ≡ old.remains → new.net ≡ old.net → new.input_on ≡ old.input_on → Performs (OfText (record { command = command; file = file })) most old new (Err fault.OpenFault)
  not_opened_performs command file name is written reads writes opens files opened board remains net stays =
      subst (λ (f : Option Word). Performs (OfText (record { command = command; file = f })) most old new (Err fault.OpenFault)) (sym is) (unopened_performs command name written reads writes opens files opened board remains net stays)

-- ---- a join, and a server

module _ (most : ℕ) (old new : Outside) where
  join_no_net : (two : TwoImages) (r : Result (Unit {0}) Fault) → JoinsSo two most old.files new.file_left old.written new.written r → r ≡ Err fault.NetFault → ⊥
  join_no_net two r went is = none (subst (JoinsSo two most old.files new.file_left old.written new.written) is went).0
    where
      none : EndsAtOne two most old.files new.file_left fault.NetFault → ⊥
      none (inl ends) = ends
      none (inr (image, is, ends)) = ends

  -- a right image that is missing behind a left one that is known
  misses_right : (two : TwoImages) (r : Result (Unit {0}) Fault) → (IsMissing old.files two.right → IsErrAnd r (EndsFile most 1 (told_file old.files two.left) new.file_left)) →
      IsToldImage most (told_file old.files two.left) × IsMissing old.files two.right → IsErrAnd r IsOfReads
  misses_right two (Ok x) ends misses = absurd (ends misses.1)
  misses_right two (Err f) ends misses = fine_file most (told_file old.files two.left) new.file_left 1 misses.0 f (ends misses.1)

  pub join_performs : (two : TwoImages) (r : Result (Unit {0}) Fault) → JoinsSo two most old.files new.file_left old.written new.written r → (IsMissing old.files two.left → r ≡ Err fault.OpenFault) →
      (IsMissing old.files two.right → IsErrAnd r (EndsFile most 1 (told_file old.files two.left) new.file_left)) → HasCauseIn fault.OpenFault old.open_faults new.open_faults r → HasCauseIn fault.ReadFault old.file_faults new.file_faults r →
      HasCauseIn fault.WriteFault old.write_faults new.write_faults r → new.files ≡ old.files → OpensBoth two most old.files old.opened new.opened → new.board ≡ cleared old.board → new.remains ≡ old.remains → new.net ≡ old.net → new.input_on ≡ old.input_on → Performs (OfImages two) most old new r
  join_performs two r went left right opens reads writes files opened board remains net stays =
      performed most old new (OfImages two) r went
      (record { reads = reads; writes = writes; opens = opens; net = never fault.NetFault _ _ r (ap (λ (n : Net). n.faults) net) (join_no_net two r went) })
      left (misses_right two r right) files opened (no_links _ _ net) (λ _. board) (if_err r _ remains) remains stays

  abbrev Served : ServePlan → Result (Unit {0}) Fault → Type 0
  Served plan r = ServesSo plan most (beside_in old) (beside_in new) old.written new.written (doorways_of old new) r

  serve_no_read : (plan : ServePlan) (r : Result (Unit {0}) Fault) → Served plan r → r ≡ Err fault.ReadFault → ⊥
  serve_no_read plan r went is = subst (Served plan) is went

  serve_no_open : (plan : ServePlan) (r : Result (Unit {0}) Fault) → Served plan r → r ≡ Err fault.OpenFault → ⊥
  serve_no_open plan r went is = subst (Served plan) is went

  pub serve_performs : (plan : ServePlan) (r : Result (Unit {0}) Fault) → Served plan r → HasCauseIn fault.WriteFault old.write_faults new.write_faults r → HasCauseIn fault.NetFault old.net.faults new.net.faults r →
      AreClosed old.net.accepted new.net.accepted old.net.doorway new.net.doorway → (plan.alarms ≡ [] → new.board ≡ cleared old.board) → IfErr r (λ _. new.remains ≡ old.remains) →
      (new.remains.ranks ≡ old.remains.ranks) × (new.remains.reader ≡ old.remains.reader) → new.input_faults ≡ old.input_faults → new.open_faults ≡ old.open_faults → new.files ≡ old.files → new.opened ≡ old.opened → new.input_on ≡ old.input_on → Performs (OfLinks plan) most old new r
  serve_performs plan r went writes net links board remains ranks reads opens files opened stays =
      performed most old new (OfLinks plan) r went
      (record {
        reads = never fault.ReadFault _ _ r reads (serve_no_read plan r went);
        writes = writes;
        opens = never fault.OpenFault _ _ r opens (serve_no_open plan r went);
        net = net;
      })
      (λ misses. absurd misses) (λ misses. absurd misses) files (opens_none _ _ opened) links board remains ranks stays

-- What a text decides of a run over it.
use Rattle.std.proofs.Common.{◌≡◌, ◌⊎◌, inl, inr, ℕ, ◌<◌, ◌≤◌, true, List, ◌++◌, length, take, drop, Option, Some, None, refl, sym, ap, ◌∙◌, subst, arith, append-nil, length-append}
use Rattle.std.proofs.lemmas.List.{take_at, take-take, take-append-drop}
use Rattle.std.specs.Bool.{OnTrue}
use Rattle.std.specs.Io.KnownBytes.{Consumes, IsAtEnd}
use Rattle.sk_read.specs.Reads.{IsSettled}
use Rattle.sk_cli.specs.Behaviour.{Behaviour, IsDecided}
use Rattle.sk_cli.specs.Beside.{Beside, NoHub, RankingHub}
use Rattle.sk_cli.specs.Command.{OneText, behaviour_of}
use Rattle.sk_cli.specs.Fault.{status_of}
use Rattle.sk_cli.specs.Values.{Word}
use Rattle.sk_cli.specs.Outside.{Streams, Outside, over_input, over_file, beside_in}
use Rattle.sk_cli.specs.Run.{Finishes, Stops, Refuses, Ends, Over, SucceedsText, FailsText, told_text}
use Rattle.sk_cli.specs.Statuses.{IsCallStatus}
use Rattle.sk_cli.specs.declared.command.Command.{Command}
use Rattle.sk_cli.specs.declared.command.Command.TheVariants.{Count, Hash, Image, Make, Quantile, Replay, Tally, Tenants, Window, Help, Version}
use Rattle.sk_cli.specs.declared.commands.about.TheConstants.{HELP, VERSION}
use Rattle.sk_cli.specs.declared.fault.Fault.{Fault}
use Rattle.sk_cli.specs.declared.fault.Fault.TheVariants as fault
use Rattle.sk_cli.specs.declared.fault.Refusal.TheVariants.{Earlier, Unknown}
use Rattle.sk_cli.specs.commands.Image.{image_of}
use Rattle.sk_cli.specs.commands.Quantile.{LeavesRanks}
use Rattle.sk_desks.specs.Desks.{desk_rules}
use Rattle.sk_panes.specs.Panes.{pane_rules}
use Rattle.sk_rank.specs.Plans.{rank_manner}
use Rattle.sk_tally.specs.Plans.{tally_manner}
use Rattle.sk_tally.specs.Headline.{TalliesAll}
use Rattle.sk_cli.proofs.CountDeciding.{count_decides}
use Rattle.sk_cli.proofs.Labelled.{labels_decide}
use Rattle.sk_cli.proofs.MannerDeciding.{manner_decides}
use Rattle.sk_cli.proofs.ToldItems.{items_decide}
use Rattle.sk_cli.proofs.Deciding.{hash_decides, make_decides, replay_decides, about_decides}

decides : (command : Command) → IsDecided (behaviour_of command)
decides (Count plan) = count_decides plan
decides (Hash plan) = hash_decides plan
decides (Image plan) = items_decide plan.what.kind plan.what.column (image_of plan)
decides (Make plan) = make_decides plan
decides (Quantile plan) = manner_decides (rank_manner plan) RankingHub (LeavesRanks plan)
decides Replay = replay_decides
decides (Tally plan) = manner_decides (tally_manner plan) NoHub (λ from units due to. TalliesAll plan units due)
decides (Tenants plan) = labels_decide (desk_rules plan.desks plan.names) Unknown
decides (Window plan) = labels_decide (pane_rules plan) Earlier
decides Help = about_decides HELP.now
decides Version = about_decides VERSION.now

-- what is settled of the bytes taken is so of the text that is told
pub settled_told : (P : List ℕ → Type 0) (text taken : List ℕ) (left : Option (List ℕ)) → Consumes (Some text) left taken → IsSettled P left taken → P text
settled_told P text taken None consumed settled = absurd consumed
settled_told P text taken (Some rest) consumed (inl always) = subst P (sym consumed) (always rest)
settled_told P text taken (Some rest) consumed (inr here) =
    let whole : text ≡ taken = consumed ∙ ap (λ (l : List ℕ). taken ++ l) here.0 ∙ append-nil taken in
    subst P (sym whole) here.1

-- a source that ended was taken whole
pub whole_told : (text taken : List ℕ) (left : Option (List ℕ)) → Consumes (Some text) left taken → IsAtEnd left → taken ≡ text
whole_told text taken None consumed end = absurd consumed
whole_told text taken (Some rest) consumed end = sym (consumed ∙ ap (λ (l : List ℕ). taken ++ l) end ∙ append-nil taken)

pub no_more_told : (text taken : List ℕ) (left : Option (List ℕ)) → Consumes (Some text) left taken → length text < length taken → ⊥
no_more_told text taken None consumed less = absurd consumed
no_more_told text taken (Some rest) consumed less = absurd (omega (arith, ap length consumed, length-append taken rest, less))

pub on : {P : Type 0} (b : Behaviour) → b.reads ≡ true → OnTrue b.reads P → P
on {P} b reads holds = subst (λ t. OnTrue t P) reads holds

module _ (command : Command) (most : ℕ) (from to : Beside) (a b : Streams) (text : List ℕ) (told : a.left ≡ Some text) where
  took : (taken : List ℕ) → Consumes a.left b.left taken → Consumes (Some text) b.left taken
  took taken consumed = subst (λ (l : Option (List ℕ)). Consumes l b.left taken) told consumed

  finished : (behaviour_of command).reads ≡ true → Finishes (behaviour_of command) most from to a b → (behaviour_of command).IsFine text
  finished reads done = subst (behaviour_of command).IsFine (whole_told text done.text b.left (took done.text done.consumed) (on (behaviour_of command) reads done.end)) done.fine

  refused : (f : Fault) → Refuses (behaviour_of command) most f from to a b → (behaviour_of command).Refuses f text
  refused f is =
      (settled_told (λ (t : List ℕ). (behaviour_of command).Refuses f t × (behaviour_of command).IsDueAt from to f t is.due) text is.taken b.left (took is.taken is.consumed) is.refused).0

  within : length text < most → Stops (behaviour_of command) (λ size. size ≡ most) from to a b → ⊥
  within less stop = no_more_told text stop.taken b.left (took stop.taken stop.consumed) (omega (arith, less, stop.size))

  -- what was taken up to the bound begins the text
  bounded : (taken : List ℕ) → Consumes a.left b.left taken → length taken ≡ most → (most ≤ length text) × (take most text ≡ taken)
  bounded taken consumed size = of b.left (took taken consumed)
    where
      of : (left : Option (List ℕ)) → Consumes (Some text) left taken → (most ≤ length text) × (take most text ≡ taken)
      of None consumed = absurd consumed
      of (Some rest) consumed =
          (omega (arith, ap length consumed, length-append taken rest, size), ap (λ (l : List ℕ). take most l) consumed ∙ take_at taken rest most size)

  early : (most ≤ length text → ¬ (behaviour_of command).IsFineSoFar (take most text)) → Stops (behaviour_of command) (λ size. size ≡ most) from to a b → ⊥
  early never stop =
      let all = bounded stop.taken stop.consumed stop.size in
      never all.0 (subst (behaviour_of command).IsFineSoFar (sym all.1) stop.fine)

  -- a text that is fine ends at no refusal
  apart : (f : Fault) → (behaviour_of command).IsFine text → Refuses (behaviour_of command) most f from to a b → ⊥
  apart f fine is = (decides command).apart f text fine (refused f is)

  fine_ends : (f : Fault) → (behaviour_of command).IsFine text → length text < most → Ends (behaviour_of command) most from to a b f → IsCallStatus (status_of f)
  fine_ends fault.OutOfMemory is less ends = inl refl
  fine_ends fault.Usage is less ends = absurd ends
  fine_ends fault.ReadFault is less ends = inr (inl refl)
  fine_ends fault.WriteFault is less ends = inr (inr (inl refl))
  fine_ends fault.OpenFault is less ends = absurd ends
  fine_ends fault.NetFault is less ends = absurd ends
  fine_ends fault.TooMuch is less ends = absurd (within less ends)
  fine_ends f is less ends = absurd (apart f is ends)

  -- a text that is refused ends at that refusal
  same : (f g : Fault) → (behaviour_of command).Refuses f text → Refuses (behaviour_of command) most g from to a b → (status_of g ≡ status_of f) ⊎ IsCallStatus (status_of g)
  same f g is ends = inl (ap status_of ((decides command).refused g f text (refused g ends) is))

  refusal_ends : (f g : Fault) → (behaviour_of command).Refuses f text → (most ≤ length text → ¬ (behaviour_of command).IsFineSoFar (take most text)) → Ends (behaviour_of command) most from to a b g → (status_of g ≡ status_of f) ⊎ IsCallStatus (status_of g)
  refusal_ends f fault.OutOfMemory is never ends = inr (inl refl)
  refusal_ends f fault.Usage is never ends = absurd ends
  refusal_ends f fault.ReadFault is never ends = inr (inr (inl refl))
  refusal_ends f fault.WriteFault is never ends = inr (inr (inr (inl refl)))
  refusal_ends f fault.OpenFault is never ends = absurd ends
  refusal_ends f fault.NetFault is never ends = absurd ends
  refusal_ends f fault.TooMuch is never ends = absurd (early never ends)
  refusal_ends f g is never ends = same f g is ends

  -- a text that is too long is refused by nothing that it begins with
  module _ (other : List ℕ) (fine : (behaviour_of command).IsFine other) (begins : take most other ≡ take most text) (whole : length text ≡ most → other ≡ text) (long : most ≤ length text) where
    first_part : (taken rest : List ℕ) → text ≡ taken ++ rest → length taken ≤ most → other ≡ taken ++ drop (length taken) other
    first_part taken rest is size =
        let front : take (length taken) other ≡ taken =
        sym (take-take (length taken) most other size) ∙ ap (λ (l : List ℕ). take (length taken) l) begins ∙ take-take (length taken) most text size
        ∙ ap (λ (l : List ℕ). take (length taken) l) is ∙ take_at taken rest (length taken) refl in
        sym (take-append-drop (length taken) other) ∙ ap (λ (l : List ℕ). l ++ drop (length taken) other) front

    so_of_other : (P : List ℕ → Type 0) (taken : List ℕ) (left : Option (List ℕ)) → length taken ≤ most → Consumes (Some text) left taken → IsSettled P left taken → P other
    so_of_other P taken None size consumed settled = absurd consumed
    so_of_other P taken (Some rest) size consumed (inl always) = subst P (sym (first_part taken rest consumed size)) (always (drop (length taken) other))
    so_of_other P taken (Some rest) size consumed (inr here) =
        let all : text ≡ taken = consumed ∙ ap (λ (l : List ℕ). taken ++ l) here.0 ∙ append-nil taken in
        subst P (sym (whole (omega (arith, ap length all, size, long)) ∙ all)) here.1

    never_refused : (g : Fault) → Refuses (behaviour_of command) most g from to a b → ⊥
    never_refused g ends =
        let refused = so_of_other (λ (t : List ℕ). (behaviour_of command).Refuses g t × (behaviour_of command).IsDueAt from to g t ends.due) ends.taken b.left ends.size (took ends.taken ends.consumed) ends.refused in
        (decides command).apart g other fine refused.0

    long_ends : (g : Fault) → Ends (behaviour_of command) most from to a b g → (status_of g ≡ 13) ⊎ IsCallStatus (status_of g)
    long_ends fault.OutOfMemory ends = inr (inl refl)
    long_ends fault.Usage ends = absurd ends
    long_ends fault.ReadFault ends = inr (inr (inl refl))
    long_ends fault.WriteFault ends = inr (inr (inr (inl refl)))
    long_ends fault.OpenFault ends = absurd ends
    long_ends fault.NetFault ends = absurd ends
    long_ends fault.TooMuch ends = inl refl
    long_ends g ends = absurd (never_refused g ends)

  long_or_finished : (behaviour_of command).reads ≡ true → most ≤ length text → Finishes (behaviour_of command) most from to a b → ⊥
  long_or_finished reads long done =
      let all = whole_told text done.text b.left (took done.text done.consumed) (on (behaviour_of command) reads done.end) in
      let short = on (behaviour_of command) reads done.size in
      omega (arith, ap length all, short, long)

-- over the standard input or a file
module _ (asked : OneText) (most : ℕ) (old new : Outside) (text : List ℕ) where
  -- what holds of every end of a command over its streams, and of a file that could not be opened
  over : (P : Fault → Type 0) → P fault.OpenFault →
      ((a b : Streams) (g : Fault) → a.left ≡ Some text → Ends (behaviour_of asked.command) most (beside_in old) (beside_in new) a b g → P g)
      → (f : Fault) → told_text asked.file old ≡ Some text → FailsText asked most old new f → P f
  over P unopened by f told fails = by_fault f fails
    where
      ended : (file : Option Word) (g : Fault) → told_text file old ≡ Some text → Over file (λ a b. Ends (behaviour_of asked.command) most (beside_in old) (beside_in new) a b g) old new → P g
      ended None g told ends = by (over_input old) (over_input new) g told ends
      ended (Some name) g told ends = by (over_file (told_text (Some name) old) old) (over_file new.file_left new) g told ends

      by_fault : (g : Fault) → FailsText asked most old new g → P g
      by_fault fault.OpenFault ends = unopened
      by_fault g ends = ended asked.file g told ends

  pub fine_fails : (f : Fault) → told_text asked.file old ≡ Some text → (behaviour_of asked.command).IsFine text → length text < most → FailsText asked most old new f → IsCallStatus (status_of f)
  fine_fails f told is less fails =
      over (λ g. IsCallStatus (status_of g)) (inr (inr (inr (inl refl)))) (λ a b g told ends. fine_ends asked.command most (beside_in old) (beside_in new) a b text told g is less ends) f told fails

  pub refusal_fails : (f g : Fault) → told_text asked.file old ≡ Some text → (behaviour_of asked.command).Refuses f text → (most ≤ length text → ¬ (behaviour_of asked.command).IsFineSoFar (take most text)) → FailsText asked most old new g → (status_of g ≡ status_of f) ⊎ IsCallStatus (status_of g)
  refusal_fails f g told is never fails =
      over (λ g. (status_of g ≡ status_of f) ⊎ IsCallStatus (status_of g)) (inr (inr (inr (inr (inl refl))))) (λ a b g told ends. refusal_ends asked.command most (beside_in old) (beside_in new) a b text told f g is never ends) g told fails

  pub long_fails : (g : Fault) (other : List ℕ) → told_text asked.file old ≡ Some text → (behaviour_of asked.command).IsFine other → take most other ≡ take most text → (length text ≡ most → other ≡ text) → most ≤ length text → FailsText asked most old new g → (status_of g ≡ 13) ⊎ IsCallStatus (status_of g)
  long_fails g other told fine begins whole long fails =
      over (λ g. (status_of g ≡ 13) ⊎ IsCallStatus (status_of g)) (inr (inr (inr (inr (inl refl))))) (λ a b g told ends. long_ends asked.command most (beside_in old) (beside_in new) a b text told other fine begins whole long g ends) g told fails

  -- a command over streams that tell the text
  finished_over : {P : Type 0} → ((a b : Streams) → a.left ≡ Some text → Finishes (behaviour_of asked.command) most (beside_in old) (beside_in new) a b → P) → told_text asked.file old ≡ Some text → SucceedsText asked most old new → P
  finished_over {P} by told done = of asked.file told done
    where
      of : (file : Option Word) → told_text file old ≡ Some text → Over file (λ a b. Finishes (behaviour_of asked.command) most (beside_in old) (beside_in new) a b) old new → P
      of None told done = by (over_input old) (over_input new) told done
      of (Some name) told done = by (over_file (told_text (Some name) old) old) (over_file new.file_left new) told done

  pub refusal_succeeds : (f : Fault) → (behaviour_of asked.command).reads ≡ true → told_text asked.file old ≡ Some text → (behaviour_of asked.command).Refuses f text → SucceedsText asked most old new → ⊥
  refusal_succeeds f reads told is done =
      finished_over (λ a b told done. (decides asked.command).apart f text (finished asked.command most (beside_in old) (beside_in new) a b text told reads done) is) told done

  pub long_succeeds : (behaviour_of asked.command).reads ≡ true → told_text asked.file old ≡ Some text → most ≤ length text → SucceedsText asked most old new → ⊥
  long_succeeds reads told long done = finished_over (λ a b told done. long_or_finished asked.command most (beside_in old) (beside_in new) a b text told reads long done) told done

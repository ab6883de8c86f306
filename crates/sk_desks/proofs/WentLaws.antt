-- Windows of a source's lines that were given to desks.
use Rattle.std.proofs.Common.{◌≡◌, ℕ, ◌+◌, ◌<◌, ◌≤◌, Bool, false, Option, None, Result, Ok, Err, IsErrAnd, IfErr, OnOk, List, [], ◌++◌, All, length, refl, sym, ap, subst, ◌∙◌, arith, append_assoc, length-append}
use Rattle.std.proofs.KnownBytes.{Consumes-nil, Consumes-trans}
use Rattle.std.proofs.lemmas.Grind.{flat_map-append}
use Rattle.sk_model.specs.Limits.{source_limit, most_kept}
use Rattle.sk_model.specs.Lines.{lines_of}
use Rattle.sk_model.proofs.Lines.{lines_are_few}
use Rattle.sk_read.specs.Reading.{Reading, HasRead}
use Rattle.sk_read.proofs.LineEnds.{all_lines as all_lines_read}
use Rattle.sk_label.specs.Rules.{AreFine}
use Rattle.sk_label.specs.Goes.{setting, EndsBefore, ReadsLines}
use Rattle.sk_label.specs.declared.fault.LabelFault.{LabelFault}
use Rattle.sk_label.specs.declared.fault.LabelFault.TheVariants as fault
use Rattle.sk_label.proofs.QuietLaws.{ends_quietly}
use Rattle.sk_label.proofs.RuleLaws.{nothing_is_fine}
use Rattle.sk_read.specs.declared.kind.Kind.{Kind}
use Rattle.sk_fill.specs.Windows.{all_lines}
use Rattle.sk_fill.specs.Stretches.{StretchState}
use Rattle.sk_fill.proofs.Filled.{read_few, read_number}
use Rattle.sk_lanes.specs.Lanes.{TakeAll}
use Rattle.sk_tenant.specs.Desks.{DeskState}
use Rattle.sk_desks.specs.declared.plan.Plan.{Plan}
use Rattle.sk_desks.specs.Desks.{desk_rules}
use Rattle.sk_desks.specs.declared.taker.DeskTaker.{DeskTaker}
use Rattle.sk_desks.specs.Feeds.{seed_of, IsReadyFor, HasRoomAfter, TakeBlocks}
use Rattle.sk_desks.specs.Entries.{window_lines}
use Rattle.sk_desks.specs.Lanes.{took, HasStarted, FeedsAndGathers}
use Rattle.sk_desks.specs.Windows.{AreUnused, HaveTaken, WentToDesks}
use Rattle.sk_desks.specs.Gathers.{GivesNext, GoOnFine, EndsReading, Gathers}
use Rattle.sk_desks.proofs.BlockLaws.{take_none, take_windows, ready_for}
use Rattle.sk_desks.proofs.GatherLaws.{never}
use Rattle.sk_desks.proofs.StretchLaws.{no_memory}
use Rattle.sk_desks.proofs.LaneLaws.{desks, all_desks, taken_all}

-- ---- a source of which windows were given to desks

module _ (plan : Plan) (names : List (List ℕ)) where
  -- the first stretch was gathered
  pub went_start : (desks : List DeskState) (last : StretchState) (r r' : Reading) (old new : Option (List ℕ)) (result : Result Bool LabelFault) (b : Bool) → AreUnused names desks → HasRead r old [] [] → Gathers names r r' old new (all_lines last.windows) result → result ≡ Ok b → last.first ≡ r.cutter.number
      → WentToDesks plan names desks desks last b r' old new
  went_start desks last r r' old new result b unused read gathers is first =
      let lines = all_lines last.windows in
      let gives : GivesNext lines r r' old new = subst (λ (x : Result Bool LabelFault). OnOk x (GivesNext lines r r' old new)) is gathers.gives in
      let fine : GoOnFine names lines = subst (λ (x : Result Bool LabelFault). OnOk x (GoOnFine names lines)) is gathers.fine in
      let on = gives [] [] read in
      record {
        unused = unused;
        windows = [];
        taken = on.0;
        consumed = on.1;
        read = on.2;
        fine = fine plan [] (nothing_is_fine (desk_rules plan names));
        took = take_none plan.seed desks;
        starts = first ∙ read_number r old [] [] read;
        end = λ ended. gathers.end (is ∙ ap (λ (x : Bool). Ok x) ended);
      }

  -- no memory was found, or the source ended, before that
  pub first_wrong : (last : List (List ℕ)) (r r' : Reading) (old new : Option (List ℕ)) (result : Result Bool LabelFault) (f : LabelFault) → HasRead r old [] [] → Gathers names r r' old new last result → result ≡ Err f → EndsBefore (desk_rules plan names) r'.last r.most (setting old None) (setting new None) f
  first_wrong last r r' old new result f read gathers is =
      let stops : EndsReading names r'.last r old new f = subst (λ (x : Result Bool LabelFault). IfErr x (EndsReading names r'.last r old new)) is gathers.stopped in
      stops plan old [] [] (Consumes-nil old) read (nothing_is_fine (desk_rules plan names))

  module _ (first : List DeskState) (ts : List DeskTaker) (last : StretchState) (more : Bool) (r : Reading) (old mid : Option (List ℕ)) (went : WentToDesks plan names first (desks ts) last more r old mid) where
    abbrev lines : List (List ℕ)
    lines = all_lines went.windows ++ all_lines last.windows

    joined : all_lines went.windows ++ all_lines last.windows ≡ all_lines (went.windows ++ last.windows)
    joined = sym (flat_map-append (λ (w : List (List ℕ)). w) went.windows last.windows)

    few : length (all_lines went.windows) + length (all_lines last.windows) ≤ most_kept
    few = omega (arith, length-append (all_lines went.windows) (all_lines last.windows), read_few r mid lines went.taken went.read)

    -- there is room for what lies in the stretch
    pub went_ready : All (λ t. IsReadyFor (length (all_lines last.windows)) t.desk) ts
    went_ready = all_desks (IsReadyFor (length (all_lines last.windows))) ts (ready_for plan.seed names first (desks ts) went.windows (length (all_lines last.windows)) went.unused went.took few)

    -- and for all that comes after it
    pub went_room : All (λ t. HasRoomAfter last.first t.desk) ts
    went_room = all_desks (HasRoomAfter last.first) ts
        (λ i d within. record {
          has = (ready_for plan.seed names first (desks ts) went.windows 0 went.unused went.took (omega (arith, few)) i d within).has;
          room = λ n enough. (ready_for plan.seed names first (desks ts) went.windows n went.unused went.took (omega (arith, went.starts, enough)) i d within).room;
        })

    pub went_started : last.most ≡ window_lines → HasStarted last r mid
    went_started most = record { most = most; given = lines; taken = went.taken; read = went.read; count = omega (arith, length-append (all_lines went.windows) (all_lines last.windows), went.starts) }

    -- it was fed, and the next one gathered
    pub went_more : (kind : Kind) (ts' : List DeskTaker) (next : StretchState) (r' : Reading) (new : Option (List ℕ)) (result : Result Bool LabelFault) (b : Bool) → seed_of kind ≡ plan.seed → FeedsAndGathers kind names last next ts ts' r r' mid new result → result ≡ Ok b
        → WentToDesks plan names first (desks ts') next b r' old new
    went_more kind ts' next r' new result b seed feeds is =
        let lines' = feeds.lines in let rest = all_lines next.windows in
        let gives : GivesNext lines' r r' mid new = subst (λ (x : Result Bool LabelFault). OnOk x (GivesNext lines' r r' mid new)) is feeds.gathers.gives in
        let fine : GoOnFine names lines' = subst (λ (x : Result Bool LabelFault). OnOk x (GoOnFine names lines')) is feeds.gathers.fine in
        let parted : lines' ≡ all_lines feeds.more ++ rest = subst (λ (x : Result Bool LabelFault). OnOk x (lines' ≡ all_lines feeds.more ++ rest)) is feeds.joined in
        let number : next.first + length rest ≡ r'.cutter.number = subst (λ (x : Result Bool LabelFault). OnOk x (next.first + length rest ≡ r'.cutter.number)) is feeds.last in
        let fed : TakeAll (took kind) (last.windows ++ feeds.more) ts ts' = subst (λ (x : Result Bool LabelFault). OnOk x (TakeAll (took kind) (last.windows ++ feeds.more) ts ts')) is feeds.fed in
        let windows : List (List (List ℕ)) = went.windows ++ (last.windows ++ feeds.more) in
        let on = gives lines went.taken went.read in
        let whole : lines ++ lines' ≡ all_lines windows ++ rest =
        ap (λ (l : List (List ℕ)). lines ++ l) parted
        ∙ sym (append_assoc lines (all_lines feeds.more) rest)
        ∙ ap (λ (l : List (List ℕ)). l ++ rest)
        (ap (λ (l : List (List ℕ)). l ++ all_lines feeds.more) joined
        ∙ sym (flat_map-append (λ (w : List (List ℕ)). w) (went.windows ++ last.windows) feeds.more)
        ∙ ap all_lines (append_assoc went.windows last.windows feeds.more)) in
        let read : HasRead r' new (all_lines windows ++ rest) (went.taken ++ on.0) = subst (λ (l : List (List ℕ)). HasRead r' new l (went.taken ++ on.0)) whole on.2 in
        record {
          unused = went.unused;
          windows = windows;
          taken = went.taken ++ on.0;
          consumed = Consumes-trans _ _ _ _ _ went.consumed on.1;
          read = read;
          fine = subst (AreFine (desk_rules plan names)) whole (fine plan lines went.fine);
          took = take_windows plan.seed first (desks ts) (desks ts') went.windows (last.windows ++ feeds.more) went.took
              (subst (λ (n : ℕ). TakeBlocks n (desks ts) (last.windows ++ feeds.more) (desks ts')) seed (taken_all kind (last.windows ++ feeds.more) ts ts' fed));
          starts = omega (arith, number, read_number r' new (all_lines windows ++ rest) (went.taken ++ on.0) read, length-append (all_lines windows) rest);
          end = λ ended. feeds.gathers.end (is ∙ ap (λ (x : Bool). Ok x) ended);
        }

    -- the reading ended early
    pub went_wrong : (r' : Reading) (new : Option (List ℕ)) (next : List (List ℕ)) (result : Result Bool LabelFault) (f : LabelFault) → Gathers names r r' mid new next result → result ≡ Err f →
        EndsBefore (desk_rules plan names) r'.last r.most (setting old None) (setting new None) f
    went_wrong r' new next result f gathers is =
        let stops : EndsReading names r'.last r mid new f = subst (λ (x : Result Bool LabelFault). IfErr x (EndsReading names r'.last r mid new)) is gathers.stopped in
        stops plan old lines went.taken went.consumed went.read went.fine

    -- no memory was found after it
    pub went_then_none : EndsBefore (desk_rules plan names) r.last r.most (setting old None) (setting mid None) fault.OutOfMemory
    went_then_none = no_memory names r mid plan old lines went.taken went.consumed went.read went.fine

    -- the source has ended, and the last stretch was fed
    pub went_all : (most : ℕ) (desks' : List DeskState) → r.most ≡ most → more ≡ false → TakeBlocks plan.seed (desks ts) last.windows desks' →
        ReadsLines most (λ lines. AreFine (desk_rules plan names) lines × HaveTaken plan.seed first desks' lines) old mid
    went_all most desks' bound is took =
        let taken : HaveTaken plan.seed first desks' lines = record {
          windows = went.windows ++ last.windows;
          joined = joined;
          took = take_windows plan.seed first (desks ts) desks' went.windows last.windows went.took took;
        } in (
          r.cutter.number,
          all_lines_read (λ ls. AreFine (desk_rules plan names) ls × HaveTaken plan.seed first desks' ls) (λ why given unit. ⊥) most r old mid lines went.taken r.cutter.number bound went.consumed (went.fine, taken) (went.read, went.end is) refl,
        )

-- ---- why it stopped

-- the reason that a result has is the one that it was given
pub stop_is : {T E : Type 0} (P : E → Type 0) (s : E) (r : Result T E) → IsErrAnd r (λ x. x ≡ s) → P s → IfErr r P
stop_is P s (Ok x) is p = absurd is
stop_is P s (Err e) is p = subst P (sym is) p

-- ---- a source that was read

-- there are no more lines than bytes
pub lines_within : (most : ℕ) (text : List ℕ) → length text < most → most ≤ source_limit → length (lines_of text) ≤ most_kept
lines_within most text size bound = omega (arith, lines_are_few text)

-- it ended before its source, and nothing was written
pub ends_early : (last : ℕ) (plan : Plan) (names names' : List (List ℕ)) (most : ℕ) (left left' w : Option (List ℕ)) (f : LabelFault) → names' ≡ names → (f ≡ fault.WriteFault → ⊥) → EndsBefore (desk_rules plan names') last most (setting left None) (setting left' None) f →
    EndsBefore (desk_rules plan names) last most (setting left w) (setting left' w) f
ends_early last plan names names' most left left' w f same quiet ends =
    subst (λ (l : List (List ℕ)). EndsBefore (desk_rules plan l) last most (setting left w) (setting left' w) f) same
    (ends_quietly (desk_rules plan names') (never plan names') last most left left' None w f quiet ends)

-- lines that are fine by the same names
pub fine_same : (plan : Plan) (names names' : List (List ℕ)) (lines : List (List ℕ)) → names' ≡ names → AreFine (desk_rules plan names') lines → AreFine (desk_rules plan names) lines
fine_same plan names names' lines same fine = subst (λ (l : List (List ℕ)). AreFine (desk_rules plan l) lines) same fine

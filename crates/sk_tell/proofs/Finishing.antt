-- Where a telling ends, put together.
use Rattle.std.proofs.Common.{◌≡◌, inr, ℕ, ◌<◌, ◌≤◌, List, [], ◌∷◌, ◌++◌, length, get_or, All, Contains, Option, Result, Ok, Err, IsErrAnd, IfOk, IfErr, refl, sym, ap, subst, ◌∙◌, arith}
use Rattle.std.specs.List.{range_with_len}
use Rattle.std.specs.Io.KnownBytes.{Appends}
use Rattle.std.proofs.KnownBytes.{Appends-trans}
use Rattle.std.proofs.lemmas.List.Elements.{All-weaker}
use Rattle.sk_model.specs.Causes.{AppendsPart}
use Rattle.sk_model.specs.Entries.{Entry, entries_by}
use Rattle.sk_model.proofs.Missing.{begins_trans}
use Rattle.sk_gate.specs.Views.{known_of}
use Rattle.sk_hub.specs.Hearts.{HeartState}
use Rattle.sk_hub.specs.Updaters.{UpdaterState, kept_of}
use Rattle.sk_read.specs.declared.fault.Fault.{Fault}
use Rattle.sk_read.specs.declared.fault.Fault.TheVariants as fault
use Rattle.sk_feed.specs.Hubs.{Hub}
use Rattle.sk_read.specs.Units.{units_by}
use Rattle.sk_ingest.proofs.Endings.{all_so}
use Rattle.sk_report.proofs.Fronts.{part_of_next}
use Rattle.sk_snap.specs.History.{entries_in, name_of}
use Rattle.sk_snap.specs.Versions.{Learnt, items_in}
use Rattle.sk_tell.specs.declared.telling.Telling.{Telling}
use Rattle.sk_tell.specs.Manners.{Manner, Holds, manner_by}
use Rattle.sk_learn.specs.Closing.{Closes, numbers_of}
use Rattle.sk_learn.proofs.Numbered.{numbered_from_0, numbered_below}
use Rattle.sk_tell.specs.Feeding.{Fed}
use Rattle.sk_tell.specs.Finishing.{Finishes, StopsShort}
use Rattle.sk_tell.specs.Headline.{IsListOf, Goes, Shows}
use Rattle.sk_tell.specs.Endings.{Setting, setting, ReadsUnits, TellsSoFar, TellsAll, TellsPartOfAll, EndsAt, TellsOrEnds}
use Rattle.sk_tell.specs.Texts.{interim_text}
use Rattle.sk_tell.proofs.Orders.{all_items}

pub ended_by : (last : ℕ) (manner : Manner) (most : ℕ) (old new : Setting) (r : Result (HeartState × Learnt) Fault) (f : Fault) → IsErrAnd r (λ e. e ≡ f) → EndsAt manner last most old new f → TellsOrEnds manner last most old new r
ended_by last manner most old new (Ok x) f is ends = absurd is
ended_by last manner most old new (Err e) f is ends = subst (EndsAt manner last most old new) (sym is) ends

pub reads_so : (column most : ℕ) (G G' : List (List ℕ) → Type 0) (old new : Option (List ℕ)) → ((units : List (List ℕ)) → G units → G' units) → ReadsUnits column most G old new → ReadsUnits column most G' old new
reads_so column most G G' old new so (n, reads) = (n, all_so (units_by column) most G G' (λ f units unit. ⊥) (λ f units unit. ⊥) so (λ f units unit no. no) n old new reads)

at_some : {A P : Type 0} (xs : List A) (i : ℕ) → i < length xs → (A → P) → P
at_some [] i within f = let none : ⊥ = omega arith in absurd none
at_some (x ∷ xs) i within f = f x

module _ (manner : Manner) (left left' w w' w'' : Option (List ℕ)) (b : Hub) (reader s : Learnt) (h : HeartState) (units : List (List ℕ)) (fed : Fed manner w w' b reader units) (end : Closes b.heart b.updaters reader h s)
    (line : List ℕ) (line_is : line ≡ manner.line (items_in s.known)) (holds : Holds manner (items_in s.known)) where
  numbers : numbers_of b.updaters ≡ range_with_len 0 (length b.updaters)
  numbers = numbered_from_0 b.updaters (λ i d within. (fed.whole.updaters i d within).number)

  -- what holds of the entries by the number of each updater holds by its place
  each : (i : ℕ) (d : UpdaterState) → i < length b.updaters → entries_by i (entries_in s.known) ≡ kept_of (get_or b.updaters i d)
  each i d within = subst (λ n. entries_by n (entries_in s.known) ≡ kept_of (get_or b.updaters i d)) (fed.whole.updaters i d within).number (end.exactly.each i d within)

  knows : (i : ℕ) (d : UpdaterState) → i < length b.updaters → known_of h.view i ≡ kept_of (get_or b.updaters i d)
  knows i d within = subst (λ n. known_of h.view n ≡ kept_of (get_or b.updaters i d)) (fed.whole.updaters i d within).number (end.takes.taken_in i d within).known

  list : IsListOf manner (fed.course.windows ++ fed.course.rest ∷ []) (entries_in s.known)
  list = record {
    only = subst (λ n. All (λ entry. entry.0 < n) (entries_in s.known)) fed.count
        (All-weaker (λ (e : Entry). Contains (numbers_of b.updaters) e.0) (λ (e : Entry). e.0 < length b.updaters) (λ e has. numbered_below b.updaters (λ i d within. (fed.whole.updaters i d within).number) e.0 has) (entries_in s.known) end.exactly.only);
    each = λ i within. let within' : i < length b.updaters = omega (arith, fed.count) in at_some b.updaters i within' (λ d. each i d within' ∙ fed.kept i d within');
  }

  goes : Goes fed.course.moments (entries_in s.known)
  goes = λ i m inside. begins_trans _ _ _ (fed.seen i m inside) end.takes.goes.grows

  shows : Shows manner h s
  shows = record {
    drained = end.takes.drained ∙ ap (λ l. l ++ numbers_of b.updaters) fed.drained ∙ numbers ∙ ap (range_with_len 0) fed.count;
    known = λ i within. let within' : i < length b.updaters = omega (arith, fed.count) in at_some b.updaters i within' (λ d. knows i d within' ∙ sym (each i d within'));
    name = end.takes.name ∙ fed.name ∙ ap name_of (sym end.takes.goes.book);
    numbers = end.takes.goes.numbers ∙ fed.numbers;
  }

  pub all_told : 0 < manner.updaters → Appends w' w'' line → TellsAll manner (setting left w) (setting left' w'') h s units
  all_told some last = record {
    text = interim_text manner fed.course.moments ++ manner.line (items_in s.known);
    written = Appends-trans w w' w'' (interim_text manner fed.course.moments) (manner.line (items_in s.known)) fed.written (subst (Appends w' w'') line_is last);
    exactly = record {
      good = fed.course.good;
      windows = fed.course.windows;
      rest = fed.course.rest;
      cut = fed.course.cut;
      moments = fed.course.moments;
      asked = fed.course.asks.count;
      written = refl;
      all = all_items manner units fed.course (entries_in s.known) list some;
      holds = holds;
      grows = fed.course.asks.grows;
      goes = goes;
      lacks = fed.course.asks.each;
      list = list;
      shown = shows;
    };
  }

  pub part_told : AppendsPart w' w'' line → TellsPartOfAll manner (setting left w) (setting left' w'') units
  part_told last = record {
    course = fed.course;
    whole = entries_in s.known;
    list = list;
    goes = goes;
    holds = holds;
    written = part_of_next w w' w'' (interim_text manner fed.course.moments) (manner.line (items_in s.known)) fed.written (subst (AppendsPart w' w'') line_is last);
  }

-- ---- by what the end of a telling did

module _ {A Q : Type 0} (numbers : List ℕ) (line : Q → List ℕ → List ℕ → List ℕ) (lower upper : Q → List ℕ → List ℕ → ℕ) (telling : Telling A Q) (most : ℕ) (left left' w w' w'' : Option (List ℕ)) (b : Hub) (reader : Learnt) (some : 0 < telling.updaters) where
  abbrev manner : Manner
  manner = manner_by numbers line lower upper telling

  abbrev old : Setting
  old = setting left w

  abbrev new : Setting
  new = setting left' w''

  by_numbers : (s : Learnt) (ns : List ℕ) → ns ≡ numbers → lower telling.query ns (items_in s.known) ≤ upper telling.query ns (items_in s.known) → Holds manner (items_in s.known)
  by_numbers s ns same holds = subst (λ n. lower telling.query n (items_in s.known) ≤ upper telling.query n (items_in s.known)) same holds

  whole : (h : HeartState) (s : Learnt) → Finishes line lower upper telling.query b reader (Appends w' w'') h s → (units : List (List ℕ)) → Fed manner w w' b reader units → TellsAll manner old new h s units
  whole h s f units fed =
      all_told manner left left' w w' w'' b reader s h units fed f.closes (line telling.query reader.numbers (items_in s.known)) (ap (λ n. line telling.query n (items_in s.known)) fed.numbers) (by_numbers s reader.numbers fed.numbers f.holds) some f.written

  part : (h : HeartState) (s : Learnt) → Finishes line lower upper telling.query b reader (AppendsPart w' w'') h s → (units : List (List ℕ)) → Fed manner w w' b reader units → TellsPartOfAll manner old new units
  part h s f units fed =
      part_told manner left left' w w' w'' b reader s h units fed f.closes (line telling.query reader.numbers (items_in s.known)) (ap (λ n. line telling.query n (items_in s.known)) fed.numbers) (by_numbers s reader.numbers fed.numbers f.holds) f.written

  stopped : (last : ℕ) (f : Fault) → StopsShort line lower upper telling.query b reader w' w'' f → ReadsUnits telling.column most (Fed manner w w' b reader) left left' → EndsAt manner last most old new f
  stopped last fault.WriteFault (h, s, short) reads = inr (reads_so telling.column most (Fed manner w w' b reader) (TellsPartOfAll manner old new) left left' (part h s short) reads)
  stopped last fault.OutOfMemory same reads = inr (reads_so telling.column most (Fed manner w w' b reader) (TellsSoFar manner old new) left left'
      (λ units fed. record { course = fed.course; written = subst (λ z. Appends w z (interim_text manner fed.course.moments)) (sym same) fed.written }) reads)
  stopped last f none reads = absurd none

  pub went : (last : ℕ) (r : Result (HeartState × Learnt) Fault) → ReadsUnits telling.column most (Fed manner w w' b reader) left left'
      → IfOk r (λ made. Finishes line lower upper telling.query b reader (Appends w' w'') made.0 made.1) → IfErr r (StopsShort line lower upper telling.query b reader w' w'') → TellsOrEnds manner last most old new r
  went last (Ok made) reads finishes short = reads_so telling.column most (Fed manner w w' b reader) (TellsAll manner old new made.0 made.1) left left' (whole made.0 made.1 finishes) reads
  went last (Err f) reads finishes short = stopped _ f short reads

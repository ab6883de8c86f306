-- Windows of a source's lines that are gathered one after another, and the blocks of them that a desk takes.
use Rattle.std.proofs.Common.{◌≡◌, ℕ, ◌+◌, ◌<◌, ◌≤◌, Bool, true, Option, None, Result, Ok, Err, IsErrAnd, OnOk, inl, List, [], ◌∷◌, ◌++◌, length, get_or, take, drop, map, refl, sym, ap, subst, ◌∙◌, arith, append-nil, append_assoc, length-append}
use Rattle.std.proofs.KnownBytes.{Consumes-trans}
use Rattle.std.proofs.lemmas.Result.{on_ok_weaker}
use Rattle.std.proofs.lemmas.List.{take_more, drop_more, length-map, get_or-map}
use Rattle.sk_read.specs.Reading.{Reading, HasRead, remaining_of}
use Rattle.sk_fill.specs.Blocks.{block_of, blocks_of}
use Rattle.sk_fill.specs.Windows.{WindowState, all_lines}
use Rattle.sk_fill.proofs.Cutting.{all_lines_more}
use Rattle.sk_feed.proofs.Rooms.{few_blocks}
use Rattle.sk_label.specs.Rules.{AreFine}
use Rattle.sk_label.specs.Goes.{setting, EndsBefore}
use Rattle.sk_label.specs.declared.fault.LabelFault.{LabelFault}
use Rattle.sk_label.specs.declared.fault.LabelFault.TheVariants as label
use Rattle.sk_tenant.specs.Desks.{DeskState}
use Rattle.sk_desks.specs.Desks.{desk_rules}
use Rattle.sk_desks.specs.Feeds.{TakesLines, HasRoom, HasTenants}
use Rattle.sk_desks.specs.Gathers.{GivesNext, GoOnFine, EndsReading, Gathers}
use Rattle.sk_desks.proofs.BlockLaws.{blocks_more}
use Rattle.sk_desks.proofs.GatherLaws.{stops_within, no_line_given, no_line_fine}
use Rattle.sk_desks.proofs.Taking.{takes_no_line, takes_more, has_still, room_after}
use Rattle.sk_desks.proofs.WindowLaws.{if_err_so}

-- ---- a window

pub none_on_err : {T E : Type 0} (P : Type 0) (result : Result T E) (Q : E → Type 0) → IsErrAnd result Q → OnOk result P
none_on_err P (Ok x) Q is = absurd is
none_on_err P (Err e) Q is = tt

-- no memory was found for one
pub no_memory : (names : List (List ℕ)) (r : Reading) (left : Option (List ℕ)) → EndsReading names r.last r left left label.OutOfMemory
no_memory names r left = λ plan first given taken consumed has fine.
    stops_within names plan r r.most first left given [] taken refl consumed (subst (λ (l : List (List ℕ)). HasRead r left l taken) (sym (append-nil given)) has) has.in_time fine (length given + 1) refl label.OutOfMemory (inl refl)

-- how it went is passed on
pub gathers_passed : (names : List (List ℕ)) (r s : Reading) (old new : Option (List ℕ)) (lines : List (List ℕ)) (f : LabelFault) (went result : Result Bool LabelFault) → Gathers names r s old new lines went → went ≡ Err f → IsErrAnd result (λ x. x ≡ f) → Gathers names r s old new lines result
gathers_passed names r s old new lines f went (Ok b) gathers was is = absurd is
gathers_passed names r s old new lines f went (Err e) gathers was is = subst (Gathers names r s old new lines) (was ∙ ap (λ (x : LabelFault). Err x) (sym is)) gathers

-- a reading that failed says nothing of its lines
pub gathers_as : (names : List (List ℕ)) (r s : Reading) (old new : Option (List ℕ)) (lines lines' : List (List ℕ)) (result : Result Bool LabelFault) → OnOk result (lines ≡ lines') → Gathers names r s old new lines result → Gathers names r s old new lines' result
gathers_as names r s old new lines lines' (Ok b) is gathers = subst (λ (l : List (List ℕ)). Gathers names r s old new l (Ok b)) is gathers
gathers_as names r s old new lines lines' (Err e) is gathers = record {
  gives = tt;
  fine = tt;
  end = gathers.end;
  progress = gathers.progress;
  bound = gathers.bound;
  stopped = gathers.stopped;
  quiet = gathers.quiet;
}

-- ---- lines after others

-- these lines were gathered, and no more so far
pub record HasGathered (names lines : List (List ℕ)) (r q : Reading) (old mid : Option (List ℕ)) : Type 0 where
  pub gives : GivesNext lines r q old mid
  pub fine : GoOnFine names lines
  pub bound : q.most ≡ r.most
  pub fewer : remaining_of q ≤ remaining_of r

pub gathered_none : (names lines : List (List ℕ)) (r : Reading) (left : Option (List ℕ)) → lines ≡ [] → HasGathered names lines r r left left
gathered_none names lines r left empty = record { gives = no_line_given r left lines empty; fine = no_line_fine names lines empty; bound = refl; fewer = omega arith }

pub gathered : (names lines : List (List ℕ)) (r s : Reading) (old new : Option (List ℕ)) (result : Result Bool LabelFault) → Gathers names r s old new lines result → result ≡ Ok true → HasGathered names lines r s old new
gathered names lines r s old new result gathers is = record {
  gives = subst (λ (x : Result Bool LabelFault). OnOk x (GivesNext lines r s old new)) is gathers.gives;
  fine = subst (λ (x : Result Bool LabelFault). OnOk x (GoOnFine names lines)) is gathers.fine;
  bound = gathers.bound;
  fewer = let less = gathers.progress is in omega (arith, less);
}

module _ (names xs ys : List (List ℕ)) (r q s : Reading) (old mid new : Option (List ℕ)) (before : HasGathered names xs r q old mid) (result : Result Bool LabelFault) (gathers : Gathers names q s mid new ys result) where
  -- also if it failed
  stops : (f : LabelFault) → EndsReading names s.last q mid new f → EndsReading names s.last r old new f
  stops f ends = λ plan first given taken consumed has given_fine.
      let on = before.gives given taken has in
      subst (λ (m : ℕ). EndsBefore (desk_rules plan names) s.last m (setting first None) (setting new None) f) before.bound
      (ends plan first (given ++ xs) (taken ++ on.0) (Consumes-trans _ _ _ _ _ consumed on.1) on.2 (before.fine plan given given_fine))

  gives_on : GivesNext ys q s mid new → GivesNext (xs ++ ys) r s old new
  gives_on more given taken has =
      let on = before.gives given taken has in
      let now = more (given ++ xs) (taken ++ on.0) on.2 in (
        on.0 ++ now.0,
        Consumes-trans _ _ _ _ _ on.1 now.1,
        subst (λ (l : List (List ℕ)). HasRead s new l (taken ++ (on.0 ++ now.0))) (append_assoc given xs ys) (subst (HasRead s new ((given ++ xs) ++ ys)) (append_assoc taken on.0 now.0) now.2),
      )

  fine_on : GoOnFine names ys → GoOnFine names (xs ++ ys)
  fine_on more = λ plan given given_fine. subst (AreFine (desk_rules plan names)) (append_assoc given xs ys) (more plan (given ++ xs) (before.fine plan given given_fine))

  pub gathers_both : Gathers names r s old new (xs ++ ys) result
  gathers_both = record {
    gives = on_ok_weaker result gives_on gathers.gives;
    fine = on_ok_weaker result fine_on gathers.fine;
    end = gathers.end;
    progress = λ is. let less = gathers.progress is in omega (arith, less, before.fewer);
    bound = gathers.bound ∙ before.bound;
    stopped = if_err_so (EndsReading names s.last q mid new) (EndsReading names s.last r old new) result stops gathers.stopped;
    quiet = gathers.quiet;
  }

  -- the lines of a window after those of others
  pub gathers_window : (windows windows' : List (List (List ℕ))) → xs ≡ all_lines windows → OnOk result (windows' ≡ windows ++ ys ∷ []) → Gathers names r s old new (all_lines windows') result
  gathers_window windows windows' are added =
      gathers_as names r s old new (xs ++ ys) (all_lines windows') result (on_ok_weaker result (λ is. ap (λ (l : List (List ℕ)). l ++ ys) are ∙ sym (ap all_lines is ∙ all_lines_more windows ys)) added) gathers_both

-- no memory was found after lines that were gathered
pub gathers_then_none : (names lines more : List (List ℕ)) (r s : Reading) (old new : Option (List ℕ)) (b : Bool) (went result : Result Bool LabelFault) → Gathers names r s old new lines went → went ≡ Ok b → IsErrAnd result (λ x. x ≡ label.OutOfMemory) → Gathers names r s old new more result
gathers_then_none names lines more r s old new b went (Ok x) gathers was is = absurd is
gathers_then_none names lines more r s old new b went (Err e) gathers was is = record {
  gives = tt;
  fine = tt;
  end = λ same. cc;
  progress = λ same. cc;
  bound = gathers.bound;
  stopped = λ plan first given taken consumed has given_fine.
      let gives : GivesNext lines r s old new = subst (λ (x : Result Bool LabelFault). OnOk x (GivesNext lines r s old new)) was gathers.gives in
      let fine : GoOnFine names lines = subst (λ (x : Result Bool LabelFault). OnOk x (GoOnFine names lines)) was gathers.fine in
      let on = gives given taken has in
      subst (λ (x : LabelFault). EndsBefore (desk_rules plan names) s.last r.most (setting first None) (setting new None) x) (sym is)
      (subst (λ (m : ℕ). EndsBefore (desk_rules plan names) s.last m (setting first None) (setting new None) label.OutOfMemory) gathers.bound
      (no_memory names s new plan first (given ++ lines) (taken ++ on.0) (Consumes-trans _ _ _ _ _ consumed on.1) on.2 (fine plan given given_fine)));
  quiet = λ same. cc;
}

-- ---- windows that a desk takes its blocks of

at_place : (ws : List WindowState) (at : ℕ) (w : WindowState) → at < length ws → w ≡ get_or ws at w → w.lines ≡ get_or (map (λ (z : WindowState). z.lines) ws) at w.lines
at_place ws at w within is = ap (λ (z : WindowState). z.lines) is ∙ sym (get_or-map (λ (z : WindowState). z.lines) ws at w w.lines within)

-- a desk on its way through windows: it took its blocks of those before a place, and has room for the others
pub record IsOnItsWay (seed : ℕ) (windows : List (List (List ℕ))) (i n at : ℕ) (d e : DeskState) : Type 0 where
  pub took : TakesLines seed d (blocks_of (take at windows) i n) e
  pub tenants : HasTenants e
  pub room : HasRoom (length (all_lines (drop at windows))) e

pub sets_out : (seed : ℕ) (windows : List (List (List ℕ))) (i n : ℕ) (d : DeskState) → HasTenants d → HasRoom (length (all_lines windows)) d → IsOnItsWay seed windows i n 0 d d
sets_out seed windows i n d tenants room = record { took = takes_no_line seed d; tenants = tenants; room = room }

module _ (seed : ℕ) (ws : List WindowState) (w : WindowState) (i n at : ℕ) (d e : DeskState) (within : at < length ws) (is : w ≡ get_or ws at w) (way : IsOnItsWay seed (map (λ (z : WindowState). z.lines) ws) i n at d e) where
  abbrev all : List (List (List ℕ))
  all = map (λ (z : WindowState). z.lines) ws

  abbrev later : List (List ℕ)
  later = all_lines (drop (at + 1) all)

  room_both : HasRoom (length (w.lines ++ later)) e
  room_both = subst (λ (l : List (List (List ℕ))). HasRoom (length (all_lines l)) e)
      (drop_more all at w.lines (omega (arith, within, length-map ws (λ (z : WindowState). z.lines))) ∙ ap (λ (l : List (List ℕ)). l ∷ drop (at + 1) all) (sym (at_place ws at w within is))) way.room

  -- it has room for the next one
  pub has_room : HasRoom (length w.lines) e
  has_room = λ t u inside. omega (arith, room_both t u inside, length-append w.lines later)

  -- it took its block of that
  pub goes_on_its_way : i < n → (e' : DeskState) → TakesLines seed e (block_of w.lines i n) e' → IsOnItsWay seed (map (λ (z : WindowState). z.lines) ws) i n (at + 1) d e'
  goes_on_its_way block e' took =
      let its = block_of w.lines i n in
      let few : length its ≤ length w.lines = omega (arith, few_blocks (w.lines ∷ []) n i block, length-append its [], length-append w.lines []) in
      let room : HasRoom (length its + length later) e = λ t u inside. omega (arith, room_both t u inside, length-append w.lines later, few) in
      let taken : take (at + 1) all ≡ take at all ++ w.lines ∷ []
      = take_more all at w.lines (omega (arith, within, length-map ws (λ (z : WindowState). z.lines))) ∙ ap (λ (l : List (List ℕ)). take at all ++ l ∷ []) (sym (at_place ws at w within is)) in
      record {
        took = subst (λ (l : List (List ℕ)). TakesLines seed d l e') (sym (ap (λ (l : List (List (List ℕ))). blocks_of l i n) taken ∙ blocks_more (take at all) w.lines i n))
            (takes_more seed d e e' (blocks_of (take at all) i n) its way.took took);
        tenants = has_still seed e e' its took way.tenants;
        room = room_after seed e e' its (length later) way.tenants took room;
      }

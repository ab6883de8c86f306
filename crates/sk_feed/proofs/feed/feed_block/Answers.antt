use Rattle.std.proofs.Common.{◌≡◌, ℕ, List, [], ◌<◌, ◌≤◌, ◌+◌, ◌-◌, ◌++◌, length, get_or, drop, Option, Ok, false, refl, sym, subst, ap, ◌∙◌, arith, slice_range}
use Rattle.std.proofs.lemmas.List.{get_or-drop, drop-drop}
use Rattle.sk_hub.specs.Updaters.{UpdaterState, kept_of}
use Rattle.sk_fill.specs.Windows.{item_in, items_in}
use Rattle.sk_hub.specs.Calls.{Takes}
use Rattle.sk_feed.specs.Calls.{filter_of, IsFedEach}
use Rattle.sk_feed.proofs.Calls.{no_line_fed, line_fed, line_unfed, lines_fed, stopped}
use Rattle.sk_hub.proofs.Calls.{takes_then_none, on_err}
use Rattle.sk_feed.proofs.Feeding.{no_line, line_taken, line_passed, line_refused, room_after, room_passed}
use Rattle.sk_feed.proofs.feed.feed_block.Goals as goal
use Rattle.sk_feed.proofs.feed.feed_block.Goals.{in-Some+in_ok-feed_item+else-not-branch, in_default}
use Rattle.sk_read.specs.declared.kind.Kind.{Kind}
use Rattle.sk_model.specs.Limits.{most_kept}

-- what the first of the lines to come gives is the item of the line at its place in the window
found_is : (kind : Kind) (lines rest : List (List ℕ)) (place : ℕ) (found : Option ℕ) → rest ≡ drop place lines → found ≡ item_in kind (get_or rest 0 []) → found ≡ item_in kind (get_or lines place [])
found_is kind lines rest place found at value =
    let here : place + 0 ≡ place = omega arith in
    value ∙ ap (λ l. item_in kind (get_or l 0 [])) at ∙ ap (item_in kind) (get_or-drop place lines 0 [] ∙ ap (λ n. get_or lines n []) here)

-- after it come those from the next place on
rest_is : (lines rest rest' : List (List ℕ)) (place : ℕ) → rest ≡ drop place lines → rest' ≡ drop 1 rest → rest' ≡ drop (place + 1) lines
rest_is lines rest rest' place at moved = moved ∙ ap (drop 1) at ∙ drop-drop 1 place lines

pub line-init : goal.line-init
line-init g c = let k = g.C.Composable in record {
  rest = c.lines_from-lines.ensures;
  taken = no_line k.keeps_of k.hint_of c.args.u.now c.args.kind c.args.w.now.lines c.args.from;
  room = c.requires.room;
  leads = no_line_fed (filter_of k.keeps_of k.early_of k.hint_of) c.args.help c.args.u.now c.args.kind c.args.w.now.lines c.args.from;
}

pub returns-in_err-feed_item-clause-refused : goal.returns-in_err-feed_item-clause-refused
returns-in_err-feed_item-clause-refused g c =
    let value = found_is c.args.kind c.args.w.now.lines c.line.lines.rest c.line.place c.next_item.result c.line.invariant.rest c.next_item.ensures.value in
    let k = g.C.Composable in
    let front = line_refused k.keeps_of k.hint_of c.args.u.now c.line.u c.feed_item.new.u c.args.kind c.args.w.now.lines c.args.from c.line.place c.args.to c.in-Some.item c.line.auto.place c.line-test.true c.requires.within
    (sym value ∙ c.in-Some.is) c.line.invariant.taken c.in_err-feed_item.ensures.refused in
    on_err c.from_residual.result record {
      place = front.0;
      after = front.1;
      before = front.2;
      taken = front.3;
      helping = c.in_err-feed_item.ensures.helping;
      cause = c.in_err-feed_item.ensures.cause;
    }

pub line-preserved : goal.line-preserved
line-preserved g c =
    let value = found_is c.args.kind c.args.w.now.lines c.line.lines.rest c.line.place c.next_item.result c.line.invariant.rest c.next_item.ensures.value in
    let k = g.C.Composable in
    let f = filter_of k.keeps_of k.early_of k.hint_of in
    let inside : c.line.place < length c.args.w.now.lines = omega (arith, c.requires.within, c.line-test.true) in
    let further = rest_is c.args.w.now.lines c.line.lines.rest c.next_item.new.self.rest c.line.place c.line.invariant.rest c.next_item.ensures.rest in
    elim c.match-next_item.branch [
      | in-Some+in_ok-feed_item+else-not-branch w ↦
          let taken = w.in_ok-feed_item.ensures.taken (ap Ok w.if-not-branch.false) in record {
            rest = further;
            taken = subst (λ z. Takes k.keeps_of k.hint_of c.args.u.now (items_in c.args.kind (slice_range c.args.w.now.lines c.args.from (c.line.place + 1))) z) (sym w.u-is)
                (line_taken k.keeps_of k.hint_of c.args.u.now c.line.u w.feed_item.new.u c.args.kind c.args.w.now.lines c.args.from c.line.place w.in-Some.item c.line.auto.place inside (sym value ∙ w.in-Some.is) c.line.invariant.taken taken);
            leads = subst (λ z. (u' : UpdaterState) (items : List ℕ) → IsFedEach f c.args.help z items u' → IsFedEach f c.args.help c.args.u.now (items_in c.args.kind (slice_range c.args.w.now.lines c.args.from (c.line.place + 1)) ++ items) u') (sym w.u-is)
                (line_fed f c.args.help c.args.u.now c.args.kind c.args.w.now.lines c.args.from c.line.u w.feed_item.new.u c.line.place w.in-Some.item c.line.auto.place inside (sym value ∙ w.in-Some.is) c.line.invariant.leads (w.in_ok-feed_item.ensures.fed (ap Ok w.if-not-branch.false)));
            room = subst (λ z. length (kept_of z) + (c.args.to - (c.line.place + 1)) ≤ most_kept) (sym w.u-is)
                (room_after k.keeps_of k.hint_of c.line.u w.feed_item.new.u w.in-Some.item c.line.place c.args.to most_kept taken c.line-test.true c.line.invariant.room);
          }
      | in_default w ↦ record {
        rest = further;
        taken = subst (λ z. Takes k.keeps_of k.hint_of c.args.u.now (items_in c.args.kind (slice_range c.args.w.now.lines c.args.from (c.line.place + 1))) z) (sym w.u-is)
            (line_passed k.keeps_of k.hint_of c.args.u.now c.line.u c.args.kind c.args.w.now.lines c.args.from c.line.place c.line.auto.place inside (sym value ∙ w.in_default.is) c.line.invariant.taken);
        leads = subst (λ z. (u' : UpdaterState) (items : List ℕ) → IsFedEach f c.args.help z items u' → IsFedEach f c.args.help c.args.u.now (items_in c.args.kind (slice_range c.args.w.now.lines c.args.from (c.line.place + 1)) ++ items) u') (sym w.u-is)
            (line_unfed f c.args.help c.args.u.now c.args.kind c.args.w.now.lines c.args.from c.line.u c.line.place c.line.auto.place inside (sym value ∙ w.in_default.is) c.line.invariant.leads);
        room = subst (λ z. length (kept_of z) + (c.args.to - (c.line.place + 1)) ≤ most_kept) (sym w.u-is) (room_passed (length (kept_of c.line.u)) c.line.place c.args.to most_kept c.line.invariant.room);
      }
    ]

pub returns-then-not-branch-clause-fed : goal.returns-then-not-branch-clause-fed
returns-then-not-branch-clause-fed g c =
    let value = found_is c.args.kind c.args.w.now.lines c.line.lines.rest c.line.place c.next_item.result c.line.invariant.rest c.next_item.ensures.value in
    let k = g.C.Composable in let f = filter_of k.keeps_of k.early_of k.hint_of in
    let alone : c.args.help ≡ false = c.in_ok-feed_item.ensures.alone (ap Ok c.if-not-branch.true) in record {
      after = c.line.auto.place;
      before = omega (arith, c.line-test.true);
      taken = takes_then_none k.keeps_of k.hint_of c.args.u.now c.line.u c.feed_item.new.u (items_in c.args.kind (slice_range c.args.w.now.lines c.args.from c.line.place)) c.line.invariant.taken
          (c.in_ok-feed_item.ensures.none (ap Ok c.if-not-branch.true));
      all = λ helps. absurd (let is = alone in cc);
      fed = λ end. absurd (omega (arith, end, c.line-test.true));
      busy = λ below. stopped f c.args.help c.args.u.now c.line.u c.feed_item.new.u (items_in c.args.kind (slice_range c.args.w.now.lines c.args.from c.line.place)) _ c.in-Some.item alone
          (lines_fed f c.args.help c.args.u.now c.args.kind c.args.w.now.lines c.args.from c.line.u c.line.place c.line.invariant.leads)
          (sym value ∙ c.in-Some.is) (c.in_ok-feed_item.ensures.busy (ap Ok c.if-not-branch.true));
    }

pub returns-clause-fed : goal.returns-clause-fed
returns-clause-fed g c =
    let k = g.C.Composable in let f = filter_of k.keeps_of k.early_of k.hint_of in
    let at_end : c.line.place ≡ c.args.to = omega (arith, c.line-test.false, c.line.auto.place-end) in record {
      after = c.requires.order;
      before = omega arith;
      taken = subst (λ p. Takes k.keeps_of k.hint_of c.args.u.now (items_in c.args.kind (slice_range c.args.w.now.lines c.args.from p)) c.line.u) at_end c.line.invariant.taken;
      all = λ helps. refl;
      fed = λ end. subst (λ p. IsFedEach f c.args.help c.args.u.now (items_in c.args.kind (slice_range c.args.w.now.lines c.args.from p)) c.line.u) at_end
          (lines_fed f c.args.help c.args.u.now c.args.kind c.args.w.now.lines c.args.from c.line.u c.line.place c.line.invariant.leads);
      busy = λ below. absurd (omega (arith, below));
    }

-- The end of an interval: its reply is that of its pane, and the next ones are closed.
use Rattle.std.proofs.Common.{◌≡◌, ℕ, ◌+◌, ◌-◌, ◌<◌, ◌≤◌, nat_lt, if◌then◌else◌, List, [], ◌∷◌, ◌++◌, length, filter, drop, replicate, get_or, slice_index, Some, None, sym, ap, subst, ◌∙◌, arith}
use Rattle.std.proofs.lemmas.List.Elements.{All-map}
use Rattle.sk_model.specs.Entries.{Entry, items_of_entries}
use Rattle.sk_model.specs.Sketch.{k_smallest}
use Rattle.sk_model.specs.Width.{item_end, IsItem, AreItems}
use Rattle.sk_model.proofs.Murmur.{hash_of-item}
use Rattle.sk_model.proofs.Sketch.{k_smallest_append}
use Rattle.sk_theta.specs.Kept.{Sketch}
use Rattle.sk_theta.specs.Sizes.{Sizes}
use Rattle.sk_theta.specs.declared.reply.Reply.{Reply}
use Rattle.sk_hub.specs.Updaters.{UpdaterState, IsWholeUpdater}
use Rattle.sk_learn.specs.Closing.{AreApart, HasExactly}
use Rattle.sk_window.specs.Intervals.{StandForEach, IsReplyOf, all_items, with_closed, with_skipped}
use Rattle.sk_window.specs.Panes.{PanesState, Closes, Moves}
use Rattle.sk_snap.specs.History.{entries_in}
use Rattle.sk_panes.specs.Candidates.{CandidatesState, HaveSmallest}
use Rattle.sk_panes.specs.Panes.{item_of, running_after, pane_items}
use Rattle.sk_panes.specs.Running.{is_in_interval, items_of_interval, earlier_in, lists_before, FeedsSmallest, Stands, IsLast, ComesTo}
use Rattle.sk_panes.specs.declared.plan.Plan.{Plan}
use Rattle.sk_panes.proofs.Lines.{none_later, pane_of_intervals}
use Rattle.sk_panes.proofs.Lists.{closed_next, skipped_next, lists_with_own, SameEach, each_same, same_append, same_drop, stand_same}
use Rattle.sk_panes.proofs.Feeding.{at_first, fresh_feeds, smallest_kept, exactly_kept}

-- ---- replies

-- a reply is of any list with the same k smallest
pub reply_same : (k : ℕ) (xs ys : List ℕ) (reply : Reply) → k_smallest k xs ≡ k_smallest k ys → IsReplyOf k xs reply → IsReplyOf k ys reply
reply_same k xs ys reply same is =
    let theta : List ℕ → ℕ = λ kept. if nat_lt (length kept) k then item_end else slice_index kept (k - 1) in
    record { count_is = is.count_is ∙ ap (λ (kept : List ℕ). length kept) same; theta_is = is.theta_is ∙ ap theta same }

-- the closed lists, and a list with the k smallest of the running interval's items, have the k smallest of the pane
pub pane_same : (plan : Plan) (lines : List (List ℕ)) (c : ℕ) (kept : List ℕ) → 1 ≤ plan.last → k_smallest plan.k kept ≡ k_smallest plan.k (items_of_interval plan lines c)
    → k_smallest plan.k (all_items (lists_before plan lines c) ++ kept) ≡ k_smallest plan.k (pane_items plan c lines)
pane_same plan lines c kept last same =
    let before = all_items (lists_before plan lines c) in
    sym (k_smallest_append plan.k before kept)
    ∙ ap (λ (l : List ℕ). k_smallest plan.k (k_smallest plan.k before ++ l)) same
    ∙ k_smallest_append plan.k before (items_of_interval plan lines c)
    ∙ ap (k_smallest plan.k) (lists_with_own plan lines c)
    ∙ pane_of_intervals plan lines c plan.k last

-- ---- one updater

pub items_are_items : (plan : Plan) (lines : List (List ℕ)) (c : ℕ) → AreItems (items_of_interval plan lines c)
items_are_items plan lines c = All-map IsItem (item_of plan) (filter (is_in_interval plan c) lines) (λ i d within. hash_of-item plan.seed _)

one_apart : (us : List UpdaterState) (u : UpdaterState) → us ≡ u ∷ [] → AreApart us
one_apart us u only i j d less within = absurd (omega (arith, less, within, ap length only))

-- a moment in the running interval
pub comes_again : (plan : Plan) (lines : List (List ℕ)) (c : ℕ) (p : PanesState) (us : List UpdaterState) (held : CandidatesState) → Stands plan lines (running_after plan lines) p us held → c ≡ p.running → ComesTo plan lines c None p us held
comes_again plan lines c p us held stands is =
    let same : running_after plan lines ≡ c = sym (is ∙ stands.running) in
    record { later = omega arith; stands = subst (λ (n : ℕ). Stands plan lines n p us held) same stands; due = same }

-- ---- an interval that has ended

module _ (plan : Plan) (lines : List (List ℕ)) (p : PanesState) (us0 us : List UpdaterState) (held : CandidatesState) (u : UpdaterState) (hint : List ℕ → List Entry → ℕ)
    (stands : Stands plan lines (running_after plan lines) p us0 held) (feeds : FeedsSmallest plan p.heart (items_of_interval plan lines (running_after plan lines)) us) (whole : IsWholeUpdater hint u) (first : u ≡ get_or us 0 u) where
  last : 1 ≤ plan.last
  last = omega (arith, stands.within.last.0)

  is_one : u ≡ feeds.feeds.one
  is_one = at_first us u feeds.feeds.one feeds.feeds.only first

  pub apart : AreApart us
  apart = one_apart us feeds.feeds.one feeds.feeds.only

  pub its_lists : StandForEach p.shape.k p.closed (lists_before plan lines (running_after plan lines))
  its_lists = subst (λ (k : ℕ). StandForEach k p.closed (lists_before plan lines (running_after plan lines))) (sym stands.k) stands.closed

  same_kept : (list : List Entry) → HasExactly list us → k_smallest plan.k (items_of_entries list) ≡ k_smallest plan.k (items_of_interval plan lines (running_after plan lines))
  same_kept list has =
      let one = feeds.feeds.one in
      let exactly : HasExactly list (one ∷ []) = subst (HasExactly list) feeds.feeds.only has in
      let its : IsWholeUpdater hint one = subst (IsWholeUpdater hint) is_one whole in
      ap (k_smallest plan.k) (exactly_kept list one exactly)
      ∙ smallest_kept plan p.heart feeds.taken one hint feeds.feeds.fed its feeds.small
      ∙ feeds.same

  of_pane : (list : List Entry) (reply : Reply) → HasExactly list us → IsReplyOf p.shape.k (all_items (lists_before plan lines (running_after plan lines)) ++ items_of_entries list) reply
      → IsReplyOf plan.k (pane_items plan (running_after plan lines) lines) reply
  of_pane list reply has is = reply_same plan.k (all_items (lists_before plan lines (running_after plan lines)) ++ items_of_entries list) (pane_items plan (running_after plan lines) lines) reply
      (pane_same plan lines (running_after plan lines) (items_of_entries list) last (same_kept list has))
      (subst (λ (k : ℕ). IsReplyOf k (all_items (lists_before plan lines (running_after plan lines)) ++ items_of_entries list) reply) stands.k is)

  pub is_last : (reply : Reply) (q : PanesState) (interval : ℕ) → Closes p us (lists_before plan lines (running_after plan lines)) reply q → interval ≡ p.running → IsLast plan lines (record { interval = interval; reply = reply })
  is_last reply q interval closes is = record { interval_is = is ∙ stands.running; reply_is = of_pane (entries_in q.learnt.known) reply closes.exactly closes.reply_is }

  next_lists : (c : ℕ) (list : List Entry) (closed : List Sketch) → HasExactly list us → running_after plan lines < c
      → StandForEach p.shape.k closed (with_skipped (with_closed (lists_before plan lines (running_after plan lines)) (items_of_entries list)) (c - p.running - 1))
      → StandForEach plan.k closed (lists_before plan lines c)
  next_lists c list closed has later each =
      let k = plan.k in
      let lists = lists_before plan lines (running_after plan lines) in
      let kept = items_of_entries list in
      let items = items_of_interval plan lines (running_after plan lines) in
      let n = c - p.running - 1 in
      let some : 0 < earlier_in plan = omega (arith, stands.within.last.0) in
      let one : SameEach k (kept ∷ []) (items ∷ []) = (same_kept list has, tt) in
      let closes : SameEach k (with_closed lists kept) (with_closed lists items) = same_append k (drop 1 lists) (drop 1 lists) (kept ∷ []) (items ∷ []) (each_same k (drop 1 lists)) one in
      let skips : SameEach k (with_skipped (with_closed lists kept) n) (with_skipped (with_closed lists items) n) =
      same_drop k n (with_closed lists kept ++ replicate n []) (with_closed lists items ++ replicate n [])
      (same_append k (with_closed lists kept) (with_closed lists items) (replicate n []) (replicate n []) closes (each_same k (replicate n []))) in
      let before : StandForEach k closed (with_skipped (with_closed lists kept) n) = subst (λ (m : ℕ). StandForEach m closed (with_skipped (with_closed lists kept) n)) stands.k each in
      let up : running_after plan lines + 1 + n ≡ c = omega (arith, stands.running, later) in
      subst (StandForEach k closed)
      (ap (λ (l : List (List ℕ)). with_skipped l n) (closed_next plan lines (running_after plan lines) some)
      ∙ skipped_next plan lines (running_after plan lines + 1) n some (λ j low high. none_later plan lines j (omega arith))
      ∙ ap (lists_before plan lines) up)
      (stand_same k closed (with_skipped (with_closed lists kept) n) (with_skipped (with_closed lists items) n) skips before)

  pub comes_later : (c : ℕ) (reply : Reply) (us' : List UpdaterState) (q : PanesState) (interval : ℕ) (held' : CandidatesState) → p.running < c → Moves p c us (lists_before plan lines (running_after plan lines)) reply us' q
      → q.frame ≡ p.frame → q.shape ≡ p.shape → interval ≡ p.running → held'.k ≡ held.k → HaveSmallest [] held' → ComesTo plan lines c (Some (record { interval = interval; reply = reply })) q us' held'
  comes_later c reply us' q interval held' after moves frame shape is held_k none =
      let later : running_after plan lines < c = omega (arith, after, stands.running) in
      let its : IsLast plan lines (record { interval = interval; reply = reply }) =
      record { interval_is = is ∙ stands.running; reply_is = of_pane moves.list reply moves.exactly moves.reply_is } in
      record {
        later = omega arith;
        stands = record {
          within = stands.within;
          frame = frame ∙ stands.frame;
          k = ap (λ (s : Sizes). s.k) shape ∙ stands.k;
          one = ap (λ (s : Sizes). s.n) shape ∙ stands.one;
          running = moves.running_is;
          closed = next_lists c moves.list q.closed moves.exactly later moves.stand;
          none = moves.none_taken;
          feeds = fresh_feeds plan p.shape q.heart us' q.learnt moves.fresh stands.one stands.k;
          held_k = held_k ∙ stands.held_k;
          held_is = subst (λ (l : List ℕ). HaveSmallest l held') (sym (none_later plan lines c later)) none;
        };
        due = (later, its);
      }

-- Panes that are closed by a second call, after the first ran out of memory.
use Rattle.std.proofs.Common.{◌≡◌, ℕ, zero, suc, List, [], ◌∷◌, ◌++◌, length, get_or, All, Contains, refl, sym, ap, subst, ◌∙◌, arith, inl, inr, length-append}
use Rattle.std.proofs.lemmas.List.Elements.{All-tail}
use Rattle.sk_model.specs.Entries.{Entry, entries_by}
use Rattle.sk_theta.specs.declared.reply.Reply.{Reply}
use Rattle.sk_hub.specs.Calls.{KeepsNone}
use Rattle.sk_hub.specs.Hearts.{HeartState}
use Rattle.sk_hub.specs.Updaters.{UpdaterState, kept_of}
use Rattle.sk_snap.specs.History.{entries_in}
use Rattle.sk_snap.specs.Versions.{items_in}
use Rattle.sk_learn.specs.Closing.{AreApart, HasExactly, numbers_of}
use Rattle.sk_window.specs.Intervals.{StandForEach, IsReplyOf, all_items}
use Rattle.sk_window.specs.Panes.{PanesState, HasTaken, Closes, StopsBefore}
use Rattle.uses.specs.Replies.{EndsWith}

-- ---- lists of updaters, of which one came back

all_after : (P : UpdaterState → Type 0) (us vs : List UpdaterState) → All P (us ++ vs) → All P vs
all_after P [] vs all = all
all_after P (u ∷ us) vs all = all_after P us vs (All-tail P u (us ++ vs) all)

apart_after : (us vs : List UpdaterState) → AreApart (us ++ vs) → AreApart vs
apart_after [] vs apart = apart
apart_after (u ∷ us) vs apart = apart_after us vs (λ i j d less within. apart (suc i) (suc j) d (omega arith) (omega arith))

module _ (next back : UpdaterState) (rest : List UpdaterState) where
  at_same : {X : Type 0} (F : UpdaterState → X) (us : List UpdaterState) (i : ℕ) (d : UpdaterState) → F back ≡ F next → F (get_or (us ++ back ∷ rest) i d) ≡ F (get_or (us ++ next ∷ rest) i d)
  at_same F [] zero d same = same
  at_same F [] (suc i) d same = refl
  at_same F (u ∷ us) zero d same = refl
  at_same F (u ∷ us) (suc i) d same = at_same F us i d same

  as_long : (us : List UpdaterState) → length (us ++ back ∷ rest) ≡ length (us ++ next ∷ rest)
  as_long us = omega (arith, length-append us (back ∷ rest), length-append us (next ∷ rest))

  module _ (us : List UpdaterState) (comes : KeepsNone next back) where
    number_at : (i : ℕ) (d : UpdaterState) → (get_or (us ++ back ∷ rest) i d).number ≡ (get_or (us ++ next ∷ rest) i d).number
    number_at i d = at_same (λ u. u.number) us i d comes.goes.number

    tables_back : (h : HeartState) → All (λ u. u.table ≡ h.table) (us ++ next ∷ rest) → All (λ u. u.table ≡ h.table) (us ++ back ∷ rest)
    tables_back h all i d within = at_same (λ u. u.table) us i d comes.goes.table ∙ all i d (omega (arith, within, as_long us))

    apart_back : AreApart (us ++ next ∷ rest) → AreApart (us ++ back ∷ rest)
    apart_back apart i j d less within same = apart i j d less (omega (arith, within, as_long us)) (sym (number_at i d) ∙ same ∙ number_at j d)

    exactly_all : (list : List Entry) → HasExactly list (us ++ back ∷ rest) → HasExactly list (us ++ next ∷ rest)
    exactly_all list exactly = record {
      each = λ i d within. ap (λ n. entries_by n list) (sym (number_at i d)) ∙ exactly.each i d (omega (arith, within, as_long us)) ∙ at_same kept_of us i d comes.kept;
      only = subst (λ (ns : List ℕ). All (λ entry. Contains ns entry.0) list) (numbers us) exactly.only;
    }
      where
        numbers : (vs : List UpdaterState) → numbers_of (vs ++ back ∷ rest) ≡ numbers_of (vs ++ next ∷ rest)
        numbers [] = ap (λ n. n ∷ numbers_of rest) comes.goes.number
        numbers (v ∷ vs) = ap (λ ns. v.number ∷ ns) (numbers vs)

-- ---- the second call

module _ (p q : PanesState) (us us' : List UpdaterState) where
  pub again_tables : StopsBefore p [] us us' q → All (λ u. u.table ≡ p.heart.table) us → All (λ u. u.table ≡ q.heart.table) us'
  again_tables (inl s) all =
      let e = s.early in
      let OfHub : UpdaterState → Type 0 = λ u. u.table ≡ q.heart.table in
      let moved : All OfHub us = λ i d within. all i d within ∙ sym e.takes.table in
      let whole : All OfHub (e.taken ++ e.next ∷ e.rest) = subst (All OfHub) e.all moved in
      subst (All OfHub) (sym e.left) (all_after OfHub e.taken (e.back ∷ e.rest) (tables_back e.next e.back e.rest e.taken e.comes.none q.heart whole))
  again_tables (inr (same, stays)) all =
      subst (λ (z : PanesState). All (λ u. u.table ≡ z.heart.table) us') (sym stays) (subst (λ (vs : List UpdaterState). All (λ u. u.table ≡ p.heart.table) vs) (sym same) all)

  pub again_apart : StopsBefore p [] us us' q → AreApart us → AreApart us'
  again_apart (inl s) apart =
      let e = s.early in
      subst AreApart (sym e.left) (apart_after e.taken (e.back ∷ e.rest) (apart_back e.next e.back e.rest e.taken e.comes.none (subst AreApart e.all apart)))
  again_apart (inr (same, stays)) apart = subst AreApart (sym same) apart

  pub closes_again : (r : PanesState) (lists : List (List ℕ)) (reply : Reply) → StopsBefore p [] us us' q → HasTaken p [] → AreApart us → StandForEach p.shape.k p.closed lists
      → ((before : List UpdaterState) → HasTaken q before → AreApart (before ++ us') → StandForEach q.shape.k q.closed lists → Closes q (before ++ us') lists reply r)
      → EndsWith p.shape.k us lists reply
  closes_again r lists reply (inl s) none apart each closes =
      let e = s.early in
      let all : AreApart (e.taken ++ us') = subst (λ (vs : List UpdaterState). AreApart (e.taken ++ vs)) (sym e.left) (apart_back e.next e.back e.rest e.taken e.comes.none (subst AreApart e.all apart)) in
      let done = closes e.taken s.so_far all (subst (λ (z : PanesState). StandForEach z.shape.k z.closed lists) (sym s.stays) each) in
      record {
        list = entries_in r.learnt.known;
        exactly = subst (HasExactly (entries_in r.learnt.known)) (sym e.all) (exactly_all e.next e.back e.rest e.taken e.comes.none _ (subst (λ (vs : List UpdaterState). HasExactly (entries_in r.learnt.known) (e.taken ++ vs)) e.left done.exactly));
        reply_is = subst (λ (z : PanesState). IsReplyOf z.shape.k (all_items lists ++ items_in r.learnt.known) reply) s.stays done.reply_is;
      }
  closes_again r lists reply (inr (same, stays)) none apart each closes =
      let done = closes [] (subst (λ (z : PanesState). HasTaken z []) (sym stays) none) (subst AreApart (sym same) apart) (subst (λ (z : PanesState). StandForEach z.shape.k z.closed lists) (sym stays) each) in
      record {
        list = entries_in r.learnt.known;
        exactly = subst (HasExactly (entries_in r.learnt.known)) same done.exactly;
        reply_is = subst (λ (z : PanesState). IsReplyOf z.shape.k (all_items lists ++ items_in r.learnt.known) reply) stays done.reply_is;
      }

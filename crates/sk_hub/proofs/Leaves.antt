-- An updater that is served and flushed until nothing of it is left.
use Rattle.std.proofs.Common.{◌≡◌, ◌≢◌, ◌⊎◌, inl, inr, ℕ, zero, suc, List, [], ◌∷◌, ◌++◌, All, Bool, true, false, not, subst, sym, ap, refl, ◌∙◌}
use Rattle.std.specs.Prelude.{slice_set}
use Rattle.sk_model.specs.Entries.{Entry, entries_by}
use Rattle.sk_model.proofs.Missing.{begins_trans, begins_refl}
use Rattle.sk_machine.specs.Coarse.{IsEntry}
use Rattle.sk_machine.specs.declared.views.Move.TheVariants.{Ask, Join}
use Rattle.sk_machine.specs.declared.views.View.{View}
use Rattle.sk_gate.specs.Views.{known_of, mine_of}
use Rattle.sk_gate.specs.Hands.{is_empty}
use Rattle.sk_hub.specs.Updaters.{UpdaterState, LooksInVain, Renews, HandsOver}
use Rattle.sk_hub.specs.Hearts.{HeartState}
use Rattle.sk_hub.specs.Rounds.{KnowsAsMuch, Serves, Refuses, IsElsewhere, TriesToServe, TriesTimes}
use Rattle.sk_hub.specs.Drains.{IsDrained, ServesAndTakesIn, ComesBack, TriesUntil, IsSettled, TriesInVain}
use Rattle.sk_hub.proofs.Calls.{none_refl, none_trans, none_in_vain, none_renewed, none_handed}

-- ---- what the heart knows

pub knows_none : (v : View) → KnowsAsMuch v v
knows_none v = record { view = refl; grows = begins_refl v.seen; later = begins_refl v.steps; sees = λ s. s; sized = refl; sizes_stay = λ i _. refl }

pub knows_trans : (u v w : View) → KnowsAsMuch u v → KnowsAsMuch v w → KnowsAsMuch u w
knows_trans u v w a b = record {
  view = b.view ∙ λ d. record (a.view d) { seen = w.seen; steps = w.steps; given = w.given; sizes = w.sizes };
  grows = begins_trans _ _ _ a.grows b.grows;
  later = begins_trans _ _ _ a.later b.later;
  sees = λ s. b.sees (a.sees s);
  sized = b.sized ∙ a.sized;
  sizes_stay = λ i known. let same = a.sizes_stay i known in b.sizes_stay i (subst (λ z. z ≢ 0) (sym same) known) ∙ same;
}

-- ---- tries

pub tries_serve : (i : ℕ) (v w : View) (held found : ℕ) → Serves v i 1 held found w → TriesToServe i v w
tries_serve i v w held found s = inl (held, found, s)

pub tries_elsewhere : (i : ℕ) (v w : View) (other : ℕ) → IsElsewhere v other w → TriesToServe i v w
tries_elsewhere i v w other e = inr (other, e)

tries_none : (i : ℕ) (v : View) → (times : ℕ) × TriesTimes i times v v
unfolding TriesTimes
tries_none i v = (zero, refl)

tries_more : (i : ℕ) (v x w : View) → (times : ℕ) × TriesTimes i times v x → TriesToServe i x w → (times : ℕ) × TriesTimes i times v w
unfolding TriesTimes
tries_more i v x w (times, earlier) once = (suc times, (x, earlier, once))

tries_after : (i : ℕ) (v x : View) → (times : ℕ) × TriesTimes i times v x → (times : ℕ) (w : View) → TriesTimes i times x w → (all : ℕ) × TriesTimes i all v w
unfolding TriesTimes
tries_after i v x first zero w same = (first.0, subst (TriesTimes i first.0 v) (sym same) first.1)
tries_after i v x first (suc times) w (y, earlier, once) = let all = tries_after i v x first times y earlier in (suc all.0, (y, all.1, once))

tries_trans : (i : ℕ) (v x w : View) → (times : ℕ) × TriesTimes i times v x → (times : ℕ) × TriesTimes i times x w → (times : ℕ) × TriesTimes i times v w
tries_trans i v x w first (times, then) = tries_after i v x first times w then

in_vain_after : (i : ℕ) (v x w : View) → (times : ℕ) × TriesTimes i times v x → TriesInVain i x w → TriesInVain i v w
in_vain_after i v x w first r = let all = tries_trans i v x r.before first (r.times, r.tries) in record { times = all.0; before = r.before; tries = all.1; refuses = r.refuses }

-- ---- what an updater comes back with

pub comes_back : (u : UpdaterState) → ComesBack u u
comes_back u = record { none = none_refl u; sizes = refl }

pub comes_trans : (u v w : UpdaterState) → ComesBack u v → ComesBack v w → ComesBack u w
comes_trans u v w a b = record { none = none_trans u v w a.none b.none; sizes = b.sizes ∙ a.sizes }

pub comes_waiting : (u u' : UpdaterState) → LooksInVain u u' → ComesBack u u'
comes_waiting u u' l = record { none = none_in_vain u u' l; sizes = ap (λ z. z.view.sizes) l.state }

pub comes_renewed : (hint_of : List ℕ → List Entry → ℕ) (u u' : UpdaterState) → Renews hint_of u u' → ComesBack u u'
comes_renewed hint_of u u' r = record { none = none_renewed hint_of u u' r; sizes = ap (λ v. v.sizes) r.view }

pub comes_handed : (hint_of : List ℕ → List Entry → ℕ) (u u' : UpdaterState) → HandsOver hint_of u [] u' → ComesBack u u'
comes_handed hint_of u u' h = record { none = none_handed hint_of u u' h; sizes = ap (λ v. v.sizes) h.view }

-- it is of the heart's table then
pub same_table : (h h' : HeartState) (u u' : UpdaterState) → h' ≡ record h { view = h'.view } → ComesBack u u' → u.table ≡ h.table → u'.table ≡ h'.table
same_table h h' u u' stays back same = back.none.goes.table ∙ same ∙ sym (ap (λ z. z.table) stays)

-- ---- tries until something is done

-- nothing was tried yet
pub not_tried : (h : HeartState) (u : UpdaterState) → TriesUntil true h u h u
not_tried h u = record { ends = tries_none u.number h.view; known = knows_none h.view; stays = refl; back = comes_back u }

-- it was tried once more, and then the updater came back
pub tried_again : (h x w : HeartState) (u y z : UpdaterState) → TriesUntil true h u x y → TriesToServe y.number x.view w.view → KnowsAsMuch x.view w.view → w ≡ record x { view = w.view } → ComesBack y z → TriesUntil true h u w z
tried_again h x w u y z t once knows stays back = record {
  ends = tries_more u.number h.view x.view w.view t.ends (subst (λ n. TriesToServe n x.view w.view) t.back.none.goes.number once);
  known = knows_trans h.view x.view w.view t.known knows;
  stays = stays ∙ λ e. record (t.stays e) { view = w.view };
  back = comes_trans u y z t.back back;
}

-- or a batch was refused
pub tried_in_vain : (h x w : HeartState) (u y : UpdaterState) → TriesUntil true h u x y → Refuses x.view y.number 1 w.view → KnowsAsMuch x.view w.view → w ≡ record x { view = w.view } → TriesUntil false h u w y
tried_in_vain h x w u y t refuses knows stays = record {
  ends = record { times = t.ends.0; before = x.view; tries = t.ends.1; refuses = subst (λ n. Refuses x.view n 1 w.view) t.back.none.goes.number refuses };
  known = knows_trans h.view x.view w.view t.known knows;
  stays = stays ∙ λ e. record (t.stays e) { view = w.view };
  back = t.back;
}

-- the same updater was then tried anew
pub tried_then : (done : Bool) (h x w : HeartState) (u y z : UpdaterState) → TriesUntil true h u x y → TriesUntil done x y w z → TriesUntil done h u w z
tried_then true h x w u y z first then = record {
  ends = tries_trans u.number h.view x.view w.view first.ends (subst (λ n. (times : ℕ) × TriesTimes n times x.view w.view) first.back.none.goes.number then.ends);
  known = knows_trans h.view x.view w.view first.known then.known;
  stays = then.stays ∙ λ e. record (first.stays e) { view = w.view };
  back = comes_trans u y z first.back then.back;
}
tried_then false h x w u y z first then = record {
  ends = in_vain_after u.number h.view x.view w.view first.ends (subst (λ n. TriesInVain n x.view w.view) first.back.none.goes.number then.ends);
  known = knows_trans h.view x.view w.view first.known then.known;
  stays = then.stays ∙ λ e. record (first.stays e) { view = w.view };
  back = comes_trans u y z first.back then.back;
}

-- an updater whose buffer is empty was settled
pub is_settled : (hint_of : List ℕ → List Entry → ℕ) (u u' : UpdaterState) → u.fill ≡ [] → Renews hint_of u u' → IsSettled u'
is_settled hint_of u u' empty r = record {
  fill = ap (λ z. z.fill) r.state ∙ empty;
  ready = ap (λ v. (mine_of v).ready) r.view;
}

-- a flush that was not busy
pub flushed : {E H : Type 0} (hint_of : List ℕ → List Entry → ℕ) (u u' : UpdaterState) → E ⊎ H → (E → u' ≡ u) → (E → u.fill ≡ []) → (H → HandsOver hint_of u [] u') → ComesBack u u' × (u'.fill ≡ [])
flushed hint_of u u' (inl is) same empty hands = (subst (ComesBack u) (sym (same is)) (comes_back u), ap (λ z. z.fill) (same is) ∙ empty is)
flushed hint_of u u' (inr is) same empty hands = (comes_handed hint_of u u' (hands is), ap (λ z. z.fill) (hands is).state)

-- ---- a drain

-- an updater that was served before it was taken in
pub drained_after : (h h' h'' : HeartState) (u u' : UpdaterState) → TriesUntil true h u h' u' → IsDrained h' u' h'' → IsDrained h u h''
drained_after h h' h'' u u' t d = let k = t.known in let b = t.back.none in let number = b.goes.number in record {
  seen = ap (λ n. entries_by n h''.view.seen) (sym number) ∙ d.seen ∙ b.kept;
  grows = begins_trans _ _ _ k.grows d.grows;
  hears = begins_trans _ _ _ b.goes.seen d.hears;
  base = begins_trans _ _ _ b.goes.base d.base;
  entries = subst (λ n. All (IsEntry n) h''.view.seen) (ap (λ z. z.updaters) t.stays) d.entries;
  known = ap (λ n. known_of h''.view n) (sym number) ∙ d.known ∙ b.kept;
  others = λ i ne. d.others i (subst (λ n. i ≢ n) (sym number) ne) ∙ ap (λ v. known_of v i) k.view;
  drained = d.drained ∙ (λ e. (k.view e).drained ++ number e ∷ []);
  news = d.news ∙ (λ e. slice_set (t.stays e).news (number e) (not (is_empty (b.kept e))));
  stays = d.stays ∙ (λ e. record (t.stays e) { view = h''.view; news = h''.news });
  numbers = d.numbers ∙ ap (λ v. v.numbers) k.view;
  name = d.name ∙ ap (λ v. v.name) k.view;
}

pub taken_in_after : (h h' : HeartState) (u u' : UpdaterState) (w : View) → TriesUntil true h u h' u' → (word : ℕ) × (w.steps ≡ h'.view.steps ++ Join ∷ Ask word ∷ []) → ServesAndTakesIn u.number h.view w
taken_in_after h h' u u' w t (word, steps) = record { times = t.ends.0; before = h'.view; tries = t.ends.1; word = word; steps = steps }

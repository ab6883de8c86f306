-- Calls that feed an updater, one after another.
use Rattle.std.proofs.Common.{◌≡◌, ◌≢◌, ◌↔◌, ◌⊎◌, inl, inr, ℕ, zero, suc, ◌+◌, ◌<◌, ◌≤◌, List, [], ◌∷◌, ◌++◌, length, get_or, slice_range, Bool, true, false, Option, Some, None, refl, subst, sym, ap, ◌∙◌, append-nil, append_assoc}
use Rattle.sk_read.specs.declared.kind.Kind.{Kind}
use Rattle.sk_hub.specs.declared.answers.Update.{Update}
use Rattle.sk_hub.specs.declared.answers.Update.TheVariants as update
use Rattle.sk_hub.specs.Updaters.{UpdaterState, Keeps, HandsWith}
use Rattle.sk_fill.specs.Windows.{item_in, items_in}
use Rattle.sk_hub.specs.Calls.{IsBusyWith}
use Rattle.sk_feed.specs.Calls.{Filter, Accepts, Filters, IsFed, IsFedEach, IsStopped, IsOffered, InsistsAfter, ServesAfter, ServesAll, FindsElsewhere, HelpsIfEager}
use Rattle.sk_model.proofs.Lists.{slice_none}
use Rattle.sk_fill.proofs.Items.{no_items, next_item, next_empty}

-- ---- an offer

is_kept : (keeps : Bool) → keeps ≢ false → keeps ≡ true
is_kept true other = refl
is_kept false other = absurd (other refl)

pub was_filtered : (f : Filter) (u u' : UpdaterState) (item : ℕ) (r : Update) → ((r ≡ update.Filtered) ↔ (f.keeps u.hint item ≡ false)) → (r ≡ update.Filtered → u' ≡ u) → r ≡ update.Filtered → Filters f u item u'
was_filtered f u u' item r filtered stays is = record { dropped = filtered.0 is; stays = stays is }

pub was_accepted : (f : Filter) (u u' : UpdaterState) (item : ℕ) (r : Update) → ((r ≡ update.Filtered) ↔ (f.keeps u.hint item ≡ false)) → (r ≡ update.Kept → Keeps f.early u item u') → (r ≡ update.Handed → HandsWith f.early f.hint_of u item u') → (r ≡ update.Kept) ⊎ (r ≡ update.Handed) → Accepts f u item u'
was_accepted f u u' item r filtered keeps hands (inl is) = record { kept = is_kept (f.keeps u.hint item) (λ dropped. let e = filtered.1 dropped in cc); put = inl (keeps is) }
was_accepted f u u' item r filtered keeps hands (inr is) = record { kept = is_kept (f.keeps u.hint item) (λ dropped. let e = filtered.1 dropped in cc); put = inr (hands is) }

-- ---- until it is taken

pub served_now : (u u' : UpdaterState) → ServesAll u u' → ServesAfter zero u u'
unfolding ServesAfter
served_now u u' serves = serves

pub served_later : (u v u' : UpdaterState) (times : ℕ) → FindsElsewhere u v → ServesAfter times v u' → ServesAfter (suc times) u u'
unfolding ServesAfter
served_later u v u' times found serves = (v, found, serves)

pub filtered_now : (f : Filter) (u u' : UpdaterState) (item : ℕ) → Filters f u item u' → InsistsAfter f zero u item u'
unfolding InsistsAfter
filtered_now f u u' item filters = inl filters

pub accepted_now : (f : Filter) (u v u' : UpdaterState) (item : ℕ) → Accepts f u item v → HelpsIfEager f v u' → InsistsAfter f zero u item u'
unfolding InsistsAfter
accepted_now f u v u' item accepts helps = inr (v, accepts, helps)

pub insists_later : (f : Filter) (u v w u' : UpdaterState) (item times tries : ℕ) → IsBusyWith f.keeps u item v → ServesAfter tries v w → InsistsAfter f times w item u' → InsistsAfter f (suc times) u item u'
unfolding InsistsAfter
insists_later f u v w u' item times tries busy serves insists = (v, w, tries, busy, serves, insists)

-- ---- one item

pub fed_helping : (f : Filter) (help : Bool) (u u' : UpdaterState) (item : ℕ) → help ≡ true → (times : ℕ) × InsistsAfter f times u item u' → IsFed f help u item u'
fed_helping f true u u' item is insists = insists
fed_helping f false u u' item is insists = absurd cc

pub fed_alone : (f : Filter) (help : Bool) (u u' : UpdaterState) (item : ℕ) → help ≡ false → IsOffered f u item u' → IsFed f help u item u'
fed_alone f true u u' item is offered = absurd cc
fed_alone f false u u' item is offered = offered

-- ---- the items of lines

fed_none : (f : Filter) (help : Bool) (u : UpdaterState) → IsFedEach f help u [] u
unfolding IsFedEach
fed_none f help u = refl

fed_first : (f : Filter) (help : Bool) (u v u' : UpdaterState) (item : ℕ) (items : List ℕ) → IsFed f help u item v → IsFedEach f help v items u' → IsFedEach f help u (item ∷ items) u'
unfolding IsFedEach
fed_first f help u v u' item items first rest = (v, first, rest)

module _ (f : Filter) (help : Bool) (u : UpdaterState) (kind : Kind) (lines : List (List ℕ)) (from : ℕ) where
  pub no_line_fed : (u' : UpdaterState) (items : List ℕ) → IsFedEach f help u items u' → IsFedEach f help u (items_in kind (slice_range lines from from) ++ items) u'
  no_line_fed u' items fed = subst (λ l. IsFedEach f help u (l ++ items) u') (sym (ap (items_in kind) (slice_none lines from) ∙ no_items kind)) fed

  pub line_fed : (v w : UpdaterState) (at item : ℕ) → from ≤ at → at < length lines → item_in kind (get_or lines at []) ≡ Some item
      → ((u' : UpdaterState) (items : List ℕ) → IsFedEach f help v items u' → IsFedEach f help u (items_in kind (slice_range lines from at) ++ items) u') → IsFed f help v item w
      → (u' : UpdaterState) (items : List ℕ) → IsFedEach f help w items u' → IsFedEach f help u (items_in kind (slice_range lines from (at + 1)) ++ items) u'
  line_fed v w at item le within is leads fed u' items rest =
      subst (λ l. IsFedEach f help u l u') (sym (ap (λ l. l ++ items) (next_item kind lines from at item le within is) ∙ append_assoc (items_in kind (slice_range lines from at)) (item ∷ []) items))
      (leads u' (item ∷ items) (fed_first f help v w u' item items fed rest))

  pub line_unfed : (v : UpdaterState) (at : ℕ) → from ≤ at → at < length lines → item_in kind (get_or lines at []) ≡ None
      → ((u' : UpdaterState) (items : List ℕ) → IsFedEach f help v items u' → IsFedEach f help u (items_in kind (slice_range lines from at) ++ items) u')
      → (u' : UpdaterState) (items : List ℕ) → IsFedEach f help v items u' → IsFedEach f help u (items_in kind (slice_range lines from (at + 1)) ++ items) u'
  line_unfed v at le within is leads u' items rest = subst (λ l. IsFedEach f help u (l ++ items) u') (sym (next_empty kind lines from at le within is)) (leads u' items rest)

  -- the lines up to here
  pub lines_fed : (v : UpdaterState) (at : ℕ) → ((u' : UpdaterState) (items : List ℕ) → IsFedEach f help v items u' → IsFedEach f help u (items_in kind (slice_range lines from at) ++ items) u') → IsFedEach f help u (items_in kind (slice_range lines from at)) v
  lines_fed v at leads = subst (λ l. IsFedEach f help u l v) (append-nil (items_in kind (slice_range lines from at))) (leads v [] (fed_none f help v))

-- and the next is busy
pub stopped : (f : Filter) (help : Bool) (u v u' : UpdaterState) (items : List ℕ) (next : Option ℕ) (item : ℕ) → help ≡ false → IsFedEach f help u items v → next ≡ Some item → IsBusyWith f.keeps v item u' → IsStopped f u items next u'
stopped f help u v u' items next item alone fed is busy = record { before = v; fed = subst (λ h. IsFedEach f h u items v) alone fed; item = item; is_next = is; busy = busy }

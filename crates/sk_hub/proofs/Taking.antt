-- What a heart knows of the updaters that it took in.
use Rattle.std.proofs.Common.{◌≡◌, ◌≢◌, ℕ, List, [], ◌∷◌, Contains, sym, ap, subst, ◌∙◌, append-nil}
use Rattle.std.proofs.lemmas.List.Elements.{Contains-append_left, Contains-push}
use Rattle.sk_model.specs.Entries.{Entry, entries_by}
use Rattle.sk_model.specs.Missing.{Begins}
use Rattle.sk_model.proofs.Missing.{begins_trans, begins_refl}
use Rattle.sk_machine.proofs.Coarse.{entries_by_begins}
use Rattle.sk_gate.specs.Views.{known_of}
use Rattle.sk_hub.specs.Updaters.{UpdaterState, kept_of}
use Rattle.sk_hub.specs.Hearts.{HeartState}
use Rattle.sk_hub.specs.Rounds.{KnowsAsMuch}
use Rattle.sk_hub.specs.Replies.{IsRelaxedReply, HasDrained}
use Rattle.sk_hub.specs.Drains.{IsDrained, HasTakenIn}

pub taken_when_drained : (h h' : HeartState) (u : UpdaterState) → IsDrained h u h' → HasTakenIn h' u
taken_when_drained h h' u d = record {
  drained = subst (λ l. Contains l u.number) (sym d.drained) (Contains-push h.view.drained u.number);
  known = d.known;
  kept = ([], d.seen ∙ sym (append-nil (kept_of u)));
  base = d.base;
  hears = d.hears;
}

-- the heart has drained the same or more, and what it knew of this updater stays
taken_on : (h h' : HeartState) (u : UpdaterState) → Contains h'.view.drained u.number → known_of h'.view u.number ≡ known_of h.view u.number → Begins h.view.seen h'.view.seen → HasTakenIn h u → HasTakenIn h' u
taken_on h h' u drained known grows t = record {
  drained = drained;
  known = known ∙ t.known;
  kept = begins_trans _ _ _ t.kept (entries_by_begins u.number h.view.seen h'.view.seen grows);
  base = begins_trans _ _ _ t.base grows;
  hears = begins_trans _ _ _ t.hears grows;
}

pub taken_after_drain : (h h' : HeartState) (u v : UpdaterState) → IsDrained h v h' → v.number ≢ u.number → HasTakenIn h u → HasTakenIn h' u
taken_after_drain h h' u v d other t = taken_on h h' u
    (subst (λ l. Contains l u.number) (sym d.drained) (Contains-append_left h.view.drained (v.number ∷ []) u.number t.drained))
    (d.others u.number (λ same. other (sym same)))
    d.grows
    t

pub taken_after_serving : (h h' : HeartState) (u : UpdaterState) → KnowsAsMuch h.view h'.view → HasTakenIn h u → HasTakenIn h' u
taken_after_serving h h' u k t = taken_on h h' u (subst (λ v. Contains v.drained u.number) (sym k.view) t.drained) (ap (λ v. known_of v u.number) k.view) k.grows t

pub taken_after_ask : (packed_of : List ℕ → List Entry → ℕ) (h h' : HeartState) (word : ℕ) (u : UpdaterState) → IsRelaxedReply packed_of h.view word h'.view → HasTakenIn h u → HasTakenIn h' u
taken_after_ask packed_of h h' word u r t = taken_on h h' u (subst (λ v. Contains v.drained u.number) (sym r.stays) t.drained) (ap (λ v. known_of v u.number) r.stays) r.grows t

-- the heart gave out a told value, or admitted an updater
pub taken_with_view : (h h' : HeartState) (u : UpdaterState) → h'.view ≡ h.view → HasTakenIn h u → HasTakenIn h' u
taken_with_view h h' u same t = taken_on h h' u (subst (λ v. Contains v.drained u.number) (sym same) t.drained) (ap (λ v. known_of v u.number) same) (subst (λ v. Begins h.view.seen v.seen) (sym same) (begins_refl h.view.seen)) t

pub exactly_taken : (h h' : HeartState) (u : UpdaterState) → HasDrained h.view h'.view → HasTakenIn h u → entries_by u.number h'.view.seen ≡ kept_of u
exactly_taken h h' u asked t = asked u.number t.drained ∙ t.known

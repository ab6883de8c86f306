-- A look that renewed, a hand, and the told value that an updater holds.
use Rattle.std.proofs.Common.{◌≡◌, inl, inr, ℕ, ◌-◌, List, [], ◌∷◌, ◌++◌, length, take, not, subst, sym, ap, ◌∙◌, append_assoc, length-append, arith}
use Rattle.std.proofs.lemmas.List.{take_at}
use Rattle.sk_model.specs.Entries.{Entry, entries_by}
use Rattle.sk_model.specs.Missing.{Begins, longer}
use Rattle.sk_machine.specs.declared.views.Move.TheVariants.{Look, Hand}
use Rattle.sk_machine.specs.declared.views.Post.TheVariants.{Updater}
use Rattle.sk_machine.specs.declared.views.View.{View}
use Rattle.sk_gate.specs.Views.{mine_of}
use Rattle.sk_gate.specs.Slots.{Telling, TellsList}
use Rattle.sk_gate.specs.Moves.{RenewsAt, HandsAt, looked_mine, handed_mine}
use Rattle.sk_gate.specs.Hands.{is_empty}
use Rattle.sk_hub.specs.Updaters.{UpdaterState, handed_of, earlier_of, HoldsTold, HandsOver, TellsItems}

module _ (hint : List ℕ → List Entry → ℕ) (v w x y : View) (word i : ℕ) (batch : List ℕ) (renews : RenewsAt hint v word w i) (same : x ≡ w) (hands : HandsAt x y i batch) where
  base_is : (mine_of w).base ≡ (mine_of y).base
  base_is = sym (ap (λ z. (mine_of z).base) hands ∙ ap (λ z. (mine_of z).base) same)

  pub handed_sees : Begins v.seen y.seen
  handed_sees = subst (λ z. Begins v.seen z) (sym (ap (λ z. z.seen) hands ∙ ap (λ z. z.seen) same)) renews.sees

  pub handed_view : y ≡ record v { seen = longer v.seen (mine_of y).base; steps = v.steps ++ Look i word ∷ Hand i ∷ []; post = Updater i (handed_mine (looked_mine (mine_of v) (mine_of y).base) batch) }
  handed_view =
      let looked = same ∙ renews.view in
      hands
      ∙ (λ e. record (looked e) { steps = (looked e).steps ++ Hand i ∷ []; post = Updater i (handed_mine (mine_of (looked e)) batch) })
      ∙ (λ e. record v { seen = longer v.seen (base_is e); steps = append_assoc v.steps (Look i word ∷ []) (Hand i ∷ []) e; post = Updater i (handed_mine (looked_mine (mine_of v) (base_is e)) batch) })

  -- the told value that came with the empty parcel is of all that was handed over before
  pub handed_tells : {T : Type 0} (k : Telling T) (count : ℕ) (t : T) → count ≡ length batch → TellsList k w.name t (mine_of w).base → TellsItems k y.name i (take (length (mine_of y).handed - count) (mine_of y).handed) t
  handed_tells k count t count_is told =
      let before : List ℕ = (mine_of v).handed in
      let name : w.name ≡ y.name = sym (ap (λ z. z.name) hands ∙ ap (λ z. z.name) same) in
      let handed : (mine_of y).handed ≡ before ++ batch = ap (λ z. (mine_of z).handed) hands ∙ ap (λ z. (mine_of z).handed ++ batch) (same ∙ renews.view) in
      let some : length before ≡ length (before ++ batch) - length batch = omega (arith, length-append before batch) in
      let front : before ≡ take (length (before ++ batch) - length batch) (before ++ batch) = sym (take_at before batch (length (before ++ batch) - length batch) some) in
      let its : entries_by i (mine_of w).base ≡ take (length (mine_of y).handed - count) (mine_of y).handed = renews.all ∙ front ∙ (λ e. take (length (sym handed e) - sym count_is e) (sym handed e)) in
      ((mine_of w).base, its, subst (λ n. TellsList k n t (mine_of w).base) name told)

-- ---- its told value

pub told_trans : (u v w : UpdaterState) → HoldsTold u v → HoldsTold v w → HoldsTold u w
told_trans u v w (inl a) (inl b) = inl (b.0 ∙ a.0, b.1 ∙ a.1, b.2 ∙ a.2)
told_trans u v w (inr a) (inl b) = inr (b.0 ∙ a ∙ (λ e. not (is_empty (take (length (sym b.1 e) - sym b.2 e) (sym b.1 e)))))
told_trans u v w a (inr b) = inr b

-- what it had handed over before this hand
pub earlier_handed : (hint_of : List ℕ → List Entry → ℕ) (u u' : UpdaterState) (fill : List ℕ) → HandsOver hint_of u fill u' → earlier_of u' ≡ handed_of u
earlier_handed hint_of u u' fill h =
    let handed : handed_of u' ≡ handed_of u ++ u.fill = ap (λ v. (mine_of v).handed) h.view in
    let last : u'.last ≡ length u.fill = ap (λ z. z.last) h.state in
    let before : length (handed_of u) ≡ length (handed_of u ++ u.fill) - length u.fill = omega (arith, length-append (handed_of u) u.fill) in
    (λ e. take (length (handed e) - last e) (handed e)) ∙ take_at (handed_of u) u.fill (length (handed_of u ++ u.fill) - length u.fill) before

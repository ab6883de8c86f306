-- What requests do to an updater.
use Rattle.std.proofs.Common.{◌≡◌, ℕ, ◌+◌, ◌≤◌, Bool, false, List, [], ◌++◌, length, All, nat_lt, sym, ap, ◌∙◌, subst, arith, append-nil, length-append}
use Rattle.std.proofs.lemmas.Bool.Decides.{nat_tests}
use Rattle.std.proofs.lemmas.List.Elements.{All-map}
use Rattle.sk_model.specs.Entries.{Entry, items_of_entries, entries_by}
use Rattle.sk_model.specs.Missing.{Begins}
use Rattle.sk_model.specs.Sketch.{fraction_of, count_of, theta_of, packed_of, unpacked}
use Rattle.sk_model.specs.Width.{IsItem, AreItems}
use Rattle.sk_model.proofs.Sketch.{packed_reads_back}
use Rattle.sk_machine.specs.Coarse.{IsEntry}
use Rattle.sk_machine.specs.declared.views.Move.TheVariants.{Ask}
use Rattle.sk_compose.specs.Numbers.{k_of}
use Rattle.sk_hub.specs.Replies.{IsOwnReply}
use Rattle.sk_hub.specs.Updaters.{UpdaterState, handed_of, base_of, kept_of, LooksInVain, Renews}
use Rattle.sk_hub.specs.Calls.{GoesOn, KeepsNone}
use Rattle.sk_hub.proofs.Calls.{goes_same, none_refl, none_trans, none_in_vain, none_renewed, none_asked, helped}
use Rattle.sk_theta.specs.Sizes.{Sizes}
use Rattle.sk_line.specs.Pumps.{IsPumped}
use Rattle.sk_line.specs.Serving.{DropsItem, Estimates, IsSynced, IsUnpublished, AnswersRequest, item_kept}
use Rattle.sk_line.specs.declared.answers.Answer.{Answer}
use Rattle.sk_line.specs.declared.answers.Answer.TheVariants as answer
use Rattle.sk_line.specs.declared.requests.Request.{Request}
use Rattle.sk_line.specs.declared.requests.Request.TheVariants as request

-- ---- steps that keep nothing

pub none_pumped : (u u' : UpdaterState) → IsPumped u u' → KeepsNone u u'
none_pumped u u' p = helped u u' p.stays p.knows

-- all that was kept was handed over, and is published
pub synced : (hint_of : List ℕ → List Entry → ℕ) (u v x w : UpdaterState) → KeepsNone u v → v.fill ≡ [] → IsPumped v x → Renews hint_of x w → IsSynced u w
synced hint_of u v x w handed empty pump renews =
    let before : KeepsNone u x = none_trans u v x handed (none_pumped v x pump) in
    let none : x.fill ≡ [] = ap (λ z. z.fill) pump.stays ∙ empty in
    let all : handed_of x ≡ kept_of u = sym (append-nil (handed_of x)) ∙ ap (λ (l : List ℕ). handed_of x ++ l) (sym none) ∙ before.kept in
    let number : x.number ≡ u.number = before.goes.number in
    record {
      goes = none_trans u x w before (none_renewed hint_of x w renews);
      fill = ap (λ z. z.fill) renews.state ∙ none;
      sees = subst (λ (i : ℕ). entries_by i w.view.seen ≡ kept_of u) number (renews.renewed.sees_all ∙ all);
      based = subst (λ (i : ℕ). entries_by i (base_of w) ≡ kept_of u) number (renews.renewed.all ∙ all);
    }

pub looked_later : (u v x w : UpdaterState) → KeepsNone u v → IsPumped v x → LooksInVain x w → IsUnpublished u w
looked_later u v x w handed pump look = record { before = x; goes = none_trans u v x handed (none_pumped v x pump); look = look }

pub looked_first : (u w : UpdaterState) → LooksInVain u w → IsUnpublished u w
looked_first u w look = record { before = u; goes = none_refl u; look = look }

-- ---- one ask

items_of : (n : ℕ) (l : List Entry) → All (IsEntry n) l → AreItems (items_of_entries l)
unfolding items_of_entries
items_of n l all = All-map IsItem (λ (e : Entry). e.1) l (λ i d inside. (all i d inside).1)

pub estimates : (packed : List ℕ → List Entry → ℕ) → ((numbers : List ℕ) (list : List Entry) → packed numbers list ≡ packed_of (k_of numbers) (items_of_entries list)) →
    (k n d count theta word : ℕ) (u u' : UpdaterState) → k_of u.view.numbers ≡ k → IsOwnReply packed u word u' → (count, theta) ≡ unpacked k word → (n, d) ≡ fraction_of k count theta → Estimates k n d u u'
estimates packed packed_is k n d count theta word u u' k_is r read is =
    let items = items_of_entries u'.view.seen in
    let value : word ≡ packed_of (k_of u.view.numbers) items = r.value ∙ packed_is u.view.numbers u'.view.seen in
    let both : (count, theta) ≡ (count_of k items, theta_of k items) =
    read ∙ ap (unpacked k) (value ∙ ap (λ (m : ℕ). packed_of m items) k_is) ∙ packed_reads_back k items (items_of (length u.view.sizes) u'.view.seen r.entries) in
    record {
      word = word;
      reply = record { grows = r.grows; entries = r.entries; own = r.own; value = value; lacks_handed = r.lacks_handed; lacks_kept = r.lacks_kept; stays = r.stays };
      estimate = is ∙ ap (λ (p : ℕ × ℕ). fraction_of k p.0 p.1) both;
    }

-- ---- an item that is filtered

pub drops : (k item hint : ℕ) (keeps : Bool) (u u' : UpdaterState) → keeps ≡ nat_lt item hint → hint ≡ theta_of k (items_of_entries (base_of u)) → keeps ≡ false → u' ≡ u → Begins (base_of u) u.view.seen → DropsItem k item u u'
drops k item hint keeps u u' keeps_is hint_is dropped stays based =
    let no : nat_lt item hint ≡ false = sym keeps_is ∙ dropped in
    let past : hint ≤ item = grind (arith, nat_tests) in
    record { stays = stays; idle = subst (λ (h : ℕ). h ≤ item) hint_is past; based = based }

-- ---- any request

unpublished : (u u' : UpdaterState) → IsUnpublished u u' → KeepsNone u u'
unpublished u u' n = none_trans u n.before u' n.goes (none_in_vain n.before u' n.look)

none_more : (u u' : UpdaterState) → KeepsNone u u' → kept_of u' ≡ kept_of u ++ []
none_more u u' n = n.kept ∙ sym (append-nil (kept_of u))

same_more : (u u' : UpdaterState) → u' ≡ u → kept_of u' ≡ kept_of u ++ []
same_more u u' same = ap kept_of same ∙ sym (append-nil (kept_of u))

-- the updater continues, and keeps the item of an add that is answered so
pub does_go : (shape : Sizes) (r : Request) (line : List ℕ) (a : Answer) (u u' : UpdaterState) → AnswersRequest shape r line a u u' → GoesOn u u' × (kept_of u' ≡ kept_of u ++ item_kept shape.seed line a)
does_go shape request.Add line answer.Kept u u' d = (d.goes, d.kept)
does_go shape request.Add line answer.Filtered u u' d = (goes_same u u' d.stays, same_more u u' d.stays)
does_go shape request.Add line answer.Busy u u' d = let none : KeepsNone u u' = none_in_vain u u' d.look in (none.goes, none_more u u' none)
does_go shape request.Add line _ u u' d = absurd d
does_go shape request.Ask line (answer.Estimate n m) u u' d = let none : KeepsNone u u' = none_asked _ u u' d.word d.reply in (none.goes, none_more u u' none)
does_go shape request.Ask line _ u u' d = absurd d
does_go shape request.Sync line answer.Synced u u' d = (d.goes.goes, none_more u u' d.goes)
does_go shape request.Sync line answer.Busy u u' d = let none : KeepsNone u u' = unpublished u u' d in (none.goes, none_more u u' none)
does_go shape request.Sync line _ u u' d = absurd d
does_go shape request.Quit line a u u' d = absurd d
does_go shape request.Bad line answer.Bad u u' d = (goes_same u u' d, same_more u u' d)
does_go shape request.Bad line _ u u' d = absurd d

one_at_most : (seed : ℕ) (line : List ℕ) (a : Answer) → length (item_kept seed line a) ≤ 1
one_at_most seed line answer.Kept = omega arith
one_at_most seed line _ = omega arith

pub does_few : (shape : Sizes) (r : Request) (line : List ℕ) (a : Answer) (u u' : UpdaterState) → AnswersRequest shape r line a u u' → length (kept_of u') ≤ length (kept_of u) + 1
does_few shape r line a u u' d = omega (arith, ap length (does_go shape r line a u u' d).1, length-append (kept_of u) (item_kept shape.seed line a), one_at_most shape.seed line a)

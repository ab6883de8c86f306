-- Updaters that are new, and that go on.
use Rattle.std.proofs.Common.{◌≡◌, inl, ℕ, ◌<◌, Bool, List, length, get_or, Option, Some, None, IfSome, slice_index, refl, sym, subst, ◌∙◌}
use Rattle.std.proofs.lemmas.Option.{slice_get-get_or}
use Rattle.sk_model.specs.Entries.{Entry}
use Rattle.sk_model.specs.Missing.{Begins}
use Rattle.sk_gate.specs.Hands.{TokenState}
use Rattle.sk_hub.specs.Hearts.{HeartState}
use Rattle.sk_hub.specs.Starts.{AreNew, IsNewHeart, IsNewToken}
use Rattle.sk_hub.specs.Drains.{IsNew}
use Rattle.sk_hub.specs.Updaters.{UpdaterState, handed_of}
use Rattle.sk_feed.specs.Shares.{HaveKeptNone}
use Rattle.sk_feed.specs.Hubs.{IsHub}

module _ (hint_of : List ℕ → List Entry → ℕ) (sizes : List ℕ) (h : HeartState) (us : List UpdaterState) (new : AreNew hint_of sizes h us) where
  new_at : (i : ℕ) (d : UpdaterState) → i < length us → IsNew hint_of i (slice_index sizes i) h (get_or us i d)
  new_at i d within = new i (get_or us i d) (slice_get-get_or us i d within)

  pub new_have_kept_none : (numbers : List ℕ) → h.view.numbers ≡ numbers → HaveKeptNone numbers us
  new_have_kept_none numbers are = λ i d within. ((new_at i d within).numbers ∙ are, (new_at i d within).kept)

  -- with a new heart and a new token they are one hub
  pub new_hub : (n : ℕ) (sketch_numbers name : List ℕ) (eager : Bool) (t : TokenState) → IsNewHeart n sketch_numbers name eager h → IsNewToken h t → length us ≡ n → IsHub (record { heart = h; updaters = us; token = t })
  new_hub n sketch_numbers name eager t heart token count = record {
    count = count ∙ sym heart.updaters;
    updaters = λ i d within. let u = new_at i d within in record {
      number = u.number_is;
      table = u.table;
      numbers = u.numbers;
      name = u.name;
      known = subst (λ l. Begins l (handed_of (get_or us i d))) (sym (token.known i)) (handed_of (get_or us i d), refl);
      size = inl (token.sizes i);
    };
    table = token.table;
    sized = token.sized;
    numbers = token.numbers_are;
    name = token.name_is;
  }

-- the name of a hub's sketch is that of the sketch which it was opened with
pub named_so : (sketch : Option (List ℕ)) (name own : List ℕ) → own ≡ name → IfSome sketch (λ n. name ≡ n) → IfSome sketch (λ n. own ≡ n)
named_so None name own is named = tt
named_so (Some n) name own is named = is ∙ named

-- What one updater without windows writes.
use Rattle.std.proofs.Common.{◌≡◌, ℕ, if◌then◌else◌, List, [], ◌∷◌, ◌++◌, length, Option, None, is_some, refl, ap, ◌∙◌, arith}
use Rattle.sk_hub.specs.Hearts.{HeartState}
use Rattle.sk_read.specs.Items.{items_by}
use Rattle.sk_snap.specs.History.{entries_in}
use Rattle.sk_snap.specs.Versions.{Learnt, items_in}
use Rattle.sk_tell.specs.Manners.{Manner}
use Rattle.sk_tell.specs.Moments.{Moment}
use Rattle.sk_tell.specs.Headline.{TellsLines}
use Rattle.sk_tell.specs.Texts.{interim_text}
use Rattle.sk_tell.proofs.HeadlineLaws.{course_of}
use Rattle.sk_tell.proofs.Orders.{in_order_of_one}

no_text : (manner : Manner) (moments : List Moment) → length moments ≡ 0 → interim_text manner moments ≡ []
unfolding interim_text
no_text manner [] none = refl
no_text manner (m ∷ moments) none = absurd (omega (arith, none))

pub one_line : (manner : Manner) (lines : List (List ℕ)) (h : HeartState) (reader : Learnt) (text : List ℕ) → manner.updaters ≡ 1 → manner.window ≡ None → TellsLines manner lines h reader text → text ≡ manner.line (items_by manner.kind lines)
one_line manner lines h reader text one none told =
    let few : length told.moments ≡ 0 = told.asked ∙ ap (λ (w : Option ℕ). if is_some w then length told.windows else 0) none in
    told.written ∙ ap (λ l. l ++ manner.line (items_in reader.known)) (no_text manner told.moments few)
    ∙ ap manner.line (in_order_of_one manner lines (course_of manner lines h reader text told) (entries_in reader.known) told.list one)

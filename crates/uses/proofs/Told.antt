-- The rank that was told of a source.
use Rattle.std.proofs.Common.{◌≡◌, ℕ, ◌≤◌, List, [], ◌++◌, ◌∷◌, if◌then◌else◌, length, Option, None, is_some, refl, ap, subst, ◌∙◌, arith}
use Rattle.std.specs.Int.{abs_diff}
use Rattle.std.specs.Io.KnownBytes.{Appends, Consumes, IsAtEnd}
use Rattle.sk_hub.specs.Hearts.{HeartState}
use Rattle.sk_quant.specs.Held.{ranked}
use Rattle.sk_quant.specs.Ranks.{rank_of, rank_error}
use Rattle.sk_read.specs.Units.{units_by, units_of}
use Rattle.sk_snap.specs.Versions.{Learnt, items_in}
use Rattle.sk_tell.specs.Moments.{Moment}
use Rattle.sk_tell.specs.Texts.{interim_text}
use Rattle.sk_tell.specs.Endings.{Setting, TellsAll}
use Rattle.sk_rank.specs.declared.plan.Plan.{Plan}
use Rattle.sk_rank.specs.Plans.{rank_manner}
use Rattle.sk_rank.specs.Texts.{told_line, rank_line}
use Rattle.uses.specs.Told.{items_of_text, TellsRank}

no_text : (plan : Plan) (moments : List Moment) → length moments ≡ 0 → interim_text (rank_manner plan) moments ≡ []
unfolding interim_text
no_text plan [] none = refl
no_text plan (m ∷ moments) none = absurd (omega (arith, none))

pub tells_rank : (at : ℕ) (plan : Plan) (old new : Setting) (h : HeartState) (reader : Learnt) (left left' : Option (List ℕ)) (text : List ℕ) → Consumes left left' text → IsAtEnd left' → plan.window ≡ None → plan.at ≡ at
    → TellsAll (rank_manner plan) old new h reader (units_of (units_by 0) text) → length (items_in reader.known) ≡ length (items_of_text text) → rank_of plan.at (items_in reader.known) ≡ rank_of plan.at (items_of_text text)
    → TellsRank at plan.k left left' old.written new.written
tells_rank at plan old new h reader left left' text consumed end none at_is all count rank =
    let told = all.exactly in
    let below : ℕ = ranked plan.at plan.k plan.key (items_in reader.known) in
    let few : length told.moments ≡ 0 = told.asked ∙ ap (λ (w : Option ℕ). if is_some w then length told.windows else 0) none in
    let line : all.text ≡ told_line (length (items_of_text text)) below (rank_error (length (items_of_text text)) plan.k) =
    told.written ∙ ap (λ l. l ++ rank_line plan (items_in reader.known)) (no_text plan told.moments few) ∙ (λ e. told_line (count e) below (rank_error (count e) plan.k)) in
    record {
      text = text;
      consumed = consumed;
      end = end;
      below = below;
      near = subst (λ (m : ℕ). abs_diff below (rank_of m (items_of_text text)) ≤ rank_error (length (items_of_text text)) plan.k) at_is
          (subst (λ n. abs_diff below (rank_of plan.at (items_of_text text)) ≤ rank_error n plan.k) count (subst (λ m. abs_diff below m ≤ rank_error (length (items_in reader.known)) plan.k) rank told.holds));
      written = subst (Appends old.written new.written) line all.written;
    }

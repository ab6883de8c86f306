-- What a command that writes by a manner decides of a text.
use Rattle.std.proofs.Common.{◌≡◌, ℕ, List, [], ◌++◌, if◌then◌else◌, length, Option, None, is_some, sym, ap, ◌∙◌}
use Rattle.sk_model.specs.Entries.{items_of_entries}
use Rattle.sk_read.specs.Items.{items_by}
use Rattle.sk_read.specs.Units.{units_by, units_of}
use Rattle.sk_tell.specs.Manners.{Manner}
use Rattle.sk_tell.specs.Feeding.{Course}
use Rattle.sk_tell.specs.Moments.{Moment}
use Rattle.sk_tell.specs.Texts.{interim_text}
use Rattle.sk_tell.proofs.Orders.{in_order_of_one}
use Rattle.sk_cli.specs.Behaviour.{IsDecided, WritesOneText}
use Rattle.sk_cli.specs.Beside.{Beside, MadeHub}
use Rattle.sk_cli.specs.ByManner.{IsInterimText, IsWholeText, telling_by}
use Rattle.sk_cli.specs.Lines.{lines_before}
use Rattle.sk_cli.proofs.CountDeciding.{nothing_in, readable_or_refused, refused_once}

module _ (manner : Manner) (makes : MadeHub) (Left : Beside → List (List ℕ) → List ℕ → Beside → Type 0) where
  pub manner_decides : IsDecided (telling_by manner makes Left)
  manner_decides = record {
    refused = λ f g text one two. refused_once manner.kind manner.column f g text one two;
    apart = λ f text one two. readable_or_refused manner.kind manner.column f text one two;
  }

no_text : (manner : Manner) (moments : List Moment) → moments ≡ [] → interim_text manner moments ≡ []
unfolding interim_text
no_text manner moments none = ap (interim_text manner) none

module _ (manner : Manner) (none : manner.window ≡ None) (from to : Beside) where
  -- without a window nobody asks
  no_interim : (units : List (List ℕ)) (course : Course manner units) → interim_text manner course.moments ≡ []
  no_interim units course = no_text manner course.moments (nothing_in course.moments (course.asks.count ∙ ap (λ (w : Option ℕ). if is_some w then length course.windows else 0) none))

  -- so one line is due
  pub last_alone : (units : List (List ℕ)) (due : List ℕ) → (whole : IsWholeText manner from to units due) → due ≡ manner.line (items_of_entries whole.list)
  last_alone units due whole = whole.is ∙ ap (λ (l : List ℕ). l ++ manner.line (items_of_entries whole.list)) (no_interim units whole.course)

  -- and one updater keeps the order of the units
  pub in_order : manner.updaters ≡ 1 → (units : List (List ℕ)) (due : List ℕ) → IsWholeText manner from to units due → due ≡ manner.line (items_by manner.kind units)
  in_order one units due whole = last_alone units due whole ∙ ap manner.line (in_order_of_one manner units whole.course whole.list whole.has_all one)

  nothing_due : (units : List (List ℕ)) (due : List ℕ) → IsInterimText manner from to units due → due ≡ []
  nothing_due units due interim = interim.is ∙ no_interim units interim.course

-- one text is due where the line of each list of all items is one
pub one_text_by : (manner : Manner) (makes : MadeHub) (Left : Beside → List (List ℕ) → List ℕ → Beside → Type 0) → manner.window ≡ None
    → ((from to : Beside) (units : List (List ℕ)) (due : List ℕ) → IsWholeText manner from to units due → due ≡ manner.line (items_by manner.kind units)) → WritesOneText (telling_by manner makes Left)
one_text_by manner makes Left none line = record {
  due = λ from to to' text due other first second. line from to (units_of (units_by manner.column) text) due first ∙ sym (line from to' (units_of (units_by manner.column) text) other second);
  refused = λ from to to' f text due other first second.
      nothing_due manner none from to (lines_before f (units_of (units_by manner.column) text)) due first ∙ sym (nothing_due manner none from to' (lines_before f (units_of (units_by manner.column) text)) other second);
}

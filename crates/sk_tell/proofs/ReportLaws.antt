-- A report, by what its calls did.
use Rattle.std.proofs.Common.{◌≡◌, ℕ, ◌<◌, ◌≤◌, List, length, get_or, Option, refl, sym, ap, subst, ◌∙◌, arith}
use Rattle.std.specs.Io.KnownBytes.{Appends}
use Rattle.sk_model.specs.Causes.{AppendsPart}
use Rattle.sk_model.proofs.Missing.{begins_refl}
use Rattle.sk_hub.specs.Updaters.{UpdaterState}
use Rattle.sk_feed.specs.Hubs.{Hub, IsHub, IsUpdaterAt, LeavesHub, IsLeft}
use Rattle.sk_feed.proofs.HubLaws.{leaves_same}
use Rattle.sk_snap.specs.Versions.{Learnt, items_in}
use Rattle.sk_learn.specs.Learning.{ReaderGoesOn, LearnsFirst, untold, AreAsked}
use Rattle.sk_tell.specs.Reports.{showing, LearnsHub, Reports, Breaks, due_line}
use Rattle.sk_tell.specs.Texts.{interim_line}
use Rattle.sk_learn.proofs.LearningLaws.{goes_trans, knows_more}

-- the line of items, and what holds of them, by the numbers of the reader that asked
module _ {Q : Type 0} (line : Q → List ℕ → List ℕ → List ℕ) (lower upper : Q → List ℕ → List ℕ → ℕ) (query : Q) (lines : ℕ) (r m s : Learnt) (w w' : Option (List ℕ)) (a b : Hub) (learns : LearnsFirst r a.updaters (length a.updaters) m) (goes : ReaderGoesOn m s)
    (is : lower query m.numbers (items_in s.known) ≤ upper query m.numbers (items_in s.known)) where
  learns_hub : LearnsHub r a.updaters s
  learns_hub = record { goes = goes_trans r m s learns.goes goes; knows = λ i d within. knows_more m s (get_or a.updaters i d) goes (learns.knows i d within) }

  line_is : interim_line lines (line query m.numbers (items_in s.known)) ≡ due_line line lines query s
  line_is = ap (λ n. interim_line lines (line query n (items_in s.known))) (sym goes.numbers)

  holds : lower query s.numbers (items_in s.known) ≤ upper query s.numbers (items_in s.known)
  holds = subst (λ n. lower query n (items_in s.known) ≤ upper query n (items_in s.known)) (sym goes.numbers) is

  pub report_made : Appends w w' (interim_line lines (line query m.numbers (items_in s.known))) → Reports line lower upper (showing query r w) lines a b (showing query s w')
  report_made written = record { query = refl; learns = learns_hub; holds = holds; written = subst (Appends w w') line_is written }

  pub report_broke : AppendsPart w w' (interim_line lines (line query m.numbers (items_in s.known))) → Breaks line lower upper (showing query r w) lines a b (showing query s w')
  report_broke written = record { learns = learns_hub; holds = holds; written = subst (AppendsPart w w') line_is written }

-- the hub, of whose updaters the told values were taken
pub still_hub : (a : Hub) (us : List UpdaterState) → IsHub a → AreAsked a.updaters (length a.updaters) us → IsHub (record { heart = a.heart; updaters = us; token = a.token })
still_hub a us is asked = record {
  count = asked.count ∙ is.count;
  updaters = λ i d within. at i d (omega (arith, asked.count));
  table = is.table;
  sized = is.sized;
  numbers = is.numbers;
  name = is.name;
}
  where
    at : (i : ℕ) (d : UpdaterState) → i < length a.updaters → IsUpdaterAt (record { heart = a.heart; updaters = us; token = a.token }) i (get_or us i d)
    at i d within =
        let was = is.updaters i d within in
        subst (IsUpdaterAt (record { heart = a.heart; updaters = us; token = a.token }) i) (sym (asked.first i d within)) (record { number = was.number; table = was.table; numbers = was.numbers; name = was.name; known = was.known; size = was.size })

untold_left : (u : UpdaterState) → IsLeft u (untold u)
untold_left u = record {
  stays = refl;
  handed = refl;
  base = refl;
  numbers = refl;
  name = refl;
  sized = refl;
  seen = begins_refl u.view.seen;
  steps = begins_refl u.view.steps;
}

-- and what that leaves
pub hub_left : (a : Hub) (us : List UpdaterState) → AreAsked a.updaters (length a.updaters) us → LeavesHub a (record { heart = a.heart; updaters = us; token = a.token })
hub_left a us asked =
    let same = leaves_same a in record {
      heart = same.heart;
      count = asked.count;
      updaters = λ i d within. subst (IsLeft (get_or a.updaters i d)) (sym (asked.first i d within)) (untold_left (get_or a.updaters i d));
      token = same.token;
    }

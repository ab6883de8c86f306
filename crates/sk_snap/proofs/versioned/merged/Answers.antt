use Rattle.std.proofs.Common.{◌≡◌, ◌++◌, ◌+◌, ◌≤◌, ◌^◌, ℕ, List, ap, sym, subst, ◌∙◌, length, arith, false, Some}
use Rattle.sk_model.specs.Entries.{tagged}
use Rattle.sk_model.specs.Width.{AreItems}
use Rattle.sk_snap.specs.History.{Beginning, Taken, entries_in, length_word}
use Rattle.sk_snap.specs.Versions.{IsVersion, Continues, WillContinue, Refuses, with_batch, items_in}
use Rattle.sk_snap.specs.declared.version.Version.{Version}
use Rattle.sk_snap.proofs.Versions.{next_is_version, entries_more, refuses_same, refuses_this, refused_is}
use Rattle.sk_snap.proofs.versioned.merged.Goals as goal

pub next_batch-requires-clause-refused : goal.next_batch-requires-clause-refused
next_batch-requires-clause-refused g c =
    let known : c.published-version.result.now.known ≡ c.args.writer.desk.shown.value.known = ap (λ (v : Version g.row.S.Denot). v.known) c.published-version.ensures in
    λ batch is. subst (λ (b : Beginning). Continues b batch) (sym known) (c.requires.writing.continues batch is)

pub returns-in_default-clause-writing : goal.returns-in_default-clause-writing
returns-in_default-clause-writing g c =
    record {
      whole = c.requires.writing.whole;
      none = c.requires.writing.none;
      word_is = c.requires.writing.word_is;
      continues = subst (WillContinue c.args.writer.desk.shown.value.known) (sym c.in_default.ensures.kept) c.requires.writing.continues;
    }

pub returns-in-Ok-given-clause-writing : goal.returns-in-Ok-given-clause-writing
returns-in-Ok-given-clause-writing g c =
    let now = c.args.writer.desk.shown.value in
    let batch = c.in-Ok.batch in
    let known : c.published-version.result.now.known ≡ now.known = ap (λ (v : Version g.row.S.Denot). v.known) c.published-version.ensures in
    let continues : Continues now.known batch = subst (λ (b : Beginning). Continues b batch) known c.in-Ok.ensures.continues in
    let few : length (items_in now.known) + length batch.items ≤ 2 ^ 46 = omega (arith, c.requires.room, ap (λ (l : List ℕ). length l) c.in-Ok.ensures.batch.1) in
    let taken = c.give-writer.ensures.taken in
    let next : c.give-writer.result.0.desk.shown.value ≡ with_batch g.S.Sequential.after now batch = rw (c.in-Ok-given.is) at (taken.shown) in
    record {
      whole =
          subst (λ (v : Version g.row.S.Denot). IsVersion g.S.Sequential.is_of v) (sym next)
          (next_is_version g.S.Sequential.is_of g.S.Sequential.after g.met.S.Sequential.goes_on now batch continues (subst AreItems (sym c.in-Ok.ensures.batch.1) c.requires.items) few c.requires.writing.whole);
      none = taken.none;
      word_is = c.requires.writing.word_is ∙ ap length_word (sym continues.book) ∙ ap (λ (v : Version g.row.S.Denot). length_word v.known.book) (sym next);
      continues = λ other is. absurd (cc (sym c.in-Ok.ensures.none ∙ is));
    }

pub returns-in-Ok-given-clause-merged : goal.returns-in-Ok-given-clause-merged
returns-in-Ok-given-clause-merged g c =
    let now = c.args.writer.desk.shown.value in
    let batch = c.in-Ok.batch in
    let known : c.published-version.result.now.known ≡ now.known = ap (λ (v : Version g.row.S.Denot). v.known) c.published-version.ensures in
    let continues : Continues now.known batch = subst (λ (b : Beginning). Continues b batch) known c.in-Ok.ensures.continues in
    let next : c.give-writer.result.0.desk.shown.value ≡ with_batch g.S.Sequential.after now batch = rw (c.in-Ok-given.is) at (c.give-writer.ensures.taken.shown) in
    record {
      entries =
          ap (λ (v : Version g.row.S.Denot). entries_in v.known) next
          ∙ entries_more now.known batch continues
          ∙ ap (λ (i : ℕ). entries_in now.known ++ tagged i batch.items) c.in-Ok.ensures.batch.0
          ∙ ap (λ (items : List ℕ). entries_in now.known ++ tagged c.args.from items) c.in-Ok.ensures.batch.1;
      refused = λ wrong. absurd (cc wrong);
      numbers_are = ap (λ (v : Version g.row.S.Denot). g.S.Sequential.numbers v.sketch) next ∙ g.met.S.Sequential.same_numbers now.sketch batch.items;
      book = ap (λ (v : Version g.row.S.Denot). v.known.book) next ∙ continues.book;
    }

pub returns-in_default-clause-refused : goal.returns-in_default-clause-refused
returns-in_default-clause-refused g c =
    subst (λ o. Refuses c.args.refused.now o c.args.from c.args.items.now false) (sym c.in_default.ensures.kept) (refuses_same c.args.refused.now c.args.from c.args.items.now)

pub returns-in-Ok-given-clause-refused : goal.returns-in-Ok-given-clause-refused
returns-in-Ok-given-clause-refused g c =
    (refused_is c.args.refused.now c.in-Ok.batch c.args.from c.args.items.now c.in-Ok.ensures.first c.in-Ok.ensures.batch, c.in-Ok.ensures.none)

pub returns-in-Err-clause-refused : goal.returns-in-Err-clause-refused
returns-in-Err-clause-refused g c =
    let shown = rw (c.in-Err.is) at (c.give-writer.ensures.taken.shown) in
    subst (λ (batch : Taken). Refuses c.args.refused.now (Some batch) c.args.from c.args.items.now false) (sym shown.0)
    (refuses_this c.args.refused.now c.in-Ok.batch c.args.from c.args.items.now c.in-Ok.ensures.first c.in-Ok.ensures.batch)

use Rattle.std.proofs.Common.{◌<◌, ◌≤◌, ◌++◌, ◌∷◌, [], ℕ, List, length, sym, ◌∙◌, subst, arith, length-append}
use Rattle.sk_model.specs.Limits.{line_limit}
use Rattle.sk_read.specs.Records.{field_of, AreEven}
use Rattle.sk_read.proofs.ColumnLaws.{even_more, sound_more}
use Rattle.sk_read.proofs.records.column.ColumnReader.admit.Goals as goal

pub returns-then-len-gt-LINE_LIMIT-clause-goes : goal.returns-then-len-gt-LINE_LIMIT-clause-goes
returns-then-len-gt-LINE_LIMIT-clause-goes c = λ rows row field few has of size.
    let column = c.args.self.now.column in
    let fit = (c.fits.ensures rows row has.width of.0).1.0 c.if-not-fits.false in
    let present : column < length row = omega (arith, fit.1, of.0) in (
      omega (arith, has.number),
      even_more column rows row has.sound.even (sym of.0 ∙ fit.0) present,
      subst (λ (l : List ℕ). line_limit < length l) (of.1 present) (omega (arith, size, c.if-len-gt-LINE_LIMIT.true)),
      tt,
    )

pub returns-clause-goes : goal.returns-clause-goes
returns-clause-goes c = λ rows row field few has of size.
    let column = c.args.self.now.column in
    let fits = c.fits.ensures rows row has.width of.0 in
    let fit = fits.1.0 c.if-not-fits.false in
    let present : column < length row = omega (arith, fit.1, of.0) in
    let even : AreEven column (rows ++ row ∷ []) = even_more column rows row has.sound.even (sym of.0 ∙ fit.0) present in
    let short : length (field_of column row) ≤ line_limit =
    subst (λ (l : List ℕ). length l ≤ line_limit) (of.1 present) (omega (arith, size, c.if-len-gt-LINE_LIMIT.false)) in (
      record {
        number = omega (arith, has.number, length-append rows (row ∷ []));
        width = fits.0;
        sound = sound_more column rows row has.sound even short;
        gave = tt;
      },
      of.1 present,
    )

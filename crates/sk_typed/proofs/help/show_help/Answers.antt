use Rattle.std.proofs.Common.{codes}
use Rattle.std.proofs.lemmas.Result.{on_ok_weaker}
use Rattle.sk_typed.proofs.Parts.{appends_both}
use Rattle.sk_typed.proofs.help.show_help.Goals as goal

pub returns : goal.returns
returns c c' = on_ok_weaker c'.write_all-3.result
    (λ last. (
      c'.help_of.result.now,
      c'.help_of.ensures,
      appends_both _ _ _ _ _ (appends_both _ _ _ (codes "usage: sketchd ") _ c'.in_ok-write_all.ensures.ok (rw c'.as_bytes.ensures.value at c'.in_ok-write_all-2.ensures.ok)) last,
    ))
    c'.write_all-3.ensures.ok

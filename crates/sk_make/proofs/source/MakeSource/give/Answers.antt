use Rattle.std.proofs.Common.{◌≡◌, ℕ, ◌<◌, min, List, [], ◌∷◌, ◌++◌, length, take, ap, refl, arith, length-append}
use Rattle.sk_make.specs.Made.{numbers_from, text_of}
use Rattle.sk_make.proofs.Texts.{text_is_over}
use Rattle.sk_make.proofs.source.MakeSource.give.Goals as goal

-- where nothing was given of a line, nothing is left of it, nor due
nothing_left : (before after buf : List ℕ) (n room key j due : ℕ) → n ≡ min room (length before) → before ≡ take n buf ++ after → 0 < room → (before ≡ [] → due ≡ 0) → n ≡ 0 → after ++ text_of (numbers_from key j due) ≡ []
nothing_left (x ∷ before) after buf n room key j due count bytes some end none = absurd (omega (arith, count, some, none))
nothing_left [] (y ∷ after) buf n room key j due count bytes some end none = absurd (omega (arith, ap length bytes, length-append (take n buf) (y ∷ after)))
nothing_left [] [] buf n room key j due count bytes some end none = text_is_over key j due (end refl)

pub returns-clause-end : goal.returns-clause-end
returns-clause-end c = nothing_left c.refill.new.line c.give.new.self c.give.new.buf c.give.result (length c.args.buf.now) _ _ _ c.give.ensures.count c.give.ensures.bytes c.requires c.refill.ensures.end

use Rattle.std.proofs.Common.{◌≡◌, ◌-◌, ◌++◌, false, sym, ap, ◌∙◌, subst, arith}
use Rattle.std.proofs.lemmas.Bool.{false≢true}
use Rattle.sk_lines.specs.declared.cutter.Next.{Next}
use Rattle.sk_lines.specs.Cutter.{Cutter}
use Rattle.sk_lines.specs.Inside.{cutter_of, IsKept}
use Rattle.sk_lines.specs.Padded.{PaddedState}
use Rattle.sk_lines.proofs.Feeding.{at_front, fed_kept, fed_rest, follows_more}
use Rattle.sk_lines.proofs.cutter.Lines.feed.Goals as goal

pub invariant_of-self : goal.invariant_of-self
invariant_of-self c =
    let a = c.self.inside in
    let is = c.self.view_is ∙ c.drop_given.ensures in
    let start = at_front a c.self.invariant (ap (λ (x : Cutter). x.front) is) in
    subst (λ (b : PaddedState). IsKept (record a { buffer = b; scanned = c.len.result - 64; marks = 0; last = Next.More; hungry = false })) (sym c.push.ensures)
    (fed_kept a c.args.piece.now c.self.invariant start (c.len.result - 64) false (ap (λ (x : Cutter). x.hungry) is ∙ c.requires.hungry) (ap (λ (x : Cutter). x.ended) is ∙ c.requires.not_ended)
    (omega (arith, c.len.ensures)) (λ same. absurd (false≢true same)))

pub returns-clause-follows : goal.returns-clause-follows
returns-clause-follows c =
    let a = c.self.inside in
    let is = c.self.view_is ∙ c.drop_given.ensures in
    let start = at_front a c.self.invariant (ap (λ (x : Cutter). x.front) is) in
    let new : Cutter = cutter_of (record a { buffer = c.push.new.self; scanned = c.len.result - 64; marks = 0; last = Next.More; hungry = false }) in
    let rest : new.rest ≡ (cutter_of a).rest ++ c.args.piece.now = ap (λ (b : PaddedState). (cutter_of (record a { buffer = b })).rest) c.push.ensures ∙ fed_rest a c.args.piece.now c.self.invariant start in
    follows_more c.args.self.now new c.args.piece.now (rest ∙ ap (λ (x : Cutter). x.rest ++ c.args.piece.now) is) (ap (λ (x : Cutter). x.number) is) (ap (λ (x : Cutter). x.limit) is)

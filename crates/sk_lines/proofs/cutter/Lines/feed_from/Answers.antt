use Rattle.std.proofs.Common.{◌≡◌, ℕ, ◌-◌, ◌++◌, take, Bool, nat_eq, rules, refl, sym, ap, ◌∙◌, subst, arith}
use Rattle.sk_lines.specs.declared.cutter.Next.{Next}
use Rattle.sk_lines.specs.Cutter.{Cutter}
use Rattle.sk_lines.specs.Inside.{cutter_of, IsKept}
use Rattle.sk_lines.specs.Padded.{PaddedState}
use Rattle.sk_lines.proofs.Feeding.{at_front, fed_kept, fed_rest, follows_more, none_read}
use Rattle.sk_lines.proofs.cutter.Lines.feed_from.Goals as goal

pub invariant_of-self : goal.invariant_of-self
invariant_of-self g c =
    let a = c.self.inside in
    let is = c.self.view_is ∙ c.drop_given.ensures in
    let start = at_front a c.self.invariant (ap (λ (x : Cutter). x.front) is) in
    let read = c.read-read.ensures.read in
    let hungry : Bool = nat_eq c.unwrap_or.result 0 in
    subst (λ (b : PaddedState). IsKept (record a { buffer = b; scanned = c.len.result - 64; marks = 0; last = Next.More; hungry = hungry })) (sym read.2)
    (fed_kept a read.0 c.self.invariant start (c.len.result - 64) hungry (ap (λ (x : Cutter). x.hungry) is ∙ c.requires.hungry) (ap (λ (x : Cutter). x.ended) is ∙ c.requires.not_ended)
    (omega (arith, c.len.ensures)) (λ none. none_read _ _ c.read-read.result read.0 c.unwrap_or.result read.1 (λ n is. search rules) none))

pub returns-clause-read : goal.returns-clause-read
returns-clause-read g c =
    let a = c.self.inside in
    let is = c.self.view_is ∙ c.drop_given.ensures in
    let start = at_front a c.self.invariant (ap (λ (x : Cutter). x.front) is) in
    let read = c.read-read.ensures.read in
    let new : Cutter = cutter_of (record a { buffer = c.read-read.new.self; scanned = c.len.result - 64; marks = 0; last = Next.More; hungry = nat_eq c.unwrap_or.result 0 }) in
    let rest : new.rest ≡ c.args.self.now.rest ++ read.0 = ap (λ (b : PaddedState). (cutter_of (record a { buffer = b })).rest) read.2 ∙ fed_rest a read.0 c.self.invariant start ∙ ap (λ (x : Cutter). x.rest ++ read.0) is in (
      read.0,
      read.1,
      record {
        follows = follows_more c.args.self.now new read.0 rest (ap (λ (x : Cutter). x.number) is) (ap (λ (x : Cutter). x.limit) is);
        front = ap (λ (k : ℕ). take k c.read-read.new.self.items) start;
        rest = rest;
        number = ap (λ (x : Cutter). x.number) is;
        ending = ap (λ (x : Cutter). x.ending) is;
        last = refl;
        limit = ap (λ (x : Cutter). x.limit) is;
        ended = ap (λ (x : Cutter). x.ended) is ∙ c.requires.not_ended;
      },
    )

use Rattle.std.proofs.Common.{List, ℕ, ◌∷◌, [], length, All, refl, sym, ap, subst, ◌∙◌, arith, length-append}
use Rattle.sk_machine.specs.Coarse.{IsEntry}
use Rattle.uses.specs.Words.{AreWords}
use Rattle.uses.proofs.Words.{no_words, words_more}
use Rattle.uses.proofs.streams.ask_often.Goals as goal

pub ask-init : goal.ask-init
ask-init g c = let v = c.args.token.view in let packed = g.C.Composable.packed_of v.numbers in record {
  numbers = refl;
  sizes = refl;
  words = subst (λ (l : List ℕ). AreWords packed (length v.sizes) v.seen l v.seen) (sym c.new-words.ensures.items) (no_words packed (length v.sizes) v.seen);
  count = ap length c.new-words.ensures.items;
}

pub ask-preserved : goal.ask-preserved
ask-preserved g c =
    let k = g.C.Composable in let v = c.args.token.view in let packed = k.packed_of v.numbers in
    let i = c.ask.invariant in let r = c.ask-in-ask.ensures.reply in let seen = c.ask-in-ask.new.self.view.seen in
    record {
      count = omega (arith, i.count, ap length c.in_ok-push.ensures.items, length-append c.ask.words.items (c.ask-in-ask.result ∷ []));
      numbers = ap (λ w. w.numbers) r.stays ∙ i.numbers;
      sizes = ap (λ w. w.sizes) r.stays ∙ i.sizes;
      words = subst (λ (l : List ℕ). AreWords packed (length v.sizes) v.seen l seen) (sym c.in_ok-push.ensures.items)
          (words_more packed (length v.sizes) v.seen c.ask.words.items c.ask.token.view.seen seen c.ask-in-ask.result i.words r.grows
          (subst (λ (n : ℕ). All (IsEntry n) seen) (ap length i.sizes) r.entries)
          (r.value ∙ ap (λ (n : List ℕ). k.packed_of n seen) i.numbers));
    }

-- What tokens do keeps the invariant of the whole machine.
use Rattle.std.proofs.Common.{◌≡◌, ℕ, ◌+◌, ◌<◌, List, [], length, true, false, true≢false, arith, sym, subst}
use Rattle.sk_model.specs.Entries.{Entry}
use Rattle.sk_model.specs.Missing.{Begins, longer}
use Rattle.sk_model.proofs.Missing.{begins_refl, begins_nil}
use Rattle.sk_machine.specs.Numbered.{put}
use Rattle.sk_machine.specs.Fine.{Token, Fine, IsLive, known_of, with_new_token, after_ask, MaySplit, after_split, MayNote, after_note, MayJoin, after_join}
use Rattle.sk_machine.specs.Invariant.{IsBehind, IsSound}
use Rattle.sk_machine.proofs.Numbered.{each_put}
use Rattle.sk_machine.proofs.Sound.{if_less, if_equal}

module _ (hint packed : List Entry → ℕ) (f : Fine) where
  -- all but the tokens stays
  abbrev with_tokens : ℕ → (ℕ → Token) → Fine
  with_tokens made tokens = record f { made = made; tokens = tokens }

  renamed : (made : ℕ) (tokens : ℕ → Token) → IsSound hint packed f → ((t : ℕ) → t < made → (tokens t).live ≡ true → IsBehind f (tokens t)) → IsSound hint packed (with_tokens made tokens)
  renamed made tokens ok behind = record {
    coarse = ok.coarse;
    fits = record {
      word = ok.fits.word;
      free = ok.fits.free;
      each = ok.fits.each;
      tokens = λ t near live. let o = behind t near live in record { seen = o.seen; known = o.known };
    };
  }

  abbrev Behind : Token → Type 0
  Behind token = token.live ≡ true → IsBehind f token

  sees_all : (token : Token) → IsBehind f token → IsBehind f (record token { seen = f.published })
  sees_all token o = record { seen = begins_refl f.published; known = o.known }

  pub asks : (t : ℕ) → IsSound hint packed f → IsLive t f → IsSound hint packed (after_ask t f)
  asks t ok live =
      let token = f.tokens t in
      renamed f.made (put f.tokens t (record token { seen = f.published })) ok
      (λ s near. each_put (λ _ (c : Token). Behind c) f.tokens t (record token { seen = f.published }) s (λ _. sees_all token (ok.fits.tokens t live.0 live.1)) (λ _. ok.fits.tokens s near))

  -- one token more
  pub makes : (token : Token) → IsSound hint packed f → Behind token → IsSound hint packed (with_new_token token f)
  makes token ok new =
      renamed (f.made + 1) (put f.tokens f.made token) ok
      (λ s near. each_put (λ _ (c : Token). Behind c) f.tokens f.made token s new (λ ne. ok.fits.tokens s (omega arith)))

  pub notes : (i : ℕ) → IsSound hint packed f → MayNote i f → IsSound hint packed (after_note i f)
  notes i ok may =
      let handed : List ℕ = (f.updaters i).handed in
      makes (record { live = true; seen = f.published; known = known_of i handed }) ok
      (λ _. record {
        seen = begins_refl f.published;
        known = λ j near. if_equal (λ l. Begins l (f.updaters j).handed) j i handed [] (λ e. subst (λ k. Begins handed (f.updaters k).handed) (sym e) (begins_refl handed)) (λ _. begins_nil (f.updaters j).handed);
      })

  longer_begins : (xs ys zs : List ℕ) → Begins xs zs → Begins ys zs → Begins (longer xs ys) zs
  longer_begins xs ys zs a b = if_less (λ l. Begins l zs) (length xs) (length ys) ys xs (λ _. b) (λ _. a)

  pub joins : (t other : ℕ) → IsSound hint packed f → MayJoin t other f → IsSound hint packed (after_join t other f)
  joins t other ok may =
      let a = f.tokens t in let b = f.tokens other in
      let joined : Token = record a { seen = f.published; known = λ i. longer (a.known i) (b.known i) } in
      let p = ok.fits.tokens t may.0.0 may.0.1 in let q = ok.fits.tokens other may.1.0 may.1.1 in
      renamed f.made (put (put f.tokens t joined) other (record b { live = false })) ok
      (λ s near. each_put (λ _ (c : Token). Behind c) (put f.tokens t joined) other (record b { live = false }) s (λ live. absurd (true≢false (sym live)))
      (λ _. each_put (λ _ (c : Token). Behind c) f.tokens t joined s
      (λ _. record { seen = begins_refl f.published; known = λ i near. longer_begins (a.known i) (b.known i) (f.updaters i).handed (p.known i near) (q.known i near) })
      (λ _. ok.fits.tokens s near)))

-- the copy of a token that has just asked
pub splits : (hint packed : List Entry → ℕ) (f : Fine) (t : ℕ) → IsSound hint packed f → MaySplit t f → IsSound hint packed (after_split t f)
splits hint packed f t ok may =
    let token : Token = record (f.tokens t) { seen = f.published } in
    let o = ok.fits.tokens t may.0.0 may.0.1 in
    makes hint packed (after_ask t f) token (asks hint packed f t ok may.0) (λ _. record { seen = begins_refl f.published; known = o.known })

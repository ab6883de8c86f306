use Rattle.std.proofs.Common.{◌≡◌, ◌+◌, ℕ, List, [], ◌∷◌, ◌++◌, length, flat_map, take, get_or, ap, ◌∙◌, arith, length-append}
use Rattle.std.proofs.lemmas.List.{take_more}
use Rattle.std.proofs.lemmas.Grind.{flat_map-append}
use Rattle.sk_hub.specs.Updaters.{UpdaterState, kept_of}
use Rattle.sk_tally.proofs.whole.count_kept.Goals as goal

pub updater-preserved : goal.updater-preserved
updater-preserved g c =
    let us = c.args.updaters.now in let i = c.updater.i in let u = c.index-updaters-i.result in
    let f : UpdaterState → List ℕ = λ u. kept_of u in
    let here : length (f u) ≡ length (f (get_or us i u)) = ap (λ (v : UpdaterState). length (f v)) c.index-updaters-i.is in
    let more : flat_map f (take (i + 1) us) ≡ flat_map f (take i us) ++ (f (get_or us i u) ++ []) = ap (λ (l : List UpdaterState). flat_map f l) (take_more us i u c.updater-test.true) ∙ flat_map-append f (take i us) (get_or us i u ∷ []) in
    record {
      count = omega (
        arith,
        c.updater.invariant.count,
        c.taken-count.ensures.value,
        here,
        ap length more,
        length-append (flat_map f (take i us)) (f (get_or us i u) ++ []),
        length-append (f (get_or us i u)) [],
      );
      few = omega (arith, c.updater.invariant.few, c.taken-count.ensures.most);
    }

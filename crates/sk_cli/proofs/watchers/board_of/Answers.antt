use Rattle.std.proofs.Common.{All, IsSome, length, sym, ap, ◌∙◌, subst}
use Rattle.std.proofs.lemmas.List.{length-map}
use Rattle.sk_cli.proofs.WatcherLaws.{live_seen}
use Rattle.sk_cli.proofs.watchers.board_of.Goals as goal

pub returns : goal.returns
returns g c = record {
  places = ap (λ l. length l) c.new.ensures ∙ length-map _ _ ∙ c.requires.places;
  live = subst (λ l. All IsSome l) (sym c.new.ensures) (live_seen _ _ c.requires.live);
}

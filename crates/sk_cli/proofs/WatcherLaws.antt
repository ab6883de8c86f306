-- Boards whose places are filled, or emptied one after another.
use Rattle.std.proofs.Common.{◌≡◌, ℕ, ◌+◌, ◌<◌, List, [], ◌∷◌, ◌++◌, length, take, drop, get_or, set, map, All, Option, Some, None, IsSome, option_map, refl, ap, ◌∙◌, arith, length-append, length-take, length-drop}
use Rattle.std.proofs.lemmas.List.{length-map, get_or_default}
use Rattle.std.proofs.lemmas.List.Edits.{map_over_more}
use Rattle.std.proofs.lemmas.List.Elements.{All-map}
use Rattle.sk_theta.specs.declared.reply.Reply.{Reply}
use Rattle.sk_watch.specs.Places.{Place, IsLive, told}
use Rattle.sk_count.specs.Moments.{Moment}
use Rattle.sk_report.specs.Texts.{armed_with, reply_of}
use Rattle.sk_count.specs.Texts.{places_after}
use Rattle.sk_cli.specs.Beside.{cleared}
use Rattle.sk_cli.specs.Command.{behaviour_of, armed_at_start}
use Rattle.sk_cli.specs.declared.command.Command.{Command}
use Rattle.sk_cli.specs.declared.command.Command.TheVariants.{Count, Hash, Image, Make, Quantile, Replay, Tally, Tenants, Window, Help, Version}

-- a watcher that is there is seen
pub live_seen : {X Y : Type 0} (f : X → Y) (xs : List (Option X)) → All IsSome xs → All IsSome (map (option_map f) xs)
live_seen {X} {Y} f xs live = All-map IsSome (option_map f) xs (λ k d below. there (get_or xs k d) (live k d below))
  where
    there : (o : Option X) → IsSome o → IsSome (option_map f o)
    there None some = some
    there (Some x) some = refl

-- one place more was emptied
pub cleared_more : (xs ys : List Place) (i : ℕ) → i < length xs → ys ≡ cleared (take i xs) ++ drop i xs → set ys i None ≡ cleared (take (i + 1) xs) ++ drop (i + 1) xs
cleared_more xs ys i below is =
    let empty : Place → Place = λ (p : Place). None in
    let inside : i < length ys = omega (arith, ap length is, length-append (map empty (take i xs)) (drop i xs), length-map (take i xs) empty, length-take i xs, length-drop i xs, below) in
    map_over_more empty xs ys i (get_or ys i None) below is (get_or_default ys i None (get_or ys i None) inside)

-- ---- boards without an alarm

-- a board without watchers stays so
pub told_cleared : (reply : Reply) (places : List Place) → map (told reply) (cleared places) ≡ cleared places
told_cleared reply [] = refl
told_cleared reply (place ∷ places) = ap (λ (l : List Place). None ∷ l) (told_cleared reply places)

armed_with_none : (k : ℕ) (places : List Place) → armed_with k [] places ≡ cleared places
unfolding armed_with
armed_with_none k [] = refl
armed_with_none k (place ∷ places) = ap (λ (l : List Place). None ∷ l) (armed_with_none k places)

still_cleared : (k : ℕ) (places : List Place) (moments : List Moment) → places_after k (cleared places) moments ≡ cleared places
unfolding places_after
still_cleared k places [] = refl
still_cleared k places (m ∷ moments) = ap (λ (l : List Place). places_after k l moments) (told_cleared (reply_of k m.seen) places) ∙ still_cleared k places moments

-- without marks all watchers are gone, whatever was told
pub none_left : (k : ℕ) (marks : List ℕ) (places places' : List Place) (moments : List Moment) → places' ≡ places_after k (armed_with k marks places) moments → marks ≡ [] → places' ≡ cleared places
none_left k marks places places' moments is none =
    is ∙ ap (λ (l : List Place). places_after k l moments) (ap (λ (m : List ℕ). armed_with k m places) none ∙ armed_with_none k places) ∙ still_cleared k places moments

pub none_armed : (k : ℕ) (marks : List ℕ) (places places' : List Place) → places' ≡ armed_with k marks places → marks ≡ [] → places' ≡ cleared places
none_armed k marks places places' is none = is ∙ ap (λ (m : List ℕ). armed_with k m places) none ∙ armed_with_none k places

-- so it is of a command without marks, before it reads
pub unarmed : (command : Command) (places places' : List Place) → places' ≡ armed_at_start command places → (behaviour_of command).arms ≡ [] → places' ≡ cleared places
unarmed (Count plan) places places' is none = none_armed plan.k plan.alarms places places' is none
unarmed (Hash plan) places places' is none = is
unarmed (Image plan) places places' is none = is
unarmed (Make plan) places places' is none = is
unarmed (Quantile plan) places places' is none = is
unarmed Replay places places' is none = is
unarmed (Tally plan) places places' is none = is
unarmed (Tenants plan) places places' is none = is
unarmed (Window plan) places places' is none = is
unarmed Help places places' is none = is
unarmed Version places places' is none = is

-- each place of a board has a watcher
pub live_at : (places : List Place) (i : ℕ) → All IsSome places → i < length places → IsLive i places
live_at places i live below = live i None below

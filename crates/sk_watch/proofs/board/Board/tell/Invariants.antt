use Rattle.std.proofs.Common.{◌≡◌, ◌++◌, List, Option, length, map, option_map, take, drop}
use Rattle.sk_watch.specs.Masks.{mask_of}
use Rattle.sk_watch.specs.Places.{answers_at, told}
use Rattle.sk_watch.proofs.board.Board.tell.Given as goal

abbrev pub invariant-tell : goal.invariant-tell
invariant-tell g l =
    let seen = λ (boxes : List (Option _)). map (option_map (λ b. (goal.Watcher-dyn g (b.vtable, b.value)).watching b.value)) boxes in
    (length l.self.boxes.items ≡ length l.fn.self.boxes.items) ×
    (seen l.self.boxes.items ≡ map (told l.reply) (take l.place (seen l.fn.self.boxes.items)) ++ drop l.place (seen l.fn.self.boxes.items)) ×
    (l.gone ≡ mask_of (map (answers_at l.reply) (take l.place (seen l.fn.self.boxes.items))))

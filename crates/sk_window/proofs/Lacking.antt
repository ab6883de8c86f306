-- What a reader lacks of what updaters kept.
use Rattle.std.proofs.Common.{ℕ, ◌-◌, ◌*◌, ◌≤◌, List, [], ◌++◌, length, take, get_or, All, sym, subst, arith, append-nil, length-append}
use Rattle.std.proofs.lemmas.List.{take-append-le}
use Rattle.sk_model.specs.Entries.{entries_by}
use Rattle.sk_model.specs.Missing.{Begins, LacksAtMost}
use Rattle.sk_model.proofs.Missing.{begins_trans, begins_take}
use Rattle.sk_machine.proofs.Coarse.{entries_by_begins}
use Rattle.sk_hub.specs.Updaters.{UpdaterState, handed_of}
use Rattle.sk_snap.specs.History.{entries_in}
use Rattle.sk_snap.specs.Versions.{Learnt}
use Rattle.sk_learn.specs.Learning.{LearnsFirst, ReaderGoesOn, Knows}
use Rattle.sk_window.specs.Replies.{LacksTwoBuffers}

-- a list that has all but the last hand lacks at most two buffers
lacks_two : (handed fill ys : List ℕ) (last size : ℕ) → Begins (take (length handed - last) handed) ys → last ≤ size → length fill ≤ size → LacksAtMost (handed ++ fill) ys (2 * size)
lacks_two handed fill ys last size begins few filled =
    let most = length (handed ++ fill) - 2 * size in
    let inside : most ≤ length handed = omega (arith, length-append handed fill) in
    let shorter : most ≤ length handed - last = omega (arith, length-append handed fill) in
    let prefix : Begins (take most handed) (take (length handed - last) handed) = subst (λ l. Begins (take most handed) (take (length handed - last) l)) (append-nil handed) (begins_take most (length handed - last) handed [] shorter) in
    subst (λ l. Begins l ys) (sym (take-append-le most handed fill inside)) (begins_trans _ _ _ prefix begins)

lacks_of : (s t : Learnt) (u : UpdaterState) → ReaderGoesOn s t → Knows s u → LacksTwoBuffers t u
lacks_of s t u goes knows holds = lacks_two (handed_of u) u.fill (entries_by u.number (entries_in t.known)) u.last u.size
    (begins_trans _ _ _ (knows.told holds) (entries_by_begins u.number (entries_in s.known) (entries_in t.known) goes.grows)) knows.last knows.fill

pub all_lack_two : (r s t : Learnt) (us : List UpdaterState) → LearnsFirst r us (length us) s → ReaderGoesOn s t → All (LacksTwoBuffers t) us
all_lack_two r s t us learns goes = λ i d within. lacks_of s t (get_or us i d) goes (learns.knows i d within)

use Rattle.std.proofs.Common.{◌≡◌, false, refl, sym}
use Rattle.sk_io.specs.Memory.{next_fails}
use Rattle.sk_io.proofs.Stored.{file_found}
use Rattle.sk_io.proofs.mem_shelf.MemShelfShelf.open.Goals as goal

pub returns-in-Some-clause-missing : goal.returns-in-Some-clause-missing
returns-in-Some-clause-missing c =
    let named = file_found c.self.inside.files.items _ c.args.name.now _ _ c.deref.ensures.value c.number_of.ensures c.in-Some.is in
    rw (← c.self.view_is, named) (λ none. sym none)

pub returns-in-Some-clause-fails : goal.returns-in-Some-clause-fails
returns-in-Some-clause-fails c =
    let listed : next_fails c.self.inside.opens ≡ false = cc in
    let named = file_found c.self.inside.files.items _ c.args.name.now _ _ c.deref.ensures.value c.number_of.ensures c.in-Some.is in
    rw (← c.self.view_is, listed, named) refl

pub returns-in-Some-clause-shelf : goal.returns-in-Some-clause-shelf
returns-in-Some-clause-shelf c =
    let listed : next_fails c.self.inside.opens ≡ false = cc in
    let named = file_found c.self.inside.files.items _ c.args.name.now _ _ c.deref.ensures.value c.number_of.ensures c.in-Some.is in
    rw (← c.self.view_is, listed, named, c.call.ensures.calls) refl

pub returns-in-None-clause-fails : goal.returns-in-None-clause-fails
returns-in-None-clause-fails c =
    let listed : next_fails c.self.inside.opens ≡ false = cc in
    let named = file_found c.self.inside.files.items _ c.args.name.now _ _ c.deref.ensures.value c.number_of.ensures c.in-None.is in
    rw (← c.self.view_is, listed, named) refl

pub returns-in-None-clause-shelf : goal.returns-in-None-clause-shelf
returns-in-None-clause-shelf c =
    let listed : next_fails c.self.inside.opens ≡ false = cc in
    let named = file_found c.self.inside.files.items _ c.args.name.now _ _ c.deref.ensures.value c.number_of.ensures c.in-None.is in
    rw (← c.self.view_is, listed, named, c.fail-in-None.ensures.calls, c.call.ensures.calls) refl

pub returns-in-Some-clause-content : goal.returns-in-Some-clause-content
returns-in-Some-clause-content c =
    let named = file_found c.self.inside.files.items _ c.args.name.now _ _ c.deref.ensures.value c.number_of.ensures c.in-Some.is in
    rw (← c.self.view_is, named) refl

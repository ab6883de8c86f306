-- Facts of the values in results.
use Rattle.std.proofs.Common.{◌≡◌, true, false, Result, Ok, Err, OnOk, OnErr, IfOk, IfErr, is_ok, IsErrAnd, subst, sym}

pub on_ok_then : {S T E F : Type 0} (r : Result S E) (t : Result T F) (P Q : Type 0) → is_ok t ≡ is_ok r → (P → Q) → OnOk r P → OnOk t Q
on_ok_then (Ok x) (Ok y) P Q same so p = so p
on_ok_then (Ok x) (Err f) P Q same so p = tt
on_ok_then (Err e) (Ok y) P Q same so p = let no : true ≡ false = same in absurd (cc)
on_ok_then (Err e) (Err f) P Q same so p = tt

-- an error that was exchanged for this one
pub if_err_then : {S T E F : Type 0} (r : Result S E) (t : Result T F) (f : F) (P : Type 0) (Q : F → Type 0) → is_ok t ≡ is_ok r → IfErr t (λ g. g ≡ f) → (P → Q f) → OnErr r P → IfErr t Q
if_err_then (Ok x) (Ok y) f P Q same is so p = tt
if_err_then (Ok x) (Err g) f P Q same is so p = let no : false ≡ true = same in absurd (cc)
if_err_then (Err e) (Ok y) f P Q same is so p = tt
if_err_then (Err e) (Err g) f P Q same is so p = subst Q (sym is) (so p)

pub if_ok_all : {T E : Type 0} (r : Result T E) (A B C D F : T → Type 0) → IfOk r A → IfOk r B → IfOk r C → IfOk r D → ((x : T) → A x → B x → C x → D x → F x) → IfOk r F
if_ok_all (Ok x) A B C D F a b c d so = so x a b c d
if_ok_all (Err e) A B C D F a b c d so = tt

pub if_err_all : {T E : Type 0} (r : Result T E) (A B : E → Type 0) → IfErr r A → ((e : E) → A e → B e) → IfErr r B
if_err_all (Ok x) A B a so = tt
if_err_all (Err e) A B a so = so e a

pub if_err_is : {T E : Type 0} (r : Result T E) (f : E) (Q : E → Type 0) → IsErrAnd r (λ e. e ≡ f) → Q f → IfErr r Q
if_err_is (Ok x) f Q is q = tt
if_err_is (Err e) f Q is q = subst Q (sym is) q

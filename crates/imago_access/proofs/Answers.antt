-- Lemmas on results: success, errors, and errors other than resource errors.
use Rattle.std.proofs.Common.{◌≡◌, ◌∙◌, ap, refl, sym, subst}
use Rattle.std.proofs.lemmas.Result.{err_from_is_err_and}
use Rattle.std.specs.Prelude.{Result, Ok, Err, IsErrAnd, IsOk, IfOk, OnOk, IfErr}
use Rattle.imago_storage.specs.declared.fault.Fault.{Fault}
use Rattle.imago_access.specs.Files.{IsNotResourceError, HadNoResourceError}

-- The fault that `?` returns.
pub handed_on : {T : Type 0} (result : Result T Fault) (fault : Fault) → IsErrAnd result (λ e. e ≡ fault) → result ≡ Err fault
handed_on result fault is_err = let p = err_from_is_err_and result is_err in p.1 ∙ ap Err p.2

pub ok_holds : {T : Type 0} (r : Result T Fault) (P : Type 0) → IsOk r → OnOk r P → P
ok_holds (Ok v) P is h = h
ok_holds (Err e) P is h = absurd (cc is)

-- A fact follows from the value of a success, from a fact for any success, or from one for an error other than a resource error.
pub whole_holds : {T : Type 0} (r : Result T Fault) (Q : T → Type 0) (P : Type 0) → HadNoResourceError r → ((v : T) → r ≡ Ok v → Q v → P) → IfOk r Q → IfErr r (λ e. IsNotResourceError e → P) → P
whole_holds (Ok v) Q P is from h refused = from v refl h
whole_holds (Err e) Q P is from h refused = refused is

pub ok_whole : {T : Type 0} (r : Result T Fault) → IsOk r → HadNoResourceError r
ok_whole (Ok v) is = tt
ok_whole (Err e) is = absurd (cc is)

pub both_on_err : {T E : Type 0} (r : Result T E) (P Q : E → Type 0) → IfErr r P → IfErr r Q → IfErr r (λ e. P e × Q e)
both_on_err (Ok v) P Q p q = tt
both_on_err (Err e) P Q p q = (p, q)

pub both_on_ok : {T : Type 0} (r : Result T Fault) (P Q : Type 0) → OnOk r P → OnOk r Q → OnOk r (P × Q)
both_on_ok (Ok v) P Q p q = (p, q)
both_on_ok (Err e) P Q p q = tt

pub if_ok_with : {T E : Type 0} (r : Result T E) (P Q : T → Type 0) → ((v : T) → r ≡ Ok v → P v → Q v) → IfOk r P → IfOk r Q
if_ok_with (Ok v) P Q from h = from v refl h
if_ok_with (Err e) P Q from h = tt

pub if_err_with : {T E : Type 0} (r : Result T E) (P Q : E → Type 0) → ((e : E) → r ≡ Err e → P e → Q e) → IfErr r P → IfErr r Q
if_err_with (Ok v) P Q from h = tt
if_err_with (Err e) P Q from h = from e refl h

pub both_if_ok : {T E : Type 0} (r : Result T E) (P Q : T → Type 0) → IfOk r P → IfOk r Q → IfOk r (λ v. P v × Q v)
both_if_ok (Ok v) P Q p q = (p, q)
both_if_ok (Err e) P Q p q = tt

pub whole_of_ok : {T : Type 0} (r : Result T Fault) (v : T) → r ≡ Ok v → HadNoResourceError r
whole_of_ok r v is = subst (λ (s : Result _ Fault). HadNoResourceError s) (sym is) tt

pub whole_of_mild : {T : Type 0} (r : Result T Fault) (e : Fault) → r ≡ Err e → IsNotResourceError e → HadNoResourceError r
whole_of_mild r e is not_resource_error = subst (λ (s : Result _ Fault). HadNoResourceError s) (sym is) not_resource_error

pub if_ok_under : {T E : Type 0} (r : Result T E) (P : Type 0) (Q : T → Type 0) → (P → IfOk r Q) → IfOk r (λ v. P → Q v)
if_ok_under (Ok v) P Q h = h
if_ok_under (Err e) P Q h = tt

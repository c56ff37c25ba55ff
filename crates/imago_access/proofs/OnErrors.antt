-- Lemmas on the result that `?` returns: it has no value, and a fact of its fault is a fact of it.
use Rattle.std.proofs.Common.{◌≡◌, subst, sym}
use Rattle.std.specs.Prelude.{Result, Ok, Err, IsErrAnd, IfOk, OnOk, IfErr}

pub none_on_err : {T E : Type 0} (r : Result T E) (e : E) (P : T → Type 0) → IsErrAnd r (λ x. x ≡ e) → IfOk r P
none_on_err (Ok v) e P is_err = absurd is_err
none_on_err (Err x) e P is_err = tt

pub nothing_on_err : {T E : Type 0} (r : Result T E) (e : E) (P : Type 0) → IsErrAnd r (λ x. x ≡ e) → OnOk r P
nothing_on_err (Ok v) e P is_err = absurd is_err
nothing_on_err (Err x) e P is_err = tt

pub told_on_err : {T E : Type 0} (r : Result T E) (e : E) (P : E → Type 0) → IsErrAnd r (λ x. x ≡ e) → P e → IfErr r P
told_on_err (Ok v) e P is_err holds = absurd is_err
told_on_err (Err x) e P is_err holds = subst P (sym is_err) holds

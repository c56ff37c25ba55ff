-- The faults that `?` passes on.
use Rattle.std.proofs.Common.{◌≡◌, ◌∙◌, ap}
use Rattle.std.specs.Prelude.{Result, Err, IsErrAnd}
use Rattle.std.proofs.lemmas.Result.{err_from_is_err_and}

pub handed-on : {T E : Type 0} (result : Result T E) (error : E) → IsErrAnd result (λ e. e ≡ error) → result ≡ Err error
handed-on result error is_err = let p = err_from_is_err_and result is_err in p.1 ∙ ap Err p.2

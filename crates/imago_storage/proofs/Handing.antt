-- Clauses on an error that `?` returns, and a log's replay over a copy of the bytes.
use Rattle.std.proofs.Common.{◌≡◌, ℕ, ◌∙◌, List, take, ap, subst, sym}
use Rattle.std.specs.Prelude.{Result, Ok, Err, IfOk, IfErr, IsErrAnd, IsOkUnless}
use Rattle.imago_storage.specs.Log.{NotLogged, replay}
use Rattle.imago_storage.specs.declared.fault.Fault.{Fault}
use Rattle.imago_storage.specs.declared.fault.Fault.TheVariants.{Memory}
use Rattle.imago_storage.specs.declared.log.Request.{Request}

-- After an error, a clause on success holds trivially.
pub not-ok : {T : Type 0} (r : Result T Fault) (Q : Fault → Type 0) (P : T → Type 0) → IsErrAnd r Q → IfOk r P
not-ok (Ok x) Q P is_err = absurd is_err
not-ok (Err e) Q P is_err = tt

pub err-memory : {T : Type 0} (r : Result T Fault) → IsErrAnd r (λ e. e ≡ Memory) → IsOkUnless r Memory
err-memory (Ok x) is_err = absurd is_err
err-memory (Err e) is_err = is_err

-- The error is the fault of another call.
pub err-handed : {T : Type 0} (r : Result T Fault) (e fault : Fault) → IsErrAnd r (λ w. w ≡ e) → e ≡ fault → IsOkUnless r fault
err-handed (Ok x) e fault is_err is = absurd is_err
err-handed (Err w) e fault is_err is = is_err ∙ is

-- Memory ran out, so no log was made.
pub err-logged : {T : Type 0} (r : Result T Fault) → IsErrAnd r (λ e. e ≡ Memory) → IfErr r NotLogged
err-logged (Ok x) is_err = absurd is_err
err-logged (Err e) is_err = subst NotLogged (sym is_err) tt

pub replayed-copy : (file copy base : List ℕ) (k : ℕ) (rs requests : List Request) → file ≡ replay copy (take k rs) → copy ≡ base → rs ≡ requests → file ≡ replay base (take k requests)
replayed-copy file copy base k rs requests is same same' = is ∙ ap (λ (b : List ℕ). replay b (take k rs)) same ∙ ap (λ (l : List Request). replay base (take k l)) same'

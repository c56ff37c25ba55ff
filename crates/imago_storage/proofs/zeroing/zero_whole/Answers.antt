-- One request has the effect of writing the bytes.
use Rattle.std.proofs.Common.{replicate, ℕ, subst, sym}
use Rattle.std.specs.Prelude.{IfErr}
use Rattle.std.proofs.lemmas.Result.{on_ok_weaker, IfErr-weaker}
use Rattle.imago_storage.specs.Calls.{NotWritten}
use Rattle.imago_storage.specs.Through.{PaddedWriteFailed}
use Rattle.imago_storage.specs.Zeroings.{UnlessLeft}
use Rattle.imago_storage.specs.declared.zeroing.Zeroing.TheVariants.{Allocated}
use Rattle.imago_storage.proofs.Composing.{otherwise-refused}
use Rattle.imago_storage.proofs.ZeroSteps.{zeroes-through, zeroes-not, left-longer}
use Rattle.imago_storage.proofs.zeroing.zero_whole.Goals as goal

pub returns-in-Allocated-clause-ok : goal.returns-in-Allocated-clause-ok
returns-in-Allocated-clause-ok g c =
    on_ok_weaker c.pure_write_allocated_zeroes.result
    (λ written. zeroes-through c.args.unit (g.S.Storage.state c.args.storage.now) (g.S.Storage.state c.pure_write_allocated_zeroes.new.self) c.args.offset c.args.n c.requires.unit c.requires.alignment.positive c.requires.nonempty c.requires.whole written)
    c.pure_write_allocated_zeroes.ensures.ok

pub returns-in-Allocated-clause-err : goal.returns-in-Allocated-clause-err
returns-in-Allocated-clause-err g c =
    subst (λ z. IfErr c.pure_write_allocated_zeroes.result (UnlessLeft z (g.S.Storage.state c.args.storage.now) (g.S.Storage.state c.pure_write_allocated_zeroes.new.self) (PaddedWriteFailed c.args.unit (g.S.Storage.state c.args.storage.now) (g.S.Storage.state c.pure_write_allocated_zeroes.new.self) c.args.offset (replicate {A = ℕ} c.args.n 0)))) (sym c.in-Allocated.is)
    (IfErr-weaker c.pure_write_allocated_zeroes.result _ _
    (left-longer Allocated (g.S.Storage.state c.args.storage.now) (g.S.Storage.state c.pure_write_allocated_zeroes.new.self) _ _ (zeroes-not c.args.unit (g.S.Storage.state c.args.storage.now) (g.S.Storage.state c.pure_write_allocated_zeroes.new.self) c.args.offset c.args.n c.requires.unit c.requires.alignment.positive c.requires.nonempty c.requires.whole))
    c.pure_write_allocated_zeroes.ensures.err)

pub returns-in-Ok-clause-ok : goal.returns-in-Ok-clause-ok
returns-in-Ok-clause-ok g c = zeroes-through c.args.unit (g.S.Storage.state c.args.storage.now) (g.S.Storage.state c.pure_write_zeroes.new.self) c.args.offset c.args.n c.requires.unit c.requires.alignment.positive c.requires.nonempty c.requires.whole c.in-Ok.ensures.ok

pub returns-in_default-clause-err : goal.returns-in_default-clause-err
returns-in_default-clause-err g c =
    subst (λ z. UnlessLeft z (g.S.Storage.state c.args.storage.now) (g.S.Storage.state c.pure_write_zeroes.new.self) (PaddedWriteFailed c.args.unit (g.S.Storage.state c.args.storage.now) (g.S.Storage.state c.pure_write_zeroes.new.self) c.args.offset (replicate {A = ℕ} c.args.n 0)) c.in-Err.fault) (sym c.in-Any.is)
    (zeroes-not c.args.unit (g.S.Storage.state c.args.storage.now) (g.S.Storage.state c.pure_write_zeroes.new.self) c.args.offset c.args.n c.requires.unit c.requires.alignment.positive c.requires.nonempty c.requires.whole c.in-Err.fault
    (otherwise-refused (g.S.Storage.state c.args.storage.now) (g.S.Storage.state c.pure_write_zeroes.new.self) (NotWritten (g.S.Storage.state c.args.storage.now) (g.S.Storage.state c.pure_write_zeroes.new.self) c.args.offset (replicate {A = ℕ} c.args.n 0)) c.in-Err.fault c.in_default.not-Unsupported c.in-Err.ensures.err))

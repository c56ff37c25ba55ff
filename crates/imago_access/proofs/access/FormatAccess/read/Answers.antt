use Rattle.std.proofs.Common.{rules, length}
use Rattle.std.specs.Prelude.{⊤}
use Rattle.imago_access.specs.Layers.{chain}
use Rattle.imago_access.specs.Files.{HadNoResourceError}
use Rattle.imago_access.proofs.Looking.{all_looked_same}
use Rattle.imago_access.proofs.Reading.{read_ok}
use Rattle.imago_access.proofs.Marking.{unusable_by_none}
use Rattle.imago_access.specs.Going.{MarksSomeFailed}
use Rattle.imago_storage.proofs.Parts.{passed}
use Rattle.imago_access.proofs.access.FormatAccess.read.Goals as goal

pub returns-in_err-ready-clause-lookup_call : goal.returns-in_err-ready-clause-lookup_call
returns-in_err-ready-clause-lookup_call g c = let d = g.D.DriverModel in all_looked_same d (HadNoResourceError c.from_residual.result) (chain c.args.self.now)

pub returns-then-is_empty-clause-lookup_call : goal.returns-then-is_empty-clause-lookup_call
returns-then-is_empty-clause-lookup_call g c = let d = g.D.DriverModel in all_looked_same d ⊤ (chain c.args.self.now)

pub returns-then-is_none-clause-lookup_call : goal.returns-then-is_none-clause-lookup_call
returns-then-is_none-clause-lookup_call g c = let d = g.D.DriverModel in all_looked_same d ⊤ (chain c.args.self.now)

pub returns-clause-ok : goal.returns-clause-ok
returns-clause-ok g c = let d = g.D.DriverModel in read_ok d c.args.self.now c.read_all.new.self c.args.offset (length c.args.buf.now) c.read_all.new.buf c.read_all.result (search (rules)) c.read_all.ensures.shown c.read_all.ensures.lookup_call

pub returns-in_err-ready-clause-marks_failed : goal.returns-in_err-ready-clause-marks_failed
returns-in_err-ready-clause-marks_failed g c = let d = g.D.DriverModel in let ds = chain c.args.self.now in let fault = c.in_err-ready.field-0.0 in
    passed c.from_residual.result (MarksSomeFailed d ds ds) fault c.from_residual.ensures.1 (λ is. absurd (unusable_by_none (d.layer c.self.inside.driver) fault c.in_err-ready.ensures.err is))

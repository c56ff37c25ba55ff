use Rattle.std.proofs.Common.{ℕ, length, subst}
use Rattle.imago_access.proofs.Answers.{handed_on}
use Rattle.qimg_calls.specs.Flattening.{Copies, PieceRefused, PieceCrashImages}
use Rattle.qimg_calls.proofs.Copying.{copies_unread, copies_written, may_copy, piece_part, piece_same, piece_unwritten, read_shown}
use Rattle.qimg_calls.proofs.flattening.copy_piece.Goals as goal

pub returns-clause-copies : goal.returns-clause-copies
returns-clause-copies g c =
    let e = c.write.ensures in
    subst (λ (n : ℕ). Copies g.S.DriverModel g.T.DriverModel c.args.offset n c.write.result (c.args.source.now, c.args.target.now) (c.read.new.self, c.write.new.self)) c.read.auto.buf
    (copies_written g.S.DriverModel g.T.DriverModel c.write.result (c.args.source.now, c.args.target.now) (c.read.new.self, c.write.new.self) c.args.offset c.read.new.buf c.in_ok-read.ensures.lookup_call
    (λ see. read_shown g.S.DriverModel c.args.offset (length c.args.buf.now) c.read.new.buf c.args.source.now c.read.new.self c.requires.inside (c.in_ok-read.ensures.ok see)) e.range_change e.keeps_layer_state e.room e.ok e.failed e.marks_failed)

pub returns-clause-cause : goal.returns-clause-cause
returns-clause-cause g c =
    subst (λ (n : ℕ). PieceRefused g.S.DriverModel g.T.DriverModel c.args.offset n c.write.result (c.args.source.now, c.args.target.now) (c.read.new.self, c.write.new.self)) c.read.auto.buf
    (piece_unwritten g.S.DriverModel g.T.DriverModel c.write.result (c.args.source.now, c.args.target.now) (c.read.new.self, c.write.new.self) c.args.offset c.read.new.buf
    (λ see. read_shown g.S.DriverModel c.args.offset (length c.args.buf.now) c.read.new.buf c.args.source.now c.read.new.self c.requires.inside (c.in_ok-read.ensures.ok see)) c.write.ensures.cause)

pub returns-in_err-read-clause-copies : goal.returns-in_err-read-clause-copies
returns-in_err-read-clause-copies g c = rw (handed_on _ _ c.from_residual.ensures.1) (
    copies_unread g.S.DriverModel g.T.DriverModel c.in_err-read.field-0.0 (c.args.source.now, c.args.target.now) c.read.new.self c.args.offset (length c.args.buf.now) c.in_err-read.ensures.lookup_call c.in_err-read.ensures.failed c.in_err-read.ensures.marks_failed)

pub returns-clause-usable : goal.returns-clause-usable
returns-clause-usable g c =
    may_copy g.S.DriverModel g.T.DriverModel c.write.result (c.args.source.now, c.args.target.now) c.args.offset (length c.args.buf.now) (λ f is. cc (c.in_ok-read.ensures.early_outcome f is)) (rw (c.read.auto.buf) at c.write.ensures.early_outcome)

pub returns-clause-part : goal.returns-clause-part
returns-clause-part g c =
    subst (λ (n : ℕ). PieceCrashImages g.S.DriverModel g.T.DriverModel c.args.offset n c.write.result (c.args.source.now, c.args.target.now) c.write.new.self) c.read.auto.buf
    (piece_part g.S.DriverModel g.T.DriverModel c.write.result (c.args.source.now, c.args.target.now) (c.read.new.self, c.write.new.self) c.args.offset c.read.new.buf
    (λ see. read_shown g.S.DriverModel c.args.offset (length c.args.buf.now) c.read.new.buf c.args.source.now c.read.new.self c.requires.inside (c.in_ok-read.ensures.ok see)) c.write.ensures.err)

pub returns-in_err-read-clause-part : goal.returns-in_err-read-clause-part
returns-in_err-read-clause-part g c = rw (handed_on _ _ c.from_residual.ensures.1) (piece_same g.S.DriverModel g.T.DriverModel c.in_err-read.field-0.0 (c.args.source.now, c.args.target.now) c.args.offset (length c.args.buf.now))

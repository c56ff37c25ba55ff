use Rattle.std.proofs.Common.{subst, sym}
use Rattle.imago_storage.specs.Calls.{Reads}
use Rattle.imago_storage.specs.Log.{apply}
use Rattle.imago_storage.specs.declared.log.Request.{Request}
use Rattle.paged_storage.proofs.Windows.{window_resized, window_zeroes}
use Rattle.paged_storage.proofs.pieces.apply_part.Goals as goal

pub returns-in-Zeroes : goal.returns-in-Zeroes
returns-in-Zeroes c = λ file reads.
    subst (λ (r : Request). Reads (apply r file) c.args.offset c.zero_over.new.buf) (sym c.in-Zeroes.is)
    (window_zeroes file c.args.offset c.args.buf.now c.zero_over.new.buf c.zero_over.auto.buf reads _ _ c.zero_over.ensures.inside c.zero_over.ensures.before c.zero_over.ensures.after)

pub returns-in-Resize : goal.returns-in-Resize
returns-in-Resize c = λ file reads.
    subst (λ (r : Request). Reads (apply r file) c.args.offset c.cut.new.buf) (sym c.in-Resize.is)
    (window_resized file c.args.offset c.args.buf.now c.cut.new.buf c.cut.auto.buf reads _ c.cut.ensures.below c.cut.ensures.past)

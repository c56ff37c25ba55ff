use Rattle.std.proofs.Common.{◌≡◌, ◌∷◌, ◌-◌, ◌≤◌, length, subst, sym, arith}
use Rattle.std.specs.Prelude.{OnOk, IfErr, IsOk, IsErrOf}
use Rattle.std.proofs.lemmas.Result.{IfErr-weaker}
use Rattle.imago_storage.specs.declared.fault.Fault.TheVariants.{RangeOverflow}
use Rattle.imago_access.specs.FileReads.{files_at, FileReadCause}
use Rattle.imago_access.specs.Files.{AreRead, OverflowsIn, HadNoResourceError, files, files_of}
use Rattle.imago_access.specs.Layers.{chain, layers}
use Rattle.imago_access.proofs.FileReads.{all_read_looked, all_read_same, at_below, at_top, cause_left, cause_right, read_same}
use Rattle.imago_access.proofs.access.FormatAccess.+read_file.Goals as goal

pub read_file-returns-clause-lookup_call : goal.read_file-returns-clause-lookup_call
read_file-returns-clause-lookup_call g t c =
    rw (← c.self.view_is) (all_read_looked g.D.DriverModel (HadNoResourceError c.read_file_part.result) (c.self.inside.driver ∷ layers c.self.inside.below) (c.read_file_part.new.driver ∷ layers c.read_file_part.new.below) c.read_file_part.ensures.read)

pub read_file_part-returns-then-layer-eq0-clause-read : goal.read_file_part-returns-then-layer-eq0-clause-read
read_file_part-returns-then-layer-eq0-clause-read g t c = (c.read_file.ensures.read, all_read_same g.D.DriverModel (HadNoResourceError c.read_file.result) (layers c.args.below.now))

pub read_file_part-returns-then-layer-eq0-clause-cause : goal.read_file_part-returns-then-layer-eq0-clause-cause
read_file_part-returns-then-layer-eq0-clause-cause g t c = let d = g.D.DriverModel in
    let top = c.args.driver.now in let new = c.read_file.new.self in let ds = layers c.args.below.now in
    let asked = files_at d (top ∷ ds) c.args.layer in
    let overflows = OverflowsIn asked c.args.file c.args.offset (length c.args.buf.now) in
    let same : files d top ≡ asked = sym (at_top d top ds c.args.layer (omega (arith, c.if-layer-eq0.true))) in
    IfErr-weaker c.read_file.result (FileReadCause overflows (files d top) (files d new)) (FileReadCause overflows (files_of d (top ∷ ds)) (files_of d (new ∷ ds)))
    (cause_left overflows (files d top) (files d new) (files_of d ds))
    (subst (λ ss. IfErr c.read_file.result (FileReadCause (OverflowsIn ss c.args.file c.args.offset (length c.args.buf.now)) (files d top) (files d new))) same c.read_file.ensures.cause)

pub read_file_part-returns-clause-bytes : goal.read_file_part-returns-clause-bytes
read_file_part-returns-clause-bytes g t c = let d = g.D.DriverModel in
    let ds = layers c.args.below.now in
    subst (λ ss. OnOk c.read_file_below.result (AreRead ss c.args.file c.args.offset (length c.args.buf.now) c.read_file_below.new.buf))
    (sym (at_below d c.args.driver.now ds c.args.layer (omega (arith, c.if-layer-eq0.false)))) c.read_file_below.ensures.bytes

pub read_file_part-returns-clause-read : goal.read_file_part-returns-clause-read
read_file_part-returns-clause-read g t c = (read_same g.D.DriverModel (HadNoResourceError c.read_file_below.result) c.args.driver.now, c.read_file_below.ensures.read)

pub read_file_part-returns-clause-overflow : goal.read_file_part-returns-clause-overflow
read_file_part-returns-clause-overflow g t c = let d = g.D.DriverModel in
    let ds = layers c.args.below.now in
    subst (λ ss. OverflowsIn ss c.args.file c.args.offset (length c.args.buf.now) → IsErrOf c.read_file_below.result RangeOverflow)
    (sym (at_below d c.args.driver.now ds c.args.layer (omega (arith, c.if-layer-eq0.false)))) c.read_file_below.ensures.overflow

pub read_file_part-returns-clause-beyond : goal.read_file_part-returns-clause-beyond
read_file_part-returns-clause-beyond g t c = let d = g.D.DriverModel in
    let ds = layers c.args.below.now in
    subst (λ ss. length ss ≤ c.args.file → IsOk c.read_file_below.result)
    (sym (at_below d c.args.driver.now ds c.args.layer (omega (arith, c.if-layer-eq0.false)))) c.read_file_below.ensures.beyond

pub read_file_part-returns-clause-cause : goal.read_file_part-returns-clause-cause
read_file_part-returns-clause-cause g t c = let d = g.D.DriverModel in
    let top = c.args.driver.now in let ds = layers c.args.below.now in let news = layers c.read_file_below.new.below in
    let overflows = OverflowsIn (files_at d ds (c.args.layer - 1)) c.args.file c.args.offset (length c.args.buf.now) in
    subst (λ ss. IfErr c.read_file_below.result (FileReadCause (OverflowsIn ss c.args.file c.args.offset (length c.args.buf.now)) (files_of d (top ∷ ds)) (files_of d (top ∷ news))))
    (sym (at_below d top ds c.args.layer (omega (arith, c.if-layer-eq0.false))))
    (IfErr-weaker c.read_file_below.result (FileReadCause overflows (files_of d ds) (files_of d news)) (FileReadCause overflows (files_of d (top ∷ ds)) (files_of d (top ∷ news)))
    (cause_right overflows (files d top) (files_of d ds) (files_of d news)) c.read_file_below.ensures.cause)

pub read_file_below-returns-in-Some-clause-bytes : goal.read_file_below-returns-in-Some-clause-bytes
read_file_below-returns-in-Some-clause-bytes g t c = let d = g.D.DriverModel in
    rw c.in-Some.is (subst (λ a. OnOk c.read_file.result (AreRead (files_at d (chain a) c.args.layer) c.args.file c.args.offset (length c.args.buf.now) c.read_file.new.buf))
    c.deref_mut.ensures.value c.read_file.ensures.bytes)

pub read_file-returns-clause-beyond : goal.read_file-returns-clause-beyond
read_file-returns-clause-beyond g t c =
    subst (λ a. length (files_at g.D.DriverModel (chain a) c.args.layer) ≤ c.args.file → IsOk c.read_file_part.result) c.self.view_is c.read_file_part.ensures.beyond

pub read_file-returns-clause-cause : goal.read_file-returns-clause-cause
read_file-returns-clause-cause g t c = let d = g.D.DriverModel in
    let news = files_of d (c.read_file_part.new.driver ∷ layers c.read_file_part.new.below) in
    subst (λ a. IfErr c.read_file_part.result (FileReadCause (OverflowsIn (files_at d (chain a) c.args.layer) c.args.file c.args.offset (length c.args.buf.now)) (files_of d (chain a)) news))
    c.self.view_is c.read_file_part.ensures.cause

pub read_file_below-returns-in-Some-clause-overflow : goal.read_file_below-returns-in-Some-clause-overflow
read_file_below-returns-in-Some-clause-overflow g t c = let d = g.D.DriverModel in
    rw c.in-Some.is (subst (λ a. OverflowsIn (files_at d (chain a) c.args.layer) c.args.file c.args.offset (length c.args.buf.now) → IsErrOf c.read_file.result RangeOverflow)
    c.deref_mut.ensures.value c.read_file.ensures.overflow)

pub read_file_below-returns-in-Some-clause-beyond : goal.read_file_below-returns-in-Some-clause-beyond
read_file_below-returns-in-Some-clause-beyond g t c = let d = g.D.DriverModel in
    rw c.in-Some.is (subst (λ a. length (files_at d (chain a) c.args.layer) ≤ c.args.file → IsOk c.read_file.result)
    c.deref_mut.ensures.value c.read_file.ensures.beyond)

pub read_file_below-returns-in-Some-clause-cause : goal.read_file_below-returns-in-Some-clause-cause
read_file_below-returns-in-Some-clause-cause g t c = let d = g.D.DriverModel in
    let news = files_of d (chain c.read_file.new.self) in
    rw c.in-Some.is (subst (λ a. IfErr c.read_file.result (FileReadCause (OverflowsIn (files_at d (chain a) c.args.layer) c.args.file c.args.offset (length c.args.buf.now)) (files_of d (chain a)) news))
    c.deref_mut.ensures.value c.read_file.ensures.cause)

use Rattle.std.proofs.Common.{◌≡◌, ◌∷◌, ◌∙◌, ◌+◌, ◌-◌, ℕ, refl, sym, get_or, length, arith, ◌<◌, set}
use Rattle.std.specs.Prelude.{map}
use Rattle.std.proofs.lemmas.Result.{IfErr-weaker}
use Rattle.imago_storage.specs.State.{unit_of}
use Rattle.imago_storage.specs.Through.{NotRead, Overflows}
use Rattle.imago_access.specs.FileReads.{FileReadCause}
use Rattle.imago_access.specs.Files.{OverflowsIn}
use Rattle.imago_access.proofs.FileReads.{cause_more, cause_of_first}
use Rattle.imago_formats.specs.VmdkFiles.{states}
use Rattle.imago_access.proofs.FilePairs.{kept_all_same, faultless_all_same}
use Rattle.imago_formats.proofs.StorageLemmas.{kept_first, read_first_whole, read_at_cause, read_at_kept, read_at_whole, byte_beyond, byte_within, passes_within, same_at, overflow_beyond, overflow_within, zero_at, on_ok_reads}
use Rattle.imago_formats.proofs.vmdk.storages.read_storage.Goals as goal

pub returns-then-storage-eq0-clause-unchanged_but_faults : goal.returns-then-storage-eq0-clause-unchanged_but_faults
returns-then-storage-eq0-clause-unchanged_but_faults g c =
    let state = g.S.Storage.state in
    kept_first (state c.args.image.now) (state c.read.new.self) (map state c.args.files.now) (c.read.ensures.unchanged_but_faults, c.read.ensures.counts_not_fallen.faults)

pub returns-then-storage-eq0-clause-whole : goal.returns-then-storage-eq0-clause-whole
returns-then-storage-eq0-clause-whole g c =
    let state = g.S.Storage.state in
    read_first_whole c.read.result (state c.args.image.now) (state c.read.new.self) (map state c.args.files.now) c.args.place (length c.args.buf.now)
    c.read.ensures.unchanged_but_faults c.read.ensures.faults c.read.ensures.err

pub returns-then-storage-eq0-clause-cause : goal.returns-then-storage-eq0-clause-cause
returns-then-storage-eq0-clause-cause g c =
    let state = g.S.Storage.state in
    let olds = states state c.args.image.now c.args.files.now in
    let image = state c.args.image.now in let new = state c.read.new.self in let fs = map state c.args.files.now in
    let n = length c.args.buf.now in
    rw c.if-storage-eq0.true (IfErr-weaker c.read.result (NotRead image new c.args.place n)
    (FileReadCause (Overflows (unit_of image.shape) c.args.place n) olds (new ∷ fs))
    (λ e. cause_of_first image new fs c.args.place n e c.read.ensures.unchanged_but_faults) c.read.ensures.err)

pub returns-then-storage-files-clause-unchanged_but_faults : goal.returns-then-storage-files-clause-unchanged_but_faults
returns-then-storage-files-clause-unchanged_but_faults g c = let state = g.S.Storage.state in kept_all_same (state c.args.image.now ∷ map state c.args.files.now)

pub returns-then-storage-files-clause-whole : goal.returns-then-storage-files-clause-whole
returns-then-storage-files-clause-whole g c = λ whole. let state = g.S.Storage.state in faultless_all_same (state c.args.image.now ∷ map state c.args.files.now)

pub returns-then-storage-files-clause-bytes : goal.returns-then-storage-files-clause-bytes
returns-then-storage-files-clause-bytes g c = λ i low.
    let state = g.S.Storage.state in
    let zeroes : get_or c.fill.new.self i 0 ≡ 0 = zero_at (length c.args.buf.now) c.fill.new.self i (c.fill.ensures.after (λ y e. e)) in
    zeroes ∙ sym (byte_beyond state (state c.args.image.now) c.args.files.now c.args.storage (c.args.place + i) c.if-storage-files.true)

pub returns-then-storage-files-clause-overflow : goal.returns-then-storage-files-clause-overflow
returns-then-storage-files-clause-overflow g c = λ passes.
    let state = g.S.Storage.state in
    absurd (overflow_beyond state (state c.args.image.now) c.args.files.now c.args.storage c.args.place _ c.if-storage-files.true passes)

some_storage : (n : ℕ) → (n ≡ 0 → ⊥) → 0 < n
some_storage n h = omega (arith, h)

pub returns-clause-bytes : goal.returns-clause-bytes
returns-clause-bytes g c =
    let state = g.S.Storage.state in
    let files = c.args.files.now in
    let some : 0 < c.args.storage = some_storage c.args.storage c.if-storage-eq0.false in
    let inside : c.args.storage - 1 < length files = omega (arith, some, c.if-storage-files.false) in
    on_ok_reads c.read-2.result _ _ c.read-2.ensures.ok (λ reads i low. reads i (omega (arith, low, c.read-2.auto.buf))
    ∙ sym (byte_within state (state c.args.image.now) files c.args.storage c.index-files-storage.result (c.args.place + i) some inside))

pub returns-clause-unchanged_but_faults : goal.returns-clause-unchanged_but_faults
returns-clause-unchanged_but_faults g c =
    let state = g.S.Storage.state in
    let some : 0 < c.args.storage = some_storage c.args.storage c.if-storage-eq0.false in
    let inside : c.args.storage - 1 < length c.args.files.now = omega (arith, some, c.if-storage-files.false) in
    read_at_kept state (state c.args.image.now) c.args.files.now (c.args.storage - 1) c.index-files-storage.result c.read-2.new.self inside
    (c.read-2.ensures.unchanged_but_faults, c.read-2.ensures.counts_not_fallen.faults)

pub returns-clause-whole : goal.returns-clause-whole
returns-clause-whole g c =
    let state = g.S.Storage.state in
    let some : 0 < c.args.storage = some_storage c.args.storage c.if-storage-eq0.false in
    let inside : c.args.storage - 1 < length c.args.files.now = omega (arith, some, c.if-storage-files.false) in
    read_at_whole state c.read-2.result (state c.args.image.now) c.args.files.now (c.args.storage - 1) c.index-files-storage.result c.read-2.new.self
    c.args.place (length c.args.buf.now) inside c.read-2.ensures.unchanged_but_faults c.read-2.ensures.faults c.read-2.ensures.err

pub returns-clause-cause : goal.returns-clause-cause
returns-clause-cause g c =
    let state = g.S.Storage.state in
    let some : 0 < c.args.storage = some_storage c.args.storage c.if-storage-eq0.false in
    let inside : c.args.storage - 1 < length c.args.files.now = omega (arith, some, c.if-storage-files.false) in
    let image = state c.args.image.now in let files = c.args.files.now in let file = c.index-files-storage.result in
    let n = length c.args.buf.now in
    let news = image ∷ map state (set files (c.args.storage - 1) c.read-2.new.self) in
    IfErr-weaker c.read-2.result (NotRead (state (get_or files (c.args.storage - 1) file)) (state c.read-2.new.self) c.args.place n)
    (FileReadCause (OverflowsIn (image ∷ map state files) c.args.storage c.args.place n) (image ∷ map state files) news)
    (λ e why. cause_more (Overflows (unit_of (state (get_or files (c.args.storage - 1) file)).shape) c.args.place n)
    (OverflowsIn (image ∷ map state files) c.args.storage c.args.place n) (image ∷ map state files) news e
    (passes_within state image files c.args.storage file c.args.place n some inside)
    (read_at_cause state image files (c.args.storage - 1) file c.read-2.new.self c.args.place n e inside c.read-2.ensures.unchanged_but_faults why)) c.read-2.ensures.err

pub returns-clause-empty : goal.returns-clause-empty
returns-clause-empty g c = λ none.
    let state = g.S.Storage.state in
    let some : 0 < c.args.storage = some_storage c.args.storage c.if-storage-eq0.false in
    let inside : c.args.storage - 1 < length c.args.files.now = omega (arith, some, c.if-storage-files.false) in
    let nothing = c.read-2.ensures.empty none in
    (nothing.0, refl, same_at state c.args.files.now (c.args.storage - 1) c.index-files-storage.result c.read-2.new.self inside nothing.1)

pub returns-clause-overflow : goal.returns-clause-overflow
returns-clause-overflow g c = λ passes.
    let state = g.S.Storage.state in
    let some : 0 < c.args.storage = some_storage c.args.storage c.if-storage-eq0.false in
    let inside : c.args.storage - 1 < length c.args.files.now = omega (arith, some, c.if-storage-files.false) in
    c.read-2.ensures.overflow (overflow_within state (state c.args.image.now) c.args.files.now c.args.storage c.index-files-storage.result
    c.args.place (length c.args.buf.now) some inside passes)

use Rattle.std.proofs.Common.{◌≡◌, ℕ, ◌-◌, arith, length}
use borrow.Rule.Slice.PartMut.{mid_len, mid_of}
use Rattle.qcow2_types.specs.Header.{cluster_size}
use Rattle.qcow2_image.proofs.Preparations.ContentCopies.{nothing-copied, part-copied, part-rest, part-row, zero-at, zero-part}
use Rattle.qcow2_image.proofs.qcow2.Qcow2.copy_shown.Goals as goal

pub returns-then-first-end-clause-copies : goal.returns-then-first-end-clause-copies
returns-then-first-end-clause-copies g c = nothing-copied g.S.Storage g.B.LayersBelowModel c.args.shown c.args.part c.args.self.now c.args.below.now _ c.if-first-end.true

pub read_shown-requires-clause-row : goal.read_shown-requires-clause-row
read_shown-requires-clause-row g c =
    let a : ℕ = c.args.part.0 - c.args.start in
    let k : ℕ = c.args.part.1 - c.args.start - (c.args.part.0 - c.args.start) in
    let long : length (mid_of a k c.args.content.now) ≡ k = mid_len a (c.args.part.1 - c.args.start) c.args.content.now c.requires.fits in
    let r = c.requires in
    part-row (cluster_size c.args.self.now.tables.file.header.fields) c.args.start c.args.part.0 (length (mid_of a k c.args.content.now)) r.begins r.low
    (omega (arith, long, r.low, r.order, c.if-first-end.false)) (omega (arith, long, r.low, r.order, r.fits, r.whole))

pub read_shown-requires-clause-nonempty : goal.read_shown-requires-clause-nonempty
read_shown-requires-clause-nonempty g c =
    let a : ℕ = c.args.part.0 - c.args.start in
    let k : ℕ = c.args.part.1 - c.args.start - (c.args.part.0 - c.args.start) in
    let long : length (mid_of a k c.args.content.now) ≡ k = mid_len a (c.args.part.1 - c.args.start) c.args.content.now c.requires.fits in
    omega (arith, long, c.requires.low, c.requires.order, c.if-first-end.false)

pub read_shown-requires-clause-zero : goal.read_shown-requires-clause-zero
read_shown-requires-clause-zero g c = λ i less.
    let a : ℕ = c.args.part.0 - c.args.start in
    let k : ℕ = c.args.part.1 - c.args.start - (c.args.part.0 - c.args.start) in
    let long : length (mid_of a k c.args.content.now) ≡ k = mid_len a (c.args.part.1 - c.args.start) c.args.content.now c.requires.fits in
    zero-part c.args.content.now a k i c.requires.zero (omega (arith, long, less))

pub returns-then-first-end-clause-rest : goal.returns-then-first-end-clause-rest
returns-then-first-end-clause-rest g c = λ i past. zero-at c.args.content.now c.requires.zero i

pub returns-clause-rest : goal.returns-clause-rest
returns-clause-rest g c = part-rest g.S.Storage g.B.LayersBelowModel c.args.shown c.args.start c.args.part c.args.content.now c.read_shown.new.buf
    (c.args.self.now, c.args.below.now) (c.read_shown.new.self, c.read_shown.new.below) c.requires.low c.requires.order c.requires.fits
    c.read_shown.auto.buf c.requires.zero

pub returns-clause-copies : goal.returns-clause-copies
returns-clause-copies g c = part-copied g.S.Storage g.B.LayersBelowModel c.args.shown c.args.start c.args.part c.args.content.now c.read_shown.new.buf
    (c.args.self.now, c.args.below.now) (c.read_shown.new.self, c.read_shown.new.below) c.requires.low c.requires.order c.requires.fits
    c.read_shown.result c.read_shown.auto.buf c.read_shown.ensures

-- Each piece is written after the one before it.
use Rattle.std.proofs.Common.{arith, ◌≡◌, ℕ, ◌+◌, ◌≤◌, length, take, replicate, ap, sym, ◌∙◌, subst}
use Rattle.imago_storage.specs.State.{IsUnitRange, unit_of}
use Rattle.imago_storage.specs.Through.{PaddedWrite, OneRequest, NoRequest}
use Rattle.imago_storage.proofs.ZeroSteps.{piece-units, piece-through, piece-not}
use Rattle.imago_storage.proofs.Rounding.{sum_of_whole}
use Rattle.imago_storage.proofs.Parts.{passed}
use Rattle.imago_storage.proofs.zeroing.write_pieces.Goals as goal

pub write_whole-requires-clause-whole : goal.write_whole-requires-clause-whole
write_whole-requires-clause-whole g c some =
    let unit : unit_of (g.S.Storage.state c.loop-done.storage).shape ≡ c.args.unit = ap unit_of c.loop-done.invariant.2.shape ∙ sym c.requires.unit in
    subst (λ u. IsUnitRange u (c.args.offset + c.loop-done.done) (length (take c.min-count.result c.args.zeroes.now))) (sym unit)
    (piece-units c.args.unit c.larger_alignment-piece.result c.args.offset c.args.n c.loop-done.done c.min-count.result c.args.zeroes.now c.requires.alignment.positive c.larger_alignment-piece.ensures.alignment.positive c.larger_alignment-piece.ensures.first c.requires.whole c.loop-done.invariant.1 c.loop-done.invariant.0
    c.min-count.ensures (omega (arith, c.min-count.ensures, c.larger_alignment-piece.ensures.value, c.requires.room))).1

pub returns-in_err-write_whole-clause-err : goal.returns-in_err-write_whole-clause-err
returns-in_err-write_whole-clause-err g c =
    let s = g.S.Storage.state in
    let unit : unit_of (s c.loop-done.storage).shape ≡ c.args.unit = ap unit_of c.loop-done.invariant.2.shape ∙ sym c.requires.unit in
    passed c.from_residual.result _ c.in_err-write_whole.field-0.0 c.from_residual.ensures.1
    (piece-not c.args.unit c.requires.alignment.positive (s c.args.storage.now) (s c.loop-done.storage) (s c.write_whole.new.storage) c.args.offset c.loop-done.done c.min-count.result c.args.zeroes.now c.requires.zeroes (omega (arith, c.min-count.ensures, c.larger_alignment-piece.ensures.value, c.requires.room)) c.loop-done.invariant.2
    c.args.n (omega (arith, c.min-count.ensures, c.loop-done-test.true)) c.in_err-write_whole.field-0.0
    (subst (λ u. NoRequest u (s c.loop-done.storage) (s c.write_whole.new.storage) (c.args.offset + c.loop-done.done) (take c.min-count.result c.args.zeroes.now) c.in_err-write_whole.field-0.0) unit c.in_err-write_whole.ensures.err).halted)

pub loop-done-preserved : goal.loop-done-preserved
loop-done-preserved g c =
    let s = g.S.Storage.state in
    let unit : unit_of (s c.loop-done.storage).shape ≡ c.args.unit = ap unit_of c.loop-done.invariant.2.shape ∙ sym c.requires.unit in
    let room : c.min-count.result ≤ length c.args.zeroes.now = omega (arith, c.min-count.ensures, c.larger_alignment-piece.ensures.value, c.requires.room) in
    let whole = piece-units c.args.unit c.larger_alignment-piece.result c.args.offset c.args.n c.loop-done.done c.min-count.result c.args.zeroes.now c.requires.alignment.positive c.larger_alignment-piece.ensures.alignment.positive c.larger_alignment-piece.ensures.first c.requires.whole c.loop-done.invariant.1 c.loop-done.invariant.0 c.min-count.ensures room in (
      omega (arith, c.min-count.ensures, c.loop-done-test.true),
      sum_of_whole c.args.unit c.loop-done.done c.min-count.result c.requires.alignment.positive c.loop-done.invariant.1 whole.0,
      piece-through c.args.unit c.requires.alignment.positive (s c.args.storage.now) (s c.loop-done.storage) (s c.write_whole.new.storage) c.args.offset c.loop-done.done c.min-count.result c.args.zeroes.now c.requires.zeroes room c.loop-done.invariant.2
          (subst (λ u. OneRequest u (s c.loop-done.storage) (s c.write_whole.new.storage) (c.args.offset + c.loop-done.done) (take c.min-count.result c.args.zeroes.now)) unit c.in_ok-write_whole.ensures.ok).through,
    )

pub returns-clause-ok : goal.returns-clause-ok
returns-clause-ok g c =
    let all : c.loop-done.done ≡ c.args.n = omega (arith, c.loop-done.invariant.0, c.loop-done-test.false) in
    subst (λ n. PaddedWrite c.args.unit (g.S.Storage.state c.args.storage.now) (g.S.Storage.state c.loop-done.storage) c.args.offset (replicate {A = ℕ} n 0)) all c.loop-done.invariant.2

use Rattle.std.proofs.Common.{◌+◌, ◌∙◌, arith, Ok, Err}
use Rattle.qcow2_alloc.proofs.Faults.{handed-on}
use Rattle.qcow2_image.proofs.CallStarts.{begins-same, begins-then}
use Rattle.qcow2_image.proofs.Resizes.Unmappings.{tail-both, tail-fewer, tail-none}
use Rattle.qcow2_image.proofs.qcow2.Qcow2.unmap_tail.Goals as goal

pub loop-next-init : goal.loop-next-init
loop-next-init g c = record {
  from = omega (arith, c.first.view_is);
  unmaps = tail-none g.S.Storage c.args.first _ c.args.self.now (omega (arith, c.first.view_is));
  begins = begins-same g.S.Storage {T = Unit} c.args.begun.now c.args.self.now (Ok tt) tt;
}

pub loop-next-preserved : goal.loop-next-preserved
loop-next-preserved g c =
    let l = c.loop-next in
    let new = c.unmap_part.new in record {
      from = omega (arith, l.invariant.from);
      unmaps = tail-both g.S.Storage c.args.first l.next (l.next + c.row_from-count.result) _
          c.args.self.now l.self new.self l.invariant.from (Ok tt) (omega (arith, c.count.view_is)) l.invariant.unmaps c.in_ok-unmap_part.ensures.unmaps;
      begins = begins-then g.S.Storage {T = Unit} {U = Unit} c.args.begun.now l.begun new.begun c.args.self.now l.self new.self (Ok tt) (Ok tt) tt
          l.invariant.begins c.in_ok-unmap_part.ensures.begins;
    }

pub returns-clause-unmaps : goal.returns-clause-unmaps
returns-clause-unmaps g c =
    let l = c.loop-next in
    tail-fewer g.S.Storage c.args.first c.args.last l.next c.args.self.now l.self (omega (arith, c.loop-next-test.false, c.last.view_is)) l.invariant.unmaps

pub returns-in_err-unmap_part-clause-unmaps : goal.returns-in_err-unmap_part-clause-unmaps
returns-in_err-unmap_part-clause-unmaps g c = rw (handed-on _ _ c.from_residual.ensures.1) (
    let l = c.loop-next in
    tail-both g.S.Storage c.args.first l.next (l.next + c.row_from-count.result) c.args.last c.args.self.now l.self c.unmap_part.new.self
    l.invariant.from (Err c.in_err-unmap_part.field-0.0) tt l.invariant.unmaps c.in_err-unmap_part.ensures.unmaps)

pub returns-in_err-unmap_part-clause-begins : goal.returns-in_err-unmap_part-clause-begins
returns-in_err-unmap_part-clause-begins g c = rw (handed-on _ _ c.from_residual.ensures.1) (
    let l = c.loop-next in
    begins-then g.S.Storage {T = Unit} {U = Unit} c.args.begun.now l.begun c.unmap_part.new.begun c.args.self.now l.self c.unmap_part.new.self
    (Ok tt) (Err c.in_err-unmap_part.field-0.0) tt l.invariant.begins c.in_err-unmap_part.ensures.begins)

pub unmap_part-requires-clause-free : goal.unmap_part-requires-clause-free
unmap_part-requires-clause-free g c = c.loop-next.invariant.unmaps.unmaps.unspent ∙ c.requires.free

pub returns-clause-begins : goal.returns-clause-begins
returns-clause-begins g c = c.loop-next.invariant.begins

use Rattle.std.proofs.Common.{ap, sym, subst}
use Rattle.qcow2_alloc.proofs.Faults.{handed-on}
use Rattle.qcow2_image.specs.Creating.{GrowsSmallest}
use Rattle.qcow2_image.specs.Holding.{mapping_id_held}
use Rattle.qcow2_image.specs.Unspent.{holding_in}
use Rattle.qcow2_image.proofs.Resizes.Creations.{free, grows-smallest, not-flushed, not-grown, not-opened}
use Rattle.qcow2_image.proofs.creating.grow_smallest.Goals as goal

pub returns-in_err-created-clause-err : goal.returns-in_err-created-clause-err
returns-in_err-created-clause-err g c = rw (handed-on _ _ c.from_residual.ensures.1)
    (not-opened g.S.Storage c.args.size c.args.preallocate (g.S.Storage.state c.args.image) g.S.Storage.state c.in_err-created.field-0.0 c.in_err-created.ensures.err)

pub lengthen-requires-clause-free : goal.lengthen-requires-clause-free
lengthen-requires-clause-free g c = c.in_ok-created.ensures.ok.free

pub returns-in_err-lengthen-clause-err : goal.returns-in_err-lengthen-clause-err
returns-in_err-lengthen-clause-err g c = rw (handed-on _ _ c.from_residual-in_err-lengthen.ensures.1)
    (not-grown g.row.S g.S.Storage g.S.Storage-dict g.S.Destruct-dict (g.S.Storage.state c.args.image) c.in_ok-created.created
    c.in_ok-created.ensures.ok c.in_ok-created.ensures.seen c.args.size c.args.preallocate c.lengthen.new.created c.in_err-lengthen.field-0.0
    c.in_err-lengthen.ensures.err)

pub returns-in_err-flush_freed-clause-err : goal.returns-in_err-flush_freed-clause-err
returns-in_err-flush_freed-clause-err g c = rw (handed-on _ _ c.from_residual-in_err-flush_freed.ensures.1)
    (not-flushed g.row.S g.S.Storage g.S.Storage-dict g.S.Destruct-dict (g.S.Storage.state c.args.image) c.in_ok-created.created
    c.in_ok-created.ensures.ok c.in_ok-created.ensures.seen c.args.size c.args.preallocate c.lengthen.new.created c.flush_freed.new.self
    c.in_ok-lengthen.ensures.ok c.in_err-flush_freed.field-0.0 c.in_err-flush_freed.ensures.cause)

pub into_image-requires : goal.into_image-requires
into_image-requires g c = record {
  free = ap (λ u. mapping_id_held (holding_in g.S.Storage u))
      (free g.row.S g.S.Storage g.S.Storage-dict g.S.Destruct-dict (g.S.Storage.state c.args.image) c.in_ok-created.created
      c.in_ok-created.ensures.ok c.in_ok-created.ensures.seen c.args.size c.args.preallocate c.lengthen.new.created c.flush_freed.new.self c.in_ok-lengthen.ensures.ok
      c.in_ok-flush_freed.ensures);
}

pub returns-clause-ok : goal.returns-clause-ok
returns-clause-ok g c = subst (λ (s : g.row.S.Denot). GrowsSmallest c.args.size c.args.preallocate (g.S.Storage.state c.args.image) (g.S.Storage.state s))
    (sym c.into_image.ensures)
    (grows-smallest g.row.S g.S.Storage g.S.Storage-dict g.S.Destruct-dict (g.S.Storage.state c.args.image) c.in_ok-created.created
    c.in_ok-created.ensures.ok c.in_ok-created.ensures.seen c.args.size c.args.preallocate c.lengthen.new.created c.flush_freed.new.self c.in_ok-lengthen.ensures.ok
    c.in_ok-flush_freed.ensures)

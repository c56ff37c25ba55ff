use Rattle.std.proofs.Common.{refl, arith, Ok, Err}
use Rattle.qcow2_alloc.specs.Allocators.{first_free_of, table_of}
use Rattle.qcow2_alloc.specs.State.{image_state, with_first_free}
use Rattle.qcow2_alloc.proofs.Faults.{handed-on}
use Rattle.qcow2_clusters.proofs.LoweredPairs.{part-cause, part-more, part-none}
use Rattle.qcow2_clusters.proofs.lowering.lower_each.Goals as goal

pub loop-index-init : goal.loop-index-init
loop-index-init g c = λ pending. part-none g.S.Storage.state c.args.pairs.now (with_first_free (image_state (table_of c.args.allocator.now) c.args.caches.now c.args.file.now pending) (first_free_of c.args.allocator.now))

pub loop-index-preserved : goal.loop-index-preserved
loop-index-preserved g c = λ pending.
    let l = c.loop-index in
    let new = c.lower.new in
    part-more g.S.Storage.state c.args.pairs.now l.index c.loop-index-test.true
    (with_first_free (image_state (table_of c.args.allocator.now) c.args.caches.now c.args.file.now pending) (first_free_of c.args.allocator.now))
    (with_first_free (image_state (table_of l.allocator) l.caches l.file pending) (first_free_of l.allocator)) c.requires (l.invariant pending) (Ok c.in_ok-_count._count)
    (with_first_free (image_state (table_of new.self) new.caches new.file pending) (first_free_of new.self)) (c.in_ok-_count.ensures.lowers pending) c.lower.ensures.table refl

pub returns : goal.returns
returns g c = record {
  lowers = λ pending.
      let l = c.loop-index in
      let does = l.invariant pending in
      record { part = l.index; whole = omega (arith, c.loop-index-test.false, l.auto.index-end); does = does; cause = (does.faults tt).0 };
}

pub returns-in_err-_count : goal.returns-in_err-_count
returns-in_err-_count g c = rw (handed-on _ _ c.from_residual.ensures.1) (record {
  lowers = λ pending.
      let l = c.loop-index in
      let new = c.lower.new in
      let s = with_first_free (image_state (table_of c.args.allocator.now) c.args.caches.now c.args.file.now pending) (first_free_of c.args.allocator.now) in
      let s1 = with_first_free (image_state (table_of l.allocator) l.caches l.file pending) (first_free_of l.allocator) in
      let s2 = with_first_free (image_state (table_of new.self) new.caches new.file pending) (first_free_of new.self) in
      let lowers = c.in_err-_count.ensures.lowers pending in
      record {
        part = l.index;
        whole = tt;
        does = part-more g.S.Storage.state c.args.pairs.now l.index c.loop-index-test.true s s1 c.requires (l.invariant pending) (Err c.in_err-_count.field-0.0) s2 lowers c.lower.ensures.table refl;
        cause = part-cause g.S.Storage.state c.args.pairs.now l.index c.loop-index-test.true s s1 c.requires (l.invariant pending) (Err c.in_err-_count.field-0.0) s2 lowers c.lower.ensures.table refl c.in_err-_count.field-0.0 lowers.cause;
      };
})

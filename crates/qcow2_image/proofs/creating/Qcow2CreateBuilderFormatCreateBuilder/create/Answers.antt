use Rattle.std.proofs.Common.{ap, sym, subst, ◌∙◌, None}
use Rattle.std.specs.Prelude.{IsTrue}
use Rattle.std.proofs.lemmas.Result.{IfErr-weaker, IfOk-weaker}
use Rattle.qcow2_alloc.proofs.Faults.{handed-on}
use Rattle.imago_access.specs.declared.format.PreallocateMode.{PreallocateMode}
use Rattle.qcow2_types.specs.Header.{Header}
use Rattle.qcow2_types.specs.HeaderBytes.{new_header}
use Rattle.qcow2_image.specs.Creating.{GrowsSmallest, HoldsSmallest, IsNewQcow2, WhyNotCreated, WhyNotGrown, options_of}
use Rattle.qcow2_image.proofs.Resizes.Creations.{allowed-by, cut-unmade, disk-unmade, first-header, grown-unmade, holds-smallest, is-made, put-unmade, unmade}
use Rattle.qcow2_image.proofs.creating.Qcow2CreateBuilderFormatCreateBuilder.create.Goals as goal

pub returns-in_err-cluster_bits-clause-err : goal.returns-in_err-cluster_bits-clause-err
returns-in_err-cluster_bits-clause-err g c =
    let b = c.args.self in
    let why = c.in_err-cluster_bits.ensures.err in
    rw (handed-on _ _ c.from_residual.ensures.1)
    (subst (WhyNotCreated g.S.Storage (IsTrue (g.S.Storage.state b.base.image).shape.keeps) (options_of b)) (sym why.0) why.1)

pub returns-in_err-check_disk-clause-err : goal.returns-in_err-check_disk-clause-err
returns-in_err-check_disk-clause-err g c =
    let b = c.args.self in
    let o = options_of b in
    let keeps = IsTrue (g.S.Storage.state b.base.image).shape.keeps in
    let one = c.in_ok-cluster_bits in
    let fault = c.in_err-check_disk.field-0.0 in
    rw (handed-on _ _ c.from_residual-in_err-check_disk.ensures.1)
    (unmade g.S.Storage keeps o
    (allowed-by o.cluster_size o.refcount_width one.cluster_bits one.refcount_order one.ensures.cluster_bits one.ensures.refcount_order) fault
    (disk-unmade g.S.Storage keeps o c.get_size-size.result c.get_preallocate-preallocate.result _ c.get_size-size.ensures
    c.get_preallocate-preallocate.ensures fault c.in_err-check_disk.ensures.err))

pub returns-in_err-header-clause-err : goal.returns-in_err-header-clause-err
returns-in_err-header-clause-err g c =
    let b = c.args.self in
    let o = options_of b in
    let keeps = IsTrue (g.S.Storage.state b.base.image).shape.keeps in
    let one = c.in_ok-cluster_bits in
    rw (handed-on _ _ c.from_residual-in_err-header.ensures.1)
    (subst (WhyNotCreated g.S.Storage keeps o) (sym c.in_err-header.ensures.err)
    (allowed-by o.cluster_size o.refcount_width one.cluster_bits one.refcount_order one.ensures.cluster_bits one.ensures.refcount_order, tt))

pub returns-in_err-resize-clause-err : goal.returns-in_err-resize-clause-err
returns-in_err-resize-clause-err g c =
    let b = c.args.self in
    let o = options_of b in
    let keeps = IsTrue (g.S.Storage.state b.base.image).shape.keeps in
    let one = c.in_ok-cluster_bits in
    let fault = c.in_err-resize.field-0.0 in
    rw (handed-on _ _ c.from_residual-in_err-resize.ensures.1)
    (unmade g.S.Storage keeps o
    (allowed-by o.cluster_size o.refcount_width one.cluster_bits one.refcount_order one.ensures.cluster_bits one.ensures.refcount_order) fault
    (cut-unmade g.S.Storage keeps o (g.S.Storage.state c.get_image-image.result) (g.S.Storage.state c.resize.new.self) fault
    c.in_err-resize.ensures.err))

pub write_parts-requires : goal.write_parts-requires
write_parts-requires g c =
    let one = c.in_ok-cluster_bits in
    first-header c.args.self one.cluster_bits one.refcount_order c.backing_file-name.result.0 c.backing_file-name.result.1 c.in_ok-header.header
    one.ensures.cluster_bits.0 one.ensures.cluster_bits.1 one.ensures.refcount_order.0 c.backing_file-name.ensures.name c.in_ok-header.ensures.ok

pub returns-in_err-write_parts-clause-err : goal.returns-in_err-write_parts-clause-err
returns-in_err-write_parts-clause-err g c =
    let b = c.args.self in
    let o = options_of b in
    let keeps = IsTrue (g.S.Storage.state b.base.image).shape.keeps in
    let one = c.in_ok-cluster_bits in
    let name = c.backing_file-name.ensures.name in
    let format = c.backing_file-name.ensures.format in
    let fault = c.in_err-write_parts.field-0.0 in
    rw (handed-on _ _ c.from_residual-in_err-write_parts.ensures.1)
    (unmade g.S.Storage keeps o
    (allowed-by o.cluster_size o.refcount_width one.cluster_bits one.refcount_order one.ensures.cluster_bits one.ensures.refcount_order) fault
    (put-unmade o one.cluster_bits one.refcount_order c.in_ok-header.header one.ensures.cluster_bits.2 one.ensures.refcount_order.1
    (c.in_ok-header.ensures.ok ∙ (λ i. new_header one.cluster_bits one.refcount_order (name i) (format i) None))
    g.S.Storage keeps fault c.in_err-write_parts.ensures.err))

pub returns-clause-err : goal.returns-clause-err
returns-clause-err g c =
    let b = c.args.self in
    let o = options_of b in
    let s = g.S.Storage.state in
    let keeps = IsTrue (s b.base.image).shape.keeps in
    let one = c.in_ok-cluster_bits in
    let allowed = allowed-by o.cluster_size o.refcount_width one.cluster_bits one.refcount_order one.ensures.cluster_bits one.ensures.refcount_order in
    IfErr-weaker c.grow_smallest.result _ _
    (λ fault why. unmade g.S.Storage keeps o allowed fault (grown-unmade g.S.Storage keeps o (HoldsSmallest (s c.write_parts.new.image))
    (λ is. holds-smallest c.in_ok-header.header (s c.get_image-image.result) (s c.resize.new.self) (s c.write_parts.new.image)
    (ap (λ (H : Header). H.fields.version) c.in_ok-header.ensures.ok) c.in_ok-resize.ensures.ok c.in_ok-write_parts.ensures.ok c.in_ok-write_parts.ensures.shape
    (subst (λ (x : g.row.S.Denot). IsTrue (s x).shape.keeps) (sym c.get_image-image.ensures) is)) fault
    (subst (λ n. WhyNotGrown g.S.Storage n b.base.preallocate (HoldsSmallest (s c.write_parts.new.image)) fault) c.get_size-size.ensures
    (subst (λ (m : PreallocateMode). WhyNotGrown g.S.Storage c.get_size-size.result m (HoldsSmallest (s c.write_parts.new.image)) fault)
    c.get_preallocate-preallocate.ensures why))))
    c.grow_smallest.ensures.err

pub returns-clause-ok : goal.returns-clause-ok
returns-clause-ok g c =
    let b = c.args.self in
    let o = options_of b in
    let s = g.S.Storage.state in
    let one = c.in_ok-cluster_bits in
    let name = c.backing_file-name.ensures.name in
    let format = c.backing_file-name.ensures.format in
    IfOk-weaker c.grow_smallest.result _ _
    (λ made grows. subst (λ (x : g.row.S.Denot). IsNewQcow2 o (s x) (s made)) c.get_image-image.ensures
    (is-made o one.cluster_bits one.refcount_order c.in_ok-header.header one.ensures.cluster_bits.2 one.ensures.refcount_order.1
    (c.in_ok-header.ensures.ok ∙ (λ i. new_header one.cluster_bits one.refcount_order (name i) (format i) None))
    (s c.get_image-image.result) (s c.resize.new.self) (s c.write_parts.new.image) (s made) c.in_ok-resize.ensures.ok
    c.in_ok-write_parts.ensures.ok c.in_ok-write_parts.ensures.shape
    (subst (λ n. GrowsSmallest n b.base.preallocate (s c.write_parts.new.image) (s made)) c.get_size-size.ensures
    (subst (λ (m : PreallocateMode). GrowsSmallest c.get_size-size.result m (s c.write_parts.new.image) (s made))
    c.get_preallocate-preallocate.ensures grows))))
    c.grow_smallest.ensures.ok

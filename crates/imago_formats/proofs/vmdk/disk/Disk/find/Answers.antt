use Rattle.imago_formats.proofs.ExtentLemmas.{found_here, next_stands, stands_first}
use Rattle.imago_formats.proofs.vmdk.disk.Disk.find.Goals as goal

pub loop-extent-init : goal.loop-extent-init
loop-extent-init c = stands_first c.args.self.now.extents.items c.args.offset

pub returns-then-offset-start-clause-found : goal.returns-then-offset-start-clause-found
returns-then-offset-start-clause-found c =
    let xs = c.args.self.now.extents.items in
    found_here xs c.loop-extent.extent-index c.loop-extent.start c.loop-extent.number c.args.offset c.extent-item.result c.loop-extent.invariant
    (rw (← c.deref-extent-items.ensures.value) c.loop-extent-test.true)
    (rw (← c.deref-extent-items.ensures.value) c.extent-item.is) c.if-offset-start.true

pub loop-extent-preserved : goal.loop-extent-preserved
loop-extent-preserved c =
    let xs = c.args.self.now.extents.items in
    next_stands xs c.loop-extent.extent-index c.loop-extent.start c.loop-extent.number c.number_after-number.result c.args.offset c.extent-item.result
    c.loop-extent.invariant (rw (← c.deref-extent-items.ensures.value) c.loop-extent-test.true)
    (rw (← c.deref-extent-items.ensures.value) c.extent-item.is) c.if-offset-start.false c.number_after-number.ensures

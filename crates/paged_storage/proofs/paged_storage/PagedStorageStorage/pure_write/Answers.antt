use Rattle.std.proofs.Common.{ap}
use Rattle.imago_storage.specs.Log.{splice}
use Rattle.imago_storage.specs.declared.log.Request.TheVariants.{Write}
use Rattle.paged_storage.proofs.Requesting.{each_is_byte, kept-once, write-kept, write_bytes, write_size}
use Rattle.paged_storage.proofs.paged_storage.PagedStorageStorage.pure_write.Goals as goal

pub keep-requires-clause-size : goal.keep-requires-clause-size
keep-requires-clause-size g c =
    let copied = c.in-Ok.ensures.items_if_clones_equal (λ x y is. is) in
    write_size g.H.HostFile c.args.self.now (Write c.args.offset c.in-Ok.bytes) c.args.offset c.args.data.now c.byte_count.result c.max-size.result (ap (splice _ c.args.offset) copied) c.byte_count.ensures.value c.max-size.ensures

pub keep-requires-clause-bytes : goal.keep-requires-clause-bytes
keep-requires-clause-bytes g c =
    let copied = c.in-Ok.ensures.items_if_clones_equal (λ x y is. is) in
    write_bytes g.H.HostFile c.args.self.now (Write c.args.offset c.in-Ok.bytes) c.args.offset c.args.data.now (ap (splice _ c.args.offset) copied) (each_is_byte c.args.data.now c.byte_count.ensures.bytes)

pub returns-in-Ok-clause-ok : goal.returns-in-Ok-clause-ok
returns-in-Ok-clause-ok g c =
    let copied = c.in-Ok.ensures.items_if_clones_equal (λ x y is. is) in
    let k = c.keep.ensures in
    write-kept g.H.HostFile c.args.self.now (Write c.args.offset c.in-Ok.bytes) c.keep.new.self k.base k.faults c.keep.result k.ok k.ok_refusals c.args.offset c.args.data.now (ap (splice _ c.args.offset) copied)

pub returns-in-Ok-clause-single_request : goal.returns-in-Ok-clause-single_request
returns-in-Ok-clause-single_request g c =
    let k = c.keep.ensures in
    kept-once g.H.HostFile c.args.self.now (Write c.args.offset c.in-Ok.bytes) c.keep.new.self k.base c.keep.result k.ok k.err_requests

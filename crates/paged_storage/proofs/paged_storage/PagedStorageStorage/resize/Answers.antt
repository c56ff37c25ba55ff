use Rattle.std.proofs.Common.{refl}
use Rattle.imago_storage.specs.declared.log.Request.TheVariants.{Resize}
use Rattle.paged_storage.proofs.Requesting.{kept-once, resize-kept, resize_bytes, resize_size}
use Rattle.paged_storage.proofs.paged_storage.PagedStorageStorage.resize.Goals as goal

pub keep-requires-clause-size : goal.keep-requires-clause-size
keep-requires-clause-size g c = resize_size g.H.HostFile c.args.self.now (Resize c.args.size) c.args.size refl

pub keep-requires-clause-bytes : goal.keep-requires-clause-bytes
keep-requires-clause-bytes g c = resize_bytes g.H.HostFile c.args.self.now (Resize c.args.size) c.args.size refl

pub returns-in-None-clause-ok : goal.returns-in-None-clause-ok
returns-in-None-clause-ok g c =
    let k = c.keep.ensures in
    resize-kept g.H.HostFile c.args.self.now (Resize c.args.size) c.keep.new.self k.base k.faults c.keep.result k.ok k.ok_refusals c.args.size refl

pub returns-in-None-clause-single_request : goal.returns-in-None-clause-single_request
returns-in-None-clause-single_request g c =
    let k = c.keep.ensures in
    kept-once g.H.HostFile c.args.self.now (Resize c.args.size) c.keep.new.self k.base c.keep.result k.ok k.err_requests

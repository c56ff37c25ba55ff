use Rattle.std.proofs.Common.{refl, sym, replicate}
use Rattle.imago_storage.specs.declared.log.Request.TheVariants.{Zeroes}
use Rattle.imago_storage.proofs.Zeroes.{length_of_zeroes}
use Rattle.paged_storage.proofs.Requesting.{kept-once, write-kept, write_bytes, write_size, zeroes_are_bytes}
use Rattle.paged_storage.proofs.paged_storage.PagedStorageStorage.pure_write_allocated_zeroes.Goals as goal

pub keep-requires-clause-size : goal.keep-requires-clause-size
keep-requires-clause-size g c = write_size g.H.HostFile c.args.self.now (Zeroes c.args.offset c.args.length) c.args.offset (replicate c.args.length 0) c.args.length c.max-size.result refl (sym (length_of_zeroes c.args.length)) c.max-size.ensures

pub keep-requires-clause-bytes : goal.keep-requires-clause-bytes
keep-requires-clause-bytes g c = write_bytes g.H.HostFile c.args.self.now (Zeroes c.args.offset c.args.length) c.args.offset (replicate c.args.length 0) refl (zeroes_are_bytes c.args.length)

pub returns-clause-ok : goal.returns-clause-ok
returns-clause-ok g c =
    let k = c.keep.ensures in
    write-kept g.H.HostFile c.args.self.now (Zeroes c.args.offset c.args.length) c.keep.new.self k.base k.faults c.keep.result k.ok k.ok_refusals c.args.offset (replicate c.args.length 0) refl

pub returns-clause-single_request : goal.returns-clause-single_request
returns-clause-single_request g c =
    let k = c.keep.ensures in
    kept-once g.H.HostFile c.args.self.now (Zeroes c.args.offset c.args.length) c.keep.new.self k.base c.keep.result k.ok k.err_requests

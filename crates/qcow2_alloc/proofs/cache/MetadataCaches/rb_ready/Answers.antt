use Rattle.std.proofs.Common.{Ok, Err, ap, subst, false}
use Rattle.qcow2_alloc.specs.declared.async_lru_cache.Admission.{Admission}
use Rattle.qcow2_alloc.specs.declared.async_lru_cache.Admission.TheVariants.{Granted}
use Rattle.qcow2_metadata.specs.Tables.{TableValue}
use Rattle.qcow2_metadata.specs.Blocks.{Block}
use Rattle.qcow2_alloc.specs.declared.file.ImageFile.{ImageFile}
use Rattle.qcow2_alloc.specs.Cache.{Readied}
use Rattle.qcow2_alloc.specs.CachesLending.{block_kind}
use Rattle.qcow2_alloc.specs.Finding.{EntryFound, BlockFound}
use Rattle.qcow2_alloc.proofs.Caching.EntrySearches.{found-now, found-stuck}
use Rattle.qcow2_alloc.proofs.Caching.BlockSide.{block-laws}
use Rattle.qcow2_alloc.specs.CachedKinds.{Beside, block_entries, by_blocks}
use Rattle.qcow2_alloc.proofs.Faults.{handed-on}
use Rattle.qcow2_alloc.proofs.cache.MetadataCaches.rb_ready.Goals as goal

pub returns-in-Granted : goal.returns-in-Granted
returns-in-Granted g c =
    let state = g.S.Storage.state in
    let find = c.rb_find in
    (found-now (block_entries state) (block-laws state) c.args.cluster (by_blocks c.args.self.now) c.args.file.now (by_blocks find.new.self) find.new.file (ap by_blocks find.ensures.others) (Ok Granted) (λ no. cc)
    (subst (λ (a : Admission). Readied (block_kind state c.args.self.now.rb.slots.cap) false c.args.cluster c.args.file.now c.args.self.now.rb.slots.entries (Ok a) find.new.file find.new.self.rb.slots.entries) c.in-Granted.is c.in_ok-rb_find.ensures.readied))

pub returns-in-Denied : goal.returns-in-Denied
returns-in-Denied g c =
    let state = g.S.Storage.state in
    let find = c.rb_find in
    let full = subst (λ (a : Admission). Readied (block_kind state c.args.self.now.rb.slots.cap) false c.args.cluster c.args.file.now c.args.self.now.rb.slots.entries (Ok a) find.new.file find.new.self.rb.slots.entries) c.in-Denied.is c.in_ok-rb_find.ensures.readied in
    let stuck = found-stuck (block_entries state) (block-laws state) c.args.cluster (by_blocks c.args.self.now) c.args.file.now (by_blocks find.new.self) find.new.file (ap by_blocks find.ensures.others) full in
    subst (λ (m : Beside g.row.S.Denot Block TableValue _ _). EntryFound (block_entries state) c.args.cluster m c.args.file.now c.rb_load.result (by_blocks c.rb_load.new.self) c.rb_load.new.file) stuck.caches
    (subst (λ (f : ImageFile g.row.S.Denot). BlockFound state c.args.cluster find.new.self f c.rb_load.result c.rb_load.new.self c.rb_load.new.file) stuck.file c.rb_load.ensures)

pub returns-in_err-rb_find : goal.returns-in_err-rb_find
returns-in_err-rb_find g c = rw (handed-on _ _ c.from_residual.ensures.1) (
    let state = g.S.Storage.state in
    let find = c.rb_find in
    (found-now (block_entries state) (block-laws state) c.args.cluster (by_blocks c.args.self.now) c.args.file.now (by_blocks find.new.self) find.new.file (ap by_blocks find.ensures.others) (Err c.in_err-rb_find.field-0.0) (λ no. cc) c.in_err-rb_find.ensures.readied))

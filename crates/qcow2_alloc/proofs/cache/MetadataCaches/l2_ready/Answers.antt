use Rattle.std.proofs.Common.{Ok, Err, ap, subst, false}
use Rattle.qcow2_alloc.specs.declared.async_lru_cache.Admission.{Admission}
use Rattle.qcow2_alloc.specs.declared.async_lru_cache.Admission.TheVariants.{Granted}
use Rattle.qcow2_metadata.specs.Tables.{TableValue}
use Rattle.qcow2_metadata.specs.Blocks.{Block}
use Rattle.qcow2_alloc.specs.declared.file.ImageFile.{ImageFile}
use Rattle.qcow2_alloc.specs.Cache.{Readied}
use Rattle.qcow2_alloc.specs.CachesLending.{table_kind}
use Rattle.qcow2_alloc.specs.Finding.{EntryFound, TableFound}
use Rattle.qcow2_alloc.proofs.Caching.EntrySearches.{found-now, found-stuck}
use Rattle.qcow2_alloc.proofs.Caching.TableSide.{table-laws}
use Rattle.qcow2_alloc.specs.CachedKinds.{Beside, table_entries, by_tables}
use Rattle.qcow2_alloc.proofs.Faults.{handed-on}
use Rattle.qcow2_alloc.proofs.cache.MetadataCaches.l2_ready.Goals as goal

pub returns-in-Granted : goal.returns-in-Granted
returns-in-Granted g c =
    let state = g.S.Storage.state in
    let find = c.l2_find in
    (found-now (table_entries state) (table-laws state) c.args.cluster (by_tables c.args.self.now) c.args.file.now (by_tables find.new.self) find.new.file (ap by_tables find.ensures.others) (Ok Granted) (λ no. cc)
    (subst (λ (a : Admission). Readied (table_kind state c.args.self.now.l2.slots.cap) false c.args.cluster c.args.file.now c.args.self.now.l2.slots.entries (Ok a) find.new.file find.new.self.l2.slots.entries) c.in-Granted.is c.in_ok-l2_find.ensures.readied))

pub returns-in-Denied : goal.returns-in-Denied
returns-in-Denied g c =
    let state = g.S.Storage.state in
    let find = c.l2_find in
    let full = subst (λ (a : Admission). Readied (table_kind state c.args.self.now.l2.slots.cap) false c.args.cluster c.args.file.now c.args.self.now.l2.slots.entries (Ok a) find.new.file find.new.self.l2.slots.entries) c.in-Denied.is c.in_ok-l2_find.ensures.readied in
    let stuck = found-stuck (table_entries state) (table-laws state) c.args.cluster (by_tables c.args.self.now) c.args.file.now (by_tables find.new.self) find.new.file (ap by_tables find.ensures.others) full in
    subst (λ (m : Beside g.row.S.Denot TableValue Block _ _). EntryFound (table_entries state) c.args.cluster m c.args.file.now c.l2_load.result (by_tables c.l2_load.new.self) c.l2_load.new.file) stuck.caches
    (subst (λ (f : ImageFile g.row.S.Denot). TableFound state c.args.cluster find.new.self f c.l2_load.result c.l2_load.new.self c.l2_load.new.file) stuck.file c.l2_load.ensures)

pub returns-in_err-l2_find : goal.returns-in_err-l2_find
returns-in_err-l2_find g c = rw (handed-on _ _ c.from_residual.ensures.1) (
    let state = g.S.Storage.state in
    let find = c.l2_find in
    (found-now (table_entries state) (table-laws state) c.args.cluster (by_tables c.args.self.now) c.args.file.now (by_tables find.new.self) find.new.file (ap by_tables find.ensures.others) (Err c.in_err-l2_find.field-0.0) (λ no. cc) c.in_err-l2_find.ensures.readied))

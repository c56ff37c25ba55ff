use Rattle.std.proofs.Common.{Ok, Err, ap, subst, sym, Option, false}
use Rattle.qcow2_metadata.specs.Tables.{TableValue}
use Rattle.qcow2_metadata.specs.Blocks.{Block}
use Rattle.qcow2_alloc.specs.declared.file.ImageFile.{ImageFile}
use Rattle.qcow2_alloc.specs.Cache.{Inserted}
use Rattle.qcow2_alloc.specs.Caches.{cached_file}
use Rattle.qcow2_alloc.specs.CachesLending.{table_kind}
use Rattle.qcow2_alloc.specs.Putting.{EntryInserted, TableInserted}
use Rattle.qcow2_alloc.proofs.Caching.PutOutcomes.{IsBarred}
use Rattle.qcow2_alloc.proofs.Caching.EntryPuts.{put-now, put-unchanged}
use Rattle.qcow2_alloc.proofs.Caching.TableSide.{table-laws}
use Rattle.qcow2_alloc.specs.CachedKinds.{Beside, table_entries, by_tables}
use Rattle.qcow2_alloc.proofs.cache.MetadataCaches.l2_insert_at.Goals as goal
use Rattle.qcow2_alloc.proofs.Faults.{handed-on}

pub returns-in-None : goal.returns-in-None
returns-in-None g c =
    let state = g.S.Storage.state in
    let put = c.l2_put in
    (put-now (table_entries state) (table-laws state) c.args.cluster c.args.table (by_tables c.args.self.now) c.args.file.now (by_tables put.new.self) put.new.file (ap by_tables put.ensures.others)
    (Ok c.in_ok-l2_put.field-0) (subst (λ (o : Option TableValue). IsBarred (Ok o) → ⊥) (sym c.in-None.is) (λ no. no)) c.in_ok-l2_put.ensures.inserted)

pub returns-in-Some : goal.returns-in-Some
returns-in-Some g c =
    let state = g.S.Storage.state in
    let put = c.l2_put in
    let over = c.l2_put_over in
    let value = c.in-Some.table in
    let inserted = subst (λ (o : Option TableValue). Inserted (table_kind state c.args.self.now.l2.slots.cap) false (c.args.cluster, c.args.table) c.args.file.now c.args.self.now.l2.slots.entries (Ok o) put.new.file put.new.self.l2.slots.entries) c.in-Some.is c.in_ok-l2_put.ensures.inserted in
    let same = put-unchanged (table_entries state) (table-laws state) c.args.cluster c.args.table (by_tables c.args.self.now) c.args.file.now (by_tables put.new.self) put.new.file (ap by_tables put.ensures.others) value inserted in
    subst (λ (v : TableValue). TableInserted state c.args.cluster v (cached_file c.args.self.now c.args.file.now) over.result (cached_file over.new.self over.new.file)) same.given
    (subst (λ (m : Beside g.row.S.Denot TableValue Block _ _). EntryInserted (table_entries state) c.args.cluster value m c.args.file.now over.result (by_tables over.new.self) over.new.file) same.caches
    (subst (λ (f : ImageFile g.row.S.Denot). TableInserted state c.args.cluster value (cached_file put.new.self f) over.result (cached_file over.new.self over.new.file)) same.file over.ensures))

pub returns-in_err-l2_put : goal.returns-in_err-l2_put
returns-in_err-l2_put g c =
    let state = g.S.Storage.state in
    let put = c.l2_put in
    rw (handed-on _ _ c.from_residual.ensures.1) ((put-now (table_entries state) (table-laws state) c.args.cluster c.args.table (by_tables c.args.self.now) c.args.file.now (by_tables put.new.self) put.new.file (ap by_tables put.ensures.others)
    (Err c.in_err-l2_put.field-0.0) (λ no. no) c.in_err-l2_put.ensures.inserted))

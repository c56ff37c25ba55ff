use Rattle.std.proofs.Common.{Ok, Err, ap, subst, sym, Option, false}
use Rattle.qcow2_metadata.specs.Blocks.{Block}
use Rattle.qcow2_metadata.specs.Tables.{TableValue}
use Rattle.qcow2_alloc.specs.declared.file.ImageFile.{ImageFile}
use Rattle.qcow2_alloc.specs.Cache.{Inserted}
use Rattle.qcow2_alloc.specs.Caches.{cached_file}
use Rattle.qcow2_alloc.specs.CachesLending.{block_kind}
use Rattle.qcow2_alloc.specs.Putting.{EntryInserted, BlockInserted}
use Rattle.qcow2_alloc.proofs.Caching.PutOutcomes.{IsBarred}
use Rattle.qcow2_alloc.proofs.Caching.EntryPuts.{put-now, put-unchanged}
use Rattle.qcow2_alloc.proofs.Caching.BlockSide.{block-laws}
use Rattle.qcow2_alloc.specs.CachedKinds.{Beside, block_entries, by_blocks}
use Rattle.qcow2_alloc.proofs.cache.MetadataCaches.rb_insert_at.Goals as goal
use Rattle.qcow2_alloc.proofs.Faults.{handed-on}

pub returns-in-None : goal.returns-in-None
returns-in-None g c =
    let state = g.S.Storage.state in
    let put = c.rb_put in
    (put-now (block_entries state) (block-laws state) c.args.cluster c.args.block (by_blocks c.args.self.now) c.args.file.now (by_blocks put.new.self) put.new.file (ap by_blocks put.ensures.others)
    (Ok c.in_ok-rb_put.field-0) (subst (λ (o : Option Block). IsBarred (Ok o) → ⊥) (sym c.in-None.is) (λ no. no)) c.in_ok-rb_put.ensures.inserted)

pub returns-in-Some : goal.returns-in-Some
returns-in-Some g c =
    let state = g.S.Storage.state in
    let put = c.rb_put in
    let over = c.rb_put_over in
    let value = c.in-Some.block in
    let inserted = subst (λ (o : Option Block). Inserted (block_kind state c.args.self.now.rb.slots.cap) false (c.args.cluster, c.args.block) c.args.file.now c.args.self.now.rb.slots.entries (Ok o) put.new.file put.new.self.rb.slots.entries) c.in-Some.is c.in_ok-rb_put.ensures.inserted in
    let same = put-unchanged (block_entries state) (block-laws state) c.args.cluster c.args.block (by_blocks c.args.self.now) c.args.file.now (by_blocks put.new.self) put.new.file (ap by_blocks put.ensures.others) value inserted in
    subst (λ (v : Block). BlockInserted state c.args.cluster v (cached_file c.args.self.now c.args.file.now) over.result (cached_file over.new.self over.new.file)) same.given
    (subst (λ (m : Beside g.row.S.Denot Block TableValue _ _). EntryInserted (block_entries state) c.args.cluster value m c.args.file.now over.result (by_blocks over.new.self) over.new.file) same.caches
    (subst (λ (f : ImageFile g.row.S.Denot). BlockInserted state c.args.cluster value (cached_file put.new.self f) over.result (cached_file over.new.self over.new.file)) same.file over.ensures))

pub returns-in_err-rb_put : goal.returns-in_err-rb_put
returns-in_err-rb_put g c =
    let state = g.S.Storage.state in
    let put = c.rb_put in
    rw (handed-on _ _ c.from_residual.ensures.1) ((put-now (block_entries state) (block-laws state) c.args.cluster c.args.block (by_blocks c.args.self.now) c.args.file.now (by_blocks put.new.self) put.new.file (ap by_blocks put.ensures.others)
    (Err c.in_err-rb_put.field-0.0) (λ no. no) c.in_err-rb_put.ensures.inserted))

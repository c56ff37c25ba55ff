use Rattle.std.proofs.Common.{refl, ap, ℕ, List}
use Rattle.std.specs.Prelude.{map}
use Rattle.qcow2_metadata.specs.Tables.{TableValue}
use Rattle.qcow2_alloc.specs.declared.async_lru_cache.Slot.{Slot}
use Rattle.qcow2_alloc.specs.Memory.{written_block}
use Rattle.qcow2_alloc.proofs.Caching.CacheFlushes.{all-flushed}
use Rattle.qcow2_alloc.proofs.Caching.TableSide.{table-laws}
use Rattle.qcow2_alloc.specs.CachedKinds.{table_entries, by_tables}
use Rattle.qcow2_alloc.proofs.cache.MetadataCaches.flush_l2.Goals as goal

pub returns-clause-writes_back_cached : goal.returns-clause-writes_back_cached
returns-clause-writes_back_cached g c = (all-flushed (table_entries g.S.Storage.state) (table-laws g.S.Storage.state) (by_tables c.args.self.now) c.args.file.now c.flush.result c.flush.new.device c.flush.new.self.slots.entries c.flush.ensures.flushed).writes_back_cached

pub returns-clause-clean : goal.returns-clause-clean
returns-clause-clean g c = (all-flushed (table_entries g.S.Storage.state) (table-laws g.S.Storage.state) (by_tables c.args.self.now) c.args.file.now c.flush.result c.flush.new.device c.flush.new.self.slots.entries c.flush.ensures.flushed).clean

pub returns-clause-others : goal.returns-clause-others
returns-clause-others g c = (refl, refl, (all-flushed (table_entries g.S.Storage.state) (table-laws g.S.Storage.state) (by_tables c.args.self.now) c.args.file.now c.flush.result c.flush.new.device c.flush.new.self.slots.entries c.flush.ensures.flushed).header)

pub returns-clause-cause : goal.returns-clause-cause
returns-clause-cause g c = (all-flushed (table_entries g.S.Storage.state) (table-laws g.S.Storage.state) (by_tables c.args.self.now) c.args.file.now c.flush.result c.flush.new.device c.flush.new.self.slots.entries c.flush.ensures.flushed).cause

pub returns-clause-faults : goal.returns-clause-faults
returns-clause-faults g c = (all-flushed (table_entries g.S.Storage.state) (table-laws g.S.Storage.state) (by_tables c.args.self.now) c.args.file.now c.flush.result c.flush.new.device c.flush.new.self.slots.entries c.flush.ensures.flushed).faults

pub returns-clause-written_value_unchanged : goal.returns-clause-written_value_unchanged
returns-clause-written_value_unchanged g c = ap (λ (l : List (ℕ × Slot TableValue)). record { tables = l; blocks = map written_block c.args.self.now.rb.slots.entries }) (all-flushed (table_entries g.S.Storage.state) (table-laws g.S.Storage.state) (by_tables c.args.self.now) c.args.file.now c.flush.result c.flush.new.device c.flush.new.self.slots.entries c.flush.ensures.flushed).kept

pub returns-clause-written : goal.returns-clause-written
returns-clause-written g c = (refl, (all-flushed (table_entries g.S.Storage.state) (table-laws g.S.Storage.state) (by_tables c.args.self.now) c.args.file.now c.flush.result c.flush.new.device c.flush.new.self.slots.entries c.flush.ensures.flushed).told)

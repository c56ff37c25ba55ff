-- Specifies how an image before and after the commit or the cancel of a prepared mapping (a run that is written and not yet committed) are
-- related.
use Rattle.std.specs.Prelude.{◌≡◌, ◌≢◌, ◌⊎◌, ◌∷◌, [], ◌++◌, ◌+◌, ◌<◌, ◌≤◌, ◌-◌, ◌%◌, ℕ, Bool, false, true, Option, Some, None, Result, Ok, Err, OnOk, IfErr, EachIndex, slice_index}
use Rattle.imago_storage.specs.Calls.{IsFaultless, CountsNotFallen}
use Rattle.imago_storage.specs.declared.fault.Fault.{Fault}
use Rattle.imago_storage.specs.declared.storage.Storage.{Ghosts}
use Rattle.imago_access.specs.declared.mapping.PreparedDataMapping.{PreparedDataMapping}
use Rattle.qcow2_types.specs.Entries.{l2_entries}
use Rattle.qcow2_metadata.specs.Places.{IsAddressable}
use Rattle.qcow2_alloc.specs.declared.cache.MetadataCaches.{MetadataCaches}
use Rattle.qcow2_alloc.specs.Causes.{HasCause}
use Rattle.qcow2_alloc.specs.Going.{IsNoShorter, HadNoResourceError, writing_causes}
use Rattle.qcow2_clusters.specs.Linking.{LeavesTable, LinksRun}
use Rattle.qcow2_clusters.specs.Flushed.{clusters_state}
use Rattle.qcow2_clusters.specs.WritingBack.{without_tables}
use Rattle.qcow2_clusters.specs.declared.space.Space.{Space}
use Rattle.qcow2_image.specs.Holding.{mapping_id_held}
use Rattle.qcow2_image.specs.Unspent.{holding_in}
use Rattle.qcow2_image.specs.declared.mappings.Reserved.{Reserved}
use Rattle.qcow2_image.specs.declared.qcow2.PreparedMappingState.{PreparedMappingState}
use Rattle.qcow2_image.specs.declared.qcow2.Qcow2.{Qcow2}
use Rattle.qcow2_image.specs.declared.tables.Tables.{Tables}
use Rattle.qcow2_image.specs.declared.unspent.Unspent.{Unspent}

-- If the prepared mapping has this ID, it is taken out of the image.
abbrev pub TakesUnspent : {S : Type 0} (g : Ghosts S) → ℕ → Qcow2 S g → Option (Unspent S g) → Qcow2 S g → Type 0
TakesUnspent g mapping_id old None new = (new ≡ old) × (mapping_id_held (holding_in g old.unspent) ≢ Some mapping_id)
TakesUnspent g mapping_id old (Some u) new = (u.mapping_id ≡ mapping_id) × (old.unspent ≡ Some u) × (new ≡ record old { unspent = None })

-- L2 entries can reference the clusters, and the entries of the guest clusters are in one L2 table.
pub record IsLinkable (cluster_bits guest cluster n : ℕ) : Type 0 where
  pub cluster_nonzero : 0 < cluster
  pub any : 0 < n
  pub reach : IsAddressable cluster_bits (cluster + (n - 1))
  pub row : guest % l2_entries cluster_bits + n ≤ l2_entries cluster_bits

-- The number of reserved slots of the free list after a cluster is linked: one less, unless it was a preallocated zero cluster.
abbrev pub held_after : Bool → ℕ → ℕ
held_after true held = held
held_after false held = held - 1

-- The effect of linking on the free space. After success one slot of the free list is released, unless the clusters were preallocated.
-- Nothing else differs from what `link_run` left.
pub record NamesWith {S : Type 0} (g : Ghosts S) (r : Reserved) (guest : ℕ) (old : Tables S g) (space : Space) (result : Result Unit Fault)
    (new : Tables S g) : Type 0 where
  pub caches : MetadataCaches S
  pub between : Space
  pub after : Space
  pub names : LinksRun g.state r.table guest r.host r.count (clusters_state old.file caches space) result
      (clusters_state new.file (without_tables new.caches) between)
  pub leaves_table : LeavesTable g.state r.table guest r.host r.count (clusters_state old.file caches space) result (clusters_state new.file new.caches between)
  pub space_known : new.space ≡ Some after
  pub allocator : after.allocator ≡ between.allocator
  pub entries : after.to_free.entries ≡ between.to_free.entries
  pub let_go : OnOk result (after.to_free.held ≡ held_after r.is_kept between.to_free.held)

-- Guest clusters are linked to host clusters, if the free space is loaded and entries can reference them. In every case the file gets no
-- shorter.
pub record LinksHost {S : Type 0} (g : Ghosts S) (r : Reserved) (guest : ℕ) (old : Tables S g) (result : Result Unit Fault)
    (new : Tables S g) : Type 0 where
  pub shape : (g.state new.file.image).shape ≡ (g.state old.file.image).shape
  pub counts_not_fallen : CountsNotFallen (g.state old.file.image) (g.state new.file.image)
  pub faults : HadNoResourceError result → IsFaultless (g.state old.file.image) (g.state new.file.image)
  pub header : new.file.header ≡ old.file.header
  pub no_shorter : IsNoShorter (g.state old.file.image) (g.state new.file.image)
  pub l1 : new.l1 ≡ old.l1
  pub known : (space : Space) → old.space ≡ Some space → IsLinkable old.file.header.fields.cluster_bits guest r.host r.count
      → NamesWith g r guest old space result new
  pub cause : IfErr result (HasCause (writing_causes ⊥ (g.state old.file.image).faults (g.state new.file.image).faults))

-- The clusters of a prepared mapping.
abbrev pub reserved_of : {S : Type 0} (g : Ghosts S) → Unspent S g → Reserved
reserved_of g u = record { table = u.table; host = u.host; count = u.count; is_kept = u.is_kept }

-- The result of a commit, by the result of linking. On error the image has no prepared mapping any more.
abbrev pub answer_of : Result Unit Fault → Result Unit (Fault × Option (PreparedDataMapping PreparedMappingState))
answer_of (Ok done) = Ok done
answer_of (Err fault) = Err (fault, None)

-- True if the image has failed after linking: any error sets it to failed.
abbrev pub failed_after_any : Result Unit Fault → Bool → Bool
failed_after_any (Ok done) failed = failed
failed_after_any (Err fault) failed = true

-- The prepared mapping is taken out of the image. Its guest clusters are linked to its host clusters, or the image has failed.
pub record SpendsUnspent {S : Type 0} (g : Ghosts S) (mapping_id : ℕ) (old : Qcow2 S g)
    (result : Result Unit (Fault × Option (PreparedDataMapping PreparedMappingState))) (new : Qcow2 S g) : Type 0 where
  pub spent : Unspent S g
  pub was_unspent : old.unspent ≡ Some spent
  pub mine : spent.mapping_id ≡ mapping_id
  pub bytes : let file = (g.state old.tables.file.image).bytes in EachIndex file (λ k. slice_index file k < 256)
  pub named : Result Unit Fault
  pub names : LinksHost g (reserved_of g spent) spent.guest old.tables named new.tables
  pub answer : result ≡ answer_of named
  pub others : new ≡ record old { tables = new.tables; unspent = None; failed = failed_after_any named old.failed }

-- The prepared mapping is committed if it has this ID. Otherwise nothing is done.
abbrev pub CommitsUnspent : {S : Type 0} (g : Ghosts S) → ℕ → Qcow2 S g
    → Result Unit (Fault × Option (PreparedDataMapping PreparedMappingState)) → Qcow2 S g → Type 0
CommitsUnspent g mapping_id old result new =
    ((mapping_id_held (holding_in g old.unspent) ≢ Some mapping_id) × (result ≡ Ok tt) × (new ≡ old)) ⊎ SpendsUnspent g mapping_id old result new

-- If a slot of the free list is reserved, allocated host clusters are put on the list. Otherwise they leak.
abbrev pub GivesBack : (is_kept : Bool) → (host n : ℕ) → Option Space → Option Space → Type 0
GivesBack true host n old new = new ≡ old
GivesBack false host n None new = new ≡ None
GivesBack false host n (Some space) new = ((space.to_free.held ≡ 0) × (new ≡ Some space))
    ⊎ ((0 < space.to_free.held) × (new ≡ Some (record space {
      to_free = record {
        entries = space.to_free.entries ++ record { first = host; count = n; metadata = false } ∷ [];
        held = space.to_free.held - 1;
      };
    })))

-- The prepared mapping is cancelled.
pub record DropsUnspent {S : Type 0} (g : Ghosts S) (mapping_id : ℕ) (old new : Qcow2 S g) : Type 0 where
  pub spent : Unspent S g
  pub was_unspent : old.unspent ≡ Some spent
  pub mine : spent.mapping_id ≡ mapping_id
  pub space : Option Space
  pub given : GivesBack spent.is_kept spent.host spent.count old.tables.space space
  pub file : new.tables.file ≡ old.tables.file
  pub l1 : new.tables.l1 ≡ old.tables.l1
  pub caches : new.tables.caches ≡ old.tables.caches
  pub known : new.tables.space ≡ space
  pub others : new ≡ record old { tables = new.tables; unspent = None }

-- The prepared mapping is cancelled if it has this ID. Otherwise nothing is done.
abbrev pub CancelsUnspent : {S : Type 0} (g : Ghosts S) → ℕ → Qcow2 S g → Qcow2 S g → Type 0
CancelsUnspent g mapping_id old new = ((mapping_id_held (holding_in g old.unspent) ≢ Some mapping_id) × (new ≡ old)) ⊎ DropsUnspent g mapping_id old new

-- The allocation state of each byte of the disk, the consistency of files, and the invariant of the qcow2 driver (`IsWellFormed`). Laws of
-- the driver follow.
use Rattle.std.proofs.Common.{inl, inr, sym, subst, refl, arith}
use Rattle.std.specs.Prelude.{◌≡◌, ◌⊎◌, ⊤, ℕ, zero, suc, ◌/◌, ◌<◌, ◌≤◌, ltb, false, List, [], IsTrue, IsSome, IfSome, Option, Some, None}
use Rattle.std.proofs.lemmas.Bool.{cases_Bool}
use Rattle.imago_access.specs.Refusals.{IsOfStorages}
use Rattle.imago_access.specs.Stops.{IsCovered}
use Rattle.qcow2_types.specs.Bytes.{Bytes, bytes_of}
use Rattle.qcow2_types.specs.Header.{Fields, cluster_size}
use Rattle.qcow2_types.specs.Words.{Mapping, data_at, zeroes, packed, damaged}
use Rattle.qcow2_types.specs.Words as mappings
use Rattle.qcow2_types.specs.Entries.{entry}
use Rattle.qcow2_types.specs.Consistency.{IsConsistent, Consistent}
use Rattle.qcow2_image.specs.ImageLayer.{blank_of, meaning_of}
use Rattle.qcow2_alloc.specs.GuestView.{IsSound, Metadata}
use Rattle.qcow2_clusters.specs.Linking.{TakesNone}
use Rattle.qcow2_clusters.specs.Flushed.{Clusters, clusters_state, flushed_metadata}
use Rattle.qcow2_clusters.specs.declared.space.Space.{Space}
use Rattle.qcow2_image.specs.Holding.{PreparedMappingRun, IsHeld}
use Rattle.qcow2_image.specs.Seen.{IsCacheCoherent, file_of, layer_of}
use Rattle.qcow2_image.specs.Unspent.{holding_in}
use Rattle.imago_storage.specs.declared.storage.Storage.{Ghosts}
use Rattle.qcow2_types.specs.Counts.{count}
use Rattle.qcow2_alloc.specs.Allocators.{first_free_of}
use Rattle.qcow2_image.specs.declared.qcow2.Qcow2.{Qcow2}
use Rattle.qcow2_image.specs.declared.tables.Tables.{Tables}

-- The mapping has a host cluster.
abbrev pub HasCluster : Mapping → Type 0
HasCluster (data_at cluster copied) = ⊤
HasCluster (zeroes (Some cluster) copied) = ⊤
HasCluster mapping = ⊥

-- The mapping reads as zeroes or isn't there: it has no bytes of the file, and none that can't be read.
abbrev pub ReadsNone : Mapping → Type 0
ReadsNone mappings.unmapped = ⊤
ReadsNone (zeroes cluster copied) = ⊤
ReadsNone mapping = ⊥

-- The mapping itself says that the guest cluster is 0. An unallocated one doesn't.
abbrev pub MapsExplicitZero : Mapping → Type 0
MapsExplicitZero (zeroes cluster copied) = ⊤
MapsExplicitZero mapping = ⊥

-- The states of a byte of the disk, by the entries in memory.
abbrev pub IsUnallocated : Bytes → Fields → ℕ → Type 0
IsUnallocated memory h p = (h.size ≤ p) ⊎ TakesNone (entry memory h (p / cluster_size h))

pub record HasRoom (memory : Bytes) (h : Fields) (p : ℕ) : Type 0 where
  pub inside : p < h.size
  pub own : HasCluster (entry memory h (p / cluster_size h))

abbrev pub IsZeroed : Bytes → Fields → ℕ → Type 0
IsZeroed memory h p = (h.size ≤ p) ⊎ ReadsNone (entry memory h (p / cluster_size h))

abbrev pub IsExplicitZero : Bytes → Fields → ℕ → Type 0
IsExplicitZero memory h p = MapsExplicitZero (entry memory h (p / cluster_size h))

none-or-own : (m : Mapping) → TakesNone m → HasCluster m → ⊥
none-or-own mappings.unmapped none has = has
none-or-own (zeroes None copied) none has = has
none-or-own (zeroes (Some cluster) copied) none has = none
none-or-own (data_at cluster copied) none has = none
none-or-own (packed offset length) none has = none
none-or-own damaged none has = none

pub not_both : (memory : Bytes) (h : Fields) (p : ℕ) → IsUnallocated memory h p → HasRoom memory h p → ⊥
not_both memory h p (inl behind) room = absurd (Prim.omega (arith, behind, room.inside))
not_both memory h p (inr none) room = none-or-own _ none room.own

-- A file is consistent as an image of a kind. Qcow2 images are of kind 1.
abbrev pub is_sound : ℕ → List ℕ → Type 0
is_sound (suc zero) f = Consistent (bytes_of f)
is_sound kind f = ⊤

-- The image as the value that changes of clusters work on, with this free space.
abbrev pub clusters_of : {S : Type 0} (g : Ghosts S) → Tables S g → Space → Clusters S
clusters_of g t space = clusters_state t.file t.caches space

-- The metadata of the image, with nothing dirty.
abbrev pub rest_of : {S : Type 0} (g : Ghosts S) → Tables S g → Space → Metadata
rest_of g t space = flushed_metadata g.state (clusters_of g t space)

-- Entries can reference the clusters of the mapping. A slot of the free list is reserved for them, unless they are preallocated.
pub record HoldsIn {S : Type 0} (g : Ghosts S) (t : Tables S g) (hold : PreparedMappingRun) : Type 0 where
  pub space : Space
  pub space_known : t.space ≡ Some space
  pub held : IsHeld (rest_of g t space) hold
  pub room : hold.is_kept ≡ false → 0 < space.to_free.held

-- The cluster where the search for free clusters starts, or 0 before the free space is loaded.
abbrev pub searched_from : Option Space → ℕ
searched_from None = 0
searched_from (Some free) = first_free_of free.allocator

-- No cluster before the start of the search is free, by the refcounts of the file.
abbrev pub AreCountedBefore : {S : Type 0} (g : Ghosts S) → Tables S g → Type 0
AreCountedBefore g t = (c : ℕ) → c < searched_from t.space → 0 < count (file_of g t) t.file.header.fields c

-- The invariant of the driver. The image has not failed, its file is consistent, and its storage keeps what is written. Memory is what the
-- file says. The free space and the prepared mapping, if any, agree with the file. The search starts where no cluster before is free.
pub record IsWellFormed {S : Type 0} (g : Ghosts S) (d : Qcow2 S g) : Type 0 where
  pub runs : d.failed ≡ false
  pub keeps : IsTrue (g.state d.tables.file.image).shape.keeps
  pub consistent : IsConsistent (file_of g d.tables) d.tables.file.header
  pub seen : IsCacheCoherent g d.tables
  pub sound : IfSome d.tables.space (λ space. IsSound (rest_of g d.tables space))
  pub searched : AreCountedBefore g d.tables
  pub held : IfSome (holding_in g d.unspent) (HoldsIn g d.tables)
  pub writable : IsSome d.unspent → IsTrue d.mode.writable

-- No mapping is prepared, and the free list is empty.
abbrev pub IsUntouched : {S : Type 0} (g : Ghosts S) → Qcow2 S g → Type 0
IsUntouched g d = (d.unspent ≡ None) × IfSome d.tables.space (λ space. space.to_free.entries ≡ [])

-- The image is well-formed, except that it may have failed.
abbrev pub WasWellFormed : {S : Type 0} (g : Ghosts S) → Qcow2 S g → Type 0
WasWellFormed g d = IsWellFormed g (record d { failed = false })

pub was_well_formed : {S : Type 0} (g : Ghosts S) (d : Qcow2 S g) → IsWellFormed g d → WasWellFormed g d
was_well_formed g d well_formed = record {
  runs = refl;
  keeps = well_formed.keeps;
  consistent = well_formed.consistent;
  seen = well_formed.seen;
  sound = well_formed.sound;
  searched = well_formed.searched;
  held = well_formed.held;
  writable = well_formed.writable;
}

-- Memory is what the file says, and stays so when the free list is emptied. A just opened image is coherent in this way. Calls keep it so,
-- unless they change an image that isn't well-formed, or the image fails.
pub record IsCoherent {S : Type 0} (g : Ghosts S) (d : Qcow2 S g) : Type 0 where
  pub seen : IsCacheCoherent g d.tables
  pub sure : IsUntouched g d ⊎ WasWellFormed g d

-- The file is consistent, and its disk isn't shorter than the image's.
pub covered : {S : Type 0} (g : Ghosts S) (d : Qcow2 S g) → IsWellFormed g d
    → IsCovered (layer_of g d) is_sound (g.state d.tables.file.image).bytes
covered g d well_formed = record {
  is_sound = (d.tables.file.header, well_formed.consistent);
  size = subst (λ r. d.tables.file.header.fields.size ≤ (meaning_of (blank_of d.mode.backing) (file_of g d.tables) r).size)
      (sym well_formed.seen.loads) (Prim.omega arith);
}

-- The alignments are those of the file, and so is whether writes are kept. Zeroing, if it can be done, is by clusters.
pub of_storages : {S : Type 0} (g : Ghosts S) (d : Qcow2 S g) → IsOfStorages (layer_of g d) (g.state d.tables.file.image) []
of_storages g d = record {
  requests = refl;
  memory = refl;
  keeps = refl;
  zeroing = elim (cases_Bool (ltb 2 d.tables.file.header.fields.version)) [
    | inl newer ↦ inr (rw newer refl)
    | inr older ↦ inl (rw older refl)
  ];
}

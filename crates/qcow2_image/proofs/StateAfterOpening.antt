-- Lemmas on the state of an image right after it was opened.
use Rattle.std.proofs.Common.{◌≡◌, ℕ, ◌≤◌, refl, sym, subst, ap, [], List, false, Ok, Option, Some, None}
use Rattle.std.specs.Prelude.{Bool, IfSome, IsTrue, IsSome}
use Rattle.std.specs.List.{AllByRecursion}
use Rattle.std.proofs.Math.Nat.{le_refl}
use Rattle.imago_storage.specs.State.{StorageState}
use Rattle.imago_storage.specs.declared.storage.Storage.{Ghosts}
use Rattle.imago_access.specs.Files.{UnchangedButMoreFaults}
use Rattle.imago_access.specs.Stops.{IsMeant}
use Rattle.qcow2_types.specs.Bytes.{Bytes, bytes_of, over}
use Rattle.qcow2_types.specs.Header.{Fields, Header, header_of, has_external_data}
use Rattle.qcow2_types.specs.Consistency.{Consistent, IsConsistent, leaks}
use Rattle.qcow2_types.specs.Pending.{FreeEntry}
use Rattle.qcow2_alloc.specs.Caches.{cached_in, order_of}
use Rattle.qcow2_alloc.specs.Memory.{Cached, memory}
use Rattle.qcow2_alloc.specs.Opening.{IsL1Of}
use Rattle.qcow2_alloc.specs.GuestView.{IsSound}
use Rattle.qcow2_alloc.specs.WellFormedness.{AreTablesClean, AreBlocksClean}
use Rattle.qcow2_alloc.proofs.Growth.TableLoads.{opened-sound, verdict-consistent}
use Rattle.qcow2_alloc.specs.declared.cache.CacheDependency.TheVariants.{Unset}
use Rattle.qcow2_clusters.specs.declared.space.Space.{Space}
use Rattle.qcow2_image.specs.Seen.{IsOfFile, file_of, memory_of}
use Rattle.qcow2_image.specs.ImageLayer.{qcow2_layer, meaning_of, blank_of}
use Rattle.qcow2_image.specs.Rooms.{IsWellFormed, rest_of}
use Rattle.qcow2_image.specs.Opening.{IsJustOpened, IsSpaceOpened, header_for, is_qcow2}
use Rattle.qcow2_image.specs.Unspent.{holding_in}
use Rattle.qcow2_image.specs.declared.qcow2.Qcow2.{Qcow2}
use Rattle.qcow2_image.specs.declared.tables.Tables.{Tables}
use Rattle.qcow2_image.proofs.OpenRefusals.{reads-too}
use Rattle.qcow2_image.proofs.Probes.{header-begins}
use Rattle.qcow2_image.proofs.SearchStart.{counted-first, opened-first}

module _ {S : Type 0} (g : Ghosts S) (before : StorageState) (writable : Bool) (l2_tables refcount_blocks : ℕ) (t : Tables S g) (same : g.state t.file.image ≡ before)
    (loads : header_of writable (bytes_of before.bytes) ≡ Ok t.file.header) (inside : has_external_data t.file.header.fields ≡ false) (l1 : IsL1Of (bytes_of before.bytes) t.file.header.fields t.l1)
    (allowed : header_for writable (bytes_of before.bytes) ≡ Ok t.file.header)
    (empty : cached_in t.caches ≡ record { tables = []; blocks = [] }) (unordered : order_of t.caches ≡ Unset)
    (space : IsSpaceOpened before t.file.header.fields writable t.space)
    (tables : t.caches.l2.slots.cap ≡ l2_tables) (blocks : t.caches.rb.slots.cap ≡ refcount_blocks) where
  -- The metadata, from what was loaded of the file.
  pub just-opened : IsJustOpened g before writable l2_tables refcount_blocks t
  just-opened = record {
    same = same;
    allowed = allowed;
    seen = record {
      loads = subst (λ (s : StorageState). header_of false (bytes_of s.bytes) ≡ Ok t.file.header) (sym same)
          (reads-too writable (bytes_of before.bytes) t.file.header loads);
      inside = inside;
      l1 = subst (λ (s : StorageState). IsL1Of (bytes_of s.bytes) t.file.header.fields t.l1) (sym same) l1;
      tables = subst (λ (c : Cached). AllByRecursion (IsOfFile (file_of g t) t.file.header.fields) c.tables) (sym empty) tt;
    };
    empty = empty;
    unordered = unordered;
    space = space;
    tables = tables;
    blocks = blocks;
  }

memory-empty : (f : Bytes) (h : Fields) (cached : Cached) → cached ≡ record { tables = []; blocks = [] } → memory f h cached ≡ f
unfolding over
memory-empty f h cached empty = ap (λ (c : Cached). memory f h c) empty

-- The free space of a consistent image is consistent when it was just loaded.
pub opened-space : {S : Type 0} (g : Ghosts S) (t : Tables S g) → IsConsistent (file_of g t) t.file.header → (writable : Bool) (o : Option Space)
    → IsSpaceOpened (g.state t.file.image) t.file.header.fields writable o → IfSome o (λ space. IsSound (rest_of g t space))
opened-space g t consistent writable None opened = tt
opened-space g t consistent writable (Some space) opened =
    let state = g.state t.file.image in
    subst (λ (es : List FreeEntry). IsSound (record (rest_of g t space) { pending = es })) (sym opened.idle)
    (opened-sound (file_of g t) t.file.header consistent state state space.allocator refl opened.loads)

module _ {S : Type 0} (g : Ghosts S) (before : StorageState) (writable : Bool) (l2_tables refcount_blocks : ℕ) (d : Qcow2 S g)
    (now : IsJustOpened g before writable l2_tables refcount_blocks d.tables) where
  abbrev state : StorageState
  state = g.state d.tables.file.image

  abbrev H : Header
  H = d.tables.file.header

  -- The file only got reads.
  pub opened-kept : UnchangedButMoreFaults before state
  opened-kept = subst (λ (s : StorageState). UnchangedButMoreFaults before s) (sym now.same) (record { shape = refl; bytes = refl; refusals = refl; crash_image = refl; past_crash_images = refl }, le_refl before.faults)

  -- The file means the disk.
  pub opened-meant : IsMeant (qcow2_layer state (memory_of g d.tables) H.fields d.mode d.number d.failed (holding_in g d.unspent)) state.bytes
  opened-meant = subst (λ (m : Bytes). IsMeant (qcow2_layer state m H.fields d.mode d.number d.failed (holding_in g d.unspent)) state.bytes) (sym (memory-empty (bytes_of state.bytes) H.fields (cached_in d.tables.caches) now.empty))
      record {
        size = subst (λ r. H.fields.size ≤ (meaning_of (blank_of d.mode.backing) (bytes_of state.bytes) r).size) (sym now.seen.loads) (le_refl H.fields.size);
        exactly = λ exact. ap (λ r. (meaning_of (blank_of d.mode.backing) (bytes_of state.bytes) r).size) now.seen.loads;
        cell = λ p low. ap (λ r. (meaning_of (blank_of d.mode.backing) (bytes_of state.bytes) r).cell p) now.seen.loads;
      }

  -- Nothing is dirty.
  pub opened-still : AreTablesClean (cached_in d.tables.caches) × AreBlocksClean (cached_in d.tables.caches)
  opened-still = subst (λ (c : Cached). AreTablesClean c × AreBlocksClean c) (sym now.empty) (tt, tt)

  -- The file is consistent, by some header.
  module _ (sound : Consistent (bytes_of state.bytes)) where
    consistent : IsConsistent (bytes_of state.bytes) H
    consistent = verdict-consistent (bytes_of state.bytes) (leaks (bytes_of state.bytes) sound.0.fields) false H (sound.0, sound.1, refl)
        now.seen.loads

  pub opened-safe : d.failed ≡ false → d.unspent ≡ None → IsTrue state.shape.keeps → Consistent (bytes_of state.bytes) → IsWellFormed g d
  opened-safe runs free keeps sound = record {
    runs = runs;
    keeps = keeps;
    consistent = consistent sound;
    seen = now.seen;
    sound = opened-space g d.tables (consistent sound) writable d.tables.space
        (subst (λ (s : StorageState). IsSpaceOpened s H.fields writable d.tables.space) (sym now.same) now.space);
    searched = counted-first g d.tables (opened-first before H.fields writable d.tables.space now.space);
    held = rw free tt;
    writable = λ some. absurd (Prim.cc (subst IsSome free some));
  }

  -- The file starts as an image does.
  pub opened-begins : IsTrue (is_qcow2 (bytes_of before.bytes))
  opened-begins = header-begins (bytes_of before.bytes) H (subst (λ (s : StorageState). header_of false (bytes_of s.bytes) ≡ Ok H) now.same now.seen.loads)

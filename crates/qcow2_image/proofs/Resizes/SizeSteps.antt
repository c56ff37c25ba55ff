-- Lemmas on the request that gives the disk of an image another size.
use Rattle.std.proofs.Common.{◌≡◌, ℕ, ◌+◌, ◌-◌, ◌*◌, ◌/◌, ◌^◌, ◌<◌, ◌≤◌, refl, arith, ap, sym, subst, ◌∙◌, inl, inr, true, List, [], Option, Some, None, Result, Ok, Err}
use Rattle.std.proofs.Math.Nat.{div-add-mod}
use Rattle.std.proofs.lemmas.Bool.{cases_eq, lt-ltb}
use Rattle.std.specs.Prelude.{⊤, ◌⊎◌, IfSome, IsTrue, is_some, if◌then◌else◌, ltb, max, min}
use Rattle.std.specs.List.{AllByRecursion}
use Rattle.imago_storage.specs.State.{Shape, StorageState}
use Rattle.imago_storage.specs.Disk.{byte}
use Rattle.imago_storage.specs.Passing.{UnrefusedCrashImages}
use Rattle.imago_storage.specs.declared.fault.Fault.{Fault}
use Rattle.imago_storage.specs.declared.storage.Storage.{Ghosts}
use Rattle.imago_access.specs.Chain.{at}
use Rattle.imago_access.specs.Layer.{Cell, Layer, Meaning, through}
use Rattle.imago_access.specs.Stops.{GivesNone, Left, shown}
use Rattle.imago_access.proofs.Stopping.{passes_weaker}
use Rattle.qcow2_types.specs.Bytes.{Bytes, bytes_of}
use Rattle.qcow2_types.specs.Consistency.{IsConsistent}
use Rattle.qcow2_types.specs.Counts.{count}
use Rattle.qcow2_types.specs.Entries.{entry}
use Rattle.qcow2_types.specs.Header.{Fields, Header, Limited, cluster_size, refcount_table_entries}
use Rattle.qcow2_types.specs.Pending.{FreeEntry}
use Rattle.qcow2_types.specs.References.{meets, refs}
use Rattle.qcow2_types.specs.Switched.{with_size}
use Rattle.qcow2_types.proofs.Changes.Frames.{header-part}
use Rattle.qcow2_types.proofs.Changes.WriteBack.{place-near, place-whole}
use Rattle.qcow2_types.proofs.Counting.Consistent.{header-reading, meets-own, named-counted}
use Rattle.qcow2_types.proofs.Counting.Counters.{some-counters}
use Rattle.qcow2_types.proofs.Counting.Leaks.{count-beyond}
use Rattle.qcow2_types.proofs.Counting.Named.{structure-le-refs}
use Rattle.qcow2_types.proofs.Fields.HeaderLimits.{header-limited}
use Rattle.qcow2_metadata.specs.Tables.{TableValue, table_in}
use Rattle.qcow2_alloc.specs.declared.cache.CacheDependency.TheVariants.{Unset}
use Rattle.qcow2_alloc.specs.Allocators.{IsTablePlaced, table_of}
use Rattle.qcow2_alloc.specs.GuestView.{IsSound}
use Rattle.qcow2_alloc.specs.Going.{writing_causes}
use Rattle.qcow2_alloc.specs.Memory.{Cached}
use Rattle.qcow2_alloc.specs.Opening.{IsL1Of}
use Rattle.qcow2_alloc.proofs.Caching.EmptyCaches.{empty-safe}
use Rattle.qcow2_alloc.proofs.Causes.{storage-cause}
use Rattle.qcow2_alloc.proofs.Flushing.FaultlessCalls.{put-faultless}
use Rattle.qcow2_alloc.proofs.Growth.TableLoads.{table-of-file}
use Rattle.qcow2_alloc.proofs.GuestView.QuietEntries as quiet
use Rattle.qcow2_alloc.proofs.Memory.Patches.{shaped-in}
use Rattle.qcow2_steps.specs.Sizes.{KeepsAllButSize, rested}
use Rattle.qcow2_steps.specs.Values.{own_value}
use Rattle.qcow2_clusters.specs.Flushed.{AreEmpty}
use Rattle.qcow2_clusters.specs.Sizing.{SizesDisk}
use Rattle.qcow2_clusters.specs.declared.space.Space.{Space}
use Rattle.qcow2_image.specs.Allocating.{failed_by_resource_error}
use Rattle.qcow2_image.specs.ImageLayer.{blank_of, cells, meaning_of, qcow2_meaning}
use Rattle.qcow2_image.specs.Leaking.{KeepsLeaks, pending, reserved_in, waiting_in}
use Rattle.qcow2_image.specs.Resizing.{SizesImage}
use Rattle.qcow2_image.specs.Rooms.{HoldsIn, IsWellFormed, is_sound, rest_of, searched_from}
use Rattle.qcow2_image.specs.Seen.{IsCacheCoherent, IsOfFile, file_of, layer_of}
use Rattle.qcow2_image.specs.Unspent.{holding_in}
use Rattle.qcow2_image.specs.declared.qcow2.Qcow2.{Qcow2}
use Rattle.qcow2_image.specs.declared.tables.Tables.{Tables}
use Rattle.qcow2_image.proofs.DiskEffects.{cell-shown, cell_of, safe-sound, whole-below}
use Rattle.qcow2_image.proofs.SearchStart.{counted-still}
use Rattle.qcow2_image.proofs.Steps.{memory-is}

-- A consistent file has consistent free space, with the refcount table that it has and an empty free list.
module _ (f : Bytes) (H : Header) (consistent : IsConsistent f H) where
  limited : Limited H.fields
  limited = header-limited true f H consistent.readable.loads

  -- The header's cluster is counted, so the refcount table has entries.
  some-words : 0 < refcount_table_entries H.fields
  some-words = elim (cases_eq (refcount_table_entries H.fields) 0) [
    | inr some ↦ omega (arith, some)
    | inl none ↦
        let none-counted = count-beyond f H.fields 0 (some-counters H.fields (shaped-in f H consistent)) (rw none (omega arith)) in
        let part = header-part f H.fields (meets H.fields 0) in
        let start : 0 ≡ 0 * cluster_size H.fields = omega arith in
        let one : meets H.fields 0 0 (cluster_size H.fields) ≡ 1 = ap (λ n. meets H.fields 0 n (cluster_size H.fields)) start ∙ meets-own H.fields 0 in
        let le = structure-le-refs f H.fields 0 in
        let covers = named-counted f H consistent 0 in
        absurd (omega (arith, none-counted, part, one, le, covers))
  ]

  reftable-placed : IsTablePlaced H.fields
  reftable-placed = record {
    aligned =
        let whole = place-whole H.fields.cluster_bits H.fields.refcount_table_offset limited.refcount_place in
        omega (arith, div-add-mod H.fields.refcount_table_offset (cluster_size H.fields), whole);
    reach = place-near H.fields.cluster_bits H.fields.refcount_table_offset limited.refcount_place;
  }

  abbrev pub file_table : TableValue
  file_table = table_in f H.fields (H.fields.refcount_table_offset / cluster_size H.fields) (refcount_table_entries H.fields)

  pub file-sound : IsSound (rested f H (table_in f H.fields (H.fields.refcount_table_offset / cluster_size H.fields) (refcount_table_entries H.fields)) [])
  file-sound = quiet.safe-sound f H (record { tables = []; blocks = [] }) Unset file_table (empty-safe f H consistent)
      (table-of-file f H.fields reftable-placed some-words)

-- The cell of a byte inside the disk doesn't depend on the size.
pub inside-cell : (blank : Cell) (f : Bytes) (h : Fields) (p : ℕ) → p < h.size → cells blank f f h p ≡ cell_of blank (own_value f f h p)
inside-cell blank f h p inside = rw (lt-ltb p h.size inside) (cell-shown blank f h p (entry f h (p / cluster_size h)))

-- The free space of a well-formed image, or one that can be loaded from its file.
pub record SpaceAtRest (f : Bytes) (H : Header) : Type 0 where
  pub table : TableValue
  pub entries : List FreeEntry
  pub sound : IsSound (rested f H table entries)

space-of : {S : Type 0} (g : Ghosts S) (d : Qcow2 S g) → IsWellFormed g d → SpaceAtRest (file_of g d.tables) d.tables.file.header
space-of {S} g d well_formed = from d.tables.space refl where
  from : (o : Option Space) → d.tables.space ≡ o → SpaceAtRest (file_of g d.tables) d.tables.file.header
  from None is = record {
    table = file_table (file_of g d.tables) d.tables.file.header well_formed.consistent;
    entries = [];
    sound = file-sound (file_of g d.tables) d.tables.file.header well_formed.consistent;
  }
  from (Some space) is = record { table = table_of space.allocator; entries = space.to_free.entries; sound = safe-sound g d space is well_formed }

-- A file whose bytes inside both sizes read as the image's file does.
module _ {S : Type 0} (g : Ghosts S) (n : ℕ) (d : Qcow2 S g) (well_formed : IsWellFormed g d) (below : List Layer) where
  abbrev H : Header
  H = d.tables.file.header

  abbrev blank : Cell
  blank = blank_of d.mode.backing

  abbrev first : List ℕ
  first = (g.state d.tables.file.image).bytes

  means-as : (f : List ℕ) (K : Header) → IsConsistent (bytes_of f) K → qcow2_meaning blank f ≡ meaning_of blank (bytes_of f) (Ok K)
  means-as f K was = ap (meaning_of blank (bytes_of f)) (header-reading (bytes_of f) K was.readable.loads)

  shown-inside : (f : List ℕ) (K : Header) → IsConsistent (bytes_of f) K → (p : ℕ) → p < K.fields.size
      → shown below (qcow2_meaning blank) f p ≡ through (cell_of blank (own_value (bytes_of f) (bytes_of f) K.fields p)) (at below p)
  shown-inside f K was p inside =
      ap (λ (m : Meaning). if ltb p m.size then through (m.cell p) (at below p) else byte 0) (means-as f K was)
      ∙ rw (lt-ltb p K.fields.size inside)
      (ap (λ (c : Cell). through c (at below p)) (cell-shown blank (bytes_of f) K.fields p (entry (bytes_of f) K.fields (p / cluster_size K.fields))))

  size-left : (f : List ℕ) (K : Header) → IsConsistent (bytes_of f) K → min H.fields.size n ≤ K.fields.size → K.fields.size ≤ max H.fields.size n
      → is_some K.backing_name ≡ is_some H.backing_name
      → ((p : ℕ) → own_value (bytes_of f) (bytes_of f) K.fields p ≡ own_value (bytes_of first) (bytes_of first) H.fields p)
      → Left below (layer_of g d) first is_sound (min H.fields.size n) (max H.fields.size n) GivesNone f
  size-left f K was low high named values = record {
    is_sound = (K, was);
    backed = ap (λ (m : Meaning). m.backed) (means-as f K was) ∙ named ∙ sym (ap (λ (m : Meaning). m.backed) (means-as first H well_formed.consistent));
    size = let same = size-is in omega (arith, same, low);
    no_longer = λ exact. let same = size-is in omega (arith, same, high);
    shows = λ p inside in_disk. inl (shown-inside f K was p (let same = size-is in omega (arith, same, inside))
        ∙ ap (λ v. through (cell_of blank v) (at below p)) (values p) ∙ sym (shown-inside first H well_formed.consistent p in_disk));
  } where
    size-is : (qcow2_meaning blank f).size ≡ K.fields.size
    size-is = ap (λ (m : Meaning). m.size) (means-as f K was)

-- The header was written, with the size `n`.
module _ {S : Type 0} (g : Ghosts S) (n : ℕ) (old : Qcow2 S g) (mid : Tables S g) (free : old.unspent ≡ None) (empty : AreEmpty mid.caches)
    (space : mid.space ≡ old.tables.space) (l1 : mid.l1 ≡ old.tables.l1) where
  abbrev with_size_now : Result Unit Fault → Qcow2 S g
  with_size_now result = record old { tables = mid; failed = failed_by_resource_error result true old.failed }

  abbrev f : Bytes
  f = file_of g old.tables

  abbrev f' : Bytes
  f' = file_of g mid

  abbrev before : Header
  before = old.tables.file.header

  abbrev s : StorageState
  s = g.state old.tables.file.image

  abbrev Sized : Result Unit Fault → Type 0
  Sized result = SizesDisk g.state n old.tables.file result mid.file

  module _ (well_formed : IsWellFormed g old) (low : n ≤ 2 ^ 63 - 1) where
    abbrev was : SpaceAtRest (file_of g old.tables) old.tables.file.header
    was = space-of g old well_formed

    abbrev Kept : Bytes → Type 0
    Kept x = KeepsAllButSize (file_of g old.tables) old.tables.file.header n x (space-of g old well_formed).table (space-of g old well_formed).entries

    -- A crash image has one of the two sizes.
    stops : (result : Result Unit Fault) → Sized result → (below : List Layer)
        → UnrefusedCrashImages (Left below (layer_of g old) s.bytes is_sound (min before.fields.size n) (max before.fields.size n) GivesNone) s (g.state mid.file.image)
    stops result sizes below =
        passes_weaker (λ x. (x ≡ s.bytes) ⊎ Kept (bytes_of x)) (Left below (layer_of g old) s.bytes is_sound (min before.fields.size n) (max before.fields.size n) GivesNone) s (g.state mid.file.image)
        each (sizes.crash_images was.table was.entries low well_formed.keeps was.sound) where
          each : (x : List ℕ) → (x ≡ s.bytes) ⊎ Kept (bytes_of x)
              → Left below (layer_of g old) s.bytes is_sound (min before.fields.size n) (max before.fields.size n) GivesNone x
          each x (inl same) = subst (Left below (layer_of g old) s.bytes is_sound (min before.fields.size n) (max before.fields.size n) GivesNone) (sym same)
              (size-left g n old well_formed below s.bytes before well_formed.consistent (omega arith) (omega arith) refl (λ p. refl))
          each x (inr kept) = size-left g n old well_formed below x (with_size before n) kept.sound.well_formed.consistent (omega arith) (omega arith) refl kept.values

    module _ (sizes : SizesDisk g.state n old.tables.file (Ok tt) mid.file) where
      kept : Kept f'
      kept = sizes.sized was.table was.entries low well_formed.keeps was.sound

      consistent-now : IsConsistent f' mid.file.header
      consistent-now = subst (IsConsistent f') (sym sizes.ok) kept.sound.well_formed.consistent

      seen-now : IsCacheCoherent g mid
      seen-now = record {
        loads = header-reading f' mid.file.header consistent-now.readable.loads;
        inside = consistent-now.readable.data_inside;
        l1 = subst (IsL1Of f' mid.file.header.fields) (sym l1)
            (sizes.l1 was.table was.entries low well_formed.keeps was.sound old.tables.l1 well_formed.seen.l1);
        tables = subst (λ (c : Cached). AllByRecursion (IsOfFile f' mid.file.header.fields) c.tables) (sym empty) tt;
      }

      sound-now : IfSome mid.space (λ x. IsSound (rest_of g mid x))
      sound-now = subst (λ (o : Option Space). IfSome o (λ x. IsSound (rest_of g mid x))) (sym space) (each old.tables.space refl) where
        each : (o : Option Space) → old.tables.space ≡ o → IfSome o (λ x. IsSound (rest_of g mid x))
        each None is = tt
        each (Some x) is = subst (λ (K : Header). IsSound (rested f' K (table_of x.allocator) x.to_free.entries)) (sym sizes.ok)
            (sizes.sized (table_of x.allocator) x.to_free.entries low well_formed.keeps (safe-sound g old x is well_formed)).sound

      counts-same : (c : ℕ) → count f' mid.file.header.fields c ≡ count f before.fields c
      counts-same c = ap (λ (K : Header). count f' K.fields c) sizes.ok ∙ kept.counts c

      names-same : (c : ℕ) → refs f' mid.file.header.fields c ≡ refs f before.fields c
      names-same c = ap (λ (K : Header). refs f' K.fields c) sizes.ok ∙ kept.names c

      words-same : (guest : ℕ) → entry f' mid.file.header.fields guest ≡ entry f before.fields guest
      words-same guest = ap (λ (K : Header). entry f' K.fields guest) sizes.ok ∙ kept.raw_entries guest

      values-same : (p : ℕ) → own_value f' f' mid.file.header.fields p ≡ own_value f f before.fields p
      values-same p = ap (λ (K : Header). own_value f' f' K.fields p) sizes.ok ∙ kept.values p

      well-formed-now : IsWellFormed g (with_size_now (Ok tt))
      well-formed-now = record {
        runs = well_formed.runs;
        keeps = subst (λ (x : Shape). IsTrue x.keeps) (sym sizes.put.put.shape) well_formed.keeps;
        consistent = consistent-now;
        seen = seen-now;
        sound = sound-now;
        searched = counted-still g old.tables mid counts-same (ap searched_from space) well_formed.searched;
        held = subst (λ u. IfSome (holding_in g u) (HoldsIn g mid)) (sym free) tt;
        writable = well_formed.writable;
      }

      cells-same : (p : ℕ) → p < before.fields.size → p < n → (layer_of g (with_size_now (Ok tt))).cell p ≡ (layer_of g old).cell p
      cells-same p in_old in_new =
          let b = blank_of old.mode.backing in
          let size = ap (λ (K : Header). K.fields.size) sizes.ok in
          ap (λ (m : Bytes). cells b m f' mid.file.header.fields p) (memory-is g mid)
          ∙ inside-cell b f' mid.file.header.fields p (omega (arith, in_new, size))
          ∙ ap (cell_of b) (values-same p) ∙ sym (inside-cell b f before.fields p in_old)
          ∙ sym (ap (λ (m : Bytes). cells b m f before.fields p) (memory-is g old.tables))

      leaks-same : KeepsLeaks g old (with_size_now (Ok tt))
      leaks-same c =
          let counts = counts-same c in
          let names = names-same c in
          let more : pending g (with_size_now (Ok tt)) c ≡ pending g old c = ap (λ (o : Option Space). waiting_in o c + reserved_in (holding_in g old.unspent) c) space in
          omega (arith, counts, names, more)

  sizes-image : (result : Result Unit Fault) → SizesDisk g.state n old.tables.file result mid.file
      → SizesImage g n old result (record old { tables = mid; failed = failed_by_resource_error result true old.failed })
  sizes-image (Ok done) sizes = record {
    mode = refl;
    number = refl;
    unspent = refl;
    shape = sizes.put.put.shape;
    counts_not_fallen = sizes.put.put.counts_not_fallen;
    failed = refl;
    bits = ap (λ (K : Header). K.fields.cluster_bits) sizes.ok;
    version = ap (λ (K : Header). K.fields.version) sizes.ok;
    faults = λ whole. (sizes.put.put.answer.faults, sizes.put.put.answer.refusals);
    header = sizes.ok;
    size = ap (λ (K : Header). K.fields.size) sizes.ok;
    unsized = tt;
    crash_images = λ well_formed low below. stops well_formed low (Ok done) sizes below;
    well_formed = λ well_formed low. well-formed-now well_formed low sizes;
    cells = λ well_formed low. cells-same well_formed low sizes;
    raw_entries = λ well_formed low. words-same well_formed low sizes;
    values = λ well_formed low. values-same well_formed low sizes;
    leaks = λ well_formed low. leaks-same well_formed low sizes;
    cause = tt;
  }
  sizes-image (Err fault) sizes = record {
    mode = refl;
    number = refl;
    unspent = refl;
    shape = sizes.put.put.shape;
    counts_not_fallen = sizes.put.put.counts_not_fallen;
    failed = refl;
    bits = ap (λ (K : Header). K.fields.cluster_bits) sizes.err;
    version = ap (λ (K : Header). K.fields.version) sizes.err;
    faults = λ whole. put-faultless s (g.state mid.file.image) 0 _ (Err fault) sizes.put.put (whole-below {T = Unit} (Err fault) whole);
    header = tt;
    size = tt;
    unsized = ap (λ (K : Header). K.fields.size) sizes.err;
    crash_images = λ well_formed low below. stops well_formed low (Err fault) sizes below;
    well_formed = λ well_formed low. tt;
    cells = λ well_formed low. tt;
    raw_entries = λ well_formed low. tt;
    values = λ well_formed low. tt;
    leaks = λ well_formed low. tt;
    cause = storage-cause s.faults (g.state mid.file.image).faults (writing_causes ⊤ s.faults (g.state mid.file.image).faults) (omega arith) (omega arith)
        fault sizes.put.put.answer.cause;
  }

-- The image after the call: a resource error sets it to failed.
pub sizes-marked : {S : Type 0} (g : Ghosts S) (n : ℕ) (old new : Qcow2 S g) (mid : Tables S g) (answer result : Result Unit Fault) → answer ≡ result
    → new ≡ record old { tables = mid; failed = failed_by_resource_error result true old.failed } → old.unspent ≡ None → AreEmpty mid.caches
    → mid.space ≡ old.tables.space → mid.l1 ≡ old.tables.l1 → SizesDisk g.state n old.tables.file result mid.file → SizesImage g n old answer new
sizes-marked {S} g n old new mid answer result same marks free empty space l1 sizes =
    subst (λ (r : Result Unit Fault). SizesImage g n old r new) (sym same)
    (subst (λ (d : Qcow2 S g). SizesImage g n old result d) (sym marks) (sizes-image g n old mid free empty space l1 result sizes))

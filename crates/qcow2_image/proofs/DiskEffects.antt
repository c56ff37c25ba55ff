-- Lemmas on calls that change the file of an image: which bytes of the disk keep their value, and which get a new one.
use Rattle.std.proofs.Common.{◌≡◌, ℕ, ◌+◌, ◌-◌, ◌/◌, ◌%◌, ◌^◌, ◌<◌, ◌≤◌, refl, arith, ap, sym, subst, ◌∙◌, inl, inr, Bool, true, false, List, [], ◌∷◌, Option, Some, None, Result, Ok, Err}
use Rattle.std.proofs.Math.Nat.{le_refl}
use Rattle.std.proofs.Math.Path.{fun_ext}
use Rattle.std.proofs.lemmas.Bool.{cases_Bool, cases_eq, cases_lt}
use Rattle.std.proofs.lemmas.Nat.{div-mul-add, mod_below, pow_pos}
use Rattle.std.specs.Prelude.{◌⊎◌, IsTrue, IsSome, IfSome, is_some, ltb, ◌&&◌, if◌then◌else◌}
use Rattle.std.specs.List.{AllByRecursion}
use Rattle.imago_storage.specs.State.{HasRisen, Shape, StorageState}
use Rattle.imago_storage.specs.Calls.{UnchangedButFaults, CountsNotFallen, IsFaultless}
use Rattle.imago_storage.specs.Disk.{Value, byte}
use Rattle.imago_storage.specs.Passing.{UnrefusedCrashImages}
use Rattle.imago_storage.specs.declared.fault.Fault.{Fault}
use Rattle.imago_storage.specs.declared.fault.Fault.TheVariants.{DamagedTable, Limit, Memory, Storage}
use Rattle.imago_storage.specs.declared.storage.Storage.{Ghosts}
use Rattle.imago_storage.proofs.Composing.{later_both}
use Rattle.imago_access.specs.Chain.{at}
use Rattle.imago_access.specs.Files.{HadNoResourceError}
use Rattle.imago_access.specs.Layer.{Cell, Layer, Meaning, own, through}
use Rattle.imago_access.specs.Stops.{GivesNone, Left, May, shown}
use Rattle.imago_access.proofs.Stopping.{passes_none, passes_weaker, then_left}
use Rattle.qcow2_types.specs.Bytes.{Bytes, bytes_of}
use Rattle.qcow2_types.specs.Header.{Fields, Header, cluster_size, layout_of, refcount_table_entries, entries_of_cluster}
use Rattle.qcow2_types.specs.Pending.{FreeEntry}
use Rattle.qcow2_types.specs.Words.{Mapping, data_at, zeroes, packed, damaged, max_offset}
use Rattle.qcow2_types.specs.Words as mappings
use Rattle.qcow2_types.specs.Entries.{entry, l2_table}
use Rattle.qcow2_types.specs.Consistency.{IsConsistent}
use Rattle.qcow2_types.proofs.Counting.Consistent.{header-reading}
use Rattle.qcow2_metadata.specs.Tables.{WhyNotLoaded, refcount_table_kind, raw_entries_in}
use Rattle.qcow2_alloc.specs.declared.allocation.Allocator.{Allocator}
use Rattle.qcow2_alloc.specs.Allocators.{IsTablePlaced, LoadsAllocator, first_free_of}
use Rattle.qcow2_alloc.specs.Going as going
use Rattle.qcow2_alloc.specs.Memory.{Cached}
use Rattle.qcow2_alloc.specs.Opening.{IsL1Of}
use Rattle.qcow2_alloc.specs.GuestView.{IsSound, IsUsed, Metadata, in_memory}
use Rattle.qcow2_alloc.specs.Freeing.{NoneFreeBefore}
use Rattle.qcow2_alloc.proofs.Growth.TableLoads.{opened-sound}
use Rattle.qcow2_alloc.proofs.Memory.SafeLaws.{clean-memory}
use Rattle.qcow2_steps.specs.Advancing.{Advances, KeepsHeader, MayBeCrashImage}
use Rattle.qcow2_steps.specs.Values.{memory_value, own_value, own_value_by}
use Rattle.qcow2_steps.proofs.StepSums.{reserved-still}
use Rattle.qcow2_steps.proofs.InvisibleClusters.{kept-used}
use Rattle.qcow2_clusters.specs.Linking.{IsUnder}
use Rattle.qcow2_clusters.specs.Progress.{Kind, Progresses}
use Rattle.qcow2_clusters.specs.Flushed.{AreEmpty, nothing_cached}
use Rattle.qcow2_clusters.specs.declared.space.Space.{Space}
use Rattle.qcow2_image.specs.HeldHomes.{clusters-from}
use Rattle.qcow2_image.specs.Holding.{PreparedMappingRun, IsHeld, IsOwnAs, IsUncopied, mapping_id_held, held_of, held_place, held_with, writable_locations_with, in_clusters}
use Rattle.qcow2_image.specs.ImageLayer.{blank_of, cell_by, cells, writable_location_by, writable_locations, meaning_of, qcow2_fixed}
use Rattle.qcow2_image.specs.KeepsDisk.{HasSameFormat, KeepsDisk, KeepsDiskWhere}
use Rattle.qcow2_image.specs.Rooms.{HoldsIn, IsWellFormed, is_sound, rest_of, searched_from}
use Rattle.qcow2_image.specs.Seen.{IsOfFile, IsCacheCoherent, file_of, layer_of, memory_of}
use Rattle.qcow2_image.specs.Steps.{KeepsImage}
use Rattle.qcow2_image.specs.Unspent.{holding_in}
use Rattle.qcow2_image.specs.declared.mode.OpenMode.{OpenMode}
use Rattle.qcow2_image.specs.declared.qcow2.Qcow2.{Qcow2}
use Rattle.qcow2_image.specs.declared.tables.Tables.{Tables}
use Rattle.qcow2_image.proofs.RequestsWithoutChanges.{seen-same}
use Rattle.qcow2_image.proofs.Steps.{layer-by, memory-is, still-marked, unmarked}
use Rattle.qcow2_image.proofs.SearchStart.{counted-at-rest, counted-first, counted-in-file, counted-same}

-- A header that references other tables has the same format.
pub format-moved : (H K : Header) → KeepsHeader H K → HasSameFormat H K
format-moved H K (l1, entries, table, clusters, is) = record {
  cluster_bits = ap (λ (L : Header). L.fields.cluster_bits) is;
  refcount_order = ap (λ (L : Header). L.fields.refcount_order) is;
  backing_name = ap (λ (L : Header). L.backing_name) is;
  backing_format = ap (λ (L : Header). L.backing_format) is;
}

-- Two changes in sequence keep the format.
pub format-both : (H K L : Header) → HasSameFormat H K → HasSameFormat K L → HasSameFormat H L
format-both H K L one two = record {
  cluster_bits = two.cluster_bits ∙ one.cluster_bits;
  refcount_order = two.refcount_order ∙ one.refcount_order;
  backing_name = two.backing_name ∙ one.backing_name;
  backing_format = two.backing_format ∙ one.backing_format;
}

pub format-same : (H K : Header) → K ≡ H → HasSameFormat H K
format-same H K same = record {
  cluster_bits = ap (λ (L : Header). L.fields.cluster_bits) same;
  refcount_order = ap (λ (L : Header). L.fields.refcount_order) same;
  backing_name = ap (λ (L : Header). L.backing_name) same;
  backing_format = ap (λ (L : Header). L.backing_format) same;
}

-- The crates below and the driver have the same resource errors.
pub whole-below : {T : Type 0} (r : Result T Fault) → HadNoResourceError r → going.HadNoResourceError r
whole-below (Ok v) whole = tt
whole-below (Err Memory) whole = absurd whole
whole-below (Err Storage) whole = absurd whole
whole-below (Err fault) whole = tt

pub whole-above : {T : Type 0} (r : Result T Fault) → going.HadNoResourceError r → HadNoResourceError r
whole-above (Ok v) whole = tt
whole-above (Err Memory) whole = absurd whole
whole-above (Err Storage) whole = absurd whole
whole-above (Err fault) whole = tt

-- The cell of a byte, by the value that its entry and its file give.
abbrev pub cell_of : Cell → Option Value → Cell
cell_of blank None = blank
cell_of blank (Some v) = own v

pub cell-shown : (blank : Cell) (f : Bytes) (h : Fields) (p : ℕ) (w : Mapping) → cell_by blank f h p w ≡ cell_of blank (own_value_by f h p w)
cell-shown blank f h p (data_at c copied) = refl
cell-shown blank f h p (zeroes c copied) = refl
cell-shown blank f h p (packed offset n) = refl
cell-shown blank f h p mappings.unmapped = refl
cell-shown blank f h p damaged = refl

pub home-bits : (h h' : Fields) (p : ℕ) (w : Mapping) → h'.cluster_bits ≡ h.cluster_bits → writable_location_by h' p w ≡ writable_location_by h p w
home-bits h h' p (data_at c true) bits = rw bits refl
home-bits h h' p (data_at c false) bits = refl
home-bits h h' p (zeroes c copied) bits = refl
home-bits h h' p (packed offset n) bits = refl
home-bits h h' p mappings.unmapped bits = refl
home-bits h h' p damaged bits = refl

-- Nothing is cached of a flushed image.
pub rest-memory : {S : Type 0} (g : Ghosts S) (t : Tables S g) (space : Space) → in_memory (rest_of g t space) ≡ file_of g t
rest-memory g t space = clean-memory (file_of g t) t.file.header.fields nothing_cached tt tt

pub rest-value : {S : Type 0} (g : Ghosts S) (t : Tables S g) (space : Space) (p : ℕ)
    → memory_value (rest_of g t space) p ≡ own_value (file_of g t) (file_of g t) t.file.header.fields p
rest-value g t space p = ap (λ b. own_value b (file_of g t) t.file.header.fields p) (rest-memory g t space)

pub safe-sound : {S : Type 0} (g : Ghosts S) (d : Qcow2 S g) (space : Space) → d.tables.space ≡ Some space → IsWellFormed g d → IsSound (rest_of g d.tables space)
safe-sound g d space there well_formed = subst (λ o. IfSome o (λ x. IsSound (rest_of g d.tables x))) there well_formed.sound

-- A crash image in a call on a well-formed image reads as the disk did, or as the call makes it read.
module _ {S : Type 0} (g : Ghosts S) (d : Qcow2 S g) (space : Space) (well_formed : IsWellFormed g d) (below : List Layer) where
  abbrev H : Header
  H = d.tables.file.header

  abbrev blank : Cell
  blank = blank_of d.mode.backing

  abbrev first : List ℕ
  first = (g.state d.tables.file.image).bytes

  -- The value of a byte with this content.
  abbrev pub seen_as : ℕ → Option Value → Value
  seen_as p v = if ltb p H.fields.size then through (cell_of blank v) (at below p) else byte 0

  value-shown : (f : List ℕ) (K : Header) → IsConsistent (bytes_of f) K → K.fields.size ≡ H.fields.size → (p : ℕ)
      → shown below (layer_of g d).fixed.means f p ≡ seen_as p (own_value (bytes_of f) (bytes_of f) K.fields p)
  value-shown f K was size p =
      ap (λ (m : Meaning). if ltb p m.size then through (m.cell p) (at below p) else byte 0)
      (ap (meaning_of blank (bytes_of f)) (header-reading (bytes_of f) K was.readable.loads))
      ∙ by-size (ltb p K.fields.size) (ltb p H.fields.size) (ap (ltb p) size)
      (cell-shown blank (bytes_of f) K.fields p (entry (bytes_of f) K.fields (p / cluster_size K.fields))) where
        by-size : (a b : Bool) → a ≡ b → {c c' : Cell} → c ≡ c'
            → (if a then through (if a then c else own (byte 0)) (at below p) else byte 0) ≡ (if b then through c' (at below p) else byte 0)
        by-size true true is same = ap (λ c. through c (at below p)) same
        by-size false false is same = refl
        by-size true false is same = absurd (cc is)
        by-size false true is same = absurd (cc is)

  pub may-left : (gives : ℕ → Option Value → Type 0) (given : ℕ → Value → Type 0)
      → ((p : ℕ) (v : Option Value) → p < H.fields.size → gives p v → May below (layer_of g d) first given p (seen_as p v))
      → (f : List ℕ) → (K : Header) × MayBeCrashImage gives (rest_of g d.tables space) (bytes_of f) K
      → Left below (layer_of g d) first is_sound H.fields.size H.fields.size given f
  may-left gives given shows f left = record {
    is_sound = (left.0, left.1.consistent);
    backed = ap (λ (m : Meaning). m.backed) means ∙ ap (λ (K : Header). is_some K.backing_name) left.1.header.4 ∙ sym (ap (λ (m : Meaning). m.backed) first-means);
    size = omega (arith, same-size, ap (λ (m : Meaning). m.size) means);
    no_longer = λ exact. omega (arith, same-size, ap (λ (m : Meaning). m.size) means);
    shows = λ p inside low. subst (May below (layer_of g d) first given p) (sym (value-shown f left.0 left.1.consistent same-size p)) (each p low);
  } where
    same-size : left.0.fields.size ≡ H.fields.size
    same-size = ap (λ (K : Header). K.fields.size) left.1.header.4

    means : (layer_of g d).fixed.means f ≡ meaning_of blank (bytes_of f) (Ok left.0)
    means = ap (meaning_of blank (bytes_of f)) (header-reading (bytes_of f) left.0 left.1.consistent.readable.loads)

    first-means : (layer_of g d).fixed.means first ≡ meaning_of blank (bytes_of first) (Ok H)
    first-means = ap (meaning_of blank (bytes_of first)) (header-reading (bytes_of first) H well_formed.consistent.readable.loads)

    as-was : (p : ℕ) (v : Option Value) → v ≡ own_value (bytes_of first) (bytes_of first) H.fields p
        → May below (layer_of g d) first given p (seen_as p v)
    as-was p v is = inl (ap (seen_as p) is ∙ sym (value-shown first H well_formed.consistent refl p))

    each : (p : ℕ) → p < H.fields.size → May below (layer_of g d) first given p (seen_as p (own_value (bytes_of f) (bytes_of f) left.0.fields p))
    each p low = elim (left.1.shows p) [
      | inl file ↦ as-was p _ file
      | inr rest ↦ elim rest [
        | inl memory ↦ as-was p _ (memory ∙ rest-value g d.tables space p)
        | inr gave ↦ shows p _ low gave
      ]
    ]

if-some : {A : Type 0} (o : Option A) (P Q : A → Type 0) → ((a : A) → P a → Q a) → IfSome o P → IfSome o Q
if-some None P Q each holds = tt
if-some (Some a) P Q each holds = each a holds

if-both : {A : Type 0} (o : Option A) (P Q R : A → Type 0) → ((a : A) → P a → Q a → R a) → IfSome o P → IfSome o Q → IfSome o R
if-both None P Q R each p q = tt
if-both (Some a) P Q R each p q = each a p q

-- The host cluster of a guest cluster of the mapping is in use.
own-used : (is_kept : Bool) (m : Metadata) (guest host : ℕ) → IsSound m → IsOwnAs is_kept m guest host → IsUsed m host
own-used true m guest host sound mine = kept-used m guest host sound mine
own-used false m guest host sound mine = mine.used

-- A change of this kind keeps what a mapping holds. It takes none of its clusters, writes nothing, and keeps a slot. The length of the L1
-- table and the offsets of L2 tables are the same.
pub record LeavesUntouched {S : Type 0} (g : Ghosts S) (ok : Type 0) (kind : Kind) (old new : Qcow2 S g) (space space' : Space) (hold : PreparedMappingRun) : Type 0 where
  pub left_untouched : (d : ℕ) → d < hold.count → kind.taken (hold.host + d) ≡ 0
  pub unwritten : (q : ℕ) → kind.written q → ⊥
  pub room : 0 < space.to_free.held → 0 < space'.to_free.held
  pub entries : new.tables.file.header.fields.l1_entries ≡ old.tables.file.header.fields.l1_entries
  pub tables : IsWellFormed g old → ok → (i : ℕ)
      → l2_table (file_of g new.tables) new.tables.file.header.fields i ≡ l2_table (file_of g old.tables) old.tables.file.header.fields i

-- A change of clusters without effect on the disk has turned `old` into `new`. The free space was loaded, and `old` was well-formed if
-- `sure` holds.
pub record Advanced {S : Type 0} (g : Ghosts S) (sure ok : Type 0) (kind : Kind) (old new : Qcow2 S g) : Type 0 where
  pub well_formed : sure → IsWellFormed g old
  pub none : (p : ℕ) (v : Option Value) → kind.gives p v → ⊥
  pub unset : (guest : ℕ) → kind.set guest → ⊥
  pub space : Space
  pub space' : Space
  pub there : old.tables.space ≡ Some space
  pub there' : new.tables.space ≡ Some space'
  pub mode : new.mode ≡ old.mode
  pub number : new.number ≡ old.number
  pub unspent : new.unspent ≡ old.unspent
  pub untouched_unless_begun : IfSome (holding_in g old.unspent) (LeavesUntouched g ok kind old new space space')
  pub shape : (g.state new.tables.file.image).shape ≡ (g.state old.tables.file.image).shape
  pub counts_not_fallen : CountsNotFallen (g.state old.tables.file.image) (g.state new.tables.file.image)
  pub header : KeepsHeader old.tables.file.header new.tables.file.header
  pub failed : IsTrue old.failed → IsTrue new.failed
  pub whole : ok → new.failed ≡ old.failed
  pub faults : ok → IsFaultless (g.state old.tables.file.image) (g.state new.tables.file.image)
  pub empty : AreEmpty new.tables.caches
  pub l1 : sure → ok → IsL1Of (file_of g new.tables) new.tables.file.header.fields new.tables.l1
  pub marked : sure → ok → NoneFreeBefore (rest_of g old.tables space) (first_free_of space.allocator)
      → NoneFreeBefore (rest_of g new.tables space') (first_free_of space'.allocator)
  pub progress : sure → Progresses ok kind (g.state old.tables.file.image) (rest_of g old.tables space)
      (g.state new.tables.file.image) (rest_of g new.tables space')

module _ {S : Type 0} (g : Ghosts S) (sure ok : Type 0) (kind : Kind) (old new : Qcow2 S g) (a : Advanced g sure ok kind old new) where
  abbrev f : Bytes
  f = file_of g old.tables

  abbrev f' : Bytes
  f' = file_of g new.tables

  abbrev h : Fields
  h = old.tables.file.header.fields

  abbrev h' : Fields
  h' = new.tables.file.header.fields

  size-same : h'.size ≡ h.size
  size-same = ap (λ (K : Header). K.fields.size) a.header.4

  bits-same : h'.cluster_bits ≡ h.cluster_bits
  bits-same = ap (λ (K : Header). K.fields.cluster_bits) a.header.4

  module _ (known : sure) (whole : ok) where
    well_formed : IsWellFormed g old
    well_formed = a.well_formed known

    sound-before : IsSound (rest_of g old.tables a.space)
    sound-before = safe-sound g old a.space a.there well_formed

    advances : Advances kind.gives kind.written kind.set kind.excess_added kind.taken (rest_of g old.tables a.space) (rest_of g new.tables a.space')
    advances = (a.progress known).holds well_formed.keeps sound-before whole

    consistent-now : IsConsistent f' new.tables.file.header
    consistent-now = advances.sound.well_formed.consistent

    seen-now : IsCacheCoherent g new.tables
    seen-now = record {
      loads = header-reading f' new.tables.file.header consistent-now.readable.loads;
      inside = consistent-now.readable.data_inside;
      l1 = a.l1 known whole;
      tables = subst (λ (c : Cached). AllByRecursion (IsOfFile f' h') c.tables) (sym a.empty) tt;
    }

    words-same : (guest : ℕ) → entry f' h' guest ≡ entry f h guest
    words-same guest =
        let one = ap (λ b. entry b h' guest) (rest-memory g new.tables a.space') in
        let two = ap (λ b. entry b h guest) (rest-memory g old.tables a.space) in
        elim (advances.raw_entries guest) [
          | inl same ↦ sym one ∙ same ∙ two
          | inr set ↦ absurd (a.unset guest set)
        ]

    -- The mapping is still held: its clusters, its table and its bytes are the same.
    module _ (hold : PreparedMappingRun) (holds : HoldsIn g old.tables hold) (untouched_unless_begun : LeavesUntouched g ok kind old new a.space a.space' hold) where
      space-is : holds.space ≡ a.space
      space-is = let e : Some holds.space ≡ Some a.space = sym holds.space_known ∙ a.there in cc e

      was : IsHeld (rest_of g old.tables a.space) hold
      was = subst (λ x. IsHeld (rest_of g old.tables x) hold) space-is holds.held

      used : (d : ℕ) → d < hold.count → IsUsed (rest_of g old.tables a.space) (hold.host + d)
      used d less = own-used hold.is_kept (rest_of g old.tables a.space) (hold.guest + d) (hold.host + d) sound-before (was.own d less)

      byte-held : (p : ℕ) → in_clusters h hold p ≡ true → f' (held_place h hold p) ≡ f (held_place h hold p)
      byte-held p inside =
          let c : ℕ = cluster_size h in
          let guest = (clusters-from h hold p inside).0 in
          let d : ℕ = p / c - hold.guest in
          let less : d < hold.count = omega (arith, guest.0, guest.1) in
          let there : held_place h hold p / c ≡ hold.host + d =
          div-mul-add (hold.host + d) c (p % c) (mod_below p c (pow_pos h.cluster_bits)) in
          elim (advances.used_bytes_unchanged (held_place h hold p) (subst (IsUsed (rest_of g old.tables a.space)) (sym there) (used d less))
          (ap kind.taken there ∙ untouched_unless_begun.left_untouched d less)) [
            | inl written ↦ absurd (untouched_unless_begun.unwritten _ written)
            | inr same ↦ same
          ]

      under-still : (d : ℕ) → d < hold.count → IsUnder (rest_of g new.tables a.space') hold.table (hold.guest + d)
      under-still d less = record {
        inside = rw (bits-same, untouched_unless_begun.entries) (was.in_table d less).inside;
        table_linked = rw bits-same (untouched_unless_begun.tables well_formed whole ((hold.guest + d) / entries_of_cluster h) ∙ (was.in_table d less).table_linked);
        table_nonzero = (was.in_table d less).table_nonzero;
      }

      own-still : (is_kept : Bool) (d : ℕ) → d < hold.count → IsOwnAs is_kept (rest_of g old.tables a.space) (hold.guest + d) (hold.host + d)
          → IsOwnAs is_kept (rest_of g new.tables a.space') (hold.guest + d) (hold.host + d)
      own-still true d less mine = record {
        file = words-same (hold.guest + d) ∙ mine.file;
        memory = ap (λ b. entry b h' (hold.guest + d)) (rest-memory g new.tables a.space') ∙ words-same (hold.guest + d) ∙ mine.file;
      }
      own-still false d less mine =
          reserved-still kind.gives kind.written kind.set kind.excess_added kind.taken (rest_of g old.tables a.space) (rest_of g new.tables a.space') advances
          (hold.host + d) mine (untouched_unless_begun.left_untouched d less)

      held-still : HoldsIn g new.tables hold
      held-still = record {
        space = a.space';
        space_known = a.there';
        held = record {
          any = was.any;
          row = rw bits-same was.row;
          in_table = under-still;
          own = λ d less. own-still hold.is_kept d less (was.own d less);
          uncopied = λ d less. subst IsUncopied (sym (words-same (hold.guest + d))) (was.uncopied d less);
          host_nonzero = was.host_nonzero;
          reach = rw bits-same was.reach;
          placed = rw bits-same was.placed;
          long = was.long;
          first = rw bits-same was.first;
          last = rw bits-same was.last;
          on_disk = rw size-same was.on_disk;
          unwritten_is_copied = rw (bits-same, size-same) (λ p inside unwritten. byte-held p inside ∙ was.unwritten_is_copied p inside unwritten);
          beside = rw (bits-same, size-same) was.beside;
        };
        room = λ none. untouched_unless_begun.room (subst (λ (x : Space). 0 < x.to_free.held) space-is (holds.room none));
      }

    safe-now : IsWellFormed g new
    safe-now = record {
      runs = a.whole whole ∙ well_formed.runs;
      keeps = subst (λ (x : Shape). IsTrue x.keeps) (sym a.shape) well_formed.keeps;
      consistent = consistent-now;
      seen = seen-now;
      sound = subst (λ o. IfSome o (λ x. IsSound (rest_of g new.tables x))) (sym a.there') advances.sound;
      searched = counted-in-file g new.tables a.space' a.there'
          (a.marked known whole (counted-at-rest g old.tables a.space a.there well_formed.searched));
      held = subst (λ u. IfSome (holding_in g u) (HoldsIn g new.tables)) (sym a.unspent)
          (if-both (holding_in g old.unspent) (HoldsIn g old.tables) (LeavesUntouched g ok kind old new a.space a.space') (HoldsIn g new.tables)
          held-still well_formed.held a.untouched_unless_begun);
      writable = λ some. subst IsTrue (sym (ap (λ (m : OpenMode). m.writable) a.mode)) (well_formed.writable (subst IsSome a.unspent some));
    }

    value-same : (p : ℕ) → own_value f' f' h' p ≡ own_value f f h p
    value-same p = elim (advances.memory p) [
      | inl same ↦ sym (rest-value g new.tables a.space' p) ∙ same ∙ rest-value g old.tables a.space p
      | inr gave ↦ absurd (a.none p _ gave)
    ]

    cell-same : (blank : Cell) (p : ℕ) → cells blank (memory_of g new.tables) f' h' p ≡ cells blank (memory_of g old.tables) f h p
    cell-same blank p =
        let shown-by = cell-shown blank f' h' p (entry f' h' (p / cluster_size h')) in
        let shown-by' = cell-shown blank f h p (entry f h (p / cluster_size h)) in
        let same = shown-by ∙ ap (cell_of blank) (value-same p) ∙ sym shown-by' in
        ap (λ b. cells blank b f' h' p) (memory-is g new.tables)
        ∙ (λ i. if ltb p (size-same i) then same i else own (byte 0))
        ∙ sym (ap (λ b. cells blank b f h p) (memory-is g old.tables))

    home-same : (p : ℕ) → writable_locations new.mode.writable (memory_of g new.tables) h' p ≡ writable_locations old.mode.writable (memory_of g old.tables) h p
    home-same p =
        let guest = ap (λ b. entry f' h' (p / 2 ^ b)) bits-same ∙ words-same (p / cluster_size h) in
        let same = ap (writable_location_by h' p) guest ∙ home-bits h h' p (entry f h (p / cluster_size h)) bits-same in
        ap (λ b. writable_locations new.mode.writable b h' p) (memory-is g new.tables)
        ∙ (λ i. if (a.mode i).writable && ltb p (size-same i) then same i else None)
        ∙ sym (ap (λ b. writable_locations old.mode.writable b h p) (memory-is g old.tables))

    fixed-same : (layer_of g new).fixed ≡ (layer_of g old).fixed
    fixed-same =
        ap (λ (K : Header). qcow2_fixed (g.state new.tables.file.image).shape K.fields new.mode new.number) a.header.4
        ∙ (λ i. qcow2_fixed (a.shape i) h (a.mode i) (a.number i))

    homes-same : (layer_of g new).writable_location ≡ (layer_of g old).writable_location
    homes-same = λ i. writable_locations_with (holding_in g (a.unspent i)) (fun_ext home-same i)

    -- The state of each byte of the mapping is the same.
    held-of-same : (hold : PreparedMappingRun) (p : ℕ) → HoldsIn g old.tables hold → LeavesUntouched g ok kind old new a.space a.space' hold
        → held_of h' f' hold p ≡ held_of h f hold p
    held-of-same hold p holds untouched_unless_begun = rw (bits-same, size-same) (elim (cases_Bool (in_clusters h hold p)) [
      | inl inside ↦ rw inside (rw (byte-held hold holds untouched_unless_begun p inside) refl)
      | inr out ↦ rw out refl
    ])

    held-same : (layer_of g new).held ≡ (layer_of g old).held
    held-same = fun_ext (λ p.
        ap (λ u. held_with h' f' (holding_in g u) p) a.unspent ∙ from (holding_in g old.unspent) well_formed.held a.untouched_unless_begun p) where
          from : (o : Option PreparedMappingRun) → IfSome o (HoldsIn g old.tables) → IfSome o (LeavesUntouched g ok kind old new a.space a.space') → (p : ℕ)
              → held_with h' f' o p ≡ held_with h f o p
          from None holds untouched_unless_begun p = refl
          from (Some hold) holds untouched_unless_begun p = held-of-same hold p holds untouched_unless_begun

    cells-same : (layer_of g new).cell ≡ (layer_of g old).cell
    cells-same = fun_ext (λ p.
        ap (λ (m : OpenMode). cells (blank_of m.backing) (memory_of g new.tables) f' h' p) a.mode ∙ cell-same (blank_of old.mode.backing) p)

    layer-same : layer_of g new ≡ layer_of g old
    layer-same = λ i. record {
      fixed = fixed-same i;
      size = size-same i;
      failed = a.whole whole i;
      cell = cells-same i;
      writable_location = homes-same i;
      held = held-same i;
      unspent = mapping_id_held (holding_in g (a.unspent i));
    }

  pub progress-keeps : KeepsDiskWhere g sure ok old new
  progress-keeps = record {
    mode = a.mode;
    number = a.number;
    unspent = a.unspent;
    shape = a.shape;
    counts_not_fallen = a.counts_not_fallen;
    failed = a.failed;
    size = size-same;
    bits = bits-same;
    version = ap (λ (K : Header). K.fields.version) a.header.4;
    format = format-moved old.tables.file.header new.tables.file.header a.header;
    faults = a.faults;
    crash_images = λ known below.
        let s = g.state old.tables.file.image in
        let well_formed = a.well_formed known in
        let left = may-left g old a.space well_formed below kind.gives GivesNone (λ p v low gave. absurd (a.none p v gave)) in
        passes_weaker (λ x. (K : Header) × MayBeCrashImage kind.gives (rest_of g old.tables a.space) (bytes_of x) K)
        (Left below (layer_of g old) s.bytes is_sound h.size h.size GivesNone) s (g.state new.tables.file.image) left
        ((a.progress known).passes well_formed.keeps (safe-sound g old a.space a.there well_formed));
    safely = safe-now;
    layer = layer-same;
    raw_entries = words-same;
    values = value-same;
  }

-- Two such calls one after another. The second one needs that the first had no resource error.
module _ {S : Type 0} (g : Ghosts S) (sure first-sure second-sure first-ok ok : Type 0) (a b c : Qcow2 S g) (done : first-ok)
    (one : sure → first-sure) (two : sure → second-sure) (first : KeepsDiskWhere g first-sure first-ok a b)
    (second : KeepsDiskWhere g second-sure ok b c) where
  abbrev s : StorageState
  s = g.state a.tables.file.image

  abbrev t : StorageState
  t = g.state b.tables.file.image

  abbrev u : StorageState
  u = g.state c.tables.file.image

  both-stops : sure → (below : List Layer) → UnrefusedCrashImages (Left below (layer_of g a) s.bytes is_sound (layer_of g a).size (layer_of g a).size GivesNone) s u
  both-stops known below =
      let same = first.layer (one known) done in
      let size : (layer_of g b).size ≡ (layer_of g a).size = ap (λ (l : Layer). l.size) same in
      let behind = second.crash_images (two known) below in
      then_left below is_sound (layer_of g a) (layer_of g b) (layer_of g a).size (layer_of g a).size GivesNone GivesNone s t u
      (first.shape, first.counts_not_fallen) (second.shape, second.counts_not_fallen) (ap (λ (l : Layer). l.fixed) same) size
      (omega arith) (omega arith) (λ p low. inr (inl (ap (λ (l : Layer). at (l ∷ below) p) same)))
      (λ p v low gave. absurd gave) (first.crash_images (one known) below)
      (subst (λ n. UnrefusedCrashImages (Left below (layer_of g b) t.bytes is_sound n n GivesNone) t u) size behind)

  pub keeps-disk-then : KeepsDiskWhere g sure ok a c
  keeps-disk-then = record {
    mode = second.mode ∙ first.mode;
    number = second.number ∙ first.number;
    unspent = second.unspent ∙ first.unspent;
    shape = second.shape ∙ first.shape;
    counts_not_fallen = later_both s t u first.counts_not_fallen second.counts_not_fallen;
    failed = λ was. second.failed (first.failed was);
    size = second.size ∙ first.size;
    bits = second.bits ∙ first.bits;
    version = second.version ∙ first.version;
    format = format-both a.tables.file.header b.tables.file.header c.tables.file.header first.format second.format;
    faults = λ whole. ((second.faults whole).0 ∙ (first.faults done).0, (second.faults whole).1 ∙ (first.faults done).1);
    crash_images = both-stops;
    safely = λ known whole. second.safely (two known) whole;
    layer = λ known whole. second.layer (two known) whole ∙ first.layer (one known) done;
    raw_entries = λ known whole guest. second.raw_entries (two known) whole guest ∙ first.raw_entries (one known) done guest;
    values = λ known whole p. second.values (two known) whole p ∙ first.values (one known) done p;
  }

-- Two calls that keep the disk. The image is well-formed after the first.
pub keeps-disk-both : {S : Type 0} (g : Ghosts S) (first-ok ok : Type 0) (a b c : Qcow2 S g) → first-ok → KeepsDisk g first-ok a b
    → KeepsDisk g ok b c → KeepsDisk g ok a c
keeps-disk-both g first-ok ok a b c done first second =
    keeps-disk-then g (IsWellFormed g a) (IsWellFormed g a) (IsWellFormed g b) first-ok ok a b c done (λ well_formed. well_formed) (λ well_formed. first.safely well_formed done) first second

-- The call keeps the file, the header and the prepared mapping.
module _ {S : Type 0} (g : Ghosts S) (ok : Type 0) (old new : Qcow2 S g) (kept : UnchangedButFaults (g.state old.tables.file.image) (g.state new.tables.file.image))
    (later : CountsNotFallen (g.state old.tables.file.image) (g.state new.tables.file.image)) (header : new.tables.file.header ≡ old.tables.file.header)
    (mode : new.mode ≡ old.mode) (number : new.number ≡ old.number) (unspent : new.unspent ≡ old.unspent)
    (failed : IsTrue old.failed → IsTrue new.failed) (whole : ok → new.failed ≡ old.failed)
    (faults : ok → IsFaultless (g.state old.tables.file.image) (g.state new.tables.file.image)) (safely : IsWellFormed g old → ok → IsWellFormed g new) where
  abbrev before : StorageState
  before = g.state old.tables.file.image

  abbrev after : StorageState
  after = g.state new.tables.file.image

  fields : new.tables.file.header.fields ≡ old.tables.file.header.fields
  fields = ap (λ (K : Header). K.fields) header

  pub kept-disk : KeepsDisk g ok old new
  kept-disk = record {
    mode = mode;
    number = number;
    unspent = unspent;
    shape = kept.shape;
    counts_not_fallen = later;
    failed = failed;
    size = ap (λ (x : Fields). x.size) fields;
    bits = ap (λ (x : Fields). x.cluster_bits) fields;
    version = ap (λ (x : Fields). x.version) fields;
    format = format-same old.tables.file.header new.tables.file.header header;
    faults = faults;
    crash_images = λ well_formed below. passes_none (Left below (layer_of g old) before.bytes is_sound (layer_of g old).size (layer_of g old).size GivesNone) before after
        kept.shape (kept.crash_image, kept.past_crash_images, kept.bytes, kept.refusals);
    safely = safely;
    layer = λ well_formed w. layer-by before after (memory_of g old.tables) (memory_of g new.tables) old.tables.file.header.fields new.tables.file.header.fields
        old.mode new.mode old.number new.number old.failed new.failed (holding_in g old.unspent) (holding_in g new.unspent) kept.shape kept.bytes
        (memory-is g new.tables ∙ ap bytes_of kept.bytes ∙ sym (memory-is g old.tables)) fields mode number (whole w) (ap (holding_in g) unspent);
    raw_entries = λ well_formed w guest. λ i. entry (bytes_of (kept.bytes i)) (fields i) guest;
    values = λ well_formed w p. λ i. own_value (bytes_of (kept.bytes i)) (bytes_of (kept.bytes i)) (fields i) p;
  }

pub keeps-disk-same : {S : Type 0} (g : Ghosts S) (ok : Type 0) (d : Qcow2 S g) → KeepsDisk g ok d d
keeps-disk-same g ok d =
    kept-disk g ok d d (record { shape = refl; bytes = refl; refusals = refl; crash_image = refl; past_crash_images = refl })
    (record { faults = le_refl (g.state d.tables.file.image).faults; refusals = le_refl (g.state d.tables.file.image).refusals })
    refl refl refl refl (λ was. was) (λ w. refl) (λ w. (refl, refl)) (λ well_formed w. well_formed)

-- A lookup keeps the disk.
module _ {S T : Type 0} (g : Ghosts S) (old new : Qcow2 S g) (result : Result T Fault) (k : KeepsImage g old result new) where
  rest-kept : (space : Space) → rest_of g new.tables space ≡ rest_of g old.tables space
  rest-kept space = λ i. record (rest_of g old.tables space) { file = bytes_of (k.tables.unchanged_but_faults.bytes i); header = k.tables.header i }

  holds-kept : (hold : PreparedMappingRun) → HoldsIn g old.tables hold → HoldsIn g new.tables hold
  holds-kept hold holds = record {
    space = holds.space;
    space_known = k.tables.space ∙ holds.space_known;
    held = rw (rest-kept holds.space) holds.held;
    room = holds.room;
  }

  safe-kept : new.failed ≡ old.failed → IsWellFormed g old → IsWellFormed g new
  safe-kept failed well_formed = record {
    runs = failed ∙ well_formed.runs;
    keeps = subst (λ (x : Shape). IsTrue x.keeps) (sym k.tables.unchanged_but_faults.shape) well_formed.keeps;
    consistent = rw (ap bytes_of k.tables.unchanged_but_faults.bytes, k.tables.header) well_formed.consistent;
    seen = k.tables.seen well_formed.seen;
    sound = subst (λ o. IfSome o (λ x. IsSound (rest_of g new.tables x))) (sym k.tables.space)
        (if-some old.tables.space (λ x. IsSound (rest_of g old.tables x)) (λ x. IsSound (rest_of g new.tables x))
        (λ x sound. subst IsSound (sym (rest-kept x)) sound) well_formed.sound);
    searched = counted-same g old.tables new.tables (ap bytes_of k.tables.unchanged_but_faults.bytes) k.tables.header (ap searched_from k.tables.space) well_formed.searched;
    held = subst (λ u. IfSome (holding_in g u) (HoldsIn g new.tables)) (sym k.unspent)
        (if-some (holding_in g old.unspent) (HoldsIn g old.tables) (HoldsIn g new.tables) holds-kept well_formed.held);
    writable = λ some. subst IsTrue (sym (ap (λ (m : OpenMode). m.writable) k.mode)) (well_formed.writable (subst IsSome k.unspent some));
  }

  pub keeps-image-disk : KeepsDisk g (HadNoResourceError result) old new
  keeps-image-disk =
      kept-disk g (HadNoResourceError result) old new k.tables.unchanged_but_faults k.tables.counts_not_fallen k.tables.header k.mode k.number k.unspent
      (λ was. subst IsTrue (sym k.failed) (still-marked result old.failed was)) (λ w. k.failed ∙ unmarked result old.failed w) k.tables.faults
      (λ well_formed w. safe-kept (k.failed ∙ unmarked result old.failed w) well_formed)

-- The causes for which the free space isn't loaded.
abbrev pub WhyNoSpace : (old new : ℕ) → Fault → Type 0
WhyNoSpace old new Memory = new ≡ old
WhyNoSpace old new Storage = HasRisen old new
WhyNoSpace old new (Limit number) = new ≡ old
WhyNoSpace old new DamagedTable = new ≡ old
WhyNoSpace old new fault = ⊥

placed-or-not : (h : Fields) → IsTablePlaced h ⊎ (IsTablePlaced h → ⊥)
placed-or-not h = elim (cases_eq (h.refcount_table_offset % cluster_size h) 0) [
  | inl aligned ↦ elim (cases_lt max_offset h.refcount_table_offset) [
    | inl far ↦ inr (λ placed. absurd (omega (arith, far, placed.reach)))
    | inr near ↦ inl (record { aligned = aligned; reach = near })
  ]
  | inr not ↦ inr (λ placed. not placed.aligned)
]

module _ (s s' : StorageState) (h : Fields) where
  by-load : (fault : Fault) → WhyNotLoaded refcount_table_kind (layout_of h) (raw_entries_in (bytes_of s.bytes) h.refcount_table_offset (refcount_table_entries h)) s.faults s'.faults fault
      → WhyNoSpace s.faults s'.faults fault
  by-load Memory why = why
  by-load Storage why = why
  by-load (Limit n) why = why.2
  by-load DamagedTable why = why.1
  by-load fault why = absurd why

  pub space-refused : (fault : Fault) → LoadsAllocator s h (Err fault) s' → WhyNoSpace s.faults s'.faults fault
  space-refused fault loads = elim (placed-or-not h) [
    | inl placed ↦ by-load fault (loads.err placed)
    | inr not ↦
        let out = loads.out not in
        let is : fault ≡ DamagedTable = let e : Err fault ≡ Err DamagedTable = out.0 in cc e in
        subst (WhyNoSpace s.faults s'.faults) (sym is) (ap (λ (x : StorageState). x.faults) out.1)
  ]

  no-fewer : (fault : Fault) → WhyNoSpace s.faults s'.faults fault → s.faults ≤ s'.faults
  no-fewer Memory why = omega (arith, why)
  no-fewer Storage why = why.not_fallen
  no-fewer (Limit n) why = omega (arith, why)
  no-fewer DamagedTable why = omega (arith, why)
  no-fewer fault why = absurd why

  pub later-refused : (fault : Fault) → LoadsAllocator s h (Err fault) s' → CountsNotFallen s s'
  later-refused fault loads = record { faults = no-fewer fault (space-refused fault loads); refusals = omega (arith, loads.unchanged_but_faults.refusals) }

  pub later-loaded : (a : Allocator) → LoadsAllocator s h (Ok a) s' → CountsNotFallen s s'
  later-loaded a loads = record { faults = omega (arith, (loads.faults tt).0); refusals = omega (arith, loads.unchanged_but_faults.refusals) }

-- An image whose free space was just loaded has consistent free space, if its file is consistent.
module _ {S : Type 0} (g : Ghosts S) (old new : Qcow2 S g) (space : Space) (none : old.tables.space ≡ None) (there : new.tables.space ≡ Some space)
    (mode : new.mode ≡ old.mode) (number : new.number ≡ old.number) (unspent : new.unspent ≡ old.unspent) (failed : new.failed ≡ old.failed)
    (l1 : new.tables.l1 ≡ old.tables.l1) (caches : new.tables.caches ≡ old.tables.caches) (header : new.tables.file.header ≡ old.tables.file.header)
    (loads : LoadsAllocator (g.state old.tables.file.image) old.tables.file.header.fields (Ok space.allocator) (g.state new.tables.file.image))
    (empty : space.to_free.entries ≡ []) where
  later-now : CountsNotFallen (g.state old.tables.file.image) (g.state new.tables.file.image)
  later-now = later-loaded (g.state old.tables.file.image) (g.state new.tables.file.image) old.tables.file.header.fields space.allocator loads

  module _ (well_formed : IsWellFormed g old) where
    sound-now : IsSound (rest_of g new.tables space)
    sound-now =
        let opened-is = opened-sound (file_of g old.tables) old.tables.file.header well_formed.consistent (g.state old.tables.file.image)
        (g.state new.tables.file.image) space.allocator refl loads in
        subst (λ (es : List FreeEntry). IsSound (record (rest_of g new.tables space) { pending = es })) (sym empty)
        (subst (λ (K : Header). IsSound (record (rest_of g new.tables space) { header = K; pending = [] })) (sym header) opened-is)

    none-held : IfSome (holding_in g new.unspent) (HoldsIn g new.tables)
    none-held = from (holding_in g new.unspent) (ap (holding_in g) (sym unspent)) well_formed.held where
      from : (a : Option PreparedMappingRun) → holding_in g old.unspent ≡ a → IfSome (holding_in g old.unspent) (HoldsIn g old.tables) → IfSome a (HoldsIn g new.tables)
      from None is held = tt
      from (Some hold) is held =
          let holds : HoldsIn g old.tables hold = subst (λ o. IfSome o (HoldsIn g old.tables)) is held in
          absurd (let e : None ≡ Some holds.space = sym none ∙ holds.space_known in cc e)

    safe-loaded : IsWellFormed g new
    safe-loaded = record {
      runs = failed ∙ well_formed.runs;
      keeps = subst (λ (x : Shape). IsTrue x.keeps) (sym loads.unchanged_but_faults.shape) well_formed.keeps;
      consistent = rw (ap bytes_of loads.unchanged_but_faults.bytes, header) well_formed.consistent;
      seen = seen-same g old.tables new.tables loads.unchanged_but_faults later-now header l1 caches well_formed.seen;
      sound = subst (λ o. IfSome o (λ x. IsSound (rest_of g new.tables x))) (sym there) sound-now;
      searched = counted-first g new.tables (ap searched_from there ∙ loads.ok.2);
      held = none-held;
      writable = λ some. subst IsTrue (sym (ap (λ (m : OpenMode). m.writable) mode)) (well_formed.writable (subst IsSome unspent some));
    }

  pub space-keeps : (ok : Type 0) → KeepsDisk g ok old new
  space-keeps ok =
      kept-disk g ok old new loads.unchanged_but_faults later-now header mode number unspent (λ was. subst IsTrue (sym failed) was) (λ w. failed)
      (λ w. loads.faults tt) (λ well_formed w. safe-loaded well_formed)

-- Lemmas on a write of bytes to where a range of the disk is: what it leaves of the image and of crash images.
use Rattle.std.proofs.Common.{◌≡◌, ℕ, ◌+◌, ◌-◌, ◌/◌, ◌<◌, refl, arith, ap, sym, subst, ◌∙◌, inl, inr, Bool, true, false, List, [], ◌∷◌, length, Option, Some, None, Result, Ok, Err}
use Rattle.std.specs.Prelude.{⊤, ◌⊎◌, ◌++◌, ◌&&◌, ◌||◌, ltb, nat_le, if◌then◌else◌, slice_index, is_err, IsTrue, IsSome, IfSome, IfErr, OnOk, MatchResult}
use Rattle.std.specs.List.{AllByRecursion}
use Rattle.std.specs.Borrow.{RattleType}
use Rattle.std.proofs.lemmas.Bool.{cases_lt, cases_Bool, lt-ltb}
use Rattle.imago_storage.specs.State.{Shape, StorageState, CrashImageIsBytes, HasRisen, unit_of}
use Rattle.imago_storage.specs.Calls.{UnchangedButFaults as KeptStorage, CountsNotFallen, OldOrNewBytes, Spliced, Cause, IsFaultless}
use Rattle.imago_storage.specs.Through.{WriteOutcome, PaddedWriteRefused, EachCrashImage, WriteSucceeded}
use Rattle.imago_storage.specs.Passing.{UnrefusedCrashImages}
use Rattle.imago_storage.specs.Disk.{Value, byte}
use Rattle.imago_storage.specs.Steps.{Call, IsOut}
use Rattle.imago_storage.specs.declared.fault.Fault.{Fault}
use Rattle.imago_storage.specs.declared.fault.Fault.TheVariants.{DamagedTable, Memory, Storage}
use Rattle.imago_storage.specs.declared.storage.Storage.{Ghosts}
use Rattle.imago_storage.proofs.Composing.{later_both, stops_weaker}
use Rattle.imago_access.specs.Chain.{at}
use Rattle.imago_access.specs.Changes.{TakesByte, Wrote}
use Rattle.imago_access.specs.Files.{ImageCause, IsNotResourceError, HadNoResourceError}
use Rattle.imago_access.specs.Layer.{Cell, Layer, Meaning, KeepsLayerState, own, through}
use Rattle.imago_access.specs.Room.{Takes}
use Rattle.imago_access.specs.PreparingCalls.{WritesMapped, WritingRefused}
use Rattle.imago_access.specs.Parts.{MappedCause}
use Rattle.imago_access.proofs.Stopping.{left_weaker, passes_weaker}
use Rattle.imago_access.specs.Stops.{GivesBytes, GivesNone, Left, May, KeepsCrashImages, shown}
use Rattle.qcow2_types.specs.Bytes.{Bytes, bytes_of}
use Rattle.qcow2_types.specs.Header.{Fields, Header, cluster_size, entries_of_cluster, header_of}
use Rattle.qcow2_types.specs.Words.{Mapping}
use Rattle.qcow2_types.specs.Entries.{entry, l2_table}
use Rattle.qcow2_types.specs.Consistency.{IsConsistent}
use Rattle.qcow2_types.specs.Frames.{Outside, SameStructureOutside, nothing}
use Rattle.qcow2_types.proofs.Counting.Consistent.{header-reading}
use Rattle.qcow2_types.specs.Counts.{count}
use Rattle.qcow2_types.specs.References.{refs}
use Rattle.qcow2_types.proofs.Changes.DataSteps.{untouched-counts, untouched-keeps, untouched-references}
use Rattle.qcow2_metadata.specs.Tables.{TableValue, raw_entries_in}
use Rattle.qcow2_alloc.specs.declared.async_lru_cache.Slot.{Slot}
use Rattle.qcow2_alloc.specs.Caches.{cached_in}
use Rattle.qcow2_alloc.specs.Causes.{HasCause}
use Rattle.qcow2_alloc.specs.Opening.{IsL1Of}
use Rattle.qcow2_alloc.specs.GuestView.{IsSound, Metadata}
use Rattle.qcow2_steps.proofs.DataRuns.{beside-sound}
use Rattle.qcow2_clusters.specs.declared.space.Space.{Space}
use Rattle.qcow2_image.specs.declared.mode.OpenMode.{OpenMode}
use Rattle.qcow2_image.specs.declared.qcow2.Qcow2.{Qcow2}
use Rattle.qcow2_image.specs.declared.tables.Tables.{Tables}
use Rattle.qcow2_image.specs.declared.unspent.Unspent.{Unspent}
use Rattle.qcow2_image.specs.Holding.{PreparedMappingRun, IsHeld, Notes, mapping_id_held, held_with, writable_locations_with}
use Rattle.qcow2_image.specs.Leaking.{KeepsLeaks, counts_in, names_in, waiting_in}
use Rattle.qcow2_image.specs.ImageLayer.{blank_of, cells, writable_location_by, writable_locations, meaning_of, qcow2_fixed, qcow2_meaning}
use Rattle.qcow2_image.specs.Homes.{mapped, memory_is}
use Rattle.qcow2_clusters.specs.Linking.{TakesNone}
use Rattle.qcow2_image.specs.Rooms.{HasCluster, HoldsIn, IsWellFormed, ReadsNone, IsCoherent, is_sound, rest_of, was_well_formed, searched_from}
use Rattle.qcow2_image.specs.Seen.{IsOfFile, IsCacheCoherent, file_of, writable_locations_of, layer_of, memory_of}
use Rattle.qcow2_image.specs.Unspent.{holding_in}
use Rattle.qcow2_image.specs.Writing.{IsWritableAt, OutOfMemoryLeavesUntouched, WritesAt, telling_causes}
use Rattle.qcow2_image.proofs.CallNeeds.{since-as, wrote-byte}
use Rattle.qcow2_image.proofs.Preparations.RunPreparations.{safe-undamaged, went-kept}
use Rattle.qcow2_image.proofs.Anew.{on-ok}
use Rattle.qcow2_image.proofs.Steps.{keeps-as, keeps-both, looked-kept, marks-kept, takes-kept}
use Rattle.qcow2_image.proofs.RequestsWithoutChanges.{seen-same}
use Rattle.qcow2_image.specs.Steps.{KeepsImage}
use Rattle.qcow2_image.specs.contracts.qcow2.Qcow2DriverModel.TheImpl.{ghosts}
use Rattle.imago_access.specs.declared.driver_model.DriverModel.{Ghosts as SeenGhosts}
use Rattle.qcow2_image.specs.declared.qcow2.PreparedMappingState.{PreparedMappingState}
use Rattle.qcow2_image.proofs.Leaks.{noted-reserved}
use Rattle.qcow2_image.proofs.WritePlaces.{IsWrittenIn, held-beside, held-range, held-still, noted-claim, noted-homes, unshown-in, written-at, written-in}
use Rattle.qcow2_image.proofs.WritesInPlace.{IsWrittenAt, written-beside, rewritten-kept, rewritten-consistent, rewritten-entries, rewritten-others, rewritten-range, kept-l1-words, kept-l2-words, kept-l1-sound}
use Rattle.qcow2_image.proofs.SearchStart.{counted-still}
use Rattle.qcow2_image.proofs.LeaksByFile.{surplus-kept}

-- A lookup before the call changes only fault counts, so crash images are the same.
pub passes-kept : (P : List ℕ → Type 0) (s t u : StorageState) → KeptStorage s t → UnrefusedCrashImages P t u → UnrefusedCrashImages P s u
passes-kept P s t u kept passes no_change_refused = (
  λ same. now.0 (in-step same),
  λ same tells keeps.
      let stops = now.1 (in-step same) (subst (λ (x : Shape). IsTrue x.tells) (sym kept.shape) tells) (subst (λ (x : Shape). IsTrue x.keeps) (sym kept.shape) keeps) in
      record { files = stops.files; told = stops.told ∙ (λ i. stops.files ++ (kept.crash_image i ∷ kept.past_crash_images i)); each = stops.each },
) where
  now : (CrashImageIsBytes t → CrashImageIsBytes u) × EachCrashImage P t u
  now = passes (λ rose. no_change_refused (subst (λ r. HasRisen r u.refusals) kept.refusals rose))

  in-step : CrashImageIsBytes s → CrashImageIsBytes t
  in-step same tells keeps =
      kept.crash_image ∙ same (subst (λ (x : Shape). IsTrue x.tells) kept.shape tells) (subst (λ (x : Shape). IsTrue x.keeps) kept.shape keeps) ∙ sym kept.bytes

-- Each crash image of a write has old or new bytes in the range, also if the write fails.
pub passes-put : (P : List ℕ → Type 0) (t u : StorageState) (place : ℕ) (bytes : List ℕ) (result : Result Unit Fault) → WriteOutcome t u place bytes result
    → ((f : List ℕ) → OldOrNewBytes t.bytes place bytes f → P f) → UnrefusedCrashImages P t u
passes-put P t u place bytes result put each no_change_refused = (
  in-step result put.answer,
  stops_weaker (OldOrNewBytes t.bytes place bytes) P t u (λ keeps f mixed. each f mixed) put.crash_images,
) where
  in-step : (r : Result Unit Fault) → MatchResult r (λ _. WriteSucceeded t u place bytes) (PaddedWriteRefused (unit_of t.shape) t u place bytes) → CrashImageIsBytes t → CrashImageIsBytes u
  in-step (Ok done) through = through.crash_image_is_bytes
  in-step (Err fault) not = elim not.crash_image_is_bytes [
    | inl rose ↦ absurd (no_change_refused rose)
    | inr same ↦ same
  ]

-- The bytes of the file outside the range are unchanged.
mixed-outside : (old : List ℕ) (place : ℕ) (bytes new : List ℕ) → OldOrNewBytes old place bytes new → Outside (bytes_of old) (bytes_of new) place (length bytes)
mixed-outside old place bytes new mixed p (inl before) = mixed.before p before
mixed-outside old place bytes new mixed p (inr behind) = mixed.after p behind

spliced-outside : (old : List ℕ) (place : ℕ) (bytes new : List ℕ) → Spliced old place bytes new → Outside (bytes_of old) (bytes_of new) place (length bytes)
spliced-outside old place bytes new spliced p (inl before) = spliced.before p before
spliced-outside old place bytes new spliced p (inr behind) = spliced.after p behind

-- A consistent image, a range of its disk with its location in the file, and a file that was written there.
module _ (f : Bytes) (H : Header) (was : IsConsistent f H) (guest place n : ℕ)
    (each : (i : ℕ) → i < n → IsWrittenAt f H.fields (guest + i) (place + i))
    (x : Bytes) (out : Outside f x place n) where
  abbrev h : Fields
  h = H.fields

  -- The header is the same.
  loads-still : header_of false x ≡ Ok H
  loads-still = header-reading x H (rewritten-consistent f H was guest place n each x out).readable.loads

  -- A byte outside the range, or without a location by its entry, has the same cell.
  cell-beside : (blank : Cell) (p : ℕ) → IsOut guest n p ⊎ (writable_location_by h p (mapped f h p) ≡ None) → cells blank x x h p ≡ cells blank f f h p
  cell-beside blank p beside = elim (cases_Bool (ltb p h.size)) [
    | inl t ↦ rw t (rewritten-others f H was guest place n each x out blank p beside)
    | inr t ↦ rw t refl
  ]

  -- A byte of the range with a location by its entry has the written byte.
  cell-within : (blank : Cell) (i : ℕ) → writable_location_by h (guest + i) (mapped f h (guest + i)) ≡ Some (0, place + i) → guest + i < h.size
      → cells blank x x h (guest + i) ≡ own (byte (x (place + i)))
  cell-within blank i home inside = rw (lt-ltb (guest + i) h.size inside) (rewritten-range f H was guest place n each x out blank i home)

  -- The tables in memory are still the file's.
  l1-still : (top : TableValue) → IsL1Of f h top → IsL1Of x h top
  l1-still top of = record {
    layout = of.layout;
    raw_entries = of.raw_entries ∙ sym (kept-l1-words f x h (rewritten-kept f H was guest place n each x out));
    sound = kept-l1-sound f x h (rewritten-kept f H was guest place n each x out) ∙ of.sound;
  }

  tables-still : (es : List (ℕ × Slot TableValue)) → AllByRecursion (IsOfFile f h) es → AllByRecursion (IsOfFile x h) es
  tables-still [] all = tt
  tables-still (e ∷ es) all = (one, tables-still es all.1) where
    kept : SameStructureOutside f x h nothing
    kept = rewritten-kept f H was guest place n each x out

    same : (i : ℕ) → l2_table x h i ≡ l2_table f h i
    same i = (untouched-keeps f x H was kept).places.l1 i

    one : IsOfFile x h e
    one =
        let row = all.0.named.row in
        let raw_entries = kept-l2-words f x h kept row all.0.named.in_l1 all.0.named.is_there in
        record {
          named = record {
            row = row;
            in_l1 = all.0.named.in_l1;
            is_there = λ none. all.0.named.is_there (sym (same row) ∙ none);
            at = same row ∙ all.0.named.at;
          };
          layout = all.0.layout;
          raw_entries = all.0.raw_entries ∙ sym (subst (λ p. raw_entries_in x p (entries_of_cluster h) ≡ raw_entries_in f p (entries_of_cluster h)) all.0.named.at raw_entries);
        }

-- A crash image of the write. It is consistent, and each byte of its disk is old or written.
module _ (f : List ℕ) (H : Header) (was : IsConsistent (bytes_of f) H) (guest place : ℕ) (bytes : List ℕ)
    (each : (i : ℕ) → i < length bytes → IsWrittenAt (bytes_of f) H.fields (guest + i) (place + i))
    (y : List ℕ) (mixed : OldOrNewBytes f place bytes y) (entry : Layer) (below : List Layer) (blank : Cell)
    (size : entry.size ≡ H.fields.size) (means : entry.fixed.means ≡ qcow2_meaning blank) (kind : entry.fixed.kind ≡ 1) where
  out : Outside (bytes_of f) (bytes_of y) place (length bytes)
  out = mixed-outside f place bytes y mixed

  meaning-of : (z : List ℕ) → header_of false (bytes_of z) ≡ Ok H → entry.fixed.means z ≡ meaning_of blank (bytes_of z) (Ok H)
  meaning-of z loads = ap (λ m. m z) means ∙ ap (meaning_of blank (bytes_of z)) loads

  means-y : entry.fixed.means y ≡ meaning_of blank (bytes_of y) (Ok H)
  means-y = meaning-of y (loads-still (bytes_of f) H was guest place (length bytes) each (bytes_of y) out)

  means-f : entry.fixed.means f ≡ meaning_of blank (bytes_of f) (Ok H)
  means-f = meaning-of f (header-reading (bytes_of f) H was.readable.loads)

  abbrev value : (List ℕ) → ℕ → Value
  value z p = if ltb p H.fields.size then through (cells blank (bytes_of z) (bytes_of z) H.fields p) (at below p) else byte 0

  shown-y : (p : ℕ) → shown below entry.fixed.means y p ≡ value y p
  shown-y p = ap (λ (m : Meaning). if ltb p m.size then through (m.cell p) (at below p) else byte 0) means-y

  shown-f : (p : ℕ) → shown below entry.fixed.means f p ≡ value f p
  shown-f p = ap (λ (m : Meaning). if ltb p m.size then through (m.cell p) (at below p) else byte 0) means-f

  value-same : (p : ℕ) → cells blank (bytes_of y) (bytes_of y) H.fields p ≡ cells blank (bytes_of f) (bytes_of f) H.fields p → value y p ≡ value f p
  value-same p same = ap (λ c. if ltb p H.fields.size then through c (at below p) else byte 0) same

  may-beside : (p : ℕ) → IsOut guest (length bytes) p ⊎ (writable_location_by H.fields p (mapped (bytes_of f) H.fields p) ≡ None) → May below entry f (GivesBytes guest bytes) p (shown below entry.fixed.means y p)
  may-beside p beside = inl (shown-y p ∙ value-same p (cell-beside (bytes_of f) H was guest place (length bytes) each (bytes_of y) out blank p beside) ∙ sym (shown-f p))

  may-within : (i : ℕ) → i < length bytes → writable_location_by H.fields (guest + i) (mapped (bytes_of f) H.fields (guest + i)) ≡ Some (0, place + i)
      → guest + i < H.fields.size → May below entry f (GivesBytes guest bytes) (guest + i) (shown below entry.fixed.means y (guest + i))
  may-within i lt home inside = elim (mixed.inside (place + i) (omega arith) (omega (arith, lt))) [
    | inl old ↦
        let before = cell-within (bytes_of f) H was guest place (length bytes) each (bytes_of f) (λ p off. refl) blank i home inside in
        inl (shown-y (guest + i) ∙ value-same (guest + i) (now ∙ ap (λ b. own (byte b)) old ∙ sym before) ∙ sym (shown-f (guest + i)))
    | inr new ↦
        let index : place + i - place ≡ i = omega arith in
        let is : slice_index y (place + i) ≡ slice_index bytes i = new ∙ ap (slice_index bytes) index in
        let there : value y (guest + i) ≡ byte (slice_index y (place + i)) =
        ap (λ c. if ltb (guest + i) H.fields.size then through c (at below (guest + i)) else byte 0) now ∙ rw (lt-ltb (guest + i) H.fields.size inside) refl in
        inr (inr (i, lt, refl, shown-y (guest + i) ∙ there ∙ ap byte is))
  ] where
    now : cells blank (bytes_of y) (bytes_of y) H.fields (guest + i) ≡ own (byte (slice_index y (place + i)))
    now = cell-within (bytes_of f) H was guest place (length bytes) each (bytes_of y) out blank i home inside

  pub stop-left : Left below entry f is_sound entry.size entry.size (GivesBytes guest bytes) y
  stop-left = record {
    is_sound = subst (λ k. is_sound k y) (sym kind) (H, rewritten-consistent (bytes_of f) H was guest place (length bytes) each (bytes_of y) out);
    backed = ap (λ (m : Meaning). m.backed) means-y ∙ sym (ap (λ (m : Meaning). m.backed) means-f);
    size = omega (arith, size, ap (λ (m : Meaning). m.size) means-y);
    no_longer = λ exact. omega (arith, size, ap (λ (m : Meaning). m.size) means-y);
    shows = λ p inside low. elim (cases_lt p guest) [
      | inl before ↦ may-beside p (inl (inl before))
      | inr from ↦ elim (cases_lt p (guest + length bytes)) [
        | inr behind ↦ may-beside p (inl (inr behind))
        | inl within ↦
            let i : ℕ = p - guest in
            let is : guest + i ≡ p = omega (arith, from) in
            let lt : i < length bytes = omega (arith, within, from) in
            subst (λ q. May below entry f (GivesBytes guest bytes) q (shown below entry.fixed.means y q)) is
            (elim (each (p - guest) lt) [
              | inl home ↦ may-within (p - guest) lt home (omega (arith, low, size, is))
              | inr held ↦ may-beside (guest + (p - guest)) (inr held.0)
            ])
      ]
    ];
  }

-- The state after a write that is noted in the prepared mapping.
pub record WritesNoting {S : Type 0} (g : Ghosts S) (guest place : ℕ) (bytes : List ℕ) (old : Qcow2 S g) (result : Result Unit Fault)
    (new : Qcow2 S g) : Type 0 where
  pub put : WriteOutcome (g.state old.tables.file.image) (g.state new.tables.file.image) place bytes result
  pub header : new.tables.file.header ≡ old.tables.file.header
  pub l1 : new.tables.l1 ≡ old.tables.l1
  pub caches : new.tables.caches ≡ old.tables.caches
  pub space : new.tables.space ≡ old.tables.space
  pub mode : new.mode ≡ old.mode
  pub number : new.number ≡ old.number
  pub failed : new.failed ≡ is_err result
  pub mapping_id : mapping_id_held (holding_in g new.unspent) ≡ mapping_id_held (holding_in g old.unspent)
  pub notes : OnOk result (Notes guest (length bytes) (holding_in g old.unspent) (holding_in g new.unspent))

-- A write that succeeded is noted.
pub noted : {S : Type 0} (g : Ghosts S) (guest place : ℕ) (bytes : List ℕ) (old wrote new : Qcow2 S g) → WritesAt g place bytes old (Ok tt) wrote
    → Notes guest (length bytes) (holding_in g wrote.unspent) (holding_in g new.unspent) → new ≡ record wrote { unspent = new.unspent }
    → WritesNoting g guest place bytes old (Ok tt) new
noted g guest place bytes old wrote new w notes rest =
    let tables : new.tables ≡ wrote.tables = ap (λ (d : Qcow2 _ g). d.tables) rest in
    let was : Notes guest (length bytes) (holding_in g old.unspent) (holding_in g new.unspent) =
    subst (λ u. Notes guest (length bytes) (holding_in g u) (holding_in g new.unspent)) w.unspent notes in
    record {
      put = subst (λ (t : Tables _ g). WriteOutcome (g.state old.tables.file.image) (g.state t.file.image) place bytes (Ok tt)) (sym tables) w.put;
      header = ap (λ (t : Tables _ g). t.file.header) tables ∙ w.header;
      l1 = ap (λ (t : Tables _ g). t.l1) tables ∙ w.l1;
      caches = ap (λ (t : Tables _ g). t.caches) tables ∙ w.caches;
      space = ap (λ (t : Tables _ g). t.space) tables ∙ w.space;
      mode = ap (λ (d : Qcow2 _ g). d.mode) rest ∙ w.mode;
      number = ap (λ (d : Qcow2 _ g). d.number) rest ∙ w.number;
      failed = ap (λ (d : Qcow2 _ g). d.failed) rest ∙ w.failed;
      mapping_id = noted-claim guest (length bytes) (holding_in g old.unspent) (holding_in g new.unspent) was;
      notes = was;
    }

-- A write that failed isn't noted, and sets the image to failed.
pub unnoted : {S : Type 0} (g : Ghosts S) (guest place : ℕ) (bytes : List ℕ) (old new : Qcow2 S g) (e : Fault) → WritesAt g place bytes old (Err e) new
    → new.failed ≡ true → WritesNoting g guest place bytes old (Err e) new
unnoted g guest place bytes old new e w failed = record {
  put = w.put;
  header = w.header;
  l1 = w.l1;
  caches = w.caches;
  space = w.space;
  mode = w.mode;
  number = w.number;
  failed = failed;
  mapping_id = ap (λ u. mapping_id_held (holding_in g u)) w.unspent;
  notes = tt;
}

-- A write that fails with `Fault::Memory` and doesn't set the image to failed changes nothing.
keeps-unbegun : {S : Type 0} (g : Ghosts S) (place : ℕ) (bytes : List ℕ) (old new : Qcow2 S g) → WritesAt g place bytes old (Err Memory) new
    → old.failed ≡ false → (new.failed ≡ false) × KeptStorage (g.state old.tables.file.image) (g.state new.tables.file.image)
    → KeepsImage {T = Bool} g old (Err Memory) new
keeps-unbegun g place bytes old new w runs spared = record {
  tables = record {
    unchanged_but_faults = spared.1;
    counts_not_fallen = w.put.counts_not_fallen;
    faults = λ whole. absurd whole;
    header = w.header;
    space = w.space;
    seen = seen-same g old.tables new.tables spared.1 w.put.counts_not_fallen w.header w.l1 w.caches;
  };
  mode = w.mode;
  number = w.number;
  unspent = w.unspent;
  failed = spared.0 ∙ sym runs;
}

-- If the write after a lookup fails, the image has failed, or memory ran out and nothing changed.
pub marked-or-kept : {S : Type 0} (g : Ghosts S) (place : ℕ) (bytes : List ℕ) (old mid new : Qcow2 S g) (e : Fault) → KeepsImage {T = Bool} g old (Ok true) mid
    → WritesAt g place bytes mid (Err e) new → old.failed ≡ false → (new.failed ≡ true) ⊎ ((e ≡ Memory) × KeepsImage {T = Bool} g old (Err e) new)
marked-or-kept g place bytes old mid new Memory looked w runs = elim w.failed [
  | inl marked ↦ inl marked.0
  | inr spared ↦ inr (
    refl,
    keeps-both {T = Bool} g old mid new (Err Memory) (keeps-as {T = Bool} {U = Unit} g old mid (Ok true) (Ok tt) (λ whole. whole) (λ f. refl) looked)
        (keeps-unbegun g place bytes mid new w (looked.failed ∙ runs) spared),
  )
]
marked-or-kept g place bytes old mid new e looked w runs = inl w.failed

-- If memory runs out in a lookup, the image doesn't fail.
pub spared-looking : {S : Type 0} (g : Ghosts S) (old new : Qcow2 S g) (e : Fault) → KeepsImage {T = Bool} g old (Err e) new → OutOfMemoryLeavesUntouched g old new e
spared-looking g old new Memory looked is = inl looked.failed
spared-looking g old new e looked is = absurd (cc is)

-- If memory runs out in a write, the image fails only if the storage refused a change.
pub spared-unless : {S : Type 0} (g : Ghosts S) (place : ℕ) (bytes : List ℕ) (old mid new : Qcow2 S g) (e : Fault) → KeepsImage {T = Bool} g old (Ok true) mid
    → WritesAt g place bytes mid (Err e) new → old.failed ≡ false → OutOfMemoryLeavesUntouched g old new e
spared-unless g place bytes old mid new Memory looked w runs is = elim w.failed [
  | inl marked ↦ inr (subst (λ n. HasRisen n (g.state new.tables.file.image).refusals) looked.tables.unchanged_but_faults.refusals marked.1)
  | inr spared ↦ inl (spared.0 ∙ sym runs)
]
spared-unless g place bytes old mid new e looked w runs is = absurd (cc is)

-- The image looked up the range, and then wrote bytes there.
module _ (R : RattleType) (st : Ghosts R.Denot) (sd : mir.Syntax.Dict) (dd : mir.Syntax.Dict) (old mid new : Qcow2 R.Denot st) (guest place : ℕ)
    (bytes : List ℕ) (result : Result Unit Fault) (looked : KeepsImage {T = Bool} st old (Ok true) mid)
    (w : WritesNoting st guest place bytes mid result new) (runs : old.failed ≡ false) (some : length bytes ≡ 0 → ⊥)
    (yes : IsCoherent st old → IsWritableAt (layer_of st old) guest place (length bytes)) where
  abbrev coherent : SeenGhosts (Qcow2 R.Denot st) PreparedMappingState
  coherent = ghosts R st sd dd

  abbrev s : StorageState
  s = st.state old.tables.file.image

  abbrev t : StorageState
  t = st.state mid.tables.file.image

  abbrev u : StorageState
  u = st.state new.tables.file.image

  abbrev H : Header
  H = old.tables.file.header

  abbrev hold : Option PreparedMappingRun
  hold = holding_in st old.unspent

  abbrev hold' : Option PreparedMappingRun
  hold' = holding_in st new.unspent

  header-same : new.tables.file.header ≡ H
  header-same = w.header ∙ looked.tables.header

  mode-same : new.mode ≡ old.mode
  mode-same = w.mode ∙ looked.mode

  space-same : new.tables.space ≡ old.tables.space
  space-same = w.space ∙ looked.tables.space

  shape-same : u.shape ≡ s.shape
  shape-same = w.put.shape ∙ looked.tables.unchanged_but_faults.shape

  fixed-same : (layer_of st new).fixed ≡ (layer_of st old).fixed
  fixed-same = λ i. qcow2_fixed (shape-same i) (header-same i).fields (mode-same i) ((w.number ∙ looked.number) i)

  pub like-written : KeepsLayerState (layer_of st old) (layer_of st new)
  like-written = record {
    fixed = fixed-same;
    size = ap (λ (h : Header). h.fields.size) header-same;
    unspent = w.mapping_id ∙ ap (λ u. mapping_id_held (holding_in st u)) looked.unspent;
    failed = λ was. absurd (cc (sym was ∙ runs));
  }

  -- Each byte of the range is written at its location, by its entry or in the run.
  in-of : IsWellFormed st old → (i : ℕ) → i < length bytes → (guest + i < H.fields.size) × IsWrittenIn (file_of st old.tables) H.fields hold (guest + i) (place + i)
  in-of well_formed i lt =
      written-in st old well_formed (guest + i) (place + i) (yes (record { seen = well_formed.seen; sure = inr (was_well_formed st old well_formed) }) i lt)

  each-of : IsWellFormed st old → (i : ℕ) → i < length bytes → IsWrittenAt (file_of st old.tables) H.fields (guest + i) (place + i)
  each-of well_formed i lt = written-at (file_of st old.tables) H.fields hold (guest + i) (place + i) (unshown-in st old well_formed) (in-of well_formed i lt).1

  -- Each crash image has the old or the written bytes.
  pub stops-written : IsWellFormed st old → (below : List Layer) → KeepsCrashImages coherent below (GivesBytes guest bytes) old new
  stops-written well_formed below =
      passes-kept (Left below (layer_of st old) s.bytes is_sound H.fields.size H.fields.size (GivesBytes guest bytes)) s t u looked.tables.unchanged_but_faults
      (passes-put (Left below (layer_of st old) s.bytes is_sound H.fields.size H.fields.size (GivesBytes guest bytes)) t u place bytes result w.put
      (λ y mixed. stop-left s.bytes H well_formed.consistent guest place bytes (each-of well_formed) y (subst (λ (b : List ℕ). OldOrNewBytes b place bytes y) looked.tables.unchanged_but_faults.bytes mixed)
      (layer_of st old) below (blank_of old.mode.backing) refl refl refl))

  -- The write succeeded.
  module _ (done : WriteSucceeded t u place bytes) (well_formed : IsWellFormed st old) (failed : new.failed ≡ false)
      (notes' : Notes guest (length bytes) (holding_in st mid.unspent) hold') where
    abbrev x : Bytes
    x = file_of st new.tables

    notes : Notes guest (length bytes) hold hold'
    notes = subst (λ u. Notes guest (length bytes) (holding_in st u) hold') looked.unspent notes'

    spliced : Spliced s.bytes place bytes u.bytes
    spliced = subst (λ (b : List ℕ). Spliced b place bytes u.bytes) looked.tables.unchanged_but_faults.bytes
        (done.content (subst (λ (z : Shape). IsTrue z.keeps) (sym looked.tables.unchanged_but_faults.shape) well_formed.keeps))

    off : Outside (file_of st old.tables) x place (length bytes)
    off = spliced-outside s.bytes place bytes u.bytes spliced

    byte-there : (i : ℕ) → i < length bytes → x (place + i) ≡ slice_index bytes i
    byte-there i lt =
        let index : place + i - place ≡ i = omega arith in
        spliced.inside (place + i) (omega arith) (omega (arith, lt)) ∙ ap (slice_index bytes) index

    entries : (g : ℕ) → entry x H.fields g ≡ entry (file_of st old.tables) H.fields g
    entries = rewritten-entries (file_of st old.tables) H well_formed.consistent guest place (length bytes) (each-of well_formed) x off

    -- Memory is what the new file says.
    cells-new : (layer_of st new).cell ≡ cells (blank_of old.mode.backing) x x H.fields
    cells-new = (λ i. cells (blank_of (mode-same i).backing) (memory_is st new.tables i) x (header-same i).fields)

    cells-old : (layer_of st old).cell ≡ cells (blank_of old.mode.backing) (file_of st old.tables) (file_of st old.tables) H.fields
    cells-old = λ i. cells (blank_of old.mode.backing) (memory_is st old.tables i) (file_of st old.tables) H.fields

    -- Each byte can be written in place where it could.
    words-written : writable_locations_of st new ≡ writable_locations_of st old
    words-written =
        (λ i. writable_locations (mode-same i).writable (memory_is st new.tables i) (header-same i).fields)
        ∙ (λ i p. if old.mode.writable && ltb p H.fields.size then writable_location_by H.fields p (entries (p / cluster_size H.fields) i) else None)
        ∙ (λ i. writable_locations old.mode.writable (sym (memory_is st old.tables) i) H.fields)

    homes-written : (layer_of st new).writable_location ≡ (layer_of st old).writable_location
    homes-written = ap (writable_locations_with hold') words-written ∙ noted-homes guest (length bytes) hold hold' notes (writable_locations_of st old)

    -- A byte without a location by its entry has the same cell.
    cell-same : (p : ℕ) → IsOut guest (length bytes) p ⊎ (writable_location_by H.fields p (mapped (file_of st old.tables) H.fields p) ≡ None)
        → (layer_of st new).cell p ≡ (layer_of st old).cell p
    cell-same p beside =
        ap (λ c. c p) cells-new
        ∙ cell-beside (file_of st old.tables) H well_formed.consistent guest place (length bytes) (each-of well_formed) x off (blank_of old.mode.backing) p beside
        ∙ sym (ap (λ c. c p) cells-old)

    cell-byte : (i : ℕ) → i < length bytes → writable_location_by H.fields (guest + i) (mapped (file_of st old.tables) H.fields (guest + i)) ≡ Some (0, place + i)
        → (layer_of st new).cell (guest + i) ≡ own (byte (slice_index bytes i))
    cell-byte i lt home =
        ap (λ c. c (guest + i)) cells-new
        ∙ cell-within (file_of st old.tables) H well_formed.consistent guest place (length bytes) (each-of well_formed) x off (blank_of old.mode.backing) i home (in-of well_formed i lt).0
        ∙ ap (λ b. own (byte b)) (byte-there i lt)

    -- The state of each byte of the mapping follows from the new file and the note.
    held-now : (p : ℕ) → (layer_of st new).held p ≡ held_with H.fields x hold' p
    held-now p = λ i. held_with (header-same i).fields x hold' p

    abbrev Taken : ℕ → Option PreparedMappingRun → Option PreparedMappingRun → Type 0
    Taken i old-hold new-hold = TakesByte (slice_index bytes i) (held_with H.fields (file_of st old.tables) old-hold (guest + i)) ((layer_of st old).cell (guest + i))
        (held_with H.fields x new-hold (guest + i)) ((layer_of st new).cell (guest + i))

    -- The flushed metadata is the same, except for the file.
    rest-new : (space : Space) → rest_of st new.tables space ≡ record (rest_of st old.tables space) { file = x }
    rest-new space = λ i. record (rest_of st old.tables space) { file = x; header = header-same i }

    sound-there : (space : Space) → IsSound (rest_of st old.tables space) → IsSound (record (rest_of st old.tables space) { file = x })
    sound-there space sound =
        let run = written-beside (file_of st old.tables) H well_formed.consistent guest place (length bytes) (each-of well_formed) x off (omega (arith, some)) in
        beside-sound (rest_of st old.tables space) sound (place / cluster_size H.fields)
        ((place + (length bytes - 1)) / cluster_size H.fields - place / cluster_size H.fields) place (length bytes) x
        (record { apart = run.0; low = run.1; high = run.2; outside = off })

    sound-new : IfSome new.tables.space (λ space. IsSound (rest_of st new.tables space))
    sound-new = subst (λ o. IfSome o (λ space. IsSound (rest_of st new.tables space))) (sym space-same) (from old.tables.space well_formed.sound) where
      from : (o : Option Space) → IfSome o (λ space. IsSound (rest_of st old.tables space)) → IfSome o (λ space. IsSound (rest_of st new.tables space))
      from None sound = tt
      from (Some space) sound = subst IsSound (sym (rest-new space)) (sound-there space sound)

    module _ (one : PreparedMappingRun) (is : hold ≡ Some one) (holds : HoldsIn st old.tables one) where
      abbrev m : Metadata
      m = rest_of st old.tables holds.space

      sound-one : IsSound m
      sound-one = subst (λ o. IfSome o (λ space. IsSound (rest_of st old.tables space))) holds.space_known well_formed.sound

      in-one : (i : ℕ) → i < length bytes → IsWrittenIn (file_of st old.tables) H.fields (Some one) (guest + i) (place + i)
      in-one i lt = subst (λ o. IsWrittenIn (file_of st old.tables) H.fields o (guest + i) (place + i)) is (in-of well_formed i lt).1

      module _ (written : ℕ → Bool) (more : (p : ℕ) → written p ≡ ((nat_le guest p && ltb p (guest + length bytes)) || one.written p)) where
        abbrev now : PreparedMappingRun
        now = record one { written = written }

        one-takes : (i : ℕ) → i < length bytes → Taken i (Some one) (Some now)
        one-takes i lt = held-range m sound-one one holds.held guest place (length bytes) in-one x off written more i (slice_index bytes i)
            ((layer_of st old).cell (guest + i)) ((layer_of st new).cell (guest + i)) lt (byte-there i lt)
            (λ home. cell-byte i lt home) (λ none. cell-same (guest + i) (inr none))

        one-beside : (p : ℕ) → IsOut guest (length bytes) p → held_with H.fields x (Some now) p ≡ held_with H.fields (file_of st old.tables) (Some one) p
        one-beside p beside = held-beside m sound-one one holds.held guest place (length bytes) in-one x off written more p beside

        one-holds : HoldsIn st new.tables now
        one-holds = record {
          space = holds.space;
          space_known = space-same ∙ holds.space_known;
          held = subst (λ (r : Metadata). IsHeld r now) (sym (rest-new holds.space))
              (held-still m sound-one one holds.held guest place (length bytes) in-one x off written more (omega (arith, some)));
          room = holds.room;
        }

    takes-byte : (i : ℕ) → i < length bytes → Taken i hold hold'
    takes-byte i lt = from hold hold' refl well_formed.held notes (in-of well_formed i lt).1 where
      from : (a b : Option PreparedMappingRun) → hold ≡ a → IfSome a (HoldsIn st old.tables) → Notes guest (length bytes) a b
          → IsWrittenIn (file_of st old.tables) H.fields a (guest + i) (place + i) → Taken i a b
      from None b is holds more (inl home) = subst (Taken i None) (sym more) (cell-byte i lt home, refl)
      from None b is holds more (inr run) = absurd run.1
      from (Some one) b is holds more way = subst (Taken i (Some one)) (sym more.1) (one-takes one is holds more.0 more.2 i lt)

    held-out : (p : ℕ) → IsOut guest (length bytes) p → held_with H.fields x hold' p ≡ held_with H.fields (file_of st old.tables) hold p
    held-out p beside = from hold hold' refl well_formed.held notes where
      from : (a b : Option PreparedMappingRun) → hold ≡ a → IfSome a (HoldsIn st old.tables) → Notes guest (length bytes) a b
          → held_with H.fields x b p ≡ held_with H.fields (file_of st old.tables) a p
      from None b is holds more = ap (λ o. held_with H.fields x o p) more
      from (Some one) b is holds more = ap (λ o. held_with H.fields x o p) more.1 ∙ one-beside one is holds more.0 more.2 p beside

    holds-new : IfSome hold' (HoldsIn st new.tables)
    holds-new = from hold hold' refl well_formed.held notes where
      from : (a b : Option PreparedMappingRun) → hold ≡ a → IfSome a (HoldsIn st old.tables) → Notes guest (length bytes) a b → IfSome b (HoldsIn st new.tables)
      from None b is holds more = subst (λ o. IfSome o (HoldsIn st new.tables)) (sym more) tt
      from (Some one) b is holds more = subst (λ o. IfSome o (HoldsIn st new.tables)) (sym more.1) (one-holds one is holds more.0 more.2)

    -- The bytes are there, and nothing else has changed.
    pub wrote : Wrote (layer_of st old) (layer_of st new) guest bytes
    wrote = record {
      keeps_layer_state = like-written;
      writable_location = homes-written;
      range = λ i lt. subst (λ h. TakesByte (slice_index bytes i) ((layer_of st old).held (guest + i)) ((layer_of st old).cell (guest + i)) h ((layer_of st new).cell (guest + i)))
          (sym (held-now (guest + i))) (takes-byte i lt);
      others = λ p beside. (cell-same p (inl beside), held-now p ∙ held-out p beside);
    }

    seen-mid : IsCacheCoherent st mid.tables
    seen-mid = looked.tables.seen well_formed.seen

    some-old : IsSome new.unspent → IsSome old.unspent
    some-old some = unheld old.unspent (subst IsSome (w.mapping_id ∙ ap (λ u. mapping_id_held (holding_in st u)) looked.unspent) (held-some new.unspent some)) where
      held-some : (o : Option (Unspent R.Denot st)) → IsSome o → IsSome (mapping_id_held (holding_in st o))
      held-some None some = some
      held-some (Some o) some = refl

      unheld : (o : Option (Unspent R.Denot st)) → IsSome (mapping_id_held (holding_in st o)) → IsSome o
      unheld None some = some
      unheld (Some o) some = refl

    -- The image is still well-formed.
    pub safe-written : IsWellFormed st new
    safe-written = record {
      runs = failed;
      keeps = subst (λ (z : Shape). IsTrue z.keeps) (sym shape-same) well_formed.keeps;
      consistent = rw header-same (rewritten-consistent (file_of st old.tables) H well_formed.consistent guest place (length bytes) (each-of well_formed) x off);
      seen = record {
        loads = rw header-same (loads-still (file_of st old.tables) H well_formed.consistent guest place (length bytes) (each-of well_formed) x off);
        inside = rw header-same well_formed.seen.inside;
        l1 = rw (header-same, w.l1) (l1-still (file_of st old.tables) H well_formed.consistent guest place (length bytes) (each-of well_formed) x off mid.tables.l1
            (subst (λ (b : List ℕ). IsL1Of (bytes_of b) H.fields mid.tables.l1) looked.tables.unchanged_but_faults.bytes (rw looked.tables.header at seen-mid.l1)));
        tables = rw (header-same, w.caches) (tables-still (file_of st old.tables) H well_formed.consistent guest place (length bytes) (each-of well_formed) x off (cached_in mid.tables.caches).tables
            (subst (λ (b : List ℕ). AllByRecursion (IsOfFile (bytes_of b) H.fields) (cached_in mid.tables.caches).tables) looked.tables.unchanged_but_faults.bytes (rw looked.tables.header at seen-mid.tables)));
      };
      sound = sound-new;
      searched = counted-still st old.tables new.tables (λ c.
          (λ i. count x (header-same i).fields c)
          ∙ untouched-counts (file_of st old.tables) x H well_formed.consistent
          (rewritten-kept (file_of st old.tables) H well_formed.consistent guest place (length bytes) (each-of well_formed) x off) c)
          (ap searched_from space-same) well_formed.searched;
      held = holds-new;
      writable = λ some. subst IsTrue (sym (ap (λ (m : OpenMode). m.writable) mode-same)) (well_formed.writable (some-old some));
    }

    -- Refcounts and references are the same.
    pub leaks-written : KeepsLeaks st old new
    leaks-written c =
        let h = H.fields in
        let f = file_of st old.tables in
        let kept = rewritten-kept f H well_formed.consistent guest place (length bytes) (each-of well_formed) x off in
        let counts : counts_in st new c ≡ counts_in st old c = (λ i. count x (header-same i).fields c) ∙ untouched-counts f x H well_formed.consistent kept c in
        let names : names_in st new c ≡ names_in st old c = (λ i. refs x (header-same i).fields c) ∙ untouched-references f x H well_formed.consistent kept c in
        let waits : waiting_in new.tables.space c ≡ waiting_in old.tables.space c = ap (λ o. waiting_in o c) space-same in
        let held = noted-reserved guest (length bytes) hold hold' notes c in
        omega (arith, counts, names, waits, held)

    -- The same bytes are allocated.
    as-was : (P : Mapping → Type 0) (p : ℕ) → P (entry (memory_of st old.tables) H.fields (p / cluster_size H.fields))
        → P (entry (memory_of st new.tables) new.tables.file.header.fields (p / cluster_size new.tables.file.header.fields))
    as-was P p was = rw (memory_is st new.tables, header-same, entries (p / cluster_size H.fields)) (rw (memory_is st old.tables) at was)

    pub takes-written : Takes coherent (λ _. ⊤) old new
    takes-written = record {
      stays_allocated = λ p left room. record { inside = rw header-same room.inside; own = as-was HasCluster p room.own };
      free = λ p left free. elim free [
        | inl behind ↦ inl (rw header-same behind)
        | inr none ↦ inr (as-was TakesNone p none)
      ];
      zeroes = λ p left spared zeroed. elim zeroed [
        | inl behind ↦ inl (rw header-same behind)
        | inr none ↦ inr (as-was ReadsNone p none)
      ];
    }

  -- Only a resource error makes the write fail.
  never-mild : (a b : ℕ) (e : Fault) → Cause a b e → IsNotResourceError e → ⊥
  never-mild a b Memory cause not_resource_error = not_resource_error
  never-mild a b Storage cause not_resource_error = not_resource_error
  never-mild a b e cause not_resource_error = cause

  abbrev Answer : Result Unit Fault → Type 0
  Answer r = MatchResult r (λ _. WriteSucceeded t u place bytes) (PaddedWriteRefused (unit_of t.shape) t u place bytes)

  later-written : (u.shape ≡ s.shape) × CountsNotFallen s u
  later-written = (shape-same, later_both s t u looked.tables.counts_not_fallen w.put.counts_not_fallen)

  abbrev Noted : Result Unit Fault → Type 0
  Noted r = OnOk r (Notes guest (length bytes) (holding_in st mid.unspent) hold')

  ok-written : (r : Result Unit Fault) → Answer r → Noted r → new.failed ≡ is_err r → IsWellFormed st old → OnOk r (Wrote (layer_of st old) (layer_of st new) guest bytes)
  ok-written (Ok v) answer told failed well_formed = wrote answer well_formed failed told
  ok-written (Err e) answer told failed well_formed = tt

  err-written : (r : Result Unit Fault) → Answer r → IfErr r (λ e. IsNotResourceError e → layer_of st new ≡ layer_of st old)
  err-written (Ok v) answer = tt
  err-written (Err e) answer = λ not_resource_error. absurd (never-mild t.faults u.faults e answer.cause not_resource_error)

  room-written : (r : Result Unit Fault) → Answer r → Noted r → new.failed ≡ is_err r → IsWellFormed st old → HadNoResourceError r → Takes coherent (λ _. ⊤) old new
  room-written (Ok v) answer told failed well_formed whole = takes-written answer well_formed failed told
  room-written (Err e) answer told failed well_formed whole = absurd (never-mild t.faults u.faults e answer.cause whole)

  faults-written : (r : Result Unit Fault) → Answer r → HadNoResourceError r → IsFaultless s u
  faults-written (Ok v) answer whole =
      let before = looked.tables.faults tt in
      (answer.faults ∙ before.0, answer.refusals ∙ before.1)
  faults-written (Err e) answer whole = absurd (never-mild t.faults u.faults e answer.cause whole)

  safely-written : (r : Result Unit Fault) → Answer r → Noted r → new.failed ≡ is_err r → HadNoResourceError r → IsWellFormed st old → IsWellFormed st new
  safely-written (Ok v) answer told failed whole well_formed = safe-written answer well_formed failed told
  safely-written (Err e) answer told failed whole well_formed = absurd (never-mild t.faults u.faults e answer.cause whole)

  leaks-of : (r : Result Unit Fault) → Answer r → Noted r → new.failed ≡ is_err r → IsWellFormed st old → HadNoResourceError r → KeepsLeaks st old new
  leaks-of (Ok v) answer told failed well_formed whole = leaks-written answer well_formed failed told
  leaks-of (Err e) answer told failed well_formed whole = absurd (never-mild t.faults u.faults e answer.cause whole)

  pub written-leaks : IsWellFormed st old → HadNoResourceError result → KeepsLeaks st old new
  written-leaks = leaks-of result w.put.answer w.notes w.failed

  began-written : (r : Result Unit Fault) → Answer r → Noted r → new.failed ≡ is_err r → (d : Qcow2 R.Denot st) (call : Call) → coherent.began d call old → OnOk r (coherent.began d call new)
  began-written (Ok v) answer told failed d call begun = λ well_formed.
      let now = begun well_formed in (
        safe-written answer now.0 failed told,
        since-as st call d old new (λ p at is. ap (λ (h : ℕ → Option (ℕ × ℕ)). h p) (words-written answer now.0 failed told) ∙ is)
            (wrote-byte (layer_of st old) (layer_of st new) guest bytes (wrote answer now.0 failed told))
            (ap (λ (h : Header). h.fields.size) header-same) (ap (λ (h : Header). h.fields.cluster_bits) header-same)
            (ap (λ (h : Header). h.fields.version) header-same)
            (leaks-written answer now.0 failed told) now.1,
      )
  began-written (Err e) answer told failed d call begun = tt

  pub writes-mapped : WritesMapped coherent guest place bytes result old new
  writes-mapped = record {
    mapped = λ seen. on-ok result _ (λ more. (0, yes seen));
    empty = λ none. absurd (some none);
    keeps_layer_state = like-written;
    ok = ok-written result w.put.answer w.notes w.failed;
    err = λ well_formed. err-written result w.put.answer;
    room = room-written result w.put.answer w.notes w.failed;
    crash_images = stops-written;
    mutating_call = record {
      fixed = fixed-same;
      failed = λ was. absurd (cc (sym was ∙ runs));
      counts_not_fallen = (later-written, tt);
      faults = λ whole. (faults-written result w.put.answer whole, tt);
      safely = λ whole. safely-written result w.put.answer w.notes w.failed whole;
      stays_stable = λ l. l;
      excess_refcount = λ whole well_formed. surplus-kept st old new (leaks-of result w.put.answer w.notes w.failed well_formed whole);
    };
    stays_begun = began-written result w.put.answer w.notes w.failed;
  }

  rose-written : HasRisen t.faults u.faults → HasRisen s.faults u.faults
  rose-written rose = subst (λ a. HasRisen a u.faults) (looked.tables.faults tt).0 rose

  pub writing-refused : WritingRefused coherent guest place (length bytes) result old new
  writing-refused = from result w.put.answer w.failed where
    from : (r : Result Unit Fault) → Answer r → new.failed ≡ is_err r → WritingRefused coherent guest place (length bytes) r old new
    from (Ok v) answer failed = record { failed = tt; marks_failed = tt; cause = λ well_formed. tt }
    from (Err Memory) answer failed = record { failed = tt; marks_failed = λ marks. inl failed; cause = λ well_formed. tt }
    from (Err Storage) answer failed = record { failed = inl (rose-written answer.cause); marks_failed = λ marks. failed; cause = λ well_formed. inl (rose-written answer.cause) }
    from (Err e) answer failed = absurd answer.cause

-- The write didn't happen, as the range isn't mapped there or a lookup failed.
module _ (R : RattleType) (st : Ghosts R.Denot) (sd : mir.Syntax.Dict) (dd : mir.Syntax.Dict) (old new : Qcow2 R.Denot st) (guest place : ℕ)
    (bytes : List ℕ) (e : Fault) (k : KeepsImage {T = Bool} st old (Err e) new) where
  pub unwritten : (length bytes ≡ 0 → ⊥) → WritesMapped (ghosts R st sd dd) guest place bytes (Err e) old new
  unwritten some =
      let looked = looked-kept R st sd dd {T = Bool} old new (Err e) k in record {
        mapped = λ seen. tt;
        empty = λ none. absurd (some none);
        keeps_layer_state = looked.keeps_layer_state;
        ok = λ well_formed. tt;
        err = λ well_formed not_resource_error. (looked.stays not_resource_error (record { seen = well_formed.seen; sure = inr (was_well_formed st old well_formed) })).0;
        room = λ well_formed whole. takes-kept R st sd dd {T = Bool} old new (Err e) k;
        crash_images = λ well_formed below. passes_weaker _ _ (st.state old.tables.file.image) (st.state new.tables.file.image)
            (λ f. left_weaker below is_sound (layer_of st old) (st.state old.tables.file.image).bytes (layer_of st old).size (layer_of st old).size GivesNone (GivesBytes guest bytes) (λ p v inside none. absurd none) f)
            (looked.crash_images well_formed below);
        mutating_call = went-kept R st sd dd old new {T = Bool} (Err e) k (IsNotResourceError e) (IsNotResourceError e) (λ w. w) (λ w. w);
        stays_begun = λ d call begun. tt;
      }

  -- The cause of a failed lookup as the cause of a write.
  pub told-why : (cause : IsWellFormed st old → HasCause (telling_causes st old new) e) → IsWellFormed st old
      → MappedCause (layer_of st old) guest place (length bytes) (st.state old.tables.file.image ∷ []) (st.state new.tables.file.image ∷ []) e
  told-why cause well_formed = from e (cause well_formed) where
    from : (e : Fault) → HasCause (telling_causes st old new) e → MappedCause (layer_of st old) guest place (length bytes) (st.state old.tables.file.image ∷ []) (st.state new.tables.file.image ∷ []) e
    from DamagedTable why = absurd (safe-undamaged st old well_formed why.0 why.1 why.2)
    from Memory why = tt
    from Storage why = inl why
    from e why = absurd why

  -- Memory ran out, and the image is unchanged.
  pub spared-writing : e ≡ Memory → WritingRefused (ghosts R st sd dd) guest place (length bytes) (Err e) old new
  spared-writing is = record {
    failed = subst (ImageCause (st.state old.tables.file.image ∷ []) (st.state new.tables.file.image ∷ [])) (sym is) tt;
    marks_failed = marks-kept R st sd dd {T = Bool} old new (Err e) k;
    cause = told-why (λ well_formed. subst (HasCause (telling_causes st old new)) (sym is) tt);
  }

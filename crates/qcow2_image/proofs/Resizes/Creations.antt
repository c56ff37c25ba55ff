-- Lemmas on the creation of an image: the smallest image is written, and its disk gets a size.
use Rattle.std.proofs.Common.{◌≡◌, ◌≢◌, ℕ, ◌+◌, ◌-◌, ◌*◌, ◌/◌, ◌^◌, ◌<◌, ◌≤◌, refl, arith, ap, sym, subst, ◌∙◌, inl, inr, Bool, true, false, List, [], ◌∷◌, Option, Some, None, Result, Ok, Err, length}
use Rattle.std.specs.Prelude.{◌⊎◌, IsTrue, IfErr, IsFalse, OnOk, String, replicate, slice_set, string_bytes}
use Rattle.std.specs.Borrow.{RattleType}
use Rattle.std.specs.declared.alloc.Global.{Global}
use Rattle.std.proofs.Math.Nat.{div-eq_of_lt, div-lt_iff_lt-mul, div_self, lt-div-mul-add, mod_self, pow-le-pow_right}
use Rattle.std.proofs.lemmas.Bool.{cases_Bool, lt-ltb}
use Rattle.std.proofs.lemmas.Bool.Decides.{nat_tests}
use Rattle.std.proofs.lemmas.List.{length-replicate}
use Rattle.std.proofs.lemmas.Nat.{mul-le, pow_pos}
use Rattle.std.proofs.lemmas.Str.{IsUtf8-string_bytes, is_utf8-from_IsUtf8}
use Rattle.imago_storage.specs.Calls.{Cause, ResizeRefused, Resized}
use Rattle.imago_storage.specs.State.{Shape, StorageState}
use Rattle.imago_storage.specs.Disk.{byte}
use Rattle.imago_storage.specs.Through.{WriteOutcome, WriteSucceeded}
use Rattle.imago_storage.specs.declared.fault.Fault.{Fault}
use Rattle.imago_storage.specs.declared.fault.Fault.TheVariants.{BadArgument, Counter, DamagedHeader, DamagedTable, Limit, Memory, Storage, Unsupported}
use Rattle.imago_storage.specs.declared.storage.Storage.{Ghosts}
use Rattle.imago_access.specs.Building.{IsOpened}
use Rattle.imago_access.specs.Layer.{Cell, own, unmapped}
use Rattle.imago_access.specs.declared.format.Format.TheVariants as format
use Rattle.imago_access.specs.declared.format.PreallocateMode.{PreallocateMode}
use Rattle.imago_access.specs.declared.format.PreallocateMode.TheVariants as mode
use Rattle.qcow2_types.specs.Bytes.{Bytes, bytes_of, splice}
use Rattle.qcow2_types.specs.Consistency.{leaks, tables_sound}
use Rattle.qcow2_types.specs.Counts.{counters_of_block, refcount_table_sound}
use Rattle.qcow2_types.specs.Entries.{entry, l1_table_sound}
use Rattle.qcow2_types.specs.Header.{Fields, Header, Shaped, cluster_size, entries_of_cluster, header_of, layout_of}
use Rattle.qcow2_types.specs.HeaderBytes.{fits_first_cluster, header_bytes, new_header, written, written_fields}
use Rattle.qcow2_types.specs.Switched.{with_refcount_table}
use Rattle.qcow2_types.specs.TableBytes.{Packs, table_bytes}
use Rattle.qcow2_types.proofs.Counting.Consistent.{some-words}
use Rattle.qcow2_types.specs.Words as mappings
use Rattle.qcow2_metadata.specs.Blocks.{Block, BlockPut}
use Rattle.qcow2_metadata.specs.HeaderView.{seen_text}
use Rattle.qcow2_metadata.specs.Places.{IsPlaced, place_of}
use Rattle.qcow2_metadata.specs.Reloading.{is_text}
use Rattle.qcow2_metadata.specs.Tables.{CanBeReferenced, IsEnough, IsGrownLength, TableValue, padded, table_start}
use Rattle.qcow2_metadata.specs.Writing.{IsTooLong, NotAsked}
use Rattle.qcow2_alloc.specs.Causes.{HasCause}
use Rattle.qcow2_alloc.proofs.Flushing.EntryFlushes.{spliced-bytes}
use Rattle.qcow2_steps.specs.Values.{own_value_by}
use Rattle.qcow2_steps.specs.SmallestImage.{AreFirstCounters, AreFirstEntries, IsSmallestImage, incremented, smallest_header, with_parts}
use Rattle.qcow2_steps.proofs.NewImages.{first-clusters, first-counters, first-entries, first-length, smallest-reloadable, smallest-written}
use Rattle.qcow2_steps.proofs.SmallestImages.{counters-least, smallest-consistent, smallest-leaks, smallest-unmapped}
use Rattle.qcow2_image.specs.Allocating.{FlushesFreed, pending_causes, reserving_causes}
use Rattle.qcow2_image.specs.Creating.{AreAllowed, GrowsSmallest, HasParts, HoldsSmallest, IsFirstHeader, IsHeaderTooLong, IsNewImage, IsNewQcow2, LacksNewRoom, Lengthens, Options, WhyNoDisk, WhyNotCreated, WhyNotGrown, WhyNotLengthened, WhyNotMade, WhyNotPut, named, new_cell, with_first_table}
use Rattle.qcow2_image.specs.Growing.{GrowsZeroed, IsWithin, LacksRoom, clusters_over}
use Rattle.qcow2_image.specs.ImageLayer.{cell_by, meaning_of, qcow2_meaning}
use Rattle.qcow2_image.specs.Holding.{mapping_id_held}
use Rattle.qcow2_image.specs.Opening.{IsOpenedAs, WhyNotOpened, header_for}
use Rattle.qcow2_image.specs.KeepsDisk.{HasSameFormat}
use Rattle.qcow2_image.specs.Resizing.{GrowsDisk, KeepsMappings, LacksL1}
use Rattle.qcow2_image.specs.Rooms.{IsWellFormed}
use Rattle.qcow2_image.specs.Seen.{file_of}
use Rattle.qcow2_image.specs.Unspent.{holding_in}
use Rattle.qcow2_image.specs.contracts.qcow2.Qcow2DriverModel.TheImpl.{ghosts}
use Rattle.qcow2_image.specs.declared.creating.Qcow2CreateBuilder.{Qcow2CreateBuilder}
use Rattle.qcow2_image.specs.declared.qcow2.Qcow2.{Qcow2}
use Rattle.qcow2_image.proofs.Leaks.{leaks-both}
use Rattle.qcow2_image.proofs.LeaksWithNothingPending.{none-pending, opened-pending}
use Rattle.qcow2_image.proofs.OpenRefusals.{none-refused, reading-refusal, reads-too}
use Rattle.qcow2_image.proofs.SameLeaks.{leaks-listed}

-- A refcount of 0 can be incremented, for each width.
pub one-fits : (order n : ℕ) → n ≡ 0 → n + 1 < 2 ^ 2 ^ order
one-fits order n none =
    let some = pow_pos order in
    let up : 1 ≤ 2 ^ order = omega (arith, some) in
    let le : 2 ^ 1 ≤ 2 ^ (2 ^ order) = pow-le-pow_right (omega arith) up in
    omega (arith, none, le)

-- The offsets of clusters 1 and 2 fit an entry.
pub first-placed : (bits : ℕ) → bits ≤ 21 → IsPlaced bits (Some 1)
first-placed bits high = let le : 2 ^ bits ≤ 2 ^ 21 = pow-le-pow_right (omega arith) high in omega (arith, le)

pub second-placed : (bits : ℕ) → bits ≤ 21 → IsPlaced bits (Some 2)
second-placed bits high = let le : 2 ^ bits ≤ 2 ^ 21 = pow-le-pow_right (omega arith) high in omega (arith, le)

pub second-referenced : (bits : ℕ) → bits ≤ 21 → CanBeReferenced bits (Some 2)
second-referenced bits high = let some = pow_pos bits in record { placed = second-placed bits high; cluster_nonzero = omega (arith, some) }

-- The counters of a new block are increased one by one.
pub counters-room : (h : Fields) → Shaped h → (counters : List ℕ) → counters ≡ replicate (counters_of_block h) 0 → 2 < length counters
counters-room h shaped counters is =
    let enough = counters-least h shaped in
    let all : length counters ≡ counters_of_block h = ap (λ (cs : List ℕ). length cs) is ∙ length-replicate (counters_of_block h) 0 in
    omega (arith, enough, all)

pub counters-counted : (h : Fields) → Shaped h → (none one two three : List ℕ) → none ≡ replicate (counters_of_block h) 0 → one ≡ incremented none 0
    → two ≡ incremented one 1 → three ≡ incremented two 2 → AreFirstCounters h three
counters-counted h shaped none one two three first second third last =
    subst (AreFirstCounters h) (sym (last ∙ ap (λ cs. incremented cs 2) (third ∙ ap (λ cs. incremented cs 1) (second ∙ ap (λ cs. incremented cs 0) first))))
    (first-counters h shaped)

-- A refcount table of one cluster is long enough.
pub first-enough : (h : Fields) → Shaped h → IsEnough (entries_of_cluster h) (counters_of_block h) 0 (entries_of_cluster h)
first-enough h shaped =
    let some : 0 < entries_of_cluster h = some-words h shaped in
    let enough = counters-least h shaped in
    let one-row : entries_of_cluster h / entries_of_cluster h ≡ 1 = div_self some in
    let product : 1 * 1 ≤ (entries_of_cluster h - 0) * (counters_of_block h - 1) =
    mul-le 1 1 (entries_of_cluster h - 0) (counters_of_block h - 1) (omega (arith, some)) (omega (arith, enough)) in
    record {
      whole = mod_self (entries_of_cluster h);
      above = some;
      room = subst (λ q. q ≤ (entries_of_cluster h - 0) * (counters_of_block h - 1)) (sym one-row) product;
    }

pub first-short : (h : Fields) → Shaped h → entries_of_cluster h ≤ 2 ^ 20
first-short h shaped = let le : 2 ^ h.cluster_bits ≤ 2 ^ 21 = pow-le-pow_right (omega arith) shaped.high in omega (arith, le)

-- The refcount table of a new image, with its first entry.
pub table-entered : (h : Fields) → Shaped h → (n : ℕ) → IsGrownLength (entries_of_cluster h) (counters_of_block h) 0 n
    → AreFirstEntries h (slice_set (padded [] n) 0 (2 * cluster_size h))
table-entered h shaped n grown =
    subst (λ (m : ℕ). AreFirstEntries h (slice_set (padded [] m) 0 (2 * cluster_size h))) (sym (first-length h shaped n grown)) (first-entries h shaped)

pub table-is : (h : Fields) → Shaped h → (raw raw' grown empty : List ℕ) (place : ℕ) → raw ≡ slice_set raw' 0 place → raw' ≡ grown
    → grown ≡ padded empty (length grown) → empty ≡ [] → place ≡ 2 * cluster_size h
    → IsGrownLength (entries_of_cluster h) (counters_of_block h) 0 (length grown) → AreFirstEntries h raw
table-is h shaped raw raw' grown empty place set moved longer none at enough =
    let content : grown ≡ padded [] (length grown) = longer ∙ ap (λ (ws : List ℕ). padded ws (length grown)) none in
    let all : raw ≡ slice_set (padded [] (length grown)) 0 (2 * cluster_size h) =
    set ∙ (ap (λ (ws : List ℕ). slice_set ws 0 place) (moved ∙ content) ∙ ap (λ (n : ℕ). slice_set (padded [] (length grown)) 0 n) at) in
    subst (AreFirstEntries h) (sym all) (table-entered h shaped (length grown) enough)

-- The header of a new image has a shape that the format allows.
pub first-shaped : (H : Header) → IsFirstHeader H → Shaped H.fields
first-shaped H first = subst (λ (K : Header). Shaped K.fields) (sym first.is) (record { order = first.narrow; low = first.low; high = first.high })

-- A text in memory is UTF-8.
pub text-seen : (text : Option (String Global)) → IsTrue (is_text (seen_text text))
text-seen None = refl
text-seen (Some text) = is_utf8-from_IsUtf8 (string_bytes text) (IsUtf8-string_bytes text)

-- The errors of a write are those of writing the smallest image.
pub put-refused : (H : Header) (before after : ℕ) (fault : Fault) → Cause before after fault → WhyNotPut H fault
put-refused H before after Memory why = tt
put-refused H before after Storage why = tt
put-refused H before after fault why = absurd why

-- The refcount block, the refcount table and the header were written one after the other.
module _ (H : Header) (first : IsFirstHeader H) (counters raw_entries bytes : List ℕ) (a b d e : StorageState)
    (numbers : AreFirstCounters H.fields counters) (packs : Packs H.fields.refcount_order counters bytes)
    (entries : AreFirstEntries H.fields raw_entries) (fits : IsTrue (fits_first_cluster (with_first_table H)))
    (block : WriteSucceeded a b (2 * cluster_size H.fields) bytes) (table : WriteSucceeded b d (cluster_size H.fields) (table_bytes raw_entries))
    (header : WriteSucceeded d e 0 (header_bytes (with_first_table H))) where
  written-there : IsTrue a.shape.keeps → bytes_of e.bytes ≡ with_parts (bytes_of a.bytes) (with_first_table H) bytes raw_entries
  written-there keeps =
      let keeps' : IsTrue b.shape.keeps = subst (λ (s : Shape). IsTrue s.keeps) (sym block.shape) keeps in
      let keeps'' : IsTrue d.shape.keeps = subst (λ (s : Shape). IsTrue s.keeps) (sym table.shape) keeps' in
      let one : bytes_of b.bytes ≡ splice (bytes_of a.bytes) (2 * cluster_size H.fields) bytes =
      spliced-bytes a.bytes (2 * cluster_size H.fields) bytes b.bytes (block.content keeps) in
      let two : bytes_of d.bytes ≡ splice (bytes_of b.bytes) (cluster_size H.fields) (table_bytes raw_entries) =
      spliced-bytes b.bytes (cluster_size H.fields) (table_bytes raw_entries) d.bytes (table.content keeps') in
      spliced-bytes d.bytes 0 (header_bytes (with_first_table H)) e.bytes (header.content keeps'')
      ∙ ap (λ (f : Bytes). splice f 0 (header_bytes (with_first_table H)))
      (two ∙ ap (λ (f : Bytes). splice f (cluster_size H.fields) (table_bytes raw_entries)) one)

  abbrev small : Header
  small = smallest_header first.bits first.order first.name first.format

  abbrev Made : Header → Type 0
  Made K = IsTrue (fits_first_cluster (with_first_table K)) → AreFirstCounters K.fields counters → Packs K.fields.refcount_order counters bytes
      → AreFirstEntries K.fields raw_entries → (f : Bytes) → f ≡ with_parts (bytes_of a.bytes) (with_first_table K) bytes raw_entries
      → IsSmallestImage f (written (with_first_table K))

  smallest-new : Made (new_header first.bits first.order first.name first.format None)
  smallest-new fits' numbers' packs' entries' f made = subst (λ (x : Bytes). IsSmallestImage x (written small)) (sym made)
      (smallest-written (bytes_of a.bytes) first.bits first.order first.name first.format counters bytes raw_entries
      (smallest-reloadable first.bits first.order first.name first.format first.low first.high first.narrow fits' first.named first.name_text
      first.format_text)
      (record { long = numbers'.long; allocated = numbers'.allocated; free = numbers'.free }) packs'
      (record { long = entries'.long; first = entries'.first; others = entries'.others }))

  pub parts-put : HasParts H a e
  parts-put = record {
    faults = header.faults ∙ (table.faults ∙ block.faults);
    image = λ keeps. subst Made (sym first.is) smallest-new fits numbers packs entries (bytes_of e.bytes) (written-there keeps);
  }

-- The parts were written, or the header wasn't.
module _ (H : Header) (first : IsFirstHeader H) (block : Block) (table : TableValue) (K : Header) (a b d e : StorageState) (r : Result Unit Fault)
    (numbers : AreFirstCounters H.fields block.counters) (order : block.order ≡ H.fields.refcount_order)
    (placed : (block.cluster_bits ≡ H.fields.cluster_bits) × (block.cluster ≡ Some 2))
    (entries : AreFirstEntries H.fields table.raw_entries) (placed' : (table.layout ≡ layout_of H.fields) × (table.cluster ≡ Some 1))
    (referenced : K ≡ with_refcount_table H (table_start table)
    ((8 * length table.raw_entries + (2 ^ H.fields.cluster_bits - 1)) / 2 ^ H.fields.cluster_bits))
    (put : BlockPut {T = Unit} block (place_of block.cluster_bits block.cluster) a b (Ok tt))
    (put' : WriteOutcome {T = Unit} b d (table_start table) (table_bytes table.raw_entries) (Ok tt))
    (last : IsTrue (fits_first_cluster K) → WriteOutcome d e 0 (header_bytes K) r)
    (long : IsFalse (fits_first_cluster K) → NotAsked K d e r) where
  table-at : table_start table ≡ cluster_size H.fields
  table-at = (λ i. place_of (placed'.0 i).cluster_bits (placed'.1 i)) ∙ omega arith

  block-at : place_of block.cluster_bits block.cluster ≡ 2 * cluster_size H.fields
  block-at = λ i. place_of (placed.0 i) (placed.1 i)

  header-is : K ≡ with_first_table H
  header-is = referenced ∙ (λ i. with_refcount_table H (table-at i)
      ((ap (λ (n : ℕ). (8 * n + (2 ^ H.fields.cluster_bits - 1)) / 2 ^ H.fields.cluster_bits) entries.long
      ∙ first-clusters H.fields (first-shaped H first)) i))

  put-all : (q : Result Unit Fault) → IsTrue (fits_first_cluster K) → WriteOutcome d e 0 (header_bytes K) q → OnOk q (HasParts H a e)
  put-all (Err fault) fits outcome = tt
  put-all (Ok done) fits outcome = parts-put H first block.counters table.raw_entries put.bytes a b d e numbers
      (subst (λ (n : ℕ). Packs n block.counters put.bytes) order put.packs) entries (subst (λ (L : Header). IsTrue (fits_first_cluster L)) header-is fits)
      (subst (λ (at : ℕ). WriteSucceeded a b at put.bytes) block-at put.put.put.answer)
      (subst (λ (at : ℕ). WriteSucceeded b d at (table_bytes table.raw_entries)) table-at put'.answer)
      (subst (λ (L : Header). WriteSucceeded d e 0 (header_bytes L)) header-is outcome.answer)

  none-put : (q : Result Unit Fault) → NotAsked K d e q → OnOk q (HasParts H a e)
  none-put (Err fault) asked = tt
  none-put (Ok done) asked = absurd asked.0

  pub parts-written : OnOk r (HasParts H a e)
  parts-written = elim (cases_Bool (fits_first_cluster K)) [
    | inl fits ↦ put-all r fits (last fits)
    | inr unfit ↦ none-put r (long unfit)
  ]

  put-failed : (q : Result Unit Fault) → WriteOutcome d e 0 (header_bytes K) q → IfErr q (WhyNotPut H)
  put-failed (Ok done) outcome = tt
  put-failed (Err fault) outcome = put-refused H d.faults e.faults fault outcome.answer.cause

  too-long-for : (fault : Fault) → IsFalse (fits_first_cluster K) → IsTooLong K fault → WhyNotPut H fault
  too-long-for Memory unfit why = tt
  too-long-for (Limit number) unfit why =
      subst (λ (L : Header). IsFalse (fits_first_cluster L) × (number ≡ length (header_bytes L))) header-is (unfit, why)
  too-long-for fault unfit why = absurd why

  none-failed : (q : Result Unit Fault) → IsFalse (fits_first_cluster K) → NotAsked K d e q → IfErr q (WhyNotPut H)
  none-failed (Ok done) unfit asked = tt
  none-failed (Err fault) unfit asked = too-long-for fault unfit asked.0

  pub parts-refused : IfErr r (WhyNotPut H)
  parts-refused = elim (cases_Bool (fits_first_cluster K)) [
    | inl fits ↦ put-failed r (last fits)
    | inr unfit ↦ none-failed r unfit (long unfit)
  ]

  pub parts-shape : e.shape ≡ a.shape
  parts-shape = elim (cases_Bool (fits_first_cluster K)) [
    | inl fits ↦ (last fits).shape ∙ (put'.shape ∙ put.put.put.shape)
    | inr unfit ↦ ap (λ (s : StorageState). s.shape) (long unfit).1 ∙ (put'.shape ∙ put.put.put.shape)
  ]

-- The file is a smallest image, so it can be opened.
l1-sound : (f : Bytes) (h : Fields) → tables_sound f h ≡ true → l1_table_sound f h ≡ true
unfolding tables_sound
l1-sound f h sound = grind (arith, nat_tests)

counts-sound : (f : Bytes) (h : Fields) → tables_sound f h ≡ true → refcount_table_sound f h ≡ true
unfolding tables_sound
counts-sound f h sound = grind (arith, nat_tests)

smallest-opens : (f : Bytes) (H : Header) → IsSmallestImage f H → header_for true f ≡ Ok H
smallest-opens f H is =
    let sound = (smallest-consistent f H is).readable.tables in
    none-refused true f H is.loads is.data_inside (l1-sound f H.fields sound) (λ w. counts-sound f H.fields sound)

-- The disk got its size without preallocation.
pub lengthens : {S : Type 0} (g : Ghosts S) (size : ℕ) (way : PreallocateMode) → way ≡ mode.None → (d e : Qcow2 S g) (r : Result Unit Fault)
    → GrowsDisk g size d r e → OnOk r (KeepsMappings g d e) → OnOk r (Lengthens g size way d e)
lengthens g size way none d e (Err fault) grows keeps = tt
lengthens g size way none d e (Ok done) grows keeps = record {
  shape = grows.shape;
  faults = (grows.faults tt).0;
  unspent = grows.unspent;
  well_formed = λ well_formed. grows.well_formed well_formed tt;
  leaks = λ well_formed. grows.leaks well_formed tt;
  size_is = λ empty. grows.size;
  format = keeps.format;
  raw_entries = λ same. keeps.raw_entries;
  zeroed = λ other. absurd (other none);
}

-- Each byte of a new disk is in its guest clusters.
inside-disk : (c size p : ℕ) → 0 < c → p < size → IsWithin (clusters_over c 0) (clusters_over c size) (p / c)
inside-disk c size p some less =
    let none : (0 + (c - 1)) / c ≡ 0 = div-eq_of_lt (let low : 0 + (c - 1) < c = omega (arith, some) in low) in
    let over : size + (c - 1) < (size + (c - 1)) / c * c + c = lt-div-mul-add some in
    (omega (arith, none), (div-lt_iff_lt-mul some).1 (omega (arith, over, less, some)))

-- The disk got its size with preallocation.
pub lengthens-zeroed : {S : Type 0} (g : Ghosts S) (size : ℕ) (way : PreallocateMode) → (way ≡ mode.None → ⊥) → (d e : Qcow2 S g)
    (r : Result Unit Fault) → GrowsZeroed g size d r e → OnOk r (Lengthens g size way d e)
lengthens-zeroed g size way other d e (Err fault) grows = tt
lengthens-zeroed g size way other d e (Ok done) grows = record {
  shape = grows.resizes.shape;
  faults = (grows.resizes.faults tt).0;
  unspent = grows.resizes.unspent;
  well_formed = λ well_formed. grows.resizes.well_formed well_formed tt;
  leaks = λ well_formed. grows.resizes.leaks well_formed tt;
  size_is = λ empty. grows.resizes.size;
  format = grows.format;
  raw_entries = λ none. absurd (other none);
  zeroed = λ same well_formed empty p less.
      let c = cluster_size d.tables.file.header.fields in
      let within = inside-disk (cluster_size d.tables.file.header.fields) size p (pow_pos d.tables.file.header.fields.cluster_bits) less in
      grows.zeroed well_formed p (subst (λ (b : ℕ). IsWithin (clusters_over c d.tables.file.header.fields.size) (clusters_over c size) (p / 2 ^ b))
      (sym grows.resizes.bits)
      (subst (λ (n : ℕ). IsWithin (clusters_over c n) (clusters_over c size) (p / c)) (sym empty) within));
}

-- The disk had its size already.
pub lengthened-same : {S : Type 0} (g : Ghosts S) (size : ℕ) (way : PreallocateMode) (d : Qcow2 S g) → size ≤ d.tables.file.header.fields.size
    → Lengthens g size way d d
lengthened-same g size way d reached = record {
  shape = refl;
  faults = refl;
  unspent = refl;
  well_formed = λ well_formed. well_formed;
  leaks = λ well_formed c. refl;
  size_is = λ none. omega (arith, none, reached);
  format = record { cluster_bits = refl; refcount_order = refl; backing_name = refl; backing_format = refl };
  raw_entries = λ none well_formed guest. refl;
  zeroed = λ other well_formed none p less. absurd (let low : p < 0 = omega (arith, less, reached, none) in omega (arith, low));
}

-- With preallocation, a guest cluster may be the one that can't be allocated.
room-zeroed : {S : Type 0} (g : Ghosts S) (d : Qcow2 S g) (size : ℕ) (way : PreallocateMode) (number : ℕ) → (way ≡ mode.None → ⊥)
    → LacksRoom g d size number → LacksNewRoom g d size way number
room-zeroed g d size mode.None number other lacks = absurd (other refl)
room-zeroed g d size mode.Zero number other lacks = lacks
room-zeroed g d size mode.FormatAllocate number other lacks = lacks
room-zeroed g d size mode.FullAllocate number other lacks = lacks
room-zeroed g d size mode.WriteData number other lacks = lacks

-- The disk didn't get its size.
module _ {S : Type 0} (g : Ghosts S) (size : ℕ) (way : PreallocateMode) (d e : Qcow2 S g) where
  why-lengthened : (full : ℕ → Type 0) → ((number : ℕ) → full number → LacksNewRoom g d size way number) → (fault : Fault)
      → HasCause (reserving_causes g full d e) fault → WhyNotLengthened g size way d e fault
  why-lengthened full lacks Memory why = tt
  why-lengthened full lacks Storage why = why
  why-lengthened full lacks DamagedTable why = why
  why-lengthened full lacks Counter why = why
  why-lengthened full lacks (Limit number) why = λ ready. lacks number (why ready)
  why-lengthened full lacks fault why = absurd why

  pub unlengthened : way ≡ mode.None → (r : Result Unit Fault) → IfErr r (HasCause (reserving_causes g (LacksL1 g d size) d e))
      → IfErr r (WhyNotLengthened g size way d e)
  unlengthened none (Ok done) why = tt
  unlengthened none (Err fault) why = why-lengthened (LacksL1 g d size)
      (λ number lacks. subst (λ (w : PreallocateMode). LacksNewRoom g d size w number) (sym none) lacks) fault why

  pub unzeroed : (way ≡ mode.None → ⊥) → (r : Result Unit Fault) → IfErr r (HasCause (reserving_causes g (LacksRoom g d size) d e))
      → IfErr r (WhyNotLengthened g size way d e)
  unzeroed other (Ok done) why = tt
  unzeroed other (Err fault) why = why-lengthened (LacksRoom g d size) (λ number lacks. room-zeroed g d size way number other lacks) fault why

-- The cells of a new disk are unmapped or 0.
new-cells : (way : PreallocateMode) → (way ≡ mode.None) ⊎ ((way ≡ mode.None → ⊥) × (new_cell way ≡ own (byte 0)))
new-cells mode.None = inl refl
new-cells mode.Zero = inr ((λ e. absurd (cc e)), refl)
new-cells mode.FormatAllocate = inr ((λ e. absurd (cc e)), refl)
new-cells mode.FullAllocate = inr ((λ e. absurd (cc e)), refl)
new-cells mode.WriteData = inr ((λ e. absurd (cc e)), refl)

-- A byte with the value 0 has that cell.
cell-zero : (blank : Cell) (f : Bytes) (h : Fields) (p : ℕ) (m : mappings.Mapping) → own_value_by f h p m ≡ Some (byte 0)
    → cell_by blank f h p m ≡ own (byte 0)
cell-zero blank f h p (mappings.data_at cluster copied) is = cc is
cell-zero blank f h p (mappings.zeroes cluster copied) is = refl
cell-zero blank f h p (mappings.packed offset length) is = absurd (cc is)
cell-zero blank f h p mappings.unmapped is = absurd (cc is)
cell-zero blank f h p mappings.damaged is = absurd (cc is)

module _ (R : RattleType) (st : Ghosts R.Denot) (sd : mir.Syntax.Dict) (dd : mir.Syntax.Dict) (before : StorageState)
    {tables blocks : ℕ} (d : Qcow2 R.Denot st) (opened : IsOpenedAs st before true (Some false) 0 tables blocks d)
    (seen : IsOpened (ghosts R st sd dd) format.Qcow2 true 0 before d) where
  same : st.state d.tables.file.image ≡ before
  same = opened.tables.same

  -- The image that was opened is well-formed.
  module _ (keeps : IsTrue before.shape.keeps) (H : Header) (small : IsSmallestImage (bytes_of before.bytes) H) where
    header-there : d.tables.file.header ≡ H
    header-there =
        let here : header_of false (bytes_of before.bytes) ≡ Ok d.tables.file.header =
        ap (λ (s : StorageState). header_of false (bytes_of s.bytes)) (sym same) ∙ opened.tables.seen.loads in
        let there = reads-too true (bytes_of before.bytes) H small.loads in
        let e = sym here ∙ there in cc

    opened-small : IsSmallestImage (file_of st d.tables) d.tables.file.header
    opened-small = subst (λ (s : StorageState). IsSmallestImage (bytes_of s.bytes) d.tables.file.header) (sym same)
        (subst (IsSmallestImage (bytes_of before.bytes)) (sym header-there) small)

    pub opened-well-formed : IsWellFormed st d
    opened-well-formed = seen.well_formed (subst (λ (s : StorageState). IsTrue s.shape.keeps) (sym same) keeps)
        (d.tables.file.header, smallest-consistent (file_of st d.tables) d.tables.file.header opened-small)

  -- The disk got its size, and the image was flushed.
  module _ (size : ℕ) (way : PreallocateMode) (e n : Qcow2 R.Denot st) (l : Lengthens st size way d e) (f : FlushesFreed st e (Ok tt) n) where
    pub free : n.unspent ≡ None
    free = f.keeps.unspent ∙ (l.unspent ∙ opened.free)

    module _ (keeps : IsTrue before.shape.keeps) (H : Header) (small : IsSmallestImage (bytes_of before.bytes) H) where
      first-safe : IsWellFormed st d
      first-safe = opened-well-formed keeps H small

      longer-safe : IsWellFormed st e
      longer-safe = l.well_formed first-safe

      last-safe : IsWellFormed st n
      last-safe = f.keeps.safely longer-safe tt

      first-small : IsSmallestImage (file_of st d.tables) d.tables.file.header
      first-small = opened-small keeps H small

      none-mapped : way ≡ mode.None → (guest : ℕ) → entry (file_of st n.tables) n.tables.file.header.fields guest ≡ mappings.unmapped
      none-mapped none guest = f.keeps.raw_entries longer-safe tt guest ∙ (l.raw_entries none first-safe guest
          ∙ smallest-unmapped (file_of st d.tables) d.tables.file.header first-small guest)

      size-there : n.tables.file.header.fields.size ≡ size
      size-there = ap (λ (K : Header). K.fields.size) f.header ∙ l.size_is first-small.size

      abbrev cell : ℕ → Cell
      cell = (qcow2_meaning unmapped (st.state n.tables.file.image).bytes).cell

      cell-is : (p : ℕ) → p < size → cell p ≡ cell_by unmapped (file_of st n.tables) n.tables.file.header.fields p
          (entry (file_of st n.tables) n.tables.file.header.fields (p / cluster_size n.tables.file.header.fields))
      cell-is p less =
          let F = file_of st n.tables in let h = n.tables.file.header.fields in
          ap (λ (r : Result Header Fault). (meaning_of unmapped F r).cell p) last-safe.seen.loads
          ∙ (rw (lt-ltb p h.size (omega (arith, less, size-there))) refl)

      shows : (p : ℕ) → p < size → cell p ≡ new_cell way
      shows p less =
          let F = file_of st n.tables in let h = n.tables.file.header.fields in
          elim (new-cells way) [
            | inl none ↦ cell-is p less ∙ (ap (cell_by unmapped F h p) (none-mapped none (p / cluster_size h)) ∙ sym (ap new_cell none))
            | inr other ↦ cell-is p less ∙ (cell-zero unmapped F h p (entry F h (p / cluster_size h))
                (f.keeps.values longer-safe tt p ∙ l.zeroed other.0 first-safe first-small.size p less) ∙ sym other.1)
          ]

      last-leaks : leaks (file_of st n.tables) n.tables.file.header.fields ≡ []
      last-leaks = leaks-listed st d n first-safe last-safe (leaks-both st d e n (l.leaks first-safe) (f.leaks longer-safe tt))
          (opened-pending st before true (Some false) 0 tables blocks d opened)
          (none-pending st n f.emptied (ap (λ u. mapping_id_held (holding_in st u)) free))
          ∙ smallest-leaks (file_of st d.tables) d.tables.file.header first-small

      is-new : IsNewImage size way (st.state n.tables.file.image).bytes n.tables.file.header
      is-new = record { consistent = last-safe.consistent; no_leaks = last-leaks; size_is = size-there; shows = shows }

      same-format : HasSameFormat H n.tables.file.header
      same-format = record {
        cluster_bits = ap (λ (K : Header). K.fields.cluster_bits) f.header ∙ (l.format.cluster_bits
            ∙ ap (λ (K : Header). K.fields.cluster_bits) (header-there keeps H small));
        refcount_order = ap (λ (K : Header). K.fields.refcount_order) f.header ∙ (l.format.refcount_order
            ∙ ap (λ (K : Header). K.fields.refcount_order) (header-there keeps H small));
        backing_name = ap (λ (K : Header). K.backing_name) f.header ∙ (l.format.backing_name
            ∙ ap (λ (K : Header). K.backing_name) (header-there keeps H small));
        backing_format = ap (λ (K : Header). K.backing_format) f.header ∙ (l.format.backing_format
            ∙ ap (λ (K : Header). K.backing_format) (header-there keeps H small));
      }

    pub grows-smallest : GrowsSmallest size way before (st.state n.tables.file.image)
    grows-smallest = record {
      shape = f.keeps.shape ∙ (l.shape ∙ ap (λ (s : StorageState). s.shape) same);
      faults = (f.keeps.faults tt).0 ∙ (l.faults ∙ ap (λ (s : StorageState). s.faults) same);
      image = λ keeps H small. (n.tables.file.header, is-new keeps H small, same-format keeps H small);
    }

  well-formed-there : HoldsSmallest before → IsWellFormed st d
  well-formed-there held = opened-well-formed held.0 held.1.0 held.1.1

  -- The disk didn't get its size.
  pub not-grown : (size : ℕ) (way : PreallocateMode) (e : Qcow2 R.Denot st) (fault : Fault) → WhyNotLengthened st size way d e fault
      → WhyNotGrown st size way (HoldsSmallest before) fault
  not-grown size way e Memory why = tt
  not-grown size way e Storage why = tt
  not-grown size way e (Limit number) why = λ held. (
    d,
    well-formed-there held,
    opened-small held.0 held.1.0 held.1.1,
    why (well-formed-there held),
  )
  not-grown size way e DamagedHeader why = λ held.
      why (ap (λ (K : Header). K.fields.version) (header-there held.0 held.1.0 held.1.1) ∙ held.1.2)
  not-grown size way e DamagedTable why = λ held. why (well-formed-there held)
  not-grown size way e Counter why = λ held. why (well-formed-there held)
  not-grown size way e fault why = absurd why

  -- The image wasn't flushed.
  pub not-flushed : (size : ℕ) (way : PreallocateMode) (e n : Qcow2 R.Denot st) → Lengthens st size way d e → (fault : Fault)
      → HasCause (pending_causes st e n) fault → WhyNotGrown st size way (HoldsSmallest before) fault
  not-flushed size way e n l Memory why = tt
  not-flushed size way e n l Storage why = tt
  not-flushed size way e n l DamagedTable why = λ held. why (l.well_formed (well-formed-there held))
  not-flushed size way e n l Counter why = λ held. why (l.well_formed (well-formed-there held))
  not-flushed size way e n l fault why = absurd why

-- The image isn't opened.
pub not-opened : {S : Type 0} (g : Ghosts S) (size : ℕ) (way : PreallocateMode) (before : StorageState) (state : S → StorageState) (fault : Fault)
    → WhyNotOpened state true (bytes_of before.bytes) fault → WhyNotGrown g size way (HoldsSmallest before) fault
not-opened g size way before state Memory why = tt
not-opened g size way before state Storage why = tt
not-opened g size way before state (Limit number) why = λ held. let is = smallest-opens _ _ held.1.1 in absurd (let e = sym is ∙ why in cc)
not-opened g size way before state DamagedHeader why = λ held. let is = smallest-opens _ _ held.1.1 in absurd (let e = sym is ∙ why in cc)
not-opened g size way before state DamagedTable why = λ held. let is = smallest-opens _ _ held.1.1 in absurd (let e = sym is ∙ why in cc)
not-opened g size way before state Unsupported why = λ held. let is = smallest-opens _ _ held.1.1 in absurd (let e = sym is ∙ why in cc)
not-opened g size way before state fault why = absurd (reading-refusal true (bytes_of before.bytes) fault why)

-- A backing file has a name.
pub named-some : (name text : Option (List ℕ)) → text ≡ named name → text ≢ Some []
named-some None text is none = absurd (let e = sym is ∙ none in cc)
named-some (Some []) text is none = absurd (let e = sym is ∙ none in cc)
named-some (Some (first ∷ others)) text is none = absurd (let e = sym is ∙ none in cc)

-- The image was created with a header of these options.
module _ (o : Options) (bits order : ℕ) (H : Header) (clusters : o.cluster_size ≡ 2 ^ bits) (width : o.refcount_width ≡ 2 ^ order)
    (is : H ≡ new_header bits order o.backing_name o.backing_format None) where
  pub is-made : (a b d e : StorageState) → Resized a b 0 → HasParts H b d → d.shape ≡ b.shape → GrowsSmallest o.size o.preallocate d e → IsNewQcow2 o a e
  unfolding written_fields
  is-made a b d e cut parts shape grows = record {
    shape = grows.shape ∙ (shape ∙ cut.changed.shape);
    faults = grows.faults ∙ (parts.faults ∙ cut.changed.faults);
    image = λ keeps.
        let keeps' : IsTrue b.shape.keeps = subst (λ (s : Shape). IsTrue s.keeps) (sym cut.changed.shape) keeps in
        let keeps'' : IsTrue d.shape.keeps = subst (λ (s : Shape). IsTrue s.keeps) (sym shape) keeps' in
        let made = grows.image keeps'' (written (with_first_table H)) (parts.image keeps') in (
          made.0,
          record {
            image = made.1;
            cluster_size = ap (λ (n : ℕ). 2 ^ n) (made.2.cluster_bits ∙ ap (λ (K : Header). K.fields.cluster_bits) is) ∙ sym clusters;
            refcount_width = ap (λ (n : ℕ). 2 ^ n) (made.2.refcount_order ∙ ap (λ (K : Header). K.fields.refcount_order) is) ∙ sym width;
            backing_name = made.2.backing_name ∙ ap (λ (K : Header). K.backing_name) is;
            backing_format = made.2.backing_format ∙ ap (λ (K : Header). K.backing_format) is;
          },
        );
  }

  -- The header is too long.
  too-long : (number : ℕ) → IsFalse (fits_first_cluster (with_first_table H)) × (number ≡ length (header_bytes (with_first_table H)))
      → IsHeaderTooLong o number
  too-long number why =
      let why' = subst (λ (K : Header). IsFalse (fits_first_cluster (with_first_table K)) × (number ≡ length (header_bytes (with_first_table K)))) is why in
      record { bits = bits; order = order; cluster_size = clusters; refcount_width = width; unfit = why'.0; number_is = why'.1 }

  pub put-unmade : {S : Type 0} (g : Ghosts S) (keeps : Type 0) (fault : Fault) → WhyNotPut H fault → WhyNotMade g keeps o fault
  put-unmade g keeps Memory why = tt
  put-unmade g keeps Storage why = tt
  put-unmade g keeps (Limit number) why = inr (inl (too-long number why))
  put-unmade g keeps fault why = absurd why

-- The errors of the steps are errors of a creation.
module _ {S : Type 0} (g : Ghosts S) (keeps : Type 0) (o : Options) where
  pub unmade : AreAllowed o.cluster_size o.refcount_width → (fault : Fault) → WhyNotMade g keeps o fault → WhyNotCreated g keeps o fault
  unmade allowed BadArgument why = absurd why
  unmade allowed fault why = (allowed, why)

  disk-refused : (has_backing : Bool) (fault : Fault) → WhyNoDisk o.size o.preallocate has_backing fault → WhyNotMade g keeps o fault
  disk-refused has_backing Unsupported why = tt
  disk-refused has_backing (Limit number) why = inl why
  disk-refused has_backing fault why = absurd why

  pub disk-unmade : (size : ℕ) (asked : PreallocateMode) (has_backing : Bool) → size ≡ o.size → asked ≡ o.preallocate → (fault : Fault)
      → WhyNoDisk size asked has_backing fault → WhyNotMade g keeps o fault
  disk-unmade size asked has_backing same same' fault why = disk-refused has_backing fault
      (subst (λ (n : ℕ). WhyNoDisk n o.preallocate has_backing fault) same (subst (λ (m : PreallocateMode). WhyNoDisk size m has_backing fault) same' why))

  pub cut-unmade : (a b : StorageState) (fault : Fault) → ResizeRefused a b fault → WhyNotMade g keeps o fault
  cut-unmade a b Unsupported why = tt
  cut-unmade a b Memory why = tt
  cut-unmade a b Storage why = tt
  cut-unmade a b fault why = absurd why.refused.cause

  pub grown-unmade : (held : Type 0) → (keeps → held) → (fault : Fault) → WhyNotGrown g o.size o.preallocate held fault → WhyNotMade g keeps o fault
  grown-unmade held from Memory why = tt
  grown-unmade held from Storage why = tt
  grown-unmade held from (Limit number) why = inr (inr (λ is. why (from is)))
  grown-unmade held from DamagedHeader why = λ is. why (from is)
  grown-unmade held from DamagedTable why = λ is. why (from is)
  grown-unmade held from Counter why = λ is. why (from is)
  grown-unmade held from Unsupported why = tt
  grown-unmade held from fault why = absurd why

-- The storage has the smallest image, of version 3, if it keeps what is written.
pub holds-smallest : (H : Header) (a b d : StorageState) → H.fields.version ≡ 3 → Resized a b 0 → HasParts H b d → d.shape ≡ b.shape
    → IsTrue a.shape.keeps → HoldsSmallest d
unfolding written_fields
holds-smallest H a b d version cut parts shape keeps =
    let keeps' : IsTrue b.shape.keeps = subst (λ (s : Shape). IsTrue s.keeps) (sym cut.changed.shape) keeps in
    (subst (λ (s : Shape). IsTrue s.keeps) (sym shape) keeps', (written (with_first_table H), parts.image keeps', version))

-- The header of a new image, with its texts.
pub first-header : {S : Type 0} (b : Qcow2CreateBuilder S) (bits order : ℕ) (name format : Option (String Global)) (H : Header) → 9 ≤ bits → bits ≤ 21
    → order ≤ 6 → seen_text name ≡ named (seen_text b.backing_name) → H ≡ new_header bits order (seen_text name) (seen_text format) None → IsFirstHeader H
first-header b bits order name format H low high narrow is made = record {
  bits = bits;
  order = order;
  low = low;
  high = high;
  narrow = narrow;
  name = seen_text name;
  format = seen_text format;
  named = named-some (seen_text b.backing_name) (seen_text name) is;
  name_text = text-seen name;
  format_text = text-seen format;
  is = made;
}

-- The values are allowed.
pub allowed-by : (cluster_size refcount_width bits order : ℕ) → (9 ≤ bits) × (bits ≤ 21) × (cluster_size ≡ 2 ^ bits)
    → (order ≤ 6) × (refcount_width ≡ 2 ^ order) → AreAllowed cluster_size refcount_width
allowed-by cluster_size refcount_width bits order clusters width = ((bits, clusters.0, clusters.1, clusters.2), (order, omega arith, width.0, width.1))

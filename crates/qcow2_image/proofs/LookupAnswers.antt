-- Lemmas from the entries that a lookup finds to the answer of the driver.
use Rattle.std.proofs.Common.{◌≡◌, ℕ, ◌+◌, ◌-◌, ◌*◌, ◌/◌, ◌%◌, ◌^◌, ◌<◌, ◌≤◌, refl, arith, ap, sym, subst, ◌∙◌, List, ◌∷◌, Bool, true, false, Some, None, Option, inl, inr}
use Rattle.std.specs.Prelude.{⊤, ◌⊎◌, slice_index, max, zero, suc, Option}
use Rattle.std.proofs.lemmas.Bool.{and_parts, lt-ltb}
use Rattle.std.proofs.lemmas.Nat.{pow_pos, mod_below}
use Rattle.std.proofs.Math.Nat.{pow-le-pow_right}
use Rattle.imago_storage.specs.State.{StorageState, IsAlignment}
use Rattle.imago_storage.specs.Disk.{byte, barred, damaged_place}
use Rattle.imago_storage.specs.declared.fault.Fault.{Fault}
use Rattle.imago_storage.specs.declared.fault.Fault.TheVariants.{DamagedTable, Memory, Storage}
use Rattle.imago_access.specs.Files.{byte_in}
use Rattle.imago_access.specs.Layer.{Layer, Cell, own}
use Rattle.imago_access.specs.Mappings.{IsOneOf, IsRun, IsAddressable, HasStoredAllocation, Looks, Names, ReportsAllocation, ReportsExplicitZero}
use Rattle.imago_access.specs.Refusals.{LookCause}
use Rattle.imago_access.specs.declared.mapping.ShallowMapping.TheVariants as shallow
use Rattle.imago_access.proofs.Units.{overflows_late, alignment_max}
use Rattle.qcow2_types.specs.Bytes.{Bytes, bytes_of}
use Rattle.qcow2_types.specs.Header.{Fields, cluster_size}
use Rattle.qcow2_types.specs.Words.{Mapping, data_at, zeroes, packed, damaged, max_offset}
use Rattle.qcow2_types.specs.Words as mappings
use Rattle.qcow2_types.specs.Entries.{entry}
use Rattle.qcow2_metadata.specs.MappingView.{mapping_seen, IsHostAddressable}
use Rattle.qcow2_metadata.specs.declared.mapping.L2Mapping.{L2Mapping}
use Rattle.qcow2_metadata.specs.declared.mapping.L2Mapping.TheVariants.{DataFile, Backing, Zero, Compressed}
use Rattle.qcow2_alloc.specs.Causes.{HasCause}
use Rattle.qcow2_image.specs.ImageLayer.{blank_of, cell_by, cells, writable_location_by, qcow2_layer, shallow_of, unmapped_answer, writable_locations}
use Rattle.qcow2_image.specs.declared.mode.OpenMode.{OpenMode}
use Rattle.qcow2_image.specs.Looking.{EndsNear, Follows, IsRunOf, looking_causes}
use Rattle.qcow2_clusters.specs.Linking.{TakesNone}
use Rattle.qcow2_image.specs.HeldHomes.{free-homes, words-first}
use Rattle.qcow2_image.specs.Holding.{PreparedMappingRun}
use Rattle.qcow2_image.specs.Rooms.{ReadsNone, MapsExplicitZero, IsExplicitZero, IsUnallocated, IsZeroed}
use Rattle.qcow2_image.specs.Homes.{home-there}
use Rattle.qcow2_image.proofs.Ranges.{cluster-of, in-run, byte-place}

-- The mapping of a guest cluster that is `k` clusters after another of the same run.
abbrev IsOn : Mapping → ℕ → Mapping → Type 0
IsOn (data_at c mark) k (data_at c' mark') = (c' ≡ c + k) × (mark' ≡ mark)
IsOn (zeroes c mark) k (zeroes c' mark') = ⊤
IsOn mappings.unmapped k mappings.unmapped = ⊤
IsOn (packed o n) k (packed o' n') = ⊤
IsOn m k m' = ⊥

on-first : (m : L2Mapping) → IsOn (mapping_seen m) 0 (mapping_seen m)
on-first (DataFile c mark) = (omega arith, refl)
on-first (Backing o) = tt
on-first (Zero c mark) = tt
on-first (Compressed o n) = tt

on-data : (m b : Mapping) (d : ℕ) (y : Bool) (k : ℕ) → IsOn m k (data_at d y) → Follows (data_at d y) b → IsOn m (k + 1) b
on-data (data_at c x) (data_at e z) d y k on next = (omega (arith, on.0, next.0), next.1 ∙ on.1)
on-data (data_at c x) b d y k on next = absurd next
on-data m b d y k on next = absurd on

on-zeroes : (m b : Mapping) (d : Option ℕ) (y : Bool) (k : ℕ) → IsOn m k (zeroes d y) → Follows (zeroes d y) b → IsOn m (k + 1) b
on-zeroes (zeroes c x) (zeroes e z) d y k on next = tt
on-zeroes (zeroes c x) b None y k on next = absurd next
on-zeroes (zeroes c x) b (Some d) y k on next = absurd next
on-zeroes m b d y k on next = absurd on

on-unmapped : (m b : Mapping) (k : ℕ) → IsOn m k mappings.unmapped → Follows mappings.unmapped b → IsOn m (k + 1) b
on-unmapped mappings.unmapped mappings.unmapped k on next = tt
on-unmapped mappings.unmapped b k on next = absurd next
on-unmapped m b k on next = absurd on

on-next : (m a b : Mapping) (k : ℕ) → IsOn m k a → Follows a b → IsOn m (k + 1) b
on-next m (data_at d y) b k on next = on-data m b d y k on next
on-next m (zeroes d y) b k on next = on-zeroes m b d y k on next
on-next m mappings.unmapped b k on next = on-unmapped m b k on next
on-next m (packed o n) b k on next = absurd next
on-next m damaged b k on next = absurd next

-- Each mapping of a run follows from the first.
pub on-run : (guest most : ℕ) (mapped : ℕ → Mapping) (run : L2Mapping × ℕ) → IsRunOf guest most mapped run → (k : ℕ) → k < run.1 → IsOn (mapping_seen run.0) k (mapped (guest + k))
on-run guest most mapped run is zero lt = subst (IsOn (mapping_seen run.0) 0) (is.first ∙ ap mapped here) (on-first run.0) where
  here : guest ≡ guest + 0
  here = omega arith
on-run guest most mapped run is (suc k) lt =
    let before = on-run guest most mapped run is k (omega (arith, lt)) in
    let next = is.each k (omega (arith, lt)) in
    let on = on-next (mapping_seen run.0) (mapped (guest + k)) (mapped (guest + k + 1)) k before next in
    let one : k + 1 ≡ suc k = omega arith in
    let two : guest + k + 1 ≡ guest + suc k = omega arith in
    subst (λ x. IsOn (mapping_seen run.0) (suc k) (mapped x)) two (subst (λ x. IsOn (mapping_seen run.0) x (mapped (guest + k + 1))) one on)

-- The cell of a byte whose mapping follows from another.
abbrev cell_on : Cell → Bytes → Fields → ℕ → ℕ → Mapping → Cell
cell_on blank f h k p (data_at c mark) = own (byte (f ((c + k) * cluster_size h + p % cluster_size h)))
cell_on blank f h k p (zeroes c mark) = own (byte 0)
cell_on blank f h k p (packed o n) = own barred
cell_on blank f h k p mappings.unmapped = blank
cell_on blank f h k p damaged = own damaged_place

says-on : (blank : Cell) (f : Bytes) (h : Fields) (k p : ℕ) (m m' : Mapping) → IsOn m k m' → cell_by blank f h p m' ≡ cell_on blank f h k p m
says-on blank f h k p (data_at c x) (data_at d y) on = ap (λ x. own (byte (f (x * cluster_size h + p % cluster_size h)))) on.0
says-on blank f h k p (zeroes c x) (zeroes d y) on = refl
says-on blank f h k p (packed o n) (packed o' n') on = refl
says-on blank f h k p mappings.unmapped mappings.unmapped on = refl
says-on blank f h k p (data_at c x) m' on = absurd on
says-on blank f h k p (zeroes c x) m' on = absurd on
says-on blank f h k p (packed o n) m' on = absurd on
says-on blank f h k p mappings.unmapped m' on = absurd on
says-on blank f h k p damaged m' on = absurd on

-- The location of a byte whose mapping follows from data with the COPIED flag.
home-on : (h : Fields) (c : ℕ) (mark : Bool) (k p : ℕ) (m : Mapping) → mark ≡ true → IsOn (data_at c mark) k m
    → writable_location_by h p m ≡ Some (0, (c + k) * cluster_size h + p % cluster_size h)
home-on h c mark k p (data_at d y) marked on =
    let copied : y ≡ true = on.1 ∙ marked in
    rw copied (ap (λ x. Some (0, x * cluster_size h + p % cluster_size h)) on.0)
home-on h c mark k p m marked on = absurd on

-- A byte that can be written in place gets such an answer.
home-named : (mode : OpenMode) (h : Fields) (p storage place : ℕ) (m : Mapping) → mode.writable ≡ true → writable_location_by h p m ≡ Some (storage, place)
    → shallow_of mode h.cluster_bits p (p % cluster_size h) m ≡ shallow.Raw storage place true
home-named mode h p storage place (data_at c true) writable is =
    let same : ◌≡◌ {A = ℕ × ℕ} (0, c * cluster_size h + p % cluster_size h) (storage, place) = cc is in
    rw writable (ap (λ (x : ℕ × ℕ). shallow.Raw x.0 x.1 true) same)
home-named mode h p storage place (data_at c false) writable is = absurd (cc is)
home-named mode h p storage place (zeroes c x) writable is = absurd (cc is)
home-named mode h p storage place (packed o n) writable is = absurd (cc is)
home-named mode h p storage place mappings.unmapped writable is = absurd (cc is)
home-named mode h p storage place damaged writable is = absurd (cc is)

-- Data is neither unallocated nor zero.
data-taken : (c k : ℕ) (mark : Bool) (m : Mapping) → IsOn (data_at c mark) k m → (TakesNone m ⊎ ReadsNone m) → ⊥
data-taken c k mark (data_at d y) on (inl none) = none
data-taken c k mark (data_at d y) on (inr none) = none
data-taken c k mark m on which = absurd on

-- Compressed data is neither.
packed-taken : (o l k : ℕ) (m : Mapping) → IsOn (packed o l) k m → (TakesNone m ⊎ ReadsNone m) → ⊥
packed-taken o l k (packed o' l') on (inl none) = none
packed-taken o l k (packed o' l') on (inr none) = none
packed-taken o l k m on which = absurd on

-- Either all mappings of a run are explicit zeroes, or none is.
zero-first : (m m' : Mapping) (k : ℕ) → IsOn m k m' → MapsExplicitZero m' → MapsExplicitZero m
zero-first (zeroes c x) m' k on says = tt
zero-first m (zeroes d y) k on says = absurd on
zero-first m m' k on says = absurd says

zero-on : (m m' : Mapping) (k : ℕ) → IsOn m k m' → MapsExplicitZero m → MapsExplicitZero m'
zero-on (zeroes c x) (zeroes d y) k on says = tt
zero-on (zeroes c x) m' k on says = absurd on
zero-on m m' k on says = absurd says

-- The answer of a lookup is a run.
pub is-run : (layer : Layer) (mode : OpenMode) (bits offset within n asked : ℕ) (m : L2Mapping) → offset < layer.size → n ≤ asked → offset + n ≤ layer.size → (0 < asked → 0 < n) → IsRun layer offset asked (shallow_of mode bits offset within (mapping_seen m)) n
is-run layer mode bits offset within n asked (DataFile c mark) lt few inside one = (lt, few, inside, one)
is-run layer mode bits offset within n asked (Zero c mark) lt few inside one = (lt, few, inside, one)
is-run layer mode bits offset within n asked (Compressed o l) lt few inside one = (lt, few, inside, one)
is-run layer mode bits offset within n asked (Backing o) lt few inside one = by mode.backing where
  by : (b : Bool) → IsRun layer offset asked (unmapped_answer b offset) n
  by true = (lt, few, inside, one)
  by false = (lt, few, inside, one)

pub names-one : (mode : OpenMode) (bits offset within : ℕ) (m : L2Mapping) → IsOneOf 1 (shallow_of mode bits offset within (mapping_seen m))
names-one mode bits offset within (DataFile c mark) = omega arith
names-one mode bits offset within (Zero c mark) = tt
names-one mode bits offset within (Compressed o l) = tt
names-one mode bits offset within (Backing o) = by mode.backing where
  by : (b : Bool) → IsOneOf 1 (unmapped_answer b offset)
  by true = tt
  by false = tt

pub ends-near : (mode : OpenMode) (bits offset within n : ℕ) (m : L2Mapping) → within < 2 ^ bits → IsHostAddressable bits m → n ≤ 2 ^ 42 → bits ≤ 21
    → EndsNear (shallow_of mode bits offset within (mapping_seen m)) n
ends-near mode bits offset within n (DataFile c mark) inside near few small =
    let power : 2 ^ bits ≤ 2 ^ 21 = pow-le-pow_right (omega arith) small in
    omega (arith, inside, near, few, power)
ends-near mode bits offset within n (Zero c mark) inside near few small = tt
ends-near mode bits offset within n (Compressed o l) inside near few small = tt
ends-near mode bits offset within n (Backing o) inside near few small = by mode.backing where
  by : (b : Bool) → EndsNear (unmapped_answer b offset) n
  by true = tt
  by false = tt

-- The answer of a lookup, for a range inside a run of clusters.
module _ (s : StorageState) (words-there : Bytes) (h : Fields) (mode : OpenMode) (number : ℕ) (failed : Bool) (hold : Option PreparedMappingRun) (offset n most : ℕ) (run : L2Mapping × ℕ)
    (clean : words-there ≡ bytes_of s.bytes) (inside : offset + n ≤ h.size) (short : n ≤ run.1 * cluster_size h - offset % cluster_size h)
    (is : IsRunOf (offset / cluster_size h) most (entry (bytes_of s.bytes) h) run) where
  abbrev f : Bytes
  f = bytes_of s.bytes

  abbrev layer : Layer
  layer = qcow2_layer s words-there h mode number failed hold

  abbrev within : ℕ
  within = offset % cluster_size h

  some : 0 < cluster_size h
  some = pow_pos h.cluster_bits

  -- The mapping of each byte follows from the first of the run.
  on-place : (i : ℕ) → i < n → IsOn (mapping_seen run.0) ((within + i) / cluster_size h) (entry f h ((offset + i) / cluster_size h))
  on-place i lt = subst (λ x. IsOn (mapping_seen run.0) ((within + i) / cluster_size h) (entry f h x)) (sym (cluster-of (cluster_size h) offset i some))
      (on-run (offset / cluster_size h) most (entry f h) run is ((within + i) / cluster_size h) (in-run (cluster_size h) offset i some run.1 n short lt))

  cell-at : (i : ℕ) → i < n → layer.cell (offset + i) ≡ cell_on (blank_of mode.backing) f h ((within + i) / cluster_size h) (offset + i) (mapping_seen run.0)
  cell-at i lt =
      let there = lt-ltb (offset + i) h.size (omega (arith, inside, lt)) in
      rw there (rw clean (says-on (blank_of mode.backing) f h ((within + i) / cluster_size h) (offset + i) (mapping_seen run.0) (entry f h ((offset + i) / cluster_size h)) (on-place i lt)))

  -- The answer says what each byte reads.
  pub names-run : (ss : List StorageState) (s' : StorageState) → s'.bytes ≡ s.bytes → Names layer (byte_in (s' ∷ ss)) offset n (shallow_of mode h.cluster_bits offset within (mapping_seen run.0))
  names-run ss s' bytes = from run.0 cell-at on-place where
    backing : (b : Bool) → ((i : ℕ) → i < n → layer.cell (offset + i) ≡ blank_of b) → blank_of b ≡ layer.fixed.blank → Names layer (byte_in (s' ∷ ss)) offset n (unmapped_answer b offset)
    backing true each blank = (each, refl, refl, (λ no. absurd (cc no)))
    backing false each blank = (each, (λ e. sym blank))

    from : (m : L2Mapping) → ((i : ℕ) → i < n → layer.cell (offset + i) ≡ cell_on (blank_of mode.backing) f h ((within + i) / cluster_size h) (offset + i) (mapping_seen m))
        → ((i : ℕ) → i < n → IsOn (mapping_seen m) ((within + i) / cluster_size h) (entry f h ((offset + i) / cluster_size h)))
        → Names layer (byte_in (s' ∷ ss)) offset n (shallow_of mode h.cluster_bits offset within (mapping_seen m))
    from (DataFile c mark) each on = (
      λ i lt. each i lt ∙ ap (λ x. own (byte (slice_index s.bytes x))) (byte-place (cluster_size h) offset i some c) ∙ ap (λ (l : List ℕ). own (byte (slice_index l (c * cluster_size h + within + i)))) (sym bytes),
      λ both. (and_parts mode.writable mark both).0,
      λ both i lt.
          let parts = and_parts mode.writable mark both in
          let there = lt-ltb (offset + i) h.size (omega (arith, inside, lt)) in
          words-first hold (writable_locations mode.writable words-there h) (offset + i) _ (rw (parts.0, there, clean)
          (home-on h c mark ((within + i) / cluster_size h) (offset + i) (entry f h ((offset + i) / cluster_size h)) parts.1 (on i lt)
          ∙ ap (λ x. Some (0, x)) (byte-place (cluster_size h) offset i some c))),
    )
    from (Zero c mark) each on = (each, (λ no. absurd (cc no)))
    from (Compressed o l) each on = (each, refl)
    from (Backing o) each on = backing mode.backing each refl

  -- No unallocated or zero byte is answered as data or as compressed.
  pub room-run : ReportsAllocation layer (IsUnallocated words-there h) (IsZeroed words-there h) offset n (shallow_of mode h.cluster_bits offset within (mapping_seen run.0))
  room-run = from run.0 on-place where
    backing : (b : Bool) → ReportsAllocation layer (IsUnallocated words-there h) (IsZeroed words-there h) offset n (unmapped_answer b offset)
    backing true = tt
    backing false = tt

    roomy : ((i : ℕ) → i < n → (TakesNone (entry f h ((offset + i) / cluster_size h)) ⊎ ReadsNone (entry f h ((offset + i) / cluster_size h))) → ⊥) → HasStoredAllocation layer (IsUnallocated words-there h) (IsZeroed words-there h) offset n
    roomy taken states i lt which = elim which [
      | inl unallocated ↦ elim unallocated [ inl behind ↦ absurd (omega (arith, behind, inside, lt)) | inr none ↦ taken i lt (inl (rw (sym clean) none)) ]
      | inr zeroed ↦ elim zeroed [ inl behind ↦ absurd (omega (arith, behind, inside, lt)) | inr none ↦ taken i lt (inr (rw (sym clean) none)) ]
    ]

    from : (m : L2Mapping) → ((i : ℕ) → i < n → IsOn (mapping_seen m) ((within + i) / cluster_size h) (entry f h ((offset + i) / cluster_size h))) → ReportsAllocation layer (IsUnallocated words-there h) (IsZeroed words-there h) offset n (shallow_of mode h.cluster_bits offset within (mapping_seen m))
    from (DataFile c mark) each = roomy (λ i lt. data-taken c ((within + i) / cluster_size h) mark (entry f h ((offset + i) / cluster_size h)) (each i lt))
    from (Zero c mark) each = tt
    from (Compressed o l) each = roomy (λ i lt. packed-taken o l ((within + i) / cluster_size h) (entry f h ((offset + i) / cluster_size h)) (each i lt))
    from (Backing o) each = backing mode.backing

  -- The answer is an explicit zero exactly if the entries say so.
  pub states-run : ReportsExplicitZero (IsExplicitZero words-there h) offset (shallow_of mode h.cluster_bits offset within (mapping_seen run.0), n)
  states-run = from run.0 on-place where
    none : (m : L2Mapping) → ((i : ℕ) → i < n → IsOn (mapping_seen m) ((within + i) / cluster_size h) (entry f h ((offset + i) / cluster_size h)))
        → (MapsExplicitZero (mapping_seen m) → ⊥) → (i : ℕ) → i < n → IsExplicitZero words-there h (offset + i) → ⊥
    none m each other i lt explicit_zero = other (zero-first (mapping_seen m) (entry f h ((offset + i) / cluster_size h)) ((within + i) / cluster_size h) (each i lt) (rw (sym clean) explicit_zero))

    backing : (b : Bool) → ((i : ℕ) → i < n → IsExplicitZero words-there h (offset + i) → ⊥) → ReportsExplicitZero (IsExplicitZero words-there h) offset (unmapped_answer b offset, n)
    backing true unsaid = unsaid
    backing false unsaid = unsaid

    from : (m : L2Mapping) → ((i : ℕ) → i < n → IsOn (mapping_seen m) ((within + i) / cluster_size h) (entry f h ((offset + i) / cluster_size h)))
        → ReportsExplicitZero (IsExplicitZero words-there h) offset (shallow_of mode h.cluster_bits offset within (mapping_seen m), n)
    from (DataFile c mark) each = none (DataFile c mark) each (λ is. is)
    from (Zero c mark) each = λ i lt. rw clean (zero-on (mapping_seen (Zero c mark)) (entry f h ((offset + i) / cluster_size h)) ((within + i) / cluster_size h) (each i lt) tt)
    from (Compressed o l) each = none (Compressed o l) each (λ is. is)
    from (Backing o) each = backing mode.backing (none (Backing o) each (λ is. is))

  -- Requests can reach the offsets of addressable clusters.
  pub reach-run : IsAlignment s.shape.req_align → IsAlignment s.shape.mem_align → IsHostAddressable h.cluster_bits run.0 → n ≤ 2 ^ 42 → cluster_size h ≤ 2 ^ 21 → IsAddressable layer offset (shallow_of mode h.cluster_bits offset within (mapping_seen run.0)) n
  reach-run requests memory named few small = from run.0 named where
    backing : (b : Bool) → IsAddressable layer offset (unmapped_answer b offset) n
    backing true = tt
    backing false = tt

    from : (m : L2Mapping) → IsHostAddressable h.cluster_bits m → IsAddressable layer offset (shallow_of mode h.cluster_bits offset within (mapping_seen m)) n
    from (DataFile c mark) near = λ over.
        let below : within < cluster_size h = mod_below offset (cluster_size h) some in
        absurd (overflows_late (max s.shape.req_align s.shape.mem_align) (c * cluster_size h + within) n (alignment_max s.shape.req_align s.shape.mem_align requests memory) (omega (arith, near, below, few, small)) over)
    from (Zero c mark) near = tt
    from (Compressed o l) near = tt
    from (Backing o) near = backing mode.backing

  -- So it is the answer of a lookup.
  pub looks-run : (asked : ℕ) (ss : List StorageState) (s' : StorageState) → s'.bytes ≡ s.bytes → IsAlignment s.shape.req_align → IsAlignment s.shape.mem_align → IsHostAddressable h.cluster_bits run.0 → n ≤ 2 ^ 42 → cluster_size h ≤ 2 ^ 21
      → Looks layer (byte_in (s' ∷ ss)) offset asked (shallow_of mode h.cluster_bits offset within (mapping_seen run.0)) n
  looks-run asked ss s' bytes requests memory named few small = record {
    names = names-run ss s' bytes;
    reach = reach-run requests memory named few small;
    writable_location = λ free some storage place at.
        let raw_entry : writable_locations mode.writable words-there h offset ≡ Some (storage, place) = sym (free-homes hold (writable_locations mode.writable words-there h) offset free) ∙ at in
        let there = home-there mode.writable words-there h offset (storage, place) raw_entry in
        let here : writable_location_by h offset (mapping_seen run.0) ≡ Some (storage, place) =
        ap (writable_location_by h offset) (is.first ∙ ap (λ m. entry m h (offset / cluster_size h)) (sym clean)) ∙ there.2 in
        home-named mode h offset storage place (mapping_seen run.0) there.0 here;
  }

-- The causes of a failed lookup.
pub look-cause : (s s' : StorageState) (ss ss' : List StorageState) (words-there : Bytes) (h : Fields) (mode : OpenMode) (number : ℕ) (failed : Bool) (hold : Option PreparedMappingRun) (offset asked : ℕ) (fault : Fault) → words-there ≡ bytes_of s.bytes → offset < h.size → 0 < asked
    → HasCause (looking_causes (entry (bytes_of s.bytes) h (offset / cluster_size h) ≡ damaged) s.faults s'.faults) fault → LookCause (qcow2_layer s words-there h mode number failed hold) offset asked (s ∷ ss) (s' ∷ ss') fault
look-cause s s' ss ss' words-there h mode number failed hold offset asked DamagedTable clean lt some why =
    let there = lt-ltb offset h.size lt in
    let here : cells (blank_of mode.backing) words-there (bytes_of s.bytes) h offset ≡ own damaged_place = rw there (rw clean (ap (cell_by (blank_of mode.backing) (bytes_of s.bytes) h offset) why)) in
    let place : offset + 0 ≡ offset = omega arith in
    (0, some, omega (arith, lt), subst (λ x. cells (blank_of mode.backing) words-there (bytes_of s.bytes) h x ≡ own damaged_place) (sym place) here)
look-cause s s' ss ss' words-there h mode number failed hold offset asked Memory clean lt some why = tt
look-cause s s' ss ss' words-there h mode number failed hold offset asked Storage clean lt some why = inl why
look-cause s s' ss ss' words-there h mode number failed hold offset asked fault clean lt some why = absurd why

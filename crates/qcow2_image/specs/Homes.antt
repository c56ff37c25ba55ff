-- Laws of the qcow2 driver: where in the file the bytes of the disk can be written in place.
use Rattle.std.proofs.Common.{inl, inr, sym, subst, ap, refl, arith, ◌∙◌}
use Rattle.std.specs.Prelude.{◌≡◌, ◌≢◌, ◌⊎◌, ℕ, ◌+◌, ◌*◌, ◌/◌, ◌%◌, ◌<◌, ltb, Bool, true, false, Option, Some, None, IsSome}
use Rattle.std.proofs.lemmas.Bool.{cases_Bool, cases_eq, ltb-true, le-ltb}
use Rattle.std.proofs.lemmas.Nat.{div-mul-add, mod-mul-add, div-add-mod', mod_below, pow_pos}
use Rattle.imago_storage.specs.declared.storage.Storage.{Ghosts}
use Rattle.qcow2_types.specs.Bytes.{Bytes}
use Rattle.qcow2_types.specs.Header.{Fields, Header, cluster_size, entries_of_cluster}
use Rattle.qcow2_types.specs.Words.{Mapping, data_at, zeroes, packed, damaged, unmapped}
use Rattle.qcow2_types.specs.Words as mappings
use Rattle.qcow2_types.specs.Entries.{entry, l2_table}
use Rattle.qcow2_types.specs.References.{structure, contents, of_mapping, of_copied, meets, refs}
use Rattle.qcow2_types.specs.Slots.{slot, Live}
use Rattle.qcow2_types.proofs.Counting.Consistent.{some-words, meets-own, consistent-shaped}
use Rattle.qcow2_types.proofs.Counting.Slots.{contents-slots}
use Rattle.qcow2_types.proofs.Showing.Shows.{guest-slot-there, guest-slot-none, guest-live}
use Rattle.qcow2_types.proofs.Showing.Values.{entry-slot}
use Rattle.qcow2_types.proofs.Changes.DataWrites.{slots-two}
use Rattle.qcow2_types.proofs.Changes.DataSteps.{marked-named-once, marked-apart-from-structure}
use Rattle.qcow2_types.specs.Consistency.{IsConsistent}
use Rattle.qcow2_alloc.specs.Caches.{cached_in}
use Rattle.qcow2_alloc.proofs.Memory.SafeLaws.{clean-memory}
use Rattle.qcow2_image.specs.ImageLayer.{writable_location_by, writable_locations}
use Rattle.qcow2_clusters.specs.Linking.{TakesNone}
use Rattle.qcow2_image.specs.Holding.{place_in}
use Rattle.qcow2_image.specs.Rooms.{HasCluster, ReadsNone, IsUnallocated, IsZeroed, HasRoom}
use Rattle.qcow2_image.specs.Seen.{file_of, memory_of}
use Rattle.qcow2_image.specs.declared.tables.Tables.{Tables}

-- Nothing in memory is dirty, so the metadata in memory is what the file says.
pub memory_is : {S : Type 0} (g : Ghosts S) (t : Tables S g) → memory_of g t ≡ file_of g t
memory_is g t = clean-memory (file_of g t) t.file.header.fields (cached_in t.caches) t.clean.0 t.clean.1

-- A mapping without an allocation, or one that reads as zeroes, has no writable location.
none-taken : (h : Fields) (p : ℕ) (m : Mapping) → TakesNone m ⊎ ReadsNone m → writable_location_by h p m ≡ None
none-taken h p mappings.unmapped which = refl
none-taken h p (zeroes cluster copied) which = refl
none-taken h p (packed offset length) which = refl
none-taken h p damaged which = refl
none-taken h p (data_at cluster false) which = refl
none-taken h p (data_at cluster true) (inl none) = absurd none
none-taken h p (data_at cluster true) (inr none) = absurd none

-- A mapping with a writable location has a cluster.
some-own : (h : Fields) (p : ℕ) (m : Mapping) → IsSome (writable_location_by h p m) → HasCluster m
some-own h p (data_at cluster copied) some = tt
some-own h p (zeroes (Some cluster) copied) some = tt
some-own h p (zeroes None copied) some = absurd (Prim.cc some)
some-own h p mappings.unmapped some = absurd (Prim.cc some)
some-own h p (packed offset length) some = absurd (Prim.cc some)
some-own h p damaged some = absurd (Prim.cc some)

pub without_writable_location : (writable : Bool) (m : Bytes) (h : Fields) (p : ℕ) → IsUnallocated m h p ⊎ IsZeroed m h p → writable_locations writable m h p ≡ None
without_writable_location false m h p which = refl
without_writable_location true m h p (inl (inl behind)) = rw (le-ltb p h.size behind) refl
without_writable_location true m h p (inr (inl behind)) = rw (le-ltb p h.size behind) refl
without_writable_location true m h p (inl (inr none)) = elim (cases_Bool (ltb p h.size)) [
  | inl t ↦ rw t (none-taken h p (entry m h (p / cluster_size h)) (inl none))
  | inr t ↦ rw t refl
]
without_writable_location true m h p (inr (inr none)) = elim (cases_Bool (ltb p h.size)) [
  | inl t ↦ rw t (none-taken h p (entry m h (p / cluster_size h)) (inr none))
  | inr t ↦ rw t refl
]

-- A byte that can be written in place is on the disk, and its location comes from its L2 entry.
pub home-there : (writable : Bool) (m : Bytes) (h : Fields) (p : ℕ) (home : ℕ × ℕ) → writable_locations writable m h p ≡ Some home
    → (writable ≡ true) × (p < h.size) × (writable_location_by h p (entry m h (p / cluster_size h)) ≡ Some home)
home-there false m h p home is = absurd (Prim.cc is)
home-there true m h p home is = elim (cases_Bool (ltb p h.size)) [
  | inl t ↦ (refl, ltb-true p h.size t, rw t at is)
  | inr t ↦ absurd (let none : writable_locations true m h p ≡ None = rw t refl in Prim.cc (sym none ∙ is))
]

some-is : {A : Type 0} (x : Option A) → IsSome x → (a : A) × (x ≡ Some a)
some-is None some = absurd (Prim.cc some)
some-is (Some a) some = (a, refl)

-- A byte that can be written in place is allocated.
pub housed : (writable : Bool) (m : Bytes) (h : Fields) (p : ℕ) → IsSome (writable_locations writable m h p) → HasRoom m h p
housed writable m h p some =
    let one = some-is (writable_locations writable m h p) some in
    let there = home-there writable m h p one.0 one.1 in
    record { inside = there.1; own = some-own h p (entry m h (p / cluster_size h)) (rw there.2 refl) }

-- The mapping of the guest cluster of a byte of the disk.
abbrev pub mapped : Bytes → Fields → ℕ → Mapping
mapped f h p = entry f h (p / cluster_size h)

-- The offset of a location in the file, if any.
abbrev file_place : Option (ℕ × ℕ) → ℕ
file_place None = 0
file_place (Some home) = home.1

-- A byte that can be written in place is in a data cluster with the COPIED flag.
pub home-of : (h : Fields) (p at : ℕ) (m : Mapping) → writable_location_by h p m ≡ Some (0, at)
    → (c : ℕ) × (m ≡ data_at c true) × (at ≡ place_in h c p)
home-of h p at (data_at c true) is = (c, refl, sym (ap file_place is))
home-of h p at (data_at c false) is = absurd cc
home-of h p at (zeroes cluster copied) is = absurd cc
home-of h p at (packed offset length) is = absurd cc
home-of h p at unmapped is = absurd cc
home-of h p at damaged is = absurd cc

-- A writable location is in the image file.
pub home-here : (h : Fields) (p : ℕ) (at : ℕ × ℕ) (m : Mapping) → writable_location_by h p m ≡ Some at → at ≡ (0, at.1)
home-here h p at (data_at c true) is = cc
home-here h p at (data_at c false) is = absurd cc
home-here h p at (zeroes cluster copied) is = absurd cc
home-here h p at (packed offset length) is = absurd cc
home-here h p at unmapped is = absurd cc
home-here h p at damaged is = absurd cc

-- The cluster and the offset inside it can be computed from an offset in a cluster.
pub cluster-there : (h : Fields) (at c p : ℕ) → at ≡ place_in h c p → at / cluster_size h ≡ c
cluster-there h at c p is =
    let below : p % cluster_size h < cluster_size h = mod_below p (cluster_size h) (pow_pos h.cluster_bits) in
    ap (λ x. x / cluster_size h) is ∙ div-mul-add c (cluster_size h) (p % cluster_size h) below

pub within-there : (h : Fields) (at c p : ℕ) → at ≡ place_in h c p → at % cluster_size h ≡ p % cluster_size h
within-there h at c p is =
    let below : p % cluster_size h < cluster_size h = mod_below p (cluster_size h) (pow_pos h.cluster_bits) in
    ap (λ x. x % cluster_size h) is ∙ mod-mul-add c (cluster_size h) (p % cluster_size h) below

same-parts : (a b d : ℕ) → a / d ≡ b / d → a % d ≡ b % d → a ≡ b
same-parts a b d rows columns =
    let product : a / d * d ≡ b / d * d = ap (λ x. x * d) rows in
    omega (arith, product, columns, div-add-mod' a d, div-add-mod' b d)

module _ (f : Bytes) (H : Header) (was : IsConsistent f H) where
  abbrev h : Fields
  h = H.fields

  abbrev per_table : ℕ
  per_table = entries_of_cluster h

  -- The L2 entry of a guest cluster whose data is in the file is in a table that exists.
  module _ (g c : ℕ) (copied : Bool) (is : entry f h g ≡ data_at c copied) where
    table-there : l2_table f h (g / per_table) ≢ 0
    table-there none =
        let not_referenced : entry f h g ≡ unmapped = entry-slot f h g was.readable.tables ∙ guest-slot-none f h g none in
        let bad : unmapped ≡ data_at c copied = sym not_referenced ∙ is in
        cc

    slot-there : slot f h (g / per_table) (g % per_table) ≡ data_at c copied
    slot-there = sym (guest-slot-there f h g table-there) ∙ (sym (entry-slot f h g was.readable.tables) ∙ is)

    live-there : Live (l2_table f h) h (g / per_table) (g % per_table)
    live-there = guest-live f h g (some-words h (consistent-shaped f H was)) table-there

    weighs-there : of_mapping h (meets h c) (slot f h (g / per_table) (g % per_table)) ≡ 1
    weighs-there = ap (of_mapping h (meets h c)) slot-there ∙ meets-own h c

  -- From here on the entry has the COPIED flag.
  module _ (g c : ℕ) (is : entry f h g ≡ data_at c true) where
    marked-there : of_copied h (meets h c) (slot f h (g / per_table) (g % per_table)) ≡ 1
    marked-there = ap (of_copied h (meets h c)) (slot-there g c true is) ∙ meets-own h c

    -- Its cluster is referenced once.
    pub data-once : refs f h c ≡ 1
    data-once = marked-named-once f H was c (g / per_table) (g % per_table) (live-there g c true is) marked-there

    -- No table, refcount block or header is in the cluster of the entry.
    pub data-apart-from-structure : structure f h (meets h c) ≡ 0
    data-apart-from-structure = marked-apart-from-structure f H was c (g / per_table) (g % per_table) (live-there g c true is) marked-there

    -- No other guest cluster has its data in the cluster of the entry.
    one-word : (g' : ℕ) (mark : Bool) → entry f h g' ≡ data_at c mark
        → (g' / per_table ≢ g / per_table) ⊎ (g' % per_table ≢ g % per_table) → ⊥
    unfolding refs
    one-word g' mark is' apart =
        let weight : ℕ → ℕ → ℕ = λ i j. of_mapping h (meets h c) (slot f h i j) in
        let both = slots-two (l2_table f h) h weight (g / per_table) (g % per_table) (g' / per_table) (g' % per_table)
        (live-there g c true is) (live-there g' c mark is') apart in
        let all = contents-slots f h (of_mapping h (meets h c)) in
        let once : structure f h (meets h c) + contents f h (of_mapping h (meets h c)) ≡ 1 = data-once in
        omega (arith, both, all, once, weighs-there g c true is, weighs-there g' c mark is')

    pub alone : (g' : ℕ) (mark : Bool) → entry f h g' ≡ data_at c mark → g ≡ g'
    alone g' mark is' = elim (cases_eq (g' / per_table) (g / per_table)) [
      | inr rows ↦ absurd (one-word g' mark is' (inl rows))
      | inl row ↦ elim (cases_eq (g' % per_table) (g % per_table)) [
        | inr columns ↦ absurd (one-word g' mark is' (inr columns))
        | inl column ↦ same-parts g g' per_table (sym row) (sym column)
      ]
    ]

  -- If a byte can be written at a location, it is the only one whose data is there.
  pub one-place : (p q at d : ℕ) (mark : Bool) → writable_location_by h p (mapped f h p) ≡ Some (0, at)
      → mapped f h q ≡ data_at d mark → at ≡ place_in h d q → p ≡ q
  one-place p q at d mark home is there =
      let found = home-of h p at (mapped f h p) home in
      let cluster : found.0 ≡ d = sym (cluster-there h at found.0 p found.2) ∙ cluster-there h at d q there in
      let within : p % cluster_size h ≡ q % cluster_size h = sym (within-there h at found.0 p found.2) ∙ within-there h at d q there in
      let guest = alone (p / cluster_size h) d (found.1 ∙ ap (λ c. data_at c true) cluster) (q / cluster_size h) mark is in
      same-parts p q (cluster_size h) guest within

  -- So no two bytes of the disk are written in place at one location of the file.
  pub one-home : (p q : ℕ) (at : ℕ × ℕ) → writable_location_by h p (mapped f h p) ≡ Some at → writable_location_by h q (mapped f h q) ≡ Some at → p ≡ q
  one-home p q at here there =
      let own-file : at ≡ (0, at.1) = home-here h p at (mapped f h p) here in
      let found = home-of h q at.1 (mapped f h q) (there ∙ ap Some own-file) in
      one-place p q at.1 found.0 true (here ∙ ap Some own-file) found.1 found.2

pub words-home : {S : Type 0} (g : Ghosts S) (t : Tables S g) (writable : Bool) (p q : ℕ) (at : ℕ × ℕ)
    → IsConsistent (file_of g t) t.file.header → writable_locations writable (memory_of g t) t.file.header.fields p ≡ Some at
    → writable_locations writable (memory_of g t) t.file.header.fields q ≡ Some at → p ≡ q
words-home g t writable p q at consistent first second =
    let h = t.file.header.fields in
    let one = home-there writable (memory_of g t) h p at first in
    let two = home-there writable (memory_of g t) h q at second in
    let in-file = λ (x : ℕ) (is : writable_location_by h x (entry (memory_of g t) h (x / cluster_size h)) ≡ Some at).
    subst (λ m. writable_location_by h x (entry m h (x / cluster_size h)) ≡ Some at) (memory_is g t) is in
    one-home (file_of g t) t.file.header consistent p q at (in-file p one.2) (in-file q two.2)

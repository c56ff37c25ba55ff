-- Laws of the qcow2 driver while a mapping is prepared (its run is written and not yet committed): where in the file the bytes of the disk
-- can be written.
use Rattle.std.proofs.Common.{inl, inr, sym, subst, ap, refl, arith, ◌∙◌}
use Rattle.std.specs.Prelude.{◌≡◌, ◌⊎◌, ℕ, ◌+◌, ◌-◌, ◌*◌, ◌/◌, ◌<◌, ◌≤◌, ltb, nat_le, ◌&&◌, Bool, true, false, Option, Some, None, IsSome, IfSome}
use Rattle.std.proofs.lemmas.Bool.{and_from, and_parts, cases_Bool, cases_lt, leb-true, ltb-true, le-leb, lt-ltb}
use Rattle.std.proofs.Math.Nat.{add-mul, mul-le-mul_right}
use Rattle.std.proofs.lemmas.Nat.{div-add-mod', mod_below, pow_pos}
use Rattle.imago_storage.specs.declared.storage.Storage.{Ghosts}
use Rattle.imago_access.specs.Layer.{loose}
use Rattle.qcow2_types.specs.Bytes.{Bytes}
use Rattle.qcow2_types.specs.Header.{Fields, cluster_size}
use Rattle.qcow2_types.specs.Words.{data_at}
use Rattle.qcow2_alloc.specs.GuestView.{Metadata, IsSound}
use Rattle.qcow2_steps.specs.Data.{IsHidden}
use Rattle.qcow2_steps.proofs.InvisibleClusters.{kept-hidden, reserved-hidden}
use Rattle.qcow2_image.specs.Holding.{PreparedMappingRun, IsHeld, IsOwnAs, mapping_id_held, has_guest, held_writable_location, held_place, held_with, writable_location_or, writable_locations_with, in_clusters, in_run}
use Rattle.qcow2_image.specs.Homes.{cluster-there, home-of, home-there, without_writable_location, housed, mapped, memory_is, words-home}
use Rattle.qcow2_image.specs.Rooms.{HoldsIn, IsWellFormed, IsUnallocated, IsZeroed, HasRoom, rest_of}
use Rattle.qcow2_image.specs.Seen.{file_of, writable_locations_of, layer_of, memory_of}
use Rattle.qcow2_image.specs.Unspent.{holding_in}
use Rattle.qcow2_image.specs.declared.qcow2.Qcow2.{Qcow2}
use Rattle.qcow2_image.specs.declared.unspent.Unspent.{Unspent}

-- No guest cluster reads a host cluster of the mapping before the commit links it.
pub own-hidden : (is_kept : Bool) (m : Metadata) (guest host : ℕ) → IsSound m → IsOwnAs is_kept m guest host
    → IsHidden m.file m.header.fields host
own-hidden true m guest host sound own = (kept-hidden m guest host sound own).0
own-hidden false m guest host sound own = (reserved-hidden m host sound own).0

-- If no mapping is prepared, the image has no run that waits for a commit.
pub none-held : (hold : Option PreparedMappingRun) → mapping_id_held hold ≡ None → hold ≡ None
none-held None free = refl
none-held (Some hold) free = absurd (Prim.cc free)

pub none-unspent : {S : Type 0} (g : Ghosts S) (u : Option (Unspent S g)) → holding_in g u ≡ None → u ≡ None
none-unspent g None is = refl
none-unspent g (Some u) is = absurd (Prim.cc is)

pub free_loose : (h : Fields) (file : Bytes) (hold : Option PreparedMappingRun) (p : ℕ) → mapping_id_held hold ≡ None → held_with h file hold p ≡ loose
free_loose h file None p free = refl
free_loose h file (Some hold) p free = absurd (Prim.cc free)

-- If no mapping is prepared, only the L2 entries say where a byte can be written.
pub free-homes : (hold : Option PreparedMappingRun) (home : ℕ → Option (ℕ × ℕ)) (p : ℕ) → mapping_id_held hold ≡ None → writable_locations_with hold home p ≡ home p
free-homes None home p free = refl
free-homes (Some hold) home p free = absurd (Prim.cc free)

-- The location that an L2 entry gives for a byte doesn't depend on whether a mapping is prepared.
pub words-first : (hold : Option PreparedMappingRun) (home : ℕ → Option (ℕ × ℕ)) (p : ℕ) (at : ℕ × ℕ) → home p ≡ Some at
    → writable_locations_with hold home p ≡ Some at
words-first None home p at is = is
words-first (Some hold) home p at is = ap (λ x. writable_location_or x (held_writable_location hold p)) is

pub run-from : (hold : PreparedMappingRun) (p : ℕ) → in_run hold p ≡ true → (hold.offset ≤ p) × (p < hold.offset + hold.length)
run-from hold p is = from (nat_le hold.offset p) (ltb p (hold.offset + hold.length)) refl refl is where
  from : (a b : Bool) → nat_le hold.offset p ≡ a → ltb p (hold.offset + hold.length) ≡ b → (a && b) ≡ true
      → (hold.offset ≤ p) × (p < hold.offset + hold.length)
  from true true low high both = (leb-true hold.offset p low, ltb-true p (hold.offset + hold.length) high)
  from true false low high both = absurd (Prim.cc both)
  from false b low high both = absurd (Prim.cc both)

pub first-in : (hold : PreparedMappingRun) → 0 < hold.length → in_run hold hold.offset ≡ true
first-in hold some =
    rw (le-leb hold.offset hold.offset (Prim.omega arith), lt-ltb hold.offset (hold.offset + hold.length) (Prim.omega (arith, some))) refl

-- An offset at or after the start of a cluster is in that cluster or a later one. An offset before its start is in an earlier one.
pub div-from : (c g p : ℕ) → g * c ≤ p → 0 < c → g ≤ p / c
div-from c g p low some = elim (cases_lt (p / c) g) [
  | inr from ↦ from
  | inl less ↦
      let le : (p / c + 1) * c ≤ g * c = mul-le-mul_right c (Prim.omega (arith, less)) in
      let split = div-add-mod' p c in
      let rest = mod_below p c some in
      absurd (Prim.omega (arith, le, split, rest, low))
]

pub div-to : (c g p : ℕ) → p < g * c → p / c < g
div-to c g p high = elim (cases_lt (p / c) g) [
  | inl less ↦ less
  | inr from ↦
      let le : g * c ≤ p / c * c = mul-le-mul_right c from in
      let split = div-add-mod' p c in
      absurd (Prim.omega (arith, le, split, high))
]

-- The offsets of the guest clusters of the mapping.
pub clusters-from : (h : Fields) (hold : PreparedMappingRun) (p : ℕ) → in_clusters h hold p ≡ true
    → ((hold.guest ≤ p / cluster_size h) × (p / cluster_size h < hold.guest + hold.count)) × (p < h.size)
clusters-from h hold p is =
    let both = and_parts (has_guest hold (p / cluster_size h)) (ltb p h.size) is in
    let guests = and_parts (nat_le hold.guest (p / cluster_size h)) (ltb (p / cluster_size h) (hold.guest + hold.count)) both.0 in (
      (leb-true hold.guest (p / cluster_size h) guests.0, ltb-true (p / cluster_size h) (hold.guest + hold.count) guests.1),
      ltb-true p h.size both.1,
    )

pub clusters-of : (h : Fields) (hold : PreparedMappingRun) (p : ℕ) → (hold.guest ≤ p / cluster_size h) × (p / cluster_size h < hold.guest + hold.count)
    → p < h.size → in_clusters h hold p ≡ true
clusters-of h hold p guests low =
    and_from (has_guest hold (p / cluster_size h)) (ltb p h.size)
    (and_from (nat_le hold.guest (p / cluster_size h)) (ltb (p / cluster_size h) (hold.guest + hold.count))
    (le-leb hold.guest (p / cluster_size h) guests.0) (lt-ltb (p / cluster_size h) (hold.guest + hold.count) guests.1))
    (lt-ltb p h.size low)

-- An offset of the run is in one of the guest clusters.
pub run-guest : (m : Metadata) (hold : PreparedMappingRun) → IsHeld m hold → (p : ℕ) → in_run hold p ≡ true
    → (hold.guest ≤ p / cluster_size m.header.fields) × (p / cluster_size m.header.fields < hold.guest + hold.count)
run-guest m hold held p is =
    let c : ℕ = cluster_size m.header.fields in
    let inside = run-from hold p is in
    let parts : (hold.guest + hold.count) * c ≡ hold.guest * c + hold.count * c = add-mul hold.guest hold.count c in (
      div-from c hold.guest p (Prim.omega (arith, held.first, inside.0)) (pow_pos m.header.fields.cluster_bits),
      div-to c (hold.guest + hold.count) p (Prim.omega (arith, held.last, inside.1, parts)),
    )

-- Two offsets in the file differ by as much as the two offsets on the disk.
pub held-linear : (h : Fields) (hold : PreparedMappingRun) (p : ℕ) → hold.guest ≤ p / cluster_size h
    → held_place h hold p + hold.guest * cluster_size h ≡ hold.host * cluster_size h + p
held-linear h hold p from =
    let c : ℕ = cluster_size h in
    let d : ℕ = p / c - hold.guest in
    let parts : (hold.host + d) * c ≡ hold.host * c + d * c = add-mul hold.host d c in
    let back : (hold.guest + d) * c ≡ hold.guest * c + d * c = add-mul hold.guest d c in
    let whole : hold.guest + d ≡ p / c = Prim.omega (arith, from) in
    let there : (hold.guest + d) * c ≡ p / c * c = ap (λ x. x * c) whole in
    Prim.omega (arith, parts, back, there, div-add-mod' p c)

-- The offset in the file of a byte of the run.
pub held-at : (m : Metadata) (hold : PreparedMappingRun) → IsHeld m hold → (p : ℕ) → in_run hold p ≡ true
    → hold.place + (p - hold.offset) ≡ held_place m.header.fields hold p
held-at m hold held p is =
    let inside = run-from hold p is in
    let one = held-linear m.header.fields hold p (run-guest m hold held p is).0 in
    let first = held-linear m.header.fields hold hold.offset (run-guest m hold held hold.offset (first-in hold held.long)).0 in
    Prim.omega (arith, held.placed, one, first, inside.0)

-- A location in the run belongs to a byte of the run.
home-held : (hold : PreparedMappingRun) (p : ℕ) (at : ℕ × ℕ) → held_writable_location hold p ≡ Some at
    → (in_run hold p ≡ true) × (at ≡ (0, hold.place + (p - hold.offset)))
home-held hold p at is = elim (cases_Bool (in_run hold p)) [
  | inl there ↦ (there, let here : Some (0, hold.place + (p - hold.offset)) ≡ Some at = rw there at is in Prim.cc (sym here))
  | inr away ↦ absurd (let none : None ≡ Some at = rw away at is in Prim.cc none)
]

module _ {S : Type 0} (g : Ghosts S) (d : Qcow2 S g) (well_formed : IsWellFormed g d) where
  abbrev h : Fields
  h = d.tables.file.header.fields

  module _ (hold : PreparedMappingRun) (holds : HoldsIn g d.tables hold) where
    -- No guest cluster reads the host clusters of the mapping.
    hidden : (i : ℕ) → i < hold.count → IsHidden (file_of g d.tables) h (hold.host + i)
    hidden i less = own-hidden hold.is_kept (rest_of g d.tables holds.space) (hold.guest + i) (hold.host + i)
        (subst (λ o. IfSome o (λ space. IsSound (rest_of g d.tables space))) holds.space_known well_formed.sound) (holds.held.own i less)

    -- No entry gives a location in the host clusters of the mapping.
    elsewhere : (p q at : ℕ) → in_run hold q ≡ true → writable_locations_of g d p ≡ Some (0, at) → at ≡ held_place h hold q → ⊥
    elsewhere p q at run home there =
        let is = home-there d.mode.writable (memory_of g d.tables) h p (0, at) home in
        let found = home-of h p at (mapped (memory_of g d.tables) h p) is.2 in
        let i : ℕ = q / cluster_size h - hold.guest in
        let guest = run-guest (rest_of g d.tables holds.space) hold holds.held q run in
        let same : found.0 ≡ hold.host + i = sym (cluster-there h at found.0 p found.2) ∙ cluster-there h at (hold.host + i) q there in
        let raw_entry : mapped (file_of g d.tables) h p ≡ data_at found.0 true =
        subst (λ (m : Bytes). mapped m h p ≡ data_at found.0 true) (memory_is g d.tables) found.1 in
        (hidden i (Prim.omega (arith, guest.0, guest.1))).dataless (p / cluster_size h) true (raw_entry ∙ ap (λ c. data_at c true) same)

  -- No two bytes of the disk are written at one location of the file. First, both locations come from L2 entries.
  module _ (p q : ℕ) (at : ℕ × ℕ) where
    abbrev raw_entry : ℕ → Option (ℕ × ℕ)
    raw_entry = writable_locations_of g d

    by-words : raw_entry p ≡ Some at → raw_entry q ≡ Some at → p ≡ q
    by-words = words-home g d.tables d.mode.writable p q at well_formed.consistent

    -- Second, both locations are in the run of the prepared mapping.
    in-held : (hold : PreparedMappingRun) → HoldsIn g d.tables hold → held_writable_location hold p ≡ Some at → held_writable_location hold q ≡ Some at → p ≡ q
    in-held hold holds one two =
        let here = home-held hold p at one in
        let there = home-held hold q at two in
        let low = run-from hold p here.0 in
        let low' = run-from hold q there.0 in
        let same : ◌≡◌ {A = ℕ × ℕ} (0, hold.place + (p - hold.offset)) (0, hold.place + (q - hold.offset)) = sym here.1 ∙ there.1 in
        let places : hold.place + (p - hold.offset) ≡ hold.place + (q - hold.offset) = ap (λ (x : ℕ × ℕ). x.1) same in
        Prim.omega (arith, places, low.0, low'.0)

  -- A location that an L2 entry gives is never in the run of the prepared mapping.
  apart : (hold : PreparedMappingRun) → HoldsIn g d.tables hold → (p q : ℕ) (at : ℕ × ℕ) → writable_locations_of g d p ≡ Some at → held_writable_location hold q ≡ Some at → ⊥
  apart hold holds p q at one two =
      let there = home-held hold q at two in
      let place = held-at (rest_of g d.tables holds.space) hold holds.held q there.0 in
      elsewhere hold holds p q (hold.place + (q - hold.offset)) there.0 (one ∙ ap Some there.1) place

  either : (hold : PreparedMappingRun) → HoldsIn g d.tables hold → (p q : ℕ) (at : ℕ × ℕ)
      → writable_locations_with (Some hold) (writable_locations_of g d) p ≡ Some at → writable_locations_with (Some hold) (writable_locations_of g d) q ≡ Some at → p ≡ q
  either hold holds p q at one two = from (writable_locations_of g d p) (writable_locations_of g d q) refl refl one two where
    from : (a b : Option (ℕ × ℕ)) → writable_locations_of g d p ≡ a → writable_locations_of g d q ≡ b → writable_location_or a (held_writable_location hold p) ≡ Some at
        → writable_location_or b (held_writable_location hold q) ≡ Some at → p ≡ q
    from (Some a) (Some b) is is' one two = by-words p q at (is ∙ one) (is' ∙ two)
    from (Some a) None is is' one two = absurd (apart hold holds p q at (is ∙ one) two)
    from None (Some b) is is' one two = absurd (apart hold holds q p at (is' ∙ two) one)
    from None None is is' one two = in-held p q at hold holds one two

  pub one_writable_location : (p q : ℕ) (at : ℕ × ℕ) → (layer_of g d).writable_location p ≡ Some at → (layer_of g d).writable_location q ≡ Some at → p ≡ q
  one_writable_location p q at = from (holding_in g d.unspent) refl well_formed.held where
    from : (hold : Option PreparedMappingRun) → holding_in g d.unspent ≡ hold → IfSome hold (HoldsIn g d.tables)
        → writable_locations_with hold (writable_locations_of g d) p ≡ Some at → writable_locations_with hold (writable_locations_of g d) q ≡ Some at → p ≡ q
    from None is holds one two = by-words p q at one two
    from (Some hold) is holds one two = either hold holds p q at one two

-- If no mapping is prepared, a byte that can be written is allocated. An unallocated byte, or one that reads as zero, can't be written.
pub reports_allocations : {S : Type 0} (g : Ghosts S) (d : Qcow2 S g) → mapping_id_held (holding_in g d.unspent) ≡ None → (p : ℕ) →
    let h = d.tables.file.header.fields in
    (IsUnallocated (memory_of g d.tables) h p ⊎ IsZeroed (memory_of g d.tables) h p → (layer_of g d).writable_location p ≡ None)
    × (IsSome ((layer_of g d).writable_location p) → HasRoom (memory_of g d.tables) h p)
reports_allocations g d free p =
    let same : (layer_of g d).writable_location p ≡ writable_locations_of g d p = free-homes (holding_in g d.unspent) (writable_locations_of g d) p free in (
      λ states. same ∙ without_writable_location d.mode.writable (memory_of g d.tables) d.tables.file.header.fields p states,
      λ some. housed d.mode.writable (memory_of g d.tables) d.tables.file.header.fields p (subst IsSome same some),
    )

-- Lemmas on lookups of the runs of a range, and what they say of the whole range.
use Rattle.std.proofs.Common.{◌≡◌, ◌≢◌, ℕ, zero, suc, ◌+◌, ◌-◌, ◌*◌, ◌/◌, ◌<◌, ◌≤◌, refl, arith, ap, sym, subst, ◌∙◌, inl, inr, Option, Some, None, [], ◌∷◌, Ok}
use Rattle.std.proofs.lemmas.Bool.{cases_lt, cases_Bool}
use Rattle.std.proofs.lemmas.Nat.{le-div, pow_pos}
use Rattle.std.proofs.Math.Nat.{div-mul-le_self, mul-le-mul_right}
use Rattle.std.specs.Prelude.{Bool, true, false, IfSome, min, ltb}
use Rattle.imago_storage.specs.State.{HasRisen}
use Rattle.imago_storage.specs.Disk.{damaged_place}
use Rattle.imago_storage.specs.declared.fault.Fault.{Fault}
use Rattle.imago_storage.specs.declared.fault.Fault.TheVariants.{DamagedTable, Failed, MissingData, Memory, Storage}
use Rattle.imago_storage.specs.declared.storage.Storage.{Ghosts}
use Rattle.imago_access.specs.Layer.{Layer, own}
use Rattle.imago_access.specs.Parts.{IsMappedAt}
use Rattle.imago_access.specs.Refusals.{LookCause, unusable_fault}
use Rattle.imago_access.specs.declared.mapping.ShallowMapping.{ShallowMapping}
use Rattle.qcow2_types.specs.Bytes.{Bytes, bytes_of}
use Rattle.qcow2_types.specs.Entries.{entry}
use Rattle.qcow2_types.specs.Header.{Fields, Header, cluster_size}
use Rattle.qcow2_types.specs.Words.{Mapping, data_at, zeroes, packed, damaged}
use Rattle.qcow2_types.specs.Words as mappings
use Rattle.qcow2_alloc.specs.Causes.{HasCause}
use Rattle.qcow2_image.specs.HeldHomes.{run-from, run-guest}
use Rattle.qcow2_image.specs.Holding.{PreparedMappingRun, HoldsRun, IsUncopied, mapping_id_held, held_writable_location, writable_location_or, writable_locations_with, in_run}
use Rattle.qcow2_image.specs.Homes.{mapped}
use Rattle.qcow2_image.specs.ImageLayer.{writable_location_by, writable_locations, shallow_of}
use Rattle.qcow2_image.specs.Looking.{Follows, IsWholeRun, IsWholeRunIn, answer_at, writable_place_of}
use Rattle.qcow2_image.specs.Rooms.{HoldsIn, IsCoherent, rest_of}
use Rattle.qcow2_image.specs.Writing.{IsWritableAt, telling_causes}
use Rattle.qcow2_image.specs.Seen.{IsCacheCoherent, file_of, writable_locations_of, layer_of, memory_of}
use Rattle.qcow2_image.specs.Steps.{KeepsImage}
use Rattle.qcow2_image.specs.Unspent.{holding_in}
use Rattle.qcow2_image.specs.declared.mode.OpenMode.{OpenMode}
use Rattle.qcow2_image.specs.declared.qcow2.Qcow2.{Qcow2}
use Rattle.qcow2_image.proofs.Preparations.FreshRuns.{uncopied-homeless}
use Rattle.qcow2_image.proofs.WritePlaces.{in-range, range-in}
use Rattle.qcow2_image.proofs.Steps.{layer-by, memory-is}

module _ (layer : Layer) (guest place : ℕ) where
  pub home-both : (n m at : ℕ) → at ≡ place + n → IsWritableAt layer guest place n → IsWritableAt layer (guest + n) at m → IsWritableAt layer guest place (n + m)
  home-both n m at behind first second i lt = elim (cases_lt i n) [
    | inl low ↦ first i low
    | inr high ↦
        let k : ℕ = i - n in
        let from : guest + n + k ≡ guest + i = omega (arith, high) in
        let to : at + k ≡ place + i = omega (arith, high, behind) in
        ap layer.writable_location (sym from) ∙ second k (omega (arith, lt, high)) ∙ ap (λ x. Some (0, x)) to
  ]

  -- A range with a byte that has no location isn't mapped.
  pub homeless-unmapped : (n k : ℕ) → k < n → layer.writable_location (guest + k) ≡ None → IsMappedAt layer guest place n → ⊥
  homeless-unmapped n k lt none mapped = cc (sym none ∙ mapped.1 k lt)

  -- Neither is a range with a byte that has another location.
  pub elsewhere-unmapped : (n k at : ℕ) → k < n → layer.writable_location (guest + k) ≡ Some (0, at) → at ≢ place + k → IsMappedAt layer guest place n → ⊥
  elsewhere-unmapped n k at lt home other mapped =
      let same : ◌≡◌ {A = ℕ × ℕ} (0, at) (mapped.0, place + k) = cc (sym home ∙ mapped.1 k lt) in
      other (ap (λ (x : ℕ × ℕ). x.1) same)

-- An error of a part is an error of the whole range.
pub why-told : {S : Type 0} (g : Ghosts S) (entry now new : Qcow2 S g) (offset n : ℕ) (fault : Fault) → layer_of g now ≡ layer_of g entry
    → now.failed ≡ false → (g.state now.tables.file.image).faults ≡ (g.state entry.tables.file.image).faults
    → LookCause (layer_of g now) offset n (g.state now.tables.file.image ∷ []) (g.state new.tables.file.image ∷ []) fault
    → HasCause (telling_causes g entry new) fault
why-told g entry now new offset n DamagedTable same runs faults why =
    let here : (offset + why.0 < (layer_of g now).size) × ((layer_of g now).cell (offset + why.0) ≡ own damaged_place) = (why.2, why.3) in
    let there = subst (λ (l : Layer). (offset + why.0 < l.size) × (l.cell (offset + why.0) ≡ own damaged_place)) same here in
    (offset + why.0, there.0, there.1)
why-told g entry now new offset n Memory same runs faults why = tt
why-told g entry now new offset n Storage same runs faults why = elim why [
  | inl rose ↦ subst (λ b. HasRisen b (g.state new.tables.file.image).faults) faults rose
  | inr none ↦ absurd none
]
why-told g entry now new offset n Failed same runs faults why =
    let none : unusable_fault (layer_of g now) ≡ None = rw runs refl in absurd (cc (sym none ∙ why))
why-told g entry now new offset n MissingData same runs faults why =
    let none : unusable_fault (layer_of g now) ≡ None = rw runs refl in absurd (cc (sym none ∙ why))
why-told g entry now new offset n fault same runs faults why = absurd why

pub kept-seen : {S : Type 0} (g : Ghosts S) (old new : Qcow2 S g) → KeepsImage {T = Unit} g old (Ok tt) new → IsCacheCoherent g old.tables
    → (layer_of g new ≡ layer_of g old) × IsCacheCoherent g new.tables
kept-seen g old new k seen = (
  layer-by (g.state old.tables.file.image) (g.state new.tables.file.image) (memory_of g old.tables) (memory_of g new.tables) old.tables.file.header.fields
      new.tables.file.header.fields old.mode new.mode old.number new.number old.failed new.failed (holding_in g old.unspent) (holding_in g new.unspent)
      k.tables.unchanged_but_faults.shape k.tables.unchanged_but_faults.bytes (memory-is g new.tables ∙ ap bytes_of k.tables.unchanged_but_faults.bytes ∙ sym (memory-is g old.tables))
      (ap (λ (H : Header). H.fields) k.tables.header) k.mode k.number k.failed (ap (holding_in g) k.unspent),
  k.tables.seen seen,
)

-- No byte of a guest cluster with this mapping can be written in place.
abbrev IsHomeless : Fields → Mapping → Type 0
IsHomeless h m = (p : ℕ) → writable_location_by h p m ≡ None

-- That is so if a lookup in a writable image doesn't answer a writable run.
answer-homeless : (h : Fields) (mode : OpenMode) (bits offset within : ℕ) (m : Mapping) → mode.writable ≡ true
    → writable_place_of (shallow_of mode bits offset within m) ≡ None → IsHomeless h m
answer-homeless h mode bits offset within (data_at c false) on none p = refl
answer-homeless h mode bits offset within (data_at c true) on none p = absurd (cc (rw on at none))
answer-homeless h mode bits offset within (zeroes c copied) on none p = refl
answer-homeless h mode bits offset within (packed at n) on none p = refl
answer-homeless h mode bits offset within mappings.unmapped on none p = refl
answer-homeless h mode bits offset within damaged on none p = refl

-- That is so for data that follows such data.
unmarked-homeless : (h : Fields) (p c c' : ℕ) (mark mark' : Bool) → mark' ≡ mark → writable_location_by h p (data_at c mark) ≡ None → writable_location_by h p (data_at c' mark') ≡ None
unmarked-homeless h p c c' mark false same none = refl
unmarked-homeless h p c c' false true same none = absurd (cc same)
unmarked-homeless h p c c' true true same none = absurd (cc none)

follows-homeless : (h : Fields) (m m' : Mapping) → Follows m m' → IsHomeless h m → IsHomeless h m'
follows-homeless h (data_at c mark) (data_at c' mark') follows none p = unmarked-homeless h p c c' mark mark' follows.1 (none p)
follows-homeless h (zeroes None mark) (data_at c' mark') follows none p = absurd follows
follows-homeless h (zeroes (Some c) mark) (data_at c' mark') follows none p = absurd follows
follows-homeless h (packed at n) (data_at c' mark') follows none p = absurd follows
follows-homeless h mappings.unmapped (data_at c' mark') follows none p = absurd follows
follows-homeless h damaged (data_at c' mark') follows none p = absurd follows
follows-homeless h m (zeroes c copied) follows none p = refl
follows-homeless h m (packed at n) follows none p = refl
follows-homeless h m mappings.unmapped follows none p = refl
follows-homeless h m damaged follows none p = refl

-- That is so for each byte of the run.
module _ (h : Fields) (mapping : ℕ → Mapping) (offset asked n : ℕ) (run : IsWholeRun h mapping offset asked n)
    (first : IsHomeless h (mapping (offset / cluster_size h))) where
  abbrev begin : ℕ
  begin = offset / cluster_size h

  cluster-homeless : (k : ℕ) → (begin + k) * cluster_size h < offset + n → IsHomeless h (mapping (begin + k))
  cluster-homeless zero lt = subst (λ g. IsHomeless h (mapping g)) (omega arith) first
  cluster-homeless (suc k) lt =
      let less : (begin + k) * cluster_size h ≤ (begin + suc k) * cluster_size h = mul-le-mul_right (cluster_size h) (omega arith) in
      let follows = (run.each (begin + suc k) (omega arith) lt).1 in
      follows-homeless h (mapping (begin + k)) (mapping (begin + suc k)) (subst (λ g. Follows (mapping g) (mapping (begin + suc k))) (omega arith) follows)
      (cluster-homeless k (omega (arith, less, lt)))

  run-homeless : (i : ℕ) → i < n → IsHomeless h (mapping ((offset + i) / cluster_size h))
  run-homeless i lt =
      let g : ℕ = (offset + i) / cluster_size h in
      let low : begin * cluster_size h ≤ offset = div-mul-le_self offset (cluster_size h) in
      let from : begin ≤ (offset + i) / cluster_size h = le-div begin (offset + i) (cluster_size h) (pow_pos h.cluster_bits) (omega (arith, low)) in
      let high : (offset + i) / cluster_size h * cluster_size h ≤ offset + i = div-mul-le_self (offset + i) (cluster_size h) in
      let is : begin + ((offset + i) / cluster_size h - begin) ≡ (offset + i) / cluster_size h = omega (arith, from) in
      let same : (begin + ((offset + i) / cluster_size h - begin)) * cluster_size h ≡ (offset + i) / cluster_size h * cluster_size h = ap (λ x. x * cluster_size h) is in
      subst (λ x. IsHomeless h (mapping x)) is (cluster-homeless ((offset + i) / cluster_size h - begin) (omega (arith, same, high, lt)))

no-homes : (writable : Bool) (m : Bytes) (h : Fields) (p : ℕ) → (writable ≡ true → writable_location_by h p (mapped m h p) ≡ None) → writable_locations writable m h p ≡ None
no-homes false m h p none = refl
no-homes true m h p none = elim (cases_Bool (ltb p h.size)) [ inl t ↦ rw t (none refl) | inr t ↦ rw t refl ]

-- If a run isn't answered as writable, no byte of it can be written in place by its entry.
module _ {S : Type 0} (g : Ghosts S) (d : Qcow2 S g) (offset asked n : ℕ) (answer : ShallowMapping)
    (is : answer ≡ answer_at g d.tables d.mode offset) (none : writable_place_of answer ≡ None) where
  abbrev h : Fields
  h = d.tables.file.header.fields

  first-homeless : d.mode.writable ≡ true → IsHomeless h (entry (file_of g d.tables) h (offset / cluster_size h))
  first-homeless on = answer-homeless h d.mode _ _ _ _ on (ap writable_place_of (sym is) ∙ none)

  in-file : (p : ℕ) → (d.mode.writable ≡ true → writable_location_by h p (mapped (file_of g d.tables) h p) ≡ None) → writable_locations_of g d p ≡ None
  in-file p none = no-homes d.mode.writable (memory_of g d.tables) h p (λ on. subst (λ m. writable_location_by h p (mapped m h p) ≡ None) (sym (memory-is g d.tables)) (none on))

  pub word-none : writable_locations_of g d offset ≡ None
  word-none = in-file offset (λ on. first-homeless on offset)

  pub words-none : IsWholeRunIn g d.tables offset asked n → (i : ℕ) → i < n → writable_locations_of g d (offset + i) ≡ None
  words-none run i lt = in-file (offset + i) (λ on. run-homeless h (entry (file_of g d.tables) h) offset asked n run (first-homeless on) i lt (offset + i))

-- The bytes of a run of a mapping.
module _ (hold : PreparedMappingRun) (offset most : ℕ) where
  abbrev found : ℕ × ℕ
  found = (hold.place + (offset - hold.offset), min most (hold.length - (offset - hold.offset)))

  run-in : in_run hold offset ≡ true → (i : ℕ) → i < found.1 → in_run hold (offset + i) ≡ true
  run-in is i lt =
      let run = in-range hold.offset hold.length offset is in
      let k : ℕ = offset + i - hold.offset in
      subst (λ p. in_run hold p ≡ true) (omega (arith, run.0)) (range-in hold.offset hold.length k (omega (arith, run.0, run.1, lt)))

  run-on : in_run hold offset ≡ true → (i : ℕ) → i < found.1 → held_writable_location hold (offset + i) ≡ Some (0, found.0 + i)
  run-on is i lt =
      let run = in-range hold.offset hold.length offset is in
      let same : hold.place + (offset + i - hold.offset) ≡ hold.place + (offset - hold.offset) + i = omega (arith, run.0) in
      rw (run-in is i lt) (ap (λ a. Some (0, a)) same)

-- The run continues in the file.
abbrev GoesOn : PreparedMappingRun → (ℕ → Option (ℕ × ℕ)) → ℕ → ℕ × ℕ → Type 0
GoesOn hold home offset r = (i : ℕ) → i < r.1 → writable_locations_with (Some hold) home (offset + i) ≡ Some (0, r.0 + i)

pub held-goes-on : (hold : Option PreparedMappingRun) (home : ℕ → Option (ℕ × ℕ)) (offset most : ℕ) (answer : Option (ℕ × ℕ)) → HoldsRun hold offset most answer
    → ((i : ℕ) → i < most → home (offset + i) ≡ None) → IfSome answer (λ r. (i : ℕ) → i < r.1 → writable_locations_with hold home (offset + i) ≡ Some (0, r.0 + i))
held-goes-on None home offset most answer is none = subst (λ o. IfSome o (λ r. (i : ℕ) → i < r.1 → home (offset + i) ≡ Some (0, r.0 + i))) (sym is) tt
held-goes-on (Some hold) home offset most answer is none = subst (λ o. IfSome o (GoesOn hold home offset)) (sym is) (elim (cases_Bool (in_run hold offset)) [
  | inr off ↦ rw off tt
  | inl so ↦ rw so (λ i lt. ap (λ o. writable_location_or o (held_writable_location hold (offset + i))) (none i (omega (arith, lt))) ∙ run-on hold offset most so i lt)
])

-- It has at most `most` bytes, and at least 1.
pub held-some : (hold : Option PreparedMappingRun) (offset most : ℕ) (answer : Option (ℕ × ℕ)) → HoldsRun hold offset most answer
    → IfSome answer (λ r. (r.1 ≤ most) × (0 < most → 0 < r.1))
held-some None offset most answer is = subst (λ o. IfSome o (λ r. (r.1 ≤ most) × (0 < most → 0 < r.1))) (sym is) tt
held-some (Some hold) offset most answer is = subst (λ o. IfSome o (λ r. (r.1 ≤ most) × (0 < most → 0 < r.1))) (sym is) (elim (cases_Bool (in_run hold offset)) [
  | inr off ↦ rw off tt
  | inl so ↦ let run = run-from hold offset so in rw so (omega arith, λ some. omega (arith, some, run.0, run.1))
])

-- A byte outside the run has no location there.
pub held-nowhere : (hold : Option PreparedMappingRun) (home : ℕ → Option (ℕ × ℕ)) (offset most : ℕ) (answer : Option (ℕ × ℕ)) → HoldsRun hold offset most answer
    → home offset ≡ None → answer ≡ None → writable_locations_with hold home offset ≡ None
held-nowhere None home offset most answer is none nowhere = none
held-nowhere (Some hold) home offset most answer is none nowhere = elim (cases_Bool (in_run hold offset)) [
  | inr off ↦ ap (λ o. writable_location_or o (held_writable_location hold offset)) none ∙ rw off refl
  | inl so ↦
      let there : answer ≡ Some (hold.place + (offset - hold.offset), min most (hold.length - (offset - hold.offset))) = rw so at is in
      absurd (cc (sym nowhere ∙ there))
]

-- If no mapping is prepared, no byte is found.
pub free-nowhere : (hold : Option PreparedMappingRun) (offset most : ℕ) (answer : Option (ℕ × ℕ)) (P : ℕ × ℕ → Type 0) → mapping_id_held hold ≡ None → HoldsRun hold offset most answer
    → IfSome answer P
free-nowhere None offset most answer P free is = subst (λ o. IfSome o P) (sym is) tt
free-nowhere (Some hold) offset most answer P free is = absurd (cc free)

-- No entry makes a byte of the run of a mapping writable.
run-wordless : {S : Type 0} (g : Ghosts S) (d : Qcow2 S g) (hold : PreparedMappingRun) → HoldsIn g d.tables hold → (p : ℕ) → in_run hold p ≡ true
    → writable_locations_of g d p ≡ None
run-wordless g d hold holds p is =
    let h : Fields = d.tables.file.header.fields in
    let guest = run-guest (rest_of g d.tables holds.space) hold holds.held p is in
    let k : ℕ = p / cluster_size h - hold.guest in
    let there : hold.guest + k ≡ p / cluster_size h = omega (arith, guest.0) in
    let raw_entry = subst (λ x. IsUncopied (entry (file_of g d.tables) h x)) there (holds.held.uncopied k (omega (arith, guest.0, guest.1))) in
    uncopied-homeless d.mode.writable (memory_of g d.tables) h p
    (subst (λ m. IsUncopied (entry m h (p / cluster_size h))) (sym (memory-is g d.tables)) raw_entry)

-- So a range that is held completely is mapped.
module _ {S : Type 0} (g : Ghosts S) (d : Qcow2 S g) (guest place n : ℕ) where
  abbrev IsHeldWhole : Option PreparedMappingRun → Type 0
  IsHeldWhole hold = HoldsRun hold guest n (Some (place, n))

  whole-run : (hold : PreparedMappingRun) → IsHeldWhole (Some hold) → (i : ℕ) → i < n → in_run hold (guest + i) ≡ true
  whole-run hold whole i lt = elim (cases_Bool (in_run hold guest)) [
    | inr off ↦ let none : Some (place, n) ≡ None = rw off at whole in absurd (cc none)
    | inl so ↦
        let run : Some (place, n) ≡ Some (found hold guest n) = rw so at whole in
        let both : ◌≡◌ {A = ℕ × ℕ} (place, n) (found hold guest n) = cc run in
        run-in hold guest n so i (omega (arith, lt, ap (λ (x : ℕ × ℕ). x.1) both))
  ]

  wordless : (hold : Option PreparedMappingRun) → IsHeldWhole hold → IfSome hold (HoldsIn g d.tables) → (i : ℕ) → i < n
      → writable_locations_of g d (guest + i) ≡ None
  wordless None whole holds i lt = let none : Some (place, n) ≡ None = whole in absurd (cc none)
  wordless (Some hold) whole holds i lt = run-wordless g d hold holds (guest + i) (whole-run hold whole i lt)

  pub held-home : IsHeldWhole (holding_in g d.unspent) → IsCoherent g d → IsWritableAt (layer_of g d) guest place n
  held-home whole coherent = elim coherent.sure [
    | inl untouched ↦
        let none : Some (place, n) ≡ None = subst (λ u. IsHeldWhole (holding_in g u)) untouched.0 whole in
        absurd (cc none)
    | inr was ↦
        held-goes-on (holding_in g d.unspent) (writable_locations_of g d) guest n (Some (place, n)) whole
        (wordless (holding_in g d.unspent) whole was.held)
  ]

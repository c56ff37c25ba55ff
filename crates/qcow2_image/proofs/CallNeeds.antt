-- Lemmas on what a call needs of the layers below, and on the changes of an image since the call began.
use Rattle.std.proofs.Common.{◌≡◌, ℕ, ◌+◌, ◌-◌, ◌*◌, ◌/◌, ◌%◌, ◌^◌, ◌<◌, ◌≤◌, refl, arith, ap, sym, subst, ◌∙◌, inl, inr, Some, List}
use Rattle.std.specs.Prelude.{◌⊎◌, Bool, IsSome, None, Option, false, length, min, slice_index, true}
use Rattle.std.proofs.lemmas.Bool.{cases_lt}
use Rattle.std.proofs.lemmas.Nat.{div-add-mod', mod_below, pow_pos}
use Rattle.imago_storage.specs.Disk.{Value, byte}
use Rattle.imago_storage.specs.Causes.{offset_of, length_of}
use Rattle.imago_storage.specs.Steps.{Call, discard_to_backing}
use Rattle.imago_storage.specs.declared.storage.Storage.{Ghosts}
use Rattle.imago_access.specs.Chain.{at}
use Rattle.imago_access.specs.Changes.{Asked, CommitsPlace, TakesByte, Wrote}
use Rattle.imago_access.specs.Layer.{Cell, Held, Layer, beside, inside, loose, own, through}
use Rattle.imago_access.specs.PartCalls.{IsFor, discards_to_backing}
use Rattle.imago_access.specs.Parts.{IsPartOf, IsUncutPart, announces}
use Rattle.imago_access.specs.Room.{IsOfUnit, IsUncutAt, IsWholeUnit}
use Rattle.imago_access.specs.declared.driver_model.LayersBelowModel.{Ghosts as GhostsBelow}
use Rattle.imago_access.proofs.Holding.{at_inside}
use Rattle.qcow2_types.specs.Header.{Fields, cluster_size}
use Rattle.qcow2_clusters.specs.Clearing.{IsPossible}
use Rattle.qcow2_image.specs.Clearing.{clearing_of}
use Rattle.qcow2_image.specs.Filling.{IsNeededFor, NeedsShown}
use Rattle.qcow2_image.specs.Preparing.{first_part}
use Rattle.qcow2_image.specs.Seen.{writable_locations_of, layer_of}
use Rattle.qcow2_image.specs.Writing.{ComesToBytes, IsNeeded, KeepsWritableLocations, MayBeCleared, MayBecome, NeedsValue, Since}
use Rattle.qcow2_image.specs.declared.qcow2.Qcow2.{Qcow2}
use Rattle.qcow2_image.specs.Leaking.{KeepsLeaks}

becomes-then : (call : Call) (a b c : Cell) → MayBecome call a b → MayBecome call b c → MayBecome call a c
becomes-then call a b c first second = elim second [
  | inr other ↦ inr other
  | inl same ↦ elim first [
    | inl before ↦ inl (same ∙ before)
    | inr other ↦ inr (elim other [
      | inl given ↦ inl (given.0, same ∙ given.1)
      | inr gone ↦ inr (gone.0, same ∙ gone.1)
    ])
  ]
]

-- A call covers a cluster completely if a part of its range does.
pub whole-of-call : (c size : ℕ) (call : Call) (offset n u : ℕ) → IsPartOf call offset n → IsWholeUnit c size offset n u
    → IsWholeUnit c size (offset_of call) (length_of call) u
whole-of-call c size call offset n u part whole =
    let start = whole.start in let end = whole.end in let low = part.start in let high = part.end in record {
      start = omega (arith, start, low);
      on_disk = whole.on_disk;
      end = omega (arith, end, high);
    }

-- The entries that a call may clear depend on the size, the cluster size and the version.
pub cleared-before : (h h' : Fields) (call : Call) (p : ℕ) → h'.size ≡ h.size → h'.cluster_bits ≡ h.cluster_bits → h'.version ≡ h.version
    → MayBeCleared h' call p → MayBeCleared h call p
cleared-before h h' call p size bits version may = record {
  part = may.part;
  is_for = may.is_for;
  possible = subst (IsPossible (clearing_of may.part)) version may.possible;
  cluster = may.cluster;
  here = subst (λ (b : ℕ). IsOfUnit (2 ^ b) h.size may.cluster p) bits
      (subst (λ (s : ℕ). IsOfUnit (cluster_size h') s may.cluster p) size may.here);
  whole = subst (λ (b : ℕ). IsWholeUnit (2 ^ b) h.size (offset_of call) (length_of call) may.cluster) bits
      (subst (λ (s : ℕ). IsWholeUnit (cluster_size h') s (offset_of call) (length_of call) may.cluster) size may.whole);
}

-- Changes since a call began, one after another.
pub since-then : {S : Type 0} (g : Ghosts S) (call : Call) (d old new : Qcow2 S g) → Since g d call old → Since g old call new
    → Since g d call new
since-then g call d old new first second = record {
  writable_locations = λ p keeps at is. second.writable_locations p
      (λ may. keeps (cleared-before d.tables.file.header.fields old.tables.file.header.fields call p first.size first.bits first.version may))
      at (first.writable_locations p keeps at is);
  cells = λ p.
      becomes-then call ((layer_of g d).cell p) ((layer_of g old).cell p) ((layer_of g new).cell p) (first.cells p) (second.cells p);
  size = second.size ∙ first.size;
  bits = second.bits ∙ first.bits;
  version = second.version ∙ first.version;
  leaks = λ c. let one = first.leaks c in let two = second.leaks c in omega (arith, one, two);
}

byte-becomes : (call : Call) (a b : Cell) → (b ≡ a) ⊎ ((x : ℕ) × (b ≡ own (byte x))) → MayBecome call a b
byte-becomes call a b (inl same) = inl same
byte-becomes call a b (inr given) = inr (inl given)

-- A step that keeps writable locations, gives bytes and keeps the leaks preserves `Since`, for any call.
pub since-as : {S : Type 0} (g : Ghosts S) (call : Call) (d old new : Qcow2 S g) → KeepsWritableLocations g old new
    → ComesToBytes (layer_of g old).cell (layer_of g new).cell
    → new.tables.file.header.fields.size ≡ old.tables.file.header.fields.size
    → new.tables.file.header.fields.cluster_bits ≡ old.tables.file.header.fields.cluster_bits
    → new.tables.file.header.fields.version ≡ old.tables.file.header.fields.version → KeepsLeaks g old new → Since g d call old
    → Since g d call new
since-as g call d old new writable_locations cells size bits version leaks since = since-then g call d old new since (record {
  writable_locations = λ p keeps. writable_locations p;
  cells = λ p. byte-becomes call ((layer_of g old).cell p) ((layer_of g new).cell p) (cells p);
  size = size;
  bits = bits;
  version = version;
  leaks = leaks;
})

-- After a commit a byte of the run has the same cell, or a byte of its own.
pub settles-byte : (h : Held) (was is : Cell) → CommitsPlace h was is → (is ≡ was) ⊎ ((b : ℕ) × (is ≡ own (byte b)))
settles-byte loose was is done = inl done
settles-byte (beside b) was is done = inr (b, done)
settles-byte (inside copied (Some b) announced) was is done = inr (b, done)
settles-byte (inside (Some b) None announced) was is done = inr (b, done)
settles-byte (inside None None true) was is done = elim done [
  | inl same ↦ inl same
  | inr any ↦ inr (any.1.0, any.2 ∙ ap (λ (v : Value). own v) any.1.2)
]
settles-byte (inside None None false) was is done = inl done

takes-byte : (b : ℕ) (h h' : Held) (was is : Cell) → TakesByte b h was h' is → (is ≡ was) ⊎ ((x : ℕ) × (is ≡ own (byte x)))
takes-byte b loose h' was is done = inr (b, done.0)
takes-byte b (beside x) h' was is done = inr (b, done.0)
takes-byte b (inside copied written announced) h' was is done = inl done.0

-- The same holds for each byte after a write.
pub wrote-byte : (old new : Layer) (guest : ℕ) (bytes : List ℕ) → Wrote old new guest bytes → ComesToBytes old.cell new.cell
wrote-byte old new guest bytes w p = elim (cases_lt p guest) [
  | inl before ↦ inl (w.others p (inl before)).0
  | inr low ↦ elim (cases_lt p (guest + length bytes)) [
    | inl high ↦
        let i : ℕ = p - guest in
        let at : guest + (p - guest) ≡ p = omega (arith, low) in
        let less : p - guest < length bytes = omega (arith, low, high) in
        subst (λ (q : ℕ). (new.cell q ≡ old.cell q) ⊎ ((x : ℕ) × (new.cell q ≡ own (byte x)))) at
        (takes-byte (slice_index bytes i) (old.held (guest + i)) (new.held (guest + i)) (old.cell (guest + i)) (new.cell (guest + i)) (w.range i less))
    | inr behind ↦ inl (w.others p (inr behind)).0
  ]
]

-- The clusters of a range, by their size.
module _ (c size offset n : ℕ) (one : 0 < c) (some : 0 < n) (inside : offset + n ≤ size) where
  abbrev unit : ℕ
  unit = offset / c

  of-unit : (p : ℕ) → p / c ≡ unit → p < size → IsOfUnit c size unit p
  of-unit p same on =
      let here : p / c * c ≡ unit * c = ap (λ (x : ℕ). x * c) same in
      let rest : p % c < c = mod_below p c one in
      let split = div-add-mod' p c in
      record { start = omega (arith, here, split); end = omega (arith, here, split, rest); on_disk = on }

  first-of : IsOfUnit c size unit offset
  first-of = of-unit offset refl (omega (arith, some, inside))

  -- If a call covers the first cluster completely, so does the range's part in it, as the range cuts no such cluster.
  whole-part : (start length : ℕ) → IsUncutAt c size start length offset → IsUncutAt c size start length (offset + n)
      → IsWholeUnit c size start length unit → IsWholeUnit c size offset (min n (c - offset % c)) unit
  whole-part start length uncut-start uncut-end whole =
      let split = div-add-mod' offset c in
      let rest : offset % c < c = mod_below offset c one in
      let first = first-of in
      let begins : offset ≤ unit * c = elim (uncut-start unit whole) [
        | inl is ↦ is
        | inr past ↦ absurd (omega (arith, past, first.end, first.on_disk))
      ] in
      let ends : min (unit * c + c) size ≤ offset + n = elim (uncut-end unit whole) [
        | inl before ↦ absurd (omega (arith, before, first.start, some))
        | inr is ↦ is
      ] in
      record { start = begins; on_disk = whole.on_disk; end = omega (arith, begins, ends, split, rest) }

some-true : (b : Bool) → Some b ≡ Some true → b ≡ true
some-true b is = cc is

-- A discard to the backing file prepares no mapping.
discard-prepares-none : (call : Call) (b : Bool) → IsFor discards_to_backing call → Some b ≡ announces call → ⊥
discard-prepares-none (discard_to_backing offset n) b is announced = cc announced
discard-prepares-none call b is announced = is

-- A byte that is needed for a part of a range is needed by the whole call. It had the same value when the call began.
module _ {S : Type 0} (g : Ghosts S) (old d : Qcow2 S g) (below : List Layer) (asked : Asked) (call : Call) (since : Since g d call old)
    (some : 0 < asked.length) (inside : asked.offset + asked.length ≤ old.tables.file.header.fields.size)
    (uncut : IsUncutPart (layer_of g old) call asked.offset asked.length) (same : Some asked.overwrite ≡ announces call) where
  abbrev h : Fields
  h = old.tables.file.header.fields

  abbrev c : ℕ
  c = cluster_size h

  one : 0 < c
  one = pow_pos h.cluster_bits

  needed : (p : ℕ) → IsNeededFor h (first_part h asked) p → IsNeeded c h.size call p
  needed p n = record {
    cluster = asked.offset / c;
    here = of-unit c h.size asked.offset asked.length one some inside p n.first.0 n.first.1;
    met = asked.offset;
    in_range = (uncut.part.start, omega (arith, some, uncut.part.end));
    in_unit = first-of c h.size asked.offset asked.length one some inside;
    prepares = subst (λ (o : Option Bool). IsSome o) same refl;
    part = λ announced whole. n.part (some-true asked.overwrite (same ∙ announced))
        (whole-part c h.size asked.offset asked.length one some inside (offset_of call) (length_of call) uncut.start uncut.end whole);
  }

  -- If the value isn't a byte, it was the same when the call began.
  shown-since : (value : Value) → ((b : ℕ) → byte b ≡ value → ⊥) → (p : ℕ) → through ((layer_of g old).cell p) (at below p) ≡ value
      → through ((layer_of g d).cell p) (at below p) ≡ value
  shown-since value none p shows = elim (since.cells p) [
    | inl same ↦ ap (λ (x : Cell). through x (at below p)) (sym same) ∙ shows
    | inr other ↦ elim other [
      | inl given ↦ absurd (none given.0 (sym (ap (λ (x : Cell). through x (at below p)) given.1) ∙ shows))
      | inr gone ↦ absurd (discard-prepares-none call asked.overwrite gone.0 same)
    ]
  ]

  pub needs-shown : {B : Type 0} (u : GhostsBelow B) (x : B) → below ≡ u.layers_below x → (value : Value) → ((b : ℕ) → byte b ≡ value → ⊥)
      → NeedsShown g u (first_part h asked) (old, x) value → NeedsValue g d below call value
  needs-shown u x is value none which =
      let p : ℕ = which.0 in
      let n = which.1 in
      let here : IsNeeded (cluster_size d.tables.file.header.fields) d.tables.file.header.fields.size call p =
      subst (λ (b : ℕ). IsNeeded (2 ^ b) d.tables.file.header.fields.size call p) since.bits
      (subst (λ (s : ℕ). IsNeeded c s call p) since.size (needed p n)) in
      let on : p < d.tables.file.header.fields.size = subst (λ (s : ℕ). p < s) since.size n.first.1 in
      let shows : through ((layer_of g old).cell p) (at below p) ≡ value = ap (λ (l : List Layer). through ((layer_of g old).cell p) (at l p)) is ∙ which.2 in
      (p, here, at_inside (layer_of g d) below p on ∙ shown-since value none p shows)

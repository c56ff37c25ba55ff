-- The two caches as sides. Lemmas on searches and puts are stated once, for L2 tables and refcount blocks.
use Rattle.std.proofs.Common.{◌≡◌, ℕ, ◌≤◌, refl, arith, ap, sym, subst, ◌∙◌, List, [], ◌∷◌, ◌++◌, None, Result, Ok, Err, false, true}
use Rattle.std.specs.Prelude.{nat_eq, map, ⊤, OnOk}
use Rattle.std.specs.List.{AllByRecursion}
use Rattle.std.specs.Map.{lookup, keys_of}
use Rattle.imago_storage.specs.State.{StorageState}
use Rattle.imago_storage.specs.Calls.{UnchangedButFaults, IsFaultless}
use Rattle.imago_storage.specs.declared.fault.Fault.{Fault}
use Rattle.qcow2_types.specs.Bytes.{Bytes, Patch, bytes_of}
use Rattle.qcow2_types.specs.Header.{Fields, Header, Shaped}
use Rattle.qcow2_metadata.specs.Places.{IsAddressable}
use Rattle.qcow2_alloc.specs.declared.async_lru_cache.Slot.{Slot}
use Rattle.qcow2_alloc.specs.declared.cache.CacheDependency.{CacheDependency}
use Rattle.qcow2_alloc.specs.declared.file.ImageFile.{ImageFile}
use Rattle.qcow2_alloc.specs.Backends.{Flushed}
use Rattle.qcow2_alloc.specs.CachedKinds.{AreClean, AreInReach, Beside, CachedKind, WritesOther, as_written, cached_of}
use Rattle.qcow2_alloc.specs.Causes.{FailsFor}
use Rattle.qcow2_alloc.specs.Finding.{LetsEntryIn, LetsIn, search_causes}
use Rattle.qcow2_alloc.specs.Going.{WritesBackCached, Always, HadNoResourceError, writing_causes}
use Rattle.qcow2_alloc.specs.Memory.{Cached, memory}
use Rattle.qcow2_alloc.specs.WellFormedness.{WellFormed, IsCrashImage}
use Rattle.qcow2_alloc.proofs.Caching.SingleEntries.{EntryLaws, entry-leaves}
use Rattle.qcow2_alloc.proofs.Caching.EntryTraffic.{away-of, leaves-safe, comes-safe}
use Rattle.qcow2_alloc.proofs.Caching.Places.{away-of-all}
use Rattle.qcow2_alloc.proofs.Flushing.FlushRefusals.{Counted}
use Rattle.qcow2_alloc.proofs.Flushing.WriteSequences.{kept-same, going-quiet}
use Rattle.qcow2_alloc.proofs.Memory.EntryKinds.{EntryKind}
use Rattle.qcow2_alloc.proofs.Memory.Patches.{shaped-in}

-- The parts of an entry kind that proofs need in addition to what contracts cite.
pub record EntryParts (V W : Type 0) : Type 1 where
  pub bytes : V → List ℕ
  pub OtherFits : Bytes → Fields → ℕ → W → Type 0
  pub ahead : ℕ → List (ℕ × Slot W) → List Patch
  pub behind : ℕ → List (ℕ × Slot W) → List Patch

-- The entry kind with these parts.
abbrev pub entries_of : {S V W : Type 0} → CachedKind S V W → EntryParts V W → EntryKind V W
entries_of side parts = record {
  writes = side.writes;
  bytes = parts.bytes;
  Fits = side.Fits;
  OtherFits = parts.OtherFits;
  put = side.cached;
  ahead = parts.ahead;
  behind = parts.behind;
}

module _ {S V W : Type 0} (side : CachedKind S V W) where
  -- If the entry is dirty, its cluster is addressable.
  abbrev pub Reach : ℕ → V → Type 0
  Reach key value = side.writes.modified value ≡ true → IsAddressable (side.writes.cluster_bits value) key

  -- Under the order in which the other side comes first, the other side is clean.
  abbrev pub Ready : CacheDependency → Cached → Type 0
  Ready order cached = order ≡ side.first → AreClean side.other_writes (side.others cached)

  abbrev pub FitsIn : Header → ℕ → V → StorageState → Type 0
  FitsIn H key value s = (side.writes.modified value ≡ false) × side.Fits (bytes_of s.bytes) H.fields key value

  -- The laws of a side.
  pub record SideLaws : Type 1 where
    pub parts : EntryParts V W
    pub entries : EntryLaws (entries_of side parts)
    pub kept : (h : Fields) (key : ℕ) (a : StorageState) (answer : Result V Fault) (b : StorageState) → side.Loads h key a answer b → UnchangedButFaults a b
    pub reads : (h : Fields) (key : ℕ) (a : StorageState) (value : V) (b : StorageState) → side.Loads h key a (Ok value) b → value ≡ side.read (bytes_of a.bytes) h key
    pub clean : (f : Bytes) (h : Fields) (key : ℕ) → side.writes.modified (side.read f h key) ≡ false
    pub fits : (h : Fields) (key : ℕ) (a : StorageState) (value : V) (b : StorageState) → side.Loads h key a (Ok value) b → Shaped h → side.Fits (bytes_of a.bytes) h key value
    pub counts : (h : Fields) (key : ℕ) (a : StorageState) (answer : Result V Fault) (b : StorageState) → side.Loads h key a answer b
        → (a.faults ≤ b.faults) × FailsFor (search_causes (side.Fine (bytes_of b.bytes) h key) ⊥ a.faults b.faults) answer
    pub has_no_dirty_data : (h : Fields) (key : ℕ) (a : StorageState) (answer : Result V Fault) (b : StorageState) → side.Loads h key a answer b → HadNoResourceError answer → b.faults ≡ a.faults
    pub keeps : (key : ℕ) (slot : Slot V) (a : StorageState) (answer : Result Unit Fault) (b : StorageState) (value : V) → Flushed side.writes a key slot.value answer b value
        → (as_written side.writes) (key, record slot { value = value }) ≡ (as_written side.writes) (key, slot)
    pub counted : (key : ℕ) (v : V) (a b : StorageState) (answer : Result Unit Fault) (v' : V) → Flushed side.writes a key v answer b v' → Counted (Reach key v) a b answer
    pub cleaned : (key : ℕ) (v : V) (a b : StorageState) (v' : V) → Flushed side.writes a key v (Ok tt) b v' → side.writes.modified v' ≡ false
    pub flushed : (H : Header) (order : CacheDependency) (rest : List (ℕ × Slot W)) (front : List (ℕ × Slot V)) (key : ℕ) (slot : Slot V) (back : List (ℕ × Slot V)) (a b : StorageState) (answer : Result Unit Fault) (value : V)
        → Flushed side.writes a key slot.value answer b value
        → WritesBackCached H order (Ready order) (HadNoResourceError answer) a (side.cached rest (front ++ (key, slot) ∷ back)) b (side.cached rest (front ++ (key, record slot { value = value }) ∷ back))
    -- An entry still fits in each file that writes of other entries leave.
    pub stays : (f : Bytes) (H : Header) (order : CacheDependency) (rest : List (ℕ × Slot W)) (es : List (ℕ × Slot V)) → WellFormed f H (side.cached rest es) order
        → (x : Bytes) → IsCrashImage f (memory f H.fields (side.cached rest es)) H x → (key : ℕ) (value : V) → AllByRecursion (λ e. e.0 ≡ key → side.writes.modified e.1.value ≡ false) es
        → side.Fits f H.fields key value → side.Fits x H.fields key value
    -- The entries of the other side are independent of those of this side.
    pub rest_is : (rest : List (ℕ × Slot W)) (es : List (ℕ × Slot V)) → side.others (side.cached rest es) ≡ rest
    pub near : (f : Bytes) (H : Header) (order : CacheDependency) (rest : List (ℕ × Slot W)) (es : List (ℕ × Slot V)) → WellFormed f H (side.cached rest es) order → AreInReach side.other_writes rest
    pub lets : (rest : List (ℕ × Slot W)) (es es' : List (ℕ × Slot V)) (a b : StorageState) (result : Result Unit Fault)
        → LetsIn (Flushed side.writes) a es result b es' → (LetsEntryIn side) a (side.cached rest es) result b (side.cached rest es')
    pub idle : (order : CacheDependency) (a b : StorageState) (c c' : Cached) (answer : Result Unit Fault) → ((order ≡ side.first → ⊥) → (answer ≡ Ok tt) × (b ≡ a) × (c' ≡ c))
        → (order ≡ side.first → (WritesOther side) a c answer b c') → AreClean side.other_writes (side.others c) → (answer ≡ Ok tt) × (b ≡ a) × (c' ≡ c)

  module _ (laws : SideLaws) (H : Header) (order : CacheDependency) (rest : List (ℕ × Slot W)) where
    abbrev put : List (ℕ × Slot V) → Cached
    put = side.cached rest

    -- A clean entry is added.
    comes-same : (f : Bytes) (key : ℕ) (slot : Slot V) (es : List (ℕ × Slot V)) → side.writes.modified slot.value ≡ false → memory f H.fields (put ((key, slot) ∷ es)) ≡ memory f H.fields (put es)
    comes-same f key slot es clean = sym (entry-leaves (entries_of side laws.parts) laws.entries f H rest [] key slot es clean)

    comes : (f : Bytes) (key : ℕ) (slot : Slot V) (es : List (ℕ × Slot V)) → side.writes.modified slot.value ≡ false → AllByRecursion (λ y. nat_eq key y ≡ false) (keys_of es) → side.Fits f H.fields key slot.value
        → WellFormed f H (put es) order → WellFormed f H (put ((key, slot) ∷ es)) order
    comes f key slot es = comes-safe (entries_of side laws.parts) laws.entries f H order rest [] key slot [] es

    module _ (Ready : Cached → Type 0) (ready : (A B : List (ℕ × Slot V)) → Ready (put A) → Ready (put B)) where
      pub leaves-quietly : (front : List (ℕ × Slot V)) (key : ℕ) (slot : Slot V) (back : List (ℕ × Slot V)) (s : StorageState) → side.writes.modified slot.value ≡ false
          → WritesBackCached H order Ready ⊤ s (put (front ++ (key, slot) ∷ back)) s (put (front ++ back))
      leaves-quietly front key slot back s clean =
          going-quiet H order Ready ⊤ s s (put (front ++ (key, slot) ∷ back)) (put (front ++ back)) (kept-same s) (omega arith) (λ o. refl) (ready (front ++ (key, slot) ∷ back) (front ++ back))
          (λ r. leaves-safe (entries_of side laws.parts) laws.entries (bytes_of s.bytes) H order rest front key slot back clean)
          (λ r. entry-leaves (entries_of side laws.parts) laws.entries (bytes_of s.bytes) H rest front key slot back clean)

      pub comes-quietly : (key : ℕ) (value : V) (es : List (ℕ × Slot V)) (a b : StorageState) → side.Loads H.fields key a (Ok value) b → lookup (nat_eq key) es ≡ None
          → WritesBackCached H order Ready ⊤ a (put es) b (put ((key, record { value = value; pins = 0 }) ∷ es))
      comes-quietly key value es a b load none =
          let same = laws.has_no_dirty_data H.fields key a (Ok value) b load tt in
          let clean = ap side.writes.modified (laws.reads H.fields key a value b load) ∙ laws.clean (bytes_of a.bytes) H.fields key in
          going-quiet H order Ready ⊤ a b (put es) (put ((key, record { value = value; pins = 0 }) ∷ es)) (laws.kept H.fields key a (Ok value) b load) (omega (arith, same)) (λ o. same)
          (ready es ((key, record { value = value; pins = 0 }) ∷ es))
          (λ r well_formed. comes (bytes_of a.bytes) key (record { value = value; pins = 0 }) es clean (away-of-all key es none) (laws.fits H.fields key a value b load (shaped-in (bytes_of a.bytes) H well_formed.consistent)) well_formed)
          (λ r. comes-same (bytes_of a.bytes) key (record { value = value; pins = 0 }) es clean)

      pub asked-quietly : (key : ℕ) (answer : Result V Fault) (es : List (ℕ × Slot V)) (a b : StorageState) → side.Loads H.fields key a answer b → WritesBackCached H order Ready (HadNoResourceError answer) a (put es) b (put es)
      asked-quietly key answer es a b load =
          going-quiet H order Ready (HadNoResourceError answer) a b (put es) (put es) (laws.kept H.fields key a answer b load) (laws.counts H.fields key a answer b load).0 (laws.has_no_dirty_data H.fields key a answer b load) (λ r. r) (λ r well_formed. well_formed) (λ r. refl)

    pub ready-same : (A B : List (ℕ × Slot V)) → Ready order (put A) → Ready order (put B)
    ready-same A B r is = subst (λ (l : List (ℕ × Slot W)). AreClean side.other_writes l) (laws.rest_is rest A ∙ sym (laws.rest_is rest B)) (r is)

    -- A new entry is added, or replaces another.
    module _ (key : ℕ) (value : V) where
      pub new-comes : (s : StorageState) (es : List (ℕ × Slot V)) → lookup (nat_eq key) es ≡ None → WritesBackCached H order (λ _. FitsIn H key value s) ⊤ s (put es) s (put ((key, record { value = value; pins = 0 }) ∷ es))
      new-comes s es none =
          going-quiet H order (λ _. FitsIn H key value s) ⊤ s s (put es) (put ((key, record { value = value; pins = 0 }) ∷ es)) (kept-same s) (omega arith) (λ o. refl) (λ r. r)
          (λ fits. comes (bytes_of s.bytes) key (record { value = value; pins = 0 }) es fits.0 (away-of-all key es none) fits.1)
          (λ fits. comes-same (bytes_of s.bytes) key (record { value = value; pins = 0 }) es fits.0)

      pub new-replaces : (s : StorageState) (front : List (ℕ × Slot V)) (slot : Slot V) (back : List (ℕ × Slot V)) → side.writes.modified slot.value ≡ false
          → WritesBackCached H order (λ _. FitsIn H key value s) ⊤ s (put (front ++ (key, slot) ∷ back)) s (put ((key, record slot { value = value }) ∷ front ++ back))
      new-replaces s front slot back off =
          let f = bytes_of s.bytes in
          going-quiet H order (λ _. FitsIn H key value s) ⊤ s s (put (front ++ (key, slot) ∷ back)) (put ((key, record slot { value = value }) ∷ front ++ back)) (kept-same s) (omega arith) (λ o. refl) (λ r. r)
          (λ fits well_formed. comes f key (record slot { value = value }) (front ++ back) fits.0
          (away-of front key slot back (laws.entries.own f H order rest (front ++ (key, slot) ∷ back) well_formed).apart) fits.1
          (leaves-safe (entries_of side laws.parts) laws.entries f H order rest front key slot back off well_formed))
          (λ fits. comes-same f key (record slot { value = value }) (front ++ back) fits.0 ∙ entry-leaves (entries_of side laws.parts) laws.entries f H rest front key slot back off)

-- The other side was written, if it comes first. `answer` is the result.
pub record WrittenFirst {S V W A B : Type 0} (side : CachedKind S V W) (old : Beside S V W A B) (before : ImageFile S) (answer : Result Unit Fault) (mid : Beside S V W A B) (between : ImageFile S) : Type 0 where
  pub writes_back_cached : WritesBackCached before.header old.order Always (answer ≡ Ok tt) (side.state before.image) (cached_of side old) (side.state between.image) (cached_of side mid)
  pub kept : map (as_written side.other_writes) mid.other.slots.entries ≡ map (as_written side.other_writes) old.other.slots.entries
  pub ready : OnOk answer (Ready side mid.order (cached_of side mid))
  pub idle : (old.order ≡ side.first → ⊥) → (answer ≡ Ok tt) × (mid ≡ old) × (between ≡ before)
  pub same : mid ≡ record old { other = mid.other }
  pub header : between.header ≡ before.header
  pub room : mid.other.slots.cap ≡ old.other.slots.cap
  pub cause : FailsFor (writing_causes (AreInReach side.other_writes old.other.slots.entries) (side.state before.image).faults (side.state between.image).faults) answer
  pub faults : HadNoResourceError answer → IsFaultless (side.state before.image) (side.state between.image)
  pub did : old.order ≡ side.first → (WritesOther side) (side.state before.image) (cached_of side old) answer (side.state between.image) (cached_of side mid)

module _ {S V W A B : Type 0} (side : CachedKind S V W) (laws : SideLaws side) (old : Beside S V W A B) (before : ImageFile S) (mid : Beside S V W A B) (between : ImageFile S) where
  -- If the other side is clean, nothing was done.
  pub first-idle : (answer : Result Unit Fault) → WrittenFirst side old before answer mid between → AreClean side.other_writes old.other.slots.entries
      → (answer ≡ Ok tt) × (side.state between.image ≡ side.state before.image) × (mid.other.slots.entries ≡ old.other.slots.entries)
  first-idle answer w clean =
      let none = laws.idle old.order (side.state before.image) (side.state between.image) (cached_of side old) (cached_of side mid) answer
      (λ no. let i = w.idle no in (i.0, ap (λ (d : ImageFile S). side.state d.image) i.2, ap (λ (c : Beside S V W A B). cached_of side c) i.1)) w.did
      (subst (λ (l : List (ℕ × Slot W)). AreClean side.other_writes l) (sym (laws.rest_is old.other.slots.entries old.own.slots.entries)) clean) in
      (none.0, none.1, sym (laws.rest_is mid.other.slots.entries mid.own.slots.entries) ∙ ap side.others none.2 ∙ laws.rest_is old.other.slots.entries old.own.slots.entries)

  -- A failure means that the other side comes first.
  pub first-some : (fault : Fault) → WrittenFirst side old before (Err fault) mid between → ((old.order ≡ side.first → ⊥) → ⊥)
  first-some fault w away = let ok = (w.idle away).0 in cc

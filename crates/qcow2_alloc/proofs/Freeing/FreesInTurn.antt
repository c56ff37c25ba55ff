-- Freeing all entries, after the write order is set.
use Rattle.std.proofs.Common.{◌≡◌, ℕ, ◌<◌, ◌≤◌, refl, arith, ap, sym, subst, ◌∙◌, List, [], ◌∷◌, length, Result, Ok, Err, Bool, true, false, zero, suc, Some, None, inl, inr}
use Rattle.std.specs.Prelude.{◌⊎◌, ⊤, IsTrue, not, OnOk, OnErr}
use Rattle.std.specs.List.{filter, remove, position, position_or_len, prefix_len}
use Rattle.std.proofs.lemmas.Bool.{cases_Bool, cases_lt, lt-ltb}
use Rattle.std.proofs.lemmas.List.Quantifiers.{position-Some}
use Rattle.imago_storage.specs.Calls.{IsFaultless}
use Rattle.imago_storage.specs.State.{StorageState}
use Rattle.imago_storage.specs.declared.fault.Fault.{Fault}
use Rattle.qcow2_types.specs.Bytes.{Bytes, bytes_of}
use Rattle.qcow2_types.specs.Header.{Header}
use Rattle.qcow2_types.specs.Counts.{count}
use Rattle.qcow2_types.specs.Pending.{FreeEntry}
use Rattle.qcow2_alloc.specs.declared.cache.CacheDependency.{CacheDependency}
use Rattle.qcow2_alloc.specs.declared.cache.CacheDependency.TheVariants.{RbDependsOnL2}
use Rattle.qcow2_alloc.specs.declared.cache.MetadataCaches.{MetadataCaches}
use Rattle.qcow2_alloc.specs.declared.file.ImageFile.{ImageFile}
use Rattle.qcow2_alloc.specs.Allocators.{metadata_of}
use Rattle.qcow2_alloc.specs.Caches.{cached_in, order_of, HasRoomOf}
use Rattle.qcow2_alloc.specs.Causes.{FailsFor}
use Rattle.qcow2_alloc.specs.Finding.{PinsNothing}
use Rattle.qcow2_alloc.specs.Freeing.{Frees, NoneFreeBefore, NoErrorOrNoChangeRefused, data_in}
use Rattle.qcow2_alloc.specs.FreeList.{entry_at}
use Rattle.qcow2_alloc.specs.Going.{WritesBackCached, Always, IsNoShorter, AreBlocksAddressable, HadNoResourceError, writing_causes}
use Rattle.qcow2_alloc.specs.Memory.{Cached, memory, written, written_block}
use Rattle.qcow2_alloc.specs.GuestView.{Metadata, IsSound, PreservesGuest, metadata_in}
use Rattle.qcow2_alloc.specs.WellFormedness.{WellFormed, NoChangeRefused}
use Rattle.qcow2_alloc.specs.State.{AllocatorState, image_state, metadata, with_first_free}
use Rattle.qcow2_alloc.proofs.Flushing.FlushRefusals.{never-refused, writing-implies}
use Rattle.qcow2_alloc.proofs.Causes.{cause-weaker}
use Rattle.qcow2_alloc.proofs.Caching.UnpinnedCaches.{kept-tables}
use Rattle.qcow2_alloc.proofs.Caching.Pins.{pins-written}
use Rattle.qcow2_alloc.proofs.GuestView.QuietAnnouncements.{announced-quietly, whole-quietly}
use Rattle.qcow2_alloc.proofs.GuestView.QuietFlushes.{flushes-quietly, quietly-weaker}
use Rattle.qcow2_alloc.proofs.Memory.SafeLaws.{safe-reach}

-- The order is set.
module _ {S : Type 0} (state : S → StorageState) (s : AllocatorState S) (new : MetadataCaches S) (after : ImageFile S)
    (kept : written (cached_in new) ≡ written (cached_in s.caches)) (header : after.header ≡ s.file.header) (room : HasRoomOf s.caches new) where
  abbrev Old : Metadata
  Old = metadata state s.image

  abbrev New : Metadata
  New = metadata_of state after new s.table s.pending

  abbrev Goes : Result Unit Fault → Type 0
  Goes result = WritesBackCached s.file.header (order_of s.caches) Always (result ≡ Ok tt) (state s.file.image) (cached_in s.caches) (state after.image) (cached_in new)

  pins-still : PinsNothing (cached_in s.caches).blocks (cached_in new).blocks
  pins-still = pins-written written_block (λ e. e.0) (λ e. e.1.pins) (λ e. (refl, refl)) (cached_in s.caches).blocks (cached_in new).blocks (ap (λ (c : Cached). c.blocks) kept)

  abbrev Succeeds : Result Unit Fault → Type 0
  Succeeds result = result ≡ Ok tt

  still-marked : (result : Result Unit Fault) → Goes result → IsTrue (state s.file.image).shape.keeps → IsSound Old → Succeeds result ⊎ NoChangeRefused (state s.file.image) (state after.image) → NoneFreeBefore Old s.mark → NoneFreeBefore New s.mark
  still-marked result going keeps sound why marked d below =
      let settled = going.holds keeps sound.well_formed tt why in
      let was = marked d below in
      subst (λ (h : Header). 0 < count (memory (bytes_of (state after.image).bytes) h.fields (cached_in new)) h.fields d) (sym header) (subst (λ (g : Bytes). 0 < count g s.file.header.fields d) (sym settled.memory_same) was)

  pub announcing-frees : (result : Result Unit Fault) → Goes result → OnOk result (order_of new ≡ RbDependsOnL2) → OnErr result (order_of new ≡ order_of s.caches) → OnOk result ((f : Bytes) (H : Header) → WellFormed f H (cached_in new) (order_of s.caches) → WellFormed f H (cached_in new) RbDependsOnL2)
      → FailsFor (writing_causes (AreBlocksAddressable (cached_in s.caches)) (state s.file.image).faults (state after.image).faults) result → (HadNoResourceError result → IsFaultless (state s.file.image) (state after.image))
      → IsNoShorter (state s.file.image) (state after.image) → Frees state s result (with_first_free (image_state s.table new after s.pending) s.mark)
  announcing-frees (Ok done) going order stays well_formed counts faultless long =
      let announced = announced-quietly Old RbDependsOnL2 (Ok tt) (state s.file.image) (state after.image) (cached_in new) refl going well_formed in
      let guest_unchanged = whole-quietly Old (AreBlocksAddressable (cached_in s.caches)) (state s.file.image).faults (state after.image).faults (Ok tt) (λ _. 0) (λ _. 0) (state s.file.image) (state after.image) _ (λ reach. reach.1) counts announced in
      record {
        faults = faultless;
        guest_unchanged = quietly-weaker ⊤ _ (λ _. 0) (λ _. 0) (state s.file.image) Old (state after.image) New (λ sound why. tt)
            (subst (λ (h : Header). PreservesGuest ⊤ (λ _. 0) (λ _. 0) (state s.file.image) Old (state after.image) (record Old { file = bytes_of (state after.image).bytes; header = h; cached = cached_in new; order = order_of new })) (sym header)
            (subst (λ (o : CacheDependency). PreservesGuest ⊤ (λ _. 0) (λ _. 0) (state s.file.image) Old (state after.image) (record Old { file = bytes_of (state after.image).bytes; cached = cached_in new; order = o })) (sym order) guest_unchanged));
        marked = λ keeps sound why marked. still-marked (Ok done) going keeps sound (inl refl) marked;
        lower = omega arith;
        fallen = inl refl;
        header = header;
        no_shorter = long;
        pins = pins-still;
        room = kept-tables s.caches new kept room;
        less = λ d. omega arith;
        fewer = omega arith;
        cause = counts;
      }
  announcing-frees (Err fault) going order stays well_formed why faultless long =
      let flushed = flushes-quietly Old (Succeeds (Err fault)) (state s.file.image) (state after.image) (cached_in new) refl going in
      let cut : IsSound Old → NoErrorOrNoChangeRefused (Err fault) (state s.file.image) (state after.image) → Succeeds (Err fault) ⊎ NoChangeRefused (state s.file.image) (state after.image) =
      λ sound why'. elim why' [ inl not_resource_error ↦ absurd (never-refused _ _ _ fault (safe-reach _ _ _ _ sound.well_formed).1 not_resource_error why) | inr no_change_refused ↦ inr no_change_refused ] in
      record {
        faults = faultless;
        guest_unchanged = quietly-weaker _ _ (λ _. 0) (λ _. 0) (state s.file.image) Old (state after.image) New cut
            (subst (λ (h : Header). PreservesGuest (Succeeds (Err fault) ⊎ NoChangeRefused (state s.file.image) (state after.image)) (λ _. 0) (λ _. 0) (state s.file.image) Old (state after.image) (record Old { file = bytes_of (state after.image).bytes; header = h; cached = cached_in new; order = order_of new })) (sym header)
            (subst (λ (o : CacheDependency). PreservesGuest (Succeeds (Err fault) ⊎ NoChangeRefused (state s.file.image) (state after.image)) (λ _. 0) (λ _. 0) (state s.file.image) Old (state after.image) (record Old { file = bytes_of (state after.image).bytes; cached = cached_in new; order = o })) (sym stays) flushed));
        marked = λ keeps sound why' marked. still-marked (Err fault) going keeps sound (cut sound why') marked;
        lower = omega arith;
        fallen = inl refl;
        header = header;
        no_shorter = long;
        pins = pins-still;
        room = kept-tables s.caches new kept room;
        less = λ d. omega arith;
        fewer = omega arith;
        cause = cause-weaker (writing-implies _ (omega arith) (omega arith) (λ far holds. far (safe-reach _ _ _ _ holds.1.well_formed).1)) fault why;
      }

pub metadata-found : (es : List FreeEntry) (i : ℕ) → position (λ (e : FreeEntry). e.metadata) es ≡ Some i → (i < length es) × ((entry_at es i).metadata ≡ true)
metadata-found es i is = let p = position-Some (λ (e : FreeEntry). e.metadata) es i (record { first = 0; count = 0; metadata = false }) is in (p.0, p.1)

module _ {X : Type 0} (test : X → Bool) where
  pub filter-takes : (x : X) (xs : List X) → test x ≡ true → filter test (x ∷ xs) ≡ x ∷ filter test xs
  filter-takes x xs t = rw t refl

  pub filter-drops : (x : X) (xs : List X) → test x ≡ false → filter test (x ∷ xs) ≡ filter test xs
  filter-drops x xs t = rw t refl

  filter-all : (xs : List X) → length xs ≤ prefix_len test xs → xs ≡ filter test xs
  filter-all [] le = refl
  filter-all (x ∷ xs) le = elim (cases_Bool (test x)) [
    | inl t ↦ let more = rw t at le in rw t (ap (λ l. x ∷ l) (filter-all xs (omega (arith, more))))
    | inr t ↦ absurd (let none = rw t at le in omega (arith, none))
  ]

pub data-stays : (es : List FreeEntry) (i : ℕ) → i < length es → (entry_at es i).metadata ≡ true → data_in (remove es i) ≡ data_in es
data-stays [] i inside is = absurd (omega (arith, inside))
data-stays (e ∷ es) zero inside is = sym (filter-drops (λ (x : FreeEntry). not x.metadata) e es (ap not is))
data-stays (e ∷ es) (suc i) inside is =
    let rest = data-stays es i (omega (arith, inside)) is in
    elim (cases_Bool (not e.metadata)) [
      | inl on ↦ filter-takes (λ (x : FreeEntry). not x.metadata) e (remove es i) on ∙ ap (λ l. e ∷ l) rest ∙ sym (filter-takes (λ (x : FreeEntry). not x.metadata) e es on)
      | inr off ↦ filter-drops (λ (x : FreeEntry). not x.metadata) e (remove es i) off ∙ rest ∙ sym (filter-drops (λ (x : FreeEntry). not x.metadata) e es off)
    ]

pub none-found : (es : List FreeEntry) (i : ℕ) → i < length es → (entry_at es i).metadata ≡ true → metadata_in es ≡ [] → ⊥
none-found [] i inside is none = absurd (omega (arith, inside))
none-found (e ∷ es) zero inside is none = let some = sym (filter-takes (λ (x : FreeEntry). x.metadata) e es is) ∙ none in cc some
none-found (e ∷ es) (suc i) inside is none = elim (cases_Bool e.metadata) [
  | inl on ↦ let some = sym (filter-takes (λ (x : FreeEntry). x.metadata) e es on) ∙ none in cc some
  | inr off ↦ none-found es i (omega (arith, inside)) is (sym (filter-drops (λ (x : FreeEntry). x.metadata) e es off) ∙ none)
]

pub all-data : (es : List FreeEntry) → position (λ (e : FreeEntry). e.metadata) es ≡ None → es ≡ data_in es
all-data es none = elim (cases_lt (position_or_len (λ (e : FreeEntry). e.metadata) es) (length es)) [
  | inl lt ↦ absurd (let k = rw (lt-ltb _ _ lt) at none in cc)
  | inr le ↦ filter-all (λ (e : FreeEntry). not e.metadata) es le
]

-- A call that sets the disk size in the header.
use Rattle.std.proofs.Common.{◌≡◌, ℕ, ◌-◌, ◌^◌, ◌<◌, ◌≤◌, refl, arith, sym, subst, ◌∙◌, inl, inr, true, List, Ok, Err, Result}
use Rattle.std.specs.Prelude.{◌⊎◌, IsTrue, OnErr, OnOk, EachIndex, None, slice_index}
use Rattle.imago_storage.specs.State.{StorageState}
use Rattle.imago_storage.specs.Passing.{UnrefusedCrashImages}
use Rattle.imago_storage.specs.Through.{AtomicWriteOutcome}
use Rattle.imago_storage.specs.declared.fault.Fault.{Fault}
use Rattle.imago_storage.proofs.Composing.{keeps_on, no_stops, one_stop, tells_on}
use Rattle.qcow2_types.specs.Bytes.{Bytes, bytes_of, splice}
use Rattle.qcow2_types.specs.Frames.{Outside}
use Rattle.qcow2_types.specs.Header.{Fields, Header, Limited, first_fault, header_of, rules_of_size}
use Rattle.qcow2_types.specs.HeaderBytes.{first_bytes}
use Rattle.qcow2_types.specs.HeaderSwitch.{OnlyPlaces}
use Rattle.qcow2_types.specs.Pending.{FreeEntry}
use Rattle.qcow2_types.specs.Switched.{SizeSwitched, sized, with_size}
use Rattle.qcow2_types.proofs.Changes.Frames.{splice-is-outside}
use Rattle.qcow2_types.proofs.Fields.HeaderLimits.{fields-limited, limited-fields}
use Rattle.qcow2_types.proofs.Switching.HeaderSwitch.{first-fields-fit, length-first_bytes, name-behind, switch-header}
use Rattle.qcow2_types.proofs.Switching.SizeSwitch.{size-switched}
use Rattle.qcow2_metadata.specs.Tables.{TableValue}
use Rattle.qcow2_metadata.proofs.TableFacts.{words_same}
use Rattle.qcow2_alloc.specs.declared.file.ImageFile.{ImageFile}
use Rattle.qcow2_alloc.specs.GuestView.{IsSound}
use Rattle.qcow2_alloc.specs.Opening.{IsL1Of}
use Rattle.qcow2_alloc.proofs.Flushing.EntryFlushes.{spliced-bytes}
use Rattle.qcow2_alloc.proofs.Growth.TableSwitches.{sound-sizes}
use Rattle.qcow2_steps.specs.Sizes.{KeepsAllButSize, rested}
use Rattle.qcow2_steps.proofs.SizeSteps.{keeps-all}
use Rattle.qcow2_clusters.specs.Sizing.{SizesDisk}
use Rattle.qcow2_clusters.proofs.L1Growth.{each-byte}
use Rattle.qcow2_clusters.proofs.TableNames.{l1-sound}

-- A header that obeys the rules on sizes obeys them with another disk size, if that isn't too large.
other-size : (h : Fields) (n : ℕ) → n ≤ 2 ^ 63 - 1 → first_fault (rules_of_size h) ≡ None → first_fault (rules_of_size (sized h n)) ≡ None
other-size h n low kept =
    let limited : Limited h = fields-limited h kept in
    limited-fields (sized h n) record {
      size = omega (arith, low);
      l1_entries = limited.l1_entries;
      refcount_entries = limited.refcount_entries;
      l1_place = limited.l1_place;
      refcount_place = limited.refcount_place;
    }

module _ (s : StorageState) (H : Header) (n : ℕ) (bytes : EachIndex s.bytes (λ k. slice_index s.bytes k < 256)) where
  abbrev f : Bytes
  f = bytes_of s.bytes

  -- The file with the new header.
  abbrev x : Bytes
  x = splice (bytes_of s.bytes) 0 (first_bytes (sized H.fields n))

  module _ (table : TableValue) (pending : List FreeEntry) (low : n ≤ 2 ^ 63 - 1)
      (sound : IsSound (rested (bytes_of s.bytes) H table pending)) where
    loads : header_of true x ≡ Ok (with_size H n)
    loads =
        let was = sound.well_formed.consistent.readable.loads in
        let only : OnlyPlaces H (with_size H n) = record { same = refl } in
        let sizes = other-size H.fields n low (sound-sizes (rested (bytes_of s.bytes) H table pending) sound) in
        switch-header true f H (with_size H n) was only (first-fields-fit true f H (with_size H n) (each-byte s.bytes bytes) was only sizes) sizes
        (name-behind f H was)

    outside : Outside f x 0 64
    outside = subst (λ k. Outside f x 0 k) (length-first_bytes (sized H.fields n)) (splice-is-outside f 0 (first_bytes (sized H.fields n)))

    written-keeps : KeepsAllButSize f H n x table pending
    written-keeps = keeps-all f H n x table pending sound (record { loads = loads; outside = outside })

    switched : SizeSwitched f x H n
    switched = size-switched f x H sound.well_formed.consistent n loads outside

    -- The L1 table is after the first cluster.
    written-l1 : (l1 : TableValue) → IsL1Of f H.fields l1 → IsL1Of x (sized H.fields n) l1
    written-l1 l1 of = record {
      layout = of.layout;
      raw_entries = of.raw_entries ∙ sym (words_same x f H.fields.l1_offset H.fields.l1_offset H.fields.l1_entries
          (λ i lt. switched.same_structure_outside.l1 i lt (λ e. cc)));
      sound = l1-sound x (sized H.fields n) switched.consistent.readable.tables;
    }

  module _ (t : StorageState) (table : TableValue) (pending : List FreeEntry) (low : n ≤ 2 ^ 63 - 1) (keeps : IsTrue s.shape.keeps)
      (sound : IsSound (rested (bytes_of s.bytes) H table pending)) where
    abbrev Shown : List ℕ → Type 0
    Shown y = (y ≡ s.bytes) ⊎ KeepsAllButSize (bytes_of s.bytes) H n (bytes_of y) table pending

    is-written : {T : Type 0} (done : T) → AtomicWriteOutcome s t 0 (first_bytes (sized H.fields n)) (Ok done) → bytes_of t.bytes ≡ x
    is-written done put = spliced-bytes s.bytes 0 (first_bytes (sized H.fields n)) t.bytes (put.put.answer.content keeps)

    there : {T : Type 0} (done : T) → AtomicWriteOutcome s t 0 (first_bytes (sized H.fields n)) (Ok done)
        → KeepsAllButSize f H n (bytes_of t.bytes) table pending
    there done put = subst (λ (y : Bytes). KeepsAllButSize f H n y table pending) (sym (is-written done put)) (written-keeps table pending low sound)

    pub size-l1 : (result : Result Unit Fault) (K : Header) → AtomicWriteOutcome s t 0 (first_bytes (sized H.fields n)) result
        → OnOk result (K ≡ with_size H n) → (l1 : TableValue) → IsL1Of (bytes_of s.bytes) H.fields l1
        → OnOk result (IsL1Of (bytes_of t.bytes) K.fields l1)
    size-l1 (Ok done) K put is l1 of = subst (λ (K : Header). IsL1Of (bytes_of t.bytes) K.fields l1) (sym is)
        (subst (λ (y : Bytes). IsL1Of y (sized H.fields n) l1) (sym (is-written done put)) (written-l1 table pending low sound l1 of))
    size-l1 (Err fault) K put is l1 of = tt

    pub size-answer : (result : Result Unit Fault) → AtomicWriteOutcome s t 0 (first_bytes (sized H.fields n)) result
        → OnOk result (KeepsAllButSize (bytes_of s.bytes) H n (bytes_of t.bytes) table pending)
    size-answer (Ok done) put = there done put
    size-answer (Err fault) put = tt

    pub size-stops : (result : Result Unit Fault) → AtomicWriteOutcome s t 0 (first_bytes (sized H.fields n)) result
        → UnrefusedCrashImages (λ y. (y ≡ s.bytes) ⊎ KeepsAllButSize (bytes_of s.bytes) H n (bytes_of y) table pending) s t
    size-stops (Ok done) put = λ no_change_refused. (
      put.put.answer.crash_image_is_bytes,
      one_stop Shown s t (put.single_request (let long = length-first_bytes (sized H.fields n) in omega (arith, long)))
          (λ same tells keeps'. subst Shown (sym (put.put.answer.crash_image_is_bytes same (tells_on s t put.put.shape tells)
          (keeps_on s t put.put.shape keeps'))) (inr (there done put))),
    )
    size-stops (Err fault) put = λ no_change_refused. (
      elim put.put.answer.crash_image_is_bytes [ inl rose ↦ absurd (no_change_refused rose) | inr stays ↦ stays ],
      no_stops Shown s t put.single_request.0 put.single_request.1,
    )

-- The header has its old size again.
pub size-back : (H K L : Header) (n old : ℕ) → K ≡ with_size H n → old ≡ H.fields.size → L ≡ with_size K old → L ≡ H
size-back H K L n old made is back = back ∙ (λ i. with_size (made i) (is i))

-- The call writes the header with the new size in one request.
pub sizes-disk : {S : Type 0} (state : S → StorageState) (n : ℕ) (before : ImageFile S) (result : Result Unit Fault) (after : ImageFile S)
    → EachIndex (state before.image).bytes (λ k. slice_index (state before.image).bytes k < 256)
    → AtomicWriteOutcome (state before.image) (state after.image) 0 (first_bytes (sized before.header.fields n)) result
    → OnOk result (after.header ≡ with_size before.header n) → OnErr result (after.header ≡ before.header)
    → SizesDisk state n before result after
sizes-disk state n before result after bytes put ok err = record {
  put = put;
  ok = ok;
  err = err;
  sized = λ table pending low keeps sound. size-answer (state before.image) before.header n bytes (state after.image) table pending low keeps sound result put;
  l1 = λ table pending low keeps sound. size-l1 (state before.image) before.header n bytes (state after.image) table pending low keeps sound
      result after.header put ok;
  crash_images = λ table pending low keeps sound. size-stops (state before.image) before.header n bytes (state after.image) table pending low keeps sound
      result put;
}

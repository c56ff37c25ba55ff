-- Flushing a cached entry of any kind.
use Rattle.std.proofs.Common.{◌≡◌, ℕ, ◌+◌, ◌-◌, ◌*◌, ◌^◌, ◌<◌, arith, ap, sym, subst, ◌∙◌, List, ◌∷◌, ◌++◌, inl, inr, true, false, length, Result, Ok, Err, refl}
use Rattle.std.specs.Prelude.{◌⊎◌, ⊤, IsTrue, slice_index}
use Rattle.std.proofs.lemmas.Bool.{cases_Bool, cases_lt}
use Rattle.std.proofs.lemmas.Nat.{pow_pos}
use Rattle.std.proofs.Math.Path.{fun_ext}
use Rattle.imago_storage.specs.State.{StorageState, CrashImageIsBytes, HasRisen}
use Rattle.imago_storage.specs.Calls.{Spliced}
use Rattle.imago_storage.specs.Through.{AtomicWriteOutcome}
use Rattle.imago_storage.specs.declared.fault.Fault.{Fault}
use Rattle.imago_storage.proofs.Composing.{no_stops, one_stop, tells_on, keeps_on}
use Rattle.qcow2_types.specs.Bytes.{Bytes, bytes_of, splice}
use Rattle.qcow2_types.specs.Header.{Header, cluster_size}
use Rattle.qcow2_types.specs.Words.{max_offset}
use Rattle.qcow2_types.proofs.Numbers.Splices.{splice-inside, splice-outside}
use Rattle.qcow2_metadata.specs.Places.{IsAddressable}
use Rattle.qcow2_alloc.specs.declared.async_lru_cache.Slot.{Slot}
use Rattle.qcow2_alloc.specs.declared.cache.CacheDependency.{CacheDependency}
use Rattle.qcow2_alloc.specs.Backends.{WrittenKind, Flushed}
use Rattle.qcow2_alloc.specs.Going.{WritesBackCached, IsNotResourceError, HadNoResourceError}
use Rattle.qcow2_alloc.specs.Memory.{Cached, memory}
use Rattle.qcow2_alloc.specs.WellFormedness.{WellFormed, IsCrashImage, NoChangeRefused, IsSettled}
use Rattle.qcow2_alloc.proofs.Caching.SingleEntries.{EntryLaws, entry-fits}
use Rattle.qcow2_alloc.proofs.Flushing.FaultlessCalls.{never-mild, put-faultless}
use Rattle.qcow2_alloc.proofs.Flushing.WriteSequences.{going-none, going-weaker, settled-same}
use Rattle.qcow2_alloc.proofs.Flushing.EntryWriteBacks.{EntryWritten}
use Rattle.qcow2_alloc.proofs.Memory.EntryKinds.{EntryKind}

pub spliced-bytes : (old : List ℕ) (at : ℕ) (bytes new : List ℕ) → Spliced old at bytes new → bytes_of new ≡ splice (bytes_of old) at bytes
spliced-bytes old at bytes new spliced = fun_ext (λ p. elim (cases_lt p at) [
  | inl before ↦ spliced.before p before ∙ sym (splice-outside (bytes_of old) at bytes p (inl before))
  | inr le ↦ elim (cases_lt p (at + length bytes)) [
    | inl inside ↦
        let place : at + (p - at) ≡ p = omega (arith, le) in
        let there : splice (bytes_of old) at bytes (at + (p - at)) ≡ slice_index bytes (p - at) = splice-inside (bytes_of old) at bytes (p - at) (omega (arith, le, inside)) in
        spliced.inside p le inside ∙ sym (rw place at there)
    | inr past ↦ spliced.after p past ∙ sym (splice-outside (bytes_of old) at bytes p (inr past))
  ]
])

-- If a call makes no request and has no change refused, the file is unchanged.
pub calm-same : (old new : StorageState) → new.shape ≡ old.shape → new.crash_image ≡ old.crash_image → (HasRisen old.refusals new.refusals ⊎ (CrashImageIsBytes old → CrashImageIsBytes new)) → IsTrue old.shape.keeps → NoChangeRefused old new → new.bytes ≡ old.bytes
calm-same old new shape stop in_step keeps no_change_refused = elim in_step [
  | inl rose ↦ absurd (no_change_refused.no_change_refused rose)
  | inr stays ↦ sym (stays no_change_refused.crash_image_is_bytes (tells_on old new shape no_change_refused.tells) (keeps_on old new shape keeps)) ∙ stop ∙ no_change_refused.crash_image_is_bytes no_change_refused.tells keeps
]

abbrev pub done_so : Result Unit Fault
done_so = Ok tt

-- The laws of the write: a failure leaves a dirty entry unchanged, the write isn't empty, and success settles the entry.
module _ {V : Type 0} (kind : WrittenKind V) (H : Header) (order : CacheDependency) (Ready : Cached → Type 0) (put : Slot V → Cached) (key : ℕ) (here : Slot V) (old new : StorageState)
    (ready : (slot : Slot V) → Ready (put here) → Ready (put slot))
    (noted : kind.modified here.value ≡ true → WellFormed (bytes_of old.bytes) H (put here) order → kind.marked here.value key true ≡ here.value)
    (puts : (result : Result Unit Fault) → kind.Puts here.value (key * 2 ^ kind.cluster_bits here.value) old new result
    → (bytes : List ℕ) × AtomicWriteOutcome old new (key * 2 ^ kind.cluster_bits here.value) bytes result
    × (kind.modified here.value ≡ true → WellFormed (bytes_of old.bytes) H (put here) order → 0 < length bytes))
    (there : kind.modified here.value ≡ true → kind.Puts here.value (key * 2 ^ kind.cluster_bits here.value) old new done_so → IsTrue old.shape.keeps → WellFormed (bytes_of old.bytes) H (put here) order → Ready (put here)
    → IsSettled H order old.bytes (put here) new.bytes (put (record here { value = kind.marked here.value key false }))) where
  -- The cached entries, with another value here.
  abbrev now : V → Cached
  now value = put (record here { value = value })

  abbrev Goes : Type 0 → V → Type 0
  Goes ok value = WritesBackCached H order Ready ok old (put here) new (now value)

  -- The write succeeds.
  entry-put : kind.modified here.value ≡ true → kind.Puts here.value (key * 2 ^ kind.cluster_bits here.value) old new done_so → Goes (done_so ≡ done_so) (kind.marked here.value key false)
  entry-put modified done =
      let p = puts done_so done in
      let once = p.1 in
      record {
        shape = once.put.shape;
        counts_not_fallen = once.put.counts_not_fallen;
        faults = λ ok. put-faultless old new _ _ done_so once.put tt;
        ready = ready (record here { value = kind.marked here.value key false });
        passes = λ keeps well_formed r no_change_refused.
            let settled = there modified done keeps well_formed r in (
              once.put.answer.crash_image_is_bytes,
              one_stop (λ x. IsCrashImage (bytes_of old.bytes) (memory (bytes_of old.bytes) H.fields (put here)) H (bytes_of x)) old new (once.single_request (p.2 modified well_formed))
                  (λ same tells keeps'. subst (λ x. IsCrashImage (bytes_of old.bytes) (memory (bytes_of old.bytes) H.fields (put here)) H (bytes_of x))
                  (sym (once.put.answer.crash_image_is_bytes same (tells_on old new once.put.shape tells) (keeps_on old new once.put.shape keeps'))) settled.left),
            );
        holds = λ keeps well_formed r why. there modified done keeps well_formed r;
      }

  -- The write fails.
  entry-refused : (fault : Fault) → kind.modified here.value ≡ true → (answer : Result Unit Fault) → answer ≡ Err fault → kind.Puts here.value (key * 2 ^ kind.cluster_bits here.value) old new answer
      → Goes (answer ≡ done_so) (kind.marked here.value key true)
  entry-refused fault modified (Ok done) is refused = absurd (cc is)
  entry-refused fault modified (Err other) is refused =
      let once = (puts (Err other) refused).1 in
      record {
        shape = once.put.shape;
        counts_not_fallen = once.put.counts_not_fallen;
        faults = λ ok. absurd (cc ok);
        ready = ready (record here { value = kind.marked here.value key true });
        passes = λ keeps well_formed r no_change_refused. (elim once.put.answer.crash_image_is_bytes [ inl rose ↦ absurd (no_change_refused rose) | inr stays ↦ stays ], no_stops _ old new once.single_request.0 once.single_request.1);
        holds = λ keeps well_formed r why. elim why [
          | inl done ↦ absurd (cc done)
          | inr no_change_refused ↦
              let same : new.bytes ≡ old.bytes = calm-same old new once.put.shape once.single_request.0 once.put.answer.crash_image_is_bytes keeps no_change_refused in
              subst (λ (v : V). IsSettled H order old.bytes (put here) new.bytes (now v)) (sym (noted modified well_formed))
              (subst (λ (l : List ℕ). IsSettled H order old.bytes (put here) l (put here)) (sym same) (settled-same H order Ready old.bytes (put here) well_formed))
        ];
      }

  -- Nothing is written: the entry is clean, or isn't addressable.
  entry-stays : (ok : Type 0) (value : V) → new ≡ old → value ≡ here.value → Goes ok value
  entry-stays ok value same same' =
      subst (λ (s : StorageState). WritesBackCached H order Ready ok old (put here) s (now value)) (sym same)
      (subst (λ (v : V). WritesBackCached H order Ready ok old (put here) old (now v)) (sym same') (going-none H order Ready ok old (put here)))

  by-answer : (result : Result Unit Fault) (value : V) → kind.modified here.value ≡ true → IsAddressable (kind.cluster_bits here.value) key → Flushed kind old key here.value result new value → Goes (result ≡ done_so) value
  by-answer (Ok done) value modified reach flushed = subst (λ (v : V). Goes (done_so ≡ done_so) v) (sym (flushed.ok modified)) (entry-put modified (flushed.written modified reach))
  by-answer (Err fault) value modified reach flushed =
      subst (λ (v : V). Goes (Err fault ≡ done_so) v) (sym (flushed.err modified reach)) (entry-refused fault modified (Err fault) refl (flushed.written modified reach))

  whole-answer : (result : Result Unit Fault) (value : V) → kind.modified here.value ≡ true → IsAddressable (kind.cluster_bits here.value) key → Flushed kind old key here.value result new value → Goes (HadNoResourceError result) value
  whole-answer (Ok done) value modified reach flushed = going-weaker H order Ready (done_so ≡ done_so) ⊤ old new (put here) (now value) (λ w. refl) (by-answer (Ok done) value modified reach flushed)
  whole-answer (Err fault) value modified reach flushed =
      going-weaker H order Ready (Err fault ≡ done_so) (IsNotResourceError fault) old new (put here) (now value)
      (λ not_resource_error. absurd (never-mild old.faults new.faults fault (puts (Err fault) (flushed.written modified reach)).1.put.answer.cause not_resource_error)) (by-answer (Err fault) value modified reach flushed)

  -- All cases together.
  pub entry-flushed : (result : Result Unit Fault) (value : V) → Flushed kind old key here.value result new value → Goes (HadNoResourceError result) value
  entry-flushed result value flushed = elim (cases_Bool (kind.modified here.value)) [
    | inr clean ↦ let none = flushed.clean clean in entry-stays (HadNoResourceError result) value none.1 none.2
    | inl modified ↦ elim (cases_lt max_offset (key * 2 ^ kind.cluster_bits here.value)) [
      | inl far ↦ let none = flushed.out modified (λ reach. omega (arith, far, reach)) in entry-stays (HadNoResourceError result) value none.1 none.2
      | inr reach ↦ whole-answer result value modified reach flushed
    ]
  ]

-- The flush of an L2 table or a refcount block, from the laws of its write.
module _ {V W : Type 0} (kind : EntryKind V W) (laws : EntryLaws kind) (H : Header) (order : CacheDependency) (Ready : Cached → Type 0)
    (rest : List (ℕ × Slot W)) (front : List (ℕ × Slot V)) (key : ℕ) (here : Slot V) (back : List (ℕ × Slot V)) (old new : StorageState) where
  abbrev before : Cached
  before = kind.put rest (front ++ (key, here) ∷ back)

  abbrev cached_with : V → Cached
  cached_with value = kind.put rest (front ++ (key, record here { value = value }) ∷ back)

  abbrev Puts : Result Unit Fault → Type 0
  Puts = kind.writes.Puts here.value (key * 2 ^ kind.writes.cluster_bits here.value) old new

  module _ (ready : (slot : Slot V) → Ready before → Ready (kind.put rest (front ++ (key, slot) ∷ back)))
      (noted : kind.writes.modified here.value ≡ true → kind.Fits (bytes_of old.bytes) H.fields key here.value → kind.writes.marked here.value key true ≡ here.value)
      (bits : kind.Fits (bytes_of old.bytes) H.fields key here.value → 2 ^ kind.writes.cluster_bits here.value ≡ cluster_size H.fields)
      (puts : (result : Result Unit Fault) → Puts result → AtomicWriteOutcome old new (key * 2 ^ kind.writes.cluster_bits here.value) (kind.bytes here.value) result)
      (written : kind.writes.modified here.value ≡ true → Puts done_so → WellFormed (bytes_of old.bytes) H before order → Ready before
      → EntryWritten (bytes_of old.bytes) (splice (bytes_of old.bytes) (key * cluster_size H.fields) (kind.bytes here.value)) H order before (cached_with (kind.writes.marked here.value key false))) where
    fits : WellFormed (bytes_of old.bytes) H before order → kind.Fits (bytes_of old.bytes) H.fields key here.value
    fits well_formed = entry-fits kind laws (bytes_of old.bytes) H rest front key here back order well_formed

    some : kind.writes.modified here.value ≡ true → WellFormed (bytes_of old.bytes) H before order → 0 < length (kind.bytes here.value)
    some modified well_formed =
        let size : 0 < cluster_size H.fields = pow_pos H.fields.cluster_bits in
        let long : length (kind.bytes here.value) ≡ cluster_size H.fields = (laws.is_patch (bytes_of old.bytes) H well_formed.consistent key here.value (fits well_formed) modified).long in
        omega (arith, size, long)

    there : kind.writes.modified here.value ≡ true → Puts done_so → IsTrue old.shape.keeps → WellFormed (bytes_of old.bytes) H before order → Ready before
        → IsSettled H order old.bytes before new.bytes (cached_with (kind.writes.marked here.value key false))
    there modified done keeps well_formed r =
        let is : bytes_of new.bytes ≡ splice (bytes_of old.bytes) (key * cluster_size H.fields) (kind.bytes here.value) =
        spliced-bytes old.bytes (key * 2 ^ kind.writes.cluster_bits here.value) (kind.bytes here.value) new.bytes ((puts done_so done).put.answer.content keeps)
        ∙ ap (λ n. splice (bytes_of old.bytes) (key * n) (kind.bytes here.value)) (bits (fits well_formed)) in
        let w = subst (λ (x : Bytes). EntryWritten (bytes_of old.bytes) x H order before (cached_with (kind.writes.marked here.value key false))) (sym is) (written modified done well_formed r) in
        record { well_formed = w.well_formed; memory_same = w.memory_same; left = w.left }

    pub kind-flushed : (result : Result Unit Fault) (value : V) → Flushed kind.writes old key here.value result new value
        → WritesBackCached H order Ready (HadNoResourceError result) old before new (cached_with value)
    kind-flushed = entry-flushed kind.writes H order Ready (λ slot. kind.put rest (front ++ (key, slot) ∷ back)) key here old new ready
        (λ modified well_formed. noted modified (fits well_formed)) (λ result put. (kind.bytes here.value, puts result put, some)) there

pub entry-clean : {V : Type 0} (kind : WrittenKind V) → ((v : V) (key : ℕ) → kind.modified (kind.marked v key false) ≡ false) → (key : ℕ) (v : V) (old new : StorageState) (v' : V) → Flushed kind old key v done_so new v' → kind.modified v' ≡ false
entry-clean kind off key v old new v' flushed = elim (cases_Bool (kind.modified v)) [
  | inr clean ↦ ap (λ (w : _). kind.modified w) (flushed.clean clean).2 ∙ clean
  | inl modified ↦ ap (λ (w : _). kind.modified w) (flushed.ok modified) ∙ off v key
]

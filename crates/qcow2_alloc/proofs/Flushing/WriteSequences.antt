-- Sequences of writes of cached tables and blocks.
use Rattle.std.proofs.Common.{◌≡◌, ℕ, ◌≤◌, refl, arith, ap, sym, subst, ◌∙◌, List, [], ◌∷◌, ◌++◌, inl, inr, Option, None, Result, Ok, Err}
use Rattle.std.specs.Prelude.{IsTrue}
use Rattle.imago_storage.specs.State.{StorageState, HasRisen, CrashImageIsBytes, Shape}
use Rattle.imago_storage.specs.Calls.{UnchangedButFaults, IsFaultless}
use Rattle.imago_storage.specs.Through.{EachCrashImage}
use Rattle.imago_storage.proofs.Composing.{keeps_on, no_stops, stops_both, later_same, later_both, rose_before, rose_behind}
use Rattle.qcow2_types.specs.Bytes.{Bytes, bytes_of}
use Rattle.qcow2_types.specs.Header.{Header}
use Rattle.qcow2_types.specs.Entries.{l2_table}
use Rattle.qcow2_types.specs.Slots.{Live}
use Rattle.qcow2_types.proofs.Counting.Either.{places-refl}
use Rattle.qcow2_types.specs.Consistency.{IsConsistent}
use Rattle.std.proofs.lemmas.List.{append_assoc}
use Rattle.imago_storage.specs.declared.fault.Fault.{Fault}
use Rattle.qcow2_alloc.specs.declared.async_lru_cache.Slot.{Slot}
use Rattle.qcow2_alloc.specs.Cache.{FlushedEach, with_value}
use Rattle.qcow2_alloc.proofs.Flushing.FaultlessCalls.{faultless-then}
use Rattle.qcow2_alloc.proofs.Flushing.Turns.{none-later}
use Rattle.qcow2_alloc.specs.declared.cache.CacheDependency.{CacheDependency}
use Rattle.qcow2_alloc.specs.Memory.{Cached, memory}
use Rattle.qcow2_alloc.specs.WellFormedness.{WellFormed, IsCrashImage, NoChangeRefused, IsSettled}
use Rattle.qcow2_alloc.specs.Going.{WritesBackCached, CachedStep, Always, InTurn}

-- A consistent file is a crash image of itself.
pub left-same : (f g : Bytes) (H : Header) → IsConsistent f H → IsCrashImage f g H f
left-same f g H was = record { consistent = was; raw_entries = record { places = places-refl f H.fields; slots = λ i j live. inl refl }; bytes = λ p. inl refl }

-- A crash image of a crash image is one of the first file.
pub left-then : (f x g : Bytes) (H : Header) (y : Bytes) → IsCrashImage f g H x → IsCrashImage x g H y → IsCrashImage f g H y
left-then f x g H y first second = record {
  consistent = second.consistent;
  raw_entries = record {
    places = record { l1 = λ i. second.raw_entries.places.l1 i ∙ first.raw_entries.places.l1 i; blocks = λ i. second.raw_entries.places.blocks i ∙ first.raw_entries.places.blocks i };
    slots = λ i j live.
        let live' : Live (l2_table x H.fields) H.fields i j = record { in_l1 = live.in_l1; is_there = (λ e. live.is_there (sym (first.raw_entries.places.l1 i) ∙ e)); in_table = live.in_table } in
        elim (second.raw_entries.slots i j live') [
          | inl same ↦ elim (first.raw_entries.slots i j live) [ inl was ↦ inl (same ∙ was) | inr now ↦ inr (same ∙ now) ]
          | inr now ↦ inr now
        ];
  };
  bytes = λ p. elim (second.bytes p) [
    | inl same ↦ elim (first.bytes p) [ inl was ↦ inl (same ∙ was) | inr now ↦ inr (same ∙ now) ]
    | inr now ↦ inr now
  ];
}

module _ (H : Header) (order : CacheDependency) (Ready : Cached → Type 0) where
  pub settled-same : (f : List ℕ) (cached : Cached) → WellFormed (bytes_of f) H cached order → IsSettled H order f cached f cached
  settled-same f cached well_formed = record { well_formed = well_formed; memory_same = refl; left = left-same (bytes_of f) (memory (bytes_of f) H.fields cached) H well_formed.consistent }

  pub going-none : (ok : Type 0) (old : StorageState) (cached : Cached) → WritesBackCached H order Ready ok old cached old cached
  going-none ok old cached = record {
    shape = refl;
    counts_not_fallen = later_same old;
    faults = λ o. (refl, refl);
    ready = λ r. r;
    passes = λ keeps well_formed ready no_change_refused. (λ same. same, no_stops _ old old refl refl);
    holds = λ keeps well_formed ready why. settled-same old.bytes cached well_formed;
  }

  settled-then : (a b c : List ℕ) (A B C : Cached) → IsSettled H order a A b B → IsSettled H order b B c C → IsSettled H order a A c C
  settled-then a b c A B C first second = record {
    well_formed = second.well_formed;
    memory_same = second.memory_same ∙ first.memory_same;
    left = left-then (bytes_of a) (bytes_of b) (memory (bytes_of a) H.fields A) H (bytes_of c) first.left (subst (λ (g : Bytes). IsCrashImage (bytes_of b) g H (bytes_of c)) first.memory_same second.left);
  }

-- Two sequences, where the first may establish the premise of the second.
pub going-both-from : (H : Header) (order : CacheDependency) (Ready Ready' : Cached → Type 0) (ok ok' : Type 0) (a b c : StorageState) (A B C : Cached)
    → (IsTrue a.shape.keeps → WellFormed (bytes_of a.bytes) H A order → Ready A → IsSettled H order a.bytes A b.bytes B → Ready' B) → (Ready A → Ready C)
    → WritesBackCached H order Ready ok a A b B → WritesBackCached H order Ready' ok' b B c C → WritesBackCached H order Ready (ok × ok') a A c C
going-both-from H order Ready Ready' ok ok' a b c A B C from stays first second = record {
  shape = second.shape ∙ first.shape;
  counts_not_fallen = later_both a b c first.counts_not_fallen second.counts_not_fallen;
  faults = λ both. faultless-then (first.faults both.0) (second.faults both.1);
  ready = stays;
  passes = λ keeps well_formed ready no_change_refused.
      let calm-first : HasRisen a.refusals b.refusals → ⊥ = λ r. no_change_refused (rose_before a.refusals b.refusals c.refusals r second.counts_not_fallen.refusals) in
      let calm-second : HasRisen b.refusals c.refusals → ⊥ = λ r. no_change_refused (rose_behind a.refusals b.refusals c.refusals first.counts_not_fallen.refusals r) in
      let one = first.passes keeps well_formed ready calm-first in
      let mid : CrashImageIsBytes a → IsTrue a.shape.tells → IsSettled H order a.bytes A b.bytes B = λ same tells. first.holds keeps well_formed ready (inr (record { no_change_refused = calm-first; crash_image_is_bytes = same; tells = tells })) in
      let two : (same : CrashImageIsBytes a) (tells : IsTrue a.shape.tells) → (CrashImageIsBytes b → CrashImageIsBytes c) × EachCrashImage (λ x. IsCrashImage (bytes_of b.bytes) (memory (bytes_of b.bytes) H.fields B) H (bytes_of x)) b c =
      λ same tells. second.passes (keeps_on a b first.shape keeps) (mid same tells).well_formed (from keeps well_formed ready (mid same tells)) calm-second in (
        λ same tells' keeps'. (two same (tells_back tells')).0 (one.0 same) tells' keeps',
        λ same tells keeps'.
            let m = mid same tells in
            stops_both (λ x. IsCrashImage (bytes_of a.bytes) (memory (bytes_of a.bytes) H.fields A) H (bytes_of x)) (λ x. IsCrashImage (bytes_of b.bytes) (memory (bytes_of b.bytes) H.fields B) H (bytes_of x))
            (λ x. IsCrashImage (bytes_of a.bytes) (memory (bytes_of a.bytes) H.fields A) H (bytes_of x)) a b c first.shape one.0 (λ _ x l. l)
            (λ _ x l. left-then (bytes_of a.bytes) (bytes_of b.bytes) (memory (bytes_of a.bytes) H.fields A) H (bytes_of x) m.left (subst (λ (g : Bytes). IsCrashImage (bytes_of b.bytes) g H (bytes_of x)) m.memory_same l))
            one.1 (two same tells).1 same tells keeps',
      );
  holds = λ keeps well_formed ready why.
      let calm-first : NoChangeRefused a c → NoChangeRefused a b = λ k. record { no_change_refused = (λ r. k.no_change_refused (rose_before a.refusals b.refusals c.refusals r second.counts_not_fallen.refusals)); crash_image_is_bytes = k.crash_image_is_bytes; tells = k.tells } in
      let m = first.holds keeps well_formed ready (elim why [ inl both ↦ inl both.0 | inr k ↦ inr (calm-first k) ]) in
      let calm-second : NoChangeRefused a c → NoChangeRefused b c = λ k. record {
        no_change_refused = (λ r. k.no_change_refused (rose_behind a.refusals b.refusals c.refusals first.counts_not_fallen.refusals r));
        crash_image_is_bytes = (first.passes keeps well_formed ready (calm-first k).no_change_refused).0 k.crash_image_is_bytes;
        tells = tells_on' k.tells;
      } in
      settled-then H order Ready a.bytes b.bytes c.bytes A B C m (second.holds (keeps_on a b first.shape keeps) m.well_formed (from keeps well_formed ready m) (elim why [ inl both ↦ inl both.1 | inr k ↦ inr (calm-second k) ]));
}
  where
    tells_back : IsTrue c.shape.tells → IsTrue a.shape.tells
    tells_back = subst (λ (s : Shape). IsTrue s.tells) (second.shape ∙ first.shape)

    tells_on' : IsTrue a.shape.tells → IsTrue b.shape.tells
    tells_on' = subst (λ (s : Shape). IsTrue s.tells) (sym first.shape)

pub going-both : (H : Header) (order : CacheDependency) (Ready : Cached → Type 0) (ok ok' : Type 0) (a b c : StorageState) (A B C : Cached) → WritesBackCached H order Ready ok a A b B → WritesBackCached H order Ready ok' b B c C → WritesBackCached H order Ready (ok × ok') a A c C
going-both H order Ready ok ok' a b c A B C first second = going-both-from H order Ready Ready ok ok' a b c A B C (λ keeps well_formed r m. first.ready r) (λ r. second.ready (first.ready r)) first second

pub going-weaker : (H : Header) (order : CacheDependency) (Ready : Cached → Type 0) (ok ok' : Type 0) (a b : StorageState) (A B : Cached) → (ok' → ok) → WritesBackCached H order Ready ok a A b B → WritesBackCached H order Ready ok' a A b B
going-weaker H order Ready ok ok' a b A B from h = record {
  shape = h.shape;
  counts_not_fallen = h.counts_not_fallen;
  faults = λ o. h.faults (from o);
  ready = h.ready;
  passes = h.passes;
  holds = λ keeps well_formed ready why. h.holds keeps well_formed ready (elim why [ inl done ↦ inl (from done) | inr no_change_refused ↦ inr no_change_refused ]);
}

-- The success condition may rely on `WellFormed`.
pub going-safely : (H : Header) (order : CacheDependency) (Ready : Cached → Type 0) (ok ok' : Type 0) (a b : StorageState) (A B : Cached) → (ok' → IsFaultless a b) → (WellFormed (bytes_of a.bytes) H A order → ok' → ok) → WritesBackCached H order Ready ok a A b B → WritesBackCached H order Ready ok' a A b B
going-safely H order Ready ok ok' a b A B faultless from h = record {
  shape = h.shape;
  counts_not_fallen = h.counts_not_fallen;
  faults = faultless;
  ready = h.ready;
  passes = h.passes;
  holds = λ keeps well_formed ready why. h.holds keeps well_formed ready (elim why [ inl done ↦ inl (from well_formed done) | inr no_change_refused ↦ inr no_change_refused ]);
}

-- All entries of a cache are flushed, from the last to the first.
module _ {V D : Type 0} (state : D → StorageState) (flushes : D → ℕ → V → Result Unit Fault → D → V → Type 0) (H : Header) (order : CacheDependency) (Ready : Cached → Type 0) (put : List (ℕ × Slot V) → Cached)
    (step : (front : List (ℕ × Slot V)) (key : ℕ) (slot : Slot V) (back : List (ℕ × Slot V)) (old new : D) (result : Result Unit Fault) (value : V) → flushes old key slot.value result new value
    → WritesBackCached H order Ready (result ≡ Ok tt) (state old) (put (front ++ (key, slot) ∷ back)) (state new) (put (front ++ (key, record slot { value = value }) ∷ back))) where
  each-behind : (front es : List (ℕ × Slot V)) (before : D) (outcome : Option Fault) (after : D) (es' : List (ℕ × Slot V)) → FlushedEach flushes before es outcome after es'
      → WritesBackCached H order Ready (outcome ≡ None) (state before) (put (front ++ es)) (state after) (put (front ++ es'))
  each-behind front [] before outcome after es' flushed =
      subst (λ (d : D). WritesBackCached H order Ready (outcome ≡ None) (state before) (put (front ++ [])) (state d) (put (front ++ es'))) (sym flushed.1)
      (subst (λ (l : List (ℕ × Slot V)). WritesBackCached H order Ready (outcome ≡ None) (state before) (put (front ++ [])) (state before) (put (front ++ l))) (sym flushed.2)
      (going-none H order Ready (outcome ≡ None) (state before) (put (front ++ []))))
  each-behind front (e ∷ es) before outcome after es' (mid, first, rest, earlier, result, value, flush, worst, is) =
      let one = each-behind (front ++ e ∷ []) es before first mid rest earlier in
      let one' : WritesBackCached H order Ready (first ≡ None) (state before) (put (front ++ e ∷ es)) (state mid) (put (front ++ e ∷ rest)) =
      subst (λ (l : List (ℕ × Slot V)). WritesBackCached H order Ready (first ≡ None) (state before) (put l) (state mid) (put (front ++ e ∷ rest))) (append_assoc front (e ∷ []) es)
      (subst (λ (l : List (ℕ × Slot V)). WritesBackCached H order Ready (first ≡ None) (state before) (put ((front ++ e ∷ []) ++ es)) (state mid) (put l)) (append_assoc front (e ∷ []) rest) one) in
      let both = going-both H order Ready (first ≡ None) (result ≡ Ok tt) (state before) (state mid) (state after) (put (front ++ e ∷ es)) (put (front ++ e ∷ rest)) (put (front ++ with_value e value ∷ rest)) one' (step front e.0 e.1 rest mid after result value flush) in
      subst (λ (l : List (ℕ × Slot V)). WritesBackCached H order Ready (outcome ≡ None) (state before) (put (front ++ e ∷ es)) (state after) (put (front ++ l))) (sym is)
      (going-weaker H order Ready ((first ≡ None) × (result ≡ Ok tt)) (outcome ≡ None) (state before) (state after) (put (front ++ e ∷ es)) (put (front ++ with_value e value ∷ rest)) (λ none. none-later first result (sym worst ∙ none)) both)

  pub each-flushed : (es : List (ℕ × Slot V)) (before : D) (outcome : Option Fault) (after : D) (es' : List (ℕ × Slot V)) → FlushedEach flushes before es outcome after es'
      → WritesBackCached H order Ready (outcome ≡ None) (state before) (put es) (state after) (put es')
  each-flushed = each-behind []

-- A sequence without a premise holds under any premise.
pub going-under : (H : Header) (order : CacheDependency) (P : Type 0) (ok : Type 0) (a b : StorageState) (A B : Cached) → WritesBackCached H order Always ok a A b B → WritesBackCached H order (λ _. P) ok a A b B
going-under H order P ok a b A B h = record {
  shape = h.shape;
  counts_not_fallen = h.counts_not_fallen;
  faults = h.faults;
  ready = λ r. r;
  passes = λ keeps well_formed r. h.passes keeps well_formed tt;
  holds = λ keeps well_formed r. h.holds keeps well_formed tt;
}

-- The premise holds already.
pub going-now : (H : Header) (order : CacheDependency) (Ready : Cached → Type 0) (ok : Type 0) (a b : StorageState) (A B : Cached) → Ready A → WritesBackCached H order Ready ok a A b B → WritesBackCached H order Always ok a A b B
going-now H order Ready ok a b A B ready h = record {
  shape = h.shape;
  counts_not_fallen = h.counts_not_fallen;
  faults = h.faults;
  ready = λ r. tt;
  passes = λ keeps well_formed r. h.passes keeps well_formed ready;
  holds = λ keeps well_formed r. h.holds keeps well_formed ready;
}

-- The calls before establish the premise.
pub going-ready : (H : Header) (order : CacheDependency) (Ready : Cached → Type 0) (ok ok' : Type 0) (a b c : StorageState) (A B C : Cached) → ok → Ready B → WritesBackCached H order Always ok a A b B → WritesBackCached H order Ready ok' b B c C → WritesBackCached H order Always ok' a A c C
going-ready H order Ready ok ok' a b c A B C done ready first second =
    going-weaker H order Always (ok × ok') ok' a c A C (λ d. (done, d)) (going-both H order Always ok ok' a b c A B C first (going-now H order Ready ok' b c B C ready second))

-- The next step, under the same header and order.
pub going-next : (Ready : CacheDependency → Cached → Type 0) (H H' : Header) (order order' : CacheDependency) (ok ok' : Type 0) (a b c : StorageState) (A B C : Cached) → H' ≡ H → order' ≡ order → ok → Ready order' B
    → WritesBackCached H order Always ok a A b B → WritesBackCached H' order' (Ready order') ok' b B c C → WritesBackCached H order Always ok' a A c C
going-next Ready H H' order order' ok ok' a b c A B C header same done ready first second =
    going-ready H order (Ready order) ok ok' a b c A B C done (subst (λ (o : CacheDependency). Ready o B) same ready) first
    (subst (λ (h : Header). WritesBackCached h order (Ready order) ok' b B c C) header (subst (λ (o : CacheDependency). WritesBackCached H' o (Ready o) ok' b B c C) same second))

pub kept-same : (s : StorageState) → UnchangedButFaults s s
kept-same s = record { shape = refl; bytes = refl; refusals = refl; crash_image = refl; past_crash_images = refl }

-- A call without a request that keeps the caches well-formed.
pub going-quiet : (H : Header) (order : CacheDependency) (Ready : Cached → Type 0) (ok : Type 0) (a b : StorageState) (A B : Cached) → UnchangedButFaults a b → a.faults ≤ b.faults → (ok → b.faults ≡ a.faults) → (Ready A → Ready B)
    → (Ready A → WellFormed (bytes_of a.bytes) H A order → WellFormed (bytes_of a.bytes) H B order) → (Ready A → memory (bytes_of a.bytes) H.fields B ≡ memory (bytes_of a.bytes) H.fields A) → WritesBackCached H order Ready ok a A b B
going-quiet H order Ready ok a b A B kept faults same-count ready safely same = record {
  shape = kept.shape;
  counts_not_fallen = record { faults = faults; refusals = omega (arith, kept.refusals) };
  faults = λ o. (same-count o, kept.refusals);
  ready = ready;
  passes = λ keeps well_formed r no_change_refused. (
    λ was tells' keeps'. kept.crash_image ∙ was (back (λ s. IsTrue s.tells) tells') (back (λ s. IsTrue s.keeps) keeps') ∙ sym kept.bytes,
    no_stops _ a b kept.crash_image kept.past_crash_images,
  );
  holds = λ keeps well_formed r why. record {
    well_formed = subst (λ (l : List ℕ). WellFormed (bytes_of l) H B order) (sym kept.bytes) (safely r well_formed);
    memory_same = ap (λ (l : List ℕ). memory (bytes_of l) H.fields B) kept.bytes ∙ same r;
    left = subst (λ (l : List ℕ). IsCrashImage (bytes_of a.bytes) (memory (bytes_of a.bytes) H.fields A) H (bytes_of l)) (sym kept.bytes) (left-same (bytes_of a.bytes) (memory (bytes_of a.bytes) H.fields A) H well_formed.consistent);
  };
}
  where
    back : (P : Shape → Type 0) → P b.shape → P a.shape
    back P = subst P kept.shape

-- Two steps in turn: the first succeeds, or it fails.
module _ (First Second : CachedStep) (a b : StorageState) (A B : Cached) where
  pub in-turn-both : (c : StorageState) (C : Cached) (result : Result Unit Fault) → First a A (Ok tt) b B → Second b B result c C → InTurn First Second a A result c C
  in-turn-both c C result first second = record { mid = b; between = B; answer = Ok tt; first = first; halted = λ e. absurd (cc e); second = λ done. second }

  pub in-turn-halted : (fault : Fault) → First a A (Err fault) b B → InTurn First Second a A (Err fault) b B
  in-turn-halted fault first = record { mid = b; between = B; answer = Err fault; first = first; halted = λ e. (refl, refl, refl); second = λ done. absurd (cc done) }

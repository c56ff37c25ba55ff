-- Lemmas on a reload of an image: what it leaves, and the reasons why it fails.
use Rattle.std.proofs.Common.{◌≡◌, ◌≢◌, ℕ, ◌+◌, ◌≤◌, refl, arith, ap, subst, sym, ◌∙◌, Bool, true, false, cond, List, [], ◌∷◌, Result, Ok, Err, inl, inr}
use Rattle.std.specs.Prelude.{IfErr, IsOk, OnOk, nat_lt}
use Rattle.std.specs.List.{AllByRecursion}
use Rattle.std.proofs.lemmas.Bool.{cases_Bool}
use Rattle.std.proofs.lemmas.List.Sums.{sum_by-cons}
use Rattle.imago_storage.specs.State.{StorageState}
use Rattle.imago_storage.specs.Calls.{Cause, UnchangedButFaults, CountsNotFallen}
use Rattle.imago_storage.specs.declared.fault.Fault.{Fault}
use Rattle.imago_storage.specs.declared.storage.Storage.{Ghosts}
use Rattle.imago_storage.specs.declared.fault.Fault.TheVariants.{DamagedHeader, DamagedTable, Unsupported, Limit, CacheFull, Memory, Storage}
use Rattle.qcow2_types.specs.Bytes.{Bytes, bytes_of}
use Rattle.qcow2_types.specs.Counts.{refcount_table_sound}
use Rattle.qcow2_types.specs.Header.{Header, header_of, has_external_data}
use Rattle.qcow2_metadata.specs.Loading.{NotLoaded}
use Rattle.qcow2_metadata.specs.Updates.{with_places_of}
use Rattle.qcow2_alloc.specs.Cache.{kept_pinned}
use Rattle.qcow2_alloc.specs.Caches.{cached_in}
use Rattle.qcow2_alloc.specs.Dropping.{Dropped}
use Rattle.qcow2_alloc.specs.Finding.{pinned_in}
use Rattle.qcow2_alloc.specs.Memory.{Cached}
use Rattle.qcow2_alloc.specs.Opening.{IsL1Of}
use Rattle.qcow2_alloc.specs.declared.async_lru_cache.Slot.{Slot}
use Rattle.qcow2_image.specs.Opening.{WhyNoSpace, header_for}
use Rattle.qcow2_image.specs.Seen.{IsOfFile, IsCacheCoherent, file_of}
use Rattle.qcow2_image.specs.declared.tables.Tables.{Tables}
use Rattle.qcow2_image.specs.Steps.{DiffersElsewhere, IsFirstFault, WhyNotReloaded, reloaded_header}
use Rattle.qcow2_image.proofs.OpenRefusals.{reading-refusal}

-- If the fault count is the same too, the storage is unchanged.
pub same-state : (s s' : StorageState) → UnchangedButFaults s s' → s'.faults ≡ s.faults → s' ≡ s
same-state s s' kept faults = λ i. record {
  shape = kept.shape i;
  bytes = kept.bytes i;
  faults = faults i;
  refusals = kept.refusals i;
  crash_image = kept.crash_image i;
  past_crash_images = kept.past_crash_images i;
}

-- A resource error explains `NotLoaded` with any header.
pub refused-why : (r : Result Header Fault) (s s' : StorageState) (fault : Fault) → Cause s.faults s'.faults fault → NotLoaded r s s' fault
refused-why r s s' Memory why = why
refused-why r s s' Storage why = why
refused-why r s s' fault why = absurd why

-- A file that can't be opened read-only can't be reloaded. Neither can a writable image with a damaged refcount table.
anew-refused : (w : Bool) (f : Bytes) (fault : Fault) → header_for false f ≡ Err fault → reloaded_header w f ≡ Err fault
unfolding reloaded_header
anew-refused w f fault is = rw is refl

counts-refused : (w : Bool) (f : Bytes) (H : Header) → header_for false f ≡ Ok H → w ≡ true → refcount_table_sound f H.fields ≡ false
    → reloaded_header w f ≡ Err DamagedTable
unfolding reloaded_header
counts-refused w f H opens is bad = rw (opens, is, bad) refl

-- The reasons why the header isn't loaded.
pub header-why : (w : Bool) (f : Bytes) (H : Header) (s s' : StorageState) (fault : Fault) → NotLoaded (header_for false f) s s' fault
    → fault ≢ DamagedTable → WhyNotReloaded w f H s.faults s'.faults fault
header-why w f H s s' DamagedHeader why before = anew-refused w f DamagedHeader why.0
header-why w f H s s' DamagedTable why before = absurd (before refl)
header-why w f H s s' Unsupported why before = inl (anew-refused w f Unsupported why.0)
header-why w f H s s' (Limit n) why before = anew-refused w f (Limit n) why.0
header-why w f H s s' Memory why before = tt
header-why w f H s s' Storage why before = why
header-why w f H s s' fault why before = absurd (reading-refusal false f fault why.0)

-- The header was loaded, and then something else failed. A header that can't replace the open one comes first.
module _ (w : Bool) (f : Bytes) (H H' : Header) (loads : header_of false f ≡ Ok H') where
  first-of : (a b : ℕ) (fault first : Fault) → IsFirstFault H' H fault first
      → (with_places_of H' H ≡ H' → WhyNotReloaded w f H a b fault) → WhyNotReloaded w f H a b first
  first-of a b fault first (inl same) why = subst (WhyNotReloaded w f H a b) (sym same.1) (why same.0)
  first-of a b fault first (inr other) why =
      subst (WhyNotReloaded w f H a b) (sym other.1) (inr (subst (λ r. DiffersElsewhere r H) (sym loads) other.0))

  alike : with_places_of H' H ≡ H' → DiffersElsewhere (header_of false f) H → ⊥
  alike same differs = subst (λ r. DiffersElsewhere r H) loads differs same

  -- Otherwise the error is that of the L1 table.
  pub first-why : (s s' : StorageState) (fault first : Fault) → IsFirstFault H' H fault first → NotLoaded (header_for false f) s s' fault
      → WhyNotReloaded w f H s.faults s'.faults first
  first-why s s' fault first is why = first-of s.faults s'.faults fault first is (λ same. from same fault why) where
    from : with_places_of H' H ≡ H' → (fault : Fault) → NotLoaded (header_for false f) s s' fault → WhyNotReloaded w f H s.faults s'.faults fault
    from same DamagedTable why = (anew-refused w f DamagedTable why.0, alike same)
    from same DamagedHeader why = anew-refused w f DamagedHeader why.0
    from same Unsupported why = inl (anew-refused w f Unsupported why.0)
    from same (Limit n) why = anew-refused w f (Limit n) why.0
    from same Memory why = tt
    from same Storage why = why
    from same fault why = absurd (reading-refusal false f fault why.0)

  -- Otherwise the error is that of the free space.
  pub first-counts : header_for false f ≡ Ok H' → (a b : ℕ) (fault first : Fault) → IsFirstFault H' H fault first
      → WhyNoSpace f H'.fields w a b fault → WhyNotReloaded w f H a b first
  first-counts opens a b fault first is why = first-of a b fault first is (λ same. from same fault why) where
    from : with_places_of H' H ≡ H' → (fault : Fault) → WhyNoSpace f H'.fields w a b fault → WhyNotReloaded w f H a b fault
    from same DamagedTable why = (counts-refused w f H' opens why.0 why.1, alike same)
    from same Memory why = tt
    from same Storage why = why
    from same fault why = absurd why

-- The reason why a loaded header can't replace the open one.
pub updating-why : (w : Bool) (f : Bytes) (H H' : Header) (a b : ℕ) (fault : Fault) → header_of false f ≡ Ok H' → with_places_of H' H ≢ H'
    → fault ≡ Unsupported → WhyNotReloaded w f H a b fault
updating-why w f H H' a b fault loads differs is =
    subst (WhyNotReloaded w f H a b) (sym is) (inr (subst (λ r. DiffersElsewhere r H) (sym loads) differs))

pub counts-later : (f : Bytes) (H : Header) (w : Bool) (s s' : StorageState) (fault : Fault) → UnchangedButFaults s s' → WhyNoSpace f H.fields w s.faults s'.faults fault
    → CountsNotFallen s s'
counts-later f H w s s' fault kept why = record { faults = more fault why; refusals = omega (arith, kept.refusals) } where
  more : (fault : Fault) → WhyNoSpace f H.fields w s.faults s'.faults fault → s.faults ≤ s'.faults
  more Memory why = omega (arith, why)
  more Storage why = why.not_fallen
  more DamagedTable why = let same = why.2 in omega (arith, same)
  more fault why = absurd why

-- If memory was coherent and the refcount table isn't damaged, only resource errors keep the free space from being loaded.
pub counts-fine : (f : Bytes) (H H' : Header) (w : Bool) (a b : ℕ) (fault first : Fault) → header_of false f ≡ Ok H → header_of false f ≡ Ok H'
    → (w ≡ true → refcount_table_sound f H.fields ≡ true) → IsFirstFault H' H fault first → WhyNoSpace f H'.fields w a b fault
    → Cause a b first
counts-fine f H H' w a b fault first was loads sound is why = of-first is where
  same : H' ≡ H
  same = cc (sym loads ∙ was)

  from : (fault : Fault) → WhyNoSpace f H'.fields w a b fault → Cause a b fault
  from Memory why = why
  from Storage why = why
  from DamagedTable why =
      let fine = sound why.0 in
      let bad = subst (λ (x : Header). refcount_table_sound f x.fields ≡ false) same why.1 in
      absurd (let e = sym fine ∙ bad in cc e)
  from fault why = absurd why

  of-first : IsFirstFault H' H fault first → Cause a b first
  of-first (inl x) = subst (Cause a b) (sym x.1) (from fault why)
  of-first (inr x) = absurd (x.0 (subst (λ (y : Header). with_places_of y H ≡ y) (sym same) refl))

-- Memory is what the file says after a load, as nothing is cached.
pub seen-anew : {S : Type 0} (g : Ghosts S) (t : Tables S g) (before : StorageState) (H : Header) → g.state t.file.image ≡ before → t.file.header ≡ H
    → cached_in t.caches ≡ record { tables = []; blocks = [] } → header_of false (bytes_of before.bytes) ≡ Ok H
    → has_external_data H.fields ≡ false → IsL1Of (bytes_of before.bytes) H.fields t.l1 → IsCacheCoherent g t
seen-anew g t before H same header empty loads inside l1 = record {
  loads = subst (λ (s : StorageState). header_of false (bytes_of s.bytes) ≡ Ok t.file.header) (sym same) (loads ∙ ap Ok (sym header));
  inside = subst (λ (K : Header). has_external_data K.fields ≡ false) (sym header) inside;
  l1 = subst (λ (s : StorageState). IsL1Of (bytes_of s.bytes) t.file.header.fields t.l1) (sym same)
      (subst (λ (K : Header). IsL1Of (bytes_of before.bytes) K.fields t.l1) (sym header) l1);
  tables = subst (λ (c : Cached). AllByRecursion (IsOfFile (file_of g t) t.file.header.fields) c.tables) (sym empty) tt;
}

pub on-ok : {T : Type 0} (r : Result T Fault) (P : Type 0) → P → OnOk r P
on-ok (Ok v) P p = p
on-ok (Err e) P p = tt

-- A header that is in memory already can replace itself.
pub never-differs : (f : Bytes) (H H' : Header) → header_of false f ≡ Ok H → header_of false f ≡ Ok H' → with_places_of H' H ≢ H' → ⊥
never-differs f H H' was loads differs =
    let same : H' ≡ H = cc (sym loads ∙ was) in
    differs (subst (λ x. with_places_of x H ≡ x) (sym same) refl)

module _ {V : Type 0} where
  none-kept : (es : List (ℕ × Slot V)) → pinned_in es ≡ 0 → kept_pinned es ≡ []
  none-kept [] none = refl
  none-kept (e ∷ es) none =
      let own : pinned_in (e ∷ es) ≡ cond (nat_lt 0 e.1.pins) 1 0 + pinned_in es = sum_by-cons (λ x. cond (nat_lt 0 x.1.pins) 1 0) e es in
      elim (cases_Bool (nat_lt 0 e.1.pins)) [
        | inl held ↦ let one = own ∙ ap (λ b. cond b 1 0 + pinned_in es) held in absurd (omega (arith, one, none))
        | inr free ↦ let rest = own ∙ ap (λ b. cond b 1 0 + pinned_in es) free in rw free (none-kept es (omega (arith, rest, none)))
      ]

  -- If nothing is pinned, everything is dropped.
  pub drops-all : (es es' : List (ℕ × Slot V)) (result : Result Unit Fault) → Dropped es result es' → pinned_in es ≡ 0 → es' ≡ []
  drops-all es es' result dropped none = dropped.keeps_pinned ∙ none-kept es none

  -- If nothing is pinned, the drop succeeds.
  pub drops-ok : (es es' : List (ℕ × Slot V)) (result : Result Unit Fault) → Dropped es result es' → pinned_in es ≡ 0 → IsOk result
  drops-ok es es' result dropped none = from result dropped.err where
    from : (r : Result Unit Fault) → IfErr r (λ fault. (fault ≡ CacheFull) × (kept_pinned es ≡ [] → ⊥)) → IsOk r
    from (Ok done) stays = refl
    from (Err fault) stays = absurd (stays.1 (none-kept es none))

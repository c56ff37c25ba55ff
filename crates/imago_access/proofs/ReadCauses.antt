-- An error in a part of a range, or in a layer below, is an error of the whole read or lookup.
use Rattle.std.proofs.Common.{◌≡◌, inl, inr, ℕ, ◌+◌, ◌<◌, ◌≤◌, List, [], ◌∷◌, ◌++◌, arith, sym, ◌∙◌, ap, subst, add_assoc}
use Rattle.std.specs.Prelude.{Bool}
use Rattle.std.proofs.lemmas.Bool.{lt-ltb}
use Rattle.imago_storage.specs.State.{StorageState}
use Rattle.imago_storage.specs.Through.{Overflows, round_up}
use Rattle.imago_storage.specs.Disk.{Value, barred}
use Rattle.imago_storage.specs.declared.fault.Fault.{Fault}
use Rattle.imago_storage.specs.declared.fault.Fault.TheVariants.{Failed, MissingData, RangeOverflow, DamagedTable, Barred, Memory, Storage}
use Rattle.imago_storage.proofs.Rounding.{round_up-le}
use Rattle.imago_access.specs.Layer.{Layer, own, unmapped, unit_of_layer}
use Rattle.imago_access.specs.Chain.{at}
use Rattle.imago_access.specs.Files.{Pairs, IsLater}
use Rattle.imago_access.specs.Mappings.{EachIs, Names, Looks, IsRun, IsAddressable}
use Rattle.imago_access.specs.declared.mapping.ShallowMapping.{ShallowMapping}
use Rattle.imago_access.specs.declared.mapping.ShallowMapping.TheVariants.{Raw, Indirect, Special}
use Rattle.imago_access.specs.Refusals.{unusable_fault, SomeIs, ReadCause, LookCause, ReadMappedCause, InvalidateCause}
use Rattle.imago_access.proofs.FilePairs.{some_rose_behind, some_rose_left, some_rose_right}

pub at_unmapped : (layer : Layer) (below : List Layer) (p : ℕ) → p < layer.size → layer.cell p ≡ unmapped → at (layer ∷ below) p ≡ at below p
at_unmapped layer below p inside free = rw (lt-ltb p layer.size inside, free)

pub at_own : (layer : Layer) (below : List Layer) (p : ℕ) (v : Value) → p < layer.size → layer.cell p ≡ own v → at (layer ∷ below) p ≡ v
at_own layer below p v inside is = rw (lt-ltb p layer.size inside, is)

pub part_overflows : (unit offset n done part : ℕ) → 0 < unit → done + part ≤ n → Overflows unit (offset + done) part → Overflows unit offset n
part_overflows unit offset n done part positive fits h =
    let low : round_up unit (offset + done + part) ≤ round_up unit (offset + n) = round_up-le unit (offset + done + part) (offset + n) positive (omega arith) in
    (omega (arith, h.0), omega (arith, low, h.1))

some_is_part : (value : ℕ → Value) (offset done n part : ℕ) (v : Value) → done + part ≤ n → SomeIs value (offset + done) part v → SomeIs value offset n v
some_is_part value offset done n part v fits h = (done + h.0, omega (arith, h.1), ap value (sym (add_assoc offset done h.0)) ∙ h.2)

-- An error in a part of the range, after calls that succeeded.
pub read_cause_part : (chain : List Layer) (value : ℕ → Value) (unit offset done n part : ℕ) (olds mids news : List StorageState) (e : Fault)
    → ReadCause chain value unit (offset + done) part mids news e → 0 < unit → done + part ≤ n → Pairs IsLater olds mids → ReadCause chain value unit offset n olds news e
read_cause_part chain value unit offset done n part olds mids news Failed h positive fits later = h
read_cause_part chain value unit offset done n part olds mids news MissingData h positive fits later = h
read_cause_part chain value unit offset done n part olds mids news RangeOverflow h positive fits later = part_overflows unit offset n done part positive fits h
read_cause_part chain value unit offset done n part olds mids news DamagedTable h positive fits later = some_is_part value offset done n part _ fits h
read_cause_part chain value unit offset done n part olds mids news Barred h positive fits later = some_is_part value offset done n part _ fits h
read_cause_part chain value unit offset done n part olds mids news Memory h positive fits later = h
read_cause_part chain value unit offset done n part olds mids news Storage h positive fits later = some_rose_behind olds mids news later h
read_cause_part chain value unit offset done n part olds mids news _ h positive fits later = absurd h

pub look_cause : (layer : Layer) (below : List Layer) (unit offset n : ℕ) (olds news us vs : List StorageState) (e : Fault)
    → LookCause layer offset n olds news e → ReadCause (layer ∷ below) (at (layer ∷ below)) unit offset n (olds ++ us) (news ++ vs) e
look_cause layer below unit offset n olds news us vs Failed h = inl h
look_cause layer below unit offset n olds news us vs MissingData h = inl h
look_cause layer below unit offset n olds news us vs DamagedTable h = (h.0, h.1, at_own layer below (offset + h.0) _ h.2 h.3)
look_cause layer below unit offset n olds news us vs Memory h = h
look_cause layer below unit offset n olds news us vs Storage h = some_rose_left olds news us vs h
look_cause layer below unit offset n olds news us vs _ h = absurd h

-- An error below a layer that has nothing there.
pub read_cause_below : (layer : Layer) (below : List Layer) (unit less offset part n : ℕ) (olds news us vs : List StorageState) (e : Fault)
    → ReadCause below (at below) less offset part us vs e → (Overflows less offset part → ⊥) → EachIs layer.cell offset part (λ i. unmapped) → offset + part ≤ layer.size → part ≤ n
    → Pairs IsLater olds news → ReadCause (layer ∷ below) (at (layer ∷ below)) unit offset n (olds ++ us) (news ++ vs) e
read_cause_below layer below unit less offset part n olds news us vs Failed h no_change_refused free inside fits later = inr h
read_cause_below layer below unit less offset part n olds news us vs MissingData h no_change_refused free inside fits later = inr h
read_cause_below layer below unit less offset part n olds news us vs RangeOverflow h no_change_refused free inside fits later = absurd (no_change_refused h)
read_cause_below layer below unit less offset part n olds news us vs DamagedTable h no_change_refused free inside fits later =
    (h.0, omega (arith, h.1), at_unmapped layer below (offset + h.0) (omega (arith, h.1)) (free h.0 h.1) ∙ h.2)
read_cause_below layer below unit less offset part n olds news us vs Barred h no_change_refused free inside fits later =
    (h.0, omega (arith, h.1), at_unmapped layer below (offset + h.0) (omega (arith, h.1)) (free h.0 h.1) ∙ h.2)
read_cause_below layer below unit less offset part n olds news us vs Memory h no_change_refused free inside fits later = h
read_cause_below layer below unit less offset part n olds news us vs Storage h no_change_refused free inside fits later = some_rose_right olds news us vs later h
read_cause_below layer below unit less offset part n olds news us vs _ h no_change_refused free inside fits later = absurd h

-- An error of a read at the location that a lookup returned.
pub read_mapped_cause : (layer mid : Layer) (below : List Layer) (value : ℕ → Value) (unit offset n place part : ℕ) (olds mids news us vs : List StorageState) (e : Fault)
    → ReadMappedCause mid place part mids news e → mid ≡ layer → (Overflows (unit_of_layer mid) place part → ⊥) → Pairs IsLater olds mids → ReadCause (layer ∷ below) value unit offset n (olds ++ us) (news ++ vs) e
read_mapped_cause layer mid below value unit offset n place part olds mids news us vs Failed h same no_change_refused later = inl (ap unusable_fault (sym same) ∙ h)
read_mapped_cause layer mid below value unit offset n place part olds mids news us vs MissingData h same no_change_refused later = inl (ap unusable_fault (sym same) ∙ h)
read_mapped_cause layer mid below value unit offset n place part olds mids news us vs RangeOverflow h same no_change_refused later = absurd (no_change_refused h)
read_mapped_cause layer mid below value unit offset n place part olds mids news us vs Memory h same no_change_refused later = h
read_mapped_cause layer mid below value unit offset n place part olds mids news us vs Storage h same no_change_refused later = some_rose_left olds news us vs (some_rose_behind olds mids news later h)
read_mapped_cause layer mid below value unit offset n place part olds mids news us vs _ h same no_change_refused later = absurd h

-- The result of a lookup, by its kind.
module _ (layer : Layer) (stored : ℕ → ℕ → ℕ) (offset asked : ℕ) (mapping : ShallowMapping) (n : ℕ) (looks : Looks layer stored offset asked mapping n) where
  pub indirect_free : (place : ℕ) (writable : Bool) → mapping ≡ Indirect place writable → EachIs layer.cell offset n (λ i. unmapped)
  indirect_free place writable is = (subst (Names layer stored offset n) is looks.names).0

  pub raw_reach : (storage place : ℕ) (writable : Bool) → mapping ≡ Raw storage place writable → Overflows (unit_of_layer layer) place n → Overflows (unit_of_layer layer) offset n
  raw_reach storage place writable is = subst (λ (m : ShallowMapping). IsAddressable layer offset m n) is looks.reach

  pub special_barred : (place : ℕ) → mapping ≡ Special place → EachIs layer.cell offset n (λ i. own barred)
  special_barred place is = (subst (Names layer stored offset n) is looks.names).0

  pub indirect_inside : (place : ℕ) (writable : Bool) → mapping ≡ Indirect place writable → IsRun layer offset asked mapping n → offset + n ≤ layer.size
  indirect_inside place writable is run = (subst (λ (m : ShallowMapping). IsRun layer offset asked m n) is run).2

  pub barred_there : (below : List Layer) (place : ℕ) → 0 < asked → mapping ≡ Special place → IsRun layer offset asked mapping n → SomeIs (at (layer ∷ below)) offset asked barred
  barred_there below place some is run =
      let here = subst (λ (m : ShallowMapping). IsRun layer offset asked m n) is run in
      let long = here.3 some in
      (0, some, at_own layer below (offset + 0) barred (omega (arith, here.0)) (special_barred place is 0 long))

-- An error of a reload of the top layer, and below one of a reload of the layers below.
pub invalidate_top : (layer : Layer) (below : List Layer) (olds news us vs : List StorageState) (e : Fault) → InvalidateCause (layer ∷ []) olds news e → InvalidateCause (layer ∷ below) (olds ++ us) (news ++ vs) e
invalidate_top layer below olds news us vs Failed h = elim h [ inl here ↦ inl here | inr none ↦ absurd none ]
invalidate_top layer below olds news us vs MissingData h = elim h [ inl here ↦ inl here | inr none ↦ absurd none ]
invalidate_top layer below olds news us vs Memory h = h
invalidate_top layer below olds news us vs Storage h = some_rose_left olds news us vs h
invalidate_top layer below olds news us vs _ h = h

pub invalidate_below : (layer : Layer) (below : List Layer) (olds news us vs : List StorageState) → Pairs IsLater olds news → (e : Fault) → InvalidateCause below us vs e → InvalidateCause (layer ∷ below) (olds ++ us) (news ++ vs) e
invalidate_below layer below olds news us vs later Failed h = inr h
invalidate_below layer below olds news us vs later MissingData h = inr h
invalidate_below layer below olds news us vs later Memory h = h
invalidate_below layer below olds news us vs later Storage h = some_rose_right olds news us vs later h
invalidate_below layer below olds news us vs later _ h = h

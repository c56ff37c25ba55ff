-- Reads of a run that a layer maps itself.
use Rattle.std.proofs.Common.{◌≡◌, refl, ℕ, ◌+◌, ◌<◌, ◌≤◌, List, slice_index, arith, sym, ◌∙◌, ap, subst, true, false}
use Rattle.std.specs.Prelude.{Bool}
use Rattle.imago_storage.specs.State.{StorageState}
use Rattle.imago_storage.specs.Through.{Overflows}
use Rattle.imago_storage.specs.Disk.{byte, barred}
use Rattle.imago_storage.specs.declared.fault.Fault.{Fault}
use Rattle.imago_storage.specs.declared.fault.Fault.TheVariants.{Failed, MissingData, RangeOverflow, DamagedTable, Memory, Storage}
use Rattle.imago_access.specs.Layer.{Layer, own, unit_of_layer}
use Rattle.imago_access.specs.Committing.{OwnReadCause, HasOwn, IsOwnRun}
use Rattle.imago_access.specs.Mappings.{EachIs, Looks, IsRun, Names}
use Rattle.imago_access.specs.Refusals.{unusable_fault, LookCause, ReadMappedCause}
use Rattle.imago_access.specs.declared.mapping.ShallowMapping.{ShallowMapping}
use Rattle.imago_access.specs.declared.mapping.ShallowMapping.TheVariants.{Raw, Zero, Special, Eof}
use Rattle.imago_access.proofs.ReadCauses.{part_overflows}

pub own_look_cause : (layer : Layer) (offset n : ℕ) (olds news : List StorageState) (e : Fault) → LookCause layer offset n olds news e → OwnReadCause layer e
own_look_cause layer offset n olds news Failed h = h
own_look_cause layer offset n olds news MissingData h = h
own_look_cause layer offset n olds news DamagedTable h = (offset + h.0, h.2, h.3)
own_look_cause layer offset n olds news Memory h = tt
own_look_cause layer offset n olds news Storage h = tt
own_look_cause layer offset n olds news _ h = absurd h

pub own_mapped_cause : (layer mid : Layer) (offset part place : ℕ) (olds news : List StorageState) (e : Fault) → mid ≡ layer → offset + part ≤ layer.size → 0 < unit_of_layer layer
    → (Overflows (unit_of_layer layer) place part → Overflows (unit_of_layer layer) offset part) → ReadMappedCause mid place part olds news e → OwnReadCause layer e
own_mapped_cause layer mid offset part place olds news Failed same inside positive reach h = ap unusable_fault (sym same) ∙ h
own_mapped_cause layer mid offset part place olds news MissingData same inside positive reach h = ap unusable_fault (sym same) ∙ h
own_mapped_cause layer mid offset part place olds news RangeOverflow same inside positive reach h =
    let here : offset ≡ 0 + offset = omega arith in
    part_overflows (unit_of_layer layer) 0 layer.size offset part positive inside
    (subst (λ (o : ℕ). Overflows (unit_of_layer layer) o part) here (reach (subst (λ (l : Layer). Overflows (unit_of_layer l) place part) same h)))
own_mapped_cause layer mid offset part place olds news Memory same inside positive reach h = tt
own_mapped_cause layer mid offset part place olds news Storage same inside positive reach h = tt
own_mapped_cause layer mid offset part place olds news _ same inside positive reach h = absurd h

-- Consequences of a true result of a lookup, by the kind of its run.
module _ (layer : Layer) (stored : ℕ → ℕ → ℕ) (offset asked n : ℕ) (mapping : ShallowMapping) (looks : Looks layer stored offset asked mapping n) where
  pub raw_own : (storage place : ℕ) (writable : _) → mapping ≡ Raw storage place writable → EachIs layer.cell offset n (λ i. own (byte (stored storage (place + i))))
  raw_own storage place writable is = (subst (Names layer stored offset n) is looks.names).0

  pub zero_own : (explicit : _) → mapping ≡ Zero explicit → EachIs layer.cell offset n (λ i. own (byte 0))
  zero_own explicit is = (subst (Names layer stored offset n) is looks.names).0

  pub special_own : (place : ℕ) → 0 < asked → mapping ≡ Special place → IsRun layer offset asked mapping n → HasOwn layer barred
  special_own place some is run =
      let here = subst (λ (m : ShallowMapping). IsRun layer offset asked m n) is run in
      let long = here.3 some in
      (offset + 0, omega (arith, here.0), (subst (Names layer stored offset n) is looks.names).0 0 long)

-- A run of zeroes is explicit, or the layer doesn't read through to a layer below.
pub zero_own_run : (layer : Layer) (stored : ℕ → ℕ → ℕ) (offset asked n : ℕ) (mapping : ShallowMapping) (explicit : Bool) (bytes : List ℕ) → Looks layer stored offset asked mapping n → mapping ≡ Zero explicit
    → ((i : ℕ) → i < n → slice_index bytes i ≡ 0) → IsOwnRun layer offset bytes n explicit
zero_own_run layer stored offset asked n mapping true bytes looks is zeroes = λ i lt. zero_own layer stored offset asked n mapping looks true is i lt ∙ ap (λ (b : ℕ). own (byte b)) (sym (zeroes i lt))
zero_own_run layer stored offset asked n mapping false bytes looks is zeroes = λ backed.
    let blank = (subst (Names layer stored offset n) is looks.names).1 refl in
    absurd (cc (sym blank ∙ backed))

-- No run inside the disk is past its end.
pub none_past : (layer : Layer) (offset asked n : ℕ) (mapping : ShallowMapping) → offset < layer.size → mapping ≡ Eof → IsRun layer offset asked mapping n → ⊥
none_past layer offset asked n mapping low is run = let here = subst (λ (m : ShallowMapping). IsRun layer offset asked m n) is run in omega (arith, low, here.1)

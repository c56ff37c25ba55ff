-- An error of a call on a part of a range is an error of the call on the whole range.
use Rattle.std.proofs.Common.{◌≡◌, refl, inl, inr, ℕ, ◌+◌, ◌-◌, ◌<◌, ◌≤◌, List, [], ◌∷◌, ◌++◌, arith, sym, ◌∙◌, ap, subst}
use Rattle.std.specs.Prelude.{false, IsFalse}
use Rattle.imago_storage.specs.State.{StorageState}
use Rattle.imago_storage.specs.Through.{Overflows}
use Rattle.imago_storage.specs.Steps.{Call}
use Rattle.imago_storage.specs.Causes.{offset_of, length_of, Alters}
use Rattle.imago_storage.specs.declared.fault.Fault.{Fault}
use Rattle.imago_storage.specs.declared.fault.Fault.TheVariants.{ReadOnly, PastEnd, RangeOverflow, Unsupported, VersionLimit, Foreign, MissingData, Failed, Outdated, Counter, Memory, Storage}
use Rattle.imago_access.specs.Layer.{Layer, Fixed, unit_of_layer}
use Rattle.imago_access.specs.Files.{Pairs, IsLater, IsDeclined}
use Rattle.imago_access.specs.Parts.{PartCause, DeclinableCause, IsMappedAt, MappedCause}
use Rattle.imago_access.specs.Chain.{disk_of, unit_of_chain}
use Rattle.imago_access.specs.Refusals.{ChangeCause, unusable_fault, SomeUnusable}
use Rattle.imago_access.proofs.FilePairs.{pairs_append, some_rose_behind, some_rose_left}
use Rattle.imago_access.proofs.ReadCauses.{part_overflows}

-- An image that has not failed can be used at both moments, or at neither.
pub barrier_on : (entry mid : Layer) → mid.fixed ≡ entry.fixed → entry.failed ≡ false → mid.failed ≡ false → unusable_fault mid ≡ unusable_fault entry
barrier_on entry mid fixed ran runs = rw (runs, ran, fixed) refl

unusable_on : (entry mid : Layer) (below : List Layer) (fault : Fault) → unusable_fault mid ≡ unusable_fault entry → SomeUnusable (mid ∷ below) fault → SomeUnusable (entry ∷ below) fault
unusable_on entry mid below fault same h = elim h [ inl here ↦ inl (sym same ∙ here) | inr rest ↦ inr rest ]

-- An error of a part at a later moment, seen from the entry. The image has not failed by then, and the layers below are the same.
module _ (below : List Layer) (entry mid : Layer) (offset n offset' n' : ℕ) (olds mids news : List StorageState) (fixed : mid.fixed ≡ entry.fixed) (size : mid.size ≡ entry.size) (ran : entry.failed ≡ false) (runs : mid.failed ≡ false)
    (positive : 0 < unit_of_layer entry) (start : offset ≤ offset') (end : offset' + n' ≤ offset + n) (later : Pairs IsLater olds mids) (causes causes' : Fault → Type 0) where
  pub part_cause_later : (e : Fault) → (causes' e → causes e) → PartCause below mid offset' n' causes' mids news e → PartCause below entry offset n causes olds news e
  part_cause_later ReadOnly more h = (omega (arith, h.0, start, end), subst (λ (x : Fixed). IsFalse x.writable) fixed h.1)
  part_cause_later PastEnd more h = (omega (arith, h.0, start, end), omega (arith, h.1, size, end))
  part_cause_later RangeOverflow more h =
      let done = offset' - offset in
      let at_done : offset' ≡ offset + done = omega (arith, start) in
      let unit : unit_of_layer mid ≡ unit_of_layer entry = ap (λ (x : Fixed). unit_of_layer (record entry { fixed = x })) fixed in
      part_overflows (unit_of_layer entry) offset n done n' positive (omega (arith, start, end)) (subst (λ (u : ℕ). Overflows u (offset + done) n') unit (subst (λ (o : ℕ). Overflows (unit_of_layer mid) o n') at_done h))
  part_cause_later Outdated more h = absurd h
  part_cause_later Counter more h = absurd h
  part_cause_later Foreign more h = absurd h
  part_cause_later Unsupported more h = absurd h
  part_cause_later VersionLimit more h = absurd h
  part_cause_later Failed more h = unusable_on entry mid below Failed (barrier_on entry mid fixed ran runs) h
  part_cause_later MissingData more h = unusable_on entry mid below MissingData (barrier_on entry mid fixed ran runs) h
  part_cause_later Memory more h = h
  part_cause_later Storage more h = some_rose_behind olds mids news later h
  part_cause_later _ more h = more h

pub undeclined_cause : (below : List Layer) (layer : Layer) (offset n : ℕ) (causes : Fault → Type 0) (olds news : List StorageState) (e : Fault) → (IsDeclined e → ⊥) → DeclinableCause below layer offset n causes olds news e → PartCause below layer offset n causes olds news e
undeclined_cause below layer offset n causes olds news Unsupported none h = absurd (none tt)
undeclined_cause below layer offset n causes olds news VersionLimit none h = absurd (none tt)
undeclined_cause below layer offset n causes olds news _ none h = h

pub part_cause_deeper : (below : List Layer) (layer : Layer) (offset n : ℕ) (causes : Fault → Type 0) (olds news : List StorageState) (e : Fault) → PartCause [] layer offset n causes olds news e → PartCause below layer offset n causes olds news e
part_cause_deeper below layer offset n causes olds news ReadOnly h = h
part_cause_deeper below layer offset n causes olds news PastEnd h = h
part_cause_deeper below layer offset n causes olds news RangeOverflow h = h
part_cause_deeper below layer offset n causes olds news Failed h = elim h [ inl here ↦ inl here | inr none ↦ absurd none ]
part_cause_deeper below layer offset n causes olds news MissingData h = elim h [ inl here ↦ inl here | inr none ↦ absurd none ]
part_cause_deeper below layer offset n causes olds news Memory h = h
part_cause_deeper below layer offset n causes olds news Storage h = h
part_cause_deeper below layer offset n causes olds news _ h = h

pub part_cause_left : (below : List Layer) (layer : Layer) (offset n : ℕ) (causes : Fault → Type 0) (olds news us vs : List StorageState) (e : Fault) → PartCause below layer offset n causes olds news e → PartCause below layer offset n causes (olds ++ us) (news ++ vs) e
part_cause_left below layer offset n causes olds news us vs ReadOnly h = h
part_cause_left below layer offset n causes olds news us vs PastEnd h = h
part_cause_left below layer offset n causes olds news us vs RangeOverflow h = h
part_cause_left below layer offset n causes olds news us vs Failed h = h
part_cause_left below layer offset n causes olds news us vs MissingData h = h
part_cause_left below layer offset n causes olds news us vs Memory h = h
part_cause_left below layer offset n causes olds news us vs Storage h = some_rose_left olds news us vs h
part_cause_left below layer offset n causes olds news us vs _ h = h

-- An error of the driver's own call on a part is an error of the whole call, which also read the layers below before.
pub part_cause_alone : (below : List Layer) (entry mid : Layer) (offset n offset' n' : ℕ) (olds mids news us vs : List StorageState) → mid.fixed ≡ entry.fixed → mid.size ≡ entry.size → entry.failed ≡ false → mid.failed ≡ false
    → 0 < unit_of_layer entry → offset ≤ offset' → offset' + n' ≤ offset + n → Pairs IsLater olds mids → Pairs IsLater us vs → (causes causes' : Fault → Type 0) (e : Fault) → (causes' e → causes e)
    → PartCause below mid offset' n' causes' mids news e → PartCause below entry offset n causes (olds ++ us) (news ++ vs) e
part_cause_alone below entry mid offset n offset' n' olds mids news us vs fixed size ran runs positive start end later later' causes causes' e more h =
    part_cause_later below entry mid offset n offset' n' (olds ++ us) (mids ++ vs) (news ++ vs) fixed size ran runs positive start end (pairs_append IsLater olds mids us vs later later') causes causes' e more
    (part_cause_left below mid offset' n' causes' mids news vs vs e h)

pub mapped_cause : (below : List Layer) (layer : Layer) (guest place n : ℕ) (olds news : List StorageState) (e : Fault) → (0 < n → IsMappedAt layer guest place n) → MappedCause layer guest place n olds news e → PartCause below layer guest n (λ _. ⊥) olds news e
mapped_cause below layer guest place n olds news Outdated mapped h = absurd (h.1 (mapped h.0))
mapped_cause below layer guest place n olds news e mapped h = part_cause_deeper below layer guest n (λ _. ⊥) olds news e h

-- An error of the driver's call on the whole range is an error of the chain's call.
pub change_cause : (below : List Layer) (layer : Layer) (call : Call) (causes : Fault → Type 0) (olds news : List StorageState) → (0 < length_of call → Alters (disk_of below layer) call)
    → (Overflows (unit_of_layer layer) (offset_of call) (length_of call) → Overflows (unit_of_chain (layer ∷ below)) (offset_of call) (length_of call)) → (e : Fault) → PartCause below layer (offset_of call) (length_of call) causes olds news e
    → ChangeCause below layer call causes olds news e
change_cause below layer call causes olds news alters reach ReadOnly h = (alters h.0, h.1)
change_cause below layer call causes olds news alters reach PastEnd h = (alters h.0, h.1)
change_cause below layer call causes olds news alters reach RangeOverflow h = reach h
change_cause below layer call causes olds news alters reach Outdated h = absurd h
change_cause below layer call causes olds news alters reach Foreign h = absurd h
change_cause below layer call causes olds news alters reach Unsupported h = absurd h
change_cause below layer call causes olds news alters reach VersionLimit h = absurd h
change_cause below layer call causes olds news alters reach Failed h = h
change_cause below layer call causes olds news alters reach MissingData h = h
change_cause below layer call causes olds news alters reach Memory h = h
change_cause below layer call causes olds news alters reach Storage h = h
change_cause below layer call causes olds news alters reach _ h = h

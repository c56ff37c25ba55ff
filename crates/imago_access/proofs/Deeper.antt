-- A lookup that continues in the layers below: its result, its errors and its run.
use Rattle.std.proofs.Common.{◌≡◌, refl, inl, inr, ℕ, ◌+◌, ◌<◌, ◌≤◌, List, ◌∷◌, ◌++◌, arith, add-one, sym, ◌∙◌, ap, subst}
use Rattle.std.specs.Prelude.{Bool, true, false, ◌&&◌, IsTrue, IsSome, Option, Some, None}
use Rattle.imago_storage.specs.State.{StorageState}
use Rattle.imago_storage.specs.Disk.{byte}
use Rattle.imago_storage.specs.declared.fault.Fault.{Fault}
use Rattle.imago_storage.specs.declared.fault.Fault.TheVariants.{Failed, MissingData, DamagedTable, Memory, Storage}
use Rattle.imago_access.specs.Layer.{Layer, unmapped}
use Rattle.imago_access.specs.Chain.{at}
use Rattle.imago_access.specs.Files.{Pairs, IsLater, byte_in, files}
use Rattle.imago_access.specs.Mappings.{AreExplicitZeroes, EachIs, ReportsExplicitZero, Names, IsRun, IsDeepRun, ReportsWritable, stored_at, DeepNames, DeepNamesWritable, AreWritable, SaysBarred, IsRunBelow, HasStorage, IsThere, lower, is_deep_end}
use Rattle.imago_access.specs.Refusals.{LookCause, DeepLookCause}
use Rattle.imago_access.specs.declared.mapping.Mapping.{Mapping}
use Rattle.imago_access.specs.declared.mapping.Mapping.TheVariants.{Raw, Zero, Eof, Special}
use Rattle.imago_access.specs.declared.mapping.ShallowMapping.{ShallowMapping}
use Rattle.imago_access.specs.declared.mapping.ShallowMapping.TheVariants as shallow
use Rattle.imago_access.specs.declared.driver_model.DriverModel.{Ghosts}
use Rattle.imago_access.proofs.ReadCauses.{at_unmapped, at_own}
use Rattle.imago_access.proofs.FilePairs.{some_rose_left, some_rose_right}

stored_next : {D St : Type 0} (g : Ghosts D St) (d : D) (ds : List D) (depth storage place : ℕ) → stored_at g (d ∷ ds) (depth + 1) storage place ≡ stored_at g ds depth storage place
stored_next g d ds depth storage place = rw (add-one depth)

both_true : (a b : Bool) → IsTrue (a && b) → IsTrue a × IsTrue b
both_true true b h = (refl, h)
both_true false b h = absurd (cc h)

writable_next : (layer : Layer) (below : List Layer) (depth storage place offset n : ℕ) → IsTrue layer.fixed.writable × IsTrue layer.fixed.lets_through → AreWritable depth below storage place offset n → AreWritable (depth + 1) (layer ∷ below) storage place offset n
writable_next layer below depth storage place offset n top rest = subst (λ (k : ℕ). AreWritable k (layer ∷ below) storage place offset n) (sym (add-one depth)) (top.0, top.1, rest)

barred_next : (layer : Layer) (below : List Layer) (depth offset n : ℕ) → SaysBarred depth below offset n → SaysBarred (depth + 1) (layer ∷ below) offset n
barred_next layer below depth offset n rest = subst (λ (k : ℕ). SaysBarred k (layer ∷ below) offset n) (sym (add-one depth)) rest

module _ {D St : Type 0} (g : Ghosts D St) (d : D) (ds : List D) (layer : Layer) (below : List Layer) (offset n asked : ℕ) (above : Bool)
    (free : EachIs layer.cell offset asked (λ i. unmapped)) (inside : offset + asked ≤ layer.size) (top : IsTrue above → IsTrue layer.fixed.writable × IsTrue layer.fixed.lets_through) where
  through_below : (i : ℕ) → i < asked → at (layer ∷ below) (offset + i) ≡ at below (offset + i)
  through_below i lt = at_unmapped layer below (offset + i) (omega (arith, lt)) (free i lt)

  pub names_lower : (m : Mapping) → IsRunBelow asked m n → DeepNames below (at below) (stored_at g ds) offset n m → DeepNames (layer ∷ below) (at (layer ∷ below)) (stored_at g (d ∷ ds)) offset n (lower above m)
  names_lower (Raw depth storage place writable) run names = (
    λ i lt. through_below i (omega (arith, run.0, lt)) ∙ names.0 i lt ∙ ap byte (sym (stored_next g d ds depth storage (place + i))),
    λ is. let both = both_true writable above is in writable_next layer below depth storage place offset n (top both.1) (names.1 both.0),
  )
  names_lower (Special depth place) run names = (λ i lt. through_below i (omega (arith, run.0, lt)) ∙ names.0 i lt, names.1, barred_next layer below depth offset n names.2)
  names_lower (Zero explicit) run names = (λ i lt. through_below i (omega (arith, run.0, lt)) ∙ names.0 i lt, λ is. absurd (cc is), λ none. inl (λ i lt. free i (omega (arith, run.0, lt))))
  names_lower Eof run names = tt

pub there_lower : {D St : Type 0} (g : Ghosts D St) (d : D) (ds : List D) (above : Bool) (m : Mapping) → IsThere g ds m → IsThere g (d ∷ ds) (lower above m)
there_lower g d ds above (Raw depth storage place writable) h = subst (λ (k : ℕ). HasStorage g (d ∷ ds) k storage) (sym (add-one depth)) h
there_lower g d ds above (Special depth place) h = tt
there_lower g d ds above (Zero explicit) h = tt
there_lower g d ds above Eof h = tt

-- The top layer has no explicit zero in the run that the layers below report.
pub unstated_below : (explicit_zero : ℕ → Type 0) (offset asked n : ℕ) (m : Mapping) → AreExplicitZeroes explicit_zero offset asked false → IsRunBelow asked m n → AreExplicitZeroes explicit_zero offset n false
unstated_below explicit_zero offset asked n (Raw depth storage place writable) none run = λ i lt. none i (omega (arith, lt, run.0))
unstated_below explicit_zero offset asked n (Special depth place) none run = λ i lt. none i (omega (arith, lt, run.0))
unstated_below explicit_zero offset asked n (Zero explicit) none run = λ i lt. none i (omega (arith, lt, run.0))
unstated_below explicit_zero offset asked n Eof none run = absurd run

pub indirect_unstated : (explicit_zero : ℕ → Type 0) (offset n place : ℕ) (writable : Bool) (mapping : ShallowMapping) → mapping ≡ shallow.Indirect place writable → ReportsExplicitZero explicit_zero offset (mapping, n) → AreExplicitZeroes explicit_zero offset n false
indirect_unstated explicit_zero offset n place writable mapping is states = subst (λ (m : ShallowMapping). ReportsExplicitZero explicit_zero offset (m, n)) is states

-- Errors.
pub deep_look_top : (layer : Layer) (below : List Layer) (offset n : ℕ) (olds news us vs : List StorageState) (e : Fault)
    → LookCause layer offset n olds news e → DeepLookCause (layer ∷ below) (at (layer ∷ below)) offset n (olds ++ us) (news ++ vs) e
deep_look_top layer below offset n olds news us vs Failed h = inl h
deep_look_top layer below offset n olds news us vs MissingData h = inl h
deep_look_top layer below offset n olds news us vs DamagedTable h = (h.0, h.1, at_own layer below (offset + h.0) _ h.2 h.3)
deep_look_top layer below offset n olds news us vs Memory h = h
deep_look_top layer below offset n olds news us vs Storage h = some_rose_left olds news us vs h
deep_look_top layer below offset n olds news us vs _ h = absurd h

pub deep_look_below : (layer : Layer) (below : List Layer) (offset part n : ℕ) (olds news us vs : List StorageState) (e : Fault)
    → DeepLookCause below (at below) offset part us vs e → EachIs layer.cell offset part (λ i. unmapped) → offset + part ≤ layer.size → part ≤ n
    → Pairs IsLater olds news → DeepLookCause (layer ∷ below) (at (layer ∷ below)) offset n (olds ++ us) (news ++ vs) e
deep_look_below layer below offset part n olds news us vs Failed h free inside fits later = inr h
deep_look_below layer below offset part n olds news us vs MissingData h free inside fits later = inr h
deep_look_below layer below offset part n olds news us vs DamagedTable h free inside fits later =
    (h.0, omega (arith, h.1, fits), at_unmapped layer below (offset + h.0) (omega (arith, h.1, inside)) (free h.0 h.1) ∙ h.2)
deep_look_below layer below offset part n olds news us vs Memory h free inside fits later = h
deep_look_below layer below offset part n olds news us vs Storage h free inside fits later = some_rose_right olds news us vs later h
deep_look_below layer below offset part n olds news us vs _ h free inside fits later = absurd h

not_end : (size offset asked n : ℕ) (m : Mapping) → is_deep_end m ≡ false → offset < size → n ≤ asked → offset + n ≤ size → (0 < asked → 0 < n) → IsDeepRun size offset asked m n
not_end size offset asked n (Raw a b c d) is low most inside some = (low, most, inside, some)
not_end size offset asked n (Special a b) is low most inside some = (low, most, inside, some)
not_end size offset asked n (Zero a) is low most inside some = (low, most, inside, some)
not_end size offset asked n Eof is low most inside some = absurd (cc is)

pub run_inside : (size offset asked part n : ℕ) (m lowered : Mapping) → IsRunBelow part m n → is_deep_end lowered ≡ is_deep_end m → offset < size → offset + part ≤ size → part ≤ asked → (0 < asked → 0 < part) → IsDeepRun size offset asked lowered n
run_inside size offset asked part n (Raw a b c d) lowered run end low inside fits some = not_end size offset asked n lowered end low (omega (arith, run.0, fits)) (omega (arith, run.0, inside)) (λ h. run.1 (some h))
run_inside size offset asked part n (Special a b) lowered run end low inside fits some = not_end size offset asked n lowered end low (omega (arith, run.0, fits)) (omega (arith, run.0, inside)) (λ h. run.1 (some h))
run_inside size offset asked part n (Zero a) lowered run end low inside fits some = not_end size offset asked n lowered end low (omega (arith, run.0, fits)) (omega (arith, run.0, inside)) (λ h. run.1 (some h))
run_inside size offset asked part n Eof lowered run end low inside fits some = absurd run

pub indirect_run : (layer : Layer) (offset asked n place : ℕ) (writable : Bool) (mapping : ShallowMapping) → mapping ≡ shallow.Indirect place writable → IsRun layer offset asked mapping n → (offset < layer.size) × (n ≤ asked) × (offset + n ≤ layer.size) × (0 < asked → 0 < n)
indirect_run layer offset asked n place writable mapping is run = subst (λ (m : ShallowMapping). IsRun layer offset asked m n) is run

pub indirect_writable : (layer : Layer) (stored : ℕ → ℕ → ℕ) (offset n place : ℕ) (writable : Bool) (mapping : ShallowMapping) → mapping ≡ shallow.Indirect place writable → Names layer stored offset n mapping → IsTrue writable → IsTrue layer.fixed.writable × IsTrue layer.fixed.lets_through
indirect_writable layer stored offset n place writable mapping is names = λ said. let says = subst (Names layer stored offset n) is names in (says.3 said, subst IsTrue says.2 said)

pub writable_here : (layer : Layer) (below : List Layer) (offset asked storage place : ℕ) (writable : Bool) → ReportsWritable layer offset asked (shallow.Raw storage place writable) → DeepNamesWritable (layer ∷ below) offset asked (Raw 0 storage place writable)
writable_here layer below offset asked storage place writable writable_locations some can = from (layer.writable_location offset) refl can.1 where
  from : (home : Option (ℕ × ℕ)) → layer.writable_location offset ≡ home → IsSome home → IsTrue writable
  from (Some place') is some_place = let same = writable_locations can.0 some place'.0 place'.1 is in cc
  from None is none = absurd (cc none)

-- A run of the top layer itself.
module _ {D St : Type 0} (g : Ghosts D St) (d : D) (ds : List D) (layer : Layer) (below : List Layer) (offset n : ℕ)
    (inside : offset + n ≤ layer.size) where
  pub names_raw : (storage place : ℕ) (writable : Bool) → Names layer (byte_in (files g d)) offset n (shallow.Raw storage place writable)
      → DeepNames (layer ∷ below) (at (layer ∷ below)) (stored_at g (d ∷ ds)) offset n (Raw 0 storage place writable)
  names_raw storage place writable names =
      (λ i lt. at_own layer below (offset + i) _ (omega (arith, inside, lt)) (names.0 i lt), λ is. (names.1 is, names.2 is))

  pub names_zero : (explicit : Bool) → Names layer (byte_in (files g d)) offset n (shallow.Zero explicit)
      → DeepNames (layer ∷ below) (at (layer ∷ below)) (stored_at g (d ∷ ds)) offset n (Zero explicit)
  names_zero explicit names = (
    λ i lt. at_own layer below (offset + i) _ (omega (arith, inside, lt)) (names.0 i lt),
    λ is. names.0,
    λ none. inr
        (inr (names.1 none)),
  )

  pub names_special : (place : ℕ) → Names layer (byte_in (files g d)) offset n (shallow.Special place)
      → DeepNames (layer ∷ below) (at (layer ∷ below)) (stored_at g (d ∷ ds)) offset n (Special 0 place)
  names_special place names = (λ i lt. at_own layer below (offset + i) _ (omega (arith, inside, lt)) (names.0 i lt), names.1, names.0)

-- Extensions, read one after another.
use Rattle.std.proofs.Common.{◌≡◌, ℕ, suc, ◌-◌, ◌+◌, ◌<◌, ◌≤◌, refl, arith, ap, sym, ◌∙◌, List, [], ◌∷◌}
use Rattle.std.specs.Prelude.{Bool, true, false, ◌==◌, if◌then◌else◌, Option, Some, None, Result, Ok, Err}
use Rattle.imago_storage.specs.declared.fault.Fault.{Fault}
use Rattle.qcow2_types.specs.Bytes.{Bytes}
use Rattle.qcow2_types.specs.Header.{Extension, extension_at, extensions_at, after, ◌>>=◌, with_front, and_more, last_of}
use Rattle.qcow2_metadata.specs.Extensions.{Known, nothing_known, newest, with_extension, known_by, known_of}

-- The data of the last extension of this type, otherwise `before`.
abbrev pub latest : ℕ → Option (List ℕ) → List Extension → Option (List ℕ)
latest kind before [] = before
latest kind before (x ∷ xs) = latest kind (newest kind x before) xs

-- `known` with all of these extensions.
abbrev pub with_all : Known → List Extension → Known
with_all known xs = record {
  backing_format = latest 0xE279_2ACA known.backing_format xs;
  data_file_name = latest 0x4441_5441 known.data_file_name xs;
  feature_names = latest 0x6803_F857 known.feature_names xs;
}

-- `known` with the extensions that are still unread.
abbrev pub with_rest : Known → Result (List Extension) Fault → Result Known Fault
with_rest known r = r >>= λ xs. Ok (with_all known xs)

-- The found data, otherwise `before`.
abbrev or_before : Option (List ℕ) → Option (List ℕ) → Option (List ℕ)
or_before before None = before
or_before before (Some found) = Some found

latest-last : (kind : ℕ) (before : Option (List ℕ)) (xs : List Extension) → latest kind before xs ≡ or_before before (last_of kind xs)
latest-last kind before [] = refl
latest-last kind before (x ∷ xs) = latest-last kind (newest kind x before) xs ∙ split (x.0 == kind) (last_of kind xs)
  where
    split : (b : Bool) (o : Option (List ℕ)) → or_before (if b then Some x.1 else before) o ≡ or_before before (elim o [ Some found ↦ Some found | None ↦ if b then Some x.1 else None ])
    split true None = refl
    split true (Some found) = refl
    split false None = refl
    split false (Some found) = refl

or_none : (o : Option (List ℕ)) → or_before None o ≡ o
or_none None = refl
or_none (Some found) = refl

with_all-nothing : (xs : List Extension) → with_all nothing_known xs ≡ known_by xs
with_all-nothing xs = rw (latest-last 0xE279_2ACA None xs, latest-last 0x4441_5441 None xs, latest-last 0x6803_F857 None xs, or_none (last_of 0xE279_2ACA xs), or_none (last_of 0x4441_5441 xs), or_none (last_of 0x6803_F857 xs)) refl

pub with_rest-nothing : (r : Result (List Extension) Fault) → with_rest nothing_known r ≡ known_of r
with_rest-nothing (Ok xs) = ap Ok (with_all-nothing xs)
with_rest-nothing (Err e) = refl

with_rest-front : (known : Known) (x : Extension) (r : Result (List Extension) Fault) → with_rest known (with_front x r) ≡ with_rest (with_extension known x) r
with_rest-front known x (Ok xs) = refl
with_rest-front known x (Err e) = refl

-- If the known data is a fault, it is the fault of the reading.
pub known-err : (r : Result (List Extension) Fault) (e : Fault) → known_of r ≡ Err e → r ≡ Err e
known-err (Ok xs) e h = cc
known-err (Err e') e h = cc

module _ (f : Bytes) (end : ℕ) (known : Known) (all : Result Known Fault) (limit k at : ℕ) (before : with_rest known (extensions_at (limit - k) f end at) ≡ all) where
  more : k < limit → with_rest known (extension_at f end at >>= and_more (λ x. extensions_at (limit - (k + 1)) f end (after at x))) ≡ all
  unfolding extensions_at
  more lt = let next : limit - k ≡ suc (limit - (k + 1)) = omega arith in rw next at before

  -- One more extension is read.
  pub goes_on : k < limit → (x : Extension) → extension_at f end at ≡ Ok (Some x) → with_rest (with_extension known x) (extensions_at (limit - (k + 1)) f end (after at x)) ≡ all
  goes_on lt x here = sym (with_rest-front known x (extensions_at (limit - (k + 1)) f end (after at x))) ∙ (rw here at (more lt))

  -- The extensions end.
  pub ends_none : k < limit → extension_at f end at ≡ Ok None → all ≡ Ok known
  ends_none lt here = sym (rw here at (more lt))

  -- An extension ends past the area.
  pub ends_err : (e : Fault) → k < limit → extension_at f end at ≡ Err e → all ≡ Err e
  ends_err e lt here = sym (rw here at (more lt))

  -- No space is left for another extension.
  pub is_done : limit ≤ k → all ≡ Ok known
  unfolding extensions_at
  is_done le = let none : limit - k ≡ 0 = omega arith in sym (rw none at before)

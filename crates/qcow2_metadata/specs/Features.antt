-- The names of feature bits: their order, and the name of a given bit.
use Rattle.std.specs.Prelude.{ℕ, Bool, true, ◌==◌, ◌&&◌, if◌then◌else◌, List, [], ◌∷◌, Option, Some, None}
use Rattle.qcow2_types.specs.Header.{Feature, comes_before}
use Rattle.std.specs.String.{string_bytes}
use Rattle.qcow2_types.specs.Features.{kind_of}
use Rattle.qcow2_metadata.specs.declared.features.FeatureName.{FeatureName}

-- The name of the bit of this kind, if it has one.
abbrev pub name_of : ℕ → ℕ → List Feature → Option (List ℕ)
name_of kind bit [] = None
name_of kind bit (x ∷ xs) = if (x.kind == kind) && (x.bit == bit) then Some x.name else name_of kind bit xs

-- The name is sorted before the first of these.
abbrev pub is_first : Feature → List Feature → Bool
is_first x [] = true
is_first x (y ∷ ys) = comes_before x y

-- Each name is sorted before the next.
abbrev pub in_order : List Feature → Bool
in_order [] = true
in_order (x ∷ xs) = is_first x xs && in_order xs

-- A name as contracts see it.
abbrev pub seen_name : FeatureName → Feature
seen_name x = record { kind = kind_of x.kind; bit = x.bit; name = string_bytes x.name }

-- Specifies how the further files that a caller supplies for images (VMDK extents) are taken by their names.
use Rattle.std.specs.Prelude.{◌≡◌, ◌⊎◌, ⊤, ◌++◌, ◌∷◌, [], ℕ, List, Result, Ok, Err, All}
use Rattle.std.specs.String.{string_bytes}
use Rattle.std.specs.declared.string.String.{String}
use Rattle.std.specs.declared.alloc.Global.{Global}
use Rattle.imago_storage.specs.declared.fault.Fault.{Fault}
use Rattle.imago_storage.specs.declared.fault.Fault.TheVariants.{MissingData}

-- The file has another name.
abbrev pub IsOther : {S : Type 0} → List ℕ → String Global × S → Type 0
IsOther name file = string_bytes file.0 ≡ name → ⊥

-- The first of these files with a name is taken. The others stay, in their order.
pub record TakesFirst {S : Type 0} (files : List (String Global × S)) (name : List ℕ) (taken : S)
    (left : List (String Global × S)) : Type 0 where
  pub before : List (String Global × S)
  pub files_after : List (String Global × S)
  pub given : String Global
  pub where_is : files ≡ before ++ ((given, taken) ∷ files_after)
  pub named : string_bytes given ≡ name
  pub first : All (IsOther name) before
  pub others_left : left ≡ before ++ files_after

-- The result for a name, and the files that are left. If no file has the name, nothing is taken.
abbrev pub IsTaken : {S : Type 0} → List (String Global × S) → List ℕ → Result S Fault → List (String Global × S) → Type 0
IsTaken files name (Ok file) left = TakesFirst files name file left
IsTaken files name (Err fault) left = (fault ≡ MissingData) × All (IsOther name) files × (left ≡ files)

-- A file is taken for each of these names, one after another.
abbrev pub TakesEach : {S : Type 0} → List (String Global × S) → List (List ℕ) → List S → Type 0
TakesEach files [] [] = ⊤
TakesEach {S} files (name ∷ names) (taken ∷ others) =
    (left : List (String Global × S)) × TakesFirst files name taken left × TakesEach left names others
TakesEach files names taken = ⊥

-- One of these names has no file, after a file is taken for each name before it.
abbrev pub LacksOne : {S : Type 0} → List (String Global × S) → List (List ℕ) → Type 0
LacksOne files [] = ⊥
LacksOne {S} files (name ∷ names) =
    All (IsOther name) files ⊎ ((taken : S) × (left : List (String Global × S)) × TakesFirst files name taken left × LacksOne left names)

-- Specifies the bytes of files that a line `save` of a script keeps.
use Rattle.std.specs.Prelude.{ℕ, List, [], ◌∷◌, Bool, if◌then◌else◌, Option, None, Some, Vec}
use Rattle.std.specs.Global.{Global}
use Rattle.imago_access.specs.declared.driver_model.DriverModel.{Ghosts}

-- The bytes of the top file, and those of the next layer's file (the file below the top), if that layer is writable.
pub record SavedFiles : Type 0 where
  pub top : List ℕ
  pub below : Option (List ℕ)

-- The bytes of the next layer's file, if that layer is writable.
abbrev pub next_bytes : {D St : Type 0} → Ghosts D St → List D → Option (List ℕ)
next_bytes g [] = None
next_bytes g (next ∷ rest) = if (g.layer next).fixed.writable then Some (g.image next).bytes else None

-- The bytes that a `save` keeps of the files as they are now.
abbrev pub files_to_save : {D St : Type 0} → Ghosts D St → D × List D → SavedFiles
files_to_save g c = record { top = (g.image c.0).bytes; below = next_bytes g c.1 }

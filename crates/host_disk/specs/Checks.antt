-- The check of a top file.
use Rattle.std.specs.Prelude.{⊤, List, [], ◌∷◌}
use Rattle.qimg_chain.specs.Chains.{IsSoundAs}
use Rattle.qimg_chain.specs.FileMeanings.{FileBytes}

-- The first of the files is consistent as an image of its format, or there is no file.
abbrev pub IsTopSound : List FileBytes → Type 0
IsTopSound [] = ⊤
IsTopSound (top ∷ below) = IsSoundAs top.format top.bytes

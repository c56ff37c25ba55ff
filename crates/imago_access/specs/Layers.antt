-- The drivers of a chain as a list: an image and its backing files.
use Rattle.std.specs.Prelude.{◌∷◌, List, [], Option, Some, None, Box}
use Rattle.std.specs.declared.alloc.Global.{Global}

-- The drivers of a chain, the top first.
abbrev pub chain : {D : Type 0} → D × List D → List D
chain c = c.0 ∷ c.1

-- The drivers of the layers below.
abbrev pub layers : {D : Type 0} → Option (Box (D × List D) Global) → List D
layers None = []
layers (Some b) = b.value.0 ∷ b.value.1

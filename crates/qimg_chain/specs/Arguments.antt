-- Defines what the arguments of the program `qimg` mean: the images of a chain (an image and its backing chain). Texts are lists of bytes.
use Rattle.std.specs.Prelude.{◌≡◌, ◌≢◌, ⊤, ℕ, List, [], ◌∷◌, ◌++◌, map, drop, flat_map, Option, Some, None, String, string_bytes, codes}
use Rattle.std.specs.Borrow.{Bor}
use Rattle.std.specs.Global.{Global}
use Rattle.imago_access.specs.declared.format.Format.{Format}
use Rattle.imago_access.specs.declared.format.Format.TheVariants.{Raw, Qcow2, Vmdk}
use Rattle.imago_storage.specs.declared.fault.Fault.{Fault}
use Rattle.imago_storage.specs.declared.fault.Fault.TheVariants.{BadArgument, Memory}
use Rattle.qimg_chain.specs.declared.arguments.LayerArgument.{LayerArgument}
use Rattle.qimg_chain.specs.declared.arguments.Arguments.{Arguments}
use Rattle.qimg_chain.specs.declared.arguments.Opening.{Opening}
use Rattle.qimg_chain.specs.declared.arguments.Opening.TheVariants.{Writable, ReadOnly, ForCommit}

-- The arguments from index `at` on.
abbrev pub words_from : ℕ → List (Bor (List ℕ)) → List (List ℕ)
words_from at words = map (λ w. w.now) (drop at words)

-- One image of a chain in the arguments: its format, the path of its file, and the names and paths of its further files (VMDK extents).
pub record AskedLayer : Type 0 where
  pub format : Format
  pub path : List ℕ
  pub extras : List (List ℕ × List ℕ)

-- The meaning of the arguments: how the images are opened, and the images, the top first.
pub record Asked : Type 0 where
  pub opening : Opening
  pub layers : List AskedLayer

abbrev pub extra_of : String Global × String Global → List ℕ × List ℕ
extra_of extra = (string_bytes extra.0, string_bytes extra.1)

abbrev pub layer_of : LayerArgument → AskedLayer
layer_of layer = record { format = layer.format; path = string_bytes layer.path; extras = map extra_of layer.extras.items }

abbrev pub asked_of : Arguments → Asked
asked_of arguments = record { opening = arguments.opening; layers = map layer_of arguments.layers.items }

-- The arguments for a further file, for a layer, and for everything.
abbrev pub extra_words : List ℕ × List ℕ → List (List ℕ)
extra_words extra = codes "file" ∷ extra.0 ∷ extra.1 ∷ []

abbrev pub format_word : Format → List ℕ
format_word Raw = codes "raw"
format_word Qcow2 = codes "qcow2"
format_word Vmdk = codes "vmdk"

abbrev pub layer_words : AskedLayer → List (List ℕ)
layer_words layer = format_word layer.format ∷ layer.path ∷ flat_map extra_words layer.extras

abbrev pub opening_words : Opening → List (List ℕ)
opening_words Writable = []
opening_words ReadOnly = codes "-r" ∷ []
opening_words ForCommit = codes "-c" ∷ []

-- The first argument says how the images are opened.
abbrev pub IsOpening : List ℕ → Opening → Type 0
IsOpening word Writable = (word ≢ codes "-r") × (word ≢ codes "-c")
IsOpening word ReadOnly = word ≡ codes "-r"
IsOpening word ForCommit = word ≡ codes "-c"

abbrev pub asked_words : Asked → List (List ℕ)
asked_words asked = opening_words asked.opening ++ flat_map layer_words asked.layers

-- The arguments have this meaning, with at least one layer.
abbrev pub AskFor : List (List ℕ) → Asked → Type 0
AskFor words asked = (words ≡ asked_words asked) × (asked.layers ≢ [])

-- The list is empty, or the arguments have this meaning.
abbrev pub Says : List (List ℕ) → Option Arguments → Type 0
Says words None = words ≡ []
Says words (Some arguments) = AskFor words (asked_of arguments)

-- The reason why the arguments aren't parsed: the list isn't empty and has no meaning, or memory ran out.
abbrev pub WhyNotRead : List (List ℕ) → Fault → Type 0
WhyNotRead words BadArgument = (words ≢ []) × ((asked : Asked) → AskFor words asked → ⊥)
WhyNotRead words Memory = ⊤
WhyNotRead words fault = ⊥

-- The reason why the arguments aren't parsed as a list of layers, which may be empty.
abbrev pub SayNoLayers : List (List ℕ) → Fault → Type 0
SayNoLayers words BadArgument = (layers : List AskedLayer) → words ≡ flat_map layer_words layers → ⊥
SayNoLayers words Memory = ⊤
SayNoLayers words fault = ⊥

-- Like `SayNoLayers`, for at least one layer.
abbrev pub AskForNone : List (List ℕ) → Fault → Type 0
AskForNone words BadArgument = (layers : List AskedLayer) → layers ≢ [] → words ≡ flat_map layer_words layers → ⊥
AskForNone words Memory = ⊤
AskForNone words fault = ⊥

-- The arguments are these further files and the rest. If they are further files and then layers, the rest is these layers.
pub record IsExtras (words : List (List ℕ)) (extras : List (List ℕ × List ℕ)) (rest : List (List ℕ)) : Type 0 where
  pub words_are : words ≡ flat_map extra_words extras ++ rest
  pub leaves : (others : List (List ℕ × List ℕ)) (layers : List AskedLayer)
      → words ≡ flat_map extra_words others ++ flat_map layer_words layers → rest ≡ flat_map layer_words layers

-- The arguments don't begin with a further file.
abbrev pub AreNoFile : List (List ℕ) → Type 0
AreNoFile words = (name path : List ℕ) (behind : List (List ℕ)) → words ≡ codes "file" ∷ name ∷ path ∷ behind → ⊥

-- The arguments are a layer and the rest. If they are layers, the rest is the other layers.
pub record IsLayer (words : List (List ℕ)) (layer : AskedLayer) (rest : List (List ℕ)) : Type 0 where
  pub words_after : List (List ℕ)
  pub words_are : words ≡ format_word layer.format ∷ layer.path ∷ words_after
  pub extras_are : IsExtras words_after layer.extras rest

-- The form of the lines of a VMDK descriptor that describe no extent: ignored lines, settings, and invalid lines. The definitions don't
-- depend on how a line is parsed.
use Rattle.std.specs.Prelude.{◌≡◌, ◌⊎◌, ℕ, ◌==◌, not, List, ◌∷◌, ◌++◌, codes, IsTrue, IsFalse}
use Rattle.std.specs.List.{list_all}
use Rattle.std.specs.Str.{str_eq_ignore_ascii_case}
use Rattle.imago_formats.specs.DescriptorWords.{is_blank, word}
use Rattle.imago_formats.specs.DescriptorLines.{AreBlanks, access_word}
use Rattle.imago_formats.specs.declared.vmdk.descriptor.Access.{Access}

-- A comment, after blanks.
pub record IsComment (line : List ℕ) : Type 0 where
  pub start : List ℕ
  pub text : List ℕ
  pub made : line ≡ start ++ 35 ∷ text
  pub start_is : AreBlanks start

-- A line that is ignored: blanks only, or a comment.
abbrev pub IsSilent : List ℕ → Type 0
IsSilent line = AreBlanks line ⊎ IsComment line

-- A line with this text after its blanks. It is no comment, and doesn't begin with an access keyword.
pub record IsOtherLine (text line : List ℕ) : Type 0 where
  pub start : List ℕ
  pub first : ℕ
  pub remainder : List ℕ
  pub made : line ≡ start ++ text
  pub start_is : AreBlanks start
  pub begins : text ≡ first ∷ remainder
  pub no_blank : IsFalse (is_blank first)
  pub no_comment : IsFalse (first == 35)
  pub no_access : (access : Access) → word text ≡ access_word access → ⊥

-- The text has no equals sign.
abbrev pub HasNoSign : List ℕ → Type 0
HasNoSign text = IsTrue (list_all (λ b. not (b == 61)) text)

-- A line as in `IsOtherLine`, with a key, its first equals sign, and a value.
pub record IsSettingLine (key value line : List ℕ) : Type 0 where
  pub other : IsOtherLine (key ++ 61 ∷ value) line
  pub no_sign : HasNoSign key

-- `text` is `inner` with blanks at both ends.
pub record IsPadded (inner text : List ℕ) : Type 0 where
  pub start : List ℕ
  pub end : List ℕ
  pub made : text ≡ start ++ (inner ++ end)
  pub start_is : AreBlanks start
  pub end_is : AreBlanks end

-- A supported version.
abbrev pub IsCarriedVersion : List ℕ → Type 0
IsCarriedVersion value = IsPadded (codes "1") value ⊎ (IsPadded (codes "2") value ⊎ IsPadded (codes "3") value)

-- The value that means no parent, in upper or lower case.
pub record IsNoParent (value : List ℕ) : Type 0 where
  pub id : List ℕ
  pub padded : IsPadded id value
  pub one_word : IsTrue (list_all (λ b. not (is_blank b)) id)
  pub same : IsTrue (str_eq_ignore_ascii_case id (codes "ffffffff"))

-- The setting is supported: a version is one of the supported ones, and there is no parent. Other keys are ignored.
pub record IsCarriedSetting (key value : List ℕ) : Type 0 where
  pub version : IsPadded (codes "version") key → IsCarriedVersion value
  pub parent : IsPadded (codes "parentCID") key → IsNoParent value

-- The form of the lines of a VMDK descriptor that begin with an access keyword and have a type other than FLAT and ZERO. The definitions
-- don't depend on how a line is parsed.
use Rattle.std.specs.Prelude.{◌≡◌, ℕ, ◌<◌, ⊤, not, List, [], ◌∷◌, ◌++◌, length, codes, IsTrue}
use Rattle.std.specs.List.{list_all}
use Rattle.imago_formats.specs.DescriptorWords.{is_blank, is_decimal}
use Rattle.imago_formats.specs.DescriptorLines.{AreBlanks, IsGap, access_word}
use Rattle.imago_formats.specs.declared.vmdk.descriptor.Access.{Access}

-- The text that may follow a `word`: nothing, or a blank and anything.
abbrev pub EndsWord : List ℕ → Type 0
EndsWord [] = ⊤
EndsWord (b ∷ rest) = IsTrue (is_blank b)

-- A line that begins with an access keyword.
pub record IsAccessLine (line : List ℕ) : Type 0 where
  pub start : List ℕ
  pub access : Access
  pub remainder : List ℕ
  pub made : line ≡ start ++ (access_word access ++ remainder)
  pub start_is : AreBlanks start
  pub rest_is : EndsWord remainder

-- The name of an unsupported type: not empty, without blanks, and neither FLAT nor ZERO.
pub record IsOtherType (kind : List ℕ) : Type 0 where
  pub nonempty : 0 < length kind
  pub one_word : IsTrue (list_all (λ b. not (is_blank b)) kind)
  pub no_flat : kind ≡ codes "FLAT" → ⊥
  pub no_zero : kind ≡ codes "ZERO" → ⊥

-- A line with an access keyword, the number of sectors, an unsupported type, and anything after that.
pub record IsOtherExtent (line : List ℕ) : Type 0 where
  pub start : List ℕ
  pub access : Access
  pub gap : List ℕ
  pub digits : List ℕ
  pub second_gap : List ℕ
  pub kind : List ℕ
  pub remainder : List ℕ
  pub made : line ≡ start ++ (access_word access ++ (gap ++ (digits ++ (second_gap ++ (kind ++ remainder)))))
  pub start_is : AreBlanks start
  pub gap_is : IsGap gap
  pub digits_are : IsTrue (is_decimal digits)
  pub second_gap_is : IsGap second_gap
  pub kind_is : IsOtherType kind
  pub rest_is : EndsWord remainder

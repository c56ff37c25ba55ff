-- The form of the lines of a VMDK descriptor that describe an extent: keywords and numbers, with blanks between them and at both ends. The
-- definitions don't depend on how a line is parsed.
use Rattle.std.specs.Prelude.{◌≡◌, ◌⊎◌, ℕ, ◌+◌, ◌*◌, ◌^◌, ◌<◌, ◌==◌, not, List, ◌∷◌, ◌++◌, length, codes, IsTrue}
use Rattle.std.specs.List.{list_all}
use Rattle.std.specs.Str.{is_utf8}
use Rattle.std.specs.Str.Parse.{digits_value}
use Rattle.imago_formats.specs.DescriptorWords.{is_blank, is_decimal}
use Rattle.imago_formats.specs.declared.vmdk.descriptor.Access.{Access}
use Rattle.imago_formats.specs.declared.vmdk.descriptor.Access.TheVariants.{ReadWrite, ReadOnly, NoAccess}
use Rattle.imago_formats.specs.declared.vmdk.descriptor.Source.{Source}
use Rattle.imago_formats.specs.declared.vmdk.descriptor.Source.TheVariants.{Flat, Zero}
use Rattle.imago_formats.specs.declared.vmdk.descriptor.Extent.{Extent}

-- The text only has spaces and tabs, or is empty.
abbrev pub AreBlanks : List ℕ → Type 0
AreBlanks text = IsTrue (list_all is_blank text)

-- The text is at least one blank.
abbrev pub IsGap : List ℕ → Type 0
IsGap text = (0 < length text) × AreBlanks text

-- The digits of a number below 2^64.
abbrev pub AreDigitsOf : ℕ → List ℕ → Type 0
AreDigitsOf n digits = IsTrue (is_decimal digits) × (n ≡ digits_value 10 digits)

-- The keyword of an access mode.
abbrev pub access_word : Access → List ℕ
access_word ReadWrite = codes "RW"
access_word ReadOnly = codes "RDONLY"
access_word NoAccess = codes "NOACCESS"

-- A sector, after a gap and followed by blanks.
pub record IsSectorText (sector : ℕ) (text : List ℕ) : Type 0 where
  pub gap : List ℕ
  pub digits : List ℕ
  pub end : List ℕ
  pub made : text ≡ gap ++ (digits ++ end)
  pub gap_is : IsGap gap
  pub digits_are : AreDigitsOf sector digits
  pub end_is : AreBlanks end

-- FLAT, the quoted name of the file, and the sector with the first byte. The sector is 0 if it is missing.
pub record IsFlatText (sectors : ℕ) (name : List ℕ) (sector : ℕ) (text : List ℕ) : Type 0 where
  pub gap : List ℕ
  pub end : List ℕ
  pub made : text ≡ codes "FLAT" ++ (gap ++ 34 ∷ (name ++ 34 ∷ end))
  pub gap_is : IsGap gap
  pub no_quote : IsTrue (list_all (λ b. not (b == 34)) name)
  pub is_text : IsTrue (is_utf8 name)
  pub sector_is : (AreBlanks end × (sector ≡ 0)) ⊎ IsSectorText sector end
  -- The bytes end below 2^64.
  pub fits : 512 * (sector + sectors) < 2 ^ 64

-- ZERO, followed by blanks.
pub record IsZeroText (text : List ℕ) : Type 0 where
  pub end : List ℕ
  pub made : text ≡ codes "ZERO" ++ end
  pub end_is : AreBlanks end

-- The source of an extent with this number of sectors.
abbrev pub IsSourceText : ℕ → Source (List ℕ) → List ℕ → Type 0
IsSourceText sectors (Flat name sector) = IsFlatText sectors name sector
IsSourceText sectors Zero = IsZeroText

-- A line that describes an extent: its access mode, its number of sectors, and its source.
pub record IsExtentLine (x : Extent (List ℕ)) (line : List ℕ) : Type 0 where
  pub start : List ℕ
  pub gap : List ℕ
  pub digits : List ℕ
  pub second_gap : List ℕ
  pub source : List ℕ
  pub made : line ≡ start ++ (access_word x.access ++ (gap ++ (digits ++ (second_gap ++ source))))
  pub start_is : AreBlanks start
  pub gap_is : IsGap gap
  pub digits_are : AreDigitsOf x.sectors digits
  pub second_gap_is : IsGap second_gap
  pub source_is : IsSourceText x.sectors x.source source

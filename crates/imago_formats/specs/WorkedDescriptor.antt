-- Examples of descriptors, byte for byte, and their meaning.
use Rattle.std.specs.Prelude.{ℕ, List, [], ◌∷◌, ◌++◌, codes}
use Rattle.imago_formats.specs.Descriptor.{signature}
use Rattle.imago_formats.specs.declared.vmdk.descriptor.Access.{Access}
use Rattle.imago_formats.specs.declared.vmdk.descriptor.Access.TheVariants.{ReadWrite, ReadOnly, NoAccess}
use Rattle.imago_formats.specs.declared.vmdk.descriptor.Source.{Source}
use Rattle.imago_formats.specs.declared.vmdk.descriptor.Source.TheVariants.{Flat, Zero}
use Rattle.imago_formats.specs.declared.vmdk.descriptor.Extent.{Extent}

-- Lines, each followed by a newline.
abbrev pub text_with : List (List ℕ) → List ℕ
text_with [] = []
text_with (line ∷ rest) = line ++ 10 ∷ text_with rest

-- A descriptor with these lines after the first.
abbrev pub descriptor_with : List (List ℕ) → List ℕ
descriptor_with rest = text_with (signature ∷ rest)

-- A text in double quotes.
abbrev pub quoted : List ℕ → List ℕ
quoted text = 34 ∷ text ++ 34 ∷ []

-- A descriptor as tools write it, with two sectors: one of the file a, and one of zeroes.
abbrev pub two_sectors : List ℕ
two_sectors = descriptor_with (
    codes "version=1"
    ∷ codes "CID=12345678"
    ∷ codes "parentCID=ffffffff"
    ∷ (codes "createType=" ++ quoted (codes "monolithicFlat"))
    ∷ []
    ∷ codes "# Extent description"
    ∷ (codes "RW 1 FLAT " ++ quoted (codes "a") ++ codes " 0")
    ∷ codes "RW 1 ZERO"
    ∷ []
    ∷ (codes "ddb.virtualHWVersion = " ++ quoted (codes "4"))
    ∷ [])

abbrev pub extent : Access → ℕ → Source (List ℕ) → Extent (List ℕ)
extent access sectors source = record { access = access; sectors = sectors; source = source }

abbrev pub two_extents : List (Extent (List ℕ))
two_extents = extent ReadWrite 1 (Flat (codes "a") 0) ∷ extent ReadWrite 1 Zero ∷ []

-- A descriptor with other blanks, other cases, a name with a blank in it, and DOS line ends. The bytes after a 0 byte aren't part of the
-- text.
abbrev pub other_text : List ℕ
other_text = signature ++ 13 ∷ 10 ∷ codes " version =  3 " ++ 10 ∷ codes "parentCID=FfFfFfFf" ++ 10
    ∷ 9 ∷ codes "RDONLY" ++ 9 ∷ codes " 2 FLAT  " ++ quoted (codes "a b") ++ codes " 7 " ++ 13 ∷ 10
    ∷ codes "NOACCESS 3 ZERO" ++ 0 ∷ codes "what"

abbrev pub other_extents : List (Extent (List ℕ))
other_extents = extent ReadOnly 2 (Flat (codes "a b") 7) ∷ extent NoAccess 3 Zero ∷ []

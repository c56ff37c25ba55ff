-- The meaning of example descriptors.
use Rattle.std.proofs.Common.{zero, suc, ◌≡◌, ◌^◌, ◌&&◌, ℕ, Bool, true, ltb, lit<, List, [], ◌∷◌, ◌++◌, length, drop, inr, refl, ap, ◌∙◌, Some, None, Result, Ok, Err, codes, arith}
use Rattle.std.specs.Prelude.{nat_le, if◌then◌else◌}
use Rattle.std.specs.List.{list_all}
use Rattle.std.specs.Str.{IsAscii, is_utf8}
use Rattle.std.specs.Str.Lines.{lines}
use Rattle.std.proofs.lemmas.Str.{IsUtf8-from_ascii}
use borrow.Author.Tests.{ltb-true}
use Rattle.imago_storage.specs.declared.fault.Fault.{Fault}
use Rattle.imago_storage.specs.declared.fault.Fault.TheVariants.{DamagedDescriptor, Unsupported}
use Rattle.imago_formats.specs.DescriptorWords.{◌>>=◌}
use Rattle.imago_formats.specs.Descriptor.{descriptor_of, extents_of, is_signed, said_by, sized, text_of}
use Rattle.imago_formats.specs.WorkedDescriptor.{descriptor_with, extent, other_extents, other_text, quoted, two_extents, two_sectors}
use Rattle.imago_formats.specs.declared.vmdk.descriptor.Access.TheVariants.{NoAccess, ReadOnly, ReadWrite}
use Rattle.imago_formats.specs.declared.vmdk.descriptor.Source.TheVariants.{Flat, Zero}
use Rattle.imago_formats.specs.declared.vmdk.descriptor.Extent.{Extent}
use Rattle.imago_formats.proofs.ExtentLines.{made}
use Rattle.imago_formats.proofs.LineOrder.{all}
use Rattle.imago_formats.proofs.WordLemmas.{both, is_text}

-- ASCII bytes are valid UTF-8.
all_below : (bs : List ℕ) → list_all (λ b. ltb b 128) bs ≡ true → IsAscii bs
all_below [] low i = lit< tt
all_below (b ∷ bs) low zero = ltb-true _ _ (both (ltb b 128) (list_all (λ c. ltb c 128) bs) low).0
all_below (b ∷ bs) low (suc i) = all_below bs (both (ltb b 128) (list_all (λ c. ltb c 128) bs) low).1 i

ascii_text : (bs : List ℕ) → list_all (λ b. ltb b 128) bs ≡ true → is_utf8 bs ≡ true
ascii_text bs low = is_text bs (IsUtf8-from_ascii bs (all_below bs low))

-- The meaning of a text, by the result of its UTF-8 test.
abbrev as_read : Bool → List ℕ → Result (List (Extent (List ℕ))) Fault
as_read utf8 text = if utf8 && (nat_le (length text) (2 ^ 20) && is_signed text) then (extents_of (drop 1 (lines text)) >>= sized) else Err DamagedDescriptor

reads : (file : List ℕ) (r : Result (List (Extent (List ℕ))) Fault) → list_all (λ b. ltb b 128) (text_of file) ≡ true →
    as_read true (text_of file) ≡ r → descriptor_of file ≡ r
reads file r low is = ap (λ u. as_read u (text_of file)) (ascii_text (text_of file) low) ∙ is

-- ---- Texts with a file.

flat_line : said_by (codes "RW 1 FLAT " ++ quoted (codes "a") ++ codes " 0") ≡ Ok (Some (extent ReadWrite 1 (Flat (codes "a") 0)))
flat_line = made (extent ReadWrite 1 (Flat (codes "a") 0)) (codes "RW 1 FLAT " ++ quoted (codes "a") ++ codes " 0") (record {
  start = [];
  gap = 32 ∷ [];
  digits = codes "1";
  second_gap = 32 ∷ [];
  source = codes "FLAT " ++ quoted (codes "a") ++ codes " 0";
  made = refl;
  start_is = refl;
  gap_is = (omega arith, refl);
  digits_are = (refl, refl);
  second_gap_is = (omega arith, refl);
  source_is = record {
    gap = 32 ∷ [];
    end = codes " 0";
    made = refl;
    gap_is = (omega arith, refl);
    no_quote = refl;
    is_text = ascii_text (codes "a") refl;
    sector_is = inr (record {
      gap = 32 ∷ [];
      digits = codes "0";
      end = [];
      made = refl;
      gap_is = (omega arith, refl);
      digits_are = (refl, refl);
      end_is = refl;
    });
    fits = lit< tt;
  };
})

pub two : descriptor_of two_sectors ≡ Ok two_extents
two = reads two_sectors (Ok two_extents) refl (ap (λ r. r >>= sized) (all
    (None ∷ None ∷ None ∷ None ∷ None ∷ None ∷ Some (extent ReadWrite 1 (Flat (codes "a") 0)) ∷ Some (extent ReadWrite 1 Zero) ∷ None ∷ None ∷ [])
    (drop 1 (lines (text_of two_sectors)))
    (λ i. Ok None ∷ Ok None ∷ Ok None ∷ Ok None ∷ Ok None ∷ Ok None ∷ flat_line i ∷ Ok (Some (extent ReadWrite 1 Zero)) ∷ Ok None ∷ Ok None ∷ [])))

spaced_line : said_by (9 ∷ codes "RDONLY" ++ 9 ∷ codes " 2 FLAT  " ++ quoted (codes "a b") ++ codes " 7 ")
    ≡ Ok (Some (extent ReadOnly 2 (Flat (codes "a b") 7)))
spaced_line = made (extent ReadOnly 2 (Flat (codes "a b") 7)) (9 ∷ codes "RDONLY" ++ 9 ∷ codes " 2 FLAT  " ++ quoted (codes "a b") ++ codes " 7 ") (record {
  start = 9 ∷ [];
  gap = 9 ∷ 32 ∷ [];
  digits = codes "2";
  second_gap = 32 ∷ [];
  source = codes "FLAT  " ++ quoted (codes "a b") ++ codes " 7 ";
  made = refl;
  start_is = refl;
  gap_is = (omega arith, refl);
  digits_are = (refl, refl);
  second_gap_is = (omega arith, refl);
  source_is = record {
    gap = 32 ∷ 32 ∷ [];
    end = codes " 7 ";
    made = refl;
    gap_is = (omega arith, refl);
    no_quote = refl;
    is_text = ascii_text (codes "a b") refl;
    sector_is = inr (record {
      gap = 32 ∷ [];
      digits = codes "7";
      end = 32 ∷ [];
      made = refl;
      gap_is = (omega arith, refl);
      digits_are = (refl, refl);
      end_is = refl;
    });
    fits = lit< tt;
  };
})

pub other : descriptor_of other_text ≡ Ok other_extents
other = reads other_text (Ok other_extents) refl (ap (λ r. r >>= sized) (all
    (None ∷ None ∷ Some (extent ReadOnly 2 (Flat (codes "a b") 7)) ∷ Some (extent NoAccess 3 Zero) ∷ [])
    (drop 1 (lines (text_of other_text)))
    (λ i. Ok None ∷ Ok None ∷ spaced_line i ∷ Ok (Some (extent NoAccess 3 Zero)) ∷ [])))

-- ---- Texts without.

pub none : descriptor_of (descriptor_with []) ≡ Ok []
none = reads (descriptor_with []) (Ok []) refl refl

pub first_line : descriptor_of (codes "# Disk DescriptorFile " ++ 10 ∷ []) ≡ Err DamagedDescriptor
first_line = reads (codes "# Disk DescriptorFile " ++ 10 ∷ []) (Err DamagedDescriptor) refl refl

pub version : descriptor_of (descriptor_with (codes "version=4" ∷ [])) ≡ Err Unsupported
version = reads (descriptor_with (codes "version=4" ∷ [])) (Err Unsupported) refl refl

pub in_quotes : descriptor_of (descriptor_with ((codes "version=" ++ quoted (codes "1")) ∷ [])) ≡ Err Unsupported
in_quotes = reads (descriptor_with ((codes "version=" ++ quoted (codes "1")) ∷ [])) (Err Unsupported) refl refl

pub parent : descriptor_of (descriptor_with (codes "parentCID=fffffffe" ∷ [])) ≡ Err Unsupported
parent = reads (descriptor_with (codes "parentCID=fffffffe" ∷ [])) (Err Unsupported) refl refl

pub neither : descriptor_of (descriptor_with (codes "what" ∷ [])) ≡ Err DamagedDescriptor
neither = reads (descriptor_with (codes "what" ∷ [])) (Err DamagedDescriptor) refl refl

pub other_type : descriptor_of (descriptor_with (codes "RW 1 SPARSE" ∷ codes "what" ∷ [])) ≡ Err Unsupported
other_type = reads (descriptor_with (codes "RW 1 SPARSE" ∷ codes "what" ∷ [])) (Err Unsupported) refl refl

pub count : descriptor_of (descriptor_with (codes "RW x SPARSE" ∷ [])) ≡ Err DamagedDescriptor
count = reads (descriptor_with (codes "RW x SPARSE" ∷ [])) (Err DamagedDescriptor) refl refl

pub more : descriptor_of (descriptor_with (codes "RW 1 ZERO 0" ∷ [])) ≡ Err DamagedDescriptor
more = reads (descriptor_with (codes "RW 1 ZERO 0" ∷ [])) (Err DamagedDescriptor) refl refl

pub unquoted : descriptor_of (descriptor_with (codes "RW 1 FLAT a" ∷ [])) ≡ Err DamagedDescriptor
unquoted = reads (descriptor_with (codes "RW 1 FLAT a" ∷ [])) (Err DamagedDescriptor) refl refl

pub largest : descriptor_of (descriptor_with (codes "RW 18014398509481983 ZERO" ∷ [])) ≡ Ok (extent ReadWrite 18014398509481983 Zero ∷ [])
largest = reads (descriptor_with (codes "RW 18014398509481983 ZERO" ∷ [])) (Ok (extent ReadWrite 18014398509481983 Zero ∷ [])) refl refl

pub too_large : descriptor_of (descriptor_with (codes "RW 18014398509481983 ZERO" ∷ codes "RW 1 ZERO" ∷ [])) ≡ Err DamagedDescriptor
too_large = reads (descriptor_with (codes "RW 18014398509481983 ZERO" ∷ codes "RW 1 ZERO" ∷ [])) (Err DamagedDescriptor) refl refl

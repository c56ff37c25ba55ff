-- The meaning of a VMDK descriptor's text, line by line and as a whole. `DescriptorLines` states the form of an extent line independently,
-- and `descriptor_rules.rt` proves that both agree.
use Rattle.std.specs.Prelude.{ℕ, ◌+◌, ◌*◌, ◌^◌, ◌||◌, ◌&&◌, ◌==◌, nat_lt, nat_le, Bool, true, if◌then◌else◌, List, [], ◌∷◌, ◌++◌, length, drop, slice_index, slice_index_or, Option, Some, None, Result, Ok, Err, codes}
use Rattle.std.specs.List.{position_or_len, before_first, after_first, sum_by}
use Rattle.std.specs.Option.{option_to_list}
use Rattle.std.specs.Str.{bytes_eq, is_utf8, str_eq_ignore_ascii_case}
use Rattle.std.specs.Str.Lines.{lines}
use Rattle.imago_storage.specs.declared.fault.Fault.{Fault}
use Rattle.imago_storage.specs.declared.fault.Fault.TheVariants.{DamagedDescriptor, Unsupported}
use Rattle.imago_formats.specs.DescriptorWords.{◌>>=◌, is_empty, begins_with, is_blank, past_blanks, word, past_word, is_word, decimal}
use Rattle.imago_formats.specs.declared.vmdk.descriptor.Access.{Access}
use Rattle.imago_formats.specs.declared.vmdk.descriptor.Access.TheVariants.{ReadWrite, ReadOnly, NoAccess}
use Rattle.imago_formats.specs.declared.vmdk.descriptor.Source.{Source}
use Rattle.imago_formats.specs.declared.vmdk.descriptor.Source.TheVariants.{Flat, Zero}
use Rattle.imago_formats.specs.declared.vmdk.descriptor.Extent.{Extent}

-- ---- An extent: access, number of sectors, type, and for the type FLAT a file name and the sector with the first byte.

-- The access keywords.
abbrev pub access_of : List ℕ → Option Access
access_of one = if bytes_eq one (codes "RW") then Some ReadWrite else (if bytes_eq one (codes "RDONLY") then Some ReadOnly
    else (if bytes_eq one (codes "NOACCESS") then Some NoAccess else None))

-- The sector follows the closing quote and a blank, and nothing follows it. If the sector is missing, it is 0.
abbrev pub sector_of : List ℕ → Result ℕ Fault
sector_of text = let rest = past_blanks text in if is_empty rest then Ok 0
    else (if is_blank (slice_index text 0) && is_empty (past_word rest) then decimal (word rest) else Err DamagedDescriptor)

-- The extent's bytes in the file end below 2^64.
abbrev pub in_file : List ℕ → ℕ → ℕ → Result (Source (List ℕ)) Fault
in_file name sectors sector = if nat_lt (512 * (sector + sectors)) (2 ^ 64) then Ok (Flat name sector) else Err DamagedDescriptor

-- The name ends at the next double quote, and is valid UTF-8.
abbrev pub named : ℕ → List ℕ → Result (Source (List ℕ)) Fault
named sectors text = let name = before_first (λ b. b == 34) text in
    if nat_lt (position_or_len (λ b. b == 34) text) (length text) && is_utf8 name
    then sector_of (after_first (λ b. b == 34) text) >>= in_file name sectors else Err DamagedDescriptor

-- The text after the type FLAT: it starts with a double quote, before the file's name.
abbrev pub flat_of : ℕ → List ℕ → Result (Source (List ℕ)) Fault
flat_of sectors text = if begins_with 34 text then named sectors (drop 1 text) else Err DamagedDescriptor

-- Nothing follows the type ZERO.
abbrev pub zero_of : List ℕ → Result (Source (List ℕ)) Fault
zero_of text = if is_empty text then Ok Zero else Err DamagedDescriptor

-- The type of an extent. A type other than FLAT and ZERO is unsupported.
abbrev pub source_of : ℕ → List ℕ → Result (Source (List ℕ)) Fault
source_of sectors text = if bytes_eq (word text) (codes "FLAT") then flat_of sectors (past_word text)
    else (if bytes_eq (word text) (codes "ZERO") then zero_of (past_word text)
    else Err (if is_empty (word text) then DamagedDescriptor else Unsupported))

-- The extent, from the text after the access keyword.
abbrev pub extent_of : Access → List ℕ → Result (Extent (List ℕ)) Fault
extent_of access text = decimal (word text) >>= λ sectors. source_of sectors (past_word text)
    >>= λ source. Ok (record { access = access; sectors = sectors; source = source })

-- ---- A setting: a key, an equals sign and a value.

-- The version is 1, 2 or 3, and there is no parent. Other keys are ignored.
abbrev pub is_carried : List ℕ → List ℕ → Bool
is_carried key value = if is_word (codes "version") key
    then is_word (codes "1") value || (is_word (codes "2") value || is_word (codes "3") value)
    else (if is_word (codes "parentCID") key
    then str_eq_ignore_ascii_case (word value) (codes "ffffffff") && is_empty (past_word value) else true)

-- The key ends at the first equals sign.
abbrev pub setting_of : List ℕ → Result (Option (Extent (List ℕ))) Fault
setting_of text = if nat_lt (position_or_len (λ b. b == 61) text) (length text)
    then (if is_carried (before_first (λ b. b == 61) text) (past_blanks (after_first (λ b. b == 61) text))
    then Ok None else Err Unsupported)
    else Err DamagedDescriptor

-- ---- A line, from its first byte that isn't a blank.

-- Empty lines and comments are ignored.
abbrev pub is_skipped : List ℕ → Bool
is_skipped text = is_empty text || begins_with 35 text

-- The meaning of a line that isn't ignored: an extent if it begins with an access keyword, and otherwise a setting.
abbrev pub said_with : Option Access → List ℕ → Result (Option (Extent (List ℕ))) Fault
said_with None text = setting_of text
said_with (Some access) text = extent_of access (past_word text) >>= λ x. Ok (Some x)

abbrev pub said_by : List ℕ → Result (Option (Extent (List ℕ))) Fault
said_by line = let text = past_blanks line in if is_skipped text then Ok None else said_with (access_of (word text)) text

-- ---- The whole text.

-- The extents of lines in order, or the fault of the first invalid line.
abbrev pub extents_of : List (List ℕ) → Result (List (Extent (List ℕ))) Fault
extents_of [] = Ok []
extents_of (line ∷ rest) = said_by line >>= λ found. extents_of rest >>= λ xs. Ok (option_to_list found ++ xs)

-- The size of the disk of these extents, in bytes.
abbrev pub size_of : {N : Type 0} → List (Extent N) → ℕ
size_of xs = 512 * sum_by (λ x. x.sectors) xs

-- A disk has less than 2^63 bytes.
abbrev pub sized : List (Extent (List ℕ)) → Result (List (Extent (List ℕ))) Fault
sized xs = if nat_lt (size_of xs) (2 ^ 63) then Ok xs else Err DamagedDescriptor

-- The first line of every descriptor.
abbrev pub signature : List ℕ
signature = codes "# Disk DescriptorFile"

-- The text begins with the line `signature`.
abbrev pub is_signed : List ℕ → Bool
is_signed text = bytes_eq (slice_index_or (lines text) 0 []) signature

-- The text may be a descriptor: UTF-8 of at most 2^20 bytes, with the right first line.
abbrev pub is_descriptor : List ℕ → Bool
is_descriptor text = is_utf8 text && (nat_le (length text) (2 ^ 20) && is_signed text)

-- The extents of a text, or its fault.
abbrev pub read_from : List ℕ → Result (List (Extent (List ℕ))) Fault
read_from text = if is_descriptor text then (extents_of (drop 1 (lines text)) >>= sized) else Err DamagedDescriptor

-- The text of a file ends before its first 0 byte.
abbrev pub text_of : List ℕ → List ℕ
text_of file = before_first (λ b. b == 0) file

-- The extents of a file, or its fault.
abbrev pub descriptor_of : List ℕ → Result (List (Extent (List ℕ))) Fault
descriptor_of file = read_from (text_of file)

-- The faults that the text of a descriptor can have.
use Rattle.std.proofs.Common.{◌≡◌, ◌∷◌, [], ◌++◌, ◌+◌, ◌*◌, ◌^◌, ℕ, Bool, true, false, List, Option, Some, None, Result, Ok, Err, drop, length, subst}
use Rattle.std.specs.Prelude.{⊤, ◌&&◌, ◌==◌, nat_lt, if◌then◌else◌, codes, slice_index}
use Rattle.std.specs.List.{after_first, before_first, position_or_len}
use Rattle.std.specs.Option.{option_to_list}
use Rattle.std.specs.Str.{bytes_eq, is_utf8}
use Rattle.std.specs.Str.Parse.{digits_value}
use Rattle.std.specs.Str.Lines.{lines}
use Rattle.imago_storage.specs.declared.fault.Fault.{Fault}
use Rattle.imago_storage.specs.declared.fault.Fault.TheVariants.{DamagedDescriptor, Storage, Unsupported}
use Rattle.imago_formats.specs.Descriptor.{access_of, descriptor_of, extent_of, extents_of, flat_of, in_file, is_carried, is_descriptor, is_skipped, named, read_from, said_by, said_with, sector_of, setting_of, size_of, sized, source_of, text_of, zero_of}
use Rattle.imago_formats.specs.DescriptorWords.{◌>>=◌, begins_with, decimal, is_blank, is_decimal, is_empty, past_blanks, past_word, word}
use Rattle.imago_formats.specs.declared.vmdk.descriptor.Access.{Access}
use Rattle.imago_formats.specs.declared.vmdk.descriptor.Extent.{Extent}
use Rattle.imago_formats.specs.declared.vmdk.descriptor.Source.{Source}
use Rattle.imago_formats.specs.declared.vmdk.descriptor.Source.TheVariants.{Flat, Zero}

-- The text is damaged or unsupported.
abbrev IsOfText : Fault → Type 0
IsOfText DamagedDescriptor = ⊤
IsOfText Unsupported = ⊤
IsOfText fault = ⊥

abbrev Only : {A : Type 0} → Result A Fault → Type 0
Only (Ok x) = ⊤
Only (Err fault) = IsOfText fault

only_if : {A : Type 0} (b : Bool) (r s : Result A Fault) → Only r → Only s → Only (if b then r else s)
only_if true r s first second = first
only_if false r s first second = second

only_then : {A B : Type 0} (r : Result A Fault) (f : A → Result B Fault) → Only r → ((x : A) → Only (f x)) → Only (r >>= f)
only_then (Ok x) f first next = next x
only_then (Err fault) f first next = first

one_of_both : (b : Bool) → IsOfText (if b then DamagedDescriptor else Unsupported)
one_of_both true = tt
one_of_both false = tt

decimals : (digits : List ℕ) → Only (decimal digits)
decimals digits = only_if {A = ℕ} (is_decimal digits) (Ok (digits_value 10 digits)) (Err DamagedDescriptor) tt tt

sectors : (text : List ℕ) → Only (sector_of text)
sectors text =
    let rest = past_blanks text in
    let alone = is_blank (slice_index text 0) && is_empty (past_word rest) in
    only_if {A = ℕ} (is_empty rest) (Ok 0) (if alone then decimal (word rest) else Err DamagedDescriptor) tt
    (only_if {A = ℕ} alone (decimal (word rest)) (Err DamagedDescriptor) (decimals (word rest)) tt)

places : (name : List ℕ) (count sector : ℕ) → Only (in_file name count sector)
places name count sector = only_if {A = Source (List ℕ)} (nat_lt (512 * (sector + count)) (2 ^ 64)) (Ok (Flat name sector)) (Err DamagedDescriptor) tt tt

names : (count : ℕ) (text : List ℕ) → Only (named count text)
names count text =
    let name = before_first (λ b. b == 34) text in
    let behind = after_first (λ b. b == 34) text in
    only_if {A = Source (List ℕ)} (nat_lt (position_or_len (λ b. b == 34) text) (length text) && is_utf8 name) (sector_of behind >>= in_file name count) (Err DamagedDescriptor)
    (only_then {A = ℕ} {B = Source (List ℕ)} (sector_of behind) (in_file name count) (sectors behind) (places name count)) tt

flats : (count : ℕ) (text : List ℕ) → Only (flat_of count text)
flats count text =
    only_if {A = Source (List ℕ)} (begins_with 34 text) (named count (drop 1 text)) (Err DamagedDescriptor) (names count (drop 1 text)) tt

zeroes : (text : List ℕ) → Only (zero_of text)
zeroes text = only_if {A = Source (List ℕ)} (is_empty text) (Ok Zero) (Err DamagedDescriptor) tt tt

sources : (count : ℕ) (text : List ℕ) → Only (source_of count text)
sources count text =
    let rest = past_word text in
    let other : Result (Source (List ℕ)) Fault = Err (if is_empty (word text) then DamagedDescriptor else Unsupported) in
    only_if {A = Source (List ℕ)} (bytes_eq (word text) (codes "FLAT")) (flat_of count rest) (if bytes_eq (word text) (codes "ZERO") then zero_of rest else other)
    (flats count rest)
    (only_if {A = Source (List ℕ)} (bytes_eq (word text) (codes "ZERO")) (zero_of rest) other (zeroes rest) (one_of_both (is_empty (word text))))

extents : (kind : Access) (text : List ℕ) → Only (extent_of kind text)
extents kind text =
    let made : ℕ → Source (List ℕ) → Result (Extent (List ℕ)) Fault = λ count source. Ok (record { access = kind; sectors = count; source = source }) in
    only_then {A = ℕ} {B = Extent (List ℕ)} (decimal (word text)) (λ count. source_of count (past_word text) >>= made count) (decimals (word text))
    (λ count. only_then {A = Source (List ℕ)} {B = Extent (List ℕ)} (source_of count (past_word text)) (made count) (sources count (past_word text)) (λ source. tt))

settings : (text : List ℕ) → Only (setting_of text)
settings text =
    let carried = is_carried (before_first (λ b. b == 61) text) (past_blanks (after_first (λ b. b == 61) text)) in
    only_if {A = Option (Extent (List ℕ))} (nat_lt (position_or_len (λ b. b == 61) text) (length text)) (if carried then Ok None else Err Unsupported) (Err DamagedDescriptor)
    (only_if {A = Option (Extent (List ℕ))} carried (Ok None) (Err Unsupported) tt tt) tt

with_access : (kind : Option Access) (text : List ℕ) → Only (said_with kind text)
with_access None text = settings text
with_access (Some kind) text =
    only_then {A = Extent (List ℕ)} {B = Option (Extent (List ℕ))} (extent_of kind (past_word text)) (λ x. Ok (Some x)) (extents kind (past_word text)) (λ x. tt)

line_said : (line : List ℕ) → Only (said_by line)
line_said line =
    let text = past_blanks line in
    only_if {A = Option (Extent (List ℕ))} (is_skipped text) (Ok None) (said_with (access_of (word text)) text) tt (with_access (access_of (word text)) text)

all_said : (ls : List (List ℕ)) → Only (extents_of ls)
all_said [] = tt
all_said (line ∷ rest) =
    let joined : Option (Extent (List ℕ)) → List (Extent (List ℕ)) → Result (List (Extent (List ℕ))) Fault = λ found xs. Ok (option_to_list found ++ xs) in
    only_then {A = Option (Extent (List ℕ))} {B = List (Extent (List ℕ))} (said_by line) (λ found. extents_of rest >>= joined found) (line_said line)
    (λ found. only_then {A = List (Extent (List ℕ))} {B = List (Extent (List ℕ))} (extents_of rest) (joined found) (all_said rest) (λ xs. tt))

size_said : (xs : List (Extent (List ℕ))) → Only (sized xs)
size_said xs = only_if {A = List (Extent (List ℕ))} (nat_lt (size_of xs) (2 ^ 63)) (Ok xs) (Err DamagedDescriptor) tt tt

text_said : (text : List ℕ) → Only (read_from text)
text_said text =
    let said = extents_of (drop 1 (lines text)) in
    only_if {A = List (Extent (List ℕ))} (is_descriptor text) (said >>= sized) (Err DamagedDescriptor)
    (only_then {A = List (Extent (List ℕ))} {B = List (Extent (List ℕ))} said sized (all_said (drop 1 (lines text))) size_said) tt

-- No text has the fault `Storage`.
pub never_storage : (file : List ℕ) → descriptor_of file ≡ Err Storage → ⊥
never_storage file said = subst Only said (text_said (text_of file))

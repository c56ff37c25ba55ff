-- The values of the program's extents in contracts: file names are lists of bytes there.
use Rattle.std.specs.Prelude.{◌≡◌, List, ℕ, map, ◌++◌, Option, Result, Ok, Err, ◌⊎◌}
use Rattle.imago_storage.specs.Calls.{Cause}
use Rattle.imago_storage.specs.State.{MayFail, StorageState}
use Rattle.imago_storage.specs.declared.fault.Fault.{Fault}
use Rattle.imago_storage.specs.declared.fault.Fault.TheVariants.{Memory, Storage}
use Rattle.imago_formats.specs.DescriptorWords.{◌>>=◌}
use Rattle.std.specs.Option.{option_to_list}
use Rattle.std.specs.String.{string_bytes}
use Rattle.std.specs.declared.string.String.{String}
use Rattle.std.specs.declared.alloc.Global.{Global}
use denote.Ref.{Bor}
use Rattle.imago_formats.specs.Descriptor.{said_by}
use Rattle.imago_formats.specs.VmdkLayer.{file_names}
use Rattle.imago_formats.specs.declared.vmdk.descriptor.Source.{Source}
use Rattle.imago_formats.specs.declared.vmdk.descriptor.Source.TheVariants.{Flat, Zero}
use Rattle.imago_formats.specs.declared.vmdk.descriptor.Extent.{Extent}

-- The source with its file name mapped by `f`.
abbrev pub source_with : {N M : Type 0} → (N → M) → Source N → Source M
source_with f (Flat name sector) = Flat (f name) sector
source_with f Zero = Zero

abbrev pub extent_with : {N M : Type 0} → (N → M) → Extent N → Extent M
extent_with f x = record { access = x.access; sectors = x.sectors; source = source_with f x.source }

-- The source as parsed from a line.
abbrev pub seen_source : Source (Bor (List ℕ)) → Source (List ℕ)
seen_source x = source_with (λ name. name.now) x

abbrev pub seen_extent : Extent (Bor (List ℕ)) → Extent (List ℕ)
seen_extent x = extent_with (λ name. name.now) x

-- The extent as the image stores it.
abbrev pub kept_extent : Extent (String Global) → Extent (List ℕ)
kept_extent x = extent_with (λ name. string_bytes name) x

abbrev pub kept_extents : List (Extent (String Global)) → List (Extent (List ℕ))
kept_extents xs = map kept_extent xs

-- The names of the files that the extents need.
abbrev pub kept_names : List (Extent (String Global)) → List (List ℕ)
kept_names xs = map (λ name. string_bytes name) (file_names xs)

-- `new` is `old` with the extent of the line appended, if the line describes one.
abbrev pub AddsLine : List ℕ → List (Extent (List ℕ)) → List (Extent (List ℕ)) → Type 0
AddsLine line old new = (found : Option (Extent (List ℕ))) × (said_by line ≡ Ok found) × (new ≡ old ++ option_to_list found)

-- The parsed extents, appended to the earlier ones.
abbrev pub after_those : List (Extent (List ℕ)) → Result (List (Extent (List ℕ))) Fault → Result (List (Extent (List ℕ))) Fault
after_those before read = read >>= λ xs. Ok (before ++ xs)

-- The errors of reading a descriptor: memory ran out, the storage failed, or the text has this fault.
abbrev pub NotRead : Result (List (Extent (List ℕ))) Fault → StorageState → StorageState → Fault → Type 0
NotRead said old new fault = Cause old.faults new.faults fault ⊎ ((said ≡ Err fault) × (new.faults ≡ old.faults))

-- The errors of opening a descriptor, which drops its file: memory ran out, a storage that may fail has failed, or the text has this fault.
abbrev pub RefusesOpening : {S : Type 0} → (S → StorageState) → Result (List (Extent (List ℕ))) Fault → Fault → Type 0
RefusesOpening state said fault = (fault ≡ Memory) ⊎ (((fault ≡ Storage) × MayFail state) ⊎ (said ≡ Err fault))

-- The header extensions that are used, others are skipped: backing format, external data file's name, feature names.
use Rattle.std.specs.Prelude.{ℕ, ◌==◌, if◌then◌else◌, List, Option, Some, None, Result, Ok}
use Rattle.std.specs.Option.{option_copied}
use Rattle.imago_storage.specs.declared.fault.Fault.{Fault}
use Rattle.qcow2_types.specs.Header.{Extension as ExtensionPair, last_of, ◌>>=◌}
use Rattle.qcow2_metadata.specs.declared.extensions.Extension.{Extension}
use Rattle.qcow2_metadata.specs.declared.extensions.KnownExtensions.{KnownExtensions}

-- The data of the known extensions, each the last of its type.
pub record Known : Type 0 where
  pub backing_format : Option (List ℕ)
  pub data_file_name : Option (List ℕ)
  pub feature_names : Option (List ℕ)

-- The value for a header without extensions.
abbrev pub nothing_known : Known
nothing_known = record { backing_format = None; data_file_name = None; feature_names = None }

-- The data of the extension if it has this type, otherwise `before`.
abbrev pub newest : ℕ → ExtensionPair → Option (List ℕ) → Option (List ℕ)
newest kind x before = if x.0 == kind then Some x.1 else before

-- `known` with one more extension.
abbrev pub with_extension : Known → ExtensionPair → Known
with_extension known x = record {
  backing_format = newest 0xE279_2ACA x known.backing_format;
  data_file_name = newest 0x4441_5441 x known.data_file_name;
  feature_names = newest 0x6803_F857 x known.feature_names;
}

-- The known data of a list of extensions.
abbrev pub known_by : List ExtensionPair → Known
known_by xs = record {
  backing_format = last_of 0xE279_2ACA xs;
  data_file_name = last_of 0x4441_5441 xs;
  feature_names = last_of 0x6803_F857 xs;
}

-- Like `known_by`, for the result of reading the list.
abbrev pub known_of : Result (List ExtensionPair) Fault → Result Known Fault
known_of found = found >>= λ xs. Ok (known_by xs)

-- An extension as contracts see it.
abbrev pub seen_extension : Extension → ExtensionPair
seen_extension x = (x.kind, x.bytes.now)

-- The known extensions of the program, as contracts see them.
abbrev pub seen_known : KnownExtensions → Known
seen_known known = record {
  backing_format = option_copied known.backing_format;
  data_file_name = option_copied known.external_data_filename;
  feature_names = option_copied known.feature_names;
}

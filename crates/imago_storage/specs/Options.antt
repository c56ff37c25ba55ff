-- The value of `StorageOpenOptions` in contracts: one field for each option.
use Rattle.std.specs.Prelude.{Bool, List, ℕ, Option}
use Rattle.std.specs.Option.{option_map}
use Rattle.std.specs.String.{string_bytes}
use Rattle.imago_storage.specs.declared.options.StorageOpenOptions.TheInside.{Inside}

pub record OpenOptions : Type 0 where
  pub filename : Option (List ℕ)
  pub writable : Bool
  pub direct : Bool

abbrev pub seen_open : Inside → OpenOptions
seen_open o = record { filename = option_map string_bytes o.filename; writable = o.writable; direct = o.direct }

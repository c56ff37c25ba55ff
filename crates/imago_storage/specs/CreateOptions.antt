-- The value of `StorageCreateOptions` in contracts: one field for each option.
use Rattle.std.specs.Prelude.{ℕ, Bool}
use Rattle.imago_storage.specs.Options.{OpenOptions}
use Rattle.imago_storage.specs.declared.storage.PreallocateMode.{PreallocateMode}
use Rattle.imago_storage.specs.declared.options.StorageCreateOptions.TheInside.{Inside}

pub record CreateOptions : Type 0 where
  pub opening : OpenOptions
  pub size : ℕ
  pub preallocate : PreallocateMode
  pub overwrite : Bool

abbrev pub seen_create : Inside → CreateOptions
seen_create o = record { opening = o.opening; size = o.size; preallocate = o.preallocate; overwrite = o.overwrite }

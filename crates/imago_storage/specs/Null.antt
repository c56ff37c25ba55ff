-- The state of a storage that keeps no data.
use Rattle.std.specs.Prelude.{None, [], false, replicate, ℕ}
use Rattle.std.proofs.Common.{lit<, lit≤, refl}
use Rattle.imago_storage.specs.State.{Shape, StorageState, IsAlignment, IsAligned}
use Rattle.imago_storage.specs.declared.null.Null.{Null}

-- The fixed properties of a storage that keeps no data.
abbrev pub null_shape : Shape
null_shape = record {
  keeps = false;
  tells = false;
  mem_align = 1;
  req_align = 1;
  zero_align = 1;
  discard_align = 1;
  filename = None;
}

-- The state with `size` bytes that are all 0.
abbrev pub zeroes : ℕ → StorageState
zeroes size = record {
  shape = null_shape;
  bytes = replicate size 0;
  faults = 0;
  refusals = 0;
  crash_image = [];
  past_crash_images = [];
}

-- The state of a `Null`.
unfoldable pub null_state : Null → StorageState
null_state n = zeroes n.size

pub one_aligned : IsAlignment 1
one_aligned = record { positive = lit< tt; small = lit≤ tt; divides = refl }

-- All alignments are 1.
pub null_aligned : (n : Null) → IsAligned (null_state n).shape
unfolding null_state
null_aligned n = record { memory = one_aligned; requests = one_aligned; zeroes = one_aligned; discards = one_aligned }

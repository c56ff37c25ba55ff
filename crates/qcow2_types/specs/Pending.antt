-- The value that contracts use for pending clusters (allocated, and not yet referenced) and for clusters to free (no longer referenced, but
-- their refcount is still above 0).
use Rattle.std.specs.Prelude.{ℕ, Bool}

-- consecutive host clusters; `metadata` is true if they hold metadata, and false if they hold guest data
pub record FreeEntry : Type 0 where
  pub first : ℕ
  pub count : ℕ
  pub metadata : Bool

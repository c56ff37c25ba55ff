-- The writable locations of a raw image: the storage and offset where a guest byte can be overwritten directly.
use Rattle.std.proofs.Common.{◌≡◌, ℕ, ap}
use Rattle.std.specs.Prelude.{Bool, true, false, ◌&&◌, Some, None, if◌then◌else◌, ltb, IsTrue}

-- A location of the storage belongs to at most one offset of the disk.
pub one_writable_location : (size : ℕ) (writable : Bool) (p q : ℕ) (at : ℕ × ℕ)
    → (if ltb p size && writable then Some (0, p) else None) ≡ Some at
    → (if ltb q size && writable then Some (0, q) else None) ≡ Some at → p ≡ q
one_writable_location size writable p q at first second = from (ltb p size && writable) (ltb q size && writable) first second where
  from : (a b : Bool) → (if a then Some (0, p) else None) ≡ Some at → (if b then Some (0, q) else None) ≡ Some at → p ≡ q
  from true true first second = let is : ◌≡◌ {A = ℕ × ℕ} (0, p) (0, q) = cc in ap (λ (x : ℕ × ℕ). x.1) is
  from true false first second = absurd (cc second)
  from false b first second = absurd (cc first)

-- A false condition implies anything.
pub never : {A : Type 0} → IsTrue false → A
never states = absurd (cc states)

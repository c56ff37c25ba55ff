-- Zeroes were stored in new clusters: in as many as asked, or in a single one.
use Rattle.std.proofs.Common.{◌≡◌, ℕ, ◌+◌, ◌-◌, ◌*◌, ◌/◌, ◌^◌, ◌<◌, ◌≤◌, arith, ap, subst, ◌∙◌, true, false, List, length, replicate, Result, Ok, Err}
use Rattle.std.specs.Prelude.{IfOk, slice_index}
use Rattle.std.proofs.Math.Nat.{add-mul, div-lt_iff_lt-mul, div-mul-le_self, mul-le-mul_right}
use Rattle.std.proofs.lemmas.List.{length-replicate}
use Rattle.std.proofs.lemmas.Nat.{pow_pos}
use Rattle.imago_storage.specs.declared.fault.Fault.{Fault}
use Rattle.imago_storage.specs.declared.fault.Fault.TheVariants.{Limit}
use Rattle.imago_storage.specs.declared.storage.Storage.{Ghosts}
use Rattle.imago_storage.proofs.Zeroes.{zero_at}
use Rattle.qcow2_types.specs.Bytes.{Bytes}
use Rattle.qcow2_types.specs.Header.{cluster_size}
use Rattle.qcow2_image.specs.Allocating.{StoresContent, StoresMost, full_by, placed_by}
use Rattle.qcow2_image.specs.Growing.{IsWithin, StoresZeroes}
use Rattle.qcow2_image.specs.Seen.{file_of}
use Rattle.qcow2_image.specs.declared.allocating.Placed.{Placed}
use Rattle.qcow2_image.specs.declared.qcow2.Qcow2.{Qcow2}
use Rattle.qcow2_image.proofs.ClusterSteps.{most-behind, most-done, most-once}

-- The bytes of consecutive clusters are 0.
run-bytes : (f : Bytes) (host count size : ℕ) (bytes : List ℕ) → 0 < size → count * size ≤ length bytes → ((k : ℕ) → slice_index bytes k ≡ 0)
    → ((i : ℕ) → i < length bytes → f (host * size + i) ≡ slice_index bytes i) → (q : ℕ) → IsWithin host (host + count) (q / size) → f q ≡ 0
run-bytes f host count size bytes some long zero content q within =
    let row : q / size * size ≤ q = div-mul-le_self q size in
    let from : host * size ≤ q / size * size = mul-le-mul_right size within.0 in
    let to : q < (host + count) * size = (div-lt_iff_lt-mul some).0 within.1 in
    let parts : (host + count) * size ≡ host * size + count * size = add-mul host count size in
    let same : host * size + (q - host * size) ≡ q = omega (arith, row, from) in
    subst (λ k. f k ≡ 0) same (content (q - host * size) (omega (arith, row, from, to, parts, long)) ∙ zero (q - host * size))

module _ {S : Type 0} (g : Ghosts S) (n : ℕ) (old : Qcow2 S g) where
  abbrev unit : ℕ
  unit = cluster_size old.tables.file.header.fields

  zeroed-by : (bytes : List ℕ) → ((k : ℕ) → slice_index bytes k ≡ 0) → (new : Qcow2 S g) (r : Result Placed Fault)
      → IfOk r (λ p. p.count * unit ≤ length bytes)
      → IfOk r (λ p. (i : ℕ) → i < length bytes → file_of g new.tables (p.host * unit + i) ≡ slice_index bytes i)
      → IfOk r (λ p. (q : ℕ) → IsWithin p.host (p.host + p.count) (q / unit) → file_of g new.tables q ≡ 0)
  zeroed-by bytes zero new (Ok p) long content =
      run-bytes (file_of g new.tables) p.host p.count unit bytes (pow_pos old.tables.file.header.fields.cluster_bits) long zero content
  zeroed-by bytes zero new (Err fault) long content = tt

  -- All bytes that were stored are zeroes.
  zeroes-most : (bytes : List ℕ) → ((k : ℕ) → slice_index bytes k ≡ 0) → (r : Result Placed Fault) (new : Qcow2 S g)
      → IfOk r (λ p. p.count * unit ≤ length bytes) → StoresMost g n bytes old r new → StoresZeroes g n old r new
  zeroes-most bytes zero r new long s = record {
    keeps = s.keeps;
    leaks = s.leaks;
    top = s.top;
    unkept = s.unkept;
    many = s.many;
    named = s.named;
    reserved = s.reserved;
    reaches = s.reaches;
    zeroed = λ well_formed. zeroed-by bytes zero new r long (s.content well_formed);
    cause = s.cause;
  }

  abbrev zeroes : ℕ → List ℕ
  zeroes count = replicate (count * unit) 0

  placed-long : (count : ℕ) (r : Result ℕ Fault) → IfOk (placed_by count r) (λ p. p.count * unit ≤ length (zeroes count))
  placed-long count (Ok host) =
      let long : length (replicate {A = ℕ} (count * unit) 0) ≡ count * unit = length-replicate {A = ℕ} (count * unit) 0 in
      omega (arith, long)
  placed-long count (Err fault) = tt

  -- Nothing was stored. This is the same for any bytes.
  none-stored : (bytes bytes' : List ℕ) (mid : Qcow2 S g) (fault : Fault) → StoresContent g n bytes old (Err fault) mid
      → StoresContent g n bytes' old (Err fault) mid
  none-stored bytes bytes' mid fault s = record {
    keeps = s.keeps;
    leaks = s.leaks;
    top = s.top;
    named = tt;
    reserved = λ well_formed. tt;
    reaches = tt;
    content = λ well_formed. tt;
    cause = s.cause;
  }

  unstored : (mid : Qcow2 S g) (r : Result ℕ Fault) → full_by r ≡ true → StoresContent g n (zeroes n) old r mid
      → StoresContent g n (zeroes 1) old r mid
  unstored mid (Err (Limit number)) is s = none-stored (zeroes n) (zeroes 1) mid (Limit number) s
  unstored mid r is s = absurd (cc is)

  -- The call before kept the cluster size.
  mid-bits : (mid : Qcow2 S g) (r : Result ℕ Fault) → StoresContent g n (zeroes n) old r mid
      → cluster_size mid.tables.file.header.fields ≡ unit
  mid-bits mid r s = ap (λ (b : ℕ). 2 ^ b) s.keeps.bits

  module _ (some : 0 < n) where
    pub zeroes-once : (new : Qcow2 S g) (stored : Result ℕ Fault) → n ≡ 1 → StoresContent g n (zeroes n) old stored new
        → StoresZeroes g n old (placed_by n stored) new
    zeroes-once new stored one s = zeroes-most (zeroes n) (zero_at (n * unit)) (placed_by n stored) new (placed-long n stored)
        (most-once g n (zeroes n) old some new stored one s)

    pub zeroes-done : (new : Qcow2 S g) (stored : Result ℕ Fault) → full_by stored ≡ false → StoresContent g n (zeroes n) old stored new
        → StoresZeroes g n old (placed_by n stored) new
    zeroes-done new stored is s = zeroes-most (zeroes n) (zero_at (n * unit)) (placed_by n stored) new (placed-long n stored)
        (most-done g n (zeroes n) old some new stored is s)

    -- No run was free, so a single cluster was tried.
    pub zeroes-alone : (mid new : Qcow2 S g) (stored one : Result ℕ Fault) → full_by stored ≡ true → StoresContent g n (zeroes n) old stored mid
        → StoresContent g 1 (replicate (1 * cluster_size mid.tables.file.header.fields) 0) mid one new → StoresZeroes g n old (placed_by 1 one) new
    zeroes-alone mid new stored one is s t =
        zeroes-most (zeroes 1) (zero_at (1 * unit)) (placed_by 1 one) new (placed-long 1 one)
        (most-behind g n (zeroes 1) old some mid new stored one is (unstored mid stored is s)
        (subst (λ (k : ℕ). StoresContent g 1 (replicate (1 * k) 0) mid one new) (mid-bits mid stored s) t))

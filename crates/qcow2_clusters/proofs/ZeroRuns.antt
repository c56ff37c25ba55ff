-- Zeroes are written over consecutive clusters.
use Rattle.std.proofs.Common.{◌≡◌, ℕ, ◌+◌, ◌-◌, ◌*◌, ◌<◌, ◌≤◌, refl, arith, ap, subst, ◌∙◌, List, [], length, replicate, Result, Ok, Err}
use Rattle.std.specs.Prelude.{IfErr, OnOk, slice_index}
use Rattle.std.proofs.lemmas.List.{length-replicate}
use Rattle.std.proofs.Math.Pow.{pow_mono}
use Rattle.std.proofs.lemmas.Nat.{mul-le, pow_pos}
use Rattle.std.proofs.Math.Nat.{add-mul}
use Rattle.imago_storage.specs.State.{IsAlignment, StorageState, unit_of}
use Rattle.imago_storage.specs.Calls.{CountsNotFallen, OldOrNewBytes}
use Rattle.imago_storage.specs.Through.{EachCrashImage, NotZeroed, WriteFailed, WriteOutcome, WriteSucceeded}
use Rattle.imago_storage.specs.declared.fault.Fault.{Fault}
use Rattle.imago_storage.specs.declared.fault.Fault.TheVariants.{Unsupported}
use Rattle.imago_storage.proofs.Composing.{keeps_on}
use Rattle.imago_storage.proofs.Once.{put-below}
use Rattle.qcow2_types.specs.Bytes.{bytes_of}
use Rattle.qcow2_types.specs.Header.{Header, cluster_size}
use Rattle.qcow2_metadata.specs.Places.{IsAddressable}
use Rattle.qcow2_alloc.specs.declared.file.ImageFile.{ImageFile}
use Rattle.qcow2_clusters.specs.Flushed.{Clusters, clusters_state, storage}
use Rattle.qcow2_clusters.specs.Storing.{StoresRun, ZeroesRun}
use Rattle.qcow2_clusters.proofs.FileEnds.{ends-low, put-reaches}
use Rattle.qcow2_clusters.proofs.RunWrites.{run-unwritten, run-written}

-- The clauses of a call that writes `count` zeroes.
abbrev pub Zeroed : Result Unit Fault → (before after : StorageState) → (at count : ℕ) → Type 0
Zeroed r before after at count = OnOk r (WriteSucceeded before after at (replicate count 0))
    × IfErr r (WriteFailed before after at (replicate count 0))
    × EachCrashImage (OldOrNewBytes before.bytes at (replicate count 0)) before after
    × (after.shape ≡ before.shape) × CountsNotFallen before after × IsAlignment (unit_of before.shape)

-- The storage supports allocated zeroes, but the call failed.
pub not-zeroed : (before after : StorageState) (at count : ℕ) (fault : Fault) → (fault ≡ Unsupported → ⊥)
    → NotZeroed before after at count fault → WriteFailed before after at (replicate count 0) fault
not-zeroed before after at count Unsupported other why = absurd (other refl)
not-zeroed before after at count fault other why = why

-- The storage doesn't support allocated zeroes, and nothing has changed.
pub left-as : (before after : StorageState) (at count : ℕ) (fault : Fault) → fault ≡ Unsupported → NotZeroed before after at count fault
    → after ≡ before
left-as before after at count fault is why = (subst (NotZeroed before after at count) is why).1

-- The zeroes are written from the start of the first cluster to the end of the last.
pub run-zeroed : {S : Type 0} (state : S → StorageState) (x n : ℕ) (before : ImageFile S) (r : Result Unit Fault) (after : ImageFile S)
    (start end : ℕ) → 0 < n → before.header.fields.cluster_bits ≤ 21 → IsAddressable before.header.fields.cluster_bits (x + (n - 1))
    → start ≡ x * cluster_size before.header.fields → end ≡ (x + n) * cluster_size before.header.fields → after.header ≡ before.header
    → Zeroed r (state before.image) (state after.image) start (end - start) → ZeroesRun state x n before r after
run-zeroed state x n before r after start end some high reach first last header zeroed =
    let s = state before.image in
    let t = state after.image in
    let parts : (x + n) * cluster_size before.header.fields ≡ x * cluster_size before.header.fields + n * cluster_size before.header.fields =
    add-mul x n (cluster_size before.header.fields) in
    let one : 1 * 1 ≤ n * cluster_size before.header.fields =
    mul-le 1 1 n (cluster_size before.header.fields) (omega (arith, some)) (pow_pos before.header.fields.cluster_bits) in
    let low = ends-low x n before.header.fields.cluster_bits some (pow_mono high) reach in
    let all : end - start ≡ n * cluster_size before.header.fields = omega (arith, parts, first, last) in
    let long : length (replicate {A = ℕ} (end - start) 0) ≡ end - start = length-replicate {A = ℕ} (end - start) 0 in
    let put : WriteOutcome s t start (replicate (end - start) 0) r =
    put-below r s t start (replicate (end - start) 0) zeroed.5 (omega (arith, long, low, parts, first, last)) zeroed.0 zeroed.1 zeroed.2
    zeroed.3 zeroed.4 in
    record {
      put = subst (λ k. WriteOutcome s t k (replicate (n * cluster_size before.header.fields) 0) r) first
          (subst (λ k. WriteOutcome s t start (replicate k 0) r) all put);
      header = header;
      long = put-reaches r s t start (replicate (end - start) 0) ((x + n) * cluster_size before.header.fields)
          (omega (arith, long, all, one)) zeroed.5 (omega (arith, long, parts, first, last)) zeroed.0;
    }

-- No clusters were allocated, so no bytes are stored.
pub run-unstored : {S : Type 0} (state : S → StorageState) (n : ℕ) (c c' : Clusters S) (fault : Fault) → StoresRun state n [] c (Err fault) c'
    → (content : List ℕ) → StoresRun state n content c (Err fault) c'
run-unstored state n c c' fault run content = record {
  progress = run.progress;
  rests = run.rests;
  held = run.held;
  l1 = run.l1;
  named = tt;
  unused = λ ready. tt;
  reserved = λ ready. tt;
  stored = λ ready. tt;
  leaves = λ ready. tt;
  marked = run.marked;
  cause = run.cause;
}

-- Zeroes are written over clusters that were reserved in a flushed image.
module _ {S : Type 0} (state : S → StorageState) (n : ℕ) (some : 0 < n) (x : ℕ) (c mid : Clusters S)
    (run : StoresRun state n [] c (Ok x) mid) (after : ImageFile S) where
  abbrev size : ℕ
  size = cluster_size mid.file.header.fields

  within : x * size + length (replicate {A = ℕ} (n * size) 0) ≤ (x + (n - 1) + 1) * size
  within =
      let long : length (replicate {A = ℕ} (n * size) 0) ≡ n * size = length-replicate {A = ℕ} (n * size) 0 in
      let same : x + (n - 1) + 1 ≡ x + n = omega (arith, some) in
      let parts : (x + n) * size ≡ x * size + n * size = add-mul x n size in
      rw same (omega (arith, long, parts))

  sized : size ≡ cluster_size c.file.header.fields
  sized = ap (λ (H : Header). cluster_size H.fields) run.rests.header.2

  pub run-zeroes : ZeroesRun state x n mid.file (Ok tt) after
      → StoresRun state n (replicate (n * cluster_size c.file.header.fields) 0) c (Ok x) (clusters_state after mid.caches mid.space)
  run-zeroes zeroes = subst (λ k. StoresRun state n (replicate (n * k) 0) c (Ok x) (clusters_state after mid.caches mid.space)) sized
      (run-written state n some [] x c mid run after zeroes.header (x * size) (replicate (n * size) 0) (omega arith) within zeroes.put
      (replicate (n * size) 0)
      (λ ready i lt. subst (λ k. bytes_of (state after.image).bytes (x * k + i) ≡ slice_index (replicate {A = ℕ} (n * size) 0) i) sized
      (let spliced = zeroes.put.answer.content (keeps_on (storage state c) (storage state mid) run.rests.shape ready.keeps) in
      let there : x * size ≤ x * size + i = omega arith in
      let upto : x * size + i < x * size + length (replicate {A = ℕ} (n * size) 0) = omega (arith, lt) in
      let same : x * size + i - x * size ≡ i = omega arith in
      spliced.inside (x * size + i) there upto ∙ ap (λ k. slice_index (replicate {A = ℕ} (n * size) 0) k) same)))

  -- The write fails, and the clusters leak.
  pub run-unzeroed : (fault : Fault) → ZeroesRun state x n mid.file (Err fault) after → (held : ℕ) → held ≡ c.space.to_free.held
      → StoresRun state n (replicate (n * cluster_size c.file.header.fields) 0) c (Err fault)
      (clusters_state after mid.caches (record {
        allocator = mid.space.allocator;
        to_free = record { entries = mid.space.to_free.entries; held = held };
      }))
  run-unzeroed fault zeroes =
      run-unwritten state n some [] x c mid run after zeroes.header (x * size) (replicate (n * size) 0) (omega arith) within fault zeroes.put
      (replicate (n * cluster_size c.file.header.fields) 0)

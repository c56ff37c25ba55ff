-- Files that reach the end of consecutive clusters.
use Rattle.std.proofs.Common.{◌≡◌, ℕ, ◌+◌, ◌-◌, ◌*◌, ◌^◌, ◌<◌, ◌≤◌, max, refl, arith, ap, sym, ◌∙◌, inl, inr, List, [], length, replicate, Result, Ok, Err}
use Rattle.std.specs.Prelude.{IsTrue, OnOk, slice_index}
use Rattle.std.proofs.lemmas.Bool.{cases_lt}
use Rattle.std.proofs.lemmas.List.{get_or_past, length-replicate}
use Rattle.std.proofs.lemmas.Nat.{mul-le, pow_pos}
use Rattle.std.proofs.Math.Nat.{add-mul, le-max_right, mul-le-mul_right}
use Rattle.imago_storage.specs.State.{IsAlignment, StorageState, unit_of}
use Rattle.imago_storage.specs.Calls.{Spliced}
use Rattle.imago_storage.specs.Through.{WriteOutcome, WriteSucceeded, round_up}
use Rattle.imago_storage.specs.declared.fault.Fault.{Fault}
use Rattle.imago_storage.proofs.Composing.{keeps_on, later_same, no_stops}
use Rattle.imago_storage.proofs.Rounding.{le_round_up}
use Rattle.imago_storage.proofs.Zeroes.{zero_at}
use Rattle.qcow2_types.specs.Header.{cluster_size}
use Rattle.qcow2_metadata.specs.Places.{IsAddressable}
use Rattle.qcow2_alloc.specs.declared.file.ImageFile.{ImageFile}
use Rattle.qcow2_clusters.specs.Flushed.{Clusters, clusters_state, storage}
use Rattle.qcow2_clusters.specs.Storing.{ReachesEnd, ReachesRun, StoresRun}
use Rattle.qcow2_clusters.proofs.RunWrites.{run-unwritten, run-written}

-- The end of consecutive clusters.
pub ends-at : (x n size : ℕ) → 0 < n → (x + n) * size ≡ (x + (n - 1)) * size + size
ends-at x n size some =
    let one : x + n ≡ x + (n - 1) + 1 = omega (arith, some) in
    let parts : (x + (n - 1) + 1) * size ≡ (x + (n - 1)) * size + 1 * size = add-mul (x + (n - 1)) 1 size in
    ap (λ k. k * size) one ∙ (let sum : (x + (n - 1) + 1) * size ≡ (x + (n - 1)) * size + size = omega (arith, parts) in sum)

-- An addressable run ends below 2^63.
pub ends-low : (x n bits : ℕ) → 0 < n → 2 ^ bits ≤ 2 ^ 21 → IsAddressable bits (x + (n - 1)) → (x + n) * 2 ^ bits ≤ 2 ^ 63
ends-low x n bits some most reach =
    let whole = ends-at x n (2 ^ bits) some in
    omega (arith, whole, most, reach)

pub ends-near : (x n bits : ℕ) → 0 < n → IsAddressable bits (x + (n - 1)) → x + n < 2 ^ 64
ends-near x n bits some reach =
    let more : (x + (n - 1)) * 1 ≤ (x + (n - 1)) * 2 ^ bits = mul-le (x + (n - 1)) 1 (x + (n - 1)) (2 ^ bits) (omega arith) (pow_pos bits) in
    omega (arith, more, reach, some)

-- After a successful write the file reaches its end.
pub put-reaches : (r : Result Unit Fault) (old new : StorageState) (at : ℕ) (bytes : List ℕ) (end : ℕ) → 0 < length bytes → IsAlignment (unit_of old.shape)
    → end ≡ at + length bytes → OnOk r (WriteSucceeded old new at bytes) → OnOk r (end ≤ length new.bytes)
put-reaches (Ok v) old new at bytes end some alignment is through =
    let up = le_round_up (unit_of old.shape) (at + length bytes) alignment.positive in
    let most : round_up (unit_of old.shape) (at + length bytes) ≤ max (length old.bytes) (round_up (unit_of old.shape) (at + length bytes)) =
    le-max_right (length old.bytes) (round_up (unit_of old.shape) (at + length bytes)) in
    let size = through.size some in
    omega (arith, up, most, size, is)
put-reaches (Err e) old new at bytes end some alignment is not = tt

-- A write of no bytes makes no request.
pub put-nothing : (s : StorageState) (at : ℕ) → WriteOutcome {T = Unit} s s at [] (Ok tt)
put-nothing s at = record {
  answer = record {
    shape = refl;
    faults = refl;
    refusals = refl;
    nothing = λ none. refl;
    content = λ keeps. record { before = λ k lt. refl; inside = λ k from to. absurd (let less : k < at + 0 = to in omega (arith, from, less)); after = λ k from. refl };
    size = λ some. absurd (let none : 0 < 0 = some in omega (arith, none));
    crash_image_is_bytes = λ same. same;
    crash_images = no_stops _ s s refl refl;
    as_long = no_stops _ s s refl refl;
  };
  crash_images = no_stops _ s s refl refl;
  shape = refl;
  counts_not_fallen = later_same s;
}

-- Zeroes after the end of a file change none of its bytes.
zeroes-same : (old new : List ℕ) (from n : ℕ) → length old ≤ from → Spliced old from (replicate n 0) new → (p : ℕ) → slice_index new p ≡ slice_index old p
zeroes-same old new from n behind spliced p =
    let long : length (replicate {A = ℕ} n 0) ≡ n = length-replicate {A = ℕ} n 0 in
    elim (cases_lt p from) [
      | inl before ↦ spliced.before p before
      | inr there ↦ elim (cases_lt p (from + n)) [
        | inl inside ↦ spliced.inside p there (omega (arith, inside, long)) ∙ zero_at n (p - from) ∙ sym (get_or_past old p 0 (omega (arith, behind, there)))
        | inr after ↦ spliced.after p (omega (arith, after, long))
      ]
    ]

-- The file is long enough already.
pub reached-before : {S : Type 0} (state : S → StorageState) (x n : ℕ) (file : ImageFile S) → ReachesEnd state x n file file → ReachesRun state x n file (Ok tt) file
reached-before state x n file long = record {
  place = x * cluster_size file.header.fields;
  bytes = [];
  low = omega arith;
  high =
      let le : x * cluster_size file.header.fields ≤ (x + n) * cluster_size file.header.fields = mul-le-mul_right (cluster_size file.header.fields) (omega arith) in
      let sum : x * cluster_size file.header.fields + 0 ≤ (x + n) * cluster_size file.header.fields = omega (arith, le) in sum;
  put = put-nothing (state file.image) (x * cluster_size file.header.fields);
  header = refl;
  same = λ keeps p. refl;
  long = long;
}

-- Zeroes are written after its end.
pub zeroes-reach : {S : Type 0} (state : S → StorageState) (x n : ℕ) (before : ImageFile S) (r : Result Unit Fault) (after : ImageFile S) (from count : ℕ)
    → x * cluster_size before.header.fields ≤ from → length (state before.image).bytes ≤ from → 0 < count
    → from + count ≡ (x + n) * cluster_size before.header.fields → after.header ≡ before.header → IsAlignment (unit_of (state before.image).shape)
    → OnOk r (WriteSucceeded (state before.image) (state after.image) from (replicate count 0))
    → WriteOutcome (state before.image) (state after.image) from (replicate count 0) r → ReachesRun state x n before r after
zeroes-reach state x n before r after from count low behind some end header alignment ok put =
    let long : length (replicate {A = ℕ} count 0) ≡ count = length-replicate {A = ℕ} count 0 in
    record {
      place = from;
      bytes = replicate count 0;
      low = low;
      high = omega (arith, long, end);
      put = put;
      header = header;
      same = λ keeps. by r ok keeps;
      long = put-reaches r (state before.image) (state after.image) from (replicate count 0) ((x + n) * cluster_size before.header.fields) (omega (arith, long, some))
          alignment (omega (arith, long, end)) ok;
    }
  where
    by : (r : Result Unit Fault) → OnOk r (WriteSucceeded (state before.image) (state after.image) from (replicate count 0)) → IsTrue (state before.image).shape.keeps
        → OnOk r ((p : ℕ) → slice_index (state after.image).bytes p ≡ slice_index (state before.image).bytes p)
    by (Ok v) through keeps = zeroes-same (state before.image).bytes (state after.image).bytes from count behind (through.content keeps)
    by (Err e) not keeps = tt

-- The file reaches the end of the clusters, and the data is still stored.
module _ {S : Type 0} (state : S → StorageState) (n : ℕ) (some : 0 < n) (content : List ℕ) (x : ℕ) (c mid : Clusters S)
    (run : StoresRun state n content c (Ok x) mid) (after : ImageFile S) where
  fits : (k : ℕ) → k ≤ (x + n) * cluster_size mid.file.header.fields → k ≤ (x + (n - 1) + 1) * cluster_size mid.file.header.fields
  fits k le = let same : x + (n - 1) + 1 ≡ x + n = omega (arith, some) in rw same le

  pub run-reaches : ReachesRun state x n mid.file (Ok tt) after → StoresRun state n content c (Ok x) (clusters_state after mid.caches mid.space)
  run-reaches reach =
      run-written state n some content x c mid run after reach.header reach.place reach.bytes reach.low (fits (reach.place + length reach.bytes) reach.high) reach.put content
      (λ ready i lt. reach.same (keeps_on (storage state c) (storage state mid) run.rests.shape ready.keeps) (x * cluster_size c.file.header.fields + i) ∙ run.stored ready i lt)

  -- The file doesn't reach the end, and the clusters leak.
  pub run-short : (fault : Fault) → ReachesRun state x n mid.file (Err fault) after → (held : ℕ) → held ≡ c.space.to_free.held → StoresRun state n content c (Err fault)
      (clusters_state after mid.caches (record { allocator = mid.space.allocator; to_free = record { entries = mid.space.to_free.entries; held = held } }))
  run-short fault reach =
      run-unwritten state n some content x c mid run after reach.header reach.place reach.bytes reach.low (fits (reach.place + length reach.bytes) reach.high) fault reach.put content

-- Runs of clusters with refcount 0, during a search.
use Rattle.std.proofs.Common.{◌≡◌, ℕ, ◌+◌, ◌*◌, ◌/◌, ◌%◌, ◌^◌, ◌<◌, ◌≤◌, refl, arith, ap, subst, sym, ◌∙◌, List, length, inl, inr, true, false}
use Rattle.std.specs.Prelude.{◌==◌, Bool, if◌then◌else◌, slice_index}
use Rattle.std.proofs.lemmas.Bool.{cases_lt, eqb-true, eqb-false}
use Rattle.std.proofs.Math.Nat.{div-mul-le_self, mul-le-mul, mul-le-mul_right, lt-div-mul-add}
use Rattle.std.proofs.Math.Pow.{pow_mono}
use Rattle.qcow2_alloc.specs.declared.allocation.searching.Run.{Run}
use Rattle.qcow2_alloc.specs.Scanning.{next_of, IsRunSoFar, Scans}
use Rattle.qcow2_alloc.specs.SearchingClusters.{IsFirstRun}

-- The numbers of the clusters that a table's blocks count fit in 64 bits.
pub few-clusters : (i k raw_entries bits : ℕ) → i < raw_entries → raw_entries ≤ 2 ^ 20 → 2 ^ bits ≡ k → bits ≤ 24 → (i + 1) * k < 2 ^ 64
few-clusters i k raw_entries bits inside few size least =
    let most : 2 ^ bits ≤ 2 ^ 24 = pow_mono least in
    let up : i + 1 ≤ 2 ^ 20 = omega (arith, inside, few) in
    let wide : k ≤ 2 ^ 24 = omega (arith, most, size) in
    let both : (i + 1) * k ≤ 2 ^ 20 * 2 ^ 24 = mul-le-mul up wide in
    omega (arith, both)

-- The index of a cluster's block, and the cluster's index in the block.
pub indices : (x next bits k : ℕ) (pair : ℕ × ℕ) → pair ≡ (x / 2 ^ bits, x % 2 ^ bits) → x ≡ next → 2 ^ bits ≡ k → (pair.0 ≡ next / k) × (pair.1 ≡ next % k)
indices x next bits k pair is at size =
    (ap (λ (p : ℕ × ℕ). p.0) is ∙ ap (λ n. n / 2 ^ bits) at ∙ ap (λ n. next / n) size, ap (λ (p : ℕ × ℕ). p.1) is ∙ ap (λ n. n % 2 ^ bits) at ∙ ap (λ n. next % n) size)

-- A cluster is before the next block, which begins at or before the end.
pub block-behind : (next end k : ℕ) → 0 < k → next / k < end → (next < (next / k + 1) * k) × ((next / k + 1) * k ≤ end * k)
block-behind next end k some inside =
    let below = lt-div-mul-add {a = next} some in
    let up : next / k + 1 ≤ end = omega (arith, inside) in
    (omega (arith, below), mul-le-mul_right k up)

pub blocks-before : (next end k : ℕ) → end ≤ next / k → end * k ≤ next
blocks-before next end k past =
    let whole = div-mul-le_self next k in
    let all : end * k ≤ next / k * k = mul-le-mul_right k past in
    omega (arith, whole, all)

-- An empty run that begins at a cluster.
abbrev pub none_from : ℕ → Run
none_from first = record { first = first; len = 0 }

-- The run, extended by `k` clusters.
abbrev pub longer : Run → ℕ → Run
longer run k = record { first = run.first; len = run.len + k }

-- The run, once the next cluster is known to be free or not.
abbrev pub run_then : Run → Bool → Run
run_then run is_free = if is_free then longer run 1 else none_from (next_of run + 1)

-- Runs depend only on refcounts.
pub run-same : (counts counts' : ℕ → ℕ) (from n : ℕ) (run : Run) → ((c : ℕ) → counts' c ≡ counts c) → IsRunSoFar counts from n run → IsRunSoFar counts' from n run
run-same counts counts' from n run same so_far = record {
  not_before_start = so_far.not_before_start;
  free = λ c ge lt. same c ∙ so_far.free c ge lt;
  least = λ z ge lt. let found = so_far.least z ge lt in (found.0, found.1, found.2, subst (λ k. 0 < k) (sym (same found.0)) found.3);
}

module _ (counts : ℕ → ℕ) (from n : ℕ) where
  -- The search begins with an empty run.
  pub run-none : IsRunSoFar counts from n (none_from from)
  run-none = record { not_before_start = omega arith; free = λ c ge lt. absurd (omega (arith, ge, lt)); least = λ z ge lt. absurd (omega (arith, ge, lt)) }

  -- Clusters with refcount 0 after the run extend it.
  pub run-longer : (run : Run) (k : ℕ) → ((c : ℕ) → next_of run ≤ c → c < next_of run + k → counts c ≡ 0) → IsRunSoFar counts from n run → IsRunSoFar counts from n (longer run k)
  run-longer run k none so_far = record {
    not_before_start = so_far.not_before_start;
    free = λ c ge lt. elim (cases_lt c (next_of run)) [ inl inside ↦ so_far.free c ge inside | inr past ↦ none c past (omega (arith, lt)) ];
    least = so_far.least;
  }

  -- After a counted cluster, a new run begins, if the old one is too short.
  pub run-anew : (run : Run) → run.len < n → 0 < counts (next_of run) → IsRunSoFar counts from n run → IsRunSoFar counts from n (none_from (next_of run + 1))
  run-anew run short some so_far = record {
    not_before_start = let was = so_far.not_before_start in omega (arith, was);
    free = λ c ge lt. absurd (omega (arith, ge, lt));
    least = λ z ge lt. elim (cases_lt z run.first) [
      | inl before ↦ so_far.least z ge before
      | inr inside ↦ (next_of run, omega (arith, lt), omega (arith, inside, short), some)
    ];
  }

  -- A run that is long enough is the first one.
  pub run-found : (run : Run) → n ≤ run.len → IsRunSoFar counts from n run → IsFirstRun counts from n run.first
  run-found run long so_far = record { not_before_start = so_far.not_before_start; free = λ c ge lt. so_far.free c ge (omega (arith, lt, long)); least = so_far.least }

  -- A run after which nothing is counted is the first one, too.
  pub run-last : (run : Run) → ((c : ℕ) → next_of run ≤ c → counts c ≡ 0) → IsRunSoFar counts from n run → IsFirstRun counts from n run.first
  run-last run none so_far = record {
    not_before_start = so_far.not_before_start;
    free = λ c ge lt. elim (cases_lt c (next_of run)) [ inl inside ↦ so_far.free c ge inside | inr past ↦ none c past ];
    least = so_far.least;
  }

  run-next : (run : Run) (is_free : Bool) → run.len < n → (is_free ≡ true → counts (next_of run) ≡ 0) → (is_free ≡ false → 0 < counts (next_of run)) → IsRunSoFar counts from n run → IsRunSoFar counts from n (run_then run is_free)
  run-next run true short free counted so_far = run-longer run 1 (λ c ge lt. let here : next_of run ≡ c = omega (arith, ge, lt) in subst (λ d. counts d ≡ 0) here (free refl)) so_far
  run-next run false short free counted so_far = run-anew run short (counted refl) so_far

module _ (counters : List ℕ) (n index : ℕ) where
  -- No counter is scanned yet.
  pub scans-none : (was : Run) → Scans counters n index index was was
  scans-none was = record { moved = refl; rising = omega arith; so_far = λ counts from base at counted so_far. so_far }

  rising-next : (run : Run) (is_free : Bool) → run.first ≤ (run_then run is_free).first
  rising-next run true = omega arith
  rising-next run false = omega arith

  moved-next : (run : Run) (is_free : Bool) → next_of (run_then run is_free) ≡ next_of run + 1
  moved-next run true = omega arith
  moved-next run false = omega arith

  -- One more counter is scanned.
  pub scans-next : (at : ℕ) (was now : Run) → index ≤ at → at < length counters → now.len < n → Scans counters n index at was now → Scans counters n index (at + 1) was (run_then now (slice_index counters at == 0))
  scans-next at was now ge inside short scans =
      let is = slice_index counters at == 0 in record {
        moved = let moved = scans.moved in let next = moved-next now is in omega (arith, moved, next);
        rising = let rising = scans.rising in let next = rising-next now is in omega (arith, rising, next);
        so_far = λ counts from base place counted so_far.
            let moved = scans.moved in
            let here : next_of now ≡ base + at = omega (arith, moved, place) in
            let count : counts (next_of now) ≡ slice_index counters at = subst (λ c. counts c ≡ slice_index counters at) (sym here) (counted at inside) in
            run-next counts from n now is short
            (λ t. let zero : slice_index counters at ≡ 0 = eqb-true (slice_index counters at) 0 t in omega (arith, count, zero))
            (λ f. let some = eqb-false (slice_index counters at) 0 f in omega (arith, count, some))
            (scans.so_far counts from base place counted so_far);
      }

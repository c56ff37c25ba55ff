-- Runs of bytes as slices of a list.
use Rattle.std.proofs.Common.{◌≡◌, ℕ, zero, suc, ◌+◌, ◌-◌, ◌<◌, ◌≤◌, refl, arith, List, length, take, drop, add-one, drop-cons}
use Rattle.qcow2_types.specs.Bytes.{bytes_of, run}

run_at : (file : List ℕ) (i n : ℕ) → i + n ≤ length file → run (bytes_of file) i n ≡ take n (drop i file)
unfolding run
run_at file i zero within = refl
run_at file i (suc n) within =
    let lt : i < length file = omega arith in
    let rest : run (bytes_of file) (i + 1) n ≡ take n (drop (i + 1) file) = run_at file (i + 1) n (omega arith) in
    rw (rest, drop-cons file i 0, add-one) refl

pub run_slice : (file : List ℕ) (i n : ℕ) → i + n ≤ length file → run (bytes_of file) i n ≡ take ((i + n) - i) (drop i file)
run_slice file i n within = let same : (i + n) - i ≡ n = omega arith in rw same (run_at file i n within)

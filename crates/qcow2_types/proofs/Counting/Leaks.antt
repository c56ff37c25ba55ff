-- Only clusters with a refcount above 0 leak.
use Rattle.std.proofs.Common.{◌*◌, ◌≡◌, ℕ, zero, suc, ◌+◌, ◌/◌, ◌<◌, ◌≤◌, refl, arith, ap, ◌∙◌, add-suc, List, [], ◌∷◌, ◌++◌}
use Rattle.std.specs.Prelude.{false, nat_lt}
use Rattle.std.proofs.lemmas.Bool.{le-ltb}
use Rattle.qcow2_types.specs.Bytes.{Bytes}
use Rattle.qcow2_types.specs.Header.{Fields, refcount_table_entries}
use Rattle.qcow2_types.specs.Counts.{count, block_at, counters_of_block}
use Rattle.qcow2_types.specs.References.{refs}
use Rattle.qcow2_types.specs.Consistency.{leaks_below, leak_at}
use Rattle.std.proofs.lemmas.Nat.{le-div}

append-nil : (xs : List (ℕ × ℕ)) → xs ++ [] ≡ xs
append-nil [] = refl
append-nil (x ∷ xs) = ap (λ r. x ∷ r) (append-nil xs)

pub no-leak : (f : Bytes) (h : Fields) (c : ℕ) → count f h c ≡ 0 → leak_at f h c ≡ []
no-leak f h c none = let test : nat_lt (refs f h c) (count f h c) ≡ false = le-ltb _ _ (omega arith) in rw test refl

-- clusters with refcount 0 add no leak
pub leaks-skip : (f : Bytes) (h : Fields) (n k : ℕ) → ((c : ℕ) → n ≤ c → c < n + k → count f h c ≡ 0) → leaks_below f h (n + k) ≡ leaks_below f h n
unfolding leaks_below
leaks-skip f h n zero none = let same : n + 0 ≡ n = omega arith in ap (leaks_below f h) same
leaks-skip f h n (suc k) none =
    let more : n + suc k ≡ suc (n + k) = add-suc n k in
    let here : leak_at f h (n + k) ≡ [] = no-leak f h (n + k) (none (n + k) (omega arith) (omega arith)) in
    ap (leaks_below f h) more ∙ (ap (λ r. leaks_below f h (n + k) ++ r) here ∙ (append-nil (leaks_below f h (n + k)) ∙ leaks-skip f h n k (λ c low high. none c low (omega arith))))

-- the refcount is 0 without a block
pub count-no-block : (f : Bytes) (h : Fields) (c : ℕ) → block_at f h (c / counters_of_block h) ≡ 0 → count f h c ≡ 0
unfolding count
count-no-block f h c none = rw none refl

-- the refcount is 0 past the last refcount table entry
pub count-past : (f : Bytes) (h : Fields) (c : ℕ) → refcount_table_entries h ≤ c / counters_of_block h → count f h c ≡ 0
count-past f h c le =
    let past : nat_lt (c / counters_of_block h) (refcount_table_entries h) ≡ false = le-ltb _ _ le in
    count-no-block f h c (rw past refl)

-- the refcount is 0 past the clusters that the refcount table can index
pub count-beyond : (f : Bytes) (h : Fields) (c : ℕ) → 0 < counters_of_block h → refcount_table_entries h * counters_of_block h ≤ c → count f h c ≡ 0
count-beyond f h c some far = count-past f h c (le-div (refcount_table_entries h) c (counters_of_block h) some far)

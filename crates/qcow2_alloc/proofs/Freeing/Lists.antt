-- Lists made from the numbers below a bound.
use Rattle.std.proofs.Common.{◌≡◌, ℕ, ◌<◌, refl, arith, sym, ◌∙◌, length, Result, Ok, Err}
use Rattle.std.specs.Prelude.{map, OnOk}
use Rattle.std.specs.List.{range_with_len}
use Rattle.std.proofs.lemmas.Grind.{same_number_lists}
use Rattle.std.proofs.lemmas.List.FromFn.{length-map-range_with_len, get_or-map-range_with_len}

pub map-same : (a b : ℕ → ℕ) (n : ℕ) → ((k : ℕ) → k < n → a k ≡ b k) → map a (range_with_len 0 n) ≡ map b (range_with_len 0 n)
map-same a b n same =
    let long : length (map a (range_with_len 0 n)) ≡ n = length-map-range_with_len a 0 n in
    let long' : length (map b (range_with_len 0 n)) ≡ n = length-map-range_with_len b 0 n in
    same_number_lists (map a (range_with_len 0 n)) (map b (range_with_len 0 n)) (long ∙ sym long')
    (λ k inside. let lt : k < n = omega (arith, long, inside) in
    get_or-map-range_with_len a 0 n k k 0 lt (omega arith) ∙ same k lt ∙ sym (get_or-map-range_with_len b 0 n k k 0 lt (omega arith)))

pub on_ok_from : {E P : Type 0} (r : Result Unit E) → (r ≡ Ok tt → P) → OnOk r P
on_ok_from (Ok done) from = from refl
on_ok_from (Err e) from = tt

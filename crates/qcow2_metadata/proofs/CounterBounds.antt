-- Refcounts fit their width.
use Rattle.std.proofs.Common.{◌≡◌, ℕ, ◌^◌, ◌<◌, arith, subst, sym, List, length, inl, inr}
use Rattle.std.specs.Prelude.{slice_index}
use Rattle.std.proofs.lemmas.Bool.{cases_lt}
use Rattle.std.proofs.lemmas.Nat.{pow_pos, mod_below}
use Rattle.std.proofs.lemmas.List.FromFn.{length-map-range_with_len, get_or-map-range_with_len}
use Rattle.qcow2_metadata.specs.Cells.{counter, counter_count, counters_of}
use Rattle.qcow2_metadata.proofs.TableSteps.{past_end}

pub counters-fit : (order : ℕ) (bytes : List ℕ) (i : ℕ) → slice_index (counters_of order bytes) i < 2 ^ 2 ^ order
counters-fit order bytes i = elim (cases_lt i (counter_count order bytes)) [
  | inl lt ↦
      subst (λ n. n < 2 ^ 2 ^ order) (sym (get_or-map-range_with_len (counter order bytes) 0 (counter_count order bytes) i i 0 lt (omega arith)))
      (mod_below _ (2 ^ 2 ^ order) (pow_pos (2 ^ order)))
  | inr le ↦
      let long : length (counters_of order bytes) ≡ counter_count order bytes = length-map-range_with_len (counter order bytes) 0 (counter_count order bytes) in
      subst (λ n. n < 2 ^ 2 ^ order) (sym (past_end (counters_of order bytes) i (omega (arith, long, le)))) (pow_pos (2 ^ order))
]

-- A buffer that has the bytes of a file from an offset on, after a request.
use Rattle.std.proofs.Common.{◌≡◌, inl, inr, ℕ, ◌+◌, ◌-◌, ◌<◌, ◌≤◌, List, length, replicate, get_or, arith, sym, ◌∙◌}
use Rattle.std.proofs.lemmas.Bool.{cases_lt}
use Rattle.std.proofs.lemmas.List.{get_or_past}
use Rattle.imago_storage.specs.Calls.{Reads}
use Rattle.imago_storage.specs.Log.{splice, resized}
use Rattle.imago_storage.proofs.Replay.{splice-spliced, resized_at, length-resized}
use Rattle.imago_storage.proofs.Zeroes.{zero_at, length_of_zeroes}

module _ (file : List ℕ) (offset : ℕ) (old new : List ℕ) (long : length new ≡ length old) (reads : Reads file offset old) where
  -- After a write. Its first `n` bytes were copied to their offsets in the buffer. The others are past the end of the buffer.
  pub window_splice : (at : ℕ) (bytes : List ℕ) (n : ℕ) → n ≤ length bytes
      → ((k : ℕ) → k < length old → at + n ≤ offset + k → at + length bytes ≤ offset + k)
      → ((k : ℕ) → k < length old → at ≤ offset + k → offset + k < at + n → get_or new k 0 ≡ get_or bytes (offset + k - at) 0)
      → ((k : ℕ) → offset + k < at → get_or new k 0 ≡ get_or old k 0)
      → ((k : ℕ) → at + n ≤ offset + k → get_or new k 0 ≡ get_or old k 0)
      → Reads (splice file at bytes) offset new
  window_splice at bytes n le past inside before after = λ k lt.
      let here : k < length old = omega (arith, lt, long) in
      let spliced = splice-spliced file at bytes in
      elim (cases_lt (offset + k) at) [
        | inl front ↦ before k front ∙ reads k here ∙ sym (spliced.before (offset + k) front)
        | inr from ↦ elim (cases_lt (offset + k) (at + n)) [
          | inl to ↦ inside k here from to ∙ sym (spliced.inside (offset + k) from (omega (arith, to, le)))
          | inr back ↦ after k back ∙ reads k here ∙ sym (spliced.after (offset + k) (past k here back))
        ]
      ]

  -- After a write of zeroes.
  pub window_zeroes : (at n : ℕ)
      → ((k : ℕ) → k < length old → at ≤ offset + k → offset + k < at + n → get_or new k 0 ≡ 0)
      → ((k : ℕ) → offset + k < at → get_or new k 0 ≡ get_or old k 0)
      → ((k : ℕ) → at + n ≤ offset + k → get_or new k 0 ≡ get_or old k 0)
      → Reads (splice file at (replicate n 0)) offset new
  window_zeroes at n inside before after =
      window_splice at (replicate n 0) n (omega (arith, length_of_zeroes n)) (λ k _ back. omega (arith, back, length_of_zeroes n))
      (λ k here from to. inside k here from to ∙ sym (zero_at n (offset + k - at))) before after

  -- After the length was set.
  pub window_resized : (size : ℕ)
      → ((k : ℕ) → offset + k < size → get_or new k 0 ≡ get_or old k 0)
      → ((k : ℕ) → k < length old → size ≤ offset + k → get_or new k 0 ≡ 0)
      → Reads (resized file size) offset new
  window_resized size below past = λ k lt.
      let here : k < length old = omega (arith, lt, long) in
      elim (cases_lt (offset + k) size) [
        | inl front ↦ below k front ∙ reads k here ∙ sym (resized_at file size (offset + k) front)
        | inr back ↦ past k here back ∙ sym (get_or_past (resized file size) (offset + k) 0 (omega (arith, back, length-resized file size)))
      ]

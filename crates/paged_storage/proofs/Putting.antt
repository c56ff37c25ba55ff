-- A file of the host after a request.
use Rattle.std.proofs.Common.{◌≡◌, inl, inr, ℕ, ◌+◌, max, List, length, arith, sym, ◌∙◌, ap, subst}
use Rattle.std.specs.Prelude.{IsTrue}
use Rattle.std.proofs.lemmas.Bool.{cases_lt}
use Rattle.std.proofs.lemmas.List.{get_or_past}
use Rattle.imago_storage.specs.Calls.{Spliced}
use Rattle.imago_storage.specs.Log.{splice, resized}
use Rattle.imago_storage.proofs.Replay.{length-resized, length-splice, resized_at, splice_is}
use Rattle.host_file.specs.FileState.{FileState, IsChangedTo}

-- A write of no bytes sets the length.
pub resized_is_splice : (file : List ℕ) (at : ℕ) (bytes : List ℕ) (n : ℕ) → length bytes ≡ 0 → n ≡ max (length file) (at + length bytes) → resized file n ≡ splice file at bytes
resized_is_splice file at bytes n none is =
    let spliced : Spliced file at bytes (resized file n) = record {
      before = λ k lt. resized_at file n k (omega (arith, lt));
      inside = λ k from to. absurd (omega (arith, from, to));
      after = λ k from. elim (cases_lt k n) [
        | inl lt ↦ resized_at file n k lt
        | inr past ↦ get_or_past (resized file n) k 0 (omega (arith, past, length-resized file n)) ∙ sym (get_or_past file k 0 (omega (arith, past)))
      ];
    } in
    splice_is file at bytes (resized file n) spliced (length-resized file n ∙ is)

module _ (old new : FileState) (size : ℕ) (knows : IsTrue old.truthful → size ≡ length old.held) (truthful : IsTrue new.truthful) where
  size_was : (content : List ℕ) → IsChangedTo content old new → size ≡ length old.held
  size_was content changed = knows (subst IsTrue changed.truthful truthful)

  -- No bytes were written.
  pub put_none : (at : ℕ) (bytes : List ℕ) (n : ℕ) → length bytes ≡ 0 → n ≡ max size (at + length bytes) → IsChangedTo (resized old.held n) old new → IsChangedTo (splice old.held at bytes) old new
  put_none at bytes n none is changed =
      subst (λ (f : List ℕ). IsChangedTo f old new) (resized_is_splice old.held at bytes n none (is ∙ ap (λ (m : ℕ). max m (at + length bytes)) (size_was (resized old.held n) changed))) changed

  -- The size after bytes were written.
  pub put_size : (at : ℕ) (bytes : List ℕ) (count n : ℕ) → length bytes ≡ count → n ≡ max size (at + count) → IsChangedTo (splice old.held at bytes) old new → n ≡ length new.held
  put_size at bytes count n long is changed =
      let was = size_was (splice old.held at bytes) changed in
      let now : length new.held ≡ length (splice old.held at bytes) = ap (λ (f : List ℕ). length f) changed.held in
      omega (arith, was, now, length-splice old.held at bytes)

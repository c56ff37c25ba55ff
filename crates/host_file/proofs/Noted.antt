-- The state of a file after a noted call.
use Rattle.std.proofs.Common.{◌≡◌, refl, ℕ, ◌+◌, ◌<◌, ◌%◌, List, [], ◌∷◌, length, take, drop, get_or, arith, ap, sym, subst, ◌∙◌}
use Rattle.std.specs.Prelude.{suc, Bool, true, false, ◌&&◌, bytes_eq, IsTrue}
use Rattle.std.proofs.lemmas.List.{get_or-take, get_or-drop}
use Rattle.std.proofs.lemmas.Slice.Eq.{bytes_eq-Decides}
use Rattle.imago_storage.specs.Log.{splice}
use Rattle.host_file.specs.Events.{Event, Read, Written, as_bytes, held, truthful, state_after}
use Rattle.host_file.specs.FileState.{FileState, IsChangedTo}

-- Bytes stay as they are.
as_bytes-same : (bytes : List ℕ) → ((k : ℕ) → get_or bytes k 0 < 256) → as_bytes bytes ≡ bytes
unfolding as_bytes
as_bytes-same [] below = refl
as_bytes-same (n ∷ bytes) below =
    let head : n % 256 ≡ n = omega (arith, below 0) in
    let tail : as_bytes bytes ≡ bytes = as_bytes-same bytes (λ k. below (suc k)) in
    λ i. head i ∷ tail i

module _ (first : List ℕ) (before after : List Event) (offset : ℕ) (bytes : List ℕ) where
  -- The bytes were written.
  pub note-written : ((k : ℕ) → get_or bytes k 0 < 256) → after ≡ Written offset bytes ∷ before → IsChangedTo (splice (held first before) offset bytes) (state_after first before) (state_after first after)
  unfolding state_after
  note-written below is = record {
    held = ap (held first) is ∙ ap (splice (held first before) offset) (as_bytes-same bytes below);
    past = ap (λ (s : FileState). s.past) (ap (state_after first) is);
    truthful = ap (truthful first) is;
  }

  first-true : (a b : Bool) → IsTrue (a && b) → IsTrue a
  first-true true b both = refl
  first-true false b both = both

  -- The bytes that came are those of the file.
  pub note-read : after ≡ Read offset bytes ∷ before → IsTrue (truthful first after) → (k : ℕ) → k < length bytes → get_or bytes k 0 ≡ get_or (held first before) (offset + k) 0
  note-read is true_after k inside =
      let file = held first before in
      let both : IsTrue (bytes_eq (take (length bytes) (drop offset file)) bytes && truthful first before) = subst (λ (events : List Event). IsTrue (truthful first events)) is true_after in
      let same : take (length bytes) (drop offset file) ≡ bytes = (bytes_eq-Decides (take (length bytes) (drop offset file)) bytes).0 (first-true _ _ both) in
      sym (ap (λ (l : List ℕ). get_or l k 0) same) ∙ get_or-take (length bytes) (drop offset file) k 0 inside ∙ get_or-drop offset file k 0

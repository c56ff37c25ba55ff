-- The content of a file is bytes: the law of `HostFile` for an `OsFile`.
use Rattle.std.proofs.Common.{inl, inr, ℕ, ◌+◌, ◌-◌, ◌<◌, List, [], ◌∷◌, length, replicate, get_or, arith}
use Rattle.std.specs.Prelude.{zero, suc}
use Rattle.std.proofs.lemmas.Bool.{cases_lt}
use Rattle.std.proofs.lemmas.List.{get_or_past}
use Rattle.imago_storage.specs.Log.{splice, resized}
use Rattle.imago_storage.proofs.Replay.{splice-spliced, resized_at, length-resized}
use Rattle.imago_storage.proofs.Zeroes.{zero_at}
use Rattle.host_file.specs.Events.{Event, Sized, Read, Written, Zeroed, Resized, as_bytes, held, state_after}
use Rattle.host_file.specs.OsFile.{os_state}
use Rattle.host_file.specs.declared.first_bytes.FirstBytes.{Ghosts}
use Rattle.host_file.specs.declared.os_file.OsFile.{OsFile}

abbrev AreBytes : List ℕ → Type 0
AreBytes file = (k : ℕ) → get_or file k 0 < 256

as_bytes-below : (file : List ℕ) → AreBytes (as_bytes file)
unfolding as_bytes
as_bytes-below [] k = omega arith
as_bytes-below (n ∷ file) zero = omega arith
as_bytes-below (n ∷ file) (suc k) = as_bytes-below file k

zeroes-below : (size : ℕ) → AreBytes (replicate size 0)
zeroes-below size k = omega (arith, zero_at size k)

splice-below : (file : List ℕ) (offset : ℕ) (bytes : List ℕ) → AreBytes file → AreBytes bytes → AreBytes (splice file offset bytes)
splice-below file offset bytes old new k =
    let spliced = splice-spliced file offset bytes in
    elim (cases_lt k offset) [
      | inl before ↦ omega (arith, spliced.before k before, old k)
      | inr from ↦ elim (cases_lt k (offset + length bytes)) [
        | inl inside ↦ omega (arith, spliced.inside k from inside, new (k - offset))
        | inr after ↦ omega (arith, spliced.after k after, old k)
      ]
    ]

resized-below : (file : List ℕ) (size : ℕ) → AreBytes file → AreBytes (resized file size)
resized-below file size old k = elim (cases_lt k size) [
  | inl inside ↦ omega (arith, resized_at file size k inside, old k)
  | inr past ↦ omega (arith, get_or_past (resized file size) k 0 (omega (arith, length-resized file size)))
]

held-below : (first : List ℕ) (events : List Event) → AreBytes (held first events)
held-below first [] = as_bytes-below first
held-below first (Sized size ∷ earlier) = held-below first earlier
held-below first (Read offset bytes ∷ earlier) = held-below first earlier
held-below first (Written offset bytes ∷ earlier) =
    splice-below (held first earlier) offset (as_bytes bytes) (held-below first earlier) (as_bytes-below bytes)
held-below first (Zeroed offset size ∷ earlier) =
    splice-below (held first earlier) offset (replicate size 0) (held-below first earlier) (zeroes-below size)
held-below first (Resized size ∷ earlier) = resized-below (held first earlier) size (held-below first earlier)

pub os_are_bytes : {C : Type 0} (first : Ghosts C) (file : OsFile C) → AreBytes (os_state first file).held
unfolding os_state state_after
os_are_bytes first file = held-below (first.bytes file.number) file.calls.events

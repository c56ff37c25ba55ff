use Rattle.std.proofs.Common.{◌<◌, arith, inl, inr, None, Some, Option, ℕ}
use Rattle.std.specs.Prelude.{IsSome, if◌then◌else◌, ltb}
use Rattle.std.proofs.lemmas.Bool.{cases_lt, le-ltb}
use Rattle.qimg_chain.proofs.laws.a_qcow2_top_zeroes_and_discards.Goals as goal

-- Only version 3 has entries of zeroes.
newer : (version size : ℕ) → IsSome (if ltb 2 version then Some size else None) → 2 < version
newer version size some = elim (cases_lt 2 version) [
  | inl above ↦ above
  | inr older ↦ absurd (cc (rw (le-ltb 2 version older) at some))
]

pub returns : goal.returns
returns g c = λ image below call well_formed granular clears. (
  λ why. why well_formed,
  λ why. let found = why well_formed in let old = found.0 in
      let above = newer image.tables.file.header.fields.version _ (granular found.1) in absurd (omega (arith, old, above)),
)

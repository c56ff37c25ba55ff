-- Lemmas on preallocated zero clusters.
use Rattle.std.proofs.Common.{◌≡◌, ◌≢◌, ℕ, ◌*◌, ap, arith, sym, subst, ◌∙◌, true, false, Option, Some, None}
use Rattle.std.specs.Prelude.{⊤}
use Rattle.imago_storage.specs.declared.storage.Storage.{Ghosts}
use Rattle.qcow2_types.specs.Bytes.{Bytes}
use Rattle.qcow2_types.specs.Entries.{entry}
use Rattle.qcow2_types.specs.Header.{Fields, cluster_size}
use Rattle.qcow2_types.specs.References.{meets, structure}
use Rattle.qcow2_types.specs.Words.{Mapping, damaged, data_at, packed, zeroes}
use Rattle.qcow2_types.specs.Words as mappings
use Rattle.qcow2_types.proofs.Counting.Consistent.{meets-own}
use Rattle.qcow2_steps.specs.Data.{IsKeptFor}
use Rattle.qcow2_clusters.specs.declared.space.Space.{Space}
use Rattle.qcow2_image.specs.Allocating.{HasKept, kept_by}
use Rattle.qcow2_image.specs.KeepsDisk.{KeepsDisk}
use Rattle.qcow2_image.specs.Rooms.{rest_of}
use Rattle.qcow2_image.specs.Seen.{file_of}
use Rattle.qcow2_image.specs.declared.qcow2.Qcow2.{Qcow2}
use Rattle.qcow2_image.specs.declared.tables.Tables.{Tables}
use Rattle.qcow2_image.proofs.DiskEffects.{rest-memory}

-- Its entry is one of zeroes, with the COPIED flag.
pub kept-is : (w : Mapping) (x : ℕ) → Some x ≡ kept_by w → w ≡ zeroes (Some x) true
kept-is (zeroes (Some cluster) true) x is = let same : cluster ≡ x = cc in ap (λ c. zeroes (Some c) true) same
kept-is (zeroes (Some cluster) false) x is = absurd (cc)
kept-is (zeroes None copied) x is = absurd (cc)
kept-is (data_at cluster copied) x is = absurd (cc)
kept-is (packed offset length) x is = absurd (cc)
kept-is mappings.unmapped x is = absurd (cc)
kept-is damaged x is = absurd (cc)

-- A cluster without structure isn't the first of the file, as the header is there.
pub apart-some : (f : Bytes) (h : Fields) (c : ℕ) → structure f h (meets h c) ≡ 0 → c ≢ 0
unfolding structure
apart-some f h c none is =
    let zero : 0 * cluster_size h ≡ 0 = omega arith in
    let first : meets h 0 0 (cluster_size h) ≡ 1 = subst (λ p. meets h 0 p (cluster_size h) ≡ 1) zero (meets-own h 0) in
    let none' : structure f h (meets h 0) ≡ 0 = subst (λ d. structure f h (meets h d) ≡ 0) is none in
    omega (arith, first, none')

module _ {S : Type 0} (g : Ghosts S) where
  -- In a flushed image the entry in memory is the same.
  pub kept-at-rest : (t : Tables S g) (space : Space) (guest x : ℕ) → entry (file_of g t) t.file.header.fields guest ≡ zeroes (Some x) true
      → IsKeptFor (rest_of g t space) guest x
  kept-at-rest t space guest x is = record { file = is; memory = ap (λ (b : Bytes). entry b t.file.header.fields guest) (rest-memory g t space) ∙ is }

  pub kept-in : (guest x : ℕ) (d : Qcow2 S g) (space : Space) → HasKept g guest (Some x) d → IsKeptFor (rest_of g d.tables space) guest x
  kept-in guest x d space kept = kept-at-rest d.tables space guest x (kept-is _ x kept.is)

  -- The cluster is still preallocated after a call that kept the disk.
  pub kept-behind : (guest : ℕ) (kept : Option ℕ) (old mid : Qcow2 S g) → KeepsDisk g ⊤ old mid → HasKept g guest kept old → HasKept g guest kept mid
  kept-behind guest kept old mid k has = record { well_formed = k.safely has.well_formed tt; is = has.is ∙ ap kept_by (sym (k.raw_entries has.well_formed tt guest)) }

-- A plain read of files and a read of a chain with the same disk.
use Rattle.std.proofs.Common.{◌≡◌, ◌∙◌, ◌<◌, ◌≤◌, ◌+◌, ℕ, List, ap, arith, inl, inr, length, refl, sym}
use Rattle.std.specs.Prelude.{slice_index}
use Rattle.std.proofs.lemmas.Bool.{cases_lt, le-ltb}
use Rattle.std.proofs.lemmas.List.{ext_get_or}
use Rattle.imago_storage.specs.Disk.{Disk, Shows, byte}
use Rattle.imago_storage.specs.Steps.{HoldsRange, Stays}
use Rattle.imago_access.specs.Layer.{Layer}
use Rattle.imago_access.specs.Running.{chain_disk}
use Rattle.qimg_chain.specs.FileMeanings.{FileBytes, IsDiskOf, value_of}
use Rattle.qimg_chain.proofs.PlainlyRead.{past_size}

byte_is : (x y : ℕ) → byte x ≡ byte y → x ≡ y
byte_is x y is = cc

module _ (files : List FileBytes) (disk : Disk) (offset : ℕ) (plain buffer : List ℕ) where
  same_byte : IsDiskOf disk files → HoldsRange disk offset buffer → Shows (value_of files) offset plain → (i : ℕ) → i < length buffer
      → i < length plain → slice_index buffer i ≡ slice_index plain i
  same_byte means holds shows i less inside = elim (cases_lt (offset + i) disk.size) [
    | inl within ↦ byte_is (slice_index buffer i) (slice_index plain i) (sym (holds.below i less within) ∙ means.value (offset + i) ∙ shows i inside)
    | inr behind ↦ byte_is (slice_index buffer i) (slice_index plain i) (ap byte (holds.past_size i less behind)
        ∙ sym (past_size files (offset + i) (omega (arith, behind, means.size))) ∙ shows i inside)
  ]

  pub both : IsDiskOf disk files → HoldsRange disk offset buffer → Shows (value_of files) offset plain → length buffer ≡ length plain
      → buffer ≡ plain
  both means holds shows long = ext_get_or 0 buffer plain long (λ i less. same_byte means holds shows i less (omega (arith, less, long)))

behind_end : {D : Type 0} (layer : D → Layer) (c : D × List D) (p : ℕ) → (chain_disk layer c).size ≤ p → (chain_disk layer c).value p ≡ byte 0
behind_end layer c p past = rw (le-ltb p (layer c.0).size past) refl

-- A read doesn't change the disk.
pub disk_stays : {D : Type 0} (layer : D → Layer) (files : List FileBytes) (old new : D × List D) → IsDiskOf (chain_disk layer old) files
    → Stays (chain_disk layer old) (chain_disk layer new) → IsDiskOf (chain_disk layer new) files
disk_stays layer files old new means stays = record {
  size = stays.size ∙ means.size;
  value = λ p. elim (cases_lt p (chain_disk layer old).size) [
    | inl within ↦ stays.value p within ∙ means.value p
    | inr behind ↦ behind_end layer new p (omega (arith, behind, stays.size)) ∙ sym (past_size files p (omega (arith, behind, means.size)))
  ];
}

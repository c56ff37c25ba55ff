-- The block that counts a cluster, in an image with `IsSound`.
use Rattle.std.proofs.Common.{◌≡◌, ◌≢◌, ℕ, ◌*◌, ◌/◌, ◌^◌, ◌<◌, ◌≤◌, refl, arith, ap, sym, subst, ◌∙◌, None, Some}
use Rattle.std.specs.Prelude.{◌==◌, if◌then◌else◌, slice_index, IsTrue}
use Rattle.std.proofs.lemmas.Bool.{ne_eqb}
use Rattle.qcow2_types.specs.Words.{Layout, block_offset, is_cluster_offset, max_offset}
use Rattle.qcow2_types.specs.Header.{cluster_size, refcount_table_entries}
use Rattle.qcow2_types.specs.Counts.{block_at, count, counters_of_block}
use Rattle.qcow2_types.proofs.Changes.BlockSteps.{block-place}
use Rattle.qcow2_types.proofs.Counting.Parts.{block-inside}
use Rattle.qcow2_types.proofs.Counting.Sound.{sound-words}
use Rattle.qcow2_types.proofs.Changes.WriteBack.{place-near, place-whole}
use Rattle.qcow2_metadata.specs.Places.{IsAddressable}
use Rattle.qcow2_alloc.specs.Allocators.{referenced_block}
use Rattle.qcow2_alloc.specs.GuestView.{Metadata, IsSound, counted, in_memory}
use Rattle.qcow2_alloc.proofs.Memory.MemoryWords.{places-in-memory}

module _ (m : Metadata) (sound : IsSound m) (c : ℕ) where
  abbrev r : ℕ
  r = c / counters_of_block m.header.fields

  -- The cluster `key` of the block, by the table in memory and by the file.
  pub record HasBlock : Type 0 where
    pub key : ℕ
    pub names : referenced_block m.table r ≡ Some key
    pub place : block_at m.file m.header.fields r ≡ key * cluster_size m.header.fields
    pub some : key ≢ 0
    pub inside : r < refcount_table_entries m.header.fields
    pub reach : IsAddressable m.header.fields.cluster_bits key

  block-there : 0 < counted m c → block_at m.file m.header.fields r ≢ 0
  unfolding count
  block-there some none =
      let places = places-in-memory m.file m.header sound.well_formed.consistent m.cached sound.well_formed.tables sound.well_formed.blocks in
      let empty : block_at (in_memory m) m.header.fields r ≡ 0 = places.blocks r ∙ none in
      let nothing : counted m c ≡ 0 = rw empty refl in
      omega (arith, some, nothing)

  pub block-named : block_at m.file m.header.fields r ≢ 0 → HasBlock
  block-named there =
      let inside = block-inside m.file m.header.fields r there in
      let place : IsTrue (is_cluster_offset m.header.fields.cluster_bits (block_at m.file m.header.fields r)) = block-place m.file m.header.fields r (sound-words m.file m.header.fields sound.well_formed.consistent.readable.tables) inside in
      let near = place-near m.header.fields.cluster_bits (block_at m.file m.header.fields r) place in
      let raw_entry : block_offset (slice_index m.table.raw_entries r) ≡ block_at m.file m.header.fields r = sound.table.names r inside in
      let exact : block_at m.file m.header.fields r / 2 ^ m.header.fields.cluster_bits * 2 ^ m.header.fields.cluster_bits ≡ block_at m.file m.header.fields r = place-whole m.header.fields.cluster_bits (block_at m.file m.header.fields r) place in
      let bits : m.table.layout.cluster_bits ≡ m.header.fields.cluster_bits = ap (λ (l : Layout). l.cluster_bits) sound.table.layout in
      record {
        key = block_at m.file m.header.fields r / cluster_size m.header.fields;
        names = by-word (block_offset (slice_index m.table.raw_entries r)) m.table.layout.cluster_bits raw_entry bits there;
        place = sym exact;
        some = λ none. let nothing : block_at m.file m.header.fields r / 2 ^ m.header.fields.cluster_bits ≡ 0 = none in there (sym exact ∙ rw nothing (omega arith));
        inside = inside;
        reach = subst (λ n. n ≤ max_offset) (sym exact) near;
      }
    where
      by-word : (w bits : ℕ) → w ≡ block_at m.file m.header.fields r → bits ≡ m.header.fields.cluster_bits → block_at m.file m.header.fields r ≢ 0
          → (if w == 0 then None else Some (w / 2 ^ bits)) ≡ Some (block_at m.file m.header.fields r / 2 ^ m.header.fields.cluster_bits)
      by-word w bits is same there = rw (ne_eqb w 0 (λ none. there (sym is ∙ none))) (ap (λ n. Some (n / 2 ^ bits)) is ∙ ap (λ b. Some (block_at m.file m.header.fields r / 2 ^ b)) same)

  pub counted-block : 0 < counted m c → HasBlock
  counted-block some = block-named (block-there some)

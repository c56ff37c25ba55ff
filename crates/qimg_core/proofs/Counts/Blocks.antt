-- The refcounts of an image, block by block.
use Rattle.std.proofs.Common.{◌≡◌, ◌≢◌, ℕ, ◌+◌, ◌*◌, ◌/◌, ◌%◌, ◌^◌, ◌<◌, ◌≤◌, refl, arith, ap, sym, ◌∙◌, List, length}
use Rattle.std.specs.Prelude.{Bool, true, false, cond, nat_le, ◌==◌, if◌then◌else◌, Some, None, slice_index}
use Rattle.std.proofs.lemmas.Bool.{ne_eqb}
use Rattle.std.proofs.lemmas.Nat.{div-mul-add, mod-mul-add}
use Rattle.std.proofs.Math.Nat.{zero-div, zero-mod}
use Rattle.std.proofs.lemmas.List.FromFn.{get_or-map-range_with_len, length-map-range_with_len}
use Rattle.qcow2_types.specs.Bytes.{Bytes, bytes_of}
use Rattle.qcow2_types.specs.Header.{Fields, cluster_size}
use Rattle.qcow2_types.specs.Counts.{block_at, count, counter, counter_bits, counters_of_block, wide_counter, narrow_counter}
use Rattle.qcow2_types.proofs.Numbers.Splices.{be-zeroes}
use Rattle.qcow2_metadata.specs.Blocks.{Block, block_in, counters_in}
use Rattle.qcow2_metadata.proofs.TableSteps.{past_end}
use Rattle.qimg_core.specs.CheckParts.{IsBlocks, HoldsCounters}
use Rattle.qcow2_types.proofs.Changes.WriteBack.{place-whole}

-- A refcount past the end of the file is 0.
counter-past : (f : Bytes) (h : Fields) (block j : ℕ) → ((p : ℕ) → block ≤ p → f p ≡ 0) → counter f h block j ≡ 0
unfolding counter
counter-past f h block j past = either (nat_le 8 (counter_bits h))
  where
    wide : wide_counter f (counter_bits h) block j ≡ 0
    wide = be-zeroes f (block + j * (counter_bits h / 8)) (counter_bits h / 8) (λ k lt. past (block + j * (counter_bits h / 8) + k) (omega arith))

    narrow : narrow_counter f (counter_bits h) block j ≡ 0
    narrow =
        let byte : f (block + j * counter_bits h / 8) ≡ 0 = past (block + j * counter_bits h / 8) (omega arith) in
        ap (λ b. b / 2 ^ (j * counter_bits h % 8) % 2 ^ counter_bits h) byte
        ∙ (ap (λ n. n % 2 ^ counter_bits h) (zero-div (2 ^ (j * counter_bits h % 8))) ∙ zero-mod (2 ^ counter_bits h))

    either : (b : Bool) → cond b (wide_counter f (counter_bits h) block j) (narrow_counter f (counter_bits h) block j) ≡ 0
    either true = wide
    either false = narrow

-- The refcount of a cluster, by the index of its block and its index in the block.
count-at : (f : Bytes) (h : Fields) (index j : ℕ) → j < counters_of_block h → count f h (index * counters_of_block h + j) ≡ (if block_at f h index == 0 then 0 else counter f h (block_at f h index) j)
unfolding count
count-at f h index j lt = rw (div-mul-add index (counters_of_block h) j lt, mod-mul-add index (counters_of_block h) j lt) refl

-- The block doesn't exist.
count-none : (f : Bytes) (h : Fields) (index j : ℕ) → j < counters_of_block h → block_at f h index ≡ 0 → count f h (index * counters_of_block h + j) ≡ 0
count-none f h index j lt none = count-at f h index j lt ∙ ap (λ block. if block == 0 then 0 else counter f h block j) none

-- The block exists.
count-there : (f : Bytes) (h : Fields) (index j block : ℕ) → j < counters_of_block h → block_at f h index ≡ block → block ≢ 0 → count f h (index * counters_of_block h + j) ≡ counter f h block j
count-there f h index j block lt is there = count-at f h index j lt ∙ (ap (λ block. if block == 0 then 0 else counter f h block j) is ∙ ap (λ b. if b then 0 else counter f h block j) (ne_eqb block 0 there))

-- The refcount table entry references no block.
pub holds-none : (f : Bytes) (h : Fields) (blocks : List ℕ) (index : ℕ) → IsBlocks f h blocks → slice_index blocks index ≡ 0 → HoldsCounters f h index None
holds-none f h blocks index are none = record {
  counts = λ j lt. sym (count-none f h index j lt (sym (are.each index) ∙ none));
  whole = λ j lt. tt;
}

-- The index is past the list of blocks.
pub holds-missing : (f : Bytes) (h : Fields) (blocks : List ℕ) (index : ℕ) → IsBlocks f h blocks → length blocks ≤ index → HoldsCounters f h index None
holds-missing f h blocks index are past = holds-none f h blocks index are (past_end blocks index past)

-- The block is past the end of the file.
pub holds-past : (bytes : List ℕ) (h : Fields) (blocks : List ℕ) (index : ℕ) → IsBlocks (bytes_of bytes) h blocks → slice_index blocks index ≢ 0 → length bytes ≤ slice_index blocks index → HoldsCounters (bytes_of bytes) h index None
holds-past bytes h blocks index are there past = record {
  counts = λ j lt. sym (count-there (bytes_of bytes) h index j (slice_index blocks index) lt (sym (are.each index)) there ∙ counter-past (bytes_of bytes) h (slice_index blocks index) j (λ p le. past_end bytes p (omega arith)));
  whole = λ j lt. tt;
}

-- The block was loaded.
pub holds-loaded : (f : Bytes) (h : Fields) (blocks : List ℕ) (index cluster : ℕ) (block : Block) → IsBlocks f h blocks → slice_index blocks index ≢ 0 → cluster ≡ slice_index blocks index / 2 ^ h.cluster_bits → block ≡ block_in f h cluster → HoldsCounters f h index (Some block)
holds-loaded f h blocks index cluster block are there is loaded = record {
  counts = λ j lt. counted j lt ∙ sym (count-there f h index j (slice_index blocks index) lt (sym (are.each index)) there);
  whole = λ j lt. let long : length block.counters ≡ counters_of_block h = all in omega arith;
}
  where
    place : cluster * cluster_size h ≡ slice_index blocks index
    place = ap (λ c. c * cluster_size h) is ∙ place-whole h.cluster_bits (slice_index blocks index) (are.placed index)

    raw_entries : block.counters ≡ counters_in f h (slice_index blocks index)
    raw_entries = ap (λ (b : Block). b.counters) loaded ∙ ap (counters_in f h) place

    all : length block.counters ≡ counters_of_block h
    all = ap (λ (l : List ℕ). length l) raw_entries ∙ length-map-range_with_len (counter f h (slice_index blocks index)) 0 (counters_of_block h)

    counted : (j : ℕ) → j < counters_of_block h → slice_index block.counters j ≡ counter f h (slice_index blocks index) j
    counted j lt = ap (λ l. slice_index l j) raw_entries ∙ get_or-map-range_with_len (counter f h (slice_index blocks index)) 0 (counters_of_block h) j j 0 lt (omega arith)

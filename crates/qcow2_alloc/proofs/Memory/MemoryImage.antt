-- The image in memory of a well-formed image is consistent.
use Rattle.std.proofs.Common.{◌≡◌, ◌≢◌, ℕ, ◌*◌, ◌<◌, ◌≤◌, refl, arith, ap, sym, ◌∙◌, List, [], ◌∷◌, length, inr}
use Rattle.std.specs.Prelude.{true}
use Rattle.std.specs.List.{AllByRecursion}
use Rattle.std.proofs.lemmas.Bool.Decides.{nat_tests}
use Rattle.std.proofs.lemmas.Nat.{pow_pos}
use Rattle.qcow2_types.specs.Bytes.{Bytes, splice, Patch, over}
use Rattle.qcow2_types.specs.Header.{Header, cluster_size}
use Rattle.qcow2_types.specs.Entries.{l2_table}
use Rattle.qcow2_types.specs.Counts.{block_at}
use Rattle.qcow2_types.specs.Consistency.{IsConsistent}
use Rattle.qcow2_types.specs.Frames.{Same, touches}
use Rattle.qcow2_types.proofs.Counting.Consistent.{header-kept}
use Rattle.qcow2_types.proofs.Changes.Frames.{untouched, splice-is-outside, word-same, entries-fit}
use Rattle.qcow2_types.proofs.Counting.Parts.{Part, header, l1_table, refcount_table, block_of, table_of, IsPart, part_weight, other-part, touches-inside}
use Rattle.qcow2_types.proofs.Changes.Patches.{IsPatch, part_place, part-once}
use Rattle.qcow2_types.proofs.Counting.Sound.{stop-consistent}
use Rattle.qcow2_alloc.specs.declared.cache.CacheDependency.{CacheDependency}
use Rattle.qcow2_alloc.specs.Memory.{Cached, patches, memory}
use Rattle.qcow2_alloc.specs.WellFormedness.{WellFormed}
use Rattle.qcow2_alloc.proofs.Memory.Patches.{patches-are}
use Rattle.qcow2_alloc.proofs.Memory.MemoryWords.{places-in-memory}
use Rattle.qcow2_alloc.proofs.Flushing.TableWriteBacks.{memory-sound}

module _ (f : Bytes) (H : Header) (was : IsConsistent f H) where
  -- A table or a block touches its own range.
  weighs-itself : (part : Part) → part_place f H.fields part ≢ 0 → 1 ≤ part_weight f H.fields (touches (part_place f H.fields part) (cluster_size H.fields)) part
  weighs-itself header there = absurd (there refl)
  weighs-itself l1_table there = absurd (there refl)
  weighs-itself refcount_table there = absurd (there refl)
  weighs-itself (block_of i) there =
      let some : 0 < cluster_size H.fields = pow_pos H.fields.cluster_bits in
      let one : touches (block_at f H.fields i) (cluster_size H.fields) (block_at f H.fields i) (cluster_size H.fields) ≡ 1 = touches-inside _ _ _ _ some (omega arith) (omega arith) in
      grind (arith, nat_tests)
  weighs-itself (table_of i) there =
      let some : 0 < cluster_size H.fields = pow_pos H.fields.cluster_bits in
      let one : touches (l2_table f H.fields i) (cluster_size H.fields) (l2_table f H.fields i) (cluster_size H.fields) ≡ 1 = touches-inside _ _ _ _ some (omega arith) (omega arith) in
      grind (arith, nat_tests)

  -- A part of the structure that is neither a table nor a block is unchanged in memory.
  module _ (q : Part) (inside : IsPart H.fields q) (nowhere : part_place f H.fields q ≡ 0) (at n : ℕ) (weight : (w : ℕ → ℕ → ℕ) → part_weight f H.fields w q ≡ w at n) where
    pub untouched-by : (e : Patch) → IsPatch f H.fields e → touches e.0 (length e.1) at n ≡ 0
    untouched-by e x =
        let there : part_place f H.fields x.part ≢ 0 = λ z. x.there (sym x.place ∙ z) in
        let none : touches (part_place f H.fields x.part) (cluster_size H.fields) at n ≡ 0 =
        sym (weight (touches (part_place f H.fields x.part) (cluster_size H.fields)))
        ∙ other-part f H.fields (touches (part_place f H.fields x.part) (cluster_size H.fields)) x.part q x.inside inside (λ z. there (ap (part_place f H.fields) z ∙ nowhere))
        (part-once f H was x.part x.inside there) (weighs-itself x.part there) in
        ap (λ p. touches p (length e.1) at n) (sym x.place) ∙ ap (λ l. touches (part_place f H.fields x.part) l at n) x.long ∙ none

    pub range-stays : (es : List Patch) → AllByRecursion (IsPatch f H.fields) es → Same f (over f es) at n
    unfolding over
    range-stays [] all k lt = refl
    range-stays (e ∷ es) all k lt =
        untouched (over f es) (splice (over f es) e.0 e.1) e.0 (length e.1) at n (splice-is-outside (over f es) e.0 e.1) (untouched-by e all.0) k lt ∙ range-stays es all.1 k lt

pub safe-memory : (f : Bytes) (H : Header) (cached : Cached) (order : CacheDependency) → WellFormed f H cached order → IsConsistent (memory f H.fields cached) H
safe-memory f H cached order well_formed =
    let are : AllByRecursion (IsPatch f H.fields) (patches H.fields cached) = patches-are f H well_formed.consistent cached well_formed.tables well_formed.blocks in
    let start : Same f (memory f H.fields cached) 0 (cluster_size H.fields) = range-stays f H well_formed.consistent header tt refl 0 (cluster_size H.fields) (λ w. refl) (patches H.fields cached) are in
    let l1 : Same f (memory f H.fields cached) H.fields.l1_offset (H.fields.l1_entries * 8) = range-stays f H well_formed.consistent l1_table tt refl H.fields.l1_offset (H.fields.l1_entries * 8) (λ w. refl) (patches H.fields cached) are in
    let rt : Same f (memory f H.fields cached) H.fields.refcount_table_offset (H.fields.refcount_table_clusters * cluster_size H.fields) =
    range-stays f H well_formed.consistent refcount_table tt refl H.fields.refcount_table_offset (H.fields.refcount_table_clusters * cluster_size H.fields) (λ w. refl) (patches H.fields cached) are in
    stop-consistent f (memory f H.fields cached) (memory f H.fields cached) H well_formed.consistent (header-kept true f (memory f H.fields cached) H well_formed.consistent.readable.loads start)
    (record {
      l1 = λ i lt. word-same f (memory f H.fields cached) H.fields.l1_offset (H.fields.l1_entries * 8) i l1 (omega (arith, lt));
      blocks = λ i lt. word-same f (memory f H.fields cached) H.fields.refcount_table_offset (H.fields.refcount_table_clusters * cluster_size H.fields) i rt (entries-fit H.fields i lt);
    })
    (record { places = places-in-memory f H well_formed.consistent cached well_formed.tables well_formed.blocks; slots = λ i j live. inr refl })
    (memory-sound f H order cached well_formed) well_formed.apart well_formed.covered

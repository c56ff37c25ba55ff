-- The L2 entries that are written when a cluster is discarded, zeroed or linked again. They reference no more than before.
use Rattle.std.proofs.Common.{◌≡◌, ◌≢◌, ℕ, ◌+◌, ◌-◌, ◌*◌, ◌/◌, ◌^◌, ◌<◌, ◌≤◌, refl, arith, ap, sym, subst, ◌∙◌, true, false, inl}
use Rattle.std.specs.Prelude.{slice_index, Bool, cond, ◌||◌, not, nat_le, Option, Some, None}
use Rattle.std.proofs.Math.Nat.{div-mul-le_self}
use Rattle.qcow2_types.specs.Bytes.{Bytes}
use Rattle.qcow2_types.specs.Words.{Layout, Mapping, data_at, zeroes, packed, unmapped, damaged, mapping_of, is_damaged, has_bit, is_copied, table_offset, compressed_offset, compressed_end, standard_entry_valid, names_cluster}
use Rattle.qcow2_types.specs.Header.{Fields, Header, Shaped, cluster_size, layout_of}
use Rattle.qcow2_types.proofs.Numbers.WordLemmas.{zero-word}
use Rattle.qcow2_metadata.specs.Places.{IsAddressable}
use Rattle.qcow2_metadata.specs.Tables.{mapping_in}
use Rattle.qcow2_metadata.specs.Allocations.{kept_for_zero, kept_where, zeroed_raw_entry}
use Rattle.qcow2_metadata.proofs.Conservation.{kept_means, zero_means, mapped_means}
use Rattle.qcow2_metadata.proofs.L2Words.{mapped_fits, zeroed_fits}
use Rattle.qcow2_alloc.specs.declared.cache.CacheDependency.{CacheDependency}
use Rattle.qcow2_alloc.specs.Changes.{SetsEntry, ReferencesNoMore, ReferencesDropped, zeroed, file_with}
use Rattle.qcow2_alloc.specs.Memory.{Cached}
use Rattle.qcow2_alloc.specs.WellFormedness.{WellFormed}
use Rattle.qcow2_alloc.proofs.Memory.WordChanges.{cached-layout, word-drops}
use Rattle.qcow2_alloc.proofs.Memory.Patches.{shaped-in}

-- The cluster that an entry keeps is addressable.
kept-cluster : (b bad sound zero names : Bool) (place length cluster : ℕ) (mark : Bool) (kept : ℕ × Bool)
    → kept_for_zero (cond b (cond bad damaged (packed place length)) (cond (not sound) damaged (cond zero (zeroes (cond names (Some cluster) None) mark) (cond names (data_at cluster mark) unmapped)))) ≡ Some kept → cluster ≡ kept.0
kept-cluster true true sound zero names place length cluster mark kept e = absurd (cc)
kept-cluster true false sound zero names place length cluster mark kept e = absurd (cc)
kept-cluster false bad false zero names place length cluster mark kept e = absurd (cc)
kept-cluster false bad true true true place length cluster mark kept e = let pair : (cluster, mark) ≡ kept = cc in ap (λ (x : ℕ × Bool). x.0) pair
kept-cluster false bad true true false place length cluster mark kept e = absurd (cc)
kept-cluster false bad true false true place length cluster mark kept e = let pair : (cluster, mark) ≡ kept = cc in ap (λ (x : ℕ × Bool). x.0) pair
kept-cluster false bad true false false place length cluster mark kept e = absurd (cc)

kept-near : (layout : Layout) (w : ℕ) (kept : ℕ × Bool) → kept_for_zero (mapping_of layout w) ≡ Some kept → IsAddressable layout.cluster_bits kept.0
unfolding mapping_of
kept-near layout w kept e =
    let is = kept-cluster (has_bit w 62) (has_bit w 63 || nat_le (2 ^ 56) (compressed_offset layout.cluster_bits w)) (standard_entry_valid layout w) (has_bit w 0) (names_cluster layout w)
    (compressed_offset layout.cluster_bits w) (compressed_end layout.cluster_bits w - compressed_offset layout.cluster_bits w) (table_offset w / 2 ^ layout.cluster_bits) (is_copied w) kept e in
    let below : table_offset w / 2 ^ layout.cluster_bits * 2 ^ layout.cluster_bits ≤ table_offset w = div-mul-le_self (table_offset w) (2 ^ layout.cluster_bits) in
    let most : table_offset w ≤ 0x00ff_ffff_ffff_fe00 = omega arith in
    subst (λ n. n * 2 ^ layout.cluster_bits ≤ 0x00ff_ffff_ffff_fe00) is (omega (arith, below, most))

-- Zeroing adds no reference.
kept-no-more : (h : Fields) (old : Mapping) (kept : ℕ × Bool) → kept_for_zero old ≡ Some kept → ReferencesNoMore h old (zeroed (Some kept))
kept-no-more h (data_at n true) kept e = let pair : (n, true) ≡ kept = cc in subst (λ k. ReferencesNoMore h (data_at n true) (zeroed (Some k))) pair (λ c. (omega arith, omega arith))
kept-no-more h (data_at n false) kept e = let pair : (n, false) ≡ kept = cc in subst (λ k. ReferencesNoMore h (data_at n false) (zeroed (Some k))) pair (λ c. (omega arith, omega arith))
kept-no-more h (zeroes (Some n) true) kept e = let pair : (n, true) ≡ kept = cc in subst (λ k. ReferencesNoMore h (zeroes (Some n) true) (zeroed (Some k))) pair (λ c. (omega arith, omega arith))
kept-no-more h (zeroes (Some n) false) kept e = let pair : (n, false) ≡ kept = cc in subst (λ k. ReferencesNoMore h (zeroes (Some n) false) (zeroed (Some k))) pair (λ c. (omega arith, omega arith))
kept-no-more h (zeroes None copied) kept e = absurd (cc)
kept-no-more h (packed offset length) kept e = absurd (cc)
kept-no-more h unmapped kept e = absurd (cc)
kept-no-more h damaged kept e = absurd (cc)

module _ (f : Bytes) (H : Header) (cached cached' : Cached) (order : CacheDependency) (key i j : ℕ) (well_formed : WellFormed f H cached order) where
  shaped : Shaped H.fields
  shaped = shaped-in f H well_formed.consistent

  drops : (w : ℕ) (sets : SetsEntry f H.fields cached key i j w cached') (new : Mapping) → w < 2 ^ 64 → mapping_of (layout_of H.fields) w ≡ new → is_damaged new ≡ false → ReferencesNoMore H.fields (mapping_in sets.table j) new
      → ReferencesDropped (file_with f H order cached) i j (mapping_in sets.table j) new cached'
  drops w sets new fits means sane fewer =
      subst (λ (m : Mapping). ReferencesDropped (file_with f H order cached) i j (mapping_in sets.table j) m cached') means
      (word-drops f H cached cached' order key i j w well_formed sets fits (ap is_damaged means ∙ sane) (subst (λ (m : Mapping). ReferencesNoMore H.fields (mapping_in sets.table j) m) (sym means) fewer))

  -- Discarding adds no reference.
  pub discard-drops : (sets : SetsEntry f H.fields cached key i j 0 cached') → ReferencesDropped (file_with f H order cached) i j (mapping_in sets.table j) unmapped cached'
  discard-drops sets = drops 0 sets unmapped (omega arith) (zero-word (layout_of H.fields)) refl (λ c. (omega arith, omega arith))

  pub zero-drops : (w : ℕ) (sets : SetsEntry f H.fields cached key i j w cached') (keep : Bool) → H.fields.version ≡ 3 → w ≡ zeroed_raw_entry H.fields.cluster_bits (kept_where keep (mapping_in sets.table j))
      → ReferencesDropped (file_with f H order cached) i j (mapping_in sets.table j) (zeroed (kept_where keep (mapping_in sets.table j))) cached'
  zero-drops w sets keep newer is = by-kept (kept_where keep (mapping_in sets.table j)) refl
    where
      unkept : w ≡ zeroed_raw_entry H.fields.cluster_bits None → ReferencesDropped (file_with f H order cached) i j (mapping_in sets.table j) (zeroed None) cached'
      unkept e = drops w sets (zeroes None false) (rw e (omega arith)) (rw e (zero_means (layout_of H.fields) newer)) refl (λ c. (omega arith, omega arith))

      keeps : (kept : ℕ × Bool) → kept_for_zero (mapping_in sets.table j) ≡ Some kept → w ≡ zeroed_raw_entry H.fields.cluster_bits (Some kept) → ReferencesDropped (file_with f H order cached) i j (mapping_in sets.table j) (zeroed (Some kept)) cached'
      keeps kept has e =
          let near : IsAddressable H.fields.cluster_bits kept.0 = subst (λ (l : Layout). IsAddressable l.cluster_bits kept.0) (cached-layout f H cached order key i sets.table well_formed sets.caches) (kept-near sets.table.layout (slice_index sets.table.raw_entries j) kept has) in
          drops w sets (zeroes (Some kept.0) kept.1) (rw e (zeroed_fits H.fields.cluster_bits (Some kept) near))
          (rw e (kept_means (layout_of H.fields) (slice_index sets.table.raw_entries j) kept shaped.low newer near
          (subst (λ (l : Layout). kept_for_zero (mapping_of l (slice_index sets.table.raw_entries j)) ≡ Some kept) (cached-layout f H cached order key i sets.table well_formed sets.caches) has))) refl
          (kept-no-more H.fields (mapping_in sets.table j) kept has)

      kept-of : (b : Bool) (kept : ℕ × Bool) → kept_where b (mapping_in sets.table j) ≡ Some kept → kept_for_zero (mapping_in sets.table j) ≡ Some kept
      kept-of true kept e = e
      kept-of false kept e = absurd (cc)

      by-kept : (kept : Option (ℕ × Bool)) → kept_where keep (mapping_in sets.table j) ≡ kept → ReferencesDropped (file_with f H order cached) i j (mapping_in sets.table j) (zeroed (kept_where keep (mapping_in sets.table j))) cached'
      by-kept None e = rw e (unkept (rw e at is))
      by-kept (Some kept) e = rw e (keeps kept (kept-of keep kept e) (rw e at is))

  -- Linking the preallocated zero cluster as data adds no reference.
  pub data-drops : (n : ℕ) (sets : SetsEntry f H.fields cached key i j (2 ^ 63 + n * cluster_size H.fields) cached') → n ≢ 0 → IsAddressable H.fields.cluster_bits n → mapping_in sets.table j ≡ zeroes (Some n) true
      → ReferencesDropped (file_with f H order cached) i j (zeroes (Some n) true) (data_at n true) cached'
  data-drops n sets some near is =
      subst (λ (m : Mapping). ReferencesDropped (file_with f H order cached) i j m (data_at n true) cached') is
      (drops (2 ^ 63 + n * cluster_size H.fields) sets (data_at n true) (mapped_fits H.fields.cluster_bits n near) (mapped_means (layout_of H.fields) n shaped.low near (inl (omega (arith, some)))) refl
      (subst (λ (m : Mapping). ReferencesNoMore H.fields m (data_at n true)) (sym is) (λ c. (omega arith, omega arith))))

-- The bytes that are written for a new image are the smallest image: its header loads, its refcount table references the block in cluster 2, and the
-- block has the refcounts of the three clusters.
use Rattle.std.proofs.Common.{◌≡◌, ◌≢◌, ℕ, zero, suc, ◌+◌, ◌-◌, ◌*◌, ◌/◌, ◌%◌, ◌^◌, ◌<◌, ◌≤◌, refl, arith, ap, sym, subst, ◌∙◌, inl, inr, List, [], length, None, Some, Ok}
use Rattle.std.specs.Prelude.{Bool, true, false, ◌&&◌, nat_le, IsTrue, Option, replicate, slice_index, slice_set}
use Rattle.std.proofs.lemmas.Bool.{cases_eq}
use Rattle.std.proofs.lemmas.Bool.Decides.{nat_tests}
use Rattle.std.proofs.lemmas.List.{get_or-replicate, get_or-set_other, get_or-set_same, get_or_past, length-replicate, length-set}
use Rattle.std.proofs.lemmas.Nat.{div-add-mod', div-mul-add, mul-le}
use Rattle.std.proofs.Math.Nat.{div_self, mod_self, mul-le-mul_right, pow-le-pow_right}
use Rattle.qcow2_types.specs.Bytes.{Bytes, bytes_of, raw_entry, splice}
use Rattle.qcow2_types.specs.Counts.{counter, counter_of, counters_of_block}
use Rattle.qcow2_types.specs.Header.{Fields, Header, Shaped, cluster_size, entries_of_cluster, first_fault, header_of, rules_of_shape, rules_of_size, rules_of_writing}
use Rattle.qcow2_types.specs.HeaderBytes.{backing_name_offset, extensions_bytes, extensions_of, fits_first_cluster, header_bytes, name_bytes, new_header, written, written_fields}
use Rattle.qcow2_types.specs.HeaderSwitch.{FirstFieldsFit}
use Rattle.qcow2_types.specs.Switched.{with_reftable}
use Rattle.qcow2_types.specs.TableBytes.{AreFit, Packs, table_bytes}
use Rattle.qcow2_types.proofs.Changes.Over.{table-over, words-length}
use Rattle.qcow2_types.proofs.Counting.Consistent.{some-words}
use Rattle.qcow2_types.proofs.Counting.Counters.{counter-moved, whole}
use Rattle.qcow2_types.proofs.Fields.HeaderLimits.{fields-shaped, limited-fields}
use Rattle.qcow2_types.proofs.Numbers.Splices.{be-splice-apart, splice-inside, splice-outside}
use Rattle.qcow2_types.proofs.Numbers.WordLemmas.{zero-place}
use Rattle.qcow2_metadata.specs.Reloading.{IsReloadable, is_text}
use Rattle.qcow2_metadata.specs.Tables.{IsGrownLength, padded}
use Rattle.qcow2_metadata.proofs.NewReloads.{new-reloadable}
use Rattle.qcow2_metadata.proofs.Reloading.{header-reloads}
use Rattle.qcow2_metadata.proofs.Written.{length-header_bytes}
use Rattle.qcow2_steps.specs.SmallestImage.{AreFirstCounters, AreFirstEntries, IsSmallestImage, incremented, smallest_header, with_parts}
use Rattle.qcow2_steps.proofs.SmallestImages.{counters-least, second-place}

both : (a b : Bool) → (a && b) ≡ true → (a ≡ true) × (b ≡ true)
both true true e = (refl, refl)
both true false e = absurd cc
both false b e = absurd cc

at-most : (m n : ℕ) → nat_le m n ≡ true → m ≤ n
at-most m n e = grind (arith, nat_tests)

-- The header of the smallest image can be written, and loads again: it is a new header with another refcount table.
module _ (bits order : ℕ) (name format : Option (List ℕ)) (low : 9 ≤ bits) (high : bits ≤ 21) (narrow : order ≤ 6)
    (fits : IsTrue (fits_first_cluster (smallest_header bits order name format))) where
  abbrev H : Header
  H = smallest_header bits order name format

  abbrev N : Header
  N = new_header bits order name format None

  large : 512 ≤ 2 ^ bits
  large = let le : 2 ^ 9 ≤ 2 ^ bits = pow-le-pow_right (omega arith) low in omega arith

  small : 2 ^ bits ≤ 2_097_152
  small = let le : 2 ^ bits ≤ 2 ^ 21 = pow-le-pow_right (omega arith) high in omega arith

  same-extensions : extensions_bytes H ≡ extensions_bytes N
  unfolding extensions_bytes extensions_of
  same-extensions = refl

  same-long : length (header_bytes H) ≡ length (header_bytes N)
  same-long = let e = ap length same-extensions in omega (arith, length-header_bytes H, length-header_bytes N, e)

  same-place : (t : Option (List ℕ)) → backing_name_offset H t ≡ backing_name_offset N t
  same-place None = refl
  same-place (Some text) = ap (λ (bytes : List ℕ). 104 + length bytes) same-extensions

  same-fields : written_fields H ≡ with_reftable (written_fields N) (2 ^ bits) 1
  unfolding written_fields
  same-fields = rw (same-place name) refl

  new-fits : IsTrue (fits_first_cluster N)
  new-fits = subst (λ n. IsTrue (nat_le n (2 ^ bits) && nat_le (length (name_bytes name)) 1023)) same-long fits

  sizes : first_fault (rules_of_size (with_reftable (written_fields N) (2 ^ bits) 1)) ≡ None
  unfolding written_fields
  sizes = limited-fields (with_reftable (written_fields N) (2 ^ bits) 1) (record {
    size = omega arith;
    l1_entries = omega arith;
    refcount_entries = omega (arith, small);
    l1_place = zero-place bits;
    refcount_place = second-place bits high;
  })

  pub smallest-reloadable : name ≢ Some [] → IsTrue (is_text name) → IsTrue (is_text format) → IsReloadable true H
  smallest-reloadable some name_text format_text =
      let new : IsReloadable true N = new-reloadable bits order name format None low high narrow new-fits some name_text format_text refl true in
      record {
        version = new.version;
        older = λ e. absurd (omega (arith, e));
        first = subst FirstFieldsFit (sym same-fields) (record {
          version = new.first.version;
          backing_offset = new.first.backing_offset;
          backing_length = new.first.backing_length;
          cluster_bits = new.first.cluster_bits;
          size = new.first.size;
          crypt_method = new.first.crypt_method;
          l1_entries = new.first.l1_entries;
          l1_offset = new.first.l1_offset;
          refcount_table_offset = omega (arith, small);
          refcount_table_clusters = omega arith;
          snapshots = new.first.snapshots;
        });
        later = record {
          snapshots_offset = new.later.snapshots_offset;
          incompatible = new.later.incompatible;
          compatible = new.later.compatible;
          autoclear = new.later.autoclear;
          refcount_order = new.later.refcount_order;
        };
        shape = ap (λ (F : Fields). first_fault (rules_of_shape F)) same-fields ∙ new.shape;
        sizes = ap (λ (F : Fields). first_fault (rules_of_size F)) same-fields ∙ sizes;
        allowed = ap (λ (F : Fields). first_fault (rules_of_writing true F)) same-fields ∙ new.allowed;
        fits = fits;
        named = some;
        backing_name = name_text;
        backing_format = format_text;
        data_file_name = refl;
        names = new.names;
        ordered = new.ordered;
      }

-- The refcounts of a new block, incremented for clusters 0 to 2.
here-incremented : (counters : List ℕ) (i : ℕ) → i < length counters → slice_index (incremented counters i) i ≡ slice_index counters i + 1
here-incremented counters i lt = get_or-set_same counters i (slice_index counters i + 1) 0 lt

other-incremented : (counters : List ℕ) (i j : ℕ) → j ≢ i → slice_index (incremented counters i) j ≡ slice_index counters j
other-incremented counters i j apart = get_or-set_other counters i j (slice_index counters i + 1) 0 apart

module _ (h : Fields) (shaped : Shaped h) where
  abbrev none : List ℕ
  none = replicate (counters_of_block h) 0

  abbrev one : List ℕ
  one = incremented none 0

  abbrev two : List ℕ
  two = incremented one 1

  none-at : (i : ℕ) → slice_index none i ≡ 0
  none-at i = grind (arith, get_or-replicate, get_or_past, length-replicate)

  none-long : length none ≡ counters_of_block h
  none-long = length-replicate (counters_of_block h) 0

  one-long : length one ≡ counters_of_block h
  one-long = length-set none 0 (slice_index none 0 + 1) ∙ none-long

  two-long : length two ≡ counters_of_block h
  two-long = length-set one 1 (slice_index one 1 + 1) ∙ one-long

  pub first-counters : AreFirstCounters h (incremented two 2)
  first-counters = let enough = counters-least h shaped in record {
    long = length-set two 2 (slice_index two 2 + 1) ∙ two-long;
    allocated = counted;
    free = λ c le. other-incremented two 2 c (omega (arith, le)) ∙ other-incremented one 1 c (omega (arith, le)) ∙ other-incremented none 0 c (omega (arith, le)) ∙ none-at c;
  }
    where
      counted : (c : ℕ) → c < 3 → slice_index (incremented two 2) c ≡ 1
      counted zero lt =
          let enough = counters-least h shaped in
          other-incremented two 2 0 (omega arith) ∙ other-incremented one 1 0 (omega arith) ∙ here-incremented none 0 (omega (arith, enough, none-long)) ∙ ap (λ n. n + 1) (none-at 0)
      counted (suc zero) lt =
          let enough = counters-least h shaped in
          other-incremented two 2 1 (omega arith) ∙ here-incremented one 1 (omega (arith, enough, one-long)) ∙ ap (λ n. n + 1) (other-incremented none 0 1 (omega arith) ∙ none-at 1)
      counted (suc (suc zero)) lt =
          let enough = counters-least h shaped in
          here-incremented two 2 (omega (arith, enough, two-long)) ∙ ap (λ n. n + 1) (other-incremented one 1 2 (omega arith) ∙ other-incremented none 0 2 (omega arith) ∙ none-at 2)
      counted (suc (suc (suc c))) lt = absurd (omega arith)

  -- The entries of a refcount table that was grown from none, with the block entered.
  abbrev blank : List ℕ
  blank = padded [] (entries_of_cluster h)

  blank-at : (i : ℕ) → slice_index blank i ≡ 0
  blank-at i = grind (arith, get_or-replicate, get_or_past, length-replicate)

  blank-long : length blank ≡ entries_of_cluster h
  blank-long = length-replicate (entries_of_cluster h - 0) 0 ∙ omega arith

  pub first-entries : AreFirstEntries h (slice_set blank 0 (2 * cluster_size h))
  first-entries = let some = some-words h shaped in record {
    long = length-set blank 0 (2 * cluster_size h) ∙ blank-long;
    first = get_or-set_same blank 0 (2 * cluster_size h) 0 (omega (arith, some, blank-long));
    others = λ i positive. get_or-set_other blank 0 i (2 * cluster_size h) 0 (omega (arith, positive)) ∙ blank-at i;
  }

  -- The grown table has one cluster.
  pub first-length : (n : ℕ) → IsGrownLength (entries_of_cluster h) (counters_of_block h) 0 n → n ≡ entries_of_cluster h
  first-length n grown =
      let some : 0 < entries_of_cluster h = some-words h shaped in
      let enough = counters-least h shaped in
      let one-row : entries_of_cluster h / entries_of_cluster h ≡ 1 = div_self some in
      let product : 1 * 1 ≤ (entries_of_cluster h - 0) * (counters_of_block h - 1) = mul-le 1 1 (entries_of_cluster h - 0) (counters_of_block h - 1) (omega (arith, some)) (omega (arith, enough)) in
      let least : n ≤ entries_of_cluster h = grown.least (entries_of_cluster h) (record {
        whole = mod_self (entries_of_cluster h);
        above = some;
        room = subst (λ q. q ≤ (entries_of_cluster h - 0) * (counters_of_block h - 1)) (sym one-row) product;
      }) in
      let rows : n / entries_of_cluster h * entries_of_cluster h + n % entries_of_cluster h ≡ n = div-add-mod' n (entries_of_cluster h) in
      let above : 0 < n = grown.enough.above in
      let whole-rows : n % entries_of_cluster h ≡ 0 = grown.enough.whole in
      elim (cases_eq (n / entries_of_cluster h) 0) [
        | inl nothing ↦ absurd (let gone : n / entries_of_cluster h * entries_of_cluster h ≡ 0 = ap (λ q. q * entries_of_cluster h) nothing ∙ omega arith in omega (arith, rows, above, whole-rows, gone))
        | inr there ↦
            let up : 1 * entries_of_cluster h ≤ n / entries_of_cluster h * entries_of_cluster h = mul-le-mul_right (entries_of_cluster h) (omega (arith, there)) in
            omega (arith, rows, up, least, whole-rows)
      ]

  pub first-clusters : (8 * entries_of_cluster h + (cluster_size h - 1)) / cluster_size h ≡ 1
  first-clusters =
      let size : 2 ^ 9 ≤ 2 ^ h.cluster_bits = pow-le-pow_right (omega arith) shaped.low in
      let full : 2 ^ h.cluster_bits / 8 * 8 ≡ 2 ^ h.cluster_bits = whole h.cluster_bits (omega arith) in
      let sum : 8 * entries_of_cluster h + (2 ^ h.cluster_bits - 1) ≡ 1 * 2 ^ h.cluster_bits + (2 ^ h.cluster_bits - 1) = omega (arith, full) in
      ap (λ n. n / 2 ^ h.cluster_bits) sum ∙ div-mul-add 1 (2 ^ h.cluster_bits) (2 ^ h.cluster_bits - 1) (omega (arith, size))

-- The file after the block, the refcount table and the header were written.
module _ (f : Bytes) (bits order : ℕ) (name format : Option (List ℕ)) (counters block raw_entries : List ℕ)
    (reloads : IsReloadable true (smallest_header bits order name format)) (numbers : AreFirstCounters (smallest_header bits order name format).fields counters)
    (packs : Packs order counters block) (entries : AreFirstEntries (smallest_header bits order name format).fields raw_entries) where
  abbrev K : Header
  K = smallest_header bits order name format

  abbrev s : ℕ
  s = 2 ^ bits

  abbrev with_block : Bytes
  with_block = splice f (2 * s) block

  abbrev with_table : Bytes
  with_table = splice with_block s (table_bytes raw_entries)

  abbrev made : Bytes
  made = with_parts f K block raw_entries

  loads : header_of true made ≡ Ok (written K)
  loads = header-reloads true with_table K reloads

  shape : Shaped (written K).fields
  shape = fields-shaped true made (written K) loads

  bounds : (9 ≤ bits) × (bits ≤ 21)
  unfolding written_fields
  bounds = (shape.low, shape.high)

  large' : 512 ≤ s
  large' = let le : 2 ^ 9 ≤ 2 ^ bits = pow-le-pow_right (omega arith) bounds.0 in omega arith

  small' : s ≤ 2_097_152
  small' = let le : 2 ^ bits ≤ 2 ^ 21 = pow-le-pow_right (omega arith) bounds.1 in omega arith

  header-short : length (header_bytes K) ≤ s
  header-short = at-most _ _ (both _ _ reloads.fits).0

  table-long : length (table_bytes raw_entries) ≡ s
  table-long = let long = entries.long in let e = whole bits (omega (arith, large')) in omega (arith, words-length raw_entries, long, e)

  fit : AreFit raw_entries
  fit i lt = elim (cases_eq i 0) [
    | inl e ↦ let here = ap (λ k. slice_index raw_entries k) e ∙ entries.first in omega (arith, here, small')
    | inr some ↦ let none-there = entries.others i (omega (arith, some)) in omega (arith, none-there)
  ]

  -- No write changes the bytes of the others.
  entry-there : (i : ℕ) → i < length raw_entries → raw_entry made s i ≡ slice_index raw_entries i
  unfolding raw_entry
  entry-there i lt = be-splice-apart with_table 0 (header_bytes K) (s + 8 * i) 8 (inr (omega (arith, header-short))) ∙ table-over with_block s raw_entries i fit lt

  block-there : (k : ℕ) → k < length block → made (2 * s + k) ≡ slice_index block k
  block-there k lt =
      splice-outside with_table 0 (header_bytes K) (2 * s + k) (inr (omega (arith, header-short)))
      ∙ splice-outside with_block s (table_bytes raw_entries) (2 * s + k) (inr (omega (arith, table-long)))
      ∙ splice-inside f (2 * s) block k lt

  counter-there : (c : ℕ) → c < length counters → counter_of made (2 ^ order) (2 * s) c ≡ slice_index counters c
  counter-there c lt =
      let rows : suc c * 2 ^ order ≤ length counters * 2 ^ order = mul-le-mul_right (2 ^ order) lt in
      let size = packs.size in
      let room : c * 2 ^ order + 2 ^ order ≤ length block * 8 = omega (arith, rows, size) in
      counter-moved (bytes_of block) made order 0 (2 * s) (length block) c room (λ k less. let start : 0 + k ≡ k = omega arith in rw start (block-there k less)) ∙ packs.each c lt

  pub smallest-written : IsSmallestImage made (written K)
  unfolding written_fields counter
  smallest-written =
      let some = some-words (written K).fields shape in
      let many = counters-least (written K).fields shape in
      let table = entries.long in
      let long = numbers.long in
      record {
        loads = loads;
        size = refl;
        l1_entries = refl;
        l1_offset = refl;
        refcount_table_offset = refl;
        refcount_table_clusters = refl;
        no_snapshots = refl;
        data_inside = refl;
        first_block = entry-there 0 (omega (arith, some, table)) ∙ entries.first;
        no_other_block = λ i positive lt. entry-there i (omega (arith, table, lt)) ∙ entries.others i positive;
        allocated = λ c lt. counter-there c (omega (arith, many, long, lt)) ∙ numbers.allocated c lt;
        free = λ c le lt. counter-there c (omega (arith, long, lt)) ∙ numbers.free c le;
      }

-- Dirty tables and blocks as patches of the image file.
use Rattle.std.proofs.Common.{◌≡◌, ◌≢◌, ℕ, ◌+◌, ◌-◌, ◌*◌, ◌/◌, ◌^◌, ◌<◌, arith, ap, sym, subst, ◌∙◌, List, [], ◌∷◌, ◌++◌, length, true, false}
use Rattle.std.specs.Prelude.{nat_eq}
use Rattle.std.specs.List.{AllByRecursion, IsDistinct}
use Rattle.std.specs.Map.{keys_of}
use Rattle.std.proofs.lemmas.Bool.{eqb-false}
use Rattle.std.proofs.lemmas.List.FromFn.{length-map-range_with_len}
use Rattle.std.proofs.lemmas.Nat.{pow_pos, pow-add}
use Rattle.std.proofs.Math.Nat.{mul-div_left, zero-mul}
use Rattle.qcow2_types.specs.Bytes.{Bytes}
use Rattle.qcow2_types.specs.Words.{Layout}
use Rattle.qcow2_types.specs.Header.{Fields, Header, Shaped, cluster_size, layout_of}
use Rattle.qcow2_types.specs.Counts.{counters_of_block}
use Rattle.qcow2_types.proofs.Fields.HeaderFrame.{header-fields, header-shaped}
use Rattle.qcow2_metadata.proofs.Powers.{power-counters}
use Rattle.qcow2_types.specs.TableBytes.{table_bytes, block_bytes}
use Rattle.qcow2_types.specs.Consistency.{IsConsistent}
use Rattle.qcow2_types.proofs.Changes.Over.{IsClear, words-length}
use Rattle.qcow2_types.proofs.Counting.Parts.{block_of, table_of}
use Rattle.qcow2_types.proofs.Changes.Patches.{IsPatch, clear-of-other}
use Rattle.qcow2_metadata.specs.Tables.{TableValue, IsTable, l2_table_kind}
use Rattle.qcow2_metadata.specs.Blocks.{Block}
use Rattle.qcow2_alloc.specs.Memory.{Cached, patches}
use Rattle.qcow2_alloc.specs.WellFormedness.{IsCachedTable, IsCachedBlock}
use Rattle.qcow2_alloc.proofs.Memory.EntryKinds.{table_kind, block_kind, patches-all}

pub all-append : {X : Type 0} (P : X → Type 0) (xs ys : List X) → AllByRecursion P xs → AllByRecursion P ys → AllByRecursion P (xs ++ ys)
all-append P [] ys first second = second
all-append P (x ∷ xs) ys first second = (first.0, all-append P xs ys first.1 second)

pub all-front : {X : Type 0} (P : X → Type 0) (xs ys : List X) → AllByRecursion P (xs ++ ys) → AllByRecursion P xs
all-front P [] ys all = tt
all-front P (x ∷ xs) ys all = (all.0, all-front P xs ys all.1)

pub all-back : {X : Type 0} (P : X → Type 0) (xs ys : List X) → AllByRecursion P (xs ++ ys) → AllByRecursion P ys
all-back P [] ys all = all
all-back P (x ∷ xs) ys all = all-back P xs ys all.1

pub all-weaker : {X : Type 0} (P Q : X → Type 0) → ((x : X) → P x → Q x) → (xs : List X) → AllByRecursion P xs → AllByRecursion Q xs
all-weaker P Q from [] all = tt
all-weaker P Q from (x ∷ xs) all = (from x all.0, all-weaker P Q from xs all.1)

pub all-both : {X : Type 0} (P Q : X → Type 0) (xs : List X) → AllByRecursion P xs → AllByRecursion Q xs → AllByRecursion (λ x. P x × Q x) xs
all-both P Q [] first second = tt
all-both P Q (x ∷ xs) first second = ((first.0, second.0), all-both P Q xs first.1 second.1)

-- The entries around an entry have other keys.
module _ {V : Type 0} where
  others-after : (key : ℕ) (es : List (ℕ × V)) → AllByRecursion (λ y. nat_eq key y ≡ false) (keys_of es) → AllByRecursion (λ e. key ≢ e.0) es
  others-after key [] all = tt
  others-after key (e ∷ es) all = (eqb-false key e.0 all.0, others-after key es all.1)

  one-after : (x key : ℕ) (v : V) (front back : List (ℕ × V)) → AllByRecursion (λ y. nat_eq x y ≡ false) (keys_of (front ++ (key, v) ∷ back)) → key ≢ x
  one-after x key v [] back all = λ e. eqb-false x key all.0 (sym e)
  one-after x key v (e ∷ front) back all = one-after x key v front back all.1

  pub others-before : (key : ℕ) (v : V) (front back : List (ℕ × V)) → IsDistinct nat_eq (keys_of (front ++ (key, v) ∷ back)) → AllByRecursion (λ e. key ≢ e.0) front
  unfolding IsDistinct
  others-before key v [] back apart = tt
  others-before key v (e ∷ front) back apart = (one-after e.0 key v front back apart.0, others-before key v front back apart.1)

  pub others-behind : (key : ℕ) (v : V) (front back : List (ℕ × V)) → IsDistinct nat_eq (keys_of (front ++ (key, v) ∷ back)) → AllByRecursion (λ e. key ≢ e.0) back
  unfolding IsDistinct
  others-behind key v [] back apart = others-after key back apart.0
  others-behind key v (e ∷ front) back apart = others-behind key v front back apart.1

pub places-differ : (size a b : ℕ) → 0 < size → a ≢ b → a * size ≢ b * size
places-differ size a b some apart same = apart (sym (mul-div_left a some) ∙ ap (λ n. n / size) same ∙ mul-div_left b some)

pub place-there : (size a : ℕ) → 0 < size → a ≢ 0 → a * size ≢ 0
place-there size a some apart none = places-differ size a 0 some apart (none ∙ sym (zero-mul size))

pub block-length : (h : Fields) → Shaped h → (order : ℕ) (counters : List ℕ) → order ≡ h.refcount_order → length counters ≡ counters_of_block h → length (block_bytes order counters) ≡ cluster_size h
unfolding block_bytes
block-length h shaped order counters same long =
    let some : length (block_bytes order counters) ≡ length counters * 2 ^ order / 8 = length-map-range_with_len _ 0 (length counters * 2 ^ order / 8) in
    let bits : h.cluster_bits + 3 - h.refcount_order + h.refcount_order ≡ h.cluster_bits + 3 = omega (arith, shaped.low, shaped.order) in
    let whole : length counters * 2 ^ order ≡ 2 ^ h.cluster_bits * 8 =
    ap (λ n. n * 2 ^ order) (long ∙ sym (power-counters h shaped)) ∙ ap (λ o. 2 ^ (h.cluster_bits + 3 - h.refcount_order) * 2 ^ o) same
    ∙ sym (pow-add 2 (h.cluster_bits + 3 - h.refcount_order) h.refcount_order) ∙ ap (λ e. 2 ^ e) bits ∙ pow-add 2 h.cluster_bits 3 in
    some ∙ ap (λ n. n / 8) whole ∙ mul-div_left (2 ^ h.cluster_bits) (omega arith)

pub table-no-block : (i j : ℕ) → table_of i ≡ block_of j → ⊥
table-no-block i j same = cc

module _ (f : Bytes) (H : Header) (was : IsConsistent f H) where
  pub shaped-in : Shaped H.fields
  shaped-in = subst Shaped (sym (header-fields true f H was.readable.loads)) (header-shaped true f H was.readable.loads)

  pub table-long : (table : TableValue) → IsTable l2_table_kind table → table.layout ≡ layout_of H.fields → length (table_bytes table.raw_entries) ≡ cluster_size H.fields
  table-long table fits same =
      let bytes : length (table_bytes table.raw_entries) ≡ 8 * length table.raw_entries = words-length table.raw_entries in
      let whole : length table.raw_entries * 8 ≡ 2 ^ table.layout.cluster_bits = fits.long in
      let bits : 2 ^ table.layout.cluster_bits ≡ cluster_size H.fields = ap (λ (l : Layout). 2 ^ l.cluster_bits) same in
      omega (arith, bytes, whole, bits)

  -- The patch of a dirty table is at a table of the file.
  pub table-is-patch : (cluster : ℕ) (table : TableValue) → IsCachedTable f H.fields cluster table → table.modified ≡ true → IsPatch f H.fields (cluster * cluster_size H.fields, table_bytes table.raw_entries)
  table-is-patch cluster table cached modified =
      let live = cached.modified modified in
      record {
        part = table_of live.0;
        inside = live.1;
        place = live.2;
        there = place-there (cluster_size H.fields) cluster (pow_pos H.fields.cluster_bits) live.3;
        long = table-long table cached.fits cached.layout;
      }

  -- The patch of a dirty block is at a block of the file.
  pub block-is-patch : (cluster : ℕ) (block : Block) → IsCachedBlock f H.fields cluster block → block.modified ≡ true → IsPatch f H.fields (cluster * cluster_size H.fields, block_bytes block.order block.counters)
  block-is-patch cluster block cached modified =
      let live = cached.modified modified in
      record {
        part = block_of live.0;
        inside = live.1;
        place = live.2;
        there = place-there (cluster_size H.fields) cluster (pow_pos H.fields.cluster_bits) live.3;
        long = block-length H.fields shaped-in block.order block.counters cached.order cached.long;
      }

  -- Patches of tables and of blocks don't overlap.
  pub table-clear-of-block : (cluster : ℕ) (table : TableValue) (is : IsCachedTable f H.fields cluster table) (modified : table.modified ≡ true) (other : ℕ) (block : Block) (is' : IsCachedBlock f H.fields other block) → block.modified ≡ true
      → IsClear (cluster * cluster_size H.fields) (length (table_bytes table.raw_entries)) (other * cluster_size H.fields, block_bytes block.order block.counters)
  unfolding table-is-patch block-is-patch
  table-clear-of-block cluster table is modified other block is' modified' =
      clear-of-other f H was (cluster * cluster_size H.fields, table_bytes table.raw_entries) (other * cluster_size H.fields, block_bytes block.order block.counters)
      (table-is-patch cluster table is modified) (block-is-patch other block is' modified') (λ same. table-no-block (is.modified modified).0 (is'.modified modified').0 same)

  pub block-clear-of-table : (cluster : ℕ) (block : Block) (is : IsCachedBlock f H.fields cluster block) (modified : block.modified ≡ true) → (other : ℕ) (table : TableValue) → IsCachedTable f H.fields other table → table.modified ≡ true
      → IsClear (cluster * cluster_size H.fields) (length (block_bytes block.order block.counters)) (other * cluster_size H.fields, table_bytes table.raw_entries)
  unfolding table-is-patch block-is-patch
  block-clear-of-table cluster block is modified other table is' modified' =
      clear-of-other f H was (cluster * cluster_size H.fields, block_bytes block.order block.counters) (other * cluster_size H.fields, table_bytes table.raw_entries)
      (block-is-patch cluster block is modified) (table-is-patch other table is' modified') (λ same. table-no-block (is'.modified modified').0 (is.modified modified).0 (sym same))

  pub patches-are : (cached : Cached) → AllByRecursion (λ e. IsCachedTable f H.fields e.0 e.1.value) cached.tables → AllByRecursion (λ e. IsCachedBlock f H.fields e.0 e.1.value) cached.blocks
      → AllByRecursion (IsPatch f H.fields) (patches H.fields cached)
  patches-are cached tables blocks =
      let size : ℕ = cluster_size H.fields in
      all-append (IsPatch f H.fields) _ _
      (patches-all table_kind (IsPatch f H.fields) (cluster_size H.fields) cached.tables (all-weaker _ _ (λ e is. table-is-patch e.0 e.1.value is) cached.tables tables))
      (patches-all block_kind (IsPatch f H.fields) (cluster_size H.fields) cached.blocks (all-weaker _ _ (λ e is m. block-is-patch e.0 e.1.value is m) cached.blocks blocks))

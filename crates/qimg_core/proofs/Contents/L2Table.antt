-- The references of an L2 table, from its loaded entries.
use Rattle.std.proofs.Common.{◌≡◌, ℕ, zero, suc, ◌+◌, ◌*◌, ◌/◌, ◌^◌, ◌≤◌, refl, arith, ap, sym, ◌∙◌, List, length}
use Rattle.std.specs.Prelude.{true, not, IsTrue}
use Rattle.std.proofs.Math.Nat.{pow-le-pow_right}
use Rattle.std.proofs.lemmas.List.Sums.{sum_by_push}
use Rattle.imago_storage.specs.State.{StorageState}
use Rattle.imago_storage.specs.declared.fault.Fault.{Fault}
use Rattle.imago_storage.specs.declared.fault.Fault.TheVariants.{Memory, Storage, Limit, DamagedTable}
use Rattle.qcow2_types.specs.Bytes.{Bytes, bytes_of, raw_entry, sum_below}
use Rattle.qcow2_types.specs.Words.{Mapping, unmapped, is_cluster_offset, mapping_of, is_damaged}
use Rattle.qcow2_types.specs.Header.{Fields, cluster_size, entries_of_cluster, layout_of}
use Rattle.qcow2_types.specs.Entries.{l2_mapping, l2_table_sound}
use Rattle.qcow2_types.specs.References.{meets, of_mapping, of_copied, of_table}
use Rattle.qcow2_types.proofs.Counting.Limit.{sum-zero}
use Rattle.qcow2_types.proofs.Counting.Sound.{all-below-holds}
use Rattle.qcow2_types.proofs.Numbers.Sums.{sum-none, sum-more}
use Rattle.qcow2_types.proofs.Numbers.WordLemmas.{zero-word}
use Rattle.qcow2_metadata.specs.Tables.{WhyNotLoaded, raw_entries_in, l2_table_kind}
use Rattle.qcow2_metadata.proofs.TableFacts.{words_long, words_more}
use Rattle.qimg_core.specs.declared.check.CheckFault.TheVariants.{Table}
use Rattle.qimg_core.specs.declared.check.names.Tallies.{Tallies}
use Rattle.qcow2_metadata.specs.Loading.{file}
use Rattle.qimg_core.specs.Entering.{AddsRawEntries, AddsTable}
use Rattle.qimg_core.specs.Names.{referenced_by, mapped_part, copied_part}
use Rattle.qimg_core.specs.Check.{IsDamagedTable, fault_of_load, Found}
use Rattle.qimg_core.specs.CheckParts.{entries_over}
use Rattle.qimg_core.proofs.Tables.FewerWords.{past-word}
use Rattle.qimg_core.proofs.Tables.L2Words.{l2-unsound}
use Rattle.qcow2_types.proofs.Changes.WriteBack.{place-whole}

-- The sum over the first `n` entries.
words-summed : (f : Bytes) (h : Fields) (of : Mapping → ℕ) (place n : ℕ) → entries_over h of (raw_entries_in f place n) ≡ sum_below n (λ i. of (l2_mapping f h place i))
unfolding entries_over
words-summed f h of place zero = sym (sum-none (λ i. of (l2_mapping f h place i)))
words-summed f h of place (suc n) =
    let next : suc n ≡ n + 1 = omega arith in
    let before : entries_over h of (raw_entries_in f place n) ≡ sum_below n (λ i. of (l2_mapping f h place i)) = words-summed f h of place n in
    ap (λ k. entries_over h of (raw_entries_in f place k)) next
    ∙ ap (entries_over h of) (words_more f place n)
    ∙ sum_by_push (λ w. of (mapping_of (layout_of h) w)) (raw_entries_in f place n) (raw_entry f place n)
    ∙ ap (λ k. k + of (l2_mapping f h place n)) before
    ∙ turned (sum_below n (λ i. of (l2_mapping f h place i))) (of (l2_mapping f h place n))
    ∙ sym (sum-more n (λ i. of (l2_mapping f h place i)))
    ∙ ap (λ k. sum_below k (λ i. of (l2_mapping f h place i))) (sym next)
  where
    turned : (a b : ℕ) → a + b ≡ b + a
    turned a b = omega arith

-- The sum over all entries.
table-summed : (f : Bytes) (h : Fields) (of : Mapping → ℕ) (place : ℕ) (raw_entries : List ℕ) → raw_entries ≡ raw_entries_in f place (entries_of_cluster h) → entries_over h of raw_entries ≡ of_table f h of place
unfolding of_table
table-summed f h of place raw_entries is = ap (entries_over h of) is ∙ words-summed f h of place (entries_of_cluster h)

-- Adding the loaded entries adds what the table references.
pub adds-table : (f : Bytes) (h : Fields) (times : ℕ) (old new : Tallies) (place : ℕ) (raw_entries : List ℕ) → raw_entries ≡ raw_entries_in f place (entries_of_cluster h)
    → AddsRawEntries h times old new raw_entries → AddsTable f h times old new place
adds-table f h times old new place raw_entries is adds = record {
  structure = adds.structure;
  mapped = λ c. adds.mapped c ∙ ap (λ n. referenced_by mapped_part c old + times * n) (table-summed f h (of_mapping h (meets h c)) place raw_entries is);
  copied = λ c. adds.copied c ∙ ap (λ n. referenced_by copied_part c old + times * n) (table-summed f h (of_copied h (meets h c)) place raw_entries is);
  cells = adds.cells;
  spares = adds.spares;
}

-- A table past the end of the file.
module _ (bytes : List ℕ) (h : Fields) (place : ℕ) (past : length bytes ≤ place) where
  -- Each entry leaves its guest cluster unmapped.
  past-mapping : (i : ℕ) → l2_mapping (bytes_of bytes) h place i ≡ unmapped
  past-mapping i = ap (mapping_of (layout_of h)) (past-word bytes place i (omega (arith, past))) ∙ zero-word (layout_of h)

  -- The table references nothing.
  past-table : (of : Mapping → ℕ) → of unmapped ≡ 0 → of_table (bytes_of bytes) h of place ≡ 0
  unfolding of_table
  past-table of none = sum-zero (entries_of_cluster h) (λ i. of (l2_mapping (bytes_of bytes) h place i)) (λ i lt. ap of (past-mapping i) ∙ none)

  pub adds-past : (times : ℕ) (names : Tallies) → AddsTable (bytes_of bytes) h times names names place
  adds-past times names = record {
    structure = λ c. omega arith;
    mapped = λ c. nothing _ _ (past-table (of_mapping h (meets h c)) refl);
    copied = λ c. nothing _ _ (past-table (of_copied h (meets h c)) refl);
    cells = refl;
    spares = λ spared. spared;
  }
    where
      nothing : (n x : ℕ) → x ≡ 0 → n ≡ n + times * x
      nothing n x e = rw e (grind arith)

  -- The table is valid.
  pub past-sound : l2_table_sound (bytes_of bytes) h place ≡ true
  unfolding l2_table_sound
  past-sound = all-below-holds (entries_of_cluster h) (λ i. not (is_damaged (l2_mapping (bytes_of bytes) h place i))) (λ i lt. ap (λ m. not (is_damaged m)) (past-mapping i))

module _ (f : Bytes) (h : Fields) (place cluster : ℕ) (is : IsTrue (is_cluster_offset h.cluster_bits place)) (begins : cluster ≡ place / 2 ^ h.cluster_bits) where
  pub l2-begin : cluster * cluster_size h ≡ place
  l2-begin = ap (λ k. k * 2 ^ h.cluster_bits) begins ∙ place-whole h.cluster_bits place is

  pub l2-words : (raw_entries : List ℕ) → raw_entries ≡ raw_entries_in f (cluster * cluster_size h) (entries_of_cluster h) → raw_entries ≡ raw_entries_in f place (entries_of_cluster h)
  l2-words raw_entries loaded = loaded ∙ ap (λ p. raw_entries_in f p (entries_of_cluster h)) l2-begin

-- If the L2 table isn't loaded because it is damaged, that is the finding.
pub l2-finding : (old new : StorageState) (h : Fields) (place cluster : ℕ) → IsTrue (is_cluster_offset h.cluster_bits place) → cluster ≡ place / 2 ^ h.cluster_bits → h.cluster_bits ≤ 21 → (fault : Fault)
    → WhyNotLoaded l2_table_kind (layout_of h) (raw_entries_in (file old) (cluster * cluster_size h) (entries_of_cluster h)) old.faults new.faults fault → Found old new (IsDamagedTable (file old) h place) (fault_of_load Table fault)
l2-finding old new h place cluster is begins high Memory why = why
l2-finding old new h place cluster is begins high Storage why = why
l2-finding old new h place cluster is begins high DamagedTable why = (l2-unsound (file old) h place cluster (l2-begin (file old) h place cluster is begins) why.0, why.1)
l2-finding old new h place cluster is begins high (Limit k) why =
    let most : 2 ^ h.cluster_bits ≤ 2 ^ 21 = pow-le-pow_right (omega arith) high in
    absurd (omega (arith, why.0, why.1, words_long (file old) (cluster * cluster_size h) (entries_of_cluster h)))
l2-finding old new h place cluster is begins high fault why = absurd why

-- The references of an L2 table, entry by entry.
use Rattle.std.proofs.Common.{◌≡◌, ℕ, ◌+◌, ◌*◌, ◌<◌, refl, arith, ap, sym, ◌∙◌, List, length, take, ◌%◌, subst}
use Rattle.std.specs.Prelude.{slice_index}
use Rattle.std.specs.List.{sum_by}
use Rattle.std.proofs.Math.Nat.{mod-eq_of_lt}
use Rattle.qcow2_types.specs.Entries.{l2_entries}
use Rattle.std.proofs.lemmas.List.{take_more, take_all}
use Rattle.std.proofs.lemmas.List.Sums.{sum_by_push}
use Rattle.qcow2_types.specs.Words.{Mapping, Layout, mapping_of}
use Rattle.qcow2_types.specs.Header.{Fields, layout_of, entries_of_cluster}
use Rattle.qcow2_types.specs.References.{meets, of_mapping, of_copied}
use Rattle.qimg_core.specs.declared.check.names.Tallies.{Tallies}
use Rattle.qimg_core.specs.Entering.{AddsMapping, AddsRawEntries}
use Rattle.qimg_core.specs.Names.{referenced_by, mapped_part, copied_part}
use Rattle.qimg_core.specs.CheckParts.{entries_over}

words-none : (h : Fields) (of : Mapping → ℕ) (raw_entries : List ℕ) → entries_over h of (take 0 raw_entries) ≡ 0
unfolding entries_over
words-none h of raw_entries = refl

words-step : (h : Fields) (of : Mapping → ℕ) (raw_entries : List ℕ) (i : ℕ) → i < length raw_entries → entries_over h of (take (i + 1) raw_entries) ≡ entries_over h of (take i raw_entries) + of (mapping_of (layout_of h) (slice_index raw_entries i))
unfolding entries_over
words-step h of raw_entries i lt =
    ap (sum_by (λ w. of (mapping_of (layout_of h) w))) (take_more raw_entries i 0 lt)
    ∙ sum_by_push (λ w. of (mapping_of (layout_of h) w)) (take i raw_entries) (slice_index raw_entries i)

pub adds-no-words : (h : Fields) (times : ℕ) (xs : Tallies) (raw_entries : List ℕ) → AddsRawEntries h times xs xs (take 0 raw_entries)
adds-no-words h times xs raw_entries = record {
  structure = λ c. omega arith;
  mapped = λ c. none (referenced_by mapped_part c xs) (words-none h (of_mapping h (meets h c)) raw_entries);
  copied = λ c. none (referenced_by copied_part c xs) (words-none h (of_copied h (meets h c)) raw_entries);
  cells = refl;
  spares = λ spared. spared;
}
  where
    none : (n : ℕ) {x : ℕ} → x ≡ 0 → n ≡ n + times * x
    none n {x} e = rw e (grind arith)

pub adds-word : (h : Fields) (times : ℕ) (old now new : Tallies) (raw_entries : List ℕ) (i : ℕ) (m : Mapping) → i < length raw_entries → m ≡ mapping_of (layout_of h) (slice_index raw_entries i) → AddsRawEntries h times old now (take i raw_entries)
    → AddsMapping h times now new m → AddsRawEntries h times old new (take (i + 1) raw_entries)
adds-word h times old now new raw_entries i m lt is before here = record {
  structure = λ c. here.structure c ∙ ap (λ n. n + 0) (before.structure c) ∙ omega arith;
  mapped = λ c. more (of_mapping h (meets h c)) _ _ _ (before.mapped c) (here.mapped c);
  copied = λ c. more (of_copied h (meets h c)) _ _ _ (before.copied c) (here.copied c);
  cells = here.cells ∙ before.cells;
  spares = λ spared. here.spares (before.spares spared);
}
  where
    step : (a b d x y z : ℕ) → d ≡ b + times * x → b ≡ a + times * y → z ≡ y + x → d ≡ a + times * z
    step a b d x y z p q r = rw r (grind arith)

    more : (of : Mapping → ℕ) (a b d : ℕ) → b ≡ a + times * entries_over h of (take i raw_entries) → d ≡ b + times * of m → d ≡ a + times * entries_over h of (take (i + 1) raw_entries)
    more of a b d p q = step a b d (of m) (entries_over h of (take i raw_entries)) (entries_over h of (take (i + 1) raw_entries)) q p (words-step h of raw_entries i lt ∙ ap (λ n. entries_over h of (take i raw_entries) + of n) (sym is))

-- The mapping of an entry, by the layout in the header.
pub word-meant : (h : Fields) (layout : Layout) (raw_entries : List ℕ) (i : ℕ) (m : Mapping) → layout ≡ layout_of h → i < entries_of_cluster h → m ≡ mapping_of layout (slice_index raw_entries (i % l2_entries layout.cluster_bits)) → m ≡ mapping_of (layout_of h) (slice_index raw_entries i)
word-meant h layout raw_entries i m same lt is =
    is ∙ ap (λ (l : Layout). mapping_of l (slice_index raw_entries (i % l2_entries l.cluster_bits))) same ∙ ap (λ k. mapping_of (layout_of h) (slice_index raw_entries k)) (mod-eq_of_lt lt)

pub adds-all-words : (h : Fields) (times : ℕ) (old new : Tallies) (raw_entries : List ℕ) (i : ℕ) → i ≡ length raw_entries → AddsRawEntries h times old new (take i raw_entries) → AddsRawEntries h times old new raw_entries
adds-all-words h times old new raw_entries i all adds = subst (AddsRawEntries h times old new) (take_all i raw_entries (omega arith)) adds

use Rattle.std.proofs.Common.{◌≡◌, ℕ, ◌*◌, ◌/◌, ◌%◌, ◌^◌, ◌≤◌, refl, arith, ap, sym, subst, ◌∙◌, Ok, Some, true}
use Rattle.std.proofs.Math.Nat.{div-add-mod}
use Rattle.qcow2_types.specs.Header.{Fields, cluster_size}
use Rattle.qcow2_types.specs.Words.{max_offset}
use Rattle.qcow2_metadata.specs.Tables.{TableValue}
use Rattle.qcow2_clusters.specs.MakingTables.{PlacesL1}
use Rattle.qcow2_clusters.proofs.making_tables.place_l1.Goals as goal

-- The table with its cluster there.
abbrev put_at : TableValue → ℕ → TableValue
put_at l1 cluster = record { layout = l1.layout; raw_entries = l1.raw_entries; cluster = Some cluster; modified = true }

placed : (h : Fields) (l1 : TableValue) (cluster : ℕ) → l1.layout.cluster_bits ≡ h.cluster_bits → h.l1_offset % cluster_size h ≡ 0
    → cluster ≡ h.l1_offset / cluster_size h → h.l1_offset ≤ max_offset → PlacesL1 h l1 (Ok tt) (put_at l1 cluster)
placed h l1 cluster bits whole is near = record {
  same = record { layout = refl; raw_entries = refl };
  bits = bits;
  placed = subst (λ p. p ≤ max_offset) (sym begin) near;
  place = begin;
  err = tt;
  cause = tt;
} where
  begin : cluster * 2 ^ l1.layout.cluster_bits ≡ h.l1_offset
  begin =
      ap (λ n. n * 2 ^ l1.layout.cluster_bits) is ∙ ap (λ b. h.l1_offset / cluster_size h * 2 ^ b) bits
      ∙ omega (arith, whole, div-add-mod h.l1_offset (cluster_size h))

pub returns : goal.returns
returns c =
    let h = c.args.header.now.fields in
    let l1 = c.args.l1.now in
    let bits = c.cluster_bits-bits.ensures.value in
    let offset = c.l1_table_offset-offset.ensures in
    let there = c.in-Some.ensures in
    subst (PlacesL1 h l1 (Ok tt)) (sym c.set_cluster.ensures)
    (placed h l1 c.in-Some.cluster (sym c.cluster_bits.ensures.value ∙ c.if-cluster_bits-bits.false ∙ bits)
    (subst (λ b. h.l1_offset % 2 ^ b ≡ 0) bits (subst (λ o. o % 2 ^ c.cluster_bits-bits.result ≡ 0) offset there.0))
    (there.1 ∙ ap (λ b. c.l1_table_offset-offset.result / 2 ^ b) bits ∙ ap (λ o. o / cluster_size h) offset)
    (omega (arith, offset)))

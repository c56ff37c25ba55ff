-- Placing a grown copy of the refcount table in a free area, in memory.
use Rattle.std.proofs.Common.{◌≡◌, ◌≢◌, ℕ, ◌+◌, ◌-◌, ◌*◌, ◌/◌, ◌%◌, ◌^◌, ◌≤◌, arith, ap, sym, subst, ◌∙◌, length, Some, true}
use Rattle.std.specs.Prelude.{IsTrue, slice_index}
use Rattle.std.proofs.Math.Nat.{div-add-mod, mul-mod_left}
use Rattle.qcow2_types.specs.Counts.{counters_of_block}
use Rattle.qcow2_types.specs.Header.{Fields, entries_of_cluster, layout_of}
use Rattle.qcow2_types.specs.Words.{Layout, block_offset, reftable_entry_valid}
use Rattle.qcow2_metadata.specs.Places.{IsAddressable}
use Rattle.qcow2_metadata.specs.Tables.{TableValue, IsTable, refcount_table_kind}
use Rattle.qcow2_metadata.proofs.Placing.{whole_entries}
use Rattle.qcow2_metadata.proofs.TableSteps.{padded_at}
use Rattle.qcow2_alloc.specs.declared.allocation.searching.Run.{Run}
use Rattle.qcow2_alloc.specs.Growing.{lacking}
use Rattle.qcow2_alloc.specs.MakingBlocks.{CanReference}
use Rattle.qcow2_alloc.specs.MovingTables.{clusters_of, LinksNewBlocks, IsCopyFor, IsPlan}
use Rattle.qcow2_alloc.proofs.Growth.TableMoves.{cluster-words}

pub whole-fill : (h : Fields) (l : ℕ) → 9 ≤ h.cluster_bits → l % entries_of_cluster h ≡ 0 → 8 * l % 2 ^ h.cluster_bits ≡ 0
whole-fill h l low whole =
    let parts = div-add-mod l (entries_of_cluster h) in
    let row = cluster-words h low in
    let all : l / entries_of_cluster h * (8 * entries_of_cluster h) ≡ l / entries_of_cluster h * 2 ^ h.cluster_bits = ap (λ w. l / entries_of_cluster h * w) row in
    let same : 8 * l ≡ l / entries_of_cluster h * 2 ^ h.cluster_bits = omega (arith, parts, whole, all) in
    ap (λ x. x % 2 ^ h.cluster_bits) same ∙ mul-mod_left (l / entries_of_cluster h) (2 ^ h.cluster_bits)

module _ (h : Fields) (table : TableValue) (run : Run) (grown placed copy : TableValue) (for : IsCopyFor h table run grown) (low : 9 ≤ h.cluster_bits) (there : placed ≡ record grown { cluster = Some (run.first + lacking table (counters_of_block h) run.first run.len); modified = true })
    (names : LinksNewBlocks h table run placed copy) (was : IsTable refcount_table_kind grown) where
  long-is : length copy.raw_entries ≡ length grown.raw_entries
  long-is = names.long ∙ ap (λ (t : TableValue). length t.raw_entries) there

  clusters-are : clusters_of copy h.cluster_bits ≡ clusters_of grown h.cluster_bits
  clusters-are = ap (λ l. (8 * l + (2 ^ h.cluster_bits - 1)) / 2 ^ h.cluster_bits) long-is

  layout-is : copy.layout ≡ layout_of h
  layout-is = names.layout ∙ ap (λ (t : TableValue). t.layout) there ∙ ap (λ (t : TableValue). t.layout) for.copied

  clusters-fill : clusters_of copy h.cluster_bits * entries_of_cluster h ≡ length copy.raw_entries
  clusters-fill = whole_entries h (length copy.raw_entries) low (whole-fill h (length copy.raw_entries) low (ap (λ l. l % entries_of_cluster h) long-is ∙ for.whole))

  old-word : (i : ℕ) → slice_index placed.raw_entries i ≡ slice_index table.raw_entries i
  old-word i = ap (λ (t : TableValue). slice_index t.raw_entries i) there ∙ ap (λ (t : TableValue). slice_index t.raw_entries i) for.copied ∙ padded_at table.raw_entries (length grown.raw_entries) i

  -- The entries of the copy are valid, like those of the grown copy before.
  is : IsTable refcount_table_kind copy
  is =
      names.table (subst (λ (t : TableValue). IsTable refcount_table_kind t) (sym there) (record { low = was.low; high = was.high; long = was.long; sound = was.sound; fit = was.fit }))
      (ap (λ (t : TableValue). t.layout.cluster_bits) there ∙ ap (λ (t : TableValue). t.layout.cluster_bits) for.copied)

  pub copy-planned : run.first ≢ 0 → CanReference table h.cluster_bits (run.first + (run.len - 1)) → IsAddressable h.cluster_bits (run.first + (run.len - 1)) → run.first + run.len ≤ length grown.raw_entries * counters_of_block h
      → IsPlan h table run copy × (length copy.raw_entries ≡ length grown.raw_entries)
  copy-planned some can reach inside = (
    record {
      grown = record {
        layout = layout-is;
        long = sym clusters-fill;
        longer = let le = for.longer in let same = long-is in omega (arith, le, same);
        table_bounded = is.long;
        placed = names.placed ∙ ap (λ (t : TableValue). t.cluster) there;
        sane = λ i lt. subst (λ (l : Layout). IsTrue (reftable_entry_valid l.cluster_bits (slice_index copy.raw_entries i))) layout-is (is.sound i lt);
        fit = is.fit;
        news = names.news;
        olds = λ i off. ap block_offset (names.olds i off ∙ old-word i);
      };
      room = record {
        start_nonzero = some;
        more = let more = for.more in let same = clusters-are in omega (arith, more, same);
        enough = for.enough ∙ ap (λ n. n + lacking table (counters_of_block h) run.first run.len) (sym clusters-are);
        reach = reach;
        inside = subst (λ w. run.first + run.len ≤ w * counters_of_block h) (sym (clusters-fill ∙ long-is)) inside;
      };
      placed = can.placed;
      bits = can.bits;
    },
    long-is,
  )

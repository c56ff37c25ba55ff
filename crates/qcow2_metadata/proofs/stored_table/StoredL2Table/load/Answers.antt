use Rattle.std.proofs.Common.{◌≡◌, ◌*◌, ◌/◌, ◌^◌, ◌≤◌, ◌∙◌, ℕ, List, ap, sym, subst, refl, arith, length}
use Rattle.qcow2_types.specs.Bytes.{bytes_of}
use Rattle.qcow2_types.specs.Header.{cluster_size, layout_of, entries_of_cluster}
use Rattle.qcow2_metadata.specs.Tables.{l2_table_kind, raw_entries_in, AreSound, IsLength, max_entries}
use Rattle.qcow2_metadata.proofs.GrowthLemmas.{cluster_words_bounds}
use Rattle.qcow2_metadata.proofs.TableFacts.{asked_is_length, words_long}
use Rattle.qcow2_metadata.proofs.stored_table.StoredL2Table.load.Goals as goal

pub load_bytes-requires-clause-entries_bounded : goal.load_bytes-requires-clause-entries_bounded
load_bytes-requires-clause-entries_bounded g c =
    let h = c.args.header.now.fields in
    let few : entries_of_cluster h ≤ 2 ^ 18 = (cluster_words_bounds h c.of_header-layout.ensures.shaped).1 in
    omega (arith, few, c.l2_entries.ensures)

pub invariant_of-result : goal.invariant_of-result
invariant_of-result g c =
    let h = c.args.header.now.fields in
    let shaped = c.of_header-layout.ensures.shaped in
    let few : entries_of_cluster h ≤ max_entries l2_table_kind = (cluster_words_bounds h shaped).1 in
    let f = bytes_of (g.S.Storage.state c.args.image.now).bytes in
    let count : length (raw_entries_in (bytes_of c.in_ok-bytes.bytes.items) 0 (length c.in_ok-bytes.bytes.items / 8)) ≡ entries_of_cluster h = ap length c.in_ok-bytes.ensures.raw_entries ∙ words_long f (c.args.cluster * cluster_size h) c.l2_entries.result ∙ c.l2_entries.ensures in
    let same = ap (λ (bs : List ℕ). raw_entries_in (bytes_of bs) 0 (length bs / 8)) c.deref.ensures.value in
    record {
      low = rw c.of_header-layout.ensures.value shaped.low;
      high = rw c.of_header-layout.ensures.value shaped.high;
      long = rw c.of_header-layout.ensures.value (subst (IsLength l2_table_kind (layout_of h)) (sym count) (asked_is_length l2_table_kind h (entries_of_cluster h) shaped few refl));
      sound = rw c.of_header-layout.ensures.value (subst (AreSound l2_table_kind (layout_of h)) same c.in_ok-check_raw_entries.ensures.sound);
    }

-- The entries of a loaded L2 table, valid or not.
use Rattle.std.proofs.Common.{◌≡◌, ℕ, ◌*◌, ◌<◌, arith, ap, sym, ◌∙◌, length}
use Rattle.std.specs.Prelude.{true, false, not, slice_index}
use Rattle.qcow2_types.specs.Bytes.{Bytes, raw_entry}
use Rattle.qcow2_types.specs.Words.{mapping_of, is_damaged}
use Rattle.qcow2_types.specs.Header.{Fields, cluster_size, entries_of_cluster, layout_of}
use Rattle.qcow2_types.specs.Entries.{l2_mapping, l2_table_sound}
use Rattle.qcow2_types.proofs.Counting.Sound.{all-below-holds}
use Rattle.qcow2_metadata.specs.Tables.{AreSound, HasUnsound, raw_entries_in, l2_table_kind}
use Rattle.qcow2_metadata.proofs.TableFacts.{words_long, words_at}
use Rattle.qimg_core.proofs.Tables.Tests.{tests-miss}

module _ (f : Bytes) (h : Fields) (place cluster : ℕ) (begin : cluster * cluster_size h ≡ place) where
  -- A loaded entry is the one in the file.
  pub l2-word : (j : ℕ) → j < entries_of_cluster h → slice_index (raw_entries_in f (cluster * cluster_size h) (entries_of_cluster h)) j ≡ raw_entry f place j
  l2-word j lt = words_at f _ _ j lt ∙ ap (λ p. raw_entry f p j) begin

  -- If all entries are valid, the table is.
  pub l2-sound : AreSound l2_table_kind (layout_of h) (raw_entries_in f (cluster * cluster_size h) (entries_of_cluster h)) → l2_table_sound f h place ≡ true
  unfolding l2_table_sound
  l2-sound sound = all-below-holds (entries_of_cluster h) (λ j. not (is_damaged (l2_mapping f h place j))) (λ j lt.
      let inside : j < length (raw_entries_in f (cluster * cluster_size h) (entries_of_cluster h)) = omega (arith, words_long f (cluster * cluster_size h) (entries_of_cluster h)) in
      ap (λ w. not (is_damaged (mapping_of (layout_of h) w))) (sym (l2-word j lt)) ∙ sound j inside)

  -- If one entry is invalid, the table is damaged.
  pub l2-unsound : HasUnsound l2_table_kind (layout_of h) (raw_entries_in f (cluster * cluster_size h) (entries_of_cluster h)) → l2_table_sound f h place ≡ false
  unfolding l2_table_sound
  l2-unsound unsound =
      let lt : unsound.0 < entries_of_cluster h = omega (arith, words_long f (cluster * cluster_size h) (entries_of_cluster h), unsound.1) in
      tests-miss (entries_of_cluster h) unsound.0 (λ k. not (is_damaged (l2_mapping f h place k))) lt (ap (λ w. not (is_damaged (mapping_of (layout_of h) w))) (sym (l2-word unsound.0 lt)) ∙ unsound.2)

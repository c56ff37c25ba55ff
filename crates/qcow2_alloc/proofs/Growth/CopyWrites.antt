-- Writing a copy of the refcount table, after its free area was taken.
use Rattle.std.proofs.Common.{ℕ, ◌+◌, ◌<◌, ◌≤◌, refl, arith, Result}
use Rattle.std.specs.Prelude.{IsTrue}
use Rattle.imago_storage.specs.State.{StorageState}
use Rattle.imago_storage.specs.Through.{WriteOutcome}
use Rattle.imago_storage.specs.declared.fault.Fault.{Fault}
use Rattle.imago_storage.proofs.Composing.{keeps_on}
use Rattle.qcow2_types.specs.TableBytes.{table_bytes}
use Rattle.qcow2_metadata.specs.Tables.{TableValue, table_start}
use Rattle.qcow2_alloc.specs.declared.allocation.searching.Run.{Run}
use Rattle.qcow2_alloc.specs.declared.cache.MetadataCaches.{MetadataCaches}
use Rattle.qcow2_alloc.specs.declared.file.ImageFile.{ImageFile}
use Rattle.qcow2_alloc.specs.Allocating.{CountsReferenced}
use Rattle.qcow2_alloc.specs.Allocators.{metadata_of}
use Rattle.qcow2_alloc.specs.Going.{HadNoResourceError}
use Rattle.qcow2_alloc.specs.MovingTables.{clusters_of, IsPlan, IsTaken, TakesFreeArea}
use Rattle.qcow2_alloc.specs.GuestView.{Metadata, IsSound}
use Rattle.qcow2_alloc.specs.State.{ImageState, image_state}
use Rattle.qcow2_alloc.proofs.Causes.{storage-fails}
use Rattle.qcow2_alloc.proofs.Blocks.ClusterCounts.{succeeded}
use Rattle.qcow2_alloc.proofs.Flushing.FaultlessCalls.{put-faultless}
use Rattle.qcow2_alloc.proofs.Growth.LongerReftables.{covers-inside}
use Rattle.qcow2_alloc.proofs.GuestView.SingleRequests.{put-whole, put-done}
use Rattle.qcow2_alloc.proofs.Growth.TableMoves.{table-quietly, table-counts}
use Rattle.qcow2_alloc.proofs.Memory.Patches.{shaped-in}
use Rattle.qcow2_alloc.proofs.Growth.RoomAcquisition.{Given, Next, ours, sound-then, counts-then}
use Rattle.qcow2_alloc.proofs.Blocks.NewBlockWrites.{put-counts}

module _ {S : Type 0} (state : S → StorageState) (s : ImageState S) (run : Run) (copy : TableValue)
    (C : MetadataCaches S) (fC : ImageFile S) (takes : TakesFreeArea state run s succeeded (image_state s.table C fC s.pending)) (plan : IsPlan fC.header.fields s.table run copy)
    (mid : S) (done : Result Unit Fault) (put : WriteOutcome (state fC.image) (state mid) (table_start copy) (table_bytes copy.raw_entries) done) where
  abbrev between : ImageFile S
  between = record { image = mid; header = fC.header }

  abbrev m4 : Metadata
  m4 = metadata_of state fC C s.table s.pending

  abbrev m5 : Metadata
  m5 = metadata_of state between C s.table s.pending

  abbrev Known : Type 0
  Known = Given state s run

  abbrev n : ℕ
  n = clusters_of copy fC.header.fields.cluster_bits

  abbrev mine : ℕ → ℕ
  mine = ours state s run

  pub sound4 : Known → IsSound m4
  sound4 = sound-then state s run C fC takes.counts

  taken4 : Known → IsTaken m4 run
  taken4 given = takes.taken given.1 given.0 given.2 given.3

  keeps4 : Known → IsTrue (state fC.image).shape.keeps
  keeps4 given = keeps_on (state s.file.image) (state fC.image) takes.counts.shape given.0

  low4 : Known → 9 ≤ fC.header.fields.cluster_bits
  low4 given = (shaped-in m4.file m4.header (sound4 given).well_formed.consistent).low

  used4 : (c : ℕ) → run.first ≤ c → c < run.first + run.len → 0 < mine c
  used4 c from to = let one = covers-inside c run.first run.len from to in omega (arith, one)

  table-next : Next state s run (HadNoResourceError done) C fC C between
  table-next = record {
    shape = put.shape;
    counts_not_fallen = put.counts_not_fallen;
    faults = put-faultless (state fC.image) (state mid) (table_start copy) (table_bytes copy.raw_entries) done put;
    guest_unchanged = λ given sound. put-whole m4 m5 mine mine (state fC.image) (state mid) (table_start copy) (table_bytes copy.raw_entries) done put
        (table-quietly m4 run n copy sound (low4 given) plan.grown plan.room (taken4 given) (state fC.image) (state mid) refl (keeps4 given) done put mine used4);
    same = λ given sound whole c. (table-counts m4 run n copy sound (low4 given) plan.grown plan.room (taken4 given) (state fC.image) (state mid) refl (keeps4 given) done put mine used4
        (put-done (state fC.image) (state mid) (table_start copy) (table_bytes copy.raw_entries) done put whole)).memory c;
    stays = record { header = refl; order = refl; loose = λ any loose. loose; room = record { tables = refl; blocks = refl; entries = refl } };
  }

  pub table-written : CountsReferenced state run.first run.len s done (image_state s.table C between s.pending)
  table-written = counts-then state s run C fC takes.counts done C between table-next (storage-fails _ _ _ (omega arith) (omega arith) (λ same. same) done (put-counts (state fC.image) (state mid) (table_start copy) (table_bytes copy.raw_entries) done put))

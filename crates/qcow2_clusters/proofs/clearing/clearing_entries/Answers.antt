use Rattle.std.proofs.Common.{arith}
use Rattle.std.specs.Prelude.{◌≤◌}
use Rattle.qcow2_clusters.specs.Linking.{listing}
use Rattle.qcow2_clusters.proofs.ClearedRuns.{first-words-of, stands}
use Rattle.qcow2_clusters.proofs.clearing.clearing_entries.Goals as goal

pub returns : goal.returns
returns g = record {
  cleared = λ how m table guest n order t list after sound any under possible is fits start guest_unchanged clears.
      let stood = stands how m table guest n sound possible under order t is list fits start
      (first-words-of how m table guest n sound possible under order t is list fits) n (omega arith) after clears in
      (stood.step, stood.waits, stood.set);
}

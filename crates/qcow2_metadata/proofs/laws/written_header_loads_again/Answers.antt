use Rattle.qcow2_metadata.proofs.Reloading.{header-reloads}
use Rattle.qcow2_metadata.proofs.NewReloads.{new-reloadable}
use Rattle.qcow2_metadata.proofs.laws.written_header_loads_again.Goals as goal

pub returns : goal.returns
returns c = record {
  new = λ bits order name format data_file low high narrow fits. new-reloadable bits order name format data_file low high narrow fits;
  loads = header-reloads;
}

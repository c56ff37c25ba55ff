use Rattle.std.proofs.Common.{refl}
use Rattle.access_cases.specs.declared.drivers.Driver.TheVariants.{Words}
use Rattle.access_cases.specs.contracts.clusters.OneClusterDriverModel.TheImpl as cluster_seen
use Rattle.access_cases.specs.contracts.drivers.DriverDriverModel.TheImpl as driver_seen
use Rattle.access_cases.proofs.SeenAs.{files_read_as}
use Rattle.access_cases.proofs.file_reads.DriverReadFiles.read_file.Goals as goal

pub returns-in-Words-clause-read : goal.returns-in-Words-clause-read
returns-in-Words-clause-read g c = rw (c.in-Words.is)
    (files_read_as Words (driver_seen.ghosts g.row.S g.S.Storage g.S.Storage-dict g.S.Destruct-dict) (cluster_seen.ghosts g.row.S g.S.Storage g.S.Storage-dict g.S.Destruct-dict) refl
    c.in-Words.words c.read_file-in-Words.new.self (λ x call begun. begun) _ c.read_file-in-Words.ensures.read)

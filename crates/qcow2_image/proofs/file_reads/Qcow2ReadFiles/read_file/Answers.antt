use Rattle.std.proofs.Common.{length, refl}
use Rattle.imago_access.specs.Files.{HadNoResourceError}
use Rattle.qcow2_image.proofs.FileReads.{file-read}
use Rattle.qcow2_image.proofs.RequestsWithoutChanges.{read-faultless}
use Rattle.qcow2_image.proofs.file_reads.Qcow2ReadFiles.read_file.Goals as goal

pub returns-then-file-eq0-clause-read : goal.returns-then-file-eq0-clause-read
returns-then-file-eq0-clause-read g c =
    let s = g.S.Storage.state c.args.self.now.tables.file.image in
    let t = g.S.Storage.state c.read.new.self in
    let no_change_refused = read-faultless s t c.args.offset (length c.args.buf.now) c.read.result c.read.ensures.unchanged_but_faults c.read.ensures.faults c.read.ensures.err in
    file-read g.row.S g.S.Storage g.S.Storage-dict g.S.Destruct-dict c.args.self.now _ (HadNoResourceError c.read.result) c.read.ensures.unchanged_but_faults c.read.ensures.counts_not_fallen no_change_refused
    refl refl refl refl refl refl refl refl

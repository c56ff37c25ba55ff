use Rattle.qimg_chain.proofs.ImageKinds.{raw_kind, vmdk_kind, qcow2_kind}
use Rattle.qimg_chain.proofs.SeenThrough.{read}
use Rattle.qimg_chain.proofs.chain.file_reads.ImageDriverReadFiles.read_file.Goals as goal

pub returns-in-Raw-clause-read : goal.returns-in-Raw-clause-read
returns-in-Raw-clause-read g c =
    rw (c.in-Raw.is) (read (raw_kind g.row.S g.S.Storage g.S.Storage-dict g.S.Destruct-dict)
    c.in-Raw.raw c.read_file.new.self _ c.read_file.ensures.read)

pub returns-in-Vmdk-clause-read : goal.returns-in-Vmdk-clause-read
returns-in-Vmdk-clause-read g c =
    rw (c.in-Vmdk.is) (read (vmdk_kind g.row.S g.S.Storage g.S.Storage-dict g.S.Destruct-dict)
    c.in-Vmdk.vmdk c.read_file-in-Vmdk.new.self _ c.read_file-in-Vmdk.ensures.read)

pub returns-in-Qcow2-clause-read : goal.returns-in-Qcow2-clause-read
returns-in-Qcow2-clause-read g c =
    rw (c.in-Qcow2.is) (read (qcow2_kind g.row.S g.S.Storage g.S.Storage-dict g.S.Destruct-dict)
    c.in-Qcow2.qcow2 c.read_file-in-Qcow2.new.self _ c.read_file-in-Qcow2.ensures.read)

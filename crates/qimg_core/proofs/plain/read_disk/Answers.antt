use Rattle.std.proofs.Common.{◌≡◌, ◌-◌, length, take, length-take, arith}
use Rattle.std.specs.Prelude.{min}
use Rattle.qcow2_metadata.specs.Loading.{file}
use Rattle.qimg_core.proofs.PlainReads.Image.{front-read, front-unread}
use Rattle.qimg_core.proofs.plain.read_disk.Goals as goal

pub returns-clause-ok : goal.returns-clause-ok
returns-clause-ok g c = front-read c.read_tables.result (file (g.S.Storage.state c.args.image.now)) c.args.header.now c.args.offset c.min-inside.result c.read_tables.new.buf c.blank.new.buf c.requires.loads (omega arith) (omega (arith, length-take c.min-inside.result c.blank.new.buf))
    (λ i lt less. omega arith) (λ i less. omega arith) c.blank.ensures c.read_tables.ensures.ok

pub returns-clause-err : goal.returns-clause-err
returns-clause-err g c =
    let n : length (take c.min-inside.result c.blank.new.buf) ≡ min (c.args.header.now.fields.size - c.args.offset) (length c.args.buf.now) = omega (arith, length-take c.min-inside.result c.blank.new.buf, c.min-inside.ensures, c.saturating_sub.ensures, c.size.ensures, c.blank.auto.buf) in
    front-unread c.read_tables.result (g.S.Storage.state c.args.image.now) (g.S.Storage.state c.read_tables.new.image) c.args.header.now c.args.offset _ _ c.requires.loads n c.read_tables.ensures.err

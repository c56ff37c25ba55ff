use Rattle.std.proofs.Common.{◌≡◌, ◌∙◌, ap, sym, arith, ◌+◌, ◌<◌, ◌≤◌, ◌^◌, length}
use Rattle.std.specs.Prelude.{true, Some, None}
use Rattle.imago_access.proofs.Answers.{handed_on}
use Rattle.std.specs.Result.{result_err}
use Rattle.qcow2_types.specs.Bytes.{Bytes}
use Rattle.qcow2_types.specs.Entries.{l1_table_sound}
use Rattle.qcow2_metadata.specs.Loading.{file}
use Rattle.qimg_core.specs.Plain.{alone_fault}
use Rattle.qimg_core.proofs.Calls.{kept-both, kept-file}
use Rattle.qimg_core.proofs.PlainReads.Image.{alone-unread, range-unread, disk-read, disk-unread, sum-fits, sum-passes}
use Rattle.qimg_core.proofs.plain.read_image.Goals as goal

pub returns-clause-ok : goal.returns-clause-ok
returns-clause-ok g c =
    let old = g.S.Storage.state c.args.image.now in
    let loaded = g.S.Storage.state c.load.new.image in
    let now = g.S.Storage.state c.load_l1.new.image in
    let sound : l1_table_sound (file old) c.in_ok-header.header.fields ≡ true = ap (λ (f : Bytes). l1_table_sound f c.in_ok-header.header.fields) (sym (kept-file old loaded c.load.ensures.unchanged_but_faults)) ∙ c.in_ok-l1.ensures.sound in
    let alone : alone_fault c.in_ok-header.header ≡ None = c.check_alone.ensures ∙ ap result_err c.in_ok-check_alone.was in
    let room : c.args.offset + length c.args.buf.now < 2 ^ 64 = sum-fits c.checked_add.result c.is_none.result (c.args.offset + length c.args.buf.now) _ c.checked_add.ensures c.is_none.ensures c.if-is_none.false in
    let near : c.args.offset + length c.read_disk.new.buf < 2 ^ 64 = omega (arith, room, c.read_disk.auto.buf) in
    disk-read c.read_disk.result (file old) (file now) c.in_ok-header.header c.args.offset c.read_disk.new.buf c.in_ok-header.ensures.ok sound alone near
    (kept-file old now (kept-both old loaded now c.load.ensures.unchanged_but_faults c.load_l1.ensures.unchanged_but_faults)) c.read_disk.ensures.ok

pub returns-clause-err : goal.returns-clause-err
returns-clause-err g c =
    let old = g.S.Storage.state c.args.image.now in
    let loaded = g.S.Storage.state c.load.new.image in
    let now = g.S.Storage.state c.load_l1.new.image in
    let new = g.S.Storage.state c.read_disk.new.image in
    let sound : l1_table_sound (file old) c.in_ok-header.header.fields ≡ true = ap (λ (f : Bytes). l1_table_sound f c.in_ok-header.header.fields) (sym (kept-file old loaded c.load.ensures.unchanged_but_faults)) ∙ c.in_ok-l1.ensures.sound in
    let alone : alone_fault c.in_ok-header.header ≡ None = c.check_alone.ensures ∙ ap result_err c.in_ok-check_alone.was in
    let near : c.args.offset + length c.args.buf.now < 2 ^ 64 = sum-fits c.checked_add.result c.is_none.result (c.args.offset + length c.args.buf.now) _ c.checked_add.ensures c.is_none.ensures c.if-is_none.false in
    disk-unread c.read_disk.result old now new c.in_ok-header.header c.args.offset (length c.args.buf.now) c.in_ok-header.ensures.ok sound alone near
    (kept-both old loaded now c.load.ensures.unchanged_but_faults c.load_l1.ensures.unchanged_but_faults) (c.in_ok-l1.ensures.faults ∙ c.in_ok-header.ensures.faults) c.read_disk.ensures.err

pub returns-in_err-check_alone-clause-err : goal.returns-in_err-check_alone-clause-err
returns-in_err-check_alone-clause-err g c =
    let old = g.S.Storage.state c.args.image.now in
    let loaded = g.S.Storage.state c.load.new.image in
    let sound : l1_table_sound (file old) c.in_ok-header.header.fields ≡ true = ap (λ (f : Bytes). l1_table_sound f c.in_ok-header.header.fields) (sym (kept-file old loaded c.load.ensures.unchanged_but_faults)) ∙ c.in_ok-l1.ensures.sound in
    let alone : alone_fault c.in_ok-header.header ≡ Some c.in_err-check_alone.field-0.0 = c.check_alone.ensures ∙ ap result_err c.in_err-check_alone.was in
    rw (handed_on _ _ c.from_residual-in_err-check_alone.ensures.1) (alone-unread old (g.S.Storage.state c.load_l1.new.image) c.in_ok-header.header c.args.offset (length c.args.buf.now) c.in_err-check_alone.field-0.0 c.in_ok-header.ensures.ok sound (c.in_ok-l1.ensures.faults ∙ c.in_ok-header.ensures.faults) alone)

pub returns-then-is_none-clause-err : goal.returns-then-is_none-clause-err
returns-then-is_none-clause-err g c =
    let old = g.S.Storage.state c.args.image.now in
    let loaded = g.S.Storage.state c.load.new.image in
    let sound : l1_table_sound (file old) c.in_ok-header.header.fields ≡ true = ap (λ (f : Bytes). l1_table_sound f c.in_ok-header.header.fields) (sym (kept-file old loaded c.load.ensures.unchanged_but_faults)) ∙ c.in_ok-l1.ensures.sound in
    let alone : alone_fault c.in_ok-header.header ≡ None = c.check_alone.ensures ∙ ap result_err c.in_ok-check_alone.was in
    let far : 2 ^ 64 ≤ c.args.offset + length c.args.buf.now = sum-passes c.checked_add.result c.is_none.result (c.args.offset + length c.args.buf.now) _ c.checked_add.ensures c.is_none.ensures c.if-is_none.true in
    range-unread old (g.S.Storage.state c.load_l1.new.image) c.in_ok-header.header c.args.offset (length c.args.buf.now) c.in_ok-header.ensures.ok sound (c.in_ok-l1.ensures.faults ∙ c.in_ok-header.ensures.faults) alone far

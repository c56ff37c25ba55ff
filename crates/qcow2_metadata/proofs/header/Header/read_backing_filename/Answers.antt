use Rattle.std.proofs.Common.{◌≡◌, ◌≤◌, ◌+◌, ◌-◌, arith, length, take, drop, Some}
use Rattle.qcow2_types.specs.Bytes.{bytes_of}
use Rattle.qcow2_types.specs.Header.{cluster_size, backing_name_read, text_read}
use Rattle.qcow2_metadata.specs.FieldsView.{seen_fields}
use Rattle.qcow2_metadata.proofs.Powers.{cluster-small}
use Rattle.qcow2_metadata.proofs.Texts.{backing-text}
use Rattle.qcow2_metadata.proofs.header.Header.read_backing_filename.Goals as goal

pub returns-clause-ok : goal.returns-clause-ok
returns-clause-ok c =
    let h = seen_fields c.self.inside.v2 c.self.inside.v3 in
    let size : length c.args.cluster.now ≡ cluster_size h = rw (← c.self.view_is) at c.requires in
    let small : cluster_size h ≤ 2_097_152 = cluster-small h c.self.invariant.parts.shaped in
    let end : c.saturating_add-end.result ≡ h.backing_offset + h.backing_length = omega arith in
    let bytes : backing_name_read (bytes_of c.args.cluster.now) h ≡ text_read (Some (take (h.backing_offset + h.backing_length - h.backing_offset) (drop h.backing_offset c.args.cluster.now))) =
    backing-text c.args.cluster.now h c.if-offset-eq0.false c.if-size-eq0.false c.if-size-gt-MAX_BACKING_NAME.false (omega arith) size in
    rw (← c.self.view_is, bytes, ← end) c.text.ensures.ok

pub returns-clause-err : goal.returns-clause-err
returns-clause-err c =
    let h = seen_fields c.self.inside.v2 c.self.inside.v3 in
    let size : length c.args.cluster.now ≡ cluster_size h = rw (← c.self.view_is) at c.requires in
    let small : cluster_size h ≤ 2_097_152 = cluster-small h c.self.invariant.parts.shaped in
    let end : c.saturating_add-end.result ≡ h.backing_offset + h.backing_length = omega arith in
    let bytes : backing_name_read (bytes_of c.args.cluster.now) h ≡ text_read (Some (take (h.backing_offset + h.backing_length - h.backing_offset) (drop h.backing_offset c.args.cluster.now))) =
    backing-text c.args.cluster.now h c.if-offset-eq0.false c.if-size-eq0.false c.if-size-gt-MAX_BACKING_NAME.false (omega arith) size in
    rw (← c.self.view_is, bytes, ← end) c.text.ensures.err

use Rattle.std.proofs.Common.{◌≡◌, ◌<◌, length, get_or, refl, ap, sym, subst, inl, arith, rules}
use Rattle.std.specs.Prelude.{slice_set}
use Rattle.qimg_core.specs.Plain.{seen_files, extras_of, faults_of, FilesKept}
use Rattle.qimg_core.proofs.PlainReads.Files.{files-kept, none-refuses, none-must, several-refuse, several-must, one-read, one-unread, one-must, one-kept, one-extras, one-faults, other-refuses, other-must, same-file, not-qcow2}
use Rattle.qimg_core.proofs.plain.plain_read.Goals as goal

pub returns-then-is_empty-clause-err : goal.returns-then-is_empty-clause-err
returns-then-is_empty-clause-err g c = let none : length c.args.files.now ≡ 0 = search rules in (none-refuses g.S.Storage.state c.args.offset (length c.args.buf.now) c.args.files.now none, refl)

pub returns-then-is_empty-clause-must : goal.returns-then-is_empty-clause-must
returns-then-is_empty-clause-must g c = let none : length c.args.files.now ≡ 0 = search rules in λ fault refuses. inl (none-must g.S.Storage.state c.args.offset (length c.args.buf.now) c.args.files.now none fault refuses)

pub returns-then-is_empty-clause-unchanged_but_faults : goal.returns-then-is_empty-clause-unchanged_but_faults
returns-then-is_empty-clause-unchanged_but_faults g c = files-kept (seen_files g.S.Storage.state c.args.files.now)

pub returns-then-files-gt1-clause-err : goal.returns-then-files-gt1-clause-err
returns-then-files-gt1-clause-err g c = (several-refuse g.S.Storage.state c.args.offset (length c.args.buf.now) c.args.files.now c.if-files-gt1.true, refl)

pub returns-then-files-gt1-clause-must : goal.returns-then-files-gt1-clause-must
returns-then-files-gt1-clause-must g c = λ fault refuses. inl (several-must g.S.Storage.state c.args.offset (length c.args.buf.now) c.args.files.now c.if-files-gt1.true fault refuses)

pub returns-then-files-gt1-clause-unchanged_but_faults : goal.returns-then-files-gt1-clause-unchanged_but_faults
returns-then-files-gt1-clause-unchanged_but_faults g c = files-kept (seen_files g.S.Storage.state c.args.files.now)

pub returns-in-Qcow2-clause-ok : goal.returns-in-Qcow2-clause-ok
returns-in-Qcow2-clause-ok g c = let some : 0 < length c.args.files.now = search rules in one-read g.S.Storage.state c.args.offset (length c.args.buf.now) c.read_image.result c.args.files.now c.index-files-0.result c.read_image.new.buf some c.if-files-gt1.false c.in-Qcow2.is c.read_image.ensures.ok

pub returns-in-Qcow2-clause-err : goal.returns-in-Qcow2-clause-err
returns-in-Qcow2-clause-err g c = let some : 0 < length c.args.files.now = search rules in one-unread g.S.Storage.state c.args.offset (length c.args.buf.now) c.read_image.result c.args.files.now c.index-files-0.result c.read_image.new.image some c.if-files-gt1.false c.in-Qcow2.is c.read_image.ensures.err

pub returns-in-Qcow2-clause-must : goal.returns-in-Qcow2-clause-must
returns-in-Qcow2-clause-must g c =
    let some : 0 < length c.args.files.now = search rules in
    one-must g.S.Storage.state c.args.offset (length c.args.buf.now) c.read_image.result c.args.files.now c.index-files-0.result c.read_image.new.image c.read_image.new.buf some c.if-files-gt1.false c.in-Qcow2.is (omega (arith, c.read_image.auto.buf)) c.read_image.ensures.ok c.read_image.ensures.err

pub returns-in-Qcow2-clause-unchanged_but_faults : goal.returns-in-Qcow2-clause-unchanged_but_faults
returns-in-Qcow2-clause-unchanged_but_faults g c = let some : 0 < length c.args.files.now = search rules in one-kept g.S.Storage.state c.args.offset (length c.args.buf.now) c.args.files.now c.index-files-0.result c.read_image.new.image some c.if-files-gt1.false c.read_image.ensures.unchanged_but_faults

pub returns-in-Qcow2-clause-extras : goal.returns-in-Qcow2-clause-extras
returns-in-Qcow2-clause-extras g c = let some : 0 < length c.args.files.now = search rules in one-extras g.S.Storage.state c.args.offset (length c.args.buf.now) c.args.files.now c.index-files-0.result c.read_image.new.image some c.if-files-gt1.false

pub returns-in-Qcow2-clause-faults : goal.returns-in-Qcow2-clause-faults
returns-in-Qcow2-clause-faults g c = let some : 0 < length c.args.files.now = search rules in one-faults g.S.Storage.state c.args.offset (length c.args.buf.now) c.read_image.result c.args.files.now c.index-files-0.result c.read_image.new.image some c.if-files-gt1.false c.read_image.ensures.faults

pub returns-in-Raw : goal.returns-in-Raw
returns-in-Raw g c =
    let files = c.args.files.now in
    let top = c.index-files-0.result in
    let some : 0 < length files = search rules in
    let other = not-qcow2 (get_or files 0 top).format c.in-Raw.is in
    let same : slice_set files 0 (get_or files 0 top) ≡ files = same-file files top some c.if-files-gt1.false in
    record {
      ok = tt;
      err = (other-refuses g.S.Storage.state c.args.offset (length c.args.buf.now) files top some c.if-files-gt1.false other, ap (λ fs. faults_of (seen_files g.S.Storage.state fs)) same);
      must = λ fault refuses. inl (other-must g.S.Storage.state c.args.offset (length c.args.buf.now) files top some c.if-files-gt1.false other fault refuses);
      none = λ e. absurd (omega (arith, e, some));
      several = λ e. refl;
      unchanged_but_faults = subst (λ fs. FilesKept (seen_files g.S.Storage.state files) (seen_files g.S.Storage.state fs)) (sym same) (files-kept (seen_files g.S.Storage.state files));
      extras = ap extras_of same;
      faults = tt;
    }

use Rattle.std.proofs.Common.{rules, ◌≡◌, ◌≤◌, ◌∙◌, ◌^◌, ap, arith, length, subst, sym, ℕ}
use Rattle.std.proofs.lemmas.Result.{IfOk-weaker}
use Rattle.imago_access.specs.FileReads.{file_bytes_in, files_at}
use Rattle.imago_access.specs.Files.{AreRead, HadNoResourceError, files_of}
use Rattle.imago_access.specs.Layers.{chain as drivers}
use Rattle.imago_storage.specs.MemStorage.{mem_state, memory}
use Rattle.imago_storage.specs.State.{StorageState}
use Rattle.imago_storage.proofs.Parts.{passed}
use Rattle.imago_access.proofs.FilePairs.{faultless_all_same}
use Rattle.imago_access.proofs.FileReads.{all_read_both, all_read_same}
use Rattle.qimg_chain.proofs.RunAnswerLemmas.{front_of}
use Rattle.qimg_chain.specs.Snapshots.{WhyNotCopied}
use Rattle.qimg_chain.proofs.Snapshots.{no_change_refused, copy_cause, read_whole, wanting}
use Rattle.qimg_chain.proofs.chain.snapshots.copy_file.Goals as goal

pub returns-in_err-bytes-clause-read : goal.returns-in_err-bytes-clause-read
returns-in_err-bytes-clause-read g c = all_read_same g.D.DriverModel (HadNoResourceError c.from_residual.result) (drivers c.args.chain.now)

pub returns-in_err-read_file-clause-cause : goal.returns-in_err-read_file-clause-cause
returns-in_err-read_file-clause-cause g c =
    let fault = c.in_err-read_file.field-0.0 in
    let held = c.in_ok-bytes.bytes in
    let low : length c.deref_mut.result.now ≤ 2 ^ 63 = omega (arith, c.deref_mut.ensures.len, held.ok.0, held.ok.1, held.small) in
    passed c.from_residual-in_err-read_file.result _ fault c.from_residual-in_err-read_file.ensures.1
    (copy_cause g.D.DriverModel g.met.D.FormatDriverInstance.aligned g.met.D.FormatDriverInstance.of_storages (drivers c.args.chain.now) (drivers c.read_file.new.self)
    c.args.layer c.args.file (length c.deref_mut.result.now) fault low c.in_err-read_file.ensures.cause)

pub returns-clause-read : goal.returns-clause-read
returns-clause-read g c =
    let whole = HadNoResourceError c.from_bytes.result in
    all_read_both g.D.DriverModel whole (drivers c.args.chain.now) (drivers c.read_file.new.self) (drivers c.read_file.new.self) c.in_ok-read_file.ensures.read
    (all_read_same g.D.DriverModel whole (drivers c.read_file.new.self))

pub returns-clause-ok : goal.returns-clause-ok
returns-clause-ok g c =
    let ss = files_at g.D.DriverModel (drivers c.args.chain.now) c.args.layer in
    let buf = c.read_file.new.buf in
    let size : length c.deref_mut.result.now ≡ length (file_bytes_in ss c.args.file) = c.deref_mut.ensures.len ∙ c.in_ok-bytes.ensures.len ∙ c.file_size-size.ensures in
    let same : length buf ≡ length c.deref_mut.result.now = omega (arith, c.read_file.auto.buf) in
    let whole : c.in_ok-bytes.bytes.len ≡ length buf = omega (arith, same, c.deref_mut.ensures.len) in
    let is = read_whole ss c.args.file buf (same ∙ size) (subst (λ (n : ℕ). AreRead ss c.args.file 0 n buf) (sym same) c.in_ok-read_file.ensures.bytes) in
    IfOk-weaker c.from_bytes.result (λ m. mem_state m ≡ memory _ 1 0) (λ m. (mem_state m).bytes ≡ file_bytes_in ss c.args.file)
    (λ m made. ap (λ (s : StorageState). s.bytes) made ∙ front_of c.in_ok-bytes.bytes.len buf _ whole ∙ is) c.from_bytes.ensures.ok

pub returns-in_err-bytes-clause-cause : goal.returns-in_err-bytes-clause-cause
returns-in_err-bytes-clause-cause g c =
    let ss = files_of g.D.DriverModel (drivers c.args.chain.now) in
    wanting c.from_residual.result (WhyNotCopied ss ss) (faultless_all_same ss) (search rules)

pub returns-clause-cause : goal.returns-clause-cause
returns-clause-cause g c =
    let d = g.D.DriverModel in
    let old = drivers c.args.chain.now in let new = drivers c.read_file.new.self in
    wanting c.from_bytes.result (WhyNotCopied (files_of d old) (files_of d new)) (no_change_refused d old new c.in_ok-read_file.ensures.read) c.from_bytes.ensures.err

use Rattle.std.proofs.Common.{◌≡◌, ◌∙◌, ap, refl, sym}
use Rattle.imago_storage.specs.MemStorage.{mem_state}
use Rattle.imago_storage.specs.State.{StorageState}
use Rattle.imago_storage.specs.View.{view_state}
use Rattle.qcow2_types.specs.Bytes.{bytes_of}
use Rattle.qimg_chain.proofs.RunAnswerLemmas.{unsound}
use Rattle.qimg_chain.proofs.run.files.check_top.Goals as goal

pub returns-in-Err : goal.returns-in-Err
unfolding mem_state view_state
returns-in-Err g c =
    let top = c.inner-top.ensures in
    let qcow2 = ap (λ d. (g.D.DriverModel.layer d).fixed.format) (sym top) ∙ sym c.format.ensures ∙ c.in-Qcow2.is in
    let lent : (view_state c.new-image.result).bytes ≡ c.as_bytes.result.now = ap (λ (s : StorageState). s.bytes) c.new-image.ensures in
    let held = ap (λ (s : StorageState). s.bytes) c.image_file.ensures ∙ ap (λ d. (g.D.DriverModel.image d).bytes) top in (
      qcow2,
      unsound (view_state c.new-image.result) (view_state c.check.new.image) (g.D.DriverModel.image c.args.chain.now.0) c.in-Err.finding
          (ap bytes_of (lent ∙ c.as_bytes.ensures ∙ held)) refl refl c.in-Err.ensures.err,
    )

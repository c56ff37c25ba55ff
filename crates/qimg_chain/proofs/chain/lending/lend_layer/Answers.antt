use Rattle.std.proofs.Common.{◌∙◌, ap, arith, map}
use Rattle.imago_storage.specs.MemStorage.{mem_state}
use Rattle.imago_storage.specs.State.{StorageState}
use Rattle.imago_storage.specs.View.{view_state}
use Rattle.qimg_chain.specs.FileMeanings.{extra_bytes}
use Rattle.qimg_chain.proofs.Copies.{all_named, pushed, same_file}
use Rattle.qimg_chain.proofs.chain.lending.lend_layer.Goals.{in-Some+in_ok-lend_named+in_ok-push, in_default}
use Rattle.qimg_chain.proofs.chain.lending.lend_layer.Goals as goal

pub loop-index-preserved : goal.loop-index-preserved
loop-index-preserved g c = elim c.match-extra_file.branch [
  | in-Some+in_ok-lend_named+in_ok-push w ↦
      ap (λ v. map (extra_bytes view_state) v.items) w.extras-is
      ∙ ap (λ items. map (extra_bytes view_state) items) w.in_ok-push.ensures.items
      ∙ pushed view_state c.loop-index.extras.items w.in_ok-lend_named.field-0 (g.D.NamesFiles.names c.args.driver.now) (g.D.DriverModel.extras c.args.driver.now) c.loop-index.index _
      c.loop-index.invariant w.in-Some.ensures
      (w.in_ok-lend_named.ensures.ok ∙ ap (λ name. (name, (mem_state w.in-Some.file.now).bytes)) w.extra_name.ensures)
  | in_default w ↦ absurd (omega (arith, w.in_default.ensures, c.loop-index-test.true, c.extra_count-index-end.ensures))
]

pub returns-clause-ok : goal.returns-clause-ok
returns-clause-ok g c =
    let names = g.D.NamesFiles.names c.args.driver.now in
    let ss = g.D.DriverModel.extras c.args.driver.now in
    let bytes = ap (λ (s : StorageState). s.bytes) c.new.ensures ∙ c.as_bytes.ensures ∙ ap (λ (s : StorageState). s.bytes) c.image_file.ensures in
    same_file _ _ _ _ _ _ c.format.ensures bytes (c.loop-index.invariant ∙ all_named names ss c.loop-index.index (omega (arith, c.extra_count-index-end.ensures, c.loop-index-test.false)))

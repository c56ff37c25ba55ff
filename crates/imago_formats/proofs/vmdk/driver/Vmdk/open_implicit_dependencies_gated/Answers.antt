use Rattle.std.proofs.Common.{◌≤◌, length, inr, arith}
use Rattle.std.proofs.lemmas.Result.{IfErr-weaker}
use Rattle.imago_formats.specs.VmdkLayer.{files_asked}
use Rattle.imago_formats.proofs.OpeningLemmas.{length-kept_names}
use Rattle.imago_formats.proofs.vmdk.driver.Vmdk.open_implicit_dependencies_gated.Goals as goal

pub returns-clause-err : goal.returns-clause-err
returns-clause-err g c =
    let xs = c.args.self.now.disk.extents.items in
    let there : files_asked xs ≤ length c.open_files.new.files.items = rw c.extents.ensures at c.in_ok-open_files.ensures.all in
    IfErr-weaker c.check_reach.result _ _ (λ e why. inr (record {
      fault_is = why.0;
      opens = rw c.extents.ensures at c.in_ok-open_files.ensures.opens;
      all = omega (arith, length-kept_names xs, there);
      beyond = λ reach. why.1
          (rw (c.extents-2.ensures, c.larger_alignment-unit.ensures.value, c.req_align.ensures.value, c.mem_align.ensures.value) reach);
    })) c.check_reach.ensures.err

use Rattle.qimg_chain.specs.ScriptRuns.{items_of}
use Rattle.qimg_chain.proofs.ScriptRunLemmas.{handed-on, scripted-taken}
use Rattle.qimg_chain.proofs.run.opened.run_over.Goals as goal

pub returns-in_err-kept : goal.returns-in_err-kept
returns-in_err-kept g c = record {
  scripted = (
    c.run_lines.new.chain,
    rw (handed-on c.from_residual.result c.in_err-kept.field-0.0 c.from_residual.ensures.1) c.in_err-kept.ensures.scripted,
  );
}

pub returns : goal.returns
returns g c = record {
  scripted = (
    c.run_lines.new.chain,
    scripted-taken items_of c.take_kept.result c.take_kept.ensures.ok c.take_kept.ensures.err c.in_ok-kept.ensures.scripted,
  );
}

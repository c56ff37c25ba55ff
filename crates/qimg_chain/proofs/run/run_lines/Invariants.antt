use Rattle.std.specs.Io.Take.{take_remaining}
use Rattle.imago_access.specs.Layer.{IsFree}
use Rattle.qimg_chain.specs.Saving.{files_to_save}
use Rattle.qimg_chain.specs.ScriptRuns.{kept_of, standing}
use Rattle.qimg_chain.proofs.ScriptRunLemmas.{RanSoFar}
use Rattle.qimg_chain.proofs.run.run_lines.Given as goal

-- No mapping is prepared between two lines. Each line before this one is read, run and answered.
abbrev pub invariant-loop : goal.invariant-loop
invariant-loop g l = IsFree (g.D.DriverModel.layer l.chain.0)
    × RanSoFar g.D.DriverModel g.D.NamesFiles.names (record {
      input = g.R.Read.remaining l.fn.reader;
      left = take_remaining g.R.Read.remaining l.input;
      room = l.room;
      before = g.W.Write.contents l.fn.writer;
      after = g.W.Write.contents l.writer;
    }) l.counter l.fn.chain (standing l.chain (kept_of (files_to_save g.D.DriverModel l.chain) l.saved))

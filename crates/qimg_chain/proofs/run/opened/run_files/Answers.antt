use Rattle.imago_storage.specs.MemStorage.{mem_state}
use Rattle.imago_storage.proofs.Failing.{mem_never}
use Rattle.qimg_chain.proofs.Failing.{unopened}
use Rattle.qimg_chain.proofs.ScriptRunLemmas.{append-none}
use Rattle.qimg_chain.proofs.Sessions.Scripts.{run-from}
use Rattle.qimg_chain.proofs.run.opened.run_files.Goals as goal

pub returns-in-Ok-run_over-clause-headline : goal.returns-in-Ok-run_over-clause-headline
returns-in-Ok-run_over-clause-headline g c =
    let made = c.in-Ok.ensures in
    run-from c.in-Ok.chain (record {
      formed = made.formed;
      layers = made.layers;
      places = made.places;
      means = made.means;
      named = made.named;
      ready = made.ready;
      committable = λ fit some next. absurd (cc some);
      stands = made.stands;
    }) c.in-Ok-run_over.ensures.scripted

pub returns-in-Err-run_over-clause-err : goal.returns-in-Err-run_over-clause-err
returns-in-Err-run_over-clause-err g c =
    let made = c.in-Ok.ensures in
    run-from c.in-Ok.chain (record {
      formed = made.formed;
      layers = made.layers;
      places = made.places;
      means = made.means;
      named = made.named;
      ready = made.ready;
      committable = λ fit some next. absurd (cc some);
      stands = made.stands;
    }) c.in-Err-run_over.ensures.scripted

pub returns-in-Err-clause-err : goal.returns-in-Err-clause-err
returns-in-Err-clause-err g c =
    let refused = unopened mem_state mem_never c.args.writable c.args.files.items c.in-Err.fault c.in-Err.ensures.err in
    (refused.0, refused.1, append-none (g.W.Write.contents c.args.writer.now))

use Rattle.std.proofs.Common.{refl}
use Rattle.qimg_chain.proofs.RunCallLemmas.{no-room}
use Rattle.qimg_chain.proofs.run.answers.answer_apart.Goals as goal

pub returns-in-Err-clause-answered : goal.returns-in-Err-clause-answered
returns-in-Err-clause-answered g c = no-room g.D.DriverModel g.D.NamesFiles.names c.args.line c.in-Err.fault c.args.chain.now c.args.chain.now
    c.requires.asks c.requires.short (c.in-Err.ensures.err, refl)

use Rattle.qimg_chain.proofs.RunCallLemmas.{no-room, told-line}
use Rattle.qimg_chain.proofs.run.answers.answer_call.Goals as goal

pub returns-in-Ok-clause-answered : goal.returns-in-Ok-clause-answered
returns-in-Ok-clause-answered g c = told-line g.D.DriverModel g.D.NamesFiles.names c.args.line c.in-Some.call c.in-Ok.answer c.told.result c.args.chain.now c.make.new.chain c.requires.asks c.requires.short c.in-Some.ensures c.in-Ok.ensures.made.0 c.told.ensures

pub returns-in-Err-clause-answered : goal.returns-in-Err-clause-answered
returns-in-Err-clause-answered g c = no-room g.D.DriverModel g.D.NamesFiles.names c.args.line c.in-Err.fault c.args.chain.now c.make.new.chain c.requires.asks c.requires.short c.in-Err.ensures.made

use Rattle.std.proofs.Common.{inl, refl, ap}
use Rattle.qimg_chain.specs.declared.script.answer.Answer.TheVariants as told
use Rattle.qimg_chain.proofs.RunCallLemmas.{unmade-line}
use Rattle.qimg_chain.proofs.run.answers.answer_line.Goals as goal

pub returns-in-Size-clause-answered : goal.returns-in-Size-clause-answered
returns-in-Size-clause-answered g c = rw (c.in-Size.is) (unmade-line g.D.DriverModel g.D.NamesFiles.names _ _ c.args.chain.now c.args.chain.now refl (refl, ap told.Number c.size.ensures))

pub returns-in-Check-clause-answered : goal.returns-in-Check-clause-answered
returns-in-Check-clause-answered g c = rw (c.in-Check.is) (unmade-line g.D.DriverModel g.D.NamesFiles.names _ _ c.args.chain.now c.args.chain.now refl (refl, c.check_top.ensures))

pub returns-in-Plain-clause-answered : goal.returns-in-Plain-clause-answered
returns-in-Plain-clause-answered g c = rw (c.in-Plain.is) (unmade-line g.D.DriverModel g.D.NamesFiles.names _ _ c.args.chain.now c.args.chain.now refl (refl, (c.read_plainly.result, c.told_bytes.ensures, c.read_plainly.ensures)))

pub returns-in-Read-clause-answered : goal.returns-in-Read-clause-answered
returns-in-Read-clause-answered g c = rw (c.in-Read.is) (unmade-line g.D.DriverModel g.D.NamesFiles.names _ _ c.args.chain.now c.args.chain.now refl (inl (c.if-length-gt-MOST_READ.true, refl, refl)))

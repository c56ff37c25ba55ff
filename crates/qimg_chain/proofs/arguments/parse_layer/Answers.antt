use Rattle.qimg_chain.proofs.ArgumentLemmas.{few-no-layer, no-format-there}
use Rattle.qimg_chain.proofs.arguments.parse_layer.Goals as goal

pub returns-then-words-at-lt2-clause-err : goal.returns-then-words-at-lt2-clause-err
returns-then-words-at-lt2-clause-err c = few-no-layer _ c.args.words.now c.args.at c.requires.inside c.if-words-at-lt2.true

pub returns-in_default-clause-err : goal.returns-in_default-clause-err
returns-in_default-clause-err c = no-format-there _ c.args.words.now c.args.at _ c.requires.inside c.in_default.ensures

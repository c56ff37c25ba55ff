use Rattle.std.proofs.Common.{refl, rules}
use Rattle.std.specs.Prelude.{map}
use Rattle.qimg_chain.specs.FileMeanings.{extra_bytes}
use Rattle.qimg_chain.proofs.FilesShown.{raw_shown}
use Rattle.qimg_chain.proofs.chain.opening.open_raw.Goals as goal

pub returns-clause-means : goal.returns-clause-means
returns-clause-means g c = raw_shown g.row.S g.S.Storage g.S.Storage-dict g.S.Destruct-dict c.args.writable 0 (g.S.Storage.state c.args.image) (map (extra_bytes g.S.Storage.state) c.args.extras.now.files.items) c.in_ok-raw.raw (search rules)

pub returns-clause-named : goal.returns-clause-named
returns-clause-named g c = record { size = refl; cell = λ p below backed. refl }

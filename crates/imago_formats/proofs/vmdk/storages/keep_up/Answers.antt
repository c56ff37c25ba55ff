use Rattle.std.specs.Prelude.{map}
use Rattle.imago_access.proofs.FilePairs.{kept_all_same}
use Rattle.imago_formats.proofs.vmdk.storages.keep_up.Goals as goal

pub returns-in_err-keep_one-clause-unchanged_but_faults : goal.returns-in_err-keep_one-clause-unchanged_but_faults
returns-in_err-keep_one-clause-unchanged_but_faults g c = (c.keep_one.ensures.unchanged_but_faults, kept_all_same (map g.S.Storage.state c.args.files.now))

use Rattle.std.proofs.Common.{rules, Ok}
use Rattle.imago_formats.proofs.Quiet.{commits_same}
use Rattle.imago_formats.proofs.vmdk.driver.VmdkFormatDriverInstance.commit_data_mapping.Goals as goal

pub returns-in-Err-clause-commits : goal.returns-in-Err-clause-commits
returns-in-Err-clause-commits g c = commits_same _ _ _ c.args.self.now tt

pub returns-clause-commits : goal.returns-clause-commits
returns-clause-commits g c = commits_same _ c.args.mapping.state (Ok tt) c.args.self.now (search rules)

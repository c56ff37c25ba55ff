use Rattle.host_file.specs.Events.{state_after}
use Rattle.host_file.specs.OsFile.{os_state}
use Rattle.host_file.proofs.Noted.{note-read}
use Rattle.host_file.proofs.os_file.OsFileHostFile.read_at.Goals as goal

pub returns-clause-read : goal.returns-clause-read
unfolding os_state state_after
returns-clause-read g c = note-read (g.C.FirstBytes.bytes c.args.self.now.number) _ _ c.args.offset _ c.read.ensures

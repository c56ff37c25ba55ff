use Rattle.host_file.specs.Events.{state_after}
use Rattle.host_file.specs.OsFile.{os_state}
use Rattle.host_file.proofs.Noted.{note-written}
use Rattle.host_file.proofs.os_file.OsFileHostFile.write_at.Goals as goal

pub returns-clause-ok : goal.returns-clause-ok
unfolding os_state state_after
returns-clause-ok g c = note-written (g.C.FirstBytes.bytes c.args.self.now.number) _ _ c.args.offset _ (λ k. (c.type_inv.data k).fits) c.written.ensures

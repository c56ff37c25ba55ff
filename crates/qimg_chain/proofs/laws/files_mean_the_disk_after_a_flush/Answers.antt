use Rattle.std.specs.Prelude.{false}
use Rattle.imago_storage.specs.MemStorage.{mem_state}
use Rattle.qimg_calls.proofs.SameChains.{same-chain}
use Rattle.qimg_chain.specs.FlushedFiles.{opened_as}
use Rattle.qimg_chain.specs.ScriptRuns.{calls_of}
use Rattle.qimg_chain.proofs.FlushedFiles.{each-flush, may-by-mode}
use Rattle.qimg_chain.proofs.laws.files_mean_the_disk_after_a_flush.Goals as goal

pub returns-clause-list : goal.returns-clause-list
returns-clause-list g c m files since list answers opened old new driven is same may =
    each-flush g.D.DriverModel g.D.NamesFiles.names g.S.Storage.state m files since list answers opened old driven.last
    g.met.D.NamesFiles.named is same may driven.run

pub returns-clause-script : goal.returns-clause-script
returns-clause-script g c what input before after result ran fit next_fit =
    let d = g.D.DriverModel in
    each-flush d g.D.NamesFiles.names mem_state what.mode what.files _ _ _ (opened_as ran.opened false false) ran.opened
    (ran.headline fit next_fit).last
    g.met.D.NamesFiles.named (record { layers = ran.layers; places = ran.places; named = ran.named })
    (record { same_chain = same-chain d ran.opened; committable = λ is. absurd (cc is) })
    (may-by-mode d mem_state what.mode what.files ran.opened (calls_of ran.scripted.replies) ran.layers
    (λ some. ran.committable fit some (next_fit some)))
    (ran.headline fit next_fit).run

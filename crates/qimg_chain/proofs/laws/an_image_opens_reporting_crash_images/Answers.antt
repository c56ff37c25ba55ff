use Rattle.qimg_chain.proofs.FitFiles.{logged-alone, logged-fits, logged-step}
use Rattle.qimg_chain.proofs.ImageKinds.{consistent_so, keeps_so, none_held, sound_so}
use Rattle.qimg_chain.proofs.ToldImages.{opens-telling, stops-consistent}
use Rattle.qimg_chain.proofs.laws.an_image_opens_reporting_crash_images.Goals as goal

pub returns-clause-formed : goal.returns-clause-formed
returns-clause-formed g c writable file is =
    (logged-alone g.S.Storage.state writable file is.0 is.1, logged-fits g.S.Storage.state file is.0, logged-step g.S.Storage.state file is.0)

pub returns-clause-telling : goal.returns-clause-telling
returns-clause-telling g c =
    opens-telling _ g.S.Storage.state (none_held g.row.S g.S.Storage g.S.Storage-dict g.S.Destruct-dict)
    (keeps_so g.row.S g.S.Storage g.S.Storage-dict g.S.Destruct-dict) (sound_so g.row.S g.S.Storage g.S.Storage-dict g.S.Destruct-dict)

pub returns-clause-crash_images : goal.returns-clause-crash_images
returns-clause-crash_images g c =
    stops-consistent _ g.S.Storage.state (none_held g.row.S g.S.Storage g.S.Storage-dict g.S.Destruct-dict)
    (keeps_so g.row.S g.S.Storage g.S.Storage-dict g.S.Destruct-dict) (sound_so g.row.S g.S.Storage g.S.Storage-dict g.S.Destruct-dict)
    (consistent_so g.row.S g.S.Storage g.S.Storage-dict g.S.Destruct-dict)

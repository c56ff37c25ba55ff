use Rattle.access_cases.proofs.drivers.DriverFormatDriverInstance.mark_failed.Goals as goal

pub returns-in-Raw : goal.returns-in-Raw
returns-in-Raw g c =
    let marked = c.mark_failed.ensures in
    rw (c.in-Raw.is) (record { layer = marked.layer; unasked = marked.unasked; seen = marked.seen; stilled = marked.stilled; stays_stable = marked.stays_stable })

pub returns-in-Words : goal.returns-in-Words
returns-in-Words g c =
    let marked = c.mark_failed-in-Words.ensures in
    rw (c.in-Words.is) (record { layer = marked.layer; unasked = marked.unasked; seen = marked.seen; stilled = marked.stilled; stays_stable = marked.stays_stable })

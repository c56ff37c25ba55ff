use Rattle.qimg.proofs.committing.commit.Goals as goal

pub bytes_of-requires : goal.bytes_of-requires
bytes_of-requires g c = record { free = c.in-Ok.ensures.headline.free }

use Rattle.qimg_core.proofs.Names.Entries.{EntersDigits}
use Rattle.qimg_core.proofs.check.entries.enter.Given as goal

-- The lower digits are added.
abbrev pub invariant-loop-place : goal.invariant-loop-place
invariant-loop-place l = EntersDigits l.fn.list.items l.list.items l.fn.cluster l.fn.times l.place

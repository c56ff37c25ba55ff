use Rattle.std.specs.Prelude.{◌≡◌, All, take}
use Rattle.qimg_chain.specs.Extras.{IsOther}
use Rattle.qimg_chain.proofs.chain.extras.ExtrasImplicitOpenGate.open_storage.Given as goal

-- No file is taken yet, and the files before this one have other names.
abbrev pub invariant-loop-i : goal.invariant-loop-i
invariant-loop-i g l = (l.self.files.items ≡ l.fn.self.files.items) × All (IsOther l.name) (take l.i l.self.files.items)

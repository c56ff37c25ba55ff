use Rattle.imago_storage.specs.declared.fault.Fault.{Fault}
use Rattle.std.proofs.Common.{◌≡◌, Result, Ok}
use Rattle.qcow2_alloc.proofs.GuestView.QuietPremises.{quietly-given, quietly-then-given}
use Rattle.qcow2_alloc.proofs.laws.what_preserves_the_guest_may_use_what_was_done.Goals as goal

pub returns : goal.returns
returns c = record { given = λ (result : Result Unit Fault). quietly-given (result ≡ Ok tt); then = λ (first second : Result Unit Fault). quietly-then-given (first ≡ Ok tt) (second ≡ Ok tt) }

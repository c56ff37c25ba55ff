use Rattle.std.specs.Prelude.{◌≡◌, ⊤, Ok}
use Rattle.qcow2_alloc.specs.Going.{AreTablesAddressable, AreBlocksAddressable, HadNoResourceError}
use Rattle.qcow2_alloc.proofs.GuestView.QuietFlushes.{flushes-quietly, going-quietly, memory-quietly}
use Rattle.qcow2_alloc.proofs.GuestView.QuietAnnouncements.{announced-quietly, whole-quietly}
use Rattle.qcow2_alloc.proofs.laws.what_preserves_the_guest.Goals as goal

pub returns : goal.returns
returns c = record {
  flushes = λ m result. flushes-quietly m (result ≡ Ok tt);
  found = λ m result. going-quietly m (HadNoResourceError result);
  announced = announced-quietly;
  whole = λ m before after result handed taken old new m'. whole-quietly m (AreTablesAddressable m.cached × AreBlocksAddressable m.cached) before after result handed taken old new m' (λ near. near);
  memory = λ handed taken s m m' guest_unchanged. memory-quietly ⊤ handed taken s m m' (λ sound done. guest_unchanged sound);
}

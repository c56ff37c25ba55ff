use Rattle.std.proofs.Common.{refl}
use Rattle.qcow2_types.specs.Bytes.{bytes_of}
use Rattle.qcow2_alloc.proofs.Growth.TableLoads.{verdict-consistent, opened-sound, allocator-refused, l1-loaded, l1-refused}
use Rattle.qcow2_alloc.proofs.laws.what_a_checker_accepts_opens_sound.Goals as goal

pub returns : goal.returns
returns c = record {
  consistent = verdict-consistent;
  sound = λ s s' found writing H allocator verdict loads. opened-sound (bytes_of s.bytes) H (verdict-consistent (bytes_of s.bytes) found writing H verdict loads) s s' allocator refl;
  allocator = λ s s' H fault consistent. allocator-refused (bytes_of s.bytes) H consistent s s' fault refl;
  l1 = l1-loaded;
  l1_refused = λ f H before after fault consistent. l1-refused f H consistent before after fault;
}

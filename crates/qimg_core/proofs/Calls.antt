-- Calls that change nothing but fault counts: their composition, and the file after them.
use Rattle.std.proofs.Common.{◌≡◌, refl, ap, ◌∙◌}
use Rattle.imago_storage.specs.State.{StorageState}
use Rattle.imago_storage.specs.Calls.{UnchangedButFaults}
use Rattle.qcow2_types.specs.Bytes.{bytes_of}
use Rattle.qcow2_metadata.specs.Loading.{file}

pub kept-both : (a b c : StorageState) → UnchangedButFaults a b → UnchangedButFaults b c → UnchangedButFaults a c
kept-both a b c first second = record { shape = second.shape ∙ first.shape; bytes = second.bytes ∙ first.bytes; refusals = second.refusals ∙ first.refusals; crash_image = second.crash_image ∙ first.crash_image; past_crash_images = second.past_crash_images ∙ first.past_crash_images }

pub kept-none : (a : StorageState) → UnchangedButFaults a a
kept-none a = record { shape = refl; bytes = refl; refusals = refl; crash_image = refl; past_crash_images = refl }

pub kept-file : (a b : StorageState) → UnchangedButFaults a b → file b ≡ file a
kept-file a b kept = ap bytes_of kept.bytes

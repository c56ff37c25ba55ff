use Rattle.std.proofs.Common.{◌∙◌, ap}
use Rattle.std.specs.Str.{bytes_eq}
use Rattle.imago_formats.specs.Descriptor.{is_signed, signature}
use Rattle.imago_formats.proofs.FileLemmas.{front_is_signed}
use Rattle.imago_formats.proofs.vmdk.files.is_descriptor.Goals as goal

pub returns-clause-ok : goal.returns-clause-ok
returns-clause-ok g c =
    c.is_signature.ensures ∙ ap (λ l. bytes_eq l signature) c.split_line.ensures.first ∙ ap is_signed c.before_zero.ensures
    ∙ front_is_signed _ c.read_start.new.buf c.in_ok-read_start.ensures.read c.read_start.auto.buf

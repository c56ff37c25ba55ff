use Rattle.std.proofs.lemmas.Result.{IfOk-weaker}
use Rattle.imago_formats.proofs.builders.RawCreateBuilderFormatCreateBuilder.create_open.Goals as goal

pub returns-clause-ok : goal.returns-clause-ok
returns-clause-ok g c =
    IfOk-weaker c.open.result _ _
    (λ d opened. (
      c.in_ok-image.image,
      c.in_ok-builder.builder,
      c.write.result,
      c.in_ok-image.ensures.ok,
      c.in_ok-builder.ensures,
      c.write.ensures.made,
      opened,
    ))
    c.open.ensures.ok

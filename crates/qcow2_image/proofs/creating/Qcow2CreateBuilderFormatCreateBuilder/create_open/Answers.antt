use Rattle.std.proofs.Common.{inr}
use Rattle.std.proofs.lemmas.Result.{IfErr-weaker, IfOk-weaker}
use Rattle.qcow2_image.proofs.creating.Qcow2CreateBuilderFormatCreateBuilder.create_open.Goals as goal

pub returns-clause-ok : goal.returns-clause-ok
returns-clause-ok g c =
    IfOk-weaker c.open.result _ _
    (λ d opened. (
      c.in_ok-image.image,
      c.in_ok-builder.builder,
      c.write.result,
      c.in_ok-image.ensures.ok,
      c.in_ok-builder.ensures,
      c.write.ensures.made,
      opened,
    ))
    c.open.ensures.ok

pub returns-clause-err : goal.returns-clause-err
returns-clause-err g c =
    IfErr-weaker c.open.result _ _
    (λ e why. inr (inr (
      c.in_ok-image.image,
      c.in_ok-builder.builder,
      c.write.result,
      c.in_ok-image.ensures.ok,
      c.in_ok-builder.ensures,
      c.write.ensures.made,
      why,
    )))
    c.open.ensures.err

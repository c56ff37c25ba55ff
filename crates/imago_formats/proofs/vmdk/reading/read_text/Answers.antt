use Rattle.std.proofs.Common.{◌∙◌, ap, sym, arith, rules}
use Rattle.std.proofs.lemmas.Result.{IfOk-weaker}
use Rattle.imago_formats.specs.Descriptor.{extents_of}
use Rattle.imago_formats.specs.DescriptorView.{kept_extents}
use Rattle.imago_formats.proofs.LineLemmas.{accepted}
use Rattle.imago_formats.specs.VmdkLaws.{size_kept}
use Rattle.imago_formats.proofs.vmdk.reading.read_text.Goals as goal

pub returns-clause-ok : goal.returns-clause-ok
returns-clause-ok c =
    let xs = c.in_ok-extents.extents.items in
    IfOk-weaker c.new.result _ _
    (λ d made. rw made.0 (accepted c.args.text.now (kept_extents xs) c.in_ok-text_of.ensures.ok.1 (omega arith) (search rules)
    (ap extents_of (sym c.split_line.ensures.remainder) ∙ c.in_ok-extents.ensures.ok)
    (rw (size_kept xs) made.1)))
    c.new.ensures.ok

use Rattle.std.proofs.Common.{◌≡◌, ◌∙◌, [], false, inr, sym, arith}
use Rattle.std.specs.Prelude.{map}
use Rattle.imago_access.specs.Files.{UnchangedButMoreFaults}
use Rattle.imago_access.proofs.FilePairs.{kept_all_same}
use Rattle.imago_access.proofs.Answers.{handed_on}
use Rattle.imago_formats.specs.DescriptorView.{kept_names}
use Rattle.imago_formats.specs.RawOpening.{kept_same}
use Rattle.imago_formats.specs.VmdkOpening.{FilesRefused}
use Rattle.imago_formats.proofs.OpeningLemmas.{not_all_weaker, refused_files}
use Rattle.imago_formats.proofs.StorageLemmas.{unit_first}
use Rattle.imago_formats.proofs.VmdkSteps.{kept_image}
use Rattle.imago_formats.proofs.builders.VmdkOpenBuilderFormatDriverBuilder.open.Goals as goal
use Rattle.imago_formats.proofs.builders.VmdkOpenBuilderFormatDriverBuilder.open.Goals.{After-drop-vmdk-in_err-open_implicit_dependencies_gated-2}
use Rattle.imago_formats.proofs.builders.VmdkOpenBuilderFormatDriverBuilder.open.Given.{Over}

refused : (g : Over) (c : After-drop-vmdk-in_err-open_implicit_dependencies_gated-2 g) → FilesRefused g.S.Storage.state g.G.ImplicitOpenGate.answers
    (g.S.Storage.state c.args.self.base.image) c.args.gate.now c.open_implicit_dependencies_gated.new.gate
    c.in_err-open_implicit_dependencies_gated.field-0.0
refused g c =
    let state = g.S.Storage.state in
    let d = c.in_ok-vmdk.vmdk in
    let now = c.open_implicit_dependencies_gated.new.self in
    let xs = d.disk.extents.items in
    let same : c.in_ok-image.image ≡ c.args.self.base.image = cc c.in_ok-image.ensures.image in
    let kept : UnchangedButMoreFaults (state c.args.self.base.image) (state d.image) = kept_same (state c.args.self.base.image) (state d.image) (rw same at c.in_ok-vmdk.ensures.image) in
    let coherent = (kept_image state xs c.args.self.base.image d.image now.files.items now.files.items (kept, kept_all_same (map state now.files.items))).coherent in
    let why = rw (
      c.in_ok-vmdk.ensures.files,
      c.open_image.ensures.gate,
      c.open_implicit_dependencies_gated.ensures.disk,
      c.open_implicit_dependencies_gated.ensures.image,
    ) at c.in_err-open_implicit_dependencies_gated.ensures.err in record {
      extents = xs;
      files = now.files.items;
      said = rw same at c.in_ok-vmdk.ensures.said;
      cause = not_all_weaker g.G.ImplicitOpenGate.answers (kept_names xs) _ _ ([], c.args.gate.now)
          (now.files.items, c.open_implicit_dependencies_gated.new.gate) c.in_err-open_implicit_dependencies_gated.field-0.0 coherent why;
    }

closed : (g : Over) (c : After-drop-vmdk-in_err-open_implicit_dependencies_gated-2 g) → c.args.self.base.writable ≡ false
closed g c = sym c.get_writable.ensures ∙ c.if-get_writable.false

pub returns-in_err-open_implicit_dependencies_gated-clause-err : goal.returns-in_err-open_implicit_dependencies_gated-clause-err
returns-in_err-open_implicit_dependencies_gated-clause-err g c =
    let state = g.S.Storage.state in
    let some = (g.met.S.Storage.aligned c.args.self.base.image).requests.positive in
    rw (handed_on _ _ c.from_residual-in_err-open_implicit_dependencies_gated.ensures.1) (rw (closed g c) (refused_files state g.G.ImplicitOpenGate.answers (state c.args.self.base.image) c.args.gate.now
    c.open_implicit_dependencies_gated.new.gate c.in_err-open_implicit_dependencies_gated.field-0.0
    (λ files. omega (arith, unit_first (state c.args.self.base.image) files, some)) (refused g c)))

pub returns-in_err-open_implicit_dependencies_gated-clause-cause : goal.returns-in_err-open_implicit_dependencies_gated-clause-cause
returns-in_err-open_implicit_dependencies_gated-clause-cause g c = rw (handed_on _ _ c.from_residual-in_err-open_implicit_dependencies_gated.ensures.1) (inr (closed g c, refused g c))

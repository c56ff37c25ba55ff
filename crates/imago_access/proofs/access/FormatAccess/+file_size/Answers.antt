use Rattle.std.proofs.Common.{◌≡◌, ◌∙◌, ◌-◌, ap, sym, length, subst}
use Rattle.imago_access.specs.FileReads.{file_bytes_in, files_at}
use Rattle.imago_access.specs.Layers.{chain, layers}
use Rattle.imago_access.proofs.FileReads.{further_at, bytes_there, bytes_beyond}
use Rattle.imago_access.proofs.access.FormatAccess.+file_size.Goals as goal

pub returns-in-None-extra_file : goal.returns-in-None-extra_file
returns-in-None-extra_file g t c = let d = g.D.DriverModel in let top = c.self.inside.driver in let ds = layers c.self.inside.below in
    subst (λ a. 0 ≡ length (file_bytes_in (files_at d (chain a) c.args.layer) c.args.file)) c.self.view_is
    (sym (ap length (further_at d top ds c.args.layer c.args.file c.if-layer-gt0.false c.if-file-eq0.false ∙ bytes_beyond (d.extras top) (c.args.file - 1) c.in-None-extra_file.ensures)))

pub returns-in-Some-extra_file : goal.returns-in-Some-extra_file
returns-in-Some-extra_file g t c = let d = g.D.DriverModel in let top = c.self.inside.driver in let ds = layers c.self.inside.below in
    let there = bytes_there (d.extras top) (c.args.file - 1) (g.D.Storage.Storage.state c.in-Some-extra_file.extra.now) c.in-Some-extra_file.ensures in
    subst (λ a. c.size-in-Some-extra_file.result ≡ length (file_bytes_in (files_at d (chain a) c.args.layer) c.args.file)) c.self.view_is
    (c.size-in-Some-extra_file.ensures.value ∙ sym (ap length (further_at d top ds c.args.layer c.args.file c.if-layer-gt0.false c.if-file-eq0.false ∙ there)))

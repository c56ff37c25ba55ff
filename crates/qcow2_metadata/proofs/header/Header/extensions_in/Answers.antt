use Rattle.std.proofs.Common.{◌≡◌, ◌/◌, ◌∙◌, length, Err}
use Rattle.std.proofs.lemmas.Result.{IfErr-weaker}
use Rattle.imago_storage.specs.declared.fault.Fault.{Fault}
use Rattle.qcow2_types.specs.Bytes.{bytes_of}
use Rattle.qcow2_types.specs.Header.{extensions_at, extensions_end, extensions_read, cluster_size}
use Rattle.qcow2_metadata.specs.FieldsView.{seen_fields}
use Rattle.qcow2_metadata.proofs.Texts.{extensions-newer}
use Rattle.qcow2_metadata.proofs.header.Header.extensions_in.Goals as goal

pub returns-clause-err : goal.returns-clause-err
returns-clause-err c =
    let f = bytes_of c.args.cluster.now in
    let h = seen_fields c.self.inside.v2 c.self.inside.v3 in
    let size : length c.args.cluster.now ≡ cluster_size h = rw (← c.self.view_is) at c.requires.size in
    let end : c.extensions_end.result ≡ extensions_end h = rw (← c.self.view_is) at c.extensions_end.ensures in
    IfErr-weaker c.known_extensions.result
    (λ e. extensions_at (length c.args.cluster.now / 8) f c.extensions_end.result c.self.inside.v3.header_length ≡ Err e)
    (λ e. extensions_read f c.args.self.now.fields ≡ Err e)
    (λ (e : Fault) broken. rw (← c.self.view_is) (extensions-newer f h c.if-self-ne3.false ∙ (rw (size, end) at broken)))
    c.known_extensions.ensures.err

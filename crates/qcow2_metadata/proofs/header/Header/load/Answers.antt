use Rattle.std.proofs.Common.{◌≡◌, ◌∙◌, None}
use Rattle.std.proofs.lemmas.Result.{err_from_is_err_and}
use Rattle.imago_storage.specs.Calls.{Reads}
use Rattle.qcow2_types.specs.Bytes.{bytes_of}
use Rattle.qcow2_types.specs.Header.{fields_of, texts_of, header_of}
use Rattle.qcow2_metadata.specs.Loading.{file, fields_fault}
use Rattle.qcow2_metadata.proofs.Texts.{refused-through, refused-as}
use Rattle.qcow2_metadata.proofs.Loads.{start-fields, start-fault, cluster-texts, fields-refused, texts-refused, writing-refused, header-loads, not-loaded}
use Rattle.qcow2_metadata.proofs.header.Header.load.Goals as goal

pub returns-in_err-header-clause-err : goal.returns-in_err-header-clause-err
returns-in_err-header-clause-err g c =
    let p = err_from_is_err_and c.from_residual-in_err-header.result c.from_residual-in_err-header.ensures.1 in
    let old = g.S.Storage.state c.args.image.now in
    let mid = g.S.Storage.state c.read_at.new.image in
    let fault = start-fault old.bytes c.read_at.new.buf c.in_ok-read_at.ensures.read c.read_at.auto.buf in
    rw (p.1, p.2) (not-loaded c.args.writable (file old) old mid _ (refused-as (header_of c.args.writable (file old)) _ (fields-refused c.args.writable (file old) _ (c.in_err-header.ensures.fault ∙ fault))) c.in_ok-read_at.ensures.faults)

pub returns-in_err-header-2-clause-err : goal.returns-in_err-header-2-clause-err
returns-in_err-header-2-clause-err g c =
    let p = err_from_is_err_and c.from_residual-in_err-header-2.result c.from_residual-in_err-header-2.ensures.1 in
    let old = g.S.Storage.state c.args.image.now in
    let new = g.S.Storage.state c.read_first_cluster.new.image in
    let f = file old in
    let fields : c.in_ok-header.header.fields ≡ fields_of f = c.in_ok-header.ensures.fields ∙ start-fields old.bytes c.read_at.new.buf c.in_ok-read_at.ensures.read c.read_at.auto.buf in
    let kept : None ≡ fields_fault f = c.in_ok-header.ensures.fault ∙ start-fault old.bytes c.read_at.new.buf c.in_ok-read_at.ensures.read c.read_at.auto.buf in
    let reads : Reads old.bytes 0 c.in_ok-cluster.cluster.items = rw c.in_ok-read_at.ensures.unchanged_but_faults.bytes at c.in_ok-cluster.ensures.read in
    let texts : texts_of (bytes_of c.in_ok-cluster.cluster.items) c.in_ok-header.header.fields ≡ texts_of f (fields_of f) = cluster-texts old.bytes c.in_ok-cluster.cluster.items reads c.in_ok-header.header.fields fields c.in_ok-cluster.ensures.size in
    rw (p.1, p.2) (not-loaded c.args.writable f old new _
    (refused-through (texts_of f (fields_of f)) (header_of c.args.writable f) (texts-refused c.args.writable f kept) _ (rw (c.deref.ensures.value, texts) at c.in_err-header-2.ensures.err))
    (c.in_ok-cluster.ensures.faults ∙ c.in_ok-read_at.ensures.faults))

pub returns-in_err-check_writing-clause-err : goal.returns-in_err-check_writing-clause-err
returns-in_err-check_writing-clause-err g c =
    let p = err_from_is_err_and c.from_residual-in_err-check_writing.result c.from_residual-in_err-check_writing.ensures.1 in
    let old = g.S.Storage.state c.args.image.now in
    let new = g.S.Storage.state c.read_first_cluster.new.image in
    let f = file old in
    let fields : c.in_ok-header.header.fields ≡ fields_of f = c.in_ok-header.ensures.fields ∙ start-fields old.bytes c.read_at.new.buf c.in_ok-read_at.ensures.read c.read_at.auto.buf in
    let kept : None ≡ fields_fault f = c.in_ok-header.ensures.fault ∙ start-fault old.bytes c.read_at.new.buf c.in_ok-read_at.ensures.read c.read_at.auto.buf in
    let reads : Reads old.bytes 0 c.in_ok-cluster.cluster.items = rw c.in_ok-read_at.ensures.unchanged_but_faults.bytes at c.in_ok-cluster.ensures.read in
    let texts : texts_of (bytes_of c.in_ok-cluster.cluster.items) c.in_ok-header.header.fields ≡ texts_of f (fields_of f) = cluster-texts old.bytes c.in_ok-cluster.cluster.items reads c.in_ok-header.header.fields fields c.in_ok-cluster.ensures.size in
    rw (p.1, p.2) (not-loaded c.args.writable f old new _
    (refused-as (header_of c.args.writable f) _ (writing-refused c.args.writable f kept c.in_ok-header-2.header (rw (c.deref.ensures.value, texts) at c.in_ok-header-2.ensures.ok) _ c.in_err-check_writing.ensures))
    (c.in_ok-cluster.ensures.faults ∙ c.in_ok-read_at.ensures.faults))

pub returns-clause-ok : goal.returns-clause-ok
returns-clause-ok g c =
    let old = g.S.Storage.state c.args.image.now in
    let f = file old in
    let fields : c.in_ok-header.header.fields ≡ fields_of f = c.in_ok-header.ensures.fields ∙ start-fields old.bytes c.read_at.new.buf c.in_ok-read_at.ensures.read c.read_at.auto.buf in
    let kept : None ≡ fields_fault f = c.in_ok-header.ensures.fault ∙ start-fault old.bytes c.read_at.new.buf c.in_ok-read_at.ensures.read c.read_at.auto.buf in
    let reads : Reads old.bytes 0 c.in_ok-cluster.cluster.items = rw c.in_ok-read_at.ensures.unchanged_but_faults.bytes at c.in_ok-cluster.ensures.read in
    let texts : texts_of (bytes_of c.in_ok-cluster.cluster.items) c.in_ok-header.header.fields ≡ texts_of f (fields_of f) = cluster-texts old.bytes c.in_ok-cluster.cluster.items reads c.in_ok-header.header.fields fields c.in_ok-cluster.ensures.size in
    header-loads c.args.writable f kept c.in_ok-header-2.header (rw (c.deref.ensures.value, texts) at c.in_ok-header-2.ensures.ok) c.in_ok-check_writing.ensures

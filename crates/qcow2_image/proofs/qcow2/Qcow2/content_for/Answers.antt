use Rattle.std.proofs.Common.{◌≡◌, ◌≤◌, ℕ, ◌-◌, ◌/◌, ◌%◌, ◌^◌, ap, subst, sym, ◌∙◌, length, Ok}
use Rattle.std.specs.Prelude.{replicate, slice_index}
use Rattle.std.proofs.lemmas.List.{length-replicate}
use Rattle.std.proofs.Math.Nat.{mul-mod_left}
use Rattle.imago_access.specs.Changes.{Asked, asking}
use Rattle.qcow2_types.specs.Header.{Header, cluster_size}
use Rattle.qcow2_metadata.proofs.Written.{overwritten}
use Rattle.qcow2_image.specs.Allocating.{TellsShown}
use Rattle.qcow2_image.specs.Filling.{CopiesPart, CopiesShown, first_places}
use Rattle.qcow2_image.proofs.Preparations.ContentCopies.{content-copied, content-uncopied, content-unmade, content-unseen}
use Rattle.qcow2_alloc.proofs.Faults.{handed-on}
use Rattle.qcow2_image.proofs.qcow2.Qcow2.content_for.Goals as goal

pub returns-in_err-shown : goal.returns-in_err-shown
returns-in_err-shown g c = rw (handed-on _ _ c.from_residual.ensures.1)
    (content-unseen g.S.Storage g.B.LayersBelowModel (asking c.args.offset c.args.length c.args.overwrite) c.cluster-guest.result c.args.self.now
    c.shown_at.new.self
    c.args.below.now c.in_err-shown.field-0.0 c.in_err-shown.ensures)

pub returns-in_err-content : goal.returns-in_err-content
returns-in_err-content g c = rw (handed-on _ _ c.from_residual-in_err-content.ensures.1)
    (content-unmade g.S.Storage g.B.LayersBelowModel (asking c.args.offset c.args.length c.args.overwrite) c.cluster-guest.result c.args.self.now
    c.shown_at.new.self
    c.args.below.now c.in_ok-shown.shown c.in_ok-shown.ensures c.in_err-content.field-0.0 c.in_err-content.ensures.err)

pub copy_shown-requires-clause-zero : goal.copy_shown-requires-clause-zero
copy_shown-requires-clause-zero g c =
    let zero = c.deref_mut.ensures.value ∙ c.in_ok-content.ensures.ok in
    zero ∙ ap (λ (n : ℕ). replicate n 0) (sym (ap length zero ∙ length-replicate c.cluster_size-size.result 0))

pub copy_shown-requires-clause-begins : goal.copy_shown-requires-clause-begins
copy_shown-requires-clause-begins g c =
    let size : ℕ = cluster_size c.shown_at.new.self.tables.file.header.fields in
    ap (λ (r : ℕ × ℕ). r.0 % size) c.first_places-start.ensures ∙ mul-mod_left (c.args.offset / size) size

pub returns : goal.returns
returns g c =
    let h = c.args.self.now.tables.file.header.fields in
    let asked : Asked = asking c.args.offset c.args.length c.args.overwrite in
    let guest : c.cluster-guest.result ≡ c.args.offset / cluster_size h = c.cluster-guest.ensures ∙ ap (λ (b : ℕ). c.args.offset / 2 ^ b) c.cluster_bits-cluster_bits.ensures.value in
    let told = subst (λ (n : ℕ). TellsShown g.S.Storage n c.args.self.now (Ok c.in_ok-shown.shown) c.shown_at.new.self) guest
    c.in_ok-shown.ensures in
    let header = told.keeps.tables.header in
    let places = c.first_places-start.ensures ∙ ap (λ (H : Header). first_places H.fields c.args.offset) header in
    let size : c.cluster_size-size.result ≡ cluster_size h = c.cluster_size-size.ensures.value ∙ ap (λ (H : Header). cluster_size H.fields) header in
    let same : length c.copy_shown.new.content ≡ length c.in_ok-content.content.items = c.copy_shown.auto.content ∙ ap length
    c.deref_mut.ensures.value in
    let long : length c.copy_shown.new.content ≡ cluster_size h = same ∙ ap length c.in_ok-content.ensures.ok
    ∙ length-replicate c.cluster_size-size.result 0 ∙ size in
    let cut = subst (λ (r : ℕ × ℕ). CopiesPart r.0 r.1 asked c.copied_part-part.result) places c.copied_part-part.ensures in
    content-copied g.S.Storage g.B.LayersBelowModel asked c.args.self.now c.shown_at.new.self c.copy_shown.new.self c.args.below.now c.copy_shown.new.below
    c.in_ok-shown.shown told c.copied_part-part.result cut _ c.copy_shown.new.content
    (overwritten c.copy_shown.new.content c.in_ok-content.content.items c.in_ok-content.content.len c.in_ok-content.content.ok.0 same) long
    (subst (λ (r : ℕ × ℕ). CopiesShown g.S.Storage g.B.LayersBelowModel c.in_ok-shown.shown c.copied_part-part.result
    (c.shown_at.new.self, c.args.below.now) (Ok tt)
    (c.copy_shown.new.self, c.copy_shown.new.below) (λ p. slice_index c.copy_shown.new.content (p - r.0))) places
    c.in_ok-copy_shown.ensures.copies)
    (subst (λ (r : ℕ × ℕ). (i : ℕ) → c.copied_part-part.result.1 - r.0 ≤ i → slice_index c.copy_shown.new.content i ≡ 0) places
    c.in_ok-copy_shown.ensures.rest)

pub returns-in_err-copy_shown : goal.returns-in_err-copy_shown
returns-in_err-copy_shown g c = rw (handed-on _ _ c.from_residual-in_err-copy_shown.ensures.1) (
    let h = c.args.self.now.tables.file.header.fields in
    let asked : Asked = asking c.args.offset c.args.length c.args.overwrite in
    let guest : c.cluster-guest.result ≡ c.args.offset / cluster_size h = c.cluster-guest.ensures ∙ ap (λ (b : ℕ). c.args.offset / 2 ^ b) c.cluster_bits-cluster_bits.ensures.value in
    let told = subst (λ (n : ℕ). TellsShown g.S.Storage n c.args.self.now (Ok c.in_ok-shown.shown) c.shown_at.new.self) guest
    c.in_ok-shown.ensures in
    let places = c.first_places-start.ensures ∙ ap (λ (H : Header). first_places H.fields c.args.offset) told.keeps.tables.header in
    let cut = subst (λ (r : ℕ × ℕ). CopiesPart r.0 r.1 asked c.copied_part-part.result) places c.copied_part-part.ensures in
    content-uncopied g.S.Storage g.B.LayersBelowModel asked c.args.self.now c.shown_at.new.self c.copy_shown.new.self c.args.below.now c.copy_shown.new.below
    c.in_ok-shown.shown told c.copied_part-part.result cut c.in_err-copy_shown.field-0.0
    (λ p. slice_index c.copy_shown.new.content (p - c.first_places-start.result.0)) c.in_err-copy_shown.ensures.copies)

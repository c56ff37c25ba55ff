use Rattle.std.proofs.Common.{◌∙◌, ap, arith, false, sym, subst, ℕ, ◌≡◌, ◌-◌, ◌+◌, ◌*◌, ◌/◌, ◌%◌, ◌^◌, Ok, Err}
use Rattle.std.proofs.lemmas.Nat.{div-add-mod', mod_below, pow_pos}
use Rattle.imago_access.specs.Changes.{asking}
use Rattle.qcow2_alloc.proofs.Faults.{handed-on}
use Rattle.qcow2_types.specs.Header.{Header, cluster_size}
use Rattle.qcow2_image.specs.Filling.{MakesContent}
use Rattle.qcow2_image.specs.Growing.{TellsZero, last_guest}
use Rattle.qcow2_image.proofs.Resizes.TailReads.{nonempty, tail-copied, tail-idle, tail-uncopied, tail-unseen, tail-zeroes}
use Rattle.qcow2_image.proofs.qcow2.Qcow2.read_tail.Goals as goal

pub returns-then-size-cluster_size-eq0 : goal.returns-then-size-cluster_size-eq0
returns-then-size-cluster_size-eq0 g c = tail-idle g.S.Storage g.B.LayersBelowModel c.args.self.now c.args.below.now
    (sym (λ i. c.size-size.ensures i % c.cluster_size.ensures.value i) ∙ c.if-size-cluster_size-eq0.true)

pub overflow_sub-size : goal.overflow_sub-size
overflow_sub-size g c = nonempty c.cluster_size.result c.size-size.result c.if-size-cluster_size-eq0.false

pub stays_zero-requires-clause-fits : goal.stays_zero-requires-clause-fits
stays_zero-requires-clause-fits g c =
    let unit : ℕ = 2 ^ c.args.self.now.tables.file.header.fields.cluster_bits in
    let last : ℕ = c.size-size.result - 1 in
    let row : c.cluster-guest.result ≡ last / unit =
    c.cluster-guest.ensures ∙ ap (λ (b : ℕ). last / 2 ^ b) c.cluster_bits-cluster_bits.ensures.value in
    let split = div-add-mod' last unit in
    let place : c.cluster-guest.result * unit ≡ last / unit * unit = ap (λ (k : ℕ). k * unit) row in
    let product : (c.cluster-guest.result + 1) * unit ≡ c.cluster-guest.result * unit + unit = omega arith in
    omega (arith, split, place, product, c.size-size.type_inv)

pub returns-in_err-stays : goal.returns-in_err-stays
returns-in_err-stays g c = rw (handed-on _ _ c.from_residual.ensures.1) (
    let st = g.S.Storage in
    let old = c.args.self.now in
    let new = c.stays_zero.new.self in
    let e = c.in_err-stays.field-0.0 in
    let row : c.cluster-guest.result ≡ last_guest st old =
    c.cluster-guest.ensures ∙ (λ i. (c.size-size.ensures i - 1) / 2 ^ c.cluster_bits-cluster_bits.ensures.value i) in
    tail-unseen st g.B.LayersBelowModel old c.args.below.now new e
    (subst (λ (n : ℕ). TellsZero st n old (Err e) new) row c.in_err-stays.ensures))

pub returns-then-stays : goal.returns-then-stays
returns-then-stays g c =
    let st = g.S.Storage in
    let old = c.args.self.now in
    let new = c.stays_zero.new.self in
    let stays = c.in_ok-stays.stays in
    let row : c.cluster-guest.result ≡ last_guest st old =
    c.cluster-guest.ensures ∙ (λ i. (c.size-size.ensures i - 1) / 2 ^ c.cluster_bits-cluster_bits.ensures.value i) in
    tail-zeroes st g.B.LayersBelowModel old c.args.below.now stays new
    (subst (λ (n : ℕ). TellsZero st n old (Ok stays) new) row c.in_ok-stays.ensures) c.if-stays.true

pub overflow_sub-size-2 : goal.overflow_sub-size-2
overflow_sub-size-2 g c = nonempty c.cluster_size.result c.size-size.result c.if-size-cluster_size-eq0.false

pub content_for-requires-clause-inside : goal.content_for-requires-clause-inside
content_for-requires-clause-inside g c =
    let same = ap (λ (H : Header). H.fields.size) c.in_ok-stays.ensures.keeps.tables.header in
    let some = nonempty c.cluster_size.result c.size-size.result c.if-size-cluster_size-eq0.false in
    omega (arith, same, some, c.size-size.ensures)

pub content_for-requires-clause-row : goal.content_for-requires-clause-row
content_for-requires-clause-row g c =
    let h = c.stays_zero.new.self.tables.file.header.fields in
    let unit : ℕ = cluster_size h in
    let rest = mod_below (c.size-size.result - 1) unit (pow_pos h.cluster_bits) in
    omega (arith, rest)

pub content_for-requires-clause-runs : goal.content_for-requires-clause-runs
content_for-requires-clause-runs g c = c.in_ok-stays.ensures.keeps.failed ∙ c.requires.runs

pub returns-in_err-content : goal.returns-in_err-content
returns-in_err-content g c = rw (handed-on _ _ c.from_residual-in_err-content.ensures.1) (
    let st = g.S.Storage in
    let old = c.args.self.now in
    let mid = c.stays_zero.new.self in
    let made = c.content_for.new in
    let stays = c.in_ok-stays.stays in
    let e = c.in_err-content.field-0.0 in
    let row : c.cluster-guest.result ≡ last_guest st old =
    c.cluster-guest.ensures ∙ (λ i. (c.size-size.ensures i - 1) / 2 ^ c.cluster_bits-cluster_bits.ensures.value i) in
    tail-uncopied st g.B.LayersBelowModel old c.args.below.now stays mid
    (subst (λ (n : ℕ). TellsZero st n old (Ok stays) mid) row c.in_ok-stays.ensures) made.self made.below e
    (subst (λ (n : ℕ). MakesContent st g.B.LayersBelowModel (asking (n - 1) 1 false) (mid, c.args.below.now) (Err e)
    (made.self, made.below)) c.size-size.ensures c.in_err-content.ensures))

pub returns : goal.returns
returns g c =
    let st = g.S.Storage in
    let old = c.args.self.now in
    let mid = c.stays_zero.new.self in
    let made = c.content_for.new in
    let stays = c.in_ok-stays.stays in
    let content = c.in_ok-content.content in
    let row : c.cluster-guest.result ≡ last_guest st old =
    c.cluster-guest.ensures ∙ (λ i. (c.size-size.ensures i - 1) / 2 ^ c.cluster_bits-cluster_bits.ensures.value i) in
    tail-copied st g.B.LayersBelowModel old c.args.below.now stays mid
    (subst (λ (n : ℕ). TellsZero st n old (Ok stays) mid) row c.in_ok-stays.ensures) made.self made.below content
    (λ whole. c.if-size-cluster_size-eq0.false ((λ i. c.size-size.ensures i % c.cluster_size.ensures.value i) ∙ whole))
    (subst (λ (n : ℕ). MakesContent st g.B.LayersBelowModel (asking (n - 1) 1 false) (mid, c.args.below.now) (Ok content)
    (made.self, made.below)) c.size-size.ensures c.in_ok-content.ensures)

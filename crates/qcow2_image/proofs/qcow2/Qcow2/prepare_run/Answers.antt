use Rattle.std.specs.Prelude.{min}
use Rattle.std.proofs.Common.{◌≡◌, ℕ, ◌+◌, ◌-◌, ◌*◌, ◌%◌, ◌^◌, ◌/◌, ◌<◌, ◌≤◌, ap, sym, subst, ◌∙◌, Ok, Err, arith}
use Rattle.std.proofs.lemmas.Nat.{pow_pos}
use Rattle.imago_access.specs.Changes.{Asked, asking}
use Rattle.qcow2_types.specs.Header.{Header, cluster_size, entries_of_cluster}
use Rattle.qcow2_metadata.specs.Places.{IsAddressable}
use Rattle.qcow2_image.specs.Filling.{MakesContent}
use Rattle.qcow2_image.specs.Preparing.{KeepsMapping, Reserves}
use Rattle.qcow2_image.proofs.Preparations.RangeRuns.{one-cluster}
use Rattle.qcow2_image.proofs.Preparations.Reservations.{fresh-done, fresh-unfilled, fresh-unreserved, fresh-untold}
use Rattle.qcow2_alloc.proofs.Faults.{handed-on}
use Rattle.qcow2_image.proofs.qcow2.Qcow2.prepare_run.Goals as goal

run-inside : (offset n most size run : ℕ) → run ≡ min n most → offset + n ≤ size → offset + run ≤ size
run-inside offset n most size run is inside = omega (arith, is, inside)

run-most : (n most run : ℕ) → run ≡ min n most → run ≤ most
run-most n most run is = omega (arith, is)

run-some : (offset n unit run : ℕ) → 0 < unit → run ≡ min n (unit - offset % unit) → 0 < n → 0 < run
run-some offset n unit run any is some = omega (arith, any, is, some)

pub returns-in_err-content : goal.returns-in_err-content
returns-in_err-content g c = rw (handed-on _ _ c.from_residual.ensures.1) (
    let asked : Asked = asking c.args.offset c.args.length c.args.overwrite in
    let first = c.run_in-first.ensures ∙ one-cluster c.args.self.now.tables.file.header.fields c.args.offset c.args.length in
    fresh-unfilled g.S.Storage g.B.LayersBelowModel asked c.args.count (c.args.self.now, c.args.below.now)
    (c.content_for.new.self, c.content_for.new.below) c.in_err-content.field-0.0
    (subst (λ (n : ℕ). MakesContent g.S.Storage g.B.LayersBelowModel (record asked { length = n }) (c.args.self.now, c.args.below.now)
    (Err c.in_err-content.field-0.0)
    (c.content_for.new.self, c.content_for.new.below)) first c.in_err-content.ensures))

pub returns-in_err-kept : goal.returns-in_err-kept
returns-in_err-kept g c = rw (handed-on _ _ c.from_residual-in_err-kept.ensures.1) (
    let asked : Asked = asking c.args.offset c.args.length c.args.overwrite in
    let first = c.run_in-first.ensures ∙ one-cluster c.args.self.now.tables.file.header.fields c.args.offset c.args.length in
    fresh-untold g.S.Storage g.B.LayersBelowModel asked c.cluster-guest.result c.args.count c.in_ok-content.content
    (c.args.self.now, c.args.below.now) c.content_for.new.self c.content_for.new.below
    (subst (λ (n : ℕ). MakesContent g.S.Storage g.B.LayersBelowModel (record asked { length = n }) (c.args.self.now, c.args.below.now)
    (Ok c.in_ok-content.content)
    (c.content_for.new.self, c.content_for.new.below)) first c.in_ok-content.ensures)
    c.kept_at.new.self c.in_err-kept.field-0.0 c.in_err-kept.ensures)

pub returns : goal.returns
returns g c =
    let bits = c.in_ok-clusters.ensures.keeps.bits ∙ ap (λ (H : Header). H.fields.cluster_bits)
    (c.in_ok-kept.ensures.keeps.tables.header ∙ c.in_ok-content.ensures.keeps.tables.header) in
    let run = c.run_in-run.ensures
    ∙ ap (λ (b : ℕ). min c.args.length (c.in_ok-clusters.clusters.count * 2 ^ b - c.args.offset % 2 ^ b)) bits in
    let asked : Asked = asking c.args.offset c.args.length c.args.overwrite in
    let first = c.run_in-first.ensures ∙ one-cluster c.args.self.now.tables.file.header.fields c.args.offset c.args.length in
    let guest : c.cluster-guest.result ≡ c.args.offset / cluster_size c.args.self.now.tables.file.header.fields = c.cluster-guest.ensures
    ∙ ap (λ (b : ℕ). c.args.offset / 2 ^ b) c.cluster_bits-cluster_bits.ensures.value in
    fresh-done g.S.Storage g.B.LayersBelowModel asked c.cluster-guest.result c.args.count c.in_ok-content.content
    (c.args.self.now, c.args.below.now) c.content_for.new.self c.content_for.new.below
    (subst (λ (n : ℕ). MakesContent g.S.Storage g.B.LayersBelowModel (record asked { length = n }) (c.args.self.now, c.args.below.now)
    (Ok c.in_ok-content.content)
    (c.content_for.new.self, c.content_for.new.below)) first c.in_ok-content.ensures)
    c.in_ok-kept.kept c.kept_at.new.self c.in_ok-kept.ensures guest c.requires.any c.in_ok-clusters.clusters c.reserve.new.self
    (subst (λ bytes. Reserves g.S.Storage c.cluster-guest.result c.in_ok-kept.kept c.args.count bytes c.kept_at.new.self
    (Ok c.in_ok-clusters.clusters) c.reserve.new.self)
    c.deref.ensures.value c.in_ok-clusters.ensures)
    c.hold.result c.hold.new.self
    (subst (λ (n : ℕ). KeepsMapping g.S.Storage (record asked { length = n }) c.in_ok-clusters.clusters c.reserve.new.self c.hold.result
    c.hold.new.self) run c.hold.ensures)

pub returns-in_err-clusters : goal.returns-in_err-clusters
returns-in_err-clusters g c = rw (handed-on _ _ c.from_residual-in_err-clusters.ensures.1) (
    let asked : Asked = asking c.args.offset c.args.length c.args.overwrite in
    let guest : c.cluster-guest.result ≡ c.args.offset / cluster_size c.args.self.now.tables.file.header.fields = c.cluster-guest.ensures
    ∙ ap (λ (b : ℕ). c.args.offset / 2 ^ b) c.cluster_bits-cluster_bits.ensures.value in
    let first = c.run_in-first.ensures ∙ one-cluster c.args.self.now.tables.file.header.fields c.args.offset c.args.length in
    fresh-unreserved g.S.Storage g.B.LayersBelowModel asked c.cluster-guest.result c.args.count c.in_ok-content.content
    (c.args.self.now, c.args.below.now) c.content_for.new.self c.content_for.new.below
    (subst (λ (n : ℕ). MakesContent g.S.Storage g.B.LayersBelowModel (record asked { length = n }) (c.args.self.now, c.args.below.now)
    (Ok c.in_ok-content.content)
    (c.content_for.new.self, c.content_for.new.below)) first c.in_ok-content.ensures)
    c.in_ok-kept.kept c.kept_at.new.self c.in_ok-kept.ensures guest
    c.reserve.new.self c.in_err-clusters.field-0.0
    (subst (λ bytes. Reserves g.S.Storage c.cluster-guest.result c.in_ok-kept.kept c.args.count bytes c.kept_at.new.self
    (Err c.in_err-clusters.field-0.0) c.reserve.new.self)
    c.deref.ensures.value c.in_err-clusters.ensures))

pub content_for-requires-clause-inside : goal.content_for-requires-clause-inside
content_for-requires-clause-inside g c =
    run-inside c.args.offset c.args.length (cluster_size c.args.self.now.tables.file.header.fields - c.args.offset % cluster_size c.args.self.now.tables.file.header.fields) c.args.self.now.tables.file.header.fields.size c.run_in-first.result
    (c.run_in-first.ensures ∙ one-cluster c.args.self.now.tables.file.header.fields c.args.offset c.args.length) c.requires.inside

pub content_for-requires-clause-row : goal.content_for-requires-clause-row
content_for-requires-clause-row g c =
    run-most c.args.length (cluster_size c.args.self.now.tables.file.header.fields - c.args.offset % cluster_size c.args.self.now.tables.file.header.fields) c.run_in-first.result
    (c.run_in-first.ensures ∙ one-cluster c.args.self.now.tables.file.header.fields c.args.offset c.args.length)

pub content_for-requires-clause-nonempty : goal.content_for-requires-clause-nonempty
content_for-requires-clause-nonempty g c =
    run-some c.args.offset c.args.length (cluster_size c.args.self.now.tables.file.header.fields) c.run_in-first.result
    (pow_pos c.args.self.now.tables.file.header.fields.cluster_bits) (c.run_in-first.ensures ∙ one-cluster c.args.self.now.tables.file.header.fields c.args.offset c.args.length) c.requires.nonempty

pub content_for-requires-clause-runs : goal.content_for-requires-clause-runs
content_for-requires-clause-runs g c = c.requires.runs

pub kept_at-requires-clause-runs : goal.kept_at-requires-clause-runs
kept_at-requires-clause-runs g c = c.in_ok-content.ensures.keeps.failed ∙ c.requires.runs

pub reserve-requires-clause-host_addressable : goal.reserve-requires-clause-host_addressable
reserve-requires-clause-host_addressable g c =
    rw (ap (λ (H : Header). H.fields.cluster_bits) c.in_ok-kept.ensures.keeps.tables.header) c.in_ok-kept.ensures.reach

pub reserve-requires-clause-any : goal.reserve-requires-clause-any
reserve-requires-clause-any g c = c.requires.any

pub reserve-requires-clause-row : goal.reserve-requires-clause-row
reserve-requires-clause-row g c =
    let guest : c.cluster-guest.result ≡ c.args.offset / cluster_size c.args.self.now.tables.file.header.fields = c.cluster-guest.ensures
    ∙ ap (λ (b : ℕ). c.args.offset / 2 ^ b) c.cluster_bits-cluster_bits.ensures.value in
    subst (λ (H : Header). c.cluster-guest.result % entries_of_cluster H.fields + c.args.count ≤ entries_of_cluster H.fields)
    (sym (c.in_ok-kept.ensures.keeps.tables.header ∙ c.in_ok-content.ensures.keeps.tables.header))
    (subst (λ (n : ℕ). n % entries_of_cluster c.args.self.now.tables.file.header.fields + c.args.count ≤ entries_of_cluster c.args.self.now.tables.file.header.fields)
    (sym guest) c.requires.row)

pub reserve-requires-clause-free : goal.reserve-requires-clause-free
reserve-requires-clause-free g c = c.in_ok-kept.ensures.keeps.unspent ∙ (c.in_ok-content.ensures.keeps.unspent ∙ c.requires.free)

pub hold-requires-clause-reach : goal.hold-requires-clause-reach
hold-requires-clause-reach g c =
    subst (λ (b : ℕ). IsAddressable b (c.in_ok-clusters.clusters.host + (c.in_ok-clusters.clusters.count - 1))) (sym c.in_ok-clusters.ensures.keeps.bits)
    c.in_ok-clusters.ensures.host_addressable

pub hold-requires-clause-any : goal.hold-requires-clause-any
hold-requires-clause-any g c = c.in_ok-clusters.ensures.many.0

pub hold-requires-clause-row : goal.hold-requires-clause-row
hold-requires-clause-row g c = run-most _ _ _ c.run_in-run.ensures

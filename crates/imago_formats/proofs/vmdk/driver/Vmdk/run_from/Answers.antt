use Rattle.std.proofs.Common.{◌≤◌, ◌*◌, ◌-◌, ◌∷◌, length, arith}
use Rattle.std.specs.Prelude.{map}
use Rattle.imago_formats.specs.VmdkLayer.{files_asked}
use Rattle.imago_formats.proofs.ExtentLemmas.{whole_run}
use Rattle.imago_formats.proofs.StorageLemmas.{all_aligned}
use Rattle.imago_formats.proofs.VmdkSteps.{all_open, looks_at, names_one, states_at}
use Rattle.imago_formats.proofs.vmdk.driver.Vmdk.run_from.Goals as goal

pub returns-in-Some-clause-storage_exists : goal.returns-in-Some-clause-storage_exists
returns-in-Some-clause-storage_exists g c = λ runs.
    let state = g.S.Storage.state in
    let r = c.args.self.now in
    let x = c.in-Some.found.extent.now in
    let open_all : files_asked r.disk.extents.items ≤ length (map state r.files.items) = all_open _ _ runs in
    rw c.mapping_at.ensures (names_one x.access x.source c.in-Some.found.number c.args.offset (c.args.offset - c.in-Some.found.start)
    (length (state r.image ∷ map state r.files.items)) (λ asks. omega (arith, c.in-Some.ensures.found.file_exists asks, open_all)))

pub returns-in-Some-clause-whole : goal.returns-in-Some-clause-whole
returns-in-Some-clause-whole g c =
    let x = c.in-Some.found.extent.now in
    whole_run c.args.self.now.disk.extents.items c.args.offset c.args.max_length c.min.result c.in-Some.found.start c.in-Some.found.number x
    c.in-Some.ensures.found c.min.ensures

pub returns-in-Some-clause-looks : goal.returns-in-Some-clause-looks
returns-in-Some-clause-looks g c = λ reach.
    let state = g.S.Storage.state in
    let r = c.args.self.now in
    let x = c.in-Some.found.extent.now in
    let short : c.min.result ≤ 512 * x.sectors - (c.args.offset - c.in-Some.found.start) = omega (arith, c.min.ensures) in
    rw c.mapping_at.ensures (looks_at r.disk.extents.items (state r.image) (map state r.files.items) c.args.offset c.args.max_length c.min.result x
    c.in-Some.found.start c.in-Some.found.number c.in-Some.ensures.found (all_aligned state g.met.S.Storage.aligned r.image r.files.items).positive reach short)

pub returns-in-Some-clause-explicit_zero : goal.returns-in-Some-clause-explicit_zero
returns-in-Some-clause-explicit_zero g c =
    let x = c.in-Some.found.extent.now in
    let short : c.min.result ≤ 512 * x.sectors - (c.args.offset - c.in-Some.found.start) = omega (arith, c.min.ensures) in
    rw c.mapping_at.ensures (states_at c.args.self.now.disk.extents.items c.args.offset c.min.result x c.in-Some.found.start c.in-Some.found.number
    c.in-Some.ensures.found short)

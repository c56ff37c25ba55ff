use Rattle.std.proofs.Common.{◌≡◌, ◌+◌, ◌*◌, ◌/◌, ◌^◌, ◌<◌, ℕ, arith, ap, refl, sym, subst, ◌∙◌}
use Rattle.imago_access.specs.Changes.{Asked, asking}
use Rattle.qcow2_types.specs.Header.{cluster_size}
use Rattle.qcow2_types.specs.Entries.{entry}
use Rattle.qcow2_image.specs.Looking.{Follows}
use Rattle.qcow2_image.specs.Seen.{file_of}
use Rattle.qcow2_image.proofs.Preparations.RangeRuns.{run-found, run-one}
use Rattle.qcow2_image.proofs.qcow2.Qcow2.covered_run.Goals as goal

pub look_up-requires-clause-fits : goal.look_up-requires-clause-fits
look_up-requires-clause-fits g c =
    let h = c.args.self.now.tables.file.header.fields in
    let guest : c.cluster-guest.result ≡ c.args.offset / cluster_size h = c.cluster-guest.ensures
    ∙ ap (λ (b : ℕ). c.args.offset / 2 ^ b) c.cluster_bits.ensures.value in
    let inside = subst (λ (x : ℕ). (x + c.most_covered-most.result) * cluster_size h < h.size + cluster_size h) (sym guest) c.most_covered-most.ensures.inside in
    let size = c.size-size.ensures in
    let bound = c.size-size.type_inv in
    omega (arith, inside, size, bound)

pub returns-in-Ok : goal.returns-in-Ok
returns-in-Ok g c =
    let asked : Asked = asking c.args.offset c.args.length c.args.overwrite in
    let d = c.args.self.now in
    let covers = c.most_covered-most.ensures in
    let la = c.look_up.ensures in
    let guest : c.cluster-guest.result ≡ c.args.offset / cluster_size d.tables.file.header.fields = c.cluster-guest.ensures
    ∙ ap (λ (b : ℕ). c.args.offset / 2 ^ b) c.cluster_bits.ensures.value in
    record {
      keeps = record {
        tables = record { unchanged_but_faults = la.unchanged_but_faults; counts_not_fallen = la.counts_not_fallen; faults = λ ok. c.in-Ok.ensures.faults tt; header = la.header; space = la.space; seen = la.seen };
        mode = refl;
        number = refl;
        unspent = refl;
        failed = refl;
      };
      one = run-one g.S.Storage asked d c.most_covered-most.result covers;
      ok = run-found g.S.Storage asked d c.most_covered-most.result covers c.if-not-overwrite.false c.in-Ok.count
          (let named = c.in-Ok.ensures.named in named.1) (let named = c.in-Ok.ensures.named in named.2)
          (λ seen k less. subst (λ x. Follows (entry (file_of g.S.Storage d.tables) d.tables.file.header.fields (x + k))
          (entry (file_of g.S.Storage d.tables) d.tables.file.header.fields (x + k + 1))) guest ((c.in-Ok.ensures.says seen).each k less));
      cause = tt;
      known_cause = λ seen. tt;
    }

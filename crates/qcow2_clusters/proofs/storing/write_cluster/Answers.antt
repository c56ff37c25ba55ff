use Rattle.std.proofs.Common.{◌≡◌, ℕ, ◌+◌, ◌*◌, ◌^◌, ◌<◌, ◌≤◌, arith, length, subst}
use Rattle.std.proofs.Math.Nat.{add-mul}
use Rattle.std.proofs.Math.Pow.{pow_mono}
use Rattle.std.proofs.lemmas.Nat.{pow_pos}
use Rattle.imago_storage.proofs.Once.{not-begun-below, put-below}
use Rattle.imago_storage.proofs.Trying.{untold}
use Rattle.imago_storage.specs.Through.{WriteOutcome}
use Rattle.imago_storage.specs.declared.padding.WriteFault.TheVariants.{Before, Within}
use Rattle.qcow2_types.specs.Header.{cluster_size}
use Rattle.qcow2_clusters.proofs.FileEnds.{put-reaches}
use Rattle.qcow2_clusters.proofs.Settlement.{done_so, refused_so}
use Rattle.qcow2_clusters.proofs.storing.write_cluster.Goals as goal

pub returns-in-Ok-clause-put : goal.returns-in-Ok-clause-put
returns-in-Ok-clause-put g c =
    let h = c.args.file.now.header.fields in
    let before = g.S.Storage.state c.args.file.now.image in
    let after = g.S.Storage.state c.try_write.new.self in
    let w = c.try_write in
    let most : 2 ^ h.cluster_bits ≤ 2 ^ 21 = pow_mono c.cluster_bits.ensures.shaped.high in
    let reach = c.requires.reach in
    let whole = c.requires.whole in
    let at : c.place.inside.0 ≡ c.args.cluster * cluster_size h = cc in
    let low : c.place.inside.0 + length c.args.content.now ≤ 2 ^ 63 = omega (arith, most, reach, whole, at) in
    subst (λ (n : ℕ). WriteOutcome before after n c.args.content.now done_so) at
    (put-below done_so before after c.place.inside.0 c.args.content.now w.ensures.unit low (rw c.in-Ok.is at w.ensures.ok) tt w.ensures.crash_images w.ensures.shape w.ensures.counts_not_fallen)

pub returns-in-Ok-clause-reaches : goal.returns-in-Ok-clause-reaches
returns-in-Ok-clause-reaches g c =
    let h = c.args.file.now.header.fields in
    let w = c.try_write in
    let whole = c.requires.whole in
    let some : 0 < cluster_size h = pow_pos h.cluster_bits in
    let at : c.place.inside.0 ≡ c.args.cluster * cluster_size h = cc in
    let parts : (c.args.cluster + 1) * cluster_size h ≡ c.args.cluster * cluster_size h + 1 * cluster_size h = add-mul c.args.cluster 1 (cluster_size h) in
    put-reaches done_so (g.S.Storage.state c.args.file.now.image) (g.S.Storage.state w.new.self) c.place.inside.0 c.args.content.now
    ((c.args.cluster + 1) * cluster_size h) (omega (arith, whole, some)) w.ensures.unit (omega (arith, parts, at, whole)) (rw c.in-Ok.is at w.ensures.ok)

pub returns-in-Ok-clause-untouched_unless_begun : goal.returns-in-Ok-clause-untouched_unless_begun
returns-in-Ok-clause-untouched_unless_begun g c = λ not. absurd (cc not)

pub returns-in-Err-Before-clause-put : goal.returns-in-Err-Before-clause-put
returns-in-Err-Before-clause-put g c =
    let h = c.args.file.now.header.fields in
    let before = g.S.Storage.state c.args.file.now.image in
    let after = g.S.Storage.state c.try_write.new.self in
    let w = c.try_write in
    let fault = c.in-Err-Before.fault in
    let refused = rw c.in-Err-Before.field-0-is at c.in-Err-Before.ensures.err in
    let most : 2 ^ h.cluster_bits ≤ 2 ^ 21 = pow_mono c.cluster_bits.ensures.shaped.high in
    let reach = c.requires.reach in
    let whole = c.requires.whole in
    let at : c.place.inside.0 ≡ c.args.cluster * cluster_size h = cc in
    let low : c.place.inside.0 + length c.args.content.now ≤ 2 ^ 63 = omega (arith, most, reach, whole, at) in
    subst (λ (n : ℕ). WriteOutcome before after n c.args.content.now (refused_so fault)) at
    (put-below (refused_so fault) before after c.place.inside.0 c.args.content.now w.ensures.unit low tt (untold before after c.place.inside.0 c.args.content.now (Before fault) refused) w.ensures.crash_images w.ensures.shape w.ensures.counts_not_fallen)

pub returns-in-Err-Before-clause-untouched_unless_begun : goal.returns-in-Err-Before-clause-untouched_unless_begun
returns-in-Err-Before-clause-untouched_unless_begun g c = λ not.
    let h = c.args.file.now.header.fields in
    let before = g.S.Storage.state c.args.file.now.image in
    let after = g.S.Storage.state c.try_write.new.self in
    let w = c.try_write in
    let fault = c.in-Err-Before.fault in
    let refused = rw c.in-Err-Before.field-0-is at c.in-Err-Before.ensures.err in
    let most : 2 ^ h.cluster_bits ≤ 2 ^ 21 = pow_mono c.cluster_bits.ensures.shaped.high in
    let reach = c.requires.reach in
    let whole = c.requires.whole in
    let at : c.place.inside.0 ≡ c.args.cluster * cluster_size h = cc in
    let low : c.place.inside.0 + length c.args.content.now ≤ 2 ^ 63 = omega (arith, most, reach, whole, at) in
    (not, tt, (not-begun-below before after c.place.inside.0 c.args.content.now fault w.ensures.unit low refused).unchanged_but_faults)

pub returns-in-Err-Within-clause-put : goal.returns-in-Err-Within-clause-put
returns-in-Err-Within-clause-put g c =
    let h = c.args.file.now.header.fields in
    let before = g.S.Storage.state c.args.file.now.image in
    let after = g.S.Storage.state c.try_write.new.self in
    let w = c.try_write in
    let fault = c.in-Err-Within.fault in
    let refused = rw c.in-Err-Within.field-0-is at c.in-Err-Within.ensures.err in
    let most : 2 ^ h.cluster_bits ≤ 2 ^ 21 = pow_mono c.cluster_bits.ensures.shaped.high in
    let reach = c.requires.reach in
    let whole = c.requires.whole in
    let at : c.place.inside.0 ≡ c.args.cluster * cluster_size h = cc in
    let low : c.place.inside.0 + length c.args.content.now ≤ 2 ^ 63 = omega (arith, most, reach, whole, at) in
    subst (λ (n : ℕ). WriteOutcome before after n c.args.content.now (refused_so fault)) at
    (put-below (refused_so fault) before after c.place.inside.0 c.args.content.now w.ensures.unit low tt (untold before after c.place.inside.0 c.args.content.now (Within fault) refused) w.ensures.crash_images w.ensures.shape w.ensures.counts_not_fallen)

pub returns-in-Err-Within-clause-untouched_unless_begun : goal.returns-in-Err-Within-clause-untouched_unless_begun
returns-in-Err-Within-clause-untouched_unless_begun g c = λ not. absurd (cc not)

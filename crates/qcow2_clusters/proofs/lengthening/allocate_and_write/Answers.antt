use Rattle.std.proofs.Common.{◌≡◌, ℕ, ◌+◌, ◌-◌, ◌*◌, ◌/◌, ◌^◌, ◌<◌, ◌≤◌, arith, ap, refl, sym, subst, ◌∙◌, List, length, false, Some, Ok, Err}
use Rattle.std.proofs.Math.Nat.{mul-le-mul_right}
use Rattle.imago_storage.specs.Through.{WriteOutcome}
use Rattle.qcow2_types.specs.Header.{cluster_size}
use Rattle.qcow2_types.specs.Pending.{FreeEntry}
use Rattle.qcow2_types.specs.TableBytes.{table_bytes}
use Rattle.qcow2_types.specs.Words.{max_offset}
use Rattle.qcow2_metadata.specs.Tables.{TableValue, table_start}
use Rattle.qcow2_alloc.specs.FreeList.{FreeList}
use Rattle.qcow2_clusters.specs.Lengthening.{StandsIn, clusters_for}
use Rattle.qcow2_clusters.specs.Flushed.{clusters_state}
use Rattle.qcow2_clusters.specs.Storing.{StoresRunUnsettled}
use Rattle.qcow2_clusters.proofs.EarlyRefusals.{run-spared}
use Rattle.qcow2_clusters.proofs.AllocationsAtRest.{run-bits, run-refused}
use Rattle.qcow2_clusters.proofs.L1Growth.{some-taken, words-fit}
use Rattle.qcow2_clusters.proofs.Settlement.{done_so, refused_so}
use Rattle.qcow2_clusters.proofs.RunStores.{stored-refused, stored-unsettled}
use Rattle.qcow2_alloc.proofs.Faults.{handed-on}
use Rattle.qcow2_clusters.proofs.lengthening.allocate_and_write.Goals as goal

abbrev room_for : List FreeEntry → ℕ → FreeList
room_for entries held = record { entries = entries; held = held }

pub returns-in-Ok-clause-stores : goal.returns-in-Ok-clause-stores
returns-in-Ok-clause-stores g c =
    let state = g.S.Storage.state in
    let first = c.cluster-cluster.ensures ∙ ap (λ (e : FreeEntry). e.first) c.pending.view_is in
    let old = clusters_state c.args.file.now c.args.caches.now c.args.space.now in
    let h = c.args.file.now.header.fields in
    let ws = c.args.table.now.raw_entries in
    let new = c.try_allocate_clusters.new in
    let mid = clusters_state new.file new.caches (record { allocator = new.self; to_free = new.list }) in
    let n = c.cluster_count-count.result in
    let after = record new.file { image = c.write.new.image } in
    let taken : n ≡ clusters_for h (length ws) = c.cluster_count-count.ensures ∙ ap (λ b. (8 * length ws + (2 ^ b - 1)) / 2 ^ b) c.requires.bits in
    let bits = run-bits state old c.requires.caches_empty c.requires.room n mid (Ok c.in_ok-pending.pending) c.in_ok-pending.ensures.allocates in
    let at : c.cluster-cluster.result * 2 ^ c.args.table.now.layout.cluster_bits ≡ c.in_ok-pending.pending.first * cluster_size
    new.file.header.fields =
    ap (λ k. k * 2 ^ c.args.table.now.layout.cluster_bits) first ∙ ap (λ b. c.in_ok-pending.pending.first * 2 ^ b)
    (c.requires.bits ∙ sym bits) in
    let put = subst (λ p. WriteOutcome (state new.file.image) (state after.image) p (table_bytes ws) done_so) at
    (subst (λ (t : TableValue). WriteOutcome (state new.file.image) (state after.image) (table_start t) (table_bytes t.raw_entries) done_so)
    c.set_cluster.ensures c.in-Ok.ensures.request) in
    let some : 0 < n = (let more = some-taken h (length ws) c.requires.nonempty in omega (arith, more, taken)) in
    let long : length (table_bytes ws) ≤ n * cluster_size h = subst (λ k. length (table_bytes ws) ≤ k * cluster_size h) (sym taken) (words-fit h ws) in
    let stores = stored-unsettled state old c.requires.caches_empty c.requires.room n mid c.in_ok-pending.pending c.in_ok-pending.ensures.allocates
    some
    (table_bytes ws) long after refl put c.in_ok-pending.ensures.held in
    subst (λ k. StoresRunUnsettled state k (table_bytes ws) old (Ok c.cluster-cluster.result) (clusters_state after new.caches (record { allocator = new.self; to_free = new.list }))) taken
    (subst (λ k. StoresRunUnsettled state n (table_bytes ws) old (Ok k) (clusters_state after new.caches (record { allocator = new.self; to_free = new.list }))) (sym first) stores)

pub returns-in-Ok-clause-stands : goal.returns-in-Ok-clause-stands
returns-in-Ok-clause-stands g c =
    let state = g.S.Storage.state in
    let h = c.args.file.now.header.fields in
    let table = c.args.table.now in
    let new = c.try_allocate_clusters.new in
    let after = record new.file { image = c.write.new.image } in
    let k : ℕ = c.cluster-cluster.result in
    let n : ℕ = clusters_for h (length table.raw_entries) in
    let stores : StoresRunUnsettled state n (table_bytes table.raw_entries) (clusters_state c.args.file.now c.args.caches.now c.args.space.now) (Ok k)
    (clusters_state after new.caches (record { allocator = new.self; to_free = new.list })) = returns-in-Ok-clause-stores g c in
    let less : k * 2 ^ h.cluster_bits ≤ (k + (n - 1)) * 2 ^ h.cluster_bits =
    mul-le-mul_right (2 ^ h.cluster_bits) (let le : k ≤ k + (n - 1) = omega arith in le) in
    let reach : k * 2 ^ h.cluster_bits ≤ max_offset = omega (arith, less, stores.named.1) in
    let is : c.write.new.self ≡ record { layout = table.layout; raw_entries = table.raw_entries; cluster = Some k; modified = false } =
    c.in-Ok.ensures.ok ∙ ap (λ (t : TableValue). record t { modified = false }) c.set_cluster.ensures in
    subst (StandsIn h table (Ok k)) (sym is) (record {
      layout = refl;
      raw_entries = refl;
      placed = (subst (λ b. k * 2 ^ b ≤ max_offset) (sym c.requires.bits) reach, ap (λ b. k * 2 ^ b) c.requires.bits);
    })

pub returns-in-Err-clause-stores : goal.returns-in-Err-clause-stores
returns-in-Err-clause-stores g c =
    let state = g.S.Storage.state in
    let first = c.cluster-cluster.ensures ∙ ap (λ (e : FreeEntry). e.first) c.pending.view_is in
    let old = clusters_state c.args.file.now c.args.caches.now c.args.space.now in
    let h = c.args.file.now.header.fields in
    let ws = c.args.table.now.raw_entries in
    let new = c.try_allocate_clusters.new in
    let mid = clusters_state new.file new.caches (record { allocator = new.self; to_free = new.list }) in
    let n = c.cluster_count-count.result in
    let after = record new.file { image = c.write.new.image } in
    let fault = c.in-Err.fault in
    let taken : n ≡ clusters_for h (length ws) = c.cluster_count-count.ensures ∙ ap (λ b. (8 * length ws + (2 ^ b - 1)) / 2 ^ b) c.requires.bits in
    let bits = run-bits state old c.requires.caches_empty c.requires.room n mid (Ok c.in_ok-pending.pending) c.in_ok-pending.ensures.allocates in
    let at : c.cluster-cluster.result * 2 ^ c.args.table.now.layout.cluster_bits ≡ c.in_ok-pending.pending.first * cluster_size
    new.file.header.fields =
    ap (λ k. k * 2 ^ c.args.table.now.layout.cluster_bits) first ∙ ap (λ b. c.in_ok-pending.pending.first * 2 ^ b)
    (c.requires.bits ∙ sym bits) in
    let put = subst (λ p. WriteOutcome (state new.file.image) (state after.image) p (table_bytes ws) (refused_so fault)) at
    (subst (λ (t : TableValue). WriteOutcome (state new.file.image) (state after.image) (table_start t) (table_bytes t.raw_entries) (refused_so fault))
    c.set_cluster.ensures c.in-Err.ensures.request) in
    let some : 0 < n = (let more = some-taken h (length ws) c.requires.nonempty in omega (arith, more, taken)) in
    let long : length (table_bytes ws) ≤ n * cluster_size h = subst (λ k. length (table_bytes ws) ≤ k * cluster_size h) (sym taken) (words-fit h ws) in
    let held : new.list.held - 1 ≡ c.args.space.now.to_free.held = (let more = c.in_ok-pending.ensures.held in omega (arith, more)) in
    let left : c.release.new.self ≡ room_for new.list.entries c.args.space.now.to_free.held = c.release.ensures ∙ ap (λ (k : ℕ). room_for new.list.entries k) held in
    let stores = stored-refused state old c.requires.caches_empty c.requires.room n mid c.in_ok-pending.pending c.in_ok-pending.ensures.allocates
    some
    (table_bytes ws) long after refl fault put in
    subst (λ k. StoresRunUnsettled state k (table_bytes ws) old (Err fault) (clusters_state after new.caches (record { allocator = new.self; to_free = c.release.new.self }))) taken
    (subst (λ (l : FreeList). StoresRunUnsettled state n (table_bytes ws) old (Err fault) (clusters_state after new.caches (record { allocator = new.self; to_free = l }))) (sym left) stores)

pub returns-in_err-pending-clause-stores : goal.returns-in_err-pending-clause-stores
returns-in_err-pending-clause-stores g c = rw (handed-on _ _ c.from_residual.ensures.1) (
    let state = g.S.Storage.state in
    let h = c.args.file.now.header.fields in
    let ws = c.args.table.now.raw_entries in
    let old = clusters_state c.args.file.now c.args.caches.now c.args.space.now in
    let new = c.try_allocate_clusters.new in
    let mid = clusters_state new.file new.caches (record { allocator = new.self; to_free = new.list }) in
    let n = c.cluster_count-count.result in
    let taken : n ≡ clusters_for h (length ws) = c.cluster_count-count.ensures ∙ ap (λ b. (8 * length ws + (2 ^ b - 1)) / 2 ^ b) c.requires.bits in
    subst (λ k. StoresRunUnsettled state k (table_bytes ws) old (Err c.in_err-pending.field-0.0) mid) taken
    (run-refused state old c.requires.caches_empty c.requires.room n mid c.in_err-pending.field-0.0 c.in_err-pending.ensures.allocates
    (table_bytes ws) c.in_err-pending.ensures.held))

pub returns-in_err-pending-clause-untouched_unless_begun : goal.returns-in_err-pending-clause-untouched_unless_begun
returns-in_err-pending-clause-untouched_unless_begun g c = rw (handed-on _ _ c.from_residual.ensures.1) (
    let new = c.try_allocate_clusters.new in
    run-spared g.S.Storage.state c.args.begun.now new.begun (clusters_state c.args.file.now c.args.caches.now c.args.space.now) c.in_err-pending.field-0.0 new.self
    new.caches new.file new.list c.requires.caches_empty c.in_err-pending.ensures.untouched_unless_begun c.in_err-pending.ensures.held)

-- The call has begun once clusters are allocated.
pub returns-in-Ok-clause-untouched_unless_begun : goal.returns-in-Ok-clause-untouched_unless_begun
returns-in-Ok-clause-untouched_unless_begun g c = λ not.
    let h = c.args.file.now.header.fields in
    let ws = c.args.table.now.raw_entries in
    let n = c.cluster_count-count.result in
    let taken : n ≡ clusters_for h (length ws) = c.cluster_count-count.ensures ∙ ap (λ b. (8 * length ws + (2 ^ b - 1)) / 2 ^ b) c.requires.bits in
    let some : 0 < n = (let more = some-taken h (length ws) c.requires.nonempty in omega (arith, more, taken)) in
    let never = sym (c.in_ok-pending.ensures.begins some) ∙ not in
    absurd (cc never)

pub returns-in-Err-clause-untouched_unless_begun : goal.returns-in-Err-clause-untouched_unless_begun
returns-in-Err-clause-untouched_unless_begun g c = λ not.
    let h = c.args.file.now.header.fields in
    let ws = c.args.table.now.raw_entries in
    let n = c.cluster_count-count.result in
    let taken : n ≡ clusters_for h (length ws) = c.cluster_count-count.ensures ∙ ap (λ b. (8 * length ws + (2 ^ b - 1)) / 2 ^ b) c.requires.bits in
    let some : 0 < n = (let more = some-taken h (length ws) c.requires.nonempty in omega (arith, more, taken)) in
    let never = sym (c.in_ok-pending.ensures.begins some) ∙ not in
    absurd (cc never)

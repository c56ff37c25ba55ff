use Rattle.std.proofs.Common.{◌≡◌, ℕ, ◌+◌, ◌-◌, ◌*◌, ◌/◌, ◌%◌, ◌^◌, ◌<◌, ◌≤◌, refl, arith, ap, sym, subst, ◌∙◌, Ok, Err, [], ◌∷◌}
use Rattle.std.specs.Prelude.{min, ◌⊎◌}
use Rattle.std.proofs.lemmas.Nat.{mod_below, pow_pos, div-add-mod'}
use Rattle.std.proofs.Math.Nat.{pow-le-pow_right}
use Rattle.qcow2_types.specs.Entries.{l2_entries, entry}
use Rattle.qcow2_types.specs.Header.{cluster_size}
use Rattle.qcow2_types.specs.Words.{damaged}
use Rattle.qcow2_metadata.specs.MappingView.{mapping_seen, IsHostAddressable}
use Rattle.qcow2_metadata.specs.declared.mapping.L2Mapping.{L2Mapping}
use Rattle.imago_access.specs.Mappings.{IsOneOf, IsRun, Looks, ReportsAllocation, ReportsExplicitZero}
use Rattle.imago_access.specs.Files.{byte_in}
use Rattle.imago_access.specs.Refusals.{LookCause}
use Rattle.qcow2_image.specs.Unspent.{holding_in}
use Rattle.qcow2_image.specs.declared.qcow2.Qcow2.{Qcow2}
use Rattle.imago_access.specs.declared.mapping.ShallowMapping.{ShallowMapping}
use Rattle.qcow2_alloc.specs.Causes.{HasCause}
use Rattle.qcow2_image.specs.ImageLayer.{qcow2_layer, shallow_of}
use Rattle.qcow2_image.specs.Rooms.{IsExplicitZero, IsUnallocated, IsZeroed}
use Rattle.qcow2_image.specs.Looking.{EndsNear, IsRunOf, looking_causes}
use Rattle.qcow2_image.specs.Seen.{file_of, memory_of}
use Rattle.qcow2_image.proofs.Ranges.{low-bits, high-bits, some-words, range-some, range-near, range-few, range-small, range-one-table, range-fits, range-within, range-word, range-ends}
use Rattle.qcow2_image.proofs.Ends.{long-run, run-goes-on}
use Rattle.qcow2_image.proofs.Steps.{began-kept, keeps-marked, looked-kept, marks-kept, memory-is}
use Rattle.qcow2_image.proofs.LookupAnswers.{ends-near, is-run, names-one, looks-run, room-run, states-run, look-cause}
use Rattle.qcow2_image.proofs.qcow2.Qcow2.run_from.Goals as goal

pub clusters_met-most-requires-clause-nonempty : goal.clusters_met-most-requires-clause-nonempty
clusters_met-most-requires-clause-nonempty g c = range-some c.cluster_bits-cluster_bits.result c.args.offset c.size-size.result c.args.max_length c.remaining_in_l2_table.result c.min-rest.result c.min-length.result c.in_cluster_offset-within.result ((c.in_cluster_offset-within.result + c.min-length.result - 1) / 2 ^ c.cluster_bits-cluster_bits.result + 1)
    (low-bits c.cluster_bits-cluster_bits.result _ c.cluster_bits-cluster_bits.ensures.value c.cluster_bits-cluster_bits.ensures.shaped) (high-bits c.cluster_bits-cluster_bits.result _ c.cluster_bits-cluster_bits.ensures.value c.cluster_bits-cluster_bits.ensures.shaped)
    c.remaining_in_l2_table.ensures c.min-rest.ensures c.min-length.ensures c.in_cluster_offset-within.ensures refl (omega (arith, c.size-size.ensures, c.requires.inside)) c.requires.limit_nonzero

pub look_up-requires-clause-fits : goal.look_up-requires-clause-fits
look_up-requires-clause-fits g c = subst (λ (x : ℕ). (c.cluster.result + c.clusters_met-most.result) * 2 ^ x < 2 ^ 64 + 2 ^ x) c.cluster_bits-cluster_bits.ensures.value
    (range-fits c.cluster_bits-cluster_bits.result c.args.offset c.size-size.result c.args.max_length c.remaining_in_l2_table.result c.min-rest.result c.min-length.result c.in_cluster_offset-within.result c.clusters_met-most.result
    (low-bits c.cluster_bits-cluster_bits.result _ c.cluster_bits-cluster_bits.ensures.value c.cluster_bits-cluster_bits.ensures.shaped) (high-bits c.cluster_bits-cluster_bits.result _ c.cluster_bits-cluster_bits.ensures.value c.cluster_bits-cluster_bits.ensures.shaped)
    c.remaining_in_l2_table.ensures c.min-rest.ensures c.min-length.ensures c.in_cluster_offset-within.ensures c.clusters_met-most.ensures (omega (arith, c.size-size.ensures, c.requires.inside)) c.requires.limit_nonzero c.cluster.result c.cluster.ensures (omega (arith, c.size-size.type_inv)))

pub look_up-requires-clause-one_table : goal.look_up-requires-clause-one_table
look_up-requires-clause-one_table g c = subst (λ (x : ℕ). c.cluster.result % l2_entries x + c.clusters_met-most.result ≤ l2_entries x) c.cluster_bits-cluster_bits.ensures.value
    (range-one-table c.cluster_bits-cluster_bits.result c.args.offset c.size-size.result c.args.max_length c.remaining_in_l2_table.result c.min-rest.result c.min-length.result c.in_cluster_offset-within.result c.clusters_met-most.result
    (low-bits c.cluster_bits-cluster_bits.result _ c.cluster_bits-cluster_bits.ensures.value c.cluster_bits-cluster_bits.ensures.shaped) (high-bits c.cluster_bits-cluster_bits.result _ c.cluster_bits-cluster_bits.ensures.value c.cluster_bits-cluster_bits.ensures.shaped)
    c.remaining_in_l2_table.ensures c.min-rest.ensures c.min-length.ensures c.in_cluster_offset-within.ensures c.clusters_met-most.ensures (omega (arith, c.size-size.ensures, c.requires.inside)) c.requires.limit_nonzero c.cluster.result c.cluster.ensures)

pub bytes_met-length-requires-clause-within : goal.bytes_met-length-requires-clause-within
bytes_met-length-requires-clause-within g c =
    let named = c.in-Ok.ensures.named in
    let lt = range-within c.cluster_bits-cluster_bits.result c.args.offset c.size-size.result c.args.max_length c.remaining_in_l2_table.result c.min-rest.result c.min-length.result c.in_cluster_offset-within.result c.clusters_met-most.result
    (low-bits c.cluster_bits-cluster_bits.result _ c.cluster_bits-cluster_bits.ensures.value c.cluster_bits-cluster_bits.ensures.shaped) (high-bits c.cluster_bits-cluster_bits.result _ c.cluster_bits-cluster_bits.ensures.value c.cluster_bits-cluster_bits.ensures.shaped)
    c.remaining_in_l2_table.ensures c.min-rest.ensures c.min-length.ensures c.in_cluster_offset-within.ensures c.clusters_met-most.ensures (omega (arith, c.size-size.ensures, c.requires.inside)) c.requires.limit_nonzero c.in-Ok.count named.1 in
    omega (arith, lt)

pub bytes_met-length-requires-clause-fits : goal.bytes_met-length-requires-clause-fits
bytes_met-length-requires-clause-fits g c =
    let named = c.in-Ok.ensures.named in
    range-word c.cluster_bits-cluster_bits.result c.args.offset c.size-size.result c.args.max_length c.remaining_in_l2_table.result c.min-rest.result c.min-length.result c.in_cluster_offset-within.result c.clusters_met-most.result
    (low-bits c.cluster_bits-cluster_bits.result _ c.cluster_bits-cluster_bits.ensures.value c.cluster_bits-cluster_bits.ensures.shaped) (high-bits c.cluster_bits-cluster_bits.result _ c.cluster_bits-cluster_bits.ensures.value c.cluster_bits-cluster_bits.ensures.shaped)
    c.remaining_in_l2_table.ensures c.min-rest.ensures c.min-length.ensures c.in_cluster_offset-within.ensures c.clusters_met-most.ensures (omega (arith, c.size-size.ensures, c.requires.inside)) c.requires.limit_nonzero c.in-Ok.count named.2

pub returns-in-Ok-clause-run : goal.returns-in-Ok-clause-run
returns-in-Ok-clause-run g c =
    let q = c.args.self.now in
    let t = q.tables in
    let h = t.file.header.fields in
    let s = g.S.Storage.state t.file.image in
    let b = c.cluster_bits-cluster_bits.ensures.value in
    let n = c.bytes_met-length.result in
    let run : L2Mapping × ℕ = (c.in-Ok.mapping, c.in-Ok.count) in
    let named = c.in-Ok.ensures.named in
    let near = range-near c.cluster_bits-cluster_bits.result c.args.offset c.size-size.result c.args.max_length c.remaining_in_l2_table.result c.min-rest.result c.min-length.result c.in_cluster_offset-within.result c.clusters_met-most.result
    (low-bits c.cluster_bits-cluster_bits.result _ c.cluster_bits-cluster_bits.ensures.value c.cluster_bits-cluster_bits.ensures.shaped) (high-bits c.cluster_bits-cluster_bits.result _ c.cluster_bits-cluster_bits.ensures.value c.cluster_bits-cluster_bits.ensures.shaped)
    c.remaining_in_l2_table.ensures c.min-rest.ensures c.min-length.ensures c.in_cluster_offset-within.ensures c.clusters_met-most.ensures (omega (arith, c.size-size.ensures, c.requires.inside)) c.requires.limit_nonzero in
    let few = range-few c.cluster_bits-cluster_bits.result c.args.offset c.size-size.result c.args.max_length c.remaining_in_l2_table.result c.min-rest.result c.min-length.result c.in_cluster_offset-within.result c.clusters_met-most.result
    (low-bits c.cluster_bits-cluster_bits.result _ c.cluster_bits-cluster_bits.ensures.value c.cluster_bits-cluster_bits.ensures.shaped) (high-bits c.cluster_bits-cluster_bits.result _ c.cluster_bits-cluster_bits.ensures.value c.cluster_bits-cluster_bits.ensures.shaped)
    c.remaining_in_l2_table.ensures c.min-rest.ensures c.min-length.ensures c.in_cluster_offset-within.ensures c.clusters_met-most.ensures (omega (arith, c.size-size.ensures, c.requires.inside)) c.requires.limit_nonzero in
    let positive = range-some c.cluster_bits-cluster_bits.result c.args.offset c.size-size.result c.args.max_length c.remaining_in_l2_table.result c.min-rest.result c.min-length.result c.in_cluster_offset-within.result c.clusters_met-most.result
    (low-bits c.cluster_bits-cluster_bits.result _ c.cluster_bits-cluster_bits.ensures.value c.cluster_bits-cluster_bits.ensures.shaped) (high-bits c.cluster_bits-cluster_bits.result _ c.cluster_bits-cluster_bits.ensures.value c.cluster_bits-cluster_bits.ensures.shaped)
    c.remaining_in_l2_table.ensures c.min-rest.ensures c.min-length.ensures c.in_cluster_offset-within.ensures c.clusters_met-most.ensures (omega (arith, c.size-size.ensures, c.requires.inside)) c.requires.limit_nonzero in
    let first = range-within c.cluster_bits-cluster_bits.result c.args.offset c.size-size.result c.args.max_length c.remaining_in_l2_table.result c.min-rest.result c.min-length.result c.in_cluster_offset-within.result c.clusters_met-most.result
    (low-bits c.cluster_bits-cluster_bits.result _ c.cluster_bits-cluster_bits.ensures.value c.cluster_bits-cluster_bits.ensures.shaped) (high-bits c.cluster_bits-cluster_bits.result _ c.cluster_bits-cluster_bits.ensures.value c.cluster_bits-cluster_bits.ensures.shaped)
    c.remaining_in_l2_table.ensures c.min-rest.ensures c.min-length.ensures c.in_cluster_offset-within.ensures c.clusters_met-most.ensures (omega (arith, c.size-size.ensures, c.requires.inside)) c.requires.limit_nonzero c.in-Ok.count named.1 in
    let layer = qcow2_layer s (memory_of g.S.Storage t) h q.mode q.number q.failed (holding_in g.S.Storage q.unspent) in
    subst (λ x. IsRun layer c.args.offset c.args.max_length x n) (sym c.shallow.ensures)
    (is-run layer q.mode c.cluster_bits-cluster_bits.result c.args.offset c.in_cluster_offset-within.result n c.args.max_length c.in-Ok.mapping c.requires.inside (omega (arith, c.bytes_met-length.ensures, few)) (omega (arith, c.bytes_met-length.ensures, near, c.size-size.ensures)) (λ asked. omega (arith, c.bytes_met-length.ensures, positive, first)))

pub returns-in-Ok-clause-storage_exists : goal.returns-in-Ok-clause-storage_exists
returns-in-Ok-clause-storage_exists g c =
    subst (IsOneOf 1) (sym c.shallow.ensures) (names-one c.args.self.now.mode c.cluster_bits-cluster_bits.result c.args.offset c.in_cluster_offset-within.result c.in-Ok.mapping)

pub returns-in-Ok-clause-looks : goal.returns-in-Ok-clause-looks
returns-in-Ok-clause-looks g c = λ seen.
    let q = c.args.self.now in
    let t = q.tables in
    let h = t.file.header.fields in
    let s = g.S.Storage.state t.file.image in
    let b = c.cluster_bits-cluster_bits.ensures.value in
    let n = c.bytes_met-length.result in
    let run : L2Mapping × ℕ = (c.in-Ok.mapping, c.in-Ok.count) in
    let named = c.in-Ok.ensures.named in
    let near = range-near c.cluster_bits-cluster_bits.result c.args.offset c.size-size.result c.args.max_length c.remaining_in_l2_table.result c.min-rest.result c.min-length.result c.in_cluster_offset-within.result c.clusters_met-most.result
    (low-bits c.cluster_bits-cluster_bits.result _ c.cluster_bits-cluster_bits.ensures.value c.cluster_bits-cluster_bits.ensures.shaped) (high-bits c.cluster_bits-cluster_bits.result _ c.cluster_bits-cluster_bits.ensures.value c.cluster_bits-cluster_bits.ensures.shaped)
    c.remaining_in_l2_table.ensures c.min-rest.ensures c.min-length.ensures c.in_cluster_offset-within.ensures c.clusters_met-most.ensures (omega (arith, c.size-size.ensures, c.requires.inside)) c.requires.limit_nonzero in
    let few = range-few c.cluster_bits-cluster_bits.result c.args.offset c.size-size.result c.args.max_length c.remaining_in_l2_table.result c.min-rest.result c.min-length.result c.in_cluster_offset-within.result c.clusters_met-most.result
    (low-bits c.cluster_bits-cluster_bits.result _ c.cluster_bits-cluster_bits.ensures.value c.cluster_bits-cluster_bits.ensures.shaped) (high-bits c.cluster_bits-cluster_bits.result _ c.cluster_bits-cluster_bits.ensures.value c.cluster_bits-cluster_bits.ensures.shaped)
    c.remaining_in_l2_table.ensures c.min-rest.ensures c.min-length.ensures c.in_cluster_offset-within.ensures c.clusters_met-most.ensures (omega (arith, c.size-size.ensures, c.requires.inside)) c.requires.limit_nonzero in
    let positive = range-some c.cluster_bits-cluster_bits.result c.args.offset c.size-size.result c.args.max_length c.remaining_in_l2_table.result c.min-rest.result c.min-length.result c.in_cluster_offset-within.result c.clusters_met-most.result
    (low-bits c.cluster_bits-cluster_bits.result _ c.cluster_bits-cluster_bits.ensures.value c.cluster_bits-cluster_bits.ensures.shaped) (high-bits c.cluster_bits-cluster_bits.result _ c.cluster_bits-cluster_bits.ensures.value c.cluster_bits-cluster_bits.ensures.shaped)
    c.remaining_in_l2_table.ensures c.min-rest.ensures c.min-length.ensures c.in_cluster_offset-within.ensures c.clusters_met-most.ensures (omega (arith, c.size-size.ensures, c.requires.inside)) c.requires.limit_nonzero in
    let first = range-within c.cluster_bits-cluster_bits.result c.args.offset c.size-size.result c.args.max_length c.remaining_in_l2_table.result c.min-rest.result c.min-length.result c.in_cluster_offset-within.result c.clusters_met-most.result
    (low-bits c.cluster_bits-cluster_bits.result _ c.cluster_bits-cluster_bits.ensures.value c.cluster_bits-cluster_bits.ensures.shaped) (high-bits c.cluster_bits-cluster_bits.result _ c.cluster_bits-cluster_bits.ensures.value c.cluster_bits-cluster_bits.ensures.shaped)
    c.remaining_in_l2_table.ensures c.min-rest.ensures c.min-length.ensures c.in_cluster_offset-within.ensures c.clusters_met-most.ensures (omega (arith, c.size-size.ensures, c.requires.inside)) c.requires.limit_nonzero c.in-Ok.count named.1 in
    let small = range-small c.cluster_bits-cluster_bits.result c.args.offset c.size-size.result c.args.max_length c.remaining_in_l2_table.result c.min-rest.result c.min-length.result c.in_cluster_offset-within.result c.clusters_met-most.result
    (low-bits c.cluster_bits-cluster_bits.result _ c.cluster_bits-cluster_bits.ensures.value c.cluster_bits-cluster_bits.ensures.shaped) (high-bits c.cluster_bits-cluster_bits.result _ c.cluster_bits-cluster_bits.ensures.value c.cluster_bits-cluster_bits.ensures.shaped)
    c.remaining_in_l2_table.ensures c.min-rest.ensures c.min-length.ensures c.in_cluster_offset-within.ensures c.clusters_met-most.ensures (omega (arith, c.size-size.ensures, c.requires.inside)) c.requires.limit_nonzero in
    let power : 2 ^ c.cluster_bits-cluster_bits.result ≡ 2 ^ h.cluster_bits = ap (λ x. 2 ^ x) b in
    let within : c.in_cluster_offset-within.result ≡ c.args.offset % cluster_size h = c.in_cluster_offset-within.ensures ∙ ap (λ x. c.args.offset % x) power in
    let guest : c.cluster.result ≡ c.args.offset / cluster_size h = c.cluster.ensures ∙ ap (λ x. c.args.offset / x) power in
    let end : c.in-Ok.count * 2 ^ c.cluster_bits-cluster_bits.result ≡ c.in-Ok.count * cluster_size h = ap (λ x. c.in-Ok.count * x) power in
    let layer = qcow2_layer s (memory_of g.S.Storage t) h q.mode q.number q.failed (holding_in g.S.Storage q.unspent) in
    let is = subst (λ x. IsRunOf x c.clusters_met-most.result (entry (file_of g.S.Storage t) h) run) guest (c.in-Ok.ensures.says seen) in
    let aligned = g.met.S.Storage.aligned t.file.image in
    let stored = byte_in (g.S.Storage.state c.look_up.new.tables.file.image ∷ []) in
    let answer : c.shallow.result ≡ shallow_of q.mode h.cluster_bits c.args.offset (c.args.offset % cluster_size h) (mapping_seen c.in-Ok.mapping) =
    c.shallow.ensures ∙ ap (λ x. shallow_of q.mode x c.args.offset c.in_cluster_offset-within.result (mapping_seen c.in-Ok.mapping)) b ∙ ap (λ x. shallow_of q.mode h.cluster_bits c.args.offset x (mapping_seen c.in-Ok.mapping)) within in
    subst (λ x. Looks layer stored c.args.offset c.args.max_length x n) (sym answer)
    (looks-run s (memory_of g.S.Storage t) h q.mode q.number q.failed (holding_in g.S.Storage q.unspent) c.args.offset n c.clusters_met-most.result run (memory-is g.S.Storage t) (omega (arith, c.bytes_met-length.ensures, near, c.size-size.ensures)) (omega (arith, c.bytes_met-length.ensures, within, end)) is
    c.args.max_length [] (g.S.Storage.state c.look_up.new.tables.file.image) c.look_up.ensures.unchanged_but_faults.bytes aligned.requests aligned.memory named.0 (omega (arith, c.bytes_met-length.ensures, small)) (pow-le-pow_right (omega arith) c.cluster_bits-cluster_bits.ensures.shaped.high))

pub returns-in-Ok-clause-room : goal.returns-in-Ok-clause-room
returns-in-Ok-clause-room g c = λ seen.
    let q = c.args.self.now in
    let t = q.tables in
    let h = t.file.header.fields in
    let s = g.S.Storage.state t.file.image in
    let b = c.cluster_bits-cluster_bits.ensures.value in
    let n = c.bytes_met-length.result in
    let run : L2Mapping × ℕ = (c.in-Ok.mapping, c.in-Ok.count) in
    let named = c.in-Ok.ensures.named in
    let near = range-near c.cluster_bits-cluster_bits.result c.args.offset c.size-size.result c.args.max_length c.remaining_in_l2_table.result c.min-rest.result c.min-length.result c.in_cluster_offset-within.result c.clusters_met-most.result
    (low-bits c.cluster_bits-cluster_bits.result _ c.cluster_bits-cluster_bits.ensures.value c.cluster_bits-cluster_bits.ensures.shaped) (high-bits c.cluster_bits-cluster_bits.result _ c.cluster_bits-cluster_bits.ensures.value c.cluster_bits-cluster_bits.ensures.shaped)
    c.remaining_in_l2_table.ensures c.min-rest.ensures c.min-length.ensures c.in_cluster_offset-within.ensures c.clusters_met-most.ensures (omega (arith, c.size-size.ensures, c.requires.inside)) c.requires.limit_nonzero in
    let power : 2 ^ c.cluster_bits-cluster_bits.result ≡ 2 ^ h.cluster_bits = ap (λ x. 2 ^ x) b in
    let within : c.in_cluster_offset-within.result ≡ c.args.offset % cluster_size h = c.in_cluster_offset-within.ensures ∙ ap (λ x. c.args.offset % x) power in
    let guest : c.cluster.result ≡ c.args.offset / cluster_size h = c.cluster.ensures ∙ ap (λ x. c.args.offset / x) power in
    let end : c.in-Ok.count * 2 ^ c.cluster_bits-cluster_bits.result ≡ c.in-Ok.count * cluster_size h = ap (λ x. c.in-Ok.count * x) power in
    let layer = qcow2_layer s (memory_of g.S.Storage t) h q.mode q.number q.failed (holding_in g.S.Storage q.unspent) in
    let is = subst (λ x. IsRunOf x c.clusters_met-most.result (entry (file_of g.S.Storage t) h) run) guest (c.in-Ok.ensures.says seen) in
    let answer : c.shallow.result ≡ shallow_of q.mode h.cluster_bits c.args.offset (c.args.offset % cluster_size h) (mapping_seen c.in-Ok.mapping) =
    c.shallow.ensures ∙ ap (λ x. shallow_of q.mode x c.args.offset c.in_cluster_offset-within.result (mapping_seen c.in-Ok.mapping)) b ∙ ap (λ x. shallow_of q.mode h.cluster_bits c.args.offset x (mapping_seen c.in-Ok.mapping)) within in
    subst (λ x. ReportsAllocation layer (IsUnallocated (memory_of g.S.Storage t) h) (IsZeroed (memory_of g.S.Storage t) h) c.args.offset n x) (sym answer)
    (room-run s (memory_of g.S.Storage t) h q.mode q.number q.failed (holding_in g.S.Storage q.unspent) c.args.offset n c.clusters_met-most.result run (memory-is g.S.Storage t) (omega (arith, c.bytes_met-length.ensures, near, c.size-size.ensures)) (omega (arith, c.bytes_met-length.ensures, within, end)) is)

pub returns-in-Ok-clause-explicit_zero : goal.returns-in-Ok-clause-explicit_zero
returns-in-Ok-clause-explicit_zero g c = λ seen.
    let q = c.args.self.now in
    let t = q.tables in
    let h = t.file.header.fields in
    let s = g.S.Storage.state t.file.image in
    let b = c.cluster_bits-cluster_bits.ensures.value in
    let n = c.bytes_met-length.result in
    let run : L2Mapping × ℕ = (c.in-Ok.mapping, c.in-Ok.count) in
    let near = range-near c.cluster_bits-cluster_bits.result c.args.offset c.size-size.result c.args.max_length c.remaining_in_l2_table.result c.min-rest.result c.min-length.result c.in_cluster_offset-within.result c.clusters_met-most.result
    (low-bits c.cluster_bits-cluster_bits.result _ c.cluster_bits-cluster_bits.ensures.value c.cluster_bits-cluster_bits.ensures.shaped) (high-bits c.cluster_bits-cluster_bits.result _ c.cluster_bits-cluster_bits.ensures.value c.cluster_bits-cluster_bits.ensures.shaped)
    c.remaining_in_l2_table.ensures c.min-rest.ensures c.min-length.ensures c.in_cluster_offset-within.ensures c.clusters_met-most.ensures (omega (arith, c.size-size.ensures, c.requires.inside)) c.requires.limit_nonzero in
    let power : 2 ^ c.cluster_bits-cluster_bits.result ≡ 2 ^ h.cluster_bits = ap (λ x. 2 ^ x) b in
    let within : c.in_cluster_offset-within.result ≡ c.args.offset % cluster_size h = c.in_cluster_offset-within.ensures ∙ ap (λ x. c.args.offset % x) power in
    let guest : c.cluster.result ≡ c.args.offset / cluster_size h = c.cluster.ensures ∙ ap (λ x. c.args.offset / x) power in
    let end : c.in-Ok.count * 2 ^ c.cluster_bits-cluster_bits.result ≡ c.in-Ok.count * cluster_size h = ap (λ x. c.in-Ok.count * x) power in
    let is = subst (λ x. IsRunOf x c.clusters_met-most.result (entry (file_of g.S.Storage t) h) run) guest (c.in-Ok.ensures.says seen) in
    let answer : c.shallow.result ≡ shallow_of q.mode h.cluster_bits c.args.offset (c.args.offset % cluster_size h) (mapping_seen c.in-Ok.mapping) =
    c.shallow.ensures ∙ ap (λ x. shallow_of q.mode x c.args.offset c.in_cluster_offset-within.result (mapping_seen c.in-Ok.mapping)) b ∙ ap (λ x. shallow_of q.mode h.cluster_bits c.args.offset x (mapping_seen c.in-Ok.mapping)) within in
    subst (λ x. ReportsExplicitZero (IsExplicitZero (memory_of g.S.Storage t) h) c.args.offset (x, n)) (sym answer)
    (states-run s (memory_of g.S.Storage t) h q.mode q.number q.failed (holding_in g.S.Storage q.unspent) c.args.offset n c.clusters_met-most.result run (memory-is g.S.Storage t) (omega (arith, c.bytes_met-length.ensures, near, c.size-size.ensures)) (omega (arith, c.bytes_met-length.ensures, within, end)) is)

pub returns-in-Ok-clause-whole : goal.returns-in-Ok-clause-whole
returns-in-Ok-clause-whole g c = λ seen.
    let t = c.args.self.now.tables in
    let h = t.file.header.fields in
    let run : L2Mapping × ℕ = (c.in-Ok.mapping, c.in-Ok.count) in
    let n = c.bytes_met-length.result in
    let b = c.cluster_bits-cluster_bits.ensures.value in
    let named = c.in-Ok.ensures.named in
    let guest : c.cluster.result ≡ c.args.offset / cluster_size h = c.cluster.ensures ∙ ap (λ x. c.args.offset / 2 ^ x) b in
    let is = subst (λ x. IsRunOf x c.clusters_met-most.result (entry (file_of g.S.Storage t) h) run) guest (c.in-Ok.ensures.says seen) in
    let ends = range-ends c.cluster_bits-cluster_bits.result c.args.offset c.size-size.result c.args.max_length c.remaining_in_l2_table.result c.min-rest.result c.min-length.result c.in_cluster_offset-within.result c.clusters_met-most.result
    (low-bits c.cluster_bits-cluster_bits.result _ c.cluster_bits-cluster_bits.ensures.value c.cluster_bits-cluster_bits.ensures.shaped) (high-bits c.cluster_bits-cluster_bits.result _ c.cluster_bits-cluster_bits.ensures.value c.cluster_bits-cluster_bits.ensures.shaped)
    c.remaining_in_l2_table.ensures c.min-rest.ensures c.min-length.ensures c.in_cluster_offset-within.ensures c.clusters_met-most.ensures (omega (arith, c.size-size.ensures, c.requires.inside)) c.requires.limit_nonzero c.in-Ok.count n named.1 named.2 c.bytes_met-length.ensures in
    let at-size = subst (λ x. (n ≡ min c.args.max_length (x - c.args.offset)) ⊎ ((c.args.offset % (l2_entries c.cluster_bits-cluster_bits.result * 2 ^ c.cluster_bits-cluster_bits.result) + n ≡ l2_entries c.cluster_bits-cluster_bits.result * 2 ^ c.cluster_bits-cluster_bits.result) ⊎ ((c.in-Ok.count < c.clusters_met-most.result) × (c.args.offset + n ≡ (c.args.offset / 2 ^ c.cluster_bits-cluster_bits.result + c.in-Ok.count) * 2 ^ c.cluster_bits-cluster_bits.result)))) c.size-size.ensures ends in
    let at-bits = subst (λ x. (n ≡ min c.args.max_length (h.size - c.args.offset)) ⊎ ((c.args.offset % (l2_entries x * 2 ^ x) + n ≡ l2_entries x * 2 ^ x) ⊎ ((c.in-Ok.count < c.clusters_met-most.result) × (c.args.offset + n ≡ (c.args.offset / 2 ^ x + c.in-Ok.count) * 2 ^ x)))) b at-size in
    let power : 2 ^ c.cluster_bits-cluster_bits.result ≡ 2 ^ h.cluster_bits = ap (λ x. 2 ^ x) b in
    let within : c.in_cluster_offset-within.result ≡ c.args.offset % cluster_size h = c.in_cluster_offset-within.ensures ∙ ap (λ x. c.args.offset % x) power in
    let end : c.in-Ok.count * 2 ^ c.cluster_bits-cluster_bits.result ≡ c.in-Ok.count * cluster_size h = ap (λ x. c.in-Ok.count * x) power in
    let first = range-within c.cluster_bits-cluster_bits.result c.args.offset c.size-size.result c.args.max_length c.remaining_in_l2_table.result c.min-rest.result c.min-length.result c.in_cluster_offset-within.result c.clusters_met-most.result
    (low-bits c.cluster_bits-cluster_bits.result _ c.cluster_bits-cluster_bits.ensures.value c.cluster_bits-cluster_bits.ensures.shaped) (high-bits c.cluster_bits-cluster_bits.result _ c.cluster_bits-cluster_bits.ensures.value c.cluster_bits-cluster_bits.ensures.shaped)
    c.remaining_in_l2_table.ensures c.min-rest.ensures c.min-length.ensures c.in_cluster_offset-within.ensures c.clusters_met-most.ensures (omega (arith, c.size-size.ensures, c.requires.inside)) c.requires.limit_nonzero c.in-Ok.count named.1 in
    let place = div-add-mod' c.args.offset (cluster_size h) in
    let product : (c.args.offset / cluster_size h + c.in-Ok.count) * cluster_size h ≡ c.args.offset / cluster_size h * cluster_size h + c.in-Ok.count * cluster_size h = omega arith in
    let one = subst (λ x. c.args.offset / cluster_size h % l2_entries x + c.clusters_met-most.result ≤ l2_entries x) b (subst (λ x. x % l2_entries c.cluster_bits-cluster_bits.result + c.clusters_met-most.result ≤ l2_entries c.cluster_bits-cluster_bits.result) guest
    (range-one-table c.cluster_bits-cluster_bits.result c.args.offset c.size-size.result c.args.max_length c.remaining_in_l2_table.result c.min-rest.result c.min-length.result c.in_cluster_offset-within.result c.clusters_met-most.result
    (low-bits c.cluster_bits-cluster_bits.result _ c.cluster_bits-cluster_bits.ensures.value c.cluster_bits-cluster_bits.ensures.shaped) (high-bits c.cluster_bits-cluster_bits.result _ c.cluster_bits-cluster_bits.ensures.value c.cluster_bits-cluster_bits.ensures.shaped)
    c.remaining_in_l2_table.ensures c.min-rest.ensures c.min-length.ensures c.in_cluster_offset-within.ensures c.clusters_met-most.ensures (omega (arith, c.size-size.ensures, c.requires.inside)) c.requires.limit_nonzero c.cluster.result c.cluster.ensures)) in
    let rows = subst (λ x. 0 < l2_entries x) b (some-words c.cluster_bits-cluster_bits.result (low-bits c.cluster_bits-cluster_bits.result _ b c.cluster_bits-cluster_bits.ensures.shaped) (high-bits c.cluster_bits-cluster_bits.result _ b c.cluster_bits-cluster_bits.ensures.shaped)) in
    record {
      each = run-goes-on h (entry (file_of g.S.Storage t) h) c.args.offset n c.clusters_met-most.result run (pow_pos h.cluster_bits) rows is one (omega (arith, c.bytes_met-length.ensures, within, end, first, place, product));
      ends = long-run h (entry (file_of g.S.Storage t) h) c.args.offset c.args.max_length n c.clusters_met-most.result run (pow_pos h.cluster_bits) is at-bits;
    }

pub returns-in-Ok-clause-entry : goal.returns-in-Ok-clause-entry
returns-in-Ok-clause-entry g c = λ seen.
    let q = c.args.self.now in
    let t = q.tables in
    let h = t.file.header.fields in
    let b = c.cluster_bits-cluster_bits.ensures.value in
    let run : L2Mapping × ℕ = (c.in-Ok.mapping, c.in-Ok.count) in
    let power : 2 ^ c.cluster_bits-cluster_bits.result ≡ 2 ^ h.cluster_bits = ap (λ x. 2 ^ x) b in
    let within : c.in_cluster_offset-within.result ≡ c.args.offset % cluster_size h = c.in_cluster_offset-within.ensures ∙ ap (λ x. c.args.offset % x) power in
    let guest : c.cluster.result ≡ c.args.offset / cluster_size h = c.cluster.ensures ∙ ap (λ x. c.args.offset / x) power in
    let is = subst (λ x. IsRunOf x c.clusters_met-most.result (entry (file_of g.S.Storage t) h) run) guest (c.in-Ok.ensures.says seen) in
    c.shallow.ensures ∙ ap (λ x. shallow_of q.mode x c.args.offset c.in_cluster_offset-within.result (mapping_seen c.in-Ok.mapping)) b
    ∙ ap (λ x. shallow_of q.mode h.cluster_bits c.args.offset x (mapping_seen c.in-Ok.mapping)) within
    ∙ ap (shallow_of q.mode h.cluster_bits c.args.offset (c.args.offset % cluster_size h)) is.first

pub returns-in-Ok-clause-lookup_call : goal.returns-in-Ok-clause-lookup_call
returns-in-Ok-clause-lookup_call g c =
    let la = c.look_up.ensures in
    looked-kept g.row.S g.S.Storage g.S.Storage-dict g.S.Destruct-dict {T = ShallowMapping × ℕ} c.args.self.now _ (Ok (c.shallow.result, c.bytes_met-length.result))
    (record { tables = record { unchanged_but_faults = la.unchanged_but_faults; counts_not_fallen = la.counts_not_fallen; faults = λ ok. c.in-Ok.ensures.faults tt; header = la.header; space = la.space; seen = la.seen }; mode = refl; number = refl; unspent = refl; failed = refl })

pub returns-in-Err-clause-lookup_call : goal.returns-in-Err-clause-lookup_call
returns-in-Err-clause-lookup_call g c =
    let la = c.look_up.ensures in
    looked-kept g.row.S g.S.Storage g.S.Storage-dict g.S.Destruct-dict {T = ShallowMapping × ℕ} c.args.self.now c.mark.new.self (Err c.in-Err.fault)
    (keeps-marked g.S.Storage c.args.self.now c.mark.new.self c.look_up.new.tables (Err c.in-Err.fault) (record { unchanged_but_faults = la.unchanged_but_faults; counts_not_fallen = la.counts_not_fallen; faults = c.in-Err.ensures.faults; header = la.header; space = la.space; seen = la.seen }) c.mark.ensures)

pub returns-in-Err-clause-marks_failed : goal.returns-in-Err-clause-marks_failed
returns-in-Err-clause-marks_failed g c =
    let la = c.look_up.ensures in
    marks-kept g.row.S g.S.Storage g.S.Storage-dict g.S.Destruct-dict {T = ShallowMapping × ℕ} c.args.self.now c.mark.new.self (Err c.in-Err.fault)
    (keeps-marked g.S.Storage c.args.self.now c.mark.new.self c.look_up.new.tables (Err c.in-Err.fault) (record { unchanged_but_faults = la.unchanged_but_faults; counts_not_fallen = la.counts_not_fallen; faults = c.in-Err.ensures.faults; header = la.header; space = la.space; seen = la.seen }) c.mark.ensures)

pub returns-in-Err-clause-cause : goal.returns-in-Err-clause-cause
returns-in-Err-clause-cause g c = λ seen.
    let q = c.args.self.now in
    let t = q.tables in
    let h = t.file.header.fields in
    let s = g.S.Storage.state t.file.image in
    let s' = g.S.Storage.state c.look_up.new.tables.file.image in
    let guest : c.cluster.result ≡ c.args.offset / cluster_size h = c.cluster.ensures ∙ ap (λ x. c.args.offset / 2 ^ x) c.cluster_bits-cluster_bits.ensures.value in
    let why = subst (λ x. HasCause (looking_causes (entry (file_of g.S.Storage t) h x ≡ damaged) s.faults s'.faults) c.in-Err.fault) guest (c.in-Err.ensures.cause seen) in
    let after : g.S.Storage.state c.mark.new.self.tables.file.image ≡ s' = ap (λ (x : Qcow2 g.row.S.Denot g.S.Storage). g.S.Storage.state x.tables.file.image) c.mark.ensures in
    subst (λ x. LookCause (qcow2_layer s (memory_of g.S.Storage t) h q.mode q.number q.failed (holding_in g.S.Storage q.unspent)) c.args.offset c.args.max_length (s ∷ []) (x ∷ []) c.in-Err.fault) (sym after)
    (look-cause s s' [] [] (memory_of g.S.Storage t) h q.mode q.number q.failed (holding_in g.S.Storage q.unspent) c.args.offset c.args.max_length c.in-Err.fault (memory-is g.S.Storage t) c.requires.inside c.requires.limit_nonzero why)

pub returns-in-Ok-clause-end_bounded : goal.returns-in-Ok-clause-end_bounded
returns-in-Ok-clause-end_bounded g c =
    let named = c.in-Ok.ensures.named in
    let b = c.cluster_bits-cluster_bits.ensures.value in
    let bits = c.cluster_bits-cluster_bits.result in
    let small = range-small c.cluster_bits-cluster_bits.result c.args.offset c.size-size.result c.args.max_length c.remaining_in_l2_table.result c.min-rest.result c.min-length.result c.in_cluster_offset-within.result c.clusters_met-most.result
    (low-bits c.cluster_bits-cluster_bits.result _ c.cluster_bits-cluster_bits.ensures.value c.cluster_bits-cluster_bits.ensures.shaped) (high-bits c.cluster_bits-cluster_bits.result _ c.cluster_bits-cluster_bits.ensures.value c.cluster_bits-cluster_bits.ensures.shaped)
    c.remaining_in_l2_table.ensures c.min-rest.ensures c.min-length.ensures c.in_cluster_offset-within.ensures c.clusters_met-most.ensures (omega (arith, c.size-size.ensures, c.requires.inside)) c.requires.limit_nonzero in
    let within : c.in_cluster_offset-within.result < 2 ^ bits = subst (λ x. x < 2 ^ bits) (sym c.in_cluster_offset-within.ensures) (mod_below c.args.offset (2 ^ bits) (pow_pos bits)) in
    subst (λ x. EndsNear x c.bytes_met-length.result) (sym c.shallow.ensures)
    (ends-near c.args.self.now.mode bits c.args.offset c.in_cluster_offset-within.result c.bytes_met-length.result c.in-Ok.mapping within
    (subst (λ x. IsHostAddressable x c.in-Ok.mapping) (sym b) named.0) (omega (arith, c.bytes_met-length.ensures, small)) (high-bits bits _ b c.cluster_bits-cluster_bits.ensures.shaped))

pub returns-in-Ok-clause-keeps : goal.returns-in-Ok-clause-keeps
returns-in-Ok-clause-keeps g c =
    let la = c.look_up.ensures in
    record { tables = record { unchanged_but_faults = la.unchanged_but_faults; counts_not_fallen = la.counts_not_fallen; faults = λ ok. c.in-Ok.ensures.faults tt; header = la.header; space = la.space; seen = la.seen }; mode = refl; number = refl; unspent = refl; failed = refl }

pub returns-in-Err-clause-keeps : goal.returns-in-Err-clause-keeps
returns-in-Err-clause-keeps g c =
    let la = c.look_up.ensures in
    keeps-marked g.S.Storage c.args.self.now c.mark.new.self c.look_up.new.tables (Err c.in-Err.fault) (record { unchanged_but_faults = la.unchanged_but_faults; counts_not_fallen = la.counts_not_fallen; faults = c.in-Err.ensures.faults; header = la.header; space = la.space; seen = la.seen }) c.mark.ensures

pub returns-in-Ok-clause-stays_begun : goal.returns-in-Ok-clause-stays_begun
returns-in-Ok-clause-stays_begun g c =
    let la = c.look_up.ensures in
    began-kept g.row.S g.S.Storage g.S.Storage-dict g.S.Destruct-dict {T = ShallowMapping × ℕ} c.args.self.now _ (Ok (c.shallow.result, c.bytes_met-length.result))
    (record { tables = record { unchanged_but_faults = la.unchanged_but_faults; counts_not_fallen = la.counts_not_fallen; faults = λ ok. c.in-Ok.ensures.faults tt; header = la.header; space = la.space; seen = la.seen }; mode = refl; number = refl; unspent = refl; failed = refl })

pub returns-in-Err-clause-stays_begun : goal.returns-in-Err-clause-stays_begun
returns-in-Err-clause-stays_begun g c =
    let la = c.look_up.ensures in
    began-kept g.row.S g.S.Storage g.S.Storage-dict g.S.Destruct-dict {T = ShallowMapping × ℕ} c.args.self.now c.mark.new.self (Err c.in-Err.fault)
    (keeps-marked g.S.Storage c.args.self.now c.mark.new.self c.look_up.new.tables (Err c.in-Err.fault) (record { unchanged_but_faults = la.unchanged_but_faults; counts_not_fallen = la.counts_not_fallen; faults = c.in-Err.ensures.faults; header = la.header; space = la.space; seen = la.seen }) c.mark.ensures)

use Rattle.std.proofs.Common.{◌≡◌, ◌≤◌, ◌+◌, ◌-◌, ◌*◌, ◌^◌, ◌∙◌, ℕ, List, ap, sym, subst, arith, length, inl, inr}
use Rattle.std.specs.Prelude.{min}
use Rattle.std.proofs.lemmas.Bool.{cases_lt}
use Rattle.std.proofs.Math.Nat.{mul-le-mul, pow-le-pow_right, div-le_self}
use Rattle.qcow2_types.specs.Counts.{counters_of_block}
use Rattle.qcow2_types.specs.Header.{Fields, entries_of_cluster}
use Rattle.qcow2_metadata.specs.Tables.{TableValue}
use Rattle.qcow2_metadata.proofs.Placing.{whole_entries}
use Rattle.qcow2_alloc.specs.Allocators.{table_of, first_free_of}
use Rattle.qcow2_types.specs.Pending.{FreeEntry}
use Rattle.qcow2_alloc.specs.FreeList.{FreeList}
use Rattle.qcow2_alloc.specs.GrowingTables.{GrowsTable}
use Rattle.qcow2_alloc.specs.MovingTables.{clusters_of, IsGrownFor}
use Rattle.qcow2_alloc.specs.State.{image_state, with_first_free, allocator_state}
use Rattle.qcow2_alloc.proofs.Freeing.EntryFrees.{failed}
use Rattle.qcow2_alloc.proofs.Growth.TableGrowth.{no-room, no-place, grows}
use Rattle.qcow2_alloc.proofs.Growth.CopyPlaces.{whole-fill}
use Rattle.qcow2_alloc.proofs.allocation.Allocator.place_grown.Goals as goal

pub returns-in-Err-clause-grows : goal.returns-in-Err-clause-grows
returns-in-Err-clause-grows g c = λ at grown.
    let s = allocator_state c.args.self.now c.args.caches.now c.args.file.now c.args.list.now in
    subst (λ (es : List FreeEntry). GrowsTable g.S.Storage.state at s (failed c.in-Err.fault) (with_first_free (image_state (table_of c.args.self.now) c.find_free_area-2.new.caches c.find_free_area-2.new.file es) (first_free_of c.args.self.now)))
    (sym (ap (λ (l : FreeList). l.entries) c.release.ensures))
    (no-room g.S.Storage.state at s c.in-Err.fault c.find_free_area-2.new.caches c.find_free_area-2.new.file c.in-Err.ensures.looks.looked)

-- A grown copy has some clusters, and its entries fill them.
filled : (h : Fields) (table : TableValue) (at : ℕ) (copy : TableValue) → 9 ≤ h.cluster_bits → IsGrownFor h table at copy → clusters_of copy h.cluster_bits * entries_of_cluster h ≡ length copy.raw_entries
filled h table at copy low grown = whole_entries h (length copy.raw_entries) low (whole-fill h (length copy.raw_entries) low grown.long.enough.whole)

some-clusters : (h : Fields) (table : TableValue) (at : ℕ) (copy : TableValue) → 9 ≤ h.cluster_bits → IsGrownFor h table at copy → 1 ≤ clusters_of copy h.cluster_bits
some-clusters h table at copy low grown = elim (cases_lt 0 (clusters_of copy h.cluster_bits)) [
  | inl some ↦ some
  | inr none ↦
      let above = grown.long.enough.above in
      let all = filled h table at copy low grown in
      let zero : clusters_of copy h.cluster_bits * entries_of_cluster h ≡ 0 * entries_of_cluster h = ap (λ n. n * entries_of_cluster h) (omega (arith, none)) in
      absurd (omega (arith, above, all, zero))
]

few-clusters : (bits : ℕ) (copy : TableValue) → bits ≤ 21 → length copy.raw_entries ≤ 2 ^ 20 → clusters_of copy bits ≤ 2 ^ 24
few-clusters bits copy high long =
    let le : clusters_of copy bits ≤ 8 * length copy.raw_entries + (2 ^ bits - 1) = div-le_self (8 * length copy.raw_entries + (2 ^ bits - 1)) (2 ^ bits) in
    let most : 2 ^ bits ≤ 2 ^ 21 = pow-le-pow_right (omega arith) high in
    omega (arith, le, most, long)

few-counters : (length_of bits k : ℕ) → 2 ^ bits ≡ k → bits ≤ 24 → length_of ≤ 2 ^ 20 → length_of * k ≤ 2 ^ 20 * 2 ^ 24
few-counters length_of bits k size most few = let le : 2 ^ bits ≤ 2 ^ 24 = pow-le-pow_right (omega arith) most in let small : k ≤ 2 ^ 24 = omega (arith, le, size) in mul-le-mul few small

pub place_copy-requires-clause-fits : goal.place_copy-requires-clause-fits
place_copy-requires-clause-fits g c =
    let h = c.args.file.now.header.fields in
    let at = c.requires.grown.0 in
    let past : length (table_of c.args.self.now).raw_entries ≤ at = c.requires.grown.1 in
    let grown : IsGrownFor h (table_of c.args.self.now) at c.args.copy = c.requires.grown.2 in
    let long : length c.args.copy.raw_entries ≤ 2 ^ 20 = subst (λ (t : TableValue). length t.raw_entries ≤ 2 ^ 20) c.copy.view_is c.copy.invariant.long in
    let high : c.args.copy.layout.cluster_bits ≤ 21 = subst (λ (t : TableValue). t.layout.cluster_bits ≤ 21) c.copy.view_is c.copy.invariant.high in
    let few = few-clusters c.args.copy.layout.cluster_bits c.args.copy high long in
    let n : c.find_free_area.inside.0 ≡ clusters_of c.args.copy c.args.copy.layout.cluster_bits = c.find_free_area.view_is ∙ c.cluster_count.ensures in
    let above = grown.long.enough.above in
    let near = few-counters (length (table_of c.args.self.now).raw_entries) c.rb_bits.result (counters_of_block h) c.rb_bits.ensures.entries c.rb_bits.ensures.bounds.1 (omega (arith, past, above, long)) in
    let within = c.in-Ok.ensures.within in
    let first = within.0 in
    let len = within.1 in
    omega (arith, first, len, near, n, few)

pub returns-in-Ok-place_copy-clause-grows : goal.returns-in-Ok-place_copy-clause-grows
returns-in-Ok-place_copy-clause-grows g c = λ at grown.
    let h = c.args.file.now.header.fields in
    let table = table_of c.args.self.now in
    let mark = first_free_of c.args.self.now in
    let copy = c.args.copy in
    let bits : copy.layout.cluster_bits ≡ h.cluster_bits = ap (λ (t : TableValue). t.layout.cluster_bits) grown.copied in
    let low : 9 ≤ h.cluster_bits = subst (λ b. 9 ≤ b) bits (subst (λ (t : TableValue). 9 ≤ t.layout.cluster_bits) c.copy.view_is c.copy.invariant.low) in
    let C = c.find_free_area-2.new in
    let D = c.enter_free_area.new in
    let plan = c.in-Ok-place_copy.ensures.ok in
    grows g.S.Storage.state at (allocator_state c.args.self.now c.args.caches.now c.args.file.now c.args.list.now) c.in-Ok.room copy c.free_area_start-from.result c.find_free_area.inside.0 C.caches C.file c.in-Ok.ensures.looks
    (c.free_area_start-from.ensures ∙ ap (λ k. min mark (length table.raw_entries * k)) c.rb_bits.ensures.entries) (c.find_free_area.view_is ∙ c.cluster_count.ensures ∙ ap (λ b. clusters_of copy b) bits) grown.long (filled h table at copy low grown)
    c.place_copy.new.copy plan.0 plan.1 c.enter_free_area.result (allocator_state D.self D.caches D.file D.list) c.enter_free_area.ensures.fills c.enter_free_area.ensures.waits c.enter_free_area.ensures.unchanged_on_error c.enter_free_area.ensures.mark

pub returns-in-Err-place_copy-clause-grows : goal.returns-in-Err-place_copy-clause-grows
returns-in-Err-place_copy-clause-grows g c = λ at grown.
    let h = c.args.file.now.header.fields in
    let table = table_of c.args.self.now in
    let mark = first_free_of c.args.self.now in
    let copy = c.args.copy in
    let bits : copy.layout.cluster_bits ≡ h.cluster_bits = ap (λ (t : TableValue). t.layout.cluster_bits) grown.copied in
    let low : 9 ≤ h.cluster_bits = subst (λ b. 9 ≤ b) bits (subst (λ (t : TableValue). 9 ≤ t.layout.cluster_bits) c.copy.view_is c.copy.invariant.low) in
    let C = c.find_free_area-2.new in
    let n : c.find_free_area.inside.0 ≡ clusters_of copy h.cluster_bits = c.find_free_area.view_is ∙ c.cluster_count.ensures ∙ ap (λ b. clusters_of copy b) bits in
    let one = some-clusters h table at copy low grown in
    let enough = c.in-Ok.ensures.enough in
    subst (λ (es : List FreeEntry). GrowsTable g.S.Storage.state at (allocator_state c.args.self.now c.args.caches.now c.args.file.now c.args.list.now) (failed c.in-Err-place_copy.fault) (with_first_free (image_state table C.caches C.file es) mark))
    (sym (ap (λ (l : FreeList). l.entries) c.release-in-Err-place_copy.ensures))
    (no-place g.S.Storage.state at (allocator_state c.args.self.now c.args.caches.now c.args.file.now c.args.list.now) c.in-Ok.room copy c.free_area_start-from.result c.find_free_area.inside.0 C.caches C.file c.in-Ok.ensures.looks
    (c.free_area_start-from.ensures ∙ ap (λ k. min mark (length table.raw_entries * k)) c.rb_bits.ensures.entries) n grown.long (filled h table at copy low grown)
    c.in-Err-place_copy.fault (omega (arith, n, one, enough)) c.in-Err-place_copy.ensures.err)

pub find_free_area-requires-clause-count_bounded : goal.find_free_area-requires-clause-count_bounded
find_free_area-requires-clause-count_bounded g c =
    let long : length c.args.copy.raw_entries ≤ 2 ^ 20 =
    subst (λ (t : TableValue). length t.raw_entries ≤ 2 ^ 20) c.copy.view_is c.copy.invariant.long in
    let high : c.args.copy.layout.cluster_bits ≤ 21 =
    subst (λ (t : TableValue). t.layout.cluster_bits ≤ 21) c.copy.view_is c.copy.invariant.high in
    let few = few-clusters c.args.copy.layout.cluster_bits c.args.copy high long in
    let n : c.find_free_area.inside.0 ≡ clusters_of c.args.copy c.args.copy.layout.cluster_bits = c.find_free_area.view_is
    ∙ c.cluster_count.ensures in
    omega (arith, n, few)

pub find_free_area-requires-clause-start_in_space : goal.find_free_area-requires-clause-start_in_space
find_free_area-requires-clause-start_in_space g c =
    let is = c.free_area_start-from.ensures
    ∙ ap (λ k. min (first_free_of c.args.self.now) (length (table_of c.args.self.now).raw_entries * k)) c.rb_bits.ensures.entries in
    omega (arith, is)

pub enter_free_area-requires-clause-plan : goal.enter_free_area-requires-clause-plan
enter_free_area-requires-clause-plan g c = c.in-Ok-place_copy.ensures.ok.0

pub enter_free_area-requires-clause-held : goal.enter_free_area-requires-clause-held
enter_free_area-requires-clause-held g c = c.requires.held

pub release-requires : goal.release-requires
release-requires g c = c.requires.held

pub release-requires-in-Err-place_copy : goal.release-requires-in-Err-place_copy
release-requires-in-Err-place_copy g c = c.requires.held

pub returns-in-Err-clause-held : goal.returns-in-Err-clause-held
returns-in-Err-clause-held g c = ap (λ (l : FreeList). l.held) c.release.ensures

pub returns-in-Err-place_copy-clause-held : goal.returns-in-Err-place_copy-clause-held
returns-in-Err-place_copy-clause-held g c = ap (λ (l : FreeList). l.held) c.release-in-Err-place_copy.ensures

pub returns-in-Ok-place_copy-clause-held : goal.returns-in-Ok-place_copy-clause-held
returns-in-Ok-place_copy-clause-held g c = c.enter_free_area.ensures.held

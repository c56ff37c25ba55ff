use Rattle.std.proofs.Common.{◌≤◌, ◌+◌, ◌-◌, ◌*◌, ◌^◌, ◌∙◌, ap, sym, subst, arith, Option, [], ℕ}
use Rattle.std.proofs.Math.Nat.{mul-le-mul_right}
use Rattle.qcow2_types.specs.Counts.{counters_of_block}
use Rattle.qcow2_types.specs.Header.{Header}
use Rattle.qcow2_types.specs.Words.{Layout}
use Rattle.qcow2_metadata.specs.Places.{IsPlaced, IsAddressable}
use Rattle.qcow2_alloc.specs.Allocators.{table_of}
use Rattle.qcow2_alloc.specs.Growing.{lacking}
use Rattle.qcow2_alloc.specs.MovingTables.{IsPlan, WasSound}
use Rattle.qcow2_alloc.specs.State.{image_state}
use Rattle.qcow2_alloc.proofs.Growth.RoomFills.{room-filled}
use Rattle.qcow2_alloc.proofs.Growth.FillRefusals.{not-filled}
use Rattle.qcow2_alloc.proofs.Faults.{handed-on}
use Rattle.qcow2_alloc.proofs.allocation.Allocator.fill_free_area.Goals as goal

pub move_table-requires-clause-placed : goal.move_table-requires-clause-placed
move_table-requires-clause-placed g c =
    let h = c.args.file.now.header.fields in
    let p = c.requires in
    let blocks = lacking (table_of c.args.self.now) (counters_of_block h) c.args.room.first c.args.room.len in
    let more = p.room.more in
    let enough = p.room.enough in
    let reach = p.room.reach in
    let le : (c.args.room.first + blocks) * 2 ^ h.cluster_bits ≤ (c.args.room.first + (c.args.room.len - 1)) * 2 ^ h.cluster_bits = mul-le-mul_right (2 ^ h.cluster_bits) (omega (arith, more, enough)) in
    let there : IsAddressable h.cluster_bits (c.args.room.first + blocks) = omega (arith, le, reach) in
    subst (λ (l : Layout). IsPlaced l.cluster_bits c.args.table.cluster) (sym p.grown.layout) (subst (λ (o : Option ℕ). IsPlaced h.cluster_bits o) (sym p.grown.placed) there)

pub move_table-requires-clause-bits : goal.move_table-requires-clause-bits
move_table-requires-clause-bits g c = ap (λ (l : Layout). l.cluster_bits) c.requires.grown.layout ∙ sym (ap (λ (h : Header). h.fields.cluster_bits) (c.in_ok-take_free_area.ensures []).counts.header)

pub move_table-requires-clause-old_bits : goal.move_table-requires-clause-old_bits
move_table-requires-clause-old_bits g c = c.requires.bits ∙ sym (ap (λ (h : Header). h.fields.cluster_bits) (c.in_ok-take_free_area.ensures []).counts.header)

pub returns-clause-fills : goal.returns-clause-fills
returns-clause-fills g c = λ pending first file free.
    let table = table_of c.args.self.now in
    let takes = c.in_ok-take_free_area.ensures pending in
    room-filled g.S.Storage.state (image_state table c.args.caches.now c.args.file.now pending) c.args.room c.args.table (WasSound g.S.Storage.state (image_state (table_of c.args.self.now) first file pending)) free c.take_free_area.new.caches c.take_free_area.new.file takes
    (subst (λ (h : Header). IsPlan h.fields table c.args.room c.args.table) (sym takes.counts.header) c.requires) c.move_table.result (table_of c.move_table.new.self) c.move_table.new.file c.move_table.ensures.moves

pub returns-in_err-take_free_area-clause-fills : goal.returns-in_err-take_free_area-clause-fills
returns-in_err-take_free_area-clause-fills g c = rw (handed-on _ _ c.from_residual.ensures.1) (λ pending first file free.
    not-filled g.S.Storage.state (image_state (table_of c.args.self.now) c.args.caches.now c.args.file.now pending) c.args.room c.args.table (WasSound g.S.Storage.state (image_state (table_of c.args.self.now) first file pending)) free c.in_err-take_free_area.field-0.0 c.take_free_area.new.caches c.take_free_area.new.file (c.in_err-take_free_area.ensures pending).counts)

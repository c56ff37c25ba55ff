use Rattle.std.proofs.Common.{◌≡◌, [], List, length, refl, ap, sym, subst, ◌∙◌}
use Rattle.std.specs.Prelude.{◌==◌}
use Rattle.qcow2_types.specs.Header.{Header, has_external_data}
use Rattle.qcow2_types.specs.Pending.{FreeEntry}
use Rattle.qcow2_alloc.specs.declared.file.ImageFile.{ImageFile}
use Rattle.qcow2_alloc.specs.Caches.{cached_in, order_of}
use Rattle.qcow2_alloc.specs.FreeList.{FreeList}
use Rattle.qcow2_alloc.specs.Freeing.{IsRest, IsRestInTurn, data_in}
use Rattle.qcow2_alloc.specs.GuestView.{metadata_in}
use Rattle.qcow2_alloc.specs.State.{allocator_state}
use Rattle.qcow2_alloc.proofs.Caching.FileLengths.{announced-long}
use Rattle.qcow2_alloc.proofs.Freeing.EntryFrees.{frees-then, freed, failed}
use Rattle.qcow2_alloc.proofs.Freeing.FreesInTurn.{announcing-frees}
use Rattle.qcow2_alloc.proofs.Freeing.ListRemainders.{none-listed, order-announced, order-external, order-failed, order-without-data}
use Rattle.qcow2_alloc.proofs.Freeing.ListRemainders.{rest-none, rest-of-data, rest-without-metadata}
use Rattle.qcow2_alloc.proofs.Faults.{handed-on}
use Rattle.qcow2_alloc.proofs.allocation.Allocator.process_clusters_to_free.Goals as goal

pub returns-clause-frees : goal.returns-clause-frees
returns-clause-frees g c =
    let state = g.S.Storage.state in
    let m = c.free_metadata.new in
    let a = c.rb_depends_on_l2.new in
    let n = c.free_all.new in
    let done = c.in_ok-rb_depends_on_l2.ensures in
    let long = announced-long (order_of m.caches) (state m.file.image) (cached_in m.caches) freed (state a.file.image) (cached_in a.self)
    (λ no. ap (λ (f : ImageFile g.row.S.Denot). state f.image) (done.idle no).2) done.written in
    let before = allocator_state m.self m.caches m.file m.list in
    let announced = announcing-frees state before a.self a.file done.written_value_unchanged done.header done.room freed done.writes_back_cached done.announced tt done.well_formed done.cause done.faults long in
    let s' = allocator_state n.self n.caches n.file n.list in
    frees-then state (allocator_state c.args.self.now c.args.caches.now c.args.file.now c.args.list.now) before c.free_all.result s' c.in_ok-free_metadata.ensures.frees
    (frees-then state before (allocator_state m.self a.self a.file m.list) c.free_all.result s' announced (c.free_all.ensures.frees done.announced))

pub returns-in_err-rb_depends_on_l2-clause-frees : goal.returns-in_err-rb_depends_on_l2-clause-frees
returns-in_err-rb_depends_on_l2-clause-frees g c = rw (handed-on _ _ c.from_residual-in_err-rb_depends_on_l2.ensures.1) (
    let state = g.S.Storage.state in
    let m = c.free_metadata.new in
    let a = c.rb_depends_on_l2.new in
    let done = c.in_err-rb_depends_on_l2.ensures in
    let refused = failed c.in_err-rb_depends_on_l2.field-0.0 in
    let long = announced-long (order_of m.caches) (state m.file.image) (cached_in m.caches) refused (state a.file.image) (cached_in a.self)
    (λ no. ap (λ (f : ImageFile g.row.S.Denot). state f.image) (done.idle no).2) done.written in
    let before = allocator_state m.self m.caches m.file m.list in
    let announced = announcing-frees state before a.self a.file done.written_value_unchanged done.header done.room refused done.writes_back_cached tt done.stays tt done.cause done.faults long in
    frees-then state (allocator_state c.args.self.now c.args.caches.now c.args.file.now c.args.list.now) before refused (allocator_state m.self a.self a.file m.list) c.in_ok-free_metadata.ensures.frees announced)

pub returns-clause-left : goal.returns-clause-left
returns-clause-left g c = rest-of-data c.args.list.now.entries c.free_all.new.list.entries (subst (λ (es : List FreeEntry). IsRest es c.free_all.new.list.entries) c.in_ok-free_metadata.ensures.ok c.free_all.ensures.left)

pub returns-clause-order : goal.returns-clause-order
returns-clause-order g c =
    let inside = sym (ap (λ (h : Header). has_external_data h.fields) c.in_ok-free_metadata.ensures.frees.header) ∙ sym c.external_data_file.ensures ∙ c.if-external_data_file.false in
    let some : data_in c.args.list.now.entries ≡ [] → ⊥ = λ none. let yes = c.is_empty.ensures ∙ ap (λ (l : List FreeEntry). length l == 0) (c.in_ok-free_metadata.ensures.ok ∙ none) in let no = sym yes ∙ c.if-is_empty.false in cc no in
    order-announced _ c.args.list.now.entries c.free_all.new.list.entries (order_of c.args.caches.now) c.free_all.result (order_of c.free_all.new.caches) (c.free_all.ensures.order ∙ c.in_ok-rb_depends_on_l2.ensures.announced) inside some
    (rest-without-metadata c.args.list.now.entries c.free_all.new.list.entries (subst (λ (es : List FreeEntry). IsRest es c.free_all.new.list.entries) c.in_ok-free_metadata.ensures.ok c.free_all.ensures.left))

pub returns-then-external_data_file-clause-left : goal.returns-then-external_data_file-clause-left
returns-then-external_data_file-clause-left g c = subst (λ (l : FreeList). IsRestInTurn c.args.list.now.entries l.entries) (sym c.drop_entries.ensures) (rest-none c.args.list.now.entries)

pub returns-in_err-free_metadata-clause-external : goal.returns-in_err-free_metadata-clause-external
returns-in_err-free_metadata-clause-external g c = rw (handed-on _ _ c.from_residual.ensures.1) (λ external none. let never = (c.in_err-free_metadata.ensures.idle none).0 in cc never)

pub returns-clause-external : goal.returns-clause-external
returns-clause-external g c = λ external none.
    let inside = sym (ap (λ (h : Header). has_external_data h.fields) c.in_ok-free_metadata.ensures.frees.header) ∙ sym c.external_data_file.ensures ∙ c.if-external_data_file.false in
    let both = sym external ∙ inside in
    cc both

pub returns-in_err-rb_depends_on_l2-clause-external : goal.returns-in_err-rb_depends_on_l2-clause-external
returns-in_err-rb_depends_on_l2-clause-external g c = rw (handed-on _ _ c.from_residual-in_err-rb_depends_on_l2.ensures.1) (λ external none.
    let inside = sym (ap (λ (h : Header). has_external_data h.fields) c.in_ok-free_metadata.ensures.frees.header) ∙ sym c.external_data_file.ensures ∙ c.if-external_data_file.false in
    let both = sym external ∙ inside in
    cc both)

pub returns-then-is_empty-clause-idle : goal.returns-then-is_empty-clause-idle
returns-then-is_empty-clause-idle g c = λ none. let idle = c.in_ok-free_metadata.ensures.idle (ap metadata_in none) in (refl, idle.1, idle.2, idle.3)

pub returns-in_err-free_metadata-clause-idle : goal.returns-in_err-free_metadata-clause-idle
returns-in_err-free_metadata-clause-idle g c = λ none. let never = (c.in_err-free_metadata.ensures.idle (ap metadata_in none)).0 in absurd (cc never)

-- An empty list is still empty after its metadata is freed.
pub returns-then-external_data_file-clause-idle : goal.returns-then-external_data_file-clause-idle
returns-then-external_data_file-clause-idle g c = λ none. let yes = c.is_empty.ensures ∙ ap (λ (l : List FreeEntry). length l == 0) (c.in_ok-free_metadata.ensures.ok ∙ ap data_in none) in let no = sym yes ∙ c.if-is_empty.false in absurd (cc no)

pub returns-clause-idle : goal.returns-clause-idle
returns-clause-idle g c = λ none. let yes = c.is_empty.ensures ∙ ap (λ (l : List FreeEntry). length l == 0) (c.in_ok-free_metadata.ensures.ok ∙ ap data_in none) in let no = sym yes ∙ c.if-is_empty.false in absurd (cc no)

pub returns-in_err-rb_depends_on_l2-clause-idle : goal.returns-in_err-rb_depends_on_l2-clause-idle
returns-in_err-rb_depends_on_l2-clause-idle g c = λ none. let yes = c.is_empty.ensures ∙ ap (λ (l : List FreeEntry). length l == 0) (c.in_ok-free_metadata.ensures.ok ∙ ap data_in none) in let no = sym yes ∙ c.if-is_empty.false in absurd (cc no)

pub returns-then-is_empty-clause-frees : goal.returns-then-is_empty-clause-frees
returns-then-is_empty-clause-frees g c = c.in_ok-free_metadata.ensures.frees

pub returns-then-is_empty-clause-table : goal.returns-then-is_empty-clause-table
returns-then-is_empty-clause-table g c = c.in_ok-free_metadata.ensures.table

pub returns-then-is_empty-clause-ok : goal.returns-then-is_empty-clause-ok
returns-then-is_empty-clause-ok g c = none-listed c.free_metadata.new.list.entries c.is_empty.result c.is_empty.ensures c.if-is_empty.true

pub returns-then-is_empty-clause-left : goal.returns-then-is_empty-clause-left
returns-then-is_empty-clause-left g c = c.in_ok-free_metadata.ensures.left

pub returns-then-is_empty-clause-external : goal.returns-then-is_empty-clause-external
returns-then-is_empty-clause-external g c =
    λ external none. let idle = c.in_ok-free_metadata.ensures.idle none in (refl, idle.1, idle.2, idle.3)

pub returns-then-is_empty-clause-order : goal.returns-then-is_empty-clause-order
returns-then-is_empty-clause-order g c =
    order-without-data _ c.args.list.now.entries c.free_metadata.new.list.entries (order_of c.args.caches.now) _
    (order_of c.free_metadata.new.caches) c.in_ok-free_metadata.ensures.order
    (sym c.in_ok-free_metadata.ensures.ok
    ∙ none-listed c.free_metadata.new.list.entries c.is_empty.result c.is_empty.ensures c.if-is_empty.true)

pub returns-then-is_empty-clause-held : goal.returns-then-is_empty-clause-held
returns-then-is_empty-clause-held g c = c.in_ok-free_metadata.ensures.held

pub returns-in_err-free_metadata-clause-frees : goal.returns-in_err-free_metadata-clause-frees
returns-in_err-free_metadata-clause-frees g c = rw (handed-on _ _ c.from_residual.ensures.1) c.in_err-free_metadata.ensures.frees

pub returns-in_err-free_metadata-clause-table : goal.returns-in_err-free_metadata-clause-table
returns-in_err-free_metadata-clause-table g c = c.in_err-free_metadata.ensures.table

pub returns-in_err-free_metadata-clause-ok : goal.returns-in_err-free_metadata-clause-ok
returns-in_err-free_metadata-clause-ok g c = rw (handed-on _ _ c.from_residual.ensures.1) tt

pub returns-in_err-free_metadata-clause-left : goal.returns-in_err-free_metadata-clause-left
returns-in_err-free_metadata-clause-left g c = c.in_err-free_metadata.ensures.left

pub returns-in_err-free_metadata-clause-order : goal.returns-in_err-free_metadata-clause-order
returns-in_err-free_metadata-clause-order g c =
    rw (handed-on _ _ c.from_residual.ensures.1)
    (order-failed _ c.args.list.now.entries c.free_metadata.new.list.entries (order_of c.args.caches.now) _
    (order_of c.free_metadata.new.caches) c.in_err-free_metadata.ensures.order)

pub returns-in_err-free_metadata-clause-held : goal.returns-in_err-free_metadata-clause-held
returns-in_err-free_metadata-clause-held g c = c.in_err-free_metadata.ensures.held

pub returns-in_err-rb_depends_on_l2-clause-table : goal.returns-in_err-rb_depends_on_l2-clause-table
returns-in_err-rb_depends_on_l2-clause-table g c = c.in_ok-free_metadata.ensures.table

pub returns-in_err-rb_depends_on_l2-clause-ok : goal.returns-in_err-rb_depends_on_l2-clause-ok
returns-in_err-rb_depends_on_l2-clause-ok g c = rw (handed-on _ _ c.from_residual-in_err-rb_depends_on_l2.ensures.1) tt

pub returns-in_err-rb_depends_on_l2-clause-left : goal.returns-in_err-rb_depends_on_l2-clause-left
returns-in_err-rb_depends_on_l2-clause-left g c = c.in_ok-free_metadata.ensures.left

pub returns-in_err-rb_depends_on_l2-clause-order : goal.returns-in_err-rb_depends_on_l2-clause-order
returns-in_err-rb_depends_on_l2-clause-order g c =
    rw (handed-on _ _ c.from_residual-in_err-rb_depends_on_l2.ensures.1)
    (order-failed _ c.args.list.now.entries c.free_metadata.new.list.entries (order_of c.args.caches.now) _
    (order_of c.rb_depends_on_l2.new.self) (c.in_err-rb_depends_on_l2.ensures.stays ∙ c.in_ok-free_metadata.ensures.order))

pub returns-in_err-rb_depends_on_l2-clause-held : goal.returns-in_err-rb_depends_on_l2-clause-held
returns-in_err-rb_depends_on_l2-clause-held g c = c.in_ok-free_metadata.ensures.held

pub returns-then-external_data_file-clause-table : goal.returns-then-external_data_file-clause-table
returns-then-external_data_file-clause-table g c = c.in_ok-free_metadata.ensures.table

pub returns-then-external_data_file-clause-ok : goal.returns-then-external_data_file-clause-ok
returns-then-external_data_file-clause-ok g c = ap (λ (l : FreeList). l.entries) c.drop_entries.ensures

pub returns-then-external_data_file-clause-external : goal.returns-then-external_data_file-clause-external
returns-then-external_data_file-clause-external g c =
    λ external none. let idle = c.in_ok-free_metadata.ensures.idle none in (refl, idle.1, idle.2, idle.3)

pub returns-then-external_data_file-clause-order : goal.returns-then-external_data_file-clause-order
returns-then-external_data_file-clause-order g c =
    order-external _ c.args.list.now.entries c.drop_entries.new.list.entries (order_of c.args.caches.now) _
    (order_of c.free_metadata.new.caches) c.in_ok-free_metadata.ensures.order
    (sym (ap (λ (h : Header). has_external_data h.fields) c.in_ok-free_metadata.ensures.frees.header) ∙ sym c.external_data_file.ensures
    ∙ c.if-external_data_file.true)

pub returns-then-external_data_file-clause-held : goal.returns-then-external_data_file-clause-held
returns-then-external_data_file-clause-held g c = ap (λ (l : FreeList). l.held) c.drop_entries.ensures ∙ c.in_ok-free_metadata.ensures.held

pub returns-clause-table : goal.returns-clause-table
returns-clause-table g c = c.free_all.ensures.table ∙ c.in_ok-free_metadata.ensures.table

pub returns-clause-ok : goal.returns-clause-ok
returns-clause-ok g c = c.free_all.ensures.ok

pub returns-clause-held : goal.returns-clause-held
returns-clause-held g c = c.free_all.ensures.held ∙ c.in_ok-free_metadata.ensures.held

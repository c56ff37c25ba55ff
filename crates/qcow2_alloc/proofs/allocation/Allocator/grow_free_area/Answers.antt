use Rattle.std.proofs.Common.{◌≡◌, ◌+◌, ℕ, Ok, Err, sym, subst, ◌∙◌}
use Rattle.std.proofs.lemmas.Bool.{eqb-true, eqb-false}
use Rattle.qcow2_alloc.specs.Allocators.{table_of}
use Rattle.qcow2_alloc.specs.Caches.{cached_file}
use Rattle.qcow2_alloc.specs.SearchingClusters.{LooksForRun}
use Rattle.qcow2_alloc.proofs.Growth.RoomSearches.{room-here, room-refused, room-next, room-not-next}
use Rattle.qcow2_alloc.proofs.Faults.{handed-on}
use Rattle.qcow2_alloc.proofs.allocation.Allocator.grow_free_area.Goals as goal

pub returns-in_err-first : goal.returns-in_err-first
returns-in_err-first g c = rw (handed-on _ _ c.from_residual.ensures.1) (
    let state = g.S.Storage.state in
    let table = table_of c.args.self.now in
    let at : c.start.inside.0 ≡ c.args.room.first = c.start.view_is ∙ c.first.ensures in
    room-refused state table c.args.clusters c.args.needed c.args.room c.args.caches.now c.args.file.now c.requires.needed c.in_err-first.field-0.0 c.find_run.new.caches c.find_run.new.file
    (subst (λ (n : ℕ). LooksForRun state table n c.args.needed (cached_file c.args.caches.now c.args.file.now) (Err c.in_err-first.field-0.0) (cached_file c.find_run.new.caches c.find_run.new.file)) at c.in_err-first.ensures))

pub returns-then-eq : goal.returns-then-eq
returns-then-eq g c =
    let state = g.S.Storage.state in
    let table = table_of c.args.self.now in
    let at : c.start.inside.0 ≡ c.args.room.first = c.start.view_is ∙ c.first.ensures in
    room-here state table c.args.clusters c.args.needed c.args.room c.args.caches.now c.args.file.now c.requires.needed c.in_ok-first.first c.find_run.new.caches c.find_run.new.file
    (subst (λ (n : ℕ). LooksForRun state table n c.args.needed (cached_file c.args.caches.now c.args.file.now) (Ok c.in_ok-first.first) (cached_file c.find_run.new.caches c.find_run.new.file)) at c.in_ok-first.ensures)
    (eqb-true c.in_ok-first.first c.start.inside.0 (sym c.eq.ensures ∙ c.if-eq.true) ∙ at)

pub returns : goal.returns
returns g c =
    let state = g.S.Storage.state in
    let table = table_of c.args.self.now in
    let at : c.start.inside.0 ≡ c.args.room.first = c.start.view_is ∙ c.first.ensures in
    let again = c.find_run-2.new in
    room-next state table c.args.clusters c.args.needed c.args.room c.args.caches.now c.args.file.now c.requires.needed c.in_ok-first.first c.find_run.new.caches c.find_run.new.file
    (subst (λ (n : ℕ). LooksForRun state table n c.args.needed (cached_file c.args.caches.now c.args.file.now) (Ok c.in_ok-first.first) (cached_file c.find_run.new.caches c.find_run.new.file)) at c.in_ok-first.ensures)
    (λ same. eqb-false c.in_ok-first.first c.start.inside.0 (sym c.eq.ensures ∙ c.if-eq.false) (same ∙ sym at)) c.in_ok-first-2.first again.caches again.file
    (subst (λ (n : ℕ). LooksForRun state table (n + 1) c.args.clusters (cached_file c.find_run.new.caches c.find_run.new.file) (Ok c.in_ok-first-2.first) (cached_file again.caches again.file)) at c.in_ok-first-2.ensures)

pub returns-in_err-first-2 : goal.returns-in_err-first-2
returns-in_err-first-2 g c = rw (handed-on _ _ c.from_residual-in_err-first-2.ensures.1) (
    let state = g.S.Storage.state in
    let table = table_of c.args.self.now in
    let at : c.start.inside.0 ≡ c.args.room.first = c.start.view_is ∙ c.first.ensures in
    let again = c.find_run-2.new in
    room-not-next state table c.args.clusters c.args.needed c.args.room c.args.caches.now c.args.file.now c.requires.needed c.in_ok-first.first c.find_run.new.caches c.find_run.new.file
    (subst (λ (n : ℕ). LooksForRun state table n c.args.needed (cached_file c.args.caches.now c.args.file.now) (Ok c.in_ok-first.first) (cached_file c.find_run.new.caches c.find_run.new.file)) at c.in_ok-first.ensures)
    (λ same. eqb-false c.in_ok-first.first c.start.inside.0 (sym c.eq.ensures ∙ c.if-eq.false) (same ∙ sym at)) c.in_err-first-2.field-0.0 again.caches again.file
    (subst (λ (n : ℕ). LooksForRun state table (n + 1) c.args.clusters (cached_file c.find_run.new.caches c.find_run.new.file) (Err c.in_err-first-2.field-0.0) (cached_file again.caches again.file)) at c.in_err-first-2.ensures))

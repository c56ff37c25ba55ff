use Rattle.qcow2_alloc.specs.Allocators.{table_of, first_free_of}
use Rattle.qcow2_alloc.specs.State.{image_state}
use Rattle.qcow2_alloc.proofs.Blocks.BlockCreationCalls.{begins-makes}
use Rattle.qcow2_alloc.proofs.Searching.BlockPlaceSearches.{looked-refused, looked-begins, found-free}
use Rattle.qcow2_alloc.proofs.Faults.{handed-on}
use Rattle.qcow2_alloc.proofs.allocation.Allocator.make_block.Goals as goal
use Rattle.qcow2_alloc.proofs.Blocks.NewBlockPlaces.{placed-found, placed-itself}

pub returns-in-Some-clause-makes : goal.returns-in-Some-clause-makes
returns-in-Some-clause-makes g c = λ pending.
    let state = g.S.Storage.state in
    let table = table_of c.args.self.now in
    let mid = c.find_counted.new in
    c.make_counted_block.ensures.makes pending c.args.caches.now c.args.file.now
    (looked-begins state (image_state table c.args.caches.now c.args.file.now pending) c.args.index mid.caches mid.file c.in_ok-place.field-0 c.in_ok-place.ensures.looked)
    (found-free state (image_state table c.args.caches.now c.args.file.now pending) c.args.index mid.caches mid.file (first_free_of c.args.self.now) c.in-Some.place c.in_ok-place.field-0 c.in-Some.is c.in_ok-place.ensures)

pub returns-in-None-clause-makes : goal.returns-in-None-clause-makes
returns-in-None-clause-makes g c = λ pending.
    let state = g.S.Storage.state in
    let table = table_of c.args.self.now in
    let mid = c.find_counted.new in
    let new = c.make_own_block.new in
    begins-makes state c.args.index (image_state table c.args.caches.now c.args.file.now pending) mid.caches mid.file
    (looked-begins state (image_state table c.args.caches.now c.args.file.now pending) c.args.index mid.caches mid.file c.in_ok-place.field-0 c.in_ok-place.ensures.looked)
    c.make_own_block.result (table_of new.self) new.caches new.file (c.make_own_block.ensures.makes pending)

pub returns-in_err-place-clause-makes : goal.returns-in_err-place-clause-makes
returns-in_err-place-clause-makes g c = rw (handed-on _ _ c.from_residual.ensures.1) (λ pending.
    looked-refused g.S.Storage.state (image_state (table_of c.args.self.now) c.args.caches.now c.args.file.now pending) c.args.index c.find_counted.new.caches c.find_counted.new.file c.in_err-place.field-0.0 c.in_err-place.ensures.looked)

pub returns-in-Some-clause-placed : goal.returns-in-Some-clause-placed
returns-in-Some-clause-placed g c = λ pending.
    let mid = c.find_counted.new in
    let new = c.make_counted_block.new in
    placed-found g.S.Storage.state (first_free_of c.args.self.now) c.args.index (image_state (table_of c.args.self.now) c.args.caches.now c.args.file.now pending) mid.caches mid.file c.in_ok-place.field-0 c.in_ok-place.ensures c.requires.inside c.requires.empty (table_of new.self) new.caches new.file
    c.in-Some.place c.in-Some.is c.make_counted_block.result (returns-in-Some-clause-makes g c pending) c.make_counted_block.ensures.at

pub returns-in-None-clause-placed : goal.returns-in-None-clause-placed
returns-in-None-clause-placed g c = λ pending.
    let mid = c.find_counted.new in
    let new = c.make_own_block.new in
    placed-itself g.S.Storage.state (first_free_of c.args.self.now) c.args.index (image_state (table_of c.args.self.now) c.args.caches.now c.args.file.now pending) mid.caches mid.file c.in_ok-place.field-0 c.in_ok-place.ensures c.requires.inside c.requires.empty (table_of new.self) new.caches new.file
    c.in-None.is c.make_own_block.result (returns-in-None-clause-makes g c pending) c.make_own_block.ensures.at

use Rattle.std.proofs.Common.{◌≡◌, ◌+◌, ◌*◌, ◌∙◌, refl, ap, subst, Bool, true, Result, Ok, Err}
use Rattle.std.specs.Prelude.{OnOk, OnErr, slice_index}
use Rattle.std.specs.Int.{w64, to_be_bytes}
use Rattle.imago_storage.specs.Through.{AtomicWriteOutcome}
use Rattle.imago_storage.specs.declared.fault.Fault.{Fault}
use Rattle.qcow2_metadata.specs.Blocks.{Block}
use Rattle.qcow2_metadata.specs.Places.{place_of}
use Rattle.qcow2_metadata.specs.Tables.{TableValue, table_start, with_raw_entry}
use Rattle.qcow2_alloc.specs.Allocators.{table_of}
use Rattle.qcow2_alloc.proofs.Faults.{handed-on}
use Rattle.qcow2_alloc.proofs.allocation.Allocator.write_block.Goals as goal

-- A table that is unchanged, or only set to dirty, has the same entries.
as-it-was : (r : Result Unit Fault) (t t' : TableValue) → OnOk r (t' ≡ t) → OnErr r (t' ≡ record t { modified = true }) → (m : Bool) × (t' ≡ record t { modified = m })
as-it-was (Ok done) t t' ok err = (t.modified, ok)
as-it-was (Err fault) t t' ok err = (true, err)

pub returns-in_err-write-clause-names : goal.returns-in_err-write-clause-names
returns-in_err-write-clause-names g c = rw (handed-on _ _ c.from_residual.ensures.1) (record {
  done = Err c.in_err-write.field-0.0;
  mid = g.S.Storage.state c.write.new.image;
  put = c.in_err-write.ensures.request;
  stopped = λ fault is. (is, refl, refl);
  named = λ is. absurd (cc is);
})

pub returns-clause-names : goal.returns-clause-names
returns-clause-names g c =
    let state = g.S.Storage.state in
    let table = table_of c.args.self.now in
    let i = c.args.index in
    let new = c.write_entry.new in
    let entered : c.enter_refblock.new.self ≡ with_raw_entry table i (place_of c.args.block.cluster_bits c.args.block.cluster) =
    c.enter_refblock.ensures ∙ ap (λ (b : Block). with_raw_entry table i (place_of b.cluster_bits b.cluster)) c.in_ok-write.ensures.ok in
    record {
      done = Ok tt;
      mid = state c.write.new.image;
      put = c.in_ok-write.ensures.request;
      stopped = λ fault is. absurd (cc is);
      named = λ is. (
        subst (λ (t : TableValue). AtomicWriteOutcome (state c.write.new.image) (state new.image) (table_start t + 8 * i) (to_be_bytes w64 (slice_index t.raw_entries i)) c.write_entry.result) entered c.write_entry.ensures.request,
        subst (λ (t : TableValue). (m : Bool) × (new.self ≡ record t { modified = m })) entered (as-it-was c.write_entry.result c.enter_refblock.new.self new.self c.write_entry.ensures.ok c.write_entry.ensures.err),
      );
    }

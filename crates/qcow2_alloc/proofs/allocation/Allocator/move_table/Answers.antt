use Rattle.std.proofs.Common.{◌≡◌, refl, ap, subst, ◌∙◌, Ok, Err, None}
use Rattle.imago_storage.specs.Through.{AtomicWriteOutcome}
use Rattle.qcow2_types.specs.Header.{Header, first_fault, rules_of_size}
use Rattle.qcow2_types.specs.HeaderSwitch.{FirstFieldsFit}
use Rattle.qcow2_types.specs.HeaderBytes.{first_bytes}
use Rattle.qcow2_metadata.specs.Tables.{TableValue, table_start}
use Rattle.qcow2_alloc.specs.MovingTables.{clusters_of, naming_table}
use Rattle.qcow2_alloc.proofs.Handing.CountSequences.{moved-none}
use Rattle.qcow2_alloc.proofs.Faults.{handed-on}
use Rattle.qcow2_alloc.proofs.allocation.Allocator.move_table.Goals as goal

pub returns-in_err-write-clause-moves : goal.returns-in_err-write-clause-moves
returns-in_err-write-clause-moves g c = rw (handed-on _ _ c.from_residual.ensures.1) (record {
  done = Err c.in_err-write.field-0.0;
  mid = c.write.new.image;
  put = c.in_err-write.ensures.request;
  stopped = λ fault is. (is, refl);
  pointed = λ is. absurd (cc is);
  fit = λ is. absurd (cc is);
  sizes = λ is. absurd (cc is);
  ok = tt;
  err = (refl, moved-none c.args.file.now.header c.args.file.now.header refl);
})

-- The header that references the table.
pub returns-in-Ok-clause-moves : goal.returns-in-Ok-clause-moves
returns-in-Ok-clause-moves g c =
    let named : c.set_reftable.new.self ≡ naming_table c.args.file.now.header c.args.table = c.set_reftable.ensures.fields ∙ ap (λ (t : TableValue). naming_table c.args.file.now.header t) c.in_ok-write.ensures.ok in
    record {
      done = Ok tt;
      mid = c.write.new.image;
      put = c.in_ok-write.ensures.request;
      stopped = λ fault is. absurd (cc is);
      pointed = λ is. subst (λ (h : Header). AtomicWriteOutcome (g.S.Storage.state c.write.new.image) (g.S.Storage.state c.write_reftable_pointer.new.image) 0 (first_bytes h.fields) (Ok tt)) named c.in-Ok.ensures;
      fit = λ is. subst (λ (h : Header). FirstFieldsFit h.fields) named c.set_reftable.ensures.fit;
      sizes = λ is kept. subst (λ (h : Header). first_fault (rules_of_size h.fields) ≡ None) named (c.set_reftable.ensures.sizes kept);
      ok = (c.in_ok-write.ensures.ok, named);
      err = tt;
    }

pub returns-in-Err-clause-moves : goal.returns-in-Err-clause-moves
returns-in-Err-clause-moves g c =
    let named : c.set_reftable.new.self ≡ naming_table c.args.file.now.header c.args.table = c.set_reftable.ensures.fields ∙ ap (λ (t : TableValue). naming_table c.args.file.now.header t) c.in_ok-write.ensures.ok in
    let back : c.set_reftable-in-Err.new.self ≡ naming_table c.set_reftable.new.self c.args.self.now.reftable = c.set_reftable-in-Err.ensures.fields in
    record {
      done = Ok tt;
      mid = c.write.new.image;
      put = c.in_ok-write.ensures.request;
      stopped = λ fault is. absurd (cc is);
      pointed = λ is. subst (λ (h : Header). AtomicWriteOutcome (g.S.Storage.state c.write.new.image) (g.S.Storage.state c.write_reftable_pointer.new.image) 0 (first_bytes h.fields) (Err c.in-Err.fault)) named c.in-Err.ensures;
      fit = λ is. subst (λ (h : Header). FirstFieldsFit h.fields) named c.set_reftable.ensures.fit;
      sizes = λ is kept. subst (λ (h : Header). first_fault (rules_of_size h.fields) ≡ None) named (c.set_reftable.ensures.sizes kept);
      ok = tt;
      err = (refl, (table_start c.args.self.now.reftable, clusters_of c.args.self.now.reftable c.args.file.now.header.fields.cluster_bits, back ∙ ap (λ (h : Header). naming_table h c.args.self.now.reftable) named));
    }

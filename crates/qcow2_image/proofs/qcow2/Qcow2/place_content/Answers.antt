use Rattle.std.proofs.Common.{ℕ, Option, Ok, Err, sym, subst}
use Rattle.std.specs.Prelude.{true, IfSome}
use Rattle.qcow2_metadata.specs.Places.{IsAddressable}
use Rattle.qcow2_image.specs.Allocating.{PlacesContent}
use Rattle.qcow2_image.specs.declared.allocating.Placed.{Placed}
use Rattle.qcow2_image.proofs.CallStarts.{begins-err, begins-ok}
use Rattle.qcow2_image.proofs.ClusterSteps.{placed-free, placed-kept, unfilled}
use Rattle.qcow2_alloc.proofs.Faults.{handed-on}
use Rattle.qcow2_image.proofs.qcow2.Qcow2.place_content.Goals as goal

pub returns-in_ok-fill_content-in-Some-clause-places : goal.returns-in_ok-fill_content-in-Some-clause-places
returns-in_ok-fill_content-in-Some-clause-places g c = λ guest.
    let old = c.args.self.now in
    subst (λ (o : Option ℕ). PlacesContent g.S.Storage guest o c.args.count c.args.content.now old (Ok (record { host = c.in-Some.host; count = 1; is_kept = true })) c.fill_content.new.self) (sym c.in-Some.is)
    (placed-kept g.S.Storage guest c.args.content.now old c.fill_content.new.self c.in-Some.host c.args.count c.requires.any
    (subst (λ (o : Option ℕ). IfSome o (λ host. IsAddressable old.tables.file.header.fields.cluster_bits host)) c.in-Some.is c.requires.host_addressable)
    (c.in_ok-fill_content-in-Some.ensures.fills guest))

pub returns-in_err-fill_content-in-Some-clause-places : goal.returns-in_err-fill_content-in-Some-clause-places
returns-in_err-fill_content-in-Some-clause-places g c = rw (handed-on _ _ c.from_residual.ensures.1) (λ guest.
    subst (λ (o : Option ℕ). PlacesContent g.S.Storage guest o c.args.count c.args.content.now c.args.self.now
    (Err c.in_err-fill_content-in-Some.field-0.0) c.fill_content.new.self) (sym c.in-Some.is)
    (unfilled g.S.Storage guest c.args.content.now c.args.self.now c.fill_content.new.self c.in-Some.host c.args.count
    c.in_err-fill_content-in-Some.field-0.0 (c.in_err-fill_content-in-Some.ensures.fills guest)))

pub returns-in-None-clause-places : goal.returns-in-None-clause-places
returns-in-None-clause-places g c = λ guest.
    subst (λ (o : Option ℕ). PlacesContent g.S.Storage guest o c.args.count c.args.content.now c.args.self.now c.store_most.result c.store_most.new.self) (sym c.in-None.is)
    (placed-free g.S.Storage guest c.args.content.now c.args.self.now c.store_most.new.self c.args.count c.store_most.result c.store_most.ensures.stores)

pub returns-in_ok-fill_content-in-Some-clause-begins : goal.returns-in_ok-fill_content-in-Some-clause-begins
returns-in_ok-fill_content-in-Some-clause-begins g c =
    begins-ok g.S.Storage {T = Unit} {U = Placed} c.args.begun.now c.fill_content.new.begun c.args.self.now c.fill_content.new.self tt
    (record { host = c.in-Some.host; count = 1; is_kept = true }) c.in_ok-fill_content-in-Some.ensures.begins

pub returns-in_err-fill_content-in-Some-clause-begins : goal.returns-in_err-fill_content-in-Some-clause-begins
returns-in_err-fill_content-in-Some-clause-begins g c = rw (handed-on _ _ c.from_residual.ensures.1) (
    begins-err g.S.Storage {T = Unit} {U = Placed} c.args.begun.now c.fill_content.new.begun c.args.self.now c.fill_content.new.self
    c.in_err-fill_content-in-Some.field-0.0 c.in_err-fill_content-in-Some.ensures.begins)

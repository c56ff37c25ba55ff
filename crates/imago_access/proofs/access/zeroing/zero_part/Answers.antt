use Rattle.std.proofs.Common.{ℕ, sym, subst}
use Rattle.std.specs.Prelude.{IfOk}
use Rattle.imago_storage.specs.Steps.{IsIn}
use Rattle.imago_access.specs.RangeCalls.{IsZeroedBy, zero_by}
use Rattle.imago_access.specs.PartCalls.{PartRefused}
use Rattle.imago_access.specs.RunCalls.{StaysBegun}
use Rattle.imago_access.specs.Files.{HadNoResourceError}
use Rattle.imago_access.specs.declared.access.zeroing.Zeroing.{Zeroing}
use Rattle.imago_access.proofs.access.zeroing.zero_part.Goals as goal

pub returns-in-Keep-clause-given : goal.returns-in-Keep-clause-given
returns-in-Keep-clause-given g c = λ well_formed. let d = g.D.DriverModel in let r = c.ensure_zero_mapping in
    subst (λ (k : Zeroing). IfOk r.result (λ part. (p : ℕ) → IsIn part.0 part.1 p → IsZeroedBy k (d.unallocated r.new.self) (d.zeroed r.new.self) p)) (sym c.in-Keep.is) (r.ensures.does.given well_formed)

pub returns-in-GiveUp-clause-given : goal.returns-in-GiveUp-clause-given
returns-in-GiveUp-clause-given g c = λ well_formed. let d = g.D.DriverModel in let r = c.discard_to_zero in
    subst (λ (k : Zeroing). IfOk r.result (λ part. (p : ℕ) → IsIn part.0 part.1 p → IsZeroedBy k (d.unallocated r.new.self) (d.zeroed r.new.self) p)) (sym c.in-GiveUp.is) (r.ensures.does.given well_formed)

pub returns-in-Keep-clause-crash_images : goal.returns-in-Keep-clause-crash_images
returns-in-Keep-clause-crash_images g c = λ well_formed below. c.ensure_zero_mapping.ensures.does.crash_images well_formed below tt

pub returns-in-GiveUp-clause-crash_images : goal.returns-in-GiveUp-clause-crash_images
returns-in-GiveUp-clause-crash_images g c = λ well_formed below. c.discard_to_zero.ensures.does.crash_images well_formed below tt

pub returns-in-Keep-clause-refused : goal.returns-in-Keep-clause-refused
returns-in-Keep-clause-refused g c = let d = g.D.DriverModel in let r = c.ensure_zero_mapping in
    subst (λ (k : Zeroing). PartRefused (zero_by k) d c.args.offset c.args.length r.result c.args.driver.now r.new.self) (sym c.in-Keep.is) r.ensures.refused

pub returns-in-GiveUp-clause-refused : goal.returns-in-GiveUp-clause-refused
returns-in-GiveUp-clause-refused g c = let d = g.D.DriverModel in let r = c.discard_to_zero in
    subst (λ (k : Zeroing). PartRefused (zero_by k) d c.args.offset c.args.length r.result c.args.driver.now r.new.self) (sym c.in-GiveUp.is) r.ensures.refused

pub returns-in-Keep-clause-stays_begun : goal.returns-in-Keep-clause-stays_begun
returns-in-Keep-clause-stays_begun g c = let d = g.D.DriverModel in let r = c.ensure_zero_mapping in
    subst (λ (k : Zeroing). StaysBegun (zero_by k) d c.args.offset c.args.length (HadNoResourceError r.result) c.args.driver.now r.new.self) (sym c.in-Keep.is) r.ensures.does.stays_begun

pub returns-in-GiveUp-clause-stays_begun : goal.returns-in-GiveUp-clause-stays_begun
returns-in-GiveUp-clause-stays_begun g c = let d = g.D.DriverModel in let r = c.discard_to_zero in
    subst (λ (k : Zeroing). StaysBegun (zero_by k) d c.args.offset c.args.length (HadNoResourceError r.result) c.args.driver.now r.new.self) (sym c.in-GiveUp.is) r.ensures.does.stays_begun

use Rattle.std.proofs.Common.{◌∙◌, inl, refl}
use Rattle.imago_storage.proofs.Composing.{keeps_on}
use Rattle.access_cases.proofs.FileWrites.{write_passes, settled_left, settled_fixed, settled_fits}
use Rattle.access_cases.proofs.PreparedRuns.{free_past, room_by}
use Rattle.access_cases.proofs.clusters.OneCluster.settle.Goals as goal

pub returns-in-Ok-write-clause-mutating_call : goal.returns-in-Ok-write-clause-mutating_call
returns-in-Ok-write-clause-mutating_call g c =
    let d = c.args.self.now in
    let r = c.in-Prepared.run' in
    let old = g.S.Storage.state d.file in
    let new = g.S.Storage.state c.write.new.self in
    let shape = c.write.ensures.shape in
    let done = c.in-Ok-write.ensures.ok in
    record {
      fixed = settled_fixed old.shape new.shape d r c.in-Prepared.is shape;
      failed = λ f. f;
      counts_not_fallen = ((shape, c.write.ensures.counts_not_fallen), tt);
      faults = λ ok. ((done.faults, done.refusals), tt);
      safely = λ whole well_formed. record {
        runs = well_formed.runs;
        keeps = keeps_on old new shape well_formed.keeps;
        fits = let fits = rw c.in-Prepared.is at well_formed.fits in
            settled_fits _ d.size old new r.written.items _ c.write.ensures.unit.positive fits.1.all (c.deref-2.ensures.value ∙ (rw c.deref.ensures.value at c.in-Ok.ensures)) done;
      };
      stays_stable = λ l. l;
      excess_refcount = λ w s c. refl;
    }

pub returns-in-Ok-write-clause-room : goal.returns-in-Ok-write-clause-room
returns-in-Ok-write-clause-room g c =
    let d = c.args.self.now in
    let r = c.in-Prepared.run' in
    record {
      stays_allocated = λ p there room. absurd (room_by d.content _ d.size p c.in-Prepared.is room);
      free = λ p free bare. inl (free_past d.content r d.size p c.in-Prepared.is free);
      zeroes = λ p there free bare. inl (free_past d.content r d.size p c.in-Prepared.is free);
    }

pub returns-in-Ok-write-clause-crash_images : goal.returns-in-Ok-write-clause-crash_images
returns-in-Ok-write-clause-crash_images g c = λ well_formed below.
    let d = c.args.self.now in
    let r = c.in-Prepared.run' in
    let old = g.S.Storage.state d.file in
    let fits = rw c.in-Prepared.is at well_formed.fits in
    let settled = c.deref-2.ensures.value ∙ (rw c.deref.ensures.value at c.in-Ok.ensures) in
    write_passes c.write.result old (g.S.Storage.state c.write.new.self) 0 c.deref-2.result.now _ c.write.ensures.ok c.write.ensures.err c.write.ensures.crash_images c.write.ensures.as_long
    (λ f mixed long. settled_left below old d r c.deref-2.result.now f c.in-Prepared.is fits.0 fits.1 settled mixed)

pub returns-clause-crash_images : goal.returns-clause-crash_images
returns-clause-crash_images g c = λ well_formed below.
    let d = c.args.self.now in
    let r = c.in-Prepared.run' in
    let old = g.S.Storage.state d.file in
    let fits = rw c.in-Prepared.is at well_formed.fits in
    let settled = c.deref-2.ensures.value ∙ (rw c.deref.ensures.value at c.in-Ok.ensures) in
    rw c.spend-in-Err-write.ensures.spent (write_passes c.write.result old (g.S.Storage.state c.write.new.self) 0 c.deref-2.result.now _ c.write.ensures.ok c.write.ensures.err c.write.ensures.crash_images c.write.ensures.as_long
    (λ f mixed long. settled_left below old d r c.deref-2.result.now f c.in-Prepared.is fits.0 fits.1 settled mixed))

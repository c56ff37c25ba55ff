use Rattle.std.proofs.Common.{refl, ◌+◌, ◌∙◌, ap, arith}
use Rattle.imago_storage.specs.State.{Shape}
use Rattle.imago_storage.specs.Disk.{byte}
use Rattle.imago_storage.proofs.Composing.{keeps_on}
use Rattle.imago_access.specs.Layer.{own}
use Rattle.imago_access.specs.Stops.{GivesBytes}
use Rattle.imago_formats.proofs.RawSteps.{mixed_bytes, unwritten_same, unwritten_long, same_faultless}
use Rattle.access_cases.specs.Clusters.{cluster_fixed, failed_by}
use Rattle.access_cases.proofs.PreparedRuns.{mapped_home}
use Rattle.access_cases.proofs.FileWrites.{write_passes, mapped_left, spliced_at, spliced_out, same_layer, failed_on, mild_failed}
use Rattle.access_cases.proofs.clusters.OneCluster.write_file.Goals as goal

pub returns-in-Ok-clause-writes : goal.returns-in-Ok-clause-writes
returns-in-Ok-clause-writes g c =
    let d = c.args.self.now in
    let at = c.args.at in
    let bytes = c.args.bytes.now in
    let old = g.S.Storage.state d.file in
    let new = g.S.Storage.state c.write.new.self in
    let shape = c.write.ensures.shape in
    let done = c.in-Ok.ensures.ok in
    record {
      mapped = λ coherent some. (0, λ i lt. rw c.requires.mapped (mapped_home d.size (at + i) d.writable c.requires.writing (omega (arith, lt, c.requires.inside))));
      empty = λ none. absurd (omega (arith, none, c.requires.nonempty));
      keeps_layer_state = record { fixed = ap (λ (s : Shape). cluster_fixed s d) shape; size = refl; unspent = refl; failed = λ f. f };
      ok = λ well_formed. record {
        keeps_layer_state = record { fixed = ap (λ (s : Shape). cluster_fixed s d) shape; size = refl; unspent = refl; failed = λ f. f };
        writable_location = refl;
        range = λ i lt. rw c.requires.mapped (ap (λ b. own (byte b)) (spliced_at old.bytes at bytes new.bytes i (done.content well_formed.keeps) lt), refl);
        others = λ p out. rw c.requires.mapped (ap (λ b. own (byte b)) (spliced_out old.bytes at bytes new.bytes p (done.content well_formed.keeps) out), refl);
      };
      err = λ well_formed. tt;
      room = λ well_formed whole. record { stays_allocated = λ p there is. is; free = λ p there is. is; zeroes = λ p there there' is. is };
      crash_images = λ well_formed below. write_passes c.write.result old new at bytes _ c.write.ensures.ok c.write.ensures.err c.write.ensures.crash_images c.write.ensures.as_long
          (λ f mixed long. mapped_left below old d (GivesBytes at bytes) f c.requires.mapped (rw c.requires.mapped at well_formed.fits) long (mixed_bytes old.bytes at bytes f mixed));
      mutating_call = record {
        fixed = ap (λ (s : Shape). cluster_fixed s d) shape;
        failed = λ f. f;
        counts_not_fallen = ((shape, c.write.ensures.counts_not_fallen), tt);
        faults = λ whole. ((done.faults, done.refusals), tt);
        safely = λ whole well_formed. record {
          runs = well_formed.runs;
          keeps = keeps_on old new shape well_formed.keeps;
          fits = let fits = rw c.requires.mapped at well_formed.fits in rw c.requires.mapped (omega (arith, fits, done.size c.requires.nonempty));
        };
        stays_stable = λ l. l;
        excess_refcount = λ w s c. refl;
      };
      stays_begun = λ x call begun. tt;
    }

pub returns-in-Err-clause-writes : goal.returns-in-Err-clause-writes
returns-in-Err-clause-writes g c =
    let d = c.args.self.now in
    let at = c.args.at in
    let bytes = c.args.bytes.now in
    let old = g.S.Storage.state d.file in
    let new = g.S.Storage.state c.write.new.self in
    let shape = c.write.ensures.shape in
    let e = c.in-Err.fault in
    let refused = c.in-Err.ensures.err in
    rw (c.cut_off.ensures.same, c.cut_off.ensures.marked) (record {
      mapped = λ coherent. tt;
      empty = λ none. absurd (omega (arith, none, c.requires.nonempty));
      keeps_layer_state = record { fixed = ap (λ (s : Shape). cluster_fixed s d) shape; size = refl; unspent = refl; failed = failed_on e d.failed };
      ok = λ well_formed. tt;
      err = λ well_formed not_resource_error. let same = unwritten_same old new at bytes e refused not_resource_error in same_layer old new d (failed_by e d.failed) shape (ap (λ s. s.bytes) same) (mild_failed e d.failed not_resource_error);
      room = λ well_formed whole. record { stays_allocated = λ p there is. is; free = λ p there is. is; zeroes = λ p there there' is. is };
      crash_images = λ well_formed below. write_passes c.write.result old new at bytes _ c.write.ensures.ok c.write.ensures.err c.write.ensures.crash_images c.write.ensures.as_long
          (λ f mixed long. mapped_left below old d (GivesBytes at bytes) f c.requires.mapped (rw c.requires.mapped at well_formed.fits) long (mixed_bytes old.bytes at bytes f mixed));
      mutating_call = record {
        fixed = ap (λ (s : Shape). cluster_fixed s d) shape;
        failed = failed_on e d.failed;
        counts_not_fallen = ((shape, c.write.ensures.counts_not_fallen), tt);
        faults = λ not_resource_error. (same_faultless old new (unwritten_same old new at bytes e refused not_resource_error), tt);
        safely = λ not_resource_error well_formed. record {
          runs = mild_failed e d.failed not_resource_error ∙ well_formed.runs;
          keeps = keeps_on old new shape well_formed.keeps;
          fits = let fits = rw c.requires.mapped at well_formed.fits in rw c.requires.mapped (omega (arith, fits, unwritten_long old new at bytes e refused));
        };
        stays_stable = λ l. l;
        excess_refcount = λ w s c. refl;
      };
      stays_begun = λ x call begun. tt;
    })

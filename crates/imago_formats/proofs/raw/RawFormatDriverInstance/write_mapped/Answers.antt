use Rattle.std.proofs.Common.{refl, ap, length}
use Rattle.std.proofs.Math.Nat.{le_trans}
use Rattle.imago_storage.specs.State.{Shape}
use Rattle.imago_storage.proofs.Composing.{keeps_on}
use Rattle.imago_access.specs.Stops.{GivesBytes}
use Rattle.imago_formats.specs.RawLayer.{raw_fixed}
use Rattle.imago_formats.proofs.RawSteps.{raw_like, same_faultless, unwritten_same, unwritten_long, written_stops, mixed_bytes}
use Rattle.imago_formats.proofs.RawWrites.{allowed-writable, mapped-inside, refused-same, written-faultless, written-long, wrote}
use Rattle.imago_formats.proofs.raw.RawFormatDriverInstance.write_mapped.Goals as goal

pub returns-in-Ok-clause-writes : goal.returns-in-Ok-clause-writes
returns-in-Ok-clause-writes g c =
    let r = c.args.self.now in
    let old = g.S.Storage.state r.storage in
    let new = g.S.Storage.state c.write.new.self in
    let bytes = c.args.bytes.now in
    let done = c.in-Ok.ensures.ok in
    let long = written-long old new c.args.guest bytes done in
    record {
      mapped = λ coherent some. mapped-inside old r.size r.writable c.args.guest c.args.place (length bytes)
          (allowed-writable r.writable _ r.size c.args.guest (length bytes) c.if-length-eq0.false c.in_ok-check_change.ensures.ok)
          c.in_ok-check_change.ensures.inside c.if-guest-place.false;
      empty = λ none. absurd (c.if-length-eq0.false none);
      keeps_layer_state = raw_like old new r.size r.writable done.shape;
      ok = λ well_formed. wrote old new c.args.guest bytes done r.size r.writable well_formed.0;
      err = λ well_formed. tt;
      room = λ well_formed whole. record {
        stays_allocated = λ p left has. has;
        free = λ p spared free. free;
        zeroes = λ p left spared
            zero. zero;
      };
      crash_images = λ well_formed below. written_stops c.write.result old new c.args.guest bytes c.write.ensures.ok c.write.ensures.err
          below r.size r.writable (GivesBytes c.args.guest bytes) well_formed.1 c.write.ensures.crash_images c.write.ensures.as_long
          (λ f mixed p lt. mixed_bytes old.bytes c.args.guest bytes f mixed p);
      mutating_call = record {
        fixed = ap (λ (s : Shape). raw_fixed s r.writable) done.shape;
        failed = λ failed. failed;
        counts_not_fallen = ((done.shape, c.write.ensures.counts_not_fallen), tt);
        faults = λ whole. (written-faultless old new c.args.guest bytes done, tt);
        safely = λ whole well_formed. (keeps_on old new done.shape well_formed.0, le_trans well_formed.1 long);
        stays_stable = λ stable. le_trans stable long;
        excess_refcount = λ whole well_formed c. refl;
      };
      stays_begun = λ d call begun. tt;
    }

pub returns-in-Err-clause-writes : goal.returns-in-Err-clause-writes
returns-in-Err-clause-writes g c =
    let r = c.args.self.now in
    let old = g.S.Storage.state r.storage in
    let new = g.S.Storage.state c.write.new.self in
    let bytes = c.args.bytes.now in
    let refused = c.in-Err.ensures.err in
    let shape = c.write.ensures.shape in
    let long = unwritten_long old new c.args.guest bytes c.in-Err.fault refused in
    record {
      mapped = λ coherent. tt;
      empty = λ none. absurd (c.if-length-eq0.false none);
      keeps_layer_state = raw_like old new r.size r.writable shape;
      ok = λ well_formed. tt;
      err = λ well_formed not_resource_error. refused-same old new c.args.guest bytes c.in-Err.fault refused not_resource_error r.size
          r.writable;
      room = λ well_formed whole. record {
        stays_allocated = λ p left has. has;
        free = λ p spared free. free;
        zeroes = λ p left spared
            zero. zero;
      };
      crash_images = λ well_formed below. written_stops c.write.result old new c.args.guest bytes c.write.ensures.ok c.write.ensures.err
          below r.size r.writable (GivesBytes c.args.guest bytes) well_formed.1 c.write.ensures.crash_images c.write.ensures.as_long
          (λ f mixed p lt. mixed_bytes old.bytes c.args.guest bytes f mixed p);
      mutating_call = record {
        fixed = ap (λ (s : Shape). raw_fixed s r.writable) shape;
        failed = λ failed. failed;
        counts_not_fallen = ((shape, c.write.ensures.counts_not_fallen), tt);
        faults = λ not_resource_error. (
          same_faultless old new
              (unwritten_same old new c.args.guest bytes c.in-Err.fault refused not_resource_error),
          tt,
        );
        safely = λ not_resource_error well_formed. (keeps_on old new shape well_formed.0, le_trans well_formed.1 long);
        stays_stable = λ stable. le_trans stable long;
        excess_refcount = λ whole well_formed c. refl;
      };
      stays_begun = λ d call begun. tt;
    }

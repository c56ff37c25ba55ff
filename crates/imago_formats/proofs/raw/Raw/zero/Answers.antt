use Rattle.imago_access.specs.Stops.{GivesZero}
use Rattle.std.proofs.Common.{ap, arith, refl}
use Rattle.std.proofs.Math.Nat.{le_trans}
use Rattle.std.specs.Prelude.{replicate}
use Rattle.imago_storage.specs.State.{Shape}
use Rattle.imago_storage.proofs.Composing.{keeps_on}
use Rattle.imago_access.proofs.Answers.{handed_on}
use Rattle.imago_formats.specs.RawLayer.{raw_fixed}
use Rattle.imago_formats.proofs.RawSteps.{raw_like, unwritten_same, unwritten_long, same_faultless, written_stops, mixed_zeroes}
use Rattle.imago_formats.proofs.RawWrites.{refused-part, written-faultless, written-long, zeroed}
use Rattle.imago_formats.proofs.raw.Raw.zero.Goals as goal

pub returns-in_err-zero_range-clause-does : goal.returns-in_err-zero_range-clause-does
returns-in_err-zero_range-clause-does g c =
    let r = c.args.self.now in
    let old = g.S.Storage.state r.storage in
    let new = g.S.Storage.state c.zero_range.new.storage in
    let zeroes = replicate c.args.length 0 in
    let refused = c.in_err-zero_range.ensures.err in
    let shape = c.zero_range.ensures.shape in
    let long = unwritten_long old new c.args.offset zeroes c.in_err-zero_range.field-0.0 refused in
    rw (handed_on _ _ c.from_residual-in_err-zero_range.ensures.1) (record {
      ok = λ well_formed. tt;
      err = λ well_formed not_resource_error. refused-part old new c.args.offset zeroes c.in_err-zero_range.field-0.0 refused
          not_resource_error r.size r.writable c.args.offset c.args.length;
      reach = λ well_formed. tt;
      given = λ well_formed. tt;
      room = λ well_formed whole. record {
        stays_allocated = λ p left has. has;
        free = λ p spared free. free;
        zeroes = λ p left spared
            zero. zero;
      };
      keeps_layer_state = raw_like old new r.size r.writable shape;
      mutating_call = record {
        fixed = ap (λ (s : Shape). raw_fixed s r.writable) shape;
        failed = λ failed. failed;
        counts_not_fallen = ((shape, c.zero_range.ensures.counts_not_fallen), tt);
        faults = λ not_resource_error. (
          same_faultless old new (unwritten_same old new c.args.offset zeroes
              c.in_err-zero_range.field-0.0 refused not_resource_error),
          tt,
        );
        safely = λ not_resource_error well_formed. (keeps_on old new shape well_formed.0, le_trans well_formed.1 long);
        stays_stable = λ stable. le_trans stable long;
        excess_refcount = λ whole well_formed c. refl;
      };
      stays_begun = λ d whole began part kind same. tt;
      crash_images = λ well_formed below told. written_stops c.zero_range.result old new c.args.offset zeroes c.zero_range.ensures.ok
          c.zero_range.ensures.err below r.size r.writable (GivesZero c.args.offset c.args.length) well_formed.1
          c.zero_range.ensures.crash_images c.zero_range.ensures.as_long
          (λ f mixed p lt. mixed_zeroes old.bytes c.args.offset c.args.length f mixed p);
    })

pub returns-clause-does : goal.returns-clause-does
returns-clause-does g c =
    let r = c.args.self.now in
    let old = g.S.Storage.state r.storage in
    let new = g.S.Storage.state c.zero_range.new.storage in
    let zeroes = replicate c.args.length 0 in
    let done = c.in_ok-zero_range.ensures.ok in
    let long = written-long old new c.args.offset zeroes done in
    record {
      ok = λ well_formed. zeroed old new c.args.offset c.args.length done r.size r.writable well_formed.0;
      err = λ well_formed. tt;
      reach = λ well_formed. record {
        none_before = λ u whole. whole.start;
        nonempty = λ u whole. omega (arith, c.if-length-eq0.false);
        none_cut = λ u whole lt. omega (arith, lt);
      };
      given = λ well_formed p within. tt;
      room = λ well_formed whole. record {
        stays_allocated = λ p left has. has;
        free = λ p spared free. free;
        zeroes = λ p left spared
            zero. zero;
      };
      keeps_layer_state = raw_like old new r.size r.writable done.shape;
      mutating_call = record {
        fixed = ap (λ (s : Shape). raw_fixed s r.writable) done.shape;
        failed = λ failed. failed;
        counts_not_fallen = ((done.shape, c.zero_range.ensures.counts_not_fallen), tt);
        faults = λ whole. (written-faultless old new c.args.offset zeroes done, tt);
        safely = λ whole well_formed. (keeps_on old new done.shape well_formed.0, le_trans well_formed.1 long);
        stays_stable = λ stable. le_trans stable long;
        excess_refcount = λ whole well_formed c. refl;
      };
      stays_begun = λ d whole began part kind same. tt;
      crash_images = λ well_formed below told. written_stops c.zero_range.result old new c.args.offset zeroes c.zero_range.ensures.ok
          c.zero_range.ensures.err below r.size r.writable (GivesZero c.args.offset c.args.length) well_formed.1
          c.zero_range.ensures.crash_images c.zero_range.ensures.as_long
          (λ f mixed p lt. mixed_zeroes old.bytes c.args.offset c.args.length f mixed p);
    }

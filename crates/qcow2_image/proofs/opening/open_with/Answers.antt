use Rattle.std.proofs.Common.{refl, sym, inl, None}
use Rattle.std.specs.Prelude.{false}
use Rattle.qcow2_image.specs.declared.qcow2.Qcow2.{Qcow2}
use Rattle.qcow2_image.proofs.StateAfterOpening.{opened-kept, opened-meant, opened-still, opened-safe}
use Rattle.qcow2_image.proofs.ClusterSteps.{idle-waits}
use Rattle.qcow2_image.proofs.LeaksWithNothingPending.{counted-idle}
use Rattle.qcow2_image.proofs.opening.open_with.Goals as goal

pub returns-clause-seen : goal.returns-clause-seen
returns-clause-seen g c =
    let before = g.S.Storage.state c.args.image in
    let l2 = c.args.entries.l2_tables in
    let rb = c.args.entries.refcount_blocks in
    let d : Qcow2 g.row.S.Denot g.S.Storage = record {
      tables = c.in_ok-tables.tables;
      mode = record
          { writable = c.args.writable; backing = c.match-backing.backing };
      number = c.args.number;
      failed = false;
      claims = 0;
      unspent = None;
    }
    in
    record {
      format_is = refl;
      writable_is = refl;
      number_is = refl;
      size_is = let meant = opened-meant g.S.Storage before c.args.writable l2 rb d c.in_ok-tables.ensures.ok in sym (meant.exactly refl);
      meant = opened-meant g.S.Storage before c.args.writable l2 rb d c.in_ok-tables.ensures.ok;
      counted = counted-idle g.S.Storage d c.in_ok-tables.ensures.ok.seen.loads (idle-waits d.tables.space c.in_ok-tables.ensures.ok.space.idle) refl;
      unchanged_but_faults = opened-kept g.S.Storage before c.args.writable l2 rb d c.in_ok-tables.ensures.ok;
      free = refl;
      usable = refl;
      coherent = record { seen = c.in_ok-tables.ensures.ok.seen; sure = inl (refl, c.in_ok-tables.ensures.ok.space.idle) };
      has_no_dirty_data = opened-still g.S.Storage before c.args.writable l2 rb d c.in_ok-tables.ensures.ok;
      stays_stable = tt;
      well_formed = λ keeps sound. opened-safe g.S.Storage before c.args.writable l2 rb d c.in_ok-tables.ensures.ok refl refl keeps sound;
    }

use Rattle.std.proofs.Common.{arith, rules, ap, ◌∙◌, ◌+◌, ◌≤◌, length, ℕ}
use Rattle.std.specs.Prelude.{⊤}
use Rattle.std.proofs.lemmas.Grind.{common_steps}
use Rattle.imago_storage.specs.Disk.{byte}
use Rattle.imago_access.specs.Layer.{own}
use Rattle.imago_access.specs.Files.{IsNotResourceError, byte_in, files}
use Rattle.imago_access.proofs.Answers.{handed_on}
use Rattle.imago_access.proofs.ImageCauses.{failed_after, read_mapped_failed}
use Rattle.imago_access.proofs.Looking.{looked_both, looked_weaker}
use Rattle.imago_access.proofs.OwnRuns.{own_look_cause, own_mapped_cause, raw_own, special_own, zero_own_run, none_past}
use Rattle.imago_access.proofs.ReadCauses.{indirect_free, raw_reach}
use Rattle.imago_access.proofs.Units.{layer_aligned}
use Rattle.imago_access.proofs.access.committing.read_own_run.Goals as goal

pub returns-in_err-mapping : goal.returns-in_err-mapping
returns-in_err-mapping g c = rw (handed_on _ _ c.from_residual.ensures.1) (let d = g.D.DriverModel in record {
  run = tt;
  own = λ see. tt;
  lookup_call = c.in_err-mapping.ensures.lookup_call;
  failed = c.in_err-mapping.ensures.failed;
  cause = λ see. own_look_cause (d.layer c.args.driver.now) c.args.offset (length c.args.buf.now) (files d c.args.driver.now) (files d c.get_mapping.new.self) c.in_err-mapping.field-0.0 (c.in_err-mapping.ensures.cause see);
})

pub returns-in_err-read_mapped-in-Raw : goal.returns-in_err-read_mapped-in-Raw
returns-in_err-read_mapped-in-Raw g c = rw (handed_on _ _ c.from_residual-in_err-read_mapped-in-Raw.ensures.1) (
    let d = g.D.DriverModel in let a0 = c.args.driver.now in let a1 = c.get_mapping.new.self in let a2 = c.read_mapped.new.self in let e = c.in_err-read_mapped-in-Raw.field-0.0 in
    let n = c.in_ok-mapping.length in let size = (d.layer a0).size in
    let inside : c.args.offset + n ≤ size = grind (arith, common_steps) in
    record {
      run = tt;
      own = λ see. tt;
      lookup_call = looked_both d g.met.D.FormatDriverInstance.well_formed_is_coherent (IsNotResourceError e) a0 a1 a2 c.in_ok-mapping.ensures.lookup_call c.in_err-read_mapped-in-Raw.ensures.lookup_call;
      failed = failed_after (files d a0) (files d a1) (files d a2) e c.in_ok-mapping.ensures.lookup_call.counts_not_fallen (read_mapped_failed (d.layer a1) c.in-Raw.place _ (files d a1) (files d a2) e c.in_err-read_mapped-in-Raw.ensures.cause);
      cause = λ see.
          let looks = c.in_ok-mapping.ensures.looks see in
          own_mapped_cause (d.layer a0) (d.layer a1) c.args.offset n c.in-Raw.place (files d a1) (files d a2) e (c.in_ok-mapping.ensures.lookup_call.stays tt see).0 inside (layer_aligned d.layer g.met.D.FormatDriverInstance.aligned a0).positive
          (raw_reach (d.layer a0) (byte_in (files d a1)) c.args.offset (length c.args.buf.now) c.in_ok-mapping.mapping n looks c.in-Raw.storage c.in-Raw.place c.in-Raw.writable c.in-Raw.is)
          (grind (arith, common_steps));
    })

pub returns-in_ok-read_mapped-in-Raw : goal.returns-in_ok-read_mapped-in-Raw
returns-in_ok-read_mapped-in-Raw g c = let d = g.D.DriverModel in let a0 = c.args.driver.now in let a1 = c.get_mapping.new.self in let a2 = c.read_mapped.new.self in record {
  run = grind (arith, common_steps);
  own = λ see i lt.
      let looks = c.in_ok-mapping.ensures.looks see in
      let cell = raw_own (d.layer a0) (byte_in (files d a1)) c.args.offset (length c.args.buf.now) c.in_ok-mapping.length c.in_ok-mapping.mapping looks c.in-Raw.storage c.in-Raw.place c.in-Raw.writable c.in-Raw.is i lt in
      cell ∙ ap (λ (b : ℕ). own (byte b)) (grind (arith, common_steps));
  lookup_call = looked_both d g.met.D.FormatDriverInstance.well_formed_is_coherent ⊤ a0 a1 a2 c.in_ok-mapping.ensures.lookup_call (search (rules));
  failed = tt;
  cause = λ see. tt;
}

pub returns-in-Zero : goal.returns-in-Zero
returns-in-Zero g c = let d = g.D.DriverModel in let a0 = c.args.driver.now in let a1 = c.get_mapping.new.self in record {
  run = grind (arith, common_steps);
  own = λ see. zero_own_run (d.layer a0) (byte_in (files d a1)) c.args.offset (length c.args.buf.now) c.in_ok-mapping.length c.in_ok-mapping.mapping c.in-Zero.explicit _ (c.in_ok-mapping.ensures.looks see) c.in-Zero.is (λ i lt. grind (arith, common_steps));
  lookup_call = c.in_ok-mapping.ensures.lookup_call;
  failed = tt;
  cause = λ see. tt;
}

pub returns-in-Special : goal.returns-in-Special
returns-in-Special g c = let d = g.D.DriverModel in let a0 = c.args.driver.now in let a1 = c.get_mapping.new.self in record {
  run = tt;
  own = λ see. tt;
  lookup_call = looked_weaker d ⊤ ⊤ a0 a1 (λ x. tt) c.in_ok-mapping.ensures.lookup_call;
  failed = tt;
  cause = λ see. special_own (d.layer a0) (byte_in (files d a1)) c.args.offset (length c.args.buf.now) c.in_ok-mapping.length c.in_ok-mapping.mapping (c.in_ok-mapping.ensures.looks see) c.in-Special.offset c.requires.nonempty c.in-Special.is c.in_ok-mapping.ensures.run;
}

pub returns-in-Indirect : goal.returns-in-Indirect
returns-in-Indirect g c = let d = g.D.DriverModel in let a0 = c.args.driver.now in let a1 = c.get_mapping.new.self in record {
  run = grind (arith, common_steps);
  own = λ see backed. indirect_free (d.layer a0) (byte_in (files d a1)) c.args.offset (length c.args.buf.now) c.in_ok-mapping.mapping c.in_ok-mapping.length (c.in_ok-mapping.ensures.looks see) c.in-Indirect.offset c.in-Indirect.writable c.in-Indirect.is;
  lookup_call = c.in_ok-mapping.ensures.lookup_call;
  failed = tt;
  cause = λ see. tt;
}

pub returns-in-Eof : goal.returns-in-Eof
returns-in-Eof g c = let d = g.D.DriverModel in
    absurd (none_past (d.layer c.args.driver.now) c.args.offset (length c.args.buf.now) c.in_ok-mapping.length c.in_ok-mapping.mapping (omega (arith, c.requires.nonempty, c.requires.inside)) c.in-Eof.is c.in_ok-mapping.ensures.run)

use Rattle.host_disk.proofs.ListsDriven.{surely_driven, value_more}
use Rattle.host_disk.proofs.driving.check_and_drive.Goals as goal

pub returns : goal.returns
returns g c = record {
  ok =
      value_more c.drive.result _ _ c.drive.ensures.ok
      (λ answers on truthful. surely_driven g.H.HostFile c.args.calls.now answers.items c.args.layers.now.items c.check.new.layers.items
      c.drive.new.layers.items c.check.ensures.only_read (c.in_ok-check.ensures.sound (c.drive.ensures.truthful truthful)) (on truthful));
}

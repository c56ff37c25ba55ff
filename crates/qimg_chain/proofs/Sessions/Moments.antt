-- A moment of a list of calls on a chain, as one of the flat disk.
use Rattle.std.specs.Prelude.{Bool, None, Option, Some, is_some}
use Rattle.imago_access.specs.Running.{below_of, chain_disk}
use Rattle.imago_access.specs.declared.driver_model.DriverModel.{Ghosts}
use Rattle.imago_access.specs.declared.mapping.PreparedDataMapping.{PreparedDataMapping}
use Rattle.qimg_calls.specs.Runs.{Moment}
use Rattle.qimg_chain.specs.Sessions.{next_image}
use Rattle.qimg_chain.specs.OneDisk.{DiskMoment}

-- The kept mapping, by whether it has something to commit.
abbrev pub kept_of : {St : Type 0} → Option (PreparedDataMapping St) → Option Bool
kept_of None = None
kept_of (Some m) = Some (is_some m.state)

abbrev pub flat : {D St : Type 0} → Ghosts D St → Moment D St → DiskMoment
flat g m = record {
  disk = chain_disk g.layer m.now.drivers;
  below = below_of g.layer m.now.drivers;
  next = next_image g m.now.drivers.1;
  top = g.image m.now.drivers.0;
  since = m.since;
  kept = kept_of m.now.kept_mapping;
}

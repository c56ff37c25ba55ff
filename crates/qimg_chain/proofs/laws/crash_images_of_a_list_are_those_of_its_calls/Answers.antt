use Rattle.qimg_chain.proofs.ToldStops.{in-order, stops-in, stops-told}
use Rattle.qimg_chain.proofs.laws.crash_images_of_a_list_are_those_of_its_calls.Goals as goal

pub returns-clause-left : goal.returns-clause-left
returns-clause-left g c since list answers old new goes =
    stops-in _ _ _ _ (λ f left. left.0) (stops-told g.D.DriverModel since list answers old new goes)

pub returns-clause-sound : goal.returns-clause-sound
returns-clause-sound g c since list answers old new goes =
    stops-in _ _ _ _ (λ f left. left.1) (stops-told g.D.DriverModel since list answers old new goes)

pub returns-clause-in_order : goal.returns-clause-in_order
returns-clause-in_order g c since list answers old new goes = in-order g.D.DriverModel since list answers old new goes

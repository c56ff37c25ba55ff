use Rattle.qcow2_steps.proofs.InvisibleClusters.{kept-hidden, kept-stays, kept-used, reserved-hidden}
use Rattle.qcow2_steps.proofs.data.what_no_place_shows.Goals as goal

pub returns : goal.returns
returns g = record {
  kept_is_hidden = λ m guest c sound kept. (kept-hidden m guest c sound kept, kept-used m guest c sound kept);
  reserved = λ m c sound reserved. reserved-hidden m c sound reserved;
  stays = kept-stays;
}

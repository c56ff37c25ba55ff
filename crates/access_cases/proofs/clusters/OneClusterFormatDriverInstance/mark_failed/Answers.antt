use Rattle.std.proofs.Common.{◌≡◌, refl, ap}
use Rattle.std.specs.Prelude.{◌||◌, Bool, true, false}
use Rattle.imago_access.specs.Layer.{Layer}
use Rattle.access_cases.specs.contracts.clusters.OneClusterDriverModel.TheImpl as seen
use Rattle.access_cases.proofs.clusters.OneClusterFormatDriverInstance.mark_failed.Goals as goal

-- A failed image stays failed, and any other one fails.
or_fails : (failed : Bool) → true ≡ (failed || true)
or_fails true = refl
or_fails false = refl

pub returns : goal.returns
returns g c =
    let layer = (seen.ghosts g.row.S g.S.Storage g.S.Storage-dict g.S.Destruct-dict).layer c.args.self.now in
    record {
      layer = ap {B = Layer} (λ (failed : Bool). record layer { failed = failed }) (or_fails layer.failed);
      unasked = (refl, refl);
      seen = λ s. s;
      stilled = λ s. s;
      stays_stable = λ s. s;
    }

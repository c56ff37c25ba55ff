use Rattle.std.proofs.Common.{List, map, ◌∙◌, ap, sym, subst}
use Rattle.imago_access.specs.Layer.{Layer, IsFree, hold_of}
use Rattle.imago_access.specs.Chain.{at, disk_of, IsBacked}
use Rattle.imago_access.specs.Layers.{layers}
use Rattle.imago_access.specs.Files.{IsNotResourceError}
use Rattle.imago_access.specs.Resizes.{NotGrown, fill_of}
use Rattle.imago_storage.specs.Steps.{Stays}
use Rattle.imago_access.proofs.Answers.{if_err_with, whole_of_mild}
use Rattle.imago_access.proofs.Disks.{grown_step}
use Rattle.imago_access.proofs.Holding.{at_alike}
use Rattle.imago_access.proofs.Running.{backed_on, holds_loose}
use Rattle.imago_access.proofs.access.FormatAccess.resize_grow.Goals as goal

pub returns-clause-ok : goal.returns-clause-ok
returns-clause-ok g c = let d = g.D.DriverModel in
    let r = c.resize_grow in
    let old = c.self.inside.driver in
    let under = map d.layer (layers c.self.inside.below) in
    let later = map d.layer (layers r.new.below) in
    rw (← c.self.view_is) (λ intact. grown_step under later (d.layer old) (d.layer r.new.self) c.args.size (fill_of c.args.mode) r.result
    (g.met.D.FormatDriverInstance.free_loose r.new.self r.ensures.resizes.free) r.ensures.resizes.nothing
    (r.ensures.grows.ok intact.is_well_formed intact.is_coherent) (λ whole. (r.ensures.below.stays whole intact.is_coherent).0))

pub returns-clause-err : goal.returns-clause-err
returns-clause-err g c = let d = g.D.DriverModel in
    let laws = g.met.D.FormatDriverInstance in
    let r = c.resize_grow in
    let old = c.self.inside.driver in
    let new = r.new.self in
    let under = map d.layer (layers c.self.inside.below) in
    let later = map d.layer (layers r.new.below) in
    let free : IsFree (d.layer old) = subst (λ (v : _). IsFree (d.layer v.0)) (sym c.self.view_is) c.requires.free in
    rw (← c.self.view_is) (λ intact. if_err_with r.result (λ e. IsNotResourceError e → NotGrown (at under) (d.layer old) (d.layer new)) (λ e. IsNotResourceError e → Stays (disk_of under (d.layer old)) (disk_of later (d.layer new)))
    (λ e is not not_resource_error. rw (r.ensures.below.stays (whole_of_mild r.result e is not_resource_error) intact.is_coherent).0 (record {
      size = (not not_resource_error).keeps_layer_state.size;
      value = λ p low. at_alike (d.layer old) (d.layer new) under p (not not_resource_error).keeps_layer_state.size ((not not_resource_error).data_unchanged p low);
      hold = λ p low. ap hold_of (laws.free_loose new r.ensures.resizes.free p ∙ sym (laws.free_loose old free p));
    })) (r.ensures.grows.err intact.is_well_formed intact.is_coherent))

pub returns-clause-intact : goal.returns-clause-intact
returns-clause-intact g c = let d = g.D.DriverModel in
    let laws = g.met.D.FormatDriverInstance in
    let r = c.resize_grow in
    let old = c.self.inside.driver in
    let new = r.new.self in
    let under = map d.layer (layers c.self.inside.below) in
    rw (← c.self.view_is) (λ whole intact.
    let stays = r.ensures.below.stays whole intact.is_coherent in
    record {
      is_well_formed = r.ensures.grows.mutating_call.safely (whole, intact.is_coherent) intact.is_well_formed;
      is_coherent = stays.1;
      backed = subst (λ (below : List Layer). IsBacked below (d.layer new)) (sym stays.0) (backed_on under (d.layer old) (d.layer new) r.ensures.grows.mutating_call.fixed intact.backed);
      held = holds_loose (at (map d.layer (layers r.new.below))) (d.layer new) (laws.free_loose new r.ensures.resizes.free);
    })

use Rattle.std.proofs.Common.{List, OnOk, map, subst, sym}
use Rattle.host_disk.specs.Checks.{IsTopSound}
use Rattle.host_disk.specs.Layers.{AreTruthful, held_by, shown_by}
use Rattle.host_disk.specs.declared.layer.HostLayer.{HostLayer}
use Rattle.host_disk.proofs.Layering.{on_any, only_read-refl, only_read-trans, sound_at_start}
use Rattle.host_disk.proofs.checking.check.Goals.{in-Ok, in-Err}
use Rattle.host_disk.proofs.checking.check.Goals as goal

pub loop-init : goal.loop-init
loop-init g c = only_read-refl g.H.HostFile c.args.layers.now.items

pub loop-preserved : goal.loop-preserved
loop-preserved g c =
    only_read-trans g.H.HostFile c.args.layers.now.items c.loop.layers.items c.fetch_all.new.layers.items c.loop.invariant
    c.fetch_all.ensures.only_read

pub returns-in_err-fetch_all-clause-only_read : goal.returns-in_err-fetch_all-clause-only_read
returns-in_err-fetch_all-clause-only_read g c =
    only_read-trans g.H.HostFile c.args.layers.now.items c.loop.layers.items c.fetch_all.new.layers.items c.loop.invariant
    c.fetch_all.ensures.only_read

pub returns-then-is_empty-clause-only_read : goal.returns-then-is_empty-clause-only_read
returns-then-is_empty-clause-only_read g c = c.loop.invariant

pub returns-clause-only_read : goal.returns-clause-only_read
returns-clause-only_read g c = c.loop.invariant

pub returns-then-is_empty-clause-sound : goal.returns-then-is_empty-clause-sound
returns-then-is_empty-clause-sound g c =
    let host = g.H.HostFile in
    let now = c.loop.layers.items in
    let told = subst (λ (l : List (HostLayer g.row.H.Denot host)). OnOk c.check_over-outcome.result (IsTopSound (map (shown_by host) l)))
    c.deref.ensures.value c.check_over-outcome.ensures in
    elim c.match-outcome.branch [
      | in-Ok w ↦ on_any c.match-outcome.result (sound_at_start host c.args.layers.now.items now c.loop.invariant
          (subst (λ r. OnOk r (IsTopSound (map (shown_by host) now))) w.in-Ok.is told))
      | in-Err w ↦ subst (λ r. OnOk r (AreTruthful host now → IsTopSound (map (held_by host) c.args.layers.now.items))) (sym w.result-is) tt
    ]

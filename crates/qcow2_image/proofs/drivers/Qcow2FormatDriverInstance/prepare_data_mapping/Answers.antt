use Rattle.std.proofs.Common.{◌≡◌, refl, ℕ, ◌∙◌, Option, Some, None, Ok, Err, List, arith, rules}
use Rattle.std.specs.Prelude.{⊤}
use Rattle.imago_storage.specs.State.{StorageState}
use Rattle.imago_storage.specs.declared.fault.Fault.{Fault}
use Rattle.imago_access.specs.Changes.{asking}
use Rattle.imago_access.specs.Files.{IsNotResourceError}
use Rattle.imago_access.specs.Layer.{Layer}
use Rattle.imago_access.specs.Parts.{PartCause}
use Rattle.imago_access.specs.Refusals.{own_refusal}
use Rattle.imago_access.proofs.Looking.{looked_under_same}
use Rattle.qcow2_image.specs.Looking.{IsWholeRunIn}
use Rattle.qcow2_image.specs.Seen.{layer_of}
use Rattle.qcow2_image.proofs.Preparations.DriverPreparations.{fresh-cut, fresh-free, fresh-mine, fresh-reaches, fresh-run, fresh-size, fresh-whole, limit-where, prepares-fresh, unspent-none}
use Rattle.qcow2_image.proofs.Preparations.RunPreparations.{part-why, prepares-mapped, prepares-refused}
use Rattle.qcow2_image.proofs.Preparations.Reservations.{fresh-lacks, prepared-behind}
use Rattle.qcow2_alloc.proofs.Faults.{handed-on}
use Rattle.qcow2_image.specs.contracts.qcow2.Qcow2DriverModel.TheImpl.{ghosts}
use Rattle.qcow2_image.proofs.CallsWithoutChanges.{failed-barrier, failed-refusal, empty-refusal, failed-early_outcome, idle-early_outcome, refused-early_outcome, busy-early_outcome, busy-neither, prepares-failed}
use Rattle.qcow2_image.proofs.drivers.Qcow2FormatDriverInstance.prepare_data_mapping.Goals as goal
use Rattle.qcow2_image.proofs.LeaksByFile.{leaks-kept}

-- The early error of a change has a cause.
own-refused : (below : List Layer) (layer : Layer) (offset n : ℕ) (causes : Fault → Type 0) (olds news : List StorageState)
    → (e : Fault) → own_refusal layer offset n ≡ Some e → PartCause below layer offset n causes olds news e
own-refused below layer offset n causes olds news e h = search rules

pub returns-then-self-clause-below : goal.returns-then-self-clause-below
returns-then-self-clause-below g c = looked_under_same g.B.LayersBelowModel ⊤ c.args.below.now

pub returns-then-length-eq0-clause-below : goal.returns-then-length-eq0-clause-below
returns-then-length-eq0-clause-below g c = looked_under_same g.B.LayersBelowModel ⊤ c.args.below.now

pub returns-in_err-check_change-clause-does : goal.returns-in_err-check_change-clause-does
returns-in_err-check_change-clause-does g c = rw (handed-on _ _ c.from_residual.ensures.1) (search (rules, own-refused))

pub returns-in_err-check_change-clause-below : goal.returns-in_err-check_change-clause-below
returns-in_err-check_change-clause-below g c = rw (handed-on _ _ c.from_residual.ensures.1)
    (looked_under_same g.B.LayersBelowModel (IsNotResourceError c.in_err-check_change.field-0.0) c.args.below.now)

pub returns-in_err-place-clause-below : goal.returns-in_err-place-clause-below
returns-in_err-place-clause-below g c = rw (handed-on _ _ c.from_residual-in_err-place.ensures.1)
    (looked_under_same g.B.LayersBelowModel (IsNotResourceError c.in_err-place.field-0.0) c.args.below.now)

pub returns-in-Some-clause-below : goal.returns-in-Some-clause-below
returns-in-Some-clause-below g c = looked_under_same g.B.LayersBelowModel ⊤ c.args.below.now

pub returns-in_err-place-clause-does : goal.returns-in_err-place-clause-does
returns-in_err-place-clause-does g c = rw (handed-on _ _ c.from_residual-in_err-place.ensures.1) (
    let st = g.S.Storage in
    let asked = asking c.args.offset c.args.length c.args.overwrite in
    let e = c.in_err-place.field-0.0 in
    prepares-refused g.row.S st g.S.Storage-dict g.S.Destruct-dict c.args.self.now c.writable_run.new.self g.B.LayersBelowModel c.args.below.now asked e
    c.in_err-place.ensures.keeps c.in_err-place.ensures.failed
    (λ well_formed under d call begun part same.
    part-why g.row.S st g.S.Storage-dict g.S.Destruct-dict c.args.self.now c.writable_run.new.self g.B.LayersBelowModel c.args.below.now asked e well_formed.runs
    (c.in_err-place.ensures.cause well_formed.seen) well_formed d call))

pub returns-in-Some-clause-does : goal.returns-in-Some-clause-does
returns-in-Some-clause-does g c =
    let st = g.S.Storage in
    let asked = asking c.args.offset c.args.length c.args.overwrite in
    let is = c.in-Some.is in
    let all = c.in_ok-place.ensures in
    rw c.existing-in-Some.ensures (prepares-mapped g.row.S st g.S.Storage-dict g.S.Destruct-dict c.args.self.now c.writable_run.new.self
    g.B.LayersBelowModel c.args.below.now asked
    c.in-Some.place c.in-Some.count (rw is at all.keeps) c.requires.free c.in_ok-check_change.ensures.inside
    (omega (arith, c.if-length-eq0.false)) (rw is at all.run) (λ seen. rw is at (all.writable_location seen))
    (λ seen. rw is at (all.whole c.requires.free seen)))

pub prepare_fresh-requires-clause-free : goal.prepare_fresh-requires-clause-free
prepare_fresh-requires-clause-free g c = c.in_ok-place.ensures.keeps.unspent ∙ unspent-none g.S.Storage c.args.self.now.unspent
    c.requires.free

pub returns-in-None-clause-run : goal.returns-in-None-clause-run
returns-in-None-clause-run g c =
    let st = g.S.Storage in
    let asked = asking c.args.offset c.args.length c.args.overwrite in
    let u = g.B.LayersBelowModel in
    let x = c.args.below.now in
    let y = c.prepare_fresh.new.below in
    let looked = rw c.in-None.is at c.in_ok-place.ensures.keeps in
    let fresh = prepared-behind st {T = Option (ℕ × ℕ)} u asked c.args.self.now c.writable_run.new.self x None looked c.prepare_fresh.result c.prepare_fresh.new.self y c.prepare_fresh.ensures in
    fresh-run g.row.S st g.S.Storage-dict g.S.Destruct-dict u asked c.args.self.now c.prepare_fresh.new.self x y c.prepare_fresh.result
    (omega (arith, c.if-length-eq0.false)) c.in_ok-check_change.ensures.inside fresh

pub returns-in-None-clause-mine : goal.returns-in-None-clause-mine
returns-in-None-clause-mine g c =
    let st = g.S.Storage in
    let asked = asking c.args.offset c.args.length c.args.overwrite in
    let u = g.B.LayersBelowModel in
    let x = c.args.below.now in
    let y = c.prepare_fresh.new.below in
    let looked = rw c.in-None.is at c.in_ok-place.ensures.keeps in
    let fresh = prepared-behind st {T = Option (ℕ × ℕ)} u asked c.args.self.now c.writable_run.new.self x None looked c.prepare_fresh.result c.prepare_fresh.new.self y c.prepare_fresh.ensures in
    fresh-mine g.row.S st g.S.Storage-dict g.S.Destruct-dict u asked c.args.self.now c.prepare_fresh.new.self x y c.prepare_fresh.result fresh

pub returns-in-None-clause-size : goal.returns-in-None-clause-size
returns-in-None-clause-size g c =
    let st = g.S.Storage in
    let asked = asking c.args.offset c.args.length c.args.overwrite in
    let u = g.B.LayersBelowModel in
    let x = c.args.below.now in
    let y = c.prepare_fresh.new.below in
    let looked = rw c.in-None.is at c.in_ok-place.ensures.keeps in
    let fresh = prepared-behind st {T = Option (ℕ × ℕ)} u asked c.args.self.now c.writable_run.new.self x None looked c.prepare_fresh.result c.prepare_fresh.new.self y c.prepare_fresh.ensures in
    fresh-size g.row.S st g.S.Storage-dict g.S.Destruct-dict u asked c.args.self.now c.prepare_fresh.new.self x y c.prepare_fresh.result fresh

pub returns-in-None-clause-free : goal.returns-in-None-clause-free
returns-in-None-clause-free g c =
    let st = g.S.Storage in
    let asked = asking c.args.offset c.args.length c.args.overwrite in
    let u = g.B.LayersBelowModel in
    let x = c.args.below.now in
    let y = c.prepare_fresh.new.below in
    let looked = rw c.in-None.is at c.in_ok-place.ensures.keeps in
    let fresh = prepared-behind st {T = Option (ℕ × ℕ)} u asked c.args.self.now c.writable_run.new.self x None looked c.prepare_fresh.result c.prepare_fresh.new.self y c.prepare_fresh.ensures in
    fresh-free g.row.S st g.S.Storage-dict g.S.Destruct-dict u asked c.args.self.now c.prepare_fresh.new.self x y c.prepare_fresh.result c.requires.free fresh

pub returns-in-None-clause-does : goal.returns-in-None-clause-does
returns-in-None-clause-does g c =
    let st = g.S.Storage in
    let asked = asking c.args.offset c.args.length c.args.overwrite in
    let u = g.B.LayersBelowModel in
    let x = c.args.below.now in
    let y = c.prepare_fresh.new.below in
    let looked = rw c.in-None.is at c.in_ok-place.ensures.keeps in
    let fresh = prepared-behind st {T = Option (ℕ × ℕ)} u asked c.args.self.now c.writable_run.new.self x None looked c.prepare_fresh.result c.prepare_fresh.new.self y c.prepare_fresh.ensures in
    prepares-fresh g.row.S st g.S.Storage-dict g.S.Destruct-dict u asked c.args.self.now c.prepare_fresh.new.self x y c.prepare_fresh.result c.requires.free (omega (arith, c.if-length-eq0.false))
    (λ seen. c.in_ok-place.ensures.none seen c.in-None.is) c.in_ok-check_change.ensures.inside c.in_ok-check_change.ensures.writable fresh

pub returns-in-None-clause-below : goal.returns-in-None-clause-below
returns-in-None-clause-below g c = c.prepare_fresh.ensures.prepares.below

pub returns-in-None-clause-whole : goal.returns-in-None-clause-whole
returns-in-None-clause-whole g c =
    let st = g.S.Storage in
    let asked = asking c.args.offset c.args.length c.args.overwrite in
    let u = g.B.LayersBelowModel in
    let x = c.args.below.now in
    let y = c.prepare_fresh.new.below in
    let looked = rw c.in-None.is at c.in_ok-place.ensures.keeps in
    let fresh = prepared-behind st {T = Option (ℕ × ℕ)} u asked c.args.self.now c.writable_run.new.self x None looked c.prepare_fresh.result c.prepare_fresh.new.self y c.prepare_fresh.ensures in
    λ coherent. fresh-whole g.row.S st g.S.Storage-dict g.S.Destruct-dict u asked c.args.self.now c.prepare_fresh.new.self x y c.prepare_fresh.result (λ m. IsWholeRunIn st c.args.self.now.tables c.args.offset c.args.length m.length) fresh

pub returns-in-None-clause-part : goal.returns-in-None-clause-part
returns-in-None-clause-part g c =
    let st = g.S.Storage in
    let asked = asking c.args.offset c.args.length c.args.overwrite in
    let u = g.B.LayersBelowModel in
    let x = c.args.below.now in
    let y = c.prepare_fresh.new.below in
    let looked = rw c.in-None.is at c.in_ok-place.ensures.keeps in
    let fresh = prepared-behind st {T = Option (ℕ × ℕ)} u asked c.args.self.now c.writable_run.new.self x None looked c.prepare_fresh.result c.prepare_fresh.new.self y c.prepare_fresh.ensures in
    fresh-cut g.row.S st g.S.Storage-dict g.S.Destruct-dict u asked c.args.self.now c.prepare_fresh.new.self x y c.prepare_fresh.result fresh

pub returns-in-None-clause-reaches : goal.returns-in-None-clause-reaches
returns-in-None-clause-reaches g c =
    let st = g.S.Storage in
    let asked = asking c.args.offset c.args.length c.args.overwrite in
    let u = g.B.LayersBelowModel in
    let x = c.args.below.now in
    let y = c.prepare_fresh.new.below in
    let looked = rw c.in-None.is at c.in_ok-place.ensures.keeps in
    let fresh = prepared-behind st {T = Option (ℕ × ℕ)} u asked c.args.self.now c.writable_run.new.self x None looked c.prepare_fresh.result c.prepare_fresh.new.self y c.prepare_fresh.ensures in
    fresh-reaches g.row.S st g.S.Storage-dict g.S.Destruct-dict u asked c.args.self.now c.prepare_fresh.new.self x y c.prepare_fresh.result fresh

pub returns-in-None-clause-limit : goal.returns-in-None-clause-limit
returns-in-None-clause-limit g c = λ coherent. limit-where c.prepare_fresh.result
    ((layer_of g.S.Storage c.args.self.now).writable_location c.args.offset ≡ None)
    (c.in_ok-place.ensures.none coherent.seen c.in-None.is)

pub returns-in-None-clause-full : goal.returns-in-None-clause-full
returns-in-None-clause-full g c =
    let st = g.S.Storage in
    let asked = asking c.args.offset c.args.length c.args.overwrite in
    let u = g.B.LayersBelowModel in
    let x = c.args.below.now in
    let y = c.prepare_fresh.new.below in
    let looked = rw c.in-None.is at c.in_ok-place.ensures.keeps in
    let fresh = prepared-behind st {T = Option (ℕ × ℕ)} u asked c.args.self.now c.writable_run.new.self x None looked c.prepare_fresh.result c.prepare_fresh.new.self y c.prepare_fresh.ensures in
    λ well_formed under. fresh-lacks st u asked fresh.n c.args.self.now c.prepare_fresh.new.self x y c.prepare_fresh.result fresh.prepares well_formed under

pub returns-in_err-place-clause-leaks : goal.returns-in_err-place-clause-leaks
returns-in_err-place-clause-leaks g c = rw (handed-on _ _ c.from_residual-in_err-place.ensures.1)
    (λ well_formed whole. leaks-kept g.S.Storage {T = Option (ℕ × ℕ)} c.args.self.now c.writable_run.new.self
    (Err c.in_err-place.field-0.0) c.in_err-place.ensures.keeps)

pub returns-in-Some-clause-leaks : goal.returns-in-Some-clause-leaks
returns-in-Some-clause-leaks g c = λ well_formed whole. leaks-kept g.S.Storage {T = Option (ℕ × ℕ)} c.args.self.now c.writable_run.new.self
    (Ok c.in_ok-place.field-0) c.in_ok-place.ensures.keeps

pub returns-in-None-clause-leaks : goal.returns-in-None-clause-leaks
returns-in-None-clause-leaks g c =
    let st = g.S.Storage in
    let asked = asking c.args.offset c.args.length c.args.overwrite in
    let u = g.B.LayersBelowModel in
    let x = c.args.below.now in
    let y = c.prepare_fresh.new.below in
    let looked = rw c.in-None.is at c.in_ok-place.ensures.keeps in
    let fresh = prepared-behind st {T = Option (ℕ × ℕ)} u asked c.args.self.now c.writable_run.new.self x None looked c.prepare_fresh.result c.prepare_fresh.new.self y c.prepare_fresh.ensures in
    λ well_formed whole. fresh.prepares.leaks well_formed (unspent-none st c.args.self.now.unspent c.requires.free) whole

pub returns-then-self-clause-run : goal.returns-then-self-clause-run
returns-then-self-clause-run g c = tt

pub returns-then-self-clause-mine : goal.returns-then-self-clause-mine
returns-then-self-clause-mine g c = tt

pub returns-then-self-clause-empty : goal.returns-then-self-clause-empty
returns-then-self-clause-empty g c = λ _. tt

pub returns-then-self-clause-size : goal.returns-then-self-clause-size
returns-then-self-clause-size g c = refl

pub returns-then-self-clause-free : goal.returns-then-self-clause-free
returns-then-self-clause-free g c = λ _. c.requires.free

pub returns-then-self-clause-does : goal.returns-then-self-clause-does
returns-then-self-clause-does g c =
    prepares-failed _ _ _ c.args.self.now _ (failed-barrier (layer_of g.S.Storage c.args.self.now) c.if-self.true)

pub returns-then-self-clause-early_outcome : goal.returns-then-self-clause-early_outcome
returns-then-self-clause-early_outcome g c =
    failed-early_outcome _ _ _ c.args.self.now (failed-barrier (layer_of g.S.Storage c.args.self.now) c.if-self.true)
    (failed-refusal (layer_of g.S.Storage c.args.self.now) _ _ c.if-self.true)

pub returns-then-self-clause-unread : goal.returns-then-self-clause-unread
returns-then-self-clause-unread g c = λ _. refl

pub returns-then-self-clause-whole : goal.returns-then-self-clause-whole
returns-then-self-clause-whole g c = λ _. tt

pub returns-then-self-clause-part : goal.returns-then-self-clause-part
returns-then-self-clause-part g c = tt

pub returns-then-self-clause-reaches : goal.returns-then-self-clause-reaches
returns-then-self-clause-reaches g c = tt

pub returns-then-self-clause-limit : goal.returns-then-self-clause-limit
returns-then-self-clause-limit g c = λ _ n is. absurd (cc is)

pub returns-then-self-clause-full : goal.returns-then-self-clause-full
returns-then-self-clause-full g c = λ _ _ n is. absurd (cc is)

pub returns-then-self-clause-leaks : goal.returns-then-self-clause-leaks
returns-then-self-clause-leaks g c = λ _ _ _. refl

pub returns-then-length-eq0-clause-size : goal.returns-then-length-eq0-clause-size
returns-then-length-eq0-clause-size g c = refl

pub returns-then-length-eq0-clause-free : goal.returns-then-length-eq0-clause-free
returns-then-length-eq0-clause-free g c = λ _. c.requires.free

pub returns-then-length-eq0-clause-early_outcome : goal.returns-then-length-eq0-clause-early_outcome
returns-then-length-eq0-clause-early_outcome g c =
    idle-early_outcome _ _ _ _ c.args.self.now
    (empty-refusal (layer_of g.S.Storage c.args.self.now) _ _ c.if-self.false refl c.if-length-eq0.true)

pub returns-then-length-eq0-clause-unread : goal.returns-then-length-eq0-clause-unread
returns-then-length-eq0-clause-unread g c = λ _. refl

pub returns-then-length-eq0-clause-limit : goal.returns-then-length-eq0-clause-limit
returns-then-length-eq0-clause-limit g c = λ _. tt

pub returns-then-length-eq0-clause-full : goal.returns-then-length-eq0-clause-full
returns-then-length-eq0-clause-full g c = λ _ _. tt

pub returns-then-length-eq0-clause-leaks : goal.returns-then-length-eq0-clause-leaks
returns-then-length-eq0-clause-leaks g c = λ _ _ _. refl

pub returns-in_err-check_change-clause-run : goal.returns-in_err-check_change-clause-run
returns-in_err-check_change-clause-run g c = rw (handed-on _ _ c.from_residual.ensures.1) tt

pub returns-in_err-check_change-clause-mine : goal.returns-in_err-check_change-clause-mine
returns-in_err-check_change-clause-mine g c = rw (handed-on _ _ c.from_residual.ensures.1) tt

pub returns-in_err-check_change-clause-empty : goal.returns-in_err-check_change-clause-empty
returns-in_err-check_change-clause-empty g c = rw (handed-on _ _ c.from_residual.ensures.1) (λ _. tt)

pub returns-in_err-check_change-clause-size : goal.returns-in_err-check_change-clause-size
returns-in_err-check_change-clause-size g c = refl

pub returns-in_err-check_change-clause-free : goal.returns-in_err-check_change-clause-free
returns-in_err-check_change-clause-free g c = λ _. c.requires.free

pub returns-in_err-check_change-clause-early_outcome : goal.returns-in_err-check_change-clause-early_outcome
returns-in_err-check_change-clause-early_outcome g c = rw (handed-on _ _ c.from_residual.ensures.1) (
    refused-early_outcome _ _ _ c.in_err-check_change.field-0.0 c.args.self.now c.in_err-check_change.ensures.err c.if-length-eq0.false)

pub returns-in_err-check_change-clause-unread : goal.returns-in_err-check_change-clause-unread
returns-in_err-check_change-clause-unread g c = λ _. refl

pub returns-in_err-check_change-clause-whole : goal.returns-in_err-check_change-clause-whole
returns-in_err-check_change-clause-whole g c = rw (handed-on _ _ c.from_residual.ensures.1) (λ _. tt)

pub returns-in_err-check_change-clause-part : goal.returns-in_err-check_change-clause-part
returns-in_err-check_change-clause-part g c = rw (handed-on _ _ c.from_residual.ensures.1) tt

pub returns-in_err-check_change-clause-reaches : goal.returns-in_err-check_change-clause-reaches
returns-in_err-check_change-clause-reaches g c = rw (handed-on _ _ c.from_residual.ensures.1) tt

pub returns-in_err-check_change-clause-leaks : goal.returns-in_err-check_change-clause-leaks
returns-in_err-check_change-clause-leaks g c = λ _ _ _. refl

pub returns-in_err-place-clause-early_outcome : goal.returns-in_err-place-clause-early_outcome
returns-in_err-place-clause-early_outcome g c = busy-early_outcome _ _ _ _ c.args.self.now _ c.in_ok-check_change.ensures.ok c.if-length-eq0.false

pub returns-in_err-place-clause-unread : goal.returns-in_err-place-clause-unread
returns-in_err-place-clause-unread g c = λ _. refl

pub returns-in-Some-clause-early_outcome : goal.returns-in-Some-clause-early_outcome
returns-in-Some-clause-early_outcome g c = busy-early_outcome _ _ _ _ c.args.self.now _ c.in_ok-check_change.ensures.ok c.if-length-eq0.false

pub returns-in-Some-clause-unread : goal.returns-in-Some-clause-unread
returns-in-Some-clause-unread g c = λ _. refl

pub returns-in-None-clause-early_outcome : goal.returns-in-None-clause-early_outcome
returns-in-None-clause-early_outcome g c = busy-early_outcome _ _ _ _ c.args.self.now _ c.in_ok-check_change.ensures.ok c.if-length-eq0.false

pub returns-in-None-clause-unread : goal.returns-in-None-clause-unread
returns-in-None-clause-unread g c =
    λ h. absurd
    (busy-neither (ghosts g.row.S g.S.Storage g.S.Storage-dict g.S.Destruct-dict) _ _ c.in_ok-check_change.ensures.ok c.if-length-eq0.false h)

use Rattle.std.proofs.Common.{ℕ, ◌<◌, ◌≤◌, [], ◌∷◌, refl, subst}
use Rattle.std.specs.Prelude.{⊤}
use Rattle.imago_access.proofs.FilePairs.{kept_all_same}
use Rattle.imago_access.proofs.Looking.{looked_same}
use Rattle.qcow2_image.specs.Seen.{layer_of}
use Rattle.qcow2_image.proofs.CallsWithoutChanges.{failed-barrier, runs-barrier, failed-early_outcome, idle-early_outcome, busy-early_outcome, not-inside, not-some, none-below, empty-run}
use Rattle.imago_access.specs.declared.mapping.ShallowMapping.{ShallowMapping}
use Rattle.qcow2_image.proofs.RequestsWithoutChanges.{ok-whole}
use Rattle.qcow2_image.proofs.drivers.Qcow2FormatDriverInstance.get_mapping.Goals as goal
use Rattle.qcow2_image.proofs.LeaksByFile.{leaks-kept}

pub returns-clause-stays_begun : goal.returns-clause-stays_begun
returns-clause-stays_begun g c = ok-whole c.run_from.result _ c.run_from.ensures.stays_begun

pub returns-clause-looks : goal.returns-clause-looks
returns-clause-looks g c = λ coherent. c.run_from.ensures.looks coherent.seen

pub returns-clause-room : goal.returns-clause-room
returns-clause-room g c = λ coherent. c.run_from.ensures.room coherent.seen

pub returns-clause-explicit_zero : goal.returns-clause-explicit_zero
returns-clause-explicit_zero g c = λ coherent. c.run_from.ensures.explicit_zero coherent.seen

pub returns-clause-cause : goal.returns-clause-cause
returns-clause-cause g c = λ coherent. c.run_from.ensures.cause coherent.seen

pub returns-clause-whole : goal.returns-clause-whole
returns-clause-whole g c = λ coherent. c.run_from.ensures.whole coherent.seen

pub returns-clause-entry : goal.returns-clause-entry
returns-clause-entry g c = λ some inside coherent. c.run_from.ensures.entry coherent.seen

pub returns-clause-leaks : goal.returns-clause-leaks
returns-clause-leaks g c =
    leaks-kept g.S.Storage {T = ShallowMapping × ℕ} c.args.self.now c.run_from.new.self c.run_from.result c.run_from.ensures.keeps

pub returns-then-self-clause-run : goal.returns-then-self-clause-run
returns-then-self-clause-run g c = tt

pub returns-then-self-clause-looks : goal.returns-then-self-clause-looks
returns-then-self-clause-looks g c = λ _. tt

pub returns-then-self-clause-room : goal.returns-then-self-clause-room
returns-then-self-clause-room g c = λ _. tt

pub returns-then-self-clause-explicit_zero : goal.returns-then-self-clause-explicit_zero
returns-then-self-clause-explicit_zero g c = λ _. tt

pub returns-then-self-clause-storage_exists : goal.returns-then-self-clause-storage_exists
returns-then-self-clause-storage_exists g c = tt

pub returns-then-self-clause-early_outcome : goal.returns-then-self-clause-early_outcome
returns-then-self-clause-early_outcome g c =
    failed-early_outcome _ _ _ c.args.self.now (failed-barrier (layer_of g.S.Storage c.args.self.now) c.if-self.true)
    (failed-barrier (layer_of g.S.Storage c.args.self.now) c.if-self.true)

pub returns-then-self-clause-lookup_call : goal.returns-then-self-clause-lookup_call
returns-then-self-clause-lookup_call g c = looked_same _ ⊤ c.args.self.now

pub returns-then-self-clause-stays_begun : goal.returns-then-self-clause-stays_begun
returns-then-self-clause-stays_begun g c = tt

pub returns-then-self-clause-failed : goal.returns-then-self-clause-failed
returns-then-self-clause-failed g c = tt

pub returns-then-self-clause-marks_failed : goal.returns-then-self-clause-marks_failed
returns-then-self-clause-marks_failed g c = tt

pub returns-then-self-clause-cause : goal.returns-then-self-clause-cause
returns-then-self-clause-cause g c = λ _. failed-barrier (layer_of g.S.Storage c.args.self.now) c.if-self.true

pub returns-then-self-clause-marked : goal.returns-then-self-clause-marked
returns-then-self-clause-marked g c = refl

pub returns-then-self-clause-reads : goal.returns-then-self-clause-reads
returns-then-self-clause-reads g c = kept_all_same (g.S.Storage.state c.args.self.now.tables.file.image ∷ [])

pub returns-then-self-clause-entry : goal.returns-then-self-clause-entry
returns-then-self-clause-entry g c = λ _ _ _. tt

pub returns-then-self-clause-whole : goal.returns-then-self-clause-whole
returns-then-self-clause-whole g c = λ _. tt

pub returns-then-self-clause-leaks : goal.returns-then-self-clause-leaks
returns-then-self-clause-leaks g c = λ _. refl

pub returns-then-offset-size-clause-run : goal.returns-then-offset-size-clause-run
returns-then-offset-size-clause-run g c = (refl, subst (λ (n : ℕ). n ≤ c.args.offset) c.size-size.ensures c.if-offset-size.true)

pub returns-then-offset-size-clause-room : goal.returns-then-offset-size-clause-room
returns-then-offset-size-clause-room g c = λ _. tt

pub returns-then-offset-size-clause-explicit_zero : goal.returns-then-offset-size-clause-explicit_zero
returns-then-offset-size-clause-explicit_zero g c = λ _ i low _. none-below low

pub returns-then-offset-size-clause-storage_exists : goal.returns-then-offset-size-clause-storage_exists
returns-then-offset-size-clause-storage_exists g c = tt

pub returns-then-offset-size-clause-early_outcome : goal.returns-then-offset-size-clause-early_outcome
returns-then-offset-size-clause-early_outcome g c =
    idle-early_outcome _ _ _ _ c.args.self.now (runs-barrier (layer_of g.S.Storage c.args.self.now) c.if-self.false refl)

pub returns-then-offset-size-clause-lookup_call : goal.returns-then-offset-size-clause-lookup_call
returns-then-offset-size-clause-lookup_call g c = looked_same _ ⊤ c.args.self.now

pub returns-then-offset-size-clause-stays_begun : goal.returns-then-offset-size-clause-stays_begun
returns-then-offset-size-clause-stays_begun g c = λ e call begun. begun

pub returns-then-offset-size-clause-failed : goal.returns-then-offset-size-clause-failed
returns-then-offset-size-clause-failed g c = tt

pub returns-then-offset-size-clause-marks_failed : goal.returns-then-offset-size-clause-marks_failed
returns-then-offset-size-clause-marks_failed g c = tt

pub returns-then-offset-size-clause-cause : goal.returns-then-offset-size-clause-cause
returns-then-offset-size-clause-cause g c = λ _. tt

pub returns-then-offset-size-clause-marked : goal.returns-then-offset-size-clause-marked
returns-then-offset-size-clause-marked g c = refl

pub returns-then-offset-size-clause-reads : goal.returns-then-offset-size-clause-reads
returns-then-offset-size-clause-reads g c = kept_all_same (g.S.Storage.state c.args.self.now.tables.file.image ∷ [])

pub returns-then-offset-size-clause-entry : goal.returns-then-offset-size-clause-entry
returns-then-offset-size-clause-entry g c =
    λ _ inside _. absurd (not-inside inside (subst (λ (n : ℕ). n ≤ c.args.offset) c.size-size.ensures c.if-offset-size.true))

pub returns-then-offset-size-clause-leaks : goal.returns-then-offset-size-clause-leaks
returns-then-offset-size-clause-leaks g c = λ _. refl

pub returns-then-max_length-eq0-clause-run : goal.returns-then-max_length-eq0-clause-run
returns-then-max_length-eq0-clause-run g c =
    empty-run _ _ _ (subst (λ (n : ℕ). c.args.offset < n) c.size-size.ensures c.if-offset-size.false) c.if-max_length-eq0.true

pub returns-then-max_length-eq0-clause-looks : goal.returns-then-max_length-eq0-clause-looks
returns-then-max_length-eq0-clause-looks g c = λ _. record {
  names = (λ i low. absurd (none-below low), λ e. absurd cc);
  reach = tt;
  writable_location = λ free some storage place is. absurd (not-some some c.if-max_length-eq0.true);
}

pub returns-then-max_length-eq0-clause-room : goal.returns-then-max_length-eq0-clause-room
returns-then-max_length-eq0-clause-room g c = λ _. tt

pub returns-then-max_length-eq0-clause-explicit_zero : goal.returns-then-max_length-eq0-clause-explicit_zero
returns-then-max_length-eq0-clause-explicit_zero g c = λ _ i low. absurd (none-below low)

pub returns-then-max_length-eq0-clause-storage_exists : goal.returns-then-max_length-eq0-clause-storage_exists
returns-then-max_length-eq0-clause-storage_exists g c = tt

pub returns-then-max_length-eq0-clause-early_outcome : goal.returns-then-max_length-eq0-clause-early_outcome
returns-then-max_length-eq0-clause-early_outcome g c =
    idle-early_outcome _ _ _ _ c.args.self.now (runs-barrier (layer_of g.S.Storage c.args.self.now) c.if-self.false refl)

pub returns-then-max_length-eq0-clause-lookup_call : goal.returns-then-max_length-eq0-clause-lookup_call
returns-then-max_length-eq0-clause-lookup_call g c = looked_same _ ⊤ c.args.self.now

pub returns-then-max_length-eq0-clause-stays_begun : goal.returns-then-max_length-eq0-clause-stays_begun
returns-then-max_length-eq0-clause-stays_begun g c = λ e call begun. begun

pub returns-then-max_length-eq0-clause-failed : goal.returns-then-max_length-eq0-clause-failed
returns-then-max_length-eq0-clause-failed g c = tt

pub returns-then-max_length-eq0-clause-marks_failed : goal.returns-then-max_length-eq0-clause-marks_failed
returns-then-max_length-eq0-clause-marks_failed g c = tt

pub returns-then-max_length-eq0-clause-cause : goal.returns-then-max_length-eq0-clause-cause
returns-then-max_length-eq0-clause-cause g c = λ _. tt

pub returns-then-max_length-eq0-clause-marked : goal.returns-then-max_length-eq0-clause-marked
returns-then-max_length-eq0-clause-marked g c = refl

pub returns-then-max_length-eq0-clause-reads : goal.returns-then-max_length-eq0-clause-reads
returns-then-max_length-eq0-clause-reads g c = kept_all_same (g.S.Storage.state c.args.self.now.tables.file.image ∷ [])

pub returns-then-max_length-eq0-clause-entry : goal.returns-then-max_length-eq0-clause-entry
returns-then-max_length-eq0-clause-entry g c = λ some _ _. absurd (not-some some c.if-max_length-eq0.true)

pub returns-then-max_length-eq0-clause-leaks : goal.returns-then-max_length-eq0-clause-leaks
returns-then-max_length-eq0-clause-leaks g c = λ _. refl

pub returns-clause-run : goal.returns-clause-run
returns-clause-run g c = c.run_from.ensures.run

pub returns-clause-storage_exists : goal.returns-clause-storage_exists
returns-clause-storage_exists g c = c.run_from.ensures.storage_exists

pub returns-clause-lookup_call : goal.returns-clause-lookup_call
returns-clause-lookup_call g c = c.run_from.ensures.lookup_call

pub returns-clause-failed : goal.returns-clause-failed
returns-clause-failed g c = c.run_from.ensures.failed

pub returns-clause-marks_failed : goal.returns-clause-marks_failed
returns-clause-marks_failed g c = c.run_from.ensures.marks_failed

pub returns-clause-marked : goal.returns-clause-marked
returns-clause-marked g c = c.run_from.ensures.marked

pub returns-clause-reads : goal.returns-clause-reads
returns-clause-reads g c = let t = c.run_from.ensures.keeps.tables in ((t.unchanged_but_faults, t.counts_not_fallen.faults), tt)

pub returns-clause-early_outcome : goal.returns-clause-early_outcome
returns-clause-early_outcome g c =
    busy-early_outcome _ _ _ _ c.args.self.now _
    (runs-barrier (layer_of g.S.Storage c.args.self.now) c.if-self.false refl) c.if-max_length-eq0.false

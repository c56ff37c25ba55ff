-- Lemmas on clearing the entries of an L2 table: what the call leaves of the tables of an image.
use Rattle.std.proofs.Common.{◌≡◌, ℕ, refl, arith, ap, sym, subst, ◌∙◌, inl, inr, Bool, Some, None, Result, Ok, Err}
use Rattle.std.proofs.Math.Nat.{le_refl}
use Rattle.std.specs.Prelude.{IfErr}
use Rattle.imago_storage.specs.declared.fault.Fault.{Fault}
use Rattle.imago_storage.specs.declared.fault.Fault.TheVariants.{DamagedTable, Memory}
use Rattle.imago_storage.specs.declared.storage.Storage.{Ghosts}
use Rattle.qcow2_alloc.specs.declared.cache.MetadataCaches.{MetadataCaches}
use Rattle.qcow2_alloc.specs.Causes.{HasCause}
use Rattle.qcow2_alloc.specs.Going.{writing_causes}
use Rattle.qcow2_alloc.proofs.Causes.{cause-weaker}
use Rattle.qcow2_alloc.proofs.Flushing.FlushRefusals.{writing-implies}
use Rattle.qcow2_clusters.specs.Clearing.{AreUnder, clearing_setting}
use Rattle.qcow2_clusters.specs.Flushed.{clusters_state}
use Rattle.qcow2_clusters.specs.Setting.{SetsRun, StaysCached}
use Rattle.qcow2_clusters.specs.WritingBack.{without_tables}
use Rattle.qcow2_clusters.specs.declared.clearing.Clearing.{Clearing}
use Rattle.qcow2_clusters.specs.declared.space.Space.{Space}
use Rattle.qcow2_image.specs.Allocating.{Begins, failed_by_resource_error}
use Rattle.qcow2_image.specs.Clearing.{BeginsTables, ClearsClusters, ClearsTables, ClearsWith}
use Rattle.qcow2_image.specs.Rooms.{rest_of}
use Rattle.qcow2_image.specs.Steps.{KeepsTables}
use Rattle.qcow2_image.specs.declared.qcow2.Qcow2.{Qcow2}
use Rattle.qcow2_image.specs.declared.tables.Tables.{Tables}
use Rattle.qcow2_image.proofs.CallStarts.{unbegun-cut}
use Rattle.qcow2_image.proofs.Steps.{tables-same}

some-same : (a b : Space) → Some a ≡ Some b → b ≡ a
some-same a b is = cc (sym is)

-- Nothing was done: the free space isn't loaded, or memory ran out.
module _ {S : Type 0} (g : Ghosts S) (how : Clearing) (table guest n : ℕ) (old : Tables S g) where
  idle-clears : (fault : Fault) → HasCause (writing_causes ⊥ (g.state old.file.image).faults (g.state old.file.image).faults) fault
      → ((space : Space) → old.space ≡ Some space → fault ≡ Memory) → ClearsTables g how table guest n old (Err fault) old
  idle-clears fault why memory = record {
    shape = refl;
    counts_not_fallen = record { faults = le_refl (g.state old.file.image).faults; refusals = le_refl (g.state old.file.image).refusals };
    faults = λ whole. (refl, refl);
    header = refl;
    no_shorter = le_refl _;
    l1 = refl;
    known = λ space is. inl (ap Err (memory space is), refl);
    cause = why;
  }

  pub unloaded-clears : old.space ≡ None → ClearsTables g how table guest n old (Err DamagedTable) old
  unloaded-clears none = idle-clears DamagedTable (λ wrong. wrong) (λ space is. absurd (let bad : None ≡ Some space = sym none ∙ is in cc bad))

  pub unreserved-clears : (new : Tables S g) → new ≡ old → ClearsTables g how table guest n old (Err Memory) new
  unreserved-clears new same = subst (ClearsTables g how table guest n old (Err Memory)) (sym same) (idle-clears Memory tt (λ space is. refl))

-- The entries were cleared, or a part of them.
module _ {S : Type 0} (g : Ghosts S) (how : Clearing) (table guest n : ℕ) (old new : Tables S g) (result : Result Unit Fault)
    (space space' after : Space) (same : space' ≡ space) (caches : MetadataCaches S) (there : old.space ≡ Some space)
    (clears : let m = rest_of g old space' in SetsRun g.state guest n (AreUnder n m table guest) (clearing_setting how m guest n)
    (clusters_state old.file caches space') result (clusters_state new.file (without_tables new.caches) after))
    (leaves : let m = rest_of g old space' in StaysCached g.state table (AreUnder n m table guest)
    (clusters_state old.file caches space') result (clusters_state new.file new.caches after))
    (l1 : new.l1 ≡ old.l1) (there' : new.space ≡ Some after) where
  if-err : (r : Result Unit Fault) (P Q : Fault → Type 0) → ((fault : Fault) → P fault → Q fault) → IfErr r P → IfErr r Q
  if-err (Ok done) P Q each is = tt
  if-err (Err fault) P Q each is = each fault is

  with-space : ClearsWith g how table guest n old space' result new
  with-space = record { caches = caches; after = after; clears = clears; leaves_table = leaves; space_known = there' }

  pub clears-by : ClearsTables g how table guest n old result new
  clears-by = record {
    shape = clears.rests.shape;
    counts_not_fallen = clears.rests.counts_not_fallen;
    faults = clears.rests.faults;
    header = clears.header;
    no_shorter = clears.no_shorter;
    l1 = l1;
    known = λ known is. inr (subst (λ x. ClearsWith g how table guest n old x result new) (same ∙ some-same known space (sym is ∙ there)) with-space);
    cause = if-err result _ _ (λ fault. cause-weaker (writing-implies _ (omega arith) (omega arith) (λ far none. none)) fault) clears.cause;
  }

-- A call that hasn't begun leaves the image unchanged.
module _ {S : Type 0} (g : Ghosts S) (was now : Bool) (old : Qcow2 S g) (mid : Tables S g) (result : Result Unit Fault)
    (begins : BeginsTables was old.tables now mid) where
  abbrev after-clears : Qcow2 S g
  after-clears = record old { tables = mid; failed = failed_by_resource_error result now old.failed }

  pub clears-begins : Begins g was old result now after-clears
  clears-begins = record {
    left_untouched = λ not. let unbegun = begins not in (
      unbegun.0,
      record {
        tables = subst (KeepsTables g old.tables result) (sym unbegun.1) (tables-same g old result);
        mode = refl;
        number = refl;
        unspent = refl;
        failed = ap (λ b. failed_by_resource_error result b old.failed) not ∙ unbegun-cut result old.failed;
      },
    );
    marked = λ is. ap (λ b. failed_by_resource_error result b old.failed) is;
  }

-- The call as an image sees it.
pub clears-clusters : {S : Type 0} (g : Ghosts S) (how : Clearing) (table guest n : ℕ) (now : Bool) (old : Qcow2 S g) (mid : Tables S g)
    (result : Result Unit Fault) → ClearsTables g how table guest n old.tables result mid
    → ClearsClusters g how table guest n old result (record old { tables = mid; failed = failed_by_resource_error result now old.failed })
clears-clusters g how table guest n now old mid result clears = record { clears = clears; begun = now; others = refl }

-- Lemmas on `clear_part`: guest clusters get an L2 table of their own, and are cleared.
use Rattle.std.proofs.Common.{◌≡◌, ℕ, refl, inl, inr, Bool, false, Some, Result, Ok, Err}
use Rattle.std.specs.Prelude.{⊤, IfErr, is_some, not}
use Rattle.imago_storage.specs.declared.fault.Fault.{Fault}
use Rattle.imago_storage.specs.declared.storage.Storage.{Ghosts}
use Rattle.imago_access.specs.Files.{IsNotResourceError}
use Rattle.qcow2_alloc.proofs.Causes.{cause-weaker}
use Rattle.qcow2_clusters.specs.declared.clearing.Clearing.{Clearing}
use Rattle.qcow2_image.specs.Allocating.{Begins, EnsuresTable, LoadsSpace}
use Rattle.qcow2_image.specs.Clearing.{ClearsClusters, ClearsPart, ReadiesTable}
use Rattle.qcow2_image.specs.FreeSpace.{LacksPlaceForTable, enough_for_table}
use Rattle.qcow2_image.specs.Preparing.{LacksPlaceBeside, LeavesMarkedFailed}
use Rattle.qcow2_image.specs.declared.qcow2.Qcow2.{Qcow2}
use Rattle.qcow2_image.specs.declared.tables.Tables.{Tables}
use Rattle.qcow2_image.proofs.CallStarts.{begins-loaded, begins-marked, begins-then, quiet-marked}
use Rattle.qcow2_image.proofs.DiskEffects.{keeps-disk-both}
use Rattle.qcow2_image.proofs.Leaks.{leaks-both}
use Rattle.qcow2_image.proofs.Preparations.Reservations.{allocation-reserves, lacks-loaded, lacks-table, why-loaded}

module _ {S : Type 0} (g : Ghosts S) (how : Clearing) (guest n : ℕ) where
  -- Only the L2 table of a guest cluster with a preallocated cluster can be missing.
  lacks-beside : (old new : Tables S g) (number : ℕ) → LacksPlaceBeside g guest (Some 0) old new number → LacksPlaceForTable g guest old new number
  lacks-beside old new number (asked, inl what, why) = (asked, what, why)
  lacks-beside old new number (asked, inr taken, why) = absurd (cc taken.0)

  unloaded-readies : (old new : Qcow2 S g) (e : Fault) → LoadsSpace g old (Err e) new → ReadiesTable g guest old (Err e) new
  unloaded-readies old new e l = record {
    keeps = l.keeps;
    leaks = λ well_formed whole. l.leaks;
    known = tt;
    table_linked = λ well_formed. tt;
    own = λ well_formed. tt;
    cause = why-loaded g (LacksPlaceForTable g guest old.tables new.tables) old new e l.cause l.known_cause;
  }

  tableless-readies : (old mid new : Qcow2 S g) (e : Fault) → LoadsSpace g old (Ok tt) mid
      → EnsuresTable g (enough_for_table mid.tables guest) guest mid (Err e) new → ReadiesTable g guest old (Err e) new
  tableless-readies old mid new e l t = record {
    keeps = keeps-disk-both g ⊤ (IsNotResourceError e) old mid new tt l.keeps t.keeps;
    leaks = λ well_formed whole. leaks-both g old mid new l.leaks (t.leaks (l.keeps.safely well_formed tt) whole);
    known = tt;
    table_linked = λ well_formed. tt;
    own = λ well_formed. tt;
    cause = cause-weaker (allocation-reserves g old mid new l.keeps l.known (λ number well_formed none.
        let safe' = l.keeps.safely well_formed tt in
        lacks-beside old.tables new.tables number (lacks-loaded g guest (Some 0) number old mid new l well_formed safe'
        (lacks-table g guest (Some 0) number mid new safe' none)))) e
        t.cause;
  }

  table-readies : (table : ℕ) (old mid new : Qcow2 S g) → LoadsSpace g old (Ok tt) mid
      → EnsuresTable g (enough_for_table mid.tables guest) guest mid (Ok table) new → ReadiesTable g guest old (Ok table) new
  table-readies table old mid new l t = record {
    keeps = keeps-disk-both g ⊤ ⊤ old mid new tt l.keeps t.keeps;
    leaks = λ well_formed whole. leaks-both g old mid new l.leaks (t.leaks (l.keeps.safely well_formed tt) tt);
    known = t.known l.known;
    table_linked = λ well_formed. t.table_linked (l.keeps.safely well_formed tt) l.known;
    own = λ well_formed. t.own (l.keeps.safely well_formed tt) l.known;
    cause = tt;
  }

  -- The free space isn't loaded.
  pub part-unloaded : (old new : Qcow2 S g) (e : Fault) → LoadsSpace g old (Err e) new → ClearsPart g how guest n old (Err e) new
  part-unloaded old new e l = inr (inl (record {
    fault = e;
    err = refl;
    readies = unloaded-readies old new e l;
    marked = quiet-marked g {T = Unit} old new e l.same;
  }))

  -- No L2 table is made.
  pub part-tableless : (old mid new : Qcow2 S g) (e : Fault) → LoadsSpace g old (Ok tt) mid
      → EnsuresTable g (enough_for_table mid.tables guest) guest mid (Err e) new → (begun now : Bool) → is_some old.tables.space ≡ not begun
      → Begins {T = ℕ} g begun mid (Err e) now new → ClearsPart g how guest n old (Err e) new
  part-tableless old mid new e l t begun now is begins = inr (inl (record {
    fault = e;
    err = refl;
    readies = tableless-readies old mid new e l t;
    marked = begins-marked g {T = ℕ} now old new e (begins-then g {T = Unit} {U = ℕ} false begun now old mid new (Ok tt) (Err e) tt
        (begins-loaded g old mid begun is l) begins);
  }))

  -- The entries are cleared.
  pub part-cleared : (table : ℕ) (old first mid new : Qcow2 S g) (result : Result Unit Fault) → LoadsSpace g old (Ok tt) first
      → EnsuresTable g (enough_for_table first.tables guest) guest first (Ok table) mid → ClearsClusters g how table guest n mid result new
      → (begun between now : Bool) → is_some old.tables.space ≡ not begun → Begins {T = ℕ} g begun first (Ok table) between mid
      → Begins {T = Unit} g between mid result now new → ClearsPart g how guest n old result new
  part-cleared table old first mid new result l t clears begun between now is first-begins begins = inr (inr (record {
    table = table;
    middle = mid;
    readies = table-readies table old first mid l t;
    clears = clears;
    marked = marks result begins;
  })) where
    marks : (r : Result Unit Fault) → Begins {T = Unit} g between mid r now new → IfErr r (LeavesMarkedFailed g old new)
    marks (Ok done) b = tt
    marks (Err e) b = begins-marked g {T = Unit} now old new e
        (begins-then g {T = ℕ} {U = Unit} false between now old mid new (Ok table) (Err e) tt
        (begins-then g {T = Unit} {U = ℕ} false begun between old first mid (Ok tt) (Ok table) tt (begins-loaded g old first begun is l) first-begins)
        b)

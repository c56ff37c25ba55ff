-- A chain whose layer below the top is read-only: a commit to the layer below fails early.
use Rattle.std.proofs.Common.{◌≡◌, ◌∙◌, ◌∷◌, [], ℕ, List, ap, refl, sym}
use Rattle.std.specs.Prelude.{Bool, IsSome, None, Option, Some, ◌&&◌, ◌||◌, false, if◌then◌else◌, is_some, map, not, true}
use Rattle.imago_storage.specs.State.{StorageState}
use Rattle.imago_storage.specs.declared.fault.Fault.{Fault}
use Rattle.imago_storage.specs.declared.fault.Fault.TheVariants.{BadArgument, Failed, ReadOnly}
use Rattle.imago_access.specs.Committing.{next_refusal, some_failed}
use Rattle.imago_access.specs.Layer.{Fixed, Layer}
use Rattle.imago_access.specs.Layers.{chain}
use Rattle.imago_access.specs.declared.driver_model.DriverModel.{Ghosts}
use Rattle.qimg_calls.specs.Calls.{commits_down}
use Rattle.qimg_calls.specs.CommittingDown.{commit_call_refusal, next_is_prepared, takes_commits}
use Rattle.qimg_calls.specs.Held.{ChainWithMapping}
use Rattle.qimg_calls.specs.Moves.{refusal_at_once}
use Rattle.qimg_calls.specs.Runs.{MayCommit}
use Rattle.qimg_calls.specs.declared.call.Call.{Call}
use Rattle.qimg_calls.specs.declared.call.Call.TheVariants as calls
use Rattle.qimg_core.specs.declared.plain.ChainFile.{ChainFile}
use Rattle.qimg_chain.specs.Chains.{AreLayers, OpenMode, mode, mode_of_next}

some-if : (b : Bool) (fault : Fault) (o : Option Fault) → is_some o ≡ true → is_some (if b then Some fault else o) ≡ true
some-if true fault o some = refl
some-if false fault o some = some

one-closed : (a b : Bool) (o : Option Fault) → (a && b) ≡ false → is_some (if not a || not b then Some ReadOnly else o) ≡ true
one-closed true true o closed = absurd (cc closed)
one-closed true false o closed = refl
one-closed false b o closed = refl

next-closed : (top : Layer) (below : List Layer) → takes_commits (top ∷ below) ≡ false → is_some (next_refusal top below) ≡ true
next-closed top [] closed = refl
next-closed top (next ∷ rest) closed = one-closed top.fixed.writable next.fixed.writable _ closed

-- A commit fails early.
refused-early : (top : Layer) (below : List Layer) → takes_commits (top ∷ below) ≡ false → is_some (commit_call_refusal top below) ≡ true
refused-early top below closed =
    some-if top.failed Failed _ (some-if (next_is_prepared below) BadArgument _ (some-if (some_failed (top ∷ below)) Failed _ (next-closed top below closed)))

-- A top with the same fixed properties takes commits exactly if it did.
pub same-takes : (old top : Layer) (below : List Layer) → top.fixed ≡ old.fixed → takes_commits (top ∷ below) ≡ takes_commits (old ∷ below)
same-takes old top [] same = refl
same-takes old top (next ∷ rest) same = ap (λ (x : Fixed). x.writable && next.fixed.writable) same

second-closed : (a b : Bool) → b ≡ false → (a && b) ≡ false
second-closed true b closed = closed
second-closed false b closed = refl

pub call-early : {D St : Type 0} (g : Ghosts D St) (call : Call) (old : ChainWithMapping D St)
    → takes_commits (map g.layer (chain old.drivers)) ≡ false → commits_down call ≡ true → is_some (refusal_at_once g call old) ≡ true
call-early g calls.CommitDown old closed is = refused-early (g.layer old.drivers.0) (map g.layer old.drivers.1) closed
call-early g call old closed is = absurd (cc is)

module _ {S D St : Type 0} (g : Ghosts D St) (state : S → StorageState) where
  -- Files were opened as a chain: only its top may be writable.
  pub opened-closed : (writable : Bool) (number : ℕ) (files : List (ChainFile S)) (c : D × List D)
      → AreLayers g state (mode writable number) files (chain c) → takes_commits (map g.layer (chain c)) ≡ false
  opened-closed writable number [] (d, ds) are = absurd are
  opened-closed writable number (file ∷ []) (d, []) are = refl
  opened-closed writable number (file ∷ []) (d, next ∷ rest) are = absurd are.1
  opened-closed writable number (file ∷ (other ∷ files)) (d, []) are = absurd are.1
  opened-closed writable number (file ∷ (other ∷ files)) (d, next ∷ rest) are =
      second-closed (g.layer d).fixed.writable (g.layer next).fixed.writable are.1.0.opened.writable_is

  -- So a list with a commit has no further condition.
  pub may-anyway : (list : List Call) (c : D × List D) → takes_commits (map g.layer (chain c)) ≡ false → MayCommit g list c
  may-anyway list c closed asks takes = absurd (cc (sym takes ∙ closed))

  -- If an opened chain takes commits, its next layer was opened for writing.
  some-next : (next : Option ℕ) (files : List (ChainFile S)) (d : D) (ds : List D) → AreLayers g state (mode_of_next next) files ds
      → takes_commits (map g.layer (d ∷ ds)) ≡ true → IsSome next
  some-next (Some number) files d ds are takes = refl
  some-next None [] d [] are takes = absurd (cc takes)
  some-next None [] d (next ∷ ds) are takes = absurd are
  some-next None (file ∷ files) d [] are takes = absurd are
  some-next None (file ∷ files) d (next ∷ ds) are takes =
      absurd (cc (sym takes ∙ second-closed (g.layer d).fixed.writable (g.layer next).fixed.writable are.0.opened.writable_is))

  pub opened-for-commits : (m : OpenMode) (files : List (ChainFile S)) (d : D) (ds : List D) → AreLayers g state m files (d ∷ ds)
      → takes_commits (map g.layer (d ∷ ds)) ≡ true → IsSome m.next
  opened-for-commits m [] d ds are takes = absurd are
  opened-for-commits m (file ∷ files) d ds are takes = some-next m.next files d ds are.1 takes

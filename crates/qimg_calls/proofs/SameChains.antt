-- Consecutive calls without a resource error keep a chain the same.
use Rattle.std.proofs.Common.{◌∙◌, refl, true, false}
use Rattle.std.specs.Prelude.{Bool, IsFalse, List, ◌||◌, drop}
use Rattle.imago_access.specs.declared.driver_model.DriverModel.{Ghosts}
use Rattle.imago_access.specs.Files.{files_of}
use Rattle.imago_access.proofs.FilePairs.{kept_all_same, kept_all_both}
use Rattle.qimg_calls.specs.Leading.{LeavesExcess}
use Rattle.qimg_calls.specs.Runs.{IsSameChain}

-- Neither part has a commit, if the whole has none.
pub first-none : (one other : Bool) → IsFalse (one || other) → IsFalse one
first-none true other none = none
first-none false other none = refl

pub second-none : (one other : Bool) → IsFalse (one || other) → IsFalse other
second-none true other none = absurd (cc none)
second-none false other none = none

module _ {D St : Type 0} (g : Ghosts D St) where
  pub same-chain : (c : D × List D) → IsSameChain g false false c c
  same-chain c = record {
    fixed = refl;
    files = λ none. kept_all_same (files_of g c.1);
    below = λ none. refl;
    deeper_files = kept_all_same (files_of g (drop 1 c.1));
    deeper_layers = refl;
    excess_refcount = λ n. refl;
  }

  -- Once repaired, no cluster leaks after calls that keep the excess refcounts.
  excess-both : (one other : Bool) (a b c : D) → LeavesExcess g one a b → LeavesExcess g other b c → LeavesExcess g (one || other) a c
  excess-both true true a b c first second = second
  excess-both true false a b c first second = λ n. second n ∙ first n
  excess-both false true a b c first second = second
  excess-both false false a b c first second = λ n. second n ∙ first n

  -- The calls of the second part come after those of the first. Each part may repair leaks, and commit to the layer below.
  module _ (repairs commits repairs' commits' : Bool) (a b c : D × List D) where
    pub same-chain-both : IsSameChain g repairs commits a b → IsSameChain g repairs' commits' b c → IsSameChain g (repairs || repairs') (commits || commits') a c
    same-chain-both first second = record {
      fixed = second.fixed ∙ first.fixed;
      files = λ none. kept_all_both (files_of g a.1) (files_of g b.1) (files_of g c.1) (first.files (first-none commits commits' none)) (second.files (second-none commits commits' none));
      below = λ none. second.below (second-none commits commits' none) ∙ first.below (first-none commits commits' none);
      deeper_files = kept_all_both (files_of g (drop 1 a.1)) (files_of g (drop 1 b.1)) (files_of g (drop 1 c.1)) first.deeper_files second.deeper_files;
      deeper_layers = second.deeper_layers ∙ first.deeper_layers;
      excess_refcount = excess-both repairs repairs' a.0 b.0 c.0 first.excess_refcount second.excess_refcount;
    }

  -- The calls after `b` repair no leaks and don't commit to the layer below.
  pub same-chain-then : (repaired committed : Bool) (a b c : D × List D) → IsSameChain g repaired committed a b → IsSameChain g false false b c → IsSameChain g repaired committed a c
  same-chain-then true true a b c first second = same-chain-both true true false false a b c first second
  same-chain-then true false a b c first second = same-chain-both true false false false a b c first second
  same-chain-then false true a b c first second = same-chain-both false true false false a b c first second
  same-chain-then false false a b c first second = same-chain-both false false false false a b c first second

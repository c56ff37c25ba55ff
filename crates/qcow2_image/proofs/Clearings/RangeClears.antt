-- Lemmas on `clear`: the part of a range that is cleared, or the early error.
use Rattle.std.proofs.Common.{◌≡◌, ℕ, ◌+◌, ◌/◌, ◌^◌, ◌<◌, ◌≤◌, length, refl, ap, sym, inl, inr, Some, None, Result, Ok, Err, false}
use Rattle.std.specs.Prelude.{IsTrue}
use Rattle.imago_storage.specs.declared.fault.Fault.{Fault}
use Rattle.imago_storage.specs.declared.fault.Fault.TheVariants.{VersionLimit}
use Rattle.imago_storage.specs.declared.storage.Storage.{Ghosts}
use Rattle.imago_access.specs.Refusals.{own_refusal, unusable_fault}
use Rattle.qcow2_clusters.specs.Clearing.{IsPossible}
use Rattle.qcow2_types.specs.Header.{entries_of_cluster}
use Rattle.qcow2_clusters.specs.declared.clearing.Clearing.{Clearing}
use Rattle.qcow2_clusters.specs.declared.clearing.Clearing.TheVariants.{Unmap}
use Rattle.qcow2_image.specs.Clearing.{ClearsPart, ClearsRange, IsWholePart, MayClear, part_answer}
use Rattle.qcow2_image.specs.Seen.{layer_of}
use Rattle.qcow2_image.specs.declared.clearing.Part.{Part}
use Rattle.qcow2_image.specs.declared.qcow2.Qcow2.{Qcow2}

module _ {S : Type 0} (g : Ghosts S) (how : Clearing) (offset n : ℕ) (old : Qcow2 S g) where
  pub may-clear : own_refusal (layer_of g old) offset n ≡ None → IsTrue old.mode.writable → offset + n ≤ old.tables.file.header.fields.size
      → offset + n < 2 ^ 64 → old.failed ≡ false → 0 < n → MayClear g offset n old
  may-clear unrefused writable inside fits runs any =
      record { unrefused = unrefused; writable = writable; inside = inside; fits = fits; runs = runs; any = any }

  pub range-refused : (fault : Fault) → own_refusal (layer_of g old) offset n ≡ Some fault → ClearsRange g how offset n old (Err fault) old
  range-refused fault is = inl (record { same = refl; why = inl (fault, is, refl) })

  pub range-empty : n ≡ 0 → unusable_fault (layer_of g old) ≡ None → ClearsRange g how offset n old (Ok (offset, 0)) old
  range-empty none usable = inl (record { same = refl; why = inr (none, usable, refl) })

  pub range-impossible : MayClear g offset n old → (IsPossible how old.tables.file.header.fields.version → ⊥)
      → ClearsRange g how offset n old (Err VersionLimit) old
  range-impossible may version = inr (inl (record { may = may; version = version; err = refl; same = refl }))

  -- The version allows it, and this is the part.
  module _ (may : MayClear g offset n old) (version : IsPossible how old.tables.file.header.fields.version) (part : Part)
      (is-part : IsWholePart old.tables.file.header.fields offset n part) where
    pub range-skipped : how ≡ Unmap → 0 < part.count → length old.tables.l1.raw_entries ≤ part.guest / entries_of_cluster old.tables.file.header.fields
        → ClearsRange g how offset n old (Ok (part.start, part.rest)) old
    range-skipped unmaps some past = inr (inr (inl (record {
      may = may;
      unmaps = unmaps;
      part = part;
      is_part = is-part;
      some = some;
      past_l1 = past;
      ok = refl;
      same = refl;
    })))

    pub range-unmet : part.count ≡ 0 → ClearsRange g how offset n old (Ok (part.start, 0)) old
    range-unmet none = inr (inr (inr (record {
      may = may;
      version = version;
      part = part;
      is_part = is-part;
      answer = Ok tt;
      done = inl (none, refl, refl);
      is_answer = ap (λ (l : ℕ). Ok (part.start, l)) (sym (is-part.empty none));
    })))

    pub range-cleared : (answer : Result Unit Fault) (new : Qcow2 S g) → 0 < part.count → ClearsPart g how part.guest part.count old answer new
        → ClearsRange g how offset n old (part_answer part answer) new
    range-cleared answer new some clears = inr (inr (inr (record {
      may = may;
      version = version;
      part = part;
      is_part = is-part;
      answer = answer;
      done = inr (some, clears);
      is_answer = refl;
    })))

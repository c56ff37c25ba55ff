-- From the tallies to the verdict on the file.
use Rattle.std.proofs.Common.{◌≡◌, ℕ, ◌+◌, arith, ap, sym, subst, ◌∙◌, List, Ok}
use Rattle.std.specs.Prelude.{Bool, true, false, ◌&&◌, not, ◌==◌, nat_lt, IsTrue}
use Rattle.imago_storage.specs.State.{StorageState, HasRisen}
use Rattle.imago_storage.specs.Calls.{UnchangedButFaults}
use Rattle.qcow2_types.specs.Bytes.{Bytes}
use Rattle.qcow2_types.specs.Header.{Fields, Header, header_of, has_external_data}
use Rattle.qcow2_types.specs.References.{structure, contents, of_mapping, of_copied, meets, refs}
use Rattle.qcow2_types.specs.Consistency.{tables_sound, shares_structure, is_false_copied, is_under_counted, Nowhere, IsLeast, IsVerdict, leaks}
use Rattle.qimg_core.specs.declared.check.CheckFault.{CheckFault}
use Rattle.qimg_core.specs.declared.check.CheckFault.TheVariants as fault
use Rattle.qimg_core.specs.declared.check.names.Tallies.{Tallies}
use Rattle.qcow2_metadata.specs.Loading.{file}
use Rattle.qimg_core.specs.declared.check.search.Question.TheVariants.{Shared, FalselyCopied, AtAll}
use Rattle.qimg_core.specs.Names.{referenced_by, structure_part, mapped_part, times_at}
use Rattle.qimg_core.specs.Searches.{is_such}
use Rattle.qimg_core.specs.CheckParts.{Tells}
use Rattle.qimg_core.specs.Check.{IsUnsound, SharesFirst, IsUnder, Found, IsFinding}
use Rattle.qimg_core.proofs.Calls.{kept-both, kept-file}

-- The tests on the tallies are the tests on the file.
module _ (f : Bytes) (h : Fields) (names : Tallies) (told : Tells f h names) where
  pub named-refs : (c : ℕ) → (times_at names c).structure + (times_at names c).mapped ≡ refs f h c
  unfolding refs
  named-refs c =
      let a : referenced_by structure_part c names ≡ structure f h (meets h c) = told.structure c in
      let b : referenced_by mapped_part c names ≡ contents f h (of_mapping h (meets h c)) = told.mapped c in
      omega arith

  pub shared-same : (c : ℕ) → is_such Shared names c ≡ shares_structure f h c
  unfolding is_such shares_structure
  shared-same c = ap (λ n. nat_lt 0 n && not ((times_at names c).structure + (times_at names c).mapped == 1)) (told.structure c) ∙ ap (λ n. nat_lt 0 (structure f h (meets h c)) && not (n == 1)) (named-refs c)

  pub false-same : (c : ℕ) → is_such FalselyCopied names c ≡ is_false_copied f h c
  unfolding is_such is_false_copied
  false-same c = ap (λ n. nat_lt 0 n && not ((times_at names c).structure + (times_at names c).mapped == 1)) (told.copied c) ∙ ap (λ n. nat_lt 0 (contents f h (of_copied h (meets h c))) && not (n == 1)) (named-refs c)

  pub named-same : (c : ℕ) → is_such AtAll names c ≡ nat_lt 0 (refs f h c)
  unfolding is_such
  named-same c = ap (nat_lt 0) (named-refs c)

nowhere-same : (p q : ℕ → Bool) → ((c : ℕ) → p c ≡ q c) → Nowhere p → Nowhere q
nowhere-same p q same none c = sym (same c) ∙ none c

least-same : (p q : ℕ → Bool) → ((c : ℕ) → p c ≡ q c) → (c : ℕ) → IsLeast p c → IsLeast q c
least-same p q same c least = (sym (same c) ∙ least.0, λ d lt. sym (same d) ∙ least.1 d lt)

rose-since : (old now new : StorageState) → now.faults ≡ old.faults → HasRisen now.faults new.faults → HasRisen old.faults new.faults
rose-since old now new same rose = subst (λ n. HasRisen n new.faults) same rose

-- The header loads, and the image has no snapshots and no external data file.
pub record CanCheck (f : Bytes) (H : Header) : Type 0 where
  pub loads : header_of true f ≡ Ok H
  pub no_snapshots : H.fields.snapshots ≡ 0
  pub data_inside : has_external_data H.fields ≡ false

module _ (old : StorageState) (H : Header) (can : CanCheck (file old) H) where
  -- A table is damaged.
  pub table-verdict : (now new : StorageState) → UnchangedButFaults old now → now.faults ≡ old.faults → (fault : CheckFault) → Found now new (IsUnsound (file now) H.fields) fault → Found old new (IsFinding (file old)) fault
  table-verdict now new kept same fault.Table found = ((H, can.loads, (can.no_snapshots, can.data_inside, ap (λ f. tables_sound f H.fields) (sym (kept-file old now kept)) ∙ found.0)), found.1 ∙ same)
  table-verdict now new kept same fault.Memory found = found ∙ same
  table-verdict now new kept same fault.Storage found = rose-since old now new same found
  table-verdict now new kept same fault found = absurd found.0

  module _ (names : Tallies) (sound : IsTrue (tables_sound (file old) H.fields)) (told : Tells (file old) H.fields names) where
    -- A cluster is referenced more than once.
    pub shared-verdict : (now : StorageState) → now.faults ≡ old.faults → (fault : CheckFault) → SharesFirst names fault → Found old now (IsFinding (file old)) fault
    shared-verdict now same (fault.SharedTable c) found = ((H, can.loads, (can.no_snapshots, can.data_inside, sound, least-same (is_such Shared names) (shares_structure (file old) H.fields) (shared-same (file old) H.fields names told) c found)), same)
    shared-verdict now same (fault.FalseCopied c) found =
        ((H, can.loads, (can.no_snapshots, can.data_inside, sound, nowhere-same (is_such Shared names) (shares_structure (file old) H.fields) (shared-same (file old) H.fields names told) found.0, least-same (is_such FalselyCopied names) (is_false_copied (file old) H.fields) (false-same (file old) H.fields names told) c found.1)), same)
    shared-verdict now same fault found = absurd found

    module _ (apart : Nowhere (is_such Shared names)) (true_copies : Nowhere (is_such FalselyCopied names)) where
      -- The refcount of a cluster is too low.
      pub under-verdict : (now new : StorageState) → UnchangedButFaults old now → now.faults ≡ old.faults → (fault : CheckFault) → Found now new (IsUnder (file now) H.fields) fault → Found old new (IsFinding (file old)) fault
      under-verdict now new kept same (fault.UnderCounted c) found = (
        (
          H,
          can.loads,
          (
            can.no_snapshots,
            can.data_inside,
            sound,
            nowhere-same (is_such Shared names) (shares_structure (file old) H.fields) (shared-same (file old) H.fields names told) apart,
            nowhere-same (is_such FalselyCopied names) (is_false_copied (file old) H.fields) (false-same (file old) H.fields names told) true_copies,
            least-same (is_under_counted (file now) H.fields) (is_under_counted (file old) H.fields) (λ d. ap (λ f. is_under_counted f H.fields d) (kept-file old now kept)) c found.0,
          ),
        ),
        found.1 ∙ same,
      )
      under-verdict now new kept same fault.Memory found = found ∙ same
      under-verdict now new kept same fault.Storage found = rose-since old now new same found
      under-verdict now new kept same fault found = absurd found.0

      -- No finding.
      pub sound-verdict : (now : StorageState) → UnchangedButFaults old now → Nowhere (is_under_counted (file now) H.fields) → (found : List (ℕ × ℕ)) → found ≡ leaks (file old) H.fields → IsVerdict (file old) (Ok found)
      sound-verdict now kept counted found is = (
        H,
        record {
          readable = record { loads = can.loads; no_snapshots = can.no_snapshots; data_inside = can.data_inside; tables = sound };
          structure_apart = nowhere-same (is_such Shared names) (shares_structure (file old) H.fields) (shared-same (file old) H.fields names told) apart;
          copied_apart = nowhere-same (is_such FalselyCopied names) (is_false_copied (file old) H.fields) (false-same (file old) H.fields names told) true_copies;
          counted = nowhere-same (is_under_counted (file now) H.fields) (is_under_counted (file old) H.fields) (λ d. ap (λ f. is_under_counted f H.fields d) (kept-file old now kept)) counted;
        },
        is,
      )

-- The tallies are the references of the file, its tables are valid, and its bytes haven't changed.
pub record Named (old now : StorageState) (H : Header) (names : Tallies) : Type 0 where
  pub can : CanCheck (file old) H
  pub kept : UnchangedButFaults old now
  pub faults : now.faults ≡ old.faults
  pub sound : IsTrue (tables_sound (file old) H.fields)
  pub told : Tells (file old) H.fields names

-- `Named` holds after the stages that count references.
pub named-since : (old first second now : StorageState) (H : Header) (names : Tallies) → CanCheck (file old) H → UnchangedButFaults old first → first.faults ≡ old.faults → UnchangedButFaults first second → second.faults ≡ first.faults → UnchangedButFaults second now → now.faults ≡ second.faults
    → IsTrue (tables_sound (file second) H.fields) → Tells (file second) H.fields names → Named old now H names
named-since old first second now H names can kept same kept-2 same-2 kept-3 same-3 sound told =
    let before : UnchangedButFaults old second = kept-both old first second kept kept-2 in
    let same-file : file second ≡ file old = kept-file old second before in
    record {
      can = can;
      kept = kept-both old second now before kept-3;
      faults = same-3 ∙ (same-2 ∙ same);
      sound = ap (λ f. tables_sound f H.fields) (sym same-file) ∙ sound;
      told = subst (λ f. Tells f H.fields names) same-file told;
    }

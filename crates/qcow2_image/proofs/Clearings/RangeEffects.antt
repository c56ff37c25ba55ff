-- Lemmas that state a zeroing or a discard of a range by the relations of the driver.
use Rattle.std.proofs.Common.{◌≡◌, ℕ, ◌+◌, ◌*◌, ◌/◌, ◌^◌, ◌<◌, refl, arith, ap, sym, subst, ◌∙◌, inl, inr, Bool, true, false, Option, Some, None, Result, Ok, Err}
use Rattle.std.specs.Prelude.{◌⊎◌, zero, suc, IfOk, if◌then◌else◌}
use Rattle.std.specs.Borrow.{RattleType}
use Rattle.std.proofs.Math.Nat.{le_refl}
use Rattle.std.proofs.lemmas.Nat.{div-mul-add, pow_pos}
use Rattle.imago_storage.specs.Steps.{IsIn}
use Rattle.imago_storage.specs.declared.fault.Fault.{Fault}
use Rattle.imago_storage.specs.declared.fault.Fault.TheVariants.{Failed, MissingData, VersionLimit}
use Rattle.imago_storage.specs.declared.storage.Storage.{Ghosts}
use Rattle.imago_access.specs.Going.{RangeEarlyOutcome}
use Rattle.imago_access.specs.Layer.{Layer}
use Rattle.imago_access.specs.PartCalls.{DoesPart, IsPart, PartCall, PartRefused}
use Rattle.imago_access.specs.Refusals.{own_refusal, unusable_fault}
use Rattle.imago_access.specs.Room.{IsOfUnit, IsWholeUnit}
use Rattle.imago_access.specs.declared.driver_model.DriverModel.{Ghosts as SeenGhosts}
use Rattle.imago_access.proofs.Untouched.{unchanged_same}
use Rattle.qcow2_types.specs.Header.{Fields, cluster_size, entries_of_cluster}
use Rattle.qcow2_clusters.specs.Clearing.{IsPossible}
use Rattle.qcow2_image.specs.Clearing.{ClearsPart, ClearsRange, ClearsWhole, IsWholePart, MayClear, RefusesTable, SkipsPart, SkipsRest, clearing_of, part_answer}
use Rattle.qcow2_image.specs.Seen.{layer_of}
use Rattle.qcow2_image.specs.contracts.qcow2.Qcow2DriverModel.TheImpl.{ghosts}
use Rattle.qcow2_image.specs.declared.clearing.Part.{Part}
use Rattle.qcow2_image.specs.declared.qcow2.PreparedMappingState.{PreparedMappingState}
use Rattle.qcow2_image.specs.declared.qcow2.Qcow2.{Qcow2}
use Rattle.qcow2_image.proofs.CallsWithoutChanges.{busy-early_outcome, idle-early_outcome, not-some}
use Rattle.qcow2_image.proofs.Clearings.IdleParts.{early-refused, empty-reaches, idle-does, idle-refused, refused-does}
use Rattle.qcow2_image.proofs.Clearings.PartEffects.{part-does, part-refused}
use Rattle.qcow2_image.proofs.Clearings.RefusedParts.{rest-does, skips-does, tableless-does, tableless-refused, unmaps-backing, version-refused}
use Rattle.qcow2_image.proofs.Clearings.WholeParts.{begins, last-end, part-byte, part-reaches, part-unit, rest-end}
use Rattle.qcow2_image.proofs.FreeRuns.{words-some}

-- An image that can be used has no early error for an empty range.
by-flags : (failed missing : Bool) (rest : Option Fault) → (if failed then Some Failed else if missing then Some MissingData else None) ≡ None
    → rest ≡ None → (if failed then Some Failed else if missing then Some MissingData else rest) ≡ None
by-flags true missing rest usable is = absurd (cc usable)
by-flags false true rest usable is = absurd (cc usable)
by-flags false false rest usable is = is

empty-unrefused : (layer : Layer) (offset n : ℕ) → n ≡ 0 → unusable_fault layer ≡ None → own_refusal layer offset n ≡ None
empty-unrefused layer offset n none usable = by-flags layer.failed layer.fixed.missing _ usable (rw none refl)

module _ (h : Fields) (offset n : ℕ) (part : Part) (is : IsWholePart h offset n part) where
  -- A part with guest clusters begins in its first one, and in the range.
  entries-some : 0 < part.count → 0 < entries_of_cluster h
  entries-some any = let row = is.row in omega (arith, row, any)

  first-in : 0 < part.count → IsIn part.start part.length part.start
  first-in any =
      let long = (part-reaches h offset n part is (entries-some any)).nonempty (part.guest + 0) (is.whole 0 any) in
      (le_refl part.start, omega (arith, long))

  pub first-in-range : 0 < part.count → IsIn offset n part.start
  first-in-range any = (part-byte h offset n part is part.start (first-in any)).2

  -- It is in a whole cluster of the range.
  pub first-unit : 0 < part.count → IsOfUnit (cluster_size h) h.size (part.start / cluster_size h) part.start
      × IsWholeUnit (cluster_size h) h.size offset n (part.start / cluster_size h)
  first-unit any =
      let there = part-byte h offset n part is part.start (first-in any) in
      part-unit h offset n part is part.start there.1 there.0

  pub first-cluster : 0 < part.count → part.start / cluster_size h ≡ part.guest
  first-cluster any =
      let at : part.start ≡ part.guest * cluster_size h + 0 = begins h offset n part is any ∙ omega arith in
      ap (λ x. x / cluster_size h) at ∙ div-mul-add part.guest (cluster_size h) 0 (pow_pos h.cluster_bits)

  pub is-rest : 0 < n → 0 < part.count → IsPart offset n (part.start, part.rest)
  is-rest some any = record {
    inside = (
      (let low = begins h offset n part is any in let from = is.from in omega (arith, low, from)),
      inr (rest-end h offset n part is any),
    );
    empty = λ none. absurd (not-some some none);
  }

  pub is-part : offset < 2 ^ 64 → 0 < n → IsPart offset n (part.start, part.length)
  is-part low some = record {
    inside = (
      (let at = is.start in let from = is.from in omega (arith, at, from, low)),
      elim (by-count part.count refl) [ inl none ↦ inl (is.empty none) | inr any ↦ inr (last-end h offset n part is any) ],
    );
    empty = λ none. absurd (not-some some none);
  } where
    by-count : (k : ℕ) → part.count ≡ k → (part.count ≡ 0) ⊎ (0 < part.count)
    by-count zero same = inl same
    by-count (suc k) same = inr (omega (arith, same))

module _ (R : RattleType) (st : Ghosts R.Denot) (sd : mir.Syntax.Dict) (dd : mir.Syntax.Dict) (call : PartCall) (offset n : ℕ)
    (old new : Qcow2 R.Denot st) where
  abbrev coherent : SeenGhosts (Qcow2 R.Denot st) PreparedMappingState
  coherent = ghosts R st sd dd

  abbrev h : Fields
  h = old.tables.file.header.fields

  -- The answer is that of the whole part.
  answered : (part : Part) (answer : Result Unit Fault) → MayClear st offset n old → IsWholePart h offset n part
      → IfOk (part_answer part answer) (IsPart offset n)
  answered part (Ok done) may is = let fits = may.fits in is-part h offset n part is (omega (arith, fits)) may.any
  answered part (Err e) may is = tt

  pub clear-part : (result : Result (ℕ × ℕ) Fault) → ClearsRange st (clearing_of call) offset n old result new → IfOk result (IsPart offset n)
  clear-part result clears = elim clears [
    | inl nothing ↦ elim nothing.why [
      | inl refused ↦ subst (λ r. IfOk r (IsPart offset n)) (sym refused.2) tt
      | inr idle ↦ subst (λ r. IfOk r (IsPart offset n)) (sym idle.2)
          (record { inside = (le_refl offset, inl refl); empty = λ none. refl })
    ]
    | inr rest ↦ elim rest [
      | inl version ↦ subst (λ r. IfOk r (IsPart offset n)) (sym version.err) tt
      | inr done ↦ elim done [
        | inl skips ↦ subst (λ r. IfOk r (IsPart offset n)) (sym skips.ok) (is-rest h offset n skips.part skips.is_part skips.may.any skips.some)
        | inr whole ↦ subst (λ r. IfOk r (IsPart offset n)) (sym whole.is_answer) (answered whole.part whole.answer whole.may whole.is_part)
      ]
    ]
  ]

  pub clear-early : (result : Result (ℕ × ℕ) Fault) → ClearsRange st (clearing_of call) offset n old result new
      → RangeEarlyOutcome coherent offset n result old new
  clear-early result clears = elim clears [
    | inl nothing ↦ elim nothing.why [
      | inl refused ↦ subst (λ d. RangeEarlyOutcome coherent offset n result old d) (sym nothing.same)
          (subst (λ r. RangeEarlyOutcome coherent offset n r old old) (sym refused.2) (record {
            refused = λ f told. let same : Some refused.0 ≡ Some f = sym refused.1 ∙ told in cc same;
            idle = λ none usable. let not : None ≡ Some refused.0 = sym (empty-unrefused (layer_of st old) offset n none usable) ∙ refused.1 in absurd (cc not);
            unchanged = λ some. unchanged_same coherent old;
          }))
      | inr idle ↦ subst (λ d. RangeEarlyOutcome coherent offset n result old d) (sym nothing.same)
          (subst (λ r. RangeEarlyOutcome coherent offset n r old old) (sym idle.2)
          (idle-early_outcome coherent (own_refusal (layer_of st old) offset n) (n ≡ 0) (offset, 0) old
          (empty-unrefused (layer_of st old) offset n idle.0 idle.1)))
    ]
    | inr rest ↦ elim rest [
      | inl version ↦ busy version.may
      | inr done ↦ elim done [ inl skips ↦ busy skips.may | inr whole ↦ busy whole.may ]
    ]
  ] where
    busy : MayClear st offset n old → RangeEarlyOutcome coherent offset n result old new
    busy may = busy-early_outcome coherent (own_refusal (layer_of st old) offset n) (n ≡ 0) result old new may.unrefused (not-some may.any)

  -- Nothing is cleared.
  unmet-does : (part : Part) → IsWholePart h offset n part → part.count ≡ 0 → DoesPart call coherent offset n (Ok (part.start, part.length)) old old
  unmet-does part is none = idle-does coherent call offset n old (Ok (part.start, part.length))
      (λ well_formed. part-reaches h offset n part is (words-some st old well_formed))
      (λ well_formed p at. let ours = (part-byte h offset n part is p at).0 in absurd (omega (arith, ours.0, ours.1, none)))

  -- The effect and the errors, if the part has guest clusters.
  module _ (part : Part) (is : IsWholePart h offset n part) (any : 0 < part.count) (may : MayClear st offset n old)
      (free : old.unspent ≡ None) (possible : IsPossible (clearing_of call) h.version) (answer : Result Unit Fault) where
    skipped-does : SkipsPart st (clearing_of call) part.guest old answer new → DoesPart call coherent offset n (part_answer part answer) old new
    skipped-does skips = subst (λ d. DoesPart call coherent offset n (part_answer part answer) old d) (sym skips.same)
        (subst (λ a. DoesPart call coherent offset n (part_answer part a) old old) (sym skips.ok)
        (skips-does R st sd dd call offset n old part is skips.none call (unmaps-backing call skips.unmaps) (entries-some h offset n part is any)))

    skipped-refused : SkipsPart st (clearing_of call) part.guest old answer new → PartRefused call coherent offset n (part_answer part answer) old new
    skipped-refused skips = subst (λ d. PartRefused call coherent offset n (part_answer part answer) old d) (sym skips.same)
        (subst (λ a. PartRefused call coherent offset n (part_answer part a) old old) (sym skips.ok)
        (idle-refused coherent call offset n old (part.start, part.length)))

    unmade-does : RefusesTable st part.guest old answer new → DoesPart call coherent offset n (part_answer part answer) old new
    unmade-does refuses = subst (λ a. DoesPart call coherent offset n (part_answer part a) old new) (sym refuses.err)
        (tableless-does R st sd dd call offset n old new refuses.fault free part.guest refuses.readies refuses.marked)

    unmade-refused : RefusesTable st part.guest old answer new → PartRefused call coherent offset n (part_answer part answer) old new
    unmade-refused refuses = subst (λ a. PartRefused call coherent offset n (part_answer part a) old new) (sym refuses.err)
        (tableless-refused R st sd dd call offset n old new refuses.fault free part.guest refuses.readies refuses.marked possible part.start
        (first-in-range h offset n part is any) (first-cluster h offset n part is any) (first-unit h offset n part is any).0
        (first-unit h offset n part is any).1)

    cleared-does : ClearsPart st (clearing_of call) part.guest part.count old answer new
        → DoesPart call coherent offset n (part_answer part answer) old new
    cleared-does clears = elim clears [
      | inl skips ↦ skipped-does skips
      | inr rest ↦ elim rest [
        | inl refuses ↦ unmade-does refuses
        | inr changes ↦ part-does R st sd dd call offset n old new part is any free possible answer changes
            (part_answer part answer) refl
      ]
    ]

    cleared-refused : ClearsPart st (clearing_of call) part.guest part.count old answer new
        → PartRefused call coherent offset n (part_answer part answer) old new
    cleared-refused clears = elim clears [
      | inl skips ↦ skipped-refused skips
      | inr rest ↦ elim rest [
        | inl refuses ↦ unmade-refused refuses
        | inr changes ↦ part-refused R st sd dd call offset n old new part is any free possible answer changes
            (part_answer part answer) refl
      ]
    ]

  whole-does : old.unspent ≡ None → (result : Result (ℕ × ℕ) Fault) → ClearsWhole st (clearing_of call) offset n old result new
      → DoesPart call coherent offset n result old new
  whole-does free result whole = subst (λ r. DoesPart call coherent offset n r old new) (sym whole.is_answer) (elim whole.done [
    | inl none ↦ subst (λ d. DoesPart call coherent offset n (part_answer whole.part whole.answer) old d) (sym none.2)
        (subst (λ a. DoesPart call coherent offset n (part_answer whole.part a) old old) (sym none.1)
        (unmet-does whole.part whole.is_part none.0))
    | inr some ↦ cleared-does whole.part whole.is_part some.0 whole.may free whole.version whole.answer some.1
  ])

  whole-refused : old.unspent ≡ None → (result : Result (ℕ × ℕ) Fault) → ClearsWhole st (clearing_of call) offset n old result new
      → PartRefused call coherent offset n result old new
  whole-refused free result whole = subst (λ r. PartRefused call coherent offset n r old new) (sym whole.is_answer) (elim whole.done [
    | inl none ↦ subst (λ d. PartRefused call coherent offset n (part_answer whole.part whole.answer) old d) (sym none.2)
        (subst (λ a. PartRefused call coherent offset n (part_answer whole.part a) old old) (sym none.1)
        (idle-refused coherent call offset n old (whole.part.start, whole.part.length)))
    | inr some ↦ cleared-refused whole.part whole.is_part some.0 whole.may free whole.version whole.answer some.1
  ])

  -- All whole clusters of the range are unmapped already.
  rest-skipped : (result : Result (ℕ × ℕ) Fault) → SkipsRest st (clearing_of call) offset n old result new → DoesPart call coherent offset n result old new
  rest-skipped result skips = subst (λ d. DoesPart call coherent offset n result old d) (sym skips.same)
      (subst (λ r. DoesPart call coherent offset n r old old) (sym skips.ok)
      (rest-does R st sd dd call offset n old skips.part skips.is_part skips.some skips.past_l1 call (unmaps-backing call skips.unmaps)))

  rest-refused : (result : Result (ℕ × ℕ) Fault) → SkipsRest st (clearing_of call) offset n old result new
      → PartRefused call coherent offset n result old new
  rest-refused result skips = subst (λ d. PartRefused call coherent offset n result old d) (sym skips.same)
      (subst (λ r. PartRefused call coherent offset n r old old) (sym skips.ok)
      (idle-refused coherent call offset n old (skips.part.start, skips.part.rest)))

  pub clear-does : old.unspent ≡ None → (result : Result (ℕ × ℕ) Fault) → ClearsRange st (clearing_of call) offset n old result new
      → DoesPart call coherent offset n result old new
  clear-does free result clears = elim clears [
    | inl nothing ↦ subst (λ d. DoesPart call coherent offset n result old d) (sym nothing.same) (elim nothing.why [
      | inl refused ↦ subst (λ r. DoesPart call coherent offset n r old old) (sym refused.2) (refused-does coherent call offset n old refused.0)
      | inr idle ↦ subst (λ r. DoesPart call coherent offset n r old old) (sym idle.2)
          (idle-does coherent call offset n old (Ok (offset, 0))
          (λ well_formed. empty-reaches (cluster_size h) h.size offset n (pow_pos h.cluster_bits) idle.0)
          (λ well_formed p at. absurd (omega (arith, at.0, at.1))))
    ])
    | inr rest ↦ elim rest [
      | inl version ↦ subst (λ d. DoesPart call coherent offset n result old d) (sym version.same)
          (subst (λ r. DoesPart call coherent offset n r old old) (sym version.err) (refused-does coherent call offset n old VersionLimit))
      | inr done ↦ elim done [ inl skips ↦ rest-skipped result skips | inr whole ↦ whole-does free result whole ]
    ]
  ]

  pub clear-refused : old.unspent ≡ None → (result : Result (ℕ × ℕ) Fault) → ClearsRange st (clearing_of call) offset n old result new
      → PartRefused call coherent offset n result old new
  clear-refused free result clears = elim clears [
    | inl nothing ↦ subst (λ d. PartRefused call coherent offset n result old d) (sym nothing.same) (elim nothing.why [
      | inl refused ↦ subst (λ r. PartRefused call coherent offset n r old old) (sym refused.2)
          (early-refused coherent call offset n old refused.0 refused.1)
      | inr idle ↦ subst (λ r. PartRefused call coherent offset n r old old) (sym idle.2) (idle-refused coherent call offset n old (offset, 0))
    ])
    | inr rest ↦ elim rest [
      | inl version ↦ subst (λ d. PartRefused call coherent offset n result old d) (sym version.same)
          (subst (λ r. PartRefused call coherent offset n r old old) (sym version.err)
          (version-refused R st sd dd call offset n old version.version))
      | inr done ↦ elim done [ inl skips ↦ rest-refused result skips | inr whole ↦ whole-refused free result whole ]
    ]
  ]

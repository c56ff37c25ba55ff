-- A copy of one chain's disk into another's, piece by piece.
use Rattle.std.proofs.lemmas.Bool.{cases_lt}
use Rattle.std.proofs.lemmas.Bool.Decides.{nat_tests}
use Rattle.std.proofs.Math.Nat.{le-min, min-eq_left, min-eq_right, min-le_right}
use Rattle.std.proofs.Common.{◌≡◌, ◌⊎◌, inl, inr, ℕ, ◌+◌, ◌-◌, ◌<◌, ◌≤◌, List, length, slice_index, arith, refl, sym, subst, ap, ◌∙◌}
use Rattle.std.specs.Prelude.{⊤, min, ◌*◌, not, eqb, Bool, true, false, if◌then◌else◌, Option, Some, None, Result, Ok, Err, OnOk, IfErr, IsErrOf, IsTrue}
use Rattle.imago_storage.specs.Disk.{Value, Disk, byte, Shows}
use Rattle.imago_storage.specs.Steps.{write, IsIn, Stays, Changes, ToBytes, Unless}
use Rattle.imago_storage.specs.Causes.{PartlyDone}
use Rattle.imago_storage.specs.declared.fault.Fault.{Fault}
use Rattle.imago_storage.specs.declared.fault.Fault.TheVariants.{Failed, MissingData, Memory, ReadOnly}
use Rattle.imago_access.specs.declared.driver_model.DriverModel.{Ghosts}
use Rattle.imago_access.specs.Layer.{Layer, Fixed, KeepsLayerState}
use Rattle.imago_access.specs.Layers.{chain}
use Rattle.imago_access.specs.Chain.{at, Each}
use Rattle.imago_access.specs.ChainCalls.{CallRefused, chain_refusal, chain_look_refusal, ChainFails, IsCarriedOut, IsDoneInPart, TakesNear}
use Rattle.imago_access.specs.ChainLooks.{ChainReads}
use Rattle.imago_access.specs.Files.{Pairs, IsLater, IsNotResourceError, HadNoResourceError, files, files_of}
use Rattle.imago_access.specs.Going.{LookupCall, MarksSomeFailed}
use Rattle.imago_access.specs.RunCalls.{MarksTopFailed}
use Rattle.imago_access.specs.Room.{IsApart}
use Rattle.imago_access.specs.Running.{ChainRangeChange, below_ghosts, below_of, chain_disk}
use Rattle.imago_access.specs.Refusals.{unusable_fault}
use Rattle.imago_access.specs.Stops.{GivesBytes}
use Rattle.imago_access.proofs.FilePairs.{pairs_append}
use Rattle.imago_access.proofs.ImageCauses.{failed_after}
use Rattle.imago_access.proofs.Looking.{all_looked_same, all_looked_both, all_looked_weaker, chain_later, chain_same, chain_sees}
use Rattle.imago_access.proofs.Marking.{marked_behind, top_behind}
use Rattle.imago_access.proofs.Room.{room_same, takes_both, apart_wider}
use Rattle.imago_access.proofs.Running.{ran_same, ran_both, ran_gives}
use Rattle.qimg_calls.specs.Flattening.{Chains, HasByte, IsSoundPair, GivesRead, IsRangeCopied, IsRangeCopiedInPart, CopiesRange, CopiesDisk, CopyFails, Copies, CopyCause, MayCopy, PieceRefused, PieceCrashImages}

-- Bytes that were read are the source's.
pub gives_read : {D St : Type 0} (g : Ghosts D St) (source : D × List D) (offset : ℕ) (bytes : List ℕ) → (Each g.coherent (chain source) → Shows (chain_disk g.layer source).value offset bytes) → (p : ℕ) (v : Value) → GivesBytes offset bytes p v → GivesRead g source p v
gives_read g source offset bytes shown p v gave = (
  (slice_index bytes gave.0, gave.3),
  λ see. gave.3 ∙ sym (shown see gave.0 gave.1) ∙ ap (chain_disk g.layer source).value (sym gave.2),
)

-- A range inside the disk was read.
pub read_shown : {D St : Type 0} (g : Ghosts D St) (offset n : ℕ) (buf : List ℕ) (old new : D × List D) → offset + n ≤ (g.layer old.0).size → ChainReads g offset n buf old new → Shows (chain_disk g.layer old).value offset buf
read_shown g offset n buf old new inside reads i lt = reads.1.below i lt (omega (arith, lt, reads.0, inside))

-- The source's byte at an offset of the range.
there : (offset : ℕ) (bytes : List ℕ) (source : Disk) → Shows source.value offset bytes → (p : ℕ) (v : Value) → IsIn offset (length bytes) p → v ≡ byte (slice_index bytes (p - offset))
    → HasByte (source.value p) × (v ≡ source.value p)
there offset bytes source shown p v inside is =
    let i = p - offset in
    let lt : i < length bytes = omega (arith, inside.0, inside.1) in
    let place : offset + i ≡ p = omega (arith, inside.0) in
    let has : source.value p ≡ byte (slice_index bytes i) = ap source.value (sym place) ∙ shown i lt in
    ((slice_index bytes i, has), is ∙ sym has)

-- A write of the source's bytes copies the range.
pub written_copied : (source old new : Disk) (offset : ℕ) (bytes : List ℕ) → Shows source.value offset bytes
    → Unless (length bytes ≡ 0) (Stays old new) (Changes (ToBytes offset bytes) old new offset (length bytes)) → IsRangeCopied source old new offset (length bytes)
written_copied source old new offset bytes shown step = elim step [
  | inl none ↦ record {
    size = none.1.size;
    range = λ p inside. absurd (omega (arith, inside.0, inside.1, none.0));
    others = λ p lt out. none.1.value p lt;
  }
  | inr some ↦ record {
    size = some.1.size;
    range = λ p inside. there offset bytes source shown p (new.value p) inside (some.1.range p inside);
    others = some.1.others;
  }
]

-- A write that fails without a resource error copies the range in part.
written_part : (source old new : Disk) (under : ℕ → Value) (offset : ℕ) (bytes : List ℕ) → Shows source.value offset bytes → PartlyDone under (write offset bytes) old new
    → IsRangeCopiedInPart source old new offset (length bytes)
written_part source old new under offset bytes shown part = record {
  size = part.size;
  range = λ p lt inside. elim (part.value p lt) [ inl same ↦ inl same | inr gave ↦ inr (there offset bytes source shown p (new.value p) inside gave) ];
  others = part.others;
}

-- Two consecutive ranges.
pub copied_both : (source a b c : Disk) (offset n m : ℕ) → offset + n ≤ a.size → IsRangeCopied source a b offset n → IsRangeCopied source b c (offset + n) m → IsRangeCopied source a c offset (n + m)
copied_both source a b c offset n m fits first second = record {
  size = second.size ∙ first.size;
  range = λ p inside. elim (cases_lt p (offset + n)) [
    | inl lt ↦
        let was = first.range p (inside.0, lt) in
        (was.0, second.others p (omega (arith, lt, fits, first.size)) (inl lt) ∙ was.1)
    | inr ge ↦ second.range p (ge, omega (arith, inside.1))
  ];
  others = λ p lt out. second.others p (omega (arith, lt, first.size)) (elim out [ inl before ↦ inl (omega (arith, before)) | inr behind ↦ inr (omega (arith, behind)) ])
      ∙ first.others p lt (elim out [ inl before ↦ inl before | inr behind ↦ inr (omega (arith, behind)) ]);
}

-- A piece that isn't the last ends where the next one begins.
whole_piece : (size done n : ℕ) → done ≤ size → n ≡ min 65536 (size - done) → (done + n ≡ size → ⊥) → n ≡ 65536
whole_piece size done n inside long more = elim (cases_lt 65536 (size - done)) [
  | inl lt ↦ long ∙ min-eq_left (omega (arith, lt))
  | inr ge ↦ absurd (more (omega (arith, inside, long ∙ min-eq_right ge)))
]

pub next_piece : (size done n index : ℕ) → done ≤ size → done ≡ index * 65536 → n ≡ min 65536 (size - done) → (done + n ≡ size → ⊥) → (next : ℕ) × (done + n ≡ next * 65536)
next_piece size done n index inside start long more = (index + 1, omega (arith, start, whole_piece size done n inside long more))

pub next_more : (size done n : ℕ) → done ≤ size → n ≡ min 65536 (size - done) → (done + n ≡ size → ⊥) → done + n < size
next_more size done n inside long more =
    let least : n ≤ size - done = subst (λ (m : ℕ). m ≤ size - done) (sym long) (min-le_right 65536 (size - done)) in
    elim (cases_lt (done + n) size) [ inl lt ↦ lt | inr ge ↦ absurd (more (omega (arith, inside, least, ge))) ]

-- A piece of a nonempty disk isn't empty.
pub some_left : (size done n : ℕ) → (done ≡ 0) ⊎ (done < size) → n ≡ min 65536 (size - done) → 0 < size → 0 < n
some_left size done n more long some =
    let left : 0 < size - done = elim more [ inl first ↦ omega (arith, first, some) | inr lt ↦ omega (arith, lt) ] in
    subst (λ (m : ℕ). 0 < m) (sym long) (le-min (omega arith) left)

-- Usable images, and errors before anything is done.
open_then : (failed missing : Bool) (rest : Option Fault) → (if failed then Some Failed else if missing then Some MissingData else rest) ≡ None → ((if failed then Some Failed else if missing then Some MissingData else None) ≡ None) × (rest ≡ None)
open_then true missing rest none = absurd (cc none)
open_then false true rest none = absurd (cc none)
open_then false false rest none = (refl, none)

open_before : (failed missing failed' missing' : Bool) → (IsTrue failed → IsTrue failed') → missing' ≡ missing → (if failed' then Some Failed else if missing' then Some MissingData else None) ≡ None
    → (if failed then Some Failed else if missing then Some MissingData else None) ≡ None
open_before false false failed' missing' has_no_dirty_data same none = refl
open_before false true true true has_no_dirty_data same none = absurd (cc none)
open_before false true false true has_no_dirty_data same none = absurd (cc none)
open_before false true failed' false has_no_dirty_data same none = absurd (cc same)
open_before true missing true missing' has_no_dirty_data same none = absurd (cc none)
open_before true missing false missing' has_no_dirty_data same none = absurd (cc (has_no_dirty_data refl))

usable_before : (a b : Layer) → KeepsLayerState a b → unusable_fault b ≡ None → unusable_fault a ≡ None
usable_before a b like = open_before a.failed a.fixed.missing b.failed b.fixed.missing like.failed (ap (λ (f : Fixed). f.missing) like.fixed)

writable_then : (none writable : Bool) (rest : Option Fault) → (if none then None else if not writable then Some ReadOnly else rest) ≡ None → none ≡ false → IsTrue writable
writable_then true writable rest is some = absurd (cc some)
writable_then false true rest is some = refl
writable_then false false rest is some = absurd (cc is)

not_none : (n : ℕ) → 0 < n → eqb n 0 ≡ false
not_none n some = grind (arith, nat_tests)

none_at_once : (refusal : Option Fault) → ((f : Fault) → refusal ≡ Some f → ⊥) → refusal ≡ None
none_at_once None told = refl
none_at_once (Some f) told = absurd (told f refl)

-- `KeepsLayerState` is transitive.
like_then : (a b c : Layer) → KeepsLayerState a b → KeepsLayerState b c → KeepsLayerState a c
like_then a b c first second = record {
  fixed = second.fixed ∙ first.fixed;
  size = second.size ∙ first.size;
  unspent = second.unspent ∙ first.unspent;
  failed = λ f. second.failed (first.failed f);
}

module _ {S P T Q : Type 0} (g : Ghosts S P) (h : Ghosts T Q) where
  pub copies_same : (offset : ℕ) (a : Chains S T) → Copies g h offset 0 (Ok tt) a a
  copies_same offset a = record {
    source = all_looked_same g ⊤ (chain a.0);
    range_change = ran_same h (below_ghosts h) ⊤ (GivesRead g a.0) a.1.0 a.1.1;
    keeps_layer_state = record { fixed = refl; size = refl; unspent = refl; failed = λ f. f };
    room = λ intact whole. room_same h (λ _. ⊤) (IsApart (h.layer a.1.0).fixed.unit offset 0) a.1.0;
    copied = λ pair. record { size = refl; range = λ p inside. absurd (omega (arith, inside.0, inside.1)); others = λ p lt out. refl };
    failed = tt;
  }

  -- A piece was copied, so neither chain had an early error.
  pub may_copy : (result : Result Unit Fault) (old : Chains S T) (offset n : ℕ) → ((f : Fault) → chain_look_refusal g old.0 offset n ≡ Some f → ⊥) → ((f : Fault) → chain_refusal h old.1 offset n ≡ Some f → IsErrOf result f)
      → OnOk result (MayCopy g h n old)
  may_copy (Ok unit) old offset n source target =
      let one = open_then (g.layer old.0.0).failed (g.layer old.0.0).fixed.missing _ (none_at_once _ source) in
      let two = open_then (h.layer old.1.0).failed (h.layer old.1.0).fixed.missing _ (none_at_once (chain_refusal h old.1 offset n) (λ f is. cc (target f is))) in
      record {
        source = one.0;
        target = two.0;
        writable = λ some. writable_then (eqb n 0) (h.layer old.1.0).fixed.writable _ two.1 (not_none n some);
      }
  may_copy (Err fault) old offset n source target = tt

  -- The same holds if other pieces were copied before it.
  pub may_before : (a b : Chains S T) (end n size : ℕ) → Copies g h 0 end (Ok tt) a b → (0 < size → 0 < n) → MayCopy g h n b → MayCopy g h size a
  may_before a b end n size first some may = record {
    source = usable_before (g.layer a.0.0) (g.layer b.0.0) first.source.0.keeps_layer_state may.source;
    target = usable_before (h.layer a.1.0) (h.layer b.1.0) first.keeps_layer_state may.target;
    writable = λ here. subst (λ (f : Fixed). IsTrue f.writable) first.keeps_layer_state.fixed (may.writable (some here));
  }

  -- Memory for a piece ran out.
  pub no_room : (a : Chains S T) → CopyFails g h a a Memory
  no_room a = inl (record { cause = tt; marks_failed = λ is. absurd (cc is); target = ran_same h (below_ghosts h) ⊤ (GivesRead g a.0) a.1.0 a.1.1 })

  pub no_room_cause : (a : Chains S T) → CopyCause g h a a Memory
  no_room_cause a = record {
    offset = 0;
    n = min 65536 ((g.layer a.0.0).size - 0);
    piece = record { index = 0; start = refl; inside = omega arith; long = refl };
    mid = a;
    before = copies_same 0 a;
    cause = inl tt;
    copied_in_part = λ not_resource_error. absurd not_resource_error;
  }

  -- The whole disk was copied.
  pub copies_disk : (result : Result Unit Fault) (a b : Chains S T) → (h.layer a.1.0).size ≡ (g.layer a.0.0).size → Copies g h 0 (g.layer a.0.0).size result a b → IsSoundPair g h a → OnOk result (CopiesDisk g h a b.1)
  copies_disk (Ok unit) a b same all pair = (same, all.copied pair)
  copies_disk (Err fault) a b same all pair = tt

  -- An error in a part of a range is one of the range.
  pub copies_wider : (fault : Fault) (offset n m : ℕ) (a b : Chains S T) → n ≤ m → Copies g h offset n (Err fault) a b → Copies g h offset m (Err fault) a b
  copies_wider fault offset n m a b fits part = record {
    source = part.source;
    range_change = part.range_change;
    keeps_layer_state = part.keeps_layer_state;
    room = λ intact whole.
        let unit = (h.layer a.1.0).fixed.unit in
        takes_both h (IsApart unit offset n) (λ _. ⊤) (IsApart unit offset m) a.1.0 b.1.0 b.1.0 (λ p apart. (apart_wider unit offset m offset n p (omega arith) (omega (arith, fits)) apart, tt))
        (part.room intact whole) (room_same h (λ _. ⊤) (λ _. ⊤) b.1.0);
    copied = λ pair. tt;
    failed = part.failed;
  }

  -- A piece was read, and its write succeeded or failed.
  pub copies_written : (result : Result Unit Fault) (old new : Chains S T) (offset : ℕ) (bytes : List ℕ) → Pairs (LookupCall g ⊤) (chain old.0) (chain new.0) → (Each g.coherent (chain old.0) → Shows (chain_disk g.layer old.0).value offset bytes)
      → ChainRangeChange h (HadNoResourceError result) (GivesBytes offset bytes) old.1 new.1 → KeepsLayerState (h.layer old.1.0) (h.layer new.1.0) → TakesNear h offset (length bytes) result old.1 new.1 → IsCarriedOut h (write offset bytes) result old.1 new.1
      → IfErr result (ChainFails h old.1 new.1) → IfErr result (MarksTopFailed h (below_ghosts h) old.1 new.1)
      → Copies g h offset (length bytes) result old new
  copies_written (Ok unit) old new offset bytes looked shown ran like room ok failed marks = record {
    source = looked;
    range_change = ran_gives h (below_ghosts h) ⊤ (GivesBytes offset bytes) (GivesRead g old.0) old.1.0 new.1.0 old.1.1 new.1.1 (gives_read g old.0 offset bytes shown) ran;
    keeps_layer_state = like;
    room = room;
    copied = λ pair. written_copied (chain_disk g.layer old.0) (chain_disk h.layer old.1) (chain_disk h.layer new.1) offset bytes (shown pair.source) (ok pair.target);
    failed = tt;
  }
  copies_written (Err fault) old new offset bytes looked shown ran like room ok failed marks = record {
    source = all_looked_weaker g ⊤ (IsNotResourceError fault) (chain old.0) (chain new.0) (λ x. tt) looked;
    range_change = ran_gives h (below_ghosts h) (IsNotResourceError fault) (GivesBytes offset bytes) (GivesRead g old.0) old.1.0 new.1.0 old.1.1 new.1.1 (gives_read g old.0 offset bytes shown) ran;
    keeps_layer_state = like;
    room = room;
    copied = λ pair. tt;
    failed = inr (record { cause = failed; marks_failed = marks; source = looked });
  }

  -- The read of a piece failed.
  pub copies_unread : (fault : Fault) (old : Chains S T) (new : S × List S) (offset n : ℕ) → Pairs (LookupCall g (IsNotResourceError fault)) (chain old.0) (chain new) → ChainFails g old.0 new fault → MarksSomeFailed g (chain old.0) (chain new) fault
      → Copies g h offset n (Err fault) old (new, old.1)
  copies_unread fault old new offset n looked failed marks = record {
    source = looked;
    range_change = ran_same h (below_ghosts h) (IsNotResourceError fault) (GivesRead g old.0) old.1.0 old.1.1;
    keeps_layer_state = record { fixed = refl; size = refl; unspent = refl; failed = λ f. f };
    room = λ intact whole. room_same h (λ _. ⊤) (IsApart (h.layer old.1.0).fixed.unit offset n) old.1.0;
    copied = λ pair. tt;
    failed = inl (record { cause = failed; marks_failed = marks; target = ran_same h (below_ghosts h) ⊤ (GivesRead g old.0) old.1.0 old.1.1 });
  }

  -- The cause of a failed write of a piece.
  pub piece_unwritten : (result : Result Unit Fault) (old new : Chains S T) (offset : ℕ) (bytes : List ℕ) → (Each g.coherent (chain old.0) → Shows (chain_disk g.layer old.0).value offset bytes) → CallRefused h (write offset bytes) result old.1 new.1
      → PieceRefused g h offset (length bytes) result old new
  piece_unwritten (Ok unit) old new offset bytes shown cause pair = tt
  piece_unwritten (Err fault) old new offset bytes shown cause pair = inr (record { bytes = bytes; long = refl; shown = shown pair.source; cause = cause pair.target })

  -- The state after a piece failed, at its write or at its read.
  pub piece_part : (result : Result Unit Fault) (old new : Chains S T) (offset : ℕ) (bytes : List ℕ) → (Each g.coherent (chain old.0) → Shows (chain_disk g.layer old.0).value offset bytes)
      → IsDoneInPart h (write offset bytes) result old.1 new.1 → PieceCrashImages g h offset (length bytes) result old new.1
  piece_part (Ok unit) old new offset bytes shown part pair = tt
  piece_part (Err fault) old new offset bytes shown part pair = λ not_resource_error.
      written_part (chain_disk g.layer old.0) (chain_disk h.layer old.1) (chain_disk h.layer new.1) (below_of h.layer old.1) offset bytes (shown pair.source) (part pair.target not_resource_error)

  pub piece_same : (fault : Fault) (old : Chains S T) (offset n : ℕ) → PieceCrashImages g h offset n (Err fault) old old.1
  piece_same fault old offset n pair = λ not_resource_error. record { size = refl; range = λ p lt inside. inl refl; others = λ p lt out. refl }

  module _ (well_formed_is_coherent : (d : S) → g.well_formed d → g.coherent d) where
    -- The bytes of a later part are those of the source at the start.
    gives_before : (a b : S × List S) → Pairs (LookupCall g ⊤) (chain a) (chain b) → (p : ℕ) (v : Value) → GivesRead g b p v → GivesRead g a p v
    gives_before a b looked p v gave = (
      gave.0,
      λ see. gave.1 (chain_sees g ⊤ (chain a) (chain b) tt see looked) ∙ ap (λ (ls : List Layer). at ls p) (chain_same g ⊤ (chain a) (chain b) tt see looked),
    )

    pub pair_behind : (a b : Chains S T) (offset n : ℕ) → Copies g h offset n (Ok tt) a b → IsSoundPair g h a → IsSoundPair g h b
    pair_behind a b offset n first pair = record {
      source = chain_sees g ⊤ (chain a.0) (chain b.0) tt pair.source first.source;
      target = first.range_change.intact tt pair.target;
    }

    module _ (a b c : Chains S T) (offset n m : ℕ) (first : Copies g h offset n (Ok tt) a b) where
      later_target : Pairs IsLater (files_of h (chain a.1)) (files_of h (chain b.1))
      later_target = pairs_append IsLater (files h a.1.0) (files h b.1.0) (files_of h a.1.1) (files_of h b.1.1) first.range_change.mutating_call.counts_not_fallen first.range_change.lookup_call.counts_not_fallen

      ran_behind : (whole : Type 0) → ChainRangeChange h whole (GivesRead g b.0) b.1 c.1 → ChainRangeChange h whole (GivesRead g a.0) a.1 c.1
      ran_behind whole second = ran_both h (below_ghosts h) whole (GivesRead g a.0) (GivesRead g b.0) (GivesRead g a.0) a.1.0 b.1.0 c.1.0 a.1.1 b.1.1 c.1.1 (λ p v gave. gave) (gives_before a.0 b.0 first.source) first.range_change second

      fails_behind : (fault : Fault) → CopyFails g h b c fault → CopyFails g h a c fault
      fails_behind fault fails = elim fails [
        | inl one ↦ inl (record {
          cause = failed_after (files_of g (chain a.0)) (files_of g (chain b.0)) (files_of g (chain c.0)) fault (chain_later g ⊤ (chain a.0) (chain b.0) first.source) one.cause;
          marks_failed = λ is. marked_behind g ⊤ (chain a.0) (chain b.0) (chain c.0) first.source (one.marks_failed is);
          target = ran_behind ⊤ one.target;
        })
        | inr two ↦ inr (record {
          cause = failed_after (files_of h (chain a.1)) (files_of h (chain b.1)) (files_of h (chain c.1)) fault later_target two.cause;
          marks_failed = top_behind h (below_ghosts h) a.1.0 b.1.0 c.1.0 a.1.1 b.1.1 c.1.1 fault first.range_change.mutating_call.fixed (first.range_change.mutating_call.faults tt) (first.range_change.intact tt) two.marks_failed;
          source = all_looked_both g well_formed_is_coherent ⊤ (chain a.0) (chain b.0) (chain c.0) first.source two.source;
        })
      ]

      room_behind : (result : Result Unit Fault) → Copies g h (offset + n) m result b c → TakesNear h offset (n + m) result a.1 c.1
      room_behind result second intact whole =
          let unit = (h.layer a.1.0).fixed.unit in
          takes_both h (IsApart unit offset n) (IsApart (h.layer b.1.0).fixed.unit (offset + n) m) (IsApart unit offset (n + m)) a.1.0 b.1.0 c.1.0
          (λ p apart. (
            apart_wider unit offset (n + m) offset n p (omega arith) (omega arith) apart,
            subst (λ (f : Fixed). IsApart f.unit (offset + n) m p) (sym first.range_change.mutating_call.fixed) (apart_wider unit offset (n + m) (offset + n) m p (omega arith) (omega arith) apart),
          ))
          (first.room intact tt) (second.room (first.range_change.intact tt intact) whole)

      copied_behind : offset + n ≤ (h.layer a.1.0).size → IsSoundPair g h a → CopiesRange g h (offset + n) m b c.1 → CopiesRange g h offset (n + m) a c.1
      copied_behind fits pair second =
          let top = (first.source.0.stays tt pair.source.0).0 in
          let same = chain_same g ⊤ a.0.1 b.0.1 tt pair.source.1 first.source.1 in
          copied_both (chain_disk g.layer a.0) (chain_disk h.layer a.1) (chain_disk h.layer b.1) (chain_disk h.layer c.1) offset n m fits (first.copied pair) (rw (top, same) at second)

    -- Two consecutive ranges.
    pub copies_both : (result : Result Unit Fault) (a b c : Chains S T) (offset n m : ℕ) → offset + n ≤ (h.layer a.1.0).size → Copies g h offset n (Ok tt) a b → Copies g h (offset + n) m result b c
        → Copies g h offset (n + m) result a c
    copies_both (Ok unit) a b c offset n m fits first second = record {
      source = all_looked_both g well_formed_is_coherent ⊤ (chain a.0) (chain b.0) (chain c.0) first.source second.source;
      range_change = ran_behind a b c offset n m first ⊤ second.range_change;
      keeps_layer_state = like_then (h.layer a.1.0) (h.layer b.1.0) (h.layer c.1.0) first.keeps_layer_state second.keeps_layer_state;
      room = room_behind a b c offset n m first (Ok unit) second;
      copied = λ pair. copied_behind a b c offset n m first fits pair (second.copied (pair_behind a b offset n first pair));
      failed = tt;
    }
    copies_both (Err fault) a b c offset n m fits first second = record {
      source = all_looked_both g well_formed_is_coherent (IsNotResourceError fault) (chain a.0) (chain b.0) (chain c.0) first.source second.source;
      range_change = ran_behind a b c offset n m first (IsNotResourceError fault) second.range_change;
      keeps_layer_state = like_then (h.layer a.1.0) (h.layer b.1.0) (h.layer c.1.0) first.keeps_layer_state second.keeps_layer_state;
      room = room_behind a b c offset n m first (Err fault) second;
      copied = λ pair. tt;
      failed = fails_behind a b c offset n m first fault second.failed;
    }

    -- Two consecutive ranges from the start of the disk.
    pub copies_next : (result : Result Unit Fault) (a b c : Chains S T) (end n : ℕ) → end ≤ (h.layer a.1.0).size → Copies g h 0 end (Ok tt) a b → Copies g h end n result b c → Copies g h 0 (end + n) result a c
    copies_next result a b c end n fits first second =
        let none : 0 + end ≡ end = omega arith in
        copies_both result a b c 0 end n (omega (arith, fits)) first (rw (none) second)

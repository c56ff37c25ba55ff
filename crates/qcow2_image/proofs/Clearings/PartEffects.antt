-- Lemmas that state a zeroing or a discard by the relations of the driver, if the entries of a part of its range were cleared.
use Rattle.std.proofs.Common.{◌≡◌, ℕ, ◌+◌, ◌/◌, ◌%◌, ◌^◌, ◌<◌, ◌≤◌, refl, arith, ap, sym, subst, ◌∙◌, inl, inr, List, [], ◌∷◌, Option, Some, None, Result, Ok, Err}
use Rattle.std.specs.Prelude.{⊤, ◌⊎◌, IsTrue, IsSome, IfOk, IfErr, if◌then◌else◌, ltb, ◌&&◌}
use Rattle.std.specs.Borrow.{RattleType}
use Rattle.std.proofs.lemmas.Bool.{cases_lt}
use Rattle.imago_storage.specs.State.{HasRisen, StorageState}
use Rattle.imago_storage.specs.Calls.{IsFaultless}
use Rattle.imago_storage.specs.Disk.{Value, byte}
use Rattle.imago_storage.specs.Passing.{UnrefusedCrashImages}
use Rattle.imago_storage.specs.Steps.{Call, IsIn, IsOut}
use Rattle.imago_storage.specs.declared.fault.Fault.{Fault}
use Rattle.imago_storage.specs.declared.fault.Fault.TheVariants.{DamagedTable, Memory, Storage}
use Rattle.imago_storage.specs.declared.storage.Storage.{Ghosts}
use Rattle.imago_storage.proofs.Composing.{later_both}
use Rattle.imago_access.specs.Chain.{at}
use Rattle.imago_access.specs.Changes.{PartRewrites, Rewrites}
use Rattle.imago_access.specs.Files.{HadNoResourceError, ImageCause, IsLater, IsNotResourceError, files}
use Rattle.imago_access.specs.Going.{MarksFailed}
use Rattle.imago_access.specs.Layer.{Cell, Fixed, KeepsLayerState, Layer, own, through, unmapped}
use Rattle.imago_access.specs.PartCalls.{Becomes, DoesPart, IsDone, IsFor, IsToldOver, LeavesPart, PartCall, PartGives, PartRefused, discards_to_any, discards_to_backing, discards_to_zero, ensures_zero}
use Rattle.imago_access.specs.Parts.{DeclinableCause, IsPartOf}
use Rattle.imago_access.specs.Room.{GivesUp, Reaches, Takes}
use Rattle.imago_access.specs.Stops.{GivesNone, Left}
use Rattle.imago_access.specs.declared.driver_model.DriverModel.{Ghosts as SeenGhosts}
use Rattle.imago_access.proofs.Stopping.{left_weaker, passes_none, passes_on, passes_weaker, then_left}
use Rattle.qcow2_types.specs.Bytes.{Bytes}
use Rattle.qcow2_types.specs.Entries.{entry}
use Rattle.qcow2_types.specs.Header.{Fields, Header, cluster_size, entries_of_cluster}
use Rattle.qcow2_types.specs.Words.{Mapping}
use Rattle.qcow2_types.proofs.Counting.Consistent.{consistent-shaped, some-words}
use Rattle.qcow2_alloc.specs.Causes.{HasCause}
use Rattle.qcow2_alloc.specs.Going.{writing_causes}
use Rattle.qcow2_clusters.specs.Clearing.{AreUnder, IsPossible, cleared}
use Rattle.qcow2_clusters.specs.Linking.{TakesNone}
use Rattle.qcow2_clusters.specs.declared.clearing.Clearing.{Clearing}
use Rattle.qcow2_clusters.specs.declared.clearing.Clearing.TheVariants.{GiveUp, Keep, Unmap}
use Rattle.qcow2_clusters.specs.declared.space.Space.{Space}
use Rattle.qcow2_image.specs.contracts.qcow2.Qcow2DriverModel.TheImpl.{ghosts}
use Rattle.qcow2_image.specs.Clearing.{ChangesPart, ClearsWith, IsUnreserved, IsWholePart, clearing_of, part_answer}
use Rattle.qcow2_image.specs.Holding.{mapping_id_held}
use Rattle.qcow2_image.specs.Homes.{home-there}
use Rattle.qcow2_image.specs.ImageLayer.{blanks, qcow2_fixed, writable_location_by}
use Rattle.qcow2_image.specs.KeepsDisk.{KeepsDisk}
use Rattle.qcow2_image.specs.Leaking.{KeepsLeaks}
use Rattle.qcow2_image.specs.Preparing.{LeavesMarkedFailed}
use Rattle.qcow2_image.specs.Rooms.{HasCluster, HasRoom, IsWellFormed, ReadsNone, is_sound, rest_of}
use Rattle.qcow2_image.specs.Seen.{file_of, layer_of, memory_of, writable_locations_of}
use Rattle.qcow2_image.specs.Unspent.{holding_in}
use Rattle.qcow2_image.specs.Writing.{MayBeCleared, MayBecome, Since}
use Rattle.qcow2_image.specs.declared.clearing.Part.{Part}
use Rattle.qcow2_image.specs.declared.qcow2.PreparedMappingState.{PreparedMappingState}
use Rattle.qcow2_image.specs.declared.qcow2.Qcow2.{Qcow2}
use Rattle.qcow2_image.specs.declared.tables.Tables.{Tables}
use Rattle.qcow2_image.proofs.CallNeeds.{since-then, whole-of-call}
use Rattle.qcow2_image.proofs.CallStarts.{still-cut}
use Rattle.qcow2_image.proofs.Clearings.ClearedDisk.{CellsCleared, DiskCleared, IsInClusters, MayBeShown, cleared-reads, cleared_value, disk-cleared, failed-is, fixed-same, refused-hard, stops-cleared, unspent-same, zeroed-keeps, zeroed-takes}
use Rattle.qcow2_image.proofs.Clearings.WholeParts.{part-all, part-byte, part-reaches, part-unit}
use Rattle.qcow2_image.proofs.DiskEffects.{cell_of, home-bits, whole-below}
use Rattle.qcow2_image.proofs.Leaks.{leaks-both}
use Rattle.qcow2_image.proofs.LeaksByFile.{surplus-kept}
use Rattle.qcow2_image.proofs.Preparations.Reservations.{under-row}
use Rattle.qcow2_image.proofs.Steps.{marks-kept, memory-is}

some-there : {A : Type 0} (o : Option A) → IsSome o → (a : A) × (o ≡ Some a)
some-there None is = absurd (cc is)
some-there (Some a) is = (a, refl)

-- Guest clusters of one L2 table got a table of their own, and were cleared.
module _ {S : Type 0} (g : Ghosts S) (how : Clearing) (guest n : ℕ) (old new : Qcow2 S g) (answer : Result Unit Fault)
    (c : ChangesPart g how guest n old answer new) where
  abbrev mid : Qcow2 S g
  mid = c.middle

  abbrev s : StorageState
  s = g.state old.tables.file.image

  abbrev t : StorageState
  t = g.state mid.tables.file.image

  abbrev u : StorageState
  u = g.state new.tables.file.image

  readied : KeepsDisk g ⊤ old mid
  readied = c.readies.keeps

  middle-fixed : (layer_of g mid).fixed ≡ (layer_of g old).fixed
  middle-fixed = λ i. qcow2_fixed (readied.shape i) (record old.tables.file.header.fields { version = readied.version i; cluster_bits = readied.bits i })
      (readied.mode i) (readied.number i)

  pub changed-size : new.tables.file.header.fields.size ≡ old.tables.file.header.fields.size
  changed-size = ap (λ (K : Header). K.fields.size) c.clears.clears.header ∙ readied.size

  pub changed-bits : new.tables.file.header.fields.cluster_bits ≡ old.tables.file.header.fields.cluster_bits
  changed-bits = ap (λ (K : Header). K.fields.cluster_bits) c.clears.clears.header ∙ readied.bits

  pub changed-version : new.tables.file.header.fields.version ≡ old.tables.file.header.fields.version
  changed-version = ap (λ (K : Header). K.fields.version) c.clears.clears.header ∙ readied.version

  pub changed-state : KeepsLayerState (layer_of g old) (layer_of g new)
  changed-state = record {
    fixed = fixed-same g how c.table guest n mid new answer c.clears ∙ middle-fixed;
    size = changed-size;
    unspent = ap (λ o. mapping_id_held (holding_in g o)) (unspent-same g how c.table guest n mid new answer c.clears ∙ readied.unspent);
    failed = λ was. subst IsTrue (sym (failed-is g how c.table guest n mid new answer c.clears))
        (still-cut answer c.clears.begun mid.failed (readied.failed was));
  }

  pub changed-later : IsLater s u
  changed-later = (c.clears.clears.shape ∙ readied.shape, later_both s t u readied.counts_not_fallen c.clears.clears.counts_not_fallen)

  pub changed-faultless : HadNoResourceError answer → IsFaultless s u
  changed-faultless whole =
      let first = readied.faults tt in
      let second = c.clears.clears.faults (whole-below answer whole) in
      (second.0 ∙ first.0, second.1 ∙ first.1)

  -- The image was well-formed.
  module _ (well_formed : IsWellFormed g old)
      (row : guest % entries_of_cluster old.tables.file.header.fields + n ≤ entries_of_cluster old.tables.file.header.fields) where
    safe-middle : IsWellFormed g mid
    safe-middle = readied.safely well_formed tt

    loaded : (space : Space) × (mid.tables.space ≡ Some space)
    loaded = some-there mid.tables.space c.readies.known

    under : AreUnder n (rest_of g mid.tables loaded.0) c.table guest
    under =
        let link = c.readies.table_linked well_formed in
        under-row g (rest_of g mid.tables loaded.0) c.table guest n (subst (λ (b : ℕ). guest % (2 ^ b / 8) + n ≤ 2 ^ b / 8) (sym readied.bits) row)
        (record { inside = link.1; table_linked = link.2; table_nonzero = link.0 })

    how-cleared : IsUnreserved mid.tables answer new.tables ⊎ ClearsWith g how c.table guest n mid.tables loaded.0 answer new.tables
    how-cleared = c.clears.clears.known loaded.0 loaded.1

    -- Clearing fails only with a resource error.
    pub changed-hard : (e : Fault) → answer ≡ Err e → IsNotResourceError e → ⊥
    changed-hard e is not_resource_error = elim how-cleared [
      | inl unreserved ↦ subst (λ (r : Result Unit Fault). HadNoResourceError r) (sym is ∙ unreserved.0) not_resource_error
      | inr w ↦ refused-hard g how c.table guest n mid new answer c.clears safe-middle loaded.0 loaded.1 under w e is not_resource_error
    ]

    -- A crash image reads as before, or as the guest clusters are cleared.
    pub changed-stops : (below : List Layer) (gives : ℕ → Value → Type 0) → MayBeShown how guest n (layer_of g old) below gives
        → UnrefusedCrashImages (Left below (layer_of g old) s.bytes is_sound (layer_of g old).size (layer_of g old).size gives) s u
    changed-stops below gives shown =
        then_left below is_sound (layer_of g old) (layer_of g mid) (layer_of g old).size (layer_of g old).size gives gives s t u
        (readied.shape, readied.counts_not_fallen) (c.clears.clears.shape, c.clears.clears.counts_not_fallen)
        (ap (λ (l : Layer). l.fixed) same) size (omega arith) (omega arith) (λ p low. inr (inl (ap (λ (l : Layer). at (l ∷ below) p) same)))
        (λ p v low gave. inr (inr gave)) first (subst (λ k. UnrefusedCrashImages (Left below (layer_of g mid) t.bytes is_sound k k gives) t u) size second) where
          same : layer_of g mid ≡ layer_of g old
          same = readied.layer well_formed tt

          size : (layer_of g mid).size ≡ (layer_of g old).size
          size = ap (λ (l : Layer). l.size) same

          first : UnrefusedCrashImages (Left below (layer_of g old) s.bytes is_sound (layer_of g old).size (layer_of g old).size gives) s t
          first = passes_weaker (Left below (layer_of g old) s.bytes is_sound (layer_of g old).size (layer_of g old).size GivesNone)
              (Left below (layer_of g old) s.bytes is_sound (layer_of g old).size (layer_of g old).size gives) s t
              (left_weaker below is_sound (layer_of g old) s.bytes (layer_of g old).size (layer_of g old).size GivesNone gives (λ p v low none. absurd none))
              (readied.crash_images well_formed below)

          second : UnrefusedCrashImages (Left below (layer_of g mid) t.bytes is_sound (layer_of g mid).size (layer_of g mid).size gives) t u
          second = elim how-cleared [
            | inl unreserved ↦ passes_on (Left below (layer_of g mid) t.bytes is_sound (layer_of g mid).size (layer_of g mid).size gives) t t u
                (ap (λ (x : Tables S g). g.state x.file.image) unreserved.1)
                (passes_none (Left below (layer_of g mid) t.bytes is_sound (layer_of g mid).size (layer_of g mid).size gives) t t refl (refl, refl, refl, refl))
            | inr w ↦ stops-cleared g how c.table guest n mid new answer c.clears safe-middle loaded.0 loaded.1 under w below gives
                (subst (λ (l : Layer). MayBeShown how guest n l below gives) (sym same) shown)
          ]

    -- Without a resource error the guest clusters are cleared.
    pub changed-disk : 0 < n → old.unspent ≡ None → answer ≡ Ok tt → DiskCleared g how guest n old new
    changed-disk some free ok = record {
      well_formed = done.well_formed;
      cells = subst (λ (l : Layer). CellsCleared how guest n l (layer_of g new)) (readied.layer well_formed tt) done.cells;
      entries = record {
        there = λ x ours. done.entries.there x ours ∙ ap (cleared how) (readied.raw_entries well_formed tt x);
        elsewhere = λ x. elim (done.entries.elsewhere x) [
          | inl ours ↦ inl ours
          | inr same ↦ inr (same ∙ readied.raw_entries well_formed tt x)
        ];
      };
      leaks = leaks-both g old mid new (c.readies.leaks well_formed tt) done.leaks;
    } where
      done : DiskCleared g how guest n mid new
      done = elim how-cleared [
        | inl unreserved ↦ absurd (let bad : Ok tt ≡ Err Memory = sym ok ∙ unreserved.0 in cc bad)
        | inr w ↦ disk-cleared g how c.table guest n mid new answer c.clears safe-middle loaded.0 loaded.1 under w ok some (readied.unspent ∙ free)
      ]

if-ok : (part : Part) (r : Result Unit Fault) (P : ℕ × ℕ → Type 0) → (r ≡ Ok tt → P (part.start, part.length)) → IfOk (part_answer part r) P
if-ok part (Ok done) P each = each refl
if-ok part (Err e) P each = tt

if-err : (part : Part) (r : Result Unit Fault) (P : Fault → Type 0) → ((e : Fault) → r ≡ Err e → P e) → IfErr (part_answer part r) P
if-err part (Ok done) P each = tt
if-err part (Err e) P each = each e refl

whole-answer : (part : Part) (r : Result Unit Fault) → HadNoResourceError (part_answer part r) → HadNoResourceError r
whole-answer part (Ok done) whole = tt
whole-answer part (Err e) whole = whole

-- Each byte of a cleared guest cluster becomes what the call allows, in the image and in crash images.
becomes-by : (call : PartCall) (layer : Layer) (p : ℕ) (was is : Cell) → is ≡ cell_of layer.fixed.blank (cleared_value (clearing_of call))
    → Becomes call layer p was is
becomes-by ensures_zero layer p was is same = same
becomes-by discards_to_zero layer p was is same = same
becomes-by discards_to_any layer p was is same = inr (byte 0, (0, omega arith, refl), same)
becomes-by discards_to_backing layer p was is same = inr same

below-blank : (below : List Layer) (layer : Layer) (p : ℕ) → (layer.fixed.blank ≡ unmapped) ⊎ (layer.fixed.blank ≡ own (byte 0))
    → IsToldOver discards_to_backing below layer → through layer.fixed.blank (at below p) ≡ at below p
below-blank below layer p (inl gap) told = ap (λ (x : Cell). through x (at below p)) gap
below-blank [] layer p (inr zero) told = ap (λ (x : Cell). through x (byte 0)) zero
below-blank (next ∷ below) layer p (inr zero) told = ap (λ (x : Cell). through x (at (next ∷ below) p)) told

gives-by : (call : PartCall) (below : List Layer) (layer : Layer) (offset n p : ℕ) → (layer.fixed.blank ≡ unmapped) ⊎ (layer.fixed.blank ≡ own (byte 0))
    → IsToldOver call below layer → IsIn offset n p
    → PartGives call below offset n p (through (cell_of layer.fixed.blank (cleared_value (clearing_of call))) (at below p))
gives-by ensures_zero below layer offset n p blank told here = (here, refl)
gives-by discards_to_zero below layer offset n p blank told here = (here, refl)
gives-by discards_to_any below layer offset n p blank told here = (here, (0, omega arith, refl))
gives-by discards_to_backing below layer offset n p blank told here = (here, below-blank below layer p blank told)

-- The whole call allows each byte of a cleared guest cluster to change so.
may-become : (call : PartCall) (whole : Call) (blank was is : Cell) → IsFor call whole → (blank ≡ unmapped) ⊎ (blank ≡ own (byte 0))
    → is ≡ cell_of blank (cleared_value (clearing_of call)) → MayBecome whole was is
may-become ensures_zero whole blank was is is_for either same = inr (inl (0, same))
may-become discards_to_zero whole blank was is is_for either same = inr (inl (0, same))
may-become discards_to_any whole blank was is is_for either same = inr (inl (0, same))
may-become discards_to_backing whole blank was is is_for (inl gap) same = inr (inr (is_for, same ∙ gap))
may-become discards_to_backing whole blank was is is_for (inr zero) same = inr (inl (0, same ∙ zero))

-- The clearing keeps no host cluster.
abbrev IsDiscard : Clearing → Type 0
IsDiscard Keep = ⊥
IsDiscard GiveUp = ⊤
IsDiscard Unmap = ⊤

discarded-none : (how : Clearing) (m : Mapping) → IsDiscard how → TakesNone (cleared how m)
discarded-none Keep m discards = absurd discards
discarded-none GiveUp m discards = tt
discarded-none Unmap m discards = tt

done-by : {D St : Type 0} (call : PartCall) (g : SeenGhosts D St) (d : D) (p : ℕ) → g.zeroed d p
    → (IsDiscard (clearing_of call) → g.unallocated d p) → IsDone call g d p
done-by ensures_zero g d p zeroed none = zeroed
done-by discards_to_zero g d p zeroed none = none tt
done-by discards_to_any g d p zeroed none = none tt
done-by discards_to_backing g d p zeroed none = none tt

leaves-by : {D St : Type 0} (call : PartCall) (g : SeenGhosts D St) (offset n : ℕ) (old new : D)
    → (clearing_of call ≡ Keep → Takes g (IsOut offset n) old new) → (IsDiscard (clearing_of call) → GivesUp g offset n old new)
    → LeavesPart call g offset n old new
leaves-by ensures_zero g offset n old new takes gives-up = takes refl
leaves-by discards_to_zero g offset n old new takes gives-up = gives-up tt
leaves-by discards_to_any g offset n old new takes gives-up = gives-up tt
leaves-by discards_to_backing g offset n old new takes gives-up = gives-up tt

pub one-or-not : (guest n x : ℕ) → IsInClusters guest n x ⊎ (IsInClusters guest n x → ⊥)
one-or-not guest n x = elim (cases_lt x guest) [
  | inl before ↦ inr (λ ours. omega (arith, before, ours.0))
  | inr from ↦ elim (cases_lt x (guest + n)) [
    | inl to ↦ inl (from, to)
    | inr behind ↦ inr (λ ours. omega (arith, behind, ours.1))
  ]
]

-- A byte is unchanged, or is cleared.
cell-either : (how : Clearing) (guest n : ℕ) (old new : Layer) → CellsCleared how guest n old new → (p : ℕ)
    → (new.cell p ≡ old.cell p) ⊎ (new.cell p ≡ cell_of old.fixed.blank (cleared_value how))
cell-either how guest n old new c p = elim (one-or-not guest n (p / old.fixed.unit)) [
  | inr out ↦ inl (c.elsewhere p (λ ours low. out ours))
  | inl ours ↦ elim (cases_lt p old.size) [
    | inl low ↦ inr (c.there p ours low)
    | inr behind ↦ inl (c.elsewhere p (λ is low. omega (arith, behind, low)))
  ]
]

-- Each byte of a guest cluster of the part is one of the part.
part-ours : (h : Fields) (offset n : ℕ) (part : Part) → IsWholePart h offset n part → (p : ℕ) → p < h.size
    → IsInClusters part.guest part.count (p / cluster_size h) → IsIn part.start part.length p
part-ours h offset n part is p low ours = elim (cases_lt p part.start) [
  | inl before ↦ absurd (part-all h offset n part is p (inl before) low ours)
  | inr from ↦ elim (cases_lt p (part.start + part.length)) [
    | inl to ↦ (from, to)
    | inr behind ↦ absurd (part-all h offset n part is p (inr behind) low ours)
  ]
]

module _ (R : RattleType) (st : Ghosts R.Denot) (sd : mir.Syntax.Dict) (dd : mir.Syntax.Dict) (call : PartCall) (offset n : ℕ)
    (old new : Qcow2 R.Denot st) where
  abbrev driver : SeenGhosts (Qcow2 R.Denot st) PreparedMappingState
  driver = ghosts R st sd dd

  abbrev h : Fields
  h = old.tables.file.header.fields

  abbrev h' : Fields
  h' = new.tables.file.header.fields

  module _ (part : Part) (whole-part : IsWholePart h offset n part) (some : 0 < part.count) (free : old.unspent ≡ None)
      (possible : IsPossible (clearing_of call) h.version) (answer : Result Unit Fault) (c : ChangesPart st (clearing_of call) part.guest part.count old answer new) where
    abbrev how : Clearing
    how = clearing_of call

    abbrev IsOurs : ℕ → Type 0
    IsOurs p = IsInClusters part.guest part.count (p / cluster_size h)

    disk : IsWellFormed st old → answer ≡ Ok tt → DiskCleared st how part.guest part.count old new
    disk well_formed ok = changed-disk st how part.guest part.count old new answer c well_formed whole-part.row some free ok

    hard : IsWellFormed st old → (e : Fault) → answer ≡ Err e → IsNotResourceError e → ⊥
    hard well_formed = changed-hard st how part.guest part.count old new answer c well_formed whole-part.row

    -- Without a resource error the call succeeds.
    succeeds : IsWellFormed st old → HadNoResourceError answer → answer ≡ Ok tt
    succeeds well_formed = from answer refl where
      from : (r : Result Unit Fault) → answer ≡ r → HadNoResourceError r → r ≡ Ok tt
      from (Ok done) is whole = refl
      from (Err e) is whole = absurd (hard well_formed e is whole)

    done : IsWellFormed st old → HadNoResourceError (part_answer part answer) → DiskCleared st how part.guest part.count old new
    done well_formed whole = disk well_formed (succeeds well_formed (whole-answer part answer whole))

    blank-either : ((layer_of st old).fixed.blank ≡ unmapped) ⊎ ((layer_of st old).fixed.blank ≡ own (byte 0))
    blank-either = blanks old.mode.backing

    state : KeepsLayerState (layer_of st old) (layer_of st new)
    state = changed-state st how part.guest part.count old new answer c

    in-range : (p : ℕ) → p < h.size → IsOurs p → IsIn offset n p
    in-range p low ours = (part-byte h offset n part whole-part p (part-ours h offset n part whole-part p low ours)).2

    -- The mapping of each byte, before and after.
    abbrev was : ℕ → Mapping
    was p = entry (memory_of st old.tables) h (p / cluster_size h)

    abbrev is-now : ℕ → Mapping
    is-now p = entry (memory_of st new.tables) h' (p / cluster_size h')

    now-in-file : (p : ℕ) → is-now p ≡ entry (file_of st new.tables) h' (p / cluster_size h)
    now-in-file p = ap (λ (m : Bytes). entry m h' (p / cluster_size h')) (memory-is st new.tables)
        ∙ ap (λ (b : ℕ). entry (file_of st new.tables) h' (p / 2 ^ b)) (changed-bits st how part.guest part.count old new answer c)

    was-in-file : (p : ℕ) → entry (file_of st old.tables) h (p / cluster_size h) ≡ was p
    was-in-file p = sym (ap (λ (m : Bytes). entry m h (p / cluster_size h)) (memory-is st old.tables))

    out-of-range : {A : Type 0} (p : ℕ) → IsOut offset n p → IsOurs p → p < h.size → A
    out-of-range p out ours low =
        let inside = in-range p low ours in
        absurd (elim out [ inl before ↦ omega (arith, before, inside.0) | inr behind ↦ omega (arith, behind, inside.1) ])

    module _ (d : DiskCleared st how part.guest part.count old new) where
      word-there : (p : ℕ) → IsOurs p → is-now p ≡ cleared how (was p)
      word-there p ours = now-in-file p ∙ d.entries.there (p / cluster_size h) ours ∙ ap (cleared how) (was-in-file p)

      word-either : (p : ℕ) → (IsOurs p × (is-now p ≡ cleared how (was p))) ⊎ (is-now p ≡ was p)
      word-either p = elim (d.entries.elsewhere (p / cluster_size h)) [
        | inl ours ↦ inl (ours, word-there p ours)
        | inr same ↦ inr (now-in-file p ∙ same ∙ was-in-file p)
      ]

      -- If clearing an entry keeps a property of the entry, each byte with that property, or past the end, still has it.
      stays : (P : Mapping → Type 0) (p : ℕ) → ((m : Mapping) → P m → P (cleared how m)) → (h.size ≤ p) ⊎ P (was p) → (h'.size ≤ p) ⊎ P (is-now p)
      stays P p keeps (inl behind) = inl (subst (λ k. k ≤ p) (sym state.size) behind)
      stays P p keeps (inr there) = inr (elim (word-either p) [
        | inl ours ↦ subst P (sym ours.1) (keeps (was p) there)
        | inr same ↦ subst P (sym same) there
      ])

      room-stays : (p : ℕ) → (IsOurs p → p < h.size → HasCluster (was p) → HasCluster (cleared how (was p))) → HasRoom (memory_of st old.tables) h p
          → HasRoom (memory_of st new.tables) h' p
      room-stays p keeps has = record {
        inside = subst (λ k. p < k) (sym state.size) has.inside;
        own = elim (word-either p) [
          | inl ours ↦ subst HasCluster (sym ours.1) (keeps ours.0 has.inside has.own)
          | inr same ↦ subst HasCluster (sym same) has.own
        ];
      }

      takes : how ≡ Keep → Takes driver (IsOut offset n) old new
      takes keep = record {
        stays_allocated = λ p left. room-stays p (λ ours low has. subst (λ k. HasCluster (cleared k (was p))) (sym keep) (zeroed-keeps (was p) has));
        free = λ p out. stays TakesNone p (λ m none. subst (λ k. TakesNone (cleared k m)) (sym keep) (zeroed-takes m none));
        zeroes = λ p left out. stays ReadsNone p (λ m none. cleared-reads how m);
      }

      gives-up : IsDiscard how → GivesUp driver offset n old new
      gives-up discards = record {
        stays_allocated = λ p out. room-stays p (λ ours low has. out-of-range p out ours low);
        free = λ p left. stays TakesNone p (λ m none. discarded-none how m discards);
        zeroes = λ p out left. stays ReadsNone p (λ m none. cleared-reads how m);
      }

      given : (p : ℕ) → IsIn part.start part.length p → IsDone call driver new p
      given p here =
          let word = word-there p (part-byte h offset n part whole-part p here).0 in
          done-by call driver new p (inr (subst ReadsNone (sym word) (cleared-reads how (was p))))
          (λ discards. inr (subst TakesNone (sym word) (discarded-none how (was p) discards)))

      rewrites : Rewrites (Becomes call (layer_of st old)) (layer_of st old) (layer_of st new) part.start part.length
      rewrites = record {
        keeps_layer_state = state;
        range = λ p here.
            let there = part-byte h offset n part whole-part p here in
            becomes-by call (layer_of st old) p ((layer_of st old).cell p) ((layer_of st new).cell p) (d.cells.there p there.0 there.1);
        others = λ p out. d.cells.elsewhere p (λ ours low. part-all h offset n part whole-part p out low ours);
      }

      -- If the entry of a byte is the same, so is its writable location.
      location-same : (p : ℕ) → is-now p ≡ was p → writable_locations_of st new p ≡ writable_locations_of st old p
      location-same p same =
          let writable : new.mode.writable ≡ old.mode.writable = ap (λ (f : Fixed). f.writable) state.fixed in
          let by = ap (writable_location_by h' p) same
          ∙ home-bits h h' p (was p) (changed-bits st how part.guest part.count old new answer c) in
          λ i. if writable i && ltb p (state.size i) then by i else None

      -- The call may clear the entries of the part.
      may-clear : (whole : Call) → IsFor call whole → IsPartOf whole offset n → (p : ℕ) → p < h.size → IsOurs p → MayBeCleared h whole p
      may-clear whole is_for of p low ours =
          let there = part-unit h offset n part whole-part p low ours in record {
            part = call;
            is_for = is_for;
            possible = possible;
            cluster = p / cluster_size h;
            here = there.0;
            whole = whole-of-call (cluster_size h) h.size whole offset n (p / cluster_size h) of there.1;
          }

      since : (whole : Call) → IsFor call whole → IsPartOf whole offset n → Since st old whole new
      since whole is_for of = record {
        writable_locations = λ p keeps at is. elim (word-either p) [
          | inl ours ↦
              let there = home-there old.mode.writable (memory_of st old.tables) h p at is in
              absurd (keeps (may-clear whole is_for of p there.1 ours.0))
          | inr same ↦ location-same p same ∙ is
        ];
        cells = λ p. elim (cell-either how part.guest part.count (layer_of st old) (layer_of st new) d.cells p) [
          | inl same ↦ inl same
          | inr is ↦ may-become call whole (layer_of st old).fixed.blank ((layer_of st old).cell p) ((layer_of st new).cell p) is_for blank-either is
        ];
        size = changed-size st how part.guest part.count old new answer c;
        bits = changed-bits st how part.guest part.count old new answer c;
        version = changed-version st how part.guest part.count old new answer c;
        leaks = d.leaks;
      }

    -- The call leaks nothing.
    changes-leaks : IsWellFormed st old → HadNoResourceError (part_answer part answer) → KeepsLeaks st old new
    changes-leaks well_formed whole = (done well_formed whole).leaks

    changes-does : DoesPart call driver offset n (part_answer part answer) old new
    changes-does = record {
      ok = λ well_formed. if-ok part answer (λ r. Rewrites (Becomes call (layer_of st old)) (layer_of st old) (layer_of st new) r.0 r.1)
          (λ ok. rewrites (disk well_formed ok));
      err = λ well_formed. if-err part answer
          (λ e. IsNotResourceError e → PartRewrites (Becomes call (layer_of st old)) (layer_of st old) (layer_of st new) offset n)
          (λ e is not_resource_error. absurd (hard well_formed e is not_resource_error));
      reach = λ well_formed. if-ok part answer (λ r. Reaches (layer_of st old).fixed.unit (layer_of st old).size offset n r.0 r.1)
          (λ ok. part-reaches h offset n part whole-part
          (some-words h (consistent-shaped (file_of st old.tables) old.tables.file.header well_formed.consistent)));
      given = λ well_formed. if-ok part answer (λ r. (p : ℕ) → IsIn r.0 r.1 p → IsDone call driver new p) (λ ok. given (disk well_formed ok));
      room = λ well_formed whole. leaves-by call driver offset n old new (takes (done well_formed whole)) (gives-up (done well_formed whole));
      keeps_layer_state = state;
      mutating_call = record {
        fixed = state.fixed;
        failed = state.failed;
        counts_not_fallen = (changed-later st how part.guest part.count old new answer c, tt);
        faults = λ whole. (changed-faultless st how part.guest part.count old new answer c (whole-answer part answer whole), tt);
        safely = λ whole well_formed. (done well_formed whole).well_formed;
        stays_stable = λ l. l;
        excess_refcount = λ whole well_formed. surplus-kept st old new (changes-leaks well_formed whole);
      };
      stays_begun = λ d whole begun of is_for whole-result. λ well_formed.
          let before = begun well_formed in
          let now = done before.0 whole-result in
          (now.well_formed, since-then st whole d old new before.1 (since now whole is_for of));
      crash_images = λ well_formed below told. changed-stops st how part.guest part.count old new answer c well_formed whole-part.row below
          (PartGives call below offset n)
          (λ p low ours. gives-by call below (layer_of st old) offset n p blank-either told (in-range p low ours));
    }

    caused : (e : Fault) → answer ≡ Err e
        → HasCause (writing_causes ⊥ (st.state c.middle.tables.file.image).faults (st.state new.tables.file.image).faults) e
    caused e is = subst (λ r. IfErr r (HasCause (writing_causes ⊥ (st.state c.middle.tables.file.image).faults
        (st.state new.tables.file.image).faults))) is c.clears.clears.cause

    -- The storage had no fault before the entries were cleared.
    rose : HasRisen (st.state c.middle.tables.file.image).faults (st.state new.tables.file.image).faults
        → HasRisen (st.state old.tables.file.image).faults (st.state new.tables.file.image).faults
    rose = subst (λ k. HasRisen k (st.state new.tables.file.image).faults) (c.readies.keeps.faults tt).0

    image-cause : (e : Fault) → HasCause (writing_causes ⊥ (st.state c.middle.tables.file.image).faults (st.state new.tables.file.image).faults) e
        → ImageCause (files driver old) (files driver new) e
    image-cause Memory why = tt
    image-cause Storage why = inl (rose why)
    image-cause DamagedTable why = tt
    image-cause e why = absurd why

    marks-by : (e : Fault) → LeavesMarkedFailed st old new e → MarksFailed driver old new e
    marks-by Storage is = λ marks. is
    marks-by Memory (inl is) = λ marks. inl is
    marks-by Memory (inr kept) = marks-kept R st sd dd {T = Unit} old new (Err Memory) kept
    marks-by e is = tt

    part-cause : (below : List Layer) (causes : Fault → Type 0) (e : Fault) → (IsNotResourceError e → ⊥)
        → HasCause (writing_causes ⊥ (st.state c.middle.tables.file.image).faults (st.state new.tables.file.image).faults) e
        → DeclinableCause below (layer_of st old) offset n causes (files driver old) (files driver new) e
    part-cause below causes Memory only why = tt
    part-cause below causes Storage only why = inl (rose why)
    part-cause below causes DamagedTable only why = absurd (only tt)
    part-cause below causes e only why = absurd why

    changes-refused : PartRefused call driver offset n (part_answer part answer) old new
    changes-refused = record {
      failed = if-err part answer (ImageCause (files driver old) (files driver new)) (λ e is. image-cause e (caused e is));
      marks_failed = if-err part answer (MarksFailed driver old new)
          (λ e is. marks-by e (subst (λ r. IfErr r (LeavesMarkedFailed st old new)) is c.marked));
      cause = λ well_formed below d whole begun of is_for. if-err part answer
          (DeclinableCause below (layer_of st old) offset n (driver.own_cause d below whole) (files driver old) (files driver new))
          (λ e is. part-cause below (driver.own_cause d below whole) e (hard well_formed e is) (caused e is));
    }

    -- The same for the result of the call.
    module _ (result : Result (ℕ × ℕ) Fault) (is : result ≡ part_answer part answer) where
      pub part-does : DoesPart call driver offset n result old new
      part-does = subst (λ r. DoesPart call driver offset n r old new) (sym is) changes-does

      pub part-refused : PartRefused call driver offset n result old new
      part-refused = subst (λ r. PartRefused call driver offset n r old new) (sym is) changes-refused

      pub part-leaks : IsWellFormed st old → HadNoResourceError result → KeepsLeaks st old new
      part-leaks well_formed whole = changes-leaks well_formed (subst (λ r. HadNoResourceError r) is whole)

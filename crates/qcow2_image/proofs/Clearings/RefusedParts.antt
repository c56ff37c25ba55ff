-- Lemmas on zeroes and discards of a range that clear no entry: the version has no zero entries, the guest clusters are unmapped already, or
-- an L2 table of their own can't be made.
use Rattle.std.proofs.Common.{◌≡◌, ℕ, ◌+◌, ◌*◌, ◌/◌, ◌<◌, ◌≤◌, length, refl, arith, ap, sym, subst, ◌∙◌, false, inl, inr, List, None, Ok, Err}
use Rattle.std.specs.Prelude.{⊤, ◌⊎◌, ◌≢◌, ◌-◌, slice_index}
use Rattle.std.specs.Borrow.{RattleType}
use Rattle.std.proofs.Math.Nat.{div-mul-le_self}
use Rattle.std.proofs.lemmas.List.{get_or_past}
use Rattle.std.proofs.lemmas.Nat.{le-div}
use Rattle.imago_storage.specs.Disk.{Value}
use Rattle.imago_storage.specs.Steps.{Call, IsIn}
use Rattle.imago_storage.specs.declared.fault.Fault.{Fault}
use Rattle.imago_storage.specs.declared.fault.Fault.TheVariants.{Counter, DamagedTable, Limit, Memory, Storage, VersionLimit}
use Rattle.imago_storage.specs.declared.storage.Storage.{Ghosts}
use Rattle.imago_access.specs.Files.{ImageCause, IsNotResourceError, files}
use Rattle.imago_access.specs.Going.{MarksFailed}
use Rattle.imago_access.specs.Layer.{Cell, KeepsLayerState, Layer}
use Rattle.imago_access.specs.PartCalls.{DoesPart, IsFor, LeavesPart, PartCall, PartGives, PartRefused, discards_to_any, discards_to_backing, discards_to_zero, ensures_zero}
use Rattle.imago_access.specs.Parts.{DeclinableCause, IsPartOf}
use Rattle.imago_access.specs.Room.{IsOfUnit, IsWholeUnit, Takes}
use Rattle.imago_access.specs.Stops.{GivesNone, KeepsCrashImages, Left}
use Rattle.imago_access.specs.declared.driver_model.DriverModel.{Ghosts as SeenGhosts}
use Rattle.imago_access.proofs.Stopping.{left_weaker, passes_weaker}
use Rattle.qcow2_types.specs.Bytes.{Bytes, be}
use Rattle.qcow2_types.specs.Header.{Fields, Header, cluster_size, entries_of_cluster, fields_of, header_of}
use Rattle.qcow2_types.specs.Entries.{entry}
use Rattle.qcow2_types.specs.Words.{unmapped}
use Rattle.qcow2_types.proofs.Fields.HeaderFrame.{header-fields}
use Rattle.qcow2_types.proofs.Switching.HeaderSwitch.{loaded-parts, version-known}
use Rattle.qcow2_clusters.specs.Linking.{TakesNone}
use Rattle.qcow2_alloc.specs.Causes.{HasCause}
use Rattle.qcow2_clusters.specs.Clearing.{IsPossible}
use Rattle.qcow2_clusters.specs.declared.clearing.Clearing.TheVariants.{Unmap}
use Rattle.qcow2_image.specs.Allocating.{reserving_causes}
use Rattle.qcow2_image.specs.Clearing.{IsWholePart, ReadiesTable, clearing_of}
use Rattle.qcow2_image.specs.FreeSpace.{LacksPlaceForTable}
use Rattle.qcow2_image.specs.Holding.{mapping_id_held}
use Rattle.qcow2_image.specs.Looking.{cluster_named, place_of_table}
use Rattle.qcow2_image.specs.Rooms.{IsWellFormed, is_sound}
use Rattle.qcow2_image.specs.Seen.{file_of, layer_of, memory_of}
use Rattle.qcow2_image.specs.Unspent.{holding_in}
use Rattle.qcow2_image.specs.Writing.{HadNoPlace, MayBeCleared}
use Rattle.qcow2_image.specs.contracts.qcow2.Qcow2DriverModel.TheImpl.{ghosts}
use Rattle.qcow2_image.specs.declared.clearing.Part.{Part}
use Rattle.qcow2_image.specs.declared.qcow2.PreparedMappingState.{PreparedMappingState}
use Rattle.qcow2_image.specs.declared.qcow2.Qcow2.{Qcow2}
use Rattle.qcow2_image.proofs.CallNeeds.{cleared-before, whole-of-call}
use Rattle.qcow2_image.proofs.Clearings.IdleParts.{idle-does}
use Rattle.qcow2_image.proofs.Clearings.WholeParts.{IsOfPart, part-byte, part-reaches, rest-from, rest-reaches}
use Rattle.qcow2_image.proofs.FileWords.{entry-of-none}
use Rattle.qcow2_image.proofs.LeaksByFile.{surplus-kept}
use Rattle.qcow2_image.proofs.Preparations.DriverPreparations.{fixed-kept, since-disk, takes-disk}
use Rattle.qcow2_image.proofs.Steps.{marks-kept, memory-is}
use Rattle.qcow2_image.proofs.WordLookups.{one-row}
use Rattle.qcow2_image.specs.Preparing.{LeavesMarkedFailed}

below-three : (v : ℕ) → (v ≡ 2) ⊎ (v ≡ 3) → (v ≡ 3 → ⊥) → v < 3
below-three v (inl older) other = omega (arith, older)
below-three v (inr newer) other = absurd (other newer)

-- Entries of zeroes need version 3.
impossible-flag : (call : PartCall) (v : ℕ) → (v ≡ 2) ⊎ (v ≡ 3) → (IsPossible (clearing_of call) v → ⊥) → (v < 3) × (call ≢ discards_to_backing)
impossible-flag ensures_zero v known none = (below-three v known none, λ same. cc same)
impossible-flag discards_to_zero v known none = (below-three v known none, λ same. cc same)
impossible-flag discards_to_any v known none = (below-three v known none, λ same. cc same)
impossible-flag discards_to_backing v known none = absurd (none tt)

version-there : (f : Bytes) (h : Fields) → fields_of f ≡ h → be f 4 4 ≡ h.version
unfolding fields_of
version-there f h is = ap (λ (x : Fields). x.version) is

version-loaded : (f : Bytes) (H : Header) → header_of false f ≡ Ok H → (H.fields.version ≡ 2) ⊎ (H.fields.version ≡ 3)
version-loaded f H loads =
    subst (λ (v : ℕ). (v ≡ 2) ⊎ (v ≡ 3)) (version-there f H.fields (sym (header-fields false f H loads))) (version-known f (loaded-parts false f H loads).kind)

-- Only a discard to the backing file unmaps.
pub unmaps-backing : (call : PartCall) → clearing_of call ≡ Unmap → call ≡ discards_to_backing
unmaps-backing ensures_zero is = absurd (cc is)
unmaps-backing discards_to_zero is = absurd (cc is)
unmaps-backing discards_to_any is = absurd (cc is)
unmaps-backing discards_to_backing is = refl

module _ (R : RattleType) (st : Ghosts R.Denot) (sd : mir.Syntax.Dict) (dd : mir.Syntax.Dict) (call : PartCall) (offset n : ℕ) where
  abbrev coherent : SeenGhosts (Qcow2 R.Denot st) PreparedMappingState
  coherent = ghosts R st sd dd

  -- The image's version has no entries of zeroes.
  pub version-refused : (d : Qcow2 R.Denot st) → (IsPossible (clearing_of call) d.tables.file.header.fields.version → ⊥)
      → PartRefused call coherent offset n (Err VersionLimit) d d
  version-refused d none = record {
    failed = tt;
    marks_failed = tt;
    cause = λ well_formed below e whole begun of is_for was.
        let since = (begun was).1 in
        let flag = impossible-flag call d.tables.file.header.fields.version
        (version-loaded (file_of st d.tables) d.tables.file.header well_formed.seen.loads) none in
        (subst (λ v. v < 3) since.version flag.0, (call, is_for, flag.1));
  }

  -- Guest clusters without an L2 table are unmapped.
  module _ (d : Qcow2 R.Denot st) (part : Part) (is-part : IsWholePart d.tables.file.header.fields offset n part)
      (none : place_of_table d.tables.l1.raw_entries d.tables.file.header.fields.cluster_bits part.guest ≡ None) where
    abbrev h : Fields
    h = d.tables.file.header.fields

    unmapped-at : IsWellFormed st d → (x : ℕ) → IsOfPart h offset n part is-part x → entry (file_of st d.tables) h x ≡ unmapped
    unmapped-at well_formed x ours =
        let whole : part.guest + (x - part.guest) ≡ x = omega (arith, ours.0) in
        let low : x - part.guest < part.count = omega (arith, ours.0, ours.1) in
        subst (λ y. entry (file_of st d.tables) h y ≡ unmapped) whole
        (entry-of-none (file_of st d.tables) h d.tables.l1 well_formed.seen.l1 (part.guest + (x - part.guest))
        (ap (λ k. cluster_named h.cluster_bits (slice_index d.tables.l1.raw_entries k))
        (one-row part.guest part.count (entries_of_cluster h) (x - part.guest) is-part.row low) ∙ none))

    takes-none : IsWellFormed st d → (p : ℕ) → IsIn part.start part.length p → TakesNone (entry (memory_of st d.tables) h (p / cluster_size h))
    takes-none well_formed p at =
        subst TakesNone (sym (ap (λ m. entry m h (p / cluster_size h)) (memory-is st d.tables)
        ∙ unmapped-at well_formed (p / cluster_size h) (part-byte h offset n part is-part p at).0)) tt

    pub skips-does : (kind : PartCall) → kind ≡ discards_to_backing → 0 < entries_of_cluster h
        → DoesPart kind coherent offset n (Ok (part.start, part.length)) d d
    skips-does kind is some = subst (λ k. DoesPart k coherent offset n (Ok (part.start, part.length)) d d) (sym is)
        (idle-does coherent discards_to_backing offset n d (Ok (part.start, part.length))
        (λ well_formed. part-reaches h offset n part is-part some)
        (λ well_formed p at. (inl refl, inr (takes-none well_formed p at))))

  -- Guest clusters past the end of the L1 table are unmapped.
  module _ (d : Qcow2 R.Denot st) (part : Part) (is-part : IsWholePart d.tables.file.header.fields offset n part) (any : 0 < part.count)
      (past : length d.tables.l1.raw_entries ≤ part.guest / entries_of_cluster d.tables.file.header.fields) where
    abbrev K : Fields
    K = d.tables.file.header.fields

    past-unmapped : IsWellFormed st d → (x : ℕ) → part.guest ≤ x → entry (file_of st d.tables) K x ≡ unmapped
    past-unmapped well_formed x from =
        let e = entries_of_cluster K in
        let row = is-part.row in
        let some : 0 < e = omega (arith, row, any) in
        let down : part.guest / e * e ≤ part.guest = div-mul-le_self part.guest e in
        let later : part.guest / e ≤ x / e = le-div (part.guest / e) x e some (omega (arith, down, from)) in
        entry-of-none (file_of st d.tables) K d.tables.l1 well_formed.seen.l1 x
        (ap (cluster_named K.cluster_bits) (get_or_past d.tables.l1.raw_entries (x / e) 0 (omega (arith, past, later))))

    past-none : IsWellFormed st d → (p : ℕ) → part.start ≤ p → TakesNone (entry (memory_of st d.tables) K (p / cluster_size K))
    past-none well_formed p from =
        subst TakesNone (sym (ap (λ m. entry m K (p / cluster_size K)) (memory-is st d.tables)
        ∙ past-unmapped well_formed (p / cluster_size K) (rest-from K offset n part is-part any p from))) tt

    pub rest-does : (kind : PartCall) → kind ≡ discards_to_backing → DoesPart kind coherent offset n (Ok (part.start, part.rest)) d d
    rest-does kind is = subst (λ k. DoesPart k coherent offset n (Ok (part.start, part.rest)) d d) (sym is)
        (idle-does coherent discards_to_backing offset n d (Ok (part.start, part.rest))
        (λ well_formed. rest-reaches K offset n part is-part any)
        (λ well_formed p at. (inl refl, inr (past-none well_formed p at.0))))

  -- The L2 table isn't made. The disk reads as before.
  module _ (old new : Qcow2 R.Denot st) (e : Fault) (free : old.unspent ≡ None) (guest : ℕ)
      (readies : ReadiesTable st guest old (Err e) new) (marked : LeavesMarkedFailed st old new e) where
    abbrev H : Fields
    H = old.tables.file.header.fields

    none-held-now : mapping_id_held (holding_in st old.unspent) ≡ None
    none-held-now = ap (λ u. mapping_id_held (holding_in st u)) free

    same-state : KeepsLayerState (layer_of st old) (layer_of st new)
    same-state = record {
      fixed = fixed-kept R st sd dd old new (IsNotResourceError e) readies.keeps;
      size = readies.keeps.size;
      unspent = ap (λ v. mapping_id_held (holding_in st v)) readies.keeps.unspent;
      failed = readies.keeps.failed;
    }

    leaves : (kind : PartCall) → Takes coherent (λ _. ⊤) old new → LeavesPart kind coherent offset n old new
    leaves ensures_zero t = record { stays_allocated = t.stays_allocated; free = λ p s. t.free p tt; zeroes = λ p l s. t.zeroes p tt tt }
    leaves discards_to_zero t = record { stays_allocated = λ p l. t.stays_allocated p tt; free = t.free; zeroes = λ p l s. t.zeroes p tt tt }
    leaves discards_to_any t = record { stays_allocated = λ p l. t.stays_allocated p tt; free = t.free; zeroes = λ p l s. t.zeroes p tt tt }
    leaves discards_to_backing t = record { stays_allocated = λ p l. t.stays_allocated p tt; free = t.free; zeroes = λ p l s. t.zeroes p tt tt }

    crash-images : IsWellFormed st old → (below : List Layer) (gives : ℕ → Value → Type 0) → KeepsCrashImages coherent below gives old new
    crash-images well_formed below gives =
        let layer = layer_of st old in let s = st.state old.tables.file.image in let s' = st.state new.tables.file.image in
        passes_weaker (Left below layer s.bytes is_sound layer.size layer.size GivesNone) (Left below layer s.bytes is_sound layer.size layer.size gives) s s'
        (left_weaker below is_sound layer s.bytes layer.size layer.size GivesNone gives (λ p v low none. absurd none))
        (readies.keeps.crash_images well_formed below)

    pub tableless-does : DoesPart call coherent offset n (Err e) old new
    tableless-does = record {
      ok = λ well_formed. tt;
      err = λ well_formed not_resource_error.
          let same = ap (λ (l : Layer). l.cell) (readies.keeps.layer well_formed not_resource_error) in record {
            keeps_layer_state = same-state;
            range = λ p at. inl (ap (λ (f : ℕ → Cell). f p) same);
            others = λ p out. ap (λ (f : ℕ → Cell). f p) same;
          };
      reach = λ well_formed. tt;
      given = λ well_formed. tt;
      room = λ well_formed whole. leaves call (takes-disk R st sd dd old new (IsNotResourceError e) readies.keeps well_formed whole);
      keeps_layer_state = same-state;
      mutating_call = record {
        fixed = fixed-kept R st sd dd old new (IsNotResourceError e) readies.keeps;
        failed = readies.keeps.failed;
        counts_not_fallen = ((readies.keeps.shape, readies.keeps.counts_not_fallen), tt);
        faults = λ whole. (readies.keeps.faults whole, tt);
        safely = λ whole well_formed. readies.keeps.safely well_formed whole;
        stays_stable = λ l. l;
        excess_refcount = λ whole well_formed. surplus-kept st old new (readies.leaks well_formed whole);
      };
      stays_begun = λ d whole begun of is_for not_resource_error. λ was.
          let now = begun was in (
            readies.keeps.safely now.0 not_resource_error,
            since-disk R st sd dd old new (IsNotResourceError e) readies.keeps now.0 not_resource_error none-held-now
                (readies.leaks now.0 not_resource_error) d whole now.1,
          );
      crash_images = λ well_formed below told. crash-images well_formed below (PartGives call below offset n);
    }

    own-failed : (f : Fault) → HasCause (reserving_causes st (LacksPlaceForTable st guest old.tables new.tables) old new) f
        → ImageCause (files coherent old) (files coherent new) f
    own-failed Memory is = tt
    own-failed Storage is = inl is
    own-failed (Limit number) is = tt
    own-failed DamagedTable is = tt
    own-failed Counter is = tt
    own-failed f is = absurd is

    own-marks : (f : Fault) → LeavesMarkedFailed st old new f → MarksFailed coherent old new f
    own-marks Storage is = λ marks. is
    own-marks Memory (inl is) = λ marks. inl is
    own-marks Memory (inr kept) = marks-kept R st sd dd {T = Unit} old new (Err Memory) kept
    own-marks f is = tt

    -- The call has a byte of the guest cluster in its range.
    module _ (possible : IsPossible (clearing_of call) H.version) (first : ℕ) (in-range : IsIn offset n first)
        (its : first / cluster_size H ≡ guest) (here : IsOfUnit (cluster_size H) H.size (first / cluster_size H) first)
        (whole-unit : IsWholeUnit (cluster_size H) H.size offset n (first / cluster_size H)) (well_formed : IsWellFormed st old) (below : List Layer) (d : Qcow2 R.Denot st) (whole : Call) (begun : coherent.began d whole old) (part : IsPartOf whole offset n)
        (is-for : IsFor call whole) where
      clears : IsWellFormed st d → MayBeCleared d.tables.file.header.fields whole first
      clears was =
          let since = (begun was).1 in
          cleared-before d.tables.file.header.fields H whole first since.size since.bits since.version (record {
            part = call;
            is_for = is-for;
            possible = possible;
            cluster = first / cluster_size H;
            here = here;
            whole = whole-of-call (cluster_size H) H.size whole offset n (first / cluster_size H) part whole-unit;
          })

      had : (number : ℕ) → IsNotResourceError e → LacksPlaceForTable st guest old.tables new.tables number → IsWellFormed st d
          → HadNoPlace st d whole first number
      had number not_resource_error lacks was = record {
        now = old;
        well_formed = well_formed;
        since = (begun was).1;
        left = new;
        left_safe = readies.keeps.safely well_formed not_resource_error;
        left_disk = readies.keeps.layer well_formed not_resource_error;
        left_leaks = readies.leaks well_formed not_resource_error;
        lacks = inr (inl (clears was), subst (λ x. LacksPlaceForTable st x old.tables new.tables number) (sym its) lacks);
      }

      own-cause : (f : Fault) → (IsNotResourceError f → IsNotResourceError e)
          → HasCause (reserving_causes st (LacksPlaceForTable st guest old.tables new.tables) old new) f
          → DeclinableCause below (layer_of st old) offset n (coherent.own_cause d below whole) (files coherent old) (files coherent new) f
      own-cause Memory from is = tt
      own-cause Storage from is = inl is
      own-cause (Limit number) from is = λ was. (
        first,
        inl (
          (let low = in-range.0 in let high = in-range.1 in let start = part.start in let end = part.end in
              (omega (arith, low, start), omega (arith, high, end))),
          λ keeps. absurd (keeps (clears was)),
        ),
        had number (from tt) (is well_formed) was,
      )
      own-cause DamagedTable from is = absurd (is well_formed)
      own-cause Counter from is = absurd (is well_formed)
      own-cause f from is = absurd is

    pub tableless-refused : IsPossible (clearing_of call) H.version → (first : ℕ) → IsIn offset n first → first / cluster_size H ≡ guest
        → IsOfUnit (cluster_size H) H.size (first / cluster_size H) first
        → IsWholeUnit (cluster_size H) H.size offset n (first / cluster_size H) → PartRefused call coherent offset n (Err e) old new
    tableless-refused possible first in-range its here whole-unit = record {
      failed = own-failed e readies.cause;
      marks_failed = own-marks e marked;
      cause = λ well_formed below d whole begun part is-for.
          own-cause possible first in-range its here whole-unit well_formed below d whole begun part is-for e (λ not_resource_error. not_resource_error) readies.cause;
    }

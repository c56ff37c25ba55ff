-- Lemmas that state a preparation with reserved clusters by the relations of the driver.
use Rattle.std.proofs.Common.{◌≡◌, ℕ, ◌+◌, ◌*◌, ◌/◌, ◌%◌, ◌^◌, ◌<◌, ◌≤◌, refl, arith, ap, sym, subst, ◌∙◌, inl, inr, List, length, Option, Some, None, Result, Ok, Err}
use Rattle.std.specs.Prelude.{⊤, ◌⊎◌, ◌++◌, ◌-◌, min, IsTrue, IsErr, IsSome, Bool, IfOk, IfErr}
use Rattle.std.specs.Borrow.{RattleType}
use Rattle.imago_storage.specs.Disk.{barred, damaged_place}
use Rattle.imago_storage.specs.Steps.{Call}
use Rattle.imago_storage.specs.declared.fault.Fault.{Fault}
use Rattle.imago_storage.specs.declared.fault.Fault.TheVariants.{Barred, Counter, DamagedTable, Failed, Limit, Memory, MissingData, Storage}
use Rattle.imago_storage.specs.declared.storage.Storage.{Ghosts}
use Rattle.imago_access.specs.declared.driver_model.DriverModel.{Ghosts as SeenGhosts}
use Rattle.imago_access.specs.declared.driver_model.LayersBelowModel.{Ghosts as GhostsBelow}
use Rattle.imago_access.specs.declared.mapping.PreparedDataMapping.{PreparedDataMapping}
use Rattle.imago_access.specs.Chain.{at}
use Rattle.imago_access.specs.Changes.{Asked, IsCopied, Prepared, Run, run_at}
use Rattle.imago_access.specs.Files.{ImageCause, IsNotResourceError, files}
use Rattle.imago_access.specs.Going.{MarksFailed}
use Rattle.imago_access.specs.Layer.{IsFree, Layer}
use Rattle.imago_access.specs.Mappings.{IsMappedRun}
use Rattle.imago_access.specs.Parts.{IsUncutPart, PartCause, announces}
use Rattle.imago_access.specs.PreparingCalls.{IsHeldBy, Prepares}
use Rattle.imago_access.specs.Room.{IsApart, Takes}
use Rattle.imago_access.proofs.FilePairs.{some_rose_right}
use Rattle.imago_access.proofs.ImageCauses.{failed_left, failed_right}
use Rattle.imago_access.proofs.Marking.{over_plain}
use Rattle.qcow2_types.specs.Bytes.{Bytes}
use Rattle.qcow2_types.specs.Entries.{entry}
use Rattle.qcow2_types.specs.Header.{Fields, cluster_size, entries_of_cluster}
use Rattle.qcow2_metadata.specs.Places.{IsAddressable}
use Rattle.qcow2_alloc.specs.Causes.{HasCause}
use Rattle.qcow2_clusters.specs.Linking.{TakesNone}
use Rattle.qcow2_image.specs.contracts.qcow2.Qcow2DriverModel.TheImpl.{ghosts}
use Rattle.qcow2_image.specs.declared.mode.OpenMode.{OpenMode}
use Rattle.qcow2_image.specs.declared.qcow2.PreparedMappingState.{PreparedMappingState}
use Rattle.qcow2_image.specs.declared.qcow2.Qcow2.{Qcow2}
use Rattle.qcow2_image.specs.declared.unspent.Unspent.{Unspent}
use Rattle.qcow2_image.specs.Allocating.{reserving_causes}
use Rattle.qcow2_image.specs.Filling.{IsLeft, RefusesCopy, WhyNotCopied}
use Rattle.qcow2_image.specs.HeldHomes.{free-homes, none-held, none-unspent}
use Rattle.qcow2_image.specs.Holding.{PreparedMappingRun, IsUncopied, mapping_id_held, place_in}
use Rattle.qcow2_image.specs.Homes.{memory_is}
use Rattle.qcow2_image.specs.ImageLayer.{qcow2_fixed}
use Rattle.qcow2_image.specs.KeepsDisk.{KeepsDisk}
use Rattle.qcow2_image.specs.Preparing.{HoldsFresh, IsCovered, IsPartOfRun, IsReservedFor, IsRun, LacksPlace, LeavesMarkedFailed, PreparesRun, ReachesHeld, first_part, held_run, run_in, run_part}
use Rattle.qcow2_image.specs.Rooms.{HasCluster, HoldsIn, IsWellFormed, ReadsNone}
use Rattle.qcow2_image.specs.Seen.{IsCacheCoherent, file_of, writable_locations_of, layer_in, layer_of, memory_of}
use Rattle.qcow2_image.specs.Unspent.{covers, prepared_mapping_run, holding_in}
use Rattle.qcow2_image.specs.Writing.{HadNoPlace, Since}
use Rattle.qcow2_image.specs.Leaking.{KeepsLeaks}
use Rattle.qcow2_image.proofs.Preparations.FreshRuns.{fresh-held, fresh-near, fresh-part, fresh-prepared, fresh-uncut, homeless-uncopied}
use Rattle.qcow2_image.proofs.CallNeeds.{needs-shown, since-as}
use Rattle.qcow2_image.proofs.Preparations.RunPreparations.{part-nowhere, words-none}
use Rattle.qcow2_image.proofs.Steps.{marks-kept}
use Rattle.qcow2_image.proofs.LeaksByFile.{surplus-kept}

module _ (R : RattleType) (st : Ghosts R.Denot) (sd : mir.Syntax.Dict) (dd : mir.Syntax.Dict) (old middle : Qcow2 R.Denot st) where
  abbrev coherent : SeenGhosts (Qcow2 R.Denot st) PreparedMappingState
  coherent = ghosts R st sd dd

  abbrev h : Fields
  h = old.tables.file.header.fields

  abbrev h' : Fields
  h' = middle.tables.file.header.fields

  -- The call kept the disk.
  module _ (ok : Type 0) (k : KeepsDisk st ok old middle) where
    pub fixed-kept : (layer_of st middle).fixed ≡ (layer_of st old).fixed
    fixed-kept = λ i. qcow2_fixed (k.shape i) (record h { version = k.version i; cluster_bits = k.bits i }) (k.mode i) (k.number i)

    word-at : IsWellFormed st old → ok → (p : ℕ) → entry (memory_of st middle.tables) h' (p / cluster_size h') ≡ entry (memory_of st old.tables) h (p / cluster_size h)
    word-at well_formed whole p = ap (λ (m : Bytes). entry m h' (p / cluster_size h')) (memory_is st middle.tables)
        ∙ k.raw_entries well_formed whole (p / cluster_size h')
        ∙ ap (λ (b : ℕ). entry (file_of st old.tables) h (p / 2 ^ b)) k.bits
        ∙ sym (ap (λ (m : Bytes). entry m h (p / cluster_size h)) (memory_is st old.tables))

    -- Allocated bytes stay allocated.
    pub takes-disk : IsWellFormed st old → ok → Takes coherent (λ _. ⊤) old middle
    takes-disk well_formed whole = record {
      stays_allocated = λ p left was. record {
        inside = subst (λ (n : ℕ). p < n) (sym k.size) was.inside;
        own = subst HasCluster (sym (word-at well_formed whole p)) was.own;
      };
      free = λ p left was. elim was [
        | inl behind ↦ inl (subst (λ (n : ℕ). n ≤ p) (sym k.size) behind)
        | inr none ↦ inr (subst TakesNone (sym (word-at well_formed whole p)) none)
      ];
      zeroes = λ p left free was. elim was [
        | inl behind ↦ inl (subst (λ (n : ℕ). n ≤ p) (sym k.size) behind)
        | inr none ↦ inr (subst ReadsNone (sym (word-at well_formed whole p)) none)
      ];
    }

    -- Each byte can be written in place where it could.
    pub homes-disk : IsWellFormed st old → ok → mapping_id_held (holding_in st old.unspent) ≡ None → (p : ℕ) → writable_locations_of st middle p ≡ writable_locations_of st old p
    homes-disk well_formed whole free p =
        let now-free : mapping_id_held (holding_in st middle.unspent) ≡ None = ap (λ v. mapping_id_held (holding_in st v)) k.unspent ∙ free in
        sym (free-homes (holding_in st middle.unspent) (writable_locations_of st middle) p now-free) ∙ ap (λ (l : Layer). l.writable_location p) (k.layer well_formed whole)
        ∙ free-homes (holding_in st old.unspent) (writable_locations_of st old) p free

    pub since-disk : IsWellFormed st old → ok → mapping_id_held (holding_in st old.unspent) ≡ None → KeepsLeaks st old middle → (d : Qcow2 R.Denot st)
        (call : Call) → Since st d call old → Since st d call middle
    since-disk well_formed whole free leaks d call since = since-as st call d old middle (λ p at is. homes-disk well_formed whole free p ∙ is)
        (λ p. inl (ap (λ (l : Layer). l.cell p) (k.layer well_formed whole))) k.size k.bits k.version leaks since

  module _ {B : Type 0} (u : GhostsBelow B) (x y : B) (asked : Asked) (free : mapping_id_held (holding_in st old.unspent) ≡ None) (some : 0 < asked.length)
      (inside : asked.offset + asked.length ≤ h.size) (nowhere : IsCacheCoherent st old.tables → (layer_of st old).writable_location asked.offset ≡ None) where
    abbrev part : Asked
    part = first_part h asked

    -- The causes of an error.
    module _ (e : Fault) (k : KeepsDisk st (IsNotResourceError e) old middle) (leaks : IsWellFormed st old → IsNotResourceError e → KeepsLeaks st old middle)
        (marked : LeavesMarkedFailed st old middle e)
        (why : HasCause (reserving_causes st (LacksPlace st (asked.offset / cluster_size h) old.tables middle.tables) old middle) e
        ⊎ RefusesCopy st u part (old, x) y e) where
      abbrev full : ℕ → Type 0
      full = LacksPlace st (asked.offset / cluster_size h) old.tables middle.tables

      own-failed : (f : Fault) → HasCause (reserving_causes st full old middle) f → ImageCause (files coherent old) (files coherent middle) f
      own-failed Memory is = tt
      own-failed Storage is = inl is
      own-failed (Limit number) is = tt
      own-failed DamagedTable is = tt
      own-failed Counter is = tt
      own-failed f is = absurd is

      why-failed : ImageCause (files coherent old ++ u.files_of_layers_below x) (files coherent middle ++ u.files_of_layers_below y) e
      why-failed = elim why [
        | inl own ↦ failed_left (files coherent old) (files coherent middle) (u.files_of_layers_below x) (u.files_of_layers_below y) e (own-failed e own)
        | inr below ↦ failed_right (files coherent old) (files coherent middle) (u.files_of_layers_below x) (u.files_of_layers_below y) e ((k.shape, k.counts_not_fallen), tt) below.failed
      ]

      why-marks : MarksFailed coherent old middle e
      why-marks = from e marked where
        from : (f : Fault) → LeavesMarkedFailed st old middle f → MarksFailed coherent old middle f
        from Storage is = λ marks. is
        from Memory (inl is) = λ marks. inl is
        from Memory (inr kept) = marks-kept R st sd dd {T = Unit} old middle (Err Memory) kept
        from f is = tt

      module _ (well_formed : IsWellFormed st old) (under : u.coherent_below x) (d : Qcow2 R.Denot st) (call : Call) (begun : coherent.began d call old)
          (uncut : IsUncutPart (layer_of st old) call asked.offset asked.length) (same : Some asked.overwrite ≡ announces call) where
        abbrev Cause : Fault → Type 0
        Cause = PartCause (u.layers_below x) (layer_of st old) asked.offset asked.length (coherent.own_cause d (u.layers_below x) call)
            (files coherent old ++ u.files_of_layers_below x) (files coherent middle ++ u.files_of_layers_below y)

        -- The missing parts of the guest cluster couldn't be allocated.
        had : (number : ℕ) → IsNotResourceError e → full number → IsWellFormed st d → HadNoPlace st d call asked.offset number
        had number not_resource_error lacks was = record {
          now = old;
          well_formed = well_formed;
          since = (begun was).1;
          left = middle;
          left_safe = k.safely well_formed not_resource_error;
          left_disk = k.layer well_formed not_resource_error;
          left_leaks = leaks well_formed not_resource_error;
          lacks = inl (subst (λ (o : Option Bool). IsSome o) same refl, lacks);
        }

        own-cause : (f : Fault) → (IsNotResourceError f → IsNotResourceError e) → HasCause (reserving_causes st full old middle) f → Cause f
        own-cause Memory from is = tt
        own-cause Storage from is = inl is
        own-cause (Limit number) from is =
            part-nowhere R st sd dd old middle u x asked number (nowhere well_formed.seen) some d call begun uncut (had number (from tt) (is well_formed))
        own-cause DamagedTable from is = absurd (is well_formed)
        own-cause Counter from is = absurd (is well_formed)
        own-cause f from is = absurd is

        copy-cause : (f : Fault) → WhyNotCopied st u part (old, x) y f → Cause f
        copy-cause Failed is = inr is
        copy-cause MissingData is = inr is
        copy-cause DamagedTable is = λ was. needs-shown st old d (u.layers_below x) asked call (begun was).1 some inside uncut same u x refl damaged_place (λ b same. absurd cc) is
        copy-cause Barred is = λ was. needs-shown st old d (u.layers_below x) asked call (begun was).1 some inside uncut same u x refl barred (λ b same. absurd cc) is
        copy-cause Memory is = tt
        copy-cause Storage is = some_rose_right (files coherent old) (files coherent middle) (u.files_of_layers_below x) (u.files_of_layers_below y) ((k.shape, k.counts_not_fallen), tt) is
        copy-cause f is = absurd is

        why-part : Cause e
        why-part = elim why [ inl own ↦ own-cause e (λ not_resource_error. not_resource_error) own | inr below ↦ copy-cause e (below.cause well_formed under) ]

      pub prepares-not : Prepares coherent u asked (Err e) (old, x) (middle, y)
      prepares-not = record {
        ok = λ well_formed under. tt;
        err = λ well_formed under not_resource_error. record {
          keeps_layer_state = record { fixed = fixed-kept (IsNotResourceError e) k; size = k.size; unspent = ap (λ v. mapping_id_held (holding_in st v)) k.unspent; failed = k.failed };
          cell = ap (λ (l : Layer). l.cell) (k.layer well_formed not_resource_error);
          held = ap (λ (l : Layer). l.held) (k.layer well_formed not_resource_error);
        };
        uncut = λ well_formed under. tt;
        no_range_overflow = λ well_formed under. tt;
        room = λ well_formed under whole. takes-disk (IsNotResourceError e) k well_formed whole;
        crash_images = λ well_formed under. k.crash_images well_formed (u.layers_below x);
        mutating_call = record {
          fixed = fixed-kept (IsNotResourceError e) k;
          failed = k.failed;
          counts_not_fallen = ((k.shape, k.counts_not_fallen), tt);
          faults = λ whole. (k.faults whole, tt);
          safely = λ whole well_formed. k.safely well_formed whole.0;
          stays_stable = λ l. l;
          excess_refcount = λ whole well_formed. surplus-kept st old middle (leaks well_formed whole.0);
        };
        stays_begun = λ d call begun part whole. λ well_formed.
            let now = begun well_formed in
            (k.safely now.0 whole, since-disk (IsNotResourceError e) k now.0 whole free (leaks now.0 whole) d call now.1);
        refused = record {
          failed = why-failed;
          marks_failed = over_plain coherent old middle e why-marks;
          cause = λ well_formed under d call begun uncut same. why-part well_formed under d call begun uncut same;
        };
      }

    -- The run is held afterwards.
    module _ (writable : IsTrue old.mode.writable) (k : KeepsDisk st ⊤ old middle) (n : ℕ) (found : IsRun st asked n old)
        (mapping : PreparedDataMapping PreparedMappingState) (new : Qcow2 R.Denot st) (f : HoldsFresh st u asked n (old, x) middle mapping new)
        (leaks : IsWellFormed st old → KeepsLeaks st old new) where
      abbrev unspent : Unspent R.Denot st
      unspent = f.holds.unspent

      abbrev held : Qcow2 R.Denot st
      held = record middle { claims = unspent.mapping_id; unspent = Some unspent }

      abbrev count : ℕ
      count = f.clusters.count

      abbrev run : ℕ
      run = run_in h f.clusters.count asked.offset asked.length

      run-same : run_part h count asked ≡ run_part h' count asked
      run-same = ap (λ (b : ℕ). record asked { length = min asked.length (count * 2 ^ b - asked.offset % 2 ^ b) }) (sym k.bits)

      -- Its guest clusters are those that were found, or the first of them.
      row : asked.offset / cluster_size h' % entries_of_cluster h' + count ≤ entries_of_cluster h'
      row = subst (λ (b : ℕ). asked.offset / 2 ^ b % (2 ^ b / 8) + count ≤ 2 ^ b / 8) (sym k.bits)
          (let fits = found.row in let few = f.count_bounded in omega (arith, fits, few))

      covered : (i : ℕ) → 0 < i → i < count → IsCovered h' asked (asked.offset / cluster_size h' + i)
      covered i behind less = let was = found.covered i behind (let few = f.count_bounded in omega (arith, less, few)) in record {
        overwrite = was.overwrite;
        all = λ p at. was.all p (subst (λ (b : ℕ). p / 2 ^ b ≡ asked.offset / 2 ^ b + i) k.bits at);
      }

      holds-now : prepared_mapping_run st unspent ≡ held_run st (run_part h' count asked) f.clusters middle unspent.mapping_id (covers unspent.written)
      holds-now = f.holds.holds ∙ ap (λ (a : Asked). held_run st a f.clusters middle unspent.mapping_id (covers unspent.written)) run-same

      on-disk : asked.offset + asked.length ≤ h'.size
      on-disk = subst (λ (n : ℕ). asked.offset + asked.length ≤ n) (sym k.size) inside

      guest : asked.offset / cluster_size h ≡ asked.offset / cluster_size h'
      guest = ap (λ (b : ℕ). asked.offset / 2 ^ b) (sym k.bits)

      near : IsAddressable h'.cluster_bits (f.clusters.host + (count - 1))
      near = subst (λ (b : ℕ). IsAddressable b (f.clusters.host + (count - 1))) (sym k.bits) f.host_addressable

      reserved : IsWellFormed st old → IsReservedFor st (asked.offset / cluster_size h') f.clusters middle.tables
      reserved well_formed = subst (λ (n : ℕ). IsReservedFor st n f.clusters middle.tables) guest (f.reserved well_formed)

      -- Its first guest cluster can't be written in place, as its first byte can't.
      uncopied-was : IsWellFormed st old → IsUncopied (entry (file_of st old.tables) h (asked.offset / cluster_size h))
      uncopied-was well_formed = subst (λ (m : Bytes). IsUncopied (entry m h (asked.offset / cluster_size h))) (memory_is st old.tables)
          (homeless-uncopied (memory_of st old.tables) h old.mode.writable asked.offset writable (omega (arith, some, inside))
          (words-none (holding_in st old.unspent) (writable_locations_of st old) asked.offset (nowhere well_formed.seen)))

      -- The other guest clusters can't either.
      uncopied : IsWellFormed st old → (i : ℕ) → i < count → IsUncopied (entry (file_of st middle.tables) h' (asked.offset / cluster_size h' + i))
      uncopied well_formed i less =
          subst IsUncopied (ap (λ (n : ℕ). entry (file_of st old.tables) h (n + i)) guest ∙ sym (k.raw_entries well_formed tt (asked.offset / cluster_size h' + i)))
          (found.uncopied well_formed.seen (uncopied-was well_formed) i (let few = f.count_bounded in omega (arith, less, few)))

      -- Each byte has what the guest reads, by the sizes of clusters and of the disk.
      abbrev Filled : ℕ → ℕ → Layer → Type 0
      Filled b size layer = (p : ℕ) → (p / 2 ^ b ≡ asked.offset / 2 ^ b) × (p < size)
          → IsLeft (record asked { length = min asked.length (2 ^ b - asked.offset % 2 ^ b) }) p
          → IsCopied (at (u.layers_below x)) layer p (file_of st middle.tables (f.clusters.host * 2 ^ b + p % 2 ^ b))

      filled : IsWellFormed st old → u.coherent_below x → Filled h'.cluster_bits h'.size (layer_of st middle)
      filled well_formed under = subst (λ (b : ℕ). Filled b h'.size (layer_of st middle)) (sym k.bits)
          (subst (λ (n : ℕ). Filled h.cluster_bits n (layer_of st middle)) (sym k.size)
          (subst (Filled h.cluster_bits h.size) (sym (k.layer well_formed tt)) (f.filled well_formed under)))

      holds-in : IsWellFormed st old → HoldsIn st middle.tables (prepared_mapping_run st unspent)
      holds-in well_formed = subst (HoldsIn st middle.tables) (sym holds-now)
          (fresh-held st middle asked f.clusters unspent.mapping_id (covers unspent.written) f.holds.unwritten some on-disk f.any row covered near
          (reserved well_formed) (uncopied well_formed))

      safe-held : IsWellFormed st old → IsWellFormed st held
      safe-held well_formed = let now = k.safely well_formed tt in record {
        runs = now.runs;
        keeps = now.keeps;
        consistent = now.consistent;
        seen = now.seen;
        sound = now.sound;
        searched = now.searched;
        held = holds-in well_formed;
        writable = λ is. subst (λ (m : OpenMode). IsTrue m.writable) (sym k.mode) writable;
      }

      leaks-held : IsWellFormed st old → KeepsLeaks st old held
      leaks-held well_formed = subst (KeepsLeaks st old) f.holds.now (leaks well_formed)

      abbrev answer : Asked → Run
      answer a = run_at 0 (place_in h' f.clusters.host asked.offset) a.length (Some unspent.mapping_id)

      prepared : IsWellFormed st old → u.coherent_below x → Prepared (at (u.layers_below x)) (layer_of st old) (layer_of st held) asked (answer (run_part h count asked))
      prepared well_formed under =
          subst (λ (l : Layer). Prepared (at (u.layers_below x)) l (layer_of st held) asked (answer (run_part h count asked))) (k.layer well_formed tt)
          (subst (λ (a : Asked). Prepared (at (u.layers_below x)) (layer_of st middle) (layer_of st held) asked (answer a)) (sym run-same)
          (subst (λ (o : PreparedMappingRun). Prepared (at (u.layers_below x)) (layer_of st middle) (layer_in st middle.tables middle.mode middle.number middle.failed (Some o)) asked
          (answer (run_part h' count asked))) (sym holds-now)
          (fresh-prepared st middle asked f.clusters unspent.mapping_id (covers unspent.written) f.holds.unwritten some on-disk f.any row covered near (reserved well_formed) (uncopied well_formed)
          (at (u.layers_below x)) (filled well_formed under))))

      answered : Prepares coherent u asked (Ok (record {
        storage = 0;
        offset = place_in h' f.clusters.host asked.offset;
        length = run;
        state = Some (record { number = middle.number; mapping_id = unspent.mapping_id });
      })) (old, x) (held, y)
      answered = record {
        ok = λ well_formed under. prepared well_formed under;
        err = λ well_formed under. tt;
        uncut = λ well_formed under. fresh-uncut st old asked f.clusters unspent.mapping_id (covers unspent.written) f.holds.unwritten some inside f.any;
        no_range_overflow = λ well_formed under p apart. ap (λ (o : PreparedMappingRun). (layer_in st middle.tables middle.mode middle.number middle.failed (Some o)).held p) holds-now
            ∙ fresh-near st middle asked f.clusters unspent.mapping_id (covers unspent.written) f.holds.unwritten some on-disk f.any row covered p
            (subst (λ (b : ℕ). IsApart (2 ^ b) asked.offset asked.length p) (sym k.bits) apart);
        room = λ well_formed under done. let was = takes-disk ⊤ k well_formed tt in record { stays_allocated = was.stays_allocated; free = was.free; zeroes = was.zeroes };
        crash_images = λ well_formed under. k.crash_images well_formed (u.layers_below x);
        mutating_call = record {
          fixed = fixed-kept ⊤ k;
          failed = k.failed;
          counts_not_fallen = ((k.shape, k.counts_not_fallen), tt);
          faults = λ whole. (k.faults tt, tt);
          safely = λ whole well_formed. safe-held well_formed;
          stays_stable = λ l. l;
          excess_refcount = λ whole well_formed. surplus-kept st old held (leaks-held well_formed);
        };
        stays_begun = λ d call begun part whole. λ well_formed.
            let now = begun well_formed in (
              safe-held now.0,
              since-as st call d old held (λ p at is. homes-disk ⊤ k now.0 tt free p ∙ is)
                  (λ p. inl (ap (λ (l : Layer). l.cell p) (k.layer now.0 tt))) k.size k.bits k.version (leaks-held now.0) now.1,
            );
        refused = record { failed = tt; marks_failed = tt; cause = λ well_formed under d call begun part same. tt };
      }

      pub prepares-held : Prepares coherent u asked (Ok mapping) (old, x) (new, y)
      prepares-held = subst (λ (d : Qcow2 R.Denot st). Prepares coherent u asked (Ok mapping) (old, x) (d, y)) (sym f.holds.now)
          (subst (λ (m : PreparedDataMapping PreparedMappingState). Prepares coherent u asked (Ok m) (old, x) (held, y)) (sym f.holds.answer) answered)

pub run-narrower : {S : Type 0} (g : Ghosts S) (asked : Asked) (d : Qcow2 S g) (n k : ℕ) → IsRun g asked n d → 0 < k → k ≤ n → IsRun g asked k d
run-narrower g asked d n k run any few = record {
  any = any;
  row = let fits = run.row in omega (arith, fits, few);
  covered = λ i behind less. run.covered i behind (omega (arith, less, few));
  uncopied = λ seen first i less. run.uncopied seen first i (omega (arith, less, few));
}

-- The preparation, or its error, by the relations of the driver.
module _ (R : RattleType) (st : Ghosts R.Denot) (sd : mir.Syntax.Dict) (dd : mir.Syntax.Dict) {B : Type 0} (u : GhostsBelow B) (asked : Asked)
    (old new : Qcow2 R.Denot st) (x y : B) where
  abbrev driver : SeenGhosts (Qcow2 R.Denot st) PreparedMappingState
  driver = ghosts R st sd dd

  abbrev Does : Result (PreparedDataMapping PreparedMappingState) Fault → Type 0
  Does result = PreparesRun st u asked (old, x) result (new, y)

  pub prepares-fresh : (result : Result (PreparedDataMapping PreparedMappingState) Fault)
      → mapping_id_held (holding_in st old.unspent) ≡ None → 0 < asked.length → (IsCacheCoherent st old.tables → (layer_of st old).writable_location asked.offset ≡ None)
      → asked.offset + asked.length ≤ old.tables.file.header.fields.size → IsTrue old.mode.writable → Does result
      → Prepares driver u asked result (old, x) (new, y)
  prepares-fresh (Ok mapping) free some nowhere inside writable p =
      let f = p.prepares in
      prepares-held R st sd dd old f.middle u x y asked free some inside nowhere writable f.keeps p.n p.run mapping new f.ok
      (λ well_formed. f.leaks well_formed (none-unspent st old.unspent (none-held (holding_in st old.unspent) free)) tt)
  prepares-fresh (Err e) free some nowhere inside writable p =
      let f = p.prepares in
      subst (λ (d : Qcow2 R.Denot st). Prepares driver u asked (Err e) (old, x) (d, y)) (sym f.err.0)
      (prepares-not R st sd dd old f.middle u x y asked free some inside nowhere e f.keeps
      (λ well_formed not_resource_error. subst (KeepsLeaks st old) f.err.0
      (f.leaks well_formed (none-unspent st old.unspent (none-held (holding_in st old.unspent) free)) not_resource_error)) f.err.1 f.err.2)

  pub fresh-size : (result : Result (PreparedDataMapping PreparedMappingState) Fault) → Does result → (layer_of st new).size ≡ (layer_of st old).size
  fresh-size (Ok mapping) p = ap (λ (d : Qcow2 R.Denot st). d.tables.file.header.fields.size) p.prepares.ok.holds.now ∙ p.prepares.keeps.size
  fresh-size (Err e) p = ap (λ (d : Qcow2 R.Denot st). d.tables.file.header.fields.size) p.prepares.err.0 ∙ p.prepares.keeps.size

  pub fresh-free : (result : Result (PreparedDataMapping PreparedMappingState) Fault) → mapping_id_held (holding_in st old.unspent) ≡ None → Does result
      → IsErr result → IsFree (layer_of st new)
  fresh-free (Ok mapping) free p none = absurd (cc none)
  fresh-free (Err e) free p is = ap (λ (d : Qcow2 R.Denot st). mapping_id_held (holding_in st d.unspent)) p.prepares.err.0 ∙ ap (λ v. mapping_id_held (holding_in st v)) p.prepares.keeps.unspent ∙ free

  pub fresh-mine : (result : Result (PreparedDataMapping PreparedMappingState) Fault) → Does result → IfOk result (λ m. IsHeldBy driver m.state (layer_of st new))
  fresh-mine (Err e) p = tt
  fresh-mine (Ok mapping) p =
      let f = p.prepares.ok.holds in
      subst (λ (d : Qcow2 R.Denot st). IsHeldBy driver mapping.state (layer_of st d)) (sym f.now)
      (subst (λ (m : PreparedDataMapping PreparedMappingState). IsHeldBy driver m.state (layer_of st (record p.prepares.middle { claims = f.unspent.mapping_id; unspent = Some f.unspent }))) (sym f.answer)
      ((refl, refl), λ none. absurd (cc none)))

  pub fresh-run : (result : Result (PreparedDataMapping PreparedMappingState) Fault) → 0 < asked.length → asked.offset + asked.length ≤ old.tables.file.header.fields.size
      → Does result → IfOk result (λ m. IsMappedRun (layer_of st old) asked.offset asked.length m.length × (m.offset + m.length < 2 ^ 64))
  fresh-run (Err e) some inside p = tt
  fresh-run (Ok mapping) some inside p =
      let f = p.prepares.ok.holds in
      let run = fresh-part st old asked p.prepares.ok.clusters f.unspent.mapping_id (covers f.unspent.written) f.unwritten some inside p.prepares.ok.any in
      let place : f.unspent.place ≡ place_in p.prepares.middle.tables.file.header.fields p.prepares.ok.clusters.host asked.offset = ap (λ (o : PreparedMappingRun). o.place) f.holds in
      let length : f.unspent.length ≡ run_in old.tables.file.header.fields p.prepares.ok.clusters.count asked.offset asked.length = ap (λ (o : PreparedMappingRun). o.length) f.holds in
      let near = f.unspent.end_bounded in
      subst (λ (m : PreparedDataMapping PreparedMappingState). IsMappedRun (layer_of st old) asked.offset asked.length m.length × (m.offset + m.length < 2 ^ 64)) (sym f.answer)
      ((run.1, λ is. run.0, λ is. omega (arith, run.1, inside)), omega (arith, place, length, near))

  -- The mapping has state, and is the part of the range in such a run.
  pub fresh-whole : (result : Result (PreparedDataMapping PreparedMappingState) Fault) (P : PreparedDataMapping PreparedMappingState → Type 0) → Does result
      → IfOk result (λ m. 0 < asked.length → m.state ≡ None → P m)
  fresh-whole (Err e) P p = tt
  fresh-whole (Ok mapping) P p = λ some none. absurd (cc (sym (ap (λ (m : PreparedDataMapping PreparedMappingState). m.state) p.prepares.ok.holds.answer) ∙ none))

  pub fresh-cut : (result : Result (PreparedDataMapping PreparedMappingState) Fault) → Does result
      → IfOk result (λ m. IsSome m.state → IsPartOfRun st asked m.length old)
  fresh-cut (Err e) p = tt
  fresh-cut (Ok mapping) p = λ some. (
    p.prepares.ok.clusters.count,
    run-narrower st asked old p.n p.prepares.ok.clusters.count p.run p.prepares.ok.any p.prepares.ok.count_bounded,
    ap (λ (m : PreparedDataMapping PreparedMappingState). m.length) p.prepares.ok.holds.answer,
  )

  pub fresh-reaches : (result : Result (PreparedDataMapping PreparedMappingState) Fault) → Does result
      → IfOk result (λ m. IsSome m.state → ReachesHeld st new)
  fresh-reaches (Err e) p = tt
  fresh-reaches (Ok mapping) p = λ some.
      let f = p.prepares.ok.holds in
      let file : List ℕ = (st.state p.prepares.middle.tables.file.image).bytes in
      subst (λ (d : Qcow2 R.Denot st). ReachesHeld st d) (sym f.now)
      (subst (λ (b : ℕ). (f.unspent.host + f.unspent.count) * 2 ^ b ≤ length file) (sym p.prepares.keeps.bits)
      (subst (λ (o : PreparedMappingRun). (o.host + o.count) * cluster_size old.tables.file.header.fields ≤ length file) (sym f.holds) p.prepares.ok.reaches))

pub limit-where : {T : Type 0} (result : Result T Fault) (P : Type 0) → P → IfErr result (λ e. (n : ℕ) → e ≡ Limit n → P)
limit-where (Ok v) P is = tt
limit-where (Err e) P is = λ n same. is

pub unspent-none : {S : Type 0} (g : Ghosts S) (u : Option (Unspent S g)) → mapping_id_held (holding_in g u) ≡ None → u ≡ None
unspent-none g None free = refl
unspent-none g (Some u) free = absurd (cc free)

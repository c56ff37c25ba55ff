-- Lemmas on a commit: what it leaves of the image whose prepared mapping it spends.
use Rattle.std.proofs.Common.{◌≡◌, ℕ, ◌+◌, ◌-◌, ◌*◌, ◌/◌, ◌%◌, ◌<◌, ◌≤◌, mul-pos, refl, arith, ap, sym, subst, ◌∙◌, inl, inr, Bool, true, false, cond, List, [], ◌∷◌, Option, Some, None, Result, Ok, Err}
use Rattle.std.proofs.lemmas.Bool.{cases_Bool, cases_lt, le-ltb, lt-ltb}
use Rattle.std.proofs.lemmas.Nat.{div-add-mod', pow_pos}
use Rattle.std.specs.Prelude.{◌⊎◌, IsTrue, IsSome, IfSome, IfErr, OnOk, EachIndex, slice_index, length, ltb, nat_lt, ◌&&◌, if◌then◌else◌}
use Rattle.std.specs.List.{AllByRecursion}
use Rattle.std.proofs.lemmas.List.Sums.{sum_by-cons}
use Rattle.imago_storage.specs.State.{Shape, StorageState}
use Rattle.imago_storage.specs.Disk.{Value, byte}
use Rattle.imago_storage.specs.Passing.{UnrefusedCrashImages}
use Rattle.imago_storage.specs.declared.fault.Fault.{Fault}
use Rattle.imago_storage.specs.declared.fault.Fault.TheVariants.{DamagedTable, Memory, Storage}
use Rattle.imago_storage.specs.declared.storage.Storage.{Ghosts}
use Rattle.imago_access.specs.Chain.{at}
use Rattle.imago_access.specs.Changes.{Committed, CommitsPlace}
use Rattle.imago_access.specs.Files.{IsNotResourceError}
use Rattle.imago_access.specs.Layer.{Cell, Layer, beside, inside, loose, own}
use Rattle.imago_access.specs.Stops.{GivesSettled, Left, May}
use Rattle.imago_access.specs.declared.mapping.PreparedDataMapping.{PreparedDataMapping}
use Rattle.imago_access.proofs.Stopping.{passes_weaker}
use Rattle.qcow2_types.specs.Bytes.{Bytes, bytes_of}
use Rattle.qcow2_types.specs.Header.{Fields, Header, cluster_size, entries_of_cluster}
use Rattle.qcow2_types.specs.Words.{Mapping, data_at}
use Rattle.qcow2_types.specs.Entries.{entry, l2_table}
use Rattle.qcow2_types.specs.Consistency.{IsConsistent}
use Rattle.qcow2_types.proofs.Counting.Consistent.{header-reading}
use Rattle.qcow2_metadata.proofs.TableSteps.{past_end}
use Rattle.qcow2_alloc.specs.Allocators.{table_of, first_free_of}
use Rattle.qcow2_alloc.specs.Causes.{HasCause}
use Rattle.qcow2_alloc.specs.Going.{HadNoResourceError, writing_causes}
use Rattle.qcow2_alloc.specs.Caches.{HasRoomOf, cached_in}
use Rattle.qcow2_alloc.specs.Finding.{pinned_in}
use Rattle.qcow2_alloc.specs.Memory.{Cached}
use Rattle.qcow2_alloc.specs.Opening.{IsL1Of}
use Rattle.qcow2_alloc.specs.GuestView.{Metadata, IsSound, in_memory}
use Rattle.qcow2_alloc.specs.WellFormedness.{AreTablesClean, IsCachedTable}
use Rattle.qcow2_alloc.proofs.Flushing.FlushRefusals.{writing-implies}
use Rattle.qcow2_alloc.proofs.Causes.{cause-weaker}
use Rattle.qcow2_alloc.proofs.Memory.SafeLaws.{clean-memory}
use Rattle.qcow2_steps.specs.Advancing.{Advances, MayBeCrashImage}
use Rattle.qcow2_steps.specs.Values.{own_value, own_value_by}
use Rattle.qcow2_steps.specs.Data.{IsKeptFor}
use Rattle.qcow2_steps.specs.Words.{IsReserved}
use Rattle.qcow2_alloc.specs.declared.async_lru_cache.Slot.{Slot}
use Rattle.qcow2_alloc.specs.declared.cache.MetadataCaches.{MetadataCaches}
use Rattle.qcow2_alloc.specs.declared.file.ImageFile.{ImageFile}
use Rattle.qcow2_clusters.specs.Linking.{CanAllBeLinked, IsUnder, LeavesTable, LinksRun, linking_run}
use Rattle.qcow2_clusters.specs.Progress.{Kind, Progresses}
use Rattle.qcow2_clusters.specs.declared.space.Space.{Space}
use Rattle.qcow2_clusters.proofs.RunNames.{run-gives, run-sets}
use Rattle.qcow2_clusters.specs.Flushed.{Clusters, IsReady, clusters_state, nothing_cached, flushed_metadata}
use Rattle.qcow2_clusters.specs.Storing.{Rests}
use Rattle.qcow2_clusters.specs.WritingBack.{without_tables}
use Rattle.qcow2_image.specs.Caching.{IsClean, IsUnpinned}
use Rattle.qcow2_image.specs.Committing.{CommitsUnspent, LinksHost, NamesWith, SpendsUnspent, answer_of, failed_after_any, held_after, reserved_of}
use Rattle.qcow2_image.specs.Holding.{PreparedMappingRun, IsOwnAs, IsUncopied, mapping_id_held, copied_to, held_writable_location, held_of, held_place, held_with, writable_location_or, writable_locations_with, in_clusters, in_run, written_to}
use Rattle.qcow2_image.specs.HeldHomes.{clusters-from, clusters-of, free-homes, held-at, run-from, run-guest}
use Rattle.qcow2_image.specs.Homes.{cluster-there}
use Rattle.qcow2_image.proofs.Preparations.FreshRuns.{uncopied-homeless}
use Rattle.qcow2_image.specs.ImageLayer.{blank_of, cell_by, cells, writable_location_by, writable_locations, qcow2_fixed}
use Rattle.qcow2_image.specs.Rooms.{HasCluster, HasRoom, HoldsIn, IsWellFormed, is_sound, rest_of}
use Rattle.qcow2_image.specs.Seen.{IsCacheCoherent, IsTableAt, file_of, writable_locations_of, layer_of, memory_of}
use Rattle.qcow2_image.specs.Unspent.{prepared_mapping_run, holding_in}
use Rattle.qcow2_image.specs.declared.mappings.Reserved.{Reserved}
use Rattle.qcow2_image.specs.declared.qcow2.PreparedMappingState.{PreparedMappingState}
use Rattle.qcow2_image.specs.declared.qcow2.Qcow2.{Qcow2}
use Rattle.qcow2_image.specs.declared.tables.Tables.{Tables}
use Rattle.qcow2_image.specs.declared.unspent.Unspent.{Unspent}
use Rattle.qcow2_image.proofs.DiskEffects.{cell-shown, cell_of, may-left, rest-memory, safe-sound, seen_as}
use Rattle.qcow2_image.proofs.FileWords.{tables-same}
use Rattle.qcow2_image.proofs.Steps.{memory-is}
use Rattle.qcow2_image.proofs.TableSearches.{tables-of-file}
use Rattle.qcow2_alloc.specs.Freeing.{NoneFreeBefore}
use Rattle.qcow2_alloc.specs.declared.allocation.Allocator.{Allocator}
use Rattle.qcow2_image.proofs.SearchStart.{counted-at-rest, counted-in-file}

own-either : (is_kept : Bool) (m : Metadata) (guest host : ℕ) → IsOwnAs is_kept m guest host → IsReserved m host ⊎ IsKeptFor m guest host
own-either true m guest host mine = inr mine
own-either false m guest host mine = inl mine

-- Numbers with the same quotient and remainder are equal.
pub same-parts : (a b d : ℕ) → a / d ≡ b / d → a % d ≡ b % d → a ≡ b
same-parts a b d rows columns =
    let product : a / d * d ≡ b / d * d = ap (λ x. x * d) rows in
    omega (arith, product, columns, div-add-mod' a d, div-add-mod' b d)

-- A byte of a host cluster was written or copied, unless it was announced that the whole run will be written.
by-hold : (overwrite written : Bool) (copied there : ℕ) (was : Cell) → (written ≡ false → there ≡ copied) → there < 256
    → CommitsPlace (inside (if overwrite then None else Some copied) (if written then Some there else None) overwrite) was (own (byte there))
by-hold true true copied there was same fits = refl
by-hold false true copied there was same fits = refl
by-hold true false copied there was same fits = inr (byte there, (there, fits, refl), refl)
by-hold false false copied there was same fits = ap (λ b. own (byte b)) (same refl)

each-byte : (bytes : List ℕ) → EachIndex bytes (λ k. slice_index bytes k < 256) → (k : ℕ) → slice_index bytes k < 256
each-byte bytes fit k = elim (cases_lt k (length bytes)) [
  | inl below ↦ fit k below
  | inr behind ↦ let none = past_end bytes k behind in omega (arith, none)
]

run-home : (hold : PreparedMappingRun) (p : ℕ) (at : ℕ × ℕ) → held_writable_location hold p ≡ Some at → (in_run hold p ≡ true) × (at ≡ (0, hold.place + (p - hold.offset)))
run-home hold p at is = from (in_run hold p) refl is where
  from : (b : Bool) → in_run hold p ≡ b → (if b then Some (0, hold.place + (p - hold.offset)) else None) ≡ Some at
      → (in_run hold p ≡ true) × (at ≡ (0, hold.place + (p - hold.offset)))
  from true same there = (same, cc (sym there))
  from false same there = absurd (cc there)

module _ {S : Type 0} (g : Ghosts S) (mapping_id : ℕ) (old new : Qcow2 S g)
    (result : Result Unit (Fault × Option (PreparedDataMapping PreparedMappingState))) (s : SpendsUnspent g mapping_id old result new) where
  abbrev pub hold : PreparedMappingRun
  hold = prepared_mapping_run g s.spent

  pub hold-is : holding_in g old.unspent ≡ Some hold
  hold-is = ap (holding_in g) s.was_unspent

  abbrev f : Bytes
  f = file_of g old.tables

  abbrev f' : Bytes
  f' = file_of g new.tables

  abbrev h : Fields
  h = old.tables.file.header.fields

  abbrev h' : Fields
  h' = new.tables.file.header.fields

  abbrev cs : ℕ
  cs = cluster_size h

  fields-same : h' ≡ h
  fields-same = ap (λ (K : Header). K.fields) s.names.header

  mode-same : new.mode ≡ old.mode
  mode-same = ap (λ (d : Qcow2 S g). d.mode) s.others

  number-same : new.number ≡ old.number
  number-same = ap (λ (d : Qcow2 S g). d.number) s.others

  pub failed-is : new.failed ≡ failed_after_any s.named old.failed
  failed-is = ap (λ (d : Qcow2 S g). d.failed) s.others

  pub free-now : new.unspent ≡ None
  free-now = ap (λ (d : Qcow2 S g). d.unspent) s.others

  none-held : holding_in g new.unspent ≡ None
  none-held = ap (holding_in g) free-now

  pub is-free : (layer_of g new).unspent ≡ None
  is-free = ap mapping_id_held none-held

  pub fixed-same : (layer_of g new).fixed ≡ (layer_of g old).fixed
  fixed-same = λ i. qcow2_fixed (s.names.shape i) (fields-same i) (mode-same i) (number-same i)

  pub size-same : (layer_of g new).size ≡ (layer_of g old).size
  size-same = ap (λ (k : Fields). k.size) fields-same

  -- The image was well-formed.
  module _ (well_formed : IsWellFormed g old) where
    pub holds : HoldsIn g old.tables hold
    holds = subst (λ o. IfSome o (HoldsIn g old.tables)) hold-is well_formed.held

    abbrev pub before : Metadata
    before = rest_of g old.tables holds.space

    pub sound : IsSound before
    sound = safe-sound g old holds.space holds.space_known well_formed

    able : CanAllBeLinked hold.count before hold.table hold.guest hold.host
    able d less = record {
      in_table = holds.held.in_table d less;
      own = own-either hold.is_kept before (hold.guest + d) (hold.host + d) (holds.held.own d less);
    }

    pub with-space : NamesWith g (reserved_of g s.spent) hold.guest old.tables holds.space s.named new.tables
    with-space = s.names.known holds.space holds.space_known (record {
      cluster_nonzero = let some = holds.held.host_nonzero in omega (arith, some);
      any = holds.held.any;
      reach = holds.held.reach;
      row = holds.held.row;
    })

    abbrev c : Clusters S
    c = clusters_state old.tables.file with-space.caches holds.space

    abbrev c' : Clusters S
    c' = clusters_state new.tables.file (without_tables new.tables.caches) with-space.between

    -- The changes that linking makes: values, references, allocations and clusters to free.
    abbrev pub kind : Kind
    kind = linking_run before hold.guest hold.host hold.count

    ready : IsReady g.state c
    ready = record { keeps = well_formed.keeps; sound = sound }

    progress : Progresses (s.named ≡ Ok tt) kind (g.state old.tables.file.image) before
        (g.state new.tables.file.image) (flushed_metadata g.state c')
    progress = with-space.names.progress able

    -- Linking fails only with a resource error.
    pub refused-hard : (fault : Fault) → s.named ≡ Err fault → IsNotResourceError fault → ⊥
    refused-hard fault is not_resource_error =
        never fault (subst (λ r. IfErr r (HasCause (writing_causes (IsReady g.state c × CanAllBeLinked hold.count before hold.table hold.guest hold.host)
        (g.state old.tables.file.image).faults (g.state new.tables.file.image).faults))) is with-space.names.cause) not_resource_error where
          never : (e : Fault) → HasCause (writing_causes (IsReady g.state c × CanAllBeLinked hold.count before hold.table hold.guest hold.host)
              (g.state old.tables.file.image).faults (g.state new.tables.file.image).faults) e → IsNotResourceError e → ⊥
          never Memory why not_resource_error = not_resource_error
          never Storage why not_resource_error = not_resource_error
          never DamagedTable why not_resource_error = why (ready, able)
          never e why not_resource_error = why

    -- The guest cluster is one of the mapping.
    abbrev pub IsOurs : ℕ → Type 0
    IsOurs x = (hold.guest ≤ x) × (x < hold.guest + hold.count)

    -- Each byte of the guest clusters then reads as its byte in the host cluster, as the mapping promises.
    settled-byte : (p : ℕ) → IsOurs (p / cs) → p < h.size → (was : Cell)
        → CommitsPlace ((layer_of g old).held p) was (own (byte (f (held_place h hold p))))
    settled-byte p is low was =
        subst (λ o. CommitsPlace (held_with h f o p) was (own (byte (f (held_place h hold p))))) (sym hold-is) (elim (cases_Bool (in_run hold p)) [
          | inl run ↦ rw (there, run) (by-hold hold.overwrite (hold.written p) (hold.copied (held_place h hold p))
              (f (held_place h hold p)) was (holds.held.unwritten_is_copied p there)
              (each-byte (g.state old.tables.file.image).bytes s.bytes (held_place h hold p)))
          | inr out ↦ rw (there, out) (ap (λ b. own (byte b)) (holds.held.unwritten_is_copied p there (holds.held.beside p there out)))
        ]) where
          there : in_clusters h hold p ≡ true
          there = clusters-of h hold p is low

    not-loose : (p : ℕ) → IsOurs (p / cs) → p < h.size → (layer_of g old).held p ≡ loose → ⊥
    not-loose p is low none =
        let there = clusters-of h hold p is low in
        let held : held_of h f hold p ≡ loose = ap (λ o. held_with h f o p) (sym hold-is) ∙ none in
        from (in_run hold p) (let e : (if in_run hold p then inside (copied_to h hold p) (written_to h f hold p) hold.overwrite
        else beside (hold.copied (held_place h hold p))) ≡ loose = rw there at held in e) where
          from : (b : Bool) → (if b then inside (copied_to h hold p) (written_to h f hold p) hold.overwrite
              else beside (hold.copied (held_place h hold p))) ≡ loose → ⊥
          from true bad = cc bad
          from false bad = cc bad

    -- The changes are all in these guest clusters.
    given-at : (p : ℕ) (v : Option Value) → kind.gives p v
        → IsOurs (p / cs) × (v ≡ own_value_by f h p (data_at (hold.host + (p / cs - hold.guest)) true))
    given-at p v gave =
        let one = run-gives before hold.guest hold.host hold.count p v gave in
        let same = same-parts (p / cs) (hold.guest + one.0) (entries_of_cluster h) one.2.0.0 one.2.0.1 in
        let back : one.0 ≡ p / cs - hold.guest = omega (arith, same) in (
          (omega (arith, same), omega (arith, same, one.1)),
          one.2.1 ∙ ap (λ d. own_value_by f h p (data_at (hold.host + d) true)) back,
        )

    set-at : (x : ℕ) → kind.set x → IsOurs x
    set-at x set =
        let one = run-sets before hold.guest hold.host hold.count x set in
        let same = same-parts x (hold.guest + one.0) (entries_of_cluster h) one.2.0 one.2.1 in
        (omega (arith, same), omega (arith, same, one.1))

    -- A crash image during linking also reads so.
    pub stops-settled : (below : List Layer) → UnrefusedCrashImages (Left below (layer_of g old) (g.state old.tables.file.image).bytes is_sound
        (layer_of g old).size (layer_of g old).size (GivesSettled below (layer_of g old)))
        (g.state old.tables.file.image) (g.state new.tables.file.image)
    stops-settled below =
        passes_weaker (λ x. (K : Header) × MayBeCrashImage kind.gives before (bytes_of x) K)
        (Left below (layer_of g old) (g.state old.tables.file.image).bytes is_sound h.size h.size (GivesSettled below (layer_of g old)))
        (g.state old.tables.file.image) (g.state new.tables.file.image)
        (may-left g old holds.space well_formed below kind.gives (GivesSettled below (layer_of g old)) shows)
        (progress.passes well_formed.keeps sound) where
          shows : (p : ℕ) (v : Option Value) → p < h.size → kind.gives p v
              → May below (layer_of g old) (g.state old.tables.file.image).bytes (GivesSettled below (layer_of g old)) p (seen_as g old holds.space well_formed below p v)
          shows p v low given =
              let here = given-at p v given in
              inr (inr (
                own (byte (f (held_place h hold p))),
                settled-byte p here.0 low ((layer_of g old).cell p),
                ap (seen_as g old holds.space well_formed below p) here.1 ∙ rw (lt-ltb p h.size low) refl,
              ))

    -- Linking succeeded.
    module _ (ok : s.named ≡ Ok tt) where
      abbrev pub after : Metadata
      after = flushed_metadata g.state c'

      pub advances : Advances kind.gives kind.written kind.set kind.excess_added kind.taken before after
      advances = progress.holds well_formed.keeps sound ok

      words-named : (d : ℕ) → d < hold.count → entry f' h (hold.guest + d) ≡ data_at (hold.host + d) true
      words-named = subst (λ r. OnOk r ((d : ℕ) → d < hold.count → entry f' h (hold.guest + d) ≡ data_at (hold.host + d) true)) ok
          (with-space.names.named ready able)

      word-named : (x : ℕ) → IsOurs x → entry f' h x ≡ data_at (hold.host + (x - hold.guest)) true
      word-named x ours =
          let whole : hold.guest + (x - hold.guest) ≡ x = omega (arith, ours.0) in
          ap (entry f' h) (sym whole) ∙ words-named (x - hold.guest) (omega (arith, ours.0, ours.1))

      uncopied-at : (x : ℕ) → IsOurs x → IsUncopied (entry f h x)
      uncopied-at x ours =
          let whole : hold.guest + (x - hold.guest) ≡ x = omega (arith, ours.0) in
          subst (λ y. IsUncopied (entry f h y)) whole (holds.held.uncopied (x - hold.guest) (omega (arith, ours.0, ours.1)))

      bytes-kept : (q : ℕ) → hold.host ≤ q / cs → q / cs < hold.host + hold.count → f' q ≡ f q
      bytes-kept = subst (λ r. OnOk r ((q : ℕ) → hold.host ≤ q / cs → q / cs < hold.host + hold.count → f' q ≡ f q)) ok
          (with-space.names.bytes ready able)

      byte-kept : (p : ℕ) → IsOurs (p / cs) → f' (held_place h hold p) ≡ f (held_place h hold p)
      byte-kept p ours =
          let there = cluster-there h (held_place h hold p) (hold.host + (p / cs - hold.guest)) p refl in
          bytes-kept (held_place h hold p) (omega (arith, there)) (omega (arith, there, ours.0, ours.1))

      pub memory-now : in_memory after ≡ f'
      memory-now = clean-memory f' h' nothing_cached tt tt

      pub memory-then : in_memory before ≡ f
      memory-then = rest-memory g old.tables holds.space

      word-is : (x : ℕ) → IsOurs x ⊎ (entry f' h x ≡ entry f h x)
      word-is x = elim (advances.raw_entries x) [
        | inl same ↦ inr (ap (λ k. entry f' k x) (sym fields-same) ∙ ap (λ b. entry b h' x) (sym memory-now) ∙ same
            ∙ ap (λ b. entry b h x) memory-then)
        | inr set ↦ inl (set-at x set)
      ]

      value-is : (p : ℕ) → IsOurs (p / cs) ⊎ (own_value f' f' h p ≡ own_value f f h p)
      value-is p = elim (advances.memory p) [
        | inl same ↦ inr (ap (λ k. own_value f' f' k p) (sym fields-same) ∙ ap (λ b. own_value b f' h' p) (sym memory-now) ∙ same
            ∙ ap (λ b. own_value b f h p) memory-then)
        | inr gave ↦ inl (given-at p (own_value (in_memory after) f' h' p) gave).0
      ]

      cell-now : (p : ℕ) → (layer_of g new).cell p ≡ cells (blank_of old.mode.backing) f' f' h p
      cell-now p = λ i. cells (blank_of (mode-same i).backing) (memory-is g new.tables i) f' (fields-same i) p

      cell-then : (p : ℕ) → (layer_of g old).cell p ≡ cells (blank_of old.mode.backing) f f h p
      cell-then p = λ i. cells (blank_of old.mode.backing) (memory-is g old.tables i) f h p

      -- In the guest clusters of the mapping the disk has the bytes of the host clusters.
      cell-there : (p : ℕ) → IsOurs (p / cs) → p < h.size → (layer_of g new).cell p ≡ own (byte (f (held_place h hold p)))
      cell-there p is low =
          cell-now p ∙ (rw (lt-ltb p h.size low) (ap (cell_by (blank_of old.mode.backing) f' h p) (word-named (p / cs) is)
          ∙ ap (λ b. own (byte b)) (byte-kept p is)))

      -- Elsewhere it is unchanged.
      cell-elsewhere : (p : ℕ) → (IsOurs (p / cs) → p < h.size → ⊥) → (layer_of g new).cell p ≡ (layer_of g old).cell p
      cell-elsewhere p out = cell-now p ∙ elim (cases_lt p h.size) [
        | inr behind ↦ rw (le-ltb p h.size behind) refl
        | inl low ↦ rw (lt-ltb p h.size low) (elim (value-is p) [
          | inl guest ↦ absurd (out guest low)
          | inr same ↦ cell-shown (blank_of old.mode.backing) f' h p (entry f' h (p / cs)) ∙ ap (cell_of (blank_of old.mode.backing)) same
              ∙ sym (cell-shown (blank_of old.mode.backing) f h p (entry f h (p / cs)))
        ])
      ] ∙ sym (cell-then p)

      cell-settles : (p : ℕ) → CommitsPlace ((layer_of g old).held p) ((layer_of g old).cell p) ((layer_of g new).cell p)
      cell-settles p = elim (cases_Bool (in_clusters h hold p)) [
        | inl there ↦
            let place = clusters-from h hold p there in
            subst (CommitsPlace ((layer_of g old).held p) ((layer_of g old).cell p)) (sym (cell-there p place.0 place.1))
            (settled-byte p place.0 place.1 ((layer_of g old).cell p))
        | inr out ↦
            let same = cell-elsewhere p (λ is low. let there = clusters-of h hold p is low in cc (sym out ∙ there)) in
            let none : loose ≡ (layer_of g old).held p = sym (ap (λ o. held_with h f o p) hold-is ∙ rw out refl) in
            subst (λ k. CommitsPlace k ((layer_of g old).cell p) ((layer_of g new).cell p)) none same
      ]

      home-now : (p : ℕ) → writable_locations_of g new p ≡ writable_locations old.mode.writable f' h p
      home-now p = λ i. writable_locations (mode-same i).writable (memory-is g new.tables i) (fields-same i) p

      home-then : (p : ℕ) → writable_locations_of g old p ≡ writable_locations old.mode.writable f h p
      home-then p = λ i. writable_locations old.mode.writable (memory-is g old.tables i) h p

      -- A byte that could be written in place still can.
      pub home-grows : (p : ℕ) (at : ℕ × ℕ) → writable_locations_of g old p ≡ Some at → writable_locations_of g new p ≡ Some at
      home-grows p at is = elim (word-is (p / cs)) [
        | inl guest ↦
            absurd (let none : None ≡ Some at = sym (uncopied-homeless old.mode.writable f h p (uncopied-at (p / cs) guest)) ∙ sym (home-then p) ∙ is in cc none)
        | inr same ↦
            home-now p ∙ ap (λ w. if old.mode.writable && ltb p h.size then writable_location_by h p w else None) same ∙ sym (home-then p) ∙ is
      ]

      -- A byte of the run can now be written in place.
      home-held-now : (p : ℕ) (at : ℕ × ℕ) → held_writable_location hold p ≡ Some at → writable_locations_of g new p ≡ Some at
      home-held-now p at is =
          let there = run-home hold p at is in
          let guest = run-guest before hold holds.held p there.0 in
          let place = held-at before hold holds.held p there.0 in
          let low : p < h.size = let in-run = run-from hold p there.0 in let end = holds.held.on_disk in omega (arith, in-run.1, end) in
          let writable : old.mode.writable ≡ true = well_formed.writable (subst IsSome (sym s.was_unspent) refl) in
          let here : writable_locations old.mode.writable f' h p ≡ Some (0, held_place h hold p) =
          rw (writable, lt-ltb p h.size low) (ap (writable_location_by h p) (word-named (p / cs) guest)) in
          home-now p ∙ here ∙ ap (λ (x : ℕ). Some (0, x)) (sym place) ∙ ap Some (sym there.1)

      home-settles : (p : ℕ) (at : ℕ × ℕ) → (layer_of g old).writable_location p ≡ Some at → (layer_of g new).writable_location p ≡ Some at
      home-settles p at is =
          free-homes (holding_in g new.unspent) (writable_locations_of g new) p is-free
          ∙ from (writable_locations_of g old p) refl (subst (λ o. writable_locations_with o (writable_locations_of g old) p ≡ Some at) hold-is is) where
            from : (o : Option (ℕ × ℕ)) → writable_locations_of g old p ≡ o → writable_location_or o (held_writable_location hold p) ≡ Some at → writable_locations_of g new p ≡ Some at
            from None same held = home-held-now p at held
            from (Some home) same there = home-grows p at (same ∙ there)

      pub committed : Committed (layer_of g old) (layer_of g new)
      committed = record { fixed = fixed-same; size = size-same; is_free = is-free; cell = cell-settles; writable_location = home-settles }

      -- Allocated bytes stay allocated, and unallocated bytes outside the mapping stay unallocated.
      room-now : (P : Bytes → Fields → Type 0) → P f' h → P (memory_of g new.tables) h'
      room-now P is = subst (λ b. P b h') (sym (memory-is g new.tables)) (subst (P f') (sym fields-same) is)

      room-then : (P : Bytes → Fields → Type 0) → P (memory_of g old.tables) h → P f h
      room-then P = subst (λ b. P b h) (memory-is g old.tables)

      pub room-kept : (p : ℕ) → HasRoom (memory_of g old.tables) h p → HasRoom (memory_of g new.tables) h' p
      room-kept p has = room-now (λ b k. HasRoom b k p) (
          let was : HasRoom f h p = room-then (λ b k. HasRoom b k p) has in record {
            inside = was.inside;
            own = elim (word-is (p / cs)) [
              | inl guest ↦ subst HasCluster (sym (word-named (p / cs) guest)) tt
              | inr same ↦ subst HasCluster (sym same) was.own
            ];
          })

      pub stays-so : (P : Mapping → Type 0) (p : ℕ) → (layer_of g old).held p ≡ loose
          → (h.size ≤ p) ⊎ P (entry (memory_of g old.tables) h (p / cs))
          → (h'.size ≤ p) ⊎ P (entry (memory_of g new.tables) h' (p / cluster_size h'))
      stays-so P p none was = room-now (λ b k. (k.size ≤ p) ⊎ P (entry b k (p / cluster_size k)))
          (elim (room-then (λ b k. (k.size ≤ p) ⊎ P (entry b k (p / cluster_size k))) was) [
            | inl behind ↦ inl behind
            | inr is ↦ elim (word-is (p / cs)) [
              | inr same ↦ inr (subst P (sym same) is)
              | inl guest ↦ elim (cases_lt p h.size) [
                | inl low ↦ absurd (not-loose p guest low none)
                | inr behind ↦ inl behind
              ]
            ]
          ])

      consistent-now : IsConsistent f' new.tables.file.header
      consistent-now = advances.sound.well_formed.consistent

      l1-now : IsL1Of f' h' new.tables.l1
      l1-now = with-space.names.l1 able ready (subst HadNoResourceError (sym ok) tt) new.tables.l1 (subst (IsL1Of f h) (sym s.names.l1) well_formed.seen.l1)

      -- The L1 entry still references the table.
      table-there : IsTableAt f' h' (hold.table * cluster_size h')
      table-there = by (holds.held.in_table 0 holds.held.any) where
        row : ℕ
        row = (hold.guest + 0) / entries_of_cluster h

        place-same : l2_table f' h' row ≡ l2_table f h row
        place-same = tables-same f f' h h' new.tables.l1 (subst (IsL1Of f h) (sym s.names.l1) well_formed.seen.l1) l1-now row

        by : IsUnder before hold.table (hold.guest + 0) → IsTableAt f' h' (hold.table * cluster_size h')
        by under = record {
          row = row;
          in_l1 = subst (λ k. row < k.l1_entries) (sym fields-same) under.inside;
          is_there = λ none.
              let apart = under.table_nonzero in
              let long = mul-pos {m = hold.table} (omega (arith, apart)) (pow_pos h.cluster_bits) in
              let nowhere = sym under.table_linked ∙ sym place-same ∙ none in
              omega (arith, long, nowhere);
          at = place-same ∙ under.table_linked ∙ ap (λ k. hold.table * cluster_size k) (sym fields-same);
        }

      seen-now : IsCacheCoherent g new.tables
      seen-now = record {
        loads = header-reading f' new.tables.file.header consistent-now.readable.loads;
        inside = consistent-now.readable.data_inside;
        l1 = l1-now;
        tables = tables-of-file f' h' hold.table table-there (cached_in new.tables.caches).tables with-space.leaves_table.alone
            (subst (λ r. OnOk r (AllByRecursion (λ e. IsCachedTable f' h' e.0 e.1.value) (cached_in new.tables.caches).tables)) ok (with-space.leaves_table.fit ready able))
            with-space.leaves_table.clean;
      }

      rest-now : rest_of g new.tables with-space.after ≡ after
      rest-now = λ i. record after { table = table_of (with-space.allocator i); pending = with-space.entries i }

      pub safe-now : IsWellFormed g new
      safe-now = record {
        runs = failed-is ∙ ap (λ r. failed_after_any r old.failed) ok ∙ well_formed.runs;
        keeps = subst (λ (x : Shape). IsTrue x.keeps) (sym s.names.shape) well_formed.keeps;
        consistent = consistent-now;
        seen = seen-now;
        sound = subst (λ o. IfSome o (λ x. IsSound (rest_of g new.tables x))) (sym with-space.space_known) (subst IsSound (sym rest-now) advances.sound);
        searched = counted-in-file g new.tables with-space.after with-space.space_known
            (subst (λ (a : Allocator). NoneFreeBefore after (first_free_of a)) (sym with-space.allocator)
            (with-space.names.marked able ready (subst HadNoResourceError (sym ok) tt) (counted-at-rest g old.tables holds.space holds.space_known well_formed.searched)));
        held = subst (λ o. IfSome o (HoldsIn g new.tables)) (sym none-held) tt;
        writable = λ some. absurd (cc (subst IsSome free-now some));
      }

-- A commit as its two calls: the mapping is taken out, and its clusters are linked.
pub spends-by : {S : Type 0} (g : Ghosts S) (mapping_id : ℕ) (old mid : Qcow2 S g) (u : Unspent S g)
    → (u.mapping_id ≡ mapping_id) × (old.unspent ≡ Some u) × (mid ≡ record old { unspent = None }) → (named : Result Unit Fault) (tables : Tables S g)
    → LinksHost g (reserved_of g u) u.guest mid.tables named tables → (new : Qcow2 S g)
    → new ≡ record mid { tables = tables; failed = failed_after_any named mid.failed }
    → (result : Result Unit (Fault × Option (PreparedDataMapping PreparedMappingState))) → result ≡ answer_of named
    → (let file = (g.state mid.tables.file.image).bytes in EachIndex file (λ k. slice_index file k < 256))
    → CommitsUnspent g mapping_id old result new
spends-by g mapping_id old mid u taken named tables names new is result answer bytes = inr (record {
  spent = u;
  was_unspent = taken.1;
  mine = taken.0;
  bytes = subst (λ (t : Tables _ g). let file = (g.state t.file.image).bytes in EachIndex file (λ k. slice_index file k < 256)) tables-same bytes;
  named = named;
  names = subst (λ t. LinksHost g (reserved_of g u) u.guest t named new.tables) tables-same
      (subst (LinksHost g (reserved_of g u) u.guest mid.tables named) (sym (ap (λ (d : Qcow2 _ g). d.tables) is)) names);
  answer = answer;
  others = is
      ∙ ap (λ (d : Qcow2 _ g). record d { tables = tables; failed = failed_after_any named d.failed }) taken.2
      ∙ ap (λ t. record old { tables = t; unspent = None; failed = failed_after_any named old.failed }) (sym (ap (λ (d : Qcow2 _ g). d.tables) is));
}) where
  tables-same : mid.tables ≡ old.tables
  tables-same = ap (λ (d : Qcow2 _ g). d.tables) taken.2

-- After entries were set nothing that is cached is dirty or pinned.
none-pinned : {V : Type 0} (es : List (ℕ × Slot V)) → AllByRecursion (λ e. e.1.pins ≡ 0) es → pinned_in es ≡ 0
none-pinned [] none = refl
none-pinned (e ∷ es) none =
    let own : pinned_in (e ∷ es) ≡ cond (nat_lt 0 e.1.pins) 1 0 + pinned_in es = sum_by-cons (λ x. cond (nat_lt 0 x.1.pins) 1 0) e es in
    let free : nat_lt 0 e.1.pins ≡ false = ap (nat_lt 0) none.0 in
    let rest = own ∙ ap (λ b. cond b 1 0 + pinned_in es) free in
    let others = none-pinned es none.1 in
    omega (arith, rest, others)

module _ {S : Type 0} (state : S → StorageState) (c : Clusters S) (result : Result Unit Fault) (file : ImageFile S) (caches : MetadataCaches S)
    (space : Space) (rests : Rests state c result (clusters_state file (without_tables caches) space)) (clean : AreTablesClean (cached_in caches))
    (unpinned : AllByRecursion (λ e. e.1.pins ≡ 0) (cached_in caches).tables) where
  no-blocks : caches.rb.slots.entries ≡ []
  no-blocks = ap (λ (k : Cached). k.blocks) rests.empty

  pub named-clean : IsClean (cached_in caches)
  named-clean = (clean, subst (AllByRecursion (λ e. e.1.value.modified ≡ false)) (sym no-blocks) tt)

  pub named-loose : (old : MetadataCaches S) → HasRoomOf old c.caches → IsUnpinned old → IsUnpinned caches
  named-loose old room free = (
    none-pinned caches.l2.slots.entries unpinned,
    subst (λ es. pinned_in es ≡ 0) (sym no-blocks) refl,
    subst (λ k. 0 < k) (sym (rests.room.tables ∙ room.tables)) free.2,
    subst (λ k. 0 < k) (sym (rests.room.blocks ∙ room.blocks)) free.3,
  )

-- Linking as the call that does it, if entries can reference the clusters.
module _ {S : Type 0} (g : Ghosts S) (r : Reserved) (guest : ℕ) (old new : Tables S g) (result : Result Unit Fault) (space : Space)
    (caches : MetadataCaches S) (between after : Space) (there : old.space ≡ Some space)
    (names : LinksRun g.state r.table guest r.host r.count (clusters_state old.file caches space) result (clusters_state new.file (without_tables new.caches) between))
    (kept : LeavesTable g.state r.table guest r.host r.count (clusters_state old.file caches space) result (clusters_state new.file new.caches between)) (l1 : new.l1 ≡ old.l1)
    (there' : new.space ≡ Some after) (allocator : after.allocator ≡ between.allocator)
    (entries : after.to_free.entries ≡ between.to_free.entries)
    (let_go : OnOk result (after.to_free.held ≡ held_after r.is_kept between.to_free.held)) where
  if-err : (r : Result Unit Fault) (P Q : Fault → Type 0) → ((fault : Fault) → P fault → Q fault) → IfErr r P → IfErr r Q
  if-err (Ok done) P Q each is = tt
  if-err (Err fault) P Q each is = each fault is

  pub names-by : LinksHost g r guest old result new
  names-by = record {
    shape = names.rests.shape;
    counts_not_fallen = names.rests.counts_not_fallen;
    faults = names.rests.faults;
    header = names.header;
    no_shorter = names.no_shorter;
    l1 = l1;
    known = λ known is namable. record {
      caches = caches;
      between = between;
      after = after;
      names = subst (λ x. LinksRun g.state r.table guest r.host r.count (clusters_state old.file caches x) result (clusters_state new.file (without_tables new.caches) between))
          (some-same known space (sym is ∙ there)) names;
      leaves_table = subst (λ x. LeavesTable g.state r.table guest r.host r.count (clusters_state old.file caches x) result (clusters_state new.file new.caches between))
          (some-same known space (sym is ∙ there)) kept;
      space_known = there';
      allocator = allocator;
      entries = entries;
      let_go = let_go;
    };
    cause = if-err result _ _ (λ fault. cause-weaker (writing-implies _ (omega arith) (omega arith) (λ far none. none)) fault) names.cause;
  } where
    some-same : (a b : Space) → Some a ≡ Some b → b ≡ a
    some-same a b is = cc (sym is)

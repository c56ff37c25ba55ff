-- Lemmas on the disk of an image whose guest clusters were cleared: its values, allocations and crash images.
use Rattle.std.proofs.Common.{◌≡◌, ℕ, ◌+◌, ◌-◌, ◌*◌, ◌/◌, ◌<◌, ◌≤◌, mul-pos, refl, arith, ap, sym, subst, ◌∙◌, inl, inr, Bool, true, false, List, Option, Some, None, Result, Ok, Err, zero, suc}
use Rattle.std.proofs.lemmas.Bool.{cases_lt, le-ltb, lt-ltb}
use Rattle.std.proofs.lemmas.Nat.{pow_pos}
use Rattle.std.specs.Prelude.{◌⊎◌, IsTrue, IsSome, IfSome, IfErr, OnOk}
use Rattle.std.specs.List.{AllByRecursion}
use Rattle.imago_storage.specs.State.{Shape}
use Rattle.imago_storage.specs.Disk.{Value, byte}
use Rattle.imago_storage.specs.Passing.{UnrefusedCrashImages}
use Rattle.imago_storage.specs.declared.fault.Fault.{Fault}
use Rattle.imago_storage.specs.declared.fault.Fault.TheVariants.{DamagedTable, Memory, Storage}
use Rattle.imago_storage.specs.declared.storage.Storage.{Ghosts}
use Rattle.imago_access.specs.Chain.{at}
use Rattle.imago_access.specs.Files.{IsNotResourceError}
use Rattle.imago_access.specs.Layer.{Layer, through}
use Rattle.imago_access.specs.Stops.{Left, May}
use Rattle.imago_access.proofs.Stopping.{passes_weaker}
use Rattle.qcow2_types.specs.Bytes.{Bytes, bytes_of}
use Rattle.qcow2_types.specs.Header.{Fields, Header, cluster_size, entries_of_cluster}
use Rattle.qcow2_types.specs.Words.{Mapping, data_at, packed, zeroes, damaged}
use Rattle.qcow2_types.specs.Words as mappings
use Rattle.qcow2_types.specs.Counts.{count}
use Rattle.qcow2_types.specs.Entries.{entry, l2_table}
use Rattle.qcow2_types.specs.References.{refs}
use Rattle.qcow2_types.specs.Consistency.{IsConsistent}
use Rattle.qcow2_types.proofs.Counting.Consistent.{header-reading}
use Rattle.qcow2_metadata.specs.Allocations.{kept_where}
use Rattle.qcow2_alloc.specs.Causes.{HasCause}
use Rattle.qcow2_alloc.specs.Changes.{zeroed}
use Rattle.qcow2_alloc.specs.Going.{HadNoResourceError, writing_causes}
use Rattle.qcow2_alloc.specs.Caches.{cached_in}
use Rattle.qcow2_alloc.specs.Opening.{IsL1Of}
use Rattle.qcow2_alloc.specs.GuestView.{Metadata, IsSound, counted, in_memory, referenced, waiting}
use Rattle.qcow2_alloc.specs.WellFormedness.{IsCachedTable}
use Rattle.qcow2_alloc.proofs.Memory.SafeLaws.{clean-memory}
use Rattle.qcow2_steps.specs.Advancing.{Advances, MayBeCrashImage}
use Rattle.qcow2_steps.specs.Values.{own_value, own_value_by}
use Rattle.qcow2_clusters.specs.Clearing.{AreUnder, cleared, clearing, clearing_run}
use Rattle.qcow2_clusters.specs.Linking.{IsUnder, TakesNone}
use Rattle.qcow2_clusters.specs.Progress.{Kind, Progresses}
use Rattle.qcow2_clusters.specs.Flushed.{Clusters, IsReady, clusters_state, flushed_metadata, nothing_cached}
use Rattle.qcow2_clusters.specs.WritingBack.{without_tables}
use Rattle.qcow2_clusters.specs.declared.clearing.Clearing.{Clearing}
use Rattle.qcow2_clusters.specs.declared.clearing.Clearing.TheVariants.{Keep, GiveUp, Unmap}
use Rattle.qcow2_clusters.specs.declared.space.Space.{Space}
use Rattle.qcow2_image.specs.Allocating.{failed_by_resource_error}
use Rattle.qcow2_image.specs.Clearing.{ClearsClusters, ClearsWith}
use Rattle.qcow2_image.specs.ImageLayer.{blank_of, cell_by, cells, qcow2_fixed}
use Rattle.qcow2_image.specs.Leaking.{KeepsLeaks, counts_in, names_in, reserved_in, waiting_in}
use Rattle.qcow2_image.specs.Rooms.{HasCluster, HoldsIn, IsWellFormed, ReadsNone, is_sound, rest_of}
use Rattle.qcow2_image.specs.Seen.{IsCacheCoherent, IsTableAt, file_of, layer_of}
use Rattle.qcow2_image.specs.Unspent.{holding_in}
use Rattle.qcow2_image.specs.declared.qcow2.Qcow2.{Qcow2}
use Rattle.qcow2_image.specs.declared.tables.Tables.{Tables}
use Rattle.qcow2_image.proofs.Commits.{same-parts}
use Rattle.qcow2_image.proofs.DiskEffects.{cell-shown, cell_of, may-left, rest-memory, safe-sound, seen_as}
use Rattle.qcow2_image.proofs.FileWords.{tables-same}
use Rattle.qcow2_image.proofs.SearchStart.{counted-at-rest, counted-in-file}
use Rattle.qcow2_image.proofs.Steps.{memory-is}
use Rattle.qcow2_image.proofs.TableSearches.{tables-of-file}

-- The value of a cleared guest cluster in the image itself.
abbrev pub cleared_value : Clearing → Option Value
cleared_value Keep = Some (byte 0)
cleared_value GiveUp = Some (byte 0)
cleared_value Unmap = None

zeroed-value : (file : Bytes) (h : Fields) (p : ℕ) (kept : Option (ℕ × Bool)) → own_value_by file h p (zeroed kept) ≡ Some (byte 0)
zeroed-value file h p None = refl
zeroed-value file h p (Some kept) = refl

pub cleared-value : (how : Clearing) (file : Bytes) (h : Fields) (p : ℕ) (old : Mapping) → own_value_by file h p (cleared how old) ≡ cleared_value how
cleared-value Keep file h p old = zeroed-value file h p (kept_where true old)
cleared-value GiveUp file h p old = zeroed-value file h p (kept_where false old)
cleared-value Unmap file h p old = refl

-- A cleared guest cluster reads as zeroes or is unallocated. If it was zeroed, it keeps its host cluster, and gets none.
zeroed-reads : (kept : Option (ℕ × Bool)) → ReadsNone (zeroed kept)
zeroed-reads None = tt
zeroed-reads (Some kept) = tt

pub cleared-reads : (how : Clearing) (old : Mapping) → ReadsNone (cleared how old)
cleared-reads Keep old = zeroed-reads (kept_where true old)
cleared-reads GiveUp old = zeroed-reads (kept_where false old)
cleared-reads Unmap old = tt

pub zeroed-keeps : (old : Mapping) → HasCluster old → HasCluster (cleared Keep old)
zeroed-keeps (data_at cluster copied) has = tt
zeroed-keeps (zeroes (Some cluster) copied) has = tt
zeroed-keeps (zeroes None copied) has = absurd has
zeroed-keeps (packed offset length) has = absurd has
zeroed-keeps mappings.unmapped has = absurd has
zeroed-keeps damaged has = absurd has

pub zeroed-takes : (old : Mapping) → TakesNone old → TakesNone (cleared Keep old)
zeroed-takes mappings.unmapped none = tt
zeroed-takes (zeroes None copied) none = tt
zeroed-takes (zeroes (Some cluster) copied) none = absurd none
zeroed-takes (data_at cluster copied) none = absurd none
zeroed-takes (packed offset length) none = absurd none
zeroed-takes damaged none = absurd none

-- Each byte with a new value is in one of these guest clusters, and each changed entry is the entry of one.
clearing-gives : (how : Clearing) (m : Metadata) (guest n p : ℕ) (v : Option Value) → (clearing_run how m guest n).gives p v
    → (d : ℕ) × (d < n) × (clearing how m (guest + d)).gives p v
unfolding clearing_run
clearing-gives how m guest zero p v none = absurd none
clearing-gives how m guest (suc n) p v gave = elim gave [
  | inl before ↦ let one = clearing-gives how m guest n p v before in (one.0, omega (arith, one.1), one.2)
  | inr here ↦ (n, omega arith, here)
]

clearing-sets : (how : Clearing) (m : Metadata) (guest n x : ℕ) → (clearing_run how m guest n).set x → (d : ℕ) × (d < n) × (clearing how m (guest + d)).set x
unfolding clearing_run
clearing-sets how m guest zero x none = absurd none
clearing-sets how m guest (suc n) x set = elim set [
  | inl before ↦ let one = clearing-sets how m guest n x before in (one.0, omega (arith, one.1), one.2)
  | inr here ↦ (n, omega arith, here)
]

-- Each cluster that an entry no longer references is on the free list.
clearing-hands : (how : Clearing) (m : Metadata) (guest n c : ℕ) → (clearing_run how m guest n).excess_added c ≡ (clearing_run how m guest n).taken c
unfolding clearing_run
clearing-hands how m guest zero c = refl
clearing-hands how m guest (suc n) c = let before = clearing-hands how m guest n c in omega (arith, before)

-- The guest cluster is one of `n` from `guest` on.
abbrev pub IsInClusters : (guest n x : ℕ) → Type 0
IsInClusters guest n x = (guest ≤ x) × (x < guest + n)

-- The bytes of these guest clusters are zero, or are left to the layers below. Other bytes are unchanged.
pub record CellsCleared (how : Clearing) (guest n : ℕ) (old new : Layer) : Type 0 where
  pub there : (p : ℕ) → IsInClusters guest n (p / old.fixed.unit) → p < old.size → new.cell p ≡ cell_of old.fixed.blank (cleared_value how)
  pub elsewhere : (p : ℕ) → (IsInClusters guest n (p / old.fixed.unit) → p < old.size → ⊥) → new.cell p ≡ old.cell p

-- The entries of these guest clusters are cleared, and other entries are unchanged.
pub record EntriesCleared {S : Type 0} (g : Ghosts S) (how : Clearing) (guest n : ℕ) (old new : Tables S g) : Type 0 where
  pub there : (x : ℕ) → IsInClusters guest n x
      → entry (file_of g new) new.file.header.fields x ≡ cleared how (entry (file_of g old) old.file.header.fields x)
  pub elsewhere : (x : ℕ) → IsInClusters guest n x
      ⊎ (entry (file_of g new) new.file.header.fields x ≡ entry (file_of g old) old.file.header.fields x)

-- The guest clusters of a well-formed image were cleared. The image is still well-formed, and nothing leaks.
pub record DiskCleared {S : Type 0} (g : Ghosts S) (how : Clearing) (guest n : ℕ) (old new : Qcow2 S g) : Type 0 where
  pub well_formed : IsWellFormed g new
  pub cells : CellsCleared how guest n (layer_of g old) (layer_of g new)
  pub entries : EntriesCleared g how guest n old.tables new.tables
  pub leaks : KeepsLeaks g old new

-- The value of each byte of these guest clusters, once they are cleared, may be shown by a crash image.
abbrev pub MayBeShown : Clearing → (guest n : ℕ) → Layer → List Layer → (ℕ → Value → Type 0) → Type 0
MayBeShown how guest n layer below gives = (p : ℕ) → p < layer.size → IsInClusters guest n (p / layer.fixed.unit)
    → gives p (through (cell_of layer.fixed.blank (cleared_value how)) (at below p))

module _ {S : Type 0} (g : Ghosts S) (how : Clearing) (table guest n : ℕ) (old new : Qcow2 S g) (result : Result Unit Fault)
    (s : ClearsClusters g how table guest n old result new) where
  abbrev f : Bytes
  f = file_of g old.tables

  abbrev f' : Bytes
  f' = file_of g new.tables

  abbrev h : Fields
  h = old.tables.file.header.fields

  abbrev h' : Fields
  h' = new.tables.file.header.fields

  abbrev cs : ℕ
  cs = cluster_size h

  fields-same : h' ≡ h
  fields-same = ap (λ (K : Header). K.fields) s.clears.header

  mode-same : new.mode ≡ old.mode
  mode-same = ap (λ (d : Qcow2 S g). d.mode) s.others

  number-same : new.number ≡ old.number
  number-same = ap (λ (d : Qcow2 S g). d.number) s.others

  pub unspent-same : new.unspent ≡ old.unspent
  unspent-same = ap (λ (d : Qcow2 S g). d.unspent) s.others

  pub failed-is : new.failed ≡ failed_by_resource_error result s.begun old.failed
  failed-is = ap (λ (d : Qcow2 S g). d.failed) s.others

  pub fixed-same : (layer_of g new).fixed ≡ (layer_of g old).fixed
  fixed-same = λ i. qcow2_fixed (s.clears.shape i) (fields-same i) (mode-same i) (number-same i)

  size-same : (layer_of g new).size ≡ (layer_of g old).size
  size-same = ap (λ (k : Fields). k.size) fields-same

  abbrev IsOurs : ℕ → Type 0
  IsOurs = IsInClusters guest n

  -- The image was well-formed, and memory was reserved.
  module _ (well_formed : IsWellFormed g old) (space : Space) (there : old.tables.space ≡ Some space)
      (under : AreUnder n (rest_of g old.tables space) table guest) (w : ClearsWith g how table guest n old.tables space result new.tables) where
    abbrev before : Metadata
    before = rest_of g old.tables space

    sound : IsSound before
    sound = safe-sound g old space there well_formed

    abbrev c : Clusters S
    c = clusters_state old.tables.file w.caches space

    abbrev c' : Clusters S
    c' = clusters_state new.tables.file (without_tables new.tables.caches) w.after

    abbrev kind : Kind
    kind = clearing_run how before guest n

    ready : IsReady g.state c
    ready = record { keeps = well_formed.keeps; sound = sound }

    progress : Progresses (result ≡ Ok tt) kind (g.state old.tables.file.image) before (g.state new.tables.file.image) (flushed_metadata g.state c')
    progress = w.clears.progress under

    -- Clearing fails only with a resource error.
    pub refused-hard : (fault : Fault) → result ≡ Err fault → IsNotResourceError fault → ⊥
    refused-hard fault is not_resource_error =
        never fault (subst (λ r. IfErr r (HasCause (writing_causes (IsReady g.state c × AreUnder n before table guest)
        (g.state old.tables.file.image).faults (g.state new.tables.file.image).faults))) is w.clears.cause) not_resource_error where
          never : (e : Fault) → HasCause (writing_causes (IsReady g.state c × AreUnder n before table guest)
              (g.state old.tables.file.image).faults (g.state new.tables.file.image).faults) e → IsNotResourceError e → ⊥
          never Memory why not_resource_error = not_resource_error
          never Storage why not_resource_error = not_resource_error
          never DamagedTable why not_resource_error = why (ready, under)
          never e why not_resource_error = why

    -- Only these guest clusters change.
    given-at : (p : ℕ) (v : Option Value) → kind.gives p v → IsOurs (p / cs) × (v ≡ cleared_value how)
    given-at p v gave =
        let one = clearing-gives how before guest n p v gave in
        let same = same-parts (p / cs) (guest + one.0) (entries_of_cluster h) one.2.0.0 one.2.0.1 in (
          (omega (arith, same), omega (arith, same, one.1)),
          one.2.1 ∙ cleared-value how f h p (entry f h (guest + one.0)),
        )

    set-at : (x : ℕ) → kind.set x → IsOurs x
    set-at x set =
        let one = clearing-sets how before guest n x set in
        let same = same-parts x (guest + one.0) (entries_of_cluster h) one.2.0 one.2.1 in
        (omega (arith, same), omega (arith, same, one.1))

    -- A crash image reads as before, or as the guest clusters are cleared.
    pub stops-cleared : (below : List Layer) (gives : ℕ → Value → Type 0)
        → MayBeShown how guest n (layer_of g old) below gives
        → UnrefusedCrashImages (Left below (layer_of g old) (g.state old.tables.file.image).bytes is_sound
        (layer_of g old).size (layer_of g old).size gives) (g.state old.tables.file.image) (g.state new.tables.file.image)
    stops-cleared below gives allowed =
        passes_weaker (λ x. (K : Header) × MayBeCrashImage kind.gives before (bytes_of x) K)
        (Left below (layer_of g old) (g.state old.tables.file.image).bytes is_sound h.size h.size gives)
        (g.state old.tables.file.image) (g.state new.tables.file.image)
        (may-left g old space well_formed below kind.gives gives shows)
        (progress.passes well_formed.keeps sound) where
          shows : (p : ℕ) (v : Option Value) → p < h.size → kind.gives p v
              → May below (layer_of g old) (g.state old.tables.file.image).bytes gives p (seen_as g old space well_formed below p v)
          shows p v low given =
              let here = given-at p v given in
              inr (inr (subst (gives p) (sym (ap (seen_as g old space well_formed below p) here.1 ∙ rw (lt-ltb p h.size low) refl)) (allowed p low here.0)))

    -- Clearing succeeded.
    module _ (ok : result ≡ Ok tt) (some : 0 < n) (free : old.unspent ≡ None) where
      abbrev after : Metadata
      after = flushed_metadata g.state c'

      advances : Advances kind.gives kind.written kind.set kind.excess_added kind.taken before after
      advances = progress.holds well_formed.keeps sound ok

      words-cleared : (d : ℕ) → d < n → entry f' h (guest + d) ≡ cleared how (entry f h (guest + d))
      words-cleared = subst (λ r. OnOk r ((d : ℕ) → d < n → entry f' h (guest + d) ≡ cleared how (entry f h (guest + d)))) ok (w.clears.set ready under)

      word-cleared : (x : ℕ) → IsOurs x → entry f' h x ≡ cleared how (entry f h x)
      word-cleared x ours =
          let whole : guest + (x - guest) ≡ x = omega (arith, ours.0) in
          subst (λ y. entry f' h y ≡ cleared how (entry f h y)) whole (words-cleared (x - guest) (omega (arith, ours.0, ours.1)))

      memory-now : in_memory after ≡ f'
      memory-now = clean-memory f' h' nothing_cached tt tt

      memory-then : in_memory before ≡ f
      memory-then = rest-memory g old.tables space

      pub word-is : (x : ℕ) → IsOurs x ⊎ (entry f' h x ≡ entry f h x)
      word-is x = elim (advances.raw_entries x) [
        | inl same ↦ inr (ap (λ k. entry f' k x) (sym fields-same) ∙ ap (λ b. entry b h' x) (sym memory-now) ∙ same
            ∙ ap (λ b. entry b h x) memory-then)
        | inr set ↦ inl (set-at x set)
      ]

      pub value-is : (p : ℕ) → IsOurs (p / cs) ⊎ (own_value f' f' h p ≡ own_value f f h p)
      value-is p = elim (advances.memory p) [
        | inl same ↦ inr (ap (λ k. own_value f' f' k p) (sym fields-same) ∙ ap (λ b. own_value b f' h' p) (sym memory-now) ∙ same
            ∙ ap (λ b. own_value b f h p) memory-then)
        | inr gave ↦ inl (given-at p (own_value (in_memory after) f' h' p) gave).0
      ]

      cell-now : (p : ℕ) → (layer_of g new).cell p ≡ cells (blank_of old.mode.backing) f' f' h p
      cell-now p = λ i. cells (blank_of (mode-same i).backing) (memory-is g new.tables i) f' (fields-same i) p

      cell-then : (p : ℕ) → (layer_of g old).cell p ≡ cells (blank_of old.mode.backing) f f h p
      cell-then p = λ i. cells (blank_of old.mode.backing) (memory-is g old.tables i) f h p

      -- In the cleared guest clusters each byte is zero, or is left to the layers below.
      cell-there : (p : ℕ) → IsOurs (p / cs) → p < h.size → (layer_of g new).cell p ≡ cell_of (blank_of old.mode.backing) (cleared_value how)
      cell-there p is low =
          cell-now p ∙ rw (lt-ltb p h.size low) (ap (cell_by (blank_of old.mode.backing) f' h p) (word-cleared (p / cs) is)
          ∙ cell-shown (blank_of old.mode.backing) f' h p (cleared how (entry f h (p / cs)))
          ∙ ap (cell_of (blank_of old.mode.backing)) (cleared-value how f' h p (entry f h (p / cs))))

      -- Each other byte is unchanged.
      cell-elsewhere : (p : ℕ) → (IsOurs (p / cs) → p < h.size → ⊥) → (layer_of g new).cell p ≡ (layer_of g old).cell p
      cell-elsewhere p out = cell-now p ∙ elim (cases_lt p h.size) [
        | inr behind ↦ rw (le-ltb p h.size behind) refl
        | inl low ↦ rw (lt-ltb p h.size low) (elim (value-is p) [
          | inl ours ↦ absurd (out ours low)
          | inr same ↦ cell-shown (blank_of old.mode.backing) f' h p (entry f' h (p / cs)) ∙ ap (cell_of (blank_of old.mode.backing)) same
              ∙ sym (cell-shown (blank_of old.mode.backing) f h p (entry f h (p / cs)))
        ])
      ] ∙ sym (cell-then p)

      consistent-now : IsConsistent f' new.tables.file.header
      consistent-now = advances.sound.well_formed.consistent

      l1-now : IsL1Of f' h' new.tables.l1
      l1-now = w.clears.l1 under ready (subst HadNoResourceError (sym ok) tt) new.tables.l1 (subst (IsL1Of f h) (sym s.clears.l1) well_formed.seen.l1)

      -- The L1 entry still references the table.
      table-there : IsTableAt f' h' (table * cluster_size h')
      table-there = by (under 0 some) where
        row : ℕ
        row = (guest + 0) / entries_of_cluster h

        place-same : l2_table f' h' row ≡ l2_table f h row
        place-same = tables-same f f' h h' new.tables.l1 (subst (IsL1Of f h) (sym s.clears.l1) well_formed.seen.l1) l1-now row

        by : IsUnder before table (guest + 0) → IsTableAt f' h' (table * cluster_size h')
        by is = record {
          row = row;
          in_l1 = subst (λ k. row < k.l1_entries) (sym fields-same) is.inside;
          is_there = λ none.
              let apart = is.table_nonzero in
              let long = mul-pos {m = table} (omega (arith, apart)) (pow_pos h.cluster_bits) in
              let nowhere = sym is.table_linked ∙ sym place-same ∙ none in
              omega (arith, long, nowhere);
          at = place-same ∙ is.table_linked ∙ ap (λ k. table * cluster_size k) (sym fields-same);
        }

      seen-now : IsCacheCoherent g new.tables
      seen-now = record {
        loads = header-reading f' new.tables.file.header consistent-now.readable.loads;
        inside = consistent-now.readable.data_inside;
        l1 = l1-now;
        tables = tables-of-file f' h' table table-there (cached_in new.tables.caches).tables w.leaves_table.alone
            (subst (λ r. OnOk r (AllByRecursion (λ e. IsCachedTable f' h' e.0 e.1.value) (cached_in new.tables.caches).tables)) ok
            (w.leaves_table.fit ready under)) w.leaves_table.clean;
      }

      none-held : holding_in g new.unspent ≡ None
      none-held = ap (holding_in g) (unspent-same ∙ free)

      safe-now : IsWellFormed g new
      safe-now = record {
        runs = failed-is ∙ ap (λ r. failed_by_resource_error r s.begun old.failed) ok ∙ well_formed.runs;
        keeps = subst (λ (x : Shape). IsTrue x.keeps) (sym s.clears.shape) well_formed.keeps;
        consistent = consistent-now;
        seen = seen-now;
        sound = subst (λ o. IfSome o (λ x. IsSound (rest_of g new.tables x))) (sym w.space_known) advances.sound;
        searched = counted-in-file g new.tables w.after w.space_known
            (w.clears.marked under ready (subst HadNoResourceError (sym ok) tt) (counted-at-rest g old.tables space there well_formed.searched));
        held = subst (λ o. IfSome o (HoldsIn g new.tables)) (sym none-held) tt;
        writable = λ some'. absurd (cc (subst IsSome (unspent-same ∙ free) some'));
      }

      cleared-leaks : KeepsLeaks g old new
      cleared-leaks c =
          let law = advances.law c in
          let hands = clearing-hands how before guest n c in
          let counts : counted before c ≡ counts_in g old c = ap (λ (b : Bytes). count b h c) memory-then in
          let counts' : counted after c ≡ counts_in g new c = ap (λ (b : Bytes). count b h' c) memory-now in
          let names : referenced before c ≡ names_in g old c = ap (λ (b : Bytes). refs b h c) memory-then in
          let names' : referenced after c ≡ names_in g new c = ap (λ (b : Bytes). refs b h' c) memory-now in
          let waits : waiting_in old.tables.space c ≡ waiting before c = ap (λ o. waiting_in o c) there in
          let waits' : waiting_in new.tables.space c ≡ waiting after c = ap (λ o. waiting_in o c) w.space_known in
          let held : reserved_in (holding_in g old.unspent) c ≡ 0 = ap (λ u. reserved_in (holding_in g u) c) free in
          let held' : reserved_in (holding_in g new.unspent) c ≡ 0 = ap (λ o. reserved_in o c) none-held in
          omega (arith, law, hands, counts, counts', names, names', waits, waits', held, held')

      pub disk-cleared : DiskCleared g how guest n old new
      disk-cleared = record {
        well_formed = safe-now;
        cells = record { there = cell-there; elsewhere = cell-elsewhere };
        entries = record {
          there = λ x ours. ap (λ k. entry f' k x) fields-same ∙ word-cleared x ours;
          elsewhere = λ x. elim (word-is x) [
            | inl ours ↦ inl ours
            | inr same ↦ inr (ap (λ k. entry f' k x) fields-same ∙ same)
          ];
        };
        leaks = cleared-leaks;
      }

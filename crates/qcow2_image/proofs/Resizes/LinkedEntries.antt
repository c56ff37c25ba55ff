-- Lemmas on guest clusters that are linked to newly allocated clusters: their bytes, crash images, and what is referenced then.
use Rattle.std.proofs.Common.{◌≡◌, ◌≢◌, ℕ, zero, suc, ◌+◌, ◌-◌, ◌*◌, ◌/◌, ◌%◌, ◌<◌, ◌≤◌, mul-pos, refl, arith, ap, sym, subst, ◌∙◌, inl, inr, Bool, false, true, List, Option, Some, None, Result, Ok, Err}
use Rattle.std.proofs.Math.Nat.{div-mul-le_self, mul-le-mul_right}
use Rattle.std.proofs.lemmas.Bool.{lt-ltb}
use Rattle.std.proofs.lemmas.Nat.{pow_pos}
use Rattle.std.specs.Prelude.{◌⊎◌, IsTrue, IsSome, IfSome, IfErr, OnOk}
use Rattle.std.specs.List.{AllByRecursion}
use Rattle.imago_storage.specs.State.{Shape}
use Rattle.imago_storage.specs.Disk.{Value, byte}
use Rattle.imago_storage.specs.Passing.{UnrefusedCrashImages}
use Rattle.imago_storage.specs.declared.fault.Fault.{Fault}
use Rattle.imago_storage.specs.declared.fault.Fault.TheVariants.{DamagedTable, Memory, Storage}
use Rattle.imago_storage.specs.declared.storage.Storage.{Ghosts}
use Rattle.imago_access.specs.Files as files
use Rattle.imago_access.specs.Files.{IsNotResourceError}
use Rattle.imago_access.specs.Layer.{Layer}
use Rattle.imago_access.specs.Stops.{Left, May}
use Rattle.imago_access.proofs.Stopping.{passes_weaker}
use Rattle.qcow2_types.specs.Bytes.{Bytes, bytes_of}
use Rattle.qcow2_types.specs.Consistency.{IsConsistent}
use Rattle.qcow2_types.specs.Counts.{count}
use Rattle.qcow2_types.specs.Entries.{entry, l2_table}
use Rattle.qcow2_types.specs.Header.{Fields, Header, cluster_size, entries_of_cluster}
use Rattle.qcow2_types.specs.References.{refs}
use Rattle.qcow2_types.specs.Words.{data_at}
use Rattle.qcow2_types.proofs.Counting.Consistent.{header-reading}
use Rattle.qcow2_metadata.specs.Places.{IsAddressable}
use Rattle.qcow2_alloc.specs.Allocators.{first_free_of, table_of}
use Rattle.qcow2_alloc.specs.Caches.{cached_in}
use Rattle.qcow2_alloc.specs.Causes.{HasCause}
use Rattle.qcow2_alloc.specs.FreeList.{covers, listed}
use Rattle.qcow2_alloc.specs.Freeing.{NoneFreeBefore}
use Rattle.qcow2_alloc.specs.Going.{HadNoResourceError, writing_causes}
use Rattle.qcow2_alloc.specs.GuestView.{IsSound, Metadata, counted, in_memory, referenced, waiting}
use Rattle.qcow2_alloc.specs.MakingRoom.{run_of}
use Rattle.qcow2_alloc.specs.Opening.{IsL1Of}
use Rattle.qcow2_alloc.specs.WellFormedness.{IsCachedTable}
use Rattle.qcow2_alloc.specs.declared.allocation.Allocator.{Allocator}
use Rattle.qcow2_alloc.proofs.Memory.SafeLaws.{clean-memory}
use Rattle.qcow2_steps.specs.Advancing.{Advances, MayBeCrashImage}
use Rattle.qcow2_steps.specs.Values.{own_value, own_value_by}
use Rattle.qcow2_clusters.specs.Clearing.{AreUnder}
use Rattle.qcow2_clusters.specs.Flushed.{Clusters, IsReady, clusters_state, flushed_metadata, nothing_cached}
use Rattle.qcow2_clusters.specs.Linking.{CanAllBeLinked, IsUnder, linking_run}
use Rattle.qcow2_clusters.specs.Progress.{Kind, Progresses}
use Rattle.qcow2_clusters.specs.Storing.{AreReserved}
use Rattle.qcow2_clusters.specs.WritingBack.{without_tables}
use Rattle.qcow2_clusters.specs.declared.space.Space.{Space}
use Rattle.qcow2_clusters.proofs.RunNames.{near-each, run-gives, run-sets}
use Rattle.qcow2_image.specs.Allocating.{failed_by_resource_error}
use Rattle.qcow2_image.specs.Committing.{LinksHost, NamesWith}
use Rattle.qcow2_image.specs.Growing.{GivesWithin, IsWithin}
use Rattle.qcow2_image.specs.Homes.{cluster-there}
use Rattle.qcow2_image.specs.KeepsDisk.{value_in}
use Rattle.qcow2_image.specs.Leaking.{counts_in, names_in, pending, reserved_in, waiting_in}
use Rattle.qcow2_image.specs.Rooms.{HoldsIn, IsWellFormed, is_sound, rest_of}
use Rattle.qcow2_image.specs.Seen.{IsCacheCoherent, IsTableAt, file_of, layer_of}
use Rattle.qcow2_image.specs.Unspent.{holding_in}
use Rattle.qcow2_image.specs.declared.mappings.Reserved.{Reserved}
use Rattle.qcow2_image.specs.declared.qcow2.Qcow2.{Qcow2}
use Rattle.qcow2_image.proofs.CallStarts.{still-cut, whole-cut}
use Rattle.qcow2_image.proofs.LeakChanges.CommitLeaks.{covers-more, covers-none, newly-reserved}
use Rattle.qcow2_image.proofs.Commits.{same-parts}
use Rattle.qcow2_image.proofs.DiskEffects.{format-same, may-left, rest-memory, safe-sound, seen_as, whole-below}
use Rattle.qcow2_image.proofs.FileWords.{tables-same}
use Rattle.qcow2_image.proofs.FreeRuns.{words-some}
use Rattle.qcow2_image.proofs.Resizes.SetEntries.{SetsValues, layer-past}
use Rattle.qcow2_image.proofs.SearchStart.{counted-at-rest, counted-in-file}
use Rattle.qcow2_image.proofs.TableSearches.{tables-of-file}
use Rattle.qcow2_alloc.proofs.Blocks.ClusterCounts.{one-run}

-- The file offset of a guest byte, if the guest clusters from `guest` on are mapped to the host clusters from `host` on.
abbrev pub place_linked : Fields → (guest host p : ℕ) → ℕ
place_linked h guest host p = (host + (p / cluster_size h - guest)) * cluster_size h + p % cluster_size h

-- The L2 table of `n` guest clusters is in cluster `table`. Their host clusters are reserved, with bytes that `given` allows.
pub record HasReserved {S : Type 0} (g : Ghosts S) (table guest host n : ℕ) (given : ℕ → Value → Type 0) (d : Qcow2 S g) : Type 0 where
  pub well_formed : IsWellFormed g d
  pub space : Space
  pub space_known : d.tables.space ≡ Some space
  pub under : AreUnder n (rest_of g d.tables space) table guest
  pub reserved : AreReserved n (rest_of g d.tables space) host
  pub gives : (p : ℕ) → IsWithin guest (guest + n) (p / cluster_size d.tables.file.header.fields)
      → given p (byte (file_of g d.tables (place_linked d.tables.file.header.fields guest host p)))

-- The clusters that aren't preallocated.
abbrev pub reserved_run : (table host n : ℕ) → Reserved
reserved_run table host n = record { table = table; host = host; count = n; is_kept = false }

-- Consecutive guest clusters take their reserved clusters in addition to what they give back.
taken-reserved : (m : Metadata) (table guest host n : ℕ) → IsSound m → AreUnder n m table guest → AreReserved n m host → host ≢ 0
    → IsAddressable m.header.fields.cluster_bits (host + (n - 1)) → (c k : ℕ) → k ≤ n
    → (linking_run m guest host k).taken c ≡ (linking_run m guest host k).excess_added c + covers c (run_of host k)
unfolding linking_run
taken-reserved m table guest host n sound under reserved some reach c zero most = let none = covers-none host c in omega (arith, none)
taken-reserved m table guest host n sound under reserved some reach c (suc k) most =
    let before = taken-reserved m table guest host n sound under reserved some reach c k (omega (arith, most)) in
    let less : k < n = omega (arith, most) in
    let anew = newly-reserved m table (guest + k) (host + k) sound (under k less) (λ none. some (omega (arith, none)))
    (near-each m.header.fields.cluster_bits host n reach k less) (reserved (host + k) (omega arith) (omega (arith, less))) c in
    let one = one-run (host + k) c in
    let more = covers-more host k c in
    omega (arith, before, anew, one, more)

module _ {S : Type 0} (g : Ghosts S) (table guest host n : ℕ) (given : ℕ → Value → Type 0) (old new : Qcow2 S g)
    (result : Result Unit Fault) (begun : Bool) (links : LinksHost g (reserved_run table host n) guest old.tables result new.tables)
    (others : new ≡ record old { tables = new.tables; failed = failed_by_resource_error result begun old.failed })
    (any : 0 < n) (some : host ≢ 0) (reach : IsAddressable old.tables.file.header.fields.cluster_bits (host + (n - 1)))
    (row : 1 ≤ entries_of_cluster old.tables.file.header.fields
    → guest % entries_of_cluster old.tables.file.header.fields + n ≤ entries_of_cluster old.tables.file.header.fields)
    (free : old.unspent ≡ None) where
  abbrev f : Bytes
  f = file_of g old.tables

  abbrev f' : Bytes
  f' = file_of g new.tables

  abbrev h : Fields
  h = old.tables.file.header.fields

  abbrev h' : Fields
  h' = new.tables.file.header.fields

  abbrev cs : ℕ
  cs = cluster_size h

  abbrev IsOurs : ℕ → Type 0
  IsOurs = IsWithin guest (guest + n)

  abbrev place : ℕ → ℕ
  place = place_linked h guest host

  fields-same : h' ≡ h
  fields-same = ap (λ (K : Header). K.fields) links.header

  mode-same : new.mode ≡ old.mode
  mode-same = ap (λ (d : Qcow2 S g). d.mode) others

  number-same : new.number ≡ old.number
  number-same = ap (λ (d : Qcow2 S g). d.number) others

  unspent-same : new.unspent ≡ old.unspent
  unspent-same = ap (λ (d : Qcow2 S g). d.unspent) others

  failed-is : new.failed ≡ failed_by_resource_error result begun old.failed
  failed-is = ap (λ (d : Qcow2 S g). d.failed) others

  none-held : holding_in g new.unspent ≡ None
  none-held = ap (holding_in g) (unspent-same ∙ free)

  module _ (has : HasReserved g table guest host n given old) where
    abbrev before : Metadata
    before = rest_of g old.tables has.space

    sound : IsSound before
    sound = safe-sound g old has.space has.space_known has.well_formed

    able : CanAllBeLinked n before table guest host
    able d less = record { in_table = has.under d less; own = inl (has.reserved (host + d) (omega arith) (omega (arith, less))) }

    with-space : NamesWith g (reserved_run table host n) guest old.tables has.space result new.tables
    with-space = links.known has.space has.space_known (record {
      cluster_nonzero = omega (arith, some);
      any = any;
      reach = reach;
      row = row (words-some g old has.well_formed);
    })

    abbrev c : Clusters S
    c = clusters_state old.tables.file with-space.caches has.space

    abbrev c' : Clusters S
    c' = clusters_state new.tables.file (without_tables new.tables.caches) with-space.between

    abbrev kind : Kind
    kind = linking_run before guest host n

    ready : IsReady g.state c
    ready = record { keeps = has.well_formed.keeps; sound = sound }

    progress : Progresses (result ≡ Ok tt) kind (g.state old.tables.file.image) before
        (g.state new.tables.file.image) (flushed_metadata g.state c')
    progress = with-space.names.progress able

    -- Linking fails only with a resource error.
    pub linked-hard : (fault : Fault) → result ≡ Err fault → IsNotResourceError fault → ⊥
    linked-hard fault is not_resource_error =
        never fault (subst (λ r. IfErr r (HasCause (writing_causes (IsReady g.state c × CanAllBeLinked n before table guest host)
        (g.state old.tables.file.image).faults (g.state new.tables.file.image).faults))) is with-space.names.cause) not_resource_error where
          never : (e : Fault) → HasCause (writing_causes (IsReady g.state c × CanAllBeLinked n before table guest host)
              (g.state old.tables.file.image).faults (g.state new.tables.file.image).faults) e → IsNotResourceError e → ⊥
          never Memory why not_resource_error = not_resource_error
          never Storage why not_resource_error = not_resource_error
          never DamagedTable why not_resource_error = why (ready, able)
          never e why not_resource_error = why

    pub succeeds : files.HadNoResourceError result → result ≡ Ok tt
    succeeds = from result refl where
      from : (r : Result Unit Fault) → result ≡ r → files.HadNoResourceError r → r ≡ Ok tt
      from (Ok done) is whole = refl
      from (Err e) is whole = absurd (linked-hard e is whole)

    -- The changes are all in these guest clusters.
    given-at : (p : ℕ) (v : Option Value) → kind.gives p v → IsOurs (p / cs) × (v ≡ Some (byte (f (place p))))
    given-at p v gave =
        let one = run-gives before guest host n p v gave in
        let same = same-parts (p / cs) (guest + one.0) (entries_of_cluster h) one.2.0.0 one.2.0.1 in
        let back : one.0 ≡ p / cs - guest = omega (arith, same) in (
          (omega (arith, same), omega (arith, same, one.1)),
          one.2.1 ∙ ap (λ d. own_value_by f h p (data_at (host + d) true)) back,
        )

    set-at : (x : ℕ) → kind.set x → IsOurs x
    set-at x set =
        let one = run-sets before guest host n x set in
        let same = same-parts x (guest + one.0) (entries_of_cluster h) one.2.0 one.2.1 in
        (omega (arith, same), omega (arith, same, one.1))

    -- A crash image reads as before, or has the bytes of the host clusters.
    linked-stops : (below : List Layer) → UnrefusedCrashImages (Left below (layer_of g old) (g.state old.tables.file.image).bytes is_sound
        (layer_of g old).size (layer_of g old).size (GivesWithin guest (guest + n) given (layer_of g old)))
        (g.state old.tables.file.image) (g.state new.tables.file.image)
    linked-stops below =
        passes_weaker (λ x. (K : Header) × MayBeCrashImage kind.gives before (bytes_of x) K)
        (Left below (layer_of g old) (g.state old.tables.file.image).bytes is_sound h.size h.size
        (GivesWithin guest (guest + n) given (layer_of g old)))
        (g.state old.tables.file.image) (g.state new.tables.file.image)
        (may-left g old has.space has.well_formed below kind.gives (GivesWithin guest (guest + n) given (layer_of g old)) shows)
        (progress.passes has.well_formed.keeps sound) where
          shows : (p : ℕ) (v : Option Value) → p < h.size → kind.gives p v
              → May below (layer_of g old) (g.state old.tables.file.image).bytes (GivesWithin guest (guest + n) given (layer_of g old)) p
              (seen_as g old has.space has.well_formed below p v)
          shows p v low gave =
              let here = given-at p v gave in
              let is : seen_as g old has.space has.well_formed below p v ≡ byte (f (place p)) =
              ap (seen_as g old has.space has.well_formed below p) here.1 ∙ rw (lt-ltb p h.size low) refl in
              inr (inr (here.0, subst (given p) (sym is) (has.gives p here.0)))

    -- Linking succeeded.
    module _ (ok : result ≡ Ok tt) where
      abbrev after : Metadata
      after = flushed_metadata g.state c'

      advances : Advances kind.gives kind.written kind.set kind.excess_added kind.taken before after
      advances = progress.holds has.well_formed.keeps sound ok

      words-named : (d : ℕ) → d < n → entry f' h (guest + d) ≡ data_at (host + d) true
      words-named = subst (λ r. OnOk r ((d : ℕ) → d < n → entry f' h (guest + d) ≡ data_at (host + d) true)) ok
          (with-space.names.named ready able)

      word-named : (x : ℕ) → IsOurs x → entry f' h x ≡ data_at (host + (x - guest)) true
      word-named x ours =
          let whole : guest + (x - guest) ≡ x = omega (arith, ours.0) in
          ap (entry f' h) (sym whole) ∙ words-named (x - guest) (omega (arith, ours.0, ours.1))

      bytes-kept : (q : ℕ) → host ≤ q / cs → q / cs < host + n → f' q ≡ f q
      bytes-kept = subst (λ r. OnOk r ((q : ℕ) → host ≤ q / cs → q / cs < host + n → f' q ≡ f q)) ok (with-space.names.bytes ready able)

      byte-kept : (p : ℕ) → IsOurs (p / cs) → f' (place p) ≡ f (place p)
      byte-kept p ours =
          let there = cluster-there h (place p) (host + (p / cs - guest)) p refl in
          bytes-kept (place p) (omega (arith, there)) (omega (arith, there, ours.0, ours.1))

      memory-now : in_memory after ≡ f'
      memory-now = clean-memory f' h' nothing_cached tt tt

      memory-then : in_memory before ≡ f
      memory-then = rest-memory g old.tables has.space

      word-is : (x : ℕ) → IsOurs x ⊎ (entry f' h x ≡ entry f h x)
      word-is x = elim (advances.raw_entries x) [
        | inl same ↦ inr (ap (λ k. entry f' k x) (sym fields-same) ∙ ap (λ b. entry b h' x) (sym memory-now) ∙ same
            ∙ ap (λ b. entry b h x) memory-then)
        | inr set ↦ inl (set-at x set)
      ]

      value-is : (p : ℕ) → IsOurs (p / cs) ⊎ (own_value f' f' h p ≡ own_value f f h p)
      value-is p = elim (advances.memory p) [
        | inl same ↦ inr (ap (λ k. own_value f' f' k p) (sym fields-same) ∙ ap (λ b. own_value b f' h' p) (sym memory-now) ∙ same
            ∙ ap (λ b. own_value b f h p) memory-then)
        | inr gave ↦ inl (given-at p (own_value (in_memory after) f' h' p) gave).0
      ]

      -- The guest clusters have the bytes of the host clusters.
      pub linked-value : (p : ℕ) → IsOurs (p / cs) → value_in g new.tables p ≡ Some (byte (f (place p)))
      linked-value p ours =
          ap (λ k. own_value f' f' k p) fields-same ∙ ap (own_value_by f' h p) (word-named (p / cs) ours)
          ∙ ap (λ b. Some (byte b)) (byte-kept p ours)

      values-now : (p : ℕ) → (value_in g new.tables p ≡ value_in g old.tables p)
          ⊎ (IsOurs (p / cs) × ((v : Value) × (value_in g new.tables p ≡ Some v) × given p v))
      values-now p = elim (value-is p) [
        | inl ours ↦ inr (ours, (byte (f (place p)), linked-value p ours, has.gives p ours))
        | inr same ↦ inl (ap (λ k. own_value f' f' k p) fields-same ∙ same)
      ]

      -- The guest sees nothing of entries past the end of the disk.
      layer-now : h.size ≤ guest * cs → layer_of g new ≡ layer_of g old
      layer-now past = layer-past g old new links.shape fields-same mode-same number-same unspent-same free
          (failed-is ∙ ap (λ r. failed_by_resource_error r begun old.failed) ok) words values where
            words : (x : ℕ) → x * cs < h.size → entry f' h x ≡ entry f h x
            words x low = elim (word-is x) [
              | inr same ↦ same
              | inl ours ↦ absurd (let more : guest * cs ≤ x * cs = mul-le-mul_right cs ours.0 in omega (arith, past, low, more))
            ]

            values : (p : ℕ) → p < h.size → value_in g new.tables p ≡ value_in g old.tables p
            values p low = elim (value-is p) [
              | inr same ↦ ap (λ k. own_value f' f' k p) fields-same ∙ same
              | inl ours ↦ absurd (
                  let more : guest * cs ≤ p / cs * cs = mul-le-mul_right cs ours.0 in
                  let start : p / cs * cs ≤ p = div-mul-le_self p cs in
                  omega (arith, past, low, more, start))
            ]

      consistent-now : IsConsistent f' new.tables.file.header
      consistent-now = advances.sound.well_formed.consistent

      l1-now : IsL1Of f' h' new.tables.l1
      l1-now = with-space.names.l1 able ready (subst HadNoResourceError (sym ok) tt) new.tables.l1
          (subst (IsL1Of f h) (sym links.l1) has.well_formed.seen.l1)

      -- The L1 entry still references the table.
      table-there : IsTableAt f' h' (table * cluster_size h')
      table-there = by (has.under 0 any) where
        line : ℕ
        line = (guest + 0) / entries_of_cluster h

        place-same : l2_table f' h' line ≡ l2_table f h line
        place-same = tables-same f f' h h' new.tables.l1 (subst (IsL1Of f h) (sym links.l1) has.well_formed.seen.l1) l1-now line

        by : IsUnder before table (guest + 0) → IsTableAt f' h' (table * cluster_size h')
        by under = record {
          row = line;
          in_l1 = subst (λ k. line < k.l1_entries) (sym fields-same) under.inside;
          is_there = λ none.
              let apart = under.table_nonzero in
              let long = mul-pos {m = table} (omega (arith, apart)) (pow_pos h.cluster_bits) in
              let nowhere = sym under.table_linked ∙ sym place-same ∙ none in
              omega (arith, long, nowhere);
          at = place-same ∙ under.table_linked ∙ ap (λ k. table * cluster_size k) (sym fields-same);
        }

      seen-now : IsCacheCoherent g new.tables
      seen-now = record {
        loads = header-reading f' new.tables.file.header consistent-now.readable.loads;
        inside = consistent-now.readable.data_inside;
        l1 = l1-now;
        tables = tables-of-file f' h' table table-there (cached_in new.tables.caches).tables with-space.leaves_table.alone
            (subst (λ r. OnOk r (AllByRecursion (λ e. IsCachedTable f' h' e.0 e.1.value) (cached_in new.tables.caches).tables)) ok
            (with-space.leaves_table.fit ready able)) with-space.leaves_table.clean;
      }

      rest-now : rest_of g new.tables with-space.after ≡ after
      rest-now = λ i. record after { table = table_of (with-space.allocator i); pending = with-space.entries i }

      safe-now : IsWellFormed g new
      safe-now = record {
        runs = failed-is ∙ ap (λ r. failed_by_resource_error r begun old.failed) ok ∙ has.well_formed.runs;
        keeps = subst (λ (x : Shape). IsTrue x.keeps) (sym links.shape) has.well_formed.keeps;
        consistent = consistent-now;
        seen = seen-now;
        sound = subst (λ o. IfSome o (λ x. IsSound (rest_of g new.tables x))) (sym with-space.space_known)
            (subst IsSound (sym rest-now) advances.sound);
        searched = counted-in-file g new.tables with-space.after with-space.space_known
            (subst (λ (a : Allocator). NoneFreeBefore after (first_free_of a)) (sym with-space.allocator)
            (with-space.names.marked able ready (subst HadNoResourceError (sym ok) tt)
            (counted-at-rest g old.tables has.space has.space_known has.well_formed.searched)));
        held = subst (λ o. IfSome o (HoldsIn g new.tables)) (sym none-held) tt;
        writable = λ there. absurd (cc (subst IsSome (unspent-same ∙ free) there));
      }

      -- The reserved clusters are referenced.
      pub linked-leaks : (x : ℕ) → counts_in g new x + names_in g old x + pending g old x + covers x (run_of host n)
          ≡ counts_in g old x + names_in g new x + pending g new x
      linked-leaks x =
          let law = advances.law x in
          let anew = taken-reserved before table guest host n sound has.under has.reserved some reach x n (omega arith) in
          let counts : counted before x ≡ counts_in g old x = ap (λ (b : Bytes). count b h x) memory-then in
          let counts' : counted after x ≡ counts_in g new x = ap (λ (b : Bytes). count b h' x) memory-now in
          let names : referenced before x ≡ names_in g old x = ap (λ (b : Bytes). refs b h x) memory-then in
          let names' : referenced after x ≡ names_in g new x = ap (λ (b : Bytes). refs b h' x) memory-now in
          let waits : waiting_in old.tables.space x ≡ waiting before x = ap (λ o. waiting_in o x) has.space_known in
          let waits' : waiting_in new.tables.space x ≡ waiting after x =
          ap (λ o. waiting_in o x) with-space.space_known ∙ ap (λ es. listed es x) with-space.entries in
          let held : reserved_in (holding_in g old.unspent) x ≡ 0 = ap (λ u. reserved_in (holding_in g u) x) free in
          let held' : reserved_in (holding_in g new.unspent) x ≡ 0 = ap (λ o. reserved_in o x) none-held in
          omega (arith, law, anew, counts, counts', names, names', waits, waits', held, held')

  abbrev Ready : Type 0
  Ready = HasReserved g table guest host n given old

  pub linked-values : SetsValues g Ready (files.HadNoResourceError result) guest (guest + n) given old new
  linked-values = record {
    mode = mode-same;
    number = number-same;
    unspent = unspent-same;
    shape = links.shape;
    counts_not_fallen = links.counts_not_fallen;
    failed = λ was. subst IsTrue (sym failed-is) (still-cut result begun old.failed was);
    runs = λ whole. failed-is ∙ whole-cut result begun old.failed whole;
    size = ap (λ (k : Fields). k.size) fields-same;
    bits = ap (λ (k : Fields). k.cluster_bits) fields-same;
    version = ap (λ (k : Fields). k.version) fields-same;
    format = format-same old.tables.file.header new.tables.file.header links.header;
    faults = λ whole. links.faults (whole-below result whole);
    known = λ has whole there. subst IsSome (sym (with-space has).space_known) refl;
    crash_images = linked-stops;
    well_formed = λ has whole. safe-now has (succeeds has whole);
    values = λ has whole. values-now has (succeeds has whole);
    layer = λ has whole. layer-now has (succeeds has whole);
  }

-- Lemmas on the leaks of commits and cancels: reserved clusters are referenced afterwards, or are on the free list.
use Rattle.std.proofs.Common.{◌≡◌, ◌≢◌, ℕ, zero, suc, ◌+◌, ◌*◌, ◌/◌, ◌%◌, ◌^◌, ◌<◌, ◌≤◌, mul-pos, refl, arith, ap, sym, subst, ◌∙◌, inl, inr, Bool, false, true, Option, Some, Result, Ok, Err}
use Rattle.std.proofs.lemmas.Bool.{cases_lt}
use Rattle.std.proofs.lemmas.Nat.{mod_below, pow_pos}
use Rattle.std.specs.Prelude.{IfErr, IfSome}
use Rattle.imago_storage.specs.State.{StorageState}
use Rattle.imago_storage.specs.declared.fault.Fault.{Fault}
use Rattle.imago_storage.specs.declared.storage.Storage.{Ghosts}
use Rattle.imago_access.specs.Files.{IsNotResourceError}
use Rattle.imago_access.specs.declared.mapping.PreparedDataMapping.{PreparedDataMapping}
use Rattle.qcow2_types.specs.Bytes.{Bytes, bytes_of, raw_entry}
use Rattle.qcow2_types.specs.Counts.{count}
use Rattle.qcow2_types.specs.Entries.{entry, l2_table}
use Rattle.qcow2_types.specs.Header.{Fields, cluster_size, layout_of, entries_of_cluster}
use Rattle.qcow2_types.specs.References.{meets, of_mapping, refs}
use Rattle.qcow2_types.specs.Slots.{Live, slot}
use Rattle.qcow2_types.specs.Words.{Mapping, mapping_of}
use Rattle.qcow2_types.proofs.Counting.Consistent.{consistent-shaped, some-words}
use Rattle.qcow2_types.proofs.Counting.Either.{refs-file}
use Rattle.qcow2_types.proofs.Showing.Shows.{guest-slot-there}
use Rattle.qcow2_types.proofs.Counting.Slots.{contents-slots, slot-le}
use Rattle.qcow2_types.proofs.Showing.Values.{entry-slot}
use Rattle.qcow2_metadata.specs.Allocations.{allocation_of, freed, newly, replaced}
use Rattle.qcow2_metadata.specs.Places.{IsAddressable}
use Rattle.qcow2_metadata.proofs.Conservation.{map_conserves}
use Rattle.qcow2_alloc.specs.FreeList.{covers, listed}
use Rattle.qcow2_alloc.specs.MakingRoom.{run_of}
use Rattle.qcow2_alloc.specs.GuestView.{IsSound, Metadata, counted, in_memory, referenced_at_all, one_at, referenced, waiting}
use Rattle.qcow2_alloc.proofs.Blocks.ClusterCounts.{one-run}
use Rattle.qcow2_alloc.proofs.Blocks.RunCounts.{covers-behind}
use Rattle.qcow2_alloc.proofs.Growth.LongerReftables.{covers-before, covers-inside}
use Rattle.qcow2_alloc.proofs.Freeing.ClusterOccurrences.{listed_push}
use Rattle.qcow2_steps.specs.Words.{IsReserved}
use Rattle.qcow2_clusters.specs.Linking.{IsUnder, linking_run, taken_before}
use Rattle.qcow2_clusters.specs.declared.space.Space.{Space}
use Rattle.qcow2_clusters.proofs.RunNames.{near-each}
use Rattle.qcow2_clusters.proofs.ClusterNames.{kept-newly, names-data, newly-one}
use Rattle.qcow2_image.specs.Committing.{CancelsUnspent, CommitsUnspent, DropsUnspent, GivesBack, SpendsUnspent, answer_of}
use Rattle.qcow2_image.specs.Holding.{PreparedMappingRun, IsHeld, IsOwnAs}
use Rattle.qcow2_image.specs.Leaking.{KeepsLeaks, counts_in, names_in, reserved_as, reserved_in, waiting_in}
use Rattle.qcow2_image.specs.Rooms.{HoldsIn, IsWellFormed}
use Rattle.qcow2_image.specs.Unspent.{prepared_mapping_run, holding_in}
use Rattle.qcow2_image.specs.declared.qcow2.PreparedMappingState.{PreparedMappingState}
use Rattle.qcow2_image.specs.declared.qcow2.Qcow2.{Qcow2}
use Rattle.qcow2_image.proofs.Commits.{advances, after, before, free-now, hold, hold-is, holds, memory-now, memory-then, refused-hard, sound, with-space}
use Rattle.qcow2_image.proofs.Leaks.{leaks-idle}
use Rattle.qcow2_image.proofs.LeaksByFile.{leaks-same}

-- A guest cluster with an L2 table, in a consistent image, whose entry doesn't reference the reserved cluster `x`.
module _ (m : Metadata) (table guest x : ℕ) (is-sound : IsSound m) (under : IsUnder m table guest) (some : x ≢ 0)
    (near : IsAddressable m.header.fields.cluster_bits x) where
  abbrev h : Fields
  h = m.header.fields

  abbrev i : ℕ
  i = guest / entries_of_cluster h

  abbrev j : ℕ
  j = guest % entries_of_cluster h

  is-there : l2_table m.file h i ≢ 0
  is-there none =
      let long : 0 < cluster_size h = pow_pos h.cluster_bits in
      let apart = under.table_nonzero in
      let place = under.table_linked in
      let long' = mul-pos {m = table} (omega (arith, apart)) long in
      omega (arith, long', place, none)

  live : Live (l2_table m.file h) h i j
  live = record {
    in_l1 = under.inside;
    is_there = is-there;
    in_table = mod_below guest (entries_of_cluster h) (some-words h (consistent-shaped m.file m.header is-sound.well_formed.consistent));
  }

  word-is : entry m.file h guest ≡ slot m.file h i j
  word-is = entry-slot m.file h guest is-sound.well_formed.consistent.readable.tables ∙ guest-slot-there m.file h guest is-there

  unnamed-slot : IsReserved m x → of_mapping h (meets h x) (slot m.file h i j) ≡ 0
  unfolding refs
  unnamed-slot reserved =
      let le = slot-le (l2_table m.file h) h (λ k l. of_mapping h (meets h x) (slot m.file h k l)) i j live in
      let all = contents-slots m.file h (of_mapping h (meets h x)) in
      let more : refs m.file h x ≤ referenced_at_all m x = refs-file m.file (in_memory m) h x in
      let none = reserved.not_referenced in
      omega (arith, le, all, more, none)

  -- Linking a reserved cluster references it once more.
  pub newly-reserved : IsReserved m x → (c : ℕ) → newly x (taken_before m guest) c ≡ one_at x c
  newly-reserved reserved c =
      let w = raw_entry m.file (l2_table m.file h i) j in
      ap (λ (o : Mapping). newly x (allocation_of h.cluster_bits o) c) word-is
      ∙ newly-one h x (slot m.file h i j) (mapping_of (layout_of h) (2 ^ 63 + x * cluster_size h))
      (freed (replaced x (allocation_of h.cluster_bits (slot m.file h i j)))) (names-data m x is-sound some near)
      (map_conserves (layout_of h) w x (consistent-shaped m.file m.header is-sound.well_formed.consistent).low near (inl (omega (arith, some))))
      (unnamed-slot reserved) c

  -- Linking a preallocated zero cluster adds no reference.
  newly-own : (is_kept : Bool) → IsOwnAs is_kept m guest x → (c : ℕ) → newly x (taken_before m guest) c ≡ reserved_as is_kept x 1 c
  newly-own true own c = ap (λ (o : Mapping). newly x (allocation_of h.cluster_bits o) c) own.file ∙ kept-newly x c
  newly-own false own c = newly-reserved own c ∙ sym (one-run x c)

pub covers-more : (x n c : ℕ) → covers c (run_of x (suc n)) ≡ covers c (run_of x n) + covers c (run_of (x + n) 1)
covers-more x n c = elim (cases_lt c x) [
  | inl before ↦
      let a = covers-before c x (suc n) before in
      let b = covers-before c x n before in
      let d = covers-before c (x + n) 1 (omega (arith, before)) in
      omega (arith, a, b, d)
  | inr from ↦ elim (cases_lt c (x + n)) [
    | inl to ↦
        let a = covers-inside c x (suc n) from (omega (arith, to)) in
        let b = covers-inside c x n from to in
        let d = covers-before c (x + n) 1 to in
        omega (arith, a, b, d)
    | inr behind ↦ elim (cases_lt c (x + n + 1)) [
      | inl last ↦
          let a = covers-inside c x (suc n) from (omega (arith, last)) in
          let b = covers-behind c x n behind in
          let d = covers-inside c (x + n) 1 behind last in
          omega (arith, a, b, d)
      | inr past ↦
          let a = covers-behind c x (suc n) (omega (arith, past)) in
          let b = covers-behind c x n behind in
          let d = covers-behind c (x + n) 1 past in
          omega (arith, a, b, d)
    ]
  ]
]

pub covers-none : (x c : ℕ) → covers c (run_of x 0) ≡ 0
covers-none x c = elim (cases_lt c x) [
  | inl before ↦ covers-before c x 0 before
  | inr from ↦ covers-behind c x 0 (omega (arith, from))
]

reserved-more : (is_kept : Bool) (x n c : ℕ) → reserved_as is_kept x (suc n) c ≡ reserved_as is_kept x n c + reserved_as is_kept (x + n) 1 c
reserved-more true x n c = refl
reserved-more false x n c = covers-more x n c

reserved-none : (is_kept : Bool) (x c : ℕ) → reserved_as is_kept x 0 c ≡ 0
reserved-none true x c = refl
reserved-none false x c = covers-none x c

-- Consecutive guest clusters take their host clusters in addition to what they give back, except preallocated ones.
taken-run : (m : Metadata) (hold : PreparedMappingRun) (is-sound : IsSound m) → IsHeld m hold → (c k : ℕ) → k ≤ hold.count
    → (linking_run m hold.guest hold.host k).taken c
    ≡ (linking_run m hold.guest hold.host k).excess_added c + reserved_as hold.is_kept hold.host k c
unfolding linking_run
taken-run m hold is-sound held c zero most = let none = reserved-none hold.is_kept hold.host c in omega (arith, none)
taken-run m hold is-sound held c (suc k) most =
    let before = taken-run m hold is-sound held c k (omega (arith, most)) in
    let less : k < hold.count = omega (arith, most) in
    let some = held.host_nonzero in
    let anew = newly-own m hold.table (hold.guest + k) (hold.host + k) is-sound (held.in_table k less) (λ none. some (omega (arith, none)))
    (near-each m.header.fields.cluster_bits hold.host hold.count held.reach k less) hold.is_kept (held.own k less) c in
    let more = reserved-more hold.is_kept hold.host k c in
    omega (arith, before, anew, more)

module _ {S : Type 0} (g : Ghosts S) (mapping_id : ℕ) (old new : Qcow2 S g)
    (result : Result Unit (Fault × Option (PreparedDataMapping PreparedMappingState))) where
  pub spent-leaks : (s : SpendsUnspent g mapping_id old result new) → IsWellFormed g old → s.named ≡ Ok tt → KeepsLeaks g old new
  spent-leaks s well_formed ok c =
      let one = hold g mapping_id old new result s in
      let has = holds g mapping_id old new result s well_formed in
      let m = before g mapping_id old new result s well_formed in
      let m' = after g mapping_id old new result s well_formed ok in
      let w = with-space g mapping_id old new result s well_formed in
      let law = (advances g mapping_id old new result s well_formed ok).law c in
      let anew = taken-run m one (sound g mapping_id old new result s well_formed) has.held c one.count (omega arith) in
      let counts : counted m c ≡ counts_in g old c = ap (λ (b : Bytes). count b m.header.fields c) (memory-then g mapping_id old new result s well_formed ok) in
      let counts' : counted m' c ≡ counts_in g new c = ap (λ (b : Bytes). count b m'.header.fields c) (memory-now g mapping_id old new result s well_formed ok) in
      let names : referenced m c ≡ names_in g old c = ap (λ (b : Bytes). refs b m.header.fields c) (memory-then g mapping_id old new result s well_formed ok) in
      let names' : referenced m' c ≡ names_in g new c = ap (λ (b : Bytes). refs b m'.header.fields c) (memory-now g mapping_id old new result s well_formed ok) in
      let waits : waiting_in old.tables.space c ≡ waiting m c = ap (λ o. waiting_in o c) has.space_known in
      let waits' : waiting_in new.tables.space c ≡ waiting m' c = ap (λ o. waiting_in o c) w.space_known ∙ ap (λ es. listed es c) w.entries in
      let held : reserved_in (holding_in g old.unspent) c ≡ reserved_as one.is_kept one.host one.count c = ap (λ o. reserved_in o c) (hold-is g mapping_id old new result s) in
      let held' : reserved_in (holding_in g new.unspent) c ≡ 0 = ap (λ u. reserved_in (holding_in g u) c) (free-now g mapping_id old new result s) in
      omega (arith, law, anew, counts, counts', names, names', waits, waits', held, held')

  pub commit-leaks : CommitsUnspent g mapping_id old result new → IsWellFormed g old → IfErr result (λ e. IsNotResourceError e.0) → KeepsLeaks g old new
  commit-leaks (inl another) well_formed not_resource_error = leaks-idle g old new another.2
  commit-leaks (inr s) well_formed not_resource_error =
      from s.named refl (subst (λ r. IfErr r (λ e. IsNotResourceError e.0)) s.answer not_resource_error) where
        from : (r : Result Unit Fault) → s.named ≡ r → IfErr (answer_of s.named) (λ e. IsNotResourceError e.0) → KeepsLeaks g old new
        from (Ok done) is not_resource_error = spent-leaks s well_formed is
        from (Err fault) is not_resource_error =
            absurd (refused-hard g mapping_id old new result s well_formed fault is (subst (λ r. IfErr (answer_of r) (λ e. IsNotResourceError e.0)) is not_resource_error))

module _ {S : Type 0} (g : Ghosts S) (mapping_id : ℕ) (old new : Qcow2 S g) where
  back-waits : (is_kept : Bool) (host n : ℕ) (space : Space) (o : Option Space) → (is_kept ≡ false → 0 < space.to_free.held)
      → GivesBack is_kept host n (Some space) o → (c : ℕ) → waiting_in o c ≡ listed space.to_free.entries c + reserved_as is_kept host n c
  back-waits true host n space o room same c = let is : waiting_in o c ≡ listed space.to_free.entries c = ap (λ o. waiting_in o c) same in omega (arith, is)
  back-waits false host n space o room (inl none) c = absurd (let some = room refl in let no = none.0 in omega (arith, some, no))
  back-waits false host n space o room (inr given) c =
      ap (λ o. waiting_in o c) given.1
      ∙ listed_push space.to_free.entries (record { first = host; count = n; metadata = false }) c

  pub dropped-leaks : DropsUnspent g mapping_id old new → IsWellFormed g old → KeepsLeaks g old new
  dropped-leaks s well_formed = leaks-same g old new (ap (λ (x : StorageState). bytes_of x.bytes) (ap (λ f. g.state f.image) s.file)) (ap (λ f. f.header) s.file) (λ c.
      let one : PreparedMappingRun = prepared_mapping_run g s.spent in
      let is : holding_in g old.unspent ≡ Some one = ap (holding_in g) s.was_unspent in
      let has : HoldsIn g old.tables one = subst (λ o. IfSome o (HoldsIn g old.tables)) is well_formed.held in
      let waits : waiting_in old.tables.space c ≡ listed has.space.to_free.entries c = ap (λ o. waiting_in o c) has.space_known in
      let waits' : waiting_in new.tables.space c ≡ waiting_in s.space c = ap (λ o. waiting_in o c) s.known in
      let back = back-waits one.is_kept one.host one.count has.space s.space has.room (subst (λ o. GivesBack one.is_kept one.host one.count o s.space) has.space_known s.given) c in
      let held : reserved_in (holding_in g old.unspent) c ≡ reserved_as one.is_kept one.host one.count c = ap (λ o. reserved_in o c) is in
      let held' : reserved_in (holding_in g new.unspent) c ≡ 0 = ap (λ (d : Qcow2 S g). reserved_in (holding_in g d.unspent) c) s.others in
      omega (arith, waits, waits', back, held, held'))

  pub cancel-leaks : CancelsUnspent g mapping_id old new → IsWellFormed g old → KeepsLeaks g old new
  cancel-leaks (inl another) well_formed = leaks-idle g old new another.1
  cancel-leaks (inr s) well_formed = dropped-leaks s well_formed

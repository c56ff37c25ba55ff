-- An entry of a cached table is set: the image stays consistent, and reserved clusters stay reserved.
use Rattle.std.proofs.Common.{◌≡◌, ◌≢◌, ◌+◌, ◌≤◌, ℕ, [], ◌∷◌, ◌++◌, refl, arith, sym, subst, true, false, inl, inr}
use Rattle.std.proofs.lemmas.Bool.{cases_eq}
use Rattle.qcow2_types.specs.Pending.{FreeEntry}
use Rattle.qcow2_types.specs.References.{meets, of_mapping}
use Rattle.qcow2_types.specs.Words.{Mapping, data_at}
use Rattle.qcow2_types.proofs.Counting.Consistent.{meets-other, meets-own}
use Rattle.qcow2_types.proofs.Counting.Either.{refs-cached}
use Rattle.qcow2_alloc.specs.FreeList.{covers}
use Rattle.qcow2_alloc.specs.Memory.{Cached}
use Rattle.qcow2_alloc.specs.GuestView.{Metadata, IsSound, IsUsed, counted, covers_metadata, in_memory, referenced_at_all, referenced, waiting}
use Rattle.qcow2_alloc.proofs.Freeing.ClusterOccurrences.{listed_push}
use Rattle.qcow2_alloc.proofs.GuestView.QuietEntries.{metadata-among, metadata_push}
use Rattle.qcow2_steps.specs.Words.{ChangesEntry, DropsNames, IsReserved, LinksCluster}
use Rattle.qcow2_steps.proofs.Values.{places-there}

module _ (m : Metadata) (i j : ℕ) (old : Mapping) (cached' : Cached) where
  abbrev later : Metadata
  later = record m { cached = cached' }

  -- Clusters in use stay in use, since refcounts and the structure are the same.
  pub used-after : (new : Mapping) → ChangesEntry m i j old new cached' → (c : ℕ) → IsUsed m c → IsUsed later c
  used-after new changes c used = record { apart = used.apart; taken = let same = changes.written.counts c in let taken = used.taken in omega (arith, same, taken) }

  reserved-after : (new : Mapping) → ChangesEntry m i j old new cached' → (c : ℕ) → referenced_at_all later c ≤ referenced_at_all m c → IsReserved m c → IsReserved later c
  reserved-after new changes c fewer reserved = record {
    used = used-after new changes c reserved.used;
    not_referenced = let none = reserved.not_referenced in omega (arith, none, fewer);
    waits = reserved.waits;
  }

  pub named-reserved : (x : ℕ) → LinksCluster m i j old x cached' → (c : ℕ) → c ≢ x → IsReserved m c → IsReserved later c
  named-reserved x names c other reserved = reserved-after (data_at x true) names.changed c (names.others c other) reserved

  pub dropped-reserved : (new : Mapping) → DropsNames m i j old new cached' → (c : ℕ) → IsReserved m c → IsReserved later c
  dropped-reserved new drops c reserved = reserved-after new drops.changed c (drops.names c) reserved

  module _ (sound : IsSound m) where
    -- The refcounts still include the references of the entry's old mapping.
    pub named-owed : (x : ℕ) → LinksCluster m i j old x cached' → IsReserved m x → (c : ℕ) → referenced later c + waiting m c + of_mapping m.header.fields (meets m.header.fields c) old ≤ counted m c
    named-owed x names reserved c = elim (cases_eq c x) [
      | inl is ↦ subst (λ d. referenced later d + waiting m d + of_mapping m.header.fields (meets m.header.fields d) old ≤ counted m d) (sym is) (
          let own : of_mapping m.header.fields (meets m.header.fields x) (data_at x true) ≡ 1 = meets-own m.header.fields x in
          let moved = names.changed.references x in
          let once = names.references in
          let le = refs-cached m.file (in_memory m) m.header.fields x (places-there m sound) in
          let not_referenced = reserved.not_referenced in
          let waits = reserved.waits in
          let taken = reserved.used.taken in
          omega (arith, own, moved, once, le, not_referenced, waits, taken))
      | inr other ↦
          let nothing : of_mapping m.header.fields (meets m.header.fields c) (data_at x true) ≡ 0 = meets-other m.header.fields c x (λ e. other (sym e)) in
          let moved = names.changed.references c in
          let was = sound.covered c in
          omega (arith, nothing, moved, was)
    ]

    pub named-sound : (x : ℕ) → LinksCluster m i j old x cached' → IsReserved m x → IsSound later
    named-sound x names reserved = record {
      well_formed = names.changed.well_formed;
      table = sound.table;
      covered = λ c.
          let same = names.changed.written.counts c in
          elim (cases_eq c x) [
            | inl is ↦ subst (λ d. referenced later d + waiting m d ≤ counted later d) (sym is)
                (let once = names.references in let kept = names.changed.written.counts x in let waits = reserved.waits in let taken = reserved.used.taken in omega (arith, once, waits, taken, kept))
            | inr other ↦
                let nothing : of_mapping m.header.fields (meets m.header.fields c) (data_at x true) ≡ 0 = meets-other m.header.fields c x (λ e. other (sym e)) in
                let moved = names.changed.references c in
                let was = sound.covered c in
                omega (arith, nothing, moved, was, same)
          ];
      not_referenced = λ c waits.
          let among = metadata-among c m.pending in
          elim (cases_eq c x) [
            | inl is ↦ absurd (let gone = subst (λ d. waiting m d ≡ 0) (sym is) reserved.waits in omega (arith, waits, among, gone))
            | inr other ↦ let was = sound.not_referenced c waits in let now = names.others c other in omega (arith, was, now)
          ];
    }

    module _ (new : Mapping) (drops : DropsNames m i j old new cached') where
      pub dropped-sound : IsSound later
      dropped-sound = record {
        well_formed = drops.changed.well_formed;
        table = sound.table;
        covered = λ c.
            let same = drops.changed.written.counts c in
            let fewer = drops.references c in
            let was = sound.covered c in
            omega (arith, same, fewer, was);
        not_referenced = λ c waits. let was = sound.not_referenced c waits in let now = drops.names c in omega (arith, was, now);
      }

      pub dropped-owed : (c : ℕ) → referenced later c + waiting m c + of_mapping m.header.fields (meets m.header.fields c) old ≤ counted m c + of_mapping m.header.fields (meets m.header.fields c) new
      dropped-owed c = let moved = drops.changed.references c in let was = sound.covered c in omega (arith, moved, was)

      -- Clusters that the entry no longer references can be added to the free list.
      pub waits-sound : (e : FreeEntry) → e.metadata ≡ false
          → ((c : ℕ) → of_mapping m.header.fields (meets m.header.fields c) new + covers c e ≤ of_mapping m.header.fields (meets m.header.fields c) old)
          → IsSound (record m { cached = cached'; pending = m.pending ++ e ∷ [] })
      waits-sound e guest back = record {
        well_formed = drops.changed.well_formed;
        table = sound.table;
        covered = λ c.
            let same = drops.changed.written.counts c in
            let moved = drops.changed.references c in
            let less = back c in
            let was = sound.covered c in
            let more = listed_push m.pending e c in
            omega (arith, same, moved, less, was, more);
        not_referenced = λ c waits.
            let more = metadata_push m.pending e c in
            let none : covers_metadata c e ≡ 0 = rw guest refl in
            let was : referenced_at_all m c ≡ 0 = sound.not_referenced c (omega (arith, waits, more, none)) in
            let now = drops.names c in
            omega (arith, was, now);
      }

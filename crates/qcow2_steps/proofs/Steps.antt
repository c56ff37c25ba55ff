-- Steps that keep what the guest sees, writes of bytes, and set entries, as instances of `Advances`.
use Rattle.std.proofs.Common.{◌≡◌, ◌≢◌, ℕ, ◌+◌, ◌*◌, ◌/◌, ◌%◌, ◌<◌, ◌≤◌, refl, arith, ap, sym, subst, ◌∙◌, true, [], ◌++◌, ◌∷◌, false, inl, inr}
use Rattle.std.specs.Prelude.{◌⊎◌}
use Rattle.std.proofs.lemmas.Bool.{cases_eq, cases_lt}
use Rattle.std.proofs.lemmas.Bool.Decides.{nat_tests}
use Rattle.imago_storage.specs.Steps.{IsIn}
use Rattle.qcow2_types.specs.Bytes.{Bytes}
use Rattle.qcow2_types.specs.Entries.{entry}
use Rattle.qcow2_types.specs.Header.{Fields, cluster_size, entries_of_cluster}
use Rattle.qcow2_types.specs.Pending.{FreeEntry}
use Rattle.qcow2_types.specs.References.{meets, of_mapping}
use Rattle.qcow2_types.specs.Words.{Mapping, data_at}
use Rattle.qcow2_types.proofs.Counting.Consistent.{meets-other, meets-own}
use Rattle.qcow2_alloc.specs.FreeList.{covers}
use Rattle.qcow2_alloc.specs.Memory.{Cached}
use Rattle.qcow2_alloc.specs.GuestView.{Metadata, GuestUnchanged, IsSound, counted, covers_metadata, in_memory, referenced_at_all, one_at, referenced, waiting}
use Rattle.qcow2_alloc.proofs.Handing.ClustersHandedOut.{quiet-names-no-more}
use Rattle.qcow2_alloc.proofs.Freeing.ClusterOccurrences.{listed_push}
use Rattle.qcow2_alloc.proofs.GuestView.QuietEntries.{push-quiet}
use Rattle.qcow2_alloc.proofs.GuestView.ShownDisks.{in-cluster}
use Rattle.qcow2_alloc.proofs.GuestView.QuietSequences.{used-then}
use Rattle.qcow2_steps.specs.Advancing.{Advances}
use Rattle.qcow2_steps.specs.Data.{AreReferencedFor, GivesData, WritesBeside}
use Rattle.qcow2_steps.specs.Values.{memory_value, own_value_by}
use Rattle.qcow2_steps.specs.Words.{ChangesEntry, DropsNames, GivesEntry, IsOfOther, IsOfEntry, IsReserved, LinksCluster}
use Rattle.qcow2_steps.proofs.StepSums.{advances-then, advances-weaker}
use Rattle.qcow2_steps.proofs.DataRuns.{beside-sound, beside-used, beside-words}
use Rattle.qcow2_steps.proofs.Headers.{header-counts, header-same}
use Rattle.qcow2_steps.proofs.QuietValues.{clean-values, quiet-entries, quiet-left, quiet-values}
use Rattle.qcow2_steps.proofs.WordSteps.{dropped-owed, dropped-sound, named-sound, used-after}
use Rattle.qcow2_steps.proofs.WriteValues.{written-memory, written-stops}

pub quiet-advances : (m m' : Metadata) (handed taken : ℕ → ℕ) → IsSound m → IsSound m' → GuestUnchanged handed taken m m' → ((c : ℕ) → 0 < referenced m c → taken c ≡ 0)
    → Advances (λ p v. ⊥) (λ q. ⊥) (λ guest. ⊥) handed taken m m'
quiet-advances m m' handed taken sound sound' guest_unchanged spared = record {
  sound = sound';
  header = header-counts m.header m'.header guest_unchanged.shows.moved;
  file = quiet-left (λ p v. ⊥) m m'.file m'.header sound guest_unchanged.shows;
  memory = λ p. inl (quiet-values m m' handed taken sound sound' guest_unchanged spared p);
  raw_entries = λ guest. inl (quiet-entries m m' handed taken sound sound' guest_unchanged guest);
  used = used-then m m' handed taken guest_unchanged sound sound';
  waits = guest_unchanged.waits;
  names = λ c used none. quiet-names-no-more m m' handed taken guest_unchanged c (guest_unchanged.apart c used none);
  used_bytes_unchanged = λ p used none. inr (in-cluster m.header.fields m.file m'.file p (guest_unchanged.used_bytes_unchanged (p / cluster_size m.header.fields) used none));
  law = guest_unchanged.law;
}

-- Like `quiet-advances`, for any taken clusters, if no entry is dirty.
pub clean-advances : (m m' : Metadata) (handed taken : ℕ → ℕ) → IsSound m → IsSound m' → GuestUnchanged handed taken m m'
    → ((guest : ℕ) → entry m'.file m'.header.fields guest ≡ entry (in_memory m') m'.header.fields guest)
    → Advances (λ p v. ⊥) (λ q. ⊥) (λ guest. ⊥) handed taken m m'
clean-advances m m' handed taken sound sound' guest_unchanged clean = record {
  sound = sound';
  header = header-counts m.header m'.header guest_unchanged.shows.moved;
  file = quiet-left (λ p v. ⊥) m m'.file m'.header sound guest_unchanged.shows;
  memory = λ p. inl (clean-values m m' handed taken sound sound' guest_unchanged clean p);
  raw_entries = λ guest. inl (quiet-entries m m' handed taken sound sound' guest_unchanged guest);
  used = used-then m m' handed taken guest_unchanged sound sound';
  waits = guest_unchanged.waits;
  names = λ c used none. quiet-names-no-more m m' handed taken guest_unchanged c (guest_unchanged.apart c used none);
  used_bytes_unchanged = λ p used none. inr (in-cluster m.header.fields m.file m'.file p (guest_unchanged.used_bytes_unchanged (p / cluster_size m.header.fields) used none));
  law = guest_unchanged.law;
}

pub written-advances : (m : Metadata) (first c k at n : ℕ) (x : Bytes) → IsSound m → WritesBeside m c k at n x → AreReferencedFor m first c k
    → Advances (GivesData m.header.fields first c at n x) (IsIn at n) (λ guest. ⊥) (λ _. 0) (λ _. 0) m (record m { file = x })
written-advances m first c k at n x sound writes own =
    let raw_entries = beside-words m sound c k at n x writes in
    record {
      sound = beside-sound m sound c k at n x writes;
      header = header-same m.header;
      file = written-stops m first c k at n x x sound writes own (λ q. inr refl);
      memory = written-memory m first c k at n x sound writes own;
      raw_entries = λ guest. inl (raw_entries.memory_entries guest);
      used = λ d used none. beside-used m x raw_entries d used;
      waits = λ d used none. omega arith;
      names = λ d used none. let same = raw_entries.names d in omega (arith, same);
      used_bytes_unchanged = λ p used none. elim (cases_lt p at) [
        | inl before ↦ inr (writes.outside p (inl before))
        | inr from ↦ elim (cases_lt p (at + n)) [
          | inl to ↦ inl (from, to)
          | inr past ↦ inr (writes.outside p (inr past))
        ]
      ];
      law = λ d. let counts = raw_entries.counts d in let references = raw_entries.references d in omega (arith, counts, references);
    }

-- A cluster is added to the free list.
pub put-off-advances : (m : Metadata) (e : FreeEntry) → IsSound m → ((c : ℕ) → referenced m c + waiting m c + covers c e ≤ counted m c) → ((c : ℕ) → 0 < covers_metadata c e → referenced_at_all m c ≡ 0)
    → Advances (λ p v. ⊥) (λ q. ⊥) (λ guest. ⊥) (λ _. 0) (λ c. covers c e) m (record m { pending = m.pending ++ e ∷ [] })
put-off-advances m e sound enough not_referenced =
    let both = push-quiet m e sound enough not_referenced in
    record {
      sound = both.0;
      header = header-same m.header;
      file = record { consistent = sound.well_formed.consistent; header = header-same m.header; shows = λ p. inl refl };
      memory = λ p. inl refl;
      raw_entries = λ guest. inl refl;
      used = λ c used none. record { apart = used.apart; taken = let more = listed_push m.pending e c in let taken = used.taken in omega (arith, more, taken, none) };
      waits = both.1.waits;
      names = λ c used none. omega arith;
      used_bytes_unchanged = λ p used none. inr refl;
      law = both.1.law;
    }

-- An L2 entry is set.
module _ (m : Metadata) (i j : ℕ) (old new : Mapping) (cached' : Cached) (changes : ChangesEntry m i j old new cached') where
  abbrev later : Metadata
  later = record m { cached = cached' }

  own-or-other : (guest : ℕ) → IsOfEntry m.header.fields i j guest ⊎ IsOfOther m.header.fields i j guest
  own-or-other guest = elim (cases_eq (guest / entries_of_cluster m.header.fields) i) [
    | inl row ↦ elim (cases_eq (guest % entries_of_cluster m.header.fields) j) [
      | inl column ↦ inl (row, column)
      | inr apart ↦ inr (inr apart)
    ]
    | inr apart ↦ inr (inl apart)
  ]

  pub value-here : (p : ℕ) → IsOfEntry m.header.fields i j (p / cluster_size m.header.fields) → memory_value later p ≡ own_value_by m.file m.header.fields p new
  value-here p own = ap (own_value_by m.file m.header.fields p) (changes.written.entries (p / cluster_size m.header.fields) own.0 own.1)

  pub word-elsewhere : (guest : ℕ) → IsOfOther m.header.fields i j guest → entry (in_memory later) m.header.fields guest ≡ entry (in_memory m) m.header.fields guest
  word-elsewhere guest other = (changes.written.elsewhere guest other).mapping

  pub value-elsewhere : (p : ℕ) → IsOfOther m.header.fields i j (p / cluster_size m.header.fields) → memory_value later p ≡ memory_value m p
  value-elsewhere p other = ap (own_value_by m.file m.header.fields p) (word-elsewhere (p / cluster_size m.header.fields) other)

  -- The values that the entry gives; everything else is the same.
  set-advances : (handed taken : ℕ → ℕ) → IsSound m → IsSound later → ((c : ℕ) → taken c ≡ 0 → referenced_at_all later c ≤ referenced_at_all m c)
      → ((c : ℕ) → of_mapping m.header.fields (meets m.header.fields c) old + taken c ≡ of_mapping m.header.fields (meets m.header.fields c) new + handed c)
      → Advances (GivesEntry m i j new) (λ q. ⊥) (IsOfEntry m.header.fields i j) handed taken m later
  set-advances handed taken sound sound' fewer law = record {
    sound = sound';
    header = header-same m.header;
    file = record { consistent = sound.well_formed.consistent; header = header-same m.header; shows = λ p. inl refl };
    memory = λ p. elim (own-or-other (p / cluster_size m.header.fields)) [
      | inl own ↦ inr (own, value-here p own)
      | inr other ↦ inl (value-elsewhere p other)
    ];
    raw_entries = λ guest. elim (own-or-other guest) [
      | inl own ↦ inr own
      | inr other ↦ inl (word-elsewhere guest other)
    ];
    used = λ c used none. used-after m i j old cached' new changes c used;
    waits = λ c used none. omega arith;
    names = λ c used none. fewer c none;
    used_bytes_unchanged = λ p used none. inr refl;
    law = λ c. let counts = changes.written.counts c in let moved = changes.references c in let e = law c in omega (arith, counts, moved, e);
  }

-- the references of data in cluster x
pub meets-one : (h : Fields) (x c : ℕ) → of_mapping h (meets h c) (data_at x true) ≡ one_at x c
meets-one h x c = elim (cases_eq c x) [
  | inl is ↦ let own = meets-own h c in subst (λ d. meets h c (d * cluster_size h) (cluster_size h) ≡ one_at d c) is (own ∙ sym (one-here c))
  | inr other ↦ meets-other h c x (λ e. other (sym e)) ∙ sym (one-elsewhere c x other)
]
  where
    one-here : (c : ℕ) → one_at c c ≡ 1
    one-here c = grind (arith, nat_tests)

    one-elsewhere : (c x : ℕ) → c ≢ x → one_at x c ≡ 0
    one-elsewhere c x other = grind (arith, nat_tests)

pub named-advances : (m : Metadata) (i j x : ℕ) (old : Mapping) (cached' : Cached) → IsSound m → LinksCluster m i j old x cached' → IsReserved m x
    → Advances (GivesEntry m i j (data_at x true)) (λ q. ⊥) (IsOfEntry m.header.fields i j) (λ c. of_mapping m.header.fields (meets m.header.fields c) old) (one_at x) m (record m { cached = cached' })
named-advances m i j x old cached' sound names reserved =
    set-advances m i j old (data_at x true) cached' names.changed (λ c. of_mapping m.header.fields (meets m.header.fields c) old) (one_at x) sound (named-sound m i j old cached' sound x names reserved)
    (λ c spared. elim (cases_eq c x) [
      | inl is ↦ absurd (let one = meets-one m.header.fields x c in let own : meets m.header.fields c (x * cluster_size m.header.fields) (cluster_size m.header.fields) ≡ 1 = subst (λ d. meets m.header.fields c (d * cluster_size m.header.fields) (cluster_size m.header.fields) ≡ 1) is (meets-own m.header.fields c) in omega (arith, one, own, spared))
      | inr other ↦ names.others c other
    ])
    (λ c. let one = meets-one m.header.fields x c in omega (arith, one))

pub dropped-advances : (m : Metadata) (i j : ℕ) (old new : Mapping) (handed : ℕ → ℕ) (cached' : Cached) → IsSound m → DropsNames m i j old new cached'
    → ((c : ℕ) → of_mapping m.header.fields (meets m.header.fields c) new + handed c ≡ of_mapping m.header.fields (meets m.header.fields c) old)
    → Advances (GivesEntry m i j new) (λ q. ⊥) (IsOfEntry m.header.fields i j) handed (λ _. 0) m (record m { cached = cached' })
dropped-advances m i j old new handed cached' sound drops back =
    set-advances m i j old new cached' drops.changed handed (λ _. 0) sound (dropped-sound m i j old cached' sound new drops) (λ c none. drops.names c) (λ c. let e = back c in omega (arith, e))

-- An entry drops references, and the dropped clusters are added to the free list: the sum of two steps.
pub freed-advances : (m : Metadata) (i j : ℕ) (old new : Mapping) (e : FreeEntry) (cached' : Cached) → IsSound m → DropsNames m i j old new cached' → e.metadata ≡ false
    → ((c : ℕ) → of_mapping m.header.fields (meets m.header.fields c) new + covers c e ≡ of_mapping m.header.fields (meets m.header.fields c) old)
    → Advances (GivesEntry m i j new) (λ q. ⊥) (IsOfEntry m.header.fields i j) (λ c. covers c e) (λ c. covers c e) m (record m { cached = cached'; pending = m.pending ++ e ∷ [] })
freed-advances m i j old new e cached' sound drops guest back =
    advances-weaker (λ p v. GivesEntry m i j new p v ⊎ ⊥) (GivesEntry m i j new) (λ q. ⊥ ⊎ ⊥) (λ q. ⊥) (λ g. IsOfEntry m.header.fields i j g ⊎ ⊥) (IsOfEntry m.header.fields i j)
    (λ c. covers c e + 0) (λ c. 0 + covers c e) (λ c. covers c e) (λ c. covers c e) m (record m { cached = cached'; pending = m.pending ++ e ∷ [] })
    (λ p v given. elim given [ inl is ↦ is | inr never ↦ absurd never ])
    (λ q given. elim given [ inl never ↦ never | inr never ↦ never ])
    (λ g given. elim given [ inl is ↦ is | inr never ↦ absurd never ])
    (λ c. omega arith) (λ c used none. omega (arith, none))
    (advances-then (GivesEntry m i j new) (λ p v. ⊥) (λ q. ⊥) (IsOfEntry m.header.fields i j) (λ c. covers c e) (λ _. 0) m (record m { cached = cached' })
    (dropped-advances m i j old new (λ c. covers c e) cached' sound drops back)
    (λ q. ⊥) (λ g. ⊥) (λ _. 0) (λ c. covers c e) (record m { cached = cached'; pending = m.pending ++ e ∷ [] })
    (put-off-advances (record m { cached = cached' }) e (dropped-sound m i j old cached' sound new drops)
    (λ c. let owed = dropped-owed m i j old cached' sound new drops c in let same = drops.changed.written.counts c in let less = back c in omega (arith, owed, same, less))
    (λ c some. absurd (let none : covers_metadata c e ≡ 0 = rw guest refl in omega (arith, some, none)))))

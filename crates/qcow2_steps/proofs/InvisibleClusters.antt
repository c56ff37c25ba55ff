-- Clusters that no guest byte reads: preallocated zero clusters with the COPIED flag, and reserved clusters. A write to them gives
-- nothing.
use Rattle.std.proofs.Common.{◌≡◌, ◌≢◌, ℕ, ◌+◌, ◌*◌, ◌/◌, ◌%◌, ◌<◌, ◌≤◌, refl, arith, ap, sym, subst, ◌∙◌, Some, Bool, true, inl, inr}
use Rattle.std.specs.Prelude.{◌⊎◌}
use Rattle.std.proofs.Math.Nat.{le-max_left, le-max_right, mul-le-mul_right}
use Rattle.std.proofs.lemmas.Bool.{cases_eq, cases_lt}
use Rattle.std.proofs.lemmas.Nat.{div-add-mod', mod_below, pow_pos}
use Rattle.imago_storage.specs.Steps.{IsIn}
use Rattle.qcow2_types.specs.Bytes.{Bytes}
use Rattle.qcow2_types.specs.Consistency.{IsConsistent}
use Rattle.qcow2_types.specs.Entries.{entry, l2_table}
use Rattle.qcow2_types.specs.Header.{Fields, Header, cluster_size, entries_of_cluster}
use Rattle.qcow2_types.specs.References.{meets, of_copied, of_mapping, refs, structure}
use Rattle.qcow2_types.specs.Slots.{Live, slot}
use Rattle.qcow2_types.specs.Words.{data_at, unmapped, zeroes}
use Rattle.qcow2_types.proofs.Counting.Consistent.{consistent-shaped, meets-own, some-words}
use Rattle.qcow2_types.proofs.Counting.Either.{structure-same}
use Rattle.qcow2_types.proofs.Showing.Shows.{guest-live, guest-slot-none, guest-slot-there}
use Rattle.qcow2_types.proofs.Counting.Slots.{contents-slots, slot-le}
use Rattle.qcow2_types.proofs.Showing.Values.{entry-slot}
use Rattle.qcow2_alloc.specs.GuestView.{Metadata, IsSound, IsUsed, in_memory, referenced}
use Rattle.qcow2_steps.specs.Advancing.{Advances, MayBeCrashImage}
use Rattle.qcow2_steps.specs.Data.{AreReferencedFor, IsHidden, IsHiddenIn, IsKeptFor, IsReferencedFor, WritesBeside}
use Rattle.qcow2_steps.specs.Values.{own_value_by}
use Rattle.qcow2_steps.specs.Words.{IsReserved}
use Rattle.qcow2_steps.proofs.DataRuns.{beside-sound, beside-used, beside-words, stop-writes}
use Rattle.qcow2_steps.proofs.Headers.{header-same}
use Rattle.qcow2_steps.proofs.OwnClusters.{named-alone, unnamed-for}
use Rattle.qcow2_steps.proofs.Values.{places-there, value-same, within}
use Rattle.qcow2_steps.proofs.WriteValues.{own-guest}

-- The entry of a guest cluster with a preallocated zero cluster exists.
kept-slot : (f : Bytes) (H : Header) → IsConsistent f H → (guest c : ℕ) → entry f H.fields guest ≡ zeroes (Some c) true
    → Live (l2_table f H.fields) H.fields (guest / entries_of_cluster H.fields) (guest % entries_of_cluster H.fields)
    × (slot f H.fields (guest / entries_of_cluster H.fields) (guest % entries_of_cluster H.fields) ≡ zeroes (Some c) true)
kept-slot f H was guest c is = elim (cases_eq (l2_table f H.fields (guest / entries_of_cluster H.fields)) 0) [
  | inl none ↦ let bad : unmapped ≡ zeroes (Some c) true = sym (guest-slot-none f H.fields guest none) ∙ sym (entry-slot f H.fields guest was.readable.tables) ∙ is in absurd cc
  | inr there ↦ (
    guest-live f H.fields guest (some-words H.fields (consistent-shaped f H was)) there,
    sym (guest-slot-there f H.fields guest there) ∙ sym (entry-slot f H.fields guest was.readable.tables) ∙ is,
  )
]

-- The references of one entry are at most all references.
named-slot : (f : Bytes) (h : Fields) (c i j : ℕ) → Live (l2_table f h) h i j → of_mapping h (meets h c) (slot f h i j) ≤ refs f h c
unfolding refs
named-slot f h c i j live =
    let one = slot-le (l2_table f h) h (λ k n. of_mapping h (meets h c) (slot f h k n)) i j live in
    let all = contents-slots f h (of_mapping h (meets h c)) in
    omega (arith, one, all)

-- the case of a single cluster
one-own : (m : Metadata) (guest c : ℕ) → IsReferencedFor m guest c → AreReferencedFor m guest c 0
one-own m guest c own d none =
    let same : guest + d ≡ guest = omega (arith, none) in
    let same' : c + d ≡ c = omega (arith, none) in
    subst (λ g. IsReferencedFor m g (c + d)) (sym same) (subst (IsReferencedFor m guest) (sym same') own)

module _ (m : Metadata) (guest c : ℕ) (sound : IsSound m) (own : IsReferencedFor m guest c) where
  -- Only this guest cluster can have its data there, by the entries of the file or in memory.
  file-own : (g : ℕ) (copied : Bool) → entry m.file m.header.fields g ≡ data_at c copied → g ≡ guest
  file-own g copied is =
      let there = own-guest m guest c 0 (one-own m guest c own) m.file sound.well_formed.consistent (λ i. refl) (λ d i j. le-max_left _ _) g c copied is
      (omega arith) (omega arith) in
      omega (arith, there)

  memory-own : (g : ℕ) (copied : Bool) → entry (in_memory m) m.header.fields g ≡ data_at c copied → g ≡ guest
  memory-own g copied is =
      let there = own-guest m guest c 0 (one-own m guest c own) (in_memory m) (within m sound) (places-there m sound).l1 (λ d i j. le-max_right _ _) g c copied is
      (omega arith) (omega arith) in
      omega (arith, there)

-- If this guest cluster hasn't, no guest byte reads the cluster.
hidden-by : (m : Metadata) (guest c : ℕ) → IsSound m → IsReferencedFor m guest c → structure m.file m.header.fields (meets m.header.fields c) ≡ 0
    → ((copied : Bool) → entry m.file m.header.fields guest ≢ data_at c copied)
    → ((copied : Bool) → entry (in_memory m) m.header.fields guest ≢ data_at c copied) → IsHiddenIn m c
hidden-by m guest c sound own apart none none' = (
  record {
    apart = apart;
    dataless = λ g copied is. none copied (subst (λ e. entry m.file m.header.fields e ≡ data_at c copied) (file-own m guest c sound own g copied is) is);
  },
  record {
    apart = structure-same m.file (in_memory m) m.header.fields (places-there m sound) (meets m.header.fields c) ∙ apart;
    dataless = λ g copied is. none' copied (subst (λ e. entry (in_memory m) m.header.fields e ≡ data_at c copied) (memory-own m guest c sound own g copied is) is);
  },
)

pub reserved-hidden : (m : Metadata) (c : ℕ) → IsSound m → IsReserved m c → IsHiddenIn m c
reserved-hidden m c sound reserved = (
  record {
    apart = (unnamed-for m 0 c reserved.not_referenced).1;
    dataless = λ g copied is. let same = file-own m (g + 1) c sound (unnamed-for m (g + 1) c reserved.not_referenced).0 g copied is in omega (arith, same);
  },
  record {
    apart = structure-same m.file (in_memory m) m.header.fields (places-there m sound) (meets m.header.fields c) ∙ (unnamed-for m 0 c reserved.not_referenced).1;
    dataless = λ g copied is. let same = memory-own m (g + 1) c sound (unnamed-for m (g + 1) c reserved.not_referenced).0 g copied is in omega (arith, same);
  },
)

module _ (m : Metadata) (guest c : ℕ) (sound : IsSound m) (kept : IsKeptFor m guest c) where
  abbrev h : Fields
  h = m.header.fields

  abbrev i : ℕ
  i = guest / entries_of_cluster h

  abbrev j : ℕ
  j = guest % entries_of_cluster h

  -- No other entry references the preallocated zero cluster.
  alone : IsReferencedFor m guest c × (structure m.file h (meets h c) ≡ 0)
  alone =
      let there = kept-slot m.file m.header sound.well_formed.consistent guest c kept.file in
      let one : of_copied h (meets h c) (slot m.file h i j) ≡ 1 = ap (of_copied h (meets h c)) there.1 ∙ meets-own h c in
      let both = named-alone m i j c sound there.0 (omega (arith, one)) in
      (subst (λ g. IsReferencedFor m g c) (div-add-mod' guest (entries_of_cluster h)) both.0, both.1)

  pub kept-hidden : IsHiddenIn m c
  kept-hidden = hidden-by m guest c sound alone.0 alone.1
      (λ copied is. let bad : zeroes (Some c) true ≡ data_at c copied = sym kept.file ∙ is in cc)
      (λ copied is. let bad : zeroes (Some c) true ≡ data_at c copied = sym kept.memory ∙ is in cc)

  -- The reference of the entry is one of the cluster's references.
  pub kept-named : 1 ≤ referenced m c
  kept-named =
      let there = kept-slot (in_memory m) m.header (within m sound) guest c kept.memory in
      let one : of_mapping h (meets h c) (slot (in_memory m) h i j) ≡ 1 = ap (of_mapping h (meets h c)) there.1 ∙ meets-own h c in
      let le = named-slot (in_memory m) h c i j there.0 in
      omega (arith, one, le)

  pub kept-used : IsUsed m c
  kept-used = record { apart = alone.1; taken = let some = kept-named in let enough = sound.covered c in omega (arith, some, enough) }

pub kept-stays : (m : Metadata) (c k at n guest d : ℕ) (x : Bytes) → IsSound m → WritesBeside m c k at n x → IsKeptFor m guest d → IsKeptFor (record m { file = x }) guest d
kept-stays m c k at n guest d x sound writes kept =
    let raw_entries = beside-words m sound c k at n x writes in
    record { file = raw_entries.file_entries guest ∙ kept.file; memory = raw_entries.memory_entries guest ∙ kept.memory }

-- A byte of another cluster isn't written.
other-byte : (m : Metadata) (c at n : ℕ) (x : Bytes) → WritesBeside m c 0 at n x → (d r : ℕ) → d ≢ c → r < cluster_size m.header.fields
    → x (d * cluster_size m.header.fields + r) ≡ m.file (d * cluster_size m.header.fields + r)
other-byte m c at n x writes d r other less =
    let size : ℕ = cluster_size m.header.fields in
    let low = writes.low in
    let high = writes.high in
    writes.outside (d * cluster_size m.header.fields + r) (elim (cases_lt d c) [
      | inl before ↦
          let le : (d + 1) * cluster_size m.header.fields ≤ c * cluster_size m.header.fields = mul-le-mul_right (cluster_size m.header.fields) (omega (arith, before)) in
          let product : (d + 1) * cluster_size m.header.fields ≡ d * cluster_size m.header.fields + cluster_size m.header.fields = omega arith in
          inl (omega (arith, le, product, low, less))
      | inr from ↦
          let le : (c + 0 + 1) * cluster_size m.header.fields ≤ d * cluster_size m.header.fields = mul-le-mul_right (cluster_size m.header.fields) (omega (arith, from, other)) in
          inr (omega (arith, le, high))
    ])

-- Each guest byte reads as before.
value-still : (m : Metadata) (c at n : ℕ) (x : Bytes) → WritesBeside m c 0 at n x → (raw_entries : Bytes) → IsHidden raw_entries m.header.fields c → (p : ℕ)
    → own_value_by x m.header.fields p (entry raw_entries m.header.fields (p / cluster_size m.header.fields))
    ≡ own_value_by m.file m.header.fields p (entry raw_entries m.header.fields (p / cluster_size m.header.fields))
value-still m c at n x writes raw_entries hidden p =
    value-same m.file x m.header.fields p (entry raw_entries m.header.fields (p / cluster_size m.header.fields)) (λ d copied is.
    other-byte m c at n x writes d (p % cluster_size m.header.fields)
    (λ same. hidden.dataless (p / cluster_size m.header.fields) copied (is ∙ ap (λ e. data_at e copied) same))
    (mod_below p (cluster_size m.header.fields) (pow_pos m.header.fields.cluster_bits)))

pub hidden-stops : (m : Metadata) (c at n : ℕ) (x y : Bytes) → IsSound m → WritesBeside m c 0 at n x → IsHiddenIn m c
    → ((q : ℕ) → (y q ≡ m.file q) ⊎ (y q ≡ x q)) → MayBeCrashImage (λ p v. ⊥) m y m.header
hidden-stops m c at n x y sound writes hidden either =
    let stopped = stop-writes m c 0 at n x y writes either in
    let raw_entries = beside-words m sound c 0 at n y stopped in record {
      consistent = raw_entries.consistent;
      header = header-same m.header;
      shows = λ p. inl (ap (own_value_by y m.header.fields p) (raw_entries.file_entries (p / cluster_size m.header.fields)) ∙ value-still m c at n y stopped m.file hidden.0 p);
    }

pub hidden-advances : (m : Metadata) (c at n : ℕ) (x : Bytes) → IsSound m → WritesBeside m c 0 at n x → IsHiddenIn m c
    → Advances (λ p v. ⊥) (IsIn at n) (λ guest. ⊥) (λ _. 0) (λ _. 0) m (record m { file = x })
hidden-advances m c at n x sound writes hidden =
    let raw_entries = beside-words m sound c 0 at n x writes in record {
      sound = beside-sound m sound c 0 at n x writes;
      header = header-same m.header;
      file = hidden-stops m c at n x x sound writes hidden (λ q. inr refl);
      memory = λ p. inl (ap (own_value_by x m.header.fields p) (raw_entries.memory_entries (p / cluster_size m.header.fields)) ∙ value-still m c at n x writes (in_memory m) hidden.1 p);
      raw_entries = λ guest. inl (raw_entries.memory_entries guest);
      used = λ d used none. beside-used m x raw_entries d used;
      waits = λ d used none. omega arith;
      names = λ d used none. let same = raw_entries.names d in omega (arith, same);
      used_bytes_unchanged = λ p used none. elim (cases_lt p at) [
        | inl before ↦ inr (writes.outside p (inl before))
        | inr from ↦ elim (cases_lt p (at + n)) [
          | inl to ↦ inl (from, to)
          | inr past ↦ inr (writes.outside p (inr past))
        ]
      ];
      law = λ d. let counts = raw_entries.counts d in let references = raw_entries.references d in omega (arith, counts, references);
    }

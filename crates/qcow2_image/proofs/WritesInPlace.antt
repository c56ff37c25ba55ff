-- Lemmas on a write in place to data clusters, and what it leaves of a consistent image.
use Rattle.std.proofs.Common.{refl, arith, ap, sym, subst, ◌∙◌, inl, inr}
use Rattle.std.specs.Prelude.{◌≡◌, ◌≢◌, ℕ, zero, suc, ◌+◌, ◌-◌, ◌*◌, ◌/◌, ◌<◌, ◌≤◌, Bool, Some, None, ◌⊎◌, List, false, true}
use Rattle.std.proofs.lemmas.Bool.{cases_eq, cases_lt}
use Rattle.std.proofs.lemmas.Nat.{div-mul-add, pow_pos, le-div}
use Rattle.std.proofs.Math.Nat.{div-mul-le_self, lt-div-mul-add, mul-le-mul_right}
use Rattle.imago_storage.specs.Disk.{byte}
use Rattle.imago_storage.specs.Steps.{IsOut}
use Rattle.imago_access.specs.Layer.{Cell, own}
use Rattle.qcow2_types.specs.Bytes.{Bytes, raw_entry, all_below}
use Rattle.qcow2_types.specs.Words.{Mapping, unmapped, data_at, zeroes, packed, damaged, l1_entry_valid}
use Rattle.qcow2_types.specs.Header.{Fields, Header, cluster_size, entries_of_cluster}
use Rattle.qcow2_types.specs.Entries.{entry, l2_table, l1_table_sound}
use Rattle.qcow2_types.specs.Counts.{block_at}
use Rattle.qcow2_types.specs.References.{structure, meets}
use Rattle.qcow2_types.specs.Consistency.{IsConsistent}
use Rattle.qcow2_types.specs.Frames.{Outside, SameStructureOutside, nothing}
use Rattle.qcow2_types.proofs.Counting.Consistent.{some-words, consistent-shaped}
use Rattle.qcow2_types.proofs.Changes.Frames.{word-same}
use Rattle.qcow2_types.proofs.Showing.Shows.{guest-kept, entries-same}
use Rattle.qcow2_types.proofs.Changes.DataSteps.{untouched-keeps, untouched-consistent, run-written}
use Rattle.qcow2_metadata.specs.Tables.{raw_entries_in}
use Rattle.qcow2_steps.specs.Data.{IsHidden}
use Rattle.qcow2_metadata.proofs.TableFacts.{words_same}
use Rattle.qcow2_image.specs.Holding.{place_in}
use Rattle.qcow2_image.specs.ImageLayer.{cell_by, writable_location_by}
use Rattle.qcow2_image.specs.Homes.{mapped, home-of, cluster-there, data-apart-from-structure, one-place}
use Rattle.imago_storage.specs.Through.{PaddedWriteFailed, NotBegun}
use Rattle.imago_storage.specs.declared.fault.Fault.{Fault}
use Rattle.imago_storage.specs.declared.fault.Fault.TheVariants.{Memory, Storage}
use Rattle.imago_storage.specs.declared.storage.Storage.{Ghosts}
use Rattle.qcow2_image.specs.declared.qcow2.Qcow2.{Qcow2}
use Rattle.qcow2_image.specs.Steps.{failed_by}
use Rattle.qcow2_image.specs.Writing.{MarksFailedOnWrite}

-- A byte of the disk is written where its entry says, otherwise in a cluster that no guest cluster reads.
abbrev pub IsWrittenAt : Bytes → Fields → (p at : ℕ) → Type 0
IsWrittenAt f h p at =
    (writable_location_by h p (mapped f h p) ≡ Some (0, at)) ⊎ ((writable_location_by h p (mapped f h p) ≡ None) × IsHidden f h (at / cluster_size h))

module _ (f : Bytes) (H : Header) (was : IsConsistent f H) where
  abbrev h : Fields
  h = H.fields

  abbrev per_table : ℕ
  per_table = entries_of_cluster h

  -- A write of `n` bytes at `place`, each at the location of its byte of the disk.
  module _ (guest place n : ℕ) (each : (i : ℕ) → i < n → IsWrittenAt f h (guest + i) (place + i))
      (x : Bytes) (out : Outside f x place n) where
    -- No table, block or header is in the cluster of a written byte.
    apart-at : (i : ℕ) → i < n → structure f h (meets h ((place + i) / cluster_size h)) ≡ 0
    apart-at i lt = elim (each i lt) [
      | inl home ↦
          let found = home-of h (guest + i) (place + i) (mapped f h (guest + i)) home in
          let cluster : (place + i) / cluster_size h ≡ found.0 = cluster-there h (place + i) found.0 (guest + i) found.2 in
          ap (λ c. structure f h (meets h c)) cluster ∙ data-apart-from-structure f H was ((guest + i) / cluster_size h) found.0 found.1
      | inr held ↦ held.1.apart
    ]

    -- None is in a cluster between the first and the last one, as each of them has a written byte.
    apart-in : 0 < n → (d : ℕ) → place / cluster_size h ≤ d → d ≤ (place + (n - 1)) / cluster_size h
        → structure f h (meets h d) ≡ 0
    apart-in some d from upto = elim (cases_eq (place / cluster_size h) d) [
      | inl first ↦ ap free (sym first ∙ ap (λ p. p / cluster_size h) (omega arith)) ∙ apart-at 0 some
      | inr later ↦
          let more : place / cluster_size h + 1 ≤ d = omega (arith, later, from) in
          let next : (place / cluster_size h + 1) * cluster_size h ≤ d * cluster_size h = mul-le-mul_right (cluster_size h) more in
          let low : place < place / cluster_size h * cluster_size h + cluster_size h = lt-div-mul-add (pow_pos h.cluster_bits) in
          let last : (place + (n - 1)) / cluster_size h * cluster_size h ≤ place + (n - 1) =
          div-mul-le_self (place + (n - 1)) (cluster_size h) in
          let high : d * cluster_size h ≤ (place + (n - 1)) / cluster_size h * cluster_size h =
          mul-le-mul_right (cluster_size h) upto in
          let begin : place + (d * cluster_size h - place) ≡ d * cluster_size h + 0 = omega (arith, next, low) in
          let is : (place + (d * cluster_size h - place)) / cluster_size h ≡ d =
          ap (λ p. p / cluster_size h) begin ∙ div-mul-add d (cluster_size h) 0 (pow_pos h.cluster_bits) in
          let lt : d * cluster_size h - place < n = omega (arith, next, low, last, high, some) in
          ap free (sym is) ∙ apart-at (d * cluster_size h - place) lt
    ]
      where
        free : ℕ → ℕ
        free c = structure f h (meets h c)

    abbrev first : ℕ
    first = place / cluster_size h

    abbrev more : ℕ
    more = (place + (n - 1)) / cluster_size h - place / cluster_size h

    -- So the clusters of the range have no structure, and contain the range.
    pub written-beside : 0 < n → ((d : ℕ) → first ≤ d → d ≤ first + more → structure f h (meets h d) ≡ 0)
        × (first * cluster_size h ≤ place) × (place + n ≤ (first + more + 1) * cluster_size h)
    written-beside some =
        let last : ℕ = (place + (n - 1)) / cluster_size h in
        let low : first * cluster_size h ≤ place = div-mul-le_self place (cluster_size h) in
        let above : place + (n - 1) < last * cluster_size h + cluster_size h = lt-div-mul-add (pow_pos h.cluster_bits) in
        let order : first ≤ last = le-div first (place + (n - 1)) (cluster_size h) (pow_pos h.cluster_bits) (omega (arith, low)) in
        let end : first + more ≡ last = omega (arith, order) in
        let product : (first + more + 1) * cluster_size h ≡ last * cluster_size h + cluster_size h =
        ap (λ l. (l + 1) * cluster_size h) end ∙ omega arith in
        (λ d from upto. apart-in some d from (omega (arith, upto, end)), low, omega (arith, above, product, some))

    written-run : 0 < n → SameStructureOutside f x h nothing
    written-run some =
        let run = written-beside some in
        (run-written f H was first more run.0 x place n out run.1 run.2).same_structure_outside

    -- If the range is empty, no byte changes.
    all-stay : n ≡ 0 → (p : ℕ) → x p ≡ f p
    all-stay none p = out p (elim (cases_lt p place) [ inl lt ↦ inl lt | inr le ↦ inr (omega (arith, le, none)) ])

    word-stays : n ≡ 0 → (table i : ℕ) → raw_entry x table i ≡ raw_entry f table i
    word-stays none table i = word-same f x table (8 * i + 8) i (λ k _. all-stay none (table + k)) (omega arith)

    written-none : n ≡ 0 → SameStructureOutside f x h nothing
    written-none none = record {
      start = λ _ k lt. all-stay none (0 + k);
      l1 = λ i lt _. word-stays none h.l1_offset i;
      blocks = λ i lt _. word-stays none h.refcount_table_offset i;
      counters = λ i lt there _ k less. all-stay none (block_at f h i + k);
      raw_entries = λ i j live _. word-stays none (l2_table f h i) j;
    }

    -- The write changes no structure of the image.
    pub rewritten-kept : SameStructureOutside f x h nothing
    rewritten-kept = elim (cases_eq n 0) [ inl none ↦ written-none none | inr some ↦ written-run (omega (arith, some)) ]

    -- The image stays consistent.
    pub rewritten-consistent : IsConsistent x H
    rewritten-consistent = untouched-consistent f x H was rewritten-kept

    -- Each guest cluster has the same mapping.
    pub rewritten-entries : (g : ℕ) → entry x h g ≡ entry f h g
    rewritten-entries g =
        let raw_entries : 0 < per_table = some-words h (consistent-shaped f H was) in
        let kept = guest-kept f x h (untouched-keeps f x H was rewritten-kept) raw_entries g in
        entries-same f x h was.readable.tables rewritten-consistent.readable.tables raw_entries g kept

    pub byte-stays : (at : ℕ) → ((i : ℕ) → i < n → at ≡ place + i → ⊥) → x at ≡ f at
    byte-stays at none = elim (cases_lt at place) [
      | inl before ↦ out at (inl before)
      | inr from ↦ elim (cases_lt at (place + n)) [
        | inr behind ↦ out at (inr behind)
        | inl inside ↦ absurd (none (at - place) (omega (arith, from, inside)) (omega (arith, from)))
      ]
    ]

    -- Data of a byte outside the range, or without a location by its entry, stays the same.
    byte-beside : (p d : ℕ) (mark : Bool) → IsOut guest n p ⊎ (writable_location_by h p (mapped f h p) ≡ None) → mapped f h p ≡ data_at d mark
        → x (place_in h d p) ≡ f (place_in h d p)
    byte-beside p d mark beside is = byte-stays (place_in h d p) (λ i lt at. elim (each i lt) [
      | inl home ↦
          let one : guest + i ≡ p = one-place f H was (guest + i) p (place + i) d mark home is (sym at) in
          elim beside [
            | inl off ↦ elim off [ inl low ↦ omega (arith, low, one) | inr high ↦ omega (arith, high, one, lt) ]
            | inr none ↦
                let there : writable_location_by h p (mapped f h p) ≡ Some (0, place + i) = subst (λ q. writable_location_by h q (mapped f h q) ≡ Some (0, place + i)) one home in
                let bad : None ≡ Some (0, place + i) = sym none ∙ there in
                cc
          ]
      | inr held ↦
          let cluster : (place + i) / cluster_size h ≡ d = cluster-there h (place + i) d p (sym at) in
          held.1.dataless (p / cluster_size h) mark (is ∙ ap (λ c. data_at c mark) (sym cluster))
    ])

    -- Such a byte has the same cell.
    pub rewritten-others : (blank : Cell) (p : ℕ) → IsOut guest n p ⊎ (writable_location_by h p (mapped f h p) ≡ None)
        → cell_by blank x h p (mapped x h p) ≡ cell_by blank f h p (mapped f h p)
    rewritten-others blank p beside =
        ap (cell_by blank x h p) (rewritten-entries (p / cluster_size h))
        ∙ by (mapped f h p) (λ d mark is. byte-beside p d mark beside is)
      where
        by : (m : Mapping) → ((d : ℕ) (mark : Bool) → m ≡ data_at d mark → x (place_in h d p) ≡ f (place_in h d p))
            → cell_by blank x h p m ≡ cell_by blank f h p m
        by (data_at d mark) same = ap (λ b. own (byte b)) (same d mark refl)
        by (zeroes cluster copied) same = refl
        by (packed offset length) same = refl
        by unmapped same = refl
        by damaged same = refl

    -- A byte of the range with a location by its entry has the written byte.
    pub rewritten-range : (blank : Cell) (i : ℕ) → writable_location_by h (guest + i) (mapped f h (guest + i)) ≡ Some (0, place + i)
        → cell_by blank x h (guest + i) (mapped x h (guest + i)) ≡ own (byte (x (place + i)))
    rewritten-range blank i home =
        let found = home-of h (guest + i) (place + i) (mapped f h (guest + i)) home in
        ap (cell_by blank x h (guest + i)) (rewritten-entries ((guest + i) / cluster_size h) ∙ found.1)
        ∙ ap (λ p. own (byte (x p))) (sym found.2)

below-same : (n : ℕ) (p q : ℕ → Bool) → ((k : ℕ) → k < n → p k ≡ q k) → all_below n p ≡ all_below n q
unfolding all_below
below-same zero p q same = refl
below-same (suc n) p q same =
    let here : p n ≡ q n = same n (omega arith) in
    let below : all_below n p ≡ all_below n q = below-same n p q (λ k lt. same k (omega arith)) in
    rw (here, below) refl

-- With the same structure, the tables have the same entries.
module _ (f x : Bytes) (h : Fields) (kept : SameStructureOutside f x h nothing) where
  pub kept-l1-words : raw_entries_in x h.l1_offset h.l1_entries ≡ raw_entries_in f h.l1_offset h.l1_entries
  kept-l1-words = words_same x f h.l1_offset h.l1_offset h.l1_entries (λ i lt. kept.l1 i lt (λ e. cc))

  pub kept-l2-words : (i : ℕ) → i < h.l1_entries → l2_table f h i ≢ 0
      → raw_entries_in x (l2_table f h i) (entries_of_cluster h) ≡ raw_entries_in f (l2_table f h i) (entries_of_cluster h)
  kept-l2-words i lt there = words_same x f (l2_table f h i) (l2_table f h i) (entries_of_cluster h)
      (λ j less. kept.raw_entries i j record { in_l1 = lt; is_there = there; in_table = less } (λ e. cc))

  pub kept-l1-sound : l1_table_sound x h ≡ l1_table_sound f h
  unfolding l1_table_sound
  kept-l1-sound = below-same h.l1_entries (sound x) (sound f) (λ i lt. ap (l1_entry_valid h.cluster_bits) (kept.l1 i lt (λ e. cc)))
    where
      sound : Bytes → ℕ → Bool
      sound file i = l1_entry_valid h.cluster_bits (raw_entry file h.l1_offset i)

-- When a failed write to the image file sets the image to failed.
module _ {S : Type 0} (g : Ghosts S) (old new : Qcow2 S g) where
  -- Before the first change, only a storage fault does.
  pub marks-before : (fault : Fault) → new.failed ≡ failed_by fault false → NotBegun (g.state old.tables.file.image) (g.state new.tables.file.image) fault
      → MarksFailedOnWrite g old new fault
  marks-before Memory failed refused = inr (failed, refused.unchanged_but_faults)
  marks-before Storage failed refused = failed
  marks-before fault failed refused = absurd refused.cause

  -- After the first change, each error does.
  pub marks-within : (unit place : ℕ) (bytes : List ℕ) (fault : Fault) → new.failed ≡ true
      → PaddedWriteFailed unit (g.state old.tables.file.image) (g.state new.tables.file.image) place bytes fault → MarksFailedOnWrite g old new fault
  marks-within unit place bytes Memory failed halted = inl (failed, halted.refusals)
  marks-within unit place bytes fault failed halted = failed

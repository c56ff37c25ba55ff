-- Lemmas on where the bytes of the disk are written, by their entries or in the run, and on the prepared mapping after a write.
use Rattle.std.proofs.Common.{refl, arith, ap, sym, subst, ◌∙◌, inl, inr}
use Rattle.std.specs.Prelude.{◌≡◌, ◌⊎◌, ℕ, ◌+◌, ◌-◌, ◌*◌, ◌/◌, ◌%◌, ◌<◌, ◌≤◌, ◌&&◌, ◌||◌, ltb, nat_le, Bool, true, false, Option, Some, None, IsSome, IfSome}
use Rattle.std.proofs.lemmas.Bool.{cases_Bool, cases_lt, and_from, and_parts, or_parts, le-leb, leb-true, lt-ltb, ltb-true}
use Rattle.std.proofs.lemmas.Nat.{div-add-mod'}
use Rattle.imago_storage.specs.Disk.{byte}
use Rattle.imago_storage.specs.Steps.{IsOut}
use Rattle.imago_storage.specs.declared.storage.Storage.{Ghosts}
use Rattle.imago_access.specs.Changes.{TakesByte}
use Rattle.imago_access.specs.Layer.{Cell, own, inside}
use Rattle.qcow2_types.specs.Bytes.{Bytes}
use Rattle.qcow2_types.specs.Consistency.{IsConsistent}
use Rattle.qcow2_types.specs.Entries.{entry}
use Rattle.qcow2_types.specs.Frames.{Outside}
use Rattle.qcow2_types.specs.Header.{Fields, cluster_size}
use Rattle.qcow2_types.specs.Words.{data_at}
use Rattle.qcow2_types.proofs.Changes.DataSteps.{untouched-keeps}
use Rattle.qcow2_alloc.specs.GuestView.{Metadata, IsSound}
use Rattle.qcow2_steps.specs.Data.{IsHidden, KeepsEntries, WritesBeside}
use Rattle.qcow2_steps.proofs.DataRuns.{beside-reserved, beside-words}
use Rattle.qcow2_image.specs.HeldHomes.{clusters-from, clusters-of, held-at, own-hidden, run-from, run-guest}
use Rattle.qcow2_image.specs.Holding.{PreparedMappingRun, IsHeld, IsOwnAs, IsUncopied, Notes, mapping_id_held, copied_to, held_writable_location, held_of, held_place, writable_location_or, writable_locations_with, in_clusters, in_run, written_to}
use Rattle.qcow2_image.specs.Homes.{cluster-there, home-of, home-there, mapped, memory_is, within-there}
use Rattle.qcow2_image.specs.ImageLayer.{writable_location_by, writable_locations}
use Rattle.qcow2_image.specs.Rooms.{HoldsIn, IsWellFormed, rest_of}
use Rattle.qcow2_image.specs.Seen.{file_of, writable_locations_of, layer_of, memory_of}
use Rattle.qcow2_image.specs.Unspent.{holding_in}
use Rattle.qcow2_image.specs.declared.qcow2.Qcow2.{Qcow2}
use Rattle.qcow2_image.specs.declared.unspent.Unspent.{Unspent}
use Rattle.qcow2_image.proofs.DiskEffects.{safe-sound}
use Rattle.qcow2_image.proofs.WritesInPlace.{IsWrittenAt, byte-stays, rewritten-entries, rewritten-kept, written-beside}

-- The byte `p` of the disk is in the run, at the offset `at` of the file.
pub record IsOfRun (h : Fields) (hold : PreparedMappingRun) (p at : ℕ) : Type 0 where
  pub inside : in_run hold p ≡ true
  pub guest : (hold.guest ≤ p / cluster_size h) × (p / cluster_size h < hold.guest + hold.count)
  pub there : at ≡ held_place h hold p

abbrev pub IsInRun : Fields → Option PreparedMappingRun → (p at : ℕ) → Type 0
IsInRun h None p at = ⊥
IsInRun h (Some hold) p at = IsOfRun h hold p at

-- The byte is written where its entry says, otherwise in the run.
abbrev pub IsWrittenIn : Bytes → Fields → Option PreparedMappingRun → (p at : ℕ) → Type 0
IsWrittenIn f h hold p at = (writable_location_by h p (mapped f h p) ≡ Some (0, at)) ⊎ ((writable_location_by h p (mapped f h p) ≡ None) × IsInRun h hold p at)

-- No guest cluster reads the host clusters of the mapping.
abbrev pub IsUnshown : Bytes → Fields → Option PreparedMappingRun → Type 0
IsUnshown f h hold = IfSome hold (λ x. (d : ℕ) → d < x.count → IsHidden f h (x.host + d))

-- So a byte is written in a data cluster with the COPIED flag, or in a cluster that no guest cluster reads.
pub written-at : (f : Bytes) (h : Fields) (hold : Option PreparedMappingRun) (p at : ℕ) → IsUnshown f h hold → IsWrittenIn f h hold p at → IsWrittenAt f h p at
written-at f h hold p at unshown (inl home) = inl home
written-at f h None p at unshown (inr run) = absurd run.1
written-at f h (Some hold) p at unshown (inr run) =
    let d : ℕ = p / cluster_size h - hold.guest in
    let there : at / cluster_size h ≡ hold.host + d = cluster-there h at (hold.host + d) p run.1.there in
    inr (run.0, subst (IsHidden f h) (sym there) (unshown d (omega (arith, run.1.guest.0, run.1.guest.1))))

-- A location in the run belongs to a byte of the run.
held-there : (hold : PreparedMappingRun) (p at : ℕ) → held_writable_location hold p ≡ Some (0, at) → (in_run hold p ≡ true) × (at ≡ hold.place + (p - hold.offset))
held-there hold p at is = elim (cases_Bool (in_run hold p)) [
  | inl so ↦
      let there : Some (0, hold.place + (p - hold.offset)) ≡ Some (0, at) = rw so at is in
      let both : ◌≡◌ {A = ℕ × ℕ} (0, hold.place + (p - hold.offset)) (0, at) = cc there in
      (so, sym (ap (λ (x : ℕ × ℕ). x.1) both))
  | inr off ↦ let none : None ≡ Some (0, at) = rw off at is in absurd (cc none)
]

-- The byte has no location by its entry, though the image is writable.
no-word : (m : Bytes) (h : Fields) (p : ℕ) → p < h.size → writable_locations true m h p ≡ None → writable_location_by h p (mapped m h p) ≡ None
no-word m h p lt none = rw (lt-ltb p h.size lt) at none

-- Each location of a layer is of this form.
module _ {S : Type 0} (g : Ghosts S) (d : Qcow2 S g) (well_formed : IsWellFormed g d) where
  abbrev h : Fields
  h = d.tables.file.header.fields

  some-unspent : (u : Option (Unspent S g)) (hold : PreparedMappingRun) → holding_in g u ≡ Some hold → IsSome u
  some-unspent None hold is = absurd (cc is)
  some-unspent (Some u) hold is = refl

  by-word : (p at : ℕ) → writable_locations_of g d p ≡ Some (0, at) → (p < h.size) × (writable_location_by h p (mapped (file_of g d.tables) h p) ≡ Some (0, at))
  by-word p at is =
      let there = home-there d.mode.writable (memory_of g d.tables) h p (0, at) is in
      (there.1, subst (λ m. writable_location_by h p (mapped m h p) ≡ Some (0, at)) (memory_is g d.tables) there.2)

  in-held : (hold : PreparedMappingRun) → holding_in g d.unspent ≡ Some hold → HoldsIn g d.tables hold → (p at : ℕ) → writable_locations_of g d p ≡ None
      → held_writable_location hold p ≡ Some (0, at) → (p < h.size) × IsWrittenIn (file_of g d.tables) h (Some hold) p at
  in-held hold is holds p at none home =
      let here = held-there hold p at home in
      let run = run-from hold p here.0 in
      let lt : p < h.size = let on = holds.held.on_disk in omega (arith, run.1, on) in
      let writable : d.mode.writable ≡ true = well_formed.writable (some-unspent d.unspent hold is) in
      let raw_entry : writable_location_by h p (mapped (memory_of g d.tables) h p) ≡ None =
      no-word (memory_of g d.tables) h p lt (subst (λ w. writable_locations w (memory_of g d.tables) h p ≡ None) writable none) in (
        lt,
        inr (
          subst (λ m. writable_location_by h p (mapped m h p) ≡ None) (memory_is g d.tables) raw_entry,
          record {
            inside = here.0;
            guest = run-guest (rest_of g d.tables holds.space) hold holds.held p here.0;
            there = here.1 ∙ held-at (rest_of g d.tables holds.space) hold holds.held p here.0;
          },
        ),
      )

  pub written-in : (p at : ℕ) → (layer_of g d).writable_location p ≡ Some (0, at)
      → (p < h.size) × IsWrittenIn (file_of g d.tables) h (holding_in g d.unspent) p at
  written-in p at home = from (holding_in g d.unspent) refl well_formed.held home where
    raw_entry : (hold : Option PreparedMappingRun) → writable_locations_of g d p ≡ Some (0, at) → (p < h.size) × IsWrittenIn (file_of g d.tables) h hold p at
    raw_entry hold is = let there = by-word p at is in (there.0, inl there.1)

    either : (hold : PreparedMappingRun) → holding_in g d.unspent ≡ Some hold → HoldsIn g d.tables hold → (a : Option (ℕ × ℕ)) → writable_locations_of g d p ≡ a
        → writable_location_or a (held_writable_location hold p) ≡ Some (0, at) → (p < h.size) × IsWrittenIn (file_of g d.tables) h (Some hold) p at
    either hold is holds (Some a) one home = raw_entry (Some hold) (one ∙ home)
    either hold is holds None one home = in-held hold is holds p at one home

    from : (hold : Option PreparedMappingRun) → holding_in g d.unspent ≡ hold → IfSome hold (HoldsIn g d.tables) → writable_locations_with hold (writable_locations_of g d) p ≡ Some (0, at)
        → (p < h.size) × IsWrittenIn (file_of g d.tables) h hold p at
    from None is holds home = raw_entry None home
    from (Some hold) is holds home = either hold is holds (writable_locations_of g d p) refl home

  pub unshown-in : IsUnshown (file_of g d.tables) h (holding_in g d.unspent)
  unshown-in = from (holding_in g d.unspent) well_formed.held where
    from : (hold : Option PreparedMappingRun) → IfSome hold (HoldsIn g d.tables) → IsUnshown (file_of g d.tables) h hold
    from None holds = tt
    from (Some hold) holds = λ i less. own-hidden hold.is_kept (rest_of g d.tables holds.space) (hold.guest + i) (hold.host + i)
        (safe-sound g d holds.space holds.space_known well_formed) (holds.held.own i less)

-- A note of a write doesn't change the locations.
pub noted-homes : (at n : ℕ) (old new : Option PreparedMappingRun) → Notes at n old new → (home : ℕ → Option (ℕ × ℕ)) → writable_locations_with new home ≡ writable_locations_with old home
noted-homes at n None new notes home = ap (λ o. writable_locations_with o home) notes
noted-homes at n (Some hold) new notes home =
    ap (λ o. writable_locations_with o home) notes.1 ∙ (λ i p. writable_location_or (home p) (held_writable_location hold p))

-- A note of a write doesn't change the ID of the mapping.
pub noted-claim : (at n : ℕ) (old new : Option PreparedMappingRun) → Notes at n old new → mapping_id_held new ≡ mapping_id_held old
noted-claim at n None new notes = ap mapping_id_held notes
noted-claim at n (Some hold) new notes = ap mapping_id_held notes.1

same-parts : (a b d : ℕ) → a / d ≡ b / d → a % d ≡ b % d → a ≡ b
same-parts a b d rows columns =
    let product : a / d * d ≡ b / d * d = ap (λ x. x * d) rows in
    omega (arith, product, columns, div-add-mod' a d, div-add-mod' b d)

-- Ranges of bytes, as `in_run` tests them.
pub in-range : (at n p : ℕ) → (nat_le at p && ltb p (at + n)) ≡ true → (at ≤ p) × (p < at + n)
in-range at n p is = let both = and_parts (nat_le at p) (ltb p (at + n)) is in (leb-true at p both.0, ltb-true p (at + n) both.1)

pub range-in : (at n i : ℕ) → i < n → (nat_le at (at + i) && ltb (at + i) (at + n)) ≡ true
range-in at n i lt = and_from (nat_le at (at + i)) (ltb (at + i) (at + n)) (le-leb at (at + i) (omega arith)) (lt-ltb (at + i) (at + n) (omega (arith, lt)))

out-range : (at n p : ℕ) → IsOut at n p → (nat_le at p && ltb p (at + n)) ≡ false
out-range at n p out = elim (cases_Bool (nat_le at p && ltb p (at + n))) [
  | inr off ↦ off
  | inl so ↦ let both = in-range at n p so in absurd (elim out [ inl low ↦ omega (arith, low, both.0) | inr high ↦ omega (arith, high, both.1) ])
]

off-range : (at n p : ℕ) → (nat_le at p && ltb p (at + n)) ≡ false → IsOut at n p
off-range at n p off = elim (cases_lt p at) [
  | inl low ↦ inl low
  | inr from ↦ elim (cases_lt p (at + n)) [
    | inr high ↦ inr high
    | inl lt ↦
        let i : ℕ = p - at in
        let so : (nat_le at p && ltb p (at + n)) ≡ true =
        subst (λ q. (nat_le at q && ltb q (at + n)) ≡ true) (omega (arith, from)) (range-in at n i (omega (arith, from, lt))) in
        let bad : true ≡ false = sym so ∙ off in
        absurd cc
  ]
]

-- A consistent image with a prepared mapping, a range of its disk with its location in the file, and a file that was written there.
module _ (m : Metadata) (sound : IsSound m) (hold : PreparedMappingRun) (held : IsHeld m hold) (guest place n : ℕ)
    (each : (i : ℕ) → i < n → IsWrittenIn m.file m.header.fields (Some hold) (guest + i) (place + i))
    (x : Bytes) (out : Outside m.file x place n) where
  abbrev fields : Fields
  fields = m.header.fields

  was : IsConsistent m.file m.header
  was = sound.well_formed.consistent

  unshown : (d : ℕ) → d < hold.count → IsHidden m.file fields (hold.host + d)
  unshown d less = own-hidden hold.is_kept m (hold.guest + d) (hold.host + d) sound (held.own d less)

  each-at : (i : ℕ) → i < n → IsWrittenAt m.file fields (guest + i) (place + i)
  each-at i lt = written-at m.file fields (Some hold) (guest + i) (place + i) unshown (each i lt)

  -- The run is in the guest clusters of the mapping.
  run-cluster : (p : ℕ) → in_run hold p ≡ true → in_clusters fields hold p ≡ true
  run-cluster p is =
      let run = run-from hold p is in
      let on = held.on_disk in
      clusters-of fields hold p (run-guest m hold held p is) (omega (arith, run.1, on))

  -- No entry gives a location for a byte of these guest clusters.
  no-home : (p at : ℕ) → in_clusters fields hold p ≡ true → writable_location_by fields p (mapped m.file fields p) ≡ Some (0, at) → ⊥
  no-home p at is home =
      let found = home-of fields p at (mapped m.file fields p) home in
      let guest = (clusters-from fields hold p is).0 in
      let d : ℕ = p / cluster_size fields - hold.guest in
      let same : p / cluster_size fields ≡ hold.guest + d = omega (arith, guest.0) in
      let raw_entry : entry m.file fields (hold.guest + d) ≡ data_at found.0 true = subst (λ g. entry m.file fields g ≡ data_at found.0 true) same found.1 in
      subst IsUncopied raw_entry (held.uncopied d (omega (arith, guest.0, guest.1)))

  -- So only writes in the run change the bytes of the mapping.
  byte-kept : (p : ℕ) → in_clusters fields hold p ≡ true → IsOut guest n p → x (held_place fields hold p) ≡ m.file (held_place fields hold p)
  byte-kept p is beside = byte-stays m.file m.header was guest place n each-at x out (held_place fields hold p) (λ i lt at. elim (each i lt) [
    | inl home ↦
        let found = home-of fields (guest + i) (place + i) (mapped m.file fields (guest + i)) home in
        let one : (place + i) / cluster_size fields ≡ found.0 = cluster-there fields (place + i) found.0 (guest + i) found.2 in
        let d : ℕ = p / cluster_size fields - hold.guest in
        let here = (clusters-from fields hold p is).0 in
        let two : (place + i) / cluster_size fields ≡ hold.host + d = cluster-there fields (place + i) (hold.host + d) p (sym at) in
        (unshown d (omega (arith, here.0, here.1))).dataless ((guest + i) / cluster_size fields) true (found.1 ∙ ap (λ d. data_at d true) (sym one ∙ two))
    | inr run ↦
        let d : ℕ = p / cluster_size fields - hold.guest in
        let e : ℕ = (guest + i) / cluster_size fields - hold.guest in
        let own = (clusters-from fields hold p is).0 in
        let one-row : (place + i) / cluster_size fields ≡ hold.host + e = cluster-there fields (place + i) (hold.host + e) (guest + i) run.1.there in
        let row : (place + i) / cluster_size fields ≡ hold.host + d = cluster-there fields (place + i) (hold.host + d) p (sym at) in
        let rows : (guest + i) / cluster_size fields ≡ p / cluster_size fields = omega (arith, one-row, row, own.0, run.1.guest.0) in
        let here : (place + i) % cluster_size fields ≡ (guest + i) % cluster_size fields = within-there fields (place + i) (hold.host + e) (guest + i) run.1.there in
        let there : (place + i) % cluster_size fields ≡ p % cluster_size fields = within-there fields (place + i) (hold.host + d) p (sym at) in
        let one : guest + i ≡ p = same-parts (guest + i) p (cluster_size fields) rows (sym here ∙ there) in
        elim beside [ inl low ↦ omega (arith, low, one) | inr high ↦ omega (arith, high, one, lt) ]
  ])

  -- A byte of the range that is in these guest clusters is in the run.
  cluster-run : (i : ℕ) → i < n → in_clusters fields hold (guest + i) ≡ true → in_run hold (guest + i) ≡ true
  cluster-run i lt is = elim (each i lt) [ inl home ↦ absurd (no-home (guest + i) (place + i) is home) | inr run ↦ run.1.inside ]

  -- The write is noted in the mapping.
  module _ (written : ℕ → Bool) (notes : (p : ℕ) → written p ≡ ((nat_le guest p && ltb p (guest + n)) || hold.written p)) where
    abbrev now : PreparedMappingRun
    now = record hold { written = written }

    written-out : (p : ℕ) → IsOut guest n p → written p ≡ hold.written p
    written-out p beside = notes p ∙ ap (λ b. b || hold.written p) (out-range guest n p beside)

    written-on : (i : ℕ) → i < n → written (guest + i) ≡ true
    written-on i lt = notes (guest + i) ∙ ap (λ b. b || hold.written (guest + i)) (range-in guest n i lt)

    -- The state of a byte outside the range is the same.
    pub held-beside : (p : ℕ) → IsOut guest n p → held_of fields x now p ≡ held_of fields m.file hold p
    held-beside p beside = elim (cases_Bool (in_clusters fields hold p)) [
      | inr off ↦ rw off refl
      | inl so ↦ elim (cases_Bool (in_run hold p)) [
        | inr off ↦ rw (so, off) refl
        | inl run ↦
            let same : written_to fields x now p ≡ written_to fields m.file hold p = rw (written-out p beside, byte-kept p so beside) refl in
            rw (so, run) (ap (λ o. inside (copied_to fields hold p) o hold.overwrite) same)
      ]
    ]

    -- A byte of the range takes the written byte, or the mapping notes it.
    pub held-range : (i b : ℕ) (old new : Cell) → i < n → x (place + i) ≡ b
        → (writable_location_by fields (guest + i) (mapped m.file fields (guest + i)) ≡ Some (0, place + i) → new ≡ own (byte b))
        → (writable_location_by fields (guest + i) (mapped m.file fields (guest + i)) ≡ None → new ≡ old)
        → TakesByte b (held_of fields m.file hold (guest + i)) old (held_of fields x now (guest + i)) new
    held-range i b old new lt is by-word by-run = elim (each i lt) [
      | inl home ↦ elim (cases_Bool (in_clusters fields hold (guest + i))) [
        | inl so ↦ absurd (no-home (guest + i) (place + i) so home)
        | inr off ↦ rw off (by-word home, refl)
      ]
      | inr run ↦
          let p : ℕ = guest + i in
          let so = run-cluster (guest + i) run.1.inside in
          let there : x (held_place fields hold (guest + i)) ≡ b = ap x (sym run.1.there) ∙ is in
          let noted : written_to fields x now (guest + i) ≡ Some b = rw (written-on i lt, there) refl in
          rw (so, run.1.inside) (by-run run.0, ap (λ o. inside (copied_to fields hold (guest + i)) o hold.overwrite) noted)
    ]

    -- So the mapping is still held.
    pub held-still : 0 < n → IsHeld (record m { file = x }) now
    held-still some =
        let run = written-beside m.file m.header was guest place n each-at x out some in
        let writes : WritesBeside m (place / cluster_size fields) ((place + (n - 1)) / cluster_size fields - place / cluster_size fields) place n x =
        record { apart = run.0; low = run.1; high = run.2; outside = out } in
        let raw_entries = beside-words m sound (place / cluster_size fields) ((place + (n - 1)) / cluster_size fields - place / cluster_size fields) place n x writes in
        record {
          any = held.any;
          row = held.row;
          in_table = λ d less. record {
            inside = (held.in_table d less).inside;
            table_linked = (untouched-keeps m.file x m.header was (rewritten-kept m.file m.header was guest place n each-at x out)).places.l1 _
                ∙ (held.in_table d less).table_linked;
            table_nonzero = (held.in_table d less).table_nonzero;
          };
          own = λ d less. own-still raw_entries hold.is_kept (hold.guest + d) (hold.host + d) (held.own d less);
          uncopied = λ d less. subst IsUncopied (sym (rewritten-entries m.file m.header was guest place n each-at x out (hold.guest + d)))
              (held.uncopied d less);
          host_nonzero = held.host_nonzero;
          reach = held.reach;
          placed = held.placed;
          long = held.long;
          first = held.first;
          last = held.last;
          on_disk = held.on_disk;
          unwritten_is_copied = λ p is none.
              let both = or_parts (nat_le guest p && ltb p (guest + n)) (hold.written p) (sym (notes p) ∙ none) in
              byte-kept p is (off-range guest n p both.0) ∙ held.unwritten_is_copied p is both.1;
          beside = λ p is off. notes p ∙ beside-off p is off;
        }
      where
        own-still : KeepsEntries m x → (is_kept : Bool) (g h : ℕ) → IsOwnAs is_kept m g h → IsOwnAs is_kept (record m { file = x }) g h
        own-still raw_entries true g h mine = record { file = raw_entries.file_entries g ∙ mine.file; memory = raw_entries.memory_entries g ∙ mine.memory }
        own-still raw_entries false g h mine = beside-reserved m x raw_entries h mine

        beside-off : (p : ℕ) → in_clusters fields hold p ≡ true → in_run hold p ≡ false → ((nat_le guest p && ltb p (guest + n)) || hold.written p) ≡ false
        beside-off p is off = elim (cases_Bool (nat_le guest p && ltb p (guest + n))) [
          | inr away ↦ rw away (held.beside p is off)
          | inl so ↦
              let both = in-range guest n p so in
              let one : guest + (p - guest) ≡ p = omega (arith, both.0) in
              let run : in_run hold p ≡ true = subst (λ q. in_run hold q ≡ true) one
              (cluster-run (p - guest) (omega (arith, both.0, both.1)) (subst (λ q. in_clusters fields hold q ≡ true) (sym one) is)) in
              let bad : true ≡ false = sym run ∙ off in
              absurd cc
        ]

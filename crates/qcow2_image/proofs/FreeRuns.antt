-- Lemmas on runs of free clusters: what calls leave of them, and when none is long enough.
use Rattle.std.proofs.Common.{◌≡◌, ℕ, ◌+◌, ◌-◌, ◌*◌, ◌/◌, ◌^◌, ◌<◌, ◌≤◌, refl, arith, ap, sym, subst, ◌∙◌, inl, inr, length, Option, Some, false}
use Rattle.std.proofs.Math.Nat.{div-mul-le_self, lt-div-mul-add, mul-le-mul_right}
use Rattle.std.proofs.Math.Pow.{pow_mono}
use Rattle.std.proofs.lemmas.Bool.{cases_lt, le-ltb}
use Rattle.std.proofs.lemmas.Nat.{le-div, pow_pos}
use Rattle.std.specs.Prelude.{◌⊎◌, max, min, slice_index}
use Rattle.imago_storage.specs.declared.storage.Storage.{Ghosts}
use Rattle.qcow2_types.specs.Bytes.{Bytes, raw_entry}
use Rattle.qcow2_types.specs.Counts.{count, counters_of_block}
use Rattle.qcow2_types.specs.Entries.{l2_table}
use Rattle.qcow2_types.specs.Header.{Fields, Header, cluster_size, entries_of_cluster}
use Rattle.qcow2_types.specs.Words.{is_copied, max_offset, table_offset}
use Rattle.qcow2_types.proofs.Counting.Consistent.{consistent-shaped}
use Rattle.qcow2_types.proofs.Fields.HeaderLimits.{header-limited, least-cluster}
use Rattle.qcow2_alloc.specs.Allocators.{first_free_of}
use Rattle.qcow2_metadata.specs.Tables.{TableValue}
use Rattle.qcow2_alloc.specs.Crowding.{room_for, space}
use Rattle.qcow2_alloc.specs.Opening.{IsL1Of}
use Rattle.qcow2_alloc.specs.GuestView.{counted}
use Rattle.qcow2_alloc.proofs.Causes.{Implies}
use Rattle.qcow2_alloc.proofs.Space.SizesOfSpace.{counters-wide}
use Rattle.qcow2_clusters.specs.Lengthening.{clusters_for, l1_clusters}
use Rattle.qcow2_clusters.specs.Room.{HasFree, HasFreeClusters, LeavesRoom}
use Rattle.qcow2_clusters.specs.Room as room
use Rattle.qcow2_clusters.specs.declared.space.Space.{Space}
use Rattle.qcow2_clusters.proofs.TableNames.{resting-memory}
use Rattle.qcow2_image.specs.Allocating.{allocation_causes}
use Rattle.qcow2_image.specs.FreeSpace.{HasFreeRun, IsForCluster, LacksFreeRun, LacksTable, LeavesFree, enough_for_one, enough_for_run, enough_for_table}
use Rattle.qcow2_image.specs.Rooms.{AreCountedBefore, IsWellFormed, rest_of, searched_from}
use Rattle.qcow2_image.specs.Seen.{file_of}
use Rattle.qcow2_image.specs.declared.qcow2.Qcow2.{Qcow2}
use Rattle.qcow2_image.specs.declared.tables.Tables.{Tables}
use Rattle.qcow2_image.proofs.FileWords.{place-in-file, top-long, top-word}

pub some-enough : {S : Type 0} {g : Ghosts S} (t : Tables S g) → 0 < enough_for_one t
some-enough t = omega arith

-- The L1 entry references no L2 table, or one that may be shared.
abbrev LacksOwn : ℕ → Type 0
LacksOwn w = (table_offset w ≡ 0) ⊎ (is_copied w ≡ false)

-- The L1 table in memory is the file's.
module _ (f : Bytes) (h : Fields) (top : TableValue) (of : IsL1Of f h top) (i : ℕ) where
  wordless : h.l1_entries ≤ i → l2_table f h i ≡ 0
  wordless behind = rw (le-ltb i h.l1_entries behind) refl

  -- The same holds for the entry of the file.
  pub lacks-in-file : LacksOwn (slice_index top.raw_entries i) → (l2_table f h i ≡ 0) ⊎ (is_copied (raw_entry f h.l1_offset i) ≡ false)
  lacks-in-file (inl none) = inl (place-in-file f h top of i ∙ none)
  lacks-in-file (inr shared) = elim (cases_lt i h.l1_entries) [
    | inl inside ↦ inr (ap is_copied (sym (top-word f h top of i inside)) ∙ shared)
    | inr behind ↦ inl (wordless behind)
  ]

  lacks-in-memory : (l2_table f h i ≡ 0) ⊎ (is_copied (raw_entry f h.l1_offset i) ≡ false) → LacksOwn (slice_index top.raw_entries i)
  lacks-in-memory (inl none) = inl (sym (place-in-file f h top of i) ∙ none)
  lacks-in-memory (inr shared) = elim (cases_lt i h.l1_entries) [
    | inl inside ↦ inr (ap is_copied (top-word f h top of i inside) ∙ shared)
    | inr behind ↦ inl (sym (place-in-file f h top of i) ∙ wordless behind)
  ]

module _ {S : Type 0} (g : Ghosts S) where
  -- With the same L1 entries, the same L2 tables are missing.
  pub lacks-as-words : (guest : ℕ) (old mid : Tables S g) → IsL1Of (file_of g old) old.file.header.fields old.l1
      → IsL1Of (file_of g mid) mid.file.header.fields mid.l1
      → guest / entries_of_cluster mid.file.header.fields ≡ guest / entries_of_cluster old.file.header.fields
      → ((k : ℕ) → slice_index mid.l1.raw_entries k ≡ slice_index old.l1.raw_entries k) → LacksTable g guest mid → LacksTable g guest old
  lacks-as-words guest old mid of of' row raw_entries lacks =
      let is : ℕ = guest / entries_of_cluster mid.file.header.fields in
      let was : ℕ = guest / entries_of_cluster old.file.header.fields in
      lacks-in-file (file_of g old) old.file.header.fields old.l1 of was
      (subst (λ k. LacksOwn (slice_index old.l1.raw_entries k)) row
      (subst LacksOwn (raw_entries is) (lacks-in-memory (file_of g mid) mid.file.header.fields mid.l1 of' is lacks)))

  -- With the same file and header, the same L2 tables are missing.
  pub lacks-as-file : (guest : ℕ) (old mid : Tables S g) → file_of g mid ≡ file_of g old → mid.file.header ≡ old.file.header
      → LacksTable g guest mid → LacksTable g guest old
  lacks-as-file guest old mid file header lacks =
      subst (λ (H : Header). LacksBy (file_of g old) H) header (subst (λ (f : Bytes). LacksBy f mid.file.header) file lacks) where
        LacksBy : Bytes → Header → Type 0
        LacksBy f H = let i = guest / entries_of_cluster H.fields in
            (l2_table f H.fields i ≡ 0) ⊎ (is_copied (raw_entry f H.fields.l1_offset i) ≡ false)

  -- So the same allocations are needed for a guest cluster.
  pub asked-as : (guest asked : ℕ) (kept : Option ℕ) (old mid : Tables S g) → mid.file.header ≡ old.file.header
      → (LacksTable g guest mid → LacksTable g guest old) → IsForCluster g guest kept mid asked → IsForCluster g guest kept old asked
  asked-as guest asked kept old mid header told (inl (inl raw_entry)) = inl (inl (subst (λ (H : Header).
      let i = guest / entries_of_cluster H.fields in (H.fields.l1_entries ≤ i) × (asked ≡ clusters_for H.fields (i + 1))) header raw_entry))
  asked-as guest asked kept old mid header told (inl (inr table)) = inl (inr (told table.0, table.1))
  asked-as guest asked kept old mid header told (inr none) = inr none

  pub run-fewer : (t : Tables S g) (few many : ℕ) → few ≤ many → HasFreeRun g t many → HasFreeRun g t few
  run-fewer t few many le run = record {
    first = run.first;
    not_before_start = run.not_before_start;
    below = let below = run.below in omega (arith, below, le);
    free = λ c from to. run.free c from (omega (arith, to, le));
  }

  -- With the same refcounts, the same runs are free.
  pub run-same : (t t' : Tables S g) (total : ℕ) → file_of g t' ≡ file_of g t → t'.file.header ≡ t.file.header → HasFreeRun g t total
      → HasFreeRun g t' total
  run-same t t' total file header run =
      subst (λ (f : Bytes). HasFree (count f t'.file.header.fields) 0 (space t'.file.header.fields) total) (sym file)
      (subst (λ (H : Header). HasFree (count (file_of g t) H.fields) 0 (space H.fields) total) (sym header) run)

  -- A flushed image with its free space.
  module _ (t : Tables S g) (free : Space) (there : t.space ≡ Some free) where
    counts-at-rest : (c : ℕ) → counted (rest_of g t free) c ≡ count (file_of g t) t.file.header.fields c
    counts-at-rest c = ap (λ (f : Bytes). count f t.file.header.fields c) (resting-memory (rest_of g t free) refl)

    -- A free run of the file is one after the first-free hint.
    pub run-in-rest : AreCountedBefore g t → (total : ℕ) → 0 < total → HasFreeRun g t total
        → HasFreeClusters (rest_of g t free) (first_free_of free.allocator) total
    run-in-rest counted total some run = record {
      first = run.first;
      not_before_start = elim (cases_lt run.first (first_free_of free.allocator)) [
        | inl before ↦
            let none = run.free run.first (omega arith) (omega (arith, some)) in
            let taken = counted run.first (subst (λ o. run.first < searched_from o) (sym there) before) in
            absurd (omega (arith, none, taken))
        | inr behind ↦ behind
      ];
      below = run.below;
      free = λ c from to. counts-at-rest c ∙ run.free c from to;
    }

    pub rest-in-run : (total : ℕ) → HasFreeClusters (rest_of g t free) (first_free_of free.allocator) total → HasFreeRun g t total
    rest-in-run total run = record {
      first = run.first;
      not_before_start = omega arith;
      below = run.below;
      free = λ c from to. sym (counts-at-rest c) ∙ run.free c from to;
    }

  -- The statement on free space of a change of clusters holds for the image.
  module _ (old new : Tables S g) (free free' : Space) (there : old.space ≡ Some free) (there' : new.space ≡ Some free')
      (counted : AreCountedBefore g old) where
    pub leaves-in-run : (taken : ℕ)
        → LeavesRoom taken (rest_of g old free) (first_free_of free.allocator) (rest_of g new free') (first_free_of free'.allocator) → LeavesFree g taken old new
    leaves-in-run taken leaves = record {
      as_large = leaves.as_large;
      left = λ total some run. rest-in-run new free' there' total (leaves.left total some
          (run-in-rest old free there counted (taken + total) (omega (arith, some)) run));
    }

    pub full-in-run : (n number : ℕ) → 0 < n
        → room.IsFull n (rest_of g old free) (first_free_of free.allocator) (rest_of g new free') (first_free_of free'.allocator) number
        → LacksFreeRun g n (room_for old.file.header.fields n) old new number
    full-in-run n number some full = record {
      crowded = λ run.
          let there = run-in-rest old free there counted (room_for old.file.header.fields n) (omega (arith, some)) run in
          full.crowded record {
            first = there.first;
            total = room_for old.file.header.fields n;
            not_before_start = there.not_before_start;
            below = there.below;
            free = there.free;
            enough = omega arith;
          };
      free = free';
      space_known = there';
      told = full.told;
    }

  -- Calls that leave free runs leave them together.
  pub leaves-none : (t : Tables S g) → LeavesFree g 0 t t
  leaves-none t = record { as_large = refl; left = λ total some run. run-fewer t total (0 + total) (omega arith) run }

  pub leaves-more : (few many : ℕ) (old new : Tables S g) → few ≤ many → LeavesFree g few old new → LeavesFree g many old new
  leaves-more few many old new le leaves = record {
    as_large = leaves.as_large;
    left = λ total some run. leaves.left total some (run-fewer old (few + total) (many + total) (omega (arith, le)) run);
  }

  pub leaves-then : (taken more : ℕ) (old mid new : Tables S g) → LeavesFree g taken old mid → LeavesFree g more mid new → LeavesFree g (taken + more) old new
  leaves-then taken more old mid new first second = record {
    as_large = second.as_large ∙ first.as_large;
    left = λ total some run. second.left total some
        (first.left (more + total) (omega (arith, some)) (run-fewer old (taken + (more + total)) (taken + more + total) (omega arith) run));
  }

  -- If the second call finds no run, there was none before the first that suffices for both.
  pub full-behind : (asked taken enough number : ℕ) (old mid new : Tables S g) → 0 < enough → LeavesFree g taken old mid
      → LacksFreeRun g asked enough mid new number → LacksFreeRun g asked (taken + enough) old new number
  full-behind asked taken enough number old mid new some leaves full = record {
    crowded = λ run. full.crowded (leaves.left enough some run);
    free = full.free;
    space_known = full.space_known;
    told = full.told;
  }

  pub full-more : (asked few many number : ℕ) (old new : Tables S g) → few ≤ many
      → LacksFreeRun g asked few old new number → LacksFreeRun g asked many old new number
  full-more asked few many number old new le full = record {
    crowded = λ run. full.crowded (run-fewer old few many le run);
    free = full.free;
    space_known = full.space_known;
    told = full.told;
  }

  pub full-since : (asked enough number : ℕ) (old mid new : Tables S g) → (HasFreeRun g old enough → HasFreeRun g mid enough)
      → LacksFreeRun g asked enough mid new number → LacksFreeRun g asked enough old new number
  full-since asked enough number old mid new from full = record {
    crowded = λ run. full.crowded (from run);
    free = full.free;
    space_known = full.space_known;
    told = full.told;
  }

  pub full-implies : {full full' : ℕ → Type 0} (old new : Qcow2 S g) → ((number : ℕ) → IsWellFormed g old → full number → full' number)
      → Implies (allocation_causes g full old new) (allocation_causes g full' old new)
  full-implies old new told = record { before = omega arith; after = omega arith; damaged = λ wrong. wrong; counter = λ wrong. wrong; full = absurd; limit = λ number at well_formed. told number well_formed (at well_formed) }

  -- The L1 table of a well-formed image has at most 2^22 entries.
  pub safe-few : (d : Qcow2 S g) → IsWellFormed g d → d.tables.file.header.fields.l1_entries ≤ 2 ^ 22
  safe-few d well_formed = (header-limited false (file_of g d.tables) d.tables.file.header well_formed.seen.loads).l1_entries

  pub safe-short : (d : Qcow2 S g) (i : ℕ) → IsWellFormed g d → i < d.tables.file.header.fields.l1_entries → i + 1 ≤ 2 ^ 22
  safe-short d i well_formed inside = let few = safe-few d well_formed in omega (arith, inside, few)

  -- Its space is large.
  space-large : (d : Qcow2 S g) → IsWellFormed g d → 2 ^ 26 ≤ space d.tables.file.header.fields
  space-large d well_formed =
      let h : Fields = d.tables.file.header.fields in
      let shaped = consistent-shaped (file_of g d.tables) d.tables.file.header well_formed.consistent in
      let wide = counters-wide h shaped in
      let size : 2 ^ h.cluster_bits ≤ 2 ^ 21 = pow_mono {i = h.cluster_bits} {j = 21} shaped.high in
      let offsets : 2 ^ 34 ≤ max_offset / cluster_size h = le-div (2 ^ 34) max_offset (cluster_size h) (pow_pos h.cluster_bits) (omega (arith, size)) in
      least (2 ^ 26) (2 ^ 20 * counters_of_block h) (max_offset / cluster_size h + 1) (omega (arith, wide)) (omega (arith, offsets))
    where
      least : (n a b : ℕ) → n ≤ a → n ≤ b → n ≤ min a b
      least n a b one two = omega (arith, one, two)

  pub quarter-some : (d : Qcow2 S g) → IsWellFormed g d → 0 < space d.tables.file.header.fields / 4
  quarter-some d well_formed =
      let large = space-large d well_formed in
      let quarter : space d.tables.file.header.fields < space d.tables.file.header.fields / 4 * 4 + 4 = lt-div-mul-add (omega arith) in
      omega (arith, large, quarter)

  -- Such an L1 table needs few clusters.
  few-clusters : (h : Fields) (n : ℕ) → 512 ≤ cluster_size h → n ≤ 2 ^ 22 → clusters_for h n ≤ 2 ^ 16
  few-clusters h n large few = elim (cases_lt (2 ^ 16) (clusters_for h n)) [
    | inl many ↦
        let c : ℕ = cluster_size h in
        let k : ℕ = clusters_for h n in
        let low : clusters_for h n * cluster_size h ≤ 8 * n + (cluster_size h - 1) = div-mul-le_self (8 * n + (cluster_size h - 1)) (cluster_size h) in
        let high : (2 ^ 16 + 1) * cluster_size h ≤ clusters_for h n * cluster_size h = mul-le-mul_right (cluster_size h) (omega (arith, many)) in
        absurd (omega (arith, low, high, large, few))
    | inr least ↦ least
  ]

  few-longer : (d : Qcow2 S g) (i : ℕ) → IsWellFormed g d → i + 1 ≤ 2 ^ 22 → l1_clusters d.tables.file.header.fields d.tables.l1 i ≤ 2 ^ 16
  few-longer d i well_formed near =
      let h : Fields = d.tables.file.header.fields in
      let few = safe-few d well_formed in
      let long = top-long (file_of g d.tables) h d.tables.l1 well_formed.seen.l1 in
      few-clusters h (max (length d.tables.l1.raw_entries) (i + 1)) (least-cluster false (file_of g d.tables) d.tables.file.header well_formed.seen.loads)
      (omega (arith, few, long, near))

  -- A cluster holds at most 2^18 entries.
  words-few : (d : Qcow2 S g) → IsWellFormed g d → entries_of_cluster d.tables.file.header.fields ≤ 2 ^ 18
  words-few d well_formed =
      let h : Fields = d.tables.file.header.fields in
      let shaped = consistent-shaped (file_of g d.tables) d.tables.file.header well_formed.consistent in
      let size : 2 ^ h.cluster_bits ≤ 2 ^ 21 = pow_mono {i = h.cluster_bits} {j = 21} shaped.high in
      omega (arith, size)

  pub words-some : (d : Qcow2 S g) → IsWellFormed g d → 1 ≤ entries_of_cluster d.tables.file.header.fields
  words-some d well_formed =
      let least = least-cluster false (file_of g d.tables) d.tables.file.header well_formed.seen.loads in
      omega (arith, least)

  pub run-enough : (d : Qcow2 S g) (n : ℕ) → IsWellFormed g d → 0 < enough_for_run d.tables n
  run-enough d n well_formed = let large = space-large d well_formed in omega (arith, large)

  -- So a quarter of the space suffices for the L1 table, an L2 table, and as many clusters as one L2 table references.
  pub quarter-enough : (d : Qcow2 S g) (guest n : ℕ) → IsWellFormed g d → n ≤ entries_of_cluster d.tables.file.header.fields
      → guest / entries_of_cluster d.tables.file.header.fields + 1 ≤ 2 ^ 22
      → enough_for_table d.tables guest + enough_for_run d.tables n ≤ space d.tables.file.header.fields / 4
  quarter-enough d guest n well_formed fits near =
      let h : Fields = d.tables.file.header.fields in
      let i : ℕ = guest / entries_of_cluster d.tables.file.header.fields in
      let taken = few-longer d i well_formed near in
      let raw_entries = words-few d well_formed in
      let large = space-large d well_formed in
      let low : space h / 16 * 16 ≤ space h = div-mul-le_self (space h) 16 in
      let high : space h < space h / 16 * 16 + 16 = lt-div-mul-add (omega arith) in
      let quarter : space h < space h / 4 * 4 + 4 = lt-div-mul-add (omega arith) in
      parts (space h) (space h / 16) (space h / 4) (l1_clusters h d.tables.l1 i) n large low high quarter taken (omega (arith, fits, raw_entries))
    where
      parts : (s a b k n : ℕ) → 2 ^ 26 ≤ s → a * 16 ≤ s → s < a * 16 + 16 → s < b * 4 + 4 → k ≤ 2 ^ 16 → n ≤ 2 ^ 18
          → a + 3 * k + (a + 3 * 1) + (a + 3 * n) ≤ b
      parts s a b k n large low high quarter few fits = omega (arith, large, low, high, quarter, few, fits)

-- The free space after allocations, and why it wasn't enough.
use Rattle.std.proofs.Common.{◌≡◌, ℕ, ◌+◌, ◌-◌, ◌/◌, ◌<◌, ◌≤◌, refl, arith, sym, subst, ◌∙◌, inl, inr}
use Rattle.std.specs.Prelude.{length}
use Rattle.std.proofs.lemmas.Bool.{cases_eq, cases_lt, eq-eqb, ne_eqb}
use Rattle.imago_storage.specs.declared.fault.Fault.{Fault}
use Rattle.imago_storage.specs.declared.fault.Fault.TheVariants.{Limit}
use Rattle.qcow2_types.specs.Counts.{counters_of_block}
use Rattle.qcow2_types.specs.Header.{Header}
use Rattle.qcow2_types.specs.Pending.{FreeEntry}
use Rattle.qcow2_metadata.specs.Places.{IsAddressable}
use Rattle.qcow2_metadata.specs.Tables.{TableValue}
use Rattle.qcow2_alloc.specs.Causes.{HasCause}
use Rattle.qcow2_alloc.specs.Crowding.{IsCrowded, IsRoomy, TakesLittle, room_for, space}
use Rattle.qcow2_alloc.specs.GrowingTables.{NoPlaceToGrow}
use Rattle.qcow2_alloc.specs.HandingOut.{IsFreed}
use Rattle.qcow2_alloc.specs.GuestView.{Metadata, counted}
use Rattle.qcow2_alloc.specs.ReadyingRuns.{IsRunCounted, IsRunTold, first_free_after}
use Rattle.qcow2_alloc.specs.SearchingClusters.{IsFirstRun}
use Rattle.qcow2_alloc.specs.State.{MetadataWithFirstFree}
use Rattle.qcow2_alloc.specs.Freeing.{NoneFreeBefore}
use Rattle.qcow2_alloc.proofs.Causes.{cause-weaker, cause-told}
use Rattle.qcow2_alloc.proofs.Handing.BlocksBeforeTables.{no-place-as}
use Rattle.qcow2_clusters.specs.Room.{HasFreeClusters, IsFull, LeavesRoom}
use Rattle.qcow2_clusters.specs.Storing.{storing_causes}

-- A cause holds for a stronger condition, and with a weaker fact about the number of the limit.
pub storing-as : {ready less : Type 0} (full full' : ℕ → Type 0) (before after : ℕ) → (less → ready) → (fault : Fault) → ((number : ℕ) → fault ≡ Limit number → less → full number → full' number)
    → HasCause (storing_causes ready full before after) fault → HasCause (storing_causes less full' before after) fault
storing-as full full' before after from fault told why = cause-weaker (record {
  before = omega arith;
  after = omega arith;
  damaged = λ wrong is. wrong (from is);
  counter = λ wrong is. wrong (from is);
  full = absurd;
  limit = λ number at is. told number at.0 is (at.1 (from is));
}) fault (cause-told _ fault why)

-- With the same refcounts the same clusters are free before the hint.
pub marked-as : (m m' : Metadata) (mark : ℕ) → ((c : ℕ) → counted m' c ≡ counted m c) → NoneFreeBefore m mark → NoneFreeBefore m' mark
marked-as m m' mark same marked c below = subst (λ n. 0 < n) (sym (same c)) (marked c below)

-- With the same refcounts the same clusters are free.
pub room-as : (m m' : Metadata) (mark total : ℕ) → space m'.header.fields ≡ space m.header.fields → ((c : ℕ) → counted m' c ≡ counted m c)
    → HasFreeClusters m mark total → HasFreeClusters m' mark total
room-as m m' mark total large same room = record {
  first = room.first;
  not_before_start = room.not_before_start;
  below = subst (λ n. room.first + total ≤ n) (sym large) room.below;
  free = λ c from to. same c ∙ room.free c from to;
}

-- So the free space that is left is the same.
pub leaves-as : (taken : ℕ) (m0 m m' m1 : Metadata) (mark mark' : ℕ) → space m.header.fields ≡ space m0.header.fields
    → ((c : ℕ) → counted m c ≡ counted m0 c) → space m1.header.fields ≡ space m'.header.fields → ((c : ℕ) → counted m1 c ≡ counted m' c)
    → LeavesRoom taken m mark m' mark' → LeavesRoom taken m0 mark m1 mark'
leaves-as taken m0 m m' m1 mark mark' large same large' same' leaves = record {
  as_large = large' ∙ leaves.as_large ∙ large;
  left = λ total some room.
      room-as m' m1 mark' total large' same' (leaves.left total some (room-as m0 m mark (taken + total) large same room));
}

-- With the same header, refcount table and refcounts a number means the same.
pub told-as : (m m1 : Metadata) → m1.header ≡ m.header → m1.table ≡ m.table → ((c : ℕ) → counted m1 c ≡ counted m c)
    → (mark n number : ℕ) → IsRunTold m1 mark n number → IsRunTold m mark n number
told-as m m1 header table same mark n number told = record {
  first = told.first;
  run = subst (λ (f : ℕ → ℕ). IsFirstRun f mark n told.first) (λ i c. same c i) told.run;
  told = elim told.told [
    | inl last ↦ inl (
      last.0,
      both (λ t H. IsAddressable H.fields.cluster_bits (told.first + (n - 1)) → length t.raw_entries ≤ (told.first + (n - 1)) / counters_of_block H.fields) last.1,
    )
    | inr none ↦ inr (no-place-as m m1 header table same mark _ number
        (both (λ t H. NoPlaceToGrow m1 mark ((told.first + (n - 1)) / counters_of_block H.fields + (n / counters_of_block H.fields + 2)) number) none))
  ];
}
  where
    both : (P : TableValue → Header → Type 0) → P m1.table m1.header → P m.table m.header
    both P p = subst (λ (t : TableValue). P t m.header) table (subst (λ (H : Header). P m1.table H) header p)

pub full-as : (n : ℕ) (m m' m1 : Metadata) (mark mark' number : ℕ) → m'.header ≡ m1.header → m'.table ≡ m1.table
    → ((c : ℕ) → counted m' c ≡ counted m1 c) → IsFull n m mark m' mark' number → IsFull n m mark m1 mark' number
full-as n m m' m1 mark mark' number header table same full = record {
  crowded = full.crowded;
  told = told-as m1 m' header table same mark' n number full.told;
}

-- The image at the start of a call, at the start of its allocation, and after the free list is processed.
module _ (m0 : Metadata) (m mid : MetadataWithFirstFree) (n : ℕ) (begins : m.header ≡ m0.header)
    (same : (c : ℕ) → counted m.image c ≡ counted m0 c) (freed : IsFreed m mid) where
  header-is : mid.header ≡ m0.header
  header-is = freed.header ∙ begins

  -- If the image had a long enough run, it still has one.
  roomy-there : (total : ℕ) → room_for m0.header.fields n ≤ total → HasFreeClusters m0 m.mark total → IsRoomy mid.image mid.mark n
  roomy-there total enough room = record {
    first = room.first;
    total = total;
    not_before_start = let lower = freed.lower in let behind = room.not_before_start in omega (arith, lower, behind);
    below = subst (λ (H : Header). room.first + total ≤ space H.fields) (sym header-is) room.below;
    free = λ c from to.
        let none = room.free c from to in
        let begun = same c in
        let fewer = freed.fewer c in
        omega (arith, none, begun, fewer);
    enough = subst (λ (H : Header). room_for H.fields n ≤ total) (sym header-is) enough;
  }

  -- If it has none now, it had none before.
  pub crowded-there : IsCrowded mid.image mid.mark n → IsCrowded m0 m.mark n
  crowded-there none roomy = none (roomy-there roomy.total roomy.enough record {
    first = roomy.first;
    not_before_start = roomy.not_before_start;
    below = roomy.below;
    free = roomy.free;
  })

  -- The allocation takes few clusters.
  module _ (m' : Metadata) (mark' : ℕ) (entry : FreeEntry) (large : space m'.header.fields ≡ space m0.header.fields)
      (little : TakesLittle mid.mark n mid.image m') (taken : IsRunCounted mid.mark n m' entry) (moved : mark' ≡ first_free_after mid.mark n entry.first) where
    module _ (total : ℕ) (some : 0 < total) (room : HasFreeClusters m0 m.mark (room_for m0.header.fields n + total)) where
      abbrev need : ℕ
      need = room_for m0.header.fields n

      roomy : IsRoomy mid.image mid.mark n
      roomy = roomy-there (room_for m0.header.fields n + total) (omega arith) room

      still-free : (c : ℕ) → room.first + need ≤ c → c < room.first + (need + total) → counted m' c ≡ 0
      unfolding roomy roomy-there
      still-free c from to =
          little.early roomy c (subst (λ (H : Header). room.first + room_for H.fields n ≤ c) (sym header-is) from) to

      -- The allocated run is before the free space that is left.
      early : n ≡ 1 → entry.first < room.first + need
      unfolding roomy roomy-there
      early one = elim (cases_lt entry.first (room.first + need)) [
        | inl before ↦ before
        | inr behind ↦ elim (cases_eq entry.first (room.first + need)) [
          | inl same ↦ absurd (
              let once = taken.once entry.first (omega arith) (omega (arith, one)) in
              let none = still-free entry.first (omega (arith, behind)) (omega (arith, same, some)) in
              omega (arith, once, none))
          | inr apart ↦ absurd (
              let low : mid.mark ≤ room.first = roomy.not_before_start in
              let far : room.first + need < entry.first = omega (arith, behind, apart) in
              let least = taken.least (room.first + need) (omega (arith, low)) far in
              let at : least.0 ≡ room.first + need = (let from = least.1 in let to = least.2 in omega (arith, from, to, one)) in
              let none = still-free least.0 (omega (arith, at)) (omega (arith, at, some)) in
              let counts = least.4 in
              omega (arith, none, counts))
        ]
      ]

      mark-there : mark' ≤ room.first + need
      unfolding roomy roomy-there
      mark-there = elim (cases_eq entry.first mid.mark) [
        | inl at ↦
            let is : first_free_after mid.mark n entry.first ≡ entry.first + n = rw (eq-eqb entry.first mid.mark at) refl in
            let low : mid.mark ≤ room.first = roomy.not_before_start in
            omega (arith, moved, is, at, low)
        | inr apart ↦ elim (cases_eq n 1) [
          | inl one ↦
              let is : first_free_after mid.mark n entry.first ≡ entry.first + 1 = rw (ne_eqb entry.first mid.mark apart, eq-eqb n 1 one) refl in
              let before = early one in
              omega (arith, moved, is, before)
          | inr more ↦
              let is : first_free_after mid.mark n entry.first ≡ mid.mark = rw (ne_eqb entry.first mid.mark apart, ne_eqb n 1 more) refl in
              let low : mid.mark ≤ room.first = roomy.not_before_start in
              omega (arith, moved, is, low)
        ]
      ]

      room-left : HasFreeClusters m' mark' total
      room-left = record {
        first = room.first + need;
        not_before_start = mark-there;
        below = subst (λ k. room.first + need + total ≤ k) (sym large) (let below = room.below in omega (arith, below));
        free = λ c from to. still-free c from (omega (arith, to));
      }

    pub allocation-leaves : LeavesRoom (room_for m0.header.fields n) m0 m.mark m' mark'
    allocation-leaves = record { as_large = large; left = room-left }

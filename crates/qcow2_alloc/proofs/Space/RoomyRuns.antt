-- If an allocation has enough space, a run is found turn by turn, and its blocks can be made.
use Rattle.std.proofs.Common.{◌≡◌, ℕ, ◌+◌, ◌-◌, ◌*◌, ◌/◌, ◌^◌, ◌<◌, ◌≤◌, arith, ap, sym, subst, ◌∙◌, inl, inr, length}
use Rattle.std.specs.Prelude.{◌⊎◌}
use Rattle.std.proofs.Math.Nat.{mul-le-mul, div-mul-le_self}
use Rattle.qcow2_types.specs.Counts.{counters_of_block}
use Rattle.qcow2_types.specs.Header.{Header}
use Rattle.qcow2_metadata.specs.Places.{IsAddressable}
use Rattle.qcow2_metadata.specs.Tables.{TableValue}
use Rattle.qcow2_alloc.specs.Allocating.{OnlyIncremented, MovedTable}
use Rattle.qcow2_alloc.specs.Crowding.{space, room_for, IsRoomy}
use Rattle.qcow2_alloc.specs.FillingBlocks.{FillsFrom}
use Rattle.qcow2_alloc.specs.GrowingTables.{NoPlaceToGrow, TableGrown}
use Rattle.qcow2_alloc.specs.GuestView.{Metadata, IsSound, counted}
use Rattle.qcow2_alloc.specs.ReadyingBlocks.{HasMade, NoneCanBeMade}
use Rattle.qcow2_alloc.specs.SearchingClusters.{IsFirstRun}
use Rattle.qcow2_alloc.proofs.Space.RoomConsumption.{edge-free, edge-near}
use Rattle.qcow2_alloc.proofs.Space.RoomPerTurn.{LeftEnd, left-end, HasGrown, Keeping, keeping-start, keeping-same, keeping-filled, grown-filled, has-grown, found-ends, found-counted, found-near, found-within, place-there-is}
use Rattle.qcow2_alloc.proofs.Memory.Patches.{shaped-in}
use Rattle.qcow2_alloc.proofs.Space.RoomToGrow.{AreSizes, least_run, least-fits, least-holds}
use Rattle.qcow2_alloc.proofs.Space.SizesOfSpace.{counters-wide, roomy-sizes, space-blocks, space-reach}

-- The space that is left.
pub record RoomStays (mark n : ℕ) (m0 m : Metadata) (roomy : IsRoomy m0 mark n) : Type 0 where
  pub start : LeftEnd (counted m0) mark roomy.first (roomy.first + roomy.total)
  pub keeping : Keeping m0.table (counters_of_block m0.header.fields) n start.s (roomy.first + roomy.total) (room_for m0.header.fields n) m.table (counted m)
  pub grown : length m0.table.raw_entries < length m.table.raw_entries → HasGrown m0.table (counters_of_block m0.header.fields) n start.s (roomy.first + roomy.total) (room_for m0.header.fields n) m.table (counted m)

module _ (mark n : ℕ) (some : 1 ≤ n) (m0 : Metadata) (sound0 : IsSound m0) (roomy : IsRoomy m0 mark n) where
  abbrev k : ℕ
  k = counters_of_block m0.header.fields

  abbrev Q : ℕ
  Q = room_for m0.header.fields n

  -- The end of the space.
  abbrev end : ℕ
  end = roomy.first + roomy.total

  sizes : (s : ℕ) → s ≤ roomy.first → AreSizes k n (space m0.header.fields) Q s end
  sizes s early = roomy-sizes m0 mark n s (shaped-in m0.file m0.header sound0.well_formed.consistent) some roomy early

  pub stays-start : RoomStays mark n m0 m0 roomy
  stays-start =
      let from = roomy.not_before_start in
      let at : mark + (roomy.first - mark) ≡ roomy.first = omega (arith, from) in
      let start : LeftEnd (counted m0) mark roomy.first end = subst (λ (f : ℕ). LeftEnd (counted m0) mark f end) at (left-end (counted m0) mark (roomy.first - mark) end (λ c above below. roomy.free c (omega (arith, above, at)) below)) in
      record { start = start; keeping = keeping-start m0.table k n (space m0.header.fields) Q start.s end mark (sizes start.s start.early) start.behind (counted m0) start.free; grown = λ longer. absurd (omega (arith, longer)) }

  module _ (m : Metadata) (stays : RoomStays mark n m0 m roomy) where
    abbrev s : ℕ
    s = stays.start.s

    -- A search changes nothing.
    pub stays-searched : (m1 : Metadata) → m1.table ≡ m.table → ((c : ℕ) → counted m1 c ≡ counted m c) → RoomStays mark n m0 m1 roomy
    stays-searched m1 table same = record {
      start = stays.start;
      keeping = subst (λ (t : TableValue). Keeping m0.table k n s end Q t (counted m1)) (sym table)
          (keeping-same m0.table k n (space m0.header.fields) Q s end mark (sizes s stays.start.early) stays.start.behind m.table (counted m) (counted m1) same stays.keeping);
      grown = subst (λ (t : TableValue). length m0.table.raw_entries < length t.raw_entries → HasGrown m0.table k n s end Q t (counted m1)) (sym table)
          (λ longer. let everywhere : counted m1 ≡ counted m = (λ i c. same c i) in subst (λ (f : ℕ → ℕ). HasGrown m0.table k n s end Q m.table f) (sym everywhere) (stays.grown longer));
    }

    wide : 0 < k
    wide = let w = counters-wide m0.header.fields (shaped-in m0.file m0.header sound0.well_formed.consistent) in omega (arith, w)

    -- Nothing after the first `Q` clusters of the space is taken.
    pub room-left : (c : ℕ) → roomy.first + Q ≤ c → c < end → counted m c ≡ 0
    room-left c above below = elim stays.keeping [
      | inl was ↦
          let low = least-fits k n (space m0.header.fields) Q s end (sizes s stays.start.early) in
          let kept = was.kept (least_run n) (omega arith) low in
          let near = edge-near m0.table k s end 0 (least_run n) m.table (counted m) kept wide in
          let few = least-holds k n (space m0.header.fields) Q s end (sizes s stays.start.early) in
          let early = stays.start.early in
          edge-free m0.table k s end 0 (least_run n) m.table (counted m) kept c (omega (arith, near, few, low, early, above)) below
      | inr was ↦
          let near = edge-near m0.table k s end was.more was.L m.table (counted m) was.kept wide in
          let holds = was.holds in
          let fits = was.fits in
          let early = stays.start.early in
          edge-free m0.table k s end was.more was.L m.table (counted m) was.kept c (omega (arith, near, holds, fits, early, above)) below
    ]

    -- The run that is found ends before them.
    pub run-early : (z : ℕ) → IsFirstRun (counted m) mark n z → z + n ≤ roomy.first + Q
    run-early z run = elim stays.keeping [
      | inl was ↦
          let near = found-near m0.table k n (space m0.header.fields) Q s end mark (sizes s stays.start.early) stays.start.behind m.table (counted m) z run was in
          let low = least-fits k n (space m0.header.fields) Q s end (sizes s stays.start.early) in
          let early = stays.start.early in
          omega (arith, near, low, early)
      | inr was ↦
          let both = found-within m0.table k n (space m0.header.fields) Q s end mark (sizes s stays.start.early) stays.start.behind m.table (counted m) z run was in
          let le = both.1 in
          let fits = was.fits in
          let early = stays.start.early in
          omega (arith, le, fits, early)
    ]

    module _ (moved : MovedTable m0.header m.header) (raised : OnlyIncremented m0 m) (sound : IsSound m) (z : ℕ) (run : IsFirstRun (counted m) mark n z) where
      size : counters_of_block m.header.fields ≡ k
      size = ap (λ (H : Header). counters_of_block H.fields) moved.2

      has_no_dirty_data : (s ≤ mark) ⊎ ((c : ℕ) × (c + 1 ≡ s) × (0 < counted m c))
      has_no_dirty_data = elim stays.start.left [
        | inl le ↦ inl le
        | inr (c, next, up) ↦ inr (c, next, elim (raised c) [ inl same ↦ omega (arith, same, up) | inr both ↦ let zero' = both.0 in absurd (omega (arith, zero', up)) ])
      ]

      reach : (c : ℕ) → c < space m0.header.fields → IsAddressable m.header.fields.cluster_bits c
      reach c inside = subst (λ (H : Header). IsAddressable H.fields.cluster_bits c) (sym moved.2) (space-reach m0.header.fields (shaped-in m0.file m0.header sound0.well_formed.consistent) c inside)

      ends : z + n ≤ space m0.header.fields
      ends = found-ends m0.table k n (space m0.header.fields) Q s end mark (sizes s stays.start.early) stays.start.behind m.table (counted m) z run stays.keeping

      -- A table that has grown has an entry for the run.
      pub run-counted : length m0.table.raw_entries < length m.table.raw_entries → (z + (n - 1)) / counters_of_block m.header.fields < length m.table.raw_entries
      run-counted longer =
          subst (λ x. (z + (n - 1)) / x < length m.table.raw_entries) (sym size)
          (found-counted m0.table k n (space m0.header.fields) Q s end mark (sizes s stays.start.early) stays.start.behind m.table (counted m) z run (stays.grown longer))

      -- The end of the run is addressable, and a table can have an entry for it.
      pub run-fits : (IsAddressable m.header.fields.cluster_bits (z + (n - 1)) → 2 ^ 20 ≤ (z + (n - 1)) / counters_of_block m.header.fields) → ⊥
      run-fits far =
          let inside = ends in
          let most : 2 ^ 20 ≤ (z + (n - 1)) / k = subst (λ (x : ℕ). 2 ^ 20 ≤ (z + (n - 1)) / x) size (far (reach (z + (n - 1)) (omega (arith, inside, some)))) in
          let le : 2 ^ 20 * k ≤ (z + (n - 1)) / k * k = mul-le-mul most (omega arith) in
          let under = div-mul-le_self (z + (n - 1)) k in
          let all = space-blocks m0.header.fields (shaped-in m0.file m0.header sound0.well_formed.consistent) in
          omega (arith, le, under, all, inside, some)

      module _ (first last : ℕ) (first_is : first ≡ z / counters_of_block m.header.fields) (last_is : last ≡ (z + (n - 1)) / counters_of_block m.header.fields) where
        abbrev at : ℕ
        at = last + (n / counters_of_block m.header.fields + 2)

        first-is : first ≡ z / k
        first-is = first_is ∙ ap (λ x. z / x) size

        last-is : last ≡ (z + (n - 1)) / k
        last-is = last_is ∙ ap (λ x. (z + (n - 1)) / x) size

        grow-at : (P : ℕ → Type 0) → P at → P ((z + (n - 1)) / k + (n / k + 2))
        grow-at P p = subst (λ (l : ℕ). P (l + (n / k + 2))) last-is (subst (λ (x : ℕ). P (last + (n / x + 2))) size p)

        -- The blocks of the run can be made.
        pub can-make : (number : ℕ) → NoneCanBeMade mark at first last number m → ⊥
        can-make number (inl far) = far (λ i above below. reach' i below)
          where
            reach' : (i : ℕ) → i ≤ last → IsAddressable m.header.fields.cluster_bits (i * counters_of_block m.header.fields)
            reach' i below =
                let le : i * k ≤ (z + (n - 1)) / k * k = mul-le-mul (omega (arith, below, last-is)) (omega arith) in
                let under = div-mul-le_self (z + (n - 1)) k in
                let inside = ends in
                subst (λ (x : ℕ). IsAddressable m.header.fields.cluster_bits (i * x)) (sym size) (reach (i * k) (omega (arith, le, under, inside, some)))
        can-make number (inr (past, none)) = elim stays.keeping [
          | inl was ↦ place-there-is m0.table k n (space m0.header.fields) Q s end mark (sizes s stays.start.early) stays.start.behind m size sound z run was (omega (arith, past, last-is)) has_no_dirty_data reach number (grow-at (λ (a : ℕ). NoPlaceToGrow m mark a number) none)
          | inr was ↦ let inside = found-counted m0.table k n (space m0.header.fields) Q s end mark (sizes s stays.start.early) stays.start.behind m.table (counted m) z run was in omega (arith, inside, past, last-is)
        ]

        -- The space is kept.
        pub stays-made : (m' : Metadata) → HasMade mark at first last m m' → RoomStays mark n m0 m' roomy
        stays-made m' (inl (inside, long, fills)) =
            let filled = subst (λ (f : ℕ). FillsFrom mark f (last + 1) m m') first-is fills in
            record {
              start = stays.start;
              keeping = keeping-filled m0.table k n (space m0.header.fields) Q s end mark (sizes s stays.start.early) stays.start.behind m m' size z (last + 1) run filled (ap (λ l. l + 1) last-is) has_no_dirty_data long stays.keeping;
              grown = λ longer. grown-filled m0.table k n (space m0.header.fields) Q s end mark (sizes s stays.start.early) stays.start.behind m m' size z (last + 1) run filled (ap (λ l. l + 1) last-is) has_no_dirty_data long (stays.grown (omega (arith, longer, long)));
            }
        stays-made m' (inr (past, grown)) =
            let now : HasGrown m0.table k n s end Q m'.table (counted m') = elim stays.keeping [
              | inl was ↦ has-grown m0.table k n (space m0.header.fields) Q s end mark (sizes s stays.start.early) stays.start.behind m size sound z run was (omega (arith, past, last-is)) has_no_dirty_data m' (grow-at (λ (a : ℕ). TableGrown mark a m m') grown)
              | inr was ↦ absurd (let inside = found-counted m0.table k n (space m0.header.fields) Q s end mark (sizes s stays.start.early) stays.start.behind m.table (counted m) z run was in omega (arith, inside, past, last-is))
            ] in
            record { start = stays.start; keeping = inr now; grown = λ longer. now }

-- Space for an allocation is kept, turn by turn.
use Rattle.std.proofs.Common.{◌≡◌, ◌≢◌, ℕ, zero, suc, ◌+◌, ◌-◌, ◌*◌, ◌/◌, ◌^◌, ◌<◌, ◌≤◌, refl, arith, ap, sym, subst, ◌∙◌, inl, inr, length}
use Rattle.std.specs.Prelude.{◌⊎◌, min}
use Rattle.std.proofs.lemmas.Bool.{cases_eq, cases_lt}
use Rattle.std.proofs.Math.Nat.{mul-le-mul, div-mul-le_self, min-le_left}
use Rattle.std.proofs.lemmas.Nat.{le-div}
use Rattle.qcow2_types.specs.Counts.{block_at, counters_of_block}
use Rattle.qcow2_types.specs.Header.{Shaped, entries_of_cluster}
use Rattle.qcow2_types.proofs.Counting.Leaks.{count-no-block}
use Rattle.qcow2_types.proofs.Counting.Parts.{block-inside}
use Rattle.qcow2_metadata.specs.Places.{IsAddressable}
use Rattle.qcow2_metadata.specs.Tables.{TableValue, IsEnough, IsGrownLength}
use Rattle.qcow2_alloc.specs.FillingBlocks.{FillsFrom}
use Rattle.qcow2_alloc.specs.Growing.{IsFirstFreeArea}
use Rattle.qcow2_alloc.specs.GrowingTables.{IsFreeAreaToGrow, IsAreaAddressable, NoPlaceToGrow, TableGrown}
use Rattle.qcow2_alloc.specs.GuestView.{Metadata, IsSound, in_memory, counted}
use Rattle.qcow2_alloc.specs.SearchingClusters.{IsFirstRun}
use Rattle.qcow2_alloc.proofs.Space.RoomConsumption.{RoomKept, edge, edge-near, run-near, room-filled, room-grown, quotient-step}
use Rattle.qcow2_alloc.proofs.Blocks.BlockCreationCalls.{first-counted}
use Rattle.qcow2_alloc.proofs.Memory.MemoryWords.{places-in-memory}
use Rattle.qcow2_alloc.proofs.Memory.Patches.{shaped-in}
use Rattle.qcow2_alloc.proofs.Space.RoomToGrow.{AreSizes, least_run, run-holds, least-holds, least-fits, at, ahead-one, longest-enough, grown_run, grown-holds, grown-least, grown-fits, grown-inside, room-early, room-short}
use Rattle.qcow2_alloc.proofs.Space.SizesOfSpace.{words-wide, words-divide}

-- The start of the free clusters before `e`. The cluster before it is counted, unless the search begins there.
pub record LeftEnd (counts : ℕ → ℕ) (mark first e : ℕ) : Type 0 where
  pub s : ℕ
  pub behind : mark ≤ s
  pub early : s ≤ first
  pub free : (c : ℕ) → s ≤ c → c < e → counts c ≡ 0
  pub left : (s ≤ mark) ⊎ ((c : ℕ) × (c + 1 ≡ s) × (0 < counts c))

pub left-end : (counts : ℕ → ℕ) (mark d e : ℕ) → ((c : ℕ) → mark + d ≤ c → c < e → counts c ≡ 0) → LeftEnd counts mark (mark + d) e
left-end counts mark zero e free = record { s = mark; behind = omega arith; early = omega arith; free = λ c above below. free c (omega (arith, above)) below; left = inl (omega arith) }
left-end counts mark (suc d) e free = elim (cases_eq (counts (mark + d)) 0) [
  | inr some ↦ record { s = mark + suc d; behind = omega arith; early = omega arith; free = free; left = inr (mark + d, omega arith, omega (arith, some)) }
  | inl none ↦
      let more : (c : ℕ) → mark + d ≤ c → c < e → counts c ≡ 0 =
      (λ c above below. elim (cases_eq c (mark + d)) [ inl here ↦ subst (λ x. counts x ≡ 0) (sym here) none | inr apart ↦ free c (omega (arith, above, apart)) below ]) in
      let rest = left-end counts mark d e more in
      let le = rest.early in
      record { s = rest.s; behind = rest.behind; early = omega (arith, le); free = rest.free; left = rest.left }
]

pub counted-inside : (m : Metadata) (c : ℕ) → IsSound m → 0 < counted m c → c / counters_of_block m.header.fields < length m.table.raw_entries
counted-inside m c sound some =
    let places = places-in-memory m.file m.header sound.well_formed.consistent m.cached sound.well_formed.tables sound.well_formed.blocks in
    let i = c / counters_of_block m.header.fields in
    elim (cases_eq (block_at m.file m.header.fields i) 0) [
      | inl none ↦ absurd (let zero' : counted m c ≡ 0 = count-no-block (in_memory m) m.header.fields c (places.blocks i ∙ none) in omega (arith, some, zero'))
      | inr there ↦ let inside = block-inside m.file m.header.fields i there in let long = sound.table.long in omega (arith, inside, long)
    ]

-- Before the table grows, space is kept for each length of a run. After that, it is kept for one length that the table has entries for.
pub record HasNotGrown (table0 : TableValue) (k n s e Q : ℕ) (table : TableValue) (counts : ℕ → ℕ) : Type 0 where
  pub kept : (L : ℕ) → least_run n ≤ L → L ≤ Q → RoomKept table0 k s e 0 L table counts

pub record HasGrown (table0 : TableValue) (k n s e Q : ℕ) (table : TableValue) (counts : ℕ → ℕ) : Type 0 where
  pub more : ℕ
  pub L : ℕ
  pub low : least_run n ≤ L
  pub fits : L ≤ Q
  pub holds : more + L / k + 2 + n ≤ L
  pub inside : s + L ≤ length table.raw_entries * k
  pub kept : RoomKept table0 k s e more L table counts

abbrev pub Keeping : TableValue → ℕ → ℕ → ℕ → ℕ → ℕ → TableValue → (ℕ → ℕ) → Type 0
Keeping table0 k n s e Q table counts = HasNotGrown table0 k n s e Q table counts ⊎ HasGrown table0 k n s e Q table counts

module _ (table0 : TableValue) (k n sp Q s e mark : ℕ) (sizes : AreSizes k n sp Q s e) (behind : mark ≤ s) where
  wide : 0 < k
  wide = let w = sizes.wide in omega (arith, w)

  -- Nothing was taken yet.
  pub keeping-start : (counts : ℕ → ℕ) → ((c : ℕ) → s ≤ c → c < e → counts c ≡ 0) → Keeping table0 k n s e Q table0 counts
  keeping-start counts free = inl (record { kept = λ L low fits. record { bound = λ c above below some. absurd (let none = free c above below in omega (arith, some, none)); fewer = omega arith } })

  -- A search changes nothing.
  pub keeping-same : (table : TableValue) (counts counts' : ℕ → ℕ) → ((c : ℕ) → counts' c ≡ counts c) → Keeping table0 k n s e Q table counts → Keeping table0 k n s e Q table counts'
  keeping-same table counts counts' same keeping = subst (λ (f : ℕ → ℕ). Keeping table0 k n s e Q table f) (sym everywhere) keeping
    where
      everywhere : counts' ≡ counts
      everywhere = λ i c. same c i

  module _ (table : TableValue) (counts : ℕ → ℕ) (z : ℕ) (run : IsFirstRun counts mark n z) where
    -- A run is found near the start.
    module _ (L : ℕ) (low : least_run n ≤ L) (fits : L ≤ Q) (kept : RoomKept table0 k s e 0 L table counts) where
      edge-low : edge table0 k s 0 L table + n ≤ s + L
      edge-low = let near = edge-near table0 k s e 0 L table counts kept wide in let h = run-holds k n sp Q s e sizes L low in omega (arith, near, h)

      pub found-early : z ≤ edge table0 k s 0 L table
      found-early = let lt = edge-low in run-near table0 k s e 0 L table counts kept mark n z behind (omega (arith, lt, fits, sizes.span)) run

    pub found-near : HasNotGrown table0 k n s e Q table counts → z ≤ s + (n / 32 + 2)
    found-near was =
        let low = least-fits k n sp Q s e sizes in
        let kept = was.kept (least_run n) (omega arith) low in
        let early = found-early (least_run n) (omega arith) low kept in
        let near = edge-near table0 k s e 0 (least_run n) table counts kept wide in
        let few = least-holds k n sp Q s e sizes in
        omega (arith, early, near, few)

    pub found-within : (was : HasGrown table0 k n s e Q table counts) → (z ≤ edge table0 k s was.more was.L table) × (z + n ≤ s + was.L)
    found-within was =
        let near = edge-near table0 k s e was.more was.L table counts was.kept wide in
        let h = was.holds in
        let f = was.fits in
        let early = run-near table0 k s e was.more was.L table counts was.kept mark n z behind (omega (arith, near, h, f, sizes.span)) run in
        (early, omega (arith, early, near, h))

    -- The run ends within the space.
    pub found-ends : Keeping table0 k n s e Q table counts → z + n ≤ sp
    found-ends (inl was) = let near = found-near was in let low = least-fits k n sp Q s e sizes in omega (arith, near, low, sizes.span, sizes.ends)
    found-ends (inr was) = let both = found-within was in let le = both.1 in let f = was.fits in omega (arith, le, f, sizes.span, sizes.ends)

    -- A table that has grown has an entry for the run.
    pub found-counted : HasGrown table0 k n s e Q table counts → (z + (n - 1)) / k < length table.raw_entries
    found-counted was = elim (cases_lt ((z + (n - 1)) / k) (length table.raw_entries)) [
      | inl inside ↦ inside
      | inr past ↦
          let le : length table.raw_entries * k ≤ (z + (n - 1)) / k * k = mul-le-mul past (omega arith) in
          let under = div-mul-le_self (z + (n - 1)) k in
          let both = found-within was in
          let ends = both.1 in
          let in-words = was.inside in
          absurd (omega (arith, le, under, ends, in-words, sizes.some))
    ]

    -- A run that begins before the free clusters ends before them.
    pub apart-or : (s ≤ mark) ⊎ ((c : ℕ) × (c + 1 ≡ s) × (0 < counts c)) → (s ≤ mark) ⊎ (z < s → z + n ≤ s)
    apart-or (inl le) = inl le
    apart-or (inr (c, next, some)) = inr (λ before. elim (cases_lt s (z + n)) [
      | inr le ↦ le
      | inl over ↦ absurd (let none = run.free c (omega (arith, next, before)) (omega (arith, next, over)) in omega (arith, some, none))
    ])

  -- Blocks were made.
  module _ (m m' : Metadata) (size : counters_of_block m.header.fields ≡ k) (z end : ℕ) (run : IsFirstRun (counted m) mark n z) (fills : FillsFrom mark (z / k) end m m') (last : end ≡ (z + (n - 1)) / k + 1) (left : (s ≤ mark) ⊎ ((c : ℕ) × (c + 1 ≡ s) × (0 < counted m c))) where
    few-blocks : end ≤ z / k + n
    few-blocks = let q = quotient-step k z (n - 1) wide in omega (arith, last, q, sizes.some)

    in-run : (i : ℕ) → i < end → i * k < z + n
    in-run i lt =
        let le : i * k ≤ (z + (n - 1)) / k * k = mul-le-mul (omega (arith, lt, last)) (omega arith) in
        let under = div-mul-le_self (z + (n - 1)) k in
        omega (arith, le, under, sizes.some)

    filled-so : (more L : ℕ) → RoomKept table0 k s e more L m.table (counted m) → z ≤ edge table0 k s more L m.table → z + n ≤ s + L → RoomKept table0 k s e more L m'.table (counted m')
    filled-so more L kept near inside =
        subst (λ (x : ℕ). 0 < x → FillsFrom mark (z / x) end m m' → RoomKept table0 x s e more L m.table (counted m) → end ≤ z / x + n → ((i : ℕ) → i < end → i * x < z + n) → z ≤ edge table0 x s more L m.table → RoomKept table0 x s e more L m'.table (counted m')) size
        (λ some f kept' few all near'. room-filled table0 s e more L mark n z end m m' f some kept' (apart-or m.table (counted m) z run left) run.not_before_start few all run.free near' inside)
        wide fills kept few-blocks in-run near

    pub grown-filled : length m'.table.raw_entries ≡ length m.table.raw_entries → HasGrown table0 k n s e Q m.table (counted m) → HasGrown table0 k n s e Q m'.table (counted m')
    grown-filled same was =
        let both = found-within m.table (counted m) z run was in
        record {
          more = was.more;
          L = was.L;
          low = was.low;
          fits = was.fits;
          holds = was.holds;
          inside = let i = was.inside in let same' : length m'.table.raw_entries * k ≡ length m.table.raw_entries * k = ap (λ x. x * k) same in omega (arith, i, same');
          kept = filled-so was.more was.L was.kept both.0 both.1;
        }

    pub keeping-filled : length m'.table.raw_entries ≡ length m.table.raw_entries → Keeping table0 k n s e Q m.table (counted m) → Keeping table0 k n s e Q m'.table (counted m')
    keeping-filled same (inl was) = inl (record {
      kept = λ L low fits.
          let kept = was.kept L low fits in
          let early = found-early m.table (counted m) z run L low fits kept in
          let near = edge-low m.table (counted m) z run L low fits kept in
          filled-so 0 L kept early (omega (arith, early, near));
    })
    keeping-filled same (inr was) = inr (grown-filled same was)

  -- The table must grow, since it has no entries for the run.
  module _ (m : Metadata) (size : counters_of_block m.header.fields ≡ k) (sound : IsSound m) (z : ℕ) (run : IsFirstRun (counted m) mark n z) (was : HasNotGrown table0 k n s e Q m.table (counted m)) (past : length m.table.raw_entries ≤ (z + (n - 1)) / k)
      (left : (s ≤ mark) ⊎ ((c : ℕ) × (c + 1 ≡ s) × (0 < counted m c))) where
    -- The run doesn't begin before the free clusters, since the cluster before them is counted.
    pub run-behind : s ≤ z
    run-behind = elim (cases_lt z s) [
      | inr from ↦ from
      | inl before ↦ elim left [
        | inl le ↦ let b = run.not_before_start in absurd (omega (arith, le, b, before))
        | inr (c, next, some) ↦
            let ends : z + n ≤ s = elim (cases_lt s (z + n)) [ inr le ↦ le | inl over ↦ absurd (let none = run.free c (omega (arith, next, before)) (omega (arith, next, over)) in omega (arith, some, none)) ] in
            let inside : c / k < length m.table.raw_entries = subst (λ (x : ℕ). c / x < length m.table.raw_entries) size (counted-inside m c sound some) in
            let low : (z + (n - 1)) / k ≤ c / k = le-div ((z + (n - 1)) / k) c k wide (let under = div-mul-le_self (z + (n - 1)) k in omega (arith, under, ends, next, sizes.some)) in
            absurd (omega (arith, inside, low, past))
      ]
    ]

    abbrev near : z ≤ s + (n / 32 + 2)
    near = found-near m.table (counted m) z run was

    abbrev pub index : ℕ
    index = at k n sp Q s e sizes z run-behind near

    abbrev w : ℕ
    w = entries_of_cluster m.header.fields

    shaped : Shaped m.header.fields
    shaped = shaped-in m.file m.header sound.well_formed.consistent

    module _ (clusters first total : ℕ) (room : IsFreeAreaToGrow m mark index first total clusters) where
      long : IsGrownLength w k index (clusters * w)
      long = subst (λ (x : ℕ). IsGrownLength w x index (clusters * w)) size room.long

      first-room : IsFirstFreeArea m.table k (counted m) (min mark (length m.table.raw_entries * k)) clusters first total
      first-room = subst (λ (x : ℕ). IsFirstFreeArea m.table x (counted m) (min mark (length m.table.raw_entries * x)) clusters first total) size room.room

      from-low : min mark (length m.table.raw_entries * k) ≤ s
      from-low = let le = min-le_left mark (length m.table.raw_entries * k) in omega (arith, le, behind)

      abbrev run-length : ℕ
      run-length = grown_run k n sp Q s e sizes z run-behind near w (words-wide m.header.fields shaped) (words-divide m.header.fields shaped) clusters long

      least-kept : RoomKept table0 k s e 0 (least_run n) m.table (counted m)
      least-kept = was.kept (least_run n) (omega arith) (least-fits k n sp Q s e sizes)

      -- The free area ends within the run that contains it.
      room-inside : first + total ≤ s + run-length
      room-inside =
          let early = room-early k n sp Q s e sizes z run-behind near w (words-wide m.header.fields shaped) (words-divide m.header.fields shaped) clusters long table0 m.table (counted m) (min mark (length m.table.raw_entries * k)) first total (least_run n) least-kept (least-fits k n sp Q s e sizes) (omega arith) first-room from-low in
          let short = room-short k n sp Q s e sizes z run-behind near w (words-wide m.header.fields shaped) (words-divide m.header.fields shaped) clusters long table0 m.table (counted m) (min mark (length m.table.raw_entries * k)) first total (least_run n) least-kept (least-fits k n sp Q s e sizes) (omega arith) first-room from-low in
          let low = edge-near table0 k s e 0 (least_run n) m.table (counted m) least-kept wide in
          let few = least-holds k n sp Q s e sizes in
          let ahead' = ahead-one k n sp Q s e sizes z run-behind near in
          let a = div-mul-le_self n 32 in
          omega (arith, early, short, low, few, ahead', a, sizes.wide)

      run-fits : run-length ≤ Q
      run-fits = grown-fits k n sp Q s e sizes z run-behind near w (words-wide m.header.fields shaped) (words-divide m.header.fields shaped) clusters long

      some-clusters : 0 < clusters
      some-clusters = elim (cases_eq clusters 0) [
        | inr some ↦ omega (arith, some)
        | inl none ↦ absurd (let above = long.enough.above in let zero' : clusters * w ≡ 0 = ap (λ x. x * w) none ∙ (let e' : 0 * w ≡ 0 = omega arith in e') in omega (arith, above, zero'))
      ]

      some-total : 0 < total
      some-total = let is = first-room.room.enough in let c = some-clusters in omega (arith, is, c)

      -- So the area is addressable.
      in-reach : (reach : (c : ℕ) → c < sp → IsAddressable m.header.fields.cluster_bits c) → IsAreaAddressable m first total clusters
      in-reach reach = record {
        reach = reach (first + (total - 1)) (let i = room-inside in let f = run-fits in let t = some-total in omega (arith, i, f, t, sizes.span, sizes.ends));
        inside =
            let i = room-inside in
            let g = grown-inside k n sp Q s e sizes z run-behind near w (words-wide m.header.fields shaped) (words-divide m.header.fields shaped) clusters long in
            subst (λ (x : ℕ). first + total ≤ clusters * w * x) (sym size) (omega (arith, i, g));
      }

    -- The table has a free area.
    pub place-there-is : ((c : ℕ) → c < sp → IsAddressable m.header.fields.cluster_bits c) → (number : ℕ) → NoPlaceToGrow m mark index number → ⊥
    place-there-is reach number (inl none) =
        let most = none.0 (2 ^ 20) (subst (λ (x : ℕ). IsEnough w x index (2 ^ 20)) (sym size) (longest-enough k n sp Q s e sizes z run-behind near w (words-wide m.header.fields shaped) (words-divide m.header.fields shaped))) in
        omega (arith, most)
    place-there-is reach number (inr (first, total, clusters, room, far, is)) = far (in-reach clusters first total room reach)

    -- After the growth, space is still kept.
    pub has-grown : (m' : Metadata) → TableGrown mark index m m' → HasGrown table0 k n s e Q m'.table (counted m')
    has-grown m' grown =
        let r = grown.room in
        let lg = long grown.clusters grown.first grown.total r in
        let L = run-length grown.clusters grown.first grown.total r in
        let ww = words-wide m.header.fields shaped in
        let wd = words-divide m.header.fields shaped in
        let kept = was.kept L (grown-least k n sp Q s e sizes z run-behind near w ww wd grown.clusters lg) (run-fits grown.clusters grown.first grown.total r) in
        let early = room-early k n sp Q s e sizes z run-behind near w ww wd grown.clusters lg table0 m.table (counted m) (min mark (length m.table.raw_entries * k)) grown.first grown.total L kept (run-fits grown.clusters grown.first grown.total r)
        (grown-least k n sp Q s e sizes z run-behind near w ww wd grown.clusters lg) (first-room grown.clusters grown.first grown.total r) (from-low grown.clusters grown.first grown.total r) in
        let some-first : grown.first ≢ 0 = (λ none.
        let free = grown.room.room.room.free grown.first (omega arith) (let t = some-total grown.clusters grown.first grown.total r in omega (arith, t)) in
        let first' : counted m 0 ≡ 0 = subst (λ c. counted m c ≡ 0) none free in
        let some = first-counted m sound in
        omega (arith, first', some)) in
        let raw_entries : length m'.table.raw_entries * k ≡ grown.clusters * w * k = ap (λ x. x * k) grown.long in
        let inside = grown-inside k n sp Q s e sizes z run-behind near w ww wd grown.clusters lg in
        record {
          more = grown.clusters;
          L = L;
          low = grown-least k n sp Q s e sizes z run-behind near w ww wd grown.clusters lg;
          fits = run-fits grown.clusters grown.first grown.total r;
          holds = grown-holds k n sp Q s e sizes z run-behind near w ww wd grown.clusters lg;
          inside = omega (arith, raw_entries, inside);
          kept = subst (λ (x : ℕ). 0 < x → RoomKept table0 x s e 0 L m.table (counted m) → grown.first ≤ edge table0 x s 0 L m.table → RoomKept table0 x s e grown.clusters L m'.table (counted m')) size
              (λ some' kept' early'. room-grown table0 s e L grown.clusters mark index m m' grown some' kept' some-first refl early' (room-inside grown.clusters grown.first grown.total r)) wide kept early;
        }

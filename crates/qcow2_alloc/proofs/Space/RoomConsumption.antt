-- Space for an allocation is kept: new blocks and a longer table take little of it.
use Rattle.std.proofs.Common.{Bool, ◌≡◌, ◌≢◌, ℕ, zero, suc, ◌+◌, ◌-◌, ◌*◌, ◌/◌, ◌<◌, ◌≤◌, refl, arith, ap, sym, ◌∙◌, inl, inr, true}
use Rattle.std.specs.Prelude.{◌⊎◌, slice_index}
use Rattle.std.proofs.lemmas.Bool.{cases_Bool, cases_eq, cases_lt}
use Rattle.std.proofs.Math.Nat.{mul-le-mul, div-mul-le_self, lt-div-mul-add}
use Rattle.std.proofs.lemmas.Nat.{le-div, pow_pos}
use Rattle.qcow2_types.specs.Counts.{counters_of_block}
use Rattle.qcow2_types.specs.Header.{cluster_size}
use Rattle.qcow2_types.specs.Words.{block_offset}
use Rattle.qcow2_metadata.specs.Tables.{TableValue}
use Rattle.qcow2_alloc.specs.FillingBlocks.{FillsFrom, made_for}
use Rattle.qcow2_alloc.specs.FreeList.{covers}
use Rattle.qcow2_alloc.specs.GrowingTables.{TableGrown}
use Rattle.qcow2_alloc.specs.Growing.{lacks, lacking, IsFirstFreeArea}
use Rattle.qcow2_alloc.specs.MakingRoom.{rank, run_of}
use Rattle.qcow2_alloc.specs.GuestView.{Metadata, counted}
use Rattle.qcow2_alloc.specs.SearchingClusters.{IsFirstRun}
use Rattle.qcow2_alloc.proofs.Blocks.RunCounts.{covers-behind}
use Rattle.qcow2_alloc.proofs.Blocks.BlockRowPlaces.{lacking-fewer}
use Rattle.qcow2_alloc.proofs.Growth.FirstRooms.{rank-beside, rank-longer, lacking-few, lacking-longer, lacks-inside, lacks-none, lacks-so}
use Rattle.qcow2_alloc.proofs.Growth.LongerReftables.{covers-before}
use Rattle.qcow2_alloc.proofs.Memory.Patches.{place-there}

pub quotient-few : (k L : ℕ) → 64 ≤ k → L / k * 64 ≤ L
quotient-few k L wide = let le : L / k * 64 ≤ L / k * k = mul-le-mul (omega arith) wide in let whole = div-mul-le_self L k in omega (arith, le, whole)

pub quotient-step : (k z b : ℕ) → 0 < k → (z + b) / k ≤ z / k + b
quotient-step k z b some = elim (cases_lt (z / k + b) ((z + b) / k)) [
  | inr le ↦ le
  | inl over ↦
      let far : (z / k + b + 1) * k ≤ (z + b) / k * k = mul-le-mul (omega (arith, over)) (omega arith) in
      let whole = div-mul-le_self (z + b) k in
      let near : z < z / k * k + k = lt-div-mul-add some in
      let split : (z / k + b + 1) * k ≡ z / k * k + b * k + k = omega arith in
      let least : b * 1 ≤ b * k = mul-le-mul (omega arith) some in
      absurd (omega (arith, far, whole, near, split, least))
]

pub covered-inside : (c first n : ℕ) → 0 < covers c (run_of first n) → (first ≤ c) × (c < first + n)
covered-inside c first n some = elim (cases_lt c first) [
  | inl before ↦ absurd (let none = covers-before c first n before in omega (arith, some, none))
  | inr from ↦ elim (cases_lt c (first + n)) [
    | inl to ↦ (from, to)
    | inr past ↦ absurd (let none = covers-behind c first n past in omega (arith, some, none))
  ]
]

-- The clusters from `s` to `e` were free. Those that are counted now are before an edge. The edge moves up by 1 for each missing block
-- of a run of `L` that is made, and by `more` for a longer table.
pub record RoomKept (table0 : TableValue) (k s e more L : ℕ) (table : TableValue) (counts : ℕ → ℕ) : Type 0 where
  pub bound : (c : ℕ) → s ≤ c → c < e → 0 < counts c → c + lacking table k s L < s + more + lacking table0 k s L
  pub fewer : lacking table k s L ≤ lacking table0 k s L

abbrev pub edge : TableValue → ℕ → ℕ → ℕ → ℕ → TableValue → ℕ
edge table0 k s more L table = s + more + lacking table0 k s L - lacking table k s L

module _ (table0 : TableValue) (k s e more L : ℕ) (table : TableValue) (counts : ℕ → ℕ) (kept : RoomKept table0 k s e more L table counts) where
  pub edge-behind : s ≤ edge table0 k s more L table
  edge-behind = let le = kept.fewer in omega (arith, le)

  pub edge-near : 0 < k → edge table0 k s more L table ≤ s + more + (L / k + 2)
  edge-near some = let few = lacking-few table0 k some s L in omega (arith, few)

  pub edge-free : (c : ℕ) → edge table0 k s more L table ≤ c → c < e → counts c ≡ 0
  edge-free c above below = elim (cases_eq (counts c) 0) [
    | inl none ↦ none
    | inr some ↦ let le = kept.fewer in let lt = kept.bound c (omega (arith, above, le)) below (omega (arith, some)) in absurd (omega (arith, lt, above, le))
  ]

  -- A run that is searched for from before `s` begins no later than the edge.
  pub run-near : (mark n z : ℕ) → mark ≤ s → edge table0 k s more L table + n ≤ e → IsFirstRun counts mark n z → z ≤ edge table0 k s more L table
  run-near mark n z behind inside run = elim (cases_lt (edge table0 k s more L table) z) [
    | inr le ↦ le
    | inl before ↦
        let ge = edge-behind in
        let met = run.least (edge table0 k s more L table) (omega (arith, behind, ge)) before in
        let lt = met.2 in
        let zero = edge-free met.0 met.1 (omega (arith, lt, inside)) in
        let some = met.3 in
        absurd (omega (arith, zero, some))
  ]

  -- A free area begins no later than the edge, too.
  pub room-near : (from n first total t : ℕ) → from ≤ s → IsFirstFreeArea table k counts from n first total → t ≡ n + lacking table k (edge table0 k s more L table) t → edge table0 k s more L table + t ≤ e → first ≤ edge table0 k s more L table
  room-near from n first total t behind room enough inside = elim (cases_lt (edge table0 k s more L table) first) [
    | inr le ↦ le
    | inl before ↦
        let ge = edge-behind in
        absurd (room.least (edge table0 k s more L table) t (omega (arith, behind, ge)) before (record { enough = enough; free = λ c above below. edge-free c above (omega (arith, below, inside)) }))
  ]

-- If `T` clusters hold `n` clusters and the blocks missing for `T`, some `t` up to `T` does so exactly.
module _ (table : TableValue) (k z n : ℕ) where
  pub room-long : (fuel T : ℕ) → T ≤ fuel → n + lacking table k z T ≤ T → (t : ℕ) × (t ≤ T) × (t ≡ n + lacking table k z t)
  room-long zero T none enough = (T, omega arith, omega (arith, none, enough))
  room-long (suc fuel) T few enough = elim (cases_eq T (n + lacking table k z T)) [
    | inl is ↦ (T, omega arith, is)
    | inr apart ↦
        let less : n + lacking table k z T < T = omega (arith, enough, apart) in
        let mono = lacking-longer table k z (n + lacking table k z T) T (omega (arith, less)) in
        let rest = room-long fuel (n + lacking table k z T) (omega (arith, few, less)) (omega (arith, mono)) in
        let le = rest.1 in
        (rest.0, omega (arith, le, less), rest.2)
  ]

-- Blocks are made for a run that was found.
module _ (table0 : TableValue) (s e more L : ℕ) (mark n z end : ℕ) (m m' : Metadata) (fills : FillsFrom mark (z / counters_of_block m.header.fields) end m m') where
  abbrev k : ℕ
  k = counters_of_block m.header.fields

  -- They are before the end of the run.
  pub fill-near : 0 < k → (first len : ℕ) → first / k ≤ z / k → ((i : ℕ) → i < end → i * k < first + len) → mark ≤ z → end ≤ z / k + n → ((c : ℕ) → z ≤ c → c < z + n → counted m c ≡ 0) → (c : ℕ) → counted m' c ≢ counted m c → c < z + made_for m m' first len
  fill-near some first len low all behind few free c changed =
      let most = fills.fewer_by_range first len in
      fills.taken_before_end first len z low all behind refl (λ x above below. free x above (omega (arith, below, most, few))) c changed

  pub room-filled : 0 < k → RoomKept table0 k s e more L m.table (counted m) → s ≤ mark ⊎ (z < s → z + n ≤ s) → mark ≤ z → end ≤ z / k + n → ((i : ℕ) → i < end → i * k < z + n) → ((c : ℕ) → z ≤ c → c < z + n → counted m c ≡ 0)
      → z ≤ edge table0 k s more L m.table → z + n ≤ s + L → RoomKept table0 k s e more L m'.table (counted m')
  room-filled some kept apart behind few all free near inside = record {
    bound = λ c above below there. elim (cases_eq (counted m' c) (counted m c)) [
      | inl same ↦
          let was = kept.bound c above below (omega (arith, same, there)) in
          let le = fills.fewer s L in
          omega (arith, was, le)
      | inr changed ↦ elim (cases_lt z s) [
        | inr past ↦
            let low : s / k ≤ z / k = le-div (s / k) z k some (let under = div-mul-le_self s k in omega (arith, under, past)) in
            let lt = fill-near some s L low (λ i i-lt. let is = all i i-lt in omega (arith, is, inside)) behind few free c changed in
            let le = fills.fewer s L in
            let fewer = kept.fewer in
            omega (arith, lt, le, fewer, near)
        | inl before ↦
            let lt = fill-near some z n (omega arith) all behind few free c changed in
            let most = fills.fewer_by_range z n in
            let ends : z + n ≤ s = elim apart [ inl le ↦ absurd (omega (arith, le, behind, before)) | inr from ↦ from before ] in
            absurd (omega (arith, lt, most, few, ends, above))
      ]
    ];
    fewer = let one = fills.fewer s L in let two = kept.fewer in omega (arith, one, two);
  }

-- The table grows. Its free area is after the edge, or before the free clusters.
module _ (table0 : TableValue) (s e L tc : ℕ) (mark at : ℕ) (m m' : Metadata) (grown : TableGrown mark at m m') where
  abbrev kk : ℕ
  kk = counters_of_block m.header.fields

  -- Newly linked blocks are no longer missing.
  named-anew : grown.first ≢ 0 → (i : ℕ) → lacks m.table kk grown.first grown.total i ≡ true → block_offset (slice_index m'.table.raw_entries i) ≢ 0
  named-anew some i is none =
      let there = place-there (cluster_size m.header.fields) (grown.first + rank (lacks m.table kk grown.first grown.total) i) (pow_pos m.header.fields.cluster_bits) (λ zero. some (omega (arith, zero))) in
      there (sym (grown.news i is) ∙ none)

  still-lacking : grown.first ≢ 0 → (i : ℕ) → block_offset (slice_index m'.table.raw_entries i) ≡ 0 → block_offset (slice_index m.table.raw_entries i) ≡ 0
  still-lacking some i none = elim (cases_Bool (lacks m.table kk grown.first grown.total i)) [
    | inl is ↦ absurd (named-anew some i is none)
    | inr not ↦ sym (grown.olds i (λ so. let both = sym not ∙ so in cc)) ∙ none
  ]

  -- The blocks of the area were missing for a run that contains it, except for those before `s`.
  lacking-beside : grown.first ≢ 0 → 0 < kk → grown.first + grown.total ≤ s + L → lacking m.table kk grown.first grown.total + lacking m'.table kk s L ≤ lacking m.table kk s L + (s / kk - grown.first / kk)
  lacking-beside some wide inside =
      let room : ℕ → Bool = lacks m.table kk grown.first grown.total in
      let new : ℕ → Bool = lacks m'.table kk s L in
      let old : ℕ → Bool = lacks m.table kk s L in
      let all = rank-beside room new old (grown.first / kk) (s / kk) (s + L) (λ i is. (lacks-inside m.table kk grown.first grown.total i is).0)
      (λ i past is. (
        let within = lacks-inside m.table kk grown.first grown.total i is in
            let lt = within.1 in
            lacks-so m.table kk s L i (lacks-none m.table kk grown.first grown.total i is) past (omega (arith, lt, inside)),
        elim (cases_Bool (new i)) [ inl has_no_dirty_data ↦ absurd (named-anew some i is (lacks-none m'.table kk s L i has_no_dirty_data)) | inr gone ↦ gone ],
      ))
      (λ i is. let within = lacks-inside m'.table kk s L i is in lacks-so m.table kk s L i (still-lacking some i (lacks-none m'.table kk s L i is)) within.0 within.1)
      (λ i is. (lacks-inside m'.table kk s L i is).0) in
      let longer = rank-longer room (grown.first + grown.total) (s + L - (grown.first + grown.total)) in
      let same : rank room (grown.first + grown.total + (s + L - (grown.first + grown.total))) ≡ rank room (s + L) = ap (rank room) (let e : grown.first + grown.total + (s + L - (grown.first + grown.total)) ≡ s + L = omega (arith, inside) in e) in
      omega (arith, all, longer, same)

  pub room-grown : 0 < kk → RoomKept table0 kk s e 0 L m.table (counted m) → grown.first ≢ 0 → grown.clusters ≡ tc → grown.first ≤ edge table0 kk s 0 L m.table → grown.first + grown.total ≤ s + L → RoomKept table0 kk s e tc L m'.table (counted m')
  room-grown wide kept some is near inside = record {
    bound = λ c above below there.
        let beside = lacking-beside some wide inside in
        let fewer = kept.fewer in
        let more = grown.counts c in
        elim (cases_eq (counted m c) 0) [
          | inr was ↦
              let lt = kept.bound c above below (omega (arith, was)) in
              let less = lacking-fewer m.table m'.table kk s L (still-lacking some) in
              omega (arith, lt, less)
          | inl none ↦
              let in-room : (grown.first ≤ c) × (c < grown.first + grown.total) = covered-inside c grown.first grown.total (omega (arith, more, none, there)) in
              let from = in-room.0 in
              let to = in-room.1 in
              let enough = grown.room.room.room.enough in
              let step : s / kk ≤ grown.first / kk + (s - grown.first) = elim (cases_lt grown.first s) [
                | inl lt ↦ let q = quotient-step kk grown.first (s - grown.first) wide in let e : (grown.first + (s - grown.first)) / kk ≡ s / kk = ap (λ x. x / kk) (let e' : grown.first + (s - grown.first) ≡ s = omega (arith, lt) in e') in omega (arith, q, e)
                | inr ge ↦ let low : s / kk ≤ grown.first / kk = le-div (s / kk) grown.first kk wide (let under = div-mul-le_self s kk in omega (arith, under, ge)) in omega (arith, low)
              ] in
              omega (arith, beside, fewer, from, to, enough, step, near, is)
        ];
    fewer = let less = lacking-fewer m.table m'.table kk s L (still-lacking some) in let le = kept.fewer in omega (arith, less, le);
  }

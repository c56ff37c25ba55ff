-- Allocating a single cluster, and making its block, leaves no gap after the first-free hint.
use Rattle.std.proofs.Common.{◌≡◌, ℕ, ◌+◌, ◌*◌, ◌/◌, ◌<◌, ◌≤◌, arith, subst, inl, inr, length}
use Rattle.std.proofs.lemmas.Bool.{cases_eq, cases_lt}
use Rattle.std.proofs.Math.Nat.{div-mul-le_self, min-le_left, mul-le-mul}
use Rattle.std.proofs.lemmas.Nat.{le-div}
use Rattle.qcow2_types.specs.Counts.{counters_of_block}
use Rattle.qcow2_alloc.specs.Allocating.{OnlyIncremented}
use Rattle.qcow2_alloc.specs.Crowding.{IsGapless}
use Rattle.qcow2_alloc.specs.FillingBlocks.{FillsFrom}
use Rattle.qcow2_alloc.specs.GrowingTables.{TableGrown}
use Rattle.qcow2_alloc.specs.GuestView.{Metadata, IsSound, counted}
use Rattle.qcow2_alloc.specs.ReadyingBlocks.{HasMade}
use Rattle.qcow2_alloc.specs.SearchingClusters.{IsFirstRun}
use Rattle.qcow2_alloc.proofs.Handing.CountSequences.{counted-still}
use Rattle.qcow2_alloc.proofs.Growth.FirstRooms.{lacking-few}
use Rattle.qcow2_alloc.proofs.Growth.LongerReftables.{covers-inside}
use Rattle.qcow2_alloc.proofs.Space.RoomConsumption.{covered-inside, fill-near, quotient-few, room-long}
use Rattle.qcow2_alloc.proofs.Space.RoomPerTurn.{counted-inside}
use Rattle.qcow2_alloc.proofs.Memory.Patches.{shaped-in}
use Rattle.qcow2_alloc.proofs.Space.SizesOfSpace.{counters-wide}

pub gapless-same : (mark : ℕ) (m m' : Metadata) → ((c : ℕ) → counted m' c ≡ counted m c) → IsGapless mark m m'
gapless-same mark m m' same c none some = absurd (let is = same c in omega (arith, is, none, some))

-- Two steps that leave no gap leave none together.
pub gapless-then : (mark : ℕ) (m0 m m' : Metadata) → IsGapless mark m0 m → OnlyIncremented m m' → IsGapless mark m m' → IsGapless mark m0 m'
gapless-then mark m0 m m' one raised two c none some d from to = elim (cases_eq (counted m c) 0) [
  | inl has_no_dirty_data ↦ two c has_no_dirty_data some d from to
  | inr up ↦ counted-still m m' d raised (one c none (omega (arith, up)) d from to)
]

module _ (mark : ℕ) (m m' : Metadata) (sound : IsSound m) (raised : OnlyIncremented m m') (z : ℕ) (run : IsFirstRun (counted m) mark 1 z) where
  abbrev k : ℕ
  k = counters_of_block m.header.fields

  wide : 64 ≤ k
  wide = counters-wide m.header.fields (shaped-in m.file m.header sound.well_formed.consistent)

  some-counters : 0 < k
  some-counters = let w = wide in omega (arith, w)

  pub counted-before : (d : ℕ) → mark ≤ d → d < z → 0 < counted m d
  counted-before d from to =
      let met = run.least d from to in
      let above = met.1 in
      let below = met.2 in
      let here : met.0 ≡ d = omega (arith, above, below) in
      subst (λ c. 0 < counted m c) here met.3

  -- A block was made for the cluster.
  filled : (last : ℕ) → last ≡ z / k → FillsFrom mark (z / k) (last + 1) m m' → IsGapless mark m m'
  filled last is fills c none some d from to =
      let met = fill-near m.table z z 0 0 mark 1 z (last + 1) m m' fills some-counters z 1 (omega arith) (λ i lt. before i lt) run.not_before_start (omega (arith, is)) (λ x above below. run.free x above below) c (λ same. omega (arith, same, none, some)) in
      let few = fills.fewer_by_range z 1 in
      counted-still m m' d raised (counted-before d from (omega (arith, met, few, is, to)))
    where
      before : (i : ℕ) → i < last + 1 → i * k < z + 1
      before i lt = let le : i * k ≤ z / k * k = mul-le-mul (omega (arith, lt, is)) (omega arith) in let under = div-mul-le_self z k in omega (arith, le, under)

  -- The table has grown: it had no entry for clusters from there on, so none of them was counted.
  past-free : length m.table.raw_entries ≤ z / k → (c : ℕ) → z ≤ c → counted m c ≡ 0
  past-free past c from = elim (cases_eq (counted m c) 0) [
    | inl none ↦ none
    | inr some ↦
        let inside = counted-inside m c sound (omega (arith, some)) in
        let low : z / k ≤ c / k = le-div (z / k) c k some-counters (let under = div-mul-le_self z k in omega (arith, under, from)) in
        absurd (omega (arith, inside, low, past))
  ]

  -- The free area of the table begins no later than the cluster.
  room-early : (at : ℕ) → length m.table.raw_entries ≤ z / k → (grown : TableGrown mark at m m') → grown.first ≤ z
  room-early at past grown = elim (cases_lt z grown.first) [
    | inr le ↦ le
    | inl before ↦
        let most = 2 * grown.clusters + 8 in
        let few = lacking-few m.table k some-counters z most in
        let quotient = quotient-few k most wide in
        let t = room-long m.table k z grown.clusters most most (omega arith) (omega (arith, few, quotient)) in
        let low = min-le_left mark (length m.table.raw_entries * k) in
        let from = run.not_before_start in
        absurd (grown.room.room.least z t.0 (omega (arith, low, from)) before (record { enough = t.2; free = λ c above below. past-free past c above }))
  ]

  grown-gapless : (at : ℕ) → length m.table.raw_entries ≤ z / k → TableGrown mark at m m' → IsGapless mark m m'
  grown-gapless at past grown c none some d from to =
      let more = grown.counts c in
      let inside = covered-inside c grown.first grown.total (omega (arith, more, none, some)) in
      let ends = inside.1 in
      elim (cases_lt d grown.first) [
        | inl before ↦ counted-still m m' d raised (counted-before d from (let early = room-early at past grown in omega (arith, before, early)))
        | inr after ↦ let one = covers-inside d grown.first grown.total after (omega (arith, to, ends)) in let counts = grown.counts d in omega (arith, one, counts)
      ]

  -- Both cases together.
  pub made-gapless : (at first last : ℕ) → first ≡ z / k → last ≡ z / k → HasMade mark at first last m m' → IsGapless mark m m'
  made-gapless at first last first-is last-is (inl (inside, long, fills)) = filled last last-is (subst (λ f. FillsFrom mark f (last + 1) m m') first-is fills)
  made-gapless at first last first-is last-is (inr (past, grown)) = grown-gapless at (omega (arith, past, last-is)) grown

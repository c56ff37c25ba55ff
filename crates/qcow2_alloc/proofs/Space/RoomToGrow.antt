-- If enough space is free, the search for a longer refcount table finds a free area.
use Rattle.std.proofs.Common.{◌≡◌, ℕ, ◌+◌, ◌-◌, ◌*◌, ◌/◌, ◌%◌, ◌^◌, ◌<◌, ◌≤◌, arith, ap, ◌∙◌, inl, inr}
use Rattle.std.proofs.lemmas.Bool.{cases_lt}
use Rattle.std.proofs.Math.Nat.{mul-le-mul, div-mul-le_self, lt-div-mul-add, mul-div_left}
use Rattle.qcow2_metadata.specs.Tables.{IsEnough, IsGrownLength, TableValue}
use Rattle.qcow2_alloc.specs.Growing.{lacking, IsFirstFreeArea}
use Rattle.qcow2_alloc.proofs.Growth.FirstRooms.{lacking-few}
use Rattle.qcow2_alloc.proofs.Space.RoomConsumption.{RoomKept, edge, edge-near, room-near, room-long, quotient-few}

-- The sizes: blocks of `k` counters, and `n` requested clusters, for which `Q` clusters are enough. `Q` clusters fit between `s` and `e`.
pub record AreSizes (k n space Q s e : ℕ) : Type 0 where
  pub wide : 64 ≤ k
  pub narrow : 64 * k ≤ space
  pub some : 1 ≤ n
  pub large : 2 ^ 26 ≤ space
  pub fits : space ≤ 2 ^ 20 * k
  pub enough : space + 48 * n ≤ 16 * Q + 15
  pub span : s + Q ≤ e
  pub ends : e ≤ space

-- The least length of a run in which blocks may be made for `n` clusters.
abbrev pub least_run : ℕ → ℕ
least_run n = n + (n / 32 + 4)

mul-pred : (x k : ℕ) → 0 < k → x * k ≡ x * (k - 1) + x
mul-pred x k some =
    let whole : k ≡ k - 1 + 1 = omega (arith, some) in
    let split : x * (k - 1 + 1) ≡ x * (k - 1) + x = omega arith in
    ap (λ y. x * y) whole ∙ split

module _ (k n space Q s e : ℕ) (sizes : AreSizes k n space Q s e) where
  a-few : n / 32 * 32 ≤ n
  a-few = div-mul-le_self n 32

  a-most : n < n / 32 * 32 + 32
  a-most = lt-div-mul-add (omega arith)

  pub positive : 0 < k
  positive = let w = sizes.wide in omega (arith, w)

  -- A run of that length holds `n` clusters, and the blocks that it can miss.
  pub run-holds : (L : ℕ) → least_run n ≤ L → L / k + 2 + n ≤ L
  run-holds L le = let q = quotient-few k L sizes.wide in let a = a-few in let b = a-most in omega (arith, le, q, a, b)

  pub least-holds : least_run n / k ≤ n / 32
  least-holds = let q = quotient-few k (least_run n) sizes.wide in let a = a-few in let b = a-most in omega (arith, q, a, b)

  pub least-fits : least_run n ≤ Q
  least-fits = let a = a-few in omega (arith, a, sizes.large, sizes.enough)

  -- The table grows for an index after that of the last cluster of a run that begins early.
  module _ (z : ℕ) (from : s ≤ z) (near : z ≤ s + (n / 32 + 2)) where
    abbrev pub at : ℕ
    at = (z + (n - 1)) / k + (n / k + 2)

    -- The number of clusters from `z` on that the blocks before that index count.
    abbrev ahead : ℕ
    ahead = at * k - z

    split : at * k ≡ (z + (n - 1)) / k * k + n / k * k + 2 * k
    split = omega arith

    last-low : (z + (n - 1)) / k * k ≤ z + (n - 1)
    last-low = div-mul-le_self (z + (n - 1)) k

    last-high : z + (n - 1) < (z + (n - 1)) / k * k + k
    last-high = lt-div-mul-add positive

    n-low : n / k * k ≤ n
    n-low = div-mul-le_self n k

    n-high : n < n / k * k + k
    n-high = lt-div-mul-add positive

    pub ahead-one : n + k ≤ ahead
    ahead-one = let x = split in let y = last-high in omega (arith, x, y, sizes.some)

    pub ahead-two : 2 * n + 1 ≤ ahead
    ahead-two = let x = split in let y = last-high in let u = n-high in omega (arith, x, y, u, sizes.some)

    pub ahead-most : ahead ≤ 2 * n + 2 * k
    ahead-most = let x = split in let y = last-low in let u = n-low in omega (arith, x, y, u, sizes.some)

    pub ahead-holds : z + ahead ≡ at * k
    ahead-holds = let x = ahead-one in omega (arith, x, sizes.some)

    pub at-few : at ≤ 2 ^ 20 - 2 ^ 14
    at-few = elim (cases_lt (2 ^ 20 - 2 ^ 14) at) [
      | inr le ↦ le
      | inl over ↦
          let far : (2 ^ 20 - 2 ^ 14 + 1) * k ≤ at * k = mul-le-mul (omega (arith, over)) (omega arith) in
          let x = ahead-holds in
          let y = ahead-most in
          let a = a-few in
          absurd (omega (arith, far, x, y, near, a, sizes.large, sizes.fits, sizes.enough, sizes.span, sizes.ends, sizes.wide))
    ]

    -- A table length that is enough exists.
    module _ (w : ℕ) (raw_entries : 64 ≤ w) (whole : 2 ^ 20 % w ≡ 0) where
      pub longest-enough : IsEnough w k at (2 ^ 20)
      longest-enough = record {
        whole = whole;
        above = let le = at-few in omega (arith, le);
        room =
            let le = at-few in
            let q = quotient-few w (2 ^ 20) raw_entries in
            let more : (2 ^ 20 - at) * 1 ≤ (2 ^ 20 - at) * (k - 1) = mul-le-mul (omega arith) (let wide = sizes.wide in omega (arith, wide)) in
            omega (arith, le, q, more);
      }

      module _ (clusters : ℕ) (long : IsGrownLength w k at (clusters * w)) where
        -- The number of entries after the index.
        abbrev pub behind : ℕ
        behind = clusters * w - at

        short : clusters * w ≤ 2 ^ 20
        short = long.least (2 ^ 20) longest-enough

        pub clusters-few : clusters ≤ 2 ^ 14
        clusters-few = let le : clusters * 64 ≤ clusters * w = mul-le-mul (omega arith) raw_entries in let s' = short in omega (arith, le, s')

        pub behind-few : behind ≤ 2 ^ 20
        behind-few = let s' = short in omega (arith, s')

        blocks : clusters ≤ behind * (k - 1)
        blocks = let is = mul-div_left clusters (let wd : 0 < w = omega (arith, raw_entries) in wd) in let room = long.enough.room in omega (arith, is, room)

        behind-counts : behind * k ≡ behind * (k - 1) + behind
        behind-counts = let p = positive in mul-pred behind k p

        reaches : clusters * w * k ≡ at * k + behind * k
        reaches = let above = long.enough.above in let is : clusters * w ≡ at + behind = omega (arith, above) in ap (λ x. x * k) is ∙ (let e : (at + behind) * k ≡ at * k + behind * k = omega arith in e)

        -- An upper bound on the length of the free area.
        abbrev pub most : ℕ
        most = clusters + behind + 2

        pub most-quotient : most / k ≤ behind
        most-quotient = elim (cases_lt behind (most / k)) [
          | inr le ↦ le
          | inl over ↦
              let far : (behind + 1) * k ≤ most / k * k = mul-le-mul (omega (arith, over)) (omega arith) in
              let e : (behind + 1) * k ≡ behind * k + k = omega arith in
              let under = div-mul-le_self most k in
              let b = blocks in
              let c = behind-counts in
              absurd (omega (arith, far, e, under, b, c, sizes.wide))
        ]

        most-enough : (table : TableValue) (y : ℕ) → clusters + lacking table k y most ≤ most
        most-enough table y = let few = lacking-few table k positive y most in let q = most-quotient in omega (arith, few, q)

        -- The length of a run for the table's free area and for what is made later.
        abbrev pub grown_run : ℕ
        grown_run = ahead + clusters + behind

        run-quotient : grown_run / k ≤ behind + ahead / k
        run-quotient = elim (cases_lt (behind + ahead / k) (grown_run / k)) [
          | inr le ↦ le
          | inl over ↦
              let far : (behind + ahead / k + 1) * k ≤ grown_run / k * k = mul-le-mul (omega (arith, over)) (omega arith) in
              let e : (behind + ahead / k + 1) * k ≡ behind * k + ahead / k * k + k = omega arith in
              let under = div-mul-le_self grown_run k in
              let high : ahead < ahead / k * k + k = lt-div-mul-add positive in
              let b = blocks in
              let c = behind-counts in
              absurd (omega (arith, far, e, under, high, b, c))
        ]

        pub grown-holds : clusters + grown_run / k + 2 + n ≤ grown_run
        grown-holds =
            let q = run-quotient in
            let r = quotient-few k ahead sizes.wide in
            let one = ahead-one in
            let two = ahead-two in
            omega (arith, q, r, one, two, sizes.wide)

        pub grown-least : least_run n ≤ grown_run
        grown-least = let one = ahead-one in let two = ahead-two in let a = a-few in omega (arith, one, two, a, sizes.wide)

        pub grown-fits : grown_run ≤ Q
        grown-fits =
            let x = ahead-most in
            let c = clusters-few in
            let b = behind-few in
            omega (arith, x, c, b, sizes.large, sizes.enough, sizes.narrow)

        pub grown-inside : s + grown_run ≤ clusters * w * k
        grown-inside = let x = ahead-holds in let r = reaches in let b = blocks in let c = behind-counts in omega (arith, x, r, b, c, from)

        -- The free area of the table is in that run.
        module _ (table0 table : TableValue) (counts : ℕ → ℕ) (from' first total L : ℕ) (kept : RoomKept table0 k s e 0 L table counts) (fits : L ≤ Q) (low : least_run n ≤ L) (room : IsFirstFreeArea table k counts from' clusters first total) (early : from' ≤ s) where
          pub room-short : total ≤ most
          room-short =
              let t = room-long table k first clusters most most (omega arith) (most-enough table first) in
              let le = t.1 in
              elim (cases_lt total t.0) [
                | inl less ↦ omega (arith, less, le)
                | inr more ↦ let short' = room.short t.0 (record { enough = t.2; free = λ c above below. room.room.free c above (omega (arith, below, more)) }) in omega (arith, short', le)
              ]

          pub room-early : first ≤ edge table0 k s 0 L table
          room-early =
              let start = edge table0 k s 0 L table in
              let t = room-long table k start clusters most most (omega arith) (most-enough table start) in
              let le = t.1 in
              let near' = edge-near table0 k s e 0 L table counts kept positive in
              let q = quotient-few k L sizes.wide in
              let c = clusters-few in
              let b = behind-few in
              room-near table0 k s e 0 L table counts kept from' clusters first total t.0 early room t.2 (omega (arith, le, near', q, c, b, fits, sizes.large, sizes.enough, sizes.span))

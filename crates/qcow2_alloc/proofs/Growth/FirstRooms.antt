-- The number of blocks that are missing for a run, and the first free area with space for them.
use Rattle.std.proofs.Common.{◌≡◌, ◌≢◌, ℕ, zero, suc, ◌+◌, ◌-◌, ◌*◌, ◌/◌, ◌<◌, ◌≤◌, refl, arith, ap, sym, subst, ◌∙◌, inl, inr, Bool, true, false}
use Rattle.std.specs.Prelude.{◌==◌, ◌&&◌, nat_le, nat_lt, slice_index}
use Rattle.std.proofs.lemmas.Bool.{cases_Bool, cases_eq, cases_lt}
use Rattle.std.proofs.lemmas.Bool.Decides.{nat_tests}
use Rattle.std.proofs.lemmas.Nat.{mod_below}
use Rattle.std.proofs.Math.Nat.{mul-le-mul, mod-add-div', div-mul-le_self}
use Rattle.qcow2_types.specs.Bytes.{sum_below}
use Rattle.qcow2_types.specs.Words.{block_offset}
use Rattle.qcow2_metadata.specs.Tables.{TableValue}
use Rattle.qcow2_alloc.specs.declared.allocation.searching.Run.{Run}
use Rattle.qcow2_alloc.specs.Growing.{lacks, lacking, needed_for, IsFreeArea, IsFreeAreaSoFar, IsFirstFreeArea}
use Rattle.qcow2_alloc.specs.MakingRoom.{rank}
use Rattle.qcow2_alloc.specs.SearchingClusters.{IsFirstRun}
use Rattle.qcow2_alloc.proofs.Growth.LongerReftables.{rank-new, rank-old}

pub rank-more : (p q : ℕ → Bool) (N : ℕ) → ((i : ℕ) → i < N → p i ≡ true → q i ≡ true) → rank p N ≤ rank q N
unfolding sum_below
rank-more p q zero from = omega arith
rank-more p q (suc N) from =
    let below = rank-more p q N (λ i lt. from i (omega (arith, lt))) in
    elim (cases_Bool (p N)) [
      | inl here ↦ let a = rank-new p N here in let b = rank-new q N (from N (omega arith) here) in omega (arith, below, a, b)
      | inr none ↦ let a = rank-old p N none in let b = rank-up q N in omega (arith, below, a, b)
    ]
  where
    rank-up : (r : ℕ → Bool) (i : ℕ) → rank r i ≤ rank r (suc i)
    rank-up r i = elim (cases_Bool (r i)) [
      | inl here ↦ let a = rank-new r i here in omega (arith, a)
      | inr none ↦ let a = rank-old r i none in omega (arith, a)
    ]

rank-none : (p : ℕ → Bool) → rank p 0 ≡ 0
unfolding sum_below
rank-none p = refl

pub rank-stays : (p : ℕ → Bool) (a k : ℕ) → ((i : ℕ) → a ≤ i → i < a + k → p i ≡ false) → rank p (a + k) ≡ rank p a
rank-stays p a zero none = ap (rank p) (omega arith)
rank-stays p a (suc k) none =
    let below = rank-stays p a k (λ i from to. none i from (omega (arith, to))) in
    let next : a + suc k ≡ suc (a + k) = omega arith in
    ap (rank p) next ∙ rank-old p (a + k) (none (a + k) (omega arith) (omega arith)) ∙ below

pub rank-longer : (p : ℕ → Bool) (a k : ℕ) → rank p a ≤ rank p (a + k)
rank-longer p a zero = let same : rank p (a + zero) ≡ rank p a = ap (rank p) (omega arith) in omega (arith, same)
rank-longer p a (suc k) =
    let below = rank-longer p a k in
    let next : rank p (a + suc k) ≡ rank p (suc (a + k)) = ap (rank p) (omega arith) in
    elim (cases_Bool (p (a + k))) [
      | inl here ↦ let r = rank-new p (a + k) here in omega (arith, below, next, r)
      | inr none ↦ let r = rank-old p (a + k) none in omega (arith, below, next, r)
    ]

pub rank-next : (p : ℕ → Bool) (N : ℕ) → rank p N ≤ rank p (suc N)
rank-next p N = elim (cases_Bool (p N)) [
  | inl here ↦ let a = rank-new p N here in omega (arith, a)
  | inr none ↦ let a = rank-old p N none in omega (arith, a)
]

pub rank-fewer : (p q : ℕ → Bool) (k N : ℕ) → ((i : ℕ) → i < N → p i ≡ true → q i ≡ true) → k < N → q k ≡ true → p k ≡ false → rank p N + 1 ≤ rank q N
unfolding sum_below
rank-fewer p q k zero from inside there gone = absurd (omega (arith, inside))
rank-fewer p q k (suc N) from inside there gone = elim (cases_eq k N) [
  | inl last ↦
      let below = rank-more p q N (λ i lt. from i (omega (arith, lt))) in
      let a = rank-old p N (subst (λ i. p i ≡ false) last gone) in
      let b = rank-new q N (subst (λ i. q i ≡ true) last there) in
      omega (arith, below, a, b)
  | inr apart ↦
      let below = rank-fewer p q k N (λ i lt. from i (omega (arith, lt))) (omega (arith, inside, apart)) there gone in
      elim (cases_Bool (p N)) [
        | inl here ↦ let a = rank-new p N here in let b = rank-new q N (from N (omega arith) here) in omega (arith, below, a, b)
        | inr none ↦ elim (cases_Bool (q N)) [
          | inl more ↦ let a = rank-old p N none in let b = rank-new q N more in omega (arith, below, a, b)
          | inr same ↦ let a = rank-old p N none in let b = rank-old q N same in omega (arith, below, a, b)
        ]
      ]
]

pub rank-almost : (p q : ℕ → Bool) (k N : ℕ) → ((i : ℕ) → i ≢ k → q i ≡ true → p i ≡ true) → rank q N ≤ rank p N + 1
unfolding sum_below
rank-almost p q k zero from = omega arith
rank-almost p q k (suc N) from = elim (cases_eq k N) [
  | inl last ↦
      let below = rank-more q p N (λ i lt. from i (omega (arith, lt, last))) in
      elim (cases_Bool (q N)) [
        | inl here ↦ let b = rank-new q N here in let a = rank-next p N in omega (arith, below, a, b)
        | inr none ↦ let b = rank-old q N none in let a = rank-next p N in omega (arith, below, a, b)
      ]
  | inr apart ↦
      let below = rank-almost p q k N from in
      elim (cases_Bool (q N)) [
        | inl here ↦ let b = rank-new q N here in let a = rank-new p N (from N (λ is. apart (sym is)) here) in omega (arith, below, a, b)
        | inr none ↦ let b = rank-old q N none in let a = rank-next p N in omega (arith, below, a, b)
      ]
]

-- The counts of `p` and `q` together exceed that of `u` by at most the size of the window from `a` to `b`.
pub rank-beside : (p q u : ℕ → Bool) (a b N : ℕ) → ((i : ℕ) → p i ≡ true → a ≤ i) → ((i : ℕ) → b ≤ i → p i ≡ true → (u i ≡ true) × (q i ≡ false)) → ((i : ℕ) → q i ≡ true → u i ≡ true) → ((i : ℕ) → q i ≡ true → b ≤ i)
    → rank p N + rank q N ≤ rank u N + (N - a - (N - b))
unfolding sum_below
rank-beside p q u a b zero low both from high = omega arith
rank-beside p q u a b (suc N) low both from high =
    let below = rank-beside p q u a b N low both from high in
    let up = rank-next u N in
    elim (cases_Bool (p N)) [
      | inr none ↦ let x = rank-old p N none in elim (cases_Bool (q N)) [
        | inr none' ↦ let y = rank-old q N none' in omega (arith, below, up, x, y)
        | inl here ↦ let y = rank-new q N here in let z = rank-new u N (from N here) in omega (arith, below, x, y, z)
      ]
      | inl here ↦
          let x = rank-new p N here in
          let ge = low N here in
          elim (cases_lt N b) [
            | inl before ↦ elim (cases_Bool (q N)) [
              | inl there ↦ absurd (let h = high N there in omega (arith, before, h))
              | inr none' ↦ let y = rank-old q N none' in omega (arith, below, up, x, y, ge, before)
            ]
            | inr past ↦
                let two = both N past here in
                let y = rank-old q N two.1 in
                let z = rank-new u N two.0 in
                omega (arith, below, x, y, z)
          ]
    ]

rank-window : (p : ℕ → Bool) (a M N : ℕ) → ((i : ℕ) → p i ≡ true → (a ≤ i) × (i < a + M)) → (rank p N ≤ N - a) × (rank p N ≤ M)
unfolding sum_below
rank-window p a M zero inside = (omega arith, omega arith)
rank-window p a M (suc N) inside =
    let below = rank-window p a M N inside in
    let less = below.0 in
    let most = below.1 in
    elim (cases_Bool (p N)) [
      | inl here ↦ let w = inside N here in let from = w.0 in let to = w.1 in let r = rank-new p N here in (omega (arith, less, from, r), omega (arith, less, from, to, r))
      | inr none ↦ let r = rank-old p N none in (omega (arith, less, r), omega (arith, most, r))
    ]

tests-inside : (w a i p z t : ℕ) → ((w == 0) && (nat_le a i && nat_lt p (z + t))) ≡ true → (a ≤ i) × (p < z + t)
tests-inside w a i p z t is = (grind (arith, nat_tests), grind (arith, nat_tests))

tests-longer : (w a i p z t t' : ℕ) → t ≤ t' → ((w == 0) && (nat_le a i && nat_lt p (z + t))) ≡ true → ((w == 0) && (nat_le a i && nat_lt p (z + t'))) ≡ true
tests-longer w a i p z t t' le is = grind (arith, nat_tests)

tests-before : (w a i p z t : ℕ) → i < a → ((w == 0) && (nat_le a i && nat_lt p (z + t))) ≡ false
tests-before w a i p z t lt = grind (arith, nat_tests)

tests-behind : (w a i p z t : ℕ) → z + t ≤ p → ((w == 0) && (nat_le a i && nat_lt p (z + t))) ≡ false
tests-behind w a i p z t le = grind (arith, nat_tests)

tests-there : (w a i p z t : ℕ) → w ≢ 0 → ((w == 0) && (nat_le a i && nat_lt p (z + t))) ≡ false
tests-there w a i p z t some = grind (arith, nat_tests)

tests-here : (w a i p z t : ℕ) → w ≡ 0 → a ≤ i → p < z + t → ((w == 0) && (nat_le a i && nat_lt p (z + t))) ≡ true
tests-here w a i p z t none from to = grind (arith, nat_tests)

pub index-near : (i k end : ℕ) → 0 < k → i * k < end + k → i ≤ end
index-near zero k end some near = omega arith
index-near (suc i) k end some near =
    let more : suc i * k ≡ i * k + k = simp_suc i k in
    let le : i * 1 ≤ i * k = mul-le-mul (omega arith) some in
    omega (arith, near, more, le)
  where
    simp_suc : (a b : ℕ) → suc a * b ≡ a * b + b
    simp_suc a b = omega arith

module _ (table : TableValue) (k : ℕ) where
  lacks-longer : (z t t' i : ℕ) → t ≤ t' → lacks table k z t i ≡ true → lacks table k z t' i ≡ true
  lacks-longer z t t' i le is = tests-longer (block_offset (slice_index table.raw_entries i)) (z / k) i (i * k) z t t' le is

  pub lacking-longer : (z t t' : ℕ) → t ≤ t' → lacking table k z t ≤ lacking table k z t'
  lacking-longer z t t' le =
      let more = rank-more (lacks table k z t) (lacks table k z t') (z + t) (λ i lt is. lacks-longer z t t' i le is) in
      let on = rank-longer (lacks table k z t') (z + t) (t' - t) in
      let at : rank (lacks table k z t') (z + t + (t' - t)) ≡ rank (lacks table k z t') (z + t') = ap (rank (lacks table k z t')) (omega (arith, le)) in
      omega (arith, more, on, at)

  -- No block is missing before that of the first cluster, or after that of the last one.
  pub lacking-before : (z t : ℕ) → rank (lacks table k z t) (z / k) ≡ 0
  lacking-before z t =
      let on = rank-stays (lacks table k z t) 0 (z / k) (λ i from to. tests-before (block_offset (slice_index table.raw_entries i)) (z / k) i (i * k) z t (omega (arith, to))) in
      let at : rank (lacks table k z t) (0 + z / k) ≡ rank (lacks table k z t) (z / k) = ap (rank (lacks table k z t)) (omega arith) in
      sym at ∙ on ∙ rank-none (lacks table k z t)

  pub lacking-behind : (z t end : ℕ) → z + t ≤ end * k → end ≤ z + t → rank (lacks table k z t) end ≡ lacking table k z t
  lacking-behind z t end far near =
      let on : rank (lacks table k z t) (end + (z + t - end)) ≡ rank (lacks table k z t) end =
      rank-stays (lacks table k z t) end (z + t - end) (λ i from to. let le : end * k ≤ i * k = mul-le-mul from (omega arith) in tests-behind (block_offset (slice_index table.raw_entries i)) (z / k) i (i * k) z t (omega (arith, le, far))) in
      let at : rank (lacks table k z t) (end + (z + t - end)) ≡ lacking table k z t = ap (rank (lacks table k z t)) (omega (arith, near)) in
      sym on ∙ at

  pub lacks-inside : (z t i : ℕ) → lacks table k z t i ≡ true → (z / k ≤ i) × (i * k < z + t)
  lacks-inside z t i is = tests-inside (block_offset (slice_index table.raw_entries i)) (z / k) i (i * k) z t is

  pub lacks-none : (z t i : ℕ) → lacks table k z t i ≡ true → block_offset (slice_index table.raw_entries i) ≡ 0
  lacks-none z t i is = elim (cases_eq (block_offset (slice_index table.raw_entries i)) 0) [
    | inl none ↦ none
    | inr some ↦ absurd (let no = tests-there (block_offset (slice_index table.raw_entries i)) (z / k) i (i * k) z t some in let both = sym no ∙ is in cc)
  ]

  pub lacks-so : (z t i : ℕ) → block_offset (slice_index table.raw_entries i) ≡ 0 → z / k ≤ i → i * k < z + t → lacks table k z t i ≡ true
  lacks-so z t i none from to = tests-here (block_offset (slice_index table.raw_entries i)) (z / k) i (i * k) z t none from to

  -- Counting missing blocks, index by index.
  pub lacking-there : (z t i : ℕ) → block_offset (slice_index table.raw_entries i) ≢ 0 → rank (lacks table k z t) (suc i) ≡ rank (lacks table k z t) i
  lacking-there z t i some = rank-old (lacks table k z t) i (tests-there (block_offset (slice_index table.raw_entries i)) (z / k) i (i * k) z t some)

  pub lacking-here : (z t i : ℕ) → block_offset (slice_index table.raw_entries i) ≡ 0 → z / k ≤ i → i * k < z + t → rank (lacks table k z t) (suc i) ≡ rank (lacks table k z t) i + 1
  lacking-here z t i none from to = rank-new (lacks table k z t) i (tests-here (block_offset (slice_index table.raw_entries i)) (z / k) i (i * k) z t none from to)

  pub lacking-few : 0 < k → (z t : ℕ) → lacking table k z t ≤ t / k + 2
  lacking-few some z t = (rank-window (lacks table k z t) (z / k) (t / k + 2) (z + t) (λ i is.
      let both = tests-inside (block_offset (slice_index table.raw_entries i)) (z / k) i (i * k) z t is in
      let from = both.0 in
      let to = both.1 in (
        from,
        elim (cases_lt i (z / k + (t / k + 2))) [
          | inl lt ↦ lt
          | inr past ↦
              let far : (z / k + (t / k + 2)) * k ≤ i * k = mul-le-mul past (omega arith) in
              let parts : (z / k + (t / k + 2)) * k ≡ z / k * k + t / k * k + 2 * k = omega arith in
              let zs = mod-add-div' z k in
              let ts = mod-add-div' t k in
              let zm = mod_below z k some in
              let tm = mod_below t k some in
              absurd (omega (arith, to, far, parts, zs, ts, zm, tm))
        ],
      ))).1

  pub needed-few : 64 ≤ k → (n : ℕ) (run : Run) → run.len ≤ 2 * n + 4 → needed_for table k n run ≤ 2 * n + 4
  needed-few wide n run few =
      let most = lacking-few (omega (arith, wide)) run.first run.len in
      let le : run.len / k * 64 ≤ run.len / k * k = mul-le-mul (omega arith) wide in
      let whole : run.len / k * k ≤ run.len = div-mul-le_self run.len k in
      omega (arith, most, le, whole, few)

  module _ (counts : ℕ → ℕ) (from n : ℕ) where
    -- No free area begins before the first run.
    pub room-first : (start z : ℕ) → from ≤ start → ((y t : ℕ) → from ≤ y → y < start → IsFreeArea table k counts n y t → ⊥) → IsFirstRun counts start n z → IsFreeAreaSoFar table k counts from n (record { first = z; len = n })
    room-first start z le none run = record {
      not_before_start = let b = run.not_before_start in omega (arith, le, b);
      free = run.free;
      least = λ y t above below room. elim (cases_lt y start) [
        | inl before ↦ none y t above before room
        | inr on ↦
            let met = run.least y on below in
            let is = room.enough in
            let lt = met.2 in
            let zero = room.free met.0 met.1 (omega (arith, lt, is)) in
            let some = met.3 in
            omega (arith, zero, some)
      ];
      short = λ t room. let is = room.enough in omega (arith, is);
    }

    -- The area grows by the missing blocks.
    pub room-longer : (was : Run) → IsFreeAreaSoFar table k counts from n was → IsFirstRun counts was.first (needed_for table k n was) was.first → IsFreeAreaSoFar table k counts from n (record { first = was.first; len = needed_for table k n was })
    room-longer was past run = record {
      not_before_start = past.not_before_start;
      free = run.free;
      least = past.least;
      short = λ t room. let le = lacking-longer was.first was.len t (past.short t room) in let is = room.enough in omega (arith, le, is);
    }

    -- If the longer area isn't free, no free area begins here.
    pub room-over : (was : Run) (z : ℕ) → IsFreeAreaSoFar table k counts from n was → IsFirstRun counts was.first (needed_for table k n was) z → z ≢ was.first → (y t : ℕ) → from ≤ y → y < was.first + 1 → IsFreeArea table k counts n y t → ⊥
    room-over was z past run apart y t above below room = elim (cases_eq y was.first) [
      | inr other ↦ past.least y t above (omega (arith, below, other)) room
      | inl same ↦
          let here : IsFreeArea table k counts n was.first t = subst (λ x. IsFreeArea table k counts n x t) same room in
          let behind = run.not_before_start in
          let met = run.least was.first (omega arith) (omega (arith, behind, apart)) in
          let le = lacking-longer was.first was.len t (past.short t here) in
          let is = here.enough in
          let lt = met.2 in
          let zero = here.free met.0 met.1 (omega (arith, lt, le, is)) in
          let some = met.3 in
          omega (arith, zero, some)
    ]

    -- If no more blocks are missing, it is the first free area.
    pub room-found : (run : Run) → IsFreeAreaSoFar table k counts from n run → run.len ≡ needed_for table k n run → IsFirstFreeArea table k counts from n run.first run.len
    room-found run past enough = record {
      not_before_start = past.not_before_start;
      room = record { enough = enough; free = past.free };
      least = past.least;
      short = past.short;
    }

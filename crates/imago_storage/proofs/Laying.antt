-- The prepared buffers for zeroing a range, and the effect of writing them.
use Rattle.std.proofs.Common.{◌≡◌, refl, ℕ, ◌+◌, ◌-◌, ◌%◌, ◌^◌, ◌<◌, ◌≤◌, max, min, List, ◌++◌, length, replicate, take, arith, sym, ◌∙◌, ap, subst, length-append}
use Rattle.std.specs.Prelude.{slice_index, Result, Ok, Err, OnOk}
use Rattle.std.proofs.lemmas.List.{replicate-append-replicate, take-append-le, take_all}
use Rattle.imago_storage.specs.State.{StorageState}
use Rattle.imago_storage.specs.Through.{round_up, Parts, PaddedWrite, PaddedWriteFailed, PaddedWriteRefused}
use Rattle.imago_storage.specs.Edges.{IsEdge, IsPaddedPart, ZeroesPrepared}
use Rattle.imago_storage.specs.Zeroings.{UnlessLeft}
use Rattle.imago_storage.specs.declared.fault.Fault.{Fault}
use Rattle.imago_storage.specs.declared.fault.Fault.TheVariants.{Unsupported}
use Rattle.imago_storage.specs.declared.zeroing.Zeroing.{Zeroing}
use Rattle.imago_storage.specs.declared.zeroing.Zeroing.TheVariants.{Any, Allocated}
use Rattle.imago_storage.proofs.Calls.{halted-not}
use Rattle.imago_storage.proofs.Pads.{through-narrow, halted-narrow}
use Rattle.imago_storage.proofs.Zeroes.{length_of_zeroes}
use Rattle.imago_storage.proofs.ZeroSteps.{zeroes-taken}
use Rattle.imago_storage.proofs.Edges.{some-here, parts-here, first-here, last-here, first-laid, mid-laid, last-laid, end-is, middle-holds, middle-alone, edges-pad}

-- A list that was overwritten completely.
pub written-back : (xs ys : List ℕ) (n : ℕ) → length xs ≡ n → take n (xs ++ ys) ≡ xs
written-back xs ys n long = take-append-le n xs ys (omega (arith, long)) ∙ take_all n xs (omega (arith, long))

module _ (unit : ℕ) (bytes : List ℕ) (at n i j : ℕ) (first last zeroes : List ℕ) (positive : 0 < unit) (some : 0 < n) (fits : round_up unit (at + n) < 2 ^ 64) (parts : Parts unit at n i j)
    (is-first : IsEdge unit i (length first)) (is-last : IsEdge unit (n - i - j) (length last)) (none : (k : ℕ) → slice_index zeroes k ≡ 0) (room : min (max unit 65536) n ≤ length zeroes) where
  abbrev t : ℕ
  t = n - i - j

  abbrev head : List ℕ
  head = replicate i 0

  abbrev mid : List ℕ
  mid = replicate j 0

  abbrev tail : List ℕ
  tail = replicate (n - i - j) 0

  some-lists : 0 < length head + length mid + length tail
  some-lists = some-here unit at n i j (length head) (length mid) (length tail) (length first) (length first) (length last) (length last) some parts is-first is-last (length_of_zeroes i) (length_of_zeroes j) (length_of_zeroes t) refl refl

  parts-lists : Parts unit at (length head + length mid + length tail) (length head) (length mid)
  parts-lists = parts-here unit at n i j (length head) (length mid) (length tail) (length first) (length first) (length last) (length last) some parts is-first is-last (length_of_zeroes i) (length_of_zeroes j) (length_of_zeroes t) refl refl

  first-lists : IsEdge unit (length head) (length first)
  first-lists = first-here unit at n i j (length head) (length mid) (length tail) (length first) (length first) (length last) (length last) some parts is-first is-last (length_of_zeroes i) (length_of_zeroes j) (length_of_zeroes t) refl refl

  last-lists : IsEdge unit (length tail) (length last)
  last-lists = last-here unit at n i j (length head) (length mid) (length tail) (length first) (length first) (length last) (length last) some parts is-first is-last (length_of_zeroes i) (length_of_zeroes j) (length_of_zeroes t) refl refl

  sum : i + j + (n - i - j) ≡ n
  sum = omega (arith, parts.within)

  all-zeroes : head ++ mid ++ tail ≡ replicate n 0
  all-zeroes = ap (λ (l : List ℕ). l ++ tail) (replicate-append-replicate i j 0) ∙ (replicate-append-replicate (i + j) (n - i - j) 0 ∙ ap (λ (m : ℕ). replicate {A = ℕ} m 0) sum)

  -- The zeroes that are copied over the edges.
  head-is : take i zeroes ≡ head
  head-is = zeroes-taken zeroes i none (omega (arith, room, parts.within, parts.first))

  tail-is : take (n - i - j) zeroes ≡ tail
  tail-is = zeroes-taken zeroes (n - i - j) none (omega (arith, room, parts.tail_below_unit))

  -- The end of the written bytes.
  end-laid : at - at % unit + length (first ++ replicate j 0 ++ last) ≡ round_up unit (at + n)
  end-laid =
      let parts-n : Parts unit at (i + j + (n - i - j)) i j = subst (λ (m : ℕ). Parts unit at m i j) (sym sum) parts in
      omega (
        arith,
        length-append (first ++ replicate j 0) last,
        length-append first (replicate j 0),
        length_of_zeroes j,
        end-is unit at i j (n - i - j) (length first) (length last) positive (omega (arith, sum, some)) parts-n is-first is-last,
        ap (λ (m : ℕ). round_up unit (at + m)) sum,
      )

  pub zeroes-laid : (0 < length (take i zeroes) → IsPaddedPart bytes at (take i zeroes) (at - at % unit) first)
      → (0 < length (take (n - i - j) zeroes) → IsPaddedPart bytes (at + i + j) (take (n - i - j) zeroes) (at + i + j - (at + i + j) % unit) last)
      → ZeroesPrepared unit bytes at n first last zeroes j
  zeroes-laid pads-first pads-last =
      let parts-n : Parts unit at (i + j + (n - i - j)) i j = subst (λ (m : ℕ). Parts unit at m i j) (sym sum) parts in
      let behind : at + i + j ≡ at + length head + length mid = omega (arith, length_of_zeroes i, length_of_zeroes j) in
      record {
        first_units = first-laid unit at n i j i j (n - i - j) (length first) (length first) (length last) (length last) some parts is-first is-last refl refl refl refl refl positive fits;
        mid_units = mid-laid unit at n i j i j (n - i - j) (length first) (length first) (length last) (length last) some parts is-first is-last refl refl refl refl refl positive fits;
        last_units = last-laid unit at n i j i j (n - i - j) (length first) (length first) (length last) (length last) some parts is-first is-last refl refl refl refl refl positive fits;
        most = omega (arith, parts.within);
        pads = subst (λ (l : List ℕ). IsPaddedPart bytes at l (at - at % unit) (first ++ mid ++ last)) all-zeroes
            (edges-pad unit bytes at head mid tail first last positive some-lists parts-lists first-lists last-lists
            (subst (λ (l : List ℕ). 0 < length l → IsPaddedPart bytes at l (at - at % unit) first) head-is pads-first)
            (subst (λ (p : ℕ). 0 < length tail → IsPaddedPart bytes p tail (p - p % unit) last) behind (subst (λ (l : List ℕ). 0 < length l → IsPaddedPart bytes (at + i + j) l (at + i + j - (at + i + j) % unit) last) tail-is pads-last)));
        end = end-laid;
        holds = λ a b from lt to a-whole b-whole. middle-holds unit at i j (n - i - j) (length first) (length last) positive (omega (arith, sum, some)) parts-n is-first is-last a b from lt (omega (arith, to, sum)) a-whole b-whole;
        alone = λ units.
            let whole = middle-alone unit at i j (n - i - j) (length first) (length last) positive (omega (arith, sum, some)) parts-n is-first is-last (units.0, ap (λ (m : ℕ). m % unit) sum ∙ units.1) in
            (whole.0, (whole.1.0, omega (arith, whole.1.1, sum)));
        all_zero = none;
        room = room;
      }

-- Combines two clauses on success.
pub both-ok : {T : Type 0} (result : Result T Fault) (A B C : Type 0) → (A → B → C) → OnOk result A → OnOk result B → OnOk result C
both-ok (Ok x) A B C both first second = both first second
both-ok (Err fault) A B C both first second = first

-- The range was zeroed by writing the prepared buffers.
module _ (unit : ℕ) (positive : 0 < unit) (s a b : StorageState) (same : a ≡ s) (at n : ℕ) (first last zeroes : List ℕ) (mid : ℕ) (some : 0 < n) (prepared_zeroes : ZeroesPrepared unit s.bytes at n first last zeroes mid) where
  pads-here : IsPaddedPart a.bytes at (replicate n 0) (at - at % unit) (first ++ replicate mid 0 ++ last)
  pads-here = subst (λ (f : StorageState). IsPaddedPart f.bytes at (replicate n 0) (at - at % unit) (first ++ replicate mid 0 ++ last)) (sym same) prepared_zeroes.pads

  some-zeroes : 0 < length {A = ℕ} (replicate n 0)
  some-zeroes = omega (arith, length_of_zeroes n, some)

  end-here : at - at % unit + length (first ++ replicate mid 0 ++ last) ≡ round_up unit (at + length {A = ℕ} (replicate n 0))
  end-here = prepared_zeroes.end ∙ ap (λ (m : ℕ). round_up unit (at + m)) (sym (length_of_zeroes n))

  pub laid-through : PaddedWrite unit a b (at - at % unit) (first ++ replicate mid 0 ++ last) → PaddedWrite unit s b at (replicate n 0)
  laid-through through =
      subst (λ (f : StorageState). PaddedWrite unit f b at (replicate n 0)) same
      (through-narrow unit positive a b at (replicate n 0) (at - at % unit) (first ++ replicate mid 0 ++ last) pads-here some-zeroes end-here through)

  pub laid-not : (fault : Fault) → PaddedWriteFailed unit a b (at - at % unit) (first ++ replicate mid 0 ++ last) fault → PaddedWriteRefused unit s b at (replicate n 0) fault
  laid-not fault halted =
      subst (λ (f : StorageState). PaddedWriteRefused unit f b at (replicate n 0) fault) same
      (halted-not unit a b at (replicate n 0) fault (halted-narrow unit positive a b at (replicate n 0) (at - at % unit) (first ++ replicate mid 0 ++ last) pads-here some-zeroes end-here fault halted))

  -- Works with the ends of the whole units in the middle.
  module _ (low high : ℕ) (low-is : low ≡ at - at % unit + length first) (high-is : high ≡ low + mid) where
    start-is : low - length first ≡ at - at % unit
    start-is = omega (arith, low-is)

    mid-is : high - low ≡ mid
    mid-is = omega (arith, high-is)

    pub wholes-through : PaddedWrite unit a b (low - length first) (first ++ replicate (high - low) 0 ++ last) → PaddedWrite unit s b at (replicate n 0)
    wholes-through through =
        laid-through (subst (λ (p : ℕ). PaddedWrite unit a b p (first ++ replicate mid 0 ++ last)) start-is
        (subst (λ (m : ℕ). PaddedWrite unit a b (low - length first) (first ++ replicate m 0 ++ last)) mid-is through))

    wholes-not : (fault : Fault) → PaddedWriteFailed unit a b (low - length first) (first ++ replicate (high - low) 0 ++ last) fault → PaddedWriteRefused unit s b at (replicate n 0) fault
    wholes-not fault halted =
        laid-not fault (subst (λ (p : ℕ). PaddedWriteFailed unit a b p (first ++ replicate mid 0 ++ last) fault) start-is
        (subst (λ (m : ℕ). PaddedWriteFailed unit a b (low - length first) (first ++ replicate m 0 ++ last) fault) mid-is halted))

    pub wholes-left : (zeroing : Zeroing) (fault : Fault) → UnlessLeft zeroing a b (PaddedWriteFailed unit a b (low - length first) (first ++ replicate (high - low) 0 ++ last)) fault → UnlessLeft zeroing s b (PaddedWriteRefused unit s b at (replicate n 0)) fault
    wholes-left Any fault halted = wholes-not fault halted
    wholes-left Allocated Unsupported left = left ∙ same
    wholes-left Allocated fault halted = wholes-not fault halted

-- Replaces the buffers by equal ones.
pub laid-as : (unit : ℕ) (bytes : List ℕ) (at n : ℕ) (first last zeroes first' last' zeroes' : List ℕ) (mid : ℕ) → first' ≡ first → last' ≡ last → zeroes' ≡ zeroes → ZeroesPrepared unit bytes at n first last zeroes mid → ZeroesPrepared unit bytes at n first' last' zeroes' mid
laid-as unit bytes at n first last zeroes first' last' zeroes' mid f l z prepared_zeroes =
    subst (λ (x : List ℕ). ZeroesPrepared unit bytes at n x last' zeroes' mid) (sym f)
    (subst (λ (x : List ℕ). ZeroesPrepared unit bytes at n first x zeroes' mid) (sym l)
    (subst (λ (x : List ℕ). ZeroesPrepared unit bytes at n first last x mid) (sym z) prepared_zeroes))

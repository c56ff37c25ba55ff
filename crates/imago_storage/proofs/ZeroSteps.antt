-- Zeroes that are written in pieces, around the whole units of a range.
use Rattle.std.proofs.Common.{◌≡◌, inl, inr, ℕ, ◌+◌, ◌-◌, ◌*◌, ◌/◌, ◌%◌, ◌<◌, ◌≤◌, min, List, [], ◌++◌, length, take, replicate, arith, sym, ◌∙◌, ap, subst, append_assoc, length-append}
use Rattle.std.specs.Prelude.{slice_index, max, Result, Ok, Err}
use Rattle.std.proofs.lemmas.List.{ext_get_or, length-take, get_or-take, replicate-append-replicate, append-nil}
use Rattle.std.proofs.lemmas.Nat.{div-add-mod', mod_below}
use Rattle.std.proofs.lemmas.Bool.{cases_lt}
use Rattle.std.proofs.Math.Nat.{mul-mod_left}
use Rattle.imago_storage.specs.State.{StorageState, IsUnitRange, unit_of}
use Rattle.imago_storage.specs.Calls.{Cause, Written, NotWritten, RequestsOne}
use Rattle.imago_storage.specs.Through.{HasWholeUnits, RequestsOnce, PaddedWrite, PaddedWriteFailed, PaddedWriteRefused, OneRequest, NoRequest, WriteFailed}
use Rattle.imago_storage.specs.declared.fault.Fault.{Fault}
use Rattle.imago_storage.specs.declared.fault.Fault.TheVariants.{Unsupported, RangeOverflow}
use Rattle.imago_storage.specs.declared.zeroing.Zeroing.{Zeroing}
use Rattle.imago_storage.specs.declared.zeroing.Zeroing.TheVariants.{Any, Allocated}
use Rattle.imago_storage.specs.Zeroings.{UnlessLeft, NotZeroedBy}
use Rattle.imago_storage.proofs.Zeroes.{zero_at, length_of_zeroes}
use Rattle.imago_storage.proofs.Rounding.{sum_of_whole}
use Rattle.imago_storage.proofs.Wholes.{whole-of, difference-whole}
use Rattle.imago_storage.proofs.Calls.{whole_written, whole_refused}
use Rattle.imago_storage.proofs.Parts.{through_both, not_behind, not_longer}
use Rattle.imago_storage.proofs.Fronts.{through_front, not_front, not_before}

-- A prefix of a list of zeroes.
pub zeroes-taken : (zeroes : List ℕ) (n : ℕ) → ((k : ℕ) → slice_index zeroes k ≡ 0) → n ≤ length zeroes → take n zeroes ≡ replicate n 0
zeroes-taken zeroes n none room =
    let long : length (take n zeroes) ≡ n = omega (arith, length-take n zeroes, room) in
    ext_get_or 0 (take n zeroes) (replicate n 0) (long ∙ sym (length_of_zeroes n)) (λ k lt. get_or-take n zeroes k 0 (omega (arith, long, lt)) ∙ (none k ∙ sym (zero_at n k)))

-- A piece ends at a multiple of the piece's length, or with the range. So its length is a multiple of the unit.
count-whole : (unit piece at left count : ℕ) → piece % unit ≡ 0 → at % unit ≡ 0 → left % unit ≡ 0 → at % piece ≤ piece → count ≡ min (piece - at % piece) left → count % unit ≡ 0
count-whole unit piece at left count divides whole rest low is =
    let split : at ≡ at / piece * piece + at % piece = omega (arith, div-add-mod' at piece) in
    let rows : at / piece * piece % unit ≡ 0 = whole-of piece unit (at / piece * piece) divides (mul-mod_left (at / piece) piece) in
    let over : (at - at / piece * piece) % unit ≡ 0 = difference-whole unit (at / piece * piece) at (omega (arith, split)) rows whole in
    let same : at - at / piece * piece ≡ at % piece = omega (arith, split) in
    let room : (piece - at % piece) % unit ≡ 0 = difference-whole unit (at % piece) piece low (ap (λ (m : ℕ). m % unit) (sym same) ∙ over) divides in
    elim (cases_lt (piece - at % piece) left) [
      | inl lt ↦ ap (λ (m : ℕ). m % unit) (let e : count ≡ piece - at % piece = omega (arith, is, lt) in e) ∙ room
      | inr ge ↦ ap (λ (m : ℕ). m % unit) (let e : count ≡ left = omega (arith, is, ge) in e) ∙ rest
    ]

pub piece-units : (unit piece at n d count : ℕ) (zeroes : List ℕ) → 0 < unit → 0 < piece → piece % unit ≡ 0 → IsUnitRange unit at n → d % unit ≡ 0 → d ≤ n → count ≡ min (piece - (at + d) % piece) (n - d) → count ≤ length zeroes
    → (count % unit ≡ 0) × IsUnitRange unit (at + d) (length (take count zeroes))
piece-units unit piece at n d count zeroes positive some divides whole done inside is room =
    let place : (at + d) % unit ≡ 0 = sum_of_whole unit at d positive whole.start done in
    let rest : (n - d) % unit ≡ 0 = difference-whole unit d n inside done whole.size in
    let size : count % unit ≡ 0 = count-whole unit piece (at + d) (n - d) count divides place rest (omega (arith, mod_below (at + d) piece some)) is in
    let long : length (take count zeroes) ≡ count = omega (arith, length-take count zeroes, room) in (
      size,
      record {
        start = place;
        size = ap (λ (m : ℕ). m % unit) long ∙ size;
        fits = omega (arith, whole.fits, long, is, inside);
      },
    )

module _ (unit : ℕ) (positive : 0 < unit) (a b c : StorageState) (at d count : ℕ) (zeroes : List ℕ) (none : (k : ℕ) → slice_index zeroes k ≡ 0) (room : count ≤ length zeroes) (done : PaddedWrite unit a b at (replicate d 0)) where
  behind : (T : ℕ → List ℕ → Type 0) → T (at + d) (take count zeroes) → T (at + length {A = ℕ} (replicate d 0)) (replicate count 0)
  behind T h = subst (λ n. T n (replicate count 0)) (let e : at + d ≡ at + length {A = ℕ} (replicate d 0) = omega (arith, length_of_zeroes d) in e) (subst (T (at + d)) (zeroes-taken zeroes count none room) h)

  -- One more piece is written.
  pub piece-through : PaddedWrite unit b c (at + d) (take count zeroes) → PaddedWrite unit a c at (replicate (d + count) 0)
  piece-through here = subst (PaddedWrite unit a c at) (replicate-append-replicate d count 0) (through_both unit positive a b c at (replicate d 0) (replicate count 0) done (behind (PaddedWrite unit b c) here))

  -- This piece failed.
  pub piece-not : (n : ℕ) → d + count ≤ n → (fault : Fault) → PaddedWriteFailed unit b c (at + d) (take count zeroes) fault → PaddedWriteFailed unit a c at (replicate n 0) fault
  piece-not n inside fault here =
      let so_far : PaddedWriteFailed unit a c at (replicate (d + count) 0) fault = subst (λ l. PaddedWriteFailed unit a c at l fault) (replicate-append-replicate d count 0) (not_behind unit positive a b c at (replicate d 0) (replicate count 0) fault done (behind (λ n l. PaddedWriteFailed unit b c n l fault) here)) in
      subst (λ l. PaddedWriteFailed unit a c at l fault) (replicate-append-replicate (d + count) (n - (d + count)) 0 ∙ ap (λ m. replicate {A = ℕ} m 0) (let e : d + count + (n - (d + count)) ≡ n = omega arith in e))
      (not_longer unit positive a c at (replicate (d + count) 0) (replicate (n - (d + count)) 0) fault so_far)

-- A request for zeroes has the effect of a write of zeroes.
module _ (unit : ℕ) (a b : StorageState) (at n : ℕ) (same : unit ≡ unit_of a.shape) (positive : 0 < unit) (some : 0 < n) (whole : IsUnitRange unit at n) where
  whole-long : IsUnitRange (unit_of a.shape) at (length {A = ℕ} (replicate n 0))
  whole-long = subst (IsUnitRange (unit_of a.shape) at) (sym (length_of_zeroes n)) (subst (λ u. IsUnitRange u at n) same whole)

  pub zeroes-through : Written a b at (replicate n 0) → PaddedWrite unit a b at (replicate n 0)
  zeroes-through written = subst (λ u. PaddedWrite u a b at (replicate n 0)) (sym same) (whole_written a b at (replicate n 0) (omega (arith, same, positive)) (omega (arith, length_of_zeroes n, some)) whole-long written).through

  pub zeroes-not : (fault : Fault) → NotWritten a b at (replicate n 0) fault → PaddedWriteFailed unit a b at (replicate n 0) fault
  zeroes-not fault refused = subst (λ u. PaddedWriteFailed u a b at (replicate n 0) fault) (sym same) (whole_refused a b at (replicate n 0) fault (omega (arith, same, positive)) (omega (arith, length_of_zeroes n, some)) refused).halted

-- A write never fails with `Unsupported`.
pub never-unsupported : (zeroing : Zeroing) (a b : StorageState) (P : Fault → Type 0) (fault : Fault) → (P Unsupported → Cause a.faults b.faults Unsupported) → P fault → UnlessLeft zeroing a b P fault
never-unsupported Any a b P fault cause refused = refused
never-unsupported Allocated a b P Unsupported cause refused = absurd (cause refused)
never-unsupported Allocated a b P fault cause refused = refused

pub halted-left : (zeroing : Zeroing) (unit : ℕ) (a b : StorageState) (at : ℕ) (bytes : List ℕ) (fault : Fault) → PaddedWriteFailed unit a b at bytes fault → UnlessLeft zeroing a b (PaddedWriteFailed unit a b at bytes) fault
halted-left zeroing unit a b at bytes fault refused = never-unsupported zeroing a b (PaddedWriteFailed unit a b at bytes) fault (λ (h : PaddedWriteFailed unit a b at bytes Unsupported). h.cause) refused

-- The error clause of a part implies that of the longer range.
pub left-longer : (zeroing : Zeroing) (a b : StorageState) (P Q : Fault → Type 0) → ((fault : Fault) → P fault → Q fault) → (fault : Fault) → UnlessLeft zeroing a b P fault → UnlessLeft zeroing a b Q fault
left-longer Any a b P Q weaker fault refused = weaker fault refused
left-longer Allocated a b P Q weaker Unsupported refused = refused
left-longer Allocated a b P Q weaker fault refused = weaker fault refused

-- A unit, zeroes and a unit, one after another. Each of the units may be empty.
module _ (unit : ℕ) (positive : 0 < unit) (a b c d : StorageState) (same : unit ≡ unit_of a.shape) (at : ℕ) (first : List ℕ) (n : ℕ) (last : List ℕ) where
  first-of : OneRequest (unit_of a.shape) a b at first → PaddedWrite unit a b at first
  first-of one = subst (λ u. PaddedWrite u a b at first) (sym same) one.through

  behind-first : OneRequest (unit_of a.shape) a b at first → PaddedWrite unit b c (at + length first) (replicate n 0) → PaddedWrite unit a c at (first ++ replicate n 0)
  behind-first one two = through_both unit positive a b c at first (replicate n 0) (first-of one) two

  last-unit : OneRequest (unit_of a.shape) a b at first → PaddedWrite unit b c (at + length first) (replicate n 0) → unit_of c.shape ≡ unit
  last-unit one two = ap unit_of (two.shape ∙ one.through.shape) ∙ sym same

  last-at : at + length first + n ≡ at + length (first ++ replicate n 0)
  last-at = omega (arith, length-append first (replicate n 0), length_of_zeroes n)

  pub edged-through : OneRequest (unit_of a.shape) a b at first → PaddedWrite unit b c (at + length first) (replicate n 0) → OneRequest (unit_of c.shape) c d (at + length first + n) last → PaddedWrite unit a d at (first ++ replicate n 0 ++ last)
  edged-through one two three =
      through_both unit positive a c d at (first ++ replicate n 0) last (behind-first one two)
      (subst (λ p. PaddedWrite unit c d p last) last-at (subst (λ u. PaddedWrite u c d (at + length first + n) last) (last-unit one two) three.through))

  pub last-refused : (fault : Fault) → OneRequest (unit_of a.shape) a b at first → PaddedWrite unit b c (at + length first) (replicate n 0) → NoRequest (unit_of c.shape) c d (at + length first + n) last fault → PaddedWriteFailed unit a d at (first ++ replicate n 0 ++ last) fault
  last-refused fault one two three =
      not_behind unit positive a c d at (first ++ replicate n 0) last fault (behind-first one two)
      (subst (λ p. PaddedWriteFailed unit c d p last fault) last-at (subst (λ u. PaddedWriteFailed u c d (at + length first + n) last fault) (last-unit one two) three.halted))

  pub zeroes-refused : (fault : Fault) → OneRequest (unit_of a.shape) a b at first → PaddedWriteFailed unit b c (at + length first) (replicate n 0) fault → PaddedWriteFailed unit a c at (first ++ replicate n 0 ++ last) fault
  zeroes-refused fault one two =
      not_longer unit positive a c at (first ++ replicate n 0) last fault (not_behind unit positive a b c at first (replicate n 0) fault (first-of one) two)

  pub first-refused : (fault : Fault) → NoRequest (unit_of a.shape) a b at first fault → PaddedWriteFailed unit a b at (first ++ replicate n 0 ++ last) fault
  first-refused fault one =
      not_longer unit positive a b at (first ++ replicate n 0) last fault (not_longer unit positive a b at first (replicate n 0) fault
      (subst (λ u. PaddedWriteFailed u a b at first fault) (sym same) one.halted))

-- Three parts. The second is zeroed first, then the first and the third are written.
module _ (unit : ℕ) (positive : 0 < unit) (at start end : ℕ) (head mid tail all : List ℕ) (is : head ++ mid ++ tail ≡ all) (mid-at : start ≡ at + length head) (tail-at : end ≡ at + length (head ++ mid)) where
  -- The middle failed.
  pub mid-left : (zeroing : Zeroing) (a b : StorageState) (fault : Fault) → UnlessLeft zeroing a b (PaddedWriteFailed unit a b start mid) fault → UnlessLeft zeroing a b (PaddedWriteFailed unit a b at all) fault
  mid-left zeroing a b = left-longer zeroing a b (PaddedWriteFailed unit a b start mid) (PaddedWriteFailed unit a b at all) (λ fault refused.
      subst (λ l. PaddedWriteFailed unit a b at l fault) is (not_longer unit positive a b at (head ++ mid) tail fault (not_before unit a b at head mid fault (subst (λ p. PaddedWriteFailed unit a b p mid fault) mid-at refused))))

  module _ (zeroing : Zeroing) (a b c : StorageState) (first : PaddedWrite unit a b start mid) where
    -- The part before the middle failed.
    pub head-left : (fault : Fault) → PaddedWriteFailed unit b c at head fault → UnlessLeft zeroing a c (PaddedWriteFailed unit a c at all) fault
    head-left fault refused = halted-left zeroing unit a c at all fault
        (subst (λ l. PaddedWriteFailed unit a c at l fault) is (not_longer unit positive a c at (head ++ mid) tail fault (not_front unit positive a b c at head mid fault (subst (λ p. PaddedWrite unit a b p mid) mid-at first) refused)))

    module _ (d : StorageState) (second : PaddedWrite unit b c at head) where
      two : PaddedWrite unit a c at (head ++ mid)
      two = through_front unit positive a b c at head mid (subst (λ p. PaddedWrite unit a b p mid) mid-at first) second

      pub all-through : PaddedWrite unit c d end tail → PaddedWrite unit a d at all
      all-through third = subst (PaddedWrite unit a d at) is (through_both unit positive a c d at (head ++ mid) tail two (subst (λ p. PaddedWrite unit c d p tail) tail-at third))

      -- The part after the middle failed.
      pub tail-left : (fault : Fault) → PaddedWriteFailed unit c d end tail fault → UnlessLeft zeroing a d (PaddedWriteFailed unit a d at all) fault
      tail-left fault refused = halted-left zeroing unit a d at all fault
          (subst (λ l. PaddedWriteFailed unit a d at l fault) is (not_behind unit positive a c d at (head ++ mid) tail fault two (subst (λ p. PaddedWriteFailed unit c d p tail fault) tail-at refused)))

-- The range whose whole units from `start` to `end` are zeroed first, with the parts before and after them.
module _ (first last : List ℕ) (low high start end : ℕ) (before : low ≤ start) (some : start < end) (behind : end ≤ high) where
  abbrev pub front : List ℕ
  front = first ++ replicate (start - low) 0 ++ []

  abbrev pub back : List ℕ
  back = [] ++ replicate (high - end) 0 ++ last

  zeroes-all : replicate {A = ℕ} (start - low) 0 ++ (replicate (end - start) 0 ++ replicate (high - end) 0) ≡ replicate (high - low) 0
  zeroes-all = ap (λ (l : List ℕ). replicate {A = ℕ} (start - low) 0 ++ l) (replicate-append-replicate (end - start) (high - end) 0) ∙
      (replicate-append-replicate (start - low) (end - start + (high - end)) 0 ∙ ap (λ n. replicate {A = ℕ} n 0) (let e : start - low + (end - start + (high - end)) ≡ high - low = omega (arith, before, some, behind) in e))

  front-is : front ≡ first ++ replicate (start - low) 0
  front-is = append-nil (first ++ replicate (start - low) 0)

  pub parts-all : front ++ replicate (end - start) 0 ++ back ≡ first ++ replicate (high - low) 0 ++ last
  parts-all =
      let p = replicate {A = ℕ} (start - low) 0 in
      let q = replicate {A = ℕ} (end - start) 0 in
      let r = replicate {A = ℕ} (high - end) 0 in
      ap (λ (l : List ℕ). l ++ replicate (end - start) 0 ++ back) front-is ∙
      (sym (append_assoc ((first ++ replicate (start - low) 0) ++ replicate (end - start) 0) (replicate (high - end) 0) last) ∙
      ap (λ (l : List ℕ). l ++ last)
      (append_assoc (first ++ replicate (start - low) 0) (replicate (end - start) 0) (replicate (high - end) 0) ∙
      (append_assoc first (replicate (start - low) 0) (replicate (end - start) 0 ++ replicate (high - end) 0) ∙
      ap (λ (l : List ℕ). first ++ l) zeroes-all)))

  pub start-at : (at : ℕ) → at + length first ≡ low → start ≡ at + length front
  start-at at is =
      let long : length front ≡ length first + (start - low) = ap (λ (l : List ℕ). length l) front-is ∙ omega (arith, length-append first (replicate (start - low) 0), length_of_zeroes (start - low)) in
      omega (arith, long, is, before)

  pub end-at : (at : ℕ) → at + length first ≡ low → end ≡ at + length (front ++ replicate (end - start) 0)
  end-at at is = omega (arith, start-at at is, length-append front (replicate (end - start) 0), length_of_zeroes (end - start), some)

-- A call with exactly one request.
pub once-one : {T : Type 0} (old new : StorageState) (n : ℕ) (result : Result T Fault) → RequestsOne old new result → RequestsOnce old new n result
once-one old new n (Ok value) one = λ _. one
once-one old new n (Err fault) one = one

-- An error of a range that doesn't overflow, as the clause of `write`.
pub not-overflowed : (a b : StorageState) (at : ℕ) (bytes : List ℕ) (fault : Fault) → PaddedWriteRefused (unit_of a.shape) a b at bytes fault → WriteFailed a b at bytes fault
not-overflowed a b at bytes RangeOverflow refused = absurd refused.cause
not-overflowed a b at bytes fault refused = refused

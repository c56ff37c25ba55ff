-- The storages of an image, one by one.
use Rattle.std.proofs.Common.{zero, suc, subst, set, inl, inr, ◌≡◌, ℕ, ◌+◌, ◌-◌, ◌<◌, ◌≤◌, max, List, [], ◌∷◌, ◌++◌, length, take, get_or, refl, sym, ap, ◌∙◌, arith}
use Rattle.std.specs.Prelude.{map, replicate, MatchOption, Option, Some, None, Result, Ok, Err, OnOk, IfErr}
use Rattle.std.specs.Slice.{IsItemAt}
use denote.Ref.{Bor}
use Rattle.std.proofs.lemmas.List.{length-map, take_more}
use Rattle.imago_storage.specs.State.{StorageState, IsAlignment, IsAligned, HasRisen, unit_of}
use Rattle.imago_storage.specs.Calls.{Cause, UnchangedButFaults, IsFaultless}
use Rattle.imago_storage.specs.declared.fault.Fault.{Fault}
use Rattle.imago_storage.specs.declared.fault.Fault.TheVariants.{Memory, Storage, RangeOverflow}
use Rattle.imago_formats.specs.VmdkFiles.{IsStopped, unit_of_all}
use Rattle.imago_formats.specs.VmdkLaws.{aligned_files}
use Rattle.imago_storage.specs.Through.{NotRead, Overflows}
use Rattle.std.proofs.Math.Nat.{le_refl}
use Rattle.imago_access.proofs.FilePairs.{is_kept_same, is_kept_both, kept_all_same, faultless_all_same}
use Rattle.imago_access.specs.FileReads.{FileReadCause}
use Rattle.imago_access.specs.Layer.{Layer, unit_of_layer}
use Rattle.imago_access.specs.Refusals.{ReadMappedCause}
use Rattle.imago_access.specs.Files.{UnchangedButMoreFaults, IsStorageAt, Pairs, OverflowsIn, SomeRose, HadNoResourceError, byte_in, greatest}
use Rattle.imago_access.proofs.Units.{alignment_max, overflows_more}

module _ {A : Type 0} (state : A → StorageState) (measure : StorageState → ℕ) where
  -- The greatest value of a measure, with one more storage.
  greatest_push : (s : StorageState) (xs : List A) (x : A) → greatest measure s (map state (xs ++ x ∷ [])) ≡ max (greatest measure s (map state xs)) (measure (state x))
  greatest_push s [] x = refl
  greatest_push s (y ∷ ys) x = ap (λ n. max (measure s) n) (greatest_push (state y) ys x) ∙ omega arith

  pub greatest_more : (s : StorageState) (xs : List A) (i : ℕ) (x : A) → i < length xs → x ≡ get_or xs i x →
      greatest measure s (map state (take (i + 1) xs)) ≡ max (greatest measure s (map state (take i xs))) (measure (state x))
  greatest_more s xs i x h is =
      ap (λ ys. greatest measure s (map state ys)) (take_more xs i x h ∙ ap (λ y. take i xs ++ y ∷ []) (sym is)) ∙ greatest_push s (take i xs) x

-- One of several storages has changed.
module _ {A : Type 0} (state : A → StorageState) where
  pub pairs_at : (R : StorageState → StorageState → Type 0) (olds : List StorageState) (xs : List A) (i : ℕ) (d y : A) → i < length xs →
      ((a : StorageState) → R a (state (get_or xs i d)) → R a (state y)) → Pairs R olds (map state xs) → Pairs R olds (map state (set xs i y))
  pairs_at R olds [] i d y h step pairs = absurd (omega arith)
  pairs_at R [] (z ∷ zs) i d y h step pairs = absurd pairs
  pairs_at R (o ∷ os) (z ∷ zs) zero d y h step pairs = (step o pairs.0, pairs.1)
  pairs_at R (o ∷ os) (z ∷ zs) (suc i) d y h step pairs = (pairs.0, pairs_at R os zs i d y (omega arith) step pairs.1)

  pub rose_at : (olds : List StorageState) (xs : List A) (i : ℕ) (d y : A) → i < length xs →
      HasRisen (state (get_or xs i d)).faults (state y).faults → Pairs IsFaultless olds (map state xs) → SomeRose olds (map state (set xs i y))
  rose_at olds [] i d y h rose pairs = absurd (omega arith)
  rose_at [] (z ∷ zs) i d y h rose pairs = absurd pairs
  rose_at (o ∷ os) (z ∷ zs) zero d y h rose pairs =
      inl (subst (λ (n : ℕ). HasRisen n (state y).faults) pairs.0.0 rose)
  rose_at (o ∷ os) (z ∷ zs) (suc i) d y h rose pairs = inr (rose_at os zs i d y (omega arith) rose pairs.1)

-- A call failed at one of the storages, and none before it had failed.
pub stopped_at : {A : Type 0} (state : A → StorageState) (olds : List StorageState) (xs : List A) (i : ℕ) (d y : A) (e : Fault) → i < length xs →
    Cause (state (get_or xs i d)).faults (state y).faults e → Pairs IsFaultless olds (map state xs) → IsStopped olds (map state (set xs i y)) e
stopped_at state olds xs i d y Memory h cause pairs = tt
stopped_at state olds xs i d y Storage h cause pairs = rose_at state olds xs i d y h cause pairs
stopped_at state olds xs i d y fault h cause pairs = cause

faultless_both : (a b c : StorageState) → IsFaultless b c → IsFaultless a b → IsFaultless a c
faultless_both a b c later first = (later.0 ∙ first.0, later.1 ∙ first.1)

pub faultless_step : (x y : StorageState) → IsFaultless x y → (a : StorageState) → IsFaultless a x → IsFaultless a y
faultless_step x y step a first = faultless_both a x y step first

pub kept_step : (x y : StorageState) → UnchangedButMoreFaults x y → (a : StorageState) → UnchangedButMoreFaults a x → UnchangedButMoreFaults a y
kept_step x y step a first = is_kept_both a x y first step

-- The call was made on the first storage, and the others are unchanged.
pub kept_first : (x y : StorageState) (xs : List StorageState) → UnchangedButMoreFaults x y → Pairs UnchangedButMoreFaults (x ∷ xs) (y ∷ xs)
kept_first x y xs kept = (kept, kept_all_same xs)

-- ---- Reads of one of several storages.

-- A read without a resource error has counted no fault.
pub read_faultless : {T : Type 0} (r : Result T Fault) (a b : StorageState) (place n : ℕ) → UnchangedButFaults a b → OnOk r (b.faults ≡ a.faults) → IfErr r (NotRead a b place n) →
    HadNoResourceError r → IsFaultless a b
read_faultless (Ok v) a b place n kept same why whole = (same, kept.refusals)
read_faultless (Err RangeOverflow) a b place n kept same why whole = (ap (λ (s : StorageState). s.faults) why.1, kept.refusals)
read_faultless (Err Memory) a b place n kept same why whole = absurd whole
read_faultless (Err Storage) a b place n kept same why whole = absurd whole
read_faultless (Err e) a b place n kept same why whole = absurd why

-- The unit of a storage is at most that of all storages.
greatest_first : (measure : StorageState → ℕ) (s : StorageState) (ss : List StorageState) → measure s ≤ greatest measure s ss
greatest_first measure s [] = le_refl (measure s)
greatest_first measure s (t ∷ ts) = omega arith

pub unit_first : (s : StorageState) (ss : List StorageState) → unit_of s.shape ≤ unit_of_all (s ∷ ss)
unit_first s ss = omega (arith, greatest_first (λ t. t.shape.req_align) s ss, greatest_first (λ t. t.shape.mem_align) s ss)

module _ {A : Type 0} (state : A → StorageState) where
  pub all_aligned : ((x : A) → IsAligned (state x).shape) → (s : A) (xs : List A) → IsAlignment (unit_of_all (state s ∷ map state xs))
  all_aligned aligned s xs = let both = aligned_files state aligned s xs in alignment_max _ _ both.0 both.1

  pub read_at_whole : {T : Type 0} (r : Result T Fault) (s : StorageState) (xs : List A) (i : ℕ) (d y : A) (place n : ℕ) → i < length xs →
      UnchangedButFaults (state (get_or xs i d)) (state y) → OnOk r ((state y).faults ≡ (state (get_or xs i d)).faults) →
      IfErr r (NotRead (state (get_or xs i d)) (state y) place n) → HadNoResourceError r → Pairs IsFaultless (s ∷ map state xs) (s ∷ map state (set xs i y))
  read_at_whole r s xs i d y place n h kept same why whole = (
    (refl, refl),
    pairs_at state IsFaultless (map state xs) xs i d y h
        (faultless_step (state (get_or xs i d)) (state y) (read_faultless r (state (get_or xs i d)) (state y) place n kept same why whole)) (faultless_all_same (map state xs)),
  )

  pub read_at_kept : (s : StorageState) (xs : List A) (i : ℕ) (d y : A) → i < length xs → UnchangedButMoreFaults (state (get_or xs i d)) (state y) →
      Pairs UnchangedButMoreFaults (s ∷ map state xs) (s ∷ map state (set xs i y))
  read_at_kept s xs i d y h kept = (
    is_kept_same s,
    pairs_at state UnchangedButMoreFaults (map state xs) xs i d y h
        (kept_step (state (get_or xs i d)) (state y) kept) (kept_all_same (map state xs)),
  )

  pub read_at_cause : (s : StorageState) (xs : List A) (i : ℕ) (d y : A) (offset n : ℕ) (e : Fault) → i < length xs →
      UnchangedButFaults (state (get_or xs i d)) (state y) → NotRead (state (get_or xs i d)) (state y) offset n e →
      FileReadCause (Overflows (unit_of (state (get_or xs i d)).shape) offset n) (s ∷ map state xs) (s ∷ map state (set xs i y)) e
  read_at_cause s xs i d y offset n RangeOverflow h kept why = why.0
  read_at_cause s xs i d y offset n Memory h kept why = (
    (refl, refl),
    pairs_at state IsFaultless (map state xs) xs i d y h (faultless_step (state (get_or xs i d)) (state y) (why, kept.refusals)) (faultless_all_same (map state xs)),
  )
  read_at_cause s xs i d y offset n Storage h kept why = inr (rose_at state (map state xs) xs i d y h why (faultless_all_same (map state xs)))
  read_at_cause s xs i d y offset n e h kept why = absurd why

  -- A range that overflows with the unit of one storage overflows with that of all storages.
  pub overflow_all : ((x : A) → IsAligned (state x).shape) → (s : A) (xs : List A) (k place n : ℕ) →
      OverflowsIn (state s ∷ map state xs) k place n → Overflows (unit_of_all (state s ∷ map state xs)) place n
  overflow_all aligned s xs zero place n over =
      overflows_more (unit_of (state s).shape) (unit_of_all (state s ∷ map state xs)) place n
      (alignment_max (state s).shape.req_align (state s).shape.mem_align (aligned s).requests (aligned s).memory) (all_aligned aligned s xs) (unit_first (state s) (map state xs)) over
  overflow_all aligned s [] (suc k) place n over = absurd over
  overflow_all aligned s (y ∷ ys) (suc k) place n over =
      let le : unit_of_all (state y ∷ map state ys) ≤ unit_of_all (state s ∷ state y ∷ map state ys) = omega arith in
      overflows_more (unit_of_all (state y ∷ map state ys)) (unit_of_all (state s ∷ state y ∷ map state ys)) place n
      (all_aligned aligned y ys) (all_aligned aligned s (y ∷ ys)) le (overflow_all aligned y ys k place n over)

  pub byte_at : (s : StorageState) (xs : List A) (i : ℕ) (d : A) (p : ℕ) → i < length xs → byte_in (map state xs) i p ≡ get_or (state (get_or xs i d)).bytes p 0
  byte_at s [] i d p h = absurd (omega arith)
  byte_at s (y ∷ ys) zero d p h = refl
  byte_at s (y ∷ ys) (suc i) d p h = byte_at s ys i d p (omega arith)

  pub byte_past : (xs : List A) (i p : ℕ) → length xs ≤ i → byte_in (map state xs) i p ≡ 0
  byte_past [] i p h = refl
  byte_past (y ∷ ys) zero p h = absurd (omega arith)
  byte_past (y ∷ ys) (suc i) p h = byte_past ys i p (omega arith)

  -- A range that doesn't fit 64 bits at one storage.
  pub overflow_at : (xs : List A) (i : ℕ) (d : A) (place n : ℕ) → i < length xs → OverflowsIn (map state xs) i place n →
      Overflows (unit_of (state (get_or xs i d)).shape) place n
  overflow_at [] i d place n h passes = absurd (omega arith)
  overflow_at (y ∷ ys) zero d place n h passes = passes
  overflow_at (y ∷ ys) (suc i) d place n h passes = overflow_at ys i d place n (omega arith) passes

  passes_at : (xs : List A) (i : ℕ) (d : A) (place n : ℕ) → i < length xs → Overflows (unit_of (state (get_or xs i d)).shape) place n →
      OverflowsIn (map state xs) i place n
  passes_at [] i d place n h over = absurd (omega arith)
  passes_at (y ∷ ys) zero d place n h over = over
  passes_at (y ∷ ys) (suc i) d place n h over = passes_at ys i d place n (omega arith) over

  pub overflow_past : (xs : List A) (i place n : ℕ) → length xs ≤ i → OverflowsIn (map state xs) i place n → ⊥
  overflow_past [] i place n h passes = passes
  overflow_past (y ∷ ys) zero place n h passes = absurd (omega (arith, h))
  overflow_past (y ∷ ys) (suc i) place n h passes = overflow_past ys i place n (omega (arith, h)) passes

  pub same_at : (xs : List A) (i : ℕ) (d y : A) → i < length xs → state y ≡ state (get_or xs i d) → map state (set xs i y) ≡ map state xs
  same_at [] i d y h e = absurd (omega arith)
  same_at (z ∷ zs) zero d y h e = ap (λ s. s ∷ map state zs) e
  same_at (z ∷ zs) (suc i) d y h e = ap (λ ss. state z ∷ ss) (same_at zs i d y (omega arith) e)

pub read_first_whole : {T : Type 0} (r : Result T Fault) (a b : StorageState) (fs : List StorageState) (place n : ℕ) → UnchangedButFaults a b → OnOk r (b.faults ≡ a.faults) →
    IfErr r (NotRead a b place n) → HadNoResourceError r → Pairs IsFaultless (a ∷ fs) (b ∷ fs)
read_first_whole r a b fs place n kept same why whole = (read_faultless r a b place n kept same why whole, faultless_all_same fs)

pub mapped_cause : (layer : Layer) (overflows : Type 0) (olds news : List StorageState) (place n : ℕ) (e : Fault) → (overflows → Overflows (unit_of_layer layer) place n) →
    FileReadCause overflows olds news e → ReadMappedCause layer place n olds news e
mapped_cause layer overflows olds news place n RangeOverflow over why = over why
mapped_cause layer overflows olds news place n Memory over why = tt
mapped_cause layer overflows olds news place n Storage over why = why
mapped_cause layer overflows olds news place n e over why = absurd why

pub byte_beyond : {A : Type 0} (state : A → StorageState) (s : StorageState) (xs : List A) (k p : ℕ) → length xs < k → byte_in (s ∷ map state xs) k p ≡ 0
byte_beyond state s xs zero p h = absurd (omega arith)
byte_beyond state s xs (suc k) p h = byte_past state xs k p (omega arith)

pub byte_within : {A : Type 0} (state : A → StorageState) (s : StorageState) (xs : List A) (k : ℕ) (d : A) (p : ℕ) → 0 < k → k - 1 < length xs →
    byte_in (s ∷ map state xs) k p ≡ get_or (state (get_or xs (k - 1) d)).bytes p 0
byte_within state s xs zero d p some h = absurd (omega arith)
byte_within state s xs (suc k) d p some h =
    let same : suc k - 1 ≡ k = omega arith in
    byte_at state s xs k d p (omega (arith, h)) ∙ ap (λ i. get_or (state (get_or xs i d)).bytes p 0) (sym same)

pub overflow_beyond : {A : Type 0} (state : A → StorageState) (s : StorageState) (xs : List A) (k place n : ℕ) → length xs < k →
    OverflowsIn (s ∷ map state xs) k place n → ⊥
overflow_beyond state s xs zero place n h passes = absurd (omega (arith, h))
overflow_beyond state s xs (suc k) place n h passes = overflow_past state xs k place n (omega (arith, h)) passes

pub overflow_within : {A : Type 0} (state : A → StorageState) (s : StorageState) (xs : List A) (k : ℕ) (d : A) (place n : ℕ) → 0 < k → k - 1 < length xs →
    OverflowsIn (s ∷ map state xs) k place n → Overflows (unit_of (state (get_or xs (k - 1) d)).shape) place n
overflow_within state s xs zero d place n some h passes = absurd (omega (arith, some))
overflow_within state s xs (suc k) d place n some h passes =
    let same : suc k - 1 ≡ k = omega arith in
    subst (λ i. Overflows (unit_of (state (get_or xs i d)).shape) place n) (sym same) (overflow_at state xs k d place n (omega (arith, h)) passes)

pub passes_within : {A : Type 0} (state : A → StorageState) (s : StorageState) (xs : List A) (k : ℕ) (d : A) (place n : ℕ) → 0 < k → k - 1 < length xs →
    Overflows (unit_of (state (get_or xs (k - 1) d)).shape) place n → OverflowsIn (s ∷ map state xs) k place n
passes_within state s xs zero d place n some h over = absurd (omega (arith, some))
passes_within state s xs (suc k) d place n some h over =
    let same : suc k - 1 ≡ k = omega arith in
    passes_at state xs k d place n (omega (arith, h)) (subst (λ i. Overflows (unit_of (state (get_or xs i d)).shape) place n) same over)

-- The storage with a given index.
storage_at : {A : Type 0} (state : A → StorageState) (xs : List A) (i : ℕ) (x : A) → i < length xs → x ≡ get_or xs i x → IsStorageAt (map state xs) i (state x)
storage_at state [] i x h is = absurd (omega (arith, h))
storage_at state (y ∷ ys) zero x h is = ap state is
storage_at state (y ∷ ys) (suc i) x h is = storage_at state ys i x (omega (arith, h)) is

pub found_file : {A : Type 0} (state : A → StorageState) (xs : List A) (i : ℕ) (r : Option (Bor A)) → IsItemAt xs i r →
    MatchOption r (length (map state xs) ≤ i) (λ s. IsStorageAt (map state xs) i (state s.now))
found_file state xs i None item = omega (arith, item.3, length-map xs state)
found_file state xs i (Some x) item = storage_at state xs i x.now item.3.0 item.1

pub zero_at : (n : ℕ) (xs : List ℕ) (i : ℕ) → xs ≡ replicate n 0 → get_or xs i 0 ≡ 0
zero_at n xs i e = ap (λ ys. get_or ys i 0) e ∙ zeroes n i
  where
    zeroes : (n i : ℕ) → get_or {A = ℕ} (replicate n 0) i 0 ≡ 0
    zeroes zero i = refl
    zeroes (suc n) zero = refl
    zeroes (suc n) (suc i) = zeroes n i

pub on_ok_reads : {T : Type 0} (r : Result T Fault) (P Q : Type 0) → OnOk r P → (P → Q) → OnOk r Q
on_ok_reads (Ok v) P Q holds more = more holds
on_ok_reads (Err e) P Q holds more = tt

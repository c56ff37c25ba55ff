-- The result of a plain read of a whole image.
use Rattle.std.proofs.Common.{◌≡◌, ℕ, ◌+◌, ◌-◌, ◌^◌, ◌<◌, ◌≤◌, refl, arith, ap, sym, subst, ◌∙◌, List, [], ◌∷◌, ◌++◌, length, drop, length-append, length-drop, inl, inr}
use Rattle.std.specs.Prelude.{Bool, true, false, cond, not, nat_le, nat_lt, ◌⊎◌, slice_index, Result, Ok, Err, OnOk, IfErr, Option, Some, None}
use Rattle.std.specs.Option.{is_some, SomeIff}
use Rattle.std.proofs.lemmas.Bool.{cases_lt}
use Rattle.std.proofs.lemmas.Bool.Decides.{nat_tests}
use Rattle.std.proofs.lemmas.List.{get_or-drop, get_or_append_left, get_or-append_right}
use Rattle.imago_storage.specs.State.{StorageState}
use Rattle.imago_storage.specs.Calls.{UnchangedButFaults}
use Rattle.imago_storage.specs.Disk.{Value, byte, Shows}
use Rattle.imago_storage.specs.declared.fault.Fault.{Fault}
use Rattle.imago_storage.specs.declared.fault.Fault.TheVariants.{Memory, Storage, DamagedTable, Unsupported, MissingBelow, RangeOverflow}
use Rattle.qcow2_types.specs.Bytes.{Bytes}
use Rattle.qcow2_types.specs.Header.{Header, header_of, first_fault, has_external_data}
use Rattle.qcow2_types.specs.Disk.{size_in_header, chain_size, in_qcow2, shown}
use Rattle.qcow2_types.specs.Entries.{l1_table_sound}
use Rattle.qcow2_metadata.specs.Loading.{NotLoaded, file}
use Rattle.qimg_core.specs.Plain.{value_at, chain_of, ShowsRange, IsFirstFault, NotShown, NoL1, image_value, value_fault, alone_fault, rules_of_reading, loaded_fault, image_fault, below_size, ImageRefuses, IsImageRead, NotImageRead, MustRefuse}
use Rattle.qimg_core.proofs.PlainReads.Tables.{unshown-as}
use Rattle.qimg_core.proofs.Calls.{kept-none, kept-file}

-- The value at an offset of the chain is that of the image.
pub value-image : (f : Bytes) (H : Header) (p : ℕ) → header_of false f ≡ Ok H → value_at f p ≡ image_value f H.fields p
unfolding value_at image_value
value-image f H p loads =
    ap (λ r. in_qcow2 f (λ _. 0) r p (cond (nat_lt p 0) (byte 0) (byte 0))) loads
    ∙ ap (shown f (λ _. 0) H.fields p) (both-same (nat_lt p 0) (byte 0))
  where
    both-same : (b : Bool) (v : Value) → cond b v v ≡ v
    both-same true v = refl
    both-same false v = refl

-- The start of the range is read, and the rest is 0.
pub front-read : (result : Result (Unit {0}) Fault) (f : Bytes) (H : Header) (offset inside : ℕ) (front whole : List ℕ) → header_of false f ≡ Ok H → inside ≤ length whole → length front ≡ inside → ((i : ℕ) → i < length whole → offset + i < H.fields.size → i < inside)
    → ((i : ℕ) → i < inside → offset + i < H.fields.size) → ((i : ℕ) → slice_index whole i ≡ 0) → OnOk result (Shows (image_value f H.fields) offset front) → OnOk result (ShowsRange f H.fields.size offset (front ++ drop inside whole))
front-read (Err _) f H offset inside front whole loads most long low back blank shows = tt
front-read (Ok _) f H offset inside front whole loads most long low back blank shows = record {
  below = λ i lt less.
      let front' : i < length front = let l : i < inside = low i (omega (arith, length-append front (drop inside whole), length-drop inside whole)) less in omega arith in
      value-image f H (offset + i) loads ∙ (shows i front' ∙ ap byte (sym (get_or_append_left front (drop inside whole) 0 i front')));
  past = λ i lt more. elim (cases_lt i inside) [
    | inl less ↦ let b : offset + i < H.fields.size = back i less in absurd (omega arith)
    | inr le ↦ get_or-append_right front (drop inside whole) inside i 0 long le ∙ (get_or-drop inside whole (i - inside) 0 ∙ blank (inside + (i - inside)))
  ];
}

pub past-read : (f : Bytes) (size offset : ℕ) (whole : List ℕ) → ((i : ℕ) → i < length whole → size ≤ offset + i) → ((i : ℕ) → slice_index whole i ≡ 0) → ShowsRange f size offset whole
past-read f size offset whole past blank = record {
  below = λ i lt less. absurd (let b : size ≤ offset + i = past i lt in omega arith);
  past = λ i lt more. blank i;
}

-- Reading the start of the range failed.
pub front-unread : (result : Result (Unit {0}) Fault) (old new : StorageState) (H : Header) (offset n k : ℕ) → header_of false (file old) ≡ Ok H → n ≡ k → IfErr result (NotShown (image_value (file old) H.fields) old new offset n) → IfErr result (NotShown (value_at (file old)) old new offset k)
front-unread result old new H offset n k loads same why =
    unshown-as result (value_at (file old)) (image_value (file old) H.fields) old old new offset k (kept-none old) refl (λ i lt. value-image (file old) H (offset + i) loads)
    (subst (λ m. IfErr result (NotShown (image_value (file old) H.fields) old new offset m)) same why)

size-loaded : (f : Bytes) (H : Header) → header_of false f ≡ Ok H → chain_size (chain_of f) ≡ H.fields.size
size-loaded f H loads = ap size_in_header loads

-- The rules of a read, in order.
module _ (f : Bytes) (H : Header) (loads : header_of false f ≡ Ok H) (offset n : ℕ) where
  fault-loaded : image_fault f offset n ≡ first_fault (rules_of_reading f H offset n)
  fault-loaded = ap (λ r. loaded_fault f r offset n) loads

  pub l1-first : l1_table_sound f H.fields ≡ false → image_fault f offset n ≡ Some DamagedTable
  l1-first unsound = fault-loaded ∙ (rw unsound refl)

  alone-next : (fault : Option Fault) → l1_table_sound f H.fields ≡ true → alone_fault H ≡ fault → (r : Option Fault) → first_fault ((nat_le (2 ^ 64) (offset + n), RangeOverflow) ∷ []) ≡ r → image_fault f offset n ≡ elim fault [ None ↦ r | Some e ↦ Some e ]
  alone-next fault sound alone r last = fault-loaded ∙ (rw sound (pick (has_external_data H.fields) (is_some H.backing_name) fault alone))
    where
      pick : (a b : Bool) (fault : Option Fault) → first_fault ((a, Unsupported) ∷ (b, MissingBelow) ∷ []) ≡ fault
          → first_fault ((a, Unsupported) ∷ (b, MissingBelow) ∷ (nat_le (2 ^ 64) (offset + n), RangeOverflow) ∷ []) ≡ elim fault [ None ↦ r | Some e ↦ Some e ]
      pick true b fault e = subst (λ x. Some Unsupported ≡ elim x [ None ↦ r | Some e ↦ Some e ]) e refl
      pick false true fault e = subst (λ x. Some MissingBelow ≡ elim x [ None ↦ r | Some e ↦ Some e ]) e refl
      pick false false fault e = subst (λ x. first_fault ((nat_le (2 ^ 64) (offset + n), RangeOverflow) ∷ []) ≡ elim x [ None ↦ r | Some e ↦ Some e ]) e last

  -- The first broken rule is an external data file or a backing file.
  pub alone-first : (fault : Fault) → l1_table_sound f H.fields ≡ true → alone_fault H ≡ Some fault → image_fault f offset n ≡ Some fault
  alone-first fault sound alone = alone-next (Some fault) sound alone _ refl

  -- The first broken rule is the end of the range.
  pub range-first : l1_table_sound f H.fields ≡ true → alone_fault H ≡ None → 2 ^ 64 ≤ offset + n → image_fault f offset n ≡ Some RangeOverflow
  range-first sound alone far = let test : nat_le (2 ^ 64) (offset + n) ≡ true = grind (arith, nat_tests) in alone-next None sound alone (Some RangeOverflow) (rw test refl)

  pub none-first : l1_table_sound f H.fields ≡ true → alone_fault H ≡ None → offset + n < 2 ^ 64 → image_fault f offset n ≡ None
  none-first sound alone near = let test : nat_le (2 ^ 64) (offset + n) ≡ false = grind (arith, nat_tests) in alone-next None sound alone None (rw test refl)

pub alone-inside : (H : Header) → alone_fault H ≡ None → has_external_data H.fields ≡ false
alone-inside H alone = pick (has_external_data H.fields) (is_some H.backing_name) alone
  where
    pick : (a b : Bool) → first_fault ((a, Unsupported) ∷ (b, MissingBelow) ∷ []) ≡ None → a ≡ false
    pick false b e = refl
    pick true b e = absurd cc

pub header-unread : (old new : StorageState) (offset n : ℕ) (fault : Fault) → NotLoaded (header_of false (file old)) old new fault → NotImageRead old new offset n fault
header-unread old new offset n Memory why = why
header-unread old new offset n Storage why = why
header-unread old new offset n fault why = (inl (ap (λ r. loaded_fault (file old) r offset n) why.0), why.1)

-- The L1 table isn't loaded.
pub l1-unread : (old now new : StorageState) (H : Header) (offset n : ℕ) (fault : Fault) → header_of false (file old) ≡ Ok H → file now ≡ file old → now.faults ≡ old.faults → NoL1 now new H.fields fault → NotImageRead old new offset n fault
l1-unread old now new H offset n Memory loads same faults why = why ∙ faults
l1-unread old now new H offset n Storage loads same faults why = record { not_fallen = omega (arith, why.not_fallen); rose = λ few. omega (arith, why.rose few) }
l1-unread old now new H offset n DamagedTable loads same faults why = (inl (l1-first (file old) H loads offset n (ap (λ (f : Bytes). l1_table_sound f H.fields) (sym same) ∙ why.0)), why.1 ∙ faults)
l1-unread old now new H offset n fault loads same faults why = absurd why

-- The image has an external data file or a backing file.
pub alone-unread : (old new : StorageState) (H : Header) (offset n : ℕ) (fault : Fault) → header_of false (file old) ≡ Ok H → l1_table_sound (file old) H.fields ≡ true → new.faults ≡ old.faults → alone_fault H ≡ Some fault → NotImageRead old new offset n fault
alone-unread old new H offset n fault loads sound faults alone = pick (has_external_data H.fields) (is_some H.backing_name) alone
  where
    first : image_fault (file old) offset n ≡ Some fault
    first = alone-first (file old) H loads offset n fault sound alone

    pick : (a b : Bool) → first_fault ((a, Unsupported) ∷ (b, MissingBelow) ∷ []) ≡ Some fault → NotImageRead old new offset n fault
    pick true b e = let same : Unsupported ≡ fault = cc in subst (NotImageRead old new offset n) same (inl (first ∙ ap Some (sym same)), faults)
    pick false true e = let same : MissingBelow ≡ fault = cc in subst (NotImageRead old new offset n) same (inl (first ∙ ap Some (sym same)), faults)
    pick false false e = absurd cc

-- The end of the range doesn't fit 64 bits.
pub range-unread : (old new : StorageState) (H : Header) (offset n : ℕ) → header_of false (file old) ≡ Ok H → l1_table_sound (file old) H.fields ≡ true → new.faults ≡ old.faults → alone_fault H ≡ None → 2 ^ 64 ≤ offset + n → NotImageRead old new offset n RangeOverflow
range-unread old new H offset n loads sound faults alone far = (inl (range-first (file old) H loads offset n sound alone far), faults)

-- The range is read.
pub disk-read : (result : Result (Unit {0}) Fault) (f g : Bytes) (H : Header) (offset : ℕ) (buffer : List ℕ) → header_of false f ≡ Ok H → l1_table_sound f H.fields ≡ true → alone_fault H ≡ None → offset + length buffer < 2 ^ 64 → g ≡ f
    → OnOk result (ShowsRange g H.fields.size offset buffer) → OnOk result (IsImageRead f offset buffer)
disk-read (Err _) f g H offset buffer loads sound alone near same shows = tt
disk-read (Ok _) f g H offset buffer loads sound alone near same shows = record {
  passed = none-first f H loads offset (length buffer) sound alone near;
  shows = subst (λ size. ShowsRange f size offset buffer) (sym (size-loaded f H loads)) (subst (λ (x : Bytes). ShowsRange x H.fields.size offset buffer) same shows);
}

-- A value of the range can't be read.
value-unread : (old new : StorageState) (offset n : ℕ) (fault : Fault) → image_fault (file old) offset n ≡ None → NotShown (value_at (file old)) old new offset (below_size (chain_size (chain_of (file old))) offset n) fault → NotImageRead old new offset n fault
value-unread old new offset n Memory passed why = why
value-unread old new offset n Storage passed why = why
value-unread old new offset n fault passed why = (inr (passed, why.0), why.1)

pub disk-unread : (result : Result (Unit {0}) Fault) (old now new : StorageState) (H : Header) (offset n : ℕ) → header_of false (file old) ≡ Ok H → l1_table_sound (file old) H.fields ≡ true → alone_fault H ≡ None → offset + n < 2 ^ 64 → UnchangedButFaults old now → now.faults ≡ old.faults
    → IfErr result (NotShown (value_at (file now)) now new offset (below_size H.fields.size offset n)) → IfErr result (NotImageRead old new offset n)
disk-unread (Ok _) old now new H offset n loads sound alone near kept faults why = tt
disk-unread (Err fault) old now new H offset n loads sound alone near kept faults why =
    let here : NotShown (value_at (file old)) old new offset (below_size H.fields.size offset n) fault =
    unshown-as (Err fault) (value_at (file old)) (value_at (file now)) old now new offset (below_size H.fields.size offset n) kept faults (λ i lt. ap (λ (f : Bytes). value_at f (offset + i)) (sym (kept-file old now kept))) why in
    value-unread old new offset n fault (none-first (file old) H loads offset n sound alone near)
    (subst (λ size. NotShown (value_at (file old)) old new offset (below_size size offset n) fault) (sym (size-loaded (file old) H loads)) here)

-- The first value that can't be read is unique.
first-unique : (value : ℕ → Value) (offset n : ℕ) (a b : Fault) → IsFirstFault value offset n a → IsFirstFault value offset n b → a ≡ b
first-unique value offset n a b x y = elim (cases_lt x.place y.place) [
  | inl lt ↦ let none : value_fault (value (offset + x.place)) ≡ None = y.before x.place lt in let some : Some a ≡ None = sym x.faulty ∙ none in absurd cc
  | inr ge ↦ elim (cases_lt y.place x.place) [
    | inl lt ↦ let none : value_fault (value (offset + y.place)) ≡ None = x.before y.place lt in let some : Some b ≡ None = sym y.faulty ∙ none in absurd cc
    | inr le ↦
        let same : x.place ≡ y.place = omega arith in
        let both : Some a ≡ Some b = sym x.faulty ∙ (ap (λ p. value_fault (value (offset + p))) same ∙ y.faulty) in
        cc
  ]
]

refusal-unique : (f : Bytes) (offset n : ℕ) (a b : Fault) → ImageRefuses f offset n a → ImageRefuses f offset n b → a ≡ b
refusal-unique f offset n a b (inl x) (inl y) = let both : Some a ≡ Some b = sym x ∙ y in cc
refusal-unique f offset n a b (inl x) (inr y) = let both : Some a ≡ None = sym x ∙ y.0 in absurd cc
refusal-unique f offset n a b (inr x) (inl y) = let both : None ≡ Some b = sym x.0 ∙ y in absurd cc
refusal-unique f offset n a b (inr x) (inr y) = first-unique (value_at f) offset (below_size (chain_size (chain_of f)) offset n) a b x.1 y.1

read-passes : (f : Bytes) (offset : ℕ) (buffer : List ℕ) (fault : Fault) → IsImageRead f offset buffer → ImageRefuses f offset (length buffer) fault → ⊥
read-passes f offset buffer fault read (inl e) = let both : None ≡ Some fault = sym read.passed ∙ e in absurd cc
read-passes f offset buffer fault read (inr y) =
    let first = y.1 in
    let within : first.place < length buffer = omega (arith, first.inside) in
    let small : offset + first.place < chain_size (chain_of f) = omega (arith, first.inside) in
    let none : value_fault (value_at f (offset + first.place)) ≡ None = ap value_fault (read.shows.below first.place within small) in
    let both : None ≡ Some fault = sym none ∙ first.faulty in
    absurd cc

-- If a rule refuses the read, the fault is the one of that rule, `Memory` or `Storage`.
err-must : (old new : StorageState) (offset n : ℕ) (found fault : Fault) → NotImageRead old new offset n found → ImageRefuses (file old) offset n fault → (found ≡ fault) ⊎ ((found ≡ Memory) ⊎ (found ≡ Storage))
err-must old new offset n Memory fault why refuses = inr (inl refl)
err-must old new offset n Storage fault why refuses = inr (inr refl)
err-must old new offset n found fault why refuses = inl (refusal-unique (file old) offset n found fault why.0 refuses)

pub image-must : (result : Result (Unit {0}) Fault) (old new : StorageState) (offset n : ℕ) (buffer : List ℕ) → length buffer ≡ n → OnOk result (IsImageRead (file old) offset buffer) → IfErr result (NotImageRead old new offset n) → (fault : Fault) → ImageRefuses (file old) offset n fault → MustRefuse result fault
image-must (Ok _) old new offset n buffer long read why fault refuses = read-passes (file old) offset buffer fault read (subst (λ k. ImageRefuses (file old) offset k fault) (sym long) refuses)
image-must (Err found) old new offset n buffer long read why fault refuses = err-must old new offset n found fault why refuses

pub sum-fits : (found : Option ℕ) (b : Bool) (a v : ℕ) → SomeIff found (a < 2 ^ 64) v → is_some found ≡ not b → b ≡ false → a < 2 ^ 64
sum-fits (Some x) b a v iff is e = iff.0
sum-fits None true a v iff is e = absurd cc
sum-fits None false a v iff is e = absurd cc

pub sum-passes : (found : Option ℕ) (b : Bool) (a v : ℕ) → SomeIff found (a < 2 ^ 64) v → is_some found ≡ not b → b ≡ true → 2 ^ 64 ≤ a
sum-passes (Some x) true a v iff is e = absurd cc
sum-passes (Some x) false a v iff is e = absurd cc
sum-passes None b a v iff is e = elim (cases_lt a (2 ^ 64)) [ inl lt ↦ absurd (iff lt) | inr le ↦ le ]

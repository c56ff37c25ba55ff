-- A header depends only on the bytes of the first cluster.
use Rattle.std.proofs.Common.{◌≡◌, ℕ, zero, suc, ◌+◌, ◌/◌, ◌<◌, ◌≤◌, refl, arith, ap, sym, ◌∙◌, List, [], ◌∷◌, inl, inr, Some, None, Ok, Err}
use Rattle.std.specs.Str.{is_utf8}
use Rattle.std.specs.Prelude.{drop, Bool, true, false, cond, ◌&&◌, ◌||◌, nat_lt, nat_le, if◌then◌else◌, Option, Result}
use Rattle.std.proofs.lemmas.Bool.{cases_lt, lt-ltb}
use Rattle.std.proofs.lemmas.Bool.Decides.{nat_tests}
use Rattle.std.proofs.Math.Path.{fun_ext}
use Rattle.qcow2_types.specs.Bytes.{Bytes, be, run}
use Rattle.qcow2_types.specs.Header.{Fields, Header, Extension, fields_of, header_of, texts_of, cluster_size, rules_of_kind, rules_of_shape, rules_of_size, rules_of_writing, first_fault, ◌and-then◌, backing_name_read, has_backing_name, extensions_read, extensions_end, extensions_at, extension_at, and_more, after, is_version_3, ◌>>=◌, text_read, last_of, Shaped}
use Rattle.imago_storage.specs.declared.fault.Fault.{Fault}
use Rattle.imago_storage.specs.declared.fault.Fault.TheVariants.{DamagedHeader}
use Rattle.qcow2_types.proofs.Numbers.Splices.{be-same}
use Rattle.qcow2_types.specs.Frames.{Same}

run-same : (f g : Bytes) (i n : ℕ) → Same f g i n → run g i n ≡ run f i n
unfolding run
run-same f g i zero same = refl
run-same f g i (suc n) same =
    let i0 : i + 0 ≡ i = omega arith in
    let here : g i ≡ f i = rw i0 at (same 0 (omega arith)) in
    let rest : run g (i + 1) n ≡ run f (i + 1) n = run-same f g (i + 1) n (λ k lt. let place : i + (1 + k) ≡ i + 1 + k = omega arith in rw place at (same (1 + k) (omega arith))) in
    rw (here, rest) refl

module _ (f g : Bytes) (size : ℕ) (same : Same f g 0 size) where
  at-same : (p : ℕ) → p < size → g p ≡ f p
  at-same p lt = let z : 0 + p ≡ p = omega arith in rw z at (same p lt)

  pub start-be : (i n : ℕ) → i + n ≤ size → be g i n ≡ be f i n
  start-be i n le = be-same g f i i n (λ k lt. at-same (i + k) (omega arith))

  start-run : (i n : ℕ) → i + n ≤ size → run g i n ≡ run f i n
  start-run i n le = run-same f g i n (λ k lt. at-same (i + k) (omega arith))

  pub fields-same : 104 ≤ size → fields_of g ≡ fields_of f
  unfolding fields_of
  fields-same le = rw (
    start-be 4 4 (omega arith),
    start-be 8 8 (omega arith),
    start-be 16 4 (omega arith),
    start-be 20 4 (omega arith),
    start-be 24 8 (omega arith),
    start-be 32 4 (omega arith),
    start-be 36 4 (omega arith),
    start-be 40 8 (omega arith),
    start-be 48 8 (omega arith),
    start-be 56 4 (omega arith),
    start-be 60 4 (omega arith),
    start-be 64 8 (omega arith),
    start-be 72 8 (omega arith),
    start-be 80 8 (omega arith),
    start-be 88 8 (omega arith),
    start-be 96 4 (omega arith),
    start-be 100 4 (omega arith),
  ) refl

  kind-same : 104 ≤ size → first_fault (rules_of_kind g) ≡ first_fault (rules_of_kind f)
  kind-same le = rw (start-be 0 4 (omega arith), start-be 4 4 (omega arith)) refl

  extension-same : (end at : ℕ) → end ≤ size → extension_at g end at ≡ extension_at f end at
  unfolding extension_at
  extension-same end at le = elim (cases_lt end (at + 8)) [
    | inl lt ↦ let past : nat_lt end (at + 8) ≡ true = lt-ltb _ _ lt in rw past refl
    | inr fits ↦
        let kind : be g at 4 ≡ be f at 4 = start-be at 4 (omega arith) in
        let long : be g (at + 4) 4 ≡ be f (at + 4) 4 = start-be (at + 4) 4 (omega arith) in
        elim (cases_lt end (at + 8 + be f (at + 4) 4)) [
          | inl lt ↦ let past : nat_lt end (at + 8 + be f (at + 4) 4) ≡ true = lt-ltb _ _ lt in rw (kind, long, past) refl
          | inr fits' ↦ let held : run g (at + 8) (be f (at + 4) 4) ≡ run f (at + 8) (be f (at + 4) 4) = start-run (at + 8) (be f (at + 4) 4) (omega arith) in rw (kind, long, held) refl
        ]
  ]

  extensions-same : (n end at : ℕ) → end ≤ size → extensions_at n g end at ≡ extensions_at n f end at
  unfolding extensions_at
  extensions-same zero end at le = refl
  extensions-same (suc n) end at le =
      ap (λ r. r >>= and_more (λ x. extensions_at n g end (after at x))) (extension-same end at le)
      ∙ ap (λ (more : Extension → Result (List Extension) Fault). extension_at f end at >>= and_more more) (fun_ext (λ x. extensions-same n end (after at x) le))

  backing-same : (h : Fields) → cluster_size h ≤ size → backing_name_read g h ≡ backing_name_read f h
  backing-same h le = elim (cases_lt (cluster_size h) (h.backing_offset + h.backing_length)) [
    | inl lt ↦ let past : nat_lt (cluster_size h) (h.backing_offset + h.backing_length) ≡ true = lt-ltb _ _ lt in far past
    | inr fits ↦ let name : run g h.backing_offset h.backing_length ≡ run f h.backing_offset h.backing_length = start-run h.backing_offset h.backing_length (omega arith) in
        ap (λ (bytes : List ℕ). elim (has_backing_name h) [ false ↦ Ok None | true ↦ elim (nat_lt 1023 h.backing_length || nat_lt (cluster_size h) (h.backing_offset + h.backing_length)) [ true ↦ Err DamagedHeader | false ↦ if is_utf8 bytes then Ok (Some bytes) else Err DamagedHeader ] ]) name
  ]
    where
      far : nat_lt (cluster_size h) (h.backing_offset + h.backing_length) ≡ true → backing_name_read g h ≡ backing_name_read f h
      far past = split (has_backing_name h) (nat_lt 1023 h.backing_length) (nat_lt (cluster_size h) (h.backing_offset + h.backing_length)) past _ _
        where
          guarded : Bool → Bool → Result (Option (List ℕ)) Fault → Result (Option (List ℕ)) Fault
          guarded a b x = elim a [ false ↦ Ok None | true ↦ elim b [ true ↦ Err DamagedHeader | false ↦ x ] ]

          split : (a b c : Bool) → c ≡ true → (x y : Result (Option (List ℕ)) Fault) → guarded a (b || c) x ≡ guarded a (b || c) y
          split false b c p x y = refl
          split true true c p x y = refl
          split true false c p x y = rw p refl

  extensions_read-same : (h : Fields) → extensions_end h ≤ size → extensions_read g h ≡ extensions_read f h
  extensions_read-same h le = ap (λ (found : Result (List Extension) Fault). elim (is_version_3 h) [ true ↦ found | false ↦ Ok [] ]) (extensions-same (cluster_size h / 8) (extensions_end h) h.header_length le)

-- If an `and-then` chain succeeds, so does its rest, and no rule was broken.
pub and-then-ok : {A : Type 0} (o : Option Fault) (r : Result A Fault) (x : A) → (o and-then r) ≡ Ok x → r ≡ Ok x
and-then-ok None r x e = e
and-then-ok (Some e') r x e = cc

pub and-then-none : {A : Type 0} (o : Option Fault) (r : Result A Fault) (x : A) → (o and-then r) ≡ Ok x → o ≡ None
and-then-none None r x e = refl
and-then-none (Some e') r x e = cc

-- if a `>>=` succeeds, so does its first part
pub bind-ok : {A B : Type 0} (r : Result A Fault) (k : A → Result B Fault) (y : B) → (r >>= k) ≡ Ok y → (x : A) × (r ≡ Ok x) × (k x ≡ Ok y)
bind-ok (Ok x) k y e = (x, refl, e)
bind-ok (Err e') k y e = absurd cc

-- if the backing name is read, the extensions end inside the first cluster
pub end-inside : (f : Bytes) (h : Fields) (name : Option (List ℕ)) → backing_name_read f h ≡ Ok name → extensions_end h ≤ cluster_size h
end-inside f h name read = elim (cases_lt (cluster_size h) (h.backing_offset + h.backing_length)) [
  | inl lt ↦ none (has_backing_name h) (nat_lt 1023 h.backing_length) _ _ (lt-ltb _ _ lt) read
  | inr fits ↦ some (has_backing_name h && nat_le h.header_length h.backing_offset) (omega arith)
]
  where
    read-as : Bool → Bool → Result (Option (List ℕ)) Fault → Result (Option (List ℕ)) Fault
    read-as a b x = elim a [ false ↦ Ok None | true ↦ elim b [ true ↦ Err DamagedHeader | false ↦ x ] ]

    none : (a b c : Bool) (x : Result (Option (List ℕ)) Fault) → c ≡ true → read-as a (b || c) x ≡ Ok name → cond (a && nat_le h.header_length h.backing_offset) h.backing_offset (cluster_size h) ≤ cluster_size h
    none false b c x p e = omega arith
    none true true c x p e = absurd cc
    none true false c x p e = let bad : read-as true c x ≡ Ok name = e in let bad' : read-as true true x ≡ Ok name = (rw p at bad) in absurd cc

    some : (b : Bool) → h.backing_offset ≤ cluster_size h → cond b h.backing_offset (cluster_size h) ≤ cluster_size h
    some true le = le
    some false le = omega arith

-- the texts of a header that loads depend only on the first cluster
pub texts-same : (f g : Bytes) (h : Fields) (H : Header) → Same f g 0 (cluster_size h) → texts_of f h ≡ Ok H → texts_of g h ≡ texts_of f h
unfolding texts_of
texts-same f g h H same loads =
    let name = bind-ok (backing_name_read f h) _ H loads in
    let end : extensions_end h ≤ cluster_size h = end-inside f h name.0 name.1 in
    rw (backing-same f g (cluster_size h) same h (omega arith), extensions_read-same f g (cluster_size h) same h end) refl

-- Even if the header doesn't load, the texts depend only on the first cluster.
pub texts-alike : (f g : Bytes) (h : Fields) → Same f g 0 (cluster_size h) → texts_of g h ≡ texts_of f h
unfolding texts_of
texts-alike f g h same = split (backing_name_read f h) refl
  where
    split : (name : Result (Option (List ℕ)) Fault) → backing_name_read f h ≡ name → texts_of g h ≡ texts_of f h
    split (Ok name) read = rw (backing-same f g (cluster_size h) same h (omega arith), extensions_read-same f g (cluster_size h) same h (end-inside f h name read)) refl
    split (Err e) read = rw (backing-same f g (cluster_size h) same h (omega arith), read) refl

-- The header of a file depends only on the first cluster.
pub header-same : (writing : Bool) (f g : Bytes) (H : Header) → header_of writing f ≡ Ok H → Same f g 0 (cluster_size (fields_of f)) → 104 ≤ cluster_size (fields_of f) → header_of writing g ≡ Ok H
unfolding header_of
header-same writing f g H loads same low =
    let h : Fields = fields_of f in
    let shape = and-then-ok (first_fault (rules_of_kind f)) _ H loads in
    let sizes = and-then-ok (first_fault (rules_of_shape (fields_of f))) _ H shape in
    let last = and-then-ok (first_fault (rules_of_size (fields_of f))) _ H sizes in
    let texts = bind-ok (texts_of f (fields_of f)) _ H last in
    let fields : fields_of g ≡ fields_of f = fields-same f g (cluster_size (fields_of f)) same low in
    let kind : first_fault (rules_of_kind g) ≡ first_fault (rules_of_kind f) = kind-same f g (cluster_size (fields_of f)) same low in
    let read : texts_of g (fields_of f) ≡ texts_of f (fields_of f) = texts-same f g (fields_of f) texts.0 same texts.1 in
    whole kind fields read ∙ loads
  where
    after-kind : Bytes → Fields → Result Header Fault → Result Header Fault
    after-kind b h texts = first_fault (rules_of_shape h) and-then (first_fault (rules_of_size h) and-then (texts >>= λ header. first_fault (rules_of_writing writing h) and-then Ok header))

    whole : first_fault (rules_of_kind g) ≡ first_fault (rules_of_kind f) → fields_of g ≡ fields_of f → texts_of g (fields_of f) ≡ texts_of f (fields_of f) → header_of writing g ≡ header_of writing f
    whole kind fields read =
        ap (λ o. o and-then after-kind g (fields_of g) (texts_of g (fields_of g))) kind
        ∙ (ap (λ h. first_fault (rules_of_kind f) and-then after-kind g h (texts_of g h)) fields
        ∙ ap (λ t. first_fault (rules_of_kind f) and-then after-kind f (fields_of f) t) read)

-- A header that loads has the fields that are in the file.
pub header-fields : (writing : Bool) (f : Bytes) (H : Header) → header_of writing f ≡ Ok H → H.fields ≡ fields_of f
unfolding header_of texts_of
header-fields writing f H loads =
    let shape = and-then-ok (first_fault (rules_of_kind f)) _ H loads in
    let sizes = and-then-ok (first_fault (rules_of_shape (fields_of f))) _ H shape in
    let last = and-then-ok (first_fault (rules_of_size (fields_of f))) _ H sizes in
    let texts = bind-ok (texts_of f (fields_of f)) _ H last in
    let done = and-then-ok (first_fault (rules_of_writing writing (fields_of f))) (Ok texts.0) H texts.2 in
    let a = bind-ok (backing_name_read f (fields_of f)) _ texts.0 texts.1 in
    let b = bind-ok (extensions_read f (fields_of f)) _ texts.0 a.2 in
    let c = bind-ok (text_read (last_of 0xE279_2ACA b.0)) _ texts.0 b.2 in
    let d = bind-ok (text_read (last_of 0x4441_5441 b.0)) _ texts.0 c.2 in
    let same : texts.0 ≡ H = ok-same done in
    let fields : fields_of f ≡ texts.0.fields = ap (λ (r : Header). r.fields) (ok-same d.2) in
    sym (fields ∙ ap (λ (r : Header). r.fields) same)
  where
    ok-same : {A : Type 0} {x y : A} → ◌≡◌ {A = Result A Fault} (Ok x) (Ok y) → x ≡ y
    ok-same e = cc

-- neither of the first two rules is broken
pub two-passed : (a b : Bool) (e e' : Fault) (rest : List (Bool × Fault)) → first_fault ((a, e) ∷ (b, e') ∷ rest) ≡ None → (a ≡ false) × (b ≡ false)
two-passed true b e e' rest none = absurd cc
two-passed false true e e' rest none = absurd cc
two-passed false false e e' rest none = (refl, refl)

-- The refcount width and the cluster size of a header that loads are in their bounds.
pub header-shaped : (writing : Bool) (f : Bytes) (H : Header) → header_of writing f ≡ Ok H → Shaped (fields_of f)
unfolding header_of
header-shaped writing f H loads =
    let h : Fields = fields_of f in
    let shape = and-then-ok (first_fault (rules_of_kind f)) _ H loads in
    let passed : first_fault (rules_of_shape (fields_of f)) ≡ None = and-then-none (first_fault (rules_of_shape (fields_of f))) _ H shape in
    let tests = two-passed (nat_lt (fields_of f).cluster_bits 9 || nat_lt 21 (fields_of f).cluster_bits) (nat_lt 6 (fields_of f).refcount_order) DamagedHeader DamagedHeader (drop 2 (rules_of_shape (fields_of f))) passed in
    let b : (nat_lt (fields_of f).cluster_bits 9 || nat_lt 21 (fields_of f).cluster_bits) ≡ false = tests.0 in
    let o : nat_lt 6 (fields_of f).refcount_order ≡ false = tests.1 in
    record { order = grind (arith, nat_tests); low = grind (arith, nat_tests); high = grind (arith, nat_tests) }

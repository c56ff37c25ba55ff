-- A write of bytes 0 to 63 of a header, and the header that loads after it.
use Rattle.std.proofs.Common.{◌≡◌, ◌≢◌, ℕ, zero, suc, ◌+◌, ◌*◌, ◌/◌, ◌%◌, ◌^◌, ◌<◌, ◌≤◌, refl, arith, ap, sym, subst, ◌∙◌, List, [], ◌∷◌, length, drop, inl, inr, Some, None, Ok, Err}
use Rattle.std.specs.Str.{is_utf8}
use Rattle.std.specs.Prelude.{Bool, true, false, ◌&&◌, ◌||◌, ◌==◌, not, ◌⊎◌, nat_lt, nat_le, if◌then◌else◌, Option, Result}
use Rattle.std.proofs.lemmas.Bool.{cases_eq}
use Rattle.std.proofs.lemmas.Bool.Decides.{nat_tests}
use Rattle.std.proofs.Math.Path.{fun_ext}
use Rattle.imago_storage.specs.declared.fault.Fault.{Fault}
use Rattle.imago_storage.specs.declared.fault.Fault.TheVariants.{DamagedHeader, Unsupported}
use Rattle.qcow2_types.specs.Bytes.{Bytes, be, run, splice}
use Rattle.qcow2_types.specs.Header.{Fields, Header, Shaped, Limited, Extension, entries_of_cluster, fields_of, header_of, texts_of, cluster_size, rules_of_kind, rules_of_shape, rules_of_size, rules_of_writing, first_fault, ◌and-then◌, backing_name_read, has_backing_name, extensions_read, extensions_end, extensions_at, extension_at, and_more, after, is_version_3, ◌>>=◌, text_read, last_of}
use Rattle.qcow2_types.specs.OnDisk.{Holds}
use Rattle.qcow2_types.specs.HeaderBytes.{first_bytes}
use Rattle.qcow2_types.specs.HeaderSwitch.{with_tables_of, with_places, OnlyPlaces, FirstFieldsFit, IsNameAfterFields}
use Rattle.qcow2_types.proofs.Numbers.Digits.{be-below}
use Rattle.qcow2_types.proofs.Numbers.Splices.{be-splice-apart, splice-outside, splice-inside}
use Rattle.qcow2_types.proofs.Fields.HeaderFields.{number-there_4, number-there_8}
use Rattle.qcow2_types.proofs.Fields.HeaderFrame.{header-fields, header-shaped, two-passed}
use Rattle.qcow2_types.proofs.Fields.HeaderLimits.{fields-limited}
use Rattle.qcow2_types.specs.Words.{has_bit, is_cluster_offset, max_offset}
use Rattle.std.proofs.lemmas.Nat.{mul-le, le-div}
use Rattle.std.proofs.Math.Nat.{pow-le-pow_right}

pub length-first_bytes : (h : Fields) → length (first_bytes h) ≡ 64
unfolding first_bytes
length-first_bytes h = refl

-- a header loads if each of its parts does
pub header-made : (writing : Bool) (g : Bytes) (h : Fields) (H : Header) → first_fault (rules_of_kind g) ≡ None → fields_of g ≡ h → first_fault (rules_of_shape h) ≡ None → first_fault (rules_of_size h) ≡ None
    → texts_of g h ≡ Ok H → first_fault (rules_of_writing writing h) ≡ None → header_of writing g ≡ Ok H
unfolding header_of
header-made writing g h H kind fields shape sizes texts last =
    ap (λ o. o and-then after_kind (fields_of g)) kind ∙ (ap after_kind fields ∙ (ap (λ o. o and-then after_shape h) shape ∙ (ap (λ o. o and-then after_sizes h) sizes
    ∙ (ap (λ t. t >>= λ header. first_fault (rules_of_writing writing h) and-then Ok header) texts ∙ ap (λ o. o and-then Ok H) last))))
  where
    after_sizes : Fields → Result Header Fault
    after_sizes x = texts_of g x >>= λ header. first_fault (rules_of_writing writing x) and-then Ok header

    after_shape : Fields → Result Header Fault
    after_shape x = first_fault (rules_of_size x) and-then after_sizes x

    after_kind : Fields → Result Header Fault
    after_kind x = first_fault (rules_of_shape x) and-then after_shape x

-- the rules on magic and version are passed
pub kind-kept : (g : Bytes) → be g 0 4 ≡ 0x5146_49fb → (be g 4 4 ≡ 2) ⊎ (be g 4 4 ≡ 3) → first_fault (rules_of_kind g) ≡ None
kind-kept g magic (inl older) = rw (magic, older) refl
kind-kept g magic (inr newer) = rw (magic, newer) refl

-- the parts of a header that loads
pub record LoadedParts (writing : Bool) (f : Bytes) (H : Header) : Type 0 where
  pub kind : first_fault (rules_of_kind f) ≡ None
  pub shape : first_fault (rules_of_shape (fields_of f)) ≡ None
  pub sizes : first_fault (rules_of_size (fields_of f)) ≡ None
  pub texts : texts_of f (fields_of f) ≡ Ok H
  pub writing_allowed : first_fault (rules_of_writing writing (fields_of f)) ≡ None

pub loaded-parts : (writing : Bool) (f : Bytes) (H : Header) → header_of writing f ≡ Ok H → LoadedParts writing f H
unfolding header_of
loaded-parts writing f H loads =
    let kind = both (first_fault (rules_of_kind f)) _ H loads in
    let shape = both (first_fault (rules_of_shape (fields_of f))) _ H kind.1 in
    let sizes = both (first_fault (rules_of_size (fields_of f))) _ H shape.1 in
    let last = read (texts_of f (fields_of f)) (first_fault (rules_of_writing writing (fields_of f))) H sizes.1 in
    record { kind = kind.0; shape = shape.0; sizes = sizes.0; texts = last.0; writing_allowed = last.1 }
  where
    both : {A : Type 0} (o : Option Fault) (r : Result A Fault) (x : A) → (o and-then r) ≡ Ok x → (o ≡ None) × (r ≡ Ok x)
    both None r x e = (refl, e)
    both (Some e') r x e = absurd cc

    read : (t : Result Header Fault) (o : Option Fault) (x : Header) → (t >>= λ header. o and-then Ok header) ≡ Ok x → (t ≡ Ok x) × (o ≡ None)
    read (Ok y) None x e = (e, refl)
    read (Ok y) (Some e') x e = absurd cc
    read (Err e') o x e = absurd cc

-- the length of a version 3 header that loads is at least 104
pub newer-long : (h : Fields) → first_fault (rules_of_shape h) ≡ None → is_version_3 h ≡ true → 104 ≤ h.header_length
newer-long h none newer =
    let passed = third (nat_lt h.cluster_bits 9 || nat_lt 21 h.cluster_bits) (nat_lt 6 h.refcount_order) (is_version_3 h && (nat_lt h.header_length 104 || nat_lt (cluster_size h) h.header_length)) (drop 3 (rules_of_shape h)) none in
    long (is_version_3 h) (nat_lt (cluster_size h) h.header_length) newer passed
  where
    third : (a b c : Bool) (rest : List (Bool × Fault)) → first_fault ((a, DamagedHeader) ∷ (b, DamagedHeader) ∷ (c, DamagedHeader) ∷ rest) ≡ None → c ≡ false
    third true b c rest none = absurd cc
    third false true c rest none = absurd cc
    third false false true rest none = absurd cc
    third false false false rest none = refl

    long : (a b : Bool) → a ≡ true → (a && (nat_lt h.header_length 104 || b)) ≡ false → 104 ≤ h.header_length
    long true b newer passed = grind (arith, nat_tests)
    long false b newer passed = absurd cc

-- `backing_name_read` as a function of its tests and the name's bytes
abbrev read_as : Bool → Bool → List ℕ → Result (Option (List ℕ)) Fault
read_as named wrong bytes = elim named [ false ↦ Ok None | true ↦ elim wrong [ true ↦ Err DamagedHeader | false ↦ if is_utf8 bytes then Ok (Some bytes) else Err DamagedHeader ] ]

-- the bytes only count if the header has a name
read_as-same : (named wrong : Bool) (x y : List ℕ) → (named ≡ true → x ≡ y) → read_as named wrong x ≡ read_as named wrong y
read_as-same false wrong x y same = refl
read_as-same true wrong x y same = ap (read_as true wrong) (same refl)

-- extensions are only read in version 3
abbrev read_if : Bool → Result (List Extension) Fault → Result (List Extension) Fault
read_if newer found = elim newer [ true ↦ found | false ↦ Ok [] ]

-- the extensions only count if they are read
read_if-same : (newer : Bool) (x y : Result (List Extension) Fault) → (newer ≡ true → x ≡ y) → read_if newer x ≡ read_if newer y
read_if-same false x y same = refl
read_if-same true x y same = ap (read_if true) (same refl)

-- the result of reading, with the size and the tables of other fields
abbrev with_places_read : Fields → Result Header Fault → Result Header Fault
with_places_read other (Ok H) = Ok (with_places other H)
with_places_read other (Err e) = Err e

-- reading in steps doesn't depend on the size and the tables
bind-placed : {A : Type 0} (other : Fields) (r : Result A Fault) (k k' : A → Result Header Fault) → ((x : A) → k' x ≡ with_places_read other (k x)) → (r >>= k') ≡ with_places_read other (r >>= k)
bind-placed other (Ok x) k k' same = same x
bind-placed other (Err e) k k' same = refl

-- the texts don't depend on the size and the tables
texts-placed : (f : Bytes) (other h : Fields) → texts_of f (with_tables_of other h) ≡ with_places_read other (texts_of f h)
unfolding texts_of
texts-placed f other h =
    bind-placed other (backing_name_read f h) _ _ (λ backing. bind-placed other (extensions_read f h) _ _ (λ extensions. bind-placed other (text_read (last_of 0xE279_2ACA extensions)) _ _
    (λ format. bind-placed other (text_read (last_of 0x4441_5441 extensions)) _ _ (λ data_file. refl))))

-- A file whose first 64 bytes were replaced reads the same after them.
module _ (f : Bytes) (bytes : List ℕ) (size : length bytes ≡ 64) where
  be-behind : (i k : ℕ) → 64 ≤ i → be (splice f 0 bytes) i k ≡ be f i k
  be-behind i k le = be-splice-apart f 0 bytes i k (inr (omega arith))

  run-behind : (i k : ℕ) → 64 ≤ i → run (splice f 0 bytes) i k ≡ run f i k
  unfolding run
  run-behind i zero le = refl
  run-behind i (suc k) le =
      let here : splice f 0 bytes i ≡ f i = splice-outside f 0 bytes i (inr (omega arith)) in
      let rest : run (splice f 0 bytes) (i + 1) k ≡ run f (i + 1) k = run-behind (i + 1) k (omega arith) in
      rw (here, rest) refl

  extension-behind : (end at : ℕ) → 64 ≤ at → extension_at (splice f 0 bytes) end at ≡ extension_at f end at
  unfolding extension_at
  extension-behind end at le = rw (be-behind at 4 le, be-behind (at + 4) 4 (omega arith), run-behind (at + 8) (be f (at + 4) 4) (omega arith)) refl

  extensions-behind : (k end at : ℕ) → 64 ≤ at → extensions_at k (splice f 0 bytes) end at ≡ extensions_at k f end at
  unfolding extensions_at
  extensions-behind zero end at le = refl
  extensions-behind (suc k) end at le =
      ap (λ r. r >>= and_more (λ x. extensions_at k (splice f 0 bytes) end (after at x))) (extension-behind end at le)
      ∙ ap (λ (more : Extension → Result (List Extension) Fault). extension_at f end at >>= and_more more) (fun_ext (λ x. extensions-behind k end (after at x) (omega arith)))

  texts-behind : (h : Fields) → IsNameAfterFields h → (is_version_3 h ≡ true → 64 ≤ h.header_length) → texts_of (splice f 0 bytes) h ≡ texts_of f h
  unfolding texts_of
  texts-behind h name rest =
      let named : backing_name_read (splice f 0 bytes) h ≡ backing_name_read f h =
      read_as-same (has_backing_name h) (nat_lt 1023 h.backing_length || nat_lt (cluster_size h) (h.backing_offset + h.backing_length)) _ _ (λ there. run-behind h.backing_offset h.backing_length (name there)) in
      let read : extensions_read (splice f 0 bytes) h ≡ extensions_read f h =
      read_if-same (is_version_3 h) _ _ (λ newer. extensions-behind (cluster_size h / 8) (extensions_end h) h.header_length (rest newer)) in
      rw (named, read) refl

-- The fields of a file that starts with these bytes.
module _ (g : Bytes) (h : Fields) (held : Holds g 0 (first_bytes h)) (fit : FirstFieldsFit h) where
  pub first-magic : be g 0 4 ≡ 0x5146_49fb
  unfolding first_bytes
  first-magic = number-there_4 g 0 (first_bytes h) 0 0x5146_49fb held (omega arith) refl (omega arith)

  pub first-version : be g 4 4 ≡ h.version
  unfolding first_bytes
  first-version = number-there_4 g 0 (first_bytes h) 4 h.version held (omega arith) refl fit.version

  pub first-backing_offset : be g 8 8 ≡ h.backing_offset
  unfolding first_bytes
  first-backing_offset = number-there_8 g 0 (first_bytes h) 8 h.backing_offset held (omega arith) refl fit.backing_offset

  pub first-backing_length : be g 16 4 ≡ h.backing_length
  unfolding first_bytes
  first-backing_length = number-there_4 g 0 (first_bytes h) 16 h.backing_length held (omega arith) refl fit.backing_length

  pub first-cluster_bits : be g 20 4 ≡ h.cluster_bits
  unfolding first_bytes
  first-cluster_bits = number-there_4 g 0 (first_bytes h) 20 h.cluster_bits held (omega arith) refl fit.cluster_bits

  pub first-size : be g 24 8 ≡ h.size
  unfolding first_bytes
  first-size = number-there_8 g 0 (first_bytes h) 24 h.size held (omega arith) refl fit.size

  pub first-crypt_method : be g 32 4 ≡ h.crypt_method
  unfolding first_bytes
  first-crypt_method = number-there_4 g 0 (first_bytes h) 32 h.crypt_method held (omega arith) refl fit.crypt_method

  pub first-l1_entries : be g 36 4 ≡ h.l1_entries
  unfolding first_bytes
  first-l1_entries = number-there_4 g 0 (first_bytes h) 36 h.l1_entries held (omega arith) refl fit.l1_entries

  pub first-l1_offset : be g 40 8 ≡ h.l1_offset
  unfolding first_bytes
  first-l1_offset = number-there_8 g 0 (first_bytes h) 40 h.l1_offset held (omega arith) refl fit.l1_offset

  pub first-refcount_table_offset : be g 48 8 ≡ h.refcount_table_offset
  unfolding first_bytes
  first-refcount_table_offset = number-there_8 g 0 (first_bytes h) 48 h.refcount_table_offset held (omega arith) refl fit.refcount_table_offset

  pub first-refcount_table_clusters : be g 56 4 ≡ h.refcount_table_clusters
  unfolding first_bytes
  first-refcount_table_clusters = number-there_4 g 0 (first_bytes h) 56 h.refcount_table_clusters held (omega arith) refl fit.refcount_table_clusters

  pub first-snapshots : be g 60 4 ≡ h.snapshots
  unfolding first_bytes
  first-snapshots = number-there_4 g 0 (first_bytes h) 60 h.snapshots held (omega arith) refl fit.snapshots

-- a file holds the bytes that were spliced in at offset 0
pub splice-holds : (f : Bytes) (bytes : List ℕ) → Holds (splice f 0 bytes) 0 bytes
splice-holds f bytes k inside = splice-inside f 0 bytes k inside

module _ (f : Bytes) (other h : Fields) (is : fields_of f ≡ h) (fit : FirstFieldsFit (with_tables_of other h)) where
  -- the fields after the write: those after byte 63 don't change
  switch-fields : fields_of (splice f 0 (first_bytes (with_tables_of other h))) ≡ with_tables_of other h
  unfolding fields_of
  switch-fields =
      let w : Fields = with_tables_of other h in
      let b : List ℕ = first_bytes (with_tables_of other h) in
      let g : Bytes = splice f 0 (first_bytes (with_tables_of other h)) in
      let held : Holds (splice f 0 (first_bytes (with_tables_of other h))) 0 (first_bytes (with_tables_of other h)) = splice-holds f b in
      let size : length (first_bytes (with_tables_of other h)) ≡ 64 = length-first_bytes w in
      let version : be f 4 4 ≡ h.version = ap (λ (x : Fields). x.version) is in
      let snapshots_offset : be f 64 8 ≡ h.snapshots_offset = ap (λ (x : Fields). x.snapshots_offset) is in
      let incompatible = ap (λ (x : Fields). x.incompatible) is in
      let compatible = ap (λ (x : Fields). x.compatible) is in
      let autoclear = ap (λ (x : Fields). x.autoclear) is in
      let order = ap (λ (x : Fields). x.refcount_order) is in
      let long = ap (λ (x : Fields). x.header_length) is in
      rw (
        first-version g w held fit,
        first-backing_offset g w held fit,
        first-backing_length g w held fit,
        first-cluster_bits g w held fit,
        first-size g w held fit,
        first-crypt_method g w held fit,
        first-l1_entries g w held fit,
        first-l1_offset g w held fit,
        first-refcount_table_offset g w held fit,
        first-refcount_table_clusters g w held fit,
        first-snapshots g w held fit,
        be-behind f b size 64 8 (omega arith),
        be-behind f b size 72 8 (omega arith),
        be-behind f b size 80 8 (omega arith),
        be-behind f b size 88 8 (omega arith),
        be-behind f b size 96 4 (omega arith),
        be-behind f b size 100 4 (omega arith),
        snapshots_offset,
        rw version at incompatible,
        rw version at compatible,
        rw version at autoclear,
        rw version at order,
        rw version at long,
      ) refl

-- a header that loads has version 2 or 3
pub version-known : (f : Bytes) → first_fault (rules_of_kind f) ≡ None → (be f 4 4 ≡ 2) ⊎ (be f 4 4 ≡ 3)
version-known f none = either (cases_eq (be f 4 4) 2) (cases_eq (be f 4 4) 3)
  where
    tests : (not (be f 0 4 == 0x5146_49fb) ≡ false) × (not ((be f 4 4 == 2) || (be f 4 4 == 3)) ≡ false)
    tests = two-passed (not (be f 0 4 == 0x5146_49fb)) (not ((be f 4 4 == 2) || (be f 4 4 == 3))) DamagedHeader Unsupported [] none

    either : (be f 4 4 ≡ 2) ⊎ (be f 4 4 ≢ 2) → (be f 4 4 ≡ 3) ⊎ (be f 4 4 ≢ 3) → (be f 4 4 ≡ 2) ⊎ (be f 4 4 ≡ 3)
    either (inl older) b = inl older
    either (inr a) (inl newer) = inr newer
    either (inr a) (inr b) = let known : not ((be f 4 4 == 2) || (be f 4 4 == 3)) ≡ false = tests.1 in absurd (grind (arith, nat_tests))

version-there : (f : Bytes) (h : Fields) → fields_of f ≡ h → be f 4 4 ≡ h.version
unfolding fields_of
version-there f h is = ap (λ (x : Fields). x.version) is

-- The header after the write is the old one with the written size and tables.
pub switch-header : (writing : Bool) (f : Bytes) (H H' : Header) → header_of writing f ≡ Ok H → OnlyPlaces H H' → FirstFieldsFit H'.fields → first_fault (rules_of_size H'.fields) ≡ None → IsNameAfterFields H.fields
    → header_of writing (splice f 0 (first_bytes H'.fields)) ≡ Ok H'
switch-header writing f H H' loads only fit sizes name =
    let fields : H'.fields ≡ with_tables_of H'.fields H.fields = ap (λ (r : Header). r.fields) only.same in
    let placed : header_of writing (splice f 0 (first_bytes (with_tables_of H'.fields H.fields))) ≡ Ok (with_places H'.fields H) =
    go H'.fields (subst FirstFieldsFit fields fit) (subst (λ (h : Fields). first_fault (rules_of_size h) ≡ None) fields sizes) in
    ap (λ (h : Fields). header_of writing (splice f 0 (first_bytes h))) fields ∙ (placed ∙ ap (λ (r : Header). loaded r) (sym only.same))
  where
    loaded : Header → Result Header Fault
    loaded r = Ok r

    go : (other : Fields) → FirstFieldsFit (with_tables_of other H.fields) → first_fault (rules_of_size (with_tables_of other H.fields)) ≡ None → header_of writing (splice f 0 (first_bytes (with_tables_of other H.fields))) ≡ Ok (with_places other H)
    go other fit sizes =
        let is : fields_of f ≡ H.fields = sym (header-fields writing f H loads) in
        let parts : LoadedParts writing f H = loaded-parts writing f H loads in
        let w : Fields = with_tables_of other H.fields in
        let b : List ℕ = first_bytes (with_tables_of other H.fields) in
        let g : Bytes = splice f 0 (first_bytes (with_tables_of other H.fields)) in
        let held : Holds (splice f 0 (first_bytes (with_tables_of other H.fields))) 0 (first_bytes (with_tables_of other H.fields)) = splice-holds f b in
        let shape : first_fault (rules_of_shape H.fields) ≡ None = rw is at parts.shape in
        let texts : texts_of f H.fields ≡ Ok H = rw is at parts.texts in
        let last : first_fault (rules_of_writing writing H.fields) ≡ None = rw is at parts.writing_allowed in
        let same : be f 4 4 ≡ be (splice f 0 (first_bytes (with_tables_of other H.fields))) 4 4 = version-there f H.fields is ∙ sym (first-version g w held fit) in
        let known : (be (splice f 0 (first_bytes (with_tables_of other H.fields))) 4 4 ≡ 2) ⊎ (be (splice f 0 (first_bytes (with_tables_of other H.fields))) 4 4 ≡ 3) =
        subst (λ (v : ℕ). (v ≡ 2) ⊎ (v ≡ 3)) same (version-known f parts.kind) in
        let read : texts_of g (with_tables_of other H.fields) ≡ Ok (with_places other H) =
        texts-behind f b (length-first_bytes w) w name (λ newer. omega (arith, newer-long H.fields shape newer)) ∙ (texts-placed f other H.fields ∙ ap (with_places_read other) texts) in
        header-made writing g w (with_places other H) (kind-kept g (first-magic g w held fit) known) (switch-fields f other H.fields is fit) shape sizes read last

-- the offset of a cluster is at most the largest
place-low : (bits offset : ℕ) → is_cluster_offset bits offset ≡ true → offset ≤ max_offset
place-low bits offset is = split (offset % 2 ^ bits == 0) is
  where
    split : (a : Bool) → (a && nat_le offset max_offset) ≡ true → offset ≤ max_offset
    split true e = grind (arith, nat_tests)
    split false e = absurd cc

-- the number of clusters of a table is at most its number of entries
clusters-below : (clusters raw_entries most : ℕ) → 1 ≤ raw_entries → clusters * raw_entries ≤ most → clusters ≤ most
clusters-below clusters raw_entries most some le = let more : clusters * 1 ≤ clusters * raw_entries = mul-le clusters 1 clusters raw_entries (omega arith) some in omega arith

-- If each byte of the file is below 256, the numbers of the new header fit their fields.
pub first-fields-fit : (writing : Bool) (f : Bytes) (H H' : Header) → ((p : ℕ) → f p < 256) → header_of writing f ≡ Ok H → OnlyPlaces H H' → first_fault (rules_of_size H'.fields) ≡ None → FirstFieldsFit H'.fields
unfolding fields_of
first-fields-fit writing f H H' bytes loads only sizes =
    let is : fields_of f ≡ H.fields = sym (header-fields writing f H loads) in
    let fields : H'.fields ≡ with_tables_of H'.fields H.fields = ap (λ (r : Header). r.fields) only.same in
    let limited : Limited H'.fields = fields-limited H'.fields sizes in
    let old : Shaped H.fields = subst Shaped is (header-shaped writing f H loads) in
    let bits : H'.fields.cluster_bits ≡ H.fields.cluster_bits = ap (λ (h : Fields). h.cluster_bits) fields in
    let low : 9 ≤ H'.fields.cluster_bits = omega (arith, old.low) in
    let size : 2 ^ 9 ≤ 2 ^ H'.fields.cluster_bits = pow-le-pow_right (omega arith) low in
    let raw_entries : 1 ≤ entries_of_cluster H'.fields = le-div 1 (cluster_size H'.fields) 8 (omega arith) (omega arith) in
    let l1 = place-low H'.fields.cluster_bits H'.fields.l1_offset limited.l1_place in
    let table = place-low H'.fields.cluster_bits H'.fields.refcount_table_offset limited.refcount_place in
    let clusters = clusters-below H'.fields.refcount_table_clusters (entries_of_cluster H'.fields) (2 ^ 20) raw_entries limited.refcount_entries in
    record {
      version = stays _ _ _ _ (ap (λ (h : Fields). h.version) fields) (ap (λ (h : Fields). h.version) is) (be-below f bytes 4 4);
      backing_offset = stays _ _ _ _ (ap (λ (h : Fields). h.backing_offset) fields) (ap (λ (h : Fields). h.backing_offset) is) (be-below f bytes 8 8);
      backing_length = stays _ _ _ _ (ap (λ (h : Fields). h.backing_length) fields) (ap (λ (h : Fields). h.backing_length) is) (be-below f bytes 16 4);
      cluster_bits = stays _ _ _ _ (ap (λ (h : Fields). h.cluster_bits) fields) (ap (λ (h : Fields). h.cluster_bits) is) (be-below f bytes 20 4);
      size = omega (arith, limited.size);
      crypt_method = stays _ _ _ _ (ap (λ (h : Fields). h.crypt_method) fields) (ap (λ (h : Fields). h.crypt_method) is) (be-below f bytes 32 4);
      l1_entries = omega (arith, limited.l1_entries);
      l1_offset = omega (arith, l1);
      refcount_table_offset = omega (arith, table);
      refcount_table_clusters = omega (arith, clusters);
      snapshots = stays _ _ _ _ (ap (λ (h : Fields). h.snapshots) fields) (ap (λ (h : Fields). h.snapshots) is) (be-below f bytes 60 4);
    }
  where
    stays : (now was there n : ℕ) → now ≡ was → there ≡ was → there < n → now < n
    stays now was there n a b fits = omega arith

-- If a header loads for writing, the backing file's name starts after bytes 0 to 63.
pub name-behind : (f : Bytes) (H : Header) → header_of true f ≡ Ok H → IsNameAfterFields H.fields
name-behind f H loads = subst IsNameAfterFields (sym (header-fields true f H loads)) (λ named. behind (fields_of f) named (loaded-parts true f H loads).writing_allowed)
  where
    behind : (h : Fields) → has_backing_name h ≡ true → first_fault (rules_of_writing true h) ≡ None → 64 ≤ h.backing_offset
    behind h named passed =
        let tests = two-passed (has_bit h.incompatible 0 || has_bit h.incompatible 1 || not (h.autoclear == 0)) (has_backing_name h && nat_lt h.backing_offset 64) Unsupported Unsupported [] passed in
        let apart : nat_lt h.backing_offset 64 ≡ false = rw named at tests.1 in
        grind (arith, nat_tests)

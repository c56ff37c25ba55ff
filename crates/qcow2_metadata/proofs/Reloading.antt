-- A written header loads again.
use Rattle.std.proofs.Common.{◌≡◌, ℕ, ◌+◌, ◌/◌, ◌^◌, ◌<◌, ◌≤◌, refl, arith, ap, sym, subst, ◌∙◌, List, [], ◌∷◌, ◌++◌, length, replicate, length-append, inl, inr, Some, None, Ok, Err}
use Rattle.std.specs.Prelude.{flat_map, Bool, true, false, ◌&&◌, ◌||◌, ◌==◌, not, nat_lt, nat_le, ◌⊎◌, if◌then◌else◌, Option, Result}
use Rattle.std.specs.List.{list_all}
use Rattle.std.specs.Str.{is_utf8}
use Rattle.std.specs.Int.{w32, w64, to_be_bytes}
use Rattle.std.proofs.lemmas.Bool.Decides.{nat_tests}
use Rattle.std.proofs.lemmas.Nat.{le-div}
use Rattle.std.proofs.lemmas.List.Concat.{flat_map-cons}
use Rattle.std.proofs.Math.Nat.{pow-le-pow_right}
use Rattle.imago_storage.specs.declared.fault.Fault.{Fault}
use Rattle.imago_storage.specs.declared.fault.Fault.TheVariants.{DamagedHeader}
use Rattle.qcow2_types.specs.Bytes.{Bytes, be, run, splice}
use Rattle.qcow2_types.specs.OnDisk.{Holds}
use Rattle.qcow2_types.specs.Header.{Feature, Fields, Header, Extension, Shaped, fields_of, header_of, texts_of, cluster_size, is_version_3, has_backing_name, backing_name_read, extensions_read, extensions_end, extensions_at, text_read, last_of, features_read}
use Rattle.qcow2_types.specs.HeaderBytes.{first_bytes, newer_bytes, fields_bytes, fields_length, extension_bytes, extension_of, extensions_of, extensions_bytes, names_data, name_bytes, backing_name_offset, written_fields, written, header_bytes}
use Rattle.qcow2_types.specs.HeaderSwitch.{FirstFieldsFit}
use Rattle.qcow2_types.proofs.Numbers.HeldBytes.{holds-front, holds-back, holds-as, held_4, held_8, run-held, ArePlain, extensions-held, length-extension_bytes}
use Rattle.qcow2_types.proofs.Switching.HeaderSwitch.{header-made, kind-kept, splice-holds, first-magic, first-version, first-backing_offset, first-backing_length, first-cluster_bits, first-size, first-crypt_method, first-l1_entries, first-l1_offset, first-refcount_table_offset, first-refcount_table_clusters, first-snapshots}
use Rattle.qcow2_metadata.specs.Reloading.{is_text, LaterFieldsFit, HasNothingNewer, IsReloadable}
use Rattle.qcow2_metadata.proofs.RuleLemmas.{shape-passed}
use Rattle.qcow2_metadata.proofs.Written.{length-fields_bytes, length-header_bytes, fields-long}
use Rattle.qcow2_metadata.proofs.NamesRead.{names-read}

-- The fields of a file that has their bytes.
module _ (g : Bytes) (h : Fields) (held : Holds g 0 (fields_bytes h)) (fit : FirstFieldsFit h) (later : LaterFieldsFit h) where
  -- Bytes 0 to 63.
  pub first-held : Holds g 0 (first_bytes h)
  unfolding fields_bytes
  first-held = holds-front g 0 (first_bytes h) (to_be_bytes w64 h.snapshots_offset) (holds-front g 0 (first_bytes h ++ to_be_bytes w64 h.snapshots_offset) (if is_version_3 h then newer_bytes h else []) held)

  -- Bytes 64 to 71.
  place-held : be g 64 8 ≡ h.snapshots_offset
  unfolding fields_bytes first_bytes
  place-held = held_8 g 64 h.snapshots_offset (holds-back g 0 (first_bytes h) (to_be_bytes w64 h.snapshots_offset) (holds-front g 0 (first_bytes h ++ to_be_bytes w64 h.snapshots_offset) (if is_version_3 h then newer_bytes h else []) held)) later.snapshots_offset

  -- The bytes of version 3.
  newer-held : is_version_3 h ≡ true → Holds g 72 (newer_bytes h)
  unfolding fields_bytes first_bytes
  newer-held newer =
      holds-as g 72 72 (if is_version_3 h then newer_bytes h else []) (newer_bytes h) refl (ap (λ (b : Bool). if b then newer_bytes h else []) newer)
      (holds-back g 0 (first_bytes h ++ to_be_bytes w64 h.snapshots_offset) (if is_version_3 h then newer_bytes h else []) held)

  module _ (all : Holds g 72 (newer_bytes h)) (short : h.header_length < 2 ^ 32) where
    first : Holds g 72 (to_be_bytes w64 h.incompatible ++ to_be_bytes w64 h.compatible ++ to_be_bytes w64 h.autoclear ++ to_be_bytes w32 h.refcount_order)
    unfolding newer_bytes
    first = holds-front g 72 (to_be_bytes w64 h.incompatible ++ to_be_bytes w64 h.compatible ++ to_be_bytes w64 h.autoclear ++ to_be_bytes w32 h.refcount_order) (to_be_bytes w32 h.header_length) all

    second : Holds g 72 (to_be_bytes w64 h.incompatible ++ to_be_bytes w64 h.compatible ++ to_be_bytes w64 h.autoclear)
    second = holds-front g 72 (to_be_bytes w64 h.incompatible ++ to_be_bytes w64 h.compatible ++ to_be_bytes w64 h.autoclear) (to_be_bytes w32 h.refcount_order) first

    third : Holds g 72 (to_be_bytes w64 h.incompatible ++ to_be_bytes w64 h.compatible)
    third = holds-front g 72 (to_be_bytes w64 h.incompatible ++ to_be_bytes w64 h.compatible) (to_be_bytes w64 h.autoclear) second

    incompatible-held : be g 72 8 ≡ h.incompatible
    incompatible-held = held_8 g 72 h.incompatible (holds-front g 72 (to_be_bytes w64 h.incompatible) (to_be_bytes w64 h.compatible) third) later.incompatible

    compatible-held : be g 80 8 ≡ h.compatible
    compatible-held = held_8 g 80 h.compatible (holds-back g 72 (to_be_bytes w64 h.incompatible) (to_be_bytes w64 h.compatible) third) later.compatible

    autoclear-held : be g 88 8 ≡ h.autoclear
    autoclear-held = held_8 g 88 h.autoclear (holds-back g 72 (to_be_bytes w64 h.incompatible ++ to_be_bytes w64 h.compatible) (to_be_bytes w64 h.autoclear) second) later.autoclear

    order-held : be g 96 4 ≡ h.refcount_order
    order-held = held_4 g 96 h.refcount_order (holds-back g 72 (to_be_bytes w64 h.incompatible ++ to_be_bytes w64 h.compatible ++ to_be_bytes w64 h.autoclear) (to_be_bytes w32 h.refcount_order) first) later.refcount_order

    length-held : be g 100 4 ≡ h.header_length
    unfolding newer_bytes
    length-held = held_4 g 100 h.header_length (holds-back g 72 (to_be_bytes w64 h.incompatible ++ to_be_bytes w64 h.compatible ++ to_be_bytes w64 h.autoclear ++ to_be_bytes w32 h.refcount_order) (to_be_bytes w32 h.header_length) all) short

  -- Version 3.
  pub fields-newer : is_version_3 h ≡ true → h.header_length < 2 ^ 32 → fields_of g ≡ h
  unfolding fields_of
  fields-newer newer short =
      let all : Holds g 72 (newer_bytes h) = newer-held newer in
      let start : Holds g 0 (first_bytes h) = first-held in
      rw (
        first-version g h start fit,
        first-backing_offset g h start fit,
        first-backing_length g h start fit,
        first-cluster_bits g h start fit,
        first-size g h start fit,
        first-crypt_method g h start fit,
        first-l1_entries g h start fit,
        first-l1_offset g h start fit,
        first-refcount_table_offset g h start fit,
        first-refcount_table_clusters g h start fit,
        first-snapshots g h start fit,
        place-held,
        newer,
        incompatible-held all short,
        compatible-held all short,
        autoclear-held all short,
        order-held all short,
        length-held all short,
      ) refl

  -- Version 2.
  pub fields-older : is_version_3 h ≡ false → h.incompatible ≡ 0 → h.compatible ≡ 0 → h.autoclear ≡ 0 → h.refcount_order ≡ 4 → h.header_length ≡ 72 → fields_of g ≡ h
  unfolding fields_of
  fields-older older a b c d e =
      let start : Holds g 0 (first_bytes h) = first-held in
      let read : fields_of g ≡ with_newer 0 0 0 4 72 = rw (
        first-version g h start fit,
        first-backing_offset g h start fit,
        first-backing_length g h start fit,
        first-cluster_bits g h start fit,
        first-size g h start fit,
        first-crypt_method g h start fit,
        first-l1_entries g h start fit,
        first-l1_offset g h start fit,
        first-refcount_table_offset g h start fit,
        first-refcount_table_clusters g h start fit,
        first-snapshots g h start fit,
        place-held,
        older,
      ) refl in
      read ∙ (ap (λ n. with_newer n 0 0 4 72) (sym a) ∙ (ap (λ n. with_newer h.incompatible n 0 4 72) (sym b) ∙ (ap (λ n. with_newer h.incompatible h.compatible n 4 72) (sym c)
      ∙ (ap (λ n. with_newer h.incompatible h.compatible h.autoclear n 72) (sym d) ∙ ap (λ n. with_newer h.incompatible h.compatible h.autoclear h.refcount_order n) (sym e)))))
    where
      with_newer : ℕ → ℕ → ℕ → ℕ → ℕ → Fields
      with_newer i j k l m = record h { incompatible = i; compatible = j; autoclear = k; refcount_order = l; header_length = m }

-- The result of reading the backing name, from its bytes.
abbrev read_as : Bool → Bool → List ℕ → Result (Option (List ℕ)) Fault
read_as named wrong bytes = elim named [ false ↦ Ok None | true ↦ elim wrong [ true ↦ Err DamagedHeader | false ↦ if is_utf8 bytes then Ok (Some bytes) else Err DamagedHeader ] ]

-- The image has a backing name.
name-some : (g : Bytes) (h : Fields) (name : List ℕ) → Holds g h.backing_offset name → h.backing_length ≡ length name → 0 < h.backing_offset → 0 < length name → length name ≤ 1023
    → h.backing_offset + length name ≤ cluster_size h → is_utf8 name ≡ true → backing_name_read g h ≡ Ok (Some name)
name-some g h name held long place some short inside text =
    let there : has_backing_name h ≡ true = tests h.backing_offset h.backing_length (omega arith) (omega arith) in
    let fine : (nat_lt 1023 h.backing_length || nat_lt (cluster_size h) (h.backing_offset + h.backing_length)) ≡ false = sizes h.backing_length (h.backing_offset + h.backing_length) (cluster_size h) (omega arith) (omega arith) in
    let bytes : run g h.backing_offset h.backing_length ≡ name = ap (run g h.backing_offset) long ∙ run-held g h.backing_offset name held in
    ap (λ a. read_as a (nat_lt 1023 h.backing_length || nat_lt (cluster_size h) (h.backing_offset + h.backing_length)) (run g h.backing_offset h.backing_length)) there
    ∙ (ap (λ b. read_as true b (run g h.backing_offset h.backing_length)) fine ∙ (ap (read_as true false) bytes ∙ ap (λ u. chosen u) text))
  where
    chosen : Bool → Result (Option (List ℕ)) Fault
    chosen u = if u then Ok (Some name) else Err DamagedHeader

    tests : (a b : ℕ) → 0 < a → 0 < b → (not (a == 0) && not (b == 0)) ≡ true
    tests a b p q = grind (arith, nat_tests)

    sizes : (a b c : ℕ) → a ≤ 1023 → b ≤ c → (nat_lt 1023 a || nat_lt c b) ≡ false
    sizes a b c p q = grind (arith, nat_tests)

-- The image has no backing name.
name-none : (g : Bytes) (h : Fields) → h.backing_offset ≡ 0 → backing_name_read g h ≡ Ok None
name-none g h none = let test : has_backing_name h ≡ false = rw none refl in ap (λ a. read_as a (nat_lt 1023 h.backing_length || nat_lt (cluster_size h) (h.backing_offset + h.backing_length)) (run g h.backing_offset h.backing_length)) test

text-kept : (text : Option (List ℕ)) → is_text text ≡ true → text_read text ≡ Ok text
text-kept None is = refl
text-kept (Some bytes) is = rw is refl

-- The extension's type isn't 0, and has 32 bits.
abbrev is_kind : Extension → Bool
is_kind x = nat_lt 0 x.0 && nat_lt x.0 (2 ^ 32)

-- Small extensions load with the same types and data.
plain-small : (xs : List Extension) → list_all is_kind xs ≡ true → length (flat_map extension_bytes xs) < 2 ^ 32 → ArePlain xs
plain-small [] kinds small = tt
plain-small (x ∷ xs) kinds small =
    let parts = both (is_kind x) (list_all is_kind xs) kinds in
    let kind = both (nat_lt 0 x.0) (nat_lt x.0 (2 ^ 32)) parts.0 in
    let a : nat_lt 0 x.0 ≡ true = kind.0 in
    let b : nat_lt x.0 (2 ^ 32) ≡ true = kind.1 in
    let size : length (flat_map extension_bytes (x ∷ xs)) ≡ length (extension_bytes x) + length (flat_map extension_bytes xs) =
    ap length (flat_map-cons extension_bytes x xs) ∙ length-append (extension_bytes x) (flat_map extension_bytes xs) in
    (record { some = grind (arith, nat_tests); kind = grind (arith, nat_tests); size = omega (arith, size, small, length-extension_bytes x) }, plain-small xs parts.1 (omega (arith, size, small)))
  where
    both : (a b : Bool) → (a && b) ≡ true → (a ≡ true) × (b ≡ true)
    both true b e = (refl, e)
    both false b e = absurd cc

-- The extensions of a header.
abbrev three : Option (List ℕ) → Option (List ℕ) → Option (List ℕ) → List Extension
three a b c = extension_of 0xE279_2ACA a ++ extension_of 0x4441_5441 b ++ extension_of 0x6803_F857 c

kinds-three : (a b c : Option (List ℕ)) → list_all is_kind (three a b c) ≡ true
kinds-three None None None = refl
kinds-three None None (Some z) = refl
kinds-three None (Some y) None = refl
kinds-three None (Some y) (Some z) = refl
kinds-three (Some x) None None = refl
kinds-three (Some x) None (Some z) = refl
kinds-three (Some x) (Some y) None = refl
kinds-three (Some x) (Some y) (Some z) = refl

few-three : (a b c : Option (List ℕ)) → length (three a b c) ≤ 3
few-three None None None = omega arith
few-three None None (Some z) = omega arith
few-three None (Some y) None = omega arith
few-three None (Some y) (Some z) = omega arith
few-three (Some x) None None = omega arith
few-three (Some x) None (Some z) = omega arith
few-three (Some x) (Some y) None = omega arith
few-three (Some x) (Some y) (Some z) = omega arith

last-three : (a b c : Option (List ℕ)) → (last_of 0xE279_2ACA (three a b c) ≡ a) × (last_of 0x4441_5441 (three a b c) ≡ b) × (last_of 0x6803_F857 (three a b c) ≡ c)
last-three None None None = (refl, refl, refl)
last-three None None (Some z) = (refl, refl, refl)
last-three None (Some y) None = (refl, refl, refl)
last-three None (Some y) (Some z) = (refl, refl, refl)
last-three (Some x) None None = (refl, refl, refl)
last-three (Some x) None (Some z) = (refl, refl, refl)
last-three (Some x) (Some y) None = (refl, refl, refl)
last-three (Some x) (Some y) (Some z) = (refl, refl, refl)

-- Only version 3 has extensions.
abbrev read_if : Bool → Result (List Extension) Fault → Result (List Extension) Fault
read_if newer found = elim newer [ true ↦ found | false ↦ Ok [] ]

-- The texts, if each part is read.
texts-read : (g : Bytes) (h : Fields) (xs : List Extension) (name format external : Option (List ℕ)) (names : Option (List ℕ)) → backing_name_read g h ≡ Ok name → extensions_read g h ≡ Ok xs
    → last_of 0xE279_2ACA xs ≡ format → text_read format ≡ Ok format → last_of 0x4441_5441 xs ≡ external → text_read external ≡ Ok external → last_of 0x6803_F857 xs ≡ names
    → texts_of g h ≡ Ok (record { fields = h; backing_name = name; backing_format = format; data_file_name = external; features = features_read names })
unfolding texts_of
texts-read g h xs name format external names a b c d e i j = rw (a, b, c, d, e, i, j) refl

-- The file after the header is written over it.
abbrev over : Bytes → Header → Bytes
over f h = splice f 0 (header_bytes h)

-- The fields as they are written.
written-fields : (h : Header) → ((written_fields h).version ≡ h.fields.version) × ((written_fields h).header_length ≡ fields_length h.fields) × ((written_fields h).cluster_bits ≡ h.fields.cluster_bits)
    × ((written_fields h).backing_offset ≡ backing_name_offset h h.backing_name) × ((written_fields h).backing_length ≡ length (name_bytes h.backing_name))
unfolding written_fields
written-fields h = (refl, refl, refl, refl, refl)

-- The later fields still fit.
written-later : (h : Header) → LaterFieldsFit h.fields → LaterFieldsFit (written_fields h)
unfolding written_fields
written-later h later = record { snapshots_offset = later.snapshots_offset; incompatible = later.incompatible; compatible = later.compatible; autoclear = later.autoclear; refcount_order = later.refcount_order }

written-older : (h : Header) → HasNothingNewer h → ((written_fields h).incompatible ≡ 0) × ((written_fields h).compatible ≡ 0) × ((written_fields h).autoclear ≡ 0) × ((written_fields h).refcount_order ≡ 4)
unfolding written_fields
written-older h none = (none.incompatible, none.compatible, none.autoclear, none.refcount_order)

written-long : (h : Header) → length (fields_bytes (written_fields h)) ≡ fields_length h.fields
unfolding written_fields
written-long h = length-fields_bytes (written_fields h)

is-newer : (h : Fields) → h.version ≡ 3 → is_version_3 h ≡ true
is-newer h newer = grind (arith, nat_tests)

is-older : (h : Fields) → h.version ≡ 2 → is_version_3 h ≡ false
is-older h older = grind (arith, nat_tests)

newer-bytes : (h : Header) → h.fields.version ≡ 3 → extensions_bytes h ≡ flat_map extension_bytes (extensions_of h) ++ replicate 8 0
unfolding extensions_bytes
newer-bytes h newer = ap (λ (b : Bool). (if b then flat_map extension_bytes (extensions_of h) else []) ++ replicate 8 0) (is-newer h.fields newer)

few-extensions : (h : Header) → length (extensions_of h) ≤ 3
unfolding extensions_of
few-extensions h = few-three h.backing_format h.data_file_name (names_data h.features)

kinds-extensions : (h : Header) → list_all is_kind (extensions_of h) ≡ true
unfolding extensions_of
kinds-extensions h = kinds-three h.backing_format h.data_file_name (names_data h.features)

last-extensions : (h : Header) → (last_of 0xE279_2ACA (extensions_of h) ≡ h.backing_format) × (last_of 0x4441_5441 (extensions_of h) ≡ h.data_file_name) × (last_of 0x6803_F857 (extensions_of h) ≡ names_data h.features)
unfolding extensions_of
last-extensions h = last-three h.backing_format h.data_file_name (names_data h.features)

no-extensions : (h : Header) → HasNothingNewer h → extensions_of h ≡ []
unfolding extensions_of
no-extensions h none =
    ap (λ (a : Option (List ℕ)). three a h.data_file_name (names_data h.features)) none.backing_format
    ∙ (ap (λ (b : Option (List ℕ)). three None b (names_data h.features)) none.data_file_name ∙ ap (λ (xs : List Feature). three None None (names_data xs)) none.features)

module _ (f : Bytes) (h : Header) where
  -- The file has the fields,
  fields-there : Holds (over f h) 0 (fields_bytes (written_fields h))
  unfolding header_bytes
  fields-there =
      holds-front (over f h) 0 (fields_bytes (written_fields h)) (extensions_bytes h)
      (holds-front (over f h) 0 (fields_bytes (written_fields h) ++ extensions_bytes h) (name_bytes h.backing_name) (splice-holds f (header_bytes h)))

  -- the extensions,
  extensions-there : Holds (over f h) (fields_length h.fields) (extensions_bytes h)
  unfolding header_bytes
  extensions-there =
      holds-as (over f h) (0 + length (fields_bytes (written_fields h))) (fields_length h.fields) (extensions_bytes h) (extensions_bytes h) (omega (arith, written-long h)) refl
      (holds-back (over f h) 0 (fields_bytes (written_fields h)) (extensions_bytes h)
      (holds-front (over f h) 0 (fields_bytes (written_fields h) ++ extensions_bytes h) (name_bytes h.backing_name) (splice-holds f (header_bytes h))))

  -- and the name.
  name-there : Holds (over f h) (fields_length h.fields + length (extensions_bytes h)) (name_bytes h.backing_name)
  unfolding header_bytes
  name-there =
      holds-as (over f h) (0 + length (fields_bytes (written_fields h) ++ extensions_bytes h)) (fields_length h.fields + length (extensions_bytes h)) (name_bytes h.backing_name) (name_bytes h.backing_name)
      (omega (arith, length-append (fields_bytes (written_fields h)) (extensions_bytes h), written-long h)) refl
      (holds-back (over f h) 0 (fields_bytes (written_fields h) ++ extensions_bytes h) (name_bytes h.backing_name) (splice-holds f (header_bytes h)))

  module _ (writing : Bool) (ok : IsReloadable writing h) (shaped : Shaped (written_fields h)) where
    w : Fields
    w = written_fields h

    -- The header fits its cluster.
    fits : (length (header_bytes h) ≤ cluster_size h.fields) × (length (name_bytes h.backing_name) ≤ 1023)
    fits = split (length (header_bytes h)) (cluster_size h.fields) (length (name_bytes h.backing_name)) ok.fits
      where
        split : (a b c : ℕ) → (nat_le a b && nat_le c 1023) ≡ true → (a ≤ b) × (c ≤ 1023)
        split a b c e = (grind (arith, nat_tests), grind (arith, nat_tests))

    same-cluster : cluster_size (written_fields h) ≡ cluster_size h.fields
    same-cluster = ap (λ n. 2 ^ n) (written-fields h).2

    -- All written bytes are inside the cluster.
    inside : fields_length h.fields + length (extensions_bytes h) + length (name_bytes h.backing_name) ≤ cluster_size (written_fields h)
    inside = omega (arith, fits.0, same-cluster, length-header_bytes h)

    name-read : backing_name_read (over f h) (written_fields h) ≡ Ok h.backing_name
    name-read = go h.backing_name refl
      where
        go : (name : Option (List ℕ)) → h.backing_name ≡ name → backing_name_read (over f h) (written_fields h) ≡ Ok name
        go None is = name-none (over f h) (written_fields h) ((written-fields h).3 ∙ ap (backing_name_offset h) is)
        go (Some []) is = absurd (ok.named is)
        go (Some (b ∷ bs)) is =
            let place : (written_fields h).backing_offset ≡ fields_length h.fields + length (extensions_bytes h) = (written-fields h).3 ∙ ap (backing_name_offset h) is in
            let long : (written_fields h).backing_length ≡ length (b ∷ bs) = (written-fields h).4 ∙ ap (λ n. length (name_bytes n)) is in
            let size : length (name_bytes h.backing_name) ≡ length (b ∷ bs) = ap (λ n. length (name_bytes n)) is in
            let least : 72 ≤ fields_length h.fields = (fields-long h.fields).0 in
            name-some (over f h) (written_fields h) (b ∷ bs) (holds-as (over f h) _ _ _ _ (sym place) (ap name_bytes is) name-there) long (omega (arith, place, least)) (omega arith)
            (omega (arith, fits.1, size)) (omega (arith, place, size, inside)) (ap is_text (sym is) ∙ ok.backing_name)

    -- The extensions are inside their area.
    area : fields_length h.fields + length (extensions_bytes h) ≤ extensions_end (written_fields h)
    area = go (has_backing_name (written_fields h)) (nat_le (written_fields h).header_length (written_fields h).backing_offset) refl
      where
        go : (a b : Bool) → has_backing_name (written_fields h) ≡ a → fields_length h.fields + length (extensions_bytes h) ≤ (if a && b then (written_fields h).backing_offset else cluster_size (written_fields h))
        go false b is = omega (arith, inside)
        go true false is = omega (arith, inside)
        go true true is = there h.backing_name refl
          where
            there : (name : Option (List ℕ)) → h.backing_name ≡ name → fields_length h.fields + length (extensions_bytes h) ≤ (written_fields h).backing_offset
            there (Some x) e = let place : (written_fields h).backing_offset ≡ fields_length h.fields + length (extensions_bytes h) = (written-fields h).3 ∙ ap (backing_name_offset h) e in omega (arith, place)
            there None e =
                let place : (written_fields h).backing_offset ≡ 0 = (written-fields h).3 ∙ ap (backing_name_offset h) e in
                let none : has_backing_name (written_fields h) ≡ false = rw place refl in
                let bad : true ≡ false = sym is ∙ none in
                absurd cc

    -- Version 3 has extensions.
    extensions-newer : h.fields.version ≡ 3 → extensions_read (over f h) (written_fields h) ≡ Ok (extensions_of h)
    extensions-newer newer =
        let three : (written_fields h).version ≡ 3 = (written-fields h).0 ∙ newer in
        let test : is_version_3 (written_fields h) ≡ true = is-newer (written_fields h) three in
        let bytes : extensions_bytes h ≡ flat_map extension_bytes (extensions_of h) ++ replicate 8 0 = newer-bytes h newer in
        let start : (written_fields h).header_length ≡ fields_length h.fields = (written-fields h).1 in
        let size : length (extensions_bytes h) ≡ length (flat_map extension_bytes (extensions_of h)) + 8 =
        ap length bytes ∙ (length-append (flat_map extension_bytes (extensions_of h)) (replicate 8 0)) in
        let most : 2 ^ (written_fields h).cluster_bits ≤ 2 ^ 21 = pow-le-pow_right (omega arith) shaped.high in
        let least : 2 ^ 9 ≤ 2 ^ (written_fields h).cluster_bits = pow-le-pow_right (omega arith) shaped.low in
        let fuel : 64 ≤ cluster_size (written_fields h) / 8 = le-div 64 (cluster_size (written_fields h)) 8 (omega arith) (omega arith) in
        let few : length (extensions_of h) ≤ 3 = few-extensions h in
        let read : extensions_at (cluster_size (written_fields h) / 8) (over f h) (extensions_end (written_fields h)) (written_fields h).header_length ≡ Ok (extensions_of h) =
        extensions-held (cluster_size (written_fields h) / 8) (over f h) (extensions_end (written_fields h)) (written_fields h).header_length (extensions_of h)
        (holds-as (over f h) _ _ _ _ (sym start) bytes extensions-there)
        (plain-small (extensions_of h) (kinds-extensions h) (omega (arith, size, inside, most)))
        (omega (arith, start, size, area)) (omega (arith, few, fuel)) in
        ap (λ b. read_if b (extensions_at (cluster_size (written_fields h) / 8) (over f h) (extensions_end (written_fields h)) (written_fields h).header_length)) test ∙ read

    -- Version 2 has no extensions.
    extensions-older : h.fields.version ≡ 2 → extensions_read (over f h) (written_fields h) ≡ Ok (extensions_of h)
    extensions-older older =
        let two : (written_fields h).version ≡ 2 = (written-fields h).0 ∙ older in
        let test : is_version_3 (written_fields h) ≡ false = is-older (written_fields h) two in
        ap (λ b. read_if b (extensions_at (cluster_size (written_fields h) / 8) (over f h) (extensions_end (written_fields h)) (written_fields h).header_length)) test
        ∙ ap (λ (xs : List Extension). Ok xs) (sym (no-extensions h (ok.older older)))

    extensions-again : extensions_read (over f h) (written_fields h) ≡ Ok (extensions_of h)
    extensions-again = elim ok.version [ inl older ↦ extensions-older older | inr newer ↦ extensions-newer newer ]

    fields-again : fields_of (over f h) ≡ written_fields h
    fields-again = elim ok.version [
      | inl older ↦
          let none = written-older h (ok.older older) in
          let two : (written_fields h).version ≡ 2 = (written-fields h).0 ∙ older in
          let long : fields_length h.fields ≡ 72 = ap (λ (b : Bool). if b then 104 else 72) (is-older h.fields older) in
          fields-older (over f h) (written_fields h) fields-there ok.first (written-later h ok.later) (is-older (written_fields h) two) none.0 none.1 none.2 none.3 ((written-fields h).1 ∙ long)
      | inr newer ↦
          let three : (written_fields h).version ≡ 3 = (written-fields h).0 ∙ newer in
          let most : fields_length h.fields ≤ 104 = (fields-long h.fields).1 in
          fields-newer (over f h) (written_fields h) fields-there ok.first (written-later h ok.later) (is-newer (written_fields h) three) (omega (arith, (written-fields h).1, most))
    ]

    texts-again : texts_of (over f h) (written_fields h) ≡ Ok (written h)
    texts-again =
        let last = last-extensions h in
        texts-read (over f h) (written_fields h) (extensions_of h) h.backing_name h.backing_format h.data_file_name (names_data h.features) name-read extensions-again
        last.0 (text-kept h.backing_format ok.backing_format) last.1 (text-kept h.data_file_name ok.data_file_name) last.2
        ∙ ap (λ (names : List Feature). loaded names) (names-read h.features ok.names ok.ordered)
      where
        loaded : List Feature → Result Header Fault
        loaded names = Ok (record { fields = written_fields h; backing_name = h.backing_name; backing_format = h.backing_format; data_file_name = h.data_file_name; features = names })

pub header-reloads : (writing : Bool) (f : Bytes) (h : Header) → IsReloadable writing h → header_of writing (splice f 0 (header_bytes h)) ≡ Ok (written h)
header-reloads writing f h ok =
    let g : Bytes = over f h in
    let start : Holds (splice f 0 (header_bytes h)) 0 (first_bytes (written_fields h)) = first-held (over f h) (written_fields h) (fields-there f h) ok.first (written-later h ok.later) in
    let version : h.fields.version ≡ be (splice f 0 (header_bytes h)) 4 4 = sym (first-version g (written_fields h) start ok.first ∙ (written-fields h).0) in
    let shaped : Shaped (written_fields h) = shape-passed (written_fields h) (sym ok.shape) in
    header-made writing g (written_fields h) (written h) (kind-kept g (first-magic g (written_fields h) start ok.first) (subst (λ (v : ℕ). (v ≡ 2) ⊎ (v ≡ 3)) version ok.version))
    (fields-again f h writing ok shaped) ok.shape ok.sizes (texts-again f h writing ok shaped) ok.allowed

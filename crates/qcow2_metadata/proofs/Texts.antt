-- The texts of a header.
use Rattle.std.proofs.Common.{◌≡◌, ◌≢◌, ℕ, ◌+◌, ◌-◌, ◌/◌, ◌≤◌, refl, arith, ap, ◌∙◌, List, [], length, take, drop, Some, Ok, Err}
use Rattle.std.specs.Prelude.{Bool, true, false, ◌||◌, ◌==◌, None, nat_lt, if◌then◌else◌, Option, Result}
use Rattle.std.specs.Str.{is_utf8, IsUtf8}
use Rattle.std.proofs.lemmas.Bool.Decides.{nat_tests}
use Rattle.std.proofs.lemmas.Str.{IsUtf8-from_is_utf8, is_utf8-from_IsUtf8}
use Rattle.imago_storage.specs.declared.fault.Fault.{Fault}
use Rattle.imago_storage.specs.declared.fault.Fault.TheVariants.{DamagedHeader, Memory}
use Rattle.qcow2_types.specs.Bytes.{Bytes, bytes_of, run}
use Rattle.qcow2_types.specs.Header.{Fields, Extension, cluster_size, text_read, texts_of, backing_name_read, has_backing_name, extensions_read, extensions_at, extensions_end, last_of, features_read}
use Rattle.qcow2_metadata.specs.Loading.{RefusedBy}
use Rattle.qcow2_metadata.specs.Extensions.{Known, known_by, known_of}
use Rattle.qcow2_metadata.proofs.RunLemmas.{run_slice}

pub text-read : (bytes : List ℕ) → IsUtf8 bytes → text_read (Some bytes) ≡ Ok (Some bytes)
text-read bytes is_text = rw (is_utf8-from_IsUtf8 bytes is_text) refl

pub text-refused : (bytes : List ℕ) → (IsUtf8 bytes → ⊥) → text_read (Some bytes) ≡ Err DamagedHeader
text-refused bytes not_text = split (is_utf8 bytes) refl
  where
    split : (b : Bool) → is_utf8 bytes ≡ b → (if b then Ok (Some bytes) else Err DamagedHeader) ≡ Err DamagedHeader
    split true is = absurd (not_text (IsUtf8-from_is_utf8 bytes is))
    split false is = refl

-- The fault of a part, or running out of memory, is the fault of the whole.
pub refused-through : {A B : Type 0} (part : Result A Fault) (whole : Result B Fault) → ((e : Fault) → part ≡ Err e → whole ≡ Err e) → (e : Fault) → RefusedBy part e → RefusedBy whole e
refused-through part whole give Memory refused = tt
refused-through part whole give e refused = give e refused

pub refused-as : {A : Type 0} (whole : Result A Fault) (e : Fault) → whole ≡ Err e → RefusedBy whole e
refused-as whole Memory refused = tt
refused-as whole e refused = refused

-- A backing file's name inside the first cluster.
pub backing-text : (file : List ℕ) (h : Fields) → h.backing_offset ≢ 0 → h.backing_length ≢ 0 → h.backing_length ≤ 1023 → h.backing_offset + h.backing_length ≤ cluster_size h → length file ≡ cluster_size h
    → backing_name_read (bytes_of file) h ≡ text_read (Some (take (h.backing_offset + h.backing_length - h.backing_offset) (drop h.backing_offset file)))
backing-text file h place some short within size =
    let a : (h.backing_offset == 0) ≡ false = grind (arith, nat_tests) in
    let b : (h.backing_length == 0) ≡ false = grind (arith, nat_tests) in
    let c : nat_lt 1023 h.backing_length ≡ false = grind (arith, nat_tests) in
    let d : nat_lt (cluster_size h) (h.backing_offset + h.backing_length) ≡ false = grind (arith, nat_tests) in
    let bytes : run (bytes_of file) h.backing_offset h.backing_length ≡ take (h.backing_offset + h.backing_length - h.backing_offset) (drop h.backing_offset file) = run_slice file h.backing_offset h.backing_length (omega arith) in
    let there : has_backing_name h ≡ true = rw (a, b) refl in
    let fits : (nat_lt 1023 h.backing_length || nat_lt (cluster_size h) (h.backing_offset + h.backing_length)) ≡ false = rw (c, d) refl in
    chosen (has_backing_name h) (nat_lt 1023 h.backing_length || nat_lt (cluster_size h) (h.backing_offset + h.backing_length)) there fits (text_read (Some (run (bytes_of file) h.backing_offset h.backing_length))) ∙ ap (λ (r : List ℕ). text_read (Some r)) bytes
  where
    read_as : Bool → Bool → Result (Option (List ℕ)) Fault → Result (Option (List ℕ)) Fault
    read_as a b x = elim a [ false ↦ Ok None | true ↦ elim b [ true ↦ Err DamagedHeader | false ↦ x ] ]

    chosen : (a b : Bool) → a ≡ true → b ≡ false → (x : Result (Option (List ℕ)) Fault) → read_as a b x ≡ x
    chosen true false p q x = refl
    chosen true true p q x = absurd cc
    chosen false b p q x = absurd cc

pub extensions-newer : (f : Bytes) (h : Fields) → h.version ≡ 3 → extensions_read f h ≡ extensions_at (cluster_size h / 8) f (extensions_end h) h.header_length
extensions-newer f h newer =
    let test : (h.version == 3) ≡ true = grind (arith, nat_tests) in
    ap (λ (b : Bool). elim b as (λ _. Result (List Extension) Fault) [ true ↦ extensions_at (cluster_size h / 8) f (extensions_end h) h.header_length | false ↦ Ok [] ]) test

-- The fault of the texts is that of the backing name,
pub texts-name : (f : Bytes) (h : Fields) (e : Fault) → backing_name_read f h ≡ Err e → texts_of f h ≡ Err e
unfolding texts_of
texts-name f h e refused = rw refused refl

module _ (f : Bytes) (h : Fields) (name : Option (List ℕ)) (named : backing_name_read f h ≡ Ok name) where
  -- of the extensions,
  pub texts-extensions : (e : Fault) → extensions_read f h ≡ Err e → texts_of f h ≡ Err e
  unfolding texts_of
  texts-extensions e refused = rw (named, refused) refl

  -- The extensions that were read.
  found : (known : Known) → known_of (extensions_read f h) ≡ Ok known → (xs : List Extension) × (extensions_read f h ≡ Ok xs) × (known_by xs ≡ known)
  found known read = split (extensions_read f h) refl read
    where
      same-ok : {A : Type 0} {x y : A} → ◌≡◌ {A = Result A Fault} (Ok x) (Ok y) → x ≡ y
      same-ok e = cc

      split : (r : Result (List Extension) Fault) → extensions_read f h ≡ r → known_of r ≡ Ok known → (xs : List Extension) × (extensions_read f h ≡ Ok xs) × (known_by xs ≡ known)
      split (Ok xs) is e = (xs, is, same-ok e)
      split (Err fault) is e = absurd cc

  module _ (known : Known) (read : known_of (extensions_read f h) ≡ Ok known) where
    -- of the backing format,
    pub texts-format : (e : Fault) → text_read known.backing_format ≡ Err e → texts_of f h ≡ Err e
    unfolding texts_of
    texts-format e refused =
        let x = found known read in
        let last : last_of 0xE279_2ACA x.0 ≡ known.backing_format = ap (λ (k : Known). k.backing_format) x.2 in
        rw (named, x.1, last, refused) refl

    module _ (format : Option (List ℕ)) (formatted : text_read known.backing_format ≡ Ok format) where
      -- or of the external data file's name.
      pub texts-data : (e : Fault) → text_read known.data_file_name ≡ Err e → texts_of f h ≡ Err e
      unfolding texts_of
      texts-data e refused =
          let x = found known read in
          let last : last_of 0xE279_2ACA x.0 ≡ known.backing_format = ap (λ (k : Known). k.backing_format) x.2 in
          let data_name : last_of 0x4441_5441 x.0 ≡ known.data_file_name = ap (λ (k : Known). k.data_file_name) x.2 in
          rw (named, x.1, last, formatted, data_name, refused) refl

      -- All parts are read.
      pub texts-all : (data_file : Option (List ℕ)) → text_read known.data_file_name ≡ Ok data_file
          → texts_of f h ≡ Ok (record { fields = h; backing_name = name; backing_format = format; data_file_name = data_file; features = features_read known.feature_names })
      unfolding texts_of
      texts-all data_file given =
          let x = found known read in
          let last : last_of 0xE279_2ACA x.0 ≡ known.backing_format = ap (λ (k : Known). k.backing_format) x.2 in
          let data_name : last_of 0x4441_5441 x.0 ≡ known.data_file_name = ap (λ (k : Known). k.data_file_name) x.2 in
          let names : last_of 0x6803_F857 x.0 ≡ known.feature_names = ap (λ (k : Known). k.feature_names) x.2 in
          rw (named, x.1, last, formatted, data_name, given, names) refl

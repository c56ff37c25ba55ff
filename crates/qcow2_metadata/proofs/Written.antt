-- The bytes of a header's fields, from the two parts in which the program keeps them.
use Rattle.std.proofs.Common.{◌≡◌, ◌≢◌, ℕ, ◌+◌, ◌≤◌, refl, arith, ap, sym, ◌∙◌, List, [], ◌++◌, length, take, drop, replicate, length-append, append_assoc}
use Rattle.std.specs.Prelude.{Bool, true, false, ◌==◌, if◌then◌else◌, Option, Some, None, is_some}
use Rattle.std.specs.Option.{option_map}
use Rattle.std.proofs.lemmas.Bool.Decides.{nat_tests}
use Rattle.std.specs.Int.{w64, to_be_bytes}
use Rattle.qcow2_types.specs.Header.{Fields, Header, is_version_3}
use Rattle.qcow2_types.specs.OnDisk.{v2_bytes, v3_bytes}
use Rattle.qcow2_types.specs.HeaderBytes.{first_bytes, newer_bytes, fields_bytes, fields_length, written_fields, written, extensions_of, extensions_bytes, name_bytes, backing_name_offset, header_bytes}
use borrow.Rule.Slice.PartMut.{put_mid}
use Rattle.std.proofs.Math.Seq.{take-append_seam, drop-append_seam}
use Rattle.std.proofs.lemmas.List.{take-append-drop, length-replicate}
use Rattle.std.proofs.lemmas.Slice.{take-put_mid, drop-put_mid, drop-append-drop}
use Rattle.qcow2_types.proofs.Fields.HeaderFields.{length-v2_bytes, length-v3_bytes}
use Rattle.qcow2_types.specs.declared.on_disk.V2Header.{V2Header}
use Rattle.qcow2_types.specs.declared.on_disk.V3HeaderBase.{V3HeaderBase}
use Rattle.qcow2_metadata.specs.FieldsView.{seen_fields}

-- The first part.
pub first-part : (v2 : V2Header) (v3 : V3HeaderBase) → v2.magic ≡ 0x5146_49fb → v2_bytes v2 ≡ first_bytes (seen_fields v2 v3) ++ to_be_bytes w64 v2.snapshots_offset
unfolding v2_bytes first_bytes
first-part v2 v3 magic = rw magic refl

-- Bytes 0 to 63 of the first part.
pub first-64 : (v2 : V2Header) (v3 : V3HeaderBase) → v2.magic ≡ 0x5146_49fb → take 64 (v2_bytes v2) ≡ first_bytes (seen_fields v2 v3)
unfolding v2_bytes first_bytes
first-64 v2 v3 magic = rw magic refl

-- The fields of version 3.
pub newer-fields : (v2 : V2Header) (v3 : V3HeaderBase) → v2.magic ≡ 0x5146_49fb → v2.version ≡ 3 → v2_bytes v2 ++ v3_bytes v3 ≡ fields_bytes (seen_fields v2 v3)
unfolding fields_bytes v3_bytes newer_bytes
newer-fields v2 v3 magic newer =
    let test : (v2.version == 3) ≡ true = grind (arith, nat_tests) in
    rw (first-part v2 v3 magic, test) refl

-- The fields of version 2.
pub older-fields : (v2 : V2Header) (v3 : V3HeaderBase) → v2.magic ≡ 0x5146_49fb → v2.version ≢ 3 → v2_bytes v2 ≡ fields_bytes (seen_fields v2 v3)
unfolding fields_bytes first_bytes
older-fields v2 v3 magic older =
    let test : (v2.version == 3) ≡ false = grind (arith, nat_tests) in
    rw (first-part v2 v3 magic, test) refl

pub length-fields_bytes : (h : Fields) → length (fields_bytes h) ≡ fields_length h
unfolding fields_bytes first_bytes newer_bytes
length-fields_bytes h = split (is_version_3 h)
  where
    split : (b : Bool) → length (first_bytes h ++ to_be_bytes w64 h.snapshots_offset ++ (if b then newer_bytes h else [])) ≡ (if b then 104 else 72)
    split true = refl
    split false = refl

-- The fields over the first bytes of others, in version 3.
pub put-newer : (v2 : V2Header) (v3 : V3HeaderBase) (old first second : List ℕ) → v2.magic ≡ 0x5146_49fb → v2.version ≡ 3 → fields_length (seen_fields v2 v3) ≤ length old → first ≡ v2_bytes v2 → second ≡ v3_bytes v3
    → put_mid 72 32 (first ++ drop 72 old) second ≡ fields_bytes (seen_fields v2 v3) ++ drop (fields_length (seen_fields v2 v3)) old
put-newer v2 v3 old first second magic newer room is-first is-second =
    let test : (v2.version == 3) ≡ true = grind (arith, nat_tests) in
    let long : length first ≡ 72 = ap length is-first ∙ length-v2_bytes v2 in
    let long' : length second ≡ 32 = ap length is-second ∙ length-v3_bytes v3 in
    let front : take 104 (put_mid 72 32 (first ++ drop 72 old) second) ≡ first ++ second =
    take-put_mid 72 32 (first ++ drop 72 old) second 104 (omega arith) (omega (arith, length-append first (drop 72 old))) ∙ ap (λ xs. xs ++ second) (take-front first (drop 72 old) long) in
    let back : drop 104 (put_mid 72 32 (first ++ drop 72 old) second) ≡ drop 104 old =
    drop-put_mid 72 32 (first ++ drop 72 old) second 104 (omega arith) (omega (arith, length-append first (drop 72 old))) long' ∙ drop-append-drop 72 old first 104 (omega arith) long in
    let fields : first ++ second ≡ fields_bytes (seen_fields v2 v3) = rw (is-first, is-second) (newer-fields v2 v3 magic newer) in
    rw test (sym (take-append-drop 104 (put_mid 72 32 (first ++ drop 72 old) second)) ∙ (rw (front, back, fields) refl))
  where
    take-front : (xs ys : List ℕ) → length xs ≡ 72 → take 72 (xs ++ ys) ≡ xs
    take-front xs ys long = ap (λ n. take n (xs ++ ys)) (sym long) ∙ take-append_seam xs ys

-- In version 2.
pub put-older : (v2 : V2Header) (v3 : V3HeaderBase) (old first : List ℕ) → v2.magic ≡ 0x5146_49fb → v2.version ≢ 3 → first ≡ v2_bytes v2
    → first ++ drop 72 old ≡ fields_bytes (seen_fields v2 v3) ++ drop (fields_length (seen_fields v2 v3)) old
put-older v2 v3 old first magic older is-first =
    let test : (v2.version == 3) ≡ false = grind (arith, nat_tests) in
    rw (is-first, older-fields v2 v3 magic older, test) refl

-- The fields with the name's offset and length, as they are written.
pub with-place : (H : Header) (name : Option (List ℕ)) (place size fields : ℕ) → H.backing_name ≡ name → place ≡ backing_name_offset H name → size ≡ length (name_bytes name) → fields ≡ fields_length H.fields
    → ◌≡◌ {A = Fields} (record H.fields { backing_offset = place; backing_length = size; header_length = fields }) (written_fields H)
unfolding written_fields
with-place H name place size fields is at long all =
    let at' : place ≡ backing_name_offset H H.backing_name = at ∙ ap (backing_name_offset H) (sym is) in
    let long' : size ≡ length (name_bytes H.backing_name) = long ∙ ap (λ n. length (name_bytes n)) (sym is) in
    rw (at', long', all) refl

-- The offset of the name, if the image has one.
pub place-some : {T : Type 0} (H : Header) (f : T → List ℕ) (name : Option T) → is_some name ≡ true → fields_length H.fields + length (extensions_bytes H) ≡ backing_name_offset H (option_map f name)
place-some H f (Some x) there = refl
place-some H f None there = absurd cc

-- The image has no name.
pub place-none : {T : Type 0} (H : Header) (f : T → List ℕ) (name : Option T) → is_some name ≡ false → 0 ≡ backing_name_offset H (option_map f name)
place-none H f (Some x) none = absurd cc
place-none H f None none = refl

-- A list is overwritten by one of the same length.
pub overwritten : {X : Type 0} (new old : List X) (n : ℕ) → n ≡ length old → length new ≡ length old → take n (new ++ drop (length new) old) ≡ new
overwritten new old n is same = let n' : n ≡ length new = omega arith in ap (λ k. take k (new ++ drop (length new) old)) n' ∙ take-append_seam new (drop (length new) old)

pub fields-long : (h : Fields) → (72 ≤ fields_length h) × (fields_length h ≤ 104)
fields-long h = split (is_version_3 h)
  where
    split : (b : Bool) → (72 ≤ (if b then 104 else 72)) × ((if b then 104 else 72) ≤ 104)
    split true = (omega arith, omega arith)
    split false = (omega arith, omega arith)

pub length-header_bytes : (H : Header) → length (header_bytes H) ≡ fields_length H.fields + length (extensions_bytes H) + length (name_bytes H.backing_name)
unfolding header_bytes written_fields
length-header_bytes H =
    let fields : length (fields_bytes (written_fields H)) ≡ fields_length H.fields = length-fields_bytes (written_fields H) in
    omega (arith, length-append (fields_bytes (written_fields H) ++ extensions_bytes H) (name_bytes H.backing_name), length-append (fields_bytes (written_fields H)) (extensions_bytes H))

-- The written fields have the same length.
pub fields-kept : (H : Header) (F : Fields) → F ≡ written_fields H → fields_length F ≡ fields_length H.fields
unfolding written_fields
fields-kept H F is = ap fields_length is

module _ (H : Header) (start all : List ℕ) (is : start ≡ replicate (fields_length H.fields) 0 ++ extensions_bytes H) where
  -- The offset of the name.
  pub name-begins : length start ≡ fields_length H.fields + length (extensions_bytes H)
  name-begins = omega (arith, ap length is, length-append (replicate (fields_length H.fields) 0) (extensions_bytes H), length-replicate {A = ℕ} (fields_length H.fields) 0)

  -- The length of all written bytes.
  pub all-long : all ≡ start ++ name_bytes H.backing_name → length all ≡ length (header_bytes H)
  all-long more = omega (arith, ap length more, length-append start (name_bytes H.backing_name), name-begins, length-header_bytes H)

  -- All written bytes, with the fields written over the zeroes.
  pub all-written : (F : Fields) (new : List ℕ) → all ≡ start ++ name_bytes H.backing_name → F ≡ written_fields H → new ≡ fields_bytes F ++ drop (fields_length F) all → new ≡ header_bytes H
  unfolding header_bytes written_fields
  all-written F new more fields put =
      let size : fields_length F ≡ fields_length H.fields = ap fields_length fields in
      let zeroes : List ℕ = replicate (fields_length H.fields) 0 in
      let behind : drop (fields_length F) all ≡ extensions_bytes H ++ name_bytes H.backing_name =
      rw (size, more, is, append_assoc) (past (fields_length H.fields) (extensions_bytes H ++ name_bytes H.backing_name)) in
      put ∙ (rw (behind, fields) (simp append_assoc))
    where
      past : (n : ℕ) (xs : List ℕ) → drop n (replicate n 0 ++ xs) ≡ xs
      past n xs = ap (λ (k : ℕ). drop k (replicate n 0 ++ xs)) (sym (length-replicate {A = ℕ} n 0)) ∙ drop-append_seam (replicate n 0) xs

  -- The bytes are long enough for the fields.
  pub fields-inside : all ≡ start ++ name_bytes H.backing_name → fields_length H.fields ≤ length all
  fields-inside more = omega (arith, all-long more, length-header_bytes H)

-- The version is unchanged, and so are the extensions.
extensions-again : (H : Header) → extensions_bytes (written H) ≡ extensions_bytes H
unfolding extensions_bytes extensions_of written_fields
extensions-again H = refl

-- The fields of a written header are written again.
fields-again : (H : Header) → written_fields (written H) ≡ written_fields H
unfolding written_fields
fields-again H =
    let place : backing_name_offset (written H) H.backing_name ≡ backing_name_offset H H.backing_name = split H.backing_name in
    rw place refl
  where
    split : (name : Option (List ℕ)) → backing_name_offset (written H) name ≡ backing_name_offset H name
    split (Some x) = ap (λ (bytes : List ℕ). fields_length H.fields + length bytes) (extensions-again H)
    split None = refl

-- Writing a header a second time doesn't change it.
pub written-again : (H : Header) → written (written H) ≡ written H
written-again H = ap (λ (h : Fields). record H { fields = h }) (fields-again H)

-- The second write has the same bytes.
pub bytes-again : (H : Header) → header_bytes (written H) ≡ header_bytes H
unfolding header_bytes
bytes-again H = rw (fields-again H, extensions-again H) refl

-- The meaning of a driver's files, if its further files (VMDK extents) are found by their names. The law of `NamesFiles` for image drivers
-- cites these lemmas.
use Rattle.std.proofs.Common.{◌≡◌, ◌⊎◌, ◌∙◌, ◌∷◌, ◌++◌, ◌<◌, ◌≤◌, ◌+◌, ◌-◌, ◌*◌, ◌/◌, [], ℕ, zero, suc, List}
use Rattle.std.proofs.Common.{ap, arith, inl, inr, length, refl, subst, sym}
use Rattle.std.specs.Prelude.{Bool, Err, Ok, Result, cond, false, ltb, map, slice_index_or, true}
use Rattle.std.specs.Str.{bytes_eq}
use Rattle.std.specs.String.{string_bytes}
use Rattle.std.specs.declared.string.String.{String}
use Rattle.std.specs.declared.alloc.Global.{Global}
use Rattle.std.proofs.lemmas.Slice.Eq.{bytes_eq-Decides}
use Rattle.imago_storage.specs.Disk.{Value, byte}
use Rattle.imago_storage.specs.State.{StorageState}
use Rattle.imago_storage.specs.declared.fault.Fault.{Fault}
use Rattle.imago_access.specs.Files.{byte_in}
use Rattle.imago_access.specs.Layer.{own, through, unmapped}
use Rattle.imago_access.specs.declared.format.Format.TheVariants as format
use Rattle.imago_formats.specs.Descriptor.{descriptor_of}
use Rattle.imago_formats.specs.DescriptorView.{kept_extents, kept_names, source_with}
use Rattle.imago_formats.specs.VmdkLayer.{asks_file, file_names, in_extents, in_source, meaning_of, name_in, vmdk_layer}
use Rattle.imago_formats.specs.declared.vmdk.descriptor.Access.{Access}
use Rattle.imago_formats.specs.declared.vmdk.descriptor.Access.TheVariants.{NoAccess, ReadOnly, ReadWrite}
use Rattle.imago_formats.specs.declared.vmdk.descriptor.Extent.{Extent}
use Rattle.imago_formats.specs.declared.vmdk.descriptor.Source.{Source}
use Rattle.imago_formats.specs.declared.vmdk.descriptor.Source.TheVariants.{Flat, Zero}
use Rattle.qcow2_image.specs.ImageLayer.{blank_of, cell_by, qcow2_meaning}
use Rattle.qcow2_image.specs.ImageLayer as image_layer
use Rattle.qcow2_types.specs.Bytes.{Bytes, bytes_of}
use Rattle.qcow2_types.specs.Entries.{entry}
use Rattle.qcow2_types.specs.Header.{Fields, Header, cluster_size, header_of}
use Rattle.qcow2_types.specs.Words.{Mapping, data_at, damaged, packed, zeroes}
use Rattle.qcow2_types.specs.Words as words
use Rattle.qimg_chain.specs.FileMeanings.{MeansFile, byte_at, names_said, taken_for, with_names}

-- ---- Qcow2 images.

-- Without layers below, unmapped bytes are 0.
blank_mapped : (f : Bytes) (h : Fields) (p : ℕ) (v : Value) (t : Bool) (m : Mapping) → v ≡ byte 0
    → through (cond t (cell_by (own (byte 0)) f h p m) (own (byte 0))) v ≡ through (cond t (cell_by unmapped f h p m) (own (byte 0))) v
blank_mapped f h p v false m is = refl
blank_mapped f h p v true (data_at cluster copied) is = refl
blank_mapped f h p v true (zeroes cluster copied) is = refl
blank_mapped f h p v true (packed offset n) is = refl
blank_mapped f h p v true words.unmapped is = sym is
blank_mapped f h p v true damaged is = refl

blank_meant : (f : Bytes) (said : Result Header Fault) (p : ℕ) (v : Value) → v ≡ byte 0
    → through ((image_layer.meaning_of (own (byte 0)) f said).cell p) v ≡ through ((image_layer.meaning_of unmapped f said).cell p) v
blank_meant f (Ok H) p v is = blank_mapped f H.fields p v (ltb p H.fields.size) (entry f H.fields (p / cluster_size H.fields)) is
blank_meant f (Err fault) p v is = refl

pub qcow2_through : (backed : Bool) (bytes : List ℕ) (p : ℕ) (v : Value) → (blank_of backed ≡ unmapped) ⊎ (v ≡ byte 0)
    → through ((qcow2_meaning (blank_of backed) bytes).cell p) v ≡ through ((qcow2_meaning unmapped bytes).cell p) v
qcow2_through true bytes p v known = refl
qcow2_through false bytes p v (inl hides) = absurd (cc hides)
qcow2_through false bytes p v (inr is) = blank_meant (bytes_of bytes) (header_of false (bytes_of bytes)) p v is

pub sized : (backed : Bool) (f : Bytes) (said : Result Header Fault)
    → (image_layer.meaning_of (blank_of backed) f said).size ≡ (image_layer.meaning_of unmapped f said).size
sized backed f (Ok H) = refl
sized backed f (Err fault) = refl

-- ---- VMDK images: the extents read the same bytes over files that agree where they are read.

-- The bytes of the `n` files from number `k` on are the same.
abbrev Agree : (f e : ℕ → ℕ → ℕ) (k n : ℕ) → Type 0
Agree f e k n = (j q : ℕ) → k ≤ j → j < k + n → f j q ≡ e j q

pub alike : (f e : ℕ → ℕ → ℕ) (xs : List (Extent (List ℕ))) (k p : ℕ)
    → Agree f e k (length (file_names xs)) → in_extents f xs k p ≡ in_extents e xs k p
alike f e [] k p same = refl
alike f e (x ∷ xs) k p same = by_access x.access x.source (ltb p (512 * x.sectors)) (λ n. alike f e xs n (p - 512 * x.sectors)) same where
  by_access : (a : Access) (s : Source (List ℕ)) (t : Bool)
      → ((n : ℕ) → Agree f e n (length (file_names xs))
      → in_extents f xs n (p - 512 * x.sectors) ≡ in_extents e xs n (p - 512 * x.sectors))
      → Agree f e k (length (name_in a s ++ file_names xs))
      → cond t (in_source a s (f k) p) (in_extents f xs (cond (asks_file a s) (k + 1) k) (p - 512 * x.sectors))
      ≡ cond t (in_source a s (e k) p) (in_extents e xs (cond (asks_file a s) (k + 1) k) (p - 512 * x.sectors))
  by_access NoAccess s true later agree = refl
  by_access NoAccess s false later agree = later k agree
  by_access ReadWrite (Flat name sector) true later agree = ap (λ b. own (byte b)) (agree k (512 * sector + p) (omega arith) (omega arith))
  by_access ReadWrite (Flat name sector) false later agree =
      later (k + 1) (λ j q low high. agree j q (omega (arith, low)) (omega (arith, high)))
  by_access ReadWrite Zero true later agree = refl
  by_access ReadWrite Zero false later agree = later k agree
  by_access ReadOnly (Flat name sector) true later agree = ap (λ b. own (byte b)) (agree k (512 * sector + p) (omega arith) (omega arith))
  by_access ReadOnly (Flat name sector) false later agree =
      later (k + 1) (λ j q low high. agree j q (omega (arith, low)) (omega (arith, high)))
  by_access ReadOnly Zero true later agree = refl
  by_access ReadOnly Zero false later agree = later k agree

pub same_extents : (f e : ℕ → ℕ → ℕ) (said : Result (List (Extent (List ℕ))) Fault) (p : ℕ)
    → Agree f e 1 (length (names_said said)) → (meaning_of said f).cell p ≡ (meaning_of said e).cell p
same_extents f e (Ok xs) p same = alike f e xs 1 p same
same_extents f e (Err fault) p same = refl

pub same_size : (f e : ℕ → ℕ → ℕ) (said : Result (List (Extent (List ℕ))) Fault) → (meaning_of said f).size ≡ (meaning_of said e).size
same_size f e (Ok xs) = refl
same_size f e (Err fault) = refl

-- The kept names are those of the descriptor.
pub names_kept : (xs : List (Extent (String Global))) → file_names (kept_extents xs) ≡ kept_names xs
names_kept [] = refl
names_kept (x ∷ xs) = by_access x.access x.source (names_kept xs) where
  by_access : (a : Access) (s : Source (String Global)) → file_names (kept_extents xs) ≡ kept_names xs
      → name_in a (source_with (λ name. string_bytes name) s) ++ file_names (kept_extents xs)
      ≡ map (λ name. string_bytes name) (name_in a s ++ file_names xs)
  by_access NoAccess s rest = rest
  by_access ReadWrite (Flat name sector) rest = ap (λ names. string_bytes name ∷ names) rest
  by_access ReadWrite Zero rest = rest
  by_access ReadOnly (Flat name sector) rest = ap (λ names. string_bytes name ∷ names) rest
  by_access ReadOnly Zero rest = rest

-- ---- Files in the order of their names.

none_taken : (names : List (List ℕ)) (i q : ℕ) → byte_at (taken_for names []) i q ≡ 0
none_taken [] i q = refl
none_taken (name ∷ names) zero q = refl
none_taken (name ∷ names) (suc i) q = none_taken names i q

-- The first file has the first name.
found : (f : ℕ → List ℕ) (name : List ℕ) (names : List (List ℕ)) (k : ℕ)
    → ((i : ℕ) → i < length (name ∷ names) → f (k + i) ≡ slice_index_or (name ∷ names) i []) → bytes_eq (f k) name ≡ true
found f name names k same =
    let here : k ≡ k + 0 = omega arith in
    (bytes_eq-Decides (f k) name).1 (ap f here ∙ same 0 (omega arith))

-- Each file is the one that is taken for its name.
in_order : (f : ℕ → List ℕ) (names : List (List ℕ)) (k : ℕ) (ss : List StorageState)
    → ((i : ℕ) → i < length names → f (k + i) ≡ slice_index_or names i [])
    → (i q : ℕ) → i < length names → byte_in ss i q ≡ byte_at (taken_for names (with_names f k ss)) i q
in_order f [] k ss same i q inside = absurd (omega (arith, inside))
in_order f (name ∷ names) k [] same i q inside = sym (none_taken (name ∷ names) i q)
in_order f (name ∷ names) k (s ∷ ss) same zero q inside = rw (found f name names k same) refl
in_order f (name ∷ names) k (s ∷ ss) same (suc i) q inside = rw (found f name names k same) (in_order f names (suc k) ss
    (λ n small. let more : suc k + n ≡ k + suc n = omega arith in ap f more ∙ same (suc n) (omega (arith, small)))
    i q (omega (arith, inside)))

-- ---- The lemmas for the drivers.

-- The names of the extents, by their order.
abbrev name_at : List (Extent (String Global)) → ℕ → List ℕ
name_at xs i = slice_index_or (kept_names xs) i []

-- Files in the order of the extents' names are those found by the names.
numbered : (xs : List (Extent (String Global))) (image : StorageState) (ss : List StorageState)
    → let taken = taken_for (file_names (kept_extents xs)) (with_names (name_at xs) 0 ss) in
    Agree (byte_in (image ∷ ss)) (byte_at (image.bytes ∷ taken)) 1 (length (file_names (kept_extents xs)))
numbered xs image ss zero q low high = absurd (omega (arith, low))
numbered xs image ss (suc j) q low high = in_order (name_at xs) (file_names (kept_extents xs)) 0 ss
    (λ i small. let here : 0 + i ≡ i = omega arith in
    ap (name_at xs) here ∙ ap (λ names. slice_index_or names i []) (sym (names_kept xs))) j q (omega (arith, high))

pub vmdk_named : (xs : List (Extent (String Global))) (image : StorageState) (ss : List StorageState)
    → descriptor_of image.bytes ≡ Ok (kept_extents xs) → MeansFile (vmdk_layer xs image ss) image.bytes
    (record { format = format.Vmdk; bytes = image.bytes; extras = with_names (λ i. slice_index_or (kept_names xs) i []) 0 ss })
vmdk_named xs image ss says =
    let in_files = byte_in (image ∷ ss) in
    let found_for = λ (said : Result (List (Extent (List ℕ))) Fault).
    byte_at (image.bytes ∷ taken_for (names_said said) (with_names (name_at xs) 0 ss)) in
    let said = descriptor_of image.bytes in
    let same = subst (λ (r : Result (List (Extent (List ℕ))) Fault). Agree in_files (found_for r) 1 (length (names_said r))) (sym says)
    (numbered xs image ss) in record {
      size = same_size in_files (found_for said) said;
      cell = λ p below backed. ap (λ c. through c below) (same_extents in_files (found_for said) said p same);
    }

-- Copies of the files of a chain.
use Rattle.std.proofs.Common.{◌≡◌, ◌<◌, ◌≤◌, ◌∙◌, ◌∷◌, ◌++◌, ◌+◌, ◌^◌, [], ℕ, zero, suc, List, ap, arith, get_or, length, map, refl, subst, sym, take}
use Rattle.std.specs.Prelude.{⊤, Result, Ok, Err, IfErr, IsErrAnd, IsOkUnless, slice_index}
use Rattle.std.specs.String.{string_bytes}
use Rattle.std.specs.declared.alloc.Global.{Global}
use Rattle.std.specs.declared.string.String.{String}
use Rattle.imago_storage.specs.MemStorage.{mem_state}
use Rattle.imago_storage.specs.declared.memory.MemStorage.{MemStorage}
use Rattle.qimg_core.specs.declared.plain.ChainFile.{ChainFile}
use Rattle.std.proofs.lemmas.Grind.{same_number_lists}
use Rattle.std.proofs.lemmas.List.{map-append, take_all}
use Rattle.std.proofs.lemmas.Result.{err_from_is_err_and}
use Rattle.imago_storage.specs.State.{StorageState, IsAlignment}
use Rattle.imago_storage.specs.Calls.{IsFaultless}
use Rattle.imago_storage.specs.declared.fault.Fault.{Fault}
use Rattle.imago_storage.specs.declared.fault.Fault.TheVariants.{RangeOverflow, Memory, Storage}
use Rattle.imago_access.specs.declared.driver_model.DriverModel.{Ghosts}
use Rattle.imago_access.specs.FileReads.{file_bytes_in, files_at, FilesRead, FileReadCause}
use Rattle.imago_access.specs.Files.{AreRead, IsNotResourceError, OverflowsIn, Pairs, HadNoResourceError, byte_in, files, files_of}
use Rattle.imago_access.specs.Refusals.{IsOfStorages}
use Rattle.imago_access.proofs.FilePairs.{faultless_all_both, some_rose_behind}
use Rattle.imago_access.proofs.FileReads.{all_read_looked, fits_at}
use Rattle.imago_access.proofs.Looking.{chain_faults, chain_later}
use Rattle.qimg_chain.specs.declared.chain.snapshots.LayerNames.{LayerNames}
use Rattle.qimg_chain.specs.FileMeanings.{FileBytes, driver_bytes, extra_bytes, file_bytes, files_bytes, with_names}
use Rattle.qimg_chain.specs.Snapshots.{Names, WhyNotCopied, filled, names_of, said_names, with_bytes}

length_map : {A B : Type 0} (f : A → B) (xs : List A) → length (map f xs) ≡ length xs
length_map f [] = refl
length_map f (x ∷ xs) = let rest = length_map f xs in omega (arith, rest)

-- A property of calls without a resource error, for a fault that `?` passes on.
pub passed_mildly : {T : Type 0} (result : Result T Fault) (fault : Fault) → IsErrAnd result (λ e. e ≡ fault) → (P : Type 0 → Type 0) → P (IsNotResourceError fault) → P (HadNoResourceError result)
passed_mildly {T} result fault is_err P holds =
    let p = err_from_is_err_and result is_err in
    subst (λ (r : Result T Fault). P (HadNoResourceError r)) (sym p.1) (subst (λ (e : Fault). P (IsNotResourceError e)) (sym p.2) holds)

-- ---- The bytes of one file.

same_byte : (ss : List StorageState) (file place : ℕ) → byte_in ss file place ≡ slice_index (file_bytes_in ss file) place
same_byte [] file place = refl
same_byte (s ∷ ss) zero place = refl
same_byte (s ∷ ss) (suc file) place = same_byte ss file place

-- A file that was read completely.
pub read_whole : (ss : List StorageState) (file : ℕ) (buf : List ℕ) → length buf ≡ length (file_bytes_in ss file) → AreRead ss file 0 (length buf) buf → buf ≡ file_bytes_in ss file
read_whole ss file buf long read =
    same_number_lists buf (file_bytes_in ss file) long (λ k lt. let at : 0 + k ≡ k = omega arith in read k lt ∙ ap (byte_in ss file) at ∙ same_byte ss file k)

-- ---- The names of a layer's files.

pub names_more : (names : ℕ → List ℕ) (k : ℕ) (ss : List StorageState) (i : ℕ) → i < length ss
    → take (i + 1) (map (λ file. file.0) (with_names names k ss)) ≡ take i (map (λ file. file.0) (with_names names k ss)) ++ (names (k + i) ∷ [])
names_more names k [] i lt = absurd (omega (arith, lt))
names_more names k (s ∷ ss) zero lt = let same : k ≡ k + 0 = omega arith in ap (λ j. names j ∷ []) same
names_more names k (s ∷ ss) (suc i) lt =
    let more : suc i + 1 ≡ suc (i + 1) = omega arith in
    let same : suc k + i ≡ k + suc i = omega arith in
    ap (λ n. take n (map (λ file. file.0) (with_names names k (s ∷ ss)))) more
    ∙ ap (λ ns. names k ∷ ns) (names_more names (suc k) ss i (omega (arith, lt)))
    ∙ ap (λ j. names k ∷ (take i (map (λ file. file.0) (with_names names (suc k) ss)) ++ (names j ∷ []))) same

as_many : (names : ℕ → List ℕ) (k : ℕ) (ss : List StorageState) → length (map (λ file. file.0) (with_names names k ss)) ≡ length ss
as_many names k [] = refl
as_many names k (s ∷ ss) = omega (arith, as_many names (suc k) ss)

pub names_all : (names : ℕ → List ℕ) (ss : List StorageState) (i : ℕ) → length ss ≤ i
    → take i (map (λ file. file.0) (with_names names 0 ss)) ≡ map (λ file. file.0) (with_names names 0 ss)
names_all names ss i past = take_all i (map (λ file. file.0) (with_names names 0 ss)) (omega (arith, past, as_many names 0 ss))

-- A name is appended to the list.
pub name_pushed : (items : List (String Global)) (x : String Global) (names : ℕ → List ℕ) (ss : List StorageState) (i : ℕ)
    → map string_bytes items ≡ take i (map (λ file. file.0) (with_names names 0 ss)) → i < length ss → string_bytes x ≡ names i
    → map string_bytes (items ++ (x ∷ [])) ≡ take (i + 1) (map (λ file. file.0) (with_names names 0 ss))
name_pushed items x names ss i so_far lt is =
    let same : i ≡ 0 + i = omega arith in
    map-append string_bytes items (x ∷ []) ∙ (λ j. so_far j ++ (is j ∷ [])) ∙ ap (λ k. take i (map (λ file. file.0) (with_names names 0 ss)) ++ (names k ∷ [])) same
    ∙ sym (names_more names 0 ss i lt)

-- ---- Names with the bytes of their files.

pub bytes_more : (names : List (String Global)) (k : ℕ) (ss : List StorageState) (i : ℕ) (name : String Global) → i < length names → name ≡ get_or names i name
    → with_bytes (take (i + 1) (map string_bytes names)) k ss ≡ with_bytes (take i (map string_bytes names)) k ss ++ ((string_bytes name, file_bytes_in ss (k + i)) ∷ [])
bytes_more [] k ss i name lt is = absurd (omega (arith, lt))
bytes_more (n ∷ ns) k ss zero name lt is =
    let same : k ≡ k + 0 = omega arith in
    ap (λ (m : String Global). (string_bytes m, file_bytes_in ss k) ∷ []) (sym is) ∙ ap (λ j. (string_bytes name, file_bytes_in ss j) ∷ []) same
bytes_more (n ∷ ns) k ss (suc i) name lt is =
    let more : suc i + 1 ≡ suc (i + 1) = omega arith in
    let same : suc k + i ≡ k + suc i = omega arith in
    ap (λ m. with_bytes (take m (map string_bytes (n ∷ ns))) k ss) more
    ∙ ap (λ rest. (string_bytes n, file_bytes_in ss k) ∷ rest) (bytes_more ns (suc k) ss i name (omega (arith, lt)) is)
    ∙ ap (λ j. (string_bytes n, file_bytes_in ss k) ∷ (with_bytes (take i (map string_bytes ns)) (suc k) ss ++ ((string_bytes name, file_bytes_in ss j) ∷ []))) same

-- A copy is appended to the list.
pub copied_more : (items : List (String Global × MemStorage)) (x : String Global × MemStorage) (names : List (String Global)) (ss : List StorageState) (i : ℕ) (name : String Global)
    → map (extra_bytes mem_state) items ≡ with_bytes (take i (map string_bytes names)) 1 ss → i < length names → name ≡ get_or names i name
    → extra_bytes mem_state x ≡ (string_bytes name, file_bytes_in ss (i + 1)) → map (extra_bytes mem_state) (items ++ (x ∷ [])) ≡ with_bytes (take (i + 1) (map string_bytes names)) 1 ss
copied_more items x names ss i name so_far lt there is =
    let same : i + 1 ≡ 1 + i = omega arith in
    map-append (extra_bytes mem_state) items (x ∷ []) ∙ (λ j. so_far j ++ (is j ∷ []))
    ∙ ap (λ n. with_bytes (take i (map string_bytes names)) 1 ss ++ ((string_bytes name, file_bytes_in ss n) ∷ [])) same ∙ sym (bytes_more names 1 ss i name lt there)

-- Storages with the same bytes as others.
with_kept : (names : List (List ℕ)) (k : ℕ) (ss ts : List StorageState) → ((n : ℕ) → file_bytes_in ts n ≡ file_bytes_in ss n) → with_bytes names k ts ≡ with_bytes names k ss
with_kept [] k ss ts same = refl
with_kept (name ∷ names) k ss ts same = λ j. (name, same k j) ∷ with_kept names (suc k) ss ts same j

pub filled_kept : (names : Names) (ss ts : List StorageState) → ((n : ℕ) → file_bytes_in ts n ≡ file_bytes_in ss n) → filled names ts ≡ filled names ss
filled_kept names ss ts same =
    let further = with_kept names.further 1 ss ts same in
    λ j. record { format = names.format; bytes = same 0 j; extras = further j }

-- The names of storages with their own bytes.
named_bytes : (names : ℕ → List ℕ) (k n : ℕ) (all ss : List StorageState) → ((i : ℕ) → file_bytes_in all (n + i) ≡ file_bytes_in ss i)
    → with_bytes (map (λ file. file.0) (with_names names k ss)) n all ≡ with_names names k ss
named_bytes names k n all [] same = refl
named_bytes names k n all (s ∷ ss) same =
    let first : n ≡ n + 0 = omega arith in
    let head : file_bytes_in all n ≡ s.bytes = ap (file_bytes_in all) first ∙ same 0 in
    (λ j. (names k, head j) ∷ named_bytes names (suc k) (suc n) all ss (λ i. let next : suc n + i ≡ n + suc i = omega arith in ap (file_bytes_in all) next ∙ same (suc i)) j)

module _ {D St : Type 0} (g : Ghosts D St) (names : D → ℕ → List ℕ) where
  -- The copies of a layer's files, by their names.
  pub filled_is : (d : D) → filled (names_of g names d) (files g d) ≡ driver_bytes g names d
  filled_is d =
      let further = named_bytes (names d) 0 1 (files g d) (g.extras d) (λ i. let next : 1 + i ≡ suc i = omega arith in ap (file_bytes_in (files g d)) next) in
      λ i. record { format = (g.layer d).fixed.format; bytes = (g.image d).bytes; extras = further i }

  same_head : {A : Type 0} (x y : A) (xs ys : List A) → x ∷ xs ≡ y ∷ ys → x ≡ y
  same_head x y xs ys is = cc is

  same_rest : {A : Type 0} (x y : A) (xs ys : List A) → x ∷ xs ≡ y ∷ ys → xs ≡ ys
  same_rest x y xs ys is = cc is

  -- One more layer.
  pub layer_more : (ds : List D) (layers : List LayerNames) (i : ℕ) (x : LayerNames) → map said_names layers ≡ map (names_of g names) ds → i < length layers → x ≡ get_or layers i x
      → take (i + 1) (map (driver_bytes g names) ds) ≡ take i (map (driver_bytes g names) ds) ++ (filled (said_names x) (files_at g ds i) ∷ [])
  layer_more ds [] i x is lt there = absurd (omega (arith, lt))
  layer_more [] (y ∷ ys) i x is lt there = absurd (cc is)
  layer_more (d ∷ ds) (y ∷ ys) zero x is lt there =
      let here = same_head (said_names y) (names_of g names d) (map said_names ys) (map (names_of g names) ds) is in
      ap (λ (f : FileBytes). f ∷ []) (sym (filled_is d) ∙ ap (λ (n : Names). filled n (files g d)) (sym here ∙ ap said_names (sym there)))
  layer_more (d ∷ ds) (y ∷ ys) (suc i) x is lt there =
      let more : suc i + 1 ≡ suc (i + 1) = omega arith in
      let below = same_rest (said_names y) (names_of g names d) (map said_names ys) (map (names_of g names) ds) is in
      ap (λ n. take n (map (driver_bytes g names) (d ∷ ds))) more ∙ ap (λ files. driver_bytes g names d ∷ files) (layer_more ds ys i x below (omega (arith, lt)) there)

  -- The copy of a layer, after those of the layers above it.
  pub files_more : (ds : List D) (layers : List LayerNames) (i : ℕ) (x : LayerNames) (items : List (ChainFile MemStorage)) (file : ChainFile MemStorage)
      → files_bytes mem_state items ≡ take i (map (driver_bytes g names) ds) → map said_names layers ≡ map (names_of g names) ds → i < length layers → x ≡ get_or layers i x
      → file_bytes mem_state file ≡ filled (said_names x) (files_at g ds i) → files_bytes mem_state (items ++ (file ∷ [])) ≡ take (i + 1) (map (driver_bytes g names) ds)
  files_more ds layers i x items file so_far is lt there copied =
      map-append (file_bytes mem_state) items (file ∷ []) ∙ (λ j. so_far j ++ (copied j ∷ [])) ∙ sym (layer_more ds layers i x is lt there)

  same_length : {A B C : Type 0} (f : A → C) (h : B → C) (xs : List A) (ys : List B) → map f xs ≡ map h ys → length xs ≡ length ys
  same_length f h [] [] is = refl
  same_length f h [] (y ∷ ys) is = absurd (cc is)
  same_length f h (x ∷ xs) [] is = absurd (cc is)
  same_length f h (x ∷ xs) (y ∷ ys) is = let rest = same_length f h xs ys (same_rest (f x) (h y) (map f xs) (map h ys) is) in omega (arith, rest)

-- ---- The reasons why files aren't copied.

-- A call that can only fail because memory runs out.
pub wanting : {T : Type 0} (r : Result T Fault) (P : Fault → Type 0) → P Memory → IsOkUnless r Memory → IfErr r P
wanting (Ok v) P holds why = tt
wanting (Err e) P holds why = subst P (sym why) holds

module _ {D St : Type 0} (g : Ghosts D St) where
  -- A read of a file that fits memory fails for no other reason.
  pub copy_cause : ((d : D) → IsAlignment (g.layer d).fixed.req_align × IsAlignment (g.layer d).fixed.mem_align) → ((d : D) → IsOfStorages (g.layer d) (g.image d) (g.extras d))
      → (olds news : List D) (layer file n : ℕ) (e : Fault) → n ≤ 2 ^ 63
      → FileReadCause (OverflowsIn (files_at g olds layer) file 0 n) (files_of g olds) (files_of g news) e → WhyNotCopied (files_of g olds) (files_of g news) e
  copy_cause aligned storages olds news layer file n RangeOverflow low why = absurd (fits_at g aligned storages olds layer file n low why)
  copy_cause aligned storages olds news layer file n Memory low why = why
  copy_cause aligned storages olds news layer file n Storage low why = why
  copy_cause aligned storages olds news layer file n e low why = absurd why

  -- No storage failed in reads without a resource error.
  pub no_change_refused : (olds news : List D) → Pairs (FilesRead g ⊤) olds news → Pairs IsFaultless (files_of g olds) (files_of g news)
  no_change_refused olds news read = chain_faults g ⊤ olds news tt (all_read_looked g ⊤ olds news read)

  -- The reason, after such reads.
  pub cause_behind : (olds mids news : List D) (e : Fault) → Pairs (FilesRead g ⊤) olds mids → WhyNotCopied (files_of g mids) (files_of g news) e → WhyNotCopied (files_of g olds) (files_of g news) e
  cause_behind olds mids news Memory read why = faultless_all_both (files_of g olds) (files_of g mids) (files_of g news) (no_change_refused olds mids read) why
  cause_behind olds mids news Storage read why =
      some_rose_behind (files_of g olds) (files_of g mids) (files_of g news) (chain_later g ⊤ olds mids (all_read_looked g ⊤ olds mids read)) why
  cause_behind olds mids news e read why = absurd why

-- The files of extents, opened one by one.
use Rattle.std.proofs.Common.{[], inl, inr, ◌≡◌, ◌⊎◌, ℕ, ◌+◌, ◌<◌, ◌^◌, false, cond, List, ◌∷◌, ◌++◌, length, take, drop, get_or, refl, sym, ap, subst, ◌∙◌, append_assoc, length-append, take-append-drop, arith}
use Rattle.std.specs.Prelude.{map, Result, Ok, Err, Some}
use Rattle.std.proofs.lemmas.List.{length-map, map-append}
use Rattle.std.proofs.lemmas.List.Sums.{sum_by-cons}
use Rattle.std.specs.String.{string_bytes}
use Rattle.std.specs.declared.string.String.{String}
use Rattle.std.specs.declared.alloc.Global.{Global}
use Rattle.std.proofs.lemmas.Bool.{cases_lt}
use Rattle.imago_storage.specs.State.{StorageState}
use Rattle.imago_storage.proofs.Failing.{may-fail}
use Rattle.imago_storage.specs.Through.{round_up}
use Rattle.imago_storage.specs.declared.fault.Fault.{Fault}
use Rattle.imago_storage.specs.declared.fault.Fault.TheVariants.{Memory, Storage}
use Rattle.imago_storage.proofs.Rounding.{round_up_whole}
use Rattle.imago_access.specs.Layer.{unit_of_layer}
use Rattle.imago_formats.specs.Descriptor.{descriptor_of}
use Rattle.imago_formats.specs.DescriptorView.{NotRead, RefusesOpening, kept_extent, kept_extents, kept_names, source_with}
use Rattle.imago_formats.specs.VmdkFiles.{unit_of_all}
use Rattle.imago_formats.specs.VmdkLayer.{AreInReach, asks_file, end_in_file, file_names, files_asked, has_file, name_in, vmdk_layer}
use Rattle.imago_formats.specs.VmdkOpening.{FilesRefused, MayRefuse, NotAllOpened, Opens, OpensNext, StopsOpening}
use Rattle.imago_formats.specs.declared.vmdk.descriptor.Access.{Access}
use Rattle.imago_formats.specs.declared.vmdk.descriptor.Access.TheVariants.{ReadWrite, ReadOnly, NoAccess}
use Rattle.imago_formats.specs.declared.vmdk.descriptor.Source.{Source}
use Rattle.imago_formats.specs.declared.vmdk.descriptor.Source.TheVariants.{Flat, Zero}
use Rattle.imago_formats.specs.declared.vmdk.descriptor.Extent.{Extent}
use Rattle.imago_formats.proofs.ExtentLemmas.{names_from}

-- ---- The names.

module _ {N : Type 0} where
  names_append : (xs ys : List (Extent N)) → file_names (xs ++ ys) ≡ file_names xs ++ file_names ys
  names_append [] ys = refl
  names_append (x ∷ xs) ys =
      ap (λ ns. name_in x.access x.source ++ ns) (names_append xs ys) ∙ sym (append_assoc (name_in x.access x.source) (file_names xs) (file_names ys))

  one_name : (a : Access) (s : Source N) → length (name_in a s) ≡ cond (asks_file a s) 1 0
  one_name NoAccess s = refl
  one_name ReadWrite (Flat name sector) = refl
  one_name ReadWrite Zero = refl
  one_name ReadOnly (Flat name sector) = refl
  one_name ReadOnly Zero = refl

  -- The number of names is the number of files that the extents need.
  length-file_names : (xs : List (Extent N)) → length (file_names xs) ≡ files_asked xs
  length-file_names [] = refl
  length-file_names (x ∷ xs) =
      length-append (name_in x.access x.source) (file_names xs)
      ∙ (λ i. one_name x.access x.source i + length-file_names xs i)
      ∙ sym (sum_by-cons (λ (e : Extent N). cond (has_file e) 1 0) x xs)

pub length-kept_names : (xs : List (Extent (String Global))) → length (kept_names xs) ≡ files_asked xs
length-kept_names xs = length-map (file_names xs) (λ n. string_bytes n) ∙ length-file_names xs

names_split : (xs : List (Extent (String Global))) (i : ℕ) → kept_names xs ≡ kept_names (take i xs) ++ kept_names (drop i xs)
names_split xs i =
    ap (λ ys. kept_names ys) (sym (take-append-drop i xs))
    ∙ ap (λ ns. map (λ n. string_bytes n) ns) (names_append (take i xs) (drop i xs))
    ∙ map-append (λ n. string_bytes n) (file_names (take i xs)) (file_names (drop i xs))

-- The name after those in `before`.
named_behind : (all before rest : List (List ℕ)) (name : List ℕ) → all ≡ before ++ name ∷ rest →
    (get_or all (length before) [] ≡ name) × (length before < length all)
named_behind all [] rest name e = rw e (refl, omega arith)
named_behind all (b ∷ bs) rest name e = let later = named_behind (bs ++ name ∷ rest) bs rest name refl in rw e (later.0, omega (arith, later.1))

-- The name of an extent's file, by its number.
pub name_at : (xs : List (Extent (String Global))) (i k : ℕ) (x : Extent (String Global)) (name : List ℕ) → i < length xs → x ≡ get_or xs i x →
    name ∷ [] ≡ map (λ n. string_bytes n) (name_in x.access x.source) → k ≡ files_asked (take i xs) →
    (get_or (kept_names xs) k [] ≡ name) × (k < length (kept_names xs))
name_at xs i k x name h is e count =
    let rest : kept_names (drop i xs) ≡ (name ∷ []) ++ kept_names (drop (i + 1) xs) = names_from xs i x (Some name) h is e in
    let place : length (kept_names (take i xs)) ≡ k = length-kept_names (take i xs) ∙ sym count in
    let behind = named_behind (kept_names xs) (kept_names (take i xs)) (kept_names (drop (i + 1) xs)) name
    (names_split xs i ∙ ap (λ ns. kept_names (take i xs) ++ ns) rest) in
    rw place at behind

-- ---- The files that the gate opens.

module _ {G S : Type 0} (answers : G → List ℕ → Result S Fault → G → Type 0) (names : List (List ℕ)) where
  opens_more : (k : ℕ) (gate mid now : G) (files : List S) (file : S) → Opens answers names k gate files mid → k + length files < length names →
      answers mid (get_or names (k + length files) []) (Ok file) now → Opens answers names k gate (files ++ file ∷ []) now
  opens_more k gate mid now [] file opens named given =
      let here : k + 0 ≡ k = omega arith in (
        now,
        omega (arith, named),
        subst (λ (g : G). answers g (get_or names k []) (Ok file) now) opens (subst (λ (n : ℕ). answers mid (get_or names n []) (Ok file) now) here given),
        refl,
      )
  opens_more k gate mid now (f ∷ fs) file opens named given =
      let there : k + length (f ∷ fs) ≡ k + 1 + length fs = omega arith in (
        opens.0,
        opens.1,
        opens.2,
        opens_more (k + 1) opens.0 mid now fs file opens.3 (omega (arith, named, there))
            (subst (λ (n : ℕ). answers mid (get_or names n []) (Ok file) now) there given),
      )

  -- One more file.
  pub opened_more : (old : List S × G) (files : List S) (mid now : G) (file : S) → OpensNext answers names old (files, mid) →
      length files < length names → answers mid (get_or names (length files) []) (Ok file) now → OpensNext answers names old (files ++ file ∷ [], now)
  opened_more old files mid now file opens named given =
      let long : length files ≡ length old.0 + length opens.opened = ap length opens.appended ∙ length-append old.0 opens.opened in record {
        opened = opens.opened ++ file ∷ [];
        appended = ap (λ fs. fs ++ file ∷ []) opens.appended ∙ append_assoc old.0 opens.opened (file ∷ []);
        given = opens_more (length old.0) old.1 mid now opens.opened file opens.given (omega (arith, named, long))
            (subst (λ (n : ℕ). answers mid (get_or names n []) (Ok file) now) long given);
      }

module _ {G S : Type 0} (answers : G → List ℕ → Result S Fault → G → Type 0) (names : List (List ℕ)) (old : List S × G) where
  -- The gate opens the file with this number, or fails.
  pub opens_here : (files files' : List S) (gate now : G) (k : ℕ) (name : List ℕ) → OpensNext answers names old (files, gate) → length files ≡ k →
      (get_or names k [] ≡ name) × (k < length names) → (file : S) × (files' ≡ files ++ file ∷ []) × answers gate name (Ok file) now →
      OpensNext answers names old (files', now)
  opens_here files files' gate now k name opens long is more =
      let here : get_or names (length files) [] ≡ name = ap (λ n. get_or names n []) long ∙ is.0 in
      subst (λ (fs : List S). OpensNext answers names old (fs, now)) (sym more.1)
      (opened_more answers names old files gate now more.0 opens (omega (arith, long, is.1))
      (subst (λ (n : List ℕ). answers gate n (Ok more.0) now) (sym here) more.2))

  pub stops_here : (files files' : List S) (gate now : G) (k : ℕ) (name : List ℕ) (fault : Fault) → OpensNext answers names old (files, gate) →
      files' ≡ files → length files ≡ k → (get_or names k [] ≡ name) × (k < length names) →
      ((fault ≡ Memory) × (now ≡ gate)) ⊎ answers gate name (Err fault) now → StopsOpening answers names old (files', now) fault
  stops_here files files' gate now k name fault opens same long is why =
      let many : length files' ≡ k = ap length same ∙ long in
      let here : get_or names (length files') [] ≡ name = ap (λ n. get_or names n []) many ∙ is.0 in record {
        before = gate;
        opens = subst (λ (fs : List S). OpensNext answers names old (fs, gate)) (sym same) opens;
        left = omega (arith, many, is.1);
        cause = elim why [ inl memory ↦ inl memory | inr told ↦ inr (subst (λ (n : List ℕ). answers gate n (Err fault) now) (sym here) told) ];
      }

-- ---- The errors of an image.

asks_kept : (a : Access) (s : Source (String Global)) → asks_file a (source_with (λ name. string_bytes name) s) ≡ asks_file a s
asks_kept NoAccess s = refl
asks_kept ReadWrite (Flat name sector) = refl
asks_kept ReadWrite Zero = refl
asks_kept ReadOnly (Flat name sector) = refl
asks_kept ReadOnly Zero = refl

asked_kept : (xs : List (Extent (String Global))) → files_asked (kept_extents xs) ≡ files_asked xs
asked_kept [] = refl
asked_kept (x ∷ xs) =
    sum_by-cons (λ (e : Extent (List ℕ)). cond (has_file e) 1 0) (kept_extent x) (kept_extents xs)
    ∙ (λ i. cond (asks_kept x.access x.source i) 1 0 + asked_kept xs i)
    ∙ sym (sum_by-cons (λ (e : Extent (String Global)). cond (has_file e) 1 0) x xs)

-- If no file is needed, reads can reach the end of each extent.
no_end : (a : Access) (s : Source (String Global)) (sectors : ℕ) → ◌≡◌ {A = ℕ} (cond (asks_file a s) 1 0) 0 → end_in_file a s sectors ≡ 0
no_end NoAccess s sectors none = refl
no_end ReadWrite (Flat name sector) sectors none = absurd (omega (arith, none))
no_end ReadWrite Zero sectors none = refl
no_end ReadOnly (Flat name sector) sectors none = absurd (omega (arith, none))
no_end ReadOnly Zero sectors none = refl

none_beyond : (unit : ℕ) (xs : List (Extent (String Global))) → 0 < unit → files_asked xs ≡ 0 → AreInReach unit xs
none_beyond unit [] some none = tt
none_beyond unit (x ∷ xs) some none =
    let parts = sum_by-cons (λ (e : Extent (String Global)). cond (has_file e) 1 0) x xs in
    let first : ◌≡◌ {A = ℕ} (cond (has_file x) 1 0) 0 = omega (arith, parts, none) in
    let rest : files_asked xs ≡ 0 = omega (arith, parts, none) in
    let end : end_in_file x.access x.source x.sectors ≡ 0 = no_end x.access x.source x.sectors first in
    let low : round_up unit 0 < 2 ^ 64 = omega (arith, round_up_whole unit 0 some (omega (arith, some))) in
    (subst (λ (n : ℕ). round_up unit n < 2 ^ 64) (sym end) low, none_beyond unit xs some rest)

-- An error of reading a descriptor is an error of opening it.
pub unread_unopened : {S : Type 0} (state : S → StorageState) (said : Result (List (Extent (List ℕ))) Fault) (old new : S) (fault : Fault) →
    NotRead said (state old) (state new) fault → RefusesOpening state said fault
unread_unopened state said old new fault (inr told) = inr (inr told.0)
unread_unopened state said old new Memory (inl cause) = inl refl
unread_unopened state said old new Storage (inl cause) = inr (inl (refl, may-fail state old new cause))
unread_unopened state said old new fault (inl cause) = absurd cause

-- Replaces the condition on reads by a stronger one.
pub not_all_weaker : {G S : Type 0} (answers : G → List ℕ → Result S Fault → G → Type 0) (names : List (List ℕ)) (Reach Reach' : Type 0)
    (old new : List S × G) (fault : Fault) → (Reach' → Reach) → NotAllOpened answers names Reach old new fault → NotAllOpened answers names Reach' old new fault
not_all_weaker answers names Reach Reach' old new fault less (inl stops) = inl stops
not_all_weaker answers names Reach Reach' old new fault less (inr over) =
    inr (record { fault_is = over.fault_is; opens = over.opens; all = over.all; beyond = λ reach. over.beyond (less reach) })

-- A valid image only fails because of its files if it needs one.
pub refused_files : {G S : Type 0} (state : S → StorageState) (answers : G → List ℕ → Result S Fault → G → Type 0) (image : StorageState) (gate now : G)
    (fault : Fault) → ((files : List StorageState) → 0 < unit_of_all (image ∷ files)) → FilesRefused state answers image gate now fault →
    MayRefuse state false (descriptor_of image.bytes) fault
refused_files state answers image gate now fault some why =
    subst (λ (r : Result (List (Extent (List ℕ))) Fault). MayRefuse state false r fault) (sym why.said) (inl (subst (λ (n : ℕ). 0 < n) (sym (asked_kept why.extents)) asks))
  where
    asks : 0 < files_asked why.extents
    asks = elim why.cause [
      | inl stops ↦ omega (arith, stops.left, length-kept_names why.extents)
      | inr over ↦ elim (cases_lt 0 (files_asked why.extents)) [
        | inl some_file ↦ some_file
        | inr no_file ↦ absurd (over.beyond (none_beyond (unit_of_layer (vmdk_layer why.extents image (map state why.files))) why.extents
            (some (map state why.files)) (omega (arith, no_file))))
      ]
    ]

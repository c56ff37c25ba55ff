-- The files that a VMDK image's builder was given by name, and those that are missing.
use Rattle.std.proofs.Common.{◌≡◌, ◌≤◌, ◌<◌, ◌⊎◌, ◌∙◌, ◌∷◌, ◌++◌, [], ℕ, ◌+◌, ◌^◌, List, ap, arith, get_or, drop, inl, inr, length, refl, subst, sym}
use Rattle.std.specs.Prelude.{All, Bool, None, Ok, Option, Result, Some, false, true, if◌then◌else◌, ltb, map}
use Rattle.std.specs.String.{string_bytes}
use Rattle.std.specs.declared.string.String.{String}
use Rattle.std.specs.declared.alloc.Global.{Global}
use Rattle.std.proofs.lemmas.Bool.Decides.{nat_tests}
use Rattle.std.proofs.lemmas.List.{drop_all, drop_more, length-map}
use Rattle.imago_storage.specs.State.{StorageState}
use Rattle.imago_storage.specs.Through.{round_up}
use Rattle.imago_storage.specs.declared.fault.Fault.{Fault}
use Rattle.imago_storage.specs.declared.fault.Fault.TheVariants.{MissingData, Memory}
use Rattle.imago_access.specs.Refusals.{unusable_fault}
use Rattle.imago_access.specs.declared.format.Format.TheVariants.{Vmdk}
use Rattle.imago_formats.specs.Descriptor.{descriptor_of}
use Rattle.imago_formats.specs.DescriptorView.{kept_extents, kept_names, source_with}
use Rattle.imago_formats.specs.VmdkLayer.{AreInReach, ReadsReach, end_in_file, file_names, files_asked, name_in, vmdk_layer}
use Rattle.imago_formats.specs.VmdkOpening.{FilesRefused, Opens, OpensNext, StopsOpening}
use Rattle.imago_formats.specs.declared.vmdk.descriptor.Access.{Access}
use Rattle.imago_formats.specs.declared.vmdk.descriptor.Access.TheVariants.{ReadWrite, ReadOnly, NoAccess}
use Rattle.imago_formats.specs.declared.vmdk.descriptor.Source.{Source}
use Rattle.imago_formats.specs.declared.vmdk.descriptor.Source.TheVariants.{Flat, Zero}
use Rattle.imago_formats.specs.declared.vmdk.descriptor.Extent.{Extent}
use Rattle.imago_formats.proofs.OpeningLemmas.{length-kept_names}
use Rattle.qimg_chain.specs.Extras.{IsOther, IsTaken, LacksOne, TakesEach}
use Rattle.qimg_chain.specs.FurtherFiles.{HasFiles, HasFurther, WhyNotFurther}
use Rattle.qimg_chain.specs.declared.chain.extras.Extras.{Extras}

-- The result for a name, from the supplied files.
abbrev pub Answers : {S : Type 0} → Extras S → List ℕ → Result S Fault → Extras S → Type 0
Answers handed name answer left = IsTaken handed.files.items name answer left.files.items

-- ---- One file for each name.

module _ {S : Type 0} (names : List (List ℕ)) where
  -- If each name was answered with a file, each file was taken for its name.
  opened_taken : (k : ℕ) (handed left : Extras S) (files : List S) → Opens Answers names k handed files left → length names ≤ k + length files
      → TakesEach handed.files.items (drop k names) files
  opened_taken k handed left [] opens all =
      subst (λ (ns : List (List ℕ)). TakesEach {S = S} handed.files.items ns []) (sym (drop_all k names (omega (arith, all)))) tt
  opened_taken k handed left (file ∷ files) opens all =
      let there : k + length (file ∷ files) ≡ k + 1 + length files = omega arith in
      subst (λ (ns : List (List ℕ)). TakesEach {S = S} handed.files.items ns (file ∷ files)) (sym (drop_more names k [] opens.1))
      (opens.0.files.items, opens.2, opened_taken (k + 1) opens.0 left files opens.3 (omega (arith, all, there)))

  -- If the next name has no file, that file is missing from the supplied ones.
  opened_lacks : (k : ℕ) (handed before : Extras S) (files : List S) → Opens Answers names k handed files before → k + length files < length names
      → All (IsOther (get_or names (k + length files) [])) before.files.items → LacksOne handed.files.items (drop k names)
  opened_lacks k handed before [] opens more others =
      let here : k + 0 ≡ k = omega arith in
      let others_here = subst (λ (n : ℕ). All (IsOther (get_or names n [])) before.files.items) here others in
      subst (λ (ns : List (List ℕ)). LacksOne {S = S} handed.files.items ns) (sym (drop_more names k [] (omega (arith, more))))
      (inl (subst (λ (g : Extras S). All (IsOther (get_or names k [])) g.files.items) opens others_here))
  opened_lacks k handed before (file ∷ files) opens more others =
      let there : k + length (file ∷ files) ≡ k + 1 + length files = omega arith in
      subst (λ (ns : List (List ℕ)). LacksOne {S = S} handed.files.items ns) (sym (drop_more names k [] opens.1))
      (inr (
        file,
        opens.0.files.items,
        opens.2,
        opened_lacks (k + 1) opens.0 before files opens.3 (omega (arith, more, there))
            (subst (λ (n : ℕ). All (IsOther (get_or names n [])) before.files.items) there others),
      ))

  taken : (handed left : Extras S) (files : List S) → OpensNext Answers names ([], handed) (files, left) → length names ≤ length files
      → TakesEach handed.files.items names files
  taken handed left files opens all =
      let same : files ≡ opens.opened = opens.appended in
      subst (λ (fs : List S). TakesEach handed.files.items names fs) (sym same)
      (opened_taken 0 handed left opens.opened opens.given (omega (arith, all, ap length same)))

  lacks : (handed left : Extras S) (files : List S) (fault : Fault) → StopsOpening Answers names ([], handed) (files, left) fault
      → (fault ≡ Memory) ⊎ ((fault ≡ MissingData) × LacksOne handed.files.items names)
  lacks handed left files fault stops = elim stops.cause [
    | inl memory ↦ inl memory.0
    | inr told ↦ inr (told.0, missing told.1)
  ]
    where
      missing : All (IsOther (get_or names (length files) [])) stops.before.files.items → LacksOne handed.files.items names
      missing others =
          let same : files ≡ stops.opens.opened = stops.opens.appended in
          opened_lacks 0 handed stops.before stops.opens.opened stops.opens.given (omega (arith, stops.left, ap length same))
          (subst (λ (n : ℕ). All (IsOther (get_or names n [])) stops.before.files.items) (omega (arith, ap length same)) others)

-- ---- Extents whose names are kept as texts.

one_name : (a : Access) (s : Source (String Global)) (names : List (String Global))
    → name_in a (source_with (λ name. string_bytes name) s) ++ map (λ name. string_bytes name) names ≡ map (λ name. string_bytes name) (name_in a s ++ names)
one_name NoAccess s names = refl
one_name ReadWrite (Flat name sector) names = refl
one_name ReadWrite Zero names = refl
one_name ReadOnly (Flat name sector) names = refl
one_name ReadOnly Zero names = refl

names_kept : (xs : List (Extent (String Global))) → file_names (kept_extents xs) ≡ kept_names xs
names_kept [] = refl
names_kept (x ∷ xs) =
    ap (λ (ns : List (List ℕ)). name_in x.access (source_with (λ name. string_bytes name) x.source) ++ ns) (names_kept xs)
    ∙ one_name x.access x.source (file_names xs)

end_kept : (a : Access) (s : Source (String Global)) (sectors : ℕ) → end_in_file a (source_with (λ name. string_bytes name) s) sectors ≡ end_in_file a s sectors
end_kept NoAccess s sectors = refl
end_kept ReadWrite (Flat name sector) sectors = refl
end_kept ReadWrite Zero sectors = refl
end_kept ReadOnly (Flat name sector) sectors = refl
end_kept ReadOnly Zero sectors = refl

reach_kept : (unit : ℕ) (xs : List (Extent (String Global))) → AreInReach unit xs → AreInReach unit (kept_extents xs)
reach_kept unit [] reach = tt
reach_kept unit (x ∷ xs) reach =
    (subst (λ (n : ℕ). round_up unit n < 2 ^ 64) (sym (end_kept x.access x.source x.sectors)) reach.0, reach_kept unit xs reach.1)

reach_given : (unit : ℕ) (xs : List (Extent (String Global))) → AreInReach unit (kept_extents xs) → AreInReach unit xs
reach_given unit [] reach = tt
reach_given unit (x ∷ xs) reach =
    (subst (λ (n : ℕ). round_up unit n < 2 ^ 64) (end_kept x.access x.source x.sectors) reach.0, reach_given unit xs reach.1)

-- An image that can be used has as many files as it refers to.
not_missing : (m : Bool) → ◌≡◌ {A = Option Fault} (if m then Some MissingData else None) None → m ≡ false
not_missing true none = absurd (cc none)
not_missing false none = refl

enough : (extents : List (Extent (String Global))) (image : StorageState) (files : List StorageState)
    → unusable_fault (vmdk_layer extents image files) ≡ None → files_asked extents ≤ length files
enough extents image files usable = grind (arith, nat_tests, not_missing (ltb (length files) (files_asked extents)) usable)

-- ---- An image's files.

module _ {S : Type 0} (state : S → StorageState) (image : StorageState) (handed left : Extras S) where
  pub has_files : (extents : List (Extent (String Global))) (files : List S) → descriptor_of image.bytes ≡ Ok (kept_extents extents)
      → OpensNext Answers (kept_names extents) ([], handed) (files, left) → unusable_fault (vmdk_layer extents image (map state files)) ≡ None
      → ReadsReach extents image (map state files) → HasFurther state Vmdk image handed.files.items (map state files)
  has_files extents files means opens usable reach =
      let there : length (kept_names extents) ≤ length files =
      omega (arith, length-kept_names extents, length-map files state, enough extents image (map state files) usable) in
      let has : HasFiles state image handed.files.items (kept_extents extents) files = record {
        taken = subst (λ (ns : List (List ℕ)). TakesEach handed.files.items ns files) (sym (names_kept extents))
            (taken (kept_names extents) handed left files opens there);
        reach = reach_kept _ extents reach;
      } in
      (kept_extents extents, means, (files, has, refl))

  pub lacks_files : (fault : Fault) → FilesRefused state Answers image handed left fault
      → (fault ≡ Memory) ⊎ WhyNotFurther state Vmdk image handed.files.items fault
  lacks_files fault why = elim why.cause [
    | inl stops ↦ elim (lacks (kept_names why.extents) handed left why.files fault stops) [
      | inl memory ↦ inl memory
      | inr missing ↦ inr (
        kept_extents why.extents,
        why.said,
        inl (
          missing.0,
          subst (λ (ns : List (List ℕ)). LacksOne handed.files.items ns) (sym (names_kept why.extents)) missing.1,
        ),
      )
    ]
    | inr over ↦ inr (
      kept_extents why.extents,
      why.said,
      inr (
        over.fault_is,
        (
          why.files,
          subst (λ (ns : List (List ℕ)). TakesEach handed.files.items ns why.files) (sym (names_kept why.extents))
              (taken (kept_names why.extents) handed left why.files over.opens over.all),
          λ reach. over.beyond (reach_given _ why.extents reach),
        ),
      ),
    )
  ]

-- The files that are taken for the names in a descriptor.
use Rattle.std.proofs.Common.{◌≡◌, ◌∙◌, ◌∷◌, ◌++◌, ◌<◌, ◌+◌, [], ℕ, zero, suc, List, ap, arith, cond, drop, length, refl, subst, sym}
use Rattle.std.specs.Prelude.{All, Bool, Ok, false, map, slice_index, slice_index_or, true}
use Rattle.std.specs.Str.{bytes_eq}
use Rattle.std.specs.String.{string_bytes}
use Rattle.std.specs.declared.string.String.{String}
use Rattle.std.specs.declared.alloc.Global.{Global}
use Rattle.std.proofs.lemmas.List.{drop_more, get_or-drop}
use Rattle.std.proofs.lemmas.List.Elements.{All-head, All-tail}
use Rattle.std.proofs.lemmas.List.Sums.{sum_by-cons}
use Rattle.std.proofs.lemmas.Slice.Eq.{bytes_eq-Decides}
use Rattle.imago_storage.specs.State.{StorageState}
use Rattle.imago_access.specs.Files.{byte_in}
use Rattle.imago_formats.specs.DescriptorView.{kept_names}
use Rattle.imago_formats.specs.VmdkLayer.{asks_file, file_names, files_asked, has_file, name_in}
use Rattle.imago_formats.specs.VmdkOpening.{Opens}
use Rattle.imago_formats.specs.declared.vmdk.descriptor.Access.{Access}
use Rattle.imago_formats.specs.declared.vmdk.descriptor.Access.TheVariants.{NoAccess, ReadOnly, ReadWrite}
use Rattle.imago_formats.specs.declared.vmdk.descriptor.Extent.{Extent}
use Rattle.imago_formats.specs.declared.vmdk.descriptor.Source.{Source}
use Rattle.imago_formats.specs.declared.vmdk.descriptor.Source.TheVariants.{Flat, Zero}
use Rattle.qimg_chain.specs.Extras.{IsOther, TakesFirst}
use Rattle.qimg_chain.specs.FileMeanings.{byte_at, extra_bytes, first_named, taken_for, without_first}
use Rattle.qimg_chain.specs.declared.chain.extras.Extras.{Extras}
use Rattle.qimg_chain.proofs.FurtherTaken.{Answers}

-- ---- Names, as they are kept.

pub as_many : (xs : List (Extent (String Global))) → length (kept_names xs) ≡ files_asked xs
as_many [] = refl
as_many (x ∷ xs) = by_access x.access x.source (as_many xs) ∙ sym (sum_by-cons (λ (y : Extent (String Global)). cond (has_file y) 1 0) x xs) where
  by_access : (a : Access) (s : Source (String Global)) → length (kept_names xs) ≡ files_asked xs
      → length (map (λ name. string_bytes name) (name_in a s ++ file_names xs)) ≡ cond (asks_file a s) 1 0 + files_asked xs
  by_access NoAccess s rest = omega (arith, rest)
  by_access ReadWrite (Flat name sector) rest = omega (arith, rest)
  by_access ReadWrite Zero rest = omega (arith, rest)
  by_access ReadOnly (Flat name sector) rest = omega (arith, rest)
  by_access ReadOnly Zero rest = omega (arith, rest)

-- ---- Files that are taken out of the supplied ones.

none : (t : Bool) → (t ≡ true → ⊥) → t ≡ false
none true differs = absurd (differs refl)
none false differs = refl

module _ {S : Type 0} (state : S → StorageState) where
  other : (name : List ℕ) (x : String Global × S) → IsOther name x → bytes_eq (string_bytes x.0) name ≡ false
  other name x differs = none (bytes_eq (string_bytes x.0) name) (λ is. differs ((bytes_eq-Decides (string_bytes x.0) name).0 is))

  it_is : (name : List ℕ) (given : String Global) → string_bytes given ≡ name → bytes_eq (string_bytes given) name ≡ true
  it_is name given is = (bytes_eq-Decides (string_bytes given) name).1 is

  first_is : (name : List ℕ) (given : String Global) (taken : S) (behind before : List (String Global × S)) → string_bytes given ≡ name → All (IsOther name) before
      → first_named name (map (extra_bytes state) (before ++ (given, taken) ∷ behind)) ≡ (state taken).bytes
  first_is name given taken behind [] named others = rw (it_is name given named) refl
  first_is name given taken behind (x ∷ before) named others =
      rw (other name x (All-head (IsOther name) x before others)) (first_is name given taken behind before named (All-tail (IsOther name) x before others))

  rest_is : (name : List ℕ) (given : String Global) (taken : S) (behind before : List (String Global × S)) → string_bytes given ≡ name → All (IsOther name) before
      → without_first name (map (extra_bytes state) (before ++ (given, taken) ∷ behind)) ≡ map (extra_bytes state) (before ++ behind)
  rest_is name given taken behind [] named others = rw (it_is name given named) refl
  rest_is name given taken behind (x ∷ before) named others =
      rw (other name x (All-head (IsOther name) x before others))
      (ap (λ files. extra_bytes state x ∷ files) (rest_is name given taken behind before named (All-tail (IsOther name) x before others)))

  pub taken_first : (files left : List (String Global × S)) (name : List ℕ) (taken : S) → TakesFirst files name taken left
      → first_named name (map (extra_bytes state) files) ≡ (state taken).bytes
  taken_first files left name taken t =
      ap (λ xs. first_named name (map (extra_bytes state) xs)) t.where_is ∙ first_is name t.given taken t.files_after t.before t.named t.first

  pub left_is : (files left : List (String Global × S)) (name : List ℕ) (taken : S) → TakesFirst files name taken left
      → without_first name (map (extra_bytes state) files) ≡ map (extra_bytes state) left
  left_is files left name taken t =
      ap (λ xs. without_first name (map (extra_bytes state) xs)) t.where_is ∙ rest_is name t.given taken t.files_after t.before t.named t.first
      ∙ ap (λ xs. map (extra_bytes state) xs) (sym t.others_left)

  named_at : (names rest : List (List ℕ)) (name : List ℕ) (k : ℕ) → drop k names ≡ name ∷ rest → slice_index_or names k [] ≡ name
  named_at names rest name k at =
      let same : k ≡ k + 0 = omega arith in
      ap (λ i. slice_index_or names i []) same ∙ sym (get_or-drop k names 0 []) ∙ ap (λ xs. slice_index_or xs 0 []) at

  next : (names rest : List (List ℕ)) (name : List ℕ) (k : ℕ) → drop k names ≡ name ∷ rest → k < length names → drop (k + 1) names ≡ rest
  next names rest name k at inside =
      let parts : slice_index_or names k [] ∷ drop (k + 1) names ≡ name ∷ rest = sym (drop_more names k [] inside) ∙ at in cc parts

  takes : (names rest : List (List ℕ)) (name : List ℕ) (k : ℕ) (gate mid : Extras S) (file : S) → drop k names ≡ name ∷ rest
      → Answers gate (slice_index_or names k []) (Ok file) mid → TakesFirst gate.files.items name file mid.files.items
  takes names rest name k gate mid file at answered =
      subst (λ (n : List ℕ). TakesFirst gate.files.items n file mid.files.items) (named_at names rest name k at) answered

  -- The files that a gate opened for the names from `k` on have the bytes of those that are taken for them.
  pub opened_bytes : (names rest : List (List ℕ)) (k : ℕ) (gate now : Extras S) (files : List S) → drop k names ≡ rest → k + length rest ≡ length names
      → Opens Answers names k gate files now → (i q : ℕ) → i < length rest → i < length files
      → byte_in (map state files) i q ≡ byte_at (taken_for rest (map (extra_bytes state) gate.files.items)) i q
  opened_bytes names rest k gate now [] at long opens i q inside short = absurd (omega (arith, short))
  opened_bytes names [] k gate now (file ∷ files) at long opens i q inside short = absurd (omega (arith, inside))
  opened_bytes names (name ∷ rest) k gate now (file ∷ files) at long opens zero q inside short =
      ap (λ bytes. slice_index bytes q) (sym (taken_first gate.files.items opens.0.files.items name file (takes names rest name k gate opens.0 file at opens.2)))
  opened_bytes names (name ∷ rest) k gate now (file ∷ files) at long opens (suc i) q inside short =
      opened_bytes names rest (k + 1) opens.0 now files (next names rest name k at (omega (arith, long))) (omega (arith, long)) opens.3 i q (omega (arith, inside)) (omega (arith, short))
      ∙ ap (λ left. byte_at (taken_for rest left) i q)
      (sym (left_is gate.files.items opens.0.files.items name file (takes names rest name k gate opens.0 file at opens.2)))

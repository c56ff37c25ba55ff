-- Files have at most one first cause why they don't form a chain, and files that form a chain have none.
use Rattle.std.proofs.Common.{◌≡◌, ◌∙◌, ◌∷◌, ◌++◌, [], ℕ, List, ap, arith, drop, inl, inr, length, refl, subst, sym}
use Rattle.std.specs.Prelude.{All, Bool, Err, None, Ok, Option, Result, Some, false, map}
use Rattle.std.specs.String.{string_bytes}
use Rattle.std.specs.declared.string.String.{String}
use Rattle.std.specs.declared.alloc.Global.{Global}
use Rattle.std.proofs.lemmas.List.{drop_at}
use Rattle.std.proofs.lemmas.List.Elements.{All-drop, All-head, All-same, All-tail}
use Rattle.imago_storage.specs.State.{StorageState}
use Rattle.imago_storage.specs.declared.fault.Fault.{Fault}
use Rattle.imago_access.specs.declared.format.Format.{Format}
use Rattle.imago_access.specs.declared.format.Format.TheVariants.{Qcow2, Raw, Vmdk}
use Rattle.imago_formats.specs.VmdkLayer.{ReadsReach, file_names}
use Rattle.imago_formats.specs.declared.vmdk.descriptor.Extent.{Extent}
use Rattle.qimg_core.specs.declared.plain.ChainFile.{ChainFile}
use Rattle.qimg_chain.specs.Extras.{IsOther, LacksOne, TakesEach, TakesFirst}
use Rattle.qimg_chain.specs.FurtherFiles.{HasFiles, HasFurther, WhyNotFiles, WhyNotFurther}
use Rattle.qimg_chain.specs.FileLayers.{IsLayer, WhyNotLayer}
use Rattle.qimg_chain.specs.Refusals.{ArePlaced, FirstCause, FormChain, IsPlacedLayer, WhyNotLayers, misplaced}

-- ---- Lists.

first_of_list : {A : Type 0} (x y : A) (xs ys : List A) → x ∷ xs ≡ y ∷ ys → x ≡ y
first_of_list x y xs ys e = cc e

rest_of_list : {A : Type 0} (x y : A) (xs ys : List A) → x ∷ xs ≡ y ∷ ys → xs ≡ ys
rest_of_list x y xs ys e = cc e

-- ---- Files by name.

module _ {S : Type 0} where
  -- The first file of a name is unique, and so are the files around it.
  parts_once : (name : List ℕ) (before before' behind behind' : List (String Global × S)) (x y : String Global × S)
      → All (IsOther name) before → All (IsOther name) before' → string_bytes x.0 ≡ name → string_bytes y.0 ≡ name
      → before ++ (x ∷ behind) ≡ before' ++ (y ∷ behind') → (x ≡ y) × (before ++ behind ≡ before' ++ behind')
  parts_once name [] [] behind behind' x y others others' named named' e = (first_of_list x y behind behind' e, rest_of_list x y behind behind' e)
  parts_once name [] (z ∷ before') behind behind' x y others others' named named' e =
      let same : x ≡ z = first_of_list x z behind (before' ++ (y ∷ behind')) e in
      absurd (All-head (IsOther name) z before' others' (ap (λ (f : String Global × S). string_bytes f.0) (sym same) ∙ named))
  parts_once name (z ∷ before) [] behind behind' x y others others' named named' e =
      let same : z ≡ y = first_of_list z y (before ++ (x ∷ behind)) behind' e in
      absurd (All-head (IsOther name) z before others (ap (λ (f : String Global × S). string_bytes f.0) same ∙ named'))
  parts_once name (z ∷ before) (w ∷ before') behind behind' x y others others' named named' e =
      let same : z ≡ w = first_of_list z w (before ++ (x ∷ behind)) (before' ++ (y ∷ behind')) e in
      let rest = rest_of_list z w (before ++ (x ∷ behind)) (before' ++ (y ∷ behind')) e in
      let later = parts_once name before before' behind behind' x y (All-tail (IsOther name) z before others)
      (All-tail (IsOther name) w before' others') named named' rest in
      (later.0, λ i. same i ∷ later.1 i)

  taken_once : (files left left' : List (String Global × S)) (name : List ℕ) (one other : S) → TakesFirst files name one left
      → TakesFirst files name other left' → (one ≡ other) × (left ≡ left')
  taken_once files left left' name one other t u =
      let same = parts_once name t.before u.before t.files_after u.files_after (t.given, one) (u.given, other) t.first u.first t.named u.named
      (sym t.where_is ∙ u.where_is) in
      (ap (λ (f : String Global × S). f.1) same.0, t.others_left ∙ same.1 ∙ sym u.others_left)

  taken_there : (files left : List (String Global × S)) (name : List ℕ) (one : S) → TakesFirst files name one left → All (IsOther name) files → ⊥
  taken_there files left name one t others =
      let behind = (t.given, one) ∷ t.files_after in
      let parted : All (IsOther name) (t.before ++ behind) = All-same (IsOther name) (t.before ++ behind) files (sym t.where_is) others in
      let last : All (IsOther name) behind = All-same (IsOther name) behind (drop (length t.before) (t.before ++ behind))
      (sym (drop_at t.before behind (length t.before) refl)) (All-drop (IsOther name) (length t.before) (t.before ++ behind) parted) in
      All-head (IsOther name) (t.given, one) t.files_after last t.named

  each_once : (names : List (List ℕ)) (files : List (String Global × S)) (ones others : List S) → TakesEach files names ones → TakesEach files names others
      → ones ≡ others
  each_once [] files [] [] t u = refl
  each_once [] files [] (y ∷ ys) t u = absurd u
  each_once [] files (x ∷ xs) ys t u = absurd t
  each_once (name ∷ names) files [] ys t u = absurd t
  each_once (name ∷ names) files (x ∷ xs) [] t u = absurd u
  each_once (name ∷ names) files (x ∷ xs) (y ∷ ys) t u =
      let same = taken_once files t.0 u.0 name x y t.1 u.1 in
      let later : xs ≡ ys = each_once names u.0 xs ys (subst (λ (l : List (String Global × S)). TakesEach l names xs) same.1 t.2) u.2 in
      λ i. same.0 i ∷ later i

  each_there : (names : List (List ℕ)) (files : List (String Global × S)) (ones : List S) → TakesEach files names ones → LacksOne files names → ⊥
  each_there [] files ones t none = absurd none
  each_there (name ∷ names) files [] t none = absurd t
  each_there (name ∷ names) files (x ∷ xs) t (inl others) = taken_there files t.0 name x t.1 others
  each_there (name ∷ names) files (x ∷ xs) t (inr later) =
      let same = taken_once files t.0 later.1 name x later.0 t.1 later.2 in
      each_there names later.1 xs (subst (λ (l : List (String Global × S)). TakesEach l names xs) same.1 t.2) later.3

-- ---- Results.

same_ok : {A : Type 0} (r : Result A Fault) (x y : A) → r ≡ Ok x → r ≡ Ok y → x ≡ y
same_ok r x y e f = cc (sym e ∙ f)

same_err : {A : Type 0} (r : Result A Fault) (x y : Fault) → r ≡ Err x → r ≡ Err y → x ≡ y
same_err r x y e f = cc (sym e ∙ f)

not_both : {A : Type 0} (r : Result A Fault) (x : A) (y : Fault) → r ≡ Ok x → r ≡ Err y → ⊥
not_both r x y e f = absurd (cc (sym e ∙ f))

some_once : (x y : Fault) → Some x ≡ Some y → x ≡ y
some_once x y e = cc e

none_or_some : (x : Fault) → ◌≡◌ {A = Option Fault} None (Some x) → ⊥
none_or_some x e = absurd (cc e)

-- ---- A file.

module _ {S : Type 0} (state : S → StorageState) where
  files_once : (image : StorageState) (handed : List (String Global × S)) (extents : List (Extent (List ℕ))) (one other : Fault)
      → WhyNotFiles state image handed extents one → WhyNotFiles state image handed extents other → one ≡ other
  files_once image handed extents one other (inl a) (inl b) = a.0 ∙ sym b.0
  files_once image handed extents one other (inl a) (inr b) = absurd (each_there (file_names extents) handed b.1.0 b.1.1 a.1)
  files_once image handed extents one other (inr a) (inl b) = absurd (each_there (file_names extents) handed a.1.0 a.1.1 b.1)
  files_once image handed extents one other (inr a) (inr b) = a.0 ∙ sym b.0

  files_there : (image : StorageState) (handed : List (String Global × S)) (extents : List (Extent (List ℕ))) (files : List S) (fault : Fault)
      → HasFiles state image handed extents files → WhyNotFiles state image handed extents fault → ⊥
  files_there image handed extents files fault has (inl a) = each_there (file_names extents) handed files has.taken a.1
  files_there image handed extents files fault has (inr a) =
      let same : files ≡ a.1.0 = each_once (file_names extents) handed files a.1.0 has.taken a.1.1 in
      a.1.2 (subst (λ (fs : List S). ReadsReach extents image (map state fs)) same has.reach)

  further_once : (format : Format) (image : StorageState) (handed : List (String Global × S)) (one other : Fault)
      → WhyNotFurther state format image handed one → WhyNotFurther state format image handed other → one ≡ other
  further_once Raw image handed one other a b = absurd a
  further_once Qcow2 image handed one other a b = absurd a
  further_once Vmdk image handed one other a b =
      let same : a.0 ≡ b.0 = same_ok _ a.0 b.0 a.1 b.1 in
      files_once image handed b.0 one other (subst (λ (xs : List (Extent (List ℕ))). WhyNotFiles state image handed xs one) same a.2) b.2

  further_there : (format : Format) (image : StorageState) (handed : List (String Global × S)) (further : List StorageState) (fault : Fault)
      → HasFurther state format image handed further → WhyNotFurther state format image handed fault → ⊥
  further_there Raw image handed further fault has a = absurd a
  further_there Qcow2 image handed further fault has a = absurd a
  further_there Vmdk image handed further fault has a =
      let same : a.0 ≡ has.0 = same_ok _ a.0 has.0 a.1 has.1 in
      files_there image handed has.0 has.2.0 fault has.2.1 (subst (λ (xs : List (Extent (List ℕ))). WhyNotFiles state image handed xs fault) same a.2)

  layer_once : (writable : Bool) (file : ChainFile S) (one other : Fault) → WhyNotLayer state writable file one → WhyNotLayer state writable file other
      → one ≡ other
  layer_once writable file one other (inl a) (inl b) = same_err _ one other a b
  layer_once writable file one other (inl a) (inr b) = absurd (not_both _ b.0.0 one b.0.1 a)
  layer_once writable file one other (inr a) (inl b) = absurd (not_both _ a.0.0 other a.0.1 b)
  layer_once writable file one other (inr a) (inr b) = further_once file.format (state file.image) file.extras.items one other a.1 b.1

  layer_there : (writable : Bool) (file : ChainFile S) (named : Bool) (further : List StorageState) (fault : Fault)
      → IsLayer state writable file named further → WhyNotLayer state writable file fault → ⊥
  layer_there writable file named further fault is (inl a) = not_both _ named fault is.says a
  layer_there writable file named further fault is (inr a) =
      further_there file.format (state file.image) file.extras.items further fault is.has a.1

  placed_once : (writable : Bool) (file : ChainFile S) (below : List (ChainFile S)) (one other : Option Fault) → IsPlacedLayer state writable file below one
      → IsPlacedLayer state writable file below other → one ≡ other
  placed_once writable file below one other a b =
      let same : a.0 ≡ b.0 = same_ok _ a.0 b.0 a.2.says b.2.says in
      sym a.3 ∙ ap (λ (named : Bool). misplaced named below) same ∙ b.3

  -- ---- The files of a chain.

  layers_once : (writable : Bool) (files : List (ChainFile S)) (one other : Fault) → WhyNotLayers state writable files one
      → WhyNotLayers state writable files other → one ≡ other
  layers_once writable [] one other a b = absurd a
  layers_once writable (file ∷ below) one other (inl a) (inl b) = layer_once writable file one other a b
  layers_once writable (file ∷ below) one other (inl a) (inr (inl b)) = absurd (layer_there writable file b.0 b.1 one b.2 a)
  layers_once writable (file ∷ below) one other (inl a) (inr (inr b)) = absurd (layer_there writable file b.0.0 b.0.1 one b.0.2 a)
  layers_once writable (file ∷ below) one other (inr (inl a)) (inl b) = absurd (layer_there writable file a.0 a.1 other a.2 b)
  layers_once writable (file ∷ below) one other (inr (inl a)) (inr (inl b)) =
      some_once one other (placed_once writable file below (Some one) (Some other) a b)
  layers_once writable (file ∷ below) one other (inr (inl a)) (inr (inr b)) =
      absurd (none_or_some one (placed_once writable file below None (Some one) b.0 a))
  layers_once writable (file ∷ below) one other (inr (inr a)) (inl b) = absurd (layer_there writable file a.0.0 a.0.1 other a.0.2 b)
  layers_once writable (file ∷ below) one other (inr (inr a)) (inr (inl b)) =
      absurd (none_or_some other (placed_once writable file below None (Some other) a.0 b))
  layers_once writable (file ∷ below) one other (inr (inr a)) (inr (inr b)) = layers_once false below one other a.1 b.1

  layers_there : (writable : Bool) (files : List (ChainFile S)) (fault : Fault) → ArePlaced state writable files → WhyNotLayers state writable files fault → ⊥
  layers_there writable [] fault are a = absurd a
  layers_there writable (file ∷ below) fault are (inl a) = layer_there writable file are.0.0 are.0.1 fault are.0.2 a
  layers_there writable (file ∷ below) fault are (inr (inl a)) = none_or_some fault (placed_once writable file below None (Some fault) are.0 a)
  layers_there writable (file ∷ below) fault are (inr (inr a)) = layers_there false below fault are.1 a.1

  pub first_once : (writable : Bool) (files : List (ChainFile S)) (one other : Fault) → FirstCause state writable files one
      → FirstCause state writable files other → one ≡ other
  first_once writable [] one other a b = a ∙ sym b
  first_once writable (file ∷ below) one other (inl a) (inl b) = a.1 ∙ sym b.1
  first_once writable (file ∷ below) one other (inl a) (inr b) = absurd (omega (arith, a.0, b.0))
  first_once writable (file ∷ below) one other (inr a) (inl b) = absurd (omega (arith, a.0, b.0))
  first_once writable (file ∷ below) one other (inr a) (inr b) = layers_once writable (file ∷ below) one other a.1 b.1

  pub none_of_chain : (writable : Bool) (files : List (ChainFile S)) (fault : Fault) → FormChain state writable files → FirstCause state writable files fault → ⊥
  none_of_chain writable [] fault form a = absurd (omega (arith, form.0))
  none_of_chain writable (file ∷ below) fault form (inl a) = absurd (omega (arith, a.0, form.1))
  none_of_chain writable (file ∷ below) fault form (inr a) = layers_there writable (file ∷ below) fault form.2 a.1

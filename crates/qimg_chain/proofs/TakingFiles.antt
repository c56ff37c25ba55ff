-- A file taken out of the supplied ones.
use Rattle.std.proofs.Common.{◌≡◌, ◌∷◌, ◌++◌, ◌∙◌, ℕ, ◌+◌, ◌<◌, List, ap, sym, length}
use Rattle.std.specs.Prelude.{All, take, drop, slice_index_or}
use Rattle.std.specs.String.{string_bytes}
use Rattle.std.specs.declared.alloc.Global.{Global}
use Rattle.std.specs.declared.string.String.{String}
use Rattle.std.proofs.lemmas.List.{drop_more, take-append-drop}
use Rattle.qimg_chain.specs.Extras.{IsOther, TakesFirst}

parts : {A : Type 0} (xs : List A) (i : ℕ) (x : A) → i < length xs → x ≡ slice_index_or xs i x → xs ≡ take i xs ++ (x ∷ drop (i + 1) xs)
parts xs i x inside at = sym (take-append-drop i xs) ∙ ap (λ ys. take i xs ++ ys) (drop_more xs i x inside ∙ ap (λ y. y ∷ drop (i + 1) xs) (sym at))

-- The file at an index is the first of its name, if all before it have other names.
pub takes : {S : Type 0} (files left : List (String Global × S)) (name : List ℕ) (i : ℕ) (found : String Global × S) → i < length files
    → found ≡ slice_index_or files i found → string_bytes found.0 ≡ name → All (IsOther name) (take i files)
    → left ≡ take i files ++ drop (i + 1) files → TakesFirst files name found.1 left
takes files left name i found inside at named others rest = record {
  before = take i files;
  files_after = drop (i + 1) files;
  given = found.0;
  where_is = parts files i found inside at;
  named = named;
  first = others;
  others_left = rest;
}

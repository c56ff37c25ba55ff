-- The order of a descriptor's lines.
use Rattle.std.proofs.Common.{◌≡◌, ℕ, List, [], ◌∷◌, ◌++◌, Option, Some, None, Ok, Err, refl, ap, ◌∙◌}
use Rattle.std.specs.Prelude.{map}
use Rattle.std.specs.List.{filter_map}
use Rattle.std.specs.Option.{option_to_list}
use Rattle.imago_storage.specs.declared.fault.Fault.{Fault}
use Rattle.imago_formats.specs.DescriptorWords.{◌>>=◌}
use Rattle.imago_formats.specs.Descriptor.{extents_of, said_by}
use Rattle.imago_formats.specs.declared.vmdk.descriptor.Extent.{Extent}

abbrev Found : Type 0
Found = List (Option (Extent (List ℕ)))

head_same : {A : Type 0} (x y : A) (xs ys : List A) → x ∷ xs ≡ y ∷ ys → (x ≡ y) × (xs ≡ ys)
head_same x y xs ys e = (cc e, cc e)

one_found : (found : Option (Extent (List ℕ))) (rest : Found) →
    option_to_list found ++ filter_map (λ o. o) rest ≡ filter_map (λ o. o) (found ∷ rest)
one_found None rest = refl
one_found (Some x) rest = refl

pub all : (found : Found) (lines : List (List ℕ)) → map said_by lines ≡ map (λ o. Ok o) found → extents_of lines ≡ Ok (filter_map (λ o. o) found)
all [] [] e = refl
all (x ∷ xs) [] e = absurd (cc e)
all [] (line ∷ lines) e = absurd (cc e)
all (x ∷ xs) (line ∷ lines) e =
    let parts = head_same (said_by line) (Ok x) (map said_by lines) (map (λ o. Ok o) xs) e in
    ap (λ r. r >>= λ found. extents_of lines >>= λ ys. Ok (option_to_list found ++ ys)) parts.0
    ∙ ap (λ r. r >>= λ ys. Ok (option_to_list x ++ ys)) (all xs lines parts.1)
    ∙ ap (λ ys. Ok ys) (one_found x xs)

pub first : (found : Found) (before rest : List (List ℕ)) (line : List ℕ) (fault : Fault) → map said_by before ≡ map (λ o. Ok o) found →
    said_by line ≡ Err fault → extents_of (before ++ line ∷ rest) ≡ Err fault
first [] [] rest line fault e refused = ap (λ r. r >>= λ found. extents_of rest >>= λ ys. Ok (option_to_list found ++ ys)) refused
first (x ∷ xs) [] rest line fault e refused = absurd (cc e)
first [] (l ∷ ls) rest line fault e refused = absurd (cc e)
first (x ∷ xs) (l ∷ ls) rest line fault e refused =
    let parts = head_same (said_by l) (Ok x) (map said_by ls) (map (λ o. Ok o) xs) e in
    ap (λ r. r >>= λ found. extents_of (ls ++ line ∷ rest) >>= λ ys. Ok (option_to_list found ++ ys)) parts.0
    ∙ ap (λ r. r >>= λ ys. Ok (option_to_list x ++ ys)) (first xs ls rest line fault parts.1 refused)

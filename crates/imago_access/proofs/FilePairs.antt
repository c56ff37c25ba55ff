-- Pairs of storages before and after calls.
use Rattle.std.proofs.Common.{refl, inl, inr, List, [], ◌∷◌, ◌++◌, arith, ◌∙◌}
use Rattle.imago_storage.specs.Calls.{IsFaultless}
use Rattle.imago_storage.specs.State.{StorageState}
use Rattle.imago_storage.proofs.Composing.{rose_behind, later_both}
use Rattle.imago_access.specs.Files.{Pairs, UnchangedButMoreFaults, IsLater, SomeRose}

pub pairs_same : (R : StorageState → StorageState → Type 0) → ((s : StorageState) → R s s) → (xs : List StorageState) → Pairs R xs xs
pairs_same R same [] = tt
pairs_same R same (x ∷ xs) = (same x, pairs_same R same xs)

pub pairs_both : (R : StorageState → StorageState → Type 0) → ((a b c : StorageState) → R a b → R b c → R a c) → (xs ys zs : List StorageState) → Pairs R xs ys → Pairs R ys zs → Pairs R xs zs
pairs_both R both [] [] [] first second = tt
pairs_both R both (x ∷ xs) (y ∷ ys) (z ∷ zs) first second = (both x y z first.0 second.0, pairs_both R both xs ys zs first.1 second.1)
pairs_both R both [] (y ∷ ys) zs first second = absurd first
pairs_both R both [] [] (z ∷ zs) first second = absurd second
pairs_both R both (x ∷ xs) [] zs first second = absurd first
pairs_both R both (x ∷ xs) (y ∷ ys) [] first second = absurd second

pub pairs_append : (R : StorageState → StorageState → Type 0) → (xs ys us vs : List StorageState) → Pairs R xs ys → Pairs R us vs → Pairs R (xs ++ us) (ys ++ vs)
pairs_append R [] [] us vs first second = second
pairs_append R (x ∷ xs) (y ∷ ys) us vs first second = (first.0, pairs_append R xs ys us vs first.1 second)
pairs_append R [] (y ∷ ys) us vs first second = absurd first
pairs_append R (x ∷ xs) [] us vs first second = absurd first

pub is_kept_same : (s : StorageState) → UnchangedButMoreFaults s s
is_kept_same s = (record { shape = refl; bytes = refl; refusals = refl; crash_image = refl; past_crash_images = refl }, omega arith)

pub is_kept_both : (a b c : StorageState) → UnchangedButMoreFaults a b → UnchangedButMoreFaults b c → UnchangedButMoreFaults a c
is_kept_both a b c first second = (
  record {
    shape = second.0.shape ∙ first.0.shape;
    bytes = second.0.bytes ∙ first.0.bytes;
    refusals = second.0.refusals ∙ first.0.refusals;
    crash_image = second.0.crash_image ∙ first.0.crash_image;
    past_crash_images = second.0.past_crash_images ∙ first.0.past_crash_images;
  },
  omega (arith, first.1, second.1),
)

pub is_later_same : (s : StorageState) → IsLater s s
is_later_same s = (refl, record { faults = omega arith; refusals = omega arith })

pub is_later_both : (a b c : StorageState) → IsLater a b → IsLater b c → IsLater a c
is_later_both a b c first second = (second.0 ∙ first.0, later_both a b c first.1 second.1)

pub kept_all_same : (xs : List StorageState) → Pairs UnchangedButMoreFaults xs xs
kept_all_same = pairs_same UnchangedButMoreFaults is_kept_same

pub kept_all_both : (xs ys zs : List StorageState) → Pairs UnchangedButMoreFaults xs ys → Pairs UnchangedButMoreFaults ys zs → Pairs UnchangedButMoreFaults xs zs
kept_all_both = pairs_both UnchangedButMoreFaults is_kept_both

pub later_all_same : (xs : List StorageState) → Pairs IsLater xs xs
later_all_same = pairs_same IsLater is_later_same

pub later_all_both : (xs ys zs : List StorageState) → Pairs IsLater xs ys → Pairs IsLater ys zs → Pairs IsLater xs zs
later_all_both = pairs_both IsLater is_later_both

pub faultless_all_same : (xs : List StorageState) → Pairs IsFaultless xs xs
faultless_all_same = pairs_same IsFaultless (λ s. (refl, refl))

pub faultless_all_both : (xs ys zs : List StorageState) → Pairs IsFaultless xs ys → Pairs IsFaultless ys zs → Pairs IsFaultless xs zs
faultless_all_both = pairs_both IsFaultless (λ a b c first second. (second.0 ∙ first.0, second.1 ∙ first.1))

pub some_rose_behind : (xs ys zs : List StorageState) → Pairs IsLater xs ys → SomeRose ys zs → SomeRose xs zs
some_rose_behind (x ∷ xs) (y ∷ ys) (z ∷ zs) later rose = elim rose [
  | inl one ↦ inl (rose_behind x.faults y.faults z.faults later.0.1.faults one)
  | inr rest ↦ inr (some_rose_behind xs ys zs later.1 rest)
]
some_rose_behind [] [] zs later rose = absurd rose
some_rose_behind [] (y ∷ ys) zs later rose = absurd later
some_rose_behind (x ∷ xs) [] zs later rose = absurd later
some_rose_behind (x ∷ xs) (y ∷ ys) [] later rose = absurd rose

pub some_rose_left : (xs ys us vs : List StorageState) → SomeRose xs ys → SomeRose (xs ++ us) (ys ++ vs)
some_rose_left (x ∷ xs) (y ∷ ys) us vs rose = elim rose [ inl one ↦ inl one | inr rest ↦ inr (some_rose_left xs ys us vs rest) ]
some_rose_left [] ys us vs rose = absurd rose
some_rose_left (x ∷ xs) [] us vs rose = absurd rose

pub some_rose_right : (xs ys us vs : List StorageState) → Pairs IsLater xs ys → SomeRose us vs → SomeRose (xs ++ us) (ys ++ vs)
some_rose_right [] [] us vs later rose = rose
some_rose_right (x ∷ xs) (y ∷ ys) us vs later rose = inr (some_rose_right xs ys us vs later.1 rose)
some_rose_right [] (y ∷ ys) us vs later rose = absurd later
some_rose_right (x ∷ xs) [] us vs later rose = absurd later

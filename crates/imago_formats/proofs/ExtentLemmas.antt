-- The extents of a disk, one by one.
use Rattle.std.proofs.Common.{zero, [], ◌^◌, ◌≡◌, ℕ, ◌+◌, ◌-◌, ◌*◌, ◌<◌, ◌≤◌, cond, Bool, true, false, List, ◌∷◌, ◌++◌, length, take, drop, get_or, suc, inl, inr, refl, sym, ap, subst, zero-add, add-one, ◌∙◌, arith}
use Rattle.std.proofs.lemmas.List.Sums.{sum_by_more, sum_by_more_le}
use Rattle.std.proofs.lemmas.Bool.{cases_lt, lt-ltb, le-ltb}
use Rattle.imago_formats.specs.Descriptor.{size_of}
use Rattle.imago_storage.specs.Through.{round_up}
use Rattle.imago_formats.specs.VmdkLayer.{file_names, files_asked, name_in, end_in_file, in_extents, in_source, has_file, AreInReach, IsExtentAt, IsWholeRun}
use Rattle.imago_formats.specs.declared.vmdk.descriptor.Extent.{Extent}
use Rattle.std.proofs.Math.Seq.{drop-cons}
use Rattle.std.proofs.lemmas.List.{map-append}
use Rattle.std.specs.Prelude.{map, min, Option}
use Rattle.std.specs.Option.{option_to_list}
use Rattle.std.specs.String.{string_bytes}
use Rattle.std.specs.declared.string.String.{String}
use Rattle.std.specs.declared.alloc.Global.{Global}
use lib.Dec.{ltb}

module _ {N : Type 0} where
  -- The size of the first `i + 1` extents, and of the remaining ones.
  pub size_more : (xs : List (Extent N)) (i : ℕ) (x : Extent N) → i < length xs → x ≡ get_or xs i x → size_of (take (i + 1) xs) ≡ size_of (take i xs) + 512 * x.sectors
  size_more xs i x h is =
      let more = sum_by_more (λ (e : Extent N). e.sectors) xs i x h in
      let same : (get_or xs i x).sectors ≡ x.sectors = ap (λ (e : Extent N). e.sectors) (sym is) in
      omega (arith, more, same)

  pub size_within : (xs : List (Extent N)) (i : ℕ) (x : Extent N) → i < length xs → x ≡ get_or xs i x → size_of (take i xs) + 512 * x.sectors ≤ size_of xs
  size_within xs i x h is =
      let more = sum_by_more_le (λ (e : Extent N). e.sectors) xs i x h in
      let same : (get_or xs i x).sectors ≡ x.sectors = ap (λ (e : Extent N). e.sectors) (sym is) in
      omega (arith, more, same)

  -- The number of files that the first `i + 1` extents need.
  pub asked_more : (xs : List (Extent N)) (i : ℕ) (x : Extent N) → i < length xs → x ≡ get_or xs i x →
      files_asked (take (i + 1) xs) ≡ files_asked (take i xs) + cond (has_file x) 1 0
  asked_more xs i x h is =
      sum_by_more (λ (e : Extent N). cond (has_file e) 1 0) xs i x h
      ∙ ap (λ (e : Extent N). files_asked (take i xs) + cond (has_file e) 1 0) (sym is)

  asked_within : (xs : List (Extent N)) (i : ℕ) (x : Extent N) → i < length xs → x ≡ get_or xs i x →
      files_asked (take i xs) + cond (has_file x) 1 0 ≤ files_asked xs
  asked_within xs i x h is =
      subst (λ (e : Extent N). files_asked (take i xs) + cond (has_file e) 1 0 ≤ files_asked xs) (sym is)
      (sum_by_more_le (λ (e : Extent N). cond (has_file e) 1 0) xs i x h)

  -- A byte of the first extent, and one after it.
  pub in_first : (files : ℕ → ℕ → ℕ) (x : Extent N) (ys : List (Extent N)) (k q : ℕ) → q < 512 * x.sectors →
      in_extents files (x ∷ ys) k q ≡ in_source x.access x.source (files k) q
  in_first files x ys k q h = rw (lt-ltb q (512 * x.sectors) h) refl

  pub in_later : (files : ℕ → ℕ → ℕ) (x : Extent N) (ys : List (Extent N)) (k q : ℕ) →
      in_extents files (x ∷ ys) k (512 * x.sectors + q) ≡ in_extents files ys (cond (has_file x) (k + 1) k) q
  in_later files x ys k q =
      let past : ltb (512 * x.sectors + q) (512 * x.sectors) ≡ false = le-ltb _ _ (omega arith) in
      let rest : 512 * x.sectors + q - 512 * x.sectors ≡ q = omega arith in
      rw (past, rest) refl

  -- A search for the offset `p` has reached the extent `i`, which begins at `start`.
  pub record StandsAt (xs : List (Extent N)) (i start k p : ℕ) : Type 0 where
    pub begins : start ≡ size_of (take i xs)
    pub low : start ≤ p
    pub some : 0 < k
    pub few : k ≤ i + 1
    pub count : k ≡ files_asked (take i xs) + 1
    pub shows : (files : ℕ → ℕ → ℕ) (q : ℕ) → in_extents files xs 1 (start + q) ≡ in_extents files (drop i xs) k q
    pub reach : (unit : ℕ) → AreInReach unit xs → AreInReach unit (drop i xs)

  rest_is : (xs : List (Extent N)) (i : ℕ) (x : Extent N) → i < length xs → x ≡ get_or xs i x → drop i xs ≡ x ∷ drop (i + 1) xs
  rest_is xs i x h is = drop-cons xs i x h ∙ ap (λ y. y ∷ drop (suc i) xs) (sym is) ∙ ap (λ n. x ∷ drop n xs) (sym (add-one i))

  -- Reads can reach the end of the extent `i` and of those after it.
  pub reach_at : (unit : ℕ) (xs : List (Extent N)) (i : ℕ) (x : Extent N) → i < length xs → x ≡ get_or xs i x → AreInReach unit (drop i xs) →
      (round_up unit (end_in_file x.access x.source x.sectors) < 2 ^ 64) × AreInReach unit (drop (i + 1) xs)
  reach_at unit xs i x h is all =
      let rest = rest_is xs i x h is in
      let both : AreInReach unit (x ∷ drop (i + 1) xs) = rw rest at all in both

  pub stands_first : (xs : List (Extent N)) (p : ℕ) → StandsAt xs 0 0 1 p
  stands_first xs p = record {
    begins = refl;
    low = omega arith;
    some = omega arith;
    few = omega arith;
    count = refl;
    shows = λ files q. ap (λ n. in_extents files xs 1 n) (zero-add q);
    reach = λ unit r. r;
  }

  pub found_here : (xs : List (Extent N)) (i start k p : ℕ) (x : Extent N) → StandsAt xs i start k p → i < length xs → x ≡ get_or xs i x →
      p - start < x.sectors * 512 → IsExtentAt xs p x start k
  found_here xs i start k p x at h is inside =
      let within : size_of (take i xs) + 512 * x.sectors ≤ size_of xs = size_within xs i x h is in
      let rest = rest_is xs i x h is in record {
        low = at.low;
        high = omega (arith, at.low);
        end = omega (arith, at.begins);
        last = (i + 1, let more = size_more xs i x h is in omega (arith, at.begins, more));
        number_nonzero = at.some;
        file_exists = λ asks. let one : ◌≡◌ {A = ℕ} (cond (has_file x) 1 0) 1 = ap (λ t. cond t 1 0) asks in omega (arith, at.count, asked_within xs i x h is, one);
        shows = λ files q low. at.shows files q ∙ ap (λ ys. in_extents files ys k q) rest ∙ in_first files x (drop (i + 1) xs) k q low;
        reach = λ unit all. let r : AreInReach unit (x ∷ drop (i + 1) xs) = rw rest at (at.reach unit all) in r.0;
      }

  -- The run inside the extent of an offset.
  pub whole_run : (xs : List (Extent N)) (p asked n start k : ℕ) (x : Extent N) → IsExtentAt xs p x start k → n ≡ min asked (x.sectors * 512 - (p - start)) →
      IsWholeRun xs p asked n
  whole_run xs p asked n start k x at is = elim (cases_lt asked (x.sectors * 512 - (p - start))) [
    | inl less ↦ inl (omega (arith, is, less, at.low, at.end))
    | inr more ↦ let ends = at.last.1 in inr (at.last.0, omega (arith, is, more, at.low, at.high, ends))
  ]

  pub next_stands : (xs : List (Extent N)) (i start k k' p : ℕ) (x : Extent N) → StandsAt xs i start k p → i < length xs → x ≡ get_or xs i x →
      x.sectors * 512 ≤ p - start → k' ≡ cond (has_file x) (k + 1) k → StandsAt xs (i + 1) (start + x.sectors * 512) k' p
  next_stands xs i start k k' p x at h is past next =
      let more : size_of (take (i + 1) xs) ≡ size_of (take i xs) + 512 * x.sectors = size_more xs i x h is in
      let rest = rest_is xs i x h is in record {
        begins = omega (arith, at.begins);
        low = omega (arith, at.low);
        some = counted (has_file x) k k' next at.some;
        few = no_more (has_file x) k k' i next at.few;
        count = one_more (has_file x) k k' (files_asked (take i xs)) (files_asked (take (i + 1) xs)) next at.count (asked_more xs i x h is);
        shows = λ files q. ap (λ n. in_extents files xs 1 n) (regroup start x.sectors q) ∙ at.shows files (512 * x.sectors + q)
            ∙ ap (λ ys. in_extents files ys k (512 * x.sectors + q)) rest ∙ in_later files x (drop (i + 1) xs) k q
            ∙ ap (λ n. in_extents files (drop (i + 1) xs) n q) (sym next);
        reach = λ unit all. let r : AreInReach unit (x ∷ drop (i + 1) xs) = rw rest at (at.reach unit all) in r.1;
      }
    where
      counted : (t : Bool) (a b : ℕ) → b ≡ cond t (a + 1) a → 0 < a → 0 < b
      counted true a b e h = omega (arith, e)
      counted false a b e h = omega (arith, e)

      no_more : (t : Bool) (a b i : ℕ) → b ≡ cond t (a + 1) a → a ≤ i + 1 → b ≤ i + 1 + 1
      no_more true a b i e h = omega (arith, e)
      no_more false a b i e h = omega (arith, e)

      one_more : (t : Bool) (a b n m : ℕ) → b ≡ cond t (a + 1) a → a ≡ n + 1 → m ≡ n + cond t 1 0 → b ≡ m + 1
      one_more true a b n m e count more = omega (arith, e, count, more)
      one_more false a b n m e count more = omega (arith, e, count, more)

      regroup : (s n q : ℕ) → s + n * 512 + q ≡ s + (512 * n + q)
      regroup s n q = omega arith

-- The names of files, from an extent on.
pub names_from : (xs : List (Extent (String Global))) (i : ℕ) (x : Extent (String Global)) (name : Option (List ℕ)) → i < length xs → x ≡ get_or xs i x →
    option_to_list name ≡ map (λ n. string_bytes n) (name_in x.access x.source) →
    map (λ n. string_bytes n) (file_names (drop i xs)) ≡ option_to_list name ++ map (λ n. string_bytes n) (file_names (drop (i + 1) xs))
names_from xs i x name h is e =
    ap (λ ys. map (λ n. string_bytes n) (file_names ys)) (rest_is xs i x h is) ∙ map-append (λ n. string_bytes n) (name_in x.access x.source) (file_names (drop (i + 1) xs))
    ∙ ap (λ ns. ns ++ map (λ n. string_bytes n) (file_names (drop (i + 1) xs))) (sym e)

-- The search for a name skips one, or finds no more names.
pub past_name : (all ns rest : List (List ℕ)) (name : List ℕ) (before left : ℕ) → get_or all before [] ≡ get_or ns left [] → ns ≡ (name ∷ []) ++ rest → (left ≡ 0 → ⊥) →
    get_or all before [] ≡ get_or rest (left - 1) []
past_name all ns rest name before zero so is some = absurd (some refl)
past_name all ns rest name before (suc k) so is some =
    let one : suc k - 1 ≡ k = omega arith in so ∙ ap (λ xs. get_or xs (suc k) []) is ∙ ap (λ i. get_or rest i []) (sym one)

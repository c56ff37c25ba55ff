-- Writes to the header, the L1 table or the refcount table, which aren't cached. Memory changes like the file.
use Rattle.std.proofs.Common.{◌≡◌, ℕ, ◌+◌, ◌-◌, ◌*◌, ◌<◌, ◌≤◌, refl, arith, ap, sym, ◌∙◌, List, [], ◌∷◌, ◌++◌, length, inl, inr}
use Rattle.std.specs.Prelude.{◌⊎◌, cond, ◌&&◌, nat_le, nat_lt, slice_index}
use Rattle.std.specs.List.{AllByRecursion}
use Rattle.std.proofs.lemmas.Bool.{cases_lt}
use Rattle.std.proofs.lemmas.Bool.Decides.{nat_tests}
use Rattle.std.proofs.lemmas.List.{append-nil}
use Rattle.std.proofs.lemmas.Nat.{pow_pos}
use Rattle.qcow2_types.specs.Bytes.{Bytes, splice, Patch, over}
use Rattle.qcow2_types.specs.Header.{Fields, Header, cluster_size}
use Rattle.qcow2_types.specs.Consistency.{IsConsistent}
use Rattle.qcow2_types.specs.Frames.{Same, Outside, touches}
use Rattle.qcow2_types.specs.References.{meets}
use Rattle.qcow2_types.proofs.Changes.Over.{IsClear, over-first}
use Rattle.qcow2_types.proofs.Counting.Parts.{Part, header, IsPart, part_weight}
use Rattle.qcow2_types.proofs.Changes.Patches.{IsPatch, part_place}
use Rattle.qcow2_alloc.specs.Memory.{Cached, patches, memory}
use Rattle.qcow2_alloc.specs.WellFormedness.{IsCachedTable, IsCachedBlock}
use Rattle.qcow2_alloc.proofs.Memory.MemoryImage.{untouched-by, range-stays}
use Rattle.qcow2_alloc.proofs.Memory.Patches.{all-weaker, patches-are}

-- A patch that overlaps no other may be applied first or last.
over-last : (f : Bytes) (es : List Patch) (e : Patch) → over f (es ++ e ∷ []) ≡ over (splice f e.0 e.1) es
unfolding over
over-last f [] e = refl
over-last f (x ∷ es) e = ap (λ (b : Bytes). splice b x.0 x.1) (over-last f es e)

over-beside : (f : Bytes) (es : List Patch) (e : Patch) → AllByRecursion (IsClear e.0 (length e.1)) es → over (splice f e.0 e.1) es ≡ splice (over f es) e.0 e.1
unfolding over
over-beside f es e clear = sym (over-last f es e) ∙ over-first f es e [] clear ∙ ap (λ (l : List Patch). over f (e ∷ l)) (append-nil es)

clear-inside : (p l first long at n : ℕ) → touches p l first long ≡ 0 → 0 < l → 0 < n → first ≤ at → at + n ≤ first + long → (p + l ≤ at) ⊎ (at + n ≤ p)
unfolding touches
clear-inside p l first long at n none some some' low high = elim (cases_lt at (p + l)) [
  | inl before ↦ elim (cases_lt p (at + n)) [
    | inl after ↦ absurd (grind (arith, nat_tests))
    | inr le ↦ inr le
  ]
  | inr le ↦ inl le
]

-- The range is in part `q` of the structure, which begins at `first`.
module _ (f : Bytes) (H : Header) (was : IsConsistent f H) (cached : Cached) (tables : AllByRecursion (λ e. IsCachedTable f H.fields e.0 e.1.value) cached.tables) (blocks : AllByRecursion (λ e. IsCachedBlock f H.fields e.0 e.1.value) cached.blocks)
    (q : Part) (inside : IsPart H.fields q) (nowhere : part_place f H.fields q ≡ 0) (first long : ℕ) (weight : (w : ℕ → ℕ → ℕ) → part_weight f H.fields w q ≡ w first long)
    (at : ℕ) (bytes : List ℕ) (some : 0 < length bytes) (low : first ≤ at) (high : at + length bytes ≤ first + long) where
  clear-of-patch : (e : Patch) → IsPatch f H.fields e → IsClear at (length bytes) e
  clear-of-patch e is =
      let size : 0 < cluster_size H.fields = pow_pos H.fields.cluster_bits in
      clear-inside e.0 (length e.1) first long at (length bytes) (untouched-by f H was q inside nowhere first long weight e is) (omega (arith, size, is.long)) some low high

  pub memory-beside : memory (splice f at bytes) H.fields cached ≡ splice (memory f H.fields cached) at bytes
  memory-beside = over-beside f (patches H.fields cached) (at, bytes) (all-weaker _ _ clear-of-patch (patches H.fields cached) (patches-are f H was cached tables blocks))

pub unmet-stays : (f x : Bytes) (h : Fields) (c first long at n : ℕ) → meets h c first long ≡ 0 → first ≤ at → at + n ≤ first + long → Outside f x at n → Same f x (c * cluster_size h) (cluster_size h)
unmet-stays f x h c first long at n none low high out k less = elim (cases_lt (c * cluster_size h + k) at) [
  | inl before ↦ out (c * cluster_size h + k) (inl before)
  | inr from ↦ elim (cases_lt (c * cluster_size h + k) (at + n)) [
    | inl to ↦ absurd (met from to)
    | inr past ↦ out (c * cluster_size h + k) (inr past)
  ]
]
  where
    met : at ≤ c * cluster_size h + k → c * cluster_size h + k < at + n → ⊥
    met from to = let next : (c + 1) * cluster_size h ≡ c * cluster_size h + cluster_size h = omega arith in grind (arith, nat_tests)

-- The header in memory is that of the file.
pub memory-start : (f : Bytes) (H : Header) → IsConsistent f H → (cached : Cached) → AllByRecursion (λ e. IsCachedTable f H.fields e.0 e.1.value) cached.tables → AllByRecursion (λ e. IsCachedBlock f H.fields e.0 e.1.value) cached.blocks → Same f (memory f H.fields cached) 0 (cluster_size H.fields)
memory-start f H was cached tables blocks = range-stays f H was header tt refl 0 (cluster_size H.fields) (λ w. refl) (patches H.fields cached) (patches-are f H was cached tables blocks)

pub splice-agrees : (f g : Bytes) (at : ℕ) (bytes : List ℕ) (p : ℕ) → f p ≡ g p → splice f at bytes p ≡ splice g at bytes p
unfolding splice
splice-agrees f g at bytes p same = ap (cond (nat_le at p && nat_lt p (at + length bytes)) (slice_index bytes (p - at))) same

-- Files with several patches written to them.
use Rattle.std.proofs.Common.{◌≡◌, ℕ, zero, suc, ◌+◌, ◌-◌, ◌*◌, ◌<◌, refl, arith, ap, sym, ◌∙◌, List, [], ◌∷◌, ◌++◌, length, get_or, inl, inr, length-append}
use Rattle.std.specs.List.{AllByRecursion}
use Rattle.std.specs.Prelude.{cond, ◌≤◌, ◌&&◌, nat_lt, nat_le, ◌⊎◌, slice_index}
use Rattle.std.specs.Int.{w64, to_be_bytes}
use Rattle.std.proofs.lemmas.Bool.{cases_lt}
use Rattle.std.proofs.lemmas.List.{get_or_append_left, get_or-append_right}
use Rattle.std.proofs.lemmas.Nat.{from_be_bytes-to_be_bytes_8}
use Rattle.std.proofs.Math.Path.{fun_ext}
use Rattle.qcow2_types.specs.Bytes.{Bytes, be, raw_entry, splice, bytes_of, Patch, over}
use Rattle.qcow2_types.specs.TableBytes.{AreFit, table_bytes}
use Rattle.qcow2_types.proofs.Numbers.Splices.{be-same, splice-outside, splice-inside, be-of-bytes}

-- the patch is in the list
pub IsIn : Patch → List Patch → Type 0
IsIn e [] = ⊥
IsIn e (x ∷ xs) = (x ≡ e) ⊎ IsIn e xs

-- a patch, and a list of patches, give equal bytes at an offset where the files are equal
splice-at : (f g : Bytes) (at : ℕ) (bytes : List ℕ) (p : ℕ) → f p ≡ g p → splice f at bytes p ≡ splice g at bytes p
unfolding splice
splice-at f g at bytes p e = ap (cond (nat_le at p && nat_lt p (at + length bytes)) (slice_index bytes (p - at))) e

over-at : (f g : Bytes) (es : List Patch) (p : ℕ) → f p ≡ g p → over f es p ≡ over g es p
unfolding over
over-at f g [] p e = e
over-at f g (x ∷ es) p e = splice-at (over f es) (over g es) x.0 x.1 p (over-at f g es p e)

-- a patch below the same patch has no effect
splice-twice : (f : Bytes) (at : ℕ) (bytes : List ℕ) (es : List Patch) (p : ℕ) → splice (over (splice f at bytes) es) at bytes p ≡ splice (over f es) at bytes p
splice-twice f at bytes es p = elim (cases_lt p at) [
  | inl lt ↦ splice-at _ _ at bytes p (over-at _ _ es p (splice-outside f at bytes p (inl lt)))
  | inr le ↦ elim (cases_lt p (at + length bytes)) [
    | inl lt ↦
        let place : at + (p - at) ≡ p = omega arith in
        let a : splice (over (splice f at bytes) es) at bytes (at + (p - at)) ≡ slice_index bytes (p - at) = splice-inside _ at bytes (p - at) (omega arith) in
        let b : splice (over f es) at bytes (at + (p - at)) ≡ slice_index bytes (p - at) = splice-inside _ at bytes (p - at) (omega arith) in
        rw place at (a ∙ sym b)
    | inr past ↦ splice-at _ _ at bytes p (over-at _ _ es p (splice-outside f at bytes p (inr past)))
  ]
]

-- If one of the patches is written to the file, the file with all patches is the same.
pub over-written : (f : Bytes) (e : Patch) (es : List Patch) → IsIn e es → (p : ℕ) → over (splice f e.0 e.1) es p ≡ over f es p
unfolding over IsIn
over-written f e [] inside p = elim inside [ ]
over-written f e (x ∷ es) (inl same) p =
    ap (λ (y : Patch). splice (over (splice f e.0 e.1) es) y.0 y.1 p) same ∙ (splice-twice f e.0 e.1 es p ∙ sym (ap (λ (y : Patch). splice (over f es) y.0 y.1 p) same))
over-written f e (x ∷ es) (inr later) p = splice-at _ _ x.0 x.1 p (over-written f e es later p)

-- the same for whole files
pub over-stays : (f : Bytes) (e : Patch) (es : List Patch) → IsIn e es → over (splice f e.0 e.1) es ≡ over f es
over-stays f e es inside = fun_ext (over-written f e es inside)

-- the patch touches no byte of the range
abbrev pub IsClear : ℕ → ℕ → Patch → Type 0
IsClear at n e = (e.0 + length e.1 ≤ at) ⊎ (at + n ≤ e.0)

clear-of : (f : Bytes) (at n : ℕ) (e : Patch) (k : ℕ) → IsClear at n e → k < n → splice f e.0 e.1 (at + k) ≡ f (at + k)
clear-of f at n e k (inl before) lt = splice-outside f e.0 e.1 (at + k) (inr (omega (arith, before)))
clear-of f at n e k (inr after) lt = splice-outside f e.0 e.1 (at + k) (inl (omega (arith, after, lt)))

-- A range that no patch touches is the same.
pub over-clear : (f : Bytes) (at n : ℕ) (es : List Patch) → AllByRecursion (IsClear at n) es → (k : ℕ) → k < n → over f es (at + k) ≡ f (at + k)
unfolding over
over-clear f at n [] clear k lt = refl
over-clear f at n (e ∷ es) clear k lt = clear-of (over f es) at n e k clear.0 lt ∙ over-clear f at n es clear.1 k lt

-- A patch that no patch above it touches determines its bytes.
pub over-shows : (f : Bytes) (pre : List Patch) (e : Patch) (post : List Patch) → AllByRecursion (IsClear e.0 (length e.1)) pre → (k : ℕ) → k < length e.1 → over f (pre ++ e ∷ post) (e.0 + k) ≡ slice_index e.1 k
unfolding over
over-shows f [] e post clear k lt = splice-inside (over f post) e.0 e.1 k lt
over-shows f (x ∷ pre) e post clear k lt = clear-of (over f (pre ++ e ∷ post)) e.0 (length e.1) x k clear.0 lt ∙ over-shows f pre e post clear.1 k lt

has-already : (f : Bytes) (e : Patch) (es : List Patch) → AllByRecursion (IsClear e.0 (length e.1)) es → ((k : ℕ) → k < length e.1 → f (e.0 + k) ≡ slice_index e.1 k) → (p : ℕ) → splice (over f es) e.0 e.1 p ≡ over f es p
has-already f e es clear has p = elim (cases_lt p e.0) [
  | inl lt ↦ splice-outside (over f es) e.0 e.1 p (inl lt)
  | inr le ↦ elim (cases_lt p (e.0 + length e.1)) [
    | inl lt ↦
        let place : e.0 + (p - e.0) ≡ p = omega arith in
        let inside : splice (over f es) e.0 e.1 (e.0 + (p - e.0)) ≡ slice_index e.1 (p - e.0) = splice-inside (over f es) e.0 e.1 (p - e.0) (omega arith) in
        let below : over f es (e.0 + (p - e.0)) ≡ slice_index e.1 (p - e.0) = over-clear f e.0 (length e.1) es clear (p - e.0) (omega arith) ∙ has (p - e.0) (omega arith) in
        rw place at (inside ∙ sym below)
    | inr past ↦ splice-outside (over f es) e.0 e.1 p (inr past)
  ]
]

-- A patch whose bytes the file already has can be dropped, if no patch below it touches it.
pub over-drop : (f : Bytes) (pre : List Patch) (e : Patch) (post : List Patch) → AllByRecursion (IsClear e.0 (length e.1)) post → ((k : ℕ) → k < length e.1 → f (e.0 + k) ≡ slice_index e.1 k)
    → (p : ℕ) → over f (pre ++ e ∷ post) p ≡ over f (pre ++ post) p
unfolding over
over-drop f [] e post clear has p = has-already f e post clear has p
over-drop f (x ∷ pre) e post clear has p = splice-at _ _ x.0 x.1 p (over-drop f pre e post clear has p)

is-in : (pre : List Patch) (e : Patch) (post : List Patch) → IsIn e (pre ++ e ∷ post)
unfolding IsIn
is-in [] e post = inl refl
is-in (x ∷ pre) e post = inr (is-in pre e post)

-- If a patch is written to the file and dropped from the list, the file with all patches is the same.
pub over-settled : (f : Bytes) (pre : List Patch) (e : Patch) (post : List Patch) → AllByRecursion (IsClear e.0 (length e.1)) post → over (splice f e.0 e.1) (pre ++ post) ≡ over f (pre ++ e ∷ post)
over-settled f pre e post clear =
    sym (fun_ext (over-drop (splice f e.0 e.1) pre e post clear (λ k lt. splice-inside f e.0 e.1 k lt))) ∙ over-stays f e (pre ++ e ∷ post) (is-in pre e post)

-- A patch that no patch above it touches can be moved to the top.
pub over-first : (f : Bytes) (pre : List Patch) (e : Patch) (post : List Patch) → AllByRecursion (IsClear e.0 (length e.1)) pre → over f (pre ++ e ∷ post) ≡ over f (e ∷ pre ++ post)
unfolding over
over-first f pre e post clear = fun_ext (λ p. elim (cases_lt p e.0) [
  | inl lt ↦ without p (inl lt) ∙ sym (splice-outside (over f (pre ++ post)) e.0 e.1 p (inl lt))
  | inr le ↦ elim (cases_lt p (e.0 + length e.1)) [
    | inl lt ↦
        let place : e.0 + (p - e.0) ≡ p = omega arith in
        let here : over f (pre ++ e ∷ post) (e.0 + (p - e.0)) ≡ slice_index e.1 (p - e.0) = over-shows f pre e post clear (p - e.0) (omega arith) in
        let there : splice (over f (pre ++ post)) e.0 e.1 (e.0 + (p - e.0)) ≡ slice_index e.1 (p - e.0) = splice-inside (over f (pre ++ post)) e.0 e.1 (p - e.0) (omega arith) in
        rw place at (here ∙ sym there)
    | inr past ↦ without p (inr past) ∙ sym (splice-outside (over f (pre ++ post)) e.0 e.1 p (inr past))
  ]
])
  where
    without-in : (pre : List Patch) (p : ℕ) → (p < e.0) ⊎ (e.0 + length e.1 ≤ p) → over f (pre ++ e ∷ post) p ≡ over f (pre ++ post) p
    without-in [] p outside = splice-outside (over f post) e.0 e.1 p outside
    without-in (x ∷ pre) p outside = splice-at _ _ x.0 x.1 p (without-in pre p outside)

    without : (p : ℕ) → (p < e.0) ⊎ (e.0 + length e.1 ≤ p) → over f (pre ++ e ∷ post) p ≡ over f (pre ++ post) p
    without = without-in pre

-- each raw entry is read back
pub words-read : (ws : List ℕ) (j : ℕ) → AreFit ws → j < length ws → be (bytes_of (table_bytes ws)) (8 * j) 8 ≡ get_or ws j 0
words-read [] j fit lt = absurd (omega arith)
words-read (w ∷ ws) zero fit lt =
    be-same (bytes_of (to_be_bytes w64 w ++ table_bytes ws)) (bytes_of (to_be_bytes w64 w)) (8 * 0) 0 8 (λ k less. let none : 0 + k ≡ k = omega arith in rw none (get_or_append_left (to_be_bytes w64 w) (table_bytes ws) 0 k (omega arith)))
    ∙ (be-of-bytes (to_be_bytes w64 w) ∙ from_be_bytes-to_be_bytes_8 w (fit 0 lt))
words-read (w ∷ ws) (suc j) fit lt =
    be-same (bytes_of (to_be_bytes w64 w ++ table_bytes ws)) (bytes_of (table_bytes ws)) (8 * suc j) (8 * j) 8
    (λ k less. let place : (8 * suc j + k) - 8 ≡ 8 * j + k = omega arith in get_or-append_right (to_be_bytes w64 w) (table_bytes ws) 8 (8 * suc j + k) 0 refl (omega arith) ∙ ap (λ m. get_or (table_bytes ws) m 0) place)
    ∙ words-read ws j (λ i less. fit (suc i) (omega (arith, less))) (omega arith)

pub words-length : (ws : List ℕ) → length (table_bytes ws) ≡ 8 * length ws
words-length [] = refl
words-length (w ∷ ws) = let more : length (table_bytes ws) ≡ 8 * length ws = words-length ws in omega (arith, length-append (to_be_bytes w64 w) (table_bytes ws))

-- A cached table written over the file has its raw entries.
pub table-over : (f : Bytes) (t : ℕ) (ws : List ℕ) (j : ℕ) → AreFit ws → j < length ws → raw_entry (splice f t (table_bytes ws)) t j ≡ get_or ws j 0
unfolding raw_entry
table-over f t ws j fit lt =
    let size : length (table_bytes ws) ≡ 8 * length ws = words-length ws in
    be-same (splice f t (table_bytes ws)) (bytes_of (table_bytes ws)) (t + 8 * j) (8 * j) 8
    (λ k less. let place : t + (8 * j + k) ≡ t + 8 * j + k = omega arith in rw place at (splice-inside f t (table_bytes ws) (8 * j + k) (omega arith)))
    ∙ words-read ws j fit lt

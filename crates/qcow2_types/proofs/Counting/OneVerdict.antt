-- An image has at most one verdict.
use Rattle.std.proofs.Common.{◌≡◌, ℕ, ◌<◌, refl, sym, ap, subst, ◌∙◌, Result, Ok, Err, inl, inr, arith}
use Rattle.std.specs.Prelude.{◌⊎◌, Bool, true, IsTrue, IsFalse, IsErr, List}
use Rattle.std.proofs.lemmas.Bool.{cases_order}
use Rattle.qcow2_types.specs.Bytes.{Bytes}
use Rattle.qcow2_types.specs.Header.{Fields, Header, header_of}
use Rattle.qcow2_types.specs.Consistency.Finding.{header, snapshots, external, table, shared_table, false_copied, under_counted}
use Rattle.qcow2_types.specs.Consistency.{Finding, IsLeast, IsConsistent, IsFirstFinding, IsVerdict, leaks}
use Rattle.imago_storage.specs.declared.fault.Fault.{Fault}

both : {b : Bool} → IsTrue b → IsFalse b → ⊥
both pass fail = absurd cc

some-none : {n : ℕ} → 0 < n → n ≡ 0 → ⊥
some-none some none = omega arith

-- a test is first true at only one cluster
least-unique : (test : ℕ → Bool) (c d : ℕ) → IsLeast test c → IsLeast test d → c ≡ d
least-unique test c d p q = elim (cases_order c d) [
  | inl same ↦ same
  | inr (inl lt) ↦ absurd (both p.0 (q.1 c lt))
  | inr (inr lt) ↦ absurd (both q.0 (p.1 d lt))
]

-- an image has only one first finding
pub first-unique : (f : Bytes) (h : Fields) (a b : Finding) → IsFirstFinding f h a → IsFirstFinding f h b → a ≡ b
first-unique f h header header p q = absurd p
first-unique f h header snapshots p q = absurd p
first-unique f h header external p q = absurd p
first-unique f h header table p q = absurd p
first-unique f h header (shared_table d) p q = absurd p
first-unique f h header (false_copied d) p q = absurd p
first-unique f h header (under_counted d) p q = absurd p
first-unique f h snapshots header p q = absurd q
first-unique f h snapshots snapshots p q = refl
first-unique f h snapshots external p q = absurd (some-none p q.0)
first-unique f h snapshots table p q = absurd (some-none p q.0)
first-unique f h snapshots (shared_table d) p q = absurd (some-none p q.0)
first-unique f h snapshots (false_copied d) p q = absurd (some-none p q.0)
first-unique f h snapshots (under_counted d) p q = absurd (some-none p q.0)
first-unique f h external header p q = absurd q
first-unique f h external snapshots p q = absurd (some-none q p.0)
first-unique f h external external p q = refl
first-unique f h external table p q = absurd (both p.1 q.1)
first-unique f h external (shared_table d) p q = absurd (both p.1 q.1)
first-unique f h external (false_copied d) p q = absurd (both p.1 q.1)
first-unique f h external (under_counted d) p q = absurd (both p.1 q.1)
first-unique f h table header p q = absurd q
first-unique f h table snapshots p q = absurd (some-none q p.0)
first-unique f h table external p q = absurd (both q.1 p.1)
first-unique f h table table p q = refl
first-unique f h table (shared_table d) p q = absurd (both q.2 p.2)
first-unique f h table (false_copied d) p q = absurd (both q.2 p.2)
first-unique f h table (under_counted d) p q = absurd (both q.2 p.2)
first-unique f h (shared_table c) header p q = absurd q
first-unique f h (shared_table c) snapshots p q = absurd (some-none q p.0)
first-unique f h (shared_table c) external p q = absurd (both q.1 p.1)
first-unique f h (shared_table c) table p q = absurd (both p.2 q.2)
first-unique f h (shared_table c) (shared_table d) p q = ap shared_table (least-unique _ c d p.3 q.3)
first-unique f h (shared_table c) (false_copied d) p q = absurd (both p.3.0 (q.3 c))
first-unique f h (shared_table c) (under_counted d) p q = absurd (both p.3.0 (q.3 c))
first-unique f h (false_copied c) header p q = absurd q
first-unique f h (false_copied c) snapshots p q = absurd (some-none q p.0)
first-unique f h (false_copied c) external p q = absurd (both q.1 p.1)
first-unique f h (false_copied c) table p q = absurd (both p.2 q.2)
first-unique f h (false_copied c) (shared_table d) p q = absurd (both q.3.0 (p.3 d))
first-unique f h (false_copied c) (false_copied d) p q = ap false_copied (least-unique _ c d p.4 q.4)
first-unique f h (false_copied c) (under_counted d) p q = absurd (both p.4.0 (q.4 c))
first-unique f h (under_counted c) header p q = absurd q
first-unique f h (under_counted c) snapshots p q = absurd (some-none q p.0)
first-unique f h (under_counted c) external p q = absurd (both q.1 p.1)
first-unique f h (under_counted c) table p q = absurd (both p.2 q.2)
first-unique f h (under_counted c) (shared_table d) p q = absurd (both q.3.0 (p.3 d))
first-unique f h (under_counted c) (false_copied d) p q = absurd (both q.4.0 (p.4 d))
first-unique f h (under_counted c) (under_counted d) p q = ap under_counted (least-unique _ c d p.5 q.5)

pub consistent-unfound : (f : Bytes) (H : Header) (a : Finding) → IsConsistent f H → IsFirstFinding f H.fields a → ⊥
consistent-unfound f H header is p = p
consistent-unfound f H snapshots is p = some-none p is.readable.no_snapshots
consistent-unfound f H external is p = both p.1 is.readable.data_inside
consistent-unfound f H table is p = both is.readable.tables p.2
consistent-unfound f H (shared_table c) is p = both p.3.0 (is.structure_apart c)
consistent-unfound f H (false_copied c) is p = both p.4.0 (is.copied_apart c)
consistent-unfound f H (under_counted c) is p = both p.5.0 (is.counted c)

-- A finding is either that the header doesn't load, or the first finding of an image whose header loads.
verdict-first : (f : Bytes) (a : Finding) → IsVerdict f (Err a) → (IsErr (header_of true f) × (a ≡ header)) ⊎ ((H : Header) × (header_of true f ≡ Ok H) × IsFirstFinding f H.fields a)
verdict-first f header p = inl (p, refl)
verdict-first f snapshots p = inr p
verdict-first f external p = inr p
verdict-first f table p = inr p
verdict-first f (shared_table c) p = inr p
verdict-first f (false_copied c) p = inr p
verdict-first f (under_counted c) p = inr p

-- A header loads or it doesn't.
loads-or-not : (f : Bytes) (H : Header) → header_of true f ≡ Ok H → IsErr (header_of true f) → ⊥
loads-or-not f H loads fails = let bad : IsErr {T = Header} {E = Fault} (Ok H) = subst IsErr loads fails in absurd cc

one-header : (f : Bytes) (H K : Header) → header_of true f ≡ Ok H → header_of true f ≡ Ok K → H ≡ K
one-header f H K p q = ok-same (sym p ∙ q)
  where
    ok-same : {x y : Header} → ◌≡◌ {A = Result Header Fault} (Ok x) (Ok y) → x ≡ y
    ok-same e = cc

-- no consistent image has a finding
sound-unfound : (f : Bytes) (H : Header) (a : Finding) → IsConsistent f H → IsVerdict f (Err a) → ⊥
sound-unfound f H a is p = elim (verdict-first f a p) [
  | inl fails ↦ loads-or-not f H is.readable.loads fails.0
  | inr (K, loads, first) ↦ consistent-unfound f H a is (subst (λ H. IsFirstFinding f H.fields a) (one-header f K H loads is.readable.loads) first)
]

-- no image has two findings
both-found : (f : Bytes) (a b : Finding) → IsVerdict f (Err a) → IsVerdict f (Err b) → a ≡ b
both-found f a b p q = elim (verdict-first f a p) [
  | inl x ↦ elim (verdict-first f b q) [
    | inl y ↦ x.1 ∙ sym y.1
    | inr (K, loads, first) ↦ absurd (loads-or-not f K loads x.0)
  ]
  | inr (H, loads, first) ↦ elim (verdict-first f b q) [
    | inl y ↦ absurd (loads-or-not f H loads y.0)
    | inr (K, loads', first') ↦ first-unique f H.fields a b first (subst (λ H. IsFirstFinding f H.fields b) (one-header f K H loads' loads) first')
  ]
]

-- Two verdicts on an image are the same.
pub verdict-unique : (f : Bytes) (a b : Result (List (ℕ × ℕ)) Finding) → IsVerdict f a → IsVerdict f b → a ≡ b
verdict-unique f (Ok x) (Ok y) (H, is, p) (K, so, q) = ap Ok (p ∙ ap (λ H. leaks f H.fields) (one-header f H K is.readable.loads so.readable.loads) ∙ sym q)
verdict-unique f (Ok x) (Err b) (H, is, p) q = absurd (sound-unfound f H b is q)
verdict-unique f (Err a) (Ok y) p (K, so, q) = absurd (sound-unfound f K a so p)
verdict-unique f (Err a) (Err b) p q = ap Err (both-found f a b p q)

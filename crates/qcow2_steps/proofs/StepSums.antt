-- Two consecutive steps of an image are one step, which gives what either does.
use Rattle.std.proofs.Common.{◌≡◌, ℕ, ◌+◌, ◌/◌, ◌^◌, arith, ap, sym, subst, ◌∙◌, Option, inl, inr}
use Rattle.std.specs.Prelude.{◌⊎◌}
use Rattle.imago_storage.specs.Disk.{Value}
use Rattle.qcow2_types.specs.Bytes.{Bytes}
use Rattle.qcow2_types.specs.Header.{Header, cluster_size}
use Rattle.qcow2_alloc.specs.GuestView.{Metadata, IsUsed}
use Rattle.qcow2_steps.specs.Advancing.{Advances, MayBeCrashImage}
use Rattle.qcow2_steps.specs.Words.{IsReserved}
use Rattle.qcow2_steps.proofs.Headers.{header-bits, header-then}

-- A crash image of a step is one of each step that gives more.
pub left-weaker : (gives more : ℕ → Option Value → Type 0) → ((p : ℕ) (v : Option Value) → gives p v → more p v) → (m : Metadata) (x : Bytes) (H : Header) → MayBeCrashImage gives m x H → MayBeCrashImage more m x H
left-weaker gives more from m x H left = record {
  consistent = left.consistent;
  header = left.header;
  shows = λ p. elim (left.shows p) [
    | inl file ↦ inl file
    | inr other ↦ inr (elim other [ inl memory ↦ inl memory | inr given ↦ inr (from p _ given) ])
  ];
}

-- A step may be described with more given, written, set and taken, if `handed` grows by as much as `taken`.
pub advances-weaker : (gives more : ℕ → Option Value → Type 0) (written wider set further : ℕ → Type 0) (handed taken h t : ℕ → ℕ) (m m' : Metadata)
    → ((p : ℕ) (v : Option Value) → gives p v → more p v) → ((q : ℕ) → written q → wider q) → ((guest : ℕ) → set guest → further guest)
    → ((c : ℕ) → handed c + t c ≡ h c + taken c) → ((c : ℕ) → IsUsed m c → t c ≡ 0 → taken c ≡ 0)
    → Advances gives written set handed taken m m' → Advances more wider further h t m m'
advances-weaker gives more written wider set further handed taken h t m m' given place raw_entry same spared step = record {
  sound = step.sound;
  header = step.header;
  file = left-weaker gives more given m m'.file m'.header step.file;
  memory = λ p. elim (step.memory p) [ inl was ↦ inl was | inr now ↦ inr (given p _ now) ];
  raw_entries = λ guest. elim (step.raw_entries guest) [ inl was ↦ inl was | inr now ↦ inr (raw_entry guest now) ];
  used = λ c used none. step.used c used (spared c used none);
  waits = λ c used none. step.waits c used (spared c used none);
  names = λ c used none. step.names c used (spared c used none);
  used_bytes_unchanged = λ p used none. elim (step.used_bytes_unchanged p used (spared _ used none)) [ inl now ↦ inl (place p now) | inr was ↦ inr was ];
  law = λ c. let law = step.law c in let e = same c in omega (arith, law, e);
}

module _ (gives gives' : ℕ → Option Value → Type 0) (written set : ℕ → Type 0) (handed taken : ℕ → ℕ) (m m1 : Metadata) (first : Advances gives written set handed taken m m1) where
  abbrev Either : ℕ → Option Value → Type 0
  Either p v = gives p v ⊎ gives' p v

  -- A crash image of the second step is one of both.
  pub left-then : (x : Bytes) (H : Header) → MayBeCrashImage gives' m1 x H → MayBeCrashImage Either m x H
  left-then x H left = record {
    consistent = left.consistent;
    header = header-then m.header m1.header H first.header left.header;
    shows = λ p. elim (left.shows p) [
      | inl file ↦ elim (first.file.shows p) [
        | inl was ↦ inl (file ∙ was)
        | inr other ↦ elim other [
          | inl memory ↦ inr (inl (file ∙ memory))
          | inr given ↦ inr (inr (inl (subst (gives p) (sym file) given)))
        ]
      ]
      | inr other ↦ elim other [
        | inl memory ↦ elim (first.memory p) [
          | inl was ↦ inr (inl (memory ∙ was))
          | inr given ↦ inr (inr (inl (subst (gives p) (sym memory) given)))
        ]
        | inr given ↦ inr (inr (inr given))
      ]
    ];
  }

  module _ (written' set' : ℕ → Type 0) (handed' taken' : ℕ → ℕ) (m2 : Metadata) (second : Advances gives' written' set' handed' taken' m1 m2) where
    still-used : (c : ℕ) → IsUsed m c → taken c + taken' c ≡ 0 → IsUsed m1 c × (taken c ≡ 0) × (taken' c ≡ 0)
    still-used c used none = (first.used c used (omega (arith, none)), omega (arith, none), omega (arith, none))

    size-same : cluster_size m1.header.fields ≡ cluster_size m.header.fields
    size-same = ap (λ b. 2 ^ b) (header-bits m.header m1.header first.header)

    pub advances-then : Advances Either (λ q. written q ⊎ written' q) (λ guest. set guest ⊎ set' guest) (λ c. handed c + handed' c) (λ c. taken c + taken' c) m m2
    advances-then = record {
      sound = second.sound;
      header = header-then m.header m1.header m2.header first.header second.header;
      file = left-then m2.file m2.header second.file;
      memory = λ p. elim (second.memory p) [
        | inl same ↦ elim (first.memory p) [
          | inl was ↦ inl (same ∙ was)
          | inr given ↦ inr (inl (subst (gives p) (sym same) given))
        ]
        | inr given ↦ inr (inr given)
      ];
      raw_entries = λ guest. elim (second.raw_entries guest) [
        | inl same ↦ elim (first.raw_entries guest) [
          | inl was ↦ inl (same ∙ was)
          | inr now ↦ inr (inl now)
        ]
        | inr now ↦ inr (inr now)
      ];
      used = λ c used none. let has_no_dirty_data = still-used c used none in second.used c has_no_dirty_data.0 has_no_dirty_data.2;
      waits = λ c used none. let has_no_dirty_data = still-used c used none in let one = first.waits c used has_no_dirty_data.1 in let two = second.waits c has_no_dirty_data.0 has_no_dirty_data.2 in omega (arith, one, two);
      names = λ c used none. let has_no_dirty_data = still-used c used none in let one = first.names c used has_no_dirty_data.1 in let two = second.names c has_no_dirty_data.0 has_no_dirty_data.2 in omega (arith, one, two);
      used_bytes_unchanged = λ p used none.
          let has_no_dirty_data = still-used (p / cluster_size m.header.fields) used none in
          let there = subst (λ s. IsUsed m1 (p / s) → taken' (p / s) ≡ 0 → written' p ⊎ (m2.file p ≡ m1.file p)) size-same (second.used_bytes_unchanged p) has_no_dirty_data.0 has_no_dirty_data.2 in
          elim there [
            | inl now ↦ inl (inr now)
            | inr same ↦ elim (first.used_bytes_unchanged p used has_no_dirty_data.1) [
              | inl now ↦ inl (inl now)
              | inr was ↦ inr (same ∙ was)
            ]
          ];
      law = λ c. let one = first.law c in let two = second.law c in omega (arith, one, two);
    }

-- A cluster that was reserved and isn't taken is still reserved.
pub reserved-still : (gives : ℕ → Option Value → Type 0) (written set : ℕ → Type 0) (handed taken : ℕ → ℕ) (m m' : Metadata) → Advances gives written set handed taken m m' → (c : ℕ) → IsReserved m c → taken c ≡ 0 → IsReserved m' c
reserved-still gives written set handed taken m m' step c reserved none = record {
  used = step.used c reserved.used none;
  not_referenced = let fewer = step.names c reserved.used none in let was = reserved.not_referenced in omega (arith, fewer, was);
  waits = let fewer = step.waits c reserved.used none in let was = reserved.waits in omega (arith, fewer, was);
}

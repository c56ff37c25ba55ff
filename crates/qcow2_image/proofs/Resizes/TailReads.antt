-- Lemmas on the last guest cluster of a disk that gets longer: its bytes are read before.
use Rattle.std.proofs.Common.{◌≡◌, ◌≢◌, ℕ, ◌+◌, ◌-◌, ◌*◌, ◌/◌, ◌%◌, ◌^◌, ◌<◌, ◌≤◌, arith, ap, sym, subst, ◌∙◌, inl, inr, refl, Bool, true, false, List, length, Option, None, Some, Ok, Err}
use Rattle.std.specs.Prelude.{⊤, IsTrue, Vec, slice_index}
use Rattle.std.specs.declared.alloc.Global.{Global}
use Rattle.std.proofs.lemmas.Bool.{cases_lt}
use Rattle.std.proofs.lemmas.Nat.{div-add-mod', mod_below, pow_pos}
use Rattle.std.proofs.Math.Nat.{mul-le-mul_right}
use Rattle.imago_storage.specs.Disk.{Value, barred, byte, damaged_place}
use Rattle.imago_storage.specs.declared.fault.Fault.{Fault}
use Rattle.imago_storage.specs.declared.fault.Fault.TheVariants.{Barred, DamagedTable}
use Rattle.imago_storage.specs.declared.storage.Storage.{Ghosts}
use Rattle.imago_access.specs.Chain.{at}
use Rattle.imago_access.specs.Changes.{Asked, IsCopied, asking}
use Rattle.imago_access.specs.Files.{IsNotResourceError}
use Rattle.imago_access.specs.Layer.{Cell, Layer, through}
use Rattle.imago_access.specs.Room.{IsWholeUnit}
use Rattle.imago_access.specs.declared.driver_model.LayersBelowModel.{Ghosts as GhostsBelow}
use Rattle.imago_access.proofs.Looking.{looked_under_same}
use Rattle.qcow2_types.specs.Entries.{entry}
use Rattle.qcow2_types.specs.Header.{Fields, Header, cluster_size}
use Rattle.qcow2_alloc.proofs.Causes.{cause-weaker}
use Rattle.qcow2_image.specs.Filling.{IsInFirst, IsLeft, IsNeededFor, MakesContent, NeedsShown, RefusesCopy, WhyNotCopied}
use Rattle.qcow2_image.specs.Growing.{ReadsTail, ReadsZero, TellsZero, clusters_over, last_guest, reads_zeroes}
use Rattle.qcow2_image.specs.ImageLayer.{blank_of, cell_by}
use Rattle.qcow2_image.specs.KeepsDisk.{KeepsDisk}
use Rattle.qcow2_image.specs.Rooms.{IsWellFormed}
use Rattle.qcow2_image.specs.Seen.{file_of, layer_of}
use Rattle.qcow2_image.specs.Steps.{KeepsImage}
use Rattle.qcow2_image.specs.declared.allocating.Shown.{Shown}
use Rattle.qcow2_image.specs.declared.allocating.Shown.TheVariants as variant
use Rattle.qcow2_image.specs.declared.qcow2.Qcow2.{Qcow2}
use Rattle.qcow2_image.proofs.DiskEffects.{keeps-image-disk}
use Rattle.qcow2_image.proofs.Preparations.ContentCopies.{same-row}
use Rattle.qcow2_image.proofs.Preparations.FreshRuns.{shown-says}
use Rattle.qcow2_image.proofs.Steps.{keeps-as, keeps-both, keeps-same}

-- A disk that ends inside a cluster isn't empty.
pub nonempty : (c size : ℕ) → size % c ≢ 0 → 0 < size
nonempty c size cut = elim (cases_lt 0 size) [
  | inl some ↦ some
  | inr none ↦ let split = div-add-mod' size c in absurd (cut (omega (arith, split, none)))
]

-- The guest clusters of a disk, by the size of clusters.
module _ (c size : ℕ) (one : 0 < c) where
  -- They end with that of the last byte.
  pub last-over : 0 < size → clusters_over c size ≡ (size - 1) / c + 1
  last-over some =
      let split = div-add-mod' (size - 1) c in
      let rest = mod_below (size - 1) c one in
      let product : ((size - 1) / c + 1) * c ≡ (size - 1) / c * c + c = omega arith in
      same-row c ((size - 1) / c + 1) (size + (c - 1)) (omega (arith, product, split, rest, some, one))
      (omega (arith, product, split, some, one))

  none-over : size ≡ 0 → clusters_over c size ≡ 0
  none-over none = same-row c 0 (size + (c - 1)) (omega arith) (omega (arith, none, one))

  -- A byte past the end of the disk that is in one of them is in the last.
  pub last-row : (p : ℕ) → size ≤ p → p / c < clusters_over c size → (0 < size) × (p / c ≡ (size - 1) / c)
  last-row p past within = elim (cases_lt 0 size) [
    | inr none ↦ let over = none-over (omega (arith, none)) in absurd (omega (arith, over, within))
    | inl some ↦
        let over = last-over some in
        let split = div-add-mod' p c in
        let split' = div-add-mod' (size - 1) c in
        let rest = mod_below p c one in
        elim (cases_lt (p / c) ((size - 1) / c)) [
          | inl less ↦
              let le : (p / c + 1) * c ≤ (size - 1) / c * c = mul-le-mul_right c (omega (arith, less)) in
              let product : (p / c + 1) * c ≡ p / c * c + c = omega arith in
              absurd (omega (arith, le, product, rest, split, split', past, some))
          | inr more ↦ (some, omega (arith, more, over, within))
        ]
  ]

  -- There is no such byte if the disk ends where a cluster does.
  pub none-past : size % c ≡ 0 → (p : ℕ) → size ≤ p → p / c < clusters_over c size → ⊥
  none-past whole p past within =
      let split = div-add-mod' size c in
      let split' = div-add-mod' p c in
      let rest = mod_below p c one in
      let over : clusters_over c size ≡ size / c =
      same-row c (size / c) (size + (c - 1)) (omega (arith, split)) (omega (arith, split, whole, one)) in
      let le : (p / c + 1) * c ≤ size / c * c = mul-le-mul_right c (omega (arith, over, within)) in
      let product : (p / c + 1) * c ≡ p / c * c + c = omega arith in
      omega (arith, le, product, rest, split, split', whole, past)

pub shown-zeroes : (shown : Shown) → reads_zeroes shown ≡ true → shown ≡ variant.Zeroes
shown-zeroes variant.Zeroes is = refl
shown-zeroes shown is = absurd (cc is)

-- The needed bytes of a guest cluster are the same in an image with the same disk.
module _ {S B : Type 0} (g : Ghosts S) (u : GhostsBelow B) (asked : Asked) (old mid : Qcow2 S g) (x : B)
    (size : mid.tables.file.header.fields.size ≡ old.tables.file.header.fields.size)
    (bits : mid.tables.file.header.fields.cluster_bits ≡ old.tables.file.header.fields.cluster_bits)
    (safely : IsWellFormed g old → IsWellFormed g mid) (layer : IsWellFormed g old → layer_of g mid ≡ layer_of g old) where
  needed-since : (p : ℕ) → IsNeededFor mid.tables.file.header.fields asked p → IsNeededFor old.tables.file.header.fields asked p
  needed-since p n = record {
    first = (
      subst (λ (b : ℕ). p / 2 ^ b ≡ asked.offset / 2 ^ b) bits n.first.0,
      subst (λ (s : ℕ). p < s) size n.first.1,
    );
    part = λ all whole. n.part all
        (subst (λ (b : ℕ). IsWholeUnit (2 ^ b) mid.tables.file.header.fields.size asked.offset asked.length (asked.offset / 2 ^ b))
        (sym bits)
        (subst (λ (s : ℕ). IsWholeUnit (2 ^ old.tables.file.header.fields.cluster_bits) s asked.offset asked.length
        (asked.offset / 2 ^ old.tables.file.header.fields.cluster_bits)) (sym size) whole));
  }

  shown-since : (v : Value) → IsWellFormed g old → NeedsShown g u asked (mid, x) v → NeedsShown g u asked (old, x) v
  shown-since v well_formed which = (
    which.0,
    needed-since which.0 which.1,
    ap (λ (l : Layer). through (l.cell which.0) (at (u.layers_below x) which.0)) (sym (layer well_formed)) ∙ which.2,
  )

  why-since : (y : B) (e : Fault) → IsWellFormed g old → WhyNotCopied g u asked (mid, x) y e → WhyNotCopied g u asked (old, x) y e
  why-since y DamagedTable well_formed why = shown-since damaged_place well_formed why
  why-since y Barred well_formed why = shown-since barred well_formed why
  why-since y e well_formed why = why

  pub copy-since : (y : B) (e : Fault) → RefusesCopy g u asked (mid, x) y e → RefusesCopy g u asked (old, x) y e
  copy-since y e c = record {
    failed = c.failed;
    cause = λ well_formed under. why-since y e well_formed (c.cause (safely well_formed) under);
  }

-- The last guest cluster is read before the disk gets longer.
module _ {S B : Type 0} (g : Ghosts S) (u : GhostsBelow B) (old : Qcow2 S g) (x : B) where
  abbrev h : Fields
  h = old.tables.file.header.fields

  abbrev c : ℕ
  c = cluster_size h

  abbrev guest : ℕ
  guest = last_guest g old

  abbrev below : List Layer
  below = u.layers_below x

  one : 0 < c
  one = pow_pos h.cluster_bits

  abbrev wanted : Asked
  wanted = asking (h.size - 1) 1 false

  abbrev Tail : Type 0
  Tail = Option (Vec ℕ Global)

  -- The disk ends where a cluster does.
  pub tail-idle : h.size % c ≡ 0 → ReadsTail g u (old, x) (Ok None) (old, x)
  tail-idle whole = record {
    below = looked_under_same u ⊤ x;
    keeps = keeps-as {T = Unit} {U = Tail} g old old (Ok tt) (Ok None) (λ w. tt) (λ f. refl) (keeps-same g old);
    tail = λ well_formed p past within. absurd (none-past c h.size one whole p past within);
    cause = tt;
  }

  -- The lookup failed.
  pub tail-unseen : (mid : Qcow2 S g) (e : Fault) → TellsZero g guest old (Err e) mid → ReadsTail g u (old, x) (Err e) (mid, x)
  tail-unseen mid e t = record {
    below = looked_under_same u (IsNotResourceError e) x;
    keeps = keeps-as {T = Bool} {U = Tail} g old mid (Err e) (Err e) (λ w. w) (λ f. refl) t.keeps;
    tail = tt;
    cause = inl t.cause;
  }

  module _ (stays : Bool) (mid : Qcow2 S g) (t : TellsZero g guest old (Ok stays) mid) where
    seen : KeepsDisk g ⊤ old mid
    seen = keeps-image-disk {T = Bool} g old mid (Ok stays) t.keeps

    seen-fields : mid.tables.file.header.fields ≡ h
    seen-fields = ap (λ (H : Header). H.fields) t.keeps.tables.header

    seen-image : KeepsImage {T = Unit} g old (Ok tt) mid
    seen-image = keeps-as {T = Bool} {U = Unit} g old mid (Ok stays) (Ok tt) (λ w. tt) (λ f. refl) t.keeps

    -- The guest cluster reads as zeroes.
    zero-cell : IsWellFormed g old → IsTrue stays → (p : ℕ) → p / c ≡ guest → ReadsZero g below old p
    zero-cell well_formed is p row =
        let f = file_of g old.tables in
        let b = blank_of old.mode.backing in
        ap (λ (q : ℕ). through (cell_by b f h p (entry f h q)) (at below p)) row
        ∙ ap (λ (k : Cell). through k (at below p))
        (shown-says old.mode.backing variant.Zeroes f h p (entry f h guest) (t.zero well_formed is))

    pub tail-zeroes : IsTrue stays → ReadsTail g u (old, x) (Ok None) (mid, x)
    tail-zeroes is = record {
      below = looked_under_same u ⊤ x;
      keeps = keeps-as {T = Bool} {U = Tail} g old mid (Ok stays) (Ok None) (λ w. tt) (λ f. refl) t.keeps;
      tail = λ well_formed p past within. zero-cell well_formed is p (last-row c h.size one p past within).1;
      cause = tt;
    }

    -- The bytes of the guest cluster can't be read.
    pub tail-uncopied : (new : Qcow2 S g) (y : B) (e : Fault) → MakesContent g u wanted (mid, x) (Err e) (new, y)
        → ReadsTail g u (old, x) (Err e) (new, y)
    tail-uncopied new y e m = record {
      below = m.below;
      keeps = keeps-as {T = Vec ℕ Global} {U = Tail} g old new (Err e) (Err e) (λ w. w) (λ f. refl)
          (keeps-both {T = Vec ℕ Global} g old mid new (Err e) seen-image m.keeps);
      tail = tt;
      cause = elim m.err [
        | inl own ↦ inl (cause-weaker (let same = (seen.faults tt).0 in record {
          before = omega (arith, same);
          after = omega arith;
          damaged = λ wrong known. wrong (seen.safely known tt);
          counter = λ wrong known. wrong (seen.safely known tt);
          full = absurd;
          limit = λ number none known. none (seen.safely known tt);
        }) e own)
        | inr copy ↦ inr (copy-since g u wanted old mid x seen.size seen.bits (λ well_formed. seen.safely well_formed tt)
            (λ well_formed. seen.layer well_formed tt) y e copy)
      ];
    }

    -- The bytes of the guest cluster are read.
    pub tail-copied : (new : Qcow2 S g) (y : B) (content : Vec ℕ Global) → h.size % c ≢ 0
        → MakesContent g u wanted (mid, x) (Ok content) (new, y) → ReadsTail g u (old, x) (Ok (Some content)) (new, y)
    tail-copied new y content cut m = record {
      below = m.below;
      keeps = keeps-as {T = Vec ℕ Global} {U = Tail} g old new (Ok content) (Ok (Some content)) (λ w. tt) (λ f. refl)
          (keeps-both {T = Vec ℕ Global} g old mid new (Ok content) seen-image m.keeps);
      tail = (
        cut,
        record {
          long = m.ok.long ∙ ap (λ (f : Fields). cluster_size f) seen-fields;
          shows = λ well_formed under.
              subst (λ (l : Layer). (q : ℕ) → IsInFirst h wanted q → IsLeft wanted q
              → IsCopied (at below) l q (slice_index content.items (q % c))) (seen.layer well_formed tt)
              (subst (λ (f : Fields). (q : ℕ) → IsInFirst f wanted q → IsLeft wanted q
              → IsCopied (at below) (layer_of g mid) q (slice_index content.items (q % cluster_size f))) seen-fields
              (m.ok.shows (seen.safely well_formed tt) under));
          rest = subst (λ (f : Fields). (q : ℕ) → f.size ≤ q → q / cluster_size f ≡ wanted.offset / cluster_size f
              → slice_index content.items (q % cluster_size f) ≡ 0) seen-fields m.ok.rest;
        },
      );
      cause = tt;
    }

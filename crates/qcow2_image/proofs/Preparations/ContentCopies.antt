-- Lemmas on copy on write: the data that a guest cluster shows is copied to the bytes of a host cluster.
use Rattle.std.proofs.Common.{◌≡◌, ℕ, ◌+◌, ◌-◌, ◌*◌, ◌/◌, ◌%◌, ◌^◌, ◌<◌, ◌≤◌, refl, arith, ap, sym, subst, ◌∙◌, inl, inr, false, List, length, Result, Ok, Err}
use Rattle.std.specs.Prelude.{⊤, ◌⊎◌, ◌++◌, IfErr, OnOk, Vec, drop, replicate, slice_index, take}
use Rattle.std.specs.declared.alloc.Global.{Global}
use Rattle.std.proofs.lemmas.Bool.{cases_lt, lt-ltb}
use Rattle.std.proofs.lemmas.List.{get_or-append_right, get_or-drop, get_or-replicate, get_or-take, get_or_append_left, get_or_past, length-replicate, length-take-le}
use Rattle.std.proofs.lemmas.Nat.{div-add-mod', div-mul-add, mod_below, pow_pos}
use Rattle.std.proofs.Math.Nat.{pow-le-pow_right}
use borrow.Rule.Slice.PartMut.{mid_len, mid_of, post_of, put_mid}
use Rattle.imago_storage.specs.Calls.{Cause, Reads}
use Rattle.imago_storage.specs.State.{IsAlignment, StorageState, unit_of}
use Rattle.imago_storage.specs.Through.{NotRead, Overflows}
use Rattle.imago_storage.specs.Disk.{Value, barred, byte, damaged_place}
use Rattle.imago_storage.specs.declared.fault.Fault.{Fault}
use Rattle.imago_storage.specs.declared.fault.Fault.TheVariants.{Barred, DamagedTable, Failed, Memory, MissingData, RangeOverflow, Storage}
use Rattle.imago_storage.specs.declared.storage.Storage.{Ghosts}
use Rattle.imago_access.specs.Chain.{at, unit_of_chain}
use Rattle.imago_access.specs.Changes.{Asked}
use Rattle.imago_access.specs.Files.{HadNoResourceError}
use Rattle.imago_access.specs.Layer.{Cell, through}
use Rattle.imago_access.specs.Refusals.{ReadCause, SomeIs}
use Rattle.imago_access.specs.declared.driver_model.LayersBelowModel.{Ghosts as GhostsBelow}
use Rattle.imago_access.proofs.Looking.{looked_under_same}
use Rattle.imago_access.proofs.Units.{overflows_late}
use Rattle.qcow2_types.specs.Bytes.{Bytes, bytes_of}
use Rattle.qcow2_types.specs.Entries.{entry}
use Rattle.qcow2_types.specs.Header.{Fields, cluster_size}
use Rattle.qcow2_types.specs.Words.{Mapping, damaged}
use Rattle.qcow2_types.proofs.Fields.HeaderLimits.{header-limited}
use Rattle.qcow2_metadata.specs.Places.{IsAddressable}
use Rattle.qcow2_alloc.specs.Causes.{HasCause}
use Rattle.qcow2_alloc.proofs.Causes.{storage-cause}
use Rattle.qcow2_image.specs.Allocating.{TellsShown, shown_cell, reserving_causes}
use Rattle.qcow2_image.specs.Filling.{CopiesPart, CopiesShown, IsInFirst, IsNeededFor, MakesContent, NeedsShown, RefusesPart, WhyNotCopied, first_places, shown_over}
use Rattle.qcow2_image.specs.Holding.{place_in}
use Rattle.qcow2_image.specs.Homes.{memory_is}
use Rattle.qcow2_image.specs.ImageLayer.{blank_of, cell_by}
use Rattle.qcow2_image.specs.Looking.{looking_causes}
use Rattle.qcow2_image.specs.Rooms.{IsWellFormed}
use Rattle.qcow2_image.specs.Seen.{file_of, layer_of, IsCacheCoherent}
use Rattle.qcow2_image.specs.Steps.{KeepsImage}
use Rattle.qcow2_image.specs.declared.allocating.Shown.{Shown}
use Rattle.qcow2_image.specs.declared.allocating.Shown.TheVariants as variant
use Rattle.qcow2_image.specs.declared.qcow2.Qcow2.{Qcow2}
use Rattle.qcow2_image.proofs.Preparations.FreshRuns.{shown-says}
use Rattle.qcow2_image.proofs.Preparations.RunPreparations.{never-damaged}
use Rattle.qcow2_image.proofs.Steps.{keeps-as, keeps-both, keeps-same}

pub same-row : (c row p : ℕ) → row * c ≤ p → p < row * c + c → p / c ≡ row
same-row c row p low high =
    let split : p ≡ row * c + (p - row * c) = omega (arith, low) in
    ap (λ (n : ℕ). n / c) split ∙ div-mul-add row c (p - row * c) (omega (arith, low, high))

put-at : (a k i : ℕ) (xs ys : List ℕ) → a ≤ length xs → i < length ys → slice_index (put_mid a k xs ys) (a + i) ≡ slice_index ys i
put-at a k i xs ys inside less =
    let front : length (take a xs) ≡ a = length-take-le a xs inside in
    let back : a + i - a ≡ i = omega arith in
    get_or-append_right (take a xs) (ys ++ post_of a k xs) a (a + i) 0 front (omega arith)
    ∙ ap (λ (n : ℕ). slice_index (ys ++ post_of a k xs) n) back ∙ get_or_append_left ys (post_of a k xs) 0 i less

pub zero-at : (content : List ℕ) → content ≡ replicate (length content) 0 → (i : ℕ) → slice_index content i ≡ 0
zero-at content zero i = ap (λ (l : List ℕ). slice_index l i) zero ∙ elim (cases_lt i (length content)) [
  | inl less ↦ get_or-replicate (length content) i 0 0 less
  | inr past ↦ get_or_past (replicate (length content) 0) i 0 (omega (arith, past, length-replicate {A = ℕ} (length content) 0))
]

pub zero-part : (content : List ℕ) (a k i : ℕ) → content ≡ replicate (length content) 0 → i < k → slice_index (mid_of a k content) i ≡ 0
zero-part content a k i zero less = get_or-take k (drop a content) i 0 less ∙ get_or-drop a content i 0 ∙ zero-at content zero (a + i)

-- An offset keeps its distance to another in the same cluster.
row-at : (c first i n : ℕ) → first % c + n ≤ c → i < n → (first + i) % c ≡ first % c + i
row-at c first i n inside less =
    let split = div-add-mod' first c in
    let split' = div-add-mod' (first + i) c in
    let same : (first + i) / c ≡ first / c = same-row c (first / c) (first + i) (omega (arith, split)) (omega (arith, split, inside, less)) in
    let here : (first + i) / c * c ≡ first / c * c = ap (λ (x : ℕ). x * c) same in
    omega (arith, here, split, split')

-- A part of a cluster starts and ends in that cluster.
pub part-row : (c start first n : ℕ) → start % c ≡ 0 → start ≤ first → 0 < n → first - start + n ≤ c → first % c + n ≤ c
part-row c start first n begins low some inside =
    let on : start + (first - start) ≡ first = omega (arith, low) in
    let row = row-at c start (first - start) c (omega (arith, begins)) (omega (arith, some, inside)) in
    let here : first % c ≡ start % c + (first - start) = ap (λ (p : ℕ). p % c) (sym on) ∙ row in
    omega (arith, here, begins, inside)

module _ {S B : Type 0} (g : Ghosts S) (u : GhostsBelow B) where
  -- An empty part needs no read.
  pub nothing-copied : (shown : Shown) (part : ℕ × ℕ) (d : Qcow2 S g) (x : B) (bytes : ℕ → ℕ) → part.0 ≡ part.1
      → CopiesShown g u shown part (d, x) (Ok tt) (d, x) bytes
  nothing-copied shown part d x bytes none = record {
    below = looked_under_same u ⊤ x;
    keeps = keeps-same g d;
    shows = λ under p low high. absurd (omega (arith, none, low, high));
    err = tt;
  }

  -- Zeroes need no read.
  pub zeroes-copied : (first : ℕ) (buf : List ℕ) (d : Qcow2 S g) (x : B) → ((i : ℕ) → i < length buf → slice_index buf i ≡ 0)
      → CopiesShown g u variant.Zeroes (first, first + length buf) (d, x) (Ok tt) (d, x) (λ p. slice_index buf (p - first))
  zeroes-copied first buf d x zero = record {
    below = looked_under_same u ⊤ x;
    keeps = keeps-same g d;
    shows = λ under p low high. ap (λ (b : ℕ). byte b) (sym (zero (p - first) (omega (arith, low, high))));
    err = tt;
  }

  -- Barred data can't be read.
  pub barred-copied : (first n : ℕ) (d : Qcow2 S g) (x : B) (bytes : ℕ → ℕ) → 0 < n
      → CopiesShown g u variant.Barred (first, first + n) (d, x) (Err Barred) (d, x) bytes
  barred-copied first n d x bytes some = record {
    below = looked_under_same u ⊤ x;
    keeps = keeps-as {T = Unit} {U = Unit} g d d (Ok tt) (Err Barred) (λ w. tt) (λ f. refl) (keeps-same g d);
    shows = tt;
    err = inr (record {
      failed = tt;
      cause = λ under. (0, omega (arith, some), refl);
      no_range_overflow = λ under small is. absurd (cc is);
    });
  }

  -- Data was read from a cluster of the file.
  module _ (cluster first place : ℕ) (old new : Qcow2 S g) (x : B) (n : ℕ) (buf : List ℕ) (long : length buf ≡ n) where
    abbrev own-file : Bytes
    own-file = file_of g old.tables

    abbrev own-fields : Fields
    own-fields = old.tables.file.header.fields

    data-shows : (r : Result Unit Fault) → place ≡ place_in own-fields cluster first → first % cluster_size own-fields + n ≤ cluster_size own-fields
        → OnOk r (Reads (g.state old.tables.file.image).bytes place buf)
        → OnOk r (u.coherent_below x → (p : ℕ) → first ≤ p → p < first + n
        → byte (own-file (place_in own-fields cluster p)) ≡ byte (slice_index buf (p - first)))
    data-shows (Err e) there inside reads = tt
    data-shows (Ok done) there inside reads = λ under p low high.
        let i : ℕ = p - first in
        let less : p - first < length buf = omega (arith, long, low, high) in
        let on : first + (p - first) ≡ p = omega (arith, low) in
        let row : p % cluster_size own-fields ≡ first % cluster_size own-fields + (p - first) =
        ap (λ (q : ℕ). q % cluster_size own-fields) (sym on) ∙ row-at (cluster_size own-fields) first (p - first) n inside (omega (arith, low, high)) in
        let at-place : place_in own-fields cluster p ≡ place + (p - first) = omega (arith, row, there) in
        ap (λ (q : ℕ). byte (own-file q)) at-place ∙ ap (λ (b : ℕ). byte b) (sym (reads (p - first) less))

    data-why : (s' : StorageState) (r : Result Unit Fault) → g.state new.tables.file.image ≡ s'
        → (Overflows (unit_of (g.state old.tables.file.image).shape) place n → ⊥)
        → IfErr r (NotRead (g.state old.tables.file.image) s' place n)
        → IfErr r (λ e. Cause (g.state old.tables.file.image).faults (g.state new.tables.file.image).faults e
        ⊎ RefusesPart u (shown_over g u (variant.Data cluster) (old, x)) (first, first + n) x x e)
    data-why s' (Ok done) state near why = tt
    data-why s' (Err RangeOverflow) state near why = absurd (near why.0)
    data-why s' (Err e) state near why = inl (subst (λ (s : StorageState). Cause (g.state old.tables.file.image).faults s.faults e) (sym state) why)

    -- The range ends at most 2^22 bytes after 2^63.
    data-near : place ≡ place_in own-fields cluster first → first % cluster_size own-fields + n ≤ cluster_size own-fields
        → own-fields.cluster_bits ≤ 21 → IsAddressable own-fields.cluster_bits cluster → place + n ≤ 2 ^ 63 + 2 ^ 22
    data-near there inside high reach =
        let few : cluster_size own-fields ≤ 2 ^ 21 = pow-le-pow_right (omega arith) high in
        omega (arith, few, there, inside, reach)

    pub data-copied : (s' : StorageState) (r : Result Unit Fault) → place ≡ place_in own-fields cluster first
        → first % cluster_size own-fields + n ≤ cluster_size own-fields → own-fields.cluster_bits ≤ 21 → IsAddressable own-fields.cluster_bits cluster
        → IsAlignment (unit_of (g.state old.tables.file.image).shape) → KeepsImage g old r new → OnOk r (Reads (g.state old.tables.file.image).bytes place buf)
        → g.state new.tables.file.image ≡ s' → IfErr r (NotRead (g.state old.tables.file.image) s' place n)
        → CopiesShown g u (variant.Data cluster) (first, first + n) (old, x) r (new, x) (λ p. slice_index buf (p - first))
    data-copied s' r there inside high reach aligned keeps reads state why = record {
      below = looked_under_same u (HadNoResourceError r) x;
      keeps = keeps;
      shows = data-shows r there inside reads;
      err = data-why s' r state
          (overflows_late (unit_of (g.state old.tables.file.image).shape) place n aligned (data-near there inside high reach)) why;
    }

  -- The bytes that were copied to a part are in the whole content.
  module _ (shown : Shown) (start : ℕ) (part : ℕ × ℕ) (content buf : List ℕ) (old new : Qcow2 S g × B) (low : start ≤ part.0)
      (order : part.0 ≤ part.1) (fits : part.1 - start ≤ length content) where
    abbrev a : ℕ
    a = part.0 - start

    abbrev k : ℕ
    k = part.1 - start - (part.0 - start)

    pub long-mid : length (mid_of a k content) ≡ k
    long-mid = mid_len a (part.1 - start) content fits

    ends : part.0 + length (mid_of a k content) ≡ part.1
    ends = omega (arith, long-mid, low, order)

    part-shows : (r : Result Unit Fault) → length buf ≡ length (mid_of a k content)
        → OnOk r (u.coherent_below old.1 → (p : ℕ) → part.0 ≤ p → p < part.1 → shown_over g u shown old p ≡ byte (slice_index buf (p - part.0)))
        → OnOk r (u.coherent_below old.1 → (p : ℕ) → part.0 ≤ p → p < part.1
        → shown_over g u shown old p ≡ byte (slice_index (put_mid a k content buf) (p - start)))
    part-shows (Err e) same shows = tt
    part-shows (Ok done) same shows = λ under p from to.
        let less : p - part.0 < length buf = omega (arith, same, ends, from, to) in
        let row : part.0 - start + (p - part.0) ≡ p - start = omega (arith, from, low) in
        shows under p from to ∙ ap (λ (b : ℕ). byte b) (sym (put-at a k (p - part.0) content buf (omega (arith, low, order, fits)) less)
        ∙ ap (slice_index (put_mid a k content buf)) row)

    -- The bytes after the part stay 0.
    pub part-rest : length buf ≡ length (mid_of a k content) → content ≡ replicate (length content) 0 → (i : ℕ) → part.1 - start ≤ i
        → slice_index (put_mid a k content buf) i ≡ 0
    part-rest same zero i past =
        let front : length (take a content) ≡ a = length-take-le a content (omega (arith, low, order, fits)) in
        get_or-append_right (take a content) (buf ++ post_of a k content) a i 0 front (omega (arith, past, low, order))
        ∙ get_or-append_right buf (post_of a k content) k (i - a) 0 (same ∙ long-mid) (omega (arith, past, low, order))
        ∙ get_or-drop k (drop a content) (i - a - k) 0 ∙ get_or-drop a content (k + (i - a - k)) 0 ∙ zero-at content zero (a + (k + (i - a - k)))

    pub part-copied : (r : Result Unit Fault) → length buf ≡ length (mid_of a k content)
        → CopiesShown g u shown (part.0, part.0 + length (mid_of a k content)) old r new (λ p. slice_index buf (p - part.0))
        → CopiesShown g u shown part old r new (λ p. slice_index (put_mid a k content buf) (p - start))
    part-copied r same done =
        let all = subst (λ (e : ℕ). CopiesShown g u shown (part.0, e) old r new (λ p. slice_index buf (p - part.0))) ends done in record {
          below = all.below;
          keeps = all.keeps;
          shows = part-shows r same all.shows;
          err = all.err;
        }

module _ {S : Type 0} (g : Ghosts S) where
  -- In a well-formed image a lookup doesn't fail for an invalid entry.
  pub why-looked : (full : ℕ → Type 0) (old new : Qcow2 S g) (guest : ℕ) (e : Fault)
      → (IsCacheCoherent g old.tables → HasCause (looking_causes (entry (file_of g old.tables) old.tables.file.header.fields guest ≡ damaged)
      (g.state old.tables.file.image).faults (g.state new.tables.file.image).faults) e)
      → HasCause (looking_causes ⊤ (g.state old.tables.file.image).faults (g.state new.tables.file.image).faults) e → HasCause (reserving_causes g full old new) e
  why-looked full old new guest Memory known why = tt
  why-looked full old new guest Storage known why = why
  why-looked full old new guest DamagedTable known why = λ well_formed. never-damaged (file_of g old.tables) old.tables.file.header well_formed.consistent guest (known well_formed.seen)
  why-looked full old new guest e known why = absurd why

  module _ {B : Type 0} (u : GhostsBelow B) (asked : Asked) (guest : ℕ) (old mid : Qcow2 S g) (x : B) where
    -- No content is made if the lookup fails.
    pub content-unseen : (e : Fault) → TellsShown g guest old (Err e) mid → MakesContent g u asked (old, x) (Err e) (mid, x)
    content-unseen e t = record {
      below = looked_under_same u (HadNoResourceError {T = Vec ℕ Global} (Err e)) x;
      keeps = keeps-as {T = Shown} {U = Vec ℕ Global} g old mid (Err e) (Err e) (λ w. w) (λ f. refl) t.keeps;
      ok = tt;
      err = inl (why-looked (λ number. ⊥) old mid guest e t.known_cause t.cause);
    }

    -- No content is made if memory runs out.
    pub content-unmade : (shown : Shown) → TellsShown g guest old (Ok shown) mid → (e : Fault) → e ≡ Memory
        → MakesContent g u asked (old, x) (Err e) (mid, x)
    content-unmade shown t e is = subst (λ (f : Fault). MakesContent g u asked (old, x) (Err f) (mid, x)) (sym is) (record {
      below = looked_under_same u ⊥ x;
      keeps = keeps-as {T = Shown} {U = Vec ℕ Global} g old mid (Ok shown) (Err Memory) (λ w. tt) (λ f. refl) t.keeps;
      ok = tt;
      err = inl tt;
    })

  -- The content of a guest cluster that shows `shown`.
  module _ {B : Type 0} (u : GhostsBelow B) (asked : Asked) (old mid new : Qcow2 S g) (x y : B) (shown : Shown)
      (t : TellsShown g (asked.offset / cluster_size old.tables.file.header.fields) old (Ok shown) mid) where
    abbrev h : Fields
    h = old.tables.file.header.fields

    abbrev c : ℕ
    c = cluster_size h

    one : 0 < c
    one = pow_pos h.cluster_bits

    abbrev raw_entry : Mapping
    raw_entry = entry (file_of g old.tables) h (asked.offset / c)

    -- Each byte of the guest cluster reads as `shown` says.
    shown-at : IsWellFormed g old → (p : ℕ) → IsInFirst h asked p → (layer_of g old).cell p ≡ shown_cell (file_of g old.tables) h p shown
    shown-at well_formed p first = rw (lt-ltb p h.size first.1)
        (ap (cell_by (blank_of old.mode.backing) (file_of g old.tables) h p)
        (ap (λ (m : Bytes). entry m h (p / c)) (memory_is g old.tables) ∙ ap (entry (file_of g old.tables) h) first.0)
        ∙ shown-says old.mode.backing shown (file_of g old.tables) h p raw_entry (sym (t.shown well_formed.seen)))

    -- The lookup doesn't change that.
    shown-then : (p : ℕ) → shown_over g u shown (mid, x) p ≡ shown_over g u shown (old, x) p
    shown-then p = λ i. through (shown_cell (bytes_of (t.keeps.tables.unchanged_but_faults.bytes i)) (t.keeps.tables.header i).fields p shown) (at (u.layers_below x) p)

    over-is : IsWellFormed g old → (p : ℕ) → IsInFirst h asked p → through ((layer_of g old).cell p) (at (u.layers_below x) p) ≡ shown_over g u shown (mid, x) p
    over-is well_formed p first = ap (λ (k : Cell). through k (at (u.layers_below x) p)) (shown-at well_formed p first) ∙ sym (shown-then p)

    abbrev places : ℕ × ℕ
    places = first_places h asked.offset

    -- The offset in the cluster is the distance to the cluster's start.
    place-row : (p : ℕ) → p / c ≡ asked.offset / c → (places.0 ≤ p) × (p - places.0 ≡ p % c)
    place-row p same =
        let here : p / c * c ≡ asked.offset / c * c = ap (λ (n : ℕ). n * c) same in
        let split = div-add-mod' p c in
        (omega (arith, here, split), omega (arith, here, split))

    in-places : (p : ℕ) → IsInFirst h asked p → (places.0 ≤ p) × (p < places.1)
    in-places p first =
        let row = place-row p first.0 in
        let rest : p % c < c = mod_below p c one in
        (row.0, omega (arith, row.0, row.1, rest, first.1))

    told : KeepsImage {T = Unit} g old (Ok tt) mid
    told = keeps-as {T = Shown} {U = Unit} g old mid (Ok shown) (Ok tt) (λ w. tt) (λ f. refl) t.keeps

    module _ (part : ℕ × ℕ) (cut : CopiesPart places.0 places.1 asked part) where
      pub content-copied : (content : Vec ℕ Global) (bytes : List ℕ) → content.items ≡ bytes → length bytes ≡ c
          → CopiesShown g u shown part (mid, x) (Ok tt) (new, y) (λ p. slice_index bytes (p - places.0))
          → ((i : ℕ) → part.1 - places.0 ≤ i → slice_index bytes i ≡ 0)
          → MakesContent g u asked (old, x) (Ok content) (new, y)
      content-copied content bytes is long done rest = record {
        below = done.below;
        keeps = keeps-as {T = Unit} {U = Vec ℕ Global} g old new (Ok tt) (Ok content) (λ w. tt) (λ f. refl)
            (keeps-both {T = Unit} g old mid new (Ok tt) told done.keeps);
        ok = record {
          long = ap (λ (l : List ℕ). length l) is ∙ long;
          shows = λ well_formed under p first left.
              let on = in-places p first in
              let here = cut.all p on.0 on.1 left in
              over-is well_formed p first ∙ done.shows under p here.0 here.1
              ∙ ap (λ (b : ℕ). byte b) (ap (slice_index bytes) (place-row p first.0).1 ∙ ap (λ (l : List ℕ). slice_index l (p % c)) (sym is));
          rest = λ p past same.
              let on = place-row p same in
              ap (λ (l : List ℕ). slice_index l (p % c)) is ∙ ap (slice_index bytes) (sym on.1)
              ∙ rest (p - places.0) (omega (arith, cut.high, past, on.0));
        };
        err = tt;
      }

      -- Each byte that is read is needed.
      first-at : (p : ℕ) → part.0 ≤ p → p < part.1 → IsInFirst h asked p
      first-at p from to =
          let low : asked.offset / c * c ≤ p = omega (arith, cut.low, from) in
          let high : p < asked.offset / c * c + c = omega (arith, cut.high, to) in
          (same-row c (asked.offset / c) p low high, omega (arith, cut.high, to))

      needed : (p : ℕ) → part.0 ≤ p → p < part.1 → IsNeededFor h asked p
      needed p from to = record {
        first = first-at p from to;
        part = λ all whole. omega (arith, cut.none all whole.start whole.end, from, to);
      }

      -- An error of the copy is an error of a read.
      pub content-uncopied : (e : Fault) (bytes : ℕ → ℕ) → CopiesShown g u shown part (mid, x) (Err e) (new, y) bytes
          → MakesContent g u asked (old, x) (Err e) (new, y)
      content-uncopied e bytes done = record {
        below = done.below;
        keeps = keeps-as {T = Unit} {U = Vec ℕ Global} g old new (Err e) (Err e) (λ w. w) (λ f. refl)
            (keeps-both {T = Unit} g old mid new (Err e) told done.keeps);
        ok = tt;
        err = elim done.err [
          | inl own ↦ inl (let same = (told.tables.faults tt).0 in storage-cause _ _ _ (omega (arith, same)) (omega arith) e own)
          | inr below ↦ inr (record {
            failed = below.failed;
            cause = λ well_formed under. why well_formed e
                (below.no_range_overflow under (omega (arith, cut.high, (header-limited false (file_of g old.tables) old.tables.file.header well_formed.seen.loads).size)))
                (below.cause under);
          })
        ];
      } where
        read-at : IsWellFormed g old → (v : Value) → SomeIs (shown_over g u shown (mid, x)) part.0 (part.1 - part.0) v → NeedsShown g u asked (old, x) v
        read-at well_formed v which =
            let from : part.0 ≤ part.0 + which.0 = omega arith in
            let to : part.0 + which.0 < part.1 = omega (arith, which.1) in
            (part.0 + which.0, needed (part.0 + which.0) from to, over-is well_formed (part.0 + which.0) (first-at (part.0 + which.0) from to) ∙ which.2)

        why : IsWellFormed g old → (f : Fault) → (f ≡ RangeOverflow → ⊥)
            → ReadCause (u.layers_below x) (shown_over g u shown (mid, x)) (unit_of_chain (u.layers_below x)) part.0 (part.1 - part.0) (u.files_of_layers_below x) (u.files_of_layers_below y) f
            → WhyNotCopied g u asked (old, x) y f
        why well_formed Failed near is = is
        why well_formed MissingData near is = is
        why well_formed RangeOverflow near is = near refl
        why well_formed DamagedTable near is = read-at well_formed damaged_place is
        why well_formed Barred near is = read-at well_formed barred is
        why well_formed Memory near is = tt
        why well_formed Storage near is = is
        why well_formed f near is = absurd is

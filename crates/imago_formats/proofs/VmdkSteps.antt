-- The effect on a VMDK image of calls that only read its storages.
use Rattle.std.proofs.Common.{zero, suc, ◌≡◌, ℕ, ◌+◌, ◌-◌, ◌*◌, ◌<◌, ◌≤◌, ◌^◌, min, List, [], ◌∷◌, Result, Ok, Err, refl, sym, ap, subst, ◌∙◌, ◌++◌, take, drop, max, arith}
use Rattle.std.specs.Prelude.{IsOk, Bool, false, true, None, Some, if◌then◌else◌, length, ltb, ◌&&◌, OnOk, IsTrue, map, slice_index}
use Rattle.imago_storage.specs.State.{StorageState, Shape}
use Rattle.imago_storage.specs.Disk.{byte, barred}
use Rattle.imago_storage.specs.Through.{Overflows, round_up}
use Rattle.imago_storage.proofs.Rounding.{round_up-le, le_round_up}
use Rattle.imago_access.specs.Mappings.{EachIs, IsOneOf, Looks, ReportsExplicitZero}
use Rattle.imago_access.specs.declared.mapping.ShallowMapping.TheVariants as shallow
use Rattle.imago_formats.specs.RawHome.{never}
use Rattle.imago_storage.specs.declared.fault.Fault.{Fault}
use Rattle.imago_storage.specs.declared.fault.Fault.TheVariants.{MissingData}
use borrow.Author.Tests.{ltb-false}
use Rattle.imago_access.specs.Layer.{Layer, Cell, own, loose, unit_of_layer}
use Rattle.std.specs.declared.string.String.{String}
use Rattle.std.specs.declared.alloc.Global.{Global}
use Rattle.std.proofs.lemmas.Grind.{common_steps}
use Rattle.imago_access.specs.Files.{Pairs, UnchangedButMoreFaults, HadNoResourceError, byte_in, greatest, keep_all}
use Rattle.imago_access.specs.declared.format.Format.TheVariants as format
use Rattle.imago_formats.specs.Descriptor.{descriptor_of, size_of}
use Rattle.imago_formats.specs.DescriptorView.{kept_extents}
use Rattle.imago_formats.specs.declared.vmdk.descriptor.Access.{Access}
use Rattle.imago_formats.specs.declared.vmdk.descriptor.Access.TheVariants.{ReadWrite, ReadOnly, NoAccess}
use Rattle.imago_formats.specs.declared.vmdk.descriptor.Source.{Source}
use Rattle.imago_formats.specs.declared.vmdk.descriptor.Source.TheVariants.{Flat, Zero}
use Rattle.imago_formats.specs.VmdkLayer.{AreInReach, IsExtentAt, IsZeroByDescriptor, ReadsReach, asks_file, end_in_file, mapping_of, in_source, in_extents, files_asked, meaning_of, vmdk_layer}
use Rattle.imago_formats.specs.declared.vmdk.descriptor.Extent.{Extent}

greatest_kept : (part : Shape → ℕ) (s s' : StorageState) (ss ss' : List StorageState) → UnchangedButMoreFaults s s' → Pairs UnchangedButMoreFaults ss ss' →
    greatest (λ t. part t.shape) s' ss' ≡ greatest (λ t. part t.shape) s ss
greatest_kept part s s' [] [] kept pairs = ap part kept.0.shape
greatest_kept part s s' [] (y ∷ ys) kept pairs = absurd pairs
greatest_kept part s s' (x ∷ xs) [] kept pairs = absurd pairs
greatest_kept part s s' (x ∷ xs) (y ∷ ys) kept pairs =
    ap (λ n. max n (greatest (λ t. part t.shape) y ys)) (ap part kept.0.shape) ∙ ap (λ n. max (part s.shape) n) (greatest_kept part x y xs ys pairs.0 pairs.1)

keeps_kept : (s s' : StorageState) (ss ss' : List StorageState) → UnchangedButMoreFaults s s' → Pairs UnchangedButMoreFaults ss ss' → keep_all s' ss' ≡ keep_all s ss
keeps_kept s s' [] [] kept pairs = ap (λ (h : Shape). h.keeps) kept.0.shape
keeps_kept s s' [] (y ∷ ys) kept pairs = absurd pairs
keeps_kept s s' (x ∷ xs) [] kept pairs = absurd pairs
keeps_kept s s' (x ∷ xs) (y ∷ ys) kept pairs =
    ap (λ b. b && keep_all y ys) (ap (λ (h : Shape). h.keeps) kept.0.shape) ∙ ap (λ b. s.shape.keeps && b) (keeps_kept x y xs ys pairs.0 pairs.1)

length_kept : (ss ss' : List StorageState) → Pairs UnchangedButMoreFaults ss ss' → length ss' ≡ length ss
length_kept [] [] pairs = refl
length_kept [] (y ∷ ys) pairs = absurd pairs
length_kept (x ∷ xs) [] pairs = absurd pairs
length_kept (x ∷ xs) (y ∷ ys) pairs = ap (λ n. suc n) (length_kept xs ys pairs.1)

bytes_kept : (ss ss' : List StorageState) → Pairs UnchangedButMoreFaults ss ss' → (k p : ℕ) → byte_in ss' k p ≡ byte_in ss k p
bytes_kept [] [] pairs k p = refl
bytes_kept [] (y ∷ ys) pairs k p = absurd pairs
bytes_kept (x ∷ xs) [] pairs k p = absurd pairs
bytes_kept (x ∷ xs) (y ∷ ys) pairs zero p = ap (λ (bytes : List ℕ). slice_index bytes p) pairs.0.0.bytes
bytes_kept (x ∷ xs) (y ∷ ys) pairs (suc k) p = bytes_kept xs ys pairs.1 k p

-- The layer is unchanged.
pub layer_kept : {N : Type 0} (extents : List (Extent N)) (image image' : StorageState) (files files' : List StorageState) →
    Pairs UnchangedButMoreFaults (image ∷ files) (image' ∷ files') → vmdk_layer extents image' files' ≡ vmdk_layer extents image files
layer_kept extents image image' files files' kept =
    let keeps = keeps_kept image image' files files' kept.0 kept.1 in
    let few = length_kept files files' kept.1 in
    let requests = greatest_kept (λ h. h.req_align) image image' files files' kept.0 kept.1 in
    let memory = greatest_kept (λ h. h.mem_align) image image' files files' kept.0 kept.1 in
    let bytes = bytes_kept (image ∷ files) (image' ∷ files') kept in
    λ i. record {
      fixed = record {
        format = format.Vmdk;
        writable = false;
        lets_through = false;
        keeps = keeps i;
        missing = ltb (few i) (files_asked extents);
        number = 0;
        blank = own (byte 0);
        req_align = requests i;
        mem_align = memory i;
        granularity = None;
        kind = 0;
        means = λ f. meaning_of (descriptor_of f) (λ k p. bytes k p i);
        leaks = λ f c. 0;
        exact = true;
        marks_failed = false;
        reports_allocation = false;
        unit = 1;
      };
      size = size_of extents;
      failed = false;
      cell = in_extents (λ k p. bytes k p i) extents 1;
      writable_location = λ p. None;
      held = λ p. loose;
      unspent = None;
    }

-- A fact that always holds also holds on success.
pub on_ok : {T : Type 0} (r : Result T Fault) (P : Type 0) → P → OnOk r P
on_ok (Ok v) P holds = holds
on_ok (Err e) P holds = tt

-- A list that is written back completely.
pub written_back : {A : Type 0} (n : ℕ) (xs ys : List A) → length xs ≡ n → take n (xs ++ drop (length xs) ys) ≡ xs
written_back n xs ys h = grind (arith, common_steps)

-- A VMDK image with unchanged storages: its layer, and the conditions of reads and changes.
pub record IsKeptImage {A : Type 0} (state : A → StorageState) (extents : List (Extent (String Global))) (old new : A × List A) : Type 0 where
  pub layer : vmdk_layer extents (state new.0) (map state new.1) ≡ vmdk_layer extents (state old.0) (map state old.1)
  pub kept : Pairs UnchangedButMoreFaults (state old.0 ∷ map state old.1) (state new.0 ∷ map state new.1)
  pub coherent : ReadsReach extents (state old.0) (map state old.1) → ReadsReach extents (state new.0) (map state new.1)
  pub keeps : IsTrue (keep_all (state old.0) (map state old.1)) → IsTrue (keep_all (state new.0) (map state new.1))
  pub said : descriptor_of (state old.0).bytes ≡ Ok (kept_extents extents) → descriptor_of (state new.0).bytes ≡ Ok (kept_extents extents)

module _ {A : Type 0} (state : A → StorageState) (extents : List (Extent (String Global))) where
  pub kept_image : (image image' : A) (files files' : List A) → Pairs UnchangedButMoreFaults (state image ∷ map state files) (state image' ∷ map state files') →
      IsKeptImage state extents (image, files) (image', files')
  kept_image image image' files files' kept =
      let same = layer_kept extents (state image) (state image') (map state files) (map state files') kept in record {
        layer = same;
        kept = kept;
        coherent = λ reach. subst (λ (l : Layer). AreInReach (unit_of_layer l) extents) (sym same) reach;
        keeps = λ keeps. subst (λ (b : Bool). IsTrue b) (sym (ap (λ (l : Layer). l.fixed.keeps) same)) keeps;
        said = λ says. ap descriptor_of kept.0.0.bytes ∙ says;
      }

  -- The same for a list of files that a call has written back with the same length.
  pub kept_back : (image image' : A) (files now : List A) (n : ℕ) → length now ≡ n → Pairs UnchangedButMoreFaults (state image ∷ map state files) (state image' ∷ map state now) →
      IsKeptImage state extents (image, files) (image', take n (now ++ drop (length now) files))
  kept_back image image' files now n many kept =
      let back : take n (now ++ drop (length now) files) ≡ now = written_back n now files many in
      subst (λ (fs : List A). IsKeptImage state extents (image, files) (image', fs)) (sym back) (kept_image image image' files now kept)

pub ok_whole : {T : Type 0} (r : Result T Fault) → IsOk r → HadNoResourceError r
ok_whole (Ok v) is = tt
ok_whole (Err e) is = absurd (cc is)

-- ---- Lookups.

within_reach : (unit end place n : ℕ) → 0 < unit → round_up unit end < 2 ^ 64 → place + n ≤ end → Overflows unit place n → ⊥
within_reach unit end place n some reach low over = let rounds = round_up-le unit (place + n) end some low in omega (arith, rounds, reach, over.1)

below_end : (unit end : ℕ) → 0 < unit → round_up unit end < 2 ^ 64 → end < 2 ^ 64
below_end unit end some reach = omega (arith, le_round_up unit end some, reach)

module _ (extents : List (Extent (String Global))) (image : StorageState) (files : List StorageState) (offset asked start k sectors n : ℕ)
    (low : start ≤ offset) (high : offset < start + 512 * sectors) (short : n ≤ 512 * sectors - (offset - start))
    (unit_some : 0 < unit_of_layer (vmdk_layer extents image files)) where
  abbrev here : Layer
  here = vmdk_layer extents image files

  abbrev within : ℕ
  within = offset - start

  -- The values of a run, from those of its extent.
  places : (value : ℕ → Cell) → ((q : ℕ) → q < 512 * sectors → in_extents (byte_in (image ∷ files)) extents 1 (start + q) ≡ value q) →
      EachIs here.cell offset n (λ i. value (offset - start + i))
  places value shows i below =
      let q : offset + i ≡ start + (offset - start + i) = omega arith in
      let inside : offset - start + i < 512 * sectors = omega arith in
      ap (λ p. in_extents (byte_in (image ∷ files)) extents 1 p) q ∙ shows (offset - start + i) inside

  -- An extent with a file.
  in_flat : (sector : ℕ) → round_up (unit_of_layer here) (512 * (sector + sectors)) < 2 ^ 64 →
      ((q : ℕ) → q < 512 * sectors → in_extents (byte_in (image ∷ files)) extents 1 (start + q) ≡ own (byte (byte_in (image ∷ files) k (512 * sector + q)))) →
      Looks here (byte_in (image ∷ files)) offset asked (shallow.Raw k (min (min (512 * sector) (2 ^ 64 - 1) + (offset - start)) (2 ^ 64 - 1)) false) n
  in_flat sector reach shows =
      let ends : 512 * (sector + sectors) < 2 ^ 64 = below_end (unit_of_layer here) (512 * (sector + sectors)) unit_some reach in
      let place : min (min (512 * sector) (2 ^ 64 - 1) + (offset - start)) (2 ^ 64 - 1) ≡ 512 * sector + (offset - start) = omega arith in
      rw place (record {
        names = (
          λ i below. places (λ q. own (byte (byte_in (image ∷ files) k (512 * sector + q)))) shows i below
              ∙ ap (λ p. own (byte (byte_in (image ∷ files) k p))) (regroup (512 * sector) (offset - start) i),
          (λ w. never w),
          λ w. never w,
        );
        reach = λ over. absurd (within_reach (unit_of_layer here) (512 * (sector + sectors)) (512 * sector + (offset - start)) n unit_some reach (omega arith) over);
        writable_location = λ free some storage at is. absurd (cc is);
      })
    where
      regroup : (a b i : ℕ) → a + (b + i) ≡ a + b + i
      regroup a b i = omega arith

  in_zero : ((q : ℕ) → q < 512 * sectors → in_extents (byte_in (image ∷ files)) extents 1 (start + q) ≡ own (byte 0)) →
      Looks here (byte_in (image ∷ files)) offset asked (shallow.Zero true) n
  in_zero shows = record { names = (λ i below. places (λ q. own (byte 0)) shows i below, λ is. absurd (cc is)); reach = tt; writable_location = λ free some storage at is. absurd (cc is) }

  in_barred : ((q : ℕ) → q < 512 * sectors → in_extents (byte_in (image ∷ files)) extents 1 (start + q) ≡ own barred) →
      Looks here (byte_in (image ∷ files)) offset asked (shallow.Special offset) n
  in_barred shows = record { names = (λ i below. places (λ q. own barred) shows i below, refl); reach = tt; writable_location = λ free some storage at is. absurd (cc is) }

  -- The result of a lookup.
  looks_in : (a : Access) (s : Source (String Global)) → round_up (unit_of_layer here) (end_in_file a s sectors) < 2 ^ 64 →
      ((q : ℕ) → q < 512 * sectors → in_extents (byte_in (image ∷ files)) extents 1 (start + q) ≡ in_source a s (byte_in (image ∷ files) k) q) →
      Looks here (byte_in (image ∷ files)) offset asked (mapping_of a s k offset (offset - start)) n
  looks_in NoAccess s reach shows = in_barred shows
  looks_in ReadWrite (Flat name sector) reach shows = in_flat sector reach shows
  looks_in ReadWrite Zero reach shows = in_zero shows
  looks_in ReadOnly (Flat name sector) reach shows = in_flat sector reach shows
  looks_in ReadOnly Zero reach shows = in_zero shows

-- A lookup returns one of the `count` storages.
pub names_one : (a : Access) (s : Source (String Global)) (k offset far count : ℕ) → (IsTrue (asks_file a s) → k < count) →
    IsOneOf count (mapping_of a s k offset far)
names_one NoAccess s k offset far count low = tt
names_one ReadWrite (Flat name sector) k offset far count low = low refl
names_one ReadWrite Zero k offset far count low = tt
names_one ReadOnly (Flat name sector) k offset far count low = low refl
names_one ReadOnly Zero k offset far count low = tt

-- No file is missing.
pub all_open : (n asked : ℕ) → (if ltb n asked then Some MissingData else None) ≡ None → asked ≤ n
all_open n asked runs = by_test (ltb n asked) refl runs
  where
    by_test : (t : Bool) → ltb n asked ≡ t → (if t then Some MissingData else None) ≡ None → asked ≤ n
    by_test true e is = absurd (cc is)
    by_test false e is = ltb-false n asked e

pub looks_at : (extents : List (Extent (String Global))) (image : StorageState) (files : List StorageState) (offset asked n : ℕ) (x : Extent (String Global)) (start k : ℕ) →
    IsExtentAt extents offset x start k → 0 < unit_of_layer (vmdk_layer extents image files) → AreInReach (unit_of_layer (vmdk_layer extents image files)) extents →
    n ≤ 512 * x.sectors - (offset - start) → Looks (vmdk_layer extents image files) (byte_in (image ∷ files)) offset asked (mapping_of x.access x.source k offset (offset - start)) n
looks_at extents image files offset asked n x start k at some reach short =
    looks_in extents image files offset asked start k x.sectors n at.low at.high short some x.access x.source (at.reach _ reach) (at.shows (byte_in (image ∷ files)))

-- The explicit zeroes of a run.
module _ (extents : List (Extent (String Global))) (offset start k sectors n : ℕ) (low : start ≤ offset) (high : offset < start + 512 * sectors) (short : n ≤ 512 * sectors - (offset - start)) where
  shown : (a : Access) (s : Source (String Global)) → ((files : ℕ → ℕ → ℕ) (q : ℕ) → q < 512 * sectors → in_extents files extents 1 (start + q) ≡ in_source a s (files k) q) →
      (files : ℕ → ℕ → ℕ) (i : ℕ) → i < n → in_extents files extents 1 (offset + i) ≡ in_source a s (files k) (offset - start + i)
  shown a s shows files i below =
      let q : offset + i ≡ start + (offset - start + i) = omega arith in
      ap (λ p. in_extents files extents 1 p) q ∙ shows files (offset - start + i) (omega arith)

  states_in : (a : Access) (s : Source (String Global)) → ((files : ℕ → ℕ → ℕ) (q : ℕ) → q < 512 * sectors → in_extents files extents 1 (start + q) ≡ in_source a s (files k) q) →
      ReportsExplicitZero (IsZeroByDescriptor extents) offset (mapping_of a s k offset (offset - start), n)
  states_in NoAccess s shows = λ i below explicit_zero. cc (sym (shown NoAccess s shows (λ k p. 1) i below) ∙ explicit_zero (λ k p. 1))
  states_in ReadWrite (Flat name sector) shows = λ i below explicit_zero. cc (sym (shown ReadWrite (Flat name sector) shows (λ k p. 1) i below) ∙ explicit_zero (λ k p. 1))
  states_in ReadWrite Zero shows = λ i below files. shown ReadWrite Zero shows files i below
  states_in ReadOnly (Flat name sector) shows = λ i below explicit_zero. cc (sym (shown ReadOnly (Flat name sector) shows (λ k p. 1) i below) ∙ explicit_zero (λ k p. 1))
  states_in ReadOnly Zero shows = λ i below files. shown ReadOnly Zero shows files i below

pub states_at : (extents : List (Extent (String Global))) (offset n : ℕ) (x : Extent (String Global)) (start k : ℕ) → IsExtentAt extents offset x start k → n ≤ 512 * x.sectors - (offset - start) →
    ReportsExplicitZero (IsZeroByDescriptor extents) offset (mapping_of x.access x.source k offset (offset - start), n)
states_at extents offset n x start k at short = states_in extents offset start k x.sectors n at.low at.high short x.access x.source at.shows

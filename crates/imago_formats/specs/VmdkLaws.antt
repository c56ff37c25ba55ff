-- Laws on every VMDK image.
use Rattle.std.proofs.Common.{◌-◌, ◌≡◌, ℕ, ◌+◌, ◌*◌, ◌∙◌, refl, sym, ap}
use Rattle.std.specs.Prelude.{Bool, true, false, cond, ltb, map, Option, Some, None, List, [], ◌∷◌, Ok, ⊤}
use Rattle.std.proofs.Math.Nat.{le_refl}
use Rattle.imago_storage.specs.State.{StorageState, IsAlignment, IsAligned}
use Rattle.imago_access.specs.Files.{UnchangedButMoreFaults, byte_in, greatest}
use Rattle.imago_access.specs.Stops.{IsCovered, IsMeant}
use Rattle.imago_access.proofs.Units.{alignment_max}
use Rattle.std.specs.declared.string.String.{String}
use Rattle.std.specs.declared.alloc.Global.{Global}
use Rattle.imago_formats.specs.Descriptor.{descriptor_of, size_of}
use Rattle.imago_formats.specs.DescriptorView.{kept_extent, kept_extents, source_with}
use Rattle.imago_formats.specs.VmdkLayer.{asks_file, in_source, in_extents, vmdk_layer}
use Rattle.std.specs.String.{string_bytes}
use Rattle.imago_formats.specs.declared.vmdk.descriptor.Access.{Access}
use Rattle.imago_formats.specs.declared.vmdk.descriptor.Access.TheVariants.{ReadWrite, ReadOnly, NoAccess}
use Rattle.imago_formats.specs.declared.vmdk.descriptor.Source.{Source}
use Rattle.imago_formats.specs.declared.vmdk.descriptor.Source.TheVariants.{Flat, Zero}
use Rattle.imago_formats.specs.declared.vmdk.descriptor.Extent.{Extent}
use Rattle.std.specs.List.{sum_by}
use Rattle.std.proofs.lemmas.List.Sums.{sum_by-cons}

-- The size doesn't depend on how file names are stored.
pub size_kept : (xs : List (Extent (String Global))) → size_of (kept_extents xs) ≡ size_of xs
size_kept xs = ap (λ n. 512 * n) (sectors_kept xs)
  where
    sectors_kept : (ys : List (Extent (String Global))) → sum_by (λ x. x.sectors) (kept_extents ys) ≡ sum_by (λ x. x.sectors) ys
    sectors_kept [] = refl
    sectors_kept (y ∷ ys) = sum_by-cons (λ x. x.sectors) (kept_extent y) (kept_extents ys) ∙ ap (λ n. y.sectors + n) (sectors_kept ys)
        ∙ sym (sum_by-cons (λ x. x.sectors) y ys)

-- No byte has a writable location.
pub no_home : (p q : ℕ) (at : ℕ × ℕ) → ◌≡◌ {A = Option (ℕ × ℕ)} None (Some at) → ◌≡◌ {A = Option (ℕ × ℕ)} None (Some at) → p ≡ q
no_home p q at first second = absurd (cc first)

aligned_of : {A : Type 0} (state : A → StorageState) (measure : StorageState → ℕ) → ((x : A) → IsAlignment (measure (state x))) →
    (s : A) (xs : List A) → IsAlignment (greatest measure (state s) (map state xs))
aligned_of state measure each s [] = each s
aligned_of state measure each s (x ∷ xs) =
    alignment_max (measure (state s)) (greatest measure (state x) (map state xs)) (each s) (aligned_of state measure each x xs)

-- The greatest alignments are valid alignments.
pub aligned_files : {A : Type 0} (state : A → StorageState) → ((x : A) → IsAligned (state x).shape) → (s : A) (xs : List A) →
    IsAlignment (greatest (λ t. t.shape.req_align) (state s) (map state xs))
    × IsAlignment (greatest (λ t. t.shape.mem_align) (state s) (map state xs))
aligned_files state aligned s xs = (
  aligned_of state (λ t. t.shape.req_align) (λ x. (aligned x).requests) s xs,
  aligned_of state (λ t. t.shape.mem_align) (λ x. (aligned x).memory) s xs,
)

-- The descriptor states the size of the disk.
pub covered : (extents : List (Extent (String Global))) (image : StorageState) (files : List StorageState) →
    descriptor_of image.bytes ≡ Ok (kept_extents extents) → IsCovered (vmdk_layer extents image files) (λ kind f. ⊤) image.bytes
covered extents image files said = record { is_sound = tt; size = rw said (rw (size_kept extents) (le_refl (size_of extents))) }

-- The stored extents have the same contents as the parsed ones.
cells_kept : (files : ℕ → ℕ → ℕ) (xs : List (Extent (String Global))) (k p : ℕ) →
    in_extents files (kept_extents xs) k p ≡ in_extents files xs k p
cells_kept files [] k p = refl
cells_kept files (x ∷ xs) k p = by_access x.access x.source (ltb p (512 * x.sectors)) (λ n. cells_kept files xs n (p - 512 * x.sectors))
  where
    by_access : (a : Access) (s : Source (String Global)) (t : Bool) →
        ((n : ℕ) → in_extents files (kept_extents xs) n (p - 512 * x.sectors) ≡ in_extents files xs n (p - 512 * x.sectors)) →
        cond t (in_source a (source_with (λ name. string_bytes name) s) (files k) p)
        (in_extents files (kept_extents xs) (cond (asks_file a (source_with (λ name. string_bytes name) s)) (k + 1) k)
        (p - 512 * x.sectors))
        ≡ cond t (in_source a s (files k) p) (in_extents files xs (cond (asks_file a s) (k + 1) k) (p - 512 * x.sectors))
    by_access NoAccess s true later = refl
    by_access NoAccess s false later = later k
    by_access ReadWrite (Flat name sector) true later = refl
    by_access ReadWrite (Flat name sector) false later = later (k + 1)
    by_access ReadWrite Zero true later = refl
    by_access ReadWrite Zero false later = later k
    by_access ReadOnly (Flat name sector) true later = refl
    by_access ReadOnly (Flat name sector) false later = later (k + 1)
    by_access ReadOnly Zero true later = refl
    by_access ReadOnly Zero false later = later k

-- The file, as a descriptor, means the disk.
pub written : (extents : List (Extent (String Global))) (image : StorageState) (files : List StorageState) →
    descriptor_of image.bytes ≡ Ok (kept_extents extents) → IsMeant (vmdk_layer extents image files) image.bytes
written extents image files said = record {
  size = rw said (rw (size_kept extents) (le_refl (size_of extents)));
  exactly = λ exact. rw said (size_kept extents);
  cell = λ p low. rw said (cells_kept (byte_in (image ∷ files)) extents 1 p);
}

-- The disk has the size that the descriptor states.
pub as_stated : (extents : List (Extent (String Global))) (image : StorageState) (files : List StorageState) →
    descriptor_of image.bytes ≡ Ok (kept_extents extents) →
    (vmdk_layer extents image files).size ≡ ((vmdk_layer extents image files).fixed.means image.bytes).size
as_stated extents image files said = sym ((written extents image files said).exactly refl)

-- The descriptor is unchanged by requests that only change fault counts.
pub said_still : (before image : StorageState) (extents : List (Extent (String Global))) → UnchangedButMoreFaults before image →
    descriptor_of before.bytes ≡ Ok (kept_extents extents) → descriptor_of image.bytes ≡ Ok (kept_extents extents)
said_still before image extents kept said = ap descriptor_of kept.0.bytes ∙ said

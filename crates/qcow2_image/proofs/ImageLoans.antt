-- Lemmas on borrows of the image file and of the free space.
use Rattle.std.proofs.Common.{◌≡◌, ap, ◌∙◌, Option}
use Rattle.std.proofs.Props.{props}
use Rattle.imago_storage.specs.declared.storage.Storage.{Ghosts}
use Rattle.qcow2_alloc.specs.Caches.{cached_in}
use Rattle.qcow2_alloc.specs.Memory.{Cached}
use Rattle.qcow2_alloc.specs.declared.cache.MetadataCaches.{MetadataCaches}
use Rattle.qcow2_image.specs.Caching.{IsClean, IsUnpinned}
use Rattle.qcow2_clusters.specs.declared.space.Space.{Space}
use Rattle.qcow2_image.specs.declared.qcow2.Qcow2.{Qcow2}
use Rattle.qcow2_image.specs.declared.tables.Tables.{Tables}
use Rattle.qcow2_image.specs.Seen.{with_image}

clean-prop : (c : Cached) → IsProp (IsClean c)
clean-prop c = Prim.hlevel props

loose-prop : {S : Type 0} (c : MetadataCaches S) → IsProp (IsUnpinned c)
loose-prop c = Prim.hlevel props

-- After the borrow nothing that is cached is dirty or pinned.
pub image-lent : {S : Type 0} {g : Ghosts S} (d : Qcow2 S g) (w : S) (k : IsClean (cached_in d.tables.caches)) (l : IsUnpinned d.tables.caches)
    → record d { tables = record d.tables { file = record d.tables.file { image = w }; clean = k; unpinned = l } } ≡ with_image d w
image-lent d w k l =
    ap (λ x. record d { tables = record d.tables { file = record d.tables.file { image = w }; clean = x; unpinned = l } }) (clean-prop (cached_in d.tables.caches) k d.tables.clean)
    ∙ ap (λ x. record d { tables = record d.tables { file = record d.tables.file { image = w }; unpinned = x } }) (loose-prop d.tables.caches l d.tables.unpinned)

-- A borrow that doesn't change the free space doesn't change the tables.
pub space-lent : {S : Type 0} {g : Ghosts S} (t : Tables S g) (space : Option Space) (k : IsClean (cached_in t.caches)) (l : IsUnpinned t.caches)
    → space ≡ t.space → record t { space = space; clean = k; unpinned = l } ≡ t
space-lent t space k l same =
    ap (λ x. record t { space = x; clean = k; unpinned = l }) same
    ∙ ap (λ x. record t { clean = x; unpinned = l }) (clean-prop (cached_in t.caches) k t.clean)
    ∙ ap (λ x. record t { unpinned = x }) (loose-prop t.caches l t.unpinned)

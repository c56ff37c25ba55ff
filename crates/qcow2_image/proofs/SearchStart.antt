-- Lemmas that no cluster is free before the one where the search for free clusters starts.
use Rattle.std.proofs.Common.{◌≡◌, ℕ, ◌<◌, refl, arith, ap, sym, subst, Bool, Option, Some, None}
use Rattle.imago_storage.specs.State.{StorageState}
use Rattle.imago_storage.specs.declared.storage.Storage.{Ghosts}
use Rattle.qcow2_types.specs.Bytes.{Bytes}
use Rattle.qcow2_types.specs.Counts.{count}
use Rattle.qcow2_types.specs.Header.{Fields}
use Rattle.qcow2_alloc.specs.Allocators.{first_free_of}
use Rattle.qcow2_alloc.specs.Freeing.{NoneFreeBefore}
use Rattle.qcow2_alloc.specs.GuestView.{in_memory}
use Rattle.qcow2_clusters.specs.declared.space.Space.{Space}
use Rattle.qcow2_clusters.proofs.TableNames.{resting-memory}
use Rattle.qcow2_image.specs.Opening.{IsSpaceOpened}
use Rattle.qcow2_image.specs.Rooms.{AreCountedBefore, rest_of, searched_from}
use Rattle.qcow2_image.specs.Seen.{file_of}
use Rattle.qcow2_image.specs.declared.tables.Tables.{Tables}

module _ {S : Type 0} (g : Ghosts S) where
  -- The refcounts of the file are those of the flushed metadata.
  module _ (t : Tables S g) (free : Space) (there : t.space ≡ Some free) where
    counts-same : (c : ℕ) → count (file_of g t) t.file.header.fields c ≡ count (in_memory (rest_of g t free)) t.file.header.fields c
    counts-same c = ap (λ (f : Bytes). count f t.file.header.fields c) (sym (resting-memory (rest_of g t free) refl))

    pub counted-at-rest : AreCountedBefore g t → NoneFreeBefore (rest_of g t free) (first_free_of free.allocator)
    counted-at-rest counted c below =
        subst (λ n. 0 < n) (counts-same c) (counted c (subst (λ o. c < searched_from o) (sym there) below))

    pub counted-in-file : NoneFreeBefore (rest_of g t free) (first_free_of free.allocator) → AreCountedBefore g t
    counted-in-file marked c below =
        subst (λ n. 0 < n) (sym (counts-same c)) (marked c (subst (λ o. c < searched_from o) there below))

  -- With the same refcounts and start the statement stays true.
  pub counted-still : (old new : Tables S g)
      → ((c : ℕ) → count (file_of g new) new.file.header.fields c ≡ count (file_of g old) old.file.header.fields c)
      → searched_from new.space ≡ searched_from old.space → AreCountedBefore g old → AreCountedBefore g new
  counted-still old new same from counted c below =
      subst (λ n. 0 < n) (sym (same c)) (counted c (omega (arith, below, from)))

  pub counted-same : (old new : Tables S g) → file_of g new ≡ file_of g old → new.file.header ≡ old.file.header
      → searched_from new.space ≡ searched_from old.space → AreCountedBefore g old → AreCountedBefore g new
  counted-same old new file header from =
      counted-still old new (λ c i. count (file i) (header i).fields c) from

  pub counted-first : (t : Tables S g) → searched_from t.space ≡ 0 → AreCountedBefore g t
  counted-first t first c below = absurd (omega (arith, below, first))

-- After opening the search starts at cluster 0.
pub opened-first : (s : StorageState) (h : Fields) (writable : Bool) (o : Option Space) → IsSpaceOpened s h writable o
    → searched_from o ≡ 0
opened-first s h writable None opened = refl
opened-first s h writable (Some free) opened = opened.loads.ok.2

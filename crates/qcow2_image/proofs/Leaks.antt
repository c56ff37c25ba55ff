-- Lemmas on the leaks of an image after calls.
use Rattle.std.proofs.Common.{◌≡◌, ℕ, ◌+◌, arith, ap, sym, ◌∙◌, [], Option, Some, None}
use Rattle.imago_storage.specs.State.{StorageState}
use Rattle.imago_storage.specs.Calls.{UnchangedButFaults}
use Rattle.imago_storage.specs.declared.storage.Storage.{Ghosts}
use Rattle.imago_access.specs.Changes.{Asked}
use Rattle.imago_access.specs.declared.mapping.PreparedDataMapping.{PreparedDataMapping}
use Rattle.qcow2_types.specs.Bytes.{Bytes, bytes_of}
use Rattle.qcow2_types.specs.Counts.{count}
use Rattle.qcow2_types.specs.References.{refs}
use Rattle.qcow2_alloc.specs.FreeList.{listed}
use Rattle.qcow2_alloc.specs.GuestView.{counted, referenced}
use Rattle.qcow2_clusters.specs.Progress.{Kind, Progresses}
use Rattle.qcow2_clusters.specs.declared.space.Space.{Space}
use Rattle.qcow2_image.specs.Holding.{PreparedMappingRun, Notes}
use Rattle.qcow2_image.specs.Leaking.{KeepsLeaks, KeepsLeaksBut, counts_in, names_in, pending, reserved_as, reserved_in, waiting_in}
use Rattle.qcow2_image.specs.Preparing.{KeepsMapping}
use Rattle.qcow2_image.specs.Rooms.{IsWellFormed, rest_of}
use Rattle.qcow2_image.specs.Seen.{file_of}
use Rattle.qcow2_image.specs.Unspent.{holding_in}
use Rattle.qcow2_image.specs.declared.mappings.Reserved.{Reserved}
use Rattle.qcow2_image.specs.declared.qcow2.PreparedMappingState.{PreparedMappingState}
use Rattle.qcow2_image.specs.declared.qcow2.Qcow2.{Qcow2}
use Rattle.qcow2_image.specs.declared.tables.Tables.{Tables}
use Rattle.qcow2_image.proofs.DiskEffects.{rest-memory, safe-sound}
use Rattle.qcow2_image.proofs.LeaksByFile.{leaks-same}

-- A note of a write doesn't change what is reserved.
pub noted-reserved : (at n : ℕ) (old new : Option PreparedMappingRun) → Notes at n old new → (c : ℕ) → reserved_in new c ≡ reserved_in old c
noted-reserved at n None new notes c = ap (λ o. reserved_in o c) notes
noted-reserved at n (Some hold) new notes c = ap (λ o. reserved_in o c) notes.1

module _ {S : Type 0} (g : Ghosts S) where
  pub leaks-both : (a b c : Qcow2 S g) → KeepsLeaks g a b → KeepsLeaks g b c → KeepsLeaks g a c
  leaks-both a b c first second d = let one = first d in let two = second d in omega (arith, one, two)

  pub leaks-then : (reserved : ℕ → ℕ) (a b c : Qcow2 S g) → KeepsLeaks g a b → KeepsLeaksBut g reserved b c → KeepsLeaksBut g reserved a c
  leaks-then reserved a b c first second d = let one = first d in let two = second d in omega (arith, one, two)

  pub leaks-but : (old new : Qcow2 S g) → KeepsLeaks g old new → KeepsLeaksBut g (λ c. 0) old new
  leaks-but old new keeps c = let one = keeps c in omega (arith, one)

  pub leaks-all : (old new : Qcow2 S g) → KeepsLeaksBut g (λ c. 0) old new → KeepsLeaks g old new
  leaks-all old new keeps c = let one = keeps c in omega (arith, one)

  pub leaks-idle : (old new : Qcow2 S g) → new ≡ old → KeepsLeaks g old new
  leaks-idle old new is c =
      ap (λ (d : Qcow2 S g). counts_in g d c + names_in g old c + pending g old c) is
      ∙ sym (ap (λ (d : Qcow2 S g). counts_in g old c + names_in g d c + pending g d c) is)

  -- A request that changes no byte keeps the leaks.
  pub leaks-asked : (old new : Qcow2 S g) (s' : StorageState) → UnchangedButFaults (g.state old.tables.file.image) s' → g.state new.tables.file.image ≡ s'
      → new.tables.file.header ≡ old.tables.file.header → new.tables.space ≡ old.tables.space → new.unspent ≡ old.unspent → KeepsLeaks g old new
  leaks-asked old new s' kept state header space unspent =
      leaks-same g old new (ap (λ (s : StorageState). bytes_of s.bytes) state ∙ ap bytes_of kept.bytes) header
      (λ c. λ i. waiting_in (space i) c + reserved_in (holding_in g (unspent i)) c)

  -- Loading the free space keeps the leaks, as its free list is empty.
  pub leaks-loaded : (old new : Qcow2 S g) (space : Space) → old.tables.space ≡ None → new.tables.space ≡ Some space
      → UnchangedButFaults (g.state old.tables.file.image) (g.state new.tables.file.image) → new.tables.file.header ≡ old.tables.file.header
      → new.unspent ≡ old.unspent → space.to_free.entries ≡ [] → KeepsLeaks g old new
  leaks-loaded old new space none there kept header unspent empty =
      leaks-same g old new (ap bytes_of kept.bytes) header (λ c.
      let before : waiting_in old.tables.space c ≡ 0 = ap (λ o. waiting_in o c) none in
      let after : waiting_in new.tables.space c ≡ 0 = ap (λ o. waiting_in o c) there ∙ ap (λ es. listed es c) empty in
      let held : reserved_in (holding_in g new.unspent) c ≡ reserved_in (holding_in g old.unspent) c = ap (λ u. reserved_in (holding_in g u) c) unspent in
      omega (arith, before, after, held))

  -- A change of clusters leaks what it allocates and doesn't link.
  module _ (old new : Qcow2 S g) (space space' : Space) (there : old.tables.space ≡ Some space) (there' : new.tables.space ≡ Some space') where
    abbrev now : Bytes
    now = file_of g new.tables

    abbrev was : Bytes
    was = file_of g old.tables

    waits-old : (c : ℕ) → waiting_in old.tables.space c ≡ listed space.to_free.entries c
    waits-old c = ap (λ o. waiting_in o c) there

    waits-new : (c : ℕ) → waiting_in new.tables.space c ≡ listed space'.to_free.entries c
    waits-new c = ap (λ o. waiting_in o c) there'

    pub advanced-leaks : (ok : Type 0) (kind : Kind) (reserved : ℕ → ℕ) → new.unspent ≡ old.unspent
        → ((c : ℕ) → kind.excess_added c ≡ kind.taken c + reserved c)
        → Progresses ok kind (g.state old.tables.file.image) (rest_of g old.tables space) (g.state new.tables.file.image) (rest_of g new.tables space')
        → IsWellFormed g old → ok → KeepsLeaksBut g reserved old new
    advanced-leaks ok kind reserved unspent given progress well_formed whole c =
        let law = (progress.holds well_formed.keeps (safe-sound g old space there well_formed) whole).law c in
        let h = old.tables.file.header.fields in
        let h' = new.tables.file.header.fields in
        let counts : counted (rest_of g old.tables space) c ≡ count was h c = ap (λ (b : Bytes). count b h c) (rest-memory g old.tables space) in
        let counts' : counted (rest_of g new.tables space') c ≡ count now h' c = ap (λ (b : Bytes). count b h' c) (rest-memory g new.tables space') in
        let names : referenced (rest_of g old.tables space) c ≡ refs was h c = ap (λ (b : Bytes). refs b h c) (rest-memory g old.tables space) in
        let names' : referenced (rest_of g new.tables space') c ≡ refs now h' c = ap (λ (b : Bytes). refs b h' c) (rest-memory g new.tables space') in
        let waits = waits-old c in
        let waits' = waits-new c in
        let held : reserved_in (holding_in g new.unspent) c ≡ reserved_in (holding_in g old.unspent) c = ap (λ u. reserved_in (holding_in g u) c) unspent in
        let more = given c in
        omega (arith, law, counts, counts', names, names', waits, waits', held, more)

  -- The reserved clusters are held by the prepared mapping.
  pub held-leaks : (asked : Asked) (clusters : Reserved) (old new : Qcow2 S g) (mapping : PreparedDataMapping PreparedMappingState)
      → KeepsMapping g asked clusters old mapping new → old.unspent ≡ None → (c : ℕ)
      → (counts_in g new c ≡ counts_in g old c) × (names_in g new c ≡ names_in g old c)
      × (pending g new c ≡ pending g old c + reserved_as clusters.is_kept clusters.host clusters.count c)
  held-leaks asked clusters old new mapping holds free c =
      let tables : new.tables ≡ old.tables = ap (λ (d : Qcow2 S g). d.tables) holds.now in
      let held : reserved_in (holding_in g new.unspent) c ≡ reserved_as clusters.is_kept clusters.host clusters.count c =
      ap (λ (d : Qcow2 S g). reserved_in (holding_in g d.unspent) c) holds.now ∙ ap (λ (h : PreparedMappingRun). reserved_in (Some h) c) holds.holds in
      let none : reserved_in (holding_in g old.unspent) c ≡ 0 = ap (λ u. reserved_in (holding_in g u) c) free in
      let waits : waiting_in new.tables.space c ≡ waiting_in old.tables.space c = ap (λ (t : Tables S g). waiting_in t.space c) tables in (
        ap (λ (t : Tables S g). count (file_of g t) t.file.header.fields c) tables,
        ap (λ (t : Tables S g). refs (file_of g t) t.file.header.fields c) tables,
        omega (arith, held, none, waits),
      )

  pub leaks-held : (asked : Asked) (clusters : Reserved) (old mid new : Qcow2 S g) (mapping : PreparedDataMapping PreparedMappingState)
      → KeepsLeaksBut g (reserved_as clusters.is_kept clusters.host clusters.count) old mid → KeepsMapping g asked clusters mid mapping new → mid.unspent ≡ None
      → KeepsLeaks g old new
  leaks-held asked clusters old mid new mapping but holds free c =
      let one = but c in
      let two = held-leaks asked clusters mid new mapping holds free c in
      let counts = two.0 in
      let names = two.1 in
      let more = two.2 in
      omega (arith, one, counts, names, more)

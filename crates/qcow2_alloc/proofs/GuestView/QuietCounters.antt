-- Decrementing counters for the free list, and incrementing counters for allocations.
use Rattle.std.proofs.Common.{◌≡◌, ◌≢◌, ℕ, ◌+◌, ◌≤◌, ◌<◌, refl, arith, sym, subst, ◌∙◌, List, inl, inr}
use Rattle.std.specs.Prelude.{◌⊎◌}
use Rattle.std.proofs.lemmas.Bool.{cases_eq}
use Rattle.std.proofs.lemmas.Bool.Decides.{nat_tests}
use Rattle.qcow2_types.specs.Bytes.{Bytes}
use Rattle.qcow2_types.specs.Header.{Fields}
use Rattle.qcow2_types.specs.Pending.{FreeEntry}
use Rattle.qcow2_types.specs.Versions.{references_in_either, SamePlaces}
use Rattle.qcow2_types.proofs.Counting.Either.{refs-cached}
use Rattle.qcow2_alloc.specs.declared.cache.CacheDependency.{CacheDependency}
use Rattle.qcow2_alloc.specs.declared.cache.CacheDependency.TheVariants.{Unset, L2DependsOnRb, RbDependsOnL2}
use Rattle.qcow2_alloc.specs.Changes.{SetsCounter, CounterChanged, IsStillCovered}
use Rattle.qcow2_alloc.specs.FreeList.{listed}
use Rattle.qcow2_alloc.specs.Memory.{Cached}
use Rattle.qcow2_alloc.specs.WellFormedness.{WellFormed}
use Rattle.qcow2_alloc.specs.GuestView.{Metadata, metadata_in, in_memory, counted, referenced, referenced_at_all, waiting, waiting_metadata, one_at, IsSound, GuestUnchanged, many_at}
use Rattle.qcow2_alloc.proofs.Memory.CounterChanges.{counter-raised, counter-lowered, counter-lowered-to}
use Rattle.qcow2_alloc.proofs.Memory.MemoryWords.{places-in-memory}
use Rattle.qcow2_alloc.proofs.GuestView.ShownDisks.{file-shows}

-- A counter changes together with the free list.
module _ (m : Metadata) (c n : ℕ) (cached' : Cached) (pending' : List FreeEntry) (handed taken : ℕ → ℕ) (sound : IsSound m) (changed : CounterChanged m.file m.header m.order m.cached c n cached')
    (here : n + waiting m c + taken c ≡ counted m c + listed pending' c + handed c) (others : (d : ℕ) → d ≢ c → waiting m d + taken d ≡ listed pending' d + handed d)
    (covers : referenced m c + listed pending' c ≤ n) (fewer : (d : ℕ) → listed pending' d ≤ waiting m d) (metadata : (d : ℕ) → listed (metadata_in pending') d ≤ waiting_metadata m d) where
  abbrev m' : Metadata
  m' = record m { cached = cached'; pending = pending' }

  covered-still : (d : ℕ) → referenced m' d + listed pending' d ≤ counted m' d
  covered-still d =
      let same = changed.written.block.references d in
      elim (cases_eq d c) [
        | inl e ↦ subst (λ k. referenced m' k + listed pending' k ≤ counted m' k) (sym e) (let own = changed.written.block.references c in omega (arith, covers, own, changed.written.here))
        | inr apart ↦ let was = sound.covered d in omega (arith, same, was, fewer d, changed.written.others d apart)
      ]

  counts-changed : (d : ℕ) → counted m' d + referenced m d + waiting m d + taken d ≡ counted m d + referenced m' d + listed pending' d + handed d
  counts-changed d =
      let same = changed.written.block.references d in
      elim (cases_eq d c) [
        | inl e ↦ subst (λ k. counted m' k + referenced m k + waiting m k + taken k ≡ counted m k + referenced m' k + listed pending' k + handed k) (sym e)
            (let own = changed.written.block.references c in omega (arith, here, own, changed.written.here))
        | inr apart ↦ omega (arith, same, others d apart, changed.written.others d apart)
      ]

  counter-sound : IsSound m'
  counter-sound = record {
    well_formed = changed.well_formed;
    table = sound.table;
    covered = covered-still;
    not_referenced = λ d some. let none = sound.not_referenced d (omega (arith, some, metadata d)) in let same = changed.names d in omega (arith, none, same);
  }

  pub counter-quiet : IsSound m' × GuestUnchanged handed taken m m'
  counter-quiet = (
    counter-sound,
    record {
      shows = file-shows m sound;
      raw_entries = λ i j live. changed.written.block.keeps.slots i j (record {
        in_l1 = live.in_l1;
        is_there = (λ none. live.is_there (sym (places.l1 i) ∙ none));
        in_table = live.in_table;
      });
      used_bytes_unchanged = λ d used none k lt. refl;
      apart = λ d used none. used.apart;
      waits = λ d used none. fewer d;
      law = counts-changed;
    },
  )
    where
      places : SamePlaces m.file (in_memory m) m.header.fields
      places = places-in-memory m.file m.header sound.well_formed.consistent m.cached sound.well_formed.tables sound.well_formed.blocks

pub here-one : (c : ℕ) → one_at c c ≡ 1
here-one c = grind (arith, nat_tests)

pub away-none : (c d : ℕ) → d ≢ c → one_at c d ≡ 0
away-none c d apart = grind (arith, nat_tests)

-- A decrement for an entry of the free list.
pub lower-quiet : (m : Metadata) (c n : ℕ) (cached' : Cached) (pending' : List FreeEntry) → IsSound m → CounterChanged m.file m.header m.order m.cached c n cached' → counted m c ≡ n + 1
    → ((d : ℕ) → listed pending' d + one_at c d ≡ waiting m d) → ((d : ℕ) → listed (metadata_in pending') d ≤ waiting_metadata m d)
    → IsSound (record m { cached = cached'; pending = pending' }) × GuestUnchanged (λ _. 0) (λ _. 0) m (record m { cached = cached'; pending = pending' })
lower-quiet m c n cached' pending' sound changed more less metadata =
    let own = less c in
    let one = here-one c in
    let was = sound.covered c in
    counter-quiet m c n cached' pending' (λ _. 0) (λ _. 0) sound changed (omega (arith, more, own, one)) (λ d apart. let at = less d in omega (arith, at, away-none c d apart))
    (omega (arith, was, more, own, one)) (λ d. let at = less d in omega (arith, at)) metadata

-- A decrement for an allocated cluster that is neither referenced nor on the free list: the cluster is returned.
pub return-quiet : (m : Metadata) (c n : ℕ) (cached' : Cached) → IsSound m → CounterChanged m.file m.header m.order m.cached c n cached' → counted m c ≡ n + 1 → referenced m c + waiting m c ≤ n
    → IsSound (record m { cached = cached' }) × GuestUnchanged (λ _. 0) (one_at c) m (record m { cached = cached' })
return-quiet m c n cached' sound changed more enough =
    let one = here-one c in
    counter-quiet m c n cached' m.pending (λ _. 0) (one_at c) sound changed (omega (arith, more, one)) (λ d apart. omega (arith, away-none c d apart))
    enough (λ d. omega arith) (λ d. omega arith)

-- An increment for an allocation.
pub raise-quiet : (m : Metadata) (c : ℕ) (cached' : Cached) → IsSound m → CounterChanged m.file m.header m.order m.cached c 1 cached' → counted m c ≡ 0
    → IsSound (record m { cached = cached' }) × GuestUnchanged (one_at c) (λ _. 0) m (record m { cached = cached' })
raise-quiet m c cached' sound changed none =
    let one = here-one c in
    let was = sound.covered c in
    counter-quiet m c 1 cached' m.pending (one_at c) (λ _. 0) sound changed (omega (arith, none, one)) (λ d apart. omega (arith, away-none c d apart))
    (omega (arith, was, none)) (λ d. omega arith) (λ d. omega arith)

-- `IsStillCovered` holds if the lower refcount covers the references in the file and in memory.
covered-by : (o : CacheDependency) (f g : Bytes) (h : Fields) (c n : ℕ) → SamePlaces f g h → references_in_either f g h c ≤ n → IsStillCovered o f g h c n
covered-by Unset f g h c n places enough = enough
covered-by L2DependsOnRb f g h c n places enough = enough
covered-by RbDependsOnL2 f g h c n places enough = let le = refs-cached f g h c places in omega (arith, le, enough)

-- `IsStillCovered` holds if at most `n` references are left, as for metadata on the free list.
pub unnamed-covered : (m : Metadata) (c n : ℕ) → IsSound m → referenced_at_all m c ≤ n → IsStillCovered m.order m.file (in_memory m) m.header.fields c n
unnamed-covered m c n sound enough = covered-by m.order m.file (in_memory m) m.header.fields c n (places-in-memory m.file m.header sound.well_formed.consistent m.cached sound.well_formed.tables sound.well_formed.blocks) enough

pub metadata-covered : (m : Metadata) (c n : ℕ) → IsSound m → 0 < waiting_metadata m c → IsStillCovered m.order m.file (in_memory m) m.header.fields c n
metadata-covered m c n sound some = let none = sound.not_referenced c some in unnamed-covered m c n sound (omega (arith, none))

-- `IsStillCovered` holds for each entry of the free list while tables are written first.
pub waiting-covered : (m : Metadata) (c n : ℕ) → IsSound m → m.order ≡ RbDependsOnL2 → 0 < waiting m c → counted m c ≡ n + 1 → IsStillCovered m.order m.file (in_memory m) m.header.fields c n
waiting-covered m c n sound order some more =
    let was = sound.covered c in
    let enough : referenced m c ≤ n = omega (arith, was, some, more) in
    subst (λ o. IsStillCovered o m.file (in_memory m) m.header.fields c n) (sym order) enough

-- A cluster on the free list is freed: tables are written first, or the cluster was metadata.
pub free-quiet : (m : Metadata) (key c n : ℕ) (cached' : Cached) (pending' : List FreeEntry) → IsSound m → (m.order ≡ RbDependsOnL2) ⊎ (0 < waiting_metadata m c) → SetsCounter m.file m.header.fields m.cached key c n cached' → counted m c ≡ n + 1
    → ((d : ℕ) → listed pending' d + one_at c d ≡ waiting m d) → ((d : ℕ) → listed (metadata_in pending') d ≤ waiting_metadata m d)
    → IsSound (record m { cached = cached'; pending = pending' }) × GuestUnchanged (λ _. 0) (λ _. 0) m (record m { cached = cached'; pending = pending' })
free-quiet m key c n cached' pending' sound why sets more less metadata =
    let own = less c in
    let one = here-one c in
    let covers : IsStillCovered m.order m.file (in_memory m) m.header.fields c n = elim why [ inl order ↦ waiting-covered m c n sound order (omega (arith, own, one)) more | inr some ↦ metadata-covered m c n sound some ] in
    lower-quiet m c n cached' pending' sound (counter-lowered m.file m.header m.cached cached' m.order key c n sound.well_formed sets more covers) more less metadata

-- An allocated, unreferenced cluster is returned.
pub give-back-quiet : (m : Metadata) (key c n : ℕ) (cached' : Cached) → IsSound m → SetsCounter m.file m.header.fields m.cached key c n cached' → counted m c ≡ n + 1 → referenced_at_all m c + waiting m c ≤ n
    → IsSound (record m { cached = cached' }) × GuestUnchanged (λ _. 0) (one_at c) m (record m { cached = cached' })
give-back-quiet m key c n cached' sound sets more enough =
    let places : SamePlaces m.file (in_memory m) m.header.fields = places-in-memory m.file m.header sound.well_formed.consistent m.cached sound.well_formed.tables sound.well_formed.blocks in
    let le = refs-cached m.file (in_memory m) m.header.fields c places in
    let covers : IsStillCovered m.order m.file (in_memory m) m.header.fields c n = unnamed-covered m c n sound (omega (arith, enough)) in
    return-quiet m c n cached' sound (counter-lowered m.file m.header m.cached cached' m.order key c n sound.well_formed sets more covers) more (omega (arith, le, enough))

-- A cluster is allocated while blocks are written first.
pub hand-out-quiet : (m : Metadata) (key c : ℕ) (cached' : Cached) → IsSound m → m.order ≡ L2DependsOnRb → SetsCounter m.file m.header.fields m.cached key c 1 cached' → counted m c ≡ 0
    → IsSound (record m { cached = cached' }) × GuestUnchanged (one_at c) (λ _. 0) m (record m { cached = cached' }) × (referenced_at_all m c ≡ 0)
hand-out-quiet m key c cached' sound order sets none =
    let raised = counter-raised m.file m.header m.cached cached' key c (subst (λ o. WellFormed m.file m.header m.cached o) order sound.well_formed) sets none in
    let guest_unchanged = raise-quiet m c cached' sound (subst (λ o. CounterChanged m.file m.header o m.cached c 1 cached') (sym order) raised.0) none in
    (guest_unchanged.0, guest_unchanged.1, raised.1)

pub here-many : (c by : ℕ) → many_at c by c ≡ by
here-many c by = grind (arith, nat_tests)

pub away-many : (c by d : ℕ) → d ≢ c → many_at c by d ≡ 0
away-many c by d apart = grind (arith, nat_tests)

-- A refcount falls by any number, as long as it covers the references and the free list.
pub leaked-quiet : (m : Metadata) (key c n by : ℕ) (cached' : Cached) → IsSound m → SetsCounter m.file m.header.fields m.cached key c n cached' → counted m c ≡ n + by → referenced_at_all m c + waiting m c ≤ n
    → IsSound (record m { cached = cached' }) × GuestUnchanged (λ _. 0) (many_at c by) m (record m { cached = cached' })
leaked-quiet m key c n by cached' sound sets more enough =
    let places : SamePlaces m.file (in_memory m) m.header.fields = places-in-memory m.file m.header sound.well_formed.consistent m.cached sound.well_formed.tables sound.well_formed.blocks in
    let le = refs-cached m.file (in_memory m) m.header.fields c places in
    let covers : IsStillCovered m.order m.file (in_memory m) m.header.fields c n = unnamed-covered m c n sound (omega (arith, enough)) in
    let changed = counter-lowered-to m.file m.header m.cached cached' m.order key c n sound.well_formed sets (omega (arith, more)) covers in
    let here = here-many c by in
    counter-quiet m c n cached' m.pending (λ _. 0) (many_at c by) sound changed (omega (arith, more, here)) (λ d apart. omega (arith, away-many c by d apart))
    (omega (arith, le, enough)) (λ d. omega arith) (λ d. omega arith)

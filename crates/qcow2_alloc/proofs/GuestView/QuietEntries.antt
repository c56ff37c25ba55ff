-- The metadata entries of the free list. Adding entries to the list leaves the guest unchanged.
use Rattle.std.proofs.Common.{◌≡◌, ℕ, ◌+◌, ◌<◌, ◌≤◌, refl, arith, ap, sym, ◌∙◌, List, [], ◌∷◌, ◌++◌, length, inl, inr}
use Rattle.std.specs.Prelude.{Bool}
use Rattle.std.specs.List.{remove, sum_by}
use Rattle.std.proofs.lemmas.Bool.{cases_Bool, cases_lt}
use Rattle.std.proofs.lemmas.Bool.Decides.{nat_tests}
use Rattle.std.proofs.lemmas.List.Sums.{sum_by_push, sum_by-remove, sum_by-set, sum_by-cons}
use Rattle.qcow2_types.specs.Bytes.{Bytes}
use Rattle.qcow2_types.specs.Header.{Header}
use Rattle.qcow2_types.specs.Pending.{FreeEntry}
use Rattle.qcow2_metadata.specs.Tables.{TableValue}
use Rattle.qcow2_alloc.specs.declared.cache.CacheDependency.{CacheDependency}
use Rattle.qcow2_alloc.specs.FreeList.{entry_at, shorter, tail_of, shortened, covers, listed}
use Rattle.qcow2_alloc.specs.Memory.{Cached}
use Rattle.qcow2_alloc.specs.WellFormedness.{WellFormed}
use Rattle.qcow2_alloc.specs.GuestView.{IsTableOf, Metadata, metadata_in, covers_metadata, counted, referenced, referenced_at_all, waiting, one_at, IsSound, GuestUnchanged}
use Rattle.qcow2_alloc.proofs.Freeing.ClusterOccurrences.{listed_push, covers-parts}
use Rattle.qcow2_alloc.proofs.GuestView.ShownDisks.{file-shows}

listed-metadata : (c : ℕ) (entries : List FreeEntry) → listed (metadata_in entries) c ≡ sum_by (covers_metadata c) entries
listed-metadata c [] = refl
listed-metadata c (e ∷ es) =
    let rest = listed-metadata c es in
    let all = sum_by-cons (covers_metadata c) e es in
    elim (cases_Bool e.metadata) [
      | inl is ↦ let more = sum_by-cons (covers c) e (metadata_in es) in rw is (omega (arith, rest, more)) ∙ sym all
      | inr isnt ↦ rw isnt (omega (arith, rest)) ∙ sym all
    ]

pub metadata-among : (c : ℕ) (entries : List FreeEntry) → listed (metadata_in entries) c ≤ listed entries c
metadata-among c [] = omega arith
metadata-among c (e ∷ es) =
    let rest = metadata-among c es in
    let all = sum_by-cons (covers c) e es in
    elim (cases_Bool e.metadata) [
      | inl is ↦ let more = sum_by-cons (covers c) e (metadata_in es) in rw is (omega (arith, rest, all, more))
      | inr isnt ↦ rw isnt (omega (arith, rest, all))
    ]

pub metadata_push : (entries : List FreeEntry) (e : FreeEntry) (c : ℕ) → listed (metadata_in (entries ++ e ∷ [])) c ≡ listed (metadata_in entries) c + covers_metadata c e
metadata_push entries e c = listed-metadata c (entries ++ e ∷ []) ∙ sum_by_push (covers_metadata c) entries e ∙ ap (λ n. n + covers_metadata c e) (sym (listed-metadata c entries))

pub metadata-remove : (entries : List FreeEntry) (index c : ℕ) → index < length entries → listed (metadata_in (remove entries index)) c + covers_metadata c (entry_at entries index) ≡ listed (metadata_in entries) c
metadata-remove entries index c inside =
    ap (λ n. n + covers_metadata c (entry_at entries index)) (listed-metadata c (remove entries index)) ∙ sum_by-remove (covers_metadata c) entries index _ inside ∙ sym (listed-metadata c entries)

metadata-parts : (e : FreeEntry) (n c : ℕ) → n ≤ e.count → covers_metadata c (shorter e n) + covers_metadata c (tail_of e n) ≡ covers_metadata c e
metadata-parts e n c enough = elim (cases_Bool e.metadata) [
  | inl is ↦ rw is (covers-parts e n c enough)
  | inr isnt ↦ rw isnt refl
]

pub metadata-shortened : (entries : List FreeEntry) (index n c : ℕ) → index < length entries → n ≤ (entry_at entries index).count
    → listed (metadata_in (shortened entries index n)) c + covers_metadata c (tail_of (entry_at entries index) n) ≡ listed (metadata_in entries) c
metadata-shortened entries index n c inside enough =
    let whole = entry_at entries index in
    let set : sum_by (covers_metadata c) (shortened entries index n) + covers_metadata c whole ≡ sum_by (covers_metadata c) entries + covers_metadata c (shorter whole n) = sum_by-set (covers_metadata c) entries index (shorter whole n) _ inside in
    let parts = metadata-parts whole n c enough in
    let old = listed-metadata c entries in
    let new = listed-metadata c (shortened entries index n) in
    omega (arith, set, parts, old, new)

pub covers-more : (c first count : ℕ) (metadata : Bool) → covers c (record { first = first; count = count + 1; metadata = metadata }) ≡ covers c (record { first = first; count = count; metadata = metadata }) + one_at (first + count) c
covers-more c first count metadata = grind (arith, nat_tests)

-- Clusters can be added to the free list if refcounts cover them in addition to the references and the list. Metadata must be unreferenced.
pub push-quiet : (m : Metadata) (e : FreeEntry) → IsSound m → ((c : ℕ) → referenced m c + waiting m c + covers c e ≤ counted m c) → ((c : ℕ) → 0 < covers_metadata c e → referenced_at_all m c ≡ 0)
    → IsSound (record m { pending = m.pending ++ e ∷ [] }) × GuestUnchanged (λ _. 0) (λ c. covers c e) m (record m { pending = m.pending ++ e ∷ [] })
push-quiet m e sound enough not_referenced = (
  record {
    well_formed = sound.well_formed;
    table = sound.table;
    covered = λ c. let more = listed_push m.pending e c in omega (arith, more, enough c);
    not_referenced = λ c some. elim (cases_lt 0 (covers_metadata c e)) [
      | inl new ↦ not_referenced c new
      | inr none ↦ sound.not_referenced c (let more = metadata_push m.pending e c in omega (arith, more, none, some))
    ];
  },
  record {
    shows = file-shows m sound;
    raw_entries = λ i j live. refl;
    used_bytes_unchanged = λ c used none k lt. refl;
    apart = λ c used none. used.apart;
    waits = λ c used none. let more = listed_push m.pending e c in omega (arith, more, none);
    law = λ c. let more = listed_push m.pending e c in omega (arith, more);
  },
)

-- A well-formed image with an empty free list has `IsSound`.
pub safe-sound : (f : Bytes) (H : Header) (cached : Cached) (order : CacheDependency) (table : TableValue) → WellFormed f H cached order → IsTableOf f H.fields table
    → IsSound (record { file = f; header = H; cached = cached; order = order; table = table; pending = [] })
safe-sound f H cached order table well_formed is = record {
  well_formed = well_formed;
  table = is;
  covered = λ c. let enough = well_formed.covered c in omega (arith, enough);
  not_referenced = λ c some. absurd (omega (arith, some));
}

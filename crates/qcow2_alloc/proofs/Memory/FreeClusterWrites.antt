-- Writing unreferenced clusters.
use Rattle.std.proofs.Common.{◌≡◌, ◌≢◌, ℕ, ◌+◌, ◌-◌, ◌*◌, ◌/◌, ◌^◌, ◌<◌, ◌≤◌, refl, arith, ap, sym, subst, ◌∙◌, List, [], ◌∷◌, length, inl, inr}
use Rattle.std.specs.Prelude.{cond, ◌&&◌, nat_le, nat_lt, slice_index, IsTrue, Result, Ok, Err}
use Rattle.std.proofs.lemmas.Bool.{cases_lt}
use Rattle.std.proofs.lemmas.Grind.{same_number_lists}
use Rattle.std.proofs.lemmas.List.FromFn.{length-map-range_with_len, get_or-map-range_with_len}
use Rattle.std.proofs.lemmas.Nat.{pow_pos}
use Rattle.std.proofs.Math.Nat.{mul-le-mul_right, div-mul-le_self}
use Rattle.imago_storage.specs.State.{StorageState}
use Rattle.imago_storage.specs.Calls.{OldOrNewBytes, Spliced}
use Rattle.imago_storage.specs.Through.{WriteOutcome, EachCrashImage}
use Rattle.imago_storage.specs.declared.fault.Fault.{Fault}
use Rattle.imago_storage.proofs.Composing.{stops_weaker}
use Rattle.qcow2_types.specs.Bytes.{Bytes, bytes_of, splice, Patch, over}
use Rattle.qcow2_types.specs.TableBytes.{Packs}
use Rattle.qcow2_types.specs.Words.{Mapping}
use Rattle.qcow2_types.specs.Header.{Fields, Header, Shaped, cluster_size}
use Rattle.qcow2_types.specs.Entries.{l2_table}
use Rattle.qcow2_types.specs.Counts.{block_at, counter, counter_of, counters_of_block}
use Rattle.qcow2_types.specs.Frames.{Same, Outside, touches}
use Rattle.qcow2_types.specs.References.{of_mapping, meets}
use Rattle.qcow2_types.specs.Slots.{slot, Live}
use Rattle.qcow2_types.specs.Steps.{FreeWritten}
use Rattle.qcow2_types.specs.Versions.{copied, SamePlaces}
use Rattle.qcow2_types.proofs.Counting.Consistent.{named-counted}
use Rattle.qcow2_types.proofs.Changes.DataSteps.{free-run-written}
use Rattle.qcow2_types.proofs.Counting.Either.{structure-same, refs-file, refs-cached}
use Rattle.qcow2_metadata.specs.Blocks.{Block, BlockPut, counters_in}
use Rattle.qcow2_types.proofs.Numbers.BlockBytes.{bytes-only}
use Rattle.qcow2_types.proofs.Changes.BlockSteps.{counters-written}
use Rattle.qcow2_alloc.proofs.GuestView.SingleRequests.{at-once-file}
use Rattle.qcow2_alloc.specs.Memory.{patches}
use Rattle.qcow2_alloc.specs.WellFormedness.{WellFormed, IsCachedBlock}
use Rattle.qcow2_alloc.specs.MakingRoom.{CountsTheSame}
use Rattle.qcow2_alloc.specs.GuestView.{Metadata, in_memory, referenced_at_all, IsUsed, IsSound, GuestUnchanged, ShowsEither, IsIn, PreservesGuest}
use Rattle.qcow2_alloc.proofs.Memory.MemoryImage.{safe-memory}
use Rattle.qcow2_alloc.proofs.Memory.MemoryWords.{places-in-memory}
use Rattle.qcow2_alloc.proofs.Memory.Patches.{all-weaker, block-length, place-there, shaped-in}
use Rattle.qcow2_alloc.proofs.GuestView.QuietFlushes.{still-table}
use Rattle.qcow2_alloc.proofs.GuestView.ShownDisks.{from-start, mapping-meets, in-cluster}
use Rattle.qcow2_alloc.proofs.Memory.FittingWords.{table-fits, counters-same}
use Rattle.qcow2_alloc.proofs.Memory.KeptWords.{word-named, named-more, copied-stays, ordered-still, block-fits}

pub over-agrees : (f g : Bytes) (es : List Patch) (p : ℕ) → f p ≡ g p → over f es p ≡ over g es p
unfolding over splice
over-agrees f g [] p same = same
over-agrees f g (e ∷ es) p same = ap (cond (nat_le e.0 p && nat_lt p (e.0 + length e.1)) (slice_index e.1 (p - e.0))) (over-agrees f g es p same)

module _ (m : Metadata) (sound : IsSound m) (c k : ℕ) (not_referenced : (d : ℕ) → c ≤ d → d ≤ c + k → referenced_at_all m d ≡ 0) (x : Bytes) (at n : ℕ) (out : Outside m.file x at n)
    (low : c * cluster_size m.header.fields ≤ at) (high : at + n ≤ (c + k + 1) * cluster_size m.header.fields) where
  abbrev m' : Metadata
  m' = record m { file = x }

  places : SamePlaces m.file (in_memory m) m.header.fields
  places = places-in-memory m.file m.header sound.well_formed.consistent m.cached sound.well_formed.tables sound.well_formed.blocks

  -- Nothing new is referenced, in the file or in memory.
  in-file : FreeWritten m.file x m.header
  in-file = free-run-written m.file m.header sound.well_formed.consistent c k (λ d from upto. let none = not_referenced d from upto in let le = refs-file m.file (in_memory m) m.header.fields d in omega (arith, none, le)) x at n out low high

  over-there : FreeWritten (in_memory m) (in_memory m') m.header
  over-there = free-run-written (in_memory m) m.header (safe-memory m.file m.header m.cached m.order sound.well_formed) c k
      (λ d from upto. let none = not_referenced d from upto in let le = refs-cached m.file (in_memory m) m.header.fields d places in omega (arith, none, le))
      (in_memory m') at n (λ p off. over-agrees x m.file (patches m.header.fields m.cached) p (out p off)) low high

  words-there : (i j : ℕ) → Live (l2_table m.file m.header.fields) m.header.fields i j → slot (in_memory m') m.header.fields i j ≡ slot (in_memory m) m.header.fields i j
  words-there i j live = over-there.keeps.slots i j (record { in_l1 = live.in_l1; is_there = (λ none. live.is_there (sym (places.l1 i) ∙ none)); in_table = live.in_table })

  named-same : (d : ℕ) → referenced_at_all m' d ≡ referenced_at_all m d
  named-same d =
      let same = structure-same m.file x m.header.fields in-file.keeps.places (meets m.header.fields d) in
      let more = named-more m.file (in_memory m) x (in_memory m') m.header.fields m.header.fields.refcount_table_offset m.header.fields.refcount_table_clusters in-file.keeps.places.l1 in-file.keeps.slots words-there d 0 0 (omega (arith, same)) in
      omega (arith, more)

  copied-same : (d : ℕ) → copied x (in_memory m') m.header.fields d ≡ copied m.file (in_memory m) m.header.fields d
  copied-same d = copied-stays m.file (in_memory m) x (in_memory m') m.header.fields m.header.fields.refcount_table_offset m.header.fields.refcount_table_clusters in-file.keeps.places.l1 in-file.keeps.slots words-there d

  block-still : (cluster : ℕ) (b : Block) → IsCachedBlock m.file m.header.fields cluster b → IsCachedBlock x m.header.fields cluster b
  block-still cluster b is = block-fits m.file x m.header.fields m.header.fields.refcount_table_offset m.header.fields.refcount_table_clusters cluster b
      (λ live. (live.0, live.1, in-file.keeps.places.blocks live.0 ∙ live.2, live.3))
      (λ clean live.
      let place : block_at m.file m.header.fields live.0 ≡ cluster * cluster_size m.header.fields = sym (in-file.keeps.places.blocks live.0) ∙ live.2 in
      let there : block_at m.file m.header.fields live.0 ≢ 0 = λ none. place-there (cluster_size m.header.fields) cluster (pow_pos m.header.fields.cluster_bits) live.3 (sym place ∙ none) in
      is.clean clean (live.0, live.1, place, live.3)
      ∙ sym (counters-same m.file x m.header.fields (cluster * cluster_size m.header.fields)
      (subst (λ p. Same m.file x p (cluster_size m.header.fields)) place (in-file.same_structure_outside.counters live.0 live.1 there (λ e. cc)))))
      is

  safe-still : WellFormed x m.header m.cached m.order
  safe-still = record {
    consistent = in-file.consistent;
    tables_apart = sound.well_formed.tables_apart;
    blocks_apart = sound.well_formed.blocks_apart;
    tables = all-weaker _ _ (λ e is. table-fits m.file x m.header.fields m.header.fields.refcount_table_offset m.header.fields.refcount_table_clusters in-file.keeps.places.l1 e.0 (λ i j at live. in-file.same_structure_outside.raw_entries i j live (λ e. cc)) e.1.value is) m.cached.tables sound.well_formed.tables;
    blocks = all-weaker _ _ (λ e is. block-still e.0 e.1.value is) m.cached.blocks sound.well_formed.blocks;
    apart = λ d some.
        let base = structure-same m.file x m.header.fields in-file.keeps.places (meets m.header.fields d) in
        let marks = copied-same d in
        let names = named-same d in
        let one = sound.well_formed.apart d (omega (arith, base, marks, some)) in
        omega (arith, names, one);
    ordered = ordered-still m.file (in_memory m) x (in_memory m') m.header.fields m.header.fields
        (λ d le. let names = named-same d in let counts = over-there.counts d in omega (arith, names, counts, le))
        (λ d le. let names = named-same d in let counts = in-file.counts d in omega (arith, names, counts, le))
        (λ d. named-counted x m.header in-file.consistent d)
        (λ d le. let file = in-file.counts d in let cached = over-there.counts d in omega (arith, file, cached, le))
        m.order sound.well_formed.ordered;
    covered = λ d. named-counted (in_memory m') m.header over-there.consistent d;
  }

  pub free-sound : IsSound m'
  free-sound = record {
    well_formed = safe-still;
    table = still-table m.file x m.header.fields m.table in-file.keeps.places.blocks sound.table;
    covered = λ d. let was = sound.covered d in let references = over-there.references d in let counts = over-there.counts d in omega (arith, was, references, counts);
    not_referenced = λ d some. named-same d ∙ sound.not_referenced d some;
  }

  away : (d : ℕ) → (c ≤ d → d ≤ c + k → ⊥) → Same m.file x (d * cluster_size m.header.fields) (cluster_size m.header.fields)
  away d not = elim (cases_lt d c) [
    | inl before ↦
        let next : d + 1 ≤ c = omega (arith, before) in
        let le : (d + 1) * cluster_size m.header.fields ≤ c * cluster_size m.header.fields = mul-le-mul_right (cluster_size m.header.fields) next in
        λ i less. out (d * cluster_size m.header.fields + i) (inl (omega (arith, le, less, low)))
    | inr from ↦ elim (cases_lt (c + k) d) [
      | inl behind ↦
          let next : c + k + 1 ≤ d = omega (arith, behind) in
          let le : (c + k + 1) * cluster_size m.header.fields ≤ d * cluster_size m.header.fields = mul-le-mul_right (cluster_size m.header.fields) next in
          λ i less. out (d * cluster_size m.header.fields + i) (inr (omega (arith, le, high)))
      | inr upto ↦ absurd (not from upto)
    ]
  ]

  bytes-named : (i j : ℕ) → Live (l2_table m.file m.header.fields) m.header.fields i j → (p : ℕ) → 0 < of_mapping m.header.fields (touches p 1) (slot x m.header.fields i j) → x p ≡ m.file p
  bytes-named i j live p some =
      let le = mapping-meets m.header.fields p (slot x m.header.fields i j) in
      let there : 0 < of_mapping m.header.fields (meets m.header.fields (p / cluster_size m.header.fields)) (slot m.file m.header.fields i j) =
      subst (λ (w : Mapping). 0 < of_mapping m.header.fields (meets m.header.fields (p / cluster_size m.header.fields)) w) (in-file.keeps.slots i j live) (omega (arith, le, some)) in
      in-cluster m.header.fields m.file x p (away (p / cluster_size m.header.fields) (λ from upto. named-not i j live (p / cluster_size m.header.fields) there (not_referenced (p / cluster_size m.header.fields) from upto)))
    where
      named-not : (i j : ℕ) → Live (l2_table m.file m.header.fields) m.header.fields i j → (d : ℕ) → 0 < of_mapping m.header.fields (meets m.header.fields d) (slot m.file m.header.fields i j) → referenced_at_all m d ≡ 0 → ⊥
      named-not i j live d some none = let le = word-named m.file (in_memory m) m.header.fields d i j live in absurd (omega (arith, le, some, none))

  pub free-shows : ShowsEither m x m.header
  free-shows = record {
    consistent = in-file.consistent;
    moved = (m.header.fields.refcount_table_offset, m.header.fields.refcount_table_clusters, refl);
    header_tail_unchanged = λ p from lt. from-start m.file x (cluster_size m.header.fields) p (in-file.same_structure_outside.start (λ e. cc)) lt;
    l1 = λ i lt. in-file.same_structure_outside.l1 i lt (λ e. cc);
    tables = in-file.keeps.places.l1;
    raw_entries = λ i j live. inl (in-file.keeps.slots i j live);
    contents = bytes-named;
  }

  pub free-quiet : (taken : ℕ → ℕ) → ((d : ℕ) → c ≤ d → d ≤ c + k → IsUsed m d → 0 < taken d) → GuestUnchanged taken taken m m'
  free-quiet taken given = record {
    shows = free-shows;
    raw_entries = words-there;
    used_bytes_unchanged = λ d used none. away d (λ from upto. let some = given d from upto used in absurd (omega (arith, some, none)));
    apart = λ d used none. structure-same m.file x m.header.fields in-file.keeps.places (meets m.header.fields d) ∙ used.apart;
    waits = λ d used none. omega arith;
    law = λ d. let references = over-there.references d in let counts = over-there.counts d in omega (arith, references, counts);
  }

  pub free-counts : CountsTheSame m m'
  free-counts = record { file = in-file.counts; memory = over-there.counts; references = over-there.references; names = named-same }

-- Each crash image of a write differs from the old file only in the written range.
mixed-outside : (old : List ℕ) (at : ℕ) (bytes new : List ℕ) → OldOrNewBytes old at bytes new → Outside (bytes_of old) (bytes_of new) at (length bytes)
mixed-outside old at bytes new mixed p (inl before) = mixed.before p before
mixed-outside old at bytes new mixed p (inr after) = mixed.after p after

spliced-outside : (old : List ℕ) (at : ℕ) (bytes new : List ℕ) → Spliced old at bytes new → Outside (bytes_of old) (bytes_of new) at (length bytes)
spliced-outside old at bytes new spliced p (inl before) = spliced.before p before
spliced-outside old at bytes new spliced p (inr after) = spliced.after p after

pub put-outside : (old new : StorageState) (at : ℕ) (bytes : List ℕ) (result : Result Unit Fault) → WriteOutcome old new at bytes result → IsTrue old.shape.keeps → result ≡ Ok tt → Outside (bytes_of old.bytes) (bytes_of new.bytes) at (length bytes)
put-outside old new at bytes (Ok done) put keeps is = spliced-outside old.bytes at bytes new.bytes (put.answer.content keeps)
put-outside old new at bytes (Err fault) put keeps is = absurd (cc is)

-- The run is written, by any number of requests.
module _ (m : Metadata) (c k at : ℕ) (bytes : List ℕ) (taken : ℕ → ℕ) (old new : StorageState) (is_in : IsIn old m) (low : c * cluster_size m.header.fields ≤ at) (high : at + length bytes ≤ (c + k + 1) * cluster_size m.header.fields)
    (free : IsSound m → (d : ℕ) → c ≤ d → d ≤ c + k → (referenced_at_all m d ≡ 0) × (IsUsed m d → 0 < taken d)) where
  outside-there : (x : Bytes) → Outside (bytes_of old.bytes) x at (length bytes) → Outside m.file x at (length bytes)
  outside-there x out = subst (λ (f : Bytes). Outside f x at (length bytes)) (sym is_in) out

  run-holds : (x : List ℕ) → Spliced old.bytes at bytes x → (sound : IsSound m) → IsSound (record m { file = bytes_of x }) × GuestUnchanged taken taken m (record m { file = bytes_of x }) × CountsTheSame m (record m { file = bytes_of x })
  run-holds x spliced sound =
      let out = outside-there (bytes_of x) (spliced-outside old.bytes at bytes x spliced) in
      let not_referenced : (d : ℕ) → c ≤ d → d ≤ c + k → referenced_at_all m d ≡ 0 = λ d from upto. (free sound d from upto).0 in (
        free-sound m sound c k not_referenced (bytes_of x) at (length bytes) out low high,
        free-quiet m sound c k not_referenced (bytes_of x) at (length bytes) out low high taken (λ d from upto used. (free sound d from upto).1 used),
        free-counts m sound c k not_referenced (bytes_of x) at (length bytes) out low high,
      )

  run-passes : {T : Type 0} (result : Result T Fault) → WriteOutcome old new at bytes result → IsSound m → EachCrashImage (λ x. (H : Header) × ShowsEither m (bytes_of x) H) old new
  run-passes result put sound = stops_weaker (OldOrNewBytes old.bytes at bytes) (λ x. (H : Header) × ShowsEither m (bytes_of x) H) old new
      (λ _ x mixed. (m.header, free-shows m sound c k (λ d from upto. (free sound d from upto).0) (bytes_of x) at (length bytes) (outside-there (bytes_of x) (mixed-outside old.bytes at bytes x mixed)) low high)) put.crash_images

  pub run-quietly : (result : Result Unit Fault) → WriteOutcome old new at bytes result → PreservesGuest (result ≡ Ok tt) taken taken old m new (record m { file = bytes_of new.bytes })
  run-quietly (Ok done) put = record {
    shape = put.shape;
    counts_not_fallen = put.counts_not_fallen;
    passes = λ keeps sound no_change_refused. (put.answer.crash_image_is_bytes, run-passes (Ok done) put sound);
    holds = λ keeps sound done. let all = run-holds new.bytes (put.answer.content keeps) sound in (all.0, all.1);
  }
  run-quietly (Err fault) put = record {
    shape = put.shape;
    counts_not_fallen = put.counts_not_fallen;
    passes = λ keeps sound no_change_refused. (elim put.answer.crash_image_is_bytes [ inl rose ↦ absurd (no_change_refused rose) | inr stays ↦ stays ], run-passes (Err fault) put sound);
    holds = λ keeps sound done. absurd (cc done);
  }

  pub run-counts : (result : Result Unit Fault) → WriteOutcome old new at bytes result → IsTrue old.shape.keeps → IsSound m → result ≡ Ok tt → CountsTheSame m (record m { file = bytes_of new.bytes })
  run-counts (Ok done) put keeps sound is = (run-holds new.bytes (put.answer.content keeps) sound).2
  run-counts (Err fault) put keeps sound is = absurd (cc is)

pub block-short : (h : Fields) (block : Block) (bytes : List ℕ) → Packs block.order block.counters bytes → block.order ≡ h.refcount_order → length block.counters ≡ counters_of_block h → length bytes ≤ cluster_size h
block-short h block bytes packs order long =
    let size = packs.size in
    let all : length block.counters * 2 ^ block.order ≡ counters_of_block h * 2 ^ h.refcount_order = ap (λ n. n * 2 ^ block.order) long ∙ ap (λ o. counters_of_block h * 2 ^ o) order in
    let le : counters_of_block h * 2 ^ h.refcount_order ≤ cluster_size h * 8 = div-mul-le_self (cluster_size h * 8) (2 ^ h.refcount_order) in
    omega (arith, size, all, le)

-- A block is written to an unreferenced cluster. The file then has its counters.
module _ (m : Metadata) (d : ℕ) (block : Block) (old new : StorageState) (is_in : IsIn old m) (order : block.order ≡ m.header.fields.refcount_order) (long : length block.counters ≡ counters_of_block m.header.fields) where
  module _ (shaped : Shaped m.header.fields) (result : Result Unit Fault) (put : BlockPut block (d * cluster_size m.header.fields) old new result) where
    as-long : length put.bytes ≡ cluster_size m.header.fields
    as-long = ap (λ (l : List ℕ). length l) (bytes-only block.order block.counters put.bytes put.packs) ∙ block-length m.header.fields shaped block.order block.counters order long

    counters-read : (x : Bytes) → x ≡ splice m.file (d * cluster_size m.header.fields) put.bytes → counters_in x m.header.fields (d * cluster_size m.header.fields) ≡ block.counters
    counters-read x is =
        same_number_lists (counters_in x m.header.fields (d * cluster_size m.header.fields)) block.counters (length-map-range_with_len _ 0 (counters_of_block m.header.fields) ∙ sym long)
        (λ k inside.
        let less : k < counters_of_block m.header.fields = omega (arith, inside, length-map-range_with_len (counter x m.header.fields (d * cluster_size m.header.fields)) 0 (counters_of_block m.header.fields)) in
        get_or-map-range_with_len (counter x m.header.fields (d * cluster_size m.header.fields)) 0 (counters_of_block m.header.fields) k k 0 less (omega arith)
        ∙ ap (λ (f : Bytes). counter f m.header.fields (d * cluster_size m.header.fields) k) is
        ∙ counters-written m.file m.header.fields (d * cluster_size m.header.fields) put.bytes as-long k less
        ∙ ap (λ o. counter_of (bytes_of put.bytes) (2 ^ o) 0 k) (sym order)
        ∙ put.packs.each k (omega (arith, less, long)))

  no-longer : (result : Result Unit Fault) (put : BlockPut block (d * cluster_size m.header.fields) old new result) → d * cluster_size m.header.fields + length put.bytes ≤ (d + 0 + 1) * cluster_size m.header.fields
  no-longer result put =
      let short = block-short m.header.fields block put.bytes put.packs order long in
      let next : (d + 0 + 1) * cluster_size m.header.fields ≡ d * cluster_size m.header.fields + cluster_size m.header.fields = omega arith in
      omega (arith, short, next)

  module _ (taken : ℕ → ℕ) (free : IsSound m → (referenced_at_all m d ≡ 0) × (IsUsed m d → 0 < taken d)) where
    free-there : IsSound m → (k : ℕ) → d ≤ k → k ≤ d + 0 → (referenced_at_all m k ≡ 0) × (IsUsed m k → 0 < taken k)
    free-there sound k from upto = let same : d ≡ k = omega (arith, from, upto) in subst (λ c. (referenced_at_all m c ≡ 0) × (IsUsed m c → 0 < taken c)) same (free sound)

    pub block-quietly : (result : Result Unit Fault) → BlockPut block (d * cluster_size m.header.fields) old new result → PreservesGuest (result ≡ Ok tt) taken taken old m new (record m { file = bytes_of new.bytes })
    block-quietly result put = run-quietly m d 0 (d * cluster_size m.header.fields) put.bytes taken old new is_in (omega arith) (no-longer result put) free-there result put.put.put

    pub block-counts : (result : Result Unit Fault) → BlockPut block (d * cluster_size m.header.fields) old new result → IsTrue old.shape.keeps → IsSound m → result ≡ Ok tt
        → CountsTheSame m (record m { file = bytes_of new.bytes }) × (counters_in (bytes_of new.bytes) m.header.fields (d * cluster_size m.header.fields) ≡ block.counters)
    block-counts result put keeps sound done = (
      run-counts m d 0 (d * cluster_size m.header.fields) put.bytes taken old new is_in (omega arith) (no-longer result put) free-there result put.put.put keeps sound done,
      counters-read (shaped-in m.file m.header sound.well_formed.consistent) result put (bytes_of new.bytes) (at-once-file m (d * cluster_size m.header.fields) put.bytes old new is_in result put.put keeps done),
    )

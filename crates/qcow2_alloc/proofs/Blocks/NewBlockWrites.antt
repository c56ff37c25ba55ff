-- Writing new blocks to consecutive unreferenced clusters.
use Rattle.std.proofs.Common.{◌≡◌, ℕ, suc, ◌+◌, ◌-◌, ◌*◌, ◌/◌, ◌%◌, ◌^◌, ◌<◌, ◌≤◌, Bool, refl, arith, ap, sym, subst, ◌∙◌, inl, inr, true, Result, Ok, Err, Some, List}
use Rattle.std.specs.Prelude.{⊤, ◌&&◌, nat_le, nat_lt, if◌then◌else◌, IsTrue, MatchResult}
use Rattle.std.proofs.lemmas.Bool.{cases_lt}
use Rattle.std.proofs.lemmas.Bool.Decides.{nat_tests}
use Rattle.std.proofs.lemmas.Nat.{mod_below, pow_pos}
use Rattle.std.proofs.Math.Nat.{div-add-mod, mul-le-mul, mul-le-mul_right}
use Rattle.imago_storage.specs.State.{StorageState}
use Rattle.imago_storage.specs.Calls.{Cause}
use Rattle.imago_storage.specs.Through.{WriteOutcome}
use Rattle.imago_storage.specs.declared.fault.Fault.{Fault}
use Rattle.imago_storage.proofs.Composing.{later_same, later_both, keeps_on}
use Rattle.qcow2_types.specs.Bytes.{Bytes, bytes_of}
use Rattle.qcow2_types.specs.Header.{Fields, Header, cluster_size}
use Rattle.qcow2_types.specs.Counts.{counters_of_block}
use Rattle.qcow2_types.specs.Frames.{Same}
use Rattle.qcow2_types.proofs.Counting.Counters.{some-counters}
use Rattle.qcow2_types.proofs.Counting.Either.{refs-cached}
use Rattle.qcow2_metadata.specs.Blocks.{Block, BlockPut, counters_in}
use Rattle.qcow2_metadata.specs.Places.{IsAddressable, place_of}
use Rattle.qcow2_metadata.specs.Tables.{TableValue}
use Rattle.qcow2_alloc.specs.declared.allocation.searching.Run.{Run}
use Rattle.qcow2_alloc.specs.FreeList.{covers}
use Rattle.qcow2_alloc.specs.Going.{HadNoResourceError}
use Rattle.qcow2_alloc.specs.Growing.{lacks, lacking}
use Rattle.qcow2_alloc.specs.MakingRoom.{rank, run_of, CountsTheSame}
use Rattle.qcow2_alloc.specs.NewBlocks.{CountsItsOwn, HasCountedOwn, with_file, MayWrite, WritesClusters, WritesBlockTo, WritesLacking}
use Rattle.qcow2_alloc.specs.GuestView.{Metadata, in_memory, referenced, referenced_at_all, IsUsed, IsSound, GuestUnchanged, PreservesGuest}
use Rattle.qcow2_alloc.proofs.GuestView.SingleRequests.{put-done, put-whole}
use Rattle.qcow2_alloc.proofs.Flushing.FaultlessCalls.{faultless-then, put-faultless}
use Rattle.qcow2_alloc.proofs.Memory.FreeClusterWrites.{block-quietly, block-counts, block-short, put-outside}
use Rattle.qcow2_alloc.proofs.Growth.FirstRooms.{rank-longer, index-near, lacks-inside}
use Rattle.qcow2_alloc.proofs.Growth.LongerReftables.{rank-new}
use Rattle.qcow2_alloc.proofs.Memory.MemoryWords.{places-in-memory}
use Rattle.qcow2_alloc.proofs.Blocks.NewBlocks.{counter-read}
use Rattle.qcow2_alloc.proofs.Memory.Patches.{shaped-in}
use Rattle.qcow2_alloc.proofs.GuestView.QuietFlushes.{memory-quietly, quiet-none}
use Rattle.qcow2_alloc.proofs.GuestView.QuietPremises.{quietly-then-given}
use Rattle.qcow2_alloc.proofs.GuestView.QuietSequences.{quietly-otherwise, quiet-otherwise}
use Rattle.qcow2_alloc.proofs.Memory.FittingWords.{counters-same}
use Rattle.qcow2_alloc.proofs.Memory.KeptWords.{structure-named}

pub put-counts : (old new : StorageState) (at : ℕ) (bytes : List ℕ) (result : Result Unit Fault) → WriteOutcome old new at bytes result → MatchResult result (λ _. new.faults ≡ old.faults) (Cause old.faults new.faults)
put-counts old new at bytes (Ok done) put = put.answer.faults
put-counts old new at bytes (Err fault) put = put.answer.cause

-- One block is written to cluster `d`.
module _ (h : Header) (index : ℕ) (run : Run) (d : ℕ) (block : Block) (own : CountsItsOwn h.fields index run block) (old new : StorageState) (result : Result Unit Fault) (put : BlockPut block (d * cluster_size h.fields) old new result) where
  module _ (m : Metadata) (taken : ℕ → ℕ) (may : MayWrite h d 1 taken old m) where
    abbrev f : Fields
    f = m.header.fields

    own-there : CountsItsOwn f index run block
    own-there = subst (λ (H : Header). CountsItsOwn H.fields index run block) (sym may.header) own

    put-there : BlockPut block (d * cluster_size f) old new result
    put-there = subst (λ (H : Header). BlockPut block (d * cluster_size H.fields) old new result) (sym may.header) put

    free-there : IsSound m → (referenced_at_all m d ≡ 0) × (IsUsed m d → 0 < taken d)
    free-there sound = may.free sound d (omega arith) (omega arith)

    written-quietly : PreservesGuest (HadNoResourceError result) taken taken old m new (with_file m new)
    written-quietly =
        put-whole m (with_file m new) taken taken old new (d * cluster_size f) put-there.bytes result put-there.put.put
        (block-quietly m d block old new may.file own-there.order own-there.long taken free-there result put-there)

    module _ (keeps : IsTrue old.shape.keeps) (sound : IsSound m) (done : result ≡ Ok tt) where
      written-counts : CountsTheSame m (with_file m new) × (counters_in (bytes_of new.bytes) f (d * cluster_size f) ≡ block.counters)
      written-counts = block-counts m d block old new may.file own-there.order own-there.long taken free-there result put-there keeps sound done

      written-counters : HasCountedOwn (bytes_of new.bytes) h.fields d index run
      written-counters = subst (λ (H : Header). HasCountedOwn (bytes_of new.bytes) H.fields d index run) may.header (λ c is.
          let less = mod_below c (counters_of_block f) (some-counters f (shaped-in m.file m.header sound.well_formed.consistent)) in
          counter-read (bytes_of new.bytes) f (d * cluster_size f) block.counters written-counts.1 (c % counters_of_block f) less
          ∙ own-there.each (c % counters_of_block f) less ∙ ap (λ x. covers x (run_of run.first run.len)) (whole c is))
        where
          whole : (c : ℕ) → c / counters_of_block f ≡ index → index * counters_of_block f + c % counters_of_block f ≡ c
          whole c is =
              let parts = div-add-mod c (counters_of_block f) in
              let same : counters_of_block f * (c / counters_of_block f) ≡ counters_of_block f * index = ap (λ q. counters_of_block f * q) is in
              omega (arith, parts, same)

  pub block-written : WritesBlockTo h index run d old result new
  block-written = record {
    writes = record {
      shape = put.put.put.shape;
      counts_not_fallen = put.put.put.counts_not_fallen;
      faults = put-faultless old new (d * cluster_size h.fields) put.bytes result put.put.put;
      whole = put-done old new (d * cluster_size h.fields) put.bytes result put.put.put;
      cause = put-counts old new (d * cluster_size h.fields) put.bytes result put.put.put;
      guest_unchanged = written-quietly;
      counts = λ m taken may keeps sound done. (written-counts m taken may keeps sound done).0;
      others = λ keeps done p off.
          let short = block-short h.fields block put.bytes put.packs own.order own.long in
          let next : (d + 1) * cluster_size h.fields ≡ d * cluster_size h.fields + cluster_size h.fields = omega arith in
          put-outside old new (d * cluster_size h.fields) put.bytes result put.put.put keeps done p (elim off [ inl before ↦ inl before | inr behind ↦ inr (omega (arith, behind, next, short)) ]);
    };
    counters = written-counters;
  }

pub placed-written : (h : Header) (index : ℕ) (run : Run) (d : ℕ) (block placed : Block) → CountsItsOwn h.fields index run block → placed ≡ record block { cluster = Some d; modified = true }
    → (old new : StorageState) (result : Result Unit Fault) → BlockPut placed (place_of placed.cluster_bits placed.cluster) old new result → WritesBlockTo h index run d old result new
placed-written h index run d block placed own is old new result put =
    block-written h index run d there (record { cluster_bits = own.cluster_bits; order = own.order; long = own.long; each = own.each }) old new result
    (subst (λ bits. BlockPut there (d * 2 ^ bits) old new result) own.cluster_bits (subst (λ (b : Block). BlockPut b (place_of b.cluster_bits b.cluster) old new result) is put))
  where
    there : Block
    there = record block { cluster = Some d; modified = true }

-- `taken`, restricted to the `n` clusters from `s` on.
abbrev within : ℕ → ℕ → (ℕ → ℕ) → ℕ → ℕ
within s n taken c = if nat_le s c && nat_lt c (s + n) then taken c else 0

within-here : (s n c t : ℕ) → s ≤ c → c < s + n → (if nat_le s c && nat_lt c (s + n) then t else 0) ≡ t
within-here s n c t from to = grind (arith, nat_tests)

within-before : (s n c t : ℕ) → c < s → (if nat_le s c && nat_lt c (s + n) then t else 0) ≡ 0
within-before s n c t lt = grind (arith, nat_tests)

within-behind : (s n c t : ℕ) → s + n ≤ c → (if nat_le s c && nat_lt c (s + n) then t else 0) ≡ 0
within-behind s n c t le = grind (arith, nat_tests)

within-le : (s n c t : ℕ) → (if nat_le s c && nat_lt c (s + n) then t else 0) ≤ t
within-le s n c t = elim (cases_lt c s) [
  | inl before ↦ let none = within-before s n c t before in omega (arith, none)
  | inr from ↦ elim (cases_lt c (s + n)) [
    | inl to ↦ let same = within-here s n c t from to in omega (arith, same)
    | inr behind ↦ let none = within-behind s n c t behind in omega (arith, none)
  ]
]

pub clusters-none : (h : Header) (s n : ℕ) (a : StorageState) → WritesClusters h s n a (Ok tt) a
clusters-none h s n a = record {
  shape = refl;
  counts_not_fallen = later_same a;
  faults = λ whole. (refl, refl);
  whole = λ whole. refl;
  cause = refl;
  guest_unchanged = λ m taken may. memory-quietly ⊤ taken taken a m (with_file m a) (λ sound whole.
      subst (λ (f : Bytes). IsSound (record m { file = f }) × GuestUnchanged taken taken m (record m { file = f })) may.file
      (sound, quiet-otherwise m m (λ _. 0) (λ _. 0) taken taken (λ c. omega arith) (λ c used none. refl) (quiet-none m sound)));
  counts = λ m taken may keeps sound done. subst (λ (f : Bytes). CountsTheSame m (record m { file = f })) may.file (record { file = λ c. refl; memory = λ c. refl; references = λ c. refl; names = λ c. refl });
  others = λ keeps done p off. refl;
}

may-fewer : (h : Header) (s n k : ℕ) (taken : ℕ → ℕ) (a : StorageState) (m : Metadata) → n ≤ k → MayWrite h s k taken a m → MayWrite h s n taken a m
may-fewer h s n k taken a m le may = record { file = may.file; header = may.header; free = λ sound d from to. may.free sound d from (omega (arith, to, le)) }

pub clusters-more : (h : Header) (s n k : ℕ) (a : StorageState) (result : Result Unit Fault) (c : StorageState) → n ≤ k → WritesClusters h s n a result c → WritesClusters h s k a result c
clusters-more h s n k a result c le writes = record {
  shape = writes.shape;
  counts_not_fallen = writes.counts_not_fallen;
  faults = writes.faults;
  whole = writes.whole;
  cause = writes.cause;
  guest_unchanged = λ m taken may. writes.guest_unchanged m taken (may-fewer h s n k taken a m le may);
  counts = λ m taken may. writes.counts m taken (may-fewer h s n k taken a m le may);
  others = λ keeps done p off. writes.others keeps done p (elim off [
    | inl before ↦ inl before
    | inr behind ↦ let more : (s + n) * cluster_size h.fields ≤ (s + k) * cluster_size h.fields = mul-le-mul_right (cluster_size h.fields) (omega (arith, le)) in inr (omega (arith, behind, more))
  ]);
}

-- A run of `n` clusters is written, then the next cluster.
module _ (h : Header) (s n : ℕ) (a b : StorageState) (result : Result Unit Fault) (c : StorageState) (first : WritesClusters h s n a (Ok tt) b) (second : WritesClusters h (s + n) 1 b result c) where
  module _ (m : Metadata) (taken : ℕ → ℕ) (may : MayWrite h s (n + 1) taken a m) where
    may-first : MayWrite h s n (within s n taken) a m
    may-first = record {
      file = may.file;
      header = may.header;
      free = λ sound d from to.
          let both = may.free sound d from (omega (arith, to)) in
          (both.0, λ used. let some = both.1 used in let same = within-here s n d (taken d) from to in omega (arith, some, same));
    }

    first-quietly : PreservesGuest ⊤ (within s n taken) (within s n taken) a m b (with_file m b)
    first-quietly = first.guest_unchanged m (within s n taken) may-first

    named-kept : IsSound m → (d : ℕ) → 0 < referenced m d → within s n taken d ≡ 0
    named-kept sound d some = elim (cases_lt d s) [
      | inl before ↦ within-before s n d (taken d) before
      | inr from ↦ elim (cases_lt d (s + n)) [
        | inl to ↦
            let none = (may.free sound d from (omega (arith, to))).0 in
            let le = refs-cached m.file (in_memory m) m.header.fields d (places-in-memory m.file m.header sound.well_formed.consistent m.cached sound.well_formed.tables sound.well_formed.blocks) in
            absurd (omega (arith, none, le, some))
        | inr behind ↦ within-behind s n d (taken d) behind
      ]
    ]

    module _ (keeps : IsTrue a.shape.keeps) (sound : IsSound m) where
      first-counts : CountsTheSame m (with_file m b)
      first-counts = first.counts m (within s n taken) may-first keeps sound refl

      pub may-second : MayWrite h (s + n) 1 taken b (with_file m b)
      may-second = record {
        file = refl;
        header = may.header;
        free = λ sound1 d from to.
            let both = may.free sound d (omega (arith, from)) (omega (arith, to)) in
            let none = both.0 in (
              first-counts.names d ∙ none,
              λ used. both.1 (record {
                apart = let le = structure-named m.file (in_memory m) m.header.fields d in omega (arith, le, none);
                taken = let same = first-counts.memory d in let some = used.taken in omega (arith, same, some);
              }),
            );
      }

      pub sound-second : IsSound (with_file m b)
      sound-second = (first-quietly.holds keeps sound tt).0

      then-counts : result ≡ Ok tt → CountsTheSame m (with_file m c)
      then-counts done =
          let again = second.counts (with_file m b) taken may-second (keeps_on a b first.shape keeps) sound-second done in record {
            file = λ d. again.file d ∙ first-counts.file d;
            memory = λ d. again.memory d ∙ first-counts.memory d;
            references = λ d. again.references d ∙ first-counts.references d;
            names = λ d. again.names d ∙ first-counts.names d;
          }

    then-quietly : PreservesGuest (HadNoResourceError result) taken taken a m c (with_file m c)
    then-quietly =
        quietly-otherwise (HadNoResourceError result) (λ d. within s n taken d + taken d) (λ d. within s n taken d + taken d) taken taken a m c (with_file m c) (λ sound d. omega arith)
        (λ sound d used none. let le = within-le s n d (taken d) in omega (arith, le, none))
        (quietly-then-given ⊤ (HadNoResourceError result) (within s n taken) (within s n taken) taken taken a m b (with_file m b) c (with_file m c) tt named-kept first-quietly second.shape second.counts_not_fallen
        (λ keeps sound sound1 guest_unchanged. second.guest_unchanged (with_file m b) taken (may-second keeps sound)))

  pub clusters-then : WritesClusters h s (n + 1) a result c
  clusters-then = record {
    shape = second.shape ∙ first.shape;
    counts_not_fallen = later_both a b c first.counts_not_fallen second.counts_not_fallen;
    faults = λ whole. faultless-then (first.faults tt) (second.faults whole);
    whole = second.whole;
    cause = subst (λ (n : ℕ). MatchResult result (λ _. c.faults ≡ n) (Cause n c.faults)) first.cause second.cause;
    guest_unchanged = then-quietly;
    counts = then-counts;
    others = λ keeps done p off.
        second.others (keeps_on a b first.shape keeps) done p (elim off [ inl before ↦ inl (omega (arith, before)) | inr behind ↦ inr (omega (arith, behind)) ])
        ∙ first.others keeps refl p (elim off [ inl before ↦ inl before | inr behind ↦ inr (omega (arith, behind)) ]);
  }

pub own-still : (f g : Bytes) (h : Fields) (d i : ℕ) (run : Run) → 0 < counters_of_block h → Same f g (d * cluster_size h) (cluster_size h) → HasCountedOwn f h d i run → HasCountedOwn g h d i run
own-still f g h d i run some same was c is =
    let less = mod_below c (counters_of_block h) some in
    counter-read g h (d * cluster_size h) (counters_in f h (d * cluster_size h)) (counters-same f g h (d * cluster_size h) same) (c % counters_of_block h) less
    ∙ sym (counter-read f h (d * cluster_size h) (counters_in f h (d * cluster_size h)) refl (c % counters_of_block h) less) ∙ was c is

module _ (h : Header) (table : TableValue) (run : Run) where
  abbrev pub lack : ℕ → Bool
  lack = lacks table (counters_of_block h.fields) run.first run.len

  -- All missing blocks before index `end` are written.
  pub record WritesBefore (end : ℕ) (old : StorageState) (result : Result Unit Fault) (new : StorageState) : Type 0 where
    pub writes : WritesClusters h run.first (rank lack end) old result new
    pub counters : (m : Metadata) (taken : ℕ → ℕ) → MayWrite h run.first (rank lack end) taken old m → IsTrue old.shape.keeps → IsSound m → result ≡ Ok tt
        → (i : ℕ) → i < end → lack i ≡ true → HasCountedOwn (bytes_of new.bytes) h.fields (run.first + rank lack i) i run

  rank-next : (i : ℕ) → rank lack (i + 1) ≡ rank lack (suc i)
  rank-next i = ap (rank lack) (omega arith)

  rank-before : (i end : ℕ) → i < end → lack i ≡ true → rank lack i + 1 ≤ rank lack end
  rank-before i end lt is =
      let new = rank-new lack i is in
      let more = rank-longer lack (suc i) (end - suc i) in
      let there : rank lack (suc i + (end - suc i)) ≡ rank lack end = ap (rank lack) (omega (arith, lt)) in
      omega (arith, new, more, there)

  pub before-none : (end : ℕ) (s : StorageState) → rank lack end ≡ 0 → WritesBefore end s (Ok tt) s
  before-none end s none = record {
    writes = clusters-none h run.first (rank lack end) s;
    counters = λ m taken may keeps sound done i lt is. let some = rank-before i end lt is in absurd (omega (arith, some, none));
  }

  pub before-over : (index : ℕ) (a b : StorageState) → rank lack (suc index) ≡ rank lack index → WritesBefore index a (Ok tt) b → WritesBefore (index + 1) a (Ok tt) b
  before-over index a b same before = record {
    writes = subst (λ n. WritesClusters h run.first n a (Ok tt) b) (sym (rank-next index ∙ same)) before.writes;
    counters = λ m taken may keeps sound done i lt is. before.counters m taken (subst (λ n. MayWrite h run.first n taken a m) (rank-next index ∙ same) may) keeps sound done i
        (elim (cases_lt i index) [
          | inl less ↦ less
          | inr from ↦
              let here : i ≡ index = omega (arith, lt, from) in
              let new = rank-new lack i is in
              let at : rank lack (suc i) ≡ rank lack i = subst (λ k. rank lack (suc k) ≡ rank lack k) (sym here) same in
              absurd (omega (arith, new, at))
        ]) is;
  }

  pub before-then : (index : ℕ) (a b : StorageState) (result : Result Unit Fault) (c : StorageState) → rank lack (suc index) ≡ rank lack index + 1 → WritesBefore index a (Ok tt) b → WritesBlockTo h index run (run.first + rank lack index) b result c → WritesBefore (index + 1) a result c
  before-then index a b result c more before next = record {
    writes = subst (λ n. WritesClusters h run.first n a result c) (sym (rank-next index ∙ more)) (clusters-then h run.first (rank lack index) a b result c before.writes next.writes);
    counters = λ m taken may. over m taken (subst (λ n. MayWrite h run.first n taken a m) (rank-next index ∙ more) may);
  }
    where
      over : (m : Metadata) (taken : ℕ → ℕ) → MayWrite h run.first (rank lack index + 1) taken a m → IsTrue a.shape.keeps → IsSound m → result ≡ Ok tt
          → (i : ℕ) → i < index + 1 → lack i ≡ true → HasCountedOwn (bytes_of c.bytes) h.fields (run.first + rank lack i) i run
      over m taken may keeps sound done i lt is = elim (cases_lt i index) [
        | inl less ↦
            own-still (bytes_of b.bytes) (bytes_of c.bytes) h.fields (run.first + rank lack i) i run some
            (λ k inside.
            let apart = rank-before i index less is in
            let le : (run.first + rank lack i + 1) * cluster_size h.fields ≤ (run.first + rank lack index) * cluster_size h.fields = mul-le-mul_right (cluster_size h.fields) (omega (arith, apart)) in
            next.writes.others (keeps_on a b before.writes.shape keeps) done ((run.first + rank lack i) * cluster_size h.fields + k) (inl (omega (arith, le, inside))))
            (before.counters m taken (may-fewer h run.first (rank lack index) (rank lack index + 1) taken a m (omega arith) may) keeps sound refl i less is)
        | inr from ↦
            let here : i ≡ index = omega (arith, lt, from) in
            subst (λ k. HasCountedOwn (bytes_of c.bytes) h.fields (run.first + rank lack k) k run) (sym here)
            (next.counters (with_file m b) taken (may-second h run.first (rank lack index) a b result c before.writes next.writes m taken may keeps sound) (keeps_on a b before.writes.shape keeps)
            (sound-second h run.first (rank lack index) a b result c before.writes next.writes m taken may keeps sound) done)
      ]
        where
          some : 0 < counters_of_block h.fields
          some = subst (λ (H : Header). 0 < counters_of_block H.fields) may.header (some-counters m.header.fields (shaped-in m.file m.header sound.well_formed.consistent))

  -- Like `before-then`, with the header and the cluster given by equations.
  pub before-then-at : (index : ℕ) (a b : StorageState) (result : Result Unit Fault) (c : StorageState) (H : Header) (place : ℕ) → H ≡ h → place ≡ run.first + rank lack index → rank lack (suc index) ≡ rank lack index + 1
      → WritesBefore index a (Ok tt) b → WritesBlockTo H index run place b result c → WritesBefore (index + 1) a result c
  before-then-at index a b result c H place same at more before next =
      before-then index a b result c more before (subst (λ (H : Header). WritesBlockTo H index run (run.first + rank lack index) b result c) same (subst (λ p. WritesBlockTo H index run p b result c) at next))

  pub before-all : (end : ℕ) (a : StorageState) (result : Result Unit Fault) (c : StorageState) → rank lack end ≤ run.len → (result ≡ Ok tt → (i : ℕ) → lack i ≡ true → i < end) → WritesBefore end a result c → WritesLacking h table run a result c
  before-all end a result c few all before = record {
    writes = clusters-more h run.first (rank lack end) run.len a result c few before.writes;
    counters = λ m taken may keeps sound done i is. before.counters m taken (may-fewer h run.first (rank lack end) run.len taken a m few may) keeps sound done i (all done i is) is;
  }

  abbrev k : ℕ
  k = counters_of_block h.fields

  -- If `end` is at most one block past the run, the missing blocks before it fit in the run.
  pub before-few : (end : ℕ) → 0 < k → end * k < run.first + run.len + k → lacking table k run.first run.len ≤ run.len → rank lack end ≤ run.len
  before-few end some near room =
      let le = index-near end k (run.first + run.len) some near in
      let more = rank-longer lack end (run.first + run.len - end) in
      let there : rank lack (end + (run.first + run.len - end)) ≡ lacking table k run.first run.len = ap (rank lack) (omega (arith, le)) in
      omega (arith, more, there, room)

  -- The next missing block fits in the run.
  pub room-for : (index written : ℕ) → 0 < k → lacking table k run.first run.len ≤ run.len → written ≡ rank lack index → rank lack (suc index) ≡ rank lack index + 1 → index * k < run.first + run.len → written + 1 ≤ run.len
  room-for index written some room is more inside =
      let next : (index + 1) * k ≡ index * k + k = omega arith in
      let few = before-few (index + 1) some (omega (arith, next, inside)) room in
      let up = rank-next index in
      omega (arith, few, up, more, is)

  pub all-before : (end i : ℕ) → run.first + run.len ≤ end * k → lack i ≡ true → i < end
  all-before end i past is = elim (cases_lt i end) [
    | inl lt ↦ lt
    | inr from ↦
        let le : end * k ≤ i * k = mul-le-mul_right k from in
        let to = (lacks-inside table k run.first run.len i is).1 in
        absurd (omega (arith, le, to, past))
  ]

pub run-fits : (bits first len : ℕ) → IsAddressable bits (first + (len - 1)) → first + len ≤ 2 ^ 56
run-fits bits first len reach =
    let le : (first + (len - 1)) * 1 ≤ (first + (len - 1)) * 2 ^ bits = mul-le-mul (omega arith) (pow_pos bits) in
    omega (arith, le, reach)

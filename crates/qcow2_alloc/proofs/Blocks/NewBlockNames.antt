-- A grown refcount table: its entries are made to reference the new blocks, in order.
use Rattle.std.proofs.Common.{◌≡◌, ◌≢◌, ℕ, suc, ◌+◌, ◌-◌, ◌*◌, ◌/◌, ◌^◌, ◌<◌, ◌≤◌, refl, arith, ap, sym, subst, ◌∙◌, Bool, true, false, inl, inr, length, Some}
use Rattle.std.specs.Prelude.{IsTrue, slice_index, ◌==◌, ◌&&◌, nat_le, nat_lt}
use Rattle.std.proofs.lemmas.Bool.{cases_eq, cases_lt}
use Rattle.std.proofs.lemmas.Bool.Decides.{nat_tests}
use Rattle.std.proofs.lemmas.List.{length-set, get_or-set_same, get_or-set_other}
use Rattle.std.proofs.lemmas.Nat.{pow_pos}
use Rattle.std.proofs.Math.Nat.{mul-le-mul, mul-le-mul_right}
use Rattle.qcow2_types.specs.Counts.{counters_of_block}
use Rattle.qcow2_types.specs.Header.{Fields, cluster_size}
use Rattle.qcow2_types.specs.Words.{Layout, block_offset, reftable_entry_valid}
use Rattle.qcow2_metadata.specs.Places.{IsAddressable}
use Rattle.qcow2_metadata.specs.Tables.{TableValue, CanBeReferenced, IsTable, refcount_table_kind, with_raw_entry}
use Rattle.qcow2_metadata.proofs.TableSteps.{block_named, block_word_named, entered}
use Rattle.qcow2_alloc.specs.declared.allocation.searching.Run.{Run}
use Rattle.qcow2_alloc.specs.Growing.{lacks, lacking}
use Rattle.qcow2_alloc.specs.MakingRoom.{rank}
use Rattle.qcow2_alloc.specs.MovingTables.{LinksNewBlocks}
use Rattle.qcow2_alloc.proofs.Growth.FirstRooms.{rank-longer, lacks-inside}
use Rattle.qcow2_alloc.proofs.Growth.LongerReftables.{rank-new}
use Rattle.qcow2_alloc.proofs.Memory.Patches.{place-there}

module _ (h : Fields) (was : TableValue) (run : Run) where
  abbrev k : ℕ
  k = counters_of_block h

  abbrev pub lack : ℕ → Bool
  lack = lacks was (counters_of_block h) run.first run.len

  -- All missing blocks before index `end` are linked.
  pub record NamesBefore (end : ℕ) (old new : TableValue) : Type 0 where
    pub layout : new.layout ≡ old.layout
    pub placed : new.cluster ≡ old.cluster
    pub long : length new.raw_entries ≡ length old.raw_entries
    pub news : (i : ℕ) → i < end → lack i ≡ true → block_offset (slice_index new.raw_entries i) ≡ (run.first + rank lack i) * cluster_size h
    pub olds : (i : ℕ) → lack i ≡ false → slice_index new.raw_entries i ≡ slice_index old.raw_entries i
    pub table : IsTable refcount_table_kind old → old.layout.cluster_bits ≡ h.cluster_bits → IsTable refcount_table_kind new

  pub rank-before : (i end : ℕ) → i < end → lack i ≡ true → rank lack i + 1 ≤ rank lack end
  rank-before i end lt is =
      let new = rank-new lack i is in
      let more = rank-longer lack (suc i) (end - suc i) in
      let there : rank lack (suc i + (end - suc i)) ≡ rank lack end = ap (rank lack) (omega (arith, lt)) in
      omega (arith, new, more, there)

  pub named-none : (end : ℕ) (table : TableValue) → rank lack end ≡ 0 → NamesBefore end table table
  named-none end table none = record {
    layout = refl;
    placed = refl;
    long = refl;
    news = λ i lt is. let some = rank-before i end lt is in absurd (omega (arith, some, none));
    olds = λ i is. refl;
    table = λ is bits. is;
  }

  pub named-over : (index : ℕ) (old new : TableValue) → rank lack (suc index) ≡ rank lack index → NamesBefore index old new → NamesBefore (index + 1) old new
  named-over index old new same before = record {
    layout = before.layout;
    placed = before.placed;
    long = before.long;
    news = λ i lt is. before.news i (elim (cases_lt i index) [
      | inl less ↦ less
      | inr from ↦
          let here : i ≡ index = omega (arith, lt, from) in
          let more = rank-new lack i is in
          let at : rank lack (suc i) ≡ rank lack i = subst (λ n. rank lack (suc n) ≡ rank lack n) (sym here) same in
          absurd (omega (arith, more, at))
    ]) is;
    olds = before.olds;
    table = before.table;
  }

  pub named-then : (index place : ℕ) (old mid new : TableValue) → 9 ≤ h.cluster_bits → lack index ≡ true → index < length mid.raw_entries → place ≡ run.first + rank lack index → IsAddressable h.cluster_bits place
      → new ≡ with_raw_entry mid index (place * 2 ^ h.cluster_bits) → NamesBefore index old mid → NamesBefore (index + 1) old new
  named-then index place old mid new low is inside at reach made before = subst (λ (t : TableValue). NamesBefore (index + 1) old t) (sym made) (record {
    layout = before.layout;
    placed = before.placed;
    long = length-set mid.raw_entries index (place * 2 ^ h.cluster_bits) ∙ before.long;
    news = λ i lt is'. elim (cases_eq i index) [
      | inl here ↦ subst (λ n. block_offset (slice_index (with_raw_entry mid index (place * 2 ^ h.cluster_bits)).raw_entries n) ≡ (run.first + rank lack n) * cluster_size h) (sym here)
          (ap block_offset (get_or-set_same mid.raw_entries index (place * 2 ^ h.cluster_bits) 0 inside) ∙ block_named h.cluster_bits place low reach ∙ ap (λ n. n * 2 ^ h.cluster_bits) at)
      | inr away ↦ ap block_offset (get_or-set_other mid.raw_entries index i (place * 2 ^ h.cluster_bits) 0 away) ∙ before.news i (omega (arith, lt, away)) is'
    ];
    olds = λ i off. get_or-set_other mid.raw_entries index i (place * 2 ^ h.cluster_bits) 0 (λ same. absurd (let both : true ≡ false = sym is ∙ ap lack (sym same) ∙ off in cc both)) ∙ before.olds i off;
    table = λ is bits. entered refcount_table_kind mid.layout mid.raw_entries index (place * 2 ^ h.cluster_bits) mid.cluster mid.cluster mid.modified true (before.table is bits)
        (subst (λ b. IsTrue (reftable_entry_valid b (place * 2 ^ h.cluster_bits))) (sym (ap (λ (l : Layout). l.cluster_bits) before.layout ∙ bits)) (block_word_named h.cluster_bits (Some place) low reach))
        (omega (arith, reach));
  })

  pub named-all : (end : ℕ) (old new : TableValue) → ((i : ℕ) → lack i ≡ true → i < end) → NamesBefore end old new → LinksNewBlocks h was run old new
  named-all end old new all before = record {
    layout = before.layout;
    placed = before.placed;
    long = before.long;
    news = λ i is. before.news i (all i is) is;
    olds = before.olds;
    table = before.table;
  }

pub lack-here : (h : Fields) (was : TableValue) (run : Run) (i : ℕ) → block_offset (slice_index was.raw_entries i) ≡ 0 → run.first / counters_of_block h ≤ i → i * counters_of_block h < run.first + run.len → lack h was run i ≡ true
lack-here h was run i none from to = is-lacking (block_offset (slice_index was.raw_entries i)) (run.first / counters_of_block h) i (i * counters_of_block h) (run.first + run.len) none from to
  where
    is-lacking : (w a j p e : ℕ) → w ≡ 0 → a ≤ j → p < e → ((w == 0) && (nat_le a j && nat_lt p e)) ≡ true
    is-lacking w a j p e none from to = grind (arith, nat_tests)

-- The cluster of a missing block is inside the run.
pub place-inside : (h : Fields) (was : TableValue) (run : Run) (i : ℕ) → 0 < counters_of_block h → lack h was run i ≡ true → lacking was (counters_of_block h) run.first run.len ≤ run.len → rank (lack h was run) i + 1 ≤ run.len
place-inside h was run i some is room =
    let to = (lacks-inside was (counters_of_block h) run.first run.len i is).1 in
    let le : i * 1 ≤ i * counters_of_block h = mul-le-mul (omega arith) some in
    let before = rank-before h was run i (run.first + run.len) (omega (arith, to, le)) is in
    omega (arith, before, room)

pub lack-inside : (h : Fields) (was : TableValue) (run : Run) (end i : ℕ) → run.first + run.len ≤ end * counters_of_block h → lack h was run i ≡ true → i < end
lack-inside h was run end i past is = elim (cases_lt i end) [
  | inl lt ↦ lt
  | inr from ↦
      let le : end * counters_of_block h ≤ i * counters_of_block h = mul-le-mul_right (counters_of_block h) from in
      let to = (lacks-inside was (counters_of_block h) run.first run.len i is).1 in
      absurd (omega (arith, le, to, past))
]

pub word-inside : (index k raw_entries end : ℕ) → 0 < k → index * k < end → end ≤ raw_entries * k → index < raw_entries
word-inside index k raw_entries end some lt le = elim (cases_lt index raw_entries) [
  | inl less ↦ less
  | inr past ↦ let far : raw_entries * k ≤ index * k = mul-le-mul_right k past in absurd (omega (arith, lt, le, far))
]

pub place-namable : (bits first len place : ℕ) → first ≢ 0 → IsAddressable bits (first + (len - 1)) → first ≤ place → place < first + len → CanBeReferenced bits (Some place)
place-namable bits first len place some reach from to =
    let less : place * 2 ^ bits ≤ (first + (len - 1)) * 2 ^ bits = mul-le-mul_right (2 ^ bits) (omega (arith, to)) in
    let there = place-there (2 ^ bits) place (pow_pos bits) (λ none. some (omega (arith, from, none))) in
    record { placed = omega (arith, less, reach); cluster_nonzero = omega (arith, there) }

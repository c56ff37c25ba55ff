-- The clusters that several new blocks take, when they are made in order.
use Rattle.std.proofs.Common.{Ok, ◌≡◌, ◌≢◌, ℕ, ◌+◌, ◌*◌, ◌/◌, ◌<◌, ◌≤◌, refl, arith, ap, sym, subst, ◌∙◌, inl, inr}
use Rattle.std.specs.Prelude.{IsTrue, slice_index}
use Rattle.std.proofs.lemmas.Bool.{cases_Bool, cases_eq, cases_lt}
use Rattle.std.proofs.Math.Nat.{mul-le-mul, div-mul-le_self}
use Rattle.std.proofs.lemmas.Nat.{le-div}
use Rattle.imago_storage.specs.State.{StorageState}
use Rattle.imago_storage.proofs.Composing.{keeps_on}
use Rattle.qcow2_types.proofs.Counting.Counters.{some-counters}
use Rattle.qcow2_types.specs.Counts.{counters_of_block}
use Rattle.qcow2_types.specs.Header.{Header}
use Rattle.qcow2_types.specs.Words.{block_offset}
use Rattle.qcow2_metadata.specs.Tables.{TableValue}
use Rattle.qcow2_alloc.specs.declared.allocation.readying_runs.Provision.{Provision}
use Rattle.qcow2_alloc.specs.declared.cache.CacheDependency.TheVariants.{L2DependsOnRb}
use Rattle.qcow2_alloc.specs.declared.cache.MetadataCaches.{MetadataCaches}
use Rattle.qcow2_alloc.specs.declared.file.ImageFile.{ImageFile}
use Rattle.qcow2_alloc.specs.Allocating.{MakesBlock, MakesBlocks}
use Rattle.qcow2_alloc.specs.Allocators.{metadata_of}
use Rattle.qcow2_alloc.specs.Caches.{order_of}
use Rattle.qcow2_alloc.specs.FillingBlocks.{IsBlockPlaced, FillsFrom, made_for}
use Rattle.qcow2_alloc.specs.Growing.{lacks, lacking}
use Rattle.qcow2_alloc.specs.GuestView.{Metadata, IsSound, counted}
use Rattle.qcow2_alloc.specs.State.{ImageState, image_state, metadata}
use Rattle.qcow2_alloc.proofs.Growth.FirstRooms.{rank-almost, rank-more, rank-fewer, lacks-inside, lacks-none, lacks-so}
use Rattle.qcow2_alloc.proofs.Blocks.BlockRows.{so}
use Rattle.qcow2_alloc.proofs.Memory.Patches.{shaped-in}
use Rattle.qcow2_alloc.proofs.GuestView.QuietCounters.{away-none}

pub lacking-fewer : (t t' : TableValue) (k first n : ℕ) → ((i : ℕ) → block_offset (slice_index t'.raw_entries i) ≡ 0 → block_offset (slice_index t.raw_entries i) ≡ 0) → lacking t' k first n ≤ lacking t k first n
lacking-fewer t t' k first n from =
    rank-more (lacks t' k first n) (lacks t k first n) (first + n) (λ i lt is.
    let inside = lacks-inside t' k first n i is in
    lacks-so t k first n i (from i (lacks-none t' k first n i is)) inside.0 inside.1)

pub lacking-less : (t t' : TableValue) (k first n i : ℕ) → ((j : ℕ) → block_offset (slice_index t'.raw_entries j) ≡ 0 → block_offset (slice_index t.raw_entries j) ≡ 0) → 0 < k → first / k ≤ i → i * k < first + n
    → block_offset (slice_index t.raw_entries i) ≡ 0 → block_offset (slice_index t'.raw_entries i) ≢ 0 → lacking t' k first n + 1 ≤ lacking t k first n
lacking-less t t' k first n i from some low inside none there =
    let le : i * 1 ≤ i * k = mul-le-mul (omega arith) some in
    rank-fewer (lacks t' k first n) (lacks t k first n) i (first + n)
    (λ j lt is. let within = lacks-inside t' k first n j is in lacks-so t k first n j (from j (lacks-none t' k first n j is)) within.0 within.1)
    (omega (arith, inside, le)) (lacks-so t k first n i none low inside)
    (elim (cases_Bool (lacks t' k first n i)) [ inl is ↦ absurd (there (lacks-none t' k first n i is)) | inr gone ↦ gone ])

module _ (mark index : ℕ) (m : Metadata) where
  abbrev k : ℕ
  k = counters_of_block m.header.fields

  pub fills-none : FillsFrom mark index index m m
  fills-none = record { fewer = λ first n. omega arith; fewer_by_range = λ first n. omega arith; taken_before_end = λ first n z low all above own free c changed. absurd (changed refl); own = λ c changed. absurd (changed refl) }

  module _ (c : ℕ) (mA : Metadata) (fills : FillsFrom mark index c m mA) where
    pub fills-there : FillsFrom mark index (c + 1) m mA
    fills-there = record { fewer = fills.fewer; fewer_by_range = λ first n. let le = fills.fewer_by_range first n in omega (arith, le); taken_before_end = λ first n z low all. fills.taken_before_end first n z low (λ i lt. all i (omega (arith, lt))); own = λ x changed. let at = fills.own x changed in let lt = at.2 in (at.0, at.1, omega (arith, lt), at.3) }

    -- One more block is made.
    module _ (mB : Metadata) (header : mA.header ≡ m.header) (placed : IsBlockPlaced mark c mA mB) (some : 0 < k) (above : index ≤ c) (named : (i : ℕ) → index ≤ i → i < c → block_offset (slice_index mA.table.raw_entries i) ≢ 0)
        (none : block_offset (slice_index mA.table.raw_entries c) ≡ 0) (there : block_offset (slice_index mB.table.raw_entries c) ≢ 0) (others : (i : ℕ) → i ≢ c → slice_index mB.table.raw_entries i ≡ slice_index mA.table.raw_entries i) where
      still-none : (i : ℕ) → block_offset (slice_index mB.table.raw_entries i) ≡ 0 → block_offset (slice_index mA.table.raw_entries i) ≡ 0
      still-none i is = elim (cases_eq i c) [ inl here ↦ absurd (there (subst (λ j. block_offset (slice_index mB.table.raw_entries j) ≡ 0) here is)) | inr apart ↦ ap block_offset (sym (others i apart)) ∙ is ]

      fewer : (first n : ℕ) → lacking mB.table k first n ≤ lacking mA.table k first n
      fewer first n = lacking-fewer mA.table mB.table k first n still-none

      own : placed.place ≤ c * k
      own = subst (λ (H : Header). placed.place ≤ c * counters_of_block H.fields) header placed.own

      first-free : (w : ℕ) → mark ≤ w → w < c * k → block_offset (slice_index mA.table.raw_entries (w / k)) ≢ 0 → counted mA w ≡ 0 → placed.place ≤ w
      first-free = subst (λ (H : Header). (w : ℕ) → mark ≤ w → w < c * counters_of_block H.fields → block_offset (slice_index mA.table.raw_entries (w / counters_of_block H.fields)) ≢ 0 → counted mA w ≡ 0 → placed.place ≤ w) header placed.first

      one-at-most : (first n : ℕ) → lacking mA.table k first n ≤ lacking mB.table k first n + 1
      one-at-most first n = rank-almost (lacks mB.table k first n) (lacks mA.table k first n) c (first + n) (λ i apart is.
          let inside = lacks-inside mA.table k first n i is in
          lacks-so mB.table k first n i (ap block_offset (others i apart) ∙ lacks-none mA.table k first n i is) inside.0 inside.1)

      -- The block isn't placed after a free cluster `w`.
      no-later : (w : ℕ) → mark ≤ w → index ≤ w / k → counted mA w ≡ 0 → placed.place ≤ w
      no-later w behind low zero = elim (cases_lt w (c * k)) [
        | inl before ↦ elim (cases_lt (w / k) c) [
          | inl inside ↦ first-free w behind before (named (w / k) low inside) zero
          | inr past ↦ absurd (let le : c * k ≤ w / k * k = mul-le-mul past (omega arith) in let own' = div-mul-le_self w k in omega (arith, le, own', before))
        ]
        | inr past ↦ let le = own in omega (arith, le, past)
      ]

      pub fills-then : FillsFrom mark index (c + 1) m mB
      fills-then = record {
        fewer = λ first n. let one = fewer first n in let two = fills.fewer first n in omega (arith, one, two);
        fewer_by_range = λ first n. let one = one-at-most first n in let two = fills.fewer_by_range first n in omega (arith, one, two, above);
        taken_before_end = λ first n z low all behind at free x changed.
            let less : lacking mB.table k first n + 1 ≤ lacking mA.table k first n = lacking-less mA.table mB.table k first n c still-none some (omega (arith, low, above)) (all c (omega arith)) none there in
            let two : lacking mA.table k first n ≤ lacking m.table k first n = fills.fewer first n in
            let before : (y : ℕ) → counted mA y ≢ counted m y → y < z + made_for m mA first n =
            fills.taken_before_end first n z low (λ i lt. all i (omega (arith, lt))) behind at (λ y from to. free y from (omega (arith, to, less, two))) in
            elim (cases_eq (counted mA x) (counted m x)) [
              | inr other ↦ let lt = before x other in omega (arith, lt, less, two)
              | inl same ↦
                  let raised = placed.raised x in
                  let x-is : x ≡ placed.place = elim (cases_eq x placed.place) [ inl here ↦ here | inr apart ↦ absurd (let away = away-none placed.place x apart in changed (omega (arith, raised, same, away))) ] in
                  let w : ℕ = z + made_for m mA first n in
                  let zero : counted mA w ≡ 0 = elim (cases_eq (counted mA w) (counted m w)) [
                    | inl has_no_dirty_data ↦ let nothing = free w (omega arith) (omega (arith, less, two)) in omega (arith, has_no_dirty_data, nothing)
                    | inr other ↦ absurd (let lt = before w other in omega (arith, lt))
                  ] in
                  let low' : index ≤ w / k = (let under = div-mul-le_self z k in le-div index w k some (let is : index * k ≡ z / k * k = ap (λ n. n * k) (sym at) in omega (arith, under, is))) in
                  let le = no-later w (omega (arith, behind)) low' zero in
                  omega (arith, x-is, le, less, two)
            ];
        own = λ x changed. elim (cases_eq (counted mA x) (counted m x)) [
          | inr other ↦ let at = fills.own x other in let lt = at.2 in (at.0, at.1, omega (arith, lt), at.3)
          | inl same ↦
              let raised = placed.raised x in
              let x-is : x ≡ placed.place = elim (cases_eq x placed.place) [ inl here ↦ here | inr apart ↦ absurd (let away = away-none placed.place x apart in changed (omega (arith, raised, same, away))) ] in
              (c, above, omega arith, let le = own in omega (arith, x-is, le))
        ];
      }

-- One turn of the loop that makes blocks.
module _ {S : Type 0} (state : S → StorageState) (mark : ℕ) (sA : ImageState S) (first c : ℕ) (made : Provision) (tB : TableValue) (B : MetadataCaches S) (fB : ImageFile S) (one : MakesBlocks state first c sA (so made) (image_state tB B fB sA.pending)) where
  abbrev Start : Metadata
  Start = metadata state sA

  abbrev Mid : Metadata
  Mid = metadata_of state fB B tB sA.pending

  pub turn-fills : block_offset (slice_index tB.raw_entries c) ≡ 0 → first ≤ c → (tC : TableValue) (C : MetadataCaches S) (fC : ImageFile S) → MakesBlock state c (image_state tB B fB sA.pending) (Ok tt) (image_state tC C fC sA.pending)
      → (order_of B ≡ L2DependsOnRb → IsTrue (state fB.image).shape.keeps → IsSound Mid → IsBlockPlaced mark c Mid (metadata_of state fC C tC sA.pending))
      → order_of sA.caches ≡ L2DependsOnRb → IsTrue (state sA.file.image).shape.keeps → IsSound Start → FillsFrom mark first c Start Mid → FillsFrom mark first (c + 1) Start (metadata_of state fC C tC sA.pending)
  turn-fills none above tC C fC two placed order keeps sound fills =
      let guest_unchanged = one.step.guest_unchanged order in
      let has_no_dirty_data = (guest_unchanged.holds keeps sound tt).0 in
      fills-then mark first Start c Mid fills (metadata_of state fC C tC sA.pending) one.header (placed (one.step.order ∙ order) (keeps_on (state sA.file.image) (state fB.image) guest_unchanged.shape keeps) has_no_dirty_data)
      (some-counters sA.file.header.fields (shaped-in Start.file Start.header sound.well_formed.consistent)) above one.named none two.named two.others

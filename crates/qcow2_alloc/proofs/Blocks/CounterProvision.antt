-- Readying a counter for a cluster: an entry of the refcount table, and a block.
use Rattle.std.proofs.Common.{true, false, ◌≡◌, ◌≢◌, ℕ, ◌+◌, ◌*◌, ◌/◌, ◌^◌, ◌<◌, ◌≤◌, ◌++◌, refl, arith, ap, sym, subst, ◌∙◌, inl, inr, length, Bool, Result, Ok, Err}
use Rattle.std.specs.Prelude.{⊤, IsTrue, OnOk, OnErr, MatchResult}
use Rattle.std.proofs.lemmas.Bool.{cases_eq}
use Rattle.std.proofs.lemmas.Nat.{div-add-mod'}
use Rattle.std.proofs.Math.Nat.{mul-le-mul_right}
use Rattle.imago_storage.specs.State.{StorageState}
use Rattle.imago_storage.specs.declared.fault.Fault.{Fault}
use Rattle.imago_storage.specs.declared.fault.Fault.TheVariants.{CacheFull, Limit}
use Rattle.imago_storage.proofs.Composing.{keeps_on}
use Rattle.qcow2_types.specs.Counts.{counters_of_block}
use Rattle.qcow2_types.specs.Header.{Header, entries_of_cluster}
use Rattle.qcow2_types.specs.Switched.{with_refcount_table}
use Rattle.qcow2_metadata.specs.Tables.{IsGrownLength, TableValue}
use Rattle.qcow2_metadata.specs.Places.{IsAddressable}
use Rattle.qcow2_alloc.specs.declared.allocation.readying_runs.Provision.{Provision}
use Rattle.qcow2_alloc.specs.declared.allocation.handing_out.Readiness.{Readiness}
use Rattle.qcow2_alloc.specs.declared.allocation.handing_out.Readiness.TheVariants.{Ready, NoPlace}
use Rattle.qcow2_alloc.specs.declared.cache.CacheDependency.TheVariants.{L2DependsOnRb}
use Rattle.qcow2_alloc.specs.declared.cache.MetadataCaches.{MetadataCaches}
use Rattle.qcow2_alloc.specs.declared.file.ImageFile.{ImageFile}
use Rattle.qcow2_alloc.specs.Allocating.{Allocating, MakesBlocks, MovedTable, allocating_causes}
use Rattle.qcow2_alloc.specs.Allocators.{metadata_of}
use Rattle.qcow2_alloc.specs.Caches.{order_of}
use Rattle.qcow2_alloc.specs.Causes.{HasCause, FailsFor}
use Rattle.qcow2_alloc.specs.FillingBlocks.{FillsFrom}
use Rattle.qcow2_alloc.specs.Freeing.{HasUnpinnedRoom}
use Rattle.qcow2_alloc.specs.Going.{HadNoResourceError}
use Rattle.qcow2_alloc.specs.GrowingTables.{GrowsTable, IsInFreeAreaToGrow, IsLengthenedByTable, NoPlaceToGrow, table_run}
use Rattle.qcow2_alloc.specs.HandingOutOne.{AllocatesByAnswer, ReadiesCounter, ReadiesRawEntry, leaked_by, tells_limit}
use Rattle.qcow2_alloc.specs.GuestView.{IsSound, counted}
use Rattle.qcow2_alloc.specs.State.{image_state, metadata, IsGuarded, with_first_free, AllocatorState}
use Rattle.qcow2_alloc.proofs.Causes.{cause-weaker, cause-told}
use Rattle.qcow2_alloc.proofs.Blocks.BlockCreationCalls.{allocating-weaker}
use Rattle.qcow2_alloc.proofs.Handing.CountSequences.{allocating-none, allocating-as, allocating-then}
use Rattle.qcow2_alloc.proofs.Blocks.RunProvision.{leaks-none}
use Rattle.qcow2_alloc.proofs.Blocks.BlockRows.{so, refused}
use Rattle.qcow2_alloc.proofs.Space.RoomConsumption.{covered-inside}

abbrev pub ready_so : Readiness → Result Readiness Fault
ready_so answer = Ok answer

abbrev pub not_ready : Fault → Result Readiness Fault
not_ready fault = Err fault

-- Lemmas on numbers and results only. They are outside the modules below, so that a proof search doesn't visit all facts of an image.
unchanged : (n : ℕ) → n ≤ n
unchanged n = omega arith

behind : (n : ℕ) → n < n + 1
behind n = omega arith

not-more : (new old : ℕ) → new ≡ old → old ≡ 0 → 0 < new → ⊥
not-more new old same none more = omega arith

some-more : (new old more : ℕ) → new ≡ old + more → old ≡ 0 → 0 < new → 0 < more
some-more new old more is none some = omega arith

some-of : (n : ℕ) → n ≢ 0 → 0 < n
some-of n some = omega arith

longer-than : (a b n : ℕ) → a ≤ n → n < b → a < b
longer-than a b n le lt = omega arith

one-index : (i n : ℕ) → n ≤ i → i < n + 1 → i ≡ n
one-index i n above below = omega arith

before-all : (c k n : ℕ) → n ≤ c / k * k → n ≤ c
before-all c k n le = let shape = div-add-mod' c k in omega (arith, le, shape)

nearer : (bits a b : ℕ) → a ≤ b → IsAddressable bits b → IsAddressable bits a
nearer bits a b le reach = let more = mul-le-mul_right (2 ^ bits) le in omega (arith, reach, more)

ready-apart : Ready ≡ NoPlace → ⊥
ready-apart is = cc is

ok-apart : (r : Result Unit Fault) → r ≡ Ok tt → r ≡ Err CacheFull → ⊥
ok-apart r ok full = let e = sym ok ∙ full in cc e

limit-apart : (r : Result Unit Fault) (number : ℕ) → r ≡ Err (Limit number) → r ≡ Err CacheFull → ⊥
limit-apart r number limit full = let e = sym limit ∙ full in cc e

same-fault : (r : Result Unit Fault) (fault : Fault) → r ≡ Err fault → r ≡ Err CacheFull → not_ready fault ≡ Err CacheFull
same-fault r fault is at = let e = sym is ∙ at in cc e

of-ok : {P : Type 0} (r : Result Unit Fault) → r ≡ Ok tt → OnOk r P → P
of-ok (Ok done) is p = p
of-ok (Err fault) is p = absurd (cc is)

of-cause : (P : Fault → Type 0) (before after : ℕ) (r : Result Unit Fault) → r ≡ Ok tt → MatchResult r (λ _. after ≡ before) P → after ≡ before
of-cause P before after (Ok done) is same = same
of-cause P before after (Err fault) is same = absurd (cc is)

-- An error other than `Fault::Limit` has the same cause under another `full`.
pub never-limit : (sound : Type 0) (loose : Bool → Type 0) (full full' : ℕ → Type 0) (before after : ℕ) (fault : Fault) → ((number : ℕ) → fault ≢ Limit number) → HasCause (allocating_causes sound loose full before after) fault → HasCause (allocating_causes sound loose full' before after) fault
never-limit sound loose full full' before after fault other why = cause-weaker (record { before = unchanged before; after = unchanged after; damaged = λ wrong. wrong; counter = λ wrong. wrong; full = λ none. none; limit = λ number told. absurd (other number told.0) }) fault (cause-told _ fault why)

pub limit-told : (fault : Fault) → tells_limit fault ≡ true → (number : ℕ) × (fault ≡ Limit number)
limit-told (Limit number) is = (number, refl)
limit-told fault is = absurd (cc is)

pub limit-untold : (fault : Fault) → tells_limit fault ≡ false → (number : ℕ) → fault ≢ Limit number
limit-untold fault none number is = let told = sym (ap (λ (f : Fault). tells_limit f) is) ∙ none in cc told

module _ {S : Type 0} (state : S → StorageState) (cluster : ℕ) (s : AllocatorState S) where
  abbrev k : ℕ
  k = counters_of_block s.file.header.fields

  -- No step was needed.
  stands : (answer : Readiness) → AllocatesByAnswer state leaked_by s.image (ready_so answer) s.image
  stands answer = record {
    leaked = λ _. 0;
    leaks = leaks-none _ _ (ready_so answer);
    step = allocating-none state s.image;
    list = inl refl;
    cause = refl;
  }

  pub word-stands : cluster / k < length s.table.raw_entries → ReadiesRawEntry state cluster s (ready_so Ready) s
  word-stands inside = record { did = stands Ready; mark = refl; ready_covers_cluster = λ yes. inside; barred = λ order keeps sound no. absurd (ready-apart no); taken_up_to_cluster = λ order keeps sound c none more. absurd (not-more _ _ refl none more) }

  -- The table has no entry for the cluster, so it grows.
  module _ (past : length s.table.raw_entries ≤ cluster / k) (result : Result Unit Fault) (s' : AllocatorState S) (grows : GrowsTable state (cluster / k) s result s') where
    grown-list : (r : Result Unit Fault) → OnOk r (IsGrownLength (entries_of_cluster s.file.header.fields) k (cluster / k) (length s'.table.raw_entries)) → OnOk r (s'.pending ≡ s.pending ++ table_run s.file.header.fields) → OnErr r (s'.pending ≡ s.pending)
        → IsLengthenedByTable s.file.header.fields s.table s'.table s.pending s'.pending
    grown-list (Ok done) grown waits kept = inr (longer-than _ _ _ past grown.enough.above, waits)
    grown-list (Err fault) grown waits kept = inl kept

    no-leak : (result ≡ Err CacheFull → ⊥) → (c : ℕ) → grows.leaked c ≡ 0
    no-leak = grows.leaks.none

    pub word-made : result ≡ Ok tt → ReadiesRawEntry state cluster s (ready_so Ready) s'
    word-made ok = record {
      did = record {
        leaked = λ _. 0;
        leaks = leaks-none _ _ (ready_so Ready);
        step = allocating-as state (HadNoResourceError result) (HadNoResourceError (ready_so Ready)) grows.leaked (λ _. 0) s.image s'.image (λ whole. subst (λ (r : Result Unit Fault). HadNoResourceError r) (sym ok) tt) (no-leak (ok-apart result ok)) grows.step;
        list = grown-list result grows.enough grows.waits grows.unchanged_on_error;
        cause = of-cause _ _ _ result ok grows.cause;
      };
      mark = grows.mark;
      ready_covers_cluster = λ yes. (of-ok result ok grows.enough).enough.above;
      barred = λ order keeps sound no. absurd (ready-apart no);
      taken_up_to_cluster = λ order keeps sound c none more. inr (in-room order keeps sound c none more);
    }
      where
        in-room : order_of s.caches ≡ L2DependsOnRb → IsTrue (state s.file.image).shape.keeps → IsSound (metadata state s.image) → (c : ℕ) → counted (metadata state s.image) c ≡ 0 → 0 < counted (metadata state s'.image) c
            → IsInFreeAreaToGrow (metadata state s.image) s.mark (cluster / k) c
        in-room order keeps sound c none more =
            let grown = of-ok result ok (grows.grown order keeps sound) in
            let inside = covered-inside c grown.first grown.total (some-more _ _ _ (grown.counts c) none more) in
            (past, grown.first, grown.total, grown.clusters, grown.room, inside.0, inside.1)

    -- If growing ends with `Fault::Limit`, the result is `NoPlace`.
    pub word-barred : (number : ℕ) → result ≡ Err (Limit number) → ReadiesRawEntry state cluster s (ready_so NoPlace) s'
    word-barred number limit = record {
      did = record {
        leaked = λ _. 0;
        leaks = leaks-none _ _ (ready_so NoPlace);
        step = allocating-as state (HadNoResourceError result) (HadNoResourceError (ready_so NoPlace)) grows.leaked (λ _. 0) s.image s'.image (λ whole. subst (λ (r : Result Unit Fault). HadNoResourceError r) (sym limit) tt) (no-leak (limit-apart result number limit)) grows.step;
        list = grown-list result grows.enough grows.waits grows.unchanged_on_error;
        cause = cause.1;
      };
      mark = grows.mark;
      ready_covers_cluster = λ yes. absurd (ready-apart (sym yes));
      barred = λ order keeps sound no. inr (past, number, cause.0 order keeps sound);
      taken_up_to_cluster = λ order keeps sound c none more. absurd (not-more _ _ (grows.barred order keeps sound number limit c) none more);
    }
      where
        cause : (order_of s.caches ≡ L2DependsOnRb → IsTrue (state s.file.image).shape.keeps → IsSound (metadata state s.image) → NoPlaceToGrow (metadata state s.image) s.mark (cluster / k) number) × ((state s'.file.image).faults ≡ (state s.file.image).faults)
        cause = subst (λ (r : Result Unit Fault). FailsFor (allocating_causes (IsGuarded state s.image) (HasUnpinnedRoom s.table s.caches)
            (λ n. order_of s.caches ≡ L2DependsOnRb → IsTrue (state s.file.image).shape.keeps → IsSound (metadata state s.image) → NoPlaceToGrow (metadata state s.image) s.mark (cluster / k) n)
            (state s.file.image).faults (state s'.file.image).faults) r) limit grows.cause

    -- Any other error is returned.
    pub word-refused : (fault : Fault) → result ≡ Err fault → ((number : ℕ) → fault ≢ Limit number) → ReadiesRawEntry state cluster s (not_ready fault) s'
    word-refused fault is other = record {
      did = record {
        leaked = grows.leaked;
        leaks = record { none = λ full. grows.leaks.none (λ at. full (same-fault result fault is at)); pinned = grows.leaks.pinned };
        step = allocating-as state (HadNoResourceError result) (HadNoResourceError (not_ready fault)) grows.leaked grows.leaked s.image s'.image (λ whole. subst (λ (r : Result Unit Fault). HadNoResourceError r) (sym is) whole) (λ c. refl) grows.step;
        list = grown-list result grows.enough grows.waits grows.unchanged_on_error;
        cause = never-limit _ _ _ _ _ _ fault other (subst (λ (r : Result Unit Fault). FailsFor (allocating_causes (IsGuarded state s.image) (HasUnpinnedRoom s.table s.caches)
            (λ n. order_of s.caches ≡ L2DependsOnRb → IsTrue (state s.file.image).shape.keeps → IsSound (metadata state s.image) → NoPlaceToGrow (metadata state s.image) s.mark (cluster / k) n)
            (state s.file.image).faults (state s'.file.image).faults) r) is grows.cause);
      };
      mark = grows.mark;
      ready_covers_cluster = tt;
      barred = λ order keeps sound. tt;
      taken_up_to_cluster = λ order keeps sound. tt;
    }

  -- The table has an entry for the cluster, and its block is made.
  module _ (mid : AllocatorState S) where
    pub counter-barred : ReadiesRawEntry state cluster s (ready_so NoPlace) mid → ReadiesCounter state cluster s (ready_so NoPlace) mid
    counter-barred raw_entry = record { did = raw_entry.did; mark = raw_entry.mark; ready_covers_cluster = λ yes. absurd (ready-apart (sym yes)); barred = raw_entry.barred; taken_up_to_cluster = raw_entry.taken_up_to_cluster }

    module _ (raw_entry : ReadiesRawEntry state cluster s (ready_so Ready) mid) (reach : IsAddressable s.file.header.fields.cluster_bits cluster) (table' : TableValue) (new : MetadataCaches S) (after : ImageFile S) (mark' : ℕ) (has_no_dirty_data : mark' ≡ mid.mark) where
      header-moved : (P : Header → Type 0) → P (with_refcount_table s.file.header raw_entry.did.step.moved.0 raw_entry.did.step.moved.1) → P mid.file.header
      header-moved P p = subst P (sym raw_entry.did.step.moved.2) p

      near : (i : ℕ) → cluster / k ≤ i → i < cluster / k + 1 → IsAddressable mid.file.header.fields.cluster_bits (i * counters_of_block mid.file.header.fields)
      near i above below = header-moved (λ (H : Header). IsAddressable H.fields.cluster_bits (i * counters_of_block H.fields)) (
          subst (λ j. IsAddressable s.file.header.fields.cluster_bits (j * k)) (sym (one-index i (cluster / k) above below))
          (nearer s.file.header.fields.cluster_bits (cluster / k * k) cluster (before-all cluster k (cluster / k * k) (unchanged (cluster / k * k))) reach))

      never-far : (number : ℕ) → ((i : ℕ) × (cluster / k ≤ i) × (i < cluster / k + 1) × (number ≤ i * counters_of_block mid.file.header.fields) × (IsAddressable mid.file.header.fields.cluster_bits number → ⊥)) → ⊥
      never-far number (i, above, below, le, far) = far (nearer mid.file.header.fields.cluster_bits number _ le (near i above below))

      both : (ok' : Type 0) → Allocating state ok' (λ _. 0) mid.image (image_state table' new after mid.pending) → Allocating state ok' (λ _. 0) s.image (image_state table' new after mid.pending)
      both ok' two = allocating-as state ok' ok' (λ c. leaked_by (ready_so Ready) raw_entry.did.leaked c + 0) (λ _. 0) s.image (image_state table' new after mid.pending) (λ o. o) (λ c. refl)
          (allocating-then state ⊤ ok' (leaked_by (ready_so Ready) raw_entry.did.leaked) (λ _. 0) s.image mid.image (image_state table' new after mid.pending) tt raw_entry.did.step two)

      blocks-behind : IsLengthenedByTable s.file.header.fields s.table mid.table s.pending mid.pending → length table'.raw_entries ≡ length mid.table.raw_entries → IsLengthenedByTable s.file.header.fields s.table table' s.pending mid.pending
      blocks-behind (inl same) long = inl same
      blocks-behind (inr (longer, waits)) long = inr (subst (λ n. length s.table.raw_entries < n) (sym long) longer, waits)

      holds-still : IsGuarded state s.image → IsGuarded state mid.image
      holds-still holds = let guest_unchanged = raw_entry.did.step.guest_unchanged holds.1 in (keeps_on (state s.file.image) (state mid.file.image) guest_unchanged.shape holds.0, raw_entry.did.step.order ∙ holds.1, (guest_unchanged.holds holds.0 holds.2 tt).0)

      pub counter-made : (made : Provision) → MakesBlocks state (cluster / k) (cluster / k + 1) mid.image (so made) (image_state table' new after mid.pending)
          → (order_of mid.caches ≡ L2DependsOnRb → IsTrue (state mid.file.image).shape.keeps → IsSound (metadata state mid.image)
          → FillsFrom s.mark (cluster / k) (cluster / k + 1) (metadata state mid.image) (metadata_of state after new table' mid.pending))
          → ReadiesCounter state cluster s (ready_so Ready) (with_first_free (image_state table' new after mid.pending) mark')
      counter-made made blocks fills = record {
        did = record {
          leaked = λ _. 0;
          leaks = leaks-none _ _ (ready_so Ready);
          step = both ⊤ blocks.step;
          list = blocks-behind raw_entry.did.list blocks.long;
          cause = blocks.cause ∙ raw_entry.did.cause;
        };
        mark = has_no_dirty_data ∙ raw_entry.mark;
        ready_covers_cluster = λ yes. blocks.named (cluster / k) (unchanged (cluster / k)) (behind (cluster / k));
        barred = λ order keeps sound no. absurd (ready-apart no);
        taken_up_to_cluster = λ order keeps sound c none more. elim (cases_eq (counted (metadata state mid.image) c) 0) [
          | inr made-before ↦ raw_entry.taken_up_to_cluster order keeps sound c none (some-of _ made-before)
          | inl has_no_dirty_data ↦
              let held = holds-still (keeps, order, sound) in
              let own = (fills held.1 held.0 held.2).own c (λ same. not-more _ _ same has_no_dirty_data more) in
              let size : counters_of_block mid.file.header.fields ≡ k = ap (λ (H : Header). counters_of_block H.fields) raw_entry.did.step.moved.2 in
              inl (before-all cluster k c (subst (λ i. c ≤ i * k) (one-index own.0 (cluster / k) own.1 own.2) (subst (λ x. c ≤ own.0 * x) size own.3)))
        ];
      }

      pub counter-unmade : (fault : Fault) → MakesBlocks state (cluster / k) (cluster / k + 1) mid.image (refused fault) (image_state table' new after mid.pending) → ReadiesCounter state cluster s (not_ready fault) (with_first_free (image_state table' new after mid.pending) mark')
      counter-unmade fault blocks = record {
        did = record {
          leaked = λ _. 0;
          leaks = leaks-none _ _ (not_ready fault);
          step = both (HadNoResourceError (not_ready fault)) blocks.step;
          list = blocks-behind raw_entry.did.list blocks.long;
          cause = cause-weaker (allocating-weaker holds-still raw_entry.did.step.keeps_unpinned_room never-far raw_entry.did.cause) fault blocks.cause;
        };
        mark = has_no_dirty_data ∙ raw_entry.mark;
        ready_covers_cluster = tt;
        barred = λ order keeps sound. tt;
        taken_up_to_cluster = λ order keeps sound. tt;
      }

-- Moving the refcount table doesn't change the index of a cluster's block.
pub index-moved : (H H' : Header) → MovedTable H H' → (cluster index : ℕ) → index ≡ cluster / counters_of_block H'.fields → index ≡ cluster / counters_of_block H.fields
index-moved H H' (offset, clusters, is) cluster index at = subst (λ (x : Header). index ≡ cluster / counters_of_block x.fields) is at

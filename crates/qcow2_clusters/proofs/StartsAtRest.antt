-- Changes that start with empty caches, with any dependency between them.
use Rattle.std.proofs.Common.{◌≡◌, ℕ, ◌+◌, ◌<◌, refl, arith, ap, sym, subst, ◌∙◌, List, [], ◌∷◌, Bool, true, false, cond, inl, inr, eq-eqb, Result}
use Rattle.std.specs.Prelude.{nat_eq, nat_lt, ◌&&◌}
use Rattle.std.proofs.lemmas.Bool.{cases_lt, lt-ltb}
use Rattle.std.proofs.lemmas.List.Sums.{sum_by-cons}
use Rattle.imago_storage.specs.State.{StorageState}
use Rattle.imago_storage.specs.declared.fault.Fault.{Fault}
use Rattle.qcow2_types.specs.Bytes.{Bytes, raw_entry}
use Rattle.qcow2_types.specs.Counts.{count}
use Rattle.qcow2_types.specs.Entries.{l1_table_sound}
use Rattle.qcow2_types.specs.Header.{Fields, Header}
use Rattle.qcow2_types.specs.Words.{l1_entry_valid}
use Rattle.qcow2_types.proofs.Counting.Bounded.{all-below}
use Rattle.qcow2_types.proofs.Counting.Sound.{all-below-holds}
use Rattle.qcow2_metadata.specs.Tables.{TableValue}
use Rattle.qcow2_metadata.proofs.TableFacts.{words_same}
use Rattle.qcow2_alloc.specs.declared.async_lru_cache.Slot.{Slot}
use Rattle.qcow2_alloc.specs.declared.cache.CacheDependency.{CacheDependency}
use Rattle.qcow2_alloc.specs.declared.cache.CacheDependency.TheVariants.{Unset, L2DependsOnRb, RbDependsOnL2}
use Rattle.qcow2_alloc.specs.declared.cache.MetadataCaches.{MetadataCaches}
use Rattle.qcow2_alloc.specs.Allocating.{MovedTable}
use Rattle.qcow2_alloc.specs.Caches.{KeepsTables, cached_in}
use Rattle.qcow2_alloc.specs.Finding.{PinsNothing, pinned_among, pinned_in}
use Rattle.qcow2_alloc.specs.Freeing.{HasUnpinnedRoom}
use Rattle.qcow2_alloc.specs.Going.{HadNoResourceError}
use Rattle.qcow2_alloc.specs.Memory.{Cached, memory}
use Rattle.qcow2_alloc.specs.Opening.{IsL1Of}
use Rattle.qcow2_alloc.specs.GuestView.{GuestUnchanged, IsSound, Metadata, PreservesGuest, counted}
use Rattle.qcow2_alloc.specs.WellFormedness.{IsOrdered, WellFormed}
use Rattle.qcow2_alloc.proofs.Caching.UnpinnedCaches.{loose-none}
use Rattle.qcow2_alloc.proofs.GuestView.QuietFlushes.{memory-quietly, order-quiet}
use Rattle.qcow2_clusters.specs.Flushed.{AreEmpty, Clusters, HasEntries, KeepsL1, changed, nothing_cached, flushed_metadata, storage}
use Rattle.qcow2_clusters.specs.WritingBack.{AreUnpinned, all_flushed}
use Rattle.qcow2_clusters.proofs.Settlement.{Unpinned, unpinned-tables}

-- A file that is ordered without a dependency is ordered with each one.
ordered-any : (order : CacheDependency) (f g : Bytes) (h : Fields) → IsOrdered Unset f g h → IsOrdered order f g h
ordered-any Unset f g h both = both
ordered-any L2DependsOnRb f g h both = both.0
ordered-any RbDependsOnL2 f g h both = both.1

-- An image that is consistent when flushed is so with empty caches and any dependency. The guest reads the same.
pub begun-quiet : (m : Metadata) → m.cached ≡ nothing_cached → IsSound (all_flushed m) → IsSound m × GuestUnchanged (λ _. 0) (λ _. 0) (all_flushed m) m
begun-quiet m none sound =
    let was = sound.well_formed in
    let well_formed : WellFormed m.file m.header nothing_cached m.order = record {
      consistent = was.consistent;
      tables_apart = was.tables_apart;
      blocks_apart = was.blocks_apart;
      tables = was.tables;
      blocks = was.blocks;
      apart = was.apart;
      ordered = ordered-any m.order m.file (memory m.file m.header.fields nothing_cached) m.header.fields was.ordered;
      covered = was.covered;
    } in
    subst (λ (cached : Cached). IsSound (record m { cached = cached }) × GuestUnchanged (λ _. 0) (λ _. 0) (all_flushed m) (record m { cached = cached })) (sym none)
    (order-quiet (all_flushed m) m.order sound well_formed)

pub begun-sound : (m : Metadata) → m.cached ≡ nothing_cached → IsSound (all_flushed m) → IsSound m
begun-sound m none sound = (begun-quiet m none sound).0

pub begun-quietly : (ok : Type 0) (s : StorageState) (m : Metadata) → m.cached ≡ nothing_cached → PreservesGuest ok (λ _. 0) (λ _. 0) s (all_flushed m) s m
begun-quietly ok s m none = memory-quietly ok (λ _. 0) (λ _. 0) s (all_flushed m) m (λ sound done. begun-quiet m none sound)

-- The refcounts are the same.
pub begun-counts : {S : Type 0} (state : S → StorageState) (c : Clusters S) → AreEmpty c.caches → (d : ℕ)
    → counted (changed state c) d ≡ counted (flushed_metadata state c) d
begun-counts state c empty d =
    ap (λ (cached : Cached). count (memory (flushed_metadata state c).file c.file.header.fields cached) c.file.header.fields d) empty

-- In empty caches nothing is pinned.
pub empty-unpinned : {S : Type 0} (caches : MetadataCaches S) → AreEmpty caches → AreUnpinned caches
empty-unpinned caches none = record {
  tables = subst (λ (c : Cached). Unpinned c.tables) (sym none) tt;
  blocks = subst (λ (c : Cached). Unpinned c.blocks) (sym none) tt;
}

-- So the caches have space for unpinned entries.
pub empty-loose : {S : Type 0} (table : TableValue) (caches : MetadataCaches S) → AreEmpty caches → HasEntries caches → HasUnpinnedRoom table caches false
empty-loose table caches none room = loose-none table caches (ap (λ (c : Cached). pinned_in c.blocks) none) room.blocks

-- If no entry is pinned under any key, no entry is pinned.
module _ {V : Type 0} where
  abbrev one_of : (ℕ → Bool) → ℕ × Slot V → ℕ
  one_of keys e = cond (keys e.0 && nat_lt 0 e.1.pins) 1 0

  one-own : (e : ℕ × Slot V) → 0 < e.1.pins → one_of (nat_eq e.0) e ≡ 1
  one-own e some = ap (λ b. cond (b && nat_lt 0 e.1.pins) 1 0) (eq-eqb e.0 e.0 refl) ∙ ap (λ b. cond b 1 0) (lt-ltb 0 e.1.pins some)

  pub pinless : (es : List (ℕ × Slot V)) → ((key : ℕ) → pinned_among (nat_eq key) es ≡ 0) → Unpinned es
  pinless [] none = tt
  pinless (e ∷ es) none = (
    elim (cases_lt 0 e.1.pins) [
      | inl some ↦
          let own = one-own e some in
          let parts : pinned_among (nat_eq e.0) (e ∷ es) ≡ one_of (nat_eq e.0) e + pinned_among (nat_eq e.0) es = sum_by-cons (one_of (nat_eq e.0)) e es in
          let all = none e.0 in
          absurd (omega (arith, own, parts, all))
      | inr none ↦ omega (arith, none)
    ],
    pinless es (λ key.
        let parts : pinned_among (nat_eq key) (e ∷ es) ≡ one_of (nat_eq key) e + pinned_among (nat_eq key) es = sum_by-cons (one_of (nat_eq key)) e es in
        let all = none key in
        omega (arith, parts, all)),
  )

-- Nothing is pinned after a call that keeps the tables and pins no block,
pub kept-unpinned : {S : Type 0} (old new : MetadataCaches S) → AreEmpty old → KeepsTables old new
    → ((key : ℕ) → pinned_among (nat_eq key) (cached_in new).blocks ≡ 0) → AreUnpinned new
kept-unpinned old new empty keeps none = record {
  tables = unpinned-tables (cached_in new).tables (cached_in old).tables keeps.entries (empty-unpinned old empty).tables;
  blocks = pinless (cached_in new).blocks none;
}

-- such as a call that frees,
pub freed-unpinned : {S : Type 0} (old new : MetadataCaches S) → AreEmpty old → KeepsTables old new
    → PinsNothing (cached_in old).blocks (cached_in new).blocks → AreUnpinned new
freed-unpinned old new empty keeps pins = kept-unpinned old new empty keeps (λ key.
    let were = ap (λ (c : Cached). pinned_among (nat_eq key) c.blocks) empty in
    let fewer = pins.among (nat_eq key) in
    omega (arith, were, fewer))

-- or one that allocates.
pub loose-unpinned : {S : Type 0} (table : TableValue) (old new : MetadataCaches S) → AreEmpty old → KeepsTables old new → HasUnpinnedRoom table new false → AreUnpinned new
loose-unpinned table old new empty keeps loose = kept-unpinned old new empty keeps (λ key. elim (cases_lt 0 (pinned_among (nat_eq key) (cached_in new).blocks)) [
  | inl some ↦ absurd (let no = (loose.named key some).0 in cc)
  | inr none ↦ omega (arith, none)
])

-- The L1 table in memory is still the file's if the file's L1 entries are unchanged.
sound-still : (f x : Bytes) (h : Fields) → ((i : ℕ) → i < h.l1_entries → raw_entry x h.l1_offset i ≡ raw_entry f h.l1_offset i) → l1_table_sound f h ≡ true → l1_table_sound x h ≡ true
unfolding l1_table_sound
sound-still f x h same sound = all-below-holds h.l1_entries (λ i. l1_entry_valid h.cluster_bits (raw_entry x h.l1_offset i)) (λ i lt.
    ap (l1_entry_valid h.cluster_bits) (same i lt) ∙ all-below h.l1_entries (λ j. l1_entry_valid h.cluster_bits (raw_entry f h.l1_offset j)) sound i lt)

pub l1-stays : (f x : Bytes) (H H' : Header) (l1 : TableValue) → MovedTable H H'
    → ((i : ℕ) → i < H.fields.l1_entries → raw_entry x H.fields.l1_offset i ≡ raw_entry f H.fields.l1_offset i) → IsL1Of f H.fields l1 → IsL1Of x H'.fields l1
unfolding l1_table_sound
l1-stays f x H H' l1 moved same of = subst (λ (K : Header). IsL1Of x K.fields l1) (sym moved.2) (record {
  layout = of.layout;
  raw_entries = of.raw_entries ∙ sym (words_same x f H.fields.l1_offset H.fields.l1_offset H.fields.l1_entries same);
  sound = sound-still f x H.fields same of.sound;
})

-- So it is after a call that preserves the guest.
pub l1-kept : {S T : Type 0} (state : S → StorageState) (c : Clusters S) (result : Result T Fault) (c' : Clusters S) (handed taken : ℕ → ℕ)
    → PreservesGuest (HadNoResourceError result) handed taken (storage state c) (flushed_metadata state c) (storage state c') (flushed_metadata state c') → KeepsL1 state c result c'
l1-kept state c result c' handed taken guest_unchanged ready whole l1 of =
    let both = guest_unchanged.holds ready.keeps ready.sound whole in
    l1-stays (flushed_metadata state c).file (flushed_metadata state c').file c.file.header c'.file.header l1 both.1.shows.moved both.1.shows.l1 of

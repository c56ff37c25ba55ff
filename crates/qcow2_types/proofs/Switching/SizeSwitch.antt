-- The header is switched to another disk size. The meaning of the image doesn't depend on this field.
use Rattle.std.proofs.Common.{◌≡◌, ℕ, zero, suc, ◌*◌, ◌≤◌, refl, arith, sym, ◌∙◌, Ok}
use Rattle.std.specs.Prelude.{true, IsTrue}
use Rattle.qcow2_types.specs.Bytes.{Bytes}
use Rattle.qcow2_types.specs.Words.{Mapping}
use Rattle.qcow2_types.specs.Header.{Fields, Header, header_of, refcount_table_entries}
use Rattle.qcow2_types.specs.Entries.{entry, l1_table_sound, l2_table_sound}
use Rattle.qcow2_types.specs.Counts.{count, counter, counters_of_block}
use Rattle.qcow2_types.specs.References.{Weight, structure, contents, of_table, of_copied, meets, refs}
use Rattle.qcow2_types.specs.Consistency.{IsConsistent, tables_sound, leaks_below, leak_at}
use Rattle.qcow2_types.specs.Slots.{ValidEntries}
use Rattle.qcow2_types.specs.Frames.{Outside, SameStructureOutside, first_cluster}
use Rattle.qcow2_types.specs.Versions.{KeepsSlots}
use Rattle.qcow2_types.specs.Switched.{sized, with_size, SizeSwitched}
use Rattle.qcow2_types.proofs.Counting.Consistent.{some-words, consistent-shaped, structure-named-once, copied-named-once, named-counted, consistent-from}
use Rattle.qcow2_types.proofs.Changes.DataSteps.{contents-kept, kept-keeps, kept-sound}
use Rattle.qcow2_types.proofs.Counting.Either.{structure-same, refs-kept}
use Rattle.qcow2_types.proofs.Counting.Parts.{count-kept}
use Rattle.qcow2_types.proofs.Showing.Shows.{guest-kept}
use Rattle.qcow2_types.proofs.Counting.Sound.{words-sound}
use Rattle.qcow2_types.proofs.Switching.Switches.{start-kept, start-free, start-mapped, start-values}
use Rattle.qcow2_types.proofs.Showing.Values.{entry-slot}

sized-structure : (f : Bytes) (h : Fields) (n : ℕ) (w : Weight) → structure f (sized h n) w ≡ structure f h w
unfolding structure
sized-structure f h n w = refl

sized-contents : (f : Bytes) (h : Fields) (n : ℕ) (of : Mapping → ℕ) → contents f (sized h n) of ≡ contents f h of
unfolding contents of_table
sized-contents f h n of = refl

sized-refs : (f : Bytes) (h : Fields) (n c : ℕ) → refs f (sized h n) c ≡ refs f h c
unfolding refs structure contents of_table
sized-refs f h n c = refl

sized-count : (f : Bytes) (h : Fields) (n c : ℕ) → count f (sized h n) c ≡ count f h c
unfolding count counter
sized-count f h n c = refl

sized-entry : (f : Bytes) (h : Fields) (n guest : ℕ) → entry f (sized h n) guest ≡ entry f h guest
unfolding entry l1_table_sound l2_table_sound
sized-entry f h n guest = refl

module _ (f g : Bytes) (H : Header) (was : IsConsistent f H) (n : ℕ) (loads : header_of true g ≡ Ok (with_size H n)) (out : Outside f g 0 64) where
  -- the structure outside the header is the same
  kept : SameStructureOutside f g H.fields first_cluster
  kept = start-kept f g H was out

  keeps : KeepsSlots f g H.fields
  keeps = kept-keeps f g H was first_cluster kept (λ i e. cc) (λ i e. cc) (λ i e. cc)

  sound : ValidEntries g H.fields
  sound = kept-sound f g H was first_cluster kept (λ i e. cc) (λ i e. cc) (λ i e. cc)

  counts : (d : ℕ) → count g (sized H.fields n) d ≡ count f H.fields d
  counts d = sized-count g H.fields n d ∙ count-kept f g H.fields first_cluster kept d (consistent-shaped f H was) (λ e. cc) (λ e. cc)

  structure-stays : (v : Weight) → structure g (sized H.fields n) v ≡ structure f H.fields v
  structure-stays v = sized-structure g H.fields n v ∙ structure-same f g H.fields keeps.places v

  contents-stay : (of : Mapping → ℕ) → contents g (sized H.fields n) of ≡ contents f H.fields of
  contents-stay of = sized-contents g H.fields n of ∙ contents-kept f g H.fields of keeps

  references : (d : ℕ) → refs g (sized H.fields n) d ≡ refs f H.fields d
  references d = sized-refs g H.fields n d ∙ refs-kept f g H.fields d keeps

  consistent : IsConsistent g (with_size H n)
  consistent =
      consistent-from g (with_size H n) loads was.readable.no_snapshots was.readable.data_inside
      record { l1 = sound.l1; blocks = sound.blocks; slots = λ i j live. sound.slots i j record { in_l1 = live.in_l1; is_there = live.is_there; in_table = live.in_table } }
      (λ c some.
      let same : structure g (sized H.fields n) (meets H.fields c) ≡ structure f H.fields (meets H.fields c) = structure-stays (meets H.fields c) in
      let once : refs f H.fields c ≡ 1 = structure-named-once f H was c (omega arith) in
      let r : refs g (sized H.fields n) c ≡ refs f H.fields c = references c in
      omega arith)
      (λ c some.
      let same : contents g (sized H.fields n) (of_copied H.fields (meets H.fields c)) ≡ contents f H.fields (of_copied H.fields (meets H.fields c)) = contents-stay (of_copied H.fields (meets H.fields c)) in
      let once : refs f H.fields c ≡ 1 = copied-named-once f H was c (omega arith) in
      let r : refs g (sized H.fields n) c ≡ refs f H.fields c = references c in
      omega arith)
      (λ c.
      let r : refs g (sized H.fields n) c ≡ refs f H.fields c = references c in
      let k : count g (sized H.fields n) c ≡ count f H.fields c = counts c in
      let le : refs f H.fields c ≤ count f H.fields c = named-counted f H was c in
      omega arith)

  leaks-same : (k : ℕ) → leaks_below g (sized H.fields n) k ≡ leaks_below f H.fields k
  unfolding leaks_below
  leaks-same zero = refl
  leaks-same (suc k) = let here : leak_at g (sized H.fields n) k ≡ leak_at f H.fields k = rw (references k, counts k) refl in rw (leaks-same k, here) refl

  tables : IsTrue (tables_sound g H.fields)
  tables = words-sound g H.fields sound

  entries : (guest : ℕ) → entry g (sized H.fields n) guest ≡ entry f H.fields guest
  entries guest =
      sized-entry g H.fields n guest
      ∙ (entry-slot g H.fields guest tables ∙ (guest-kept f g H.fields keeps (some-words H.fields (consistent-shaped f H was)) guest ∙ sym (entry-slot f H.fields guest was.readable.tables)))

  pub size-switched : SizeSwitched f g H n
  size-switched = record {
    consistent = consistent;
    same_structure_outside = kept;
    tables = keeps.places.l1;
    slots = keeps.slots;
    blocks = keeps.places.blocks;
    counts = counts;
    structure = structure-stays;
    contents = contents-stay;
    references = references;
    leaks = leaks-same (refcount_table_entries H.fields * counters_of_block H.fields);
    entries = entries;
    shows = start-values f g H (sized H.fields n) was out refl refl entries;
    free = start-free f g H was out;
    mapped = start-mapped f g H was out;
  }

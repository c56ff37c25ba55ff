-- The header is set to another disk size, in an image with nothing cached: nothing else changes.
use Rattle.std.proofs.Common.{◌≡◌, ℕ, ◌+◌, ◌*◌, ◌/◌, ◌%◌, ◌<◌, ◌≤◌, refl, arith, ap, sym, ◌∙◌, Bool, List, []}
use Rattle.std.proofs.lemmas.Nat.{mod_below, pow_pos}
use Rattle.qcow2_types.specs.Bytes.{Bytes}
use Rattle.qcow2_types.specs.Counts.{count}
use Rattle.qcow2_types.specs.Entries.{entry}
use Rattle.qcow2_types.specs.Header.{Fields, Header, cluster_size}
use Rattle.qcow2_types.specs.Pending.{FreeEntry}
use Rattle.qcow2_types.specs.References.{meets, refs, structure}
use Rattle.qcow2_types.specs.Switched.{SizeSwitched, sized, with_size}
use Rattle.qcow2_types.specs.Versions.{references_in_either}
use Rattle.qcow2_types.specs.Words.{Mapping, damaged, data_at, packed, unmapped, zeroes}
use Rattle.qcow2_types.proofs.Counting.Either.{named-clean, refs-file}
use Rattle.qcow2_types.proofs.Counting.Parts.{header, one-part}
use Rattle.qcow2_types.proofs.Switching.SizeSwitch.{size-switched}
use Rattle.qcow2_types.proofs.Switching.Switches.{cluster-long}
use Rattle.qcow2_metadata.specs.Tables.{TableValue}
use Rattle.qcow2_alloc.specs.GuestView.{IsSound, Metadata, counted, in_memory, referenced_at_all, referenced, waiting, waiting_metadata}
use Rattle.qcow2_alloc.proofs.Caching.EmptyCaches.{empty-safe}
use Rattle.qcow2_alloc.proofs.Memory.SafeLaws.{clean-memory}
use Rattle.qcow2_alloc.proofs.Memory.StructureWrites.{unmet-stays}
use Rattle.qcow2_steps.specs.Sizes.{KeepsAllButSize, WritesHeaderSize, rested}
use Rattle.qcow2_steps.specs.Values.{own_value, own_value_by}
use Rattle.qcow2_steps.proofs.QuietValues.{data-used}
use Rattle.qcow2_steps.proofs.Values.{value-same}

-- The value of a mapping doesn't depend on the disk size.
sized-value : (x : Bytes) (h : Fields) (n p : ℕ) (w : Mapping) → own_value_by x (sized h n) p w ≡ own_value_by x h p w
sized-value x h n p (data_at d copied) = refl
sized-value x h n p (zeroes d copied) = refl
sized-value x h n p (packed offset long) = refl
sized-value x h n p unmapped = refl
sized-value x h n p damaged = refl

module _ (f : Bytes) (H : Header) (n : ℕ) (x : Bytes) (table : TableValue) (pending : List FreeEntry)
    (sound : IsSound (rested f H table pending)) (by : WritesHeaderSize f H n x) where
  abbrev h : Fields
  h = H.fields

  abbrev before : Metadata
  before = rested f H table pending

  abbrev after : Metadata
  after = rested x (with_size H n) table pending

  switched : SizeSwitched f x H n
  switched = size-switched f x H sound.well_formed.consistent n by.loads by.outside

  memory-then : in_memory before ≡ f
  memory-then = clean-memory f h (record { tables = []; blocks = [] }) tt tt

  memory-now : in_memory after ≡ x
  memory-now = clean-memory x (sized h n) (record { tables = []; blocks = [] }) tt tt

  -- Data clusters keep their bytes.
  byte-kept : (guest p d : ℕ) (copied : Bool) → entry f h guest ≡ data_at d copied
      → x (d * cluster_size h + p % cluster_size h) ≡ f (d * cluster_size h + p % cluster_size h)
  byte-kept guest p d copied is =
      let used = data-used before sound guest d copied (ap (λ b. entry b h guest) memory-then ∙ is) in
      let part : meets h d 0 (cluster_size h) ≤ structure f h (meets h d) = one-part f h (meets h d) header tt in
      let none = used.apart in
      let size = cluster-long f H sound.well_formed.consistent in
      let same = unmet-stays f x h d 0 (cluster_size h) 0 64 (omega (arith, part, none)) (omega arith) (omega (arith, size)) by.outside in
      same (p % cluster_size h) (mod_below p (cluster_size h) (pow_pos h.cluster_bits))

  value-kept : (p : ℕ) → own_value x x (sized h n) p ≡ own_value f f h p
  value-kept p =
      ap (own_value_by x (sized h n) p) (switched.entries (p / cluster_size h))
      ∙ sized-value x h n p (entry f h (p / cluster_size h))
      ∙ value-same f x h p (entry f h (p / cluster_size h)) (λ d copied is. byte-kept (p / cluster_size h) p d copied is)

  counts-now : (c : ℕ) → counted after c ≡ counted before c
  counts-now c = ap (λ b. count b (sized h n) c) memory-now ∙ switched.counts c ∙ ap (λ b. count b h c) (sym memory-then)

  names-now : (c : ℕ) → referenced after c ≡ referenced before c
  names-now c = ap (λ b. refs b (sized h n) c) memory-now ∙ switched.references c ∙ ap (λ b. refs b h c) (sym memory-then)

  none-named : (c : ℕ) → referenced_at_all before c ≡ 0 → referenced_at_all after c ≡ 0
  none-named c none =
      ap (λ b. references_in_either x b (sized h n) c) memory-now ∙ named-clean x x (sized h n) c (λ i j live. refl) ∙ switched.references c
      ∙ (let fewer : refs f h c ≤ references_in_either f (in_memory before) h c = refs-file f (in_memory before) h c in omega (arith, fewer, none))

  pub keeps-all : KeepsAllButSize f H n x table pending
  keeps-all = record {
    sound = record {
      well_formed = empty-safe x (with_size H n) switched.consistent;
      table = record {
        layout = sound.table.layout;
        long = sound.table.long;
        placed = sound.table.placed;
        names = λ i lt. sound.table.names i lt ∙ sym (switched.blocks i);
      };
      covered = λ c.
          let covered = sound.covered c in
          let counts = counts-now c in
          let names = names-now c in
          omega (arith, covered, counts, names);
      not_referenced = λ c some. none-named c (sound.not_referenced c some);
    };
    values = value-kept;
    raw_entries = switched.entries;
    counts = switched.counts;
    names = switched.references;
  }

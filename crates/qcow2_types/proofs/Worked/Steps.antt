-- An allocation in the worked image, step by step.
use Rattle.std.proofs.Common.{◌≡◌, ℕ, ◌+◌, ◌*◌, refl, arith, ap, sym, subst, ◌∙◌, lit<, lit≤, [], ◌∷◌}
use Rattle.std.specs.Prelude.{true}
use Rattle.std.specs.Int.{w64, to_be_bytes}
use Rattle.imago_storage.specs.Disk.{byte}
use Rattle.qcow2_types.specs.Bytes.{Bytes, be, raw_entry, splice, sum_below}
use Rattle.qcow2_types.specs.Words.{data_at, unmapped, mapping_of}
use Rattle.qcow2_types.specs.Header.{layout_of}
use Rattle.qcow2_types.specs.Entries.{l2_table}
use Rattle.qcow2_types.specs.Counts.{count, counter}
use Rattle.qcow2_types.specs.References.{structure, contents, of_table, refs}
use Rattle.qcow2_types.specs.Consistency.{IsConsistent}
use Rattle.qcow2_types.specs.Disk.{at, qcow2}
use Rattle.qcow2_types.specs.Slots.{slot, Live}
use Rattle.qcow2_types.specs.Steps.{CounterWritten, FreeWritten, ClusterMapped}
use Rattle.qcow2_types.specs.WorkedImage.{of_pieces, image, image_fields, image_header}
use Rattle.qcow2_types.proofs.Changes.BlockSteps.{counter-raised}
use Rattle.qcow2_types.proofs.Changes.DataSteps.{free-written}
use Rattle.qcow2_types.proofs.Changes.Frames.{splice-is-outside}
use Rattle.qcow2_types.proofs.Showing.ShownLemmas.{slot-value}
use Rattle.qcow2_types.proofs.Changes.SlotSteps.{cluster-mapped-spliced}
use Rattle.qcow2_types.proofs.Numbers.WordLemmas.{fresh-word}
use Rattle.qcow2_types.proofs.Worked.Consistent.{consistent}

-- the refcount of cluster 7 is set to 1
abbrev raised : Bytes
raised = splice (of_pieces image) 1038 (0 ∷ 1 ∷ [])

-- a byte is written to cluster 7
abbrev written : Bytes
written = splice raised 3600 (9 ∷ [])

-- guest cluster 2 is mapped to cluster 7
abbrev named_there : Bytes
named_there = splice written 2064 (to_be_bytes w64 0x8000_0000_0000_0e00)

count_7 : count (of_pieces image) image_fields 7 ≡ 0
unfolding count counter raw_entry be of_pieces image image_fields
count_7 = refl

refs_7 : refs (of_pieces image) image_fields 7 ≡ 0
unfolding refs structure contents of_table sum_below mapping_of raw_entry be of_pieces image image_fields
refs_7 = refl

table_0 : l2_table (of_pieces image) image_fields 0 ≡ 2048
unfolding raw_entry be of_pieces image image_fields
table_0 = refl

slot_2 : slot (of_pieces image) image_fields 0 2 ≡ unmapped
unfolding mapping_of raw_entry be of_pieces image image_fields
slot_2 = refl

pub counted : CounterWritten (of_pieces image) raised image_header 7 1
unfolding image_header image_fields raw_entry be of_pieces image
counted = counter-raised (of_pieces image) image_header consistent 7 refl (λ e. cc) count_7

-- the write to cluster 7 changes nothing for the guest
free : FreeWritten raised written image_header
unfolding image_header image_fields
free = free-written raised image_header counted.block.consistent 7 (counted.block.references 7 ∙ refs_7) written 3600 1 (splice-is-outside raised 3600 (9 ∷ [])) (lit≤ tt) (lit≤ tt)

table_raised : l2_table raised image_fields 0 ≡ 2048
unfolding image_header
table_raised = counted.block.keeps.places.l1 0 ∙ table_0

table_written : l2_table written image_fields 0 ≡ 2048
unfolding image_header
table_written = free.keeps.places.l1 0 ∙ table_raised

-- entry 2 of an L2 table at this offset exists
live_2 : (table : ℕ → ℕ) → table 0 ≡ 2048 → Live table image_fields 0 2
unfolding image_fields
live_2 table e = record { in_l1 = lit< tt; is_there = (λ z. let bad : 2048 ≡ 0 = sym e ∙ z in absurd (omega arith)); in_table = lit< tt }

still_unmapped : slot written image_fields 0 2 ≡ unmapped
unfolding image_header
still_unmapped = free.keeps.slots 0 2 (live_2 _ table_raised) ∙ (counted.block.keeps.slots 0 2 (live_2 _ table_0) ∙ slot_2)

-- the entry that references cluster 7
word_7 : mapping_of (layout_of image_fields) 0x8000_0000_0000_0e00 ≡ data_at 7 true
unfolding image_fields
word_7 = fresh-word image_fields 7 (lit≤ tt) (lit< tt) (lit≤ tt)

-- guest cluster 2 is mapped to cluster 7
step : ClusterMapped written named_there image_header 0 2 7
unfolding image_header
step =
    let once : count written image_fields 7 ≡ 1 = free.counts 7 ∙ counted.here in
    subst (λ t. ClusterMapped written (splice written (t + 8 * 2) (to_be_bytes w64 0x8000_0000_0000_0e00)) image_header 0 2 7) table_written
    (cluster-mapped-spliced written image_header free.consistent 0 2 (live_2 _ table_written) 0x8000_0000_0000_0e00 (lit< tt) 7 word_7 still_unmapped (free.references 7 ∙ (counted.block.references 7 ∙ refs_7)) (omega arith))

pub mapped : IsConsistent named_there image_header
mapped = step.slot.consistent

byte_there : named_there 3600 ≡ 9
unfolding splice
byte_there = refl

-- the guest reads the byte
pub shown : at (qcow2 named_there (λ _. 0) ∷ []) 1040 ≡ byte 9
unfolding image_header image_fields
shown = slot-value named_there (λ _. 0) image_header mapped 1040 0 2 7 true refl refl (λ z. (live_2 (l2_table written image_fields) table_written).is_there (sym (step.slot.places.l1 0) ∙ z)) step.slot.here ∙ ap byte byte_there

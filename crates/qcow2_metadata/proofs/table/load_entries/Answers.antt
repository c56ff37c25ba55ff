use Rattle.std.proofs.Common.{◌/◌, ◌∙◌, ◌≡◌, ℕ, List, ap, length}
use Rattle.std.proofs.lemmas.Result.{IfErr-weaker}
use Rattle.qcow2_types.specs.Bytes.{bytes_of}
use Rattle.qcow2_metadata.specs.Tables.{raw_entries_in}
use Rattle.qcow2_metadata.proofs.TableFacts.{decoded_loaded}
use Rattle.qcow2_metadata.proofs.table.load_entries.Goals as goal

-- The slice is all of the bytes that were read.
words_read : (slice bytes raw_entries : List ℕ) → slice ≡ bytes → raw_entries_in (bytes_of bytes) 0 (length bytes / 8) ≡ raw_entries → raw_entries_in (bytes_of slice) 0 (length slice / 8) ≡ raw_entries
words_read slice bytes raw_entries same read = ap (λ (bs : List ℕ). raw_entries_in (bytes_of bs) 0 (length bs / 8)) same ∙ read

pub returns-clause-raw_entries : goal.returns-clause-raw_entries
returns-clause-raw_entries g c =
    rw (words_read _ _ _ c.deref.ensures.value c.in_ok-bytes.ensures.raw_entries) at c.entries_in.ensures.raw_entries

pub returns-clause-sound : goal.returns-clause-sound
returns-clause-sound g c =
    rw (words_read _ _ _ c.deref.ensures.value c.in_ok-bytes.ensures.raw_entries) at c.entries_in.ensures.sound

pub returns-clause-fit : goal.returns-clause-fit
returns-clause-fit g c =
    rw (words_read _ _ _ c.deref.ensures.value c.in_ok-bytes.ensures.raw_entries) at c.entries_in.ensures.fit

pub returns-clause-refused : goal.returns-clause-refused
returns-clause-refused g c =
    IfErr-weaker c.entries_in.result _ _ (λ fault why. decoded_loaded g.E.TableEntry.kind _ _ _ _ fault c.in_ok-bytes.ensures.faults why) (rw (words_read _ _ _ c.deref.ensures.value c.in_ok-bytes.ensures.raw_entries) at c.entries_in.ensures.refused)

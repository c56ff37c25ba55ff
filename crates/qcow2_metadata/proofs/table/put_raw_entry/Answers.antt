use Rattle.std.proofs.Common.{◌≡◌, ◌+◌, ◌*◌, ◌%◌, ◌<◌, ◌≤◌, ◌^◌, ◌∙◌, ℕ, List, length, ap, subst, arith}
use Rattle.std.specs.Prelude.{slice_index}
use Rattle.std.specs.Int.{to_be_bytes, w64}
use Rattle.imago_storage.specs.Through.{AtomicWriteOutcome}
use Rattle.imago_storage.proofs.Once.{put-at-once}
use Rattle.qcow2_metadata.specs.Tables.{table_start}
use Rattle.qcow2_metadata.proofs.TableFacts.{table_below, few_words, table_word_whole}
use Rattle.qcow2_metadata.proofs.table.put_raw_entry.Goals as goal

pub overflow_mul-place : goal.overflow_mul-place
overflow_mul-place g c =
    let t = g.T.Table.value c.args.table.now in
    let few : length t.raw_entries ≤ 2 ^ 22 = few_words g.T.InternalEntry.TableEntry.kind t c.first_byte.ensures.table in
    let inside : c.args.index < length t.raw_entries = c.requires.bounds in
    omega arith

pub overflow_add-place : goal.overflow_add-place
overflow_add-place g c =
    let t = g.T.Table.value c.args.table.now in
    let below : table_start t + 8 * length t.raw_entries ≤ 2 ^ 63 = table_below t g.T.InternalEntry.TableEntry.kind c.first_byte.ensures.table c.requires.placed in
    let place : c.first_byte.result ≡ table_start t = c.first_byte.ensures.place in
    let inside : c.args.index < length t.raw_entries = c.requires.bounds in
    omega arith

pub returns : goal.returns
returns g c =
    let t = g.T.Table.value c.args.table.now in
    let i = c.args.index in
    let w = c.write in
    let at : c.first_byte.result + 8 * c.args.index ≡ table_start t + 8 * c.args.index = ap (λ p. p + 8 * c.args.index) c.first_byte.ensures.place in
    let is = c.first_byte.ensures.table in
    let bytes : c.to_be_bytes.result ≡ to_be_bytes w64 (slice_index t.raw_entries c.args.index) = c.to_be_bytes.ensures ∙ ap (to_be_bytes w64) (c.to_plain-raw_entry.ensures ∙ c.get.ensures) in
    let long : length c.to_be_bytes.result ≡ 2 ^ 3 = ap length bytes in
    let below : table_start t + 8 * length t.raw_entries ≤ 2 ^ 63 = table_below t g.T.InternalEntry.TableEntry.kind is c.requires.placed in
    let inside : c.args.index < length t.raw_entries = c.requires.bounds in
    let low : c.first_byte.result + 8 * c.args.index + length c.to_be_bytes.result ≤ 2 ^ 63 = omega (arith, at, long, below, inside) in
    let whole : (c.first_byte.result + 8 * c.args.index) % 2 ^ 3 ≡ 0 = ap (λ p. p % 2 ^ 3) at ∙ table_word_whole t i is.low c.requires.placed in
    let put : AtomicWriteOutcome (g.S.Storage.state c.args.image.now) (g.S.Storage.state w.new.self) (c.first_byte.result + 8 * c.args.index) c.to_be_bytes.result w.result =
    put-at-once w.result _ _ (c.first_byte.result + 8 * c.args.index) 3 c.to_be_bytes.result w.ensures.unit low long whole w.ensures.ok w.ensures.err w.ensures.single_request w.ensures.crash_images w.ensures.shape w.ensures.counts_not_fallen in
    subst (λ p. AtomicWriteOutcome (g.S.Storage.state c.args.image.now) (g.S.Storage.state w.new.self) p (to_be_bytes w64 (slice_index t.raw_entries c.args.index)) w.result) at
    (subst (λ (bs : List ℕ). AtomicWriteOutcome (g.S.Storage.state c.args.image.now) (g.S.Storage.state w.new.self) (c.first_byte.result + 8 * c.args.index) bs w.result) bytes put)

use Rattle.std.proofs.Common.{◌≡◌, ◌+◌, ◌*◌, ◌%◌, ◌≤◌, ◌^◌, ◌∙◌, ℕ, List, length, ap, subst, arith}
use Rattle.imago_storage.specs.State.{unit_of}
use Rattle.imago_storage.specs.Through.{FitsOneRequest, WriteOutcome, AtomicWriteOutcome}
use Rattle.imago_storage.proofs.Once.{put-below, put-at-once}
use Rattle.qcow2_metadata.specs.Tables.{table_start}
use Rattle.qcow2_types.specs.TableBytes.{table_bytes}
use Rattle.qcow2_metadata.proofs.PlaceLemmas.{place-whole}
use Rattle.qcow2_metadata.proofs.TableFacts.{table_below, bytes_long}
use Rattle.qcow2_metadata.proofs.Untouched.{put_nothing, put_nothing_at_once}
use Rattle.qcow2_metadata.proofs.HandingOn.{wants_memory}
use Rattle.qcow2_metadata.proofs.table.put_table.Goals as goal

pub returns-in_err-bytes-clause-request : goal.returns-in_err-bytes-clause-request
returns-in_err-bytes-clause-request g c = rw (wants_memory _ _ c.from_residual.ensures.1 c.in_err-bytes.ensures.refused) (put_nothing _ _ _)

pub returns-in_err-bytes-clause-single_request : goal.returns-in_err-bytes-clause-single_request
returns-in_err-bytes-clause-single_request g c = λ whole. rw (wants_memory _ _ c.from_residual.ensures.1 c.in_err-bytes.ensures.refused) (put_nothing_at_once _ _ _)

pub returns-clause-request : goal.returns-clause-request
returns-clause-request g c =
    let t = g.T.Table.value c.args.table.now in
    let w = c.write in
    let place = c.first_byte-place.ensures.place in
    let bytes : c.deref.result.now ≡ table_bytes t.raw_entries = c.deref.ensures.value ∙ c.in_ok-bytes.ensures.bytes in
    let long : length c.deref.result.now ≡ 8 * length t.raw_entries = ap length bytes ∙ bytes_long t.raw_entries in
    let below : table_start t + 8 * length t.raw_entries ≤ 2 ^ 63 = table_below t g.T.InternalEntry.TableEntry.kind c.first_byte-place.ensures.table c.requires in
    let low : c.first_byte-place.result + length c.deref.result.now ≤ 2 ^ 63 = omega (arith, place, long, below) in
    let put : WriteOutcome (g.S.Storage.state c.args.image.now) (g.S.Storage.state w.new.self) c.first_byte-place.result c.deref.result.now w.result =
    put-below w.result _ _ c.first_byte-place.result c.deref.result.now w.ensures.unit low w.ensures.ok w.ensures.err w.ensures.crash_images w.ensures.shape w.ensures.counts_not_fallen in
    subst (λ p. WriteOutcome (g.S.Storage.state c.args.image.now) (g.S.Storage.state w.new.self) p (table_bytes t.raw_entries) w.result) place
    (subst (λ (bs : List ℕ). WriteOutcome (g.S.Storage.state c.args.image.now) (g.S.Storage.state w.new.self) c.first_byte-place.result bs w.result) bytes put)

pub returns-in_err-bytes-clause-in_one_request : goal.returns-in_err-bytes-clause-in_one_request
returns-in_err-bytes-clause-in_one_request g c = λ range. rw (wants_memory _ _ c.from_residual.ensures.1 c.in_err-bytes.ensures.refused) (put_nothing_at_once _ _ _)

pub returns-clause-in_one_request : goal.returns-clause-in_one_request
returns-clause-in_one_request g c = λ range.
    let t = g.T.Table.value c.args.table.now in
    let w = c.write in
    let place = c.first_byte-place.ensures.place in
    let bytes : c.deref.result.now ≡ table_bytes t.raw_entries = c.deref.ensures.value ∙ c.in_ok-bytes.ensures.bytes in
    let long : length c.deref.result.now ≡ 8 * length t.raw_entries = ap length bytes ∙ bytes_long t.raw_entries in
    let below : table_start t + 8 * length t.raw_entries ≤ 2 ^ 63 = table_below t g.T.InternalEntry.TableEntry.kind c.first_byte-place.ensures.table c.requires in
    let low : c.first_byte-place.result + length c.deref.result.now ≤ 2 ^ 63 = omega (arith, place, long, below) in
    let here : FitsOneRequest (unit_of (g.S.Storage.state c.args.image.now).shape) c.first_byte-place.result (length c.deref.result.now) = rw (place, long) range in
    let put : AtomicWriteOutcome (g.S.Storage.state c.args.image.now) (g.S.Storage.state w.new.self) c.first_byte-place.result c.deref.result.now w.result =
    record { put = put-below w.result _ _ c.first_byte-place.result c.deref.result.now w.ensures.unit low w.ensures.ok w.ensures.err w.ensures.crash_images w.ensures.shape w.ensures.counts_not_fallen; single_request = w.ensures.single_request here } in
    subst (λ p. AtomicWriteOutcome (g.S.Storage.state c.args.image.now) (g.S.Storage.state w.new.self) p (table_bytes t.raw_entries) w.result) place
    (subst (λ (bs : List ℕ). AtomicWriteOutcome (g.S.Storage.state c.args.image.now) (g.S.Storage.state w.new.self) c.first_byte-place.result bs w.result) bytes put)

pub returns-clause-single_request : goal.returns-clause-single_request
returns-clause-single_request g c = λ full.
    let t = g.T.Table.value c.args.table.now in
    let w = c.write in
    let place = c.first_byte-place.ensures.place in
    let bytes : c.deref.result.now ≡ table_bytes t.raw_entries = c.deref.ensures.value ∙ c.in_ok-bytes.ensures.bytes in
    let long : length c.deref.result.now ≡ 8 * length t.raw_entries = ap length bytes ∙ bytes_long t.raw_entries in
    let below : table_start t + 8 * length t.raw_entries ≤ 2 ^ 63 = table_below t g.T.InternalEntry.TableEntry.kind c.first_byte-place.ensures.table c.requires in
    let low : c.first_byte-place.result + length c.deref.result.now ≤ 2 ^ 63 = omega (arith, place, long, below) in
    let whole = ap (λ p. p % 2 ^ t.layout.cluster_bits) place ∙ place-whole t.layout.cluster_bits t.cluster c.requires in
    let put : AtomicWriteOutcome (g.S.Storage.state c.args.image.now) (g.S.Storage.state w.new.self) c.first_byte-place.result c.deref.result.now w.result =
    put-at-once w.result _ _ c.first_byte-place.result t.layout.cluster_bits c.deref.result.now w.ensures.unit low (long ∙ full) whole w.ensures.ok w.ensures.err w.ensures.single_request w.ensures.crash_images w.ensures.shape w.ensures.counts_not_fallen in
    subst (λ p. AtomicWriteOutcome (g.S.Storage.state c.args.image.now) (g.S.Storage.state w.new.self) p (table_bytes t.raw_entries) w.result) place
    (subst (λ (bs : List ℕ). AtomicWriteOutcome (g.S.Storage.state c.args.image.now) (g.S.Storage.state w.new.self) c.first_byte-place.result bs w.result) bytes put)

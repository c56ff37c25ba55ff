use Rattle.std.proofs.Common.{◌≡◌, ◌+◌, ◌-◌, ◌*◌, ◌/◌, ◌%◌, ◌<◌, ◌≤◌, ◌∙◌, ap, arith, length, min, subst, sym, ℕ}
use Rattle.std.specs.Prelude.{replicate}
use Rattle.std.specs.List.{between}
use Rattle.std.proofs.lemmas.List.{length-replicate}
use Rattle.std.proofs.lemmas.List.Edits.{length-between}
use Rattle.imago_storage.proofs.Parts.{passed}
use Rattle.qcow2_types.specs.Bytes.{bytes_of}
use Rattle.qcow2_types.specs.Header.{layout_of}
use Rattle.qcow2_types.specs.TableBytes.{AreFit}
use Rattle.qcow2_metadata.specs.Tables.{AreSound, HasUnsound, WhyNotDecoded, raw_entries_in}
use Rattle.qcow2_metadata.proofs.Chunks.{AreDecoded, all-decoded, chunk-clear, chunk-put, none-decoded, part-count, part-words, put-long, unsound-behind, words-part, words-put}
use Rattle.qcow2_metadata.proofs.WordLists.{clear-words}
use Rattle.qcow2_metadata.proofs.Written.{overwritten}
use borrow.Rule.Slice.PartMut.{put_mid}
use Rattle.qcow2_metadata.proofs.table.entries_in.Given.{Over}
use Rattle.qcow2_metadata.proofs.table.entries_in.Goals as goal

pub loop-chunk-init : goal.loop-chunk-init
loop-chunk-init g c =
    let f = bytes_of c.args.bytes.now in
    let kind = g.E.TableEntry.kind in
    let layout = layout_of c.args.header.now.fields in
    let raw_entries = g.E.TableEntry.raw_entries in
    let entries = c.in_ok-entries.entries.items in
    let n = length c.args.bytes.now / 8 in
    let none : 0 ≡ min 0 n = omega arith in
    let all : entries ≡ replicate n c.empty.result = c.in_ok-entries.ensures.items_if_clones_equal (λ copy is. g.met.E.TableEntry.copies c.empty.result copy is) in
    let clear : raw_entries entries ≡ replicate n 0 = ap raw_entries all ∙ clear-words g.E.TableEntry.raw_entry raw_entries g.met.E.TableEntry.each n c.empty.result c.empty.ensures in
    record {
      long = ap length all ∙ length-replicate n c.empty.result;
      decoded = subst (λ k. AreDecoded kind layout f n (raw_entries entries) k) none (none-decoded kind layout f n (raw_entries entries) clear);
    }

-- The range of the next chunk.
chunk-range : (chunk count n end : ℕ) → chunk < count → count ≡ n / 64 + min 1 (n % 64) → end ≡ min n (chunk * 64 + 64) → ((chunk * 64 < n) × (chunk * 64 ≤ end)) × (end ≤ n)
chunk-range chunk count n end inside is end-is = ((omega arith, omega arith), omega arith)

pub decode-requires : goal.decode-requires
decode-requires g c =
    let bytes = c.args.bytes.now in
    let n = length bytes / 8 in
    let first = c.loop-chunk.chunk * 64 in
    let end = c.min-end.result in
    let raw_entries = g.E.TableEntry.raw_entries in
    let was = c.loop-chunk.entries.items in
    let range = chunk-range c.loop-chunk.chunk c.div_ceil-chunk-end.result n end c.loop-chunk-test.true c.div_ceil-chunk-end.ensures c.min-end.ensures in
    let inside : 8 * end ≤ length bytes = omega (arith, range.1) in
    let here : min (64 * c.loop-chunk.chunk) n ≡ first = omega (arith, range.0.0) in
    let before = subst (λ k. AreDecoded g.E.TableEntry.kind (layout_of c.args.header.now.fields) (bytes_of bytes) n (raw_entries was) k) here c.loop-chunk.invariant.decoded in
    rw (c.deref_mut.ensures.value) (words-part g.E.TableEntry.raw_entry raw_entries g.met.E.TableEntry.each was first end
    ∙ (chunk-clear g.E.TableEntry.kind (layout_of c.args.header.now.fields) (bytes_of bytes) n (raw_entries was) first end before range.0.1 range.1
    ∙ ap (λ k. replicate k 0) (sym (part-count bytes first end range.0.1 inside))))

pub returns-in_err-decode-clause-refused : goal.returns-in_err-decode-clause-refused
returns-in_err-decode-clause-refused g c =
    let bytes = c.args.bytes.now in
    let f = bytes_of bytes in
    let n = length bytes / 8 in
    let first = c.loop-chunk.chunk * 64 in
    let end = c.min-end.result in
    let kind = g.E.TableEntry.kind in
    let layout = layout_of c.args.header.now.fields in
    let range = chunk-range c.loop-chunk.chunk c.div_ceil-chunk-end.result n end c.loop-chunk-test.true c.div_ceil-chunk-end.ensures c.min-end.ensures in
    let inside : 8 * end ≤ length bytes = omega (arith, range.1) in
    let room : first + (end - first) ≤ n = omega (arith, range.0.1, range.1) in
    let why = WhyNotDecoded kind layout (raw_entries_in f 0 n) in
    let unsound = subst (λ ws. HasUnsound kind layout ws) (part-words bytes first end range.0.1 inside) c.in_err-decode.ensures.damaged in
    passed c.from_residual-in_err-decode.result why _ c.from_residual-in_err-decode.ensures.1
    (subst why (sym c.in_err-decode.ensures.refused) (unsound-behind f first kind layout n (end - first) room unsound))

-- The entries of one more chunk are written.
pub loop-chunk-preserved : goal.loop-chunk-preserved
loop-chunk-preserved g c =
    let bytes = c.args.bytes.now in
    let f = bytes_of bytes in
    let n = length bytes / 8 in
    let first = c.loop-chunk.chunk * 64 in
    let end = c.min-end.result in
    let kind = g.E.TableEntry.kind in
    let layout = layout_of c.args.header.now.fields in
    let raw_entries = g.E.TableEntry.raw_entries in
    let was = c.loop-chunk.entries in
    let chunk = c.decode.new.entries in
    let put = put_mid first (end - first) was.items chunk in
    let range = chunk-range c.loop-chunk.chunk c.div_ceil-chunk-end.result n end c.loop-chunk-test.true c.div_ceil-chunk-end.ensures c.min-end.ensures in
    let inside : 8 * end ≤ length bytes = omega (arith, range.1) in
    let here : min (64 * c.loop-chunk.chunk) n ≡ first = omega (arith, range.0.0) in
    let next : end ≡ min (64 * (c.loop-chunk.chunk + 1)) n = omega (arith, c.min-end.ensures) in
    let before = subst (λ k. AreDecoded kind layout f n (raw_entries was.items) k) here c.loop-chunk.invariant.decoded in
    let part = part-words bytes first end range.0.1 inside in
    let long : length chunk ≡ end - first = c.decode.auto.entries ∙ (ap (λ es. length (between first end es)) c.deref_mut.ensures.value
    ∙ length-between was.items first end (omega (arith, range.1, c.loop-chunk.invariant.long))) in
    let same : length put ≡ length was.items = put-long was.items chunk first (end - first) (omega (arith, range.0.1, range.1, c.loop-chunk.invariant.long)) long in
    let decoded = chunk-put kind layout f n (raw_entries was.items) first end before range.0.1 range.1 (raw_entries chunk) (c.in_ok-decode.ensures.raw_entries ∙ part)
    (subst (λ ws. AreSound kind layout ws) (sym c.in_ok-decode.ensures.raw_entries) c.in_ok-decode.ensures.sound)
    (subst (λ ws. AreFit ws) (sym c.in_ok-decode.ensures.raw_entries) c.in_ok-decode.ensures.fit) in
    rw (c.deref_mut.ensures.value) (rw (overwritten put was.items was.len was.ok.0 same) (record {
      long = same ∙ c.loop-chunk.invariant.long;
      decoded = rw (words-put g.E.TableEntry.raw_entry raw_entries g.met.E.TableEntry.each was.items chunk first (end - first))
          (subst (λ k. AreDecoded kind layout f n (put_mid first (end - first) (raw_entries was.items) (raw_entries chunk)) k) next decoded);
    }))

-- After the last chunk all entries are decoded.
all-chunks : (g : Over) (c : goal.After-loop-chunk g) → AreDecoded g.E.TableEntry.kind (layout_of c.args.header.now.fields) (bytes_of c.args.bytes.now) (length c.args.bytes.now / 8)
    (g.E.TableEntry.raw_entries c.loop-chunk.entries.items) (length c.args.bytes.now / 8)
all-chunks g c =
    let n = length c.args.bytes.now / 8 in
    let end : min (64 * c.loop-chunk.chunk) n ≡ n = omega (arith, c.loop-chunk-test.false, c.div_ceil-chunk-end.ensures) in
    subst (λ k. AreDecoded g.E.TableEntry.kind (layout_of c.args.header.now.fields) (bytes_of c.args.bytes.now) n (g.E.TableEntry.raw_entries c.loop-chunk.entries.items) k) end c.loop-chunk.invariant.decoded

pub returns-clause-raw_entries : goal.returns-clause-raw_entries
returns-clause-raw_entries g c = all-decoded g.E.TableEntry.kind (layout_of c.args.header.now.fields) (bytes_of c.args.bytes.now) (length c.args.bytes.now / 8)
    (g.E.TableEntry.raw_entries c.loop-chunk.entries.items) (all-chunks g c)

pub returns-clause-sound : goal.returns-clause-sound
returns-clause-sound g c = (all-chunks g c).sound

pub returns-clause-fit : goal.returns-clause-fit
returns-clause-fit g c = (all-chunks g c).fit

use Rattle.std.proofs.Common.{◌≡◌, ◌+◌, ◌-◌, ◌*◌, ◌<◌, ◌∙◌, ◌++◌, ap, arith, length, refl, sym, take}
use Rattle.std.specs.Prelude.{replicate}
use Rattle.std.specs.Int.{to_be_bytes, w64}
use Rattle.std.proofs.lemmas.List.{length-replicate}
use Rattle.std.proofs.lemmas.Slice.{drop-put_mid, take-put_mid}
use Rattle.qcow2_metadata.proofs.WordLists.{bytes-more, zero-there, zeroes-behind}
use Rattle.qcow2_metadata.proofs.table.put_raw_entries.Goals as goal

pub loop-index-init : goal.loop-index-init
loop-index-init g c =
    let long = ap length c.requires ∙ length-replicate (8 * length (g.T.Table.value c.args.table.now).raw_entries) 0 in
    record { long = long; front = refl; zeroes = c.requires ∙ ap (λ n. replicate n 0) (omega (arith, long)) }

-- The bytes of one more entry are written, or are 0 already.
pub loop-index-preserved : goal.loop-index-preserved
loop-index-preserved g c =
    let raw_entries = (g.T.Table.value c.args.table.now).raw_entries in
    let i = c.loop-index.index in
    let was = c.loop-index.bytes in
    let before = c.loop-index.invariant in
    let inside : i < length raw_entries = omega (arith, c.loop-index-test.true, c.entries-index-end.ensures.value) in
    let more = bytes-more raw_entries i c.to_plain-raw_entry.result inside (c.to_plain-raw_entry.ensures ∙ c.get.ensures) in
    let next : 8 * (i + 1) ≡ 8 * i + 8 = omega arith in
    elim c.if-raw_entry-ne0.branch [
      | goal.then-raw_entry-ne0 w ↦
          let put = w.copy_from_slice.new.self in
          let are : put ≡ to_be_bytes w64 c.to_plain-raw_entry.result = w.copy_from_slice.ensures.after ∙ w.to_be_bytes.ensures in
          let eight : length put ≡ 8 = ap length are in
          let long = sym (ap length w.bytes-is) ∙ c.if-raw_entry-ne0.auto.bytes in
          rw (w.bytes-is) (record {
            long = long ∙ before.long;
            front = take-put_mid (8 * i) _ was put (8 * (i + 1)) (omega (arith, eight)) (omega (arith, inside, before.long))
                ∙ (ap (λ bytes. take (8 * i) was ++ bytes) are ∙ (ap (λ bytes. bytes ++ to_be_bytes w64 c.to_plain-raw_entry.result) before.front ∙ sym more));
            zeroes = drop-put_mid (8 * i) _ was put (8 * (i + 1)) (omega arith) (omega (arith, inside, before.long)) (omega (arith, eight))
                ∙ (rw (next) (zeroes-behind was (8 * i) 8 before.zeroes) ∙ ap (λ n. replicate (n - 8 * (i + 1)) 0) (sym long));
          })
      | goal.else-raw_entry-ne0 w ↦
          let none : c.to_plain-raw_entry.result ≡ 0 = omega (arith, w.if-raw_entry-ne0.false) in
          rw (w.bytes-is) (record {
            long = before.long;
            front = rw (next) (zero-there was (8 * i) before.zeroes (omega (arith, inside, before.long))
                ∙ (ap (λ bytes. bytes ++ to_be_bytes w64 0) before.front ∙ sym (rw (none) at more)));
            zeroes = rw (next) (zeroes-behind was (8 * i) 8 before.zeroes);
          })
    ]

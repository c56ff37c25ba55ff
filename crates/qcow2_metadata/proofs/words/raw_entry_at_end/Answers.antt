use Rattle.std.proofs.Common.{◌≡◌, ◌+◌, ◌*◌, ◌%◌, ◌^◌, sym, arith, ◌<◌}
use Rattle.std.specs.Prelude.{bit_or}
use Rattle.qcow2_types.specs.Bytes.{be, bytes_of}
use Rattle.qcow2_types.proofs.Numbers.BytesLemmas.{be-none, be-more, one_more, more_fits}
use Rattle.qcow2_metadata.proofs.words.raw_entry_at_end.Goals as goal

pub loop-i-init : goal.loop-i-init
loop-i-init c = (sym (be-none (bytes_of c.args.bytes.now) c.args.at), omega arith)

pub loop-i-preserved : goal.loop-i-preserved
loop-i-preserved c =
    let byte : c.from.result < 256 = omega arith in
    let pushed : bit_or (c.loop-i.number * 256 % 2 ^ 64) c.from.result ≡ c.loop-i.number * 256 + c.from.result =
    one_more c.loop-i.number c.from.result c.loop-i.i c.loop-i.invariant.1 c.loop-i-test.true byte in
    let fits : c.loop-i.number * 256 + c.from.result < 256 ^ (c.loop-i.i + 1) = more_fits c.loop-i.number c.from.result c.loop-i.i c.loop-i.invariant.1 byte in
    let more : be (bytes_of c.args.bytes.now) c.args.at (c.loop-i.i + 1) ≡ be (bytes_of c.args.bytes.now) c.args.at c.loop-i.i * 256 + bytes_of c.args.bytes.now (c.args.at + c.loop-i.i) =
    be-more (bytes_of c.args.bytes.now) c.args.at c.loop-i.i in
    (cc, rw pushed fits)

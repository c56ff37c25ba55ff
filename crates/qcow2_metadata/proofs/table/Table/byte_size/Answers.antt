use Rattle.std.proofs.Common.{◌≡◌, ◌≤◌, ◌^◌, length, arith}
use Rattle.qcow2_metadata.proofs.TableFacts.{few_words}
use Rattle.qcow2_metadata.proofs.table.Table.byte_size.Goals as goal

pub overflow_mul-result : goal.overflow_mul-result
overflow_mul-result g c =
    let t = g.Self.Table.value c.args.self.now in
    let few : length t.raw_entries ≤ 2 ^ 22 = few_words g.Self.InternalEntry.TableEntry.kind t c.entries.ensures.table in
    let is : c.entries.result ≡ length t.raw_entries = c.entries.ensures.value in
    omega arith

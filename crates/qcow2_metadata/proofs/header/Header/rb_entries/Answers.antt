use Rattle.std.proofs.Common.{◌≡◌, ◌*◌, ◌%◌, ◌^◌, ◌≤◌, ◌∙◌, arith}
use Rattle.std.proofs.Math.Nat.{pow-le-pow_right}
use Rattle.std.proofs.lemmas.Nat.{one_shl}
use Rattle.qcow2_metadata.proofs.header.Header.rb_entries.Goals as goal

pub returns-clause-value : goal.returns-clause-value
returns-clause-value c = one_shl c.rb_bits.result 64 (omega arith) ∙ c.rb_bits.ensures.entries

pub returns-clause-bounds : goal.returns-clause-bounds
returns-clause-bounds c =
    let whole : (1 * 2 ^ c.rb_bits.result) % 2 ^ 64 ≡ 2 ^ c.rb_bits.result = one_shl c.rb_bits.result 64 (omega arith) in
    let low : 2 ^ 6 ≤ 2 ^ c.rb_bits.result = pow-le-pow_right (omega arith) c.rb_bits.ensures.bounds.0 in
    let high : 2 ^ c.rb_bits.result ≤ 2 ^ 24 = pow-le-pow_right (omega arith) c.rb_bits.ensures.bounds.1 in
    rw whole (low, high)

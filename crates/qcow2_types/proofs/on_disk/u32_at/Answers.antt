-- The bytes of the number that was read are the bytes that were copied.
use Rattle.std.proofs.Common.{◌≡◌, ℕ, ◌+◌, ◌-◌, ◌<◌, arith, ap, ◌∙◌, List, take, drop, get_or}
use Rattle.std.specs.Int.{w32, to_be_bytes}
use Rattle.std.proofs.lemmas.Nat.{be_bytes_4}
use Rattle.qcow2_types.proofs.Numbers.NumberBytes.{part-below, taken-more}
use Rattle.qcow2_types.proofs.on_disk.u32_at.Goals as goal

pub returns : goal.returns
returns c =
    let bytes : List ℕ = c.args.bytes.now in
    let copied : List ℕ = c.copy_from_slice.new.self in
    let size : c.args.at + 4 - c.args.at ≡ 4 = omega arith in
    let part : copied ≡ take 4 (drop c.args.at bytes) = c.copy_from_slice.ensures.after ∙ ap (λ n. take n (drop c.args.at bytes)) size in
    let below : (i : ℕ) → get_or copied i 0 < 256 = part-below bytes copied c.args.at 4 256 (omega arith) (λ i. let fits = c.type_inv.bytes i in omega arith) part in
    let same : to_be_bytes w32 c.from_be_bytes.result ≡ copied = be_bytes_4 copied c.from_be_bytes.result c.copy_from_slice.ensures.len below c.from_be_bytes.ensures in
    taken-more bytes (to_be_bytes w32 c.from_be_bytes.result) c.args.at 4 (same ∙ part)

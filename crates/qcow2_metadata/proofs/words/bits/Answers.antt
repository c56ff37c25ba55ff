use Rattle.std.proofs.Common.{◌-◌, ◌/◌, ◌^◌, ◌∙◌, ap}
use Rattle.std.specs.Prelude.{bit_and}
use Rattle.std.proofs.lemmas.Nat.{and_mask, one_shl}
use Rattle.qcow2_metadata.proofs.words.bits.Goals as goal

pub returns : goal.returns
returns c =
    ap (λ m. bit_and (c.args.raw_entry / 2 ^ c.args.first) (m - 1)) (one_shl c.args.count 64 c.requires.count)
    ∙ and_mask (c.args.raw_entry / 2 ^ c.args.first) c.args.count

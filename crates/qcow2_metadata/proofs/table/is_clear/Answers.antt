use Rattle.std.proofs.Common.{◌≡◌, ap, arith, inl, inr, subst, ◌∙◌}
use Rattle.std.specs.Prelude.{bit_or, slice_index}
use Rattle.std.proofs.lemmas.Bool.{cases_lt}
use Rattle.std.proofs.lemmas.Nat.{le_or_l, le_or_r}
use Rattle.std.specs.Int.Bits.{or_zero_r}
use Rattle.qcow2_metadata.proofs.table.is_clear.Goals as goal

-- One more byte is 0 if it adds no bit.
pub loop-byte-preserved : goal.loop-byte-preserved
loop-byte-preserved c =
    let bytes = c.args.bytes.now in
    let bits = c.loop-byte.bits in
    let i = c.loop-byte.byte-index in
    let byte = slice_index bytes i in
    let before = c.loop-byte.invariant in (
      λ none k small. elim (cases_lt k i) [
        | inl lt ↦ before.0 (omega (arith, none, le_or_l bits byte)) k lt
        | inr ge ↦
            let last : i ≡ k = omega (arith, small, ge) in
            let own : byte ≡ 0 = omega (arith, none, le_or_r bits byte) in
            subst (λ j. slice_index bytes j ≡ 0) last own
      ],
      λ all.
          let own : byte ≡ 0 = all i (omega arith) in
          ap (λ b. bit_or bits b) own ∙ (or_zero_r bits ∙ before.1 (λ k small. all k (omega (arith, small)))),
    )

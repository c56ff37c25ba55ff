use Rattle.std.proofs.Common.{◌≡◌, ◌+◌, ◌*◌, ◌%◌, ◌<◌, ◌∙◌, ap, arith, drop, length, subst, sym}
use Rattle.std.specs.Result.{result_ok}
use Rattle.std.specs.Prelude.{slice_index, slice_set}
use Rattle.hex.proofs.HexLemmas.{decode_of-even}
use Rattle.hex.proofs.Pairs.{decode_done}
use Rattle.qimg_chain.proofs.ScriptDigits.{AreDecoded, IsReadAs, all-read, pair-decoded, pair-digit, pair-fits, pair-refused, pair-rest}
use Rattle.qimg_chain.proofs.script.digits.decode.Goals as goal

pub loop-i-preserved : goal.loop-i-preserved
loop-i-preserved c =
    let word = c.args.word.now in
    let i = c.loop-i.i-iterator.count in
    let next = c.in-Some.ensures.steps in
    let two : length c.in-Some.pair.now ≡ 2 = next.0.1.1 ∙ c.loop-i.invariant.size in
    let fits = pair-fits word _ c.in-Some.pair.now c.next.new.self.iter.rest.now i c.loop-i.invariant.rest next.0.1.0 two in
    let room : i < length c.loop-i.out = omega (arith, fits, c.loop-i.auto.out) in
    let digit = pair-digit word _ c.in-Some.pair.now c.next.new.self.iter.rest.now i c.loop-i.invariant.rest next.0.1.0 two in
    let high = subst (λ b. IsReadAs b c.value-high.result) (digit 0 (omega arith) ∙ ap (slice_index word) (let same : 2 * i + 0 ≡ 2 * i = omega arith in same)) c.value-high.ensures in
    let low = subst (λ b. IsReadAs b c.value-low.result) (digit 1 (omega arith)) c.value-low.ensures in
    let byte = c.value-high.result % 16 * 16 + c.value-low.result % 16 in
    record {
      rest = pair-rest word _ c.in-Some.pair.now c.next.new.self.iter.rest.now i c.loop-i.invariant.rest next.0.1.0 two ∙ ap (λ n. drop (2 * n) word) (sym next.2);
      size = next.0.0 ∙ c.loop-i.invariant.size;
      digits = λ test. subst (λ n. AreDecoded word (slice_set c.loop-i.out c.in-Some.i byte) n) (sym next.2)
          (subst (λ n. AreDecoded word (slice_set c.loop-i.out n byte) (i + 1)) (sym next.1)
          (pair-decoded word c.loop-i.out i c.value-high.result c.value-low.result c.loop-i.all fits room high low test c.loop-i.invariant.digits));
      other = λ test. pair-refused word c.loop-i.out i c.value-high.result c.value-low.result c.loop-i.all fits room high low test c.loop-i.invariant.digits c.loop-i.invariant.other;
    }

pub returns-clause-digits : goal.returns-clause-digits
returns-clause-digits c all =
    let end = c.in-None.ensures.steps in
    let word = c.args.word.now in
    let whole = all-read word _ c.loop-i.i-iterator.count c.loop-i.invariant.rest (omega (arith, end.0.1.0, c.loop-i.invariant.size)) (omega (arith, c.requires)) in
    decode_of-even word (omega (arith, c.requires)) ∙ decode_done word c.loop-i.out c.loop-i.i-iterator.count (omega (arith, whole, c.requires, c.loop-i.auto.out)) whole (c.loop-i.invariant.digits all)

pub returns-clause-other : goal.returns-clause-other
returns-clause-other c other = ap result_ok (decode_of-even c.args.word.now (omega (arith, c.requires))) ∙ c.loop-i.invariant.other other

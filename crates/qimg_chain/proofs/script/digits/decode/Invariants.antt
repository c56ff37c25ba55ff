-- The pairs before the next one are decoded, or one of them isn't digits.
use Rattle.std.proofs.Common.{◌≡◌, ◌*◌, true, false, None, drop}
use Rattle.std.specs.Result.{result_ok}
use Rattle.hex.specs.Hex.{decode_pairs}
use Rattle.qimg_chain.proofs.ScriptDigits.{AreDecoded}
use Rattle.qimg_chain.proofs.script.digits.decode.Given as goal

abbrev pub invariant-loop-i : goal.invariant-loop-i
invariant-loop-i l = record {
  rest : l.i-iterator.iter.rest.now ≡ drop (2 * l.i-iterator.count) l.word;
  size : l.i-iterator.iter.size ≡ 2;
  digits : l.all ≡ true → AreDecoded l.word l.out l.i-iterator.count;
  other : l.all ≡ false → result_ok (decode_pairs 0 l.word) ≡ None;
}

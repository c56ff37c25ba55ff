use Rattle.std.proofs.Common.{◌≡◌, ℕ, suc, ◌≤◌, ◌<◌, ◌+◌, ◌++◌, ◌∷◌, ◌∙◌, [], arith, length, sym, ap}
use Rattle.std.specs.Prelude.{None, take, vec_capacity}
use Rattle.std.proofs.Math.Seq.{take-suc}
use Rattle.qimg_calls.specs.Held.{chain_with_mapping}
use Rattle.qimg_calls.specs.Making.{Answers}
use Rattle.qimg_calls.proofs.Lists.{all-then, going-one}
use Rattle.qimg_calls.proofs.driving.make_all.Goals as goal

next : (n : ℕ) → n + 1 ≡ suc n
next n = omega arith

le-both : (a b c : ℕ) → a ≤ b → b ≤ c → a ≤ c
le-both a b c first second = omega (arith, first, second)

pub loop-call-preserved : goal.loop-call-preserved
loop-call-preserved g c =
    let d = g.D.DriverModel in
    let i = c.loop-call.call-index in
    let calls = c.args.calls.now in
    let told = c.in-Ok.told in
    let old = chain_with_mapping c.args.chain.now None in
    let mid = chain_with_mapping c.loop-call.chain c.loop-call.kept in
    let new = chain_with_mapping c.answer-outcome.new.chain c.answer-outcome.result.1 in
    let one : Answers d c.call-item.result told mid new = (rw (c.in-Ok.is) at c.answer-outcome.ensures.answered) in
    let below : i < length calls = omega (arith, c.loop-call-test.true) in
    let more : take (i + 1) calls ≡ take i calls ++ (c.call-item.result ∷ []) =
    ap (λ n. take n calls) (next i) ∙ take-suc calls i c.call-item.result below ∙ ap (λ item. take i calls ++ (item ∷ [])) (sym c.call-item.is) in
    rw (more, c.in-Ok-push.ensures.items) (
      all-then d (take i calls) c.loop-call.answers.items c.call-item.result told old mid new c.loop-call.invariant.0 one,
      (going-one d c.call-item.result told mid new one).kept c.loop-call.invariant.1,
      c.in-Ok-push.ensures.len ∙ ap (λ n. n + 1) c.loop-call.invariant.2,
      le-both (length calls) (vec_capacity c.loop-call.answers) (vec_capacity c.push.new.self) c.loop-call.invariant.3 c.in-Ok-push.ensures.capacity,
    )

use Rattle.std.proofs.Common.{◌≡◌, List, [], ◌∷◌, ◌++◌, length, subst}
use Rattle.qimg_calls.specs.Making.{AnswersAlone, MadeAll}
use Rattle.qimg_calls.specs.declared.call.Answer.{Answer}
use Rattle.qimg_calls.proofs.Alone.{alone-fits, alone-one}
use Rattle.qimg_chain.proofs.run.calls.make.Goals as goal

only-one : (all rest : List Answer) (last : Answer) → length all ≡ 1 → all ≡ rest ++ (last ∷ []) → all ≡ last ∷ []
only-one all [] last len is = is
only-one all (a ∷ []) last len is = absurd (cc (rw (is) at len))
only-one all (a ∷ b ∷ rest) last len is = absurd (cc (rw (is) at len))

pub returns-clause-made : goal.returns-clause-made
returns-clause-made g c =
    let d = g.D.DriverModel in
    let call = c.args.call in
    let answer = c.in-Some.answer in
    let old = c.args.chain.now in
    let new = c.drive.new.chain in
    let all : MadeAll d (call ∷ []) (answer ∷ []) old new =
    subst (λ answers. MadeAll d (call ∷ []) answers old new) (only-one c.in_ok-answers.answers.items c.pop.new.self.items answer c.in_ok-answers.ensures.each c.in-Some.ensures.items) c.in_ok-answers.ensures.made in
    let made : AnswersAlone d (call ∷ []) (answer ∷ []) old new = alone-one d call answer old new c.requires.other all in
    (made, alone-fits d call answer old new made)

use Rattle.std.proofs.Common.{inl, inr, refl, subst}
use Rattle.std.specs.Prelude.{IfOk, IfErr}
use Rattle.qimg_chain.specs.RunCalls.{unmade}
use Rattle.qimg_chain.specs.Script.{IsLine, NotLine}
use Rattle.qimg_chain.proofs.run.answer_to.Goals as goal

pub returns-in-Ok-clause-replied : goal.returns-in-Ok-clause-replied
returns-in-Ok-clause-replied g c text taken =
    let answered = c.answer_line.ensures.answered in (
      answered.turn,
      record {
        made = answered.made;
        runs = inl (record {
          line = c.in-Ok.line;
          is_line = subst (λ t. IfOk t (IsLine text)) c.in-Ok.is taken.0;
          tells = answered.tells;
          keeps = c.answer_line.ensures.keeps_saved;
        });
      },
    )

pub returns-in-Err-clause-replied : goal.returns-in-Err-clause-replied
returns-in-Err-clause-replied g c text taken = (
  unmade,
  record {
    made = refl;
    runs = inr (record { fault = c.in-Err.fault; why = subst (λ t. IfErr t (NotLine text)) c.in-Err.is taken.1; none = refl; answered = refl; saved_unchanged = refl });
  },
)

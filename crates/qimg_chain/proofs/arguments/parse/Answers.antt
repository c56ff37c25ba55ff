use Rattle.std.proofs.Common.{◌∙◌, ap, arith, map, rules, subst, sym}
use Rattle.imago_storage.proofs.Parts.{passed}
use Rattle.qimg_chain.specs.Arguments.{AskForNone, layer_of, words_from}
use Rattle.qimg_chain.proofs.ArgumentLemmas.{is-read, no-layers-left, not-read}
use Rattle.qimg_chain.proofs.arguments.parse.Goals as goal

pub returns-in_err-layers-clause-err : goal.returns-in_err-layers-clause-err
returns-in_err-layers-clause-err c =
    passed c.from_residual.result _ c.in_err-layers.field-0.0 c.from_residual.ensures.1
    (not-read _ c.args.words.now _ c.opening_of-opening.result c.in_err-layers.field-0.0 (search (rules, arith)) c.opening_of-opening.ensures
    (subst (λ n. AskForNone (words_from n c.args.words.now) c.in_err-layers.field-0.0) c.word_count.ensures c.in_err-layers.ensures.err))

pub returns-clause-ok : goal.returns-clause-ok
returns-clause-ok c = (
  is-read _ c.args.words.now _ c.opening_of-opening.result (map layer_of c.in_ok-layers.layers.items) (search (rules, arith)) c.opening_of-opening.ensures
      (ap (λ n. words_from n c.args.words.now) (sym c.word_count.ensures) ∙ c.in_ok-layers.ensures.ok),
  no-layers-left c.in_ok-layers.layers.items c.in_ok-layers.ensures.nonempty,
)

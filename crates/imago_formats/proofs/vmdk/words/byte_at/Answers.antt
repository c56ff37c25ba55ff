use Rattle.std.proofs.Common.{rules, ◌∙◌}
use Rattle.std.proofs.lemmas.Iterator.{YieldsList-from_slice}
use Rattle.std.proofs.lemmas.Iterator.Search.{position_from_yields_List}
use borrow.Author.Tests.{tests}
use lib.Dec.{eqb}
use Rattle.imago_formats.proofs.WordLemmas.{first_place}
use Rattle.imago_formats.proofs.vmdk.words.byte_at.Goals as goal

pub returns-clause-value : goal.returns-clause-value
returns-clause-value c =
    let found = position_from_yields_List (λ b. eqb b c.args.byte) _ _ c.position.result c.position.ensures.ran
    (YieldsList-from_slice c.args.text.now c.iter.ensures.rest) (λ x b q k. search (rules, tests)) in
    c.unwrap_or.ensures ∙ first_place _ _ _ found

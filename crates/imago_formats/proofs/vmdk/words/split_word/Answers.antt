use Rattle.std.proofs.Common.{rules, ◌∙◌, ap, take, drop}
use Rattle.std.proofs.lemmas.Iterator.{YieldsList-from_slice}
use Rattle.std.proofs.lemmas.Iterator.Search.{position_from_yields_List}
use borrow.Author.Tests.{tests}
use Rattle.imago_formats.specs.DescriptorWords.{is_blank, past_blanks}
use Rattle.imago_formats.proofs.WordLemmas.{first_place}
use Rattle.imago_formats.proofs.vmdk.words.split_word.Goals as goal

pub returns-clause-first : goal.returns-clause-first
returns-clause-first c =
    let found = position_from_yields_List is_blank _ _ c.position.result c.position.ensures.ran
    (YieldsList-from_slice c.args.text.now c.iter.ensures.rest) (λ x b q k. search (rules, tests)) in
    c.split_at.ensures.front ∙ ap (λ n. take n c.args.text.now) (c.unwrap_or-end.ensures ∙ first_place _ _ _ found)

pub returns-clause-remainder : goal.returns-clause-remainder
returns-clause-remainder c =
    let found = position_from_yields_List is_blank _ _ c.position.result c.position.ensures.ran
    (YieldsList-from_slice c.args.text.now c.iter.ensures.rest) (λ x b q k. search (rules, tests)) in
    c.past_blanks.ensures ∙ ap past_blanks (c.split_at.ensures.back ∙ ap (λ n. drop n c.args.text.now) (c.unwrap_or-end.ensures ∙ first_place _ _ _ found))

use Rattle.std.proofs.Common.{rules, ◌∙◌, ap, drop, not}
use Rattle.std.proofs.lemmas.Iterator.{YieldsList-from_slice}
use Rattle.std.proofs.lemmas.Iterator.Search.{position_from_yields_List}
use borrow.Author.Tests.{tests}
use Rattle.imago_formats.specs.DescriptorWords.{is_blank}
use Rattle.imago_formats.proofs.WordLemmas.{first_place}
use Rattle.imago_formats.proofs.vmdk.words.past_blanks.Goals as goal

pub returns : goal.returns
returns c =
    let found = position_from_yields_List (λ b. not (is_blank b)) _ _ c.position.result c.position.ensures.ran
    (YieldsList-from_slice c.args.text.now c.iter.ensures.rest) (λ x b q k. search (rules, tests)) in
    c.split_at.ensures.back ∙ ap (λ n. drop n c.args.text.now) (c.unwrap_or-start.ensures ∙ first_place _ _ _ found)

use Rattle.std.proofs.Common.{◌∙◌, sym, rules, Ok, Err}
use Rattle.std.specs.Char.{is_ascii_digit}
use Rattle.std.proofs.lemmas.Iterator.{YieldsList-from_slice}
use Rattle.std.proofs.lemmas.Iterator.Search.{all_from_yields_List}
use Rattle.std.specs.declared.num.ParseIntError.{ParseIntError}
use borrow.Author.Tests.{tests}
use Rattle.qimg_chain.proofs.ScriptNumbers.{too_many_digits, not_digits, number_parsed, digits_text}
use Rattle.qimg_chain.proofs.script.words.number.Goals as goal

pub returns-then-word-gt-MOST_DIGITS : goal.returns-then-word-gt-MOST_DIGITS
returns-then-word-gt-MOST_DIGITS c = too_many_digits c.args.word.now c.if-word-gt-MOST_DIGITS.true

pub returns-then-not-all : goal.returns-then-not-all
returns-then-not-all c =
    let all = all_from_yields_List is_ascii_digit _ _ c.all.result c.all.ensures.ran
    (YieldsList-from_slice c.args.word.now c.iter.ensures.rest) (λ x b q k. search (rules, tests)) in
    not_digits c.args.word.now (sym all ∙ c.if-not-all.true)

pub returns-in-Ok-parse : goal.returns-in-Ok-parse
returns-in-Ok-parse c =
    let all = all_from_yields_List is_ascii_digit _ _ c.all.result c.all.ensures.ran
    (YieldsList-from_slice c.args.word.now c.iter.ensures.rest) (λ x b q k. search (rules, tests)) in
    number_parsed {E = ParseIntError} c.args.word.now (Ok c.in-Ok-parse.number) c.if-word-gt-MOST_DIGITS.false (sym all ∙ c.if-not-all.false)
    (rw c.in-Ok.ensures.cases.0 at c.in-Ok-parse.ensures.value.0)

pub returns-in-Err-parse : goal.returns-in-Err-parse
returns-in-Err-parse c =
    let all = all_from_yields_List is_ascii_digit _ _ c.all.result c.all.ensures.ran
    (YieldsList-from_slice c.args.word.now c.iter.ensures.rest) (λ x b q k. search (rules, tests)) in
    number_parsed {E = ParseIntError} c.args.word.now (Err c.in-Err-parse.field-0) c.if-word-gt-MOST_DIGITS.false (sym all ∙ c.if-not-all.false)
    (rw c.in-Ok.ensures.cases.0 at c.in-Err-parse.ensures.value.0)

pub returns-in-Err : goal.returns-in-Err
returns-in-Err c =
    let all = all_from_yields_List is_ascii_digit _ _ c.all.result c.all.ensures.ran
    (YieldsList-from_slice c.args.word.now c.iter.ensures.rest) (λ x b q k. search (rules, tests)) in
    absurd (c.in-Err.ensures.cases.0 (digits_text c.args.word.now (sym all ∙ c.if-not-all.false)))

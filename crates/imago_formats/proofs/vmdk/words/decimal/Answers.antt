use Rattle.std.proofs.Common.{◌∙◌, sym, rules, Ok, Err}
use Rattle.std.specs.Char.{is_ascii_digit}
use Rattle.std.proofs.lemmas.Iterator.{YieldsList-from_slice}
use Rattle.std.proofs.lemmas.Iterator.Search.{all_from_yields_List}
use Rattle.std.specs.declared.num.ParseIntError.{ParseIntError}
use borrow.Author.Tests.{tests}
use Rattle.imago_formats.proofs.WordLemmas.{decimal_no, decimal_text, decimal_parsed, is_text}
use Rattle.imago_formats.proofs.vmdk.words.decimal.Goals as goal

pub returns-then-not-all : goal.returns-then-not-all
returns-then-not-all c =
    let all = all_from_yields_List is_ascii_digit _ _ c.all.result c.all.ensures.ran
    (YieldsList-from_slice c.args.digits.now c.iter.ensures.rest) (λ x b q k. search (rules, tests)) in
    decimal_no c.args.digits.now (sym all ∙ c.if-not-all.true)

pub returns-in-Ok : goal.returns-in-Ok
returns-in-Ok c =
    let all = all_from_yields_List is_ascii_digit _ _ c.all.result c.all.ensures.ran
    (YieldsList-from_slice c.args.digits.now c.iter.ensures.rest) (λ x b q k. search (rules, tests)) in
    decimal_parsed {E = ParseIntError} c.args.digits.now (Ok c.in-Ok.number) (sym all ∙ c.if-not-all.false)
    (rw c.in_ok-text_of.ensures.ok.0 at c.in-Ok.ensures.value.0)

pub returns-in-Err : goal.returns-in-Err
returns-in-Err c =
    let all = all_from_yields_List is_ascii_digit _ _ c.all.result c.all.ensures.ran
    (YieldsList-from_slice c.args.digits.now c.iter.ensures.rest) (λ x b q k. search (rules, tests)) in
    decimal_parsed {E = ParseIntError} c.args.digits.now (Err c.in-Err.field-0) (sym all ∙ c.if-not-all.false)
    (rw c.in_ok-text_of.ensures.ok.0 at c.in-Err.ensures.value.0)

pub returns-in_err-text_of : goal.returns-in_err-text_of
returns-in_err-text_of c =
    let all = all_from_yields_List is_ascii_digit _ _ c.all.result c.all.ensures.ran
    (YieldsList-from_slice c.args.digits.now c.iter.ensures.rest) (λ x b q k. search (rules, tests)) in
    let yes = is_text c.args.digits.now (decimal_text c.args.digits.now (sym all ∙ c.if-not-all.false)) in
    absurd (cc (yes, c.in_err-text_of.ensures.err.1))

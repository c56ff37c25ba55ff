use Rattle.std.proofs.Common.{◌≡◌, ◌∙◌, sym, ap, arith, get_or, drop, [], ◌∷◌, ◌<◌, length}
use Rattle.std.specs.Str.Lines.{lines}
use Rattle.imago_formats.proofs.LineLemmas.{line_here, line_to_end, first_to_end, rest_to_end}
use Rattle.imago_formats.proofs.vmdk.reading.split_line.Goals as goal
use Rattle.imago_formats.proofs.vmdk.reading.split_line.Goals.{After-without_return}

pub returns-then-end-text-clause-first : goal.returns-then-end-text-clause-first
returns-then-end-text-clause-first c =
    c.split_at.ensures.front ∙ first_to_end c.args.text.now c.byte_at-end.result c.byte_at-end.ensures.value c.if-end-text.true

pub returns-then-end-text-clause-remainder : goal.returns-then-end-text-clause-remainder
returns-then-end-text-clause-remainder c =
    ap lines c.split_at.ensures.back ∙ rest_to_end c.args.text.now c.byte_at-end.result c.byte_at-end.ensures.value c.if-end-text.true

pub returns-then-end-text-clause-whole : goal.returns-then-end-text-clause-whole
returns-then-end-text-clause-whole c = λ some.
    let split = line_to_end c.args.text.now c.byte_at-end.result c.byte_at-end.ensures.value c.if-end-text.true some in
    rw (c.split_at.ensures.front, c.split_at.ensures.back) split

here : (c : After-without_return) → lines c.args.text.now ≡ c.without_return.result.now ∷ lines c.split_at-3.result.1.now
here c =
    let inside : c.byte_at-end.result < length c.args.text.now = omega (arith, c.byte_at-end.ensures.within, c.if-end-text.false) in
    let split = line_here c.args.text.now c.byte_at-end.result c.byte_at-end.ensures.value inside in
    rw (c.without_return.ensures, c.split_at-2.ensures.front, c.split_at-3.ensures.back) split

pub returns-clause-first : goal.returns-clause-first
returns-clause-first c = sym (ap (λ xs. get_or xs 0 []) (here c))

pub returns-clause-remainder : goal.returns-clause-remainder
returns-clause-remainder c = sym (ap (λ xs. drop 1 xs) (here c))

pub returns-clause-whole : goal.returns-clause-whole
returns-clause-whole c = λ _. here c

use Rattle.std.proofs.Common.{◌≡◌, ◌+◌, ◌-◌, length, take, arith, ◌∙◌}
use Rattle.std.proofs.lemmas.List.{get_or-take, length-take}
use Rattle.paged_storage.proofs.Windows.{window_splice}
use Rattle.paged_storage.proofs.pieces.write_part.Goals as goal

pub returns : goal.returns
returns c = λ file reads.
    let there = c.min-there.result in
    let from_data = c.args.data.now in
    let taken : length (take there from_data) ≡ there = omega (arith, length-take there from_data) in
    window_splice file c.args.offset c.args.buf.now c.overlay.new.buf c.overlay.auto.buf reads c.args.at from_data there (omega arith) (λ k here back. omega arith)
    (λ k here from to. c.overlay.ensures.inside k here from (omega (arith, to, taken)) ∙ get_or-take there from_data (c.args.offset + k - c.args.at) 0 (omega (arith, from, to)))
    c.overlay.ensures.before
    (λ k back. c.overlay.ensures.after k (omega (arith, back, taken)))

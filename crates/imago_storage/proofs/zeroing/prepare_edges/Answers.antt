-- The first and the last unit are read into their buffers, and zeroes are copied over the range's part of them.
use Rattle.std.proofs.Common.{rules, arith, ◌≡◌, ◌+◌, ◌-◌, length, subst, sym}
use Rattle.imago_storage.specs.Edges.{IsEdge}
use Rattle.imago_storage.proofs.Rounding.{le_round_up}
use Rattle.imago_storage.proofs.Laying.{zeroes-laid, both-ok}
use Rattle.imago_storage.proofs.zeroing.prepare_edges.Goals as goal

pub overflow_add-behind : goal.overflow_add-behind
overflow_add-behind g c = omega (arith, le_round_up c.args.unit (c.args.range.0 + c.args.range.1) c.requires.positive, c.requires.fits, c.requires.parts.within)

pub overflow_add-behind-2 : goal.overflow_add-behind-2
overflow_add-behind-2 g c = omega (arith, le_round_up c.args.unit (c.args.range.0 + c.args.range.1) c.requires.positive, c.requires.fits, c.requires.parts.within)

pub returns-clause-ok : goal.returns-clause-ok
returns-clause-ok g c =
    let long-first : length c.pad_edges.new.first ≡ length c.args.first.now = search rules in
    let long-last : length c.pad_edges.new.last ≡ length c.args.last.now = search rules in
    let is-first : IsEdge c.args.unit c.args.parts.0 (length c.pad_edges.new.first) = subst (λ l. IsEdge c.args.unit c.args.parts.0 l) (sym long-first) c.requires.first in
    let is-last : IsEdge c.args.unit (c.args.range.1 - c.args.parts.0 - c.args.parts.1) (length c.pad_edges.new.last) = subst (λ l. IsEdge c.args.unit (c.args.range.1 - c.args.parts.0 - c.args.parts.1) l) (sym long-last) c.requires.last in
    both-ok c.pad_edges.result _ _ _
    (zeroes-laid c.args.unit (g.S.Storage.state c.args.storage.now).bytes c.args.range.0 c.args.range.1 c.args.parts.0 c.args.parts.1 c.pad_edges.new.first c.pad_edges.new.last c.args.zeroes.now c.requires.positive c.requires.nonempty c.requires.fits c.requires.parts is-first is-last c.requires.zeroes c.requires.room)
    c.pad_edges.ensures.first c.pad_edges.ensures.last

use Rattle.qimg_core.proofs.Names.Entries.{cut-next, cut-end, cut-named}
use Rattle.qimg_core.proofs.check.entries.next_in.Goals as goal

pub returns-then-cut-list-clause-next : goal.returns-then-cut-list-clause-next
returns-then-cut-list-clause-next c n cut = cut-next c.args.list.now n c.args.cut c.if-cut-list.true c.requires (c.type_inv.list c.args.cut).fits cut

pub returns-then-cut-list-clause-named : goal.returns-then-cut-list-clause-named
returns-then-cut-list-clause-named c = cut-named c.args.list.now c.args.cut c.if-cut-list.true

pub returns-clause-next : goal.returns-clause-next
returns-clause-next c n cut = cut-end c.args.list.now n c.args.cut c.if-cut-list.false cut

-- The buffers are those that `prepare_edges` has filled.
use Rattle.std.proofs.Common.{rules, ◌≡◌, length, drop, sym}
use Rattle.imago_storage.proofs.Laying.{written-back, laid-as}
use Rattle.imago_storage.proofs.zeroing.prepare_zeroes.Goals as goal

pub returns-clause-ok : goal.returns-clause-ok
returns-clause-ok g c =
    let long-first : length c.prepare_edges.new.first ≡ c.in_ok-first.first.len = search rules in
    let long-last : length c.prepare_edges.new.last ≡ c.in_ok-first.last.len = search rules in
    laid-as _ _ _ _ _ _ _ _ _ _ _
    (written-back c.prepare_edges.new.first (drop (length c.prepare_edges.new.first) c.in_ok-first.first.items) c.in_ok-first.first.len long-first)
    (written-back c.prepare_edges.new.last (drop (length c.prepare_edges.new.last) c.in_ok-first.last.items) c.in_ok-first.last.len long-last)
    (sym c.deref.ensures.value) c.in_ok-prepare_edges.ensures.ok

use Rattle.std.proofs.Common.{◌≡◌, ◌+◌, ◌<◌, arith, ap, sym, subst, ◌∙◌, length}
use Rattle.std.specs.Prelude.{Bool, ◌==◌, slice_index}
use Rattle.qcow2_alloc.specs.declared.allocation.searching.Run.{Run}
use Rattle.qcow2_alloc.specs.Scanning.{Scans}
use Rattle.qcow2_alloc.proofs.Searching.RunsInSearch.{run_then, scans-none, scans-next}
use Rattle.qcow2_alloc.proofs.allocation.searching.scan.Goals as goal

pub loop-at-init : goal.loop-at-init
loop-at-init c = (λ same. c.requires.short, scans-none c.args.block.now.counters c.args.count c.args.index c.args.run)

pub loop-at-preserved : goal.loop-at-preserved
loop-at-preserved c =
    let ge = c.loop-at.auto.at in
    let test = c.loop-at-test.true in
    let end = c.entries-at-end.ensures.value in
    let inside : c.loop-at.at < length c.args.block.now.counters = omega (arith, test, end) in
    let then : c.then-scanned.result ≡ run_then c.loop-at.scanned (slice_index c.args.block.now.counters c.loop-at.at == 0) = c.then-scanned.ensures ∙ ap (λ (b : Bool). run_then c.loop-at.scanned b) c.is_zero.ensures in (
      λ same. absurd (omega (arith, ge, same)),
      subst (λ (r : Run). Scans c.args.block.now.counters c.args.count c.args.index (c.loop-at.at + 1) c.args.run r) (sym then)
          (scans-next c.args.block.now.counters c.args.count c.args.index c.loop-at.at c.args.run c.loop-at.scanned ge inside c.if-scanned-count.false c.loop-at.invariant.1),
    )

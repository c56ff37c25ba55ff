use Rattle.std.proofs.Common.{◌∙◌, sym, arith}
use Rattle.qcow2_metadata.proofs.Names.{put-at-end, put-before, put-instead}
use Rattle.qcow2_metadata.proofs.features.put_name.Goals as goal
use Rattle.qcow2_metadata.proofs.features.put_name.Goals.{else-at-len-via-then-at-len+else-not-comes_before, else-at-len-via-else-at-len}

pub returns-then-not-comes_before : goal.returns-then-not-comes_before
returns-then-not-comes_before c =
    put-instead c.args.name c.index.result.now c.args.names.now.items c.place_for.result c.len.result c.unwrap_or-at.result
    (rw c.deref.ensures.value at c.place_for.ensures) (c.len.ensures ∙ c.args.names.now.ok.0) c.unwrap_or-at.ensures
    (omega (arith, c.args.names.now.ok.0)) c.index.ensures (sym c.comes_before.ensures ∙ c.if-not-comes_before.true)

pub returns-in_ok-insert : goal.returns-in_ok-insert
returns-in_ok-insert c =
    rw c.in_ok-insert.ensures.items (elim c.else-at-len.branch [
      | else-at-len-via-then-at-len+else-not-comes_before w ↦
          put-before c.args.name w.index.result.now c.args.names.now.items c.place_for.result c.len.result c.unwrap_or-at.result
          (rw c.deref.ensures.value at c.place_for.ensures) (c.len.ensures ∙ c.args.names.now.ok.0) c.unwrap_or-at.ensures
          w.index.ensures (sym w.comes_before.ensures ∙ w.if-not-comes_before.false)
      | else-at-len-via-else-at-len w ↦
          put-at-end c.args.name c.args.name c.args.names.now.items c.place_for.result c.len.result c.unwrap_or-at.result
          (rw c.deref.ensures.value at c.place_for.ensures) (c.len.ensures ∙ c.args.names.now.ok.0) c.unwrap_or-at.ensures
          (omega (arith, c.args.names.now.ok.0))
    ])

use Rattle.std.proofs.Common.{◌≡◌, ℕ, ◌+◌, ◌<◌, ◌∙◌, ap, sym, subst, arith, length, get_or, List}
use Rattle.std.specs.Prelude.{slice_index}
use Rattle.std.proofs.lemmas.Grind.{get_or_default_zero}
use Rattle.std.proofs.lemmas.Result.{err_from_is_err_and}
use Rattle.qcow2_types.specs.Words.{is_cluster_offset}
use Rattle.qcow2_metadata.specs.Loading.{file}
use Rattle.qimg_core.specs.Check.{IsDamagedTable, Found}
use Rattle.qimg_core.proofs.Contents.L2Tables.{named-now, named-later, named-all, all-sound, one-damaged, placed-at}
use Rattle.qimg_core.proofs.check.tables.reference_contents.Goals as goal
use Rattle.qimg_core.proofs.check.tables.reference_contents.Goals.{then-i-len+in_ok-reference_table, else-i-len+else-index}

read : (places : List ℕ) (i place : ℕ) → i < length places → place ≡ get_or places i place → place ≡ slice_index places i
read places i place inside is = is ∙ get_or_default_zero places i place inside

pub reference_table-requires : goal.reference_table-requires
reference_table-requires g c =
    let inside : c.loop-i.i < length c.sort_unstable.new.self.items = omega (arith, c.len-i-end.ensures, c.loop-i-test.true) in
    let here = placed-at c.args.header.now.fields.cluster_bits c.args.places.items c.sort_unstable.new.self.items c.loop-i.i c.sort_unstable.ensures.permutation inside c.requires in
    record { place = ap (is_cluster_offset c.args.header.now.fields.cluster_bits) (read c.sort_unstable.new.self.items c.loop-i.i c.index-then-i-len.result.now inside c.index-then-i-len.ensures) ∙ here }

pub returns-in_err-reference_table-clause-err : goal.returns-in_err-reference_table-clause-err
returns-in_err-reference_table-clause-err g c =
    let p = err_from_is_err_and c.from_residual.result c.from_residual.ensures.1 in
    let old = g.S.Storage.state c.args.image.now in
    let now = g.S.Storage.state c.loop-i.image in
    let new = g.S.Storage.state c.reference_table.new.image in
    let inside : c.loop-i.i < length c.sort_unstable.new.self.items = omega (arith, c.len-i-end.ensures, c.loop-i-test.true) in
    let here : c.index-then-i-len.result.now ≡ slice_index c.sort_unstable.new.self.items c.loop-i.i = read c.sort_unstable.new.self.items c.loop-i.i c.index-then-i-len.result.now inside c.index-then-i-len.ensures in
    let found = subst (λ (place : ℕ). Found now new (IsDamagedTable (file now) c.args.header.now.fields place) c.in_err-reference_table.field-0.0) here c.in_err-reference_table.ensures.err in
    rw (p.1, p.2) (one-damaged old now c.args.header.now.fields c.args.names.now c.loop-i.names c.sort_unstable.new.self.items c.loop-i.times c.loop-i.i c.loop-i.invariant new c.args.places.items c.sort_unstable.ensures.permutation inside c.in_err-reference_table.field-0.0 found)

pub loop-i-preserved : goal.loop-i-preserved
loop-i-preserved g c =
    let old = g.S.Storage.state c.args.image.now in
    let now = g.S.Storage.state c.loop-i.image in
    let inside : c.loop-i.i < length c.sort_unstable.new.self.items = omega (arith, c.len-i-end.ensures, c.loop-i-test.true) in
    elim c.if-i-len.branch [
      | then-i-len+in_ok-reference_table w ↦
          let here : w.index-then-i-len.result.now ≡ slice_index c.sort_unstable.new.self.items c.loop-i.i = read c.sort_unstable.new.self.items c.loop-i.i w.index-then-i-len.result.now inside w.index-then-i-len.ensures in
          rw (w.times-is, w.image-is, w.names-is)
          (named-now old now c.args.header.now.fields c.args.names.now c.loop-i.names c.sort_unstable.new.self.items c.loop-i.times c.loop-i.i c.loop-i.invariant
          (g.S.Storage.state w.reference_table.new.image) w.reference_table.new.names inside w.in_ok-reference_table.ensures.unchanged_but_faults w.in_ok-reference_table.ensures.faults (rw (← here) w.in_ok-reference_table.ensures.ok) (rw (← here) w.in_ok-reference_table.ensures.sound))
      | else-i-len+else-index w ↦
          let next : c.loop-i.i + 1 < length c.sort_unstable.new.self.items = omega (arith, inside, c.len.ensures, w.if-i-len.false) in
          let here : w.index-else-i-len.result.now ≡ slice_index c.sort_unstable.new.self.items c.loop-i.i = read c.sort_unstable.new.self.items c.loop-i.i w.index-else-i-len.result.now inside w.index-else-i-len.ensures in
          let there : w.index.result.now ≡ slice_index c.sort_unstable.new.self.items (c.loop-i.i + 1) = read c.sort_unstable.new.self.items (c.loop-i.i + 1) w.index.result.now next w.index.ensures in
          let same : slice_index c.sort_unstable.new.self.items (c.loop-i.i + 1) ≡ slice_index c.sort_unstable.new.self.items c.loop-i.i = sym there ∙ (w.if-index.false ∙ here) in
          rw (w.times-is, w.image-is, w.names-is) (named-later old now c.args.header.now.fields c.args.names.now c.loop-i.names c.sort_unstable.new.self.items c.loop-i.times c.loop-i.i c.loop-i.invariant next same)
    ]

pub returns-clause-ok : goal.returns-clause-ok
returns-clause-ok g c =
    let old = g.S.Storage.state c.args.image.now in
    let now = g.S.Storage.state c.loop-i.image in
    let all : c.loop-i.i ≡ length c.sort_unstable.new.self.items = omega (arith, c.len-i-end.ensures, c.loop-i-test.false, c.loop-i.auto.i-end) in
    named-all old now c.args.header.now.fields c.args.names.now c.loop-i.names c.sort_unstable.new.self.items c.loop-i.times c.loop-i.i c.loop-i.invariant all c.args.places.items c.sort_unstable.ensures.permutation

pub returns-clause-sound : goal.returns-clause-sound
returns-clause-sound g c =
    let old = g.S.Storage.state c.args.image.now in
    let now = g.S.Storage.state c.loop-i.image in
    let all : c.loop-i.i ≡ length c.sort_unstable.new.self.items = omega (arith, c.len-i-end.ensures, c.loop-i-test.false, c.loop-i.auto.i-end) in
    all-sound old now c.args.header.now.fields c.args.names.now c.loop-i.names c.sort_unstable.new.self.items c.loop-i.times c.loop-i.i c.loop-i.invariant all c.args.places.items c.sort_unstable.ensures.permutation

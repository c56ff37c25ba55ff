-- The first and the last unit are read, and then each part is written as whole units.
use Rattle.std.proofs.Common.{rules, arith, ◌≡◌, ◌+◌, ◌-◌, length, ◌++◌}
use Rattle.std.proofs.lemmas.Result.{on_ok_weaker}
use Rattle.imago_storage.proofs.Rounding.{le_round_up}
use Rattle.imago_storage.proofs.Composing.{kept_same}
use Rattle.imago_storage.proofs.Edges.{some-here, parts-here, first-here, last-here, first-laid, mid-laid, last-laid}
use Rattle.imago_storage.proofs.Around.{split-twice, around-halted, around-through}
use Rattle.imago_storage.proofs.Parts.{mapped}
use Rattle.imago_storage.specs.declared.padding.WriteFault.TheVariants.{Within}
use Rattle.imago_storage.proofs.padding.write_in_parts.Goals as goal

pub overflow_add-behind : goal.overflow_add-behind
overflow_add-behind g c = omega (arith, le_round_up c.args.unit (c.args.offset + length c.args.data.now) c.requires.positive, c.requires.fits, c.requires.parts.within)

pub overflow_add-behind-2 : goal.overflow_add-behind-2
overflow_add-behind-2 g c = omega (arith, le_round_up c.args.unit (c.args.offset + length c.args.data.now) c.requires.positive, c.requires.fits, c.requires.parts.within)

pub write_units-requires-clause-first : goal.write_units-requires-clause-first
write_units-requires-clause-first g c =
    first-laid c.args.unit c.args.offset (length c.args.data.now) c.args.parts.0 c.args.parts.1 (length c.split_at.result.0.now) (length c.split_at-2.result.0.now) (length c.split_at-2.result.1.now) (length c.pad_edges.new.first) (length c.args.first.now) (length c.pad_edges.new.last) (length c.args.last.now)
    c.requires.nonempty c.requires.parts c.requires.first c.requires.last (search rules) (search rules) (search rules) (search rules) (search rules) c.requires.positive c.requires.fits

pub write_units-requires-clause-mid : goal.write_units-requires-clause-mid
write_units-requires-clause-mid g c =
    mid-laid c.args.unit c.args.offset (length c.args.data.now) c.args.parts.0 c.args.parts.1 (length c.split_at.result.0.now) (length c.split_at-2.result.0.now) (length c.split_at-2.result.1.now) (length c.pad_edges.new.first) (length c.args.first.now) (length c.pad_edges.new.last) (length c.args.last.now)
    c.requires.nonempty c.requires.parts c.requires.first c.requires.last (search rules) (search rules) (search rules) (search rules) (search rules) c.requires.positive c.requires.fits

pub write_units-requires-clause-last : goal.write_units-requires-clause-last
write_units-requires-clause-last g c =
    last-laid c.args.unit c.args.offset (length c.args.data.now) c.args.parts.0 c.args.parts.1 (length c.split_at.result.0.now) (length c.split_at-2.result.0.now) (length c.split_at-2.result.1.now) (length c.pad_edges.new.first) (length c.args.first.now) (length c.pad_edges.new.last) (length c.args.last.now)
    c.requires.nonempty c.requires.parts c.requires.first c.requires.last (search rules) (search rules) (search rules) (search rules) (search rules) c.requires.positive c.requires.fits

pub returns-clause-ok : goal.returns-clause-ok
returns-clause-ok g c =
    let s = g.S.Storage.state in
    let h : length c.split_at.result.0.now ≡ c.args.parts.0 = search rules in
    let m : length c.split_at-2.result.0.now ≡ c.args.parts.1 = search rules in
    let t : length c.split_at-2.result.1.now ≡ length c.args.data.now - c.args.parts.0 - c.args.parts.1 = search rules in
    let f : length c.pad_edges.new.first ≡ length c.args.first.now = search rules in
    let l : length c.pad_edges.new.last ≡ length c.args.last.now = search rules in
    let whole : c.split_at.result.0.now ++ c.split_at-2.result.0.now ++ c.split_at-2.result.1.now ≡ c.args.data.now =
    split-twice c.args.data.now c.split_at.result.1.now c.split_at.result.0.now c.split_at-2.result.0.now c.split_at-2.result.1.now c.args.parts.0 c.args.parts.1 c.split_at.ensures.front c.split_at.ensures.back c.split_at-2.ensures.front c.split_at-2.ensures.back in
    let same = kept_same (s c.args.storage.now) (s c.pad_edges.new.storage) c.in_ok-pad_edges.ensures.unchanged_but_faults c.in_ok-pad_edges.ensures.faults in
    mapped c.write_units.result c.map_err.result Within _ _ _ c.map_err.ensures.cases (λ e none. none)
    (on_ok_weaker c.write_units.result
    (around-through c.args.unit c.requires.positive (s c.args.storage.now) (s c.pad_edges.new.storage) (s c.write_units.new.storage) same c.args.offset (c.args.offset + c.args.parts.0 + c.args.parts.1)
    c.split_at.result.0.now c.split_at-2.result.0.now c.split_at-2.result.1.now c.pad_edges.new.first c.pad_edges.new.last c.args.data.now
    (some-here c.args.unit c.args.offset (length c.args.data.now) c.args.parts.0 c.args.parts.1 (length c.split_at.result.0.now) (length c.split_at-2.result.0.now) (length c.split_at-2.result.1.now) (length c.pad_edges.new.first) (length c.args.first.now) (length c.pad_edges.new.last) (length c.args.last.now) c.requires.nonempty c.requires.parts c.requires.first c.requires.last h m t f l) (parts-here c.args.unit c.args.offset (length c.args.data.now) c.args.parts.0 c.args.parts.1 (length c.split_at.result.0.now) (length c.split_at-2.result.0.now) (length c.split_at-2.result.1.now) (length c.pad_edges.new.first) (length c.args.first.now) (length c.pad_edges.new.last) (length c.args.last.now) c.requires.nonempty c.requires.parts c.requires.first c.requires.last h m t f l) (first-here c.args.unit c.args.offset (length c.args.data.now) c.args.parts.0 c.args.parts.1 (length c.split_at.result.0.now) (length c.split_at-2.result.0.now) (length c.split_at-2.result.1.now) (length c.pad_edges.new.first) (length c.args.first.now) (length c.pad_edges.new.last) (length c.args.last.now) c.requires.nonempty c.requires.parts c.requires.first c.requires.last h m t f l) (last-here c.args.unit c.args.offset (length c.args.data.now) c.args.parts.0 c.args.parts.1 (length c.split_at.result.0.now) (length c.split_at-2.result.0.now) (length c.split_at-2.result.1.now) (length c.pad_edges.new.first) (length c.args.first.now) (length c.pad_edges.new.last) (length c.args.last.now) c.requires.nonempty c.requires.parts c.requires.first c.requires.last h m t f l) whole (omega (arith, h, m)) c.in_ok-pad_edges.ensures.first c.in_ok-pad_edges.ensures.last)
    c.write_units.ensures.ok)

pub returns-clause-err : goal.returns-clause-err
returns-clause-err g c =
    let s = g.S.Storage.state in
    let h : length c.split_at.result.0.now ≡ c.args.parts.0 = search rules in
    let m : length c.split_at-2.result.0.now ≡ c.args.parts.1 = search rules in
    let t : length c.split_at-2.result.1.now ≡ length c.args.data.now - c.args.parts.0 - c.args.parts.1 = search rules in
    let f : length c.pad_edges.new.first ≡ length c.args.first.now = search rules in
    let l : length c.pad_edges.new.last ≡ length c.args.last.now = search rules in
    let whole : c.split_at.result.0.now ++ c.split_at-2.result.0.now ++ c.split_at-2.result.1.now ≡ c.args.data.now =
    split-twice c.args.data.now c.split_at.result.1.now c.split_at.result.0.now c.split_at-2.result.0.now c.split_at-2.result.1.now c.args.parts.0 c.args.parts.1 c.split_at.ensures.front c.split_at.ensures.back c.split_at-2.ensures.front c.split_at-2.ensures.back in
    let same = kept_same (s c.args.storage.now) (s c.pad_edges.new.storage) c.in_ok-pad_edges.ensures.unchanged_but_faults c.in_ok-pad_edges.ensures.faults in
    mapped c.write_units.result c.map_err.result Within _ _ _ c.map_err.ensures.cases
    (around-halted c.args.unit c.requires.positive (s c.args.storage.now) (s c.pad_edges.new.storage) (s c.write_units.new.storage) same c.args.offset (c.args.offset + c.args.parts.0 + c.args.parts.1)
    c.split_at.result.0.now c.split_at-2.result.0.now c.split_at-2.result.1.now c.pad_edges.new.first c.pad_edges.new.last c.args.data.now
    (some-here c.args.unit c.args.offset (length c.args.data.now) c.args.parts.0 c.args.parts.1 (length c.split_at.result.0.now) (length c.split_at-2.result.0.now) (length c.split_at-2.result.1.now) (length c.pad_edges.new.first) (length c.args.first.now) (length c.pad_edges.new.last) (length c.args.last.now) c.requires.nonempty c.requires.parts c.requires.first c.requires.last h m t f l) (parts-here c.args.unit c.args.offset (length c.args.data.now) c.args.parts.0 c.args.parts.1 (length c.split_at.result.0.now) (length c.split_at-2.result.0.now) (length c.split_at-2.result.1.now) (length c.pad_edges.new.first) (length c.args.first.now) (length c.pad_edges.new.last) (length c.args.last.now) c.requires.nonempty c.requires.parts c.requires.first c.requires.last h m t f l) (first-here c.args.unit c.args.offset (length c.args.data.now) c.args.parts.0 c.args.parts.1 (length c.split_at.result.0.now) (length c.split_at-2.result.0.now) (length c.split_at-2.result.1.now) (length c.pad_edges.new.first) (length c.args.first.now) (length c.pad_edges.new.last) (length c.args.last.now) c.requires.nonempty c.requires.parts c.requires.first c.requires.last h m t f l) (last-here c.args.unit c.args.offset (length c.args.data.now) c.args.parts.0 c.args.parts.1 (length c.split_at.result.0.now) (length c.split_at-2.result.0.now) (length c.split_at-2.result.1.now) (length c.pad_edges.new.first) (length c.args.first.now) (length c.pad_edges.new.last) (length c.args.last.now) c.requires.nonempty c.requires.parts c.requires.first c.requires.last h m t f l) whole (omega (arith, h, m)) c.in_ok-pad_edges.ensures.first c.in_ok-pad_edges.ensures.last)
    c.write_units.ensures.err

use Rattle.std.proofs.Common.{◌≡◌, ◌∙◌, ℕ, List, refl, ap, sym, subst, true, Ok, Err}
use Rattle.imago_storage.specs.declared.fault.Fault.TheVariants.{ReadOnly}
use Rattle.imago_access.specs.Layer.{Fixed}
use Rattle.qcow2_alloc.proofs.Faults.{handed-on}
use Rattle.qcow2_image.specs.Repairing.{LowersCounts}
use Rattle.qcow2_image.specs.Seen.{layer_of}
use Rattle.qcow2_image.specs.contracts.qcow2.Qcow2DriverModel.TheImpl.{ghosts}
use Rattle.qimg_chain.proofs.Repairing.Steps.{failed-repair, flush-step, read-only-refusal, refused-repair, steps-both, unusable-refusal, writable-refusal}
use Rattle.qimg_chain.proofs.Repairing.Images.{coherent-whole, flushed-untouched, list-step, lowered-after, repaired-image}
use Rattle.qimg_chain.proofs.chain.repairing.repair_qcow2.Goals as goal

pub returns-in_err-ready : goal.returns-in_err-ready
returns-in_err-ready g c =
    let D = ghosts g.row.S g.S.Storage g.S.Storage-dict g.S.Destruct-dict in
    let old = c.args.image.now in
    let e = c.in_err-ready.field-0.0 in
    rw (handed-on _ _ c.from_residual.ensures.1) (refused-repair D old e (unusable-refusal (layer_of g.S.Storage old) e c.in_err-ready.ensures.err))

pub returns-then-not-writable : goal.returns-then-not-writable
returns-then-not-writable g c =
    let D = ghosts g.row.S g.S.Storage g.S.Storage-dict g.S.Destruct-dict in
    let old = c.args.image.now in
    refused-repair D old ReadOnly (read-only-refusal (layer_of g.S.Storage old) c.in_ok-ready.ensures.ok refl (sym c.writable.ensures ∙ c.if-not-writable.true))

pub returns-in_err-flush : goal.returns-in_err-flush
returns-in_err-flush g c =
    let st = g.S.Storage in
    let D = ghosts g.row.S st g.S.Storage-dict g.S.Destruct-dict in
    let whole = coherent-whole g.row.S st g.S.Storage-dict g.S.Destruct-dict in
    let old = c.args.image.now in
    let one = c.flush.new.self in
    let e = c.in_err-flush.field-0.0 in
    let unrefused = writable-refusal (layer_of st old) c.in_ok-ready.ensures.ok refl (sym c.writable.ensures ∙ c.if-not-writable.false) in
    let f = c.in_err-flush.ensures in
    let first = flush-step D whole old one (Err e) f.coherent f.crash_images f.early_outcome f.keeps_layer_state f.mutating_call f.failed f.marks_failed f.cause in
    rw (handed-on _ _ c.from_residual-in_err-flush.ensures.1) (failed-repair D old one unrefused e first)

pub returns-in_err-leaks : goal.returns-in_err-leaks
returns-in_err-leaks g c =
    let st = g.S.Storage in
    let D = ghosts g.row.S st g.S.Storage-dict g.S.Destruct-dict in
    let whole = coherent-whole g.row.S st g.S.Storage-dict g.S.Destruct-dict in
    let old = c.args.image.now in
    let one = c.flush.new.self in
    let two = c.leaks_of.new.image in
    let e = c.in_err-leaks.field-0.0 in
    let unrefused = writable-refusal (layer_of st old) c.in_ok-ready.ensures.ok refl (sym c.writable.ensures ∙ c.if-not-writable.false) in
    let f = c.in_ok-flush.ensures in
    let first = flush-step D whole old one (Ok tt) f.coherent f.crash_images f.early_outcome f.keeps_layer_state f.mutating_call f.failed f.marks_failed f.cause in
    let list = list-step g.row.S st g.S.Storage-dict g.S.Destruct-dict one two (Err e) c.in_err-leaks.ensures in
    rw (handed-on _ _ c.from_residual-in_err-leaks.ensures.1) (failed-repair D old two unrefused e (steps-both D old one two tt (Err e) first list))

pub lower_counts-requires : goal.lower_counts-requires
lower_counts-requires g c = record {
  free = (list-step g.row.S g.S.Storage g.S.Storage-dict g.S.Destruct-dict c.flush.new.self c.leaks_of.new.image (Ok c.in_ok-leaks.leaks) c.in_ok-leaks.ensures).keeps_layer_state.unspent
      ∙ c.in_ok-flush.ensures.keeps_layer_state.unspent ∙ c.requires.free;
}

pub returns-in_err-lower_counts : goal.returns-in_err-lower_counts
returns-in_err-lower_counts g c =
    let st = g.S.Storage in
    let D = ghosts g.row.S st g.S.Storage-dict g.S.Destruct-dict in
    let whole = coherent-whole g.row.S st g.S.Storage-dict g.S.Destruct-dict in
    let old = c.args.image.now in
    let one = c.flush.new.self in
    let two = c.leaks_of.new.image in
    let three = c.lower_counts.new.self in
    let e = c.in_err-lower_counts.field-0.0 in
    let unrefused = writable-refusal (layer_of st old) c.in_ok-ready.ensures.ok refl (sym c.writable.ensures ∙ c.if-not-writable.false) in
    let f = c.in_ok-flush.ensures in
    let first = flush-step D whole old one (Ok tt) f.coherent f.crash_images f.early_outcome f.keeps_layer_state f.mutating_call f.failed f.marks_failed f.cause in
    let untouched = flushed-untouched g.row.S st g.S.Storage-dict g.S.Destruct-dict old one c.requires.free f.keeps_layer_state f.freed in
    let writable : one.mode.writable ≡ true = ap (λ (x : Fixed). x.writable) f.keeps_layer_state.fixed ∙ (sym c.writable.ensures ∙ c.if-not-writable.false) in
    let lowers = subst (λ (ps : List (ℕ × ℕ)). LowersCounts st ps two (Err e) three) c.deref.ensures.value c.in_err-lower_counts.ensures in
    let later = lowered-after g.row.S st g.S.Storage-dict g.S.Destruct-dict one two three c.in_ok-leaks.leaks (Err e) untouched writable c.in_ok-leaks.ensures lowers in
    rw (handed-on _ _ c.from_residual-in_err-lower_counts.ensures.1) (failed-repair D old three unrefused e (steps-both D old one three tt (Err e) first later))

pub returns-in_err-flush-2 : goal.returns-in_err-flush-2
returns-in_err-flush-2 g c =
    let st = g.S.Storage in
    let D = ghosts g.row.S st g.S.Storage-dict g.S.Destruct-dict in
    let whole = coherent-whole g.row.S st g.S.Storage-dict g.S.Destruct-dict in
    let old = c.args.image.now in
    let one = c.flush.new.self in
    let two = c.leaks_of.new.image in
    let three = c.lower_counts.new.self in
    let new = c.flush-2.new.self in
    let e = c.in_err-flush-2.field-0.0 in
    let unrefused = writable-refusal (layer_of st old) c.in_ok-ready.ensures.ok refl (sym c.writable.ensures ∙ c.if-not-writable.false) in
    let f = c.in_ok-flush.ensures in
    let first = flush-step D whole old one (Ok tt) f.coherent f.crash_images f.early_outcome f.keeps_layer_state f.mutating_call f.failed f.marks_failed f.cause in
    let untouched = flushed-untouched g.row.S st g.S.Storage-dict g.S.Destruct-dict old one c.requires.free f.keeps_layer_state f.freed in
    let writable : one.mode.writable ≡ true = ap (λ (x : Fixed). x.writable) f.keeps_layer_state.fixed ∙ (sym c.writable.ensures ∙ c.if-not-writable.false) in
    let l = c.in_err-flush-2.ensures in
    let last = flush-step D whole three new (Err e) l.coherent l.crash_images l.early_outcome l.keeps_layer_state l.mutating_call l.failed l.marks_failed l.cause in
    let lowers = subst (λ (ps : List (ℕ × ℕ)). LowersCounts st ps two (Ok tt) three) c.deref.ensures.value c.in_ok-lower_counts.ensures in
    let later = lowered-after g.row.S st g.S.Storage-dict g.S.Destruct-dict one two three c.in_ok-leaks.leaks (Ok tt) untouched writable c.in_ok-leaks.ensures lowers in
    rw (handed-on _ _ c.from_residual-in_err-flush-2.ensures.1)
    (failed-repair D old new unrefused e (steps-both D old one new tt (Err e) first (steps-both D one three new tt (Err e) later last)))

pub returns : goal.returns
returns g c =
    let st = g.S.Storage in
    let D = ghosts g.row.S st g.S.Storage-dict g.S.Destruct-dict in
    let whole = coherent-whole g.row.S st g.S.Storage-dict g.S.Destruct-dict in
    let old = c.args.image.now in
    let one = c.flush.new.self in
    let two = c.leaks_of.new.image in
    let three = c.lower_counts.new.self in
    let new = c.flush-2.new.self in
    let pairs = c.in_ok-leaks.leaks in
    let unrefused = writable-refusal (layer_of st old) c.in_ok-ready.ensures.ok refl (sym c.writable.ensures ∙ c.if-not-writable.false) in
    let f = c.in_ok-flush.ensures in
    let first = flush-step D whole old one (Ok tt) f.coherent f.crash_images f.early_outcome f.keeps_layer_state f.mutating_call f.failed f.marks_failed f.cause in
    let untouched = flushed-untouched g.row.S st g.S.Storage-dict g.S.Destruct-dict old one c.requires.free f.keeps_layer_state f.freed in
    let writable : one.mode.writable ≡ true = ap (λ (x : Fixed). x.writable) f.keeps_layer_state.fixed ∙ (sym c.writable.ensures ∙ c.if-not-writable.false) in
    let l = c.in_ok-flush-2.ensures in
    let last = flush-step D whole three new (Ok tt) l.coherent l.crash_images l.early_outcome l.keeps_layer_state l.mutating_call l.failed l.marks_failed l.cause in
    let lowers = subst (λ (ps : List (ℕ × ℕ)). LowersCounts st ps two (Ok tt) three) c.deref.ensures.value c.in_ok-lower_counts.ensures in
    let later = lowered-after g.row.S st g.S.Storage-dict g.S.Destruct-dict one two three pairs (Ok tt) untouched writable c.in_ok-leaks.ensures lowers in
    let free = later.keeps_layer_state.unspent ∙ f.keeps_layer_state.unspent ∙ c.requires.free in
    repaired-image g.row.S st g.S.Storage-dict g.S.Destruct-dict old one two three new pairs unrefused untouched writable c.in_ok-leaks.ensures lowers first last
    (f.mutating_call.excess_refcount tt) (λ well_formed. f.written well_formed c.requires.free) (λ well_formed. f.counted well_formed c.requires.free) (l.mutating_call.excess_refcount tt)
    (λ well_formed. l.written well_formed free) (λ well_formed. l.counted well_formed free)

use Rattle.std.proofs.Common.{◌≡◌, ℕ, ◌+◌, ◌-◌, ◌<◌, arith, subst, ◌∙◌, refl, Ok, Err, Option, Some, None}
use Rattle.std.specs.Prelude.{Bool, [], ◌∷◌}
use Rattle.imago_access.specs.Layer.{Layer}
use Rattle.imago_access.proofs.ImageCauses.{failed_after}
use Rattle.qcow2_image.specs.Writing.{IsWritableAt}
use Rattle.qcow2_image.specs.Seen.{layer_of}
use Rattle.qcow2_image.proofs.RangeLookups.{held-home, home-both, homeless-unmapped, elsewhere-unmapped, kept-seen, why-told}
use Rattle.qcow2_image.proofs.Steps.{keeps-as, keeps-both}
use Rattle.qcow2_alloc.proofs.Faults.{handed-on}
use Rattle.qcow2_image.proofs.qcow2.Qcow2.is_mapped_at.Goals as goal

pub loop-done-preserved : goal.loop-done-preserved
loop-done-preserved g c =
    let st = g.S.Storage in
    let inv = c.loop-done.invariant in
    let next = c.in_ok-at.ensures in
    let is = c.in-Some.is in
    let run = rw is at next.run in
    let near = rw is at next.end_bounded in
    let keeps = rw is at next.keeps in
    let entry = c.args.self.now in
    let now = c.loop-done.self in (
      omega (arith, run.0, c.loop-done-test.true),
      λ some. omega (arith, near, c.if-at-place.false),
      keeps-both {T = Unit} st entry now c.writable_run.new.self (Ok tt) inv.2
          (keeps-as {T = Option (ℕ × ℕ)} {U = Unit} st now c.writable_run.new.self (Ok (Some (c.in-Some.at, c.in-Some.count))) (Ok tt) (λ w. w)
          (λ f. refl) keeps),
      λ seen.
          let same = kept-seen st entry now inv.2 seen in
          home-both (layer_of st entry) c.args.guest c.args.place c.loop-done.done c.in-Some.count c.in-Some.at
          (omega (arith, c.if-at-place.false)) (inv.3 seen)
          (subst (λ (l : Layer). IsWritableAt l (c.args.guest + c.loop-done.done) c.in-Some.at c.in-Some.count) same.0
          (rw is at (next.writable_location same.1))),
    )

pub returns-then-holds_at-clause-yes : goal.returns-then-holds_at-clause-yes
returns-then-holds_at-clause-yes g c = λ coherent is.
    held-home g.S.Storage c.args.self.now c.args.guest c.args.place c.args.length
    ((rw c.if-holds_at.true at c.holds_at.ensures.held.0) refl) coherent

pub returns-clause-yes : goal.returns-clause-yes
returns-clause-yes g c = λ coherent is.
    let end : c.loop-done.done ≡ c.args.length = omega (arith, c.loop-done.invariant.0, c.loop-done-test.false) in
    subst (IsWritableAt (layer_of g.S.Storage c.args.self.now) c.args.guest c.args.place) end (c.loop-done.invariant.3 coherent.seen)

pub returns-in-None-clause-no : goal.returns-in-None-clause-no
returns-in-None-clause-no g c = λ seen no.
    let st = g.S.Storage in
    let entry = c.args.self.now in
    let same = kept-seen st entry c.loop-done.self c.loop-done.invariant.2 seen in
    homeless-unmapped (layer_of st entry) c.args.guest c.args.place c.args.length c.loop-done.done c.loop-done-test.true
    (subst (λ (l : Layer). l.writable_location (c.args.guest + c.loop-done.done) ≡ None) same.0 (c.in_ok-at.ensures.none same.1 c.in-None.is))

pub returns-then-at-place-clause-no : goal.returns-then-at-place-clause-no
returns-then-at-place-clause-no g c = λ seen no.
    let st = g.S.Storage in
    let entry = c.args.self.now in
    let done = c.loop-done.done in
    let at = c.in-Some.at in
    let same = kept-seen st entry c.loop-done.self c.loop-done.invariant.2 seen in
    let some : 0 < c.in-Some.count = (rw c.in-Some.is at c.in_ok-at.ensures.run).1 (omega (arith, c.loop-done-test.true)) in
    let here : (layer_of st entry).writable_location (c.args.guest + done + 0) ≡ Some (0, at + 0) =
    subst (λ (l : Layer). l.writable_location (c.args.guest + done + 0) ≡ Some (0, at + 0)) same.0
    ((rw c.in-Some.is at (c.in_ok-at.ensures.writable_location same.1)) 0 some) in
    let home : (layer_of st entry).writable_location (c.args.guest + done) ≡ Some (0, at) = subst (λ x. (layer_of st entry).writable_location (c.args.guest + done) ≡ Some (0, x)) (omega arith)
    (subst (λ x. (layer_of st entry).writable_location x ≡ Some (0, at + 0)) (omega arith) here) in
    elsewhere-unmapped (layer_of st entry) c.args.guest c.args.place c.args.length done at c.loop-done-test.true home c.if-at-place.true

pub returns-in_err-at : goal.returns-in_err-at
returns-in_err-at g c = rw (handed-on _ _ c.from_residual.ensures.1) (
    let st = g.S.Storage in
    let inv = c.loop-done.invariant in
    let entry = c.args.self.now in
    let now = c.loop-done.self in
    let new = c.writable_run.new.self in record {
      yes = λ seen. tt;
      no = λ seen. tt;
      end_bounded = tt;
      keeps = keeps-both {T = Bool} st entry now new (Err c.in_err-at.field-0.0) inv.2
          (keeps-as {T = Option (ℕ × ℕ)} {U = Bool} st now new (Err c.in_err-at.field-0.0) (Err c.in_err-at.field-0.0) (λ w. w) (λ f. refl)
          c.in_err-at.ensures.keeps);
      failed = failed_after (st.state entry.tables.file.image ∷ []) (st.state now.tables.file.image ∷ [])
          (st.state new.tables.file.image ∷ []) c.in_err-at.field-0.0
          ((inv.2.tables.unchanged_but_faults.shape, inv.2.tables.counts_not_fallen), tt) c.in_err-at.ensures.failed;
      cause = λ seen.
          let same = kept-seen st entry now inv.2 seen in
          why-told st entry now new (c.args.guest + c.loop-done.done) (c.args.length - c.loop-done.done) c.in_err-at.field-0.0 same.0
          (inv.2.failed ∙ c.requires.runs)
          (inv.2.tables.faults tt).0 (c.in_err-at.ensures.cause same.1);
    })

use Rattle.std.proofs.Common.{inl, inr, refl, subst, sym, ◌∙◌}
use Rattle.qcow2_image.specs.Growing.{IsAllocating}
use Rattle.qcow2_image.proofs.qcow2.Qcow2.check_growth.Goals.{in-FormatAllocate+else-self, in-None, in-Zero+else-version-ne3}
use Rattle.qcow2_image.proofs.qcow2.Qcow2.check_growth.Goals as goal

pub returns-then-not-self-clause-err : goal.returns-then-not-self-clause-err
returns-then-not-self-clause-err g c = inl (refl, c.if-not-self.true)

pub returns-then-version-ne3-clause-err : goal.returns-then-version-ne3-clause-err
returns-then-version-ne3-clause-err g c =
    inr (c.if-not-self.false, λ below. (c.in-Zero.is, λ same. c.if-version-ne3.true (c.version.ensures.value ∙ same)))

pub returns-then-self : goal.returns-then-self
returns-then-self g c =
    let allocates : IsAllocating c.args.mode = elim c.in-FormatAllocate.is [
      | inl is ↦ subst IsAllocating (sym is) tt
      | inr (inl is) ↦ subst IsAllocating (sym is) tt
      | inr (inr is) ↦ subst IsAllocating (sym is) tt
    ] in
    record { ok = tt; possible = tt; err = inr (c.if-not-self.false, λ below. (allocates, c.if-self.true)) }

pub returns-then-size-clause-err : goal.returns-then-size-clause-err
returns-then-size-clause-err g c = inr (c.if-not-self.false, λ below. inl (c.if-size.true, refl))

pub returns-clause-ok : goal.returns-clause-ok
returns-clause-ok g c = (c.if-not-self.false, c.if-size.false)

pub returns-clause-possible : goal.returns-clause-possible
returns-clause-possible g c = λ zero. elim c.match-mode.branch [
  | in-None w ↦ absurd (cc (w.in-None.is, zero))
  | in-Zero+else-version-ne3 w ↦ sym w.version.ensures.value ∙ w.if-version-ne3.false
  | in-FormatAllocate+else-self w ↦ elim w.in-FormatAllocate.is [
    | inl is ↦ absurd (cc (is, zero))
    | inr (inl is) ↦ absurd (cc (is, zero))
    | inr (inr is) ↦ absurd (cc (is, zero))
  ]
]

use Rattle.std.proofs.Common.{◌+◌, ◌*◌, ◌^◌, ◌<◌, ◌≤◌, ◌∙◌, ℕ, arith, sym, subst, Ok, Err}
use Rattle.std.proofs.Math.Nat.{mul-le-mul_right}
use Rattle.qcow2_alloc.proofs.Faults.{handed-on}
use Rattle.qcow2_image.proofs.CallStarts.{begins-same, begins-then}
use Rattle.qcow2_image.proofs.Resizes.OwnTables.{begins-unfailed, owns-both, owns-none}
use Rattle.qcow2_image.proofs.qcow2.Qcow2.own_tables.Goals as goal

pub loop-next-init : goal.loop-next-init
loop-next-init g c = record {
  from = omega (arith, c.first.view_is);
  owns = owns-none g.S.Storage c.args.first c.args.last c.args.self.now;
  begins = begins-same g.S.Storage {T = Unit} c.args.begun.now c.args.self.now (Ok tt) tt;
}

pub own_one-requires : goal.own_one-requires
own_one-requires g c =
    let l = c.loop-next in
    let old = c.args.self.now in
    let bits : ℕ = old.tables.file.header.fields.cluster_bits in
    let less : (l.next + 1) * 2 ^ bits ≤ c.args.last * 2 ^ bits = mul-le-mul_right (2 ^ bits) (omega (arith, c.loop-next-test.true, c.last.view_is)) in
    let fits : (l.next + 1) * 2 ^ bits < 2 ^ 64 + 2 ^ bits = omega (arith, less, c.requires.fits) in record {
      free = l.invariant.owns.keeps.unspent ∙ c.requires.free;
      runs = begins-unfailed {T = Unit} g.S.Storage c.args.begun.now l.begun old l.self (Ok tt) tt l.invariant.begins ∙ c.requires.runs;
      fits = subst (λ (b : ℕ). (l.next + 1) * 2 ^ b < 2 ^ 64 + 2 ^ b) (sym l.invariant.owns.keeps.bits) fits;
    }

pub loop-next-preserved : goal.loop-next-preserved
loop-next-preserved g c =
    let l = c.loop-next in
    let new = c.own_one.new in
    let to : l.next + 1 ≤ c.args.last = omega (arith, c.loop-next-test.true, c.last.view_is) in record {
      from = omega (arith, l.invariant.from);
      owns = owns-both g.S.Storage c.args.first c.args.last l.next (l.next + 1) c.args.self.now l.self new.self l.invariant.from to
          l.invariant.owns (Ok tt) c.in_ok-own_one.ensures.owns;
      begins = begins-then g.S.Storage {T = Unit} {U = Unit} c.args.begun.now l.begun new.begun c.args.self.now l.self new.self (Ok tt) (Ok tt) tt
          l.invariant.begins c.in_ok-own_one.ensures.begins;
    }

pub returns-in_err-own_one-clause-owns : goal.returns-in_err-own_one-clause-owns
returns-in_err-own_one-clause-owns g c = rw (handed-on _ _ c.from_residual.ensures.1) (
    let l = c.loop-next in
    owns-both g.S.Storage c.args.first c.args.last l.next (l.next + 1) c.args.self.now l.self c.own_one.new.self l.invariant.from
    (omega (arith, c.loop-next-test.true, c.last.view_is)) l.invariant.owns (Err c.in_err-own_one.field-0.0) c.in_err-own_one.ensures.owns)

pub returns-in_err-own_one-clause-begins : goal.returns-in_err-own_one-clause-begins
returns-in_err-own_one-clause-begins g c = rw (handed-on _ _ c.from_residual.ensures.1) (
    let l = c.loop-next in
    begins-then g.S.Storage {T = Unit} {U = Unit} c.args.begun.now l.begun c.own_one.new.begun c.args.self.now l.self c.own_one.new.self
    (Ok tt) (Err c.in_err-own_one.field-0.0) tt l.invariant.begins c.in_err-own_one.ensures.begins)

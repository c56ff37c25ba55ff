use Rattle.std.proofs.Common.{Result, ℕ, sym, subst, ◌∙◌}
use Rattle.imago_storage.specs.declared.fault.Fault.{Fault}
use Rattle.qcow2_image.specs.Allocating.{Begins}
use Rattle.qcow2_image.specs.Growing.{StoresZeroes}
use Rattle.qcow2_image.specs.declared.allocating.Placed.{Placed}
use Rattle.qcow2_image.proofs.CallStarts.{begins-placed, begins-then, full-whole}
use Rattle.qcow2_image.proofs.Resizes.ZeroStores.{zeroes-alone, zeroes-done, zeroes-once}
use Rattle.qcow2_image.proofs.qcow2.Qcow2.store_most_zeroes.Goals as goal

pub returns-then-count-eq1-clause-stores : goal.returns-then-count-eq1-clause-stores
returns-then-count-eq1-clause-stores g c =
    let old = c.args.self.now in
    let one = sym c.count.view_is ∙ c.if-count-eq1.true in
    subst (λ (r : Result Placed Fault). StoresZeroes g.S.Storage c.args.count old r c.store_zeroes-stored.new.self) (sym c.as_placed.ensures)
    (zeroes-once g.S.Storage c.args.count old c.requires.any c.store_zeroes-stored.new.self c.store_zeroes-stored.result one
    c.store_zeroes-stored.ensures.stores)

pub returns-then-is_full-clause-stores : goal.returns-then-is_full-clause-stores
returns-then-is_full-clause-stores g c =
    let old = c.args.self.now in
    subst (λ (r : Result Placed Fault). StoresZeroes g.S.Storage c.args.count old r c.store_zeroes-one.new.self) (sym c.as_placed-then-is_full.ensures)
    (zeroes-alone g.S.Storage c.args.count old c.requires.any c.store_zeroes-stored.new.self c.store_zeroes-one.new.self
    c.store_zeroes-stored.result c.store_zeroes-one.result (sym c.is_full.ensures ∙ c.if-is_full.true) c.store_zeroes-stored.ensures.stores
    c.store_zeroes-one.ensures.stores)

pub returns-clause-stores : goal.returns-clause-stores
returns-clause-stores g c =
    let old = c.args.self.now in
    subst (λ (r : Result Placed Fault). StoresZeroes g.S.Storage c.args.count old r c.store_zeroes-stored.new.self) (sym c.as_placed-2.ensures)
    (zeroes-done g.S.Storage c.args.count old c.requires.any c.store_zeroes-stored.new.self c.store_zeroes-stored.result
    (sym c.is_full.ensures ∙ c.if-is_full.false) c.store_zeroes-stored.ensures.stores)

pub returns-then-count-eq1-clause-begins : goal.returns-then-count-eq1-clause-begins
returns-then-count-eq1-clause-begins g c =
    let old = c.args.self.now in
    let stored = c.store_zeroes-stored in
    subst (λ (r : Result Placed Fault). Begins g.S.Storage c.args.begun.now old r stored.new.begun stored.new.self) (sym c.as_placed.ensures)
    (begins-placed g.S.Storage c.args.count c.args.begun.now stored.new.begun old stored.new.self stored.result stored.ensures.begins)

pub returns-then-is_full-clause-begins : goal.returns-then-is_full-clause-begins
returns-then-is_full-clause-begins g c =
    let old = c.args.self.now in
    let stored = c.store_zeroes-stored in
    let one = c.store_zeroes-one in
    subst (λ (r : Result Placed Fault). Begins g.S.Storage c.args.begun.now old r one.new.begun one.new.self) (sym c.as_placed-then-is_full.ensures)
    (begins-placed g.S.Storage 1 c.args.begun.now one.new.begun old one.new.self one.result
    (begins-then g.S.Storage {T = ℕ} {U = ℕ} c.args.begun.now stored.new.begun one.new.begun old stored.new.self one.new.self stored.result one.result
    (full-whole stored.result (sym c.is_full.ensures ∙ c.if-is_full.true)) stored.ensures.begins one.ensures.begins))

pub returns-clause-begins : goal.returns-clause-begins
returns-clause-begins g c =
    let old = c.args.self.now in
    let stored = c.store_zeroes-stored in
    subst (λ (r : Result Placed Fault). Begins g.S.Storage c.args.begun.now old r stored.new.begun stored.new.self) (sym c.as_placed-2.ensures)
    (begins-placed g.S.Storage c.args.count c.args.begun.now stored.new.begun old stored.new.self stored.result stored.ensures.begins)

use Rattle.std.proofs.Common.{◌∷◌, List, arith, length, map, subst, sym, ℕ}
use Rattle.imago_access.specs.Chain.{at, unit_of_chain}
use Rattle.imago_access.specs.Files.{IsNotResourceError, files_of}
use Rattle.imago_access.specs.Layer.{Layer}
use Rattle.imago_access.specs.Refusals.{SomeUnusable}
use Rattle.imago_access.proofs.Looking.{chain_same, chain_sees}
use Rattle.imago_access.proofs.Units.{unit_aligned}
use Rattle.qimg_chain.specs.PlainReads.{HasFault, NotReadInOrder}
use Rattle.qimg_chain.proofs.Failing.{file_may_fail}
use Rattle.qimg_chain.proofs.Narrowing.{met, not_resource_error, otherwise}
use Rattle.qimg_chain.proofs.chain.plain_reads.read_in_order.Goals as goal

pub first_place_fault-requires-clause-coherent : goal.first_place_fault-requires-clause-coherent
first_place_fault-requires-clause-coherent g c =
    let d = g.D.DriverModel in
    let place = c.is_of_place.ensures.0 (grind (arith, c.if-is_of_place.true)) in
    chain_sees d (IsNotResourceError c.in-Err.fault) (c.args.chain.now.0 ∷ c.args.chain.now.1) (c.read.new.self.0 ∷ c.read.new.self.1) (not_resource_error c.in-Err.fault place) c.requires.coherent c.in-Err.ensures.lookup_call

pub first_place_fault-requires-clause-usable : goal.first_place_fault-requires-clause-usable
first_place_fault-requires-clause-usable g c = λ f is.
    let d = g.D.DriverModel in
    let place = c.is_of_place.ensures.0 (grind (arith, c.if-is_of_place.true)) in
    let same = chain_same d (IsNotResourceError c.in-Err.fault) (c.args.chain.now.0 ∷ c.args.chain.now.1) (c.read.new.self.0 ∷ c.read.new.self.1) (not_resource_error c.in-Err.fault place) c.requires.coherent c.in-Err.ensures.lookup_call in
    c.requires.usable f (subst (λ (ls : List Layer). SomeUnusable ls f) same is)

pub first_place_fault-requires-clause-faulty : goal.first_place_fault-requires-clause-faulty
first_place_fault-requires-clause-faulty g c =
    let d = g.D.DriverModel in
    let olds = c.args.chain.now.0 ∷ c.args.chain.now.1 in let news = c.read.new.self.0 ∷ c.read.new.self.1 in
    let layers = map d.layer olds in
    let fault = c.in-Err.fault in
    let place = c.is_of_place.ensures.0 (grind (arith, c.if-is_of_place.true)) in
    let same = chain_same d (IsNotResourceError fault) olds news (not_resource_error fault place) c.requires.coherent c.in-Err.ensures.lookup_call in
    let has = met layers (at layers) (unit_of_chain layers) c.requires.usable (files_of d olds) (files_of d news) c.args.offset (length c.args.buf.now) fault place (c.in-Err.ensures.cause c.requires.coherent) in
    subst (λ (n : ℕ). HasFault (at (map d.layer news)) c.args.offset n fault) (sym c.read.auto.buf)
    (subst (λ (ls : List Layer). HasFault (at ls) c.args.offset (length c.args.buf.now) fault) (sym same) has)

pub returns-then-is_of_place-clause-err : goal.returns-then-is_of_place-clause-err
returns-then-is_of_place-clause-err g c =
    let d = g.D.DriverModel in
    let olds = c.args.chain.now.0 ∷ c.args.chain.now.1 in let news = c.read.new.self.0 ∷ c.read.new.self.1 in
    let layers = map d.layer olds in
    let place = c.is_of_place.ensures.0 (grind (arith, c.if-is_of_place.true)) in
    let same = chain_same d (IsNotResourceError c.in-Err.fault) olds news (not_resource_error c.in-Err.fault place) c.requires.coherent c.in-Err.ensures.lookup_call in
    subst (λ (n : ℕ). NotReadInOrder d (at layers) c.args.offset n c.first_place_fault.result) c.read.auto.buf
    (subst (λ (ls : List Layer). NotReadInOrder d (at ls) c.args.offset (length c.read.new.buf) c.first_place_fault.result) same c.first_place_fault.ensures)

pub returns-else-is_of_place-clause-err : goal.returns-else-is_of_place-clause-err
returns-else-is_of_place-clause-err g c =
    let d = g.D.DriverModel in
    let olds = c.args.chain.now.0 ∷ c.args.chain.now.1 in let news = c.read.new.self.0 ∷ c.read.new.self.1 in
    let layers = map d.layer olds in
    otherwise layers (at layers) (unit_of_chain layers) c.requires.usable (files_of d olds) (files_of d news) d
    (file_may_fail d olds news) (unit_aligned d.layer g.met.D.FormatDriverInstance.aligned olds) c.args.offset (length c.args.buf.now) c.args.offset (length c.args.buf.now) c.in-Err.fault
    (omega arith) (omega arith) (λ place. grind (arith, c.is_of_place.ensures.1 place, c.if-is_of_place.false)) (c.in-Err.ensures.cause c.requires.coherent)

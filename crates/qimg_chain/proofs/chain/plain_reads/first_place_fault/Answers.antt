use Rattle.std.proofs.Common.{◌≡◌, ◌∙◌, ◌∷◌, ◌+◌, ◌-◌, ◌/◌, List, arith, length, map, refl, subst, sym}
use Rattle.std.specs.Prelude.{⊤, Ok}
use Rattle.imago_storage.specs.Disk.{Shows}
use Rattle.imago_access.specs.Chain.{at, unit_of_chain}
use Rattle.imago_access.specs.Files.{IsNotResourceError, files_of}
use Rattle.imago_access.specs.Layer.{Layer}
use Rattle.imago_access.specs.Refusals.{ReadCause}
use Rattle.imago_access.proofs.Looking.{chain_same, chain_sees}
use Rattle.imago_access.proofs.Reading.{shown_of_step}
use Rattle.imago_access.proofs.Units.{unit_aligned}
use Rattle.qimg_chain.proofs.Failing.{file_may_fail}
use Rattle.qimg_chain.proofs.Narrowing.{alone, begun, found, in_order, met, not_resource_error, moved, otherwise, passed}
use Rattle.qimg_chain.proofs.chain.plain_reads.first_place_fault.Goals as goal

pub loop-end-init : goal.loop-end-init
loop-end-init g c = let d = g.D.DriverModel in record {
  narrowed = begun (at (map d.layer (c.args.chain.now.0 ∷ c.args.chain.now.1))) c.args.offset (length c.args.buf.now) c.args.fault c.requires.faulty;
  same = refl;
  coherent = c.requires.coherent;
}

pub loop-end-preserved-in-Ok : goal.loop-end-preserved-in-Ok
loop-end-preserved-in-Ok g c =
    let d = g.D.DriverModel in let l = c.loop-end in
    let olds = l.chain.0 ∷ l.chain.1 in let news = c.read.new.self.0 ∷ c.read.new.self.1 in
    let layers = map d.layer (c.args.chain.now.0 ∷ c.args.chain.now.1) in
    let long : length c.read.new.buf ≡ (l.end - l.good) / 2 = omega (arith, c.read.auto.buf, l.auto.buf, l.invariant.narrowed.most, c.loop-end-test.true) in
    let shows = subst (λ (ls : List Layer). Shows (at ls) (c.args.offset + l.good) c.read.new.buf) l.invariant.same
    (shown_of_step d l.chain c.read.new.self (c.args.offset + l.good) _ c.read.new.buf (Ok c.in-Ok.field-0) (c.in-Ok.ensures.ok l.invariant.coherent)) in
    record {
      narrowed = passed (at layers) c.args.offset (length c.args.buf.now) l.good l.end (l.good + (l.end - l.good) / 2) c.read.new.buf l.fault l.invariant.narrowed (omega (arith, long)) shows;
      same = chain_same d ⊤ olds news tt l.invariant.coherent c.in-Ok.ensures.lookup_call ∙ l.invariant.same;
      coherent = chain_sees d ⊤ olds news tt l.invariant.coherent c.in-Ok.ensures.lookup_call;
    }

pub returns-then-not-is_of_place : goal.returns-then-not-is_of_place
returns-then-not-is_of_place g c =
    let d = g.D.DriverModel in let l = c.loop-end in
    let olds = l.chain.0 ∷ l.chain.1 in let news = c.read.new.self.0 ∷ c.read.new.self.1 in
    let layers = map d.layer (c.args.chain.now.0 ∷ c.args.chain.now.1) in
    let other = c.in-Err.other in
    let long : length c.read.new.buf ≡ (l.end - l.good) / 2 = omega (arith, c.read.auto.buf, l.auto.buf, l.invariant.narrowed.most, c.loop-end-test.true) in
    otherwise layers (at layers) (unit_of_chain layers) c.requires.usable (files_of d olds) (files_of d news) d
    (file_may_fail d olds news) (unit_aligned d.layer g.met.D.FormatDriverInstance.aligned (c.args.chain.now.0 ∷ c.args.chain.now.1)) c.args.offset (length c.args.buf.now)
    (c.args.offset + l.good) (length c.read.new.buf) other (omega arith) (omega (arith, long, l.invariant.narrowed.most, c.loop-end-test.true)) (λ place. grind (arith, c.is_of_place.ensures.1 place, c.if-not-is_of_place.true))
    (subst (λ m. ReadCause layers (at layers) (unit_of_chain layers) (c.args.offset + l.good) m (files_of d olds) (files_of d news) other) (sym c.read.auto.buf)
    (moved (map d.layer olds) layers (c.args.offset + l.good) _ (files_of d olds) (files_of d news) other l.invariant.same (c.in-Err.ensures.cause l.invariant.coherent)))

pub loop-end-preserved : goal.loop-end-preserved
loop-end-preserved g c =
    let d = g.D.DriverModel in let l = c.loop-end in
    let olds = l.chain.0 ∷ l.chain.1 in let news = c.read.new.self.0 ∷ c.read.new.self.1 in
    let layers = map d.layer (c.args.chain.now.0 ∷ c.args.chain.now.1) in
    let other = c.in-Err.other in
    let place = c.is_of_place.ensures.0 (grind (arith, c.if-not-is_of_place.false)) in
    let long : length c.read.new.buf ≡ (l.end - l.good) / 2 = omega (arith, c.read.auto.buf, l.auto.buf, l.invariant.narrowed.most, c.loop-end-test.true) in
    let why = subst (λ m. ReadCause layers (at layers) (unit_of_chain layers) (c.args.offset + l.good) m (files_of d olds) (files_of d news) other) (sym c.read.auto.buf)
    (moved (map d.layer olds) layers (c.args.offset + l.good) _ (files_of d olds) (files_of d news) other l.invariant.same (c.in-Err.ensures.cause l.invariant.coherent)) in
    record {
      narrowed = found (at layers) c.args.offset (length c.args.buf.now) l.good l.end (l.good + (l.end - l.good) / 2) (length c.read.new.buf) l.fault other l.invariant.narrowed
          (omega (arith, long)) (omega (arith, c.loop-end-test.true))
          (met layers (at layers) (unit_of_chain layers) c.requires.usable (files_of d olds) (files_of d news) (c.args.offset + l.good) (length c.read.new.buf) other place why);
      same = chain_same d (IsNotResourceError other) olds news (not_resource_error other place) l.invariant.coherent c.in-Err.ensures.lookup_call ∙ l.invariant.same;
      coherent = chain_sees d (IsNotResourceError other) olds news (not_resource_error other place) l.invariant.coherent c.in-Err.ensures.lookup_call;
    }

pub returns : goal.returns
returns g c =
    let d = g.D.DriverModel in let l = c.loop-end in
    let layers = map d.layer (c.args.chain.now.0 ∷ c.args.chain.now.1) in
    in_order d (at layers) c.args.offset (length c.args.buf.now) l.fault
    (alone (at layers) c.args.offset (length c.args.buf.now) l.good l.end l.fault l.invariant.narrowed (omega (arith, c.loop-end-test.false)))

use Rattle.std.proofs.Common.{◌∙◌, ap, subst, sym, ℕ, ◌<◌, Ok, Err, Option}
use Rattle.std.specs.Prelude.{Vec}
use Rattle.std.specs.declared.alloc.Global.{Global}
use Rattle.qcow2_types.specs.Header.{Fields, Header}
use Rattle.qcow2_alloc.proofs.Faults.{handed-on}
use Rattle.qcow2_image.specs.Growing.{IsPossibleFor}
use Rattle.qcow2_image.proofs.Resizes.GrowthsOver.{begins-since, over-sized, over-unprepared, over-unread, over-untailed, prepares-since, tail-long, tail-stored}
use Rattle.qcow2_image.proofs.qcow2.Qcow2.grow_over.Goals as goal

pub returns-in_err-tail : goal.returns-in_err-tail
returns-in_err-tail g c = rw (handed-on _ _ c.from_residual.ensures.1)
    (over-unread g.S.Storage g.B.LayersBelowModel c.args.size c.args.self.now c.args.below.now c.in_err-tail.field-0.0
    c.read_tail.new.self c.read_tail.new.below c.in_err-tail.ensures)

pub prepare_growth-requires : goal.prepare_growth-requires
prepare_growth-requires g c =
    let k = c.in_ok-tail.ensures.keeps in
    let fields = sym (ap (λ (H : Header). H.fields) k.tables.header) in
    record {
      free = k.unspent ∙ c.requires.free;
      longer = subst (λ (f : Fields). f.size < c.args.size) fields c.requires.longer;
      fits = c.requires.fits;
      possible = subst (λ (f : Fields). IsPossibleFor c.args.how f.version) fields c.requires.possible;
      begun = c.is_none-begun.ensures;
    }

pub returns-in_err-prepare_growth : goal.returns-in_err-prepare_growth
returns-in_err-prepare_growth g c = rw (handed-on _ _ c.from_residual-in_err-prepare_growth.ensures.1) (
    let st = g.S.Storage in
    let read = c.in_ok-tail.ensures in
    let e = c.in_err-prepare_growth.field-0.0 in
    over-unprepared st g.B.LayersBelowModel c.args.size c.args.self.now c.args.below.now e c.prepare_growth.new.self c.read_tail.new.below
    read.below
    (prepares-since {T = Option (Vec ℕ Global)} st c.args.size c.args.self.now c.read_tail.new.self c.prepare_growth.new.self c.in_ok-tail.tail
    read.keeps (Err e) c.in_err-prepare_growth.ensures.prepares))

pub store_tail-requires-clause-whole : goal.store_tail-requires-clause-whole
store_tail-requires-clause-whole g c =
    let st = g.S.Storage in
    let read = c.in_ok-tail.ensures in
    tail-long st g.B.LayersBelowModel c.args.size c.args.self.now c.args.below.now c.prepare_growth.new.self
    (prepares-since {T = Option (Vec ℕ Global)} st c.args.size c.args.self.now c.read_tail.new.self c.prepare_growth.new.self c.in_ok-tail.tail
    read.keeps (Ok tt) c.in_ok-prepare_growth.ensures.prepares) c.requires.longer c.in_ok-tail.tail read.tail

pub store_tail-requires-clause-free : goal.store_tail-requires-clause-free
store_tail-requires-clause-free g c =
    c.in_ok-prepare_growth.ensures.prepares.sets.unspent ∙ c.in_ok-tail.ensures.keeps.unspent ∙ c.requires.free

pub returns-in_err-store_tail : goal.returns-in_err-store_tail
returns-in_err-store_tail g c = rw (handed-on _ _ c.from_residual-in_err-store_tail.ensures.1) (
    let st = g.S.Storage in
    let u = g.B.LayersBelowModel in
    let old = c.args.self.now in
    let seen = c.read_tail.new.self in
    let mid = c.prepare_growth.new.self in
    let new = c.store_tail.new.self in
    let read = c.in_ok-tail.ensures in
    let e = c.in_err-store_tail.field-0.0 in
    let ready = prepares-since {T = Option (Vec ℕ Global)} st c.args.size old seen mid c.in_ok-tail.tail read.keeps (Ok tt)
    c.in_ok-prepare_growth.ensures.prepares in
    over-untailed st u c.args.size old c.args.below.now mid ready c.requires.longer e new c.read_tail.new.below
    (tail-stored st u c.args.size old c.args.below.now mid ready c.requires.longer c.read_tail.new.below read.below c.in_ok-tail.tail read.tail
    (Err e) new c.in_err-store_tail.ensures.stores)
    c.is_none-begun.result c.prepare_growth.new.begun c.store_tail.new.begun
    (begins-since {T = Option (Vec ℕ Global)} st c.args.size old seen mid c.in_ok-tail.tail read.keeps c.is_none-begun.result
    c.prepare_growth.new.begun c.in_ok-prepare_growth.ensures.begins)
    c.in_err-store_tail.ensures.begins)

pub resize_to-requires : goal.resize_to-requires
resize_to-requires g c =
    let st = g.S.Storage in
    let u = g.B.LayersBelowModel in
    let read = c.in_ok-tail.ensures in
    let ready = prepares-since {T = Option (Vec ℕ Global)} st c.args.size c.args.self.now c.read_tail.new.self c.prepare_growth.new.self
    c.in_ok-tail.tail read.keeps (Ok tt) c.in_ok-prepare_growth.ensures.prepares in
    let stored = tail-stored st u c.args.size c.args.self.now c.args.below.now c.prepare_growth.new.self ready c.requires.longer
    c.read_tail.new.below read.below c.in_ok-tail.tail read.tail (Ok tt) c.store_tail.new.self c.in_ok-store_tail.ensures.stores in
    record { free = stored.unspent ∙ ready.sets.unspent ∙ c.requires.free }

pub returns : goal.returns
returns g c =
    let st = g.S.Storage in
    let u = g.B.LayersBelowModel in
    let old = c.args.self.now in
    let mid = c.prepare_growth.new.self in
    let read = c.in_ok-tail.ensures in
    let ready = prepares-since {T = Option (Vec ℕ Global)} st c.args.size old c.read_tail.new.self mid c.in_ok-tail.tail read.keeps (Ok tt)
    c.in_ok-prepare_growth.ensures.prepares in
    over-sized st u c.args.size old c.args.below.now mid ready c.requires.longer c.store_tail.new.self c.read_tail.new.below
    (tail-stored st u c.args.size old c.args.below.now mid ready c.requires.longer c.read_tail.new.below read.below c.in_ok-tail.tail read.tail
    (Ok tt) c.store_tail.new.self c.in_ok-store_tail.ensures.stores)
    c.requires.fits c.resize_to.new.self c.resize_to.result c.resize_to.ensures

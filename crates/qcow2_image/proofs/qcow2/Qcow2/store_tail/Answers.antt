use Rattle.std.proofs.Common.{◌∙◌, ◌≡◌, ◌-◌, ◌<◌, ◌/◌, ◌^◌, ℕ, List, Some, Option, Result, Ok, ap, arith, subst, sym, refl, length}
use Rattle.std.specs.Prelude.{⊤, MatchOption, Vec}
use Rattle.std.specs.declared.alloc.Global.{Global}
use Rattle.imago_storage.specs.declared.fault.Fault.{Fault}
use Rattle.qcow2_types.specs.Header.{cluster_size}
use Rattle.qcow2_image.specs.Growing.{ReplacesCluster, StoresTail}
use Rattle.qcow2_image.proofs.CallStarts.{begins-same}
use Rattle.qcow2_image.proofs.qcow2.Qcow2.store_tail.Goals as goal

pub returns-in-None-clause-stores : goal.returns-in-None-clause-stores
returns-in-None-clause-stores g c = rw c.in-None.is (refl, refl)

pub returns-in-None-clause-begins : goal.returns-in-None-clause-begins
returns-in-None-clause-begins g c = begins-same g.S.Storage {T = Unit} c.args.begun.now c.args.self.now (Ok tt) tt

pub overflow_sub-size : goal.overflow_sub-size
overflow_sub-size g c =
    let h = c.args.self.now.tables.file.header.fields in
    let given = subst (λ (o : Option (Vec ℕ Global)). MatchOption o ⊤ (λ v. (0 < h.size) × (length v.items ≡ cluster_size h))) c.in-Some.is
    c.requires.whole in
    let some : 0 < h.size = given.0 in
    omega (arith, some, c.size.ensures)

pub replace_cluster-requires-clause-whole : goal.replace_cluster-requires-clause-whole
replace_cluster-requires-clause-whole g c =
    let h = c.args.self.now.tables.file.header.fields in
    let given = subst (λ (o : Option (Vec ℕ Global)). MatchOption o ⊤ (λ v. (0 < h.size) × (length v.items ≡ cluster_size h))) c.in-Some.is
    c.requires.whole in
    ap (λ (l : List ℕ). length l) c.deref.ensures.value ∙ given.1

pub returns-in-Some-clause-stores : goal.returns-in-Some-clause-stores
returns-in-Some-clause-stores g c =
    let st = g.S.Storage in
    let old = c.args.self.now in
    let done = c.replace_cluster in
    let row = c.cluster-guest.ensures ∙ (λ i. (c.size.ensures i - 1) / 2 ^ c.cluster_bits-cluster_bits.ensures.value i) in
    rw c.in-Some.is (
    subst (λ (l : List ℕ). ReplacesCluster st ((old.tables.file.header.fields.size - 1) / cluster_size old.tables.file.header.fields) l old
    done.result done.new.self) c.deref.ensures.value
    (subst (λ (n : ℕ). ReplacesCluster st n c.deref.result.now old done.result done.new.self) row done.ensures.replaces))

pub returns-in-Some-clause-begins : goal.returns-in-Some-clause-begins
returns-in-Some-clause-begins g c = c.replace_cluster.ensures.begins

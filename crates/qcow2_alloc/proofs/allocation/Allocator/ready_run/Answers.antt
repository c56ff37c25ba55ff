use Rattle.std.proofs.Common.{◌≡◌, ◌<◌, ◌≤◌, ◌/◌, ◌^◌, ℕ, Bool, false, refl, arith, ap, subst, ◌∙◌, pow_pos, Ok, Err, ◌+◌, ◌-◌, true, sym}
use Rattle.std.proofs.Common.{length, IsTrue, inl, inr}
use Rattle.std.proofs.lemmas.Bool.{cases_lt}
use Rattle.std.proofs.lemmas.Nat.{le-div}
use Rattle.std.proofs.Math.Nat.{div-mul-le_self}
use Rattle.imago_storage.specs.declared.fault.Fault.TheVariants.{Limit}
use Rattle.qcow2_types.specs.Counts.{counters_of_block}
use Rattle.qcow2_alloc.specs.declared.allocation.readying_runs.Provision.{Provision}
use Rattle.qcow2_alloc.specs.declared.allocation.readying_runs.Provision.TheVariants.{Complete, Extended}
use Rattle.qcow2_alloc.specs.Allocators.{table_of, first_free_of}
use Rattle.qcow2_alloc.specs.Caches.{cached_file}
use Rattle.qcow2_alloc.specs.FreeList.{FreeList}
use Rattle.qcow2_alloc.specs.ReadyingBlocks.{ReadiesBlocks, last_number}
use Rattle.qcow2_alloc.specs.ReadyingRuns.{ReadiesRun}
use Rattle.qcow2_alloc.specs.SearchingClusters.{KeepsClean}
use Rattle.qcow2_alloc.specs.State.{seen, with_first_free, allocator_state}
use Rattle.qcow2_alloc.proofs.Handing.RunReadiness.{Stays, stays-none, stays-found, stays-on, found-run, readying-none, readying-searched, readying-made, search-refused, making-refused, unfit-refused, grown-refused, run-ready, turns-fewer}
use Rattle.qcow2_alloc.proofs.Faults.{handed-on}
use Rattle.qcow2_alloc.proofs.allocation.Allocator.ready_run.Goals as goal

pub loop-first-init : goal.loop-first-init
loop-first-init g c = (readying-none g.S.Storage.state (seen c.args.self.now c.args.caches.now c.args.file.now c.args.list.now), refl, refl, c.entries-entries.ensures.value, stays-none g.S.Storage.state (seen c.args.self.now c.args.caches.now c.args.file.now c.args.list.now) (first_free_of c.args.self.now) c.args.count c.requires.nonempty, λ not. (not, refl, refl, refl, refl))

pub returns-in_err-first-clause-readies : goal.returns-in_err-first-clause-readies
returns-in_err-first-clause-readies g c = rw (handed-on _ _ c.from_residual.ensures.1) (
    let s = seen c.args.self.now c.args.caches.now c.args.file.now c.args.list.now in
    let state = g.S.Storage.state in
    let l = c.loop-first in
    let new = c.find_run.new in
    subst (λ (m : ℕ). ReadiesRun state c.args.count (with_first_free s m) (Err c.in_err-first.field-0.0) (allocator_state l.self new.caches new.file l.list)) l.invariant.1
    (search-refused state s (seen l.self l.caches l.file l.list) l.invariant.0 (first_free_of l.self) c.args.count c.in_err-first.field-0.0 new.caches new.file c.in_err-first.ensures))

pub returns-in_err-last_index-clause-readies : goal.returns-in_err-last_index-clause-readies
returns-in_err-last_index-clause-readies g c = rw (handed-on _ _ c.from_residual-in_err-last_index.ensures.1) (
    let s = seen c.args.self.now c.args.caches.now c.args.file.now c.args.list.now in
    let state = g.S.Storage.state in
    let l = c.loop-first in
    let so_far = seen l.self l.caches l.file l.list in
    let new = c.find_run.new in
    subst (λ (m : ℕ). ReadiesRun state c.args.count (with_first_free s m) (Err c.in_err-last_index.field-0.0) (allocator_state l.self new.caches new.file l.list)) l.invariant.1
    (unfit-refused state s so_far l.invariant.0 (first_free_of l.self) c.args.count c.in_ok-first.first c.requires.nonempty new.caches new.file c.in_ok-first.ensures
    c.in_err-last_index.field-0.0 c.in_err-last_index.ensures.err
    (subst (λ (m : ℕ). Stays state s m c.args.count so_far) (sym l.invariant.1) l.invariant.4)))

yes-true : (b : Bool) → b ≡ true → IsTrue b
yes-true true is = refl
yes-true false is = cc is

never-false : (b : Bool) → b ≡ false → IsTrue b → ⊥
never-false false is holds = cc holds
never-false true is holds = cc is

pub returns-then-has_grown_short_of-clause-readies : goal.returns-then-has_grown_short_of-clause-readies
returns-then-has_grown_short_of-clause-readies g c =
    let s = seen c.args.self.now c.args.caches.now c.args.file.now c.args.list.now in
    let state = g.S.Storage.state in
    let l = c.loop-first in
    let so_far = seen l.self l.caches l.file l.list in
    let new = c.find_run.new in
    let long = l.invariant.3 in
    let short = c.has_grown_short_of.ensures.0 (yes-true c.has_grown_short_of.result c.if-has_grown_short_of.true) in
    let more = short.0 in
    let less = short.1 in
    let index = c.in_ok-last_index.ensures.index in
    subst (λ (m : ℕ). ReadiesRun state c.args.count (with_first_free s m) (Err (Limit c.saturating_add.result)) (allocator_state l.self new.caches new.file l.list)) l.invariant.1
    (grown-refused state s so_far l.invariant.0 (first_free_of l.self) c.args.count c.in_ok-first.first c.requires.nonempty new.caches new.file c.in_ok-first.ensures
    c.saturating_add.result (subst (λ (z : ℕ). c.saturating_add.result ≡ last_number z c.args.count) c.first.view_is c.saturating_add.ensures) (omega (arith, long, more)) (omega (arith, less, index))
    (subst (λ (m : ℕ). Stays state s m c.args.count so_far) (sym l.invariant.1) l.invariant.4))

-- A table that has grown has an entry for the last cluster of the run, unless the call failed.
covers : (entries now last first : ℕ) (short : Bool) → short ≡ false → (entries < now → now ≤ last → IsTrue short) → entries ≡ first → first < now → last < now
covers entries now last first short not said is longer = elim (cases_lt last now) [
  | inl inside ↦ inside
  | inr past ↦ absurd (never-false short not (said (omega (arith, is, longer)) past))
]

pub loop-first-smaller : goal.loop-first-smaller
loop-first-smaller g c =
    let l = c.loop-first in
    let made = c.in_ok-ready_blocks.ensures in
    turns-fewer (table_of l.self) (table_of c.ready_blocks.new.self) l.self.table_bounded (made.readies.further c.in_default.is)

pub loop-first-preserved : goal.loop-first-preserved
loop-first-preserved g c =
    let s = seen c.args.self.now c.args.caches.now c.args.file.now c.args.list.now in
    let state = g.S.Storage.state in
    let l = c.loop-first in
    let so_far = seen l.self l.caches l.file l.list in
    let searched = c.find_run.new in
    let new = c.ready_blocks.new in
    let s' = allocator_state new.self new.caches new.file new.list in
    let made = c.in_ok-ready_blocks.ensures in
    let bits = c.rb_bits.ensures in
    let k = counters_of_block searched.file.header.fields in
    let at = c.in_ok-last_index.last_index + (c.args.count / k + 2) in
    let found = readying-searched state s so_far l.invariant.0 (first_free_of l.self) c.args.count c.in_ok-first.first searched.caches searched.file c.in_ok-first.ensures in
    let kept = stays-found state s so_far l.invariant.0 (first_free_of l.self) c.args.count c.in_ok-first.first c.requires.nonempty searched.caches searched.file c.in_ok-first.ensures
    (subst (λ (m : ℕ). Stays state s m c.args.count so_far) (sym l.invariant.1) l.invariant.4) in
    let index : c.rt_index-first_index.result ≡ c.in_ok-first.first / k = c.rt_index-first_index.ensures ∙ ap (λ (m : ℕ). c.in_ok-first.first / m) bits.entries in
    let readies = subst (λ (b : Provision). ReadiesBlocks state at c.rt_index-first_index.result c.in_ok-last_index.last_index (allocator_state l.self searched.caches searched.file l.list) (Ok b) s') c.in_default.is made.readies in (
      readying-made state s (seen l.self searched.caches searched.file l.list) found
          (first_free_of l.self) at c.rt_index-first_index.result c.in_ok-last_index.last_index Extended s' readies
          (covers _ (length (table_of l.self).raw_entries) c.in_ok-last_index.last_index (length (table_of c.args.self.now).raw_entries) c.has_grown_short_of.result c.if-has_grown_short_of.false (λ a b. c.has_grown_short_of.ensures.1 (a, b)) l.invariant.3),
      made.readies.mark ∙ l.invariant.1,
      made.held ∙ l.invariant.2,
      l.invariant.3,
      subst (λ (m : ℕ). Stays state s m c.args.count s'.image) l.invariant.1
          (stays-on state s (seen l.self searched.caches searched.file l.list) found (first_free_of l.self) c.args.count c.in_ok-first.first c.rt_index-first_index.result c.in_ok-last_index.last_index c.requires.nonempty
          (found-run state s so_far l.invariant.0 (first_free_of l.self) c.args.count c.in_ok-first.first c.requires.nonempty searched.caches searched.file c.in_ok-first.ensures)
          index c.in_ok-last_index.ensures.index kept s' readies),
      λ not. absurd (cc not),
    )

pub returns-in-Complete-clause-readies : goal.returns-in-Complete-clause-readies
returns-in-Complete-clause-readies g c =
    let s = seen c.args.self.now c.args.caches.now c.args.file.now c.args.list.now in
    let state = g.S.Storage.state in
    let l = c.loop-first in
    let so_far = seen l.self l.caches l.file l.list in
    let searched = c.find_run.new in
    let new = c.ready_blocks.new in
    let s' = allocator_state new.self new.caches new.file new.list in
    let k = counters_of_block searched.file.header.fields in
    let at = c.in_ok-last_index.last_index + (c.args.count / k + 2) in
    let bits = c.rb_bits.ensures in
    let index : c.rt_index-first_index.result ≡ c.in_ok-first.first / k = c.rt_index-first_index.ensures ∙ ap (λ (m : ℕ). c.in_ok-first.first / m) bits.entries in
    let last = c.in_ok-last_index.ensures in
    let made = c.in_ok-ready_blocks.ensures in
    let found = readying-searched state s so_far l.invariant.0 (first_free_of l.self) c.args.count c.in_ok-first.first searched.caches searched.file
    c.in_ok-first.ensures in
    let done = readying-made state s (seen l.self searched.caches searched.file l.list) found
    (first_free_of l.self) at c.rt_index-first_index.result c.in_ok-last_index.last_index c.in_ok-ready_blocks.field-0 s' made.readies
    (covers _ (length (table_of l.self).raw_entries) c.in_ok-last_index.last_index (length (table_of c.args.self.now).raw_entries) c.has_grown_short_of.result c.if-has_grown_short_of.false (λ a b. c.has_grown_short_of.ensures.1 (a, b)) l.invariant.3) in
    let none : ReadiesBlocks state at (c.in_ok-first.first / k) c.in_ok-last_index.last_index (allocator_state l.self searched.caches searched.file l.list) (Ok Complete) s' =
    subst (λ (m : ℕ). ReadiesBlocks state at m c.in_ok-last_index.last_index (allocator_state l.self searched.caches searched.file l.list) (Ok Complete) s') index
    (subst (λ (b : Provision). ReadiesBlocks state at c.rt_index-first_index.result c.in_ok-last_index.last_index (allocator_state l.self searched.caches searched.file l.list) (Ok b) s') c.in-Complete.is made.readies) in
    subst (λ (m : ℕ). ReadiesRun state c.args.count (with_first_free s m) (Ok c.in_ok-first.first) s') l.invariant.1
    (run-ready state s so_far l.invariant.0 (first_free_of l.self) c.args.count c.in_ok-first.first c.requires.nonempty searched.caches searched.file c.in_ok-first.ensures
    s' k c.in_ok-last_index.last_index refl at none done
    (subst (λ (m : ℕ). Stays state s m c.args.count so_far) (sym l.invariant.1) l.invariant.4)
    (wide c.rb_bits.result k bits.entries) last.start last.reach last.index)
  where
    wide : (bits k : ℕ) → 2 ^ bits ≡ k → 0 < k
    wide bits k size = let some = pow_pos bits in omega (arith, some, size)

pub returns-in_err-ready_blocks-clause-readies : goal.returns-in_err-ready_blocks-clause-readies
returns-in_err-ready_blocks-clause-readies g c = rw (handed-on _ _ c.from_residual-in_err-ready_blocks.ensures.1) (
    let s = seen c.args.self.now c.args.caches.now c.args.file.now c.args.list.now in
    let state = g.S.Storage.state in
    let l = c.loop-first in
    let so_far = seen l.self l.caches l.file l.list in
    let searched = c.find_run.new in
    let new = c.ready_blocks.new in
    let s' = allocator_state new.self new.caches new.file new.list in
    let bits = c.rb_bits.ensures in
    let k = counters_of_block searched.file.header.fields in
    let index : c.rt_index-first_index.result ≡ c.in_ok-first.first / k = c.rt_index-first_index.ensures ∙ ap (λ (m : ℕ). c.in_ok-first.first / m) bits.entries in
    let kept = stays-found state s so_far l.invariant.0 (first_free_of l.self) c.args.count c.in_ok-first.first c.requires.nonempty searched.caches searched.file c.in_ok-first.ensures
    (subst (λ (m : ℕ). Stays state s m c.args.count so_far) (sym l.invariant.1) l.invariant.4) in
    subst (λ (m : ℕ). ReadiesRun state c.args.count (with_first_free s m) (Err c.in_err-ready_blocks.field-0.0) s') l.invariant.1
    (making-refused state s (seen l.self searched.caches searched.file l.list)
    (readying-searched state s so_far l.invariant.0 (first_free_of l.self) c.args.count c.in_ok-first.first searched.caches searched.file c.in_ok-first.ensures)
    (first_free_of l.self) c.args.count c.in_ok-first.first c.rt_index-first_index.result c.in_ok-last_index.last_index c.requires.nonempty
    (found-run state s so_far l.invariant.0 (first_free_of l.self) c.args.count c.in_ok-first.first c.requires.nonempty searched.caches searched.file c.in_ok-first.ensures)
    index c.in_ok-last_index.ensures.index c.in_ok-last_index.ensures.reach kept c.in_err-ready_blocks.field-0.0 s' c.in_err-ready_blocks.ensures.readies
    (covers _ (length (table_of l.self).raw_entries) c.in_ok-last_index.last_index (length (table_of c.args.self.now).raw_entries) c.has_grown_short_of.result c.if-has_grown_short_of.false (λ a b. c.has_grown_short_of.ensures.1 (a, b)) l.invariant.3)))

-- Nothing was done before the first search.
pub returns-in_err-first-clause-untouched_unless_begun : goal.returns-in_err-first-clause-untouched_unless_begun
returns-in_err-first-clause-untouched_unless_begun g c = λ not.
    let state = g.S.Storage.state in
    let l = c.loop-first in
    let new = c.find_run.new in
    let same = l.invariant.5 not in
    let looked = c.in_err-first.ensures.looked in (
      same.0,
      same.1,
      ap (λ (list : FreeList). list.entries) same.4,
      looked.header ∙ ap (λ file. file.header) same.3,
      subst (λ caches. KeepsClean state (cached_file caches c.args.file.now) (cached_file new.caches new.file)) same.2
          (subst (λ file. KeepsClean state (cached_file l.caches file) (cached_file new.caches new.file)) same.3 looked.clean),
    )

pub returns-in_err-first-clause-begins : goal.returns-in_err-first-clause-begins
returns-in_err-first-clause-begins g c = rw (handed-on _ _ c.from_residual.ensures.1) tt

pub returns-in_err-first-clause-held : goal.returns-in_err-first-clause-held
returns-in_err-first-clause-held g c = c.loop-first.invariant.2

pub returns-in_err-last_index-clause-begins : goal.returns-in_err-last_index-clause-begins
returns-in_err-last_index-clause-begins g c = rw (handed-on _ _ c.from_residual-in_err-last_index.ensures.1) tt

pub returns-in_err-last_index-clause-held : goal.returns-in_err-last_index-clause-held
returns-in_err-last_index-clause-held g c = c.loop-first.invariant.2

pub returns-in_err-last_index-clause-untouched_unless_begun : goal.returns-in_err-last_index-clause-untouched_unless_begun
returns-in_err-last_index-clause-untouched_unless_begun g c = λ not. absurd (cc not)

pub returns-in_err-ready_blocks-clause-begins : goal.returns-in_err-ready_blocks-clause-begins
returns-in_err-ready_blocks-clause-begins g c = rw (handed-on _ _ c.from_residual-in_err-ready_blocks.ensures.1) tt

pub returns-in_err-ready_blocks-clause-held : goal.returns-in_err-ready_blocks-clause-held
returns-in_err-ready_blocks-clause-held g c = c.in_err-ready_blocks.ensures.held ∙ c.loop-first.invariant.2

pub returns-in_err-ready_blocks-clause-untouched_unless_begun : goal.returns-in_err-ready_blocks-clause-untouched_unless_begun
returns-in_err-ready_blocks-clause-untouched_unless_begun g c = λ not. absurd (cc not)

pub returns-then-has_grown_short_of-clause-begins : goal.returns-then-has_grown_short_of-clause-begins
returns-then-has_grown_short_of-clause-begins g c = tt

pub returns-then-has_grown_short_of-clause-untouched_unless_begun : goal.returns-then-has_grown_short_of-clause-untouched_unless_begun
returns-then-has_grown_short_of-clause-untouched_unless_begun g c = λ not. absurd (cc not)

pub returns-then-has_grown_short_of-clause-held : goal.returns-then-has_grown_short_of-clause-held
returns-then-has_grown_short_of-clause-held g c = c.loop-first.invariant.2

pub returns-in-Complete-clause-begins : goal.returns-in-Complete-clause-begins
returns-in-Complete-clause-begins g c = refl

pub returns-in-Complete-clause-untouched_unless_begun : goal.returns-in-Complete-clause-untouched_unless_begun
returns-in-Complete-clause-untouched_unless_begun g c = λ not. absurd (cc not)

pub returns-in-Complete-clause-held : goal.returns-in-Complete-clause-held
returns-in-Complete-clause-held g c = c.in_ok-ready_blocks.ensures.held ∙ c.loop-first.invariant.2

pub last_index-requires : goal.last_index-requires
last_index-requires g c = record { nonempty = c.requires.nonempty }

pub rt_index-first_index-requires : goal.rt_index-first_index-requires
rt_index-first_index-requires g c = record { bits = c.rb_bits.ensures.bounds.1 }

pub ready_blocks-requires-clause-index_bounded : goal.ready_blocks-requires-clause-index_bounded
ready_blocks-requires-clause-index_bounded g c = c.in_ok-last_index.ensures.index_bounded

pub ready_blocks-requires-clause-order : goal.ready_blocks-requires-clause-order
ready_blocks-requires-clause-order g c =
    let first = c.in_ok-first.first in
    let bits = c.rb_bits.ensures in
    let k = counters_of_block c.find_run.new.file.header.fields in
    let positive = pow_pos c.rb_bits.result in
    let size = bits.entries in
    let some : 0 < k = omega (arith, positive, size) in
    let index : c.rt_index-first_index.result ≡ first / k = c.rt_index-first_index.ensures ∙ ap (λ (m : ℕ). first / m) size in
    let last : c.in_ok-last_index.last_index ≡ (first + (c.args.count - 1)) / k = c.in_ok-last_index.ensures.index in
    let under = div-mul-le_self first k in
    let le : first / k ≤ (first + (c.args.count - 1)) / k = le-div (first / k) (first + (c.args.count - 1)) k some (omega (arith, under)) in
    omega (arith, index, last, le)

-- The causes of failed flushes.
use Rattle.std.proofs.Common.{◌≡◌, ℕ, ◌*◌, ◌^◌, ◌≤◌, arith, ap, sym, subst, ◌∙◌, List, [], ◌∷◌, inl, inr, Bool, true, false, Option, Some, None, Result, Ok, Err}
use Rattle.std.specs.Prelude.{IfSome, not, cond, ◌&&◌}
use Rattle.std.specs.List.{AllByRecursion}
use Rattle.std.proofs.lemmas.Bool.{cases_Bool, cases_lt}
use Rattle.imago_storage.specs.State.{StorageState}
use Rattle.imago_storage.specs.Calls.{IsFaultless}
use Rattle.imago_storage.specs.Through.{AtomicWriteOutcome}
use Rattle.imago_storage.specs.declared.fault.Fault.{Fault}
use Rattle.imago_storage.specs.declared.fault.Fault.TheVariants.{DamagedTable, Memory, Storage}
use Rattle.qcow2_types.specs.Words.{max_offset}
use Rattle.qcow2_types.specs.TableBytes.{table_bytes}
use Rattle.qcow2_metadata.specs.Places.{IsAddressable}
use Rattle.qcow2_metadata.specs.Tables.{TableValue}
use Rattle.qcow2_metadata.specs.Blocks.{Block}
use Rattle.qcow2_alloc.specs.declared.async_lru_cache.Slot.{Slot}
use Rattle.qcow2_alloc.specs.Cache.{FlushedEach, is_not_resource_error, latest, fault_of}
use Rattle.qcow2_alloc.specs.Backends.{Flushed, WrittenKind, TableFlushed, BlockFlushed, written_tables, written_blocks}
use Rattle.qcow2_alloc.specs.Causes.{HasCause, FailsFor, Causes}
use Rattle.qcow2_alloc.specs.Going.{IsNotResourceError, HadNoResourceError, writing_causes}
use Rattle.qcow2_alloc.proofs.Causes.{Implies, cause-weaker, storage-cause}
use Rattle.qcow2_alloc.proofs.Flushing.FaultlessCalls.{faultless-same, faultless-then, mild-later, put-faultless}

-- A cause of a write is a cause of each call that made the write.
pub writing-implies : {reach : Type 0} {b c : ℕ} → (new : Causes) → new.before ≤ b → c ≤ new.after → ((reach → ⊥) → new.damaged) → Implies (writing_causes reach b c) new
writing-implies new le le' far = record { before = le; after = le'; damaged = far; counter = absurd; full = absurd; limit = λ number. absurd }

-- If all dirty entries are addressable, a write only fails with a resource error.
pub never-refused : (reach : Type 0) (a b : ℕ) (fault : Fault) → reach → IsNotResourceError fault → HasCause (writing_causes reach a b) fault → ⊥
never-refused reach a b Memory near not_resource_error why = not_resource_error
never-refused reach a b Storage near not_resource_error why = not_resource_error
never-refused reach a b DamagedTable near not_resource_error why = why near
never-refused reach a b fault near not_resource_error why = why

put-counted : (reach : Type 0) (old new : StorageState) (at : ℕ) (bytes : List ℕ) (result : Result Unit Fault) → AtomicWriteOutcome old new at bytes result → FailsFor (writing_causes reach old.faults new.faults) result
put-counted reach old new at bytes (Ok done) put = put.put.answer.faults
put-counted reach old new at bytes (Err fault) put = storage-cause _ _ _ (omega arith) (omega arith) fault put.put.answer.cause

-- The causes of the result. The fault count doesn't fall, and rises only with a resource error.
pub record Counted (reach : Type 0) (old new : StorageState) (result : Result Unit Fault) : Type 0 where
  pub counts : FailsFor (writing_causes reach old.faults new.faults) result
  pub rising : old.faults ≤ new.faults
  pub faults : HadNoResourceError result → IsFaultless old new

none-counted : (reach : Type 0) (old new : StorageState) (result : Result Unit Fault) → new ≡ old → result ≡ Ok tt → Counted reach old new result
none-counted reach old new result same done = record {
  counts = subst (λ (r : Result Unit Fault). FailsFor (writing_causes reach old.faults new.faults) r) (sym done) (ap (λ (s : StorageState). s.faults) same);
  rising = let n = ap (λ (s : StorageState). s.faults) same in omega (arith, n);
  faults = λ whole. faultless-same old new same;
}

far-counted : (reach : Type 0) (old new : StorageState) (result : Result Unit Fault) → (reach → ⊥) → new ≡ old → result ≡ Err DamagedTable → Counted reach old new result
far-counted reach old new result far same refused = record {
  counts = subst (λ (r : Result Unit Fault). FailsFor (writing_causes reach old.faults new.faults) r) (sym refused) far;
  rising = let n = ap (λ (s : StorageState). s.faults) same in omega (arith, n);
  faults = λ whole. faultless-same old new same;
}

-- An entry is flushed, of a kind that is written by one request.
entry-counted : {V : Type 0} (kind : WrittenKind V) → ((v : V) (place : ℕ) (old new : StorageState) (result : Result Unit Fault) → kind.Puts v place old new result → (bytes : List ℕ) × AtomicWriteOutcome old new place bytes result)
    → (key : ℕ) (v : V) (old new : StorageState) (result : Result Unit Fault) (v' : V) → Flushed kind old key v result new v' → Counted (kind.modified v ≡ true → IsAddressable (kind.cluster_bits v) key) old new result
entry-counted kind puts key v old new result v' flushed = elim (cases_Bool (kind.modified v)) [
  | inr clean ↦ let none = flushed.clean clean in none-counted _ old new result none.1 none.0
  | inl modified ↦ elim (cases_lt max_offset (key * 2 ^ kind.cluster_bits v)) [
    | inl far ↦ let none = flushed.out modified (λ reach. omega (arith, far, reach)) in far-counted _ old new result (λ reach. let r = reach modified in omega (arith, far, r)) none.1 none.0
    | inr reach ↦ let put = (puts v _ old new result (flushed.written modified reach)).1 in record { counts = put-counted _ old new _ _ result put; rising = put.put.counts_not_fallen.faults; faults = put-faultless old new _ _ result put.put }
  ]
]

pub table-counted : (key : ℕ) (t : TableValue) (old new : StorageState) (result : Result Unit Fault) (t' : TableValue) → TableFlushed old key t result new t'
    → Counted (t.modified ≡ true → IsAddressable t.layout.cluster_bits key) old new result
table-counted = entry-counted written_tables (λ t place old new result put. (table_bytes t.raw_entries, put))

pub block-counted : (key : ℕ) (b : Block) (old new : StorageState) (result : Result Unit Fault) (b' : Block) → BlockFlushed old key b result new b'
    → Counted (b.modified ≡ true → IsAddressable b.cluster_bits key) old new result
block-counted = entry-counted written_blocks (λ b place old new result put. (put.bytes, put.put))

-- All entries of a cache are flushed.
module _ {V D : Type 0} (state : D → StorageState) (flushes : D → ℕ → V → Result Unit Fault → D → V → Type 0) (Reach : ℕ → V → Type 0)
    (step : (old : D) (key : ℕ) (value : V) (result : Result Unit Fault) (new : D) (value' : V) → flushes old key value result new value' → Counted (Reach key value) (state old) (state new) result) where
  -- The causes of the reported fault.
  abbrev Outcome : Type 0 → ℕ → ℕ → Option Fault → Type 0
  Outcome reach before after None = after ≡ before
  Outcome reach before after (Some fault) = HasCause (writing_causes reach before after) fault

  behind : (here rest : Type 0) (a b c : ℕ) → a ≤ b → b ≤ c → (first : Option Fault) (result : Result Unit Fault) → Outcome rest a b first → FailsFor (writing_causes here b c) result → Outcome (here × rest) a c (latest first result)
  behind here rest a b c le le' None (Err fault) earlier why = cause-weaker (writing-implies _ le (omega arith) (λ far r. far r.0)) fault why
  behind here rest a b c le le' (Some first) (Err fault) earlier why =
      by-choice (not (is_not_resource_error first) && is_not_resource_error fault) (cause-weaker (writing-implies _ (omega arith) le' (λ far r. far r.1)) first earlier) (cause-weaker (writing-implies _ le (omega arith) (λ far r. far r.0)) fault why)
    where
      by-choice : (choice : Bool) → HasCause (writing_causes (here × rest) a c) first → HasCause (writing_causes (here × rest) a c) fault → HasCause (writing_causes (here × rest) a c) (cond choice first fault)
      by-choice true one two = one
      by-choice false one two = two
  behind here rest a b c le le' (Some fault) (Ok done) earlier same = cause-weaker (writing-implies _ (omega arith) le' (λ far r. far r.1)) fault earlier
  behind here rest a b c le le' None (Ok done) earlier same = same ∙ earlier

  each : (before : D) (es : List (ℕ × Slot V)) (outcome : Option Fault) (after : D) (es' : List (ℕ × Slot V)) → FlushedEach flushes before es outcome after es'
      → ((state before).faults ≤ (state after).faults) × Outcome (AllByRecursion (λ (e : ℕ × Slot V). Reach e.0 e.1.value) es) (state before).faults (state after).faults outcome
  each before [] outcome after es' flushed =
      let same : (state after).faults ≡ (state before).faults = ap (λ (d : D). (state d).faults) flushed.1 in (
        omega (arith, same),
        subst (λ (o : Option Fault). Outcome (AllByRecursion (λ (e : ℕ × Slot V). Reach e.0 e.1.value) []) (state before).faults (state after).faults o) (sym flushed.0) same,
      )
  each before (e ∷ es) outcome after es' (mid, first, rest, earlier, result, value, flush, worst, is) =
      let one = each before es first mid rest earlier in
      let two = step mid e.0 e.1.value result after value flush in
      let le = one.0 in
      let le' = two.rising in (
        omega (arith, le, le'),
        subst (λ (o : Option Fault). Outcome (AllByRecursion (λ (x : ℕ × Slot V). Reach x.0 x.1.value) (e ∷ es)) (state before).faults (state after).faults o) (sym worst)
            (behind _ _ _ _ _ le le' first result one.1 two.counts),
      )

  pub each-counted : (before : D) (es : List (ℕ × Slot V)) (result : Result Unit Fault) (after : D) (es' : List (ℕ × Slot V)) → FlushedEach flushes before es (fault_of result) after es'
      → FailsFor (writing_causes (AllByRecursion (λ (e : ℕ × Slot V). Reach e.0 e.1.value) es) (state before).faults (state after).faults) result
  each-counted before es (Ok done) after es' flushed = (each before es None after es' flushed).1
  each-counted before es (Err fault) after es' flushed = (each before es (Some fault) after es' flushed).1

  faultless : (before : D) (es : List (ℕ × Slot V)) (outcome : Option Fault) (after : D) (es' : List (ℕ × Slot V)) → FlushedEach flushes before es outcome after es' → IfSome outcome IsNotResourceError → IsFaultless (state before) (state after)
  faultless before [] outcome after es' flushed not_resource_error = faultless-same (state before) (state after) (ap state flushed.1)
  faultless before (e ∷ es) outcome after es' (mid, first, rest, earlier, result, value, flush, worst, is) not_resource_error =
      let each-mild = mild-later first result (subst (λ (o : Option Fault). IfSome o IsNotResourceError) worst not_resource_error) in
      faultless-then (faultless before es first mid rest earlier each-mild.0) ((step mid e.0 e.1.value result after value flush).faults each-mild.1)

  pub each-faultless : (before : D) (es : List (ℕ × Slot V)) (result : Result Unit Fault) (after : D) (es' : List (ℕ × Slot V)) → FlushedEach flushes before es (fault_of result) after es' → HadNoResourceError result → IsFaultless (state before) (state after)
  each-faultless before es (Ok done) after es' flushed whole = faultless before es None after es' flushed tt
  each-faultless before es (Err fault) after es' flushed whole = faultless before es (Some fault) after es' flushed whole

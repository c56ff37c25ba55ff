-- A single request that leaves the guest unchanged.
use Rattle.std.proofs.Common.{◌≡◌, ℕ, ◌<◌, ap, sym, subst, ◌∙◌, List, inl, inr, length, Result, Ok, Err, refl}
use Rattle.std.specs.Prelude.{IsTrue}
use Rattle.imago_storage.specs.State.{StorageState}
use Rattle.imago_storage.specs.Through.{WriteOutcome, AtomicWriteOutcome}
use Rattle.imago_storage.specs.declared.fault.Fault.{Fault}
use Rattle.imago_storage.proofs.Composing.{no_stops, one_stop, tells_on, keeps_on}
use Rattle.qcow2_types.specs.Bytes.{Bytes, bytes_of, splice}
use Rattle.qcow2_types.specs.Header.{Header}
use Rattle.qcow2_alloc.specs.GuestView.{Metadata, IsSound, GuestUnchanged, ShowsEither, IsIn, PreservesGuest}
use Rattle.qcow2_alloc.proofs.Flushing.FaultlessCalls.{never-mild}
use Rattle.qcow2_alloc.proofs.Flushing.EntryFlushes.{spliced-bytes}
use Rattle.qcow2_alloc.specs.Going.{HadNoResourceError}
use Rattle.qcow2_alloc.proofs.GuestView.QuietFlushes.{quietly-weaker}

-- The metadata depends only on the new file.
module _ (m : Metadata) (after : Bytes → Metadata) (is_file : (x : Bytes) → (after x).file ≡ x) (handed taken : ℕ → ℕ) (at : ℕ) (bytes : List ℕ) (some : 0 < length bytes) (old new : StorageState) (is_in : IsIn old m)
    (guest_unchanged : IsSound m → IsSound (after (splice m.file at bytes)) × GuestUnchanged handed taken m (after (splice m.file at bytes))) where
  abbrev Shown : List ℕ → Type 0
  Shown x = (H : Header) × ShowsEither m (bytes_of x) H

  at-once-answer : (result : Result Unit Fault) → AtomicWriteOutcome old new at bytes result → PreservesGuest (result ≡ Ok tt) handed taken old m new (after (bytes_of new.bytes))
  at-once-answer (Ok done) put = record {
    shape = put.put.shape;
    counts_not_fallen = put.put.counts_not_fallen;
    passes = λ keeps sound no_change_refused. (
      put.put.answer.crash_image_is_bytes,
      one_stop Shown old new (put.single_request some)
          (λ same tells keeps'. subst Shown (sym (put.put.answer.crash_image_is_bytes same (tells_on old new put.put.shape tells) (keeps_on old new put.put.shape keeps'))) (there keeps' sound)),
    );
    holds = λ keeps sound done. subst (λ (x : Bytes). IsSound (after x) × GuestUnchanged handed taken m (after x)) (sym (is keeps)) (guest_unchanged sound);
  }
    where
      is : IsTrue old.shape.keeps → bytes_of new.bytes ≡ splice m.file at bytes
      is keeps = spliced-bytes old.bytes at bytes new.bytes (put.put.answer.content keeps) ∙ ap (λ (f : Bytes). splice f at bytes) (sym is_in)

      there : IsTrue old.shape.keeps → IsSound m → Shown new.bytes
      there keeps sound =
          let shows = (guest_unchanged sound).1.shows in
          ((after (splice m.file at bytes)).header, subst (λ (x : Bytes). ShowsEither m x (after (splice m.file at bytes)).header) (is_file (splice m.file at bytes) ∙ sym (is keeps)) shows)
  at-once-answer (Err fault) put = record {
    shape = put.put.shape;
    counts_not_fallen = put.put.counts_not_fallen;
    passes = λ keeps sound no_change_refused. (elim put.put.answer.crash_image_is_bytes [ inl rose ↦ absurd (no_change_refused rose) | inr stays ↦ stays ], no_stops Shown old new put.single_request.0 put.single_request.1);
    holds = λ keeps sound done. absurd (cc done);
  }

  pub at-once-quietly : (result : Result Unit Fault) → AtomicWriteOutcome old new at bytes result → PreservesGuest (result ≡ Ok tt) handed taken old m new (after (bytes_of new.bytes))
  at-once-quietly = at-once-answer

pub at-once-file : (m : Metadata) (at : ℕ) (bytes : List ℕ) (old new : StorageState) → IsIn old m → (result : Result Unit Fault) → AtomicWriteOutcome old new at bytes result → IsTrue old.shape.keeps → result ≡ Ok tt → bytes_of new.bytes ≡ splice m.file at bytes
at-once-file m at bytes old new is_in (Ok done) put keeps is = spliced-bytes old.bytes at bytes new.bytes (put.put.answer.content keeps) ∙ ap (λ (f : Bytes). splice f at bytes) (sym is_in)
at-once-file m at bytes old new is_in (Err fault) put keeps is = absurd (cc is)

pub put-done : (old new : StorageState) (at : ℕ) (bytes : List ℕ) (result : Result Unit Fault) → WriteOutcome old new at bytes result → HadNoResourceError result → result ≡ Ok tt
put-done old new at bytes (Ok done) put whole = refl
put-done old new at bytes (Err fault) put not_resource_error = absurd (never-mild old.faults new.faults fault put.answer.cause not_resource_error)

pub put-whole : (m m' : Metadata) (handed taken : ℕ → ℕ) (old new : StorageState) (at : ℕ) (bytes : List ℕ) (result : Result Unit Fault) → WriteOutcome old new at bytes result
    → PreservesGuest (result ≡ Ok tt) handed taken old m new m' → PreservesGuest (HadNoResourceError result) handed taken old m new m'
put-whole m m' handed taken old new at bytes result put quietly = quietly-weaker (result ≡ Ok tt) (HadNoResourceError result) handed taken old m new m' (λ sound whole. put-done old new at bytes result put whole) quietly

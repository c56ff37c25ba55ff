-- Setting the write order leaves the guest unchanged, as do flushes without a resource error.
use Rattle.std.proofs.Common.{◌≡◌, ℕ, refl, subst}
use Rattle.std.specs.Prelude.{Result, Ok, Err, OnOk}
use Rattle.imago_storage.specs.State.{StorageState}
use Rattle.imago_storage.specs.declared.fault.Fault.{Fault}
use Rattle.qcow2_types.specs.Bytes.{Bytes, bytes_of}
use Rattle.qcow2_types.specs.Header.{Header}
use Rattle.qcow2_alloc.specs.declared.cache.CacheDependency.{CacheDependency}
use Rattle.qcow2_alloc.specs.Causes.{FailsFor}
use Rattle.qcow2_alloc.specs.Memory.{Cached}
use Rattle.qcow2_alloc.specs.WellFormedness.{WellFormed}
use Rattle.qcow2_alloc.specs.Going.{WritesBackCached, Always, AreTablesAddressable, AreBlocksAddressable, HadNoResourceError, writing_causes}
use Rattle.qcow2_alloc.specs.GuestView.{Metadata, IsIn, PreservesGuest}
use Rattle.qcow2_alloc.proofs.Flushing.FlushRefusals.{never-refused}
use Rattle.qcow2_alloc.proofs.GuestView.QuietFlushes.{going-quietly, order-quiet, quietly-weaker}
use Rattle.qcow2_alloc.proofs.Memory.SafeLaws.{safe-reach}

-- The order changes after a flush.
pub announced-quietly : (m : Metadata) (order' : CacheDependency) (result : Result Unit Fault) (old new : StorageState) (cached' : Cached) → IsIn old m → WritesBackCached m.header m.order Always (result ≡ Ok tt) old m.cached new cached'
    → OnOk result ((f : Bytes) (H : Header) → WellFormed f H cached' m.order → WellFormed f H cached' order')
    → PreservesGuest (result ≡ Ok tt) (λ _. 0) (λ _. 0) old m new (record m { file = bytes_of new.bytes; cached = cached'; order = order' })
announced-quietly m order' result old new cached' at going well_formed =
    let flushed = going-quietly m (result ≡ Ok tt) old new cached' at going in
    record {
      shape = flushed.shape;
      counts_not_fallen = flushed.counts_not_fallen;
      passes = flushed.passes;
      holds = λ keeps sound done.
          let both = flushed.holds keeps sound done in
          let guest_unchanged = both.1 in
          let safe' : (f : Bytes) (H : Header) → WellFormed f H cached' m.order → WellFormed f H cached' order' =
          subst (λ (r : Result Unit Fault). OnOk r ((f : Bytes) (H : Header) → WellFormed f H cached' m.order → WellFormed f H cached' order')) done well_formed in
          let turned = order-quiet (record m { file = bytes_of new.bytes; cached = cached' }) order' both.0 (safe' (bytes_of new.bytes) m.header both.0.well_formed) in
          (turned.0, record { shows = guest_unchanged.shows; raw_entries = guest_unchanged.raw_entries; used_bytes_unchanged = guest_unchanged.used_bytes_unchanged; apart = guest_unchanged.apart; waits = guest_unchanged.waits; law = guest_unchanged.law });
    }

-- If all dirty entries are addressable, a flush without a resource error succeeds.
pub written-whole : (reach : Type 0) (before after : ℕ) (result : Result Unit Fault) → FailsFor (writing_causes reach before after) result → reach → HadNoResourceError result → result ≡ Ok tt
written-whole reach before after (Ok done) counts near whole = refl
written-whole reach before after (Err fault) counts near whole = absurd (never-refused reach before after fault near whole counts)

-- With `IsSound`, all dirty entries are addressable.
pub whole-quietly : (m : Metadata) (reach : Type 0) (before after : ℕ) (result : Result Unit Fault) (handed taken : ℕ → ℕ) (old new : StorageState) (m' : Metadata) → (AreTablesAddressable m.cached × AreBlocksAddressable m.cached → reach)
    → FailsFor (writing_causes reach before after) result → PreservesGuest (result ≡ Ok tt) handed taken old m new m' → PreservesGuest (HadNoResourceError result) handed taken old m new m'
whole-quietly m reach before after result handed taken old new m' near counts quietly =
    quietly-weaker (result ≡ Ok tt) (HadNoResourceError result) handed taken old m new m' (λ sound whole. written-whole reach before after result counts (near (safe-reach m.file m.header m.cached m.order sound.well_formed)) whole) quietly

-- Defines when an image has failed after a call, and what a reload of its tables does.
use Rattle.std.specs.Prelude.{◌≡◌, ◌≢◌, ◌⊎◌, ⊤, [], ◌∷◌, ℕ, Bool, true, false, not, ◌&&◌, Result, Ok, Err, OnOk, OnErr, IfErr}
use Rattle.imago_storage.specs.State.{HasRisen}
use Rattle.imago_storage.specs.Calls.{UnchangedButFaults, CountsNotFallen, IsFaultless, Cause}
use Rattle.imago_storage.specs.declared.fault.Fault.{Fault}
use Rattle.imago_storage.specs.declared.fault.Fault.TheVariants.{DamagedHeader, DamagedTable, Unsupported, Limit, Memory, Storage}
use Rattle.imago_storage.specs.declared.storage.Storage.{Ghosts}
use Rattle.imago_access.specs.Files.{HadNoResourceError}
use Rattle.qcow2_types.specs.Bytes.{Bytes}
use Rattle.qcow2_types.specs.Counts.{refcount_table_sound}
use Rattle.qcow2_types.specs.Header.{Header, first_fault, header_of, ◌and-then◌, ◌>>=◌}
use Rattle.qcow2_metadata.specs.Updates.{with_places_of}
use Rattle.qcow2_alloc.specs.Caches.{HasRoomOf, cached_in}
use Rattle.qcow2_image.specs.declared.qcow2.Qcow2.{Qcow2}
use Rattle.qcow2_image.specs.declared.tables.Tables.{Tables}
use Rattle.qcow2_image.specs.Opening.{IsSpaceOpened, header_for}
use Rattle.qcow2_image.specs.Seen.{IsCacheCoherent, file_of}

-- True if an image has failed after an error: a storage fault sets it to failed.
abbrev pub failed_by : Fault → Bool → Bool
failed_by Storage failed = true
failed_by fault failed = failed

-- True if an image has failed after an error of a reload: any cause but `Fault::Memory` sets it to failed.
abbrev pub failed_on_reload : Fault → Bool → Bool
failed_on_reload Memory failed = failed
failed_on_reload fault failed = true

-- True if an image has failed after a call.
abbrev pub failed_after : {T : Type 0} → (Fault → Bool → Bool) → Result T Fault → Bool → Bool
failed_after marked (Ok answer) failed = failed
failed_after marked (Err fault) failed = marked fault failed

-- The header of the file differs from `H` in more than the size and the offsets of tables.
abbrev pub DiffersElsewhere : Result Header Fault → Header → Type 0
DiffersElsewhere (Ok H') H = with_places_of H' H ≢ H'
DiffersElsewhere (Err fault) H = ⊥

-- The first error of a reload that has loaded another header and then failed with `fault`. It is `Fault::Unsupported` if that header can't
-- replace `H`, otherwise `fault`.
abbrev pub IsFirstFault : Header → Header → Fault → Fault → Type 0
IsFirstFault loaded H fault first =
    ((with_places_of loaded H ≡ loaded) × (first ≡ fault)) ⊎ ((with_places_of loaded H ≢ loaded) × (first ≡ Unsupported))

-- The header of a reload, or the first rule that the file breaks. The rules are those of opening the image read-only. If it is writable,
-- each refcount table entry must also be valid.
unfoldable pub reloaded_header : Bool → Bytes → Result Header Fault
reloaded_header writable f =
    header_for false f >>= λ H. first_fault ((writable && not (refcount_table_sound f H.fields), DamagedTable) ∷ []) and-then Ok H

-- The reasons why a reload fails: a broken rule of `reloaded_header`, a header that can't replace the open one, or a resource error. The
-- header is compared before the tables are checked.
abbrev pub WhyNotReloaded : (writable : Bool) → Bytes → Header → ℕ → ℕ → Fault → Type 0
WhyNotReloaded writable f H before after DamagedHeader = reloaded_header writable f ≡ Err DamagedHeader
WhyNotReloaded writable f H before after DamagedTable =
    (reloaded_header writable f ≡ Err DamagedTable) × (DiffersElsewhere (header_of false f) H → ⊥)
WhyNotReloaded writable f H before after Unsupported = (reloaded_header writable f ≡ Err Unsupported) ⊎ DiffersElsewhere (header_of false f) H
WhyNotReloaded writable f H before after (Limit bound) = reloaded_header writable f ≡ Err (Limit bound)
WhyNotReloaded writable f H before after Memory = ⊤
WhyNotReloaded writable f H before after Storage = HasRisen before after
WhyNotReloaded writable f H before after fault = ⊥

-- Memory is what the file says afterwards, in every case. Nothing else is cached, and the free space is as after opening. Only the size and
-- the offsets of tables may change in the header. On error memory is unchanged. If memory was coherent before, the header stays the same.
-- Then only resource errors and a damaged refcount table make the reload fail.
pub record Reloads {S : Type 0} (g : Ghosts S) (writable : Bool) (old : Tables S g) (result : Result Unit Fault) (new : Tables S g)
    : Type 0 where
  pub unchanged_but_faults : UnchangedButFaults (g.state old.file.image) (g.state new.file.image)
  pub counts_not_fallen : CountsNotFallen (g.state old.file.image) (g.state new.file.image)
  pub faults : OnOk result (IsFaultless (g.state old.file.image) (g.state new.file.image))
  pub places : with_places_of new.file.header old.file.header ≡ new.file.header
  pub anew : OnOk result (IsCacheCoherent g new)
  pub empty : OnOk result (cached_in new.caches ≡ record { tables = []; blocks = [] })
  pub room : HasRoomOf old.caches new.caches
  pub space : OnOk result (IsSpaceOpened (g.state new.file.image) new.file.header.fields writable new.space)
  pub same : IsCacheCoherent g old → OnOk result (new.file.header ≡ old.file.header)
  pub left : OnErr result ((new.file.header ≡ old.file.header) × (new.l1 ≡ old.l1) × (new.caches ≡ old.caches) × (new.space ≡ old.space))
  pub cause : IfErr result (WhyNotReloaded writable (file_of g old) old.file.header (g.state old.file.image).faults
      (g.state new.file.image).faults)
  pub known : IsCacheCoherent g old → (writable ≡ true → refcount_table_sound (file_of g old) old.file.header.fields ≡ true)
      → IfErr result (Cause (g.state old.file.image).faults (g.state new.file.image).faults)

-- The call writes nothing, and drops nothing that was read.
pub record KeepsTables {S T : Type 0} (g : Ghosts S) (old : Tables S g) (result : Result T Fault) (new : Tables S g) : Type 0 where
  pub unchanged_but_faults : UnchangedButFaults (g.state old.file.image) (g.state new.file.image)
  pub counts_not_fallen : CountsNotFallen (g.state old.file.image) (g.state new.file.image)
  pub faults : HadNoResourceError result → IsFaultless (g.state old.file.image) (g.state new.file.image)
  pub header : new.file.header ≡ old.file.header
  pub space : new.space ≡ old.space
  pub seen : IsCacheCoherent g old → IsCacheCoherent g new

-- The driver's call writes nothing, drops nothing that was read, and only a storage fault sets the image to failed.
pub record KeepsImage {S T : Type 0} (g : Ghosts S) (old : Qcow2 S g) (result : Result T Fault) (new : Qcow2 S g) : Type 0 where
  pub tables : KeepsTables g old.tables result new.tables
  pub mode : new.mode ≡ old.mode
  pub number : new.number ≡ old.number
  pub unspent : new.unspent ≡ old.unspent
  pub failed : new.failed ≡ failed_after failed_by result old.failed

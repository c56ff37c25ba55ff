-- Specifies builders that open and create images: the options of referenced files, and what a builder may return.
use Rattle.std.specs.Prelude.{◌≡◌, ◌⊎◌, ℕ, Bool, Option, Some, None, Result, Ok, Err, IfErr, false, IsTrue}
use Rattle.imago_storage.specs.Options.{OpenOptions}
use Rattle.imago_storage.specs.State.{StorageState}
use Rattle.imago_storage.specs.declared.fault.Fault.{Fault}
use Rattle.imago_access.specs.declared.format.Format.{Format}
use Rattle.imago_access.specs.declared.driver_model.DriverModel.{Ghosts}
use Rattle.imago_access.specs.Layer.{IsFree}
use Rattle.imago_access.specs.Files.{UnchangedButMoreFaults}
use Rattle.imago_access.specs.Refusals.{unusable_fault}
use Rattle.imago_access.specs.Stops.{IsCounted, IsWritten}

-- These options, or default ones, with this setting for writing.
abbrev pub options_with : Option OpenOptions → Bool → OpenOptions
options_with None writable = record { filename = None; writable = writable; direct = false }
options_with (Some options) writable = record options { writable = writable }

-- `d` is a driver that was just opened over an image file in state `before`. The driver has this format, this number and this setting for
-- writing. It reads what the file says, and the file is unchanged except for fault counts. No mapping is prepared, nothing is dirty or
-- pending (allocated and not yet linked, or on the free list), and the image can be used. If the file is consistent and its storage keeps
-- what is written, the driver is well-formed.
pub record IsOpened {D St : Type 0} (g : Ghosts D St) (format : Format) (writable : Bool)
    (number : ℕ) (before : StorageState) (d : D) : Type 0 where
  pub format_is : (g.layer d).fixed.format ≡ format
  pub writable_is : (g.layer d).fixed.writable ≡ writable
  pub number_is : (g.layer d).fixed.number ≡ number
  pub size_is : (g.layer d).size ≡ ((g.layer d).fixed.means (g.image d).bytes).size
  pub meant : IsWritten g d
  pub counted : IsCounted g d
  pub unchanged_but_faults : UnchangedButMoreFaults before (g.image d)
  pub free : IsFree (g.layer d)
  pub usable : unusable_fault (g.layer d) ≡ None
  pub coherent : g.coherent d
  pub has_no_dirty_data : g.has_no_dirty_data d
  pub stays_stable : g.stable d
  pub well_formed : IsTrue (g.layer d).fixed.keeps → g.sound (g.layer d).fixed.kind (g.image d).bytes → g.well_formed d

-- Each driver in `opens` was just opened.
abbrev pub OpensOnly : {D St : Type 0} → Ghosts D St → (D → Type 0) → Format → Bool → ℕ → StorageState → Type 0
OpensOnly {D} g opens format writable number before = (d : D) → opens d → IsOpened g format writable number before d

-- The closure makes a builder for a created storage. That builder, or another one derived from it, satisfies `Opens`.
abbrev pub OpensCreated : {S B : Type 0} → (S → Type 0) → (S → Result B Fault → Type 0) → (B → B → Type 0) → (B → Type 0) → Type 0
OpensCreated {S} {B} hands makes opens_with Opens = (s : S) × (b b' : B) × hands s × makes s (Ok b) × opens_with b b' × Opens b'

-- The closure makes a builder for a created storage, and that builder, or another one derived from it, may open the driver.
abbrev pub IsOpenedThen : {S B D : Type 0} → (S → Type 0) → (S → Result B Fault → Type 0) → (B → B → Type 0) → (B → D → Type 0) → D → Type 0
IsOpenedThen hands makes opens_with opens d = OpensCreated hands makes opens_with (λ b. opens b d)

-- `e` is an error of creation, of the closure, or of the builder.
abbrev pub NotOpened : {S B : Type 0} → (Fault → Type 0) → (S → Type 0) → (S → Result B Fault → Type 0)
    → (B → B → Type 0) → (B → Fault → Type 0) → Fault → Type 0
NotOpened {S} {B} refuses hands makes opens_with refused e =
    refuses e ⊎ (((s : S) × hands s × makes s (Err e)) ⊎ OpensCreated hands makes opens_with (λ b. refused b e))

abbrev pub IsUnopened : {T S B : Type 0} → Result T Fault → (Fault → Type 0) → (S → Type 0)
    → (S → Result B Fault → Type 0) → (B → B → Type 0) → (B → Fault → Type 0) → Type 0
IsUnopened result refuses hands makes opens_with refused = IfErr result (NotOpened refuses hands makes opens_with refused)

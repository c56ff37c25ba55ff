-- The formats of layers in a chain of image files. Also commits of mappings by drivers of raw and VMDK images, which prepare none with
-- state.
use Rattle.std.specs.Prelude.{◌≡◌, ◌≢◌, ⊤, Bool, Option, Some, None, IsTrue, IsOk, Result, Err}
use Rattle.imago_storage.specs.Steps.{Call}
use Rattle.imago_storage.specs.declared.storage.Storage.{Ghosts}
use Rattle.imago_formats.specs.declared.raw.Raw.{Raw}
use Rattle.imago_formats.specs.declared.vmdk.driver.Vmdk.{Vmdk}
use Rattle.qcow2_image.specs.declared.qcow2.Qcow2.{Qcow2}
use Rattle.qimg_chain.specs.declared.chain.image_driver.ImageDriver.{ImageDriver}
use Rattle.qimg_chain.specs.declared.chain.image_driver.ImageDriver.TheVariants as variant
use Rattle.imago_storage.specs.declared.fault.Fault.{Fault}
use Rattle.imago_access.specs.Spending.{CommitCheck}
use Rattle.qcow2_image.specs.declared.qcow2.PreparedMappingState.{PreparedMappingState}

-- A call began at one state of a layer and continues at another. Both have the same format, and the driver of that format agrees.
abbrev pub began_as : {S : Type 0} {g : Ghosts S} → (Raw S → Call → Raw S → Type 0) → (Vmdk S → Call → Vmdk S → Type 0)
    → (Qcow2 S g → Call → Qcow2 S g → Type 0) → ImageDriver S g → Call → ImageDriver S g → Type 0
began_as raw vmdk qcow2 (variant.Raw d) call (variant.Raw now) = raw d call now
began_as raw vmdk qcow2 (variant.Vmdk d) call (variant.Vmdk now) = vmdk d call now
began_as raw vmdk qcow2 (variant.Qcow2 d) call (variant.Qcow2 now) = qcow2 d call now
began_as raw vmdk qcow2 d call now = ⊥

-- For an image with the number 0 that prepares no mappings with state: the mapping has no state, or was prepared under the number 0.
abbrev pub IsOwn : Option PreparedMappingState → Type 0
IsOwn None = ⊤
IsOwn (Some s) = s.number ≡ 0

-- The mapping was prepared under another number.
abbrev pub IsOthers : Option PreparedMappingState → Type 0
IsOthers None = ⊥
IsOthers (Some s) = s.number ≢ 0

-- The image is ready to commit a mapping with this state.
abbrev pub IsSpent : Result Unit Fault → Bool → Option PreparedMappingState → Type 0
IsSpent ready writable None = IsOk ready
IsSpent ready writable (Some s) = IsOk ready × IsTrue writable × (s.number ≡ 0)

-- The fault with which the image refuses to commit a mapping with this state.
abbrev pub IsGivenBack : Result Unit Fault → Bool → Option PreparedMappingState → Fault → Type 0
IsGivenBack ready writable None fault = ready ≡ Err fault
IsGivenBack ready writable (Some s) fault = CommitCheck ready writable 0 s.number fault

-- Specifies commits and cancels of a prepared mapping (a run that is written and not yet committed): which image prepared it, and when a
-- call consumes it (spends it).
use Rattle.std.specs.Prelude.{◌≡◌, ◌≢◌, ◌⊎◌, ⊤, ℕ, Bool, false, eqb, not, Option, Some, None, IsTrue, IsFalse, Result, MatchResult, if◌then◌else◌}
use Rattle.imago_storage.specs.declared.fault.Fault.{Fault}
use Rattle.imago_storage.specs.declared.fault.Fault.TheVariants.{ReadOnly, Foreign, MissingData, Failed, DamagedTable, Counter, Memory, Storage}
use Rattle.imago_access.specs.declared.driver_model.DriverModel.{Ghosts}
use Rattle.imago_access.specs.Layer.{Layer}
use Rattle.imago_access.specs.Changes.{Run, run_at}
use Rattle.imago_access.specs.declared.mapping.PreparedDataMapping.{PreparedDataMapping}
use Rattle.imago_access.specs.Refusals.{unusable_fault}

abbrev pub mapping_id_of : {S : Type 0} → (S → ℕ) → Option S → Option ℕ
mapping_id_of mapping_id None = None
mapping_id_of mapping_id (Some s) = Some (mapping_id s)

-- The run of a prepared mapping.
abbrev pub run_of : {D St : Type 0} → Ghosts D St → PreparedDataMapping St → Run
run_of g m = run_at m.storage m.offset m.length (mapping_id_of g.mapping_id m.state)

-- The mapping is the one that the layer has prepared. A mapping without state (with nothing to commit) belongs to every layer.
abbrev pub IsMine : {D St : Type 0} → Ghosts D St → Option St → Layer → Type 0
IsMine g None layer = ⊤
IsMine g (Some s) layer = (g.tag s ≡ layer.fixed.number) × (layer.unspent ≡ Some (g.mapping_id s))

-- The mapping was prepared by an image with another number.
abbrev pub IsForeignTo : {S : Type 0} → (S → ℕ) → Option S → Layer → Type 0
IsForeignTo tag None layer = ⊥
IsForeignTo tag (Some s) layer = tag s ≢ layer.fixed.number

-- If the mapping has no state, nothing changes. If it has state, it was prepared under this image's number. If the layer has this mapping
-- prepared, P holds.
abbrev pub Spends : {D St : Type 0} → Ghosts D St → Option St → Layer → Layer → Type 0 → Type 0
Spends g None old new P = new ≡ old
Spends g (Some s) old new P = (g.tag s ≡ old.fixed.number) × (old.unspent ≡ Some (g.mapping_id s) → P)

-- The first error with which a commit returns the mapping, if any.
abbrev pub commit_refusal : {D St : Type 0} → Ghosts D St → Option St → Layer → Option Fault
commit_refusal g None layer = unusable_fault layer
commit_refusal g (Some s) layer =
    if layer.failed then Some Failed
    else if layer.fixed.missing then Some MissingData
    else if not layer.fixed.writable then Some ReadOnly
    else if not (eqb (g.tag s) layer.fixed.number) then Some Foreign
    else None

-- The errors after which a commit has consumed the mapping.
abbrev pub IsSpending : Fault → Type 0
IsSpending DamagedTable = ⊤
IsSpending Counter = ⊤
IsSpending Memory = ⊤
IsSpending Storage = ⊤
IsSpending fault = ⊥

-- The errors with which a commit returns the mapping.
abbrev pub GivenBack : {S : Type 0} → (S → ℕ) → Option S → Layer → Fault → Type 0
GivenBack tag state layer Failed = unusable_fault layer ≡ Some Failed
GivenBack tag state layer MissingData = unusable_fault layer ≡ Some MissingData
GivenBack tag None layer fault = ⊥
GivenBack tag (Some s) layer ReadOnly = IsFalse layer.fixed.writable
GivenBack tag (Some s) layer Foreign = tag s ≢ layer.fixed.number
GivenBack tag (Some s) layer fault = ⊥

-- The errors of `check_commit`, by the result of `ready`, the setting for writing, the number of the driver's image, and that of the image
-- that prepared the mapping.
abbrev pub CommitCheck : Result Unit Fault → Bool → (number prepared_by : ℕ) → Fault → Type 0
CommitCheck ready writable number prepared_by e =
    MatchResult ready (λ _. (IsFalse writable × (e ≡ ReadOnly)) ⊎ (IsTrue writable × (prepared_by ≢ number) × (e ≡ Foreign))) (λ f. e ≡ f)

-- True if the mapping has state and was prepared under this layer's number.
abbrev pub is_own : {S : Type 0} → (S → ℕ) → Option S → Layer → Bool
is_own tag None layer = false
is_own tag (Some s) layer = eqb (tag s) layer.fixed.number

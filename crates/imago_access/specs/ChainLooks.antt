-- Specifies reads, lookups and reloads of a chain of images: their results and errors, given its drivers before and after a call, the top
-- first.
use Rattle.std.specs.Prelude.{◌≡◌, ◌⊎◌, ℕ, ◌+◌, ◌<◌, ◌^◌, List, None, Result, OnOk, IfOk, IfErr, IsTrue, length, slice_index, map}
use Rattle.imago_storage.specs.Disk.{byte}
use Rattle.imago_storage.specs.Steps.{lookup, found, read, bytes_read}
use Rattle.imago_storage.specs.declared.fault.Fault.{Fault}
use Rattle.imago_access.specs.declared.driver_model.DriverModel.{Ghosts}
use Rattle.imago_access.specs.declared.mapping.ShallowMapping.{ShallowMapping}
use Rattle.imago_access.specs.declared.mapping.Mapping.{Mapping}
use Rattle.imago_access.specs.Layer.{Layer}
use Rattle.imago_access.specs.Chain.{at, Each, EndsAt, unit_of_chain}
use Rattle.imago_access.specs.Files.{IsStale, files_of}
use Rattle.imago_access.specs.Going.{MarksFailed}
use Rattle.imago_access.specs.Kinds.{kind_of, deep_kind_of}
use Rattle.imago_access.specs.Mappings.{DeepNames, DeepNamesWritable, IsDeepBelow, IsThere, stored_at}
use Rattle.imago_access.specs.Refusals.{unusable_fault, IsUnusable, ReadCause, DeepLookCause, InvalidateCause}
use Rattle.imago_access.specs.Failing.{RefusesReload}
use Rattle.imago_access.specs.ChainCalls.{ChainSteps, AllUnchanged}

-- A read of `n` bytes has filled the buffer with the bytes of the chain's disk.
abbrev pub ChainReads : {D St : Type 0} → Ghosts D St → ℕ → ℕ → List ℕ → D × List D → D × List D → Type 0
ChainReads g offset n buf old new = ChainSteps g (read offset n) (bytes_read buf) old new

-- A lookup in the top layer has found a run of this kind and length. `ChainFinds` states this of a lookup through all layers.
abbrev pub TopFinds : {D St : Type 0} → Ghosts D St → ℕ → ℕ → D × List D → D × List D → ShallowMapping × ℕ → Type 0
TopFinds g offset asked old new answer = ChainSteps g (lookup offset asked) (found (kind_of answer.0) answer.1) old new

abbrev pub ChainFinds : {D St : Type 0} → Ghosts D St → ℕ → ℕ → D × List D → D × List D → Mapping × ℕ → Type 0
ChainFinds g offset asked old new answer = ChainSteps g (lookup offset asked) (found (deep_kind_of answer.0) answer.1) old new

-- The first `n` of these bytes are those of the layers from `offset` on.
abbrev pub ShowBytes : List Layer → ℕ → List ℕ → ℕ → Type 0
ShowBytes layers offset bytes n = (i : ℕ) → i < n → at layers (offset + i) ≡ byte (slice_index bytes i)

-- If lookups in each layer agree with the files and the depth of each layer fits `u64`, P holds.
abbrev pub WhereAllSee : {D St : Type 0} → Ghosts D St → List D → Type 0 → Type 0
WhereAllSee g ds P = length ds < 2 ^ 64 → Each g.coherent ds → P

-- The result says truly where the run is stored (`NamesTruly`) and that it can be written in place (`NamesWritable`). Its depth is one of
-- the chain's (`NamesLayer`).
abbrev pub NamesTruly : {D St : Type 0} → Ghosts D St → ℕ → Result (Mapping × ℕ) Fault → List D → List D → Type 0
NamesTruly g offset result olds news = WhereAllSee g olds
    (IfOk result (λ r. DeepNames (map g.layer olds) (at (map g.layer olds)) (stored_at g news) offset r.1 r.0))

abbrev pub NamesWritable : {D St : Type 0} → Ghosts D St → ℕ → ℕ → Result (Mapping × ℕ) Fault → List D → Type 0
NamesWritable g offset asked result olds = WhereAllSee g olds (IfOk result (λ r. DeepNamesWritable (map g.layer olds) offset asked r.0))

abbrev pub NamesLayer : {D : Type 0} → Result (Mapping × ℕ) Fault → List D → Type 0
NamesLayer result ds = length ds < 2 ^ 64 → IfOk result (λ r. IsDeepBelow (length ds) r.0)

-- The storage in the result exists.
abbrev pub NamesStorage : {D St : Type 0} → Ghosts D St → Result (Mapping × ℕ) Fault → List D → Type 0
NamesStorage g result ds = length ds < 2 ^ 64 → IfOk result (λ r. IsThere g ds r.0)

-- The start of the buffer has the bytes of these layers.
abbrev pub ReadsRun : {D St : Type 0} → Ghosts D St → ℕ → Result ℕ Fault → List ℕ → List D → Type 0
ReadsRun g offset result buf ds = Each g.coherent ds → IfOk result (ShowBytes (map g.layer ds) offset buf)

-- A lookup of `asked` bytes in a layer has nothing to do, or the image can't be used.
abbrev pub NeedsNoLook : Layer → ℕ → Type 0
NeedsNoLook layer asked = (asked ≡ 0) ⊎ IsUnusable layer

-- If a lookup has nothing to do, or the image can't be used, nothing changes.
abbrev pub UnchangedIfIdle : {D St : Type 0} → Ghosts D St → ℕ → D × List D → D × List D → Type 0
UnchangedIfIdle g asked old new = NeedsNoLook (g.layer old.0) asked → AllUnchanged g old new

-- The errors of a lookup through these layers, and then the errors of a read.
abbrev pub LookRefused : {D St T : Type 0} → Ghosts D St → ℕ → ℕ → Result T Fault → List D → List D → Type 0
LookRefused g offset asked result olds news = Each g.coherent olds
    → IfErr result (DeepLookCause (map g.layer olds) (at (map g.layer olds)) offset asked (files_of g olds) (files_of g news))

abbrev pub ReadRefused : {D St T : Type 0} → Ghosts D St → ℕ → ℕ → Result T Fault → List D → List D → Type 0
ReadRefused g offset n result olds news = Each g.coherent olds
    → IfErr result (ReadCause (map g.layer olds) (at (map g.layer olds)) (unit_of_chain (map g.layer olds)) offset n
    (files_of g olds) (files_of g news))

-- If each layer was just flushed, its lookups agreed with its files, and its storages keep what is written, P holds. `KeepsLayers` and
-- `KeepsSight` say what a successful reload then keeps: the layers, and that lookups agree with the files.
abbrev pub WhereFlushed : {D St : Type 0} → Ghosts D St → List D → Type 0 → Type 0
WhereFlushed g ds P = Each (λ d. IsTrue (g.layer d).fixed.keeps) ds → Each g.coherent ds → Each g.has_no_dirty_data ds → P

abbrev pub KeepsLayers : {D St : Type 0} → Ghosts D St → Result Unit Fault → List D → List D → Type 0
KeepsLayers g result olds news = WhereFlushed g olds (OnOk result (map g.layer news ≡ map g.layer olds))

abbrev pub KeepsSight : {D St : Type 0} → Ghosts D St → Result Unit Fault → List D → List D → Type 0
KeepsSight g result olds news = WhereFlushed g olds (OnOk result (Each g.coherent news))

-- The error and the failed state of the layer where a reload ended. If its files no longer agree with what was read of them, the image
-- could be used before, and has failed.
pub record EndsReload {D St : Type 0} (g : Ghosts D St) (fault : Fault) (old new : D) : Type 0 where
  pub cause : RefusesReload g old new fault
  pub marks_failed : MarksFailed g old new fault
  pub failed : IsStale fault → (unusable_fault (g.layer old) ≡ None) × IsTrue (g.layer new).failed

-- A reload ended at one of the layers. The layers above it have no dirty data, and those below it are unchanged.
abbrev pub EndsReloads : {D St : Type 0} → Ghosts D St → List D → List D → Fault → Type 0
EndsReloads g olds news fault = EndsAt g.has_no_dirty_data (EndsReload g fault) olds news

-- The errors of a reload of the layers.
abbrev pub RefusesReloads : {D St : Type 0} → Ghosts D St → List D → List D → Fault → Type 0
RefusesReloads g olds news = InvalidateCause (map g.layer olds) (files_of g olds) (files_of g news)

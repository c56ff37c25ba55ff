-- A chain (an image and its backing files) with its kept mapping, and the conditions under which the effects of calls are specified.
use Rattle.std.specs.Prelude.{◌≡◌, ◌+◌, ◌<◌, ◌^◌, Bool, List, length, map, Option, Some, None, is_some}
use Rattle.imago_storage.specs.Steps.{Call as DiskCall, read, write, write_zeroes, discard_to_zero, discard_to_any, discard_to_backing, prepare, commit, cancel, ensure, write_mapped, lookup, flush, sync, grow, shrink}
use Rattle.imago_access.specs.declared.driver_model.DriverModel.{Ghosts}
use Rattle.imago_access.specs.declared.mapping.PreparedDataMapping.{PreparedDataMapping}
use Rattle.imago_access.specs.Layer.{IsFree}
use Rattle.imago_access.specs.Layers.{chain}
use Rattle.imago_access.specs.Chain.{Each}
use Rattle.imago_access.specs.Refusals.{unusable_fault}
use Rattle.imago_access.specs.Resizes.{fill_of}
use Rattle.imago_access.specs.Running.{IsIntactChain}
use Rattle.imago_access.specs.Spending.{IsMine, is_own}
use Rattle.qimg_calls.specs.declared.call.Call.{Call}
use Rattle.qimg_calls.specs.declared.call.Call.TheVariants as calls

-- The drivers of a chain, the top first, and the mapping that is prepared and not yet committed or cancelled, if any.
pub record ChainWithMapping (D St : Type 0) : Type 0 where
  pub drivers : D × List D
  pub kept_mapping : Option (PreparedDataMapping St)

abbrev pub chain_with_mapping : {D St : Type 0} → D × List D → Option (PreparedDataMapping St) → ChainWithMapping D St
chain_with_mapping drivers kept = record { drivers = drivers; kept_mapping = kept }

-- The state of the kept mapping, if it has one.
abbrev pub state_of : {St : Type 0} → Option (PreparedDataMapping St) → Option St
state_of None = None
state_of (Some m) = m.state

-- The kept mapping is the one that the top driver has prepared. If no mapping with state is kept, none is prepared.
pub record MappingIsPrepared {D St : Type 0} (g : Ghosts D St) (h : ChainWithMapping D St) : Type 0 where
  pub mine : IsMine g (state_of h.kept_mapping) (g.layer h.drivers.0)
  pub free : state_of h.kept_mapping ≡ None → IsFree (g.layer h.drivers.0)

-- The condition under which values and crash images are specified: the chain is well-formed, each layer is usable, and nothing is dirty
-- below the top.
pub record IsReady {D St : Type 0} (g : Ghosts D St) (c : D × List D) : Type 0 where
  pub intact : IsIntactChain g c
  pub usable : Each (λ l. unusable_fault l ≡ None) (map g.layer (chain c))
  pub has_no_dirty_data : Each g.has_no_dirty_data c.1
  pub layers_bounded : length (map g.layer c.1) + 1 < 2 ^ 64

-- The call as a call of the disk. A repair of leaks and a commit to the layer below are flushes. `prepared` says if the kept mapping has
-- something to commit, and `own` if it was prepared under this chain's number.
abbrev pub call_as : (prepared own : Bool) → Call → DiskCall
call_as prepared own (calls.Read offset n) = read offset n
call_as prepared own (calls.Write offset bytes) = write offset bytes.items
call_as prepared own (calls.WriteZeroes offset n) = write_zeroes offset n
call_as prepared own (calls.DiscardToZero offset n) = discard_to_zero offset n
call_as prepared own (calls.DiscardToAny offset n) = discard_to_any offset n
call_as prepared own (calls.DiscardToBacking offset n) = discard_to_backing offset n
call_as prepared own (calls.PrepareDataMapping offset n overwrite) = prepare offset n overwrite
call_as prepared own calls.CommitDataMapping = commit prepared own
call_as prepared own calls.Cancel = cancel prepared own
call_as prepared own (calls.EnsureDataMapping offset n overwrite) = ensure offset n overwrite
call_as prepared own (calls.WriteMapped guest place bytes) = write_mapped guest bytes.items
call_as prepared own (calls.GetMapping offset n) = lookup offset n
call_as prepared own (calls.GetShallowMapping offset n) = lookup offset n
call_as prepared own calls.Flush = flush
call_as prepared own calls.Sync = sync
call_as prepared own (calls.ResizeGrow size mode) = grow size (fill_of mode)
call_as prepared own (calls.ResizeShrink size) = shrink size
call_as prepared own calls.RepairLeaks = flush
call_as prepared own calls.CommitDown = flush

abbrev pub disk_call : {D St : Type 0} → Ghosts D St → ChainWithMapping D St → Call → DiskCall
disk_call g h = call_as (is_some (state_of h.kept_mapping)) (is_own g.tag (state_of h.kept_mapping) (g.layer h.drivers.0))

-- Specifies which answers a call of a list can have, and when it is allowed. A mapping is kept from its preparation to its commit or
-- cancel.
use Rattle.std.specs.Prelude.{⊤, Bool, false, true, not, ◌&&◌, ◌||◌, List, [], ◌∷◌, IsFalse, Option, Some, None}
use Rattle.imago_storage.specs.declared.fault.Fault.{Fault}
use Rattle.imago_storage.specs.declared.fault.Fault.TheVariants.{BadArgument, MissingBelow}
use Rattle.imago_storage.specs.Steps.{Answer as DiskAnswer, done, bytes_read, run, found, prepared}
use Rattle.imago_access.specs.Files.{IsNotResourceError}
use Rattle.imago_access.specs.Kinds.{kind_of, deep_kind_of}
use Rattle.qimg_calls.specs.declared.call.Call.{Call}
use Rattle.qimg_calls.specs.declared.call.Call.TheVariants as calls
use Rattle.qimg_calls.specs.declared.call.Answer.{Answer}
use Rattle.qimg_calls.specs.declared.call.Answer.TheVariants as told

-- The call only reads, or only writes dirty data.
abbrev pub is_look : Call → Bool
is_look (calls.Read offset n) = true
is_look (calls.GetMapping offset n) = true
is_look (calls.GetShallowMapping offset n) = true
is_look calls.Flush = true
is_look calls.Sync = true
is_look call = false

-- The call is for a mapping and none is kept, or it changes the disk while one is kept.
abbrev pub is_out_of_place : Bool → Call → Bool
is_out_of_place kept calls.CommitDataMapping = not kept
is_out_of_place kept calls.Cancel = not kept
is_out_of_place kept (calls.WriteMapped guest place bytes) = not kept
is_out_of_place kept call = kept && not (is_look call)

-- The call changes the disk, and neither prepares a mapping nor needs one.
abbrev pub is_lone_change : Call → Bool
is_lone_change (calls.PrepareDataMapping offset n overwrite) = false
is_lone_change call = not (is_look call) && not (is_out_of_place false call)

-- The call prepares a mapping, or commits or cancels the kept one.
abbrev pub is_of_mapping : Call → Bool
is_of_mapping (calls.PrepareDataMapping offset n overwrite) = true
is_of_mapping calls.CommitDataMapping = true
is_of_mapping calls.Cancel = true
is_of_mapping call = false

-- The answer to a successful call has data: bytes or a run.
abbrev pub tells_something : Call → Bool
tells_something (calls.Read offset n) = true
tells_something (calls.PrepareDataMapping offset n overwrite) = true
tells_something (calls.EnsureDataMapping offset n overwrite) = true
tells_something (calls.GetMapping offset n) = true
tells_something (calls.GetShallowMapping offset n) = true
tells_something calls.RepairLeaks = true
tells_something call = false

-- The answer is of a kind that the call can have.
abbrev pub Fits : Call → Answer → Type 0
Fits call (told.Refused fault) = ⊤
Fits call told.Done = IsFalse (tells_something call)
Fits (calls.Read offset n) (told.Bytes bytes) = ⊤
Fits (calls.PrepareDataMapping offset n overwrite) (told.Prepared storage place count state) = ⊤
Fits (calls.EnsureDataMapping offset n overwrite) (told.Mapped mapping count) = ⊤
Fits (calls.GetMapping offset n) (told.Mapped mapping count) = ⊤
Fits (calls.GetShallowMapping offset n) (told.Shallow mapping count) = ⊤
Fits calls.RepairLeaks (told.Leaks pairs) = ⊤
Fits call answer = ⊥

-- The answer as one of the disk, if it fits the call and isn't an error.
abbrev pub said : Call → Answer → Option DiskAnswer
said call told.Done = Some done
said call (told.Bytes bytes) = Some (bytes_read bytes.items)
said (calls.EnsureDataMapping offset asked overwrite) (told.Mapped mapping n) = Some (run n)
said (calls.GetMapping offset asked) (told.Mapped mapping n) = Some (found (deep_kind_of mapping) n)
said (calls.GetShallowMapping offset asked) (told.Shallow mapping n) = Some (found (kind_of mapping) n)
said calls.RepairLeaks (told.Leaks pairs) = Some done
said (calls.PrepareDataMapping offset asked overwrite) (told.Prepared storage place n state) = Some (prepared n state)
said call answer = None

-- The answer isn't `Memory` or `Storage` (a resource error).
abbrev pub GoesOn : Answer → Type 0
GoesOn (told.Refused fault) = IsNotResourceError fault
GoesOn answer = ⊤

-- The call succeeded.
abbrev pub WasDone : Answer → Type 0
WasDone (told.Refused fault) = ⊥
WasDone answer = ⊤

-- The call is a repair of leaks that succeeded. `any_repair` says that one of a list of calls is.
abbrev pub repairs : Call → Answer → Bool
repairs calls.RepairLeaks (told.Leaks pairs) = true
repairs call answer = false

abbrev pub any_repair : List Call → List Answer → Bool
any_repair (call ∷ calls) (answer ∷ answers) = repairs call answer || any_repair calls answers
any_repair _ _ = false

-- The call is a commit of the top's data to the layer below it. `any_commit_down` says that one of a list of calls is.
abbrev pub commits_down : Call → Bool
commits_down calls.CommitDown = true
commits_down call = false

abbrev pub any_commit_down : List Call → Bool
any_commit_down [] = false
any_commit_down (call ∷ calls) = commits_down call || any_commit_down calls

-- The call is such a commit, and its answer doesn't show that it failed before it began. `any_commit` says that one of a list of calls is.
abbrev pub commits : Call → Answer → Bool
commits calls.CommitDown (told.Refused MissingBelow) = false
commits calls.CommitDown (told.Refused BadArgument) = false
commits calls.CommitDown answer = true
commits call answer = false

abbrev pub any_commit : List Call → List Answer → Bool
any_commit (call ∷ calls) (answer ∷ answers) = commits call answer || any_commit calls answers
any_commit _ _ = false

-- If the call failed, `P` holds for its fault.
abbrev pub IfRefused : Answer → (Fault → Type 0) → Type 0
IfRefused (told.Refused fault) P = P fault
IfRefused answer P = ⊤

-- `P` if the condition is true, and `Q` otherwise.
abbrev pub Either : Bool → Type 0 → Type 0 → Type 0
Either true P Q = P
Either false P Q = Q

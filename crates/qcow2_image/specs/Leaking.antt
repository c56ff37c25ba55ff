-- The leaks of an image: the excess refcount of each cluster, beyond its references and what is pending. A cluster is pending if it is
-- allocated and not yet referenced, or on the free list.
use Rattle.std.specs.Prelude.{◌≡◌, ℕ, ◌+◌, ◌-◌, Bool, true, false, List, Option, Some, None, Result, Ok, Err}
use Rattle.imago_storage.specs.declared.fault.Fault.{Fault}
use Rattle.imago_storage.specs.declared.storage.Storage.{Ghosts}
use Rattle.qcow2_types.specs.Consistency.{leaks}
use Rattle.qcow2_types.specs.Counts.{count}
use Rattle.qcow2_types.specs.References.{refs}
use Rattle.qcow2_alloc.specs.FreeList.{covers, listed}
use Rattle.qcow2_clusters.specs.declared.space.Space.{Space}
use Rattle.qcow2_image.specs.Holding.{PreparedMappingRun}
use Rattle.qcow2_image.specs.Seen.{file_of}
use Rattle.qcow2_image.specs.Unspent.{holding_in}
use Rattle.qcow2_image.specs.declared.allocating.Placed.{Placed}
use Rattle.qcow2_image.specs.declared.qcow2.Qcow2.{Qcow2}
use Rattle.qcow2_image.specs.declared.mappings.Reserved.{Reserved}

-- The number of times that a cluster is on the free list.
abbrev pub waiting_in : Option Space → ℕ → ℕ
waiting_in None c = 0
waiting_in (Some space) c = listed space.to_free.entries c

-- The number of times that a cluster is reserved, if these are the host clusters of a mapping. Preallocated zero clusters aren't, as
-- entries reference them.
abbrev pub reserved_as : (is_kept : Bool) → (host n c : ℕ) → ℕ
reserved_as true host n c = 0
reserved_as false host n c = covers c (record { first = host; count = n; metadata = false })

abbrev pub reserved_in : Option PreparedMappingRun → ℕ → ℕ
reserved_in None c = 0
reserved_in (Some hold) c = reserved_as hold.is_kept hold.host hold.count c

-- The number of times that a cluster is pending: on the free list, or reserved for the prepared mapping.
abbrev pub pending : {S : Type 0} (g : Ghosts S) → Qcow2 S g → ℕ → ℕ
pending g d c = waiting_in d.tables.space c + reserved_in (holding_in g d.unspent) c

-- The refcount of a cluster in the file, and its number of references there.
abbrev pub counts_in : {S : Type 0} (g : Ghosts S) → Qcow2 S g → ℕ → ℕ
counts_in g d c = count (file_of g d.tables) d.tables.file.header.fields c

abbrev pub names_in : {S : Type 0} (g : Ghosts S) → Qcow2 S g → ℕ → ℕ
names_in g d c = refs (file_of g d.tables) d.tables.file.header.fields c

-- The excess refcount: the refcount minus references minus what is pending.
abbrev pub excess_refcount_of : {S : Type 0} (g : Ghosts S) → Qcow2 S g → ℕ → ℕ
excess_refcount_of g d c = counts_in g d c - (names_in g d c + pending g d c)

-- The leaks of the file, as a checker lists them.
abbrev pub leaks_of : {S : Type 0} (g : Ghosts S) → Qcow2 S g → List (ℕ × ℕ)
leaks_of g d = leaks (file_of g d.tables) d.tables.file.header.fields

-- The excess refcount of each cluster stays the same.
abbrev pub KeepsLeaks : {S : Type 0} (g : Ghosts S) → Qcow2 S g → Qcow2 S g → Type 0
KeepsLeaks g old new = (c : ℕ)
    → counts_in g new c + names_in g old c + pending g old c ≡ counts_in g old c + names_in g new c + pending g new c

-- Like `KeepsLeaks`, except for clusters that were reserved, and that are in no prepared mapping yet.
abbrev pub KeepsLeaksBut : {S : Type 0} (g : Ghosts S) → (reserved : ℕ → ℕ) → Qcow2 S g → Qcow2 S g → Type 0
KeepsLeaksBut g reserved old new = (c : ℕ)
    → counts_in g new c + names_in g old c + pending g old c ≡ counts_in g old c + names_in g new c + pending g new c + reserved c

-- The clusters that are reserved by a call that puts data in host clusters.
abbrev pub reserved_by : Result Placed Fault → ℕ → ℕ
reserved_by (Ok r) c = reserved_as r.is_kept r.host r.count c
reserved_by (Err fault) c = 0

-- The clusters that are reserved by a call that returns the clusters of a mapping.
abbrev pub reserved_with : Result Reserved Fault → ℕ → ℕ
reserved_with (Ok r) c = reserved_as r.is_kept r.host r.count c
reserved_with (Err fault) c = 0

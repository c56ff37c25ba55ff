-- Lemmas on single changes of clusters: what each call of `allocating.rt` leaves of an image.
use Rattle.std.proofs.Common.{◌≡◌, ◌≢◌, ℕ, ◌+◌, ◌-◌, ◌*◌, ◌/◌, ◌^◌, ◌<◌, ◌≤◌, refl, arith, ap, sym, subst, ◌∙◌, inl, inr, Bool, true, false, List, [], length, Option, Some, None, Result, Ok, Err}
use Rattle.std.proofs.Math.Nat.{le-max_left, le-max_right}
use Rattle.std.proofs.lemmas.Bool.{cases_eq, cases_lt, le-ltb, ne_eqb}
use Rattle.std.proofs.lemmas.Nat.{pow_pos}
use Rattle.std.specs.Prelude.{⊤, ◌⊎◌, IsSome, IfSome, is_some, IfOk, IfErr, OnOk, max, min, slice_index, ◌==◌, if◌then◌else◌}
use Rattle.imago_storage.specs.State.{StorageState}
use Rattle.imago_storage.specs.Calls.{Cause}
use Rattle.imago_storage.specs.Disk.{Value}
use Rattle.qcow2_metadata.specs.Places.{IsAddressable}
use Rattle.imago_storage.specs.declared.fault.Fault.{Fault}
use Rattle.imago_storage.specs.declared.fault.Fault.TheVariants.{DamagedTable, Limit, Memory, Storage}
use Rattle.imago_storage.specs.declared.storage.Storage.{Ghosts}
use Rattle.imago_access.specs.Files.{HadNoResourceError}
use Rattle.qcow2_types.specs.Bytes.{Bytes, bytes_of, raw_entry}
use Rattle.qcow2_types.specs.Entries.{l1_table_sound, l2_table}
use Rattle.qcow2_types.specs.Header.{Fields, Header, cluster_size, entries_of_cluster}
use Rattle.qcow2_types.specs.Words.{is_copied, table_offset}
use Rattle.qcow2_metadata.specs.Tables.{TableValue, padded}
use Rattle.qcow2_alloc.specs.Allocating.{MovedTable}
use Rattle.qcow2_alloc.specs.Allocators.{LoadsAllocator, first_free_of}
use Rattle.qcow2_alloc.specs.Causes.{HasCause}
use Rattle.qcow2_alloc.specs.Crowding.{space as space_of}
use Rattle.qcow2_alloc.specs.Going as going
use Rattle.qcow2_alloc.specs.Opening.{IsL1Of}
use Rattle.qcow2_alloc.specs.GuestView.{Metadata}
use Rattle.qcow2_alloc.specs.declared.allocation.Allocator.{Allocator}
use Rattle.qcow2_alloc.specs.declared.cache.MetadataCaches.{MetadataCaches}
use Rattle.qcow2_alloc.proofs.Flushing.FlushRefusals.{writing-implies}
use Rattle.qcow2_alloc.proofs.Causes.{Implies, cause-weaker, cause-told, storage-cause}
use Rattle.qcow2_alloc.proofs.Growth.TableLoads.{allocator-refused}
use Rattle.qcow2_alloc.proofs.Memory.Patches.{place-there}
use Rattle.qcow2_steps.specs.Data.{IsKeptFor}
use Rattle.qcow2_steps.proofs.InvisibleClusters.{kept-hidden}
use Rattle.qcow2_clusters.specs.Filling.{Fills, filling}
use Rattle.qcow2_steps.specs.LongerL1.{old_l1}
use Rattle.qcow2_steps.proofs.Headers.{header-counts}
use Rattle.qcow2_clusters.specs.Freeing.{FreesPendingClusters}
use Rattle.qcow2_clusters.specs.Lengthening.{IsTooLong, LengthensL1, clusters_for, l1_clusters}
use Rattle.qcow2_clusters.specs.MakingTables.{CopiesTable, HasTable, IsTableless, IsTopRawEntry, MakesTable, NamesNewTable, replaced_table}
use Rattle.qcow2_clusters.specs.Progress.{Kind, Progresses, handing}
use Rattle.qcow2_clusters.specs.Flushed.{Clusters, IsReady, clusters_state, flushed_metadata}
use Rattle.qcow2_clusters.specs.Room as room
use Rattle.qcow2_clusters.specs.Storing.{AreReserved, ReachesEnd, Rests, StoresRun, handed_by, held_by, run_handed_by, storing_causes}
use Rattle.qcow2_clusters.specs.declared.space.Space.{Space}
use Rattle.qcow2_image.proofs.CallStarts.{still-cut, whole-cut}
use Rattle.qcow2_image.specs.Allocating.{EnsuresTable, EnsuresEntry, FillsContent, FreesPending, HasKept, KeepsTop, LoadsSpace, PlacesContent, StoresContent, StoresMost, failed_by_resource_error, full_by, placed_by, waits_in, allocation_causes, filling_causes, pending_causes}
use Rattle.qcow2_image.specs.Holding.{AreOwnAs, PreparedMappingRun, IsOwnAs}
use Rattle.qcow2_image.specs.KeepsDisk.{KeepsDisk, KeepsDiskWhere}
use Rattle.qcow2_image.specs.Leaking.{KeepsLeaks, KeepsLeaksBut}
use Rattle.qcow2_metadata.proofs.TableSteps.{padded_at}
use Rattle.qcow2_clusters.specs.Room.{KeepsNoneFreeBefore}
use Rattle.qcow2_clusters.proofs.L1Growth.{padded-long, some-taken}
use Rattle.qcow2_image.specs.FreeSpace.{HasNoPlace, IsForTable, IsForRawEntry, LacksFreeRun, LacksTable, LeavesFree, enough_for_one, enough_for_run, enough_for_table, enough_for_entry}
use Rattle.qcow2_image.proofs.FreeRuns.{full-behind, full-in-run, full-more, lacks-as-words, lacks-in-file, leaves-in-run, leaves-more, leaves-none, leaves-then, run-fewer, run-same, safe-short, some-enough, full-implies}
use Rattle.qcow2_image.specs.Looking.{place_of_table}
use Rattle.qcow2_image.specs.Resizing.{MovesL1}
use Rattle.qcow2_image.specs.Rooms.{IsWellFormed, rest_of}
use Rattle.qcow2_image.specs.Seen.{file_of}
use Rattle.qcow2_image.specs.Steps.{KeepsImage, failed_by}
use Rattle.qcow2_image.specs.Unspent.{holding_in}
use Rattle.qcow2_image.specs.declared.allocating.Placed.{Placed}
use Rattle.qcow2_image.specs.declared.qcow2.Qcow2.{Qcow2}
use Rattle.qcow2_image.specs.declared.tables.Tables.{Tables}
use Rattle.qcow2_image.proofs.FileWords.{place-in-file, place-named, some-offset, tables-same, top-long, top-word}
use Rattle.qcow2_image.proofs.DiskEffects.{LeavesUntouched, WhyNoSpace, keeps-disk-same, keeps-image-disk, later-refused, progress-keeps, safe-sound, space-keeps, space-refused, whole-below, keeps-disk-both}
use Rattle.qcow2_image.proofs.Leaks.{advanced-leaks, leaks-all, leaks-both, leaks-but, leaks-loaded, leaks-then}
use Rattle.qcow2_image.proofs.ZeroClusters.{apart-some, kept-at-rest, kept-in, kept-is}
use Rattle.qcow2_image.proofs.RequestsWithoutChanges.{seen-same}
use Rattle.qcow2_image.proofs.Steps.{keeps-marked}
use Rattle.qcow2_image.proofs.LeaksByFile.{leaks-kept}

pub none-there : {A : Type 0} (o : Option A) → is_some o ≡ false → o ≡ None
none-there None is = refl
none-there (Some a) is = absurd (cc is)

pub some-there : (o : Option Space) → is_some o ≡ true → (space : Space) × (o ≡ Some space)
some-there None is = absurd (cc is)
some-there (Some space) is = (space, refl)

pub none-some : {A : Type 0} (o : Option Space) → o ≡ None → IsSome o → A
none-some None is some = absurd (cc some)
none-some (Some x) is some = absurd (cc is)

-- The free space couldn't be loaded: memory is unchanged, and a storage fault sets the image to failed.
module _ {S : Type 0} (g : Ghosts S) (old new : Qcow2 S g) (fault : Fault) (mid : Tables S g)
    (is : new ≡ record old { tables = mid; failed = failed_by fault old.failed }) (none : old.tables.space ≡ None)
    (header : mid.file.header ≡ old.tables.file.header) (l1 : mid.l1 ≡ old.tables.l1) (caches : mid.caches ≡ old.tables.caches)
    (space : mid.space ≡ old.tables.space)
    (loads : LoadsAllocator (g.state old.tables.file.image) old.tables.file.header.fields (Err fault) (g.state mid.file.image)) where
  abbrev unloaded_from : StorageState
  unloaded_from = g.state old.tables.file.image

  abbrev unloaded_to : StorageState
  unloaded_to = g.state mid.file.image

  state-same : g.state new.tables.file.image ≡ unloaded_to
  state-same = ap (λ (x : Qcow2 S g). g.state x.tables.file.image) is

  keeps-unloaded : KeepsImage {T = Unit} g old (Err fault) new
  keeps-unloaded =
      let later = later-refused unloaded_from unloaded_to old.tables.file.header.fields fault loads in
      keeps-marked {T = Unit} g old new mid (Err fault) (record {
        unchanged_but_faults = loads.unchanged_but_faults;
        counts_not_fallen = later;
        faults = λ whole. loads.faults (whole-below {T = Allocator} (Err fault) whole);
        header = header;
        space = space;
        seen = seen-same g old.tables mid loads.unchanged_but_faults later header l1 caches;
      }) is

  why-from : (e : Fault) → (IsWellFormed g old → Cause unloaded_from.faults (g.state new.tables.file.image).faults e)
      → WhyNoSpace unloaded_from.faults (g.state new.tables.file.image).faults e → HasCause (allocation_causes g (λ number. ⊥) old new) e
  why-from Memory safely why = tt
  why-from Storage safely why = why
  why-from (Limit number) safely why = λ well_formed. safely well_formed
  why-from DamagedTable safely why = λ known. none-some old.tables.space none known.1
  why-from e safely why = absurd why

  why-safe : IsWellFormed g old → Cause unloaded_from.faults (g.state new.tables.file.image).faults fault
  why-safe well_formed = subst (λ (s : StorageState). Cause unloaded_from.faults s.faults fault) (sym state-same)
      (allocator-refused (file_of g old.tables) old.tables.file.header well_formed.consistent unloaded_from unloaded_to fault refl loads)

  pub unloaded : LoadsSpace g old (Err fault) new
  unloaded = record {
    keeps = keeps-image-disk {T = Unit} g old new (Err fault) keeps-unloaded;
    leaks = leaks-kept g {T = Unit} old new (Err fault) keeps-unloaded;
    known = tt;
    stays = none-some old.tables.space none;
    same = keeps-unloaded;
    top = tt;
    leaves = tt;
    cause = why-from fault why-safe (subst (λ (s : StorageState). WhyNoSpace unloaded_from.faults s.faults fault) (sym state-same)
        (space-refused unloaded_from unloaded_to old.tables.file.header.fields fault loads));
    known_cause = why-safe;
    faults = tt;
    idle = λ untouched. (keeps-unloaded.unspent ∙ untouched.0, subst (λ (o : Option Space). IfSome o (λ x. x.to_free.entries ≡ [])) (sym keeps-unloaded.tables.space) untouched.1);
  }

-- The free space was loaded.
pub loaded : {S : Type 0} (g : Ghosts S) (old new : Qcow2 S g) (space : Space) → old.tables.space ≡ None → new.tables.space ≡ Some space
    → new.mode ≡ old.mode → new.number ≡ old.number → new.unspent ≡ old.unspent → new.failed ≡ old.failed → new.tables.l1 ≡ old.tables.l1
    → new.tables.caches ≡ old.tables.caches → new.tables.file.header ≡ old.tables.file.header
    → LoadsAllocator (g.state old.tables.file.image) old.tables.file.header.fields (Ok space.allocator) (g.state new.tables.file.image)
    → space.to_free.entries ≡ [] → LoadsSpace g old (Ok tt) new
loaded g old new space none there mode number unspent failed l1 caches header loads empty = record {
  keeps = space-keeps g old new space none there mode number unspent failed l1 caches header loads empty ⊤;
  leaks = leaks-loaded g old new space none there loads.unchanged_but_faults header unspent empty;
  known = subst IsSome (sym there) refl;
  stays = none-some old.tables.space none;
  same = tt;
  top = (l1, header);
  leaves = record {
    as_large = ap (λ (H : Header). space_of H.fields) header;
    left = λ total some run. run-same g old.tables new.tables total (ap bytes_of loads.unchanged_but_faults.bytes) header
        (run-fewer g old.tables total (0 + total) (omega arith) run);
  };
  cause = tt;
  known_cause = λ well_formed. tt;
  faults = failed;
  idle = λ untouched. (unspent ∙ untouched.0, subst (λ (o : Option Space). IfSome o (λ x. x.to_free.entries ≡ [])) (sym there) empty);
}

progresses-as : (ok ok' : Type 0) (kind : Kind) (s s' : StorageState) (m m' : Metadata) → (ok' → ok) → Progresses ok kind s m s' m' → Progresses ok' kind s m s' m'
progresses-as ok ok' kind s s' m m' from p = record {
  shape = p.shape;
  counts_not_fallen = p.counts_not_fallen;
  passes = p.passes;
  holds = λ keeps sound whole. p.holds keeps sound (from whole);
}

-- The L1 entries are those of the file also after the refcount table has moved.
l1-moved : (f : Bytes) (H H' : Header) (top : TableValue) → MovedTable H H' → IsL1Of f H.fields top → IsL1Of f H'.fields top
unfolding l1_table_sound
l1-moved f H H' top moved of =
    subst (λ (K : Header). IsL1Of f K.fields top) (sym moved.2) (record { layout = of.layout; raw_entries = of.raw_entries; sound = of.sound })

-- An L2 table that the L1 table in memory references is the one of the guest cluster.
pub table-over : (f : Bytes) (h : Fields) (top : TableValue) → IsL1Of f h top → (guest table : ℕ) → place_of_table top.raw_entries h.cluster_bits guest ≡ Some table
    → (table ≢ 0) × (guest / entries_of_cluster h < h.l1_entries) × (l2_table f h (guest / entries_of_cluster h) ≡ table * cluster_size h)
table-over f h top of guest table named = (
  λ none. let e : table * cluster_size h ≡ 0 * cluster_size h = ap (λ t. t * cluster_size h) none in some (omega (arith, e)),
  elim (cases_lt (guest / entries_of_cluster h) h.l1_entries) [
    | inl inside ↦ inside
    | inr behind ↦ absurd (some (sym there ∙ rw (le-ltb (guest / entries_of_cluster h) h.l1_entries behind) refl))
  ],
  there,
) where
  there : l2_table f h (guest / entries_of_cluster h) ≡ table * cluster_size h
  there = place-in-file f h top of (guest / entries_of_cluster h) ∙ place-named f h top of guest table named

  some : table * cluster_size h ≢ 0
  some none =
      let is : (table_offset (slice_index top.raw_entries (guest / entries_of_cluster h)) == 0) ≡ true = rw (place-named f h top of guest table named ∙ none) refl in
      cc (sym (some-offset f h top of guest table named) ∙ is)

-- If the L1 table in memory references none, the guest cluster has none.
pub table-none : (f : Bytes) (h : Fields) (top : TableValue) → IsL1Of f h top → (guest : ℕ) → place_of_table top.raw_entries h.cluster_bits guest ≡ None
    → l2_table f h (guest / entries_of_cluster h) ≡ 0
table-none f h top of guest none = place-in-file f h top of (guest / entries_of_cluster h) ∙ from _ none where
  from : (n : ℕ) → (if n == 0 then None else Some (n / 2 ^ h.cluster_bits)) ≡ None → n ≡ 0
  from n is = elim (cases_eq n 0) [
    | inl zero ↦ zero
    | inr some ↦ absurd (let there : (if n == 0 then None else Some (n / 2 ^ h.cluster_bits)) ≡ Some (n / 2 ^ h.cluster_bits) = rw (ne_eqb n 0 some) refl in cc (sym is ∙ there))
  ]

-- After a call that changes clusters the image is flushed again.
module _ {S T : Type 0} (g : Ghosts S) (old : Qcow2 S g) (begun : Bool) (mid : Tables S g) (space space' : Space) (caches : MetadataCaches S)
    (result : Result T Fault) (there : old.tables.space ≡ Some space) (there' : mid.space ≡ Some space')
    (rests : Rests g.state (clusters_state old.tables.file caches space) result (clusters_state mid.file mid.caches space')) where
  abbrev pub now : Qcow2 S g
  now = record old { tables = mid; failed = failed_by_resource_error result begun old.failed }

  pub ready : IsWellFormed g old → IsReady g.state (clusters_state old.tables.file caches space)
  ready well_formed = record { keeps = well_formed.keeps; sound = safe-sound g old space there well_formed }

  -- The call changed no value that the guest reads, and no entry of a guest cluster.
  pub advanced-by : (sure : Type 0) (kind : Kind) → (sure → IsWellFormed g old) → ((p : ℕ) (v : Option Value) → kind.gives p v → ⊥)
      → ((guest : ℕ) → kind.set guest → ⊥) → IfSome (holding_in g old.unspent) (LeavesUntouched g (HadNoResourceError result) kind old now space space')
      → (sure → HadNoResourceError result → IsL1Of (file_of g mid) mid.file.header.fields mid.l1)
      → (sure → KeepsNoneFreeBefore g.state (clusters_state old.tables.file caches space) result (clusters_state mid.file mid.caches space'))
      → (sure → Progresses (going.HadNoResourceError result) kind (g.state old.tables.file.image)
      (rest_of g old.tables space) (g.state mid.file.image) (rest_of g mid space'))
      → KeepsDiskWhere g sure (HadNoResourceError result) old now
  advanced-by sure kind well_formed none unset untouched_unless_begun l1 marked progress = progress-keeps g sure (HadNoResourceError result) kind old now (record {
    well_formed = well_formed;
    none = none;
    unset = unset;
    space = space;
    space' = space';
    there = there;
    there' = there';
    mode = refl;
    number = refl;
    unspent = refl;
    untouched_unless_begun = untouched_unless_begun;
    shape = rests.shape;
    counts_not_fallen = rests.counts_not_fallen;
    header = header-counts old.tables.file.header mid.file.header rests.header;
    failed = still-cut result begun old.failed;
    whole = whole-cut result begun old.failed;
    faults = λ whole. rests.faults (whole-below result whole);
    empty = rests.empty;
    l1 = l1;
    marked = λ known whole. marked known (ready (well_formed known)) (whole-below result whole);
    progress = λ known. progresses-as (going.HadNoResourceError result) (HadNoResourceError result) kind (g.state old.tables.file.image)
        (g.state mid.file.image) (rest_of g old.tables space) (rest_of g mid space') (whole-below result) (progress known);
  })

  -- It wrote to no cluster that was in use.
  pub advanced : (handed taken : ℕ → ℕ) → IfSome (holding_in g old.unspent) (LeavesUntouched g (HadNoResourceError result) (handing handed taken) old now space space')
      → (IsWellFormed g old → HadNoResourceError result → IsL1Of (file_of g mid) mid.file.header.fields mid.l1)
      → (IsWellFormed g old → KeepsNoneFreeBefore g.state (clusters_state old.tables.file caches space) result (clusters_state mid.file mid.caches space'))
      → (IsWellFormed g old → Progresses (going.HadNoResourceError result) (handing handed taken) (g.state old.tables.file.image)
      (rest_of g old.tables space) (g.state mid.file.image) (rest_of g mid space'))
      → KeepsDisk g (HadNoResourceError result) old now
  advanced handed taken = advanced-by (IsWellFormed g old) (handing handed taken) (λ well_formed. well_formed) (λ p v gave. gave) (λ guest is. is)

  -- The call leaks the clusters that it allocates and doesn't link.
  pub leaks-by : (kind : Kind) (reserved : ℕ → ℕ) → ((c : ℕ) → kind.excess_added c ≡ kind.taken c + reserved c)
      → Progresses (going.HadNoResourceError result) kind (g.state old.tables.file.image) (rest_of g old.tables space) (g.state mid.file.image)
      (rest_of g mid space') → IsWellFormed g old → HadNoResourceError result → KeepsLeaksBut g reserved old now
  leaks-by kind reserved given progress well_formed whole =
      advanced-leaks g old now space space' there there' (going.HadNoResourceError result) kind reserved refl given progress well_formed (whole-below result whole)

pub none-spared : {S : Type 0} (g : Ghosts S) (old : Qcow2 S g) (P : PreparedMappingRun → Type 0) → old.unspent ≡ None → IfSome (holding_in g old.unspent) P
none-spared g old P free = subst (λ u. IfSome (holding_in g u) P) (sym free) tt

storing-allocates : {S : Type 0} (g : Ghosts S) (old new : Qcow2 S g) {is-ready : Type 0} {full full' : ℕ → Type 0} → (IsWellFormed g old → is-ready)
    → ((number : ℕ) → IsWellFormed g old → full number → full' number) → Implies (storing_causes is-ready full (g.state old.tables.file.image).faults (g.state new.tables.file.image).faults) (allocation_causes g full' old new)
storing-allocates g old new from told = record {
  before = omega arith;
  after = omega arith;
  damaged = λ wrong known. wrong (from known.0);
  counter = λ wrong known. wrong (from known.0);
  full = absurd;
  limit = λ number at well_formed. told number well_formed (at (from well_formed));
}

on-ok : {T : Type 0} (r : Result T Fault) (P Q : Type 0) → (P → Q) → OnOk r P → OnOk r Q
on-ok (Ok v) P Q each holds = each holds
on-ok (Err e) P Q each holds = tt

if-err : {T : Type 0} (r : Result T Fault) (P Q : Fault → Type 0) → ((e : Fault) → P e → Q e) → IfErr r P → IfErr r Q
if-err (Ok v) P Q each holds = tt
if-err (Err e) P Q each holds = each e holds

-- Bytes were stored in new clusters.
module _ {S : Type 0} (g : Ghosts S) (old : Qcow2 S g) (begun : Bool) (mid : Tables S g) (space space' : Space) (caches : MetadataCaches S) (n : ℕ)
    (bytes : List ℕ) (result : Result ℕ Fault) (there : old.tables.space ≡ Some space) (there' : mid.space ≡ Some space') (l1 : mid.l1 ≡ old.tables.l1)
    (free : old.unspent ≡ None) (some : 0 < n)
    (stores : StoresRun g.state n bytes (clusters_state old.tables.file caches space) result (clusters_state mid.file mid.caches space'))
    (reaches : IfOk result (λ x. ReachesEnd g.state x n old.tables.file mid.file)) where
  abbrev stored_now : Qcow2 S g
  stored_now = record old { tables = mid; failed = failed_by_resource_error result begun old.failed }

  l1-stored : IsWellFormed g old → HadNoResourceError result → IsL1Of (file_of g mid) mid.file.header.fields old.tables.l1
  l1-stored well_formed whole = stores.l1 (ready g old begun mid space space' caches result there there' stores.rests well_formed) (whole-below result whole) old.tables.l1 well_formed.seen.l1

  reserved-now : (r : Result ℕ Fault) → IfOk r (AreReserved n (rest_of g mid space')) → space'.to_free.held ≡ held_by r space.to_free.held
      → IfOk r (λ x. (s : Space) × (mid.space ≡ Some s) × AreReserved n (rest_of g mid s) x × (0 < s.to_free.held))
  reserved-now (Ok x) reserved held = (space', there', reserved, omega (arith, held))
  reserved-now (Err fault) reserved held = tt

  pub stored : StoresContent g n bytes old result stored_now
  stored = record {
    keeps = advanced g old begun mid space space' caches result there there' stores.rests (run_handed_by n result) (λ c. 0)
        (none-spared g old (LeavesUntouched g (HadNoResourceError result) (handing (run_handed_by n result) (λ c. 0)) old stored_now space space') free)
        (λ well_formed whole. subst (IsL1Of (file_of g mid) mid.file.header.fields) (sym l1) (l1-stored well_formed whole))
        (λ well_formed. stores.marked) (λ well_formed. stores.progress);
    leaks = leaks-by g old begun mid space space' caches result there there' stores.rests (handing (run_handed_by n result) (λ c. 0)) (run_handed_by n result)
        (λ c. omega arith) stores.progress;
    top = record {
      l1 = l1;
      entries = ap (λ (K : Header). K.fields.l1_entries) stores.rests.header.2;
      tables = λ known. tables-same (file_of g old.tables) (file_of g mid) old.tables.file.header.fields mid.file.header.fields old.tables.l1
          known.0.seen.l1 (l1-stored known.0 known.1);
    };
    named = stores.named;
    reserved = λ well_formed. reserved-now result (stores.reserved (ready g old begun mid space space' caches result there there' stores.rests well_formed)) stores.held;
    reaches = reaches;
    content = λ well_formed. stores.stored (ready g old begun mid space space' caches result there there' stores.rests well_formed);
    cause = if-err result _ (HasCause (allocation_causes g (LacksFreeRun g n (enough_for_run old.tables n) old.tables mid) old stored_now)) (λ e.
        cause-weaker (storing-allocates g old stored_now (ready g old begun mid space space' caches result there there' stores.rests) (λ number well_formed full. full-in-run g old.tables mid space space' there there' well_formed.searched n number some full)) e) stores.cause;
  }

-- The bytes were stored in `n` clusters, in a single one, or nowhere.
module _ {S : Type 0} (g : Ghosts S) (n : ℕ) (bytes : List ℕ) (old : Qcow2 S g) (some : 0 < n) where
  pub most-stored : (new : Qcow2 S g) (host : ℕ) → StoresContent g n bytes old (Ok host) new
      → StoresMost g n bytes old (Ok (record { host = host; count = n; is_kept = false })) new
  most-stored new host s = record {
    keeps = s.keeps;
    leaks = s.leaks;
    top = s.top;
    unkept = refl;
    many = (some, omega arith);
    named = s.named;
    reserved = s.reserved;
    reaches = s.reaches;
    content = s.content;
    cause = tt;
  }

  most-why : (new : Qcow2 S g) (e : Fault) → (n ≡ 1) ⊎ (full_by (Err e) ≡ false)
      → HasCause (allocation_causes g (LacksFreeRun g n (enough_for_run old.tables n) old.tables new.tables) old new) e
      → HasCause (allocation_causes g (LacksFreeRun g 1 (enough_for_run old.tables n) old.tables new.tables) old new) e
  most-why new e is why = cause-weaker (record {
    before = omega arith;
    after = omega arith;
    damaged = λ wrong. wrong;
    counter = λ wrong. wrong;
    full = absurd;
    limit = λ number at well_formed. elim is [
      | inl one ↦ subst (λ k. LacksFreeRun g k (enough_for_run old.tables n) old.tables new.tables number) one (at.1 well_formed)
      | inr other ↦ absurd (let no = subst (λ (f : Fault). full_by (Err f) ≡ false) at.0 other in cc no)
    ];
  }) e (cause-told _ e why)

  pub most-unstored : (new : Qcow2 S g) (e : Fault) → (n ≡ 1) ⊎ (full_by (Err e) ≡ false) → StoresContent g n bytes old (Err e) new
      → StoresMost g n bytes old (Err e) new
  most-unstored new e is s = record {
    keeps = s.keeps;
    leaks = s.leaks;
    top = s.top;
    unkept = tt;
    many = tt;
    named = tt;
    reserved = λ well_formed. tt;
    reaches = tt;
    content = λ well_formed. tt;
    cause = most-why new e is s.cause;
  }

  -- A failed attempt to allocate `n` clusters came first. It kept the disk.
  module _ (mid new : Qcow2 S g) (number : ℕ) (full : StoresContent g n bytes old (Err (Limit number)) mid) where
    top-then : (ok : Type 0) → KeepsTop g (IsWellFormed g mid × ok) mid new → KeepsTop g (IsWellFormed g old × ok) old new
    top-then ok second = record {
      l1 = second.l1 ∙ full.top.l1;
      entries = second.entries ∙ full.top.entries;
      tables = λ known i. second.tables (full.keeps.safely known.0 tt, known.1) i ∙ full.top.tables (known.0, tt) i;
    }

    pub most-alone : (host : ℕ) → StoresContent g 1 bytes mid (Ok host) new
        → StoresMost g n bytes old (Ok (record { host = host; count = 1; is_kept = false })) new
    most-alone host s = record {
      keeps = keeps-disk-both g ⊤ ⊤ old mid new tt full.keeps s.keeps;
      leaks = λ well_formed whole. leaks-then g (run_handed_by 1 (Ok host)) old mid new (leaks-all g old mid (full.leaks well_formed tt))
          (s.leaks (full.keeps.safely well_formed tt) whole);
      top = top-then ⊤ s.top;
      unkept = refl;
      many = (omega arith, omega (arith, some));
      named = (s.named.0, subst (λ (b : ℕ). IsAddressable b (host + (1 - 1))) full.keeps.bits s.named.1);
      reserved = λ well_formed. s.reserved (full.keeps.safely well_formed tt);
      reaches = subst (λ (b : ℕ). (host + 1) * 2 ^ b ≤ length (g.state new.tables.file.image).bytes) full.keeps.bits s.reaches;
      content = λ well_formed i less. ap (λ (b : ℕ). file_of g new.tables (host * 2 ^ b + i)) (sym full.keeps.bits) ∙ s.content (full.keeps.safely well_formed tt) i less;
      cause = tt;
    }

    known-full : IsWellFormed g old → IsSome mid.tables.space
    known-full well_formed = let lacks = full.cause well_formed in subst IsSome (sym lacks.space_known) refl

    alone-implies : Implies (allocation_causes g (LacksFreeRun g 1 (enough_for_run mid.tables 1) mid.tables new.tables) mid new)
        (allocation_causes g (LacksFreeRun g 1 (enough_for_run old.tables n) old.tables new.tables) old new)
    alone-implies = let same = (full.keeps.faults tt).0 in record {
      before = omega (arith, same);
      after = omega arith;
      damaged = λ wrong known. wrong (full.keeps.safely known.0 tt, known-full known.0);
      counter = λ wrong known. wrong (full.keeps.safely known.0 tt, known-full known.0);
      full = absurd;
      limit = λ another at well_formed.
          let first = full.cause well_formed in
          let second = at (full.keeps.safely well_formed tt) in
          record { crowded = first.crowded; free = second.free; space_known = second.space_known; told = second.told };
    }

    pub most-neither : (e : Fault) → StoresContent g 1 bytes mid (Err e) new → StoresMost g n bytes old (Err e) new
    most-neither e s = record {
      keeps = keeps-disk-both g ⊤ (HadNoResourceError {T = ℕ} (Err e)) old mid new tt full.keeps s.keeps;
      leaks = λ well_formed whole. leaks-then g (λ c. 0) old mid new (leaks-all g old mid (full.leaks well_formed tt)) (s.leaks (full.keeps.safely well_formed tt) whole);
      top = top-then (HadNoResourceError {T = ℕ} (Err e)) s.top;
      unkept = tt;
      many = tt;
      named = tt;
      reserved = λ well_formed. tt;
      reaches = tt;
      content = λ well_formed. tt;
      cause = cause-weaker alone-implies e s.cause;
    }

  -- Cases by the results of both attempts.
  pub most-behind : (mid new : Qcow2 S g) (stored one : Result ℕ Fault) → full_by stored ≡ true → StoresContent g n bytes old stored mid
      → StoresContent g 1 bytes mid one new → StoresMost g n bytes old (placed_by 1 one) new
  most-behind mid new (Err (Limit number)) (Ok host) is s t = most-alone mid new number s host t
  most-behind mid new (Err (Limit number)) (Err e) is s t = most-neither mid new number s e t
  most-behind mid new stored one is s t = absurd (cc is)

  pub most-once : (new : Qcow2 S g) (stored : Result ℕ Fault) → n ≡ 1 → StoresContent g n bytes old stored new → StoresMost g n bytes old (placed_by n stored) new
  most-once new (Ok host) one s = most-stored new host s
  most-once new (Err e) one s = most-unstored new e (inl one) s

  pub most-done : (new : Qcow2 S g) (stored : Result ℕ Fault) → full_by stored ≡ false → StoresContent g n bytes old stored new
      → StoresMost g n bytes old (placed_by n stored) new
  most-done new (Ok host) is s = most-stored new host s
  most-done new (Err e) is s = most-unstored new e (inr is) s

-- Bytes were written to the preallocated zero cluster of a guest cluster.
module _ {S : Type 0} (g : Ghosts S) (old : Qcow2 S g) (begun : Bool) (mid : Tables S g) (space : Space) (caches : MetadataCaches S) (guest host : ℕ)
    (bytes : List ℕ) (result : Result Unit Fault) (there : old.tables.space ≡ Some space) (there' : mid.space ≡ Some space)
    (l1 : mid.l1 ≡ old.tables.l1) (free : old.unspent ≡ None)
    (fills : Fills g.state guest host bytes (clusters_state old.tables.file caches space) result (clusters_state mid.file mid.caches space))
    (reaches : OnOk result (ReachesEnd g.state host 1 old.tables.file mid.file)) where
  abbrev filled_now : Qcow2 S g
  filled_now = record old { tables = mid; failed = failed_by_resource_error result begun old.failed }

  abbrev sure-kept : Type 0
  sure-kept = HasKept g guest (Some host) old

  kept-then : sure-kept → IsKeptFor (rest_of g old.tables space) guest host
  kept-then known = kept-in g guest host old space known

  fill-ready : sure-kept → IsReady g.state (clusters_state old.tables.file caches space)
  fill-ready known = ready g old begun mid space space caches result there there' fills.rests known.well_formed

  l1-filled : sure-kept → HadNoResourceError result → IsL1Of (file_of g mid) mid.file.header.fields old.tables.l1
  l1-filled known whole = fills.l1 (kept-then known) (fill-ready known) (whole-below result whole) old.tables.l1 known.well_formed.seen.l1

  known-now : (r : Result Unit Fault) → OnOk r (IsSome mid.space)
  known-now (Ok v) = subst IsSome (sym there') refl
  known-now (Err e) = tt

  pub filled : FillsContent g guest host bytes old result filled_now
  filled = record {
    keeps = advanced-by g old begun mid space space caches result there there' fills.rests sure-kept (filling old.tables.file.header.fields host)
        (λ known. known.well_formed) (λ p v gave. gave) (λ guest is. is)
        (none-spared g old (LeavesUntouched g (HadNoResourceError result) (filling old.tables.file.header.fields host) old filled_now space space) free)
        (λ known whole. subst (IsL1Of (file_of g mid) mid.file.header.fields) (sym l1) (l1-filled known whole))
        (λ known. fills.marked (kept-then known)) (λ known. fills.progress (kept-then known));
    leaks = λ known whole. leaks-all g old filled_now (leaks-by g old begun mid space space caches result there there' fills.rests
        (filling old.tables.file.header.fields host) (λ c. 0) (λ c. refl) (fills.progress (kept-then known)) known.well_formed whole);
    top = record {
      l1 = l1;
      entries = ap (λ (K : Header). K.fields.l1_entries) fills.header;
      tables = λ known. tables-same (file_of g old.tables) (file_of g mid) old.tables.file.header.fields mid.file.header.fields old.tables.l1
          known.0.well_formed.seen.l1 (l1-filled known.0 known.1);
    };
    space = there' ∙ sym there;
    known = known-now result;
    reaches = reaches;
    content = λ known. fills.stored known.well_formed.keeps;
    cause = if-err result _ (HasCause (filling_causes g old filled_now)) (λ e. storage-cause _ _ _ (omega arith) (omega arith) e) fills.cause;
  }

-- The data was put in a preallocated zero cluster, in new clusters, or nowhere.
module _ {S : Type 0} (g : Ghosts S) (guest : ℕ) (bytes : List ℕ) (old new : Qcow2 S g) where
  own-kept : (host : ℕ) → FillsContent g guest host bytes old (Ok tt) new → HasKept g guest (Some host) old
      → (space : Space) × (new.tables.space ≡ Some space) × (host ≢ 0) × IsOwnAs true (rest_of g new.tables space) guest host
      × (true ≡ false → 0 < space.to_free.held)
  own-kept host f known = from new.tables.space refl f.known where
    from : (o : Option Space) → new.tables.space ≡ o → IsSome o → (space : Space) × (new.tables.space ≡ Some space) × (host ≢ 0)
        × IsOwnAs true (rest_of g new.tables space) guest host × (true ≡ false → 0 < space.to_free.held)
    from None is some = absurd (cc some)
    from (Some space) is some =
        let well_formed = f.keeps.safely known tt in
        let own : IsKeptFor (rest_of g new.tables space) guest host = kept-at-rest g new.tables space guest host
        (f.keeps.raw_entries known tt guest ∙ kept-is _ host known.is) in
        let hidden = kept-hidden (rest_of g new.tables space) guest host (safe-sound g new space is well_formed) own in
        (space, is, apart-some (file_of g new.tables) new.tables.file.header.fields host hidden.0.apart, own, λ bad. absurd (cc bad))

  pub placed-kept : (host n : ℕ) → 0 < n → IsAddressable old.tables.file.header.fields.cluster_bits host → FillsContent g guest host bytes old (Ok tt) new
      → PlacesContent g guest (Some host) n bytes old (Ok (record { host = host; count = 1; is_kept = true })) new
  placed-kept host n some near f = record {
    keeps = f.keeps;
    leaks = λ known whole. leaks-but g old new (f.leaks known whole);
    top = f.top;
    many = (omega arith, omega (arith, some));
    host_addressable = subst (IsAddressable old.tables.file.header.fields.cluster_bits) (let same : host ≡ host + (1 - 1) = omega arith in same) near;
    which = (refl, (refl, f.space));
    own = λ known.
        let one = own-kept host f known in
        let first : (d : ℕ) → d < 1 → IsOwnAs true (rest_of g new.tables one.0) (guest + d) (host + d) = λ d less.
        let none : 0 ≡ d = omega (arith, less) in
        subst (λ i. IsOwnAs true (rest_of g new.tables one.0) (guest + i) (host + i)) none
        (subst (λ i. IsOwnAs true (rest_of g new.tables one.0) i (host + 0)) (let same : guest ≡ guest + 0 = omega arith in same)
        (subst (λ i. IsOwnAs true (rest_of g new.tables one.0) guest i) (let same : host ≡ host + 0 = omega arith in same) one.3)) in
        (one.0, one.1, one.2, first, one.4);
    reaches = f.reaches;
    content = f.content;
    cause = tt;
  }

  -- If the guest cluster has a preallocated zero cluster, no free one is searched for.
  abbrev lacks-beside : ℕ → Option ℕ → ℕ → Type 0
  lacks-beside n kept number = (kept ≡ None) × LacksFreeRun g 1 (enough_for_run old.tables n) old.tables new.tables number

  pub unfilled : (host n : ℕ) (e : Fault) → FillsContent g guest host bytes old (Err e) new → PlacesContent g guest (Some host) n bytes old (Err e) new
  unfilled host n e f = record {
    keeps = f.keeps;
    leaks = λ known whole. leaks-but g old new (f.leaks known whole);
    top = f.top;
    many = tt;
    host_addressable = tt;
    which = tt;
    own = λ known. tt;
    reaches = tt;
    content = λ known. tt;
    cause = cause-weaker (writing-implies _ (omega arith) (omega arith) (λ wrong. wrong)) e f.cause;
  }

  -- Clusters are allocated if the guest cluster has no preallocated one.
  keeps-none : (ok : Type 0) → KeepsDisk g ok old new → KeepsDiskWhere g (HasKept g guest None old) ok old new
  keeps-none ok k = record {
    mode = k.mode;
    number = k.number;
    unspent = k.unspent;
    shape = k.shape;
    counts_not_fallen = k.counts_not_fallen;
    failed = k.failed;
    size = k.size;
    bits = k.bits;
    version = k.version;
    format = k.format;
    faults = k.faults;
    crash_images = λ known. k.crash_images known.well_formed;
    safely = λ known. k.safely known.well_formed;
    layer = λ known. k.layer known.well_formed;
    raw_entries = λ known. k.raw_entries known.well_formed;
    values = λ known. k.values known.well_formed;
  }

  top-none : (ok : Type 0) → KeepsTop g (IsWellFormed g old × ok) old new → KeepsTop g (HasKept g guest None old × ok) old new
  top-none ok k = record { l1 = k.l1; entries = k.entries; tables = λ known. k.tables (known.0.well_formed, known.1) }

  own-free : (m : Metadata) (host n : ℕ) → AreReserved n m host → AreOwnAs false n m guest host
  own-free m host n reserved = λ d less. reserved (host + d) (omega arith) (omega (arith, less))

  pub placed-free : (n : ℕ) (result : Result Placed Fault) → StoresMost g n bytes old result new → PlacesContent g guest None n bytes old result new
  placed-free n (Ok r) s = record {
    keeps = keeps-none ⊤ s.keeps;
    leaks = λ known whole. s.leaks known.well_formed whole;
    top = top-none ⊤ s.top;
    many = s.many;
    host_addressable = s.named.1;
    which = (s.unkept, tt);
    own = λ known.
        let there = s.reserved known.well_formed in
        let own = own-free (rest_of g new.tables there.0) r.host r.count there.2 in
        (there.0, there.1, s.named.0, subst (λ is. AreOwnAs is r.count (rest_of g new.tables there.0) guest r.host) (sym s.unkept) own, λ is. there.3);
    reaches = s.reaches;
    content = λ known. s.content known.well_formed;
    cause = tt;
  }
  placed-free n (Err e) s = record {
    keeps = keeps-none (HadNoResourceError {T = Placed} (Err e)) s.keeps;
    leaks = λ known whole. s.leaks known.well_formed whole;
    top = top-none (HadNoResourceError {T = Placed} (Err e)) s.top;
    many = tt;
    host_addressable = tt;
    which = tt;
    own = λ known. tt;
    reaches = tt;
    content = λ known. tt;
    cause = cause-weaker (full-implies g old new (λ number well_formed full. (refl, full))) e s.cause;
  }

-- In a well-formed image the L1 table in memory is the file's, and an L2 table that it references is a table.
module _ {S : Type 0} (g : Ghosts S) (old : Qcow2 S g) (space : Space) (caches : MetadataCaches S) (guest i : ℕ)
    (index : i ≡ guest / entries_of_cluster old.tables.file.header.fields) (inside : i < length old.tables.l1.raw_entries) where
  abbrev top_h : Fields
  top_h = old.tables.file.header.fields

  top-safe : IsWellFormed g old → IsTopRawEntry g.state old.tables.l1 i (clusters_state old.tables.file caches space)
  top-safe well_formed = record {
    l1 = well_formed.seen.l1;
    inside = omega (arith, inside, top-long (file_of g old.tables) top_h old.tables.l1 well_formed.seen.l1);
  }

  pub tableless : place_of_table old.tables.l1.raw_entries top_h.cluster_bits guest ≡ None → IsWellFormed g old
      → IsTableless g.state old.tables.l1 i (clusters_state old.tables.file caches space)
  tableless none well_formed = record {
    top_word = top-safe well_formed;
    none = ap (l2_table (file_of g old.tables) top_h) index ∙ table-none (file_of g old.tables) top_h old.tables.l1 well_formed.seen.l1 guest none;
  }

  pub has-table : (table : ℕ) → place_of_table old.tables.l1.raw_entries top_h.cluster_bits guest ≡ Some table → IsWellFormed g old
      → HasTable g.state old.tables.l1 i (clusters_state old.tables.file caches space)
  has-table table named well_formed = record {
    top_word = top-safe well_formed;
    table_exists = λ none.
        let over = table-over (file_of g old.tables) top_h old.tables.l1 well_formed.seen.l1 guest table named in
        place-there (cluster_size top_h) table (pow_pos top_h.cluster_bits) over.0
        (sym over.2 ∙ ap (l2_table (file_of g old.tables) top_h) (sym index) ∙ none);
  }

-- A new L2 table was linked.
module _ {S : Type 0} (g : Ghosts S) (old : Qcow2 S g) (begun : Bool) (mid : Tables S g) (space space' : Space) (caches : MetadataCaches S) (guest i : ℕ)
    (result : Result ℕ Fault) (asked : Type 0) (handed taken : ℕ → ℕ) (even : (c : ℕ) → handed c ≡ taken c + 0) (there : old.tables.space ≡ Some space)
    (there' : mid.space ≡ Some space') (free : old.unspent ≡ None)
    (index : i ≡ guest / entries_of_cluster old.tables.file.header.fields) (inside : i < length old.tables.l1.raw_entries)
    (lacks : IsWellFormed g old → LacksTable g guest old.tables) (as-asked : IsWellFormed g old → asked)
    (names : NamesNewTable g.state asked (handing handed taken) i (clusters_state old.tables.file caches space) result mid.l1
    (clusters_state mid.file mid.caches space')) where
  abbrev made_now : Qcow2 S g
  made_now = record old { tables = mid; failed = failed_by_resource_error result begun old.failed }

  abbrev was : Fields
  was = old.tables.file.header.fields

  abbrev is : Fields
  is = mid.file.header.fields

  is-ready : IsWellFormed g old → IsReady g.state (clusters_state old.tables.file caches space)
  is-ready = ready g old begun mid space space' caches result there there' names.rests

  row-same : i ≡ guest / entries_of_cluster is
  row-same = subst (λ (K : Header). i ≡ guest / entries_of_cluster K.fields) (sym names.rests.header.2) index

  there-now : IsWellFormed g old → (r : Result ℕ Fault)
      → IfOk r (λ t. (t ≢ 0) × (l2_table (file_of g mid) was i ≡ t * cluster_size was))
      → IfOk r (λ t. (t ≢ 0) × (guest / entries_of_cluster is < is.l1_entries)
      × (l2_table (file_of g mid) is (guest / entries_of_cluster is) ≡ t * cluster_size is))
  there-now well_formed (Ok t) at = (
    at.0,
    subst (λ n. n < is.l1_entries) row-same (subst (λ (K : Header). i < K.fields.l1_entries) (sym names.rests.header.2)
        (omega (arith, inside, top-long (file_of g old.tables) was old.tables.l1 well_formed.seen.l1))),
    ap (l2_table (file_of g mid) is) (sym row-same)
        ∙ subst (λ (K : Header). l2_table (file_of g mid) K.fields i ≡ t * cluster_size K.fields) (sym names.rests.header.2) at.1,
  )
  there-now well_formed (Err fault) at = tt

  copied-now : (r : Result ℕ Fault) → IfOk r (λ t. is_copied (raw_entry (file_of g mid) was.l1_offset i) ≡ true)
      → IfOk r (λ t. is_copied (raw_entry (file_of g mid) is.l1_offset (guest / entries_of_cluster is)) ≡ true)
  copied-now (Ok t) marked =
      ap (λ n. is_copied (raw_entry (file_of g mid) is.l1_offset n)) (sym row-same)
      ∙ subst (λ (K : Header). is_copied (raw_entry (file_of g mid) K.fields.l1_offset i) ≡ true) (sym names.rests.header.2) marked
  copied-now (Err fault) marked = tt

  row-inside : IsWellFormed g old → guest / entries_of_cluster was < was.l1_entries
  row-inside well_formed = let long = top-long (file_of g old.tables) was old.tables.l1 well_formed.seen.l1 in omega (arith, inside, index, long)

  -- The L1 table keeps its length.
  long-now : (r : Result ℕ Fault) → result ≡ r → IsWellFormed g old
      → OnOk r (length mid.l1.raw_entries ≡ max (length old.tables.l1.raw_entries) (guest / entries_of_cluster was + 1))
  long-now (Ok t) same well_formed =
      let whole : going.HadNoResourceError result = subst (λ (r : Result ℕ Fault). going.HadNoResourceError r) (sym same) tt in
      let of = names.l1 (is-ready well_formed) (as-asked well_formed) whole in
      let new = top-long (file_of g mid) was mid.l1 of in
      let long = top-long (file_of g old.tables) was old.tables.l1 well_formed.seen.l1 in
      let row = row-inside well_formed in
      omega (arith, new, long, row)
  long-now (Err fault) same well_formed = tt

  -- If no table could be made, no free run was long enough.
  no-place : (number : ℕ) → IsWellFormed g old
      → room.IsFull 1 (rest_of g old.tables space) (first_free_of space.allocator) (rest_of g mid space') (first_free_of space'.allocator) number
      → HasNoPlace g (IsForTable g guest old.tables) (guest / entries_of_cluster was) (enough_for_one old.tables) old.tables mid number
  no-place number well_formed full = (
    1,
    inr (lacks well_formed, refl),
    inr (
      safe-short g old (guest / entries_of_cluster was) well_formed (row-inside well_formed),
      full-in-run g old.tables mid space space' there there' well_formed.searched 1 number (omega arith) full,
    ),
  )

  pub made : EnsuresTable g (enough_for_one old.tables) guest old result made_now
  made = record {
    keeps = advanced g old begun mid space space' caches result there there' names.rests handed taken
        (none-spared g old (LeavesUntouched g (HadNoResourceError result) (handing handed taken) old made_now space space') free)
        (λ well_formed whole. l1-moved (file_of g mid) old.tables.file.header mid.file.header mid.l1 names.rests.header
        (names.l1 (is-ready well_formed) (as-asked well_formed) (whole-below result whole)))
        (λ well_formed. names.marked (as-asked well_formed)) (λ well_formed. names.progress (as-asked well_formed));
    leaks = λ well_formed whole. leaks-all g old made_now (leaks-by g old begun mid space space' caches result there there' names.rests (handing handed taken) (λ c. 0)
        even (names.progress (as-asked well_formed)) well_formed whole);
    known = λ was. subst IsSome (sym there') refl;
    table_linked = λ well_formed some. there-now well_formed result (names.table_linked (is-ready well_formed) (as-asked well_formed));
    own = λ well_formed some. copied-now result (names.copied (is-ready well_formed) (as-asked well_formed));
    long = long-now result refl;
    leaves = λ well_formed. on-ok result _ (LeavesFree g (enough_for_one old.tables) old.tables mid)
        (leaves-in-run g old.tables mid space space' there there' well_formed.searched (enough_for_one old.tables)) (names.leaves (is-ready well_formed) (as-asked well_formed));
    cause = if-err result _ (HasCause (allocation_causes g
        (HasNoPlace g (IsForTable g guest old.tables) (guest / entries_of_cluster was) (enough_for_one old.tables) old.tables mid)
        old made_now)) (λ e.
        cause-weaker (storing-allocates g old made_now (λ well_formed. (is-ready well_formed, as-asked well_formed)) no-place) e) names.cause;
  }

-- The new table is a copy of the old one, or an empty table.
module _ {S : Type 0} (g : Ghosts S) (old : Qcow2 S g) (begun : Bool) (mid : Tables S g) (space space' : Space) (caches : MetadataCaches S) (guest i : ℕ)
    (result : Result ℕ Fault) (there : old.tables.space ≡ Some space) (there' : mid.space ≡ Some space') (free : old.unspent ≡ None)
    (index : i ≡ guest / entries_of_cluster old.tables.file.header.fields) (inside : i < length old.tables.l1.raw_entries) where
  abbrev before : Clusters S
  before = clusters_state old.tables.file caches space

  abbrev after : Clusters S
  after = clusters_state mid.file mid.caches space'

  abbrev taken_by : ℕ → ℕ
  taken_by c = handed_by result c + replaced_table (flushed_metadata g.state before) i result c

  lacks-shared : is_copied (slice_index old.tables.l1.raw_entries (guest / entries_of_cluster old.tables.file.header.fields)) ≡ false → IsWellFormed g old
      → LacksTable g guest old.tables
  lacks-shared shared well_formed = lacks-in-file (file_of g old.tables) old.tables.file.header.fields old.tables.l1 well_formed.seen.l1
      (guest / entries_of_cluster old.tables.file.header.fields) (inr shared)

  pub renewed : (named : Option ℕ) → place_of_table old.tables.l1.raw_entries old.tables.file.header.fields.cluster_bits guest ≡ named
      → ((table : ℕ) → named ≡ Some table
      → is_copied (slice_index old.tables.l1.raw_entries (guest / entries_of_cluster old.tables.file.header.fields)) ≡ false)
      → (is_some named ≡ true → CopiesTable g.state old.tables.l1 i before result mid.l1 after)
      → (is_some named ≡ false → MakesTable g.state old.tables.l1 i before result mid.l1 after)
      → EnsuresTable g (enough_for_one old.tables) guest old result (record old { tables = mid; failed = failed_by_resource_error result begun old.failed })
  renewed None is shared copies makes =
      made g old begun mid space space' caches guest i result (IsTableless g.state old.tables.l1 i before) (handed_by result) (handed_by result)
      (λ c. omega arith)
      there there' free index inside
      (λ well_formed. inl (table-none (file_of g old.tables) old.tables.file.header.fields old.tables.l1 well_formed.seen.l1 guest is))
      (tableless g old space caches guest i index inside is) (makes refl).named
  renewed (Some table) is shared copies makes =
      made g old begun mid space space' caches guest i result (HasTable g.state old.tables.l1 i before) taken_by taken_by (λ c. omega arith)
      there there' free index inside (lacks-shared (shared table refl))
      (has-table g old space caches guest i index inside table is) (copies refl).named

-- The guest cluster has a table that nothing else references.
module _ {S : Type 0} (g : Ghosts S) (d : Qcow2 S g) (guest table : ℕ)
    (named : place_of_table d.tables.l1.raw_entries d.tables.file.header.fields.cluster_bits guest ≡ Some table)
    (marked : is_copied (slice_index d.tables.l1.raw_entries (guest / entries_of_cluster d.tables.file.header.fields)) ≡ true) where
  abbrev own_h : Fields
  own_h = d.tables.file.header.fields

  over : IsWellFormed g d → (table ≢ 0) × (guest / entries_of_cluster own_h < own_h.l1_entries)
      × (l2_table (file_of g d.tables) own_h (guest / entries_of_cluster own_h) ≡ table * cluster_size own_h)
  over well_formed = table-over (file_of g d.tables) own_h d.tables.l1 well_formed.seen.l1 guest table named

  pub table-there : EnsuresTable g (enough_for_one d.tables) guest d (Ok table) d
  table-there = record {
    keeps = keeps-disk-same g ⊤ d;
    leaks = λ well_formed whole c. refl;
    known = λ some. some;
    table_linked = λ well_formed some. over well_formed;
    own = λ well_formed some.
        ap is_copied (sym (top-word (file_of g d.tables) own_h d.tables.l1 well_formed.seen.l1 (guest / entries_of_cluster own_h) (over well_formed).1)) ∙ marked;
    long = λ well_formed.
        let row = (over well_formed).1 in
        let long = top-long (file_of g d.tables) own_h d.tables.l1 well_formed.seen.l1 in
        omega (arith, row, long);
    leaves = λ well_formed. leaves-more g 0 (enough_for_one d.tables) d.tables d.tables (omega arith) (leaves-none g d.tables);
    cause = tt;
  }

pub none-waits : (o : Option Space) → o ≡ None → waits_in o ≡ true → ⊥
none-waits None none waits = absurd (cc waits)
none-waits (Some space) none waits = absurd (cc none)

pub idle-waits : (o : Option Space) → IfSome o (λ space. space.to_free.entries ≡ []) → waits_in o ≡ false
idle-waits None idle = refl
idle-waits (Some space) idle = rw idle refl

emptied-waits : (result : Result Unit Fault) (o : Option Space) (space : Space) → o ≡ Some space → OnOk result (space.to_free.entries ≡ [])
    → OnOk result (waits_in o ≡ false)
emptied-waits (Ok done) o space there empty = ap waits_in there ∙ idle-waits (Some space) empty
emptied-waits (Err fault) o space there empty = tt

if-each : {A : Type 0} (o : Option A) (P : A → Type 0) → ((a : A) → P a) → IfSome o P
if-each None P each = tt
if-each (Some a) P each = each a

pub none-freed : {S : Type 0} (g : Ghosts S) (d : Qcow2 S g) → waits_in d.tables.space ≡ false → FreesPending g d (Ok tt) d
none-freed g d none = record { keeps = keeps-disk-same g ⊤ d; leaks = λ well_formed whole c. refl; marks_failed = refl; no_shorter = omega arith; idle = λ untouched. (refl, refl); emptied = none; header = refl; cause = tt }

-- The free list was emptied.
module _ {S : Type 0} (g : Ghosts S) (old : Qcow2 S g) (mid : Tables S g) (space space' : Space) (caches : MetadataCaches S)
    (result : Result Unit Fault) (there : old.tables.space ≡ Some space) (there' : mid.space ≡ Some space') (l1 : mid.l1 ≡ old.tables.l1)
    (waits : waits_in old.tables.space ≡ true)
    (frees : FreesPendingClusters g.state (clusters_state old.tables.file caches space) result (clusters_state mid.file mid.caches space')) where
  abbrev freed_now : Qcow2 S g
  freed_now = record old { tables = mid; failed = failed_by_resource_error result true old.failed }

  freed-ready : IsWellFormed g old → IsReady g.state (clusters_state old.tables.file caches space)
  freed-ready = ready g old true mid space space' caches result there there' frees.rests

  l1-freed : IsWellFormed g old → HadNoResourceError result → IsL1Of (file_of g mid) mid.file.header.fields old.tables.l1
  l1-freed well_formed whole = frees.l1 (freed-ready well_formed) (whole-below result whole) old.tables.l1 well_formed.seen.l1

  spares-each : (hold : PreparedMappingRun) → LeavesUntouched g (HadNoResourceError result) (handing (λ c. 0) (λ c. 0)) old freed_now space space' hold
  spares-each hold = record {
    left_untouched = λ d less. refl;
    unwritten = λ q none. none;
    room = λ some. omega (arith, some, frees.held);
    entries = ap (λ (K : Header). K.fields.l1_entries) frees.rests.header.2;
    tables = λ well_formed whole. tables-same (file_of g old.tables) (file_of g mid) old.tables.file.header.fields mid.file.header.fields old.tables.l1
        well_formed.seen.l1 (l1-freed well_formed whole);
  }

  pub freed : FreesPending g old result freed_now
  freed = record {
    keeps = advanced g old true mid space space' caches result there there' frees.rests (λ c. 0) (λ c. 0)
        (if-each (holding_in g old.unspent) (LeavesUntouched g (HadNoResourceError result) (handing (λ c. 0) (λ c. 0)) old freed_now space space') spares-each)
        (λ well_formed whole. subst (IsL1Of (file_of g mid) mid.file.header.fields) (sym l1) (l1-freed well_formed whole))
        (λ well_formed. frees.marked) (λ well_formed. frees.progress);
    leaks = λ well_formed whole. leaks-all g old freed_now (leaks-by g old true mid space space' caches result there there' frees.rests
        (handing (λ c. 0) (λ c. 0)) (λ c. 0) (λ c. refl) frees.progress well_formed whole);
    marks_failed = refl;
    no_shorter = frees.no_shorter;
    idle = λ untouched. absurd (cc (sym (idle-waits old.tables.space untouched.1) ∙ waits));
    emptied = emptied-waits result mid.space space' there' frees.emptied;
    header = frees.header;
    cause = if-err result _ (HasCause (pending_causes g old freed_now))
        (λ e. cause-weaker (record {
          before = omega arith;
          after = omega arith;
          damaged = λ wrong well_formed. wrong (freed-ready well_formed);
          counter = λ wrong well_formed. wrong (freed-ready well_formed);
          full = absurd;
          limit = λ number. absurd;
        }) e) frees.cause;
  }

-- The L1 table was lengthened.
module _ {S : Type 0} (g : Ghosts S) (old : Qcow2 S g) (begun : Bool) (mid : Tables S g) (space space' : Space) (caches : MetadataCaches S) (i : ℕ)
    (there : old.tables.space ≡ Some space) (there' : mid.space ≡ Some space') (free : old.unspent ≡ None) where
  abbrev with_l1 : Result Unit Fault → Qcow2 S g
  with_l1 result = record old { tables = mid; failed = failed_by_resource_error result begun old.failed }

  abbrev Longer : Result Unit Fault → Type 0
  Longer result = LengthensL1 g.state old.tables.l1 i (clusters_state old.tables.file caches space) result mid.l1 (clusters_state mid.file mid.caches space')

  longer-ready : IsWellFormed g old → IsReady g.state (clusters_state old.tables.file caches space)
  longer-ready well_formed = record { keeps = well_formed.keeps; sound = safe-sound g old space there well_formed }

  longer-keeps : (result : Result Unit Fault) (handed taken : ℕ → ℕ) → Longer result
      → (IsWellFormed g old → Progresses (going.HadNoResourceError result) (handing handed taken) (g.state old.tables.file.image)
      (rest_of g old.tables space) (g.state mid.file.image) (rest_of g mid space'))
      → KeepsDisk g (HadNoResourceError result) old (with_l1 result)
  longer-keeps result handed taken longer progress = progress-keeps g (IsWellFormed g old) (HadNoResourceError result) (handing handed taken) old (with_l1 result) (record {
    well_formed = λ well_formed. well_formed;
    none = λ p v gave. gave;
    unset = λ guest is. is;
    space = space;
    space' = space';
    there = there;
    there' = there';
    mode = refl;
    number = refl;
    unspent = refl;
    untouched_unless_begun = none-spared g old (LeavesUntouched g (HadNoResourceError result) (handing handed taken) old (with_l1 result) space space') free;
    shape = longer.shape;
    counts_not_fallen = longer.counts_not_fallen;
    header = longer.header;
    failed = still-cut result begun old.failed;
    whole = whole-cut result begun old.failed;
    faults = λ whole. longer.faults (whole-below result whole);
    empty = longer.empty;
    l1 = λ well_formed whole. longer.l1 (longer-ready well_formed) well_formed.seen.l1 (whole-below result whole);
    marked = λ well_formed whole. longer.marked well_formed.seen.l1 (longer-ready well_formed) (whole-below result whole);
    progress = λ well_formed. progresses-as (going.HadNoResourceError result) (HadNoResourceError result) (handing handed taken) (g.state old.tables.file.image)
        (g.state mid.file.image) (rest_of g old.tables space) (rest_of g mid space') (whole-below result) (progress well_formed);
  })

  longer-leaks : (result : Result Unit Fault) (handed : ℕ → ℕ)
      → Progresses (going.HadNoResourceError result) (handing handed handed) (g.state old.tables.file.image) (rest_of g old.tables space)
      (g.state mid.file.image) (rest_of g mid space') → IsWellFormed g old → HadNoResourceError result → KeepsLeaks g old (with_l1 result)
  longer-leaks result handed progress well_formed whole = leaks-all g old (with_l1 result) (advanced-leaks g old (with_l1 result) space space' there there'
      (going.HadNoResourceError result) (handing handed handed) (λ c. 0) refl (λ c. omega arith) progress well_formed (whole-below result whole))

  abbrev both_tables : ℕ → ℕ
  both_tables d = old_l1 (rest_of g old.tables space) d + old_l1 (rest_of g mid space') d

  no-room : (number : ℕ) → IsWellFormed g old → IsTooLong g.state old.tables.l1 i (clusters_state old.tables.file caches space) (clusters_state mid.file mid.caches space') number
      → HasNoPlace g (λ n. n ≡ l1_clusters old.tables.file.header.fields old.tables.l1 i) i (enough_for_entry old.tables i) old.tables mid number
  no-room number well_formed (inl far) = (l1_clusters old.tables.file.header.fields old.tables.l1 i, refl, inl far)
  no-room number well_formed (inr (near, full)) = (
    l1_clusters old.tables.file.header.fields old.tables.l1 i,
    refl,
    inr (
      near,
      full-in-run g old.tables mid space space' there there' well_formed.searched (l1_clusters old.tables.file.header.fields old.tables.l1 i) number
          (some-taken old.tables.file.header.fields (max (length old.tables.l1.raw_entries) (i + 1))
          (let more = le-max_right (length old.tables.l1.raw_entries) (i + 1) in omega (arith, more))) full,
    ),
  )

  pub lengthened : (result : Result Unit Fault) → Longer result → MovesL1 g i old result (with_l1 result)
  lengthened (Ok done) longer = record {
    keeps = longer-keeps (Ok done) both_tables both_tables longer (λ well_formed. longer.progress well_formed.seen.l1);
    leaks = λ well_formed. longer-leaks (Ok done) both_tables (longer.progress well_formed.seen.l1) well_formed;
    known = λ was. subst IsSome (sym there') refl;
    header = longer.header;
    long = longer.long;
    raw_entries = longer.raw_entries;
    leaves = λ well_formed. leaves-in-run g old.tables mid space space' there there' well_formed.searched (enough_for_entry old.tables i)
        (longer.leaves (longer-ready well_formed) well_formed.seen.l1).1;
    cause = tt;
  }
  lengthened (Err fault) longer = record {
    keeps = longer-keeps (Err fault) (λ _. 0) (λ _. 0) longer (λ well_formed. longer.progress well_formed.seen.l1);
    leaks = λ well_formed. longer-leaks (Err fault) (λ _. 0) (longer.progress well_formed.seen.l1) well_formed;
    known = λ was. subst IsSome (sym there') refl;
    header = tt;
    long = tt;
    raw_entries = tt;
    leaves = λ well_formed. tt;
    cause = cause-weaker (storing-allocates g old (with_l1 (Err fault)) (λ well_formed. (longer-ready well_formed, well_formed.seen.l1)) no-room) fault longer.cause;
  }

-- An L1 table that has no entry at index `i` gets one when it is moved.
module _ {S : Type 0} (g : Ghosts S) (i : ℕ) (old new : Qcow2 S g) (behind : length old.tables.l1.raw_entries ≤ i) where
  word-there : new.tables.l1.raw_entries ≡ padded old.tables.l1.raw_entries (max (length old.tables.l1.raw_entries) (i + 1))
      → i < length new.tables.l1.raw_entries
  word-there is =
      let ws = old.tables.l1.raw_entries in
      let more = le-max_right (length ws) (i + 1) in
      let all : length new.tables.l1.raw_entries ≡ max (length ws) (i + 1) = ap length is ∙ padded-long ws (max (length ws) (i + 1)) (le-max_left (length ws) (i + 1)) in
      omega (arith, more, all)

  for-word : IsWellFormed g old → (n : ℕ) → n ≡ l1_clusters old.tables.file.header.fields old.tables.l1 i → IsForRawEntry g i old.tables n
  for-word well_formed n is =
      let long = top-long (file_of g old.tables) old.tables.file.header.fields old.tables.l1 well_formed.seen.l1 in
      let all : max (length old.tables.l1.raw_entries) (i + 1) ≡ i + 1 = omega (arith, behind) in
      (omega (arith, long, behind), is ∙ ap (clusters_for old.tables.file.header.fields) all)

  no-word : Implies (allocation_causes g (HasNoPlace g (λ n. n ≡ l1_clusters old.tables.file.header.fields old.tables.l1 i) i (enough_for_entry old.tables i)
      old.tables new.tables) old new)
      (allocation_causes g (HasNoPlace g (IsForRawEntry g i old.tables) i (enough_for_entry old.tables i) old.tables new.tables) old new)
  no-word = record {
    before = omega arith;
    after = omega arith;
    damaged = λ wrong is. wrong is;
    counter = λ wrong is. wrong is;
    full = absurd;
    limit = λ number at well_formed. let told = at well_formed in (told.0, for-word well_formed told.0 told.1, told.2);
  }

  pub moved-ensures : (result : Result Unit Fault) → MovesL1 g i old result new → EnsuresEntry g i old result new
  moved-ensures (Ok done) moves = record {
    keeps = moves.keeps;
    leaks = moves.leaks;
    known = moves.known;
    inside = word-there moves.raw_entries;
    raw_entries = moves.raw_entries;
    leaves = moves.leaves;
    cause = tt;
  }
  moved-ensures (Err fault) moves = record {
    keeps = moves.keeps;
    leaks = moves.leaks;
    known = moves.known;
    inside = tt;
    raw_entries = tt;
    leaves = moves.leaves;
    cause = cause-weaker no-word fault moves.cause;
  }

-- The guest cluster gets a table of its own after its L1 entry exists.
module _ {S : Type 0} (g : Ghosts S) (guest i : ℕ) (old mid new : Qcow2 S g) (index : i ≡ guest / entries_of_cluster old.tables.file.header.fields)
    (raw_entry : EnsuresEntry g i old (Ok tt) mid) where
  table-behind : {full full' : ℕ → Type 0} → ((number : ℕ) → IsWellFormed g old → full number → full' number) → Implies (allocation_causes g full mid new) (allocation_causes g full' old new)
  table-behind told = let same = (raw_entry.keeps.faults tt).0 in record {
    before = omega (arith, same);
    after = omega arith;
    damaged = λ wrong is. wrong (raw_entry.keeps.safely is.0 tt, raw_entry.known is.1);
    counter = λ wrong is. wrong (raw_entry.keeps.safely is.0 tt, raw_entry.known is.1);
    full = absurd;
    limit = λ number at well_formed. told number well_formed (at (raw_entry.keeps.safely well_formed tt));
  }

  row-still : guest / entries_of_cluster mid.tables.file.header.fields ≡ guest / entries_of_cluster old.tables.file.header.fields
  row-still = ap (λ b. guest / (2 ^ b / 8)) raw_entry.keeps.bits

  leaves-word : IsWellFormed g old → LeavesFree g (enough_for_entry old.tables (guest / entries_of_cluster old.tables.file.header.fields)) old.tables mid.tables
  leaves-word well_formed = subst (λ k. LeavesFree g (enough_for_entry old.tables k) old.tables mid.tables) index (raw_entry.leaves well_formed)

  one-still : IsWellFormed g old → enough_for_one mid.tables ≡ enough_for_one old.tables
  one-still well_formed = ap (λ n. n / 16 + 3 * 1) (raw_entry.leaves well_formed).as_large

  -- A table that is missing after that was missing before.
  lacks-before : IsWellFormed g old → LacksTable g guest mid.tables → LacksTable g guest old.tables
  lacks-before well_formed = lacks-as-words g guest old.tables mid.tables well_formed.seen.l1 (raw_entry.keeps.safely well_formed tt).seen.l1 row-still
      (λ k. ap (λ (ws : List ℕ). slice_index ws k) raw_entry.raw_entries ∙ padded_at old.tables.l1.raw_entries (max (length old.tables.l1.raw_entries) (i + 1)) k)

  asked-before : (asked : ℕ) → IsWellFormed g old → IsForTable g guest mid.tables asked → IsForTable g guest old.tables asked
  asked-before asked well_formed (inl missing) =
      let long = top-long (file_of g mid.tables) mid.tables.file.header.fields mid.tables.l1 (raw_entry.keeps.safely well_formed tt).seen.l1 in
      let inside = raw_entry.inside in
      let behind = missing.0 in
      let row = row-still in
      absurd (omega (arith, long, inside, behind, row, index))
  asked-before asked well_formed (inr table) = inr (lacks-before well_formed table.0, table.1)

  no-place-behind : (number : ℕ) → IsWellFormed g old
      → HasNoPlace g (IsForTable g guest mid.tables) (guest / entries_of_cluster mid.tables.file.header.fields) (enough_for_one mid.tables)
      mid.tables new.tables number
      → HasNoPlace g (IsForTable g guest old.tables) (guest / entries_of_cluster old.tables.file.header.fields)
      (enough_for_table old.tables guest) old.tables new.tables number
  no-place-behind number well_formed (asked, what, inl far) = (
    asked,
    asked-before asked well_formed what,
    inl (subst (λ k. (2 ^ 22 < k + 1) × (number ≡ min (k + 1) (2 ^ 64 - 1))) row-still far),
  )
  no-place-behind number well_formed (asked, what, inr (near, full)) = (
    asked,
    asked-before asked well_formed what,
    inr (
      subst (λ k. k + 1 ≤ 2 ^ 22) row-still near,
      full-behind g asked (enough_for_entry old.tables (guest / entries_of_cluster old.tables.file.header.fields)) (enough_for_one old.tables) number
          old.tables mid.tables new.tables (some-enough old.tables) (leaves-word well_formed)
          (subst (λ n. LacksFreeRun g asked n mid.tables new.tables number) (one-still well_formed) full),
    ),
  )

  long-behind : (r : Result ℕ Fault)
      → OnOk r (length new.tables.l1.raw_entries ≡ max (length mid.tables.l1.raw_entries) (guest / entries_of_cluster mid.tables.file.header.fields + 1))
      → OnOk r (length new.tables.l1.raw_entries ≡ max (length old.tables.l1.raw_entries) (guest / entries_of_cluster old.tables.file.header.fields + 1))
  long-behind (Ok t) is =
      let all : length mid.tables.l1.raw_entries ≡ max (length old.tables.l1.raw_entries) (i + 1) =
      ap length raw_entry.raw_entries ∙ padded-long old.tables.l1.raw_entries (max (length old.tables.l1.raw_entries) (i + 1)) (le-max_left (length old.tables.l1.raw_entries) (i + 1)) in
      let row = row-still in
      omega (arith, is, all, row, index)
  long-behind (Err fault) is = tt

  pub table-behind-word : (result : Result ℕ Fault) → EnsuresTable g (enough_for_one mid.tables) guest mid result new
      → EnsuresTable g (enough_for_table old.tables guest) guest old result new
  table-behind-word result table = record {
    keeps = keeps-disk-both g ⊤ (HadNoResourceError result) old mid new tt raw_entry.keeps table.keeps;
    leaks = λ well_formed whole. leaks-both g old mid new (raw_entry.leaks well_formed tt) (table.leaks (raw_entry.keeps.safely well_formed tt) whole);
    known = λ some. table.known (raw_entry.known some);
    table_linked = λ well_formed some. table.table_linked (raw_entry.keeps.safely well_formed tt) (raw_entry.known some);
    own = λ well_formed some. table.own (raw_entry.keeps.safely well_formed tt) (raw_entry.known some);
    long = λ well_formed. long-behind result (table.long (raw_entry.keeps.safely well_formed tt));
    leaves = λ well_formed. on-ok result _ (LeavesFree g (enough_for_table old.tables guest) old.tables new.tables) (λ leaves.
        leaves-then g (enough_for_entry old.tables (guest / entries_of_cluster old.tables.file.header.fields)) (enough_for_one old.tables)
        old.tables mid.tables new.tables (leaves-word well_formed)
        (subst (λ n. LeavesFree g n mid.tables new.tables) (one-still well_formed) leaves)) (table.leaves (raw_entry.keeps.safely well_formed tt));
    cause = if-err result _
        (HasCause (allocation_causes g (HasNoPlace g (IsForTable g guest old.tables) (guest / entries_of_cluster old.tables.file.header.fields)
        (enough_for_table old.tables guest) old.tables new.tables) old new))
        (λ e. cause-weaker (table-behind no-place-behind) e)
        table.cause;
  }

-- The L1 entry couldn't be made.
module _ {S : Type 0} (g : Ghosts S) (guest i : ℕ) (old new : Qcow2 S g) (index : i ≡ guest / entries_of_cluster old.tables.file.header.fields)
    (e : Fault) (raw_entry : EnsuresEntry g i old (Err e) new) where
  more-needed : (number : ℕ) → HasNoPlace g (IsForRawEntry g i old.tables) i (enough_for_entry old.tables i) old.tables new.tables number
      → HasNoPlace g (IsForTable g guest old.tables) (guest / entries_of_cluster old.tables.file.header.fields)
      (enough_for_table old.tables guest) old.tables new.tables number
  more-needed number none = from (subst
      (λ k. HasNoPlace g (IsForRawEntry g k old.tables) k (enough_for_entry old.tables k) old.tables new.tables number) index none) where
        row : ℕ
        row = guest / entries_of_cluster old.tables.file.header.fields

        from : HasNoPlace g (IsForRawEntry g row old.tables) row (enough_for_entry old.tables row) old.tables new.tables number
            → HasNoPlace g (IsForTable g guest old.tables) row (enough_for_table old.tables guest) old.tables new.tables number
        from (asked, what, inl far) = (asked, inl what, inl far)
        from (asked, what, inr (near, full)) = (
          asked,
          inl what,
          inr (
            near,
            full-more g asked (enough_for_entry old.tables row) (enough_for_table old.tables guest) number old.tables new.tables (omega arith) full,
          ),
        )

  pub table-wordless : EnsuresTable g (enough_for_table old.tables guest) guest old (Err e) new
  table-wordless = record {
    keeps = raw_entry.keeps;
    leaks = raw_entry.leaks;
    known = raw_entry.known;
    table_linked = λ well_formed some. tt;
    own = λ well_formed some. tt;
    long = λ well_formed. tt;
    leaves = λ well_formed. tt;
    cause = cause-weaker (full-implies g old new (λ number well_formed none. more-needed number none)) e raw_entry.cause;
  }

-- Lemmas on a guest cluster whose data moves to a new host cluster: its L2 table is made ready, its bytes are stored, and it is linked.
use Rattle.std.proofs.Common.{◌≡◌, ℕ, ◌+◌, ◌-◌, ◌*◌, ◌/◌, ◌%◌, ◌^◌, ◌<◌, ◌≤◌, refl, arith, ap, sym, subst, ◌∙◌, Bool, List, length, Some, None, Result, Ok, Err}
use Rattle.std.proofs.lemmas.Nat.{mod_below, pow_pos}
use Rattle.std.specs.Prelude.{⊤, IfErr, IsSome, OnOk, slice_index}
use Rattle.imago_storage.specs.Disk.{Value, byte}
use Rattle.imago_storage.specs.declared.fault.Fault.{Fault}
use Rattle.imago_storage.specs.declared.fault.Fault.TheVariants.{Counter, DamagedTable, Limit, Memory, Storage}
use Rattle.imago_storage.specs.declared.storage.Storage.{Ghosts}
use Rattle.imago_access.specs.Files.{HadNoResourceError, IsNotResourceError}
use Rattle.qcow2_types.specs.Header.{Fields, cluster_size, entries_of_cluster}
use Rattle.qcow2_alloc.specs.Causes.{HasCause}
use Rattle.qcow2_alloc.specs.FreeList.{covers}
use Rattle.qcow2_alloc.specs.Going.{writing_causes}
use Rattle.qcow2_alloc.specs.MakingRoom.{run_of}
use Rattle.qcow2_alloc.proofs.Causes.{Implies, cause-weaker}
use Rattle.qcow2_clusters.specs.Storing.{storing_causes}
use Rattle.qcow2_image.specs.Allocating.{EnsuresTable, StoresContent, allocation_causes, failed_by_resource_error}
use Rattle.qcow2_image.specs.Committing.{LinksHost}
use Rattle.qcow2_image.specs.FreeSpace.{HasNoPlace, IsForTable, LacksFreeRun, enough_for_run, enough_for_table}
use Rattle.qcow2_image.specs.Growing.{GivesContent, HasTableReady, IsWithin, ReplacesCluster, SetsEntries}
use Rattle.qcow2_image.specs.KeepsDisk.{value_in}
use Rattle.qcow2_image.specs.Leaking.{KeepsLeaksBut}
use Rattle.qcow2_image.specs.Preparing.{LacksPlaceBeside}
use Rattle.qcow2_image.specs.Rooms.{IsWellFormed}
use Rattle.qcow2_image.specs.Seen.{file_of, layer_of}
use Rattle.qcow2_image.specs.declared.qcow2.Qcow2.{Qcow2}
use Rattle.qcow2_image.proofs.DiskEffects.{keeps-disk-both}
use Rattle.qcow2_image.proofs.FreeRuns.{words-some}
use Rattle.qcow2_image.proofs.Leaks.{leaks-all, leaks-both}
use Rattle.qcow2_image.proofs.Preparations.Reservations.{lacks-cluster, lacks-table}
use Rattle.qcow2_image.proofs.Resizes.LinkedEntries.{place_linked, reserved_run}
use Rattle.qcow2_image.proofs.Resizes.SetEntries.{keeps-sets, sets-after-keeps}
use Rattle.qcow2_image.proofs.Resizes.StoredEntries.{stored-hard, stored-sets, stored-value, stored-why}

on-ok : (r : Result Unit Fault) (P : Type 0) → (r ≡ Ok tt → P) → OnOk r P
on-ok (Ok done) P each = each refl
on-ok (Err e) P each = tt

if-err : (r : Result Unit Fault) (P Q : Fault → Type 0) → ((e : Fault) → r ≡ Err e → P e → Q e) → IfErr r P → IfErr r Q
if-err (Ok done) P Q each holds = tt
if-err (Err e) P Q each holds = each e refl holds

always : (r : Result Unit Fault) → IfErr r (λ e. ⊤)
always (Ok done) = tt
always (Err e) = tt

-- The causes of a later call are causes of the whole, if what the whole needs is given.
ready-why : (need later : Type 0) (full : ℕ → Type 0) (before between after : ℕ) → (need → later) → between ≡ before → (e : Fault)
    → HasCause (storing_causes later full between after) e → HasCause (storing_causes need full before after) e
ready-why need later full before between after now same = cause-weaker (record {
  before = omega (arith, same);
  after = omega arith;
  damaged = λ wrong is. wrong (now is);
  counter = λ wrong is. wrong (now is);
  full = absurd;
  limit = λ number at is. at (now is);
})

module _ {S : Type 0} (g : Ghosts S) (guest : ℕ) (content : List ℕ) (old : Qcow2 S g) where
  abbrev h : Fields
  h = old.tables.file.header.fields

  abbrev Sure : Type 0
  Sure = IsWellFormed g old × IsSome old.tables.space

  -- The L2 table couldn't be made ready.
  module _ (new : Qcow2 S g) (e : Fault) (t : EnsuresTable g (enough_for_table old.tables guest) guest old (Err e) new)
      (runs : IsNotResourceError e → new.failed ≡ old.failed) where
    table-why : Implies (allocation_causes g (HasNoPlace g (IsForTable g guest old.tables) (guest / entries_of_cluster h)
        (enough_for_table old.tables guest) old.tables new.tables) old new)
        (storing_causes Sure (LacksPlaceBeside g guest None old.tables new.tables) (g.state old.tables.file.image).faults
        (g.state new.tables.file.image).faults)
    table-why = record {
      before = omega arith;
      after = omega arith;
      damaged = λ wrong is. wrong is;
      counter = λ wrong is. wrong is;
      full = absurd;
      limit = λ number at is. lacks-table g guest None number old new is.0 (at is.0);
    }

    pub replaced-tableless : ReplacesCluster g guest content old (Err e) new
    replaced-tableless = record {
      sets = keeps-sets g Sure (IsWellFormed g old) (IsNotResourceError e) guest (guest + 1) (GivesContent h content) old new
          (λ is. is.0) t.keeps runs (λ is whole some. t.known some) (λ is whole. t.leaks is.0 whole);
      mapped = λ well_formed some. tt;
      kept = λ well_formed some whole. t.keeps.layer well_formed whole;
      cause = cause-weaker table-why e t.cause;
    }

  module _ (table : ℕ) (first : Qcow2 S g) (t : EnsuresTable g (enough_for_table old.tables guest) guest old (Ok table) first)
      (runs-first : first.failed ≡ old.failed) where
    ready : Sure → HasTableReady g guest table first
    ready is = record {
      well_formed = t.keeps.safely is.0 tt;
      known = t.known is.1;
      table_linked = t.table_linked is.0 is.1;
      own = t.own is.0 is.1;
    }

    -- The bytes couldn't be stored.
    module _ (new : Qcow2 S g) (e : Fault) (s : StoresContent g 1 content first (Err e) new)
        (runs : IsNotResourceError e → new.failed ≡ first.failed) where
      abbrev lacks : ℕ → Type 0
      lacks = LacksFreeRun g 1 (enough_for_run first.tables 1) first.tables new.tables

      -- The free space is still loaded.
      still-known : (f : Fault) → HasCause (allocation_causes g lacks first new) f → IsNotResourceError f → Sure → IsSome new.tables.space
      still-known Memory why whole is = absurd whole
      still-known Storage why whole is = absurd whole
      still-known (Limit number) why whole is = subst IsSome (sym (why (t.keeps.safely is.0 tt)).space_known) refl
      still-known DamagedTable why whole is = absurd (why (t.keeps.safely is.0 tt, t.known is.1))
      still-known Counter why whole is = absurd (why (t.keeps.safely is.0 tt, t.known is.1))
      still-known f why whole is = absurd why

      content-why : Implies (allocation_causes g lacks first new)
          (storing_causes Sure (LacksPlaceBeside g guest None old.tables new.tables) (g.state old.tables.file.image).faults
          (g.state new.tables.file.image).faults)
      content-why = let same = (t.keeps.faults tt).0 in record {
        before = omega (arith, same);
        after = omega arith;
        damaged = λ wrong is. wrong (t.keeps.safely is.0 tt, t.known is.1);
        counter = λ wrong is. wrong (t.keeps.safely is.0 tt, t.known is.1);
        full = absurd;
        limit = λ number at is.
            let safe = t.keeps.safely is.0 tt in
            lacks-cluster g guest table None 1 number old first new is.0 safe is.1 (words-some g old is.0) t refl (at safe);
      }

      pub replaced-unstored : ReplacesCluster g guest content old (Err e) new
      replaced-unstored = record {
        sets = keeps-sets g Sure (IsWellFormed g old) (IsNotResourceError e) guest (guest + 1) (GivesContent h content) old new
            (λ is. is.0) (keeps-disk-both g ⊤ (IsNotResourceError e) old first new tt t.keeps s.keeps) (λ whole. runs whole ∙ runs-first)
            (λ is whole some. still-known e s.cause whole is)
            (λ is whole. leaks-both g old first new (t.leaks is.0 tt) (leaks-all g first new (s.leaks (t.keeps.safely is.0 tt) whole)));
        mapped = λ well_formed some. tt;
        kept = λ well_formed some whole. s.keeps.layer (t.keeps.safely well_formed tt) whole ∙ t.keeps.layer well_formed tt;
        cause = cause-weaker content-why e s.cause;
      }

    -- The bytes were stored, and the guest cluster is linked.
    module _ (host : ℕ) (mid new : Qcow2 S g) (result : Result Unit Fault) (begun : Bool)
        (s : StoresContent g 1 content first (Ok host) mid) (runs : mid.failed ≡ first.failed)
        (links : LinksHost g (reserved_run table host 1) guest mid.tables result new.tables)
        (others : new ≡ record mid { tables = new.tables; failed = failed_by_resource_error result begun mid.failed })
        (whole : length content ≡ cluster_size h) (free : old.unspent ≡ None) where
      abbrev k : Fields
      k = first.tables.file.header.fields

      abbrev given : ℕ → Value → Type 0
      given = GivesContent h content

      one-row : 1 ≤ entries_of_cluster k → guest % entries_of_cluster k + 1 ≤ entries_of_cluster k
      one-row some = let less = mod_below guest (entries_of_cluster k) some in omega (arith, less)

      -- The byte in the host cluster.
      stored-byte : IsWellFormed g first → (p : ℕ) → IsWithin guest (guest + 1) (p / cluster_size k)
          → file_of g mid.tables (place_linked k guest host p) ≡ slice_index content (p % cluster_size h)
      stored-byte well_formed p ours =
          let start : host + (p / cluster_size k - guest) ≡ host = omega (arith, ours.0, ours.1) in
          let size : cluster_size k ≡ cluster_size h = ap (λ (b : ℕ). 2 ^ b) t.keeps.bits in
          let less = mod_below p (cluster_size k) (pow_pos k.cluster_bits) in
          ap (λ (x : ℕ). file_of g mid.tables (x * cluster_size k + p % cluster_size k)) start
          ∙ s.content well_formed (p % cluster_size k) (omega (arith, whole, size, less))
          ∙ ap (λ (x : ℕ). slice_index content (p % x)) size

      gives : IsWellFormed g first → (p : ℕ) → IsWithin guest (guest + 1) (p / cluster_size k)
          → given p (byte (file_of g mid.tables (place_linked k guest host p)))
      gives well_formed p ours = ap byte (stored-byte well_formed p ours)

      one-leaks : IsWellFormed g first → KeepsLeaksBut g (λ c. covers c (run_of host 1)) first mid
      one-leaks well_formed = s.leaks well_formed tt

      free-first : first.unspent ≡ None
      free-first = t.keeps.unspent ∙ free

      abbrev some-row : 0 < 1
      some-row = omega arith

      last-sets : SetsEntries g (HasTableReady g guest table first) (HadNoResourceError result) guest (guest + 1) given first new
      last-sets = stored-sets g table guest host 1 given first mid new result begun s.keeps runs one-leaks s.top s.named s.reserved gives
          links others some-row one-row free-first

      all-sets : SetsEntries g Sure (HadNoResourceError result) guest (guest + 1) given old new
      all-sets = sets-after-keeps g Sure (IsWellFormed g old) (HasTableReady g guest table first) (HadNoResourceError result) guest
          (guest + 1) given old first new (λ is. is.0) ready runs-first (λ is some. t.known some) t.keeps (λ is. t.leaks is.0 tt) last-sets

      mapped-now : Sure → result ≡ Ok tt → (p : ℕ) → p / cluster_size h ≡ guest
          → value_in g new.tables p ≡ Some (byte (slice_index content (p % cluster_size h)))
      mapped-now is ok p there =
          let here : p / cluster_size k ≡ guest = ap (λ (b : ℕ). p / 2 ^ b) t.keeps.bits ∙ there in
          let ours : IsWithin guest (guest + 1) (p / cluster_size k) = (omega (arith, here), omega (arith, here)) in
          stored-value g table guest host 1 given first mid new result begun s.keeps runs one-leaks s.top s.named s.reserved gives links
          others some-row one-row free-first (ready is) ok p ours
          ∙ ap (λ (x : ℕ). Some (byte x)) (stored-byte (t.keeps.safely is.0 tt) p ours)

      link-why : (e : Fault) → result ≡ Err e
          → HasCause (writing_causes ⊥ (g.state mid.tables.file.image).faults (g.state new.tables.file.image).faults) e
          → HasCause (storing_causes Sure (LacksPlaceBeside g guest None old.tables new.tables) (g.state old.tables.file.image).faults
          (g.state new.tables.file.image).faults) e
      link-why e is why =
          let full : ℕ → Type 0 = LacksPlaceBeside g guest None old.tables new.tables in
          ready-why Sure (HasTableReady g guest table first) full (g.state old.tables.file.image).faults
          (g.state first.tables.file.image).faults (g.state new.tables.file.image).faults ready (t.keeps.faults tt).0 e
          (stored-why g table guest host 1 given first mid new result begun s.keeps runs one-leaks s.top s.named s.reserved gives links
          others some-row one-row free-first full e is why)

      link-kept : Sure → (e : Fault) → result ≡ Err e → ⊤ → IsNotResourceError e → layer_of g new ≡ layer_of g old
      link-kept is e failed always not_resource_error = absurd (
          stored-hard g table guest host 1 given first mid new result begun s.keeps runs one-leaks s.top s.named s.reserved gives links
          others some-row one-row free-first (ready is) e failed not_resource_error)

      pub replaced-done : ReplacesCluster g guest content old result new
      replaced-done = record {
        sets = all-sets;
        mapped = λ well_formed some. on-ok result ((p : ℕ) → p / cluster_size h ≡ guest
            → value_in g new.tables p ≡ Some (byte (slice_index content (p % cluster_size h)))) (mapped-now (well_formed, some));
        kept = λ well_formed some. if-err result (λ e. ⊤) (λ e. IsNotResourceError e → layer_of g new ≡ layer_of g old)
            (link-kept (well_formed, some)) (always result);
        cause = if-err result (HasCause (writing_causes ⊥ (g.state mid.tables.file.image).faults (g.state new.tables.file.image).faults))
            (HasCause (storing_causes Sure (LacksPlaceBeside g guest None old.tables new.tables) (g.state old.tables.file.image).faults
            (g.state new.tables.file.image).faults)) link-why links.cause;
      }

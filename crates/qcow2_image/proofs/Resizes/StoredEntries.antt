-- Lemmas on guest clusters that are linked after their clusters were stored: of zeroes, or of the content of one guest cluster.
use Rattle.std.proofs.Common.{◌≡◌, ◌≢◌, ℕ, ◌+◌, ◌-◌, ◌*◌, ◌/◌, ◌%◌, ◌^◌, ◌<◌, ◌≤◌, refl, arith, ap, sym, subst, ◌∙◌, Bool, true, Some, None, Result, Ok, Err}
use Rattle.std.specs.Prelude.{⊤, IfErr, IsSome}
use Rattle.imago_storage.specs.State.{HasRisen}
use Rattle.imago_storage.specs.Disk.{Value, byte}
use Rattle.imago_storage.specs.declared.fault.Fault.{Fault}
use Rattle.imago_storage.specs.declared.fault.Fault.TheVariants.{Counter, DamagedTable, Limit, Memory, Storage}
use Rattle.imago_storage.specs.declared.storage.Storage.{Ghosts}
use Rattle.imago_access.specs.Files.{HadNoResourceError, IsNotResourceError}
use Rattle.qcow2_types.specs.Entries.{l2_table}
use Rattle.qcow2_types.specs.Header.{Fields, cluster_size, entries_of_cluster}
use Rattle.qcow2_metadata.specs.Places.{IsAddressable}
use Rattle.qcow2_alloc.specs.Causes.{HasCause}
use Rattle.qcow2_alloc.specs.FreeList.{covers}
use Rattle.qcow2_alloc.specs.Going.{writing_causes}
use Rattle.qcow2_alloc.specs.MakingRoom.{run_of}
use Rattle.qcow2_clusters.specs.Storing.{AreReserved, storing_causes}
use Rattle.qcow2_clusters.specs.declared.space.Space.{Space}
use Rattle.qcow2_image.specs.Allocating.{Begins, KeepsTop, allocation_causes, failed_by_resource_error}
use Rattle.qcow2_image.specs.Committing.{LinksHost}
use Rattle.qcow2_image.specs.FreeSpace.{LacksFreeRun, enough_for_run}
use Rattle.qcow2_image.specs.Growing.{AreZeroes, GivesZero, HasTableReady, IsWithin, SetsEntries, StoresZeroes, ZeroesPart}
use Rattle.qcow2_image.specs.Homes.{cluster-there}
use Rattle.qcow2_image.specs.KeepsDisk.{KeepsDisk, value_in}
use Rattle.qcow2_image.specs.Leaking.{KeepsLeaks, KeepsLeaksBut, reserved_as}
use Rattle.qcow2_image.specs.Rooms.{IsWellFormed, rest_of}
use Rattle.qcow2_image.specs.Seen.{file_of}
use Rattle.qcow2_image.specs.declared.allocating.Placed.{Placed}
use Rattle.qcow2_image.specs.declared.qcow2.Qcow2.{Qcow2}
use Rattle.qcow2_image.proofs.FreeRuns.{words-some}
use Rattle.qcow2_image.proofs.Leaks.{leaks-all}
use Rattle.qcow2_image.proofs.Preparations.Reservations.{under-row}
use Rattle.qcow2_image.proofs.Resizes.LinkedEntries.{HasReserved, linked-hard, linked-leaks, linked-value, linked-values, place_linked, reserved_run, succeeds}
use Rattle.qcow2_image.proofs.Resizes.SetEntries.{SetsValues, keeps-sets, sets-failed, values-after-keeps, values-of, with-leaks}

-- The clusters from `host` on were stored for `n` guest clusters of one L2 table, and then they are linked.
module _ {S : Type 0} (g : Ghosts S) (table guest host n : ℕ) (given : ℕ → Value → Type 0) (old mid new : Qcow2 S g)
    (result : Result Unit Fault) (begun : Bool) (keeps : KeepsDisk g ⊤ old mid) (runs : mid.failed ≡ old.failed)
    (leaks : IsWellFormed g old → KeepsLeaksBut g (λ c. covers c (run_of host n)) old mid)
    (top : KeepsTop g (IsWellFormed g old × ⊤) old mid)
    (named : (host ≢ 0) × IsAddressable old.tables.file.header.fields.cluster_bits (host + (n - 1)))
    (reserved : IsWellFormed g old → (space : Space) × (mid.tables.space ≡ Some space)
    × AreReserved n (rest_of g mid.tables space) host × (0 < space.to_free.held))
    (gives : IsWellFormed g old → (p : ℕ) → IsWithin guest (guest + n) (p / cluster_size old.tables.file.header.fields)
    → given p (byte (file_of g mid.tables (place_linked old.tables.file.header.fields guest host p))))
    (links : LinksHost g (reserved_run table host n) guest mid.tables result new.tables)
    (others : new ≡ record mid { tables = new.tables; failed = failed_by_resource_error result begun mid.failed })
    (any : 0 < n) (row : 1 ≤ entries_of_cluster old.tables.file.header.fields
    → guest % entries_of_cluster old.tables.file.header.fields + n ≤ entries_of_cluster old.tables.file.header.fields)
    (free : old.unspent ≡ None) where
  abbrev h : Fields
  h = old.tables.file.header.fields

  abbrev Ready : Type 0
  Ready = HasTableReady g guest table old

  abbrev LinkReady : Type 0
  LinkReady = HasReserved g table guest host n given mid

  row-same : guest / entries_of_cluster mid.tables.file.header.fields ≡ guest / entries_of_cluster h
  row-same = ap (λ (b : ℕ). guest / (2 ^ b / 8)) keeps.bits

  reach-mid : IsAddressable mid.tables.file.header.fields.cluster_bits (host + (n - 1))
  reach-mid = subst (λ (b : ℕ). IsAddressable b (host + (n - 1))) (sym keeps.bits) named.1

  fits-mid : 1 ≤ entries_of_cluster mid.tables.file.header.fields
      → guest % entries_of_cluster mid.tables.file.header.fields + n ≤ entries_of_cluster mid.tables.file.header.fields
  fits-mid some = subst (λ (b : ℕ). guest % (2 ^ b / 8) + n ≤ 2 ^ b / 8) (sym keeps.bits)
      (row (subst (λ (b : ℕ). 1 ≤ 2 ^ b / 8) keeps.bits some))

  ready-mid : Ready → LinkReady
  ready-mid ready =
      let there = reserved ready.well_formed in record {
        well_formed = keeps.safely ready.well_formed tt;
        space = there.0;
        space_known = there.1;
        under = under-row g (rest_of g mid.tables there.0) table guest n
            (fits-mid (words-some g mid (keeps.safely ready.well_formed tt))) (record {
              inside = subst (λ (k : ℕ). k < mid.tables.file.header.fields.l1_entries) (sym row-same)
                  (subst (λ (k : ℕ). guest / entries_of_cluster h < k) (sym top.entries) ready.table_linked.1);
              table_linked = top.tables (ready.well_formed, tt) (guest / entries_of_cluster mid.tables.file.header.fields)
                  ∙ ap (λ (k : ℕ). l2_table (file_of g old.tables) h k) row-same ∙ ready.table_linked.2
                  ∙ ap (λ (b : ℕ). table * 2 ^ b) (sym keeps.bits);
              table_nonzero = ready.table_linked.0;
            });
        reserved = there.2;
        gives = subst (λ (b : ℕ). (p : ℕ) → IsWithin guest (guest + n) (p / 2 ^ b)
            → given p (byte (file_of g mid.tables ((host + (p / 2 ^ b - guest)) * 2 ^ b + p % 2 ^ b)))) (sym keeps.bits)
            (gives ready.well_formed);
      }

  free-mid : mid.unspent ≡ None
  free-mid = keeps.unspent ∙ free

  -- Linking fails only with a resource error.
  pub stored-hard : Ready → (e : Fault) → result ≡ Err e → IsNotResourceError e → ⊥
  stored-hard ready =
      linked-hard g table guest host n given mid new result begun links others any named.0 reach-mid fits-mid free-mid (ready-mid ready)

  linked-part : SetsValues g LinkReady (HadNoResourceError result) guest (guest + n) given mid new
  linked-part = linked-values g table guest host n given mid new result begun links others any named.0 reach-mid fits-mid free-mid

  done : Ready → HadNoResourceError result → result ≡ Ok tt
  done ready whole =
      succeeds g table guest host n given mid new result begun links others any named.0 reach-mid fits-mid free-mid (ready-mid ready) whole

  stored-leaks : Ready → HadNoResourceError result → KeepsLeaks g old new
  stored-leaks ready whole c =
      let one = leaks ready.well_formed c in
      let two = linked-leaks g table guest host n given mid new result begun links others any named.0 reach-mid fits-mid free-mid
      (ready-mid ready) (done ready whole) c in
      omega (arith, one, two)

  pub stored-sets : SetsEntries g Ready (HadNoResourceError result) guest (guest + n) given old new
  stored-sets =
      with-leaks g Ready (HadNoResourceError result) guest (guest + n) given old new
      (values-after-keeps g Ready (IsWellFormed g old) LinkReady (HadNoResourceError result) guest (guest + n) given old mid new
      (λ ready. ready.well_formed) ready-mid runs (λ ready some. subst IsSome (sym (reserved ready.well_formed).1) refl) keeps linked-part)
      stored-leaks

  -- The bytes of the guest clusters are those that were stored.
  pub stored-value : Ready → result ≡ Ok tt → (p : ℕ) → IsWithin guest (guest + n) (p / cluster_size h)
      → value_in g new.tables p ≡ Some (byte (file_of g mid.tables (place_linked h guest host p)))
  stored-value ready ok p ours =
      linked-value g table guest host n given mid new result begun links others any named.0 reach-mid fits-mid free-mid (ready-mid ready)
      ok p (subst (λ (b : ℕ). IsWithin guest (guest + n) (p / 2 ^ b)) (sym keeps.bits) ours)
      ∙ ap (λ (b : ℕ). Some (byte (file_of g mid.tables ((host + (p / 2 ^ b - guest)) * 2 ^ b + p % 2 ^ b)))) keeps.bits

  pub stored-why : (full : ℕ → Type 0) (e : Fault) → result ≡ Err e
      → HasCause (writing_causes ⊥ (g.state mid.tables.file.image).faults (g.state new.tables.file.image).faults) e
      → HasCause (storing_causes Ready full (g.state old.tables.file.image).faults (g.state new.tables.file.image).faults) e
  stored-why full Memory is why = tt
  stored-why full Storage is why =
      subst (λ (k : ℕ). HasRisen k (g.state new.tables.file.image).faults) (keeps.faults tt).0 why
  stored-why full DamagedTable is why = λ ready. stored-hard ready DamagedTable is tt
  stored-why full e is why = absurd why

-- Linking counts as a change that has begun.
pub begins-linked : {S T : Type 0} (g : Ghosts S) (was : Bool) (old mid new : Qcow2 S g) (linked : Result Unit Fault)
    (result : Result T Fault) → ((f : Bool) → failed_by_resource_error linked true f ≡ failed_by_resource_error result true f)
    → mid.failed ≡ old.failed → new.failed ≡ failed_by_resource_error linked true mid.failed → Begins g was old result true new
begins-linked g was old mid new linked result same runs marks = record {
  left_untouched = λ not. absurd (cc not);
  marked = λ is. marks ∙ ap (failed_by_resource_error linked true) runs ∙ same old.failed;
}

-- The errors of storing the clusters. The guest reads the same bytes as before.
module _ {S : Type 0} (g : Ghosts S) (table guest n : ℕ) (old new : Qcow2 S g) (e : Fault) (z : StoresZeroes g n old (Err e) new)
    (runs : IsNotResourceError e → new.failed ≡ old.failed) where
  abbrev Able : Type 0
  Able = HasTableReady g guest table old

  abbrev lacks : ℕ → Type 0
  lacks = LacksFreeRun g 1 (enough_for_run old.tables n) old.tables new.tables

  -- The free space is still loaded.
  still-known : (f : Fault) → HasCause (allocation_causes g lacks old new) f → IsNotResourceError f → Able → IsSome new.tables.space
  still-known Memory why whole able = absurd whole
  still-known Storage why whole able = absurd whole
  still-known (Limit number) why whole able = subst IsSome (sym (why able.well_formed).space_known) refl
  still-known DamagedTable why whole able = absurd (why (able.well_formed, able.known))
  still-known Counter why whole able = absurd (why (able.well_formed, able.known))
  still-known f why whole able = absurd why

  unstored-why : (f : Fault) → HasCause (allocation_causes g lacks old new) f
      → HasCause (storing_causes Able lacks (g.state old.tables.file.image).faults (g.state new.tables.file.image).faults) f
  unstored-why Memory why = tt
  unstored-why Storage why = why
  unstored-why (Limit number) why = λ able. why able.well_formed
  unstored-why DamagedTable why = λ able. why (able.well_formed, able.known)
  unstored-why Counter why = λ able. why (able.well_formed, able.known)
  unstored-why f why = absurd why

  pub unstored-part : ZeroesPart g Able lacks guest n old (Err e) new
  unstored-part = record {
    sets = keeps-sets g Able (IsWellFormed g old) (IsNotResourceError e) guest (guest + 0) GivesZero old new (λ able. able.well_formed)
        z.keeps runs (λ able whole some. still-known e z.cause whole able)
        (λ able whole. leaks-all g old new (z.leaks able.well_formed whole));
    many = tt;
    zeroed = λ able. tt;
    cause = unstored-why e z.cause;
  }

-- Zeroes are stored, and then the guest clusters are linked.
module _ {S : Type 0} (g : Ghosts S) (table guest n : ℕ) (r : Placed) (old mid new : Qcow2 S g) (result : Result Unit Fault) (begun : Bool)
    (z : StoresZeroes g n old (Ok r) mid) (runs : mid.failed ≡ old.failed)
    (links : LinksHost g (reserved_run table r.host r.count) guest mid.tables result new.tables)
    (others : new ≡ record mid { tables = new.tables; failed = failed_by_resource_error result begun mid.failed })
    (row : guest % entries_of_cluster old.tables.file.header.fields + n ≤ entries_of_cluster old.tables.file.header.fields)
    (free : old.unspent ≡ None) where
  abbrev hz : Fields
  hz = old.tables.file.header.fields

  abbrev Fit : Type 0
  Fit = HasTableReady g guest table old

  zero-leaks : IsWellFormed g old → KeepsLeaksBut g (λ c. covers c (run_of r.host r.count)) old mid
  zero-leaks well_formed c =
      let one = z.leaks well_formed tt c in
      let same : reserved_as r.is_kept r.host r.count c ≡ covers c (run_of r.host r.count) =
      ap (λ b. reserved_as b r.host r.count c) z.unkept in
      omega (arith, one, same)

  zero-bytes : IsWellFormed g old → (p : ℕ) → IsWithin guest (guest + r.count) (p / cluster_size hz)
      → GivesZero p (byte (file_of g mid.tables (place_linked hz guest r.host p)))
  zero-bytes well_formed p ours =
      let there = cluster-there hz (place_linked hz guest r.host p) (r.host + (p / cluster_size hz - guest)) p refl in
      ap byte (z.zeroed well_formed (place_linked hz guest r.host p) (omega (arith, there), omega (arith, there, ours.0, ours.1)))

  few : 1 ≤ entries_of_cluster hz → guest % entries_of_cluster hz + r.count ≤ entries_of_cluster hz
  few some = let most = z.many.1 in omega (arith, row, most)

  zero-sets : SetsEntries g Fit (HadNoResourceError result) guest (guest + r.count) GivesZero old new
  zero-sets = stored-sets g table guest r.host r.count GivesZero old mid new result begun z.keeps runs zero-leaks z.top z.named z.reserved
      zero-bytes links others z.many.0 few free

  zero-hard : Fit → (e : Fault) → result ≡ Err e → IsNotResourceError e → ⊥
  zero-hard = stored-hard g table guest r.host r.count GivesZero old mid new result begun z.keeps runs zero-leaks z.top z.named z.reserved
      zero-bytes links others z.many.0 few free

  zero-value : Fit → result ≡ Ok tt → AreZeroes g guest (guest + r.count) new
  zero-value fit ok p ours =
      let here : IsWithin guest (guest + r.count) (p / cluster_size hz) =
      subst (λ (b : ℕ). IsWithin guest (guest + r.count) (p / 2 ^ b)) zero-sets.bits ours in
      stored-value g table guest r.host r.count GivesZero old mid new result begun z.keeps runs zero-leaks z.top z.named z.reserved
      zero-bytes links others z.many.0 few free fit ok p here
      ∙ ap Some (zero-bytes fit.well_formed p here)

  pub mapped-part : (full : ℕ → Type 0) → result ≡ Ok tt → ZeroesPart g Fit full guest n old (Ok r.count) new
  mapped-part full ok = record {
    sets = subst (λ (ok : Type 0). SetsEntries g Fit ok guest (guest + r.count) GivesZero old new) (ap HadNoResourceError ok) zero-sets;
    many = z.many;
    zeroed = λ fit. zero-value fit ok;
    cause = tt;
  }

  pub unlinked-part : (full : ℕ → Type 0) (past : hz.size ≤ guest * cluster_size hz) (e : Fault) → result ≡ Err e
      → ZeroesPart g Fit full guest n old (Err e) new
  unlinked-part full past e is = record {
    sets = subst (λ (ok : Type 0). SetsEntries g Fit ok guest (guest + 0) GivesZero old new) (ap HadNoResourceError is)
        (sets-failed g Fit (HadNoResourceError result) guest (guest + r.count) (guest + 0) GivesZero old new past
        (λ fit whole. zero-hard fit e is (subst (λ (o : Result Unit Fault). HadNoResourceError o) is whole))
        (values-of g Fit (HadNoResourceError result) guest (guest + r.count) GivesZero old new zero-sets));
    many = tt;
    zeroed = λ fit. tt;
    cause = stored-why g table guest r.host r.count GivesZero old mid new result begun z.keeps runs zero-leaks z.top z.named z.reserved
        zero-bytes links others z.many.0 few free full e is
        (subst (λ (o : Result Unit Fault). IfErr o (HasCause (writing_causes ⊥ (g.state mid.tables.file.image).faults
        (g.state new.tables.file.image).faults))) is links.cause);
  }

-- Lemmas on `reserve` and `prepare_run`: what is left after clusters are reserved and held for guest clusters.
use Rattle.std.proofs.Common.{false, ◌≡◌, ℕ, ◌+◌, ◌-◌, ◌*◌, ◌/◌, ◌%◌, ◌^◌, ◌<◌, ◌≤◌, refl, ap, sym, subst, ◌∙◌, inl, inr, Bool, List, length, Option, Some, None, Result, Ok, Err, arith}
use Rattle.std.specs.Prelude.{⊤, ◌⊎◌, IfErr, IfSome, IsSome, Vec, is_some, min, not, slice_index}
use Rattle.std.specs.declared.alloc.Global.{Global}
use Rattle.std.proofs.lemmas.Nat.{div-add-mod', div-mul-add, mod_below, pow_pos}
use Rattle.imago_storage.specs.Disk.{Value, barred, damaged_place}
use Rattle.imago_storage.specs.Calls.{Cause}
use Rattle.imago_storage.specs.declared.fault.Fault.{Fault}
use Rattle.imago_storage.specs.declared.fault.Fault.TheVariants.{Barred, Counter, DamagedTable, Limit, Memory, Storage}
use Rattle.imago_storage.specs.declared.storage.Storage.{Ghosts}
use Rattle.imago_access.specs.Chain.{at}
use Rattle.imago_access.specs.Changes.{Asked, IsCopied}
use Rattle.imago_access.specs.Files.{IsNotResourceError, HadNoResourceError}
use Rattle.imago_access.specs.Layer.{Layer, through}
use Rattle.imago_access.specs.declared.mapping.PreparedDataMapping.{PreparedDataMapping}
use Rattle.imago_access.specs.declared.driver_model.LayersBelowModel.{Ghosts as GhostsBelow}
use Rattle.imago_access.proofs.Looking.{looked_under_same, looked_under_weaker}
use Rattle.qcow2_types.specs.Bytes.{Bytes, bytes_of}
use Rattle.qcow2_types.specs.Entries.{entry, l2_table}
use Rattle.qcow2_types.specs.Header.{Fields, Header, cluster_size, entries_of_cluster}
use Rattle.qcow2_types.specs.Words.{is_copied}
use Rattle.qcow2_metadata.specs.Places.{IsAddressable}
use Rattle.qcow2_metadata.specs.Tables.{TableValue}
use Rattle.qcow2_alloc.specs.Causes.{HasCause}
use Rattle.qcow2_alloc.specs.Crowding.{space}
use Rattle.qcow2_image.specs.Allocating.{Begins, EnsuresTable, HasKept, HasOwnTable, LoadsSpace, PlacesContent, TellsKept, kept_by, kept_for, reserving_causes, allocation_causes}
use Rattle.qcow2_image.specs.Filling.{IsInFirst, IsLeft, IsNeededFor, MakesContent, NeedsShown, RefusesCopy, WhyNotCopied}
use Rattle.qcow2_alloc.specs.GuestView.{Metadata}
use Rattle.qcow2_alloc.proofs.Causes.{Implies, cause-weaker}
use Rattle.qcow2_clusters.specs.Linking.{IsUnder}
use Rattle.qcow2_image.specs.FreeSpace.{HasFreeRun, HasNoPlace, IsForTable, LacksFreeRun, LacksTable, enough_for_run, enough_for_table}
use Rattle.qcow2_image.specs.Holding.{IsUncopied, place_in}
use Rattle.qcow2_image.specs.KeepsDisk.{KeepsDisk, KeepsDiskWhere}
use Rattle.qcow2_image.specs.Preparing.{FindsRun, HoldsFresh, IsCovered, IsReservedFor, IsRun, KeepsMapping, LacksPlace, LacksPlaceBeside, LeavesMarkedFailed, PreparesFresh, PreparesRun, Reserves, first_part, run_part}
use Rattle.qcow2_image.specs.Leaking.{KeepsLeaks, reserved_as}
use Rattle.qcow2_image.specs.Rooms.{IsWellFormed, rest_of}
use Rattle.qcow2_image.specs.Seen.{file_of, layer_of}
use Rattle.qcow2_image.specs.Steps.{KeepsImage}
use Rattle.qcow2_image.specs.declared.allocating.Placed.{Placed}
use Rattle.qcow2_image.specs.declared.mappings.Reserved.{Reserved}
use Rattle.qcow2_image.specs.declared.qcow2.PreparedMappingState.{PreparedMappingState}
use Rattle.qcow2_image.specs.declared.qcow2.Qcow2.{Qcow2}
use Rattle.qcow2_image.specs.declared.tables.Tables.{Tables}
use Rattle.qcow2_image.proofs.CallStarts.{begins-loaded, begins-marked, begins-then, quiet-marked}
use Rattle.qcow2_image.proofs.FileWords.{top-word}
use Rattle.qcow2_image.proofs.FreeRuns.{asked-as, full-behind, full-more, full-since, lacks-as-file, lacks-as-words, quarter-enough, quarter-some, run-enough, run-fewer, run-same, safe-short, words-some}
use Rattle.qcow2_image.proofs.DiskEffects.{keeps-disk-both, keeps-disk-same, keeps-disk-then, keeps-image-disk}
use Rattle.qcow2_image.proofs.ZeroClusters.{kept-behind}
use Rattle.qcow2_image.proofs.Leaks.{leaks-all, leaks-both, leaks-but, leaks-held, leaks-then}
use Rattle.qcow2_image.proofs.Steps.{keeps-as, keeps-both}
use Rattle.qcow2_image.proofs.LeaksByFile.{leaks-kept}
use Rattle.qcow2_image.proofs.Preparations.ContentCopies.{why-looked}

module _ {S : Type 0} (g : Ghosts S) where
  -- A resource error leaves the image failed or unchanged, also after a lookup.
  marked-behind : {T : Type 0} (old mid new : Qcow2 S g) (v : T) (e : Fault) → KeepsImage g old (Ok v) mid → LeavesMarkedFailed g mid new e → LeavesMarkedFailed g old new e
  marked-behind {T} old mid new v Storage k marked = marked
  marked-behind {T} old mid new v Memory k (inl marked) = inl marked
  marked-behind {T} old mid new v Memory k (inr kept) =
      inr (keeps-both {T = Unit} g old mid new (Err Memory) (keeps-as {T = T} {U = Unit} g old mid (Ok v) (Ok tt) (λ w. tt) (λ f. refl) k) kept)
  marked-behind {T} old mid new v e k marked = tt

  -- The causes of an error after a call that kept the disk.
  pub why-loaded : (full : ℕ → Type 0) (old new : Qcow2 S g) (e : Fault) → HasCause (allocation_causes g (λ number. ⊥) old new) e
      → (IsWellFormed g old → Cause (g.state old.tables.file.image).faults (g.state new.tables.file.image).faults e) → HasCause (reserving_causes g full old new) e
  why-loaded full old new Memory why known = tt
  why-loaded full old new Storage why known = why
  why-loaded full old new (Limit number) why known = λ well_formed. absurd (why well_formed)
  why-loaded full old new DamagedTable why known = known
  why-loaded full old new Counter why known = known
  why-loaded full old new e why known = absurd why

  pub allocation-reserves : {full full' : ℕ → Type 0} (old mid new : Qcow2 S g) → KeepsDisk g ⊤ old mid → IsSome mid.tables.space → ((number : ℕ) → IsWellFormed g old → full number → full' number)
      → Implies (allocation_causes g full mid new) (reserving_causes g full' old new)
  allocation-reserves old mid new k some told = let same = (k.faults tt).0 in record {
    before = omega (arith, same);
    after = omega arith;
    damaged = λ wrong well_formed. wrong (k.safely well_formed tt, some);
    counter = λ wrong well_formed. wrong (k.safely well_formed tt, some);
    full = absurd;
    limit = λ number at well_formed. told number well_formed (at (k.safely well_formed tt));
  }

  reserves-behind : {full full' : ℕ → Type 0} (old mid new : Qcow2 S g) → KeepsDisk g ⊤ old mid → ((number : ℕ) → IsWellFormed g old → full number → full' number)
      → Implies (reserving_causes g full mid new) (reserving_causes g full' old new)
  reserves-behind old mid new k told = let same = (k.faults tt).0 in record {
    before = omega (arith, same);
    after = omega arith;
    damaged = λ wrong well_formed. wrong (k.safely well_formed tt);
    counter = λ wrong well_formed. wrong (k.safely well_formed tt);
    full = absurd;
    limit = λ number at well_formed. told number well_formed (at (k.safely well_formed tt));
  }

  -- Loading the free space, or a lookup, keeps the free runs and the missing table.
  lacks-since : (guest : ℕ) (kept : Option ℕ) (number : ℕ) (old mid new : Tables S g) → mid.file.header ≡ old.file.header
      → ((total : ℕ) → 0 < total → HasFreeRun g old total → HasFreeRun g mid total) → 0 < space mid.file.header.fields / 4
      → (LacksTable g guest mid → LacksTable g guest old) → LacksPlaceBeside g guest kept mid new number
      → LacksPlaceBeside g guest kept old new number
  lacks-since guest kept number old mid new header runs some told (asked, what, why) =
      (asked, asked-as g guest asked kept old mid header told what, from why) where
        row-of : Header → ℕ
        row-of H = guest / entries_of_cluster H.fields

        from : ((2 ^ 22 < row-of mid.file.header + 1) × (number ≡ min (row-of mid.file.header + 1) (2 ^ 64 - 1)))
            ⊎ ((row-of mid.file.header + 1 ≤ 2 ^ 22) × LacksFreeRun g asked (space mid.file.header.fields / 4) mid new number)
            → ((2 ^ 22 < row-of old.file.header + 1) × (number ≡ min (row-of old.file.header + 1) (2 ^ 64 - 1)))
            ⊎ ((row-of old.file.header + 1 ≤ 2 ^ 22) × LacksFreeRun g asked (space old.file.header.fields / 4) old new number)
        from (inl far) =
            inl (subst (λ (H : Header). (2 ^ 22 < row-of H + 1) × (number ≡ min (row-of H + 1) (2 ^ 64 - 1))) header far)
        from (inr (near, full)) = inr (
          subst (λ (H : Header). row-of H + 1 ≤ 2 ^ 22) header near,
          full-since g asked (space old.file.header.fields / 4) number old mid new
              (runs (space old.file.header.fields / 4) (subst (λ (H : Header). 0 < space H.fields / 4) header some))
              (subst (λ (H : Header). LacksFreeRun g asked (space H.fields / 4) mid new number) header full),
        )

  some-quarter : (d : Qcow2 S g) → IsWellFormed g d → 0 < space d.tables.file.header.fields / 4
  some-quarter d well_formed = quarter-some g d well_formed

  pub lacks-loaded : (guest : ℕ) (kept : Option ℕ) (number : ℕ) (old mid new : Qcow2 S g) → LoadsSpace g old (Ok tt) mid
      → IsWellFormed g old → IsWellFormed g mid → LacksPlaceBeside g guest kept mid.tables new.tables number → LacksPlaceBeside g guest kept old.tables new.tables number
  lacks-loaded guest kept number old mid new l well_formed safe' = lacks-since guest kept number old.tables mid.tables new.tables l.top.1
      (λ total some run. l.leaves.left total some (run-fewer g old.tables (0 + total) total (omega arith) run)) (some-quarter mid safe')
      (lacks-as-words g guest old.tables mid.tables well_formed.seen.l1 safe'.seen.l1
      (ap (λ (H : Header). guest / entries_of_cluster H.fields) l.top.1) (λ k. ap (λ (t : TableValue). slice_index t.raw_entries k) l.top.0))

  pub lacks-looked : {T : Type 0} (v : T) (guest : ℕ) (kept : Option ℕ) (number : ℕ) (old mid : Qcow2 S g) (new : Tables S g)
      → KeepsImage g old (Ok v) mid → IsWellFormed g mid → LacksPlaceBeside g guest kept mid.tables new number → LacksPlaceBeside g guest kept old.tables new number
  lacks-looked {T} v guest kept number old mid new k well_formed = lacks-since guest kept number old.tables mid.tables new k.tables.header
      (λ total some. run-same g old.tables mid.tables total (ap bytes_of k.tables.unchanged_but_faults.bytes) k.tables.header)
      (some-quarter mid well_formed) (lacks-as-file g guest old.tables mid.tables (ap bytes_of k.tables.unchanged_but_faults.bytes) k.tables.header)

  -- A quarter of the space is more than is needed.
  pub lacks-table : (guest : ℕ) (kept : Option ℕ) (number : ℕ) (mid new : Qcow2 S g) → IsWellFormed g mid
      → HasNoPlace g (IsForTable g guest mid.tables) (guest / entries_of_cluster mid.tables.file.header.fields)
      (enough_for_table mid.tables guest) mid.tables new.tables number
      → LacksPlaceBeside g guest kept mid.tables new.tables number
  lacks-table guest kept number mid new well_formed (asked, what, inl far) = (asked, inl what, inl far)
  lacks-table guest kept number mid new well_formed (asked, what, inr (near, full)) = (
    asked,
    inl what,
    inr (
      near,
      (let enough = quarter-enough g mid guest 1 well_formed (words-some g mid well_formed) near in
          full-more g asked (enough_for_table mid.tables guest) (space mid.tables.file.header.fields / 4) number mid.tables new.tables
          (omega (arith, enough)) full),
    ),
  )

  pub lacks-cluster : (guest table : ℕ) (kept : Option ℕ) (n number : ℕ) (first mid new : Qcow2 S g) → IsWellFormed g first → IsWellFormed g mid
      → IsSome first.tables.space → n ≤ entries_of_cluster first.tables.file.header.fields
      → EnsuresTable g (enough_for_table first.tables guest) guest first (Ok table) mid → kept ≡ None
      → LacksFreeRun g 1 (enough_for_run mid.tables n) mid.tables new.tables number
      → LacksPlaceBeside g guest kept first.tables new.tables number
  lacks-cluster guest table kept n number first mid new well_formed safe' some few t none full =
      let row : guest / entries_of_cluster mid.tables.file.header.fields ≡ guest / entries_of_cluster first.tables.file.header.fields =
      ap (λ (b : ℕ). guest / (2 ^ b / 8)) t.keeps.bits in
      let near = subst (λ k. k + 1 ≤ 2 ^ 22) row (safe-short g mid (guest / entries_of_cluster mid.tables.file.header.fields) safe' (t.table_linked well_formed some).1) in
      let leaves = t.leaves well_formed in
      let same : enough_for_run mid.tables n ≡ enough_for_run first.tables n = ap (λ k. k / 16 + 3 * n) leaves.as_large in
      let enough = quarter-enough g first guest n well_formed few near in (
        1,
        inr (none, refl),
        inr (
          near,
          full-more g 1 (enough_for_table first.tables guest + enough_for_run first.tables n) (space first.tables.file.header.fields / 4) number
              first.tables new.tables enough
              (full-behind g 1 (enough_for_table first.tables guest) (enough_for_run first.tables n) number first.tables mid.tables new.tables
              (run-enough g first n well_formed) leaves (subst (λ k. LacksFreeRun g 1 k mid.tables new.tables number) same full)),
        ),
      )

  -- A statement on well-formed images holds with a known preallocated cluster too, also after a call that kept the disk.
  keeps-known : (ok : Type 0) (guest : ℕ) (kept : Option ℕ) (old new : Qcow2 S g) → KeepsDisk g ok old new → KeepsDiskWhere g (HasKept g guest kept old) ok old new
  keeps-known ok guest kept old new k =
      keeps-disk-then g (HasKept g guest kept old) (IsWellFormed g old) (IsWellFormed g old) ⊤ ok old old new tt (λ known. known.well_formed) (λ known. known.well_formed) (keeps-disk-same g ⊤ old) k

  keeps-then : (ok : Type 0) (guest : ℕ) (kept : Option ℕ) (old mid new : Qcow2 S g) → KeepsDisk g ⊤ old mid → KeepsDiskWhere g (HasKept g guest kept mid) ok mid new
      → KeepsDiskWhere g (HasKept g guest kept old) ok old new
  keeps-then ok guest kept old mid new first second =
      keeps-disk-then g (HasKept g guest kept old) (IsWellFormed g old) (HasKept g guest kept mid) ⊤ ok old mid new tt (λ known. known.well_formed)
      (kept-behind g guest kept old mid first) first second

  which-host : (host : ℕ) (kept : Option ℕ) (P : Type 0) → IfSome kept (λ x. (host ≡ x) × P) → IfSome kept (λ x. host ≡ x)
  which-host host None P is = tt
  which-host host (Some x) P is = is.0

  -- Reserving fails if the free space isn't loaded.
  pub reserve-unloaded : (guest : ℕ) (kept : Option ℕ) (n : ℕ) (bytes : List ℕ) (old new : Qcow2 S g) (e : Fault) → LoadsSpace g old (Err e) new
      → Reserves g guest kept n bytes old (Err e) new
  reserve-unloaded guest kept n bytes old new e l = record {
    keeps = keeps-known (IsNotResourceError e) guest kept old new l.keeps;
    leaks = λ known whole. leaks-but g old new l.leaks;
    marked = quiet-marked g {T = Unit} old new e l.same;
    host_addressable = tt;
    many = tt;
    which = tt;
    reserved = λ known. tt;
    own = λ known. tt;
    reaches = tt;
    stored = λ known. tt;
    cause = why-loaded (LacksPlaceBeside g guest kept old.tables new.tables) old new e l.cause l.known_cause;
  }

  -- Reserving fails if no L2 table is made.
  pub reserve-tableless : (guest : ℕ) (kept : Option ℕ) (n : ℕ) (bytes : List ℕ) (old mid new : Qcow2 S g) (e : Fault) → LoadsSpace g old (Ok tt) mid
      → EnsuresTable g (enough_for_table mid.tables guest) guest mid (Err e) new → (begun now : Bool) → is_some old.tables.space ≡ not begun
      → Begins {T = ℕ} g begun mid (Err e) now new → Reserves g guest kept n bytes old (Err e) new
  reserve-tableless guest kept n bytes old mid new e l t begun now is begins = record {
    keeps = keeps-known (IsNotResourceError e) guest kept old new (keeps-disk-both g ⊤ (IsNotResourceError e) old mid new tt l.keeps t.keeps);
    leaks = λ known whole. leaks-but g old new (leaks-both g old mid new l.leaks (t.leaks (l.keeps.safely known.well_formed tt) whole));
    marked = begins-marked g {T = ℕ} now old new e (begins-then g {T = Unit} {U = ℕ} false begun now old mid new (Ok tt) (Err e) tt
        (begins-loaded g old mid begun is l) begins);
    host_addressable = tt;
    many = tt;
    which = tt;
    reserved = λ known. tt;
    own = λ known. tt;
    reaches = tt;
    stored = λ known. tt;
    cause = cause-weaker (allocation-reserves old mid new l.keeps l.known (λ number well_formed none.
        let safe' = l.keeps.safely well_formed tt in
        lacks-loaded guest kept number old mid new l well_formed safe' (lacks-table guest kept number mid new safe' none))) e
        t.cause;
  }

  -- Reserving fails if the data isn't stored.
  pub reserve-unplaced : (guest table : ℕ) (kept : Option ℕ) (n : ℕ) (bytes : List ℕ) (old first mid new : Qcow2 S g) (e : Fault)
      → n ≤ entries_of_cluster old.tables.file.header.fields
      → LoadsSpace g old (Ok tt) first → EnsuresTable g (enough_for_table first.tables guest) guest first (Ok table) mid
      → PlacesContent g guest kept n bytes mid (Err e) new
      → (begun between now : Bool) → is_some old.tables.space ≡ not begun → Begins {T = ℕ} g begun first (Ok table) between mid
      → Begins {T = Placed} g between mid (Err e) now new → Reserves g guest kept n bytes old (Err e) new
  reserve-unplaced guest table kept n bytes old first mid new e few l t s begun between now is first-begins begins =
      let there = keeps-disk-both g ⊤ ⊤ old first mid tt l.keeps t.keeps in record {
        keeps = keeps-then (IsNotResourceError e) guest kept old mid new there s.keeps;
        leaks = λ known whole. leaks-then g (λ c. 0) old mid new (leaks-both g old first mid l.leaks (t.leaks (l.keeps.safely known.well_formed tt) tt))
            (s.leaks (kept-behind g guest kept old mid there known) whole);
        marked = begins-marked g {T = Placed} now old new e
            (begins-then g {T = ℕ} {U = Placed} false between now old mid new (Ok table) (Err e) tt
            (begins-then g {T = Unit} {U = ℕ} false begun between old first mid (Ok tt) (Ok table) tt (begins-loaded g old first begun is l) first-begins)
            begins);
        host_addressable = tt;
        many = tt;
        which = tt;
        reserved = λ known. tt;
        own = λ known. tt;
        reaches = tt;
        stored = λ known. tt;
        cause = cause-weaker (allocation-reserves old mid new there (t.known l.known) (λ number well_formed full.
            let safe' = l.keeps.safely well_formed tt in
            lacks-loaded guest kept number old first new l well_formed safe'
            (lacks-cluster guest table kept n number first mid new safe' (there.safely well_formed tt) l.known
            (subst (λ (b : ℕ). n ≤ 2 ^ b / 8) (sym l.keeps.bits) few) t full.0 full.1))) e
            s.cause;
      }

  -- The L1 table in memory says which tables aren't shared.
  own-still : (guest : ℕ) (mid new : Qcow2 S g) → IsWellFormed g mid → IsWellFormed g new → new.tables.l1 ≡ mid.tables.l1
      → new.tables.file.header.fields.cluster_bits ≡ mid.tables.file.header.fields.cluster_bits
      → new.tables.file.header.fields.l1_entries ≡ mid.tables.file.header.fields.l1_entries
      → guest / entries_of_cluster mid.tables.file.header.fields < mid.tables.file.header.fields.l1_entries
      → HasOwnTable g guest mid.tables → HasOwnTable g guest new.tables
  own-still guest mid new well_formed safe' l1 bits entries inside own =
      let h : Fields = mid.tables.file.header.fields in
      let h' : Fields = new.tables.file.header.fields in
      let row : guest / entries_of_cluster h' ≡ guest / entries_of_cluster h = ap (λ (b : ℕ). guest / (2 ^ b / 8)) bits in
      let inside' : guest / entries_of_cluster h' < h'.l1_entries = subst (λ (n : ℕ). n < h'.l1_entries) (sym row)
      (subst (λ (n : ℕ). guest / entries_of_cluster h < n) (sym entries) inside) in
      ap is_copied (sym (top-word (file_of g new.tables) h' new.tables.l1 safe'.seen.l1 (guest / entries_of_cluster h') inside')
      ∙ ap (λ (top : TableValue). slice_index top.raw_entries (guest / entries_of_cluster h')) l1
      ∙ ap (slice_index mid.tables.l1.raw_entries) row
      ∙ top-word (file_of g mid.tables) h mid.tables.l1 well_formed.seen.l1 (guest / entries_of_cluster h) inside)
      ∙ own

  -- Consecutive guest clusters of one table have that table.
  pub under-row : (m : Metadata) (table guest n : ℕ) → guest % entries_of_cluster m.header.fields + n ≤ entries_of_cluster m.header.fields
      → IsUnder m table guest → (i : ℕ) → i < n → IsUnder m table (guest + i)
  under-row m table guest n fits under i less =
      let w : ℕ = entries_of_cluster m.header.fields in
      let parts : guest + i ≡ guest / w * w + (guest % w + i) = (let whole = div-add-mod' guest w in omega (arith, whole)) in
      let row : (guest + i) / w ≡ guest / w = ap (λ x. x / w) parts ∙ div-mul-add (guest / w) w (guest % w + i) (omega (arith, fits, less)) in
      record {
        inside = rw row under.inside;
        table_linked = rw row under.table_linked;
        table_nonzero = under.table_nonzero;
      }

  -- Otherwise the clusters are reserved.
  pub reserve-done : (guest table : ℕ) (r : Placed) (kept : Option ℕ) (n : ℕ) (bytes : List ℕ) (old first mid new : Qcow2 S g)
      → guest % entries_of_cluster old.tables.file.header.fields + n ≤ entries_of_cluster old.tables.file.header.fields
      → LoadsSpace g old (Ok tt) first → EnsuresTable g (enough_for_table first.tables guest) guest first (Ok table) mid
      → PlacesContent g guest kept n bytes mid (Ok r) new
      → Reserves g guest kept n bytes old (Ok (record { table = table; host = r.host; count = r.count; is_kept = r.is_kept })) new
  reserve-done guest table r kept n bytes old first mid new fits l t s =
      let there = keeps-disk-both g ⊤ ⊤ old first mid tt l.keeps t.keeps in
      let all = keeps-then ⊤ guest kept old mid new there s.keeps in record {
        keeps = all;
        leaks = λ known whole. leaks-then g (reserved_as r.is_kept r.host r.count) old mid new
            (leaks-both g old first mid l.leaks (t.leaks (l.keeps.safely known.well_formed tt) tt))
            (s.leaks (kept-behind g guest kept old mid there known) tt);
        marked = tt;
        many = s.many;
        host_addressable = subst (λ (b : ℕ). IsAddressable b (r.host + (r.count - 1))) there.bits s.host_addressable;
        reaches = subst (λ (b : ℕ). (r.host + r.count) * 2 ^ b ≤ length (g.state new.tables.file.image).bytes) there.bits s.reaches;
        which = (s.which.0, which-host r.host kept (new.tables.space ≡ mid.tables.space) s.which.1);
        reserved = λ known.
            let safe' = l.keeps.safely known.well_formed tt in
            let made = t.table_linked safe' l.known in
            let known' = kept-behind g guest kept old mid there known in
            let own = s.own known' in
            let same : entries_of_cluster new.tables.file.header.fields ≡ entries_of_cluster mid.tables.file.header.fields = ap (λ (b : ℕ). 2 ^ b / 8) s.keeps.bits in
            let row : guest / entries_of_cluster new.tables.file.header.fields ≡ guest / entries_of_cluster mid.tables.file.header.fields = ap (λ (n : ℕ). guest / n) same in
            record {
              space = own.0;
              space_known = own.1;
              in_table = under-row (rest_of g new.tables own.0) table guest r.count
                  (subst (λ (b : ℕ). guest % (2 ^ b / 8) + r.count ≤ 2 ^ b / 8) (sym all.bits) (let few = s.many.1 in omega (arith, fits, few))) (record {
                    inside = subst (λ (n : ℕ). n < new.tables.file.header.fields.l1_entries) (sym row)
                        (subst (λ (n : ℕ). guest / entries_of_cluster mid.tables.file.header.fields < n) (sym s.top.entries) made.1);
                    table_linked = s.top.tables (known', tt) (guest / entries_of_cluster new.tables.file.header.fields)
                        ∙ ap (λ (n : ℕ). l2_table (file_of g mid.tables) mid.tables.file.header.fields n) row ∙ made.2
                        ∙ ap (λ (b : ℕ). table * 2 ^ b) (sym s.keeps.bits);
                    table_nonzero = made.0;
                  });
              host_nonzero = own.2;
              own = own.3;
              room = own.4;
            };
        own = λ known. own-still guest mid new (there.safely known.well_formed tt) (all.safely known tt) s.top.l1 s.keeps.bits s.top.entries
            (t.table_linked (l.keeps.safely known.well_formed tt) l.known).1 (t.own (l.keeps.safely known.well_formed tt) l.known);
        stored = λ known i less.
            ap (λ (b : ℕ). file_of g new.tables (r.host * 2 ^ b + i)) (sym there.bits) ∙ s.content (kept-behind g guest kept old mid there known) i less;
        cause = tt;
      }

  -- No mapping is prepared if no content is made.
  pub fresh-unfilled : {B : Type 0} (u : GhostsBelow B) (asked : Asked) (n : ℕ) (old new : Qcow2 S g × B) (e : Fault)
      → MakesContent g u (first_part old.0.tables.file.header.fields asked) old (Err e) new → PreparesFresh g u asked n old (Err e) new
  fresh-unfilled u asked n old new e m = record {
    middle = new.0;
    keeps = keeps-image-disk {T = Vec ℕ Global} g old.0 new.0 (Err e) m.keeps;
    leaks = λ well_formed free whole. leaks-kept g {T = Vec ℕ Global} old.0 new.0 (Err e) m.keeps;
    below = m.below;
    ok = tt;
    err = (
      refl,
      quiet-marked g {T = Vec ℕ Global} old.0 new.0 e m.keeps,
      elim m.err [
        | inl own ↦ inl (cause-weaker (record { before = omega arith; after = omega arith; damaged = λ wrong. wrong; counter = λ wrong. wrong; full = absurd; limit = λ number none well_formed. absurd (none well_formed) }) e own)
        | inr below ↦ inr below
      ],
    );
  }

  module _ {B : Type 0} (u : GhostsBelow B) (asked : Asked) (guest n : ℕ) (content : Vec ℕ Global) (old : Qcow2 S g × B) (first : Qcow2 S g) (y : B)
      (m : MakesContent g u (first_part old.0.tables.file.header.fields asked) old (Ok content) (first, y)) where
    made : KeepsDisk g ⊤ old.0 first
    made = keeps-image-disk {T = Vec ℕ Global} g old.0 first (Ok content) m.keeps

    -- No mapping is prepared if the lookup of the preallocated cluster fails.
    pub fresh-untold : (new : Qcow2 S g) (e : Fault) → TellsKept g guest first (Err e) new → PreparesFresh g u asked n old (Err e) (new, y)
    fresh-untold new e t = record {
      middle = new;
      keeps = keeps-disk-both g ⊤ (IsNotResourceError e) old.0 first new tt made (keeps-image-disk {T = Option ℕ} g first new (Err e) t.keeps);
      leaks = λ well_formed free whole. leaks-both g old.0 first new (leaks-kept g {T = Vec ℕ Global} old.0 first (Ok content) m.keeps)
          (leaks-kept g {T = Option ℕ} first new (Err e) t.keeps);
      below = looked_under_weaker u ⊤ (IsNotResourceError e) old.1 y (λ not_resource_error. tt) m.below;
      ok = tt;
      err = (
        refl,
        marked-behind {T = Vec ℕ Global} old.0 first new content e m.keeps (quiet-marked g {T = Option ℕ} first new e t.keeps),
        inl (cause-weaker (reserves-behind old.0 first new made (λ number well_formed none. absurd none)) e (why-looked g (λ number. ⊥) first new guest e t.known_cause t.cause)),
      );
    }

  module _ {B : Type 0} (u : GhostsBelow B) (asked : Asked) (guest n : ℕ) (content : Vec ℕ Global) (old : Qcow2 S g × B) (first : Qcow2 S g) (y : B)
      (m : MakesContent g u (first_part old.0.tables.file.header.fields asked) old (Ok content) (first, y))
      (kept : Option ℕ) (mid : Qcow2 S g) (t : TellsKept g guest first (Ok kept) mid) where
    abbrev h : Fields
    h = old.0.tables.file.header.fields

    told : KeepsDisk g ⊤ first mid
    told = keeps-image-disk {T = Option ℕ} g first mid (Ok kept) t.keeps

    looked : KeepsDisk g ⊤ old.0 mid
    looked = keeps-disk-both g ⊤ ⊤ old.0 first mid tt (made u asked guest n content old first y m) told

    known-there : IsWellFormed g old.0 → HasKept g guest kept mid
    known-there well_formed =
        let there = (made u asked guest n content old first y m).safely well_formed tt in
        record { well_formed = looked.safely well_formed tt; is = t.kept_host there.seen ∙ ap kept_by (sym (told.raw_entries there tt guest)) }

    kept-before : IsWellFormed g old.0 → kept ≡ kept_for g guest old.0.tables
    kept-before well_formed = (known-there well_formed).is ∙ ap kept_by (looked.raw_entries well_formed tt guest)

    looked-leaks : KeepsLeaks g old.0 mid
    looked-leaks = leaks-both g old.0 first mid (leaks-kept g {T = Vec ℕ Global} old.0 first (Ok content) m.keeps)
        (leaks-kept g {T = Option ℕ} first mid (Ok kept) t.keeps)

    keeps-reserved : (ok : Type 0) (new : Qcow2 S g) → KeepsDiskWhere g (HasKept g guest kept mid) ok mid new → KeepsDisk g ok old.0 new
    keeps-reserved ok new k =
        keeps-disk-then g (IsWellFormed g old.0) (IsWellFormed g old.0) (HasKept g guest kept mid) ⊤ ok old.0 mid new tt (λ well_formed. well_formed) known-there looked k

    -- No mapping is prepared if no cluster is reserved.
    pub fresh-unreserved : (is : guest ≡ asked.offset / cluster_size h) (new : Qcow2 S g) (e : Fault) → Reserves g guest kept n content.items mid (Err e) new → PreparesFresh g u asked n old (Err e) (new, y)
    fresh-unreserved is new e r = record {
      middle = new;
      keeps = keeps-reserved (IsNotResourceError e) new r.keeps;
      leaks = λ well_formed free whole. leaks-all g old.0 new (leaks-then g (λ c. 0) old.0 mid new looked-leaks (r.leaks (known-there well_formed) whole));
      below = looked_under_weaker u ⊤ (IsNotResourceError e) old.1 y (λ not_resource_error. tt) m.below;
      ok = tt;
      err = (
        refl,
        marked-behind {T = Vec ℕ Global} old.0 first new content e m.keeps (marked-behind {T = Option ℕ} first mid new kept e t.keeps r.marked),
        inl (cause-weaker (reserves-behind old.0 mid new looked (λ number well_formed lacks. subst (λ k. LacksPlace g k old.0.tables new.tables number) is
            (subst (λ o. LacksPlaceBeside g guest o old.0.tables new.tables number) (kept-before well_formed)
            (lacks-looked {T = Vec ℕ Global} content guest kept number old.0 first new.tables m.keeps
            ((made u asked guest n content old first y m).safely well_formed tt)
            (lacks-looked {T = Option ℕ} kept guest kept number first mid new.tables t.keeps (looked.safely well_formed tt) lacks))))) e r.cause),
      );
    }

    -- Otherwise it is prepared.
    module _ (is : guest ≡ asked.offset / cluster_size h) (any : 0 < n) (clusters : Reserved) (middle : Qcow2 S g)
        (r : Reserves g guest kept n content.items mid (Ok clusters) middle) where
      bits : mid.tables.file.header.fields.cluster_bits ≡ h.cluster_bits
      bits = looked.bits

      some : 0 < cluster_size h
      some = pow_pos h.cluster_bits

      stored : IsWellFormed g old.0 → (p : ℕ) → file_of g middle.tables (place_in h clusters.host p) ≡ slice_index content.items (p % cluster_size h)
      stored well_formed p =
          let inside : p % cluster_size h < length content.items = subst (λ (n : ℕ). p % cluster_size h < n) (sym m.ok.long) (mod_below p (cluster_size h) some) in
          ap (λ (b : ℕ). file_of g middle.tables (clusters.host * 2 ^ b + p % cluster_size h)) (sym bits)
          ∙ r.stored (known-there well_formed) (p % cluster_size h) inside

      pub fresh-done : (mapping : PreparedDataMapping PreparedMappingState) (new : Qcow2 S g)
          → KeepsMapping g (run_part h clusters.count asked) clusters middle mapping new → PreparesFresh g u asked n old (Ok mapping) (new, y)
      fresh-done mapping new holds = record {
        middle = middle;
        keeps = keeps-reserved ⊤ middle r.keeps;
        leaks = λ well_formed free whole. leaks-held g (run_part h clusters.count asked) clusters old.0 middle new mapping
            (leaks-then g (reserved_as clusters.is_kept clusters.host clusters.count) old.0 mid middle looked-leaks (r.leaks (known-there well_formed) tt)) holds
            (r.keeps.unspent ∙ looked.unspent ∙ free);
        below = m.below;
        ok = record {
          clusters = clusters;
          holds = holds;
          any = r.many.0;
          count_bounded = r.many.1;
          host_addressable = subst (λ (b : ℕ). IsAddressable b (clusters.host + (clusters.count - 1))) bits r.host_addressable;
          reaches = subst (λ (b : ℕ). (clusters.host + clusters.count) * 2 ^ b ≤ length (g.state middle.tables.file.image).bytes) bits r.reaches;
          reserved = λ well_formed. subst (λ (n : ℕ). IsReservedFor g n clusters middle.tables) is (r.reserved (known-there well_formed));
          filled = λ well_formed under p first left. subst (λ (b : ℕ). IsCopied (at (u.layers_below old.1)) (layer_of g old.0) p b) (sym (stored well_formed p))
              (m.ok.shows well_formed under p first left);
        };
        err = tt;
      }

  -- A lookup before the preparation doesn't matter.
  module _ {T B : Type 0} (u : GhostsBelow B) (asked : Asked) (n : ℕ) (old mid : Qcow2 S g) (x : B) (v : T) (k : KeepsImage g old (Ok v) mid) where
    abbrev was : Fields
    was = old.tables.file.header.fields

    abbrev is : Fields
    is = mid.tables.file.header.fields

    fields : is ≡ was
    fields = ap (λ (H : Header). H.fields) k.tables.header

    looked-on : KeepsDisk g ⊤ old mid
    looked-on = keeps-image-disk {T = T} g old mid (Ok v) k

    holds-behind : (middle new : Qcow2 S g) (mapping : PreparedDataMapping PreparedMappingState) → HoldsFresh g u asked n (mid, x) middle mapping new
        → HoldsFresh g u asked n (old, x) middle mapping new
    holds-behind middle new mapping f = record {
      clusters = f.clusters;
      any = f.any;
      count_bounded = f.count_bounded;
      holds = subst (λ (h : Fields). KeepsMapping g (run_part h f.clusters.count asked) f.clusters middle mapping new) fields f.holds;
      host_addressable = subst (λ (h : Fields). IsAddressable h.cluster_bits (f.clusters.host + (f.clusters.count - 1))) fields f.host_addressable;
      reaches = subst (λ (h : Fields). (f.clusters.host + f.clusters.count) * cluster_size h ≤ length (g.state middle.tables.file.image).bytes) fields f.reaches;
      reserved = λ well_formed. subst (λ (h : Fields). IsReservedFor g (asked.offset / cluster_size h) f.clusters middle.tables) fields
          (f.reserved (looked-on.safely well_formed tt));
      filled = λ well_formed under. subst (λ (l : Layer). (p : ℕ) → IsInFirst was asked p → IsLeft (first_part was asked) p
          → IsCopied (at (u.layers_below x)) l p (file_of g middle.tables (place_in was f.clusters.host p))) (looked-on.layer well_formed tt)
          (subst (λ (h : Fields). (p : ℕ) → IsInFirst h asked p → IsLeft (first_part h asked) p
          → IsCopied (at (u.layers_below x)) (layer_of g mid) p (file_of g middle.tables (place_in h f.clusters.host p))) fields
          (f.filled (looked-on.safely well_formed tt) under));
    }

    shown-behind : (part : Asked) (v : Value) → IsWellFormed g old → NeedsShown g u part (mid, x) v → NeedsShown g u part (old, x) v
    shown-behind part v well_formed which = (
      which.0,
      subst (λ (h : Fields). IsNeededFor h part which.0) fields which.1,
      ap (λ (l : Layer). through (l.cell which.0) (at (u.layers_below x) which.0)) (sym (looked-on.layer well_formed tt)) ∙ which.2,
    )

    why-behind-copy : (part : Asked) (y : B) (e : Fault) → IsWellFormed g old → WhyNotCopied g u part (mid, x) y e → WhyNotCopied g u part (old, x) y e
    why-behind-copy part y DamagedTable well_formed why = shown-behind part damaged_place well_formed why
    why-behind-copy part y Barred well_formed why = shown-behind part barred well_formed why
    why-behind-copy part y e well_formed why = why

    copy-behind : (y : B) (e : Fault) → RefusesCopy g u (first_part is asked) (mid, x) y e → RefusesCopy g u (first_part was asked) (old, x) y e
    copy-behind y e c =
        let at-was : RefusesCopy g u (first_part was asked) (mid, x) y e = subst (λ (h : Fields). RefusesCopy g u (first_part h asked) (mid, x) y e) fields c in record {
          failed = at-was.failed;
          cause = λ well_formed under. why-behind-copy (first_part was asked) y e well_formed (at-was.cause (looked-on.safely well_formed tt) under);
        }

    leaks-behind : (result : Result (PreparedDataMapping PreparedMappingState) Fault) (new : Qcow2 S g) (y : B)
        → PreparesFresh g u asked n (mid, x) result (new, y) → IsWellFormed g old → old.unspent ≡ None → HadNoResourceError result → KeepsLeaks g old new
    leaks-behind result new y p well_formed free whole = leaks-both g old mid new (leaks-kept g {T = T} old mid (Ok v) k)
        (p.leaks (looked-on.safely well_formed tt) (k.unspent ∙ free) whole)

    lacks-behind : (number : ℕ) → IsWellFormed g old → (new : Tables S g) → LacksPlace g (asked.offset / cluster_size is) mid.tables new number
        → LacksPlace g (asked.offset / cluster_size is) old.tables new number
    lacks-behind number well_formed new lacks =
        let guest : ℕ = asked.offset / cluster_size is in
        subst (λ o. LacksPlaceBeside g guest o old.tables new number) (ap kept_by (looked-on.raw_entries well_formed tt guest))
        (lacks-looked {T = T} v guest (kept_for g guest mid.tables) number old mid new k (looked-on.safely well_formed tt) lacks)

    pub fresh-behind : (result : Result (PreparedDataMapping PreparedMappingState) Fault) (new : Qcow2 S g) (y : B)
        → PreparesFresh g u asked n (mid, x) result (new, y) → PreparesFresh g u asked n (old, x) result (new, y)
    fresh-behind (Ok mapping) new y p = record {
      middle = p.middle;
      keeps = keeps-disk-both g ⊤ ⊤ old mid p.middle tt looked-on p.keeps;
      leaks = leaks-behind (Ok mapping) new y p;
      below = p.below;
      ok = holds-behind p.middle new mapping p.ok;
      err = tt;
    }
    fresh-behind (Err e) new y p = record {
      middle = p.middle;
      keeps = keeps-disk-both g ⊤ (IsNotResourceError e) old mid p.middle tt looked-on p.keeps;
      leaks = leaks-behind (Err e) new y p;
      below = p.below;
      ok = tt;
      err = (
        p.err.0,
        marked-behind {T = T} old mid p.middle v e k p.err.1,
        elim p.err.2 [
          | inl own ↦ inl (cause-weaker (reserves-behind old mid p.middle looked-on (λ number well_formed lacks. subst (λ (h : Fields). LacksPlace g (asked.offset / cluster_size h) old.tables p.middle.tables number) fields
              (lacks-behind number well_formed p.middle.tables lacks))) e own)
          | inr below ↦ inr (copy-behind y e below)
        ],
      );
    }

  -- `Fault::Limit` means that the missing parts of the first guest cluster couldn't be allocated.
  pub fresh-lacks : {B : Type 0} (u : GhostsBelow B) (asked : Asked) (n : ℕ) (old new : Qcow2 S g) (x y : B)
      (result : Result (PreparedDataMapping PreparedMappingState) Fault) → PreparesFresh g u asked n (old, x) result (new, y) → IsWellFormed g old
      → u.coherent_below x → IfErr result (λ e. (number : ℕ) → e ≡ Limit number
      → LacksPlace g (asked.offset / cluster_size old.tables.file.header.fields) old.tables new.tables number)
  fresh-lacks u asked n old new x y (Ok mapping) p well_formed under = tt
  fresh-lacks u asked n old new x y (Err e) p well_formed under = λ number same. elim p.err.2 [
    | inl own ↦
        let lacks : LacksPlace g (asked.offset / cluster_size old.tables.file.header.fields) old.tables p.middle.tables number =
        subst (λ (f : Fault). HasCause (reserving_causes g (LacksPlace g (asked.offset / cluster_size old.tables.file.header.fields) old.tables p.middle.tables) old p.middle) f) same own well_formed in
        subst (λ (d : Qcow2 S g). LacksPlace g (asked.offset / cluster_size old.tables.file.header.fields) old.tables d.tables number) (sym p.err.0) lacks
    | inr below ↦ absurd (subst (λ (f : Fault). WhyNotCopied g u (first_part old.tables.file.header.fields asked) (old, x) y f) same (below.cause well_formed under))
  ]

  -- A run that is found after a lookup is one of the image before.
  module _ {T B : Type 0} (u : GhostsBelow B) (asked : Asked) (old mid : Qcow2 S g) (x : B) (v : T) (k : KeepsImage g old (Ok v) mid) where
    run-behind : (n : ℕ) → IsRun g asked n mid → IsRun g asked n old
    run-behind n run =
        let same : mid.tables.file.header.fields ≡ old.tables.file.header.fields = ap (λ (H : Header). H.fields) k.tables.header in
        let bytes : file_of g mid.tables ≡ file_of g old.tables = ap bytes_of k.tables.unchanged_but_faults.bytes in record {
          any = run.any;
          row = subst (λ (h : Fields). asked.offset / cluster_size h % entries_of_cluster h + n ≤ entries_of_cluster h) same run.row;
          covered = subst (λ (h : Fields). (i : ℕ) → 0 < i → i < n → IsCovered h asked (asked.offset / cluster_size h + i)) same run.covered;
          uncopied = λ seen. subst (λ (h : Fields). IsUncopied (entry (file_of g old.tables) h (asked.offset / cluster_size h))
              → (i : ℕ) → i < n → IsUncopied (entry (file_of g old.tables) h (asked.offset / cluster_size h + i))) same
              (subst (λ (b : Bytes). IsUncopied (entry b mid.tables.file.header.fields (asked.offset / cluster_size mid.tables.file.header.fields))
              → (i : ℕ) → i < n → IsUncopied (entry b mid.tables.file.header.fields (asked.offset / cluster_size mid.tables.file.header.fields + i))) bytes
              (run.uncopied (k.tables.seen seen)));
        }

    pub prepared-behind : (result : Result (PreparedDataMapping PreparedMappingState) Fault) (new : Qcow2 S g) (y : B)
        → PreparesRun g u asked (mid, x) result (new, y) → PreparesRun g u asked (old, x) result (new, y)
    prepared-behind result new y p = record {
      n = p.n;
      run = run-behind p.n p.run;
      prepares = fresh-behind {T = T} u asked p.n old mid x v k result new y p.prepares;
    }

  pub run-prepared : {B : Type 0} (u : GhostsBelow B) (asked : Asked) (n : ℕ) (old mid : Qcow2 S g) (x : B) → FindsRun g asked old (Ok n) mid
      → (result : Result (PreparedDataMapping PreparedMappingState) Fault) (new : Qcow2 S g) (y : B)
      → PreparesFresh g u asked n (mid, x) result (new, y) → PreparesRun g u asked (old, x) result (new, y)
  run-prepared u asked n old mid x found result new y p = record {
    n = n;
    run = found.ok;
    prepares = fresh-behind {T = ℕ} u asked n old mid x n found.keeps result new y p;
  }

  pub run-unfound : {B : Type 0} (u : GhostsBelow B) (asked : Asked) (old new : Qcow2 S g) (x : B) (e : Fault) → FindsRun g asked old (Err e) new
      → PreparesRun g u asked (old, x) (Err e) (new, x)
  run-unfound u asked old new x e found = record {
    n = 1;
    run = found.one;
    prepares = record {
      middle = new;
      keeps = keeps-image-disk {T = ℕ} g old new (Err e) found.keeps;
      leaks = λ well_formed free whole. leaks-kept g {T = ℕ} old new (Err e) found.keeps;
      below = looked_under_same u (IsNotResourceError e) x;
      ok = tt;
      err = (
        refl,
        quiet-marked g {T = ℕ} old new e found.keeps,
        inl (why-looked g (LacksPlace g (asked.offset / cluster_size old.tables.file.header.fields) old.tables new.tables) old new
            (asked.offset / cluster_size old.tables.file.header.fields) e found.known_cause found.cause),
      );
    };
  }

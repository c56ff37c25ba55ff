-- Lemmas on unmapping the guest clusters from one on: nothing, those of one L2 table, and two steps in sequence.
use Rattle.std.proofs.Common.{◌≡◌, ℕ, ◌+◌, ◌-◌, ◌*◌, ◌/◌, ◌%◌, ◌^◌, ◌<◌, ◌≤◌, refl, arith, ap, sym, subst, ◌∙◌, inl, inr, List, ◌∷◌, Option, Some, None, Result, Ok, Err}
use Rattle.std.specs.Prelude.{⊤, ◌⊎◌, IsTrue, IsSome, IfErr, OnOk}
use Rattle.std.proofs.Math.Nat.{le_refl}
use Rattle.std.proofs.lemmas.Bool.{cases_lt, lt-ltb}
use Rattle.std.proofs.lemmas.Nat.{div-add-mod', div-mul-add}
use Rattle.imago_storage.specs.State.{StorageState}
use Rattle.imago_storage.specs.Disk.{Value}
use Rattle.imago_storage.specs.Passing.{UnrefusedCrashImages}
use Rattle.imago_storage.specs.declared.fault.Fault.{Fault}
use Rattle.imago_storage.specs.declared.fault.Fault.TheVariants.{DamagedTable, Memory, Storage}
use Rattle.imago_storage.specs.declared.storage.Storage.{Ghosts}
use Rattle.imago_storage.proofs.Composing.{later_both}
use Rattle.imago_access.specs.Chain.{at}
use Rattle.imago_access.specs.Files.{HadNoResourceError, IsNotResourceError}
use Rattle.imago_access.specs.Layer.{Cell, Fixed, Layer, through}
use Rattle.imago_access.specs.Stops.{Left, May}
use Rattle.imago_access.proofs.Stopping.{left_weaker, passes_none, passes_on, passes_weaker, then_left}
use Rattle.qcow2_types.specs.Bytes.{Bytes}
use Rattle.qcow2_types.specs.Entries.{entry}
use Rattle.qcow2_types.specs.Header.{Fields, Header, cluster_size, entries_of_cluster}
use Rattle.qcow2_types.specs.Words as mappings
use Rattle.qcow2_alloc.specs.Causes.{Causes, HasCause}
use Rattle.qcow2_alloc.specs.Going.{writing_causes}
use Rattle.qcow2_alloc.proofs.Causes.{Implies, cause-weaker}
use Rattle.qcow2_clusters.specs.Clearing.{AreUnder}
use Rattle.qcow2_clusters.specs.declared.clearing.Clearing.TheVariants.{Unmap}
use Rattle.qcow2_clusters.specs.declared.space.Space.{Space}
use Rattle.qcow2_image.specs.Clearing.{ClearsClusters, ClearsWith, IsUnreserved}
use Rattle.qcow2_image.specs.ImageLayer.{blank_of, qcow2_fixed}
use Rattle.qcow2_image.specs.Looking.{place_of_table}
use Rattle.qcow2_image.specs.Resizing.{GivesUnmapped, UnmapsFrom, UnmapsTail}
use Rattle.qcow2_image.specs.Rooms.{IsWellFormed, is_sound, rest_of}
use Rattle.qcow2_image.specs.Seen.{file_of, layer_of}
use Rattle.qcow2_image.specs.declared.mode.OpenMode.{OpenMode}
use Rattle.qcow2_image.specs.declared.qcow2.Qcow2.{Qcow2}
use Rattle.qcow2_image.specs.declared.tables.Tables.{Tables}
use Rattle.qcow2_image.proofs.CallStarts.{still-cut}
use Rattle.qcow2_image.proofs.Clearings.ClearedDisk.{DiskCleared, disk-cleared, failed-is, refused-hard, stops-cleared, unspent-same}
use Rattle.qcow2_image.proofs.Clearings.PartEffects.{one-or-not}
use Rattle.qcow2_image.proofs.ClusterSteps.{table-none, table-over}
use Rattle.qcow2_image.proofs.DiskEffects.{whole-below}
use Rattle.qcow2_image.proofs.FileWords.{entry-in-file, place-in-file}
use Rattle.qcow2_image.proofs.Leaks.{leaks-both}
use Rattle.qcow2_image.proofs.Preparations.Reservations.{under-row}

some-there : {A : Type 0} (o : Option A) → IsSome o → (a : A) × (o ≡ Some a)
some-there None is = absurd (cc is)
some-there (Some a) is = (a, refl)

-- A claim on success holds if it holds for that result.
on-ok : (r : Result Unit Fault) (P : Type 0) → (r ≡ Ok tt → P) → OnOk r P
on-ok (Ok done) P each = each refl
on-ok (Err e) P each = tt

if-err : (r : Result Unit Fault) (P Q : Fault → Type 0) → ((e : Fault) → r ≡ Err e → P e → Q e) → IfErr r P → IfErr r Q
if-err (Ok done) P Q each holds = tt
if-err (Err e) P Q each holds = each e refl holds

module _ {S : Type 0} (g : Ghosts S) where
  -- Nothing is unmapped.
  unmaps-none : (first : ℕ) (ok : Type 0) (d : Qcow2 S g) → UnmapsFrom g first ok d d
  unmaps-none first ok d = record {
    mode = refl;
    number = refl;
    unspent = refl;
    shape = refl;
    counts_not_fallen = record { faults = le_refl (g.state d.tables.file.image).faults; refusals = le_refl (g.state d.tables.file.image).refusals };
    failed = λ was. was;
    size = refl;
    bits = refl;
    version = refl;
    faults = λ whole. (refl, refl);
    known = λ some. some;
    crash_images = λ well_formed some below.
        let s : StorageState = g.state d.tables.file.image in
        passes_none (Left below (layer_of g d) s.bytes is_sound (layer_of g d).size (layer_of g d).size (GivesUnmapped first (layer_of g d) below))
        s s refl (refl, refl, refl, refl);
    well_formed = λ well_formed some whole. well_formed;
    cells = λ well_formed some whole p. inl refl;
    raw_entries = λ well_formed some whole guest. inl refl;
    leaks = λ well_formed some whole c. refl;
  }

  pub tail-none : (first last : ℕ) (d : Qcow2 S g) → last ≤ first → UnmapsTail g first last d (Ok tt) d
  tail-none first last d few = record {
    unmaps = unmaps-none first ⊤ d;
    cleared = λ well_formed some guest from to. absurd (omega (arith, from, to, few));
    cause = tt;
  }

  pub tail-fewer : (first last end : ℕ) (a b : Qcow2 S g) → last ≤ end → UnmapsTail g first end a (Ok tt) b → UnmapsTail g first last a (Ok tt) b
  tail-fewer first last end a b few t = record {
    unmaps = t.unmaps;
    cleared = λ well_formed some guest from to. t.cleared well_formed some guest from (omega (arith, to, few));
    cause = tt;
  }

  -- Guest clusters without an L2 table are unmapped.
  module _ (guest n : ℕ) (d : Qcow2 S g) (none : place_of_table d.tables.l1.raw_entries d.tables.file.header.fields.cluster_bits guest ≡ None)
      (row : guest % entries_of_cluster d.tables.file.header.fields + n ≤ entries_of_cluster d.tables.file.header.fields) where
    abbrev w : ℕ
    w = entries_of_cluster d.tables.file.header.fields

    one-row : (x : ℕ) → guest ≤ x → x < guest + n → x / w ≡ guest / w
    one-row x from to =
        let parts : x ≡ guest / w * w + (guest % w + (x - guest)) = (let whole = div-add-mod' guest w in omega (arith, whole, from)) in
        ap (λ y. y / w) parts ∙ div-mul-add (guest / w) w (guest % w + (x - guest)) (omega (arith, row, from, to))

    unmapped-there : IsWellFormed g d → (x : ℕ) → guest ≤ x → x < guest + n
        → entry (file_of g d.tables) d.tables.file.header.fields x ≡ mappings.unmapped
    unmapped-there well_formed x from to =
        let f : Bytes = file_of g d.tables in
        let h : Fields = d.tables.file.header.fields in
        let of = well_formed.seen.l1 in
        let nowhere = sym (place-in-file f h d.tables.l1 of (guest / w)) ∙ table-none f h d.tables.l1 of guest none in
        entry-in-file f h d.tables.l1 of x ∙ rw (one-row x from to, nowhere) refl

    pub tail-skipped : UnmapsTail g guest (guest + n) d (Ok tt) d
    tail-skipped = record {
      unmaps = unmaps-none guest ⊤ d;
      cleared = λ well_formed some x from to. unmapped-there well_formed x from to;
      cause = tt;
    }

-- The guest clusters of one L2 table are cleared.
module _ {S : Type 0} (g : Ghosts S) (table guest n : ℕ) (old new : Qcow2 S g) (result : Result Unit Fault)
    (s : ClearsClusters g Unmap table guest n old result new)
    (named : place_of_table old.tables.l1.raw_entries old.tables.file.header.fields.cluster_bits guest ≡ Some table)
    (row : guest % entries_of_cluster old.tables.file.header.fields + n ≤ entries_of_cluster old.tables.file.header.fields)
    (any : 0 < n) (free : old.unspent ≡ None) where
  abbrev before : StorageState
  before = g.state old.tables.file.image

  abbrev after : StorageState
  after = g.state new.tables.file.image

  module _ (well_formed : IsWellFormed g old) (known : IsSome old.tables.space) where
    loaded : (space : Space) × (old.tables.space ≡ Some space)
    loaded = some-there old.tables.space known

    under : AreUnder n (rest_of g old.tables loaded.0) table guest
    under =
        let link = table-over (file_of g old.tables) old.tables.file.header.fields old.tables.l1 well_formed.seen.l1 guest table named in
        under-row g (rest_of g old.tables loaded.0) table guest n row
        (record { inside = link.1; table_linked = link.2; table_nonzero = link.0 })

    how : IsUnreserved old.tables result new.tables ⊎ ClearsWith g Unmap table guest n old.tables loaded.0 result new.tables
    how = s.clears.known loaded.0 loaded.1

    -- Clearing fails only with a resource error.
    hard : (e : Fault) → result ≡ Err e → IsNotResourceError e → ⊥
    hard e is not_resource_error = elim how [
      | inl unreserved ↦ subst (λ (r : Result Unit Fault). HadNoResourceError r) (sym is ∙ unreserved.0) not_resource_error
      | inr cleared ↦ refused-hard g Unmap table guest n old new result s well_formed loaded.0 loaded.1 under cleared e is not_resource_error
    ]

    succeeds : HadNoResourceError result → result ≡ Ok tt
    succeeds = from result refl where
      from : (r : Result Unit Fault) → result ≡ r → HadNoResourceError r → r ≡ Ok tt
      from (Ok done) is whole = refl
      from (Err e) is whole = absurd (hard e is whole)

    disk : result ≡ Ok tt → DiskCleared g Unmap guest n old new
    disk ok = elim how [
      | inl unreserved ↦ absurd (let bad : Ok tt ≡ Err Memory = sym ok ∙ unreserved.0 in cc bad)
      | inr cleared ↦ disk-cleared g Unmap table guest n old new result s well_formed loaded.0 loaded.1 under cleared ok any free
    ]

    stops : (below : List Layer)
        → UnrefusedCrashImages (Left below (layer_of g old) before.bytes is_sound (layer_of g old).size (layer_of g old).size
        (GivesUnmapped guest (layer_of g old) below)) before after
    stops below =
        let gives : ℕ → Value → Type 0 = GivesUnmapped guest (layer_of g old) below in
        let P : List ℕ → Type 0 = Left below (layer_of g old) before.bytes is_sound (layer_of g old).size (layer_of g old).size gives in
        elim how [
          | inl unreserved ↦ passes_on P before before after (ap (λ (x : Tables S g). g.state x.file.image) unreserved.1)
              (passes_none P before before refl (refl, refl, refl, refl))
          | inr cleared ↦ stops-cleared g Unmap table guest n old new result s well_formed loaded.0 loaded.1 under cleared below gives
              (λ p low ours. (ours.0, refl))
        ]

    cell-either : result ≡ Ok tt → (p : ℕ) → ((layer_of g new).cell p ≡ (layer_of g old).cell p)
        ⊎ ((guest ≤ p / cluster_size old.tables.file.header.fields) × (p < (layer_of g old).size)
        × ((layer_of g new).cell p ≡ blank_of old.mode.backing))
    cell-either ok p = elim (one-or-not guest n (p / cluster_size old.tables.file.header.fields)) [
      | inr out ↦ inl ((disk ok).cells.elsewhere p (λ ours low. out ours))
      | inl ours ↦ elim (cases_lt p (layer_of g old).size) [
        | inl low ↦ inr (ours.0, low, (disk ok).cells.there p ours low)
        | inr behind ↦ inl ((disk ok).cells.elsewhere p (λ is low. omega (arith, behind, low)))
      ]
    ]

    entry-either : result ≡ Ok tt → (x : ℕ)
        → (entry (file_of g new.tables) new.tables.file.header.fields x ≡ entry (file_of g old.tables) old.tables.file.header.fields x)
        ⊎ ((guest ≤ x) × (entry (file_of g new.tables) new.tables.file.header.fields x ≡ mappings.unmapped))
    entry-either ok x = elim ((disk ok).entries.elsewhere x) [
      | inl ours ↦ inr (ours.0, (disk ok).entries.there x ours)
      | inr same ↦ inl same
    ]

  still-known : IsSome old.tables.space → IsSome new.tables.space
  still-known some = elim (s.clears.known (some-there old.tables.space some).0 (some-there old.tables.space some).1) [
    | inl unreserved ↦ subst (λ (t : Tables S g). IsSome t.space) (sym unreserved.1) some
    | inr cleared ↦ subst IsSome (sym cleared.space_known) refl
  ]

  unmaps-part : UnmapsFrom g guest (HadNoResourceError result) old new
  unmaps-part = record {
    mode = ap (λ (d : Qcow2 S g). d.mode) s.others;
    number = ap (λ (d : Qcow2 S g). d.number) s.others;
    unspent = unspent-same g Unmap table guest n old new result s;
    shape = s.clears.shape;
    counts_not_fallen = s.clears.counts_not_fallen;
    failed = λ was. subst IsTrue (sym (failed-is g Unmap table guest n old new result s)) (still-cut result s.begun old.failed was);
    size = ap (λ (K : Header). K.fields.size) s.clears.header;
    bits = ap (λ (K : Header). K.fields.cluster_bits) s.clears.header;
    version = ap (λ (K : Header). K.fields.version) s.clears.header;
    faults = λ whole. s.clears.faults (whole-below result whole);
    known = still-known;
    crash_images = stops;
    well_formed = λ well_formed known whole. (disk well_formed known (succeeds well_formed known whole)).well_formed;
    cells = λ well_formed known whole. cell-either well_formed known (succeeds well_formed known whole);
    raw_entries = λ well_formed known whole. entry-either well_formed known (succeeds well_formed known whole);
    leaks = λ well_formed known whole. (disk well_formed known (succeeds well_formed known whole)).leaks;
  }

  part-why : (e : Fault) → result ≡ Err e → HasCause (writing_causes ⊥ before.faults after.faults) e
      → HasCause (writing_causes (IsWellFormed g old × IsSome old.tables.space) before.faults after.faults) e
  part-why Memory is why = tt
  part-why Storage is why = why
  part-why DamagedTable is why = λ known. hard known.0 known.1 DamagedTable is tt
  part-why e is why = absurd why

  pub tail-part : UnmapsTail g guest (guest + n) old result new
  tail-part = record {
    unmaps = unmaps-part;
    cleared = λ well_formed known.
        on-ok result ((x : ℕ) → guest ≤ x → x < guest + n → entry (file_of g new.tables) new.tables.file.header.fields x ≡ mappings.unmapped)
        (λ ok x from to. (disk well_formed known ok).entries.there x (from, to));
    cause = if-err result (HasCause (writing_causes ⊥ before.faults after.faults))
        (HasCause (writing_causes (IsWellFormed g old × IsSome old.tables.space) before.faults after.faults)) part-why s.clears.cause;
  }

-- Two steps in sequence. The first had no resource error.
module _ {S : Type 0} (g : Ghosts S) (first second : ℕ) (ok : Type 0) (a b c : Qcow2 S g) (order : first ≤ second)
    (one : UnmapsFrom g first ⊤ a b) (two : UnmapsFrom g second ok b c) where
  abbrev s : StorageState
  s = g.state a.tables.file.image

  abbrev t : StorageState
  t = g.state b.tables.file.image

  abbrev u : StorageState
  u = g.state c.tables.file.image

  fixed-kept : (layer_of g b).fixed ≡ (layer_of g a).fixed
  fixed-kept = λ i. qcow2_fixed (one.shape i) (record a.tables.file.header.fields { version = one.version i; cluster_bits = one.bits i })
      (one.mode i) (one.number i)

  module _ (well_formed : IsWellFormed g a) (known : IsSome a.tables.space) where
    between : IsWellFormed g b
    between = one.well_formed well_formed known tt

    both-stops : (below : List Layer)
        → UnrefusedCrashImages (Left below (layer_of g a) s.bytes is_sound (layer_of g a).size (layer_of g a).size
        (GivesUnmapped first (layer_of g a) below)) s u
    both-stops below =
        then_left below is_sound (layer_of g a) (layer_of g b) (layer_of g a).size (layer_of g a).size
        (GivesUnmapped first (layer_of g a) below) (GivesUnmapped second (layer_of g b) below) s t u
        (one.shape, one.counts_not_fallen) (two.shape, two.counts_not_fallen) fixed-kept one.size (omega arith) (omega arith)
        disk-between given-then (one.crash_images well_formed known below)
        (subst (λ k. UnrefusedCrashImages (Left below (layer_of g b) t.bytes is_sound k k (GivesUnmapped second (layer_of g b) below)) t u) one.size
        (two.crash_images between (one.known known) below)) where
          disk-between : (p : ℕ) → p < (layer_of g a).size
              → May below (layer_of g a) s.bytes (GivesUnmapped first (layer_of g a) below) p (at (layer_of g b ∷ below) p)
          disk-between p low =
              let now : at (layer_of g b ∷ below) p ≡ through ((layer_of g b).cell p) (at below p) =
              rw (lt-ltb p (layer_of g b).size (subst (λ k. p < k) (sym one.size) low)) refl in
              let was : at (layer_of g a ∷ below) p ≡ through ((layer_of g a).cell p) (at below p) = rw (lt-ltb p (layer_of g a).size low) refl in
              elim (one.cells well_formed known tt p) [
                | inl same ↦ inr (inl (now ∙ ap (λ (x : Cell). through x (at below p)) same ∙ sym was))
                | inr is ↦ inr (inr (is.0, now ∙ ap (λ (x : Cell). through x (at below p)) is.2))
              ]

          given-then : (p : ℕ) (v : Value) → p < (layer_of g a).size → GivesUnmapped second (layer_of g b) below p v
              → May below (layer_of g a) s.bytes (GivesUnmapped first (layer_of g a) below) p v
          given-then p v low gave =
              let from : second ≤ p / (layer_of g a).fixed.unit = subst (λ (x : Fixed). second ≤ p / x.unit) fixed-kept gave.0 in
              inr (inr (omega (arith, order, from), gave.1 ∙ ap (λ (x : Fixed). through x.blank (at below p)) fixed-kept))

    both-cells : ok → (p : ℕ) → ((layer_of g c).cell p ≡ (layer_of g a).cell p)
        ⊎ ((first ≤ p / cluster_size a.tables.file.header.fields) × (p < (layer_of g a).size)
        × ((layer_of g c).cell p ≡ blank_of a.mode.backing))
    both-cells whole p = elim (two.cells between (one.known known) whole p) [
      | inl same ↦ elim (one.cells well_formed known tt p) [
        | inl before ↦ inl (same ∙ before)
        | inr is ↦ inr (is.0, is.1, same ∙ is.2)
      ]
      | inr is ↦
          let from : second ≤ p / cluster_size a.tables.file.header.fields = subst (λ (k : ℕ). second ≤ p / 2 ^ k) one.bits is.0 in
          inr (omega (arith, order, from), subst (λ k. p < k) one.size is.1, is.2 ∙ ap (λ (m : OpenMode). blank_of m.backing) one.mode)
    ]

    both-entries : ok → (x : ℕ)
        → (entry (file_of g c.tables) c.tables.file.header.fields x ≡ entry (file_of g a.tables) a.tables.file.header.fields x)
        ⊎ ((first ≤ x) × (entry (file_of g c.tables) c.tables.file.header.fields x ≡ mappings.unmapped))
    both-entries whole x = elim (two.raw_entries between (one.known known) whole x) [
      | inl same ↦ elim (one.raw_entries well_formed known tt x) [
        | inl before ↦ inl (same ∙ before)
        | inr is ↦ inr (is.0, same ∙ is.1)
      ]
      | inr is ↦ inr (omega (arith, order, is.0), is.1)
    ]

  unmaps-both : UnmapsFrom g first ok a c
  unmaps-both = record {
    mode = two.mode ∙ one.mode;
    number = two.number ∙ one.number;
    unspent = two.unspent ∙ one.unspent;
    shape = two.shape ∙ one.shape;
    counts_not_fallen = later_both s t u one.counts_not_fallen two.counts_not_fallen;
    failed = λ was. two.failed (one.failed was);
    size = two.size ∙ one.size;
    bits = two.bits ∙ one.bits;
    version = two.version ∙ one.version;
    faults = λ whole. ((two.faults whole).0 ∙ (one.faults tt).0, (two.faults whole).1 ∙ (one.faults tt).1);
    known = λ known. two.known (one.known known);
    crash_images = both-stops;
    well_formed = λ well_formed known whole. two.well_formed (between well_formed known) (one.known known) whole;
    cells = both-cells;
    raw_entries = both-entries;
    leaks = λ well_formed known whole.
        leaks-both g a b c (one.leaks well_formed known tt) (two.leaks (between well_formed known) (one.known known) whole);
  }

-- The guest clusters up to `second` are unmapped, and then those up to `end`.
module _ {S : Type 0} (g : Ghosts S) (first second end last : ℕ) (a b c : Qcow2 S g) (order : first ≤ second) (result : Result Unit Fault)
    (reaches : OnOk result (last ≤ end)) (one : UnmapsTail g first second a (Ok tt) b) (two : UnmapsTail g second end b result c) where
  both-cleared : IsWellFormed g a → IsSome a.tables.space → result ≡ Ok tt → (x : ℕ) → first ≤ x → x < last
      → entry (file_of g c.tables) c.tables.file.header.fields x ≡ mappings.unmapped
  both-cleared well_formed known is x from to =
      let safe = one.unmaps.well_formed well_formed known tt in
      let some = one.unmaps.known known in
      let far = subst (λ r. OnOk r (last ≤ end)) is reaches in
      elim (cases_lt x second) [
        | inr behind ↦
            (subst (λ r. OnOk r ((guest : ℕ) → second ≤ guest → guest < end
            → entry (file_of g c.tables) c.tables.file.header.fields guest ≡ mappings.unmapped)) is (two.cleared safe some)) x behind
            (omega (arith, to, far))
        | inl before ↦ elim (two.unmaps.raw_entries safe some (subst (λ (r : Result Unit Fault). HadNoResourceError r) (sym is) tt) x) [
          | inl same ↦ same ∙ one.cleared well_formed known x from before
          | inr is-now ↦ is-now.1
        ]
      ]

  abbrev later-causes : Causes
  later-causes = writing_causes (IsWellFormed g b × IsSome b.tables.space) (g.state b.tables.file.image).faults (g.state c.tables.file.image).faults

  abbrev all-causes : Causes
  all-causes = writing_causes (IsWellFormed g a × IsSome a.tables.space) (g.state a.tables.file.image).faults (g.state c.tables.file.image).faults

  implies : Implies later-causes all-causes
  implies = let same = (one.unmaps.faults tt).0 in record {
    before = omega (arith, same);
    after = omega arith;
    damaged = λ wrong known. wrong (one.unmaps.well_formed known.0 known.1 tt, one.unmaps.known known.1);
    counter = absurd;
    full = absurd;
    limit = λ number. absurd;
  }

  pub tail-both : UnmapsTail g first last a result c
  tail-both = record {
    unmaps = unmaps-both g first second (HadNoResourceError result) a b c order one.unmaps two.unmaps;
    cleared = λ well_formed known. on-ok result
        ((x : ℕ) → first ≤ x → x < last → entry (file_of g c.tables) c.tables.file.header.fields x ≡ mappings.unmapped)
        (both-cleared well_formed known);
    cause = if-err result (HasCause later-causes) (HasCause all-causes) (λ e is why. cause-weaker implies e why) two.cause;
  }

-- The value of each byte of the disk from guest cluster `first` on, once it is unmapped, may be shown by a crash image.
abbrev pub MayBeUnmapped : (first : ℕ) → Layer → List Layer → (ℕ → Value → Type 0) → Type 0
MayBeUnmapped first layer below gives =
    (p : ℕ) → p < layer.size → first ≤ p / layer.fixed.unit → gives p (through layer.fixed.blank (at below p))

-- Crash images show only what may be shown.
pub unmapped-stops : {S : Type 0} (g : Ghosts S) (first : ℕ) (ok : Type 0) (old new : Qcow2 S g) → UnmapsFrom g first ok old new
    → IsWellFormed g old → IsSome old.tables.space → (below : List Layer) (gives : ℕ → Value → Type 0)
    → MayBeUnmapped first (layer_of g old) below gives
    → UnrefusedCrashImages (Left below (layer_of g old) (g.state old.tables.file.image).bytes is_sound (layer_of g old).size (layer_of g old).size gives)
    (g.state old.tables.file.image) (g.state new.tables.file.image)
unmapped-stops g first ok old new u well_formed known below gives allowed =
    let bytes : List ℕ = (g.state old.tables.file.image).bytes in
    let size : ℕ = (layer_of g old).size in
    let before : ℕ → Value → Type 0 = GivesUnmapped first (layer_of g old) below in
    passes_weaker (Left below (layer_of g old) bytes is_sound size size before) (Left below (layer_of g old) bytes is_sound size size gives)
    (g.state old.tables.file.image) (g.state new.tables.file.image)
    (left_weaker below is_sound (layer_of g old) bytes size size before gives
    (λ p v low gave. inr (inr (subst (gives p) (sym gave.1) (allowed p low gave.0)))))
    (u.crash_images well_formed known below)

-- Lemmas on new guest clusters past the end of the disk, which are made to read as zeroes: those of one L2 table, and a range of them.
use Rattle.std.proofs.Common.{◌≡◌, ℕ, ◌+◌, ◌*◌, ◌/◌, ◌^◌, ◌<◌, ◌≤◌, refl, arith, ap, sym, subst, ◌∙◌, inl, inr, Bool, None, Some, Result, Ok, Err}
use Rattle.std.specs.Prelude.{⊤, IsSome, IfErr, max}
use Rattle.std.proofs.Math.Nat.{mul-le-mul_right}
use Rattle.std.proofs.lemmas.Bool.{cases_lt}
use Rattle.imago_storage.specs.State.{StorageState}
use Rattle.imago_storage.specs.Disk.{Value}
use Rattle.imago_storage.specs.declared.fault.Fault.{Fault}
use Rattle.imago_storage.specs.declared.fault.Fault.TheVariants.{Limit}
use Rattle.imago_storage.specs.declared.storage.Storage.{Ghosts}
use Rattle.imago_access.specs.Files.{HadNoResourceError, IsNotResourceError}
use Rattle.imago_access.specs.Layer.{Layer}
use Rattle.imago_access.specs.Stops.{Left}
use Rattle.imago_access.proofs.Stopping.{left_weaker, passes_weaker}
use Rattle.qcow2_types.specs.Header.{cluster_size, entries_of_cluster}
use Rattle.qcow2_alloc.specs.Causes.{HasCause}
use Rattle.qcow2_alloc.proofs.Causes.{cause-told, cause-weaker}
use Rattle.qcow2_clusters.specs.Storing.{storing_causes}
use Rattle.qcow2_image.specs.Allocating.{Begins, EnsuresTable}
use Rattle.qcow2_image.specs.FreeSpace.{LacksFreeRun, enough_for_run, enough_for_table}
use Rattle.qcow2_image.specs.Growing.{AreZeroes, GivesWithin, GivesZero, HasTableReady, IsWithin, LacksNewCluster, SetsEntries, ZeroesPart, ZeroesRange, done_by}
use Rattle.qcow2_image.specs.Preparing.{LacksPlaceBeside}
use Rattle.qcow2_image.specs.Rooms.{IsWellFormed, is_sound}
use Rattle.qcow2_image.specs.Seen.{layer_of}
use Rattle.qcow2_image.specs.declared.qcow2.Qcow2.{Qcow2}
use Rattle.qcow2_image.proofs.DiskEffects.{keeps-disk-same}
use Rattle.qcow2_image.proofs.Preparations.Reservations.{lacks-cluster, lacks-table}
use Rattle.qcow2_image.proofs.Resizes.OwnTables.{begins-unfailed}
use Rattle.qcow2_image.proofs.Resizes.SetEntries.{keeps-sets, sets-after-keeps, sets-both}

if-err-map : {T : Type 0} (r : Result T Fault) (P Q : Fault → Type 0) → ((e : Fault) → P e → Q e) → IfErr r P → IfErr r Q
if-err-map (Ok done) P Q each holds = tt
if-err-map (Err e) P Q each holds = each e holds

module _ {S : Type 0} (g : Ghosts S) (sure ok : Type 0) (first last : ℕ) (given : ℕ → Value → Type 0) (old new : Qcow2 S g) where
  abbrev layer : Layer
  layer = layer_of g old

  abbrev before : StorageState
  before = g.state old.tables.file.image

  abbrev after : StorageState
  after = g.state new.tables.file.image

  -- The range may be longer, if no guest cluster is missing in it.
  pub sets-wider : (end : ℕ) → ((x : ℕ) → IsWithin first last x → IsWithin first end x) → SetsEntries g sure ok first last given old new
      → SetsEntries g sure ok first end given old new
  sets-wider end wider s = record {
    mode = s.mode;
    number = s.number;
    unspent = s.unspent;
    shape = s.shape;
    counts_not_fallen = s.counts_not_fallen;
    failed = s.failed;
    runs = s.runs;
    size = s.size;
    bits = s.bits;
    version = s.version;
    format = s.format;
    faults = s.faults;
    known = s.known;
    crash_images = λ is below.
        passes_weaker (Left below layer before.bytes is_sound layer.size layer.size (GivesWithin first last given layer))
        (Left below layer before.bytes is_sound layer.size layer.size (GivesWithin first end given layer)) before after
        (left_weaker below is_sound layer before.bytes layer.size layer.size (GivesWithin first last given layer)
        (GivesWithin first end given layer) (λ p v low gave. inr (inr (wider (p / layer.fixed.unit) gave.0, gave.1))))
        (s.crash_images is below);
    well_formed = s.well_formed;
    values = λ is whole p. elim (s.values is whole p) [
      | inl same ↦ inl same
      | inr set ↦ inr (wider (p / cluster_size old.tables.file.header.fields) set.0, set.1)
    ];
    layer = s.layer;
    leaks = s.leaks;
  }

-- The guest clusters of one L2 table.
module _ {S : Type 0} (g : Ghosts S) (guest n : ℕ) (old mid : Qcow2 S g) where
  abbrev loaded : Type 0
  loaded = IsWellFormed g old × IsSome old.tables.space

  -- The L2 table isn't made.
  pub part-tableless : (e : Fault) (was now : Bool) → EnsuresTable g (enough_for_table old.tables guest) guest old (Err e) mid
      → Begins {T = ℕ} g was old (Err e) now mid
      → ZeroesPart g loaded (LacksPlaceBeside g guest None old.tables mid.tables) guest n old (Err e) mid
  part-tableless e was now t begins = record {
    sets = keeps-sets g loaded (IsWellFormed g old) (IsNotResourceError e) guest (guest + 0) GivesZero old mid (λ known. known.0) t.keeps
        (λ whole. begins-unfailed {T = ℕ} g was now old mid (Err e) whole begins) (λ known whole. t.known) (λ known. t.leaks known.0);
    many = tt;
    zeroed = λ known. tt;
    cause = cause-weaker (record {
      before = omega arith;
      after = omega arith;
      damaged = λ wrong. wrong;
      counter = λ wrong. wrong;
      full = absurd;
      limit = λ number at known. lacks-table g guest None number old mid known.0 (at known.0);
    }) e t.cause;
  }

  module _ (table : ℕ) (t : EnsuresTable g (enough_for_table old.tables guest) guest old (Ok table) mid) (was now : Bool)
      (begins : Begins {T = ℕ} g was old (Ok table) now mid) where
    ready : loaded → HasTableReady g guest table mid
    ready known = record {
      well_formed = t.keeps.safely known.0 tt;
      known = t.known known.1;
      table_linked = t.table_linked known.0 known.1;
      own = t.own known.0 known.1;
    }

    -- The guest clusters are prepared after their table is made.
    pub part-then : (full : ℕ → Type 0) (new : Qcow2 S g) (result : Result ℕ Fault)
        → ((number : ℕ) → loaded → full number → LacksPlaceBeside g guest None old.tables new.tables number)
        → ZeroesPart g (HasTableReady g guest table mid) full guest n mid result new
        → ZeroesPart g loaded (LacksPlaceBeside g guest None old.tables new.tables) guest n old result new
    part-then full new result told z = record {
      sets = sets-after-keeps g loaded (IsWellFormed g old) (HasTableReady g guest table mid) (HadNoResourceError result) guest
          (guest + done_by result) GivesZero old mid new (λ known. known.0) ready
          (begins-unfailed {T = ℕ} g was now old mid (Ok table) tt begins) (λ known. t.known) t.keeps (λ known. t.leaks known.0 tt) z.sets;
      many = z.many;
      zeroed = λ known. z.zeroed (ready known);
      cause = if-err-map result
          (HasCause (storing_causes (HasTableReady g guest table mid) full (g.state mid.tables.file.image).faults
          (g.state new.tables.file.image).faults))
          (HasCause (storing_causes loaded (LacksPlaceBeside g guest None old.tables new.tables) (g.state old.tables.file.image).faults
          (g.state new.tables.file.image).faults))
          (λ e why. cause-weaker (let same = (t.keeps.faults tt).0 in record {
            before = omega (arith, same);
            after = omega arith;
            damaged = λ wrong known. wrong (ready known);
            counter = λ wrong known. wrong (ready known);
            full = absurd;
            limit = λ number at known. told number known (at (ready known));
          }) e why)
          z.cause;
    }

    -- A quarter of the space is more than is needed for the table and for the clusters.
    pub part-full : n ≤ entries_of_cluster old.tables.file.header.fields → (new : Qcow2 S g) (number : ℕ) → loaded
        → LacksFreeRun g 1 (enough_for_run mid.tables n) mid.tables new.tables number
        → LacksPlaceBeside g guest None old.tables new.tables number
    part-full few new number known full =
        lacks-cluster g guest table None n number old mid new known.0 (t.keeps.safely known.0 tt) known.1 few t refl full

-- No guest cluster is prepared.
pub range-none : {S : Type 0} (g : Ghosts S) (first last : ℕ) (d : Qcow2 S g) → last ≤ first → ZeroesRange g first last d (Ok tt) d
range-none g first last d few = record {
  sets = keeps-sets g (IsWellFormed g d × IsSome d.tables.space) (IsWellFormed g d) ⊤ first last GivesZero d d (λ known. known.0)
      (keeps-disk-same g ⊤ d) (λ whole. refl) (λ known whole some. some) (λ known whole c. refl);
  zeroed = λ well_formed some p within. absurd (omega (arith, within.0, within.1, few));
  cause = tt;
}

-- The guest clusters before `next` are prepared.
module _ {S : Type 0} (g : Ghosts S) (first next : ℕ) (old mid : Qcow2 S g) (one : ZeroesRange g first next old (Ok tt) mid) where
  -- No more are needed.
  pub range-ends : (last : ℕ) → last ≤ next → next ≤ max first last → ZeroesRange g first last old (Ok tt) mid
  range-ends last reached inside = record {
    sets = sets-wider g (IsWellFormed g old × IsSome old.tables.space) ⊤ first next GivesZero old mid last
        (λ x within. (within.0, omega (arith, within.0, within.1, inside))) one.sets;
    zeroed = λ well_formed some p within. one.zeroed well_formed some p (within.0, omega (arith, within.1, reached));
    cause = tt;
  }

  module _ (from : first ≤ next)
      (past : old.tables.file.header.fields.size ≤ first * cluster_size old.tables.file.header.fields) where
    -- The next guest cluster is past the end of the disk.
    pub past-next : mid.tables.file.header.fields.size ≤ next * cluster_size mid.tables.file.header.fields
    past-next =
        let more : first * cluster_size old.tables.file.header.fields ≤ next * cluster_size old.tables.file.header.fields =
        mul-le-mul_right (cluster_size old.tables.file.header.fields) from in
        subst (λ (b : ℕ). mid.tables.file.header.fields.size ≤ next * 2 ^ b) (sym one.sets.bits)
        (subst (λ (s : ℕ). s ≤ next * cluster_size old.tables.file.header.fields) (sym one.sets.size) (omega (arith, past, more)))

    abbrev all-loaded : Type 0
    all-loaded = IsWellFormed g old × IsSome old.tables.space

    abbrev still : Type 0
    still = IsWellFormed g mid × IsSome mid.tables.space

    there : all-loaded → still
    there known = (one.sets.well_formed known tt, one.sets.known known tt known.1)

    module _ (n : ℕ) (new : Qcow2 S g) where
      -- More of them are prepared.
      module _ (done : ℕ) (z : ZeroesPart g still (LacksPlaceBeside g next None mid.tables new.tables) next n mid (Ok done) new) where
        zeroed-both : all-loaded → AreZeroes g first (next + done) new
        zeroed-both known p within = elim (cases_lt (p / cluster_size new.tables.file.header.fields) next) [
          | inl low ↦ elim (z.sets.values (there known) tt p) [
            | inl same ↦ same ∙ one.zeroed known.0 known.1 p
                (subst (λ (b : ℕ). IsWithin first next (p / 2 ^ b)) z.sets.bits (within.0, low))
            | inr set ↦ set.1.1 ∙ ap Some set.1.2
          ]
          | inr behind ↦ z.zeroed (there known) p (behind, within.1)
        ]

        all-prepared : ZeroesRange g first (next + done) old (Ok tt) new
        all-prepared = record {
          sets = sets-both g all-loaded all-loaded still ⊤ first next (next + done) GivesZero old mid new from (omega arith)
              (λ known. known) there one.sets z.sets;
          zeroed = λ well_formed some. zeroed-both (well_formed, some);
          cause = tt;
        }

        pub range-more : (end : ℕ) → end ≡ next + done → ZeroesRange g first end old (Ok tt) new
        range-more end is = subst (λ (k : ℕ). ZeroesRange g first k old (Ok tt) new) (sym is) all-prepared

      -- The next ones can't be prepared.
      module _ (last : ℕ) (below : next < last) (e : Fault)
          (z : ZeroesPart g still (LacksPlaceBeside g next None mid.tables new.tables) next n mid (Err e) new) where
        lacks-new : (number : ℕ) → e ≡ Limit number → all-loaded → LacksPlaceBeside g next None mid.tables new.tables number
            → LacksNewCluster g first last old number
        lacks-new number is known lacks =
            let whole : IsNotResourceError e = subst IsNotResourceError (sym is) tt in record {
              guest = next;
              within = (from, below);
              now = mid;
              well_formed = (there known).0;
              same_disk = one.sets.layer known tt past;
              same_leaks = one.sets.leaks known tt;
              left = new;
              left_safe = z.sets.well_formed (there known) whole;
              left_disk = z.sets.layer (there known) whole past-next;
              left_leaks = z.sets.leaks (there known) whole;
              lacks = lacks;
            }

        pub range-stopped : ZeroesRange g first last old (Err e) new
        range-stopped = record {
          sets = sets-wider g all-loaded (IsNotResourceError e) first (next + 0) GivesZero old new last
              (λ x within. (within.0, omega (arith, within.1, below)))
              (sets-both g all-loaded all-loaded still (IsNotResourceError e) first next (next + 0) GivesZero old mid new from (omega arith)
              (λ known. known) there one.sets z.sets);
          zeroed = λ well_formed some. tt;
          cause = cause-weaker (let same = (one.sets.faults tt).0 in record {
            before = omega (arith, same);
            after = omega arith;
            damaged = λ wrong known. wrong (there known);
            counter = λ wrong known. wrong (there known);
            full = absurd;
            limit = λ number at known. lacks-new number at.0 known (at.1 (there known));
          }) e (cause-told _ e z.cause);
        }

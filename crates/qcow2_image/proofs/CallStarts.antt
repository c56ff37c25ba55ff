-- Lemmas on `Begins`: calls that begin to change an image, or fail before.
use Rattle.std.proofs.Common.{◌≡◌, refl, ap, sym, subst, ◌∙◌, inl, inr, ℕ, Bool, false, true, Option, Some, None, Result, Ok, Err}
use Rattle.std.specs.Prelude.{IsSome, IsTrue, is_some, not}
use Rattle.std.proofs.lemmas.Bool.{cases_Bool}
use Rattle.imago_storage.specs.Calls.{IsFaultless, UnchangedButFaults, CountsNotFallen}
use Rattle.imago_storage.specs.declared.fault.Fault.{Fault}
use Rattle.imago_storage.specs.declared.fault.Fault.TheVariants.{Limit, Memory, Storage}
use Rattle.imago_storage.specs.declared.storage.Storage.{Ghosts}
use Rattle.imago_access.specs.Files.{HadNoResourceError}
use Rattle.qcow2_types.specs.Bytes.{bytes_of}
use Rattle.qcow2_alloc.specs.declared.cache.MetadataCaches.{MetadataCaches}
use Rattle.qcow2_alloc.specs.Going as going
use Rattle.qcow2_alloc.specs.Memory.{Cached}
use Rattle.qcow2_alloc.specs.Opening.{IsL1Of}
use Rattle.qcow2_clusters.specs.MakingTables.{HasEntriesOf}
use Rattle.qcow2_clusters.specs.Flushed.{AreEmpty, clusters_state}
use Rattle.qcow2_clusters.specs.LeftUntouched.{IsLeftUntouched}
use Rattle.qcow2_clusters.specs.declared.space.Space.{Space}
use Rattle.qcow2_image.specs.Allocating.{Begins, LoadsSpace, failed_by_resource_error, full_by, placed_by}
use Rattle.qcow2_image.specs.Preparing.{LeavesMarkedFailed}
use Rattle.qcow2_image.specs.Seen.{AreOfFile, IsCacheCoherent, file_of}
use Rattle.qcow2_image.specs.Steps.{KeepsImage, failed_after, failed_by}
use Rattle.qcow2_image.specs.declared.allocating.Placed.{Placed}
use Rattle.qcow2_image.specs.declared.qcow2.Qcow2.{Qcow2}
use Rattle.qcow2_image.specs.declared.tables.Tables.{Tables}
use Rattle.qcow2_image.proofs.Steps.{keeps-as, keeps-both, tables-same, unmarked}

-- A failed image stays failed.
pub still-cut : {T : Type 0} (r : Result T Fault) (begun f : Bool) → IsTrue f → IsTrue (failed_by_resource_error r begun f)
still-cut (Ok v) begun f was = was
still-cut (Err Memory) true f was = refl
still-cut (Err Memory) false f was = was
still-cut (Err Storage) begun f was = refl
still-cut (Err fault) begun f was = was

pub whole-cut : {T : Type 0} (r : Result T Fault) (begun f : Bool) → HadNoResourceError r → failed_by_resource_error r begun f ≡ f
whole-cut (Ok v) begun f whole = refl
whole-cut (Err Memory) begun f whole = absurd whole
whole-cut (Err Storage) begun f whole = absurd whole
whole-cut (Err fault) begun f whole = refl

-- Before a change has begun, only a storage fault sets the image to failed.
pub unbegun-cut : {T : Type 0} (r : Result T Fault) (f : Bool) → failed_by_resource_error r false f ≡ failed_after failed_by r f
unbegun-cut (Ok v) f = refl
unbegun-cut (Err Memory) f = refl
unbegun-cut (Err Storage) f = refl
unbegun-cut (Err fault) f = refl

-- `Fault::Limit` isn't a resource error.
pub full-whole : (r : Result ℕ Fault) → full_by r ≡ true → HadNoResourceError r
full-whole (Err (Limit number)) full = tt
full-whole (Ok v) full = absurd (cc full)
full-whole (Err e) full = absurd (cc full)

-- The type of the result doesn't matter.
pub cut-same : (T U : Type 0) (e : Fault) (f : Bool) → failed_by_resource_error {T = T} (Err e) true f ≡ failed_by_resource_error {T = U} (Err e) true f
cut-same T U Memory f = refl
cut-same T U Storage f = refl
cut-same T U e f = refl

-- If only fault counts change and nothing is cached, memory stays coherent.
seen-spared : {S : Type 0} (g : Ghosts S) (old new : Tables S g) → UnchangedButFaults (g.state old.file.image) (g.state new.file.image)
    → new.file.header ≡ old.file.header → HasEntriesOf old.l1 new.l1 → AreEmpty new.caches → IsCacheCoherent g old → IsCacheCoherent g new
seen-spared g old new kept header raw_entries empty seen =
    let bytes : file_of g new ≡ file_of g old = ap bytes_of kept.bytes in
    let there : IsL1Of (file_of g new) new.file.header.fields old.l1 = rw (bytes, header) seen.l1 in
    record {
      loads = rw (bytes, header) seen.loads;
      inside = rw header seen.inside;
      l1 = record { layout = raw_entries.layout ∙ there.layout; raw_entries = raw_entries.raw_entries ∙ there.raw_entries; sound = there.sound };
      tables = subst (λ (c : Cached). AreOfFile (file_of g new) new.file.header.fields c) (sym empty) tt;
    }

module _ {S : Type 0} (g : Ghosts S) where
  -- A call that does nothing begins nothing.
  pub begins-same : {T : Type 0} (was : Bool) (d : Qcow2 S g) (r : Result T Fault) → HadNoResourceError r → Begins g was d r was d
  begins-same {T} was d r whole = record {
    left_untouched = λ not. (not, record { tables = tables-same g d r; mode = refl; number = refl; unspent = refl; failed = sym (unmarked r d.failed whole) });
    marked = λ is. sym (whole-cut r true d.failed whole);
  }

  -- A change of clusters that hasn't begun keeps the image.
  pub changed-begins : {T : Type 0} (was now : Bool) (old : Qcow2 S g) (mid : Tables S g) (space space' : Space) (caches : MetadataCaches S)
      (result : Result T Fault) → old.tables.space ≡ Some space → mid.space ≡ Some space'
      → CountsNotFallen (g.state old.tables.file.image) (g.state mid.file.image)
      → (going.HadNoResourceError result → IsFaultless (g.state old.tables.file.image) (g.state mid.file.image)) → AreEmpty mid.caches
      → (now ≡ false → IsLeftUntouched g.state was (clusters_state old.tables.file caches space) result (clusters_state mid.file mid.caches space')
      × HasEntriesOf old.tables.l1 mid.l1)
      → Begins g was old result now (record old { tables = mid; failed = failed_by_resource_error result now old.failed })
  changed-begins {T} was now old mid space space' caches result there there' later faults empty untouched_unless_begun = record {
    left_untouched = λ not. let s = (untouched_unless_begun not).0 in (
      s.unbegun,
      record {
        tables = record {
          unchanged_but_faults = s.unchanged_but_faults;
          counts_not_fallen = later;
          faults = λ whole. faults (below result whole);
          header = s.header;
          space = there' ∙ ap Some s.space ∙ sym there;
          seen = seen-spared g old.tables mid s.unchanged_but_faults s.header (untouched_unless_begun not).1 empty;
        };
        mode = refl;
        number = refl;
        unspent = refl;
        failed = ap (λ b. failed_by_resource_error result b old.failed) not ∙ unbegun-cut result old.failed;
      },
    );
    marked = λ is. ap (λ b. failed_by_resource_error result b old.failed) is;
  } where
    below : (r : Result T Fault) → HadNoResourceError r → going.HadNoResourceError r
    below (Ok v) whole = tt
    below (Err Memory) whole = absurd whole
    below (Err Storage) whole = absurd whole
    below (Err fault) whole = tt

  -- Two calls one after another. The first had no resource error.
  pub begins-then : {T U : Type 0} (was between now : Bool) (old mid new : Qcow2 S g) (first : Result T Fault) (result : Result U Fault)
      → HadNoResourceError first → Begins g was old first between mid → Begins g between mid result now new → Begins g was old result now new
  begins-then {T} {U} was between now old mid new first result whole one two = record {
    left_untouched = λ not.
        let second = two.left_untouched not in
        let before = one.left_untouched second.0 in (
          before.0,
          keeps-both {T = U} g old mid new result
              (keeps-as {T = T} {U = Unit} g old mid first (Ok tt) (λ w. whole) (λ f. unmarked first f whole) before.1) second.1,
        );
    marked = λ is. two.marked is ∙ ap (failed_by_resource_error result true) unfailed;
  } where
    unfailed : mid.failed ≡ old.failed
    unfailed = elim (cases_Bool between) [
      | inl begun ↦ one.marked begun ∙ whole-cut first true old.failed whole
      | inr has_no_dirty_data ↦ (one.left_untouched has_no_dirty_data).1.failed ∙ unmarked first old.failed whole
    ]

  -- The call may return another value.
  pub begins-ok : {T U : Type 0} (was now : Bool) (old new : Qcow2 S g) (v : T) (w : U) → Begins g was old (Ok v) now new
      → Begins g was old (Ok w) now new
  begins-ok {T} {U} was now old new v w b = record {
    left_untouched = λ not. let s = b.left_untouched not in (s.0, keeps-as {T = T} {U = U} g old new (Ok v) (Ok w) (λ whole. whole) (λ f. refl) s.1);
    marked = b.marked;
  }

  -- The type of the result may be another, with the same error.
  pub begins-err : {T U : Type 0} (was now : Bool) (old new : Qcow2 S g) (e : Fault) → Begins {T = T} g was old (Err e) now new
      → Begins {T = U} g was old (Err e) now new
  begins-err {T} {U} was now old new e b = record {
    left_untouched = λ not. let s = b.left_untouched not in
        (s.0, keeps-as {T = T} {U = U} g old new (Err e) (Err e) (λ whole. whole) (λ f. refl) s.1);
    marked = λ is. b.marked is ∙ cut-same T U e old.failed;
  }

  pub begins-placed : (n : ℕ) (was now : Bool) (old new : Qcow2 S g) (stored : Result ℕ Fault) → Begins g was old stored now new
      → Begins g was old (placed_by n stored) now new
  begins-placed n was now old new (Ok host) b =
      begins-ok {T = ℕ} {U = Placed} was now old new host (record { host = host; count = n; is_kept = false }) b
  begins-placed n was now old new (Err e) b = begins-err {T = ℕ} {U = Placed} was now old new e b

  -- Loading the free space begins a call. If the free space was loaded before, nothing was done.
  pub begins-loaded : (old new : Qcow2 S g) (begun : Bool) → is_some old.tables.space ≡ not begun → LoadsSpace g old (Ok tt) new
      → Begins {T = Unit} g false old (Ok tt) begun new
  begins-loaded old new begun is loads = record {
    left_untouched = λ unbegun. (
      refl,
      subst (λ (d : Qcow2 S g). KeepsImage {T = Unit} g old (Ok tt) d) (sym (loads.stays (known old.tables.space (is ∙ ap not unbegun))))
          (record { tables = tables-same g old (Ok tt); mode = refl; number = refl; unspent = refl; failed = refl }),
    );
    marked = λ _. loads.faults;
  } where
    known : (o : Option Space) → is_some o ≡ true → IsSome o
    known (Some space) some = refl
    known None some = absurd (cc some)

  -- A resource error of a lookup leaves the image failed or unchanged.
  pub quiet-marked : {T : Type 0} (old new : Qcow2 S g) (e : Fault) → KeepsImage {T = T} g old (Err e) new → LeavesMarkedFailed g old new e
  quiet-marked {T} old new Storage k = k.failed
  quiet-marked {T} old new Memory k = inr (keeps-as {T = T} {U = Unit} g old new (Err Memory) (Err Memory) (λ w. w) (λ f. refl) k)
  quiet-marked {T} old new e k = tt

  -- A resource error of a change leaves the image failed or unchanged.
  pub begins-marked : {T : Type 0} (now : Bool) (old new : Qcow2 S g) (e : Fault) → Begins {T = T} g false old (Err e) now new
      → LeavesMarkedFailed g old new e
  begins-marked {T} now old new e b = elim (cases_Bool now) [
    | inl begun ↦ cut e (b.marked begun)
    | inr has_no_dirty_data ↦ quiet-marked {T = T} old new e (b.left_untouched has_no_dirty_data).1
  ] where
    cut : (f : Fault) → new.failed ≡ failed_by_resource_error {T = T} (Err f) true old.failed → LeavesMarkedFailed g old new f
    cut Storage is = is
    cut Memory is = inl is
    cut f is = tt

-- The crash images of a commit to the layer below, as the files say.
use Rattle.std.proofs.Common.{◌≡◌, ◌⊎◌, ◌∙◌, ◌∷◌, ◌<◌, ◌≤◌, ◌+◌, ◌^◌, [], ℕ, List, ap, arith, inl, inr, refl, subst, sym}
use Rattle.std.specs.Prelude.{Bool, IsTrue, None, Some, ◌&&◌, ◌||◌, drop, false, if◌then◌else◌, ltb, map, not, true}
use Rattle.std.proofs.lemmas.Bool.{cases_lt, lt-ltb}
use Rattle.std.proofs.lemmas.List.Elements.{All-weaker}
use Rattle.imago_storage.specs.Calls.{IsFaultless}
use Rattle.imago_storage.specs.Disk.{Value, byte}
use Rattle.imago_storage.specs.Passing.{UnrefusedCrashImages}
use Rattle.imago_storage.specs.State.{CrashImageIsBytes, HasRisen, Shape, StorageState}
use Rattle.imago_storage.specs.Steps.{flush}
use Rattle.imago_storage.specs.declared.fault.Fault.TheVariants.{BadArgument, Failed, ReadOnly}
use Rattle.imago_access.specs.Chain.{IsBacked, at}
use Rattle.imago_access.specs.Committing.{CommitMoments, IsFilled, IsFlushedFirst, IsPairAbove, IsPairBelow, IsSettled, NextPair, OfNext}
use Rattle.imago_access.specs.Committing.{commit_down_refusal, first_fault}
use Rattle.imago_access.specs.Files.{IsLater}
use Rattle.imago_access.specs.Layer.{Fixed, KeepsLayerState, Layer, through, unmapped}
use Rattle.imago_access.specs.Refusals.{unusable_fault}
use Rattle.imago_access.specs.Running.{below_of, chain_disk}
use Rattle.imago_access.specs.Stops.{MakesNone}
use Rattle.imago_access.specs.declared.driver_model.DriverModel.{Ghosts}
use Rattle.imago_access.proofs.CommitEnds.{commit_allowed, no_next}
use Rattle.imago_access.proofs.CommitValues.{allowed_size, if_none, over_meant}
use Rattle.imago_access.proofs.Stopping.{here, passes_none}
use Rattle.qimg_calls.specs.CommittingDown.{commit_call_refusal, next_is_prepared, takes_commits}
use Rattle.qimg_calls.specs.Held.{IsReady}
use Rattle.qimg_calls.specs.Runs.{CommitCrashImages, IfTelling, IsLeftBy, Moment}
use Rattle.qimg_calls.specs.Since.{LeftSince, begun, flushed, value_over}
use Rattle.qimg_calls.specs.declared.call.Answer.{Answer}
use Rattle.qimg_calls.specs.declared.call.Call.TheVariants as calls
use Rattle.qimg_chain.specs.Sessions.{next_image}
use Rattle.qimg_chain.specs.Chains.{IsSoundAs}
use Rattle.qimg_chain.specs.FileMeanings.{FileBytes, file_meaning, value_of}
use Rattle.qimg_chain.specs.FlushedFiles.{with_image}
use Rattle.qimg_chain.specs.OneDisk.{CommitsInto, IsPairOf, over_values, reading_over}
use Rattle.qimg_chain.proofs.Sessions.Moments.{flat}
use Rattle.qimg_chain.proofs.Sessions.Readings.{IsReadAs, IsStanding, flushed-left, left-as, same-value}

-- ---- Counts.

-- A count that hasn't risen is below its greatest value.
pub unrisen : (a b : ℕ) → a ≤ b → (HasRisen a b → ⊥) → a + 1 < 2 ^ 64
unrisen a b later no_change_refused = elim (cases_lt (b + 1) (2 ^ 64)) [
  | inl fits ↦ omega (arith, fits, later)
  | inr full ↦ absurd (no_change_refused (record { not_fallen = later; rose = λ fits. omega (arith, fits, full) }))
]

-- An equal count below its greatest value hasn't risen.
equal-then : (a b : ℕ) → b ≡ a → b + 1 < 2 ^ 64 → HasRisen a b → ⊥
equal-then a b same room rose = omega (arith, same, rose.rose room)

-- ---- Storages.

-- The top's file after calls in which no request failed.
standing-after : (x : Fixed) (file : FileBytes) (P : List ℕ → Type 0) (a b : StorageState) → IfTelling a (IsStanding x file a)
    → (IsStanding x file a → (f : List ℕ) → P f → IsSoundAs file.format f × ((x.means f).backed ≡ (file_meaning file).backed))
    → UnrefusedCrashImages P a b → IsLater a b → IsFaultless a b → IfTelling b (IsStanding x file b)
standing-after x file P a b was good images later faultless tells keeps room =
    let told = subst (λ (s : Shape). IsTrue s.tells) later.0 tells in
    let kept = subst (λ (s : Shape). IsTrue s.keeps) later.0 keeps in
    let stood = was told kept (omega (arith, room, later.1.refusals)) in
    let one = images (equal-then a.refusals b.refusals faultless.1 room) in
    let before : CrashImageIsBytes a = λ t k. stood.told in
    let now : CrashImageIsBytes b = one.0 before in
    elim (here P a b later before now told kept (one.1 before told kept)) [
      | inl same ↦ record {
        told = now tells keeps;
        is_sound = subst (IsSoundAs file.format) (sym same) stood.is_sound;
        backed = ap (λ f. (x.means f).backed) same ∙ stood.backed;
      }
      | inr left ↦ let is = good stood b.bytes left in record { told = now tells keeps; is_sound = is.0; backed = is.1 }
    ]

-- A layer over others reads through to them.
pub backed-known : (below : List Layer) (layer : Layer) → IsBacked below layer → (p : ℕ)
    → (layer.fixed.blank ≡ unmapped) ⊎ (at below p ≡ byte 0)
backed-known [] layer backed p = inr refl
backed-known (next ∷ below) layer backed p = inl backed

-- The top and the next layer are writable, and the top isn't larger, unless a commit fails early.
begun-down : (top : Layer) (below : List Layer) → commit_call_refusal top below ≡ None → commit_down_refusal top below ≡ None
begun-down top below none = (if_none (next_is_prepared below) BadArgument (commit_down_refusal top below)
    (if_none top.failed Failed (if next_is_prepared below then Some BadArgument else commit_down_refusal top below) none).1).1

pub begun-size : (top next : Layer) (rest : List Layer) → commit_call_refusal top (next ∷ rest) ≡ None → top.size ≤ next.size
begun-size top next rest none = allowed_size top next (commit_allowed top next rest (begun-down top (next ∷ rest) none))

both-true : (a b : Bool) → not a || not b ≡ false → a && b ≡ true
both-true true true is = refl
both-true true false is = absurd (cc is)
both-true false b is = absurd (cc is)

pub begun-takes : (top : Layer) (below : List Layer) → commit_call_refusal top below ≡ None → takes_commits (top ∷ below) ≡ true
begun-takes top [] none = absurd (no_next top (begun-down top [] none))
begun-takes top (next ∷ rest) none = both-true top.fixed.writable next.fixed.writable
    (if_none (not top.fixed.writable || not next.fixed.writable) ReadOnly
    (if ltb next.size top.size then Some BadArgument else first_fault (unusable_fault top) (unusable_fault next))
    (commit_allowed top next rest (begun-down top (next ∷ rest) none))).0

module _ {D St : Type 0} (g : Ghosts D St) where
  -- ---- The next layer.

  -- A driver reads its file as the file says, over drivers that show these files.
  pub record IsReadOver (d : D) (ds : List D) (file : FileBytes) (files : List FileBytes) : Type 0 where
    pub is_read : IsReadAs g.sound (g.layer d).fixed file
    pub values : (p : ℕ) → at (map g.layer ds) p ≡ value_of files p
    pub shows : (p : ℕ) → ((g.layer d).fixed.blank ≡ unmapped) ⊎ (at (map g.layer ds) p ≡ byte 0)

  -- The next layer and those below it read as these files say.
  abbrev pub ReadsNext : List D → List FileBytes → Type 0
  ReadsNext (d ∷ ds) (file ∷ files) = IsReadOver d ds file files
  ReadsNext ds files = ⊥

  -- The next layer has the same fixed properties.
  abbrev pub KeepsFixed : List D → List D → Type 0
  KeepsFixed olds news = NextPair (λ n m. (g.layer m.0).fixed ≡ (g.layer n.0).fixed) olds news

  -- So it does after calls that keep its fixed properties and the layers below it.
  pub reads-later : (olds news : List D) (files : List FileBytes) → KeepsFixed olds news
      → map g.layer (drop 1 news) ≡ map g.layer (drop 1 olds) → ReadsNext olds files → ReadsNext news files
  reads-later [] news files fixed deeper reads = absurd reads
  reads-later (old ∷ olds) news [] fixed deeper reads = absurd reads
  reads-later (old ∷ olds) [] (file ∷ files) fixed deeper reads = absurd fixed
  reads-later (old ∷ olds) (new ∷ news) (file ∷ files) fixed deeper reads = record {
    is_read = subst (λ (x : Fixed). IsReadAs g.sound x file) (sym fixed) reads.is_read;
    values = λ p. ap (λ (layers : List Layer). at layers p) deeper ∙ reads.values p;
    shows = λ p. subst (λ (x : Fixed). (x.blank ≡ unmapped) ⊎ (at (map g.layer news) p ≡ byte 0)) (sym fixed)
        (subst (λ (layers : List Layer). ((g.layer old).fixed.blank ≡ unmapped) ⊎ (at layers p ≡ byte 0)) (sym deeper) (reads.shows p));
  }

  pub fixed-both : (first olds news : List D) → KeepsFixed first olds → KeepsFixed olds news → KeepsFixed first news
  fixed-both [] [] [] one two = tt
  fixed-both [] [] (n ∷ ns) one two = absurd two
  fixed-both [] (o ∷ os) news one two = absurd one
  fixed-both (f ∷ fs) [] news one two = absurd one
  fixed-both (f ∷ fs) (o ∷ os) [] one two = absurd two
  fixed-both (f ∷ fs) (o ∷ os) (n ∷ ns) one two = two ∙ one

  pub fixed-kept : (olds news : List D) → NextPair (λ n m. KeepsLayerState (g.layer n.0) (g.layer m.0)) olds news → KeepsFixed olds news
  fixed-kept [] [] kept = tt
  fixed-kept [] (n ∷ ns) kept = absurd kept
  fixed-kept (o ∷ os) [] kept = absurd kept
  fixed-kept (o ∷ os) (n ∷ ns) kept = kept.fixed

  pub fixed-same : (olds news : List D) → map g.layer news ≡ map g.layer olds → KeepsFixed olds news
  fixed-same [] [] same = tt
  fixed-same [] (n ∷ ns) same = absurd (cc same)
  fixed-same (o ∷ os) [] same = absurd (cc same)
  fixed-same (o ∷ os) (n ∷ ns) same = let first : g.layer n ≡ g.layer o = cc same in ap (λ (l : Layer). l.fixed) first

  -- A top with a next layer of the same fixed properties takes commits exactly if it did.
  pub takes-since : (a b : D) (olds news : List D) → (g.layer b).fixed ≡ (g.layer a).fixed → KeepsFixed olds news
      → takes_commits (map g.layer (b ∷ news)) ≡ takes_commits (map g.layer (a ∷ olds))
  takes-since a b [] [] fixed next = refl
  takes-since a b [] (n ∷ ns) fixed next = absurd next
  takes-since a b (o ∷ os) [] fixed next = absurd next
  takes-since a b (o ∷ os) (n ∷ ns) fixed next = rw (fixed, next) refl

  -- The value of a byte of the next layer's file.
  next-value : (d : D) (ds : List D) (file : FileBytes) (files : List FileBytes) → IsReadOver d ds file files → (f : List ℕ) (p : ℕ)
      → value_over (value_of files) (file_meaning (with_image file f)) p ≡ value_over (at (map g.layer ds)) ((g.layer d).fixed.means f) p
  next-value d ds file files reads f p = sym (same-value g.sound (g.layer d).fixed file reads.is_read (at (map g.layer ds)) f p
      (reads.shows p)
      ∙ ap (λ (v : ℕ → Value). value_over v (file_meaning (with_image file f)) p) (λ i q. reads.values q i))

  -- The file of the next layer says what the layer is, as far as the top reaches.
  settled-value : (size : ℕ) (d : D) (ds : List D) (file : FileBytes) (files : List FileBytes) → IsReadOver d ds file files → IsSettled g d
      → size ≤ (g.layer d).size → (p : ℕ) → p < size
      → value_over (value_of files) (file_meaning (with_image file (g.image d).bytes)) p ≡ at (map g.layer (d ∷ ds)) p
  settled-value size d ds file files reads settled long p inside =
      let layer = g.layer d in
      let in_layer : p < layer.size = omega (arith, inside, long) in
      next-value d ds file files reads (g.image d).bytes p
      ∙ over_meant layer (g.image d).bytes (at (map g.layer ds)) p settled.written in_layer
      ∙ sym (ap (λ (t : Bool). if t then through (layer.cell p) (at (map g.layer ds) p) else byte 0) (lt-ltb p layer.size in_layer))

  -- ---- The files of a commit.

  pair-at : (R : D × List D → D × List D → Type 0) (a b c d : List D) → a ≡ c → b ≡ d → NextPair R a b → NextPair R c d
  pair-at R a b c d first second pair = subst (λ (xs : List D). NextPair R xs d) first (subst (NextPair R a) second pair)

  module _ (file : FileBytes) (answer : Answer) (old new : Moment D St) (is_read : IsReadAs g.sound (g.layer old.now.drivers.0).fixed file)
      (stands : IfTelling (g.image old.now.drivers.0) (IsStanding (g.layer old.now.drivers.0).fixed file (g.image old.now.drivers.0)))
      (ready : IsReady g old.now.drivers) (images : CommitCrashImages g answer old new) where
    moments : CommitMoments g old.now.drivers new.now.drivers images.course.flushed images.course.mid
    moments = images.course.moments

    -- The top shows the layers below it.
    known : (p : ℕ) → ((g.layer old.now.drivers.0).fixed.blank ≡ unmapped) ⊎ (at (map g.layer old.now.drivers.1) p ≡ byte 0)
    known = backed-known (map g.layer old.now.drivers.1) (g.layer old.now.drivers.0) ready.intact.backed

    -- The first flush.
    left-is : IsStanding (g.layer old.now.drivers.0).fixed file (g.image old.now.drivers.0) → (f : List ℕ)
        → IsLeftBy g calls.CommitDown old f
        → IsSoundAs file.format f × (((g.layer old.now.drivers.0).fixed.means f).backed ≡ (file_meaning file).backed)
    left-is stood f left = (is_read.is_sound f left.is_sound, left.reads.backed ∙ stood.backed)

    flush-so : (files : List FileBytes) → UnrefusedCrashImages (LeftSince (over_values (reading_over file files)
        (below_of g.layer old.now.drivers))
        (begun old.since (chain_disk g.layer old.now.drivers) flush)) (g.image old.now.drivers.0) (g.image images.course.flushed)
    flush-so files no_change_refused =
        let a = g.image old.now.drivers.0 in
        let b = g.image images.course.flushed in
        let since = begun old.since (chain_disk g.layer old.now.drivers) flush in
        let x = (g.layer old.now.drivers.0).fixed in
        let values = below_of g.layer old.now.drivers in
        let one = images.flush no_change_refused in
        let room = unrisen a.refusals b.refusals moments.counts_before.1.refusals no_change_refused in (
          one.0,
          λ step tells keeps. let stops = one.1 step tells keeps in record {
            files = stops.files;
            told = stops.told;
            each = All-weaker (IsLeftBy g calls.CommitDown old) (LeftSince (over_values (reading_over file files) values) since)
                (left-as g.sound x file is_read files values known (x.means a.bytes).backed (stands tells keeps room).backed since)
                stops.files stops.each;
          },
        )

    flushed-stands : IsFlushedFirst g old.now.drivers.0 images.course.flushed
        → IfTelling (g.image images.course.flushed) (IsStanding (g.layer old.now.drivers.0).fixed file (g.image images.course.flushed))
    flushed-stands first = standing-after (g.layer old.now.drivers.0).fixed file (IsLeftBy g calls.CommitDown old)
        (g.image old.now.drivers.0)
        (g.image images.course.flushed) stands left-is images.flush moments.counts_before first.faults

    -- A file that reads as the disk, with the flushed top's file.
    reads-disk : IsFlushedFirst g old.now.drivers.0 images.course.flushed → (files : List FileBytes) (below : ℕ → Value)
        → ((p : ℕ) → ((g.layer old.now.drivers.0).fixed.blank ≡ unmapped) ⊎ (below p ≡ byte 0))
        → ((p : ℕ) → p < (g.layer old.now.drivers.0).size
        → value_over below ((g.layer old.now.drivers.0).fixed.means (g.image images.course.flushed).bytes) p ≡
        (chain_disk g.layer old.now.drivers).value p)
        → IfTelling (g.image images.course.flushed) (LeftSince (over_values (reading_over file files) below)
        (flushed (chain_disk g.layer old.now.drivers)) (g.image images.course.flushed).bytes)
    reads-disk first files below under shows tells keeps room =
        let stood = flushed-stands first tells keeps room in
        let disk = chain_disk g.layer old.now.drivers in
        let bytes = (g.image images.course.flushed).bytes in
        flushed-left g.sound (g.layer old.now.drivers.0).fixed file is_read files below under disk bytes stood.is_sound stood.backed
        first.meant.size (λ exact. omega (arith, first.meant.exactly exact)) shows

    -- Right after the first flush.
    left-so : (files : List FileBytes) (a b : StorageState) → IsFlushedFirst g old.now.drivers.0 images.course.flushed ⊎ (b ≡ a)
        → IfTelling (g.image images.course.flushed) (LeftSince (over_values (reading_over file files) (below_of g.layer old.now.drivers))
        (flushed (chain_disk g.layer old.now.drivers)) (g.image images.course.flushed).bytes) ⊎ (b ≡ a)
    left-so files a b (inr same) = inr same
    left-so files a b (inl first) =
        let layer = g.layer old.now.drivers.0 in
        let below = below_of g.layer old.now.drivers in
        inl (reads-disk first files below known (λ p inside. over_meant layer
        (g.image images.course.flushed).bytes below p first.meant inside
        ∙ sym (ap (λ (t : Bool). if t then through (layer.cell p) (below p) else byte 0) (lt-ltb p layer.size inside))))

    -- The copy to the next layer.
    pair-so : (n : D) (ns : List D) (next : FileBytes) (files : List FileBytes) → IsReadOver n ns next files
        → (g.layer old.now.drivers.0).fixed.blank ≡ unmapped → IsFlushedFirst g old.now.drivers.0 images.course.flushed
        → IsTrue (g.image images.course.flushed).shape.tells → IsTrue (g.image images.course.flushed).shape.keeps
        → (g.image images.course.flushed).refusals + 1 < 2 ^ 64
        → (f : List ℕ) → IsPairBelow g old.now.drivers (g.image images.course.flushed).bytes (n, ns) f
        → IsPairOf (reading_over file (next ∷ files)) (reading_over next files) (chain_disk g.layer old.now.drivers)
        (g.image images.course.flushed).bytes f
    pair-so n ns next files reads blank first tells keeps room f pair =
        let means = (g.layer old.now.drivers.0).fixed.means in
        let bytes = (g.image images.course.flushed).bytes in
        let over = value_over (value_of files) (file_meaning (with_image next f)) in
        let same : over ≡ value_over (at (map g.layer ns)) ((g.layer n).fixed.means f) = λ i p. next-value n ns next files reads f p i in
        record {
          is_sound = reads.is_read.is_sound f pair.left.is_sound;
          pair = reads-disk first (next ∷ files) over (λ p. inl blank)
              (λ p inside. ap (λ (v : ℕ → Value). value_over v (means bytes) p) same ∙ pair.shows p inside) tells keeps room;
        }

    copied-so : (n m : D) (ns : List D) (next : FileBytes) (files : List FileBytes) → IsReadOver n ns next files
        → (g.layer old.now.drivers.0).fixed.blank ≡ unmapped
        → IsFlushedFirst g old.now.drivers.0 images.course.flushed ⊎ (g.image m ≡ g.image n)
        → UnrefusedCrashImages (IsPairBelow g old.now.drivers (g.image images.course.flushed).bytes (n, ns)) (g.image n) (g.image m)
        → IfTelling (g.image images.course.flushed) (UnrefusedCrashImages (IsPairOf (reading_over file (next ∷ files))
        (reading_over next files)
        (chain_disk g.layer old.now.drivers) (g.image images.course.flushed).bytes) (g.image n) (g.image m))
    copied-so n m ns next files reads blank (inr same) passes tells keeps room =
        passes_none (IsPairOf (reading_over file (next ∷ files)) (reading_over next files) (chain_disk g.layer old.now.drivers)
        (g.image images.course.flushed).bytes) (g.image n) (g.image m) (ap (λ (s : StorageState). s.shape) same) (
          ap (λ (s : StorageState). s.crash_image) same,
          ap (λ (s : StorageState). s.past_crash_images) same,
          ap (λ (s : StorageState). s.bytes) same,
          ap (λ (s : StorageState). s.refusals) same,
        )
    copied-so n m ns next files reads blank (inl first) passes tells keeps room = λ no_change_refused.
        let one = passes no_change_refused in
        let bytes = (g.image images.course.flushed).bytes in (
          one.0,
          λ step told kept. let stops = one.1 step told kept in record {
            files = stops.files;
            told = stops.told;
            each = All-weaker (IsPairBelow g old.now.drivers bytes (n, ns))
                (IsPairOf (reading_over file (next ∷ files)) (reading_over next files) (chain_disk g.layer old.now.drivers) bytes)
                (pair-so n ns next files reads blank first tells keeps room) stops.files stops.each;
          },
        )

    -- The top is emptied.
    above-so : (files : List FileBytes) → IsFlushedFirst g old.now.drivers.0 images.course.flushed
        → IsFilled g old.now.drivers images.course.mid → IsBacked (map g.layer images.course.mid.1) (g.layer old.now.drivers.0)
        → IsTrue (g.image images.course.mid.0).shape.tells → IsTrue (g.image images.course.mid.0).shape.keeps
        → (g.image images.course.mid.0).refusals + 1 < 2 ^ 64
        → (f : List ℕ) → IsPairAbove g old.now.drivers images.course.mid f
        → LeftSince (over_values (reading_over file files) (below_of g.layer images.course.mid)) (flushed
        (chain_disk g.layer old.now.drivers)) f
    above-so files first filled backed tells keeps room f pair =
        let layer = g.layer old.now.drivers.0 in
        let x = layer.fixed in
        let a = g.image images.course.flushed in
        let m = g.image images.course.mid.0 in
        let same = moments.top_kept.0.0 in
        let stood = flushed-stands first (subst (λ (s : Shape). IsTrue s.tells) same.shape tells)
        (subst (λ (s : Shape). IsTrue s.keeps) same.shape keeps) (omega (arith, room, same.refusals)) in
        let left_backed : (x.means f).backed ≡ (x.means m.bytes).backed =
        subst (λ (l : Layer). (l.fixed.means f).backed ≡ (l.fixed.means m.bytes).backed) filled.same pair.left.backed in
        flushed-left g.sound x file is_read files (below_of g.layer images.course.mid)
        (backed-known (map g.layer images.course.mid.1) layer backed) (chain_disk g.layer old.now.drivers) f
        (is_read.is_sound f (subst (λ (l : Layer). g.sound l.fixed.kind f) filled.same pair.left.is_sound))
        (left_backed ∙ ap (λ bytes. (x.means bytes).backed) same.bytes ∙ stood.backed)
        (subst (λ (l : Layer). l.size ≤ (l.fixed.means f).size) filled.same pair.left.size)
        (subst (λ (l : Layer). IsTrue l.fixed.exact → (l.fixed.means f).size ≤ l.size) filled.same pair.left.no_longer)
        pair.shows

    emptied-so : (files : List FileBytes) → IsBacked (map g.layer images.course.mid.1) (g.layer old.now.drivers.0)
        → (IsFlushedFirst g old.now.drivers.0 images.course.flushed × IsFilled g old.now.drivers images.course.mid)
        ⊎ MakesNone (g.image images.course.mid.0) (g.image new.now.drivers.0)
        → UnrefusedCrashImages (LeftSince (over_values (reading_over file files) (below_of g.layer images.course.mid))
        (flushed (chain_disk g.layer old.now.drivers))) (g.image images.course.mid.0) (g.image new.now.drivers.0)
    emptied-so files backed (inr none) =
        passes_none (LeftSince (over_values (reading_over file files) (below_of g.layer images.course.mid)) (flushed
        (chain_disk g.layer old.now.drivers)))
        (g.image images.course.mid.0) (g.image new.now.drivers.0) moments.counts_after.0 none
    emptied-so files backed (inl done) = λ no_change_refused.
        let a = g.image images.course.mid.0 in
        let b = g.image new.now.drivers.0 in
        let one = moments.top no_change_refused in
        let room = unrisen a.refusals b.refusals moments.counts_after.1.refusals no_change_refused in (
          one.0,
          λ step tells keeps. let stops = one.1 step tells keeps in record {
            files = stops.files;
            told = stops.told;
            each = All-weaker (IsPairAbove g old.now.drivers images.course.mid)
                (LeftSince (over_values (reading_over file files) (below_of g.layer images.course.mid)) (flushed
                (chain_disk g.layer old.now.drivers)))
                (above-so files done.0 done.1 backed tells keeps room) stops.files stops.each;
          },
        )

    -- The next layer after the copy.
    settled-so : (size : ℕ) (o : D) (os : List D) (n : D) (ns : List D) (next : FileBytes) (files : List FileBytes)
        → size ≤ (g.layer o).size → KeepsLayerState (g.layer o) (g.layer n) → IsReadOver o os next files → IsSettled g n
        → map g.layer ns ≡ map g.layer os → (p : ℕ) → p < size
        → value_over (value_of files) (file_meaning (with_image next (g.image n).bytes)) p ≡ at (map g.layer (n ∷ ns)) p
    settled-so size o os n ns next files long kept reads settled deeper p inside =
        settled-value size n ns next files (reads-later (o ∷ os) (n ∷ ns) (next ∷ files) kept.fixed deeper reads) settled
        (omega (arith, long, kept.size)) p inside

    -- All of it. The lists are the layers below the top before and after the call.
    pub into : (olds news : List D) (files : List FileBytes) → old.now.drivers.1 ≡ olds → new.now.drivers.1 ≡ news → ReadsNext olds files
        → commit_call_refusal (g.layer old.now.drivers.0) (map g.layer old.now.drivers.1) ≡ None
        → CommitsInto file files (flat g old) (flat g new)
    into [] news files old_is new_is reads late = absurd reads
    into (o ∷ os) news [] old_is new_is reads late = absurd reads
    into (o ∷ os) [] (next ∷ files) old_is new_is reads late =
        absurd (pair-at (λ n m. KeepsLayerState (g.layer n.0) (g.layer m.0)) old.now.drivers.1 images.course.mid.1 (o ∷ os) [] old_is
        (sym moments.below_kept ∙ new_is) moments.order.keeps_layer_state)
    into (o ∷ os) (n ∷ ns) (next ∷ files) old_is new_is reads late =
        let bytes = (g.image images.course.flushed).bytes in
        let size = (g.layer old.now.drivers.0).size in
        let mid_is : images.course.mid.1 ≡ n ∷ ns = sym moments.below_kept ∙ new_is in
        let kept : KeepsLayerState (g.layer o) (g.layer n) = pair-at (λ n m. KeepsLayerState (g.layer n.0) (g.layer m.0)) old.now.drivers.1
        images.course.mid.1 (o ∷ os) (n ∷ ns) old_is mid_is moments.order.keeps_layer_state in
        let passes : UnrefusedCrashImages (IsPairBelow g old.now.drivers bytes (o, os)) (g.image o) (g.image n) =
        pair-at (λ n m. UnrefusedCrashImages (IsPairBelow g old.now.drivers bytes n) (g.image n.0) (g.image m.0)) old.now.drivers.1
        images.course.mid.1 (o ∷ os) (n ∷ ns) old_is mid_is moments.next in
        let blank : (g.layer old.now.drivers.0).fixed.blank ≡ unmapped =
        subst (λ (ds : List D). IsBacked (map g.layer ds) (g.layer old.now.drivers.0)) old_is ready.intact.backed in
        let filled_first : IsFlushedFirst g old.now.drivers.0 images.course.flushed ⊎ (g.image n ≡ g.image o) = elim moments.order.fills [
          | inl first ↦ inl first
          | inr same ↦ inr (let heads : n ∷ ns ≡ o ∷ os = sym mid_is ∙ same ∙ old_is in let first : n ≡ o = cc heads in ap g.image first)
        ] in
        let long : size ≤ (g.layer o).size = begun-size (g.layer old.now.drivers.0) (g.layer o) (map g.layer os)
        (subst (λ (ds : List D). commit_call_refusal (g.layer old.now.drivers.0) (map g.layer ds) ≡ None) old_is late) in
        record {
          flushed_top = g.image images.course.flushed;
          kept_top = g.image images.course.mid.0;
          old_next = g.image o;
          new_next = g.image n;
          old_is = ap (next_image g) old_is;
          new_is = ap (next_image g) new_is;
          flush = flush-so (next ∷ files);
          left = left-so (next ∷ files) (g.image o) (g.image n) filled_first;
          counts_before = moments.counts_before;
          counts_after = moments.counts_after;
          top_unchanged = moments.top_kept.0;
          copied = copied-so o n os next files reads blank filled_first passes;
          settled = elim moments.settled [
            | inr none ↦ inr none
            | inl settled ↦ elim moments.order.empties [
              | inr none ↦ inr none
              | inl done ↦ inl (λ p inside. settled-so size o os n ns next files long kept reads
                  (subst (OfNext (λ m. IsSettled g m.0)) mid_is settled)
                  (sym (ap (λ (ds : List D). map g.layer (drop 1 ds)) mid_is) ∙ done.1.deeper
                  ∙ ap (λ (ds : List D). map g.layer (drop 1 ds)) old_is)
                  p inside ∙ sym (ap (λ (ds : List D). at (map g.layer ds) p) new_is))
            ]
          ];
          emptied = subst (λ (ds : List D). UnrefusedCrashImages (LeftSince (over_values (reading_over file (next ∷ files)) (at
              (map g.layer ds)))
              (flushed (chain_disk g.layer old.now.drivers))) (g.image images.course.mid.0) (g.image new.now.drivers.0))
              (sym moments.below_kept)
              (emptied-so (next ∷ files) (subst (λ (ds : List D). IsBacked (map g.layer ds) (g.layer old.now.drivers.0)) (sym mid_is) blank)
              moments.order.empties);
        }

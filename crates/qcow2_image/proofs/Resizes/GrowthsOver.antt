-- Lemmas on growths whose new bytes read as zeroes: the new guest clusters are prepared, then the last old one, and then the size changes.
use Rattle.std.proofs.Common.{◌≡◌, ◌≢◌, ℕ, ◌+◌, ◌-◌, ◌*◌, ◌/◌, ◌%◌, ◌^◌, ◌<◌, ◌≤◌, arith, ap, sym, subst, ◌∙◌, inl, inr, refl, Bool, false, true, List, ◌∷◌, length, Option, None, Some, Result, Ok, Err}
use Rattle.std.specs.Prelude.{⊤, ◌⊎◌, IsSome, IsTrue, MatchOption, OnOk, Vec, max, min, slice_index}
use Rattle.std.specs.declared.alloc.Global.{Global}
use Rattle.std.proofs.lemmas.Bool.{cases_lt}
use Rattle.std.proofs.lemmas.Nat.{div-add-mod', mod_below, pow_pos}
use Rattle.std.proofs.Math.Nat.{mul-le-mul_right}
use Rattle.imago_storage.specs.State.{HasRisen, StorageState}
use Rattle.imago_storage.specs.Disk.{Value, byte}
use Rattle.imago_storage.specs.Passing.{UnrefusedCrashImages}
use Rattle.imago_storage.specs.declared.fault.Fault.{Fault}
use Rattle.imago_storage.specs.declared.fault.Fault.TheVariants.{DamagedTable, Memory, Storage}
use Rattle.imago_storage.specs.declared.storage.Storage.{Ghosts}
use Rattle.imago_storage.proofs.Composing.{later_both}
use Rattle.imago_access.specs.Chain.{at}
use Rattle.imago_access.specs.Changes.{IsCopied, asking}
use Rattle.imago_access.specs.Files.{HadNoResourceError, IsNotResourceError}
use Rattle.imago_access.specs.Going.{LookupCallBelow}
use Rattle.imago_access.specs.Layer.{Cell, Layer, through}
use Rattle.imago_access.specs.Stops.{GivesNone, Left}
use Rattle.imago_access.specs.declared.driver_model.LayersBelowModel.{Ghosts as GhostsBelow}
use Rattle.imago_access.proofs.Holding.{at_alike}
use Rattle.imago_access.proofs.Looking.{looked_under_weaker}
use Rattle.imago_access.proofs.Stopping.{left_weaker, passes_weaker, then_left}
use Rattle.qcow2_types.specs.Entries.{entry}
use Rattle.qcow2_types.specs.Header.{Fields, Header, cluster_size}
use Rattle.qcow2_alloc.specs.Causes.{HasCause}
use Rattle.qcow2_alloc.specs.Going.{writing_causes}
use Rattle.qcow2_alloc.proofs.Causes.{cause-told, cause-weaker}
use Rattle.qcow2_image.specs.Allocating.{Begins, failed_by_resource_error, reserving_causes}
use Rattle.qcow2_image.specs.Filling.{RefusesCopy}
use Rattle.qcow2_image.specs.Growing.{AreZeroes, GivesWithin, GivesZero, GrowsOver, IsTailOf, IsWithin, LacksNewCluster, LacksRoom, PreparesGrowth, ReadsTail, ReadsZero, SetsEntries, StoresTail, clusters_over, last_guest}
use Rattle.qcow2_image.specs.ImageLayer.{blank_of, qcow2_fixed}
use Rattle.qcow2_image.specs.KeepsDisk.{KeepsDisk, value_in}
use Rattle.qcow2_image.specs.Leaking.{KeepsLeaks}
use Rattle.qcow2_image.specs.Preparing.{LacksPlaceBeside, LeavesMarkedFailed}
use Rattle.qcow2_image.specs.Resizing.{SizesImage}
use Rattle.qcow2_image.specs.Rooms.{IsWellFormed, is_sound}
use Rattle.qcow2_image.specs.Seen.{file_of, layer_of}
use Rattle.qcow2_image.specs.Steps.{KeepsImage}
use Rattle.qcow2_image.specs.declared.qcow2.Qcow2.{Qcow2}
use Rattle.qcow2_image.proofs.CallStarts.{begins-marked, begins-then, quiet-marked, still-cut}
use Rattle.qcow2_image.proofs.CallsWithoutChanges.{above-none}
use Rattle.qcow2_image.proofs.DiskEffects.{cell-shown, cell_of, keeps-image-disk}
use Rattle.qcow2_image.proofs.Leaks.{leaks-both}
use Rattle.qcow2_image.proofs.LeaksByFile.{leaks-kept}
use Rattle.qcow2_image.proofs.Preparations.ContentCopies.{same-row}
use Rattle.qcow2_image.proofs.Resizes.SetEntries.{sets-after-keeps}
use Rattle.qcow2_image.proofs.Resizes.SizeChanges.{hard-sized}
use Rattle.qcow2_image.proofs.Resizes.SizeEffects.{err-map}
use Rattle.qcow2_image.proofs.Resizes.TailReads.{nonempty}
use Rattle.qcow2_image.proofs.Resizes.ZeroedTails.{ZeroesTail, cell-in, tail-kept, tail-replaced}
use Rattle.qcow2_image.proofs.Steps.{keeps-as, keeps-both}

-- The guest clusters of a disk, by the size of clusters.
module _ (c size : ℕ) (one : 0 < c) where
  over-covers : size ≤ clusters_over c size * c
  over-covers =
      let split = div-add-mod' (size + (c - 1)) c in
      let rest = mod_below (size + (c - 1)) c one in
      omega (arith, split, rest, one)

  inside-over : (p : ℕ) → p < size → p / c < clusters_over c size
  inside-over p low = elim (cases_lt (p / c) (clusters_over c size)) [
    | inl less ↦ less
    | inr past ↦
        let covers = over-covers in
        let le : clusters_over c size * c ≤ p / c * c = mul-le-mul_right c past in
        let split = div-add-mod' p c in
        absurd (omega (arith, covers, le, split, low))
  ]

  -- The last byte of a disk that ends inside a cluster is in that cluster.
  last-inside : size % c ≢ 0 → (size - 1) / c ≡ size / c
  last-inside cut =
      let split = div-add-mod' size c in
      let rest = mod_below size c one in
      let some = above-none (size % c) cut in
      same-row c (size / c) (size - 1) (omega (arith, split, some)) (omega (arith, split, rest, one))

-- A call that has set no flag before it keeps to `Begins` for the flag that it found.
begins-any : {S T : Type 0} (g : Ghosts S) (was now : Bool) (old new : Qcow2 S g) (r : Result T Fault) → Begins g was old r now new
    → Begins g false old r now new
begins-any g was now old new r b = record { left_untouched = λ not. (refl, (b.left_untouched not).1); marked = b.marked }

-- The byte reads as 0 by its value.
zero-by : {S : Type 0} (g : Ghosts S) (d : Qcow2 S g) (below : List Layer) (p : ℕ) → ReadsZero g below d p
    → through (cell_of (blank_of d.mode.backing) (value_in g d.tables p)) (at below p) ≡ byte 0
zero-by g d below p zero =
    let b = blank_of d.mode.backing in
    let f = file_of g d.tables in
    let h = d.tables.file.header.fields in
    ap (λ (k : Cell). through k (at below p)) (sym (cell-shown b f h p (entry f h (p / cluster_size h)))) ∙ zero

by-zero : {S : Type 0} (g : Ghosts S) (d : Qcow2 S g) (below : List Layer) (p : ℕ)
    → through (cell_of (blank_of d.mode.backing) (value_in g d.tables p)) (at below p) ≡ byte 0 → ReadsZero g below d p
by-zero g d below p zero =
    let b = blank_of d.mode.backing in
    let f = file_of g d.tables in
    let h = d.tables.file.header.fields in
    ap (λ (k : Cell). through k (at below p)) (cell-shown b f h p (entry f h (p / cluster_size h))) ∙ zero

-- A lookup comes before new guest clusters are prepared.
module _ {S T : Type 0} (g : Ghosts S) (n : ℕ) (old seen mid : Qcow2 S g) (v : T) (k : KeepsImage g old (Ok v) seen) where
  kept : KeepsDisk g ⊤ old seen
  kept = keeps-image-disk {T = T} g old seen (Ok v) k

  kept-leaks : KeepsLeaks g old seen
  kept-leaks = leaks-kept g {T = T} old seen (Ok v) k

  safe-seen : IsWellFormed g old → IsWellFormed g seen
  safe-seen well_formed = kept.safely well_formed tt

  same-fields : seen.tables.file.header.fields ≡ old.tables.file.header.fields
  same-fields = ap (λ (H : Header). H.fields) k.tables.header

  marked-since : (e : Fault) → LeavesMarkedFailed g seen mid e → LeavesMarkedFailed g old mid e
  marked-since Storage is = is
  marked-since Memory (inl is) = inl is
  marked-since Memory (inr none) = inr (keeps-both {T = Unit} g old seen mid (Err Memory)
      (keeps-as {T = T} {U = Unit} g old seen (Ok v) (Ok tt) (λ w. tt) (λ f. refl) k) none)
  marked-since e is = tt

  room-since : (number : ℕ) → IsWellFormed g old → LacksRoom g seen n number → LacksRoom g old n number
  room-since number well_formed (inl top) = inl (record {
    now = top.now;
    well_formed = top.well_formed;
    same_disk = top.same_disk ∙ kept.layer well_formed tt;
    same_leaks = leaks-both g old seen top.now kept-leaks top.same_leaks;
    left = top.left;
    left_safe = top.left_safe;
    left_disk = top.left_disk;
    left_leaks = top.left_leaks;
    lacks = top.lacks;
  })
  room-since number well_formed (inr new) = inr (
      subst (λ (f : Fields). LacksNewCluster g (f.size / cluster_size f) (clusters_over (cluster_size f) n) old number) same-fields (record {
        guest = new.guest;
        within = new.within;
        now = new.now;
        well_formed = new.well_formed;
        same_disk = new.same_disk ∙ kept.layer well_formed tt;
        same_leaks = leaks-both g old seen new.now kept-leaks new.same_leaks;
        left = new.left;
        left_safe = new.left_safe;
        left_disk = new.left_disk;
        left_leaks = new.left_leaks;
        lacks = new.lacks;
      }))

  pub prepares-since : (result : Result Unit Fault) → PreparesGrowth g n seen result mid → PreparesGrowth g n old result mid
  prepares-since result p = record {
    sets = sets-after-keeps g (IsWellFormed g old) (IsWellFormed g old) (IsWellFormed g seen) (HadNoResourceError result)
        (clusters_over (cluster_size old.tables.file.header.fields) old.tables.file.header.fields.size)
        (clusters_over (cluster_size old.tables.file.header.fields) n) GivesZero old seen mid (λ well_formed. well_formed) safe-seen k.failed
        (λ well_formed. subst IsSome (sym k.tables.space)) kept (λ well_formed. kept-leaks)
        (subst (λ (f : Fields). SetsEntries g (IsWellFormed g seen) (HadNoResourceError result) (clusters_over (cluster_size f) f.size)
        (clusters_over (cluster_size f) n) GivesZero seen mid) same-fields p.sets);
    known = λ well_formed. p.known (safe-seen well_formed);
    zeroed = λ well_formed. subst (λ (f : Fields). OnOk result (AreZeroes g (clusters_over (cluster_size f) f.size)
        (clusters_over (cluster_size f) n) mid)) same-fields (p.zeroed (safe-seen well_formed));
    marked = err-map result (LeavesMarkedFailed g seen mid) (LeavesMarkedFailed g old mid) marked-since p.marked;
    cause = err-map result (HasCause (reserving_causes g (LacksRoom g seen n) seen mid)) (HasCause (reserving_causes g (LacksRoom g old n) old mid))
        (λ e why. cause-weaker (let same = (kept.faults tt).0 in record {
          before = omega (arith, same);
          after = omega arith;
          damaged = λ wrong well_formed. wrong (safe-seen well_formed);
          counter = λ wrong well_formed. wrong (safe-seen well_formed);
          full = absurd;
          limit = λ number room well_formed. room-since number well_formed (room (safe-seen well_formed));
        }) e why) p.cause;
  }

  -- A lookup begins nothing.
  pub begins-since : (was now : Bool) → Begins {T = Unit} g was seen (Ok tt) now mid → Begins {T = Unit} g was old (Ok tt) now mid
  begins-since was now b = begins-then g {T = T} {U = Unit} was was now old seen mid (Ok v) (Ok tt) tt
      (record { left_untouched = λ not. (not, k); marked = λ is. k.failed }) b

module _ {S B : Type 0} (g : Ghosts S) (u : GhostsBelow B) (n : ℕ) (old : Qcow2 S g) (x : B) where
  abbrev h : Fields
  h = old.tables.file.header.fields

  abbrev c : ℕ
  c = cluster_size h

  abbrev below : List Layer
  below = u.layers_below x

  abbrev entered : Layer
  entered = layer_of g old

  one : 0 < c
  one = pow_pos h.cluster_bits

  abbrev a : StorageState
  a = g.state old.tables.file.image

  abbrev Same : List ℕ → Type 0
  Same = Left below entered a.bytes is_sound entered.size entered.size GivesNone

  abbrev Wide : List ℕ → Type 0
  Wide = Left below entered a.bytes is_sound (min entered.size n) (max entered.size n) GivesNone

  wider : (f : List ℕ) → Same f → Wide f
  wider f left = record {
    is_sound = left.is_sound;
    backed = left.backed;
    size = omega (arith, left.size);
    no_longer = λ exact. omega (arith, left.no_longer exact);
    shows = left.shows;
  }

  -- The last guest cluster can't be read.
  pub over-unread : (e : Fault) (new : Qcow2 S g) (y : B) → ReadsTail g u (old, x) (Err e) (new, y) → GrowsOver g u n (old, x) (Err e) (new, y)
  over-unread e new y r =
      let k : KeepsDisk g (IsNotResourceError e) old new = keeps-image-disk {T = Option (Vec ℕ Global)} g old new (Err e) r.keeps in record {
        mode = k.mode;
        number = k.number;
        unspent = k.unspent;
        shape = k.shape;
        counts_not_fallen = k.counts_not_fallen;
        failed = k.failed;
        bits = k.bits;
        version = k.version;
        faults = k.faults;
        below = r.below;
        marked = quiet-marked g {T = Option (Vec ℕ Global)} old new e r.keeps;
        size = tt;
        unsized = k.size;
        crash_images = λ well_formed under. passes_weaker Same Wide a (g.state new.tables.file.image) wider (k.crash_images well_formed below);
        well_formed = λ well_formed whole. k.safely well_formed whole;
        shown = λ well_formed under whole q low. ap (λ (l : Layer). through (l.cell q) (at below q)) (k.layer well_formed whole);
        zeroed = λ well_formed under. tt;
        leaks = λ well_formed whole. leaks-kept g {T = Option (Vec ℕ Global)} old new (Err e) r.keeps;
        cause = elim r.cause [
          | inl own ↦ inl (cause-weaker (record {
            before = omega arith;
            after = omega arith;
            damaged = λ wrong. wrong;
            counter = λ wrong. wrong;
            full = absurd;
            limit = λ number none known. absurd (none known);
          }) e own)
          | inr copy ↦ inr copy
        ];
      }

  module _ (first : Result Unit Fault) (mid : Qcow2 S g) (p : PreparesGrowth g n old first mid) where
    -- The new guest clusters don't show.
    same-layer : IsWellFormed g old → HadNoResourceError first → layer_of g mid ≡ layer_of g old
    same-layer well_formed whole = p.sets.layer well_formed whole (over-covers c h.size one)

    first-images : IsWellFormed g old → UnrefusedCrashImages Same a (g.state mid.tables.file.image)
    first-images well_formed =
        let given : ℕ → Value → Type 0 = GivesWithin (clusters_over c h.size) (clusters_over c n) GivesZero entered in
        passes_weaker (Left below entered a.bytes is_sound entered.size entered.size
        (GivesWithin (clusters_over c h.size) (clusters_over c n) GivesZero entered)) Same a (g.state mid.tables.file.image)
        (left_weaker below is_sound entered a.bytes entered.size entered.size
        (GivesWithin (clusters_over c h.size) (clusters_over c n) GivesZero entered) GivesNone
        (λ q v low gave. absurd (let within = inside-over c h.size one q low in let from : clusters_over c h.size ≤ q / c = gave.0.0 in
        omega (arith, within, from)))) (p.sets.crash_images well_formed below)

  -- The new guest clusters aren't prepared.
  pub over-unprepared : (e : Fault) (new : Qcow2 S g) (y : B) → LookupCallBelow u ⊤ x y → PreparesGrowth g n old (Err e) new
      → GrowsOver g u n (old, x) (Err e) (new, y)
  over-unprepared e new y looked p = record {
    mode = p.sets.mode;
    number = p.sets.number;
    unspent = p.sets.unspent;
    shape = p.sets.shape;
    counts_not_fallen = p.sets.counts_not_fallen;
    failed = p.sets.failed;
    bits = p.sets.bits;
    version = p.sets.version;
    faults = p.sets.faults;
    below = looked_under_weaker u ⊤ (IsNotResourceError e) x y (λ whole. tt) looked;
    marked = p.marked;
    size = tt;
    unsized = p.sets.size;
    crash_images = λ well_formed under.
        passes_weaker Same Wide a (g.state new.tables.file.image) wider (first-images (Err e) new p well_formed);
    well_formed = λ well_formed whole. p.sets.well_formed well_formed whole;
    shown = λ well_formed under whole q low.
        ap (λ (l : Layer). through (l.cell q) (at below q)) (same-layer (Err e) new p well_formed whole);
    zeroed = λ well_formed under. tt;
    leaks = λ well_formed whole. p.sets.leaks well_formed whole;
    cause = inl p.cause;
  }

  -- The new guest clusters are prepared.
  module _ (mid : Qcow2 S g) (p : PreparesGrowth g n old (Ok tt) mid) (longer : h.size < n) where
    abbrev b : StorageState
    b = g.state mid.tables.file.image

    safe-mid : IsWellFormed g old → IsWellFormed g mid
    safe-mid well_formed = p.sets.well_formed well_formed tt

    same-mid : IsWellFormed g old → layer_of g mid ≡ layer_of g old
    same-mid well_formed = same-layer (Ok tt) mid p well_formed tt

    module _ (result : Result Unit Fault) (new : Qcow2 S g) (y : B) (z : ZeroesTail g u (IsWellFormed g old) (mid, x) result (new, y)) where
      both-images : IsWellFormed g old → u.coherent_below x → UnrefusedCrashImages Same a (g.state new.tables.file.image)
      both-images well_formed under =
          let same = same-mid well_formed in
          let sizes : (layer_of g mid).size ≡ entered.size = ap (λ (l : Layer). l.size) same in
          then_left below is_sound entered (layer_of g mid) entered.size entered.size GivesNone GivesNone a b
          (g.state new.tables.file.image)
          (p.sets.shape, p.sets.counts_not_fallen) (z.shape, z.counts_not_fallen) (ap (λ (l : Layer). l.fixed) same) sizes
          (omega arith) (omega arith) (λ q low. inr (inl (ap (λ (l : Layer). at (l ∷ below) q) same))) (λ q v low none. absurd none)
          (first-images (Ok tt) mid p well_formed)
          (subst (λ k. UnrefusedCrashImages (Left below (layer_of g mid) b.bytes is_sound k k GivesNone) b (g.state new.tables.file.image))
          sizes
          (z.crash_images well_formed under))

      both-shown : IsWellFormed g old → u.coherent_below x → HadNoResourceError result → (q : ℕ) → q < entered.size
          → through ((layer_of g new).cell q) (at below q) ≡ through (entered.cell q) (at below q)
      both-shown well_formed under whole q low =
          z.shown well_formed under whole q (subst (λ (k : ℕ). q < k) (sym p.sets.size) low)
          ∙ ap (λ (l : Layer). through (l.cell q) (at below q)) (same-mid well_formed)

      both-leaks : IsWellFormed g old → HadNoResourceError result → KeepsLeaks g old new
      both-leaks well_formed whole = leaks-both g old mid new (p.sets.leaks well_formed tt) (z.leaks well_formed whole)

    known-mid : IsWellFormed g old → IsSome mid.tables.space
    known-mid well_formed = p.known well_formed

    -- Bytes in the last guest cluster have the values that they had.
    same-last : IsWellFormed g old → (q : ℕ) → q / c < clusters_over c h.size → value_in g mid.tables q ≡ value_in g old.tables q
    same-last well_formed q within = elim (p.sets.values well_formed tt q) [
      | inl same ↦ same
      | inr set ↦ let from = set.0.0 in absurd (omega (arith, from, within))
    ]

    -- The bytes for the last guest cluster fit the cluster.
    pub tail-long : (tail : Option (Vec ℕ Global)) → IsTailOf g u (old, x) tail → let f = mid.tables.file.header.fields in
        MatchOption tail ⊤ (λ content. (0 < f.size) × (length content.items ≡ cluster_size f))
    tail-long None is = tt
    tail-long (Some content) is = (
      subst (λ (k : ℕ). 0 < k) (sym p.sets.size) (nonempty c h.size is.0),
      is.1.long ∙ ap (λ (b : ℕ). 2 ^ b) (sym p.sets.bits),
    )

    -- The bytes of the last guest cluster were read before the new ones were prepared.
    pub tail-stored : (y : B) → LookupCallBelow u ⊤ x y → (tail : Option (Vec ℕ Global)) → IsTailOf g u (old, x) tail → (result : Result Unit Fault)
        → (new : Qcow2 S g) → StoresTail g tail mid result new → ZeroesTail g u (IsWellFormed g old) (mid, x) result (new, y)
    tail-stored y looked None zero result new is =
        subst (λ (r : Result Unit Fault). ZeroesTail g u (IsWellFormed g old) (mid, x) r (new, y)) (sym is.0)
        (subst (λ (d : Qcow2 S g). ZeroesTail g u (IsWellFormed g old) (mid, x) (Ok tt) (d, y)) (sym is.1)
        (tail-kept g u (IsWellFormed g old) mid x y safe-mid known-mid looked (λ well_formed q past within.
        let within' : q / c < clusters_over c h.size = subst (λ (b : ℕ). q / 2 ^ b < clusters_over (2 ^ b) h.size) p.sets.bits
        (subst (λ (k : ℕ). let f = mid.tables.file.header.fields in q / cluster_size f < clusters_over (cluster_size f) k) p.sets.size within) in
        by-zero g mid below q ((λ i. through (cell_of (blank_of (p.sets.mode i).backing) (same-last well_formed q within' i)) (at below q))
        ∙ zero-by g old below q (zero well_formed q (subst (λ (k : ℕ). k ≤ q) p.sets.size past) within')))))
    tail-stored y looked (Some content) is result new replaced =
        tail-replaced g u (IsWellFormed g old) mid x y safe-mid known-mid looked content.items
        (λ well_formed under q there low.
        subst (λ (l : Layer). IsCopied (at below) l q (slice_index content.items (q % cluster_size mid.tables.file.header.fields)))
        (sym (same-mid well_formed))
        (subst (λ (b : ℕ). IsCopied (at below) entered q (slice_index content.items (q % 2 ^ b))) (sym p.sets.bits)
        (is.1.shows well_formed under q (was-last q there, subst (λ (k : ℕ). q < k) p.sets.size low) (λ all. absurd (cc all)))))
        (λ q past there. subst (λ (b : ℕ). slice_index content.items (q % 2 ^ b) ≡ 0) (sym p.sets.bits)
        (is.1.rest q (subst (λ (k : ℕ). k ≤ q) p.sets.size past) (was-last q there)))
        new result replaced (λ whole. is.0 (sym (λ i. p.sets.size i % 2 ^ p.sets.bits i) ∙ whole)) where
          was-last : (q : ℕ) → q / cluster_size mid.tables.file.header.fields ≡ last_guest g mid → q / c ≡ (h.size - 1) / c
          was-last q there = sym (λ i. q / 2 ^ p.sets.bits i) ∙ there ∙ (λ i. (p.sets.size i - 1) / 2 ^ p.sets.bits i)

    -- The last old guest cluster can't be replaced.
    module _ (e : Fault) (new : Qcow2 S g) (y : B) (z : ZeroesTail g u (IsWellFormed g old) (mid, x) (Err e) (new, y)) where
      cut : h.size % c ≢ 0
      cut whole = z.ends_inside ((λ i. p.sets.size i % 2 ^ p.sets.bits i) ∙ whole)

      row : last_guest g mid ≡ h.size / c
      row = (λ i. (p.sets.size i - 1) / 2 ^ p.sets.bits i) ∙ last-inside c h.size one cut

      lacks-last : (number : ℕ) → IsNotResourceError e → IsWellFormed g old
          → LacksPlaceBeside g (last_guest g mid) None mid.tables new.tables number
          → LacksNewCluster g (h.size / c) (clusters_over c n) old number
      lacks-last number not_resource_error well_formed lacks = record {
        guest = last_guest g mid;
        within = subst (IsWithin (h.size / c) (clusters_over c n)) (sym row) (omega arith, inside-over c n one h.size longer);
        now = mid;
        well_formed = safe-mid well_formed;
        same_disk = same-mid well_formed;
        same_leaks = p.sets.leaks well_formed tt;
        left = new;
        left_safe = z.well_formed well_formed not_resource_error;
        left_disk = z.kept well_formed not_resource_error;
        left_leaks = z.leaks well_formed not_resource_error;
        lacks = lacks;
      }

      abbrev Why : Fault → Type 0
      Why f = HasCause (reserving_causes g (LacksRoom g old n) old new) f ⊎ RefusesCopy g u (asking (h.size - 1) 1 false) (old, x) y f

      why-untailed : Why e
      why-untailed = inl (cause-weaker (let same = (p.sets.faults tt).0 in record {
        before = omega (arith, same);
        after = omega arith;
        damaged = λ wrong. wrong;
        counter = λ wrong. wrong;
        full = absurd;
        limit = λ number told well_formed.
            inr (lacks-last number (subst IsNotResourceError (sym told.0) tt) well_formed (told.1 well_formed));
      }) e (cause-told _ e z.cause))

      pub over-untailed : (was between now : Bool) → Begins {T = Unit} g was old (Ok tt) between mid
          → Begins {T = Unit} g between mid (Err e) now new → GrowsOver g u n (old, x) (Err e) (new, y)
      over-untailed was between now started begins = record {
        mode = z.mode ∙ p.sets.mode;
        number = z.number ∙ p.sets.number;
        unspent = z.unspent ∙ p.sets.unspent;
        shape = z.shape ∙ p.sets.shape;
        counts_not_fallen = later_both a b (g.state new.tables.file.image) p.sets.counts_not_fallen z.counts_not_fallen;
        failed = λ set. z.failed (p.sets.failed set);
        bits = z.bits ∙ p.sets.bits;
        version = z.version ∙ p.sets.version;
        faults = λ whole. ((z.faults whole).0 ∙ (p.sets.faults tt).0, (z.faults whole).1 ∙ (p.sets.faults tt).1);
        below = looked_under_weaker u ⊤ (IsNotResourceError e) x y (λ whole. tt) z.below;
        marked = begins-marked g {T = Unit} now old new e (begins-any g was now old new (Err e)
            (begins-then g {T = Unit} {U = Unit} was between now old mid new (Ok tt) (Err e) tt started begins));
        size = tt;
        unsized = z.size ∙ p.sets.size;
        crash_images = λ well_formed under. passes_weaker Same Wide a (g.state new.tables.file.image) wider
            (both-images (Err e) new y z well_formed under);
        well_formed = λ well_formed whole. z.well_formed well_formed whole;
        shown = both-shown (Err e) new y z;
        zeroed = λ well_formed under. tt;
        leaks = both-leaks (Err e) new y z;
        cause = why-untailed;
      }

    -- The size changes.
    module _ (tail : Qcow2 S g) (y : B) (z : ZeroesTail g u (IsWellFormed g old) (mid, x) (Ok tt) (tail, y)) (fits : n ≤ 2 ^ 63 - 1) (new : Qcow2 S g) where
      abbrev d : StorageState
      d = g.state tail.tables.file.image

      abbrev e : StorageState
      e = g.state new.tables.file.image

      safe-tail : IsWellFormed g old → IsWellFormed g tail
      safe-tail well_formed = z.well_formed well_formed tt

      tail-size : tail.tables.file.header.fields.size ≡ h.size
      tail-size = z.size ∙ p.sets.size

      tail-fixed : (layer_of g tail).fixed ≡ entered.fixed
      tail-fixed = λ i. qcow2_fixed ((z.shape ∙ p.sets.shape) i)
          (record h { version = (z.version ∙ p.sets.version) i; cluster_bits = (z.bits ∙ p.sets.bits) i }) ((z.mode ∙ p.sets.mode) i)
          ((z.number ∙ p.sets.number) i)

      all-images : (result : Result Unit Fault) → SizesImage g n tail result new → IsWellFormed g old → u.coherent_below x
          → UnrefusedCrashImages Wide a e
      all-images result s well_formed under =
          then_left below is_sound entered (layer_of g tail) (min entered.size n) (max entered.size n) GivesNone GivesNone a d e
          (z.shape ∙ p.sets.shape, later_both a b d p.sets.counts_not_fallen z.counts_not_fallen) (s.shape, s.counts_not_fallen)
          tail-fixed tail-size (omega arith) (omega arith)
          (λ q low. inr (inl (at_alike entered (layer_of g tail) below q tail-size
          (both-shown (Ok tt) tail y z well_formed under tt q low))))
          (λ q v low none. absurd none) (both-images (Ok tt) tail y z well_formed under)
          (subst (λ (k : ℕ). UnrefusedCrashImages (Left below (layer_of g tail) d.bytes is_sound (min k n) (max k n) GivesNone) d e)
          tail-size
          (s.crash_images (safe-tail well_formed) fits below))

      -- Each new byte is in the last old guest cluster or in a new one.
      tail-zero : IsWellFormed g old → u.coherent_below x → (q : ℕ) → h.size ≤ q → q < n
          → through (cell_of (blank_of tail.mode.backing) (value_in g tail.tables q)) (at below q) ≡ byte 0
      tail-zero well_formed under q from to = elim (cases_lt (q / c) (clusters_over c h.size)) [
        | inl within ↦ zero-by g tail below q (z.zeroed well_formed under q
            (subst (λ (k : ℕ). k ≤ q) (sym p.sets.size) from)
            (subst (λ (k : ℕ). let f = mid.tables.file.header.fields in q / cluster_size f < clusters_over (cluster_size f) k)
            (sym p.sets.size) (subst (λ (k : ℕ). q / 2 ^ k < clusters_over (2 ^ k) h.size) (sym p.sets.bits) within)))
        | inr past ↦ ap (λ o. through (cell_of (blank_of tail.mode.backing) o) (at below q))
            (z.others well_formed tt q
            (subst (λ (k : ℕ). let f = mid.tables.file.header.fields in clusters_over (cluster_size f) k ≤ q / cluster_size f)
            (sym p.sets.size) (subst (λ (k : ℕ). clusters_over (2 ^ k) h.size ≤ q / 2 ^ k) (sym p.sets.bits) past))
            ∙ p.zeroed well_formed q (subst (λ (k : ℕ). IsWithin (clusters_over c h.size) (clusters_over c n) (q / 2 ^ k)) (sym p.sets.bits)
            (past, inside-over c n one q to)))
      ]

      all-faults : (result : Result Unit Fault) → SizesImage g n tail result new → HadNoResourceError result
          → (e.faults ≡ a.faults) × (e.refusals ≡ a.refusals)
      all-faults result s whole =
          let one = p.sets.faults tt in let two = z.faults tt in let three = s.faults whole in
          (three.0 ∙ two.0 ∙ one.0, three.1 ∙ two.1 ∙ one.1)

      all-failed : (result : Result Unit Fault) → SizesImage g n tail result new → IsTrue old.failed → IsTrue new.failed
      all-failed result s was = subst IsTrue (sym s.failed) (still-cut result true tail.failed (z.failed (p.sets.failed was)))

      sized-marked : (f : Fault) → new.failed ≡ failed_by_resource_error {T = Unit} (Err f) true tail.failed
          → LeavesMarkedFailed g old new f
      sized-marked Storage is = is
      sized-marked Memory is = inl is
      sized-marked f is = tt

      sized-cause : (f : Fault) → HasCause (writing_causes ⊤ d.faults e.faults) f
          → HasCause (reserving_causes g (LacksRoom g old n) old new) f
      sized-cause Memory why = tt
      sized-cause Storage why = subst (λ k. HasRisen k e.faults) ((z.faults tt).0 ∙ (p.sets.faults tt).0) why
      sized-cause DamagedTable why = absurd (why tt)
      sized-cause f why = absurd why

      pub over-sized : (result : Result Unit Fault) → SizesImage g n tail result new → GrowsOver g u n (old, x) result (new, y)
      over-sized (Ok done) s = record {
        mode = s.mode ∙ z.mode ∙ p.sets.mode;
        number = s.number ∙ z.number ∙ p.sets.number;
        unspent = s.unspent ∙ z.unspent ∙ p.sets.unspent;
        shape = s.shape ∙ z.shape ∙ p.sets.shape;
        counts_not_fallen = later_both a d e (later_both a b d p.sets.counts_not_fallen z.counts_not_fallen) s.counts_not_fallen;
        failed = all-failed (Ok done) s;
        bits = s.bits ∙ z.bits ∙ p.sets.bits;
        version = s.version ∙ z.version ∙ p.sets.version;
        faults = all-faults (Ok done) s;
        below = z.below;
        marked = tt;
        size = s.size;
        unsized = tt;
        crash_images = all-images (Ok done) s;
        well_formed = λ well_formed whole. s.well_formed (safe-tail well_formed) fits;
        shown = λ well_formed under whole q low.
            ap (λ (k : Cell). through k (at below q)) (s.cells (safe-tail well_formed) fits q (subst (λ (k : ℕ). q < k) (sym tail-size) low)
            (omega (arith, low, longer)))
            ∙ both-shown (Ok tt) tail y z well_formed under tt q low;
        zeroed = λ well_formed under q from to.
            ap (λ (k : Cell). through k (at below q)) (cell-in g new q (subst (λ (k : ℕ). q < k) (sym s.size) to)
            ∙ (λ i. cell_of (blank_of (s.mode i).backing) (s.values (safe-tail well_formed) fits q i)))
            ∙ tail-zero well_formed under q from to;
        leaks = λ well_formed whole.
            leaks-both g old tail new (both-leaks (Ok tt) tail y z well_formed tt) (s.leaks (safe-tail well_formed) fits);
        cause = tt;
      }
      over-sized (Err f) s = record {
        mode = s.mode ∙ z.mode ∙ p.sets.mode;
        number = s.number ∙ z.number ∙ p.sets.number;
        unspent = s.unspent ∙ z.unspent ∙ p.sets.unspent;
        shape = s.shape ∙ z.shape ∙ p.sets.shape;
        counts_not_fallen = later_both a d e (later_both a b d p.sets.counts_not_fallen z.counts_not_fallen) s.counts_not_fallen;
        failed = all-failed (Err f) s;
        bits = s.bits ∙ z.bits ∙ p.sets.bits;
        version = s.version ∙ z.version ∙ p.sets.version;
        faults = all-faults (Err f) s;
        below = looked_under_weaker u ⊤ (IsNotResourceError f) x y (λ whole. tt) z.below;
        marked = sized-marked f s.failed;
        size = tt;
        unsized = s.unsized ∙ tail-size;
        crash_images = all-images (Err f) s;
        well_formed = λ well_formed not. absurd (hard-sized g d.faults e.faults f s.cause not);
        shown = λ well_formed under not. absurd (hard-sized g d.faults e.faults f s.cause not);
        zeroed = λ well_formed under. tt;
        leaks = λ well_formed not. absurd (hard-sized g d.faults e.faults f s.cause not);
        cause = inl (sized-cause f s.cause);
      }

-- Lemmas that state calls without writes by the relations of the driver.
use Rattle.std.proofs.Common.{◌≡◌, ℕ, refl, ap, sym, subst, ◌∙◌, Bool, false, Some, None, Result, Ok, Err, inl, inr}
use Rattle.std.proofs.Math.Nat.{le_refl}
use Rattle.std.specs.Prelude.{⊤, ◌⊎◌, IsTrue, IfErr, Option, IfSome, IsSome, []}
use Rattle.std.specs.Borrow.{RattleType}
use Rattle.imago_storage.specs.State.{Shape, StorageState}
use Rattle.imago_storage.specs.Steps.{Call}
use Rattle.imago_storage.specs.declared.fault.Fault.{Fault}
use Rattle.imago_storage.specs.declared.fault.Fault.TheVariants.{Memory, Storage}
use Rattle.imago_storage.specs.declared.storage.Storage.{Ghosts}
use Rattle.imago_access.specs.Files.{HadNoResourceError}
use Rattle.imago_access.specs.Going.{IsKnown, IsLeftUntouched, LookupCall, MarksFailed}
use Rattle.imago_access.specs.Layer.{Layer}
use Rattle.imago_access.specs.Room.{Takes}
use Rattle.imago_access.specs.Stops.{GivesNone, Left}
use Rattle.imago_storage.proofs.Composing.{later_both}
use Rattle.imago_access.proofs.Stopping.{passes_none}
use Rattle.qcow2_types.specs.Bytes.{Bytes, bytes_of}
use Rattle.qcow2_types.specs.Header.{Fields, Header}
use Rattle.qcow2_alloc.specs.Caches.{cached_in}
use Rattle.qcow2_alloc.proofs.Memory.SafeLaws.{clean-memory}
use Rattle.qcow2_image.specs.contracts.qcow2.Qcow2DriverModel.TheImpl.{ghosts}
use Rattle.imago_access.specs.declared.driver_model.DriverModel.{Ghosts as SeenGhosts}
use Rattle.qcow2_image.specs.declared.qcow2.Qcow2.{Qcow2}
use Rattle.qcow2_image.specs.declared.qcow2.PreparedMappingState.{PreparedMappingState}
use Rattle.qcow2_image.specs.declared.mode.OpenMode.{OpenMode}
use Rattle.qcow2_image.specs.declared.tables.Tables.{Tables}
use Rattle.qcow2_image.specs.ImageLayer.{blank_of, cells, writable_locations, qcow2_fixed, qcow2_layer}
use Rattle.qcow2_alloc.specs.GuestView.{IsSound}
use Rattle.qcow2_clusters.specs.declared.space.Space.{Space}
use Rattle.qcow2_image.specs.Holding.{PreparedMappingRun, mapping_id_held, held_with, writable_locations_with}
use Rattle.qcow2_image.specs.Rooms.{HasRoom, HoldsIn, IsUnallocated, IsZeroed, IsWellFormed, IsUntouched, IsCoherent, is_sound, rest_of, searched_from}
use Rattle.qcow2_image.specs.Seen.{file_of, writable_locations_of, layer_of, memory_of}
use Rattle.qcow2_image.specs.Unspent.{holding_in}
use Rattle.qcow2_image.specs.Steps.{KeepsTables, KeepsImage, failed_by, failed_after}
use Rattle.qcow2_image.proofs.CallNeeds.{since-as}
use Rattle.qcow2_image.proofs.SearchStart.{counted-same}
use Rattle.qcow2_image.proofs.LeaksByFile.{leaks-kept, surplus-kept}

-- Equal parts make equal layers.
pub layer-by : (s s' : StorageState) (m m' : Bytes) (h h' : Fields) (b b' : OpenMode) (n n' : ℕ) (f f' : Bool) (k k' : Option PreparedMappingRun) → s'.shape ≡ s.shape → s'.bytes ≡ s.bytes → m' ≡ m → h' ≡ h → b' ≡ b → n' ≡ n → f' ≡ f → k' ≡ k
    → qcow2_layer s' m' h' b' n' f' k' ≡ qcow2_layer s m h b n f k
layer-by s s' m m' h h' b b' n n' f f' k k' shape bytes raw_entries fields mode number failed hold = λ i. record {
  fixed = qcow2_fixed (shape i) (fields i) (mode i) (number i);
  size = (fields i).size;
  failed = failed i;
  cell = cells (blank_of (mode i).backing) (raw_entries i) (bytes_of (bytes i)) (fields i);
  writable_location = writable_locations_with (hold i) (writable_locations (mode i).writable (raw_entries i) (fields i));
  held = held_with (fields i) (bytes_of (bytes i)) (hold i);
  unspent = mapping_id_held (hold i);
}

-- Nothing in memory is dirty, so it is what the file says.
pub memory-is : {S : Type 0} (g : Ghosts S) (t : Tables S g) → memory_of g t ≡ file_of g t
memory-is g t = clean-memory (file_of g t) t.file.header.fields (cached_in t.caches) t.clean.0 t.clean.1

some-same : {A : Type 0} (a b : A) → Some b ≡ Some a → b ≡ a
some-same a b is = cc is

module _ {T : Type 0} where
  -- A call without a resource error doesn't set the image to failed, and a failed image stays failed.
  pub unmarked : (r : Result T Fault) (f : Bool) → HadNoResourceError r → failed_after failed_by r f ≡ f
  unmarked (Ok v) f whole = refl
  unmarked (Err Memory) f whole = absurd whole
  unmarked (Err Storage) f whole = absurd whole
  unmarked (Err fault) f whole = refl

  pub still-marked : (r : Result T Fault) (f : Bool) → IsTrue f → IsTrue (failed_after failed_by r f)
  still-marked (Ok v) f was = was
  still-marked (Err Storage) f was = refl
  still-marked (Err fault) f was = was

  marked-or-not : (r : Result T Fault) (f : Bool) → IsTrue (failed_after failed_by r f) ⊎ (failed_after failed_by r f ≡ f)
  marked-or-not (Ok v) f = inr refl
  marked-or-not (Err Storage) f = inl refl
  marked-or-not (Err fault) f = inr refl

-- A storage fault of the call sets the image to failed.
pub keeps-marked : {S T : Type 0} (g : Ghosts S) (old new : Qcow2 S g) (mid : Tables S g) (result : Result T Fault) → KeepsTables g old.tables result mid → new ≡ record old { tables = mid; failed = failed_after failed_by result old.failed } → KeepsImage g old result new
keeps-marked g old new mid result kept is = record {
  tables = subst (KeepsTables g old.tables result) (sym (ap (λ (x : Qcow2 _ g). x.tables) is)) kept;
  mode = ap (λ (x : Qcow2 _ g). x.mode) is;
  number = ap (λ (x : Qcow2 _ g). x.number) is;
  unspent = ap (λ (x : Qcow2 _ g). x.unspent) is;
  failed = ap (λ (x : Qcow2 _ g). x.failed) is;
}

-- Two such calls one after another.
pub keeps-both : {S T : Type 0} (g : Ghosts S) (a b c : Qcow2 S g) (r : Result T Fault) → KeepsImage {T = Unit} g a (Ok tt) b → KeepsImage g b r c
    → KeepsImage g a r c
keeps-both g a b c r first second = record {
  tables = record {
    unchanged_but_faults = record {
      shape = second.tables.unchanged_but_faults.shape ∙ first.tables.unchanged_but_faults.shape;
      bytes = second.tables.unchanged_but_faults.bytes ∙ first.tables.unchanged_but_faults.bytes;
      refusals = second.tables.unchanged_but_faults.refusals ∙ first.tables.unchanged_but_faults.refusals;
      crash_image = second.tables.unchanged_but_faults.crash_image ∙ first.tables.unchanged_but_faults.crash_image;
      past_crash_images = second.tables.unchanged_but_faults.past_crash_images ∙ first.tables.unchanged_but_faults.past_crash_images;
    };
    counts_not_fallen = later_both (g.state a.tables.file.image) (g.state b.tables.file.image) (g.state c.tables.file.image) first.tables.counts_not_fallen second.tables.counts_not_fallen;
    faults = λ whole.
        let one = first.tables.faults tt in
        let two = second.tables.faults whole in
        (two.0 ∙ one.0, two.1 ∙ one.1);
    header = second.tables.header ∙ first.tables.header;
    space = second.tables.space ∙ first.tables.space;
    seen = λ seen. second.tables.seen (first.tables.seen seen);
  };
  mode = second.mode ∙ first.mode;
  number = second.number ∙ first.number;
  unspent = second.unspent ∙ first.unspent;
  failed = second.failed ∙ ap (failed_after failed_by r) first.failed;
}

-- The call may return another value, if its resource errors are the same.
pub keeps-as : {S T U : Type 0} (g : Ghosts S) (a b : Qcow2 S g) (r : Result T Fault) (r' : Result U Fault) → (HadNoResourceError r' → HadNoResourceError r)
    → ((f : Bool) → failed_after failed_by r f ≡ failed_after failed_by r' f) → KeepsImage g a r b → KeepsImage g a r' b
keeps-as g a b r r' whole marks k = record {
  tables = record {
    unchanged_but_faults = k.tables.unchanged_but_faults;
    counts_not_fallen = k.tables.counts_not_fallen;
    faults = λ w. k.tables.faults (whole w);
    header = k.tables.header;
    space = k.tables.space;
    seen = k.tables.seen;
  };
  mode = k.mode;
  number = k.number;
  unspent = k.unspent;
  failed = k.failed ∙ marks a.failed;
}

pub tables-same : {S T : Type 0} (g : Ghosts S) (d : Qcow2 S g) (r : Result T Fault) → KeepsTables g d.tables r d.tables
tables-same g d r = record {
  unchanged_but_faults = record { shape = refl; bytes = refl; refusals = refl; crash_image = refl; past_crash_images = refl };
  counts_not_fallen = record { faults = le_refl (g.state d.tables.file.image).faults; refusals = le_refl (g.state d.tables.file.image).refusals };
  faults = λ whole. (refl, refl);
  header = refl;
  space = refl;
  seen = λ seen. seen;
}

pub keeps-same : {S : Type 0} (g : Ghosts S) (a : Qcow2 S g) → KeepsImage {T = Unit} g a (Ok tt) a
keeps-same g a = record {
  tables = record {
    unchanged_but_faults = record { shape = refl; bytes = refl; refusals = refl; crash_image = refl; past_crash_images = refl };
    counts_not_fallen = record { faults = le_refl (g.state a.tables.file.image).faults; refusals = le_refl (g.state a.tables.file.image).refusals };
    faults = λ whole. (refl, refl);
    header = refl;
    space = refl;
    seen = λ seen. seen;
  };
  mode = refl;
  number = refl;
  unspent = refl;
  failed = refl;
}

module _ (R : RattleType) (st : Ghosts R.Denot) (sd : mir.Syntax.Dict) (dd : mir.Syntax.Dict) {T : Type 0} (old new : Qcow2 R.Denot st) (result : Result T Fault) (k : KeepsImage st old result new) where
  abbrev coherent : SeenGhosts (Qcow2 R.Denot st) PreparedMappingState
  coherent = ghosts R st sd dd

  abbrev s : StorageState
  s = st.state old.tables.file.image

  abbrev s' : StorageState
  s' = st.state new.tables.file.image

  memory-same : memory_of st new.tables ≡ memory_of st old.tables
  memory-same = memory-is st new.tables ∙ ap bytes_of k.tables.unchanged_but_faults.bytes ∙ sym (memory-is st old.tables)

  fixed-same : (layer_of st new).fixed ≡ (layer_of st old).fixed
  fixed-same = λ i. qcow2_fixed (k.tables.unchanged_but_faults.shape i) (k.tables.header i).fields (k.mode i) (k.number i)

  pub layer-same : new.failed ≡ old.failed → layer_of st new ≡ layer_of st old
  layer-same failed = layer-by s s' (memory_of st old.tables) (memory_of st new.tables) old.tables.file.header.fields new.tables.file.header.fields old.mode new.mode old.number new.number old.failed new.failed (holding_in st old.unspent) (holding_in st new.unspent) k.tables.unchanged_but_faults.shape k.tables.unchanged_but_faults.bytes memory-same (ap (λ (H : Header). H.fields) k.tables.header) k.mode k.number failed (ap (holding_in st) k.unspent)

  -- The flushed metadata is the same.
  rest-same : (space : Space) → rest_of st new.tables space ≡ rest_of st old.tables space
  rest-same space = λ i. record (rest_of st old.tables space) { file = bytes_of (k.tables.unchanged_but_faults.bytes i); header = k.tables.header i }

  sound-same : IfSome old.tables.space (λ space. IsSound (rest_of st old.tables space)) → IfSome new.tables.space (λ space. IsSound (rest_of st new.tables space))
  sound-same = from old.tables.space new.tables.space k.tables.space where
    from : (a b : Option Space) → b ≡ a → IfSome a (λ space. IsSound (rest_of st old.tables space)) → IfSome b (λ space. IsSound (rest_of st new.tables space))
    from None None is sound = tt
    from (Some a) (Some b) is sound = subst IsSound (ap (rest_of st old.tables) (sym (some-same a b is)) ∙ sym (rest-same b)) sound
    from None (Some b) is sound = absurd (cc is)
    from (Some a) None is sound = absurd (cc is)

  holds-same : (hold : PreparedMappingRun) → HoldsIn st old.tables hold → HoldsIn st new.tables hold
  holds-same hold holds = record {
    space = holds.space;
    space_known = k.tables.space ∙ holds.space_known;
    held = rw (rest-same holds.space) holds.held;
    room = holds.room;
  }

  held-same : IfSome (holding_in st old.unspent) (HoldsIn st old.tables) → IfSome (holding_in st new.unspent) (HoldsIn st new.tables)
  held-same = from (holding_in st old.unspent) (holding_in st new.unspent) (ap (holding_in st) k.unspent) where
    from : (a b : Option PreparedMappingRun) → b ≡ a → IfSome a (HoldsIn st old.tables) → IfSome b (HoldsIn st new.tables)
    from None None is held = tt
    from (Some a) (Some b) is held = holds-same b (subst (HoldsIn st old.tables) (sym (some-same a b is)) held)
    from None (Some b) is held = absurd (cc is)
    from (Some a) None is held = absurd (cc is)

  safe-parts : (was now : Bool) → now ≡ false → IsWellFormed st (record old { failed = was }) → IsWellFormed st (record new { failed = now })
  safe-parts was now runs well_formed = record {
    runs = runs;
    keeps = subst (λ (x : Shape). IsTrue x.keeps) (sym k.tables.unchanged_but_faults.shape) well_formed.keeps;
    consistent = rw (ap bytes_of k.tables.unchanged_but_faults.bytes, k.tables.header) well_formed.consistent;
    seen = k.tables.seen well_formed.seen;
    sound = sound-same well_formed.sound;
    searched = counted-same st old.tables new.tables (ap bytes_of k.tables.unchanged_but_faults.bytes) k.tables.header (ap searched_from k.tables.space) well_formed.searched;
    held = held-same well_formed.held;
    writable = λ some. subst IsTrue (sym (ap (λ (m : OpenMode). m.writable) k.mode)) (well_formed.writable (subst IsSome k.unspent some));
  }

  safe-same : new.failed ≡ old.failed → IsWellFormed st old → IsWellFormed st new
  safe-same failed well_formed = safe-parts old.failed new.failed (failed ∙ well_formed.runs) well_formed

  untouched-same : IsUntouched st old → IsUntouched st new
  untouched-same was = (k.unspent ∙ was.0, subst (λ space. IfSome space (λ x. x.to_free.entries ≡ [])) (sym k.tables.space) was.1)

  -- Coherent memory stays coherent.
  pub sees-same : IsCoherent st old → IsCoherent st new
  sees-same was = record {
    seen = k.tables.seen was.seen;
    sure = elim was.sure [
      | inl untouched ↦ inl (untouched-same untouched)
      | inr well_formed ↦ inr (safe-parts false false refl well_formed)
    ];
  }

  known : new.failed ≡ old.failed → IsKnown coherent old new
  known failed = record { seen = λ seen. (layer-same failed, sees-same seen); safely = safe-same failed }

  -- The same bytes are allocated.
  as-was : (P : Bytes → Fields → Type 0) → P (memory_of st old.tables) old.tables.file.header.fields → P (memory_of st new.tables) new.tables.file.header.fields
  as-was P was = subst (λ m. P m new.tables.file.header.fields) (sym memory-same) (subst (λ (H : Header). P (memory_of st old.tables) H.fields) (sym k.tables.header) was)

  pub takes-kept : Takes coherent (λ _. ⊤) old new
  takes-kept = record {
    stays_allocated = λ p left. as-was (λ m h. HasRoom m h p);
    free = λ p left. as-was (λ m h. IsUnallocated m h p);
    zeroes = λ p left free. as-was (λ m h. IsZeroed m h p);
  }

  -- Each byte can be written in place where it could.
  homes-same : (p : ℕ) → writable_locations_of st new p ≡ writable_locations_of st old p
  homes-same p = λ i. writable_locations (k.mode i).writable (memory-same i) (k.tables.header i).fields p

  begun-kept : new.failed ≡ old.failed → (e : Qcow2 R.Denot st) (call : Call) → coherent.began e call old → coherent.began e call new
  begun-kept failed e call begun = λ well_formed.
      let now = begun well_formed in
      let same = layer-same failed in (
        safe-same failed now.0,
        since-as st call e old new (λ p at is. homes-same p ∙ is) (λ p. inl (ap (λ (l : Layer). l.cell p) same))
            (ap (λ (H : Header). H.fields.size) k.tables.header) (ap (λ (H : Header). H.fields.cluster_bits) k.tables.header)
            (ap (λ (H : Header). H.fields.version) k.tables.header) (leaks-kept st {T = T} old new result k) now.1,
      )

  pub spared : new.failed ≡ old.failed → IsLeftUntouched coherent old new
  spared failed = record {
    known = known failed;
    unchanged_but_faults = ((k.tables.unchanged_but_faults, k.tables.counts_not_fallen.faults), tt);
    stilled = λ has_no_dirty_data. new.tables.clean;
    room = λ well_formed. takes-kept;
    stays_begun = begun-kept failed;
  }

  whole-same : HadNoResourceError result → new.failed ≡ old.failed
  whole-same whole = k.failed ∙ unmarked result old.failed whole

  marks-on : IsTrue old.failed → IsTrue new.failed
  marks-on was = subst IsTrue (sym k.failed) (still-marked result old.failed was)

  pub began-kept : HadNoResourceError result → (e : Qcow2 R.Denot st) (call : Call) → coherent.began e call old → coherent.began e call new
  began-kept whole = begun-kept (whole-same whole)

  pub looked-kept : LookupCall coherent (HadNoResourceError result) old new
  looked-kept = record {
    keeps_layer_state = record { fixed = fixed-same; size = ap (λ (H : Header). H.fields.size) k.tables.header; unspent = ap (λ u. mapping_id_held (holding_in st u)) k.unspent; failed = marks-on };
    counts_not_fallen = ((k.tables.unchanged_but_faults.shape, k.tables.counts_not_fallen), tt);
    faults = λ whole. (k.tables.faults whole, tt);
    stays = λ whole seen. (layer-same (whole-same whole), sees-same seen);
    safely = λ whole well_formed. safe-same (whole-same whole) well_formed;
    cut = elim (marked-or-not result old.failed) [
      | inl marked ↦ inl (subst IsTrue (sym k.failed) marked)
      | inr same ↦ inr (known (k.failed ∙ same))
    ];
    stays_stable = λ l. l;
    excess_refcount = λ whole well_formed. surplus-kept st old new (leaks-kept st {T = T} old new result k);
    unchanged_but_faults = λ has_no_dirty_data. (((k.tables.unchanged_but_faults, k.tables.counts_not_fallen.faults), tt), new.tables.clean);
    crash_images = λ well_formed below. passes_none (Left below (layer_of st old) s.bytes is_sound (layer_of st old).size (layer_of st old).size GivesNone) s s' k.tables.unchanged_but_faults.shape (k.tables.unchanged_but_faults.crash_image, k.tables.unchanged_but_faults.past_crash_images, k.tables.unchanged_but_faults.bytes, k.tables.unchanged_but_faults.refusals);
  }

  pub marks-kept : IfErr result (MarksFailed coherent old new)
  marks-kept = from result k.failed where
    from : (r : Result T Fault) → new.failed ≡ failed_after failed_by r old.failed → IfErr r (MarksFailed coherent old new)
    from (Ok v) failed = tt
    from (Err Storage) failed = λ marks. failed
    from (Err Memory) failed = λ marks. inr (spared failed)
    from (Err fault) failed = tt

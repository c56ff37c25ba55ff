-- The effect of a call of a `FuseStorage`, from that of the inner storage.
use Rattle.std.proofs.Common.{◌≡◌, refl, ℕ, ◌+◌, ◌-◌, List, [], length, arith, sym, ap, subst}
use Rattle.std.specs.Prelude.{◌≢◌, ◌^◌, min, Result, Ok, Err, OnOk, IfErr}
use Rattle.imago_storage.specs.State.{StorageState, HasRisen}
use Rattle.imago_storage.specs.Calls.{Cause, Changed, Discarded, DiscardRefused, CountsNotFallen, NotDiscarded, NotResized, NotWritten, Refused, RequestsOne, Resized, ResizeRefused, UnlessUnsupported, Written, ZeroingRefused}
use Rattle.imago_storage.specs.Fuse.{fuse_call, fuse_count, fuse_faults, fuse_inner, fuse_refusals, Counted}
use Rattle.imago_storage.specs.declared.fault.Fault.{Fault}
use Rattle.imago_storage.specs.declared.fault.Fault.TheVariants.{Memory, Storage, Unsupported}
use Rattle.imago_storage.specs.declared.fuse.FuseStorage.{FuseStorage}
use Rattle.imago_storage.proofs.Composing.{same-mixed}

-- The inner storage's state, with the faults and refused changes of the fuse added.
abbrev pub fused : ℕ → ℕ → StorageState → StorageState
fused n m s = record {
  shape = s.shape;
  bytes = s.bytes;
  faults = s.faults + n;
  refusals = s.refusals + m;
  crash_image = s.crash_image;
  past_crash_images = s.past_crash_images;
}

-- The call that the fuse fails.

-- A sum has risen if one of its summands has.
rose_part : (a a' k k' : ℕ) → a' ≡ a → HasRisen k k' → HasRisen (a + k) (a' + k')
rose_part a a' k k' same rose = record { not_fallen = omega (arith, same, rose.not_fallen); rose = λ fits. omega (arith, same, rose.rose (omega (arith, same))) }

module _ (n n' m m' : ℕ) (s s' : StorageState) (same : s' ≡ s) (faults : HasRisen n n') (refusals : HasRisen m m') where
  tripped : Refused (fused n m s) (fused n' m' s') Storage
  tripped = record {
    shape = ap (λ (z : StorageState). z.shape) same;
    cause = rose_part s.faults s'.faults n n' (ap (λ (z : StorageState). z.faults) same) faults;
    refusals = rose_part s.refusals s'.refusals m m' (ap (λ (z : StorageState). z.refusals) same) refusals;
    crash_image = ap (λ (z : StorageState). z.crash_image) same;
    past_crash_images = ap (λ (z : StorageState). z.past_crash_images) same;
  }

  pub tripped-later : CountsNotFallen (fused n m s) (fused n' m' s')
  tripped-later = record { faults = tripped.cause.not_fallen; refusals = tripped.refusals.not_fallen }

  pub tripped-once : (s'.crash_image ≡ s.crash_image) × (s'.past_crash_images ≡ s.past_crash_images)
  tripped-once = (tripped.crash_image, tripped.past_crash_images)

  pub tripped-not_written : (at : ℕ) (bytes : List ℕ) → NotWritten (fused n m s) (fused n' m' s') at bytes Storage
  tripped-not_written at bytes =
      let long : length s'.bytes ≡ length s.bytes = ap (λ (z : StorageState). length z.bytes) same in
      record {
        refused = tripped;
        content = λ keeps. same-mixed s.bytes at bytes s'.bytes (ap (λ (z : StorageState). z.bytes) same);
        no_shorter = omega (arith, long);
        no_longer = omega (arith, long);
      }

  pub tripped-not_discarded : (at k : ℕ) → NotDiscarded (fused n m s) (fused n' m' s') at k Storage
  tripped-not_discarded at k =
      let here = same-mixed s.bytes at [] s'.bytes (ap (λ (z : StorageState). z.bytes) same) in
      record {
        refused = tripped;
        content = λ keeps. record { before = here.before; after = λ j from. here.after j (omega (arith, from)) };
        size = ap (λ (z : StorageState). length z.bytes) same;
      }

  pub tripped-not_resized : NotResized (fused n m s) (fused n' m' s') Storage
  tripped-not_resized = record { refused = tripped; bytes = ap (λ (z : StorageState). z.bytes) same }

-- A call that is passed on.

module _ (n m : ℕ) (s s' : StorageState) where
  rose_more : (a b k : ℕ) → HasRisen a b → HasRisen (a + k) (b + k)
  rose_more a b k rose = record { not_fallen = omega (arith, rose.not_fallen); rose = λ fits. omega (arith, rose.rose (omega arith)) }

  changed : Changed s s' → Changed (fused n m s) (fused n m s')
  changed h = record {
    shape = h.shape;
    faults = ap (λ (k : ℕ). k + n) h.faults;
    refusals = ap (λ (k : ℕ). k + m) h.refusals;
    mark = h.mark;
    crash_image_is_bytes = h.crash_image_is_bytes;
  }

  caused : (fault : Fault) → Cause s.faults s'.faults fault → Cause (s.faults + n) (s'.faults + n) fault
  caused Memory h = ap (λ (k : ℕ). k + n) h
  caused Storage h = rose_more s.faults s'.faults n h
  caused fault h = absurd h

  refused : (fault : Fault) → Refused s s' fault → Refused (fused n m s) (fused n m s') fault
  refused fault h = record {
    shape = h.shape;
    cause = caused fault h.cause;
    refusals = rose_more s.refusals s'.refusals m h.refusals;
    crash_image = h.crash_image;
    past_crash_images = h.past_crash_images;
  }

  not_written : (at : ℕ) (bytes : List ℕ) (fault : Fault) → NotWritten s s' at bytes fault → NotWritten (fused n m s) (fused n m s') at bytes fault
  not_written at bytes fault h = record { refused = refused fault h.refused; content = h.content; no_shorter = h.no_shorter; no_longer = h.no_longer }

  not_discarded : (at k : ℕ) (fault : Fault) → NotDiscarded s s' at k fault → NotDiscarded (fused n m s) (fused n m s') at k fault
  not_discarded at k fault h = record { refused = refused fault h.refused; content = h.content; size = h.size }

  not_resized : (fault : Fault) → NotResized s s' fault → NotResized (fused n m s) (fused n m s') fault
  not_resized fault h = record { refused = refused fault h.refused; bytes = h.bytes }

  unless : (P Q : Fault → Type 0) → ((fault : Fault) → P fault → Q fault) → (fault : Fault) → UnlessUnsupported s s' P fault → UnlessUnsupported (fused n m s) (fused n m s') Q fault
  unless P Q lift Unsupported h = ap (fused n m) h
  unless P Q lift fault h = lift fault h

  ok : {T E : Type 0} (r : Result T E) (P Q : Type 0) → (P → Q) → OnOk r P → OnOk r Q
  ok (Ok x) P Q lift h = lift h
  ok (Err e) P Q lift h = tt

  err : {T E : Type 0} (r : Result T E) (P Q : E → Type 0) → ((e : E) → P e → Q e) → IfErr r P → IfErr r Q
  err (Ok x) P Q lift h = tt
  err (Err e) P Q lift h = lift e h

  once : {T : Type 0} (r : Result T Fault) → RequestsOne s s' r → RequestsOne (fused n m s) (fused n m s') r
  once (Ok x) h = h
  once (Err e) h = h

module _ (n n' m m' : ℕ) (s s0 s' : StorageState) (same : s0 ≡ s) (faults : n' ≡ n) (refusals : m' ≡ m) where
  -- A relation between states of the inner storage gives one between states of the `FuseStorage`.
  passed : (P Q : StorageState → StorageState → Type 0) → (P s s' → Q (fused n m s) (fused n m s')) → P s0 s' → Q (fused n m s) (fused n' m' s')
  passed P Q lift holds =
      subst (λ (k : ℕ). Q (fused n m s) (fused k m' s')) (sym faults)
      (subst (λ (k : ℕ). Q (fused n m s) (fused n k s')) (sym refusals)
      (lift (subst (λ (z : StorageState). P z s') same holds)))

  pub passed-later : CountsNotFallen s0 s' → CountsNotFallen (fused n m s) (fused n' m' s')
  passed-later = passed CountsNotFallen CountsNotFallen (λ h. record { faults = omega (arith, h.faults); refusals = omega (arith, h.refusals) })

  module _ {T : Type 0} (r : Result T Fault) where
    pub passed-once : RequestsOne s0 s' r → RequestsOne (fused n m s) (fused n' m' s') r
    passed-once = passed (λ a b. RequestsOne a b r) (λ a b. RequestsOne a b r) (once n m s s' r)

    pub passed-written : (at : ℕ) (bytes : List ℕ) → OnOk r (Written s0 s' at bytes) → OnOk r (Written (fused n m s) (fused n' m' s') at bytes)
    passed-written at bytes = passed (λ a b. OnOk r (Written a b at bytes)) (λ a b. OnOk r (Written a b at bytes))
        (ok n m s s' r _ _ (λ (h : Written s s' at bytes). record { changed = changed n m s s' h.changed; content = h.content; size = h.size }))

    pub passed-discarded : (at k : ℕ) → OnOk r (Discarded s0 s' at k) → OnOk r (Discarded (fused n m s) (fused n' m' s') at k)
    passed-discarded at k = passed (λ a b. OnOk r (Discarded a b at k)) (λ a b. OnOk r (Discarded a b at k))
        (ok n m s s' r _ _ (λ (h : Discarded s s' at k). record { changed = changed n m s s' h.changed; content = h.content; size = h.size }))

    pub passed-resized : (k : ℕ) → OnOk r (Resized s0 s' k) → OnOk r (Resized (fused n m s) (fused n' m' s') k)
    passed-resized k = passed (λ a b. OnOk r (Resized a b k)) (λ a b. OnOk r (Resized a b k))
        (ok n m s s' r _ _ (λ (h : Resized s s' k). record { changed = changed n m s s' h.changed; content = h.content; size = h.size }))

    pub passed-not_written : (at : ℕ) (bytes : List ℕ) → IfErr r (NotWritten s0 s' at bytes) → IfErr r (NotWritten (fused n m s) (fused n' m' s') at bytes)
    passed-not_written at bytes = passed (λ a b. IfErr r (NotWritten a b at bytes)) (λ a b. IfErr r (NotWritten a b at bytes))
        (err n m s s' r _ _ (not_written n m s s' at bytes))

    pub passed-zeroing_refused : (at k : ℕ) → IfErr r (ZeroingRefused s0 s' at k) → IfErr r (ZeroingRefused (fused n m s) (fused n' m' s') at k)
    passed-zeroing_refused at k = passed (λ a b. IfErr r (ZeroingRefused a b at k)) (λ a b. IfErr r (ZeroingRefused a b at k))
        (err n m s s' r _ _ (unless n m s s' _ _ (not_written n m s s' at _)))

    pub passed-discard_refused : (at k : ℕ) → IfErr r (DiscardRefused s0 s' at k) → IfErr r (DiscardRefused (fused n m s) (fused n' m' s') at k)
    passed-discard_refused at k = passed (λ a b. IfErr r (DiscardRefused a b at k)) (λ a b. IfErr r (DiscardRefused a b at k))
        (err n m s s' r _ _ (unless n m s s' _ _ (not_discarded n m s s' at k)))

    pub passed-resize_refused : IfErr r (ResizeRefused s0 s') → IfErr r (ResizeRefused (fused n m s) (fused n' m' s'))
    passed-resize_refused = passed (λ a b. IfErr r (ResizeRefused a b)) (λ a b. IfErr r (ResizeRefused a b))
        (err n m s s' r _ _ (unless n m s s' _ _ (not_resized n m s s')))

-- The counts of the fuse.

module _ {S T : Type 0} (old new : FuseStorage S) (count : new.count ≡ min (old.count + 1) (2 ^ 64 - 1)) (call : new.n ≡ old.n) where
  -- The call that the fuse fails.
  pub counted-trip : old.count + 1 ≡ old.n → new.inner ≡ old.inner → Counted {S = S} {T = T} old new (Err Storage)
  unfolding fuse_call fuse_count fuse_faults fuse_inner fuse_refusals
  counted-trip nth inner = record { count = count; call = call; fails = λ _. (refl, inner); passes = λ other. absurd (other nth) }

  -- Any other call.
  pub counted-pass : (r : Result T Fault) → old.count + 1 ≢ old.n → new.faults ≡ old.faults → new.refusals ≡ old.refusals → Counted old new r
  unfolding fuse_call fuse_count fuse_faults fuse_inner fuse_refusals
  counted-pass r other faults refusals = record { count = count; call = call; fails = λ nth. absurd (other nth); passes = λ _. (faults, refusals) }

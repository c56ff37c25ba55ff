-- Lemmas on requests to the storage that change nothing, and on reloads.
use Rattle.std.proofs.Common.{◌≡◌, ℕ, ◌≤◌, arith, ap, sym, subst, ◌∙◌, Bool, Some, None, Result, Ok, Err, inl}
use Rattle.std.specs.Prelude.{[], IsTrue, IsOk, IsSome, IfSome, OnOk, OnErr, IfErr, Option}
use Rattle.std.specs.Borrow.{RattleType}
use Rattle.imago_storage.specs.State.{Shape, StorageState}
use Rattle.imago_storage.specs.Calls.{UnchangedButFaults, CountsNotFallen, IsFaultless, CountsFaults}
use Rattle.imago_storage.specs.Through.{NotRead}
use Rattle.imago_storage.specs.declared.fault.Fault.{Fault}
use Rattle.imago_storage.specs.declared.fault.Fault.TheVariants.{RangeOverflow, Memory, Storage}
use Rattle.imago_storage.specs.declared.storage.Storage.{Ghosts}
use Rattle.imago_access.specs.Files.{HadNoResourceError}
use Rattle.imago_access.specs.Going.{MarksFailed, ReloadingCall}
use Rattle.imago_access.specs.Layer.{Meaning}
use Rattle.imago_access.specs.Stops.{IsMeant}
use Rattle.imago_access.specs.declared.driver_model.DriverModel.{Ghosts as SeenGhosts}
use Rattle.qcow2_types.specs.Bytes.{bytes_of}
use Rattle.qcow2_types.specs.Consistency.{IsConsistent}
use Rattle.qcow2_types.specs.Header.{Fields, Header}
use Rattle.qcow2_clusters.specs.declared.space.Space.{Space}
use Rattle.qcow2_image.specs.contracts.qcow2.Qcow2DriverModel.TheImpl.{ghosts}
use Rattle.qcow2_image.specs.declared.qcow2.Qcow2.{Qcow2}
use Rattle.qcow2_image.specs.declared.qcow2.PreparedMappingState.{PreparedMappingState}
use Rattle.qcow2_image.specs.declared.mode.OpenMode.{OpenMode}
use Rattle.qcow2_image.specs.declared.tables.Tables.{Tables}
use Rattle.qcow2_image.specs.ImageLayer.{blank_of, cells, qcow2_fixed, qcow2_layer, meaning_of}
use Rattle.imago_access.specs.Layer.{IsFree}
use Rattle.qcow2_image.specs.HeldHomes.{none-held, none-unspent}
use Rattle.qcow2_image.specs.Holding.{PreparedMappingRun}
use Rattle.qcow2_image.specs.Opening.{IsSpaceOpened}
use Rattle.qcow2_image.specs.Rooms.{IsWellFormed, IsCoherent}
use Rattle.qcow2_image.specs.Unspent.{holding_in}
use Rattle.qcow2_image.specs.Seen.{IsCacheCoherent, file_of, memory_of, layer_of}
use Rattle.qcow2_image.specs.Steps.{KeepsImage, failed_on_reload, failed_after, failed_by, Reloads}
use Rattle.qcow2_image.proofs.StateAfterOpening.{opened-space}
use Rattle.qcow2_image.proofs.Steps.{layer-by, marks-kept, memory-is}
use Rattle.qcow2_image.proofs.SearchStart.{counted-first, opened-first}

pub ok-whole : {T : Type 0} (r : Result T Fault) (P : Type 0) → (HadNoResourceError r → P) → OnOk r P
ok-whole (Ok v) P p = p tt
ok-whole (Err e) P p = tt

-- Memory stays coherent after a request that only reads.
module _ {S : Type 0} (g : Ghosts S) (old new : Tables S g) (kept : UnchangedButFaults (g.state old.file.image) (g.state new.file.image)) (later : CountsNotFallen (g.state old.file.image) (g.state new.file.image))
    (header : new.file.header ≡ old.file.header) (l1 : new.l1 ≡ old.l1) (caches : new.caches ≡ old.caches) where
  pub seen-same : IsCacheCoherent g old → IsCacheCoherent g new
  seen-same seen =
      let bytes : file_of g new ≡ file_of g old = ap bytes_of kept.bytes in
      record {
        loads = rw (bytes, header) seen.loads;
        inside = rw header seen.inside;
        l1 = rw (bytes, header, l1) seen.l1;
        tables = rw (bytes, header, caches) seen.tables;
      }

-- A read without a resource error had no fault.
pub read-faultless : (s s' : StorageState) (at n : ℕ) (r : Result Unit Fault) → UnchangedButFaults s s' → OnOk r (s'.faults ≡ s.faults) → IfErr r (NotRead s s' at n)
    → HadNoResourceError r → IsFaultless s s'
read-faultless s s' at n (Ok done) kept ok err whole = (ok, kept.refusals)
read-faultless s s' at n (Err RangeOverflow) kept ok err whole = (ap (λ (x : StorageState). x.faults) err.1, kept.refusals)
read-faultless s s' at n (Err Memory) kept ok err whole = absurd whole
read-faultless s s' at n (Err Storage) kept ok err whole = absurd whole
read-faultless s s' at n (Err fault) kept ok err whole = absurd err

-- A request whose faults are counted had none either.
pub counted-faultless : (s s' : StorageState) (r : Result Unit Fault) → UnchangedButFaults s s' → CountsFaults s.faults s'.faults r → HadNoResourceError r → IsFaultless s s'
counted-faultless s s' (Ok done) kept counts whole = (counts, kept.refusals)
counted-faultless s s' (Err Memory) kept counts whole = absurd whole
counted-faultless s s' (Err Storage) kept counts whole = absurd whole
counted-faultless s s' (Err fault) kept counts whole = absurd counts

-- A request that changes nothing, and whose error may set the image to failed.
pub asked-keeps : {S : Type 0} (g : Ghosts S) (old new : Qcow2 S g) (s' : StorageState) (result : Result Unit Fault)
    → UnchangedButFaults (g.state old.tables.file.image) s' → CountsNotFallen (g.state old.tables.file.image) s' → (HadNoResourceError result → IsFaultless (g.state old.tables.file.image) s')
    → g.state new.tables.file.image ≡ s' → new.tables.file.header ≡ old.tables.file.header → new.tables.l1 ≡ old.tables.l1 → new.tables.caches ≡ old.tables.caches
    → new.tables.space ≡ old.tables.space → new.mode ≡ old.mode → new.number ≡ old.number → new.unspent ≡ old.unspent
    → new.failed ≡ failed_after failed_by result old.failed → KeepsImage g old result new
asked-keeps g old new s' result kept later faults state header l1 caches space mode number unspent failed =
    let kept-new : UnchangedButFaults (g.state old.tables.file.image) (g.state new.tables.file.image) = subst (UnchangedButFaults (g.state old.tables.file.image)) (sym state) kept in
    let later-new : CountsNotFallen (g.state old.tables.file.image) (g.state new.tables.file.image) = subst (CountsNotFallen (g.state old.tables.file.image)) (sym state) later in record {
      tables = record {
        unchanged_but_faults = kept-new;
        counts_not_fallen = later-new;
        faults = λ whole. subst (IsFaultless (g.state old.tables.file.image)) (sym state) (faults whole);
        header = header;
        space = space;
        seen = seen-same g old.tables new.tables kept-new later-new header l1 caches;
      };
      mode = mode;
      number = number;
      unspent = unspent;
      failed = failed;
    }

-- Like `asked-keeps`, for a call that changes only the storage and the failed flag.
pub settled-keeps : {S : Type 0} (g : Ghosts S) (old new : Qcow2 S g) {tables : Tables S g} (answer result : Result Unit Fault)
    → new ≡ record old { tables = tables; failed = failed_after failed_by answer old.failed } → result ≡ answer
    → (tables.file.header ≡ old.tables.file.header) × (tables.l1 ≡ old.tables.l1)
    × (tables.caches ≡ old.tables.caches) × (tables.space ≡ old.tables.space)
    → UnchangedButFaults (g.state old.tables.file.image) (g.state tables.file.image) → CountsNotFallen (g.state old.tables.file.image) (g.state tables.file.image)
    → (HadNoResourceError answer → IsFaultless (g.state old.tables.file.image) (g.state tables.file.image)) → KeepsImage g old result new
settled-keeps {S} g old new {tables} answer result is same rest kept later faults =
    asked-keeps g old new (g.state tables.file.image) result kept later (λ whole. faults (subst HadNoResourceError same whole))
    (ap (λ (d : Qcow2 S g). g.state d.tables.file.image) is) (ap (λ (d : Qcow2 S g). d.tables.file.header) is ∙ rest.0)
    (ap (λ (d : Qcow2 S g). d.tables.l1) is ∙ rest.1) (ap (λ (d : Qcow2 S g). d.tables.caches) is ∙ rest.2)
    (ap (λ (d : Qcow2 S g). d.tables.space) is ∙ rest.3) (ap (λ (d : Qcow2 S g). d.mode) is)
    (ap (λ (d : Qcow2 S g). d.number) is) (ap (λ (d : Qcow2 S g). d.unspent) is)
    (ap (λ (d : Qcow2 S g). d.failed) is ∙ ap (λ r. failed_after failed_by r old.failed) (sym same))

-- With nothing dirty, the file itself means the disk.
pub meant : {S : Type 0} (g : Ghosts S) (t : Tables S g) (mode : OpenMode) (failed : Bool) (number : ℕ) (hold : Option PreparedMappingRun) → IsCacheCoherent g t → IsMeant (qcow2_layer (g.state t.file.image) (memory_of g t) t.file.header.fields mode number failed hold) (g.state t.file.image).bytes
meant g t mode failed number hold seen =
    let is = ap (meaning_of (blank_of mode.backing) (file_of g t)) seen.loads in record {
      size = subst (λ (x : Meaning). t.file.header.fields.size ≤ x.size) (sym is) (omega arith);
      exactly = λ yes. ap (λ (x : Meaning). x.size) is;
      cell = λ p lt. ap (λ (x : Meaning). x.cell p) is ∙ ap (λ b. cells (blank_of mode.backing) b (file_of g t) t.file.header.fields p) (sym (memory-is g t));
    }

-- The result of a reload, after it may have set the image to failed.
pub reloads-settled : {S : Type 0} (g : Ghosts S) (old new : Qcow2 S g) (mid : Tables S g) (answer result : Result Unit Fault) → Reloads g old.mode.writable old.tables answer mid → result ≡ answer → new ≡ record old { tables = mid; failed = failed_after failed_on_reload answer old.failed }
    → Reloads g old.mode.writable old.tables result new.tables × (new.mode ≡ old.mode) × (new.number ≡ old.number) × (new.unspent ≡ old.unspent) × (new.failed ≡ failed_after failed_on_reload result old.failed)
reloads-settled g old new mid answer result all same is = (
  subst (λ t. Reloads g old.mode.writable old.tables result t) (sym (ap (λ (x : Qcow2 _ g). x.tables) is)) (subst (λ r. Reloads g old.mode.writable old.tables r mid) (sym same) all),
  ap (λ (x : Qcow2 _ g). x.mode) is,
  ap (λ (x : Qcow2 _ g). x.number) is,
  ap (λ (x : Qcow2 _ g). x.unspent) is,
  ap (λ (x : Qcow2 _ g). x.failed) is ∙ ap (λ r. failed_after failed_on_reload r old.failed) (sym same),
)

-- A reload, while no mapping is prepared.
module _ (R : RattleType) (st : Ghosts R.Denot) (sd : mir.Syntax.Dict) (dd : mir.Syntax.Dict) (old new : Qcow2 R.Denot st) (result : Result Unit Fault) (all : Reloads st old.mode.writable old.tables result new.tables)
    (mode : new.mode ≡ old.mode) (number : new.number ≡ old.number) (unspent : new.unspent ≡ old.unspent) (free : IsFree (layer_of st old))
    (failed : new.failed ≡ failed_after failed_on_reload result old.failed) where
  abbrev coherent : SeenGhosts (Qcow2 R.Denot st) PreparedMappingState
  coherent = ghosts R st sd dd

  hold-same : holding_in st new.unspent ≡ holding_in st old.unspent
  hold-same = ap (holding_in st) unspent

  none-prepared : holding_in st new.unspent ≡ None
  none-prepared = hold-same ∙ none-held (holding_in st old.unspent) free

  nothing-prepared : new.unspent ≡ None
  nothing-prepared = none-unspent st new.unspent none-prepared

  layer-same : new.failed ≡ old.failed → new.tables.file.header ≡ old.tables.file.header → layer_of st new ≡ layer_of st old
  layer-same failed header = layer-by (st.state old.tables.file.image) (st.state new.tables.file.image) (memory_of st old.tables) (memory_of st new.tables) old.tables.file.header.fields new.tables.file.header.fields old.mode new.mode old.number new.number old.failed new.failed (holding_in st old.unspent) (holding_in st new.unspent) all.unchanged_but_faults.shape all.unchanged_but_faults.bytes
      (memory-is st new.tables ∙ ap bytes_of all.unchanged_but_faults.bytes ∙ sym (memory-is st old.tables)) (ap (λ (H : Header). H.fields) header) mode number failed hold-same

  abbrev Opened : Type 0
  Opened = IsSpaceOpened (st.state new.tables.file.image) new.tables.file.header.fields old.mode.writable new.tables.space

  idle-anew : (o : Option Space) → IsSpaceOpened (st.state new.tables.file.image) new.tables.file.header.fields old.mode.writable o
      → IfSome o (λ space. space.to_free.entries ≡ [])
  idle-anew None opened = tt
  idle-anew (Some space) opened = opened.idle

  sees-anew : IsCacheCoherent st new.tables → Opened → IsCoherent st new
  sees-anew seen opened = record { seen = seen; sure = inl (nothing-prepared, idle-anew new.tables.space opened) }

  safe-anew : new.failed ≡ old.failed → new.tables.file.header ≡ old.tables.file.header → Opened → IsCacheCoherent st new.tables → IsWellFormed st old → IsWellFormed st new
  safe-anew failed header opened seen well_formed =
      let consistent : IsConsistent (file_of st new.tables) new.tables.file.header = rw (ap bytes_of all.unchanged_but_faults.bytes, header) well_formed.consistent in record {
        runs = failed ∙ well_formed.runs;
        keeps = subst (λ (x : Shape). IsTrue x.keeps) (sym all.unchanged_but_faults.shape) well_formed.keeps;
        consistent = consistent;
        seen = seen;
        sound = opened-space st new.tables consistent old.mode.writable new.tables.space opened;
        searched = counted-first st new.tables
            (opened-first (st.state new.tables.file.image) new.tables.file.header.fields old.mode.writable new.tables.space opened);
        held = rw none-prepared tt;
        writable = λ some. absurd (cc (subst IsSome nothing-prepared some));
      }

  pub anew-same : IsCacheCoherent st old.tables → OnOk result ((layer_of st new ≡ layer_of st old) × IsCoherent st new)
  anew-same seen = from result failed (all.same seen) all.anew all.space where
    from : (r : Result Unit Fault) → new.failed ≡ failed_after failed_on_reload r old.failed → OnOk r (new.tables.file.header ≡ old.tables.file.header) → OnOk r (IsCacheCoherent st new.tables)
        → OnOk r Opened → OnOk r ((layer_of st new ≡ layer_of st old) × IsCoherent st new)
    from (Ok v) same header anew space = (layer-same same header, sees-anew anew space)
    from (Err fault) same header anew space = tt

  pub anew-safely : IsOk result → IsWellFormed st old → IsWellFormed st new
  anew-safely ok well_formed = from result failed (all.same well_formed.seen) all.anew all.space ok where
    from : (r : Result Unit Fault) → new.failed ≡ failed_after failed_on_reload r old.failed → OnOk r (new.tables.file.header ≡ old.tables.file.header) → OnOk r (IsCacheCoherent st new.tables)
        → OnOk r Opened → IsOk r → IsWellFormed st new
    from (Ok v) same header anew space ok = safe-anew same header space anew well_formed
    from (Err fault) same header anew space ok = absurd (cc ok)

  fixed-anew : (layer_of st new).fixed ≡ (layer_of st old).fixed
  fixed-anew =
      let h = ap (λ (H : Header). H.fields) all.places in λ i. qcow2_fixed (all.unchanged_but_faults.shape i)
      (record old.tables.file.header.fields {
        version = sym (ap (λ (x : Fields). x.version) h) i;
        cluster_bits = sym (ap (λ (x : Fields). x.cluster_bits) h) i;
      })
      (mode i) (number i)

  pub anew-went : ReloadingCall coherent (IsOk result) (IsOk result) old new
  anew-went = record {
    fixed = fixed-anew;
    failed = from result failed;
    counts_not_fallen = ((all.unchanged_but_faults.shape, all.counts_not_fallen), tt);
    faults = λ ok. (on-success result ok all.faults, tt);
    safely = anew-safely;
    stays_stable = λ l. l;
  } where
    from : (r : Result Unit Fault) → new.failed ≡ failed_after failed_on_reload r old.failed → IsTrue old.failed → IsTrue new.failed
    from (Ok v) is was = subst IsTrue (sym is) was
    from (Err Memory) is was = subst IsTrue (sym is) was
    from (Err fault) is was = is

    on-success : (r : Result Unit Fault) → IsOk r → OnOk r (IsFaultless (st.state old.tables.file.image) (st.state new.tables.file.image))
        → IsFaultless (st.state old.tables.file.image) (st.state new.tables.file.image)
    on-success (Ok v) ok faultless = faultless
    on-success (Err fault) ok faultless = absurd (cc ok)

  pub anew-marks : IfErr result (MarksFailed coherent old new)
  anew-marks = from result failed all.left where
    from : (r : Result Unit Fault) → new.failed ≡ failed_after failed_on_reload r old.failed
        → OnErr r ((new.tables.file.header ≡ old.tables.file.header) × (new.tables.l1 ≡ old.tables.l1) × (new.tables.caches ≡ old.tables.caches) × (new.tables.space ≡ old.tables.space))
        → IfErr r (MarksFailed coherent old new)
    from (Ok v) is left = tt
    from (Err Memory) is left = marks-kept R st sd dd {T = Unit} old new (Err Memory) (record {
      tables = record {
        unchanged_but_faults = all.unchanged_but_faults;
        counts_not_fallen = all.counts_not_fallen;
        faults = λ none. absurd none;
        header = left.0;
        space = left.3;
        seen = seen-same st old.tables new.tables all.unchanged_but_faults all.counts_not_fallen left.0 left.1 left.2;
      };
      mode = mode;
      number = number;
      unspent = unspent;
      failed = is;
    })
    from (Err Storage) is left = λ marks. is
    from (Err fault) is left = tt

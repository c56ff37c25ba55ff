-- Lemmas that state commits and cancels of prepared mappings by the relations of the driver.
use Rattle.std.proofs.Common.{◌≡◌, ◌≢◌, ℕ, ◌+◌, ◌-◌, ◌≤◌, refl, arith, ap, sym, subst, ◌∙◌, inl, inr, Bool, false, true, [], ◌∷◌, ◌++◌, Option, Some, None, Result, Ok, Err}
use Rattle.std.proofs.Math.Nat.{le_refl}
use Rattle.std.proofs.lemmas.Bool.{cases_lt}
use Rattle.std.specs.Prelude.{IsTrue, IsSome, IfSome, IfErr}
use Rattle.std.specs.Borrow.{RattleType}
use Rattle.imago_storage.specs.State.{StorageState}
use Rattle.imago_storage.specs.Calls.{CountsNotFallen}
use Rattle.imago_storage.specs.declared.fault.Fault.{Fault}
use Rattle.imago_storage.specs.declared.fault.Fault.TheVariants.{DamagedTable, Memory, Storage}
use Rattle.imago_storage.specs.declared.storage.Storage.{Ghosts}
use Rattle.imago_access.specs.Changes.{Cancelled}
use Rattle.imago_access.specs.Files.{ImageCause, IsNotResourceError, files}
use Rattle.imago_access.specs.Going.{IsUnchanged, MutatingCall}
use Rattle.imago_access.specs.Layer.{Cell, IsFree}
use Rattle.imago_access.specs.PreparingCalls.{Cancels, CommitRefused, Commits}
use Rattle.imago_access.specs.Spending.{GivenBack, IsMine, IsSpending, Spends, commit_refusal}
use Rattle.imago_access.specs.declared.mapping.PreparedDataMapping.{PreparedDataMapping}
use Rattle.imago_access.specs.declared.driver_model.DriverModel.{Ghosts as SeenGhosts}
use Rattle.qcow2_types.specs.Bytes.{Bytes, bytes_of}
use Rattle.qcow2_types.specs.Header.{Fields, Header}
use Rattle.qcow2_types.specs.References.{refs}
use Rattle.qcow2_types.proofs.Counting.Either.{refs-file}
use Rattle.qcow2_alloc.specs.declared.file.ImageFile.{ImageFile}
use Rattle.qcow2_alloc.specs.Causes.{HasCause}
use Rattle.qcow2_alloc.specs.FreeList.{covers}
use Rattle.qcow2_alloc.specs.Going as going
use Rattle.qcow2_alloc.specs.Going.{writing_causes}
use Rattle.qcow2_alloc.specs.GuestView.{Metadata, IsSound, counted, in_memory, referenced_at_all, referenced, waiting}
use Rattle.qcow2_alloc.proofs.Blocks.RunCounts.{covers-behind}
use Rattle.qcow2_alloc.proofs.Growth.LongerReftables.{covers-before, covers-inside}
use Rattle.qcow2_steps.specs.Words.{IsReserved}
use Rattle.qcow2_steps.proofs.Steps.{put-off-advances}
use Rattle.qcow2_clusters.specs.Linking.{TakesNone}
use Rattle.qcow2_clusters.specs.Storing.{AreReserved}
use Rattle.qcow2_clusters.specs.declared.space.Space.{Space}
use Rattle.qcow2_image.specs.Committing.{CancelsUnspent, CommitsUnspent, DropsUnspent, GivesBack, SpendsUnspent, answer_of, failed_after_any}
use Rattle.qcow2_image.specs.Holding.{PreparedMappingRun, IsOwnAs, mapping_id_held}
use Rattle.qcow2_image.specs.ImageLayer.{blank_of, cells, writable_locations, qcow2_fixed}
use Rattle.qcow2_image.specs.Rooms.{HasRoom, HoldsIn, IsWellFormed, IsUnallocated, IsZeroed, ReadsNone, IsCoherent, rest_of, searched_from}
use Rattle.qcow2_image.specs.Seen.{IsCacheCoherent, file_of, writable_locations_of, layer_of, memory_of}
use Rattle.qcow2_image.specs.Unspent.{prepared_mapping_run, holding_in}
use Rattle.qcow2_image.specs.contracts.qcow2.Qcow2DriverModel.TheImpl.{ghosts}
use Rattle.qcow2_image.specs.declared.qcow2.PreparedMappingState.{PreparedMappingState}
use Rattle.qcow2_image.specs.declared.qcow2.Qcow2.{Qcow2}
use Rattle.qcow2_image.specs.declared.tables.Tables.{Tables}
use Rattle.qcow2_image.specs.declared.unspent.Unspent.{Unspent}
use Rattle.qcow2_image.proofs.Commits.{committed, failed-is, fixed-same, home-grows, is-free, refused-hard, room-kept, safe-now, size-same, stays-so, stops-settled}
use Rattle.qcow2_image.proofs.DiskEffects.{rest-memory, whole-below}
use Rattle.qcow2_image.proofs.CallNeeds.{settles-byte, since-as}
use Rattle.qcow2_image.proofs.Steps.{memory-is}
use Rattle.qcow2_image.proofs.SearchStart.{counted-same}
use Rattle.qcow2_image.proofs.LeakChanges.CommitLeaks.{dropped-leaks, spent-leaks}
use Rattle.qcow2_image.proofs.LeaksByFile.{surplus-kept}

abbrev Answer : Type 0
Answer = Result Unit (Fault × Option (PreparedDataMapping PreparedMappingState))

-- The free space after clusters with a reserved slot were added to the free list.
abbrev with_waiting : Space → (host n : ℕ) → Space
with_waiting space host n = record space {
  to_free = record {
    entries = space.to_free.entries ++ record { first = host; count = n; metadata = false } ∷ [];
    held = space.to_free.held - 1;
  };
}

-- Reserved clusters may be added to the free list.
put-off-sound : (m : Metadata) (x n : ℕ) → in_memory m ≡ m.file → IsSound m → AreReserved n m x
    → IsSound (record m { pending = m.pending ++ record { first = x; count = n; metadata = false } ∷ [] })
put-off-sound m x n clean sound reserved =
    (put-off-advances m (record { first = x; count = n; metadata = false }) sound enough (λ c some. absurd (omega (arith, some)))).sound where
      beside : (c : ℕ) → covers c (record { first = x; count = n; metadata = false }) ≡ 0
          → referenced m c + waiting m c + covers c (record { first = x; count = n; metadata = false }) ≤ counted m c
      beside c none = let owed = sound.covered c in omega (arith, none, owed)

      enough : (c : ℕ) → referenced m c + waiting m c + covers c (record { first = x; count = n; metadata = false }) ≤ counted m c
      enough c = elim (cases_lt c x) [
        | inl before ↦ beside c (covers-before c x n before)
        | inr from ↦ elim (cases_lt c (x + n)) [
          | inr behind ↦ beside c (covers-behind c x n behind)
          | inl to ↦
              let own = reserved c from to in
              let one : covers c (record { first = x; count = n; metadata = false }) ≡ 1 = covers-inside c x n from to in
              let le : refs m.file m.header.fields c ≤ referenced_at_all m c = refs-file m.file (in_memory m) m.header.fields c in
              let same : referenced m c ≡ refs m.file m.header.fields c = ap (λ b. refs b m.header.fields c) clean in
              let none = own.not_referenced in
              let waits = own.waits in
              let used = own.used.taken in
              omega (arith, one, le, same, none, waits, used)
        ]
      ]

module _ (R : RattleType) (st : Ghosts R.Denot) (sd : mir.Syntax.Dict) (dd : mir.Syntax.Dict) where
  abbrev coherent : SeenGhosts (Qcow2 R.Denot st) PreparedMappingState
  coherent = ghosts R st sd dd

  -- Nothing was done.
  went-nowhere : (ok whole : Type 0) (d : Qcow2 R.Denot st) → MutatingCall coherent ok whole d d
  went-nowhere ok whole d = record {
    fixed = refl;
    failed = λ was. was;
    counts_not_fallen = ((refl, record { faults = le_refl (st.state d.tables.file.image).faults; refusals = le_refl (st.state d.tables.file.image).refusals }), tt);
    faults = λ _. ((refl, refl), tt);
    safely = λ _ well_formed. well_formed;
    stays_stable = λ l. l;
    excess_refcount = λ _ well_formed c. refl;
  }

  module _ (state : PreparedMappingState) (old new : Qcow2 R.Denot st) (own : state.number ≡ old.number) where
    abbrev spent-with : Answer → Type 0
    spent-with r = Commits coherent (Some state) r old new

    another-commits : mapping_id_held (holding_in st old.unspent) ≢ Some state.mapping_id → Commits coherent (Some state) (Ok tt) old old
    another-commits other = record {
      ok = (own, λ mine. absurd (other mine));
      size = refl;
      room = λ well_formed mine. absurd (other mine.1);
      crash_images = λ well_formed mine below. absurd (other mine.1);
      mutating_call = went-nowhere _ _ old;
      coherent = λ none seen. seen;
      stays_begun = λ d call begun mine. begun;
    }

    module _ (result : Answer) (s : SpendsUnspent st state.mapping_id old result new) where
      later-now : ((st.state new.tables.file.image).shape ≡ (st.state old.tables.file.image).shape)
          × CountsNotFallen (st.state old.tables.file.image) (st.state new.tables.file.image)
      later-now = (s.names.shape, s.names.counts_not_fallen)

      fails-on : IsTrue old.failed → IsTrue new.failed
      fails-on was = subst IsTrue (sym (failed-is st state.mapping_id old new result s)) (from s.named) where
        from : (r : Result Unit Fault) → IsTrue (failed_after_any r old.failed)
        from (Ok done) = was
        from (Err fault) = refl

      spent-commits : (r : Result Unit Fault) → s.named ≡ r → Commits coherent (Some state) (answer_of r) old new
      spent-commits (Ok done) is = record {
        ok = (own, λ mine. (is-free st state.mapping_id old new result s, λ well_formed. committed st state.mapping_id old new result s well_formed is));
        size = size-same st state.mapping_id old new result s;
        room = λ well_formed mine. record {
          stays_allocated = λ p left. room-kept st state.mapping_id old new result s well_formed is p;
          free = λ p none. stays-so st state.mapping_id old new result s well_formed is TakesNone p none;
          zeroes = λ p left none. stays-so st state.mapping_id old new result s well_formed is ReadsNone p none;
        };
        crash_images = λ well_formed mine. stops-settled st state.mapping_id old new result s well_formed;
        mutating_call = record {
          fixed = fixed-same st state.mapping_id old new result s;
          failed = fails-on;
          counts_not_fallen = (later-now, tt);
          faults = λ whole. (s.names.faults (subst going.HadNoResourceError (sym is) tt), tt);
          safely = λ whole well_formed. safe-now st state.mapping_id old new result s well_formed is;
          stays_stable = λ l. l;
          excess_refcount = λ whole well_formed. surplus-kept st old new (spent-leaks st state.mapping_id old new result s well_formed is);
        };
        coherent = λ none. absurd (cc none);
        stays_begun = λ d call begun mine well_formed.
            let then = begun well_formed in
            let done = committed st state.mapping_id old new result s then.0 is in
            let header = s.names.header in (
              safe-now st state.mapping_id old new result s then.0 is,
              since-as st call d old new (home-grows st state.mapping_id old new result s then.0 is)
                  (λ p. settles-byte ((layer_of st old).held p) ((layer_of st old).cell p) ((layer_of st new).cell p) (done.cell p))
                  (ap (λ (H : Header). H.fields.size) header) (ap (λ (H : Header). H.fields.cluster_bits) header)
                  (ap (λ (H : Header). H.fields.version) header)
                  (spent-leaks st state.mapping_id old new result s then.0 is) then.1,
            );
      }
      spent-commits (Err fault) is = record {
        ok = tt;
        size = size-same st state.mapping_id old new result s;
        room = λ well_formed mine. tt;
        crash_images = λ well_formed mine. stops-settled st state.mapping_id old new result s well_formed;
        mutating_call = record {
          fixed = fixed-same st state.mapping_id old new result s;
          failed = fails-on;
          counts_not_fallen = (later-now, tt);
          faults = λ not_resource_error. (s.names.faults (subst going.HadNoResourceError (sym is) (whole-below {T = Unit} (Err fault) not_resource_error)), tt);
          safely = λ whole well_formed. absurd (cc whole.0);
          stays_stable = λ l. l;
          excess_refcount = λ whole well_formed. absurd (cc whole.0);
        };
        coherent = λ none. absurd (cc none);
        stays_begun = λ d call begun mine. tt;
      }

    -- A commit without an early outcome.
    pub commits-by : (result : Answer) → CommitsUnspent st state.mapping_id old result new → Commits coherent (Some state) result old new
    commits-by result (inl another) =
        subst (λ r. Commits coherent (Some state) r old new) (sym another.1)
        (subst (Commits coherent (Some state) (Ok tt) old) (sym another.2) (another-commits another.0))
    commits-by result (inr s) = subst spent-with (sym s.answer) (spent-commits result s s.named refl)

    -- An error gives no mapping back.
    module _ (mapping : PreparedDataMapping PreparedMappingState) (has : mapping.state ≡ Some state)
        (none : commit_refusal coherent (Some state) (layer_of st old) ≡ None) where
      no-refusal : commit_refusal coherent mapping.state (layer_of st old) ≡ None
      no-refusal = ap (λ s. commit_refusal coherent s (layer_of st old)) has ∙ none

      -- After an error the mapping is spent, and the image has failed.
      abbrev Why : Answer → Type 0
      Why r = IfErr r (λ e. (e.1 ≡ None) × IsTrue new.failed × IsSpending e.0
          × Spends coherent (Some state) (layer_of st old) (layer_of st new) (IsFree (layer_of st new) × (IsWellFormed st old → IsNotResourceError e.0 → ⊥))
          × ImageCause (files coherent old) (files coherent new) e.0)

      refused-as : (r : Answer) → Why r → CommitRefused coherent mapping r old new
      refused-as r why = record {
        early_outcome = λ f is. absurd (let bad : None ≡ Some f = sym no-refusal ∙ is in cc bad);
        unchanged = λ either. elim either [
          | inl without ↦ absurd (let bad : Some state ≡ None = sym has ∙ without in cc bad)
          | inr some ↦ absurd (let bad : IsSome {T = Fault} None = subst IsSome no-refusal some in cc bad)
        ];
        back = back-by r why;
        spent = spent-by r why;
        failed = cause-by r why;
      } where
        back-by : (r : Answer) → Why r → IfErr r (λ e. IfSome e.1 (λ m. (m ≡ mapping) × GivenBack coherent.tag mapping.state (layer_of st old) e.0 × IsUnchanged coherent old new))
        back-by (Ok done) why = tt
        back-by (Err e) why = subst (λ o. IfSome o (λ m. (m ≡ mapping) × GivenBack coherent.tag mapping.state (layer_of st old) e.0 × IsUnchanged coherent old new)) (sym why.0) tt

        spent-by : (r : Answer) → Why r → IfErr r (λ e. e.1 ≡ None → IsSome mapping.state × IsTrue new.failed × IsSpending e.0
            × Spends coherent mapping.state (layer_of st old) (layer_of st new) (IsFree (layer_of st new) × (IsWellFormed st old → IsNotResourceError e.0 → ⊥)))
        spent-by (Ok done) why = tt
        spent-by (Err e) why = λ without. (
          subst IsSome (sym has) refl,
          why.1,
          why.2,
          subst (λ o. Spends coherent o (layer_of st old) (layer_of st new) (IsFree (layer_of st new) × (IsWellFormed st old → IsNotResourceError e.0 → ⊥))) (sym has) why.3,
        )

        cause-by : (r : Answer) → Why r → IfErr r (λ e. ImageCause (files coherent old) (files coherent new) e.0)
        cause-by (Ok done) why = tt
        cause-by (Err e) why = why.4

      pub refused-by : (result : Answer) → CommitsUnspent st state.mapping_id old result new → CommitRefused coherent mapping result old new
      refused-by result (inl another) = subst (λ r. CommitRefused coherent mapping r old new) (sym another.1) (refused-as (Ok tt) tt)
      refused-by result (inr s) = subst (λ r. CommitRefused coherent mapping r old new) (sym s.answer) (refused-as (answer_of s.named) (from s.named refl s.names.cause)) where
        spending : (fault : Fault) → HasCause (writing_causes ⊥ (st.state old.tables.file.image).faults (st.state new.tables.file.image).faults) fault → IsSpending fault
        spending Memory why = tt
        spending Storage why = tt
        spending DamagedTable why = tt
        spending fault why = absurd why

        caused : (fault : Fault) → HasCause (writing_causes ⊥ (st.state old.tables.file.image).faults (st.state new.tables.file.image).faults) fault
            → ImageCause (files coherent old) (files coherent new) fault
        caused Memory why = tt
        caused Storage why = inl why
        caused DamagedTable why = tt
        caused fault why = absurd why

        from : (r : Result Unit Fault) → s.named ≡ r
            → IfErr r (HasCause (writing_causes ⊥ (st.state old.tables.file.image).faults (st.state new.tables.file.image).faults))
            → Why (answer_of r)
        from (Ok done) is why = tt
        from (Err fault) is why = (
          refl,
          subst IsTrue (sym (failed-is st state.mapping_id old new result s ∙ ap (λ r. failed_after_any r old.failed) is)) refl,
          spending fault why,
          (own, λ mine. (is-free st state.mapping_id old new result s, λ well_formed not_resource_error. refused-hard st state.mapping_id old new result s well_formed fault is not_resource_error)),
          caused fault why,
        )

-- A cancel as its two calls: the mapping is taken out, and its clusters are given back.
pub drops-by : {S : Type 0} (g : Ghosts S) (mapping_id : ℕ) (old mid : Qcow2 S g) (u : Unspent S g)
    → (u.mapping_id ≡ mapping_id) × (old.unspent ≡ Some u) × (mid ≡ record old { unspent = None }) → (space : Option Space)
    → GivesBack u.is_kept u.host u.count mid.tables.space space → (new : Qcow2 S g) → new ≡ record mid { tables = new.tables }
    → new.tables.file ≡ mid.tables.file → new.tables.l1 ≡ mid.tables.l1 → new.tables.caches ≡ mid.tables.caches → new.tables.space ≡ space
    → CancelsUnspent g mapping_id old new
drops-by g mapping_id old mid u taken space gives new is file l1 caches known = inr (record {
  spent = u;
  was_unspent = taken.1;
  mine = taken.0;
  space = space;
  given = subst (λ o. GivesBack u.is_kept u.host u.count o space) (ap (λ (t : Tables _ g). t.space) tables-same) gives;
  file = file ∙ ap (λ (t : Tables _ g). t.file) tables-same;
  l1 = l1 ∙ ap (λ (t : Tables _ g). t.l1) tables-same;
  caches = caches ∙ ap (λ (t : Tables _ g). t.caches) tables-same;
  known = known;
  others = is ∙ ap (λ (d : Qcow2 _ g). record d { tables = new.tables }) taken.2;
}) where
  tables-same : mid.tables ≡ old.tables
  tables-same = ap (λ (d : Qcow2 _ g). d.tables) taken.2

module _ {S : Type 0} (g : Ghosts S) (mapping_id : ℕ) (old new : Qcow2 S g) (s : DropsUnspent g mapping_id old new) where
  abbrev hold : PreparedMappingRun
  hold = prepared_mapping_run g s.spent

  held-is : holding_in g old.unspent ≡ Some hold
  held-is = ap (holding_in g) s.was_unspent

  free-now : new.unspent ≡ None
  free-now = ap (λ (d : Qcow2 S g). d.unspent) s.others

  none-held : holding_in g new.unspent ≡ None
  none-held = ap (holding_in g) free-now

  mode-same : new.mode ≡ old.mode
  mode-same = ap (λ (d : Qcow2 S g). d.mode) s.others

  number-same : new.number ≡ old.number
  number-same = ap (λ (d : Qcow2 S g). d.number) s.others

  failed-same : new.failed ≡ old.failed
  failed-same = ap (λ (d : Qcow2 S g). d.failed) s.others

  state-same : g.state new.tables.file.image ≡ g.state old.tables.file.image
  state-same = ap (λ (f : ImageFile S). g.state f.image) s.file

  file-same : file_of g new.tables ≡ file_of g old.tables
  file-same = ap (λ (x : StorageState). bytes_of x.bytes) state-same

  memory-same : memory_of g new.tables ≡ memory_of g old.tables
  memory-same = memory-is g new.tables ∙ file-same ∙ sym (memory-is g old.tables)

  fields-same : new.tables.file.header.fields ≡ old.tables.file.header.fields
  fields-same = ap (λ (f : ImageFile S). f.header.fields) s.file

  dropped-free : (layer_of g new).unspent ≡ None
  dropped-free = ap mapping_id_held none-held

  dropped-fixed : (layer_of g new).fixed ≡ (layer_of g old).fixed
  dropped-fixed = λ i. qcow2_fixed (state-same i).shape (fields-same i) (mode-same i) (number-same i)

  dropped-size : (layer_of g new).size ≡ (layer_of g old).size
  dropped-size = ap (λ (k : Fields). k.size) fields-same

  dropped : Cancelled (layer_of g old) (layer_of g new)
  dropped = record {
    fixed = dropped-fixed;
    size = dropped-size;
    failed = failed-same;
    is_free = dropped-free;
    cell = λ i. cells (blank_of (mode-same i).backing) (memory-same i) (file-same i) (fields-same i);
  }

  homes-same : (p : ℕ) → writable_locations_of g new p ≡ writable_locations_of g old p
  homes-same p = λ i. writable_locations (mode-same i).writable (memory-same i) (fields-same i) p

  as-was : (P : Bytes → Fields → Type 0) → P (memory_of g old.tables) old.tables.file.header.fields → P (memory_of g new.tables) new.tables.file.header.fields
  as-was P was = subst (λ b. P b new.tables.file.header.fields) (sym memory-same) (subst (P (memory_of g old.tables)) (sym fields-same) was)

  rest-same : (space : Space) → rest_of g new.tables space ≡ rest_of g old.tables space
  rest-same space = λ i. record (rest_of g old.tables space) { file = bytes_of (state-same i).bytes; header = (s.file i).header }

  seen-still : IsCacheCoherent g old.tables → IsCacheCoherent g new.tables
  seen-still seen = record {
    loads = rw (file-same, ap (λ (f : ImageFile S). f.header) s.file) seen.loads;
    inside = rw fields-same seen.inside;
    l1 = rw (file-same, fields-same, s.l1) seen.l1;
    tables = rw (file-same, fields-same, s.caches) seen.tables;
  }

  -- The clusters are on the free list afterwards, or stay preallocated.
  sound-still : HoldsIn g old.tables hold → ((space : Space) → old.tables.space ≡ Some space → IsSound (rest_of g old.tables space))
      → IfSome new.tables.space (λ space. IsSound (rest_of g new.tables space))
  sound-still holds sound =
      subst (λ o. IfSome o (λ space. IsSound (rest_of g new.tables space))) (sym s.known)
      (from hold.is_kept refl s.space (subst (λ o. GivesBack hold.is_kept hold.host hold.count o s.space) holds.space_known s.given)) where
        from : (is_kept : Bool) → hold.is_kept ≡ is_kept → (o : Option Space) → GivesBack is_kept hold.host hold.count (Some holds.space) o
            → IfSome o (λ space. IsSound (rest_of g new.tables space))
        from true is o same = subst (λ o. IfSome o (λ space. IsSound (rest_of g new.tables space))) (sym same)
            (subst IsSound (sym (rest-same holds.space)) (sound holds.space holds.space_known))
        from false is o (inl none) = absurd (let room = holds.room is in let no = none.0 in omega (arith, room, no))
        from false is o (inr given) = subst (λ o. IfSome o (λ space. IsSound (rest_of g new.tables space))) (sym given.1)
            (subst IsSound (sym (rest-same (with_waiting holds.space hold.host hold.count)))
            (put-off-sound (rest_of g old.tables holds.space) hold.host hold.count (rest-memory g old.tables holds.space)
            (sound holds.space holds.space_known) (λ d from to.
            let i : ℕ = d - hold.host in
            let whole : hold.host + i ≡ d = omega (arith, from) in
            subst (IsReserved (rest_of g old.tables holds.space)) whole
            (subst (λ b. IsOwnAs b (rest_of g old.tables holds.space) (hold.guest + i) (hold.host + i)) is
            (holds.held.own i (omega (arith, from, to)))))))

  -- The search for free clusters starts at the same cluster.
  from-still : (is_kept : Bool) (host n : ℕ) (before after : Option Space) → GivesBack is_kept host n before after
      → searched_from after ≡ searched_from before
  from-still true host n before after given = ap searched_from given
  from-still false host n None after given = ap searched_from given
  from-still false host n (Some space) after given = elim given [
    | inl none ↦ ap searched_from none.1
    | inr back ↦ ap searched_from back.1
  ]

  safe-still : (was now : Bool) → now ≡ false → IsWellFormed g (record old { failed = was }) → IsWellFormed g (record new { failed = now })
  safe-still was now runs well_formed = record {
    runs = runs;
    keeps = subst (λ (x : StorageState). IsTrue x.shape.keeps) (sym state-same) well_formed.keeps;
    consistent = rw (file-same, ap (λ (f : ImageFile S). f.header) s.file) well_formed.consistent;
    seen = seen-still well_formed.seen;
    sound = sound-still (subst (λ o. IfSome o (HoldsIn g old.tables)) held-is well_formed.held)
        (λ space there. subst (λ o. IfSome o (λ x. IsSound (rest_of g old.tables x))) there well_formed.sound);
    searched = counted-same g old.tables new.tables file-same (ap (λ (f : ImageFile S). f.header) s.file)
        (ap searched_from s.known ∙ from-still s.spent.is_kept s.spent.host s.spent.count old.tables.space s.space s.given) well_formed.searched;
    held = subst (λ o. IfSome o (HoldsIn g new.tables)) (sym none-held) tt;
    writable = λ some. absurd (cc (subst IsSome free-now some));
  }

  sees-still : IsCoherent g old → IsCoherent g new
  sees-still was = record {
    seen = seen-still was.seen;
    sure = elim was.sure [
      | inl untouched ↦ absurd (let bad : Some s.spent ≡ None = sym s.was_unspent ∙ untouched.0 in cc bad)
      | inr well_formed ↦ inr (safe-still false false refl well_formed)
    ];
  }

  safe-after : IsWellFormed g old → IsWellFormed g new
  safe-after well_formed = safe-still old.failed new.failed (failed-same ∙ well_formed.runs) well_formed

module _ (R : RattleType) (st : Ghosts R.Denot) (sd : mir.Syntax.Dict) (dd : mir.Syntax.Dict) where
  abbrev shown : SeenGhosts (Qcow2 R.Denot st) PreparedMappingState
  shown = ghosts R st sd dd

  module _ (mapping : PreparedDataMapping PreparedMappingState) (state : PreparedMappingState) (has : mapping.state ≡ Some state)
      (old new : Qcow2 R.Denot st) (own : state.number ≡ old.number) where
    without-state : {A : Type 0} → mapping.state ≡ None → A
    without-state none = absurd (let bad : Some state ≡ None = sym has ∙ none in cc bad)

    mine-claim : IsMine shown mapping.state (layer_of st old) → mapping_id_held (holding_in st old.unspent) ≡ Some state.mapping_id
    mine-claim mine = (subst (λ o. IsMine shown o (layer_of st old)) has mine).1

    cancels-another : mapping_id_held (holding_in st old.unspent) ≢ Some state.mapping_id → Cancels shown mapping (Ok tt) old old
    cancels-another other = record {
      ok = subst (λ o. Spends shown o (layer_of st old) (layer_of st old) (Cancelled (layer_of st old) (layer_of st old))) (sym has) (own, λ mine. absurd (other mine));
      back = tt;
      unchanged = without-state;
      fixed = refl;
      size = refl;
      failed = refl;
      none = (refl, refl);
      stable = λ l. l;
      excess_refcount = λ mine well_formed c. refl;
      coherent = λ seen. seen;
      well_formed = λ mine well_formed. well_formed;
      room = λ well_formed mine. absurd (other (mine-claim mine));
      stays_begun = λ d call begun. begun;
    }

    cancels-dropped : DropsUnspent st state.mapping_id old new → Cancels shown mapping (Ok tt) old new
    cancels-dropped s = record {
      ok = subst (λ o. Spends shown o (layer_of st old) (layer_of st new) (Cancelled (layer_of st old) (layer_of st new))) (sym has)
          (own, λ mine. dropped st state.mapping_id old new s);
      back = tt;
      unchanged = without-state;
      fixed = dropped-fixed st state.mapping_id old new s;
      size = dropped-size st state.mapping_id old new s;
      failed = failed-same st state.mapping_id old new s;
      none = (state-same st state.mapping_id old new s, refl);
      stable = λ l. l;
      excess_refcount = λ mine well_formed. surplus-kept st old new (dropped-leaks st state.mapping_id old new s well_formed);
      coherent = sees-still st state.mapping_id old new s;
      well_formed = λ mine. safe-after st state.mapping_id old new s;
      room = λ well_formed mine. record {
        stays_allocated = λ p left. as-was st state.mapping_id old new s (λ m h. HasRoom m h p);
        free = λ p left. as-was st state.mapping_id old new s (λ m h. IsUnallocated m h p);
        zeroes = λ p left free. as-was st state.mapping_id old new s (λ m h. IsZeroed m h p);
      };
      stays_begun = λ d call begun well_formed.
          let then = begun well_formed in
          let gone = dropped st state.mapping_id old new s in (
            safe-after st state.mapping_id old new s then.0,
            since-as st call d old new (λ p at is. homes-same st state.mapping_id old new s p ∙ is)
                (λ p. inl (ap (λ (f : ℕ → Cell). f p) gone.cell))
                (ap (λ (f : ImageFile R.Denot). f.header.fields.size) s.file) (ap (λ (f : ImageFile R.Denot). f.header.fields.cluster_bits) s.file)
                (ap (λ (f : ImageFile R.Denot). f.header.fields.version) s.file)
                (dropped-leaks st state.mapping_id old new s then.0) then.1,
          );
    }

    pub cancels-by : CancelsUnspent st state.mapping_id old new → Cancels shown mapping (Ok tt) old new
    cancels-by (inl another) = subst (Cancels shown mapping (Ok tt) old) (sym another.1) (cancels-another another.0)
    cancels-by (inr s) = cancels-dropped s

-- Lemmas on guest clusters of one L2 table, past the end of the disk, that become zero clusters.
use Rattle.std.proofs.Common.{◌≡◌, ℕ, ◌+◌, ◌*◌, ◌/◌, ◌%◌, ◌<◌, ◌≤◌, refl, arith, ap, sym, subst, ◌∙◌, inl, inr, List, Option, Some, None, Result, Ok, Err}
use Rattle.std.proofs.Math.Nat.{div-mul-le_self, le_refl, mul-le-mul_right}
use Rattle.std.specs.Prelude.{◌⊎◌, IsTrue, IsSome}
use Rattle.imago_storage.specs.State.{StorageState}
use Rattle.imago_storage.specs.Disk.{Value, byte}
use Rattle.imago_storage.specs.Passing.{UnrefusedCrashImages}
use Rattle.imago_storage.specs.declared.fault.Fault.{Fault}
use Rattle.imago_storage.specs.declared.fault.Fault.TheVariants.{DamagedTable, Memory, Storage}
use Rattle.imago_storage.specs.declared.storage.Storage.{Ghosts}
use Rattle.imago_access.specs.Files.{HadNoResourceError, IsNotResourceError}
use Rattle.imago_access.specs.Layer.{Layer}
use Rattle.imago_access.specs.Stops.{Left}
use Rattle.imago_access.proofs.Stopping.{passes_none, passes_on}
use Rattle.qcow2_types.specs.Bytes.{Bytes}
use Rattle.qcow2_types.specs.Entries.{entry}
use Rattle.qcow2_types.specs.Header.{Fields, Header, cluster_size, entries_of_cluster}
use Rattle.qcow2_alloc.specs.Causes.{HasCause}
use Rattle.qcow2_alloc.specs.Going.{writing_causes}
use Rattle.qcow2_steps.specs.Values.{own_value, own_value_by}
use Rattle.qcow2_clusters.specs.Clearing.{AreUnder}
use Rattle.qcow2_clusters.specs.Storing.{storing_causes}
use Rattle.qcow2_clusters.specs.declared.clearing.Clearing.TheVariants.{Keep}
use Rattle.qcow2_clusters.specs.declared.space.Space.{Space}
use Rattle.qcow2_image.specs.Allocating.{failed_by_resource_error}
use Rattle.qcow2_image.specs.Clearing.{ClearsClusters, ClearsWith, IsUnreserved}
use Rattle.qcow2_image.specs.Growing.{AreZeroes, GivesWithin, GivesZero, HasTableReady, IsWithin, SetsEntries, ZeroesPart}
use Rattle.qcow2_image.specs.KeepsDisk.{value_in}
use Rattle.qcow2_image.specs.Rooms.{is_sound, rest_of}
use Rattle.qcow2_image.specs.Seen.{file_of, layer_of}
use Rattle.qcow2_image.specs.declared.qcow2.Qcow2.{Qcow2}
use Rattle.qcow2_image.specs.declared.tables.Tables.{Tables}
use Rattle.qcow2_image.proofs.CallStarts.{still-cut, whole-cut}
use Rattle.qcow2_image.proofs.Clearings.ClearedDisk.{DiskCleared, cleared-value, disk-cleared, failed-is, refused-hard, stops-cleared, unspent-same, value-is, word-is}
use Rattle.qcow2_image.proofs.DiskEffects.{format-same, whole-below}
use Rattle.qcow2_image.proofs.Preparations.Reservations.{under-row}
use Rattle.qcow2_image.proofs.Resizes.SetEntries.{layer-past, sets-failed, values-of}

some-there : {A : Type 0} (o : Option A) → IsSome o → (a : A) × (o ≡ Some a)
some-there None is = absurd (cc is)
some-there (Some a) is = (a, refl)

module _ {S : Type 0} (g : Ghosts S) (table guest n : ℕ) (old new : Qcow2 S g) (result : Result Unit Fault)
    (s : ClearsClusters g Keep table guest n old result new)
    (row : guest % entries_of_cluster old.tables.file.header.fields + n ≤ entries_of_cluster old.tables.file.header.fields)
    (any : 0 < n) (free : old.unspent ≡ None) where
  abbrev before : StorageState
  before = g.state old.tables.file.image

  abbrev after : StorageState
  after = g.state new.tables.file.image

  abbrev f : Bytes
  f = file_of g old.tables

  abbrev f' : Bytes
  f' = file_of g new.tables

  abbrev h : Fields
  h = old.tables.file.header.fields

  abbrev h' : Fields
  h' = new.tables.file.header.fields

  abbrev cs : ℕ
  cs = cluster_size h

  fields-same : h' ≡ h
  fields-same = ap (λ (K : Header). K.fields) s.clears.header

  abbrev Ready : Type 0
  Ready = HasTableReady g guest table old

  module _ (ready : Ready) where
    loaded : (space : Space) × (old.tables.space ≡ Some space)
    loaded = some-there old.tables.space ready.known

    under : AreUnder n (rest_of g old.tables loaded.0) table guest
    under = under-row g (rest_of g old.tables loaded.0) table guest n row (record {
      inside = ready.table_linked.1;
      table_linked = ready.table_linked.2;
      table_nonzero = ready.table_linked.0;
    })

    how : IsUnreserved old.tables result new.tables ⊎ ClearsWith g Keep table guest n old.tables loaded.0 result new.tables
    how = s.clears.known loaded.0 loaded.1

    -- Clearing fails only with a resource error.
    hard : (e : Fault) → result ≡ Err e → IsNotResourceError e → ⊥
    hard e is not_resource_error = elim how [
      | inl unreserved ↦ subst (λ (r : Result Unit Fault). HadNoResourceError r) (sym is ∙ unreserved.0) not_resource_error
      | inr cleared ↦
          refused-hard g Keep table guest n old new result s ready.well_formed loaded.0 loaded.1 under cleared e is not_resource_error
    ]

    succeeds : HadNoResourceError result → result ≡ Ok tt
    succeeds = from result refl where
      from : (r : Result Unit Fault) → result ≡ r → HadNoResourceError r → r ≡ Ok tt
      from (Ok done) is whole = refl
      from (Err e) is whole = absurd (hard e is whole)

    stops : (below : List Layer)
        → UnrefusedCrashImages (Left below (layer_of g old) before.bytes is_sound (layer_of g old).size (layer_of g old).size
        (GivesWithin guest (guest + n) GivesZero (layer_of g old))) before after
    stops below =
        let gives : ℕ → Value → Type 0 = GivesWithin guest (guest + n) GivesZero (layer_of g old) in
        let P : List ℕ → Type 0 = Left below (layer_of g old) before.bytes is_sound (layer_of g old).size (layer_of g old).size gives in
        elim how [
          | inl unreserved ↦ passes_on P before before after (ap (λ (x : Tables S g). g.state x.file.image) unreserved.1)
              (passes_none P before before refl (refl, refl, refl, refl))
          | inr cleared ↦ stops-cleared g Keep table guest n old new result s ready.well_formed loaded.0 loaded.1 under cleared below gives
              (λ p low ours. (ours, refl))
        ]

    module _ (ok : result ≡ Ok tt) where
      cleared : ClearsWith g Keep table guest n old.tables loaded.0 result new.tables
      cleared = elim how [
        | inl unreserved ↦ absurd (let bad : Ok tt ≡ Err Memory = sym ok ∙ unreserved.0 in cc bad)
        | inr w ↦ w
      ]

      disk : DiskCleared g Keep guest n old new
      disk = disk-cleared g Keep table guest n old new result s ready.well_formed loaded.0 loaded.1 under cleared ok any free

      value-or : (p : ℕ) → IsWithin guest (guest + n) (p / cs) ⊎ (own_value f' f' h p ≡ own_value f f h p)
      value-or p = value-is g Keep table guest n old new result s ready.well_formed loaded.0 loaded.1 under cleared ok any free p

      word-or : (x : ℕ) → IsWithin guest (guest + n) x ⊎ (entry f' h x ≡ entry f h x)
      word-or x = word-is g Keep table guest n old new result s ready.well_formed loaded.0 loaded.1 under cleared ok any free x

      zero-value : (p : ℕ) → IsWithin guest (guest + n) (p / cs) → value_in g new.tables p ≡ Some (byte 0)
      zero-value p ours =
          let word = ap (λ k. entry f' k (p / cs)) (sym fields-same) ∙ disk.entries.there (p / cs) ours in
          ap (λ k. own_value f' f' k p) fields-same ∙ ap (own_value_by f' h p) word ∙ cleared-value Keep f' h p (entry f h (p / cs))

      pub zeroes-now : AreZeroes g guest (guest + n) new
      zeroes-now p ours = zero-value p (subst (λ k. IsWithin guest (guest + n) (p / cluster_size k)) fields-same ours)

      values-now : (p : ℕ) → (value_in g new.tables p ≡ value_in g old.tables p)
          ⊎ (IsWithin guest (guest + n) (p / cs) × ((v : Value) × (value_in g new.tables p ≡ Some v) × GivesZero p v))
      values-now p = elim (value-or p) [
        | inl ours ↦ inr (ours, (byte 0, zero-value p ours, refl))
        | inr same ↦ inl (ap (λ k. own_value f' f' k p) fields-same ∙ same)
      ]

      layer-now : h.size ≤ guest * cs → layer_of g new ≡ layer_of g old
      layer-now past = layer-past g old new s.clears.shape fields-same (ap (λ (d : Qcow2 S g). d.mode) s.others)
          (ap (λ (d : Qcow2 S g). d.number) s.others) (unspent-same g Keep table guest n old new result s) free
          (failed-is g Keep table guest n old new result s ∙ ap (λ r. failed_by_resource_error r s.begun old.failed) ok) words values where
            words : (x : ℕ) → x * cs < h.size → entry f' h x ≡ entry f h x
            words x low = elim (word-or x) [
              | inr same ↦ same
              | inl ours ↦ absurd (let more : guest * cs ≤ x * cs = mul-le-mul_right cs ours.0 in omega (arith, past, low, more))
            ]

            values : (p : ℕ) → p < h.size → value_in g new.tables p ≡ value_in g old.tables p
            values p low = elim (value-or p) [
              | inr same ↦ ap (λ k. own_value f' f' k p) fields-same ∙ same
              | inl ours ↦ absurd (
                  let more : guest * cs ≤ p / cs * cs = mul-le-mul_right cs ours.0 in
                  let start : p / cs * cs ≤ p = div-mul-le_self p cs in
                  omega (arith, past, low, more, start))
            ]

  still-known : IsSome old.tables.space → IsSome new.tables.space
  still-known some = elim (s.clears.known (some-there old.tables.space some).0 (some-there old.tables.space some).1) [
    | inl unreserved ↦ subst (λ (t : Tables S g). IsSome t.space) (sym unreserved.1) some
    | inr cleared ↦ subst IsSome (sym cleared.space_known) refl
  ]

  pub cleared-sets : SetsEntries g Ready (HadNoResourceError result) guest (guest + n) GivesZero old new
  cleared-sets = record {
    mode = ap (λ (d : Qcow2 S g). d.mode) s.others;
    number = ap (λ (d : Qcow2 S g). d.number) s.others;
    unspent = unspent-same g Keep table guest n old new result s;
    shape = s.clears.shape;
    counts_not_fallen = s.clears.counts_not_fallen;
    failed = λ was. subst IsTrue (sym (failed-is g Keep table guest n old new result s)) (still-cut result s.begun old.failed was);
    runs = λ whole. failed-is g Keep table guest n old new result s ∙ whole-cut result s.begun old.failed whole;
    size = ap (λ (k : Fields). k.size) fields-same;
    bits = ap (λ (k : Fields). k.cluster_bits) fields-same;
    version = ap (λ (k : Fields). k.version) fields-same;
    format = format-same old.tables.file.header new.tables.file.header s.clears.header;
    faults = λ whole. s.clears.faults (whole-below result whole);
    known = λ ready whole. still-known;
    crash_images = stops;
    well_formed = λ ready whole. (disk ready (succeeds ready whole)).well_formed;
    values = λ ready whole. values-now ready (succeeds ready whole);
    layer = λ ready whole. layer-now ready (succeeds ready whole);
    leaks = λ ready whole. (disk ready (succeeds ready whole)).leaks;
  }

  part-why : (full : ℕ → Type 0) (e : Fault) → result ≡ Err e → HasCause (writing_causes ⊥ before.faults after.faults) e
      → HasCause (storing_causes Ready full before.faults after.faults) e
  part-why full Memory is why = tt
  part-why full Storage is why = why
  part-why full DamagedTable is why = λ ready. hard ready DamagedTable is tt
  part-why full e is why = absurd why

-- The guest clusters became zero clusters.
module _ {S : Type 0} (g : Ghosts S) (table guest n : ℕ) (old new : Qcow2 S g)
    (row : guest % entries_of_cluster old.tables.file.header.fields + n ≤ entries_of_cluster old.tables.file.header.fields)
    (any : 0 < n) (free : old.unspent ≡ None) where
  pub zeroed-part : ClearsClusters g Keep table guest n old (Ok tt) new
      → ZeroesPart g (HasTableReady g guest table old) (λ number. ⊥) guest n old (Ok n) new
  zeroed-part s = record {
    sets = cleared-sets g table guest n old new (Ok tt) s row any free;
    many = (any, le_refl n);
    zeroed = λ ready. zeroes-now g table guest n old new (Ok tt) s row any free ready refl;
    cause = tt;
  }

  pub failed-part : (past : old.tables.file.header.fields.size ≤ guest * cluster_size old.tables.file.header.fields) (e : Fault)
      → ClearsClusters g Keep table guest n old (Err e) new
      → ZeroesPart g (HasTableReady g guest table old) (λ number. ⊥) guest n old (Err e) new
  failed-part past e s = record {
    sets = sets-failed g (HasTableReady g guest table old) (HadNoResourceError {T = Unit} (Err e)) guest (guest + n) (guest + 0)
        GivesZero old new past (λ ready whole. hard g table guest n old new (Err e) s row any free ready e refl whole)
        (values-of g (HasTableReady g guest table old) (HadNoResourceError {T = Unit} (Err e)) guest (guest + n) GivesZero old new
        (cleared-sets g table guest n old new (Err e) s row any free));
    many = tt;
    zeroed = λ ready. tt;
    cause = part-why g table guest n old new (Err e) s row any free (λ number. ⊥) e refl s.clears.cause;
  }

-- Lemmas on preparations of a run that can be written in place, and of one that is held.
use Rattle.std.proofs.Common.{◌≡◌, ◌≢◌, ℕ, ◌+◌, ◌*◌, ◌/◌, ◌%◌, ◌<◌, ◌≤◌, refl, arith, ap, sym, subst, ◌∙◌, inl, inr, false, Option, Some, None, Result, Ok, Err}
use Rattle.std.specs.Prelude.{⊤, ◌⊎◌, ◌++◌}
use Rattle.std.specs.Borrow.{RattleType}
use Rattle.std.proofs.lemmas.Bool.{cases_eq, cases_lt, lt-ltb}
use Rattle.std.proofs.lemmas.Nat.{div-add-mod'}
use Rattle.std.proofs.Math.Nat.{mul-le-mul_right}
use Rattle.imago_storage.specs.Disk.{byte, damaged_place}
use Rattle.imago_storage.specs.Steps.{Call}
use Rattle.imago_storage.specs.declared.fault.Fault.{Fault}
use Rattle.imago_storage.specs.declared.fault.Fault.TheVariants.{DamagedTable, Failed, MissingData, Memory, Storage, Limit}
use Rattle.imago_storage.specs.declared.storage.Storage.{Ghosts}
use Rattle.imago_access.specs.declared.driver_model.DriverModel.{Ghosts as SeenGhosts}
use Rattle.imago_access.specs.declared.driver_model.LayersBelowModel.{Ghosts as GhostsBelow}
use Rattle.imago_access.specs.Chain.{at}
use Rattle.imago_access.specs.Changes.{Asked, IsHolding}
use Rattle.imago_access.specs.Files.{ImageCause, IsNotResourceError, HadNoResourceError, files}
use Rattle.imago_access.specs.Going.{MutatingCall}
use Rattle.imago_access.specs.Layer.{Cell, IsFree, Layer, loose, own, unmapped}
use Rattle.imago_access.specs.Mappings.{IsMappedRun}
use Rattle.imago_access.specs.Parts.{IsUncutPart, PartCause, announces}
use Rattle.imago_access.specs.PreparingCalls.{Prepares}
use Rattle.imago_access.specs.Refusals.{LookCause}
use Rattle.imago_access.specs.Room.{IsUncutAt}
use Rattle.imago_access.proofs.ImageCauses.{failed_left}
use Rattle.imago_access.proofs.Marking.{over_plain}
use Rattle.qcow2_types.specs.Bytes.{Bytes}
use Rattle.qcow2_types.specs.Header.{Fields, Header, cluster_size, entries_of_cluster}
use Rattle.qcow2_types.specs.Words.{Mapping, data_at, zeroes, packed, damaged, is_damaged}
use Rattle.qcow2_types.specs.Words as mappings
use Rattle.qcow2_types.specs.Entries.{entry, l2_table}
use Rattle.qcow2_types.specs.Consistency.{IsConsistent}
use Rattle.qcow2_types.proofs.Counting.Consistent.{some-words, consistent-shaped}
use Rattle.qcow2_types.proofs.Showing.Shows.{guest-slot-there, guest-slot-none, guest-live}
use Rattle.qcow2_types.proofs.Counting.Sound.{sound-words}
use Rattle.qcow2_types.proofs.Showing.Values.{entry-slot}
use Rattle.qcow2_image.specs.contracts.qcow2.Qcow2DriverModel.TheImpl.{ghosts}
use Rattle.qcow2_image.specs.declared.qcow2.Qcow2.{Qcow2}
use Rattle.qcow2_image.specs.declared.qcow2.PreparedMappingState.{PreparedMappingState}
use Rattle.qcow2_image.specs.HeldHomes.{free_loose}
use Rattle.qcow2_image.specs.Holding.{PreparedMappingRun, mapping_id_held, held_writable_location, writable_location_or, writable_locations_with}
use Rattle.qcow2_image.specs.Homes.{memory_is}
use Rattle.qcow2_image.specs.ImageLayer.{blank_of, blanks, cell_by}
use Rattle.qcow2_image.specs.Looking.{IsWholeRun, IsWholeRunIn}
use Rattle.qcow2_image.specs.Rooms.{IsWellFormed, was_well_formed}
use Rattle.qcow2_image.specs.Seen.{IsCacheCoherent, file_of, writable_locations_of, layer_of}
use Rattle.qcow2_image.specs.Steps.{KeepsImage}
use Rattle.qcow2_image.specs.Unspent.{holding_in}
use Rattle.qcow2_image.specs.Writing.{IsWritableAt, HadNoPlace}
use Rattle.qcow2_image.proofs.Steps.{began-kept, looked-kept, marks-kept, takes-kept}

pub never-damaged : (f : Bytes) (H : Header) → IsConsistent f H → (g : ℕ) → entry f H.fields g ≢ damaged
never-damaged f H was g is = elim (cases_eq (l2_table f H.fields (g / entries_of_cluster H.fields)) 0) [
  | inl none ↦
      let bad : mappings.unmapped ≡ damaged = sym (guest-slot-none f H.fields g none) ∙ (sym (entry-slot f H.fields g was.readable.tables) ∙ is) in
      absurd (cc bad)
  | inr there ↦
      let live = guest-live f H.fields g (some-words H.fields (consistent-shaped f H was)) there in
      let sound = (sound-words f H.fields was.readable.tables).slots (g / entries_of_cluster H.fields) (g % entries_of_cluster H.fields) live in
      let bad = sym (guest-slot-there f H.fields g there) ∙ (sym (entry-slot f H.fields g was.readable.tables) ∙ is) in
      absurd (cc (sym (ap is_damaged bad) ∙ sound))
]

damaged-by : (blank : Cell) → (blank ≡ unmapped) ⊎ (blank ≡ own (byte 0)) → (f : Bytes) (h : Fields) (p : ℕ) (m : Mapping) → cell_by blank f h p m ≡ own damaged_place → m ≡ damaged
damaged-by blank which f h p damaged is = refl
damaged-by blank which f h p (data_at c x) is = absurd (cc is)
damaged-by blank which f h p (zeroes c x) is = absurd (cc is)
damaged-by blank which f h p (packed o n) is = absurd (cc is)
damaged-by blank which f h p mappings.unmapped is = elim which [
  | inl none ↦ absurd (cc (sym none ∙ is))
  | inr zero ↦ absurd (cc (sym zero ∙ is))
]

pub safe-undamaged : {S : Type 0} (g : Ghosts S) (d : Qcow2 S g) → IsWellFormed g d → (p : ℕ) → p < (layer_of g d).size → (layer_of g d).cell p ≢ own damaged_place
safe-undamaged g d well_formed p inside is =
    let h = d.tables.file.header.fields in
    let here : cell_by (blank_of d.mode.backing) (file_of g d.tables) h p (entry (file_of g d.tables) h (p / cluster_size h)) ≡ own damaged_place =
    subst (λ m. cell_by (blank_of d.mode.backing) (file_of g d.tables) h p (entry m h (p / cluster_size h)) ≡ own damaged_place) (memory_is g d.tables)
    (rw (lt-ltb p h.size inside) at is) in
    never-damaged (file_of g d.tables) d.tables.file.header well_formed.consistent (p / cluster_size h)
    (damaged-by (blank_of d.mode.backing) (blanks d.mode.backing) (file_of g d.tables) h p _ here)

-- A run of whole clusters ends inside no cluster that the range covers completely.
pub uncut-run : (h : Fields) (mapped : ℕ → Mapping) (offset asked n : ℕ) → offset < h.size → offset + n ≤ h.size → IsWholeRun h mapped offset asked n
    → IsUncutAt (cluster_size h) h.size offset asked (offset + n)
uncut-run h mapped offset asked n low inside is u unit = elim is.ends [
  | inl all ↦ inr (omega (arith, all, unit.end, low))
  | inr cut ↦
      let c : ℕ = cluster_size h in
      let k : ℕ = (offset + n) / c in
      let place : offset + n ≡ k * c = omega (arith, div-add-mod' (offset + n) c, cut.cluster) in
      elim (cases_lt u k) [
        | inl more ↦
            let le : (u + 1) * c ≤ k * c = mul-le-mul_right c (omega (arith, more)) in
            let product : (u + 1) * c ≡ u * c + c = omega arith in
            inr (omega (arith, le, product, place))
        | inr less ↦ let le : k * c ≤ u * c = mul-le-mul_right c less in inl (omega (arith, le, place))
      ]
]

-- A byte without a location has none by its entry. It had none before, if each earlier location is kept.
pub words-none : (hold : Option PreparedMappingRun) (home : ℕ → Option (ℕ × ℕ)) (p : ℕ) → writable_locations_with hold home p ≡ None → home p ≡ None
words-none None home p is = is
words-none (Some hold) home p is = from (home p) refl is where
  from : (a : Option (ℕ × ℕ)) → home p ≡ a → writable_location_or a (held_writable_location hold p) ≡ None → home p ≡ None
  from None same none = same
  from (Some at) same none = absurd (cc none)

none-before : (was now : Option (ℕ × ℕ)) → ((at : ℕ × ℕ) → was ≡ Some at → now ≡ Some at) → now ≡ None → was ≡ None
none-before None now keeps none = refl
none-before (Some at) now keeps none = absurd (cc (sym none ∙ keeps at refl))

module _ (R : RattleType) (st : Ghosts R.Denot) (sd : mir.Syntax.Dict) (dd : mir.Syntax.Dict) (old new : Qcow2 R.Denot st) where
  abbrev coherent : SeenGhosts (Qcow2 R.Denot st) PreparedMappingState
  coherent = ghosts R st sd dd

  pub went-kept : {T : Type 0} (r : Result T Fault) → KeepsImage st old r new → (ok whole : Type 0) → (ok → HadNoResourceError r) → (whole → HadNoResourceError r)
      → MutatingCall coherent ok whole old new
  went-kept {T} r k ok whole from-ok from-whole =
      let looked = looked-kept R st sd dd {T = T} old new r k in record {
        fixed = looked.keeps_layer_state.fixed;
        failed = looked.keeps_layer_state.failed;
        counts_not_fallen = looked.counts_not_fallen;
        faults = λ w. looked.faults (from-ok w);
        safely = λ w. looked.safely (from-whole w);
        stays_stable = looked.stays_stable;
        excess_refcount = λ w. looked.excess_refcount (from-whole w);
      }

  module _ {B : Type 0} (u : GhostsBelow B) (x : B) (asked : Asked) where
    -- The cause of an error in the relations of the driver, from that of a lookup.
    pub part-why : (e : Fault) → old.failed ≡ false → LookCause (layer_of st old) asked.offset asked.length (files coherent old) (files coherent new) e → IsWellFormed st old → (d : Qcow2 R.Denot st) (call : Call)
        → PartCause (u.layers_below x) (layer_of st old) asked.offset asked.length (coherent.own_cause d (u.layers_below x) call) (files coherent old ++ u.files_of_layers_below x) (files coherent new ++ u.files_of_layers_below x) e
    part-why DamagedTable runs why well_formed d call = absurd (safe-undamaged st old well_formed (asked.offset + why.0) why.2 why.3)
    part-why Failed runs why well_formed d call = inl why
    part-why MissingData runs why well_formed d call = inl why
    part-why Memory runs why well_formed d call = tt
    part-why Storage runs why well_formed d call = elim why [
      | inl rose ↦ inl rose
      | inr none ↦ absurd none
    ]
    part-why e runs why well_formed d call = absurd why

    -- The cause of an error if the first byte can't be written in place.
    pub part-nowhere : (number : ℕ) → (layer_of st old).writable_location asked.offset ≡ None → 0 < asked.length → (d : Qcow2 R.Denot st) (call : Call) → coherent.began d call old → IsUncutPart (layer_of st old) call asked.offset asked.length
        → (IsWellFormed st d → HadNoPlace st d call asked.offset number)
        → PartCause (u.layers_below x) (layer_of st old) asked.offset asked.length (coherent.own_cause d (u.layers_below x) call) (files coherent old ++ u.files_of_layers_below x) (files coherent new ++ u.files_of_layers_below x) (Limit number)
    part-nowhere number none some d call begun part had = λ well_formed. (
      asked.offset,
      inl (
        (part.part.start, omega (arith, some, part.part.end)),
        λ keeps. none-before (writable_locations_of st d asked.offset) (writable_locations_of st old asked.offset)
            ((begun well_formed).1.writable_locations asked.offset keeps) (words-none (holding_in st old.unspent) (writable_locations_of st old) asked.offset none),
      ),
      had well_formed,
    )

    pub prepares-refused : (e : Fault) → KeepsImage {T = Option (ℕ × ℕ)} st old (Err e) new → ImageCause (files coherent old) (files coherent new) e
        → (IsWellFormed st old → u.coherent_below x → (d : Qcow2 R.Denot st) (call : Call) → coherent.began d call old
        → IsUncutPart (layer_of st old) call asked.offset asked.length → Some asked.overwrite ≡ announces call
        → PartCause (u.layers_below x) (layer_of st old) asked.offset asked.length (coherent.own_cause d (u.layers_below x) call) (files coherent old ++ u.files_of_layers_below x) (files coherent new ++ u.files_of_layers_below x) e)
        → Prepares coherent u asked (Err e) (old, x) (new, x)
    prepares-refused e k failed why =
        let looked = looked-kept R st sd dd {T = Option (ℕ × ℕ)} old new (Err e) k in record {
          ok = λ well_formed under. tt;
          err = λ well_formed under not_resource_error.
              let same = (looked.stays not_resource_error (record { seen = well_formed.seen; sure = inr (was_well_formed st old well_formed) })).0 in record { keeps_layer_state = looked.keeps_layer_state; cell = ap (λ (l : Layer). l.cell) same; held = ap (λ (l : Layer). l.held) same };
          uncut = λ well_formed under. tt;
          no_range_overflow = λ well_formed under. tt;
          room = λ well_formed under whole. takes-kept R st sd dd {T = Option (ℕ × ℕ)} old new (Err e) k;
          crash_images = λ well_formed under. looked.crash_images well_formed (u.layers_below x);
          mutating_call = went-kept {T = Option (ℕ × ℕ)} (Err e) k (IsNotResourceError e) (IsNotResourceError e × u.coherent_below x) (λ w. w) (λ w. w.0);
          stays_begun = λ d call begun part whole. began-kept R st sd dd {T = Option (ℕ × ℕ)} old new (Err e) k whole d call begun;
          refused = record {
            failed = failed_left (files coherent old) (files coherent new) (u.files_of_layers_below x) (u.files_of_layers_below x) e failed;
            marks_failed = over_plain coherent old new e (marks-kept R st sd dd {T = Option (ℕ × ℕ)} old new (Err e) k);
            cause = why;
          };
        }

    pub prepares-mapped : (place n : ℕ) → KeepsImage {T = Option (ℕ × ℕ)} st old (Ok (Some (place, n))) new → IsFree (layer_of st old)
        → asked.offset + asked.length ≤ (layer_of st old).size → 0 < asked.length
        → IsMappedRun (layer_of st old) asked.offset asked.length n → (IsCacheCoherent st old.tables → IsWritableAt (layer_of st old) asked.offset place n)
        → (IsCacheCoherent st old.tables → IsWholeRunIn st old.tables asked.offset asked.length n)
        → Prepares coherent u asked (Ok (record { storage = 0; offset = place; length = n; state = None })) (old, x) (new, x)
    prepares-mapped place n k free inside some run home whole =
        let looked = looked-kept R st sd dd {T = Option (ℕ × ℕ)} old new (Ok (Some (place, n))) k in
        let now-free : mapping_id_held (holding_in st new.unspent) ≡ None = ap (λ v. mapping_id_held (holding_in st v)) k.unspent ∙ free in
        let empty : (p : ℕ) → (layer_of st new).held p ≡ loose = λ p. free_loose new.tables.file.header.fields (file_of st new.tables) (holding_in st new.unspent) p now-free in
        record {
          ok = λ well_formed under.
              let same = (looked.stays tt (record { seen = well_formed.seen; sure = inr (was_well_formed st old well_formed) })).0 in record {
                fixed = ap (λ (l : Layer). l.fixed) same;
                size = ap (λ (l : Layer). l.size) same;
                cell = ap (λ (l : Layer). l.cell) same;
                writable_location = λ i lt. ap (λ (l : Layer). l.writable_location (asked.offset + i)) same ∙ home well_formed.seen i lt;
                unspent = now-free;
                holds = λ p. subst (IsHolding (at (u.layers_below x)) (layer_of st new) asked.offset n asked.overwrite p) (sym (empty p)) tt;
                some_held = λ c is. absurd (cc is);
              };
          err = λ well_formed under. tt;
          uncut = λ well_formed under. uncut-run old.tables.file.header.fields (entry (file_of st old.tables) old.tables.file.header.fields) asked.offset asked.length n
              (omega (arith, inside, some)) (run.2 some) (whole well_formed.seen);
          no_range_overflow = λ well_formed under p apart. empty p;
          room = λ well_formed under done. takes-kept R st sd dd {T = Option (ℕ × ℕ)} old new (Ok (Some (place, n))) k;
          crash_images = λ well_formed under. looked.crash_images well_formed (u.layers_below x);
          mutating_call = went-kept {T = Option (ℕ × ℕ)} (Ok (Some (place, n))) k ⊤ (⊤ × u.coherent_below x) (λ w. w) (λ w. w.0);
          stays_begun = λ d call begun part done. began-kept R st sd dd {T = Option (ℕ × ℕ)} old new (Ok (Some (place, n))) k tt d call begun;
          refused = record { failed = tt; marks_failed = tt; cause = λ well_formed under d call begun part same. tt };
        }

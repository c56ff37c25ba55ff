-- Zeroing of a range, part by part.
use Rattle.std.proofs.Common.{◌≡◌, refl, [], inl, inr, ℕ, ◌+◌, ◌-◌, ◌<◌, ◌≤◌, List, ◌∷◌, ◌++◌, length, slice_index, arith, sym, ◌∙◌, ap, subst}
use Rattle.std.specs.Prelude.{⊤, Bool, Option, Some, false, Result, Ok, Err, OnOk, IfErr, None, map, replicate, if◌then◌else◌}
use Rattle.std.proofs.lemmas.Bool.{cases_lt, le-ltb}
use Rattle.std.proofs.lemmas.List.{length-replicate, get_or-replicate}
use Rattle.imago_storage.specs.State.{StorageState, IsAlignment}
use Rattle.imago_storage.specs.Disk.{Value, byte}
use Rattle.imago_storage.specs.Steps as Steps
use Rattle.imago_storage.specs.Steps.{Call, IsIn, Stays, Changes, Unless}
use Rattle.imago_storage.specs.Causes.{Gives, PartlyDone, offset_of, length_of}
use Rattle.imago_storage.specs.declared.fault.Fault.{Fault}
use Rattle.imago_storage.specs.declared.fault.Fault.TheVariants.{Outdated}
use Rattle.imago_access.specs.Layer.{Layer, Cell, Held, IsFree, KeepsLayerState, loose, through, unit_of_layer}
use Rattle.imago_access.specs.Chain.{at}
use Rattle.imago_access.specs.Changes.{Wrote, TakesByte}
use Rattle.imago_access.specs.Files.{Pairs, IsLater, IsNotResourceError, HadNoResourceError, files}
use Rattle.imago_access.specs.Going.{MutatingCall}
use Rattle.imago_access.specs.Parts.{PartCause, MappedCause}
use Rattle.imago_access.specs.Refusals.{change_refusal}
use Rattle.imago_access.specs.Room.{IsApart}
use Rattle.imago_access.specs.Running.{IsIntact, IsBetween, RangeChange, ChainRangeChange, IsIntactChain, chain_disk, below_of}
use Rattle.imago_access.specs.Stops.{KeepsCrashImages, GivesBytes, GivesZero}
use Rattle.imago_access.proofs.ChangeCauses.{part_cause_later}
use Rattle.imago_access.proofs.Discarding.{like_both}
use Rattle.imago_access.proofs.Disks.{allowed_inside, disk_step, disk_partly}
use Rattle.imago_access.proofs.FilePairs.{pairs_append}
use Rattle.imago_access.proofs.Room.{apart_out, out_wider}
use Rattle.imago_access.proofs.Running.{holds_loose, ran_driver}
use Rattle.imago_access.proofs.Units.{layer_aligned}
use Rattle.imago_access.specs.declared.driver_model.DriverModel.{Ghosts}
use Rattle.imago_access.specs.declared.driver_model.LayersBelowModel.{Ghosts as GhostsBelow}

pub zero_wider : (offset n start m : ℕ) → offset ≤ start → start + m ≤ offset + n → (p : ℕ) (v : Value) → GivesZero start m p v → GivesZero offset n p v
zero_wider offset n start m from to p v gave = ((omega (arith, from, gave.0.0), omega (arith, to, gave.0.1)), gave.1)

pub bytes_zero : (offset n start : ℕ) (bytes : List ℕ) → ((i : ℕ) → i < length bytes → slice_index bytes i ≡ 0) → offset ≤ start → start + length bytes ≤ offset + n → (p : ℕ) (v : Value) → GivesBytes start bytes p v → GivesZero offset n p v
bytes_zero offset n start bytes zeroes from to p v gave = ((omega (arith, from, gave.2), omega (arith, to, gave.1, gave.2)), gave.3 ∙ ap byte (zeroes gave.0 gave.1))

pub zeroes_long : (count : ℕ) (bytes : List ℕ) → bytes ≡ replicate count 0 → length bytes ≡ count
zeroes_long count bytes is = ap (length {A = ℕ}) is ∙ length-replicate count 0

pub zeroes_zero : (count : ℕ) (bytes : List ℕ) → bytes ≡ replicate count 0 → (i : ℕ) → i < length bytes → slice_index bytes i ≡ 0
zeroes_zero count bytes is i lt = ap (λ (z : List ℕ). slice_index z i) is ∙ get_or-replicate count i 0 0 (omega (arith, lt, zeroes_long count bytes is))

zero_taken : (old new : Layer) (guest n : ℕ) → Wrote old new guest (replicate n 0) → (i : ℕ) → i < n → TakesByte 0 (old.held (guest + i)) (old.cell (guest + i)) (new.held (guest + i)) (new.cell (guest + i))
zero_taken old new guest n wrote i lt =
    let long : length (replicate n 0) ≡ n = zeroes_long n (replicate n 0) refl in
    subst (λ (z : ℕ). TakesByte z (old.held (guest + i)) (old.cell (guest + i)) (new.held (guest + i)) (new.cell (guest + i))) (zeroes_zero n (replicate n 0) refl i (omega (arith, lt, long))) (wrote.range i (omega (arith, lt, long)))

pub wrote_none : (layer : Layer) (guest : ℕ) → Wrote layer layer guest (replicate 0 0)
wrote_none layer guest = record { keeps_layer_state = record { fixed = refl; size = refl; unspent = refl; failed = λ f. f }; writable_location = refl; range = λ i lt. absurd (omega (arith, lt)); others = λ p out. (refl, refl) }

pub wrote_more : (a b c : Layer) (guest k m : ℕ) → Wrote a b guest (replicate k 0) → Wrote b c (guest + k) (replicate m 0) → Wrote a c guest (replicate (k + m) 0)
wrote_more a b c guest k m first second =
    let first_long : length (replicate k 0) ≡ k = zeroes_long k (replicate k 0) refl in
    let second_long : length (replicate m 0) ≡ m = zeroes_long m (replicate m 0) refl in
    let long : length (replicate (k + m) 0) ≡ k + m = zeroes_long (k + m) (replicate (k + m) 0) refl in
    record {
      keeps_layer_state = like_both a b c first.keeps_layer_state second.keeps_layer_state;
      writable_location = second.writable_location ∙ first.writable_location;
      range = λ i lt. subst (λ (z : ℕ). TakesByte z (a.held (guest + i)) (a.cell (guest + i)) (c.held (guest + i)) (c.cell (guest + i))) (sym (zeroes_zero (k + m) (replicate (k + m) 0) refl i lt)) (elim (cases_lt i k) [
        | inl low ↦
            let stays = second.others (guest + i) (inl (omega (arith, low))) in
            rw (stays.0, stays.1) (zero_taken a b guest k first i low)
        | inr high ↦
            let j = i - k in
            let is : guest + k + j ≡ guest + i = omega (arith, high) in
            let stayed = first.others (guest + i) (inr (omega (arith, high, first_long))) in
            let took = subst (λ (p : ℕ). TakesByte 0 (b.held p) (b.cell p) (c.held p) (c.cell p)) is (zero_taken b c (guest + k) m second j (omega (arith, high, lt, long))) in
            subst (λ (h : Held). TakesByte 0 h (a.cell (guest + i)) (c.held (guest + i)) (c.cell (guest + i))) stayed.1 (subst (λ (x : Cell). TakesByte 0 (b.held (guest + i)) x (c.held (guest + i)) (c.cell (guest + i))) stayed.0 took)
      ]);
      others = λ p out.
          let before = first.others p (elim out [ inl low ↦ inl low | inr past ↦ inr (omega (arith, past, long, first_long)) ]) in
          let after = second.others p (elim out [ inl low ↦ inl (omega (arith, low)) | inr past ↦ inr (omega (arith, past, long, second_long)) ]) in
          (after.0 ∙ before.0, after.1 ∙ before.1);
    }

pub zeroes_wider : (offset n start m : ℕ) → offset ≤ start → start + m ≤ offset + n → (p : ℕ) (v : Value) → GivesBytes start (replicate m 0) p v → GivesBytes offset (replicate n 0) p v
zeroes_wider offset n start m from to p v gave =
    let short : length (replicate m 0) ≡ m = zeroes_long m (replicate m 0) refl in
    let long : length (replicate n 0) ≡ n = zeroes_long n (replicate n 0) refl in
    let i = p - offset in
    let is : p ≡ offset + i = omega (arith, from, gave.2) in
    let lt : i < length (replicate n 0) = omega (arith, from, to, short, long, gave.1, gave.2) in
    (i, lt, is, gave.3 ∙ ap byte (zeroes_zero m (replicate m 0) refl gave.0 gave.1 ∙ sym (zeroes_zero n (replicate n 0) refl i lt)))

pub zeroes_loose : (unit offset n k : ℕ) (mid new : Layer) → k ≤ n → ((p : ℕ) → IsApart unit offset n p → mid.held p ≡ loose) → Wrote mid new offset (replicate k 0) → (p : ℕ) → IsApart unit offset n p → new.held p ≡ loose
zeroes_loose unit offset n k mid new most near wrote p apart =
    let long : length (replicate k 0) ≡ k = zeroes_long k (replicate k 0) refl in
    (wrote.others p (out_wider offset n offset (length (replicate k 0)) p (omega arith) (omega (arith, long, most)) (apart_out unit offset n p apart))).1 ∙ near p apart

-- An error of one piece of a write to a mapping, seen from the entry.
pub mapped_later : (entry mid : Layer) (guest place n done m : ℕ) (olds mids news : List StorageState) → mid.fixed ≡ entry.fixed → mid.size ≡ entry.size → mid.writable_location ≡ entry.writable_location → entry.failed ≡ false → mid.failed ≡ false → 0 < unit_of_layer entry
    → done + m ≤ n → Pairs IsLater olds mids → (e : Fault) → MappedCause mid (guest + done) (place + done) m mids news e → MappedCause entry guest place n olds news e
mapped_later entry mid guest place n done m olds mids news fixed size home ran runs positive inside later Outdated h = (
  omega (arith, h.0, inside),
  λ mapped. h.1 (
    mapped.0,
    λ i lt.
        let there : place + (done + i) ≡ place + done + i = omega arith in
        ap (λ (f : ℕ → Option (ℕ × ℕ)). f (guest + done + i)) home ∙ subst (λ (p : ℕ). entry.writable_location p ≡ Some (mapped.0, place + done + i)) (omega arith) (subst (λ (q : ℕ). entry.writable_location (guest + (done + i)) ≡ Some (mapped.0, q)) there (mapped.1 (done + i) (omega (arith, lt, inside)))),
  ),
)
mapped_later entry mid guest place n done m olds mids news fixed size home ran runs positive inside later e h =
    part_cause_later [] entry mid guest n (guest + done) m olds mids news fixed size ran runs positive (omega arith) (omega (arith, inside)) later (λ _. ⊥) (λ _. ⊥) e (λ none. none) h

past_zero : (layer : Layer) (below : List Layer) (p : ℕ) → layer.size ≤ p → at (layer ∷ below) p ≡ byte 0
past_zero layer below p past = ap (λ (t : Bool). if t then through (layer.cell p) (at below p) else byte 0) (le-ltb p layer.size past)

pub zero_stays : (below : List Layer) (old new : Layer) (offset n : ℕ) → new.size ≡ old.size → IsBetween (GivesZero offset n) below old new → (p : ℕ) → at (old ∷ below) p ≡ byte 0 → at (new ∷ below) p ≡ byte 0
zero_stays below old new offset n size between p was = elim (cases_lt p old.size) [
  | inl inside ↦ elim (between p inside) [ inl same ↦ same ∙ was | inr gave ↦ gave.1 ]
  | inr past ↦ past_zero new below p (omega (arith, size, past))
]

-- Zeroes of the parts before, and those of one more part.
pub zeroes_more : (below : List Layer) (old new : Layer) (offset done count gap n : ℕ) → new.size ≡ old.size → IsBetween (GivesZero gap n) below old new → ((p : ℕ) → IsIn offset done p → at (old ∷ below) p ≡ byte 0)
    → ((p : ℕ) → IsIn (offset + done) count p → at (new ∷ below) p ≡ byte 0) → (p : ℕ) → IsIn offset (done + count) p → at (new ∷ below) p ≡ byte 0
zeroes_more below old new offset done count gap n size between before now p there = elim (cases_lt p (offset + done)) [
  | inl low ↦ zero_stays below old new gap n size between p (before p (there.0, low))
  | inr high ↦ now p (high, omega (arith, there.1))
]

module _ {D St B : Type 0} (g : Ghosts D St) (u : GhostsBelow B) where
  -- A zeroing by the driver itself, on an image without a prepared mapping.
  pub ran_zeroed : (free_loose : (d : D) → IsFree (g.layer d) → (p : ℕ) → (g.layer d).held p ≡ loose) (whole : Type 0) (offset n : ℕ) (a b : D) (x : B) → IsFree (g.layer a) → KeepsLayerState (g.layer a) (g.layer b) → MutatingCall g whole whole a b
      → (g.well_formed a → (below : List Layer) → whole → IsBetween (GivesZero offset n) below (g.layer a) (g.layer b))
      → (g.well_formed a → (below : List Layer) → KeepsCrashImages g below (GivesZero offset n) a b)
      → RangeChange g u whole (GivesZero offset n) (a, x) (b, x)
  ran_zeroed free_loose whole offset n a b x free like mutating_call values stops = ran_driver g u whole (GivesZero offset n) a b x like.size mutating_call
      (λ w i. holds_loose (at (u.layers_below x)) (g.layer b) (free_loose b (like.unspent ∙ free)))
      (λ w i. values i.is_well_formed (u.layers_below x) w)
      (λ i. stops i.is_well_formed (u.layers_below x))

  -- An error of a part, after calls that succeeded, is an error of the whole.
  pub cause_behind : (well_formed_is_usable : (d : D) → g.well_formed d → (g.layer d).failed ≡ false) (aligned : (d : D) → IsAlignment (g.layer d).fixed.req_align × IsAlignment (g.layer d).fixed.mem_align) (gives : ℕ → Value → Type 0) (offset n start m : ℕ) (a b : D) (x y : B) (news : List StorageState) (own_cause : List Layer → Fault → Type 0) (e : Fault)
      → offset ≤ start → start + m ≤ offset + n → RangeChange g u ⊤ gives (a, x) (b, y) → IsIntact g u a x
      → PartCause (u.layers_below y) (g.layer b) start m (own_cause (u.layers_below y)) (files g b ++ u.files_of_layers_below y) news e → PartCause (u.layers_below x) (g.layer a) offset n (own_cause (u.layers_below x)) (files g a ++ u.files_of_layers_below x) news e
  cause_behind well_formed_is_usable aligned gives offset n start m a b x y news own_cause e from to first i h =
      let same : u.layers_below y ≡ u.layers_below x = (first.lookup_call.stays tt i.is_coherent).0 in
      part_cause_later (u.layers_below x) (g.layer a) (g.layer b) offset n start m (files g a ++ u.files_of_layers_below x) (files g b ++ u.files_of_layers_below y) news
      first.mutating_call.fixed first.size (well_formed_is_usable a i.is_well_formed) (well_formed_is_usable b (first.intact tt i).is_well_formed) (layer_aligned g.layer aligned a).positive from to
      (pairs_append IsLater (files g a) (files g b) (u.files_of_layers_below x) (u.files_of_layers_below y) first.mutating_call.counts_not_fallen first.lookup_call.counts_not_fallen)
      (own_cause (u.layers_below x)) (own_cause (u.layers_below x)) e (λ c. c)
      (subst (λ (below : List Layer). PartCause below (g.layer b) start m (own_cause below) (files g b ++ u.files_of_layers_below y) news e) same h)

-- The effect on a chain's disk of a zeroing of the whole range.
module _ {D St : Type 0} (g : Ghosts D St) (free_loose : (d : D) → IsFree (g.layer d) → (p : ℕ) → (g.layer d).held p ≡ loose)
    (old new : D × List D) (offset n : ℕ) (was_free : IsFree (g.layer old.0)) (is_free : IsFree (g.layer new.0)) where
  pub zero_ok : (unit : ℕ) (result : Result (Unit {0}) Fault) → change_refusal unit (g.layer old.0) offset n ≡ None
      → (IsIntactChain g old → OnOk result ((p : ℕ) → IsIn offset n p → at (g.layer new.0 ∷ map g.layer old.1) p ≡ byte 0))
      → ChainRangeChange g (HadNoResourceError result) (GivesZero offset n) old new → IsIntactChain g old
      → OnOk result (Unless (n ≡ 0) (Stays (chain_disk g.layer old) (chain_disk g.layer new)) (Changes Steps.ToZero (chain_disk g.layer old) (chain_disk g.layer new) offset n))
  zero_ok unit (Ok x) allowed shown ran i =
      disk_step (map g.layer old.1) (map g.layer new.1) (g.layer old.0) (g.layer new.0) (ran.lookup_call.stays tt i.is_coherent).0 ran.size (free_loose old.0 was_free) (free_loose new.0 is_free)
      (GivesZero offset n) Steps.ToZero offset n (allowed_inside unit (g.layer old.0) offset n allowed) (λ p v gave. gave.0) (ran.values tt i) (shown i)
  zero_ok unit (Err e) allowed shown ran i = tt

  pub zero_err : (result : Result (Unit {0}) Fault) (call : Call) → offset_of call ≡ offset → length_of call ≡ n → ((p : ℕ) (was : Value) → Gives (at (map g.layer old.1)) call p was (byte 0))
      → ChainRangeChange g (HadNoResourceError result) (GivesZero offset n) old new → IsIntactChain g old
      → IfErr result (λ e. IsNotResourceError e → PartlyDone (below_of g.layer old) call (chain_disk g.layer old) (chain_disk g.layer new))
  zero_err (Ok x) call from long given ran i = tt
  zero_err (Err e) call from long given ran i = λ not_resource_error.
      disk_partly (map g.layer old.1) (map g.layer new.1) (g.layer old.0) (g.layer new.0) (ran.lookup_call.stays not_resource_error i.is_coherent).0 ran.size (free_loose old.0 was_free) (free_loose new.0 is_free)
      (GivesZero offset n) call (ran.values not_resource_error i)
      (λ p v gave. subst (λ (o : ℕ). IsIn o (length_of call) p) (sym from) (subst (λ (m : ℕ). IsIn offset m p) (sym long) gave.0))
      (λ p v gave. subst (Gives (at (map g.layer old.1)) call p (at (g.layer old.0 ∷ map g.layer old.1) p)) (sym gave.1) (given p (at (g.layer old.0 ∷ map g.layer old.1) p)))

-- Commits of a top image to the layer below it: the copy, layer by layer.
use Rattle.std.proofs.Common.{◌≡◌, ◌⊎◌, refl, inl, inr, ℕ, ◌+◌, ◌-◌, ◌<◌, ◌≤◌, List, ◌∷◌, length, slice_index, true, false, arith, sym, ◌∙◌, ap, subst, map}
use Rattle.std.specs.Prelude.{⊤, IsTrue, Result, Ok, Err, IfErr}
use Rattle.std.proofs.lemmas.Result.{IfErr-weaker}
use Rattle.std.proofs.lemmas.Bool.{cases_lt, le-ltb}
use Rattle.imago_storage.specs.Disk.{Value, byte}
use Rattle.imago_storage.specs.Steps.{Step, write, done}
use Rattle.imago_storage.specs.declared.fault.Fault.{Fault}
use Rattle.imago_storage.specs.declared.fault.Fault.TheVariants.{Memory, Storage}
use Rattle.imago_access.specs.declared.driver_model.DriverModel.{Ghosts}
use Rattle.imago_access.specs.Layer.{Layer, Cell, Fixed, own, unmapped, through, KeepsLayerState}
use Rattle.imago_access.specs.Layers.{chain}
use Rattle.imago_access.specs.Chain.{at}
use Rattle.imago_access.specs.ChainCalls.{ChainFails, OwnCause}
use Rattle.imago_access.specs.Committing.{GivesOwn, TakesOwn, MayCopyDown, CopiesDown, CopyDownCause, OwnReadCause, IsFailedOrSound, IsOwnRun}
use Rattle.imago_access.specs.Failing.{Fails}
use Rattle.imago_access.specs.Files.{Pairs, IsLater, HadNoResourceError, files, files_of}
use Rattle.imago_access.specs.Going.{LookupCall, MutatingCall}
use Rattle.imago_access.specs.RunCalls.{MarksTopFailed}
use Rattle.imago_access.specs.Running.{IsIntactChain, ChainRangeChange, below_ghosts, below_of, chain_disk}
use Rattle.imago_access.specs.Stops.{GivesBytes}
use Rattle.imago_access.proofs.ChangeCauses.{barrier_on}
use Rattle.imago_access.proofs.Discarding.{like_both}
use Rattle.imago_access.proofs.FilePairs.{pairs_append, later_all_both, faultless_all_both}
use Rattle.imago_access.proofs.Holding.{at_inside}
use Rattle.imago_access.proofs.ImageCauses.{failed_after, failed_left, failed_right}
use Rattle.imago_access.proofs.Looking.{looked_both, looked_weaker}
use Rattle.imago_access.proofs.Running.{ran_same, ran_both, ran_gives}

-- Values. The next layer has changed where the top has a value of its own, and only there.
pub through_stays : (c : Cell) (x y : Value) → (x ≡ y) ⊎ (c ≡ own x) → through c x ≡ through c y
through_stays (own v) x y how = refl
through_stays unmapped x y how = elim how [ inl same ↦ same | inr is ↦ absurd (cc is) ]

through_taken : (c : Cell) (x y : Value) → (x ≡ y) ⊎ (c ≡ own x) → ((v : Value) → c ≡ own v → x ≡ v) → x ≡ through c y
through_taken (own v) x y how taken = taken v refl
through_taken unmapped x y how taken = elim how [ inl same ↦ same | inr is ↦ absurd (cc is) ]

pub own_value : (v w : Value) → own v ≡ own w → v ≡ w
own_value v w same = cc same

-- The disk over a changed next layer.
pub over_stays : (top : Layer) (news olds : List Layer) (p : ℕ) → p < top.size → (at news p ≡ at olds p) ⊎ (top.cell p ≡ own (at news p)) → at (top ∷ news) p ≡ at (top ∷ olds) p
over_stays top news olds p inside how = at_inside top news p inside ∙ through_stays (top.cell p) (at news p) (at olds p) how ∙ sym (at_inside top olds p inside)

-- A next layer that has all values of the top's own shows the disk.
pub over_taken : (top : Layer) (news olds : List Layer) (p : ℕ) → p < top.size → (at news p ≡ at olds p) ⊎ (top.cell p ≡ own (at news p)) → ((v : Value) → top.cell p ≡ own v → at news p ≡ v) → at news p ≡ at (top ∷ olds) p
over_taken top news olds p inside how taken = through_taken (top.cell p) (at news p) (at olds p) how taken ∙ sym (at_inside top olds p inside)

pub at_past : (layer : Layer) (below : List Layer) (p : ℕ) → layer.size ≤ p → at (layer ∷ below) p ≡ byte 0
at_past layer below p past = rw (le-ltb p layer.size past) refl

-- One more run of a copy.
pub taken_more : (top : Layer) (offset n : ℕ) (olds news : List Layer) → ((p : ℕ) → p < offset + n → (at news p ≡ at olds p) ⊎ (top.cell p ≡ own (at news p)))
    → ((i : ℕ) (v : Value) → i < n → top.cell (offset + i) ≡ own v → at news (offset + i) ≡ v)
    → TakesOwn top offset olds → TakesOwn top (offset + n) news
taken_more top offset n olds news between run before p v inside is = elim (cases_lt p offset) [
  | inl low ↦ elim (between p inside) [
    | inl same ↦ same ∙ before p v low is
    | inr gave ↦ own_value (at news p) v (sym gave ∙ is)
  ]
  | inr high ↦
      let i = p - offset in
      let place : offset + i ≡ p = omega (arith, high) in
      subst (λ (q : ℕ). at news q ≡ v) place (run i v (omega (arith, high, inside)) (subst (λ (q : ℕ). top.cell q ≡ own v) (sym place) is))
]

pub like_same : (layer : Layer) → KeepsLayerState layer layer
like_same layer = record { fixed = refl; size = refl; unspent = refl; failed = λ f. f }

module _ {D St : Type 0} (g : Ghosts D St) where
  pub went_both : (whole : Type 0) (a b c : D) → MutatingCall g ⊤ ⊤ a b → MutatingCall g whole whole b c → MutatingCall g whole whole a c
  went_both whole a b c first second = record {
    fixed = second.fixed ∙ first.fixed;
    failed = λ f. second.failed (first.failed f);
    counts_not_fallen = later_all_both (files g a) (files g b) (files g c) first.counts_not_fallen second.counts_not_fallen;
    faults = λ h. faultless_all_both (files g a) (files g b) (files g c) (first.faults tt) (second.faults h);
    safely = λ h s. second.safely h (first.safely tt s);
    stays_stable = λ l. second.stays_stable (first.stays_stable l);
    excess_refcount = λ h s n. second.excess_refcount h (first.safely tt s) n ∙ first.excess_refcount tt s n;
  }

  pub went_looked : (whole : Type 0) (a b : D) → LookupCall g whole a b → MutatingCall g whole whole a b
  went_looked whole a b looked = record {
    fixed = looked.keeps_layer_state.fixed;
    failed = looked.keeps_layer_state.failed;
    counts_not_fallen = looked.counts_not_fallen;
    faults = looked.faults;
    safely = looked.safely;
    stays_stable = looked.stays_stable;
    excess_refcount = looked.excess_refcount;
  }

  -- Later counts of the files of two chains.
  pub chains_later : (a b : D) (x y : D × List D) → Pairs IsLater (files g a) (files g b) → Pairs IsLater (files g x.0) (files g y.0) → Pairs IsLater (files_of g x.1) (files_of g y.1)
      → Pairs IsLater (files_of g (a ∷ chain x)) (files_of g (b ∷ chain y))
  chains_later a b x y top next rest =
      pairs_append IsLater (files g a) (files g b) (files_of g (chain x)) (files_of g (chain y)) top (pairs_append IsLater (files g x.0) (files g y.0) (files_of g x.1) (files_of g y.1) next rest)

  -- A value of the top's own at a later moment is one at entry.
  pub gives_own_on : (a b : D) → LookupCall g ⊤ a b → (p : ℕ) (v : Value) → GivesOwn g b p v → GivesOwn g a p v
  gives_own_on a b looked p v gave = λ see.
      let stays = looked.stays tt see in
      subst (λ (l : Layer). (p < l.size) × (l.cell p ≡ own v)) stays.0 (gave stays.1)

  -- A read of the top that ends the copy, or one without a run of its own.
  pub copies_unwritten : {T : Type 0} (result : Result T Fault) (a b : D) (x : D × List D) → LookupCall g (HadNoResourceError result) a b → IfErr result (Fails g a b) → (g.coherent a → IfErr result (OwnReadCause (g.layer a)))
      → CopiesDown g result a b x x
  copies_unwritten result a b x looked failed cause = record {
    top = looked;
    next = ran_same g (below_ghosts g) (HadNoResourceError result) (GivesOwn g a) x.0 x.1;
    keeps_layer_state = like_same (g.layer x.0);
    usable = λ marks. inr (λ i. i.is_well_formed);
    failed = IfErr-weaker result (Fails g a b) (ChainFails g (a, chain x) (b, chain x)) (λ e h. failed_left (files g a) (files g b) (files_of g (chain x)) (files_of g (chain x)) e h) failed;
    cause = λ may. IfErr-weaker result (OwnReadCause (g.layer a)) (CopyDownCause g a x) (λ e h. inl h) (cause may.is_coherent);
  }

  -- After a change of a chain, its top has failed or is well-formed.
  pub usable_after : {T : Type 0} (result : Result T Fault) (gives : ℕ → Value → Type 0) (x y : D × List D) → ChainRangeChange g (HadNoResourceError result) gives x y → IfErr result (MarksTopFailed g (below_ghosts g) x y) → IsFailedOrSound g x y
  usable_after (Ok v) gives x y ran marked = λ marks. inr (λ i. (ran.intact tt i).is_well_formed)
  usable_after (Err Memory) gives x y ran marked = λ marks. marked marks
  usable_after (Err Storage) gives x y ran marked = λ marks. (marked marks).1
  usable_after (Err e) gives x y ran marked = λ marks. inr (λ i. (ran.intact tt i).is_well_formed)

  -- A run that was read in the top, and written to the next layer.
  pub copies_written : {T : Type 0} (result : Result T Fault) (a b : D) (x y : D × List D) (offset : ℕ) (bytes : List ℕ) → LookupCall g ⊤ a b
      → offset + length bytes ≤ (g.layer a).size → (g.coherent a → (i : ℕ) → i < length bytes → (g.layer a).cell (offset + i) ≡ own (byte (slice_index bytes i)))
      → ChainRangeChange g (HadNoResourceError result) (GivesBytes offset bytes) x y → KeepsLayerState (g.layer x.0) (g.layer y.0) → IfErr result (MarksTopFailed g (below_ghosts g) x y)
      → IfErr result (ChainFails g x y) → (IsIntactChain g x → IfErr result (OwnCause g (write offset bytes) x y))
      → CopiesDown g result a b x y
  copies_written result a b x y offset bytes looked inside is_own ran like marked failed cause = record {
    top = looked_weaker g ⊤ (HadNoResourceError result) a b (λ h. tt) looked;
    next = ran_gives g (below_ghosts g) (HadNoResourceError result) (GivesBytes offset bytes) (GivesOwn g a) x.0 y.0 x.1 y.1
        (λ p v gave see. (omega (arith, gave.1, gave.2, inside), ap (λ (q : ℕ). (g.layer a).cell q) gave.2 ∙ is_own see gave.0 gave.1 ∙ ap own (sym gave.3))) ran;
    keeps_layer_state = like;
    usable = usable_after result (GivesBytes offset bytes) x y ran marked;
    failed = IfErr-weaker result (ChainFails g x y) (ChainFails g (a, chain x) (b, chain y)) (λ e h. failed_right (files g a) (files g b) (files_of g (chain x)) (files_of g (chain y)) e looked.counts_not_fallen h) failed;
    cause = λ may. IfErr-weaker result (OwnCause g (write offset bytes) x y) (CopyDownCause g a x)
        (λ e h. inr (record { mid = x; after = y; offset = offset; bytes = bytes; inside = inside; are_own = is_own; before = ran_same g (below_ghosts g) ⊤ (GivesOwn g a) x.0 x.1; cause = h })) (cause may.next);
  }

  -- The value of a success doesn't matter.
  pub copies_ok : {S T : Type 0} (v : S) (w : T) (a b : D) (x y : D × List D) → CopiesDown g (Ok v) a b x y → CopiesDown g (Ok w) a b x y
  copies_ok v w a b x y h = record { top = h.top; next = h.next; keeps_layer_state = h.keeps_layer_state; usable = h.usable; failed = tt; cause = λ may. tt }

  pub copies_err : {S T : Type 0} (e : Fault) (a b : D) (x y : D × List D) → CopiesDown {T = S} g (Err e) a b x y → CopiesDown {T = T} g (Err e) a b x y
  copies_err e a b x y h = record { top = h.top; next = h.next; keeps_layer_state = h.keeps_layer_state; usable = h.usable; failed = h.failed; cause = h.cause }

  -- The layers below changed only where the top has a value of its own.
  pub copies_between : {T : Type 0} (result : Result T Fault) (a b : D) (x y : D × List D) → HadNoResourceError result → CopiesDown g result a b x y → MayCopyDown g a x
      → (p : ℕ) → p < (g.layer a).size → (at (map g.layer (chain y)) p ≡ at (map g.layer (chain x)) p) ⊎ ((g.layer a).cell p ≡ own (at (map g.layer (chain y)) p))
  copies_between result a b x y whole fill may p inside =
      let rest : map g.layer y.1 ≡ map g.layer x.1 = (fill.next.lookup_call.stays whole may.next.is_coherent).0 in
      let here : at (map g.layer (chain y)) p ≡ at (g.layer y.0 ∷ map g.layer x.1) p = ap (λ (ls : List Layer). at (g.layer y.0 ∷ ls) p) rest in
      elim (fill.next.values whole may.next p (omega (arith, inside, may.size))) [
        | inl same ↦ inl (here ∙ same)
        | inr gave ↦ inr ((gave may.is_coherent).1 ∙ ap own (sym here))
      ]

  -- A run that was written is taken.
  pub run_taken : (n : ℕ) (a b : D) (x y : D × List D) (offset : ℕ) (bytes : List ℕ) → CopiesDown g (Ok n) a b x y → length bytes ≡ n → 0 < n → offset + n ≤ (g.layer a).size
      → (g.coherent a → (i : ℕ) → i < n → (g.layer a).cell (offset + i) ≡ own (byte (slice_index bytes i)))
      → (IsIntactChain g x → Step (below_of g.layer x) (chain_disk g.layer x) (write offset bytes) done (chain_disk g.layer y))
      → MayCopyDown g a x → TakesOwn (g.layer a) offset (map g.layer (chain x)) → TakesOwn (g.layer a) (offset + n) (map g.layer (chain y))
  run_taken n a b x y offset bytes fill long some inside is_own step may before =
      taken_more (g.layer a) offset n (map g.layer (chain x)) (map g.layer (chain y)) (λ p low. copies_between (Ok n) a b x y tt fill may p (omega (arith, low, inside)))
      (λ i v lt is. elim (step may.next) [
        | inl idle ↦ absurd (omega (arith, idle.0, long, some))
        | inr changed ↦
            let here : offset + i - offset ≡ i = omega arith in
            let read = changed.1.range (offset + i) (omega arith, omega (arith, lt, long)) in
            read ∙ ap (λ (j : ℕ). byte (slice_index bytes j)) here ∙ own_value (byte (slice_index bytes i)) v (sym (is_own may.is_coherent i lt) ∙ is)
      ]) before

  -- A run that the top reads through is taken.
  pub run_through : (a : D) (x : D × List D) (offset n : ℕ) → ((g.layer a).fixed.blank ≡ unmapped → (i : ℕ) → i < n → (g.layer a).cell (offset + i) ≡ unmapped)
      → MayCopyDown g a x → TakesOwn (g.layer a) offset (map g.layer (chain x)) → TakesOwn (g.layer a) (offset + n) (map g.layer (chain x))
  run_through a x offset n free may before =
      taken_more (g.layer a) offset n (map g.layer (chain x)) (map g.layer (chain x)) (λ p low. inl refl) (λ i v lt is. absurd (cc (sym (free may.backed i lt) ∙ is))) before

  module _ (well_formed_is_coherent : (d : D) → g.well_formed d → g.coherent d) (well_formed_is_usable : (d : D) → g.well_formed d → (g.layer d).failed ≡ false) where
    -- The conditions of a copy after a part of it.
    pub may_on : {T : Type 0} (result : Result T Fault) (a b : D) (x y : D × List D) → HadNoResourceError result → CopiesDown g result a b x y → MayCopyDown g a x → MayCopyDown g b y
    may_on result a b x y whole first may =
        let intact = first.next.intact whole may.next in
        record {
          is_coherent = (first.top.stays whole may.is_coherent).1;
          backed = ap (λ (f : Fixed). f.blank) first.top.keeps_layer_state.fixed ∙ may.backed;
          size = omega (arith, may.size, first.top.keeps_layer_state.size, first.keeps_layer_state.size);
          usable = barrier_on (g.layer x.0) (g.layer y.0) first.keeps_layer_state.fixed (well_formed_is_usable x.0 may.next.is_well_formed) (well_formed_is_usable y.0 intact.is_well_formed) ∙ may.usable;
          next = intact;
        }

    -- A copy, and then more of it.
    pub copies_both : {S T : Type 0} (v : S) (result : Result T Fault) (a b c : D) (x y z : D × List D) → CopiesDown g (Ok v) a b x y → CopiesDown g result b c y z → CopiesDown g result a c x z
    copies_both v result a b c x y z first second = record {
      top = looked_both g well_formed_is_coherent (HadNoResourceError result) a b c first.top second.top;
      next = ran_both g (below_ghosts g) (HadNoResourceError result) (GivesOwn g a) (GivesOwn g b) (GivesOwn g a) x.0 y.0 z.0 x.1 y.1 z.1 (λ p w gave. gave) (gives_own_on a b first.top) first.next second.next;
      keeps_layer_state = like_both (g.layer x.0) (g.layer y.0) (g.layer z.0) first.keeps_layer_state second.keeps_layer_state;
      usable = λ marks. elim (second.usable (subst (λ (f : Fixed). IsTrue f.marks_failed) (sym first.keeps_layer_state.fixed) marks)) [ inl failed ↦ inl failed | inr sound ↦ inr (λ i. sound (first.next.intact tt i)) ];
      failed = IfErr-weaker result (ChainFails g (b, chain y) (c, chain z)) (ChainFails g (a, chain x) (c, chain z))
          (λ e h. failed_after (files_of g (a ∷ chain x)) (files_of g (b ∷ chain y)) (files_of g (c ∷ chain z)) e (chains_later a b x y first.top.counts_not_fallen first.next.mutating_call.counts_not_fallen first.next.lookup_call.counts_not_fallen) h) second.failed;
      cause = λ may. IfErr-weaker result (CopyDownCause g b y) (CopyDownCause g a x)
          (λ e h. elim h [
            | inl read ↦ inl (subst (λ (l : Layer). OwnReadCause l e) (first.top.stays tt may.is_coherent).0 read)
            | inr wrote ↦ inr (record {
              mid = wrote.mid;
              after = wrote.after;
              offset = wrote.offset;
              bytes = wrote.bytes;
              inside = omega (arith, wrote.inside, first.top.keeps_layer_state.size);
              are_own = λ see. let stays = first.top.stays tt see in subst (λ (l : Layer). IsOwnRun l wrote.offset wrote.bytes (length wrote.bytes) true) stays.0 (wrote.are_own stays.1);
              before = ran_both g (below_ghosts g) ⊤ (GivesOwn g a) (GivesOwn g b) (GivesOwn g a) x.0 y.0 wrote.mid.0 x.1 y.1 wrote.mid.1 (λ p w gave. gave) (gives_own_on a b first.top) first.next wrote.before;
              cause = wrote.cause;
            })
          ]) (second.cause (may_on (Ok v) a b x y tt first may));
    }

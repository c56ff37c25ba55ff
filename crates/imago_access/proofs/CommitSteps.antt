-- The steps of a commit together.
use Rattle.std.proofs.Common.{true, false, length, ◌≡◌, ◌⊎◌, refl, inl, inr, ℕ, ◌<◌, List, ◌∷◌, arith, sym, ◌∙◌, ap, subst, map}
use Rattle.std.specs.Prelude.{⊤, IsTrue, None, Result, Ok, Err, OnOk, IfErr}
use Rattle.std.proofs.lemmas.Bool.{cases_lt}
use Rattle.std.proofs.lemmas.Result.{IfErr-weaker}
use Rattle.imago_storage.specs.Disk.{Value}
use Rattle.imago_storage.specs.Passing.{UnrefusedCrashImages}
use Rattle.imago_storage.specs.declared.fault.Fault.{Fault}
use Rattle.imago_access.specs.declared.driver_model.DriverModel.{Ghosts}
use Rattle.imago_access.specs.Layer.{Layer, Fixed, own, hold_of, loose, IsFree}
use Rattle.imago_access.specs.Layers.{chain}
use Rattle.imago_access.specs.Chain.{at}
use Rattle.imago_access.specs.ChainCalls.{ChainStays, ChainFails}
use Rattle.imago_access.specs.Committing.{GivesOwn, CopiesDown, MayCopyDown, TakesOwnTo, IsSettled, IsCommittable, BelowTakesDisk, IsPairBelow, IsPairAbove, CommitsDown, EmptiesTop, IsFilled, IsFlushedFirst, pair_refusal, CommitDownCause, EmptyCause, IsOwnRun, OwnReadCause, SparesMemory}
use Rattle.imago_access.specs.Failing.{Fails}
use Rattle.imago_access.specs.Files.{IsNotResourceError, HadNoResourceError, files, files_of}
use Rattle.imago_access.specs.Going.{MarksFailed}
use Rattle.imago_access.specs.Refusals.{unusable_fault}
use Rattle.imago_access.specs.Running.{IsIntactChain, ChainRangeChange, below_ghosts}
use Rattle.imago_access.specs.Stops.{GivesBelow, IsMeant, Left, shown}
use Rattle.imago_access.proofs.Committing.{like_same, went_both, went_looked, chains_later, over_stays, over_taken, at_past}
use Rattle.imago_access.proofs.CommitEnds.{commit_allowed}
use Rattle.imago_access.proofs.CommitValues.{allowed_writable, allowed_size, allowed_top, allowed_usable, pair_shows, above_shows}
use Rattle.imago_access.proofs.Discarding.{like_both}
use Rattle.imago_access.proofs.Emptying.{Flushes, flush_same, ran_flush, flush_resource}
use Rattle.imago_access.proofs.FilePairs.{is_later_same, kept_all_same, later_all_same, later_all_both}
use Rattle.imago_access.proofs.ImageCauses.{failed_after, failed_left}
use Rattle.imago_access.proofs.Running.{holds_loose, ran_same, ran_gives, ran_weaker}
use Rattle.imago_access.proofs.Stopping.{passes_none, passes_weaker}

on_success : (result : Result (Unit {0}) Fault) (P : Type 0) → P → OnOk result P
on_success (Ok v) P holds = holds
on_success (Err e) P holds = tt

both_on_success : (result : Result (Unit {0}) Fault) (P Q : Type 0) → OnOk result P → Q → OnOk result (P × Q)
both_on_success (Ok v) P Q p q = (p, q)
both_on_success (Err e) P Q p q = tt

module _ {D St : Type 0} (g : Ghosts D St) (free_loose : (d : D) → IsFree (g.layer d) → (p : ℕ) → (g.layer d).held p ≡ loose)
    (well_formed_is_coherent : (d : D) → g.well_formed d → g.coherent d) (well_formed_is_usable : (d : D) → g.well_formed d → (g.layer d).failed ≡ false) where
  -- A disk with the same values, while nothing is held.
  chain_kept_disk : (a b : D) (xs ys : List D) → IsFree (g.layer a) → IsFree (g.layer b) → (g.layer b).size ≡ (g.layer a).size
      → ((p : ℕ) → p < (g.layer a).size → at (map g.layer (b ∷ ys)) p ≡ at (map g.layer (a ∷ xs)) p) → ChainStays g (a, xs) (b, ys)
  chain_kept_disk a b xs ys free is_free size value = record {
    size = size;
    value = value;
    hold = λ p lt. ap hold_of (free_loose b is_free p ∙ sym (free_loose a free p));
  }

  -- The first flush failed.
  pub commits_unflushed : (e : Fault) (a a1 : D) (x : D × List D) → Flushes g (Err e) a a1 → IsFree (g.layer a) → CommitsDown g (Err e) (a, chain x) (a1, chain x)
  commits_unflushed e a a1 x f free = record {
    disk = λ i whole. chain_kept_disk a a1 (chain x) (chain x) free (f.keeps_layer_state.unspent ∙ free) f.keeps_layer_state.size
        (λ p inside. ap (λ (l : Layer). at (l ∷ map g.layer (chain x)) p) (flush_same g well_formed_is_coherent (Err e) a a1 f whole i.chain.is_well_formed));
    below = λ i. tt;
    moments = λ i. (
      a1,
      (a1, chain x),
      record {
        flush = f.crash_images i.chain.is_well_formed (map g.layer (chain x));
        top_kept = kept_all_same (files g a1);
        next = passes_none (IsPairBelow g (a, chain x) (g.image a1).bytes x) (g.image x.0) (g.image x.0) refl (refl, refl, refl, refl);
        below_kept = refl;
        settled = inr (refl, refl, refl, refl);
        top = passes_none (IsPairAbove g (a, chain x) (a1, chain x)) (g.image a1) (g.image a1) refl (refl, refl, refl, refl);
        counts_before = f.mutating_call.counts_not_fallen.0;
        counts_after = is_later_same (g.image a1);
        order = record {
          fills = inr refl;
          empties = inr (refl, refl, refl, refl);
          keeps_layer_state = like_same (g.layer x.0);
        };
      },
      tt,
      λ none whole. absurd (flush_resource (g.layer a) (files g a) (files g a1) e (allowed_top (g.layer a) (g.layer x.0) (commit_allowed (g.layer a) (g.layer x.0) (map g.layer x.1) none)) (f.cause i.chain.is_well_formed) whole),
    );
    top = f.keeps_layer_state;
    mutating_call = f.mutating_call;
    next = ran_same g (below_ghosts g) (IsNotResourceError e) (GivesOwn g a) x.0 x.1;
    next_keeps_layer_state = like_same (g.layer x.0);
    committable = λ i whole. record { chain = (ran_flush g well_formed_is_coherent (Err e) a a1 (chain x) f).intact whole i.chain; next = i.next };
    below_is_clean = λ i whole clean. clean;
    flushed = λ i. tt;
  }

  -- The first flush succeeded.
  module _ (a a1 : D) (x : D × List D) (v : Unit {0}) (f : Flushes g (Ok v) a a1) (free : IsFree (g.layer a)) (allowed : pair_refusal (g.layer a) (g.layer x.0) ≡ None) where
    pub may_copy : IsCommittable g (a, chain x) → MayCopyDown g a1 x
    may_copy i = record {
      is_coherent = well_formed_is_coherent a1 (f.mutating_call.safely tt i.chain.is_well_formed);
      backed = ap (λ (s : Fixed). s.blank) f.keeps_layer_state.fixed ∙ i.chain.backed;
      size = omega (arith, allowed_size (g.layer a) (g.layer x.0) allowed, f.keeps_layer_state.size);
      usable = allowed_usable (g.layer a) (g.layer x.0) allowed;
      next = i.next.0;
    }

    first_same : IsCommittable g (a, chain x) → g.layer a1 ≡ g.layer a
    first_same i = flush_same g well_formed_is_coherent (Ok v) a a1 f tt i.chain.is_well_formed

    first_meant : IsCommittable g (a, chain x) → IsMeant (g.layer a) (g.image a1).bytes
    first_meant i = subst (λ (l : Layer). IsMeant l (g.image a1).bytes) (first_same i) (f.written i.chain.is_well_formed free)

    -- A value of the top's own, seen from the entry.
    first_gives : g.coherent a → (p : ℕ) (w : Value) → GivesOwn g a1 p w → (p < (g.layer a).size) × ((g.layer a).cell p ≡ own w)
    first_gives see p w gave =
        let stays = f.coherent see in
        subst (λ (l : Layer). (p < l.size) × (l.cell p ≡ own w)) stays.0 (gave stays.1)

    -- The next layer was filled, in part or as a whole.
    module _ {T : Type 0} (result : Result T Fault) (a2 : D) (y : D × List D) (fill : CopiesDown g result a1 a2 x y) where
      filled_next : ChainRangeChange g (HadNoResourceError result) (GivesOwn g a) x y
      filled_next = ran_gives g (below_ghosts g) (HadNoResourceError result) (GivesOwn g a1) (GivesOwn g a) x.0 y.0 x.1 y.1 (λ p w gave see. first_gives see p w gave) fill.next

      -- The crash images of the next layer's file.
      filled_pairs : IsCommittable g (a, chain x) → UnrefusedCrashImages (IsPairBelow g (a, chain x) (g.image a1).bytes x) (g.image x.0) (g.image y.0)
      filled_pairs i =
          let see = well_formed_is_coherent a i.chain.is_well_formed in
          passes_weaker (Left (map g.layer x.1) (g.layer x.0) (g.image x.0).bytes g.sound (g.layer x.0).size (g.layer x.0).size (GivesOwn g a)) (IsPairBelow g (a, chain x) (g.image a1).bytes x) (g.image x.0) (g.image y.0)
          (λ file left. record {
            left = left;
            shows = pair_shows (g.layer a) (g.layer x.0) (map g.layer x.1) (g.image a1).bytes (g.image x.0).bytes g.sound (GivesOwn g a) file (first_meant i) i.next.1 (allowed_size (g.layer a) (g.layer x.0) allowed) (λ p w gave. (gave see).1) left;
          }) (filled_next.crash_images i.next.0)

      module _ (whole : HadNoResourceError result) (i : IsCommittable g (a, chain x)) where
        filled_same : g.layer a2 ≡ g.layer a
        filled_same = (fill.top.stays whole (may_copy i).is_coherent).0 ∙ first_same i

        filled_free : IsFree (g.layer a2)
        filled_free = fill.top.keeps_layer_state.unspent ∙ f.keeps_layer_state.unspent ∙ free

        filled_rest : map g.layer y.1 ≡ map g.layer x.1
        filled_rest = (fill.next.lookup_call.stays whole i.next.0.is_coherent).0

        filled_at : (p : ℕ) → at (map g.layer (chain y)) p ≡ at (g.layer y.0 ∷ map g.layer x.1) p
        filled_at p = ap (λ (ls : List Layer). at (g.layer y.0 ∷ ls) p) filled_rest

        -- The layers below changed only where the top has a value of its own.
        filled_between : (p : ℕ) → (at (map g.layer (chain y)) p ≡ at (map g.layer (chain x)) p) ⊎ ((p < (g.layer a).size) × ((g.layer a).cell p ≡ own (at (map g.layer (chain y)) p)))
        filled_between p = elim (cases_lt p (g.layer x.0).size) [
          | inl inside ↦ elim (filled_next.values whole i.next.0 p inside) [
            | inl same ↦ inl (filled_at p ∙ same)
            | inr gave ↦
                let here = gave (well_formed_is_coherent a i.chain.is_well_formed) in
                inr (here.0, here.1 ∙ ap own (sym (filled_at p)))
          ]
          | inr past ↦ inl (at_past (g.layer y.0) (map g.layer y.1) p (omega (arith, past, fill.next.size)) ∙ sym (at_past (g.layer x.0) (map g.layer x.1) p past))
        ]

        filled_cell : (p : ℕ) → (at (map g.layer (chain y)) p ≡ at (map g.layer (chain x)) p) ⊎ ((g.layer a).cell p ≡ own (at (map g.layer (chain y)) p))
        filled_cell p = elim (filled_between p) [ inl same ↦ inl same | inr gave ↦ inr gave.1 ]

        filled_disk : (p : ℕ) → p < (g.layer a).size → at (g.layer a ∷ map g.layer (chain y)) p ≡ at (map g.layer (a ∷ chain x)) p
        filled_disk p inside = over_stays (g.layer a) (map g.layer (chain y)) (map g.layer (chain x)) p inside (filled_cell p)

        filled_intact : IsIntactChain g (a2, chain y)
        filled_intact =
            let next = fill.next.intact whole i.next.0 in
            record {
              is_well_formed = fill.top.safely whole (f.mutating_call.safely tt i.chain.is_well_formed);
              is_coherent = (well_formed_is_coherent y.0 next.is_well_formed, next.is_coherent);
              backed = ap (λ (s : Fixed). s.blank) fill.top.keeps_layer_state.fixed ∙ (may_copy i).backed;
              held = holds_loose (at (map g.layer (chain y))) (g.layer a2) (free_loose a2 filled_free);
            }

        -- The next layer has all values of the top's own.
        module _ (taken : TakesOwnTo g (g.layer a1).size a1 x y) where
          filled_taken : (p : ℕ) → p < (g.layer a).size → at (map g.layer (chain y)) p ≡ at (map g.layer (a ∷ chain x)) p
          filled_taken p inside = over_taken (g.layer a) (map g.layer (chain y)) (map g.layer (chain x)) p inside (filled_cell p)
              (λ w is. taken (may_copy i) p w (omega (arith, inside, f.keeps_layer_state.size)) (ap (λ (l : Layer). l.cell p) (first_same i) ∙ is))

          filled_below : BelowTakesDisk g (a, chain x) (a2, chain y)
          filled_below = record {
            taken = filled_taken;
            rest = λ p past. elim (filled_between p) [ inl same ↦ same | inr gave ↦ absurd (omega (arith, past, gave.0)) ];
          }

    -- The fill failed.
    pub commits_filled : (e : Fault) (a2 : D) (y : D × List D) → CopiesDown {T = Unit {0}} g (Err e) a1 a2 x y
        → (IsIntactChain g x → unusable_fault (g.layer x.0) ≡ None → IsNotResourceError e → IsSettled g y.0) → CommitsDown g (Err e) (a, chain x) (a2, chain y)
    commits_filled e a2 y fill settled = record {
      disk = λ i whole. chain_kept_disk a a2 (chain x) (chain y) free (filled_free (Err e) a2 y fill whole i) (fill.top.keeps_layer_state.size ∙ f.keeps_layer_state.size)
          (λ p inside. ap (λ (l : Layer). at (l ∷ map g.layer (chain y)) p) (filled_same (Err e) a2 y fill whole i) ∙ filled_disk (Err e) a2 y fill whole i p inside);
      below = λ i. tt;
      moments = λ i. (
        a1,
        (a2, chain y),
        record {
          flush = f.crash_images i.chain.is_well_formed (map g.layer (chain x));
          top_kept = (fill.top.unchanged_but_faults f.has_no_dirty_data).0;
          next = filled_pairs (Err e) a2 y fill i;
          below_kept = refl;
          settled = inr (refl, refl, refl, refl);
          top = passes_none (IsPairAbove g (a, chain x) (a2, chain y)) (g.image a2) (g.image a2) refl (refl, refl, refl, refl);
          counts_before = f.mutating_call.counts_not_fallen.0;
          counts_after = is_later_same (g.image a2);
          order = record {
            fills = inl (record { meant = first_meant i; faults = (f.mutating_call.faults tt).0 });
            empties = inr (refl, refl, refl, refl);
            keeps_layer_state = fill.keeps_layer_state;
          };
        },
        tt,
        λ none whole. record {
          meant = first_meant i;
          same = filled_same (Err e) a2 y fill whole i;
          reads = λ p inside. ap (λ (l : Layer). at (l ∷ map g.layer (chain y)) p) (filled_same (Err e) a2 y fill whole i) ∙ filled_disk (Err e) a2 y fill whole i p inside;
        },
      );
      top = like_both (g.layer a) (g.layer a1) (g.layer a2) f.keeps_layer_state fill.top.keeps_layer_state;
      mutating_call = went_both g (IsNotResourceError e) a a1 a2 f.mutating_call (went_looked g (IsNotResourceError e) a1 a2 fill.top);
      next = filled_next (Err e) a2 y fill;
      next_keeps_layer_state = fill.keeps_layer_state;
      committable = λ i whole. record { chain = filled_intact (Err e) a2 y fill whole i; next = (fill.next.intact whole i.next.0, (settled i.next.0 (allowed_usable (g.layer a) (g.layer x.0) allowed) whole).written) };
      below_is_clean = λ i whole clean. ((settled i.next.0 (allowed_usable (g.layer a) (g.layer x.0) allowed) whole).has_no_dirty_data, (fill.next.lookup_call.unchanged_but_faults clean.1).1);
      flushed = λ i. tt;
    }

    -- The top is emptied over the filled layer.
    module _ (u : Unit {0}) (a2 a3 : D) (y : D × List D) (fill : CopiesDown g (Ok u) a1 a2 x y) (taken : TakesOwnTo g (g.layer a1).size a1 x y)
        (settled : IsIntactChain g x → unusable_fault (g.layer x.0) ≡ None → IsSettled g y.0) (result : Result (Unit {0}) Fault) (empty : EmptiesTop g result a2 a3) where
      under_disk : IsCommittable g (a, chain x) → (p : ℕ) → p < (g.layer a).size → at (map g.layer (chain y)) p ≡ at (map g.layer (a ∷ chain x)) p
      under_disk i = filled_taken (Ok u) a2 y fill tt i taken

      over_disk : IsCommittable g (a, chain x) → (p : ℕ) → p < (g.layer a).size → at (map g.layer (a2 ∷ chain y)) p ≡ at (map g.layer (a ∷ chain x)) p
      over_disk i p inside = ap (λ (l : Layer). at (l ∷ map g.layer (chain y)) p) (filled_same (Ok u) a2 y fill tt i) ∙ filled_disk (Ok u) a2 y fill tt i p inside

      second_size : (g.layer a2).size ≡ (g.layer a).size
      second_size = fill.top.keeps_layer_state.size ∙ f.keeps_layer_state.size

      emptied_disk : IsCommittable g (a, chain x) → HadNoResourceError result → (p : ℕ) → p < (g.layer a).size → at (map g.layer (a3 ∷ chain y)) p ≡ at (map g.layer (a ∷ chain x)) p
      emptied_disk i whole p inside = elim ((empty.range_change (chain y)).values whole (filled_intact (Ok u) a2 y fill tt i) p (omega (arith, inside, second_size))) [
        | inl same ↦ same ∙ over_disk i p inside
        | inr gave ↦ gave.1 ∙ under_disk i p inside
      ]

      second_meant : IsCommittable g (a, chain x) → IsMeant (g.layer a2) (g.image a2).bytes
      second_meant i =
          let kept = (fill.top.unchanged_but_faults f.has_no_dirty_data).0 in
          subst (λ (l : Layer). IsMeant l (g.image a2).bytes) (sym (filled_same (Ok u) a2 y fill tt i)) (subst (IsMeant (g.layer a)) (sym kept.0.0.bytes) (first_meant i))

      emptied_pairs : IsCommittable g (a, chain x) → UnrefusedCrashImages (IsPairAbove g (a, chain x) (a2, chain y)) (g.image a2) (g.image a3)
      emptied_pairs i =
          let same = filled_same (Ok u) a2 y fill tt i in
          passes_weaker (Left (map g.layer (chain y)) (g.layer a2) (g.image a2).bytes g.sound (g.layer a2).size (g.layer a2).size (GivesBelow (map g.layer (chain y)) 0 (g.layer a2).size)) (IsPairAbove g (a, chain x) (a2, chain y)) (g.image a2) (g.image a3)
          (λ file left. record {
            left = left;
            shows = λ p inside. subst (λ (l : Layer). shown (map g.layer (chain y)) l.fixed.means file p ≡ at (map g.layer (a ∷ chain x)) p) same
                (above_shows (g.layer a2) (map g.layer (chain y)) (g.image a2).bytes g.sound (at (map g.layer (a ∷ chain x))) file (second_meant i) (λ q low. over_disk i q (omega (arith, low, second_size))) (λ q low. under_disk i q (omega (arith, low, second_size))) left p (omega (arith, inside, second_size)));
          }) ((empty.range_change (chain y)).crash_images (filled_intact (Ok u) a2 y fill tt i))

      -- The emptied top is as the call leaves it.
      pub commits_emptied : CommitsDown g result (a, chain x) (a3, chain y)
      commits_emptied = record {
        disk = λ i whole. chain_kept_disk a a3 (chain x) (chain y) free (empty.keeps_layer_state.unspent ∙ filled_free (Ok u) a2 y fill tt i) (empty.keeps_layer_state.size ∙ second_size) (emptied_disk i whole);
        below = λ i. on_success result (BelowTakesDisk g (a, chain x) (a3, chain y)) (record { taken = under_disk i; rest = (filled_below (Ok u) a2 y fill tt i taken).rest });
        moments = λ i. (
          a1,
          (a2, chain y),
          record {
            flush = f.crash_images i.chain.is_well_formed (map g.layer (chain x));
            top_kept = (fill.top.unchanged_but_faults f.has_no_dirty_data).0;
            next = filled_pairs (Ok u) a2 y fill i;
            below_kept = refl;
            settled = inl (settled i.next.0 (allowed_usable (g.layer a) (g.layer x.0) allowed));
            top = emptied_pairs i;
            counts_before = f.mutating_call.counts_not_fallen.0;
            counts_after = empty.mutating_call.counts_not_fallen.0;
            order =
                let flushed : IsFlushedFirst g a a1 = record { meant = first_meant i; faults = (f.mutating_call.faults tt).0 } in
                let filled : IsFilled g (a, chain x) (a2, chain y) =
                record { same = filled_same (Ok u) a2 y fill tt i; deeper = filled_rest (Ok u) a2 y fill tt i } in
                record { fills = inl flushed; empties = inl (flushed, filled); keeps_layer_state = fill.keeps_layer_state };
          },
          empty.vacates (filled_intact (Ok u) a2 y fill tt i).is_well_formed (chain y),
          λ none whole. record {
            meant = first_meant i;
            same = filled_same (Ok u) a2 y fill tt i;
            reads = over_disk i;
          },
        );
        top = like_both (g.layer a) (g.layer a2) (g.layer a3) (like_both (g.layer a) (g.layer a1) (g.layer a2) f.keeps_layer_state fill.top.keeps_layer_state) empty.keeps_layer_state;
        mutating_call = went_both g (HadNoResourceError result) a a2 a3 (went_both g ⊤ a a1 a2 f.mutating_call (went_looked g ⊤ a1 a2 fill.top)) empty.mutating_call;
        next = ran_weaker g (below_ghosts g) ⊤ (HadNoResourceError result) (GivesOwn g a) x.0 y.0 x.1 y.1 (λ h. tt) (filled_next (Ok u) a2 y fill);
        next_keeps_layer_state = fill.keeps_layer_state;
        committable = λ i whole. record { chain = (empty.range_change (chain y)).intact whole (filled_intact (Ok u) a2 y fill tt i); next = (fill.next.intact tt i.next.0, (settled i.next.0 (allowed_usable (g.layer a) (g.layer x.0) allowed)).written) };
        below_is_clean = λ i whole clean. ((settled i.next.0 (allowed_usable (g.layer a) (g.layer x.0) allowed)).has_no_dirty_data, (fill.next.lookup_call.unchanged_but_faults clean.1).1);
        flushed = λ i. both_on_success result (IsSettled g a3) (IsSettled g y.0) (empty.flushed (filled_intact (Ok u) a2 y fill tt i).is_well_formed) (settled i.next.0 (allowed_usable (g.layer a) (g.layer x.0) allowed));
      }

      pub failed_emptied : IfErr result (ChainFails g (a, chain x) (a3, chain y))
      failed_emptied = IfErr-weaker result (Fails g a2 a3) (ChainFails g (a, chain x) (a3, chain y))
          (λ e h. failed_after (files_of g (a ∷ chain x)) (files_of g (a2 ∷ chain y)) (files_of g (a3 ∷ chain y)) e
          (chains_later g a a2 x y (later_all_both (files g a) (files g a1) (files g a2) f.mutating_call.counts_not_fallen fill.top.counts_not_fallen) fill.next.mutating_call.counts_not_fallen fill.next.lookup_call.counts_not_fallen)
          (failed_left (files g a2) (files g a3) (files_of g (chain y)) (files_of g (chain y)) e h)) empty.failed

      pub cause_emptied : IsCommittable g (a, chain x) → IfErr result (CommitDownCause g a x (chain y))
      cause_emptied i =
          let same = filled_same (Ok u) a2 y fill tt i in
          IfErr-weaker result (EmptyCause g a2 (map g.layer (chain y))) (CommitDownCause g a x (chain y)) (λ e h. inr (inr (record { mid = a2; same = same; cause = h })))
          (empty.cause (filled_intact (Ok u) a2 y fill tt i).is_well_formed (subst (λ (l : Layer). IsTrue l.fixed.writable) (sym same) (allowed_writable (g.layer a) (g.layer x.0) allowed)) (chain y))

    -- The errors of the fill, seen from the entry.
    pub failed_filled : (e : Fault) (a2 : D) (y : D × List D) → CopiesDown {T = Unit {0}} g (Err e) a1 a2 x y → ChainFails g (a, chain x) (a2, chain y) e
    failed_filled e a2 y fill = failed_after (files_of g (a ∷ chain x)) (files_of g (a1 ∷ chain x)) (files_of g (a2 ∷ chain y)) e
        (chains_later g a a1 x x f.mutating_call.counts_not_fallen (later_all_same (files g x.0)) (later_all_same (files_of g x.1))) fill.failed

    pub cause_filled : (e : Fault) (a2 : D) (y : D × List D) → CopiesDown {T = Unit {0}} g (Err e) a1 a2 x y → IsCommittable g (a, chain x) → CommitDownCause g a x (chain y) e
    cause_filled e a2 y fill i = inr (inl (elim (fill.cause (may_copy i)) [
      | inl read ↦ inl (subst (λ (l : Layer). OwnReadCause l e) (first_same i) read)
      | inr wrote ↦ inr (record {
        mid = wrote.mid;
        after = wrote.after;
        offset = wrote.offset;
        bytes = wrote.bytes;
        inside = omega (arith, wrote.inside, f.keeps_layer_state.size);
        are_own = λ see. let stays = f.coherent see in subst (λ (l : Layer). IsOwnRun l wrote.offset wrote.bytes (length wrote.bytes) true) stays.0 (wrote.are_own stays.1);
        before = ran_gives g (below_ghosts g) ⊤ (GivesOwn g a1) (GivesOwn g a) x.0 wrote.mid.0 x.1 wrote.mid.1 (λ p w gave see. first_gives see p w gave) wrote.before;
        cause = wrote.cause;
      })
    ]))

    pub spared_filled : (e : Fault) (a2 : D) (y : D × List D) → CopiesDown {T = Unit {0}} g (Err e) a1 a2 x y → y ≡ x → SparesMemory g (a, chain x) (a2, chain y) e
    spared_filled e a2 y fill same is marks = elim fill.top.cut [
      | inl failed ↦ inl failed
      | inr known ↦ inr (
        ap (λ (z : D × List D). chain z) same,
        λ w.
            let see = f.coherent (well_formed_is_coherent a w) in
            (known.safely (f.mutating_call.safely tt w), (known.seen see.1).0 ∙ see.0),
      )
    ]

  pub spared_unflushed : (e : Fault) (a a1 : D) (x : D × List D) → Flushes g (Err e) a a1 → SparesMemory g (a, chain x) (a1, chain x) e
  spared_unflushed e a a1 x f is marks = elim (subst (MarksFailed g a a1) is f.marks_failed marks) [
    | inl failed ↦ inl failed
    | inr spared ↦ inr (refl, λ w. (spared.known.safely w, (spared.known.seen (well_formed_is_coherent a w)).0))
  ]

  pub cause_unflushed : (e : Fault) (a a1 : D) (x : D × List D) → Flushes g (Err e) a a1 → pair_refusal (g.layer a) (g.layer x.0) ≡ None → IsCommittable g (a, chain x) → CommitDownCause g a x (chain x) e
  cause_unflushed e a a1 x f allowed i = inl (flush_resource (g.layer a) (files g a) (files g a1) e (allowed_top (g.layer a) (g.layer x.0) allowed) (f.cause i.chain.is_well_formed))

  pub failed_unflushed : (e : Fault) (a a1 : D) (x : D × List D) → Flushes g (Err e) a a1 → ChainFails g (a, chain x) (a1, chain x) e
  failed_unflushed e a a1 x f = failed_left (files g a) (files g a1) (files_of g (chain x)) (files_of g (chain x)) e f.failed

-- The mark of the top after a commit that failed.
use Rattle.std.proofs.Common.{◌≡◌, refl, inl, inr, List, ◌∷◌, ◌++◌, sym, ◌∙◌, ap, subst, true, false}
use Rattle.std.specs.Prelude.{Bool, ◌||◌, IsTrue, Result, Ok, Err, IfErr}
use Rattle.imago_storage.specs.State.{StorageState}
use Rattle.imago_storage.specs.Passing.{UnrefusedCrashImages}
use Rattle.imago_storage.specs.declared.fault.Fault.{Fault}
use Rattle.imago_storage.specs.declared.fault.Fault.TheVariants.{Memory, Storage}
use Rattle.imago_access.specs.declared.driver_model.DriverModel.{Ghosts}
use Rattle.imago_access.specs.Layer.{Layer, Fixed, KeepsLayerState}
use Rattle.imago_access.specs.ChainCalls.{ChainFails}
use Rattle.imago_access.specs.Committing.{CommitsDown, IsPairAbove, IsResourceError, MarksAfter, MarksCommitFailed, SparesMemory}
use Rattle.imago_access.specs.Files.{Pairs, IsLater, files, files_of, ImageCause}
use Rattle.imago_access.specs.Going.{IsMarkedFailed}
use Rattle.imago_access.specs.Stops.{MakesNone}
use Rattle.imago_access.proofs.Discarding.{like_both}

or_left : (a b : Bool) → a ≡ true → a || b ≡ true
or_left true b is = refl
or_left false b is = absurd (cc is)

or_right : (a b : Bool) → b ≡ true → a || b ≡ true
or_right true b is = refl
or_right false b is = is

module _ {D St : Type 0} (g : Ghosts D St) where
  marked_like : (b c : D) → IsMarkedFailed g b c → KeepsLayerState (g.layer b) (g.layer c)
  marked_like b c mark = record {
    fixed = ap (λ (l : Layer). l.fixed) mark.layer;
    size = ap (λ (l : Layer). l.size) mark.layer;
    unspent = ap (λ (l : Layer). l.unspent) mark.layer;
    failed = λ f. ap (λ (l : Layer). l.failed) mark.layer ∙ or_left (g.layer b).failed (g.layer b).fixed.marks_failed f;
  }

  marked_failed : (b c : D) → IsMarkedFailed g b c → IsTrue (g.layer b).fixed.marks_failed → IsTrue (g.layer c).failed
  marked_failed b c mark marks = ap (λ (l : Layer). l.failed) mark.layer ∙ or_right (g.layer b).failed (g.layer b).fixed.marks_failed marks

  marked_files : (b c : D) → IsMarkedFailed g b c → files g c ≡ files g b
  marked_files b c mark = rw (mark.unasked.0, mark.unasked.1) refl

  marked_commits : (e : Fault) (old : D × List D) (b c : D) (ys : List D) → IsResourceError e → IsMarkedFailed g b c → CommitsDown g (Err e) old (b, ys) → CommitsDown g (Err e) old (c, ys)
  marked_commits e old b c ys resource mark h =
      let like = marked_like b c mark in
      record {
        disk = λ i whole. absurd (resource whole);
        below = λ i. tt;
        moments = λ i.
            let m = h.moments i in (
              m.0,
              m.1,
              record {
                flush = m.2.flush;
                top_kept = m.2.top_kept;
                next = m.2.next;
                below_kept = m.2.below_kept;
                settled = elim m.2.settled [ inl settled ↦ inl settled | inr none ↦ inr (subst (MakesNone (g.image m.1.0)) (sym mark.unasked.0) none) ];
                top = subst (UnrefusedCrashImages (IsPairAbove g old m.1) (g.image m.1.0)) (sym mark.unasked.0) m.2.top;
                counts_before = m.2.counts_before;
                counts_after = subst (IsLater (g.image m.1.0)) (sym mark.unasked.0) m.2.counts_after;
                order = record {
                  fills = m.2.order.fills;
                  empties = elim m.2.order.empties [
                    | inl filled ↦ inl filled
                    | inr none ↦ inr (subst (MakesNone (g.image m.1.0)) (sym mark.unasked.0) none)
                  ];
                  keeps_layer_state = m.2.order.keeps_layer_state;
                };
              },
              tt,
              λ none whole. absurd (resource whole),
            );
        top = like_both (g.layer old.0) (g.layer b) (g.layer c) h.top like;
        mutating_call = record {
          fixed = like.fixed ∙ h.mutating_call.fixed;
          failed = λ f. like.failed (h.mutating_call.failed f);
          counts_not_fallen = subst (Pairs IsLater (files g old.0)) (sym (marked_files b c mark)) h.mutating_call.counts_not_fallen;
          faults = λ whole. absurd (resource whole);
          safely = λ whole. absurd (resource whole);
          stays_stable = λ l. mark.stays_stable (h.mutating_call.stays_stable l);
          excess_refcount = λ whole. absurd (resource whole);
        };
        next = h.next;
        next_keeps_layer_state = h.next_keeps_layer_state;
        committable = λ i whole. absurd (resource whole);
        below_is_clean = λ i whole. absurd (resource whole);
        flushed = λ i. tt;
      }

  same_commits : (result : Result (Unit {0}) Fault) (old : D × List D) (b c : D) (ys : List D) → c ≡ b → CommitsDown g result old (b, ys) → CommitsDown g result old (c, ys)
  same_commits result old b c ys same h = subst (λ (d : D). CommitsDown g result old (d, ys)) (sym same) h

  pub commits_after : (result : Result (Unit {0}) Fault) (begun : Bool) (old : D × List D) (b c : D) (ys : List D) → MarksAfter g result begun b c → CommitsDown g result old (b, ys) → CommitsDown g result old (c, ys)
  commits_after (Ok v) begun old b c ys mark h = same_commits (Ok v) old b c ys mark h
  commits_after (Err Storage) begun old b c ys mark h = marked_commits Storage old b c ys (λ m. m) mark h
  commits_after (Err Memory) true old b c ys mark h = marked_commits Memory old b c ys (λ m. m) mark h
  commits_after (Err Memory) false old b c ys mark h = same_commits (Err Memory) old b c ys mark h
  commits_after (Err e) begun old b c ys mark h = same_commits (Err e) old b c ys mark h

  files_after : (result : Result (Unit {0}) Fault) (begun : Bool) (b c : D) → MarksAfter g result begun b c → files g c ≡ files g b
  files_after (Ok v) begun b c mark = ap (files g) mark
  files_after (Err Storage) begun b c mark = marked_files b c mark
  files_after (Err Memory) true b c mark = marked_files b c mark
  files_after (Err Memory) false b c mark = ap (files g) mark
  files_after (Err e) begun b c mark = ap (files g) mark

  pub failed_after_mark : (result : Result (Unit {0}) Fault) (begun : Bool) (old : D × List D) (b c : D) (ys : List D) → MarksAfter g result begun b c → IfErr result (ChainFails g old (b, ys)) → IfErr result (ChainFails g old (c, ys))
  failed_after_mark result begun old b c ys mark h =
      subst (λ (fs : List StorageState). IfErr result (ImageCause (files_of g (old.0 ∷ old.1)) (fs ++ files_of g ys))) (sym (files_after result begun b c mark)) h

  pub marks_after : (result : Result (Unit {0}) Fault) (begun : Bool) (old : D × List D) (b c : D) (ys : List D) → (g.layer b).fixed ≡ (g.layer old.0).fixed → MarksAfter g result begun b c
      → (begun ≡ false → IfErr result (SparesMemory g old (b, ys))) → IfErr result (MarksCommitFailed g old (c, ys))
  marks_after (Ok v) begun old b c ys fixed mark spared = tt
  marks_after (Err Storage) begun old b c ys fixed mark spared = record {
    storage = λ is marks. marked_failed b c mark (subst (λ (f : Fixed). IsTrue f.marks_failed) (sym fixed) marks);
    memory = λ is. absurd (cc is);
  }
  marks_after (Err Memory) true old b c ys fixed mark spared = record {
    storage = λ is. absurd (cc is);
    memory = λ is marks. inl (marked_failed b c mark (subst (λ (f : Fixed). IsTrue f.marks_failed) (sym fixed) marks));
  }
  marks_after (Err Memory) false old b c ys fixed mark spared = record {
    storage = λ is. absurd (cc is);
    memory = subst (λ (d : D). SparesMemory g old (d, ys) Memory) (sym mark) (spared refl);
  }
  marks_after (Err e) begun old b c ys fixed mark spared = record {
    storage = λ is. absurd (cc is);
    memory = λ is. absurd (cc is);
  }

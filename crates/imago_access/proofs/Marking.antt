-- The failed state after an error, from a part of a change to the whole change.
use Rattle.std.proofs.Common.{◌≡◌, [], inl, inr, refl, ℕ, List, ◌∷◌, sym, subst}
use Rattle.std.specs.Prelude.{Option, Some, None, IsTrue, Bool, true, false, if◌then◌else◌}
use Rattle.imago_storage.specs.Calls.{IsFaultless}
use Rattle.imago_storage.specs.State.{StorageState, HasRisen}
use Rattle.imago_storage.specs.declared.fault.Fault.{Fault}
use Rattle.imago_storage.specs.declared.fault.Fault.TheVariants.{Failed, MissingData, Memory, Storage}
use Rattle.imago_access.specs.declared.driver_model.DriverModel.{Ghosts}
use Rattle.imago_access.specs.declared.driver_model.LayersBelowModel.{Ghosts as GhostsBelow}
use Rattle.imago_access.specs.Layer.{Layer, Fixed}
use Rattle.imago_access.specs.ChainLooks.{EndsReload}
use Rattle.imago_access.specs.Failing.{RefusesReload}
use Rattle.imago_access.specs.Files.{Pairs, IsNotResourceError, IsStale, SomeRose, files}
use Rattle.imago_access.specs.Going.{LookupCall, MarksFailed, MarksFailedOver, MarksSomeFailed, SomeMarkedFailed}
use Rattle.imago_access.specs.Refusals.{unusable_fault}
use Rattle.imago_access.specs.RunCalls.{DriverMarksFailed, MarksTopFailed}
use Rattle.imago_access.specs.Running.{IsIntact}
use Rattle.imago_access.specs.Spending.{GivenBack}
use Rattle.imago_access.proofs.FilePairs.{some_rose_behind}
use Rattle.imago_access.proofs.Looking.{seen_by}
use Rattle.imago_access.proofs.Running.{intact_by}

some_rose_since : (olds mids news : List StorageState) → Pairs IsFaultless olds mids → SomeRose olds news → SomeRose mids news
some_rose_since (old ∷ olds) (mid ∷ mids) (new ∷ news) none rose = elim rose [
  | inl first ↦ inl (subst (λ (n : ℕ). HasRisen n new.faults) (sym none.0.0) first)
  | inr more ↦ inr (some_rose_since olds mids news none.1 more)
]
some_rose_since (old ∷ olds) (mid ∷ mids) [] none rose = absurd rose
some_rose_since [] mids news none rose = absurd rose
some_rose_since (old ∷ olds) [] news none rose = absurd none

pub given_back_mild : {St : Type 0} (tag : St → ℕ) (state : Option St) (layer : Layer) (e : Fault) → GivenBack tag state layer e → IsNotResourceError e
given_back_mild tag None layer Memory given = absurd given
given_back_mild tag (Some s) layer Memory given = absurd given
given_back_mild tag None layer Storage given = absurd given
given_back_mild tag (Some s) layer Storage given = absurd given
given_back_mild tag state layer e given = tt

-- A layer that can't be used has another fault than `Storage`.
no_storage : (failed missing : Bool) → (if failed then Some Failed else if missing then Some MissingData else None) ≡ Some Storage → ⊥
no_storage true missing is = cc is
no_storage false true is = cc is
no_storage false false is = cc is

pub unusable_by_none : (layer : Layer) (e : Fault) → unusable_fault layer ≡ Some e → e ≡ Storage → ⊥
unusable_by_none layer e barred is = no_storage layer.failed layer.fixed.missing (subst (λ (f : Fault). unusable_fault layer ≡ Some f) is barred)

-- A layer whose files don't agree with what was read of them could be used before.
unbarred : (failed missing : Bool) (e : Fault) → IsStale e → ((f : Fault) → (if failed then Some Failed else if missing then Some MissingData else None) ≡ Some f → e ≡ f)
    → (if failed then Some Failed else if missing then Some MissingData else None) ≡ None
unbarred true missing e stale refused = absurd (subst IsStale (refused Failed refl) stale)
unbarred false true e stale refused = absurd (subst IsStale (refused MissingData refl) stale)
unbarred false false e stale refused = refl

module _ {D St : Type 0} (g : Ghosts D St) where
  -- The facts for the layer where a reload ended.
  pub ends_reload : (a b : D) (e : Fault) → RefusesReload g a b e → MarksFailed g a b e → (IsStale e → IsTrue (g.layer b).failed) → ((f : Fault) → unusable_fault (g.layer a) ≡ Some f → e ≡ f) → EndsReload g e a b
  ends_reload a b e cause marks failed refused = record {
    cause = cause;
    marks_failed = marks;
    failed = λ stale. (unbarred (g.layer a).failed (g.layer a).fixed.missing e stale refused, failed stale);
  }

  marks_on : (a b : D) → (g.layer b).fixed ≡ (g.layer a).fixed → IsTrue (g.layer a).fixed.marks_failed → IsTrue (g.layer b).fixed.marks_failed
  marks_on a b fixed marks = subst (λ (f : Fixed). IsTrue f.marks_failed) (sym fixed) marks

  pub plain_mild : (a b : D) (e : Fault) → IsNotResourceError e → MarksFailed g a b e
  plain_mild a b Memory not_resource_error = absurd not_resource_error
  plain_mild a b Storage not_resource_error = absurd not_resource_error
  plain_mild a b e not_resource_error = tt

  pub over_mild : (a b : D) (e : Fault) → IsNotResourceError e → MarksFailedOver g a b e
  over_mild a b Memory not_resource_error = absurd not_resource_error
  over_mild a b Storage not_resource_error = absurd not_resource_error
  over_mild a b e not_resource_error = tt

  pub over_plain : (a b : D) (e : Fault) → MarksFailed g a b e → MarksFailedOver g a b e
  over_plain a b Storage marked = λ marks. ((λ rose. marked marks), inl (marked marks))
  over_plain a b Memory marked = marked
  over_plain a b e marked = tt

  pub alone_mild : (a b : D) (e : Fault) → IsNotResourceError e → DriverMarksFailed g a b e
  alone_mild a b Memory not_resource_error = absurd not_resource_error
  alone_mild a b Storage not_resource_error = absurd not_resource_error
  alone_mild a b e not_resource_error = tt

  pub alone_failed : (a b : D) (e : Fault) → IsTrue (g.layer b).failed → DriverMarksFailed g a b e
  alone_failed a b Memory failed = λ marks. inl failed
  alone_failed a b Storage failed = λ marks. failed
  alone_failed a b e failed = tt

  pub alone_plain : (a b : D) (e : Fault) → MarksFailed g a b e → DriverMarksFailed g a b e
  alone_plain a b Storage marked = marked
  alone_plain a b Memory marked = λ marks. elim (marked marks) [ inl failed ↦ inl failed | inr spared ↦ inr (λ well_formed. spared.known.safely well_formed) ]
  alone_plain a b e marked = tt

  -- After a call that left the driver well-formed.
  pub alone_behind : (a b c : D) (e : Fault) → (g.layer b).fixed ≡ (g.layer a).fixed → (g.well_formed a → g.well_formed b) → DriverMarksFailed g b c e → DriverMarksFailed g a c e
  alone_behind a b c Storage fixed safely marked = λ marks. marked (marks_on a b fixed marks)
  alone_behind a b c Memory fixed safely marked = λ marks. elim (marked (marks_on a b fixed marks)) [ inl failed ↦ inl failed | inr on ↦ inr (λ well_formed. on (safely well_formed)) ]
  alone_behind a b c e fixed safely marked = tt

  pub alone_before : (a b c : D) (e : Fault) → (g.layer c).failed ≡ (g.layer b).failed → (g.well_formed b → g.well_formed c) → DriverMarksFailed g a b e → DriverMarksFailed g a c e
  alone_before a b c Storage same safely marked = λ marks. subst (λ (f : Bool). IsTrue f) (sym same) (marked marks)
  alone_before a b c Memory same safely marked = λ marks. elim (marked marks) [ inl failed ↦ inl (subst (λ (f : Bool). IsTrue f) (sym same) failed) | inr on ↦ inr (λ well_formed. safely (on well_formed)) ]
  alone_before a b c e same safely marked = tt

  -- A storage of the top layer failed; below, one of any layer failed after lookups.
  pub marked_top : (a b : D) (olds news : List D) (e : Fault) → (e ≡ Storage → SomeRose (files g a) (files g b)) → MarksFailed g a b e → MarksSomeFailed g (a ∷ olds) (b ∷ news) e
  marked_top a b olds news e rose marked = λ is. inl (rose is, subst (MarksFailed g a b) is marked)

  pub marked_behind : (whole : Type 0) (xs ys zs : List D) → Pairs (LookupCall g whole) xs ys → SomeMarkedFailed g ys zs → SomeMarkedFailed g xs zs
  marked_behind whole (x ∷ xs) (y ∷ ys) (z ∷ zs) looked marked = elim marked [
    | inl top ↦ inl (some_rose_behind (files g x) (files g y) (files g z) looked.0.counts_not_fallen top.0, λ marks. top.1 (marks_on x y looked.0.keeps_layer_state.fixed marks))
    | inr rest ↦ inr (marked_behind whole xs ys zs looked.1 rest)
  ]
  marked_behind whole (x ∷ xs) (y ∷ ys) [] looked marked = absurd marked
  marked_behind whole [] [] zs looked marked = absurd marked
  marked_behind whole [] (y ∷ ys) zs looked marked = absurd looked
  marked_behind whole (x ∷ xs) [] zs looked marked = absurd looked

-- The failed state of the top layer, after calls that also read the layers below.
module _ {D St B : Type 0} (g : Ghosts D St) (u : GhostsBelow B) where
  pub top_mild : (a b : D) (x y : B) (e : Fault) → IsNotResourceError e → MarksTopFailed g u (a, x) (b, y) e
  top_mild a b x y Memory not_resource_error = absurd not_resource_error
  top_mild a b x y Storage not_resource_error = absurd not_resource_error
  top_mild a b x y e not_resource_error = tt

  pub top_over : (a b : D) (x y : B) (e : Fault) → MarksFailedOver g a b e → MarksTopFailed g u (a, x) (b, y) e
  top_over a b x y Storage marked = λ marks. ((marked marks).0, elim (marked marks).1 [ inl failed ↦ inl failed | inr spared ↦ inr (λ i. spared.known.safely i.is_well_formed) ])
  top_over a b x y Memory marked = λ marks. elim (marked marks) [ inl failed ↦ inl failed | inr spared ↦ inr (λ i. spared.known.safely i.is_well_formed) ]
  top_over a b x y e marked = tt

  -- A call of the driver itself, after one that left it well-formed.
  pub top_alone : (a b c : D) (x y : B) (e : Fault) → (g.layer b).fixed ≡ (g.layer a).fixed → (IsIntact g u a x → g.well_formed b) → DriverMarksFailed g b c e → MarksTopFailed g u (a, x) (c, y) e
  top_alone a b c x y Storage fixed safely marked = λ marks. let failed = marked (marks_on g a b fixed marks) in ((λ rose. failed), inl failed)
  top_alone a b c x y Memory fixed safely marked = λ marks. elim (marked (marks_on g a b fixed marks)) [ inl failed ↦ inl failed | inr on ↦ inr (λ i. on (safely i)) ]
  top_alone a b c x y e fixed safely marked = tt

  -- After a call in which no storage failed.
  pub top_behind : (a b c : D) (x y z : B) (e : Fault) → (g.layer b).fixed ≡ (g.layer a).fixed → Pairs IsFaultless (files g a) (files g b) → (IsIntact g u a x → IsIntact g u b y)
      → MarksTopFailed g u (b, y) (c, z) e → MarksTopFailed g u (a, x) (c, z) e
  top_behind a b c x y z Storage fixed none intact marked = λ marks. let told = marked (marks_on g a b fixed marks) in
      ((λ rose. told.0 (some_rose_since (files g a) (files g b) (files g c) none rose)), elim told.1 [ inl failed ↦ inl failed | inr on ↦ inr (λ i. on (intact i)) ])
  top_behind a b c x y z Memory fixed none intact marked = λ marks. elim (marked (marks_on g a b fixed marks)) [ inl failed ↦ inl failed | inr on ↦ inr (λ i. on (intact i)) ]
  top_behind a b c x y z e fixed none intact marked = tt

pub top_by : {D St B C : Type 0} (f : B → C) (g : Ghosts D St) (u : GhostsBelow C) (a b : D) (x y : B) (e : Fault) → MarksTopFailed g (seen_by f u) (a, x) (b, y) e → MarksTopFailed g u (a, f x) (b, f y) e
top_by f g u a b x y Storage marked = λ marks. ((marked marks).0, elim (marked marks).1 [ inl failed ↦ inl failed | inr on ↦ inr (λ i. on (intact_by f g u a x i)) ])
top_by f g u a b x y Memory marked = λ marks. elim (marked marks) [ inl failed ↦ inl failed | inr on ↦ inr (λ i. on (intact_by f g u a x i)) ]
top_by f g u a b x y e marked = tt

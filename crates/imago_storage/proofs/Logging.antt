-- The effect of a call of a `LogStorage`, from that of the inner storage.
use Rattle.std.proofs.Common.{◌≡◌, ◌⊎◌, refl, inl, inr, ℕ, List, [], ◌∷◌, ◌++◌, arith, sym, ◌∙◌, ap, subst}
use Rattle.std.specs.Prelude.{◌+◌, true, length, Result, Ok, Err, OnOk, IfErr, IsErrAnd}
use Rattle.imago_storage.specs.State.{Shape, StorageState, HasRisen}
use Rattle.imago_storage.specs.Calls.{CountsNotFallen, NotResized, NotWritten, Refused, RequestsOne, ResizeRefused, UnlessUnsupported, ZeroingRefused}
use Rattle.imago_storage.specs.Log.{files_before, log_base, log_inner, log_requests, log_state, logged, Noted, replay}
use Rattle.imago_storage.specs.declared.fault.Fault.{Fault}
use Rattle.imago_storage.specs.declared.fault.Fault.TheVariants.{Memory, Unsupported}
use Rattle.imago_storage.specs.declared.log.LogStorage.{LogStorage}
use Rattle.imago_storage.specs.declared.log.Request.{Request}
use Rattle.imago_storage.proofs.Composing.{same-mixed}

-- The fault that `?` returns.
pub handed-on : {T : Type 0} (r : Result T Fault) (e fault : Fault) → IsErrAnd r (λ w. w ≡ e) → e ≡ fault → r ≡ Err fault
handed-on (Ok x) e fault told is = absurd told
handed-on (Err w) e fault told is = ap (λ (f : Fault). Err f) (told ∙ is)

pub handed-ok : {T : Type 0} (r : Result T Fault) (fault : Fault) (P : Type 0) → r ≡ Err fault → OnOk r P
handed-ok r fault P is = subst (λ z. OnOk z P) (sym is) tt

-- Memory for the log entry ran out: nothing was passed on.
module _ (base base' : List ℕ) (requests requests' : List Request) (n n' : ℕ) (s s' : StorageState) (same_base : base' ≡ base) (same_requests : requests' ≡ requests) (rose : HasRisen n n') (same : s' ≡ s) where
  full : Refused (logged base requests n s) (logged base' requests' n' s') Memory
  full =
      let count : s'.refusals ≡ s.refusals = ap (λ (z : StorageState). z.refusals) same in
      record {
        shape = ap (λ (z : StorageState). record z.shape { tells = true }) same;
        cause = ap (λ (z : StorageState). z.faults) same;
        refusals = record { not_fallen = omega (arith, count, rose.not_fallen); rose = λ fits. omega (arith, count, rose.rose (omega (arith, count))) };
        crash_image = ap (λ (b : List ℕ). replay b requests') same_base ∙ ap (replay base) same_requests;
        past_crash_images = ap (λ (b : List ℕ). files_before b requests') same_base ∙ ap (files_before base) same_requests;
      }

  pub full-later : CountsNotFallen (logged base requests n s) (logged base' requests' n' s')
  full-later = record { faults = omega (arith, ap (λ (z : StorageState). z.faults) same); refusals = full.refusals.not_fallen }

  full-not_written : (at : ℕ) (bytes : List ℕ) → NotWritten (logged base requests n s) (logged base' requests' n' s') at bytes Memory
  full-not_written at bytes =
      let long : length s'.bytes ≡ length s.bytes = ap (λ (z : StorageState). length z.bytes) same in
      record {
        refused = full;
        content = λ keeps. same-mixed s.bytes at bytes s'.bytes (ap (λ (z : StorageState). z.bytes) same);
        no_shorter = omega (arith, long);
        no_longer = omega (arith, long);
      }

  module _ {T : Type 0} (r : Result T Fault) (is : r ≡ Err Memory) where
    pub full-write_refused : (at : ℕ) (bytes : List ℕ) → IfErr r (NotWritten (logged base requests n s) (logged base' requests' n' s') at bytes)
    full-write_refused at bytes = subst (λ (z : Result T Fault). IfErr z (NotWritten (logged base requests n s) (logged base' requests' n' s') at bytes)) (sym is) (full-not_written at bytes)

    pub full-zeroing_refused : (at k : ℕ) → IfErr r (ZeroingRefused (logged base requests n s) (logged base' requests' n' s') at k)
    full-zeroing_refused at k = subst (λ (z : Result T Fault). IfErr z (ZeroingRefused (logged base requests n s) (logged base' requests' n' s') at k)) (sym is) (full-not_written at _)

    pub full-resize_refused : IfErr r (ResizeRefused (logged base requests n s) (logged base' requests' n' s'))
    full-resize_refused =
        let here : NotResized (logged base requests n s) (logged base' requests' n' s') Memory = record { refused = full; bytes = ap (λ (z : StorageState). z.bytes) same } in
        subst (λ (z : Result T Fault). IfErr z (ResizeRefused (logged base requests n s) (logged base' requests' n' s'))) (sym is) here

    pub full-once : RequestsOne (logged base requests n s) (logged base' requests' n' s') r
    full-once = subst (λ (z : Result T Fault). RequestsOne (logged base requests n s) (logged base' requests' n' s') z) (sym is) (full.crash_image, full.past_crash_images)

-- The call was passed on. `s0` is the state of the inner storage before the call, and `s'` the state after it.
pub logged-later : (base base' : List ℕ) (requests requests' : List Request) (n n' : ℕ) (s s0 s' s'' : StorageState) → n' ≡ n → s0 ≡ s → s'' ≡ s' → CountsNotFallen s0 s' → CountsNotFallen (logged base requests n s) (logged base' requests' n' s'')
logged-later base base' requests requests' n n' s s0 s' s'' same_n before after later = record {
  faults = omega (arith, later.faults, ap (λ (z : StorageState). z.faults) before, ap (λ (z : StorageState). z.faults) after);
  refusals = omega (arith, later.refusals, ap (λ (z : StorageState). z.refusals) before, ap (λ (z : StorageState). z.refusals) after, same_n);
}

pub rose-from : (a b k : ℕ) → b ≡ a → HasRisen b k → HasRisen a k
rose-from a b k same rose = subst (λ (z : ℕ). HasRisen z k) same rose

-- The inner storage refused the change, and the request was removed from the log.
module _ (base : List ℕ) (requests : List Request) (n : ℕ) (s s' : StorageState) where
  refused : (fault : Fault) → Refused s s' fault → Refused (logged base requests n s) (logged base requests n s') fault
  refused fault h = record {
    shape = ap (λ (shape : Shape). record shape { tells = true }) h.shape;
    cause = h.cause;
    refusals = record { not_fallen = omega (arith, h.refusals.not_fallen); rose = λ fits. omega (arith, h.refusals.rose (omega arith)) };
    crash_image = refl;
    past_crash_images = refl;
  }

  not_written : (at : ℕ) (bytes : List ℕ) (fault : Fault) → NotWritten s s' at bytes fault → NotWritten (logged base requests n s) (logged base requests n s') at bytes fault
  not_written at bytes fault h = record { refused = refused fault h.refused; content = h.content; no_shorter = h.no_shorter; no_longer = h.no_longer }

  not_resized : (fault : Fault) → NotResized s s' fault → NotResized (logged base requests n s) (logged base requests n s') fault
  not_resized fault h = record { refused = refused fault h.refused; bytes = h.bytes }

  unless : (P Q : Fault → Type 0) → ((fault : Fault) → P fault → Q fault) → (fault : Fault) → UnlessUnsupported s s' P fault → UnlessUnsupported (logged base requests n s) (logged base requests n s') Q fault
  unless P Q lift Unsupported h = ap (logged base requests n) h
  unless P Q lift fault h = lift fault h

module _ (base base' : List ℕ) (requests requests' : List Request) (n n' : ℕ) (s s0 s' s'' : StorageState) (same_base : base' ≡ base) (same_requests : requests' ≡ requests) (same_n : n' ≡ n) (before : s0 ≡ s) (after : s'' ≡ s') where
  forgotten : (P Q : StorageState → StorageState → Type 0) → (P s s' → Q (logged base requests n s) (logged base requests n s')) → P s0 s' → Q (logged base requests n s) (logged base' requests' n' s'')
  forgotten P Q lift holds =
      subst (λ (b : List ℕ). Q (logged base requests n s) (logged b requests' n' s'')) (sym same_base)
      (subst (λ (l : List Request). Q (logged base requests n s) (logged base l n' s'')) (sym same_requests)
      (subst (λ (k : ℕ). Q (logged base requests n s) (logged base requests k s'')) (sym same_n)
      (subst (λ (z : StorageState). Q (logged base requests n s) (logged base requests n z)) (sym after)
      (lift (subst (λ (z : StorageState). P z s') before holds)))))

  pub forgotten-not_written : (at : ℕ) (bytes : List ℕ) (fault : Fault) → NotWritten s0 s' at bytes fault → NotWritten (logged base requests n s) (logged base' requests' n' s'') at bytes fault
  forgotten-not_written at bytes fault = forgotten (λ a b. NotWritten a b at bytes fault) (λ a b. NotWritten a b at bytes fault) (not_written base requests n s s' at bytes fault)

  pub forgotten-zeroing_refused : (at k : ℕ) (fault : Fault) → ZeroingRefused s0 s' at k fault → ZeroingRefused (logged base requests n s) (logged base' requests' n' s'') at k fault
  forgotten-zeroing_refused at k fault = forgotten (λ a b. ZeroingRefused a b at k fault) (λ a b. ZeroingRefused a b at k fault) (unless base requests n s s' _ _ (not_written base requests n s s' at _) fault)

  pub forgotten-resize_refused : (fault : Fault) → ResizeRefused s0 s' fault → ResizeRefused (logged base requests n s) (logged base' requests' n' s'') fault
  forgotten-resize_refused fault = forgotten (λ a b. ResizeRefused a b fault) (λ a b. ResizeRefused a b fault) (unless base requests n s s' _ _ (not_resized base requests n s s') fault)

pub replayed-same : (base base' : List ℕ) (requests requests' : List Request) → base' ≡ base → requests' ≡ requests → (replay base' requests' ≡ replay base requests) × (files_before base' requests' ≡ files_before base requests)
replayed-same base base' requests requests' same_base same_requests = (
  ap (λ (b : List ℕ). replay b requests') same_base ∙ ap (replay base) same_requests,
  ap (λ (b : List ℕ). files_before b requests') same_base ∙ ap (files_before base) same_requests,
)

-- The count of refused changes after the inner storage refused one.

pub rose-zeroing : (a b : StorageState) (at k : ℕ) (fault : Fault) → ZeroingRefused a b at k fault → HasRisen a.refusals b.refusals ⊎ (b ≡ a)
rose-zeroing a b at k Unsupported h = inr h
rose-zeroing a b at k fault h = inl h.refused.refusals

pub rose-resize : (a b : StorageState) (fault : Fault) → ResizeRefused a b fault → HasRisen a.refusals b.refusals ⊎ (b ≡ a)
rose-resize a b Unsupported h = inr h
rose-resize a b fault h = inl h.refused.refusals

-- Only the count of refused changes differs.
only_refusals : {S : Type 0} (state : S → StorageState) (old new : LogStorage S) → new.base ≡ old.base → new.requests.items ≡ old.requests.items → state new.inner ≡ state old.inner
    → logged new.base.items new.requests.items new.refusals (state new.inner) ≡ record (logged old.base.items old.requests.items old.refusals (state old.inner)) { refusals = (state new.inner).refusals + new.refusals }
only_refusals state old new same_base requests stays = λ i. record {
  shape = record (stays i).shape { tells = true };
  bytes = (stays i).bytes;
  faults = (stays i).faults;
  refusals = (state new.inner).refusals + new.refusals;
  crash_image = replay (same_base i).items (requests i);
  past_crash_images = files_before (same_base i).items (requests i);
}

module _ {S T : Type 0} (state : S → StorageState) (IsSo : Request → Type 0) (old new : LogStorage S) (same_base : new.base ≡ old.base) where
  -- The request is the last one of the log.
  pub noted-ok : (x : T) (request : Request) → IsSo request → new.requests.items ≡ old.requests.items ++ request ∷ [] → Noted {S = S} {T = T} state IsSo old new (Ok x)
  unfolding log_base log_inner log_requests log_state
  noted-ok x request so pushed = record { base = ap (λ b. b.items) same_base; requests = (request, so, pushed); refused = tt }

  -- The inner storage refused the change.
  pub noted-refused : (s0 s' : StorageState) (fault : Fault) → s0 ≡ state old.inner → state new.inner ≡ s' → new.requests.items ≡ old.requests.items → (HasRisen s0.refusals s'.refusals ⊎ (s' ≡ s0))
      → Noted {S = S} {T = T} state IsSo old new (Err fault)
  unfolding log_base log_inner log_requests log_state
  noted-refused s0 s' fault before after requests rose = record {
    base = ap (λ b. b.items) same_base;
    requests = requests;
    refused = elim rose [
      | inl more ↦ inl (subst (λ (z : StorageState). HasRisen z.refusals (state new.inner).refusals) before (subst (λ (z : StorageState). HasRisen s0.refusals z.refusals) (sym after) more))
      | inr stays ↦ inr (only_refusals state old new same_base requests (after ∙ stays ∙ before))
    ];
  }

  -- Memory for the log entry ran out.
  pub noted-full : (r : Result T Fault) → r ≡ Err Memory → new.inner ≡ old.inner → new.requests.items ≡ old.requests.items → Noted {S = S} {T = T} state IsSo old new r
  noted-full r is inner requests = subst (λ (z : Result T Fault). Noted {S = S} {T = T} state IsSo old new z) (sym is) (noted-refused (state old.inner) (state new.inner) Memory refl refl requests (inr (ap state inner)))

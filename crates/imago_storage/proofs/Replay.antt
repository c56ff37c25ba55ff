-- The state of a log after a request.
use Rattle.std.proofs.Common.{◌≡◌, refl, inl, inr, ℕ, ◌+◌, ◌-◌, ◌<◌, max, List, [], ◌∷◌, ◌++◌, length, take, drop, replicate, get_or, arith, sym, ◌∙◌, ap, subst, length-append, length-drop}
use Rattle.std.specs.Prelude.{IsTrue, true, Some, slice_get, zero, suc, ◌≤◌}
use Rattle.std.proofs.lemmas.Bool.{cases_lt}
use Rattle.std.proofs.lemmas.List.{length-take, get_or-take, get_or-drop, get_or_append_left, get_or-append_right, get_or_past, ext_get_or, take_more}
use Rattle.imago_storage.specs.State.{Shape, StorageState}
use Rattle.imago_storage.specs.Calls.{Spliced, Written, NotWritten, Resized, Changed, Refused}
use Rattle.imago_storage.specs.Log.{splice, resized, apply, replay, files_before, logged, telling}
use Rattle.imago_storage.specs.declared.log.Request.{Request}
use Rattle.imago_storage.specs.declared.fault.Fault.{Fault}
use Rattle.imago_storage.proofs.Composing.{spliced_same}
use Rattle.imago_storage.proofs.Zeroes.{zero_at, length_of_zeroes}

module _ (file : List ℕ) (at : ℕ) (bytes : List ℕ) where
  abbrev front : List ℕ
  front = take at file ++ replicate (at - length file) 0

  abbrev back : List ℕ
  back = bytes ++ drop (at + length bytes) file

  length-front : length front ≡ at
  length-front = omega (arith, length-append (take at file) (replicate {A = ℕ} (at - length file) 0), length-take at file, length_of_zeroes (at - length file))

  pub length-splice : length (splice file at bytes) ≡ max (length file) (at + length bytes)
  unfolding splice
  length-splice = omega (arith, length-append front back, length-front, length-append bytes (drop (at + length bytes) file), length-drop (at + length bytes) file)

  front_at : (k : ℕ) → k < at → get_or front k 0 ≡ get_or file k 0
  front_at k lt = elim (cases_lt k (length file)) [
    | inl there ↦ get_or_append_left (take at file) (replicate (at - length file) 0) 0 k (omega (arith, length-take at file)) ∙ get_or-take at file k 0 lt
    | inr past ↦
        get_or-append_right (take at file) (replicate (at - length file) 0) (length (take at file)) k 0 refl (omega (arith, length-take at file))
        ∙ zero_at (at - length file) (k - length (take at file)) ∙ sym (get_or_past file k 0 past)
  ]

  pub splice-spliced : Spliced file at bytes (splice file at bytes)
  unfolding splice
  splice-spliced = record {
    before = λ k lt. get_or_append_left front back 0 k (omega (arith, length-front)) ∙ front_at k lt;
    inside = λ k from to. get_or-append_right front back at k 0 length-front from ∙ get_or_append_left bytes (drop (at + length bytes) file) 0 (k - at) (omega arith);
    after = λ k from.
        get_or-append_right front back at k 0 length-front (omega arith)
        ∙ get_or-append_right bytes (drop (at + length bytes) file) (length bytes) (k - at) 0 refl (omega arith)
        ∙ get_or-drop (at + length bytes) file (k - at - length bytes) 0
        ∙ ap (λ (j : ℕ). get_or file j 0) (omega arith);
  }

pub length-resized : (file : List ℕ) (n : ℕ) → length (resized file n) ≡ n
unfolding resized
length-resized file n = omega (arith, length-append (take n file) (replicate {A = ℕ} (n - length file) 0), length-take n file, length_of_zeroes (n - length file))

pub resized_at : (file : List ℕ) (n k : ℕ) → k < n → get_or (resized file n) k 0 ≡ get_or file k 0
unfolding resized
resized_at file n k lt = elim (cases_lt k (length file)) [
  | inl there ↦ get_or_append_left (take n file) (replicate (n - length file) 0) 0 k (omega (arith, length-take n file)) ∙ get_or-take n file k 0 lt
  | inr past ↦
      get_or-append_right (take n file) (replicate (n - length file) 0) (length (take n file)) k 0 refl (omega (arith, length-take n file))
      ∙ zero_at (n - length file) (k - length (take n file)) ∙ sym (get_or_past file k 0 past)
]

-- Replaying one more request.
pub replay-push : (file : List ℕ) (requests : List Request) (request : Request) → replay file (requests ++ request ∷ []) ≡ apply request (replay file requests)
replay-push file [] request = refl
replay-push file (first ∷ requests) request = replay-push (apply first file) requests request

pub files_before-push : (file : List ℕ) (requests : List Request) (request : Request) → files_before file (requests ++ request ∷ []) ≡ replay file requests ∷ files_before file requests
files_before-push file [] request = refl
files_before-push file (first ∷ requests) request = ap (λ (l : List (List ℕ)). l ++ file ∷ []) (files_before-push (apply first file) requests request)

pub length-files_before : (file : List ℕ) (requests : List Request) → length (files_before file requests) ≡ length requests
length-files_before file [] = refl
length-files_before file (first ∷ requests) = omega (arith, length-append (files_before (apply first file) requests) (file ∷ []), length-files_before (apply first file) requests)

module _ (base : List ℕ) (requests after : List Request) (n : ℕ) (s s' : StorageState) (request : Request) (pushed : after ≡ requests ++ request ∷ []) where
  log_changed : Changed s s' → (IsTrue s.shape.keeps → replay base requests ≡ s.bytes → apply request s.bytes ≡ s'.bytes) → Changed (logged base requests n s) (logged base after n s')
  log_changed changed same = record {
    shape = ap (λ (shape : Shape). record shape { tells = true }) changed.shape;
    faults = changed.faults;
    refusals = ap (λ (m : ℕ). m + n) changed.refusals;
    mark = λ _. ap (files_before base) pushed ∙ files_before-push base requests request;
    crash_image_is_bytes = λ in_step tells keeps.
        let keeps' = subst (λ (shape : Shape). IsTrue shape.keeps) changed.shape keeps in
        let was = in_step tells keeps' in
        ap (replay base) pushed ∙ replay-push base requests request ∙ ap (apply request) was ∙ same keeps' was;
  }

  pub log_written : (at : ℕ) (bytes : List ℕ) → ((file : List ℕ) → apply request file ≡ splice file at bytes) → Written s s' at bytes → Written (logged base requests n s) (logged base after n s') at bytes
  log_written at bytes is written = record {
    changed = log_changed written.changed (λ keeps _. is s.bytes ∙ spliced_same s.bytes at bytes (splice s.bytes at bytes) s'.bytes (splice-spliced s.bytes at bytes) (written.content keeps) (length-splice s.bytes at bytes ∙ sym written.size));
    content = written.content;
    size = written.size;
  }

  pub log_resized : (size : ℕ) → ((file : List ℕ) → apply request file ≡ resized file size) → Resized s s' size → Resized (logged base requests n s) (logged base after n s') size
  log_resized size is done = record {
    changed = log_changed done.changed (λ keeps _. is s.bytes ∙ ext_get_or 0 (resized s.bytes size) s'.bytes (length-resized s.bytes size ∙ sym done.size) (λ k lt. resized_at s.bytes size k (omega (arith, lt, length-resized s.bytes size)) ∙ sym (done.content keeps k (omega (arith, lt, length-resized s.bytes size)))));
    content = done.content;
    size = done.size;
  }

-- The inner storage refused the change.
module _ (base : List ℕ) (requests : List Request) (n : ℕ) (s s' : StorageState) where
  log_refused : (fault : Fault) → Refused s s' fault → Refused (logged base requests n s) (logged base requests n s') fault
  log_refused fault refused = record {
    shape = ap (λ (shape : Shape). record shape { tells = true }) refused.shape;
    cause = refused.cause;
    refusals = record { not_fallen = omega (arith, refused.refusals.not_fallen); rose = λ fits. omega (arith, refused.refusals.rose (omega arith)) };
    crash_image = refl;
    past_crash_images = refl;
  }

-- Works with the equations that a call of the log knows.
module _ (base base' : List ℕ) (requests after : List Request) (n n' : ℕ) (s s0 s' : StorageState) (request : Request) (same_base : base' ≡ base) (same_n : n' ≡ n) (same : s0 ≡ s) (pushed : after ≡ requests ++ request ∷ []) where
  pub wrote : (at : ℕ) (bytes : List ℕ) → ((file : List ℕ) → apply request file ≡ splice file at bytes) → Written s0 s' at bytes → Written (logged base requests n s) (logged base' after n' s') at bytes
  wrote at bytes is written =
      subst (λ (b : List ℕ). Written (logged base requests n s) (logged b after n' s') at bytes) (sym same_base)
      (subst (λ (m : ℕ). Written (logged base requests n s) (logged base after m s') at bytes) (sym same_n)
      (log_written base requests after n s s' request pushed at bytes is (subst (λ (z : StorageState). Written z s' at bytes) same written)))

  pub resized_log : (size : ℕ) → ((file : List ℕ) → apply request file ≡ resized file size) → Resized s0 s' size → Resized (logged base requests n s) (logged base' after n' s') size
  resized_log size is done =
      subst (λ (b : List ℕ). Resized (logged base requests n s) (logged b after n' s') size) (sym same_base)
      (subst (λ (m : ℕ). Resized (logged base requests n s) (logged base after m s') size) (sym same_n)
      (log_resized base requests after n s s' request pushed size is (subst (λ (z : StorageState). Resized z s' size) same done)))

-- An edit that has the effect of a request.
pub splice_is : (old : List ℕ) (at : ℕ) (bytes new : List ℕ) → Spliced old at bytes new → length new ≡ max (length old) (at + length bytes) → new ≡ splice old at bytes
splice_is old at bytes new spliced long = spliced_same old at bytes new (splice old at bytes) spliced (splice-spliced old at bytes) (long ∙ sym (length-splice old at bytes))

-- One step of a replay.
pub replay_more : (file : List ℕ) (requests : List Request) (i : ℕ) (request : Request) → i < length requests → request ≡ get_or requests i request → replay file (take (i + 1) requests) ≡ apply request (replay file (take i requests))
replay_more file requests i request lt is =
    ap (replay file) (take_more requests i request lt) ∙ replay-push file (take i requests) (get_or requests i request) ∙ ap (λ (r : Request). apply r (replay file (take i requests))) (sym is)

-- The past crash images of a log after one more request.
pub request_pushed : (base base' : List ℕ) (requests after : List Request) (request : Request) → base' ≡ base → after ≡ requests ++ request ∷ [] → files_before base' after ≡ replay base requests ∷ files_before base requests
request_pushed base base' requests after request same pushed =
    ap (λ (b : List ℕ). files_before b after) same ∙ ap (files_before base) pushed ∙ files_before-push base requests request

-- The crash images of a log.

slice_get_last : (files : List (List ℕ)) (file : List ℕ) (i : ℕ) → i ≡ length files → slice_get (files ++ file ∷ []) i ≡ Some file
slice_get_last [] file zero is = refl
slice_get_last [] file (suc i) is = absurd (cc is)
slice_get_last (first ∷ files) file zero is = absurd (cc is)
slice_get_last (first ∷ files) file (suc i) is = slice_get_last files file i (omega (arith, is))

slice_get_front : (files more : List (List ℕ)) (i : ℕ) → i < length files → slice_get (files ++ more) i ≡ slice_get files i
slice_get_front [] more i lt = absurd (omega (arith, lt))
slice_get_front (first ∷ files) more zero lt = refl
slice_get_front (first ∷ files) more (suc i) lt = slice_get_front files more i (omega (arith, lt))

-- The crash image after the first `k` requests is among them.
pub files_at : (base : List ℕ) (requests : List Request) (k : ℕ) → k ≤ length requests → slice_get (replay base requests ∷ files_before base requests) (length requests - k) ≡ Some (replay base (take k requests))
files_at base [] zero le = refl
files_at base [] (suc k) le = absurd (omega (arith, le))
files_at base (first ∷ requests) zero le =
    slice_get_last (replay (apply first base) requests ∷ files_before (apply first base) requests) base (length (first ∷ requests) - 0)
    (omega (arith, length-files_before (apply first base) requests))
files_at base (first ∷ requests) (suc k) le =
    let front = replay (apply first base) requests ∷ files_before (apply first base) requests in
    let same : length (first ∷ requests) - suc k ≡ length requests - k = omega arith in
    ap (slice_get (front ++ base ∷ [])) same
    ∙ slice_get_front front (base ∷ []) (length requests - k) (omega (arith, le, length-files_before (apply first base) requests))
    ∙ files_at (apply first base) requests k (omega (arith, le))

pub file_told : (base : List ℕ) (requests : List Request) (k : ℕ) (file : List ℕ) → k ≤ length requests → file ≡ replay base (take k requests) → slice_get (replay base requests ∷ files_before base requests) (length requests - k) ≡ Some file
file_told base requests k file le is = files_at base requests k le ∙ ap (λ (f : List ℕ). Some f) (sym is)

-- A log that was just made.
pub log_begun : (s s' : StorageState) (base : List ℕ) (requests : List Request) → s' ≡ s → base ≡ s.bytes → requests ≡ [] → logged base requests 0 s' ≡ telling s
log_begun s s' base requests same is none =
    let refusals : s'.refusals + 0 ≡ s.refusals = omega (arith, ap (λ (z : StorageState). z.refusals) same) in
    let stop : replay base requests ≡ s.bytes = ap (replay base) none ∙ is in
    let past : files_before base requests ≡ [] = ap (files_before base) none in
    λ i. record {
      shape = record (same i).shape { tells = true };
      bytes = (same i).bytes;
      faults = (same i).faults;
      refusals = refusals i;
      crash_image = stop i;
      past_crash_images = past i;
    }

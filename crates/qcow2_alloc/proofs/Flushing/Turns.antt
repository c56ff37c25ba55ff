-- The loop over the entries, which are flushed from the last to the first.
use Rattle.std.proofs.Common.{◌≡◌, ℕ, ◌-◌, ◌<◌, Bool, true, false, List, [], ◌∷◌, ◌++◌, Some, None, Option, Result, Ok, Err, length, arith, refl, ap, sym, subst, ◌∙◌}
use Rattle.std.specs.Prelude.{slice_get, take, nat_lt, map, cond}
use Rattle.std.proofs.Math.Seq.{take-append_seam}
use Rattle.std.proofs.lemmas.List.Elements.{filter-append}
use Rattle.std.specs.Option.{option_map_or}
use Rattle.std.specs.Cmp.{IsEquivalence}
use Rattle.std.specs.List.{AllByRecursion, IsDistinct}
use Rattle.std.specs.Map.{keys_of, lookup, lookup_entry, remove_entry, set_value}
use Rattle.std.proofs.lemmas.List.{append_assoc, append-nil, length-append}
use Rattle.lru.specs.LruCache.{promoted}
use Rattle.lru.proofs.Splits.{Differs, distinct_differs, distinct_with, distinct_without}
use Rattle.imago_storage.specs.declared.fault.Fault.{Fault}
use Rattle.qcow2_alloc.specs.declared.async_lru_cache.Slot.{Slot}
use Rattle.qcow2_alloc.specs.Cache.{hit, with_value, latest, FlushedLast, FlushedEach, DroppedLast, kept_pinned}
use Rattle.qcow2_alloc.proofs.Caching.Entries.{found, missed, promoted_hit, split_last, last_alone}

pair_second : {A B : Type 0} (p q : A × B) → Some p ≡ Some q → p.1 ≡ q.1
pair_second {A} {B} p q h = ap (λ (o : Option (A × B)). option_map_or (λ (r : A × B). r.1) o q.1) h

some_none : {A : Type 0} (a : A) → Some a ≡ None → ⊥
some_none a h = cc

module _ {K V D : Type 0} (eq : K → K → Bool) (laws : IsEquivalence eq) (flushes : D → K → V → Result Unit Fault → D → V → Type 0) (es : List (K × Slot V)) (key : K) (last : Slot V)
    (some : 0 < length es) (distinct : IsDistinct eq (keys_of es)) (is_last : slice_get es (length es - 1) ≡ Some (key, last)) where
  abbrev front : List (K × Slot V)
  front = (split_last es (length es - 1) (key, last) (omega (arith, some)) is_last).front

  split : es ≡ front ++ (key, last) ∷ []
  split = (split_last es (length es - 1) (key, last) (omega (arith, some)) is_last).split

  alone : (lookup_entry (eq key) (front ++ (key, last) ∷ []) ≡ Some (key, last)) × (remove_entry (eq key) (front ++ (key, last) ∷ []) ≡ front)
  alone = last_alone eq laws (key, last) front (subst (λ (l : List (K × Slot V)). IsDistinct eq (keys_of l)) split distinct)

  entry : lookup_entry (eq key) es ≡ Some (key, last)
  entry = ap (λ (l : List (K × Slot V)). lookup_entry (eq key) l) split ∙ alone.0

  pub last_there : lookup (eq key) es ≡ None → ⊥
  last_there none = some_none (key, last) (sym entry ∙ missed (eq key) es none)

  front_taken : take (length (front ++ (key, last) ∷ []) - 1) (front ++ (key, last) ∷ []) ≡ front
  front_taken = let n = length-append front ((key, last) ∷ []) in let m : length (front ++ (key, last) ∷ []) - 1 ≡ length front = omega (arith, n) in rw m (take-append_seam front ((key, last) ∷ []))

  flushed_hit : (w : V) → hit (eq key) es w ≡ with_value (key, last) w ∷ front
  flushed_hit w = rw entry (ap (λ (l : List (K × Slot V)). with_value (key, last) w ∷ l) (ap (λ (l : List (K × Slot V)). remove_entry (eq key) l) split ∙ alone.1))

  pub last_flushed : (before after : D) (slot : Slot V) (w : V) (result : Result Unit Fault) → lookup (eq key) es ≡ Some slot → flushes before key slot.value result after w
      → FlushedLast flushes before es result after (set_value (eq key) (promoted (eq key) es) (record slot { value = w }))
  last_flushed before after slot w result there flush =
      let f = found (eq key) es slot there in
      let same : slot ≡ last = pair_second (f.key, slot) (key, last) (sym f.entry ∙ entry) in
      record {
        front = front;
        last = (key, last);
        value = w;
        split = split;
        flush = subst (λ (s : Slot V). flushes before key s.value result after w) same flush;
        entries = promoted_hit (eq key) es slot there w ∙ flushed_hit w;
      }

  -- The last entry is dropped, or moved to the front if it is pinned.
  pub dropped_pinned : nat_lt 0 last.pins ≡ true → DroppedLast es (promoted (eq key) es)
  dropped_pinned pinned = record {
    front = front;
    last = (key, last);
    split = split;
    entries = rw (entry, pinned) (ap (λ (l : List (K × Slot V)). (key, last) ∷ l) (ap (λ (l : List (K × Slot V)). remove_entry (eq key) l) split ∙ alone.1));
  }

  pub dropped_free : nat_lt 0 last.pins ≡ false → DroppedLast es (take (length es - 1) es)
  dropped_free free = record {
    front = front;
    last = (key, last);
    split = split;
    entries = rw free (ap (λ (l : List (K × Slot V)). take (length l - 1) l) split ∙ front_taken);
  }

-- Moving the last entry to the front keeps the keys distinct.
module _ {K V : Type 0} (eq : K → K → Bool) (laws : IsEquivalence eq) where
  abbrev key : K × Slot V → K
  key e = e.0

  abbrev AreDistinct : List (K × Slot V) → Type 0
  AreDistinct es = IsDistinct eq (keys_of es)

  rotated : (front : List (K × Slot V)) (last : K × Slot V) → AreDistinct (front ++ last ∷ []) → AreDistinct (last ∷ front)
  rotated front last distinct =
      let all = append-nil front in
      distinct_with key eq laws.symm [] last front (subst (Differs key eq last) all (distinct_differs key eq laws.symm front last [] distinct)) (subst AreDistinct all (distinct_without key eq front last [] distinct))

  pub flushed-distinct : {D : Type 0} (flushes : D → K → V → Result Unit Fault → D → V → Type 0) (before after : D) (es es' : List (K × Slot V)) (result : Result Unit Fault) → FlushedLast flushes before es result after es' → AreDistinct es → AreDistinct es'
  flushed-distinct flushes before after es es' result f distinct = subst AreDistinct (sym f.entries) (rotated f.front f.last (subst AreDistinct f.split distinct))

  pub dropped-distinct : (es es' : List (K × Slot V)) → DroppedLast es es' → AreDistinct es → AreDistinct es'
  dropped-distinct es es' d distinct = subst AreDistinct (sym d.entries) (by (nat_lt 0 d.last.1.pins))
    where
      by : (pinned : Bool) → AreDistinct (cond pinned (d.last ∷ []) [] ++ d.front)
      by true = rotated d.front d.last (subst AreDistinct d.split distinct)
      by false = subst AreDistinct (append-nil d.front) (distinct_without key eq d.front d.last [] (subst AreDistinct d.split distinct))

-- The state of the flush loop: the entries to go, and those that are done.
pub record Turning {K V D : Type 0} (flushes : D → K → V → Result Unit Fault → D → V → Type 0) (before : D) (es : List (K × Slot V)) (left : ℕ) (outcome : Option Fault) (after : D) (es' : List (K × Slot V)) : Type 0 where
  pub todo : List (K × Slot V)
  pub old : List (K × Slot V)
  pub done : List (K × Slot V)
  pub whole : es ≡ todo ++ old
  pub turned : es' ≡ done ++ todo
  pub flushed : FlushedEach flushes before old outcome after done
  pub count : length todo ≡ left

-- The last of the entries is the last of those to go.
record Taken {X : Type 0} (done todo front : List X) (last : X) : Type 0 where
  pub rest : List X
  pub todo_is : todo ≡ rest ++ last ∷ []
  pub front_is : front ≡ done ++ rest

abbrev tail_of : {X : Type 0} → List X → List X
tail_of [] = []
tail_of (x ∷ xs) = xs

taken_step : {X : Type 0} (x y : X) (done todo front : List X) (last : X) → x ≡ y → Taken done todo front last → Taken (x ∷ done) todo (y ∷ front) last
taken_step x y done todo front last own t = record { rest = t.rest; todo_is = t.todo_is; front_is = ap (λ z. z ∷ front) (sym own) ∙ ap (λ l. x ∷ l) t.front_is }

taken : {X : Type 0} (done todo front : List X) (last : X) → 0 < length todo → done ++ todo ≡ front ++ last ∷ [] → Taken done todo front last
taken [] todo front last some h = record { rest = front; todo_is = h; front_is = refl }
taken (x ∷ done) todo [] last some h = absurd (let long : length (done ++ todo) ≡ 0 = ap (λ l. length (tail_of l)) h in let sum = length-append done todo in omega (arith, long, sum, some))
taken (x ∷ done) todo (y ∷ front) last some h = let own : x ≡ y = cc in taken_step x y done todo front last own (taken done todo front last some (ap tail_of h))

module _ {K V D : Type 0} (flushes : D → K → V → Result Unit Fault → D → V → Type 0) where
  pub turn_step : (before mid after : D) (es now now' : List (K × Slot V)) (left : ℕ) (first : Option Fault) (result : Result Unit Fault) → 0 < left
      → Turning flushes before es left first mid now → FlushedLast flushes mid now result after now' → Turning flushes before es (left - 1) (latest first result) after now'
  turn_step before mid after es now now' left first result some t f =
      let k = taken t.done t.todo f.front f.last (omega (arith, some, t.count)) (sym t.turned ∙ f.split) in
      record {
        todo = k.rest;
        old = f.last ∷ t.old;
        done = with_value f.last f.value ∷ t.done;
        whole = t.whole ∙ ap (λ l. l ++ t.old) k.todo_is ∙ append_assoc k.rest (f.last ∷ []) t.old;
        turned = f.entries ∙ ap (λ l. with_value f.last f.value ∷ l) k.front_is;
        flushed = (mid, first, t.done, t.flushed, result, f.value, f.flush, refl, refl);
        count = let n = ap (λ (l : List (K × Slot V)). length l) k.todo_is ∙ length-append k.rest (f.last ∷ []) in omega (arith, n, t.count);
      }

-- The state of the loop that drops entries.
pub record Dropping {K V : Type 0} (es : List (K × Slot V)) (left : ℕ) (es' : List (K × Slot V)) : Type 0 where
  pub todo : List (K × Slot V)
  pub old : List (K × Slot V)
  pub whole : es ≡ todo ++ old
  pub turned : es' ≡ kept_pinned old ++ todo
  pub count : length todo ≡ left

module _ {K V : Type 0} where
  pub drop_step : (es now now' : List (K × Slot V)) (left : ℕ) → 0 < left → Dropping es left now → DroppedLast now now' → Dropping es (left - 1) now'
  drop_step es now now' left some t f =
      let k = taken (kept_pinned t.old) t.todo f.front f.last (omega (arith, some, t.count)) (sym t.turned ∙ f.split) in
      record {
        todo = k.rest;
        old = f.last ∷ t.old;
        whole = t.whole ∙ ap (λ l. l ++ t.old) k.todo_is ∙ append_assoc k.rest (f.last ∷ []) t.old;
        turned = f.entries ∙ ap (λ l. kept_pinned (f.last ∷ []) ++ l) k.front_is ∙ sym (append_assoc (kept_pinned (f.last ∷ [])) (kept_pinned t.old) k.rest) ∙ ap (λ l. l ++ k.rest) (sym (filter-append (λ e. nat_lt 0 e.1.pins) (f.last ∷ []) t.old));
        count = let n = ap (λ (l : List (K × Slot V)). length l) k.todo_is ∙ length-append k.rest (f.last ∷ []) in omega (arith, n, t.count);
      }

pub none-later : (first : Option Fault) (result : Result Unit Fault) → latest first result ≡ None → (first ≡ None) × (result ≡ Ok tt)
none-later first (Ok done) none = (none, refl)
none-later None (Err fault) none = absurd (cc none)
none-later (Some earlier) (Err fault) none = absurd (cc none)

-- A relation that each flush keeps is kept by the loop.
module _ {K V D : Type 0} (flushes : D → K → V → Result Unit Fault → D → V → Type 0) where
  module _ (R : D → D → Type 0) (same : (d : D) → R d d) (both : (a b c : D) → R a b → R b c → R a c) (step : (old : D) (key : K) (value : V) (result : Result Unit Fault) (new : D) (value' : V) → flushes old key value result new value' → R old new) where
    pub each-related : (before : D) (es : List (K × Slot V)) (outcome : Option Fault) (after : D) (es' : List (K × Slot V)) → FlushedEach flushes before es outcome after es' → R before after
    each-related before [] outcome after es' flushed = subst (λ (d : D). R before d) (sym flushed.1) (same before)
    each-related before (e ∷ es) outcome after es' (mid, first, rest, earlier, result, value, flush, worst, is) =
        both before mid after (each-related before es first mid rest earlier) (step mid e.0 e.1.value result after value flush)

  module _ (Q : V → Type 0) (step : (old : D) (key : K) (value : V) (new : D) (value' : V) → flushes old key value (Ok tt) new value' → Q value') where
    pub each-made : (before : D) (es : List (K × Slot V)) (outcome : Option Fault) (after : D) (es' : List (K × Slot V)) → FlushedEach flushes before es outcome after es' → outcome ≡ None → AllByRecursion (λ e. Q e.1.value) es'
    each-made before [] outcome after es' flushed none = subst (λ (l : List (K × Slot V)). AllByRecursion (λ e. Q e.1.value) l) (sym flushed.2) tt
    each-made before (e ∷ es) outcome after es' (mid, first, rest, earlier, result, value, flush, worst, is) none =
        let both = none-later first result (sym worst ∙ none) in
        subst (λ (l : List (K × Slot V)). AllByRecursion (λ x. Q x.1.value) l) (sym is)
        (step mid e.0 e.1.value after value (subst (λ (r : Result Unit Fault). flushes mid e.0 e.1.value r after value) both.1 flush), each-made before es first mid rest earlier both.0)

  -- A property `left` that flushes keep for their entry is kept for all entries.
  module _ {X : Type 0} (left : K × Slot V → X) (step : (key : K) (slot : Slot V) (old : D) (result : Result Unit Fault) (new : D) (value' : V) → flushes old key slot.value result new value' → left (key, record slot { value = value' }) ≡ left (key, slot)) where
    pub each-kept : (before : D) (es : List (K × Slot V)) (outcome : Option Fault) (after : D) (es' : List (K × Slot V)) → FlushedEach flushes before es outcome after es' → map left es' ≡ map left es
    each-kept before [] outcome after es' flushed = ap (λ (l : List (K × Slot V)). map left l) flushed.2
    each-kept before (e ∷ es) outcome after es' (mid, first, rest, earlier, result, value, flush, worst, is) =
        ap (λ (l : List (K × Slot V)). map left l) is
        ∙ ap (λ (x : X). x ∷ map left rest) (step e.0 e.1 mid result after value flush)
        ∙ ap (λ (l : List X). left e ∷ l) (each-kept before es first mid rest earlier)

-- Another description of each flush gives one of the loop.
module _ {K V D E : Type 0} (state : D → E) (flushes : D → K → V → Result Unit Fault → D → V → Type 0) (others : E → K → V → Result Unit Fault → E → V → Type 0)
    (step : (old : D) (key : K) (value : V) (result : Result Unit Fault) (new : D) (value' : V) → flushes old key value result new value' → others (state old) key value result (state new) value') where
  pub each-told : (before : D) (es : List (K × Slot V)) (outcome : Option Fault) (after : D) (es' : List (K × Slot V)) → FlushedEach flushes before es outcome after es' → FlushedEach others (state before) es outcome (state after) es'
  each-told before [] outcome after es' flushed = (flushed.0, ap state flushed.1, flushed.2)
  each-told before (e ∷ es) outcome after es' (mid, first, rest, earlier, result, value, flush, worst, is) =
      (state mid, first, rest, each-told before es first mid rest earlier, result, value, step mid e.0 e.1.value result after value flush, worst, is)

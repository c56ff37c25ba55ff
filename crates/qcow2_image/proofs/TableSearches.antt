-- Lemmas on the cache: a property of every cached table stays true after a search of a table and its use.
use Rattle.std.proofs.Common.{◌≡◌, ◌≢◌, ℕ, ◌*◌, refl, ap, sym, subst, ◌∙◌, List, [], ◌∷◌, ◌++◌, length, Some, None, Result, Ok, Err, inl, inr}
use Rattle.std.specs.Prelude.{◌⊎◌, OnOk, OnErr, IsSome, Bool, Option, false, map, nat_eq, nat_lt}
use Rattle.std.specs.List.{AllByRecursion}
use Rattle.std.specs.Option.{option_map, option_map_or}
use Rattle.std.specs.Map.{lookup, remove_entry}
use Rattle.std.proofs.Math.Nat.{zero-mul}
use Rattle.std.proofs.lemmas.Bool.{cases_Bool}
use Rattle.imago_storage.specs.declared.fault.Fault.{Fault}
use Rattle.qcow2_types.specs.Bytes.{Bytes}
use Rattle.qcow2_types.specs.Header.{Fields, entries_of_cluster, cluster_size}
use Rattle.qcow2_metadata.specs.Tables.{TableValue, table_in, raw_entries_in}
use Rattle.qcow2_alloc.specs.Cache.{hit, victim}
use Rattle.qcow2_alloc.specs.Finding.{Sought, with_room}
use Rattle.qcow2_alloc.specs.Memory.{written_table}
use Rattle.qcow2_alloc.specs.WellFormedness.{IsCachedTable}
use Rattle.qcow2_alloc.specs.declared.async_lru_cache.Slot.{Slot}
use Rattle.qcow2_alloc.proofs.Caching.Places.{Place, place-of-key, place-hit, slot-of}
use Rattle.qcow2_image.specs.Seen.{IsOfFile, IsTableAt}

-- The entry that is used moves to the front.
all-move : {X : Type 0} (P : X → Type 0) (front : List X) (x : X) (back : List X) → AllByRecursion P (front ++ x ∷ back) → AllByRecursion P (x ∷ front ++ back)
all-move P [] x back all = all
all-move P (y ∷ front) x back all = let rest = all-move P front x back all.1 in (rest.0, (all.0, rest.1))

module _ {V : Type 0} (P : ℕ × Slot V → Type 0) (key : ℕ) (es : List (ℕ × Slot V)) (v : V) (there : option_map (λ s. s.value) (lookup (nat_eq key) es) ≡ Some v) (all : AllByRecursion P es) where
  found : (s : Slot V) × (lookup (nat_eq key) es ≡ Some s) × (s.value ≡ v)
  found = slot-of (lookup (nat_eq key) es) v there

  place : Place key es found.0
  place = place-of-key key es found.0 found.1

  moved : AllByRecursion P ((key, found.0) ∷ place.front ++ place.back)
  moved = all-move P place.front (key, found.0) place.back (subst (AllByRecursion P) place.is all)

  pub all-hit : AllByRecursion P (hit (nat_eq key) es v)
  all-hit = subst (AllByRecursion P) (sym (ap (λ w. hit (nat_eq key) es w) (sym found.2) ∙ place-hit key es found.0 place found.0.value)) moved

  pub one-hit : (s : Slot V) × P (key, s) × (s.value ≡ v)
  one-hit = (found.0, moved.0, found.2)

-- The entries that stay when others are dropped keep the property.
all-removed : {K X : Type 0} (P : K × X → Type 0) (test : K → Bool) (es : List (K × X)) → AllByRecursion P es → AllByRecursion P (remove_entry test es)
all-removed P test [] all = tt
all-removed P test (e ∷ es) all = elim (cases_Bool (test e.0)) [
  | inl t ↦ rw t all.1
  | inr t ↦ rw t (all.0, all-removed P test es all.1)
]

all-but-victim : {V : Type 0} (P : ℕ × Slot V → Type 0) (found : Option ℕ) (es : List (ℕ × Slot V)) → AllByRecursion P es → AllByRecursion P (option_map_or (λ key. remove_entry (nat_eq key) es) found es)
all-but-victim P None es all = all
all-but-victim P (Some key) es all = all-removed P (nat_eq key) es all

all-with-room : {V : Type 0} (P : ℕ × Slot V → Type 0) (cap : ℕ) (es : List (ℕ × Slot V)) → AllByRecursion P es → AllByRecursion P (with_room cap es)
all-with-room P cap es all = elim (cases_Bool (nat_lt (length es) cap)) [
  | inl t ↦ rw t all
  | inr t ↦ rw t (all-but-victim P (victim es) es all)
]

-- Entries that are only written keep the property.
of-written : (f : Bytes) (h : Fields) (xs ys : List (ℕ × Slot TableValue)) → map written_table xs ≡ map written_table ys → AllByRecursion (IsOfFile f h) ys → AllByRecursion (IsOfFile f h) xs
of-written f h [] ys same all = tt
of-written f h (x ∷ xs) [] same all = absurd (cc same)
of-written f h (x ∷ xs) (y ∷ ys) same all =
    let head : written_table x ≡ written_table y = cc same in
    let tail : map written_table xs ≡ map written_table ys = cc same in
    let key : x.0 ≡ y.0 = ap (λ e. e.0) head in (
      record {
        named = subst (λ k. IsTableAt f h (k * cluster_size h)) (sym key) all.0.named;
        layout = ap (λ e. e.1.value.layout) head ∙ all.0.layout;
        raw_entries = ap (λ e. e.1.value.raw_entries) head ∙ all.0.raw_entries ∙ ap (λ k. raw_entries_in f (k * cluster_size h) (entries_of_cluster h)) (sym key);
      },
      of-written f h xs ys tail all.1,
    )

pub of-search : (f : Bytes) (h : Fields) (cap key : ℕ) (es es' : List (ℕ × Slot TableValue)) (answer : Result Unit Fault) → IsTableAt f h (key * cluster_size h) → Sought written_table cap key (table_in f h key (entries_of_cluster h)) es answer es' → AllByRecursion (IsOfFile f h) es → AllByRecursion (IsOfFile f h) es'
of-search f h cap key es es' answer named sought all = elim (found-or-not (lookup (nat_eq key) es)) [
  | inl is ↦ subst (AllByRecursion (IsOfFile f h)) (sym (sought.unchanged_if_cached is)) all
  | inr none ↦ by-answer answer sought.loaded sought.refused none
] where
  found-or-not : (x : Option (Slot TableValue)) → (IsSome x) ⊎ (x ≡ None)
  found-or-not None = inr refl
  found-or-not (Some s) = inl refl

  by-answer : (a : Result Unit Fault) → (lookup (nat_eq key) es ≡ None → OnOk a (es' ≡ (key, record { value = table_in f h key (entries_of_cluster h); pins = 0 }) ∷ with_room cap es))
      → OnErr a ((map written_table es' ≡ map written_table es) ⊎ (es' ≡ with_room cap es)) → lookup (nat_eq key) es ≡ None → AllByRecursion (IsOfFile f h) es'
  by-answer (Ok done) loaded refused none = subst (AllByRecursion (IsOfFile f h)) (sym (loaded none)) (record { named = named; layout = refl; raw_entries = refl }, all-with-room (IsOfFile f h) cap es all)
  by-answer (Err fault) loaded refused none = elim refused [
    | inl written ↦ of-written f h es' es written all
    | inr room ↦ subst (AllByRecursion (IsOfFile f h)) (sym room) (all-with-room (IsOfFile f h) cap es all)
  ]

-- If all cached tables are in one cluster that an L1 entry references, and are clean, they are the file's.
pub tables-of-file : (f : Bytes) (h : Fields) (table : ℕ) → IsTableAt f h (table * cluster_size h) → (es : List (ℕ × Slot TableValue))
    → AllByRecursion (λ e. e.0 ≡ table) es → AllByRecursion (λ e. IsCachedTable f h e.0 e.1.value) es
    → AllByRecursion (λ e. e.1.value.modified ≡ false) es → AllByRecursion (IsOfFile f h) es
tables-of-file f h table there [] alone fit clean = tt
tables-of-file f h table there (e ∷ es) alone fit clean =
    let here : IsTableAt f h (e.0 * cluster_size h) = subst (λ k. IsTableAt f h (k * cluster_size h)) (sym alone.0) there in
    let some : e.0 ≢ 0 = λ none. here.is_there (here.at ∙ ap (λ k. k * cluster_size h) none ∙ zero-mul (cluster_size h)) in (
      record {
        named = here;
        layout = fit.0.layout;
        raw_entries = fit.0.clean clean.0 (here.row, here.in_l1, here.at, some);
      },
      tables-of-file f h table there es alone.1 fit.1 clean.1,
    )

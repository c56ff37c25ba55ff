-- If the bytes of a header break a rule, the fault is `DamagedHeader`, `Unsupported` or `Limit`.
use Rattle.std.proofs.Common.{◌≡◌, ℕ, zero, suc, ◌+◌, ◌/◌, subst, List, [], ◌∷◌, Some, None, Ok, Err}
use Rattle.std.specs.Prelude.{Bool, true, false, ◌||◌, ◌==◌, nat_lt, if◌then◌else◌, Option, Result}
use Rattle.std.specs.Str.{is_utf8}
use Rattle.imago_storage.specs.declared.fault.Fault.{Fault}
use Rattle.imago_storage.specs.declared.fault.Fault.TheVariants.{DamagedHeader, Unsupported, Limit}
use Rattle.qcow2_types.specs.Bytes.{Bytes, be, run}
use Rattle.qcow2_types.specs.Header.{Fields, Header, Rule, Extension, first_fault, ◌and-then◌, ◌>>=◌, rules_of_kind, rules_of_shape, rules_of_size, rules_of_writing, backing_name_read, has_backing_name, backing_name_of, extension_at, extensions_at, extensions_read, extensions_end, is_version_3, cluster_size, and_more, with_front, after, text_read, texts_of, header_of, fields_of, last_of}

-- The faults of a header by its bytes.
abbrev pub IsRefusal : Fault → Type 0
IsRefusal DamagedHeader = Unit {0}
IsRefusal Unsupported = Unit {0}
IsRefusal (Limit n) = Unit {0}
IsRefusal _ = ⊥

abbrev pub Only : {A : Type 0} → Result A Fault → Type 0
Only (Ok x) = Unit {0}
Only (Err e) = IsRefusal e

-- The rules have no other fault.
abbrev pub OnlySome : Option Fault → Type 0
OnlySome None = Unit {0}
OnlySome (Some e) = IsRefusal e

abbrev RulesOnly : List Rule → Type 0
RulesOnly [] = Unit {0}
RulesOnly (rule ∷ rules) = IsRefusal rule.1 × RulesOnly rules

only-rules : (rules : List Rule) → RulesOnly rules → OnlySome (first_fault rules)
only-rules [] all = tt
only-rules (rule ∷ rules) all = split rule.0 (first_fault rules) (only-rules rules all.1)
  where
    split : (b : Bool) (rest : Option Fault) → OnlySome rest → OnlySome (if b then Some rule.1 else rest)
    split true rest only = all.0
    split false rest only = only

only-then : {A : Type 0} (o : Option Fault) (r : Result A Fault) → OnlySome o → Only r → Only (o and-then r)
only-then None r first rest = rest
only-then (Some e) r first rest = first

only-bind : {A B : Type 0} (r : Result A Fault) (k : A → Result B Fault) → Only r → ((x : A) → Only (k x)) → Only (r >>= k)
only-bind (Ok x) k first rest = rest x
only-bind (Err e) k first rest = first

only-name : (f : Bytes) (h : Fields) → Only (backing_name_read f h)
only-name f h = split (has_backing_name h) (nat_lt 1023 h.backing_length || nat_lt (cluster_size h) (h.backing_offset + h.backing_length)) (is_utf8 (backing_name_of f h)) (backing_name_of f h)
  where
    read_as : Bool → Bool → Bool → List ℕ → Result (Option (List ℕ)) Fault
    read_as a b c bytes = elim a [ false ↦ Ok None | true ↦ elim b [ true ↦ Err DamagedHeader | false ↦ if c then Ok (Some bytes) else Err DamagedHeader ] ]

    split : (a b c : Bool) (bytes : List ℕ) → Only (read_as a b c bytes)
    split false b c bytes = tt
    split true true c bytes = tt
    split true false true bytes = tt
    split true false false bytes = tt

only-extension : (f : Bytes) (end at : ℕ) → Only (extension_at f end at)
unfolding extension_at
only-extension f end at = split (nat_lt end (at + 8) || (be f at 4 == 0)) (nat_lt end (at + 8 + be f (at + 4) 4)) (be f at 4, run f (at + 8) (be f (at + 4) 4))
  where
    split : (a b : Bool) (x : Extension) → Only (if a then Ok None else (if b then Err DamagedHeader else Ok (Some x)))
    split true b x = tt
    split false true x = tt
    split false false x = tt

only-front : (x : Extension) (r : Result (List Extension) Fault) → Only r → Only (with_front x r)
only-front x (Ok xs) only = tt
only-front x (Err e) only = only

only-more : (more : Extension → Result (List Extension) Fault) (found : Option Extension) → ((x : Extension) → Only (more x)) → Only (and_more more found)
only-more more None only = tt
only-more more (Some x) only = only-front x (more x) (only x)

only-extensions : (n : ℕ) (f : Bytes) (end at : ℕ) → Only (extensions_at n f end at)
unfolding extensions_at
only-extensions zero f end at = tt
only-extensions (suc n) f end at = only-bind (extension_at f end at) _ (only-extension f end at) (λ found. only-more _ found (λ x. only-extensions n f end (after at x)))

only-read : (f : Bytes) (h : Fields) → Only (extensions_read f h)
only-read f h = split (is_version_3 h) (extensions_at (cluster_size h / 8) f (extensions_end h) h.header_length) (only-extensions (cluster_size h / 8) f (extensions_end h) h.header_length)
  where
    split : (b : Bool) (r : Result (List Extension) Fault) → Only r → Only (elim b as (λ _. Result (List Extension) Fault) [ true ↦ r | false ↦ Ok [] ])
    split true r only = only
    split false r only = tt

only-text : (o : Option (List ℕ)) → Only (text_read o)
only-text None = tt
only-text (Some bytes) = split (is_utf8 bytes)
  where
    split : (b : Bool) → Only (if b then Ok (Some bytes) else Err DamagedHeader)
    split true = tt
    split false = tt

only-texts : (f : Bytes) (h : Fields) → Only (texts_of f h)
unfolding texts_of
only-texts f h =
    only-bind (backing_name_read f h) _ (only-name f h) (λ name.
    only-bind (extensions_read f h) _ (only-read f h) (λ xs.
    only-bind (text_read (last_of 0xE279_2ACA xs)) _ (only-text (last_of 0xE279_2ACA xs)) (λ format.
    only-bind (text_read (last_of 0x4441_5441 xs)) _ (only-text (last_of 0x4441_5441 xs)) (λ data_name. tt))))

only-header : (writing : Bool) (f : Bytes) → Only (header_of writing f)
unfolding header_of
only-header writing f =
    only-then (first_fault (rules_of_kind f)) _ (only-rules (rules_of_kind f) (tt, (tt, tt)))
    (only-then (first_fault (rules_of_shape (fields_of f))) _ (only-rules (rules_of_shape (fields_of f)) (tt, (tt, (tt, (tt, (tt, tt))))))
    (only-then (first_fault (rules_of_size (fields_of f))) _ (only-rules (rules_of_size (fields_of f)) (tt, (tt, (tt, (tt, (tt, tt))))))
    (only-bind (texts_of f (fields_of f)) _ (only-texts f (fields_of f)) (λ header.
    only-then (first_fault (rules_of_writing writing (fields_of f))) (Ok header) (only-rules (rules_of_writing writing (fields_of f)) (tt, (tt, tt))) tt))))

pub header-refusal : (writing : Bool) (f : Bytes) (e : Fault) → header_of writing f ≡ Err e → IsRefusal e
header-refusal writing f e refused = subst (Only {A = Header}) refused (only-header writing f)

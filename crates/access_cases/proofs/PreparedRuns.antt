-- Lemmas about the run that a one-cluster image prepares, and about the image after the commit.
use Rattle.std.proofs.Common.{◌≡◌, ℕ, zero, suc, ◌+◌, ◌*◌, ◌<◌, ◌≤◌, Bool, true, false, Option, Some, None, List, get_or, replicate, map, refl, sym, ◌∙◌, ap, subst, inl, inr, ⊎_elim, arith}
use Rattle.std.proofs.Math.ListN as ListN
use Rattle.std.proofs.lemmas.Bool.{cases_lt, ltb-false, le-ltb}
use Rattle.std.proofs.lemmas.Bool.Decides.{nat_tests}
use Rattle.std.proofs.lemmas.List.{get_or-replicate, get_or_past}
use Rattle.std.proofs.lemmas.Option.{cond_some}
use Rattle.std.proofs.Math.ListN.{length-replicate}
use Rattle.std.specs.Prelude.{[], ◌∷◌, length, max, slice_index, ◌&&◌, ◌⊎◌, if◌then◌else◌, ltb, leb, IsTrue}
use Rattle.std.specs.Option.{unwrap_or}
use Rattle.imago_storage.specs.Disk.{Value, byte}
use Rattle.imago_access.specs.Layer.{Layer, Cell, own, through, loose, beside, inside}
use Rattle.imago_access.specs.Room.{IsApart}
use Rattle.imago_access.specs.Changes.{IsHolding, TakesByte, asking, run_at, Prepared, CommitsPlace}
use Rattle.access_cases.specs.declared.clusters.Content.{Content}
use Rattle.access_cases.specs.declared.clusters.Content.TheVariants as variant
use Rattle.access_cases.specs.declared.clusters.PreparedRun.{PreparedRun}
use Rattle.access_cases.specs.Clusters.{cell_of, home_in, beside_in, held_in, held_of, blank_of, IsBare, HasRoom, IsRunOf}

is_inside : (start n p : ℕ) → start ≤ p → p < start + n → (leb start p && ltb p (start + n)) ≡ true
is_inside start n p ge lt = grind (arith, nat_tests)

is_outside : (start n p : ℕ) → (p < start) ⊎ (start + n ≤ p) → (leb start p && ltb p (start + n)) ≡ false
is_outside start n p out = elim out [ inl before ↦ grind (arith, nat_tests) | inr behind ↦ grind (arith, nat_tests) ]

home_inside : (start n i : ℕ) → i < n → home_in start (start + n) (start + i) ≡ Some (0, start + i)
home_inside start n i lt = rw (is_inside start n (start + i) (omega arith) (omega arith))

none_written : (n p : ℕ) → get_or (replicate {A = Option ℕ} n None) p None ≡ None
none_written n p = elim (cases_lt p n) [
  | inl lt ↦ get_or-replicate {A = Option ℕ} n p None None lt
  | inr past ↦ get_or_past (replicate {A = Option ℕ} n None) p None (omega (arith, length-replicate {A = Option ℕ}))
]

home_outside : (start end p : ℕ) → (leb start p && ltb p end) ≡ false → home_in start end p ≡ None
home_outside start end p out = rw out refl

-- A byte of the disk outside the run holds the 0 that it had.
beside_holds : (below : ℕ → Value) (layer : Layer) (start n size p : ℕ) (overwrite : Bool) → (leb start p && ltb p (start + n)) ≡ false
    → layer.cell p ≡ own (byte 0) → layer.writable_location p ≡ None → IsHolding below layer start n overwrite p (beside_in size p)
beside_holds below layer start n size p overwrite out blank home = from (ltb p size) where
  from : (b : Bool) → IsHolding below layer start n overwrite p (if b then beside 0 else loose)
  from true = ((λ there. absurd (cc (sym (is_inside start n p there.0 there.1) ∙ out))), ap (λ (c : Cell). through c (below p)) blank, home)
  from false = tt

run_holds : (below : ℕ → Value) (layer : Layer) (start n size p : ℕ) (overwrite : Bool) → layer.cell p ≡ own (byte 0) → layer.writable_location ≡ home_in start (start + n)
    → IsHolding below layer start n overwrite p (held_in size start (start + n) overwrite (replicate size None) p)
run_holds below layer start n size p overwrite blank home = from (leb start p && ltb p (start + n)) refl where
  from : (b : Bool) → (leb start p && ltb p (start + n)) ≡ b
      → IsHolding below layer start n overwrite p (if b then inside None (get_or (replicate size None) p None) overwrite else beside_in size p)
  from true is = ((grind (arith, nat_tests), grind (arith, nat_tests)), none_written size p, refl)
  from false is = beside_holds below layer start n size p overwrite is blank (ap (λ (h : ℕ → Option (ℕ × ℕ)). h p) home ∙ home_outside start (start + n) p is)

loose_past : (size p : ℕ) → size ≤ p → beside_in size p ≡ loose
loose_past size p past = rw (le-ltb p size past) refl

-- If a run of the disk doesn't touch a cluster, no byte of that cluster is on the disk. A cluster is at least as long as the disk.
behind_disk : (cluster size start n p u : ℕ) → size ≤ cluster → 0 < n → start + n ≤ size → u * cluster ≤ p → (u * cluster + cluster ≤ start) ⊎ (start + n ≤ u * cluster) → size ≤ p
behind_disk cluster size start n p zero long some within from out = absurd (⊎_elim (λ before. omega (arith, before, long, some, within)) (λ behind. omega (arith, behind, some)) out)
behind_disk cluster size start n p (suc u) long some within from out = omega (arith, from, long)

-- Such a byte isn't held.
pub apart_loose : (size start n p : ℕ) (overwrite : Bool) (written : List (Option ℕ)) → 0 < n → start + n ≤ size → IsApart (max size 1) start n p
    → held_in size start (start + n) overwrite written p ≡ loose
apart_loose size start n p overwrite written some within apart =
    let past = behind_disk (max size 1) size start n p apart.0 (omega arith) some within apart.1 apart.3 in
    rw (is_outside start n p (inr (omega (arith, past, within)))) (loose_past size p past)

-- DEL
pub run_prepared : (below : ℕ → Value) (old new : Layer) (start n size mapping_id : ℕ) (overwrite : Bool) → 0 < n
    → new.fixed ≡ old.fixed → new.size ≡ old.size → new.cell ≡ old.cell → new.unspent ≡ Some mapping_id
    → ((p : ℕ) → new.cell p ≡ own (byte 0)) → new.writable_location ≡ home_in start (start + n) → new.held ≡ held_in size start (start + n) overwrite (replicate size None)
    → Prepared below old new (asking start n overwrite) (run_at 0 start n (Some mapping_id))
run_prepared below old new start n size mapping_id overwrite some fixed same cell unspent blank home held = record {
  fixed = fixed;
  size = same;
  cell = cell;
  writable_location = λ i lt. rw home (home_inside start n i lt);
  unspent = unspent;
  holds = λ p. rw held (run_holds below new start n size p overwrite (blank p) home);
  some_held = λ c is. (start, None, (omega arith, omega arith), rw held (rw (is_inside start n start (omega arith) (omega arith)) (ap (λ (w : Option ℕ). inside None w overwrite) (none_written size start))));
}

-- DEL
pub run_fits : (size start n : ℕ) (backed : Bool) (written : List (Option ℕ)) → written ≡ replicate size None → start + n ≤ size → backed ≡ false → IsRunOf size backed start (start + n) written
run_fits size start n backed written unwritten within alone = rw unwritten (record {
  all = omega (arith, length-replicate {A = Option ℕ});
  inside = within;
  alone = alone;
  others = λ p out. none_written size p;
})

is_between : (start end p : ℕ) → start ≤ p → p < end → (leb start p && ltb p end) ≡ true
is_between start end p ge lt = grind (arith, nat_tests)

pub home_between : (start end p : ℕ) → start ≤ p → p < end → home_in start end p ≡ Some (0, p)
home_between start end p ge lt = rw (is_between start end p ge lt) refl

-- DEL
pub between_home : (start end p : ℕ) (at : ℕ × ℕ) → home_in start end p ≡ Some at → (start ≤ p) × (p < end)
between_home start end p at is = let parts = cond_some (leb start p && ltb p end) (0, p) at is in let tested = parts.0 in (grind (arith, nat_tests), grind (arith, nat_tests))

-- A write changes the held state of a written byte of the run.
pub takes_byte : (size start end p b : ℕ) (announced : Bool) (old new : List (Option ℕ)) (cell : Cell) → start ≤ p → p < end → get_or new p None ≡ Some b
    → TakesByte b (held_in size start end announced old p) cell (held_in size start end announced new p) cell
takes_byte size start end p b announced old new cell ge lt noted = rw (is_between start end p ge lt) (refl, ap (λ (w : Option ℕ). inside None w announced) noted)

pub stays_held : (size start end p : ℕ) (announced : Bool) (old new : List (Option ℕ)) → get_or new p None ≡ get_or old p None
    → held_in size start end announced new p ≡ held_in size start end announced old p
stays_held size start end p announced old new same = rw same refl

outside : (start end p : ℕ) → (leb start p && ltb p end) ≡ false → (p < start) ⊎ (end ≤ p)
outside start end p out = elim (cases_lt p start) [
  | inl before ↦ inl before
  | inr from ↦ elim (cases_lt p end) [ inl within ↦ absurd (grind (arith, nat_tests)) | inr behind ↦ inr behind ]
]

settled_to : (written : Option ℕ) (announced : Bool) (v : ℕ) → v ≡ unwrap_or written 0 → CommitsPlace (inside None written announced) (own (byte 0)) (own (byte v))
settled_to (Some b) announced v is = ap (λ x. own (byte x)) is
settled_to None true v is = inl (ap (λ x. own (byte x)) is)
settled_to None false v is = ap (λ x. own (byte x)) is

-- DEL
beside_settles : (size p : ℕ) (c : Cell) → c ≡ own (byte 0) → CommitsPlace (beside_in size p) (own (byte 0)) c
beside_settles size p c is = from (ltb p size) where
  from : (b : Bool) → CommitsPlace (if b then beside 0 else loose) (own (byte 0)) c
  from true = is
  from false = is

-- After the commit, a byte has the value that was written, or else its old value.
pub settled_cell : (size start end p : ℕ) (backed announced : Bool) (written : List (Option ℕ)) (bytes : List ℕ) → IsRunOf size backed start end written
    → bytes ≡ map (λ w. unwrap_or w 0) written → CommitsPlace (held_in size start end announced written p) (blank_of backed) (own (byte (get_or bytes p 0)))
settled_cell size start end p backed announced written bytes run is = rw run.alone (from (leb start p && ltb p end) refl) where
  place : get_or bytes p 0 ≡ unwrap_or (get_or written p None) 0
  place = rw is (ListN.get_or-map (λ (w : Option ℕ). unwrap_or w 0) written p None)

  from : (b : Bool) → (leb start p && ltb p end) ≡ b → CommitsPlace (if b then inside None (get_or written p None) announced else beside_in size p) (own (byte 0)) (own (byte (get_or bytes p 0)))
  from true in_run = settled_to (get_or written p None) announced (get_or bytes p 0) place
  from false out = beside_settles size p (own (byte (get_or bytes p 0)))
      (ap (λ x. own (byte x)) (place ∙ ap (λ (w : Option ℕ). unwrap_or w 0) (run.others p (outside start end p out))))

-- A byte of the run keeps its writable location.
pub home_kept : (size start end p : ℕ) (writable : Bool) (at : ℕ × ℕ) → end ≤ size → IsTrue writable → home_in start end p ≡ Some at → home_in 0 (if writable then size else 0) p ≡ Some at
home_kept size start end p writable at within opened is =
    let parts = cond_some (leb start p && ltb p end) (0, p) at is in
    let tested = parts.0 in
    let before : p < size = grind (arith, nat_tests) in
    let there : (leb 0 p && ltb p size) ≡ true = grind (arith, nat_tests) in
    rw opened (rw there (ap (λ (x : ℕ × ℕ). Some x) parts.1))

-- DEL
pub mapped_home : (size p : ℕ) (writable : Bool) → IsTrue writable → p < size → home_in 0 (if writable then size else 0) p ≡ Some (0, p)
mapped_home size p writable opened lt =
    let there : (leb 0 p && ltb p size) ≡ true = grind (arith, nat_tests) in
    rw opened (rw there refl)

-- DEL
pub file_means : (blank : Cell) (bytes : List ℕ) (p : ℕ) → p < length bytes → cell_of blank bytes p ≡ own (byte (slice_index bytes p))
file_means blank [] p lt = absurd (omega (arith, lt))
file_means blank (first ∷ bytes) p lt = refl

beside_past : (size p : ℕ) → beside_in size p ≡ loose → size ≤ p
beside_past size p is = from (ltb p size) refl is where
  from : (b : Bool) → ltb p size ≡ b → (if b then beside 0 else loose) ≡ loose → size ≤ p
  from true before is = absurd (cc is)
  from false past is = ltb-false p size past

taken_past : (size start end p : ℕ) (announced : Bool) (written : List (Option ℕ)) → held_in size start end announced written p ≡ loose → size ≤ p
taken_past size start end p announced written is = from (leb start p && ltb p end) is where
  from : (b : Bool) → (if b then inside None (get_or written p None) announced else beside_in size p) ≡ loose → size ≤ p
  from true is = absurd (cc is)
  from false is = beside_past size p is

-- A prepared run holds every byte of the disk.
pub free_past : (content : Content) (run : PreparedRun) (size p : ℕ) → content ≡ variant.Prepared run → held_of content size p ≡ loose → size ≤ p
free_past content run size p is free = taken_past size run.start run.end p run.overwrite run.written.items (subst (λ (c : Content). held_of c size p ≡ loose) is free)

-- DEL
pub room_by : (content other : Content) (size p : ℕ) → content ≡ other → HasRoom content size p → HasRoom other size p
room_by content other size p is room = subst (λ (c : Content). HasRoom c size p) is room

-- No byte of a mapped or barred disk is unallocated.
pub mapped_bare : (content : Content) (size p : ℕ) → content ≡ variant.Mapped → p < size → IsBare content size p → ⊥
mapped_bare content size p is before bare = ⊎_elim (λ past. absurd (omega (arith, past, before))) (λ none. none) (subst (λ (c : Content). IsBare c size p) is bare)

pub barred_bare : (content : Content) (size p : ℕ) → content ≡ variant.Barred → p < size → IsBare content size p → ⊥
barred_bare content size p is before bare = ⊎_elim (λ past. absurd (omega (arith, past, before))) (λ none. none) (subst (λ (c : Content). IsBare c size p) is bare)

-- The bytes of a prepared mapping, from its preparation to its commit or cancel.
use Rattle.std.proofs.Common.{◌≡◌, ◌⊎◌, refl, inl, inr, ℕ, ◌+◌, ◌-◌, ◌<◌, Bool, true, false, Option, Some, None, List, ◌∷◌, length, slice_index, IsTrue, arith, sym, ◌∙◌, ap, subst}
use Rattle.std.proofs.lemmas.Bool.{cases_lt, lt-ltb}
use Rattle.imago_storage.specs.Disk.{Value, byte}
use Rattle.imago_storage.specs.Steps.{IsIn, IsOut}
use Rattle.imago_access.specs.Layer.{Layer, Cell, own, through, Held, loose, beside, inside, Fixed, IsFree, KeepsLayerState}
use Rattle.imago_access.specs.Chain.{at}
use Rattle.imago_access.specs.Changes.{asking, run_at, IsHolding, Prepared, TakesByte, Wrote, CommitsPlace, Committed, Cancelled}
use Rattle.imago_access.specs.Parts.{IsMappedAt}
use Rattle.imago_access.specs.Running.{IsTruly, HoldsTrue, IsBetween}
use Rattle.imago_access.specs.Spending.{IsMine, Spends}
use Rattle.imago_access.specs.Stops.{MayTake, GivesBytes, GivesHeld, GivesSettled}
use Rattle.imago_access.specs.declared.driver_model.DriverModel.{Ghosts}

pub at_inside : (layer : Layer) (below : List Layer) (p : ℕ) → p < layer.size → at (layer ∷ below) p ≡ through (layer.cell p) (at below p)
at_inside layer below p lt = rw (lt-ltb p layer.size lt) refl

pub at_alike : (a b : Layer) (below : List Layer) (p : ℕ) → b.size ≡ a.size → through (b.cell p) (at below p) ≡ through (a.cell p) (at below p) → at (b ∷ below) p ≡ at (a ∷ below) p
at_alike a b below p size same = rw (size, same) refl

pub out_or_in : (offset n p : ℕ) → IsOut offset n p ⊎ IsIn offset n p
out_or_in offset n p = elim (cases_lt p offset) [
  | inl low ↦ inl (inl low)
  | inr from ↦ elim (cases_lt p (offset + n)) [ inl to ↦ inr (from, to) | inr past ↦ inl (inr past) ]
]

-- Preparation.

holding_truly : (below : ℕ → Value) (layer : Layer) (offset n : ℕ) (overwrite : Bool) (p : ℕ) (h : Held) → IsHolding below layer offset n overwrite p h → IsTruly below layer p h
holding_truly below layer offset n overwrite p loose holding = tt
holding_truly below layer offset n overwrite p (beside b) holding = (holding.1, holding.2)
holding_truly below layer offset n overwrite p (inside (Some b) written announced) holding = holding.3
holding_truly below layer offset n overwrite p (inside None written announced) holding = tt

pub truly_prepared : (below : ℕ → Value) (old new : Layer) (offset asked : ℕ) (overwrite : Bool) (storage place n : ℕ) (mapping_id : Option ℕ) → Prepared below old new (asking offset asked overwrite) (run_at storage place n mapping_id) → HoldsTrue below new
truly_prepared below old new offset asked overwrite storage place n mapping_id prepared p = holding_truly below new offset n overwrite p (new.held p) (prepared.holds p)

-- Writes.

truly_same : (below : ℕ → Value) (old new : Layer) (p : ℕ) (h : Held) → new.cell p ≡ old.cell p → new.writable_location p ≡ old.writable_location p → IsTruly below old p h → IsTruly below new p h
truly_same below old new p loose cell home truly = tt
truly_same below old new p (beside b) cell home truly = (ap (λ (c : Cell). through c (below p)) cell ∙ truly.0, home ∙ truly.1)
truly_same below old new p (inside (Some b) written announced) cell home truly = ap (λ (c : Cell). through c (below p)) cell ∙ truly
truly_same below old new p (inside None written announced) cell home truly = tt

takes_truly : (below : ℕ → Value) (old new : Layer) (p b : ℕ) (h held : Held) → (old.writable_location p ≡ None → ⊥) → IsTruly below old p h → TakesByte b h (old.cell p) held (new.cell p) → IsTruly below new p held
takes_truly below old new p b loose held mapped truly takes = subst (IsTruly below new p) (sym takes.1) tt
takes_truly below old new p b (beside copied) held mapped truly takes = absurd (mapped truly.1)
takes_truly below old new p b (inside (Some copied) written announced) held mapped truly takes = subst (IsTruly below new p) (sym takes.1) (ap (λ (c : Cell). through c (below p)) takes.0 ∙ truly)
takes_truly below old new p b (inside None written announced) held mapped truly takes = subst (IsTruly below new p) (sym takes.1) tt

-- A write to the mapping keeps the copied bytes true.
pub truly_wrote : (below : ℕ → Value) (old new : Layer) (guest place : ℕ) (bytes : List ℕ) → (0 < length bytes → IsMappedAt old guest place (length bytes)) → Wrote old new guest bytes → HoldsTrue below old → HoldsTrue below new
truly_wrote below old new guest place bytes mapped wrote truly p = elim (out_or_in guest (length bytes) p) [
  | inl out ↦
      let same = wrote.others p out in
      subst (IsTruly below new p) (sym same.1) (truly_same below old new p (old.held p) same.0 (ap (λ (h : ℕ → Option (ℕ × ℕ)). h p) wrote.writable_location) (truly p))
  | inr into ↦
      let i = p - guest in
      let is : guest + i ≡ p = omega (arith, into.0) in
      let lt : i < length bytes = omega (arith, into.0, into.1) in
      let there = mapped (omega (arith, lt)) in
      subst (λ (q : ℕ). IsTruly below new q (new.held q)) is
      (takes_truly below old new (guest + i) (slice_index bytes i) (old.held (guest + i)) (new.held (guest + i)) (λ none. cc (none, there.1 i lt)) (truly (guest + i)) (wrote.range i lt))
]

takes_cell : (b : ℕ) (h : Held) (was : Cell) (held : Held) (is : Cell) → TakesByte b h was held is → (is ≡ own (byte b)) ⊎ (is ≡ was)
takes_cell b loose was held is takes = inl takes.0
takes_cell b (beside copied) was held is takes = inl takes.0
takes_cell b (inside copied written announced) was held is takes = inr takes.0

pub between_wrote : (below : List Layer) (old new : Layer) (guest : ℕ) (bytes : List ℕ) → Wrote old new guest bytes → IsBetween (GivesBytes guest bytes) below old new
between_wrote below old new guest bytes wrote p lt_size = elim (out_or_in guest (length bytes) p) [
  | inl out ↦ inl (at_alike old new below p wrote.keeps_layer_state.size (ap (λ (c : Cell). through c (at below p)) (wrote.others p out).0))
  | inr into ↦
      let i = p - guest in
      let is : guest + i ≡ p = omega (arith, into.0) in
      let lt : i < length bytes = omega (arith, into.0, into.1) in
      elim (takes_cell (slice_index bytes i) (old.held (guest + i)) (old.cell (guest + i)) (new.held (guest + i)) (new.cell (guest + i)) (wrote.range i lt)) [
        | inl written ↦ inr (i, lt, sym is, at_inside new below p (rw (wrote.keeps_layer_state.size) lt_size) ∙ ap (λ (q : ℕ). through (new.cell q) (at below p)) (sym is) ∙ ap (λ (c : Cell). through c (at below p)) written)
        | inr same ↦ inl (at_alike old new below p wrote.keeps_layer_state.size (ap (λ (c : Cell). through c (at below p)) (subst (λ (q : ℕ). new.cell q ≡ old.cell q) is same)))
      ]
]

-- Commit and cancel.

-- A committed byte reads as before, or as a byte that may have been written to it.
settled_value : (below : ℕ → Value) (layer : Layer) (p : ℕ) (h : Held) (is : Cell) → IsTruly below layer p h → CommitsPlace h (layer.cell p) is
    → (through is (below p) ≡ through (layer.cell p) (below p)) ⊎ MayTake h (through is (below p))
settled_value below layer p loose is truly settles = inl (ap (λ (c : Cell). through c (below p)) settles)
settled_value below layer p (beside b) is truly settles = inl (ap (λ (c : Cell). through c (below p)) settles ∙ sym truly.0)
settled_value below layer p (inside copied (Some b) announced) is truly settles = inr (ap (λ (c : Cell). through c (below p)) settles)
settled_value below layer p (inside (Some b) None announced) is truly settles = inl (ap (λ (c : Cell). through c (below p)) settles ∙ sym truly)
settled_value below layer p (inside None None true) is truly settles = elim settles [
  | inl same ↦ inl (ap (λ (c : Cell). through c (below p)) same)
  | inr became ↦ inr (became.1.0, became.1.1, ap (λ (c : Cell). through c (below p)) became.2 ∙ became.1.2)
]
settled_value below layer p (inside None None false) is truly settles = inl (ap (λ (c : Cell). through c (below p)) settles)

pub between_settled : (below : List Layer) (old new : Layer) → new.size ≡ old.size → HoldsTrue (at below) old → ((p : ℕ) → CommitsPlace (old.held p) (old.cell p) (new.cell p)) → IsBetween (GivesHeld old) below old new
between_settled below old new size truly settles p lt_size = elim (settled_value (at below) old p (old.held p) (new.cell p) (truly p) (settles p)) [
  | inl same ↦ inl (at_alike old new below p size same)
  | inr took ↦ inr (subst (MayTake (old.held p)) (sym (at_inside new below p (rw size lt_size))) took)
]

-- A byte that a crash image of a commit may give is the old one, or one that may have been written.
pub settled_given : (below : List Layer) (layer : Layer) → HoldsTrue (at below) layer → (p : ℕ) (v : Value) → p < layer.size → GivesSettled below layer p v → (v ≡ at (layer ∷ below) p) ⊎ GivesHeld layer p v
settled_given below layer truly p v lt_size gives = elim (settled_value (at below) layer p (layer.held p) gives.0 (truly p) gives.1) [
  | inl same ↦ inl (gives.2 ∙ same ∙ sym (at_inside layer below p lt_size))
  | inr took ↦ inr (subst (MayTake (layer.held p)) (sym gives.2) took)
]

pub mine_on : {D St : Type 0} (g : Ghosts D St) (state : Option St) (old new : Layer) → KeepsLayerState old new → IsMine g state old → IsMine g state new
mine_on g None old new like mine = tt
mine_on g (Some s) old new like mine = (mine.0 ∙ ap (λ (x : Fixed). x.number) (sym like.fixed), like.unspent ∙ mine.1)

-- A mapping without state holds no byte, so spending it changes nothing.
pub spent_settles : {D St : Type 0} (g : Ghosts D St) (state : Option St) (old new : Layer) → IsMine g state old → (state ≡ None → (p : ℕ) → old.held p ≡ loose) → Spends g state old new (Committed old new)
    → (p : ℕ) → CommitsPlace (old.held p) (old.cell p) (new.cell p)
spent_settles g None old new mine none spends p = subst (λ (h : Held). CommitsPlace h (old.cell p) (new.cell p)) (sym (none refl p)) (ap (λ (l : Layer). l.cell p) spends)
spent_settles g (Some s) old new mine none spends p = (spends.1 mine.1).cell p

pub spends_more : {D St : Type 0} (g : Ghosts D St) (state : Option St) (old new : Layer) (P Q : Type 0) → (P → Q) → Spends g state old new P → Spends g state old new Q
spends_more g None old new P Q more spends = spends
spends_more g (Some s) old new P Q more spends = (spends.0, λ is. more (spends.1 is))

-- A cancelled mapping changes no byte.
pub given_up_fixed : {D St : Type 0} (g : Ghosts D St) (state : Option St) (old new : Layer) → IsMine g state old → Spends g state old new (Cancelled old new) → new.fixed ≡ old.fixed
given_up_fixed g None old new mine spends = ap (λ (l : Layer). l.fixed) spends
given_up_fixed g (Some s) old new mine spends = (spends.1 mine.1).fixed

pub given_up_size : {D St : Type 0} (g : Ghosts D St) (state : Option St) (old new : Layer) → IsMine g state old → Spends g state old new (Cancelled old new) → new.size ≡ old.size
given_up_size g None old new mine spends = ap (λ (l : Layer). l.size) spends
given_up_size g (Some s) old new mine spends = (spends.1 mine.1).size

pub given_up_failed : {D St : Type 0} (g : Ghosts D St) (state : Option St) (old new : Layer) → IsMine g state old → Spends g state old new (Cancelled old new) → IsTrue old.failed → IsTrue new.failed
given_up_failed g None old new mine spends f = subst (λ (l : Layer). IsTrue l.failed) (sym spends) f
given_up_failed g (Some s) old new mine spends f = subst (λ b. IsTrue b) (sym (spends.1 mine.1).failed) f

pub given_up_cell : {D St : Type 0} (g : Ghosts D St) (state : Option St) (old new : Layer) → IsMine g state old → Spends g state old new (Cancelled old new) → new.cell ≡ old.cell
given_up_cell g None old new mine spends = ap (λ (l : Layer). l.cell) spends
given_up_cell g (Some s) old new mine spends = (spends.1 mine.1).cell

pub given_up_free : {D St : Type 0} (g : Ghosts D St) (state : Option St) (old new : Layer) → IsMine g state old → (state ≡ None → IsFree old) → Spends g state old new (Cancelled old new) → IsFree new
given_up_free g None old new mine stateless spends = ap (λ (l : Layer). l.unspent) spends ∙ stateless refl
given_up_free g (Some s) old new mine stateless spends = (spends.1 mine.1).is_free

-- Preparation and writes together.

holding_takes : (below : ℕ → Value) (layer : Layer) (offset n : ℕ) (overwrite : Bool) (p : ℕ) (h : Held) (v : Value) → IsHolding below layer offset n overwrite p h → IsOut offset n p → MayTake h v → ⊥
holding_takes below layer offset n overwrite p loose v holding out takes = takes
holding_takes below layer offset n overwrite p (beside b) v holding out takes = takes
holding_takes below layer offset n overwrite p (inside (Some b) written announced) v holding out takes = elim out [ inl low ↦ omega (arith, low, holding.0.0) | inr past ↦ omega (arith, past, holding.0.1) ]
holding_takes below layer offset n overwrite p (inside None written announced) v holding out takes = elim out [ inl low ↦ omega (arith, low, holding.0.0) | inr past ↦ omega (arith, past, holding.0.1) ]

took_byte : (b : ℕ) (h : Held) (was : Cell) (held : Held) (is : Cell) (v : Value) → TakesByte b h was held is → MayTake held v → v ≡ byte b
took_byte b loose was held is v takes may = absurd (subst (λ (x : Held). MayTake x v) takes.1 may)
took_byte b (beside copied) was held is v takes may = absurd (subst (λ (x : Held). MayTake x v) takes.1 may)
took_byte b (inside copied written announced) was held is v takes may = subst (λ (x : Held). MayTake x v) takes.1 may

-- The bytes that a commit may give are the written bytes of the run.
pub held_written : (below : ℕ → Value) (old mid new : Layer) (offset asked : ℕ) (overwrite : Bool) (storage place : ℕ) (bytes : List ℕ) (mapping_id : Option ℕ)
    → Prepared below old mid (asking offset asked overwrite) (run_at storage place (length bytes) mapping_id) → Wrote mid new offset bytes → (p : ℕ) (v : Value) → GivesHeld new p v → GivesBytes offset bytes p v
held_written below old mid new offset asked overwrite storage place bytes mapping_id prepared wrote p v gives = elim (out_or_in offset (length bytes) p) [
  | inl out ↦ absurd (holding_takes below mid offset (length bytes) overwrite p (mid.held p) v (prepared.holds p) out (subst (λ (h : Held). MayTake h v) (wrote.others p out).1 gives))
  | inr into ↦
      let i = p - offset in
      let is : offset + i ≡ p = omega (arith, into.0) in
      let lt : i < length bytes = omega (arith, into.0, into.1) in
      (i, lt, sym is, took_byte (slice_index bytes i) (mid.held (offset + i)) (mid.cell (offset + i)) (new.held (offset + i)) (new.cell (offset + i)) v (wrote.range i lt) (subst (λ (q : ℕ). MayTake (new.held q) v) (sym is) gives))
]

-- Allocations over consecutive calls.
use Rattle.std.proofs.Common.{◌≡◌, refl, ◌∙◌, inl, inr, ℕ, ◌+◌, ◌-◌, ◌*◌, ◌<◌, ◌≤◌, min, List, length, take, arith, sym, subst}
use Rattle.std.specs.Prelude.{⊤}
use Rattle.std.proofs.lemmas.Grind.{common_steps}
use Rattle.std.proofs.lemmas.Bool.{cases_lt}
use Rattle.imago_storage.specs.Steps.{IsIn, IsOut}
use Rattle.imago_access.specs.Layer.{Layer, Fixed, loose}
use Rattle.imago_access.specs.Changes.{Wrote}
use Rattle.imago_access.specs.RangeCalls.{IsZeroedBy}
use Rattle.imago_access.specs.declared.access.zeroing.Zeroing.{Zeroing}
use Rattle.imago_access.specs.declared.access.zeroing.Zeroing.TheVariants.{Keep, GiveUp}
use Rattle.imago_access.specs.Room.{IsWholeUnit, IsOfUnit, IsApart, Reaches, IsGivenUp, IsGivenUpTo, LeavesAllocation, Takes, GivesUp}
use Rattle.imago_access.specs.declared.driver_model.DriverModel.{Ghosts}

pub apart_wider : (unit offset n start m p : ℕ) → offset ≤ start → start + m ≤ offset + n → IsApart unit offset n p → IsApart unit start m p
apart_wider unit offset n start m p from to apart = (apart.0, apart.1, apart.2, elim apart.3 [ inl before ↦ inl (omega (arith, before, from)) | inr behind ↦ inr (omega (arith, behind, to)) ])

pub apart_out : (unit offset n p : ℕ) → IsApart unit offset n p → IsOut offset n p
apart_out unit offset n p apart = elim apart.3 [ inl before ↦ inl (omega (arith, before, apart.2)) | inr behind ↦ inr (omega (arith, behind, apart.1)) ]

pub out_wider : (offset n start m p : ℕ) → offset ≤ start → start + m ≤ offset + n → IsOut offset n p → IsOut start m p
out_wider offset n start m p from to out = elim out [ inl before ↦ inl (omega (arith, before, from)) | inr behind ↦ inr (omega (arith, behind, to)) ]

pub whole_rest : (unit size offset n at u : ℕ) → IsWholeUnit unit size offset n u → at ≤ u * unit → IsWholeUnit unit size at (offset + n - at) u
whole_rest unit size offset n at u whole from = record { start = from; on_disk = whole.on_disk; end = omega (arith, whole.end) }

pub none_behind : (unit size offset n at u p : ℕ) → IsWholeUnit unit size offset n u → offset + n ≤ at → at ≤ u * unit → IsOfUnit unit size u p → ⊥
none_behind unit size offset n at u p whole over from of = omega (arith, whole.end, over, from, of.start, of.end, of.on_disk)

module _ (unallocated : ℕ → Type 0) (unit size offset n : ℕ) where
  pub given_none : IsGivenUpTo unallocated unit size offset n offset
  given_none u whole = inl whole.start

  -- The first part.
  pub given_part : (start done : ℕ) → Reaches unit size offset n start done → ((p : ℕ) → IsIn start done p → unallocated p) → IsGivenUpTo unallocated unit size offset n (start + done)
  given_part start done reach gave u whole = elim (cases_lt (u * unit) (start + done)) [
    | inl lt ↦
        let cut = reach.none_cut u whole lt in
        inr (cut, λ p of. gave p (omega (arith, reach.none_before u whole, of.start), omega (arith, of.end, of.on_disk, cut)))
    | inr ge ↦ inl ge
  ]

  -- An empty part: the range has no whole unit.
  pub given_empty : (start at : ℕ) → Reaches unit size offset n start 0 → IsGivenUpTo unallocated unit size offset n at
  given_empty start at reach u whole = absurd (omega (arith, reach.nonempty u whole))

  pub given_all : (at : ℕ) → offset + n ≤ at → IsGivenUpTo unallocated unit size offset n at → IsGivenUp unallocated unit size offset n
  given_all at over given u whole p of = elim (given u whole) [
    | inl from ↦ absurd (none_behind unit size offset n at u p whole over from of)
    | inr done ↦ done.1 p of
  ]

  -- One more part. It allocates nothing where the parts before it have deallocated.
  pub given_both : (before : ℕ → Type 0) (at next : ℕ) → at ≤ next
      → ((p u : ℕ) → IsOfUnit unit size u p → min (u * unit + unit) size ≤ at → before p → unallocated p)
      → IsGivenUpTo before unit size offset n at → IsGivenUpTo unallocated unit size at (offset + n - at) next → IsGivenUpTo unallocated unit size offset n next
  given_both before at next further stays first second u whole = elim (first u whole) [
    | inl from ↦ second u (whole_rest unit size offset n at u whole from)
    | inr done ↦ inr (omega (arith, done.0, further), λ p of. stays p u of done.0 (done.1 p of))
  ]

pub given_on : (before unallocated : ℕ → Type 0) (unit size offset n at : ℕ) → ((u p : ℕ) → IsWholeUnit unit size offset n u → IsOfUnit unit size u p → before p → unallocated p) → IsGivenUpTo before unit size offset n at → IsGivenUpTo unallocated unit size offset n at
given_on before unallocated unit size offset n at stays given u whole = elim (given u whole) [
  | inl rest ↦ inl rest
  | inr done ↦ inr (done.0, λ p of. stays u p whole of (done.1 p of))
]

pub ended_apart : (unit size at m u p : ℕ) → at < size → min (u * unit + unit) size ≤ at → IsOfUnit unit size u p → IsApart unit at m p
ended_apart unit size at m u p inside ended of = (u, of.start, of.end, inl (omega (arith, inside, ended)))

pub begun_apart : (unit size offset start u p : ℕ) → offset ≤ start → start ≤ u * unit → IsOfUnit unit size u p → IsApart unit offset (start - offset) p
begun_apart unit size offset start u p from behind of = (u, of.start, of.end, inr (omega (arith, from, behind)))

pub given_rest : (unallocated : ℕ → Type 0) (unit size offset n : ℕ) (before : ℕ → Type 0) (at start : ℕ) → ((p : ℕ) → before p → unallocated p) → IsGivenUpTo before unit size offset n at → Reaches unit size at (offset + n - at) start 0 → IsGivenUp unallocated unit size offset n
given_rest unallocated unit size offset n before at start stays first reach =
    let past = at + (offset + n) in
    given_all unallocated unit size offset n past (omega arith) (given_both unallocated unit size offset n before at past (omega arith) (λ p u of low is. stays p is) first (given_empty unallocated unit size at (offset + n - at) start past reach))

module _ {D St : Type 0} (g : Ghosts D St) where
  pub room_same : (left spared : ℕ → Type 0) (d : D) → LeavesAllocation g left spared d d
  room_same left spared d = record { stays_allocated = λ p there has. has; free = λ p there is. is; zeroes = λ p there there' is. is }

  pub room_both : (left left' left'' spared spared' spared'' : ℕ → Type 0) (a b c : D) → ((p : ℕ) → left'' p → left p × left' p) → ((p : ℕ) → spared'' p → spared p × spared' p)
      → LeavesAllocation g left spared a b → LeavesAllocation g left' spared' b c → LeavesAllocation g left'' spared'' a c
  room_both left left' left'' spared spared' spared'' a b c from to first second = record {
    stays_allocated = λ p there has. second.stays_allocated p (from p there).1 (first.stays_allocated p (from p there).0 has);
    free = λ p there is. second.free p (to p there).1 (first.free p (to p there).0 is);
    zeroes = λ p there there' is. second.zeroes p (from p there).1 (to p there').1 (first.zeroes p (from p there).0 (to p there').0 is);
  }

  pub takes_both : (spared spared' spared'' : ℕ → Type 0) (a b c : D) → ((p : ℕ) → spared'' p → spared p × spared' p) → Takes g spared a b → Takes g spared' b c → Takes g spared'' a c
  takes_both spared spared' spared'' a b c = room_both (λ _. ⊤) (λ _. ⊤) (λ _. ⊤) spared spared' spared'' a b c (λ p there. (tt, tt))

  -- A run is prepared, written and spent. Bytes that aren't held get no allocation.
  pub takes_run : (spared : ℕ → Type 0) (a b c e : D) → Takes g (λ _. ⊤) a b → Takes g (λ _. ⊤) b c
      → ((p : ℕ) → spared p → (g.layer c).held p ≡ loose) → Takes g (λ p. (g.layer c).held p ≡ loose) c e → Takes g spared a e
  takes_run spared a b c e first second free third =
      takes_both (λ _. ⊤) (λ p. (g.layer c).held p ≡ loose) spared a c e (λ p there. (tt, free p there)) (takes_both (λ _. ⊤) (λ _. ⊤) (λ _. ⊤) a b c (λ p there. (tt, tt)) first second) third

  -- A discard of the rest of a range, after one of its start.
  pub gives_up_both : (offset n start m : ℕ) (a b c : D) → offset ≤ start → start + m ≤ offset + n → GivesUp g offset n a b → GivesUp g start m b c → GivesUp g offset n a c
  gives_up_both offset n start m a b c from to = room_both (IsOut offset n) (IsOut start m) (IsOut offset n) (λ _. ⊤) (λ _. ⊤) (λ _. ⊤) a b c (λ p out. (out, out_wider offset n start m p from to out)) (λ p there. (tt, tt))

pub room_fewer : {D St : Type 0} (g : Ghosts D St) (left left' spared : ℕ → Type 0) (a b : D) → ((p : ℕ) → left' p → left p) → LeavesAllocation g left spared a b → LeavesAllocation g left' spared a b
room_fewer g left left' spared a b from h = record { stays_allocated = λ p there. h.stays_allocated p (from p there); free = h.free; zeroes = λ p there. h.zeroes p (from p there) }

-- A zeroed or deallocated byte stays so in a call that leaves its allocation.
pub left_on : {D St : Type 0} (g : Ghosts D St) (left spared : ℕ → Type 0) (zeroing : Zeroing) (a b : D) (p : ℕ) → (zeroing ≡ Keep → left p) → spared p
    → LeavesAllocation g left spared a b → IsZeroedBy zeroing (g.unallocated a) (g.zeroed a) p → IsZeroedBy zeroing (g.unallocated b) (g.zeroed b) p
left_on g left spared Keep a b p there apart room is = room.zeroes p (there refl) apart is
left_on g left spared GiveUp a b p there apart room is = room.free p apart is

-- A call on a part of a range, after calls on other parts.
pub room_then : {D St : Type 0} (g : Ghosts D St) (left left' : ℕ → Type 0) (offset n start m : ℕ) (a b c : D) → (g.layer b).fixed ≡ (g.layer a).fixed → offset ≤ start → start + m ≤ offset + n → ((p : ℕ) → left p → left' p)
    → LeavesAllocation g left (IsApart (g.layer a).fixed.unit offset n) a b → LeavesAllocation g left' (IsApart (g.layer b).fixed.unit start m) b c → LeavesAllocation g left (IsApart (g.layer a).fixed.unit offset n) a c
room_then g left left' offset n start m a b c fixed from to more first second =
    room_both g left left' left (IsApart (g.layer a).fixed.unit offset n) (IsApart (g.layer b).fixed.unit start m) (IsApart (g.layer a).fixed.unit offset n) a b c (λ p there. (there, more p there))
    (λ p apart. (apart, subst (λ (f : Fixed). IsApart f.unit start m p) (sym fixed) (apart_wider (g.layer a).fixed.unit offset n start m p from to apart))) first second

pub apart_loose : (unit offset n : ℕ) (bytes : List ℕ) (mid new : Layer) → n ≤ length bytes → ((p : ℕ) → IsApart unit offset (length bytes) p → mid.held p ≡ loose) → Wrote mid new offset (take n bytes) → (p : ℕ) → IsApart unit offset (length bytes) p → new.held p ≡ loose
apart_loose unit offset n bytes mid new most near wrote p apart =
    let long : length (take n bytes) ≡ n = grind (arith, common_steps) in
    (wrote.others p (out_wider offset (length bytes) offset (length (take n bytes)) p (omega arith) (omega (arith, long, most)) (apart_out unit offset (length bytes) p apart))).1 ∙ near p apart

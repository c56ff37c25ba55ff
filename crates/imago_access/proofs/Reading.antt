-- Reads of a chain, run by run.
use Rattle.std.proofs.Common.{◌≡◌, refl, inl, inr, ℕ, ◌+◌, ◌-◌, ◌<◌, ◌≤◌, ◌^◌, List, [], ◌∷◌, length, arith, sym, ◌∙◌, ap, subst}
use Rattle.std.specs.Prelude.{⊤, Result, Ok, Err, OnOk, Bool, map, slice_index, if◌then◌else◌, IfErr, IsErrOf}
use Rattle.std.proofs.lemmas.Bool.{cases_lt, le-ltb}
use Rattle.imago_storage.specs.State.{StorageState, IsAlignment}
use Rattle.imago_storage.specs.Through.{Overflows, round_up}
use Rattle.imago_storage.specs.Disk.{byte, Shows, Value}
use Rattle.imago_storage.specs.Steps.{Step, read, bytes_read}
use Rattle.imago_storage.specs.declared.fault.Fault.{Fault}
use Rattle.imago_storage.proofs.Rounding.{le_round_up, round_up-le}
use Rattle.imago_access.specs.Layer.{Layer, through, hold_of, unit_of_layer}
use Rattle.imago_access.specs.Chain.{at, disk_of, Each, unit_of_chain}
use Rattle.imago_access.specs.Files.{Pairs, HadNoResourceError, files_of}
use Rattle.imago_access.specs.Layers.{chain}
use Rattle.imago_access.specs.Going.{LookupCall, LookupCallBelow}
use Rattle.imago_access.specs.Refusals.{ReadCause}
use Rattle.imago_access.specs.Running.{below_ghosts}
use Rattle.imago_access.proofs.Looking.{seen_by, chain_cut, chain_like, chain_later, chain_faults, chain_kept, chain_deeper, chain_same, chain_sees, chain_safe, chain_lasts}
use Rattle.imago_access.proofs.ReadCauses.{part_overflows, read_cause_part}
use Rattle.imago_access.proofs.Units.{likes_unit, unit_aligned, overflows_late}
use Rattle.imago_access.specs.declared.driver_model.DriverModel.{Ghosts}
use Rattle.imago_storage.specs.declared.fault.Fault.TheVariants.{RangeOverflow}

pub ends_below : (unit offset n : ℕ) → 0 < unit → 0 < n → (Overflows unit offset n → ⊥) → offset + n < 2 ^ 64
ends_below unit offset n positive some no_change_refused =
    let low : offset + n ≤ round_up unit (offset + n) = le_round_up unit (offset + n) positive in
    elim (cases_lt (offset + n) (2 ^ 64)) [ inl lt ↦ lt | inr high ↦ absurd (no_change_refused (some, omega (arith, low, high))) ]

pub pairs_length : {A : Type 0} (R : A → A → Type 0) (xs ys : List A) → Pairs R xs ys → length ys ≡ length xs
pairs_length R [] [] h = refl
pairs_length R (x ∷ xs) (y ∷ ys) h = let rest = pairs_length R xs ys h.1 in omega (arith, rest)
pairs_length R [] (y ∷ ys) h = absurd h
pairs_length R (x ∷ xs) [] h = absurd h

module _ {D St : Type 0} (g : Ghosts D St)
    (aligned : (d : D) → IsAlignment (g.layer d).fixed.req_align × IsAlignment (g.layer d).fixed.mem_align) where
  -- The rest of a range doesn't overflow in the chain after the first reads.
  pub rest_calm : (xs ys : List D) (offset n done : ℕ) → Pairs (LookupCall g ⊤) xs ys → done ≤ n → (Overflows (unit_of_chain (map g.layer xs)) offset n → ⊥)
      → Overflows (unit_of_chain (map g.layer ys)) (offset + done) (n - done) → ⊥
  rest_calm xs ys offset n done looked le no_change_refused h =
      let same : unit_of_chain (map g.layer ys) ≡ unit_of_chain (map g.layer xs) = likes_unit (map g.layer xs) (map g.layer ys) (chain_like g ⊤ xs ys looked) in
      no_change_refused (part_overflows (unit_of_chain (map g.layer xs)) offset n done (n - done) (unit_aligned g.layer aligned xs).positive (omega (arith, le)) (subst (λ (u : ℕ). Overflows u (offset + done) (n - done)) same h))

  -- An error on the way, seen from the start of the read.
  pub rest_cause : (xs ys zs : List D) (offset n done : ℕ) (e : Fault) → Pairs (LookupCall g ⊤) xs ys → Each g.coherent xs → done ≤ n
      → (Each g.coherent ys → ReadCause (map g.layer ys) (at (map g.layer ys)) (unit_of_chain (map g.layer ys)) (offset + done) (n - done) (files_of g ys) (files_of g zs) e)
      → ReadCause (map g.layer xs) (at (map g.layer xs)) (unit_of_chain (map g.layer xs)) offset n (files_of g xs) (files_of g zs) e
  rest_cause xs ys zs offset n done e looked see le cause =
      let same : map g.layer ys ≡ map g.layer xs = chain_same g ⊤ xs ys tt see looked in
      let now = cause (chain_sees g ⊤ xs ys tt see looked) in
      let moved = subst (λ (ls : List Layer). ReadCause ls (at ls) (unit_of_chain ls) (offset + done) (n - done) (files_of g ys) (files_of g zs) e) same now in
      read_cause_part (map g.layer xs) (at (map g.layer xs)) (unit_of_chain (map g.layer xs)) offset done n (n - done) (files_of g xs) (files_of g ys) (files_of g zs) e moved
      (unit_aligned g.layer aligned xs).positive (omega (arith, le)) (chain_later g ⊤ xs ys looked)

  -- A later run has the bytes that the chain had at the start.
  pub run_shown : (xs ys : List D) (offset done n : ℕ) (whole part : List ℕ) → Pairs (LookupCall g ⊤) xs ys → Each g.coherent xs
      → (Each g.coherent ys → (i : ℕ) → i < n → at (map g.layer ys) (offset + done + i) ≡ byte (slice_index part i))
      → ((i : ℕ) → i < n → slice_index whole (done + i) ≡ slice_index part i)
      → ((i : ℕ) → i < done → at (map g.layer xs) (offset + i) ≡ byte (slice_index whole i))
      → (i : ℕ) → i < done + n → at (map g.layer xs) (offset + i) ≡ byte (slice_index whole i)
  run_shown xs ys offset done n whole part looked see shown placed before i lt =
      let same : map g.layer ys ≡ map g.layer xs = chain_same g ⊤ xs ys tt see looked in
      elim (cases_lt i done) [
        | inl low ↦ before i low
        | inr high ↦
            let j = i - done in
            let place : offset + done + j ≡ offset + i = omega (arith, high) in
            let index : done + j ≡ i = omega (arith, high) in
            let now = shown (chain_sees g ⊤ xs ys tt see looked) j (omega (arith, high, lt)) in
            ap (λ (ls : List Layer). at ls (offset + i)) (sym same) ∙ ap (at (map g.layer ys)) (sym place) ∙ now ∙ ap byte (sym (placed j (omega (arith, high, lt))) ∙ ap (λ (k : ℕ). slice_index whole k) index)
      ]

pub longer_overflows : (unit offset n longer : ℕ) → 0 < unit → n ≤ longer → Overflows unit offset n → Overflows unit offset longer
longer_overflows unit offset n longer positive le h =
    let low : round_up unit (offset + n) ≤ round_up unit (offset + longer) = round_up-le unit (offset + n) (offset + longer) positive (omega (arith, le)) in
    (omega (arith, h.0, le), omega (arith, low, h.1))

-- The location that a lookup returned doesn't overflow if the range doesn't.
pub named_calm : (layer mid : Layer) (offset longer place n : ℕ) → mid ≡ layer → 0 < unit_of_layer layer → n ≤ longer → (Overflows (unit_of_layer layer) place n → Overflows (unit_of_layer layer) offset n)
    → (Overflows (unit_of_layer layer) offset longer → ⊥) → Overflows (unit_of_layer mid) place n → ⊥
named_calm layer mid offset longer place n same positive le reach no_change_refused h =
    no_change_refused (longer_overflows (unit_of_layer layer) offset n longer positive le (reach (subst (λ (l : Layer). Overflows (unit_of_layer l) place n) same h)))

past_end : (layer : Layer) (below : List Layer) (p b : ℕ) → layer.size ≤ p → at (layer ∷ below) p ≡ byte b → b ≡ 0
past_end layer below p b past is = cc (sym (ap (λ (t : Bool). if t then through (layer.cell p) (at below p) else byte 0) (le-ltb p layer.size past)) ∙ is)

-- A successful read is a step of the disk.
pub read_step : (below below' : List Layer) (layer layer' : Layer) (offset n : ℕ) (buf : List ℕ) → length buf ≡ n → Shows (at (layer ∷ below)) offset buf → layer' ∷ below' ≡ layer ∷ below
    → Step (at below) (disk_of below layer) (read offset n) (bytes_read buf) (disk_of below' layer')
read_step below below' layer layer' offset n buf long shows same =
    let top : layer' ≡ layer = cc same in (
      long,
      record { below = λ i lt inside. shows i lt; past_size = λ i lt out. past_end layer below (offset + i) (slice_index buf i) out (shows i lt) },
      record {
        size = ap (λ (l : Layer). l.size) top;
        value = λ p inside. ap (λ (ls : List Layer). at ls p) same;
        hold = λ p inside. ap (λ (l : Layer). hold_of (l.held p)) top;
      },
    )

module _ {D St T : Type 0} (g : Ghosts D St) where
  pub read_ok : (old new : D × List D) (offset n : ℕ) (buf : List ℕ) (result : Result T Fault) → length buf ≡ n → (Each g.coherent (chain old) → OnOk result (Shows (at (map g.layer (chain old))) offset buf))
      → Pairs (LookupCall g (HadNoResourceError result)) (chain old) (chain new) → Each g.coherent (chain old)
      → OnOk result (Step (at (map g.layer old.1)) (disk_of (map g.layer old.1) (g.layer old.0)) (read offset n) (bytes_read buf) (disk_of (map g.layer new.1) (g.layer new.0)))
  read_ok old new offset n buf (Ok x) long shown looked see =
      read_step (map g.layer old.1) (map g.layer new.1) (g.layer old.0) (g.layer new.0) offset n buf long (shown see) (chain_same g ⊤ (chain old) (chain new) tt see looked)
  read_ok old new offset n buf (Err e) long shown looked see = tt

  -- The bytes of a step that may read past the end of the disk.
  pub shown_of_step : (old new : D × List D) (offset n : ℕ) (buf : List ℕ) (result : Result T Fault)
      → OnOk result (Step (at (map g.layer old.1)) (disk_of (map g.layer old.1) (g.layer old.0)) (read offset n) (bytes_read buf) (disk_of (map g.layer new.1) (g.layer new.0)))
      → OnOk result (Shows (at (map g.layer (chain old))) offset buf)
  shown_of_step old new offset n buf (Ok x) step = λ i lt. elim (cases_lt (offset + i) (g.layer old.0).size) [
    | inl inside ↦ step.1.below i lt inside
    | inr out ↦
        ap (λ (t : Bool). if t then through ((g.layer old.0).cell (offset + i)) (at (map g.layer old.1) (offset + i)) else byte 0) (le-ltb (offset + i) (g.layer old.0).size out)
        ∙ ap byte (sym (step.1.past_size i lt out))
  ]
  shown_of_step old new offset n buf (Err e) step = tt

module _ {D St B : Type 0} (view : B → List D) (g : Ghosts D St) where
  pub looked_under : (whole : Type 0) (x y : B) → Pairs (LookupCall g whole) (view x) (view y)
      → LookupCallBelow (seen_by view (below_ghosts g)) whole x y
  looked_under whole x y looked = record {
    keeps_layer_state = chain_like g whole (view x) (view y) looked;
    counts_not_fallen = chain_later g whole (view x) (view y) looked;
    faults = λ good. chain_faults g whole (view x) (view y) good looked;
    stays = λ good see. (chain_same g whole (view x) (view y) good see looked, chain_sees g whole (view x) (view y) good see looked);
    safely = λ good sound_all. chain_safe g whole (view x) (view y) good sound_all looked;
    cut = elim (chain_cut g whole (view x) (view y) looked) [ inl failed ↦ inl failed | inr known ↦ inr (record { seen = known.seen; safely = known.safely }) ];
    stays_stable = λ l. chain_lasts g whole (view x) (view y) l looked;
    unchanged_but_faults = λ guest_unchanged. chain_kept g whole (view x) (view y) guest_unchanged looked;
    deeper = λ clean. chain_deeper g whole (view x) (view y) clean looked;
  }

pub read_near : {T : Type 0} (r : Result T Fault) (layers : List Layer) (value : ℕ → Value) (unit offset n : ℕ) (olds news : List StorageState) → IsAlignment unit → offset + n ≤ 2 ^ 63 + 2 ^ 22
    → IfErr r (ReadCause layers value unit offset n olds news) → IsErrOf r RangeOverflow → ⊥
read_near (Ok x) layers value unit offset n olds news aligned low cause is = absurd (cc is)
read_near (Err RangeOverflow) layers value unit offset n olds news aligned low cause is = overflows_late unit offset n aligned low cause
read_near (Err _) layers value unit offset n olds news aligned low cause is = absurd (cc is)

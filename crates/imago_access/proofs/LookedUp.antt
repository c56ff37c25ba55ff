-- A lookup with a true result is a step of the disk.
use Rattle.std.proofs.Common.{◌≡◌, ℕ, ◌+◌, ◌-◌, ◌<◌, ◌≤◌, ◌∷◌, List, refl, arith, subst, ap, ◌∙◌}
use Rattle.std.specs.Prelude.{Result, Ok, Err, IfOk}
use Rattle.imago_storage.specs.Disk.{Value, Disk}
use Rattle.imago_storage.specs.Steps.{Kind, lookup, found, Step, Stays, stored, zero_run, special, indirect, at_end, IsIn, IsOfKind, IsRun as IsDiskRun}
use Rattle.imago_storage.specs.declared.fault.Fault.{Fault}
use Rattle.imago_access.specs.Layer.{Layer, Cell, through}
use Rattle.imago_access.specs.Chain.{at, disk_of}
use Rattle.imago_access.specs.Files.{HadNoResourceError}
use Rattle.imago_access.specs.Kinds.{kind_of, deep_kind_of}
use Rattle.imago_access.specs.Mappings.{Names, Looks, IsRun, IsDeepRun, DeepNames}
use Rattle.imago_access.specs.declared.mapping.ShallowMapping.{ShallowMapping}
use Rattle.imago_access.specs.declared.mapping.ShallowMapping.TheVariants as shallow
use Rattle.imago_access.specs.declared.mapping.Mapping.{Mapping}
use Rattle.imago_access.specs.declared.mapping.Mapping.TheVariants as deep
use Rattle.imago_access.proofs.Holding.{at_inside}

stays_same : (layer layer' : Layer) (below below' : List Layer) → layer' ≡ layer → below' ≡ below → Stays (disk_of below layer) (disk_of below' layer')
stays_same layer layer' below below' same same_below = rw (same, same_below) (record { size = refl; value = λ p lt. refl; hold = λ p lt. refl })

place_of : (P : ℕ → Type 0) (offset n : ℕ) → ((i : ℕ) → i < n → P (offset + i)) → (p : ℕ) → IsIn offset n p → P p
place_of P offset n each p inside =
    let back : offset + (p - offset) ≡ p = omega (arith, inside.0) in
    subst P back (each (p - offset) (omega (arith, inside.0, inside.1)))

-- A run inside the disk.
run_inside : (below : ℕ → Value) (disk : Disk) (offset asked n : ℕ) (kind : Kind) → (kind ≡ at_end → ⊥) → offset < disk.size → n ≤ asked → offset + n ≤ disk.size → (0 < asked → 0 < n)
    → ((i : ℕ) → i < n → IsOfKind below kind (offset + i) (disk.value (offset + i))) → IsDiskRun below disk offset asked kind n
run_inside below disk offset asked n kind other low most inside some each = record {
  most = most;
  end = (λ is. absurd (other is), λ past. absurd (omega (arith, low, past)));
  none = λ past. absurd (omega (arith, low, past));
  nonempty = λ lt asks. some asks;
  inside = λ lt. inside;
  range = place_of (λ p. IsOfKind below kind p (disk.value p)) offset n each;
}

-- The end of the disk.
run_at_end : (below : ℕ → Value) (disk : Disk) (offset asked n : ℕ) → n ≡ 0 → disk.size ≤ offset → IsDiskRun below disk offset asked at_end n
run_at_end below disk offset asked n none past = record {
  most = omega (arith, none);
  end = (λ is. past, λ high. refl);
  none = λ high. none;
  nonempty = λ low asks. absurd (omega (arith, low, past));
  inside = λ low. absurd (omega (arith, low, past));
  range = λ p inside. absurd (omega (arith, none, inside.0, inside.1));
}

module _ (layer : Layer) (below : List Layer) (bytes : ℕ → ℕ → ℕ) (offset asked : ℕ) where
  shown : (n : ℕ) (c : Cell) (i : ℕ) → offset + n ≤ layer.size → i < n → layer.cell (offset + i) ≡ c → at (layer ∷ below) (offset + i) ≡ through c (at below (offset + i))
  shown n c i inside lt is = at_inside layer below (offset + i) (omega (arith, inside, lt)) ∙ ap (λ (x : Cell). through x (at below (offset + i))) is

  shallow_run : (n : ℕ) (mapping : ShallowMapping) → IsRun layer offset asked mapping n → Names layer bytes offset n mapping → IsDiskRun (at below) (disk_of below layer) offset asked (kind_of mapping) n
  shallow_run n (shallow.Raw storage place writable) run names =
      run_inside (at below) (disk_of below layer) offset asked n stored (λ is. cc is) run.0 run.1 run.2 run.3 (λ i lt. (bytes storage (place + i), shown n _ i run.2 lt (names.0 i lt)))
  shallow_run n (shallow.Indirect place writable) run names =
      run_inside (at below) (disk_of below layer) offset asked n indirect (λ is. cc is) run.0 run.1 run.2 run.3 (λ i lt. shown n _ i run.2 lt (names.0 i lt))
  shallow_run n (shallow.Zero explicit) run names =
      run_inside (at below) (disk_of below layer) offset asked n zero_run (λ is. cc is) run.0 run.1 run.2 run.3 (λ i lt. shown n _ i run.2 lt (names.0 i lt))
  shallow_run n (shallow.Special place) run names =
      run_inside (at below) (disk_of below layer) offset asked n special (λ is. cc is) run.0 run.1 run.2 run.3 (λ i lt. shown n _ i run.2 lt (names.0 i lt))
  shallow_run n shallow.Eof run names = run_at_end (at below) (disk_of below layer) offset asked n run.0 run.1

  pub shallow_step : (layer' : Layer) (below' : List Layer) (result : Result (ShallowMapping × ℕ) Fault) → IfOk result (λ r. IsRun layer offset asked r.0 r.1) → IfOk result (λ r. Looks layer bytes offset asked r.0 r.1)
      → (HadNoResourceError result → layer' ≡ layer) → below' ≡ below → IfOk result (λ r. Step (at below) (disk_of below layer) (lookup offset asked) (found (kind_of r.0) r.1) (disk_of below' layer'))
  shallow_step layer' below' (Ok r) run looks same same_below = (shallow_run r.1 r.0 run looks.names, stays_same layer layer' below below' (same tt) same_below)
  shallow_step layer' below' (Err fault) run looks same same_below = tt

module _ (layer : Layer) (below : List Layer) (bytes : ℕ → ℕ → ℕ → ℕ) (offset asked : ℕ) where
  deep_run : (n : ℕ) (mapping : Mapping) → IsDeepRun layer.size offset asked mapping n → DeepNames (layer ∷ below) (at (layer ∷ below)) bytes offset n mapping → IsDiskRun (at below) (disk_of below layer) offset asked (deep_kind_of mapping) n
  deep_run n (deep.Raw depth storage place writable) run names =
      run_inside (at below) (disk_of below layer) offset asked n stored (λ is. cc is) run.0 run.1 run.2 run.3 (λ i lt. (bytes depth storage (place + i), names.0 i lt))
  deep_run n (deep.Zero explicit) run names =
      run_inside (at below) (disk_of below layer) offset asked n zero_run (λ is. cc is) run.0 run.1 run.2 run.3 (λ i lt. names.0 i lt)
  deep_run n (deep.Special depth place) run names =
      run_inside (at below) (disk_of below layer) offset asked n special (λ is. cc is) run.0 run.1 run.2 run.3 (λ i lt. names.0 i lt)
  deep_run n deep.Eof run names = run_at_end (at below) (disk_of below layer) offset asked n run.0 run.1

  pub deep_step : (layer' : Layer) (below' : List Layer) (result : Result (Mapping × ℕ) Fault) → IfOk result (λ r. IsDeepRun layer.size offset asked r.0 r.1) → IfOk result (λ r. DeepNames (layer ∷ below) (at (layer ∷ below)) bytes offset r.1 r.0)
      → (HadNoResourceError result → (layer' ≡ layer) × (below' ≡ below)) → IfOk result (λ r. Step (at below) (disk_of below layer) (lookup offset asked) (found (deep_kind_of r.0) r.1) (disk_of below' layer'))
  deep_step layer' below' (Ok r) run names same = (deep_run r.1 r.0 run names, stays_same layer layer' below below' (same tt).0 (same tt).1)
  deep_step layer' below' (Err fault) run names same = tt

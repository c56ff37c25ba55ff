-- The bytes of files that a `save` keeps.
use Rattle.std.proofs.Common.{◌≡◌, ◌∙◌, ℕ, List, [], ap, refl}
use Rattle.std.specs.Prelude.{None, Option, Some, Vec, false, option_map, true}
use Rattle.std.specs.Global.{Global}
use Rattle.imago_access.specs.Layers.{chain}
use Rattle.imago_access.specs.declared.driver_model.DriverModel.{Ghosts}
use Rattle.qimg_chain.specs.Saving.{SavedFiles, next_bytes}
use Rattle.qimg_chain.specs.ScriptRuns.{saved_of}
use Rattle.qimg_chain.specs.declared.run.saved.Saved.{Saved}

abbrev pub saved-as : Vec ℕ Global → Option (Vec ℕ Global) → Saved
saved-as top below = record { top = top; below = below }

abbrev pub both : List ℕ → Option (List ℕ) → SavedFiles
both top below = record { top = top; below = below }

-- Saved bytes are those of a chain's files.
pub saved-files : (top : Vec ℕ Global) (below : Option (Vec ℕ Global)) (t : List ℕ) (b : Option (List ℕ))
    → top.items ≡ t → option_map (λ (bytes : Vec ℕ Global). bytes.items) below ≡ b → saved_of (saved-as top below) ≡ both t b
saved-files top below t b first second =
    ap (λ x. both x (option_map (λ (bytes : Vec ℕ Global). bytes.items) below)) first ∙ ap (λ x. both t x) second

-- There is no layer below.
pub none-below : {D St : Type 0} (g : Ghosts D St) (ds : List D) → ds ≡ [] → None ≡ next_bytes g ds
none-below g ds is = rw (is) refl

-- The top of these layers is read-only.
pub none-read-only : {D St : Type 0} (g : Ghosts D St) (c : D × List D) → (g.layer c.0).fixed.writable ≡ false
    → None ≡ next_bytes g (chain c)
none-read-only g c closed = rw (closed) refl

-- The top of these layers is writable.
pub some-writable : {D St : Type 0} (g : Ghosts D St) (c : D × List D) (bytes : List ℕ) → (g.layer c.0).fixed.writable ≡ true
    → bytes ≡ (g.image c.0).bytes → Some bytes ≡ next_bytes g (chain c)
some-writable g c bytes writes same = rw (writes, same) refl

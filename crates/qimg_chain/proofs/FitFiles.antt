-- Files that form a chain by themselves, and can be its top.
use Rattle.std.proofs.Common.{◌≡◌, ◌∙◌, Bool, true, false, List, ℕ, [], ◌∷◌, Ok, None, refl, sym, subst, ap, arith}
use Rattle.std.specs.Prelude.{◌&&◌, IsTrue, is_some}
use Rattle.std.proofs.lemmas.Bool.{and_parts}
use Rattle.std.proofs.lemmas.List.Elements.{All-nil}
use Rattle.imago_storage.specs.MemStorage.{mem_state}
use Rattle.imago_storage.specs.State.{CrashImageIsBytes, StorageState}
use Rattle.imago_storage.specs.declared.memory.MemStorage.{MemStorage}
use Rattle.imago_access.specs.declared.format.Format.TheVariants.{Qcow2, Raw}
use Rattle.qcow2_types.specs.Bytes.{Bytes, bytes_of}
use Rattle.qcow2_types.specs.Consistency.{IsConsistent, tables_sound}
use Rattle.qcow2_types.specs.Counts.{refcount_table_sound}
use Rattle.qcow2_types.specs.Entries.{l1_table_sound}
use Rattle.qcow2_types.specs.Header.{Header, header_of}
use Rattle.qcow2_types.proofs.Counting.Consistent.{header-reading}
use Rattle.qcow2_image.specs.Opening.{header_for}
use Rattle.qcow2_image.proofs.OpenRefusals.{none-refused}
use Rattle.qimg_core.specs.declared.plain.ChainFile.{ChainFile}
use Rattle.qimg_chain.specs.Chains.{IsFit, IsSoundAs, OfTop}
use Rattle.qimg_chain.specs.FileLayers.{IsLayer, asked_of}
use Rattle.qimg_chain.specs.Refusals.{FormChain}
use Rattle.qimg_chain.specs.ToldStops.{IsLoggedImage}

loads : (writable : Bool) (f : Bytes) (h : Header) → IsConsistent f h → header_of writable f ≡ Ok h
loads true f h sound = sound.readable.loads
loads false f h sound = header-reading f h sound.readable.loads

pub opens : (writable : Bool) (f : Bytes) (h : Header) → IsConsistent f h → header_for writable f ≡ Ok h
unfolding tables_sound
opens writable f h sound =
    let tables = and_parts (l1_table_sound f h.fields && refcount_table_sound f h.fields) _ sound.readable.tables in
    let both = and_parts (l1_table_sound f h.fields) (refcount_table_sound f h.fields) tables.0 in
    none-refused writable f h (loads writable f h sound) sound.readable.data_inside both.0 (λ w. both.1)

module _ {S : Type 0} (state : S → StorageState) where
  -- One file that doesn't refer to a layer below is a chain.
  alone : (writable : Bool) (file : ChainFile S) → IsLayer state writable file false [] → FormChain state writable (file ∷ [])
  alone writable file layer = (omega arith, omega arith, ((false, [], layer, refl), tt))

  -- An image without a backing file is a chain.
  image-alone : (writable : Bool) (file : ChainFile S) (h : Header) → file.format ≡ Qcow2 → IsConsistent (bytes_of (state file.image).bytes) h → h.backing_name ≡ None
      → FormChain state writable (file ∷ [])
  image-alone writable file h is sound none =
      let said = opens writable (bytes_of (state file.image).bytes) h sound in
      alone writable file (record { says = rw (is) (ap (asked_of (λ H. is_some H.backing_name)) said ∙ ap (λ name. Ok (is_some name)) none); has = rw (is) refl })

  -- ---- An image in a storage that has just begun to expose its crash images.

  pub logged-alone : (writable : Bool) (file : ChainFile S) (is : IsLoggedImage state file) → is.header.backing_name ≡ None → FormChain state writable (file ∷ [])
  logged-alone writable file is none =
      let same = ap (λ (s : StorageState). s.bytes) is.logged in
      image-alone writable file is.header is.format (subst (λ (f : List ℕ). IsConsistent (bytes_of f) is.header) (sym same) is.sound) none

  pub logged-fits : (file : ChainFile S) → IsLoggedImage state file → OfTop (IsFit state) (file ∷ [])
  logged-fits file is =
      let same = ap (λ (s : StorageState). s.bytes) is.logged in
      let sound = subst (λ (f : List ℕ). IsConsistent (bytes_of f) is.header) (sym same) is.sound in
      record {
        sound = rw (is.format) (is.header, sound);
        keeps = subst (λ (s : StorageState). IsTrue s.shape.keeps) (sym is.logged) refl;
        others = rw (is.none) (All-nil (λ other. IsTrue (state other.1).shape.keeps));
      }

  pub logged-step : (file : ChainFile S) → IsLoggedImage state file → OfTop (λ f. CrashImageIsBytes (state f.image)) (file ∷ [])
  logged-step file is = subst CrashImageIsBytes (sym is.logged) (λ tells keeps. refl)

-- ---- Files in memory.

keeps : (m : MemStorage) → IsTrue (mem_state m).shape.keeps
unfolding mem_state
keeps m = refl

fit : (file : ChainFile MemStorage) → IsSoundAs file.format (mem_state file.image).bytes → OfTop (IsFit mem_state) (file ∷ [])
fit file sound = record { sound = sound; keeps = keeps file.image; others = λ k d inside. keeps _ }

pub raw-fits : (file : ChainFile MemStorage) → file.format ≡ Raw → FormChain mem_state true (file ∷ []) × OfTop (IsFit mem_state) (file ∷ [])
raw-fits file is = (alone mem_state true file (record { says = rw (is) refl; has = rw (is) refl }), fit file (rw (is) tt))

pub image-fits : (writable : Bool) (file : ChainFile MemStorage) (h : Header) → file.format ≡ Qcow2 → IsConsistent (bytes_of (mem_state file.image).bytes) h → h.backing_name ≡ None
    → FormChain mem_state writable (file ∷ []) × OfTop (IsFit mem_state) (file ∷ [])
image-fits writable file h is sound none = (image-alone mem_state writable file h is sound none, fit file (rw (is) (h, sound)))

-- A header from the two reads of its file: the first bytes, and the first cluster.
use Rattle.std.proofs.Common.{◌≡◌, ℕ, ◌+◌, refl, arith, ap, sym, ◌∙◌, List, length, Some, None, Ok, Err}
use Rattle.std.specs.Prelude.{Bool, Option, Result}
use Rattle.imago_storage.specs.State.{StorageState}
use Rattle.imago_storage.specs.Calls.{Reads}
use Rattle.imago_storage.specs.declared.fault.Fault.{Fault}
use Rattle.imago_storage.specs.declared.fault.Fault.TheVariants.{Memory, Storage}
use Rattle.qcow2_types.specs.Bytes.{Bytes, bytes_of}
use Rattle.qcow2_types.specs.Frames.{Same}
use Rattle.qcow2_types.specs.Header.{Fields, Header, fields_of, first_fault, ◌and-then◌, ◌>>=◌, rules_of_kind, rules_of_shape, rules_of_size, rules_of_writing, backing_name_read, extensions_read, text_read, last_of, texts_of, header_of, cluster_size}
use Rattle.qcow2_types.proofs.Fields.HeaderFrame.{start-be, fields-same, texts-alike, bind-ok}
use Rattle.qcow2_metadata.specs.Loading.{fields_fault, ◌or-else◌, RefusedBy, NotLoaded}
use Rattle.qcow2_metadata.proofs.Refusals.{header-refusal}

-- The first bytes of a file, as read.
module _ (file start : List ℕ) (reads : Reads file 0 start) where
  same-start : (n : ℕ) → length start ≡ n → Same (bytes_of file) (bytes_of start) 0 n
  same-start n size k lt = let none : 0 + k ≡ k = omega arith in rw none (rw none at (reads k (omega arith)))

  pub start-fields : length start ≡ 104 → fields_of (bytes_of start) ≡ fields_of (bytes_of file)
  start-fields size = fields-same (bytes_of file) (bytes_of start) 104 (same-start 104 size) (omega arith)

  pub start-fault : length start ≡ 104 → fields_fault (bytes_of start) ≡ fields_fault (bytes_of file)
  unfolding fields_fault
  start-fault size = rw (start-be (bytes_of file) (bytes_of start) 104 (same-start 104 size) 0 4 (omega arith), start-be (bytes_of file) (bytes_of start) 104 (same-start 104 size) 4 4 (omega arith), start-fields size) refl

  -- The texts, if the bytes are the first cluster.
  start-texts : (h : Fields) → length start ≡ cluster_size h → texts_of (bytes_of start) h ≡ texts_of (bytes_of file) h
  start-texts h size = texts-alike (bytes_of file) (bytes_of start) h (same-start (cluster_size h) size)

  pub cluster-texts : (h : Fields) → h ≡ fields_of (bytes_of file) → length start ≡ cluster_size h → texts_of (bytes_of start) h ≡ texts_of (bytes_of file) (fields_of (bytes_of file))
  cluster-texts h same size = start-texts h size ∙ ap (texts_of (bytes_of file)) same

-- The texts don't change the fields.
pub texts-fields : (f : Bytes) (h : Fields) (H : Header) → texts_of f h ≡ Ok H → H.fields ≡ h
unfolding texts_of
texts-fields f h H read =
    let a = bind-ok (backing_name_read f h) _ H read in
    let b = bind-ok (extensions_read f h) _ H a.2 in
    let c = bind-ok (text_read (last_of 0xE279_2ACA b.0)) _ H b.2 in
    let d = bind-ok (text_read (last_of 0x4441_5441 b.0)) _ H c.2 in
    sym (ap (λ (r : Header). r.fields) (ok-same d.2))
  where
    ok-same : {A : Type 0} {x y : A} → ◌≡◌ {A = Result A Fault} (Ok x) (Ok y) → x ≡ y
    ok-same e = cc

-- The rules on fields come first, then the texts, then the rule on writing.
pub header-parts : (writing : Bool) (f : Bytes) → header_of writing f ≡ (fields_fault f and-then (texts_of f (fields_of f) >>= λ header. first_fault (rules_of_writing writing (fields_of f)) and-then Ok header))
unfolding header_of fields_fault
header-parts writing f = joined (first_fault (rules_of_kind f)) (first_fault (rules_of_shape (fields_of f))) (first_fault (rules_of_size (fields_of f))) _
  where
    joined : (a b c : Option Fault) (r : Result Header Fault) → (a and-then (b and-then (c and-then r))) ≡ ((a or-else (b or-else c)) and-then r)
    joined (Some e) b c r = refl
    joined None (Some e) c r = refl
    joined None None (Some e) r = refl
    joined None None None r = refl

module _ (writing : Bool) (f : Bytes) where
  pub fields-refused : (e : Fault) → Some e ≡ fields_fault f → header_of writing f ≡ Err e
  fields-refused e broken = header-parts writing f ∙ rw (← broken) refl

  pub texts-refused : None ≡ fields_fault f → (e : Fault) → texts_of f (fields_of f) ≡ Err e → header_of writing f ≡ Err e
  texts-refused kept e refused = header-parts writing f ∙ rw (← kept, refused) refl

  module _ (kept : None ≡ fields_fault f) (H : Header) (read : texts_of f (fields_of f) ≡ Ok H) where
    pub writing-refused : (e : Fault) → Some e ≡ first_fault (rules_of_writing writing H.fields) → header_of writing f ≡ Err e
    writing-refused e broken =
        let rule : Some e ≡ first_fault (rules_of_writing writing (fields_of f)) = broken ∙ ap (λ h. first_fault (rules_of_writing writing h)) (texts-fields f (fields_of f) H read) in
        header-parts writing f ∙ rw (← kept, read, ← rule) refl

    pub header-loads : None ≡ first_fault (rules_of_writing writing H.fields) → header_of writing f ≡ Ok H
    header-loads held =
        let rule : None ≡ first_fault (rules_of_writing writing (fields_of f)) = held ∙ ap (λ h. first_fault (rules_of_writing writing h)) (texts-fields f (fields_of f) H read) in
        header-parts writing f ∙ rw (← kept, read, ← rule) refl

-- The load fails for a broken rule, or because memory ran out, and no fault is counted.
pub not-loaded : (writing : Bool) (f : Bytes) (old new : StorageState) (e : Fault) → RefusedBy (header_of writing f) e → new.faults ≡ old.faults → NotLoaded (header_of writing f) old new e
not-loaded writing f old new Memory refused faults = faults
not-loaded writing f old new Storage refused faults = absurd (header-refusal writing f Storage refused)
not-loaded writing f old new e refused faults = (refused, faults)

-- Sequences of calls that increment refcounts.
use Rattle.std.proofs.Common.{◌≡◌, ℕ, ◌+◌, ◌<◌, refl, arith, ap, sym, ◌∙◌, inl, inr}
use Rattle.std.specs.Prelude.{⊤}
use Rattle.imago_storage.specs.State.{StorageState}
use Rattle.imago_storage.proofs.Composing.{keeps_on}
use Rattle.qcow2_types.specs.Header.{Header}
use Rattle.qcow2_types.specs.Switched.{with_refcount_table}
use Rattle.qcow2_alloc.specs.Allocating.{Allocating, MovedTable, OnlyIncremented}
use Rattle.qcow2_alloc.specs.GuestView.{Metadata, counted}
use Rattle.qcow2_alloc.specs.State.{ImageState, metadata}
use Rattle.qcow2_alloc.proofs.Flushing.FaultlessCalls.{faultless-then}
use Rattle.qcow2_alloc.proofs.GuestView.QuietFlushes.{memory-quietly, quiet-none, quietly-weaker}
use Rattle.qcow2_alloc.proofs.GuestView.QuietSequences.{quietly-then, quietly-otherwise}

-- `MovedTable` is reflexive and transitive.
pub moved-none : (H H' : Header) → H' ≡ H → MovedTable H H'
moved-none H H' same = (H.fields.refcount_table_offset, H.fields.refcount_table_clusters, same)

pub moved-then : (H H' H'' : Header) → MovedTable H H' → MovedTable H' H'' → MovedTable H H''
moved-then H H' H'' (offset, clusters, is) (offset', clusters', is') = (offset', clusters', is' ∙ ap (λ (x : Header). with_refcount_table x offset' clusters') is)

pub raised-then : (m m' m'' : Metadata) → OnlyIncremented m m' → OnlyIncremented m' m'' → OnlyIncremented m m''
raised-then m m' m'' one two c = elim (one c) [
  | inl same ↦ elim (two c) [ inl same' ↦ inl (same' ∙ same) | inr up ↦ inr (sym same ∙ up.0, up.1) ]
  | inr up ↦ elim (two c) [ inl same' ↦ inr (up.0, same' ∙ up.1) | inr up' ↦ let a = up.1 in let b = up'.0 in absurd (omega (arith, a, b)) ]
]

pub counted-still : (m m' : Metadata) (c : ℕ) → OnlyIncremented m m' → 0 < counted m c → 0 < counted m' c
counted-still m m' c raised was = elim (raised c) [ inl same ↦ omega (arith, same, was) | inr up ↦ let one = up.1 in omega (arith, one) ]

module _ {S : Type 0} (state : S → StorageState) where
  pub allocating-none : (s : ImageState S) → Allocating state ⊤ (λ _. 0) s s
  allocating-none s =
      let m = metadata state s in
      record {
        faults = λ done. (refl, refl);
        guest_unchanged = λ order. memory-quietly ⊤ (λ _. 0) (λ _. 0) (state s.file.image) m m (λ sound done. (sound, quiet-none m sound));
        raised = λ order keeps sound done c. inl refl;
        order = refl;
        moved = moved-none s.file.header s.file.header refl;
        longer = omega arith;
        keeps_unpinned_room = λ any loose. loose;
        room = record { tables = refl; blocks = refl; entries = refl };
      }

  pub allocating-then : (ok ok' : Type 0) (h h' : ℕ → ℕ) (sA sB sC : ImageState S)
      → ok → Allocating state ok h sA sB → Allocating state ok' h' sB sC → Allocating state ok' (λ c. h c + h' c) sA sC
  allocating-then ok ok' h h' sA sB sC done one two =
      let le = one.longer in
      let le' = two.longer in
      record {
        faults = λ whole. faultless-then (one.faults done) (two.faults whole);
        guest_unchanged = λ order. quietly-otherwise ok' (λ c. h c + h' c) (λ c. 0 + 0) (λ c. h c + h' c) (λ _. 0) (state sA.file.image) (metadata state sA) (state sC.file.image) (metadata state sC) (λ sound c. omega arith) (λ sound c used none. omega arith)
            (quietly-then ok ok' h (λ _. 0) h' (λ _. 0) (state sA.file.image) (metadata state sA) (state sB.file.image) (metadata state sB) (state sC.file.image) (metadata state sC) done (λ sound c some. refl) (one.guest_unchanged order) (two.guest_unchanged (one.order ∙ order)));
        raised = λ order keeps sound whole.
            let first = one.guest_unchanged order in
            raised-then (metadata state sA) (metadata state sB) (metadata state sC) (one.raised order keeps sound done)
            (two.raised (one.order ∙ order) (keeps_on (state sA.file.image) (state sB.file.image) first.shape keeps) (first.holds keeps sound done).0 whole);
        order = two.order ∙ one.order;
        moved = moved-then sA.file.header sB.file.header sC.file.header one.moved two.moved;
        longer = omega (arith, le, le');
        keeps_unpinned_room = λ any loose. two.keeps_unpinned_room any (one.keeps_unpinned_room any loose);
        room = record { tables = two.room.tables ∙ one.room.tables; blocks = two.room.blocks ∙ one.room.blocks; entries = two.room.entries ∙ one.room.entries };
      }

  -- The allocated clusters and the success condition may be restated.
  pub allocating-as : (ok ok' : Type 0) (h h' : ℕ → ℕ) (sA sB : ImageState S)
      → (ok' → ok) → ((c : ℕ) → h c ≡ h' c) → Allocating state ok h sA sB → Allocating state ok' h' sA sB
  allocating-as ok ok' h h' sA sB from same one = record {
    faults = λ whole. one.faults (from whole);
    guest_unchanged = λ order. quietly-weaker ok ok' h' (λ _. 0) (state sA.file.image) (metadata state sA) (state sB.file.image) (metadata state sB) (λ sound. from)
        (quietly-otherwise ok h (λ _. 0) h' (λ _. 0) (state sA.file.image) (metadata state sA) (state sB.file.image) (metadata state sB) (λ sound c. let is = same c in omega (arith, is)) (λ sound c used none. none) (one.guest_unchanged order));
    raised = λ order keeps sound whole. one.raised order keeps sound (from whole);
    order = one.order;
    moved = one.moved;
    longer = one.longer;
    keeps_unpinned_room = one.keeps_unpinned_room;
    room = one.room;
  }

use Rattle.std.proofs.Common.{◌≡◌, refl, ◌+◌, ◌/◌, ◌^◌, ◌<◌, ◌∙◌, sym, subst, arith, length, lit<, true, false, ℕ, List}
use Rattle.std.specs.Prelude.{IsTrue}
use Rattle.std.proofs.lemmas.List.{length-set}
use Rattle.imago_storage.proofs.Parts.{passed}
use Rattle.imago_storage.specs.declared.fault.Fault.{Fault}
use Rattle.qcow2_types.specs.Bytes.{bytes_of, raw_entry}
use Rattle.qcow2_types.specs.Header.{layout_of}
use Rattle.qcow2_types.specs.TableBytes.{AreFit}
use Rattle.qcow2_metadata.specs.Tables.{AreSound, HasUnsound, raw_entry_valid, raw_entries_in}
use Rattle.qcow2_metadata.proofs.Chunks.{zero-words}
use Rattle.qcow2_metadata.proofs.TableFacts.{word_of_bytes, sound_more, each_more, unsound_at}
use Rattle.qcow2_metadata.proofs.TableSteps.{each_zero, zero_sound}
use Rattle.qcow2_metadata.proofs.WordLists.{AreClear, ArePut, clear-behind, put-more, put-same, put-whole, words-long, words_set}
use Rattle.qcow2_metadata.proofs.table.decode.Goals as goal

-- Bytes of 0 leave all entries 0, which are valid.
pub returns-then-is_clear-clause-raw_entries : goal.returns-then-is_clear-clause-raw_entries
returns-then-is_clear-clause-raw_entries g c =
    let bytes = c.args.bytes.now in
    c.requires ∙ sym (zero-words bytes (length bytes / 8) (c.is_clear.ensures.0 c.if-is_clear.true))

pub returns-then-is_clear-clause-sound : goal.returns-then-is_clear-clause-sound
returns-then-is_clear-clause-sound g c =
    let bytes = c.args.bytes.now in
    let n = length bytes / 8 in
    let kind = g.E.TableEntry.kind in
    let layout = layout_of c.args.header.now.fields in
    subst (AreSound kind layout) (sym (zero-words bytes n (c.is_clear.ensures.0 c.if-is_clear.true)))
    (each_zero (λ w. IsTrue (raw_entry_valid kind layout w)) n (zero_sound kind layout))

pub returns-then-is_clear-clause-fit : goal.returns-then-is_clear-clause-fit
returns-then-is_clear-clause-fit g c =
    let bytes = c.args.bytes.now in
    let n = length bytes / 8 in
    subst AreFit (sym (zero-words bytes n (c.is_clear.ensures.0 c.if-is_clear.true))) (each_zero (λ w. w < 2 ^ 64) n (lit< tt))

pub returns-in_err-entries-clause-damaged : goal.returns-in_err-entries-clause-damaged
returns-in_err-entries-clause-damaged g c =
    let f = bytes_of c.args.bytes.now in
    let n = length c.args.bytes.now / 8 in
    let i = c.loop-index.index in
    let kind = g.E.TableEntry.kind in
    let layout = layout_of c.args.header.now.fields in
    let is : c.raw_entry_at-raw_entry.result ≡ raw_entry f 0 i = c.raw_entry_at-raw_entry.ensures ∙ sym (word_of_bytes f i) in
    let unsound : IsTrue (raw_entry_valid kind layout (raw_entry f 0 i)) → false ≡ true =
    λ h. c.in_err-entries.ensures.possible.1 (subst (λ w. IsTrue (raw_entry_valid kind layout w)) (sym is) h) in
    let inside : i < n = omega (arith, c.loop-index.invariant.long, c.loop-index-test.true) in
    let why : Fault → Type 0 = λ fault. HasUnsound kind layout (raw_entries_in f 0 n) in
    passed c.from_residual.result why _ c.from_residual.ensures.1 (unsound_at kind layout f 0 n i inside unsound)

-- One more entry is written, or is 0 already.
pub loop-index-preserved : goal.loop-index-preserved
loop-index-preserved g c =
    let f = bytes_of c.args.bytes.now in
    let i = c.loop-index.index in
    let kind = g.E.TableEntry.kind in
    let layout = layout_of c.args.header.now.fields in
    let raw_entries : List g.row.E.Denot → List ℕ = g.E.TableEntry.raw_entries in
    let was = c.loop-index.entries in
    let before = c.loop-index.invariant in
    let is : c.raw_entry_at-raw_entry.result ≡ raw_entry f 0 i = c.raw_entry_at-raw_entry.ensures ∙ sym (word_of_bytes f i) in
    let fits = each_more (λ w. w < 2 ^ 64) f 0 i before.fit (subst (λ w. w < 2 ^ 64) is (omega arith)) in
    elim c.if-raw_entry-ne0.branch [
      | goal.then-raw_entry-ne0+in_ok-entries w ↦
          let entry = w.in_ok-entries.field-0 in
          let value : g.E.TableEntry.raw_entry entry ≡ raw_entry f 0 i = w.in_ok-entries.ensures.value ∙ is in
          let long = words-long g.E.TableEntry.raw_entry raw_entries g.met.E.TableEntry.each was in
          let room : i < length (raw_entries was) = omega (arith, long, before.long, c.loop-index-test.true) in
          let set = words_set g.E.TableEntry.raw_entry raw_entries g.met.E.TableEntry.each was i entry in
          rw (w.entries-is) (record {
            long = length-set was i entry ∙ before.long;
            raw_entries = subst (λ (ws : List ℕ). ArePut f ws (i + 1)) (sym set) (put-more f (raw_entries was) i (g.E.TableEntry.raw_entry entry) room before.raw_entries value);
            clear = subst (λ (ws : List ℕ). AreClear ws (i + 1)) (sym set) (clear-behind (raw_entries was) i (g.E.TableEntry.raw_entry entry) before.clear);
            sound = sound_more kind layout f 0 i before.sound (subst (λ w. IsTrue (raw_entry_valid kind layout w)) is (w.in_ok-entries.ensures.possible.0 refl));
            fit = fits;
          })
      | goal.else-raw_entry-ne0 w ↦
          let none : c.raw_entry_at-raw_entry.result ≡ 0 = omega (arith, w.if-raw_entry-ne0.false) in
          let zero-raw_entry : raw_entry f 0 i ≡ 0 = sym is ∙ none in
          rw (w.entries-is) (record {
            long = before.long;
            raw_entries = put-same f (raw_entries was) i before.raw_entries (before.clear i (omega arith) ∙ sym zero-raw_entry);
            clear = λ k from. before.clear k (omega (arith, from));
            sound = sound_more kind layout f 0 i before.sound (subst (λ w. IsTrue (raw_entry_valid kind layout w)) (sym zero-raw_entry) (zero_sound kind layout));
            fit = fits;
          })
    ]

pub returns-clause-raw_entries : goal.returns-clause-raw_entries
returns-clause-raw_entries g c =
    let entries = c.loop-index.entries in
    let n = length c.args.bytes.now / 8 in
    let end : c.loop-index.index ≡ n = omega (arith, c.loop-index.invariant.long, c.loop-index-test.false, c.loop-index.auto.index-end) in
    put-whole (bytes_of c.args.bytes.now) (g.E.TableEntry.raw_entries entries) n
    (words-long g.E.TableEntry.raw_entry g.E.TableEntry.raw_entries g.met.E.TableEntry.each entries ∙ c.loop-index.invariant.long)
    (subst (λ k. ArePut (bytes_of c.args.bytes.now) (g.E.TableEntry.raw_entries entries) k) end c.loop-index.invariant.raw_entries)

-- Entries of a table that are decoded chunk by chunk.
use Rattle.std.proofs.Common.{◌≡◌, ◌∙◌, ◌+◌, ◌-◌, ◌*◌, ◌/◌, ◌^◌, ◌<◌, ◌≤◌, ap, arith, subst, sym, ℕ, zero, suc, List, [], ◌∷◌, ◌++◌, length, map, take, drop, append_assoc}
use Rattle.std.specs.Prelude.{replicate, slice_index, IsTrue}
use Rattle.std.specs.List.{between}
use Rattle.std.proofs.lemmas.List.{append-nil, drop-map, drop-replicate, drop_at, length-append, length-drop, length-replicate, length-take, map-append, take-map, take-replicate, take_at}
use Rattle.std.proofs.lemmas.List.Edits.{get_or-between, length-between}
use Rattle.std.proofs.lemmas.Grind.{same_number_lists}
use borrow.Rule.Slice.PartMut.{put_mid}
use Rattle.qcow2_types.specs.Bytes.{Bytes, be, bytes_of, raw_entry}
use Rattle.qcow2_types.specs.TableBytes.{AreFit}
use Rattle.qcow2_types.specs.Words.{Layout}
use Rattle.qcow2_types.proofs.Numbers.Splices.{be-same, be-zeroes}
use Rattle.qcow2_metadata.specs.Tables.{Kind, AreSound, HasUnsound, raw_entry_valid, raw_entries_in}
use Rattle.qcow2_metadata.proofs.TableFacts.{word_of_bytes, words_at, words_long, words_more, words_same}
use Rattle.qcow2_metadata.proofs.TableSteps.{each_append, zeroes_at}

-- Bytes of 0 are entries of 0.
pub zero-words : (bytes : List ℕ) (n : ℕ) → ((k : ℕ) → slice_index bytes k ≡ 0) → raw_entries_in (bytes_of bytes) 0 n ≡ replicate n 0
zero-words bytes n none =
    let f = bytes_of bytes in
    same_number_lists (raw_entries_in f 0 n) (replicate n 0) (words_long f 0 n ∙ sym (length-replicate n 0)) (λ k inside.
    let small : k < n = omega (arith, words_long f 0 n, inside) in
    words_at f 0 n k small ∙ (word_of_bytes f k ∙ (be-zeroes f (8 * k) 8 (λ j low. none (8 * k + j)) ∙ sym (zeroes_at n k))))

-- The entries of a part of the bytes.
module _ (bytes : List ℕ) (first end : ℕ) (order : first ≤ end) (inside : 8 * end ≤ length bytes) where
  abbrev pub bytes-part : List ℕ
  bytes-part = between (8 * first) (8 * end) bytes

  pub part-count : length bytes-part / 8 ≡ end - first
  part-count = omega (arith, length-between bytes (8 * first) (8 * end) inside)

  pub part-words : raw_entries_in (bytes_of bytes-part) 0 (length bytes-part / 8) ≡ raw_entries_in (bytes_of bytes) (8 * first) (end - first)
  unfolding raw_entry
  part-words =
      ap (λ k. raw_entries_in (bytes_of bytes-part) 0 k) part-count
      ∙ words_same (bytes_of bytes-part) (bytes_of bytes) 0 (8 * first) (end - first) (λ i small. be-same (bytes_of bytes-part) (bytes_of bytes) (0 + 8 * i) (8 * first + 8 * i) 8 (λ k low.
      get_or-between bytes (8 * first) (8 * end) (0 + 8 * i + k) 0 (omega (arith, small, low)) ∙ ap (λ p. slice_index bytes p) (omega arith)))

-- Entries from a later offset on.
module _ (f : Bytes) (first : ℕ) where
  word-behind : (i : ℕ) → raw_entry f (8 * first) i ≡ raw_entry f 0 (first + i)
  unfolding raw_entry
  word-behind i = ap (λ p. be f p 8) (omega arith)

  pub words-behind : (count : ℕ) → raw_entries_in f 0 first ++ raw_entries_in f (8 * first) count ≡ raw_entries_in f 0 (first + count)
  words-behind zero = append-nil (raw_entries_in f 0 first) ∙ ap (λ n. raw_entries_in f 0 n) (omega arith)
  words-behind (suc count) =
      let next : suc count ≡ count + 1 = omega arith in
      let last = raw_entry f (8 * first) count in
      ap (λ n. raw_entries_in f 0 first ++ raw_entries_in f (8 * first) n) next
      ∙ (ap (λ ws. raw_entries_in f 0 first ++ ws) (words_more f (8 * first) count)
      ∙ (sym (append_assoc (raw_entries_in f 0 first) (raw_entries_in f (8 * first) count) (last ∷ []))
      ∙ (ap (λ ws. ws ++ last ∷ []) (words-behind count)
      ∙ (ap (λ w. raw_entries_in f 0 (first + count) ++ w ∷ []) (word-behind count)
      ∙ (sym (words_more f 0 (first + count)) ∙ ap (λ n. raw_entries_in f 0 n) (omega arith))))))

  pub unsound-behind : (kind : Kind) (layout : Layout) (n count : ℕ) → first + count ≤ n → HasUnsound kind layout (raw_entries_in f (8 * first) count) → HasUnsound kind layout (raw_entries_in f 0 n)
  unsound-behind kind layout n count room (i, inside, unsound) =
      let small : i < count = omega (arith, words_long f (8 * first) count, inside) in
      let all : first + i < n = omega (arith, small, room) in (
        first + i,
        omega (arith, words_long f 0 n, all),
        ap (λ w. raw_entry_valid kind layout w) (words_at f 0 n (first + i) all ∙ (sym (word-behind i) ∙ sym (words_at f (8 * first) count i small))) ∙ unsound,
      )

module _ {E : Type 0} (raw_entry : E → ℕ) (raw_entries : List E → List ℕ) (each : (es : List E) → raw_entries es ≡ map raw_entry es) where
  pub words-part : (es : List E) (first end : ℕ) → raw_entries (between first end es) ≡ between first end (raw_entries es)
  words-part es first end = each (between first end es)
      ∙ (sym (take-map raw_entry (end - first) (drop first es))
      ∙ (ap (λ ws. take (end - first) ws) (sym (drop-map raw_entry first es)) ∙ ap (λ ws. between first end ws) (sym (each es))))

  pub words-put : (es part : List E) (first count : ℕ) → raw_entries (put_mid first count es part) ≡ put_mid first count (raw_entries es) (raw_entries part)
  words-put es part first count =
      let behind = drop count (drop first es) in
      each (put_mid first count es part)
      ∙ (map-append raw_entry (take first es) (part ++ behind)
      ∙ (ap (λ ws. map raw_entry (take first es) ++ ws) (map-append raw_entry part behind)
      ∙ (ap (λ ws. ws ++ (map raw_entry part ++ map raw_entry behind)) (sym (take-map raw_entry first es))
      ∙ (ap (λ ws. take first (map raw_entry es) ++ (map raw_entry part ++ ws)) (sym (drop-map raw_entry count (drop first es)) ∙ ap (λ ws. drop count ws) (sym (drop-map raw_entry first es)))
      ∙ (ap (λ ws. take first ws ++ (map raw_entry part ++ drop count (drop first ws))) (sym (each es))
      ∙ ap (λ ws. take first (raw_entries es) ++ (ws ++ drop count (drop first (raw_entries es)))) (sym (each part)))))))

pub put-long : {E : Type 0} (es part : List E) (first count : ℕ) → first + count ≤ length es → length part ≡ count → length (put_mid first count es part) ≡ length es
put-long es part first count inside long =
    let behind = drop count (drop first es) in
    let front : length (take first es) ≡ first = length-take first es ∙ omega arith in
    let back : length behind ≡ length es - first - count = length-drop count (drop first es) ∙ ap (λ n. n - count) (length-drop first es) in
    omega (arith, length-append (take first es) (part ++ behind), length-append part behind, front, back)

-- The first `done` of `n` entries are decoded: each is valid and has 64 bits. The others are 0.
pub record AreDecoded (kind : Kind) (layout : Layout) (f : Bytes) (n : ℕ) (entries : List ℕ) (done : ℕ) : Type 0 where
  pub raw_entries : entries ≡ raw_entries_in f 0 done ++ replicate (n - done) 0
  pub sound : AreSound kind layout (raw_entries_in f 0 done)
  pub fit : AreFit (raw_entries_in f 0 done)

module _ (kind : Kind) (layout : Layout) (f : Bytes) (n : ℕ) (entries : List ℕ) where
  pub none-decoded : entries ≡ replicate n 0 → AreDecoded kind layout f n entries 0
  none-decoded clear = record {
    raw_entries = clear ∙ ap (λ k. replicate k 0) (omega arith);
    sound = λ i none. absurd (omega arith);
    fit = λ i none. absurd (omega arith);
  }

  pub all-decoded : AreDecoded kind layout f n entries n → entries ≡ raw_entries_in f 0 n
  all-decoded are =
      let none : n - n ≡ 0 = omega arith in
      are.raw_entries ∙ (ap (λ k. raw_entries_in f 0 n ++ replicate k 0) none ∙ append-nil (raw_entries_in f 0 n))

  -- The entries of the next chunk are 0 before they are written.
  module _ (done end : ℕ) (before : AreDecoded kind layout f n entries done) (order : done ≤ end) (room : end ≤ n) where
    rest : drop done entries ≡ replicate (n - done) 0
    rest = ap (λ ws. drop done ws) before.raw_entries ∙ drop_at (raw_entries_in f 0 done) (replicate (n - done) 0) done (words_long f 0 done)

    pub chunk-clear : between done end entries ≡ replicate (end - done) 0
    chunk-clear = ap (λ ws. take (end - done) ws) rest ∙ take-replicate (end - done) (n - done) 0 (omega arith)

    pub chunk-put : (chunk : List ℕ) → chunk ≡ raw_entries_in f (8 * done) (end - done) → AreSound kind layout chunk → AreFit chunk
        → AreDecoded kind layout f n (put_mid done (end - done) entries chunk) end
    chunk-put chunk is sound fit =
        let front = raw_entries_in f 0 done in
        let sum : done + (end - done) ≡ end = omega arith in
        let all : front ++ chunk ≡ raw_entries_in f 0 end = ap (λ ws. front ++ ws) is ∙ (words-behind f done (end - done) ∙ ap (λ k. raw_entries_in f 0 k) sum) in
        let first : take done entries ≡ front = ap (λ ws. take done ws) before.raw_entries ∙ take_at front (replicate (n - done) 0) done (words_long f 0 done) in
        let behind : drop (end - done) (drop done entries) ≡ replicate (n - end) 0 =
        ap (λ ws. drop (end - done) ws) rest ∙ (drop-replicate (end - done) (n - done) 0 ∙ ap (λ k. replicate k 0) (omega arith)) in
        record {
          raw_entries = ap (λ ws. ws ++ (chunk ++ drop (end - done) (drop done entries))) first
              ∙ (ap (λ ws. front ++ (chunk ++ ws)) behind
              ∙ (sym (append_assoc front chunk (replicate (n - end) 0)) ∙ ap (λ ws. ws ++ replicate (n - end) 0) all));
          sound = subst (λ ws. AreSound kind layout ws) all (each_append (λ w. IsTrue (raw_entry_valid kind layout w)) front chunk before.sound sound);
          fit = subst (λ ws. AreFit ws) all (each_append (λ w. w < 2 ^ 64) front chunk before.fit fit);
        }

-- A cell in which one refcount is raised or lowered.
use Rattle.std.proofs.Common.{◌≡◌, ◌≢◌, ℕ, ◌+◌, ◌-◌, ◌*◌, ◌/◌, ◌%◌, ◌<◌, ◌≤◌, ◌^◌, List, ◌++◌, length, take, drop, sym, arith}
use Rattle.std.proofs.Math.Nat.{pow-le-pow_right}
use Rattle.std.proofs.lemmas.Nat.{mod_below, one_shl, pow_pos}
use Rattle.std.proofs.lemmas.List.{length-take-le, length-drop, length-append, drop_at, take_at}
use Rattle.std.proofs.lemmas.Slice.{take-put_mid_below, drop-put_mid}
use borrow.Rule.Slice.PartMut.{put_mid}
use Rattle.qcow2_metadata.specs.Cells.{big_endian, bit_start, cell_bytes, cell_start, IsRaised}
use Rattle.qcow2_metadata.proofs.BigEndian.{bytes_as_bits}
use Rattle.qcow2_metadata.proofs.Digits.{raised_fits}
use Rattle.qcow2_metadata.proofs.Widths.{cell_bytes_small}

pub record FitsRaised (bytes : List ℕ) (x s : ℕ) : Type 0 where
  pub in_cell : x + 2 ^ s < 256 ^ length bytes
  pub in_word : 256 ^ length bytes ≤ 2 ^ 64
  pub shifted : 1 * 2 ^ s % 2 ^ 64 ≡ 2 ^ s

-- If the refcount isn't the greatest of its width, the incremented cell still fits.
pub fits_raised : (bytes : List ℕ) (x s order : ℕ) → order ≤ 6 → length bytes ≡ cell_bytes order → s + 2 ^ order ≤ 8 * cell_bytes order → x < 256 ^ length bytes → x / 2 ^ s % 2 ^ (2 ^ order) ≢ 2 ^ (2 ^ order) - 1 → FitsRaised bytes x s
fits_raised bytes x s order h len inside small room =
    let bits : 256 ^ length bytes ≡ 2 ^ (8 * cell_bytes order) = rw len (bytes_as_bits (cell_bytes order)) in
    let below : x < 2 ^ (8 * cell_bytes order) = omega (arith, bits, small) in
    let eight = cell_bytes_small order h in
    let few : 8 * cell_bytes order ≤ 64 = omega (arith, eight) in
    let digit : x / 2 ^ s % 2 ^ (2 ^ order) < 2 ^ (2 ^ order) = mod_below (x / 2 ^ s) (2 ^ (2 ^ order)) (pow_pos (2 ^ order)) in
    let fits = raised_fits x s (2 ^ order) (8 * cell_bytes order) inside below (omega (arith, digit, room)) in
    record {
      in_cell = omega (arith, bits, fits);
      in_word = rw bits (pow-le-pow_right {n = 2} (omega arith) few);
      shifted = one_shl s 64 (omega (arith, few, inside, pow_pos order));
    }

pub raised_in_place : (order by i a k b : ℕ) (bytes ys : List ℕ) → a ≡ cell_start order i → k ≡ cell_bytes order → b ≡ bit_start order i → a + k ≤ length bytes → length ys ≡ k → big_endian ys ≡ big_endian (take k (drop a bytes)) + by * 2 ^ b → IsRaised order by bytes i (put_mid a k bytes ys)
raised_in_place order by i a k b bytes ys ea ek eb inside len number =
    let start : length (take a bytes) ≡ a = length-take-le a bytes (omega arith) in
    let own : take k (drop a (put_mid a k bytes ys)) ≡ ys =
    rw (drop_at (take a bytes) (ys ++ drop k (drop a bytes)) a start) (take_at ys (drop k (drop a bytes)) k len) in
    record {
      before = rw (← ea) (take-put_mid_below a k bytes ys a (omega arith) (omega arith));
      cell_number = rw (← ea, ← ek, ← eb) (rw own number);
      after = rw (← ea, ← ek) (drop-put_mid a k bytes ys (a + k) (omega arith) (omega arith) len);
      same_length = omega (
        arith,
        length-append (take a bytes) (ys ++ drop k (drop a bytes)),
        length-append ys (drop k (drop a bytes)),
        length-drop k (drop a bytes),
        length-drop a bytes,
        start,
      );
    }

pub lowered_in_place : (order by i a k b : ℕ) (bytes ys : List ℕ) → a ≡ cell_start order i → k ≡ cell_bytes order → b ≡ bit_start order i → a + k ≤ length bytes → length ys ≡ k → big_endian (take k (drop a bytes)) ≡ big_endian ys + by * 2 ^ b → IsRaised order by (put_mid a k bytes ys) i bytes
lowered_in_place order by i a k b bytes ys ea ek eb inside len number =
    let start : length (take a bytes) ≡ a = length-take-le a bytes (omega arith) in
    let own : take k (drop a (put_mid a k bytes ys)) ≡ ys =
    rw (drop_at (take a bytes) (ys ++ drop k (drop a bytes)) a start) (take_at ys (drop k (drop a bytes)) k len) in
    record {
      before = rw (← ea) (sym (take-put_mid_below a k bytes ys a (omega arith) (omega arith)));
      cell_number = rw (← ea, ← ek, ← eb) (rw own number);
      after = rw (← ea, ← ek) (sym (drop-put_mid a k bytes ys (a + k) (omega arith) (omega arith) len));
      same_length = omega (
        arith,
        length-append (take a bytes) (ys ++ drop k (drop a bytes)),
        length-append ys (drop k (drop a bytes)),
        length-drop k (drop a bytes),
        length-drop a bytes,
        start,
      );
    }

-- The entries that are written to L2 tables, and their meanings.
use Rattle.std.proofs.Common.{◌≡◌, refl, ℕ, ◌+◌, ◌-◌, ◌*◌, ◌/◌, ◌%◌, ◌^◌, ◌<◌, ◌≤◌, ◌∙◌, ap, sym, arith, List, map, lit<}
use Rattle.std.specs.Prelude.{Bool, true, false, not, ◌&&◌, ◌||◌, ◌==◌, nat_le, if◌then◌else◌, IsTrue, Option, Some, None, replicate}
use Rattle.std.proofs.lemmas.Nat.{div-mul-add, mod-pow-add, mod_below, pow_pos}
use Rattle.std.proofs.Math.Pow.{mod-mod-pow}
use Rattle.qcow2_types.specs.Words.{Layout, unmapped, data_at, zeroes, packed, damaged, mapping_of, is_damaged, is_copied, is_cluster_offset, has_bit, max_offset, table_offset, standard_entry_valid, names_cluster, compressed_offset, mapping_without_copied}
use Rattle.qcow2_metadata.specs.Places.{IsAddressable}
use Rattle.qcow2_metadata.specs.Tables.{l2_table_kind, raw_entry_valid, AreSound, zero_raw_entry, shared_raw_entry, raw_without_copied}
use Rattle.qcow2_types.specs.TableBytes.{AreFit}
use Rattle.qcow2_metadata.specs.Allocations.{IsKeptAddressable, zeroed_raw_entry}
use Rattle.qcow2_metadata.proofs.TableSteps.{each_mapped, each_zero, zero_sound, cluster_sectors, cluster_place}

-- An entry with the COPIED flag and an offset that is a multiple of 512.
module _ (p : ℕ) (sectors : p % 512 ≡ 0) (near : p ≤ max_offset) (layout : Layout) (place : is_cluster_offset layout.cluster_bits p ≡ true) where
  -- Data.
  pub mapped_word : mapping_of layout (2 ^ 63 + p) ≡ (if not (p == 0) || (layout.external_data && true) then data_at (p / 2 ^ layout.cluster_bits) true else unmapped)
  unfolding mapping_of
  mapped_word =
      let a : (2 ^ 63 + p) / 2 ^ 62 % 2 ≡ 0 = omega arith in
      let b : (2 ^ 63 + p) / 2 ^ 1 % 2 ^ 8 ≡ 0 = omega arith in
      let d : (2 ^ 63 + p) / 2 ^ 56 % 2 ^ 6 ≡ 0 = omega arith in
      let e : (2 ^ 63 + p) / 2 ^ 0 % 2 ≡ 0 = omega arith in
      let offset : table_offset (2 ^ 63 + p) ≡ p = omega arith in
      let one : (2 ^ 63 + p) / 2 ^ 63 % 2 ≡ 1 = omega arith in
      rw (a, b, d, e, offset, place, one) refl

  -- Zeroes with a preallocated cluster, with and without the COPIED flag.
  pub kept_marked_word : layout.version ≡ 3 → mapping_of layout (2 ^ 63 + p + 1) ≡ zeroes (if not (p == 0) || (layout.external_data && true) then Some (p / 2 ^ layout.cluster_bits) else None) true
  unfolding mapping_of
  kept_marked_word v =
      let a : (2 ^ 63 + p + 1) / 2 ^ 62 % 2 ≡ 0 = omega arith in
      let b : (2 ^ 63 + p + 1) / 2 ^ 1 % 2 ^ 8 ≡ 0 = omega arith in
      let d : (2 ^ 63 + p + 1) / 2 ^ 56 % 2 ^ 6 ≡ 0 = omega arith in
      let e : (2 ^ 63 + p + 1) / 2 ^ 0 % 2 ≡ 1 = omega arith in
      let offset : table_offset (2 ^ 63 + p + 1) ≡ p = omega arith in
      let one : (2 ^ 63 + p + 1) / 2 ^ 63 % 2 ≡ 1 = omega arith in
      rw (a, b, d, e, offset, place, one, v) refl

  pub kept_unmarked_word : layout.version ≡ 3 → mapping_of layout (p + 1) ≡ zeroes (if not (p == 0) || (layout.external_data && false) then Some (p / 2 ^ layout.cluster_bits) else None) false
  unfolding mapping_of
  kept_unmarked_word v =
      let a : (p + 1) / 2 ^ 62 % 2 ≡ 0 = omega arith in
      let b : (p + 1) / 2 ^ 1 % 2 ^ 8 ≡ 0 = omega arith in
      let d : (p + 1) / 2 ^ 56 % 2 ^ 6 ≡ 0 = omega arith in
      let e : (p + 1) / 2 ^ 0 % 2 ≡ 1 = omega arith in
      let offset : table_offset (p + 1) ≡ p = omega arith in
      let one : (p + 1) / 2 ^ 63 % 2 ≡ 0 = omega arith in
      rw (a, b, d, e, offset, place, one, v) refl

  -- With either value of the flag.
  pub kept_word : (copied : Bool) → layout.version ≡ 3 → mapping_of layout (zero_raw_entry p copied) ≡ zeroes (if not (p == 0) || (layout.external_data && copied) then Some (p / 2 ^ layout.cluster_bits) else None) copied
  kept_word true v = kept_marked_word v
  kept_word false v = kept_unmarked_word v

not_damaged_pick : (b : Bool) (c : ℕ) → is_damaged (if b then data_at c true else unmapped) ≡ false
not_damaged_pick true c = refl
not_damaged_pick false c = refl

-- The entry that references a host cluster is valid.
pub mapped_sound : (layout : Layout) (c : ℕ) → 9 ≤ layout.cluster_bits → IsAddressable layout.cluster_bits c → IsTrue (raw_entry_valid l2_table_kind layout (2 ^ 63 + c * 2 ^ layout.cluster_bits))
mapped_sound layout c low near =
    let p : ℕ = c * 2 ^ layout.cluster_bits in
    rw (mapped_word (c * 2 ^ layout.cluster_bits) (cluster_sectors layout.cluster_bits c low near) near layout (cluster_place layout.cluster_bits c low near))
    (rw (not_damaged_pick (not (c * 2 ^ layout.cluster_bits == 0) || (layout.external_data && true)) (c * 2 ^ layout.cluster_bits / 2 ^ layout.cluster_bits)) refl)

-- The entry of a zeroed guest cluster is valid.
pub zeroed_sound : (layout : Layout) (kept : Option (ℕ × Bool)) → 9 ≤ layout.cluster_bits → layout.version ≡ 3 → IsKeptAddressable layout.cluster_bits kept → IsTrue (raw_entry_valid l2_table_kind layout (zeroed_raw_entry layout.cluster_bits kept))
zeroed_sound layout None low v near = rw (kept_unmarked_word 0 refl (omega arith) layout (cluster_place_zero layout.cluster_bits) v) refl
  where
    cluster_place_zero : (bits : ℕ) → is_cluster_offset bits 0 ≡ true
    cluster_place_zero bits = let none : 0 % 2 ^ bits ≡ 0 = let pos : 0 < 2 ^ bits = pow_pos bits in omega arith in rw none refl
zeroed_sound layout (Some kept) low v near =
    rw (kept_word (kept.0 * 2 ^ layout.cluster_bits) (cluster_sectors layout.cluster_bits kept.0 low near) near layout (cluster_place layout.cluster_bits kept.0 low near) kept.1 v) refl

-- Both entries have 64 bits.
pub mapped_fits : (bits c : ℕ) → IsAddressable bits c → 2 ^ 63 + c * 2 ^ bits < 2 ^ 64
mapped_fits bits c near = let place : c * 2 ^ bits ≤ 0x00ff_ffff_ffff_fe00 = near in omega arith

pub zeroed_fits : (bits : ℕ) (kept : Option (ℕ × Bool)) → IsKeptAddressable bits kept → zeroed_raw_entry bits kept < 2 ^ 64
zeroed_fits bits None near = lit< tt
zeroed_fits bits (Some kept) near = fits kept.1
  where
    place : kept.0 * 2 ^ bits ≤ 0x00ff_ffff_ffff_fe00
    place = near

    fits : (copied : Bool) → zero_raw_entry (kept.0 * 2 ^ bits) copied < 2 ^ 64
    fits true = omega (arith, place)
    fits false = omega (arith, place)

-- The entries of a new table are valid.
pub cleared_sound : (layout : Layout) (n : ℕ) → AreSound l2_table_kind layout (replicate n 0)
cleared_sound layout n = each_zero (λ w. IsTrue (raw_entry_valid l2_table_kind layout w)) n (zero_sound l2_table_kind layout)

pick : (c a n s z p q : Bool) (o l o' l' k k' : ℕ) (x x' : Bool) (y y' : Option ℕ)
    → is_damaged (if c then (if a || n then damaged else packed o l) else (if not s then damaged else if z then zeroes y x else if p then data_at k x else unmapped)) ≡ false
    → is_damaged (if c then (if false || n then damaged else packed o' l') else (if not s then damaged else if z then zeroes y' x' else if q then data_at k' x' else unmapped)) ≡ false
pick true true n s z p q o l o' l' k k' x x' y y' h = cc
pick true false true s z p q o l o' l' k k' x x' y y' h = cc
pick true false false s z p q o l o' l' k k' x x' y y' h = refl
pick false a n false z p q o l o' l' k k' x x' y y' h = cc
pick false a n true true p q o l o' l' k k' x x' y y' h = refl
pick false a n true false p true o l o' l' k k' x x' y y' h = refl
pick false a n true false p false o l o' l' k k' x x' y y' h = refl

-- An entry without its COPIED flag is still valid.
unmarked : (layout : Layout) (w : ℕ) → 9 ≤ layout.cluster_bits → is_damaged (mapping_of layout w) ≡ false → is_damaged (mapping_of layout (w % 2 ^ 63)) ≡ false
unfolding mapping_of
unmarked layout w low h =
    let k : ℕ = 70 - layout.cluster_bits in
    let split : 63 - (70 - layout.cluster_bits) + (70 - layout.cluster_bits) ≡ 63 = omega arith in
    let a : w % 2 ^ 63 / 2 ^ 62 % 2 ≡ w / 2 ^ 62 % 2 = omega arith in
    let b : w % 2 ^ 63 / 2 ^ 1 % 2 ^ 8 ≡ w / 2 ^ 1 % 2 ^ 8 = omega arith in
    let d : w % 2 ^ 63 / 2 ^ 56 % 2 ^ 6 ≡ w / 2 ^ 56 % 2 ^ 6 = omega arith in
    let e : w % 2 ^ 63 / 2 ^ 0 % 2 ≡ w / 2 ^ 0 % 2 = omega arith in
    let offset : table_offset (w % 2 ^ 63) ≡ table_offset w = omega arith in
    let none : w % 2 ^ 63 / 2 ^ 63 % 2 ≡ 0 = omega arith in
    let place : w % 2 ^ 63 % 2 ^ (70 - layout.cluster_bits) ≡ w % 2 ^ (70 - layout.cluster_bits) = ap (λ n. w % 2 ^ n % 2 ^ (70 - layout.cluster_bits)) (sym split) ∙ mod-mod-pow w (63 - (70 - layout.cluster_bits)) (70 - layout.cluster_bits) in
    rw (a, b, d, e, offset, none, place)
    (pick (has_bit w 62) (has_bit w 63) (nat_le (2 ^ 56) (compressed_offset layout.cluster_bits w)) (standard_entry_valid layout w) (has_bit w 0) (names_cluster layout w) _ _ _ _ _ _ _ _ _ _ _ h)

is_not : (b : Bool) → IsTrue (not b) → b ≡ false
is_not true h = cc
is_not false h = refl

not_is : (b : Bool) → b ≡ false → IsTrue (not b)
not_is true h = cc
not_is false h = refl

-- The bits below bit 63 don't depend on the flag.
part_same : (w x k : ℕ) → x + k ≤ 63 → w % 2 ^ 63 / 2 ^ x % 2 ^ k ≡ w / 2 ^ x % 2 ^ k
part_same w x k le =
    let whole : 63 ≡ 63 - x + x = omega arith in
    let rest : 63 - x ≡ 63 - x - k + k = omega arith in
    let parts : w % 2 ^ 63 ≡ w / 2 ^ x % 2 ^ (63 - x) * 2 ^ x + w % 2 ^ x = ap (λ n. w % 2 ^ n) whole ∙ mod-pow-add w (63 - x) x in
    let upper : w % 2 ^ 63 / 2 ^ x ≡ w / 2 ^ x % 2 ^ (63 - x) = ap (λ n. n / 2 ^ x) parts ∙ div-mul-add (w / 2 ^ x % 2 ^ (63 - x)) (2 ^ x) (w % 2 ^ x) (mod_below w (2 ^ x) (pow_pos x)) in
    ap (λ n. n % 2 ^ k) upper ∙ (ap (λ n. w / 2 ^ x % 2 ^ n % 2 ^ k) rest ∙ mod-mod-pow (w / 2 ^ x) (63 - x - k) k)

pick_unmarked : (c a n s z p : Bool) (o l k : ℕ) (x : Bool) (y : Option ℕ)
    → is_damaged (if c then (if a || n then damaged else packed o l) else (if not s then damaged else if z then zeroes y x else if p then data_at k x else unmapped)) ≡ false
    → (if c then (if false || n then damaged else packed o l) else (if not s then damaged else if z then zeroes y false else if p then data_at k false else unmapped))
    ≡ mapping_without_copied (if c then (if a || n then damaged else packed o l) else (if not s then damaged else if z then zeroes y x else if p then data_at k x else unmapped))
pick_unmarked true true n s z p o l k x y h = cc
pick_unmarked true false true s z p o l k x y h = refl
pick_unmarked true false false s z p o l k x y h = refl
pick_unmarked false a n false z p o l k x y h = refl
pick_unmarked false a n true true p o l k x y h = refl
pick_unmarked false a n true false true o l k x y h = refl
pick_unmarked false a n true false false o l k x y h = refl

unmarked_means : (layout : Layout) (v : ℕ) → 9 ≤ layout.cluster_bits → layout.cluster_bits ≤ 21 → layout.external_data ≡ false → is_damaged (mapping_of layout v) ≡ false
    → mapping_of layout (v % 2 ^ 63) ≡ mapping_without_copied (mapping_of layout v)
unfolding mapping_of
unmarked_means layout v low high inside sound =
    let split : 63 - (70 - layout.cluster_bits) + (70 - layout.cluster_bits) ≡ 63 = omega arith in
    let a : v % 2 ^ 63 / 2 ^ 62 % 2 ≡ v / 2 ^ 62 % 2 = omega arith in
    let b : v % 2 ^ 63 / 2 ^ 1 % 2 ^ 8 ≡ v / 2 ^ 1 % 2 ^ 8 = omega arith in
    let d : v % 2 ^ 63 / 2 ^ 56 % 2 ^ 6 ≡ v / 2 ^ 56 % 2 ^ 6 = omega arith in
    let e : v % 2 ^ 63 / 2 ^ 0 % 2 ≡ v / 2 ^ 0 % 2 = omega arith in
    let offset : table_offset (v % 2 ^ 63) ≡ table_offset v = omega arith in
    let none : v % 2 ^ 63 / 2 ^ 63 % 2 ≡ 0 = omega arith in
    let place : v % 2 ^ 63 % 2 ^ (70 - layout.cluster_bits) ≡ v % 2 ^ (70 - layout.cluster_bits) = ap (λ n. v % 2 ^ n % 2 ^ (70 - layout.cluster_bits)) (sym split) ∙ mod-mod-pow v (63 - (70 - layout.cluster_bits)) (70 - layout.cluster_bits) in
    let sectors : v % 2 ^ 63 / 2 ^ (70 - layout.cluster_bits) % 2 ^ (layout.cluster_bits - 8) ≡ v / 2 ^ (70 - layout.cluster_bits) % 2 ^ (layout.cluster_bits - 8) = part_same v (70 - layout.cluster_bits) (layout.cluster_bits - 8) (omega arith) in
    rw (a, b, d, e, offset, none, place, sectors, inside)
    (pick_unmarked (has_bit v 62) (has_bit v 63) (nat_le (2 ^ 56) (compressed_offset layout.cluster_bits v)) (standard_entry_valid layout v) (has_bit v 0) (not (table_offset v == 0) || (false && is_copied v)) _ _ _ _ _ (rw inside at sound))

-- An entry of a copy has the same meaning, without the COPIED flag.
pub shared_means : (layout : Layout) (w : ℕ) → 9 ≤ layout.cluster_bits → layout.cluster_bits ≤ 21 → layout.external_data ≡ false → is_damaged (mapping_of layout w) ≡ false
    → mapping_of layout (shared_raw_entry layout w) ≡ mapping_without_copied (mapping_of layout w)
shared_means layout w low high inside sound =
    ap (λ (b : Bool). mapping_of layout (if b then w else raw_without_copied w)) inside ∙ unmarked_means layout w low high inside sound

-- An entry of a copy is still valid.
shared_one : (layout : Layout) (w : ℕ) → 9 ≤ layout.cluster_bits → IsTrue (raw_entry_valid l2_table_kind layout w) → IsTrue (raw_entry_valid l2_table_kind layout (shared_raw_entry layout w))
shared_one layout w low old = go layout.external_data
  where
    go : (external : Bool) → IsTrue (raw_entry_valid l2_table_kind layout (if external then w else raw_without_copied w))
    go true = old
    go false = not_is (is_damaged (mapping_of layout (raw_without_copied w))) (unmarked layout w low (is_not (is_damaged (mapping_of layout w)) old))

pub shared_sound : (layout : Layout) (raw_entries : List ℕ) → 9 ≤ layout.cluster_bits → AreSound l2_table_kind layout raw_entries → AreSound l2_table_kind layout (map (shared_raw_entry layout) raw_entries)
shared_sound layout raw_entries low = each_mapped (λ w. IsTrue (raw_entry_valid l2_table_kind layout w)) (shared_raw_entry layout) raw_entries (λ w. shared_one layout w low)

pub shared_fit : (layout : Layout) (raw_entries : List ℕ) → AreFit raw_entries → AreFit (map (shared_raw_entry layout) raw_entries)
shared_fit layout raw_entries = each_mapped (λ w. w < 2 ^ 64) (shared_raw_entry layout) raw_entries (λ w. smaller layout.external_data w)
  where
    smaller : (external : Bool) (w : ℕ) → w < 2 ^ 64 → (if external then w else raw_without_copied w) < 2 ^ 64
    smaller true w fits = fits
    smaller false w fits = omega (arith, fits)

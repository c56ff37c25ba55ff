-- Lemmas on the whole guest clusters of a range.
use Rattle.std.proofs.Common.{◌≡◌, ◌⊎◌, inl, inr, arith, ap, subst, ◌∙◌, ℕ, ◌+◌, ◌-◌, ◌*◌, ◌/◌, ◌%◌, ◌^◌, ◌<◌, ◌≤◌}
use Rattle.std.specs.Prelude.{min}
use Rattle.std.proofs.Math.Nat.{add-mul, div-lt_iff_lt-mul, mul-le-mul_right}
use Rattle.std.proofs.lemmas.Bool.{cases_lt}
use Rattle.std.proofs.lemmas.Nat.{div-add-mod', le-div, mod_below, pow_pos}
use Rattle.imago_storage.specs.Steps.{IsIn, IsOut}
use Rattle.imago_access.specs.Room.{IsOfUnit, IsWholeUnit, Reaches}
use Rattle.qcow2_types.specs.Header.{Fields, cluster_size, entries_of_cluster}
use Rattle.qcow2_image.specs.Clearing.{IsWholeEnd, IsWholePart}
use Rattle.qcow2_image.specs.declared.clearing.Part.{Part}

module _ (h : Fields) (offset n start guest count length rest last row : ℕ) (inside : offset + n ≤ h.size) (small : offset + n < 2 ^ 64)
    (guest-is : guest ≡ (offset + (cluster_size h - 1)) / cluster_size h)
    (end-is : IsWholeEnd h (offset + n) last)
    (row-is : row + guest % entries_of_cluster h ≡ entries_of_cluster h)
    (count-is : count ≡ min (last - guest) row)
    (start-is : start ≡ min (guest * cluster_size h) (2 ^ 64 - 1))
    (length-is : length ≡ min (offset + n - start) (count * cluster_size h))
    (rest-is : rest ≡ min (offset + n - start) ((last - guest) * cluster_size h)) where
  abbrev c : ℕ
  c = cluster_size h

  one : 0 < c
  one = pow_pos h.cluster_bits

  rounded : (offset ≤ guest * c) × (guest * c < offset + c)
  rounded =
      let parts = div-add-mod' (offset + (c - 1)) c in
      let rest = mod_below (offset + (c - 1)) c one in
      let same : guest * c ≡ (offset + (c - 1)) / c * c = ap (λ g. g * c) guest-is in
      (omega (arith, parts, rest, same, one), omega (arith, parts, same, one))

  -- The first byte of a guest cluster of the part isn't before the part.
  from-there : (d : ℕ) → guest * c ≤ (guest + d) * c
  from-there d = mul-le-mul_right c (omega arith)

  next : (u : ℕ) → (u + 1) * c ≡ u * c + c
  next u = omega arith

  whole : (d : ℕ) → d < count → IsWholeUnit c h.size offset n (guest + d)
  whole d less =
      let there = end-is.reached (guest + d) (omega (arith, less, count-is)) in record {
        start = let le = from-there d in let low = rounded.0 in omega (arith, le, low);
        on_disk = there.0;
        end = there.1;
      }

  last-one : ((u : ℕ) → IsWholeUnit c h.size offset n u → u < guest + count) ⊎ (guest % entries_of_cluster h + count ≡ entries_of_cluster h)
  last-one = elim (cases_lt (last - guest) row) [
    | inl short ↦ inl (λ u is. let before = end-is.before u is.on_disk is.end in omega (arith, before, count-is, short))
    | inr long ↦ inr (omega (arith, long, count-is, row-is))
  ]

  first-fits : 0 < count → guest * c < offset + n
  first-fits some =
      let there = whole 0 some in
      let disk = there.on_disk in
      let end = there.end in
      let same : (guest + 0) * c ≡ guest * c = omega arith in
      omega (arith, disk, end, same, one)

  ends : 0 < count → start + length ≡ min ((guest + count) * c) h.size
  ends some =
      let low = first-fits some in
      let begins : start ≡ guest * c = omega (arith, start-is, low, small) in
      let split : guest + count ≡ guest + (count - 1) + 1 = omega (arith, some) in
      let there = (whole (count - 1) (omega (arith, some))).end in
      let product : (guest + count) * c ≡ (guest + (count - 1)) * c + c = ap (λ u. u * c) split ∙ next (guest + (count - 1)) in
      let sum : (guest + count) * c ≡ guest * c + count * c = add-mul guest count c in
      omega (arith, begins, length-is, there, product, sum, low, inside)

  rest-ends : 0 < count → start + rest ≡ min (last * c) h.size
  rest-ends some =
      let low = first-fits some in
      let begins : start ≡ guest * c = omega (arith, start-is, low, small) in
      let further : guest < last = omega (arith, some, count-is) in
      let there = (end-is.reached (last - 1) (omega (arith, further))).1 in
      let split : last ≡ last - 1 + 1 = omega (arith, further) in
      let product : last * c ≡ (last - 1) * c + c = ap (λ u. u * c) split ∙ next (last - 1) in
      let whole : last ≡ guest + (last - guest) = omega (arith, further) in
      let sum : last * c ≡ guest * c + (last - guest) * c = ap (λ u. u * c) whole ∙ add-mul guest (last - guest) c in
      omega (arith, begins, rest-is, there, product, sum, low, inside)

  pub is-whole-part : IsWholePart h offset n (record { start = start; guest = guest; count = count; length = length; rest = rest })
  is-whole-part = record {
    from = rounded.0;
    near = rounded.1;
    row = omega (arith, count-is, row-is);
    whole = whole;
    last = last-one;
    start = start-is;
    fits = λ some. let low = first-fits some in omega (arith, low, small);
    end = ends;
    empty = λ none. let zero : count * c ≡ 0 * c = ap (λ k. k * c) none in omega (arith, zero, length-is);
    last_whole = last;
    whole_end = end-is;
    rest = rest-ends;
  }

-- The part is inside its range, and has all its whole guest clusters up to the end of the L2 table.
module _ (h : Fields) (offset n : ℕ) (part : Part) (is : IsWholePart h offset n part) where
  abbrev unit : ℕ
  unit = cluster_size h

  some : 0 < unit
  some = pow_pos h.cluster_bits

  -- The guest cluster is one of the part.
  abbrev pub IsOfPart : ℕ → Type 0
  IsOfPart x = (part.guest ≤ x) × (x < part.guest + part.count)

  not-behind : (a b : ℕ) → a * unit < (b + 1) * unit → a ≤ b
  not-behind a b less = elim (cases_lt b a) [
    | inr low ↦ low
    | inl high ↦ let le : (b + 1) * unit ≤ a * unit = mul-le-mul_right unit (omega (arith, high)) in absurd (omega (arith, le, less))
  ]

  pub begins : 0 < part.count → part.start ≡ part.guest * unit
  begins any = let at = is.start in let fits = is.fits any in omega (arith, at, fits)

  bounds : part.start ≤ part.guest * unit
  bounds = let at = is.start in omega (arith, at)

  any-byte : (p : ℕ) → IsIn part.start part.length p → 0 < part.count
  any-byte p at = elim (cases_lt 0 part.count) [
    | inl any ↦ any
    | inr none ↦ let empty = is.empty (omega (arith, none)) in absurd (omega (arith, empty, at.0, at.1))
  ]

  pub last-end : 0 < part.count → part.start + part.length ≤ offset + n
  last-end any =
      let end = is.end any in
      let there = (is.whole (part.count - 1) (omega (arith, any))).end in
      let split : part.guest + part.count ≡ part.guest + (part.count - 1) + 1 = omega (arith, any) in
      let product : (part.guest + part.count) * unit ≡ (part.guest + (part.count - 1)) * unit + unit =
      ap (λ u. u * unit) split ∙ omega arith in
      omega (arith, end, there, product)

  pub part-byte : (p : ℕ) → IsIn part.start part.length p → IsOfPart (p / unit) × (p < h.size) × IsIn offset n p
  part-byte p at =
      let any = any-byte p at in
      let end = is.end any in
      let low = begins any in
      let from = is.from in
      let parts = div-add-mod' p unit in
      let rest = mod_below p unit some in
      let next : (p / unit + 1) * unit ≡ p / unit * unit + unit = omega arith in (
        (
          not-behind part.guest (p / unit) (omega (arith, low, at.0, parts, rest, next)),
          (div-lt_iff_lt-mul some).1 (omega (arith, at.1, end)),
        ),
        omega (arith, at.1, end),
        (let last = last-end any in (omega (arith, low, at.0, from), omega (arith, at.1, last))),
      )

  -- No byte of a guest cluster of the part is outside of it.
  pub part-all : (p : ℕ) → IsOut part.start part.length p → p < h.size → IsOfPart (p / unit) → ⊥
  part-all p out disk ours =
      let any : 0 < part.count = omega (arith, ours.0, ours.1) in
      let end = is.end any in
      let low = begins any in
      let parts = div-add-mod' p unit in
      let rest = mod_below p unit some in
      let from : part.guest * unit ≤ p / unit * unit = mul-le-mul_right unit ours.0 in
      let to : (p / unit + 1) * unit ≤ (part.guest + part.count) * unit = mul-le-mul_right unit (omega (arith, ours.1)) in
      let next : (p / unit + 1) * unit ≡ p / unit * unit + unit = omega arith in
      elim out [
        | inl before ↦ omega (arith, before, low, from, parts)
        | inr behind ↦ omega (arith, behind, end, disk, to, next, parts, rest)
      ]

  -- Each byte of a guest cluster of the part is in a whole cluster of the range.
  pub part-unit : (p : ℕ) → p < h.size → IsOfPart (p / unit)
      → IsOfUnit unit h.size (p / unit) p × IsWholeUnit unit h.size offset n (p / unit)
  part-unit p disk ours =
      let parts = div-add-mod' p unit in
      let rest = mod_below p unit some in
      let there : part.guest + (p / unit - part.guest) ≡ p / unit = omega (arith, ours.0) in (
        record { start = omega (arith, parts); end = omega (arith, parts, rest); on_disk = disk },
        subst (IsWholeUnit unit h.size offset n) there (is.whole (p / unit - part.guest) (omega (arith, ours.0, ours.1))),
      )

  not-before : (u : ℕ) → IsWholeUnit unit h.size offset n u → part.guest ≤ u
  not-before u whole =
      let start = whole.start in
      let near = is.near in
      let next : (u + 1) * unit ≡ u * unit + unit = omega arith in
      not-behind part.guest u (omega (arith, start, near, next))

  any-unit : 0 < entries_of_cluster h → (u : ℕ) → IsWholeUnit unit h.size offset n u → 0 < part.count
  any-unit entries u whole =
      let low = not-before u whole in
      let below = mod_below part.guest (entries_of_cluster h) entries in
      elim is.last [
        | inl all ↦ let last = all u whole in omega (arith, last, low)
        | inr full ↦ omega (arith, full, below)
      ]

  pub part-reaches : 0 < entries_of_cluster h → Reaches unit h.size offset n part.start part.length
  part-reaches entries = record {
    none_before = λ u whole. let le : part.guest * unit ≤ u * unit = mul-le-mul_right unit (not-before u whole) in omega (arith, le, bounds);
    nonempty = λ u whole.
        let any = any-unit entries u whole in
        let end = is.end any in
        let low = begins any in
        let disk = (is.whole 0 any).on_disk in
        let same : (part.guest + 0) * unit ≡ part.guest * unit = omega arith in
        let more : (part.guest + 1) * unit ≤ (part.guest + part.count) * unit = mul-le-mul_right unit (omega (arith, any)) in
        let next : (part.guest + 1) * unit ≡ part.guest * unit + unit = omega arith in
        omega (arith, end, low, disk, same, more, next, some);
    none_cut = λ u whole before.
        let any = any-unit entries u whole in
        let end = is.end any in
        let inside : u < part.guest + part.count = not-behind-end u (omega (arith, before, end)) in
        let more : (u + 1) * unit ≤ (part.guest + part.count) * unit = mul-le-mul_right unit (omega (arith, inside)) in
        let next : (u + 1) * unit ≡ u * unit + unit = omega arith in
        omega (arith, end, more, next);
  } where
    not-behind-end : (u : ℕ) → u * unit < (part.guest + part.count) * unit → u < part.guest + part.count
    not-behind-end u less = elim (cases_lt u (part.guest + part.count)) [
      | inl low ↦ low
      | inr high ↦ let le : (part.guest + part.count) * unit ≤ u * unit = mul-le-mul_right unit high in absurd (omega (arith, le, less))
    ]

  -- The rest of the range from the part on has all its whole guest clusters, in any table.
  pub rest-reaches : 0 < part.count → Reaches unit h.size offset n part.start part.rest
  rest-reaches any = record {
    none_before = λ u whole. let le : part.guest * unit ≤ u * unit = mul-le-mul_right unit (not-before u whole) in omega (arith, le, bounds);
    nonempty = λ u whole.
        let end = is.rest any in
        let low = begins any in
        let disk = whole.on_disk in
        let from : part.guest * unit ≤ u * unit = mul-le-mul_right unit (not-before u whole) in
        let more = up-to u whole in
        omega (arith, end, low, disk, from, more, some);
    none_cut = λ u whole before. let end = is.rest any in let more = up-to u whole in omega (arith, end, more);
  } where
    up-to : (u : ℕ) → IsWholeUnit unit h.size offset n u → u * unit + unit ≤ is.last_whole * unit
    up-to u whole =
        let inside : u < is.last_whole = is.whole_end.before u whole.on_disk whole.end in
        let more : (u + 1) * unit ≤ is.last_whole * unit = mul-le-mul_right unit (omega (arith, inside)) in
        let next : (u + 1) * unit ≡ u * unit + unit = omega arith in
        omega (arith, more, next)

  pub rest-end : 0 < part.count → part.start + part.rest ≤ offset + n
  rest-end any =
      let end = is.rest any in
      let first = is.whole 0 any in
      let inside : part.guest + 0 < is.last_whole = is.whole_end.before (part.guest + 0) first.on_disk first.end in
      let there = (is.whole_end.reached (is.last_whole - 1) (omega (arith, inside))).1 in
      let split : is.last_whole ≡ is.last_whole - 1 + 1 = omega (arith, inside) in
      let product : is.last_whole * unit ≡ (is.last_whole - 1) * unit + unit = ap (λ u. u * unit) split ∙ omega arith in
      omega (arith, end, there, product)

  -- Each of its bytes is in the first guest cluster of the part or a later one.
  pub rest-from : 0 < part.count → (p : ℕ) → part.start ≤ p → part.guest ≤ p / unit
  rest-from any p from = let low = begins any in le-div part.guest p unit some (omega (arith, low, from))

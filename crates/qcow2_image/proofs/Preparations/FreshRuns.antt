-- Lemmas on what a mapping holds for consecutive guest clusters, where the first host cluster has the copied data.
use Rattle.std.proofs.Common.{◌≡◌, ◌⊎◌, inl, inr, sym, subst, ap, refl, arith, ◌∙◌, ℕ, ◌+◌, ◌-◌, ◌*◌, ◌/◌, ◌%◌, ◌<◌, ◌≤◌, ltb, leb, Bool, true, false, Option, Some, None}
use Rattle.std.specs.Prelude.{◌&&◌, IsTrue, if◌then◌else◌, min}
use Rattle.std.proofs.lemmas.Bool.{and_from, cases_Bool, cases_eq, cases_lt, cases_order, le-leb, both_ways, lt-ltb}
use Rattle.std.proofs.lemmas.Nat.{div-add-mod', mod_below, pow_pos}
use Rattle.std.proofs.Math.Nat.{add-mul, mul-le-mul_right}
use Rattle.imago_storage.specs.declared.storage.Storage.{Ghosts}
use Rattle.imago_storage.specs.Disk.{Value}
use Rattle.imago_storage.specs.Steps.{IsOut}
use Rattle.imago_access.specs.Changes.{Asked, IsCopied, IsHolding, Prepared, run_at}
use Rattle.imago_access.specs.Layer.{Held, Layer, beside, inside, loose}
use Rattle.imago_access.specs.Room.{IsApart, IsUncutAt}
use Rattle.qcow2_types.specs.Bytes.{Bytes}
use Rattle.qcow2_types.specs.Entries.{entry}
use Rattle.qcow2_types.specs.Header.{Fields, cluster_size, entries_of_cluster}
use Rattle.qcow2_types.specs.Words.{Mapping, data_at, zeroes, packed, damaged}
use Rattle.qcow2_types.specs.Words as mappings
use Rattle.qcow2_metadata.specs.Places.{IsAddressable}
use Rattle.qcow2_image.specs.Allocating.{shown_blank, shown_cell, shown_of}
use Rattle.qcow2_image.specs.Filling.{IsInFirst, IsLeft}
use Rattle.qcow2_image.specs.HeldHomes.{clusters-from, clusters-of, run-from, run-guest}
use Rattle.qcow2_image.specs.Holding.{PreparedMappingRun, IsUncopied, copied_to, held_writable_location, held_place, writable_location_or, in_clusters, in_run, place_in}
use Rattle.qcow2_image.specs.Homes.{memory_is}
use Rattle.qcow2_image.specs.ImageLayer.{blank_of, cell_by, writable_location_by, writable_locations}
use Rattle.qcow2_image.specs.Preparing.{IsCovered, IsReservedFor, first_part, first_run, held_run, run_in, run_part}
use Rattle.qcow2_image.specs.Rooms.{HoldsIn, rest_of}
use Rattle.qcow2_image.specs.Seen.{file_of, writable_locations_of, layer_in, layer_of, memory_of}
use Rattle.qcow2_image.specs.declared.allocating.Shown.{Shown}
use Rattle.qcow2_image.specs.declared.allocating.Shown.TheVariants as variant
use Rattle.qcow2_image.specs.declared.mappings.Reserved.{Reserved}
use Rattle.qcow2_image.specs.declared.qcow2.Qcow2.{Qcow2}

some-same : (a b : Shown) → Some a ≡ Some b → a ≡ b
some-same a b is = cc is

blank-shown : (backing : Bool) (f : Bytes) (h : Fields) (p : ℕ) → blank_of backing ≡ shown_cell f h p (shown_blank backing)
blank-shown true f h p = refl
blank-shown false f h p = refl

-- Each byte of a guest cluster reads as the cluster shows.
pub shown-says : (backing : Bool) (shown : Shown) (f : Bytes) (h : Fields) (p : ℕ) (m : Mapping) → shown_of backing m ≡ Some shown
    → cell_by (blank_of backing) f h p m ≡ shown_cell f h p shown
shown-says backing shown f h p mappings.unmapped is = blank-shown backing f h p ∙ ap (shown_cell f h p) (some-same (shown_blank backing) shown is)
shown-says backing shown f h p (zeroes cluster copied) is = ap (shown_cell f h p) (some-same variant.Zeroes shown is)
shown-says backing shown f h p (packed offset length) is = ap (shown_cell f h p) (some-same variant.Barred shown is)
shown-says backing shown f h p (data_at cluster copied) is = ap (shown_cell f h p) (some-same (variant.Data cluster) shown is)
shown-says backing shown f h p damaged is = absurd (cc is)

uncopied-nowhere : (h : Fields) (p : ℕ) (m : Mapping) → IsUncopied m → writable_location_by h p m ≡ None
uncopied-nowhere h p (data_at cluster true) is = absurd is
uncopied-nowhere h p (data_at cluster false) is = refl
uncopied-nowhere h p (zeroes cluster copied) is = refl
uncopied-nowhere h p (packed offset length) is = refl
uncopied-nowhere h p mappings.unmapped is = refl
uncopied-nowhere h p damaged is = refl

nowhere-uncopied : (h : Fields) (p : ℕ) (m : Mapping) → writable_location_by h p m ≡ None → IsUncopied m
nowhere-uncopied h p (data_at cluster true) is = absurd (cc is)
nowhere-uncopied h p (data_at cluster false) is = tt
nowhere-uncopied h p (zeroes cluster copied) is = tt
nowhere-uncopied h p (packed offset length) is = tt
nowhere-uncopied h p mappings.unmapped is = tt
nowhere-uncopied h p damaged is = tt

-- If a byte of a writable image can't be written in place, its mapping isn't data with the COPIED flag.
pub homeless-uncopied : (f : Bytes) (h : Fields) (writable : Bool) (p : ℕ) → IsTrue writable → p < h.size → writable_locations writable f h p ≡ None
    → IsUncopied (entry f h (p / cluster_size h))
homeless-uncopied f h writable p may low is =
    nowhere-uncopied h p (entry f h (p / cluster_size h)) (rw (may, lt-ltb p h.size low) at is)

pub uncopied-homeless : (writable : Bool) (f : Bytes) (h : Fields) (p : ℕ) → IsUncopied (entry f h (p / cluster_size h)) → writable_locations writable f h p ≡ None
uncopied-homeless writable f h p is = from (writable && ltb p h.size) where
  from : (b : Bool) → (if b then writable_location_by h p (entry f h (p / cluster_size h)) else None) ≡ None
  from true = uncopied-nowhere h p (entry f h (p / cluster_size h)) is
  from false = refl

-- The part of a range in its first `k` clusters, by the size of clusters.
module _ (c k offset length n : ℕ) (one : 0 < c) (any : 0 < k) (is : n ≡ min length (k * c - offset % c)) where
  below : offset % c < c
  below = mod_below offset c one

  least : c ≤ k * c
  least = let le : 1 * c ≤ k * c = mul-le-mul_right c (omega (arith, any)) in omega (arith, le)

  part-some : 0 < length → 0 < n
  part-some some = omega (arith, is, below, least, some)

  part-low : offset / c * c ≤ offset
  part-low = omega (arith, div-add-mod' offset c)

  part-high : offset + n ≤ offset / c * c + k * c
  part-high = omega (arith, div-add-mod' offset c, is, below, least)

  part-ends : (offset + n ≡ offset + length) ⊎ (offset + n ≡ (offset / c + k) * c)
  part-ends = elim (cases_lt (k * c - offset % c) length) [
    | inr short ↦ inl (omega (arith, is, short))
    | inl long ↦
        let product : (offset / c + k) * c ≡ offset / c * c + k * c = add-mul (offset / c) k c in
        inr (omega (arith, is, long, product, div-add-mod' offset c, below, least))
  ]

  part-uncut : (size : ℕ) → IsUncutAt c size offset length (offset + n)
  part-uncut size u unit = elim part-ends [
    | inl all ↦ inr (omega (arith, all, unit.end))
    | inr last ↦ elim (cases_lt u (offset / c + k)) [
      | inl more ↦
          let le : (u + 1) * c ≤ (offset / c + k) * c = mul-le-mul_right c (omega (arith, more)) in
          let product : (u + 1) * c ≡ u * c + c = omega arith in
          inr (omega (arith, le, product, last))
      | inr less ↦ let le : (offset / c + k) * c ≤ u * c = mul-le-mul_right c less in inl (omega (arith, le, last))
    ]
  ]

  part-inside : (p : ℕ) → p / c < offset / c + k → p < offset + length → p < offset + n
  part-inside p to low = elim part-ends [
    | inl all ↦ omega (arith, all, low)
    | inr last ↦
        let le : (p / c + 1) * c ≤ (offset / c + k) * c = mul-le-mul_right c (omega (arith, to)) in
        let product : (p / c + 1) * c ≡ p / c * c + c = omega arith in
        let rest = mod_below p c one in
        omega (arith, last, le, product, rest, div-add-mod' p c)
  ]

  -- A byte of the first cluster is in a unit that the range touches.
  near-by : 0 < length → (p u : ℕ) → p / c ≡ offset / c → u * c ≤ p → p < u * c + c → (u * c + c ≤ offset) ⊎ (offset + length ≤ u * c) → ⊥
  near-by some p u same low high which =
      let here : p / c * c ≡ offset / c * c = ap (λ (x : ℕ). x * c) same in
      let split = div-add-mod' p c in
      let split' = div-add-mod' offset c in
      let rest : p % c < c = mod_below p c one in
      elim (cases_order u (offset / c)) [
        | inl is ↦
            let place : u * c ≡ offset / c * c = ap (λ (x : ℕ). x * c) is in
            elim which [
              | inl before ↦ omega (arith, before, place, split', below)
              | inr behind ↦ omega (arith, behind, place, part-low, some)
            ]
        | inr (inl less) ↦
            let le : (u + 1) * c ≤ offset / c * c = mul-le-mul_right c (omega (arith, less)) in
            let product : (u + 1) * c ≡ u * c + c = omega arith in
            omega (arith, le, product, high, here, split)
        | inr (inr more) ↦
            let le : (offset / c + 1) * c ≤ u * c = mul-le-mul_right c (omega (arith, more)) in
            let product : (offset / c + 1) * c ≡ offset / c * c + c = omega arith in
            omega (arith, le, product, low, here, split, rest)
      ]

  part-near : 0 < length → (p : ℕ) → p / c ≡ offset / c → IsApart c offset length p → ⊥
  part-near some p same apart = near-by some p apart.0 same apart.1 apart.2 apart.3

-- A byte of the range is in such a unit too.
range-near : (c offset length p : ℕ) → offset ≤ p → p < offset + length → IsApart c offset length p → ⊥
range-near c offset length p low high apart = elim apart.3 [
  | inl before ↦ let behind = apart.2 in omega (arith, before, behind, low)
  | inr behind ↦ let from = apart.1 in omega (arith, behind, from, high)
]

-- An image that holds such a run, and its layer.
module _ {S : Type 0} (g : Ghosts S) (d : Qcow2 S g) (asked : Asked) (clusters : Reserved) (mapping_id : ℕ) (written : ℕ → Bool)
    (unwritten : (p : ℕ) → written p ≡ false) (some : 0 < asked.length) (fits : asked.offset + asked.length ≤ d.tables.file.header.fields.size)
    (any : 0 < clusters.count) where
  abbrev h : Fields
  h = d.tables.file.header.fields

  abbrev c : ℕ
  c = cluster_size h

  abbrev guest : ℕ
  guest = asked.offset / c

  abbrev count : ℕ
  count = clusters.count

  abbrev run : ℕ
  run = run_in h clusters.count asked.offset asked.length

  abbrev hold : PreparedMappingRun
  hold = held_run g (run_part h clusters.count asked) clusters d mapping_id written

  abbrev now : Layer
  now = layer_in g d.tables d.mode d.number d.failed (Some hold)

  one : 0 < c
  one = pow_pos h.cluster_bits

  long : 0 < run
  long = part-some c count asked.offset asked.length run one any refl some

  short : run ≤ asked.length
  short = omega arith

  pub fresh-part : (0 < run) × (run ≤ asked.length)
  fresh-part = (long, short)

  pub fresh-uncut : IsUncutAt c h.size asked.offset asked.length (asked.offset + run)
  fresh-uncut = part-uncut c count asked.offset asked.length run one any refl h.size

  first-place : place_in h clusters.host asked.offset ≡ held_place h hold asked.offset
  first-place = let same : clusters.host ≡ clusters.host + (guest - guest) = omega arith in ap (λ x. place_in h x asked.offset) same

  -- The guest clusters after the first will be overwritten completely.
  module _ (row : guest % entries_of_cluster h + count ≤ entries_of_cluster h)
      (covered : (i : ℕ) → 0 < i → i < count → IsCovered h asked (guest + i)) where
    -- The host clusters can be linked, and are held.
    pub fresh-held : IsAddressable h.cluster_bits (clusters.host + (count - 1)) → IsReservedFor g guest clusters d.tables
        → ((i : ℕ) → i < count → IsUncopied (entry (file_of g d.tables) h (guest + i))) → HoldsIn g d.tables hold
    fresh-held near reserved uncopied = record {
      space = reserved.space;
      space_known = reserved.space_known;
      held = record {
        any = any;
        row = row;
        in_table = reserved.in_table;
        own = reserved.own;
        uncopied = uncopied;
        host_nonzero = reserved.host_nonzero;
        reach = near;
        placed = first-place;
        long = long;
        first = part-low c count asked.offset asked.length run one any refl;
        last = part-high c count asked.offset asked.length run one any refl;
        on_disk = omega (arith, short, fits);
        unwritten_is_copied = λ p here not-yet. refl;
        beside = λ p here out. unwritten p;
      };
      room = reserved.room;
    }

    -- A byte of the guest clusters is in the first one, or in the run.
    where-is : (p : ℕ) → in_clusters h hold p ≡ true → (p / c ≡ guest) ⊎ (IsTrue asked.overwrite × (asked.offset ≤ p) × (p < asked.offset + run))
    where-is p is =
        let there = clusters-from h hold p is in
        elim (cases_eq (p / c) guest) [
          | inl first ↦ inl first
          | inr other ↦
              let i : ℕ = p / c - guest in
              let whole : p / c ≡ guest + i = omega (arith, there.0.0) in
              let all = covered i (omega (arith, there.0.0, other)) (omega (arith, there.0.0, there.0.1)) in
              let in-range = all.all p whole in
              inr (all.overwrite, in-range.0, part-inside c count asked.offset asked.length run one any refl p there.0.1 in-range.1)
        ]

    -- The mapping only holds guest clusters that the range touches.
    pub fresh-near : (p : ℕ) → IsApart c asked.offset asked.length p → now.held p ≡ loose
    fresh-near p apart = elim (cases_Bool (in_clusters h hold p)) [
      | inr far ↦ rw far refl
      | inl near ↦ elim (where-is p near) [
        | inl first ↦ absurd (part-near c count asked.offset asked.length run one any refl some p first apart)
        | inr there ↦ absurd (range-near c asked.offset asked.length p there.1 (omega (arith, there.2, short)) apart)
      ]
    ]

    module _ (near : IsAddressable h.cluster_bits (clusters.host + (count - 1))) (reserved : IsReservedFor g guest clusters d.tables)
        (uncopied : (i : ℕ) → i < count → IsUncopied (entry (file_of g d.tables) h (guest + i))) (under : ℕ → Value)
        (filled : (p : ℕ) → IsInFirst h asked p → IsLeft (first_part h asked) p → IsCopied under (layer_of g d) p (file_of g d.tables (place_in h clusters.host p))) where
      holds : HoldsIn g d.tables hold
      holds = fresh-held near reserved uncopied

      -- No entry makes a byte of the guest clusters writable.
      homeless-at : (p : ℕ) → (guest ≤ p / c) × (p / c < guest + count) → writable_locations_of g d p ≡ None
      homeless-at p at =
          let i : ℕ = p / c - guest in
          let whole : guest + i ≡ p / c = omega (arith, at.0) in
          let raw_entry : entry (memory_of g d.tables) h (p / c) ≡ entry (file_of g d.tables) h (guest + i) =
          ap (λ (m : Bytes). entry m h (p / c)) (memory_is g d.tables) ∙ ap (entry (file_of g d.tables) h) (sym whole) in
          uncopied-homeless d.mode.writable (memory_of g d.tables) h p
          (subst IsUncopied (sym raw_entry) (uncopied i (omega (arith, at.0, at.1))))

      -- A byte of the run can be written where it is held.
      home-at : (i : ℕ) → i < run → now.writable_location (asked.offset + i) ≡ Some (0, place_in h clusters.host asked.offset + i)
      home-at i less =
          let in-run : in_run hold (asked.offset + i) ≡ true = and_from (leb asked.offset (asked.offset + i)) (ltb (asked.offset + i) (asked.offset + run))
          (le-leb asked.offset (asked.offset + i) (omega arith)) (lt-ltb (asked.offset + i) (asked.offset + run) (omega (arith, less))) in
          let at = run-guest (rest_of g d.tables holds.space) hold holds.held (asked.offset + i) in-run in
          let behind : asked.offset + i - asked.offset ≡ i = omega arith in
          ap (λ (o : Option (ℕ × ℕ)). writable_location_or o (held_writable_location hold (asked.offset + i))) (homeless-at (asked.offset + i) at)
          ∙ rw in-run (ap (λ (n : ℕ). Some (0, place_in h clusters.host asked.offset + n)) behind)

      out-of-run : (p : ℕ) → in_run hold p ≡ false → IsOut asked.offset run p
      out-of-run p out = elim (cases_lt p asked.offset) [
        | inl before ↦ inl before
        | inr behind ↦ elim (cases_lt p (asked.offset + run)) [
          | inl near ↦ absurd (both_ways (in_run hold p) out
              (and_from (leb asked.offset p) (ltb p (asked.offset + run)) (le-leb asked.offset p behind) (lt-ltb p (asked.offset + run) near)))
          | inr past ↦ inr past
        ]
      ]

      -- A byte of the first guest cluster outside the run is outside the range's part in that cluster.
      out-of-first : (p : ℕ) → IsOut asked.offset run p → IsOut asked.offset (first_run h asked.offset asked.length) p
      out-of-first p out = elim out [
        | inl before ↦ inl before
        | inr past ↦ inr (let most = least c count asked.offset asked.length run one any refl in omega (arith, past, most))
      ]

      -- In the first guest cluster each byte has what the guest reads, unless it will be overwritten.
      filled-at : (p : ℕ) → p / c ≡ guest → p < h.size → IsLeft (first_part h asked) p
          → IsCopied under (layer_of g d) p (hold.copied (held_place h hold p))
      filled-at p at on left =
          let same : clusters.host ≡ clusters.host + (p / c - guest) = omega (arith, at) in
          subst (λ x. IsCopied under (layer_of g d) p (file_of g d.tables (place_in h x p))) same (filled p (at, on) left)

      -- The copied byte of the run is what the guest reads.
      inside-at : (p : ℕ) → in_clusters h hold p ≡ true → in_run hold p ≡ true → (over : Bool) → asked.overwrite ≡ over
          → IsHolding under now asked.offset run over p (inside (if over then None else Some (hold.copied (held_place h hold p))) None over)
      inside-at p near is true overwritten = (run-from hold p is, refl, refl)
      inside-at p near is false overwritten = elim (where-is p near) [
        | inl first ↦ (run-from hold p is, refl, refl, filled-at p first (clusters-from h hold p near).1 (λ all. absurd (cc (sym overwritten ∙ all))))
        | inr there ↦ absurd (cc (sym overwritten ∙ there.0))
      ]

      -- The same holds for a byte outside the run.
      beside-at : (p : ℕ) → in_clusters h hold p ≡ true → in_run hold p ≡ false
          → IsHolding under now asked.offset run asked.overwrite p (beside (hold.copied (held_place h hold p)))
      beside-at p near out =
          let there = clusters-from h hold p near in (
            λ here. both_ways (in_run hold p) out (and_from (leb asked.offset p) (ltb p (asked.offset + run)) (le-leb asked.offset p here.0) (lt-ltb p (asked.offset + run) here.1)),
            elim (where-is p near) [
              | inl first ↦ filled-at p first there.1 (λ all. out-of-first p (out-of-run p out))
              | inr all ↦ absurd (both_ways (in_run hold p) out (and_from (leb asked.offset p) (ltb p (asked.offset + run))
                  (le-leb asked.offset p all.1) (lt-ltb p (asked.offset + run) all.2)))
            ],
            ap (λ (o : Option (ℕ × ℕ)). writable_location_or o (held_writable_location hold p)) (homeless-at p there.0) ∙ rw out refl,
          )

      -- The state of a byte, by where it is.
      abbrev held-by : Bool → Bool → ℕ → Held
      held-by near within p = if near then (if within then inside (if asked.overwrite then None else Some (hold.copied (held_place h hold p))) None asked.overwrite
          else beside (hold.copied (held_place h hold p))) else loose

      held-is : (p : ℕ) (near within : Bool) → in_clusters h hold p ≡ near → in_run hold p ≡ within → now.held p ≡ held-by near within p
      held-is p near within is is' = λ i. if is i then (if is' i then inside (copied_to h hold p) (if unwritten p i then Some (file_of g d.tables (held_place h hold p)) else None) asked.overwrite
          else beside (hold.copied (held_place h hold p))) else loose

      holds-at : (p : ℕ) (near within : Bool) → in_clusters h hold p ≡ near → in_run hold p ≡ within
          → IsHolding under now asked.offset run asked.overwrite p (held-by near within p)
      holds-at p false within is is' = tt
      holds-at p true true is is' = inside-at p is is' asked.overwrite refl
      holds-at p true false is is' = beside-at p is is'

      pub fresh-prepared : Prepared under (layer_of g d) now asked (run_at 0 (place_in h clusters.host asked.offset) run (Some mapping_id))
      fresh-prepared = record {
        fixed = refl;
        size = refl;
        cell = refl;
        writable_location = home-at;
        unspent = refl;
        holds = λ p. subst (IsHolding under now asked.offset run asked.overwrite p) (sym (held-is p (in_clusters h hold p) (in_run hold p) refl refl))
            (holds-at p (in_clusters h hold p) (in_run hold p) refl refl);
        some_held = λ x is.
            let near = clusters-of h hold asked.offset (omega arith, omega (arith, any)) (omega (arith, some, fits)) in
            let within = and_from (leb asked.offset asked.offset) (ltb asked.offset (asked.offset + run)) (le-leb asked.offset asked.offset (omega arith)) (lt-ltb asked.offset (asked.offset + run) (omega (arith, long))) in
            (asked.offset, copied_to h hold asked.offset, (omega arith, omega (arith, long)), held-is asked.offset true true near within);
      }

-- The header of a flushed image references a longer L1 table that was stored.
use Rattle.std.proofs.Common.{◌≡◌, ◌≢◌, ℕ, ◌+◌, ◌-◌, ◌*◌, ◌/◌, ◌^◌, ◌<◌, ◌≤◌, refl, arith, ap, sym, subst, ◌∙◌, inl, inr, length, List, [], ◌∷◌, Option, Some, None, Ok, true}
use Rattle.std.specs.Prelude.{◌==◌, ◌&&◌, if◌then◌else◌, nat_lt, replicate, slice_index}
use Rattle.std.proofs.Math.ListN.{get_or-append}
use Rattle.std.proofs.Math.Path.{fun_ext}
use Rattle.std.proofs.Math.Pow.{pow_mono}
use Rattle.std.proofs.Math.Nat.{div-mul-le_self, lt-div-mul-add, mul-div_cancel, mul-le-mul_right}
use Rattle.std.proofs.lemmas.Bool.{cases_lt, ne_eqb}
use Rattle.std.proofs.lemmas.Bool.Decides.{nat_tests}
use Rattle.std.proofs.lemmas.List.{ext_get_or, get_or-append_right, get_or-replicate, length-append, length-replicate}
use Rattle.std.proofs.lemmas.Nat.{pow_pos}
use Rattle.qcow2_types.specs.Bytes.{Bytes, bytes_of, splice, raw_entry}
use Rattle.qcow2_types.specs.Counts.{count}
use Rattle.qcow2_types.specs.Frames.{Outside}
use Rattle.qcow2_types.specs.Header.{Fields, Header, cluster_size, first_fault, header_of, layout_of, rules_of_size}
use Rattle.qcow2_types.specs.HeaderBytes.{first_bytes}
use Rattle.qcow2_types.specs.HeaderSwitch.{OnlyPlaces}
use Rattle.qcow2_types.specs.Pending.{FreeEntry}
use Rattle.qcow2_types.specs.References.{meets}
use Rattle.qcow2_types.specs.Switched.{with_l1_table}
use Rattle.qcow2_types.specs.TableBytes.{AreFit, table_bytes}
use Rattle.qcow2_types.proofs.Counting.Consistent.{consistent-shaped}
use Rattle.qcow2_types.proofs.Changes.Frames.{splice-is-outside}
use Rattle.qcow2_types.proofs.Switching.HeaderSwitch.{first-fields-fit, length-first_bytes, name-behind, switch-header}
use Rattle.qcow2_types.proofs.Changes.Over.{words-length, words-read}
use Rattle.qcow2_types.proofs.Numbers.Splices.{be-same}
use Rattle.qcow2_metadata.specs.Places.{place_of}
use Rattle.qcow2_metadata.specs.Tables.{TableValue, padded, table_start, raw_entries_in}
use Rattle.qcow2_metadata.proofs.TableFacts.{words_at, words_long}
use Rattle.qcow2_alloc.specs.FreeList.{covers}
use Rattle.qcow2_alloc.specs.MakingRoom.{run_of}
use Rattle.qcow2_alloc.specs.Opening.{IsL1Of}
use Rattle.qcow2_alloc.specs.GuestView.{Metadata, IsSound, counted, referenced_at_all, waiting}
use Rattle.qcow2_steps.specs.LongerL1.{IsReadyL1Table, NamesL1Table, new_l1, old_l1, with_longer_l1}
use Rattle.qcow2_steps.proofs.LongerL1.{counts-there, longer-advances, old-unnamed}
use Rattle.qcow2_clusters.specs.Lengthening.{clusters_for, l1_run, linking_l1}
use Rattle.qcow2_clusters.specs.Progress.{handing}
use Rattle.qcow2_clusters.specs.Flushed.{nothing_cached}
use Rattle.qcow2_clusters.specs.Storing.{AreReserved}
use Rattle.qcow2_clusters.proofs.ProgressSums.{AdvancesBy}
use Rattle.qcow2_clusters.proofs.TableNames.{l1-long, l1-sound, l1-word, resting-memory}

-- The clusters of a table with a cluster and entries, as an entry of the free list.
pub run-of-some : (bits first taken n : ℕ) (cluster : Option ℕ) → cluster ≡ Some first → 0 < n → taken ≡ (8 * n + (2 ^ bits - 1)) / 2 ^ bits
    → l1_run bits (place_of bits cluster) n ≡ run_of first taken ∷ []
run-of-some bits first taken n cluster is some long =
    ap (λ (c : Option ℕ). l1_run bits (place_of bits c) n) is
    ∙ chosen n (run_of (first * 2 ^ bits / 2 ^ bits) ((8 * n + (2 ^ bits - 1)) / 2 ^ bits) ∷ []) some
    ∙ ap (λ k. run_of k ((8 * n + (2 ^ bits - 1)) / 2 ^ bits) ∷ []) (mul-div_cancel first (pow_pos bits))
    ∙ ap (λ k. run_of first k ∷ []) (sym long)
  where
    chosen : (n : ℕ) (l : List FreeEntry) → 0 < n → (if n == 0 then [] else l) ≡ l
    chosen n l some = rw (ne_eqb n 0 (λ none. absurd (omega (arith, some, none)))) refl

-- 1 if the entries of a table that starts at cluster `first` meet cluster `d`, otherwise 0.
abbrev met : (s d first n : ℕ) → ℕ
met s d first n = if nat_lt 0 (n * 8) && nat_lt (first * s) ((d + 1) * s) && nat_lt (d * s) (first * s + n * 8) then 1 else 0

pub part-meets : (h : Fields) (d first n : ℕ) → meets h d (first * cluster_size h) (n * 8) ≡ covers d (run_of first (clusters_for h n))
part-meets h d first n =
    let s : ℕ = cluster_size h in
    let k : ℕ = clusters_for h n in
    let some : 0 < cluster_size h = pow_pos h.cluster_bits in
    let low : clusters_for h n * cluster_size h ≤ 8 * n + (cluster_size h - 1) = div-mul-le_self (8 * n + (cluster_size h - 1)) (cluster_size h) in
    let high : 8 * n + (cluster_size h - 1) < clusters_for h n * cluster_size h + cluster_size h = lt-div-mul-add some in
    go s d first n k some low high
  where
    go : (s d first n k : ℕ) → 0 < s → k * s ≤ 8 * n + (s - 1) → 8 * n + (s - 1) < k * s + s
        → met s d first n ≡ covers d (run_of first k)
    go s d first n k some low high = elim (cases_lt d first) [
      | inl before ↦
          let far : (d + 1) * s ≤ first * s = mul-le-mul_right s (omega (arith, before)) in
          grind (arith, nat_tests)
      | inr from ↦ elim (cases_lt d (first + k)) [
        | inl inside ↦
            let begin : first * s ≤ d * s = mul-le-mul_right s from in
            let next : (d + 1) * s ≤ (first + k) * s = mul-le-mul_right s (omega (arith, inside)) in
            let more : 1 * s ≤ k * s = mul-le-mul_right s (omega (arith, from, inside)) in
            let one : (d + 1) * s ≡ d * s + s = omega arith in
            let parts : (first + k) * s ≡ first * s + k * s = omega arith in
            let there : 0 < n * 8 = omega (arith, more, low, some) in
            let to : d * s < first * s + n * 8 = omega (arith, next, one, parts, low, some) in
            grind (arith, nat_tests)
        | inr behind ↦
            let far : (first + k) * s ≤ d * s = mul-le-mul_right s behind in
            let parts : (first + k) * s ≡ first * s + k * s = omega arith in
            let past : first * s + n * 8 ≤ d * s = omega (arith, far, parts, high, some) in
            grind (arith, nat_tests)
      ]
    ]

-- A flushed image. The new L1 table is stored in reserved clusters: the entries of the old one, followed by 0.
pub record IsStoredL1 (m : Metadata) (table old : TableValue) (n first : ℕ) : Type 0 where
  pub rest : m.cached ≡ nothing_cached
  pub of : IsL1Of m.file m.header.fields old
  pub layout : table.layout ≡ layout_of m.header.fields
  pub raw_entries : table.raw_entries ≡ padded old.raw_entries n
  pub longer : length old.raw_entries ≤ n
  pub place : table_start table ≡ first * cluster_size m.header.fields
  pub some : first ≢ 0
  pub fit : AreFit table.raw_entries
  pub stored : (k : ℕ) → k < length (table_bytes table.raw_entries)
      → m.file (first * cluster_size m.header.fields + k) ≡ slice_index (table_bytes table.raw_entries) k
  pub reserved : AreReserved (clusters_for m.header.fields (length table.raw_entries)) m first
  pub bytes : (p : ℕ) → m.file p < 256
  pub sizes : first_fault (rules_of_size (linking_l1 m.header table).fields) ≡ None

module _ (m : Metadata) (table old : TableValue) (n first : ℕ) (sound : IsSound m) (is : IsStoredL1 m table old n first) where
  abbrev h : Fields
  h = m.header.fields

  abbrev more : ℕ
  more = n - m.header.fields.l1_entries

  abbrev H' : Header
  H' = linking_l1 m.header table

  abbrev x : Bytes
  x = splice m.file 0 (first_bytes (linking_l1 m.header table).fields)

  old-long : length old.raw_entries ≡ h.l1_entries
  old-long = l1-long m.file h old is.of

  pub table-long : length table.raw_entries ≡ n
  table-long = ap length is.raw_entries ∙ length-append old.raw_entries (replicate (n - length old.raw_entries) 0)
      ∙ (let zeroes = length-replicate {A = ℕ} (n - length old.raw_entries) 0 in let longer = is.longer in omega (arith, zeroes, longer))

  all-words : h.l1_entries + more ≡ length table.raw_entries
  all-words = let longer = is.longer in omega (arith, old-long, table-long, longer)

  -- A raw entry of the file is the stored one.
  word-there : (i : ℕ) → i < length table.raw_entries → raw_entry m.file (first * cluster_size h) i ≡ slice_index table.raw_entries i
  unfolding raw_entry
  word-there i lt =
      be-same m.file (bytes_of (table_bytes table.raw_entries)) (first * cluster_size h + 8 * i) (8 * i) 8
      (λ k less.
      let at : first * cluster_size h + (8 * i + k) ≡ first * cluster_size h + 8 * i + k = omega arith in
      ap m.file (sym at) ∙ is.stored (8 * i + k) (let size = words-length table.raw_entries in omega (arith, size, lt, less)))
      ∙ words-read table.raw_entries i is.fit lt

  word-old : (i : ℕ) → i < h.l1_entries → slice_index table.raw_entries i ≡ raw_entry m.file h.l1_offset i
  word-old i lt =
      ap (λ (ws : List ℕ). slice_index ws i) is.raw_entries
      ∙ get_or-append old.raw_entries (replicate (n - length old.raw_entries) 0) 0 i (omega (arith, lt, old-long))
      ∙ l1-word m.file h old is.of i lt

  word-new : (i : ℕ) → h.l1_entries ≤ i → i < h.l1_entries + more → slice_index table.raw_entries i ≡ 0
  word-new i from to =
      ap (λ (ws : List ℕ). slice_index ws i) is.raw_entries
      ∙ get_or-append_right old.raw_entries (replicate (n - length old.raw_entries) 0) h.l1_entries i 0 old-long from
      ∙ get_or-replicate (n - length old.raw_entries) (i - h.l1_entries) 0 0 (omega (arith, from, to, old-long))

  new-is : (d : ℕ) → new_l1 m (table_start table) more d ≡ covers d (run_of first (clusters_for h (length table.raw_entries)))
  new-is d =
      ap (λ p. meets h d p ((h.l1_entries + more) * 8)) is.place
      ∙ ap (λ k. meets h d (first * cluster_size h) (k * 8)) all-words
      ∙ part-meets h d first (length table.raw_entries)

  in-run : (d first n : ℕ) → 0 < covers d (run_of first n) → (first ≤ d) × (d < first + n)
  in-run d first n some = elim (cases_lt d first) [
    | inl before ↦ absurd (let none : covers d (run_of first n) ≡ 0 = grind (arith, nat_tests) in omega (arith, some, none))
    | inr from ↦ elim (cases_lt d (first + n)) [
      | inl to ↦ (from, to)
      | inr behind ↦ absurd (let none : covers d (run_of first n) ≡ 0 = grind (arith, nat_tests) in omega (arith, some, none))
    ]
  ]

  -- The stored table is ready to become the L1 table.
  ready : IsReadyL1Table m (table_start table) more
  ready = record {
    raw_entries = λ i lt. ap (λ p. raw_entry m.file p i) is.place ∙ word-there i (omega (arith, lt, all-words)) ∙ word-old i lt;
    zeroes = λ i from to. ap (λ p. raw_entry m.file p i) is.place ∙ word-there i (omega (arith, to, all-words)) ∙ word-new i from to;
    reserved = λ d met.
        let within = in-run d first (clusters_for h (length table.raw_entries)) (let same = new-is d in omega (arith, met, same)) in
        let reserved = is.reserved d within.0 within.1 in
        let less = subst (λ (g : Bytes). waiting m d < count g h d) (resting-memory m is.rest) reserved.used.taken in
        (reserved, omega (arith, less));
  }

  header-is : H' ≡ with_l1_table m.header (table_start table) (h.l1_entries + more)
  header-is = ap (λ k. with_l1_table m.header (table_start table) k) (sym all-words)

  loads : header_of true x ≡ Ok H'
  loads =
      let was = sound.well_formed.consistent.readable.loads in
      let only : OnlyPlaces m.header H' = record { same = refl } in
      switch-header true m.file m.header H' was only (first-fields-fit true m.file m.header H' is.bytes was only is.sizes) is.sizes (name-behind m.file m.header was)

  outside : Outside m.file x 0 64
  outside = subst (λ k. Outside m.file x 0 k) (length-first_bytes H'.fields) (splice-is-outside m.file 0 (first_bytes H'.fields))

  names : NamesL1Table m (table_start table) more x
  names = record { loads = subst (λ (K : Header). header_of true x ≡ Ok K) header-is loads; outside = outside }

  abbrev pub later : Metadata
  later = record m { file = splice m.file 0 (first_bytes (linking_l1 m.header table).fields); header = linking_l1 m.header table }

  later-is : with_longer_l1 m (table_start table) more x ≡ later
  later-is = ap (λ (K : Header). record m { file = x; header = K }) (sym header-is)

  -- If the header references it, the image advances.
  pub stored-advances : AdvancesBy (handing (old_l1 m) (λ d. covers d (run_of first (clusters_for m.header.fields (length table.raw_entries))))) m later
  stored-advances =
      subst (λ (taken : ℕ → ℕ). AdvancesBy (handing (old_l1 m) taken) m later) (fun_ext new-is)
      (subst (λ (k : Metadata). AdvancesBy (handing (old_l1 m) (new_l1 m (table_start table) more)) m k) later-is
      (longer-advances m (table_start table) more x sound ready names))

  pub stored-unnamed : (d : ℕ) → old_l1 m d ≡ 1 → referenced_at_all later d ≡ 0
  stored-unnamed d own = subst (λ (k : Metadata). referenced_at_all k d ≡ 0) later-is (old-unnamed m (table_start table) more x sound ready names d own)

  -- The refcounts are the same.
  pub stored-counts : (d : ℕ) → counted later d ≡ counted m d
  stored-counts d = subst (λ (k : Metadata). counted k d ≡ counted m d) later-is (counts-there m (table_start table) more x sound ready names d)

  far : 64 ≤ first * cluster_size h
  far =
      let shaped = consistent-shaped m.file m.header sound.well_formed.consistent in
      let low : 2 ^ 9 ≤ cluster_size h = pow_mono shaped.low in
      let more : 1 * cluster_size h ≤ first * cluster_size h = mul-le-mul_right (cluster_size h) (let some = is.some in omega (arith, some)) in
      omega (arith, low, more)

  word-still : (i : ℕ) → raw_entry x (first * cluster_size h) i ≡ raw_entry m.file (first * cluster_size h) i
  unfolding raw_entry
  word-still i = be-same x m.file (first * cluster_size h + 8 * i) (first * cluster_size h + 8 * i) 8
      (λ k less. outside (first * cluster_size h + 8 * i + k) (inr (omega (arith, far))))

  -- The table in memory is the file's.
  pub stored-entered : IsL1Of later.file later.header.fields table
  stored-entered = record {
    layout = is.layout;
    raw_entries = ext_get_or 0 table.raw_entries (raw_entries_in x (table_start table) (length table.raw_entries)) (sym (words_long x (table_start table) (length table.raw_entries)))
        (λ i lt. sym (word-there i lt) ∙ sym (word-still i) ∙ ap (λ p. raw_entry x p i) (sym is.place)
        ∙ sym (words_at x (table_start table) (length table.raw_entries) i lt));
    sound = l1-sound x H'.fields stored-advances.sound.well_formed.consistent.readable.tables;
  }

-- Adding the clusters at a list of offsets, one offset after another.
use Rattle.std.proofs.Common.{◌≡◌, ◌≢◌, ℕ, ◌+◌, ◌*◌, ◌<◌, refl, arith, ap, ◌∙◌, List, length, take, subst}
use Rattle.std.specs.Prelude.{slice_index}
use Rattle.std.specs.List.{sum_by}
use Rattle.std.proofs.lemmas.List.{take_more, take_all}
use Rattle.std.proofs.lemmas.List.Sums.{sum_by_push}
use Rattle.std.proofs.lemmas.Bool.{ne_eqb}
use Rattle.qcow2_types.specs.Header.{Fields, cluster_size}
use Rattle.qcow2_types.specs.References.{meets, of_cluster}
use Rattle.qimg_core.specs.declared.check.names.Tallies.{Tallies}
use Rattle.qimg_core.specs.declared.check.names.Times.{Times}
use Rattle.qimg_core.specs.Entering.{AddsRange, AddsPlaces, AddsStart, AddsStructure}
use Rattle.qimg_core.specs.CheckParts.{sum_over, structure_over}

-- One reference by the structure.
abbrev once : Times
once = record { structure = 1; mapped = 0; copied = 0 }

pub places-step : (of : ℕ → ℕ) (places : List ℕ) (i : ℕ) → i < length places → sum_over of (take (i + 1) places) ≡ sum_over of (take i places) + of (slice_index places i)
places-step of places i lt = ap (sum_by of) (take_more places i 0 lt) ∙ sum_by_push of (take i places) (slice_index places i)

-- The next offset is 0, so nothing is added.
pub adds-no-place : (h : Fields) (old now : Tallies) (places : List ℕ) (i : ℕ) → i < length places → slice_index places i ≡ 0 → AddsPlaces h old now (take i places) → AddsPlaces h old now (take (i + 1) places)
adds-no-place h old now places i lt none adds = record {
  structure = λ c. nothing c _ _ (adds.structure c) (places-step (of_cluster h (meets h c)) places i lt);
  mapped = adds.mapped;
  copied = adds.copied;
  cells = adds.cells;
  spares = adds.spares;
}
  where
    nothing : (c a b : ℕ) → a ≡ b + sum_over (of_cluster h (meets h c)) (take i places) → sum_over (of_cluster h (meets h c)) (take (i + 1) places) ≡ sum_over (of_cluster h (meets h c)) (take i places) + of_cluster h (meets h c) (slice_index places i)
        → a ≡ b + sum_over (of_cluster h (meets h c)) (take (i + 1) places)
    nothing c a b p q = let zero : of_cluster h (meets h c) (slice_index places i) ≡ 0 = ap (of_cluster h (meets h c)) none in omega arith

pub adds-place : (h : Fields) (old now new : Tallies) (places : List ℕ) (i place : ℕ) → i < length places → slice_index places i ≡ place → place ≢ 0 → AddsPlaces h old now (take i places)
    → AddsRange h now new place (cluster_size h) once → AddsPlaces h old new (take (i + 1) places)
adds-place h old now new places i place lt is some before here = record {
  structure = λ c. more c _ _ _ (here.structure c) (before.structure c);
  mapped = λ c. as-before _ _ _ _ (here.mapped c) (before.mapped c);
  copied = λ c. as-before _ _ _ _ (here.copied c) (before.copied c);
  cells = here.cells ∙ before.cells;
  spares = λ spared. here.spares (before.spares spared);
}
  where
    own : (c : ℕ) → of_cluster h (meets h c) (slice_index places i) ≡ meets h c place (cluster_size h)
    own c = ap (of_cluster h (meets h c)) is ∙ rw (ne_eqb place 0 some) refl

    step : (b d e x s s' : ℕ) → b ≡ d + 1 * x → d ≡ e + s → s' ≡ s + x → b ≡ e + s'
    step b d e x s s' q r t = omega arith

    more : (c b d e : ℕ) → b ≡ d + 1 * meets h c place (cluster_size h) → d ≡ e + sum_over (of_cluster h (meets h c)) (take i places) → b ≡ e + sum_over (of_cluster h (meets h c)) (take (i + 1) places)
    more c b d e q r = step b d e (meets h c place (cluster_size h)) _ _ q r (places-step (of_cluster h (meets h c)) places i lt ∙ ap (λ n. sum_over (of_cluster h (meets h c)) (take i places) + n) (own c))

    as-before : (b d e x : ℕ) → b ≡ d + 0 * x → d ≡ e + 0 → b ≡ e + 0
    as-before b d e x q r = omega arith

pub adds-no-places : (h : Fields) (xs : Tallies) (places : List ℕ) → AddsPlaces h xs xs (take 0 places)
adds-no-places h xs places = record { structure = λ c. omega arith; mapped = λ c. omega arith; copied = λ c. omega arith; cells = refl; spares = λ spared. spared }

pub adds-all-places : (h : Fields) (old new : Tallies) (places : List ℕ) (i : ℕ) → i ≡ length places → AddsPlaces h old new (take i places) → AddsPlaces h old new places
adds-all-places h old new places i all adds = subst (AddsPlaces h old new) (take_all i places (omega arith)) adds

pub adds_start : (h : Fields) (old one two new : Tallies) (size l1 l1_size table table_size : ℕ) → size ≡ cluster_size h → l1 ≡ h.l1_offset → l1_size ≡ h.l1_entries * 8 → table ≡ h.refcount_table_offset → table_size ≡ h.refcount_table_clusters * cluster_size h
    → AddsRange h old one 0 size once → AddsRange h one two l1 l1_size once → AddsRange h two new table table_size once → AddsStart h old new
adds_start h old one two new size l1 l1_size table table_size is is-2 is-3 is-4 is-5 a b d = record {
  structure = λ c. all _ _ _ _ (ap (meets h c 0) is) (ap (λ p. meets h c p l1_size) is-2 ∙ ap (meets h c h.l1_offset) is-3) (ap (λ p. meets h c p table_size) is-4 ∙ ap (meets h c h.refcount_table_offset) is-5) (a.structure c) (b.structure c) (d.structure c);
  mapped = λ c. none _ _ _ _ _ _ _ (a.mapped c) (b.mapped c) (d.mapped c);
  copied = λ c. none _ _ _ _ _ _ _ (a.copied c) (b.copied c) (d.copied c);
  cells = d.cells ∙ (b.cells ∙ a.cells);
  spares = λ spared. d.spares (b.spares (a.spares spared));
}
  where
    all : (k l m n : ℕ) {x y z x' y' z' : ℕ} → x ≡ x' → y ≡ y' → z ≡ z' → l ≡ k + 1 * x → m ≡ l + 1 * y → n ≡ m + 1 * z → n ≡ k + (x' + y' + z')
    all k l m n e f g p q r = omega (arith, e, f, g, p, q, r)

    none : (k l m n x y z : ℕ) → l ≡ k + 0 * x → m ≡ l + 0 * y → n ≡ m + 0 * z → n ≡ k + 0
    none k l m n x y z p q r = omega (arith, p, q, r)

pub adds_structure : (h : Fields) (old start with_blocks new : Tallies) (tables blocks : List ℕ)
    → AddsStart h old start
    → AddsPlaces h start with_blocks blocks
    → AddsPlaces h with_blocks new tables
    → AddsStructure h old new tables blocks
unfolding structure_over
adds_structure h old start with_blocks new tables blocks a b d = record {
  structure = λ c. chain _ _ _ _ _ _ _ (a.structure c) (b.structure c) (d.structure c);
  mapped = λ c. chain _ _ _ _ 0 0 0 (a.mapped c) (b.mapped c) (d.mapped c);
  copied = λ c. chain _ _ _ _ 0 0 0 (a.copied c) (b.copied c) (d.copied c);
  cells = d.cells ∙ (b.cells ∙ a.cells);
  spares = λ spared. d.spares (b.spares (a.spares spared));
}
  where
    chain : (k l m n x y z : ℕ) → l ≡ k + x → m ≡ l + y → n ≡ m + z → n ≡ k + (x + y + z)
    chain k l m n x y z p q r = omega arith

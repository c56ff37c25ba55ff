use Rattle.std.proofs.Common.{◌≡◌, ◌≤◌, ◌*◌, ◌%◌, ◌^◌, ◌∙◌, ap, subst, sym, length, None, ℕ}
use Rattle.qcow2_types.specs.Header.{Fields, Header as HeaderRecord, first_fault, rules_of_size, entries_of_cluster}
use Rattle.qcow2_metadata.specs.FieldsView.{seen_fields}
use Rattle.qcow2_metadata.specs.Places.{IsPlaced, place_of}
use Rattle.qcow2_metadata.proofs.Placing.{clusters_of, named_reftable, whole_entries}
use Rattle.qcow2_metadata.proofs.header.Header.set_reftable.Goals as goal

pub returns-clause-whole : goal.returns-clause-whole
returns-clause-whole c = λ whole.
    let g : Fields = seen_fields c.self.inside.v2 c.self.inside.v3 in
    let t = c.args.reftable.now in
    let fields : g ≡ c.args.self.now.fields = ap (λ (r : HeaderRecord). r.fields) c.self.view_is in
    let bits : t.layout.cluster_bits ≡ g.cluster_bits = c.requires.bits ∙ sym (ap (λ (h : Fields). h.cluster_bits) fields) in
    let low : 9 ≤ g.cluster_bits = subst (λ (b : ℕ). 9 ≤ b) bits c.clusters_taken-self-inside.ensures.table.low in
    let fill : 8 * length t.raw_entries % 2 ^ g.cluster_bits ≡ 0 = subst (λ (h : Fields). 8 * length t.raw_entries % 2 ^ h.cluster_bits ≡ 0) (sym fields) whole in
    let count : c.clusters_taken-self-inside.result ≡ clusters_of g.cluster_bits (length t.raw_entries) = c.clusters_taken-self-inside.ensures.value ∙ ap (λ (b : ℕ). clusters_of b (length t.raw_entries)) bits in
    ap (λ (n : ℕ). n * entries_of_cluster g) count ∙ whole_entries g (length t.raw_entries) low fill

pub returns-clause-sizes : goal.returns-clause-sizes
returns-clause-sizes c = λ kept.
    let g : Fields = seen_fields c.self.inside.v2 c.self.inside.v3 in
    let t = c.args.reftable.now in
    let fields : g ≡ c.args.self.now.fields = ap (λ (r : HeaderRecord). r.fields) c.self.view_is in
    let bits : t.layout.cluster_bits ≡ g.cluster_bits = c.requires.bits ∙ sym (ap (λ (h : Fields). h.cluster_bits) fields) in
    let placed : IsPlaced g.cluster_bits t.cluster = subst (λ (b : ℕ). IsPlaced b t.cluster) bits c.requires.placed in
    let low : 9 ≤ g.cluster_bits = subst (λ (b : ℕ). 9 ≤ b) bits c.clusters_taken-self-inside.ensures.table.low in
    let high : g.cluster_bits ≤ 21 = subst (λ (b : ℕ). b ≤ 21) bits c.clusters_taken-self-inside.ensures.table.high in
    let place : c.first_byte-self-inside.result ≡ place_of g.cluster_bits t.cluster = c.first_byte-self-inside.ensures.place ∙ ap (λ (b : ℕ). place_of b t.cluster) bits in
    let count : c.clusters_taken-self-inside.result ≡ clusters_of g.cluster_bits (length t.raw_entries) = c.clusters_taken-self-inside.ensures.value ∙ ap (λ (b : ℕ). clusters_of b (length t.raw_entries)) bits in
    let was : first_fault (rules_of_size g) ≡ None = subst (λ (h : Fields). first_fault (rules_of_size h) ≡ None) (sym fields) kept in
    let named : first_fault (rules_of_size (record g { refcount_table_offset = place_of g.cluster_bits t.cluster; refcount_table_clusters = clusters_of g.cluster_bits (length t.raw_entries) })) ≡ None = named_reftable g t.cluster was low placed (length t.raw_entries) c.clusters_taken-self-inside.ensures.table.long high in
    subst (λ (o : ℕ). first_fault (rules_of_size (record g { refcount_table_offset = o; refcount_table_clusters = c.clusters_taken-self-inside.result })) ≡ None) (sym place)
    (subst (λ (n : ℕ). first_fault (rules_of_size (record g { refcount_table_offset = place_of g.cluster_bits t.cluster; refcount_table_clusters = n })) ≡ None) (sym count) named)

use Rattle.std.proofs.Common.{◌≡◌, ◌≤◌, ◌∙◌, ap, subst, sym, None, ℕ}
use Rattle.qcow2_types.specs.Header.{Fields, Header as HeaderRecord, first_fault, rules_of_size}
use Rattle.qcow2_metadata.specs.FieldsView.{seen_fields}
use Rattle.qcow2_metadata.specs.Places.{IsPlaced, place_of}
use Rattle.qcow2_metadata.proofs.Placing.{named_l1}
use Rattle.qcow2_metadata.proofs.header.Header.set_l1_table.Goals as goal

pub returns-clause-sizes : goal.returns-clause-sizes
returns-clause-sizes c = λ kept.
    let g : Fields = seen_fields c.self.inside.v2 c.self.inside.v3 in
    let t = c.args.l1_table.now in
    let fields : g ≡ c.args.self.now.fields = ap (λ (r : HeaderRecord). r.fields) c.self.view_is in
    let bits : t.layout.cluster_bits ≡ g.cluster_bits = c.requires.bits ∙ sym (ap (λ (h : Fields). h.cluster_bits) fields) in
    let placed : IsPlaced g.cluster_bits t.cluster = subst (λ (b : ℕ). IsPlaced b t.cluster) bits c.requires.placed in
    let low : 9 ≤ g.cluster_bits = subst (λ (b : ℕ). 9 ≤ b) bits c.entries.ensures.table.low in
    let few : c.entries.result ≤ 4194304 = rw c.entries.ensures.value c.entries.ensures.table.long in
    let place : c.first_byte-self-inside.result ≡ place_of g.cluster_bits t.cluster = c.first_byte-self-inside.ensures.place ∙ ap (λ (b : ℕ). place_of b t.cluster) bits in
    let was : first_fault (rules_of_size g) ≡ None = subst (λ (h : Fields). first_fault (rules_of_size h) ≡ None) (sym fields) kept in
    subst (λ (o : ℕ). first_fault (rules_of_size (record g { l1_entries = c.entries.result; l1_offset = o })) ≡ None) (sym place) (named_l1 g t.cluster was low placed c.entries.result few)

use Rattle.std.proofs.Common.{◌≡◌, ◌+◌, ◌-◌, ◌*◌, ◌%◌, ◌^◌, ◌<◌, ℕ, arith, ap, sym, subst, ◌∙◌, true, false}
use Rattle.std.proofs.lemmas.Nat.{pow_pos}
use Rattle.qcow2_types.specs.Entries.{l2_entries}
use Rattle.qcow2_types.specs.Words.{Mapping}
use Rattle.qcow2_metadata.specs.Tables.{mapping_in}
use Rattle.qcow2_metadata.specs.MappingView.{BacksAt, follows, mapping_seen}
use Rattle.qcow2_image.specs.Looking.{Follows}
use Rattle.qcow2_image.proofs.Runs.{goes-on, stops-there, within-word, number-word, run-more}
use Rattle.qcow2_image.proofs.lookup.mapped_run.Goals as goal

pub overflow_add-guest-inside : goal.overflow_add-guest-inside
overflow_add-guest-inside c =
    let bits = c.args.table.now.layout.cluster_bits in
    let at = c.guest.view_is in
    let fits = number-word (c.args.guest + c.loop-next.next) (2 ^ bits) (pow_pos bits) (within-word c.args.guest c.loop-next.next c.args.most (2 ^ bits) c.loop-next-test.true c.requires.fits) in
    omega (arith, at, fits)

pub get_mapping-mapping-requires : goal.get_mapping-mapping-requires
get_mapping-mapping-requires c =
    let bits = c.args.table.now.layout.cluster_bits in
    subst (λ (x : ℕ). (x + c.loop-next.next) * 2 ^ bits < 2 ^ 64) (sym c.guest.view_is) (within-word c.args.guest c.loop-next.next c.args.most (2 ^ bits) c.loop-next-test.true c.requires.fits)

pub returns-then-not-is_consecutive-clause-run : goal.returns-then-not-is_consecutive-clause-run
returns-then-not-is_consecutive-clause-run c =
    let t = c.args.table.now in
    let bits = t.layout.cluster_bits in
    let mapped : ℕ → Mapping = λ g. mapping_in t (g % l2_entries bits) in
    let inv = c.loop-next.invariant in
    let here : mapping_seen c.get_mapping-mapping.result ≡ mapped (c.args.guest + c.loop-next.next) = c.get_mapping-mapping.ensures.means ∙ ap (λ x. mapped (x + c.loop-next.next)) c.guest.view_is in
    let stop : follows bits c.loop-next.last c.get_mapping-mapping.result ≡ false = ap (λ x. follows x c.loop-next.last c.get_mapping-mapping.result) (sym c.cluster_bits-cluster_bits.ensures.value) ∙ sym c.is_consecutive.ensures ∙ c.if-not-is_consecutive.true in
    let next : c.args.guest + c.loop-next.next ≡ c.args.guest + c.loop-next.next - 1 + 1 = omega (arith, inv.0) in
    let place : (c.guest.inside.0 + c.loop-next.next) * 2 ^ bits ≡ (c.args.guest + c.loop-next.next - 1) * 2 ^ bits + 2 ^ bits =
    ap (λ x. (x + c.loop-next.next) * 2 ^ bits) c.guest.view_is ∙ ap (λ x. x * 2 ^ bits) next ∙ omega arith in
    let backs = subst (λ x. BacksAt x c.get_mapping-mapping.result) place c.get_mapping-mapping.ensures.backs in
    record {
      first = inv.2;
      nonempty = inv.0;
      length_bounded = inv.1;
      each = inv.4;
      ends = λ lt on. stops-there bits ((c.args.guest + c.loop-next.next - 1) * 2 ^ bits) c.loop-next.last c.get_mapping-mapping.result inv.6 backs stop
          (subst (λ m. Follows m (mapping_seen c.get_mapping-mapping.result)) (sym inv.5) (subst (λ m. Follows (mapped (c.args.guest + c.loop-next.next - 1)) m) (sym here) on));
    }

pub loop-next-preserved : goal.loop-next-preserved
loop-next-preserved c =
    let t = c.args.table.now in
    let bits = t.layout.cluster_bits in
    let next = c.loop-next.next in
    let mapped : ℕ → Mapping = λ g. mapping_in t (g % l2_entries bits) in
    let inv = c.loop-next.invariant in
    let here : mapping_seen c.get_mapping-mapping.result ≡ mapped (c.args.guest + next) = c.get_mapping-mapping.ensures.means ∙ ap (λ x. mapped (x + next)) c.guest.view_is in
    let on : follows bits c.loop-next.last c.get_mapping-mapping.result ≡ true = ap (λ x. follows x c.loop-next.last c.get_mapping-mapping.result) (sym c.cluster_bits-cluster_bits.ensures.value) ∙ sym c.is_consecutive.ensures ∙ c.if-not-is_consecutive.false in
    let behind : c.args.guest + next ≡ c.args.guest + (next + 1) - 1 = omega arith in
    let last : Follows (mapped (c.args.guest + next - 1)) (mapped (c.args.guest + next)) = subst (λ m. Follows (mapped (c.args.guest + next - 1)) m) here (subst (λ m. Follows m (mapping_seen c.get_mapping-mapping.result)) inv.5 (goes-on bits c.loop-next.last c.get_mapping-mapping.result on)) in
    let lt = c.loop-next-test.true in
    (omega arith, omega (arith, lt), inv.2, inv.3, run-more c.args.guest next mapped inv.0 inv.4 last, here ∙ ap mapped behind, subst (λ x. BacksAt x c.get_mapping-mapping.result) (ap (λ x. (x + next) * 2 ^ bits) c.guest.view_is ∙ ap (λ x. x * 2 ^ bits) behind) c.get_mapping-mapping.ensures.backs)

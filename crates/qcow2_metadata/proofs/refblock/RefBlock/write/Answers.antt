use Rattle.std.proofs.Common.{◌≡◌, ◌%◌, ◌^◌, ◌∙◌, ap, sym, subst}
use Rattle.qcow2_metadata.specs.Blocks.{Block}
use Rattle.qcow2_types.specs.TableBytes.{Packs}
use Rattle.qcow2_metadata.specs.Places.{IsPlaced, place_of}
use Rattle.qcow2_metadata.proofs.Packed.{block-packs}
use Rattle.qcow2_metadata.proofs.PlaceLemmas.{place-whole}
use Rattle.qcow2_metadata.proofs.refblock.RefBlock.write.Goals as goal

pub write_cluster-result-requires-clause-whole : goal.write_cluster-result-requires-clause-whole
write_cluster-result-requires-clause-whole g c =
    let s = c.self.inside in
    let placed : IsPlaced s.cluster_bits s.cluster = subst (λ (v : Block). IsPlaced v.cluster_bits v.cluster) (sym c.self.view_is) c.requires in
    ap (λ p. p % 2 ^ s.cluster_bits) c.first_byte_of-place.ensures ∙ place-whole s.cluster_bits s.cluster placed

pub returns-clause-request : goal.returns-clause-request
returns-clause-request g c =
    let s = c.self.inside in
    let place : c.first_byte_of-place.result ≡ place_of c.args.self.now.cluster_bits c.args.self.now.cluster = c.first_byte_of-place.ensures ∙ ap (λ (v : Block). place_of v.cluster_bits v.cluster) c.self.view_is in
    let bytes : c.deref.result.now ≡ s.bytes.items = c.deref.ensures.value in
    let put = c.write_cluster-result.ensures.put in
    record {
      bytes = s.bytes.items;
      packs = subst (λ (v : Block). Packs v.order v.counters s.bytes.items) c.self.view_is
          (block-packs s.refcount_order s.cluster_bits s.bytes.items c.self.invariant.order c.self.invariant.low c.self.invariant.whole (rw bytes at c.write_cluster-result.ensures.fit));
      put = rw (← place, ← bytes) put;
    }

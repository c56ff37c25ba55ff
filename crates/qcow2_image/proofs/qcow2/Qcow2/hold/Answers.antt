use Rattle.std.proofs.Common.{◌≡◌, ℕ, ◌+◌, ◌*◌, ◌/◌, ◌%◌, ◌^◌, ap, refl, arith, ◌∙◌, Some}
use Rattle.std.proofs.Math.Nat.{div-add-mod}
use Rattle.std.proofs.lemmas.Nat.{mod_below}
use Rattle.qcow2_types.specs.Bytes.{bytes_of}
use Rattle.qcow2_types.specs.Header.{cluster_size}
use Rattle.qcow2_image.specs.Holding.{place_in}
use Rattle.qcow2_image.specs.Unspent.{covers}
use Rattle.qcow2_image.proofs.qcow2.Qcow2.hold.Goals as goal

-- The ID changes even if it wraps around.
another : (n : ℕ) → (n + 1) % 18446744073709551616 ≡ n → ⊥
another n same = Prim.omega (arith, same, mod_below (n + 1) 18446744073709551616, div-add-mod (n + 1) 18446744073709551616)

pub returns : goal.returns
returns g c =
    let bits = c.cluster_bits-cluster_bits.ensures.value in
    let guest : c.cluster.result ≡ c.args.offset / cluster_size c.args.self.now.tables.file.header.fields = c.cluster.ensures ∙ ap (λ (b : ℕ). c.args.offset / 2 ^ b) bits in
    let view : c.place.inside.0 ≡ c.relative_offset.result = cc (c.place.view_is) in
    let place : c.place.inside.0 ≡ place_in c.args.self.now.tables.file.header.fields c.args.clusters.host c.args.offset = view ∙ c.relative_offset.ensures ∙ ap (λ (b : ℕ). c.args.clusters.host * 2 ^ b + c.args.offset % 2 ^ b) bits in
    record {
      unspent = record {
        mapping_id = (c.args.self.now.claims + 1) % 18446744073709551616;
        offset = c.args.offset;
        length = c.args.length;
        place = c.place.inside.0;
        guest = c.cluster.result;
        table = c.args.clusters.table;
        host = c.args.clusters.host;
        count = c.args.clusters.count;
        is_kept = c.args.clusters.is_kept;
        overwrite = c.args.overwrite;
        copied = c.of.result;
        written = c.none.result;
        end_bounded = _;
      };
      now = refl;
      anew = λ same. another c.args.self.now.claims same;
      holds = λ i. record {
        mapping_id = (c.args.self.now.claims + 1) % 18446744073709551616;
        offset = c.args.offset;
        length = c.args.length;
        place = place i;
        guest = guest i;
        table = c.args.clusters.table;
        host = c.args.clusters.host;
        count = c.args.clusters.count;
        is_kept = c.args.clusters.is_kept;
        overwrite = c.args.overwrite;
        copied = bytes_of (g.S.Storage.state (c.of.ensures i)).bytes;
        written = covers c.none.result;
      };
      unwritten = c.none.ensures;
      answer = c.to_commit.ensures ∙ ap (λ (p : ℕ). record { storage = 0; offset = p; length = c.args.length; state = Some (record { number = c.args.self.now.number; mapping_id = (c.args.self.now.claims + 1) % 18446744073709551616 }) }) place;
    }

use Rattle.std.proofs.Common.{◌≡◌, ◌∙◌, ap, map, [], length, arith}
use Rattle.std.proofs.lemmas.List.{nil_from_length}
use Rattle.std.specs.Prelude.{flat_map}
use Rattle.qimg_chain.specs.Arguments.{layer_of, layer_words}
use Rattle.qimg_chain.proofs.ArgumentLemmas.{layer-more, layers-end, no-layer, none-left}
use Rattle.qimg_chain.proofs.arguments.parse_layers.Goals as goal

pub layers-preserved : goal.layers-preserved
layers-preserved c =
    let count : c.len.result ≡ length c.in_ok-layer.layer.extras.items = omega (arith, c.len.ensures, c.in_ok-layer.layer.extras.ok) in
    record {
      inside = omega (arith, c.in_ok-layer.ensures.within_words);
      taken = layer-more _ c.args.words.now c.layers.at c.len.result c.layers.layers.items c.push.new.self.items c.in_ok-layer.layer _ c.layers.invariant.taken c.in_ok-layer.ensures.ok count c.in_ok-push.ensures.items;
    }

pub returns-then-is_empty-clause-err : goal.returns-then-is_empty-clause-err
returns-then-is_empty-clause-err c =
    let empty : length c.layers.layers.items ≡ 0 = grind (arith, c.if-is_empty.true, c.is_empty.ensures, c.layers.layers.ok) in
    let none : c.layers.layers.items ≡ [] = nil_from_length _ empty in
    no-layer _ (layers-end _ _ _ c.layers.invariant.taken (none-left _ c.args.words.now c.layers.at c.layers-test.false) ∙ ap (λ layers. flat_map layer_words (map layer_of layers)) none)

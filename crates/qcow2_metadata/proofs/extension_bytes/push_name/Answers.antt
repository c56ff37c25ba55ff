use Rattle.std.proofs.Common.{◌++◌, ◌∙◌, ap, List, ℕ, [], ◌∷◌, length, take}
use Rattle.std.specs.Prelude.{min}
use Rattle.std.specs.String.{string_bytes}
use Rattle.std.proofs.lemmas.Result.{IfOk-equal}
use Rattle.qcow2_metadata.proofs.Extending.{name-pushed}
use Rattle.qcow2_metadata.proofs.extension_bytes.push_name.Goals as goal

pub returns : goal.returns
returns c =
    let text = c.as_bytes-text.ensures.value in
    IfOk-equal c.push_zeroes.result _ _ _ c.push_zeroes.ensures
    (name-pushed c.args.bytes.now.items _ _ _ (string_bytes c.args.name.now.name) _ c.args.name.now.bit c.min-length.result
    (c.in_ok-push.ensures.items ∙ ap (λ (k : ℕ). c.args.bytes.now.items ++ k ∷ []) c.to_kind.ensures)
    c.in_ok-push-2.ensures.items
    (c.in_ok-extend_from_slice.ensures.items ∙ ap (λ (xs : List ℕ). c.push-2.new.self.items ++ take c.min-length.result xs) text)
    (c.min-length.ensures ∙ ap (λ (xs : List ℕ). min (length xs) 46) text))

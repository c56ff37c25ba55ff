use Rattle.std.proofs.Common.{◌++◌, ◌∙◌, ap, List, ℕ}
use Rattle.std.proofs.lemmas.Result.{IfOk-equal}
use Rattle.qcow2_metadata.proofs.Extending.{extension-pushed, low-bytes}
use Rattle.qcow2_metadata.proofs.extension_bytes.push_extension.Goals as goal

pub returns : goal.returns
returns c =
    IfOk-equal c.push_zeroes.result _ _ _ c.push_zeroes.ensures
    (extension-pushed c.args.bytes.now.items _ _ _ c.args.data.now c.args.kind
    (c.in_ok-extend_from_slice.ensures.items ∙ ap (λ (xs : List ℕ). c.args.bytes.now.items ++ xs) c.to_be_bytes.ensures)
    (c.in_ok-extend_from_slice-2.ensures.items ∙ ap (λ (xs : List ℕ). c.extend_from_slice.new.self.items ++ xs) (low-bytes _ _ c.to_be_bytes-length.ensures))
    c.in_ok-extend_from_slice-3.ensures.items)

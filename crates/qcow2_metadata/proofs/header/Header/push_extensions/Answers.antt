use Rattle.std.proofs.Common.{◌≡◌, ◌++◌, ◌∙◌, refl, ap, replicate, List, ℕ, map}
use Rattle.std.specs.Prelude.{flat_map, Option}
use Rattle.std.specs.declared.alloc.Global.{Global}
use Rattle.std.proofs.Common.{Vec}
use Rattle.std.proofs.lemmas.Result.{IfOk-equal}
use Rattle.qcow2_types.specs.Header.{Header as HeaderRecord}
use Rattle.qcow2_types.specs.HeaderBytes.{extensions_bytes, extension_bytes, extension_of, names_data}
use Rattle.qcow2_metadata.specs.HeaderView.{seen_header}
use Rattle.qcow2_metadata.specs.Features.{seen_name}
use Rattle.qcow2_metadata.specs.declared.features.FeatureName.{FeatureName}
use Rattle.qcow2_metadata.proofs.Extending.{pushed-last, extensions-newer, extensions-older}
use Rattle.qcow2_metadata.proofs.header.Header.push_extensions.Goals as goal
use Rattle.qcow2_metadata.proofs.header.Header.push_extensions.Goals.{then-self-eq3+in_ok-push_text+in_ok-push_text-2+in_ok-push_names, else-self-eq3}

pub returns : goal.returns
returns c =
    let h : HeaderRecord = seen_header c.self.inside in
    let start : List ℕ = c.args.bytes.now.items in
    let same : seen_header c.self.inside ≡ c.args.self.now = c.self.view_is in
    let seen : c.if-self-eq3.bytes.items ++ replicate 8 0 ≡ c.args.bytes.now.items ++ extensions_bytes (seen_header c.self.inside) =
    elim c.if-self-eq3.branch [
      | then-self-eq3+in_ok-push_text+in_ok-push_text-2+in_ok-push_names w ↦
          extensions-newer h start _ _ _ w.if-self-eq3.true
          (w.in_ok-push_text.ensures ∙ ap (λ (text : Option (List ℕ)). c.args.bytes.now.items ++ flat_map extension_bytes (extension_of 0xE279_2ACA text)) w.as_deref.ensures.value)
          (w.in_ok-push_text-2.ensures ∙ ap (λ (text : Option (List ℕ)). w.push_text.new.bytes.items ++ flat_map extension_bytes (extension_of 0x4441_5441 text)) w.as_deref-then-self-eq3.ensures.value)
          (ap (λ (v : Vec ℕ Global). v.items) w.bytes-is ∙ (w.in_ok-push_names.ensures ∙ ap (λ (names : List FeatureName). w.push_text-then-self-eq3.new.bytes.items ++ flat_map extension_bytes (extension_of 0x6803_F857 (names_data (map seen_name names)))) w.deref.ensures.value))
      | else-self-eq3 w ↦ ap (λ (v : Vec ℕ Global). v.items ++ replicate 8 0) w.bytes-is ∙ extensions-older h start w.if-self-eq3.false
    ] in
    IfOk-equal c.extend_from_slice.result _ _ _ (pushed-last c.extend_from_slice.result _ _ _ (replicate 8 0) c.extend_from_slice.ensures.items refl) (seen ∙ ap (λ (r : HeaderRecord). c.args.bytes.now.items ++ extensions_bytes r) same)

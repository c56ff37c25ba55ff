use Rattle.std.proofs.Common.{◌≡◌, ◌≤◌, ◌<◌, ◌∙◌, ap, arith, length, refl, subst, sym, true≢false}
use Rattle.std.specs.Prelude.{All}
use Rattle.std.specs.String.{string_bytes}
use Rattle.std.proofs.lemmas.List.{get_or_default, take_all}
use Rattle.std.proofs.lemmas.List.Elements.{All-more}
use Rattle.std.proofs.lemmas.Slice.Eq.{bytes_eq-Decides}
use Rattle.qimg_chain.specs.Extras.{IsOther}
use Rattle.qimg_chain.proofs.TakingFiles.{takes}
use Rattle.qimg_chain.proofs.chain.extras.ExtrasImplicitOpenGate.open_storage.Goals as goal

pub returns-then-eq : goal.returns-then-eq
returns-then-eq g c =
    let inside : c.loop-i.i < length c.loop-i.self.files.items = rw (c.loop-i.invariant.0) (omega arith) in
    let same : c.index.result.now ≡ c.remove-name.result =
    c.index.ensures ∙ get_or_default c.loop-i.self.files.items c.loop-i.i c.index.result.now c.remove-name.result inside ∙ sym c.remove-name.ensures.value in
    let named : string_bytes c.remove-name.result.0 ≡ c.args.name.now =
    ap (λ f. string_bytes f.0) (sym same) ∙ sym c.as_str.ensures.value ∙ (bytes_eq-Decides c.as_str.result.now c.args.name.now).0 (sym c.if-eq.ensures) in
    rw (sym c.loop-i.invariant.0)
    (takes c.loop-i.self.files.items c.remove-name.new.self.items c.args.name.now c.loop-i.i c.remove-name.result inside
    c.remove-name.ensures.value named c.loop-i.invariant.1 c.remove-name.ensures.by_index.2)

pub loop-i-preserved : goal.loop-i-preserved
loop-i-preserved g c =
    let inside : c.loop-i.i < length c.loop-i.self.files.items = rw (c.loop-i.invariant.0) (omega arith) in (
      c.loop-i.invariant.0,
      All-more (IsOther c.args.name.now) c.loop-i.self.files.items c.loop-i.i c.index.result.now inside c.loop-i.invariant.1
          (λ is. true≢false (sym ((bytes_eq-Decides c.as_str.result.now c.args.name.now).1
          (c.as_str.ensures.value ∙ ap (λ f. string_bytes f.0) c.index.ensures ∙ is)) ∙ sym c.if-eq.ensures)),
    )

pub returns : goal.returns
returns g c =
    let past : length c.loop-i.self.files.items ≤ c.loop-i.i = rw (c.loop-i.invariant.0) (omega arith) in
    (refl, subst (All (IsOther c.args.name.now)) (take_all c.loop-i.i c.loop-i.self.files.items past ∙ c.loop-i.invariant.0) c.loop-i.invariant.1, c.loop-i.invariant.0)

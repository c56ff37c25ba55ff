use Rattle.std.proofs.Common.{◌≡◌, ap, ◌∙◌, refl, subst, ℕ, List, [], ◌∷◌, None}
use Rattle.std.specs.Prelude.{◌++◌}
use Rattle.imago_access.specs.declared.builders.FormatCreateBuilderBase.{FormatCreateBuilderBase}
use Rattle.imago_access.specs.declared.format.PreallocateMode.TheVariants as mode
use Rattle.imago_storage.specs.MemStorage.{mem_state}
use Rattle.imago_storage.specs.State.{StorageState}
use Rattle.imago_storage.specs.declared.memory.MemStorage.{MemStorage}
use Rattle.qcow2_metadata.specs.HeaderView.{seen_text}
use Rattle.qcow2_image.specs.Creating.{IsImageOf, Options, format_with, named, options_of}
use Rattle.qcow2_image.specs.declared.creating.Qcow2CreateBuilder.{Qcow2CreateBuilder}
use Rattle.qimg.proofs.files.new_files.Goals as goal

abbrev Builder : Type 0
Builder = Qcow2CreateBuilder MemStorage

only : {A : Type 0} (before after : List A) (value : A) → before ≡ [] → after ≡ before ++ value ∷ [] → after ≡ value ∷ []
only before after value none is = is ∙ ap (λ list. list ++ value ∷ []) none

-- The options of the new image.
abbrev small : Options
small = record { size = 65536; preallocate = mode.None; cluster_size = 512; refcount_width = 16; backing_name = None; backing_format = None }

-- The builder has these options.
options-small : (first sized last : Builder) (size : ℕ) → size ≡ 65536 → first.base.preallocate ≡ mode.None
    → (first.backing_name ≡ None) × (first.backing_format ≡ None) → (first.cluster_size ≡ 65_536) × (first.refcount_width ≡ 16)
    → sized ≡ record first { cluster_size = 512 } → last ≡ record sized { base = last.base } → last.base.size ≡ size
    → last.base.preallocate ≡ sized.base.preallocate → options_of last ≡ small
options-small first sized last size is mode-is backing sizes one two size-is way = λ i. record {
  size = (size-is ∙ is) i;
  preallocate = (way ∙ (ap (λ (b : Builder). b.base.preallocate) one ∙ mode-is)) i;
  cluster_size = (ap (λ (b : Builder). b.cluster_size) two ∙ ap (λ (b : Builder). b.cluster_size) one) i;
  refcount_width = (ap (λ (b : Builder). b.refcount_width) two ∙ (ap (λ (b : Builder). b.refcount_width) one ∙ sizes.1)) i;
  backing_name = named (seen_text (no-name i));
  backing_format = format_with (seen_text (no-name i)) (seen_text (no-format i));
} where
  no-name : last.backing_name ≡ None
  no-name = ap (λ (b : Builder). b.backing_name) two ∙ (ap (λ (b : Builder). b.backing_name) one ∙ backing.0)

  no-format : last.backing_format ≡ None
  no-format = ap (λ (b : Builder). b.backing_format) two ∙ (ap (λ (b : Builder). b.backing_format) one ∙ backing.1)

pub returns : goal.returns
returns c =
    let image = c.size-builder.ensures.storage ∙ (ap (λ (b : Builder). b.base.image) c.cluster_size.ensures
    ∙ ap (λ (b : FormatCreateBuilderBase MemStorage). b.image) c.create_builder.ensures.base) in
    let keeps = ap (λ (s : MemStorage). (mem_state s).shape.keeps) image ∙ ap (λ (s : StorageState). s.shape.keeps) c.new.ensures in
    let made = c.in-Ok.ensures.ok.image keeps in
    let asked = options-small c.create_builder.result c.cluster_size.result c.size-builder.result 65536 refl
    (ap (λ (b : FormatCreateBuilderBase MemStorage). b.preallocate) c.create_builder.ensures.base) c.create_builder.ensures.backing
    c.create_builder.ensures.sizes c.cluster_size.ensures c.size-builder.ensures.same c.size-builder.ensures.size
    c.size-builder.ensures.preallocate in
    record {
      new = (
        _,
        only _ _ _ c.new-files.ensures.items c.in_ok-push.ensures.items,
        refl,
        (made.0, subst (λ (o : Options). IsImageOf o (mem_state c.in-Ok.image).bytes made.0) asked made.1),
      );
    }

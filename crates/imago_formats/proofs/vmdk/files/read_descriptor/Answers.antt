use Rattle.std.proofs.Common.{◌≡◌, ◌∙◌, ap, subst, ◌≤◌, ◌<◌, ◌+◌, ◌⊎◌, ◌^◌, length, inl, inr, arith, List, ℕ, Result, Ok, IfOk, IfErr, Err, min}
use Rattle.std.proofs.lemmas.Bool.{cases_lt}
use Rattle.imago_storage.specs.declared.fault.Fault.{Fault}
use Rattle.imago_storage.specs.declared.fault.Fault.TheVariants.{Memory}
use Rattle.imago_formats.specs.Descriptor.{read_from, text_of, descriptor_of}
use Rattle.imago_formats.specs.DescriptorView.{kept_extents}
use Rattle.imago_formats.specs.declared.vmdk.descriptor.Extent.{Extent}
use Rattle.imago_formats.proofs.FileLemmas.{front_of_descriptor, not_read}
use Rattle.imago_formats.proofs.vmdk.files.read_descriptor.Goals as goal
use Rattle.imago_formats.proofs.vmdk.files.read_descriptor.Goals.{After-drop-bytes}
use Rattle.imago_formats.proofs.vmdk.files.read_descriptor.Given.{Over}

enough : (size n : ℕ) → n ≡ min size (2 ^ 20 + 1) → (size ≤ n) ⊎ (2 ^ 20 < n)
enough size n e = elim (cases_lt (2 ^ 20) size) [ inl long ↦ inr (omega arith) | inr short ↦ inl (omega arith) ]

-- The bytes that were read have the same meaning as the file.
said : (g : Over) (c : After-drop-bytes g) → read_from c.before_zero.result.now ≡ descriptor_of (g.S.Storage.state c.args.image.now).bytes
said g c =
    ap read_from (c.before_zero.ensures ∙ ap text_of c.deref.ensures.value)
    ∙ front_of_descriptor (g.S.Storage.state c.args.image.now).bytes c.in_ok-bytes.bytes.items c.in_ok-bytes.ensures.read
    (enough (length (g.S.Storage.state c.args.image.now).bytes) (length c.in_ok-bytes.bytes.items)
    (c.in_ok-bytes.ensures.size ∙ c.min-count.ensures ∙ ap (λ n. min n (2 ^ 20 + 1)) c.size.ensures.value))

pub returns-clause-ok : goal.returns-clause-ok
returns-clause-ok g c =
    subst (λ (d : Result (List (Extent (List ℕ))) Fault). IfOk c.read_text.result (λ x. d ≡ Ok (kept_extents x.extents.items))) (said g c) c.read_text.ensures.ok

pub returns-clause-err : goal.returns-clause-err
returns-clause-err g c =
    not_read c.read_text.result _ (g.S.Storage.state c.args.image.now) (g.S.Storage.state c.read_front.new.image) c.in_ok-bytes.ensures.faults
    (subst (λ (d : Result (List (Extent (List ℕ))) Fault). IfErr c.read_text.result (λ e. (e ≡ Memory) ⊎ (d ≡ Err e))) (said g c) c.read_text.ensures.err)

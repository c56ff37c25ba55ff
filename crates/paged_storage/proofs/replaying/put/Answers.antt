use Rattle.std.proofs.Common.{◌≡◌, ℕ, ◌+◌, List, length, max, replicate, subst, sym, ◌∙◌, ap, refl}
use Rattle.std.proofs.lemmas.Result.{IfOk-weaker}
use Rattle.imago_storage.specs.Log.{apply, splice}
use Rattle.imago_storage.specs.declared.log.Request.{Request}
use Rattle.imago_storage.proofs.Replay.{length-resized}
use Rattle.imago_storage.proofs.Zeroes.{length_of_zeroes}
use Rattle.host_file.specs.FileState.{IsChangedTo}
use Rattle.paged_storage.proofs.Putting.{put_size}
use Rattle.paged_storage.proofs.replaying.put.Goals as goal

pub returns-in-Write-clause-ok : goal.returns-in-Write-clause-ok
returns-in-Write-clause-ok g c =
    let old = g.H.HostFile.state c.args.file.now in
    let new = g.H.HostFile.state c.put_bytes.new.file in
    let bytes = c.in-Write.bytes.items in
    let same = c.deref.ensures.value in
    IfOk-weaker c.put_bytes.result _ _
    (λ n put truthful.
    let done = put truthful in
    let changed = subst (λ b. IsChangedTo (splice old.held c.in-Write.offset b) old new) same done.0 in
    let size = subst (λ b. n ≡ max c.args.size (c.in-Write.offset + length b)) same done.1 in (
      subst (λ (r : Request). IsChangedTo (apply r old.held) old new) (sym c.in-Write.is) changed,
      put_size old new c.args.size c.requires truthful c.in-Write.offset bytes (length bytes) n refl size changed,
    ))
    c.put_bytes.ensures.ok

pub returns-in-Zeroes-clause-ok : goal.returns-in-Zeroes-clause-ok
returns-in-Zeroes-clause-ok g c =
    let old = g.H.HostFile.state c.args.file.now in
    let new = g.H.HostFile.state c.put_zeroes.new.file in
    let count = c.in-Zeroes.length in
    IfOk-weaker c.put_zeroes.result _ _
    (λ n put truthful.
    let done = put truthful in (
      subst (λ (r : Request). IsChangedTo (apply r old.held) old new) (sym c.in-Zeroes.is) done.0,
      put_size old new c.args.size c.requires truthful c.in-Zeroes.offset (replicate count 0) count n (length_of_zeroes count) done.1 done.0,
    ))
    c.put_zeroes.ensures.ok

pub returns-in_ok-set_len-in-Resize-clause-ok : goal.returns-in_ok-set_len-in-Resize-clause-ok
returns-in_ok-set_len-in-Resize-clause-ok g c = λ truthful.
    let old = g.H.HostFile.state c.args.file.now in
    let new = g.H.HostFile.state c.set_len.new.self in
    let changed = c.in_ok-set_len-in-Resize.ensures.ok in (
      subst (λ (r : Request). IsChangedTo (apply r old.held) old new) (sym c.in-Resize.is) changed,
      sym (ap (λ (f : List ℕ). length f) changed.held ∙ length-resized old.held c.in-Resize.size),
    )

use Rattle.std.proofs.Common.{◌≡◌, ℕ, ◌+◌, length, max, replicate, arith, subst, sym}
use Rattle.std.specs.Prelude.{IsTrue}
use Rattle.imago_storage.specs.Log.{splice}
use Rattle.imago_storage.proofs.Zeroes.{length_of_zeroes}
use Rattle.host_file.specs.FileState.{IsChangedTo}
use Rattle.paged_storage.proofs.Putting.{put_none}
use Rattle.paged_storage.proofs.replaying.put_zeroes.Goals as goal
use Rattle.paged_storage.proofs.replaying.put_zeroes.Goals.{then-count-eq0+in_ok-set_len, else-count-eq0+in_ok-zero_at}

pub returns-clause-ok : goal.returns-clause-ok
returns-clause-ok g c = λ truthful.
    let state = g.H.HostFile.state in
    let count = c.args.count in
    let bytes = replicate {A = ℕ} count 0 in
    let long = length_of_zeroes count in
    let end : c.in-Some.end ≡ c.args.offset + count = c.in-Some.ensures.1 in
    let sized : c.max-2.result ≡ max c.args.size (c.args.offset + count) = omega arith in
    elim c.if-count-eq0.branch [
      | then-count-eq0+in_ok-set_len w ↦
          let none : length bytes ≡ 0 = omega (arith, long, w.if-count-eq0.true) in
          let after = subst (λ f. IsTrue (state f).truthful) w.file-is truthful in
          let put = put_none (state c.args.file.now) (state w.set_len.new.self) c.args.size c.requires after c.args.offset bytes w.max.result none (omega (arith, long)) w.in_ok-set_len.ensures.ok in
          (subst (λ f. IsChangedTo (splice (state c.args.file.now).held c.args.offset bytes) (state c.args.file.now) (state f)) (sym w.file-is) put, sized)
      | else-count-eq0+in_ok-zero_at w ↦
          (subst (λ f. IsChangedTo (splice (state c.args.file.now).held c.args.offset bytes) (state c.args.file.now) (state f)) (sym w.file-is) w.in_ok-zero_at.ensures.ok, sized)
    ]

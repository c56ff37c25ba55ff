use Rattle.std.proofs.Common.{◌≡◌, ◌+◌, length, max, arith, subst, sym}
use Rattle.std.specs.Prelude.{IsTrue}
use Rattle.std.proofs.lemmas.Bool.Decides.{nat_tests}
use Rattle.imago_storage.specs.Log.{splice}
use Rattle.host_file.specs.FileState.{IsChangedTo}
use Rattle.paged_storage.proofs.Putting.{put_none}
use Rattle.paged_storage.proofs.replaying.put_bytes.Goals as goal
use Rattle.paged_storage.proofs.replaying.put_bytes.Goals.{then-is_empty+in_ok-set_len, else-is_empty+in_ok-write_at}

pub returns-clause-ok : goal.returns-clause-ok
returns-clause-ok g c = λ truthful.
    let state = g.H.HostFile.state in
    let bytes = c.args.bytes.now in
    let end : c.in-Some.end ≡ c.args.offset + length bytes = c.in-Some.ensures.1 in
    let sized : c.max-2.result ≡ max c.args.size (c.args.offset + length bytes) = omega arith in
    elim c.if-is_empty.branch [
      | then-is_empty+in_ok-set_len w ↦
          let none : length bytes ≡ 0 = grind (arith, nat_tests) in
          let after = subst (λ f. IsTrue (state f).truthful) w.file-is truthful in
          let put = put_none (state c.args.file.now) (state w.set_len.new.self) c.args.size c.requires after c.args.offset bytes w.max.result none (omega arith) w.in_ok-set_len.ensures.ok in
          (subst (λ f. IsChangedTo (splice (state c.args.file.now).held c.args.offset bytes) (state c.args.file.now) (state f)) (sym w.file-is) put, sized)
      | else-is_empty+in_ok-write_at w ↦
          (subst (λ f. IsChangedTo (splice (state c.args.file.now).held c.args.offset bytes) (state c.args.file.now) (state f)) (sym w.file-is) w.in_ok-write_at.ensures.ok, sized)
    ]
